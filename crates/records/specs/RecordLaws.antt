-- Laws of reading RDATA, questions and records.
use Rattle.std.specs.Prelude.{◌≡◌, refl, Bool, true, false, ◌&&◌, cond, List, [], ◌∷◌, ◌++◌, ℕ, ◌+◌, ◌<◌, ◌≤◌, T, leb, ltb, eqb, length, drop}
use Rattle.std.proofs.Common.{sym, ◌∙◌, ap, ap₂, subst, append_assoc, append-nil, zero-add, arith, le-leb, le-ltb, ne_eqb, leb-true, ltb-false, eqb-true, ltb→lt, lt→ltb, length-append}
use Rattle.std.proofs.Math.Option.{Option, none, some, some-ne-none}
use Rattle.std.proofs.lemmas.Bool.{eqb-false}
use Rattle.std.proofs.Math.Seq.{drop-length}
use Rattle.octets.specs.Lists.{all, u8?, Octets, u16?, u32?}
use Rattle.octets.specs.Bits.{both, and_left, and_right, All-append, octets_in_lem, octets_test}
use Rattle.octets.specs.Fields.{be16, be32, be16_at, be32_at, drop_past, take-here, two_at, four_at, room-here}
use Rattle.octets.specs.Fields.{two_at_word}
use Rattle.octets.specs.Fields.{four_at_long, empty}
use Rattle.names.specs.Name.{Name, name_form, name?, short, surplus, Fault}
use Rattle.names.specs.Walk.{part, message, rdata, Named, named, faulty, name_from, name_at}
use Rattle.names.specs.NameLaws.{Sized, form_some, read_back, read_back_sized, read_sized, read_valid, read_form}
use Rattle.names.specs.NameLaws.{part-octets, part-long, drop-part}
use Rattle.names.specs.NameLaws as N
use Rattle.records.specs.Message.{Question, Record, question_form, record_form, question?, record?}
use Rattle.records.specs.Read.{Entry, entry, bad, first_cut, with_name_lem, with_fields_lem, filled, question_at, record_at}
use Rattle.records.specs.Layout.{Piece, fixed, name, layout_of, Laid, laid, misfit, before, pieces, rdata_at, laid?}
use Rattle.records.specs.Layout.{rdata_fits?}

-- ---- equal answers
-- the octets of an answer
abbrev octets_of : Laid → List ℕ
octets_of (laid d) = d
octets_of (misfit fault) = []

-- an answer without fault
abbrev Good : Laid → Type 0
Good (laid d) = Unit {0}
Good (misfit fault) = ⊥

-- equal answers have equal octets
pub laid_octets : {d e : List ℕ} → laid d ≡ laid e → d ≡ e
laid_octets e = ap octets_of e

-- a fault is no RDATA
pub misfit≢laid : {fault : Fault} {d : List ℕ} → misfit fault ≡ laid d → ⊥
misfit≢laid e = subst Good (sym e) tt

-- what octets were put before
before_back : (l : List ℕ) (w : Laid) (d : List ℕ) → before l w ≡ laid d → (m : List ℕ) × (w ≡ laid m) × (d ≡ l ++ m)
before_back l (laid m) d e = (m, refl, sym (laid_octets e))
before_back l (misfit fault) d e = absurd (misfit≢laid e)

-- an answer that passes the test has octets
laid_given : (w : Laid) → T (laid? w) → (d : List ℕ) × (w ≡ laid d)
laid_given (laid d) h = (d, refl)
laid_given (misfit fault) h = absurd h

-- ---- one piece
-- what is read at a layout's first piece
fixed_step : (jumps : Bool) (n : ℕ) (layout : List Piece) (s : List ℕ) (start end at : ℕ) → at + n ≤ end
    → pieces jumps (fixed n ∷ layout) s start end at ≡ before (part s at n) (pieces jumps layout s start end (at + n))
unfolding pieces
fixed_step jumps n layout s start end at h = rw (le-ltb end (at + n) h)

-- what is read at a name
name_step_lem : (jumps : Bool) (layout : List Piece) (s : List ℕ) (start end at : ℕ) (m : Name) (next : ℕ)
    → name_from s (rdata start end) (cond jumps at 0) at ≡ named m next
    → pieces jumps (name ∷ layout) s start end at ≡ before (name_form m) (pieces jumps layout s start end next)
unfolding pieces
name_step_lem jumps layout s start end at m next e = rw (e, pieces)

-- at the end of a layout RDATA has ended
end_back : (jumps : Bool) (s : List ℕ) (start end at : ℕ) (d : List ℕ) → pieces jumps [] s start end at ≡ laid d
    → (end ≤ at) × (d ≡ [])
unfolding pieces
end_back jumps s start end at d = go (ltb at end) refl
  where
    go : (b : Bool) → ltb at end ≡ b → cond b (misfit (record { kind = surplus; octet = at })) (laid []) ≡ laid d
        → (end ≤ at) × (d ≡ [])
    go true p e = absurd (misfit≢laid e)
    go false p e = (ltb-false at end p, sym (laid_octets e))

-- octets that were read are within RDATA, and the rest was read after them
fixed_back : (jumps : Bool) (n : ℕ) (layout : List Piece) (s : List ℕ) (start end at : ℕ) (d : List ℕ)
    → pieces jumps (fixed n ∷ layout) s start end at ≡ laid d
    → (at + n ≤ end) × ((m : List ℕ) × (pieces jumps layout s start end (at + n) ≡ laid m) × (d ≡ part s at n ++ m))
unfolding pieces
fixed_back jumps n layout s start end at d = go (ltb end (at + n)) refl (pieces jumps layout s start end (at + n))
  where
    go : (b : Bool) → ltb end (at + n) ≡ b → (w : Laid)
        → cond b (misfit (record { kind = short; octet = start })) (before (part s at n) w) ≡ laid d
        → (at + n ≤ end) × ((m : List ℕ) × (w ≡ laid m) × (d ≡ part s at n ++ m))
    go true p w e = absurd (misfit≢laid e)
    go false p w e = (ltb-false end (at + n) p, before_back (part s at n) w d e)

-- a name was read, and the rest after it
name_back : (jumps : Bool) (layout : List Piece) (s : List ℕ) (start end at : ℕ) (d : List ℕ)
    → pieces jumps (name ∷ layout) s start end at ≡ laid d
    → (labels : Name) × (next : ℕ) × (m : List ℕ)
    × (name_from s (rdata start end) (cond jumps at 0) at ≡ named labels next)
    × (pieces jumps layout s start end next ≡ laid m) × (d ≡ name_form labels ++ m)
unfolding pieces
name_back jumps layout s start end at d e = go (name_from s (rdata start end) (cond jumps at 0) at) refl
  where
    go : (w : Named) → name_from s (rdata start end) (cond jumps at 0) at ≡ w
        → (labels : Name) × (next : ℕ) × (m : List ℕ)
        × (name_from s (rdata start end) (cond jumps at 0) at ≡ named labels next)
        × (pieces jumps layout s start end next ≡ laid m) × (d ≡ name_form labels ++ m)
    go (named labels next) p =
        let (m, q, r) = before_back (name_form labels) (pieces jumps layout s start end next) d
        (sym (name_step_lem jumps layout s start end at labels next p) ∙ e) in
        (labels, next, m, p, q, r)
    go (faulty fault) p = absurd (misfit≢laid {fault = fault} {d = d} (rw (p, pieces) at e))

-- ---- octets of a layout: forms of names, and as many octets as the layout says
-- octets that a layout describes
abbrev pub Fills : List Piece → List ℕ → Type 0
Fills [] d = d ≡ []
Fills (fixed n ∷ layout) d = (a : List ℕ) × (b : List ℕ) × (length a ≡ n) × Fills layout b × (d ≡ a ++ b)
Fills (name ∷ layout) d = (m : Name) × (b : List ℕ) × Sized m × (length (name_form m) ≤ 255) × Fills layout b
    × (d ≡ name_form m ++ b)

-- what is read is of that kind
pub pieces_fill : (jumps : Bool) (layout : List Piece) (s : List ℕ) (start end at : ℕ) (d : List ℕ) → end ≤ length s
    → pieces jumps layout s start end at ≡ laid d → Fills layout d
pieces_fill jumps [] s start end at d h e = (end_back jumps s start end at d e).1
pieces_fill jumps (fixed n ∷ layout) s start end at d h e =
    let (p, (m, q, r)) = fixed_back jumps n layout s start end at d e in
    (part s at n, m, part-long s at n (omega arith), pieces_fill jumps layout s start end (at + n) m h q, r)
pieces_fill jumps (name ∷ layout) s start end at d h e =
    let (labels, next, m, p, q, r) = name_back jumps layout s start end at d e in
    let w = read_sized s (rdata start end) (cond jumps at 0) at labels next h p in
    (labels, m, w.0, w.1, pieces_fill jumps layout s start end next m h q, r)

-- what is read from octets is octets
pieces-octets : (jumps : Bool) (layout : List Piece) (s : List ℕ) (start end at : ℕ) (d : List ℕ) → Octets s
    → end ≤ length s
    → pieces jumps layout s start end at ≡ laid d → Octets d
pieces-octets jumps [] s start end at d o h e = rw (end_back jumps s start end at d e).1 tt
pieces-octets jumps (fixed n ∷ layout) s start end at d o h e =
    let (p, (m, q, r)) = fixed_back jumps n layout s start end at d e in
    rw r (All-append (λ x. x < 256) (part s at n) m (part-octets s at n o)
    (pieces-octets jumps layout s start end (at + n) m o h q))
pieces-octets jumps (name ∷ layout) s start end at d o h e =
    let (labels, next, m, p, q, r) = name_back jumps layout s start end at d e in
    let w = read_valid s (rdata start end) (cond jumps at 0) at labels next o h p in
    rw r (All-append (λ x. x < 256) (name_form labels) m (N.form-octets labels w.0)
    (pieces-octets jumps layout s start end next m o h q))

-- octets of a layout are read as themselves wherever they are
pub pieces_same : (jumps : Bool) (layout : List Piece) (s r : List ℕ) (start end at : ℕ) (d : List ℕ) → Fills layout d
    → drop at s ≡ d ++ r → at + length d ≡ end
    → pieces jumps layout s start end at ≡ laid d
unfolding pieces
pieces_same jumps [] s r start end at d f e h =
    let z : length d ≡ 0 = ap length f in
    rw (le-ltb at end (omega arith)) (ap laid (sym f))
pieces_same jumps (fixed n ∷ layout) s r start end at d (a, b, p, g, q) e h =
    let long : length d ≡ length a + length b = ap length q ∙ length-append a b in
    let here : drop at s ≡ a ++ (b ++ r) = e ∙ ap (λ (l : List ℕ). l ++ r) q ∙ append_assoc a b r in
    let first : part s at n ≡ a = ap (part s at) (sym p) ∙ take-here s a (b ++ r) at here in
    let after : drop (at + n) s ≡ b ++ r = ap (λ (i : ℕ). drop (at + i) s) (sym p) ∙ drop_past s a (b ++ r) at here in
    fixed_step jumps n layout s start end at (omega arith)
    ∙ ap₂ before first (pieces_same jumps layout s r start end (at + n) b g after (omega arith))
    ∙ ap laid (sym q)
pieces_same jumps (name ∷ layout) s r start end at d (m, b, z, k, g, q) e h =
    let long : length d ≡ length (name_form m) + length b = ap length q ∙ length-append (name_form m) b in
    let here : drop at s ≡ name_form m ++ (b ++ r) = e ∙ ap (λ (l : List ℕ). l ++ r) q ∙ append_assoc (name_form m) b r in
    let next = at + length (name_form m) in
    name_step_lem jumps layout s start end at m next
    (read_back_sized s (b ++ r) (rdata start end) (cond jumps at 0) at m z k here (omega arith))
    ∙ ap (before (name_form m))
    (pieces_same jumps layout s r start end next b g (drop_past s (name_form m) (b ++ r) at here) (omega arith))
    ∙ ap laid (sym q)

-- with no pointer allowed, what is read is what is there
pub pieces_whole : (layout : List Piece) (s : List ℕ) (start end at : ℕ) (d : List ℕ) → end ≤ length s → at ≤ end
    → pieces false layout s start end at ≡ laid d → drop at s ≡ d ++ drop end s
pieces_whole [] s start end at d h k e =
    let (p, q) = end_back false s start end at d e in
    let same : at ≡ end = omega arith in
    ap (λ (i : ℕ). drop i s) same ∙ ap (λ (l : List ℕ). l ++ drop end s) (sym q)
pieces_whole (fixed n ∷ layout) s start end at d h k e =
    let (p, (m, q, r)) = fixed_back false n layout s start end at d e in
    drop-part s at n
    ∙ ap (λ (l : List ℕ). part s at n ++ l) (pieces_whole layout s start end (at + n) m h p q)
    ∙ sym (append_assoc (part s at n) m (drop end s))
    ∙ ap (λ (l : List ℕ). l ++ drop end s) (sym r)
pieces_whole (name ∷ layout) s start end at d h k e =
    let (labels, next, m, p, q, r) = name_back false layout s start end at d e in
    let w = read_sized s (rdata start end) 0 at labels next h p in
    (read_form s (rdata start end) at labels next h p).0
    ∙ ap (λ (l : List ℕ). name_form labels ++ l) (pieces_whole layout s start end next m h w.3 q)
    ∙ sym (append_assoc (name_form labels) m (drop end s))
    ∙ ap (λ (l : List ℕ). l ++ drop end s) (sym r)

-- ---- RDATA
-- RDATA of no octets
rdata_empty : (jumps : Bool) (s : List ℕ) (type at size : ℕ) → size ≡ 0 → rdata_at jumps s type at size ≡ laid []
unfolding rdata_at
rdata_empty jumps s type at size h = rw h

-- RDATA of a type that is not listed
rdata_free : (jumps : Bool) (s : List ℕ) (type at size : ℕ) → (size ≡ 0 → ⊥) → layout_of type ≡ none
    → rdata_at jumps s type at size ≡ laid (part s at size)
unfolding rdata_at
rdata_free jumps s type at size h e = rw (ne_eqb size 0 h, e, rdata_at)

-- RDATA of a listed type
rdata_listed : (jumps : Bool) (s : List ℕ) (type at size : ℕ) (layout : List Piece) → (size ≡ 0 → ⊥)
    → layout_of type ≡ some layout
    → rdata_at jumps s type at size ≡ pieces jumps layout s at (at + size) at
unfolding rdata_at
rdata_listed jumps s type at size layout h e = rw (ne_eqb size 0 h, e, rdata_at)

-- RDATA that fits, read in place, is itself
pub rdata_back : (jumps : Bool) (s r : List ℕ) (type at : ℕ) (d : List ℕ) → T (rdata_fits? type d) → drop at s ≡ d ++ r
    → rdata_at jumps s type at (length d) ≡ laid d
unfolding rdata_fits?
rdata_back jumps s r type at d h e = go (eqb (length d) 0) refl (layout_of type) refl
  where
    go : (b : Bool) → eqb (length d) 0 ≡ b → (o : Option (List Piece)) → layout_of type ≡ o
        → rdata_at jumps s type at (length d) ≡ laid d
    go true p o q = let z = eqb-true (length d) 0 p in rdata_empty jumps s type at (length d) z
        ∙ ap laid (sym (empty d z))
    go false p none q = rdata_free jumps s type at (length d) (eqb-false (length d) 0 p) q
        ∙ ap laid (take-here s d r at e)
    go false p (some layout) q =
        let z = eqb-false (length d) 0 p in
        let (m, l) = laid_given (rdata_at false d type 0 (length d)) h in
        let l' = sym (rdata_listed false d type 0 (length d) layout z q) ∙ l in
        let all : drop 0 d ≡ m ++ drop (0 + length d) d =
        pieces_whole layout d 0 (0 + length d) 0 m (omega arith) (omega arith) l' in
        let same : d ≡ m = all ∙ ap (λ (i : ℕ). m ++ drop i d) (zero-add (length d))
        ∙ ap (λ (n : List ℕ). m ++ n) (drop-length d) ∙ append-nil m in
        let f = subst (Fills layout) (sym same) (pieces_fill false layout d 0 (0 + length d) 0 m (omega arith) l') in
        rdata_listed jumps s type at (length d) layout z q
        ∙ pieces_same jumps layout s r at (at + length d) at d f e refl

-- an answer with octets passes the test
laid_test : {w : Laid} {d : List ℕ} → w ≡ laid d → T (laid? w)
laid_test e = subst (λ (w : Laid). T (laid? w)) (sym e) tt

-- RDATA that is read fits; from octets it is octets
pub rdata_fits_lem : (jumps : Bool) (s : List ℕ) (type at size : ℕ) (d : List ℕ) → Octets s → at + size ≤ length s
    → rdata_at jumps s type at size ≡ laid d
    → T (rdata_fits? type d) × Octets d
unfolding rdata_fits?
rdata_fits_lem jumps s type at size d o h e = go (eqb size 0) refl (layout_of type) refl (eqb (length d) 0) refl
  where
    -- RDATA of no octets fits
    none_fits : length d ≡ 0 → T (laid? (rdata_at false d type 0 (length d)))
    none_fits z = laid_test (rdata_empty false d type 0 (length d) z)

    go : (b : Bool) → eqb size 0 ≡ b → (l : Option (List Piece)) → layout_of type ≡ l → (c : Bool) → eqb (length d) 0 ≡ c
        → T (laid? (rdata_at false d type 0 (length d))) × Octets d
    go true p l q c r =
        let same : d ≡ [] = laid_octets (sym e ∙ rdata_empty jumps s type at size (eqb-true size 0 p)) in
        (none_fits (ap length same), rw same tt)
    go false p none q c r =
        let same : d ≡ part s at size = laid_octets (sym e ∙ rdata_free jumps s type at size (eqb-false size 0 p) q) in
        (free c r, rw same (part-octets s at size o))
      where
        free : (c : Bool) → eqb (length d) 0 ≡ c → T (laid? (rdata_at false d type 0 (length d)))
        free true r = none_fits (eqb-true (length d) 0 r)
        free false r = laid_test (rdata_free false d type 0 (length d) (eqb-false (length d) 0 r) q)
    go false p (some layout) q true r =
        let l = sym (rdata_listed jumps s type at size layout (eqb-false size 0 p) q) ∙ e in
        (none_fits (eqb-true (length d) 0 r), pieces-octets jumps layout s at (at + size) at d o h l)
    go false p (some layout) q false r =
        let l = sym (rdata_listed jumps s type at size layout (eqb-false size 0 p) q) ∙ e in
        let f = pieces_fill jumps layout s at (at + size) at d h l in
        let same = pieces_same false layout d [] 0 (0 + length d) 0 d f (sym (append-nil d)) refl in (
          laid_test (rdata_listed false d type 0 (length d) layout (eqb-false (length d) 0 r) q ∙ same),
          pieces-octets jumps layout s at (at + size) at d o h l,
        )

-- ---- fields after a name
-- the sum of the widths
abbrev pub sum : List ℕ → ℕ
sum [] = 0
sum (width ∷ widths) = width + sum widths

-- fields that end within the message fit
fields_fit : (s : List ℕ) (at : ℕ) (widths : List ℕ) → at + sum widths ≤ length s → first_cut s at widths ≡ none
unfolding first_cut
fields_fit s at [] h = refl
fields_fit s at (width ∷ widths) h =
    rw (le-leb (at + width) (length s) (omega arith)) (fields_fit s (at + width) widths (omega arith))

-- fields that fit end within the message
pub fields-room : (s : List ℕ) (at : ℕ) (widths : List ℕ) → at ≤ length s → first_cut s at widths ≡ none
    → at + sum widths ≤ length s
unfolding first_cut
fields-room s at [] h e = omega arith
fields-room s at (width ∷ widths) h e = let k =
    go (leb (at + width) (length s)) refl (fields-room s (at + width) widths) e in omega arith
  where
    go : (b : Bool) → leb (at + width) (length s) ≡ b
        → (at + width ≤ length s → first_cut s (at + width) widths ≡ none → at + width + sum widths ≤ length s)
        → cond b (first_cut s (at + width) widths) (some at) ≡ none → at + width + sum widths ≤ length s
    go true p f e = f (leb-true (at + width) (length s) p) e
    go false p f e = absurd (some-ne-none at e)

-- ---- questions
module _ {A : Type 0} where
  -- an answer without fault
  abbrev Entered : Entry A → Type 0
  Entered (entry a next) = Unit {0}
  Entered (bad fault) = ⊥

  -- the entry of an answer
  abbrev entry_of : A → Entry A → A
  entry_of d (entry a next) = a
  entry_of d (bad fault) = d

  -- the offset of an answer
  abbrev behind : Entry A → ℕ
  behind (entry a next) = next
  behind (bad fault) = 0

  -- equal answers have equal parts
  pub bad≢entry : {fault : Fault} {a : A} {i : ℕ} → bad fault ≡ entry a i → ⊥
  bad≢entry e = subst Entered (sym e) tt

  -- equal answers have equal entries
  pub entry_value : {a b : A} {i j : ℕ} → entry a i ≡ entry b j → a ≡ b
  entry_value {a} e = ap (entry_of a) e

  -- equal answers have equal offsets
  pub entry_next : {a b : A} {i j : ℕ} → entry a i ≡ entry b j → i ≡ j
  entry_next e = ap behind e

  -- what comes after a name that was read, and after fields that fit
  pub with_name_back : (w : Named) (f : Name → ℕ → Entry A) (a : A) (i : ℕ) → with_name_lem w f ≡ entry a i
      → (n : Name) × (next : ℕ) × (w ≡ named n next) × (f n next ≡ entry a i)
  with_name_back (named n next) f a i e = (n, next, refl, e)
  with_name_back (faulty fault) f a i e = absurd (bad≢entry e)

  -- fields before an entry that was read fit
  pub with_fields_back : (o : Option ℕ) (w : Entry A) (a : A) (i : ℕ) → with_fields_lem o w ≡ entry a i
      → (o ≡ none) × (w ≡ entry a i)
  with_fields_back none w a i e = (refl, e)
  with_fields_back (some at) w a i e = absurd (bad≢entry e)

-- the parts of a valid question
pub question_parts : (q : Question) → T (question? q) → T (name? q.name) × (q.type < 65536) × (q.class < 65536)
unfolding question?
question_parts q h =
    let k = and_left (name? q.name && u16? q.type) (u16? q.class) h in (
      and_left (name? q.name) (u16? q.type) k,
      ltb→lt q.type 65536 (and_right (name? q.name) (u16? q.type) k),
      ltb→lt q.class 65536 (and_right (name? q.name && u16? q.type) (u16? q.class) h),
    )

-- a question of valid parts is valid
question_made : (q : Question) → T (name? q.name) → q.type < 65536 → q.class < 65536 → T (question? q)
unfolding question?
question_made q a b c =
    both (name? q.name && u16? q.type) (u16? q.class)
    (both (name? q.name) (u16? q.type) a (lt→ltb q.type 65536 b)) (lt→ltb q.class 65536 c)

-- where a valid question's form is, that question is read
pub question_back : (s r : List ℕ) (at : ℕ) (q : Question) → T (question? q) → drop at s ≡ question_form q ++ r
    → question_at s at ≡ entry q (at + length (question_form q))
unfolding question_at question_form
question_back s r at q h e =
    let (v, t, c) = question_parts q h in
    let n = name_form q.name in
    let next = at + length n in
    let here : drop at s ≡ n ++ (be16 q.type ++ (be16 q.class ++ r)) =
    e ∙ append_assoc (n ++ be16 q.type) (be16 q.class) r
    ∙ append_assoc n (be16 q.type) (be16 q.class ++ r) in
    let some = form_some q.name in
    let room = room-here s n _ at here (omega arith) in
    let first : drop next s ≡ be16 q.type ++ (be16 q.class ++ r) = drop_past s n _ at here in
    let second : drop (next + 2) s ≡ be16 q.class ++ r = drop_past s (be16 q.type) _ next first in
    let room' = room-here s (be16 q.class) r (next + 2) second (omega arith) in
    let long = length-append (n ++ be16 q.type) (be16 q.class) in
    let long' = length-append n (be16 q.type) in
    let place : next + 4 ≡ at + length (n ++ be16 q.type ++ be16 q.class) = omega arith in
    rw (
      read_back s _ message at at q.name v here room,
      fields_fit s next (2 ∷ 2 ∷ []) (omega arith),
      two_at s _ next q.type t first,
      two_at s _ (next + 2) q.class c second,
    )
    (ap (entry q) place)

-- a question that is read is valid, and ends after its start and within the message
pub question_read_lem : (s : List ℕ) (at : ℕ) (q : Question) (next : ℕ) → Octets s → question_at s at ≡ entry q next
    → T (question? q) × (at < next) × (next ≤ length s)
unfolding question_at
question_read_lem s at q next o e =
    let (n, i, p, f) = with_name_back (name_at s message at) _ q next e in
    let (v, a, b) = read_valid s message at at n i o (omega arith) p in
    let (u, g) = with_fields_back (first_cut s i (2 ∷ 2 ∷ [])) _ q next f in
    let room = fields-room s i (2 ∷ 2 ∷ []) b u in
    let same = entry_next g in (
      subst (λ (k : Question). T (question? k)) (entry_value g)
          (question_made _ v (two_at_word s o i) (two_at_word s o (i + 2))),
      omega arith,
      omega arith,
    )

-- ---- records
-- the parts of a valid record
pub record_parts : (r : Record) → T (record? r)
    → T (name? r.name) × (r.type < 65536) × (r.class < 65536) × (r.ttl < 4294967296) × Octets r.rdata
    × T (rdata_fits? r.type r.rdata)
unfolding record?
record_parts r h =
    let a = name? r.name in
    let b = u16? r.type in
    let c = u16? r.class in
    let d = u32? r.ttl in
    let f = all u8? r.rdata in
    let g = rdata_fits? r.type r.rdata in
    let h₄ = and_left (a && b && c && d && f) g h in
    let h₃ = and_left (a && b && c && d) f h₄ in
    let h₂ = and_left (a && b && c) d h₃ in
    let h₁ = and_left (a && b) c h₂ in (
      and_left a b h₁,
      ltb→lt r.type 65536 (and_right a b h₁),
      ltb→lt r.class 65536 (and_right (a && b) c h₂),
      ltb→lt r.ttl 4294967296 (and_right (a && b && c) d h₃),
      octets_in_lem r.rdata (and_right (a && b && c && d) f h₄),
      and_right (a && b && c && d && f) g h,
    )

-- a record of valid parts is valid
record_made : (r : Record) → T (name? r.name) → r.type < 65536 → r.class < 65536 → r.ttl < 4294967296
    → Octets r.rdata → T (rdata_fits? r.type r.rdata)
    → T (record? r)
unfolding record?
record_made r v t c l o z =
    let a = name? r.name in
    let b = u16? r.type in
    let d = u16? r.class in
    let f = u32? r.ttl in
    let g = all u8? r.rdata in
    let i = rdata_fits? r.type r.rdata in
    both (a && b && d && f && g) i
    (both (a && b && d && f) g
    (both (a && b && d) f (both (a && b) d (both a b v (lt→ltb r.type 65536 t)) (lt→ltb r.class 65536 c))
    (lt→ltb r.ttl 4294967296 l))
    (octets_test r.rdata o))
    z

-- the length of a record's form
pub record_long : (r : Record) → length (record_form r) ≡ length (name_form r.name) + 10 + length r.rdata
unfolding record_form
record_long r =
    let n = name_form r.name in
    let l = length r.rdata in
    let a = length-append n (be16 r.type) in
    let b = length-append (n ++ be16 r.type) (be16 r.class) in
    let c = length-append (n ++ be16 r.type ++ be16 r.class) (be32 r.ttl) in
    let d = length-append (n ++ be16 r.type ++ be16 r.class ++ be32 r.ttl) (be16 l) in
    let f = length-append (n ++ be16 r.type ++ be16 r.class ++ be32 r.ttl ++ be16 l) r.rdata in
    omega arith

-- where a valid record's form is, that record is read
pub record_back : (s r : List ℕ) (at : ℕ) (q : Record) → T (record? q) → length q.rdata < 65536
    → drop at s ≡ record_form q ++ r
    → record_at s at ≡ entry q (at + length (record_form q))
unfolding record_at record_form
record_back s r at q h small e =
    let (v, t, c, l, o, z) = record_parts q h in
    let n = name_form q.name in
    let next = at + length n in
    let d = q.rdata in
    let a₁ = be16 q.type in
    let a₂ = be16 q.class in
    let a₃ = be32 q.ttl in
    let a₄ = be16 (length d) in
    let here : drop at s ≡ n ++ (a₁ ++ (a₂ ++ (a₃ ++ (a₄ ++ (d ++ r))))) =
    e ∙ append_assoc (n ++ a₁ ++ a₂ ++ a₃ ++ a₄) d r ∙ append_assoc (n ++ a₁ ++ a₂ ++ a₃) a₄ (d ++ r)
    ∙ append_assoc (n ++ a₁ ++ a₂) a₃ (a₄ ++ (d ++ r))
    ∙ append_assoc (n ++ a₁) a₂ (a₃ ++ (a₄ ++ (d ++ r))) ∙ append_assoc n a₁ (a₂ ++ (a₃ ++ (a₄ ++ (d ++ r)))) in
    let some = form_some q.name in
    let room = room-here s n _ at here (omega arith) in
    let p₄ : next + 2 + 2 ≡ next + 4 = omega arith in
    let p₈ : next + 4 + 4 ≡ next + 8 = omega arith in
    let p₁₀ : next + 8 + 2 ≡ next + 10 = omega arith in
    let e₁ : drop next s ≡ a₁ ++ (a₂ ++ (a₃ ++ (a₄ ++ (d ++ r)))) = drop_past s n _ at here in
    let e₂ : drop (next + 2) s ≡ a₂ ++ (a₃ ++ (a₄ ++ (d ++ r))) = drop_past s a₁ _ next e₁ in
    let e₃ : drop (next + 4) s ≡ a₃ ++ (a₄ ++ (d ++ r)) = ap (λ (i : ℕ). drop i s) (sym p₄)
    ∙ drop_past s a₂ _ (next + 2) e₂ in
    let e₄ : drop (next + 8) s ≡ a₄ ++ (d ++ r) = ap (λ (i : ℕ). drop i s) (sym p₈) ∙ drop_past s a₃ _ (next + 4) e₃ in
    let e₅ : drop (next + 10) s ≡ d ++ r = ap (λ (i : ℕ). drop i s) (sym p₁₀) ∙ drop_past s a₄ _ (next + 8) e₄ in
    let room₄ = room-here s a₄ (d ++ r) (next + 8) e₄ (omega arith) in
    let room₅ : next + 10 + length d ≤ length s =
    omega (arith, room-here s (a₄ ++ d) r (next + 8) (e₄ ∙ sym (append_assoc a₄ d r)) (omega arith)) in
    let place : next + 10 + length d ≡ at + length (record_form q) = let f = record_long q in omega arith in
    let f₁ = two_at s _ next q.type t e₁ in
    let f₄ = two_at s _ (next + 8) (length d) small e₄ in
    let inside : rdata_at true s (be16_at s next) (next + 10) (be16_at s (next + 8)) ≡ laid d =
    rw (f₁, f₄) (rdata_back true s r q.type (next + 10) d z e₅) in
    rw (
      read_back s _ message at at q.name v here room,
      fields_fit s next (2 ∷ 2 ∷ 4 ∷ 2 ∷ []) (omega arith),
      le-ltb (length s) (next + 10 + be16_at s (next + 8)) (omega arith),
      inside,
      record_at,
      f₁,
      two_at s _ (next + 2) q.class c e₂,
      four_at s _ (next + 4) q.ttl l e₃,
      f₄,
    )
    (ap (entry q) place)

-- a record that was read has RDATA that was read
pub filled_back : (f : List ℕ → Record) (next : ℕ) (w : Laid) (q : Record) (i : ℕ) → filled f next w ≡ entry q i
    → (d : List ℕ) × (w ≡ laid d) × (f d ≡ q) × (next ≡ i)
filled_back f next (laid d) q i e = (d, refl, entry_value e, entry_next e)
filled_back f next (misfit fault) q i e = absurd (bad≢entry e)

-- RDATA of a record that was read is within the message
pub room_back : (s : List ℕ) (next : ℕ) (fault : Fault) (w : Entry Record) (q : Record) (i : ℕ)
    → cond (ltb (length s) next) (bad fault) w ≡ entry q i → (next ≤ length s) × (w ≡ entry q i)
room_back s next fault w q i = go (ltb (length s) next) refl
  where
    go : (b : Bool) → ltb (length s) next ≡ b → cond b (bad fault) w ≡ entry q i → (next ≤ length s) × (w ≡ entry q i)
    go true p e = absurd (bad≢entry e)
    go false p e = (ltb-false (length s) next p, e)

-- a record that is read is valid, and ends after its start and within the message
pub record_read_lem : (s : List ℕ) (at : ℕ) (q : Record) (next : ℕ) → Octets s → record_at s at ≡ entry q next
    → T (record? q) × (at < next) × (next ≤ length s)
unfolding record_at
record_read_lem s at q next o e =
    let (n, i, p, f) = with_name_back (name_at s message at) _ q next e in
    let (v, a, b) = read_valid s message at at n i o (omega arith) p in
    let (u, g) = with_fields_back (first_cut s i (2 ∷ 2 ∷ 4 ∷ 2 ∷ [])) _ q next f in
    let size = be16_at s (i + 8) in
    let made : List ℕ → Record =
    λ d. record { name = n; type = be16_at s i; class = be16_at s (i + 2); ttl = be32_at s (i + 4); rdata = d } in
    let (room, k) = room_back s (i + 10 + size) _ _ q next g in
    let w = rdata_at true s (be16_at s i) (i + 10) size in
    let (d, l, same, place) = filled_back made (i + 10 + size) w q next k in
    let (z, c) = rdata_fits_lem true s (be16_at s i) (i + 10) size d o room l in (
      subst (λ (r : Record). T (record? r)) same
          (record_made (made d) v (two_at_word s o i) (two_at_word s o (i + 2)) (four_at_long s o (i + 4)) c z),
      omega arith,
      omega arith,
    )
