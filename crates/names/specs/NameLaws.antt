-- Laws of reading a name.
use Rattle.std.specs.Prelude.{◌≡◌, Bool, true, false, ◌&&◌, cond, List, [], ◌∷◌, ◌++◌, T, leb, ltb, eqb, length, get_or, take, drop}
use Rattle.std.proofs.Math.Path.{refl}
use Rattle.std.proofs.Common.{sym, ◌∙◌, ap, ap₂, subst, append_assoc, arith, le-leb, le-ltb, ne_eqb, leb-true, leb-false, ltb-false, eqb-true, leb→le, le→leb, ltb→lt, length-append, length-drop, take-append-drop, drop-drop, length-take-le}
use Prim.Native.Nat.{ℕ, zero, suc, ◌+◌, ◌-◌, ◌<◌, ◌≤◌}
use Rattle.std.proofs.lemmas.Bool.{lt-leb, eqb-false}
use Rattle.octets.specs.Lists.{all, All, u8?, Octets}
use Rattle.octets.specs.Bits.{both, and_left, and_right, All-append, octets_in_lem, octets_test}
use Rattle.octets.specs.Fields.{drop_past, take-here, get_d_here, drop_one}
use Rattle.names.specs.Name.{Name, name_form, label?, name?, reserved, target, long, Fault}
use Rattle.names.specs.Walk.{part, Limit, message, end_of, past, Named, named, faulty, labelled, resumed, target_at}
use Rattle.names.specs.Walk.{allowed?, walk, name_from}

-- ---- equal answers
-- the name of an answer
abbrev name_of : Name → Named → Name
name_of d (named n next) = n
name_of d (faulty fault) = d

-- the offset of an answer
abbrev next_of : Named → ℕ
next_of (named n next) = next
next_of (faulty fault) = 0

-- an answer without fault
abbrev Good : Named → Type 0
Good (named n next) = Unit {0}
Good (faulty fault) = ⊥

-- equal answers have equal names
pub named-name : {m n : Name} {i j : ℕ} → named m i ≡ named n j → m ≡ n
named-name {m} e = ap (name_of m) e

-- equal answers have equal offsets
pub named_next : {m n : Name} {i j : ℕ} → named m i ≡ named n j → i ≡ j
named_next e = ap next_of e

-- a fault is no name
pub faulty≢named : {fault : Fault} {n : Name} {i : ℕ} → faulty fault ≡ named n i → ⊥
faulty≢named e = subst Good (sym e) tt

-- the answer after a label
labelled_back : (l : List ℕ) (w : Named) (n : Name) (next : ℕ) → labelled l w ≡ named n next
    → (m : Name) × (w ≡ named m next) × (l ∷ m ≡ n)
labelled_back l (named m i) n next e = (m, ap (named m) (named_next e), named-name e)
labelled_back l (faulty fault) n next e = absurd (faulty≢named e)

-- the answer after a pointer
resumed_back : (here : ℕ) (w : Named) (n : Name) (next : ℕ) → resumed here w ≡ named n next
    → (other : ℕ) × (w ≡ named n other) × (here ≡ next)
resumed_back here (named m i) n next e = (i, ap (λ (k : Name). named k i) (named-name e), named_next e)
resumed_back here (faulty fault) n next e = absurd (faulty≢named e)

-- a number other than 0 is at least 1
positive : (x : ℕ) → (x ≡ 0 → ⊥) → 1 ≤ x
positive zero h = absurd (h refl)
positive (suc x) h = omega arith

-- ---- induction over what is read without fault: the root octet, a label, a pointer
module _ (s : List ℕ) (P : Limit → ℕ → ℕ → ℕ → Name → ℕ → Type 0) where
  -- what is to be shown at the root octet
  abbrev pub Root : Type 0
  Root = (limit : Limit) (run total at : ℕ) → at < end_of s limit → get_or s at 0 ≡ 0 → P limit run total at [] (at + 1)

  -- at a label
  abbrev pub Label : Type 0
  Label =
      (limit : Limit) (run total at x : ℕ) → x ≡ get_or s at 0 → 1 ≤ x → x ≤ 63 → at + (x + 1) ≤ end_of s limit
      → total + (x + 1) + 1 ≤ 255
      → (n : Name) (next : ℕ) → P limit run (total + (x + 1)) (at + (x + 1)) n next
      → P limit run total at (part s (at + 1) x ∷ n) next

  -- at a pointer
  abbrev pub Jump : Type 0
  Jump =
      (limit : Limit) (run total at goal : ℕ) → at + 1 < end_of s limit → goal < run
      → (n : Name) (next : ℕ) → P message goal total goal n next → P limit run total at n (at + 2)

  module _ (root : Root) (label : Label) (jump : Jump) where
    -- one step, by the answers of its tests
    by_tests : (limit : Limit) (run total at : ℕ) (n : Name) (next : ℕ) (here there : Named)
        → ((m : Name) (i : ℕ) → here ≡ named m i → P limit run (total + (get_or s at 0 + 1)) (at + (get_or s at 0 + 1)) m i)
        → ((m : Name) (i : ℕ) → there ≡ named m i → P message (target_at s at) total (target_at s at) m i)
        → (b c d f g h i : Bool)
        → leb (end_of s limit) at ≡ b → eqb (get_or s at 0) 0 ≡ c → leb (get_or s at 0) 63 ≡ d
        → ltb (end_of s limit) (at + (get_or s at 0 + 1)) ≡ f
        → ltb 255 (total + (get_or s at 0 + 1) + 1) ≡ g → leb (end_of s limit) (at + 1) ≡ h
        → allowed? run (target_at s at) ≡ i
        → (j : Bool)
        → cond b (faulty (past limit at))
        (cond c (named [] (at + 1))
        (cond d
        (cond f (faulty (past limit at))
        (cond g (faulty (record { kind = long; octet = at })) (labelled (part s (at + 1) (get_or s at 0)) here)))
        (cond j (faulty (record { kind = reserved; octet = at }))
        (cond h (faulty (past limit at))
        (cond i (resumed (at + 2) there) (faulty (record { kind = target; octet = at })))))))
        ≡ named n next
        → P limit run total at n next
    by_tests limit run total at n next here there l k true c d f g h i eb ec ed ef eg eh ei j e =
        absurd (faulty≢named e)
    by_tests limit run total at n next here there l k false true d f g h i eb ec ed ef eg eh ei j e =
        subst (λ (m : Name). P limit run total at m next) (named-name e)
        (subst (P limit run total at []) (named_next e) (root limit run total at (leb-false _ _ eb) (eqb-true _ _ ec)))
    by_tests limit run total at n next here there l k false false true true g h i eb ec ed ef eg eh ei j e =
        absurd (faulty≢named e)
    by_tests limit run total at n next here there l k false false true false true h i eb ec ed ef eg eh ei j e =
        absurd (faulty≢named e)
    by_tests limit run total at n next here there l k false false true false false h i eb ec ed ef eg eh ei j e =
        let (m, p, q) = labelled_back (part s (at + 1) (get_or s at 0)) here n next e in
        let z = eqb-false (get_or s at 0) 0 ec in
        subst (λ (o : Name). P limit run total at o next) q
        (label limit run total at (get_or s at 0) refl (positive _ z) (leb-true _ _ ed) (ltb-false _ _ ef)
        (ltb-false _ _ eg) m next (l m next p))
    by_tests limit run total at n next here there l k false false false f g h i eb ec ed ef eg eh ei true e =
        absurd (faulty≢named e)
    by_tests limit run total at n next here there l k false false false f g true i eb ec ed ef eg eh ei false e =
        absurd (faulty≢named e)
    by_tests limit run total at n next here there l k false false false f g false true eb ec ed ef eg eh ei false e =
        let (other, p, q) = resumed_back (at + 2) there n next e in
        subst (P limit run total at n) q
        (jump limit run total at (target_at s at) (leb-false _ _ eh)
        (ltb→lt _ _ (and_right (leb 12 (target_at s at)) (ltb (target_at s at) run) (subst T (sym ei) tt))) n other
        (k n other p))
    by_tests limit run total at n next here there l k false false false f g false false eb ec ed ef eg eh ei false e =
        absurd (faulty≢named e)

    -- what is shown at the root octet, at a label and at a pointer holds of every name that is read
    pub walk_holds : (steps : ℕ) (limit : Limit) (run total at : ℕ) (n : Name) (next : ℕ)
        → walk steps s limit run total at ≡ named n next → P limit run total at n next
    unfolding walk
    walk_holds zero limit run total at n next e = absurd (faulty≢named e)
    walk_holds (suc steps) limit run total at n next e =
        by_tests limit run total at n next
        (walk steps s limit run (total + (get_or s at 0 + 1)) (at + (get_or s at 0 + 1)))
        (walk steps s message (target_at s at) total (target_at s at))
        (walk_holds steps limit run (total + (get_or s at 0 + 1)) (at + (get_or s at 0 + 1)))
        (walk_holds steps message (target_at s at) total (target_at s at))
        _ _ _ _ _ _ _ refl refl refl refl refl refl refl (ltb (get_or s at 0) 192) e

-- ---- the form
-- the length of a form with one more label
pub form-long : (label : List ℕ) (n : Name) → length (name_form (label ∷ n)) ≡ length label + 1 + length (name_form n)
unfolding name_form
form-long label n = let e = length-append label (name_form n) in omega arith

-- a form has at least the root octet
pub form_some : (n : Name) → 1 ≤ length (name_form n)
unfolding name_form
form_some [] = omega arith
form_some (label ∷ n) = omega arith

-- a valid name's form has at most 255 octets
pub form_short : (n : Name) → T (name? n) → length (name_form n) ≤ 255
unfolding name?
form_short n h = leb→le (length (name_form n)) 255 (and_right (all label? n) (leb (length (name_form n)) 255) h)

-- the labels of a valid name are valid
pub name-labels : (n : Name) → T (name? n) → T (all label? n)
unfolding name?
name-labels n h = and_left (all label? n) (leb (length (name_form n)) 255) h

-- valid labels within 255 octets are a valid name
pub labels-name : (n : Name) → T (all label? n) → length (name_form n) ≤ 255 → T (name? n)
unfolding name?
labels-name n h k = both (all label? n) (leb (length (name_form n)) 255) h (le→leb (length (name_form n)) 255 k)

-- a label's parts
pub label_some : (l : List ℕ) → T (label? l) → 1 ≤ length l
unfolding label?
label_some l h = leb→le 1 (length l)
    (and_left (leb 1 (length l)) (leb (length l) 63)
    (and_left (leb 1 (length l) && leb (length l) 63) (all u8? l) h))

-- a valid label has at most 63 octets
pub label_short : (l : List ℕ) → T (label? l) → length l ≤ 63
unfolding label?
label_short l h = leb→le (length l) 63
    (and_right (leb 1 (length l)) (leb (length l) 63)
    (and_left (leb 1 (length l) && leb (length l) 63) (all u8? l) h))

-- a valid label is octets
pub label-octets : (l : List ℕ) → T (label? l) → Octets l
unfolding label?
label-octets l h = octets_in_lem l (and_right (leb 1 (length l) && leb (length l) 63) (all u8? l) h)

-- 1 to 63 octets are a valid label
pub label_test : (l : List ℕ) → 1 ≤ length l → length l ≤ 63 → Octets l → T (label? l)
unfolding label?
label_test l h k o = both (leb 1 (length l) && leb (length l) 63) (all u8? l)
    (both (leb 1 (length l)) (leb (length l) 63) (le→leb 1 (length l) h) (le→leb (length l) 63 k)) (octets_test l o)

-- labels of 1 to 63 elements, octets or not
abbrev pub Sized : Name → Type 0
Sized [] = Unit {0}
Sized (l ∷ n) = (1 ≤ length l) × (length l ≤ 63) × Sized n

-- valid labels have those sizes
pub labels_sized : (n : Name) → T (all label? n) → Sized n
labels_sized [] h = tt
labels_sized (l ∷ n) h =
    let a = and_left (label? l) (all label? n) h in
    (label_some l a, label_short l a, labels_sized n (and_right (label? l) (all label? n) h))

-- the labels of a valid name have those sizes
pub name_sized : (n : Name) → T (name? n) → Sized n
name_sized n h = labels_sized n (name-labels n h)

-- the form of valid labels is octets
labels-octets : (n : Name) → T (all label? n) → Octets (name_form n)
unfolding name_form
labels-octets [] h = (omega arith, tt)
labels-octets (l ∷ n) h =
    let a = and_left (label? l) (all label? n) h in
    let b = label_short l a in (
      omega arith,
      All-append (λ x. x < 256) l (name_form n) (label-octets l a)
          (labels-octets n (and_right (label? l) (all label? n) h)),
    )

-- a valid name's form is octets
pub form-octets : (n : Name) → T (name? n) → Octets (name_form n)
form-octets n h = labels-octets n (name-labels n h)

-- ---- octets of a part of a text
-- what comes after some octets
pub drop-octets : (n : ℕ) (s : List ℕ) → Octets s → Octets (drop n s)
drop-octets zero s h = h
drop-octets (suc n) [] h = tt
drop-octets (suc n) (x ∷ s) h = drop-octets n s h.1

-- some first octets
pub take-octets : (n : ℕ) (s : List ℕ) → Octets s → Octets (take n s)
take-octets zero s h = tt
take-octets (suc n) [] h = tt
take-octets (suc n) (x ∷ s) h = (h.0, take-octets n s h.1)

-- a part from an offset on
pub part-octets : (s : List ℕ) (at n : ℕ) → Octets s → Octets (part s at n)
part-octets s at n h = take-octets n (drop at s) (drop-octets at s h)

-- the length of a part
pub part-long : (s : List ℕ) (at n : ℕ) → at + n ≤ length s → length (part s at n) ≡ n
part-long s at n h = let e = length-drop at s in length-take-le n (drop at s) (omega arith)

-- ---- a name's form is read back
-- by the labels, with the octets so far and a number of steps that is enough
walk_back : (n : Name) (steps : ℕ) (s r : List ℕ) (limit : Limit) (run total at : ℕ)
    → Sized n → total + length (name_form n) ≤ 255 → length (name_form n) ≤ steps
    → drop at s ≡ name_form n ++ r → at + length (name_form n) ≤ end_of s limit
    → walk steps s limit run total at ≡ named n (at + length (name_form n))
unfolding walk name_form
walk_back [] zero s r limit run total at v b f e h = absurd (omega arith)
walk_back [] (suc steps) s r limit run total at v b f e h =
    rw (lt-leb (end_of s limit) at (omega arith), get_d_here s r 0 at e)
walk_back (l ∷ n) zero s r limit run total at v b f e h = absurd (omega arith)
walk_back (l ∷ n) (suc steps) s r limit run total at v b f e h =
    let long = length-append l (name_form n) in
    let some = v.0 in
    let few = v.1 in
    let more = form_some n in
    let behind : drop (at + 1) s ≡ l ++ (name_form n ++ r) = drop_past s (length l ∷ []) _ at e
    ∙ append_assoc l (name_form n) r in
    let place : at + 1 + length l ≡ at + (length l + 1) = omega arith in
    let after : drop (at + (length l + 1)) s ≡ name_form n ++ r = ap (λ (i : ℕ). drop i s) (sym place)
    ∙ drop_past s l (name_form n ++ r) (at + 1) behind in
    let place' : at + (length l + 1) + length (name_form n) ≡ at + suc (length (l ++ name_form n)) = omega arith in
    let rest = walk_back n steps s r limit run (total + (length l + 1)) (at + (length l + 1)) v.2 (omega arith)
    (omega arith) after (omega arith) in
    rw (
      lt-leb (end_of s limit) at (omega arith),
      get_d_here s _ (length l) at e,
      ne_eqb (length l) 0 (omega arith),
      le-leb (length l) 63 few,
      le-ltb (end_of s limit) (at + (length l + 1)) (omega arith),
      le-ltb 255 (total + (length l + 1) + 1) (omega arith),
    )
    (ap₂ labelled (take-here s l (name_form n ++ r) (at + 1) behind) rest ∙ ap (named (l ∷ n)) place')

-- where the form of a name is, that name is read
pub read_back_sized : (s r : List ℕ) (limit : Limit) (run at : ℕ) (n : Name) → Sized n → length (name_form n) ≤ 255
    → drop at s ≡ name_form n ++ r
    → at + length (name_form n) ≤ end_of s limit → name_from s limit run at ≡ named n (at + length (name_form n))
unfolding name_from
read_back_sized s r limit run at n v b e h =
    walk_back n (suc (run + 255)) s r limit run 0 at v (omega arith) (omega arith) e h

-- where a valid name's form is, that name is read
pub read_back : (s r : List ℕ) (limit : Limit) (run at : ℕ) (n : Name) → T (name? n) → drop at s ≡ name_form n ++ r
    → at + length (name_form n) ≤ end_of s limit → name_from s limit run at ≡ named n (at + length (name_form n))
read_back s r limit run at n v e h = read_back_sized s r limit run at n (name_sized n v) (form_short n v) e h

-- ---- what is read has the sizes of a name, and ends after its start and within its limit
-- what is shown of each name
abbrev Within : List ℕ → Limit → ℕ → ℕ → ℕ → Name → ℕ → Type 0
Within s limit run total at n next =
    end_of s limit ≤ length s → total + 1 ≤ 255 → Sized n × (total + length (name_form n) ≤ 255) × (at < next)
    × (next ≤ end_of s limit)

-- the walk from any offset on
walk_sized : (s : List ℕ) (steps : ℕ) (limit : Limit) (run total at : ℕ) (n : Name) (next : ℕ)
    → walk steps s limit run total at ≡ named n next → Within s limit run total at n next
unfolding name_form
walk_sized s = walk_holds s (Within s)
    (λ limit run total at h x k b. (tt, omega arith, omega arith, omega arith))
    (λ limit run total at x e p q h b n next v k c.
    let l = part s (at + 1) x in
    let w = v k (omega arith) in
    let a : length l ≡ x = part-long s (at + 1) x (omega arith) in
    let f = form-long l n in
    ((omega arith, omega arith, w.0), omega (arith, w.1), omega (arith, w.2), w.3))
    (λ limit run total at goal h g n next v k b. let w = v (omega arith) b in (w.0, w.1, omega arith, omega arith))

-- a name read from its start on
pub read_sized : (s : List ℕ) (limit : Limit) (run at : ℕ) (n : Name) (next : ℕ) → end_of s limit ≤ length s
    → name_from s limit run at ≡ named n next
    → Sized n × (length (name_form n) ≤ 255) × (at < next) × (next ≤ end_of s limit)
unfolding name_from
read_sized s limit run at n next h e =
    let w = walk_sized s (suc (run + 255)) limit run 0 at n next e h (omega arith) in
    (w.0, omega (arith, w.1), w.2, w.3)

-- ---- what is read from octets is valid
-- labels read from octets are octets
walk-octets : (s : List ℕ) → Octets s → (steps : ℕ) (limit : Limit) (run total at : ℕ) (n : Name) (next : ℕ)
    → walk steps s limit run total at ≡ named n next → All Octets n
walk-octets s o = walk_holds s (λ limit run total at n next. All Octets n)
    (λ limit run total at h x. tt)
    (λ limit run total at x e p q h b n next v. (part-octets s (at + 1) x o, v))
    (λ limit run total at goal h g n next v. v)

-- labels of those sizes, of octets, are valid
labels_test : (n : Name) → Sized n → All Octets n → T (all label? n)
labels_test [] h o = tt
labels_test (l ∷ n) h o =
    both (label? l) (all label? n) (label_test l h.0 h.1 o.0) (labels_test n h.2 o.1)

-- a name that is read from octets is valid, and ends after its start and within its limit
pub read_valid : (s : List ℕ) (limit : Limit) (run at : ℕ) (n : Name) (next : ℕ) → Octets s → end_of s limit ≤ length s
    → name_from s limit run at ≡ named n next → T (name? n) × (at < next) × (next ≤ end_of s limit)
unfolding name_from
read_valid s limit run at n next o h e =
    let w = read_sized s limit run at n next h e in (
      labels-name n (labels_test n w.0 (walk-octets s o (suc (run + 255)) limit run 0 at n next e)) w.1,
      w.2,
      w.3,
    )

-- ---- with no pointer allowed the octets read are the form
-- what is shown of each name
abbrev Whole : List ℕ → Limit → ℕ → ℕ → ℕ → Name → ℕ → Type 0
Whole s limit run total at n next =
    end_of s limit ≤ length s → run ≡ 0 → (drop at s ≡ name_form n ++ drop next s) × (next ≡ at + length (name_form n))

-- a part of a text and what comes after it
pub drop-part : (s : List ℕ) (at n : ℕ) → drop at s ≡ part s at n ++ drop (at + n) s
drop-part s at n = sym (take-append-drop n (drop at s)) ∙ ap (λ (l : List ℕ). part s at n ++ l) (drop-drop n at s)

-- the walk from any offset on
walk-whole : (s : List ℕ) (steps : ℕ) (limit : Limit) (run total at : ℕ) (n : Name) (next : ℕ)
    → walk steps s limit run total at ≡ named n next → Whole s limit run total at n next
unfolding name_form
walk-whole s = walk_holds s (Whole s)
    (λ limit run total at h x k b. (drop_one s at (omega arith) ∙ ap (λ (y : ℕ). y ∷ drop (at + 1) s) x, refl))
    (λ limit run total at x e p q h b n next v k z.
    let l = part s (at + 1) x in
    let w = v k z in
    let a : length l ≡ x = part-long s (at + 1) x (omega arith) in
    let f = form-long l n in
    let place : at + 1 + x ≡ at + (x + 1) = omega arith in
    let tail : drop (at + 1) s ≡ l ++ name_form n ++ drop next s =
    drop-part s (at + 1) x ∙ ap (λ (i : ℕ). l ++ drop i s) place ∙ ap (λ (m : List ℕ). l ++ m) w.0
    ∙ sym (append_assoc l (name_form n) (drop next s)) in
    (drop_one s at (omega arith) ∙ ap₂ (λ (y : ℕ) (m : List ℕ). y ∷ m) (sym e ∙ sym a) tail, omega (arith, w.1)))
    (λ limit run total at goal h g n next v k z. absurd (omega arith))

-- a name that is read where no pointer is taken is there in its form
pub read_form : (s : List ℕ) (limit : Limit) (at : ℕ) (n : Name) (next : ℕ) → end_of s limit ≤ length s
    → name_from s limit 0 at ≡ named n next → (drop at s ≡ name_form n ++ drop next s) × (next ≡ at + length (name_form n))
unfolding name_from
read_form s limit at n next h e = walk-whole s (suc (0 + 255)) limit 0 0 at n next e h refl

-- a name that is read where no pointer is taken is read so wherever a pointer may go
pub read_plain : (s : List ℕ) (limit : Limit) (run at : ℕ) (n : Name) (next : ℕ) → end_of s limit ≤ length s
    → name_from s limit 0 at ≡ named n next → name_from s limit run at ≡ named n next
read_plain s limit run at n next h e =
    let (own, place) = read_form s limit at n next h e in
    let w = read_sized s limit 0 at n next h e in
    read_back_sized s (drop next s) limit run at n w.0 w.1 own (omega (arith, w.3)) ∙ ap (named n) (sym place)

-- ---- the bound on steps is never met
-- two choices by one test are equal if they are equal each way
cond_same : (b : Bool) (x x' y y' : Named) → (b ≡ true → x ≡ x') → (b ≡ false → y ≡ y') → cond b x y ≡ cond b x' y'
cond_same true x x' y y' h k = h refl
cond_same false x x' y y' h k = k refl

-- the answer is the same for any two bounds above what is left: `run`, and the octets that a name may still have
pub walk_steps : (f g : ℕ) (s : List ℕ) (limit : Limit) (run total at : ℕ) → run + (255 - total) < f
    → run + (255 - total) < g
    → walk f s limit run total at ≡ walk g s limit run total at
unfolding walk
walk_steps zero g s limit run total at h k = absurd (omega arith)
walk_steps (suc f) zero s limit run total at h k = absurd (omega arith)
walk_steps (suc f) (suc g) s limit run total at h k =
    cond_same (leb (end_of s limit) at) _ _ _ _ (λ a. refl) λ a.
    cond_same (eqb (get_or s at 0) 0) _ _ _ _ (λ b. refl) λ b.
    cond_same (leb (get_or s at 0) 63) _ _ _ _
    (λ c. cond_same (ltb (end_of s limit) (at + (get_or s at 0 + 1))) _ _ _ _ (λ d. refl) λ d.
    cond_same (ltb 255 (total + (get_or s at 0 + 1) + 1)) _ _ _ _ (λ i. refl) λ i.
    let w = ltb-false 255 (total + (get_or s at 0 + 1) + 1) i in
    ap (labelled (part s (at + 1) (get_or s at 0)))
    (walk_steps f g s limit run (total + (get_or s at 0 + 1)) (at + (get_or s at 0 + 1)) (omega arith) (omega arith)))
    λ c. cond_same (ltb (get_or s at 0) 192) _ _ _ _ (λ d. refl) λ d.
    cond_same (leb (end_of s limit) (at + 1)) _ _ _ _ (λ i. refl) λ i.
    cond_same (allowed? run (target_at s at)) _ _ _ _
    (λ j.
    let w = ltb→lt (target_at s at) run
    (and_right (leb 12 (target_at s at)) (ltb (target_at s at) run) (subst T (sym j) tt)) in
    ap (resumed (at + 2)) (walk_steps f g s message (target_at s at) total (target_at s at) (omega arith) (omega arith)))
    λ j. refl

-- any bound above `run + 255` gives what `name_from` gives
pub name_steps : (f : ℕ) (s : List ℕ) (limit : Limit) (run at : ℕ) → run + 255 < f
    → walk f s limit run 0 at ≡ name_from s limit run at
unfolding name_from
name_steps f s limit run at h = walk_steps f (suc (run + 255)) s limit run 0 at (omega arith) (omega arith)
