-- The demands on the conversion of texts to messages, over its calls, and both round trips. The statements are in
-- FrontPage.antt.
use Rattle.std.specs.Prelude.{◌≡◌, ◌↔◌, ◌⊎◌, Bool, true, false, ℕ, ◌+◌, ◌-◌, ◌≤◌, ◌<◌, take, drop}
use Rattle.std.proofs.Math.Path.{refl}
use Rattle.std.proofs.Common.{sym, ◌∙◌, ap, subst, inl, inr, length-append, take-append-drop, length-take-le}
use Rattle.std.proofs.lemmas.Bool.{false≢true}
use Rattle.std.proofs.Math.Option.{Option, none, some, none-ne-some}
use mathlib.Core.List.{List, [], ◌∷◌, nil≢cons}
use native.Mathlib.Omega.{arith}
use Rattle.std.proofs.Math.ListN.{length}
use Rattle.std.proofs.Math.Seq.{take-append_seam}
use Rattle.octets.proofs.LookAhead.{Viable, viable}
use Rattle.octets.specs.Parsed.{Parsed, parsed, failed, parsed≢failed}
use Rattle.octets.specs.Answer.{Output, output, refused, success, refusal, reported, delivered-room}
use Rattle.octets.specs.Calls.{Call, written_by}
use Rattle.records.specs.Message.{Message, form}
use Rattle.records.specs.Decode.{accepted, decode}
use Rattle.records.proofs.MessageLaws.{decode-form}
use Rattle.json_text.specs.View.{View, message_of}
use Rattle.json_text.specs.Limits.{within?}
use Rattle.json_text.specs.Document.{Document, document_text}
use Rattle.json_text.specs.Text.{text, document_of}
use Rattle.json_text.specs.Converted.{Converts}
use Rattle.strict.specs.Grammar.{DocumentIn}
use Rattle.strict.specs.Meaning.{meaning}
use Rattle.strict.proofs.MeaningLaws.{view_in}
use Rattle.strict.specs.Parser.{parse, parse_exact, parse_ends}
use Rattle.strict.specs.Reading.{of_view, of_meaning, of_parsed, reading, to_wire, Reads}
use Rattle.strict.proofs.Longest.{parse-stops}
use Rattle.strict.proofs.ReadingLaws.{means_text, means_one, reads_text, read_only}
use Rattle.demands.specs.FrontPage.Words.{room, Length, Accepted, Spells, InGrammar, Begins}
use Rattle.demands.specs.FrontPage.Words.{LongestBeginning, HasText, NoMessage}
use Rattle.demands.proofs.Delivered.{call_succeeds, call_refuses, call_leaves, call_stays, calls_same}
use Rattle.demands.proofs.Converter as converter

-- ---- demand 1
pub same : (c d : Call) → Reads c → Reads d → c.input ≡ d.input → room c ≡ room d
    → (c.answer ≡ d.answer) × (written_by c ≡ written_by d)
unfolding to_wire
same c d p q e n = calls_same 23 (reading d.input) c (rw e at p) d q n

-- ---- what is read, by the grammar and by the messages, not by the parser
pub data Ruling (t : List ℕ) : Output → Type 0 where
  ungrammatical : {p : ℕ} → (InGrammar t → ⊥) → LongestBeginning t p → Ruling t (refused 20 p)
  meaningless : InGrammar t → NoMessage t → Ruling t (refused 21 0)
  large : (v : View) → HasText t v → within? v ≡ false → Ruling t (refused 22 0)
  read : (v : View) → HasText t v → within? v ≡ true → Ruling t (output (form (message_of v)))

-- where the parser stops, in the words of the front page
viable_begins : {u : List ℕ} → Viable DocumentIn document_text u → Begins u
viable_begins v = (v.value, v.in_range, v.rest, v.same)

begins_viable : {u : List ℕ} → Begins u → Viable DocumentIn document_text u
begins_viable (d, i, r, e) = viable d r i e

stops_longest : (t w : List ℕ) → parse t ≡ failed w → LongestBeginning t (length t - length w)
stops_longest t w e =
    let l = parse-stops t w e in
    let size : length l.past + length w ≡ length t = sym (length-append l.past w) ∙ ap length l.whole in
    let place : length t - length w ≡ length l.past = omega arith in
    let first : take (length l.past) t ≡ l.past =
    ap (take (length l.past)) (sym l.whole) ∙ take-append_seam l.past w in
    rw place (
      omega arith,
      rw first (viable_begins l.viable),
      λ n h b. rw (length-take-le n t h) at (l.longest (take n t) (drop n t) (take-append-drop n t) (begins_viable b)),
    )

-- there is one such place
longest_one : {t : List ℕ} {p q : ℕ} → LongestBeginning t p → LongestBeginning t q → p ≡ q
longest_one {t} {p} {q} (h, b, f) (k, d, g) = omega (arith, f q k d, g p h b)

pub ruling : (t : List ℕ) → Ruling t (reading t)
unfolding reading
ruling t = go (parse t) refl
  where
    sizes : (d : Document) (v : View) → parse t ≡ parsed d [] → meaning d ≡ some v → (b : Bool) → within? v ≡ b
        → Ruling t (of_view v)
    sizes d v p m true e = rw e (read v ((means_text t v).0 (record { document = d; parses = p; means = m })) e)
    sizes d v p m false e = rw e (large v ((means_text t v).0 (record { document = d; parses = p; means = m })) e)

    taken : {d e : Document} {r s : List ℕ} → parsed d r ≡ parsed e s → d ≡ e
    taken {d} e = ap (λ (o : Parsed Document). elim o [ parsed a w ↦ a | failed w ↦ d ]) e

    means : (d : Document) → parse t ≡ parsed d [] → (o : Option View) → meaning d ≡ o → Ruling t (of_meaning o)
    means d p none e = meaningless (d, ((parse_exact t d).0 p).0, ((parse_exact t d).0 p).1) λ v h.
        let m = (means_text t v).1 h in
        none-ne-some v (sym e ∙ ap meaning (taken (sym p ∙ m.parses)) ∙ m.means)
    means d p (some v) e = sizes d v p e (within? v) refl

    go : (o : Parsed Document) → parse t ≡ o → Ruling t (of_parsed t o)
    go (failed w) e =
        ungrammatical (λ h. let (d, i, s) = h in parsed≢failed (sym ((parse_exact t d).1 (i, s)) ∙ e))
        (stops_longest t w e)
    go (parsed d []) e = means d e (meaning d) refl
    go (parsed d (x ∷ r)) e = absurd (nil≢cons (sym (parse_ends t d (x ∷ r) e)))

-- a message's text is within the grammar, and it is the text of one message only
has_grammar : (t : List ℕ) (v : View) → HasText t v → InGrammar t
unfolding Rattle.json_text.specs.Text.view_text
has_grammar t v h = (document_of v, view_in v h.0, h.1)

has_one : (t : List ℕ) (v w : View) → HasText t v → HasText t w → within? v ≡ within? w
has_one t v w h k = ap within? (means_one t v w ((means_text t v).1 h) ((means_text t w).1 k))

-- ---- each refusal, exactly when
both : {A B C : Type 0} → A ↔ B → B ↔ C → A ↔ C
both f g = (λ a. g.0 (f.0 a), λ c. f.1 (g.1 c))

number_in : Output → ℕ
number_in (output l) = 0
number_in (refused k p) = k

place_in : Output → ℕ
place_in (output l) = 0
place_in (refused k p) = p

no : {X : Type 0} {o : Output} {k p : ℕ} → (number_in o ≡ k → ⊥) → o ≡ refused k p → X
unfolding number_in
no n e = absurd (n (ap number_in e))

at_20 : {t : List ℕ} {o : Output} (p : ℕ) → Ruling t o
    → (o ≡ refused 20 p) ↔ ((InGrammar t → ⊥) × LongestBeginning t p)
unfolding number_in place_in
at_20 {t} p (ungrammatical g l) =
    (λ e. (g, subst (LongestBeginning t) (ap place_in e) l), λ h. ap (refused 20) (longest_one l h.1))
at_20 p (meaningless g f) = (no (λ e. omega arith), λ h. absurd (h.0 g))
at_20 {t} p (large v h w) = (no (λ e. omega arith), λ k. absurd (k.0 (has_grammar t v h)))
at_20 {t} p (read v h w) = (no (λ e. omega arith), λ k. absurd (k.0 (has_grammar t v h)))

at_21 : {t : List ℕ} {o : Output} (p : ℕ) → Ruling t o
    → (o ≡ refused 21 p) ↔ (InGrammar t × NoMessage t × (p ≡ 0))
unfolding number_in place_in
at_21 p (ungrammatical g l) = (no (λ e. omega arith), λ h. let (i, f, q) = h in absurd (g i))
at_21 p (meaningless g f) = (λ e. (g, f, sym (ap place_in e)), λ h. let (i, j, q) = h in rw q)
at_21 p (large v h w) = (no (λ e. omega arith), λ k. let (i, f, q) = k in absurd (f v h))
at_21 p (read v h w) = (no (λ e. omega arith), λ k. let (i, f, q) = k in absurd (f v h))

at_22 : {t : List ℕ} {o : Output} (p : ℕ) → Ruling t o
    → (o ≡ refused 22 p) ↔ ((v : View) × HasText t v × (within? v ≡ false) × (p ≡ 0))
unfolding number_in place_in
at_22 {t} p (ungrammatical g l) = (no (λ e. omega arith), λ h. let (v, k, w, q) = h in absurd (g (has_grammar t v k)))
at_22 p (meaningless g f) = (no (λ e. omega arith), λ h. let (v, k, w, q) = h in absurd (f v k))
at_22 p (large v h w) = (λ e. (v, h, w, sym (ap place_in e)), λ u. let (x, k, y, q) = u in rw q)
at_22 {t} p (read v h w) =
    (no (λ e. omega arith), λ u. let (x, k, y, q) = u in absurd (false≢true (sym y ∙ has_one t x v k h ∙ w)))

-- there is no other refusal
others : {t : List ℕ} {o : Output} {k p : ℕ} → Ruling t o → o ≡ refused k p → (20 ≤ k) × (k ≤ 22) × (p ≤ length t)
unfolding number_in place_in
others (ungrammatical g l) e = let k = ap number_in e in (omega arith, omega arith, omega (arith, ap place_in e, l.0))
others (meaningless g f) e = let k = ap number_in e in (omega arith, omega arith, omega (arith, ap place_in e))
others (large v h w) e = let k = ap number_in e in (omega arith, omega arith, omega (arith, ap place_in e))
others (read v h w) e = absurd (subst Written e tt)
  where
    Written : Output → Type 0
    Written (output l) = Unit {0}
    Written (refused k p) = ⊥

module _ (c : Call) (made : Reads c) where
  -- what is due, whatever the room
  due : (k : ℕ) → k < 23 → (p : ℕ) → (c.answer ≡ refusal k p) ↔ (reading c.input ≡ refused k p)
  unfolding to_wire
  due k h p = (λ e. forward (exact.0 e), λ e. exact.1 (inl e))
    where
      exact : (c.answer ≡ refusal k p)
          ↔ ((reading c.input ≡ refused k p)
          ⊎ ((l : List ℕ) × (reading c.input ≡ output l) × (room c < length l) × (k ≡ 23) × (p ≡ 0)))
      exact = call_refuses 23 (reading c.input) c made k p

      forward : (reading c.input ≡ refused k p)
          ⊎ ((l : List ℕ) × (reading c.input ≡ output l) × (room c < length l) × (k ≡ 23) × (p ≡ 0))
          → reading c.input ≡ refused k p
      forward (inl e) = e
      forward (inr u) = let (l, o, r, j, q) = u in absurd (omega arith)

  pub stays : drop (reported c.answer) c.after ≡ drop (reported c.answer) c.before
  unfolding to_wire
  stays = call_stays 23 (reading c.input) c made

  pub leaves : (k p : ℕ) → c.answer ≡ refusal k p → c.after ≡ c.before
  unfolding to_wire
  leaves = call_leaves 23 (reading c.input) c made

  -- ---- demand 2, its reading half
  pub accepts : (n : ℕ) → (c.answer ≡ success n) ↔ ((m : Message) × Spells c m × Length c n (form m))
  unfolding to_wire
  accepts n = (forward, backward)
    where
      exact : (c.answer ≡ success n)
          ↔ ((l : List ℕ) × (reading c.input ≡ output l) × (length l ≤ room c) × (n ≡ length l))
      exact = call_succeeds 23 (reading c.input) c made n

      forward : c.answer ≡ success n → (m : Message) × Spells c m × Length c n (form m)
      forward e =
          let (l, o, h, k) = exact.0 e in
          let r = read_only c.input l o in (
            r.message,
            (converter.whole_accepted r.message r.whole, r.its_text),
            (rw r.its_form h, rw r.its_form k),
          )

      backward : (m : Message) × Spells c m × Length c n (form m) → c.answer ≡ success n
      backward u = let (m, (a, e), (h, k)) =
          u in exact.1 (form m, ap reading (sym e) ∙ reads_text m (converter.accepted_whole m a), h, k)

  pub writes : (m : Message) → Spells c m → length (form m) ≤ room c → written_by c ≡ form m
  unfolding to_wire
  writes m (a, e) k = rw (made.answers, made.leaves, ← e, reads_text m (converter.accepted_whole m a))
      (delivered-room 23 (form m) c.before k).1

  pub grammar : (p : ℕ) → (c.answer ≡ refusal 20 p) ↔ ((InGrammar c.input → ⊥) × LongestBeginning c.input p)
  grammar p = both (due 20 (omega arith) p) (at_20 p (ruling c.input))

  pub no_message : (p : ℕ) → (c.answer ≡ refusal 21 p) ↔ (InGrammar c.input × NoMessage c.input × (p ≡ 0))
  no_message p = both (due 21 (omega arith) p) (at_21 p (ruling c.input))

  pub limits : (p : ℕ) → (c.answer ≡ refusal 22 p) ↔ ((v : View) × HasText c.input v × (within? v ≡ false) × (p ≡ 0))
  limits p = both (due 22 (omega arith) p) (at_22 p (ruling c.input))

  pub no_room_lem : (p : ℕ) → (c.answer ≡ refusal 23 p)
      ↔ ((m : Message) × Spells c m × (room c < length (form m)) × (p ≡ 0))
  unfolding to_wire
  no_room_lem p = (λ e. forward 23 ((call_refuses 23 (reading c.input) c made 23 p).0 e) refl, backward)
    where
      forward : (k : ℕ) → (reading c.input ≡ refused k p)
          ⊎ ((l : List ℕ) × (reading c.input ≡ output l) × (room c < length l) × (k ≡ 23) × (p ≡ 0)) → k ≡ 23
          → (m : Message) × Spells c m × (room c < length (form m)) × (p ≡ 0)
      forward k (inl e) f = let (a, b, q) = others (ruling c.input) e in absurd (omega arith)
      forward k (inr u) f =
          let (l, o, h, j, q) = u in
          let r = read_only c.input l o in
          (r.message, (converter.whole_accepted r.message r.whole, r.its_text), rw r.its_form h, q)

      backward : (m : Message) × Spells c m × (room c < length (form m)) × (p ≡ 0) → c.answer ≡ refusal 23 p
      backward u =
          let (m, (a, e), h, q) = u in
          (call_refuses 23 (reading c.input) c made 23 p).1
          (inr (form m, ap reading (sym e) ∙ reads_text m (converter.accepted_whole m a), h, refl, q))

  -- there is no other answer, and no place after the input's end
  declined : (k p : ℕ) → c.answer ≡ refusal k p → (20 ≤ k) × (k ≤ 23) × (p ≤ length c.input)
  unfolding to_wire
  declined k p e = go ((call_refuses 23 (reading c.input) c made k p).0 e)
    where
      go : (reading c.input ≡ refused k p)
          ⊎ ((l : List ℕ) × (reading c.input ≡ output l) × (room c < length l) × (k ≡ 23) × (p ≡ 0))
          → (20 ≤ k) × (k ≤ 23) × (p ≤ length c.input)
      go (inl e) = let (a, b, q) = others (ruling c.input) e in (a, omega arith, q)
      go (inr u) = let (l, o, h, j, q) = u in (omega arith, omega arith, omega arith)

  pub numbers : (k p : ℕ) → c.answer ≡ refusal k p → (20 ≤ k) × (k ≤ 23)
  numbers k p e = let (a, b, q) = declined k p e in (a, b)

  pub places : (k p : ℕ) → c.answer ≡ refusal k p → p ≤ length c.input
  places k p e = let (a, b, q) = declined k p e in q

-- ---- a buffer of 65,535 octets holds every message
pub room_enough : (c : Call) → Reads c → 65535 ≤ room c → (p : ℕ) → c.answer ≡ refusal 23 p → ⊥
room_enough c made h p e = let (m, (a, f), k, q) =
    (no_room_lem c made p).0 e in omega (arith, (converter.accepted_whole m a).1)

-- ---- both round trips, over calls
-- reading what the converter wrote gives the uncompressed form of its message
pub there_and_back : (c d : Call) → Converts c → Reads d → (m : Message) → decode c.input ≡ accepted m
    → length (text m) ≤ room c
    → d.input ≡ written_by c → length (form m) ≤ room d
    → (d.answer ≡ success (length (form m))) × (written_by d ≡ form m)
there_and_back c d p q m e h s k =
    let w : Accepted m = (c.input, p.octets, e) in
    let t : text m ≡ d.input = sym (s ∙ converter.writes c p m e h) in
    ((accepts d q (length (form m))).1 (m, (w, t), (k, refl)), writes d q m (w, t) k)

-- converting what the reader gave writes the same text
pub back_and_there : (d c : Call) → Reads d → Converts c → (n : ℕ) → d.answer ≡ success n → c.input ≡ written_by d
    → length d.input ≤ room c
    → (c.answer ≡ success (length d.input)) × (written_by c ≡ d.input)
back_and_there d c p q n e s h =
    let (m, (a, t), (k, j)) = (accepts d p n).0 e in
    let w = converter.accepted_whole m a in
    let f : decode c.input ≡ accepted m = rw (s, writes d p m (a, t) k) (decode-form m w.0 w.1) in
    let r : length (text m) ≤ room c = rw t h in
    ((converter.accepts c q (length d.input)).1 (m, f, (r, ap length (sym t))), converter.writes c q m f r ∙ t)
