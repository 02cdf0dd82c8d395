-- The ways of the writers of elements.
use mathlib.Core.Path.{◌≡◌, refl, sym, ap, ◌∙◌, subst}
use mathlib.Core.Bool.{Bool, true, false, cond}
use mathlib.Core.Option.{Option, none, some}
use mathlib.Core.List.{List, [], ◌∷◌, ◌++◌, append_assoc}
use Prim.Native.Nat.{ℕ, ◌+◌, ◌*◌, ◌≤◌, ◌<◌}
use native.Mathlib.Omega.{arith}
use borrow.Author.Tests.{ne_eqb}
use lib.Dec.{ltb}
use lib.ListN.{length, drop, length-take}
use lib.Seq.{take-append_seam, drop-append_seam}
use Rattle.octets.specs.Lists.{ascii, ended}
use Rattle.octets.specs.Fields.{be16_at, be32_at}
use Rattle.octets.specs.Writes.{Writes, writes_then}
use Rattle.octets.specs.declared.writer.Writer.{Writer}
use Rattle.octets.specs.Decimal.{decimal}
use Rattle.std.specs.Prelude.{Ok}
use Rattle.records.proofs.Told.{entry_case}
use Rattle.names.specs.Name.{Name, name_form, cut, Fault}
use Rattle.names.specs.Walk.{part, message, Named, named, faulty, name_at}
use Rattle.names.specs.NameLaws.{Sized, read_sized, named-name, faulty≢named}
use Rattle.records.specs.Message.{Question}
use Rattle.records.specs.declared.Question.{Question as QuestionRead}
use Rattle.records.specs.Read.{Entry, entry, bad, with_name_lem, first_cut, question_at}
use Rattle.records.specs.RecordLaws.{bad≢entry, entry_value}
use Rattle.records.specs.Parts.{fitted, begun, begun_at, question_begun, RecordHead, record_head_at, headed}
use Rattle.records.specs.Answer.{question_fields, question_read}
use Rattle.spelling.specs.Spelling.{label_text, name_text}
use Rattle.spelling.specs.Form.{labels, form_text, within-label}
use Rattle.json_text.specs.Document.{question_text}
use Rattle.print_head.specs.Head.{number_text}
use Rattle.print_entry.specs.Prints.{texts, Readable, readable_value, Prints, prints_text}
use Rattle.print_entry.specs.Elements.{start_text, question_text_at}

-- ---- names
-- the text of a name's form, from a length octet on, and the whole
name-labels : (n : Name) → Sized n → labels (name_form n) ≡ ended label_text 34 n
unfolding labels name_form
name-labels [] h = refl
name-labels (l ∷ n) h =
    let some = h.0 in
    rw (ne_eqb (length l) 0 (omega arith), within-label, take-append_seam, drop-append_seam, name-labels n h.2)

pub sized_text : (n : Name) → Sized n → form_text (name_form n) ≡ name_text n
unfolding form_text name_text labels name_form
sized_text [] h = refl
sized_text (l ∷ n) h =
    let some = h.0 in
    let e = ne_eqb (length l) 0 (omega arith) in
    rw e (ap (λ t. 34 ∷ t) (rw e at (name-labels (l ∷ n) h)))

-- a name that is read has the sizes of one
begun_sized : (s widths : List ℕ) (at : ℕ) (n : Name) (next : ℕ) → begun_at s at widths ≡ named n next → Sized n
unfolding begun_at
begun_sized s widths at n next e = go (name_at s message at) refl e
  where
    fit : (m : Name) (i : ℕ) (o : Option ℕ) → fitted m i o ≡ named n next → m ≡ n
    fit m i none q = named-name q
    fit m i (some x) q = absurd (faulty≢named q)

    go : (w : Named) → name_at s message at ≡ w → begun s widths w ≡ named n next → Sized n
    go (named m i) p q = subst Sized (fit m i (first_cut s i widths) q)
        (read_sized s message at at m i (omega arith) p).0
    go (faulty f) p q = absurd (faulty≢named q)

-- so has what begins with one
begun_entry : {A : Type 0} (name_in : A → Name) (s widths : List ℕ) (at : ℕ) (f : Name → ℕ → Entry A)
    → ((n : Name) (i : ℕ) (a : A) (next : ℕ) → f n i ≡ entry a next → name_in a ≡ n)
    → (a : A) (next : ℕ) → with_name_lem (begun_at s at widths) f ≡ entry a next → Sized (name_in a)
begun_entry name_in s widths at f same a next e = go (begun_at s at widths) refl e
  where
    go : (w : Named) → begun_at s at widths ≡ w → with_name_lem w f ≡ entry a next → Sized (name_in a)
    go (named n i) p q = subst Sized (sym (same n i a next q)) (begun_sized s widths at n i p)
    go (faulty fault) p q = absurd (bad≢entry q)

question_sized : (s : List ℕ) (at : ℕ) (q : Question) (next : ℕ) → question_at s at ≡ entry q next → Sized q.name
question_sized s at q next e =
    begun_entry (λ (q : Question). q.name) s (2 ∷ 2 ∷ []) at _
    (λ n i a j p. sym (ap (λ (q : Question). q.name) (entry_value p))) q next (sym (question_begun s at) ∙ e)

pub head_sized : (s : List ℕ) (at : ℕ) (h : RecordHead) (next : ℕ) → record_head_at s at ≡ entry h next → Sized h.name
unfolding record_head_at
head_sized s at h next e = begun_entry (λ (h : RecordHead). h.name) s (2 ∷ 2 ∷ 4 ∷ 2 ∷ []) at (headed s) same h next e
  where
    room : (n : Name) (b : Bool) (fault : Fault) (k : RecordHead) (i : ℕ) (a : RecordHead) (j : ℕ) → k.name ≡ n
        → cond b (bad fault) (entry k i) ≡ entry a j → a.name ≡ n
    room n true fault k i a j p q = absurd (bad≢entry q)
    room n false fault k i a j p q = sym (ap (λ (h : RecordHead). h.name) (entry_value q)) ∙ p

    same : (n : Name) (i : ℕ) (a : RecordHead) (j : ℕ) → headed s n i ≡ entry a j → a.name ≡ n
    same n i a j p = room n (ltb (length s) (i + 10 + be16_at s (i + 8))) (record { kind = cut; octet = i + 10 })
        (record {
          name = n;
          type = be16_at s i;
          class = be16_at s (i + 2);
          ttl = be32_at s (i + 4);
          rdata = i + 10;
          rdlength = be16_at s (i + 8);
        }) (i + 10 + be16_at s (i + 8)) a j refl p

-- ---- questions
-- the texts that a question and a record begin with
front : (t u v : List ℕ)
    → ascii "{\"NAME\":" ++ t ++ ascii ",\"TYPE\":" ++ u ++ ascii ",\"CLASS\":" ++ v ≡ ascii "{\"NAME\":" ++ t
    ++ (ascii ",\"TYPE\":" ++ u) ++ (ascii ",\"CLASS\":" ++ v)
front t u v = simp append_assoc

pub front-text : (n : Name) (type class : ℕ) → Sized n
    → ascii "{\"NAME\":" ++ name_text n ++ ascii ",\"TYPE\":" ++ decimal type ++ ascii ",\"CLASS\":"
    ++ decimal class ≡ start_text (name_form n) type class
unfolding start_text number_text
front-text n type class h =
    front (name_text n) (decimal type) (decimal class)
    ∙ ap (λ (t : List ℕ). ascii "{\"NAME\":" ++ t ++ (ascii ",\"TYPE\":" ++ decimal type)
    ++ (ascii ",\"CLASS\":" ++ decimal class)) (sym (sized_text n h))

question_parts : (q : Question) → Sized q.name
    → question_text q ≡ start_text (name_form q.name) q.type q.class ++ ascii "}"
unfolding question_text
question_parts q h = ap (λ (t : List ℕ). t ++ ascii "}") (front-text q.name q.type q.class h)

module _ (s : List ℕ) (at : ℕ) where
  -- one that is readable is read
  pub question_is_read : Readable (question_text_at s at)
      → (q : QuestionRead) × (question_read (question_at s at) ≡ Ok q)
  unfolding question_text_at
  question_is_read h =
      let k = readable_value question_text (question_at s at) h in
      (question_fields k.value k.next, ap question_read k.reads)

  pub question_prints : {a : QuestionRead} {w w₁ w₂ : Writer} → Ok a ≡ question_read (question_at s at)
      → Writes w (start_text a.name a.rtype a.class) w₁ → Writes w₁ (125 ∷ []) w₂
      → Prints (question_text_at s at) w w₂ a.next
  unfolding question_text_at
  question_prints {w = w} {w₁ = w₁} {w₂ = w₂} p x y =
      entry_case question_fields
      (λ a e. question_at s at ≡ e → Writes w (start_text a.name a.rtype a.class) w₁
      → Prints (texts question_text e) w w₂ a.next)
      (λ q next u x. prints_text (rw (question_parts q (question_sized s at q next u)) (writes_then x y)))
      (question_at s at) p refl x

-- ---- bounds
-- RDATA as a part of the message
module _ (s : List ℕ) (start size : ℕ) where
  rdata_long : length (part s start size) ≤ size
  rdata_long = omega (arith, length-take size (drop start s))

  pub rdata_short : start + size ≤ length s → length s ≤ 65535 → length (part s start size) < 65536
  rdata_short h k = omega (arith, rdata_long)

  pub element_place : (to : ℕ) {n : ℕ} → n ≤ to + 128 + 64 * length (part s start size) → n ≤ to + 2419 + 64 * size
  element_place to h = omega (arith, rdata_long)
