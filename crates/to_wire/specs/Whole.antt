-- The whole text: head, four arrays, and what is judged over all of them.
use Rattle.std.specs.Prelude.{◌≡◌, refl, Bool, true, false, ◌&&◌, List, ◌++◌, ℕ, T, eqb, length, Result, Ok, Err}
use Rattle.std.proofs.Common.{sym, ◌∙◌, ap, ap₂, subst, arith, eq-eqb, ne_eqb, ltb→lt, eqb→eq}
use Rattle.std.proofs.lemmas.Bool.{eqb-false}
use Rattle.octets.specs.Lists.{ascii, all, count, each, u16?}
use Rattle.octets.specs.Bits.{and_left, and_right}
use Rattle.octets.specs.Parsed.{Parsed, parsed, and_then, then_then, strip}
use Rattle.records.specs.Message.{header?, question?, question_form}
use Rattle.json_text.specs.Document.{RecordItem, Item}
use Rattle.strict.specs.Parser.{DocumentParts, Head, head, document_from, document}
use Rattle.strict.specs.Meaning.{counts?}
use Rattle.parse_tokens.specs.declared.Cursor.{Cursor}
use Rattle.parse_tokens.specs.Cursor.{Reached, Passed}
use Rattle.parse_tokens.specs.Step.{Found, found_stays, found_none, found_lit, found_map, found_behind, found_pair}
use Rattle.parse_tokens.specs.Step.{found_at, Put, Puts}
use Rattle.parse_tokens.specs.Step.{put_then, put_from, put_to, put_as, put_judged, Step, Judged}
use Rattle.parse_tokens.specs.Leaf.{found_equal}
use Rattle.parse_tokens.specs.Number.{capped}
use Rattle.to_wire.specs.declared.entries.Element.{Element}
use Rattle.to_wire.specs.declared.entries.Element.TheVariants.{Question as Questions, Record as Records}
use Rattle.to_wire.specs.declared.entries.Element.TheVariants.{Additional as Additionals}
use Rattle.to_wire.specs.declared.entries.Section.{Section}
use Rattle.to_wire.specs.Meant.{settled_by, head_meant?, head_octets, record_meant?, record_octets, item_meant?}
use Rattle.to_wire.specs.Meant.{item_octets, item_opt?, settled_items?, document_meant?, document_octets, head-numbers}
use Rattle.to_wire.specs.Kept.{Told, Kept, kept_stop, kept_lit}
use Rattle.to_wire.specs.Sections.{Thing, at_most_65536, array_parse, SectionFacts, SectionRead}
use Rattle.to_wire.specs.declared.head.Counts.{Counts}
use Rattle.to_wire.specs.declared.head.Header.{Header}
use Rattle.to_wire.specs.Head.{HeadFacts, HeadRead}

-- where a reading starts
abbrev pub start : Cursor
start = record { at = 0; to = 0; meaningful = true; bounded = true }

-- ---- a title and an array
abbrev pub titled_parse : List ℕ → (e : Element) → List ℕ → Parsed (List (Thing e))
titled_parse title e w = and_then (strip title w) (λ u r. array_parse e r)

abbrev pub ArrayRead : List ℕ → Element → ℕ → List ℕ → Reached → List ℕ → Result (Cursor × Section) ℕ → List ℕ → Type 0
ArrayRead title e rcode t c b r b' = Kept (titled_parse title e) (SectionFacts e rcode b b') t c r

pub array_read : {title : List ℕ} (e : Element) (rcode : ℕ) {t b b' : List ℕ} {c d : Reached}
    {r : Result (Cursor × Section) ℕ} → Passed title t c d → SectionRead e rcode t d b r b'
    → ArrayRead title e rcode t c b r b'
array_read e rcode q x = kept_lit q x λ c d r l k z. record {
  put = put_from k z.put;
  counted = z.counted;
  opts = z.opts;
  shown = z.shown;
  eligible = z.eligible;
}

pub array_stop : {title : List ℕ} (e : Element) (rcode : ℕ) {t b b' : List ℕ} {c : Cursor} {n : ℕ}
    → Passed title t (Ok c) (Err n) → ArrayRead title e rcode t (Ok c) b (Err n) b'
array_stop e rcode q = kept_stop (found_lit {P = λ l. Unit {0}} q found_stays)

-- ---- what is judged over all
-- the counts are those of the arrays
abbrev pub agreement : Counts → Counts → Bool
agreement c d = eqb c.questions d.questions
    && (eqb c.answers d.answers && (eqb c.authority d.authority && eqb c.additional d.additional))

-- nothing of the additional section is left unsettled
abbrev pub settled_section : Section → Bool
settled_section s = settled_by (eqb s.opts 1) s.shown s.eligible

abbrev pub consistent? : Counts → Counts → Section → Bool
consistent? told found s = agreement told found && settled_section s

-- a number of 16 bits is a length exactly if what was kept of both is equal
count_same : (n m : ℕ) → T (u16? n) → eqb (capped n) (at_most_65536 m) ≡ eqb n m
count_same n m h = go (eqb n m) refl
  where
    go : (b : Bool) → eqb n m ≡ b → eqb (capped n) (at_most_65536 m) ≡ b
    go true e = eq-eqb (capped n) (at_most_65536 m) (omega (arith, ltb→lt n 65536 h, eqb→eq n m (subst T (sym e) tt)))
    go false e = ne_eqb (capped n) (at_most_65536 m) (λ d. eqb-false n m e (omega (arith, ltb→lt n 65536 h, d)))

lone_same : (n : ℕ) → eqb (at_most_65536 n) 1 ≡ eqb n 1
lone_same n = go (eqb n 1) refl
  where
    go : (b : Bool) → eqb n 1 ≡ b → eqb (at_most_65536 n) 1 ≡ b
    go true e = eq-eqb (at_most_65536 n) 1 (omega (arith, eqb→eq n 1 (subst T (sym e) tt)))
    go false e = ne_eqb (at_most_65536 n) 1 (λ d. eqb-false n 1 e (omega (arith, d)))

-- ---- the whole
-- part by part, with the RCODE that the code has
abbrev parts_meant? : ℕ → DocumentParts → Bool
parts_meant? rcode u =
    head_meant? u.0 && (all question? u.1.0
    && (all record_meant? u.1.1.0 && (all record_meant? u.1.1.1.0 && all (item_meant? rcode) u.1.1.1.1)))

abbrev parts_octets : DocumentParts → List ℕ
parts_octets u = head_octets u.0
    ++ (each question_form u.1.0
    ++ (each record_octets u.1.1.0 ++ (each record_octets u.1.1.1.0 ++ each item_octets u.1.1.1.1)))

abbrev last_parse : List ℕ → Parsed (List Item)
last_parse w = and_then (strip (ascii ",\"additionalRRs\":") w)
    (λ u r. and_then (array_parse Additionals r) λ a w. and_then (strip (ascii "}") w) λ u r. parsed a r)

abbrev pair_parse : {A B : Type 0} → (List ℕ → Parsed A) → (List ℕ → Parsed B) → List ℕ → Parsed (A × B)
pair_parse p q w = and_then (p w) λ a w. and_then (q w) λ b r. parsed (a, b) r

-- the head, four arrays and the brace, one after another
abbrev parts_parse : List ℕ → Parsed DocumentParts
parts_parse = pair_parse head.parse
    (pair_parse (titled_parse (ascii ",\"questionRRs\":") Questions)
    (pair_parse (titled_parse (ascii ",\"answerRRs\":") Records)
    (pair_parse (titled_parse (ascii ",\"authorityRRs\":") Records) last_parse)))

parts_found : {P : Head → Type 0} {Q : List (Thing Questions) → Type 0} {R S : List RecordItem → Type 0}
    {V : List Item → Type 0} {t : List ℕ} {c h q a n r e : Reached} → Found head.parse P t c h
    → Found (titled_parse (ascii ",\"questionRRs\":") Questions) Q t h q
    → Found (titled_parse (ascii ",\"answerRRs\":") Records) R t q a
    → Found (titled_parse (ascii ",\"authorityRRs\":") Records) S t a n
    → Found (titled_parse (ascii ",\"additionalRRs\":") Additionals) V t n r → Passed (ascii "}") t r e
    → Found parts_parse (λ u. P u.0 × (Q u.1.0 × (R u.1.1.0 × (S u.1.1.1.0 × V u.1.1.1.1)))) t c e
parts_found x q a n r l =
    found_pair x (found_pair q (found_pair a (found_pair n
    (found_equal last_parse (λ w. last (strip (ascii ",\"additionalRRs\":") w)) (found_behind r l)))))
  where
    last : (o : Parsed (Unit {0}))
        → and_then (and_then o (λ u r. array_parse Additionals r))
        (λ a w. and_then (strip (ascii "}") w) λ u r. parsed a r) ≡ and_then o
        (λ u r. and_then (array_parse Additionals r) λ a w. and_then (strip (ascii "}") w) λ u r. parsed a r)
    last o = then_then o _ _

abbrev pub DocumentStep : List ℕ → List ℕ → Reached → List ℕ → Type 0
DocumentStep t b r b' = Step document_meant? document_octets document.parse t (Ok start) b r b'

-- a part after a stop
pub part_stays : {A : Type 0} {p : List ℕ → Parsed A} {t : List ℕ} {n : ℕ} → Found p (λ a. Unit {0}) t (Err n) (Err n)
part_stays = found_stays

-- a stop in one of the parts
pub document_stop : {P : Head → Type 0} {Q : List (Thing Questions) → Type 0} {R S : List RecordItem → Type 0}
    {V : List Item → Type 0} {t b b' : List ℕ} {h q a n r : Reached} {k : ℕ} → Found head.parse P t (Ok start) h
    → Found (titled_parse (ascii ",\"questionRRs\":") Questions) Q t h q
    → Found (titled_parse (ascii ",\"answerRRs\":") Records) R t q a
    → Found (titled_parse (ascii ",\"authorityRRs\":") Records) S t a n
    → Found (titled_parse (ascii ",\"additionalRRs\":") Additionals) V t n r → Passed (ascii "}") t r (Err k)
    → DocumentStep t b (Err k) b'
unfolding document
document_stop x q a n r l = found_none (found_map {Q = λ d. Unit {0}} document_from (λ u k. tt) (parts_found x q a n r l))

module _ {t b b₁ b₂ b₃ b₄ b₅ : List ℕ} {h : Header} {questions answers authority additional : Section}
    {c₁ c₂ c₃ c₄ c₅ e d : Cursor} {f : Bool} where
  pub document_read : HeadRead t start b (Ok (c₁, h)) b₁
      → ArrayRead (ascii ",\"questionRRs\":") Questions h.rcode t (Ok c₁) b₁ (Ok (c₂, questions)) b₂
      → ArrayRead (ascii ",\"answerRRs\":") Records h.rcode t (Ok c₂) b₂ (Ok (c₃, answers)) b₃
      → ArrayRead (ascii ",\"authorityRRs\":") Records h.rcode t (Ok c₃) b₃ (Ok (c₄, authority)) b₄
      → ArrayRead (ascii ",\"additionalRRs\":") Additionals h.rcode t (Ok c₄) b₄ (Ok (c₅, additional)) b₅
      → Passed (ascii "}") t (Ok c₅) (Ok e) → Judged f e d
      → f ≡ consistent? h.counts (record {
        questions = questions.count;
        answers = answers.count;
        authority = authority.count;
        additional = additional.count;
      }) additional
      → DocumentStep t b (Ok d) b₅
  unfolding document document_octets document_meant? counts?
  document_read p v w x y l j g =
      found_map document_from (λ u k. k)
      (found_at {Q = λ u. Puts document_meant? document_octets (Ok start) b (Ok d) b₅ (document_from u)}
      (parts_found p.found v.found w.found x.found y.found l) j.at (omega (arith, j.to, l.keeps.moves.within.0.room)) told)
    where
      nested : (a b c d : Bool) → (a && b && c && d) ≡ (a && (b && (c && d)))
      nested true true c d = refl
      nested true false c d = refl
      nested false b c d = refl

      Facts : DocumentParts → Type 0
      Facts u = Told (λ c x. HeadFacts b b₁ c x u.0) (Ok start) (Ok (c₁, h))
          × (Told (λ c x. SectionFacts Questions h.rcode b₁ b₂ c x u.1.0) (Ok c₁) (Ok (c₂, questions))
          × (Told (λ c x. SectionFacts Records h.rcode b₂ b₃ c x u.1.1.0) (Ok c₂) (Ok (c₃, answers))
          × (Told (λ c x. SectionFacts Records h.rcode b₃ b₄ c x u.1.1.1.0) (Ok c₃) (Ok (c₄, authority))
          × Told (λ c x. SectionFacts Additionals h.rcode b₄ b₅ c x u.1.1.1.1) (Ok c₄) (Ok (c₅, additional)))))

      told : (u : DocumentParts) → Facts u
          → Puts document_meant? document_octets (Ok start) b (Ok d) b₅ (document_from u)
      told u k = record { holds = put_as judged refl (put_judged {ok' = λ u. parts_meant? h.rcode u && f} all_put j refl) }
        where
          all_put : Put {A = DocumentParts} (parts_meant? h.rcode) parts_octets start b e b₅ u
          all_put = put_as refl refl
              (put_then k.0.holds.0 (put_then k.1.0.holds.put
              (put_then k.1.1.0.holds.put (put_then k.1.1.1.0.holds.put
              (put_to k.1.1.1.1.holds.put l.keeps.alike.holds)))))

          judged : document_meant? (document_from u) ≡ (parts_meant? h.rcode u && f)
          judged = by_head (head_meant? u.0) refl
            where
              rest : ℕ → Bool
              rest rcode = all question? u.1.0
                  && (all record_meant? u.1.1.0
                  && (all record_meant? u.1.1.1.0 && all (item_meant? rcode) u.1.1.1.1))

              by_head : (x : Bool) → head_meant? u.0 ≡ x
                  → document_meant? (document_from u) ≡ (parts_meant? h.rcode u && f)
              by_head false e = rw e
              by_head true e =
                  let c : h.rcode ≡ u.0.0.rcode = k.0.holds.1.rcode (subst T (sym (k.0.holds.0.meaningful ∙ e)) tt) in
                  rw (e, c) (by_rest c (rest u.0.0.rcode) refl)
                where
                  by_rest : h.rcode ≡ u.0.0.rcode → (x : Bool) → rest u.0.0.rcode ≡ x
                      → rest u.0.0.rcode
                      && (counts? (document_from u) && settled_items? (document_from u)) ≡ (rest u.0.0.rcode && f)
                  by_rest c false d = rw d
                  by_rest c true d = rw d (ap₂ ◌&&◌ counts settled ∙ sym g)
                    where
                      words : T (u16? u.0.1.0
                          && (u16? u.0.1.1.0 && (u16? u.0.1.1.1.0 && u16? u.0.1.1.1.1)))
                      words = and_right (header? u.0.0) _
                          (subst T (sym (sym (head-numbers u.0.0 u.0.1.0 u.0.1.1.0 u.0.1.1.1.0
                          u.0.1.1.1.1) ∙ e)) tt)

                      w2 : T (u16? u.0.1.1.0 && (u16? u.0.1.1.1.0 && u16? u.0.1.1.1.1))
                      w2 = and_right (u16? u.0.1.0) _ words

                      w3 : T (u16? u.0.1.1.1.0 && u16? u.0.1.1.1.1)
                      w3 = and_right (u16? u.0.1.1.0) _ w2

                      counts : counts? (document_from u)
                          ≡ agreement h.counts (record {
                            questions = questions.count;
                            answers = answers.count;
                            authority = authority.count;
                            additional = additional.count;
                          })
                      counts =
                          rw (
                            k.0.holds.1.counts.0,
                            k.0.holds.1.counts.1.0,
                            k.0.holds.1.counts.1.1.0,
                            k.0.holds.1.counts.1.1.1,
                            k.1.0.holds.counted,
                            k.1.1.0.holds.counted,
                            k.1.1.1.0.holds.counted,
                            k.1.1.1.1.holds.counted,
                            count_same u.0.1.0 (length u.1.0) (and_left (u16? u.0.1.0) _ words),
                            count_same u.0.1.1.0 (length u.1.1.0) (and_left (u16? u.0.1.1.0) _ w2),
                            count_same u.0.1.1.1.0 (length u.1.1.1.0)
                                (and_left (u16? u.0.1.1.1.0) _ w3),
                            count_same u.0.1.1.1.1 (length u.1.1.1.1)
                                (and_right (u16? u.0.1.1.1.0) _ w3),
                          )
                          (nested (eqb u.0.1.0 (length u.1.0)) (eqb u.0.1.1.0 (length u.1.1.0))
                          (eqb u.0.1.1.1.0 (length u.1.1.1.0))
                          (eqb u.0.1.1.1.1 (length u.1.1.1.1)))

                      all_meant : T c₅.meaningful
                      all_meant = subst T l.keeps.alike.holds.meaningful
                          (subst T (sym (all_put.meaningful ∙ ap (λ x. x && rest h.rcode) e ∙ ap rest c ∙ d)) tt)

                      settled : settled_items? (document_from u) ≡ settled_section additional
                      settled = rw (
                        k.1.1.1.1.holds.opts,
                        k.1.1.1.1.holds.shown,
                        k.1.1.1.1.holds.eligible all_meant,
                        c,
                        lone_same (count item_opt? u.1.1.1.1),
                      )
