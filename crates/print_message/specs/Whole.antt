-- The text by the octets of an accepted message is the text of the message.
use Rattle.std.specs.Prelude.{◌≡◌, Bool, eqb, length}
use Rattle.std.proofs.Math.Path.{refl, ap}
use Rattle.std.proofs.Common.{sym, ◌∙◌, subst}
use Rattle.std.proofs.Math.Bool.{true, false}
use mathlib.Core.List.{List, [], ◌∷◌, ◌++◌, map, append_assoc}
use Prim.Native.Nat.{ℕ, zero, suc, ◌≤◌}
use Rattle.octets.specs.Lists.{ascii, ended, listed, count}
use Rattle.octets.specs.Fields.{be16_at}
use Rattle.octets.specs.Writes.{Writes}
use Rattle.octets.specs.declared.writer.Writer.{Writer}
use Rattle.records.specs.Message.{Record, Message, opt?}
use Rattle.records.specs.Read.{Entry, entry, bad, Reached, reached, stopped, Section, question_at, record_at, section_at}
use Rattle.records.specs.Read.{section_from}
use Rattle.records.specs.Decode.{header_of, sections_of, message_read, Decoded, accepted, refused, decode}
use Rattle.records.specs.RecordLaws.{entry_value}
use Rattle.records.proofs.MessageLaws.{section_step, section_stop, from_reached, section_count, from_count, decode_back}
use Rattle.records.proofs.MessageLaws.{stopped≢reached}
use Rattle.json_text.specs.View.{Additional, additional_of, view_of}
use Rattle.json_text.proofs.ViewLaws.{entry_of, map-long, additional_map}
use Rattle.json_text.specs.Document.{Document, question_text, record_text, item_text, document_text}
use Rattle.json_text.specs.Text.{record_item, item, document_of, view_text, text}
use Rattle.print_entry.specs.Prints.{texts, entry_then, Readable, readable_value, readable_first, readable_then}
use Rattle.print_entry.specs.Prints.{Prints, prints_after, prints_then}
use Rattle.print_entry.specs.Elements.{rcode_of, question_text_at, entry_text, record_text_at, text_at}
use Rattle.print_entry.specs.declared.Element.{Element}
use Rattle.print_entry.specs.declared.Element.TheVariants as element
use Rattle.print_message.specs.Head.{head_text_at, head_at}
use Rattle.print_message.specs.Arrays.{comma, rest_text, array_text, section_text, from_additional, from_authority}
use Rattle.print_message.specs.Arrays.{from_answers, front_text, whole_text, whole_parts}

-- ---- sections
abbrev offset : Reached → ℕ
offset (reached at) = at
offset (stopped at fault) = at

-- the entries of a section after another
module _ {A : Type 0} (read : List ℕ → ℕ → Entry A) (s : List ℕ) where
  from_entries : (n : ℕ) (w : Reached) (at : ℕ) → w ≡ reached at
      → (section_from read s n w).entries ≡ (section_at read s n at).entries
  unfolding section_from
  from_entries n w at e = ap (λ (w : Reached). (section_from read s n w).entries) e

-- ---- arrays of the entries that are read
module _ {A : Type 0} (f : A → List ℕ) (read : List ℕ → ℕ → Entry A) (e : Element) (s : List ℕ) (same : (at : ℕ)
    → text_at e s at ≡ texts f (read s at)) where
  -- after the first
  later-text : (n at i : ℕ) → (section_at read s n at).end ≡ reached i
      → rest_text e s false n at ≡ entry (ended (λ b. 44 ∷ f b) 93 (section_at read s n at).entries) i
  unfolding section_at rest_text
  later-text zero at i q = ap (λ (k : ℕ). entry (93 ∷ []) k) (ap offset q)
  later-text (suc n) at i q = go (read s at) refl (later-text n)
    where
      go : (w : Entry A) → read s at ≡ w
          → ((j k : ℕ) → (section_at read s n j).end ≡ reached k
          → rest_text e s false n j ≡ entry (ended (λ b. 44 ∷ f b) 93 (section_at read s n j).entries) k)
          → rest_text e s false (suc n) at ≡ entry (ended (λ b. 44 ∷ f b) 93 (section_at read s (suc n) at).entries) i
      go (entry a next) p g =
          ap (λ (x : Entry (List ℕ)). entry_then (texts (λ t. comma false ++ t) x) (rest_text e s false n))
          (same at ∙ ap (texts f) p)
          ∙ ap (texts (λ u. (44 ∷ f a) ++ u)) (g next i (rw (section_step read s n at a next p) at q))
          ∙ ap (λ (x : Section A). entry (ended (λ b. 44 ∷ f b) 93 x.entries) i)
          (sym (section_step read s n at a next p))
      go (bad fault) p g = absurd (stopped≢reached (rw (section_stop read s n at fault p) at q))

  array-text : (n at i : ℕ) → (section_at read s n at).end ≡ reached i
      → array_text e s n at ≡ entry (listed f (section_at read s n at).entries) i
  unfolding section_at rest_text array_text
  array-text zero at i q = ap (λ (k : ℕ). entry (91 ∷ 93 ∷ []) k) (ap offset q)
  array-text (suc n) at i q = go (read s at) refl
    where
      go : (w : Entry A) → read s at ≡ w
          → array_text e s (suc n) at ≡ entry (listed f (section_at read s (suc n) at).entries) i
      go (entry a next) p =
          ap (λ (x : Entry (List ℕ)). texts (λ t. (91 ∷ []) ++ t)
          (entry_then (texts (λ t. comma true ++ t) x) (rest_text e s false n))) (same at ∙ ap (texts f) p)
          ∙ ap (λ (x : Entry (List ℕ)). texts (λ t. (91 ∷ []) ++ t) (texts (λ u. f a ++ u) x))
          (later-text n next i (rw (section_step read s n at a next p) at q))
          ∙ ap (λ (x : Section A). entry (listed f x.entries) i) (sym (section_step read s n at a next p))
      go (bad fault) p = absurd (stopped≢reached (rw (section_stop read s n at fault p) at q))

  section_text_lem : (title l : List ℕ) (n at i : ℕ) → (section_at read s n at).end ≡ reached i
      → listed f (section_at read s n at).entries ≡ l → section_text title e s n at ≡ entry (title ++ l) i
  unfolding section_text
  section_text_lem title l n at i q p = ap (texts (λ t. title ++ t)) (array-text n at i q)
      ∙ ap (λ (m : List ℕ). entry (title ++ m) i) p

-- the texts of the elements are those of the entries
question_same : (s : List ℕ) (at : ℕ) → text_at element.Question s at ≡ texts question_text (question_at s at)
unfolding text_at question_text_at
question_same s at = refl

entry_same : (lone : Bool) (s : List ℕ) (at : ℕ)
    → text_at (element.Record lone) s at ≡ texts (entry_text (rcode_of s) lone) (record_at s at)
unfolding text_at record_text_at
entry_same lone s at = refl

record_same : (s : List ℕ) (at : ℕ)
    → text_at (element.Record false) s at ≡ texts (λ (r : Record). record_text (record_item r)) (record_at s at)
unfolding text_at record_text_at entry_text item_text item
record_same s at = refl

-- ---- texts of lists
module _ {A B : Type 0} (f : B → List ℕ) (g : A → B) where
  ended-map : (l : List A) → ended (λ b. 44 ∷ f b) 93 (map g l) ≡ ended (λ a. 44 ∷ f (g a)) 93 l
  ended-map [] = refl
  ended-map (a ∷ l) = ap (λ (t : List ℕ). (44 ∷ f (g a)) ++ t) (ended-map l)

  listed-map : (l : List A) → listed f (map g l) ≡ listed (λ a. f (g a)) l
  listed-map [] = refl
  listed-map (a ∷ l) = ap (λ (t : List ℕ). 91 ∷ (f (g a) ++ t)) (ended-map l)

-- the elements of the additional section
additional_text_lem : (rcode : ℕ) (l : List Record)
    → listed item_text (map (item rcode) (additional_of rcode l)) ≡ listed (entry_text rcode (eqb (count opt? l) 1)) l
unfolding entry_text
additional_text_lem rcode l =
    ap (λ (m : List Additional). listed item_text (map (item rcode) m)) (additional_map rcode l)
    ∙ listed-map item_text (item rcode) (map (entry_of rcode (eqb (count opt? l) 1)) l)
    ∙ listed-map (λ (a : Additional). item_text (item rcode a)) (entry_of rcode (eqb (count opt? l) 1)) l

additional_long : (rcode : ℕ) (l : List Record) → length (additional_of rcode l) ≡ length l
additional_long rcode l = ap length (additional_map rcode l) ∙ map-long (entry_of rcode (eqb (count opt? l) 1)) l

-- ---- the whole
joined : (h t₁ l₁ t₂ l₂ t₃ l₃ t₄ l₄ z : List ℕ)
    → h ++ (t₁ ++ l₁ ++ (t₂ ++ l₂ ++ (t₃ ++ l₃ ++ (t₄ ++ l₄ ++ z)))) ≡ h ++ t₁ ++ l₁ ++ t₂ ++ l₂ ++ t₃ ++ l₃ ++ t₄ ++ l₄
    ++ z
joined h t₁ l₁ t₂ l₂ t₃ l₃ t₄ l₄ z = simp append_assoc

-- the text of a document by its parts
document_parts : (s : List ℕ) (d : Document) → d.header ≡ header_of s → d.qdcount ≡ be16_at s 4
    → d.ancount ≡ be16_at s 6
    → d.nscount ≡ be16_at s 8 → d.arcount ≡ be16_at s 10
    → head_text_at s
    ++ (ascii ",\"questionRRs\":" ++ listed question_text d.questions
    ++ (ascii ",\"answerRRs\":" ++ listed record_text d.answers
    ++ (ascii ",\"authorityRRs\":" ++ listed record_text d.authority
    ++ (ascii ",\"additionalRRs\":" ++ listed item_text d.additional
    ++ ascii "}")))) ≡ document_text d
unfolding document_text
document_parts s d h q a n r =
    joined (head_text_at s) (ascii ",\"questionRRs\":") (listed question_text d.questions) (ascii ",\"answerRRs\":")
    (listed record_text d.answers)
    (ascii ",\"authorityRRs\":") (listed record_text d.authority) (ascii ",\"additionalRRs\":")
    (listed item_text d.additional) (ascii "}")
    ∙ ap (λ (t : List ℕ). t
    ++ ascii ",\"questionRRs\":" ++ listed question_text d.questions
    ++ ascii ",\"answerRRs\":" ++ listed record_text d.answers
    ++ ascii ",\"authorityRRs\":" ++ listed record_text d.authority
    ++ ascii ",\"additionalRRs\":" ++ listed item_text d.additional
    ++ ascii "}") (sym (head_at s d h q a n r))

-- a text, and then another
on_text : {e : Entry (List ℕ)} (f : ℕ → Entry (List ℕ)) {t u : List ℕ} {i j : ℕ} → e ≡ entry t i → f i ≡ entry u j
    → entry_then e f ≡ entry (t ++ u) j
on_text f {t} p q = ap (λ (x : Entry (List ℕ)). entry_then x f) p ∙ ap (texts (λ v. t ++ v)) q

-- octets whose sections are read to their end
sections_text : (s : List ℕ) (i : ℕ) → (sections_of s).additional.end ≡ reached i
    → whole_text (eqb (count opt? (message_read s).additional) 1) s ≡ entry (text (message_read s)) i
unfolding sections_of message_read whole_text from_authority text view_text document_of view_of header_of
sections_text s i e =
    let lone = eqb (count opt? (message_read s).additional) 1 in
    let f₁ = section_at question_at s (be16_at s 4) 12 in
    let f₂ = section_from record_at s (be16_at s 6) f₁.end in
    let f₃ = section_from record_at s (be16_at s 8) f₂.end in
    let f₄ = section_from record_at s (be16_at s 10) f₃.end in
    let (i₃, p₃, g₄) = from_reached record_at s (be16_at s 10) f₃.end i e in
    let (i₂, p₂, g₃) = from_reached record_at s (be16_at s 8) f₂.end i₃ p₃ in
    let (i₁, p₁, g₂) = from_reached record_at s (be16_at s 6) f₁.end i₂ p₂ in
    let as_text : Record → List ℕ = λ r. record_text (record_item r) in
    let d = document_of (view_of (message_read s)) in
    let l₂ : listed as_text (section_at record_at s (be16_at s 6) i₁).entries ≡ listed record_text d.answers =
    ap (listed as_text) (sym (from_entries record_at s (be16_at s 6) f₁.end i₁ p₁))
    ∙ sym (listed-map record_text record_item f₂.entries) in
    let l₃ : listed as_text (section_at record_at s (be16_at s 8) i₂).entries ≡ listed record_text d.authority =
    ap (listed as_text) (sym (from_entries record_at s (be16_at s 8) f₂.end i₂ p₂))
    ∙ sym (listed-map record_text record_item f₃.entries) in
    let l₄ : listed (entry_text (rcode_of s) lone) (section_at record_at s (be16_at s 10) i₃).entries ≡ listed item_text
    d.additional =
    ap (listed (entry_text (rcode_of s) lone)) (sym (from_entries record_at s (be16_at s 10) f₃.end i₃ p₃))
    ∙ sym (additional_text_lem (rcode_of s) f₄.entries) in
    let t₄ = on_text (λ next. entry (ascii "}") next)
    (section_text_lem (entry_text (rcode_of s) lone) record_at (element.Record lone) s (entry_same lone s)
    (ascii ",\"additionalRRs\":") _ (be16_at s 10) i₃ i g₄ l₄) refl in
    let t₃ = on_text (from_additional lone s)
    (section_text_lem as_text record_at (element.Record false) s (record_same s) (ascii ",\"authorityRRs\":") _
    (be16_at s 8) i₂ i₃ g₃ l₃) t₄ in
    let t₂ = on_text (from_authority lone s)
    (section_text_lem as_text record_at (element.Record false) s (record_same s) (ascii ",\"answerRRs\":") _
    (be16_at s 6) i₁ i₂ g₂ l₂) t₃ in
    let t₁ = on_text (from_answers lone s) (section_text_lem question_text question_at element.Question s (question_same s)
    (ascii ",\"questionRRs\":") _ (be16_at s 4) 12 i₁ p₁ refl) t₂ in
    ap (texts (λ t. head_text_at s ++ t)) t₁
    ∙ ap (λ (a : List ℕ). entry a i) (document_parts s d refl
    (section_count question_at s (be16_at s 4) 12 i₁ p₁)
    (from_count record_at s (be16_at s 6) f₁.end i₂ p₂)
    (from_count record_at s (be16_at s 8) f₂.end i₃ p₃)
    (additional_long (rcode_of s) f₄.entries ∙ from_count record_at s (be16_at s 10) f₃.end i e))

-- ---- accepted messages
-- the text of the message, none of octets that are refused
abbrev pub text_from : Decoded → List ℕ
text_from (accepted m) = text m
text_from (refused number place) = []

unfoldable pub profile_text : List ℕ → List ℕ
profile_text s = text_from (decode s)

-- the octets are a message's; `lone` says whether its additional section has one TYPE 41 record
pub record AcceptedMessage (s : List ℕ) (lone : Bool) : Type 0 where
  pub message : Message
  pub decodes : decode s ≡ accepted message
  pub alone : lone ≡ eqb (count opt? message.additional) 1

module _ {s : List ℕ} {lone : Bool} (a : AcceptedMessage s lone) where
  pub accepted_room : 12 ≤ length s
  accepted_room = (decode_back s a.message a.decodes).room

  pub accepted_small : length s ≤ 65535
  accepted_small = (decode_back s a.message a.decodes).small

  -- the text by the octets is the text of the message
  whole-text : (last : ℕ) × (whole_text lone s ≡ entry (profile_text s) last)
  unfolding profile_text
  whole-text =
      let m = a.message in
      let k = decode_back s m a.decodes in (
        k.last,
        rw (a.alone, a.decodes)
            (subst (λ (n : Message). whole_text (eqb (count opt? n.additional) 1) s ≡ entry (text n) k.last)
            k.same (sections_text s k.last k.came)),
      )

  whole_readable : Readable (whole_text lone s)
  whole_readable = record { value = profile_text s; next = whole-text.0; reads = whole-text.1 }

  sections_readable : Readable (entry_then (front_text s 12) (from_authority lone s))
  sections_readable =
      readable_value (λ t. head_text_at s ++ t) (entry_then (front_text s 12) (from_authority lone s))
      (rw (whole_parts lone s) at whole_readable)

  pub front_readable : Readable (front_text s 12)
  front_readable = readable_first (front_text s 12) (from_authority lone s) sections_readable

  -- two sections are written, and then the rest
  module _ {w₁ w₂ : Writer} {at : ℕ} (p : Prints (front_text s 12) w₁ w₂ at) where
    pub back_readable : Readable (from_authority lone s at)
    back_readable = readable_then (front_text s 12) (from_authority lone s) p sections_readable

    pub accepted_text : {w w₃ : Writer} {next : ℕ} → Writes w (head_text_at s) w₁
        → Prints (from_authority lone s at) w₂ w₃ next → Writes w (profile_text s) w₃
    accepted_text {w} {w₃} {next} h q =
        let v : Prints (whole_text lone s) w w₃ next =
        rw (whole_parts lone s) (prints_after h (prints_then (front_text s 12) (from_authority lone s) p q)) in
        subst (λ (t : List ℕ). Writes w t w₃) (entry_value (sym v.reads ∙ whole-text.1)) v.wrote
