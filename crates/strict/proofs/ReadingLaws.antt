-- Texts and the messages they say: each text is that of one message, and the reader takes just the texts of messages
-- within the limits.
use mathlib.Core.Path.{◌≡◌, refl, sym, ◌∙◌, ap}
use mathlib.Core.Logic.{◌↔◌}
use mathlib.Core.Bool.{Bool, true, false, cond}
use mathlib.Core.Option.{Option, none, some, some-injective, none-ne-some}
use mathlib.Core.List.{List, [], ◌∷◌, ◌++◌, nil≢cons}
use Prim.Native.Nat.{ℕ, ◌≤◌}
use lib.Dec.{T, le→leb, leb→le}
use lib.ListN.{length}
use Rattle.octets.specs.Lists.{All, Octets}
use Rattle.octets.specs.Bits.{is_true}
use Rattle.octets.specs.Parsed.{Parsed, parsed, failed}
use Rattle.octets.specs.Codec.{Splits}
use Rattle.octets.specs.Answer.{Output, output, refused}
use Rattle.records.specs.Message.{Message, form, valid?}
use Rattle.records.specs.Decode.{accepted, decode}
use Rattle.records.proofs.MessageLaws.{decode-form, decode_valid}
use Rattle.json_text.specs.View.{View, view?, view_of, message_of}
use Rattle.json_text.proofs.ViewLaws.{message_view, view_valid, view_message, message_valid, small_form, within_small}
use Rattle.json_text.specs.Limits.{within?}
use Rattle.json_text.specs.Document.{Document, document_text}
use Rattle.json_text.specs.Text.{document_of, view_text, text}
use Rattle.json_text.specs.Converted.{converted}
use Rattle.strict.specs.Meaning.{meaning}
use Rattle.strict.proofs.MeaningLaws.{view_in, meaning-document, document-meaning}
use Rattle.strict.specs.Parser.{parse, parse_exact, parse_ends, document_unique, document-filled}
use Rattle.strict.proofs.Visible.{visible}
use Rattle.strict.specs.Reading.{of_meaning, of_parsed, reading}

-- ---- a text and its meaning
-- the text means the view: it is within the grammar, and its document has this meaning
pub record Means (t : List ℕ) (v : View) : Type 0 where
  pub document : Document
  pub parses : parse t ≡ parsed document []
  pub means : meaning document ≡ some v

-- a text has a meaning exactly if a message, of any size, has this text
pub means_text : (t : List ℕ) (v : View) → Means t v ↔ (T (view? v) × (view_text v ≡ t))
unfolding view_text
means_text t v = (forward, backward)
  where
    forward : Means t v → T (view? v) × (document_text (document_of v) ≡ t)
    forward m =
        let e = (parse_exact t m.document).0 m.parses in
        let k = document-meaning m.document v e.0 m.means in
        (k.1, ap document_text k.0 ∙ e.1)

    backward : T (view? v) × (document_text (document_of v) ≡ t) → Means t v
    backward h = record {
      document = document_of v;
      parses = (parse_exact t (document_of v)).1 (view_in v h.0, h.1);
      means = meaning-document v h.0;
    }

-- the texts of views split in one way only
pub view_splits : Splits (λ v. T (view? v)) view_text
unfolding view_text
view_splits v w r s h k e =
    let u = document_unique (document_of v) (document_of w) r s (view_in v h) (view_in w k) e in
    (some-injective v w (sym (meaning-document v h) ∙ ap meaning u.0 ∙ meaning-document w k), u.1)

-- and so do the texts of messages
pub text_splits : Splits (λ m. T (valid? m)) text
unfolding text
text_splits m n r s h k e =
    let u = view_splits (view_of m) (view_of n) r s (view_valid m h) (view_valid n k) e in
    (sym (message_view m h) ∙ ap message_of u.0 ∙ message_view n k, u.1)

-- no text is empty
pub text-filled : (m : Message) → text m ≡ [] → ⊥
unfolding text view_text
text-filled m e = document-filled (document_of (view_of m)) e

-- every octet of a text lies in 0x20 to 0x7E
pub text_visible : (m : Message) → T (valid? m) → All (λ c. (32 ≤ c) × (c ≤ 126)) (text m)
unfolding text view_text
text_visible m h = visible (document_of (view_of m)) (view_in (view_of m) (view_valid m h))

-- the meaning of a text is unique
pub means_one : (t : List ℕ) (v w : View) → Means t v → Means t w → v ≡ w
means_one t v w p q =
    let a = (means_text t v).0 p in
    let b = (means_text t w).0 q in
    (view_splits v w [] [] a.0 b.0 (ap (λ l. l ++ []) (a.1 ∙ sym b.1))).0

-- ---- the reader
-- a valid message whose form is at most 65,535 octets long
abbrev pub Whole : Message → Type 0
Whole m = T (valid? m) × (length (form m) ≤ 65535)

-- the reader gives the form of the message whose text it is given
pub reads_text : (m : Message) → Whole m → reading (text m) ≡ output (form m)
unfolding reading text
reads_text m h =
    let v = view_of m in
    let k = (means_text (view_text v) v).1 (view_valid m h.0, refl) in
    let e : message_of v ≡ m = message_view m h.0 in
    let w : T (within? v) = small_form v (rw e (le→leb (length (form m)) 65535 h.1)) in
    rw (k.parses, k.means, is_true (within? v) w, e)

-- what the reader took
pub record Read (t o : List ℕ) : Type 0 where
  pub message : Message
  pub whole : Whole message
  pub its_text : text message ≡ t
  pub its_form : form message ≡ o

output_octets : {l m : List ℕ} → output l ≡ output m → l ≡ m
output_octets e = ap octets e
  where
    octets : Output → List ℕ
    octets (output l) = l
    octets (refused n p) = []

refused≢output : {n p : ℕ} {l : List ℕ} {X : Type 0} → refused n p ≡ output l → X
refused≢output e = absurd (none-ne-some {A = ℕ} 0 (ap side e))
  where
    side : Output → Option ℕ
    side (output l) = some 0
    side (refused n p) = none

-- the reader takes nothing but texts of such messages
pub read_only : (t o : List ℕ) → reading t ≡ output o → Read t o
unfolding reading text
read_only t o e = first (parse t) refl e
  where
    third : (v : View) → Means t v → (b : Bool) → within? v ≡ b
        → cond b (output (form (message_of v))) (refused 22 0) ≡ output o → Read t o
    third v m true w e =
        let k = (means_text t v).0 m in
        let s = within_small v (rw w tt) in
        let q : view_of (message_of v) ≡ v = view_message v k.0 s.1 in
        record {
          message = message_of v;
          whole = (message_valid v k.0, leb→le (length (form (message_of v))) 65535 s.0);
          its_text = ap view_text q ∙ k.1;
          its_form = output_octets e;
        }
    third v m false w e = refused≢output e

    second : (d : Document) → parse t ≡ parsed d [] → (v : Option View) → meaning d ≡ v → of_meaning v ≡ output o
        → Read t o
    second d p none q e = refused≢output e
    second d p (some v) q e = third v (record { document = d; parses = p; means = q }) (within? v) refl e

    first : (p : Parsed Document) → parse t ≡ p → of_parsed t p ≡ output o → Read t o
    first (parsed d []) q e = second d q (meaning d) refl e
    first (parsed d (x ∷ r)) q e = absurd (nil≢cons (sym (parse_ends t d (x ∷ r) q)))
    first (failed w) q e = refused≢output e

-- ---- both round trips
-- reading the text of an accepted message gives its uncompressed form
pub there_and_back : (s : List ℕ) (m : Message) → Octets s → decode s ≡ accepted m → reading (text m) ≡ output (form m)
there_and_back s m h e = reads_text m (decode_valid s m h e)

-- converting what the reader gave writes the same text
pub back_and_there : (t o : List ℕ) → reading t ≡ output o → converted o ≡ output t
unfolding converted
back_and_there t o e =
    let r = read_only t o e in
    rw (← r.its_form, decode-form r.message r.whole.0 r.whole.1, r.its_text)
