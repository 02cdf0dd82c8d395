-- The demands on the conversion of messages to text, over its calls. The statements are in FrontPage.antt.
use Rattle.std.specs.Prelude.{◌≡◌, refl, ◌↔◌, ◌⊎◌, ℕ, ◌≤◌, ◌<◌, drop}
use Rattle.std.proofs.Common.{sym, ◌∙◌, ap, ap₂, subst, inl, inr, arith}
use mathlib.Core.List.{List, [], ◌∷◌, ◌++◌, map, flatten, head-eq_of_cons-eq, tail-eq_of_cons-eq, nil≢cons}
use Rattle.std.proofs.Math.Dec.{T}
use Rattle.std.proofs.Math.ListN.{length}
use Rattle.octets.specs.Lists.{All}
use Rattle.octets.specs.Codec.{streams, prefix_free}
use Rattle.octets.specs.Answer.{Output, output, success, refusal, reported, delivered-room}
use Rattle.octets.specs.Answer as answer
use Rattle.octets.specs.Calls.{Call, written_by}
use Rattle.records.specs.Message.{Message, form, valid?}
use Rattle.records.specs.Decode.{Decoded, accepted, refused, decode}
use Rattle.records.proofs.MessageLaws.{decode_valid, decode-form, form-octets, forms_equal}
use Rattle.records.proofs.Places.{PlacedIn, decode_placed}
use Rattle.json_text.specs.Text.{text}
use Rattle.json_text.proofs.Bound.{text_short}
use Rattle.json_text.specs.Converted.{output_of, converted, to_text, Converts}
use Rattle.strict.proofs.ReadingLaws.{Whole, text_splits, text-filled, text_visible}
use Rattle.demands.specs.FrontPage.Words.{room, Accepted, Length, FitsIn, Room, stream, add_form, forms_of}
use Rattle.demands.proofs.Delivered.{call_succeeds, call_refuses, call_leaves, call_stays, calls_same}

-- ---- demand 1
pub same : (c d : Call) → Converts c → Converts d → c.input ≡ d.input → room c ≡ room d
    → (c.answer ≡ d.answer) × (written_by c ≡ written_by d)
unfolding to_text
same c d p q e n = calls_same 10 (converted d.input) c (rw e at p).promise d q.promise n

-- ---- what was decoded, by the output
octets_in : Output → List ℕ
octets_in (output l) = l
octets_in (answer.refused k p) = []

Written : Output → Type 0
Written (output l) = Unit {0}
Written (answer.refused k p) = ⊥

number_in : Output → ℕ
number_in (output l) = 0
number_in (answer.refused k p) = k

place_in : Output → ℕ
place_in (output l) = 0
place_in (answer.refused k p) = p

outputs : (d : Decoded) (l : List ℕ) → output_of d ≡ output l → (m : Message) × (d ≡ accepted m) × (text m ≡ l)
unfolding octets_in Written
outputs (accepted m) l e = (m, refl, ap octets_in e)
outputs (refused k p) l e = absurd (subst Written (sym e) tt)

refuses : (d : Decoded) (k p : ℕ) → output_of d ≡ answer.refused k p → d ≡ refused k p
unfolding Written number_in place_in
refuses (accepted m) k p e = absurd (subst Written e tt)
refuses (refused j q) k p e = ap₂ refused (ap number_in e) (ap place_in e)

module _ (c : Call) (made : Converts c) where
  pub stays : drop (reported c.answer) c.after ≡ drop (reported c.answer) c.before
  unfolding to_text
  stays = call_stays 10 (converted c.input) c made.promise

  pub leaves : (k p : ℕ) → c.answer ≡ refusal k p → c.after ≡ c.before
  unfolding to_text
  leaves = call_leaves 10 (converted c.input) c made.promise

  -- ---- demand 2, its writing half
  pub accepts : (n : ℕ)
      → (c.answer ≡ success n) ↔ ((m : Message) × (decode c.input ≡ accepted m) × Length c n (text m))
  unfolding to_text converted
  accepts n = (forward, backward)
    where
      exact : (c.answer ≡ success n) ↔ ((l : List ℕ) × (output_of (decode c.input) ≡ output l) × (length l ≤ room c)
          × (n ≡ length l))
      exact = call_succeeds 10 (output_of (decode c.input)) c made.promise n

      forward : c.answer ≡ success n → (m : Message) × (decode c.input ≡ accepted m) × Length c n (text m)
      forward e =
          let (l, o, h, k) = exact.0 e in
          let (m, d, f) = outputs (decode c.input) l o in
          (m, d, (rw f h, rw f k))

      backward : (m : Message) × (decode c.input ≡ accepted m) × Length c n (text m) → c.answer ≡ success n
      backward u = let (m, d, (h, k)) = u in exact.1 (text m, ap output_of d, h, k)

  pub declines : (k p : ℕ) → (c.answer ≡ refusal k p)
      ↔ ((decode c.input ≡ refused k p)
      ⊎ ((m : Message) × (decode c.input ≡ accepted m) × (room c < length (text m)) × (k ≡ 10) × (p ≡ 0)))
  unfolding to_text converted
  declines k p = (λ e. forward (exact.0 e), λ u. exact.1 (backward u))
    where
      d : Decoded
      d = decode c.input

      exact : (c.answer ≡ refusal k p)
          ↔ ((output_of d ≡ answer.refused k p)
          ⊎ ((l : List ℕ) × (output_of d ≡ output l) × (room c < length l) × (k ≡ 10) × (p ≡ 0)))
      exact = call_refuses 10 (output_of d) c made.promise k p

      forward : (output_of d ≡ answer.refused k p)
          ⊎ ((l : List ℕ) × (output_of d ≡ output l) × (room c < length l) × (k ≡ 10) × (p ≡ 0))
          → (d ≡ refused k p) ⊎ ((m : Message) × (d ≡ accepted m) × (room c < length (text m)) × (k ≡ 10) × (p ≡ 0))
      forward (inl e) = inl (refuses d k p e)
      forward (inr u) = let (l, o, h, j, q) = u in let (m, a, f) = outputs d l o in inr (m, a, rw f h, j, q)

      backward : (d ≡ refused k p) ⊎ ((m : Message) × (d ≡ accepted m) × (room c < length (text m)) × (k ≡ 10)
          × (p ≡ 0))
          → (output_of d ≡ answer.refused k p) ⊎ ((l : List ℕ) × (output_of d ≡ output l) × (room c < length l)
          × (k ≡ 10)
          × (p ≡ 0))
      backward (inl e) = inl (ap output_of e)
      backward (inr u) = let (m, a, h, j, q) = u in inr (text m, ap output_of a, h, j, q)

  pub places : (k p : ℕ) → c.answer ≡ refusal k p → p ≤ length c.input
  places k p e = go ((declines k p).0 e)
    where
      go : (decode c.input ≡ refused k p)
          ⊎ ((m : Message) × (decode c.input ≡ accepted m) × (room c < length (text m)) × (k ≡ 10) × (p ≡ 0))
          → p ≤ length c.input
      go (inl d) = subst (PlacedIn (length c.input)) d (decode_placed c.input)
      go (inr u) = let (m, a, h, j, q) = u in omega arith

  pub writes : (m : Message) → decode c.input ≡ accepted m → length (text m) ≤ room c → written_by c ≡ text m
  unfolding to_text converted
  writes m e h = rw (made.promise.answers, made.promise.leaves, e) (delivered-room 10 (text m) c.before h).1

-- ---- messages within the limits are those that the converter accepts
pub whole_accepted : (m : Message) → Whole m → Accepted m
whole_accepted m h = (form m, form-octets m h.0, decode-form m h.0 h.1)

pub accepted_whole : (m : Message) → Accepted m → Whole m
accepted_whole m h = let (s, o, e) = h in decode_valid s m o e

-- ---- every octet that is written lies in 0x20 to 0x7E
pub visible : (c : Call) → Converts c → (n : ℕ) → c.answer ≡ success n → All (λ x. (32 ≤ x) × (x ≤ 126)) (written_by c)
visible c made n e =
    let (m, d, (h, k)) = (accepts c made n).0 e in
    rw (writes c made m d h) (text_visible m (decode_valid c.input m made.octets d).0)

-- ---- a buffer of 655,750 octets holds every text
pub room_enough : (c : Call) → Converts c → 655750 ≤ room c → Room c
room_enough c made h = go (decode c.input) refl
  where
    go : (d : Decoded) → decode c.input ≡ d → FitsIn d (room c)
    go (accepted m) e =
        let w = decode_valid c.input m made.octets e in
        omega (arith, text_short m w.0, w.1)
    go (refused k p) e = tt

-- ---- demand 3
-- the accepted messages of a list of calls
abbrev add_message : Decoded → List Message → List Message
add_message (accepted m) l = m ∷ l
add_message (refused number place) l = l

messages : List Call → List Message
messages [] = []
messages (c ∷ l) = add_message (decode c.input) (messages l)

-- an accepted message is valid, and its form within the limit
messages_whole : (l : List Call) → All Converts l → All Whole (messages l)
unfolding messages
messages_whole [] made = tt
messages_whole (c ∷ l) made = go (decode c.input) refl (messages_whole l made.1)
  where
    go : (d : Decoded) → decode c.input ≡ d → All Whole (messages l) → All Whole (add_message d (messages l))
    go (accepted m) e h = (decode_valid c.input m made.0.octets e, h)
    go (refused number place) e h = h

messages_valid : (l : List Message) → All Whole l → All (λ m. T (valid? m)) l
messages_valid [] h = tt
messages_valid (m ∷ l) h = (h.0.0, messages_valid l h.1)

-- what a list of calls wrote is the texts of its accepted messages
stream-texts : (l : List Call) → All Converts l → All Room l → stream l ≡ flatten (map text (messages l))
unfolding stream messages flatten
stream-texts [] made room = refl
stream-texts (c ∷ l) made room = go (decode c.input) refl room.0 (stream-texts l made.1 room.1)
  where
    go : (d : Decoded) → decode c.input ≡ d → FitsIn d (length c.before)
        → stream l ≡ flatten (map text (messages l))
        → written_by c ++ stream l ≡ flatten (map text (add_message d (messages l)))
    go (accepted m) e h k = ap₂ ◌++◌ (writes c made.0 m e h) k
    go (refused number place) e h k = rw ((declines c made.0 number place).1 (inl e)) k

forms_messages : (l : List Call) → forms_of l ≡ map form (messages l)
unfolding forms_of messages
forms_messages [] = refl
forms_messages (c ∷ l) = go (decode c.input) (forms_messages l)
  where
    go : (d : Decoded) → forms_of l ≡ map form (messages l)
        → add_form d (forms_of l) ≡ map form (add_message d (messages l))
    go (accepted m) e = ap (λ z. form m ∷ z) e
    go (refused number place) e = e

-- forms tell the messages
same_forms : (l m : List Message) → All Whole l → All Whole m → map form l ≡ map form m → l ≡ m
same_forms [] [] h k e = refl
same_forms [] (n ∷ m) h k e = absurd (nil≢cons e)
same_forms (n ∷ l) [] h k e = absurd (nil≢cons (sym e))
same_forms (a ∷ l) (b ∷ m) h k e =
    ap₂ ◌∷◌ ((forms_equal a b h.0.0 k.0.0 h.0.1 k.0.1).0 (head-eq_of_cons-eq e))
    (same_forms l m h.1 k.1 (tail-eq_of_cons-eq e))

-- two messages: their texts are equal exactly when their uncompressed forms are, and no text is a proper beginning of
-- another
module _ (c d : Call) (p : Converts c) (q : Converts d) (m n : Message) (a : decode c.input ≡ accepted m)
    (b : decode d.input ≡ accepted n) (r : Room c) (s : Room d) where
  first : written_by c ≡ text m
  first = writes c p m a (rw a at r)

  second : written_by d ≡ text n
  second = writes d q n b (rw b at s)

  equal : (written_by c ≡ written_by d) ↔ (form m ≡ form n)
  unfolding first second
  equal = (forward, backward)
    where
      wm : Whole m
      wm = decode_valid c.input m p.octets a

      wn : Whole n
      wn = decode_valid d.input n q.octets b

      forward : written_by c ≡ written_by d → form m ≡ form n
      forward e = ap form (text_splits m n [] [] wm.0 wn.0 (ap (λ l. l ++ []) (sym first ∙ e ∙ second))).0

      backward : form m ≡ form n → written_by c ≡ written_by d
      backward e = first ∙ ap text ((forms_equal m n wm.0 wn.0 wm.1 wn.1).0 e) ∙ sym second

  beginning : (rest : List ℕ) → written_by c ++ rest ≡ written_by d → (form m ≡ form n) × (rest ≡ [])
  unfolding first second
  beginning rest e =
      let wm = decode_valid c.input m p.octets a in
      let wn = decode_valid d.input n q.octets b in
      let u = prefix_free (λ m. T (valid? m)) text text_splits m n rest wm.0 wn.0 (ap (λ l. l ++ rest) (sym first)
      ∙ e ∙ second) in
      (ap form u.0, u.1)

-- both, as the front page has it
pub told_apart : (c d : Call) → Converts c → Converts d → (m n : Message) → decode c.input ≡ accepted m
    → decode d.input ≡ accepted n → Room c → Room d
    → ((written_by c ≡ written_by d) ↔ (form m ≡ form n)) × ((rest : List ℕ) → written_by c ++ rest ≡ written_by d
    → rest ≡ [])
told_apart c d p q m n a b r s = (equal c d p q m n a b r s, λ rest e. (beginning c d p q m n a b r s rest e).1)

-- two whole lists of calls: what they wrote, set end to end, is equal exactly when the uncompressed forms of their
-- accepted messages are
pub lists : (l m : List Call) → All Converts l → All Converts m → All Room l → All Room m
    → (stream l ≡ stream m) ↔ (forms_of l ≡ forms_of m)
lists l m p q r s = (forward, backward)
  where
    a : All Whole (messages l)
    a = messages_whole l p

    b : All Whole (messages m)
    b = messages_whole m q

    forward : stream l ≡ stream m → forms_of l ≡ forms_of m
    forward e =
        let u = (streams (λ m. T (valid? m)) text text_splits (λ m h. text-filled m) (messages l) (messages m)
        (messages_valid (messages l) a) (messages_valid (messages m) b)).0
        (sym (stream-texts l p r) ∙ e ∙ stream-texts m q s) in
        forms_messages l ∙ ap (map form) u ∙ sym (forms_messages m)

    backward : forms_of l ≡ forms_of m → stream l ≡ stream m
    backward e =
        let u = same_forms (messages l) (messages m) a b (sym (forms_messages l) ∙ e ∙ forms_messages m) in
        stream-texts l p r ∙ ap (λ z. flatten (map text z)) u ∙ sym (stream-texts m q s)
