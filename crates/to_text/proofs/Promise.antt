-- How the promise of the conversion follows from what its runs find and write.
use Rattle.std.proofs.Common.{◌≡◌, refl, ap, Bool, List, [], ◌++◌, ℕ, ◌+◌, ◌*◌, ◌≤◌, ◌<◌, Ok, Err, length, get_or}
use Rattle.std.proofs.Common.{eqb, arith}
use Rattle.octets.specs.Lists.{count}
use Rattle.octets.specs.Answer.{Answer, success, refusal, output}
use Rattle.octets.specs.Fields.{empty, octets_known}
use Rattle.octets.specs.Overlay.{Wrote}
use Rattle.octets.specs.Calls.{answer_of, Call, Gives, gives_refusal, gives_none, gives_written}
use Rattle.octets.specs.declared.Refusal.{Refusal}
use Rattle.records.specs.Message.{Message, form, opt?}
use Rattle.records.specs.Decode.{Decoded, accepted, refused, decode}
use Rattle.records.proofs.MessageLaws.{decode_valid}
use Rattle.forms.specs.Uncompressed.{Scans, Uncompressed}
use Rattle.forms.specs.declared.Form.{Form}
use Rattle.json_text.specs.Converted.{converted, to_text, Converts}
use Rattle.json_text.proofs.Bound.{text_short}
use Rattle.print_message.specs.Whole.{profile_text, AcceptedMessage}

-- ---- an accepted message
module _ {s : List ℕ} {lone : Bool} (a : AcceptedMessage s lone) where
  accepted_output : converted s ≡ output (profile_text s)
  unfolding converted profile_text
  accepted_output = rw a.decodes

  -- its text is written where there is room
  pub gives_text : {b b' : List ℕ} {n : ℕ} → length (profile_text s) ≤ length b → Wrote b 0 (profile_text s) b' n
      → Gives (to_text s b) (success n) b'
  unfolding to_text
  gives_text {b} {n = n} h w =
      let e : n ≡ length (profile_text s) = omega (arith, w.place) in
      rw accepted_output (gives_written 10 b (profile_text s) w e (omega arith))

  -- l is what a run that measures leaves of no octets
  module _ (b l : List ℕ) (z : length l ≡ 0) {n : ℕ} (w : Wrote [] 0 (profile_text s) l n) where
    pub measured_long : length (l ++ b) < n → Gives (to_text s b) (refusal 10 0) (l ++ b)
    unfolding to_text
    measured_long h = rw (empty l z, accepted_output)
        (gives_none 10 b (profile_text s) (omega (arith, w.place, rw (empty l z) at h)))

    pub measured_text : {b' : List ℕ} {r : ℕ} → n ≤ length (l ++ b) → Wrote (l ++ b) 0 (profile_text s) b' r
        → Gives (to_text s b) (success r) b'
    measured_text h v = gives_text (omega (arith, w.place, rw (empty l z) at h)) (rw (empty l z) at v)

-- ---- any octets
-- l is what the search for faults leaves of no octets
module _ (s b l : List ℕ) (z : length l ≡ 0) where
  pub convert_refused : (r : Refusal) → Uncompressed s [] (Err r) l → Gives (to_text s b) (answer_of (Err r)) (l ++ b)
  unfolding to_text converted
  convert_refused r u = rw (empty l z) (go (decode s) refl u.answers)
    where
      go : (x : Decoded) → decode s ≡ x → Scans x (Err r) → Gives (to_text s b) (answer_of (Err r)) b
      go (accepted m) e q = absurd cc
      go (refused k place) e (f, q, n, p) = let g : r ≡ f = cc in rw (e, g, n, p) (gives_refusal 10 b k place)

  pub convert_whole : {a : Answer} {b' : List ℕ} → Gives (to_text s (l ++ b)) a b' → Gives (to_text s b) a b'
  convert_whole g = rw (empty l z) at g

-- the message that was accepted
record Accepts (s : List ℕ) (x : Form) : Type 0 where
  message : Message
  decodes : decode s ≡ accepted message
  form_is : x ≡ record { length = length (form message); opts = count opt? message.additional }

accepts : {s l : List ℕ} {x : Form} → Uncompressed s [] (Ok x) l → Accepts s x
accepts {s} {l} {x} u = go (decode s) refl u.answers
  where
    go : (y : Decoded) → decode s ≡ y → Scans y (Ok x) → Accepts s x
    go (accepted m) e q = record { message = m; decodes = e; form_is = cc }
    go (refused k place) e (f, q, n, p) = absurd cc

pub convert_accepted : {s l : List ℕ} {x : Form} → Uncompressed s [] (Ok x) l → AcceptedMessage s (eqb x.opts 1)
convert_accepted u = let a = accepts u in
    record { message = a.message; decodes = a.decodes; alone = ap (λ (y : Form). eqb y.opts 1) a.form_is }

-- how long the text can be at most
pub convert_bounded : {s l : List ℕ} {x : Form} → Uncompressed s [] (Ok x) l → ((i : ℕ) → get_or s i 0 < 256)
    → (x.length ≤ 65535) × (length (profile_text s) ≤ 10 * x.length + 400)
unfolding profile_text
convert_bounded {s} u o =
    let a = accepts u in
    let (v, k) = decode_valid s a.message (octets_known s o) a.decodes in
    let e = ap (λ (y : Form). y.length) a.form_is in
    (omega arith, rw a.decodes (omega (arith, text_short a.message v)))

-- the octets of a slice are known one by one
pub converts : (c : Call) → ((i : ℕ) → get_or c.input i 0 < 256)
    → Gives (to_text c.input c.before) c.answer c.after → Converts c
converts c o g = record { octets = octets_known c.input o; promise = g }
