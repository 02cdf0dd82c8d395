-- Numbers of a fixed number of octets, judged and written.
use Rattle.std.specs.Prelude.{◌≡◌, refl, Bool, true, false, not, cond, ◌&&◌, List, [], ◌∷◌, ◌++◌, ℕ, zero, suc, ◌+◌, ◌^◌, ◌≤◌, ◌<◌, T, leb, ltb, length, take, drop, ◌-◌, ◌*◌, ◌/◌, ◌%◌, Option, Some, None, Ok}
use Rattle.std.specs.Int.{bytes_high_first}
use Rattle.std.specs.Option.{option_map}
use Rattle.std.proofs.Common.{sym, ◌∙◌, ap, subst, arith, lt-ltb, le-ltb, ltb-true, ltb-false}
use Rattle.std.proofs.Math.Bool.{and-true}
use Rattle.std.proofs.lemmas.Bool.{not-true}
use Rattle.std.proofs.lemmas.Option.{none-some, same_Some}
use Rattle.octets.specs.Lists.{u8?, u16?, u32?}
use Rattle.octets.specs.Bits.{and_right}
use Rattle.octets.specs.Parsed.{Parsed}
use Rattle.octets.specs.Fields.{be16, be32}
use Rattle.octets.specs.Overlay.{Wrote}
use Rattle.strict.specs.Meaning.{ttl?, unsigned}
use Rattle.parse_tokens.specs.declared.Cursor.{Cursor}
use Rattle.parse_tokens.specs.Cursor.{Reached, Keeps, between_then}
use Rattle.parse_tokens.specs.Step.{Found, found_at, Put, put_then, put_from, put_as, Step, Held, Emits, Judged}
use Rattle.parse_tokens.specs.Number.{capped}
use Rattle.parse_tokens.specs.Signed.{ttl_bits}

-- ---- a field of the message
-- These octets were written; or there are none, and only `meaningful` changes.
abbrev pub field_put : Option (List ℕ) → Cursor → List ℕ → Cursor → List ℕ → Type 0
field_put (Some xs) c b r b' = Emits xs c b r b'
field_put None c b r b' = Judged false c r × (b' ≡ b)

pub record FieldPut (xs : Option (List ℕ)) (c : Cursor) (b : List ℕ) (r : Cursor) (b' : List ℕ) : Type 0 where
  pub written : field_put xs c b r b'

-- the octets of a number that fits n of them, the high ones first
abbrev pub fits? : ℕ → ℕ → Bool
fits? n value = ltb value (256 ^ n)

abbrev pub number_octets : ℕ → ℕ → Option (List ℕ)
number_octets n value = cond (fits? n value) (Some (bytes_high_first n value)) None

-- ---- what was read was judged and written, for every value that it may have been
pub record Done {A : Type 0} (P : A → Type 0) (ok : A → Bool) (wire : A → List ℕ) (c : Cursor) (b : List ℕ) (r : Cursor)
    (b' : List ℕ) : Type 0 where
  pub at : r.at ≡ c.at
  pub room : r.to ≤ 65535
  pub put : (a : A) → P a → Put ok wire c b r b' a

-- how it is written: the last n octets of eight
last_octets : (n v : ℕ) → n ≤ 4 → take (8 - (8 - n)) (drop (8 - n) (bytes_high_first 8 v)) ≡ bytes_high_first n v
last_octets zero v h = refl
last_octets (suc zero) v h = refl
last_octets (suc (suc zero)) v h = refl
last_octets (suc (suc (suc zero))) v h = refl
last_octets (suc (suc (suc (suc zero)))) v h = refl
last_octets (suc (suc (suc (suc (suc n))))) v h = absurd (omega arith)

limit_is : (n : ℕ) → n ≤ 4 → 1 * 2 ^ (8 * n) % 18446744073709551616 ≡ 256 ^ n
limit_is zero h = refl
limit_is (suc zero) h = refl
limit_is (suc (suc zero)) h = refl
limit_is (suc (suc (suc zero))) h = refl
limit_is (suc (suc (suc (suc zero)))) h = refl
limit_is (suc (suc (suc (suc (suc n))))) h = absurd (omega arith)

pub number_in : (n : ℕ) {v : ℕ} {xs b b' : List ℕ} {c r : Cursor} → n ≤ 4
    → v < 1 * 2 ^ (8 * n) % 18446744073709551616 → xs ≡ bytes_high_first 8 v
    → Emits (take (8 - (8 - n)) (drop (8 - n) xs)) c b r b' → FieldPut (number_octets n v) c b r b'
number_in n {v} h k e x =
    let l : v < 256 ^ n = subst (λ m. v < m) (limit_is n h) k in
    record { written = rw (lt-ltb v (256 ^ n) l, ← (last_octets n v h), ← e) x }

-- whether a value has octets, and which
abbrev pub Says : Option (List ℕ) → Bool → List ℕ → Type 0
Says (Some xs) ok wire = (ok ≡ true) × (wire ≡ xs)
Says None ok wire = ok ≡ false

module _ {A : Type 0} {P : A → Type 0} {ok : A → Bool} {wire : A → List ℕ} {c r : Cursor} {b b' : List ℕ} where
  -- out of range
  done_out : c.to ≤ 65535 → ((a : A) → P a → ok a ≡ false) → Judged false c r → Done P ok wire c b r b'
  done_out h out j = record {
    at = j.at;
    room = omega (arith, j.to);
    put = λ a p. record {
      meaningful = rw (out a p) j.meaningful;
      bounded = λ k. absurd (and_right c.meaningful false (subst T j.meaningful k));
      wrote = λ k. absurd (and_right c.meaningful false (subst T j.meaningful k));
    };
  }

  -- in range: these octets
  pub done_in : {xs : List ℕ} → ((a : A) → P a → (ok a ≡ true) × (wire a ≡ xs)) → Emits xs c b r b'
      → Done P ok wire c b r b'
  done_in fits e = record {
    at = e.at;
    room = e.room;
    put = λ a p. record {
      meaningful = rw (fits a p).0 (e.meaningful ∙ sym (and-true c.meaningful));
      bounded = λ k. rw (fits a p).1 e.bounded;
      wrote = λ k l. rw (fits a p).1 (e.wrote l);
    };
  }

  pub field_done : (xs : Option (List ℕ)) → c.to ≤ 65535 → ((a : A) → P a → Says xs (ok a) (wire a)) → FieldPut xs c b r b'
      → Done P ok wire c b r b'
  field_done (Some xs) h f e = done_in f e.written
  field_done None h f e = done_out h f e.written.0

-- a number of n octets, by what was kept of it
power_low : (n : ℕ) → n ≤ 4 → 256 ^ n ≤ 4294967296
power_low zero h = omega arith
power_low (suc zero) h = omega arith
power_low (suc (suc zero)) h = omega arith
power_low (suc (suc (suc zero))) h = omega arith
power_low (suc (suc (suc (suc zero)))) h = omega arith
power_low (suc (suc (suc (suc (suc m))))) h = absurd (omega arith)

number_says : (wire : ℕ → List ℕ) {limit v : ℕ} (m : ℕ) → limit ≤ 4294967296 → v ≡ capped m
    → Says (cond (ltb v limit) (Some (wire v)) None) (ltb m limit) (wire m)
number_says wire {limit} {v} m l e = go (ltb v limit) refl
  where
    go : (x : Bool) → ltb v limit ≡ x → Says (cond x (Some (wire v)) None) (ltb m limit) (wire m)
    go true d =
        let k = ltb-true v limit d in
        let z : m ≡ v = omega arith in
        (lt-ltb m limit (omega arith), ap wire z)
    go false d = let k = ltb-false v limit d in le-ltb m limit (omega arith)

pub number_done : (n : ℕ) {v : ℕ} {c r : Cursor} {b b' : List ℕ} → n ≤ 4 → c.to ≤ 65535
    → FieldPut (number_octets n v) c b r b' → Done (λ m. v ≡ capped m) (fits? n) (bytes_high_first n) c b r b'
number_done n {v} h k = field_done (number_octets n v) k λ m e. number_says (bytes_high_first n) m (power_low n h) e

octet_says : {v : ℕ} (m : ℕ) → v ≡ capped m → Says (number_octets 1 v) (u8? m) (m ∷ [])
octet_says {v} m e = go (ltb v 256) refl (number_says (bytes_high_first 1) m (omega arith) e)
  where
    go : (x : Bool) → ltb v 256 ≡ x → Says (cond x (Some (bytes_high_first 1 v)) None) (u8? m) (bytes_high_first 1 m)
        → Says (cond x (Some (bytes_high_first 1 v)) None) (u8? m) (m ∷ [])
    go true d s =
        let k = ltb-true v 256 d in
        let z : m ≡ v % 256 = omega arith in
        (s.0, ap (λ (k : ℕ). k ∷ []) z)
    go false d s = s

module _ {v : ℕ} {c r : Cursor} {b b' : List ℕ} where
  -- of one octet, of two, of four
  pub octet_done : c.to ≤ 65535 → FieldPut (number_octets 1 v) c b r b'
      → Done (λ m. v ≡ capped m) u8? (λ n. n ∷ []) c b r b'
  octet_done k = field_done (number_octets 1 v) k octet_says

  pub word_done : c.to ≤ 65535 → FieldPut (number_octets 2 v) c b r b' → Done (λ m. v ≡ capped m) u16? be16 c b r b'
  word_done = number_done 2 (omega arith)

  pub long_done : c.to ≤ 65535 → FieldPut (number_octets 4 v) c b r b' → Done (λ m. v ≡ capped m) u32? be32 c b r b'
  long_done k x = let d = number_done 4 (omega arith) k x in record {
    at = d.at;
    room = d.room;
    put = λ m e. put_as refl (four m) (d.put m e);
  }
    where
      four : (m : ℕ) → be32 m ≡ bytes_high_first 4 m
      four m =
          let w : m / 65536 / 256 % 256 ≡ m / 256 ^ 3 % 256 = omega arith in
          let x : m / 65536 % 256 ≡ m / 256 ^ 2 % 256 = omega arith in
          let y : m % 65536 / 256 % 256 ≡ m / 256 ^ 1 % 256 = omega arith in
          let z : m % 65536 % 256 ≡ m % 256 = omega arith in
          rw (w, x, y, z)

-- a TTL
pub ttl_done : {bits : Option ℕ} {c r : Cursor} {b b' : List ℕ} → c.to ≤ 65535
    → FieldPut (option_map be32 bits) c b r b' → Done (λ s. bits ≡ ttl_bits s) ttl? (λ s. be32 (unsigned s)) c b r b'
ttl_done {bits} k = field_done (option_map be32 bits) k λ s e. says bits (ttl? s) (unsigned s) e
  where
    says : (bits : Option ℕ) (ok : Bool) (n : ℕ) → bits ≡ cond ok (Some n) None → Says (option_map be32 bits) ok (be32 n)
    says (Some m) true n e = (refl, ap be32 (sym (same_Some m n e)))
    says (Some m) false n e = absurd (none-some m (sym e))
    says None true n e = absurd (none-some n e)
    says None false n e = refl

-- octets for which n places were held: past the limit, or written
module _ {A : Type 0} {P : A → Type 0} {wire : A → List ℕ} {n : ℕ} {c r : Cursor} (h : Held n c r) {b : List ℕ} where
  pub done_past : not r.bounded ≡ true
      → ((a : A) → P a → leb (c.to + length (wire a)) 65535 ≡ leb (c.to + n) 65535)
      → Done P (λ a. true) wire c b r b
  done_past e same = record {
    at = h.at;
    room = h.room;
    put = λ a p. record {
      meaningful = h.meaningful ∙ sym (and-true c.meaningful);
      bounded = λ k. h.bounded ∙ ap (λ x. c.bounded && x) (sym (same a p));
      wrote = λ k s. absurd (subst T (not-true r.bounded e) s);
    };
  }

  pub done_held : {b' : List ℕ} {e : ℕ} → ((a : A) → P a → (length (wire a) ≡ n) × Wrote b c.to (wire a) b' e)
      → Done P (λ a. true) wire c b r b'
  done_held w = record {
    at = h.at;
    room = h.room;
    put = λ a p.
        let l = (w a p).0 in
        record {
          meaningful = h.meaningful ∙ sym (and-true c.meaningful);
          bounded = λ k. rw l h.bounded;
          wrote = λ k s. record { place = h.to s ∙ rw l; text = (w a p).1.text };
        };
  }

-- ---- read, and then judged and written
module _ {A : Type 0} {P : A → Type 0} {ok : A → Bool} {wire : A → List ℕ} {p : List ℕ → Parsed A} {t b b' : List ℕ}
    {c : Reached} {r s : Cursor} where
  pub found_done : Found p P t c (Ok r) → Keeps t c (Ok r) → Done P ok wire r b s b' → Step ok wire p t c b (Ok s) b'
  found_done x k d = found_at x d.at d.room λ a h.
      between_then k.alike (record { holds = d.put a h }) λ c r s m z. put_from m z

-- one thing after another, at the same place of the text
pub done_then : {A B : Type 0} {P : A → Type 0} {Q : B → Type 0} {ok : A → Bool} {ok' : B → Bool} {wire : A
    → List ℕ} {wire' : B → List ℕ} {c r s : Cursor} {b b' b'' : List ℕ}
    → Done P ok wire c b r b' → Done Q ok' wire' r b' s b''
    → Done {A = A × B} (λ u. P u.0 × Q u.1) (λ u. ok u.0 && ok' u.1) (λ u. wire u.0
    ++ wire' u.1) c b s b''
done_then p q = record {
  at = q.at ∙ p.at;
  room = q.room;
  put = λ u h. put_then (p.put u.0 h.0) (q.put u.1 h.1);
}
