-- What holds of both conversions: an answer as C reads it, and demand 1.
use Rattle.std.specs.Prelude.{◌≡◌, refl, ◌↔◌, ℕ, zero, suc, ◌≤◌, length, drop}
use Rattle.std.proofs.Common.{ap, inl, inr, arith}
use Rattle.octets.specs.Answer.{success, refusal, reported}
use Rattle.octets.specs.Calls.{Call, written_by}
use Rattle.velvetshelf.specs.Calls.{answer_in}
use Rattle.demands.specs.FrontPage.Words.{room, Made, Both}
use Rattle.demands.proofs.Delivered.{length_or_number, not_success}
use Rattle.demands.proofs.Converter as converter
use Rattle.demands.proofs.Reader as reader

pub c_success : (n v k : ℕ) → (answer_in n v ≡ success k) ↔ ((n ≡ 0) × (v ≡ k))
c_success zero v k = (λ e. (refl, ap length_or_number e), λ h. rw h.1)
c_success (suc n) v k = (λ e. not_success e, λ h. absurd (omega (arith, h.0)))

pub same : (c d : Call) → Both c d → c.input ≡ d.input → room c ≡ room d
    → (c.answer ≡ d.answer) × (written_by c ≡ written_by d)
same c d (inl p) = converter.same c d p.0 p.1
same c d (inr p) = reader.same c d p.0 p.1

pub leaves : (c : Call) → Made c → (k p : ℕ) → c.answer ≡ refusal k p → (c.after ≡ c.before) × (p ≤ length c.input)
leaves c (inl h) k p e = (converter.leaves c h k p e, converter.places c h k p e)
leaves c (inr h) k p e = (reader.leaves c h k p e, reader.places c h k p e)

pub stays : (c : Call) → Made c → drop (reported c.answer) c.after ≡ drop (reported c.answer) c.before
stays c (inl p) = converter.stays c p
stays c (inr p) = reader.stays c p
