-- Members of the head of a message's text.
use Rattle.std.specs.Prelude.{◌≡◌, refl, List, [], ◌∷◌, ◌++◌, ℕ, ◌/◌, ◌%◌}
use Rattle.std.proofs.Common.{ap, append_assoc}
use Rattle.octets.specs.Lists.{ascii, row_text}
use Rattle.octets.specs.Decimal.{decimal}
use Rattle.octets.specs.Writes.{Writes, writes_then}
use Rattle.octets.specs.declared.writer.Writer.{Writer}
use Rattle.json_text.specs.Document.{ad_titles}

-- a member: its name with what is around it, and a number
unfoldable pub number_text : List ℕ → ℕ → List ℕ
number_text title n = title ++ decimal n

-- ---- a text with the members of a part of the header after it
-- of the octet of QR, Opcode, AA, TC and RD
unfoldable pub with_high : List ℕ → ℕ → List ℕ
with_high l x =
    l
    ++ ascii ",\"QR\":" ++ decimal (x / 128)
    ++ ascii ",\"Opcode\":" ++ decimal (x / 8 % 16)
    ++ ascii ",\"AA\":" ++ decimal (x / 4 % 2)
    ++ ascii ",\"TC\":" ++ decimal (x / 2 % 2)
    ++ ascii ",\"RD\":" ++ decimal (x % 2)

-- of the octet of RA, Z, AD, CD and RCODE
unfoldable pub with_low : List ℕ → ℕ → List ℕ
with_low l x =
    l
    ++ ascii ",\"RA\":" ++ decimal (x / 128)
    ++ row_text (x / 64 % 2) ad_titles ++ decimal (x / 32 % 2)
    ++ ascii ",\"CD\":" ++ decimal (x / 16 % 2)
    ++ ascii ",\"RCODE\":" ++ decimal (x % 16)

-- the members alone
abbrev pub high_text : ℕ → List ℕ
high_text x = with_high [] x

abbrev pub low_text : ℕ → List ℕ
low_text x = with_low [] x

-- they do not depend on the text before them
pub high_after : (l : List ℕ) (x : ℕ) → with_high l x ≡ l ++ with_high [] x
unfolding with_high
high_after [] x = refl
high_after (y ∷ l) x = ap (λ m. y ∷ m) (high_after l x)

pub low_after : (l : List ℕ) (x : ℕ) → with_low l x ≡ l ++ with_low [] x
unfolding with_low
low_after [] x = refl
low_after (y ∷ l) x = ap (λ m. y ∷ m) (low_after l x)

-- ---- a member is written after a text
pub number_after : (title : List ℕ) {n m : ℕ} {l : List ℕ} {w w₁ w₂ : Writer} → n ≡ m → Writes w l w₁
    → Writes w₁ (number_text title n) w₂ → Writes w (l ++ title ++ decimal m) w₂
unfolding number_text
number_after title {n} {m} {l} e p q = rw (← e, append_assoc l title (decimal n)) (writes_then p q)
