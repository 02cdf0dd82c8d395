-- The promise of each public function determines its whole result: two results that meet it for the same arguments are
-- equal.
use Rattle.std.specs.Prelude.{◌≡◌, List, ℕ, Result}
use Rattle.octets.specs.Parsed.{Parsed}
use Rattle.parse_tokens.specs.declared.Cursor.{Cursor}
use Rattle.parse_tokens.proofs.Determined.{both_are, value_determined}
use Rattle.parse_tables.specs.Rows.{RowRead}

pub row_determined : (p : List ℕ → Parsed ℕ) (t : List ℕ) (c : Cursor) {r s : Result (Cursor × ℕ) ℕ} → RowRead p t c r
    → RowRead p t c s → r ≡ s
row_determined p t c = value_determined λ n v w d e. both_are d e
