-- The text of an option's member by the syntax of its value.
use Rattle.std.specs.Prelude.{◌≡◌, refl, true, false, List, [], ◌++◌, ℕ, ◌-◌, ◌≤◌, ◌<◌, length, take, drop}
use Rattle.std.proofs.Common.{arith, append_assoc, length-drop, take_all}
use Rattle.std.proofs.Math.Option.{Option, none, some}
use borrow.Author.Tests.{eq-eqb, ne_eqb, le-leb}
use Rattle.octets.specs.Lists.{ascii, all, lookup, row_text, listed, present?}
use Rattle.octets.specs.Fields.{be16_at, be32_at}
use Rattle.octets.specs.Decimal.{decimal}
use Rattle.octets.specs.Hexadecimal.{hex_text}
use Rattle.options.specs.Options.{Syntax, Value, hex_list, expiry, word, word_list, padding, extended_error, rows}
use Rattle.options.specs.Options.{members, syntax_of, value_text, shape, words, zero?, present, error_tail, other}
use Rattle.options.specs.Options.{member_of, member_text}
use Rattle.options.specs.Shapes.{expire_four, cookie_sizes, keepalive_two, keytag_even, error_parts}

-- the text of an option's member
abbrev pub option_text : ℕ → List ℕ → List ℕ
option_text code value = member_text (member_of (record { code = code; value = value }))

-- the text of a value that has the shape of a syntax; none of any other
abbrev pub shown : (syntax : Syntax) → Option (Value syntax) → List ℕ
shown syntax none = []
shown syntax (some v) = value_text syntax v

unfoldable pub shaped_text : Syntax → List ℕ → List ℕ
shaped_text syntax value = shown syntax (shape syntax value)

abbrev pub HasShape : Syntax → List ℕ → Type 0
HasShape syntax value = present? (shape syntax value) ≡ true

-- ---- members
-- of a value that has the shape of its code
pub listed_text : (code : ℕ) (v : List ℕ) → HasShape (syntax_of code) v
    → ascii "\"" ++ (row_text code members ++ (ascii "\":" ++ shaped_text (syntax_of code) v)) ≡ option_text code v
unfolding member_of member_text shaped_text
listed_text code v e = go (shape (syntax_of code) v) refl
  where
    go : (o : Option (Value (syntax_of code))) → shape (syntax_of code) v ≡ o
        → ascii "\"" ++ (row_text code members ++ (ascii "\":" ++ shaped_text (syntax_of code) v)) ≡ option_text code v
    go none q = let z : false ≡ true = rw q at e in cc
    go (some a) q = rw q (simp append_assoc)

-- every other
pub other_text : (code : ℕ) (v : List ℕ) → present? (shape (syntax_of code) v) ≡ false
    → member_text (other code v) ≡ option_text code v
unfolding member_of
other_text code v e = go (shape (syntax_of code) v) refl
  where
    go : (o : Option (Value (syntax_of code))) → shape (syntax_of code) v ≡ o
        → member_text (other code v) ≡ option_text code v
    go none q = rw q
    go (some a) q = let z : true ≡ false = rw q at e in cc

-- ---- values
module _ (v : List ℕ) where
  -- EXPIRE
  pub expiry_four : HasShape expiry v → 0 < length v → length v ≡ 4
  unfolding lookup rows syntax_of
  expiry_four s h = expire_four v s (λ e. omega arith)

  pub expiry_none : length v ≡ 0 → ascii "\"NONE\"" ≡ shaped_text expiry v
  unfolding shape value_text shaped_text
  expiry_none e = rw (eq-eqb (length v) 0 e)

  pub expiry_some : HasShape expiry v → 0 < length v → decimal (be32_at v 0) ≡ shaped_text expiry v
  unfolding shape value_text shaped_text
  expiry_some s h = rw (ne_eqb (length v) 0 (λ e. omega arith), expiry_four s h)

  -- COOKIE
  pub list_sizes : HasShape hex_list v → (length v ≡ 8 → ⊥) → (16 ≤ length v) × (length v ≤ 40)
  unfolding lookup rows syntax_of
  list_sizes s h = cookie_sizes v s h

  pub list_one : length v ≡ 8 → ascii "[" ++ hex_text (take 8 v) ++ ascii "]" ≡ shaped_text hex_list v
  unfolding shape value_text shaped_text
  list_one e = rw (e, take_all 8 v (omega arith))

  pub list_two : HasShape hex_list v → (length v ≡ 8 → ⊥)
      → (ascii "[" ++ hex_text (take 8 v)) ++ ((ascii "," ++ hex_text (drop 8 v)) ++ ascii "]") ≡ shaped_text hex_list v
  unfolding shape value_text shaped_text
  list_two s e =
      let (h, k) = list_sizes s e in
      rw (ne_eqb (length v) 8 e, le-leb 16 (length v) h, le-leb (length v) 40 k)

  -- KEEPALIVE
  pub word_two : HasShape word v → length v ≡ 2
  unfolding lookup rows syntax_of
  word_two s = keepalive_two v s

  pub word_is : HasShape word v → decimal (be16_at v 0) ≡ shaped_text word v
  unfolding shape value_text shaped_text
  word_is s = rw (word_two s)

  -- PADDING
  pub padding_zero : all zero? v ≡ true
      → ascii "{\"LENGTH\":" ++ (decimal (length v) ++ ascii "}") ≡ shaped_text padding v
  unfolding shape value_text shaped_text
  padding_zero e = rw e

  pub padding_some : all zero? v ≡ false
      → ascii "{\"LENGTH\":" ++ (decimal (length v) ++ ((ascii ",\"HEX\":" ++ hex_text v) ++ ascii "}"))
      ≡ shaped_text padding v
  unfolding shape value_text shaped_text
  padding_some e = rw e

  -- KEYTAG
  pub words_is : HasShape word_list v → listed decimal (words v) ≡ shaped_text word_list v
  unfolding lookup rows syntax_of shape value_text shaped_text
  words_is s = rw (keytag_even v s)

  -- EDE
  pub error_two : HasShape extended_error v → 2 ≤ length v
  unfolding lookup rows syntax_of
  error_two s = (error_parts v s).0

  pub error_is : HasShape extended_error v
      → ascii "{\"CODE\":" ++ (decimal (be16_at v 0) ++ error_tail (present (take (length v - 2) (drop 2 v))))
      ≡ shaped_text extended_error v
  unfolding lookup rows syntax_of shape value_text shaped_text
  error_is s =
      let (long, text) = error_parts v s in
      rw (take_all (length v - 2) (drop 2 v) (omega (arith, length-drop 2 v)), le-leb 2 (length v) long, text)
