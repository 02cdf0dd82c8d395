-- The syntax of an option's value as the code holds it, and its test of the value.
use Rattle.std.specs.Prelude.{◌≡◌, Bool, true, ◌&&◌, List, ℕ, ◌%◌, leb, eqb, length, refl, Option, None, Some}
use Rattle.std.proofs.Common.{sym}
use Rattle.octets.specs.Lists.{present?}
use Rattle.options.specs.Options as O
use Rattle.options.specs.Options.{shape}
use Rattle.options.specs.Shapes.{chosen, chosen_or, expiry_size, cookie_size, error_shape}
use Rattle.options.specs.declared.Syntax.{Syntax}
use Rattle.options.specs.declared.Syntax.TheVariants.{HexObject, OctetList, Expiry, HexList, Word, Padding, WordList, ExtendedError}

-- the syntax of the table
abbrev pub defined : Syntax → O.Syntax
defined HexObject = O.hex_object
defined OctetList = O.octet_list
defined Expiry = O.expiry
defined HexList = O.hex_list
defined Word = O.word
defined Padding = O.padding
defined WordList = O.word_list
defined ExtendedError = O.extended_error

-- the same, or that there is no row
abbrev pub listed : Option Syntax → O.Syntax
listed None = O.unlisted
listed (Some syntax) = defined syntax

-- whether octets have the shape of a syntax
abbrev pub shaped? : Syntax → List ℕ → Bool
shaped? HexObject l = true
shaped? OctetList l = true
shaped? Expiry l = expiry_size (length l)
shaped? HexList l = cookie_size (length l)
shaped? Word l = eqb (length l) 2
shaped? Padding l = true
shaped? WordList l = eqb (length l % 2) 0
shaped? ExtendedError l = error_shape l

pub shape_test : (syntax : Syntax) (l : List ℕ) → present? (shape (defined syntax) l) ≡ shaped? syntax l
unfolding shape
shape_test HexObject l = refl
shape_test OctetList l = refl
shape_test Expiry l = sym (chosen_or (eqb (length l) 0) (eqb (length l) 4) _ _)
shape_test HexList l = sym (chosen_or (eqb (length l) 8) (leb 16 (length l) && leb (length l) 40) _ _)
shape_test Word l = sym (chosen (eqb (length l) 2) _)
shape_test Padding l = refl
shape_test WordList l = sym (chosen (eqb (length l % 2) 0) _)
shape_test ExtendedError l = sym (chosen (error_shape l) _)
