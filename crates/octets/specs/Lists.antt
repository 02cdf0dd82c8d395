-- Octets of quoted texts, tests over lists, tables, and texts made of the texts of a list.
use Rattle.std.specs.Prelude.{Bool, true, false, cond, ◌&&◌, List, [], ◌∷◌, ◌++◌, ℕ, ◌+◌, ◌-◌, ◌*◌, ◌<◌, ltb, eqb}
use Rattle.std.proofs.Math.Option.{Option, none, some}
use Prim.Native.Char.{code}
use Prim.Native.String as S
use Prim.Native.String.{String}

-- the octets of a quoted text of ASCII characters
abbrev pub ascii : String → List ℕ
ascii S.[] = []
ascii (S.◌∷◌ c s) = code c ∷ ascii s

-- the octets of a quoted text of hexadecimal digits, two digits an octet
abbrev pub digit_value : ℕ → ℕ
digit_value c = cond (ltb c 58) (c - 48) (c - 55)

abbrev pub paired : List ℕ → List ℕ
paired [] = []
paired (x ∷ []) = []
paired (x ∷ y ∷ l) = (digit_value x * 16 + digit_value y) ∷ paired l

abbrev pub hexed : String → List ℕ
hexed digits = paired (ascii digits)

-- the empty list
abbrev pub none? : {A : Type 0} → List A → Bool
none? [] = true
none? (x ∷ l) = false

-- there is one
abbrev pub present? : {A : Type 0} → Option A → Bool
present? none = false
present? (some a) = true

-- a test of every element
abbrev pub all : {A : Type 0} → (A → Bool) → List A → Bool
all p [] = true
all p (x ∷ l) = p x && all p l

-- how many elements pass a test
abbrev pub count : {A : Type 0} → (A → Bool) → List A → ℕ
count p [] = 0
count p (x ∷ l) = cond (p x) (1 + count p l) (count p l)

-- a fact of every element
abbrev pub All : {A : Type 0} → (A → Type 0) → List A → Type 0
All P [] = Unit {0}
All P (x ∷ l) = P x × All P l

-- an octet; a number of 16 bits, of 32 bits
abbrev pub u8? : ℕ → Bool
u8? x = ltb x 256

abbrev pub u16? : ℕ → Bool
u16? n = ltb n 65536

abbrev pub u32? : ℕ → Bool
u32? n = ltb n 4294967296

-- a list of octets
abbrev pub Octets : List ℕ → Type 0
Octets = All (λ x. x < 256)

-- what a table holds under a key: the first row with it
unfoldable pub lookup : {A : Type 0} → ℕ → List (ℕ × A) → Option A
lookup k [] = none
lookup k (row ∷ rows) = cond (eqb row.0 k) (some row.1) (lookup k rows)

-- tables of texts: a number is a key of a table
unfoldable pub key? : ℕ → List (ℕ × String) → Bool
key? n [] = false
key? n (row ∷ rows) = cond (eqb row.0 n) true (key? n rows)

-- the text of the first row with this key
unfoldable pub row_text : ℕ → List (ℕ × String) → List ℕ
row_text n [] = []
row_text n (row ∷ rows) = cond (eqb row.0 n) (ascii row.1) (row_text n rows)

-- texts, or other octets, one after another
unfoldable pub each : {A : Type 0} → (A → List ℕ) → List A → List ℕ
each f [] = []
each f (a ∷ l) = f a ++ each f l

-- the same and an octet after the last
abbrev pub ended : {A : Type 0} → (A → List ℕ) → ℕ → List A → List ℕ
ended f stop [] = stop ∷ []
ended f stop (a ∷ l) = f a ++ ended f stop l

-- texts in brackets with commas between: `[a,b,c]`
abbrev pub listed : {A : Type 0} → (A → List ℕ) → List A → List ℕ
listed f [] = 91 ∷ 93 ∷ []
listed f (a ∷ l) = 91 ∷ (f a ++ ended (λ b. 44 ∷ f b) 93 l)
