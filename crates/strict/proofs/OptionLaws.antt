-- Laws of EDNS options: the shapes of values and what the values stand for, options and their members.
use mathlib.Core.Path.{◌≡◌, refl, sym, ◌∙◌, ap, ap₂, subst}
use mathlib.Core.Bool.{Bool, true, false, not, ◌&&◌, cond}
use mathlib.Core.Option.{Option, none, some, some-injective, none-ne-some}
use mathlib.Core.List.{List, [], ◌∷◌, ◌++◌, map, append-nil}
use Prim.Native.Nat.{ℕ, zero, suc, ◌+◌, ◌*◌, ◌/◌, ◌%◌, ◌<◌, ◌≤◌}
use Prim.Native.String.{String}
use native.Mathlib.Omega.{arith}
use borrow.Author.Tests.{le-leb, eq-eqb, ne_eqb, eqb-true}
use lib.Dec.{T, leb, eqb, leb→le, ltb→lt, lt→ltb, eqb→eq, eqb_refl}
use lib.ListN.{length, take, drop, replicate, length-append, length-drop, length-replicate, take-append-drop}
use lib.Seq.{length-take-le, take_at, drop_at}
use Rattle.octets.specs.Lists.{all, All, u8?, Octets, u16?, lookup, key?, each, present?}
use Rattle.octets.specs.Bits.{is_true, is_false, both, and_left, and_right, all→All, All→all, All-map, All-append}
use Rattle.octets.specs.Bits.{octets_in_lem, octets_test}
use Rattle.octets.specs.Fields.{be16, be32, be16_at, be32_at, two_back, four_at, two_octets, four_octets, two_at_word}
use Rattle.octets.specs.Fields.{four_at_long, two_same}
use Rattle.names.specs.NameLaws.{drop-octets, take-octets}
use Rattle.spelling.specs.Spelling.{printable?}
use Rattle.options.specs.Options.{Syntax, hex_object, octet_list, expiry, hex_list, word, padding, word_list, extended_error}
use Rattle.options.specs.Options.{unlisted, Value, Row, rows, members, row_syntax, syntax_of, zero?, words, present}
use Rattle.options.specs.Options.{shape}
use Rattle.options.specs.Options.{EdnsOption, Member, known, other, chosen, member_of}
use Rattle.strict.specs.Members.{octets_of, value?, option_of, member?}
use Rattle.strict.specs.Grammar.{Number, StringIn, Maybe, ValueIn, MemberIn}
use Rattle.edns.specs.Edns.{option?}

-- ---- numbers in octets
-- the two octets at the front, and those after
front_two : (l : List ℕ) → 2 ≤ length l → Octets l → be16 (be16_at l 0) ++ drop 2 l ≡ l
front_two [] h o = absurd (omega arith)
front_two (x ∷ []) h o = absurd (omega arith)
front_two (x ∷ y ∷ l) h o = ap (λ (t : List ℕ). t ++ l) (two_same x y o.0 o.1.0)

-- a list of just two octets
two_whole : (l : List ℕ) → length l ≡ 2 → Octets l → be16 (be16_at l 0) ≡ l
two_whole [] h o = absurd (omega arith)
two_whole (x ∷ []) h o = absurd (omega arith)
two_whole (x ∷ y ∷ []) h o = two_same x y o.0 o.1.0
two_whole (x ∷ y ∷ z ∷ l) h o = absurd (omega arith)

-- a list of just four octets
four_whole : (l : List ℕ) → length l ≡ 4 → Octets l → be32 (be32_at l 0) ≡ l
four_whole [] h o = absurd (omega arith)
four_whole (x ∷ []) h o = absurd (omega arith)
four_whole (x ∷ y ∷ []) h o = absurd (omega arith)
four_whole (x ∷ y ∷ z ∷ []) h o = absurd (omega arith)
four_whole (x ∷ y ∷ z ∷ w ∷ []) h o =
    let a : x < 256 = o.0 in
    let b : y < 256 = o.1.0 in
    let c : z < 256 = o.1.1.0 in
    let d : w < 256 = o.1.1.1.0 in
    let n : ℕ = (x * 256 + y) * 65536 + (z * 256 + w) in
    let p : n / 65536 ≡ x * 256 + y = omega arith in
    let q : n % 65536 ≡ z * 256 + w = omega arith in
    (λ i. be16 (p i) ++ be16 (q i)) ∙ ap₂ (λ (t u : List ℕ). t ++ u) (two_same x y a b) (two_same z w c d)
four_whole (x ∷ y ∷ z ∷ w ∷ u ∷ l) h o = absurd (omega arith)

-- pairs of octets and the numbers of 16 bits that they hold
words-forms : (l : List ℕ) → length l % 2 ≡ 0 → Octets l → each be16 (words l) ≡ l
unfolding words each
words-forms [] h o = refl
words-forms (x ∷ []) h o = absurd (omega arith)
words-forms (x ∷ y ∷ l) h o =
    ap₂ (λ (t u : List ℕ). t ++ u) (two_same x y o.0 o.1.0) (words-forms l (omega arith) o.1.1)

-- those numbers have 16 bits
words_word : (l : List ℕ) → Octets l → T (all u16? (words l))
unfolding words
words_word [] o = tt
words_word (x ∷ []) o = tt
words_word (x ∷ y ∷ l) o =
    let a : x < 256 = o.0 in
    let b : y < 256 = o.1.0 in
    both (u16? (x * 256 + y)) (all u16? (words l)) (lt→ltb (x * 256 + y) 65536 (omega arith)) (words_word l o.1.1)

-- numbers of 16 bits are read back from their octets
forms-words : (l : List ℕ) → T (all u16? l) → words (each be16 l) ≡ l
unfolding words each
forms-words [] h = refl
forms-words (n ∷ l) h =
    ap₂ (λ (k : ℕ) (t : List ℕ). k ∷ t) (two_back n (ltb→lt n 65536 (and_left (u16? n) (all u16? l) h)))
    (forms-words l (and_right (u16? n) (all u16? l) h))

-- their octets are an even number
forms_even : (l : List ℕ) → length (each be16 l) % 2 ≡ 0
unfolding each
forms_even [] = refl
forms_even (n ∷ l) = omega (arith, forms_even l)

-- they are octets
forms-octets : (l : List ℕ) → Octets (each be16 l)
unfolding each
forms-octets [] = tt
forms-octets (n ∷ l) = All-append (λ x. x < 256) (be16 n) (each be16 l) (two_octets n) (forms-octets l)

-- a number is any number
numbers : (l : List ℕ) → All Number l
numbers [] = tt
numbers (n ∷ l) = (tt, numbers l)

-- ---- zeros
-- a list of zeros is its length of them
zeros_same : (l : List ℕ) → T (all zero? l) → replicate (length l) 0 ≡ l
zeros_same [] h = refl
zeros_same (x ∷ l) h =
    ap₂ (λ (y : ℕ) (t : List ℕ). y ∷ t) (sym (eqb→eq x 0 (and_left (zero? x) (all zero? l) h)))
    (zeros_same l (and_right (zero? x) (all zero? l) h))

-- n zeros are all zero
zeros_zero : (n : ℕ) → T (all zero? (replicate n 0))
zeros_zero zero = tt
zeros_zero (suc n) = zeros_zero n

-- zeros are octets
zeros_octets : (n : ℕ) → Octets (replicate n 0)
zeros_octets zero = tt
zeros_octets (suc n) = (omega arith, zeros_octets n)

-- ---- from octets to a value
module _ {A : Type 0} (P : A → Type 0) where
  -- what holds of an answer, from what holds where its test passes
  pub one_some : (b : Bool) (x v : A) → (T b → P x) → cond b (some x) none ≡ some v → P v
  one_some true x v f e = subst P (some-injective x v e) (f tt)
  one_some false x v f e = absurd (none-ne-some v e)

  -- the same with two tests
  either_some : (b c : Bool) (x y v : A) → (T b → P x) → (T c → P y) → cond b (some x) (cond c (some y) none) ≡ some v
      → P v
  either_some true c x y v f g e = subst P (some-injective x v e) (f tt)
  either_some false c x y v f g e = one_some c y v g e

-- a value in the grammar that can be an option's, and these are its octets
abbrev pub Stands : (syntax : Syntax) → List ℕ → Value syntax → Type 0
Stands syntax l v = T (value? syntax v) × ValueIn syntax v × (octets_of syntax v ≡ l)

-- a list of length 0
empty : (l : List ℕ) → length l ≡ 0 → [] ≡ l
empty [] h = refl
empty (x ∷ l) h = absurd (omega arith)

-- a cookie of two parts
cookie_stands : (l : List ℕ) → Octets l → T (leb 16 (length l) && leb (length l) 40)
    → Stands hex_list l (take 8 l ∷ drop 8 l ∷ [])
unfolding value? octets_of each
cookie_stands l o h =
    let a = leb→le 16 (length l) (and_left (leb 16 (length l)) (leb (length l) 40) h) in
    let b = leb→le (length l) 40 (and_right (leb 16 (length l)) (leb (length l) 40) h) in
    let c = length-take-le 8 l (omega arith) in
    let d = length-drop 8 l in (
      rw (eq-eqb _ 8 c, le-leb 8 (length (drop 8 l)) (omega arith), le-leb (length (drop 8 l)) 32 (omega arith)) tt,
      (take-octets 8 l o, (drop-octets 8 l o, tt)),
      ap (λ (t : List ℕ). take 8 l ++ t) (append-nil (drop 8 l)) ∙ take-append-drop 8 l,
    )

-- padding: zeros go by their number
padding_stands : (l : List ℕ) (b : Bool) → all zero? l ≡ b → Octets l
    → Stands padding l (length l, cond b none (some l))
unfolding value? octets_of
padding_stands l true h o = (tt, (tt, tt), zeros_same l (subst T (sym h) tt))
padding_stands l false h o = (
  both (eqb (length l) (length l)) (not (all zero? l)) (eqb_refl (length l)) (subst (λ b. T (not b)) (sym h) tt),
  (tt, o),
  refl,
)

-- an extended error: a text that is there is not empty
error_stands : (l : List ℕ) → Octets l → T (leb 2 (length l) && all printable? (drop 2 l))
    → Stands extended_error l (be16_at l 0, present (drop 2 l))
unfolding value? octets_of
error_stands l o h =
    go (drop 2 l) (and_right (leb 2 (length l)) (all printable? (drop 2 l)) h)
    (front_two l (leb→le 2 (length l) (and_left (leb 2 (length l)) (all printable? (drop 2 l)) h)) o)
  where
    range : T (u16? (be16_at l 0))
    range = lt→ltb (be16_at l 0) 65536 (two_at_word l o 0)

    go : (t : List ℕ) → T (all printable? t) → be16 (be16_at l 0) ++ t ≡ l
        → Stands extended_error l (be16_at l 0, present t)
    go [] p e = (both (u16? (be16_at l 0)) true range tt, (tt, tt), e)
    go (x ∷ t) p e = (both (u16? (be16_at l 0)) true range tt, (tt, all→All printable? (x ∷ t) p), e)

-- a value that octets have the shape of is valid, and they are its octets
pub shape-value : (syntax : Syntax) (l : List ℕ) (v : Value syntax) → Octets l → shape syntax l ≡ some v → Stands syntax l v
unfolding shape value? octets_of each
shape-value hex_object l v o e = subst (Stands hex_object l) (some-injective l v e) (tt, o, refl)
shape-value octet_list l v o e =
    subst (Stands octet_list l) (some-injective l v e) (octets_test l o, numbers l, refl)
shape-value expiry l v o e =
    either_some (Stands expiry l) (eqb (length l) 0) (eqb (length l) 4) none (some (be32_at l 0)) v
    (λ h. (tt, tt, empty l (eqb→eq (length l) 0 h)))
    (λ h. (lt→ltb (be32_at l 0) 4294967296 (four_at_long l o 0), tt, four_whole l (eqb→eq (length l) 4 h) o)) e
shape-value hex_list l v o e = either_some (Stands hex_list l) (eqb (length l) 8) (leb 16 (length l) && leb (length l) 40)
    (l ∷ []) (take 8 l ∷ drop 8 l ∷ []) v
    (λ h. (h, (o, tt), append-nil l)) (λ h. cookie_stands l o h) e
shape-value word l v o e = one_some (Stands word l) (eqb (length l) 2) (be16_at l 0) v
    (λ h. (lt→ltb (be16_at l 0) 65536 (two_at_word l o 0), tt, two_whole l (eqb→eq (length l) 2 h) o)) e
shape-value padding l v o e =
    subst (Stands padding l) (some-injective _ v e) (padding_stands l (all zero? l) refl o)
shape-value word_list l v o e = one_some (Stands word_list l) (eqb (length l % 2) 0) (words l) v
    (λ h. (words_word l o, numbers (words l), words-forms l (eqb→eq (length l % 2) 0 h) o)) e
shape-value extended_error l v o e =
    one_some (Stands extended_error l) (leb 2 (length l) && all printable? (drop 2 l)) (be16_at l 0, present (drop 2 l)) v
    (λ h. error_stands l o h) e
shape-value unlisted l v o e = absurd (none-ne-some v e)

-- ---- from a value to octets
-- octets that have the shape of a value
abbrev pub ShapedBy : (syntax : Syntax) → Value syntax → Type 0
ShapedBy syntax v = (shape syntax (octets_of syntax v) ≡ some v) × Octets (octets_of syntax v)

-- expiry: nothing, or four octets
expiry_shaped : (n : Option ℕ) → T (value? expiry n) → ShapedBy expiry n
unfolding shape value? octets_of
expiry_shaped none h = (refl, tt)
expiry_shaped (some n) h = (
  let k = ltb→lt n 4294967296 h in let e : be32_at (be32 n) 0 ≡ n = four_at (be32 n) [] 0 n k refl in
      ap (λ (m : ℕ). some (some m)) e,
  four_octets n,
)

-- a cookie of one part or of two
cookie_shaped : (l : List (List ℕ)) → T (value? hex_list l) → All Octets l → ShapedBy hex_list l
unfolding shape value? octets_of each
cookie_shaped [] h o = absurd h
cookie_shaped (client ∷ []) h o = rw (append-nil client, is_true (eqb (length client) 8) h) (refl, o.0)
cookie_shaped (client ∷ server ∷ []) h o =
    let t = eqb (length client) 8 && leb 8 (length server) in
    let a = eqb→eq (length client) 8
    (and_left (eqb (length client) 8) (leb 8 (length server)) (and_left t (leb (length server) 32) h)) in
    let b = leb→le 8 (length server)
    (and_right (eqb (length client) 8) (leb 8 (length server)) (and_left t (leb (length server) 32) h)) in
    let c = leb→le (length server) 32 (and_right t (leb (length server) 32) h) in
    let d = length-append client server in
    rw (append-nil server) (
      rw (
        ne_eqb (length (client ++ server)) 8 (λ e. omega arith),
        le-leb 16 (length (client ++ server)) (omega arith),
        le-leb (length (client ++ server)) 40 (omega arith),
        take_at client server 8 a,
        drop_at client server 8 a,
      ) refl,
      All-append (λ x. x < 256) client server o.0 o.1.0,
    )
cookie_shaped (client ∷ server ∷ more ∷ l) h o = absurd h

-- padding: zeros, or octets that are not all zero
padding_shaped : (n : ℕ) (x : Option (List ℕ)) → T (value? padding (n, x)) → Maybe Octets x → ShapedBy padding (n, x)
unfolding shape value? octets_of
padding_shaped n none h o =
    (rw (is_true (all zero? (replicate n 0)) (zeros_zero n), length-replicate {A = ℕ} n 0) refl, zeros_octets n)
padding_shaped n (some hex) h o = (
  rw (
    is_false (all zero? hex) (and_right (eqb (length hex) n) (not (all zero? hex)) h),
    eqb→eq (length hex) n (and_left (eqb (length hex) n) (not (all zero? hex)) h),
  ) refl,
  o,
)

-- printable octets are octets
printable_octets : (l : List ℕ) → StringIn l → Octets l
unfolding printable?
printable_octets l h = All-map (λ x t. let k = leb→le x 126 (and_right (leb 32 x) (leb x 126) t) in omega arith) l h

-- an extended error, with its text or without
error_shaped : (n : ℕ) (x : Option (List ℕ)) → T (value? extended_error (n, x)) → Maybe StringIn x
    → ShapedBy extended_error (n, x)
unfolding shape value? octets_of
error_shaped n none h o =
    (ap (λ (m : ℕ). some (m, none)) (two_back n (ltb→lt n 65536 (and_left (u16? n) true h))), two_octets n)
error_shaped n (some []) h o = absurd (and_right (u16? n) false h)
error_shaped n (some (x ∷ l)) h o =
    let e = two_back n (ltb→lt n 65536 (and_left (u16? n) true h)) in (
      rw (
        le-leb 2 (suc (suc (suc (length l)))) (omega arith),
        is_true (all printable? (x ∷ l)) (All→all printable? (x ∷ l) o),
      ) (ap (λ (m : ℕ). some (m, some (x ∷ l))) e),
      All-append (λ x. x < 256) (be16 n) (x ∷ l) (two_octets n) (printable_octets (x ∷ l) o),
    )

-- a valid value's octets have its shape
pub value-shape : (syntax : Syntax) (v : Value syntax) → T (value? syntax v) → ValueIn syntax v → ShapedBy syntax v
unfolding shape value? octets_of
value-shape hex_object v h i = (refl, i)
value-shape octet_list v h i = (refl, octets_in_lem v h)
value-shape expiry v h i = expiry_shaped v h
value-shape hex_list v h i = cookie_shaped v h i
value-shape word v h i = (ap some (two_back v (ltb→lt v 65536 h)), two_octets v)
value-shape padding v h i = padding_shaped v.0 v.1 h i.1
value-shape word_list v h i =
    (rw (eq-eqb (length (each be16 v) % 2) 0 (forms_even v), forms-words v h) refl, forms-octets v)
value-shape extended_error v h i = error_shaped v.0 v.1 h i.1
value-shape unlisted v h i = absurd h

-- ---- codes
-- what a test finds of all keys of a table holds of a key
pub key_holds : (p : ℕ → Bool) (rows : List (ℕ × String)) (n : ℕ) → T (all (λ (row : ℕ × String). p row.0) rows)
    → T (key? n rows) → T (p n)
unfolding key?
key_holds p [] n h k = absurd k
key_holds p (row ∷ rows) n h k =
    go (eqb row.0 n) refl k
    (λ k. key_holds p rows n (and_right (p row.0) (all (λ (row : ℕ × String). p row.0) rows) h) k)
  where
    go : (b : Bool) → eqb row.0 n ≡ b → T (cond b true (key? n rows)) → (T (key? n rows) → T (p n)) → T (p n)
    go true e k f = subst (λ (m : ℕ). T (p m)) (eqb-true row.0 n e)
        (and_left (p row.0) (all (λ (row : ℕ × String). p row.0) rows) h)
    go false e k f = f k

-- the syntax of a row
abbrev pub Listed : Syntax → Type 0
Listed hex_object = Unit {0}
Listed octet_list = Unit {0}
Listed expiry = Unit {0}
Listed hex_list = Unit {0}
Listed word = Unit {0}
Listed padding = Unit {0}
Listed word_list = Unit {0}
Listed extended_error = Unit {0}
Listed unlisted = ⊥

-- a code with a row in a table is a key of the table of members
rows_key : (table : List (ℕ × Row)) (code : ℕ) → Listed (row_syntax (lookup code table))
    → T (key? code (map (λ (row : ℕ × Row). (row.0, row.1.member)) table))
unfolding lookup key?
rows_key [] code h = absurd h
rows_key (row ∷ table) code h = go (eqb row.0 code) h (λ h. rows_key table code h)
  where
    rest : List (ℕ × String)
    rest = map (λ (row : ℕ × Row). (row.0, row.1.member)) table

    go : (b : Bool) → Listed (row_syntax (cond b (some row.1) (lookup code table)))
        → (Listed (row_syntax (lookup code table)) → T (key? code rest))
        → T (cond b true (key? code rest))
    go true h f = tt
    go false h f = f h

-- a code with a row is a key of the members
pub listed_key : (code : ℕ) → Listed (syntax_of code) → T (key? code members)
unfolding syntax_of members
listed_key code h = rows_key rows code h

-- a key of the members is a number of 16 bits
pub key_word : (code : ℕ) → T (key? code members) → code < 65536
unfolding members rows
key_word code k = ltb→lt code 65536 (key_holds u16? members code tt k)

-- only a syntax of a row has a value
shape-listed : (syntax : Syntax) (l : List ℕ) (v : Value syntax) → shape syntax l ≡ some v → Listed syntax
unfolding shape
shape-listed hex_object l v e = tt
shape-listed octet_list l v e = tt
shape-listed expiry l v e = tt
shape-listed hex_list l v e = tt
shape-listed word l v e = tt
shape-listed padding l v e = tt
shape-listed word_list l v e = tt
shape-listed extended_error l v e = tt
shape-listed unlisted l v e = none-ne-some v e

-- ---- options and members
-- the option of an option's member is that option
pub member_option : (o : EdnsOption) → Octets o.value → o.code < 65536
    → (option_of (member_of o) ≡ o) × T (member? (member_of o)) × MemberIn (member_of o)
unfolding member_of option_of member?
member_option o i h = go (shape (syntax_of o.code) o.value) refl
  where
    chosen_of : Option (Value (syntax_of o.code)) → Member
    chosen_of = chosen o.code o.value

    go : (x : Option (Value (syntax_of o.code))) → shape (syntax_of o.code) o.value ≡ x
        → (option_of (chosen_of x) ≡ o) × T (member? (chosen_of x)) × MemberIn (chosen_of x)
    go none e = (
      refl,
      both (u16? o.code) (not (present? (shape (syntax_of o.code) o.value)))
          (lt→ltb o.code 65536 h) (rw e tt),
      (tt, i),
    )
    go (some v) e =
        let s = shape-value (syntax_of o.code) o.value v i e in (
          λ i. record { code = o.code; value = s.2 i },
          s.0,
          (listed_key o.code (shape-listed (syntax_of o.code) o.value v e), s.1),
        )

-- an answer that is absent
absent_none : {A : Type 0} (x : Option A) → T (not (present? x)) → x ≡ none
absent_none none h = refl
absent_none (some a) h = absurd h

-- a valid member is the member of its option
pub option_member_lem : (m : Member) → MemberIn m → T (member? m) → (member_of (option_of m) ≡ m) × T (option? (option_of m))
unfolding member_of option_of member? option?
option_member_lem (known code v) i h =
    let w = value-shape (syntax_of code) v h i.1 in (
      ap (chosen code (octets_of (syntax_of code) v)) w.0,
      both (u16? code) (all u8? (octets_of (syntax_of code) v)) (lt→ltb code 65536 (key_word code i.0))
          (octets_test (octets_of (syntax_of code) v) w.1),
    )
option_member_lem (other code hex) i h = (
  ap (chosen code hex) (absent_none (shape (syntax_of code) hex)
      (and_right (u16? code) (not (present? (shape (syntax_of code) hex))) h)),
  both (u16? code) (all u8? hex) (and_left (u16? code) (not (present? (shape (syntax_of code) hex))) h)
      (octets_test hex i.1),
)
