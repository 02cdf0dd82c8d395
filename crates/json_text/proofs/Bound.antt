-- A message's text is not much longer than its uncompressed form: an octet of the form has at most 10 of text.
use mathlib.Core.Path.{◌≡◌, refl, ap}
use mathlib.Core.Bool.{Bool, true, false, cond, ◌&&◌}
use mathlib.Core.Option.{Option, none, some}
use mathlib.Core.List.{List, [], ◌∷◌, ◌++◌, map}
use Prim.Native.Nat.{ℕ, zero, suc, ◌+◌, ◌-◌, ◌*◌, ◌%◌, ◌^◌, ◌≤◌, ◌<◌}
use Prim.Native.String.{String}
use native.Mathlib.Nat.{pow-suc}
use native.Mathlib.Omega.{arith}
use lib.Dec.{T, leb, ltb, eqb, ltb→lt}
use lib.ListN.{length, take, drop, length-append, length-take, length-drop}
use Rattle.octets.specs.Lists.{ascii, all, All, Octets, each, ended, listed, row_text, u16?, u8?, key?}
use Rattle.octets.specs.Bits.{and_left, and_right, all→All, All-map, octets_in_lem}
use Rattle.octets.specs.Fields.{be16, be16_at, be32_at, two_at_word, four_at_long}
use Rattle.octets.specs.Decimal.{decimal}
use Rattle.octets.specs.Hexadecimal.{hex_octet, hex_text}
use Rattle.octets.proofs.Writing.{decimal_short, each-hex-length}
use Rattle.octets.specs.Overlay.{each-ended}
use Rattle.names.specs.Name.{Name, name_form}
use Rattle.names.specs.NameLaws.{form-long}
use Rattle.records.specs.Message.{Question, Record, Message, question_form, record_form, form, question?, record?}
use Rattle.records.specs.Message.{section?, valid?, bit?}
use Rattle.records.proofs.MessageLaws.{Bounds, valid_parts}
use Rattle.records.proofs.MessageLaws as message
use Rattle.records.specs.RecordLaws.{question_parts, record_parts, record_long}
use Rattle.spelling.specs.Spelling.{spelled, label_text, name_text, plus, minus, signed, signed_text, printable?}
use Rattle.spelling.specs.Spelling.{string_octet, string_text}
use Rattle.spelling.specs.Width.{spelled-width, width_range}
use Rattle.options.specs.Options.{rows, members, Syntax, hex_object, octet_list, expiry, hex_list, word, padding, word_list}
use Rattle.options.specs.Options.{extended_error, unlisted, syntax_of, Value}
use Rattle.options.specs.Options.{zero?, words, present, shape, error_tail, value_text, EdnsOption, chosen, member_of}
use Rattle.options.specs.Options.{member_text}
use Rattle.edns.specs.Edns.{rcodes, Edns, edns_item, edns_record, edns?, option?, option_form, full_rcode, rising?, flags}
use Rattle.edns.specs.Edns.{edns_text}
use Rattle.edns.specs.EdnsLaws.{option_long}
use Rattle.edns.specs.Table.{text_short as row-short}
use Rattle.json_text.specs.View.{Additional, View, view_of, record_of, message_of, additional?, additionals?, view?}
use Rattle.json_text.specs.View as view
use Rattle.json_text.proofs.ViewLaws.{message_view, view_valid, view_additional, message_valid, map-long}
use Rattle.json_text.specs.Document.{question_text, record_text, item_text, ad_titles, head_text, document_text}
use Rattle.json_text.specs.Text.{record_item, item, document_of, view_text, text}

-- ---- texts
-- at most n octets; as a record, so that the text is found from the fact
record Short (l : List ℕ) (n : ℕ) : Type 0 where
  short : length l ≤ n

-- one text after another
infixl 65 ◌⊕◌
◌⊕◌ : {l m : List ℕ} {a b : ℕ} → Short l a → Short m b → Short (l ++ m) (a + b)
◌⊕◌ {l} {m} h k = record { short = omega (arith, length-append l m, h.short, k.short) }

-- a quoted text
quote : (l : String) → Short (ascii l) (length (ascii l))
quote l = record { short = omega arith }

-- the texts of a list, beside its forms
module _ {A : Type 0} (f g : A → List ℕ) where
  ended_short : (stop : ℕ) (l : List A) → All (λ a. length (f a) ≤ 10 * length (g a)) l
      → Short (ended f stop l) (10 * length (each g l) + 1)
  unfolding each
  ended_short stop [] h = record { short = omega arith }
  ended_short stop (a ∷ l) h =
      let k = (ended_short stop l h.1).short in
      record { short = omega (arith, k, h.0, length-append (f a) (ended f stop l), length-append (g a) (each g l)) }

module _ {A : Type 0} (f g : A → List ℕ) where
  listed_short : (l : List A) → All (λ a. length (f a) + 1 ≤ 10 * length (g a)) l
      → Short (listed f l) (10 * length (each g l) + 2)
  unfolding each
  listed_short [] h = record { short = omega arith }
  listed_short (a ∷ l) h =
      let k = (ended_short (λ b. 44 ∷ f b) g 93 l (All-map (λ b p. omega (arith, p)) l h.1)).short in
      record {
        short = omega (
          arith,
          k,
          h.0,
          length-append (f a) (ended (λ b. 44 ∷ f b) 93 l),
          length-append (g a) (each g l),
        );
      }

-- the texts of octets
every : {A : Type 0} {P : A → Type 0} → ((a : A) → P a) → (l : List A) → All P l
every p [] = tt
every p (a ∷ l) = (p a, every p l)

each_one : (l : List ℕ) → length (each (λ x. x ∷ []) l) ≡ length l
unfolding each
each_one [] = refl
each_one (x ∷ l) = ap suc (each_one l)

octets_short : (f : ℕ → List ℕ) (stop : ℕ) → ((x : ℕ) → length (f x) ≤ 5) → (l : List ℕ)
    → Short (ended f stop l) (10 * length l + 1)
octets_short f stop p l =
    let k = (ended_short f (λ x. x ∷ []) stop l (every (λ x. omega (arith, p x)) l)).short in
    record { short = omega (arith, k, each_one l) }

-- the texts of a table
text_of_short : (k : ℕ) (table : List (ℕ × String)) → T (all (λ row. leb (length (ascii row.1)) k) table) → (n : ℕ)
    → Short (row_text n table) k
text_of_short k table h n = record { short = row-short k n table h }

-- ---- numbers, hex, names and strings
decimal_ten : (n : ℕ) → n < 10000000000 → Short (decimal n) 10
decimal_ten n h = record { short = decimal_short 9 n h }

decimal_five : (n : ℕ) → n < 65536 → Short (decimal n) 5
decimal_five n h = record { short = decimal_short 4 n (omega (arith, h)) }

below_power : (n : ℕ) → n < 10 ^ suc n
below_power zero = omega arith
below_power (suc n) = omega (arith, pow-suc 10 (suc n), below_power n)

decimal-any : (n : ℕ) → Short (decimal n) (n + 1)
decimal-any n = record { short = omega (arith, decimal_short n n (below_power n)) }

hex_short : (l : List ℕ) → Short (hex_text l) (2 * length l + 2)
unfolding hex_text
hex_short l = rw (each-ended hex_octet 34 l)
    (record { short = omega (arith, length-append (each hex_octet l) (34 ∷ []), each-hex-length l) })

signed_short : (n : ℕ) → n < 4294967296 → Short (signed_text (signed n)) 11
unfolding signed_text signed
signed_short n h = go (ltb n 2147483648)
  where
    go : (b : Bool) → Short (signed_text (cond b (plus n) (minus (4294967296 - n)))) 11
    go true = record { short = omega (arith, (decimal_ten n (omega arith)).short) }
    go false = record { short = omega (arith, (decimal_ten (4294967296 - n) (omega arith)).short) }

spelled_five : (x : ℕ) → length (spelled x) ≤ 5
spelled_five x = omega (arith, spelled-width x, width_range x)

label_short : (l : List ℕ) → Short (label_text l) (10 * length l + 1)
unfolding label_text
label_short l = octets_short spelled 46 spelled_five l

labels_short : (n : Name) → Short (ended label_text 34 n) (10 * length (name_form n))
unfolding name_form
labels_short [] = record { short = omega arith }
labels_short (l ∷ n) =
    record {
      short = omega (
        arith,
        (label_short l).short,
        (labels_short n).short,
        form-long l n,
        length-append (label_text l) (ended label_text 34 n),
      );
    }

name_short : (n : Name) → Short (name_text n) (10 * length (name_form n) + 1)
unfolding name_text name_form
name_short [] = record { short = omega arith }
name_short (l ∷ n) = record { short = omega (arith, (labels_short (l ∷ n)).short) }

string_short : (l : List ℕ) → Short (string_text l) (10 * length l + 2)
unfolding string_text string_octet
string_short l = record { short = omega (arith, (octets_short string_octet 34 octet l).short) }
  where
    octet : (x : ℕ) → length (string_octet x) ≤ 5
    octet x = go (eqb x 34) (eqb x 92)
      where
        go : (a b : Bool) → length (cond a (ascii "\\\"") (cond b (ascii "\\\\") (x ∷ []))) ≤ 5
        go true b = omega arith
        go false true = omega arith
        go false false = omega arith

-- ---- options
-- a list of octets as numbers, and of numbers of two octets
numbers_short : (l : List ℕ) → Octets l → Short (listed decimal l) (10 * length l + 2)
numbers_short l h =
    let k = (listed_short decimal (λ x. x ∷ []) l
    (All-map (λ x p. omega (arith, (decimal_five x (omega (arith, p))).short)) l h)).short in
    record { short = omega (arith, k, each_one l) }

words_long : (l : List ℕ) → 2 * length (words l) ≤ length l
unfolding words
words_long [] = omega arith
words_long (x ∷ []) = omega arith
words_long (x ∷ y ∷ l) = omega (arith, words_long l)

words_in : (l : List ℕ) → Octets l → All (λ n. n < 65536) (words l)
unfolding words
words_in [] h = tt
words_in (x ∷ []) h = tt
words_in (x ∷ y ∷ l) h = (omega (arith, h.0, h.1.0), words_in l h.1.1)

words_short : (l : List ℕ) → Octets l → Short (listed decimal (words l)) (10 * length l + 2)
words_short l h =
    let k = (listed_short decimal (λ x. x ∷ []) (words l)
    (All-map (λ x p. omega (arith, (decimal_five x (omega (arith, p))).short)) (words l) (words_in l h))).short in
    record { short = omega (arith, k, each_one (words l), words_long l) }

error_short : (l : List ℕ) → Short (error_tail (present l)) (10 * length l + 11)
error_short [] = record { short = omega arith }
error_short (x ∷ l) = record { short = omega (arith, (quote ",\"TEXT\":" ⊕ string_short (x ∷ l) ⊕ quote "}").short) }

-- the text of a value that has its syntax's shape
abbrev Holds : (syntax : Syntax) → Option (Value syntax) → ℕ → Type 0
Holds syntax none n = Unit {0}
Holds syntax (some v) n = Short (value_text syntax v) n

within : {l : List ℕ} {a : ℕ} (b : ℕ) → a ≤ b → Short l a → Short l b
within b h k = record { short = omega (arith, h, k.short) }

shape_short : (syntax : Syntax) (l : List ℕ) → Octets l → Holds syntax (shape syntax l) (10 * length l + 27)
unfolding shape value_text
shape_short hex_object l h = within _ (omega arith) (quote "{\"HEX\":" ⊕ hex_short l ⊕ quote "}")
shape_short octet_list l h = within _ (omega arith) (numbers_short l h)
shape_short expiry l h = go (eqb (length l) 0) (eqb (length l) 4)
  where
    go : (a b : Bool) → Holds expiry (cond a (some none) (cond b (some (some (be32_at l 0))) none)) (10 * length l + 27)
    go true b = record { short = omega arith }
    go false true = within _ (omega arith) (decimal_ten (be32_at l 0) (omega (arith, four_at_long l h 0)))
    go false false = tt
shape_short hex_list l h = go (eqb (length l) 8) (leb 16 (length l) && leb (length l) 40)
  where
    go : (a b : Bool) → Holds hex_list (cond a (some (l ∷ [])) (cond b (some (take 8 l ∷ drop 8 l ∷ [])) none))
        (10 * length l + 27)
    go true b = record { short = omega (arith, (hex_short l).short, length-append (hex_text l) (93 ∷ [])) }
    go false true =
        record {
          short = omega (
            arith,
            (hex_short (take 8 l)).short,
            (hex_short (drop 8 l)).short,
            length-take 8 l,
            length-drop 8 l,
            length-append (hex_text (take 8 l)) (44 ∷ (hex_text (drop 8 l) ++ (93 ∷ []))),
            length-append (hex_text (drop 8 l)) (93 ∷ []),
          );
        }
    go false false = tt
shape_short word l h = go (eqb (length l) 2)
  where
    go : (a : Bool) → Holds word (cond a (some (be16_at l 0)) none) (10 * length l + 27)
    go true = within _ (omega arith) (decimal_five (be16_at l 0) (two_at_word l h 0))
    go false = tt
shape_short padding l h = go (all zero? l)
  where
    go : (a : Bool) → Holds padding (some (length l, cond a none (some l))) (10 * length l + 27)
    go true = within _ (omega arith) (quote "{\"LENGTH\":" ⊕ decimal-any (length l) ⊕ quote "}")
    go false = within _ (omega arith)
        (quote "{\"LENGTH\":" ⊕ decimal-any (length l) ⊕ (quote ",\"HEX\":" ⊕ hex_short l ⊕ quote "}"))
shape_short word_list l h = go (eqb (length l % 2) 0)
  where
    go : (a : Bool) → Holds word_list (cond a (some (words l)) none) (10 * length l + 27)
    go true = within _ (omega arith) (words_short l h)
    go false = tt
shape_short extended_error l h = go (leb 2 (length l) && all printable? (drop 2 l))
  where
    go : (a : Bool) → Holds extended_error (cond a (some (be16_at l 0, present (drop 2 l))) none) (10 * length l + 27)
    go true =
        within _ (omega (arith, length-drop 2 l))
        (quote "{\"CODE\":" ⊕ decimal_five (be16_at l 0) (two_at_word l h 0) ⊕ error_short (drop 2 l))
    go false = tt
shape_short unlisted l h = tt

-- an option's member
members_short : (n : ℕ) → Short (row_text n members) 9
unfolding members rows
members_short n = text_of_short 9 members tt n

chosen_short : (code : ℕ) (l : List ℕ) → code < 65536 → (x : Option (Value (syntax_of code)))
    → Holds (syntax_of code) x (10 * length l + 27) → Short (member_text (chosen code l x)) (10 * length l + 39)
unfolding member_text
chosen_short code l h none k =
    within _ (omega arith) (quote "\"OPT" ⊕ decimal_five code h ⊕ quote "\":" ⊕ hex_short l)
chosen_short code l h (some v) k = within _ (omega arith) (quote "\"" ⊕ members_short code ⊕ quote "\":" ⊕ k)

member_short : (o : EdnsOption) → T (option? o) → length (44 ∷ member_text (member_of o)) ≤ 10 * length (option_form o)
unfolding member_of option?
member_short o h =
    let code = ltb→lt o.code 65536 (and_left (u16? o.code) _ h) in
    let octets = octets_in_lem o.value (and_right (u16? o.code) _ h) in
    let k = chosen_short o.code o.value code (shape (syntax_of o.code) o.value)
    (shape_short (syntax_of o.code) o.value octets) in
    omega (arith, k.short, option_long o)

-- ---- lists of what is made of the elements of a list
module _ {A B : Type 0} (h : A → B) where
  ended-map : (f : B → List ℕ) (stop : ℕ) (l : List A) → ended f stop (map h l) ≡ ended (λ a. f (h a)) stop l
  ended-map f stop [] = refl
  ended-map f stop (a ∷ l) = ap (λ (t : List ℕ). f (h a) ++ t) (ended-map f stop l)

  listed-map : (f : B → List ℕ) (l : List A) → listed f (map h l) ≡ listed (λ a. f (h a)) l
  listed-map f [] = refl
  listed-map f (a ∷ l) = ap (λ (t : List ℕ). 91 ∷ (f (h a) ++ t)) (ended-map (λ b. 44 ∷ f b) 93 l)

  each_map : (f : B → List ℕ) (l : List A) → each f (map h l) ≡ each (λ a. f (h a)) l
  unfolding each
  each_map f [] = refl
  each_map f (a ∷ l) = ap (λ (t : List ℕ). f (h a) ++ t) (each_map f l)

-- ---- questions, records, elements
question_short : (q : Question) → T (question? q) → length (question_text q) + 1 ≤ 10 * length (question_form q)
unfolding question_text question_form
question_short q h =
    let (n, t, c) = question_parts q h in
    let k = quote "{\"NAME\":" ⊕ name_short q.name
    ⊕ quote ",\"TYPE\":" ⊕ decimal_five q.type t
    ⊕ quote ",\"CLASS\":" ⊕ decimal_five q.class c
    ⊕ quote "}" in
    omega (
      arith,
      k.short,
      length-append (name_form q.name) (be16 q.type),
      length-append (name_form q.name ++ be16 q.type) (be16 q.class),
    )

record_short : (r : Record) → T (record? r) → length (record_text (record_item r)) + 1 ≤ 10 * length (record_form r)
unfolding record_text record_item
record_short r h =
    let (n, t, c, l, o, z) = record_parts r h in
    let k = quote "{\"NAME\":" ⊕ name_short r.name
    ⊕ quote ",\"TYPE\":" ⊕ decimal_five r.type t
    ⊕ quote ",\"CLASS\":" ⊕ decimal_five r.class c
    ⊕ quote ",\"TTL\":" ⊕ signed_short r.ttl l
    ⊕ quote ",\"RDATAHEX\":" ⊕ hex_short r.rdata
    ⊕ quote "}" in
    omega (arith, k.short, record_long r)

edns_parts : (rcode : ℕ) (e : Edns) → T (edns? rcode e) → (e.size < 65536) × T (all option? e.options)
unfolding edns?
edns_parts rcode e h =
    let a = u16? e.size in
    let b = u8? e.extended in
    let c = bit? e.dnssec_ok in
    let d = key? (full_rcode rcode e.extended) rcodes in
    let f = all option? e.options in
    let h₄ = and_left (a && b && c && d && f) (rising? e.options) h in
    let h₃ = and_left (a && b && c && d) f h₄ in
    let h₂ = and_left (a && b && c) d h₃ in
    let h₁ = and_left (a && b) c h₂ in
    (ltb→lt e.size 65536 (and_left a b h₁), and_right (a && b && c && d) f h₄)

flags_short : (n : ℕ) → Short (row_text n flags) 9
unfolding flags
flags_short n = text_of_short 9 flags tt n

rcodes_short : (n : ℕ) → Short (row_text n rcodes) 9
unfolding rcodes
rcodes_short n = text_of_short 9 rcodes tt n

options_short : (l : List EdnsOption) → T (all option? l)
    → Short (ended (λ m. 44 ∷ member_text m) 125 (map member_of l)) (10 * length (each option_form l) + 1)
options_short l h = rw (ended-map member_of (λ m. 44 ∷ member_text m) 125 l)
    (ended_short (λ o. 44 ∷ member_text (member_of o)) option_form 125 l (All-map member_short l (all→All option? l h)))

edns_short : (rcode : ℕ) (e : Edns) → T (edns? rcode e)
    → length (edns_text (edns_item rcode e)) + 1 ≤ 10 * length (record_form (edns_record e))
unfolding edns_text edns_item edns_record name_form
edns_short rcode e h =
    let (s, o) = edns_parts rcode e h in
    let k = quote "{\"EDNS\":{\"Version\":" ⊕ decimal_five 0 (omega arith)
    ⊕ quote ",\"FLAGS\":" ⊕ flags_short e.dnssec_ok
    ⊕ quote ",\"RCODE\":\"" ⊕ rcodes_short (full_rcode rcode e.extended)
    ⊕ quote "\",\"UDPSIZE\":" ⊕ decimal_five e.size s
    ⊕ options_short e.options o
    ⊕ quote "}" in
    omega (arith, k.short, record_long (edns_record e))

item_short : (rcode : ℕ) (a : Additional) → T (additional? rcode a)
    → length (item_text (item rcode a)) + 1 ≤ 10 * length (record_form (record_of a))
unfolding additional? item_text item record_of
item_short rcode (view.ordinary r) h = record_short r h
item_short rcode (view.edns e) h = edns_short rcode e h

-- ---- the document
titles_short : (n : ℕ) → Short (row_text n ad_titles) 12
unfolding ad_titles
titles_short n = text_of_short 12 ad_titles tt n

head_short : (v : View) → Bounds v.header → length v.questions < 65536 → length v.answers < 65536
    → length v.authority < 65536 → length v.additional < 65536
    → Short (head_text (document_of v)) 280
unfolding head_text document_of
head_short v h q a n r =
    within 280 (omega arith)
    (quote "{\"ID\":" ⊕ decimal_five v.header.id (omega (arith, h.id))
    ⊕ quote ",\"QR\":" ⊕ decimal_five v.header.qr (omega (arith, h.qr))
    ⊕ quote ",\"Opcode\":" ⊕ decimal_five v.header.opcode (omega (arith, h.opcode))
    ⊕ quote ",\"AA\":" ⊕ decimal_five v.header.aa (omega (arith, h.aa))
    ⊕ quote ",\"TC\":" ⊕ decimal_five v.header.tc (omega (arith, h.tc))
    ⊕ quote ",\"RD\":" ⊕ decimal_five v.header.rd (omega (arith, h.rd))
    ⊕ quote ",\"RA\":" ⊕ decimal_five v.header.ra (omega (arith, h.ra))
    ⊕ titles_short v.header.z ⊕ decimal_five v.header.ad (omega (arith, h.ad))
    ⊕ quote ",\"CD\":" ⊕ decimal_five v.header.cd (omega (arith, h.cd))
    ⊕ quote ",\"RCODE\":" ⊕ decimal_five v.header.rcode (omega (arith, h.rcode))
    ⊕ quote ",\"QDCOUNT\":" ⊕ decimal_five (length v.questions) (omega (arith, q))
    ⊕ quote ",\"ANCOUNT\":" ⊕ decimal_five (length v.answers) (omega (arith, a))
    ⊕ quote ",\"NSCOUNT\":" ⊕ decimal_five (length v.authority) (omega (arith, n))
    ⊕ quote ",\"ARCOUNT\":" ⊕ decimal_five (length v.additional) (omega (arith, r)))

questions_short : (l : List Question) → T (all question? l)
    → Short (listed question_text l) (10 * length (each question_form l) + 2)
questions_short l h = listed_short question_text question_form l (All-map question_short l (all→All question? l h))

records_short : (l : List Record) → T (all record? l)
    → Short (listed record_text (map record_item l)) (10 * length (each record_form l) + 2)
records_short l h = rw (listed-map record_item record_text l)
    (listed_short (λ r. record_text (record_item r)) record_form l (All-map record_short l (all→All record? l h)))

items_short : (rcode : ℕ) (l : List Additional) → T (all (additional? rcode) l)
    → Short (listed item_text (map (item rcode) l)) (10 * length (each record_form (map record_of l)) + 2)
items_short rcode l h =
    rw (listed-map (item rcode) item_text l, each_map record_of record_form l)
    (listed_short (λ a. item_text (item rcode a)) (λ a. record_form (record_of a)) l
    (All-map (item_short rcode) l (all→All (additional? rcode) l h)))

additional_valid : (v : View) → T (view? v) → T (all (additional? v.header.rcode) v.additional)
unfolding additionals?
additional_valid v h =
    let l = v.additional in
    let s = section? (additional? v.header.rcode) l in
    and_right (u16? (length l)) (all (additional? v.header.rcode) l) (and_left s _ (view_additional v h))

view_short : (v : View) → T (view? v) → length (view_text v) ≤ 10 * length (form (message_of v)) + 400
unfolding view_text document_text document_of message_of
view_short v h =
    let m = message_of v in
    let p = valid_parts m (message_valid v h) in
    let long : length v.additional < 65536 = omega (arith, p.additional.0, map-long record_of v.additional) in
    let k = head_short v p.header p.questions.0 p.answers.0 p.authority.0 long
    ⊕ quote ",\"questionRRs\":" ⊕ questions_short v.questions p.questions.1
    ⊕ quote ",\"answerRRs\":" ⊕ records_short v.answers p.answers.1
    ⊕ quote ",\"authorityRRs\":" ⊕ records_short v.authority p.authority.1
    ⊕ quote ",\"additionalRRs\":" ⊕ items_short v.header.rcode v.additional (additional_valid v h)
    ⊕ quote "}" in
    omega (arith, k.short, message.form-long m)

pub text_short : (m : Message) → T (valid? m) → length (text m) ≤ 10 * length (form m) + 400
unfolding text
text_short m h = rw (message_view m h) at (view_short (view_of m) (view_valid m h))
