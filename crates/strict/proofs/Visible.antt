-- Every octet of a document's text is a visible ASCII character or a space.
use mathlib.Core.Path.{◌≡◌, refl, sym, subst}
use mathlib.Core.Bool.{Bool, true, false, cond, ◌&&◌}
use mathlib.Core.Option.{Option, none, some}
use mathlib.Core.List.{List, [], ◌∷◌, ◌++◌}
use Prim.Native.Nat.{ℕ, ◌<◌, ◌≤◌}
use Prim.Native.String.{String}
use native.Mathlib.Omega.{arith}
use lib.Dec.{T, leb, eqb, leb→le}
use Rattle.octets.specs.Lists.{ascii, all, All, Octets, ended, listed, none?, row_text}
use Rattle.octets.specs.Bits.{and_left, and_right, all→All, All-map, All-append}
use Rattle.octets.specs.Decimal.{decimal, decimal-digits}
use Rattle.octets.specs.Hexadecimal.{hex_text, hex_text_visible}
use Rattle.records.specs.Message.{Question}
use Rattle.names.specs.Name.{Name}
use Rattle.spelling.specs.Spelling.{plain?, three_digits, spelled, label_text, name_text, Signed, plus, minus, signed_text}
use Rattle.spelling.specs.Spelling.{printable?, string_octet, string_text}
use Rattle.options.specs.Options.{rows, members, Syntax, hex_object, octet_list, expiry, hex_list, word, padding, word_list}
use Rattle.options.specs.Options.{extended_error, unlisted, syntax_of, Value}
use Rattle.options.specs.Options.{padding_tail, error_tail, expiry_text, value_text, Member, known, other}
use Rattle.options.specs.Options.{member_text}
use Rattle.edns.specs.Edns.{rcodes, EdnsItem, flags, edns_text}
use Rattle.json_text.specs.Document.{RecordItem, Item, ordinary, edns, Document, question_text, record_text, item_text}
use Rattle.json_text.specs.Document.{ad_titles, head_text, document_text}
use Rattle.strict.specs.Grammar.{Label, Labels, QuestionIn, RecordIn, Maybe, StringIn, ValueIn, MemberIn, EdnsIn}
use Rattle.strict.specs.Grammar.{ItemIn, DocumentIn}
use Rattle.strict.specs.Spelt.{plain_in}

-- ---- texts
-- every octet is 0x20 to 0x7E; as a record, so that the text is found from the fact
record Seen (l : List ℕ) : Type 0 where
  seen : All (λ c. (32 ≤ c) × (c ≤ 126)) l

-- one text after another
infixl 65 ◌⊕◌
◌⊕◌ : {l m : List ℕ} → Seen l → Seen m → Seen (l ++ m)
◌⊕◌ {l} {m} h k = record { seen = All-append _ l m h.seen k.seen }

-- an octet by test; `visible?` computes everywhere
abbrev visible? : ℕ → Bool
visible? c = leb 32 c && leb c 126

printable_in : (x : ℕ) → T (printable? x) → (32 ≤ x) × (x ≤ 126)
unfolding printable?
printable_in x h = (leb→le 32 x (and_left (leb 32 x) _ h), leb→le x 126 (and_right (leb 32 x) _ h))

one : (x : ℕ) → 32 ≤ x → x ≤ 126 → Seen (x ∷ [])
one x h k = record { seen = ((h, k), tt) }

-- a quoted text, by computation
quote : (l : String) → T (all visible? (ascii l)) → Seen (ascii l)
unfolding printable?
quote l h = record { seen = All-map printable_in (ascii l) (all→All printable? (ascii l) h) }

-- the texts of a list
ended_seen : {A : Type 0} {I : A → Type 0} (f : A → List ℕ) (stop : ℕ) → Seen (stop ∷ []) → ((a : A) → I a → Seen (f a))
    → (l : List A) → All I l → Seen (ended f stop l)
ended_seen f stop s g [] h = s
ended_seen f stop s g (a ∷ l) h = g a h.0 ⊕ ended_seen f stop s g l h.1

listed_seen : {A : Type 0} {I : A → Type 0} (f : A → List ℕ) → ((a : A) → I a → Seen (f a)) → (l : List A) → All I l
    → Seen (listed f l)
listed_seen f g [] h = quote "[]" tt
listed_seen f g (a ∷ l) h =
    quote "[" tt ⊕ (g a h.0 ⊕ ended_seen (λ b. 44 ∷ f b) 93 (quote "]" tt) (λ b k. quote "," tt ⊕ g b k) l h.1)

-- the texts of a table
text_of_seen : (table : List (ℕ × String)) → T (all (λ row. all visible? (ascii row.1)) table) → (n : ℕ)
    → Seen (row_text n table)
unfolding row_text
text_of_seen [] h n = record { seen = tt }
text_of_seen (row ∷ table) h n =
    go (eqb row.0 n) (text_of_seen table (and_right (all visible? (ascii row.1)) _ h) n)
  where
    go : (b : Bool) → Seen (row_text n table) → Seen (cond b (ascii row.1) (row_text n table))
    go true k = quote row.1 (and_left (all visible? (ascii row.1)) _ h)
    go false k = k

-- ---- numbers, hex, names and strings
decimal_seen : (n : ℕ) → Seen (decimal n)
decimal_seen n = record { seen = All-map (λ c h. (omega arith, omega arith)) (decimal n) (decimal-digits n) }

hex_seen : (l : List ℕ) → Octets l → Seen (hex_text l)
hex_seen l h = record { seen = hex_text_visible l h }

signed_seen : (n : Signed) → Seen (signed_text n)
unfolding signed_text
signed_seen (plus n) = decimal_seen n
signed_seen (minus n) = quote "-" tt ⊕ decimal_seen n

spelled_seen : (x : ℕ) → x < 256 → Seen (spelled x)
unfolding spelled
spelled_seen x h = go (plain? x) (eqb x 46) (eqb x 92) refl
  where
    digits : Seen (three_digits x)
    digits = record {
      seen = (
        (omega arith, omega arith),
        ((omega arith, omega arith), ((omega arith, omega arith), tt)),
      );
    }

    go : (a b c : Bool) → plain? x ≡ a
        → Seen (cond a (x ∷ []) (cond b (ascii "\\\\.") (cond c (ascii "\\\\\\\\") (ascii "\\\\" ++ three_digits x))))
    go true b c e = let k = plain_in x (subst T (sym e) tt) in one x (omega arith) k.1
    go false true c e = quote "\\\\." tt
    go false false true e = quote "\\\\\\\\" tt
    go false false false e = quote "\\\\" tt ⊕ digits

label_seen : (l : List ℕ) → Label l → Seen (label_text l)
unfolding label_text
label_seen l h = ended_seen spelled 46 (quote "." tt) spelled_seen l h.0

name_seen : (n : Name) → Labels n → Seen (name_text n)
unfolding name_text
name_seen n h = quote "\"" tt ⊕ go (none? n)
  where
    go : (b : Bool) → Seen (cond b (ascii ".\"") (ended label_text 34 n))
    go true = quote ".\"" tt
    go false = ended_seen label_text 34 (quote "\"" tt) label_seen n h

string_seen : (l : List ℕ) → StringIn l → Seen (string_text l)
unfolding string_text string_octet
string_seen l h = quote "\"" tt ⊕ ended_seen string_octet 34 (quote "\"" tt) octet l h
  where
    go : (x : ℕ) (a b : Bool) → T (printable? x) → Seen (cond a (ascii "\\\"") (cond b (ascii "\\\\") (x ∷ [])))
    go x true b h = quote "\\\"" tt
    go x false true h = quote "\\\\" tt
    go x false false h = let k = printable_in x h in one x k.0 k.1

    octet : (x : ℕ) → T (printable? x) → Seen (string_octet x)
    octet x h = go x (eqb x 34) (eqb x 92) h

-- ---- options
padding_seen : (n : Option (List ℕ)) → Maybe Octets n → Seen (padding_tail n)
padding_seen none h = quote "}" tt
padding_seen (some l) h = quote ",\"HEX\":" tt ⊕ hex_seen l h ⊕ quote "}" tt

error_seen : (n : Option (List ℕ)) → Maybe StringIn n → Seen (error_tail n)
error_seen none h = quote "}" tt
error_seen (some l) h = quote ",\"TEXT\":" tt ⊕ string_seen l h ⊕ quote "}" tt

expiry_seen : (n : Option ℕ) → Seen (expiry_text n)
expiry_seen none = quote "\"NONE\"" tt
expiry_seen (some n) = decimal_seen n

value_seen : (syntax : Syntax) (v : Value syntax) → ValueIn syntax v → Seen (value_text syntax v)
unfolding value_text
value_seen hex_object v h = quote "{\"HEX\":" tt ⊕ hex_seen v h ⊕ quote "}" tt
value_seen octet_list v h = listed_seen decimal (λ n k. decimal_seen n) v h
value_seen expiry v h = expiry_seen v
value_seen hex_list v h = listed_seen hex_text hex_seen v h
value_seen word v h = decimal_seen v
value_seen padding v h = quote "{\"LENGTH\":" tt ⊕ decimal_seen v.0 ⊕ padding_seen v.1 h.1
value_seen word_list v h = listed_seen decimal (λ n k. decimal_seen n) v h
value_seen extended_error v h = quote "{\"CODE\":" tt ⊕ decimal_seen v.0 ⊕ error_seen v.1 h.1
value_seen unlisted v h = absurd h

member_seen : (m : Member) → MemberIn m → Seen (member_text m)
unfolding member_text members rows
member_seen (known code v) h =
    quote "\"" tt ⊕ text_of_seen members tt code ⊕ quote "\":" tt ⊕ value_seen (syntax_of code) v h.1
member_seen (other n l) h = quote "\"OPT" tt ⊕ decimal_seen n ⊕ quote "\":" tt ⊕ hex_seen l h.1

-- ---- the document
question_seen : (q : Question) → QuestionIn q → Seen (question_text q)
unfolding question_text
question_seen q h =
    quote "{\"NAME\":" tt ⊕ name_seen q.name h.0
    ⊕ quote ",\"TYPE\":" tt ⊕ decimal_seen q.type
    ⊕ quote ",\"CLASS\":" tt ⊕ decimal_seen q.class
    ⊕ quote "}" tt

record_seen : (r : RecordItem) → RecordIn r → Seen (record_text r)
unfolding record_text
record_seen r h =
    quote "{\"NAME\":" tt ⊕ name_seen r.name h.0
    ⊕ quote ",\"TYPE\":" tt ⊕ decimal_seen r.type
    ⊕ quote ",\"CLASS\":" tt ⊕ decimal_seen r.class
    ⊕ quote ",\"TTL\":" tt ⊕ signed_seen r.ttl
    ⊕ quote ",\"RDATAHEX\":" tt ⊕ hex_seen r.rdata h.1.1.1.1
    ⊕ quote "}" tt

edns_seen : (e : EdnsItem) → EdnsIn e → Seen (edns_text e)
unfolding edns_text flags rcodes
edns_seen e h =
    quote "{\"EDNS\":{\"Version\":" tt ⊕ decimal_seen e.version
    ⊕ quote ",\"FLAGS\":" tt ⊕ text_of_seen flags tt e.flags
    ⊕ quote ",\"RCODE\":\"" tt ⊕ text_of_seen rcodes tt e.rcode
    ⊕ quote "\",\"UDPSIZE\":" tt ⊕ decimal_seen e.size
    ⊕ ended_seen (λ m. 44 ∷ member_text m) 125 (quote "}" tt) (λ m k. quote "," tt ⊕ member_seen m k) e.options
    h.1.1.1.1
    ⊕ quote "}" tt

item_seen : (i : Item) → ItemIn i → Seen (item_text i)
unfolding item_text
item_seen (ordinary r) h = record_seen r h
item_seen (edns e) h = edns_seen e h

head_seen : (d : Document) → Seen (head_text d)
unfolding head_text ad_titles
head_seen d =
    quote "{\"ID\":" tt ⊕ decimal_seen d.header.id
    ⊕ quote ",\"QR\":" tt ⊕ decimal_seen d.header.qr
    ⊕ quote ",\"Opcode\":" tt ⊕ decimal_seen d.header.opcode
    ⊕ quote ",\"AA\":" tt ⊕ decimal_seen d.header.aa
    ⊕ quote ",\"TC\":" tt ⊕ decimal_seen d.header.tc
    ⊕ quote ",\"RD\":" tt ⊕ decimal_seen d.header.rd
    ⊕ quote ",\"RA\":" tt ⊕ decimal_seen d.header.ra
    ⊕ text_of_seen ad_titles tt d.header.z ⊕ decimal_seen d.header.ad
    ⊕ quote ",\"CD\":" tt ⊕ decimal_seen d.header.cd
    ⊕ quote ",\"RCODE\":" tt ⊕ decimal_seen d.header.rcode
    ⊕ quote ",\"QDCOUNT\":" tt ⊕ decimal_seen d.qdcount
    ⊕ quote ",\"ANCOUNT\":" tt ⊕ decimal_seen d.ancount
    ⊕ quote ",\"NSCOUNT\":" tt ⊕ decimal_seen d.nscount
    ⊕ quote ",\"ARCOUNT\":" tt ⊕ decimal_seen d.arcount

document_seen : (d : Document) → DocumentIn d → Seen (document_text d)
unfolding document_text
document_seen d h =
    head_seen d
    ⊕ quote ",\"questionRRs\":" tt ⊕ listed_seen question_text question_seen d.questions h.1.0
    ⊕ quote ",\"answerRRs\":" tt ⊕ listed_seen record_text record_seen d.answers h.1.1.0
    ⊕ quote ",\"authorityRRs\":" tt ⊕ listed_seen record_text record_seen d.authority h.1.1.1.0
    ⊕ quote ",\"additionalRRs\":" tt ⊕ listed_seen item_text item_seen d.additional h.1.1.1.1
    ⊕ quote "}" tt

pub visible : (d : Document) → DocumentIn d → All (λ c. (32 ≤ c) × (c ≤ 126)) (document_text d)
visible d h = (document_seen d h).seen
