-- What is in the grammar: the documents that can be spelled.
use Rattle.std.proofs.Math.Option.{Option, none, some}
use Rattle.std.specs.Prelude.{List, ℕ, ◌<◌, T}
use Rattle.octets.specs.Lists.{All, Octets, key?}
use Rattle.octets.specs.Codec.{OneOrMore}
use Rattle.names.specs.Name.{Name}
use Rattle.records.specs.Message.{Question}
use Rattle.spelling.specs.Spelling.{Signed, plus, minus, printable?}
use Rattle.options.specs.Options.{Syntax, hex_object, octet_list, expiry, hex_list, word, padding, word_list, extended_error}
use Rattle.options.specs.Options.{unlisted, Value, syntax_of, members, Member, known, other}
use Rattle.edns.specs.Edns.{rcodes, EdnsItem, flags}
use Rattle.json_text.specs.Document.{RecordItem, Item, ordinary, edns, Document, ad_titles}

-- a number is as long as it likes
abbrev pub Number : ℕ → Type 0
Number n = Unit {0}

-- a name is labels of at least one octet, or none
abbrev pub Label : List ℕ → Type 0
Label = OneOrMore (λ x. x < 256)

abbrev pub Labels : Name → Type 0
Labels = All Label

-- -0 is no number
abbrev pub SignedNumber : Signed → Type 0
SignedNumber (plus n) = Number n
SignedNumber (minus n) = 0 < n

abbrev pub QuestionIn : Question → Type 0
QuestionIn q = Labels q.name × (Number q.type × Number q.class)

abbrev pub RecordIn : RecordItem → Type 0
RecordIn r = Labels r.name × (Number r.type × (Number r.class × (SignedNumber r.ttl × Octets r.rdata)))

-- a part that may be missing
abbrev pub Maybe : {A : Type 0} → (A → Type 0) → Option A → Type 0
Maybe P none = Unit {0}
Maybe P (some a) = P a

-- a string holds octets 0x20 to 0x7E
abbrev pub StringIn : List ℕ → Type 0
StringIn = All (λ x. T (printable? x))

abbrev pub ValueIn : (syntax : Syntax) → Value syntax → Type 0
ValueIn hex_object hex = Octets hex
ValueIn octet_list l = All Number l
ValueIn expiry n = Maybe Number n
ValueIn hex_list l = All Octets l
ValueIn word n = Number n
ValueIn padding p = Number p.0 × Maybe Octets p.1
ValueIn word_list l = All Number l
ValueIn extended_error e = Number e.0 × Maybe StringIn e.1
ValueIn unlisted u = ⊥

abbrev pub MemberIn : Member → Type 0
MemberIn (known code v) = T (key? code members) × ValueIn (syntax_of code) v
MemberIn (other n hex) = Number n × Octets hex

abbrev pub EdnsIn : EdnsItem → Type 0
EdnsIn e = Number e.version
    × (T (key? e.flags flags) × (T (key? e.rcode rcodes) × (Number e.size × All MemberIn e.options)))

abbrev pub ItemIn : Item → Type 0
ItemIn (ordinary r) = RecordIn r
ItemIn (edns e) = EdnsIn e

-- Z is 0 or 1, the keys of its table; the header's other numbers and the counts are of any size
abbrev pub DocumentIn : Document → Type 0
DocumentIn d = T (key? d.header.z ad_titles)
    × (All QuestionIn d.questions
    × (All RecordIn d.answers × (All RecordIn d.authority × All ItemIn d.additional)))
