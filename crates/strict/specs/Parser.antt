-- The parser of the grammar: it takes the texts of the documents in the grammar, and no other.
use Rattle.std.specs.Prelude.{◌≡◌, refl, ◌↔◌, ◌⊎◌, ℕ, T}
use Rattle.std.proofs.Common.{sym, inl, inr}
use Rattle.std.proofs.Math.Option.{Option, none, some}
use mathlib.Core.List.{List, [], ◌∷◌, ◌++◌, append_assoc, nil≢cons, tail-eq_of_cons-eq}
use Prim.Native.String.{String}
use Rattle.octets.specs.Lists.{ascii, all, All, ended, listed, key?, row_text}
use Rattle.octets.specs.Parsed.{Parsed, parsed, failed, missed}
use Rattle.octets.specs.Codec.{Avoids, Any, Codec, fronts, unique, whole, whole_exact, whole_ends, joined, iso, retext}
use Rattle.octets.specs.Codec.{weaken, reindex, literal_as, many, array, pair_by}
use Rattle.octets.specs.Codec.{table_parser, apart?, apart_texts, distinct, row_holds, table, ◌▷◌, ◌◁◌, ◌⊗◌}
use Rattle.octets.specs.Decimal.{decimal, NoDigit, natural, number, number_avoids, decimal_avoids, ends?, number_then}
use Rattle.octets.specs.Decimal.{number_row}
use Rattle.octets.specs.Hexadecimal.{hex_text, unhex, hex_pairs, hex, hex_text_avoids}
use Rattle.names.specs.Name.{Name}
use Rattle.records.specs.Message.{Header, Question}
use Rattle.spelling.specs.Spelling.{plain?, Signed, string_text}
use Rattle.options.specs.Options.{rows, members, Syntax, hex_object, octet_list, expiry, hex_list, word, padding, word_list}
use Rattle.options.specs.Options.{extended_error, unlisted, syntax_of, Value}
use Rattle.options.specs.Options.{padding_tail, error_tail, expiry_text, value_text, Member, known, other, member_text}
use Rattle.edns.specs.Edns.{rcodes, EdnsItem, flags, edns_text}
use Rattle.json_text.specs.Document.{RecordItem, Item, ordinary, edns, Document, question_text, record_text, item_text}
use Rattle.json_text.specs.Document.{ad_titles, head_text, document_text}
use Rattle.strict.specs.Grammar.{Number, QuestionIn, RecordIn, Maybe, ValueIn, MemberIn, EdnsIn, ItemIn}
use Rattle.strict.specs.Grammar.{DocumentIn}
use Rattle.strict.specs.Spelt.{from_sum, sum, coded?, coded_from?, leads?, ddd, escape, spelled_at, spelled_octet}
use Rattle.strict.specs.Spelt.{label, root_or_labels, name, signed_number, string}

-- ---- values of options
-- a text that ends by itself may stand before anything
abbrev pub free : {A : Type 0} {I : A → Type 0} {f : A → List ℕ} {F : List ℕ → Type 0} → Codec I f Any → Codec I f F
free p = weaken (λ r m. tt) p

-- a part that may be missing, and a fixed text in its place
abbrev pub maybe_text : {A : Type 0} → String → (A → List ℕ) → Option A → List ℕ
maybe_text l f none = ascii l
maybe_text l f (some a) = f a

abbrev presence : {A : Type 0} → Option A → Unit {0} ⊎ A
presence none = inl tt
presence (some a) = inr a

abbrev pub maybe : {A : Type 0} {I : A → Type 0} {f : A → List ℕ} {F : List ℕ → Type 0} (l : String) → Codec I f F
    → ((a : A) (r s : List ℕ) → I a → ascii l ++ r ≡ f a ++ s → ⊥) → Codec (Maybe I) (maybe_text l f) F
maybe {A} l p apart = sum (λ u. none) some presence whole (λ u. refl) (λ a. refl)
    (reindex (λ u. (λ h. refl, λ h. tt)) (free (literal_as tt l))) p (λ u a r s h k e. apart a r s k e)
  where
    whole : (n : Option A) → from_sum (λ u. none) some (presence n) ≡ n
    whole none = refl
    whole (some a) = refl

-- `"NONE"` or a number
pub expiry_same : (n : Option ℕ) → expiry_text n ≡ maybe_text "\"NONE\"" decimal n
expiry_same none = refl
expiry_same (some n) = refl

unfoldable pub expiry_number : Codec (Maybe Number) expiry_text NoDigit
expiry_number = retext expiry_same (maybe "\"NONE\"" number (λ a r s h e. decimal_avoids 34 tt a s _ (sym e)))

-- the end of an object: its brace, or one more member and the brace
abbrev pub end_text : {A : Type 0} → String → (A → List ℕ) → Option A → List ℕ
end_text l f = maybe_text "}" (λ a. ascii "," ++ (ascii l ++ (f a ++ ascii "}")))

-- a number and such an end
abbrev pub numbered : {A : Type 0} {I : A → Type 0} {f : A → List ℕ} {g : Option A → List ℕ} (l : String)
    → ((n : Option A) → g n ≡ end_text l f n)
    → Codec I f Any → Codec {A = ℕ × Option A} (λ u. Number u.0 × Maybe I u.1) (λ u. decimal u.0
    ++ g u.1) Any
numbered {A} {f} l same p =
    joined number (retext same (maybe "}" ("," ▷ l ▷ p ◁ "}") (λ a r s h e. fronts tt e)))
    (λ n r h m. rw (same n) (fits n r))
  where
    fits : (n : Option A) (r : List ℕ) → NoDigit (end_text l f n ++ r)
    fits none r = tt
    fits (some a) r = tt

pub padding_same : (n : Option (List ℕ)) → padding_tail n ≡ end_text "\"HEX\":" hex_text n
padding_same none = refl
padding_same (some l) = refl

pub error_same : (n : Option (List ℕ)) → error_tail n ≡ end_text "\"TEXT\":" string_text n
error_same none = refl
error_same (some l) = refl

-- a value of each syntax
unfoldable pub value : (syntax : Syntax) → Codec (ValueIn syntax) (value_text syntax) NoDigit
unfolding value_text
value hex_object = free ("{\"HEX\":" ▷ hex ◁ "}")
value octet_list = free (array (number_avoids 93 tt) (λ r. tt) (λ r. tt) number)
value expiry = expiry_number
value hex_list = free (array (hex_text_avoids 93 tt) (λ r. tt) (λ r. tt) hex)
value word = number
value padding = free ("{\"LENGTH\":" ▷ numbered "\"HEX\":" padding_same hex)
value word_list = free (array (number_avoids 93 tt) (λ r. tt) (λ r. tt) number)
value extended_error = free ("{\"CODE\":" ▷ numbered "\"TEXT\":" error_same string)
value unlisted = record { parse = λ t. failed t; back = λ u r h m. absurd h; sound = λ t. missed t }

-- ---- members of options
-- the names of the table tell the codes
pub members-distinct : T (distinct members)
unfolding members rows
members-distinct = tt

-- no member of the table begins as `OPT`
pub member_apart : (code : ℕ) (r s : List ℕ) → T (key? code members) → row_text code members ++ r ≡ ascii "OPT" ++ s → ⊥
unfolding members rows
member_apart code r s h =
    apart_texts (row_text code members) (ascii "OPT") r s (row_holds (λ t. apart? t (ascii "OPT")) members tt code h)

-- a member of the table, whose code decides the syntax of its value
unfoldable pub known_member : Codec {A = (code : ℕ) × Value (syntax_of code)} (λ u. MemberIn (known u.0 u.1))
    (λ u. member_text (known u.0 u.1)) NoDigit
unfolding member_text
known_member = pair_by ("\"" ▷ table members members-distinct ◁ "\":") (λ code. value (syntax_of code))

-- `OPTn` and hex
unfoldable pub other_member : Codec {A = ℕ × List ℕ} (λ u. MemberIn (other u.0 u.1))
    (λ u. member_text (other u.0 u.1)) NoDigit
unfolding member_text
other_member = retext (λ u. simp append_assoc) (free ("\"OPT" ▷ number_then "\":" tt number ⊗ hex))

-- the two never begin alike
pub members_apart : (u : (code : ℕ) × Value (syntax_of code)) (v : ℕ × List ℕ) (r s : List ℕ) → T (key? u.0 members)
    → member_text (known u.0 u.1) ++ r ≡ member_text (other v.0 v.1) ++ s → ⊥
unfolding member_text
members_apart u v r s h e = member_apart u.0 _ _ h (tail-eq_of_cons-eq (simp append_assoc at e))

abbrev member_kind : Member → ((code : ℕ) × Value (syntax_of code)) ⊎ (ℕ × List ℕ)
member_kind (known code v) = inl (code, v)
member_kind (other n hex) = inr (n, hex)

unfoldable pub member : Codec MemberIn member_text NoDigit
member = sum (λ u. known u.0 u.1) (λ u. other u.0 u.1) member_kind whole (λ u. refl)
    (λ u. refl) known_member other_member
    (λ u v r s h k e. members_apart u v r s h.0 e)
  where
    whole : (m : Member) → from_sum (λ u. known u.0 u.1) (λ u. other u.0 u.1) (member_kind m) ≡ m
    whole (known code v) = refl
    whole (other n hex) = refl

-- ---- questions and records
-- a question and a record from their parts, in the order of the text
abbrev pub question_from : Name × (ℕ × ℕ) → Question
question_from (n, (t, c)) = record { name = n; type = t; class = c }

abbrev pub RecordParts : Type 0
RecordParts = Name × (ℕ × (ℕ × (Signed × List ℕ)))

abbrev pub record_from : RecordParts → RecordItem
record_from (n, (t, (c, (l, d)))) = record { name = n; type = t; class = c; ttl = l; rdata = d }

unfoldable pub question_codec : Codec QuestionIn question_text Any
unfolding question_text
question_codec = retext (λ q. simp append_assoc) (iso (λ q. (q.name, (q.type, q.class))) question_from
    (λ q h. (h, refl)) (λ q h. (h, refl))
    ("{\"NAME\":" ▷ name
    ⊗ ",\"TYPE\":" ▷ number_then ",\"CLASS\":" tt number
    ⊗ number_then "}" tt number))

unfoldable pub record_codec : Codec RecordIn record_text Any
unfolding record_text
record_codec = retext (λ r. simp append_assoc)
    (iso (λ r. (r.name, (r.type, (r.class, (r.ttl, r.rdata))))) record_from (λ r h. (h, refl)) (λ r h. (h, refl))
    ("{\"NAME\":" ▷ name
    ⊗ ",\"TYPE\":" ▷ number_then ",\"CLASS\":" tt number
    ⊗ number_then ",\"TTL\":" tt number
    ⊗ number_then ",\"RDATAHEX\":" tt signed_number
    ⊗ hex ◁ "}"))

-- ---- the EDNS element
pub flags-distinct : T (distinct flags)
unfolding flags
flags-distinct = tt

pub rcodes-distinct : T (distinct rcodes)
unfolding rcodes
rcodes-distinct = tt

-- the members after UDPSIZE, none of which begins with a digit, and the end of both objects
abbrev pub members_end_text : List Member → List ℕ
members_end_text o = ended (λ m. ascii "," ++ member_text m) 125 o ++ ascii "}"

pub options_fit : (o : List Member) (r : List ℕ) → NoDigit (members_end_text o ++ r)
options_fit [] r = tt
options_fit (m ∷ o) r = tt

unfoldable pub option_members : Codec (All MemberIn) members_end_text Any
option_members = many (λ a r s h e. fronts tt e) (λ r. tt) (λ b r h. tt) ("," ▷ member) ◁ "}"

-- the element from its parts, in the order of the text
abbrev pub EdnsParts : Type 0
EdnsParts = ℕ × (ℕ × (ℕ × (ℕ × List Member)))

abbrev pub edns_from : EdnsParts → EdnsItem
edns_from (v, (f, (c, (s, o)))) = record { version = v; flags = f; rcode = c; size = s; options = o }

-- the whole element
unfoldable pub edns_element : Codec EdnsIn edns_text Any
unfolding edns_text
edns_element = retext (λ e. simp append_assoc)
    (iso (λ e. (e.version, (e.flags, (e.rcode, (e.size, e.options))))) edns_from (λ e h. (h, refl))
    (λ e h. (h, refl))
    ("{\"EDNS\":{\"Version\":" ▷ number_then ",\"FLAGS\":" tt number
    ⊗ table flags flags-distinct
    ⊗ ",\"RCODE\":\"" ▷ table rcodes rcodes-distinct ◁ "\",\"UDPSIZE\":"
    ⊗ joined number option_members (λ o r h m. options_fit o r)))

-- ---- elements of `additionalRRs`
-- the two kinds differ at the third octet
pub item_apart : (a : RecordItem) (b : EdnsItem) (r s : List ℕ) → record_text a ++ r ≡ edns_text b ++ s → ⊥
unfolding record_text edns_text
item_apart a b r s e =
    apart_texts (ascii "{\"NAME\":") (ascii "{\"EDNS\":{\"Version\":") _ _ tt (simp append_assoc at e)

abbrev item_kind : Item → RecordItem ⊎ EdnsItem
item_kind (ordinary r) = inl r
item_kind (edns e) = inr e

unfoldable pub item_codec : Codec ItemIn item_text Any
unfolding item_text
item_codec = sum ordinary edns item_kind whole (λ r. refl) (λ e. refl) record_codec edns_element
    (λ a b r s h k e. item_apart a b r s e)
  where
    whole : (i : Item) → from_sum ordinary edns (item_kind i) ≡ i
    whole (ordinary r) = refl
    whole (edns e) = refl

-- no element begins as the end of an array
pub question_avoids : Avoids QuestionIn question_text 93
unfolding question_text
question_avoids q r s h e = fronts tt e

pub entry_avoids : Avoids RecordIn record_text 93
unfolding record_text
entry_avoids a r s h e = fronts tt e

pub item_avoids : Avoids ItemIn item_text 93
unfolding item_text record_text edns_text
item_avoids (ordinary a) r s h e = fronts tt e
item_avoids (edns a) r s h e = fronts tt e

-- ---- the document
-- the header and the counts
abbrev pub Head : Type 0
Head = Header × (ℕ × (ℕ × (ℕ × ℕ)))

-- a document from its head and its four arrays; one without entries
abbrev pub DocumentParts : Type 0
DocumentParts = Head × (List Question × (List RecordItem × (List RecordItem × List Item)))

abbrev pub document_from : DocumentParts → Document
document_from ((h, (qn, (an, (nn, rn)))), (qs, (ans, (auth, add)))) =
    record {
      header = h;
      qdcount = qn;
      ancount = an;
      nscount = nn;
      arcount = rn;
      questions = qs;
      answers = ans;
      authority = auth;
      additional = add;
    }

abbrev pub bare_document : Head → Document
bare_document h = document_from (h, ([], ([], ([], []))))

abbrev pub head_of : Document → Head
head_of d = (d.header, (d.qdcount, (d.ancount, (d.nscount, d.arcount))))

-- the titles of AD tell Z, and none begins with a digit
pub titles_distinct : T (distinct ad_titles)
unfolding ad_titles
titles_distinct = tt

pub titles_end : T (all (λ row. ends? (ascii row.1)) ad_titles)
unfolding ad_titles
titles_end = tt

-- the 14 numbers and Z: ID; the flags of the header's third octet and of its fourth; the counts
abbrev pub HeadParts : Type 0
HeadParts = ℕ × ((ℕ × (ℕ × (ℕ × (ℕ × ℕ)))) × (((ℕ × ℕ) × (ℕ × (ℕ × ℕ))) × (ℕ × (ℕ × (ℕ × ℕ)))))

abbrev pub head_from : HeadParts → Head
head_from (id, ((qr, (opcode, (aa, (tc, rd)))), (((ra, z), (ad, (cd, rcode))), n))) = (
  record {
    id = id;
    qr = qr;
    opcode = opcode;
    aa = aa;
    tc = tc;
    rd = rd;
    ra = ra;
    z = z;
    ad = ad;
    cd = cd;
    rcode = rcode;
  },
  n,
)

-- the head, up to the last digit
unfoldable pub head : Codec {A = Head} (λ h. T (key? h.0.z ad_titles)) (λ h. head_text (bare_document h)) NoDigit
unfolding head_text
head = retext (λ h. simp append_assoc) (iso
    (λ (h, n). (
      h.id,
      ((h.qr, (h.opcode, (h.aa, (h.tc, h.rd)))), (((h.ra, h.z), (h.ad, (h.cd, h.rcode))), n)),
    ))
    head_from
    (λ h i. ((tt, ((tt, (tt, (tt, (tt, tt)))), (((tt, i), (tt, (tt, tt))), (tt, (tt, (tt, tt)))))), refl))
    (λ u i. (i.1.1.0.0.1, refl))
    ("{\"ID\":" ▷ number_then ",\"QR\":" tt number
    ⊗ (number_then ",\"Opcode\":" tt number ⊗ number_then ",\"AA\":" tt number ⊗ number_then ",\"TC\":" tt number ⊗
    number_then ",\"RD\":" tt number
    ⊗ number_then ",\"RA\":" tt number)
    ⊗ (number_row ad_titles titles_distinct titles_end ⊗ number_then ",\"CD\":" tt number
    ⊗ number_then ",\"RCODE\":" tt number ⊗ number_then ",\"QDCOUNT\":" tt number)
    ⊗ number_then ",\"ANCOUNT\":" tt number ⊗ number_then ",\"NSCOUNT\":" tt number ⊗ number_then ",\"ARCOUNT\":" tt number
    ⊗ number))

-- the text of a document's head is that of its header and counts alone
pub head_same : (d : Document) → head_text d ≡ head_text (bare_document (head_of d))
unfolding head_text
head_same d = refl

-- its text, part by part
pub document_parts : (d : Document)
    → document_text d ≡ head_text (bare_document (head_of d))
    ++ ((ascii ",\"questionRRs\":" ++ listed question_text d.questions)
    ++ ((ascii ",\"answerRRs\":" ++ listed record_text d.answers)
    ++ ((ascii ",\"authorityRRs\":" ++ listed record_text d.authority)
    ++ (ascii ",\"additionalRRs\":" ++ (listed item_text d.additional ++ ascii "}")))))
unfolding document_text
document_parts d = rw (head_same d) (simp append_assoc)

unfoldable pub document : Codec DocumentIn document_text Any
document = retext document_parts (iso
    (λ d. (head_of d, (d.questions, (d.answers, (d.authority, d.additional)))))
    document_from (λ d h. (h, refl)) (λ u h. (h, refl))
    (joined head
    (",\"questionRRs\":" ▷ array question_avoids (λ r. tt) (λ r. tt) question_codec
    ⊗ ",\"answerRRs\":" ▷ array entry_avoids (λ r. tt) (λ r. tt) record_codec
    ⊗ ",\"authorityRRs\":" ▷ array entry_avoids (λ r. tt) (λ r. tt) record_codec
    ⊗ ",\"additionalRRs\":" ▷ array item_avoids (λ r. tt) (λ r. tt) item_codec ◁ "}")
    (λ u r h m. tt)))

-- ---- what follows
-- a whole text
unfoldable pub parse : List ℕ → Parsed Document
parse = whole document

pub parse_exact : (t : List ℕ) (d : Document) → (parse t ≡ parsed d []) ↔ (DocumentIn d × (document_text d ≡ t))
unfolding parse
parse_exact = whole_exact document tt

pub parse_ends : (t : List ℕ) (d : Document) (r : List ℕ) → parse t ≡ parsed d r → r ≡ []
unfolding parse
parse_ends = whole_ends document

-- a document's text and what follows it determine the document
pub document_unique : (d e : Document) (r s : List ℕ) → DocumentIn d → DocumentIn e
    → document_text d ++ r ≡ document_text e ++ s → (d ≡ e) × (r ≡ s)
document_unique d e r s h k = unique document d e r s h k tt tt

-- it is not empty
pub document-filled : (d : Document) → document_text d ≡ [] → ⊥
unfolding document_text head_text
document-filled d e = nil≢cons (sym e)

-- ---- where the parser stops, computed
-- at the digit after a 0
leading_zero : parse (ascii "{\"ID\":01,\"QR\":0") ≡ failed (ascii "1,\"QR\":0")
unfolding parse document head natural
leading_zero = refl

-- at the second digit where none of 40 to 49 is written in digits, and at the third of a number past 255
escaped_plain : (name.parse (ascii "\"a\\\\046.\"") ≡ failed (ascii "46.\""))
    × (name.parse (ascii "\"a\\\\256.\"") ≡ failed (ascii "6.\""))
unfolding name root_or_labels label spelled_octet spelled_at escape ddd leads? coded_from? coded? plain?
escaped_plain = (refl, refl)

-- at the second digit of an option's number that begins with 0
option_zero : member.parse (ascii "\"OPT05\":\"\"") ≡ failed (ascii "5\":\"\"")
unfolding member known_member other_member natural table_parser members rows
option_zero = refl

-- at the first octet that no member's name has there
member_unknown : member.parse (ascii "\"NSIX\":1") ≡ failed (ascii "X\":1")
unfolding member known_member other_member natural table_parser members rows
member_unknown = refl

-- at the quote where a second digit should be
hex_odd : hex.parse (ascii "\"0A1\"}") ≡ failed (ascii "\"}")
unfolding hex hex_pairs unhex
hex_odd = refl
