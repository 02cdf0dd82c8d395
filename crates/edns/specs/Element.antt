-- What the code promises of a TYPE 41 record: whether it is an EDNS element, and the element's text, by the fields that
-- decide them.
-- Both are what edns_of says of the record.
use Rattle.std.specs.Prelude.{◌≡◌, refl, Bool, true, false, ◌&&◌, ◌||◌, cond, List, [], ◌∷◌, ◌++◌, map, ℕ, ◌+◌, ◌/◌, ◌%◌, ◌<◌, ◌≤◌, eqb, length, take, drop}
use Rattle.std.proofs.Common.{sym, ◌∙◌, ap}
use Rattle.std.proofs.Math.Bool.{and-false}
use Rattle.std.proofs.Math.Option.{Option, none, some}
use Rattle.octets.specs.Lists.{ascii, each, none?, key?, row_text, present?}
use Rattle.octets.specs.Decimal.{decimal}
use Rattle.octets.specs.Fields.{be16_at}
use Rattle.records.specs.Message.{Record}
use Rattle.options.specs.Options.{EdnsOption, member_of, member_text}
use Rattle.edns.specs.Edns.{prepend, options_of, rising?, rcodes, flags, Edns, full_rcode, edns_of, edns_item, edns_text}
use Rattle.edns.specs.EdnsLaws.{element_of, edns_shows}

-- ---- the options
-- there is no room in RDATA for its first option
abbrev pub Short : List ℕ → Type 0
Short rdata = length rdata < 4 + be16_at rdata 2

-- RDATA is an option, of this code and value, and the RDATA after it
pub record Divides (rdata : List ℕ) (code : ℕ) (value rest : List ℕ) : Type 0 where
  pub room : 4 + be16_at rdata 2 ≤ length rdata
  pub read : code ≡ be16_at rdata 0
  pub taken : value ≡ take (be16_at rdata 2) (drop 4 rdata)
  pub left : rest ≡ drop (4 + be16_at rdata 2) rdata
  pub word : code < 65536
  pub whole : length rdata ≡ 4 + length value + length rest
  pub options : options_of rdata ≡ prepend (record { code = code; value = value }) (options_of rest)

-- RDATA divides exactly into options with codes strictly rising
abbrev pub risen? : Option (List EdnsOption) → Bool
risen? none = false
risen? (some options) = rising? options

unfoldable pub options_rise : List ℕ → Bool
options_rise rdata = risen? (options_of rdata)

-- the options of RDATA; none if it does not divide
abbrev pub list_of : Option (List EdnsOption) → List EdnsOption
list_of none = []
list_of (some options) = options

unfoldable pub options_in : List ℕ → List EdnsOption
options_in rdata = list_of (options_of rdata)

-- the text of their members, a comma before each
unfoldable pub options_text : List ℕ → List ℕ
options_text rdata = each (λ m. 44 ∷ member_text m) (map member_of (options_in rdata))

-- ---- the element
-- the tests of a TYPE 41 record without its RDATA: its owner is the root or not, its TTL, the header's RCODE
abbrev pub edns_fields : Bool → ℕ → ℕ → Bool
edns_fields root ttl rcode =
    root
    && eqb (ttl / 65536 % 256) 0
    && (eqb (ttl % 65536) 0 || eqb (ttl % 65536) 32768)
    && key? (full_rcode rcode (ttl / 16777216)) rcodes

-- whether a TYPE 41 record is an EDNS element: the same, and its RDATA
unfoldable pub shows_edns : Bool → ℕ → ℕ → List ℕ → Bool
shows_edns root ttl rcode rdata = edns_fields root ttl rcode && options_rise rdata

-- the element's text: CLASS, TTL, the header's RCODE, RDATA
unfoldable pub element_text : ℕ → ℕ → ℕ → List ℕ → List ℕ
element_text class ttl rcode rdata =
    edns_text (edns_item rcode
    (record { size = class; extended = ttl / 16777216; dnssec_ok = ttl % 65536 / 32768; options = options_in rdata }))

-- its text up to RCODE, by the DO bit and RCODE
unfoldable pub edns_head_text : ℕ → ℕ → List ℕ
edns_head_text bit rcode =
    ascii "{\"EDNS\":{\"Version\":" ++ decimal 0 ++ ascii ",\"FLAGS\":" ++ row_text bit flags ++ ascii ",\"RCODE\":\""
    ++ row_text rcode rcodes

-- ---- what edns_of says
present_cond : {A : Type 0} (b : Bool) (a : A) → present? (cond b (some a) none) ≡ b
present_cond true a = refl
present_cond false a = refl

-- a record is an element exactly if edns_of has one
pub shows_edns_lem : (rcode : ℕ) (r : Record)
    → shows_edns (none? r.name) r.ttl rcode r.rdata ≡ present? (edns_of rcode r)
unfolding shows_edns options_rise edns_of
shows_edns_lem rcode r = go (options_of r.rdata) refl
  where
    tests : Bool
    tests = edns_fields (none? r.name) r.ttl rcode

    go : (o : Option (List EdnsOption)) → options_of r.rdata ≡ o
        → shows_edns (none? r.name) r.ttl rcode r.rdata ≡ present? (edns_of rcode r)
    go none p = rw (p, edns_of) (and-false tests)
    go (some options) p = rw (p, edns_of) (sym (present_cond (tests && rising? options) (element_of r options)))

-- the text is that of the element
pub element-text : (rcode : ℕ) (r : Record) (e : Edns) → edns_of rcode r ≡ some e
    → element_text r.class r.ttl rcode r.rdata ≡ edns_text (edns_item rcode e)
unfolding element_text options_in
element-text rcode r e q =
    let (options, s, d) = edns_shows rcode r e q in
    ap (λ o. edns_text (edns_item rcode (element_of r (list_of o)))) s.split
    ∙ ap (λ (e : Edns). edns_text (edns_item rcode e)) d
