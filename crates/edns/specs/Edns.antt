-- The EDNS element: the options in RDATA, the element's conditions, its members and their text.
use Rattle.std.specs.Prelude.{Bool, true, ◌&&◌, ◌||◌, cond, List, [], ◌∷◌, ◌++◌, map, ℕ, zero, suc, ◌+◌, ◌*◌, ◌/◌, ◌%◌, leb, ltb, eqb, length, take, drop}
use Rattle.std.proofs.Math.Option.{Option, none, some}
use Prim.Native.String.{String}
use Rattle.octets.specs.Lists.{ascii, each, ended, all, none?, u8?, u16?, key?, row_text}
use Rattle.octets.specs.Fields.{be16, be16_at}
use Rattle.octets.specs.Decimal.{decimal}
use Rattle.records.specs.Message.{Record, bit?}
use Rattle.options.specs.Options.{EdnsOption, Member, member_of, member_text}

-- ---- options in RDATA
-- code, length, value
unfoldable pub option_form : EdnsOption → List ℕ
option_form o = be16 o.code ++ be16 (length o.value) ++ o.value

abbrev pub prepend : {A : Type 0} → A → Option (List A) → Option (List A)
prepend a none = none
prepend a (some l) = some (a ∷ l)

-- RDATA divided exactly into options, if it can be; the first argument bounds their number
unfoldable pub divided : ℕ → List ℕ → Option (List EdnsOption)
divided zero l = none
divided (suc n) l =
    let size = be16_at l 2 in
    let later = prepend (record { code = be16_at l 0; value = take size (drop 4 l) }) (divided n (drop (4 + size) l)) in
    cond (none? l) (some []) (cond (leb 4 (length l) && leb (4 + size) (length l)) later none)

unfoldable pub options_of : List ℕ → Option (List EdnsOption)
options_of l = divided (suc (length l)) l

-- codes strictly rising
abbrev pub above? : ℕ → List EdnsOption → Bool
above? code [] = true
above? code (o ∷ l) = ltb code o.code

unfoldable pub rising? : List EdnsOption → Bool
rising? [] = true
rising? (o ∷ l) = above? o.code l && rising? l

-- ---- the EDNS element
-- RCODE names
unfoldable pub rcodes : List (ℕ × String)
rcodes =
    (0, "NoError")
    ∷ (1, "FormErr")
    ∷ (2, "ServFail")
    ∷ (3, "NXDomain")
    ∷ (4, "NotImp")
    ∷ (5, "Refused")
    ∷ (6, "YXDomain")
    ∷ (7, "YXRRSet")
    ∷ (8, "NXRRSet")
    ∷ (9, "NotAuth")
    ∷ (10, "NotZone")
    ∷ (11, "DSOTYPENI")
    ∷ (16, "BADVERS")
    ∷ (17, "BADKEY")
    ∷ (18, "BADTIME")
    ∷ (19, "BADMODE")
    ∷ (20, "BADNAME")
    ∷ (21, "BADALG")
    ∷ (22, "BADTRUNC")
    ∷ (23, "BADCOOKIE")
    ∷ []

-- what an EDNS element shows: CLASS, TTL's first octet, the DO bit, the options
pub record Edns : Type 0 where
  pub size : ℕ
  pub extended : ℕ
  pub dnssec_ok : ℕ
  pub options : List EdnsOption

-- RCODE: TTL's first octet times 16, plus the header's RCODE
abbrev pub full_rcode : ℕ → ℕ → ℕ
full_rcode rcode extended = extended * 16 + rcode

-- what a TYPE 41 record is as an EDNS element, if its owner is the root, its version octet is 0, its flags are 0 or
-- 0x8000,
-- RCODE is in the list, and RDATA divides exactly into options with codes strictly rising
unfoldable pub edns_of : ℕ → Record → Option Edns
edns_of rcode r =
    let extended = r.ttl / 16777216 in
    let version = r.ttl / 65536 % 256 in
    let flags = r.ttl % 65536 in
    elim (options_of r.rdata) [
      | none ↦ none
      | some options ↦
          cond (none? r.name && eqb version 0 && (eqb flags 0 || eqb flags 32768)
          && key? (full_rcode rcode extended) rcodes && rising? options)
          (some (record { size = r.class; extended = extended; dnssec_ok = flags / 32768; options = options })) none
    ]

-- the record of an EDNS element
unfoldable pub edns_record : Edns → Record
edns_record e = record {
  name = [];
  type = 41;
  class = e.size;
  ttl = e.extended * 16777216 + e.dnssec_ok * 32768;
  rdata = each option_form e.options;
}

-- ---- what is valid, limits of size aside
unfoldable pub option? : EdnsOption → Bool
option? o = u16? o.code && all u8? o.value

unfoldable pub edns? : ℕ → Edns → Bool
edns? rcode e =
    u16? e.size
    && u8? e.extended
    && bit? e.dnssec_ok
    && key? (full_rcode rcode e.extended) rcodes
    && all option? e.options
    && rising? e.options

-- ---- limits of size
-- RDATA or a value of at most 65,535 octets
abbrev pub small? : List ℕ → Bool
small? l = leb (length l) 65535

unfoldable pub small_option? : EdnsOption → Bool
small_option? o = small? o.value

-- ---- members
-- an EDNS element's members: FLAGS by the DO bit, RCODE by its number
pub record EdnsItem : Type 0 where
  pub version : ℕ
  pub flags : ℕ
  pub rcode : ℕ
  pub size : ℕ
  pub options : List Member

unfoldable pub edns_item : ℕ → Edns → EdnsItem
edns_item rcode e = record {
  version = 0;
  flags = e.dnssec_ok;
  rcode = full_rcode rcode e.extended;
  size = e.size;
  options = map member_of e.options;
}

-- FLAGS
unfoldable pub flags : List (ℕ × String)
flags = (0, "[]") ∷ (1, "[\"DO\"]") ∷ []

unfoldable pub edns_text : EdnsItem → List ℕ
edns_text e =
    ascii "{\"EDNS\":{\"Version\":" ++ decimal e.version
    ++ ascii ",\"FLAGS\":" ++ row_text e.flags flags
    ++ ascii ",\"RCODE\":\"" ++ row_text e.rcode rcodes
    ++ ascii "\",\"UDPSIZE\":" ++ decimal e.size
    ++ ended (λ m. 44 ∷ member_text m) 125 e.options
    ++ ascii "}"
