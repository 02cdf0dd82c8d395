-- What a message holds, when it is valid, and its uncompressed form.
use Rattle.std.specs.Prelude.{Bool, ◌&&◌, List, [], ◌∷◌, ◌++◌, ℕ, ◌+◌, ◌*◌, ltb, eqb, length}
use Rattle.octets.specs.Lists.{each, all, u8?, u16?, u32?}
use Rattle.octets.specs.Fields.{be16, be32}
use Rattle.names.specs.Name.{Name, name_form, name?}
use Rattle.records.specs.Layout.{rdata_fits?}

-- the header but for its counts, which are those of the sections
pub record Header : Type 0 where
  pub id : ℕ
  pub qr : ℕ
  pub opcode : ℕ
  pub aa : ℕ
  pub tc : ℕ
  pub rd : ℕ
  pub ra : ℕ
  pub z : ℕ
  pub ad : ℕ
  pub cd : ℕ
  pub rcode : ℕ

pub record Question : Type 0 where
  pub name : Name
  pub type : ℕ
  pub class : ℕ

-- RDATA is held without pointers; TTL is its 32 bits
pub record Record : Type 0 where
  pub name : Name
  pub type : ℕ
  pub class : ℕ
  pub ttl : ℕ
  pub rdata : List ℕ

-- a record of TYPE 41
abbrev pub opt? : Record → Bool
opt? r = eqb r.type 41

pub record Message : Type 0 where
  pub header : Header
  pub questions : List Question
  pub answers : List Record
  pub authority : List Record
  pub additional : List Record

-- ---- the uncompressed form
-- the octet of QR, Opcode, AA, TC, RD, and the octet of RA, Z, AD, CD, RCODE
abbrev pub flags_high : Header → ℕ
flags_high h = h.qr * 128 + h.opcode * 8 + h.aa * 4 + h.tc * 2 + h.rd

abbrev pub flags_low : Header → ℕ
flags_low h = h.ra * 128 + h.z * 64 + h.ad * 32 + h.cd * 16 + h.rcode

unfoldable pub question_form : Question → List ℕ
question_form q = name_form q.name ++ be16 q.type ++ be16 q.class

unfoldable pub record_form : Record → List ℕ
record_form r = name_form r.name ++ be16 r.type ++ be16 r.class ++ be32 r.ttl ++ be16 (length r.rdata)
    ++ r.rdata

unfoldable pub header_form : Message → List ℕ
header_form m =
    be16 m.header.id
    ++ (flags_high m.header ∷ flags_low m.header ∷ [])
    ++ be16 (length m.questions)
    ++ be16 (length m.answers)
    ++ be16 (length m.authority)
    ++ be16 (length m.additional)

unfoldable pub form : Message → List ℕ
form m =
    header_form m
    ++ each question_form m.questions
    ++ each record_form m.answers
    ++ each record_form m.authority
    ++ each record_form m.additional

-- ---- what is valid, limits of size aside
abbrev pub bit? : ℕ → Bool
bit? n = ltb n 2

abbrev pub four_bits? : ℕ → Bool
four_bits? n = ltb n 16

unfoldable pub header? : Header → Bool
header? h =
    u16? h.id
    && bit? h.qr
    && four_bits? h.opcode
    && bit? h.aa
    && bit? h.tc
    && bit? h.rd
    && bit? h.ra
    && bit? h.z
    && bit? h.ad
    && bit? h.cd
    && four_bits? h.rcode

unfoldable pub question? : Question → Bool
question? q = name? q.name && u16? q.type && u16? q.class

unfoldable pub record? : Record → Bool
record? r = name? r.name && u16? r.type && u16? r.class && u32? r.ttl && all u8? r.rdata
    && rdata_fits? r.type r.rdata

-- the number of entries of a section is a number of 16 bits
abbrev pub section? : {A : Type 0} → (A → Bool) → List A → Bool
section? entry? l = u16? (length l) && all entry? l

unfoldable pub valid? : Message → Bool
valid? m =
    header? m.header
    && section? question? m.questions
    && section? record? m.answers
    && section? record? m.authority
    && section? record? m.additional
