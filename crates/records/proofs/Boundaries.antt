-- Messages at the limits of the format's rules, one row each, and one theorem over the table.
use mathlib.Core.Path.{◌≡◌, refl}
use mathlib.Core.List.{List, [], ◌∷◌, ◌++◌, map}
use Prim.Native.Nat.{ℕ}
use lib.ListN.{replicate}
use Rattle.octets.specs.Lists.{hexed, lookup, each}
use Rattle.octets.specs.Fields.{be16}
use Rattle.names.proofs.Boundaries.{label_of}
use Rattle.names.specs.Name.{name_form}
use Rattle.names.specs.Walk.{walk, name_from}
use Rattle.records.specs.Layout.{layouts, layout_of, pieces, rdata_at}
use Rattle.records.specs.Message.{Header, question_form, record_form, header_form, form}
use Rattle.records.specs.Read.{first_cut, question_at, record_at, section_at, section_from}
use Rattle.records.specs.Decode.{header_of, sections_of, message_read, Decoded, accepted, refused, decode}

-- accepted, or the refusal's number and place
pub data Verdict : Type 0 where
  taken : Verdict
  refuses : ℕ → ℕ → Verdict

abbrev pub verdict : Decoded → Verdict
verdict (accepted m) = taken
verdict (refused number place) = refuses number place

pub record Boundary : Type 0 where
  pub message : List ℕ
  pub gives : Verdict

-- a header with these counts of questions and answers
abbrev pub counts : ℕ → ℕ → List ℕ
counts questions answers = hexed "00000000" ++ be16 questions ++ be16 answers ++ hexed "00000000"

-- a question whose name has these octets
abbrev pub asks : List ℕ → List ℕ
asks name = counts 1 0 ++ name ++ hexed "00010001"

-- an answer of TYPE whose owner is the root, with this RDATA
abbrev pub answers : ℕ → ℕ → List ℕ → List ℕ
answers type size rdata = counts 0 1 ++ hexed "00" ++ be16 type ++ hexed "000100000000" ++ be16 size ++ rdata

-- three labels of 63 and one of n octets, and the root octet
abbrev pub long : ℕ → List ℕ
long n = label_of 63 ++ label_of 63 ++ label_of 63 ++ label_of n ++ hexed "00"

-- a question for `a.` and an answer that points to it, with n octets of RDATA: the form is one octet longer than the
-- message
abbrev pub pointed : ℕ → List ℕ
pointed n = counts 1 1 ++ hexed "01610000010001" ++ hexed "C00C03E8000100000000" ++ be16 n ++ replicate n 0

unfoldable pub boundaries : List Boundary
boundaries =
    -- 11 octets are under 12
    record { message = replicate 11 0; gives = refuses 1 0 }
    -- 65,535 octets are read, 65,536 are not
    ∷ record { message = replicate 65535 0; gives = refuses 8 12 }
    ∷ record { message = replicate 65536 0; gives = refuses 2 0 }
    -- a target of 12 is the name's own start, one of 11 is in the header
    ∷ record { message = asks (hexed "C00C"); gives = refuses 5 12 }
    ∷ record { message = asks (hexed "C00B"); gives = refuses 5 12 }
    -- a label and a pointer back to it
    ∷ record { message = asks (hexed "0161C00C"); gives = refuses 5 14 }
    -- labels of 63 and 64, and top bits 10 after a label
    ∷ record { message = asks (label_of 63 ++ hexed "00"); gives = taken }
    ∷ record { message = asks (label_of 64 ++ hexed "00"); gives = refuses 4 12 }
    ∷ record { message = asks (hexed "016180"); gives = refuses 4 14 }
    -- names of 255 and 256 octets
    ∷ record { message = asks (long 61); gives = taken }
    ∷ record { message = asks (long 62); gives = refuses 6 204 }
    -- at one label, past the end comes before past 255; at a pointer, past the end before its target
    ∷ record { message = counts 1 0 ++ label_of 63 ++ label_of 63 ++ label_of 63 ++ hexed "3F6161"; gives = refuses 1 204 }
    ∷ record { message = counts 1 0 ++ hexed "C0"; gives = refuses 1 12 }
    -- a question that ends before its name and in a label; before TYPE and in it; before CLASS and in it
    ∷ record { message = counts 1 0; gives = refuses 1 12 }
    ∷ record { message = counts 1 0 ++ hexed "0361"; gives = refuses 1 12 }
    ∷ record { message = counts 1 0 ++ hexed "00"; gives = refuses 1 13 }
    ∷ record { message = counts 1 0 ++ hexed "0000"; gives = refuses 1 13 }
    ∷ record { message = counts 1 0 ++ hexed "000001"; gives = refuses 1 15 }
    ∷ record { message = counts 1 0 ++ hexed "00000100"; gives = refuses 1 15 }
    -- a record that ends before TTL and in it; before RDLENGTH and in it; before RDATA and in it
    ∷ record { message = counts 0 1 ++ hexed "0000020001"; gives = refuses 1 17 }
    ∷ record { message = counts 0 1 ++ hexed "0000020001000000"; gives = refuses 1 17 }
    ∷ record { message = counts 0 1 ++ hexed "000002000100000000"; gives = refuses 1 21 }
    ∷ record { message = counts 0 1 ++ hexed "00000200010000000000"; gives = refuses 1 21 }
    ∷ record { message = answers 2 4 []; gives = refuses 1 23 }
    ∷ record { message = answers 2 4 (hexed "016100"); gives = refuses 1 23 }
    -- a form of 65,535 and of 65,536 octets
    ∷ record { message = pointed 65503; gives = taken }
    ∷ record { message = pointed 65504; gives = refuses 9 0 }
    -- RDATA of NS: ends inside its name, as it should, one octet after it; one octet after a pointer; top bits 01;
    -- RDLENGTH 0
    ∷ record { message = answers 2 2 (hexed "0161"); gives = refuses 7 23 }
    ∷ record { message = answers 2 3 (hexed "016100"); gives = taken }
    ∷ record { message = answers 2 4 (hexed "01610000"); gives = refuses 11 26 }
    ∷ record { message = answers 2 3 (hexed "C00C00"); gives = refuses 11 25 }
    ∷ record { message = answers 2 1 (hexed "40"); gives = refuses 4 23 }
    ∷ record { message = answers 2 0 []; gives = taken }
    -- a pointer cut by RDATA's end; one that jumps out and runs on to the message's end
    ∷ record { message = answers 2 1 (hexed "C0"); gives = refuses 7 23 }
    ∷ record { message = answers 2 2 (hexed "C016"); gives = refuses 1 25 }
    -- MX of one octet; SOA with 20 octets after its names, with 19 and with 21
    ∷ record { message = answers 15 1 (hexed "00"); gives = refuses 7 23 }
    ∷ record { message = answers 6 22 (replicate 22 0); gives = taken }
    ∷ record { message = answers 6 21 (replicate 21 0); gives = refuses 7 23 }
    ∷ record { message = answers 6 23 (replicate 23 0); gives = refuses 11 45 }
    -- two jumps, through CLASS and TYPE: the name ends after its own pointer
    ∷ record { message = counts 2 0 ++ hexed "00C00CC00DC00F00010001"; gives = taken }
    -- after a jump to 13, a TYPE, a pointer to 15: below the name's start, but not below the last target
    ∷ record { message = counts 2 0 ++ hexed "00C00F0001C00D00010001"; gives = refuses 5 13 }
    -- a jump into a label, to an octet with top bits 01; the same after two jumps, the second from a TYPE
    ∷ record { message = counts 2 0 ++ hexed "036140620000010001C00E00010001"; gives = refuses 4 14 }
    ∷ record { message = counts 3 0 ++ hexed "0140000001000100C00D0001C01400010001"; gives = refuses 4 13 }
    -- a label and a pointer to a name of 253 octets, of 254: the count goes on after a jump
    ∷ record { message = counts 2 0 ++ long 59 ++ hexed "000100010162C00C00010001"; gives = taken }
    ∷ record { message = counts 2 0 ++ long 60 ++ hexed "000100010162C00C00010001"; gives = refuses 6 204 }
    -- after a jump out of RDATA its end no longer counts: a run of labels across it; one past the message, from RDATA
    -- of the record before
    ∷ record { message = counts 0 2 ++ hexed "0000020001000000000002C0160000010001000000000000"; gives = taken }
    ∷ record {
      message = counts 0 2 ++ hexed "00001000010000000000013F0000020001000000000002C017";
      gives = refuses 1 23;
    }
    -- MX: no name, a name; a pointer to its own two octets, and to the name itself
    ∷ record { message = answers 15 2 (hexed "0001"); gives = refuses 7 23 }
    ∷ record { message = answers 15 3 (hexed "000100"); gives = taken }
    ∷ record { message = answers 15 4 (hexed "0001C017"); gives = taken }
    ∷ record { message = answers 15 4 (hexed "0001C019"); gives = refuses 5 25 }
    -- MINFO: one name, two, three; the second may point to the first; RDATA's end counts again for the second
    ∷ record { message = answers 14 1 (hexed "00"); gives = refuses 7 23 }
    ∷ record { message = answers 14 2 (hexed "0000"); gives = taken }
    ∷ record { message = answers 14 3 (hexed "000000"); gives = refuses 11 25 }
    ∷ record { message = answers 14 5 (hexed "016100C017"); gives = taken }
    ∷ record { message = answers 14 4 (hexed "C00C016100"); gives = refuses 7 23 }
    -- SOA: a fault in its first name, before 20 octets that are not all there; an octet left over after a name with a
    -- pointer; a fault in its second name, before an octet left over
    ∷ record { message = answers 6 21 (hexed "C017" ++ replicate 19 0); gives = refuses 5 23 }
    ∷ record { message = answers 6 24 (hexed "00C017" ++ replicate 21 0); gives = refuses 11 46 }
    ∷ record { message = answers 6 24 (hexed "00C018" ++ replicate 21 0); gives = refuses 5 24 }
    -- in RDATA, a name over 255 octets; a label past RDATA and over 255
    ∷ record { message = answers 2 255 (label_of 63 ++ label_of 63 ++ label_of 63 ++ label_of 62); gives = refuses 6 215 }
    ∷ record { message = answers 2 254 (label_of 63 ++ label_of 63 ++ label_of 63 ++ label_of 62); gives = refuses 7 23 }
    ∷ []

-- every row, computed
pub boundaries_hold : map (λ (b : Boundary). verdict (decode b.message)) boundaries ≡ map
    (λ (b : Boundary). b.gives) boundaries
unfolding boundaries lookup name_form walk name_from layouts layout_of pieces rdata_at question_form record_form each header_form form first_cut question_at record_at section_at section_from header_of sections_of message_read decode
boundaries_hold = refl

-- RDATA of two root octets: one too many for one name, too few for SOA and MX, just MINFO's; carried for a TYPE that is
-- not listed
unfoldable pub types : List (ℕ × Verdict)
types =
    map (λ (type : ℕ). (type, taken)) (1 ∷ 10 ∷ 11 ∷ 13 ∷ 14 ∷ 16 ∷ 41 ∷ 258 ∷ 512 ∷ [])
    ++ map (λ (type : ℕ). (type, refuses 11 24)) (2 ∷ 3 ∷ 4 ∷ 5 ∷ 7 ∷ 8 ∷ 9 ∷ 12 ∷ [])
    ++ map (λ (type : ℕ). (type, refuses 7 23)) (6 ∷ 15 ∷ [])

pub types_hold : map (λ (t : ℕ × Verdict). verdict (decode (answers t.0 2 (hexed "0000")))) types ≡ map
    (λ (t : ℕ × Verdict). t.1) types
unfolding types lookup name_form walk name_from layouts layout_of pieces rdata_at question_form record_form each header_form form first_cut question_at record_at section_at section_from header_of sections_of message_read decode
types_hold = refl

-- QR, Opcode, AA, TC, RD, RA, AD, CD, RCODE of a header, with the first and the last bit of each set alone
abbrev pub fields : Header → List ℕ
fields h = h.qr ∷ h.opcode ∷ h.aa ∷ h.tc ∷ h.rd ∷ h.ra ∷ h.ad ∷ h.cd ∷ h.rcode ∷ []

unfoldable pub flag_bits : List (List ℕ × List ℕ)
flag_bits =
    (hexed "8000", 1 ∷ 0 ∷ 0 ∷ 0 ∷ 0 ∷ 0 ∷ 0 ∷ 0 ∷ 0 ∷ [])
    ∷ (hexed "4000", 0 ∷ 8 ∷ 0 ∷ 0 ∷ 0 ∷ 0 ∷ 0 ∷ 0 ∷ 0 ∷ [])
    ∷ (hexed "0800", 0 ∷ 1 ∷ 0 ∷ 0 ∷ 0 ∷ 0 ∷ 0 ∷ 0 ∷ 0 ∷ [])
    ∷ (hexed "0400", 0 ∷ 0 ∷ 1 ∷ 0 ∷ 0 ∷ 0 ∷ 0 ∷ 0 ∷ 0 ∷ [])
    ∷ (hexed "0200", 0 ∷ 0 ∷ 0 ∷ 1 ∷ 0 ∷ 0 ∷ 0 ∷ 0 ∷ 0 ∷ [])
    ∷ (hexed "0100", 0 ∷ 0 ∷ 0 ∷ 0 ∷ 1 ∷ 0 ∷ 0 ∷ 0 ∷ 0 ∷ [])
    ∷ (hexed "0080", 0 ∷ 0 ∷ 0 ∷ 0 ∷ 0 ∷ 1 ∷ 0 ∷ 0 ∷ 0 ∷ [])
    ∷ (hexed "0020", 0 ∷ 0 ∷ 0 ∷ 0 ∷ 0 ∷ 0 ∷ 1 ∷ 0 ∷ 0 ∷ [])
    ∷ (hexed "0010", 0 ∷ 0 ∷ 0 ∷ 0 ∷ 0 ∷ 0 ∷ 0 ∷ 1 ∷ 0 ∷ [])
    ∷ (hexed "0008", 0 ∷ 0 ∷ 0 ∷ 0 ∷ 0 ∷ 0 ∷ 0 ∷ 0 ∷ 8 ∷ [])
    ∷ (hexed "0001", 0 ∷ 0 ∷ 0 ∷ 0 ∷ 0 ∷ 0 ∷ 0 ∷ 0 ∷ 1 ∷ [])
    ∷ []

pub flags_hold : map (λ (f : List ℕ × List ℕ). fields (header_of (hexed "0000" ++ f.0 ++ replicate 8 0))) flag_bits ≡ map
    (λ (f : List ℕ × List ℕ). f.1) flag_bits
unfolding flag_bits header_of
flags_hold = refl
