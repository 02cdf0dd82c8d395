-- EDNS records at the limits of the format's rules, one row each, and one theorem over the table.
use mathlib.Core.Path.{◌≡◌, refl}
use mathlib.Core.Bool.{Bool, true, false}
use mathlib.Core.List.{List, [], ◌∷◌, ◌++◌, map}
use Prim.Native.Nat.{ℕ}
use Prim.Native.String.{String}
use lib.ListN.{length}
use Rattle.octets.specs.Lists.{hexed, lookup, key?, each}
use Rattle.octets.specs.Fields.{be16}
use Rattle.names.specs.Name.{name_form}
use Rattle.names.specs.Walk.{walk, name_from}
use Rattle.records.specs.Layout.{layouts, layout_of, pieces, rdata_at}
use Rattle.records.specs.Message.{question_form, record_form, header_form, form}
use Rattle.records.specs.Read.{first_cut, question_at, record_at, section_at, section_from}
use Rattle.records.specs.Decode.{header_of, sections_of, message_read, Decoded, accepted, refused, decode}
use Rattle.edns.specs.Edns.{rising?, divided, options_of, rcodes, edns_of}
use Rattle.json_text.specs.View.{Additional, ordinary, edns, additional_of, view_of}

-- ---- the EDNS element's conditions, one broken at a time
-- which entries of the additional section are EDNS elements
abbrev pub is_element? : Additional → Bool
is_element? (ordinary r) = false
is_element? (edns e) = true

abbrev pub elements : Decoded → List Bool
elements (accepted m) = map is_element? (view_of m).additional
elements (refused number place) = []

-- a header with this RCODE, answers and additional records
abbrev pub extended : ℕ → ℕ → ℕ → List ℕ
extended rcode count additional = hexed "0000" ++ be16 rcode ++ hexed "0000" ++ be16 count ++ hexed "0000"
    ++ be16 additional

-- a TYPE 41 record: owner, TTL, options
abbrev pub opt : String → String → String → List ℕ
opt owner ttl options = hexed owner ++ hexed "002904D0" ++ hexed ttl ++ be16 (length (hexed options)) ++ hexed options

pub record Condition : Type 0 where
  pub message : List ℕ
  pub shows : List Bool

unfoldable pub conditions : List Condition
conditions =
    -- no options; codes rising, equal, falling; an octet too many
    record { message = extended 0 0 1 ++ opt "00" "00000000" ""; shows = true ∷ [] }
    ∷ record { message = extended 0 0 1 ++ opt "00" "00000000" "0003000000050000"; shows = true ∷ [] }
    ∷ record { message = extended 0 0 1 ++ opt "00" "00000000" "0003000000030000"; shows = false ∷ [] }
    ∷ record { message = extended 0 0 1 ++ opt "00" "00000000" "0005000000030000"; shows = false ∷ [] }
    ∷ record { message = extended 0 0 1 ++ opt "00" "00000000" "0003000000"; shows = false ∷ [] }
    ∷ record { message = extended 0 0 1 ++ opt "00" "00000000" "0003000100"; shows = true ∷ [] }
    -- flags 8000, 0001, 8001; version 1; an owner that is not the root
    ∷ record { message = extended 0 0 1 ++ opt "00" "00008000" ""; shows = true ∷ [] }
    ∷ record { message = extended 0 0 1 ++ opt "00" "00000001" ""; shows = false ∷ [] }
    ∷ record { message = extended 0 0 1 ++ opt "00" "00008001" ""; shows = false ∷ [] }
    ∷ record { message = extended 0 0 1 ++ opt "00" "00010000" ""; shows = false ∷ [] }
    ∷ record { message = extended 0 0 1 ++ opt "016100" "00000000" ""; shows = false ∷ [] }
    -- RCODE 11, 12, 15, 16, 23, 24
    ∷ record { message = extended 11 0 1 ++ opt "00" "00000000" ""; shows = true ∷ [] }
    ∷ record { message = extended 12 0 1 ++ opt "00" "00000000" ""; shows = false ∷ [] }
    ∷ record { message = extended 15 0 1 ++ opt "00" "00000000" ""; shows = false ∷ [] }
    ∷ record { message = extended 0 0 1 ++ opt "00" "01000000" ""; shows = true ∷ [] }
    ∷ record { message = extended 7 0 1 ++ opt "00" "01000000" ""; shows = true ∷ [] }
    ∷ record { message = extended 8 0 1 ++ opt "00" "01000000" ""; shows = false ∷ [] }
    -- two in the additional section; one there and one among the answers
    ∷ record {
      message = extended 0 0 2 ++ opt "00" "00000000" "" ++ opt "00" "00010000" "";
      shows = false ∷ false ∷ [];
    }
    ∷ record { message = extended 0 1 1 ++ opt "00" "00000000" "" ++ opt "00" "00000000" ""; shows = true ∷ [] }
    ∷ []

pub conditions_hold : map (λ (c : Condition). elements (decode c.message)) conditions ≡ map
    (λ (c : Condition). c.shows) conditions
unfolding conditions lookup key? name_form walk name_from layouts layout_of pieces rdata_at question_form record_form each header_form form first_cut question_at record_at section_at section_from header_of sections_of message_read decode rising? divided options_of rcodes edns_of additional_of view_of
conditions_hold = refl
