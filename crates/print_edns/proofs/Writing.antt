-- What the code has written of an EDNS element: its options one by one, and the whole text by its parts.
use mathlib.Core.Path.{◌≡◌, refl, sym, subst, ap, ◌∙◌}
use mathlib.Core.Bool.{Bool, true, false, ◌&&◌, ◌||◌}
use mathlib.Core.Option.{Option, none, some}
use mathlib.Core.List.{List, [], ◌∷◌, ◌++◌, map, append_assoc}
use Prim.Native.Nat.{ℕ, ◌+◌, ◌-◌, ◌*◌, ◌/◌, ◌%◌, ◌<◌, ◌≤◌}
use native.Mathlib.Omega.{arith}
use borrow.Author.Tests.{leb-true, leb-false}
use lib.Dec.{T, leb, eqb}
use lib.ListN.{length, take, drop, length-drop}
use lib.Seq.{take_all, drop-drop}
use Rattle.octets.specs.Lists.{ascii, key?, row_text, each, present?}
use Rattle.octets.specs.Bits.{is_true, and_right}
use Rattle.octets.specs.Fields.{be16_at}
use Rattle.octets.specs.Decimal.{decimal}
use Rattle.octets.specs.Overlay.{each-ended}
use Rattle.options.specs.Options.{EdnsOption, member_of, member_text}
use Rattle.edns.specs.Edns.{prepend, options_of, rcodes, full_rcode, edns_item, edns_text}
use Rattle.edns.specs.Element.{risen?, options_rise, list_of, options_in, options_text, shows_edns, element_text}
use Rattle.edns.specs.Element.{edns_head_text}
use Rattle.edns.specs.Table.{text_short}
use Rattle.edns.proofs.Ways.{first_option, options_empty, options_short, options_first}

-- every RCODE's name has at most 9 octets
pub rcode_short : (n : ℕ) → length (row_text n rcodes) ≤ 9
unfolding rcodes
rcode_short n = text_short 9 n rcodes tt

-- ---- the options
-- RDATA divides into options
abbrev pub Divides : List ℕ → Type 0
Divides l = T (present? (options_of l))

-- RDATA that divides into options with rising codes
pub rise_divides : (l : List ℕ) → options_rise l ≡ true → Divides l
unfolding options_rise
rise_divides l e = go (options_of l) e
  where
    go : (o : Option (List EdnsOption)) → risen? o ≡ true → T (present? o)
    go none e = subst T (sym e) tt
    go (some l) e = tt

-- no octets, no text
pub options_done : (l : List ℕ) → length l ≡ 0 → options_text l ≡ []
unfolding options_text options_in each
options_done l h = rw (options_empty l h)

-- what divides after an option, and the text of both
later : (a : EdnsOption) (o : Option (List EdnsOption)) → T (present? (prepend a o))
    → T (present? o)
    × (each (λ m. 44 ∷ member_text m) (map member_of (list_of (prepend a o)))
    ≡ (44 ∷ member_text (member_of a)) ++ each (λ m. 44 ∷ member_text m) (map member_of (list_of o)))
unfolding each
later a none t = absurd t
later a (some l) t = (tt, refl)

-- the octets after the first four
pub after_four : (l : List ℕ) → length (take (length l - 4) (drop 4 l)) ≡ length l - 4
after_four l = ap length (take_all (length l - 4) (drop 4 l) (omega (arith, length-drop 4 l))) ∙ length-drop 4 l

module _ (l : List ℕ) (d : Divides l) (h : 0 < length l) where
  -- there is room for the first option
  pub option_room : 4 + be16_at l 2 ≤ length l
  option_room = go (leb (4 + be16_at l 2) (length l)) refl
    where
      go : (t : Bool) → leb (4 + be16_at l 2) (length l) ≡ t → 4 + be16_at l 2 ≤ length l
      go true e = leb-true (4 + be16_at l 2) (length l) e
      go false e = absurd (subst (λ o. T (present? o)) (options_short l h (leb-false (4 + be16_at l 2) (length l) e)) d)

  -- it is written, and what is left after it divides
  pub option_more : {n k : ℕ} {value after : List ℕ} → n ≡ be16_at l 2 → k ≡ length l - 4
      → value ≡ take n (take k (drop 4 l)) → after ≡ drop n (take k (drop 4 l))
      → Divides after
      × (options_text l
      ≡ (44 ∷ member_text (member_of (record { code = be16_at l 0; value = value }))) ++ options_text after)
  unfolding options_text options_in
  option_more {n} {k} {value} {after} e f p q =
      let whole : take k (drop 4 l) ≡ drop 4 l = take_all k (drop 4 l) (omega (arith, length-drop 4 l)) in
      let v : value ≡ take (be16_at l 2) (drop 4 l) = rw (← e, ← whole) p in
      let r : after ≡ drop (4 + be16_at l 2) l = rw (← e, ← (drop-drop n 4 l), ← whole) q in
      let first = options_first l option_room in
      rw (first, v, r) (later (first_option l) (options_of (drop (4 + be16_at l 2) l)) (rw first at d))

-- ---- the element
-- what is an element has options that rise
pub shows_rise : (ttl rcode : ℕ) (rdata : List ℕ) → shows_edns true ttl rcode rdata ≡ true → options_rise rdata ≡ true
unfolding shows_edns
shows_rise ttl rcode rdata e =
    let tests =
    true
    && eqb (ttl / 65536 % 256) 0
    && (eqb (ttl % 65536) 0 || eqb (ttl % 65536) 32768)
    && key? (full_rcode rcode (ttl / 16777216)) rcodes in
    is_true (options_rise rdata) (and_right tests (options_rise rdata) (subst T (sym e) tt))

-- the text by its parts
joined : (h a d o : List ℕ)
    → h ++ (a ++ (d ++ (o ++ (125 ∷ 125 ∷ [])))) ≡ h ++ a ++ d ++ (o ++ (125 ∷ [])) ++ (125 ∷ [])
joined h a d o = simp append_assoc

pub element_parts : (class ttl rcode : ℕ) (rdata : List ℕ)
    → edns_head_text (ttl % 65536 / 32768) (ttl / 16777216 * 16 + rcode)
    ++ (ascii "\",\"UDPSIZE\":" ++ (decimal class ++ (options_text rdata ++ ascii "}}")))
    ≡ element_text class ttl rcode rdata
unfolding element_text edns_text edns_item edns_head_text options_text
element_parts class ttl rcode rdata =
    let options = map member_of (options_in rdata) in
    rw (each-ended (λ m. 44 ∷ member_text m) 125 options)
    (joined (edns_head_text (ttl % 65536 / 32768) (ttl / 16777216 * 16 + rcode)) (ascii "\",\"UDPSIZE\":")
    (decimal class) (options_text rdata))
