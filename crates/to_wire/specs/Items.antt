-- Elements of the additional section: an ordinary record, or an EDNS element.
use Rattle.std.specs.Prelude.{◌≡◌, refl, true, false, List, ℕ, ◌+◌, max, drop, Result, Ok, Err}
use Rattle.std.proofs.Common.{sym, ◌∙◌, ap, arith, drop-drop}
use Rattle.octets.specs.Lists.{ascii}
use Rattle.octets.specs.Parsed.{failed, strip, strip_sound, held}
use Rattle.edns.specs.Edns.{EdnsItem}
use Rattle.json_text.specs.Document.{RecordItem, Item, ordinary, edns}
use Rattle.strict.specs.Parser.{record_codec, edns_element, item_codec}
use Rattle.strict.specs.Meaning.{item_additional, item?}
use Rattle.json_text.specs.View.{additional?, opt_entry?, record_of}
use Rattle.parse_tokens.specs.declared.Cursor.{Cursor}
use Rattle.parse_tokens.specs.Cursor.{Reached, Passed}
use Rattle.parse_tokens.specs.Step.{Found, found_stays, found_lit, Put, put_from, put_as, Step}
use Rattle.parse_tokens.specs.Leaf.{found_equal, found_stop, passed_took, passed_place}
use Rattle.parse_tokens.specs.Choice.{furthest, either_further, either_second}
use Rattle.to_wire.specs.Kept.{Told, Kept, kept_stop}
use Rattle.to_wire.specs.Meant.{record_meant?, record_octets, item_meant?, item_octets, item_opt?, item_shown?}
use Rattle.to_wire.specs.Meant.{item_hides?}
use Rattle.to_wire.specs.Reading.{Facts, RecordFacts}
use Rattle.to_wire.specs.Element.{edns_rest, edns_parse, element?, element_form}
use Rattle.to_wire.specs.declared.entries.Entry.{Entry}

-- ---- a record with its first title
abbrev pub TitledRead : ℕ → List ℕ → Reached → List ℕ → Result (Cursor × Entry) ℕ → List ℕ → Type 0
TitledRead rcode t c b r b' = Kept record_codec.parse (RecordFacts rcode b b') t c r

-- ---- the element
abbrev pub ItemFacts : ℕ → List ℕ → List ℕ → Cursor → Cursor × Entry → Item → Type 0
ItemFacts rcode = Facts (item_meant? rcode) item_octets item_opt? item_shown? (item_hides? rcode)

abbrev pub ItemRead : ℕ → List ℕ → Reached → List ℕ → Result (Cursor × Entry) ℕ → List ℕ → Type 0
ItemRead rcode t c b r b' = Kept item_codec.parse (ItemFacts rcode b b') t c r

abbrev name_title : List ℕ
name_title = ascii "{\"NAME\":"

abbrev edns_title : List ℕ
edns_title = ascii "{\"EDNS\":{\"Version\":"

-- what is reported of each
record_told : (rcode : ℕ) {b b' : List ℕ} {c : Cursor} {x : Cursor × Entry} (a : RecordItem)
    → RecordFacts rcode b b' c x a → ItemFacts rcode b b' c x (ordinary a)
unfolding item_meant? item_octets item_opt? item_shown? item_hides? record_meant? record_octets item? additional? item_additional record_of opt_entry?
record_told rcode a h = record {
  put = put_as refl refl h.put;
  is_opt = h.is_opt;
  is_shown = h.is_shown;
  is_hidden = h.is_hidden;
}

edns_told : (rcode : ℕ) {b b' : List ℕ} {c e : Cursor} (a : EdnsItem)
    → Put (element? rcode) element_form c b e b' a
    → ItemFacts rcode b b' c (e, record { opt = true; shown = true; eligible = false }) (edns a)
unfolding item_meant? item_octets item_opt? item_shown? item_hides? item? additional? item_additional record_of opt_entry?
edns_told rcode a h =
    record { put = put_as refl refl h; is_opt = refl; is_shown = refl; is_hidden = λ k. refl }

module _ {t : List ℕ} {c : Cursor} where
  -- an EDNS element
  module _ {m : Cursor} (q : Passed edns_title t (Ok c) (Ok m)) where
    as_edns : {P : EdnsItem → Type 0} {r : Reached} → Found edns_rest P t (Ok m) r
        → Found edns_element.parse P t (Ok c) r
    as_edns x = found_equal edns_element.parse (λ w. sym (edns_parse w)) (found_lit q x)

    -- no record begins so: it differs from the third octet on
    no_record : strip name_title (drop c.at t) ≡ failed (drop (c.at + 2) t)
    no_record =
        let e = held (strip_sound edns_title (drop c.at t)) (passed_took q) in
        rw (← e) refl ∙ ap (λ (w : List ℕ). failed (drop 2 w)) e ∙ ap failed (drop-drop 2 c.at t)

    not_record : Found record_codec.parse (λ r. Unit {0}) t (Ok c) (Err (c.at + 2))
    unfolding record_codec
    not_record = found_stop (rw no_record refl) (omega arith)
        (omega (arith, passed_place q, q.keeps.moves.within.0.inside))

    module _ (rcode : ℕ) {b b' : List ℕ} where
      pub item_edns_lem : {e : Cursor} → Step (element? rcode) element_form edns_rest t (Ok m) b (Ok e) b'
          → ItemRead rcode t (Ok c) b (Ok (e, record { opt = true; shown = true; eligible = false })) b'
      unfolding item_codec
      item_edns_lem {e} x = record {
        found = either_second ordinary edns record_codec.parse edns_element.parse
            (λ r i. Told (λ c y. ItemFacts rcode b b' c y i) (Ok c)
            (Ok (e, record { opt = true; shown = true; eligible = false })))
            not_record (as_edns x) λ a h. record { holds = edns_told rcode a (put_from q.keeps.alike.holds h.holds) };
      }

      pub item_edns_stop : {n : ℕ} → Step (element? rcode) element_form edns_rest t (Ok m) b (Err n) b'
          → ItemRead rcode t (Ok c) b (Err n) b'
      unfolding item_codec
      item_edns_stop {n} x =
          let z : max n (c.at + 2) ≡ n = omega (arith, passed_place q, x.moves.within.0) in
          kept_stop {P = λ i. Unit {0}} (rw z at (either_second ordinary edns record_codec.parse edns_element.parse
          (λ r i. Unit {0}) not_record (as_edns x) λ a h. tt))

  -- an ordinary record
  module _ {n : ℕ} (q : Passed edns_title t (Ok c) (Err n)) where
    no_edns : Found edns_element.parse (λ e. Unit {0}) t (Ok c) (Err n)
    no_edns = found_equal edns_element.parse (λ w. sym (edns_parse w)) (found_lit q found_stays)

    pub item_record_lem : (rcode : ℕ) {b b' : List ℕ} {r s : Result (Cursor × Entry) ℕ}
        → TitledRead rcode t (Ok c) b r b' → s ≡ furthest r n → ItemRead rcode t (Ok c) b s b'
    unfolding item_codec
    item_record_lem rcode {b} {b'} {r} {s} x e = rw e (go r x)
      where
        go : (r : Result (Cursor × Entry) ℕ) → TitledRead rcode t (Ok c) b r b'
            → ItemRead rcode t (Ok c) b (furthest r n) b'
        go (Ok y) x = record {
          found = either_further ordinary edns record_codec.parse edns_element.parse
              (λ r i. Told (λ c y. ItemFacts rcode b b' c y i) (Ok c) (Ok y)) x.found no_edns
              λ a h. record { holds = record_told rcode a h.holds };
        }
        go (Err k) x = kept_stop {P = λ i. Unit {0}}
            (either_further ordinary edns record_codec.parse edns_element.parse (λ r i. Unit {0}) x.found no_edns
            λ a h. tt)

-- for `additional_element`
pub ruleset item_steps = (item_edns_lem, item_edns_stop, item_record_lem)
