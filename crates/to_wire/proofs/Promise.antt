-- What the strict reader promises, and how it follows from a run that judges and a run that writes.
use Rattle.std.proofs.Common.{◌≡◌, refl, sym, ap, ◌∙◌, subst, Bool, true, false, ◌&&◌, List, [], ◌++◌, ℕ, ◌-◌, ◌≤◌}
use Rattle.std.proofs.Common.{◌<◌, T, leb, Ok, Err, MatchResult, length, drop, arith, drop_of_length-le}
use Rattle.std.proofs.Common.{length-drop, zero-add}
use Rattle.std.proofs.Math.Option.{none, some}
use Rattle.octets.specs.Bits.{is_true, and_left, and_right}
use Rattle.octets.specs.Parsed.{parsed, parsed_value, parsed≢failed}
use Rattle.octets.specs.Answer.{output, success, refusal}
use Rattle.octets.specs.Answer as answer
use Rattle.octets.specs.declared.Rule.TheVariants.{Grammar}
use Rattle.octets.specs.declared.Refusal.{Refusal}
use Rattle.octets.specs.Calls.{answer_of, Gives, gives_refusal, gives_none, gives_written}
use Rattle.octets.specs.Fields.{drop_one, empty}
use Rattle.octets.specs.Overlay.{Wrote}
use Rattle.records.specs.Message.{form}
use Rattle.json_text.specs.View.{message_of}
use Rattle.json_text.proofs.ViewLaws.{small_form, within_small}
use Rattle.json_text.specs.Limits.{within?}
use Rattle.json_text.specs.Document.{Document}
use Rattle.strict.specs.Meaning.{document_view, counts?, meaning}
use Rattle.strict.specs.Parser.{document, parse}
use Rattle.strict.specs.Reading.{reading, to_wire}
use Rattle.parse_tokens.specs.declared.Cursor.{Cursor}
use Rattle.parse_tokens.specs.Cursor.{Reached, reads_bad, reads_got, Got}
use Rattle.parse_tokens.specs.Step.{Put, Puts, Step}
use Rattle.to_wire.specs.Meant.{document_meant?, document_octets, document_meant, document-octets, head_meant?}
use Rattle.to_wire.specs.Meant.{sections_meant?}
use Rattle.to_wire.specs.Whole.{start}

-- ---- what is read is what the definitions read
-- counts that are those of the arrays are part of what is judged
counts_meant : (d : Document) → T (document_meant? d) → T (counts? d)
unfolding document_meant?
counts_meant d t = and_left (counts? d) _ (and_right (head_meant? _ && sections_meant? d) _ t)

octets-form : (d : Document) → T (document_meant? d) → document_octets d ≡ form (message_of (document_view d))
octets-form d t = document-octets d (counts_meant d t)

-- the meaning by the judgement
meaning_none : (d : Document) → document_meant? d ≡ false → meaning d ≡ none
unfolding meaning
meaning_none d e = rw (sym (document_meant d) ∙ e)

meaning_some : (d : Document) → T (document_meant? d) → meaning d ≡ some (document_view d)
unfolding meaning
meaning_some d t = rw (sym (document_meant d) ∙ is_true (document_meant? d) t)

-- the limit by the length of the form
within_same : (d : Document) → T (document_meant? d)
    → within? (document_view d) ≡ leb (length (document_octets d)) 65535
within_same d t = go (within? (document_view d)) (leb (length (document_octets d)) 65535) refl refl
  where
    go : (a b : Bool) → within? (document_view d) ≡ a → leb (length (document_octets d)) 65535 ≡ b → a ≡ b
    go true true e f = refl
    go false false e f = refl
    go true false e f =
        let k = (within_small (document_view d) (subst T (sym e) tt)).0 in
        absurd (subst T (sym (ap (λ l. leb (length l) 65535) (octets-form d t)) ∙ f) k)
    go false true e f = absurd
        (subst T e (small_form (document_view d)
        (subst T (sym f ∙ ap (λ l. leb (length l) 65535) (octets-form d t)) tt)))

-- ---- the refusals, and what is written
-- what a run on the text t shows, over the octets b, where it came to r and left b'
abbrev Run : List ℕ → List ℕ → Reached → List ℕ → Type 0
Run t b r b' = Step document_meant? document_octets document.parse t (Ok start) b r b'

-- l is what the first run leaves of no octets
module _ (t b l : List ℕ) (z : length l ≡ 0) where
  refuses : (n p : ℕ) → reading t ≡ answer.refused n p → Gives (to_wire t b) (refusal n p) (l ++ b)
  unfolding to_wire
  refuses n p e = rw (empty l z, e) (gives_refusal 23 b n p)

  -- the text is not within the grammar
  pub read_stopped : {n : ℕ} → Run t [] (Err n) l → Gives (to_wire t b) (refusal 20 n) (l ++ b)
  unfolding reading parse
  read_stopped {n} x =
      let place : length t - length (drop n t) ≡ n = omega (arith, length-drop n t, x.moves.within.1) in
      refuses 20 n (rw (reads_bad x.reads, place))

  -- so is the refusal that the stop becomes
  pub read_refused : (r : Reached) (f : Refusal) → Run t [] r l
      → MatchResult r (λ c. ⊥) (λ n. f ≡ record { rule = Grammar; place = n })
      → Gives (to_wire t b) (answer_of (Err f)) (l ++ b)
  read_refused (Ok c) f x h = absurd h
  read_refused (Err n) f x h = rw h (read_stopped x)

  module _ {c : Cursor} (x : Run t [] (Ok c) l) where
    got : Got (document.parse t) (Puts document_meant? document_octets (Ok start) [] (Ok c) l) (drop c.at t)
    got = reads_got x.reads

    put : Put document_meant? document_octets start [] c l got.value
    put = got.holds.holds

    -- octets are left after it
    pub read_left : c.at < length t → Gives (to_wire t b) (refusal 20 c.at) (l ++ b)
    unfolding reading parse
    read_left h =
        let place : length t - length (drop c.at t) ≡ c.at = omega (arith, length-drop c.at t) in
        let left = ap (λ (w : List ℕ). length t - length w) (sym (drop_one t c.at h)) ∙ place in
        refuses 20 c.at (rw (got.is, drop_one t c.at h) (ap (answer.refused 20) left))

    module _ (h : length t ≤ c.at) where
      whole : parse t ≡ parsed got.value []
      unfolding parse
      whole = rw (got.is, drop_of_length-le t h)

      pub read_meaningless : c.meaningful ≡ false → Gives (to_wire t b) (refusal 21 0) (l ++ b)
      unfolding reading
      read_meaningless k = refuses 21 0 (rw (whole, meaning_none got.value (sym put.meaningful ∙ k)))

      module _ (k : c.meaningful ≡ true) where
        holds : T c.meaningful
        holds = subst T (sym k) tt

        means : T (document_meant? got.value)
        means = subst T put.meaningful holds

        limit : c.bounded ≡ leb (length (document_octets got.value)) 65535
        limit = put.bounded holds ∙ rw zero-add

        pub read_large : c.bounded ≡ false → Gives (to_wire t b) (refusal 22 0) (l ++ b)
        unfolding reading
        read_large m = refuses 22 0
            (rw (whole, meaning_some got.value means, within_same got.value means, sym limit ∙ m))

        module _ (m : c.bounded ≡ true) where
          bounded : T c.bounded
          bounded = subst T (sym m) tt

          says : reading t ≡ output (document_octets got.value)
          unfolding reading
          says = rw (whole, meaning_some got.value means, within_same got.value means, sym limit ∙ m)
              (ap output (sym (octets-form got.value means)))

          size : c.to ≡ length (document_octets got.value)
          size = omega (arith, (put.wrote holds bounded).place)

          pub read_long : length (l ++ b) < c.to → Gives (to_wire t b) (refusal 23 0) (l ++ b)
          unfolding to_wire
          read_long n =
              let n' : length b < length (document_octets got.value) = omega (arith, size, rw (empty l z) at n) in
              rw (empty l z, says) (gives_none 23 b (document_octets got.value) n')

          -- the second run finds the same, and writes it
          pub read_message : {r : Reached} {b' : List ℕ} → c.to ≤ length (l ++ b) → Run t (l ++ b) r b'
              → Gives (to_wire t b) (success c.to) b'
          unfolding to_wire
          read_message {r} {b'} n y = go r (rw (empty l z) at n) (rw (empty l z) at y)
            where
              same : {c' : Cursor} (d : Document) → d ≡ got.value → Put document_meant? document_octets start b c' b' d
                  → Wrote b 0 (document_octets got.value) b' c'.to
              same {c'} d e p =
                  let q : Put document_meant? document_octets start b c' b' got.value =
                  subst (λ (x : Document). Put document_meant? document_octets start b c' b' x) e p in
                  let i : T c'.meaningful = subst T (sym q.meaningful) means in
                  let j : T c'.bounded = subst T (sym (q.bounded i)) (subst T (put.bounded holds) bounded) in
                  q.wrote i j

              go : (r : Reached) → c.to ≤ length b → Run t b r b' → Gives (to_wire t b) (success c.to) b'
              go (Ok c') n y =
                  let o = reads_got y.reads in
                  rw says (gives_written 23 b (document_octets got.value)
                  (same o.value (parsed_value (sym o.is ∙ got.is)) o.holds.holds) size n)
              go (Err k) n y = absurd (parsed≢failed (sym got.is ∙ reads_bad y.reads))
