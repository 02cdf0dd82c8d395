-- Things with a comma before each, or between them, and an octet after the last: how a loop reads them, turn by turn.
use Rattle.std.specs.Prelude.{◌≡◌, refl, Bool, true, false, List, [], ◌∷◌, ◌++◌, ℕ, ◌+◌, ◌-◌, ◌≤◌, ◌<◌, length, drop, get_or, Ok, Err}
use Rattle.std.proofs.Common.{sym, ◌∙◌, ap, append_assoc, append-nil, arith, eq-eqb, length-append, length-drop}
use Rattle.octets.specs.Parsed.{Parsed, parsed, failed, and_then, otherwise, strip, is_failed, strip_sound}
use Rattle.octets.specs.Codec.{Avoids, Codec, exact, ◌▷◌}
use Rattle.octets.specs.Fields.{drop_one}
use Rattle.parse_tokens.specs.declared.Cursor.{Cursor}
use Rattle.parse_tokens.specs.Cursor.{Safe, Moves, moves_then, Alike, Advanced, went_keeps, keeps_same}
use Rattle.parse_tokens.specs.Cursor.{reads_parsed, reads_stop, reads_got, reads_bad, Got}
use Rattle.parse_tokens.specs.Step.{Found}
use Rattle.parse_tokens.specs.Place.{At, no_strip}
use Rattle.parse_tokens.specs.Many.{run_of, going_start, going_end, going_more, going_stop}

-- what comes before an item: the first has no comma
abbrev pub comma_of : Bool → List ℕ
comma_of true = []
comma_of false = 44 ∷ []

module _ {A : Type 0} {I : A → Type 0} {f : A → List ℕ} {F : List ℕ → Type 0} (p : Codec I f F) (stop : ℕ) where
  -- a comma before each
  abbrev pub more_of : List ℕ → Parsed (List A)
  more_of = run_of stop ("," ▷ p)

  -- all that is left, by whether the next is the first
  abbrev pub part_of : Bool → List ℕ → Parsed (List A)
  part_of true w = otherwise (and_then (strip (stop ∷ []) w) λ u r. parsed [] r)
      (and_then {A = A × List A} (and_then (p.parse w) λ a w. and_then (more_of w) λ b r. parsed (a, b) r) λ u r.
      parsed
      (u.0 ∷ u.1) r)
  part_of false w = more_of w

  -- the next
  abbrev pub item_of : Bool → List ℕ → Parsed A
  item_of first w = and_then (strip (comma_of first) w) λ u r. p.parse r

  -- l was found from c to d, and Q of it
  pub record Items (Q : List A → Type 0) (t : List ℕ) (c : Cursor) (start : Bool) (d : Cursor)
      (first : Bool) : Type 0 where
    pub l : List A
    pub goes : part_of start (drop c.at t) ≡ and_then (part_of first (drop d.at t)) (λ u r. parsed (l ++ u) r)
    pub moves : Moves t (Ok c) (Ok d)
    pub holds : Q l

module _ {A : Type 0} {I : A → Type 0} {f : A → List ℕ} {F : List ℕ
    → Type 0} (p : Codec I f F) (stop : ℕ) (avoids : Avoids I f stop) (apart : Avoids I (λ a. 44 ∷ f a) stop)
    (t : List ℕ) where
  -- ---- the parser, turn by turn
  ended_at : (first : Bool) (at : ℕ) → at < length t → get_or t at 0 ≡ stop
      → part_of p stop first (drop at t) ≡ parsed [] (drop (at + 1) t)
  ended_at true at h e = rw (drop_one t at h, e, eq-eqb stop stop refl)
  ended_at false at h e = going_end ("," ▷ p) stop apart refl (going_start (more_of p stop) t at) h e

  next_at : (first : Bool) (at n : ℕ) (a : A) → item_of p stop first (drop at t) ≡ parsed a (drop n t)
      → part_of p stop first (drop at t) ≡ and_then (more_of p stop (drop n t)) (λ u r. parsed (a ∷ u) r)
  next_at true at n a e =
      let k = exact p (drop at t) a (drop n t) e in
      let s = is_failed (strip_sound (stop ∷ []) (drop at t)) (λ u r d. avoids a _ r k.0 (k.1 ∙ sym d)) in
      rw (s.1, e) (go (more_of p stop (drop n t)))
    where
      go : (o : Parsed (List A))
          → and_then {A = A × List A} (and_then o λ b r. parsed (a, b) r) (λ u r. parsed (u.0 ∷ u.1) r) ≡ and_then o
          (λ u r. parsed (a ∷ u) r)
      go (parsed u r) = refl
      go (failed w) = refl
  next_at false at n a e = (going_more ("," ▷ p) stop apart refl (going_start (more_of p stop) t at) {n = n} e).goes

  stuck_at : (first : Bool) (at : ℕ) (w : List ℕ) → (At t at stop → ⊥)
      → item_of p stop first (drop at t) ≡ failed w → part_of p stop first (drop at t) ≡ failed w
  stuck_at true at w d e = rw (no_strip stop [] d, e)
  stuck_at false at w d e =
      going_stop ("," ▷ p) stop apart refl (going_start (more_of p stop) t at) d e

  -- an item has an octet
  far_at : (first : Bool) (at n : ℕ) (a : A) → at ≤ length t → n ≤ length t
      → item_of p stop first (drop at t) ≡ parsed a (drop n t) → at < n
  far_at true at n a h k e = go (f a) refl (exact p (drop at t) a (drop n t) e)
    where
      go : (w : List ℕ) → f a ≡ w → I a × (f a ++ drop n t ≡ drop at t) → at < n
      go [] d x = absurd (avoids a (stop ∷ []) [] x.0 (ap (λ z. z ++ (stop ∷ [])) d))
      go (y ∷ w) d x = omega (
        arith,
        ap length (sym (ap (λ z. z ++ drop n t) d) ∙ x.1),
        length-append w (drop n t),
        length-drop n t,
        length-drop at t,
      )
  far_at false at n a h k e =
      let x = exact ("," ▷ p) (drop at t) a (drop n t) e in
      omega (arith, ap length x.1, length-append (f a) (drop n t), length-drop n t, length-drop at t)

  -- ---- a loop that reads them
  module _ {c : Cursor} {start : Bool} where
    pub items_start : {Q : List A → Type 0} → Safe t c → Q [] → Items p stop Q t c start c start
    items_start h q = record {
      l = [];
      goes = go (part_of p stop start (drop c.at t));
      moves = (keeps_same h).moves;
      holds = q;
    }
      where
        go : (o : Parsed (List A)) → o ≡ and_then o (λ u r. parsed ([] ++ u) r)
        go (parsed u r) = refl
        go (failed w) = refl

    module _ {Q : List A → Type 0} {d : Cursor} {first : Bool} (w : Items p stop Q t c start d first) where
      pub items_end : {R : List A → Type 0} {r : Cursor} → At t d.at stop → Advanced d (d.at + 1) r
          → (Alike d r → (l : List A) → Q l → R l) → Found (part_of p stop start) R t (Ok c) (Ok r)
      items_end {R} {r} k s q =
          let m = went_keeps w.moves.within.0 s (omega arith) (omega (arith, k.inside)) in
          record {
            reads = reads_parsed (w.goes ∙ rw (ended_at first d.at k.inside k.is, append-nil)) s.at
                (q m.alike.holds w.l w.holds);
            moves = moves_then w.moves m.moves;
          }

      module _ {P : A → Type 0} where
        pub items_stop : {R : List A → Type 0} {n : ℕ} → (At t d.at stop → ⊥)
            → Found (item_of p stop first) P t (Ok d) (Err n) → Found (part_of p stop start) R t (Ok c) (Err n)
        items_stop e y = record {
          reads = reads_stop (w.goes ∙ rw (stuck_at first d.at _ e (reads_bad y.reads)));
          moves = moves_then w.moves y.moves;
        }

        module _ {r : Cursor} (y : Found (item_of p stop first) P t (Ok d) (Ok r)) where
          got : Got (item_of p stop first (drop d.at t)) P (drop r.at t)
          got = reads_got y.reads

          -- less is left to read
          pub items_less : length t - r.at < length t - d.at
          items_less = omega (
            arith,
            far_at first d.at r.at got.value w.moves.within.0.inside y.moves.within.0.inside got.is,
            y.moves.within.0.inside,
          )

          pub items_more : {R : List A → Type 0} → ((l : List A) (a : A) → Q l → P a → R (l ++ (a ∷ [])))
              → Items p stop R t c start r false
          items_more q = record {
            l = w.l ++ (got.value ∷ []);
            goes = w.goes ∙ rw (next_at first d.at r.at got.value got.is)
                (go (more_of p stop (drop r.at t)));
            moves = moves_then w.moves y.moves;
            holds = q w.l got.value w.holds got.holds;
          }
            where
              go : (o : Parsed (List A))
                  → and_then (and_then o (λ u r. parsed (got.value ∷ u) r)) (λ u r. parsed (w.l ++ u) r) ≡ and_then o
                  (λ u r. parsed (w.l ++ (got.value ∷ []) ++ u) r)
              go (parsed u r) = rw append_assoc
              go (failed u) = refl
