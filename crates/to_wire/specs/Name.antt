-- A name of a text, and its octets in a message.
use Rattle.std.specs.Prelude.{◌≡◌, refl, Bool, true, false, not, cond, ◌&&◌, ℕ, ◌+◌, ◌-◌, ◌≤◌, ◌<◌, T, leb, eqb, List}
use Rattle.std.specs.Prelude.{[], ◌∷◌, ◌++◌, length, drop, Result, Ok, Err, MatchResult, Option, Some, None}
use Rattle.std.specs.Prelude.{MatchOption}
use Rattle.std.specs.Option.{unwrap_or}
use Rattle.std.proofs.Common.{sym, ◌∙◌, subst, inl, inr, arith, le→leb, leb→le, leb-true, leb-false, ne_eqb, eq-eqb}
use Rattle.std.proofs.Common.{length-append}
use Rattle.std.proofs.Math.Bool.{and-true}
use Rattle.octets.specs.Lists.{none?, all, All, each, ended}
use Rattle.octets.specs.Bits.{is_true, both, and_left, and_right, all→All, All→all, All-append, All-left, All-right}
use Rattle.octets.specs.Bits.{octets_test}
use Rattle.octets.specs.Parsed.{Parsed, parsed, failed, and_then, or_else, strip}
use Rattle.octets.specs.Codec.{Avoids, Any, OneOrMore, Codec, exact, many1}
use Rattle.octets.specs.Overlay.{Wrote, then, nothing}
use Rattle.names.specs.Name.{Name, name_form, label?, name?}
use Rattle.names.specs.NameLaws.{label_short}
use Rattle.names.specs.Ways.{label_form, form-labels}
use Rattle.spelling.specs.Spelling.{plain?, label_text}
use Rattle.strict.specs.Grammar.{Label}
use Rattle.strict.specs.Spelt.{label, label_avoids, root_or_labels, name_from, name}
use Rattle.parse_tokens.specs.declared.Cursor.{Cursor}
use Rattle.parse_tokens.specs.Cursor.{Reached, Safe, Between, Passed, Advanced, reads_parsed}
use Rattle.parse_tokens.specs.Step.{Found, found_at, Put, put_as, put_from, put_emit, each_last, none_last, Held, Emits}
use Rattle.parse_tokens.specs.Step.{Judged}
use Rattle.parse_tokens.specs.Leaf.{found_equal, found_stop, found_entry, found_quoted, passed_place}
use Rattle.parse_tokens.specs.Choice.{furthest, choice, found_first, second_further}
use Rattle.parse_tokens.specs.Many.{Going, going_start}
use Rattle.parse_tokens.specs.Place.{At}
use Rattle.to_wire.specs.Label.{some_stop, some_end, some_more, label_empty, Stopped, LabelAt}

-- ---- the octets of labels
form-length : (n : Name) → length (name_form n) ≡ length (each label_form n) + 1
form-length n = rw (form-labels n, length-append)

form_last : (n : Name) (l : List ℕ) → length (name_form (n ++ (l ∷ []))) ≡ length (name_form n) + 1 + length l
form_last n l = form-length (n ++ (l ∷ []))
    ∙ rw (each_last label_form n l, length-append) (omega (arith, form-length n))

module _ (n : Name) (l : List ℕ) where
  name_more : T (name? n) → T (label? l) → length (name_form (n ++ (l ∷ []))) ≤ 255 → T (name? (n ++ (l ∷ [])))
  unfolding name?
  name_more h k s = both (all label? (n ++ (l ∷ []))) _
      (All→all label? (n ++ (l ∷ []))
      (All-append (λ x. T (label? x)) n (l ∷ []) (all→All label? n (and_left (all label? n) _ h)) (k, tt)))
      (le→leb (length (name_form (n ++ (l ∷ [])))) 255 s)

  module _ (h : T (name? (n ++ (l ∷ [])))) where
    name_size : length (name_form (n ++ (l ∷ []))) ≤ 255
    unfolding name?
    name_size = leb→le (length (name_form (n ++ (l ∷ [])))) 255 (and_right (all label? (n ++ (l ∷ []))) _ h)

    name-labels : All (λ x. T (label? x)) (n ++ (l ∷ []))
    unfolding name?
    name-labels = all→All label? (n ++ (l ∷ [])) (and_left (all label? (n ++ (l ∷ []))) _ h)

    name_less : T (name? n)
    unfolding name?
    name_less = both (all label? n) _ (All→all label? n (All-left (λ x. T (label? x)) n (l ∷ []) name-labels))
        (le→leb (length (name_form n)) 255 (omega (arith, form_last n l, name_size)))

    name_last : T (label? l)
    name_last = (All-right (λ x. T (label? x)) n (l ∷ []) name-labels).0

-- a label of the grammar that is no longer than 63 octets
label_fits : (l : List ℕ) → Label l → length l ≤ 63 → T (label? l)
unfolding label?
label_fits l h k = both (leb 1 (length l) && leb (length l) 63) _
    (both (leb 1 (length l)) _ (le→leb 1 (length l) (filled l h.1)) (le→leb (length l) 63 k)) (octets_test l h.0)
  where
    filled : (l : List ℕ) → T (not (none? l)) → 1 ≤ length l
    filled [] h = absurd h
    filled (x ∷ l) h = omega arith

-- ---- labels, and the quote
pub quoteless : Avoids Label label_text 34
unfolding plain?
quoteless = label_avoids 34 tt tt

unfoldable pub label_list : Codec (OneOrMore Label) (ended label_text 34) Any
label_list = many1 quoteless (λ r. tt) (λ b r h. tt) label

-- the size of labels with one of m octets more, where a name has them
abbrev pub grown : Option ℕ → ℕ → Option ℕ
grown (Some n) m = cond (leb m 63 && leb (n + 1 + m) 254) (Some (n + 1 + m)) None
grown None m = None

-- labels of a name, n octets in all, written from `to` on
pub record Sized (b : List ℕ) (to : ℕ) (b' : List ℕ) (l : Name) (n : ℕ) : Type 0 where
  pub fits : T (name? l)
  pub few : n ≤ 254
  pub wrote : Wrote b to (each label_form l) b' (to + n)

-- labels of that size; with no size, labels that no name has
abbrev pub Formed : List ℕ → ℕ → List ℕ → Name → Option ℕ → Type 0
Formed b to b' l size = MatchOption size (T (name? l) → ⊥) (Sized b to b' l)

-- labels were read up to r.0; r.1 is their size
pub record LabelsThere (t : List ℕ) (start : ℕ) (b : List ℕ) (to : ℕ) (b' : List ℕ) (r : ℕ × Option ℕ) : Type 0 where
  pub l : Name
  pub is : label_list.parse (drop start t) ≡ parsed l (drop r.0 t)
  pub some : none? l ≡ false
  pub formed : Formed b to b' l r.1
  pub onward : start + 3 ≤ r.0
  pub within : r.0 ≤ length t

pub record LabelsAt (t : List ℕ) (start : ℕ) (b : List ℕ) (to : ℕ) (r : Result (ℕ × Option ℕ) ℕ)
    (b' : List ℕ) : Type 0 where
  pub tells : MatchResult r (LabelsThere t start b to b') (Stopped label_list.parse t start)
  pub long : length b' ≡ length b

-- the labels so far
pub record LabelsLoop (t : List ℕ) (start : ℕ) (b : List ℕ) (to at : ℕ) (size : Option ℕ) (out : List ℕ) : Type 0 where
  pub l : Name
  pub goes : Going label_list.parse t (label_list.parse (drop start t)) at l
  pub formed : Formed b to out l size
  pub few : unwrap_or size 0 ≤ 254
  pub within : at ≤ length t
  pub onward : start ≤ at
  pub long : length out ≡ length b

pub labels-start : {t : List ℕ} {start : ℕ} (b : List ℕ) (to : ℕ) → start ≤ length t
    → LabelsLoop t start b to start (Some 0) b
unfolding name? name_form each
labels-start {t} {start} b to h = record {
  l = [];
  goes = going_start label_list.parse t start;
  formed = record {
    fits = tt;
    few = omega arith;
    wrote = record { place = omega arith; text = (nothing b to).text };
  };
  few = omega arith;
  within = h;
  onward = omega arith;
  long = refl;
}

module _ {t : List ℕ} {start : ℕ} {b : List ℕ} {to at : ℕ} {size : Option ℕ} {out : List ℕ}
    (w : LabelsLoop t start b to at size out) where
  -- no label
  pub labels_stop : {n : ℕ} {out' : List ℕ} → LabelAt t at out (to + unwrap_or size 0) (Err n) out'
      → LabelsAt t start b to (Err n) out'
  unfolding label_list
  labels_stop q = record {
    tells = record {
      is = some_stop label 34 quoteless label_empty (λ r. tt) (λ b r h. tt) w.goes q.tells.is;
      onward = omega (arith, w.onward, q.tells.onward);
      within = q.tells.within;
    };
    long = q.long ∙ w.long;
  }

  -- one label more
  module _ {p : ℕ × ℕ} {out' : List ℕ} (q : LabelAt t at out (to + unwrap_or size 0) (Ok p) out') where
    pub labels_less : length t - p.0 < length t - at
    labels_less = omega (arith, q.tells.onward, q.tells.within)

    abbrev a : List ℕ
    a = q.tells.l

    is : Label a
    is = (exact label (drop at t) a (drop p.0 t) q.tells.is).0

    sized : {n : ℕ} → Sized b to out w.l n → length (name_form w.l) ≡ n + 1
    sized h = omega (arith, form-length w.l, h.wrote.place)

    formed : (s : Option ℕ) → Formed b to out w.l s
        → (p.1 ≤ 63 → Wrote out (to + unwrap_or s 0) (label_form a) out' (to + unwrap_or s 0 + 1 + p.1))
        → Formed b to out' (w.l ++ (a ∷ [])) (grown s p.1)
    formed None f k = λ h. f (name_less w.l a h)
    formed (Some n) f k = go (leb p.1 63) refl (leb (n + 1 + p.1) 254) refl
      where
        size_of : length (name_form (w.l ++ (a ∷ []))) ≡ n + 2 + p.1
        size_of = omega (arith, form_last w.l a, sized f, q.tells.size)

        go : (x : Bool) → leb p.1 63 ≡ x → (y : Bool) → leb (n + 1 + p.1) 254 ≡ y
            → Formed b to out' (w.l ++ (a ∷ [])) (cond (x && y) (Some (n + 1 + p.1)) None)
        go true e true d =
            let g = leb-true p.1 63 e in
            let h = leb-true (n + 1 + p.1) 254 d in
            let z : to + n + 1 + p.1 ≡ to + (n + 1 + p.1) = omega arith in
            record {
              fits = name_more w.l a f.fits (label_fits a is (omega (arith, q.tells.size)))
                  (omega (arith, size_of));
              few = h;
              wrote = rw (each_last label_form w.l a, ← z) (then f.wrote (k g));
            }
        go true e false d = λ h. omega (arith, leb-false (n + 1 + p.1) 254 d, name_size w.l a h, size_of)
        go false e y d = λ h.
            omega (arith, leb-false p.1 63 e, label_short a (name_last w.l a h), q.tells.size)

    grown_few : (s : Option ℕ) → unwrap_or s 0 ≤ 254 → unwrap_or (grown s p.1) 0 ≤ 254
    grown_few None f = omega arith
    grown_few (Some n) f = go (leb p.1 63) (leb (n + 1 + p.1) 254) refl
      where
        go : (x y : Bool) → leb (n + 1 + p.1) 254 ≡ y → unwrap_or (cond (x && y) (Some (n + 1 + p.1)) None) 0 ≤ 254
        go true true d = leb-true (n + 1 + p.1) 254 d
        go true false d = omega arith
        go false y d = omega arith

    pub labels_more : (At t p.0 34 → ⊥) → LabelsLoop t start b to p.0 (grown size p.1) out'
    unfolding label_list
    labels_more d = record {
      l = w.l ++ (a ∷ []);
      goes = some_more label 34 quoteless label_empty (λ r. tt) (λ b r h. tt) w.goes q.tells.is d;
      formed = formed size w.formed q.tells.wrote;
      few = grown_few size w.few;
      within = q.tells.within;
      onward = omega (arith, w.onward, q.tells.onward);
      long = q.long ∙ w.long;
    }

    -- the quote after them
    pub labels_end : At t p.0 34 → LabelsAt t start b to (Ok (p.0 + 1, grown size p.1)) out'
    unfolding label_list
    labels_end d = record {
      tells = record {
        l = w.l ++ (a ∷ []);
        is = some_end label 34 quoteless label_empty (λ r. tt) (λ b r h. tt) w.goes q.tells.is d;
        some = none_last w.l a;
        formed = formed size w.formed q.tells.wrote;
        onward = omega (arith, w.onward, q.tells.onward);
        within = omega (arith, d.inside);
      };
      long = q.long ∙ w.long;
    }

-- for `labels_at`
pub ruleset labels_steps = (labels-start, labels_less)

-- ---- the root or labels, and the quote
-- what was judged and written of a name, which is the root if its text has k octets
abbrev pub Named : ℕ → Reached → List ℕ → Reached → List ℕ → Name → Type 0
Named k c b r b' n = Between (λ c r. Put name? name_form c b r b' n × (none? n ≡ eqb r.at (c.at + k))) c r

abbrev pub LabelsRead : List ℕ → Reached → List ℕ → Reached → List ℕ → Type 0
LabelsRead t c b r b' = Found label_list.parse (Named 2 c b r b') t c r

abbrev pub RootOrLabels : List ℕ → Reached → List ℕ → Reached → List ℕ → Type 0
RootOrLabels t c b r b' = Found root_or_labels.parse (Named 2 c b r b') t c r

module _ {t : List ℕ} {c : Cursor} {b : List ℕ} where
  pub labels_none : {n : ℕ} {b' : List ℕ} → LabelsAt t c.at b c.to (Err n) b' → LabelsRead t (Ok c) b (Err n) b'
  labels_none q = found_stop q.tells.is q.tells.onward q.tells.within

  module _ {at : ℕ} {b₁ : List ℕ} (h : Safe t c) where
    -- the labels of a name, and the root octet
    pub labels_fit : {n : ℕ} {d e r : Cursor} {b' : List ℕ} → LabelsAt t c.at b c.to (Ok (at, Some n)) b₁
        → Advanced c at d → Held n d e → Emits (0 ∷ []) e b₁ r b' → LabelsRead t (Ok c) b (Ok r) b'
    labels_fit {n} {d} {e} {r} {b'} q a k m = record {
      reads = reads_parsed q.tells.is (m.at ∙ k.at ∙ a.at)
          (record { holds = (put_as refl (form-labels q.tells.l) (put_emit put m), far) });
      moves = record {
        within = (
          record { inside = omega (arith, m.at, k.at, a.at, q.tells.within); room = m.room },
          omega (arith, m.at, k.at, a.at, q.tells.onward),
        );
      };
    }
      where
        size : length (each label_form q.tells.l) ≡ n
        size = omega (arith, q.tells.formed.wrote.place)

        put : Put name? (each label_form) c b e b₁ q.tells.l
        put = record {
          meaningful = k.meaningful ∙ a.meaningful
              ∙ rw (is_true (name? q.tells.l) q.tells.formed.fits) (sym (and-true c.meaningful));
          bounded = λ y. k.bounded ∙ rw (a.bounded, a.to, size);
          wrote = λ y z. record { place = k.to z ∙ rw (a.to, size); text = q.tells.formed.wrote.text };
        }

        far : none? q.tells.l ≡ eqb r.at (c.at + 2)
        far = q.tells.some ∙ sym (ne_eqb r.at (c.at + 2) (λ z. omega (arith, m.at, k.at, a.at, q.tells.onward)))

    -- labels that no name has
    pub labels_over : {d r : Cursor} → LabelsAt t c.at b c.to (Ok (at, None)) b₁ → Advanced c at d → Judged false d r
        → LabelsRead t (Ok c) b (Ok r) b₁
    labels_over {d} {r} q a j = record {
      reads = reads_parsed q.tells.is (j.at ∙ a.at) (record { holds = (put, far) });
      moves = record {
        within = (
          record {
            inside = omega (arith, j.at, a.at, q.tells.within);
            room = omega (arith, j.to, a.to, h.room);
          },
          omega (arith, j.at, a.at, q.tells.onward),
        );
      };
    }
      where
        never : T r.meaningful → ⊥
        never y = and_right d.meaningful false (subst T j.meaningful y)

        no : (x : Bool) → (T x → ⊥) → x ≡ false
        no true f = absurd (f tt)
        no false f = refl

        put : Put name? name_form c b r b₁ q.tells.l
        put = record {
          meaningful = j.meaningful ∙ rw (a.meaningful, no (name? q.tells.l) q.tells.formed);
          bounded = λ y. absurd (never y);
          wrote = λ y. absurd (never y);
        }

        far : none? q.tells.l ≡ eqb r.at (c.at + 2)
        far = q.tells.some ∙ sym (ne_eqb r.at (c.at + 2) (λ z. omega (arith, j.at, a.at, q.tells.onward)))

-- for `labels`
pub ruleset name_steps = (labels_none, labels_fit, labels_over)

-- what the parser of the root or labels does
two_ways : (o : Parsed (Unit {0})) (u : Parsed Name)
    → or_else (and_then o λ u r. parsed [] r) u
    ≡ and_then (or_else (and_then (and_then o λ u r. parsed tt r) λ a r. parsed (inl a) r)
    (and_then u λ b r. parsed (inr b) r)) (λ v r. parsed (name_from v) r)
two_ways (parsed a r) u = refl
two_ways (failed w) (parsed b r) = refl
two_ways (failed w) (failed r) = refl

module _ {t : List ℕ} {c : Cursor} where
  either_way : {P : Name → Type 0} {r : Reached}
      → Found (choice (λ w. and_then (strip (46 ∷ 34 ∷ []) w) λ u r. parsed [] r) label_list.parse) P t (Ok c) r
      → Found root_or_labels.parse P t (Ok c) r
  unfolding root_or_labels label_list
  either_way = found_equal root_or_labels.parse
      (λ w. two_ways (strip (46 ∷ 34 ∷ []) w) ((many1 quoteless (λ r. tt) (λ b r h. tt) label).parse w))

  pub root_is : {d r : Cursor} {b b' : List ℕ} → Passed (46 ∷ 34 ∷ []) t (Ok c) (Ok d) → Emits (0 ∷ []) d b r b'
      → RootOrLabels t (Ok c) b (Ok r) b'
  unfolding name? name_form
  root_is {d} {r} {b} {b'} q m = either_way (found_first _ label_list.parse found)
    where
      k : d.at ≡ c.at + 2
      k = passed_place q

      put : Put name? name_form d b r b' []
      put = record {
        meaningful = m.meaningful ∙ sym (and-true d.meaningful);
        bounded = λ y. m.bounded;
        wrote = λ y. m.wrote;
      }

      found : Found (λ w. and_then (strip (46 ∷ 34 ∷ []) w) λ u r. parsed [] r) (Named 2 (Ok c) b (Ok r) b') t (Ok c)
          (Ok r)
      found = found_at (found_entry {P = λ n. n ≡ []} q [] refl) m.at m.room λ n e.
          record {
            holds = subst (λ (n : Name). Put name? name_form c b r b' n × (none? n ≡ eqb r.at (c.at + 2))) (sym e)
                (put_from q.keeps.alike.holds put, sym (eq-eqb r.at (c.at + 2) (m.at ∙ k)));
          }

  pub root_not : {r s : Reached} {n : ℕ} {b b' : List ℕ} → Passed (46 ∷ 34 ∷ []) t (Ok c) (Err n)
      → LabelsRead t (Ok c) b r b' → s ≡ furthest r n → RootOrLabels t (Ok c) b s b'
  root_not {r} {s} {n} {b} {b'} q x e = rw e (either_way
      (second_further _ label_list.parse (λ r. Named 2 (Ok c) b r b')
      (found_entry {P = λ (n : Name). Unit {0}} q [] tt) x λ a v. v))

-- ---- a name in quotes, which is the root if it has three octets
abbrev pub NameRead : List ℕ → Reached → List ℕ → Reached → List ℕ → Type 0
NameRead t c b r b' = Found name.parse (Named 3 c b r b') t c r

pub name_opened : {t : List ℕ} {c o r : Reached} {b b' : List ℕ} → Passed (34 ∷ []) t c o → RootOrLabels t o b r b'
    → NameRead t c b r b'
unfolding name
name_opened = found_quoted 2
