-- Readers one after another, and what they write.
use Rattle.std.specs.Prelude.{◌≡◌, refl, Bool, true, false, not, cond, ◌&&◌, List, [], ◌∷◌, ◌++◌, ℕ, ◌+◌, ◌≤◌, T, leb, length, drop, Ok, Err}
use Rattle.std.proofs.Common.{sym, ◌∙◌, subst, arith, le-leb, leb-false, leb→le, length-append}
use Rattle.std.proofs.Math.Bool.{and-true, and_assoc}
use Rattle.std.proofs.lemmas.Bool.{lt-leb, not-false}
use Rattle.octets.specs.Lists.{all, each, none?}
use Rattle.octets.specs.Bits.{is_true, and_left, and_right}
use Rattle.octets.specs.Parsed.{Parsed, parsed, and_then, then_then, strip, parsed≢failed}
use Rattle.octets.specs.Codec.{Codec, exact}
use Rattle.octets.specs.Overlay.{Wrote, then, nothing, wrote_before, each_append, each_single}
use Rattle.parse_tokens.specs.declared.Cursor.{Cursor}
use Rattle.parse_tokens.specs.Cursor.{Reached, rest, Between, between_as, between_then, Moves, moves_then}
use Rattle.parse_tokens.specs.Cursor.{moves_stays, halted, Alike, Keeps, Passed, Finds, stopped, taken, reads_as}
use Rattle.parse_tokens.specs.Cursor.{reads_at, reads_map}

-- ---- what is read, whatever is done with it
-- from c on it found what p finds there, and P of it
pub record Found {A : Type 0} (p : List ℕ → Parsed A) (P : A → Type 0) (t : List ℕ) (c r : Reached) : Type 0 where
  pub reads : Finds t P r (and_then (rest t c) (λ u w. p w))
  pub moves : Moves t c r

module _ {A : Type 0} {P : A → Type 0} {t : List ℕ} {p : List ℕ → Parsed A} where
  -- a reader that has stopped stays
  pub found_stays : {n : ℕ} → Found p P t (Err n) (Err n)
  found_stays = record { reads = stopped; moves = moves_stays }

  pub found_as : {Q : A → Type 0} {c r : Reached} → Found p P t c r → ((a : A) → P a → Q a) → Found p Q t c r
  found_as x h = record { reads = reads_as x.reads h; moves = x.moves }

  -- where the reader stops there is nothing to say of a value
  pub found_none : {Q : A → Type 0} {c : Reached} {n : ℕ} → Found p P t c (Err n) → Found p Q t c (Err n)
  found_none {Q} {c} {n} x = record { reads = go x.reads; moves = x.moves }
    where
      go : {o : Parsed A} → Finds t P (Err n) o → Finds t Q (Err n) o
      go stopped = stopped

  pub found_lit : {l : List ℕ} {c r s : Reached} → Passed l t c r → Found p P t r s
      → Found (λ w. and_then (strip l w) (λ u r. p r)) P t c s
  found_lit {l} {c} {r} {s} q y = record {
    reads = subst (Finds t P s) (then_then (rest t c) (λ u w. strip l w) (λ u w. p w)) (rw q.left at y.reads);
    moves = moves_then q.keeps.moves y.moves;
  }

  -- one thing after another: where the first stopped the reader stays there
  pub found_then : {B : Type 0} {R : B → Type 0} (k : A → List ℕ → Parsed B) {c r s : Reached} → Found p P t c r
      → Moves t r s → ((a : A) → P a → Finds t R s (and_then (rest t r) (λ u w. k a w)))
      → Found (λ w. and_then (p w) k) R t c s
  found_then {B} {R} k {c} {r} {s} x m f = record {
    reads = subst (Finds t R s) (then_then (rest t c) (λ u w. p w) k) (go r x.reads m f);
    moves = moves_then x.moves m;
  }
    where
      go : (r : Reached) {o : Parsed A} → Finds t P r o → Moves t r s
          → ((a : A) → P a → Finds t R s (and_then (rest t r) (λ u w. k a w))) → Finds t R s (and_then o k)
      go (Ok r) (taken {a = a} v) m f = f a v
      go (Err n) stopped m f = rw (halted m) stopped

  pub found_map : {B : Type 0} {Q : B → Type 0} {c r : Reached} (f : A → B) → ((a : A) → P a → Q (f a))
      → Found p P t c r → Found (λ w. and_then (p w) λ a r. parsed (f a) r) Q t c r
  found_map {B} {Q} {c} {r} f h x = record {
    reads = subst (Finds t Q r) (then_then (rest t c) (λ u w. p w) _) (reads_map f h x.reads);
    moves = x.moves;
  }

  pub found_behind : {l : List ℕ} {c r s : Reached} → Found p P t c r → Passed l t r s
      → Found (λ w. and_then (p w) λ a w. and_then (strip l w) λ u r. parsed a r) P t c s
  found_behind {l} {c} {r} {s} x q = found_then _ x q.keeps.moves λ a v.
      subst (Finds t P s) (then_then (rest t r) (λ u w. strip l w) _) (rw (← q.left) (by s v))
    where
      by : (s : Reached) {a : A} → P a → Finds t P s (and_then (rest t s) λ u r. parsed a r)
      by (Ok s) v = taken v
      by (Err n) v = stopped

  pub found_pair : {B : Type 0} {Q : B → Type 0} {q : List ℕ → Parsed B} {c r s : Reached} → Found p P t c r
      → Found q Q t r s
      → Found {A = A × B} (λ w. and_then (p w) λ a w. and_then (q w) λ b r. parsed (a, b) r) (λ u. P u.0
      × Q u.1) t c s
  found_pair {B} {Q} {q} {c} {r} {s} x y = found_then _ x y.moves λ a v.
      subst (Finds t (λ u. P u.0 × Q u.1) s) (then_then (rest t r) (λ u w. q w) _)
      (reads_map (λ b. (a, b)) (λ b w. (v, w)) y.reads)

-- one thing after another, where the first, k, decides what the second is
pub found_by : {A : Type 0} {B : A → Type 0} {p : List ℕ → Parsed A} {t : List ℕ} {c r s : Reached} (q : (a : A)
    → List ℕ
    → Parsed (B a)) (Q : (a : A) → B a → Type 0) (k : A)
    → Found p (λ a. k ≡ a) t c r → Found (q k) (Q k) t r s
    → Found {A = (a : A) × B a} (λ w. and_then (p w) λ a w. and_then (q a w) λ b r. parsed (a, b) r) (λ u. (k ≡ u.0)
    × Q u.0 u.1) t c s
found_by {A} {B} {p} {t} {c} {r} {s} q Q k x y = found_then _ x y.moves λ a e.
    subst (Finds t (λ (u : (a : A) × B a). (k ≡ u.0) × Q u.0 u.1) s) (then_then (rest t r) (λ u w. q a w) _)
    (reads_map (λ b. (a, b)) (λ b w. (e, w))
    (subst (λ (a : A). Finds t (Q a) s (and_then (rest t r) (λ u w. q a w))) e y.reads))

-- what a codec's parser finds is in the grammar
pub found_sound : {A : Type 0} {I : A → Type 0} {f : A → List ℕ} {F : List ℕ → Type 0} (p : Codec I f F) {P : A
    → Type 0} {t : List ℕ} {c r : Reached} → Found p.parse P t c r → Found p.parse (λ a. I a × P a) t c r
found_sound {A} {I} p {P} {t} {c} {r} x = record { reads = go c x.reads; moves = x.moves }
  where
    one : {o : Parsed A} {r : Reached} → ((a : A) (w : List ℕ) → o ≡ parsed a w → I a) → Finds t P r o
        → Finds t (λ a. I a × P a) r o
    one h stopped = stopped
    one h (taken {a = a} v) = taken (h a _ refl, v)

    go : (c : Reached) → Finds t P r (and_then (rest t c) (λ u w. p.parse w))
        → Finds t (λ a. I a × P a) r (and_then (rest t c) (λ u w. p.parse w))
    go (Ok c) y = one (λ a w e. (exact p (drop c.at t) a w e).0) y
    go (Err n) y = one (λ a w e. absurd (parsed≢failed (sym e))) y

-- ---- what is written of it
-- Of the value `a` read from c on: whether a message can have it is judged; where all is meant, the octets of `a` were
-- written from `c.to` on, unless they would go past the message's limit.
pub record Put {A : Type 0} (ok : A → Bool) (wire : A → List ℕ) (c : Cursor) (b : List ℕ) (r : Cursor) (b' : List ℕ)
    (a : A) : Type 0 where
  pub meaningful : r.meaningful ≡ (c.meaningful && ok a)
  pub bounded : T r.meaningful → r.bounded ≡ (c.bounded && leb (c.to + length (wire a)) 65535)
  pub wrote : T r.meaningful → T r.bounded → Wrote b c.to (wire a) b' r.to

-- the limit, of some octets and then of more
limit_then : (x y : Bool) (to to' m n : ℕ) → y ≡ (x && leb (to + m) 65535) → (T y → to' ≡ to + m)
    → (y && leb (to' + n) 65535) ≡ (x && leb (to + (m + n)) 65535)
limit_then x true to to' m n e d =
    let k : T (x && leb (to + m) 65535) = subst T e tt in
    let z : to' + n ≡ to + (m + n) = omega (arith, d tt) in
    rw (is_true x (and_left x _ k), z)
limit_then true false to to' m n e d =
    sym (lt-leb (to + (m + n)) 65535 (omega (arith, leb-false (to + m) 65535 (sym e))))
limit_then false false to to' m n e d = refl

-- one after another
pub put_then : {A B : Type 0} {ok : A → Bool} {ok' : B → Bool} {wire : A → List ℕ} {wire' : B
    → List ℕ} {c r s : Cursor} {b b' b'' : List ℕ} {x : A} {y : B} → Put ok wire c b r b' x → Put ok' wire' r b' s b'' y
    → Put {A = A × B} (λ u. ok u.0 && ok' u.1) (λ u. wire u.0 ++ wire' u.1) c b s b'' (x, y)
put_then {ok = ok} {ok' = ok'} {wire = wire} {wire' = wire'} {c = c} {r = r} {s = s} {x = x} {y = y} p q = record {
  meaningful = q.meaningful ∙ rw p.meaningful (and_assoc c.meaningful (ok x) (ok' y));
  bounded = λ k. q.bounded k
      ∙ rw (length-append (wire x) (wire' y))
      (limit_then c.bounded r.bounded c.to r.to (length (wire x)) (length (wire' y))
      (p.bounded (wrote_before k))
      (λ h. (p.wrote (wrote_before k) h).place));
  wrote = λ k h. then (p.wrote (wrote_before k) (and_left r.bounded _ (subst T (q.bounded k) h))) (q.wrote k h);
}
  where
    wrote_before : T s.meaningful → T r.meaningful
    wrote_before k = and_left r.meaningful (ok' y) (subst T q.meaningful k)

-- with nothing written before it; with nothing written after it; of the same value, seen another way
module _ {A : Type 0} {ok : A → Bool} {wire : A → List ℕ} {b b' : List ℕ} {c r s : Cursor} {a : A} where
  pub put_from : Alike c r → Put ok wire r b s b' a → Put ok wire c b s b' a
  put_from k h = record {
    meaningful = rw (← k.meaningful) h.meaningful;
    bounded = λ y. rw (← k.to, ← k.bounded) (h.bounded y);
    wrote = λ y z. rw (← k.to) (h.wrote y z);
  }

  pub put_to : Put ok wire c b r b' a → Alike r s → Put ok wire c b s b' a
  put_to h k = record {
    meaningful = rw k.meaningful h.meaningful;
    bounded = λ y. rw k.bounded (h.bounded (subst T k.meaningful y));
    wrote = λ y z. rw k.to (h.wrote (subst T k.meaningful y) (subst T k.bounded z));
  }

pub put_as : {A B : Type 0} {ok : A → Bool} {ok' : B → Bool} {wire : A → List ℕ} {wire' : B
    → List ℕ} {b b' : List ℕ} {c r : Cursor} {a : A} {a' : B} → ok' a' ≡ ok a → wire' a' ≡ wire a
    → Put ok wire c b r b' a → Put ok' wire' c b r b' a'
put_as e d h = record {
  meaningful = rw e h.meaningful;
  bounded = λ k. rw d (h.bounded k);
  wrote = λ k l. rw d (h.wrote k l);
}

-- a value with no octets
pub put_nothing : {A : Type 0} {ok : A → Bool} {wire : A → List ℕ} {t : List ℕ} {c r : Cursor} (b : List ℕ) {a : A}
    → Keeps t (Ok c) (Ok r) → ok a ≡ true → wire a ≡ [] → Put ok wire c b r b a
put_nothing {c = c} {r = r} b k e d =
    let z = k.alike.holds in
    record {
      meaningful = z.meaningful ∙ rw e (sym (and-true c.meaningful));
      bounded = λ y. z.bounded ∙ rw (d, le-leb (c.to + 0) 65535 (omega (arith, z.to, k.moves.within.0.room)))
          (sym (and-true c.bounded));
      wrote = λ y w. rw (d, z.to) (nothing b c.to);
    }

-- the list so far and one value more
pub all_last : {A : Type 0} (ok : A → Bool) (l : List A) (a : A) → all ok (l ++ (a ∷ [])) ≡ all ok l && ok a
all_last ok [] a = and-true (ok a)
all_last ok (x ∷ l) a = rw (all_last ok l a) (sym (and_assoc (ok x) (all ok l) (ok a)))

pub each_last : {A : Type 0} (wire : A → List ℕ) (l : List A) (a : A)
    → each wire (l ++ (a ∷ [])) ≡ each wire l ++ wire a
each_last wire l a = rw (each_append wire l (a ∷ []), each_single wire a)

pub none_last : {A : Type 0} (l : List A) (a : A) → none? (l ++ (a ∷ [])) ≡ false
none_last [] a = refl
none_last (x ∷ l) a = refl

pub put_last : {A : Type 0} {oks : List A → Bool} {ok : A → Bool} {wire : A
    → List ℕ} {c d r : Cursor} {b b₁ b₂ : List ℕ} (l : List A) (a : A)
    → oks (l ++ (a ∷ [])) ≡ (oks l && ok a) → Put oks (each wire) c b d b₁ l → Put ok wire d b₁ r b₂ a
    → Put oks (each wire) c b r b₂ (l ++ (a ∷ []))
put_last {wire = wire} l a e p q = put_as e (each_last wire l a) (put_then p q)

-- the same of a reader that may have stopped
abbrev pub Puts : {A : Type 0} (ok : A → Bool) (wire : A → List ℕ) (c : Reached) (b : List ℕ) (r : Reached)
    (b' : List ℕ) → A → Type 0
Puts ok wire c b r b' a = Between (λ c r. Put ok wire c b r b' a) c r

-- a reader that writes what it finds
abbrev pub Step : {A : Type 0} (ok : A → Bool) (wire : A → List ℕ) (p : List ℕ
    → Parsed A) (t : List ℕ) (c : Reached) (b : List ℕ) (r : Reached) (b' : List ℕ) → Type 0
Step ok wire p t c b r b' = Found p (Puts ok wire c b r b') t c r

module _ {A : Type 0} {ok : A → Bool} {wire : A → List ℕ} {p : List ℕ → Parsed A} {t b b' : List ℕ} where
  pub step_lit : {l : List ℕ} {c r s : Reached} → Passed l t c r → Step ok wire p t r b s b'
      → Step ok wire (λ w. and_then (strip l w) (λ u r. p r)) t c b s b'
  step_lit {l} {c} {r} {s} q y = found_lit q
      (found_as y λ a h. between_then q.keeps.alike h λ c r s k z. put_from k z)

  pub step_behind : {l : List ℕ} {c r s : Reached} → Step ok wire p t c b r b' → Passed l t r s
      → Step ok wire (λ w. and_then (p w) λ a w. and_then (strip l w) λ u r. parsed a r) t c b s b'
  step_behind {l} {c} {r} {s} y q = found_behind
      (found_as y λ a h. between_then h q.keeps.alike λ c r s z k. put_to z k) q

  pub step_on : {B : Type 0} {ok' : B → Bool} {wire' : B → List ℕ} {c r : Reached} (f : A → B)
      → ((a : A) → ok' (f a) ≡ ok a) → ((a : A) → wire' (f a) ≡ wire a) → Step ok wire p t c b r b'
      → Step ok' wire' (λ w. and_then (p w) λ a r. parsed (f a) r) t c b r b'
  step_on f e d = found_map f λ a h. between_as h λ c r z. put_as (e a) (d a) z

  pub step_pair : {B : Type 0} {ok' : B → Bool} {wire' : B → List ℕ} {q : List ℕ
      → Parsed B} {c r s : Reached} {b'' : List ℕ}
      → Step ok wire p t c b r b' → Step ok' wire' q t r b' s b''
      → Step {A = A × B} (λ u. ok u.0 && ok' u.1) (λ u. wire u.0 ++ wire' u.1)
      (λ w. and_then (p w) λ a w. and_then (q w) λ b r. parsed (a, b) r) t c b s b''
  step_pair x y = found_as (found_pair x y) λ u h. between_then h.0 h.1 λ c r s z w. put_then z w

-- ---- octets written and judgements made where nothing is read
-- places for n octets of the message were held, unless they go past its limit; then the place is as it was
pub record Held (n : ℕ) (c r : Cursor) : Type 0 where
  pub at : r.at ≡ c.at
  pub room : r.to ≤ 65535
  pub meaningful : r.meaningful ≡ c.meaningful
  pub bounded : r.bounded ≡ (c.bounded && leb (c.to + n) 65535)
  pub to : T r.bounded → r.to ≡ c.to + n
  pub place : r.to ≡ cond (leb (c.to + n) 65535) (c.to + n) c.to

-- what was held is within the limit
pub held_room : {n : ℕ} {c r : Cursor} → Held n c r → not r.bounded ≡ false → c.to + n ≤ 65535
held_room {n} {c} {r} h e =
    leb→le (c.to + n) 65535
    (and_right c.bounded _ (subst T h.bounded (subst T (sym (not-false r.bounded e)) tt)))

-- these octets were written, unless the message is past its limit; then the buffer is as it was
pub record Emits (xs : List ℕ) (c : Cursor) (b : List ℕ) (r : Cursor) (b' : List ℕ) : Type 0 where
  pub at : r.at ≡ c.at
  pub room : r.to ≤ 65535
  pub meaningful : r.meaningful ≡ c.meaningful
  pub bounded : r.bounded ≡ (c.bounded && leb (c.to + length xs) 65535)
  pub wrote : T r.bounded → Wrote b c.to xs b' r.to
  pub place : r.to ≡ cond (leb (c.to + length xs) 65535) (c.to + length xs) c.to
  pub stays : r.bounded ≡ false → b' ≡ b

-- `meaningful` only if this holds too
pub record Judged (ok : Bool) (c r : Cursor) : Type 0 where
  pub at : r.at ≡ c.at
  pub to : r.to ≡ c.to
  pub meaningful : r.meaningful ≡ (c.meaningful && ok)
  pub bounded : r.bounded ≡ c.bounded

-- what a reader found, with more done at the same place; from another cursor at the same place
pub found_at : {A : Type 0} {P Q : A → Type 0} {p : List ℕ → Parsed A} {t : List ℕ} {c : Reached} {r s : Cursor}
    → Found p P t c (Ok r) → s.at ≡ r.at → s.to ≤ 65535 → ((a : A) → P a → Q a) → Found p Q t c (Ok s)
found_at {t = t} {c = c} {r = r} {s = s} x e h f = record { reads = reads_at x.reads e f; moves = go c x.moves }
  where
    go : (c : Reached) → Moves t c (Ok r) → Moves t c (Ok s)
    go (Ok c) m = record {
      within = (record { inside = omega (arith, e, m.within.0.inside); room = h }, omega (arith, e, m.within.1));
    }
    go (Err n) m = absurd m.within

pub found_from : {A : Type 0} {P : A → Type 0} {p : List ℕ → Parsed A} {t : List ℕ} {c d : Cursor} {r : Reached}
    → d.at ≡ c.at → Found p P t (Ok d) r → Found p P t (Ok c) r
found_from {t = t} {c = c} {d = d} {r = r} e x = record { reads = rw (← e) x.reads; moves = go r x.moves }
  where
    go : (r : Reached) → Moves t (Ok d) r → Moves t (Ok c) r
    go (Ok r) m = record { within = (m.within.0, omega (arith, e, m.within.1)) }
    go (Err n) m = record { within = (omega (arith, e, m.within.0), m.within.1) }

-- a test that matters only where all is meant so far
and_when : (x y z : Bool) → (T x → y ≡ z) → (x && y) ≡ (x && z)
and_when true y z e = e tt
and_when false y z e = refl

pub judged_when : {k k' : Bool} {c r : Cursor} → Judged k c r → (T c.meaningful → k ≡ k') → Judged k' c r
judged_when {k} {k'} {c} j e =
    record {
      at = j.at;
      to = j.to;
      meaningful = j.meaningful ∙ and_when c.meaningful k k' e;
      bounded = j.bounded;
    }

pub put_when : {A : Type 0} {ok ok' : A → Bool} {wire : A → List ℕ} {c r : Cursor} {b b' : List ℕ} {a : A}
    → (T c.meaningful → ok a ≡ ok' a) → Put ok wire c b r b' a → Put ok' wire c b r b' a
put_when {ok = ok} {ok' = ok'} {c = c} {a = a} e p =
    record {
      meaningful = p.meaningful ∙ and_when c.meaningful (ok a) (ok' a) e;
      bounded = p.bounded;
      wrote = p.wrote;
    }

module _ {A : Type 0} {wire : A → List ℕ} {c : Cursor} {b : List ℕ} {a : A} where
  -- octets written before those of a value, in the places held for them
  pub put_before : (front : A → List ℕ) {ok : A → Bool} {n e : ℕ} {h r : Cursor} {b₁ b₂ : List ℕ} → Held n c h
      → length (front a) ≡ n → Put ok wire h b r b₁ a
      → (T r.meaningful → T r.bounded → Wrote b₁ c.to (front a) b₂ e)
      → Put ok (λ a. front a ++ wire a) c b r b₂ a
  put_before front {ok} {n} {e} {h} {r} {b₁} {b₂} k l p w = record {
    meaningful = p.meaningful ∙ rw k.meaningful;
    bounded = λ y. p.bounded y
        ∙ rw (length-append (front a) (wire a), l)
        (limit_then c.bounded h.bounded c.to h.to n (length (wire a)) k.bounded k.to);
    wrote = λ y z. wrote_before {n = h.to} (k.to (and_left h.bounded _ (subst T (p.bounded y) z)) ∙ rw l)
        (p.wrote y z)
        (w y z);
  }

  -- a value that is judged once more
  pub put_judged : {ok ok' : A → Bool} {k : Bool} {r s : Cursor} {b' : List ℕ} → Put ok wire c b r b' a → Judged k r s
      → ok' a ≡ (ok a && k) → Put ok' wire c b s b' a
  put_judged {ok} {ok'} {k} {r} {s} p j e = record {
    meaningful = j.meaningful ∙ rw (p.meaningful, e) (and_assoc c.meaningful (ok a) k);
    bounded = λ y. j.bounded ∙ p.bounded (earlier y);
    wrote = λ y z. let w = p.wrote (earlier y) (subst T j.bounded z) in
        record { place = j.to ∙ w.place; text = w.text };
  }
    where
      earlier : T s.meaningful → T r.meaningful
      earlier y = and_left r.meaningful k (subst T j.meaningful y)

  -- octets after those of a value
  pub put_emit : {ok : A → Bool} {r s : Cursor} {b' b'' xs : List ℕ} → Put ok wire c b r b' a → Emits xs r b' s b''
      → Put ok (λ a. wire a ++ xs) c b s b'' a
  put_emit {ok} {r} {s} {b'} {b''} {xs} p e =
      put_as {ok = λ (u : A × Unit {0}). ok u.0 && true} (sym (and-true (ok a))) refl (put_then p written)
    where
      written : Put {A = Unit {0}} (λ u. true) (λ u. xs) r b' s b'' tt
      written = record {
        meaningful = e.meaningful ∙ sym (and-true r.meaningful);
        bounded = λ k. e.bounded;
        wrote = λ k. e.wrote;
      }
