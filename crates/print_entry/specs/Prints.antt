-- What a writer of entries promises, and how one writer follows another.
use Rattle.std.specs.Prelude.{◌≡◌, refl, List, ◌++◌, ℕ, ◌+◌, ◌*◌, ◌≤◌, ◌<◌}
use Rattle.std.proofs.Common.{sym, ap, subst}
use Rattle.octets.specs.Writes.{Writes, writes_then}
use Rattle.octets.specs.declared.writer.Writer.{Writer}
use Rattle.records.specs.Read.{Entry, entry, bad}
use Rattle.records.specs.RecordLaws.{bad≢entry}

-- ---- entries with texts
-- the text of what was read
abbrev pub texts : {A : Type 0} → (A → List ℕ) → Entry A → Entry (List ℕ)
texts f (entry a next) = entry (f a) next
texts f (bad fault) = bad fault

-- a text, then the text of what is read from the offset after it
abbrev pub entry_then : Entry (List ℕ) → (ℕ → Entry (List ℕ)) → Entry (List ℕ)
entry_then (entry t next) f = texts (λ u. t ++ u) (f next)
entry_then (bad fault) f = bad fault

-- it has no fault
pub record Readable {A : Type 0} (e : Entry A) : Type 0 where
  pub value : A
  pub next : ℕ
  pub reads : e ≡ entry value next

pub readable_value : {A : Type 0} (f : A → List ℕ) (e : Entry A) → Readable (texts f e) → Readable e
readable_value f (entry a next) h = record { value = a; next = next; reads = refl }
readable_value f (bad fault) h = absurd (bad≢entry h.reads)

pub readable_first : (e : Entry (List ℕ)) (f : ℕ → Entry (List ℕ)) → Readable (entry_then e f) → Readable e
readable_first (entry t next) f h = record { value = t; next = next; reads = refl }
readable_first (bad fault) f h = absurd (bad≢entry h.reads)

pub readable≢bad : {A : Type 0} {e : Entry A} → Readable e → {fault : _} → e ≡ bad fault → ⊥
readable≢bad h q = absurd (bad≢entry (subst (λ x. x ≡ entry h.value h.next) q h.reads))

-- ---- what was written
-- The text of an entry, which has no fault, was written where the writer w was: it is then w', and the entry ends at
-- the offset `at`.
pub record Prints (e : Entry (List ℕ)) (w w' : Writer) (at : ℕ) : Type 0 where
  pub text : List ℕ
  pub reads : e ≡ entry text at
  pub wrote : Writes w text w'

module _ {w w₁ : Writer} {t : List ℕ} (v : Writes w t w₁) where
  pub prints_text : {at : ℕ} → Prints (entry t at) w w₁ at
  prints_text = record { text = t; reads = refl; wrote = v }

  module _ {e : Entry (List ℕ)} {w₂ : Writer} {at : ℕ} (p : Prints e w₁ w₂ at) where
    -- after a text
    pub prints_after : Prints (texts (λ u. t ++ u) e) w w₂ at
    prints_after = record {
      text = t ++ p.text;
      reads = ap (texts (λ u. t ++ u)) p.reads;
      wrote = writes_then v p.wrote;
    }

-- an entry is written, and then what is read from the offset after it
module _ (e : Entry (List ℕ)) (f : ℕ → Entry (List ℕ)) {w w₁ : Writer} {at : ℕ} (p : Prints e w w₁ at) where
  pub readable_then : Readable (entry_then e f) → Readable (f at)
  readable_then h =
      readable_value (λ u. p.text ++ u) (f at) (subst (λ (x : Entry (List ℕ)). Readable (entry_then x f)) p.reads h)

  pub prints_then : {w₂ : Writer} {next : ℕ} → Prints (f at) w₁ w₂ next → Prints (entry_then e f) w w₂ next
  prints_then {w₂} {next} q =
      subst (λ (x : Entry (List ℕ)). Prints (entry_then x f) w w₂ next) (sym p.reads) (prints_after p.wrote q)

-- ---- what is left to write
-- Where the writer w is the rest is left: it has no fault, and to write it is to write the whole where w₀ was.
pub record PrintLoop (whole : Entry (List ℕ)) (w₀ : Writer) (left : Entry (List ℕ)) (w : Writer) : Type 0 where
  pub readable : Readable left
  pub rest : (w' : Writer) (at : ℕ) → Prints left w w' at → Prints whole w₀ w' at

pub rest_all : {e : Entry (List ℕ)} {w : Writer} → Readable e → PrintLoop e w e w
rest_all h = record { readable = h; rest = λ w' at p. p }

module _ {whole : Entry (List ℕ)} {w₀ w : Writer} where
  -- by an equal rest
  pub rest_same : {e f : Entry (List ℕ)} → e ≡ f → PrintLoop whole w₀ e w → PrintLoop whole w₀ f w
  rest_same q r = subst (λ (x : Entry (List ℕ)). PrintLoop whole w₀ x w) q r

  -- a text of it is written
  pub rest-text : {e : Entry (List ℕ)} {t : List ℕ} {w₁ : Writer} → PrintLoop whole w₀ (texts (λ u. t ++ u) e) w
      → Writes w t w₁ → PrintLoop whole w₀ e w₁
  rest-text {e} {t} r v =
      record {
        readable = readable_value (λ u. t ++ u) e r.readable;
        rest = λ w' at q. r.rest w' at (prints_after v q);
      }

  -- an entry of it is written
  pub rest_then : {e : Entry (List ℕ)} (f : ℕ → Entry (List ℕ)) {w₁ : Writer} {at : ℕ}
      → PrintLoop whole w₀ (entry_then e f) w → Prints e w w₁ at → PrintLoop whole w₀ (f at) w₁
  rest_then {e} f r p = rest-text (rest_same (ap (λ (x : Entry (List ℕ)). entry_then x f) p.reads) r) p.wrote

  -- its last text is written
  pub rest_end : {t : List ℕ} {w₁ : Writer} {at : ℕ} → PrintLoop whole w₀ (entry t at) w → Writes w t w₁
      → Prints whole w₀ w₁ at
  rest_end {w₁ = w₁} {at = at} r v = r.rest w₁ at (prints_text v)

-- ---- bounds
-- an element from an offset on ends after it, within the message; an octet of it has less than 4,096 octets of text
abbrev pub Within : ℕ → ℕ → Writer → Writer → ℕ → Type 0
Within at next w w' end = (at < next) × (next ≤ end) × (w'.to + 4096 * at < w.to + 4096 * next)
