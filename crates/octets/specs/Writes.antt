-- What is done with a writer, which is a buffer and the place of its next octet.
use Rattle.std.specs.Prelude.{◌≡◌, refl, List, [], ◌∷◌, ◌++◌, ℕ, ◌+◌, ◌≤◌, ◌<◌, length, take, get_or}
use Rattle.std.proofs.Common.{◌∙◌, subst, sym}
use Rattle.octets.specs.Lists.{each, ended}
use Rattle.octets.specs.Overlay.{Wrote, overlay-past, then, nothing, each_start, each_step, each_end, each-ended}
use Rattle.octets.specs.declared.writer.Writer.{Writer}

-- l is written where the writer w was: it is then w', over the same buffer
pub record Writes (w : Writer) (l : List ℕ) (w' : Writer) : Type 0 where
  pub same : w'.out.ghost_name ≡ w.out.ghost_name
  pub wrote : Wrote w.out.now w.to l w'.out.now w'.to

-- nothing
pub writes_none : (w : Writer) → Writes w [] w
writes_none w = record { same = refl; wrote = nothing w.out.now w.to }

-- one after another
pub writes_then : {w w₁ w₂ : Writer} {l m : List ℕ} → Writes w l w₁ → Writes w₁ m w₂ → Writes w (l ++ m) w₂
writes_then p q = record { same = q.same ∙ p.same; wrote = then p.wrote q.wrote }

-- the same octets, said in another way
pub writes_as : {w w' : Writer} {l m : List ℕ} → l ≡ m → Writes w l w' → Writes w m w'
writes_as {w} {w'} e p = subst (λ x. Writes w x w') e p

-- where there is no room, octets are counted and the buffer stays
pub writes_past : {w w' : Writer} (l : List ℕ) → length w.out.now ≤ w.to → w'.out.ghost_name ≡ w.out.ghost_name
    → w'.out.now ≡ w.out.now → w'.to ≡ w.to + length l → Writes w l w'
writes_past {w} l h s e p = record { same = s; wrote = record { place = p; text = e ∙ sym (overlay-past w.out.now w.to l h) } }

-- the texts of one element after another
module _ (f : ℕ → List ℕ) (w : Writer) (s : List ℕ) where
  pub writes_start : Writes w (each f (take 0 s)) w
  writes_start = record { same = refl; wrote = each_start f w.out.now w.to }

  pub writes_step : {w₁ w₂ : Writer} {i : ℕ} → i < length s → Writes w (each f (take i s)) w₁
      → Writes w₁ (f (get_or s i 0)) w₂ → Writes w (each f (take (i + 1) s)) w₂
  writes_step h p q = record { same = q.same ∙ p.same; wrote = each_step f s h p.wrote q.wrote }

  pub writes_end : {w₁ : Writer} {i : ℕ} → length s ≤ i → Writes w (each f (take i s)) w₁ → Writes w (each f s) w₁
  writes_end h p = record { same = p.same; wrote = each_end f s h p.wrote }

  -- and an octet after the last
  pub writes_ended : {w₁ w₂ : Writer} {i : ℕ} (stop : ℕ) → length s ≤ i → Writes w (each f (take i s)) w₁
      → Writes w₁ (stop ∷ []) w₂ → Writes w (ended f stop s) w₂
  writes_ended stop h p q = rw (each-ended f stop s) (writes_then (writes_end h p) q)

-- what is left to write, written where the writer w₁ is, makes the whole that is to be written where the writer w was
pub record Left (w : Writer) (whole : List ℕ) (w₁ : Writer) (left : List ℕ) : Type 0 where
  pub goes : (w₂ : Writer) → Writes w₁ left w₂ → Writes w whole w₂

-- before anything is written
pub left_start : (w : Writer) (l : List ℕ) → Left w l w l
left_start w l = record { goes = λ w₂ p. p }

-- the front of what is left is written
pub left_step : {w w₁ w₂ : Writer} {whole l m : List ℕ} → Left w whole w₁ (l ++ m) → Writes w₁ l w₂ → Left w whole w₂ m
left_step o p = record { goes = λ w₃ q. o.goes w₃ (writes_then p q) }

-- the same left, said in another way
pub left_as : {w w₁ : Writer} {whole l m : List ℕ} → l ≡ m → Left w whole w₁ l → Left w whole w₁ m
left_as {w} {w₁} {whole} e o = subst (λ x. Left w whole w₁ x) e o

-- the last of it is written
pub left_end : {w w₁ w₂ : Writer} {whole l : List ℕ} → Left w whole w₁ l → Writes w₁ l w₂ → Writes w whole w₂
left_end {w₂ = w₂} o p = o.goes w₂ p
