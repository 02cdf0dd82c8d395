-- What is written of a line that was put together in a buffer.
use Rattle.std.specs.Prelude.{◌≡◌, ◌⊎◌, ℕ, ◌-◌, ◌<◌, ◌≤◌, List, ◌++◌, length, take, drop, OnErr}
use Rattle.std.proofs.Common.{arith, Option, Result, Ok, Err, OnOk, inl, inr, sym, ap, ◌∙◌, subst, append_assoc, append-nil, length-append, length-drop, take_all, take-append-drop}
use Rattle.std.proofs.Math.Seq.{take-append_seam}
use Rattle.std.specs.IoError.{raw_os_error}
use Rattle.std.specs.Io.KnownBytes.{Appends}
use Rattle.std.specs.declared.io.ErrorKind.TheVariants.{Interrupted, Uncategorized}
use Rattle.octets.specs.Overlay.{first_written}
use Rattle.octets.specs.Writes.{Writes}
use Rattle.octets.specs.declared.writer.Writer.{Writer}
use Rattle.streams.specs.Parts.{AppendsPart}
use Rattle.std.specs.declared.io.Error.{Error}
use Rattle.streams.specs.Failures.{number_of, failure_line, Tells, TellsPart}

-- what a writer wrote from the first place on, with room for it, is what the buffer begins with once it is lent no more
pub begins_line : {w w' : Writer} {l b : List ℕ} {n : ℕ} → Writes w l w' → w.to ≡ 0 → b ≡ w'.out.now → n ≡ w'.to
    → n ≤ length w.out.now → take n b ≡ l
begins_line p e k m h = rw k (first_written (rw (e, ← m) at p.wrote) h)

-- a line that was written, whole or in part, said of the same octets
pub same_whole : {X E : Type 0} (r : Result X E) (a b : Option (List ℕ)) {xs ys : List ℕ} → xs ≡ ys
    → OnOk r (Appends a b xs) → OnOk r (Appends a b ys)
same_whole r a b e h = subst (λ l. OnOk r (Appends a b l)) e h

pub same_part : {X E : Type 0} (r : Result X E) (a b : Option (List ℕ)) {xs ys : List ℕ} → xs ≡ ys
    → OnErr r (AppendsPart a b xs) → OnErr r (AppendsPart a b ys)
same_part r a b e h = subst (λ l. OnErr r (AppendsPart a b l)) e h

-- whatever the answer, the line was written whole or in part
pub whole_or_part : {X E : Type 0} (r : Result X E) (a b : Option (List ℕ)) (xs : List ℕ) → OnOk r (Appends a b xs)
    → OnErr r (AppendsPart a b xs) → Appends a b xs ⊎ AppendsPart a b xs
whole_or_part (Ok x) a b xs h k = inl h
whole_or_part (Err x) a b xs h k = inr k

-- a line that was written tells of the failure
pub told : {X E : Type 0} (r : Result X E) (a b : Option (List ℕ)) (name call : List ℕ) (error : Error)
    (reason : List ℕ) {xs : List ℕ} → xs ≡ failure_line name call (number_of (raw_os_error error)) reason
    → OnOk r (Appends a b xs) → OnOk r (Tells a b name call error)
told (Ok x) a b name call error reason e h = (reason, subst (Appends a b) e h)
told (Err x) a b name call error reason e h = tt

pub told_part : {X E : Type 0} (r : Result X E) (a b : Option (List ℕ)) (name call : List ℕ) (error : Error)
    (reason : List ℕ) {xs : List ℕ} → xs ≡ failure_line name call (number_of (raw_os_error error)) reason
    → OnErr r (AppendsPart a b xs) → OnErr r (TellsPart a b name call error)
told_part (Ok x) a b name call error reason e h = tt
told_part (Err x) a b name call error reason e h = (reason, subst (AppendsPart a b) e h)

-- ---- octets of which the first are written
-- a part of the whole
pub written_part : (a b : Option (List ℕ)) (done rest whole : List ℕ) → done ++ rest ≡ whole → 0 < length rest
    → Appends a b done → AppendsPart a b whole
written_part a b done rest whole e h p = (
  length done,
  omega (arith, length-append done rest, ap length e),
  subst (Appends a b) (sym (take-append_seam done rest) ∙ ap (take (length done)) e) p,
)

-- the octets that a write took are before the rest
pub rest_after : (done rest whole : List ℕ) (n : ℕ) → done ++ rest ≡ whole
    → (done ++ take n rest) ++ take (length rest - n) (drop n rest) ≡ whole
rest_after done rest whole n e =
    rw (take_all (length rest - n) (drop n rest) (omega (arith, length-drop n rest)), append_assoc, take-append-drop) e

-- a write that took nothing adds nothing
pub none_more : (a b : Option (List ℕ)) (done rest : List ℕ) {n : ℕ} → n ≡ 0 → Appends a b (done ++ take n rest)
    → Appends a b done
none_more a b done rest e p = subst (Appends a b) (rw e (append-nil done)) p

-- on a failure
pub any_err : {X E : Type 0} (r : Result X E) (P : Type 0) → P → OnErr r P
any_err (Ok x) P h = tt
any_err (Err x) P h = h

-- an error that has no kind of its own is no interruption
pub other_kind : Uncategorized ≡ Interrupted → ⊥
other_kind e = grind arith
