-- What the writers of the uncompressed form do: RDATA, entries, sections, the message.
use Rattle.std.specs.Prelude.{◌≡◌, Bool, true, false, cond, List, [], ◌++◌, eqb, take, Result, Ok, Err}
use Rattle.std.proofs.Math.Path.{refl}
use Rattle.std.proofs.Common.{ap, ◌∙◌, subst, append_assoc}
use Prim.Native.Nat.{ℕ, zero, suc, ◌+◌, ◌-◌, ◌*◌, ◌≤◌, ◌<◌}
use native.Mathlib.Omega.{arith}
use mir.Val.{bool_byte}
use Rattle.std.proofs.Math.ListN.{length}
use Rattle.octets.specs.Fields.{be16, be32, be16_at}
use Rattle.octets.specs.Overlay.{Wrote, then, nothing}
use Rattle.octets.specs.Overlay as overlay
use Rattle.octets.specs.Loops.{Continues, continues_step}
use Rattle.names.specs.Name.{Fault}
use Rattle.names.specs.Answer.{fault_of}
use Rattle.names.specs.declared.Fault.{Fault as FaultRead}
use Rattle.records.specs.Layout.{Laid, laid, misfit, rdata_at}
use Rattle.records.specs.Message.{Question, Record, question_form, record_form}
use Rattle.records.specs.Read.{Entry, entry, bad, filled, question_at, record_at}
use Rattle.records.specs.Parts.{RecordHead, record_head_at, with_rdata, with_rdata_lem, record_head, head_next}
use Rattle.records.specs.Answer.{question_fields, question_read, head_read, record_read}
use Rattle.records.proofs.Told.{entry_case, bad_case}
use Rattle.records.specs.declared.Question.{Question as QuestionRead}
use Rattle.records.specs.declared.Record.{Record as RecordRead}
use Rattle.octets.specs.Writes.{Writes}
use Rattle.octets.specs.declared.writer.Writer.{Writer}
use Rattle.rdata.specs.Written.{rdata_form, PutsRdata}
use Rattle.rdata.proofs.FormLaws.{rdata_whole, puts_told}
use Rattle.forms.specs.declared.Progress.{Progress}

-- ---- entries: their forms, with TYPE
pub record Part : Type 0 where
  pub form : List ℕ
  pub type : ℕ

abbrev pub mapped : {A B : Type 0} → (A → B) → Entry A → Entry B
mapped f (entry a next) = entry (f a) next
mapped f (bad fault) = bad fault

abbrev pub question_part : Question → Part
question_part q = record { form = question_form q; type = q.type }

abbrev pub record_part : Record → Part
record_part r = record { form = record_form r; type = r.type }

-- the question, or the record, at an offset
abbrev pub question_part_at : List ℕ → ℕ → Entry Part
question_part_at s at = mapped question_part (question_at s at)

abbrev pub record_part_at : List ℕ → ℕ → Entry Part
record_part_at s at = mapped record_part (record_at s at)

-- 1 for TYPE 41
abbrev pub opt_count : ℕ → ℕ
opt_count type = cond (eqb type 41) 1 0

-- the code's number of its test
pub opt_tested : (type : ℕ) {n : ℕ} → n ≡ bool_byte (eqb type 41) → n ≡ opt_count type
opt_tested type e = go (eqb type 41) e
  where
    go : (b : Bool) {n : ℕ} → n ≡ bool_byte b → n ≡ cond b 1 0
    go true e = e
    go false e = e

-- a writer's answer and what it left
pub data WritesEntry : Entry Part → List ℕ → ℕ → List ℕ → Result Progress FaultRead → Type 0 where
  puts : {p : Part} {next : ℕ} {b b' : List ℕ} {to r : ℕ} → Wrote b to p.form b' r
      → WritesEntry (entry p next) b to b' (Ok (record { at = next; to = r; opts = opt_count p.type }))
  faults : {fault : Fault} {b b' : List ℕ} {to : ℕ} → WritesEntry (bad fault) b to b' (Err (fault_of fault))

-- reading stays within the message, and an octet of it gives at most 255
pub record Reached (p : Progress) (end : ℕ) : Type 0 where
  pub inside : p.at ≤ end
  pub short : p.to ≤ 255 * p.at

-- ---- questions
module _ (s : List ℕ) (at : ℕ) {b b' : List ℕ} {to : ℕ} where
  pub question_faults : {f : FaultRead} → Err f ≡ question_read (question_at s at)
      → WritesEntry (question_part_at s at) b to b' (Err f)
  question_faults e =
      bad_case question_fields (λ f x. WritesEntry (mapped question_part x) b to b' (Err f)) (λ fault. faults) _ e

  pub question_puts : {q : QuestionRead} {n m : ℕ} → Ok q ≡ question_read (question_at s at)
      → Wrote b to (q.name ++ be16 q.rtype ++ be16 q.class) b' n → m ≡ bool_byte (eqb q.rtype 41)
      → WritesEntry (question_part_at s at) b to b' (Ok (record { at = q.next; to = n; opts = m }))
  unfolding question_form
  question_puts {n = n} {m = m} e w k =
      entry_case question_fields (λ q x. Wrote b to (q.name ++ be16 q.rtype ++ be16 q.class) b' n → m ≡ opt_count q.rtype
      → WritesEntry (mapped question_part x) b to b' (Ok (record { at = q.next; to = n; opts = m })))
      (λ q next w k. rw k (puts w)) _ e w (opt_tested _ k)

-- ---- records
-- the record by its head and RDATA
record_part_lem : (s : List ℕ) (at : ℕ) (k : RecordHead) (next : ℕ) → record_head_at s at ≡ entry k next
    → record_part_at s at ≡ mapped record_part
    (filled (with_rdata k) (k.rdata + k.rdlength) (rdata_at true s k.type k.rdata k.rdlength))
record_part_lem s at k next e =
    ap (mapped record_part) (record_head s at ∙ ap (with_rdata_lem s) e
    ∙ ap (λ (i : ℕ). filled (with_rdata k) i (rdata_at true s k.type k.rdata k.rdlength))
    (head_next s at k next e))

-- the record by what was read of it
abbrev pub laid_part : (List ℕ → Part) → ℕ → Laid → Entry Part
laid_part made next (laid octets) = entry (made octets) next
laid_part made next (misfit fault) = bad fault

abbrev pub with_fields : RecordRead → List ℕ → Part
with_fields h rdata = record {
  form = h.owner ++ be16 h.rtype ++ be16 h.class ++ be32 h.ttl ++ be16 (length rdata) ++ rdata;
  type = h.rtype;
}

unfoldable pub fields_part : List ℕ → RecordRead → Entry Part
fields_part s h = laid_part (with_fields h) (h.rdata + h.rdlength) (rdata_at true s h.rtype h.rdata h.rdlength)

fields_same : (s : List ℕ) (k : RecordHead)
    → mapped record_part (filled (with_rdata k) (k.rdata + k.rdlength)
    (rdata_at true s k.type k.rdata k.rdlength)) ≡ fields_part s (head_read k)
unfolding fields_part record_form
fields_same s k = go (rdata_at true s k.type k.rdata k.rdlength)
  where
    go : (x : Laid) → mapped record_part (filled (with_rdata k) (k.rdata + k.rdlength) x)
        ≡ laid_part (with_fields (head_read k)) (k.rdata + k.rdlength) x
    go (laid octets) = refl
    go (misfit fault) = refl

-- RDATA with its length before it, as a writer's answer says
pub data Sized : Laid → List ℕ → ℕ → List ℕ → Result ℕ FaultRead → Type 0 where
  sized : {d b b' : List ℕ} {to r : ℕ} → Wrote b to (be16 (length d) ++ d) b' r → Sized (laid d) b to b' (Ok r)
  misfits : {fault : Fault} {b b' : List ℕ} {to : ℕ} → Sized (misfit fault) b to b' (Err (fault_of fault))

pub record PutsSized (s : List ℕ) (h : RecordRead) (b : List ℕ) (to : ℕ) (b' : List ℕ) (r : Result ℕ FaultRead)
    : Type 0 where
  pub puts : Sized (rdata_at true s h.rtype h.rdata h.rdlength) b to b' r

module _ (s : List ℕ) (h : RecordRead) {b b₁ : List ℕ} {to : ℕ} {w w' : Writer} where
  -- RDATA has a fault
  pub sized_fault : {f : FaultRead} → PutsRdata (λ l. l) s h.rtype h.rdata h.rdlength w w' (Err f) → PutsSized s h b to b₁ (Err f)
  sized_fault {f} m = record { puts = go (puts_told s h.rtype h.rdata h.rdlength m) }
    where
      go : (x : (fault : Fault) × (rdata_at true s h.rtype h.rdata h.rdlength ≡ misfit fault) × (f ≡ fault_of fault))
          → Sized (rdata_at true s h.rtype h.rdata h.rdlength) b to b₁ (Err f)
      go (fault, x, y) = rw (x, y) misfits

  -- RDATA was written after the place of its length, and then its length
  pub sized_puts : {b₂ : List ℕ} {n n₁ : ℕ} → PutsRdata (λ l. l) s h.rtype h.rdata h.rdlength w w' (Ok tt)
      → (Writes w (rdata_form s h.rtype h.rdata h.rdlength) w' → Wrote b (to + 2) (rdata_form s h.rtype h.rdata h.rdlength) b₁ n)
      → Wrote b₁ to (be16 (n - (to + 2))) b₂ n₁
      → PutsSized s h b to b₂ (Ok n)
  sized_puts {b₂} {n} {n₁} m u z =
      let (d, o, v) = puts_told s h.rtype h.rdata h.rdlength m in
      let t : Wrote b (to + 2) d b₁ n = rw (rdata_whole s h.rtype h.rdata h.rdlength o) at (u m.wrote) in
      let e : n - (to + 2) ≡ length d = omega (arith, t.place) in
      record {
        puts = rw o (sized (overlay.wrote_before refl t (subst (λ (i : ℕ). Wrote b₁ to (be16 i) b₂ n₁) e z)));
      }

module _ (s : List ℕ) (h : RecordRead) {b b₁ b₂ b₃ : List ℕ} {to n₁ n₂ : ℕ}
    (p : Wrote b to (h.owner ++ be16 h.rtype ++ be16 h.class) b₁ n₁) (u : Wrote b₁ n₁ (be32 h.ttl) b₂ n₂) where
  fields_fault : {f : FaultRead} → PutsSized s h b₂ n₂ b₃ (Err f) → WritesEntry (fields_part s h) b to b₃ (Err f)
  unfolding fields_part
  fields_fault m = go m.puts
    where
      go : {x : Laid} {f : FaultRead} → Sized x b₂ n₂ b₃ (Err f)
          → WritesEntry (laid_part (with_fields h) (h.rdata + h.rdlength) x) b to b₃ (Err f)
      go misfits = faults

  fields_put : {n : ℕ} → PutsSized s h b₂ n₂ b₃ (Ok n)
      → WritesEntry (fields_part s h) b to b₃
      (Ok (record { at = h.rdata + h.rdlength; to = n; opts = opt_count h.rtype }))
  unfolding fields_part
  fields_put m = go m.puts
    where
      go : {x : Laid} {n : ℕ} → Sized x b₂ n₂ b₃ (Ok n)
          → WritesEntry (laid_part (with_fields h) (h.rdata + h.rdlength) x) b to b₃
          (Ok (record { at = h.rdata + h.rdlength; to = n; opts = opt_count h.rtype }))
      go {n = n} (sized {d = d} v) =
          let whole : Wrote b to (with_fields h d).form b₃ n =
          rw (append_assoc (h.owner ++ be16 h.rtype ++ be16 h.class ++ be32 h.ttl) (be16 (length d)) d)
          (then (then p u) v) in
          puts whole

module _ (s : List ℕ) (at : ℕ) {b : List ℕ} {to : ℕ} where
  pub record_faults : {b' : List ℕ} {f : FaultRead} → Err f ≡ record_read (record_head_at s at)
      → WritesEntry (record_part_at s at) b to b' (Err f)
  record_faults {b'} e =
      rw (record_head s at)
      (bad_case (λ h next. head_read h) (λ f x. WritesEntry (mapped record_part (with_rdata_lem s x)) b to b' (Err f))
      (λ fault. faults) _ e)

  module _ {h : RecordRead} (e : Ok h ≡ record_read (record_head_at s at)) where
    record_puts : {b' : List ℕ} {x : Result Progress FaultRead} → WritesEntry (fields_part s h) b to b' x
        → WritesEntry (record_part_at s at) b to b' x
    record_puts {b'} {x} w =
        entry_case (λ h next. head_read h) (λ h y. record_head_at s at ≡ y → WritesEntry (fields_part s h) b to b' x
        → WritesEntry (record_part_at s at) b to b' x)
        (λ k next q w. rw (record_part_lem s at k next q, fields_same s k) w) _ e refl w

    module _ {b₁ b₂ b₃ : List ℕ} {n₁ n₂ : ℕ} (p : Wrote b to (h.owner ++ be16 h.rtype ++ be16 h.class) b₁ n₁)
        (u : Wrote b₁ n₁ (be32 h.ttl) b₂ n₂) where
      -- RDATA has a fault
      pub record_misfits : {f : FaultRead} → PutsSized s h b₂ n₂ b₃ (Err f)
          → WritesEntry (record_part_at s at) b to b₃ (Err f)
      record_misfits m = record_puts (fields_fault s h p u m)

      -- the record was written
      pub record_put : {n m next : ℕ} → PutsSized s h b₂ n₂ b₃ (Ok n) → next ≡ h.rdata + h.rdlength
          → m ≡ bool_byte (eqb h.rtype 41)
          → WritesEntry (record_part_at s at) b to b₃ (Ok (record { at = next; to = n; opts = m }))
      record_put m q k = rw (q, opt_tested h.rtype k) (record_puts (fields_put s h p u m))

-- ---- sections
-- the forms of entries one after another, the offset after them and how many have TYPE 41; or the faulty entry's offset
-- with its fault
pub data Run : Type 0 where
  ran : List ℕ → ℕ → ℕ → Run
  halted : ℕ → Fault → Run

-- an entry before those that follow
abbrev pub part_then : Part → Run → Run
part_then p (ran l at n) = ran (p.form ++ l) at (opt_count p.type + n)
part_then p (halted at fault) = halted at fault

abbrev pub turned : (ℕ → Run) → ℕ → Entry Part → Run
turned f at (entry p next) = part_then p (f next)
turned f at (bad fault) = halted at fault

-- n entries from an offset on
unfoldable pub section_run : (List ℕ → ℕ → Entry Part) → List ℕ → ℕ → ℕ → Run
section_run part_at s zero at = ran [] at 0
section_run part_at s (suc n) at = turned (λ next. section_run part_at s n next) at (part_at s at)

-- a writer's answer and what it left, with k of TYPE 41 before
pub data WritesAfter (k : ℕ) : Run → List ℕ → ℕ → List ℕ → Result Progress FaultRead → Type 0 where
  runs : {l b b' : List ℕ} {at n m to r : ℕ} → m ≡ k + n → Wrote b to l b' r
      → WritesAfter k (ran l at n) b to b' (Ok (record { at = at; to = r; opts = m }))
  halts : {at : ℕ} {fault : Fault} {b b' : List ℕ} {to : ℕ}
      → WritesAfter k (halted at fault) b to b' (Err (fault_of fault))

abbrev pub WritesSection : Run → List ℕ → ℕ → List ℕ → Result Progress FaultRead → Type 0
WritesSection u b to b' r = WritesAfter 0 u b to b' r

-- an entry was written, and then those after it
run_after : {k j : ℕ} (p : Part) {u : Run} {b b₁ b₂ : List ℕ} {to n : ℕ} {r : Result Progress FaultRead}
    → Wrote b to p.form b₁ n
    → j ≡ k + opt_count p.type
    → WritesAfter j u b₁ n b₂ r → WritesAfter k (part_then p u) b to b₂ r
run_after p w e (runs {n = i} {m = m} {r = r} q v) =
    runs {n = opt_count p.type + i} {m = m} {r = r} (omega (arith, e, q)) (then w v)
run_after p w e halts = halts

runs_after : {x : Entry Part} (f : ℕ → Run) (at : ℕ) {b b₁ : List ℕ} {to k : ℕ} {p : Progress}
    → WritesEntry x b to b₁ (Ok p)
    → Continues (WritesAfter (k + p.opts) (f p.at) b₁ p.to) (WritesAfter k (turned f at x) b to)
runs_after f at (puts {p = p} w) = record { goes = λ b r d. run_after p w refl d }

runs_stop : {x : Entry Part} (f : ℕ → Run) (at : ℕ) {b b₁ : List ℕ} {to k : ℕ} {g : FaultRead}
    → WritesEntry x b to b₁ (Err g) → WritesAfter k (turned f at x) b to b₁ (Err g)
runs_stop f at faults = halts

section_next : (part_at : List ℕ → ℕ → Entry Part) (s : List ℕ) (left at : ℕ) → 0 < left
    → section_run part_at s left at ≡ turned (λ next. section_run part_at s (left - 1) next) at (part_at s at)
unfolding section_run
section_next part_at s zero at h = absurd (omega arith)
section_next part_at s (suc n) at h = let e : suc n - 1 ≡ n = omega arith in rw e

-- The loop over a section's entries, after the first i of `count`: to write those that are left is to write the whole
-- section.
pub record SectionLoop (part_at : List ℕ → ℕ → Entry Part) (s : List ℕ) (count at : ℕ) (b₀ : List ℕ) (to i : ℕ)
    (p : Progress) (b : List ℕ) : Type 0 where
  pub reached : Reached p (length s)
  pub few : p.opts ≤ i
  pub long : length b ≡ length b₀
  pub rest : Continues (WritesAfter p.opts (section_run part_at s (count - i) p.at) b p.to)
      (WritesSection (section_run part_at s count at) b₀ to)

module _ (part_at : List ℕ → ℕ → Entry Part) (s : List ℕ) (count at : ℕ) {b₀ : List ℕ} {to i : ℕ} {p : Progress}
    {b : List ℕ} (w : SectionLoop part_at s count at b₀ to i p b) where
  -- no entry is left
  pub section_ends : count ≤ i → WritesSection (section_run part_at s count at) b₀ to b (Ok p)
  unfolding section_run
  section_ends h =
      let z : count - i ≡ 0 = omega arith in
      w.rest.goes b (Ok p) (rw z (runs {l = []} {n = 0} {m = p.opts} {r = p.to} (omega arith) (nothing b p.to)))

  module _ (h : i < count) where
    left_next : section_run part_at s (count - i) p.at
        ≡ turned (λ next. section_run part_at s (count - (i + 1)) next) p.at (part_at s p.at)
    left_next =
        let e : count - i - 1 ≡ count - (i + 1) = omega arith in
        section_next part_at s (count - i) p.at (omega arith) ∙ rw e

    -- one more entry
    pub section_goes : {b₁ : List ℕ} {q : Progress} → WritesEntry (part_at s p.at) b p.to b₁ (Ok q) → Reached q (length s) → q.opts ≤ 1
        → length b₁ ≡ length b
        → SectionLoop part_at s count at b₀ to (i + 1)
        (record { at = q.at; to = q.to; opts = p.opts + q.opts }) b₁
    section_goes {b₁} e g k j =
        record {
          reached = record { inside = g.inside; short = g.short };
          few = omega (arith, w.few);
          long = j ∙ w.long;
          rest = continues_step w.rest (rw left_next
              (runs_after (λ next. section_run part_at s (count - (i + 1)) next) p.at e));
        }

    -- a faulty one
    pub section_stops : {b₁ : List ℕ} {g : FaultRead} → WritesEntry (part_at s p.at) b p.to b₁ (Err g)
        → WritesSection (section_run part_at s count at) b₀ to b₁ (Err g)
    section_stops {b₁} {g} e = w.rest.goes b₁ (Err g)
        (rw left_next (runs_stop (λ next. section_run part_at s (count - (i + 1)) next) p.at e))

-- ---- the message
-- octets before a run, and one run after another, of which the last one's count stays
abbrev pub octets_then : List ℕ → Run → Run
octets_then l (ran m at n) = ran (l ++ m) at n
octets_then l (halted at fault) = halted at fault

abbrev pub chained : Run → (ℕ → Run) → Run
chained (ran l at n) f = octets_then l (f at)
chained (halted at fault) f = halted at fault

-- the records of the section whose count is at an offset of the header
abbrev pub records_run : List ℕ → ℕ → ℕ → Run
records_run s count at = section_run record_part_at s (be16_at s count) at

-- the sections, by the header's counts
abbrev pub additional_run : List ℕ → ℕ → Run
additional_run s at = records_run s 10 at

abbrev pub authority_run : List ℕ → ℕ → Run
authority_run s at = chained (records_run s 8 at) (additional_run s)

abbrev pub answers_run : List ℕ → ℕ → Run
answers_run s at = chained (records_run s 6 at) (authority_run s)

abbrev pub questions_run : List ℕ → ℕ → Run
questions_run s at = chained (section_run question_part_at s (be16_at s 4) at) (answers_run s)

-- the header's octets, and the sections
unfoldable pub message_run : List ℕ → Run
message_run s = octets_then (take 12 s) (questions_run s 12)

-- octets were written, and then the rest
octets_join : {l b b₁ b₂ : List ℕ} {to n : ℕ} {u : Run} {r : Result Progress FaultRead} → Wrote b to l b₁ n
    → WritesSection u b₁ n b₂ r
    → WritesSection (octets_then l u) b to b₂ r
octets_join p (runs {n = i} {m = m} {r = r} q v) = runs {n = i} {m = m} {r = r} q (then p v)
octets_join p halts = halts

-- one section was written, and then the rest; or it stopped
pub runs_join : (f : ℕ → Run) {x : Run} {b b₁ b₂ : List ℕ} {to : ℕ} {p : Progress} {r : Result Progress FaultRead}
    → WritesSection x b to b₁ (Ok p) → WritesSection (f p.at) b₁ p.to b₂ r
    → WritesSection (chained x f) b to b₂ r
runs_join f (runs q v) d = octets_join v d

pub runs_halt : (f : ℕ → Run) {x : Run} {b b₁ : List ℕ} {to : ℕ} {g : FaultRead} → WritesSection x b to b₁ (Err g)
    → WritesSection (chained x f) b to b₁ (Err g)
runs_halt f halts = halts

-- the whole message
pub message_join : (s : List ℕ) {b b₁ b₂ : List ℕ} {n : ℕ} {r : Result Progress FaultRead} → Wrote b 0 (take 12 s) b₁ n
    → WritesSection (questions_run s 12) b₁ n b₂ r
    → WritesSection (message_run s) b 0 b₂ r
unfolding message_run
message_join s p d = octets_join p d
