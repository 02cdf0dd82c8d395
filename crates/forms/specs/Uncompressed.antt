-- What `uncompress` answers and leaves, and how it follows from the run over the message.
use Rattle.std.specs.Prelude.{◌≡◌, Bool, leb, ltb, eqb, length, get_or, Result, Ok, Err, IsErrAnd}
use Rattle.std.proofs.Math.Path.{refl, sym, ap, ap₂}
use Rattle.std.proofs.Common.{◌∙◌, subst, arith, Fits}
use Rattle.std.proofs.Math.Bool.{true, false, cond}
use mathlib.Core.List.{List, [], ◌∷◌, ◌++◌, append_assoc}
use Prim.Native.Nat.{ℕ, zero, suc, ◌+◌, ◌≤◌, ◌<◌}
use borrow.Author.Tests.{le-leb, lt-leb, le-ltb, lt-ltb}
use Rattle.std.proofs.Math.ListN.{take}
use Rattle.std.specs.Int.{w8}
use Rattle.octets.specs.Lists.{each, count}
use Rattle.octets.specs.Fields.{be16_at, empty}
use Rattle.octets.specs.Overlay.{Wrote, overlay_first}
use Rattle.octets.specs.Answer.{overwritten}
use Rattle.names.specs.Name.{Fault, refusal_number}
use Rattle.names.specs.Answer.{fault_of, refusal_of, number_same, octet_same}
use Rattle.names.specs.declared.Fault.{Fault as FaultRead}
use Rattle.records.specs.Message.{question_form, record_form, form, opt?}
use Rattle.records.specs.Read.{Entry, entry, bad, question_at, record_at, Reached, reached, stopped, section_at}
use Rattle.records.specs.Read.{section_from}
use Rattle.records.specs.Decode.{sections_of, message_read, Decoded, accepted, refused, decode}
use Rattle.records.proofs.MessageLaws.{section_step, section_stop}
use Rattle.records.proofs.Kept.{header_same}
use Rattle.forms.specs.Putting.{Part, mapped, question_part, record_part, record_part_at}
use Rattle.forms.specs.Putting.{Run, ran, halted, part_then, turned, section_run, WritesSection, runs, halts}
use Rattle.forms.specs.Putting.{octets_then, chained, message_run}
use Rattle.forms.specs.declared.Progress.{Progress}
use Rattle.forms.specs.declared.Form.{Form}
use Rattle.octets.specs.Calls.{number_of}
use Rattle.octets.specs.declared.Refusal.{Refusal}
use Rattle.octets.specs.declared.Rule.TheVariants as rule

-- ---- what is promised
-- the answer: the form's length and the number of TYPE 41 records of the additional section, or the refusal
abbrev pub Scans : Decoded → Result Form Refusal → Type 0
Scans (accepted m) r = r ≡ Ok (record { length = length (form m); opts = count opt? m.additional })
Scans (refused k place) r = (f : Refusal) × (r ≡ Err f) × (number_of f.rule ≡ k) × (f.place ≡ place)

-- an accepted message's form is written if it fits; else nothing changes
abbrev pub left_of : Decoded → List ℕ → List ℕ
left_of (accepted m) b = cond (leb (length (form m)) (length b)) (overwritten (form m) b) b
left_of (refused k place) b = b

-- the call on the message s and the buffer b answered r and left b'
pub record Uncompressed (s b : List ℕ) (r : Result Form Refusal) (b' : List ℕ) : Type 0 where
  pub answers : Scans (decode s) r
  pub leaves : b' ≡ left_of (decode s) b

-- ---- sections
-- the run of entries and of where reading came to
abbrev run_of : {A : Type 0} → (A → Part) → List A → Reached → Run
run_of f l (reached at) = ran (each (λ a. (f a).form) l) at (count (λ a. eqb (f a).type 41) l)
run_of f l (stopped at fault) = halted at fault

-- one entry more
run_more : {A : Type 0} (f : A → Part) (a : A) (l : List A) (w : Reached)
    → part_then (f a) (run_of f l w) ≡ run_of f (a ∷ l) w
unfolding each
run_more f a l (reached at) =
    ap (ran ((f a).form ++ each (λ b. (f b).form) l) at) (go (eqb (f a).type 41) (count (λ b. eqb (f b).type 41) l))
  where
    go : (b : Bool) (n : ℕ) → cond b 1 0 + n ≡ cond b (1 + n) n
    go true n = refl
    go false n = omega arith
run_more f a l (stopped at fault) = refl

module _ {A : Type 0} (read : List ℕ → ℕ → Entry A) (f : A → Part) (s : List ℕ) where
  section_run_lem : (n at : ℕ)
      → section_run (λ t i. mapped f (read t i)) s n at
      ≡ run_of f (section_at read s n at).entries (section_at read s n at).end
  unfolding section_run section_at each
  section_run_lem zero at = refl
  section_run_lem (suc n) at = go (read s at) refl (section_run_lem n)
    where
      go : (w : Entry A) → read s at ≡ w
          → ((i : ℕ) → section_run (λ t i. mapped f (read t i)) s n i ≡ run_of f
          (section_at read s n i).entries (section_at read s n i).end)
          → turned (λ i. section_run (λ t i. mapped f (read t i)) s n i) at (mapped f (read s at)) ≡ run_of f
          (section_at read s (suc n) at).entries (section_at read s (suc n) at).end
      go (entry a next) p g =
          rw (p, section_step read s n at a next p, g next)
          (run_more f a (section_at read s n next).entries (section_at read s n next).end)
      go (bad fault) p g = rw (p, section_stop read s n at fault p)

-- from where the section before came to
abbrev onto : Reached → (ℕ → Run) → Run
onto (reached at) f = f at
onto (stopped at fault) f = halted at fault

chained-run : {A : Type 0} (f : A → Part) (l : List A) (w : Reached) (g : ℕ → Run)
    → chained (run_of f l w) g ≡ octets_then (each (λ a. (f a).form) l) (onto w g)
chained-run f l (reached at) g = refl
chained-run f l (stopped at fault) g = refl

onto-chained : (w : Reached) (f : ℕ → Run) (g : ℕ → Run) → onto w (λ a. chained (f a) g) ≡ chained (onto w f) g
onto-chained (reached at) f g = refl
onto-chained (stopped at fault) f g = refl

module _ (s : List ℕ) where
  from_run : (n : ℕ) (w : Reached)
      → onto w (λ a. section_run record_part_at s n a) ≡ run_of record_part (section_from record_at s n w).entries
      (section_from record_at s n w).end
  unfolding section_from
  from_run n (reached at) = section_run_lem record_at record_part s n at
  from_run n (stopped at fault) = refl

  -- a section after another, and what follows it
  from_chained : (n : ℕ) (w : Reached) (g : ℕ → Run) → onto w (λ a. chained (section_run record_part_at s n a) g)
      ≡ octets_then (each record_form (section_from record_at s n w).entries) (onto (section_from record_at s n w).end g)
  from_chained n w g =
      onto-chained w (λ a. section_run record_part_at s n a) g ∙ ap (λ (u : Run). chained u g) (from_run n w)
      ∙ chained-run record_part (section_from record_at s n w).entries (section_from record_at s n w).end g

  -- the run over the message, by its sections
  message_run_lem : message_run s ≡ octets_then (take 12 s)
      (octets_then (each question_form (sections_of s).questions.entries)
      (octets_then (each record_form (sections_of s).answers.entries)
      (octets_then (each record_form (sections_of s).authority.entries)
      (run_of record_part (sections_of s).additional.entries (sections_of s).additional.end))))
  unfolding message_run sections_of
  message_run_lem =
      let q = section_at question_at s (be16_at s 4) 12 in
      let a = section_from record_at s (be16_at s 6) q.end in
      let n = section_from record_at s (be16_at s 8) a.end in
      let f₄ : ℕ → Run = λ i. section_run record_part_at s (be16_at s 10) i in
      let f₃ : ℕ → Run = λ i. chained (section_run record_part_at s (be16_at s 8) i) f₄ in
      let f₂ : ℕ → Run = λ i. chained (section_run record_part_at s (be16_at s 6) i) f₃ in
      ap (octets_then (take 12 s))
      (ap (λ (u : Run). chained u f₂) (section_run_lem question_at question_part s (be16_at s 4) 12)
      ∙ chained-run question_part q.entries q.end f₂
      ∙ ap (octets_then (each question_form q.entries))
      (from_chained (be16_at s 6) q.end f₃
      ∙ ap (octets_then (each record_form a.entries))
      (from_chained (be16_at s 8) a.end f₄
      ∙ ap (octets_then (each record_form n.entries)) (from_run (be16_at s 10) n.end))))

-- ---- the answer by the run
-- the parts of a run
abbrev text_of : Run → List ℕ
text_of (ran l at n) = l
text_of (halted at fault) = []

abbrev offset_of : Run → ℕ
offset_of (ran l at n) = at
offset_of (halted at fault) = at

abbrev count_of : Run → ℕ
count_of (ran l at n) = n
count_of (halted at fault) = 0

abbrev Ran : Run → Type 0
Ran (ran l at n) = Unit {0}
Ran (halted at fault) = ⊥

abbrev fault_in : Fault → Run → Fault
fault_in d (ran l at n) = d
fault_in d (halted at fault) = fault

halted≢ran : {at : ℕ} {fault : Fault} {l : List ℕ} {i n : ℕ} → halted at fault ≡ ran l i n → ⊥
halted≢ran e = subst Ran (sym e) tt

module _ (s : List ℕ) (small : length s ≤ 65535) (room : 12 ≤ length s) where
  decode_reached : (i : ℕ) → (sections_of s).additional.end ≡ reached i
      → decode s ≡ cond (ltb i (length s)) (refused 8 i)
      (cond (ltb 65535 (length (form (message_read s)))) (refused 9 0) (accepted (message_read s)))
  unfolding decode
  decode_reached i e = rw (le-ltb 65535 (length s) small, le-ltb (length s) 12 room, e, decode)

  decode_stopped : (i : ℕ) (fault : Fault) → (sections_of s).additional.end ≡ stopped i fault
      → decode s ≡ refused (refusal_number fault.kind) fault.octet
  unfolding decode
  decode_stopped i fault e =
      rw (le-ltb 65535 (length s) small, le-ltb (length s) 12 room, e, decode)

  -- the run where reading met a fault, and where it met none
  run_stopped : (j : ℕ) (fault : Fault) → (sections_of s).additional.end ≡ stopped j fault
      → message_run s ≡ halted j fault
  run_stopped j fault q = message_run_lem s ∙ rw q

  run_reached : (j : ℕ) → (sections_of s).additional.end ≡ reached j
      → message_run s ≡ ran (take 12 s
      ++ (each question_form (sections_of s).questions.entries ++ (each record_form (sections_of s).answers.entries
      ++ (each record_form (sections_of s).authority.entries ++ each record_form (sections_of s).additional.entries))))
      j (count opt? (sections_of s).additional.entries)
  run_reached j q = message_run_lem s ∙ rw q

  -- reading met a fault
  decode-halted : (i : ℕ) (fault : Fault) → message_run s ≡ halted i fault
      → decode s ≡ refused (refusal_number fault.kind) fault.octet
  decode-halted i fault e = go (sections_of s).additional.end refl
    where
      go : (w : Reached) → (sections_of s).additional.end ≡ w
          → decode s ≡ refused (refusal_number fault.kind) fault.octet
      go (reached j) q = absurd (halted≢ran (sym e ∙ run_reached j q))
      go (stopped j other) q =
          let same : halted i fault ≡ halted j other = sym e ∙ run_stopped j other q in
          decode_stopped j other q
          ∙ ap (λ (f : Fault). refused (refusal_number f.kind) f.octet) (sym (ap (fault_in fault) same))

  -- all entries were read
  pub record Whole (l : List ℕ) (i n : ℕ) : Type 0 where
    pub same : form (message_read s) ≡ l
    pub opts : count opt? (message_read s).additional ≡ n
    pub gives : decode s ≡ cond (ltb i (length s)) (refused 8 i)
        (cond (ltb 65535 (length l)) (refused 9 0) (accepted (message_read s)))

  decode_ran : ((j : ℕ) → get_or s j 0 < 256) → (l : List ℕ) (i n : ℕ) → message_run s ≡ ran l i n → Whole l i n
  unfolding form message_read
  decode_ran o l i n e = go (sections_of s).additional.end refl
    where
      go : (w : Reached) → (sections_of s).additional.end ≡ w → Whole l i n
      go (stopped j fault) q = absurd (halted≢ran (sym (run_stopped j fault q) ∙ e))
      go (reached j) q =
          let h = take 12 s in
          let a = each question_form (sections_of s).questions.entries in
          let b = each record_form (sections_of s).answers.entries in
          let c = each record_form (sections_of s).authority.entries in
          let d = each record_form (sections_of s).additional.entries in
          let run : ran l i n ≡ ran (h ++ (a ++ (b ++ (c ++ d)))) j (count opt? (sections_of s).additional.entries) =
          sym e ∙ run_reached j q in
          let text : form (message_read s) ≡ l =
          ap (λ (x : List ℕ). x ++ a ++ b ++ c ++ d) (header_same s j o room q)
          ∙ append_assoc (h ++ a ++ b) c d ∙ append_assoc (h ++ a) b (c ++ d) ∙ append_assoc h a (b ++ (c ++ d))
          ∙ sym (ap text_of run) in
          record {
            same = text;
            opts = sym (ap count_of run);
            gives = decode_reached j q
                ∙ ap₂ (λ (k : ℕ) (x : List ℕ). cond (ltb k (length s)) (refused 8 k)
                (cond (ltb 65535 (length x)) (refused 9 0) (accepted (message_read s)))) (sym (ap offset_of run)) text;
          }

-- ---- the call's ways
-- a refusal
refusing : {s b b' : List ℕ} (f : Refusal) (k place : ℕ) → decode s ≡ refused k place → number_of f.rule ≡ k
    → f.place ≡ place → b' ≡ b → Uncompressed s b (Err f) b'
refusing {b = b} f k place d p q e =
    record {
      answers = subst (λ (x : Decoded). Scans x (Err f)) (sym d) (f, refl, p, q);
      leaves = e ∙ ap (λ (x : Decoded). left_of x b) (sym d);
    }

module _ (s b : List ℕ) where
  -- over 65,535 octets
  pub too_long : 65535 < length s → Uncompressed s b (Err (record { rule = rule.LongMessage; place = 0 })) b
  unfolding decode
  too_long h = refusing _ 2 0 (rw (lt-ltb 65535 (length s) h)) refl refl refl

  -- under 12 octets
  pub too_short : length s ≤ 65535 → length s < 12 → Uncompressed s b (Err (record { rule = rule.Cut; place = 0 })) b
  unfolding decode
  too_short h k = refusing _ 1 0 (rw (le-ltb 65535 (length s) h, lt-ltb (length s) 12 k)) refl refl refl

-- what the answer of a run says
told_ran : {u : Run} {b b' : List ℕ} {to : ℕ} {p : Progress} → WritesSection u b to b' (Ok p)
    → (l : List ℕ) × (n : ℕ) × (u ≡ ran l p.at n) × (p.opts ≡ 0 + n) × Wrote b to l b' p.to
told_ran (runs {l = l} {n = n} q v) = (l, n, refl, q, v)

told_halted : {u : Run} {b b' : List ℕ} {to : ℕ} {g : FaultRead} → WritesSection u b to b' (Err g)
    → (at : ℕ) × (fault : Fault) × (u ≡ halted at fault) × (g ≡ fault_of fault)
told_halted (halts {at = at} {fault = fault}) = (at, fault, refl, refl)

-- a second run that is known to meet no fault
told_again : {u : Run} {b b' : List ℕ} {to : ℕ} {y : Result Progress FaultRead} (l : List ℕ) (at n : ℕ)
    → WritesSection u b to b' y
    → u ≡ ran l at n
    → (r : ℕ) × Wrote b to l b' r
told_again {b = b} {b' = b'} {to = to} l at n (runs {r = r} q v) e =
    (r, subst (λ (x : List ℕ). Wrote b to x b' r) (ap text_of e) v)
told_again l at n halts e = absurd (halted≢ran e)

-- The first run: over octets within the limits of size it leaves e of the empty part and answers x.
pub record FirstRun (s e : List ℕ) (x : Result Progress FaultRead) : Type 0 where
  pub ran : WritesSection (message_run s) [] 0 e x
  pub none : length e ≡ 0
  pub octets : (j : ℕ) → Fits w8 (get_or s j 0)
  pub small : length s ≤ 65535
  pub room : 12 ≤ length s

same_buffer : (b e : List ℕ) → length e ≡ 0 → e ++ b ≡ b
same_buffer b e h = ap (λ (y : List ℕ). y ++ b) (empty e h)

-- an entry has a fault
pub at_fault : (s b e : List ℕ) {g : FaultRead} → FirstRun s e (Err g) → (r : Result Form Refusal)
    → IsErrAnd r (λ f. f ≡ refusal_of g) → Uncompressed s b r (e ++ b)
at_fault s b e f (Ok x) h = absurd h
at_fault s b e f (Err x) q =
    let (at, fault, u, v) = told_halted f.ran in
    let same : x ≡ refusal_of (fault_of fault) = q ∙ ap refusal_of v in
    refusing x (refusal_number fault.kind) fault.octet (decode-halted s f.small f.room at fault u)
    (ap (λ (y : Refusal). number_of y.rule) same ∙ number_same fault.kind fault.octet)
    (ap (λ (y : Refusal). y.place) same ∙ octet_same fault.kind fault.octet) (same_buffer b e f.none)

module _ (s b e : List ℕ) {p : Progress} (f : FirstRun s e (Ok p)) where
  decoded : (l : List ℕ) (at n : ℕ) → message_run s ≡ ran l at n → Whole s f.small f.room l at n
  decoded l at n u = decode_ran s f.small f.room (λ j. (f.octets j).fits) l at n u

  -- octets after the last record
  pub left_over : p.at < length s → Uncompressed s b (Err (record { rule = rule.LeftOver; place = p.at })) (e ++ b)
  left_over h =
      let (l, n, u, v, w) = told_ran f.ran in
      refusing _ 8 p.at ((decoded l p.at n u).gives ∙ rw (lt-ltb p.at (length s) h)) refl refl (same_buffer b e f.none)

  module _ (h : length s ≤ p.at) where
    -- the form is over 65,535 octets
    pub form-long : 65535 < p.to → Uncompressed s b (Err (record { rule = rule.LongForm; place = 0 })) (e ++ b)
    form-long k =
        let (l, n, u, v, w) = told_ran f.ran in
        let i : 65535 < length l = omega (arith, w.place) in
        refusing _ 9 0 ((decoded l p.at n u).gives ∙ rw (le-ltb p.at (length s) h, lt-ltb 65535 (length l) i)) refl refl
        (same_buffer b e f.none)

    module _ (k : p.to ≤ 65535) where
      -- the message is accepted
      accepts : (l : List ℕ) (n : ℕ) → message_run s ≡ ran l p.at n → p.opts ≡ 0 + n → p.to ≡ 0 + length l
          → (b' : List ℕ)
          → b' ≡ cond (leb (length l) (length b)) (overwritten l b) b
          → Uncompressed s b (Ok (record { length = p.to; opts = p.opts })) b'
      accepts l n u v w b' g =
          let y = decoded l p.at n u in
          let i : length l ≤ 65535 = omega arith in
          let c : p.opts ≡ count opt? (message_read s).additional = omega (arith, y.opts) in
          let j : p.to ≡ length (form (message_read s)) = omega (arith, ap length y.same) in
          let d : decode s ≡ accepted (message_read s) =
          y.gives ∙ rw (le-ltb p.at (length s) h, le-ltb 65535 (length l) i) in
          record {
            answers = subst (λ (x : Decoded). Scans x (Ok (record { length = p.to; opts = p.opts }))) (sym d)
                (ap₂ (λ (m o : ℕ). Ok (made m o)) j c);
            leaves = g ∙ ap (λ (t : List ℕ). cond (leb (length t) (length b)) (overwritten t b) b) (sym y.same)
                ∙ ap (λ (t : Decoded). left_of t b) (sym d);
          }
        where
          made : ℕ → ℕ → Form
          made m o = record { length = m; opts = o }

      -- it does not fit the buffer
      pub no_room_lem : length (e ++ b) < p.to
          → Uncompressed s b (Ok (record { length = p.to; opts = p.opts })) (e ++ b)
      no_room_lem i =
          let (l, n, u, v, w) = told_ran f.ran in
          let same = same_buffer b e f.none in
          let j : length (e ++ b) ≡ length b = ap length same in
          accepts l n u v w.place (e ++ b) (same
          ∙ rw (lt-leb (length l) (length b) (omega (arith, w.place))))

      -- it fits, and is written by the second run
      pub with_room : {b' : List ℕ} {y : Result Progress FaultRead} → WritesSection (message_run s) (e ++ b) 0 b' y
          → p.to ≤ length (e ++ b) → Uncompressed s b (Ok (record { length = p.to; opts = p.opts })) b'
      with_room {b'} c i =
          let same = same_buffer b e f.none in
          let (l, n, u, v, w) = told_ran f.ran in
          let (r, t) = told_again l p.at n (rw same at c) u in
          let j : length (e ++ b) ≡ length b = ap length same in
          let o : length l ≤ length b = omega (arith, w.place) in
          accepts l n u v w.place b' (t.text ∙ overlay_first b l o ∙ rw (le-leb (length l) (length b) o))
