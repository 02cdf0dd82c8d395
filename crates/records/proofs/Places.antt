-- The place of every refusal is at most the message's length.
use mathlib.Core.Path.{◌≡◌, refl}
use mathlib.Core.Bool.{Bool, true, false, cond}
use mathlib.Core.Option.{Option, none, some, some-injective, none-ne-some}
use mathlib.Core.List.{List, [], ◌∷◌}
use Prim.Native.Nat.{ℕ, zero, suc, ◌+◌, ◌≤◌}
use native.Mathlib.Omega.{arith}
use borrow.Author.Tests.{ltb-false, leb-true}
use lib.Dec.{leb, ltb, eqb}
use lib.ListN.{length}
use Rattle.octets.specs.Fields.{be16_at, be32_at}
use Rattle.names.specs.Name.{Name, name_form}
use Rattle.names.specs.Walk.{part, message, rdata, Named, named, faulty, name_from, name_at}
use Rattle.names.specs.NameLaws.{read_sized}
use Rattle.names.proofs.Places.{by_test, Placed, name_placed}
use Rattle.records.specs.Layout.{Piece, fixed, name, layout_of, Laid, laid, misfit, before, pieces, rdata_at}
use Rattle.records.specs.Message.{Message, Record, form}
use Rattle.records.specs.Read.{Entry, entry, bad, first_cut, with_name_lem, with_fields_lem, filled, question_at}
use Rattle.records.specs.Read.{record_at, Reached, reached, stopped, section_at, section_from}
use Rattle.records.specs.Decode.{Decoded, accepted, refused, sections_of, message_read, after_reading, decode}
use Rattle.records.specs.RecordLaws.{fields-room}
use Rattle.records.proofs.MessageLaws.{section_step, section_stop}

-- ---- RDATA
abbrev LaidPlaced : List ℕ → Laid → Type 0
LaidPlaced s (laid d) = Unit {0}
LaidPlaced s (misfit fault) = fault.octet ≤ length s

before_placed : (s l : List ℕ) (w : Laid) → LaidPlaced s w → LaidPlaced s (before l w)
before_placed s l (laid d) h = tt
before_placed s l (misfit fault) h = h

module _ (jumps : Bool) (s : List ℕ) (start end : ℕ) (starts : start ≤ length s) (ends : end ≤ length s) where
  run_inside : (at : ℕ) → at ≤ end → cond jumps at 0 ≤ length s
  run_inside at h = by_test (λ (n : ℕ). n ≤ length s) jumps at 0 (λ e. omega arith) (λ e. omega arith)

  pieces_placed : (layout : List Piece) (at : ℕ) → at ≤ end → LaidPlaced s (pieces jumps layout s start end at)
  unfolding pieces
  pieces_placed [] at h = by_test (LaidPlaced s) (ltb at end) _ _ (λ p. omega arith) λ p. tt
  pieces_placed (fixed n ∷ layout) at h =
      by_test (LaidPlaced s) (ltb end (at + n)) _ _ (λ p. starts) λ p.
      before_placed s (part s at n) (pieces jumps layout s start end (at + n))
      (pieces_placed layout (at + n) (ltb-false end (at + n) p))
  pieces_placed (name ∷ layout) at h =
      go (name_from s (rdata start end) (cond jumps at 0) at) refl
      (name_placed s (rdata start end) (cond jumps at 0) at (starts, ends) (run_inside at h) (omega arith))
      (pieces_placed layout)
    where
      go : (w : Named) → name_from s (rdata start end) (cond jumps at 0) at ≡ w → Placed s w
          → ((next : ℕ) → next ≤ end → LaidPlaced s (pieces jumps layout s start end next))
          → LaidPlaced s (elim w as (λ x. Laid) [
            | named labels next ↦ before (name_form labels) (pieces jumps layout s start end next)
            | faulty fault ↦ misfit fault
          ])
      go (named labels next) p k f =
          let n = read_sized s (rdata start end) (cond jumps at 0) at labels next ends p in
          before_placed s (name_form labels) (pieces jumps layout s start end next) (f next n.3)
      go (faulty fault) p k f = k

rdata_placed : (jumps : Bool) (s : List ℕ) (type at size : ℕ) → at + size ≤ length s
    → LaidPlaced s (rdata_at jumps s type at size)
unfolding rdata_at
rdata_placed jumps s type at size h = by_test (LaidPlaced s) (eqb size 0) _ _ (λ p. tt) λ p. go (layout_of type)
  where
    go : (o : Option (List Piece)) → LaidPlaced s (elim o as (λ x. Laid) [
      | none ↦ laid (part s at size)
      | some layout ↦ pieces jumps layout s at (at + size) at
    ])
    go none = tt
    go (some layout) = pieces_placed jumps s at (at + size) (omega arith) h layout at (omega arith)

-- ---- entries: the octet at fault, or the offset after the entry
abbrev EntryPlaced : {A : Type 0} → List ℕ → Entry A → Type 0
EntryPlaced s (entry a next) = next ≤ length s
EntryPlaced s (bad fault) = fault.octet ≤ length s

-- the first field that is cut
cut_inside : (s : List ℕ) (at : ℕ) (widths : List ℕ) (i : ℕ) → at ≤ length s → first_cut s at widths ≡ some i
    → i ≤ length s
unfolding first_cut
cut_inside s at [] i h e = absurd (none-ne-some i e)
cut_inside s at (width ∷ widths) i h e = go (leb (at + width) (length s)) refl (cut_inside s (at + width) widths i) e
  where
    go : (b : Bool) → leb (at + width) (length s) ≡ b
        → (at + width ≤ length s → first_cut s (at + width) widths ≡ some i → i ≤ length s)
        → cond b (first_cut s (at + width) widths) (some at) ≡ some i → i ≤ length s
    go true p f e = f (leb-true (at + width) (length s) p) e
    go false p f e = let z = some-injective at i e in omega arith

module _ {A : Type 0} (s : List ℕ) where
  with_name_placed : (w : Named) (f : Name → ℕ → Entry A) → Placed s w
      → ((n : Name) (next : ℕ) → w ≡ named n next → EntryPlaced s (f n next)) → EntryPlaced s (with_name_lem w f)
  with_name_placed (named n next) f h g = g n next refl
  with_name_placed (faulty fault) f h g = h

  fields_placed : (at : ℕ) (widths : List ℕ) (e : Entry A) → at ≤ length s
      → (first_cut s at widths ≡ none → EntryPlaced s e) → EntryPlaced s (with_fields_lem (first_cut s at widths) e)
  fields_placed at widths e h f = go (first_cut s at widths) refl
    where
      go : (o : Option ℕ) → first_cut s at widths ≡ o → EntryPlaced s (with_fields_lem o e)
      go none p = f p
      go (some i) p = cut_inside s at widths i h p

filled_placed : (s : List ℕ) (made : List ℕ → Record) (next : ℕ) (w : Laid) → next ≤ length s → LaidPlaced s w
    → EntryPlaced s (filled made next w)
filled_placed s made next (laid d) h k = h
filled_placed s made next (misfit fault) h k = k

question_placed : (s : List ℕ) (at : ℕ) → at ≤ length s → EntryPlaced s (question_at s at)
unfolding question_at
question_placed s at h = with_name_placed s (name_at s message at) _ (name_placed s message at at tt h h) λ n next p.
    let k = read_sized s message at at n next (omega arith) p in
    fields_placed s next (2 ∷ 2 ∷ []) _ k.3 λ q. fields-room s next (2 ∷ 2 ∷ []) k.3 q

record_placed : (s : List ℕ) (at : ℕ) → at ≤ length s → EntryPlaced s (record_at s at)
unfolding record_at
record_placed s at h = with_name_placed s (name_at s message at) _ (name_placed s message at at tt h h) λ n next p.
    let k = read_sized s message at at n next (omega arith) p in
    fields_placed s next (2 ∷ 2 ∷ 4 ∷ 2 ∷ []) _ k.3 λ q.
    let room = fields-room s next (2 ∷ 2 ∷ 4 ∷ 2 ∷ []) k.3 q in
    by_test (EntryPlaced s) (ltb (length s) (next + 10 + be16_at s (next + 8))) _ _ (λ e. room) λ e.
    let fits = ltb-false (length s) (next + 10 + be16_at s (next + 8)) e in
    filled_placed s
    (λ octets. record {
      name = n;
      type = be16_at s next;
      class = be16_at s (next + 2);
      ttl = be32_at s (next + 4);
      rdata = octets;
    })
    (next + 10 + be16_at s (next + 8)) (rdata_at true s (be16_at s next) (next + 10) (be16_at s (next + 8))) fits
    (rdata_placed true s (be16_at s next) (next + 10) (be16_at s (next + 8)) fits)

-- ---- sections: the octet at fault, or where reading came to
abbrev Reaches : List ℕ → Reached → Type 0
Reaches s (reached at) = at ≤ length s
Reaches s (stopped at fault) = fault.octet ≤ length s

module _ {A : Type 0} (read : List ℕ → ℕ → Entry A) (s : List ℕ) (placed : (at : ℕ) → at ≤ length s
    → EntryPlaced s (read s at)) where
  section_placed : (n at : ℕ) → at ≤ length s → Reaches s (section_at read s n at).end
  unfolding section_at
  section_placed zero at h = h
  section_placed (suc n) at h = go (read s at) refl (placed at h) (section_placed n)
    where
      go : (w : Entry A) → read s at ≡ w → EntryPlaced s w
          → ((i : ℕ) → i ≤ length s → Reaches s (section_at read s n i).end)
          → Reaches s (section_at read s (suc n) at).end
      go (entry a next) e k f = rw (section_step read s n at a next e) (f next k)
      go (bad fault) e k f = rw (section_stop read s n at fault e) k

  from_placed : (n : ℕ) (w : Reached) → Reaches s w → Reaches s (section_from read s n w).end
  unfolding section_from
  from_placed n (reached at) h = section_placed n at h
  from_placed n (stopped at fault) h = h

sections_placed : (s : List ℕ) → 12 ≤ length s → Reaches s (sections_of s).additional.end
unfolding sections_of
sections_placed s h =
    let records = from_placed record_at s (record_placed s) in
    records (be16_at s 10) _ (records (be16_at s 8) _ (records (be16_at s 6) _
    (section_placed question_at s (question_placed s) (be16_at s 4) 12 h)))

-- ---- the message
abbrev pub PlacedIn : ℕ → Decoded → Type 0
PlacedIn size (accepted m) = Unit {0}
PlacedIn size (refused k p) = p ≤ size

ended_placed : (s : List ℕ) (m : Message) (w : Reached) → Reaches s w → PlacedIn (length s) (after_reading s m w)
ended_placed s m (reached at) h =
    by_test (PlacedIn (length s)) (ltb at (length s)) _ _ (λ e. h) λ e.
    by_test (PlacedIn (length s)) (ltb 65535 (length (form m))) _ _ (λ f. omega arith) λ f. tt
ended_placed s m (stopped at fault) h = h

pub decode_placed : (s : List ℕ) → PlacedIn (length s) (decode s)
unfolding decode
decode_placed s =
    by_test (PlacedIn (length s)) (ltb 65535 (length s)) _ _ (λ a. omega arith) λ a.
    by_test (PlacedIn (length s)) (ltb (length s) 12) _ _ (λ b. omega arith) λ b.
    ended_placed s (message_read s) (sections_of s).additional.end (sections_placed s (ltb-false (length s) 12 b))
