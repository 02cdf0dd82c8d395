-- The ways of the writers of records: as they are, or as an EDNS element.
use mathlib.Core.Path.{◌≡◌, refl, sym, ap, ◌∙◌, subst}
use mathlib.Core.Bool.{Bool, true, false, ◌&&◌, cond, false≢true}
use mathlib.Core.Option.{Option, none, some}
use mathlib.Core.List.{List, [], ◌∷◌, ◌++◌, append_assoc}
use Prim.Native.Nat.{ℕ, ◌+◌}
use native.Mathlib.Omega.{arith}
use borrow.Author.Tests.{ne_eqb, eqb-true}
use lib.Dec.{eqb}
use lib.ListN.{length, length-append}
use Rattle.octets.specs.Lists.{ascii, each, none?, lookup}
use Rattle.octets.specs.Overlay.{each-ended}
use Rattle.octets.specs.Writes.{Writes, writes_then}
use Rattle.octets.specs.declared.writer.Writer.{Writer}
use Rattle.octets.specs.Hexadecimal.{hex_octet, hex_text}
use Rattle.names.specs.Name.{Name, name_form}
use Rattle.names.specs.Walk.{part}
use Rattle.names.specs.NameLaws.{Sized, form_some}
use Rattle.names.specs.declared.Fault.{Fault as FaultRead}
use Rattle.records.specs.Layout.{laid, misfit, layouts, layout_of, rdata_at}
use Rattle.records.specs.Layout as layout
use Rattle.records.specs.Message.{Record, opt?}
use Rattle.records.specs.Read.{Entry, entry, bad, record_at, filled}
use Rattle.records.specs.RecordLaws.{laid_octets, misfit≢laid}
use Rattle.records.specs.Parts.{RecordHead, record_head_at, with_rdata, with_rdata_lem, record_head, head_next}
use Rattle.records.specs.Answer.{head_read, record_read}
use Rattle.records.proofs.Told.{entry_case}
use Rattle.records.specs.declared.Record.{Record as Head}
use Rattle.std.specs.Prelude.{Result, Ok}
use Rattle.rdata.specs.Written.{PutsRdata}
use Rattle.rdata.proofs.FormLaws.{rdata_whole}
use Rattle.spelling.specs.Spelling.{signed, signed_text}
use Rattle.edns.specs.Edns.{Edns, edns_of}
use Rattle.edns.specs.Element.{shows_edns, element_text, shows_edns_lem, element-text}
use Rattle.json_text.proofs.ViewLaws.{entry_of}
use Rattle.json_text.specs.Document.{record_text, item_text}
use Rattle.json_text.specs.Text.{record_item, item}
use Rattle.print_entry.specs.Prints.{texts, Readable, readable_value, readable≢bad, Prints, prints_text}
use Rattle.print_entry.specs.Elements.{fields_text, hex_of_rdata, rdata_text, ordinary_text, rcode_of, rdata_of, shows?}
use Rattle.print_entry.specs.Elements.{shown_text, entry_text, record_text_at}
use Rattle.print_entry.proofs.Writing.{front-text, head_sized}

-- ---- a record as it is
-- the quote after RDATA and the brace after it are one text
quote_brace : (t d : List ℕ) → t ++ hex_text d ++ ascii "}" ≡ t ++ ascii "\"" ++ each hex_octet d ++ ascii "\"}"
unfolding hex_text
quote_brace t d = rw (each-ended hex_octet 34 d) (simp append_assoc)

pub ordinary_prints : (s : List ℕ) (h : Head) {w w₀ w₁ w₂ w₃ : Writer} {r : Result (Unit {0}) FaultRead}
    → Readable (ordinary_text s h) → Writes w (fields_text h.owner h.rtype h.class h.ttl) w₀ → Writes w₀ (34 ∷ []) w₁
    → PutsRdata (each hex_octet) s h.rtype h.rdata h.rdlength w₁ w₂ r → Writes w₂ (34 ∷ 125 ∷ []) w₃
    → Prints (ordinary_text s h) w w₃ (h.rdata + h.rdlength)
unfolding ordinary_text rdata_text
ordinary_prints s h {w} {w₀} {w₁} {w₂} {w₃} k p o q v = go (rdata_at true s h.rtype h.rdata h.rdlength) refl
  where
    fields : List ℕ
    fields = fields_text h.owner h.rtype h.class h.ttl

    go : (x : layout.Laid) → rdata_at true s h.rtype h.rdata h.rdlength ≡ x
        → Prints (ordinary_text s h) w w₃ (h.rdata + h.rdlength)
    go (laid d) u =
        let rdata = rw (rdata_whole s h.rtype h.rdata h.rdlength u) at q.wrote in
        record {
          text = fields ++ hex_text d ++ ascii "}";
          reads =
              ap (λ (x : layout.Laid). texts (λ t. fields ++ t ++ ascii "}") (hex_of_rdata (h.rdata + h.rdlength) x))
              u;
          wrote = rw (quote_brace fields d) (writes_then (writes_then (writes_then p o) rdata) v);
        }
    go (misfit fault) u =
        absurd (readable≢bad
        (readable_value (λ t. fields ++ t ++ ascii "}") (rdata_text s h.rtype h.rdata h.rdlength) k)
        (ap (hex_of_rdata (h.rdata + h.rdlength)) u))

-- the texts of a record's parts
record_parts : (r : Record) → Sized r.name
    → record_text (record_item r) ≡ fields_text (name_form r.name) r.type r.class r.ttl ++ hex_text r.rdata
    ++ ascii "}"
unfolding record_text record_item fields_text
record_parts r h =
    ap (λ (t : List ℕ). t ++ ascii ",\"TTL\":" ++ signed_text (signed r.ttl) ++ ascii ",\"RDATAHEX\":"
    ++ hex_text r.rdata ++ ascii "}") (front-text r.name r.type r.class h)

ordinary_text_lem : (s : List ℕ) (k : RecordHead) → Sized k.name
    → ordinary_text s (head_read k) ≡ texts (λ (r : Record). record_text (record_item r))
    (with_rdata_lem s (entry k (k.rdata + k.rdlength)))
unfolding ordinary_text rdata_text
ordinary_text_lem s k h = go (rdata_at true s k.type k.rdata k.rdlength)
  where
    go : (w : layout.Laid)
        → texts (λ t. fields_text (name_form k.name) k.type k.class k.ttl ++ t ++ ascii "}")
        (hex_of_rdata (k.rdata + k.rdlength) w)
        ≡ texts (λ (r : Record). record_text (record_item r)) (filled (with_rdata k) (k.rdata + k.rdlength) w)
    go (laid d) = ap (λ (t : List ℕ). entry t (k.rdata + k.rdlength)) (sym (record_parts (with_rdata k d) h))
    go (misfit fault) = refl

-- ---- a record as an element or as it is
-- an EDNS element exactly if it is one
abbrev shown? : ℕ → Bool → Record → Bool
shown? rcode lone r = lone && opt? r && shows_edns (none? r.name) r.ttl rcode r.rdata

entry_text_lem : (rcode : ℕ) (lone : Bool) (r : Record)
    → entry_text rcode lone r ≡ cond (shown? rcode lone r) (element_text r.class r.ttl rcode r.rdata)
    (record_text (record_item r))
unfolding entry_text item_text item
entry_text_lem rcode lone r = go lone (opt? r) refl (edns_of rcode r) refl
  where
    go : (lone : Bool) (t : Bool) → opt? r ≡ t → (o : Option Edns) → edns_of rcode r ≡ o
        → item_text (item rcode (entry_of rcode lone r)) ≡ cond (shown? rcode lone r)
        (element_text r.class r.ttl rcode r.rdata) (record_text (record_item r))
    go false t p o q = refl
    go true false p o q = rw p
    go true true p none q = rw (p, shows_edns_lem rcode r, q)
    go true true p (some e) q = rw (p, shows_edns_lem rcode r, q) (sym (element-text rcode r e q))

-- RDATA of TYPE 41 is carried as it is
opt_rdata : (s : List ℕ) (at size : ℕ) → rdata_at true s 41 at size ≡ laid (part s at size)
unfolding rdata_at layout_of layouts lookup
opt_rdata s at size = go (eqb size 0) refl
  where
    go : (b : Bool) → eqb size 0 ≡ b → cond b (laid []) (laid (part s at size)) ≡ laid (part s at size)
    go true e = rw (eqb-true size 0 e)
    go false e = refl

-- a form of one octet is the root's
root_form : (n : Name) → eqb (length (name_form n)) 1 ≡ none? n
unfolding name_form
root_form [] = refl
root_form (l ∷ n) = ne_eqb _ 1 λ e. some_octet n e
  where
    some_octet : (n : Name) → length (length l ∷ (l ++ name_form n)) ≡ 1 → ⊥
    some_octet n e = let a = length-append l (name_form n) in let b =
        form_some n in let c : length (length l ∷ (l ++ name_form n)) ≡ 1 + length (l ++ name_form n) =
        omega arith in omega arith

-- the record of a head, where RDATA is read
module _ (s : List ℕ) (k : RecordHead) (lone : Bool) where
  -- what the code tests is what the definition tests
  head_shows : (d : List ℕ) → rdata_at true s k.type k.rdata k.rdlength ≡ laid d
      → shows? s (head_read k) lone ≡ shown? (rcode_of s) lone (with_rdata k d)
  unfolding shows?
  head_shows d e = go lone (eqb k.type 41) refl
    where
      go : (lone : Bool) (t : Bool) → eqb k.type 41 ≡ t
          → shows? s (head_read k) lone ≡ shown? (rcode_of s) lone (with_rdata k d)
      go false t p = refl
      go true false p = rw p
      go true true p =
          let f : rdata_at true s 41 k.rdata k.rdlength ≡ laid d =
          subst (λ (n : ℕ). rdata_at true s n k.rdata k.rdlength ≡ laid d) (eqb-true k.type 41 p) e in
          let g : part s k.rdata k.rdlength ≡ d = laid_octets (sym (opt_rdata s k.rdata k.rdlength) ∙ f) in
          rw (p, root_form k.name, g)

  -- where it is no element, its text is that of the record as it is
  as_is : (w : layout.Laid) → rdata_at true s k.type k.rdata k.rdlength ≡ w → shows? s (head_read k) lone ≡ false
      → texts (entry_text (rcode_of s) lone) (filled (with_rdata k) (k.rdata + k.rdlength) w) ≡ texts
      (λ (r : Record). record_text (record_item r)) (filled (with_rdata k) (k.rdata + k.rdlength) w)
  as_is (laid d) p q = ap (λ (t : List ℕ). entry t (k.rdata + k.rdlength))
      (entry_text_lem (rcode_of s) lone (with_rdata k d) ∙ rw (← (head_shows d p), q))
  as_is (misfit fault) p q = refl

  -- where it is one, its text is the element's
  as_element : (w : layout.Laid) → rdata_at true s k.type k.rdata k.rdlength ≡ w
      → w ≡ laid (rdata_of s (head_read k)) → shows? s (head_read k) lone ≡ true
      → texts (entry_text (rcode_of s) lone) (filled (with_rdata k) (k.rdata + k.rdlength) w) ≡ entry
      (element_text k.class k.ttl (rcode_of s) (rdata_of s (head_read k))) (k.rdata + k.rdlength)
  as_element (laid d) p g q =
      ap (λ (t : List ℕ). entry t (k.rdata + k.rdlength))
      (entry_text_lem (rcode_of s) lone (with_rdata k d)
      ∙ rw (← (head_shows d p), q) (ap (element_text k.class k.ttl (rcode_of s)) (laid_octets g)))
  as_element (misfit fault) p g q = absurd (misfit≢laid g)

-- ---- what follows of the test
both_true : (a b : Bool) → (a && b) ≡ true → (a ≡ true) × (b ≡ true)
both_true true b e = (refl, e)
both_true false b e = absurd (false≢true e)

shows_root : (root : Bool) (ttl rcode : ℕ) (d : List ℕ) → shows_edns root ttl rcode d ≡ true
    → shows_edns true ttl rcode d ≡ true
unfolding shows_edns
shows_root true ttl rcode d e = e
shows_root false ttl rcode d e = absurd (false≢true e)

-- the record is of TYPE 41, and is an element
pub element_shows : (s : List ℕ) (h : Head) (lone : Bool) {t : Bool} {rcode : ℕ} → t ≡ shows? s h lone
    → t ≡ true
    → rcode ≡ rcode_of s → shows_edns true h.ttl rcode (rdata_of s h) ≡ true
unfolding shows?
element_shows s h lone p q e =
    rw e (shows_root (eqb (length h.owner) 1) h.ttl (rcode_of s) (rdata_of s h)
    (both_true (lone && eqb h.rtype 41) _ (sym p ∙ q)).1)

element_kind : (s : List ℕ) (h : Head) (lone : Bool) → shows? s h lone ≡ true → h.rtype ≡ 41
unfolding shows?
element_kind s h lone e =
    let p = (both_true (lone && eqb h.rtype 41) _ e).0 in
    eqb-true h.rtype 41 (both_true lone (eqb h.rtype 41) p).1

element_rdata : (s : List ℕ) (k : RecordHead) → k.type ≡ 41
    → rdata_at true s k.type k.rdata k.rdlength ≡ laid (rdata_of s (head_read k))
element_rdata s k e = ap (λ (n : ℕ). rdata_at true s n k.rdata k.rdlength) e ∙ opt_rdata s k.rdata k.rdlength

-- the test as the code makes it
pub shows_not : (s : List ℕ) (h : Head) (lone : Bool) → (lone && eqb h.rtype 41) ≡ false → false ≡ shows? s h lone
unfolding shows?
shows_not s h lone e = rw e

pub shows_is : (s : List ℕ) (h : Head) (lone : Bool) {r : Bool} → (lone && eqb h.rtype 41) ≡ true
    → r ≡ shows_edns (eqb (length h.owner) 1) h.ttl (rcode_of s) (rdata_of s h) → r ≡ shows? s h lone
unfolding shows?
shows_is s h lone e p = rw e p

-- ---- records
-- the record's text by its head and RDATA
record_text_lem : (lone : Bool) (s : List ℕ) (at : ℕ) (k : RecordHead) (next : ℕ) → record_head_at s at ≡ entry k next
    → record_text_at lone s at ≡ texts (entry_text (rcode_of s) lone)
    (filled (with_rdata k) (k.rdata + k.rdlength) (rdata_at true s k.type k.rdata k.rdlength))
unfolding record_text_at
record_text_lem lone s at k next e =
    ap (texts (entry_text (rcode_of s) lone))
    (record_head s at ∙ ap (with_rdata_lem s) e
    ∙ ap (λ (i : ℕ). filled (with_rdata k) i (rdata_at true s k.type k.rdata k.rdlength))
    (head_next s at k next e))

module _ (s : List ℕ) (at : ℕ) (lone : Bool) where
  -- one that is readable is read
  pub record_is_read : Readable (record_text_at lone s at) → (h : Head) × (record_read (record_head_at s at) ≡ Ok h)
  unfolding record_text_at
  record_is_read h = go (record_head_at s at) refl
    where
      go : (e : Entry RecordHead) → record_head_at s at ≡ e → (h : Head) × (record_read e ≡ Ok h)
      go (entry k next) u = (head_read k, refl)
      go (bad fault) u =
          absurd (readable≢bad (readable_value (entry_text (rcode_of s) lone) (record_at s at) h)
          (record_head s at ∙ ap (with_rdata_lem s) u))

  -- the text of a record by what was read
  pub record_same : {h : Head} → Ok h ≡ record_read (record_head_at s at)
      → record_text_at lone s at ≡ shown_text lone s h
  unfolding shown_text
  record_same p =
      entry_case (λ k next. head_read k)
      (λ h e. record_head_at s at ≡ e → record_text_at lone s at ≡ shown_text lone s h) (λ k next u. same k next u)
      (record_head_at s at) p refl
    where
      same : (k : RecordHead) (next : ℕ) → record_head_at s at ≡ entry k next
          → record_text_at lone s at ≡ shown_text lone s (head_read k)
      same k next u = record_text_lem lone s at k next u ∙ shown (shows? s (head_read k) lone) refl
        where
          shown : (t : Bool) → shows? s (head_read k) lone ≡ t
              → texts (entry_text (rcode_of s) lone)
              (filled (with_rdata k) (k.rdata + k.rdlength) (rdata_at true s k.type k.rdata k.rdlength))
              ≡ shown_text lone s (head_read k)
          shown true q = as_element s k lone _ refl (element_rdata s k (element_kind s (head_read k) lone q)) q ∙ rw q
          shown false q = as_is s k lone _ refl q ∙ sym (ordinary_text_lem s k (head_sized s at k next u)) ∙ rw q

-- by what the code's test answers
module _ (s : List ℕ) (h : Head) (lone : Bool) {t : Bool} (x : t ≡ shows? s h lone) where
  pub shown_element : {rcode : ℕ} {w w' : Writer} → t ≡ true → rcode ≡ rcode_of s
      → Writes w (element_text h.class h.ttl rcode (rdata_of s h)) w'
      → Prints (shown_text lone s h) w w' (h.rdata + h.rdlength)
  unfolding shown_text
  shown_element q c v = rw (← x, q) (prints_text (rw c at v))

  pub shown_as_is : t ≡ false → ordinary_text s h ≡ shown_text lone s h
  unfolding shown_text
  shown_as_is q = rw (← x, q)
