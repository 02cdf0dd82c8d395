-- What is judged and written of the entries of a document, one by one, and that this is what the definitions judge of
-- the whole.
use Rattle.std.specs.Prelude.{◌≡◌, Bool, true, false, not, cond, ◌&&◌, ◌||◌, ℕ, ◌+◌, ◌*◌, T, eqb, length}
use Rattle.std.proofs.Math.Path.{refl, ap}
use Rattle.std.proofs.Common.{sym, ◌∙◌, subst, eqb→eq}
use mathlib.Core.List.{List, [], ◌∷◌, ◌++◌, map, append_assoc}
use Rattle.std.proofs.lemmas.List.{length-map}
use Rattle.octets.specs.Lists.{all, count, each, u16?, present?}
use Rattle.octets.specs.Bits.{both, and_left, and_right, each_holds, all_hold}
use Rattle.octets.specs.Fields.{be16}
use Rattle.records.specs.Message.{Header, bit?, four_bits?, header?, question?, record?, section?, question_form}
use Rattle.records.specs.Message.{record_form, header_form, form, opt?}
use Rattle.edns.specs.Edns.{edns_of}
use Rattle.json_text.specs.View.{additional?, opt_entry?, settled?, additionals?, view?, record_of, message_of}
use Rattle.json_text.specs.Document.{RecordItem, Item, ordinary, edns, Document}
use Rattle.strict.specs.Meaning.{item_record, item_additional, document_view, record_item?, item?, counts?, agrees?}
use Rattle.strict.specs.Parser.{Head, head_of}

-- ---- entries
-- a record whose TTL is in range and that is valid; its octets
unfoldable pub record_meant? : RecordItem → Bool
record_meant? r = record_item? r && record? (item_record r)

unfoldable pub record_octets : RecordItem → List ℕ
record_octets r = record_form (item_record r)

-- an element of the additional section
unfoldable pub item_meant? : ℕ → Item → Bool
item_meant? rcode i = item? rcode i && additional? rcode (item_additional i)

unfoldable pub item_octets : Item → List ℕ
item_octets i = record_form (record_of (item_additional i))

-- it is of TYPE 41; it is an EDNS element; it is an ordinary record that could be one
unfoldable pub item_opt? : Item → Bool
item_opt? i = opt_entry? (item_additional i)

unfoldable pub item_shown? : Item → Bool
item_shown? (ordinary r) = false
item_shown? (edns e) = true

unfoldable pub hides? : ℕ → RecordItem → Bool
hides? rcode r = opt? (item_record r) && present? (edns_of rcode (item_record r))

unfoldable pub item_hides? : ℕ → Item → Bool
item_hides? rcode (ordinary r) = hides? rcode r
item_hides? rcode (edns e) = false

-- one of the list is such
abbrev pub any : {A : Type 0} → (A → Bool) → List A → Bool
any p [] = false
any p (x ∷ l) = p x || any p l

-- in a section where one entry alone is of TYPE 41 or not, an EDNS element is there or not, a record that could be one
-- is there or not
abbrev pub settled_by : Bool → Bool → Bool → Bool
settled_by lone shown eligible = (not shown || lone) && not (eligible && lone)

-- ---- the head
abbrev pub high_meant? : ℕ × (ℕ × (ℕ × (ℕ × ℕ))) → Bool
high_meant? (qr, (opcode, (aa, (tc, rd)))) = bit? qr && (four_bits? opcode && (bit? aa && (bit? tc && bit? rd)))

abbrev pub high_octet : ℕ × (ℕ × (ℕ × (ℕ × ℕ))) → ℕ
high_octet (qr, (opcode, (aa, (tc, rd)))) = qr * 128 + opcode * 8 + aa * 4 + tc * 2 + rd

abbrev pub low_meant? : (ℕ × ℕ) × (ℕ × (ℕ × ℕ)) → Bool
low_meant? ((ra, z), (ad, (cd, rcode))) = bit? ra && (bit? z && (bit? ad && (bit? cd && four_bits? rcode)))

abbrev pub low_octet : (ℕ × ℕ) × (ℕ × (ℕ × ℕ)) → ℕ
low_octet ((ra, z), (ad, (cd, rcode))) = ra * 128 + z * 64 + ad * 32 + cd * 16 + rcode

abbrev pub high_of : Header → ℕ × (ℕ × (ℕ × (ℕ × ℕ)))
high_of h = (h.qr, (h.opcode, (h.aa, (h.tc, h.rd))))

abbrev pub low_of : Header → (ℕ × ℕ) × (ℕ × (ℕ × ℕ))
low_of h = ((h.ra, h.z), (h.ad, (h.cd, h.rcode)))

-- the numbers of the head are in range; its octets, with the counts that it says
unfoldable pub head_meant? : Head → Bool
head_meant? (h, (q, (a, (n, r)))) =
    u16? h.id && (high_meant? (high_of h) && (low_meant? (low_of h) && (u16? q && (u16? a && (u16? n && u16? r)))))

unfoldable pub head_octets : Head → List ℕ
head_octets (h, (q, (a, (n, r)))) =
    be16 h.id ++ ((high_octet (high_of h) ∷ low_octet (low_of h) ∷ []) ++ (be16 q ++ (be16 a ++ (be16 n ++ be16 r))))

-- ---- the whole
abbrev pub sections_meant? : Document → Bool
sections_meant? d = all question? d.questions
    && (all record_meant? d.answers
    && (all record_meant? d.authority && all (item_meant? d.header.rcode) d.additional))

abbrev pub settled_items? : Document → Bool
settled_items? d = settled_by (eqb (count item_opt? d.additional) 1) (any item_shown? d.additional)
    (any (item_hides? d.header.rcode) d.additional)

unfoldable pub document_meant? : Document → Bool
document_meant? d = (head_meant? (head_of d) && sections_meant? d) && (counts? d && settled_items? d)

-- two tests that hold together are equal
pub same_truth : (a b : Bool) → (T a → T b) → (T b → T a) → a ≡ b
same_truth true true f g = refl
same_truth true false f g = absurd (f tt)
same_truth false true f g = absurd (g tt)
same_truth false false f g = refl

-- of lists
module _ {A : Type 0} where
  pub all_and : (p q : A → Bool) (l : List A) → T (all p l) → T (all q l) → T (all (λ a. p a && q a) l)
  all_and p q [] h k = tt
  all_and p q (x ∷ l) h k =
      both (p x && q x) _ (both (p x) (q x) (and_left (p x) _ h) (and_left (q x) _ k))
      (all_and p q l (and_right (p x) _ h) (and_right (q x) _ k))

  pub all_first : (p q : A → Bool) (l : List A) → T (all (λ a. p a && q a) l) → T (all p l)
  all_first p q [] h = tt
  all_first p q (x ∷ l) h =
      both (p x) _ (and_left (p x) (q x) (and_left (p x && q x) _ h)) (all_first p q l (and_right (p x && q x) _ h))

  pub all-second : (p q : A → Bool) (l : List A) → T (all (λ a. p a && q a) l) → T (all q l)
  all-second p q [] h = tt
  all-second p q (x ∷ l) h =
      both (q x) _ (and_right (p x) (q x) (and_left (p x && q x) _ h)) (all-second p q l (and_right (p x && q x) _ h))

module _ {A B : Type 0} where
  pub all_map : (f : A → B) (p : B → Bool) (l : List A) → all p (map f l) ≡ all (λ a. p (f a)) l
  all_map f p [] = refl
  all_map f p (x ∷ l) = ap (λ b. p (f x) && b) (all_map f p l)

  pub count_map : (f : A → B) (p : B → Bool) (l : List A) → count p (map f l) ≡ count (λ a. p (f a)) l
  count_map f p [] = refl
  count_map f p (x ∷ l) = ap (λ n. cond (p (f x)) (1 + n) n) (count_map f p l)

  pub each_map : (f : A → B) (g : B → List ℕ) (l : List A) → each g (map f l) ≡ each (λ a. g (f a)) l
  unfolding each
  each_map f g [] = refl
  each_map f g (x ∷ l) = ap (λ t. g (f x) ++ t) (each_map f g l)

-- settled, entry by entry and at once
pub settled_once : (rcode n : ℕ) (l : List Item)
    → all (settled? rcode n) (map item_additional l) ≡ settled_by (eqb n 1) (any item_shown? l) (any (item_hides? rcode) l)
unfolding settled? item_additional item_shown? item_hides? hides?
settled_once rcode n [] = none (eqb n 1)
  where
    none : (b : Bool) → true ≡ settled_by b false false
    none true = refl
    none false = refl
settled_once rcode n (ordinary r ∷ l) =
    rw (settled_once rcode n l) (go (opt? (item_record r)) (eqb n 1) (present? (edns_of rcode (item_record r)))
    (any item_shown? l) (any (item_hides? rcode) l))
  where
    go : (o b p s h : Bool) → not (o && b && p) && settled_by b s h ≡ settled_by b s (o && p || h)
    go true true false s h = refl
    go true true true true h = refl
    go true true true false h = refl
    go true false false s h = refl
    go true false true true h = refl
    go true false true false true = refl
    go true false true false false = refl
    go false b p s h = refl
settled_once rcode n (edns e ∷ l) =
    rw (settled_once rcode n l) (go (eqb n 1) (any item_shown? l) (any (item_hides? rcode) l))
  where
    go : (b s h : Bool) → b && settled_by b s h ≡ settled_by b true h
    go true true h = refl
    go true false h = refl
    go false s h = refl

-- the numbers of the head: those of the header, and the counts
pub head-numbers : (h : Header) (q a n r : ℕ)
    → head_meant? (h, (q, (a, (n, r)))) ≡ (header? h && (u16? q && (u16? a && (u16? n && u16? r))))
unfolding head_meant? header?
head-numbers h q a n r =
    go (u16? h.id) (bit? h.qr) (four_bits? h.opcode) (bit? h.aa) (bit? h.tc) (bit? h.rd)
    (bit? h.ra) (bit? h.z) (bit? h.ad) (bit? h.cd) (four_bits? h.rcode) _
  where
    go : (a b c d e f g z h i j w : Bool)
        → a && ((b && (c && (d && (e && f)))) && ((g && (z && (h && (i && j)))) && w)) ≡ (a && b && c && d && e && f
        && g && z && h && i && j) && w
    go false b c d e f g z h i j w = refl
    go true false c d e f g z h i j w = refl
    go true true false d e f g z h i j w = refl
    go true true true false e f g z h i j w = refl
    go true true true true false f g z h i j w = refl
    go true true true true true false g z h i j w = refl
    go true true true true true true false z h i j w = refl
    go true true true true true true true false h i j w = refl
    go true true true true true true true true false i j w = refl
    go true true true true true true true true true false j w = refl
    go true true true true true true true true true true false w = refl
    go true true true true true true true true true true true w = refl

-- what is judged part by part is what the definitions judge of the whole
pub document_meant : (d : Document) → document_meant? d ≡ (agrees? d && view? (document_view d))
unfolding document_meant? record_meant? item_meant? item_opt? agrees? counts? view? document_view additionals?
document_meant d = same_truth _ _ forward backward
  where
    h : Header
    h = d.header

    counts : List Bool
    counts = eqb d.ancount (length d.answers) ∷ eqb d.nscount (length d.authority) ∷ eqb d.arcount
        (length d.additional) ∷ []

    agreed : List Bool
    agreed = all record_item? d.answers ∷ all record_item? d.authority ∷ all (item? h.rcode) d.additional ∷ []

    viewed : List Bool
    viewed =
        section? question? d.questions
        ∷ section? record? (map item_record d.answers)
        ∷ section? record? (map item_record d.authority)
        ∷ additionals? h.rcode (map item_additional d.additional)
        ∷ []

    first_count : Bool
    first_count = eqb d.qdcount (length d.questions)

    settled_same : all (settled? h.rcode (count opt_entry? (map item_additional d.additional)))
        (map item_additional d.additional) ≡ settled_items? d
    settled_same = rw (count_map item_additional opt_entry? d.additional) (settled_once h.rcode _ d.additional)

    -- a section whose count is its length
    section : {A B : Type 0} (f : A → B) (n : ℕ) (p : B → Bool) (l : List A) → T (eqb n (length l)) → T (u16? n)
        → T (all (λ a. p (f a)) l) → T (section? p (map f l))
    section f n p l e w t =
        both (u16? (length (map f l))) _ (rw (length-map l f, ← eqb→eq n (length l) e) w) (rw (all_map f p l) t)

    forward : T (document_meant? d) → T (agrees? d && view? (document_view d))
    forward t =
        let hs = and_left (head_meant? (head_of d) && sections_meant? d) _ t in
        let cs = and_right (head_meant? (head_of d) && sections_meant? d) _ t in
        let hd : T (header? h
        && (u16? d.qdcount && (u16? d.ancount && (u16? d.nscount && u16? d.arcount)))) =
        subst T (head-numbers h d.qdcount d.ancount d.nscount d.arcount)
        (and_left (head_meant? (head_of d)) _ hs) in
        let w1 = and_right (header? h) _ hd in
        let w2 = and_right (u16? d.qdcount) _ w1 in
        let w3 = and_right (u16? d.ancount) _ w2 in
        let s1 = and_right (head_meant? (head_of d)) _ hs in
        let s2 = and_right (all question? d.questions) _ s1 in
        let s3 = and_right (all record_meant? d.answers) _ s2 in
        let an = and_left (all record_meant? d.answers) _ s2 in
        let ns = and_left (all record_meant? d.authority) _ s3 in
        let ar = and_right (all record_meant? d.authority) _ s3 in
        let c = each_holds first_count counts (and_left (counts? d) _ cs) in
        both (agrees? d) _
        (all_hold (counts? d) agreed (and_left (counts? d) _ cs) (
          all_first record_item? _ d.answers an,
          (all_first record_item? _ d.authority ns, (all_first (item? h.rcode) _ d.additional ar, tt)),
        ))
        (all_hold (header? h) viewed (and_left (header? h) _ hd) (
          both (u16? (length d.questions)) _
              (subst (λ n. T (u16? n)) (eqb→eq d.qdcount (length d.questions) c.0)
              (and_left (u16? d.qdcount) _ w1)) (and_left (all question? d.questions) _ s1),
          (
            section item_record d.ancount record? d.answers c.1.0 (and_left (u16? d.ancount) _ w2)
                (all-second record_item? _ d.answers an),
            (
              section item_record d.nscount record? d.authority c.1.1.0 (and_left (u16? d.nscount) _ w3)
                  (all-second record_item? _ d.authority ns),
              (
                both (section? (additional? h.rcode) (map item_additional d.additional)) _
                    (section item_additional d.arcount (additional? h.rcode) d.additional c.1.1.1.0
                    (and_right (u16? d.nscount) _ w3) (all-second (item? h.rcode) _ d.additional ar))
                    (subst T (sym settled_same) (and_right (counts? d) _ cs)),
                tt,
              ),
            ),
          ),
        ))

    backward : T (agrees? d && view? (document_view d)) → T (document_meant? d)
    backward t =
        let a = each_holds (counts? d) agreed (and_left (agrees? d) _ t) in
        let v = each_holds (header? h) viewed (and_right (agrees? d) _ t) in
        let c = each_holds first_count counts a.0 in
        let ad = v.1.1.1.1.0 in
        let ar = and_left (section? (additional? h.rcode) (map item_additional d.additional)) _ ad in
        both (head_meant? (head_of d) && sections_meant? d) _
        (both (head_meant? (head_of d)) _
        (subst T (sym (head-numbers h d.qdcount d.ancount d.nscount d.arcount))
        (both (header? h) _ v.0
        (both (u16? d.qdcount) _
        (subst (λ n. T (u16? n)) (sym (eqb→eq d.qdcount (length d.questions) c.0))
        (and_left (u16? (length d.questions)) _ v.1.0))
        (both (u16? d.ancount) _ (counted item_record d.ancount record? d.answers c.1.0 v.1.1.0)
        (both (u16? d.nscount) _
        (counted item_record d.nscount record? d.authority c.1.1.0 v.1.1.1.0)
        (counted item_additional d.arcount (additional? h.rcode) d.additional c.1.1.1.0 ar))))))
        (both (all question? d.questions) _ (and_right (u16? (length d.questions)) _ v.1.0)
        (both (all record_meant? d.answers) _
        (all_and record_item? _ d.answers a.1.0 (passed item_record record? d.answers v.1.1.0))
        (both (all record_meant? d.authority) _
        (all_and record_item? _ d.authority a.1.1.0
        (passed item_record record? d.authority v.1.1.1.0))
        (all_and (item? h.rcode) _ d.additional a.1.1.1.0
        (passed item_additional (additional? h.rcode) d.additional ar))))))
        (both (counts? d) _ a.0
        (subst T settled_same
        (and_right (section? (additional? h.rcode) (map item_additional d.additional)) _ ad)))
      where
        counted : {A B : Type 0} (f : A → B) (n : ℕ) (p : B → Bool) (l : List A) → T (eqb n (length l))
            → T (section? p (map f l)) → T (u16? n)
        counted f n p l e t = rw (eqb→eq n (length l) e, ← length-map l f) (and_left (u16? (length (map f l))) _ t)

        passed : {A B : Type 0} (f : A → B) (p : B → Bool) (l : List A) → T (section? p (map f l))
            → T (all (λ a. p (f a)) l)
        passed f p l t = subst T (all_map f p l) (and_right (u16? (length (map f l))) _ t)

-- the octets, part by part; with counts that are those of the arrays they are the form of the message
unfoldable pub document_octets : Document → List ℕ
document_octets d = head_octets (head_of d)
    ++ (each question_form d.questions
    ++ (each record_octets d.answers ++ (each record_octets d.authority ++ each item_octets d.additional)))

pub document-octets : (d : Document) → T (counts? d) → document_octets d ≡ form (message_of (document_view d))
unfolding document_octets head_octets record_octets item_octets counts? form header_form message_of document_view
document-octets d t =
    let c = each_holds (eqb d.qdcount (length d.questions))
    (eqb d.ancount (length d.answers) ∷ eqb d.nscount (length d.authority) ∷ eqb d.arcount
    (length d.additional) ∷ []) t in
    let e : head_octets (head_of d) ≡ header_form (message_of (document_view d)) =
    rw (
      eqb→eq d.qdcount (length d.questions) c.0,
      eqb→eq d.ancount (length d.answers) c.1.0,
      eqb→eq d.nscount (length d.authority) c.1.1.0,
      eqb→eq d.arcount (length d.additional) c.1.1.1.0,
      length-map d.answers item_record,
      length-map d.authority item_record,
      length-map (map item_additional d.additional) record_of,
      length-map d.additional item_additional,
    ) in
    chain (each question_form d.questions) e (sym (each_map item_record record_form d.answers))
    (sym (each_map item_record record_form d.authority))
    (sym (each_map record_of record_form (map item_additional d.additional)
    ∙ each_map item_additional (λ a. record_form (record_of a)) d.additional))
  where
    chain : (q : List ℕ) {h h' a a' n n' r r' : List ℕ} → h ≡ h' → a ≡ a' → n ≡ n' → r ≡ r'
        → h ++ (q ++ (a ++ (n ++ r))) ≡ h' ++ q ++ a' ++ n' ++ r'
    chain q e f g i = rw (e, f, g, i) (simp append_assoc)
