-- Where the parser of documents stops: after the longest beginning of the input that also begins some text in the
-- grammar. Each codec of the grammar has a look-ahead of one octet.
use mathlib.Core.Path.{◌≡◌, refl, sym, ◌∙◌, ap}
use mathlib.Core.Logic.{◌⊎◌, inl, inr}
use mathlib.Core.Bool.{Bool, true, false, not, cond, ◌||◌}
use mathlib.Core.Option.{Option, none, some}
use mathlib.Core.List.{List, [], ◌∷◌, ◌++◌, map, append_assoc, append-nil, nil≢cons}
use Prim.Native.Nat.{ℕ, ◌+◌, ◌<◌, ◌≤◌}
use Prim.Native.String.{String}
use native.Mathlib.Omega.{arith}
use borrow.Author.Tests.{eqb-true, leb-true, leb-false}
use lib.Dec.{T, eqb, leb}
use lib.ListN.{length, length-append}
use Rattle.octets.specs.Lists.{ascii, none?, All, key?, row_text, ended, lookup}
use Rattle.octets.specs.Parsed.{Parsed, parsed, failed, and_then, or_else, parsed≢failed}
use Rattle.octets.specs.Codec.{Any, Codec, absent, literal_as, fronts, some_avoids, OneOrMore, distinct, table_parser}
use Rattle.octets.specs.Codec.{Either, either_text, ◌▷◌, ◌◁◌}
use Rattle.octets.specs.Decimal.{decimal, number, decimal_avoids}
use Rattle.octets.specs.Hexadecimal.{hex}
use Rattle.octets.proofs.LookAhead.{front, Viable, viable, parted, Sees, takes, stops, OneAhead, octet_if, ahead_octet_if}
use Rattle.octets.proofs.LookAhead.{ahead_pair, ahead_on, ahead_lit, ahead_like, ahead_by, ahead_only, ahead_several}
use Rattle.octets.proofs.LookAhead.{ahead_many, ahead_array, ahead_either, ahead_behind, ahead_table, ahead_text}
use Rattle.octets.proofs.LookAhead.{ahead_range}
use Rattle.octets.proofs.LookAheadDigits.{ahead_number, ahead_positive, ahead_hex}
use Rattle.spelling.specs.Spelling.{plain?, label_text, name_text, plus, minus, signed_text, printable?, string_octet}
use Rattle.spelling.specs.Spelling.{string_text}
use Rattle.options.specs.Options.{rows, members, Syntax, hex_object, octet_list, expiry, hex_list, word, padding, word_list}
use Rattle.options.specs.Options.{extended_error, unlisted, syntax_of, row_syntax, Row, Value, expiry_text, value_text}
use Rattle.options.specs.Options.{known, other, member_text}
use Rattle.edns.specs.Edns.{rcodes, flags, edns_text}
use Rattle.json_text.specs.Document.{ordinary, edns, Document, question_text, record_text, item_text}
use Rattle.json_text.specs.Document.{ad_titles, head_text, document_text}
use Rattle.strict.specs.Grammar.{Number, Label, Labels, SignedNumber, StringIn, Maybe, QuestionIn, RecordIn}
use Rattle.strict.specs.Grammar.{ValueIn, MemberIn, EdnsIn, ItemIn, DocumentIn}
use Rattle.strict.specs.Parser.{maybe, numbered, maybe_text, expiry_same, expiry_number, end_text, padding_same}
use Rattle.strict.specs.Parser.{error_same}
use Rattle.strict.specs.Parser.{value, members-distinct, known_member, other_member, members_apart, member}
use Rattle.strict.specs.Parser.{question_from, record_from, question_codec, record_codec, flags-distinct}
use Rattle.strict.specs.Parser.{rcodes-distinct, members_end_text, option_members, edns_from, edns_element, item_apart}
use Rattle.strict.specs.Parser.{item_codec, Head, bare_document, titles_distinct, head_from, head}
use Rattle.strict.specs.Parser.{document_from, document_parts, document, document_unique, parse}
use Rattle.strict.specs.Spelt.{from_sum, spelled_octet, spelled_avoids, label, label_avoids, name_from, root_or_labels}
use Rattle.strict.specs.Spelt.{name, signed_number, bare?, bare_out, quoted, string_at, string_char, string_chars}
use Rattle.strict.specs.Spelt.{string_octet_avoids, string}
use Rattle.strict.proofs.LookAheadSpelt.{ahead_spelled}

-- ---- a thing of two kinds
module _ {A B C : Type 0} {J : C → Type 0} {g : C → List ℕ} {p : List ℕ → Parsed A} {q : List ℕ → Parsed B}
    (left : A → C) (right : B → C) where
  ahead_kinds : OneAhead (λ a. J (left a)) (λ a. g (left a)) p → OneAhead (λ b. J (right b)) (λ b. g (right b)) q
      → ((b : B) (s : List ℕ) → J (right b) → (w : List ℕ) × (p (g (right b) ++ s) ≡ failed w))
      → OneAhead J g (λ t. and_then (or_else (and_then (p t) λ a r. parsed (inl a) r)
      (and_then (q t) λ b r. parsed (inr b) r)) λ c r. parsed (from_sum left right c) r)
  ahead_kinds h k apart = ahead_on (from_sum left right) same (ahead_either h k apart)
    where
      same : (c : A ⊎ B) → Either (λ a. J (left a)) (λ b. J (right b)) c
          → J (from_sum left right c) × (g (from_sum left right c) ≡ either_text (λ a. g (left a)) (λ b. g (right b)) c)
      same (inl a) i = (i, refl)
      same (inr b) i = (i, refl)

-- ---- labels and names
ahead_label : OneAhead Label label_text label.parse
unfolding label label_text spelled_octet plain?
ahead_label = ahead_several 46 spelled_octet (spelled_avoids 46 tt tt) ahead_spelled

ahead_labels : OneAhead Labels (λ n. cond (none? n) (ascii ".\"") (ended label_text 34 n)) root_or_labels.parse
unfolding root_or_labels plain?
ahead_labels = ahead_on name_from same (ahead_either (ahead_only tt (ascii ".\""))
    (ahead_several 34 label (label_avoids 34 tt tt) ahead_label)
    (λ b s i. absent (literal_as tt ".\"") (ended label_text 34 b ++ s)
    (λ a r h e. some_avoids label_text 34 (label_avoids 46 tt tt) b s _ i (sym e))))
  where
    same : (u : Unit {0} ⊎ List (List ℕ)) → Either (λ u. u ≡ tt) (OneOrMore Label) u
        → Labels (name_from u) × (cond (none? (name_from u)) (ascii ".\"") (ended label_text 34 (name_from u)) ≡ either_text
        (λ u. ascii ".\"") (ended label_text 34) u)
    same (inl u) h = (tt, refl)
    same (inr []) h = absurd h.1
    same (inr (l ∷ n)) h = (h.0, refl)

ahead_name : OneAhead Labels name_text name.parse
unfolding name name_text
ahead_name = ahead_lit (ascii "\"") ahead_labels

-- ---- signed numbers
ahead_signed : OneAhead SignedNumber signed_text signed_number.parse
unfolding signed_number signed_text
ahead_signed = ahead_kinds plus minus ahead_number (ahead_lit (45 ∷ []) ahead_positive)
    (λ b s i. absent number ((45 ∷ decimal b) ++ s) (λ a r h e. decimal_avoids 45 tt a r _ e))

-- ---- strings
quoted_one : (t : List ℕ) → quoted t ≡ octet_if (λ c. eqb c 34 || eqb c 92) t
unfolding quoted octet_if
quoted_one [] = refl
quoted_one (c ∷ t) = go (eqb c 34) (eqb c 92) refl refl
  where
    go : (a b : Bool) → eqb c 34 ≡ a → eqb c 92 ≡ b → quoted (c ∷ t) ≡ cond (a || b) (parsed c t) (failed (c ∷ t))
    go true b e f = rw (e, quoted) (ap (λ x. parsed x t) (sym (eqb-true c 34 e)))
    go false true e f = rw (e, quoted, f) (ap (λ x. parsed x t) (sym (eqb-true c 92 f)))
    go false false e f = rw (e, quoted, f)

ahead_char : OneAhead (λ x. T (printable? x)) string_octet string_at
unfolding string_at octet_if string_octet printable? quoted
ahead_char = ahead_by bare? string_at refl (λ c t e. rw (e, string_at)) (λ c t e. rw (e, string_at)) left right
    (ahead_octet_if bare? 97 (unfold bare? in tt)) (ahead_lit (92 ∷ [])
    (ahead_like quoted quoted_one (ahead_octet_if (λ c. eqb c 34 || eqb c 92) 34 tt)))
  where
    left : (a : ℕ) → T (bare? a) → T (printable? a) × (string_octet a ≡ a ∷ [])
    left a h = bare_out a h

    right : (a : ℕ) → T (eqb a 34 || eqb a 92) → T (printable? a) × (string_octet a ≡ 92 ∷ a ∷ [])
    right a h = go (eqb a 34) (eqb a 92) refl refl h
      where
        go : (x y : Bool) → eqb a 34 ≡ x → eqb a 92 ≡ y → T (x || y)
            → T (printable? a) × (cond x (ascii "\\\"") (cond y (ascii "\\\\") (a ∷ [])) ≡ 92 ∷ a ∷ [])
        go true y e f k = let z = eqb-true a 34 e in rw z (tt, refl)
        go false true e f k = let z = eqb-true a 92 f in rw z (tt, refl)
        go false false e f k = absurd k

ahead_chars : OneAhead StringIn (ended string_octet 34) string_chars.parse
unfolding string_chars string_char
ahead_chars = ahead_many 34 string_char string_octet_avoids ahead_char

ahead_string : OneAhead StringIn string_text string.parse
unfolding string string_text
ahead_string = ahead_lit (ascii "\"") ahead_chars

-- ---- values of options
-- a part that may be missing
ahead_maybe : {A : Type 0} {I : A → Type 0} {f : A → List ℕ} {F : List ℕ → Type 0} (l : String) (p : Codec I f F)
    (apart : (a : A) (r s : List ℕ) → I a → ascii l ++ r ≡ f a ++ s → ⊥)
    → OneAhead I f p.parse → OneAhead (Maybe I) (maybe_text l f) (maybe l p apart).parse
ahead_maybe {A} {I} {f} l p apart h = ahead_kinds (λ (u : Unit {0}). none) some
    (ahead_range (λ u i. tt) (ahead_only (tt {0}) (ascii l))) h
    (λ a s i. absent (literal_as (tt {0}) l) (f a ++ s) (λ u r j e. apart a r s i e))

ahead_expiry : OneAhead (Maybe Number) expiry_text expiry_number.parse
unfolding expiry_number
ahead_expiry = ahead_text expiry_same (ahead_maybe "\"NONE\"" number
    (λ a r s h e. decimal_avoids 34 tt a s _ (sym e)) ahead_number)

-- a number, and the brace or one more member
ahead_numbered : {A : Type 0} {I : A → Type 0} {f : A → List ℕ} {g : Option A → List ℕ} (l : String)
    (same : (n : Option A) → g n ≡ end_text l f n) (p : Codec I f Any)
    → OneAhead I f p.parse → OneAhead {A = ℕ × Option A} (λ u. Number u.0 × Maybe I u.1)
    (λ u. decimal u.0 ++ g u.1) (numbered l same p).parse
ahead_numbered l same p h = ahead_pair ahead_number (λ n i. ahead_text same
    (ahead_maybe "}" ("," ▷ l ▷ p ◁ "}") (λ a r s h e. fronts tt e)
    (ahead_lit (ascii ",") (ahead_lit (ascii l) (ahead_behind (ascii "}") h)))))

-- only the syntax of no row has no value
abbrev Row? : Syntax → Type 0
Row? hex_object = Unit {0}
Row? octet_list = Unit {0}
Row? expiry = Unit {0}
Row? hex_list = Unit {0}
Row? word = Unit {0}
Row? padding = Unit {0}
Row? word_list = Unit {0}
Row? extended_error = Unit {0}
Row? unlisted = ⊥

ahead_value : (syntax : Syntax) → Row? syntax → OneAhead (ValueIn syntax) (value_text syntax) (value syntax).parse
unfolding value value_text
ahead_value hex_object h = ahead_lit (ascii "{\"HEX\":") (ahead_behind (ascii "}") ahead_hex)
ahead_value octet_list h = ahead_array number ahead_number
ahead_value expiry h = ahead_expiry
ahead_value hex_list h = ahead_array hex ahead_hex
ahead_value word h = ahead_number
ahead_value padding h = ahead_lit (ascii "{\"LENGTH\":") (ahead_numbered "\"HEX\":" padding_same hex ahead_hex)
ahead_value word_list h = ahead_array number ahead_number
ahead_value extended_error h = ahead_lit (ascii "{\"CODE\":") (ahead_numbered "\"TEXT\":" error_same string ahead_string)
ahead_value unlisted h = absurd h

-- ---- members of options
-- a table that has a row
ahead_rows : (rows : List (ℕ × String)) → T (not (none? rows)) → (d : T (distinct rows))
    → OneAhead (λ n. T (key? n rows)) (λ n. row_text n rows) (table_parser rows)
ahead_rows [] h d = absurd h
ahead_rows (row ∷ rows) h d = ahead_table row rows d

-- a code with a member has a row
key_row : (table : List (ℕ × Row)) → All (λ (row : ℕ × Row). Row? row.1.syntax) table → (code : ℕ)
    → T (key? code (map (λ (row : ℕ × Row). (row.0, row.1.member)) table)) → Row? (row_syntax (lookup code table))
unfolding key? lookup
key_row [] a code k = absurd k
key_row (row ∷ table) a code k = go (eqb row.0 code) k (key_row table a.1 code)
  where
    go : (b : Bool) → T (cond b true (key? code (map (λ (row : ℕ × Row). (row.0, row.1.member)) table)))
        → (T (key? code (map (λ (row : ℕ × Row). (row.0, row.1.member)) table))
        → Row? (row_syntax (lookup code table)))
        → Row? (row_syntax (cond b (some row.1) (lookup code table)))
    go true k f = a.0
    go false k f = f k

member_row : (code : ℕ) → T (key? code members) → Row? (syntax_of code)
unfolding syntax_of members rows
member_row code k = key_row rows (tt, (tt, (tt, (tt, (tt, (tt, (tt, (tt, (tt, (tt, tt)))))))))) code k

ahead_known : OneAhead {A = (code : ℕ) × Value (syntax_of code)} (λ u. MemberIn (known u.0 u.1))
    (λ u. member_text (known u.0 u.1)) known_member.parse
unfolding known_member member_text
ahead_known =
    ahead_pair (ahead_lit (ascii "\"") (ahead_behind (ascii "\":") (ahead_rows members some_members members-distinct)))
    (λ code k. ahead_value (syntax_of code) (member_row code k))
  where
    some_members : T (not (none? members))
    some_members = unfold members rows in tt

ahead_other : OneAhead {A = ℕ × List ℕ} (λ u. MemberIn (other u.0 u.1)) (λ u. member_text (other u.0 u.1))
    other_member.parse
unfolding other_member member_text
ahead_other = ahead_text (λ u. simp append_assoc) (ahead_pair
    (ahead_lit (ascii "\"OPT") (ahead_behind (ascii "\":") ahead_number)) (λ n i. ahead_hex))

ahead_member : OneAhead MemberIn member_text member.parse
unfolding member
ahead_member = ahead_kinds (λ u. known u.0 u.1) (λ u. other u.0 u.1) ahead_known ahead_other
    (λ v s i. absent known_member (member_text (other v.0 v.1) ++ s) (λ u r h e. members_apart u v r s h.0 e))

-- ---- questions, records, elements
-- seen as another thing, of which a text is said last
ahead_as : {A B : Type 0} {I : A → Type 0} {f : A → List ℕ} {p : List ℕ → Parsed A} {J : B → Type 0} {g : B → List ℕ}
    → OneAhead I f p → (from : A → B) → ((a : A) → I a → J (from a)) → ((a : A) → g (from a) ≡ f a)
    → OneAhead J g (λ t. and_then (p t) λ a r. parsed (from a) r)
ahead_as h from to same = ahead_on from (λ a i. (to a i, same a)) h

ahead_question : OneAhead QuestionIn question_text question_codec.parse
unfolding question_codec question_text
ahead_question = ahead_as
    (ahead_pair (ahead_lit (ascii "{\"NAME\":") ahead_name) λ n i. ahead_pair
    (ahead_lit (ascii ",\"TYPE\":") (ahead_behind (ascii ",\"CLASS\":") ahead_number)) λ t j. ahead_behind
    (ascii "}") ahead_number)
    question_from (λ u i. i) (λ u. simp append_assoc)

ahead_entry : OneAhead RecordIn record_text record_codec.parse
unfolding record_codec record_text
ahead_entry = ahead_as
    (ahead_pair (ahead_lit (ascii "{\"NAME\":") ahead_name) λ n i. ahead_pair
    (ahead_lit (ascii ",\"TYPE\":") (ahead_behind (ascii ",\"CLASS\":") ahead_number))
    λ t j. ahead_pair (ahead_behind (ascii ",\"TTL\":") ahead_number) λ c k. ahead_pair
    (ahead_behind (ascii ",\"RDATAHEX\":") ahead_signed) λ l m. ahead_behind (ascii "}") ahead_hex)
    record_from (λ u i. i) (λ u. simp append_assoc)

ahead_options : OneAhead (All MemberIn) members_end_text option_members.parse
unfolding option_members
ahead_options = ahead_behind (ascii "}") (ahead_many 125 ("," ▷ member) (λ a r s i e. fronts tt e)
    (ahead_lit (ascii ",") ahead_member))

ahead_edns : OneAhead EdnsIn edns_text edns_element.parse
unfolding edns_element edns_text
ahead_edns = ahead_as
    (ahead_pair (ahead_lit (ascii "{\"EDNS\":{\"Version\":") (ahead_behind (ascii ",\"FLAGS\":") ahead_number)) λ v i.
    ahead_pair (ahead_rows flags (unfold flags in tt) flags-distinct)
    λ f j. ahead_pair (ahead_lit (ascii ",\"RCODE\":\"")
    (ahead_behind (ascii "\",\"UDPSIZE\":") (ahead_rows rcodes (unfold rcodes in tt) rcodes-distinct))) λ c k.
    ahead_pair ahead_number λ s m. ahead_options)
    edns_from (λ u i. i) (λ u. simp append_assoc)

ahead_item : OneAhead ItemIn item_text item_codec.parse
unfolding item_codec item_text
ahead_item = ahead_kinds ordinary edns ahead_entry ahead_edns
    (λ b s i. absent record_codec (edns_text b ++ s) (λ a r h e. item_apart a b r s e))

-- ---- the document
ahead_head : OneAhead {A = Head} (λ h. T (key? h.0.z ad_titles)) (λ h. head_text (bare_document h)) head.parse
unfolding head head_text
ahead_head = ahead_as
    (ahead_pair (ahead_lit (ascii "{\"ID\":") (ahead_behind (ascii ",\"QR\":") ahead_number)) λ a a'. ahead_pair
    (ahead_pair (ahead_behind (ascii ",\"Opcode\":") ahead_number) λ b b'.
    ahead_pair (ahead_behind (ascii ",\"AA\":") ahead_number) λ c c'.
    ahead_pair (ahead_behind (ascii ",\"TC\":") ahead_number) λ d d'.
    ahead_pair (ahead_behind (ascii ",\"RD\":") ahead_number) λ e e'.
    ahead_behind (ascii ",\"RA\":") ahead_number) λ f f'. ahead_pair
    (ahead_pair (ahead_pair ahead_number λ g g'. ahead_rows ad_titles (unfold ad_titles in tt) titles_distinct) λ z z'.
    ahead_pair (ahead_behind (ascii ",\"CD\":") ahead_number) λ h h'.
    ahead_pair (ahead_behind (ascii ",\"RCODE\":") ahead_number) λ i i'.
    ahead_behind (ascii ",\"QDCOUNT\":") ahead_number) λ j j'.
    ahead_pair (ahead_behind (ascii ",\"ANCOUNT\":") ahead_number) λ k k'.
    ahead_pair (ahead_behind (ascii ",\"NSCOUNT\":") ahead_number) λ l l'.
    ahead_pair (ahead_behind (ascii ",\"ARCOUNT\":") ahead_number) λ m m'. ahead_number)
    head_from (λ u i. i.1.1.0.0.1) (λ u. simp append_assoc)

ahead_document : OneAhead DocumentIn document_text document.parse
unfolding document
ahead_document = ahead_as
    (ahead_pair ahead_head
    λ h i. ahead_pair (ahead_lit (ascii ",\"questionRRs\":") (ahead_array question_codec ahead_question))
    λ q j. ahead_pair (ahead_lit (ascii ",\"answerRRs\":") (ahead_array record_codec ahead_entry))
    λ a k. ahead_pair (ahead_lit (ascii ",\"authorityRRs\":") (ahead_array record_codec ahead_entry))
    λ n l. ahead_lit (ascii ",\"additionalRRs\":") (ahead_behind (ascii "}") (ahead_array item_codec ahead_item)))
    document_from (λ u i. i) (λ u. document_parts (document_from u))

-- ---- where a whole text stops
-- a beginning of some text in the grammar
abbrev pub Beginning : List ℕ → Type 0
Beginning u = Viable DocumentIn document_text u

-- what comes before w is the longest beginning of t that also begins some text in the grammar
pub record Longest (t w : List ℕ) : Type 0 where
  pub past : List ℕ
  pub whole : past ++ w ≡ t
  pub viable : Beginning past
  pub longest : (v s : List ℕ) → v ++ s ≡ t → Beginning v → length v ≤ length past

-- where no text goes on with the next octet, no beginning is longer
no_longer : (t u w : List ℕ) → u ++ w ≡ t
    → ((x : ℕ) (r : List ℕ) → some x ≡ front w → (d : Document) → DocumentIn d → document_text d ≡ u ++ (x ∷ r) → ⊥)
    → (v s : List ℕ) → v ++ s ≡ t → Beginning v → length v ≤ length u
no_longer t u w h none_there v s k b = go (leb (length v) (length u)) refl
  where
    further : (l : List ℕ) → length u < length v → v ≡ u ++ l → w ≡ l ++ s → length v ≤ length u
    further [] i c d = absurd (omega (arith, ap length c, length-append u []))
    further (x ∷ l) i c d =
        absurd (none_there x (l ++ b.rest) (ap front (sym d)) b.value b.in_range
        (b.same ∙ ap (λ z. z ++ b.rest) c ∙ append_assoc u (x ∷ l) b.rest))

    go : (c : Bool) → leb (length v) (length u) ≡ c → length v ≤ length u
    go true e = leb-true (length v) (length u) e
    go false e =
        let i = leb-false (length v) (length u) e in
        let m : length u + length w ≡ length v + length s =
        sym (length-append u w) ∙ ap length (h ∙ sym k) ∙ length-append v s in
        let (l, c, d) = parted u v w s (h ∙ sym k) (omega arith) in
        further l i c d

pub parse-stops : (t w : List ℕ) → parse t ≡ failed w → Longest t w
unfolding parse
parse-stops t w e = go (document.parse t) refl (ahead_document.sees t)
  where
    stopped : (u : List ℕ) → u ++ w ≡ t → Beginning u
        → ((x : ℕ) (r : List ℕ) → some x ≡ front w → (d : Document) → DocumentIn d → document_text d ≡ u ++ (x ∷ r) → ⊥)
        → Longest t w
    stopped u h b f = record { past = u; whole = h; viable = b; longest = no_longer t u w h f }

    go : (o : Parsed Document) → document.parse t ≡ o → Sees DocumentIn document_text document.parse t o
        → Longest t w
    go (parsed d []) p (takes i h c) = absurd (parsed≢failed (rw p at e))
    go (parsed d (y ∷ s)) p (takes i h c) =
        let z : y ∷ s ≡ w = let k : failed (y ∷ s) ≡ failed w = rw p at e in cc in
        stopped (document_text d) (ap (λ l. document_text d ++ l) (sym z) ∙ h)
        (viable d [] i (sym (append-nil (document_text d))))
        (λ x r f b j k. nil≢cons (document_unique b d [] (x ∷ r) j i (append-nil (document_text b) ∙ k)).1)
    go (failed v) p (stops u b h c) =
        let z : v ≡ w = let k : failed v ≡ failed w = rw p at e in cc in
        stopped u (ap (λ l. u ++ l) (sym z) ∙ h) b
        (λ x r f d j k. parsed≢failed
        (sym (document.back d [] j tt) ∙ ap document.parse (append-nil (document_text d) ∙ k)
        ∙ c (x ∷ r) (f ∙ ap front (sym z))))
