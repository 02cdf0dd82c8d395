-- What is promised, each demand in words and symbols; every proof is one citation. Words: specs/FrontPage/Words.antt.
-- `Converts c` is what `to_text::convert` and `velvetshelf_to_text` ensure of a call c, `Reads c` what `to_wire::read`
-- and `velvetshelf_to_wire` do. None has a `requires`: every input gets an answer, and nothing undefined happens.
use Rattle.demands.specs.Examples.{Example, examples, examples_hold}
use Rattle.demands.proofs.Converter as converter
use Rattle.demands.proofs.Reader as reader
use Rattle.demands.proofs.Both as both
use Words.*
pub mod Words

-- From C an answer is a number n and a value v: n is 0 on success alone, and v is then the length.
pub c_success : (n v k : ℕ) → (answer_in n v ≡ success k) ↔ ((n ≡ 0) × (v ≡ k))
c_success = both.c_success

-- Demand 1. Answer and octets written depend on the input and the buffer's length alone. A refusal changes no octet of
-- the buffer, and its place is at most the input's length; on success the octets after the reported length stay.
pub same : (c d : Call) → Both c d → c.input ≡ d.input → room c ≡ room d
    → (c.answer ≡ d.answer) × (written_by c ≡ written_by d)
same = both.same

pub leaves : (c : Call) → Made c → (k p : ℕ) → c.answer ≡ refusal k p → (c.after ≡ c.before) × (p ≤ length c.input)
leaves = both.leaves

pub stays : (c : Call) → Made c → drop (reported c.answer) c.after ≡ drop (reported c.answer) c.before
stays = both.stays

-- Demand 2. Success exactly for an accepted message, given room: its text and its length. A refusal exactly when
-- `decode` says so; 10 exactly without room. VELVETSHELF_LONGEST_TEXT octets are enough. Places: 1, 4, 5 and 6 at the
-- octet at fault: the length octet, the first octet of the pointer or of a field that doesn't fit, or the message's end
-- if nothing is there; 7 at RDATA's first octet; 11 and 8 at the first left over; 1 under 12 octets and all else at 0.
module _ (c : Call) (made : Converts c) where
  pub text_success : (n : ℕ) → (c.answer ≡ success n) ↔ ((m : Message) × Accepts c m × Length c n (text m))
  text_success = converter.accepts c made

  pub text_written : (m : Message) → Accepts c m → length (text m) ≤ room c → written_by c ≡ text m
  text_written = converter.writes c made

  pub text_refusal : (k p : ℕ) → (c.answer ≡ refusal k p) ↔ ((decode c.input ≡ refused k p)
      ⊎ ((m : Message) × Accepts c m × (room c < length (text m)) × (k ≡ 10) × (p ≡ 0)))
  text_refusal = converter.declines c made

  pub text_room : 655750 ≤ room c → Room c
  text_room = converter.room_enough c made

-- Demand 2. Success exactly for the text of a message that is accepted, given room: its uncompressed form is written.
-- 20 exactly if no document of the grammar has this text, at the length of the longest beginning of the input that
-- also begins such a document's text. 21 if one has it, but no message, even one without limits of size; 22 if a
-- message over a limit has it; 23 without room. Nothing else. VELVETSHELF_LONGEST_MESSAGE octets suffice.
module _ (c : Call) (made : Reads c) where
  pub wire_success : (n : ℕ) → (c.answer ≡ success n) ↔ ((m : Message) × Spells c m × Length c n (form m))
  wire_success = reader.accepts c made

  pub wire_written : (m : Message) → Spells c m → length (form m) ≤ room c → written_by c ≡ form m
  wire_written = reader.writes c made

  pub wire_20 : (p : ℕ) → (c.answer ≡ refusal 20 p) ↔ ((InGrammar c.input → ⊥) × LongestBeginning c.input p)
  wire_20 = reader.grammar c made

  pub wire_21 : (p : ℕ) → (c.answer ≡ refusal 21 p) ↔ (InGrammar c.input × NoMessage c.input × (p ≡ 0))
  wire_21 = reader.no_message c made

  pub wire_22 : (p : ℕ) → (c.answer ≡ refusal 22 p) ↔ ((v : View) × HasText c.input v × (within? v ≡ false) × (p ≡ 0))
  wire_22 = reader.limits c made

  pub wire_23 : (p : ℕ) → (c.answer ≡ refusal 23 p)
      ↔ ((m : Message) × Spells c m × (room c < length (form m)) × (p ≡ 0))
  wire_23 = reader.no_room_lem c made

  pub wire_numbers : (k p : ℕ) → c.answer ≡ refusal k p → (20 ≤ k) × (k ≤ 23)
  wire_numbers = reader.numbers c made

  pub wire_room : 65535 ≤ room c → (p : ℕ) → c.answer ≡ refusal 23 p → ⊥
  wire_room = reader.room_enough c made

-- Demand 2. Both round trips: a text read back gives the uncompressed form, and that written again gives the text.
pub there_and_back : (c d : Call) → Converts c → Reads d → (m : Message) → Accepts c m → length (text m) ≤ room c
    → d.input ≡ written_by c → length (form m) ≤ room d
    → (d.answer ≡ success (length (form m))) × (written_by d ≡ form m)
there_and_back = reader.there_and_back

pub back_and_there : (d c : Call) → Reads d → Converts c → (n : ℕ) → d.answer ≡ success n → c.input ≡ written_by d
    → length d.input ≤ room c → (c.answer ≡ success (length d.input)) × (written_by c ≡ d.input)
back_and_there = reader.back_and_there

-- Demand 3. Texts are equal exactly when the uncompressed forms are; no text is a proper beginning of another; and
-- of two whole lists of calls what they wrote, end to end, is equal exactly when the forms of what they accepted are.
pub told_apart : (c d : Call) → Converts c → Converts d → (m n : Message) → Accepts c m → Accepts d n → Room c → Room d
    → ((written_by c ≡ written_by d) ↔ (form m ≡ form n)) × ((r : List ℕ) → written_by c ++ r ≡ written_by d → r ≡ [])
told_apart = converter.told_apart

pub lists : (l m : List Call) → All Converts l → All Converts m → All Room l → All Room m
    → (stream l ≡ stream m) ↔ (forms_of l ≡ forms_of m)
lists = converter.lists

-- Every octet written lies in 0x20 to 0x7E. The short examples of docs/FORMAT.md, computed.
pub visible : (c : Call) → Converts c → (n : ℕ) → c.answer ≡ success n → All (λ x. (32 ≤ x) × (x ≤ 126)) (written_by c)
visible = converter.visible

pub marked : map (λ (e : Example). converted (hexed e.message)) examples ≡ map (λ (e : Example). e.gives) examples
marked = examples_hold
