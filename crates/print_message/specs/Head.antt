-- The head of a message's text by the message's first 12 octets, in the parts that the writers write.
use Rattle.std.specs.Prelude.{◌≡◌, refl, List, [], ◌∷◌, ◌++◌, ℕ, get_or}
use Rattle.std.proofs.Common.{ap}
use Rattle.octets.specs.Lists.{ascii}
use Rattle.octets.specs.Fields.{be16_at}
use Rattle.octets.specs.Decimal.{decimal}
use Rattle.octets.specs.Writes.{Writes, writes_then}
use Rattle.octets.specs.declared.writer.Writer.{Writer}
use Rattle.records.specs.Decode.{header_of}
use Rattle.json_text.specs.Document.{Document, head_text}
use Rattle.print_head.specs.Head.{number_text, with_high, with_low, high_text, low_text, high_after, low_after}

-- a document with the header and the counts that the octets state
abbrev pub head_document : List ℕ → Document
head_document s = record {
  header = header_of s;
  qdcount = be16_at s 4;
  ancount = be16_at s 6;
  nscount = be16_at s 8;
  arcount = be16_at s 10;
  questions = [];
  answers = [];
  authority = [];
  additional = [];
}

unfoldable pub head_text_at : List ℕ → List ℕ
head_text_at s = head_text (head_document s)

-- it is the head of every document with that header and those counts
pub head_at : (s : List ℕ) (d : Document) → d.header ≡ header_of s → d.qdcount ≡ be16_at s 4 → d.ancount ≡ be16_at s 6
    → d.nscount ≡ be16_at s 8 → d.arcount ≡ be16_at s 10 → head_text d ≡ head_text_at s
unfolding head_text head_text_at
head_at s d h q a n r = rw (h, q, a, n, r)

-- ---- its parts
-- a text with the members of the counts after it
unfoldable pub with_counts : List ℕ → List ℕ → List ℕ
with_counts l s =
    l
    ++ ascii ",\"QDCOUNT\":" ++ decimal (be16_at s 4)
    ++ ascii ",\"ANCOUNT\":" ++ decimal (be16_at s 6)
    ++ ascii ",\"NSCOUNT\":" ++ decimal (be16_at s 8)
    ++ ascii ",\"ARCOUNT\":" ++ decimal (be16_at s 10)

-- the members alone
abbrev pub counts_text : List ℕ → List ℕ
counts_text s = with_counts [] s

counts_after : (l s : List ℕ) → with_counts l s ≡ l ++ with_counts [] s
unfolding with_counts
counts_after [] s = refl
counts_after (y ∷ l) s = ap (λ m. y ∷ m) (counts_after l s)

-- the head is ID with the three parts after it
head_parts : (s : List ℕ)
    → head_text_at s ≡ with_counts (with_low (with_high (ascii "{\"ID\":" ++ decimal (be16_at s 0)) (get_or s 2 0))
    (get_or s 3 0))
    s
unfolding head_text head_text_at header_of with_high with_low with_counts
head_parts s = refl

-- ---- writing it
pub wrote_head : (s : List ℕ) {n : ℕ} {w w₁ w₂ w₃ w₄ : Writer} → n ≡ be16_at s 0
    → Writes w (number_text (ascii "{\"ID\":") n) w₁ → Writes w₁ (high_text (get_or s 2 0)) w₂
    → Writes w₂ (low_text (get_or s 3 0)) w₃ → Writes w₃ (counts_text s) w₄ → Writes w (head_text_at s) w₄
unfolding number_text
wrote_head s e t u v x =
    rw (head_parts s, counts_after, low_after, high_after, ← e) (writes_then (writes_then (writes_then t u) v) x)
