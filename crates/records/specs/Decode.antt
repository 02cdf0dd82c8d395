-- The reading of a whole message: what it holds, or its refusal.
use Rattle.std.specs.Prelude.{cond, List, ℕ, ◌/◌, ◌%◌, ltb, length, get_or}
use Rattle.octets.specs.Fields.{be16_at}
use Rattle.names.specs.Name.{refusal_number}
use Rattle.records.specs.Message.{Header, Question, Record, Message, form}
use Rattle.records.specs.Read.{Reached, Section, reached, stopped, question_at, record_at, section_at, section_from}

-- header flags, high bit first: QR, Opcode (4), AA, TC, RD; RA, Z, AD, CD, RCODE (4)
unfoldable pub header_of : List ℕ → Header
header_of s =
    let high = get_or s 2 0 in
    let low = get_or s 3 0 in
    record {
      id = be16_at s 0;
      qr = high / 128;
      opcode = high / 8 % 16;
      aa = high / 4 % 2;
      tc = high / 2 % 2;
      rd = high % 2;
      ra = low / 128;
      z = low / 64 % 2;
      ad = low / 32 % 2;
      cd = low / 16 % 2;
      rcode = low % 16;
    }

-- the four sections by the header's counts, each with the entries before the first fault
pub record Sections : Type 0 where
  pub questions : Section Question
  pub answers : Section Record
  pub authority : Section Record
  pub additional : Section Record

unfoldable pub sections_of : List ℕ → Sections
sections_of s =
    let questions = section_at question_at s (be16_at s 4) 12 in
    let answers = section_from record_at s (be16_at s 6) questions.end in
    let authority = section_from record_at s (be16_at s 8) answers.end in
    let additional = section_from record_at s (be16_at s 10) authority.end in
    record { questions = questions; answers = answers; authority = authority; additional = additional }

-- the entries that were read, under the header
unfoldable pub message_read : List ℕ → Message
message_read s =
    let sections = sections_of s in
    record {
      header = header_of s;
      questions = sections.questions.entries;
      answers = sections.answers.entries;
      authority = sections.authority.entries;
      additional = sections.additional.entries;
    }

-- the message, or the refusal's number and place
pub data Decoded : Type 0 where
  accepted : Message → Decoded
  refused : ℕ → ℕ → Decoded

-- where reading came to: the first fault, reported at the octet at fault; 8 octets after the last record, at the first
-- of them; 9 uncompressed form over 65,535 octets
abbrev pub after_reading : List ℕ → Message → Reached → Decoded
after_reading s m (stopped at fault) = refused (refusal_number fault.kind) fault.octet
after_reading s m (reached at) =
    cond (ltb at (length s)) (refused 8 at)
    (cond (ltb 65535 (length (form m))) (refused 9 0) (accepted m))

-- the refusals but 10, in order: 2 over 65,535 octets; 1 under 12 octets; then those of reading
unfoldable pub decode : List ℕ → Decoded
decode s =
    cond (ltb 65535 (length s)) (refused 2 0)
    (cond (ltb (length s) 12) (refused 1 0)
    (after_reading s (message_read s) (sections_of s).additional.end))
