-- Reading a name from a message, with pointers.
use Rattle.std.specs.Prelude.{Bool, ◌&&◌, cond, List, [], ◌∷◌, ℕ, zero, suc, ◌+◌, ◌-◌, ◌*◌, leb, ltb, eqb, length, get_or, take, drop}
use Rattle.names.specs.Name.{Name, cut, reserved, target, long, short, Fault}

-- n octets from an offset on
abbrev pub part : List ℕ → ℕ → ℕ → List ℕ
part s at n = take n (drop at s)

-- where the octets end for a name: at the message's end, or, inside RDATA and before the first jump, at the end of
-- RDATA
pub data Limit : Type 0 where
  message : Limit
  -- RDATA's first octet, and the offset after its last
  rdata : ℕ → ℕ → Limit

abbrev pub end_of : List ℕ → Limit → ℕ
end_of s message = length s
end_of s (rdata start end) = end

-- the fault of running past that end: 1 at the octet, or 7 at RDATA's first octet
abbrev pub past : Limit → ℕ → Fault
past message at = record { kind = cut; octet = at }
past (rdata start end) at = record { kind = short; octet = start }

-- the labels of a name and the offset after it in its own place, or its first fault
pub data Named : Type 0 where
  named : Name → ℕ → Named
  faulty : Fault → Named

-- a label before the labels that follow
abbrev pub labelled : List ℕ → Named → Named
labelled label (named name next) = named (label ∷ name) next
labelled label (faulty fault) = faulty fault

-- after a pointer the name in its own place ends with the pointer
abbrev pub resumed : ℕ → Named → Named
resumed next (named name other) = named name next
resumed next (faulty fault) = faulty fault

-- the 14-bit target of the pointer at an offset; of no meaning where the octet there is below 192
abbrev pub target_at : List ℕ → ℕ → ℕ
target_at s at = (get_or s at 0 - 192) * 256 + get_or s (at + 1) 0

-- a target is at least 12 and below the offset where the present run of labels began
abbrev pub allowed? : ℕ → ℕ → Bool
allowed? run goal = leb 12 goal && ltb goal run

-- The walk from the length octet at an offset on: `walk steps s limit run total at`. `run` is where the present run of
-- labels began, `total` the octets of the labels so far. `steps` bounds the number of steps: each adds to `total`,
-- which stays below 255, or lowers `run`; so the bound of `name_from` is never met (`walk_steps` of NameLaws).
-- In order: the length octet past the end; 0 ends the name; a label past the end, then a name over 255;
-- top bits 01 and 10; a pointer's second octet past the end, then its target.
unfoldable pub walk : ℕ → List ℕ → Limit → ℕ → ℕ → ℕ → Named
walk zero s limit run total at = faulty (past limit at)
walk (suc steps) s limit run total at =
    let x = get_or s at 0 in
    let goal = target_at s at in
    let label = labelled (part s (at + 1) x) (walk steps s limit run (total + (x + 1)) (at + (x + 1))) in
    let jump = resumed (at + 2) (walk steps s message goal total goal) in
    cond (leb (end_of s limit) at) (faulty (past limit at))
    (cond (eqb x 0) (named [] (at + 1))
    (cond (leb x 63)
    (cond (ltb (end_of s limit) (at + (x + 1))) (faulty (past limit at))
    (cond (ltb 255 (total + (x + 1) + 1)) (faulty (record { kind = long; octet = at })) label))
    (cond (ltb x 192) (faulty (record { kind = reserved; octet = at }))
    (cond (leb (end_of s limit) (at + 1)) (faulty (past limit at))
    (cond (allowed? run goal) jump (faulty (record { kind = target; octet = at })))))))

-- A name read from an offset, `name_from s limit run at`, where a first pointer must go below `run`: below the name's
-- own start in a message; nowhere, with run 0, where no pointer is taken.
unfoldable pub name_from : List ℕ → Limit → ℕ → ℕ → Named
name_from s limit run at = walk (suc (run + 255)) s limit run 0 at

abbrev pub name_at : List ℕ → Limit → ℕ → Named
name_at s limit at = name_from s limit at at
