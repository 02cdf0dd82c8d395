-- What the code answers for a name: its limits, faults and answers beside those of the definitions.
use Rattle.std.specs.Prelude.{◌≡◌, refl, List, ℕ, Result, Ok, Err}
use Rattle.octets.specs.Calls.{number_of}
use Rattle.octets.specs.declared.Refusal.{Refusal}
use Rattle.octets.specs.declared.Rule.TheVariants as rule
use Rattle.names.specs.Name.{Kind, cut, reserved, target, long, short, surplus, refusal_number, name_form}
use Rattle.names.specs.Name as name
use Rattle.names.specs.Walk.{message, rdata, past, named, faulty}
use Rattle.names.specs.Walk as walk
use Rattle.names.specs.declared.Fault.{Fault}
use Rattle.names.specs.declared.Fault.TheVariants.{Cut, Reserved, Target, Long, Short, Surplus}
use Rattle.names.specs.declared.Limit.{Limit}
use Rattle.names.specs.declared.Limit.TheVariants.{Message, Rdata}

-- the limit that the code's limit means
abbrev pub limit_of : Limit → walk.Limit
limit_of Message = message
limit_of (Rdata start end) = rdata start end

-- the code's fault of a kind at an octet
abbrev pub fault_code : Kind → ℕ → Fault
fault_code cut octet = Cut octet
fault_code reserved octet = Reserved octet
fault_code target octet = Target octet
fault_code long octet = Long octet
fault_code short octet = Short octet
fault_code surplus octet = Surplus octet

abbrev pub fault_of : name.Fault → Fault
fault_of fault = fault_code fault.kind fault.octet

-- the code's fault of running past the end
abbrev pub past_of : Limit → ℕ → Fault
past_of limit at = fault_of (past (limit_of limit) at)

-- the refusal of the code's fault
abbrev pub refusal_of : Fault → Refusal
refusal_of (Cut octet) = record { rule = rule.Cut; place = octet }
refusal_of (Reserved octet) = record { rule = rule.Reserved; place = octet }
refusal_of (Target octet) = record { rule = rule.Target; place = octet }
refusal_of (Long octet) = record { rule = rule.LongName; place = octet }
refusal_of (Short octet) = record { rule = rule.Short; place = octet }
refusal_of (Surplus octet) = record { rule = rule.Surplus; place = octet }

-- it has the format's number for the kind of fault, and the octet at fault as its place
pub number_same : (kind : Kind) (octet : ℕ) → number_of (refusal_of (fault_code kind octet)).rule ≡ refusal_number kind
number_same cut octet = refl
number_same reserved octet = refl
number_same target octet = refl
number_same long octet = refl
number_same short octet = refl
number_same surplus octet = refl

pub octet_same : (kind : Kind) (octet : ℕ) → (refusal_of (fault_code kind octet)).place ≡ octet
octet_same cut octet = refl
octet_same reserved octet = refl
octet_same target octet = refl
octet_same long octet = refl
octet_same short octet = refl
octet_same surplus octet = refl

-- the answer of a walk: the name's form and the offset after it, or the fault
abbrev pub name_read : walk.Named → Result (List ℕ × ℕ) Fault
name_read (named n next) = Ok (name_form n, next)
name_read (faulty fault) = Err (fault_of fault)
