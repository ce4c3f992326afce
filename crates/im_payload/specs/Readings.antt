-- What a reader of a payload answers, as a function of the element.
use Rattle.std.specs.Prelude.{◌≡◌, Bool, true, false, Option, Some, None, Result, Ok, Err}
use Rattle.im_payload.specs.declared.fault.ExtFault.{ExtFault}
use Rattle.im_payload.specs.declared.fault.ExtFault.TheVariants.{NotThis, Bad, NoMemory}
use Rattle.im_payload.specs.declared.fault.Field.{Field}

-- unless memory ran out, the result is the answer
abbrev pub Reads : {V : Type 0} → Result V ExtFault → Result V ExtFault → Type 0
Reads (Ok v) answer = answer ≡ Ok v
Reads (Err NoMemory) answer = Unit {0}
Reads (Err fault) answer = answer ≡ Err fault

-- the same of what is seen of the value
abbrev pub ReadsBy : {V W : Type 0} → (V → W) → Result V ExtFault → Result W ExtFault → Type 0
ReadsBy view (Ok v) answer = answer ≡ Ok (view v)
ReadsBy view (Err NoMemory) answer = Unit {0}
ReadsBy view (Err fault) answer = answer ≡ Err fault

-- what is read of the element, where it is this one
abbrev pub where_this : {V : Type 0} → Bool → Result V ExtFault → Result V ExtFault
where_this true read = read
where_this false read = Err NotThis

-- a field that has to be there
abbrev pub or_bad : {V : Type 0} → Field → Option V → Result V ExtFault
or_bad field None = Err (Bad field)
or_bad field (Some v) = Ok v
