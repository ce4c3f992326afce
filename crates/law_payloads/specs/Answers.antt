-- What a function that reads answers of one element, in the grammar's words.
use Rattle.std.specs.Prelude.{◌≡◌, ◌≢◌, ◌↔◌, Bool, true, false, Result, Ok, Err}
use Rattle.im_payload.specs.declared.fault.ExtFault.{ExtFault}
use Rattle.im_payload.specs.declared.fault.ExtFault.TheVariants.{NotThis, Bad, NoMemory}
use Rattle.im_payload.specs.declared.fault.Field.{Field}

-- `Ok` of a value exactly where the element stands for it, `NotThis` exactly where it is another element, and `Bad` of
-- a field exactly where it is this one and that field is the first that is wrong. There is no other answer.
pub record IsAnswer {V : Type 0} (answer : Result V ExtFault) (is_this : Bool) (Lacks : Field → Type 0) (Is : V → Type 0) : Type 0 where
  pub ok : (v : V) → (answer ≡ Ok v) ↔ Is v
  pub other : (answer ≡ Err NotThis) ↔ (is_this ≡ false)
  pub bad : (field : Field) → (answer ≡ Err (Bad field)) ↔ ((is_this ≡ true) × Lacks field)
  pub only : answer ≢ Err NoMemory
