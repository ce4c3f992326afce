-- What a reader of a payload answers where it reads none.
use Rattle.std.specs.Prelude.{◌≡◌, Bool, true, false}
use Rattle.im_payload.specs.declared.fault.ExtFault.{ExtFault}
use Rattle.im_payload.specs.declared.fault.ExtFault.TheVariants.{NotThis, Bad, NoMemory}
use Rattle.im_payload.specs.declared.fault.Field.{Field}
use Rattle.xml_trees.specs.Trees.{Elem}

-- `NotThis` where the element isn't this one; of this one the field that is wrong, and none is wrong before it; want of
-- memory is free
abbrev pub IsFault : Bool → (Field → Type 0) → ExtFault → Type 0
IsFault is_this is_wrong NotThis = is_this ≡ false
IsFault is_this is_wrong (Bad field) = (is_this ≡ true) × is_wrong field
IsFault is_this is_wrong NoMemory = Unit {0}

-- of an element without a field no field is wrong
abbrev pub LacksNothing : Field → Type 0
LacksNothing _ = ⊥

-- What a reader and a writer of a payload keep, by the relation of trees and values, the fields that a tree lacks, and
-- what is written of a value. A tree has one value at most. One that has a value is refused for want of memory alone, and
-- else one field is the first that is wrong. So `read` answers `Ok`, `NotThis` and `Bad` of a field exactly where these
-- are told. What is written of a value that any tree has is read back as that value.
pub record IsExact {V : Type 0} (is_this : Elem → Bool) (Lacks : Elem → Field → Type 0) (Is : Elem → V → Type 0) (written : V → Elem) : Type 0 where
  pub one : (e : Elem) (v w : V) → Is e v → Is e w → v ≡ w
  pub refused : (e : Elem) (v : V) (fault : ExtFault) → Is e v → IsFault (is_this e) (Lacks e) fault → fault ≡ NoMemory
  pub first : (e : Elem) (f g : Field) → Lacks e f → Lacks e g → f ≡ g
  pub read_back : (e : Elem) (v : V) → Is e v → Is (written v) v
