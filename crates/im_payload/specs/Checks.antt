-- Payloads whose fields are judged in an order.
use Rattle.std.specs.Prelude.{◌≡◌, Bool, List, [], ◌∷◌, Option, Some, None, if◌then◌else◌}
use Rattle.im_payload.specs.Faults.{IsFault}
use Rattle.im_payload.specs.declared.fault.ExtFault.{ExtFault}
use Rattle.im_payload.specs.declared.fault.ExtFault.TheVariants.{NoMemory}
use Rattle.im_payload.specs.declared.fault.Field.{Field}
use Rattle.xml_trees.specs.Trees.{Elem, IsTree}

-- whether a field is right, and which field it is
abbrev pub Check : Type 0
Check = Bool × Field

-- the first field that is wrong, where one is
abbrev pub first_wrong : List Check → Option Field
first_wrong [] = None
first_wrong (check ∷ rest) = if check.0 then first_wrong rest else Some check.1

-- this field is wrong, and none before it
abbrev pub IsFirstWrong : List Check → Field → Type 0
IsFirstWrong checks field = first_wrong checks ≡ Some field

-- What a reader and a writer of such a payload keep, by the relation of trees and values, the checks of a tree in their
-- order, and the relation of values and what is written of them. A tree has one value at most, and one that has a value
-- is refused for want of memory alone. So `read` answers `Ok`, `NotThis` and `Bad` of a field exactly where these are
-- told. What is written of a value that any tree has is read back as that value.
pub record IsExactBy {V : Type 0} (is_this : Elem → Bool) (checks : Elem → List Check) (Is : Elem → V → Type 0) (Writes : V → Elem → Type 0) : Type 0 where
  pub one : (e : Elem) (v w : V) → Is e v → Is e w → v ≡ w
  pub refused : (e : Elem) (v : V) (fault : ExtFault) → Is e v → IsFault (is_this e) (IsFirstWrong (checks e)) fault → fault ≡ NoMemory
  pub read_back : (e written : Elem) (v : V) → IsTree e → Is e v → Writes v written → Is written v
