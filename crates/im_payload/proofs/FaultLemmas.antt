-- Refusals, whatever the payload.
use Rattle.std.proofs.Common.{◌≡◌, Bool, true, Option, Some, None, IsSome, refl, sym, ◌∙◌}
use Rattle.im_payload.specs.Faults.{IsFault, LacksNothing}
use Rattle.im_payload.specs.declared.fault.ExtFault.{ExtFault}
use Rattle.im_payload.specs.declared.fault.ExtFault.TheVariants.{NotThis, Bad, NoMemory}
use Rattle.im_payload.specs.declared.fault.Field.{Field}

-- this element, of which no field is wrong, is refused for want of memory alone
pub for_memory : (is_this : Bool) (lacks : Field → Type 0) (fault : ExtFault) → is_this ≡ true → ((f : Field) → lacks f → ⊥) → IsFault is_this lacks fault → fault ≡ NoMemory
for_memory is_this lacks NotThis named right not_this = let both = sym named ∙ not_this in cc both
for_memory is_this lacks (Bad field) named right bad = absurd (right field bad.1)
for_memory is_this lacks NoMemory named right free = refl

-- where one field alone can be wrong
pub one_field : (lacks : Field → Type 0) (only : Field) → ((f : Field) → lacks f → f ≡ only) → (f g : Field) → lacks f → lacks g → f ≡ g
one_field lacks only all f g a b = all f a ∙ sym (all g b)

pub nothing_lacks : (f : Field) → LacksNothing f → ⊥
nothing_lacks f lacks = lacks

pub nothing_first : (f g : Field) → LacksNothing f → LacksNothing g → f ≡ g
nothing_first f g a b = absurd a

pub some_is_there : {A : Type 0} (o : Option A) → IsSome o → o ≡ None → ⊥
some_is_there None there none = cc there
some_is_there (Some x) there none = cc none

pub same_inside : {A : Type 0} (x y : A) → Some x ≡ Some y → x ≡ y
same_inside x y same = cc
