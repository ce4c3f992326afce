-- Payloads whose fields are judged in an order.
use Rattle.std.proofs.Common.{◌≡◌, Bool, true, false, Option, Some, None, is_some, List, [], ◌∷◌, ◌++◌, refl, sym, ◌∙◌}
use Rattle.im_payload.proofs.FaultLemmas.{for_memory}
use Rattle.im_payload.specs.Checks.{Check, IsFirstWrong, first_wrong}
use Rattle.im_payload.specs.Faults.{IsFault}
use Rattle.im_payload.specs.declared.fault.ExtFault.{ExtFault}
use Rattle.im_payload.specs.declared.fault.ExtFault.TheVariants.{NoMemory}
use Rattle.im_payload.specs.declared.fault.Field.{Field}
pub use Rattle.im_payload.proofs.FaultLemmas.{same_inside as same_value}

-- this element, of which no field is wrong, is refused for want of memory alone
pub right_refused : (is_this : Bool) (checks : List Check) (fault : ExtFault) → is_this ≡ true → first_wrong checks ≡ None → IsFault is_this (IsFirstWrong checks) fault → fault ≡ NoMemory
right_refused is_this checks fault named right = for_memory is_this (IsFirstWrong checks) fault named (λ f wrong. let both = sym right ∙ wrong in cc both)

-- a field is right where its value is there, or its test passes
pub right_value : {A : Type 0} (given : Option A) (x : A) (field : Field) (rest : List Check) → given ≡ Some x → first_wrong rest ≡ None → first_wrong ((is_some given, field) ∷ rest) ≡ None
right_value None x field rest is right = absurd (let p = is in cc)
right_value (Some y) x field rest is right = right

pub right_test : (test : Bool) (field : Field) (rest : List Check) → test ≡ true → first_wrong rest ≡ None → first_wrong ((test, field) ∷ rest) ≡ None
right_test true field rest is right = right
right_test false field rest is right = absurd (let p = is in cc)

-- checks behind others
after_right : (test : Bool) (field : Field) (front following : List Check) → (first_wrong front ≡ None → first_wrong (front ++ following) ≡ first_wrong following) → first_wrong ((test, field) ∷ front) ≡ None
    → first_wrong ((test, field) ∷ front ++ following) ≡ first_wrong following
after_right true field front following again right = again right
after_right false field front following again right = absurd (let p = right in cc)

pub right_after : (front following : List Check) → first_wrong front ≡ None → first_wrong (front ++ following) ≡ first_wrong following
right_after [] following right = refl
right_after (check ∷ front) following right = after_right check.0 check.1 front following (right_after front following) right

after_wrong : (test : Bool) (other : Field) (front following : List Check) (field : Field) → (first_wrong front ≡ Some field → first_wrong (front ++ following) ≡ Some field) → first_wrong ((test, other) ∷ front) ≡ Some field
    → first_wrong ((test, other) ∷ front ++ following) ≡ Some field
after_wrong true other front following field again wrong = again wrong
after_wrong false other front following field again wrong = wrong

pub wrong_front : (front following : List Check) (field : Field) → first_wrong front ≡ Some field → first_wrong (front ++ following) ≡ Some field
wrong_front [] following field wrong = absurd (let p = wrong in cc)
wrong_front (check ∷ front) following field wrong = after_wrong check.0 check.1 front following field (wrong_front front following field) wrong
