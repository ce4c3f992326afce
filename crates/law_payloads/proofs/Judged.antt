-- Of an element that stands for one value at most, and is refused for one reason at most, one answer alone fits.
use Rattle.std.proofs.Common.{◌≡◌, Bool, true, false, List, Option, Some, None, IsSome, Result, Ok, Err, refl, sym, ap, ◌∙◌, subst}
use Rattle.im_payload.proofs.FaultLemmas.{same_inside}
use Rattle.im_payload.specs.Checks.{Check, IsExactBy, IsFirstWrong}
use Rattle.im_payload.specs.Faults.{IsExact, IsFault}
use Rattle.im_payload.specs.declared.fault.ExtFault.{ExtFault}
use Rattle.im_payload.specs.declared.fault.ExtFault.TheVariants.{NotThis, Bad, NoMemory}
use Rattle.im_payload.specs.declared.fault.Field.{Field}
use Rattle.law_payloads.specs.Answers.{IsAnswer}
use Rattle.xml_trees.specs.Trees.{Elem}

-- what an answer says is so
abbrev pub Fits : {V : Type 0} → Bool → (Field → Type 0) → (V → Type 0) → Result V ExtFault → Type 0
Fits is_this Lacks Is (Ok v) = Is v
Fits is_this Lacks Is (Err NotThis) = is_this ≡ false
Fits is_this Lacks Is (Err (Bad field)) = (is_this ≡ true) × Lacks field
Fits is_this Lacks Is (Err NoMemory) = ⊥

module _ {V : Type 0} (is_this : Bool) (Lacks : Field → Type 0) (Is : V → Type 0) (one : (v w : V) → Is v → Is w → v ≡ w)
    (refused : (v : V) (fault : ExtFault) → Is v → IsFault is_this Lacks fault → fault ≡ NoMemory) (first : (f g : Field) → Lacks f → Lacks g → f ≡ g) where
  ok_so : (answer : Result V ExtFault) (v : V) → Fits is_this Lacks Is answer → Is v → answer ≡ Ok v
  ok_so (Ok w) v fits is = ap Ok (one w v fits is)
  ok_so (Err NotThis) v fits is = absurd (let same = refused v NotThis is fits in cc same)
  ok_so (Err (Bad field)) v fits is = absurd (let same = refused v (Bad field) is fits in cc same)
  ok_so (Err NoMemory) v fits is = absurd fits

  other_so : (answer : Result V ExtFault) → Fits is_this Lacks Is answer → is_this ≡ false → answer ≡ Err NotThis
  other_so (Ok v) fits named = absurd (let same = refused v NotThis fits named in cc same)
  other_so (Err NotThis) fits named = refl
  other_so (Err (Bad field)) fits named = absurd (let both = sym fits.0 ∙ named in cc both)
  other_so (Err NoMemory) fits named = absurd fits

  bad_so : (answer : Result V ExtFault) (field : Field) → Fits is_this Lacks Is answer → is_this ≡ true → Lacks field → answer ≡ Err (Bad field)
  bad_so (Ok v) field fits named lacks = absurd (let same = refused v (Bad field) fits (named, lacks) in cc same)
  bad_so (Err NotThis) field fits named lacks = absurd (let both = sym fits ∙ named in cc both)
  bad_so (Err (Bad other)) field fits named lacks = ap (λ f. Err (Bad f)) (first other field fits.1 lacks)
  bad_so (Err NoMemory) field fits named lacks = absurd fits

  pub answers : (answer : Result V ExtFault) → Fits is_this Lacks Is answer → IsAnswer answer is_this Lacks Is
  answers answer fits = record {
    ok = λ v. (λ is. subst (Fits is_this Lacks Is) is fits, ok_so answer v fits);
    other = (λ is. subst (Fits is_this Lacks Is) is fits, other_so answer fits);
    bad = λ field. (λ is. subst (Fits is_this Lacks Is) is fits, λ bad. bad_so answer field fits bad.0 bad.1);
    only = λ is. subst (Fits is_this Lacks Is) is fits;
  }

-- a field that is there
pub there : {A : Type 0} (o : Option A) (x : A) → o ≡ Some x → IsSome o
there None x is = cc is
there (Some y) x is = refl

-- where that is known already
pub by_exact : {V : Type 0} {is_this : Elem → Bool} {Lacks : Elem → Field → Type 0} {Is : Elem → V → Type 0} {written : V → Elem} → IsExact is_this Lacks Is written
    → (e : Elem) (answer : Result V ExtFault) → Fits (is_this e) (Lacks e) (Is e) answer → IsAnswer answer (is_this e) (Lacks e) (Is e)
by_exact {is_this = is_this} {Lacks = Lacks} {Is = Is} exact e = answers (is_this e) (Lacks e) (Is e) (exact.one e) (exact.refused e) (exact.first e)

pub by_checks : {V : Type 0} {is_this : Elem → Bool} {checks : Elem → List Check} {Is : Elem → V → Type 0} {Writes : V → Elem → Type 0} → IsExactBy is_this checks Is Writes
    → (e : Elem) (answer : Result V ExtFault) → Fits (is_this e) (IsFirstWrong (checks e)) (Is e) answer → IsAnswer answer (is_this e) (IsFirstWrong (checks e)) (Is e)
by_checks {is_this = is_this} {checks = checks} {Is = Is} exact e =
    answers (is_this e) (IsFirstWrong (checks e)) (Is e) (exact.one e) (exact.refused e) (λ f g a b. same_inside f g (sym a ∙ b))
