-- What is refused stands for no value.
use Rattle.std.proofs.Common.{◌≡◌, ℕ, true, List, codes, IsSome, refl, sym, ◌∙◌}
use Rattle.im_payload.specs.Faults.{IsFault}
use Rattle.im_login.specs.Sasl.{AuthLacks, CarrierLacks, IsAuth, IsCarrier, is_sasl, mechanism_of}
use Rattle.im_payload.specs.declared.fault.ExtFault.{ExtFault}
use Rattle.im_payload.specs.declared.fault.ExtFault.TheVariants.{NotThis, Bad, NoMemory}
use Rattle.im_payload.specs.declared.fault.Field.{Field}
use Rattle.im_payload.specs.declared.fault.Field.TheVariants.{Mechanism, Payload}
use Rattle.xml_trees.specs.Trees.{Elem}

auth_lacks_none : (e : Elem) (m p : List ℕ) (field : Field) → IsAuth e m p → AuthLacks e field → ⊥
auth_lacks_none e m p Mechanism is lacks = let both = sym lacks ∙ is.chosen in cc both
auth_lacks_none e m p Payload is lacks = lacks.1 p is.spelled
auth_lacks_none e m p _ is lacks = lacks

pub auth_refused : (e : Elem) (m p : List ℕ) (fault : ExtFault) → IsAuth e m p → IsFault (is_sasl (codes "auth") e) (AuthLacks e) fault → fault ≡ NoMemory
auth_refused e m p NotThis is not_this = let both = sym is.named ∙ not_this in cc both
auth_refused e m p (Bad field) is bad = absurd (auth_lacks_none e m p field is bad.1)
auth_refused e m p NoMemory is free = refl

carrier_lacks_none : (name : List ℕ) (e : Elem) (p : List ℕ) (field : Field) → IsCarrier name e p → CarrierLacks e field → ⊥
carrier_lacks_none name e p Payload is lacks = lacks p is.spelled
carrier_lacks_none name e p _ is lacks = lacks

pub carrier_refused : (name : List ℕ) (e : Elem) (p : List ℕ) (fault : ExtFault) → IsCarrier name e p → IsFault (is_sasl name e) (CarrierLacks e) fault → fault ≡ NoMemory
carrier_refused name e p NotThis is not_this = let both = sym is.named ∙ not_this in cc both
carrier_refused name e p (Bad field) is bad = absurd (carrier_lacks_none name e p field is bad.1)
carrier_refused name e p NoMemory is free = refl

-- the payload is what is wrong of an `auth` with a mechanism
after_mechanism : (e : Elem) (field : Field) → IsSome (mechanism_of e) → CarrierLacks e field → AuthLacks e field
after_mechanism e Payload chosen lacks = (chosen, lacks)
after_mechanism e _ chosen lacks = absurd lacks

pub auth_fault : (e : Elem) (fault : ExtFault) → is_sasl (codes "auth") e ≡ true → IsSome (mechanism_of e) → IsFault true (CarrierLacks e) fault → IsFault (is_sasl (codes "auth") e) (AuthLacks e) fault
auth_fault e NotThis named chosen not_this = cc not_this
auth_fault e (Bad field) named chosen bad = (named, after_mechanism e field chosen bad.1)
auth_fault e NoMemory named chosen free = tt
