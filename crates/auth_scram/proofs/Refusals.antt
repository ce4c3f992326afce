-- A refusal of SCRAM that isn't want of memory is the one that is due.
use Rattle.std.proofs.Common.{◌≡◌, ◌≢◌, refl, Result, Err}
use Rattle.auth_scram.specs.Exchange.{Judges}
use Rattle.auth_scram.specs.declared.fault.ScramFault.{ScramFault}
use Rattle.auth_scram.specs.declared.fault.ScramFault.TheVariants.{Malformed, Plus, Authzid, BadName, BadNonce, Iterations, BadProof, BadVerifier, NoMemory}

pub refused_as : {A B : Type 0} (view : A → B) (fault : ScramFault) (answer : Result B ScramFault) → Judges view (Err fault) answer → fault ≢ NoMemory → answer ≡ Err fault
refused_as view (Malformed at) answer due other = due
refused_as view Plus answer due other = due
refused_as view Authzid answer due other = due
refused_as view BadName answer due other = due
refused_as view BadNonce answer due other = due
refused_as view (Iterations count) answer due other = due
refused_as view BadProof answer due other = due
refused_as view BadVerifier answer due other = due
refused_as view NoMemory answer due other = absurd (other refl)
