-- Faults that the accounts do not cause.
use Rattle.std.proofs.Common.{ℕ, List, Result, Ok, Err, IfErr}
use Rattle.net_hub.specs.Served.{IsOwn, IsRefusal}
use Rattle.net_hub.specs.declared.fault.HubFault.{HubFault}
use Rattle.net_hub.specs.declared.fault.HubFault.TheVariants.{BadLine, LinkFault, NoWorker, EntropyFault, NoMemory}

pub own : (accounts : List ℕ) (fault : HubFault) → IsOwn fault → IsRefusal accounts fault
own accounts (BadLine line reason) is = absurd is
own accounts LinkFault is = tt
own accounts NoWorker is = tt
own accounts EntropyFault is = tt
own accounts NoMemory is = tt

pub refused : {A : Type 0} (accounts : List ℕ) (r : Result A HubFault) → IfErr r (λ e. IsOwn e) → IfErr r (λ e. IsRefusal accounts e)
refused accounts (Ok a) is = tt
refused accounts (Err fault) is = own accounts fault is
