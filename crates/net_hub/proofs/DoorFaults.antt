-- Faults of the door, as the server tells them.
use Rattle.std.proofs.Common.{◌≡◌, ◌≢◌, ℕ, ◌<◌, List, [], ◌++◌, length, Result, Err, inl, inr, refl, sym, ◌∙◌, append-nil, arith}
use Rattle.std.specs.Prelude.{◌⊎◌}
use Rattle.base_io.specs.Counts.{Rose}
use Rattle.net_traits.specs.Links.{LinkView}
use Rattle.net_traits.specs.Opens.{IsFaultCounted}
use Rattle.net_traits.specs.declared.fault.OpenFault.{OpenFault}
use Rattle.net_traits.specs.declared.fault.OpenFault.TheVariants as opens
use Rattle.net_hub.specs.Faults.{of_door}
use Rattle.net_hub.specs.GivenLinks.{AreFewer}
use Rattle.net_hub.specs.Served.{IsRefusal}
use Rattle.net_hub.specs.declared.fault.HubFault.{HubFault}
use Rattle.net_hub.specs.declared.fault.HubFault.TheVariants.{LinkFault, NoWorker, EntropyFault, NoMemory}

-- it is one of two
pub door_fault : (fault : OpenFault) → (of_door fault ≡ LinkFault) ⊎ (of_door fault ≡ NoMemory)
door_fault opens.Failed = inl refl
door_fault opens.NoMemory = inr refl

-- the accounts do not cause it
pub door_refused : (accounts : List ℕ) (fault : OpenFault) → IsRefusal accounts (of_door fault)
door_refused accounts opens.Failed = tt
door_refused accounts opens.NoMemory = tt

module _ {A : Type 0} where
  abbrev fails : HubFault → Result A HubFault
  fails fault = Err fault

  same_fault : (one other : HubFault) → fails one ≡ fails other → one ≡ other
  same_fault one other is = cc

  -- where it is no want of memory, the count of faults rose
  pub door_rose : (fault : OpenFault) (given : HubFault) (before now : ℕ) → given ≡ of_door fault → fails given ≡ fails LinkFault → IsFaultCounted before now fault → Rose before now
  door_rose opens.Failed given before now of is counted = counted.1
  door_rose opens.NoMemory given before now of is counted = let both : NoMemory ≡ LinkFault = sym of ∙ same_fault given LinkFault is in absurd (cc)

  -- it is none of the spawner, nor of the source of random bytes
  pub door_no_worker : (fault : OpenFault) (given : HubFault) → given ≡ of_door fault → ¬ (fails given ≡ fails NoWorker)
  door_no_worker opens.Failed given of is = let both : LinkFault ≡ NoWorker = sym of ∙ same_fault given NoWorker is in cc
  door_no_worker opens.NoMemory given of is = let both : NoMemory ≡ NoWorker = sym of ∙ same_fault given NoWorker is in cc

  pub door_no_entropy : (fault : OpenFault) (given : HubFault) → given ≡ of_door fault → ¬ (fails given ≡ fails EntropyFault)
  door_no_entropy opens.Failed given of is = let both : LinkFault ≡ EntropyFault = sym of ∙ same_fault given EntropyFault is in cc
  door_no_entropy opens.NoMemory given of is = let both : NoMemory ≡ EntropyFault = sym of ∙ same_fault given EntropyFault is in cc

-- no link came back, which are fewer than some
pub none_fewer : (n : ℕ) (old new : List LinkView) → new ≡ old → n ≢ 0 → AreFewer n old new
none_fewer n old new same some_one = record { links = []; given = same ∙ sym (append-nil old); fewer = grind arith }
