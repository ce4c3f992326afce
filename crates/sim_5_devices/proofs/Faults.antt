-- Where a reaction makes no fault, it is the one of a page that is open, and of an answer that is taken.
use Rattle.std.proofs.Common.{◌≡◌, Bool, true, false, if◌then◌else◌, Option, Some, None, refl}
use Rattle.std.proofs.lemmas.Bool.{true≢false}
use Rattle.std.specs.Option.{option_map_or}
use Rattle.sim_1_applications.specs.Devices.{OpenPage, Reading}
use Rattle.sim_1_applications.specs.Events.{Reaction, refuse, with_page}

pub taken_well : (P : Reaction → Type 0) (b : Reading) (good : Bool) (x : Reaction) → (good ≡ true → P x) → (if good then x else refuse b).reading.faulty ≡ false → P (if good then x else refuse b)
taken_well P b true x holds well = holds refl
taken_well P b false x holds well = absurd (true≢false well)

pub page_well : (P : Reaction → Type 0) (b : Reading) (f : OpenPage → Reading → Reaction) → ((page : OpenPage) → b.page ≡ Some page → (f page b).reading.faulty ≡ false → P (f page b))
    → (with_page f b).reading.faulty ≡ false → P (with_page f b)
page_well P b f holds well = by b.page refl well
  where
    by : (page : Option OpenPage) → b.page ≡ page → (option_map_or (λ page. f page b) page (refuse b)).reading.faulty ≡ false → P (option_map_or (λ page. f page b) page (refuse b))
    by None there well = absurd (true≢false well)
    by (Some page) there well = holds page there well
