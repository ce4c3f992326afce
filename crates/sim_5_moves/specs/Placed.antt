-- The requests of a device that the server hasn't handled.
use Rattle.std.specs.Prelude.{ℕ, ◌≤◌}
use Rattle.std.specs.List.{AllByRecursion}
use Rattle.sim_1_applications.specs.Devices.{Device}
use Rattle.sim_1_applications.specs.Stanzas.{Request, requests}
use Rattle.sim_1_applications.specs.Pages.{IsGiven}

-- it is for 100 entries at most, behind a number that the archive has given
abbrev pub IsPlaced : ℕ → Request → Type 0
IsPlaced last r = IsGiven last r.after × (r.max ≤ 100)

abbrev pub ArePlaced : ℕ → Device → Type 0
ArePlaced last d = AllByRecursion (IsPlaced last) (requests d.sessions.now.up_rest)
