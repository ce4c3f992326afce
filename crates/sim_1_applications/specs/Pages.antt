-- A page of an archive as the stanzas that answer a request.
use Rattle.std.specs.Prelude.{ℕ, ◌≤◌, List, [], ◌∷◌, ◌++◌, Option, Some, None, map}
use Rattle.mam_pages.specs.Cuts.{CutView}
use Rattle.sim_1_applications.specs.Answers.{last_in}
use Rattle.sim_1_applications.specs.Stanzas.{Down}
use Rattle.sim_1_applications.specs.Stanzas.Down.{Res, Fin, NotFound}

-- its results and its end (XEP-0313 section 4), or that its place isn't there (XEP-0059 section 2.2)
abbrev pub stanzas_of : ℕ → Option CutView → List Down
stanzas_of q None = NotFound q ∷ []
stanzas_of q (Some cut) = map (Res q) cut.numbers ++ Fin q cut.complete (last_in cut.numbers) cut.count ∷ []

-- the place is the archive's beginning, or a number that it has given
abbrev pub IsGiven : ℕ → Option ℕ → Type 0
IsGiven last None = Unit {0}
IsGiven last (Some n) = (1 ≤ n) × (n ≤ last)
