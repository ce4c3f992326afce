-- An account's archive as a list: the takes that concern it, with the numbers 1, 2, 3 and so on, of which the last KEEP
-- are kept.
use Rattle.std.specs.Prelude.{ℕ, ◌+◌, ◌-◌, List, [], ◌∷◌, filter, length, drop}
use Rattle.sim_1_applications.specs.Devices.{Take, concerns}

pub record Entry : Type 0 where
  pub number : ℕ
  pub take : Take

abbrev pub numbered_from : ℕ → List Take → List Entry
numbered_from n [] = []
numbered_from n (t ∷ ts) = record { number = n; take = t } ∷ numbered_from (n + 1) ts

unfoldable pub archive_of : List ℕ → List Take → List Entry
archive_of account takes = numbered_from 1 (filter (concerns account) takes)

abbrev pub kept_of : ℕ → List Entry → List Entry
kept_of keep entries = drop (length entries - keep) entries
