-- What went wrong first, and the counts that tell of it.
use Rattle.std.specs.Prelude.{◌≡◌, ℕ, Option, Some, None}
use Rattle.base_io.specs.Counts.{Rose}
use Rattle.net_owner.specs.declared.trouble.Trouble.{Trouble}
use Rattle.net_owner.specs.declared.trouble.Trouble.TheVariants.{Worker, Entropy}

abbrev pub first_of : Option Trouble → Trouble → Option Trouble
first_of None trouble = Some trouble
first_of (Some met) trouble = Some met

-- Nothing went wrong, and neither the spawner's count nor that of the source of random bytes rose; or the count rose of what
-- was met first. `s` and `e` are the two counts at first, `t` and `f` now.
abbrev pub HasMet : Option Trouble → ℕ → ℕ → ℕ → ℕ → Type 0
HasMet None s e t f = (t ≡ s) × (f ≡ e)
HasMet (Some Worker) s e t f = Rose s t
HasMet (Some Entropy) s e t f = Rose e f
