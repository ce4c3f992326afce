-- Links that a door handed out, and those that were given back to it.
use Rattle.std.specs.Prelude.{◌≡◌, ℕ, ◌<◌, List, [], ◌∷◌, ◌++◌, length}
use Rattle.base_io.specs.Counts.{counted}
use Rattle.net_traits.specs.Links.{LinkView}

-- a count that was raised once for each link
abbrev pub counted_each : List LinkView → ℕ → ℕ
counted_each [] n = n
counted_each (link ∷ links) n = counted_each links (counted n)

-- each link that was handed out was given back, in order
pub record AreGivenBack (handed_old handed_new : ℕ) (old new : List LinkView) : Type 0 where
  pub links : List LinkView
  pub given : new ≡ old ++ links
  pub handed : handed_new ≡ counted_each links handed_old

-- each was, and they were fewer than n
pub record AreFewer (n : ℕ) (old new : List LinkView) : Type 0 where
  pub links : List LinkView
  pub given : new ≡ old ++ links
  pub fewer : length links < n
