-- The links of readers that were joined, and the count of the spawner that started these.
use Rattle.std.specs.Prelude.{◌≡◌, ◌⊎◌, ℕ, ◌+◌, List, ◌++◌, length}
use Rattle.net_traits.specs.Links.{LinkView}
use Rattle.net_owner.specs.Acceptors.{counted_times}

-- so many links were given back, behind those that were before
abbrev pub AreMore : ℕ → List LinkView → List LinkView → Type 0
AreMore n old new = (links : List LinkView) × (new ≡ old ++ links) × (length links ≡ n)

-- The link of each reader was given back: of those that were there, and of as many more as the spawner counted.
pub record HasReaders (there : ℕ) (old new : List LinkView) (started_old started_new : ℕ) : Type 0 where
  pub more : ℕ
  pub given : AreMore (there + more) old new
  pub started : started_new ≡ counted_times more started_old

-- No thread was started, and no link given back; or an acceptor was started, and of each reader that was started the link was
-- given back: the spawner counted one thread more than these links.
abbrev pub HasWorkers : List LinkView → List LinkView → ℕ → ℕ → Type 0
HasWorkers old new started_old started_new =
    ((new ≡ old) × (started_new ≡ started_old)) ⊎ ((links : List LinkView) × (new ≡ old ++ links) × (started_new ≡ counted_times (length links + 1) started_old))
