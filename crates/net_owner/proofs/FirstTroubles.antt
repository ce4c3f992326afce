-- What was met first stays, and so does its cause.
use Rattle.std.proofs.Common.{◌≡◌, ℕ, ◌≤◌, Option, Some, None, ◌∙◌, arith}
use Rattle.base_io.specs.Counts.{Rose}
use Rattle.net_owner.specs.Troubles.{HasMet, first_of}
use Rattle.net_owner.specs.declared.trouble.Trouble.{Trouble}
use Rattle.net_owner.specs.declared.trouble.Trouble.TheVariants.{Worker, Entropy}

later : (a b c : ℕ) → Rose a b → b ≤ c → Rose a c
later a b c rose le = omega (arith, rose, le)

after_same : (a b c : ℕ) → b ≡ a → Rose b c → Rose a c
after_same a b c same rose = omega (arith, same, rose)

-- neither count rose
pub met_quiet : (met : Option Trouble) (s e t f u g : ℕ) → u ≡ t → g ≡ f → HasMet met s e t f → HasMet met s e u g
met_quiet None s e t f u g same and_same h = (same ∙ h.0, and_same ∙ h.1)
met_quiet (Some Worker) s e t f u g same and_same h = omega (arith, h, same)
met_quiet (Some Entropy) s e t f u g same and_same h = omega (arith, h, and_same)

-- the spawner's count rose
pub met_worker : (met : Option Trouble) (s e t f u g : ℕ) → Rose t u → t ≤ u → g ≡ f → HasMet met s e t f → HasMet (first_of met Worker) s e u g
met_worker None s e t f u g rose le and_same h = after_same s t u h.0 rose
met_worker (Some Worker) s e t f u g rose le and_same h = later s t u h le
met_worker (Some Entropy) s e t f u g rose le and_same h = omega (arith, h, and_same)

-- the count of the source of random bytes rose
pub met_entropy : (met : Option Trouble) (s e t f g : ℕ) → Rose f g → HasMet met s e t f → HasMet (first_of met Entropy) s e t g
met_entropy None s e t f g rose h = after_same e f g h.1 rose
met_entropy (Some Worker) s e t f g rose h = h
met_entropy (Some Entropy) s e t f g rose h = omega (arith, h, rose)
