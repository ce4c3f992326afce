-- What went out on a half.
use Rattle.std.specs.Option.{ForSome}
use Rattle.std.specs.Prelude.{◌≡◌, ℕ, ◌≤◌, true, false, Bool, List, [], ◌++◌, IfSome}
use Rattle.net_traits.specs.Halves.{OutgoingView}

-- bytes begin with these
abbrev pub IsPrefix : List ℕ → List ℕ → Type 0
IsPrefix prefix bytes = (rest : List ℕ) × (bytes ≡ prefix ++ rest)

-- A prefix of these bytes went out on a half, and all of them where no write of it failed. `broken` tells whether one did.
pub record HasSent (bytes : List ℕ) (broken : Bool) (half : OutgoingView) : Type 0 where
  pub prefix : IfSome half.written (λ written. IsPrefix written bytes)
  pub all : broken ≡ false → IfSome half.written (λ written. written ≡ bytes)
  pub whole : broken ≡ false → half.faults ≡ 0
  pub broke : broken ≡ true → 1 ≤ half.faults

-- nothing was written to a half
pub record IsUnwritten (half : OutgoingView) : Type 0 where
  pub written : ForSome half.written (λ bytes. bytes ≡ [])
  pub faults : half.faults ≡ 0
