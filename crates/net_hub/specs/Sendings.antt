-- What went out on the halves of connections, and which of them are closed.
use Rattle.std.specs.Prelude.{◌≡◌, ℕ, ◌+◌, ◌<◌, ◌≤◌, true, false, Bool, List, length, map, IfSome}
use mathlib.Core.Option.{some}
use lib.ListN.{get_elem?}
use Rattle.net_traits.specs.Halves.{OutgoingView}
use Rattle.net_hub.specs.Puts.{IsFront}
use Rattle.net_hub.specs.declared.sender.Sender.{Sender}

-- The front of these bytes went out on a half, and all of them where no write of it failed. `broken` tells whether one did.
pub record HasSent (bytes : List ℕ) (broken : Bool) (half : OutgoingView) : Type 0 where
  pub front : IfSome half.written (λ written. IsFront written bytes)
  pub all : broken ≡ false → IfSome half.written (λ written. written ≡ bytes)
  pub whole : broken ≡ false → half.faults ≡ 0
  pub broke : broken ≡ true → 1 ≤ half.faults

module _ {O : Type 0} (told : O → OutgoingView) where
  -- so did those of each connection. The half of connection k stands at index k - 1
  abbrev pub HaveSent : (ℕ → List ℕ) → List (Sender O) → Type 0
  HaveSent bytes senders = (i : ℕ) (s : Sender O) → get_elem? senders i ≡ some s → HasSent (bytes (i + 1)) s.broken (told s.half)

  -- the numbers of the links of which these are the halves
  abbrev pub numbers_of : List (Sender O) → List ℕ
  numbers_of senders = map (λ s. (told s.half).number) senders

module _ {O : Type 0} (closed : O → Bool) where
  -- the half at this index is closed
  abbrev pub IsClosed : List (Sender O) → ℕ → Type 0
  IsClosed senders i = (s : Sender O) × (get_elem? senders i ≡ some s) × (closed s.half ≡ true)

  -- each is
  abbrev pub AreClosed : List (Sender O) → Type 0
  AreClosed senders = (i : ℕ) → i < length senders → IsClosed senders i

  -- those that were closed are closed still
  abbrev pub StayClosed : List (Sender O) → List (Sender O) → Type 0
  StayClosed old new = (i : ℕ) → IsClosed old i → IsClosed new i
