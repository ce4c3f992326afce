-- The halves that a taker was given, and the readers of the same links.
use Rattle.std.specs.Prelude.{◌≡◌, ℕ, true, List, ◌++◌, IfSome}
use mathlib.Core.Option.{some}
use lib.ListN.{get_elem?}
use Rattle.crossbeam_channel.specs.Claims.{view, IsSeatAt}
use Rattle.crossbeam_channel.specs.Ends.{sends_on, receives_on}
use Rattle.net_traits.specs.Halves.{IncomingView, IsUnusedPair, OutgoingView}
use Rattle.net_owner.specs.declared.owner.Owner.{Owner}
use Rattle.net_owner.specs.declared.position.Slot.{Slot}

-- the second list begins with the first
abbrev pub AreFirst : List ℕ → List ℕ → Type 0
AreFirst xs ys = (more : List ℕ) × (ys ≡ xs ++ more)

-- nothing was read of a half, or written to one
abbrev pub IsNew : IncomingView → Type 0
IsNew incoming = (outgoing : OutgoingView) × IsUnusedPair incoming outgoing

abbrev pub IsBlank : OutgoingView → Type 0
IsBlank outgoing = (incoming : IncomingView) × IsUnusedPair incoming outgoing

module _ {R I P T : Type 0} where
  -- What is so of the owner at all times, whatever failed: it can take items from its queue, and the half of each reader that was
  -- started was new, and is of the same link as the taker's half at this place.
  pub record IsHeld (told : I → IncomingView) (numbers : T → List ℕ) (h : Owner R I P T) : Type 0 where
    pub ends : receives_on h.at ≡ sends_on h.to
    pub seat : IsSeatAt (sends_on h.to) h.pass
    pub takes : (view h.pass).takes ≡ true
    pub paired : (i : ℕ) (p : Slot R I P) → get_elem? h.positions.items i ≡ some p
        → IfSome p.worker (λ job. (get_elem? (numbers h.taker) i ≡ some (told job.half).number) × IsNew (told job.half))
