-- What is so of the owner between two items.
use Rattle.std.specs.Prelude.{◌≡◌, ℕ, ◌+◌, true, false, List, [], ◌∷◌, ◌++◌, length, None, IfSome}
use mathlib.Core.Option.{some}
use lib.ListN.{get_elem?}
use Rattle.crossbeam_channel.specs.Claims.{view, IsSeatAt}
use Rattle.crossbeam_channel.specs.Ends.{sends_on, receives_on}
use Rattle.std.specs.Io.KnownBytes.{Appends}
use Rattle.net_traits.specs.Halves.{IncomingView}
use Rattle.net_owner.specs.Arrivals.{AreHere}
use Rattle.net_owner.specs.Events.{Event}
use Rattle.net_owner.specs.Positions.{AreKept}
use Rattle.net_owner.specs.declared.owner.Owner.{Owner}
use Rattle.net_owner.specs.declared.position.Slot.{Slot}
use Rattle.net_owner.specs.Feeds.{IsFeed, bytes_of}
use Rattle.net_owner.specs.Readers.{HasStopped}
use Rattle.net_owner.specs.declared.item.Item.{Item}
use Rattle.net_owner.specs.declared.item.What.TheVariants.{Ended}
use Rattle.net_owner.specs.declared.reader.ReaderJob.{ReaderJob}

module _ {R I P T : Type 0} where
  -- the owner holds both ends of the queue, and each reader that was started sends on it
  pub record IsOpen (h : Owner R I P T) : Type 0 where
    pub ends : receives_on h.at ≡ sends_on h.to
    pub seat : IsSeatAt (sends_on h.to) h.pass
    pub takes : (view h.pass).takes ≡ true
    pub mute : (view h.pass).sends ≡ false
    pub made : (view h.pass).made ≡ length h.positions.items + 1
    pub same : (i : ℕ) (p : Slot R I P) → get_elem? h.positions.items i ≡ some p → IfSome p.worker (λ job. sends_on job.to ≡ sends_on h.to)

  module _ (events : T → List Event) where
    -- the events are what was taken, and each connection that came has its place
    pub record IsGoing (h : Owner R I P T) : Type 0 where
      pub still : IsOpen h
      pub kept : AreKept (events h.taker) (view h.pass).got h.positions.items
      pub here : AreHere 0 (view h.pass).got h.closed h.met h.positions.items

    -- so it is but for one connection that came, and has no place yet
    pub record IsComing (h : Owner R I P T) : Type 0 where
      pub still : IsOpen h
      pub kept : AreKept (events h.taker) (view h.pass).got h.positions.items
      pub here : AreHere 1 (view h.pass).got h.closed h.met h.positions.items

    -- the events are what was taken but for x, which was taken last
    pub record IsPending (h : Owner R I P T) (x : Item P) : Type 0 where
      pub still : IsOpen h
      pub got : List (Item P)
      pub took : (view h.pass).got ≡ got ++ x ∷ []
      pub kept : AreKept (events h.taker) got h.positions.items
      pub here : AreHere 0 got h.closed h.met h.positions.items

module _ {R I P : Type 0} where
  -- what was taken of a reader is all that its half gave, in pieces, and then its end
  pub record HasGiven (told : I → IncomingView) (job : ReaderJob R I P) (taken : List (Item P)) (half : I) : Type 0 where
    pub feed : IsFeed taken
    pub number : (told half).number ≡ (told job.half).number
    pub ended : feed.last.what ≡ Ended
    pub read : Appends (told job.half).read (told half).read (bytes_of taken)
    pub silent : (told job.half).read ≡ None → (told half).read ≡ None
    pub stopped : HasStopped (told half) (length (bytes_of taken))
