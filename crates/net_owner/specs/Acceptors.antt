-- What the acceptor's answer has to do with its job.
use Rattle.std.specs.Prelude.{◌≡◌, ℕ, zero, suc, ◌≤◌, ◌<◌, Bool, true, false, ◌&&◌, List, [], ◌∷◌, ◌++◌, length, Option, None, Some, IsSome}
use Rattle.crossbeam_channel.specs.Claims.{view, IsSeatAt}
use Rattle.crossbeam_channel.specs.Ends.{sends_on}
use Rattle.base_io.specs.Counts.{counted}
use Rattle.net_traits.specs.Links.{LinkView}
use Rattle.net_traits.specs.Opens.{IsFaultCounted}
use Rattle.net_traits.specs.declared.fault.OpenFault.{OpenFault}
use Rattle.net_owner.specs.Feeds.{has_sent}
use Rattle.net_owner.specs.declared.acceptor.AcceptorAnswer.{AcceptorAnswer}
use Rattle.net_owner.specs.declared.acceptor.AcceptorJob.{AcceptorJob}
use Rattle.net_owner.specs.declared.item.Item.{Item}
use Rattle.net_owner.specs.declared.item.What.{What}
use Rattle.net_owner.specs.declared.item.What.TheVariants.{Came, Gave, Ended, Closed, Wanted}

-- a count that was raised so many times
unfoldable pub counted_times : ℕ → ℕ → ℕ
counted_times zero count = count
counted_times (suc n) count = counted (counted_times n count)

-- What a door's counts of faults tell of an acceptor that ended with a fault, or with none.
abbrev pub IsStopCounted : ℕ → ℕ → Option OpenFault → Type 0
IsStopCounted before now None = now ≡ before
IsStopCounted before now (Some fault) = IsFaultCounted before now fault

module _ {P : Type 0} where
  abbrev pub is_arrival : What P → Bool
  is_arrival (Came _) = true
  is_arrival (Gave _) = false
  is_arrival Ended = false
  is_arrival Closed = false
  is_arrival Wanted = false

  -- connections that came in, and nothing else
  unfoldable pub are_arrivals : List (Item P) → Bool
  are_arrivals [] = true
  are_arrivals (x ∷ xs) = is_arrival x.what && are_arrivals xs

  abbrev pub closed_item : Item P
  closed_item = record { from = 0; what = Closed }

  -- The acceptor sent the connections that came in, and then that no more are taken in: since it has as many as it was to
  -- take in, or since the door failed before that, and then the door's count of faults rose, or wanted memory.
  pub record HasAccepted {R D : Type 0} (faults handed : D → ℕ) (given : D → List LinkView) (job : AcceptorJob R D P) (answer : AcceptorAnswer D P) : Type 0 where
    pub seat : IsSeatAt (sends_on job.to) answer.pass
    pub shape : view answer.pass ≡ has_sent 0 (view answer.pass).put
    pub body : List (Item P)
    pub whole : (view answer.pass).put ≡ body ++ closed_item ∷ []
    pub arrivals : are_arrivals body ≡ true
    pub most : length body ≤ job.count
    pub all : answer.stopped ≡ None → length body ≡ job.count
    pub fewer : IsSome answer.stopped → length body < job.count
    pub cause : IsStopCounted (faults job.door) (faults answer.door) answer.stopped
    pub handed_is : handed answer.door ≡ counted_times (length body) (handed job.door)
    pub given_is : given answer.door ≡ given job.door
