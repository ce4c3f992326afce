-- What was handed over for a connection, what was put into its writer's queue, and what the writer has written in the end.
use Rattle.std.specs.Prelude.{◌≡◌, ◌⊎◌, ℕ, ◌≤◌, Bool, true, false, List, [], ◌∷◌, ◌++◌, length, IfSome, if◌then◌else◌}
use Rattle.crossbeam_channel.specs.Claims.{view, IsSeatAt}
use Rattle.crossbeam_channel.specs.Ends.{receives_on, ruled_capacity, sends_on}
use Rattle.net_traits.specs.Halves.{OutgoingView}
use Rattle.net_queues.specs.Rule.{side}
use Rattle.net_queues.specs.declared.rule.Side.{Side}
use Rattle.net_writers.specs.declared.lane.Lane.{Lane}
use Rattle.net_writers.specs.declared.lane.TheConstants.{MOST_WAITING}
use Rattle.net_writers.specs.Takings.{are_puts, bytes_of}
use Rattle.net_writers.specs.Sent.{IsPrefix}
use Rattle.net_writers.specs.declared.parcel.Parcel.{Parcel}
use Rattle.net_writers.specs.declared.parcel.Parcel.TheVariants.{End}

-- The queue got the bytes that were handed over, in order, and then the end where that was put: all of them, unless a parcel or
-- the end was refused, and then as many parcels as the queue has room for. They are no more than `count` outputs.
pub record IsPut (bytes : List ℕ) (count : ℕ) (overrun shut ended : Bool) (v : Side Parcel) : Type 0 where
  pub body : List Parcel
  pub shape : v ≡ side true false (body ++ (if ended then End ∷ [] else [])) []
  pub puts : are_puts body ≡ true
  pub rest : List ℕ
  pub whole : bytes ≡ bytes_of body ++ rest
  pub many : length body ≤ count
  pub all : overrun ≡ false → rest ≡ []
  pub full : overrun ≡ true → MOST_WAITING ≤ length body
  pub due : ended ≡ true → (overrun ≡ true) ⊎ (shut ≡ true)

module _ {R O : Type 0} where
  -- these bytes of `count` outputs were handed over by this side
  pub record IsLane (bytes : List ℕ) (count : ℕ) (lane : Lane R O) : Type 0 where
    pub seat : IsSeatAt (sends_on lane.to) lane.pass
    pub room : ruled_capacity (sends_on lane.to) ≡ MOST_WAITING
    pub queue : receives_on lane.worker.at ≡ sends_on lane.to
    pub put : IsPut bytes count lane.overrun lane.shut lane.ended (view lane.pass)

-- What was written in the end is a prefix of the bytes that were handed over: all of them where no write failed, unless the
-- connection was overrun, and then they were of so many outputs at least. The half is that of the job.
pub record HasLeft (bytes : List ℕ) (count : ℕ) (overrun : Bool) (first now : OutgoingView) : Type 0 where
  pub number : now.number ≡ first.number
  pub prefix : IfSome now.written (λ written. IsPrefix written bytes)
  pub all : overrun ≡ false → now.faults ≡ 0 → IfSome now.written (λ written. written ≡ bytes)
  pub full : overrun ≡ true → MOST_WAITING ≤ count
