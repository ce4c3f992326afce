-- What clauses see of the types, with the room for more, and how each is kept.
use Rattle.std.specs.Prelude.{◌≡◌, ℕ, ◌-◌, ◌^◌, ◌≤◌, ◌<◌, min, Bool, List, All, length}
use Rattle.std.specs.List.Sorted.{IsNonDecreasingBy}
use Rattle.std.specs.VecDeque.{deque_len, deque_capacity}
use Rattle.std.specs.declared.collections.VecDeque.{VecDeque}
use Rattle.sm_acks.specs.Counters.{AckView}
use Rattle.sm_acks.specs.declared.end.TheConstants.{MOST_UNACKNOWLEDGED}
use Rattle.sm_outbox.specs.Sessions.{SessionView}
use Rattle.sm_outbox.specs.Submissions.{SaidView, position}
use Rattle.sm_outbox.specs.Waiting.{Waiting}
use Rattle.sm_outbox.specs.declared.said.Said.{Said}
use Rattle.sm_acks.specs.Queues.{Lives, PoolView, list_of}

-- what waits, and for how many stanzas more there is room
pub record OutboxView : Type 0 where
  pub waiting : Waiting (List ℕ)
  pub spare : ℕ

-- the submissions; how many epochs began, and how many submissions there were since; and for how many more there is room
pub record SubmissionsView : Type 0 where
  pub said : SaidView
  pub epoch : ℕ
  pub n : ℕ
  pub spare : ℕ

-- the session, and for how many stanzas more there is room
pub record HeldSession : Type 0 where
  pub session : SessionView (List ℕ)
  pub spare : ℕ

abbrev pub room_of : {A : Type 0} → PoolView → VecDeque Bool A → ℕ
room_of pool kinds = min pool.spare (deque_capacity kinds - deque_len kinds)

-- the stanzas are in a queue that lives, few enough, and of each it is known whether it is a submission
pub record IsHoused {A : Type 0} (end : AckView) (pool : PoolView) (kinds : VecDeque Bool A) : Type 0 where
  pub lives : Lives end.queue pool
  pub few : length (list_of end.queue pool) ≤ MOST_UNACKNOWLEDGED
  pub both : length (list_of end.queue pool) ≡ length kinds.items

-- its epoch, and its number in it
abbrev pub numbers_of : Said → ℕ × ℕ
numbers_of said = (said.epoch, said.n)

abbrev pub position_at : ℕ × ℕ → ℕ
position_at of = position of.0 of.1

-- epochs and numbers fit 64 bits; and before the last epoch, behind which numbers come again, they ascend up to the last
pub record IsNumbered (numbers : List (ℕ × ℕ)) (epoch n : ℕ) : Type 0 where
  pub fit : All (λ of. (of.0 < 2 ^ 64) × (of.1 < 2 ^ 64)) numbers
  pub rise : epoch < 2 ^ 64 - 1 → IsNonDecreasingBy position_at numbers
  pub low : epoch < 2 ^ 64 - 1 → All (λ of. position_at of ≤ position epoch n) numbers
