-- What the places of connections have to do with what was taken from the queue, and with the events.
use Rattle.std.specs.Prelude.{◌≡◌, ℕ, zero, suc, ◌+◌, ◌<◌, ◌⊎◌, Bool, true, false, List, [], ◌∷◌, length, if◌then◌else◌, Option, Some, None, IfSome, is_some}
use mathlib.Core.Option.{none, some}
use mathlib.Core.Option as maybe
use lib.ListN.{get_elem?}
use Rattle.net_owner.specs.Events.{Connect, Event, Gone, Told, shown, told_of}
use Rattle.net_owner.specs.declared.position.Slot.{Slot}
use Rattle.net_owner.specs.Merge.{items_of}
use Rattle.net_owner.specs.Feeds.{has_end, number}
use Rattle.net_owner.specs.declared.item.Item.{Item}

module _ {P : Type 0} where
  -- behind its connect, what happens to a connection is what was taken of its reader; where none was started, it is gone
  abbrev pub feed_from : {W : Type 0} → Option W → List (Item P) → List Told
  feed_from None taken = Gone ∷ []
  feed_from (Some _) taken = told_of taken

module _ {R I P : Type 0} where
  module _ (events : List Event) (got : List (Item P)) where
    pub record IsPlaced (k : ℕ) (p : Slot R I P) : Type 0 where
      pub number_is : IfSome p.worker (λ job. job.from ≡ k)
      pub events_are : shown k events ≡ Connect ∷ feed_from p.worker (items_of number k got)
      pub ended : p.ended ≡ true → has_end (items_of number k got) ≡ true

    -- each connection has its place, and nothing happens to any other number
    pub record AreKept (positions : List (Slot R I P)) : Type 0 where
      pub placed : (i : ℕ) (p : Slot R I P) → get_elem? positions i ≡ some p → IsPlaced (i + 1) p
      pub others : (k : ℕ) → (k ≡ 0) ⊎ (length positions < k) → shown k events ≡ []

  -- no reader of this number was started
  abbrev pub HasNoReader : List (Slot R I P) → ℕ → Type 0
  HasNoReader positions k = (i : ℕ) (p : Slot R I P) → get_elem? positions i ≡ some p → i + 1 ≡ k → p.worker ≡ None

  -- a reader was started, and stands at this index
  pub record IsStarted (positions : List (Slot R I P)) (i : ℕ) : Type 0 where
    pub position : Slot R I P
    pub there : get_elem? positions i ≡ some position
    pub some_one : position.worker ≡ None → ⊥

  -- no reader goes on
  abbrev pub is_over : Slot R I P → Bool
  is_over p = if is_some p.worker then p.ended else true

  unfoldable pub are_over : List (Slot R I P) → Bool
  are_over [] = true
  are_over (p ∷ ps) = if is_over p then are_over ps else false

  -- a reader was started at each place
  unfoldable pub are_started : List (Slot R I P) → Bool
  are_started [] = true
  are_started (p ∷ ps) = if is_some p.worker then are_started ps else false

  abbrev pub feed_of : maybe.Option (Slot R I P) → ℕ → List (Item P) → List Told
  feed_of none k got = []
  feed_of (some p) k got = Connect ∷ feed_from p.worker (items_of number k got)

  -- the feed of each connection: its connect, and then what was taken of its reader
  abbrev pub feeds : List (Slot R I P) → List (Item P) → ℕ → List Told
  feeds positions got zero = []
  feeds positions got (suc i) = feed_of (get_elem? positions i) (suc i) got
