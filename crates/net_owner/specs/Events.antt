-- What happens to connections.
use Rattle.std.specs.Prelude.{◌≡◌, ℕ, nat_eq, List, [], ◌∷◌, ◌++◌, if◌then◌else◌}
use Rattle.net_owner.specs.declared.item.Item.{Item}
use Rattle.net_owner.specs.declared.item.What.{What}
use Rattle.net_owner.specs.declared.item.What.TheVariants as what

-- a connection begins; it gives bytes; it is gone
pub data Told : Type 0 where
  Connect : Told
  Gave : List ℕ → Told
  Gone : Told

-- what happens to the connection of this number
pub record Event : Type 0 where
  pub conn : ℕ
  pub told : Told

abbrev pub event : ℕ → Told → Event
event k told = record { conn = k; told = told }

-- what happens to one connection, in order
unfoldable pub shown : ℕ → List Event → List Told
shown k [] = []
shown k (e ∷ es) = if nat_eq e.conn k then e.told ∷ shown k es else shown k es

-- Events are a merge of feeds: what happens to each connection is its feed, in order, and there are no others.
abbrev pub AreMerged : List Event → (ℕ → List Told) → Type 0
AreMerged events feeds = (k : ℕ) → shown k events ≡ feeds k

module _ {P : Type 0} where
  -- what an item says of its connection
  abbrev pub told_in : What P → List Told
  told_in (what.Came _) = []
  told_in (what.Gave piece) = Gave piece.bytes.items ∷ []
  told_in what.Ended = Gone ∷ []
  told_in what.Closed = []
  told_in what.Wanted = []

  unfoldable pub told_of : List (Item P) → List Told
  told_of [] = []
  told_of (x ∷ xs) = told_in x.what ++ told_of xs
