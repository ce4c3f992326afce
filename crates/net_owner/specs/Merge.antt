-- What it is that a list of items is a merge of what several senders sent.
use Rattle.std.specs.Prelude.{◌≡◌, ℕ, nat_eq, List, [], ◌∷◌, if◌then◌else◌}

module _ {T : Type 0} (from : T → ℕ) where
  -- the items of one sender, in order
  unfoldable pub items_of : ℕ → List T → List T
  items_of k [] = []
  items_of k (x ∷ xs) = if nat_eq (from x) k then x ∷ items_of k xs else items_of k xs

  -- the items of each sender are its feed, in order, and there are no others: a number that is no sender has the empty feed
  abbrev pub IsMerge : List T → (ℕ → List T) → Type 0
  IsMerge items feeds = (k : ℕ) → items_of k items ≡ feeds k
