-- Lists whose items are changed at a place, or under a number. Numbers begin at 1.
use Rattle.std.specs.Prelude.{ℕ, zero, suc, List, [], ◌∷◌, Option, Some, None}

-- the item at a place, from 0, is changed, where there is one
abbrev pub changed_at : {T : Type 0} → ℕ → (T → T) → List T → List T
changed_at position f [] = []
changed_at zero f (item ∷ items) = f item ∷ items
changed_at (suc position) f (item ∷ items) = item ∷ changed_at position f items

-- the same of a place that may be none
abbrev pub changed_where : {T : Type 0} → Option ℕ → (T → T) → List T → List T
changed_where None f items = items
changed_where (Some position) f items = changed_at position f items

-- the place of a number
abbrev pub position_under : ℕ → Option ℕ
position_under zero = None
position_under (suc position) = Some position

-- the item under a number is changed, where there is one
abbrev pub changed_under : {T : Type 0} → ℕ → (T → T) → List T → List T
changed_under number f items = changed_where (position_under number) f items
