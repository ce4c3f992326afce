-- The connections that came in, and their places.
use Rattle.std.specs.Prelude.{◌≡◌, ℕ, suc, ◌+◌, Bool, true, false, List, [], ◌∷◌, length, if◌then◌else◌, Option, None}
use Rattle.net_owner.specs.Positions.{are_started}
use Rattle.net_owner.specs.declared.position.Slot.{Slot}
use Rattle.net_owner.specs.declared.trouble.Trouble.{Trouble}
use Rattle.net_owner.specs.Merge.{items_of}
use Rattle.net_owner.specs.Acceptors.{is_arrival}
use Rattle.net_owner.specs.Feeds.{number}
use Rattle.net_owner.specs.declared.item.Item.{Item}
use Rattle.net_owner.specs.declared.item.What.{What}
use Rattle.net_owner.specs.declared.item.What.TheVariants.{Came, Gave, Ended, Closed, Wanted}

module _ {P : Type 0} where
  -- how many connections came in
  unfoldable pub arrivals : List (Item P) → ℕ
  arrivals [] = 0
  arrivals (x ∷ xs) = if is_arrival x.what then suc (arrivals xs) else arrivals xs

  -- the end of all connections that come in
  abbrev pub is_closed : What P → Bool
  is_closed (Came _) = false
  is_closed (Gave _) = false
  is_closed Ended = false
  is_closed Closed = true
  is_closed Wanted = false

  -- one of them is that end
  unfoldable pub has_closed : List (Item P) → Bool
  has_closed [] = false
  has_closed (x ∷ xs) = if is_closed x.what then true else has_closed xs

module _ {R I P : Type 0} where
  -- The door is closed only once the acceptor's last item was taken. As long as nothing went wrong outside, each connection that
  -- was taken of the acceptor has its place and its reader, but for so many that wait for them.
  pub record AreHere (waiting : ℕ) (got : List (Item P)) (closed : Bool) (met : Option Trouble) (positions : List (Slot R I P)) : Type 0 where
    pub last : closed ≡ true → has_closed (items_of number 0 got) ≡ true
    pub started : met ≡ None → are_started positions ≡ true
    pub many : met ≡ None → length positions + waiting ≡ arrivals (items_of number 0 got)
