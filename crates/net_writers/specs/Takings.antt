-- What a writer takes, from its first parcel to its last.
use Rattle.std.specs.Prelude.{◌≡◌, ℕ, Bool, true, false, ◌&&◌, List, [], ◌∷◌, ◌++◌}
use Rattle.net_queues.specs.Rule.{side}
use Rattle.net_queues.specs.declared.rule.Side.{Side}
use Rattle.net_writers.specs.declared.parcel.Parcel.{Parcel}
use Rattle.net_writers.specs.declared.parcel.Parcel.TheVariants.{Put, End}

abbrev pub is_put : Parcel → Bool
is_put (Put _) = true
is_put End = false

abbrev pub bytes_in : Parcel → List ℕ
bytes_in (Put bytes) = bytes.items
bytes_in End = []

-- bytes, and nothing else
unfoldable pub are_puts : List Parcel → Bool
are_puts [] = true
are_puts (p ∷ ps) = is_put p && are_puts ps

-- the bytes of parcels, joined
unfoldable pub bytes_of : List Parcel → List ℕ
bytes_of [] = []
bytes_of (p ∷ ps) = bytes_in p ++ bytes_of ps

-- what a writer's pass knows once it has taken these
abbrev pub has_taken : List Parcel → Side Parcel
has_taken got = side false true [] got
