-- The items that were given back.
use Rattle.std.specs.Prelude.{List, [], ◌∷◌, ◌++◌, Option, Some, None}
use Rattle.net_traits.specs.declared.given_back.GivenBack.{GivenBack, GivenBack', Held-GivenBack-before, None', Some'}

module _ {T : Type 0} where
  abbrev pub option_items : Option T → List T
  option_items None = []
  option_items (Some item) = item ∷ []

  -- those before, in order, and the last one
  abbrev mutual
    pub items_back : GivenBack T → List T
    items_back (GivenBack' last before) = items_before before ++ option_items last

    pub items_before : Held-GivenBack-before T → List T
    items_before None' = []
    items_before (Some' p back) = items_back back

  -- the item that was given back last, where there is one
  abbrev pub last_of : GivenBack T → List T
  last_of (GivenBack' last before) = option_items last

  -- those that were given back before it
  abbrev pub before_of : GivenBack T → List T
  before_of (GivenBack' last before) = items_before before
