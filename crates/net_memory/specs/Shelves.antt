-- The links on a shelf.
use Rattle.std.specs.Prelude.{List, [], ◌∷◌, ◌++◌, Option, Some, None}
use Rattle.net_traits.specs.Links.{LinkView}
use Rattle.net_memory.specs.InMemory.{MemoryLinkView}
use Rattle.net_memory.specs.declared.shelf.Shelf.{Shelf, Shelf', Held-Shelf-following, None', Some'}

abbrev pub told_of : Option MemoryLinkView → List LinkView
told_of None = []
told_of (Some link) = link.told ∷ []

-- those behind, which were put there before, and then its own
abbrev mutual
  pub links_of : Shelf → List LinkView
  links_of (Shelf' link following) = links_after following ++ told_of link

  pub links_after : Held-Shelf-following → List LinkView
  links_after None' = []
  links_after (Some' p shelf) = links_of shelf

-- the link that was put there last, where there is one
abbrev pub last_of : Shelf → List LinkView
last_of (Shelf' link following) = told_of link

-- those that were put there before it
abbrev pub before_of : Shelf → List LinkView
before_of (Shelf' link following) = links_after following
