-- The links whose halves were given back.
use Rattle.std.specs.Prelude.{List, map}
use Rattle.net_traits.specs.GivenBack.{items_back}
use Rattle.net_traits.specs.Halves.{IncomingView, OutgoingView, link_of}
use Rattle.net_traits.specs.declared.given_back.GivenBack.{GivenBack}
use Rattle.net_traits.specs.Links.{LinkView}

abbrev pub links_back : {I O : Type 0} → (I → IncomingView) → (O → OutgoingView) → GivenBack (I × O) → List LinkView
links_back incoming outgoing back = map (λ halves. link_of (incoming halves.0) (outgoing halves.1)) (items_back back)
