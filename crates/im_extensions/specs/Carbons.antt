-- Carbons (XEP-0280, sections 7 and 8): copies of what another of one's clients sent or received.
use Rattle.std.specs.Prelude.{◌≡◌, ℕ, Bool, true, false, ◌||◌, List, [], Some, codes}
use Rattle.im_payload.specs.Checks.{Check}
use Rattle.im_extensions.specs.Forwarding.{Forwards, WritesForwarded, forward_checks, the_forwarded}
use Rattle.im_payload.specs.Names.{carbons}
use Rattle.im_extensions.specs.declared.carbons.Carbon.{Carbon}
use Rattle.xml_trees.specs.Readers.{is_named}
use Rattle.xml_trees.specs.Trees.{Elem, element, no_nodes, child}

abbrev pub is_sent : Elem → Bool
is_sent e = is_named carbons (codes "sent") e

abbrev pub is_carbon : Elem → Bool
is_carbon e = is_sent e || is_named carbons (codes "received") e

-- which of the two it is, and what is forwarded; the moment of an absent delay is 0
pub record IsCarbon (e : Elem) (v : Carbon) : Type 0 where
  pub named : is_carbon e ≡ true
  pub sent : v.sent ≡ is_sent e
  pub inside : Forwards (Some 0) (the_forwarded e) v.forwarded

abbrev pub carbon_checks : Elem → List Check
carbon_checks e = forward_checks (Some 0) (the_forwarded e)

-- what is written, with a delay always
abbrev pub carbon_name : Bool → List ℕ
carbon_name true = codes "sent"
carbon_name false = codes "received"

abbrev pub carbon_elem : Bool → Elem → Elem
carbon_elem sent forwarded = element carbons (carbon_name sent) [] (child forwarded no_nodes)

pub record WritesCarbon (v : Carbon) (e : Elem) : Type 0 where
  pub forwarded : Elem
  pub forwarded_is : WritesForwarded v.forwarded forwarded
  pub shape : e ≡ carbon_elem v.sent forwarded
