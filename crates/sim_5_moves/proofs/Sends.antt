-- Which session a step sends to.
use Rattle.std.proofs.Common.{◌≡◌, ◌≢◌, ℕ, List, [], ◌∷◌, ◌++◌, ap, if◌then◌else◌}
use Rattle.srv_state.specs.Steps.{Act, Send}
use Rattle.sim_2_links.proofs.Entries.{other_number, same_number}
use Rattle.sim_5_moves.specs.Sent.{sends_to}
use Rattle.xml_writer.specs.Items.{Closing, ItemOut, Opening, Whole}
use Rattle.xml_trees.specs.Trees.{Elem, element, no_nodes}

-- what goes to this session comes first, and what goes to another one doesn't
pub sends_here : (n : ℕ) (z : ItemOut) (acts : List (Act ItemOut)) → sends_to n (Send n z ∷ acts) ≡ z ∷ sends_to n acts
sends_here n z acts = ap (λ b. (if b then z ∷ [] else []) ++ sends_to n acts) (same_number n)

pub sends_elsewhere : (m n : ℕ) (z : ItemOut) (acts : List (Act ItemOut)) → m ≢ n → sends_to n (Send m z ∷ acts) ≡ sends_to n acts
sends_elsewhere m n z acts differ = ap (λ b. (if b then z ∷ [] else []) ++ sends_to n acts) (other_number m n differ)

-- the element of an item
abbrev pub elem_in : ItemOut → Elem
elem_in (Whole e) = e
elem_in (Opening h) = element [] [] [] no_nodes
elem_in Closing = element [] [] [] no_nodes
