-- The definitions, evaluated at values that were worked out beforehand.
use Rattle.std.proofs.Common.{◌≡◌, ℕ, [], ◌∷◌, List, Some, None, refl}
use Rattle.std.specs.Prelude.{codes}
use Rattle.sm_acks.specs.Arena.{Slots, queues_in, stanzas_at}
use Rattle.sm_acks.specs.Queues.{PoolView, list_among, list_of, nodes_of, stanzas_of}
use Rattle.sm_acks.specs.declared.nodes.Ends.{Ends}
use Rattle.sm_acks.specs.declared.nodes.Node.{Node}

abbrev node : ℕ → List ℕ → Node
node next text = record { bytes = record { items = text; spare = 0 }; next = next }

-- a and b stand at the places 0 and 3, c at 2, and nothing at 1
abbrev slots : Slots
slots = Some (node 3 (codes "a")) ∷ None ∷ Some (node 7 (codes "c")) ∷ Some (node 0 (codes "b")) ∷ []

abbrev ends : ℕ → ℕ → ℕ → Ends
ends first last len = record { first = first; last = last; len = len }

abbrev pool : PoolView
pool =
    record {
      queues = record { id = 1; stanzas = codes "a" ∷ codes "b" ∷ [] }
          ∷ record { id = 2; stanzas = codes "c" ∷ [] }
          ∷ record { id = 3; stanzas = [] }
          ∷ [];
      made = 4;
      spare = 1;
    }

three_queues : queues_in slots ((1, ends 0 3 2) ∷ (2, ends 2 2 1) ∷ (3, ends 9 9 0) ∷ []) ≡ pool.queues
unfolding queues_in stanzas_at
three_queues = refl

-- the first queue behind the second: c, a, b
handed_over : stanzas_at (Some (node 3 (codes "a")) ∷ None ∷ Some (node 0 (codes "c")) ∷ Some (node 0 (codes "b")) ∷ []) (ends 2 3 3) ≡ codes "c" ∷ codes "a" ∷ codes "b" ∷ []
unfolding stanzas_at
handed_over = refl

second_queue : stanzas_of 2 pool ≡ Some (codes "c" ∷ [])
unfolding list_among
second_queue = refl

empty_queue : stanzas_of 3 pool ≡ Some []
unfolding list_among
empty_queue = refl

no_queue : stanzas_of 4 pool ≡ None
unfolding list_among
no_queue = refl

first_list : list_of 1 pool ≡ codes "a" ∷ codes "b" ∷ []
unfolding list_among
first_list = refl

four_nodes : nodes_of pool ≡ 4
four_nodes = refl
