-- Queues kept in one arena: each stanza in a node that has the place of the next one, and of each queue the places of its
-- first and last node and its length.
use Rattle.std.specs.Prelude.{◌≡◌, ◌≢◌, ℕ, zero, suc, ◌<◌, ◌≤◌, List, [], ◌∷◌, map, Option, None, Some, IsSome, nat_eq, slice_index_or, sum_by}
use Rattle.std.specs.HashMap as hash
use Rattle.std.specs.HashMap.{HashMap}
use Rattle.slab.specs.Slab.{Slab, slab_len}
use Rattle.sm_acks.specs.Queues.{QueueView}
use Rattle.sm_acks.specs.declared.nodes.Ends.{Ends}
use Rattle.sm_acks.specs.declared.nodes.Node.{Node}

-- what stands at a place, and what it says
abbrev pub Slots : Type 0
Slots = List (Option Node)

abbrev pub node_at : Slots → ℕ → Option Node
node_at slots at = slice_index_or slots at None

abbrev pub next_in : Option Node → ℕ
next_in None = 0
next_in (Some node) = node.next

abbrev pub bytes_in : Option Node → List ℕ
bytes_in None = []
bytes_in (Some node) = node.bytes.items

-- the places of so many nodes, from this one on
abbrev pub path : Slots → ℕ → ℕ → List ℕ
path slots zero at = []
path slots (suc n) at = at ∷ path slots n (next_in (node_at slots at))

abbrev pub path_of : Slots → Ends → List ℕ
path_of slots ends = path slots ends.len ends.first

-- the stanzas of a queue, the oldest first
abbrev pub bytes_along : Slots → List ℕ → List (List ℕ)
bytes_along slots positions = map (λ at. bytes_in (node_at slots at)) positions

unfoldable pub stanzas_at : Slots → Ends → List (List ℕ)
stanzas_at slots ends = bytes_along slots (path_of slots ends)

-- the queues
unfoldable pub queues_in : Slots → List (ℕ × Ends) → List QueueView
queues_in slots entries = map (λ e. record { id = e.0; stanzas = stanzas_at slots e.1 }) entries

-- ---- the rule

-- a place is none of these, no place stands twice, and no place stands in both
abbrev pub Lacks : ℕ → List ℕ → Type 0
Lacks at [] = Unit {0}
Lacks at (p ∷ positions) = (at ≢ p) × Lacks at positions

abbrev pub AreOnce : List ℕ → Type 0
AreOnce [] = Unit {0}
AreOnce (p ∷ positions) = Lacks p positions × AreOnce positions

abbrev pub AreApart : List ℕ → List ℕ → Type 0
AreApart [] others = Unit {0}
AreApart (p ∷ positions) others = Lacks p others × AreApart positions others

-- each place has a node
abbrev pub AreHeld : Slots → List ℕ → Type 0
AreHeld slots [] = Unit {0}
AreHeld slots (p ∷ positions) = IsSome (node_at slots p) × AreHeld slots positions

-- where there are places, this is the last
abbrev pub EndsIn : ℕ → List ℕ → Type 0
EndsIn last [] = Unit {0}
EndsIn last (p ∷ []) = p ≡ last
EndsIn last (p ∷ q ∷ positions) = EndsIn last (q ∷ positions)

-- a queue's nodes are there, each once, up to the last
pub record IsLinked (slots : Slots) (ends : Ends) : Type 0 where
  pub held : AreHeld slots (path_of slots ends)
  pub once : AreOnce (path_of slots ends)
  pub ended : EndsIn ends.last (path_of slots ends)

-- each node but those at these places stays as it was, and there are as many
pub record LeavesOthers (old new : Slab Node) (positions : List ℕ) : Type 0 where
  pub others : (at : ℕ) → Lacks at positions → node_at new.slots at ≡ node_at old.slots at
  pub len : slab_len new ≡ slab_len old
  pub capacity : new.capacity ≡ old.capacity

-- how many nodes the queues have in all
abbrev pub held_in : {S : Type 0} → HashMap ℕ Ends S → ℕ
held_in ends = sum_by (λ (e : Ends). e.len) (hash.values ends)

-- the queues, by their numbers, share no node; no number is above the last one given; and each node is a queue's
pub record IsArena {S : Type 0} (nodes : Slab Node) (ends : HashMap ℕ Ends S) (made : ℕ) : Type 0 where
  pub linked : (q : ℕ) (e : Ends) → hash.get nat_eq ends q ≡ Some e → IsLinked nodes.slots e
  pub apart : (q r : ℕ) (e f : Ends) → hash.get nat_eq ends q ≡ Some e → hash.get nat_eq ends r ≡ Some f → q ≢ r
      → AreApart (path_of nodes.slots e) (path_of nodes.slots f)
  pub given : (q : ℕ) → made < q → hash.get nat_eq ends q ≡ None
  pub counted : held_in ends ≡ slab_len nodes
  pub fits : slab_len nodes ≤ nodes.capacity
