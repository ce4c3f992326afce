-- A pipe of bytes as an encoding of a pipe of items, at the framer that reads it.
use Rattle.std.specs.Prelude.{ℕ, ◌≡◌, false, true, List, [], Option, Some, None, drop, map, take}
use Rattle.law_xml.specs.Carries.{Carries, held}
use Rattle.xml_framer.specs.Machine.{run}
use Rattle.xml_framer.specs.States.{State, turn}
use Rattle.xml_framer.specs.declared.items.Item.{Item}
use Rattle.xml_framer.specs.declared.limits.Limits.{Limits}
use Rattle.xml_framer.specs.declared.states.Phase.{Phase}
use Rattle.law_xml.specs.Spells.{placed}
use Rattle.sim_3_items.specs.ItemPipes as items
use Rattle.sim_3_items.specs.ItemPipes.{ItemPipe}
use Rattle.sim_3_items.specs.ItemWorlds.{read_of}
use Rattle.net_pipes.specs.Pipes.{Pipe, cut_to, handed}
use Rattle.xml_writer.specs.Items.{ItemOut}
use Rattle.law_xml.specs.Puts.{StandsAt}

-- the items that a framer gives are those that were put, but for the places of headers
abbrev pub AreRead : List Item → List ItemOut → Type 0
AreRead items outs = map (placed 0) items ≡ map read_of outs

-- Who writes stands at a phase of its stream: it has the first header to put, stands behind one, or behind the footer.
-- Where it puts nothing more, at none.
abbrev pub WriterStands : Option Phase → State → Type 0
WriterStands None t = Unit {0}
WriterStands (Some now) t = StandsAt t now

-- what is put next comes to the framer in this state
pub record Awaits (limits : Limits) (writer : Option Phase) (t : State) : Type 0 where
  pub limits_are : t.limits ≡ limits
  pub stands : WriterStands writer t

-- The bytes, behind those that the framer has in hand, carry the items. Where the pipe hasn't ended, its writer may go on.
pub record Standing (limits : Limits) (writer : Option Phase) (f : State) (b : Pipe) (p : ItemPipe) : Type 0 where
  pub start : State
  pub part : List ℕ
  pub items : List Item
  pub following : State
  pub held_is : f ≡ held start part
  pub carries : Carries start part b items following
  pub read : AreRead items p.items
  pub awaits : b.ended ≡ false → Awaits limits writer following

-- nothing is under way, and nothing comes
pub record Over (b : Pipe) (p : ItemPipe) : Type 0 where
  pub no_bytes : b.bytes ≡ []
  pub no_items : p.items ≡ []
  pub has_ended : b.ended ≡ true

-- by the framer that reads the pipe, where there is one; a pipe that is over needs none
pub data IsCarried (limits : Limits) (writer : Option Phase) (reader : Option State) (b : Pipe) (p : ItemPipe) : Type 0 where
  over : Over b p → IsCarried limits writer reader b p
  standing : (f : State) → reader ≡ Some f → Standing limits writer f b p → IsCarried limits writer reader b p

-- the same end, told or not, and the same items
pub record PipeEncodes (limits : Limits) (writer : Option Phase) (reader : Option State) (b : Pipe) (p : ItemPipe) : Type 0 where
  pub ended : b.ended ≡ p.ended
  pub told : b.told ≡ p.told
  pub carried : IsCarried limits writer reader b p

-- ---- some first items

-- so many bytes stay, and so many items
pub record IsCut (limits : Limits) (writer next : Option Phase) (reader : Option State) (b : Pipe) (p : ItemPipe) (n : ℕ) : Type 0 where
  pub count : ℕ
  pub encodes : PipeEncodes limits next reader (cut_to n b) (items.cut_to count p)

-- so many items are handed over
abbrev pub dropped : ℕ → ItemPipe → ItemPipe
dropped count p = record p { items = drop count p.items }

-- The framer gives the first items, and the pipe carries the others.
pub record IsHanded (limits : Limits) (writer : Option Phase) (f : State) (b : Pipe) (p : ItemPipe) (n : ℕ) : Type 0 where
  pub count : ℕ
  pub first : List Item
  pub now : State
  pub run_is : run (turn f []) (take n b.bytes) ≡ turn now first
  pub no_fault : now.fault ≡ None
  pub read : AreRead first (take count p.items)
  pub encodes : PipeEncodes limits writer (Some now) (handed n b) (dropped count p)
