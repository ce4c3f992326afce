-- Streams as they are written, one item after another, and the items that are read of them (RFC 6120, sections 4.2 to
-- 4.4).
use Rattle.std.specs.Prelude.{ℕ, ◌+◌, ◌-◌, ◌≤◌, nat_le, if◌then◌else◌, List, [], ◌∷◌, codes, length}
use Rattle.std.specs.List.{flat_map}
use Rattle.xml_trees.specs.Trees.{IsTree}
use Rattle.xml_framer.specs.declared.items.Item.{Item}
use Rattle.xml_framer.specs.declared.items.Item.TheVariants as item
use Rattle.xml_framer.specs.declared.limits.Limits.{Limits}
use Rattle.xml_framer.specs.declared.states.Phase.{Phase}
use Rattle.xml_framer.specs.declared.states.Phase.TheVariants as phase
use Rattle.xml_writer.specs.Canon.{canon, written_footer, written_header}
use Rattle.law_xml.specs.Fitting.{Fits, HeaderFits}
use Rattle.law_xml.specs.Plain.{IsPlain, IsPlainHeader}
use Rattle.law_xml.specs.Spells.{as_written, written_scope}
use Rattle.law_xml.specs.Streams.{InForce, position_of}

-- ---- what is written

abbrev pub written_item : Item → List ℕ
written_item (item.Header at h) = written_header h
written_item (item.Element e) = canon e
written_item item.Footer = written_footer

abbrev pub written_items : List Item → List ℕ
written_items items = flat_map written_item items

-- a plain item that fits, the element a tree
abbrev pub ItemFits : Limits → Item → Type 0
ItemFits limits (item.Header at h) = IsPlainHeader h × HeaderFits limits h
ItemFits limits (item.Element e) = IsTree e × IsPlain e × Fits limits e
ItemFits limits item.Footer = Unit {0}

-- an element that was read is a plain tree that fits, if its bytes aren't too many
abbrev pub CanPass : Limits → Item → Type 0
CanPass limits (item.Header at h) = Unit {0}
CanPass limits (item.Element e) = length (canon e) ≤ limits.bytes → ItemFits limits (item.Element e)
CanPass limits item.Footer = Unit {0}

-- An item may be written there: first a header, then each, and after the footer none.
abbrev pub MayStand : Phase → Item → Type 0
MayStand phase.First (item.Header at h) = Unit {0}
MayStand phase.First (item.Element e) = ⊥
MayStand phase.First item.Footer = ⊥
MayStand phase.FirstDeclared i = ⊥
MayStand phase.Between i = Unit {0}
MayStand phase.Declared i = ⊥
MayStand phase.Ended i = ⊥

abbrev pub phase_after : Item → Phase
phase_after (item.Header at h) = phase.Between
phase_after (item.Element e) = phase.Between
phase_after item.Footer = phase.Ended

-- items may be written one after another
abbrev pub MayFollow : Phase → List Item → Type 0
MayFollow p [] = Unit {0}
MayFollow p (i ∷ more) = MayStand p i × MayFollow (phase_after i) more

-- ---- what is read

-- The item that is read where one is written after so many bytes: a header has the offset of its first byte, and says
-- what a written one does.
abbrev pub read_item : ℕ → Item → Item
read_item offset (item.Header at h) = item.Header (position_of offset) (as_written h)
read_item offset (item.Element e) = item.Element e
read_item offset item.Footer = item.Footer

abbrev pub read_items : ℕ → List Item → List Item
read_items offset [] = []
read_items offset (i ∷ more) = read_item offset i ∷ read_items (offset + length (written_item i)) more

-- the items of which each byte is among so many first ones
abbrev pub whole_items : ℕ → List Item → List Item
whole_items n [] = []
whole_items n (i ∷ more) = if nat_le (length (written_item i)) n then i ∷ whole_items (n - length (written_item i)) more else []

-- ---- what is in force

abbrev pub at_start : InForce
at_start = record { phase = phase.First; scope = []; name = [] }

-- after a written header
abbrev pub in_force : Phase → InForce
in_force p = record { phase = p; scope = written_scope; name = codes "stream:stream" }

abbrev pub now_after : InForce → List Item → InForce
now_after now [] = now
now_after now (i ∷ more) = now_after (in_force (phase_after i)) more
