-- What is told of one direction of a stream: its items, and then that this is all, or where it is wrong (RFC 6120,
-- sections 4 and 11).
use Rattle.std.specs.Prelude.{ℕ, Bool, true, false, List, [], ◌∷◌, ◌++◌, Option, Some, None, codes}
use Rattle.xml_check.specs.Lines.{end_line, fault_line, item_line, strange_at, truncated_line, why_name}
use Rattle.xml_framer.specs.Limits.{server_limits}
use Rattle.xml_framer.specs.Machine.{part_of, run}
use Rattle.xml_framer.specs.States.{State, Turn, from_start, turn}
use Rattle.xml_framer.specs.declared.fault.Fault.{Fault}
use Rattle.xml_framer.specs.declared.items.Item.{Item}

-- the lines, and whether nothing is wrong
pub record Told : Type 0 where
  pub text : List ℕ
  pub sound : Bool

abbrev pub sound_with : List ℕ → Told
sound_with text = record { text = text; sound = true }

abbrev pub wrong_with : List ℕ → Told
wrong_with text = record { text = text; sound = false }

-- an item may be unfinished where the bytes end
abbrev pub told_part : Option ℕ → Told
told_part None = sound_with end_line
told_part (Some at) = wrong_with (truncated_line at)

abbrev pub told_fault : Option Fault → Option ℕ → Told
told_fault None part = told_part part
told_fault (Some fault) part = wrong_with (fault_line fault.at (why_name fault.why))

-- what is told behind all items
unfoldable pub told_last : State → Told
told_last s = told_fault s.fault (part_of s)

abbrev pub told_after : List ℕ → Told → Told
told_after line rest = record { text = line ++ rest.text; sound = rest.sound }

-- an item's line and what is told behind it; behind a strange header nothing is told
abbrev pub told_item : Option ℕ → List ℕ → Told → Told
told_item None line rest = told_after line rest
told_item (Some at) line rest = wrong_with (fault_line at (codes "InvalidNamespace"))

abbrev pub told_items : List Item → Told → Told
told_items [] last = last
told_items (i ∷ more) last = told_item (strange_at i) (item_line i) (told_items more last)

-- what is told of the stream's state and items
abbrev pub told_turn : Turn → Told
told_turn t = told_items t.items (told_last t.state)

-- what is told of the bytes of a stream, under the limits of a server
unfoldable pub told : List ℕ → Told
told input = told_turn (run (turn (from_start server_limits) []) input)
