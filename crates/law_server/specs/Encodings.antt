-- A server with what is known of its bytes, each thing that is put turned into another; and the server of bytes that
-- writes what a server of items puts.
use Rattle.std.specs.Prelude.{ℕ, List}
use Rattle.srv_state.specs.State.{Out, ServerState, Step}
use Rattle.srv_core.specs.Events.{Whole, whole}
use Rattle.law_server.specs.Rendered.{outs_rendered, server_state_rendered, step_rendered}
use Rattle.xml_writer.specs.Items.{ItemOut, written_item}

abbrev pub whole_rendered : {A B : Type 0} → (A → B) → Whole A → Whole B
whole_rendered f w = whole (server_state_rendered f w.server_state) w.framers

-- ---- items and their bytes

-- what is put is the item itself
abbrev pub itself : ItemOut → ItemOut
itself item = item

abbrev pub server_state_written : ServerState ItemOut → ServerState (List ℕ)
server_state_written h = server_state_rendered written_item h

abbrev pub outs_written : List (Out ItemOut) → List (Out (List ℕ))
outs_written outs = outs_rendered written_item outs

abbrev pub step_written : Step ItemOut → Step (List ℕ)
step_written s = step_rendered written_item s

abbrev pub whole_written : Whole ItemOut → Whole (List ℕ)
whole_written w = whole_rendered written_item w
