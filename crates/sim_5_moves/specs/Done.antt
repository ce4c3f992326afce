-- What the server does on an element of a session.
use Rattle.std.specs.Prelude.{List}
use Rattle.srv_state.specs.Handling.{counting}
use Rattle.srv_state.specs.State.{ServerState, Step}
use Rattle.srv_state.specs.Steps.{Act, acted}
use Rattle.sim_3_items.specs.ItemMoves.{step_of}
use Rattle.sim_3_items.specs.ItemWorlds.{itself}
use Rattle.sm_live.specs.Sessions.{Session, told}
use Rattle.im_stanza.specs.Readings.{stanza_of}
use Rattle.srv_core.specs.Stanzas.{handling}
use Rattle.xml_trees.specs.Trees.{Elem}
use Rattle.xml_writer.specs.Items.{ItemOut}

-- behind counting it
abbrev pub acts_on : Session ItemOut → ServerState ItemOut → Elem → List (Act ItemOut)
acts_on s h e = handling itself (stanza_of e) (told s) h

abbrev pub following : Session ItemOut → ServerState ItemOut → Elem → Step ItemOut
following s h e = acted itself (counting (told s) (acts_on s h e)) (step_of h)
