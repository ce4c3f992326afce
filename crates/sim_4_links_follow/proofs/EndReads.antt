-- The client reads that the server ended the stream, and leaves the connection.
use Rattle.std.proofs.Common.{◌≡◌, ℕ, List, None, if◌then◌else◌, refl, sym, ap, subst, ◌∙◌}
use Rattle.cl_core.specs.Steps.{stream_condition}
use Rattle.cl_handlers.specs.Clients.{ClientStep}
use Rattle.cl_handlers.specs.ClientSteps.{ends}
use Rattle.cl_handlers.specs.declared.events.PeerFault.TheVariants.{Stream}
use Rattle.sim_3_items.specs.Clients.{client_phase}
use Rattle.sim_3_items.specs.Identities.{Identity, Login}
use Rattle.sim_3_items.specs.Reading.{HearingFollows, IsNextDown, client_step_on}
use Rattle.sim_3_items.specs.ItemPipes.{ItemWire}
use Rattle.sim_3_items.specs.ItemWorlds.{ItemDevice, silent_client_step}
use Rattle.sim_2_links.specs.Views.{Table, View}
use Rattle.sim_2_links.specs.Words.{DownWord}
use Rattle.im_stanza.specs.Errors.{stream_error_elem}
use Rattle.xml_trees.specs.Trees.{Elem}
use Rattle.xml_writer.specs.Items.{ItemOut, Whole}
use Rattle.sim_4_links_follow.proofs.Turning.{on_element}
use Rattle.sim_4_links_follow.proofs.Working.{leaves_here, never_apart, phase_here}

module _ (who : Identity) (logins : ℕ → Login) (d : ItemDevice) (wires : Table ItemWire) (v : View ItemOut) (k : ℕ) (word : DownWord ItemOut) (p : IsNextDown who logins d wires v k word) (condition : List ℕ) where
  abbrev now : ClientStep ItemOut ItemOut
  now = silent_client_step d.client

  abbrev error : Elem
  error = stream_error_elem condition None

  abbrev left_so : ClientStep ItemOut ItemOut
  left_so = ends now (Stream (stream_condition error))

  error_client_step : client_step_on (Whole error) d ≡ left_so
  error_client_step =
      on_element d error (client_phase who (logins k) p.conn.client) (phase_here who logins d wires v k word p p.conn.client refl)
      ∙ ap (λ b. if b then now else left_so) (never_apart who (logins k) p.conn.client)

  pub error_read : HearingFollows who logins d wires v k p.wire (client_step_on (Whole error) d)
  error_read = subst (HearingFollows who logins d wires v k p.wire) (sym error_client_step) (leaves_here who logins d wires v k word p left_so refl refl refl refl refl refl)
