-- What the client does on an item hangs on its phase, on its session, and on what it reads of the item.
use Rattle.std.proofs.Common.{◌≡◌, ℕ, Option, Some, None, codes, if◌then◌else◌, refl, ap, subst}
use Rattle.cl_core.specs.Steps.{element_row, stream_condition}
use Rattle.cl_handlers.specs.Clients.{ClientStep}
use Rattle.cl_handlers.specs.LoginSteps.{header_row}
use Rattle.cl_handlers.specs.Speech.{in_items}
use Rattle.cl_handlers.specs.ClientSteps.{ends, is_apart}
use Rattle.cl_handlers.specs.declared.events.PeerFault.TheVariants.{Stream}
use Rattle.cl_handlers.specs.declared.phase.Phase.{Phase}
use Rattle.sim_3_items.specs.Clients.{ClientRepresents, IsOwn, IsOwnRepresented}
use Rattle.sim_3_items.specs.Identities.{Identity, Login}
use Rattle.sim_3_items.specs.Reading.{client_step_on}
use Rattle.sim_3_items.specs.ItemWorlds.{ItemDevice, silent_client_step}
use Rattle.sim_2_links.specs.Views.{Own, View}
use Rattle.xml_names.specs.declared.headers.Header.{Header}
use Rattle.sm_outbox.specs.Sessions.{SessionView}
use Rattle.im_stanza.specs.Names.{streams_ns}
use Rattle.xml_trees.specs.Readers.{is_named}
use Rattle.xml_trees.specs.Trees.{Elem}
use Rattle.xml_writer.specs.Items.{ItemOut, Opening, Whole}

-- ---- by its phase

abbrev pub header_at : ItemDevice → Phase → ClientStep ItemOut ItemOut
header_at d at = if is_apart at then silent_client_step d.client else header_row in_items (silent_client_step d.client) at

pub on_header : (d : ItemDevice) (h : Header) (at : Phase) → d.client.phase ≡ at → client_step_on (Opening h) d ≡ header_at d at
on_header d h at is = ap (header_at d) is

abbrev pub element_at : ItemDevice → Elem → Phase → ClientStep ItemOut ItemOut
element_at d e at =
    if is_apart at then silent_client_step d.client
    else (if is_named streams_ns (codes "error") e then ends (silent_client_step d.client) (Stream (stream_condition e)) else element_row in_items (silent_client_step d.client) at e)

pub on_element : (d : ItemDevice) (e : Elem) (at : Phase) → d.client.phase ≡ at → client_step_on (Whole e) d ≡ element_at d e at
on_element d e at is = ap (element_at d e) is

-- ---- its session

pub own_session : (who : Identity) (logins : ℕ → Login) (d : ItemDevice) (v : View ItemOut) (o : Own ItemOut) → ClientRepresents who logins d v → v.own ≡ Some o → (s : SessionView ItemOut) × (d.client.session ≡ Some s) × IsOwn o s
own_session who logins d v o represents is = go d.client.session refl (subst (λ n. IsOwnRepresented n d.client.session) is represents.own)
  where
    go : (m : Option (SessionView ItemOut)) → d.client.session ≡ m → IsOwnRepresented (Some o) d.client.session → (s : SessionView ItemOut) × (d.client.session ≡ Some s) × IsOwn o s
    go None at shown = absurd (subst (IsOwnRepresented (Some o)) at shown)
    go (Some s) at shown = (s, at, subst (IsOwnRepresented (Some o)) at shown)
