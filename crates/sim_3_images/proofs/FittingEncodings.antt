-- In worlds of which worlds of bytes are images, and in those of the start, all fits.
use Rattle.std.proofs.Common.{◌≡◌, ℕ, List, [], ◌∷◌, Some, map, subst}
use Rattle.std.specs.List.{AllByRecursion, slice_get}
use Rattle.law_limits.specs.Answerable.{IsItemAnswerable}
use Rattle.law_limits.specs.Within.{IsClientWithin}
use Rattle.cl_handlers.specs.Clients.{ClientView}
use Rattle.sim_3_images.proofs.AnsweredTable.{what_a_server_says_is_answered}
use Rattle.sim_3_images.proofs.Keeping.{cores_keep}
use Rattle.sim_3_images.proofs.RelayableSteps.{client_is_relayable}
use Rattle.sim_3_images.proofs.Starts.{start_keeps}
use Rattle.sim_3_images.proofs.UpComes.{drawn}
use Rattle.sim_3_images.specs.Relayable.{ClientFits, DownFits, ServerFits, UpFits}
use Rattle.srv_state.specs.State.{ServerState}
use Rattle.sim_3_images.proofs.WireSteps.{all_mapped}
use Rattle.sim_3_images.specs.ItemStarts.{item_device, items_at_start}
use Rattle.sim_3_images.specs.EncodingsOwed.{CoresKeep, StartKeeps}
use Rattle.sim_3_images.specs.Stands.{StandingServers}
use Rattle.sim_3_images.specs.WorldEncodings.{WorldEncodes}
use Rattle.sim_3_images.proofs.ChangedLists.{all_found}
use Rattle.sim_3_images.specs.Fitting.{FitsHere, TakesAny, WireFits, WorldFits}
use Rattle.sim_3_items.specs.ItemPipes.{ItemWire}
use Rattle.sim_3_items.specs.ItemWorlds.{ItemDevice, ItemWorld, read_of}
use Rattle.cmd_schedule.specs.Contents.{Owned, owned_in}
use Rattle.cmd_schedule.specs.Schedules.{WireView}
use Rattle.cmd_schedule.specs.LineLists.{IsLineList}
use Rattle.law_limits.proofs.MomentsKept.{fresh_kept}
use Rattle.cmd_world.specs.Histories.{common_steps}
use Rattle.cmd_world.specs.Worlds.{ByteWorld, server_entropy}
use Rattle.xml_writer.specs.Items.{ItemOut}

-- ---- any four families

module _ (UpFits DownFits : ItemOut → Type 0) (ServerKeeps : ServerState ItemOut → Type 0) (ClientFits : ClientView ItemOut → Type 0) where
  owned_fit : (os : List Owned) → AllByRecursion (λ o. ClientFits (item_device o).client) os → AllByRecursion (λ (d : ItemDevice). ClientFits d.client) (map item_device os)
  owned_fit [] all = tt
  owned_fit (o ∷ os) all = (all.0, owned_fit os all.1)

  pub start_fits : (schedule : WireView) → StartKeeps ServerKeeps ClientFits schedule → WorldFits UpFits DownFits ServerKeeps ClientFits (items_at_start schedule)
  start_fits schedule keep = record { server_state = keep.server_state; clients = owned_fit (owned_in (common_steps schedule)) keep.clients; wires = tt }

  pub encodes_fits : (w : ByteWorld) (v : ItemWorld) → WorldEncodes UpFits DownFits (StandingServers ServerKeeps) ClientFits w v → WorldFits UpFits DownFits ServerKeeps ClientFits v
  encodes_fits w v encodes = record { server_state = encodes.fits.server_state.1; clients = encodes.fits.clients; wires = encodes.fits.wires }

-- ---- those of this project

pub keep_here : CoresKeep UpFits DownFits ServerFits ClientFits
keep_here = cores_keep what_a_server_says_is_answered client_is_relayable

pub takes_any : TakesAny ServerFits
takes_any n k h keeps = (fresh_kept n (server_entropy k) h (drawn k) keeps.0, keeps.1)

pub begun_fits : (schedule : WireView) → IsLineList schedule → FitsHere (items_at_start schedule)
begun_fits schedule is = start_fits UpFits DownFits ServerFits ClientFits schedule (start_keeps schedule is)

pub client_within : (w : ItemWorld) (position : ℕ) (d : ItemDevice) → FitsHere w → slice_get w.devices position ≡ Some d → IsClientWithin d.client
client_within w position d fits found =
    let here : ClientFits d.client = all_found (λ (d : ItemDevice). ClientFits d.client) w.devices position d found fits.clients in
    here.within

pub down_answered : (w : ItemWorld) (position : ℕ) (wire : ItemWire) → FitsHere w → slice_get w.wires position ≡ Some wire → AllByRecursion (λ i. IsItemAnswerable (read_of i)) wire.down.items
down_answered w position wire fits found =
    let here : WireFits UpFits DownFits wire = all_found (WireFits UpFits DownFits) w.wires position wire found fits.wires in
    all_mapped DownFits (λ i. IsItemAnswerable (read_of i)) (λ i h. h.1) wire.down.items here.down

pub next_answered : (w : ItemWorld) (position : ℕ) (wire : ItemWire) (i : ItemOut) (items : List ItemOut) → FitsHere w → slice_get w.wires position ≡ Some wire → wire.down.items ≡ i ∷ items → IsItemAnswerable (read_of i)
next_answered w position wire i items fits found next =
    let all : AllByRecursion (λ i. IsItemAnswerable (read_of i)) (i ∷ items) = subst (AllByRecursion (λ i. IsItemAnswerable (read_of i))) next (down_answered w position wire fits found) in
    all.0
