-- A device's links behind a move, with its sessions beside them.
use Rattle.std.proofs.Common.{ℕ, List, sym, subst}
use Rattle.mam_archive.specs.Entries.{EntryView}
use Rattle.sim_4_links_follow.proofs.Stays.{reached_along}
use Rattle.sim_4_links_follow.specs.Following.{WorldFollows}
use Rattle.sim_3_images.specs.Devices.{identity_at}
use Rattle.sim_3_items.specs.Labels.{Label, awaits}
use Rattle.sim_3_items.specs.Identities.{Login}
use Rattle.sim_3_items.specs.Items.{stanzas_read}
use Rattle.sim_3_items.specs.ItemWorlds.{ItemWorld}
use Rattle.sim_2_links.proofs.WithPremises.{prompt_runs}
use Rattle.sim_2_links.specs.Events.{seen}
use Rattle.sim_5_devices.proofs.Staying.{paging_stays, prompt_stays}
use Rattle.sim_5_devices.specs.InTime.{AreInTime}
use Rattle.cmd_schedule.specs.Contents.{Owned}
use Rattle.cmd_schedule.specs.Schedules.{WireView}
use Rattle.sim_5_devices.proofs.SessionLabelsSteps.{moves_done}
use Rattle.sim_5_devices.specs.Labels.{DoesInterleaved}
use Rattle.sim_1_applications.specs.Devices.{AppWorld}
use Rattle.sim_5_moves.proofs.BuiltAlong.{built_along}
use Rattle.sim_5_moves.specs.Going.{AllBuilt, ArePutBuilt, DeviceGoes}
use Rattle.sim_5_moves.specs.Running.{DeviceSimulates}
use Rattle.xml_writer.specs.Items.{ItemOut}

pub goes : (schedule : WireView) (w after : ItemWorld) (x : AppWorld) (i : ℕ) (o : Owned) (history : List EntryView) (done : List (Label ItemOut)) (old : DeviceSimulates schedule w x i o) (logins : ℕ → Login)
    → WorldFollows (identity_at schedule i o) logins after old.view done → AreInTime done old.device.sessions.now → ArePutBuilt o history done → AllBuilt o history (seen old.view) → DeviceGoes schedule after i o history done old.device.sessions old.view
goes schedule w after x i o history done old logins f timely put built =
    let reached = prompt_runs awaits old.view old.prompt in
    let d = moves_done stanzas_read f.moves old.view f.next old.device.sessions reached f.leads old.sessions in
    record {
      logins = logins;
      view = f.next;
      leads = (f.moves, f.leads, f.does);
      reached = reached_along f.moves old.view f.next reached f.leads;
      in_time = paging_stays f.moves old.view f.next old.device.sessions old.in_time f.leads f.prompt old.sessions (subst (λ ds. AreInTime ds old.device.sessions.now) (sym f.does) timely);
      prompt = prompt_stays f.moves old.view f.next old.prompt f.leads f.prompt;
      represents = f.represents;
      end = d.0;
      interleaved = subst (λ ds. DoesInterleaved stanzas_read ds old.device.sessions d.0) f.does d.1;
      sessions = d.2;
      built = built_along o history f.moves old.view f.next reached f.leads (subst (ArePutBuilt o history) (sym f.does) put) built;
    }
