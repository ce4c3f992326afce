-- Each stanza that the server built.
use Rattle.std.proofs.Common.{◌≡◌, ℕ, Bool, false, List, Option, Some, None, subst}
use Rattle.std.proofs.lemmas.Option.{none-some, same_Some}
use Rattle.mam_archive.specs.Entries.{EntryView}
use Rattle.sim_3_items.specs.Reading.{client_step_on}
use Rattle.sim_3_items.specs.Downs.{down_stanza}
use Rattle.sim_3_items.specs.ItemWorlds.{ItemDevice}
use Rattle.sm_outbox.specs.Sessions.{SessionView}
use Rattle.cmd_schedule.specs.Contents.{Owned}
use Rattle.sim_3_items.specs.Built.{IsDown, IsDownAs}
use Rattle.sim_1_applications.specs.Devices.{OpenPage, Reading}
use Rattle.sim_1_applications.specs.Events.{Around, hold, reads}
use Rattle.sim_1_applications.specs.Stanzas.{Accepted, Bounced, Down, Fin, Live, NotFound, Res}
use Rattle.sim_5_devices.proofs.LogsEnds.{end_comes}
use Rattle.sim_5_devices.proofs.Lives.{live_read}
use Rattle.sim_5_devices.proofs.Quiet.{accepted, bounced}
use Rattle.sim_5_devices.proofs.Restarts.{restart_comes}
use Rattle.sim_5_devices.proofs.Results.{result_comes}
use Rattle.sim_5_devices.proofs.ClientSteps.{IsDone, quietly}
use Rattle.sim_5_devices.specs.Logged.{IsCountOf, IsCounted, IsOnline}
use Rattle.sim_5_devices.specs.Plain.{IsPlain}
use Rattle.xml_writer.specs.Items.{ItemOut}

count_of : (keep : ℕ) (a : Around) (o : Option OpenPage) (q : ℕ) (complete : Bool) (last : Option ℕ) (count : ℕ) → IsCounted keep a o (Fin q complete last count)
    → (page : OpenPage) → o ≡ Some page → IsCountOf keep a page count
count_of keep a None q complete last count is page there = absurd (none-some page there)
count_of keep a (Some p) q complete last count is page there = subst (λ page. IsCountOf keep a page count) (same_Some p page there) is

module _ (o : Owned) (keep : ℕ) (history : List EntryView) (d : ItemDevice) (s : SessionView ItemOut) (b : Reading) (z : ItemOut) (a : Around) (is : IsOnline o keep history d s b)
    (plain : IsPlain history) where
  read_as : (x : Down) → IsDownAs o history x z → IsCounted keep a b.page x → (reads a x b).reading.faulty ≡ false → IsDone o keep history d s z (reads a x b) (client_step_on z d)
  read_as Accepted built counted well = quietly o keep history d s z b (client_step_on z d) (accepted o keep history d s b is built.0 z built.1 built.2)
  read_as (Bounced epoch n) built counted well = quietly o keep history d s z b (client_step_on z d) (bounced o keep history d s b is epoch n z built)
  read_as (Live n) built counted well = quietly o keep history d s z (hold n b) (client_step_on z d) (live_read o keep history d s b is n z built)
  read_as (Res q n) built counted well = result_comes o keep history d s b is plain q n z built well
  read_as (Fin q complete last count) built counted well = end_comes o keep history d s b is plain a q complete last count z built (count_of keep a b.page q complete last count counted) well
  read_as (NotFound q) built counted well = restart_comes o keep history d s b is q z built.0 built.1 built.2 well

  pub stanza_done : IsDown o history z → IsCounted keep a b.page (down_stanza z) → (reads a (down_stanza z) b).reading.faulty ≡ false → IsDone o keep history d s z (reads a (down_stanza z) b) (client_step_on z d)
  stanza_done = read_as (down_stanza z)
