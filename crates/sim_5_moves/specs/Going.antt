-- The links of a device behind a move of the world, and its sessions beside them.
use Rattle.std.specs.Prelude.{◌≡◌, ℕ, List, [], ◌∷◌, Some}
use Rattle.mam_archive.specs.Entries.{EntryView}
use Rattle.sim_3_images.specs.Devices.{identity_at}
use Rattle.sim_3_items.specs.Labels.{Gives, Label, Says, awaits}
use Rattle.sim_3_items.specs.Identities.{Login}
use Rattle.sim_3_items.specs.Represents.{Represents}
use Rattle.sim_3_items.specs.Items.{stanzas_read}
use Rattle.sim_3_items.specs.ItemWorlds.{ItemWorld}
use Rattle.sim_2_links.specs.Covers.{PromptReached}
use Rattle.sim_2_links.specs.Events.{Seen, SeenSession, seen}
use Rattle.sim_2_links.specs.Machine.{LinkReached}
use Rattle.sim_2_links.specs.Paging.{PagingReached}
use Rattle.sim_2_links.specs.Views.{View}
use Rattle.sim_2_events.specs.Lists.{IsDevice}
use Rattle.sim_5_devices.specs.InTime.{paging_here}
use Rattle.cmd_schedule.specs.Contents.{Owned}
use Rattle.cmd_schedule.specs.Schedules.{WireView}
use Rattle.sim_5_devices.specs.Labels.{DoesInterleaved}
use Rattle.sim_3_items.specs.Built.{IsDown, IsUp}
use Rattle.sim_1_applications.specs.Devices.{Sessions}
use Rattle.sim_5_moves.specs.Running.{AreBuilt, Leads}
use Rattle.xml_writer.specs.Items.{ItemOut}

-- the stanzas that are put by these labels are built as they are read
abbrev pub ArePutBuilt : Owned → List EntryView → List (Label ItemOut) → Type 0
ArePutBuilt o history [] = Unit {0}
ArePutBuilt o history (Says z ∷ ds) = IsUp o z × ArePutBuilt o history ds
ArePutBuilt o history (Gives z ∷ ds) = IsDown o history z × ArePutBuilt o history ds
ArePutBuilt o history (x ∷ ds) = ArePutBuilt o history ds

-- all stanzas of all sessions that are seen are
abbrev pub AllBuilt : Owned → List EntryView → Seen ItemOut → Type 0
AllBuilt o history s = (q : ℕ) (t : SeenSession ItemOut) → s.sessions q ≡ Some t → AreBuilt o history t

-- behind a move, by which the device had these labels; the sessions it had were these, and its links showed so
pub record DeviceGoes (schedule : WireView) (w : ItemWorld) (i : ℕ) (o : Owned) (history : List EntryView) (done : List (Label ItemOut)) (was : Sessions) (from : View ItemOut) : Type 0 where
  pub logins : ℕ → Login
  pub view : View ItemOut
  pub leads : Leads (λ ds. ds ≡ done) from view
  pub reached : LinkReached view
  pub in_time : PagingReached paging_here view
  pub prompt : PromptReached awaits view
  pub represents : Represents (identity_at schedule i o) logins w view
  pub end : Sessions
  pub interleaved : DoesInterleaved stanzas_read done was end
  pub sessions : IsDevice stanzas_read (seen view) end
  pub built : AllBuilt o history (seen view)
