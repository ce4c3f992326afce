-- A device's links behind a stanza that went up, and its sessions beside them.
use Rattle.std.proofs.Common.{◌≡◌, ℕ, List, Some, sym, ap, subst, ◌∙◌, slice_get}
use Rattle.std.proofs.lemmas.Option.{same_Some}
use Rattle.sim_4_links_follow.proofs.Stays.{reached_along}
use Rattle.sim_4_links_follow.specs.Following.{WorldFollows}
use Rattle.sim_3_images.specs.Devices.{identity_at}
use Rattle.sim_3_items.specs.Labels.{Label, awaits, labels_of}
use Rattle.sim_3_items.specs.Identities.{Login}
use Rattle.sim_3_items.specs.Represents.{Represents}
use Rattle.sim_3_items.specs.Items.{stanzas_read}
use Rattle.sim_3_items.specs.ItemWorlds.{ItemDevice, ItemWorld}
use Rattle.sim_2_links.proofs.Reached.{link_kept}
use Rattle.sim_2_links.proofs.WithPremises.{prompt_runs}
use Rattle.sim_2_links.specs.Covers.{PromptReached}
use Rattle.sim_2_links.specs.Events.{seen}
use Rattle.sim_2_links.specs.Links.{LinkKept}
use Rattle.sim_2_links.specs.Machine.{LinkReached}
use Rattle.sim_2_links.specs.Paging.{PagingReached}
use Rattle.sim_2_links.specs.Views.{View}
use Rattle.sim_2_events.specs.Lists.{IsDevice}
use Rattle.sim_5_devices.proofs.Staying.{paging_stays, prompt_stays}
use Rattle.sim_5_devices.specs.InTime.{AreInTime, paging_here}
use Rattle.sim_5_devices.specs.Shown.{LogRepresents}
use Rattle.cmd_schedule.specs.Contents.{Owned}
use Rattle.cmd_schedule.specs.Schedules.{WireView}
use Rattle.sim_5_devices.proofs.SessionLabelsSteps.{moves_done}
use Rattle.sim_5_devices.specs.Labels.{DoesInterleaved}
use Rattle.sim_3_items.specs.Served.{FlagsRepresent}
use Rattle.sim_3_items.specs.Submitted.{SubmissionsRepresent}
use Rattle.sim_1_applications.specs.Devices.{AppWorld, Device, Sessions, Take}
use Rattle.sim_5_devices.proofs.Served.{same_told}
use Rattle.sim_5_devices.specs.Told.{SameUps}
use Rattle.sim_5_moves.proofs.BuiltAlong.{built_along}
use Rattle.sim_5_moves.specs.Going.{AllBuilt, ArePutBuilt}
use Rattle.sim_5_moves.specs.Running.{DeviceSimulates, Leads, history_for, keep_in}
use Rattle.xml_writer.specs.Items.{ItemOut}

-- ---- a device, but for its place in the world of the applications, and its links before

pub record Stands (schedule : WireView) (after : ItemWorld) (takes : List Take) (i : ℕ) (o : Owned) (d : Device) (from : View ItemOut) (Does : List (Label ItemOut) → Type 0) : Type 0 where
  pub logins : ℕ → Login
  pub view : View ItemOut
  pub leads : Leads Does from view
  pub in_time : PagingReached paging_here view
  pub prompt : PromptReached awaits view
  pub represents : Represents (identity_at schedule i o) logins after view
  pub account : d.account ≡ o.account
  pub sessions : IsDevice stanzas_read (seen view) d.sessions
  pub built : AllBuilt o (history_for schedule takes o) (seen view)
  pub submissions : SubmissionsRepresent represents.device.client d.sessions
  pub log : LogRepresents (keep_in schedule) (history_for schedule takes o) represents.device.client.log d.reading
  pub pages : represents.device.client.pages ≡ d.reading.asked
  pub flags : FlagsRepresent (identity_at schedule i o).account o.device after.server d.sessions

abbrev pub stands_run : (schedule : WireView) (after : ItemWorld) (next : AppWorld) (i : ℕ) (o : Owned) (d : Device) (from : View ItemOut) (Does : List (Label ItemOut) → Type 0) → Stands schedule after next.takes i o d from Does → slice_get next.devices i ≡ Some d → DeviceSimulates schedule after next i o
stands_run schedule after next i o d from Does s there = record {
  logins = s.logins;
  view = s.view;
  in_time = s.in_time;
  prompt = s.prompt;
  represents = s.represents;
  device = d;
  there = there;
  account = s.account;
  sessions = s.sessions;
  built = s.built;
  submissions = s.submissions;
  log = s.log;
  pages = s.pages;
  flags = s.flags;
}

-- ---- its links

module _ (schedule : WireView) (w : ItemWorld) (x : AppWorld) (i : ℕ) (o : Owned) (old : DeviceSimulates schedule w x i o) (after : ItemWorld) (done : List (Label ItemOut)) (f : WorldFollows (identity_at schedule i o) old.logins after old.view done) where
  reached : LinkReached old.view
  reached = prompt_runs awaits old.view old.prompt

  pub all_done : (end : Sessions) × DoesInterleaved stanzas_read (labels_of f.moves) old.device.sessions end × IsDevice stanzas_read (seen f.next) end
  all_done = moves_done stanzas_read f.moves old.view f.next old.device.sessions reached f.leads old.sessions

  abbrev pub end : Sessions
  end = all_done.0

  pub interleaved : DoesInterleaved stanzas_read done old.device.sessions end
  interleaved = subst (λ ds. DoesInterleaved stanzas_read ds old.device.sessions end) f.does all_done.1

  pub end_is : IsDevice stanzas_read (seen f.next) end
  end_is = all_done.2

  pub end_kept : LinkKept f.next
  end_kept = link_kept f.next (reached_along f.moves old.view f.next reached f.leads)

  module _ (takes : List Take) (timely : AreInTime done old.device.sessions.now) (put : ArePutBuilt o (history_for schedule takes o) done) (built : AllBuilt o (history_for schedule takes o) (seen old.view)) (users : after.devices ≡ w.devices) where
    -- its client does nothing
    same_user : old.represents.device ≡ f.represents.device
    same_user = same_Some old.represents.device f.represents.device (sym old.represents.there ∙ ap (λ (l : List ItemDevice). slice_get l i) (sym users) ∙ f.represents.there)

    pub stands : (Does : List (Label ItemOut) → Type 0) → Does done → (d : Device) → d.account ≡ o.account → IsDevice stanzas_read (seen f.next) d.sessions → SameUps old.device.sessions d.sessions → LogRepresents (keep_in schedule) (history_for schedule takes o) old.represents.device.client.log d.reading
        → d.reading.asked ≡ old.device.reading.asked → FlagsRepresent (identity_at schedule i o).account o.device after.server d.sessions → Stands schedule after takes i o d old.view Does
    stands Does so d account sessions ups log asked flags = record {
      logins = old.logins;
      view = f.next;
      leads = (f.moves, f.leads, subst Does (sym f.does) so);
      in_time = paging_stays f.moves old.view f.next old.device.sessions old.in_time f.leads f.prompt old.sessions (subst (λ ds. AreInTime ds old.device.sessions.now) (sym f.does) timely);
      prompt = prompt_stays f.moves old.view f.next old.prompt f.leads f.prompt;
      represents = f.represents;
      account = account;
      sessions = sessions;
      built = built_along o (history_for schedule takes o) f.moves old.view f.next reached f.leads (subst (ArePutBuilt o (history_for schedule takes o)) (sym f.does) put) built;
      submissions = subst (λ (e : ItemDevice). SubmissionsRepresent e.client d.sessions) same_user (same_told old.represents.device.client old.device.sessions d.sessions ups old.submissions);
      log = subst (λ (e : ItemDevice). LogRepresents (keep_in schedule) (history_for schedule takes o) e.client.log d.reading) same_user log;
      pages = subst (λ (e : ItemDevice). e.client.pages ≡ d.reading.asked) same_user (old.pages ∙ sym asked);
      flags = flags;
    }
