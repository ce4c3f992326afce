-- What a server has, as the takes and archives of the applications, and the flags of a device's session.
use Rattle.std.specs.Prelude.{◌≡◌, ◌≢◌, ◌&&◌, ℕ, List, Some, length, pos, slice_get}
use Rattle.std.specs.List.{AllByRecursion}
use Rattle.mam_archive.specs.Entries.{newest}
use Rattle.srv_state.specs.State.{ServerState, archive_at}
use Rattle.sim_3_items.specs.ItemWorlds.{Take as Told}
use Rattle.sm_live.specs.Sessions.{Session, session_named}
use Rattle.cmd_network.specs.Starting.{accounts_at_start}
use Rattle.cmd_report.specs.Addresses.{bare_address, domain, full_address, origin_of}
use Rattle.cmd_schedule.specs.Contents.{Owned}
use Rattle.sim_1_applications.specs.Devices.{NoRow, Sessions, Take}
use Rattle.sim_1_applications.specs.Events.{is_present}
use Rattle.sim_1_applications.specs.Reported.{history_at, name_at}
use Rattle.xml_writer.specs.Items.{ItemOut}

-- a take as the server tells of it
abbrev pub take_reported : List Owned → Take → Told
take_reported owned t = record {
  moment = t.moment;
  from = full_address t.account (name_at owned t.device);
  to = bare_address t.said.to;
  origin = origin_of (name_at owned t.device) t.said.epoch t.said.n;
}

-- each account's archive keeps the newest of its history
abbrev pub ArchivesRepresent : ℕ → List Owned → List (List ℕ) → List Take → ServerState ItemOut → Type 0
ArchivesRepresent keep owned names takes h = (position : ℕ) (name : List ℕ) → slice_get names position ≡ Some name → archive_at position h ≡ Some (record {
  owner = bare_address name;
  keep = keep;
  last = length (history_at owned takes name);
  entries = newest keep (history_at owned takes name);
})

-- the session that the server has of a device is available, and wants copies, as the applications say; one of which the
-- client hasn't read is and does neither
abbrev pub FlagsRepresent : ℕ → List ℕ → ServerState ItemOut → Sessions → Type 0
FlagsRepresent account resource h d = d.row ≢ NoRow → (s : Session ItemOut) → session_named account resource h.sessions ≡ Some s
    → (s.shown.available ≡ (is_present d.row && d.now.available)) × (s.shown.carbons ≡ (is_present d.row && d.now.carbons)) × (s.shown.priority ≡ pos 0)

-- ---- the server

-- the domain, and the accounts of a schedule in their order
pub record IsConfigured (names : List (List ℕ)) (h : ServerState ItemOut) : Type 0 where
  pub domain : h.domain ≡ domain
  pub accounts : h.accounts ≡ accounts_at_start names

-- each session is one of a device's, by its account and resource
pub record IsOfDevice (owned : List Owned) (names : List (List ℕ)) (s : Session ItemOut) : Type 0 where
  pub position : ℕ
  pub device : Owned
  pub there : slice_get owned position ≡ Some device
  pub account : slice_get names s.shown.account ≡ Some device.account
  pub resource : s.shown.resource ≡ device.device

-- what the server has: the archives are those of the takes
pub record ServerSimulates (keep : ℕ) (owned : List Owned) (names : List (List ℕ)) (takes : List Take) (h : ServerState ItemOut) : Type 0 where
  pub configured : IsConfigured names h
  pub archives : ArchivesRepresent keep owned names takes h
  pub many : length h.archives ≡ length names
  pub sessions : AllByRecursion (IsOfDevice owned names) h.sessions
