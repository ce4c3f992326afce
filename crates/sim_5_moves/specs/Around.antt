-- What the applications know of a server's state where a session's stanza is handled.
use Rattle.std.specs.Prelude.{◌≡◌, ℕ, ◌^◌, ◌≤◌, ◌<◌, min, Some, length}
use Rattle.mam_archive.specs.Entries.{AreKept}
use Rattle.srv_state.specs.State.{Kept, ServerState, archive_at}
use Rattle.sm_live.specs.declared.told.SessionInfo.{SessionInfo}
use Rattle.sim_1_applications.specs.Devices.{first_of}
use Rattle.sim_1_applications.specs.Events.{Around}
use Rattle.sim_1_applications.specs.Stanzas.{Request}
use Rattle.sim_1_applications.specs.Pages.{IsGiven}
use Rattle.xml_writer.specs.Items.{ItemOut}

-- an archive that gave the numbers up to `last` keeps the newest of their entries
pub record IsArchiveKept (keep last : ℕ) (kept : Kept) : Type 0 where
  pub entries : AreKept keep last kept.entries
  pub many : length kept.entries ≡ min last keep

-- the archive of the session's account is so
pub record IsAround (a : Around) (t : SessionInfo) (h : ServerState ItemOut) : Type 0 where
  pub kept : Kept
  pub there : archive_at t.account h ≡ Some kept
  pub most : ℕ
  pub keeps : IsArchiveKept most a.last kept
  pub oldest : a.first ≡ first_of most a.last

-- a request that a client of this project makes: of 100 entries at most, behind a number that the archive has given
pub record IsAsked (last : ℕ) (r : Request) : Type 0 where
  pub number_fits : r.number < 2 ^ 64
  pub position : IsGiven last r.after
  pub few : r.max ≤ 100
