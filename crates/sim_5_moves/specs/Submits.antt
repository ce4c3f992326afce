-- A submission of a device's session, at a server whose archives are those of the takes.
use Rattle.std.specs.Prelude.{◌≡◌, ℕ, ◌<◌, List, [], Some, length, slice_get}
use Rattle.mam_archive.specs.declared.archive.TheConstants.{GREATEST_NUMBER}
use Rattle.srv_state.specs.State.{ServerState}
use Rattle.sim_3_items.specs.Meant.{submitted}
use Rattle.sm_live.specs.Rule.{IsRule}
use Rattle.sm_live.specs.Sessions.{Session, session_of}
use Rattle.cmd_report.specs.Addresses.{domain}
use Rattle.cmd_schedule.specs.Contents.{Owned}
use Rattle.sim_3_items.specs.Built.{IsSaid}
use Rattle.sim_3_items.specs.Served.{ServerSimulates}
use Rattle.sim_1_applications.specs.Devices.{Take}
use Rattle.sim_1_applications.specs.Stanzas.{Submission}
use Rattle.xml_trees.specs.Trees.{Elem}
use Rattle.cmd_world.specs.Declaring.{AreAccounts}
use Rattle.xml_writer.specs.Items.{ItemOut, Whole}

-- no two accounts have one name, and no two devices
pub record AreDeclared (owned : List Owned) (names : List (List ℕ)) : Type 0 where
  pub accounts : AreAccounts [] names
  pub devices : (i j : ℕ) (o p : Owned) → slice_get owned i ≡ Some o → slice_get owned j ≡ Some p → o.device ≡ p.device → i ≡ j

-- the session lives, and is that of the device at a place
pub record IsSessionAt (owned : List Owned) (names : List (List ℕ)) (h : ServerState ItemOut) (i : ℕ) (o : Owned) (s : Session ItemOut) : Type 0 where
  pub device : slice_get owned i ≡ Some o
  pub lives : session_of s.shown.number h.sessions ≡ Some s
  pub account : slice_get names s.shown.account ≡ Some o.account
  pub resource : s.shown.resource ≡ o.device

-- the device's session puts the message, as this element; archives have numbers left
pub record Submits (keep : ℕ) (owned : List Owned) (names : List (List ℕ)) (takes : List Take) (h : ServerState ItemOut) (i : ℕ) (o : Owned) (s : Session ItemOut) (m : Submission) (e : Elem) : Type 0 where
  pub declared : AreDeclared owned names
  pub runs : ServerSimulates keep owned names takes h
  pub rule : IsRule h.sessions h.next
  pub few : length takes < GREATEST_NUMBER
  pub session : IsSessionAt owned names h i o s
  pub said : IsSaid o m
  pub element : submitted o.device domain m ≡ Whole e
