-- A stanza of a device that is no message, where a server that runs handles it.
use Rattle.std.specs.Prelude.{◌≡◌, ℕ, ◌≤◌, List, Ok, Some, length, slice_get}
use Rattle.mam_archive.specs.declared.archive.TheConstants.{GREATEST_NUMBER}
use Rattle.srv_state.specs.Handling.{counting}
use Rattle.srv_state.specs.State.{ServerState, Step}
use Rattle.srv_state.specs.Steps.{acted}
use Rattle.sim_5_moves.specs.Around.{IsAsked}
use Rattle.sim_5_moves.specs.Sent.{does_on}
use Rattle.sim_3_items.specs.ItemMoves.{step_of}
use Rattle.sim_3_items.specs.ItemWorlds.{itself}
use Rattle.im_jid.specs.Normal.{normal}
use Rattle.sm_live.specs.Sessions.{Session, session_of, told}
use Rattle.cmd_report.specs.Addresses.{full_address}
use Rattle.cmd_schedule.specs.Contents.{Owned}
use Rattle.sim_3_items.specs.Built.{IsUpAs}
use Rattle.sim_3_items.specs.Served.{ServerSimulates}
use Rattle.sim_1_applications.specs.Devices.{Take, first_of, last_of}
use Rattle.sim_1_applications.specs.Events.{Around}
use Rattle.sim_1_applications.specs.Stanzas.{Carbons, Message, Presence, Query, Up}
use Rattle.xml_trees.specs.Trees.{Elem}
use Rattle.xml_writer.specs.Items.{ItemOut, Whole}

-- a switch of carbons, a presence, or a request of an archive that gave so many numbers
abbrev pub IsReplied : ℕ → Up → Type 0
IsReplied last Carbons = Unit {0}
IsReplied last Presence = Unit {0}
IsReplied last (Message m) = ⊥
IsReplied last (Query r) = IsAsked last r

-- what an act at a device of an account knows of the world
abbrev pub around_of : ℕ → List (List ℕ) → List Take → List ℕ → Around
around_of keep names takes account = record {
  accounts = names;
  first = first_of keep (last_of takes account);
  last = last_of takes account;
  takes = length takes;
}

-- a session of the device, by its account and resource
pub record IsSessionOf (o : Owned) (names : List (List ℕ)) (h : ServerState ItemOut) (s : Session ItemOut) : Type 0 where
  pub there : session_of s.shown.number h.sessions ≡ Some s
  pub account : slice_get names s.shown.account ≡ Some o.account
  pub resource : s.shown.resource ≡ o.device
  pub address : normal (full_address o.account o.device) ≡ Ok (full_address o.account o.device)

-- the element is the stanza, of that session
pub record IsReplyCase (keep : ℕ) (owned : List Owned) (names : List (List ℕ)) (takes : List Take) (h : ServerState ItemOut) (o : Owned) (s : Session ItemOut) (x : Up) (e : Elem) : Type 0 where
  pub runs : ServerSimulates keep owned names takes h
  pub some : 1 ≤ keep
  pub few : length takes ≤ GREATEST_NUMBER
  pub session : IsSessionOf o names h s
  pub built : IsUpAs o x (Whole e)
  pub replied : IsReplied (last_of takes o.account) x

-- behind it: the stanza counts, where the session's are counted, and is handled
abbrev pub following : Elem → Session ItemOut → ServerState ItemOut → Step ItemOut
following e s h = acted itself (counting (told s) (does_on e (told s) h)) (step_of h)
