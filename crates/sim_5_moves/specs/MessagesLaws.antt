-- What the laws of `messages` say.
use Rattle.std.specs.List.{AllByRecursion}
use Rattle.std.specs.Prelude.{◌≡◌, ◌≢◌, ◌++◌, ℕ, List, Some, map}
use Rattle.srv_state.specs.State.{ServerState}
use Rattle.sim_3_items.specs.Downs.{down_stanza}
use Rattle.sim_3_items.specs.ItemMoves.{takes_reported}
use Rattle.sm_live.specs.Sessions.{Session, session_named}
use Rattle.sim_5_moves.specs.Done.{acts_on, following}
use Rattle.sim_5_moves.specs.Hearing.{heard_in, hears_in, only_at, taken_now}
use Rattle.sim_5_moves.specs.Submits.{IsSessionAt, Submits}
use Rattle.cmd_schedule.specs.Contents.{Owned}
use Rattle.sim_3_items.specs.Built.{IsDown}
use Rattle.sim_3_items.specs.Served.{FlagsRepresent, ServerSimulates, take_reported}
use Rattle.sim_1_applications.specs.Devices.{Device, Sessions, Take}
use Rattle.sim_1_applications.specs.Devices.Row.{NoRow}
use Rattle.sim_1_applications.specs.Events.{Around, hears_of, reply}
use Rattle.sim_1_applications.specs.Stanzas.{Submission}
use Rattle.sim_1_applications.specs.Stanzas.Up.{Message}
use Rattle.sim_1_applications.specs.Reported.{history_at}
use Rattle.sim_4_links_follow.specs.Given.{sends_to}
use Rattle.xml_trees.specs.Trees.{Elem}
use Rattle.xml_writer.specs.Items.{ItemOut}

abbrev pub MessagesAreHeardArchives : Type 0
MessagesAreHeardArchives =
    (keep : ℕ) (owned : List Owned) (names : List (List ℕ)) (takes : List Take) (h : ServerState ItemOut) (i : ℕ) (o : Owned) (s : Session ItemOut) (m : Submission) (e : Elem) → Submits keep owned names takes h i o s m e →
    ServerSimulates keep owned names (takes ++ taken_now names h i o m) (following s h e).server_state

abbrev pub MessagesAreHeardTold : Type 0
MessagesAreHeardTold =
    (keep : ℕ) (owned : List Owned) (names : List (List ℕ)) (takes : List Take) (h : ServerState ItemOut) (i : ℕ) (o : Owned) (s : Session ItemOut) (m : Submission) (e : Elem) → Submits keep owned names takes h i o s m e →
    takes_reported h.moment (following s h e).outs ≡ map (take_reported owned) (taken_now names h i o m)

abbrev pub MessagesAreHeardSends : Type 0
MessagesAreHeardSends =
    (keep : ℕ) (owned : List Owned) (names : List (List ℕ)) (takes : List Take) (h : ServerState ItemOut) (i : ℕ) (o : Owned) (s : Session ItemOut) (m : Submission) (e : Elem) (a : Around) (j : ℕ) (p : Owned) (u : Session ItemOut) → Submits keep owned names takes h i o s m e → IsSessionAt owned names h j p u → a.accounts ≡ names →
    map down_stanza (sends_to u.shown.number (acts_on s h e)) ≡ only_at u.shown.number s.shown.number (reply a (Message m)) ++ heard_in (takes ++ taken_now names h i o m) (taken_now names h i o m) j p u

abbrev pub MessagesAreHeardBuilt : Type 0
MessagesAreHeardBuilt =
    (keep : ℕ) (owned : List Owned) (names : List (List ℕ)) (takes : List Take) (h : ServerState ItemOut) (i : ℕ) (o : Owned) (s : Session ItemOut) (m : Submission) (e : Elem) (j : ℕ) (p : Owned) (u : Session ItemOut) → Submits keep owned names takes h i o s m e → IsSessionAt owned names h j p u →
    AllByRecursion (IsDown p (history_at owned (takes ++ taken_now names h i o m) p.account)) (sends_to u.shown.number (acts_on s h e))

abbrev pub HearingIsThatOfTheApplicationsFlags : Type 0
HearingIsThatOfTheApplicationsFlags =
    (keep : ℕ) (owned : List Owned) (names : List (List ℕ)) (takes : List Take) (h : ServerState ItemOut) (i : ℕ) (o : Owned) (s : Session ItemOut) (m : Submission) (e : Elem) (account : ℕ) (resource : List ℕ) (d : Sessions) → Submits keep owned names takes h i o s m e →
    FlagsRepresent account resource h d → FlagsRepresent account resource (following s h e).server_state d

abbrev pub HearingIsThatOfTheApplicationsHears : Type 0
HearingIsThatOfTheApplicationsHears =
    (t : Take) (j : ℕ) (d : Device) (p : Owned) (h : ServerState ItemOut) (u : Session ItemOut) → d.account ≡ p.account → d.sessions.row ≢ NoRow → FlagsRepresent u.shown.account u.shown.resource h d.sessions →
    session_named u.shown.account u.shown.resource h.sessions ≡ Some u → hears_in t j p u ≡ hears_of t j d
