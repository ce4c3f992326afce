-- What the laws of `server_words` say.
use Rattle.std.specs.Prelude.{◌≡◌, ◌≢◌, ℕ, [], List, None}
use Rattle.srv_state.specs.Moments.{at_moment, gone_at, with_fresh}
use Rattle.srv_state.specs.State.{ServerState, conn_at}
use Rattle.sim_3_items.specs.ItemMoves.{step_of, takes_reported}
use Rattle.sm_live.specs.Rule.{IsRule}
use Rattle.sm_live.specs.Sessions.{Session}
use Rattle.sim_5_moves.specs.Replied.{following}
use Rattle.im_requests.specs.Sessions.{bind_item}
use Rattle.cmd_schedule.specs.Contents.{Owned}
use Rattle.sim_5_moves.specs.Coming.{IsHandled, IsNonStanza, MayBind, behind_item}
use Rattle.sim_3_items.specs.Served.{FlagsRepresent, ServerSimulates}
use Rattle.sim_1_applications.specs.Devices.{Sessions, Take}
use Rattle.sim_1_applications.specs.Events.{binds}
use Rattle.xml_trees.specs.Trees.{Elem}
use Rattle.xml_writer.specs.Items.{ItemOut, Whole}

abbrev pub NonStanzaItemsLeaveTheServerRunningRuns : Type 0
NonStanzaItemsLeaveTheServerRunningRuns =
    (keep : ℕ) (owned : List Owned) (names : List (List ℕ)) (takes : List Take) (h : ServerState ItemOut) (k : ℕ) (z : ItemOut) → IsNonStanza z → ServerSimulates keep owned names takes h → ServerSimulates keep owned names takes (behind_item k z h).server_state

abbrev pub NonStanzaItemsLeaveTheServerRunningSilent : Type 0
NonStanzaItemsLeaveTheServerRunningSilent =
    (h : ServerState ItemOut) (k : ℕ) (z : ItemOut) (moment : ℕ) → IsNonStanza z → takes_reported moment (behind_item k z h).outs ≡ []

abbrev pub NonStanzaItemsLeaveTheServerRunningFlags : Type 0
NonStanzaItemsLeaveTheServerRunningFlags =
    (h : ServerState ItemOut) (k : ℕ) (z : ItemOut) (account : ℕ) (resource : List ℕ) (d : Sessions) → IsNonStanza z → IsRule h.sessions h.next → FlagsRepresent account resource h d → FlagsRepresent account resource (behind_item k z h).server_state d

abbrev pub NonStanzaItemsLeaveTheServerRunningClosed : Type 0
NonStanzaItemsLeaveTheServerRunningClosed =
    (h : ServerState ItemOut) (k : ℕ) (z : ItemOut) → conn_at k h ≡ None → behind_item k z h ≡ step_of h

abbrev pub BindingsLeaveTheServerRunningRuns : Type 0
BindingsLeaveTheServerRunningRuns =
    (keep : ℕ) (owned : List Owned) (names : List (List ℕ)) (takes : List Take) (h : ServerState ItemOut) (k account : ℕ) (o : Owned) → MayBind owned names k account o h → ServerSimulates keep owned names takes h → ServerSimulates keep owned names takes (behind_item k (bind_item o.device) h).server_state

abbrev pub BindingsLeaveTheServerRunningSilent : Type 0
BindingsLeaveTheServerRunningSilent =
    (owned : List Owned) (names : List (List ℕ)) (h : ServerState ItemOut) (k account : ℕ) (o : Owned) (moment : ℕ) → MayBind owned names k account o h → takes_reported moment (behind_item k (bind_item o.device) h).outs ≡ []

abbrev pub BindingsLeaveTheServerRunningFlags : Type 0
BindingsLeaveTheServerRunningFlags =
    (owned : List Owned) (names : List (List ℕ)) (h : ServerState ItemOut) (k account : ℕ) (o : Owned) (d : Sessions) → MayBind owned names k account o h → IsRule h.sessions h.next → FlagsRepresent account o.device (behind_item k (bind_item o.device) h).server_state (binds d)

abbrev pub BindingsLeaveTheServerRunningSpares : Type 0
BindingsLeaveTheServerRunningSpares =
    (owned : List Owned) (names : List (List ℕ)) (h : ServerState ItemOut) (k account : ℕ) (o : Owned) (other : ℕ) (resource : List ℕ) (d : Sessions) → MayBind owned names k account o h → IsRule h.sessions h.next
    → (account ≡ other → o.device ≢ resource) → FlagsRepresent other resource h d → FlagsRepresent other resource (behind_item k (bind_item o.device) h).server_state d

abbrev pub OtherEventsLeaveTheServerRunningGone : Type 0
OtherEventsLeaveTheServerRunningGone =
    (keep : ℕ) (owned : List Owned) (names : List (List ℕ)) (takes : List Take) (h : ServerState ItemOut) (k : ℕ) → ServerSimulates keep owned names takes h → ServerSimulates keep owned names takes (gone_at k h)

abbrev pub OtherEventsLeaveTheServerRunningGoneFlags : Type 0
OtherEventsLeaveTheServerRunningGoneFlags =
    (h : ServerState ItemOut) (k account : ℕ) (resource : List ℕ) (d : Sessions) → IsRule h.sessions h.next → FlagsRepresent account resource h d → FlagsRepresent account resource (gone_at k h) d

abbrev pub OtherEventsLeaveTheServerRunningMoment : Type 0
OtherEventsLeaveTheServerRunningMoment =
    (keep : ℕ) (owned : List Owned) (names : List (List ℕ)) (takes : List Take) (h : ServerState ItemOut) (now : ℕ) → ServerSimulates keep owned names takes h → ServerSimulates keep owned names takes (at_moment now h)

abbrev pub OtherEventsLeaveTheServerRunningMomentFlags : Type 0
OtherEventsLeaveTheServerRunningMomentFlags =
    (h : ServerState ItemOut) (now account : ℕ) (resource : List ℕ) (d : Sessions) → IsRule h.sessions h.next → FlagsRepresent account resource h d → FlagsRepresent account resource (at_moment now h) d

abbrev pub OtherEventsLeaveTheServerRunningComes : Type 0
OtherEventsLeaveTheServerRunningComes =
    (keep : ℕ) (owned : List Owned) (names : List (List ℕ)) (takes : List Take) (h : ServerState ItemOut) (k : ℕ) (entropy : List ℕ) → ServerSimulates keep owned names takes h → ServerSimulates keep owned names takes (with_fresh k entropy h)

abbrev pub OtherEventsLeaveTheServerRunningComesFlags : Type 0
OtherEventsLeaveTheServerRunningComesFlags =
    (h : ServerState ItemOut) (k : ℕ) (entropy : List ℕ) (account : ℕ) (resource : List ℕ) (d : Sessions) → FlagsRepresent account resource h d → FlagsRepresent account resource (with_fresh k entropy h) d

abbrev pub StanzasAreCountedAndHandled : Type 0
StanzasAreCountedAndHandled =
    (k : ℕ) (e : Elem) (s : Session ItemOut) (h : ServerState ItemOut) → IsHandled k e s h → behind_item k (Whole e) h ≡ following e s h
