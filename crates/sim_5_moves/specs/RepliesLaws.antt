-- What the laws of `replies` say.
use Rattle.std.specs.Prelude.{◌≡◌, ◌≢◌, ℕ, false, [], List}
use Rattle.std.specs.List.{AllByRecursion}
use Rattle.srv_state.specs.State.{ServerState}
use Rattle.sim_5_moves.specs.Sent.{does_on, read_at, sends_to}
use Rattle.sim_3_items.specs.ItemMoves.{takes_reported}
use Rattle.sm_live.specs.Rule.{IsRule}
use Rattle.sm_live.specs.Sessions.{Session, is_named, told}
use Rattle.sim_5_moves.specs.Replied.{IsReplyCase, around_of, following}
use Rattle.cmd_schedule.specs.Contents.{Owned}
use Rattle.sim_3_items.specs.Built.{IsDown}
use Rattle.sim_3_items.specs.Served.{FlagsRepresent, ServerSimulates}
use Rattle.sim_1_applications.specs.Devices.{Present, Sessions, Take}
use Rattle.sim_1_applications.specs.Events.{flagged, reply}
use Rattle.sim_1_applications.specs.Stanzas.{Up}
use Rattle.sim_1_applications.specs.Reported.{history_at}
use Rattle.xml_trees.specs.Trees.{Elem}
use Rattle.xml_writer.specs.Items.{ItemOut}

abbrev pub RepliesAreServedReplied : Type 0
RepliesAreServedReplied =
    (keep : ℕ) (owned : List Owned) (names : List (List ℕ)) (takes : List Take) (h : ServerState ItemOut) (o : Owned) (s : Session ItemOut) (x : Up) (e : Elem) → IsReplyCase keep owned names takes h o s x e
    → read_at s.shown.number (does_on e (told s) h) ≡ reply (around_of keep names takes o.account) x

abbrev pub RepliesAreServedOthers : Type 0
RepliesAreServedOthers =
    (keep : ℕ) (owned : List Owned) (names : List (List ℕ)) (takes : List Take) (h : ServerState ItemOut) (o : Owned) (s : Session ItemOut) (x : Up) (e : Elem) (n : ℕ) → IsReplyCase keep owned names takes h o s x e
    → s.shown.number ≢ n → sends_to n (does_on e (told s) h) ≡ []

abbrev pub RepliesAreServedBuilt : Type 0
RepliesAreServedBuilt =
    (keep : ℕ) (owned : List Owned) (names : List (List ℕ)) (takes : List Take) (h : ServerState ItemOut) (o : Owned) (s : Session ItemOut) (x : Up) (e : Elem) → IsReplyCase keep owned names takes h o s x e
    → AllByRecursion (IsDown o (history_at owned takes o.account)) (sends_to s.shown.number (does_on e (told s) h))

abbrev pub RepliesLeaveTheServerRunningRuns : Type 0
RepliesLeaveTheServerRunningRuns =
    (keep : ℕ) (owned : List Owned) (names : List (List ℕ)) (takes : List Take) (h : ServerState ItemOut) (o : Owned) (s : Session ItemOut) (x : Up) (e : Elem) → IsReplyCase keep owned names takes h o s x e
    → ServerSimulates keep owned names takes (following e s h).server_state

abbrev pub RepliesLeaveTheServerRunningSilent : Type 0
RepliesLeaveTheServerRunningSilent =
    (keep : ℕ) (owned : List Owned) (names : List (List ℕ)) (takes : List Take) (h : ServerState ItemOut) (o : Owned) (s : Session ItemOut) (x : Up) (e : Elem) (moment : ℕ) → IsReplyCase keep owned names takes h o s x e
    → takes_reported moment (following e s h).outs ≡ []

abbrev pub RepliesLeaveTheServerRunningFlags : Type 0
RepliesLeaveTheServerRunningFlags =
    (keep : ℕ) (owned : List Owned) (names : List (List ℕ)) (takes : List Take) (h : ServerState ItemOut) (o : Owned) (s : Session ItemOut) (x : Up) (e : Elem) (d : Sessions) → IsReplyCase keep owned names takes h o s x e → IsRule h.sessions h.next → d.row ≡ Present
    → FlagsRepresent s.shown.account s.shown.resource h d → FlagsRepresent s.shown.account s.shown.resource (following e s h).server_state (flagged x d)

abbrev pub RepliesLeaveTheServerRunningSpares : Type 0
RepliesLeaveTheServerRunningSpares =
    (keep : ℕ) (owned : List Owned) (names : List (List ℕ)) (takes : List Take) (h : ServerState ItemOut) (o : Owned) (s : Session ItemOut) (x : Up) (e : Elem) (account : ℕ) (resource : List ℕ) (d : Sessions) → IsReplyCase keep owned names takes h o s x e → IsRule h.sessions h.next
    → is_named account resource s ≡ false → FlagsRepresent account resource h d → FlagsRepresent account resource (following e s h).server_state d
