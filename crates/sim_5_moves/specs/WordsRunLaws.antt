-- What the laws of `words_run` say.
use Rattle.std.specs.Prelude.{◌≡◌, ◌≢◌, ℕ, true, false, [], List}
use Rattle.srv_state.specs.State.{ServerState}
use Rattle.sim_3_items.specs.Labels.{Label}
use Rattle.sim_3_items.specs.Identities.{Identity, Login}
use Rattle.sim_3_items.specs.WordItems.{up_item}
use Rattle.sim_3_items.specs.ItemMoves.{takes_reported}
use Rattle.sim_3_items.specs.ItemPipes.{ItemWire}
use Rattle.sim_2_links.specs.Views.{Table, View}
use Rattle.sim_2_links.specs.Words.{Bind, St, Up, UpWord}
use Rattle.sim_2_events.specs.Lists.{Stanzas}
use Rattle.sim_5_moves.specs.Replied.{following}
use Rattle.cmd_schedule.specs.Contents.{Owned}
use Rattle.sim_4_links_follow.specs.Taking.{IsFirst, on_item}
use Rattle.sim_5_devices.specs.Labels.{Does, SessionStep, SessionSteps}
use Rattle.sim_3_items.specs.Served.{FlagsRepresent, ServerSimulates}
use Rattle.sim_1_applications.specs.Devices.{Present, Sessions, Take}
use Rattle.sim_4_links_follow.specs.Given.{IsOfSession}
use Rattle.sim_5_moves.specs.WordsRunWords.{IsBare, IsDeviceOf, IsSilent, IsUnbinding, binds_between}
use Rattle.xml_writer.specs.Items.{ItemOut}

abbrev pub WordsLeaveTheServerRunningRuns : Type 0
WordsLeaveTheServerRunningRuns =
    (keep : ℕ) (owned : List Owned) (names : List (List ℕ)) (takes : List Take) (who : Identity) (logins : ℕ → Login) (h : ServerState ItemOut) (wires : Table ItemWire) (v : View ItemOut) (k : ℕ) (word : UpWord ItemOut) (o : Owned)
    → IsFirst who logins h wires v k word → IsSilent word → IsDeviceOf owned names who o → ServerSimulates keep owned names takes h → ServerSimulates keep owned names takes (on_item k (up_item who (logins k) word) h).server_state

abbrev pub WordsLeaveTheServerRunningSilent : Type 0
WordsLeaveTheServerRunningSilent =
    (who : Identity) (logins : ℕ → Login) (h : ServerState ItemOut) (wires : Table ItemWire) (v : View ItemOut) (k : ℕ) (word : UpWord ItemOut) (owned : List Owned) (names : List (List ℕ)) (o : Owned) (moment : ℕ)
    → IsFirst who logins h wires v k word → IsSilent word → IsDeviceOf owned names who o → takes_reported moment (on_item k (up_item who (logins k) word) h).outs ≡ []

abbrev pub WordsLeaveTheServerRunningFlags : Type 0
WordsLeaveTheServerRunningFlags =
    (who : Identity) (logins : ℕ → Login) (h : ServerState ItemOut) (wires : Table ItemWire) (v : View ItemOut) (k : ℕ) (word : UpWord ItemOut) (account : ℕ) (resource : List ℕ) (d : Sessions)
    → IsFirst who logins h wires v k word → IsUnbinding word → FlagsRepresent account resource h d → FlagsRepresent account resource (on_item k (up_item who (logins k) word) h).server_state d

abbrev pub WordsLeaveTheServerRunningBare : Type 0
WordsLeaveTheServerRunningBare =
    (who : Identity) (logins : ℕ → Login) (h : ServerState ItemOut) (wires : Table ItemWire) (v : View ItemOut) (k : ℕ) (owned : List Owned) (names : List (List ℕ)) (o : Owned)
    → IsFirst who logins h wires v k Bind → IsDeviceOf owned names who o → IsBare who.account who.resource (on_item k (up_item who (logins k) Bind) h).server_state

abbrev pub WordsLeaveTheServerRunningSpares : Type 0
WordsLeaveTheServerRunningSpares =
    (who : Identity) (logins : ℕ → Login) (h : ServerState ItemOut) (wires : Table ItemWire) (v : View ItemOut) (k : ℕ) (owned : List Owned) (names : List (List ℕ)) (o : Owned) (account : ℕ) (resource : List ℕ) (d : Sessions)
    → IsFirst who logins h wires v k Bind → IsDeviceOf owned names who o → (who.account ≡ account → who.resource ≢ resource) → FlagsRepresent account resource h d → FlagsRepresent account resource (on_item k (up_item who (logins k) Bind) h).server_state d

abbrev pub StanzasAreSteps : Type 0
StanzasAreSteps =
    (who : Identity) (logins : ℕ → Login) (h : ServerState ItemOut) (wires : Table ItemWire) (v : View ItemOut) (k : ℕ) (z : ItemOut) → IsFirst who logins h wires v k (Up (St z)) → (x : IsOfSession who h z)
    → on_item k z h ≡ following x.stanza.elem x.session h

abbrev pub FlagsFollowSessionsLabels : Type 0 → Type 0
FlagsFollowSessionsLabels A =
    (r : Stanzas A) (x : Label A) (account : ℕ) (resource : List ℕ) (h : ServerState ItemOut) (d next : Sessions) → Does r x d next → FlagsRepresent account resource h d → FlagsRepresent account resource h next

abbrev pub FlagsFollowSessionsSessionSteps : Type 0
FlagsFollowSessionsSessionSteps =
    (xs : List SessionStep) (account : ℕ) (resource : List ℕ) (h : ServerState ItemOut) (d last : Sessions) → binds_between xs ≡ false → SessionSteps xs d last → FlagsRepresent account resource h d → FlagsRepresent account resource h last

abbrev pub FlagsFollowSessionsBound : Type 0
FlagsFollowSessionsBound =
    (xs : List SessionStep) (account : ℕ) (resource : List ℕ) (h : ServerState ItemOut) (d last : Sessions) → binds_between xs ≡ true → SessionSteps xs d last → IsBare account resource h → FlagsRepresent account resource h last

abbrev pub FlagsFollowSessionsBare : Type 0
FlagsFollowSessionsBare =
    (account : ℕ) (resource : List ℕ) (h : ServerState ItemOut) (d : Sessions) → IsBare account resource h → d.row ≢ Present → FlagsRepresent account resource h d
