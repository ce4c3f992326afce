-- What the laws of `stanzas` say.
use Rattle.std.specs.Prelude.{◌≡◌, ◌⊎◌, ℕ, true, List, [], ◌∷◌, ◌++◌, Some, map}
use Rattle.srv_state.specs.State.{ServerState}
use Rattle.srv_state.specs.Steps.{Act}
use Rattle.sim_3_items.specs.Identities.{Identity, Login}
use Rattle.base_io.specs.Names.{is_among}
use Rattle.sim_3_items.specs.Downs.{down_stanza}
use Rattle.sim_3_items.specs.Items.{stanzas_read}
use Rattle.sim_2_links.specs.Events.{seen}
use Rattle.sim_2_links.specs.Views.{Row, View}
use Rattle.sim_2_events.specs.Lists.{IsDevice}
use Rattle.sm_live.specs.Sessions.{Session}
use Rattle.sim_5_moves.specs.Done.{acts_on}
use Rattle.sim_5_moves.specs.Submits.{Submits}
use Rattle.cmd_schedule.specs.Contents.{Owned}
use Rattle.sim_1_applications.specs.Devices.{Device, Sessions, Take, last_of}
use Rattle.sim_1_applications.specs.Devices.Row.{NoRow}
use Rattle.sim_1_applications.specs.Events.{hears_of}
use Rattle.sim_1_applications.specs.Stanzas.{Down, Submission}
use Rattle.sim_5_moves.specs.Handled.{IsHeardOf}
use Rattle.sim_4_links_follow.specs.Given.{IsGiven, sends_to}
use Rattle.sim_5_moves.specs.Recipients.{IsRecipient}
use Rattle.xml_trees.specs.Trees.{Elem}
use Rattle.xml_writer.specs.Items.{ItemOut}

abbrev pub MessagesAreGiven : Type 0
MessagesAreGiven =
    (keep : ℕ) (owned : List Owned) (names : List (List ℕ)) (takes : List Take) (h : ServerState ItemOut) (i : ℕ) (o : Owned) (s : Session ItemOut) (m : Submission) (e : Elem) (j : ℕ) (p : Owned) (who : Identity) (logins : ℕ → Login) (v next : View ItemOut) (d : Device) (given : List ItemOut) (last : Sessions) (t : Take) → Submits keep owned names takes h i o s m e → is_among m.to names ≡ true
    → t ≡ record { device = i; account = o.account; said = m; moment = h.moment } → IsRecipient owned names h j p who logins v d → IsGiven (acts_on s h e) given v.row next.row → IsDevice stanzas_read (seen next) last
    → IsHeardOf (hears_of t j d) (last_of (takes ++ t ∷ []) p.account) (map down_stanza given) last

abbrev pub StanzasAreGivenReplied : Type 0
StanzasAreGivenReplied =
    (acts : List (Act ItemOut)) (given : List ItemOut) (r : Row ItemOut) (next : View ItemOut) (last : Sessions) (reply : List Down) → IsGiven acts given (Some r) next.row → IsDevice stanzas_read (seen next) last → map down_stanza (sends_to r.number acts) ≡ reply
    → (map down_stanza given ≡ reply) ⊎ ((missing : Down) × (more : List Down) × (reply ≡ map down_stanza given ++ missing ∷ more) × (last.row ≡ NoRow))

abbrev pub StanzasAreGivenNothing : Type 0
StanzasAreGivenNothing =
    (acts : List (Act ItemOut)) (given : List ItemOut) (v next : View ItemOut) → IsGiven acts given v.row next.row → ((r : Row ItemOut) → v.row ≡ Some r → sends_to r.number acts ≡ []) → given ≡ []
