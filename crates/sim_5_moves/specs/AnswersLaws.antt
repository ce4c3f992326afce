-- What the laws of `answers` say.
use Rattle.std.specs.Prelude.{◌≡◌, ◌≢◌, ◌+◌, ℕ, true, false, List, [], ◌∷◌, Ok, Some, None, pos, if◌then◌else◌}
use Rattle.srv_state.specs.State.{Kept, ServerState, archive_at}
use Rattle.srv_state.specs.Steps.{Copy, Present, Send}
use Rattle.sim_5_moves.specs.Around.{IsAround, IsAsked}
use Rattle.base_io.specs.Names.{is_among, position_of}
use Rattle.sim_5_moves.specs.Heard.{HasRoom, IsReadyWhereAvailable, IsSubmission, hears}
use Rattle.sim_5_moves.specs.Sent.{does_on, read_at, sends_to}
use Rattle.sim_3_items.specs.Meant.{IsOrigin, requested}
use Rattle.sm_live.specs.Rule.{RisesTo}
use Rattle.sm_live.specs.Sessions.{Session, session_of}
use Rattle.sm_live.specs.declared.told.SessionInfo.{SessionInfo}
use Rattle.srv_login.specs.Accounts.{names_of}
use Rattle.im_requests.specs.Sessions.{available_item, carbons_item}
use Rattle.sim_1_applications.specs.Events.{Around, reply}
use Rattle.sim_1_applications.specs.Stanzas.{Request, Submission}
use Rattle.sim_1_applications.specs.Stanzas.Down.{Bounced, Live}
use Rattle.sim_1_applications.specs.Stanzas.Up.{Carbons, Presence, Query}
use Rattle.im_stanza.specs.Readings.{stanza_of}
use Rattle.im_stanza.specs.Views.{IqView}
use Rattle.im_stanza.specs.declared.stanzas.Stanza.TheVariants as stanza
use Rattle.xml_trees.specs.Trees.{Elem}
use Rattle.xml_writer.specs.Items.{ItemOut, Whole}

abbrev pub RepliesAreAnswersCarbons : Type 0
RepliesAreAnswersCarbons =
    (a : Around) (t : SessionInfo) (h : ServerState ItemOut) (e : Elem) → carbons_item ≡ Whole e → read_at t.number (does_on e t h) ≡ reply a Carbons

abbrev pub RepliesAreAnswersPresence : Type 0
RepliesAreAnswersPresence =
    (a : Around) (t : SessionInfo) (h : ServerState ItemOut) (e : Elem) → available_item ≡ Whole e → read_at t.number (does_on e t h) ≡ reply a Presence

abbrev pub RepliesAreAnswersCopies : Type 0
RepliesAreAnswersCopies =
    (t : SessionInfo) (h : ServerState ItemOut) (e : Elem) → carbons_item ≡ Whole e → (z : ItemOut) × (does_on e t h ≡ Copy t.number true ∷ Send t.number z ∷ [])

abbrev pub RepliesAreAnswersPresents : Type 0
RepliesAreAnswersPresents =
    (t : SessionInfo) (h : ServerState ItemOut) (e : Elem) → available_item ≡ Whole e → does_on e t h ≡ Present t.number true (pos 0) ∷ []

abbrev pub RepliesAreAnswersRequest : Type 0
RepliesAreAnswersRequest =
    (a : Around) (t : SessionInfo) (h : ServerState ItemOut) (r : Request) (e : Elem) → requested r ≡ Whole e → IsAround a t h → IsAsked a.last r → read_at t.number (does_on e t h) ≡ reply a (Query r)

abbrev pub RepliesAreAnswersOthers : Type 0
RepliesAreAnswersOthers =
    (q : IqView) (e : Elem) (t : SessionInfo) (h : ServerState ItemOut) (n : ℕ) → stanza_of e ≡ Ok (stanza.Iq q) → t.number ≢ n → sends_to n (does_on e t h) ≡ []

abbrev pub MessagesAreAnsweredHeard : Type 0
MessagesAreAnsweredHeard =
    (resource : List ℕ) (m : Submission) (t : SessionInfo) (h : ServerState ItemOut) (account n : ℕ) (e : Elem) (s : Session ItemOut) (kept : Kept) → IsSubmission resource m h e → position_of m.to (names_of h.accounts) ≡ Some account → HasRoom t account h → RisesTo h.next 1 h.sessions
    → session_of n h.sessions ≡ Some s → IsReadyWhereAvailable s.shown → archive_at s.shown.account h ≡ Some kept → read_at n (does_on e t h) ≡ (if hears t account m.private s.shown then Live (kept.last + 1) ∷ [] else [])

abbrev pub MessagesAreAnsweredNobody : Type 0
MessagesAreAnsweredNobody =
    (resource : List ℕ) (m : Submission) (t : SessionInfo) (h : ServerState ItemOut) (account n : ℕ) (e : Elem) → IsSubmission resource m h e → position_of m.to (names_of h.accounts) ≡ Some account → HasRoom t account h → RisesTo h.next 1 h.sessions
    → session_of n h.sessions ≡ None → sends_to n (does_on e t h) ≡ []

abbrev pub MessagesAreAnsweredBounced : Type 0
MessagesAreAnsweredBounced =
    (resource : List ℕ) (m : Submission) (t : SessionInfo) (h : ServerState ItemOut) (e : Elem) → IsSubmission resource m h e → is_among m.to (names_of h.accounts) ≡ false → IsOrigin resource m.epoch m.n → read_at t.number (does_on e t h) ≡ Bounced m.epoch m.n ∷ []

abbrev pub MessagesAreAnsweredOthers : Type 0
MessagesAreAnsweredOthers =
    (resource : List ℕ) (m : Submission) (t : SessionInfo) (h : ServerState ItemOut) (n : ℕ) (e : Elem) → IsSubmission resource m h e → is_among m.to (names_of h.accounts) ≡ false → t.number ≢ n → sends_to n (does_on e t h) ≡ []
