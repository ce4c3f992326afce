-- What the server of the applications replies is what goes to the session.
use Rattle.std.proofs.Common.{◌≡◌, ◌≢◌, ℕ, List, [], sym, ap}
use Rattle.srv_state.specs.State.{ServerState}
use Rattle.sim_5_moves.proofs.AnswersReplies.{carbons_answered, iq_elsewhere, iq_in, iq_of_switch, presence_answered, presence_does, request_answered}
use Rattle.sim_5_moves.proofs.Sends.{elem_in}
use Rattle.sim_5_moves.specs.Sent.{does_on, read_at, sends_to}
use Rattle.sm_live.specs.Sessions.{Session, told}
use Rattle.sim_5_moves.proofs.ServerStates.{around}
use Rattle.sim_5_moves.specs.Replied.{IsReplyCase, around_of}
use Rattle.cmd_schedule.specs.Contents.{Owned}
use Rattle.sim_1_applications.specs.Devices.{Take}
use Rattle.sim_1_applications.specs.Events.{reply}
use Rattle.sim_1_applications.specs.Stanzas.{Carbons, Message, Presence, Query, Up}
use Rattle.im_stanza.specs.Readings.{stanza_of}
use Rattle.xml_trees.specs.Trees.{Elem}
use Rattle.xml_writer.specs.Items.{ItemOut}

module _ (keep : ℕ) (owned : List Owned) (names : List (List ℕ)) (takes : List Take) (h : ServerState ItemOut) (o : Owned) (s : Session ItemOut) where
  pub replied_is : (x : Up) (e : Elem) → IsReplyCase keep owned names takes h o s x e → read_at s.shown.number (does_on e (told s) h) ≡ reply (around_of keep names takes o.account) x
  replied_is Carbons e is = carbons_answered (around_of keep names takes o.account) (told s) h e (sym is.built)
  replied_is Presence e is = presence_answered (around_of keep names takes o.account) (told s) h e (sym is.built)
  replied_is (Message m) e is = absurd is.replied
  replied_is (Query r) e is =
      request_answered (around_of keep names takes o.account) (told s) h r (around keep owned names takes h is.runs o s is.session is.some is.few) is.replied e (sym is.built.0)

  pub others_get_nothing : (x : Up) (e : Elem) (n : ℕ) → IsReplyCase keep owned names takes h o s x e → s.shown.number ≢ n → sends_to n (does_on e (told s) h) ≡ []
  others_get_nothing Carbons e n is other = iq_elsewhere iq_of_switch e (told s) h n (ap (λ z. stanza_of (elem_in z)) is.built) other
  others_get_nothing Presence e n is other = ap (sends_to n) (presence_does (told s) h e (sym is.built))
  others_get_nothing (Message m) e n is other = absurd is.replied
  others_get_nothing (Query r) e n is other = iq_elsewhere (iq_in r) e (told s) h n (ap (λ z. stanza_of (elem_in z)) is.built.0) other
