-- What is said of stanzas can be answered, where messages come without a result.
use Rattle.std.proofs.Common.{◌≡◌, ℕ, Bool, true, false, cond, List, [], ◌∷◌, Option, Some, None, codes}
use Rattle.mam_archive.specs.Entries.{EntryView}
use Rattle.srv_state.specs.State.{ServerState, bare_address, session_address}
use Rattle.srv_state.specs.Steps.{Act}
use Rattle.im_forwarding.specs.Passed.{addressed}
use Rattle.sim_3_images.proofs.AnsweredItems.{passed_answers}
use Rattle.sim_3_images.proofs.AnsweredReplies.{bounce_answers, copy_answers}
use Rattle.sim_3_images.proofs.AnsweredSteps.{ActsAnswer}
use Rattle.im_payload.specs.Names.{archive}
use Rattle.xml_trees.specs.Readers.{first_named}
use Rattle.sim_3_items.specs.ItemWorlds.{itself}
use Rattle.sm_live.specs.Sessions.{info_of}
use Rattle.sm_live.specs.declared.told.SessionInfo.{SessionInfo}
use Rattle.srv_handlers.specs.Messages.{archiving, carrying, copying, copying_to, delivering, delivering_to, is_full_in, messaging, no_room, bouncing, copy_for, number_in, telling}
use Rattle.im_messages.specs.Entries.{entry_of}
use Rattle.srv_route.specs.Routes.{PlanOf, Bounced, Routed, RouteOf, archives_of}
use Rattle.im_stanza.specs.Views.{MessageView}
use Rattle.xml_writer.specs.Items.{ItemOut}

-- its payload has no result of an archive
abbrev pub HasNoResult : MessageView → Type 0
HasNoResult m = first_named archive (codes "result") m.payload ≡ None

archiving_answers : (e : EntryView) (accounts : List ℕ) (more : List (Act ItemOut)) → ActsAnswer more → ActsAnswer (archiving e accounts more)
archiving_answers e [] more q = q
archiving_answers e (account ∷ accounts) more q = (tt, archiving_answers e accounts more q)

telling_answers : (m : MessageView) (accounts : List ℕ) (more : List (Act ItemOut)) → ActsAnswer more → ActsAnswer (telling m accounts more)
telling_answers m [] more q = q
telling_answers m (account ∷ accounts) more q = (tt, q)

delivering_to_answers : (m : MessageView) (accounts : List ℕ) (i : ℕ) (o : Option SessionInfo) (h : ServerState ItemOut) (more : List (Act ItemOut)) → HasNoResult m → ActsAnswer more → ActsAnswer (delivering_to itself m accounts i o h more)
delivering_to_answers m accounts i None h more bare q = q
delivering_to_answers m accounts i (Some t) h more bare q = (passed_answers (bare_address t.account h) (number_in t.account accounts h) m bare, q)

delivering_answers : (m : MessageView) (accounts numbers : List ℕ) (h : ServerState ItemOut) (more : List (Act ItemOut)) → HasNoResult m → ActsAnswer more → ActsAnswer (delivering itself m accounts numbers h more)
delivering_answers m accounts [] h more bare q = q
delivering_answers m accounts (i ∷ numbers) h more bare q = delivering_to_answers m accounts i (info_of i h.sessions) h (delivering itself m accounts numbers h more) bare (delivering_answers m accounts numbers h more bare q)

copying_to_answers : (sent : Bool) (m : MessageView) (accounts : List ℕ) (i : ℕ) (o : Option SessionInfo) (h : ServerState ItemOut) (more : List (Act ItemOut)) → ActsAnswer more → ActsAnswer (copying_to itself sent m accounts i o h more)
copying_to_answers sent m accounts i None h more q = q
copying_to_answers sent m accounts i (Some t) h more q = (copy_answers (copy_for sent m accounts t.account h) (session_address i h), q)

copying_answers : (sent : Bool) (m : MessageView) (accounts numbers : List ℕ) (h : ServerState ItemOut) (more : List (Act ItemOut)) → ActsAnswer more → ActsAnswer (copying itself sent m accounts numbers h more)
copying_answers sent m accounts [] h more q = q
copying_answers sent m accounts (i ∷ numbers) h more q = copying_to_answers sent m accounts i (info_of i h.sessions) h (copying itself sent m accounts numbers h more) (copying_answers sent m accounts numbers h more q)

carrying_answers : (m : MessageView) (accounts : List ℕ) (r : RouteOf ℕ) (h : ServerState ItemOut) → HasNoResult m → ActsAnswer (carrying itself m accounts r h)
carrying_answers m accounts r h bare =
    archiving_answers (entry_of 0 h.moment m) accounts (telling m accounts (delivering itself m accounts r.deliver h (copying itself true m accounts r.sent h (copying itself false m accounts r.received h []))))
    (telling_answers m accounts (delivering itself m accounts r.deliver h (copying itself true m accounts r.sent h (copying itself false m accounts r.received h [])))
    (delivering_answers m accounts r.deliver h (copying itself true m accounts r.sent h (copying itself false m accounts r.received h [])) bare
    (copying_answers true m accounts r.sent h (copying itself false m accounts r.received h []) (copying_answers false m accounts r.received h [] tt))))

pub messaging_answers : (m : MessageView) (to : List ℕ) (t : SessionInfo) (p : PlanOf ℕ) (h : ServerState ItemOut) → HasNoResult m → ActsAnswer (messaging itself m to t p h)
messaging_answers m to t (Bounced e) h bare = (bounce_answers to m.id e, tt)
messaging_answers m to t (Routed r) h bare = by (is_full_in (archives_of r.archiving) h)
  where
    by : (b : Bool) → ActsAnswer (cond b (bouncing itself m to no_room t) (carrying itself (addressed (session_address t.number h) to m) (archives_of r.archiving) r h))
    by true = (bounce_answers to m.id no_room, tt)
    by false = carrying_answers (addressed (session_address t.number h) to m) (archives_of r.archiving) r h bare
