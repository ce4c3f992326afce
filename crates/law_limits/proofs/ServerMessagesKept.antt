-- What the row on messages says is read, and what it archives fits.
use Rattle.std.proofs.Common.{ℕ, Bool, true, false, List, [], ◌∷◌, Option, Some, None, IfSome, cond, arith, unwrap_or}
use Rattle.mam_archive.specs.Entries.{EntryView}
use Rattle.srv_state.specs.State.{ServerState, bare_address, session_address}
use Rattle.srv_state.specs.Steps.{Act}
use Rattle.im_forwarding.specs.Passed.{addressed}
use Rattle.sm_live.specs.Sessions.{Session, info_of, number_of, session_named}
use Rattle.sm_live.specs.declared.told.SessionInfo.{SessionInfo}
use Rattle.srv_handlers.specs.Messages.{archiving, at_message, bouncing, carrying, copy_for, copying, copying_to, delivering, delivering_to, is_full_in, messaging, no_room, number_in, telling}
use Rattle.im_messages.specs.Entries.{entry_of}
use Rattle.law_limits.proofs.Forwarding.{entry_fits}
use Rattle.law_limits.proofs.Passing.{copy_read, passed_read}
use Rattle.law_limits.proofs.Requests.{bounce_read}
use Rattle.law_limits.specs.Messages.{EntryFits, MessageFits}
use Rattle.srv_route.specs.Destinations.{Bare, Destination, Full, NoUser, RemoteDomain, destination_of}
use Rattle.srv_route.specs.Messages.{is_chat, is_for_users}
use Rattle.srv_route.specs.Plans.{plan_of, planned, ready_of, refused, to_full, to_user}
use Rattle.srv_route.specs.Routes.{Bounced, PlanOf, RouteOf, Routed, archives_of, plan_renamed}
use Rattle.law_limits.proofs.ServedAddresses.{bare_said, session_said}
use Rattle.law_limits.proofs.RowsKept.{either_acts}
use Rattle.law_limits.proofs.ServerStepsKept.{whole_read}
use Rattle.law_limits.specs.Keeps.{ActsKeep, ServerKeeps}
use Rattle.law_server.specs.Encodings.{itself}
use Rattle.law_limits.proofs.Characters.{said_more}
use Rattle.law_limits.specs.Texts.{Said}
use Rattle.im_stanza.specs.Conditions.{IsKnown}
use Rattle.im_stanza.specs.Kinds.{answers_message}
use Rattle.im_stanza.specs.Views.{MessageView}
use Rattle.im_stanza.specs.declared.conditions.Condition.{Condition}
use Rattle.im_stanza.specs.declared.conditions.Condition.TheVariants.{RemoteServerNotFound, ServiceUnavailable}
use Rattle.im_stanza.specs.declared.errors.StanzaError.{StanzaError}
use Rattle.im_stanza.specs.declared.kinds.MessageKind.{MessageKind}
use Rattle.xml_writer.specs.Items.{ItemOut}

-- ---- archives

archiving_kept : (e : EntryView) (accounts : List ℕ) (more : List (Act ItemOut)) → EntryFits e → ActsKeep more → ActsKeep (archiving e accounts more)
archiving_kept e [] more fits h = h
archiving_kept e (account ∷ accounts) more fits h = (fits, archiving_kept e accounts more fits h)

telling_kept : (m : MessageView) (accounts : List ℕ) (more : List (Act ItemOut)) → ActsKeep more → ActsKeep (telling m accounts more)
telling_kept m [] more h = h
telling_kept m (account ∷ accounts) more h = (tt, h)

-- ---- deliveries and copies

delivered : (m : MessageView) (accounts : List ℕ) (n : ℕ) (o : Option SessionInfo) (h : ServerState ItemOut) (more : List (Act ItemOut)) → MessageFits m → ServerKeeps h → ActsKeep more → ActsKeep (delivering_to itself m accounts n o h more)
delivered m accounts n None h more fits keeps acts = acts
delivered m accounts n (Some t) h more fits keeps acts = (whole_read _ (passed_read (bare_address t.account h) (number_in t.account accounts h) m (bare_said t.account h keeps) fits), acts)

delivering_kept : (m : MessageView) (accounts numbers : List ℕ) (h : ServerState ItemOut) (more : List (Act ItemOut)) → MessageFits m → ServerKeeps h → ActsKeep more → ActsKeep (delivering itself m accounts numbers h more)
delivering_kept m accounts [] h more fits keeps acts = acts
delivering_kept m accounts (n ∷ numbers) h more fits keeps acts = delivered m accounts n (info_of n h.sessions) h (delivering itself m accounts numbers h more) fits keeps (delivering_kept m accounts numbers h more fits keeps acts)

copied : (way : Bool) (m : MessageView) (accounts : List ℕ) (n : ℕ) (o : Option SessionInfo) (h : ServerState ItemOut) (more : List (Act ItemOut)) → MessageFits m → ServerKeeps h → ActsKeep more → ActsKeep (copying_to itself way m accounts n o h more)
copied way m accounts n None h more fits keeps acts = acts
copied way m accounts n (Some t) h more fits keeps acts = (whole_read _ (copy_read (copy_for way m accounts t.account h) (session_address n h) (bare_said t.account h keeps) (session_said n h keeps) fits), acts)

copying_kept : (way : Bool) (m : MessageView) (accounts numbers : List ℕ) (h : ServerState ItemOut) (more : List (Act ItemOut)) → MessageFits m → ServerKeeps h → ActsKeep more → ActsKeep (copying itself way m accounts numbers h more)
copying_kept way m accounts [] h more fits keeps acts = acts
copying_kept way m accounts (n ∷ numbers) h more fits keeps acts =
    copied way m accounts n (info_of n h.sessions) h (copying itself way m accounts numbers h more) fits keeps (copying_kept way m accounts numbers h more fits keeps acts)

carrying_kept : (m : MessageView) (accounts : List ℕ) (r : RouteOf ℕ) (h : ServerState ItemOut) → MessageFits m → ServerKeeps h → ActsKeep (carrying itself m accounts r h)
carrying_kept m accounts r h fits keeps =
    archiving_kept (entry_of 0 h.moment m) accounts _ (entry_fits 0 h.moment m fits)
    (telling_kept m accounts _ (delivering_kept m accounts r.deliver h _ fits keeps (copying_kept true m accounts r.sent h _ fits keeps (copying_kept false m accounts r.received h [] fits keeps tt))))

-- ---- plans

abbrev PlanKeeps : {S : Type 0} → PlanOf S → Type 0
PlanKeeps (Bounced e) = IsKnown e.condition
PlanKeeps (Routed r) = Unit {0}

either_plan : {S : Type 0} (b : Bool) (x y : PlanOf S) → PlanKeeps x → PlanKeeps y → PlanKeeps (cond b x y)
either_plan true x y h k = h
either_plan false x y h k = k

refused_keeps : (c : Condition) (kind : MessageKind) → IsKnown c → PlanKeeps (refused {A = ItemOut} c kind)
refused_keeps c kind known = either_plan (answers_message kind) _ _ known tt

to_user_keeps : (m : MessageView) (t : SessionInfo) (account : ℕ) (deliver ss : List (Session ItemOut)) → PlanKeeps (to_user m t account deliver ss)
to_user_keeps m t account deliver ss = either_plan (is_for_users m.kind) _ _ tt (refused_keeps ServiceUnavailable m.kind tt)

to_full_keeps : (m : MessageView) (t : SessionInfo) (account : ℕ) (o : Option (Session ItemOut)) (ss : List (Session ItemOut)) → PlanKeeps (to_full m t account o ss)
to_full_keeps m t account (Some s) ss = tt
to_full_keeps m t account None ss = either_plan (is_chat m.kind) _ _ (to_user_keeps m t account (ready_of account ss) ss) (to_user_keeps m t account [] ss)

planned_keeps : (d : Destination) (m : MessageView) (t : SessionInfo) (ss : List (Session ItemOut)) → PlanKeeps (planned d m t ss)
planned_keeps RemoteDomain m t ss = refused_keeps RemoteServerNotFound m.kind tt
planned_keeps NoUser m t ss = refused_keeps ServiceUnavailable m.kind tt
planned_keeps (Bare account) m t ss = to_user_keeps m t account (ready_of account ss) ss
planned_keeps (Full account resource) m t ss = to_full_keeps m t account (session_named account resource ss) ss

renamed_keeps : (p : PlanOf (Session ItemOut)) → PlanKeeps p → PlanKeeps (plan_renamed number_of p)
renamed_keeps (Bounced e) h = h
renamed_keeps (Routed r) h = tt

-- ---- the row

to_said : (o : Option (List ℕ)) (account : ℕ) (h : ServerState ItemOut) → ServerKeeps h → IfSome o (Said 18426) → Said 18426 (unwrap_or o (bare_address account h))
to_said None account h keeps o = said_more 12282 18426 (bare_address account h) (bare_said account h keeps) (omega arith)
to_said (Some a) account h keeps o = o

bouncing_kept : (m : MessageView) (to : List ℕ) (e : StanzaError) (t : SessionInfo) → MessageFits m → Said 18426 to → IsKnown e.condition → ActsKeep (bouncing itself m to e t)
bouncing_kept m to e t fits said known = let within = fits.within in (whole_read _ (bounce_read 18426 fits.id_bytes to m.id e said fits.id known (omega (arith, within))), tt)

addressed_fits : (from to : List ℕ) (m : MessageView) → MessageFits m → Said 18426 from → Said 18426 to → MessageFits (addressed from to m)
addressed_fits from to m h a b =
    record { from = a; to = b; id_bytes = h.id_bytes; payload_bytes = h.payload_bytes; within = h.within; id = h.id; lang = h.lang; payload = h.payload; tidy = h.tidy }

messaging_kept : (m : MessageView) (to : List ℕ) (t : SessionInfo) (p : PlanOf ℕ) (h : ServerState ItemOut) → MessageFits m → Said 18426 to → PlanKeeps p → ServerKeeps h → ActsKeep (messaging itself m to t p h)
messaging_kept m to t (Bounced e) h fits said known keeps = bouncing_kept m to e t fits said known
messaging_kept m to t (Routed r) h fits said known keeps =
    either_acts (is_full_in (archives_of r.archiving) h) (bouncing itself m to no_room t) (carrying itself (addressed (session_address t.number h) to m) (archives_of r.archiving) r h) (bouncing_kept m to no_room t fits said tt)
    (carrying_kept (addressed (session_address t.number h) to m) (archives_of r.archiving) r h (addressed_fits (session_address t.number h) to m fits (session_said t.number h keeps) said) keeps)

pub message_kept : (m : MessageView) (t : SessionInfo) (h : ServerState ItemOut) → MessageFits m → ServerKeeps h → ActsKeep (at_message itself m t h)
message_kept m t h fits keeps =
    messaging_kept m (unwrap_or m.to (bare_address t.account h)) t (plan_renamed number_of (plan_of h.domain h.accounts h.sessions m t)) h fits (to_said m.to t.account h keeps fits.to)
    (renamed_keeps (plan_of h.domain h.accounts h.sessions m t) (planned_keeps (destination_of h.domain h.accounts t.account m.to) m t h.sessions)) keeps
