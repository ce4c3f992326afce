-- The row on messages goes through.
use Rattle.std.proofs.Common.{◌≡◌, ℕ, Bool, true, false, List, [], ◌∷◌, Option, Some, None, map, refl, ap, ap₂, ◌∙◌}
use Rattle.std.specs.Option.{unwrap_or}
use Rattle.mam_archive.specs.Entries.{EntryView}
use Rattle.srv_state.specs.State.{ServerState, bare_address, session_address}
use Rattle.srv_state.specs.Steps as steps
use Rattle.srv_state.specs.Steps.{Act}
use Rattle.im_forwarding.specs.Copies.{copy_item}
use Rattle.im_forwarding.specs.Passed.{addressed}
use Rattle.sm_live.specs.Sessions.{Session, info_of, number_of}
use Rattle.sm_live.specs.declared.told.SessionInfo.{SessionInfo}
use Rattle.srv_handlers.specs.Messages.{archiving, at_message, carrying, copy_for, copying, copying_to, delivering, delivering_to, is_full_in, messaging, telling}
use Rattle.im_messages.specs.Entries.{entry_of}
use Rattle.srv_route.proofs.ShownAlone.{planned_same}
use Rattle.srv_route.specs.Destinations.{destination_of}
use Rattle.srv_route.specs.Plans.{plan_of}
use Rattle.srv_route.specs.Routes.{PlanOf, Bounced, Routed, RouteOf, archives_of, plan_renamed}
use Rattle.law_server.proofs.RequestsRendered.{address_rendered}
use Rattle.law_server.proofs.SessionRowsRendered.{acts_either}
use Rattle.law_server.proofs.SessionsRendered.{told_rendered}
use Rattle.law_server.specs.Rendered.{acts_rendered, rendered, server_state_rendered, session_rendered, sessions_rendered}
use Rattle.im_stanza.specs.Views.{MessageView}
use Rattle.xml_writer.specs.Items.{ItemOut}

-- ---- archives

archiving_rendered : {A B : Type 0} (f : A → B) (e : EntryView) (accounts : List ℕ) (more : List (Act A)) → archiving e accounts (acts_rendered f more) ≡ acts_rendered f (archiving e accounts more)
archiving_rendered f e [] more = refl
archiving_rendered f e (account ∷ accounts) more = ap (λ acts. steps.Archive account e ∷ acts) (archiving_rendered f e accounts more)

telling_rendered : {A B : Type 0} (f : A → B) (m : MessageView) (accounts : List ℕ) (more : List (Act A)) → telling m accounts (acts_rendered f more) ≡ acts_rendered f (telling m accounts more)
telling_rendered f m [] more = refl
telling_rendered f m (account ∷ accounts) more = refl

-- ---- what is sent

delivering_one : {A B : Type 0} (f : A → B) (say : ItemOut → A) (m : MessageView) (accounts : List ℕ) (n : ℕ) (o : Option SessionInfo) (h : ServerState A) (more : List (Act A)) →
    delivering_to (rendered f say) m accounts n o (server_state_rendered f h) (acts_rendered f more) ≡ acts_rendered f (delivering_to say m accounts n o h more)
delivering_one f say m accounts n None h more = refl
delivering_one f say m accounts n (Some t) h more = refl

delivering_rendered : {A B : Type 0} (f : A → B) (say : ItemOut → A) (m : MessageView) (accounts numbers : List ℕ) (h : ServerState A) (more : List (Act A)) →
    delivering (rendered f say) m accounts numbers (server_state_rendered f h) (acts_rendered f more) ≡ acts_rendered f (delivering say m accounts numbers h more)
delivering_rendered f say m accounts [] h more = refl
delivering_rendered f say m accounts (n ∷ numbers) h more =
    ap₂ (λ o acts. delivering_to (rendered f say) m accounts n o (server_state_rendered f h) acts) (told_rendered f n h.sessions) (delivering_rendered f say m accounts numbers h more)
    ∙ delivering_one f say m accounts n (info_of n h.sessions) h (delivering say m accounts numbers h more)

copying_one : {A B : Type 0} (f : A → B) (say : ItemOut → A) (sent : Bool) (m : MessageView) (accounts : List ℕ) (n : ℕ) (o : Option SessionInfo) (h : ServerState A) (more : List (Act A)) →
    copying_to (rendered f say) sent m accounts n o (server_state_rendered f h) (acts_rendered f more) ≡ acts_rendered f (copying_to say sent m accounts n o h more)
copying_one f say sent m accounts n None h more = refl
copying_one f say sent m accounts n (Some t) h more =
    ap (λ full. steps.Send n (f (say (copy_item (copy_for sent m accounts t.account h) full))) ∷ acts_rendered f more) (address_rendered f n h)

copying_rendered : {A B : Type 0} (f : A → B) (say : ItemOut → A) (sent : Bool) (m : MessageView) (accounts numbers : List ℕ) (h : ServerState A) (more : List (Act A)) →
    copying (rendered f say) sent m accounts numbers (server_state_rendered f h) (acts_rendered f more) ≡ acts_rendered f (copying say sent m accounts numbers h more)
copying_rendered f say sent m accounts [] h more = refl
copying_rendered f say sent m accounts (n ∷ numbers) h more =
    ap₂ (λ o acts. copying_to (rendered f say) sent m accounts n o (server_state_rendered f h) acts) (told_rendered f n h.sessions) (copying_rendered f say sent m accounts numbers h more)
    ∙ copying_one f say sent m accounts n (info_of n h.sessions) h (copying say sent m accounts numbers h more)

-- ---- the row

carrying_rendered : {A B : Type 0} (f : A → B) (say : ItemOut → A) (m : MessageView) (accounts : List ℕ) (r : RouteOf ℕ) (h : ServerState A) → carrying (rendered f say) m accounts r (server_state_rendered f h) ≡ acts_rendered f (carrying say m accounts r h)
carrying_rendered f say m accounts r h =
    let received = copying say false m accounts r.received h [] in
    let sent = copying say true m accounts r.sent h received in
    let delivered = delivering say m accounts r.deliver h sent in
    let e = entry_of 0 h.moment m in
    ap (λ acts. archiving e accounts (telling m accounts (delivering (rendered f say) m accounts r.deliver (server_state_rendered f h) (copying (rendered f say) true m accounts r.sent (server_state_rendered f h) acts)))) (copying_rendered f say false m accounts r.received h [])
    ∙ ap (λ acts. archiving e accounts (telling m accounts (delivering (rendered f say) m accounts r.deliver (server_state_rendered f h) acts))) (copying_rendered f say true m accounts r.sent h received)
    ∙ ap (λ acts. archiving e accounts (telling m accounts acts)) (delivering_rendered f say m accounts r.deliver h sent)
    ∙ ap (archiving e accounts) (telling_rendered f m accounts delivered)
    ∙ archiving_rendered f e accounts (telling m accounts delivered)

messaging_rendered : {A B : Type 0} (f : A → B) (say : ItemOut → A) (m : MessageView) (to : List ℕ) (t : SessionInfo) (p : PlanOf ℕ) (h : ServerState A) → messaging (rendered f say) m to t p (server_state_rendered f h) ≡ acts_rendered f (messaging say m to t p h)
messaging_rendered f say m to t (Bounced e) h = refl
messaging_rendered f say m to t (Routed r) h =
    acts_either f (is_full_in (archives_of r.archiving) h) _ _ _ _ refl
    (ap (λ full. carrying (rendered f say) (addressed full to m) (archives_of r.archiving) r (server_state_rendered f h)) (address_rendered f t.number h)
    ∙ carrying_rendered f say (addressed (session_address t.number h) to m) (archives_of r.archiving) r h)

numbers_same : {A B : Type 0} (f : A → B) (ss : List (Session A)) → map number_of (sessions_rendered f ss) ≡ map number_of ss
numbers_same f [] = refl
numbers_same f (s ∷ ss) = ap (λ l. s.shown.number ∷ l) (numbers_same f ss)

renamed_same : {A B : Type 0} (f : A → B) (p : PlanOf (Session A)) → plan_renamed number_of (plan_renamed (session_rendered f) p) ≡ plan_renamed number_of p
renamed_same f (Bounced e) = refl
renamed_same f (Routed r) = rw (numbers_same f r.deliver, numbers_same f r.sent, numbers_same f r.received) refl

plan_rendered : {A B : Type 0} (f : A → B) (m : MessageView) (t : SessionInfo) (h : ServerState A) →
    plan_renamed number_of (plan_of h.domain h.accounts (sessions_rendered f h.sessions) m t) ≡ plan_renamed number_of (plan_of h.domain h.accounts h.sessions m t)
plan_rendered f m t h =
    ap (plan_renamed number_of) (planned_same (session_rendered f) (λ s. refl) (destination_of h.domain h.accounts t.account m.to) m t h.sessions)
    ∙ renamed_same f (plan_of h.domain h.accounts h.sessions m t)

pub message_rendered : {A B : Type 0} (f : A → B) (say : ItemOut → A) (m : MessageView) (t : SessionInfo) (h : ServerState A) → at_message (rendered f say) m t (server_state_rendered f h) ≡ acts_rendered f (at_message say m t h)
message_rendered f say m t h =
    let to = unwrap_or m.to (bare_address t.account h) in
    ap (λ p. messaging (rendered f say) m to t p (server_state_rendered f h)) (plan_rendered f m t h)
    ∙ messaging_rendered f say m to t (plan_renamed number_of (plan_of h.domain h.accounts h.sessions m t)) h
