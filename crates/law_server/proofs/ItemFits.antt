-- What an item does puts sessions and logins under accounts that exist.
use Rattle.std.proofs.Common.{◌≡◌, ℕ, Bool, true, false, List, [], ◌∷◌, Option, Some, None, Result, Ok, Err, refl}
use Rattle.std.specs.Option.{IfSome, option_and_then, option_map, unwrap_or}
use Rattle.mam_archive.specs.Entries.{EntryView}
use Rattle.srv_state.specs.Handling.{counting}
use Rattle.srv_state.specs.Logins.{negotiation_in, negotiation_of}
use Rattle.srv_state.specs.State.{ServerState, bare_address, conn_at, session_address}
use Rattle.srv_state.specs.Steps.{Act}
use Rattle.srv_state.specs.Streams.{stage_of, standing_at, standing_of}
use Rattle.srv_state.specs.Words.{word_of}
use Rattle.srv_state.specs.declared.connection.Connection.{Connection}
use Rattle.srv_state.specs.declared.connection.Phase.{Phase}
use Rattle.srv_state.specs.declared.connection.Phase.TheVariants as phase
use Rattle.srv_state.specs.declared.connection.Stage.{Stage}
use Rattle.srv_state.specs.declared.connection.Stage.TheVariants as stage
use Rattle.srv_state.specs.declared.connection.Standing.{Standing}
use Rattle.srv_state.specs.declared.word.Word.{Word}
use Rattle.srv_state.specs.declared.word.Word.TheVariants as word
use Rattle.im_forwarding.specs.Passed.{addressed}
use Rattle.xml_framer.specs.declared.items.Item.{Item}
use Rattle.xml_framer.specs.declared.items.Item.TheVariants as item
use Rattle.sm_live.specs.Sessions.{info_of, number_of, session_at, told}
use Rattle.sm_live.specs.declared.told.SessionInfo.{SessionInfo}
use Rattle.srv_login.specs.declared.account.Account.{Account}
use Rattle.srv_login.specs.declared.negotiation.Negotiation.{Negotiation}
use Rattle.srv_handlers.specs.Messages.{archiving, at_message, carrying, copying, copying_to, delivering, delivering_to, is_full_in, messaging, telling}
use Rattle.im_messages.specs.Entries.{entry_of}
use Rattle.im_replies.specs.declared.conditions.StreamCondition.{StreamCondition}
use Rattle.im_replies.specs.declared.conditions.StreamCondition.TheVariants.{PolicyViolation}
use Rattle.srv_route.specs.Plans.{plan_of}
use Rattle.srv_route.specs.Routes.{Bounced, PlanOf, RouteOf, Routed, archives_of, plan_renamed}
use Rattle.srv_core.specs.Table.{at_item, at_open, at_word}
use Rattle.im_stanza.specs.Views.{MessageView}
use Rattle.im_stanza.specs.declared.fault.StanzaFault.{StanzaFault}
use Rattle.im_stanza.specs.declared.fault.StanzaFault.TheVariants as fault
use Rattle.im_stanza.specs.declared.stanzas.Stanza.{Stanza}
use Rattle.im_stanza.specs.declared.stanzas.Stanza.TheVariants as stanza
use Rattle.srv_core.specs.Ready.{at_bound, at_ready_or_bound}
use Rattle.srv_core.specs.Stanzas.{at_stanza, handling, judging, stanza_condition}
use Rattle.law_server.proofs.AccountsKept.{Fit, login_at}
use Rattle.law_server.proofs.FittingRows.{IsStageOf, fit_ack, fit_any, fit_bad_to, fit_challenge, fit_either, fit_enable, fit_ending, fit_header, fit_iq, fit_login, fit_presence, fit_ready, fit_request}
use Rattle.law_server.specs.Accounts.{Exists, HaveAccounts, IsOfAccount}
use Rattle.xml_writer.specs.Items.{ItemOut}

-- ---- messages

fit_archiving : {A : Type 0} (accounts : List Account) (e : EntryView) (positions : List ℕ) (more : List (Act A)) → Fit accounts more → Fit accounts (archiving e positions more)
fit_archiving accounts e [] more rest = rest
fit_archiving accounts e (position ∷ positions) more rest = fit_archiving accounts e positions more rest

fit_telling : {A : Type 0} (accounts : List Account) (m : MessageView) (positions : List ℕ) (more : List (Act A)) → Fit accounts more → Fit accounts (telling m positions more)
fit_telling accounts m [] more rest = rest
fit_telling accounts m (position ∷ positions) more rest = rest

fit_delivery : {A : Type 0} (accounts : List Account) (say : ItemOut → A) (m : MessageView) (positions : List ℕ) (n : ℕ) (o : Option SessionInfo) (h : ServerState A) (more : List (Act A)) → Fit accounts more → Fit accounts (delivering_to say m positions n o h more)
fit_delivery accounts say m positions n None h more rest = rest
fit_delivery accounts say m positions n (Some t) h more rest = rest

fit_delivering : {A : Type 0} (accounts : List Account) (say : ItemOut → A) (m : MessageView) (positions numbers : List ℕ) (h : ServerState A) (more : List (Act A)) → Fit accounts more → Fit accounts (delivering say m positions numbers h more)
fit_delivering accounts say m positions [] h more rest = rest
fit_delivering accounts say m positions (n ∷ numbers) h more rest =
    fit_delivery accounts say m positions n (info_of n h.sessions) h (delivering say m positions numbers h more) (fit_delivering accounts say m positions numbers h more rest)

fit_copy : {A : Type 0} (accounts : List Account) (say : ItemOut → A) (sent : Bool) (m : MessageView) (positions : List ℕ) (n : ℕ) (o : Option SessionInfo) (h : ServerState A) (more : List (Act A)) → Fit accounts more → Fit accounts (copying_to say sent m positions n o h more)
fit_copy accounts say sent m positions n None h more rest = rest
fit_copy accounts say sent m positions n (Some t) h more rest = rest

fit_copying : {A : Type 0} (accounts : List Account) (say : ItemOut → A) (sent : Bool) (m : MessageView) (positions numbers : List ℕ) (h : ServerState A) (more : List (Act A)) → Fit accounts more → Fit accounts (copying say sent m positions numbers h more)
fit_copying accounts say sent m positions [] h more rest = rest
fit_copying accounts say sent m positions (n ∷ numbers) h more rest =
    fit_copy accounts say sent m positions n (info_of n h.sessions) h (copying say sent m positions numbers h more) (fit_copying accounts say sent m positions numbers h more rest)

fit_carrying : {A : Type 0} (accounts : List Account) (say : ItemOut → A) (m : MessageView) (positions : List ℕ) (r : RouteOf ℕ) (h : ServerState A) → Fit accounts (carrying say m positions r h)
fit_carrying accounts say m positions r h =
    let received = copying say false m positions r.received h [] in
    let copies = copying say true m positions r.sent h received in
    let sent = delivering say m positions r.deliver h copies in
    fit_archiving accounts (entry_of 0 h.moment m) positions (telling m positions sent)
    (fit_telling accounts m positions sent
    (fit_delivering accounts say m positions r.deliver h copies
    (fit_copying accounts say true m positions r.sent h received (fit_copying accounts say false m positions r.received h [] tt))))

fit_messaging : {A : Type 0} (accounts : List Account) (say : ItemOut → A) (m : MessageView) (to : List ℕ) (t : SessionInfo) (p : PlanOf ℕ) (h : ServerState A) → Fit accounts (messaging say m to t p h)
fit_messaging accounts say m to t (Bounced e) h = tt
fit_messaging accounts say m to t (Routed r) h = fit_either accounts (is_full_in (archives_of r.archiving) h) _ _ tt (fit_carrying accounts say (addressed (session_address t.number h) to m) (archives_of r.archiving) r h)

fit_message : {A : Type 0} (accounts : List Account) (say : ItemOut → A) (m : MessageView) (t : SessionInfo) (h : ServerState A) → Fit accounts (at_message say m t h)
fit_message accounts say m t h = fit_messaging accounts say m (unwrap_or m.to (bare_address t.account h)) t (plan_renamed number_of (plan_of h.domain h.accounts h.sessions m t)) h

-- ---- stanzas

fit_handling : {A : Type 0} (accounts : List Account) (say : ItemOut → A) (read : Result Stanza StanzaFault) (t : SessionInfo) (h : ServerState A) → Fit accounts (handling say read t h)
fit_handling accounts say (Ok (stanza.Message m)) t h = fit_message accounts say m t h
fit_handling accounts say (Ok (stanza.Presence p)) t h = fit_presence accounts say p.to p.kind p t h
fit_handling accounts say (Ok (stanza.Iq q)) t h = fit_iq accounts say q t h
fit_handling accounts say (Err (fault.BadTo message reply from id to)) t h = fit_bad_to accounts say message reply id to t h
fit_handling accounts say (Err fault.BadFrom) t h = tt
fit_handling accounts say (Err fault.NotAStanza) t h = tt
fit_handling accounts say (Err fault.BadFormat) t h = tt
fit_handling accounts say (Err fault.NoMemory) t h = tt

fit_counting : {A : Type 0} (accounts : List Account) (t : SessionInfo) (acts : List (Act A)) → Fit accounts acts → Fit accounts (counting t acts)
fit_counting accounts t acts is = fit_either accounts t.counted _ _ is is

fit_judging : {A : Type 0} (accounts : List Account) (say : ItemOut → A) (k : ℕ) (read : Result Stanza StanzaFault) (t : SessionInfo) (st : Standing) (o : Option StreamCondition) (h : ServerState A) → Fit accounts (judging say k read t st o h)
fit_judging accounts say k read t st None h = fit_counting accounts t (handling say read t h) (fit_handling accounts say read t h)
fit_judging accounts say k read t st (Some condition) h = fit_ending accounts say k condition st h

fit_stanza : {A : Type 0} (accounts : List Account) (say : ItemOut → A) (k : ℕ) (long : Bool) (read : Result Stanza StanzaFault) (t : SessionInfo) (st : Standing) (h : ServerState A) → Fit accounts (at_stanza say k long read t st h)
fit_stanza accounts say k true read t st h = fit_ending accounts say k PolicyViolation st h
fit_stanza accounts say k false read t st h = fit_judging accounts say k read t st (stanza_condition read t h) h

fit_bound : {A : Type 0} (accounts : List Account) (say : ItemOut → A) (k : ℕ) (w : Word) (t : SessionInfo) (st : Standing) (h : ServerState A) → Fit accounts (at_bound say k w t st h)
fit_bound accounts say k (word.Stanza long read) t st h = fit_stanza accounts say k long read t st h
fit_bound accounts say k (word.Enable resume) t st h = fit_enable accounts say k resume t
fit_bound accounts say k word.Request t st h = fit_request accounts say k t
fit_bound accounts say k (word.Ack n) t st h = fit_ack accounts say k n t h
fit_bound accounts say k (word.Resume previd n) t st h = tt
fit_bound accounts say k (word.Auth x bad) t st h = fit_any accounts say k (word.Auth x bad) st h
fit_bound accounts say k (word.Response x bad) t st h = fit_any accounts say k (word.Response x bad) st h
fit_bound accounts say k word.Abort t st h = fit_any accounts say k word.Abort st h
fit_bound accounts say k word.BadField t st h = fit_any accounts say k word.BadField st h
fit_bound accounts say k word.StreamError t st h = fit_any accounts say k word.StreamError st h
fit_bound accounts say k word.Other t st h = fit_any accounts say k word.Other st h

fit_ready_or_bound : {A : Type 0} (accounts : List Account) (say : ItemOut → A) (k account : ℕ) (w : Word) (o : Option SessionInfo) (st : Standing) (h : ServerState A) → Exists accounts account → Fit accounts (at_ready_or_bound say k account w o st h)
fit_ready_or_bound accounts say k account w None st h is = fit_ready accounts say k account w st h is
fit_ready_or_bound accounts say k account w (Some t) st h is = fit_bound accounts say k w t st h

-- ---- an item

conn_right : {A : Type 0} (k : ℕ) (h : ServerState A) → HaveAccounts h → IfSome (conn_at k h) (λ (c : Connection). IsOfAccount h.accounts c.phase)
conn_right k h have = go (conn_at k h) refl
  where
    go : (o : Option Connection) → conn_at k h ≡ o → IfSome o (λ (c : Connection). IsOfAccount h.accounts c.phase)
    go None is = tt
    go (Some c) is = login_at k h c have is

in_hand : (accounts : List Account) (p : Phase) → IsOfAccount accounts p → IfSome (negotiation_in p) (λ (n : Negotiation). Exists accounts n.account)
in_hand accounts phase.Start is = tt
in_hand accounts phase.Login is = tt
in_hand accounts (phase.Challenge n) is = is
in_hand accounts (phase.Restart account) is = tt
in_hand accounts (phase.Ready account) is = tt

negotiation_right : (accounts : List Account) (o : Option Connection) → IfSome o (λ (c : Connection). IsOfAccount accounts c.phase) → IfSome (option_and_then negotiation_of o) (λ (n : Negotiation). Exists accounts n.account)
negotiation_right accounts None is = tt
negotiation_right accounts (Some c) is = in_hand accounts c.phase is

stage_right : (accounts : List Account) (p : Phase) → IsOfAccount accounts p → IsStageOf accounts (stage_of p)
stage_right accounts phase.Start is = tt
stage_right accounts phase.Login is = tt
stage_right accounts (phase.Challenge n) is = tt
stage_right accounts (phase.Restart account) is = is
stage_right accounts (phase.Ready account) is = is

fit_word : {A : Type 0} (say : ItemOut → A) (k : ℕ) (w : Word) (s : Stage) (st : Standing) (h : ServerState A) → HaveAccounts h → IsStageOf h.accounts s → Fit h.accounts (at_word say k w s st h)
fit_word say k w stage.Login st h have is = fit_login say k w st h
fit_word say k w stage.Challenge st h have is = fit_challenge h.accounts say k w st h (negotiation_right h.accounts (conn_at k h) (conn_right k h have))
fit_word say k w (stage.Ready account) st h have is = fit_ready_or_bound h.accounts say k account w (option_map told (session_at k h.sessions)) st h is
fit_word say k w stage.Start st h have is = fit_any h.accounts say k w st h
fit_word say k w (stage.Restart account) st h have is = fit_any h.accounts say k w st h

fit_item : {A : Type 0} (say : ItemOut → A) (k : ℕ) (i : Item) (st : Standing) (h : ServerState A) → HaveAccounts h → IsStageOf h.accounts st.stage → Fit h.accounts (at_item say k i st h)
fit_item say k (item.Header at header) st h have is = fit_header h.accounts say k header st h is
fit_item say k (item.Element e) st h have is = fit_word say k (word_of e) st.stage st h have is
fit_item say k item.Footer st h have is = tt

open_fits : {A : Type 0} (say : ItemOut → A) (k : ℕ) (i : Item) (o : Option Connection) (h : ServerState A) → HaveAccounts h → IfSome o (λ (c : Connection). IsOfAccount h.accounts c.phase) → Fit h.accounts (at_open say k i (option_map standing_of o) h)
open_fits say k i None h have is = tt
open_fits say k i (Some c) h have is = fit_item say k i (standing_of c) h have (stage_right h.accounts c.phase is)

pub fit_open : {A : Type 0} (say : ItemOut → A) (k : ℕ) (i : Item) (h : ServerState A) → HaveAccounts h → Fit h.accounts (at_open say k i (standing_at k h) h)
fit_open say k i h have = open_fits say k i (conn_at k h) h have (conn_right k h have)
