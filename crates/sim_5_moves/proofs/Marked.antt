-- What a submission means for archives, and for what is told of them: the message is taken, or nothing is.
use Rattle.std.proofs.Common.{◌≡◌, ℕ, ◌==◌, Bool, true, false, cond, List, [], ◌∷◌, Option, Some, None, refl, ap, ◌∙◌}
use Rattle.mam_archive.specs.Entries.{EntryView}
use Rattle.srv_state.specs.Handling.{counting}
use Rattle.srv_state.specs.State.{ServerState}
use Rattle.srv_state.specs.Steps.{Act}
use Rattle.sim_5_moves.proofs.AnswersMessages.{archs, as_sent, route}
use Rattle.sim_5_moves.specs.Sent.{as_it_is}
use Rattle.sm_live.specs.Sessions.{info_of}
use Rattle.sm_live.specs.declared.told.SessionInfo.{SessionInfo}
use Rattle.srv_handlers.specs.Messages.{archiving, carrying, copying, copying_to, delivering, delivering_to, telling}
use Rattle.im_messages.specs.Entries.{entry_of}
use Rattle.srv_route.specs.Routes.{archives_of}
use Rattle.srv_route.specs.declared.archiving.Archiving.TheVariants.{Both, Once}
use Rattle.sim_1_applications.specs.Stanzas.{Submission}
use Rattle.im_stanza.specs.Views.{MessageView}
use Rattle.law_server.proofs.Marks.{Entry, Mark, Notice, marks}
use Rattle.law_server.proofs.MessageMarks.{taken_marks}
use Rattle.law_server.specs.Taken.{Taken}
use Rattle.xml_writer.specs.Items.{ItemOut}

pub counted_marks : (t : SessionInfo) (acts : List (Act ItemOut)) → marks (counting t acts) ≡ marks acts
counted_marks t acts = go t.counted
  where
    go : (b : Bool) → marks (counting (record t { counted = b }) acts) ≡ marks acts
    go true = refl
    go false = refl

-- ---- what is sent marks nothing

module _ (m : MessageView) (accounts : List ℕ) (h : ServerState ItemOut) where
  quiet_delivery : (n : ℕ) (o : Option SessionInfo) (more : List (Act ItemOut)) → marks (delivering_to as_it_is m accounts n o h more) ≡ marks more
  quiet_delivery n None more = refl
  quiet_delivery n (Some t) more = refl

  quiet_delivering : (numbers : List ℕ) (more : List (Act ItemOut)) → marks (delivering as_it_is m accounts numbers h more) ≡ marks more
  quiet_delivering [] more = refl
  quiet_delivering (n ∷ numbers) more = quiet_delivery n (info_of n h.sessions) (delivering as_it_is m accounts numbers h more) ∙ quiet_delivering numbers more

  quiet_copy : (sent : Bool) (n : ℕ) (o : Option SessionInfo) (more : List (Act ItemOut)) → marks (copying_to as_it_is sent m accounts n o h more) ≡ marks more
  quiet_copy sent n None more = refl
  quiet_copy sent n (Some t) more = refl

  quiet_copying : (sent : Bool) (numbers : List ℕ) (more : List (Act ItemOut)) → marks (copying as_it_is sent m accounts numbers h more) ≡ marks more
  quiet_copying sent [] more = refl
  quiet_copying sent (n ∷ numbers) more = quiet_copy sent n (info_of n h.sessions) (copying as_it_is sent m accounts numbers h more) ∙ quiet_copying sent numbers more

-- ---- the message

-- the sender's archive comes first
archived_marks : (moment sender account : ℕ) (m : MessageView) (b : Bool) (sent : List (Act ItemOut)) → marks sent ≡ [] →
    let a = cond b (Once account) (Both sender account) in
    let e = entry_of 0 moment m in
    marks (archiving e (archives_of a) (telling m (archives_of a) sent))
    ≡ cond b (Entry account e ∷ Notice e.from e.to e.origin ∷ []) (Entry sender e ∷ Entry account e ∷ Notice e.from e.to e.origin ∷ [])
archived_marks moment sender account m true sent quiet =
    let e = entry_of 0 moment m in
    ap (λ (ms : List Mark). Entry account e ∷ Notice e.from e.to e.origin ∷ ms) quiet
archived_marks moment sender account m false sent quiet =
    let e = entry_of 0 moment m in
    ap (λ (ms : List Mark). Entry sender e ∷ Entry account e ∷ Notice e.from e.to e.origin ∷ ms) quiet

abbrev pub taken_of : ℕ → ℕ → EntryView → Taken
taken_of sender account e = record { sender = sender; addressee = account; entry = e }

pub carried_marks : (resource : List ℕ) (m : Submission) (t : SessionInfo) (h : ServerState ItemOut) (account : ℕ) →
    marks (carrying as_it_is (as_sent resource m t h account) (archs resource m t h account) (route resource m t h account) h)
    ≡ taken_marks (taken_of t.account account (entry_of 0 h.moment (as_sent resource m t h account)))
carried_marks resource m t h account =
    let full = as_sent resource m t h account in
    let accounts = archs resource m t h account in
    let r = route resource m t h account in
    let received = copying as_it_is false full accounts r.received h [] in
    let copies = copying as_it_is true full accounts r.sent h received in
    let sent = delivering as_it_is full accounts r.deliver h copies in
    let quiet : marks sent ≡ [] = quiet_delivering full accounts h r.deliver copies ∙ quiet_copying full accounts h true r.sent received ∙ quiet_copying full accounts h false r.received [] in
    archived_marks h.moment t.account account full (t.account == account) sent quiet
