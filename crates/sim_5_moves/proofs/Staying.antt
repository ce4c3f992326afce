-- The sessions of a server stay those of devices, where a stanza is counted, archived and sent on.
use Rattle.std.proofs.Common.{ℕ, ◌==◌, Bool, true, false, not, cond, List, [], ◌∷◌, Option, Some, None, inl, inr}
use Rattle.std.proofs.lemmas.Bool.{cases_Bool}
use Rattle.std.specs.List.{AllByRecursion, filter}
use Rattle.sm_acks.specs.declared.end.TheConstants.{MOST_UNACKNOWLEDGED}
use Rattle.mam_archive.specs.Entries.{EntryView}
use Rattle.srv_state.specs.Handling.{counting}
use Rattle.srv_state.specs.State.{Kept, ServerState, Step, archive_at}
use Rattle.srv_state.specs.Steps as steps
use Rattle.srv_state.specs.Steps.{Act, Archive, Handle, Send, Tell, act, acted, archived_in, ask_where, in_server_state, in_sessions, is_due, overflow, part_where, put, put_where, queue, send_by_info, shut}
use Rattle.sim_5_moves.proofs.AnswersMessages.{archs, as_sent, route}
use Rattle.sim_5_moves.specs.Sent.{as_it_is}
use Rattle.sim_3_items.specs.ItemWorlds.{itself}
use Rattle.sm_live.specs.Sessions.{Session, asks, handles, info_of, is_at, waits, with_session, without}
use Rattle.sm_live.specs.declared.told.SessionInfo.{SessionInfo}
use Rattle.srv_handlers.specs.Messages.{archiving, carrying, copying, copying_to, delivering, delivering_to, telling}
use Rattle.im_messages.specs.Entries.{entry_of}
use Rattle.im_replies.specs.Streams.{error_item}
use Rattle.im_replies.specs.declared.conditions.StreamCondition.TheVariants.{ResourceConstraint}
use Rattle.cmd_schedule.specs.Contents.{Owned}
use Rattle.sim_3_items.specs.Served.{IsOfDevice}
use Rattle.sim_1_applications.specs.Stanzas.{Submission}
use Rattle.im_stanza.specs.Views.{MessageView}
use Rattle.xml_writer.specs.Items.{Closing, ItemOut}

-- ---- such acts

abbrev pub IsPassing : Act ItemOut → Type 0
IsPassing (Handle n) = Unit {0}
IsPassing (Send n z) = Unit {0}
IsPassing (Archive account e) = Unit {0}
IsPassing (Tell from to origin) = Unit {0}
IsPassing _ = ⊥

abbrev pub ArePassing : List (Act ItemOut) → Type 0
ArePassing acts = AllByRecursion IsPassing acts

pub counting_passes : (t : SessionInfo) (acts : List (Act ItemOut)) → ArePassing acts → ArePassing (counting t acts)
counting_passes t acts all = go t.counted
  where
    go : (b : Bool) → ArePassing (cond b (Handle t.number ∷ acts) acts)
    go true = (tt, all)
    go false = all

archiving_passes : (e : EntryView) (accounts : List ℕ) (more : List (Act ItemOut)) → ArePassing more → ArePassing (archiving e accounts more)
archiving_passes e [] more all = all
archiving_passes e (account ∷ accounts) more all = (tt, archiving_passes e accounts more all)

telling_passes : (m : MessageView) (accounts : List ℕ) (more : List (Act ItemOut)) → ArePassing more → ArePassing (telling m accounts more)
telling_passes m [] more all = all
telling_passes m (account ∷ accounts) more all = (tt, all)

module _ (m : MessageView) (accounts : List ℕ) (h : ServerState ItemOut) where
  delivery_passes : (n : ℕ) (o : Option SessionInfo) (more : List (Act ItemOut)) → ArePassing more → ArePassing (delivering_to as_it_is m accounts n o h more)
  delivery_passes n None more all = all
  delivery_passes n (Some t) more all = (tt, all)

  delivering_passes : (numbers : List ℕ) (more : List (Act ItemOut)) → ArePassing more → ArePassing (delivering as_it_is m accounts numbers h more)
  delivering_passes [] more all = all
  delivering_passes (n ∷ numbers) more all = delivery_passes n (info_of n h.sessions) (delivering as_it_is m accounts numbers h more) (delivering_passes numbers more all)

  copy_passes : (sent : Bool) (n : ℕ) (o : Option SessionInfo) (more : List (Act ItemOut)) → ArePassing more → ArePassing (copying_to as_it_is sent m accounts n o h more)
  copy_passes sent n None more all = all
  copy_passes sent n (Some t) more all = (tt, all)

  copying_passes : (sent : Bool) (numbers : List ℕ) (more : List (Act ItemOut)) → ArePassing more → ArePassing (copying as_it_is sent m accounts numbers h more)
  copying_passes sent [] more all = all
  copying_passes sent (n ∷ numbers) more all = copy_passes sent n (info_of n h.sessions) (copying as_it_is sent m accounts numbers h more) (copying_passes sent numbers more all)

pub carrying_passes : (resource : List ℕ) (m : Submission) (t : SessionInfo) (h : ServerState ItemOut) (account : ℕ) →
    ArePassing (carrying as_it_is (as_sent resource m t h account) (archs resource m t h account) (route resource m t h account) h)
carrying_passes resource m t h account =
    let full = as_sent resource m t h account in
    let accounts = archs resource m t h account in
    let r = route resource m t h account in
    let received = copying as_it_is false full accounts r.received h [] in
    let copies = copying as_it_is true full accounts r.sent h received in
    let sent = delivering as_it_is full accounts r.deliver h copies in
    archiving_passes (entry_of 0 h.moment full) accounts (telling full accounts sent)
    (telling_passes full accounts sent
    (delivering_passes full accounts h r.deliver copies (copying_passes full accounts h true r.sent received (copying_passes full accounts h false r.received [] tt))))

-- ---- the sessions

-- what is said of a session stays where a count or a queue changes
module _ (P : Session ItemOut → Type 0) (handled : (s : Session ItemOut) → P s → P (handles s)) (waiting : (z : ItemOut) (s : Session ItemOut) → P s → P (waits z s)) (asked : (on : Bool) (s : Session ItemOut) → P s → P (asks on s)) where
  abbrev Are : List (Session ItemOut) → Type 0
  Are ss = AllByRecursion P ss

  abbrev Stay : Step ItemOut → Type 0
  Stay s = AllByRecursion P s.server_state.sessions

  some_stay : (p : Session ItemOut → Bool) (ss : List (Session ItemOut)) → Are ss → Are (filter p ss)
  some_stay p [] are = tt
  some_stay p (s ∷ ss) are =
      elim (cases_Bool (p s)) [
        | inl stays ↦ rw stays (are.0, some_stay p ss are.1)
        | inr goes ↦ rw goes (some_stay p ss are.1)
      ]

  either_is : (b : Bool) (s t : Session ItemOut) → P s → P t → P (cond b s t)
  either_is true s t a b = a
  either_is false s t a b = b

  changed_stay : (n : ℕ) (f : Session ItemOut → Session ItemOut) → ((s : Session ItemOut) → P s → P (f s)) → (ss : List (Session ItemOut)) → Are ss → Are (with_session n f ss)
  changed_stay n f keeps [] are = tt
  changed_stay n f keeps (s ∷ ss) are = (either_is (s.shown.number == n) (f s) s (keeps s are.0) are.0, changed_stay n f keeps ss are.1)

  shut_stays : (k : ℕ) (s : Step ItemOut) → Stay s → Stay (shut k s)
  shut_stays k s stay = some_stay (λ t. not (is_at k t)) s.server_state.sessions stay

  put_stays : (o : Option ℕ) (z : ItemOut) (s : Step ItemOut) → Stay s → Stay (put_where o z s)
  put_stays None z s stay = stay
  put_stays (Some k) z s stay = stay

  part_stays : (o : Option ℕ) (error : ItemOut) (s : Step ItemOut) → Stay s → Stay (part_where itself o error s)
  part_stays None error s stay = stay
  part_stays (Some k) error s stay = shut_stays k (put k (itself Closing) (put k error s)) stay

  ask_stays : (n : ℕ) (o : Option ℕ) (due : Bool) (s : Step ItemOut) → Stay s → Stay (ask_where itself n o due s)
  ask_stays n o false s stay = stay
  ask_stays n None true s stay = stay
  ask_stays n (Some k) true s stay = changed_stay n (asks true) (asked true) s.server_state.sessions stay

  queue_stays : (n : ℕ) (z : ItemOut) (t : SessionInfo) (s : Step ItemOut) → Stay s → Stay (queue itself n z t s)
  queue_stays n z t s stay =
      let u = in_sessions (with_session n (waits z)) s in
      ask_stays n t.conn (is_due t) (put_where t.conn z u) (put_stays t.conn z u (changed_stay n (waits z) (waiting z) s.server_state.sessions stay))

  overflow_stays : (n : ℕ) (t : SessionInfo) (s : Step ItemOut) → Stay s → Stay (overflow itself n t s)
  overflow_stays n t s stay =
      part_stays t.conn (itself (error_item ResourceConstraint)) (in_sessions (without n) s) (some_stay (λ x. not (x.shown.number == n)) s.server_state.sessions stay)

  either_stays : (b : Bool) (s t : Step ItemOut) → Stay s → Stay t → Stay (cond b s t)
  either_stays true s t a b = a
  either_stays false s t a b = b

  sent_stays : (n : ℕ) (z : ItemOut) (o : Option SessionInfo) (s : Step ItemOut) → Stay s → Stay (send_by_info itself n z o s)
  sent_stays n z None s stay = stay
  sent_stays n z (Some t) s stay =
      either_stays (not t.counted) _ _ (put_stays t.conn z s stay)
      (either_stays (t.waiting == MOST_UNACKNOWLEDGED) _ _ (overflow_stays n t s stay) (queue_stays n z t s stay))

  archived_stays : (e : EntryView) (account : ℕ) (o : Option Kept) (s : Step ItemOut) → Stay s → Stay (in_server_state (archived_in e account o) s)
  archived_stays e account None s stay = stay
  archived_stays e account (Some kept) s stay = stay

  act_stays : (a : Act ItemOut) (s : Step ItemOut) → IsPassing a → Stay s → Stay (act itself a s)
  act_stays (Handle n) s is stay = changed_stay n handles handled s.server_state.sessions stay
  act_stays (Send n z) s is stay = sent_stays n z (info_of n s.server_state.sessions) s stay
  act_stays (Archive account e) s is stay = archived_stays e account (archive_at account s.server_state) s stay
  act_stays (Tell from to origin) s is stay = stay
  act_stays (steps.Say k z) s is stay = absurd is
  act_stays (steps.Close k) s is stay = absurd is
  act_stays (steps.Enter k phase) s is stay = absurd is
  act_stays (steps.Fail k left) s is stay = absurd is
  act_stays (steps.Bind account resource k) s is stay = absurd is
  act_stays (steps.Resume previd account n k) s is stay = absurd is
  act_stays (steps.Enable n resume) s is stay = absurd is
  act_stays (steps.Acknowledge n k) s is stay = absurd is
  act_stays (steps.Ask n on) s is stay = absurd is
  act_stays (steps.Present n available priority) s is stay = absurd is
  act_stays (steps.Copy n on) s is stay = absurd is

  pub acted_stays : (acts : List (Act ItemOut)) (s : Step ItemOut) → ArePassing acts → AllByRecursion P s.server_state.sessions → AllByRecursion P (acted itself acts s).server_state.sessions
  acted_stays [] s all stay = stay
  acted_stays (a ∷ acts) s all stay = acted_stays acts (act itself a s) all.1 (act_stays a s all.0 stay)

-- each is one of a device's

module _ (owned : List Owned) (names : List (List ℕ)) where
  device_handled : (s : Session ItemOut) → IsOfDevice owned names s → IsOfDevice owned names (handles s)
  device_handled s is = record { position = is.position; device = is.device; there = is.there; account = is.account; resource = is.resource }

  device_waiting : (z : ItemOut) (s : Session ItemOut) → IsOfDevice owned names s → IsOfDevice owned names (waits z s)
  device_waiting z s is = record { position = is.position; device = is.device; there = is.there; account = is.account; resource = is.resource }

  device_asked : (on : Bool) (s : Session ItemOut) → IsOfDevice owned names s → IsOfDevice owned names (asks on s)
  device_asked on s is = record { position = is.position; device = is.device; there = is.there; account = is.account; resource = is.resource }

  pub devices_stay : (acts : List (Act ItemOut)) (s : Step ItemOut) → ArePassing acts → AllByRecursion (IsOfDevice owned names) s.server_state.sessions → AllByRecursion (IsOfDevice owned names) (acted itself acts s).server_state.sessions
  devices_stay acts s all stay = acted_stays (IsOfDevice owned names) device_handled device_waiting device_asked acts s all stay
