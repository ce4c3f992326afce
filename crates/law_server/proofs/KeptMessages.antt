-- A chat or a normal message with a body goes into both archives, and copies of it to the sessions that asked for them.
use Rattle.std.proofs.Common.{◌≡◌, ◌≢◌, ◌⊎◌, ℕ, ◌==◌, Bool, true, false, not, ◌&&◌, cond, List, [], ◌∷◌, Option, Some, None, map, refl, sym, ap, subst, ◌∙◌, inl, inr}
use Rattle.std.proofs.lemmas.Bool.{and_from, and_parts, cases_Bool, eq-eqb, eqb-true, ne_eqb}
use Rattle.std.proofs.lemmas.Option.{none-some, same_Some}
use Rattle.std.specs.List.{AllByRecursion, Contains, filter, find, list_any}
use Rattle.std.specs.Option.{option_map, unwrap_or}
use Rattle.im_extensions.specs.Given.{is_private}
use Rattle.im_forwarding.specs.Copies.{copy_item}
use Rattle.im_messages.specs.Entries.{entry_of}
use Rattle.im_stanza.specs.Views.{MessageView}
use Rattle.im_stanza.specs.declared.kinds.MessageKind.{MessageKind}
use Rattle.im_stanza.specs.declared.kinds.MessageKind.TheVariants.{Chat, Normal}
use Rattle.law_server.proofs.LiveRows.{IsLiveOf, Lives, NamesIt, all_live, found_has, names_addressee, names_sender, number_is, passing}
use Rattle.law_server.proofs.NumbersKept.{found_by_number}
use Rattle.law_server.proofs.Reached.{Has, has_delivering, has_filtered, has_found, none_full, reached, to_user_is}
use Rattle.law_server.specs.Copied.{IsCopied, IsForArchives, entry}
use Rattle.law_server.specs.Live.{copy, delivery, going_on}
use Rattle.law_server.specs.Numbers.{HaveNumbers}
use Rattle.law_server.specs.Ready.{IsTaken}
use Rattle.law_server.specs.Taken.{account_of}
use Rattle.mam_archive.specs.Entries.{EntryView}
use Rattle.sm_live.specs.Sessions.{Session, info_of, is_at, is_named, is_of, number_of, session_at, session_named, session_of, sessions_of, told}
use Rattle.sm_live.specs.declared.told.SessionInfo.{SessionInfo}
use Rattle.srv_core.specs.Table.{at_open}
use Rattle.srv_handlers.specs.Messages.{archiving, at_message, carrying, copy_for, copying, copying_to, delivering, delivering_to, is_full_at, is_full_in, messaging, number_in, telling}
use Rattle.srv_route.specs.Destinations.{Bare, Destination, Full, NoUser, RemoteDomain, destination_of}
use Rattle.srv_route.specs.Messages.{is_archived, is_chat, is_copied, is_for_users}
use Rattle.srv_route.specs.Plans.{archiving_of, copied_of, having_it, is_ready, planned, ready_of, received_copies, routed, sent_copies, to_full, to_user, wants_copy}
use Rattle.srv_route.specs.Routes.{PlanOf, archives_of, plan_renamed}
use Rattle.srv_route.specs.declared.archiving.Archiving.TheVariants.{Both, Nowhere, Once}
use Rattle.srv_state.specs.State.{ServerState, archive_at, bare_address, session_address}
use Rattle.srv_state.specs.Steps.{Act, Archive, Send}
use Rattle.srv_state.specs.Streams.{standing_at}
use Rattle.xml_framer.specs.declared.items.Item.{Item}
use Rattle.xml_writer.specs.Items.{ItemOut}

-- ---- the kind of the message

for_users : (kind : MessageKind) → (kind ≡ Chat) ⊎ (kind ≡ Normal) → is_for_users kind ≡ true
for_users kind (inl is) = ap is_for_users is
for_users kind (inr is) = ap is_for_users is

archived : (m : MessageView) → IsForArchives m → is_archived m ≡ true
archived m is = with_kind is.kind
  where
    with_kind : (m.kind ≡ Chat) ⊎ (m.kind ≡ Normal) → is_archived m ≡ true
    with_kind (inl chat) = rw (chat, is.body) refl
    with_kind (inr normal) = rw (normal, is.body) refl

-- ---- the plan

record IsRoutedTo {A : Type 0} (d : Destination) (m : MessageView) (t : SessionInfo) (sessions : List (Session A)) (account : ℕ) : Type 0 where
  deliver : List (Session A)
  plan : planned d m t sessions ≡ routed m t account deliver sessions
  live : AllByRecursion (IsLiveOf sessions account) deliver

module _ {A : Type 0} (m : MessageView) (t : SessionInfo) (sessions : List (Session A)) (live : AllByRecursion (Lives sessions) sessions) (users : is_for_users m.kind ≡ true) where
  of_account : (account : ℕ) → AllByRecursion (IsLiveOf sessions account) (sessions_of account sessions)
  of_account account = passing (IsLiveOf sessions account) (Lives sessions) (is_of account) (λ s passes lives. (lives, eqb-true s.shown.account account passes)) sessions live

  are_ready : (account : ℕ) → AllByRecursion (IsLiveOf sessions account) (ready_of account sessions)
  are_ready account = passing (IsLiveOf sessions account) (IsLiveOf sessions account) (λ s. is_ready s.shown) (λ s ready is. is) (sessions_of account sessions) (of_account account)

  to_bare_so : (account : ℕ) → IsRoutedTo (Bare account) m t sessions account
  to_bare_so account = record { deliver = ready_of account sessions; plan = to_user_is m t account (ready_of account sessions) sessions users; live = are_ready account }

  absent_is : (account : ℕ) (b : Bool) → is_chat m.kind ≡ b → to_full m t account None sessions ≡ routed m t account (cond b (ready_of account sessions) []) sessions
  absent_is account true is = rw (is, users) refl
  absent_is account false is = rw (is, users) refl

  absent_live : (account : ℕ) (b : Bool) → AllByRecursion (IsLiveOf sessions account) (cond b (ready_of account sessions) [])
  absent_live account true = are_ready account
  absent_live account false = tt

  to_full_so : (account : ℕ) (resource : List ℕ) (o : Option (Session A)) → session_named account resource sessions ≡ o → IsRoutedTo (Full account resource) m t sessions account
  to_full_so account resource (Some s) is =
      let found = found_has (Lives sessions) (is_named account resource) sessions s live is in
      record {
        deliver = s ∷ [];
        plan = ap (λ (o : Option (Session A)). to_full m t account o sessions) is;
        live = ((found.1, eqb-true s.shown.account account (and_parts (s.shown.account == account) _ found.0).0), tt);
      }
  to_full_so account resource None is =
      record {
        deliver = cond (is_chat m.kind) (ready_of account sessions) [];
        plan = ap (λ (o : Option (Session A)). to_full m t account o sessions) is ∙ absent_is account (is_chat m.kind) refl;
        live = absent_live account (is_chat m.kind);
      }

  routed_so : (d : Destination) (account : ℕ) → account_of d ≡ Some account → IsRoutedTo d m t sessions account
  routed_so RemoteDomain account names = absurd (none-some account names)
  routed_so NoUser account names = absurd (none-some account names)
  routed_so (Bare a) account names = subst (λ (x : ℕ). IsRoutedTo (Bare a) m t sessions x) (same_Some a account names) (to_bare_so a)
  routed_so (Full a resource) account names = subst (λ (x : ℕ). IsRoutedTo (Full a resource) m t sessions x) (same_Some a account names) (to_full_so a resource (session_named a resource sessions) refl)

-- ---- what stands before others

module _ {A : Type 0} (x : Act A) where
  past_archiving : (e : EntryView) (accounts : List ℕ) (more : List (Act A)) → Has x more → Has x (archiving e accounts more)
  past_archiving e [] more has = has
  past_archiving e (account ∷ accounts) more has = inr (past_archiving e accounts more has)

  past_telling : (m : MessageView) (accounts : List ℕ) (more : List (Act A)) → Has x more → Has x (telling m accounts more)
  past_telling m [] more has = has
  past_telling m (account ∷ accounts) more has = inr has

  module _ (say : ItemOut → A) (m : MessageView) (accounts : List ℕ) (h : ServerState A) where
    past_delivery : (n : ℕ) (o : Option SessionInfo) (more : List (Act A)) → Has x more → Has x (delivering_to say m accounts n o h more)
    past_delivery n None more has = has
    past_delivery n (Some t) more has = inr has

    past_delivering : (ns : List ℕ) (more : List (Act A)) → Has x more → Has x (delivering say m accounts ns h more)
    past_delivering [] more has = has
    past_delivering (n ∷ ns) more has = past_delivery n (info_of n h.sessions) _ (past_delivering ns more has)

    past_copy : (sent : Bool) (n : ℕ) (o : Option SessionInfo) (more : List (Act A)) → Has x more → Has x (copying_to say sent m accounts n o h more)
    past_copy sent n None more has = has
    past_copy sent n (Some t) more has = inr has

    past_copying : (sent : Bool) (ns : List ℕ) (more : List (Act A)) → Has x more → Has x (copying say sent m accounts ns h more)
    past_copying sent [] more has = has
    past_copying sent (n ∷ ns) more has = past_copy sent n (info_of n h.sessions) _ (past_copying sent ns more has)

-- ---- what is archived

sender_kept : {A : Type 0} (e : EntryView) (sender account : ℕ) (same : Bool) (more : List (Act A)) → (sender == account) ≡ same → Has (Archive sender e) (archiving e (archives_of (cond same (Once account) (Both sender account))) more)
sender_kept {A = A} e sender account true more is = inl (ap (λ (x : ℕ). Archive x e) (sym (eqb-true sender account is)))
sender_kept e sender account false more is = inl refl

addressee_kept : {A : Type 0} (e : EntryView) (sender account : ℕ) (same : Bool) (more : List (Act A)) → Has (Archive account e) (archiving e (archives_of (cond same (Once account) (Both sender account))) more)
addressee_kept e sender account true more = inl refl
addressee_kept e sender account false more = inr (inl refl)

-- ---- copies

module _ {A : Type 0} (say : ItemOut → A) (h : ServerState A) (sender : Session A) (m : MessageView) (accounts : List ℕ) (position : ℕ) (named : NamesIt position m accounts) where
  has_copy : (sent : Bool) (t u : Session A) → t.shown.account ≡ position → u ≡ t
      → Send (number_of t) (say (copy_item (copy_for sent (going_on sender m h) accounts u.shown.account h) (session_address (number_of t) h))) ≡ Send (number_of t) (say (copy sent sender m position t h))
  has_copy sent t u owner is =
      let made : ℕ → Option ℕ → Act A = λ x n. Send (number_of t) (say (copy_item (record { sent = sent; moment = h.moment; by = bare_address x h; number = n; message = going_on sender m h }) (session_address (number_of t) h))) in
      ap (λ (x : ℕ). made x (number_in x accounts h)) (ap (λ (s : Session A). s.shown.account) is ∙ owner) ∙ ap (made position) (number_is position m accounts h named)

  copied_first : (sent : Bool) (t : Session A) (o : Option (Session A)) (more : List (Act A)) → t.shown.account ≡ position → o ≡ Some t
      → Has (Send (number_of t) (say (copy sent sender m position t h))) (copying_to say sent (going_on sender m h) accounts (number_of t) (option_map told o) h more)
  copied_first sent t None more owner is = absurd (none-some t is)
  copied_first sent t (Some u) more owner is = inl (has_copy sent t u owner (same_Some u t is))

  copied_one : (sent : Bool) (t : Session A) (ss : List (Session A)) (more : List (Act A)) → session_of (number_of t) h.sessions ≡ Some t → t.shown.account ≡ position → Has t ss
      → Has (Send (number_of t) (say (copy sent sender m position t h))) (copying say sent (going_on sender m h) accounts (map number_of ss) h more)
  copied_one sent t [] more lives owner has = absurd has
  copied_one sent t (s ∷ ss) more lives owner (inl here) =
      subst (λ (x : Session A). Has (Send (number_of t) (say (copy sent sender m position t h))) (copying_to say sent (going_on sender m h) accounts (number_of x) (info_of (number_of x) h.sessions) h (copying say sent (going_on sender m h) accounts (map number_of ss) h more))) (sym here)
      (copied_first sent t (session_of (number_of t) h.sessions) _ owner lives)
  copied_one sent t (s ∷ ss) more lives owner (inr later) =
      past_copy (Send (number_of t) (say (copy sent sender m position t h))) say (going_on sender m h) accounts h sent (number_of s) (info_of (number_of s) h.sessions) _ (copied_one sent t ss more lives owner later)

same_session : {A : Type 0} (sessions : List (Session A)) (s t : Session A) → Lives sessions s → Lives sessions t → number_of s ≡ number_of t → s ≡ t
same_session sessions s t one other is = same_Some s t (sym one ∙ ap (λ (n : ℕ). session_of n sessions) is ∙ other)

-- a session of another account is none of these
not_among : {A : Type 0} (sessions ss : List (Session A)) (account : ℕ) (t : Session A) → AllByRecursion (IsLiveOf sessions account) ss → Lives sessions t → (t.shown.account ≡ account → ⊥)
    → list_any (λ n. n == number_of t) (map number_of ss) ≡ false
not_among sessions [] account t all lives other = refl
not_among {A = A} sessions (s ∷ ss) account t all lives other =
    elim (cases_Bool (number_of s == number_of t)) [
      | inl here ↦ absurd (other (ap (λ (x : Session A). x.shown.account) (sym (same_session sessions s t all.0.0 lives (eqb-true (number_of s) (number_of t) here))) ∙ all.0.1))
      | inr later ↦ rw later (not_among sessions ss account t all.1 lives other)
    ]

-- a session with the number of one of these is one of them
among : {A : Type 0} (sessions ss : List (Session A)) (account : ℕ) (t : Session A) → AllByRecursion (IsLiveOf sessions account) ss → Lives sessions t
    → list_any (λ n. n == number_of t) (map number_of ss) ≡ true → Has t ss
among sessions [] account t all lives there = cc there
among sessions (s ∷ ss) account t all lives there =
    elim (cases_Bool (number_of s == number_of t)) [
      | inl here ↦ inl (same_session sessions s t all.0.0 lives (eqb-true (number_of s) (number_of t) here))
      | inr later ↦ inr (among sessions ss account t all.1 lives (rw later at there))
    ]

module _ {A : Type 0} (sessions : List (Session A)) (t : Session A) (lives : Lives sessions t) (asked : t.shown.carbons ≡ true) where
  has_wanted : (account sender : ℕ) (ns : List ℕ) → t.shown.account ≡ account → (sender == number_of t) ≡ false → list_any (λ n. n == number_of t) ns ≡ false
      → Has t (copied_of account (sender ∷ ns) sessions)
  has_wanted account sender ns owner apart none =
      has_filtered t (λ s. wants_copy (sender ∷ ns) s.shown) (sessions_of account sessions) (rw (asked, apart, none) refl)
      (has_filtered t (is_of account) sessions (eq-eqb t.shown.account account owner) (has_found _ sessions t lives))

-- ---- the item

module _ {A : Type 0} (say : ItemOut → A) (k : ℕ) (i : Item) (h : ServerState A) (sender : Session A) (m : MessageView) (account : ℕ) (numbers : HaveNumbers h) (taken : IsTaken k i h sender m account) (is : IsForArchives m) where
  route : IsRoutedTo (destination_of h.domain h.accounts sender.shown.account m.to) m (told sender) h.sessions account
  route = routed_so m (told sender) h.sessions (all_live h numbers) (for_users m.kind is.kind) (destination_of h.domain h.accounts sender.shown.account m.to) account taken.is.names

  where_to : List ℕ
  where_to = archives_of (cond (sender.shown.account == account) (Once account) (Both sender.shown.account account))

  carried : (deliver : List (Session A)) → List (Act A)
  carried deliver =
      archiving (entry sender m h) where_to
      (telling (going_on sender m h) where_to
      (delivering say (going_on sender m h) where_to (map number_of deliver) h
      (copying say true (going_on sender m h) where_to (map number_of (sent_copies m (told sender) (map number_of deliver) h.sessions)) h
      (copying say false (going_on sender m h) where_to (map number_of (received_copies m (told sender) account (map number_of deliver) h.sessions)) h []))))

  carries : (deliver : List (Session A))
      → messaging say m (unwrap_or m.to (bare_address sender.shown.account h)) (told sender) (plan_renamed number_of (routed m (told sender) account deliver h.sessions)) h ≡ carried deliver
  unfolding carried where_to
  carries deliver =
      let room : is_full_in (archives_of (archiving_of m sender.shown.account account)) h ≡ false =
      none_full (λ position. is_full_at (archive_at position h)) (is_archived m) (sender.shown.account == account) sender.shown.account account taken.sender_room taken.addressee_room in
      rw room (rw (archived m is) refl)

  given : (x : Act A) → Has x (carried route.deliver) → Contains (at_open say k i (standing_at k h) h) x
  given x has =
      reached say k h sender m account i x taken
      (subst (λ (p : PlanOf (Session A)). Has x (messaging say m (unwrap_or m.to (bare_address sender.shown.account h)) (told sender) (plan_renamed number_of p) h)) (sym route.plan)
      (subst (Has x) (sym (carries route.deliver)) has))

  pub in_senders : Contains (at_open say k i (standing_at k h) h) (Archive sender.shown.account (entry sender m h))
  unfolding carried where_to
  in_senders = given _ (sender_kept (entry sender m h) sender.shown.account account (sender.shown.account == account) _ refl)

  pub in_addressees : Contains (at_open say k i (standing_at k h) h) (Archive account (entry sender m h))
  unfolding carried where_to
  in_addressees = given _ (addressee_kept (entry sender m h) sender.shown.account account (sender.shown.account == account) _)

  -- ---- copies

  names_it : (position : ℕ) → list_any (λ other. other == position) where_to ≡ true → NamesIt position m where_to
  names_it position there = there ∙ sym (archived m is)

  module _ (open_to : is_private m.payload ≡ false) (t : Session A) (copied : IsCopied h sender t) where
    copied_kind : is_copied m ≡ true
    copied_kind = rw (archived m is, open_to) refl

    apart : (number_of sender == number_of t) ≡ false
    apart = ne_eqb (number_of sender) (number_of t) (λ same. copied.other (sym same))

    pub as_sent_to : t.shown.account ≡ sender.shown.account → (sender.shown.account ≡ account → ⊥)
        → Contains (at_open say k i (standing_at k h) h) (Send t.shown.number (say (copy true sender m sender.shown.account t h)))
    unfolding carried where_to
    as_sent_to owner other =
        let x : Act A = Send t.shown.number (say (copy true sender m sender.shown.account t h)) in
        let full = going_on sender m h in
        let none = not_among h.sessions route.deliver account t route.live copied.lives (λ same. other (sym owner ∙ same)) in
        let wanted : Has t (sent_copies m (told sender) (map number_of route.deliver) h.sessions) =
        rw copied_kind (has_wanted h.sessions t copied.lives copied.asked sender.shown.account (number_of sender) (map number_of route.deliver) owner apart none) in
        let named = names_sender true (sender.shown.account == account) sender.shown.account account refl in
        given x
        (past_archiving x (entry sender m h) where_to _ (past_telling x full where_to _ (past_delivering x say full where_to h (map number_of route.deliver) _
        (copied_one say h sender m where_to sender.shown.account (names_it sender.shown.account named) true t _ _ copied.lives owner wanted))))

    -- ---- copies as received, or the message itself

    by_itself : t.shown.account ≡ account → Has t route.deliver → Contains (at_open say k i (standing_at k h) h) (Send t.shown.number (say (delivery sender m account h)))
    unfolding carried where_to
    by_itself owner has =
        let x : Act A = Send t.shown.number (say (delivery sender m account h)) in
        let named = names_addressee true (sender.shown.account == account) sender.shown.account account in
        given x
        (past_archiving x (entry sender m h) where_to _ (past_telling x (going_on sender m h) where_to _
        (has_delivering say h sender m account t copied.lives owner where_to (names_it account named) route.deliver _ has)))

    by_copy : t.shown.account ≡ account → (sender.shown.account == account) ≡ false → list_any (λ n. n == number_of t) (map number_of route.deliver) ≡ false
        → Contains (at_open say k i (standing_at k h) h) (Send t.shown.number (say (copy false sender m account t h)))
    unfolding carried where_to
    by_copy owner other none =
        let x : Act A = Send t.shown.number (say (copy false sender m account t h)) in
        let full = going_on sender m h in
        let wanted : Has t (received_copies m (told sender) account (map number_of route.deliver) h.sessions) =
        rw (copied_kind, other) (has_wanted h.sessions t copied.lives copied.asked account (number_of sender) (map number_of route.deliver) owner apart none) in
        let named = names_addressee true (sender.shown.account == account) sender.shown.account account in
        given x
        (past_archiving x (entry sender m h) where_to _ (past_telling x full where_to _ (past_delivering x say full where_to h (map number_of route.deliver) _
        (past_copying x say full where_to h true (map number_of (sent_copies m (told sender) (map number_of route.deliver) h.sessions)) _
        (copied_one say h sender m where_to account (names_it account named) false t _ _ copied.lives owner wanted)))))

    pub as_received_by : t.shown.account ≡ account → (sender.shown.account ≡ account → ⊥)
        → Contains (at_open say k i (standing_at k h) h) (Send t.shown.number (say (delivery sender m account h)))
        ⊎ Contains (at_open say k i (standing_at k h) h) (Send t.shown.number (say (copy false sender m account t h)))
    as_received_by owner other =
        elim (cases_Bool (list_any (λ n. n == number_of t) (map number_of route.deliver))) [
          | inl there ↦ inl (by_itself owner (among h.sessions route.deliver account t route.live copied.lives there))
          | inr none ↦ inr (by_copy owner (ne_eqb sender.shown.account account other) none)
        ]
