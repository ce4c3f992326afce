-- A message to an account is heard by the sessions that `hears` names, once, by its number in their archive; one to nobody
-- comes back.
use Rattle.std.proofs.Common.{◌≡◌, ◌≢◌, ℕ, ◌+◌, ◌⊎◌, ◌==◌, ◌&&◌, ◌||◌, not, Bool, true, false, List, [], ◌∷◌, ◌++◌, Option, Some, None, filter, is_some, map, pos, refl, sym, ap, subst, ◌∙◌, append-nil, arith, inl, inr, if◌then◌else◌}
use Rattle.std.proofs.Math.Bool.{or-false}
use Rattle.std.proofs.lemmas.Bool.{and_parts, cases_Bool, eq-eqb, eqb-true, false≢true}
use Rattle.std.proofs.lemmas.Bool.Decides.{nat_tests}
use Rattle.std.proofs.lemmas.List.{map-append}
use Rattle.std.specs.List.{list_any}
use Rattle.std.specs.Option.{option_map}
use Rattle.std.specs.Prelude.{int_le, nat_le}
use Rattle.srv_state.specs.State.{Kept, ServerState, archive_at, bare_address, session_address}
use Rattle.srv_state.specs.Steps.{Send}
use Rattle.base_io.proofs.NamePositions.{is_some-position_of}
use Rattle.base_io.specs.Names.{is_among, position_of}
use Rattle.im_forwarding.specs.Passed.{addressed, passed_item}
use Rattle.sim_4_links_follow.proofs.Own.{twice_left}
use Rattle.sim_5_moves.proofs.Addressed.{destination_is, message_of, stanza_is}
use Rattle.sim_5_moves.proofs.Carried.{carried, copied, copied_to, delivered, delivered_to}
use Rattle.sim_5_moves.proofs.HearingSums.{heard_once, where_so}
use Rattle.sim_5_moves.proofs.Picks.{among, if_passes, number_found, picked, picks}
use Rattle.sim_5_moves.proofs.Sends.{sends_elsewhere, sends_here}
use Rattle.sim_5_moves.specs.Heard.{HasRoom, IsSubmission, address_in, hears}
use Rattle.sim_5_moves.specs.Sent.{as_it_is, does_on, read_at, sends_to}
use Rattle.sim_3_items.proofs.ItemsDown.{bounced_read, copied_read, passed_read}
use Rattle.sim_3_items.specs.Downs.{down_stanza}
use Rattle.sim_3_items.specs.Meant.{IsEntryNumber, IsOrigin, IsSubmitted}
use Rattle.sm_live.specs.Rule.{RisesTo}
use Rattle.sm_live.specs.Sessions.{Session, info_of, is_of, number_of, session_of, sessions_of, told}
use Rattle.sm_live.specs.declared.told.SessionInfo.{SessionInfo}
use Rattle.srv_login.specs.Accounts.{names_of}
use Rattle.srv_handlers.specs.Messages.{bouncing, carrying, copy_for, is_full_at, is_full_in, messaging, no_room, number_after, number_in}
use Rattle.sm_outbox.specs.Submissions.{origin_of}
use Rattle.im_replies.specs.Requests.{bounce_item}
use Rattle.im_requests.specs.Messages.{submission_nodes}
use Rattle.srv_route.specs.Destinations.{at_user}
use Rattle.srv_route.specs.Messages.{is_copied}
use Rattle.srv_route.specs.Plans.{archiving_of, having_it, is_ready, planned, ready_of, received_copies, sent_copies, wants_copy}
use Rattle.srv_route.specs.Routes.{RouteOf, archives_of, plan_renamed}
use Rattle.sim_1_applications.specs.Stanzas.{Down, Submission}
use Rattle.sim_1_applications.specs.Stanzas.Down.{Bounced, Live}
use Rattle.im_stanza.specs.Views.{MessageView}
use Rattle.im_stanza.specs.declared.conditions.Condition.TheVariants.{ServiceUnavailable}
use Rattle.im_stanza.specs.declared.errors.ErrorKind.TheVariants.{Cancel}
use Rattle.im_stanza.specs.declared.errors.StanzaError.{StanzaError}
use Rattle.im_stanza.specs.declared.kinds.MessageKind.TheVariants.{Chat}
use Rattle.srv_core.specs.Stanzas.{handling}
use Rattle.xml_trees.specs.Trees.{Elem}
use Rattle.xml_writer.specs.Items.{ItemOut}

-- ---- tests and lists

map_where : (b : Bool) (zs : List ItemOut) → map down_stanza (where_so b zs) ≡ where_so b (map down_stanza zs)
map_where true zs = refl
map_where false zs = refl

under : {X : Type 0} (b : Bool) (xs ys : List X) → (b ≡ true → xs ≡ ys) → where_so b xs ≡ where_so b ys
under true xs ys same = same refl
under false xs ys same = refl

where_and : {X : Type 0} (a b : Bool) (xs : List X) → where_so a (where_so b xs) ≡ where_so (a && b) xs
where_and true b xs = refl
where_and false b xs = refl

never : {X : Type 0} (b : Bool) (xs : List X) → where_so (b && false) xs ≡ []
never true xs = refl
never false xs = refl

with_priority : (available high : Bool) → (available ≡ true → high ≡ true) → (available && high) ≡ available
with_priority true high so = so refl
with_priority false high so = refl

pub copied_is : (r : MessageView) (origin said : List ℕ) (private : Bool) → is_copied (record r { kind = Chat; payload = submission_nodes origin said private }) ≡ not private
copied_is r origin said true = refl
copied_is r origin said false = refl

-- what is delivered and copied, of a message that may be private
pub summed : {X : Type 0} (private delivered wants senders recipients sent same : Bool) (xs : List X) → (senders ≡ true → recipients ≡ true → same ≡ true) → (same ≡ true → recipients ≡ true → senders ≡ true) →
    where_so delivered xs
    ++ (where_so (not private && (senders && (wants && not (sent || delivered)))) xs
    ++ (where_so ((not private && not same) && (recipients && (wants && not (sent || delivered)))) xs ++ []))
    ≡ where_so (delivered || (((not private && wants) && (senders || recipients)) && not sent)) xs
summed true delivered wants senders recipients sent same xs both one = append-nil (where_so delivered xs) ∙ ap (λ b. where_so b xs) (sym (or-false delivered))
summed false delivered wants senders recipients sent same xs both one =
    ap (λ zs. where_so delivered xs ++ (where_so (senders && (wants && not (sent || delivered))) xs ++ zs)) (append-nil (where_so (not same && (recipients && (wants && not (sent || delivered)))) xs))
    ∙ heard_once delivered wants senders recipients sent same xs both one

-- ---- a submission to one of the accounts

module _ (resource : List ℕ) (m : Submission) (t : SessionInfo) (h : ServerState ItemOut) (account : ℕ) where
  abbrev pub as_read : MessageView
  as_read = message_of resource m h

  abbrev pub as_sent : MessageView
  as_sent = addressed (session_address t.number h) (address_in m h) as_read

  abbrev pub archs : List ℕ
  archs = archives_of (archiving_of as_read t.account account)

  abbrev ready : List ℕ
  ready = map number_of (ready_of account h.sessions)

  abbrev pub route : RouteOf ℕ
  route = record {
    archiving = archiving_of as_read t.account account;
    deliver = ready;
    sent = map number_of (sent_copies as_read t ready h.sessions);
    received = map number_of (received_copies as_read t account ready h.sessions);
  }

  -- what archives it goes to

  pub in_archives : (x : ℕ) → (x ≡ t.account) ⊎ (x ≡ account) → list_any (λ other. other == x) archs ≡ true
  in_archives x which = elim (cases_Bool (t.account == account)) [
    | inl same ↦
        let one : t.account ≡ account = eqb-true t.account account same in
        let is : account ≡ x = elim which [ inl sender ↦ sym (sender ∙ one) | inr recipient ↦ sym recipient ] in
        rw (same, eq-eqb account x is) refl
    | inr other ↦
        elim which [
          | inl sender ↦ rw (other, eq-eqb t.account x (sym sender)) refl
          | inr recipient ↦ let is = eq-eqb account x (sym recipient) in rw (other, is) (or_so (t.account == x))
        ]
  ]
    where
      or_so : (b : Bool) → (b || (true || false)) ≡ true
      or_so true = refl
      or_so false = refl

  pub all_room : HasRoom t account h → is_full_in archs h ≡ false
  all_room room = elim (cases_Bool (t.account == account)) [
    | inl same ↦ rw (same, room.recipients) refl
    | inr other ↦ rw (other, room.senders, room.recipients) refl
  ]

  -- it is carried

  pub carries : (e : Elem) → IsSubmission resource m h e → position_of m.to (names_of h.accounts) ≡ Some account → HasRoom t account h → does_on e t h ≡ carrying as_it_is as_sent archs route h
  carries e is position room =
      ap (λ r. handling as_it_is r t h) (stanza_is resource m h e is)
      ∙ ap (λ d. messaging as_it_is as_read (address_in m h) t (plan_renamed number_of (planned d as_read t h.sessions)) h)
      (destination_is m.to h.domain is.name is.bare h.accounts ∙ ap (λ o. at_user o None) position)
      ∙ ap (λ b. if b then bouncing as_it_is as_read (address_in m h) no_room t else carrying as_it_is as_sent archs route h) (all_room room)

  -- what that sends, by tests of sessions

  abbrev pub is_delivered : Session ItemOut → Bool
  is_delivered s = is_of account s && is_ready s.shown

  abbrev pub wants : Session ItemOut → Bool
  wants s = wants_copy (having_it t ready) s.shown

  module _ (n : ℕ) (rise : RisesTo h.next 1 h.sessions) where
    ready_is : ready ≡ map number_of (filter is_delivered h.sessions)
    ready_is = ap (map number_of) (twice_left (λ (s : Session ItemOut). is_ready s.shown) (is_of account) h.sessions)

    delivers : (zs : List ItemOut) → picks zs n ready ≡ where_so (if_passes is_delivered (session_of n h.sessions)) zs
    delivers zs = ap (picks zs n) ready_is ∙ picked is_delivered zs h.next 1 n h.sessions rise

    copies_to : (which : ℕ) (zs : List ItemOut) → picks zs n (map number_of (filter wants (sessions_of which h.sessions))) ≡ where_so (if_passes (λ s. is_of which s && wants s) (session_of n h.sessions)) zs
    copies_to which zs = ap (λ ss. picks zs n (map number_of ss)) (twice_left wants (is_of which) h.sessions) ∙ picked (λ s. is_of which s && wants s) zs h.next 1 n h.sessions rise

    picks_where : (b : Bool) (zs : List ItemOut) (ss : List (Session ItemOut)) → picks zs n (map number_of (if b then ss else [])) ≡ where_so b (picks zs n (map number_of ss))
    picks_where true zs ss = refl
    picks_where false zs ss = refl

    copies_where : (b : Bool) (which : ℕ) (zs : List ItemOut) →
        picks zs n (map number_of (if b then filter wants (sessions_of which h.sessions) else [])) ≡ where_so (b && if_passes (λ s. is_of which s && wants s) (session_of n h.sessions)) zs
    copies_where b which zs =
        picks_where b zs (filter wants (sessions_of which h.sessions)) ∙ ap (where_so b) (copies_to which zs) ∙ where_and b (if_passes (λ s. is_of which s && wants s) (session_of n h.sessions)) zs

    abbrev pub went : Option (Session ItemOut) → List ItemOut
    went o =
        where_so (if_passes is_delivered o) (delivered as_sent archs h n)
        ++ (where_so (is_copied as_read && if_passes (λ s. is_of t.account s && wants s) o) (copied as_sent archs h true n)
        ++ (where_so ((is_copied as_read && not (t.account == account)) && if_passes (λ s. is_of account s && wants s) o) (copied as_sent archs h false n) ++ []))

    pub sends : sends_to n (carrying as_it_is as_sent archs route h) ≡ went (session_of n h.sessions)
    sends =
        carried as_sent archs h n route
        ∙ (λ i. delivers (delivered as_sent archs h n) i
        ++ (copies_where (is_copied as_read) t.account (copied as_sent archs h true n) i
        ++ (copies_where (is_copied as_read && not (t.account == account)) account (copied as_sent archs h false n) i ++ [])))

    -- to a number that no session has

    pub sends_nobody : session_of n h.sessions ≡ None → sends_to n (carrying as_it_is as_sent archs route h) ≡ []
    sends_nobody is =
        sends ∙ ap went is
        ∙ (λ i. never (is_copied as_read) (copied as_sent archs h true n) i ++ (never (is_copied as_read && not (t.account == account)) (copied as_sent archs h false n) i ++ []))

    -- and to a session

    module _ (s : Session ItemOut) (found : session_of n h.sessions ≡ Some s) (room : HasRoom t account h) (kept : Kept) (there : archive_at s.shown.account h ≡ Some kept) where
      abbrev live : List Down
      live = Live (kept.last + 1) ∷ []

      told_is : info_of n h.sessions ≡ Some (told s)
      told_is = ap (option_map told) found

      said : IsSubmitted as_sent
      said = record { chat = refl; origin = origin_of resource m.epoch m.n; said = m.text; apart = m.private; contains = refl }

      module _ (which : (s.shown.account ≡ t.account) ⊎ (s.shown.account ≡ account)) where
        number : number_in s.shown.account archs h ≡ Some (kept.last + 1)
        number = ap (λ b. if b then number_after (archive_at s.shown.account h) else None) (in_archives s.shown.account which) ∙ ap number_after there

        has_room : is_full_at (archive_at s.shown.account h) ≡ false
        has_room = elim which [
          | inl sender ↦ subst (λ a. is_full_at (archive_at a h) ≡ false) (sym sender) room.senders
          | inr recipient ↦ subst (λ a. is_full_at (archive_at a h) ≡ false) (sym recipient) room.recipients
        ]

        entry : IsEntryNumber (kept.last + 1)
        entry =
            let below : nat_le 4294967295 kept.last ≡ false = ap is_full_at (sym there) ∙ has_room in
            record { some = omega arith; fits = grind (arith, nat_tests) }

        delivered_live : map down_stanza (delivered as_sent archs h n) ≡ live
        delivered_live =
            ap (λ o. map down_stanza (delivered_to as_sent archs h o)) told_is
            ∙ ap (λ o. down_stanza (passed_item (bare_address s.shown.account h) o as_sent) ∷ []) number
            ∙ ap (λ z. z ∷ []) (passed_read (bare_address s.shown.account h) (kept.last + 1) as_sent said entry)

        copied_live : (sent : Bool) → map down_stanza (copied as_sent archs h sent n) ≡ live
        copied_live sent =
            ap (λ o. map down_stanza (copied_to as_sent archs h sent n o)) told_is
            ∙ ap (λ z. z ∷ []) (copied_read (copy_for sent as_sent archs s.shown.account h) (session_address n h) (kept.last + 1) said number entry)

      of_sender : (s.shown.account == t.account) ≡ true → (s.shown.account ≡ t.account) ⊎ (s.shown.account ≡ account)
      of_sender is = inl (eqb-true s.shown.account t.account is)

      of_recipient : (s.shown.account == account) ≡ true → (s.shown.account ≡ t.account) ⊎ (s.shown.account ≡ account)
      of_recipient is = inr (eqb-true s.shown.account account is)

      abbrev d : Bool
      d = is_delivered s

      abbrev of_senders : Bool
      of_senders = s.shown.account == t.account

      abbrev of_recipients : Bool
      of_recipients = s.shown.account == account

      abbrev put : Bool → Bool → List Down
      put copied wanted =
          where_so d live ++ (where_so (copied && (of_senders && wanted)) live ++ (where_so ((copied && not (t.account == account)) && (of_recipients && wanted)) live ++ []))

      -- each part as it is read
      read_parts : read_at n (carrying as_it_is as_sent archs route h) ≡ put (is_copied as_read) (wants s)
      read_parts =
          let b = is_copied as_read && (of_senders && wants s) in
          let c = (is_copied as_read && not (t.account == account)) && (of_recipients && wants s) in
          let xs = delivered as_sent archs h n in
          let ys = copied as_sent archs h true n in
          let zs = copied as_sent archs h false n in
          let first = map_where d xs ∙ under d (map down_stanza xs) live (λ yes. delivered_live (of_recipient (and_parts of_recipients (is_ready s.shown) yes).0)) in
          let second = map_where b ys ∙ under b (map down_stanza ys) live (λ yes. copied_live (of_sender (and_parts of_senders (wants s) (and_parts (is_copied as_read) (of_senders && wants s) yes).1).0) true) in
          let third =
          map_where c zs
          ∙ under c (map down_stanza zs) live
          (λ yes. copied_live (of_recipient (and_parts of_recipients (wants s) (and_parts (is_copied as_read && not (t.account == account)) (of_recipients && wants s) yes).1).0) false) in
          ap (map down_stanza) (sends ∙ ap went found) ∙ map-append down_stanza (where_so d xs) (where_so b ys ++ (where_so c zs ++ []))
          ∙ ap (λ more. map down_stanza (where_so d xs) ++ more) (map-append down_stanza (where_so b ys) (where_so c zs ++ []) ∙ ap (λ more. map down_stanza (where_so b ys) ++ more) (map-append down_stanza (where_so c zs) []))
          ∙ (λ i. first i ++ (second i ++ (third i ++ [])))

      -- it wants a copy where it asked for them, didn't send the message and doesn't get it
      wants_is : wants s ≡ (s.shown.carbons && not ((t.number == s.shown.number) || d))
      wants_is =
          let here : session_of s.shown.number h.sessions ≡ Some s = ap (λ k. session_of k h.sessions) (number_found n s h.sessions found) ∙ found in
          let is : list_any (λ k. k == s.shown.number) ready ≡ d =
          ap (list_any (λ k. k == s.shown.number)) ready_is ∙ among is_delivered h.next 1 s.shown.number h.sessions rise ∙ ap (if_passes is_delivered) here in
          ap (λ b. s.shown.carbons && not ((t.number == s.shown.number) || b)) is

      pub carried_read : (s.shown.available ≡ true → int_le (pos 0) s.shown.priority ≡ true) → read_at n (carrying as_it_is as_sent archs route h) ≡ where_so (hears t account m.private s.shown) live
      carried_read high =
          let copied_so = copied_is as_read (origin_of resource m.epoch m.n) m.text m.private in
          let both : of_senders ≡ true → of_recipients ≡ true → (t.account == account) ≡ true =
          λ sender recipient. eq-eqb t.account account (sym (eqb-true s.shown.account t.account sender) ∙ eqb-true s.shown.account account recipient) in
          let one : (t.account == account) ≡ true → of_recipients ≡ true → of_senders ≡ true =
          λ same recipient. eq-eqb s.shown.account t.account (eqb-true s.shown.account account recipient ∙ sym (eqb-true t.account account same)) in
          read_parts ∙ (λ i. put (copied_so i) (wants_is i))
          ∙ summed m.private d s.shown.carbons of_senders of_recipients (t.number == s.shown.number) (t.account == account) live both one
          ∙ ap (λ b. where_so ((of_recipients && b) || (((not m.private && s.shown.carbons) && (of_senders || of_recipients)) && not (t.number == s.shown.number))) live)
          (with_priority s.shown.available (int_le (pos 0) s.shown.priority) high)

-- ---- to nobody

abbrev pub unserved : StanzaError
unserved = record { kind = Cancel; condition = ServiceUnavailable }

none_of : (o : Option ℕ) → is_some o ≡ false → o ≡ None
none_of None is = refl
none_of (Some n) is = absurd (false≢true (sym is))

module _ (resource : List ℕ) (m : Submission) (t : SessionInfo) (h : ServerState ItemOut) (e : Elem) (is : IsSubmission resource m h e) (nobody : is_among m.to (names_of h.accounts) ≡ false) where
  abbrev pub back : ItemOut
  back = bounce_item (address_in m h) (origin_of resource m.epoch m.n) unserved

  pub comes_back : does_on e t h ≡ Send t.number back ∷ []
  comes_back =
      ap (λ r. handling as_it_is r t h) (stanza_is resource m h e is)
      ∙ ap (λ d. messaging as_it_is (message_of resource m h) (address_in m h) t (plan_renamed number_of (planned d (message_of resource m h) t h.sessions)) h)
      (destination_is m.to h.domain is.name is.bare h.accounts ∙ ap (λ o. at_user o None) (none_of (position_of m.to (names_of h.accounts)) (is_some-position_of m.to (names_of h.accounts) ∙ nobody)))

  pub bounce_read : IsOrigin resource m.epoch m.n → read_at t.number (does_on e t h) ≡ Bounced m.epoch m.n ∷ []
  bounce_read origin =
      ap (read_at t.number) comes_back ∙ ap (map down_stanza) (sends_here t.number back []) ∙ ap (λ z. z ∷ []) (bounced_read (address_in m h) resource m.epoch m.n unserved origin)

  pub bounce_elsewhere : (n : ℕ) → t.number ≢ n → sends_to n (does_on e t h) ≡ []
  bounce_elsewhere n other = ap (sends_to n) comes_back ∙ sends_elsewhere t.number n back [] other
