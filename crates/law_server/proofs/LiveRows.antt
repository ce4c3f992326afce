-- The row on messages: what goes out goes to the accounts that the message is to and from.
use Rattle.std.proofs.Common.{◌≡◌, ℕ, ◌+◌, ◌==◌, ◌||◌, Bool, true, false, not, ◌&&◌, cond, List, [], ◌∷◌, Option, Some, None, map, refl, sym, ap, subst, ◌∙◌, inl, inr}
use Rattle.std.proofs.lemmas.Bool.{and_parts, cases_Bool, eq-eqb, eqb-true}
use Rattle.std.proofs.lemmas.Option.{none-some, same_Some}
use Rattle.std.specs.List.{AllByRecursion, filter, find, list_any}
use Rattle.std.specs.Option.{option_map, unwrap_or}
use Rattle.im_forwarding.specs.Copies.{copy_item}
use Rattle.im_forwarding.specs.Passed.{passed_item}
use Rattle.im_messages.specs.Entries.{entry_of}
use Rattle.im_stanza.specs.Kinds.{answers_message}
use Rattle.im_stanza.specs.Views.{MessageView}
use Rattle.im_stanza.specs.declared.conditions.Condition.{Condition}
use Rattle.im_stanza.specs.declared.conditions.Condition.TheVariants.{RemoteServerNotFound, ServiceUnavailable}
use Rattle.law_server.proofs.Rows.{AreCalm}
use Rattle.law_server.proofs.SessionRows.{calm_either, its}
use Rattle.law_server.specs.Live.{as_received, as_sent, copy, going_on, itself, next_in, number_for}
use Rattle.law_server.specs.Numbers.{HaveNumbers, Rise}
use Rattle.law_server.specs.Taken.{Reads, account_of}
use Rattle.mam_archive.specs.Entries.{EntryView}
use Rattle.sm_live.specs.Rule.{RisesTo}
use Rattle.sm_live.specs.Sessions.{Session, is_named, is_of, number_of, session_at, session_named, session_of, sessions_of, told}
use Rattle.sm_live.specs.declared.told.SessionInfo.{SessionInfo}
use Rattle.srv_handlers.specs.Messages.{archiving, at_message, carrying, copy_for, copying, copying_to, delivering, delivering_to, is_full_in, messaging, number_after, number_in, telling}
use Rattle.srv_route.proofs.Chosen.{AreFound, all_found}
use Rattle.srv_route.specs.Destinations.{Bare, Destination, Full, NoUser, RemoteDomain, destination_of}
use Rattle.srv_route.specs.Messages.{is_archived, is_chat, is_copied, is_for_users}
use Rattle.srv_route.specs.Plans.{archiving_of, copied_of, dropped, having_it, is_ready, planned, ready_of, refused, routed, to_bare, to_full, to_user, wants_copy}
use Rattle.srv_route.specs.Routes.{Bounced, PlanOf, RouteOf, Routed, archives_of, plan_renamed, renamed}
use Rattle.srv_route.specs.declared.archiving.Archiving.{Archiving}
use Rattle.srv_route.specs.declared.archiving.Archiving.TheVariants.{Both, Nowhere, Once}
use Rattle.srv_state.specs.State.{Kept, ServerState, archive_at, bare_address, session_address}
use Rattle.srv_state.specs.Steps.{Act}
use Rattle.srv_state.specs.declared.connection.Standing.{Standing}
use Rattle.xml_framer.specs.declared.items.Item.{Item}
use Rattle.xml_writer.specs.Items.{ItemOut}

-- ---- lists

-- what passes a test, of those that have Q, has P
pub passing : {T : Type 0} (P Q : T → Type 0) (p : T → Bool) → ((t : T) → p t ≡ true → Q t → P t) → (ts : List T) → AllByRecursion Q ts → AllByRecursion P (filter p ts)
passing P Q p f [] all = tt
passing P Q p f (t ∷ ts) all =
    elim (cases_Bool (p t)) [
      | inl passes ↦ rw passes (f t passes all.0, passing P Q p f ts all.1)
      | inr fails ↦ rw fails (passing P Q p f ts all.1)
    ]

pub found_has : {T : Type 0} (P : T → Type 0) (p : T → Bool) (ts : List T) (t : T) → AllByRecursion P ts → find p ts ≡ Some t → (p t ≡ true) × P t
found_has P p [] t all found = absurd (none-some t found)
found_has {T = T} P p (x ∷ ts) t all found =
    elim (cases_Bool (p x)) [
      | inl here ↦ (let same : x ≡ t = same_Some x t (rw here at found) in subst (λ (y : T). (p y ≡ true) × P y) same (here, all.0))
      | inr later ↦ found_has P p ts t all.1 (rw later at found)
    ]

-- ---- sessions are found by their numbers

pub rises : {A : Type 0} (from next : ℕ) (ss : List (Session A)) → Rise from next ss → RisesTo next from ss
rises from next [] rise = rise
rises from next (s ∷ ss) rise = (rise.0, rises (s.shown.number + 1) next ss rise.1)

abbrev pub Lives : {A : Type 0} → List (Session A) → Session A → Type 0
Lives sessions t = session_of (number_of t) sessions ≡ Some t

pub living : {A : Type 0} (sessions ts : List (Session A)) → AreFound sessions ts → AllByRecursion (Lives sessions) ts
living sessions [] found = tt
living sessions (t ∷ ts) found = (found.0, living sessions ts found.1)

pub all_live : {A : Type 0} (h : ServerState A) → HaveNumbers h → AllByRecursion (Lives h.sessions) h.sessions
all_live h numbers = living h.sessions h.sessions (all_found h.next 1 h.sessions (rises 1 h.next h.sessions numbers))

-- ---- the plan

abbrev pub IsLiveOf : {A : Type 0} → List (Session A) → ℕ → Session A → Type 0
IsLiveOf sessions account t = Lives sessions t × (t.shown.account ≡ account)

abbrev WantsCopy : {A : Type 0} → List (Session A) → ℕ → Session A → Type 0
WantsCopy sessions account t = Lives sessions t × (t.shown.account ≡ account) × (t.shown.carbons ≡ true)

-- the message goes to sessions of the account that it is to, and copies of it to sessions that asked for them
record GoesTo {A : Type 0} (d : Destination) (m : MessageView) (sender : ℕ) (sessions : List (Session A)) (r : RouteOf (Session A)) : Type 0 where
  addressee : ℕ
  names : account_of d ≡ Some addressee
  archived : r.archiving ≡ archiving_of m sender addressee
  deliver : AllByRecursion (IsLiveOf sessions addressee) r.deliver
  sent : AllByRecursion (WantsCopy sessions sender) r.sent
  received : AllByRecursion (WantsCopy sessions addressee) r.received

-- or nowhere
data Goes {A : Type 0} (d : Destination) (m : MessageView) (sender : ℕ) (sessions : List (Session A)) (r : RouteOf (Session A)) : Type 0 where
  nowhere : r ≡ record { archiving = Nowhere; deliver = []; sent = []; received = [] } → Goes d m sender sessions r
  somewhere : GoesTo d m sender sessions r → Goes d m sender sessions r

abbrev PlanGoes : {A : Type 0} → Destination → MessageView → ℕ → List (Session A) → PlanOf (Session A) → Type 0
PlanGoes d m sender sessions (Bounced e) = Unit {0}
PlanGoes d m sender sessions (Routed r) = Goes d m sender sessions r

module _ {A : Type 0} (d : Destination) (m : MessageView) (t : SessionInfo) (sessions : List (Session A)) (live : AllByRecursion (Lives sessions) sessions) where
  goes_either : (b : Bool) (p q : PlanOf (Session A)) → PlanGoes d m t.account sessions p → PlanGoes d m t.account sessions q → PlanGoes d m t.account sessions (cond b p q)
  goes_either true p q here there = here
  goes_either false p q here there = there

  of_account : (account : ℕ) → AllByRecursion (IsLiveOf sessions account) (sessions_of account sessions)
  of_account account = passing (IsLiveOf sessions account) (Lives sessions) (is_of account) (λ s passes lives. (lives, eqb-true s.shown.account account passes)) sessions live

  goes_refused : (condition : Condition) → PlanGoes d m t.account sessions (refused condition m.kind)
  goes_refused condition = goes_either (answers_message m.kind) _ dropped tt (nowhere refl)

  copied : (account : ℕ) (having : List ℕ) → AllByRecursion (WantsCopy sessions account) (copied_of account having sessions)
  copied account having =
      passing (WantsCopy sessions account) (IsLiveOf sessions account) (λ s. wants_copy having s.shown)
      (λ s wants is. (is.0, is.1, (and_parts s.shown.carbons (not (list_any (λ n. n == s.shown.number) having)) wants).0)) (sessions_of account sessions) (of_account account)

  copied_or_none : (b : Bool) (account : ℕ) (having : List ℕ) → AllByRecursion (WantsCopy sessions account) (cond b (copied_of account having sessions) [])
  copied_or_none true account having = copied account having
  copied_or_none false account having = tt

  goes_routed : (account : ℕ) (deliver : List (Session A)) → account_of d ≡ Some account → AllByRecursion (IsLiveOf sessions account) deliver → PlanGoes d m t.account sessions (routed m t account deliver sessions)
  goes_routed account deliver names given = somewhere (record {
    addressee = account;
    names = names;
    archived = refl;
    deliver = given;
    sent = copied_or_none (is_copied m) t.account (having_it t (map number_of deliver));
    received = copied_or_none (is_copied m && not (t.account == account)) account (having_it t (map number_of deliver));
  })

  goes_to_user : (account : ℕ) (deliver : List (Session A)) → account_of d ≡ Some account → AllByRecursion (IsLiveOf sessions account) deliver → PlanGoes d m t.account sessions (to_user m t account deliver sessions)
  goes_to_user account deliver names given =
      goes_either (is_for_users m.kind) (routed m t account deliver sessions) (refused ServiceUnavailable m.kind) (goes_routed account deliver names given) (goes_refused ServiceUnavailable)

  are_ready : (account : ℕ) → AllByRecursion (IsLiveOf sessions account) (ready_of account sessions)
  are_ready account = passing (IsLiveOf sessions account) (IsLiveOf sessions account) (λ s. is_ready s.shown) (λ s ready is. is) (sessions_of account sessions) (of_account account)

  goes_to_bare : (account : ℕ) → account_of d ≡ Some account → PlanGoes d m t.account sessions (to_bare m t account sessions)
  goes_to_bare account names = goes_to_user account (ready_of account sessions) names (are_ready account)

  goes_to_full : (account : ℕ) (resource : List ℕ) (o : Option (Session A)) → session_named account resource sessions ≡ o → account_of d ≡ Some account → PlanGoes d m t.account sessions (to_full m t account o sessions)
  goes_to_full account resource (Some s) is names =
      let found = found_has (Lives sessions) (is_named account resource) sessions s live is in
      goes_routed account (s ∷ []) names ((found.1, eqb-true s.shown.account account (and_parts (s.shown.account == account) _ found.0).0), tt)
  goes_to_full account resource None is names =
      goes_either (is_chat m.kind) (to_bare m t account sessions) (to_user m t account [] sessions) (goes_to_bare account names) (goes_to_user account [] names tt)

plan_goes : {A : Type 0} (d : Destination) (m : MessageView) (t : SessionInfo) (sessions : List (Session A)) → AllByRecursion (Lives sessions) sessions → PlanGoes d m t.account sessions (planned d m t sessions)
plan_goes RemoteDomain m t sessions live = goes_refused RemoteDomain m t sessions live RemoteServerNotFound
plan_goes NoUser m t sessions live = goes_refused NoUser m t sessions live ServiceUnavailable
plan_goes (Bare account) m t sessions live = goes_to_bare (Bare account) m t sessions live account refl
plan_goes (Full account resource) m t sessions live = goes_to_full (Full account resource) m t sessions live account resource (session_named account resource sessions) refl refl

-- ---- the numbers that archives give

same_next : (o : Option Kept) → number_after o ≡ next_in o
same_next None = refl
same_next (Some kept) = refl

or_either : (b : Bool) → (b || true) ≡ true
or_either true = refl
or_either false = refl

pub names_addressee : (archived same : Bool) (sender account : ℕ) → list_any (λ other. other == account) (archives_of (cond archived (cond same (Once account) (Both sender account)) Nowhere)) ≡ archived
names_addressee true true sender account = rw (eq-eqb account account refl) refl
names_addressee true false sender account = rw (eq-eqb account account refl) (or_either (sender == account))
names_addressee false same sender account = refl

pub names_sender : (archived same : Bool) (sender account : ℕ) → (sender == account) ≡ same → list_any (λ other. other == sender) (archives_of (cond archived (cond same (Once account) (Both sender account)) Nowhere)) ≡ archived
names_sender true true sender account is = rw (eq-eqb account sender (sym (eqb-true sender account is))) refl
names_sender true false sender account is = rw (eq-eqb sender sender refl) refl
names_sender false same sender account is = refl

pub number_is : {A : Type 0} (position : ℕ) (m : MessageView) (accounts : List ℕ) (h : ServerState A) → list_any (λ other. other == position) accounts ≡ is_archived m → number_in position accounts h ≡ number_for position m h
number_is position m accounts h names =
    ap (λ b. cond b (number_after (archive_at position h)) None) names ∙ ap (λ (o : Option ℕ). cond (is_archived m) o None) (same_next (archive_at position h))

abbrev pub NamesIt : ℕ → MessageView → List ℕ → Type 0
NamesIt position m accounts = list_any (λ other. other == position) accounts ≡ is_archived m

-- ---- what is sent

module _ {A : Type 0} (say : ItemOut → A) (k : ℕ) (i : Item) (st : Standing) (h : ServerState A) (sender : Session A) (on : session_at k h.sessions ≡ Some sender) (m : MessageView) (reads : Reads i m) where
  module _ (addressee : ℕ) (names : account_of (destination_of h.domain h.accounts sender.shown.account m.to) ≡ Some addressee) (accounts : List ℕ) where
    calm_delivery : NamesIt addressee m accounts → (s : Session A) (o : Option (Session A)) (more : List (Act A)) → o ≡ Some s → IsLiveOf h.sessions addressee s → AreCalm say k i st h more
        → AreCalm say k i st h (delivering_to say (going_on sender m h) accounts (number_of s) (option_map told o) h more)
    calm_delivery named s None more is of rest = absurd (none-some s is)
    calm_delivery named s (Some u) more is of rest =
        let owner : u.shown.account ≡ addressee = ap (λ (x : Session A). x.shown.account) (same_Some u s is) ∙ of.1 in
        let text =
        ap (λ (x : ℕ). say (passed_item (bare_address x h) (number_in x accounts h) (going_on sender m h))) owner
        ∙ ap (λ (n : Option ℕ). say (passed_item (bare_address addressee h) n (going_on sender m h))) (number_is addressee m accounts h named) in (
          (
            inr (record {
              recipient = s;
              lives = of.0;
              gets = record { sender = sender; message = m; addressee = addressee; is = record { is_on = on; reads = reads; names = names }; given = itself of.1 text };
            }),
            tt,
          ),
          rest,
        )

    calm_delivering : NamesIt addressee m accounts → (ss : List (Session A)) (more : List (Act A)) → AllByRecursion (IsLiveOf h.sessions addressee) ss → AreCalm say k i st h more
        → AreCalm say k i st h (delivering say (going_on sender m h) accounts (map number_of ss) h more)
    calm_delivering named [] more all rest = rest
    calm_delivering named (s ∷ ss) more all rest =
        calm_delivery named s (session_of (number_of s) h.sessions) (delivering say (going_on sender m h) accounts (map number_of ss) h more) all.0.0 all.0 (calm_delivering named ss more all.1 rest)

    copy_is : (sent : Bool) (position : ℕ) (s u : Session A) → NamesIt position m accounts → u.shown.account ≡ position
        → copy_item (copy_for sent (going_on sender m h) accounts u.shown.account h) (session_address (number_of s) h) ≡ copy sent sender m position s h
    copy_is sent position s u named owner =
        let made = λ (x : ℕ) (n : Option ℕ). copy_item (record { sent = sent; moment = h.moment; by = bare_address x h; number = n; message = going_on sender m h }) (session_address (number_of s) h) in
        ap (λ (x : ℕ). made x (number_in x accounts h)) owner ∙ ap (made position) (number_is position m accounts h named)

    calm_sent_copy : NamesIt sender.shown.account m accounts → (s : Session A) (o : Option (Session A)) (more : List (Act A)) → o ≡ Some s → WantsCopy h.sessions sender.shown.account s → AreCalm say k i st h more
        → AreCalm say k i st h (copying_to say true (going_on sender m h) accounts (number_of s) (option_map told o) h more)
    calm_sent_copy named s None more is of rest = absurd (none-some s is)
    calm_sent_copy named s (Some u) more is of rest =
        let owner : u.shown.account ≡ sender.shown.account = ap (λ (x : Session A). x.shown.account) (same_Some u s is) ∙ of.1 in (
          (
            inr (record {
              recipient = s;
              lives = of.0;
              gets = record { sender = sender; message = m; addressee = addressee; is = record { is_on = on; reads = reads; names = names }; given = as_sent of.1 of.2 (ap say (copy_is true sender.shown.account s u named owner)) };
            }),
            tt,
          ),
          rest,
        )

    calm_sent_copies : NamesIt sender.shown.account m accounts → (ss : List (Session A)) (more : List (Act A)) → AllByRecursion (WantsCopy h.sessions sender.shown.account) ss → AreCalm say k i st h more
        → AreCalm say k i st h (copying say true (going_on sender m h) accounts (map number_of ss) h more)
    calm_sent_copies named [] more all rest = rest
    calm_sent_copies named (s ∷ ss) more all rest =
        calm_sent_copy named s (session_of (number_of s) h.sessions) (copying say true (going_on sender m h) accounts (map number_of ss) h more) all.0.0 all.0 (calm_sent_copies named ss more all.1 rest)

    calm_received_copy : NamesIt addressee m accounts → (s : Session A) (o : Option (Session A)) (more : List (Act A)) → o ≡ Some s → WantsCopy h.sessions addressee s → AreCalm say k i st h more
        → AreCalm say k i st h (copying_to say false (going_on sender m h) accounts (number_of s) (option_map told o) h more)
    calm_received_copy named s None more is of rest = absurd (none-some s is)
    calm_received_copy named s (Some u) more is of rest =
        let owner : u.shown.account ≡ addressee = ap (λ (x : Session A). x.shown.account) (same_Some u s is) ∙ of.1 in (
          (
            inr (record {
              recipient = s;
              lives = of.0;
              gets = record { sender = sender; message = m; addressee = addressee; is = record { is_on = on; reads = reads; names = names }; given = as_received of.1 of.2 (ap say (copy_is false addressee s u named owner)) };
            }),
            tt,
          ),
          rest,
        )

    calm_received_copies : NamesIt addressee m accounts → (ss : List (Session A)) (more : List (Act A)) → AllByRecursion (WantsCopy h.sessions addressee) ss → AreCalm say k i st h more
        → AreCalm say k i st h (copying say false (going_on sender m h) accounts (map number_of ss) h more)
    calm_received_copies named [] more all rest = rest
    calm_received_copies named (s ∷ ss) more all rest =
        calm_received_copy named s (session_of (number_of s) h.sessions) (copying say false (going_on sender m h) accounts (map number_of ss) h more) all.0.0 all.0 (calm_received_copies named ss more all.1 rest)

  calm_archiving : (e : EntryView) (positions : List ℕ) (more : List (Act A)) → AreCalm say k i st h more → AreCalm say k i st h (archiving e positions more)
  calm_archiving e [] more rest = rest
  calm_archiving e (position ∷ positions) more rest = ((tt, tt), calm_archiving e positions more rest)

  calm_telling : (full : MessageView) (positions : List ℕ) (more : List (Act A)) → AreCalm say k i st h more → AreCalm say k i st h (telling full positions more)
  calm_telling full [] more rest = rest
  calm_telling full (position ∷ positions) more rest = ((tt, tt), rest)

  calm_carried : (r : RouteOf (Session A)) → GoesTo (destination_of h.domain h.accounts sender.shown.account m.to) m sender.shown.account h.sessions r
      → AreCalm say k i st h (carrying say (going_on sender m h) (archives_of r.archiving) (renamed number_of r) h)
  calm_carried r goes =
      let accounts = archives_of r.archiving in
      let to = goes.addressee in
      let from = sender.shown.account in
      let full = going_on sender m h in
      let named : NamesIt to m accounts = ap (λ (a : Archiving). list_any (λ other. other == to) (archives_of a)) goes.archived ∙ names_addressee (is_archived m) (from == to) from to in
      let named_from : NamesIt from m accounts = ap (λ (a : Archiving). list_any (λ other. other == from) (archives_of a)) goes.archived ∙ names_sender (is_archived m) (from == to) from to refl in
      let received = copying say false full accounts (map number_of r.received) h [] in
      let copies = copying say true full accounts (map number_of r.sent) h received in
      let out = delivering say full accounts (map number_of r.deliver) h copies in
      calm_archiving (entry_of 0 h.moment full) accounts (telling full accounts out)
      (calm_telling full accounts out
      (calm_delivering to goes.names accounts named r.deliver copies goes.deliver
      (calm_sent_copies to goes.names accounts named_from r.sent received goes.sent
      (calm_received_copies to goes.names accounts named r.received [] goes.received tt))))

  calm_route : (r : RouteOf (Session A)) → Goes (destination_of h.domain h.accounts sender.shown.account m.to) m sender.shown.account h.sessions r
      → AreCalm say k i st h (carrying say (going_on sender m h) (archives_of r.archiving) (renamed number_of r) h)
  calm_route r (nowhere is) =
      subst (λ (x : RouteOf (Session A)). AreCalm say k i st h (carrying say (going_on sender m h) (archives_of x.archiving) (renamed number_of x) h)) (sym is) tt
  calm_route r (somewhere goes) = calm_carried r goes

  calm_messaging : (p : PlanOf (Session A)) → PlanGoes (destination_of h.domain h.accounts sender.shown.account m.to) m sender.shown.account h.sessions p
      → AreCalm say k i st h (messaging say m (unwrap_or m.to (bare_address sender.shown.account h)) (told sender) (plan_renamed number_of p) h)
  calm_messaging (Bounced e) goes = ((inl (its say k i st h sender on), tt), tt)
  calm_messaging (Routed r) goes =
      calm_either say k i st h (is_full_in (archives_of r.archiving) h) _ _ ((inl (its say k i st h sender on), tt), tt) (calm_route r goes)

  pub calm_message : HaveNumbers h → AreCalm say k i st h (at_message say m (told sender) h)
  calm_message numbers =
      calm_messaging (planned (destination_of h.domain h.accounts sender.shown.account m.to) m (told sender) h.sessions)
      (plan_goes (destination_of h.domain h.accounts sender.shown.account m.to) m (told sender) h.sessions (all_live h numbers))
