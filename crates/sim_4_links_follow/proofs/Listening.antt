-- All that a row on a stanza sends is stanzas, for sessions that are counted, are available or have carbons.
use Rattle.std.proofs.Common.{◌≡◌, ℕ, ◌+◌, ◌==◌, Bool, true, false, not, ◌&&◌, ◌⊎◌, List, [], ◌∷◌, Option, Some, None, Result, Ok, Err, cond, map, refl, sym, subst, ◌∙◌, inl, inr, arith}
use Rattle.std.proofs.lemmas.Bool.{cases_Bool, eq-eqb, eqb-true}
use Rattle.std.proofs.lemmas.Option.{same_Some}
use Rattle.std.specs.List.{AllByRecursion, filter, list_any}
use Rattle.std.specs.Option.{unwrap_or}
use Rattle.std.specs.Prelude.{int_le, pos}
use Rattle.std.specs.Str.{bytes_eq}
use Rattle.mam_archive.specs.Entries.{EntryView, entry_numbered}
use Rattle.base_lemmas.proofs.Lists.{AllByRecursion-weaker}
use Rattle.srv_state.specs.State.{Kept, ServerState, archive_at, bare_address, session_address}
use Rattle.srv_state.specs.Steps.{Act, Archive, Copy, Present, Send, Tell}
use Rattle.sim_3_items.specs.Counted.{IsBare, IsForBare, IsForClient}
use Rattle.im_forwarding.specs.Passed.{addressed}
use Rattle.im_forwarding.specs.Queries.{no_such_place}
use Rattle.im_forwarding.specs.Results.{AskerView}
use Rattle.sim_3_items.specs.ItemWorlds.{itself}
use Rattle.im_jid.specs.Cuts.{domain_of, resource_of}
use Rattle.sm_live.specs.Rule.{RisesTo}
use Rattle.sm_live.specs.Sessions.{Session, info_of, is_of, number_of, session_of, sessions_of}
use Rattle.sm_live.specs.declared.told.SessionInfo.{SessionInfo}
use Rattle.srv_login.specs.declared.account.Account.{Account}
use Rattle.im_mam.specs.declared.archive_query.MamQuery.{MamQuery}
use Rattle.srv_handlers.specs.Messages.{archiving, at_message, bouncing, carrying, copying, copying_to, delivering, delivering_to, is_full_in, messaging, no_room, telling}
use Rattle.im_messages.specs.Entries.{entry_of}
use Rattle.mam_pages.specs.Cuts.{CutView}
use Rattle.mam_pages.specs.Kept.{kept_by}
use Rattle.mam_pages.specs.PageOf.{page_of}
use Rattle.srv_handlers.specs.Requests.{asker_of, empty_answer, envelope_of, info_item, paging, querying_in, refusing_iq, request_of, sending_entries, sending_entry, serving}
use Rattle.srv_handlers.specs.declared.request.Request.{Request}
use Rattle.srv_handlers.specs.declared.request.Request.TheVariants as request
use Rattle.srv_route.specs.Destinations.{Bare, Destination, Full, NoUser, RemoteDomain, account_in, at_user, destination_of}
use Rattle.srv_route.specs.Messages.{is_copied, is_for_users}
use Rattle.srv_route.specs.Plans.{copied_of, dropped, is_ready, plan_of, planned, ready_of, refused, routed, to_user, wants_copy}
use Rattle.srv_route.specs.Routes.{Bounced, PlanOf, RouteOf, Routed, archives_of, plan_renamed}
use Rattle.cmd_schedule.proofs.Lists.{all_map}
use Rattle.im_stanza.specs.Kinds.{answers_message}
use Rattle.im_stanza.specs.Views.{IqView, MessageView}
use Rattle.im_stanza.specs.declared.conditions.Condition.{Condition}
use Rattle.im_stanza.specs.declared.conditions.Condition.TheVariants.{RemoteServerNotFound, ServiceUnavailable}
use Rattle.im_stanza.specs.declared.errors.StanzaError.{StanzaError}
use Rattle.im_stanza.specs.declared.fault.StanzaFault.{StanzaFault}
use Rattle.im_stanza.specs.declared.fault.StanzaFault.TheVariants as fault
use Rattle.im_stanza.specs.declared.kinds.MessageKind.{MessageKind}
use Rattle.im_stanza.specs.declared.kinds.PresenceKind.{PresenceKind}
use Rattle.im_stanza.specs.declared.kinds.PresenceKind.TheVariants.{Available, Error, Other, Unavailable}
use Rattle.im_stanza.specs.declared.stanzas.Presence.{Presence}
use Rattle.im_stanza.specs.declared.stanzas.Stanza.{Stanza}
use Rattle.im_stanza.specs.declared.stanzas.Stanza.TheVariants as stanza
use Rattle.srv_core.specs.Stanzas.{at_bad_to, directing, handling, is_local, malformed_item, presenting, returning}
use Rattle.sim_3_images.proofs.RuleKept.{numbers_above}
use Rattle.xml_writer.specs.Items.{ItemOut}

-- ---- what is told here

abbrev pub IsListening : Session ItemOut → Type 0
IsListening s = (s.shown.counted ≡ true) ⊎ ((s.shown.available ≡ true) ⊎ (s.shown.carbons ≡ true))

-- the session with a number is such a one, where it lives
abbrev pub IsHeardBy : List (Session ItemOut) → ℕ → Type 0
IsHeardBy ss n = (s : Session ItemOut) → session_of n ss ≡ Some s → IsListening s

abbrev pub IsHeard : List (Session ItemOut) → Act ItemOut → Type 0
IsHeard ss (Send n z) = IsForClient z × IsHeardBy ss n
IsHeard ss (Present n available priority) = IsHeardBy ss n
IsHeard ss (Copy n on) = IsHeardBy ss n
IsHeard ss (Archive account e) = Unit {0}
IsHeard ss (Tell from to origin) = Unit {0}
IsHeard ss _ = ⊥

abbrev pub AreHeard : List (Session ItemOut) → List (Act ItemOut) → Type 0
AreHeard ss acts = AllByRecursion (IsHeard ss) acts

-- ---- lists

each_chosen : {X : Type 0} (P : X → Type 0) (q : X → Bool) (xs : List X) → AllByRecursion P xs → AllByRecursion (λ x. P x × (q x ≡ true)) (filter q xs)
each_chosen P q [] all = tt
each_chosen P q (x ∷ xs) all =
    elim (cases_Bool (q x)) [
      | inl passes ↦ rw passes ((all.0, passes), each_chosen P q xs all.1)
      | inr other ↦ rw other (each_chosen P q xs all.1)
    ]

pub first_true : (a b : Bool) → a && b ≡ true → a ≡ true
first_true true b is = refl
first_true false b is = absurd (let no_way : ⊥ = cc in no_way)

-- each session is found by its number
abbrev IsListed : List (Session ItemOut) → Session ItemOut → Type 0
IsListed ss s = session_of s.shown.number ss ≡ Some s

listed : (next low : ℕ) (ss : List (Session ItemOut)) → RisesTo next low ss → AllByRecursion (IsListed ss) ss
listed next low [] rises = tt
listed next low (x ∷ ss) rises = (here, AllByRecursion-weaker (IsListed ss) (IsListed (x ∷ ss)) later ss (listed next (x.shown.number + 1) ss rises.1))
  where
    here : session_of x.shown.number (x ∷ ss) ≡ Some x
    here = let e = eq-eqb x.shown.number x.shown.number refl in rw e refl

    later : (s : Session ItemOut) → session_of s.shown.number ss ≡ Some s → session_of s.shown.number (x ∷ ss) ≡ Some s
    later s found =
        elim (cases_Bool (x.shown.number == s.shown.number)) [
          | inl same ↦
              let equal : x.shown.number ≡ s.shown.number = eqb-true x.shown.number s.shown.number same in
              let above = numbers_above next (x.shown.number + 1) s.shown.number ss s rises.1 found in
              absurd (let no_way : ⊥ = omega arith in no_way)
          | inr apart ↦ rw apart found
        ]

module _ (ss : List (Session ItemOut)) where
  abbrev IsReached : Session ItemOut → Type 0
  IsReached s = IsHeardBy ss s.shown.number

  chosen_heard : (p : Session ItemOut → Bool) (xs : List (Session ItemOut)) → ((s : Session ItemOut) → p s ≡ true → IsListening s) → AllByRecursion (IsListed ss) xs → AllByRecursion IsReached (filter p xs)
  chosen_heard p xs listens all = AllByRecursion-weaker (λ s. IsListed ss s × (p s ≡ true)) IsReached heard (filter p xs) (each_chosen (IsListed ss) p xs all)
    where
      heard : (s : Session ItemOut) → IsListed ss s × (p s ≡ true) → IsReached s
      heard s is t found = subst IsListening (same_Some s t (sym is.0 ∙ found)) (listens s is.1)

  of_account : (account : ℕ) → AllByRecursion (IsListed ss) ss → AllByRecursion (IsListed ss) (sessions_of account ss)
  of_account account all = AllByRecursion-weaker (λ s. IsListed ss s × (is_of account s ≡ true)) (IsListed ss) (λ s both. both.0) (filter (is_of account) ss) (each_chosen (IsListed ss) (is_of account) ss all)

  -- ---- plans

  abbrev RouteHeard : RouteOf (Session ItemOut) → Type 0
  RouteHeard r = AllByRecursion IsReached r.deliver × AllByRecursion IsReached r.sent × AllByRecursion IsReached r.received

  abbrev PlanHeard : PlanOf (Session ItemOut) → Type 0
  PlanHeard (Bounced e) = Unit {0}
  PlanHeard (Routed r) = RouteHeard r

  module _ (all : AllByRecursion (IsListed ss) ss) where
    ready_heard : (account : ℕ) → AllByRecursion IsReached (ready_of account ss)
    ready_heard account =
        chosen_heard (λ s. is_ready s.shown) (sessions_of account ss) (λ s ready. inr (inl (first_true s.shown.available (int_le (pos 0) s.shown.priority) ready))) (of_account account all)

    copied_heard : (account : ℕ) (having : List ℕ) → AllByRecursion IsReached (copied_of account having ss)
    copied_heard account having =
        chosen_heard (λ s. wants_copy having s.shown) (sessions_of account ss) (λ s wants. inr (inr (first_true s.shown.carbons (not (list_any (λ n. n == s.shown.number) having)) wants))) (of_account account all)

    either_list : (b : Bool) (xs : List (Session ItemOut)) → AllByRecursion IsReached xs → AllByRecursion IsReached (cond b xs [])
    either_list true xs heard = heard
    either_list false xs heard = tt

    either_plan : (b : Bool) (x y : PlanOf (Session ItemOut)) → PlanHeard x → PlanHeard y → PlanHeard (cond b x y)
    either_plan true x y one other = one
    either_plan false x y one other = other

    refused_heard : (c : Condition) (kind : MessageKind) → PlanHeard (refused c kind)
    refused_heard c kind = either_plan (answers_message kind) (Bounced _) dropped tt (tt, tt, tt)

    routed_heard : (m : MessageView) (t : SessionInfo) (account : ℕ) (deliver : List (Session ItemOut)) → AllByRecursion IsReached deliver → PlanHeard (routed m t account deliver ss)
    routed_heard m t account deliver heard =
        (heard, either_list (is_copied m) _ (copied_heard t.account (t.number ∷ map number_of deliver)), either_list (is_copied m && not (t.account == account)) _ (copied_heard account (t.number ∷ map number_of deliver)))

    bare_heard : (m : MessageView) (t : SessionInfo) (account : ℕ) → PlanHeard (to_user m t account (ready_of account ss) ss)
    bare_heard m t account =
        either_plan (is_for_users m.kind) (routed m t account (ready_of account ss) ss) (refused ServiceUnavailable m.kind) (routed_heard m t account (ready_of account ss) (ready_heard account)) (refused_heard ServiceUnavailable m.kind)

    abbrev IsBareDestination : Destination → Type 0
    IsBareDestination (Full account resource) = ⊥
    IsBareDestination d = Unit {0}

    planned_heard : (d : Destination) (m : MessageView) (t : SessionInfo) → IsBareDestination d → PlanHeard (planned d m t ss)
    planned_heard RemoteDomain m t is = refused_heard RemoteServerNotFound m.kind
    planned_heard NoUser m t is = refused_heard ServiceUnavailable m.kind
    planned_heard (Bare account) m t is = bare_heard m t account
    planned_heard (Full account resource) m t is = absurd is

    at_user_bare : (o : Option ℕ) (resource : Option (List ℕ)) → resource ≡ None → IsBareDestination (at_user o resource)
    at_user_bare None resource none = tt
    at_user_bare (Some account) resource none = rw none tt

    either_destination : (b : Bool) (x y : Destination) → IsBareDestination x → IsBareDestination y → IsBareDestination (cond b x y)
    either_destination true x y one other = one
    either_destination false x y one other = other

    destination_bare : (domain : List ℕ) (accounts : List Account) (sender : ℕ) (to : Option (List ℕ)) → IsBare to → IsBareDestination (destination_of domain accounts sender to)
    destination_bare domain accounts sender None is = tt
    destination_bare domain accounts sender (Some to) is =
        either_destination (bytes_eq (domain_of to) domain) (at_user (account_in to accounts) (resource_of to)) RemoteDomain (at_user_bare (account_in to accounts) (resource_of to) is) tt

    plan_heard : (domain : List ℕ) (accounts : List Account) (m : MessageView) (t : SessionInfo) → IsBare m.to → PlanHeard (plan_of domain accounts ss m t)
    plan_heard domain accounts m t is = planned_heard (destination_of domain accounts t.account m.to) m t (destination_bare domain accounts t.account m.to is)

  -- the same by numbers
  abbrev NumbersHeard : PlanOf ℕ → Type 0
  NumbersHeard (Bounced e) = Unit {0}
  NumbersHeard (Routed r) = AllByRecursion (IsHeardBy ss) r.deliver × AllByRecursion (IsHeardBy ss) r.sent × AllByRecursion (IsHeardBy ss) r.received

  numbers_heard : (p : PlanOf (Session ItemOut)) → PlanHeard p → NumbersHeard (plan_renamed number_of p)
  numbers_heard (Bounced e) heard = tt
  numbers_heard (Routed r) heard = (all_map (IsHeardBy ss) number_of r.deliver heard.0, all_map (IsHeardBy ss) number_of r.sent heard.1, all_map (IsHeardBy ss) number_of r.received heard.2)

-- ---- messages

module _ (h : ServerState ItemOut) where
  archiving_heard : (e : EntryView) (accounts : List ℕ) (more : List (Act ItemOut)) → AreHeard h.sessions more → AreHeard h.sessions (archiving e accounts more)
  archiving_heard e [] more heard = heard
  archiving_heard e (account ∷ accounts) more heard = (tt, archiving_heard e accounts more heard)

  telling_heard : (m : MessageView) (accounts : List ℕ) (more : List (Act ItemOut)) → AreHeard h.sessions more → AreHeard h.sessions (telling m accounts more)
  telling_heard m [] more heard = heard
  telling_heard m (account ∷ accounts) more heard = (tt, heard)

  delivered : (m : MessageView) (accounts : List ℕ) (n : ℕ) (o : Option SessionInfo) (more : List (Act ItemOut)) → IsHeardBy h.sessions n → AreHeard h.sessions more → AreHeard h.sessions (delivering_to itself m accounts n o h more)
  delivered m accounts n None more its heard = heard
  delivered m accounts n (Some t) more its heard = ((record { elem = _; whole = refl; stanza = refl }, its), heard)

  delivering_heard : (m : MessageView) (accounts numbers : List ℕ) (more : List (Act ItemOut)) → AllByRecursion (IsHeardBy h.sessions) numbers → AreHeard h.sessions more → AreHeard h.sessions (delivering itself m accounts numbers h more)
  delivering_heard m accounts [] more all heard = heard
  delivering_heard m accounts (n ∷ numbers) more all heard = delivered m accounts n (info_of n h.sessions) (delivering itself m accounts numbers h more) all.0 (delivering_heard m accounts numbers more all.1 heard)

  copied : (way : Bool) (m : MessageView) (accounts : List ℕ) (n : ℕ) (o : Option SessionInfo) (more : List (Act ItemOut)) → IsHeardBy h.sessions n → AreHeard h.sessions more → AreHeard h.sessions (copying_to itself way m accounts n o h more)
  copied way m accounts n None more its heard = heard
  copied way m accounts n (Some t) more its heard = ((record { elem = _; whole = refl; stanza = refl }, its), heard)

  copying_heard : (way : Bool) (m : MessageView) (accounts numbers : List ℕ) (more : List (Act ItemOut)) → AllByRecursion (IsHeardBy h.sessions) numbers → AreHeard h.sessions more → AreHeard h.sessions (copying itself way m accounts numbers h more)
  copying_heard way m accounts [] more all heard = heard
  copying_heard way m accounts (n ∷ numbers) more all heard = copied way m accounts n (info_of n h.sessions) (copying itself way m accounts numbers h more) all.0 (copying_heard way m accounts numbers more all.1 heard)

  carrying_heard : (m : MessageView) (accounts : List ℕ) (r : RouteOf ℕ) → NumbersHeard h.sessions (Routed r) → AreHeard h.sessions (carrying itself m accounts r h)
  carrying_heard m accounts r all =
      archiving_heard (entry_of 0 h.moment m) accounts _ (telling_heard m accounts _ (delivering_heard m accounts r.deliver _ all.0 (copying_heard true m accounts r.sent _ all.1 (copying_heard false m accounts r.received [] all.2 tt))))

  module _ (t : SessionInfo) (own : IsHeardBy h.sessions t.number) where
    bouncing_heard : (m : MessageView) (to : List ℕ) (e : StanzaError) → AreHeard h.sessions (bouncing itself m to e t)
    bouncing_heard m to e = ((record { elem = _; whole = refl; stanza = refl }, own), tt)

    either_row : (b : Bool) (x y : List (Act ItemOut)) → AreHeard h.sessions x → AreHeard h.sessions y → AreHeard h.sessions (cond b x y)
    either_row true x y one other = one
    either_row false x y one other = other

    messaging_heard : (m : MessageView) (to : List ℕ) (p : PlanOf ℕ) → NumbersHeard h.sessions p → AreHeard h.sessions (messaging itself m to t p h)
    messaging_heard m to (Bounced e) all = bouncing_heard m to e
    messaging_heard m to (Routed r) all =
        either_row (is_full_in (archives_of r.archiving) h) (bouncing itself m to no_room t) (carrying itself (addressed (session_address t.number h) to m) (archives_of r.archiving) r h) (bouncing_heard m to no_room)
        (carrying_heard (addressed (session_address t.number h) to m) (archives_of r.archiving) r all)

    message_heard : (m : MessageView) → RisesTo h.next 1 h.sessions → IsBare m.to → AreHeard h.sessions (at_message itself m t h)
    message_heard m rises is =
        messaging_heard m (unwrap_or m.to (bare_address t.account h)) (plan_renamed number_of (plan_of h.domain h.accounts h.sessions m t))
        (numbers_heard h.sessions (plan_of h.domain h.accounts h.sessions m t) (plan_heard h.sessions (listed h.next 1 h.sessions rises) h.domain h.accounts m t is))

    -- ---- requests

    refusing_heard : (q : IqView) (e : StanzaError) → AreHeard h.sessions (refusing_iq itself q t e h)
    refusing_heard q e = ((record { elem = _; whole = refl; stanza = refl }, own), tt)

    empty_heard : (q : IqView) → AreHeard h.sessions (empty_answer itself q t h)
    empty_heard q = ((record { elem = _; whole = refl; stanza = refl }, own), tt)

    info_is : (at_domain : Bool) (q : IqView) → IsForClient (info_item at_domain (envelope_of q t h))
    info_is true q = record { elem = _; whole = refl; stanza = refl }
    info_is false q = record { elem = _; whole = refl; stanza = refl }

    entry_heard : (a : AskerView) (o : Option EntryView) (more : List (Act ItemOut)) → AreHeard h.sessions more → AreHeard h.sessions (sending_entry itself t.number a o more)
    entry_heard a None more heard = heard
    entry_heard a (Some e) more heard = ((record { elem = _; whole = refl; stanza = refl }, own), heard)

    entries_heard : (a : AskerView) (entries : List EntryView) (numbers : List ℕ) (more : List (Act ItemOut)) → AreHeard h.sessions more → AreHeard h.sessions (sending_entries itself t.number a entries numbers more)
    entries_heard a entries [] more heard = heard
    entries_heard a entries (number ∷ numbers) more heard = entry_heard a (entry_numbered number entries) (sending_entries itself t.number a entries numbers more) (entries_heard a entries numbers more heard)

    paging_heard : (q : IqView) (queryid : List ℕ) (kept : Kept) (o : Option CutView) → AreHeard h.sessions (paging itself q t queryid kept o h)
    paging_heard q queryid kept None = refusing_heard q no_such_place
    paging_heard q queryid kept (Some cut) = entries_heard (asker_of t queryid h) kept.entries cut.numbers _ ((record { elem = _; whole = refl; stanza = refl }, own), tt)

    querying_heard : (q : IqView) (query : MamQuery) (o : Option Kept) → AreHeard h.sessions (querying_in itself q t query o h)
    querying_heard q query None = tt
    querying_heard q query (Some kept) = paging_heard q query.queryid kept (page_of (kept_by kept.owner kept.entries) query.query)

    serving_heard : (q : IqView) (o : Option Request) → AreHeard h.sessions (serving itself o q t h)
    serving_heard q None = tt
    serving_heard q (Some request.Ping) = empty_heard q
    serving_heard q (Some (request.Info at_domain)) = ((info_is at_domain q, own), tt)
    serving_heard q (Some (request.Items node)) = ((record { elem = _; whole = refl; stanza = refl }, own), tt)
    serving_heard q (Some request.Roster) = ((record { elem = _; whole = refl; stanza = refl }, own), tt)
    serving_heard q (Some request.Session) = empty_heard q
    serving_heard q (Some (request.Carbons on)) = (own, empty_heard q)
    serving_heard q (Some (request.Archive query)) = querying_heard q query (archive_at t.account h)
    serving_heard q (Some (request.Refused e)) = refusing_heard q e

    -- ---- all stanzas

    returning_heard : (kind : PresenceKind) (to : List ℕ) (p : Presence) → AreHeard h.sessions (returning itself kind to p t)
    returning_heard Available to p = ((record { elem = _; whole = refl; stanza = refl }, own), tt)
    returning_heard Unavailable to p = tt
    returning_heard Error to p = tt
    returning_heard Other to p = ((record { elem = _; whole = refl; stanza = refl }, own), tt)

    directing_heard : (here : Bool) (kind : PresenceKind) (to : List ℕ) (p : Presence) → AreHeard h.sessions (directing itself here kind to p t)
    directing_heard true kind to p = tt
    directing_heard false kind to p = returning_heard kind to p

    presenting_heard : (o : Option (List ℕ)) (kind : PresenceKind) (p : Presence) → AreHeard h.sessions (presenting itself o kind p t h)
    presenting_heard (Some to) kind p = directing_heard (is_local to h) kind to p
    presenting_heard None Available p = (own, tt)
    presenting_heard None Unavailable p = (own, tt)
    presenting_heard None Error p = tt
    presenting_heard None Other p = tt

    malformed_is : (message : Bool) (id to : List ℕ) → IsForClient (malformed_item message id to t h)
    malformed_is true id to = record { elem = _; whole = refl; stanza = refl }
    malformed_is false id to = record { elem = _; whole = refl; stanza = refl }

    bad_to_heard : (message reply : Bool) (id to : List ℕ) → AreHeard h.sessions (at_bad_to itself message reply id to t h)
    bad_to_heard message false id to = tt
    bad_to_heard message true id to = ((malformed_is message id to, own), tt)

    pub handling_heard : (read : Result Stanza StanzaFault) → RisesTo h.next 1 h.sessions → IsForBare read → AreHeard h.sessions (handling itself read t h)
    handling_heard (Ok (stanza.Message m)) rises is = message_heard m rises is
    handling_heard (Ok (stanza.Presence p)) rises is = presenting_heard p.to p.kind p
    handling_heard (Ok (stanza.Iq q)) rises is = serving_heard q (request_of q t h)
    handling_heard (Err (fault.BadTo message reply from id to)) rises is = bad_to_heard message reply id to
    handling_heard (Err fault.BadFrom) rises is = tt
    handling_heard (Err fault.NotAStanza) rises is = tt
    handling_heard (Err fault.BadFormat) rises is = tt
    handling_heard (Err fault.NoMemory) rises is = tt
