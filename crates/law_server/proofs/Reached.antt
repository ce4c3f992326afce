-- Each session that a message is for is sent it.
use Rattle.std.proofs.Common.{◌≡◌, ◌⊎◌, ℕ, ◌==◌, Bool, true, false, cond, int_le, pos, List, [], ◌∷◌, Option, Some, None, Ok, map, refl, sym, ap, subst, ◌∙◌, inl, inr}
use Rattle.std.proofs.lemmas.Bool.{and_from, and_parts, cases_Bool, eq-eqb, eqb-true}
use Rattle.std.proofs.lemmas.List.Elements.{Contains-append_left, Contains-append_right, Contains-push}
use Rattle.std.proofs.lemmas.Option.{none-some, same_Some}
use Rattle.std.specs.List.{Contains, filter, find, list_any}
use Rattle.std.specs.Option.{option_map, unwrap_or}
use Rattle.im_forwarding.specs.Passed.{passed_item}
use Rattle.im_messages.specs.Entries.{entry_of}
use Rattle.im_stanza.specs.Views.{MessageView}
use Rattle.im_stanza.specs.declared.kinds.MessageKind.{MessageKind}
use Rattle.im_stanza.specs.declared.kinds.MessageKind.TheVariants.{Chat}
use Rattle.im_stanza.specs.declared.stanzas.Stanza.TheVariants as stanza
use Rattle.law_server.proofs.LiveRows.{NamesIt, names_addressee, number_is}
use Rattle.law_server.specs.Live.{delivery, going_on}
use Rattle.law_server.specs.Ready.{IsForUsers, IsReady, IsTaken, chat, headline, normal}
use Rattle.mam_archive.specs.Entries.{EntryView}
use Rattle.sm_live.specs.Sessions.{Session, info_of, is_named, is_of, number_of, session_named, session_of, sessions_of, told}
use Rattle.sm_live.specs.declared.told.SessionInfo.{SessionInfo}
use Rattle.srv_core.specs.Ready.{at_ready_or_bound}
use Rattle.srv_core.specs.Stanzas.{judging, unless_own}
use Rattle.srv_core.specs.Table.{at_open, at_word}
use Rattle.srv_handlers.specs.Messages.{archiving, at_message, delivering, delivering_to, is_full_at, is_full_in, messaging, number_in, telling}
use Rattle.srv_route.specs.Destinations.{Bare, Destination, Full, destination_of}
use Rattle.srv_route.specs.Messages.{is_archived, is_for_users}
use Rattle.srv_route.specs.Plans.{archiving_of, is_ready, planned, ready_of, routed, to_full, to_user}
use Rattle.srv_route.specs.Routes.{PlanOf, archives_of, plan_renamed}
use Rattle.srv_route.specs.declared.archiving.Archiving.TheVariants.{Both, Nowhere, Once}
use Rattle.srv_state.specs.Handling.{counting}
use Rattle.srv_state.specs.State.{ServerState, archive_at, bare_address}
use Rattle.srv_state.specs.Steps.{Act, Send}
use Rattle.srv_state.specs.Streams.{standing_at}
use Rattle.srv_state.specs.Words.{word_of}
use Rattle.srv_state.specs.declared.connection.Stage.{Stage}
use Rattle.srv_state.specs.declared.connection.Stage.TheVariants as stage
use Rattle.srv_state.specs.declared.connection.Standing.{Standing}
use Rattle.srv_state.specs.declared.word.Word.{Word}
use Rattle.srv_state.specs.declared.word.Word.TheVariants as word
use Rattle.xml_framer.specs.declared.items.Item.{Item}
use Rattle.xml_framer.specs.declared.items.Item.TheVariants as item
use Rattle.xml_writer.specs.Items.{ItemOut}

-- ---- among these, by recursion

abbrev pub Has : {T : Type 0} → T → List T → Type 0
Has t [] = ⊥
Has t (x ∷ xs) = (x ≡ t) ⊎ Has t xs

has_contains : {T : Type 0} (t : T) (xs : List T) → Has t xs → Contains xs t
has_contains t [] has = absurd has
has_contains {T = T} t (x ∷ xs) (inl here) = subst (λ (y : T). Contains (x ∷ xs) y) here (Contains-append_left (x ∷ []) xs x (Contains-push [] x))
has_contains {T = T} t (x ∷ xs) (inr later) = Contains-append_right (x ∷ []) xs t (has_contains t xs later)

pub has_filtered : {T : Type 0} (t : T) (p : T → Bool) (xs : List T) → p t ≡ true → Has t xs → Has t (filter p xs)
has_filtered t p [] is has = absurd has
has_filtered {T = T} t p (x ∷ xs) is (inl here) = (let passes : p x ≡ true = ap p here ∙ is in rw passes (inl here))
has_filtered t p (x ∷ xs) is (inr later) =
    let rest = has_filtered t p xs is later in
    elim (cases_Bool (p x)) [ inl stays ↦ rw stays (inr rest) | inr goes ↦ rw goes rest ]

pub has_found : {T : Type 0} (p : T → Bool) (xs : List T) (t : T) → find p xs ≡ Some t → Has t xs
has_found p [] t found = absurd (none-some t found)
has_found p (x ∷ xs) t found =
    elim (cases_Bool (p x)) [
      | inl here ↦ inl (same_Some x t (rw here at found))
      | inr other ↦ inr (has_found p xs t (rw other at found))
    ]

pub found_passes : {T : Type 0} (p : T → Bool) (xs : List T) (t : T) → find p xs ≡ Some t → p t ≡ true
found_passes p [] t found = absurd (none-some t found)
found_passes p (x ∷ xs) t found =
    elim (cases_Bool (p x)) [
      | inl here ↦ (let same = same_Some x t (rw here at found) in sym (ap p same) ∙ here)
      | inr other ↦ found_passes p xs t (rw other at found)
    ]

-- ---- archives that can take an entry

pub none_full : (f : ℕ → Bool) (archived same : Bool) (sender account : ℕ) → f sender ≡ false → f account ≡ false → list_any f (archives_of (cond archived (cond same (Once account) (Both sender account)) Nowhere)) ≡ false
none_full f true true sender account one other = rw other refl
none_full f true false sender account one other = rw (one, other) refl
none_full f false same sender account one other = refl

-- ---- a route

module _ {A : Type 0} (say : ItemOut → A) (h : ServerState A) (sender : Session A) (m : MessageView) (account : ℕ) (t : Session A) (lives : session_of t.shown.number h.sessions ≡ Some t) (owner : t.shown.account ≡ account) where
  abbrev given : Act A
  given = Send t.shown.number (say (delivery sender m account h))

  module _ (accounts : List ℕ) (named : NamesIt account m accounts) where
    has_sent : (o : Option (Session A)) (more : List (Act A)) → o ≡ Some t → Has given (delivering_to say (going_on sender m h) accounts (number_of t) (option_map told o) h more)
    has_sent None more is = absurd (none-some t is)
    has_sent (Some u) more is =
        let same : u.shown.account ≡ account = ap (λ (x : Session A). x.shown.account) (same_Some u t is) ∙ owner in
        inl (ap (λ (x : ℕ). Send (number_of t) (say (passed_item (bare_address x h) (number_in x accounts h) (going_on sender m h)))) same
        ∙ ap (λ (n : Option ℕ). Send (number_of t) (say (passed_item (bare_address account h) n (going_on sender m h)))) (number_is account m accounts h named))

    has_after : (n : ℕ) (o : Option SessionInfo) (more : List (Act A)) → Has given more → Has given (delivering_to say (going_on sender m h) accounts n o h more)
    has_after n None more has = has
    has_after n (Some u) more has = inr has

    pub has_delivering : (ss : List (Session A)) (more : List (Act A)) → Has t ss → Has given (delivering say (going_on sender m h) accounts (map number_of ss) h more)
    has_delivering [] more has = absurd has
    has_delivering (s ∷ ss) more (inl here) =
        subst (λ (x : Session A). Has given (delivering_to say (going_on sender m h) accounts (number_of x) (info_of (number_of x) h.sessions) h (delivering say (going_on sender m h) accounts (map number_of ss) h more))) (sym here)
        (has_sent (session_of t.shown.number h.sessions) (delivering say (going_on sender m h) accounts (map number_of ss) h more) lives)
    has_delivering (s ∷ ss) more (inr later) = has_after (number_of s) (info_of (number_of s) h.sessions) (delivering say (going_on sender m h) accounts (map number_of ss) h more) (has_delivering ss more later)

  has_archiving : (e : EntryView) (positions : List ℕ) (more : List (Act A)) → Has given more → Has given (archiving e positions more)
  has_archiving e [] more has = has
  has_archiving e (position ∷ positions) more has = inr (has_archiving e positions more has)

  has_telling : (full : MessageView) (positions : List ℕ) (more : List (Act A)) → Has given more → Has given (telling full positions more)
  has_telling full [] more has = has
  has_telling full (position ∷ positions) more has = inr has

  has_routed : (deliver : List (Session A)) → is_full_at (archive_at sender.shown.account h) ≡ false → is_full_at (archive_at account h) ≡ false → Has t deliver
      → Has given (messaging say m (unwrap_or m.to (bare_address sender.shown.account h)) (told sender) (plan_renamed number_of (routed m (told sender) account deliver h.sessions)) h)
  has_routed deliver one other has =
      let accounts = archives_of (archiving_of m sender.shown.account account) in
      let full = going_on sender m h in
      let room : is_full_in accounts h ≡ false = none_full (λ position. is_full_at (archive_at position h)) (is_archived m) (sender.shown.account == account) sender.shown.account account one other in
      rw room
      (has_archiving (entry_of 0 h.moment full) accounts _
      (has_telling full accounts _ (has_delivering accounts (names_addressee (is_archived m) (sender.shown.account == account) sender.shown.account account) deliver _ has)))

-- ---- the plan

for_users : (kind : MessageKind) → IsForUsers kind → is_for_users kind ≡ true
for_users kind (chat is) = ap is_for_users is
for_users kind (normal is) = ap is_for_users is
for_users kind (headline is) = ap is_for_users is

pub to_user_is : {A : Type 0} (m : MessageView) (t : SessionInfo) (account : ℕ) (deliver sessions : List (Session A)) → is_for_users m.kind ≡ true → to_user m t account deliver sessions ≡ routed m t account deliver sessions
to_user_is m t account deliver sessions is = rw is refl

to_absent_is : {A : Type 0} (m : MessageView) (t : SessionInfo) (account : ℕ) (sessions : List (Session A)) → m.kind ≡ Chat → to_full m t account None sessions ≡ routed m t account (ready_of account sessions) sessions
to_absent_is m t account sessions is = rw is refl

has_ready : {A : Type 0} (h : ServerState A) (account : ℕ) (t : Session A) → IsReady h account t → Has t (ready_of account h.sessions)
has_ready h account t ready =
    has_filtered t (λ s. is_ready s.shown) (sessions_of account h.sessions) (and_from t.shown.available (int_le (pos 0) t.shown.priority) ready.available ready.priority)
    (has_filtered t (is_of account) h.sessions (eq-eqb t.shown.account account ready.account_is) (has_found _ h.sessions t ready.lives))

-- ---- the item

module _ {A : Type 0} (say : ItemOut → A) (k : ℕ) (h : ServerState A) (sender : Session A) (m : MessageView) (account : ℕ) where
  either_has : (a : Act A) (b : Bool) (x y : List (Act A)) → Has a x → Has a y → Has a (cond b x y)
  either_has a true x y here there = here
  either_has a false x y here there = there

  acts_are : (e : _) (taken : IsTaken k (item.Element e) h sender m account) → at_open say k (item.Element e) (standing_at k h) h ≡ counting (told sender) (at_message say m (told sender) h)
  acts_are e taken =
      let st = taken.standing in
      ap (λ (o : Option Standing). at_open say k (item.Element e) o h) taken.is_open
      ∙ ap (λ (s : Stage). at_word say k (word_of e) s st h) taken.ready
      ∙ ap (λ (w : Word). at_word say k w (stage.Ready taken.login) st h) taken.is.reads
      ∙ ap (λ (o : Option (Session A)). at_ready_or_bound say k taken.login (word.Stanza false (Ok (stanza.Message m))) (option_map told o) st h) taken.is.is_on
      ∙ ap (λ (b : Bool). judging say k (Ok (stanza.Message m)) (told sender) st (unless_own b) h) taken.own

  pub reached : (i : Item) (a : Act A) → IsTaken k i h sender m account → Has a (at_message say m (told sender) h) → Contains (at_open say k i (standing_at k h) h) a
  reached (item.Element e) a taken has =
      subst (λ (acts : List (Act A)). Contains acts a) (sym (acts_are e taken))
      (has_contains a (counting (told sender) (at_message say m (told sender) h)) (either_has a sender.shown.counted _ _ (inr has) has))
  reached (item.Header at header) a taken has = absurd taken.is.reads
  reached item.Footer a taken has = absurd taken.is.reads

  -- by its plan
  planned_so : (i : Item) (t : Session A) (deliver : List (Session A)) → IsTaken k i h sender m account → session_of t.shown.number h.sessions ≡ Some t → t.shown.account ≡ account
      → planned (destination_of h.domain h.accounts sender.shown.account m.to) m (told sender) h.sessions ≡ routed m (told sender) account deliver h.sessions → Has t deliver
      → Contains (at_open say k i (standing_at k h) h) (Send t.shown.number (say (delivery sender m account h)))
  planned_so i t deliver taken lives owner plan has =
      reached i (Send t.shown.number (say (delivery sender m account h))) taken
      (subst (λ (p : PlanOf (Session A)). Has (Send t.shown.number (say (delivery sender m account h))) (messaging say m (unwrap_or m.to (bare_address sender.shown.account h)) (told sender) (plan_renamed number_of p) h)) (sym plan)
      (has_routed say h sender m account t lives owner deliver taken.sender_room taken.addressee_room has))

pub reached_bare : {A : Type 0} (say : ItemOut → A) (k : ℕ) (i : Item) (h : ServerState A) (sender t : Session A) (m : MessageView) (account : ℕ) → IsTaken k i h sender m account
    → destination_of h.domain h.accounts sender.shown.account m.to ≡ Bare account → IsForUsers m.kind → IsReady h account t
    → Contains (at_open say k i (standing_at k h) h) (Send t.shown.number (say (delivery sender m account h)))
reached_bare {A = A} say k i h sender t m account taken to users ready =
    planned_so say k h sender m account i t (ready_of account h.sessions) taken ready.lives ready.account_is
    (ap (λ (d : Destination). planned d m (told sender) h.sessions) to ∙ to_user_is m (told sender) account (ready_of account h.sessions) h.sessions (for_users m.kind users)) (has_ready h account t ready)

pub reached_full : {A : Type 0} (say : ItemOut → A) (k : ℕ) (i : Item) (h : ServerState A) (sender t : Session A) (m : MessageView) (account : ℕ) (resource : List ℕ) → IsTaken k i h sender m account
    → destination_of h.domain h.accounts sender.shown.account m.to ≡ Full account resource → session_named account resource h.sessions ≡ Some t → session_of t.shown.number h.sessions ≡ Some t
    → Contains (at_open say k i (standing_at k h) h) (Send t.shown.number (say (delivery sender m account h)))
reached_full {A = A} say k i h sender t m account resource taken to named lives =
    let passes = found_passes (is_named account resource) h.sessions t named in
    planned_so say k h sender m account i t (t ∷ []) taken lives (eqb-true t.shown.account account (and_parts (t.shown.account == account) _ passes).0)
    (ap (λ (d : Destination). planned d m (told sender) h.sessions) to ∙ ap (λ (o : Option (Session A)). to_full m (told sender) account o h.sessions) named) (inl refl)

pub reached_absent : {A : Type 0} (say : ItemOut → A) (k : ℕ) (i : Item) (h : ServerState A) (sender t : Session A) (m : MessageView) (account : ℕ) (resource : List ℕ) → IsTaken k i h sender m account
    → destination_of h.domain h.accounts sender.shown.account m.to ≡ Full account resource → session_named account resource h.sessions ≡ None → m.kind ≡ Chat → IsReady h account t
    → Contains (at_open say k i (standing_at k h) h) (Send t.shown.number (say (delivery sender m account h)))
reached_absent {A = A} say k i h sender t m account resource taken to none kind ready =
    planned_so say k h sender m account i t (ready_of account h.sessions) taken ready.lives ready.account_is
    (ap (λ (d : Destination). planned d m (told sender) h.sessions) to ∙ ap (λ (o : Option (Session A)). to_full m (told sender) account o h.sessions) none ∙ to_absent_is m (told sender) account h.sessions kind)
    (has_ready h account t ready)
