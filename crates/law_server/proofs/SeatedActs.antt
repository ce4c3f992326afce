-- Acts and items leave sessions where their accounts are logged in, and logins where passwords were proved.
use Rattle.std.proofs.Common.{◌≡◌, ℕ, ◌==◌, Bool, true, false, not, cond, List, [], ◌∷◌, Option, Some, None, refl, sym, ap, subst, ◌∙◌}
use Rattle.std.proofs.lemmas.Option.{none-some, same_Some}
use Rattle.std.specs.List.{AllByRecursion}
use Rattle.std.specs.Map.{lookup}
use Rattle.std.specs.Option.{option_and_then, option_map}
use Rattle.im_replies.specs.Streams.{error_item}
use Rattle.im_replies.specs.declared.conditions.StreamCondition.TheVariants.{ResourceConstraint}
use Rattle.law_server.proofs.LiveRows.{found_has}
use Rattle.law_server.proofs.LoginRows.{calm_ending}
use Rattle.law_server.proofs.Rows.{Answers, AreCalm, IsBeforeReady, IsRow, IsSteady, MayEnter, calm_row}
use Rattle.law_server.proofs.RowsDue.{row_item}
use Rattle.law_server.proofs.Seats.{Holds, IsBackedBy, IsReadyAt, IsSeated, NoneAt, StandsOn, WasDrawn, at_entry, conn_is, holds_bound, holds_changed, holds_entered, holds_resumed, holds_shut, holds_some, none_found}
use Rattle.law_server.specs.Numbers.{HaveNumbers}
use Rattle.law_server.specs.Proved.{IsExchange, IsProof}
use Rattle.mam_archive.specs.Entries.{EntryView}
use Rattle.sm_acks.specs.declared.end.TheConstants.{MOST_UNACKNOWLEDGED}
use Rattle.sm_live.specs.Sessions.{Session, acknowledged, asks, copies, enables, handles, info_of, is_at, presents, session_at, session_resumed, waits, with_session, without}
use Rattle.sm_live.specs.declared.told.SessionInfo.{SessionInfo}
use Rattle.srv_core.specs.Events.{after_fault, at_fault, fault_condition}
use Rattle.srv_core.specs.Table.{after_item, at_item, at_open}
use Rattle.srv_login.proofs.LoginLaws.{proofs_log_in}
use Rattle.srv_login.specs.Negotiations.{LoginView}
use Rattle.srv_login.specs.declared.account.Account.{Account}
use Rattle.srv_login.specs.declared.negotiation.Negotiation.{Negotiation}
use Rattle.srv_state.specs.Logins.{negotiation_in, negotiation_of}
use Rattle.srv_state.specs.State.{Kept, ServerState, Step, archive_at, conn_at, is_number, with_conn}
use Rattle.srv_state.specs.Steps as steps
use Rattle.srv_state.specs.Steps.{Act, act, acted, after_failure, archived_in, ask_where, in_phase, in_server_state, in_sessions, is_due, overflow, part_where, put, put_where, queue, send_by_info, shut}
use Rattle.srv_state.specs.Streams.{stage_of, standing_of}
use Rattle.srv_state.specs.declared.connection.Connection.{Connection}
use Rattle.srv_state.specs.declared.connection.Phase.{Phase}
use Rattle.srv_state.specs.declared.connection.Phase.TheVariants as phase
use Rattle.srv_state.specs.declared.connection.Stage.TheVariants as stage
use Rattle.srv_state.specs.declared.connection.Standing.{Standing}
use Rattle.xml_framer.specs.declared.fault.Fault.{Fault}
use Rattle.xml_framer.specs.declared.items.Item.{Item}
use Rattle.xml_framer.specs.declared.items.Item.TheVariants as item
use Rattle.xml_trees.specs.Trees.{Elem}
use Rattle.xml_writer.specs.Items.{Closing, ItemOut}

-- ---- acts

abbrev pub Held : {A : Type 0} → (ℕ → List ℕ → Type 0) → (ℕ → ℕ → Type 0) → List Account → Type 0 → ℕ → ServerState A → Type 0
Held C P accounts B k h = Holds C P accounts B k h.sessions h.conns

module _ {A : Type 0} (C : ℕ → List ℕ → Type 0) (P : ℕ → ℕ → Type 0) (accounts : List Account) (B : Type 0) (k : ℕ) (say : ItemOut → A) where
  held_changed : (n : ℕ) (f : Session A → Session A) (s : Step A) → ((t : Session A) → (f t).shown.conn ≡ t.shown.conn) → ((t : Session A) → (f t).shown.account ≡ t.shown.account) → Held C P accounts B k s.server_state → Held C P accounts B k (in_sessions (with_session n f) s).server_state
  held_changed n f s conn account held = holds_changed C P accounts B k n f conn account s.server_state.sessions s.server_state.conns held

  pub held_shut : (j : ℕ) (s : Step A) → Held C P accounts B k s.server_state → Held C P accounts B k (shut j s).server_state
  held_shut j s held = holds_shut C P accounts B k j s.server_state.sessions s.server_state.conns held

  held_put : (o : Option ℕ) (a : A) (s : Step A) → Held C P accounts B k s.server_state → Held C P accounts B k (put_where o a s).server_state
  held_put None a s held = held
  held_put (Some j) a s held = held

  held_part : (o : Option ℕ) (error : A) (s : Step A) → Held C P accounts B k s.server_state → Held C P accounts B k (part_where say o error s).server_state
  held_part None error s held = held
  held_part (Some j) error s held = held_shut j (put j (say Closing) (put j error s)) held

  held_ask : (n : ℕ) (o : Option ℕ) (due : Bool) (s : Step A) → Held C P accounts B k s.server_state → Held C P accounts B k (ask_where say n o due s).server_state
  held_ask n o false s held = held
  held_ask n None true s held = held
  held_ask n (Some j) true s held = held_changed n (asks true) s (λ t. refl) (λ t. refl) held

  held_queue : (n : ℕ) (a : A) (t : SessionInfo) (s : Step A) → Held C P accounts B k s.server_state → Held C P accounts B k (queue say n a t s).server_state
  held_queue n a t s held =
      let u = in_sessions (with_session n (waits a)) s in
      held_ask n t.conn (is_due t) (put_where t.conn a u) (held_put t.conn a u (held_changed n (waits a) s (λ x. refl) (λ x. refl) held))

  held_overflow : (n : ℕ) (t : SessionInfo) (s : Step A) → Held C P accounts B k s.server_state → Held C P accounts B k (overflow say n t s).server_state
  held_overflow n t s held =
      held_part t.conn (say (error_item ResourceConstraint)) (in_sessions (without n) s)
      (holds_some C P accounts B k (λ x. not (x.shown.number == n)) s.server_state.sessions s.server_state.conns held)

  held_either : (b : Bool) (s t : Step A) → Held C P accounts B k s.server_state → Held C P accounts B k t.server_state → Held C P accounts B k (cond b s t).server_state
  held_either true s t here there = here
  held_either false s t here there = there

  held_sent : (n : ℕ) (a : A) (o : Option SessionInfo) (s : Step A) → Held C P accounts B k s.server_state → Held C P accounts B k (send_by_info say n a o s).server_state
  held_sent n a None s held = held
  held_sent n a (Some t) s held =
      held_either (not t.counted) _ _ (held_put t.conn a s held)
      (held_either (t.waiting == MOST_UNACKNOWLEDGED) _ _ (held_overflow n t s held) (held_queue n a t s held))

  held_archived : (e : EntryView) (account : ℕ) (o : Option Kept) (h : ServerState A) → Held C P accounts B k h → Held C P accounts B k (archived_in e account o h)
  held_archived e account None h held = held
  held_archived e account (Some kept) h held = held

  module _ (i : Item) (st : Standing) (h : ServerState A) (empties : IsBeforeReady st.stage → B) (enters : (p : Phase) → MayEnter k i st h p → IsBackedBy C P accounts k p) where
    held_enter : (j : ℕ) (f : Connection → Connection) (s : Step A) → j ≡ k → IsBeforeReady st.stage → ((c : Connection) → (f c).entropy ≡ c.entropy) → ((c : Connection) → IsBackedBy C P accounts k (f c).phase)
        → Held C P accounts B k s.server_state → Held C P accounts B k (in_server_state (with_conn j f) s).server_state
    held_enter j f s is before entropy backed held =
        subst (λ (x : ℕ). Held C P accounts B k (in_server_state (with_conn x f) s).server_state) (sym is)
        (holds_entered C P accounts B k f entropy backed (conn_at k s.server_state) s.server_state.sessions s.server_state.conns refl (held.empty (empties before)) held)

    held_act : (a : Act A) (s : Step A) → IsSteady k i st h a → Held C P accounts B k s.server_state → Held C P accounts B k (act say a s).server_state
    held_act (steps.Say j a) s steady held = held
    held_act (steps.Close j) s steady held = held_shut j s held
    held_act (steps.Enter j p) s steady held = held_enter j (in_phase p) s steady.0 steady.1 (λ c. refl) (λ c. enters p steady.2) held
    held_act (steps.Fail j left) s steady held = held_enter j (after_failure left) s steady.0 steady.1 (λ c. refl) (λ c. tt) held
    held_act (steps.Bind account resource j) s steady held = absurd steady
    held_act (steps.Resume previd account n j) s steady held = absurd steady
    held_act (steps.Enable n resume) s steady held = held_changed n (enables resume) s (λ t. refl) (λ t. refl) held
    held_act (steps.Acknowledge n handled) s steady held = held_changed n (acknowledged handled) s (λ t. refl) (λ t. refl) held
    held_act (steps.Ask n on) s steady held = held_changed n (asks on) s (λ t. refl) (λ t. refl) held
    held_act (steps.Handle n) s steady held = held_changed n handles s (λ t. refl) (λ t. refl) held
    held_act (steps.Present n available priority) s steady held = held_changed n (presents available priority) s (λ t. refl) (λ t. refl) held
    held_act (steps.Copy n on) s steady held = held_changed n (copies on) s (λ t. refl) (λ t. refl) held
    held_act (steps.Send n a) s steady held = held_sent n a (info_of n s.server_state.sessions) s held
    held_act (steps.Archive account e) s steady held = held_archived e account (archive_at account s.server_state) s.server_state held
    held_act (steps.Tell from to origin) s steady held = held

    pub held_calm : (acts : List (Act A)) (s : Step A) → AreCalm say k i st h acts → Held C P accounts B k s.server_state → Held C P accounts B k (acted say acts s).server_state
    held_calm [] s all held = held
    held_calm (a ∷ acts) s all held = held_calm acts (act say a s) all.1 (held_act a s all.0.1 held)

-- ---- a row

ready_phase : (p : Phase) (account : ℕ) → stage_of p ≡ stage.Ready account → p ≡ phase.Ready account
ready_phase phase.Start account is = absurd (cc is)
ready_phase phase.Login account is = absurd (cc is)
ready_phase (phase.Challenge n) account is = absurd (cc is)
ready_phase (phase.Restart a) account is = absurd (cc is)
ready_phase (phase.Ready a) account is = (let same : a ≡ account = cc is in ap phase.Ready same)

restart_phase : (p : Phase) (account : ℕ) → stage_of p ≡ stage.Restart account → p ≡ phase.Restart account
restart_phase phase.Start account is = absurd (cc is)
restart_phase phase.Login account is = absurd (cc is)
restart_phase (phase.Challenge n) account is = absurd (cc is)
restart_phase (phase.Restart a) account is = (let same : a ≡ account = cc is in ap phase.Restart same)
restart_phase (phase.Ready a) account is = absurd (cc is)

challenge_phase : (p : Phase) (n : Negotiation) → negotiation_in p ≡ Some n → p ≡ phase.Challenge n
challenge_phase phase.Start n is = absurd (none-some n is)
challenge_phase phase.Login n is = absurd (none-some n is)
challenge_phase (phase.Challenge m) n is = ap phase.Challenge (same_Some m n is)
challenge_phase (phase.Restart a) n is = absurd (none-some n is)
challenge_phase (phase.Ready a) n is = absurd (none-some n is)

-- before a login no session is on the connection
before_none : {A : Type 0} (k : ℕ) (c : Connection) (cs : List (ℕ × Connection)) (ss : List (Session A)) → lookup (is_number k) cs ≡ Some c → AllByRecursion (IsSeated cs) ss → IsBeforeReady (stage_of c.phase) → NoneAt k ss
before_none {A = A} k c cs ss opened seated before = none_found k ss (off (session_at k ss) refl)
  where
    ready : (t : Session A) → session_at k ss ≡ Some t → ⊥
    ready t is =
        let found = found_has (IsSeated cs) (is_at k) ss t seated is in
        let there = found.1 k (conn_is k t.shown.conn found.0) in
        let same : c ≡ there.0 = same_Some c there.0 (sym opened ∙ there.1) in
        subst IsBeforeReady (ap (λ (x : Connection). stage_of x.phase) same ∙ ap stage_of there.2) before

    off : (o : Option (Session A)) → session_at k ss ≡ o → session_at k ss ≡ None
    off None is = is
    off (Some t) is = absurd (ready t is)

module _ {A : Type 0} (C : ℕ → List ℕ → Type 0) (P : ℕ → ℕ → Type 0) (accounts : List Account) (k : ℕ) (say : ItemOut → A) (i : Item) (c : Connection) (s : Step A) where
  not_before : (account : ℕ) → stage_of c.phase ≡ stage.Ready account → IsBeforeReady (stage_of c.phase) → ⊥
  not_before account ready before = subst IsBeforeReady ready before

  held_row : (acts : List (Act A)) → conn_at k s.server_state ≡ Some c → HaveNumbers s.server_state → ((p : Phase) → MayEnter k i (standing_of c) s.server_state p → IsBackedBy C P accounts k p) → IsRow say k i (standing_of c) s.server_state acts
      → Held C P accounts (IsBeforeReady (stage_of c.phase)) k s.server_state → Held C P accounts (IsBeforeReady (stage_of c.phase)) k (acted say acts s).server_state
  held_row [] opened numbers enters row held = held
  held_row (steps.Bind account resource j ∷ acts) opened numbers enters row held =
      let seats = row.0 in
      let ready : IsReadyAt k account s.server_state.conns = (c, opened, ready_phase c.phase account seats.2) in
      let bound = holds_bound C P accounts (IsBeforeReady (stage_of c.phase)) k s.server_state.next account resource s.server_state.sessions s.server_state.conns (not_before account seats.2) (none_found k s.server_state.sessions seats.1) ready held in
      held_calm C P accounts (IsBeforeReady (stage_of c.phase)) k say i (standing_of c) s.server_state (λ b. b) enters acts (act say (steps.Bind account resource j) s) row.1
      (subst (λ (x : ℕ). Held C P accounts (IsBeforeReady (stage_of c.phase)) k (act say (steps.Bind account resource x) s).server_state) (sym seats.0) bound)
  held_row (steps.Resume previd account n j ∷ acts) opened numbers enters row held =
      let seats = row.0 in
      let ready : IsReadyAt k account s.server_state.conns = (c, opened, ready_phase c.phase account seats.2) in
      let resumed =
      holds_resumed C P accounts (IsBeforeReady (stage_of c.phase)) k n s.server_state.next account previd (session_resumed previd account s.server_state.sessions) s.server_state.sessions s.server_state.conns refl (not_before account seats.2) numbers
      (none_found k s.server_state.sessions seats.1) ready held in
      held_calm C P accounts (IsBeforeReady (stage_of c.phase)) k say i (standing_of c) s.server_state (λ b. b) enters acts (act say (steps.Resume previd account n j) s) row.1
      (subst (λ (x : ℕ). Held C P accounts (IsBeforeReady (stage_of c.phase)) k (act say (steps.Resume previd account n x) s).server_state) (sym seats.0) resumed)
  held_row (a ∷ acts) opened numbers enters row held =
      held_calm C P accounts (IsBeforeReady (stage_of c.phase)) k say i (standing_of c) s.server_state (λ b. b) enters (a ∷ acts) s row held

-- ---- an item

-- no row is under way
abbrev pub Stands : {A : Type 0} → (ℕ → List ℕ → Type 0) → (ℕ → ℕ → Type 0) → List Account → ServerState A → Type 0
Stands C P accounts h = Held C P accounts ⊥ 0 h

-- more is proved
pub stands_more : {A : Type 0} (C D : ℕ → List ℕ → Type 0) (P R : ℕ → ℕ → Type 0) (accounts : List Account) (h : ServerState A) → AllByRecursion (WasDrawn D) h.conns → AllByRecursion (StandsOn D R accounts) h.conns → Stands C P accounts h → Stands D R accounts h
stands_more C D P R accounts h drawn logins stands = record { single = stands.single; seated = stands.seated; drawn = drawn; logins = logins; empty = λ b. absurd b }

backed_more : (C D : ℕ → List ℕ → Type 0) (P R : ℕ → ℕ → Type 0) (accounts : List Account) (k : ℕ) (p : Phase) → ((entropy : List ℕ) → C k entropy → D k entropy) → ((account : ℕ) → P k account → R k account) → IsBackedBy C P accounts k p → IsBackedBy D R accounts k p
backed_more C D P R accounts k phase.Start c f is = tt
backed_more C D P R accounts k phase.Login c f is = tt
backed_more C D P R accounts k (phase.Challenge n) c f is = (is.0, c is.0 is.1, is.2)
backed_more C D P R accounts k (phase.Restart account) c f is = f account is
backed_more C D P R accounts k (phase.Ready account) c f is = f account is

-- of connections of which T says so
pub drawn_more : (C D : ℕ → List ℕ → Type 0) (T : ℕ → Type 0) → ((j : ℕ) (entropy : List ℕ) → T j → C j entropy → D j entropy) → (cs : List (ℕ × Connection)) → AllByRecursion (λ (e : ℕ × Connection). T e.0) cs → AllByRecursion (WasDrawn C) cs → AllByRecursion (WasDrawn D) cs
drawn_more C D T f [] those all = tt
drawn_more C D T f (e ∷ cs) those all = (f e.0 e.1.entropy those.0 all.0, drawn_more C D T f cs those.1 all.1)

pub logins_more : (C D : ℕ → List ℕ → Type 0) (P R : ℕ → ℕ → Type 0) (accounts : List Account) (T : ℕ → Type 0) → ((j : ℕ) (entropy : List ℕ) → T j → C j entropy → D j entropy) → ((j account : ℕ) → T j → P j account → R j account)
    → (cs : List (ℕ × Connection)) → AllByRecursion (λ (e : ℕ × Connection). T e.0) cs → AllByRecursion (StandsOn C P accounts) cs → AllByRecursion (StandsOn D R accounts) cs
logins_more C D P R accounts T f g [] those all = tt
logins_more C D P R accounts T f g (e ∷ cs) those all =
    (backed_more C D P R accounts e.0 e.1.phase (λ entropy is. f e.0 entropy those.0 is) (λ account is. g e.0 account those.0 is) all.0, logins_more C D P R accounts T f g cs those.1 all.1)

pub any_of : (cs : List (ℕ × Connection)) → AllByRecursion (λ (e : ℕ × Connection). Unit {0}) cs
any_of [] = tt
any_of (e ∷ cs) = (tt, any_of cs)

no_element : (e : Elem) → item.Footer ≡ item.Element e → ⊥
no_element e is = absurd (cc is)

-- an item that proves the password of an account on the connection
abbrev pub Proves : {A : Type 0} → (ℕ → List ℕ → Type 0) → List Account → ℕ → Item → ServerState A → ℕ → Type 0
Proves C accounts k i h account = (entropy : List ℕ) × C k entropy × IsProof accounts entropy k account i h

module _ {A : Type 0} (C : ℕ → List ℕ → Type 0) (P : ℕ → ℕ → Type 0) (accounts : List Account) (say : ItemOut → A) (k : ℕ) where
  module _ (i : Item) (c : Connection) (h : ServerState A) (opened : conn_at k h ≡ Some c) (same : h.accounts ≡ accounts) where
    proof_of : (account : ℕ) → IsBackedBy C P accounts k c.phase → Answers k i h account → Proves C accounts k i h account
    proof_of account backed answers =
        let n = answers.n in
        let in_hand : negotiation_in c.phase ≡ Some n = sym (ap (option_and_then negotiation_of) opened) ∙ answers.in_hand in
        let awaited : c.phase ≡ phase.Challenge n = challenge_phase c.phase n in_hand in
        let exchange = subst (IsBackedBy C P accounts k) awaited backed in
        let right = (proofs_log_in n answers.element answers.login).0 answers.succeeds in
        let owner : n.account ≡ account = sym (ap (λ (l : LoginView). l.account) right.answers) ∙ answers.account_is in (
          exchange.0,
          exchange.1,
          record {
            conn = c;
            is_open = opened;
            exchange = n;
            awaited = awaited;
            begun = exchange.2;
            with_account = owner;
            element = answers.element;
            is = answers.is;
            login = answers.login;
            right = right;
          },
        )

    enters_so : IsBackedBy C P accounts k c.phase → C k c.entropy → ((account : ℕ) → Proves C accounts k i h account → P k account) → (p : Phase) → MayEnter k i (standing_of c) h p → IsBackedBy C P accounts k p
    enters_so backed drawn proves phase.Start may = tt
    enters_so backed drawn proves phase.Login may = tt
    enters_so backed drawn proves (phase.Challenge n) may = (c.entropy, drawn, subst (λ (a : List Account). IsExchange a c.entropy n) same may)
    enters_so backed drawn proves (phase.Restart account) may = proves account (proof_of account backed may)
    enters_so backed drawn proves (phase.Ready account) may = subst (IsBackedBy C P accounts k) (restart_phase c.phase account may) backed

  stands_open : (i : Item) (s : Step A) (o : Option Connection) → conn_at k s.server_state ≡ o → HaveNumbers s.server_state → s.server_state.accounts ≡ accounts → ((account : ℕ) → Proves C accounts k i s.server_state account → P k account) → Stands C P accounts s.server_state
      → Stands C P accounts (acted say (at_open say k i (option_map standing_of o) s.server_state) s).server_state
  stands_open i s None opened numbers same proves stands = stands
  stands_open i s (Some c) opened numbers same proves stands =
      let backed = at_entry (StandsOn C P accounts) k c s.server_state.conns stands.logins opened in
      let drawn = at_entry (WasDrawn C) k c s.server_state.conns stands.drawn opened in
      let held : Held C P accounts (IsBeforeReady (stage_of c.phase)) k s.server_state =
      record { single = stands.single; seated = stands.seated; drawn = stands.drawn; logins = stands.logins; empty = λ b. before_none k c s.server_state.conns s.server_state.sessions opened stands.seated b } in
      let after = held_row C P accounts k say i c s (at_item say k i (standing_of c) s.server_state) opened numbers (enters_so i c s.server_state opened same backed drawn proves) (row_item say k i (standing_of c) s.server_state numbers) held in
      record { single = after.single; seated = after.seated; drawn = after.drawn; logins = after.logins; empty = λ b. absurd b }

  pub stands_item : (i : Item) (s : Step A) → HaveNumbers s.server_state → s.server_state.accounts ≡ accounts → ((account : ℕ) → Proves C accounts k i s.server_state account → P k account) → Stands C P accounts s.server_state → Stands C P accounts (after_item say k i s).server_state
  stands_item i s numbers same proves stands = stands_open i s (conn_at k s.server_state) refl numbers same proves stands

  -- a fault of the stream
  fault_open : (f : Fault) (s : Step A) (o : Option Connection) → conn_at k s.server_state ≡ o → HaveNumbers s.server_state → s.server_state.accounts ≡ accounts → Stands C P accounts s.server_state → Stands C P accounts (acted say (at_fault say k f (option_map standing_of o) s.server_state) s).server_state
  fault_open f s None opened numbers same stands = stands
  fault_open f s (Some c) opened numbers same stands =
      let backed = at_entry (StandsOn C P accounts) k c s.server_state.conns stands.logins opened in
      let drawn = at_entry (WasDrawn C) k c s.server_state.conns stands.drawn opened in
      let held : Held C P accounts (IsBeforeReady (stage_of c.phase)) k s.server_state =
      record { single = stands.single; seated = stands.seated; drawn = stands.drawn; logins = stands.logins; empty = λ b. before_none k c s.server_state.conns s.server_state.sessions opened stands.seated b } in
      let acts = at_fault say k f (Some (standing_of c)) s.server_state in
      let row = calm_row say k item.Footer (standing_of c) s.server_state acts (calm_ending say k item.Footer (standing_of c) s.server_state (fault_condition f.why)) in
      let after = held_row C P accounts k say item.Footer c s acts opened numbers (enters_so item.Footer c s.server_state opened same backed drawn (λ account proof. absurd (no_element proof.2.element proof.2.is))) row held in
      record { single = after.single; seated = after.seated; drawn = after.drawn; logins = after.logins; empty = λ b. absurd b }

  pub stands_fault : (f : Option Fault) (s : Step A) → HaveNumbers s.server_state → s.server_state.accounts ≡ accounts → Stands C P accounts s.server_state → Stands C P accounts (after_fault say k f s).server_state
  stands_fault None s numbers same stands = stands
  stands_fault (Some f) s numbers same stands = fault_open f s (conn_at k s.server_state) refl numbers same stands
