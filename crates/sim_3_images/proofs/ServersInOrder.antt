-- What a server puts comes in the order of a stream, whatever happens to it.
use Rattle.std.proofs.Common.{◌≡◌, ◌≤◌, ◌+◌, ◌==◌, ℕ, Bool, true, false, cond, not, List, [], ◌∷◌, Option, Some, None, refl, sym, ap, ◌∙◌, arith}
use Rattle.std.specs.BTreeMap.{insert_entry}
use Rattle.std.specs.List.{AllByRecursion, find}
use Rattle.std.specs.Map.{lookup, remove_entry}
use Rattle.std.specs.Option.{option_map}
use Rattle.std.specs.Ordering.{nat_cmp}
use Rattle.srv_state.specs.Moments.{at_moment, fresh_conn, gone_at, with_fresh}
use Rattle.srv_state.specs.State.{Out, Put, ServerState, Shut, Step, Took, changed, conn_at, is_number}
use Rattle.srv_state.specs.Steps.{acted, in_phase}
use Rattle.srv_state.specs.Streams.{answering_header, stage_of, standing_of}
use Rattle.srv_state.specs.declared.connection.Phase.{Phase as ConnPhase}
use Rattle.srv_state.specs.declared.connection.Phase.TheVariants as conn
use Rattle.srv_state.specs.declared.connection.Stage.TheVariants as stage
use Rattle.srv_state.specs.declared.connection.Tries.{Tries}
use Rattle.xml_framer.specs.declared.items.Item.{Item}
use Rattle.xml_framer.specs.declared.items.Item.TheVariants as item
use Rattle.cl_handlers.specs.Clients.{ClientView}
use Rattle.srv_login.specs.Headers.{header_answer}
use Rattle.srv_login.specs.declared.header_judgement.HeaderAnswer.{HeaderAnswer}
use Rattle.srv_login.specs.declared.header_judgement.HeaderAnswer.TheVariants.{Opens, Refused}
use Rattle.cmd_world.specs.Worlds.{server_entropy}
use Rattle.srv_state.specs.declared.connection.Connection.{Connection}
use Rattle.xml_framer.specs.declared.states.Phase.{Phase}
use Rattle.xml_framer.specs.declared.states.Phase.TheVariants as phase
use Rattle.std.proofs.lemmas.Bool.{eq-eqb}
use Rattle.std.proofs.lemmas.Option.{none-some}
use Rattle.sim_3_images.proofs.AloneKept.{all_apart, alone_filtered}
use Rattle.sm_resumption.proofs.StoredFacts.{at_conn}
use Rattle.sm_resumption.specs.Rows.{is_some_number}
use Rattle.sim_3_images.proofs.Beginnings.{first_before}
use Rattle.sim_3_images.proofs.ConnsKept.{absent, all_filtered, differ_inserted, differ_removed, few_inserted, few_removed, removed_none}
use Rattle.sim_3_images.proofs.Lookups.{found_after_removal, found_after_value, found_beside_inserted}
use Rattle.sim_3_images.proofs.RowsInOrder.{IsHeader, item_calm}
use Rattle.sim_3_images.proofs.StepsInOrder.{Calm}
use Rattle.sim_3_images.proofs.WireSteps.{all_mapped}
use Rattle.sim_3_images.specs.EncodingsCores.{AreInOrder, CoresFit, IsInOrder, MayCome, after_put, after_shut, phase_of, writer_at, writer_of}
use Rattle.sim_3_images.specs.EncodingsOwed.{CoresKeep}
use Rattle.sim_3_images.specs.Stands.{Alone, Any, Apart, Conns, Differ, IsAfter, OutPuts, ServerStateStands, SessionStands, StandingServers, writer_in}
use Rattle.sim_3_items.specs.ItemMoves.{step_of}
use Rattle.sim_3_items.specs.ItemWorlds.{itself, read_of}
use Rattle.sm_live.specs.Sessions.{Session, is_at, lost, parked, session_at, with_session, without}
use Rattle.srv_login.specs.declared.account.Account.{Account}
use Rattle.srv_core.specs.Configs.{server_state_at_start}
use Rattle.srv_core.specs.Table.{after_item, at_item, at_open}
use Rattle.xml_writer.specs.Items.{Closing, ItemOut, Opening, Whole}

-- ---- moments, and connections that come and go

pub moment_stands : (n now : ℕ) (h : ServerState ItemOut) → ServerStateStands n h → ServerStateStands n (at_moment now h)
moment_stands n now h c = record { differ = c.differ; few = c.few; sessions = all_filtered (SessionStands h.conns) (SessionStands h.conns) _ h.sessions (λ t x e. x) c.sessions; alone = alone_filtered _ h.sessions c.alone }

more_few : (n : ℕ) (es : Conns) → AllByRecursion (λ (e : ℕ × Connection). e.0 ≤ n) es → AllByRecursion (λ (e : ℕ × Connection). e.0 ≤ n + 1) es
more_few n [] all = tt
more_few n (e ∷ es) all = (let below = all.0 in omega (arith, below), more_few n es all.1)

pub fresh_stands : (n : ℕ) (entropy : List ℕ) (h : ServerState ItemOut) → ServerStateStands n h → ServerStateStands (n + 1) (with_fresh (n + 1) entropy h)
fresh_stands n entropy h c = record {
  differ = differ_inserted (n + 1) (fresh_conn entropy) h.conns (absent n h.conns c.few) c.differ;
  few = few_inserted (n + 1) (n + 1) (fresh_conn entropy) h.conns (omega arith) (more_few n h.conns c.few);
  sessions = all_mapped (SessionStands h.conns) (SessionStands (insert_entry nat_cmp h.conns (n + 1) (fresh_conn entropy))) (λ t x. record { on = on t.shown.conn x.on; words = x.words }) h.sessions c.sessions;
  alone = c.alone;
}
  where
    none_is_not : (o : Option Phase) → o ≡ None → o ≡ Some phase.Between → ⊥
    none_is_not o e f = cc

    on : (o : Option ℕ) → IsAfter h.conns o → IsAfter (insert_entry nat_cmp h.conns (n + 1) (fresh_conn entropy)) o
    on None x = tt
    on (Some q) x = ap (option_map writer_of) (found_beside_inserted q (n + 1) (fresh_conn entropy) h.conns (λ same. none_is_not (writer_in q h.conns) (ap (λ m. writer_in m h.conns) same ∙ ap (option_map writer_of) (absent n h.conns c.few)) x)) ∙ x

-- behind a connection that is gone
gone_on : (k : ℕ) (conns : Conns) (o : Option ℕ) → is_some_number k o ≡ false → IsAfter conns o → IsAfter (remove_entry (is_number k) conns) o
gone_on k conns None e x = tt
gone_on k conns (Some q) e x = ap (option_map writer_of) (found_after_removal q k conns (λ same. true_is_not (sym (eq-eqb q k same) ∙ e))) ∙ x
  where
    true_is_not : true ≡ false → ⊥
    true_is_not x = cc

one_number : (k : ℕ) (l : List (Session ItemOut)) (u : Session ItemOut) → Alone l → find (is_at k) l ≡ Some u → AllByRecursion (λ (t : Session ItemOut). is_at k t ≡ true → t.shown.number ≡ u.shown.number) l
one_number k [] u a found = tt
one_number k (x ∷ l) u a found = by (one_number k l u a.1) (is_at k x) refl found
  where
    some_is : {T : Type 0} (x y : T) → Some x ≡ Some y → x ≡ y
    some_is x y e = cc

    both : (b : Bool) → b ≡ true → b ≡ false → ⊥
    both b t f = true_is_not (sym t ∙ f)
      where
        true_is_not : true ≡ false → ⊥
        true_is_not e = cc

    by : (find (is_at k) l ≡ Some u → AllByRecursion (λ (t : Session ItemOut). is_at k t ≡ true → t.shown.number ≡ u.shown.number) l) → (b : Bool) → is_at k x ≡ b → cond b (Some x) (find (is_at k) l) ≡ Some u
        → AllByRecursion (λ (t : Session ItemOut). is_at k t ≡ true → t.shown.number ≡ u.shown.number) (x ∷ l)
    by rest true e found =
        let same : x ≡ u = some_is x u found in (
          (λ _. ap (λ (t : Session ItemOut). t.shown.number) same),
          all_mapped (Apart x) (λ (t : Session ItemOut). is_at k t ≡ true → t.shown.number ≡ u.shown.number)
              (λ t p at. sym (p k (at_conn k x.shown.conn e) (at_conn k t.shown.conn at)) ∙ ap (λ (t : Session ItemOut). t.shown.number) same) l a.0,
        )
    by rest false e found = ((λ at. absurd (both (is_at k x) at e)), rest found)

record Gone (k m : ℕ) (conns : Conns) (t : Session ItemOut) : Type 0 where
  stands : SessionStands conns t
  numbered : is_at k t ≡ true → t.shown.number ≡ m

gone_both : (k m : ℕ) (conns : Conns) (l : List (Session ItemOut)) → AllByRecursion (SessionStands conns) l → AllByRecursion (λ (t : Session ItemOut). is_at k t ≡ true → t.shown.number ≡ m) l → AllByRecursion (Gone k m conns) l
gone_both k m conns [] a b = tt
gone_both k m conns (t ∷ l) a b = (record { stands = a.0; numbered = b.0 }, gone_both k m conns l a.1 b.1)

-- a session with another number is on another connection, or on none
other_on : (k m : ℕ) (conns : Conns) (t : Session ItemOut) → (t.shown.number == m) ≡ false → Gone k m conns t → SessionStands (remove_entry (is_number k) conns) t
other_on k m conns t other g = record { on = gone_on k conns t.shown.conn (by (is_at k t) refl) g.stands.on; words = g.stands.words }
  where
    true_is_not : true ≡ false → ⊥
    true_is_not e = cc

    by : (b : Bool) → is_at k t ≡ b → is_at k t ≡ false
    by true e = absurd (true_is_not (sym (eq-eqb t.shown.number m (g.numbered e)) ∙ other))
    by false e = e

parked_all : (now k m : ℕ) (conns : Conns) (l : List (Session ItemOut)) → AllByRecursion (Gone k m conns) l → AllByRecursion (SessionStands (remove_entry (is_number k) conns)) (with_session m (parked now) l)
parked_all now k m conns [] a = tt
parked_all now k m conns (t ∷ l) a = (by (t.shown.number == m) refl, parked_all now k m conns l a.1)
  where
    by : (b : Bool) → (t.shown.number == m) ≡ b → SessionStands (remove_entry (is_number k) conns) (cond b (parked now t) t)
    by true e = (let g = a.0 in record { on = tt; words = g.stands.words })
    by false e = other_on k m conns t e a.0

parked_pair : (now : ℕ) (t u : Session ItemOut) (b c : Bool) → Apart t u → Apart (cond b (parked now t) t) (cond c (parked now u) u)
parked_pair now t u true c a q x y = absurd (none-some q x)
parked_pair now t u false true a q x y = absurd (none-some q y)
parked_pair now t u false false a q x y = a q x y

parked_with : (now m : ℕ) (t : Session ItemOut) (b : Bool) (l : List (Session ItemOut)) → AllByRecursion (Apart t) l → AllByRecursion (Apart (cond b (parked now t) t)) (with_session m (parked now) l)
parked_with now m t b [] a = tt
parked_with now m t b (u ∷ l) a = (parked_pair now t u b (u.shown.number == m) a.0, parked_with now m t b l a.1)

parked_alone : (now m : ℕ) (l : List (Session ItemOut)) → Alone l → Alone (with_session m (parked now) l)
parked_alone now m [] a = tt
parked_alone now m (t ∷ l) a = (parked_with now m t (t.shown.number == m) l a.0, parked_alone now m l a.1)

lost_stands : (now k : ℕ) (conns : Conns) (l : List (Session ItemOut)) (o : Option (Session ItemOut)) → session_at k l ≡ o → AllByRecursion (SessionStands conns) l → Alone l → AllByRecursion (SessionStands (remove_entry (is_number k) conns)) (lost now o l) × Alone (lost now o l)
lost_stands now k conns l None found all a =
    (gone_none l all (all_apart (is_at k) l found), a)
  where
    gone_none : (l : List (Session ItemOut)) → AllByRecursion (SessionStands conns) l → AllByRecursion (λ (t : Session ItemOut). is_at k t ≡ false) l → AllByRecursion (SessionStands (remove_entry (is_number k) conns)) l
    gone_none [] all none = tt
    gone_none (t ∷ l) all none = ((let x = all.0 in record { on = gone_on k conns t.shown.conn none.0 x.on; words = x.words }), gone_none l all.1 none.1)
lost_stands now k conns l (Some u) found all a = by u.shown.resumable
  where
    each : AllByRecursion (Gone k u.shown.number conns) l
    each = gone_both k u.shown.number conns l all (one_number k l u a found)

    not_true : (b : Bool) → not b ≡ true → b ≡ false
    not_true true e = absurd (true_is_not (sym e))
      where
        true_is_not : true ≡ false → ⊥
        true_is_not e = cc
    not_true false e = refl

    by : (b : Bool) → AllByRecursion (SessionStands (remove_entry (is_number k) conns)) (cond b (with_session u.shown.number (parked now) l) (without u.shown.number l)) × Alone (cond b (with_session u.shown.number (parked now) l) (without u.shown.number l))
    by true = (parked_all now k u.shown.number conns l each, parked_alone now u.shown.number l a)
    by false = (
      all_filtered (Gone k u.shown.number conns) (SessionStands (remove_entry (is_number k) conns)) (λ t. not (t.shown.number == u.shown.number)) l (λ t x e. other_on k u.shown.number conns t (not_true (t.shown.number == u.shown.number) e) x) each,
      alone_filtered (λ t. not (t.shown.number == u.shown.number)) l a,
    )

pub gone_stands : (n k : ℕ) (h : ServerState ItemOut) → ServerStateStands n h → ServerStateStands n (gone_at k h)
gone_stands n k h c =
    let x = lost_stands h.moment k h.conns h.sessions (session_at k h.sessions) refl c.sessions c.alone in
    record { differ = differ_removed k h.conns c.differ; few = few_removed n k h.conns c.few; sessions = x.0; alone = x.1 }

-- ---- the beginning, and items

pub start_stands : (n : ℕ) (domain : List ℕ) (accounts : List Account) (keep : ℕ) → ServerStateStands n (server_state_at_start domain accounts keep)
start_stands n domain accounts keep = record { differ = tt; few = tt; sessions = tt; alone = tt }

begun_calm : (n : ℕ) (h : ServerState ItemOut) → ServerStateStands n h → Calm n (λ j. writer_at j h) (step_of h)
begun_calm n h c = record { order = λ j. refl; stands = c }

may_come : (i : ItemOut) (now : Option Phase) → MayCome now i → now ≡ Some phase.First → IsHeader (read_of i)
may_come (Opening h) now may first = tt
may_come (Whole e) now may first = may first
may_come Closing now may first = may first

pub after_item_calm : (n k : ℕ) (i : ItemOut) (h : ServerState ItemOut) → ServerStateStands n h → MayCome (writer_at k h) i → Calm n (λ j. writer_at j h) (after_item itself k (read_of i) (step_of h))
after_item_calm n k i h c may = item_calm n (λ j. writer_at j h) k (read_of i) (step_of h) (may_come i (writer_at k h) may) (begun_calm n h c)

-- ---- what fits, in order

in_order_fits : (Fits : ItemOut → Type 0) (b : Bool) (now : Option Phase) (i : ItemOut) → Fits i → IsInOrder Any b now i → IsInOrder Fits b now i
in_order_fits Fits false now i fits x = tt
in_order_fits Fits true None i fits x = x
in_order_fits Fits true (Some p) i fits x = (x.0, fits)

pub fitting_in_order : (Fits : ItemOut → Type 0) (j : ℕ) (now later : Option Phase) (outs : List (Out ItemOut)) → AllByRecursion (OutPuts Fits) outs → AreInOrder Any j now outs later → AreInOrder Fits j now outs later
fitting_in_order Fits j now later [] fit order = order
fitting_in_order Fits j now later (Put k i ∷ outs) fit order = (in_order_fits Fits (is_number j k) now i fit.0 order.0, fitting_in_order Fits j (after_put (is_number j k) now i) later outs fit.1 order.1)
fitting_in_order Fits j now later (Shut k ∷ outs) fit order = fitting_in_order Fits j (after_shut (is_number j k) now) later outs fit.1 order
fitting_in_order Fits j now later (Took from to origin ∷ outs) fit order = fitting_in_order Fits j now later outs fit.1 order

-- ---- the first header

first_is_not : (o : Option Phase) → o ≡ Some phase.First → o ≡ Some phase.Between → ⊥
first_is_not o e f = cc

none_is_not : (o : Option Phase) → o ≡ Some phase.First → o ≡ None → ⊥
none_is_not o e f = cc

answered : (k : ℕ) (left : Tries) (entropy : List ℕ) (a : HeaderAnswer) (s : Step ItemOut) (x : Connection) → lookup (is_number k) s.server_state.conns ≡ Some x → Differ s.server_state.conns
    → writer_in k (acted itself (answering_header itself k (record { stage = stage.Start; tries = left; entropy = entropy }) a s.server_state) s).server_state.conns ≡ Some phase.First → ⊥
answered k left entropy Opens s x found d first =
    first_is_not (writer_in k (changed k (in_phase conn.Login) (conn_at k s.server_state) s.server_state.conns)) first
    (ap (λ o. writer_in k (changed k (in_phase conn.Login) o s.server_state.conns)) found ∙ ap (option_map writer_of) (found_after_value k s.server_state.conns x (in_phase conn.Login x) found))
answered k left entropy (Refused why) s x found d first = none_is_not (writer_in k (remove_entry (is_number k) s.server_state.conns)) first (ap (option_map writer_of) (removed_none k s.server_state.conns d))

between_is_not : Some phase.Between ≡ Some phase.First → ⊥
between_is_not e = cc

opened_row : (k : ℕ) (i : Item) (p : ConnPhase) (left : Tries) (entropy : List ℕ) (s : Step ItemOut) (x : Connection) → lookup (is_number k) s.server_state.conns ≡ Some x → Differ s.server_state.conns → Some (phase_of p) ≡ Some phase.First → IsHeader i
    → writer_in k (acted itself (at_item itself k i (record { stage = stage_of p; tries = left; entropy = entropy }) s.server_state) s).server_state.conns ≡ Some phase.First → ⊥
opened_row k (item.Header at h) conn.Start left entropy s x found d here header first = answered k left entropy (header_answer s.server_state.domain h) s x found d first
opened_row k (item.Element e) conn.Start left entropy s x found d here header first = absurd header
opened_row k item.Footer conn.Start left entropy s x found d here header first = absurd header
opened_row k i conn.Login left entropy s x found d here header first = between_is_not here
opened_row k i (conn.Challenge m) left entropy s x found d here header first = between_is_not here
opened_row k i (conn.Restart account) left entropy s x found d here header first = between_is_not here
opened_row k i (conn.Ready account) left entropy s x found d here header first = between_is_not here

pub opened_after : (n k : ℕ) (i : ItemOut) (h : ServerState ItemOut) → ServerStateStands n h → MayCome (writer_at k h) i → writer_at k (after_item itself k (read_of i) (step_of h)).server_state ≡ Some phase.First → ⊥
opened_after n k i h c may first = by (conn_at k h) refl first
  where
    nothing : None ≡ Some phase.First → ⊥
    nothing e = cc

    before : writer_at k h ≡ Some phase.First
    before = first_before Any k (after_item itself k (read_of i) (step_of h)).outs (writer_at k h) (writer_at k (after_item itself k (read_of i) (step_of h)).server_state) ((after_item_calm n k i h c may).order k) first

    by : (o : Option Connection) → conn_at k h ≡ o → writer_in k (acted itself (at_open itself k (read_of i) (option_map standing_of o) h) (step_of h)).server_state.conns ≡ Some phase.First → ⊥
    by None found e = nothing (sym (ap (option_map writer_of) found) ∙ before)
    by (Some x) found e = opened_row k (read_of i) x.phase x.tries x.entropy (step_of h) x found c.differ (sym (ap (option_map writer_of) found) ∙ before) (may_come i (writer_at k h) may before) e

-- ---- what is owed, of what a server keeps alone

pub cores_fit : (UpFits DownFits : ItemOut → Type 0) (ServerKeeps : ServerState ItemOut → Type 0) (ClientFits : ClientView ItemOut → Type 0) → CoresKeep UpFits DownFits ServerKeeps ClientFits
    → CoresFit UpFits DownFits (StandingServers ServerKeeps) ClientFits
cores_fit UpFits DownFits ServerKeeps ClientFits keep = record {
  up_limits = keep.up_limits;
  down_limits = keep.down_limits;
  footer = keep.footer;
  moment = λ n now h x. (moment_stands n now h x.0, keep.moment now h x.1);
  comes = λ n h x. (fresh_stands n (server_entropy (n + 1)) h x.0, keep.comes (n + 1) h x.1);
  goes = λ n k h x. (gone_stands n k h x.0, keep.goes k h x.1);
  handles = λ n k i h x few fits may. ((after_item_calm n k i h x.0 may).stands, keep.handles k i h x.1 fits);
  in_order = λ n k i h j x few fits may.
      fitting_in_order DownFits j (writer_at j h) (writer_at j (after_item itself k (read_of i) (step_of h)).server_state) (after_item itself k (read_of i) (step_of h)).outs (keep.puts k i h x.1 fits) ((after_item_calm n k i h x.0 may).order j);
  opened = λ n k i h x few fits may. opened_after n k i h x.0 may;
  client = keep.client;
}
