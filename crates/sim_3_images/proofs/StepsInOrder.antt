-- Each small step of a server leaves it so that what it put came in the order of a stream.
use Rattle.std.proofs.Common.{◌≡◌, ◌≢◌, ◌≤◌, ◌==◌, ℕ, Bool, true, false, cond, not, List, [], ◌∷◌, ◌++◌, Option, Some, None, refl, sym, ap, subst, ◌∙◌, append_assoc}
use Rattle.std.proofs.lemmas.Bool.{eq-eqb}
use Rattle.std.proofs.lemmas.Option.{same_Some}
use Rattle.std.specs.List.{AllByRecursion}
use Rattle.std.specs.Map.{lookup, remove_entry, set_value}
use Rattle.std.specs.Option.{option_map}
use Rattle.sm_acks.specs.Counters.{ahead}
use Rattle.sm_acks.specs.declared.end.TheConstants.{MOST_UNACKNOWLEDGED}
use Rattle.mam_archive.specs.Entries.{EntryView}
use Rattle.law_limits.proofs.TurnsKept.{All-drop}
use Rattle.srv_state.specs.State.{Kept, Put, ServerState, Shut, Step, Took, archive_at, changed, conn_at, is_number, with_conn, with_sessions}
use Rattle.srv_state.specs.Steps as steps
use Rattle.srv_state.specs.Steps.{Act, act, acted, archived_in, ask_where, in_phase, in_server_state, in_sessions, is_due, overflow, part, part_where, put, put_where, queue, send, send_by_info, shut, told_out}
use Rattle.srv_state.specs.declared.connection.Connection.{Connection}
use Rattle.xml_framer.specs.declared.states.Phase.{Phase}
use Rattle.xml_framer.specs.declared.states.Phase.TheVariants as phase
use Rattle.law_xml.proofs.PlainElements.{append_each}
use Rattle.sim_3_images.proofs.AloneKept.{Keeps, NoneAt, alone_changed, alone_filtered, alone_joined, alone_resumed}
use Rattle.sim_3_images.proofs.ConnsKept.{all_filtered, all_found, differ_removed, differ_set, few_removed, few_set, not_itself, removed_none}
use Rattle.sim_3_images.proofs.ItemsServed.{order_joined}
use Rattle.sim_3_images.proofs.Lookups.{found_after_other_value, found_after_removal, found_after_value, number_is}
use Rattle.sim_3_images.proofs.WireSteps.{all_mapped}
use Rattle.sim_3_images.specs.EncodingsCores.{AreInOrder, IsInOrder, IsNoFooter, after_put, after_shut, writer_of}
use Rattle.sim_3_images.specs.Stands.{Any, Conns, Differ, ServerStateStands, IsAfter, SessionStands, Alone, writer_in}
use Rattle.sim_3_items.specs.ItemWorlds.{itself}
use Rattle.sm_live.specs.Sessions.{Session, acknowledged, after_resume, asks, fresh, info_of, is_at, is_numbered, is_too_high, less, resumes, session_named, session_of, session_resumed, told, waits, with_session, without, without_at}
use Rattle.sm_live.specs.declared.told.SessionInfo.{SessionInfo}
use Rattle.xml_names.specs.declared.headers.Header.{Header}
use Rattle.im_replies.specs.Management.{request_item}
use Rattle.im_replies.specs.Streams.{error_item}
use Rattle.im_replies.specs.declared.conditions.StreamCondition.{StreamCondition}
use Rattle.im_replies.specs.declared.conditions.StreamCondition.TheVariants.{ResourceConstraint}
use Rattle.sm_resumption.specs.Rows.{is_some_number}
use Rattle.xml_writer.specs.Items.{Closing, ItemOut, Opening}

-- so far all came in order, and the server stands
pub record Calm (n : ℕ) (start : ℕ → Option Phase) (s : Step ItemOut) : Type 0 where
  pub order : (j : ℕ) → AreInOrder Any j (start j) s.outs (writer_in j s.server_state.conns)
  pub stands : ServerStateStands n s.server_state

first_is_not : Some phase.First ≡ Some phase.Between → ⊥
first_is_not e = cc

module _ (n : ℕ) (start : ℕ → Option Phase) where
  -- ---- what is put

  pub put_word : (s : Step ItemOut) (k : ℕ) (i : ItemOut) → writer_in k s.server_state.conns ≡ Some phase.Between → IsNoFooter i → Calm n start s → Calm n start (put k i s)
  put_word s k i on word c = record {
    order = λ j. order_joined Any j (start j) (writer_in j s.server_state.conns) (writer_in j s.server_state.conns) s.outs (Put k i ∷ []) (c.order j) (by j (is_number j k) refl);
    stands = c.stands;
  }
    where
      by : (j : ℕ) (b : Bool) → is_number j k ≡ b → IsInOrder Any b (writer_in j s.server_state.conns) i × (after_put b (writer_in j s.server_state.conns) i ≡ writer_in j s.server_state.conns)
      by j false e = (tt, refl)
      by j true e = subst (λ o. IsInOrder Any true o i × (after_put true o i ≡ o)) (sym (ap (λ m. writer_in m s.server_state.conns) (number_is j k e) ∙ on)) ((tt, tt), ap Some word)

  pub put_where_word : (s : Step ItemOut) (o : Option ℕ) (i : ItemOut) → IsAfter s.server_state.conns o → IsNoFooter i → Calm n start s → Calm n start (put_where o i s)
  put_where_word s None i on word c = c
  put_where_word s (Some k) i on word c = put_word s k i on word c

  -- ---- a connection that is shut

  after_other : (k : ℕ) (conns : Conns) (o : Option ℕ) → IsAfter conns o → not (is_some_number k o) ≡ true → IsAfter (remove_entry (is_number k) conns) o
  after_other k conns None on e = tt
  after_other k conns (Some q) on e = ap (option_map writer_of) (found_after_removal q k conns (apart q e)) ∙ on
    where
      apart : (q : ℕ) → not (q == k) ≡ true → q ≢ k
      apart q e same = true_is_not (sym e ∙ ap not (eq-eqb q k same))
        where
          true_is_not : true ≡ false → ⊥
          true_is_not x = cc

  stands_shut : (k : ℕ) (h : ServerState ItemOut) → ServerStateStands n h → ServerStateStands n (with_sessions (without_at k h.sessions) (record h { conns = remove_entry (is_number k) h.conns }))
  stands_shut k h c = record {
    differ = differ_removed k h.conns c.differ;
    few = few_removed n k h.conns c.few;
    sessions = all_filtered (SessionStands h.conns) (SessionStands (remove_entry (is_number k) h.conns)) (λ t. not (is_at k t)) h.sessions (λ t x e. record { on = after_other k h.conns t.shown.conn x.on e; words = x.words }) c.sessions;
    alone = alone_filtered (λ t. not (is_at k t)) h.sessions c.alone;
  }

  -- where the writer stands behind a removal
  writer_removed : (k : ℕ) (conns : Conns) → Differ conns → (j : ℕ) (b : Bool) → is_number j k ≡ b → after_shut b (writer_in j conns) ≡ writer_in j (remove_entry (is_number k) conns)
  writer_removed k conns d j false e = sym (ap (option_map writer_of) (found_after_removal j k conns (λ same. not_itself j k e (sym same))))
  writer_removed k conns d j true e = sym (ap (λ m. writer_in m (remove_entry (is_number k) conns)) (number_is j k e) ∙ ap (option_map writer_of) (removed_none k conns d))

  -- where the connection that is shut is looked at, what stood there is forgotten
  shut_forgets : (b : Bool) (o p : Option Phase) → after_shut b o ≡ p → (q : Option Phase) → (b ≡ false → q ≡ o) → after_shut b q ≡ p
  shut_forgets true o p e q same = e
  shut_forgets false o p e q same = same refl ∙ e

  pub shut_footer : (s : Step ItemOut) (k : ℕ) → writer_in k s.server_state.conns ≡ Some phase.Between → Calm n start s → Calm n start (shut k (put k Closing s))
  shut_footer s k on c = record {
    order = λ j.
        let now = writer_in j s.server_state.conns in
        let later = writer_in j (remove_entry (is_number k) s.server_state.conns) in
        let middle = after_put (is_number j k) now Closing in
        order_joined Any j (start j) middle later (s.outs ++ Put k Closing ∷ []) (Shut k ∷ [])
        (order_joined Any j (start j) now middle s.outs (Put k Closing ∷ []) (c.order j) (by j (is_number j k) refl, refl))
        (shut_forgets (is_number j k) now later (writer_removed k s.server_state.conns c.stands.differ j (is_number j k) refl) middle (λ e. ap (λ b. after_put b now Closing) e));
    stands = stands_shut k s.server_state c.stands;
  }
    where
      by : (j : ℕ) (b : Bool) → is_number j k ≡ b → IsInOrder Any b (writer_in j s.server_state.conns) Closing
      by j false e = tt
      by j true e = subst (λ o. IsInOrder Any true o Closing) (sym (ap (λ m. writer_in m s.server_state.conns) (number_is j k e) ∙ on)) (tt, tt)

  pub part_calm : (s : Step ItemOut) (k : ℕ) (error : ItemOut) → writer_in k s.server_state.conns ≡ Some phase.Between → IsNoFooter error → Calm n start s → Calm n start (part itself k error s)
  part_calm s k error on word c = shut_footer (put k error s) k on (put_word s k error on word c)

  pub part_where_calm : (s : Step ItemOut) (o : Option ℕ) (error : ItemOut) → IsAfter s.server_state.conns o → IsNoFooter error → Calm n start s → Calm n start (part_where itself o error s)
  part_where_calm s None error on word c = c
  part_where_calm s (Some k) error on word c = part_calm s k error on word c

  -- before its header a stream ends behind one
  pub ends_first : (s : Step ItemOut) (k : ℕ) (h : Header) (e : StreamCondition) → writer_in k s.server_state.conns ≡ Some phase.First → Calm n start s → Calm n start (shut k (put k Closing (put k (error_item e) (put k (Opening h) s))))
  ends_first s k h e on c = record {
    order = λ j. subst (λ l. AreInOrder Any j (start j) l (writer_in j (remove_entry (is_number k) s.server_state.conns))) (sym joined)
        (order_joined Any j (start j) (writer_in j s.server_state.conns) (writer_in j (remove_entry (is_number k) s.server_state.conns)) s.outs (Put k (Opening h) ∷ Put k (error_item e) ∷ Put k Closing ∷ Shut k ∷ []) (c.order j) (by j (is_number j k) refl));
    stands = stands_shut k s.server_state c.stands;
  }
    where
      joined : (((s.outs ++ Put k (Opening h) ∷ []) ++ Put k (error_item e) ∷ []) ++ Put k Closing ∷ []) ++ Shut k ∷ [] ≡ s.outs ++ (Put k (Opening h) ∷ Put k (error_item e) ∷ Put k Closing ∷ Shut k ∷ [])
      joined =
          append_assoc ((s.outs ++ Put k (Opening h) ∷ []) ++ Put k (error_item e) ∷ []) (Put k Closing ∷ []) (Shut k ∷ [])
          ∙ append_assoc (s.outs ++ Put k (Opening h) ∷ []) (Put k (error_item e) ∷ []) (Put k Closing ∷ Shut k ∷ [])
          ∙ append_assoc s.outs (Put k (Opening h) ∷ []) (Put k (error_item e) ∷ Put k Closing ∷ Shut k ∷ [])

      by : (j : ℕ) (b : Bool) → is_number j k ≡ b → IsInOrder Any b (writer_in j s.server_state.conns) (Opening h) × (IsInOrder Any b (after_put b (writer_in j s.server_state.conns) (Opening h)) (error_item e)
          × (IsInOrder Any b (after_put b (after_put b (writer_in j s.server_state.conns) (Opening h)) (error_item e)) Closing
          × (after_shut b (after_put b (after_put b (after_put b (writer_in j s.server_state.conns) (Opening h)) (error_item e)) Closing) ≡ writer_in j (remove_entry (is_number k) s.server_state.conns))))
      by j false x = (tt, (tt, (tt, writer_removed k s.server_state.conns c.stands.differ j false x)))
      by j true x = (subst (λ o. IsInOrder Any true o (Opening h)) (sym (ap (λ m. writer_in m s.server_state.conns) (number_is j k x) ∙ on)) (tt, tt), ((tt, tt), ((tt, tt), writer_removed k s.server_state.conns c.stands.differ j true x)))

  -- ---- a connection that stands in another phase

  new_conns : (s : Step ItemOut) (conns : Conns) → Differ conns → AllByRecursion (λ (e : ℕ × Connection). e.0 ≤ n) conns → ((j : ℕ) → writer_in j conns ≡ writer_in j s.server_state.conns) → Calm n start s → Calm n start (record s { server_state = record s.server_state { conns = conns } })
  new_conns s conns d few same c = record {
    order = λ j. subst (AreInOrder Any j (start j) s.outs) (sym (same j)) (c.order j);
    stands = record { differ = d; few = few; sessions = all_mapped (SessionStands s.server_state.conns) (SessionStands conns) (λ t x. record { on = on t.shown.conn x.on; words = x.words }) s.server_state.sessions c.stands.sessions; alone = c.stands.alone };
  }
    where
      on : (o : Option ℕ) → IsAfter s.server_state.conns o → IsAfter conns o
      on None x = tt
      on (Some q) x = same q ∙ x

  set_writer : (k j : ℕ) (conns : Conns) (c c' : Connection) → lookup (is_number k) conns ≡ Some c → writer_in j (set_value (is_number k) conns c') ≡ cond (is_number j k) (Some (writer_of c')) (writer_in j conns)
  set_writer k j conns c c' found = by (is_number j k) refl
    where
      by : (b : Bool) → is_number j k ≡ b → writer_in j (set_value (is_number k) conns c') ≡ cond b (Some (writer_of c')) (writer_in j conns)
      by true e = ap (λ m. writer_in m (set_value (is_number k) conns c')) (number_is j k e) ∙ ap (option_map writer_of) (found_after_value k conns c c' found)
      by false e = ap (option_map writer_of) (found_after_other_value j k conns c' (λ same. not_itself j k e (sym same)))

  pub entered : (s : Step ItemOut) (k : ℕ) (f : Connection → Connection) → ((c : Connection) → writer_of (f c) ≡ phase.Between) → writer_in k s.server_state.conns ≡ Some phase.Between → Calm n start s → Calm n start (in_server_state (with_conn k f) s)
  entered s k f between on c = by (conn_at k s.server_state) refl
    where
      by : (o : Option Connection) → conn_at k s.server_state ≡ o → Calm n start (record s { server_state = record s.server_state { conns = changed k f o s.server_state.conns } })
      by None found = c
      by (Some x) found = new_conns s (set_value (is_number k) s.server_state.conns (f x)) (differ_set k (f x) s.server_state.conns c.stands.differ) (few_set n k (f x) s.server_state.conns c.stands.few) (λ j. set_writer k j s.server_state.conns x (f x) found ∙ same j x (is_number j k) refl) c
        where
          same : (j : ℕ) (x : Connection) (b : Bool) → is_number j k ≡ b → cond b (Some (writer_of (f x))) (writer_in j s.server_state.conns) ≡ writer_in j s.server_state.conns
          same j x true e = ap Some (between x) ∙ sym (ap (λ m. writer_in m s.server_state.conns) (number_is j k e) ∙ on)
          same j x false e = refl

  -- the header and what can be negotiated, and then the connection is behind its header
  pub opens_first : (s : Step ItemOut) (k : ℕ) (h : Header) (features : ItemOut) (f : Connection → Connection) (x : Connection) → lookup (is_number k) s.server_state.conns ≡ Some x → writer_of x ≡ phase.First → writer_of (f x) ≡ phase.Between → IsNoFooter features → Calm n start s
      → Calm n start (in_server_state (with_conn k f) (put k features (put k (Opening h) s)))
  opens_first s k h features f x found first between word c =
      subst (λ o. Calm n start (record (put k features (put k (Opening h) s)) { server_state = record s.server_state { conns = changed k f o s.server_state.conns } })) (sym found) (record {
        order = λ j. subst (λ l. AreInOrder Any j (start j) l (writer_in j (set_value (is_number k) s.server_state.conns (f x)))) (sym (append_assoc s.outs (Put k (Opening h) ∷ []) (Put k features ∷ [])))
            (order_joined Any j (start j) (writer_in j s.server_state.conns) (writer_in j (set_value (is_number k) s.server_state.conns (f x))) s.outs (Put k (Opening h) ∷ Put k features ∷ []) (c.order j) (by j (is_number j k) refl));
        stands = record {
          differ = differ_set k (f x) s.server_state.conns c.stands.differ;
          few = few_set n k (f x) s.server_state.conns c.stands.few;
          sessions = all_mapped (SessionStands s.server_state.conns) (SessionStands (set_value (is_number k) s.server_state.conns (f x))) (λ t y. record { on = after_still t.shown.conn y.on; words = y.words }) s.server_state.sessions c.stands.sessions;
          alone = c.stands.alone;
        };
      })
    where
      here : writer_in k s.server_state.conns ≡ Some phase.First
      here = ap (option_map writer_of) found ∙ ap Some first

      after_still : (o : Option ℕ) → IsAfter s.server_state.conns o → IsAfter (set_value (is_number k) s.server_state.conns (f x)) o
      after_still None on = tt
      after_still (Some q) on = ap (option_map writer_of) (found_after_other_value q k s.server_state.conns (f x) (λ same. first_is_not (sym here ∙ ap (λ m. writer_in m s.server_state.conns) (sym same) ∙ on))) ∙ on

      by : (j : ℕ) (b : Bool) → is_number j k ≡ b → IsInOrder Any b (writer_in j s.server_state.conns) (Opening h)
          × (IsInOrder Any b (after_put b (writer_in j s.server_state.conns) (Opening h)) features × (after_put b (after_put b (writer_in j s.server_state.conns) (Opening h)) features ≡ writer_in j (set_value (is_number k) s.server_state.conns (f x))))
      by j false e = (tt, (tt, sym (set_writer k j s.server_state.conns x (f x) found ∙ ap (λ b. cond b (Some (writer_of (f x))) (writer_in j s.server_state.conns)) e)))
      by j true e = (
        subst (λ o. IsInOrder Any true o (Opening h)) (sym (ap (λ m. writer_in m s.server_state.conns) (number_is j k e) ∙ here)) (tt, tt),
        ((tt, tt), ap Some (word ∙ sym between) ∙ sym (set_writer k j s.server_state.conns x (f x) found ∙ ap (λ b. cond b (Some (writer_of (f x))) (writer_in j s.server_state.conns)) e)),
      )

  -- ---- sessions

  pub new_sessions : (s : Step ItemOut) (sessions : List (Session ItemOut)) → AllByRecursion (SessionStands s.server_state.conns) sessions → Alone sessions → Calm n start s → Calm n start (record s { server_state = with_sessions sessions s.server_state })
  new_sessions s sessions all alone c = record { order = c.order; stands = record { differ = c.stands.differ; few = c.stands.few; sessions = all; alone = alone } }

  all_changed : (conns : Conns) (m : ℕ) (f : Session ItemOut → Session ItemOut) (l : List (Session ItemOut)) → ((t : Session ItemOut) → SessionStands conns t → SessionStands conns (f t)) → AllByRecursion (SessionStands conns) l → AllByRecursion (SessionStands conns) (with_session m f l)
  all_changed conns m f [] keeps all = tt
  all_changed conns m f (t ∷ l) keeps all = (by (t.shown.number == m), all_changed conns m f l keeps all.1)
    where
      by : (b : Bool) → SessionStands conns (cond b (f t) t)
      by true = keeps t all.0
      by false = all.0

  pub session_changed : (s : Step ItemOut) (m : ℕ) (f : Session ItemOut → Session ItemOut) → ((t : Session ItemOut) → SessionStands s.server_state.conns t → SessionStands s.server_state.conns (f t)) → Keeps f → Calm n start s → Calm n start (in_sessions (with_session m f) s)
  session_changed s m f keeps same c = new_sessions s (with_session m f s.server_state.sessions) (all_changed s.server_state.conns m f s.server_state.sessions keeps c.stands.sessions) (alone_changed m f same s.server_state.sessions c.stands.alone) c

  all_without : (conns : Conns) (m : ℕ) (l : List (Session ItemOut)) → AllByRecursion (SessionStands conns) l → AllByRecursion (SessionStands conns) (without m l)
  all_without conns m l all = all_filtered (SessionStands conns) (SessionStands conns) (λ t. not (t.shown.number == m)) l (λ t x e. x) all

  -- ---- a stanza to a session

  told_stands : (conns : Conns) (m : ℕ) (l : List (Session ItemOut)) → AllByRecursion (SessionStands conns) l → (o : Option (Session ItemOut)) → session_of m l ≡ o → (t : SessionInfo) → option_map told o ≡ Some t → IsAfter conns t.conn
  told_stands conns m l all None found t is = absurd (none_is_not t is)
    where
      none_is_not : (t : SessionInfo) → None ≡ Some t → ⊥
      none_is_not t e = cc
  told_stands conns m l all (Some u) found t is = subst (λ (x : SessionInfo). IsAfter conns x.conn) (same_Some (told u) t is) (all_found (SessionStands conns) (is_numbered m) l u all found).on

  ask_calm : (s : Step ItemOut) (m : ℕ) (o : Option ℕ) (due : Bool) → IsAfter s.server_state.conns o → Calm n start s → Calm n start (ask_where itself m o due s)
  ask_calm s m o false on c = c
  ask_calm s m None true on c = c
  ask_calm s m (Some k) true on c = put_word (in_sessions (with_session m (asks true)) s) k request_item on refl (session_changed s m (asks true) (λ t x. record { on = x.on; words = x.words }) (λ t. (refl, refl)) c)

  put_where_conns : (o : Option ℕ) (a : ItemOut) (s : Step ItemOut) → (put_where o a s).server_state.conns ≡ s.server_state.conns
  put_where_conns None a s = refl
  put_where_conns (Some k) a s = refl

  queue_calm : (s : Step ItemOut) (m : ℕ) (a : ItemOut) (t : SessionInfo) → IsAfter s.server_state.conns t.conn → IsNoFooter a → Calm n start s → Calm n start (queue itself m a t s)
  queue_calm s m a t on word c =
      let waiting = in_sessions (with_session m (waits a)) s in
      let one = session_changed s m (waits a) (λ u x. record { on = x.on; words = append_each IsNoFooter u.waiting (a ∷ []) x.words (word, tt) }) (λ u. (refl, refl)) c in
      ask_calm (put_where t.conn a waiting) m t.conn (is_due t) (subst (λ conns. IsAfter conns t.conn) (sym (put_where_conns t.conn a waiting)) on) (put_where_word waiting t.conn a on word one)

  send_told_calm : (s : Step ItemOut) (m : ℕ) (a : ItemOut) (o : Option SessionInfo) → ((t : SessionInfo) → o ≡ Some t → IsAfter s.server_state.conns t.conn) → IsNoFooter a → Calm n start s → Calm n start (send_by_info itself m a o s)
  send_told_calm s m a None on word c = c
  send_told_calm s m a (Some t) on word c = uncounted t.counted
    where
      full : (b : Bool) → Calm n start (cond b (overflow itself m t s) (queue itself m a t s))
      full true = part_where_calm (in_sessions (without m) s) t.conn (error_item ResourceConstraint) (on t refl) refl (new_sessions s (without m s.server_state.sessions) (all_without s.server_state.conns m s.server_state.sessions c.stands.sessions) (alone_filtered (λ u. not (u.shown.number == m)) s.server_state.sessions c.stands.alone) c)
      full false = queue_calm s m a t (on t refl) word c

      uncounted : (b : Bool) → Calm n start (cond (not b) (put_where t.conn a s) (cond (t.waiting == MOST_UNACKNOWLEDGED) (overflow itself m t s) (queue itself m a t s)))
      uncounted false = put_where_word s t.conn a (on t refl) word c
      uncounted true = full (t.waiting == MOST_UNACKNOWLEDGED)

  pub send_calm : (s : Step ItemOut) (m : ℕ) (a : ItemOut) → IsNoFooter a → Calm n start s → Calm n start (send itself m a s)
  send_calm s m a word c = send_told_calm s m a (info_of m s.server_state.sessions) (told_stands s.server_state.conns m s.server_state.sessions c.stands.sessions (session_of m s.server_state.sessions) refl) word c

  -- ---- bindings and resumptions

  all_less : (conns : Conns) (o : Option (Session ItemOut)) (l : List (Session ItemOut)) → AllByRecursion (SessionStands conns) l → AllByRecursion (SessionStands conns) (less o l)
  all_less conns None l all = all
  all_less conns (Some t) l all = all_without conns t.shown.number l all

  pub bind_calm : (s : Step ItemOut) (account : ℕ) (resource : List ℕ) (k : ℕ) → writer_in k s.server_state.conns ≡ Some phase.Between → NoneAt k s.server_state.sessions → Calm n start s → Calm n start (act itself (steps.Bind account resource k) s)
  bind_calm s account resource k on none c = record {
    order = c.order;
    stands = record {
      differ = c.stands.differ;
      few = c.stands.few;
      sessions = append_each (SessionStands s.server_state.conns) (less (session_named account resource s.server_state.sessions) s.server_state.sessions) (fresh s.server_state.next account resource k ∷ [])
          (all_less s.server_state.conns (session_named account resource s.server_state.sessions) s.server_state.sessions c.stands.sessions) (record { on = on; words = tt }, tt);
      alone = alone_joined k (session_named account resource s.server_state.sessions) (fresh s.server_state.next account resource k) s.server_state.sessions refl none c.stands.alone;
    };
  }

  all_resumed : (conns : Conns) (h k : ℕ) (o : Option (Session ItemOut)) (l : List (Session ItemOut)) → writer_in k conns ≡ Some phase.Between → AllByRecursion (SessionStands conns) l → AllByRecursion (SessionStands conns) (after_resume h k o l)
  all_resumed conns h k None l on all = all
  all_resumed conns h k (Some t) l on all = by (is_too_high h t)
    where
      by : (b : Bool) → AllByRecursion (SessionStands conns) (cond b (without t.shown.number l) (with_session t.shown.number (resumes h k) l))
      by true = all_without conns t.shown.number l all
      by false = all_changed conns t.shown.number (resumes h k) l (λ u x. record { on = on; words = All-drop IsNoFooter (ahead h u.acked) u.waiting x.words }) all

  pub resume_calm : (s : Step ItemOut) (previd : List ℕ) (account h k : ℕ) → writer_in k s.server_state.conns ≡ Some phase.Between → NoneAt k s.server_state.sessions → Calm n start s → Calm n start (act itself (steps.Resume previd account h k) s)
  resume_calm s previd account h k on none c = new_sessions s (after_resume h k (session_resumed previd account s.server_state.sessions) s.server_state.sessions) (all_resumed s.server_state.conns h k (session_resumed previd account s.server_state.sessions) s.server_state.sessions on c.stands.sessions) (alone_resumed h k (session_resumed previd account s.server_state.sessions) s.server_state.sessions none c.stands.alone) c

  -- ---- steps that touch no connection

  abbrev pub IsQuiet : Act ItemOut → Type 0
  IsQuiet (steps.Send m a) = IsNoFooter a
  IsQuiet (steps.Say k a) = ⊥
  IsQuiet (steps.Close k) = ⊥
  IsQuiet (steps.Enter k p) = ⊥
  IsQuiet (steps.Fail k left) = ⊥
  IsQuiet (steps.Bind account resource k) = ⊥
  IsQuiet (steps.Resume previd account h k) = ⊥
  IsQuiet a = Unit {0}

  archived_calm : (s : Step ItemOut) (e : EntryView) (account : ℕ) (o : Option Kept) → Calm n start s → Calm n start (record s { server_state = archived_in e account o s.server_state })
  archived_calm s e account None c = c
  archived_calm s e account (Some kept) c = record { order = c.order; stands = record { differ = c.stands.differ; few = c.stands.few; sessions = c.stands.sessions; alone = c.stands.alone } }

  quiet_act : (s : Step ItemOut) (a : Act ItemOut) → IsQuiet a → Calm n start s → Calm n start (act itself a s)
  quiet_act s (steps.Send m a) word c = send_calm s m a word c
  quiet_act s (steps.Say k a) word c = absurd word
  quiet_act s (steps.Close k) word c = absurd word
  quiet_act s (steps.Enter k p) word c = absurd word
  quiet_act s (steps.Fail k left) word c = absurd word
  quiet_act s (steps.Bind account resource k) word c = absurd word
  quiet_act s (steps.Resume previd account h k) word c = absurd word
  quiet_act s (steps.Enable m resume) word c = session_changed s m _ (λ t x. record { on = x.on; words = x.words }) (λ t. (refl, refl)) c
  quiet_act s (steps.Acknowledge m h) word c = session_changed s m (acknowledged h) (λ t x. record { on = x.on; words = All-drop IsNoFooter (ahead h t.acked) t.waiting x.words }) (λ t. (refl, refl)) c
  quiet_act s (steps.Ask m on) word c = session_changed s m (asks on) (λ t x. record { on = x.on; words = x.words }) (λ t. (refl, refl)) c
  quiet_act s (steps.Handle m) word c = session_changed s m _ (λ t x. record { on = x.on; words = x.words }) (λ t. (refl, refl)) c
  quiet_act s (steps.Present m available priority) word c = session_changed s m _ (λ t x. record { on = x.on; words = x.words }) (λ t. (refl, refl)) c
  quiet_act s (steps.Copy m on) word c = session_changed s m _ (λ t x. record { on = x.on; words = x.words }) (λ t. (refl, refl)) c
  quiet_act s (steps.Archive account e) word c = archived_calm s e account (archive_at account s.server_state) c
  quiet_act s (steps.Tell from to origin) word c = record { order = λ j. order_joined Any j (start j) (writer_in j s.server_state.conns) (writer_in j s.server_state.conns) s.outs (Took from to origin ∷ []) (c.order j) refl; stands = c.stands }

  pub quiet_calm : (acts : List (Act ItemOut)) (s : Step ItemOut) → AllByRecursion IsQuiet acts → Calm n start s → Calm n start (acted itself acts s)
  quiet_calm [] s all c = c
  quiet_calm (a ∷ more) s all c = quiet_calm more (act itself a s) all.1 (quiet_act s a all.0 c)
