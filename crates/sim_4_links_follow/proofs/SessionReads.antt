-- The client reads how its session begins, is resumed, or is no more.
use Rattle.std.proofs.Common.{◌≡◌, ℕ, ◌+◌, ◌-◌, ◌<◌, ◌^◌, true, false, List, [], ◌∷◌, Some, None, length, drop, codes, inl, if◌then◌else◌, is_ok, not, refl, sym, ap, subst, ◌∙◌, arith}
use Rattle.std.proofs.Math.Nat.{min-eq_left, mod-lt}
use Rattle.std.proofs.lemmas.List.Elements.{All-cons, All-nil}
use Rattle.std.specs.List.{All}
use Rattle.base_lemmas.proofs.HexDigits.{length-hex16_of}
use Rattle.cl_handlers.specs.AckRows.{acknowledges, counts_too_high}
use Rattle.cl_handlers.specs.Clients.{ClientStep}
use Rattle.cl_handlers.specs.LoginSteps.{other_element}
use Rattle.cl_handlers.specs.SessionRows.{asks, attaches, begins, begins_epoch, enabling_with, failed_row, first_stanzas, is_empty, resent, resumed_in, resuming_with}
use Rattle.cl_handlers.specs.Speech.{in_items}
use Rattle.cl_handlers.specs.declared.account.Account.{Account}
use Rattle.cl_handlers.specs.declared.phase.Phase.TheVariants as phase
use Rattle.sm_resumption.specs.declared.answers.TheConstants.{RESUMABLE_SECONDS}
use Rattle.sim_3_items.specs.Clients.{IsOwn, client_phase}
use Rattle.sim_3_items.specs.Counted.{IsForServer}
use Rattle.sim_3_items.specs.Identities.{Identity, Login, full_of}
use Rattle.sim_3_items.specs.Reading.{HearingFollows, IsNextDown, IsRead, client_step_on}
use Rattle.sim_3_items.specs.WordItems.{told_count}
use Rattle.im_extensions.specs.Bind.{bind_result_elem}
use Rattle.im_extensions.specs.StreamManagement.{enabled_elem, resumed_elem, sm_failed_elem}
use Rattle.im_extensions.specs.declared.stream_management.Enabled.{Enabled as EnabledWord}
use Rattle.im_extensions.specs.declared.stream_management.Resumed.{Resumed as ResumedWord}
use Rattle.sim_3_items.specs.ItemPipes.{ItemWire}
use Rattle.sim_3_items.specs.ItemWorlds.{ItemDevice, silent_client_step}
use Rattle.sim_2_links.proofs.Entries.{at_same}
use Rattle.sim_2_links.proofs.Promised.{resumed_within}
use Rattle.sim_2_links.proofs.ReadResumed.{resent_if}
use Rattle.sim_2_links.specs.Machine.{Puts, ReadsBound, ReadsEnabled, ReadsFailed, ReadsResumed}
use Rattle.sim_2_links.specs.Promises.{IsWithin}
use Rattle.sim_2_links.specs.SessionMoves.{again, put_if}
use Rattle.sim_2_links.specs.Stages.{Conn}
use Rattle.sim_2_links.specs.Views.{Own, Session, Table, View, alter, has, with_at}
use Rattle.sim_2_links.specs.Wires.{Wires, is_flowing, left_down, send_up}
use Rattle.sim_2_links.specs.Words.{Bind, Bound, Enable, Enabled, Failed, InBind, InEnable, InOnline, InResume, Resumed, St, Up, UpWord, up_stanzas}
use Rattle.sm_outbox.specs.Sessions.{SessionView}
use Rattle.sm_outbox.specs.Submissions.{next_number}
use Rattle.sm_outbox.specs.Waiting.{too_high}
use Rattle.law_payloads.proofs.ManagementWritten.{enabled_written, resumed_written}
use Rattle.law_payloads.proofs.RequestReads.{result_written}
use Rattle.im_requests.specs.Sessions.{available_item, bind_item, carbons_item, enable_item}
use Rattle.sm_resumption.specs.Previds.{previd_of}
use Rattle.im_stanza.specs.declared.conditions.Condition.TheVariants.{ItemNotFound}
use Rattle.im_stanza.specs.declared.kinds.IqKind.TheVariants.{Result}
use Rattle.im_stanza.specs.Written.{iq_elem}
use Rattle.xml_trees.specs.Trees.{Elem, child, no_nodes}
use Rattle.sim_4_links_follow.proofs.Servings.{known_altered, known_same}
use Rattle.xml_writer.specs.Items.{ItemOut, Whole}
use Rattle.sim_4_links_follow.proofs.Counted.{acked_own, not_too_high}
use Rattle.sim_4_links_follow.proofs.FirstStanzas.{available_is, carbons_is}
use Rattle.sim_4_links_follow.proofs.Again.{again_items, again_stanzas}
use Rattle.sim_4_links_follow.proofs.Turning.{on_element, own_session}
use Rattle.sim_4_links_follow.proofs.Twice.{both_sent, known_then, thrice}
use Rattle.sim_4_links_follow.proofs.Working.{heard, kept_here, phase_here, same_items, works_on}

pub some_digits : (text : List ℕ) → length text ≡ 16 → is_empty text ≡ false
some_digits [] size = absurd (let no_way : ⊥ = cc in no_way)
some_digits (b ∷ bs) size = refl

module _ (who : Identity) (logins : ℕ → Login) (d : ItemDevice) (wires : Table ItemWire) (v : View ItemOut) (k : ℕ) where
  abbrev now : ClientStep ItemOut ItemOut
  now = silent_client_step d.client

  -- ---- it is no more: the client asks for a new one

  module _ (p : IsNextDown who logins d wires v k Failed) (o : Own ItemOut) (is : p.conn.client ≡ InResume o.number) where
    abbrev refused : Elem
    refused = sm_failed_elem (record { condition = ItemNotFound })

    failed_client_step : client_step_on (Whole refused) d ≡ failed_row in_items now
    failed_client_step = on_element d refused (client_phase who (logins k) (InResume o.number)) (phase_here who logins d wires v k Failed p (InResume o.number) is)

    pub failed_read : IsRead who logins d wires v k p.conn p.wire Failed
    failed_read =
        let next : View ItemOut = record v { conns = with_at k (heard who logins d wires v k Failed p InBind (Bind ∷ [])) v.conns; own = None } in
        subst (HearingFollows who logins d wires v k p.wire) (sym failed_client_step)
        (works_on who logins d wires v k Failed p (failed_row in_items now) InBind (Bind ∷ []) (ReadsFailed k ∷ []) next (tt, tt) refl p.shown.client.epoch tt refl
        (ap (λ (a : Account). bind_item a.resource ∷ []) p.shown.client.account) (All-nil IsForServer) (same_items who logins d wires v k Failed p (InResume o.number) InBind is refl)
        (next, record { conn = p.conn; here = p.here; is = p.is; rest = p.rest; first = p.first; p = o.number; client = is; gives = refl }, refl) refl refl (λ j. refl) refl refl (known_same v))

  -- ---- one is bound: its epoch begins

  module _ (m : ℕ) (p : IsNextDown who logins d wires v k (Bound m)) (is : p.conn.client ≡ InBind) (low : v.epoch + 1 < 2 ^ 64) where
    abbrev bound : Elem
    bound = iq_elem (record { from = None; to = None; id = codes "bind"; kind = Result; payload = child (bind_result_elem (record { jid = full_of who })) no_nodes })

    abbrev enables : ClientStep ItemOut ItemOut
    enables = asks in_items (begins_epoch in_items now) enable_item phase.Enabling

    bound_client_step : client_step_on (Whole bound) d ≡ enables
    bound_client_step =
        on_element d bound (client_phase who (logins k) InBind) (phase_here who logins d wires v k (Bound m) p InBind is)
        ∙ ap (λ r. if is_ok r then enables else other_element now bound) (result_written (record { jid = full_of who }) p.shown.normal.full)

    pub bound_read : IsRead who logins d wires v k p.conn p.wire (Bound m)
    bound_read =
        let next : View ItemOut =
        record v {
          conns = with_at k (heard who logins d wires v k (Bound m) p InEnable (Enable ∷ [])) v.conns;
          epoch = v.epoch + 1;
          sessions = alter (λ q s. record s { epoch = if has (Some m) q then Some (v.epoch + 1) else s.epoch }) v.sessions;
        } in
        subst (HearingFollows who logins d wires v k p.wire) (sym bound_client_step)
        (works_on who logins d wires v k (Bound m) p enables InEnable (Enable ∷ []) (ReadsBound k m ∷ []) next (tt, tt) refl (ap next_number p.shown.client.epoch ∙ (let rises : next_number v.epoch ≡ v.epoch + 1 = min-eq_left (omega arith) in rises)) p.shown.client.own refl refl (All-nil IsForServer)
        (same_items who logins d wires v k (Bound m) p InBind InEnable is refl)
        (next, record { conn = p.conn; here = p.here; is = p.is; rest = p.rest; first = p.first; client = is; gives = refl }, refl) refl refl (λ j. refl) refl refl
        (known_altered (λ q s. record s { epoch = if has (Some m) q then Some (v.epoch + 1) else s.epoch }) v))

  -- ---- it is counted from now on: it begins with two stanzas

  module _ (m : ℕ) (p : IsNextDown who logins d wires v k (Enabled m)) (is : p.conn.client ≡ InEnable) where
    abbrev word : EnabledWord
    word = record { id = previd_of m; resume = true; max = Some RESUMABLE_SECONDS }

    abbrev starts : ClientStep ItemOut ItemOut
    starts = begins in_items now (previd_of m)

    enabled_client_step : client_step_on (Whole (enabled_elem word)) d ≡ starts
    enabled_client_step =
        on_element d (enabled_elem word) (client_phase who (logins k) InEnable) (phase_here who logins d wires v k (Enabled m) p InEnable is)
        ∙ ap (enabling_with in_items now (enabled_elem word)) (enabled_written word (omega arith))
        ∙ ap (λ b. if not b then starts else other_element now (enabled_elem word)) (some_digits (previd_of m) (length-hex16_of m))

    abbrev fresh : List ItemOut → Own ItemOut
    fresh queue = record { number = m; acked = 0; handled = 0; queue = queue }

    abbrev known_one : ℕ → Session ItemOut → Session ItemOut
    known_one q s = record s { read = if has (Some m) q then true else s.read }

    abbrev put_one : ItemOut → ℕ → Session ItemOut → Session ItemOut
    put_one z q s = record s { up = put_if (has (Some m) q) z s.up }

    abbrev first_conn : Conn ItemOut
    first_conn = heard who logins d wires v k (Enabled m) p (InOnline m) []

    abbrev second_conn : Conn ItemOut
    second_conn = record first_conn { wires = send_up (Up (St carbons_item) ∷ []) first_conn.wires }

    abbrev third_conn : Conn ItemOut
    third_conn = record second_conn { wires = send_up (Up (St available_item) ∷ []) second_conn.wires }

    abbrev first_view : View ItemOut
    first_view = record v { conns = with_at k first_conn v.conns; own = Some (fresh []); sessions = alter known_one v.sessions }

    abbrev second_view : View ItemOut
    second_view = record first_view { conns = with_at k second_conn first_view.conns; own = Some (fresh (carbons_item ∷ [])); sessions = alter (put_one carbons_item) first_view.sessions }

    abbrev third_view : View ItemOut
    third_view = record second_view { conns = with_at k third_conn second_view.conns; own = Some (fresh (carbons_item ∷ available_item ∷ [])); sessions = alter (put_one available_item) second_view.sessions }

    third_is : third_conn ≡ heard who logins d wires v k (Enabled m) p (InOnline m) (Up (St carbons_item) ∷ Up (St available_item) ∷ [])
    third_is =
        let ws : Wires ItemOut = left_down p.rest p.conn.wires in
        ap (λ w. record p.conn { client = InOnline m; wires = w })
        (both_sent (Up (St carbons_item) ∷ []) (Up (St available_item) ∷ []) (send_up [] ws) ∙ both_sent [] (Up (St carbons_item) ∷ Up (St available_item) ∷ []) ws)

    own_begun : IsOwn (fresh (carbons_item ∷ available_item ∷ [])) (record { previd = previd_of m; waiting = first_stanzas in_items })
    own_begun = record { previd = refl; acked = refl; handled = refl; queue = refl; for_server = All-cons IsForServer carbons_item (available_item ∷ []) carbons_is (All-cons IsForServer available_item [] available_is (All-nil IsForServer)); few = omega arith }

    pub enabled_read : IsRead who logins d wires v k p.conn p.wire (Enabled m)
    enabled_read =
        let puts : List (UpWord ItemOut) = Up (St carbons_item) ∷ Up (St available_item) ∷ [] in
        let stanzas : All IsForServer (up_stanzas puts) = own_begun.for_server in
        subst (HearingFollows who logins d wires v k p.wire) (sym enabled_client_step)
        (works_on who logins d wires v k (Enabled m) p starts (InOnline m) puts (ReadsEnabled k m ∷ Puts k carbons_item ∷ Puts k available_item ∷ []) third_view (tt, (inl refl, (inl refl, tt))) refl p.shown.client.epoch own_begun refl refl stanzas
        (same_items who logins d wires v k (Enabled m) p InEnable (InOnline m) is refl) (
          first_view,
          record { conn = p.conn; here = p.here; is = p.is; rest = p.rest; first = p.first; client = is; gives = refl },
          (
            second_view,
            record { conn = first_conn; here = p.here; is = at_same k first_conn v.conns; own = fresh []; is_own = refl; client = refl; gives = refl },
            (third_view, record { conn = second_conn; here = p.here; is = at_same k second_conn first_view.conns; own = fresh (carbons_item ∷ []); is_own = refl; client = refl; gives = refl }, refl),
          ),
        )
        refl refl (λ j. thrice k first_conn second_conn third_conn v.conns j ∙ ap (λ c. with_at k c v.conns j) third_is) refl refl
        (known_then (put_one available_item) second_view.sessions v (known_then (put_one carbons_item) first_view.sessions v (known_altered known_one v))))

  -- ---- it is resumed: what the server has handled waits no more, and the others are sent again

  module _ (q h : ℕ) (p : IsNextDown who logins d wires v k (Resumed q h)) (o : Own ItemOut) (own : v.own ≡ Some o) (number : o.number ≡ q) (is : p.conn.client ≡ InResume q) where
    abbrev told : ResumedWord
    told = record { previd = previd_of q; h = told_count h }

    abbrev has_session : (s : SessionView ItemOut) × (d.client.session ≡ Some s) × IsOwn o s
    has_session = own_session who logins d v o p.shown.client own

    abbrev s : SessionView ItemOut
    s = has_session.0

    abbrev goes_on : ClientStep ItemOut ItemOut
    goes_on = attaches in_items (acknowledges in_items now s (told_count h))

    within : IsWithin o.acked o.queue h
    within = resumed_within v k q h p.conn o p.rest (kept_here who logins d wires v k (Resumed q h) p) p.here p.is own p.first

    abbrev too_high_client_step : ClientStep ItemOut ItemOut
    too_high_client_step = counts_too_high in_items now (too_high s.waiting (told_count h))

    resumed_client_step : client_step_on (Whole (resumed_elem told)) d ≡ goes_on
    resumed_client_step =
        on_element d (resumed_elem told) (client_phase who (logins k) (InResume q)) (phase_here who logins d wires v k (Resumed q h) p (InResume q) is)
        ∙ ap (resuming_with in_items now (resumed_elem told)) (resumed_written told (mod-lt h (omega arith)))
        ∙ ap (λ n. resumed_in in_items now n (told_count h)) has_session.1
        ∙ ap (λ b. if b then too_high_client_step else goes_on) (not_too_high o s h within has_session.2)

    abbrev left_over : List ItemOut
    left_over = drop (h - o.acked) o.queue

    pub resumed_read : IsRead who logins d wires v k p.conn p.wire (Resumed q h)
    resumed_read =
        let next : View ItemOut =
        record v {
          conns = with_at k (heard who logins d wires v k (Resumed q h) p (InOnline o.number) (again left_over)) v.conns;
          own = Some (record o { acked = h; queue = left_over });
          sessions = alter (λ n t. resent_if (has (Some o.number) n) (is_flowing p.conn.wires) t) v.sessions;
        } in
        let after = acked_own o s h within has_session.2 in
        subst (HearingFollows who logins d wires v k p.wire) (sym resumed_client_step)
        (works_on who logins d wires v k (Resumed q h) p goes_on (InOnline o.number) (again left_over) (ReadsResumed k ∷ []) next (tt, tt) refl p.shown.client.epoch after refl
        (ap (resent in_items) after.queue ∙ again_items who (logins k) left_over) (subst (All IsForServer) (sym (again_stanzas left_over)) after.for_server)
        (same_items who logins d wires v k (Resumed q h) p (InResume q) (InOnline o.number) is refl) (
          next,
          record { conn = p.conn; here = p.here; is = p.is; own = o; is_own = own; client = is ∙ ap InResume (sym number); h = h; rest = p.rest; first = p.first ∙ ap (λ (n : ℕ). Resumed n h ∷ p.rest) (sym number); gives = refl },
          refl,
        )
        refl refl (λ j. refl) refl refl (known_altered (λ n t. resent_if (has (Some o.number) n) (is_flowing p.conn.wires) t) v))
