-- What the client does on each of these words.
use Rattle.std.proofs.Common.{◌≡◌, ℕ, ◌+◌, true, [], ◌∷◌, Some, None, codes, if◌then◌else◌, is_ok, not, Option, refl, ap, subst, ◌∙◌, arith}
use Rattle.std.proofs.Math.Nat.{mod-lt}
use Rattle.base_lemmas.proofs.HexDigits.{length-hex16_of}
use Rattle.cl_core.specs.Steps.{online_in, told_row}
use Rattle.sim_4_links_follow.proofs.AllReads.{expected}
use Rattle.sim_4_links_follow.proofs.Counted.{not_too_high}
use Rattle.sim_4_links_follow.proofs.Turning.{on_element, own_session}
use Rattle.sim_4_links_follow.proofs.Working.{kept_here, phase_here}
use Rattle.sim_4_links_follow.proofs.SessionReads.{some_digits}
use Rattle.cl_handlers.specs.AckRows.{acknowledges, counts_too_high}
use Rattle.cl_handlers.specs.Clients.{ClientStep}
use Rattle.cl_handlers.specs.LoginSteps.{other_element}
use Rattle.cl_handlers.specs.SessionRows.{asks, attaches, begins, begins_epoch, enabling_with, failed_row, resumed_in, resuming_with}
use Rattle.cl_handlers.specs.Speech.{in_items}
use Rattle.cl_handlers.specs.declared.phase.Phase.TheVariants as phase
use Rattle.sm_resumption.specs.declared.answers.TheConstants.{RESUMABLE_SECONDS}
use Rattle.sim_3_items.specs.Clients.{IsOwn, client_phase}
use Rattle.sim_3_items.specs.Identities.{Identity, Login, full_of}
use Rattle.sim_3_items.specs.Reading.{IsNextDown, client_step_on}
use Rattle.sim_3_items.specs.WordItems.{down_item, is_after_login, told_count}
use Rattle.im_extensions.specs.Bind.{bind_result_elem}
use Rattle.im_extensions.specs.StreamManagement.{ack_elem, enabled_elem, resumed_elem, sm_failed_elem}
use Rattle.im_extensions.specs.declared.stream_management.Ack.{Ack as AckWord}
use Rattle.im_extensions.specs.declared.stream_management.Enabled.{Enabled as EnabledWord}
use Rattle.im_extensions.specs.declared.stream_management.Resumed.{Resumed as ResumedWord}
use Rattle.sim_3_items.specs.ItemPipes.{ItemWire}
use Rattle.sim_3_items.specs.ItemWorlds.{ItemDevice, silent_client_step}
use Rattle.sim_2_links.proofs.Numbers.{reached_rises}
use Rattle.sim_2_links.proofs.Promised.{down_count_within, resumed_within}
use Rattle.sim_2_links.proofs.Reached.{link_kept}
use Rattle.sim_2_links.proofs.Seen.{move_seen}
use Rattle.sim_2_links.specs.Events.{IsSeenAs, LinkEvent, May, Named, Seen, seen}
use Rattle.sim_2_links.specs.Machine.{LinkMoves, ReadsBound}
use Rattle.sim_2_links.specs.Views.{Own, Table, View, alter, has, with_at}
use Rattle.sim_2_links.specs.Wires.{left_down, send_up}
use Rattle.sim_2_links.specs.Words.{Ack, Bound, Down, DownWord, Enable, Enabled, Failed, InBind, InEnable, InOnline, InResume, Resumed}
use Rattle.sm_outbox.specs.Sessions.{SessionView}
use Rattle.sm_outbox.specs.Waiting.{too_high}
use Rattle.law_payloads.proofs.ManagementWritten.{ack_written, enabled_written, resumed_written}
use Rattle.law_payloads.proofs.RequestReads.{result_written}
use Rattle.im_requests.specs.Sessions.{enable_item}
use Rattle.sm_resumption.specs.Previds.{previd_of}
use Rattle.im_stanza.specs.declared.conditions.Condition.TheVariants.{ItemNotFound}
use Rattle.im_stanza.specs.declared.kinds.IqKind.TheVariants.{Result}
use Rattle.im_stanza.specs.Written.{iq_elem}
use Rattle.xml_trees.specs.Trees.{Elem, child, no_nodes}
use Rattle.xml_writer.specs.Items.{ItemOut}

may_of : (e : LinkEvent ItemOut) (s next : Seen ItemOut) (told : Option (LinkEvent ItemOut)) → told ≡ Some e → IsSeenAs told s next → May e s
may_of e s next told is so = (let at = subst (λ e. IsSeenAs e s next) is so in at.0)

-- the client's session, and that of the links
pub record HasSession (d : ItemDevice) (v : View ItemOut) : Type 0 where
  pub own : Own ItemOut
  pub is_own : v.own ≡ Some own
  pub session : SessionView ItemOut
  pub has : d.client.session ≡ Some session
  pub shown : IsOwn own session

module _ (who : Identity) (logins : ℕ → Login) (d : ItemDevice) (wires : Table ItemWire) (v : View ItemOut) (k : ℕ) where
  abbrev now : ClientStep ItemOut ItemOut
  now = silent_client_step d.client

  -- its item
  abbrev pub item_of : (word : DownWord ItemOut) → IsNextDown who logins d wires v k word → ItemOut
  item_of word p = down_item who (logins k) k (is_after_login p.conn.client) word

  -- ---- the session is no more

  module _ (p : IsNextDown who logins d wires v k Failed) where
    abbrev refused : Elem
    refused = sm_failed_elem (record { condition = ItemNotFound })

    pub failed_client_step : client_step_on (item_of Failed p) d ≡ failed_row in_items now
    failed_client_step =
        let e = expected who logins d wires v k Failed p in
        on_element d refused (client_phase who (logins k) (InResume e.0.number)) (phase_here who logins d wires v k Failed p (InResume e.0.number) e.2)

  -- ---- a resource is bound

  module _ (m : ℕ) (p : IsNextDown who logins d wires v k (Bound m)) where
    in_bind : p.conn.client ≡ InBind
    in_bind = (expected who logins d wires v k (Bound m) p).1

    abbrev bound : Elem
    bound = iq_elem (record { from = None; to = None; id = codes "bind"; kind = Result; payload = child (bind_result_elem (record { jid = full_of who })) no_nodes })

    abbrev pub names : ClientStep ItemOut ItemOut
    names = asks in_items (begins_epoch in_items now) enable_item phase.Enabling

    pub bound_client_step : client_step_on (item_of (Bound m) p) d ≡ names
    bound_client_step =
        on_element d bound (client_phase who (logins k) InBind) (phase_here who logins d wires v k (Bound m) p InBind in_bind)
        ∙ ap (λ r. if is_ok r then names else other_element now bound) (result_written (record { jid = full_of who }) p.shown.normal.full)

    abbrev next_view : View ItemOut
    next_view = record v {
      conns = with_at k (record p.conn { client = InEnable; wires = send_up (Enable ∷ []) (left_down p.rest p.conn.wires) }) v.conns;
      epoch = v.epoch + 1;
      sessions = alter (λ q s. record s { epoch = if has (Some m) q then Some (v.epoch + 1) else s.epoch }) v.sessions;
    }

    reads_it : LinkMoves (ReadsBound k m) v next_view
    reads_it = record { conn = p.conn; here = p.here; is = p.is; rest = p.rest; first = p.first; client = in_bind; gives = refl }

    pub may_name : May (Named m) (seen v)
    may_name =
        let told = move_seen (ReadsBound k m) v next_view reads_it (link_kept v p.shown.reached) (reached_rises v p.shown.reached) in
        may_of (Named m) (seen v) (seen next_view) told.0 told.1 told.2

  -- ---- stanzas are counted

  module _ (m : ℕ) (p : IsNextDown who logins d wires v k (Enabled m)) where
    in_enable : p.conn.client ≡ InEnable
    in_enable = (expected who logins d wires v k (Enabled m) p).1

    abbrev word : EnabledWord
    word = record { id = previd_of m; resume = true; max = Some RESUMABLE_SECONDS }

    abbrev starts : ClientStep ItemOut ItemOut
    starts = begins in_items now (previd_of m)

    pub enabled_client_step : client_step_on (item_of (Enabled m) p) d ≡ begins in_items now (previd_of m)
    enabled_client_step =
        on_element d (enabled_elem word) (client_phase who (logins k) InEnable) (phase_here who logins d wires v k (Enabled m) p InEnable in_enable)
        ∙ ap (enabling_with in_items now (enabled_elem word)) (enabled_written word (omega arith))
        ∙ ap (λ b. if not b then starts else other_element now (enabled_elem word)) (some_digits (previd_of m) (length-hex16_of m))

  -- ---- it is resumed

  module _ (q h : ℕ) (p : IsNextDown who logins d wires v k (Resumed q h)) where
    pub resumed_session : HasSession d v
    resumed_session =
        let e = expected who logins d wires v k (Resumed q h) p in
        let s = own_session who logins d v e.0 p.shown.client e.1 in
        record { own = e.0; is_own = e.1; session = s.0; has = s.1; shown = s.2 }

    in_resume : p.conn.client ≡ InResume q
    in_resume = (expected who logins d wires v k (Resumed q h) p).3

    abbrev s : SessionView ItemOut
    s = resumed_session.session

    abbrev resumed : ResumedWord
    resumed = record { previd = previd_of q; h = told_count h }

    abbrev attached : ClientStep ItemOut ItemOut
    attached = attaches in_items (acknowledges in_items now s (told_count h))

    pub resumed_client_step : client_step_on (item_of (Resumed q h) p) d ≡ attaches in_items (acknowledges in_items now s (told_count h))
    resumed_client_step =
        on_element d (resumed_elem resumed) (client_phase who (logins k) (InResume q)) (phase_here who logins d wires v k (Resumed q h) p (InResume q) in_resume)
        ∙ ap (resuming_with in_items now (resumed_elem resumed)) (resumed_written resumed (mod-lt h (omega arith)))
        ∙ ap (λ n. resumed_in in_items now n (told_count h)) resumed_session.has
        ∙ ap (λ b. if b then counts_too_high in_items now (too_high s.waiting (told_count h)) else attached)
        (not_too_high resumed_session.own s h
        (resumed_within v k q h p.conn resumed_session.own p.rest (kept_here who logins d wires v k (Resumed q h) p) p.here p.is resumed_session.is_own p.first) resumed_session.shown)

  -- ---- a count

  module _ (h : ℕ) (p : IsNextDown who logins d wires v k (Down (Ack h))) where
    pub counted_session : HasSession d v
    counted_session =
        let e = expected who logins d wires v k (Down (Ack h)) p in
        let s = own_session who logins d v e.0 p.shown.client e.1 in
        record { own = e.0; is_own = e.1; session = s.0; has = s.1; shown = s.2 }

    abbrev online : ℕ
    online = (expected who logins d wires v k (Down (Ack h)) p).0.number

    in_online : p.conn.client ≡ InOnline online
    in_online = (expected who logins d wires v k (Down (Ack h)) p).2

    abbrev its : SessionView ItemOut
    its = counted_session.session

    abbrev count : AckWord
    count = record { h = told_count h }

    abbrev acknowledged : ClientStep ItemOut ItemOut
    acknowledged = acknowledges in_items now its (told_count h)

    pub count_client_step : client_step_on (item_of (Down (Ack h)) p) d ≡ acknowledges in_items now its (told_count h)
    count_client_step =
        on_element d (ack_elem count) (client_phase who (logins k) (InOnline online)) (phase_here who logins d wires v k (Down (Ack h)) p (InOnline online) in_online)
        ∙ ap (λ n. online_in in_items now n (ack_elem count)) counted_session.has
        ∙ ap (told_row in_items now its) (ack_written count (mod-lt h (omega arith)))
        ∙ ap (λ b. if b then counts_too_high in_items now (too_high its.waiting (told_count h)) else acknowledged)
        (not_too_high counted_session.own its h
        (down_count_within v k h p.conn counted_session.own p.rest (kept_here who logins d wires v k (Down (Ack h)) p) p.here p.is counted_session.is_own p.first) counted_session.shown)
