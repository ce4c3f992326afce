-- The client reads a request, which it answers by its count, and a count.
use Rattle.std.proofs.Common.{◌≡◌, ℕ, ◌-◌, List, [], ◌∷◌, Some, drop, codes, if◌then◌else◌, refl, sym, ap, subst, ◌∙◌, arith}
use Rattle.std.proofs.Math.Nat.{mod-lt}
use Rattle.std.proofs.lemmas.List.Elements.{All-nil}
use Rattle.cl_core.specs.Steps.{online_in, told_row}
use Rattle.cl_handlers.specs.AckRows.{acknowledges, counts_too_high, request_row}
use Rattle.cl_handlers.specs.Clients.{ClientStep}
use Rattle.cl_handlers.specs.Speech.{in_items}
use Rattle.sim_3_items.specs.Clients.{IsOwn, client_phase}
use Rattle.sim_3_items.specs.Counted.{IsForServer}
use Rattle.sim_3_items.specs.Identities.{Identity, Login}
use Rattle.sim_3_items.specs.Reading.{HearingFollows, IsNextDown, IsRead, client_step_on}
use Rattle.sim_3_items.specs.WordItems.{told_count}
use Rattle.im_extensions.specs.StreamManagement.{ack_elem}
use Rattle.im_extensions.specs.declared.stream_management.Ack.{Ack as AckWord}
use Rattle.sim_3_items.specs.ItemPipes.{ItemWire}
use Rattle.sim_3_items.specs.ItemWorlds.{ItemDevice, silent_client_step}
use Rattle.sim_2_links.proofs.Promised.{down_count_within}
use Rattle.sim_2_links.specs.LinkMoves.{heard_if, told_if}
use Rattle.sim_2_links.specs.Machine.{ReadsCount, ReadsRequest}
use Rattle.sim_2_links.specs.Promises.{IsWithin}
use Rattle.sim_2_links.specs.Views.{Own, Table, View, alter, has, with_at}
use Rattle.sim_2_links.specs.Words.{Ack, Down, InOnline, Req, Up, UpWord}
use Rattle.sm_outbox.specs.Sessions.{SessionView}
use Rattle.sm_outbox.specs.Waiting.{too_high}
use Rattle.im_payload.specs.Bare.{bare}
use Rattle.im_payload.specs.Names.{management}
use Rattle.law_payloads.proofs.ManagementWritten.{ack_written}
use Rattle.im_replies.specs.Management.{ack_item}
use Rattle.xml_trees.specs.Trees.{Elem}
use Rattle.sim_4_links_follow.proofs.Servings.{known_altered}
use Rattle.xml_writer.specs.Items.{ItemOut, Whole}
use Rattle.sim_4_links_follow.proofs.Counted.{acked_own, not_too_high}
use Rattle.sim_4_links_follow.proofs.Turning.{on_element, own_session}
use Rattle.sim_4_links_follow.proofs.Working.{heard, kept_here, phase_here, works_on}

module _ (who : Identity) (logins : ℕ → Login) (d : ItemDevice) (wires : Table ItemWire) (v : View ItemOut) (k : ℕ) where
  abbrev now : ClientStep ItemOut ItemOut
  now = silent_client_step d.client

  -- ---- a request

  module _ (p : IsNextDown who logins d wires v k (Down Req)) (o : Own ItemOut) (own : v.own ≡ Some o) (is : p.conn.client ≡ InOnline o.number) where
    abbrev asked : (s : SessionView ItemOut) × (d.client.session ≡ Some s) × IsOwn o s
    asked = own_session who logins d v o p.shown.client own

    abbrev request : Elem
    request = bare management (codes "r")

    request_client_step : client_step_on (Whole request) d ≡ request_row in_items now asked.0
    request_client_step =
        on_element d request (client_phase who (logins k) (InOnline o.number)) (phase_here who logins d wires v k (Down Req) p (InOnline o.number) is)
        ∙ ap (λ n. online_in in_items now n request) asked.1

    pub request_read : IsRead who logins d wires v k p.conn p.wire (Down Req)
    request_read =
        let puts : List (UpWord ItemOut) = Up (Ack o.handled) ∷ [] in
        let next : View ItemOut =
        record v { conns = with_at k (heard who logins d wires v k (Down Req) p p.conn.client puts) v.conns; sessions = alter (λ q s. told_if (has (Some o.number) q) s) v.sessions } in
        subst (HearingFollows who logins d wires v k p.wire) (sym request_client_step)
        (works_on who logins d wires v k (Down Req) p (request_row in_items now asked.0) p.conn.client puts (ReadsRequest k ∷ []) next (tt, tt) refl p.shown.client.epoch p.shown.client.own
        (phase_here who logins d wires v k (Down Req) p p.conn.client refl) (ap (λ n. ack_item n ∷ []) asked.2.handled) (All-nil IsForServer) refl
        (next, record { conn = p.conn; here = p.here; is = p.is; rest = p.rest; first = p.first; own = o; is_own = own; client = is; gives = refl }, refl) refl refl (λ j. refl) refl refl
        (known_altered (λ q s. told_if (has (Some o.number) q) s) v))

  -- ---- a count

  module _ (h : ℕ) (p : IsNextDown who logins d wires v k (Down (Ack h))) (o : Own ItemOut) (own : v.own ≡ Some o) (is : p.conn.client ≡ InOnline o.number) where
    abbrev counted : (s : SessionView ItemOut) × (d.client.session ≡ Some s) × IsOwn o s
    counted = own_session who logins d v o p.shown.client own

    abbrev told : AckWord
    told = record { h = told_count h }

    within : IsWithin o.acked o.queue h
    within = down_count_within v k h p.conn o p.rest (kept_here who logins d wires v k (Down (Ack h)) p) p.here p.is own p.first

    abbrev goes_on : ClientStep ItemOut ItemOut
    goes_on = acknowledges in_items now counted.0 (told_count h)

    abbrev too_high_client_step : ClientStep ItemOut ItemOut
    too_high_client_step = counts_too_high in_items now (too_high counted.0.waiting (told_count h))

    count_client_step : client_step_on (Whole (ack_elem told)) d ≡ goes_on
    count_client_step =
        on_element d (ack_elem told) (client_phase who (logins k) (InOnline o.number)) (phase_here who logins d wires v k (Down (Ack h)) p (InOnline o.number) is)
        ∙ ap (λ n. online_in in_items now n (ack_elem told)) counted.1
        ∙ ap (told_row in_items now counted.0) (ack_written told (mod-lt h (omega arith)))
        ∙ ap (λ b. if b then too_high_client_step else goes_on) (not_too_high o counted.0 h within counted.2)

    pub count_read : IsRead who logins d wires v k p.conn p.wire (Down (Ack h))
    count_read =
        let next : View ItemOut =
        record v {
          conns = with_at k (heard who logins d wires v k (Down (Ack h)) p p.conn.client []) v.conns;
          own = Some (record o { acked = h; queue = drop (h - o.acked) o.queue });
          sessions = alter (λ q s. heard_if (has (Some o.number) q) h s) v.sessions;
        } in
        subst (HearingFollows who logins d wires v k p.wire) (sym count_client_step)
        (works_on who logins d wires v k (Down (Ack h)) p goes_on p.conn.client [] (ReadsCount k h ∷ []) next (tt, tt) refl p.shown.client.epoch (acked_own o counted.0 h within counted.2)
        (phase_here who logins d wires v k (Down (Ack h)) p p.conn.client refl) refl (All-nil IsForServer) refl
        (next, record { conn = p.conn; here = p.here; is = p.is; rest = p.rest; first = p.first; own = o; is_own = own; client = is; gives = refl }, refl) refl refl (λ j. refl) refl refl
        (known_altered (λ q s. heard_if (has (Some o.number) q) h s) v))
