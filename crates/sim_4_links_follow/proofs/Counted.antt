-- A count that names a place in the client's queue is told exactly, though modulo 2 ^ 32, and takes from the queue
-- what it acknowledges.
use Rattle.std.proofs.Common.{◌≡◌, ℕ, ◌-◌, ◌≤◌, false, length, drop, refl, ap, ◌∙◌, arith}
use Rattle.std.proofs.lemmas.List.Elements.{All-drop}
use Rattle.sm_acks.proofs.Senders.{ahead_exact}
use Rattle.sm_acks.specs.Counters.{ahead}
use Rattle.sm_acks.specs.declared.end.TheConstants.{MOST_UNACKNOWLEDGED}
use Rattle.sim_3_items.specs.Clients.{IsOwn}
use Rattle.sim_3_items.specs.Counted.{IsForServer}
use Rattle.sim_3_items.specs.WordItems.{told_count}
use Rattle.sim_2_links.specs.Promises.{IsWithin}
use Rattle.sim_2_links.specs.Views.{Own}
use Rattle.sim_4_links_follow.proofs.SessionRows.{fewer, not_high}
use Rattle.sm_outbox.specs.Sessions.{SessionView, with_waiting}
use Rattle.sm_outbox.specs.Waiting.{acked, is_too_high}
use Rattle.xml_writer.specs.Items.{ItemOut}

near : (o : Own ItemOut) (h : ℕ) → IsWithin o.acked o.queue h → length o.queue ≤ 10000 → ahead (told_count h) (told_count o.acked) ≡ h - o.acked
near o h within few = let low = within.low in let high = within.high in ahead_exact h o.acked low (omega arith)

module _ (o : Own ItemOut) (s : SessionView ItemOut) (h : ℕ) (within : IsWithin o.acked o.queue h) (is : IsOwn o s) where
  ahead_so : ahead (told_count h) s.waiting.acked ≡ h - o.acked
  ahead_so = ap (ahead (told_count h)) is.acked ∙ near o h within is.few

  pub not_too_high : is_too_high s.waiting (told_count h) ≡ false
  not_too_high =
      let exact = ahead_so in
      let size : length s.waiting.queue ≡ length o.queue = ap length is.queue in
      let low = within.low in
      let high = within.high in
      not_high (length s.waiting.queue) (ahead (told_count h) s.waiting.acked) (omega arith)

  pub acked_own : IsOwn (record o { acked = h; queue = drop (h - o.acked) o.queue }) (with_waiting s (acked s.waiting (told_count h)))
  acked_own = record {
    previd = is.previd;
    acked = refl;
    handled = is.handled;
    queue = ap (λ m. drop m s.waiting.queue) ahead_so ∙ ap (drop (h - o.acked)) is.queue;
    for_server = All-drop IsForServer (h - o.acked) o.queue is.for_server;
    few = fewer (h - o.acked) MOST_UNACKNOWLEDGED o.queue is.few;
  }
