use Rattle.std.proofs.Common.{◌∙◌, ◌<◌, ◌+◌, ◌++◌, ⊎_elim, inl, length, true≢false, [], append-nil, ap, cond, refl, subst, sym}
use Rattle.srv_state.specs.State.{is_number}
use Rattle.net_hub.proofs.AllSent.{same_sent}
use Rattle.net_hub.proofs.Closed.{as_many}
use Rattle.net_hub.proofs.Joins.{none_left, one_less, shut_or_left}
use Rattle.net_hub.proofs.sending.send_all.Goals as goal
use Rattle.net_hub.specs.Bundles.{IsShutFor, bytes_for, bytes_in, is_shut}
use Rattle.net_hub.specs.Sendings.{IsClosed}

pub loop-conn-init : goal.loop-conn-init
loop-conn-init g c = record {
  numbers = refl;
  sent = λ before have. (before, λ k. refl, have);
  closed = λ i was. was;
  shut = λ i is below. inl is;
}

pub loop-conn-preserved : goal.loop-conn-preserved
loop-conn-preserved g c =
    let told = g.O.Outgoing.told in let closed = g.O.Outgoing.closed in let at = c.loop-conn.invariant in
    let old = c.loop-conn.senders.items in let new = c.send.new.senders.items in
    let conn = c.in-Some.conn in let bundle = c.in-Some.bundle in let rest = c.loop-conn.rest in let left = c.pop_first.new.self in record {
      numbers = c.send.ensures.numbers ∙ at.numbers;
      sent = λ before have. let h = at.sent before have in (
        λ k. h.0 k ++ cond (is_number k conn) bundle.bytes.items [],
        one_less rest left conn bundle c.in-Some.ensures.value c.in-Some.ensures.updates h.0 (λ k. before k ++ bytes_for k c.args.bundles) h.1,
        c.send.ensures.sent h.0 h.2,
      );
      closed = λ i was. c.send.ensures.closed i (at.closed i was);
      shut = λ i is below. let within : i < length old = subst (λ n. i < n) (as_many told old new c.send.ensures.numbers) below in
          shut_or_left rest left conn bundle c.in-Some.ensures.value c.in-Some.ensures.updates (IsClosed closed old i) (IsClosed closed new i) (i + 1)
          (λ s e. c.send.ensures.shut s i e within) (λ w. c.send.ensures.closed i w) (at.shut i is within);
    }

pub returns-clause-sent : goal.returns-clause-sent
returns-clause-sent g c = λ before have.
    let h = c.loop-conn.invariant.sent before have in
    same_sent g.O.Outgoing.told h.0 (λ k. before k ++ bytes_for k c.args.bundles) c.loop-conn.senders.items
    (λ k. sym (h.1 k) ∙ ap (λ o. h.0 k ++ bytes_in o) (none_left c.loop-conn.rest c.in_default.ensures.variant.1 k) ∙ append-nil (h.0 k)) h.2

pub returns-clause-shut : goal.returns-clause-shut
returns-clause-shut g c i is below =
    let at = c.loop-conn.invariant in let old = c.args.senders.now.items in let new = c.loop-conn.senders.items in
    ⊎_elim (λ (h : IsShutFor (i + 1) c.loop-conn.rest). absurd (true≢false (sym h ∙ ap is_shut (none_left c.loop-conn.rest c.in_default.ensures.variant.1 (i + 1)))))
    (λ (w : IsClosed g.O.Outgoing.closed new i). w)
    (at.shut i is (subst (λ n. i < n) (sym (as_many g.O.Outgoing.told old new at.numbers)) below))
