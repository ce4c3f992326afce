use Rattle.std.proofs.Common.{◌≡◌, ◌+◌, ◌-◌, ◌%◌, ◌^◌, ◌≤◌, List, Ok, ap, arith, length, refl, ℕ}
use Rattle.sm_acks.proofs.Directions.{kept_reached}
use Rattle.sm_acks.proofs.Senders.{acks, sender_acked}
use Rattle.sm_acks.specs.Counters.{AckView}
use Rattle.sm_acks.specs.Delivery.{Direction}
use Rattle.sm_acks.proofs.end.AckEnd.ack.Goals as goal

pub returns-in-Some-clause-acknowledges : goal.returns-in-Some-clause-acknowledges
returns-in-Some-clause-acknowledges c = λ n d next reached sender move is.
    let stated : n ≤ length d.got = (kept_reached d reached).stated n move.0 in
    let facts = acks c.args.self.now c.args.pool.now d n c.args.h reached sender stated move.1 is c.requires.few in
    absurd (omega (arith, facts.exact, facts.enough, c.in-Some.ensures.some))

pub returns-in-Some-clause-resumes : goal.returns-in-Some-clause-resumes
returns-in-Some-clause-resumes c = λ d next reached sender move is.
    let facts = acks c.args.self.now c.args.pool.now d (length d.got) c.args.h reached sender (omega arith) (kept_reached d reached).acked is
    c.requires.few in
    absurd (omega (arith, facts.exact, facts.enough, c.in-Some.ensures.some))

pub returns-clause-acknowledges : goal.returns-clause-acknowledges
returns-clause-acknowledges c = λ n d next reached sender move is.
    let stated : n ≤ length d.got = (kept_reached d reached).stated n move.0 in
    let facts = acks c.args.self.now c.args.pool.now d n c.args.h reached sender stated move.1 is c.requires.few in
    let acked = ap (λ (v : AckView). v.acked) c.self.view_is in
    let number : (c.args.h + (2 ^ 32 - c.self.inside.acked)) % 2 ^ 32 ≡ n - d.acked = omega arith in (
      ap Ok number,
      sender_acked c.args.self.now (record { queue = c.self.inside.queue; acked = c.args.h; handled = c.self.inside.handled }) c.args.pool.now
          c.drop_front.new.self d next n c.args.h c.self.inside.queue ((c.args.h + (2 ^ 32 - c.self.inside.acked)) % 2 ^ 32) facts is
          (ap (λ (v : AckView). v.queue) c.self.view_is) number (rw c.from.ensures at c.drop_front.ensures.queue) refl refl (ap (λ (e : Direction (List ℕ)). e.put) move.2)
          (ap (λ (e : Direction (List ℕ)). e.acked) move.2),
    )

pub returns-clause-resumes : goal.returns-clause-resumes
returns-clause-resumes c = λ d next reached sender move is.
    let facts = acks c.args.self.now c.args.pool.now d (length d.got) c.args.h reached sender (omega arith) (kept_reached d reached).acked is
    c.requires.few in
    let acked = ap (λ (v : AckView). v.acked) c.self.view_is in
    let number : (c.args.h + (2 ^ 32 - c.self.inside.acked)) % 2 ^ 32 ≡ length d.got - d.acked = omega arith in (
      ap Ok number,
      sender_acked c.args.self.now (record { queue = c.self.inside.queue; acked = c.args.h; handled = c.self.inside.handled }) c.args.pool.now
          c.drop_front.new.self d next (length d.got) c.args.h c.self.inside.queue ((c.args.h + (2 ^ 32 - c.self.inside.acked)) % 2 ^ 32) facts is
          (ap (λ (v : AckView). v.queue) c.self.view_is) number (rw c.from.ensures at c.drop_front.ensures.queue) refl refl (ap (λ (e : Direction (List ℕ)). e.put) move)
          (ap (λ (e : Direction (List ℕ)). e.acked) move),
    )
