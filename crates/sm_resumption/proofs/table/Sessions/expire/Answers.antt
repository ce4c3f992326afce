use Rattle.std.proofs.Common.{refl, ◌∙◌, arith}
use Rattle.sm_resumption.proofs.DeliveryFacts.{unexpired_stand}
use Rattle.sm_resumption.proofs.ExpiryFacts.{expiring_begins, expiring_ends, expiring_more}
use Rattle.sm_resumption.proofs.RowFacts.{length-without}
use Rattle.sm_resumption.specs.Housed.{IsGone}
use Rattle.sm_resumption.proofs.table.Sessions.expire.Goals as goal

pub ending-init : goal.ending-init
ending-init c =
    record {
      so_far = expiring_begins c.args.now c.args.self.now.rows c.args.pool.now;
      next = refl;
      reservation = refl;
      kept = omega arith;
      made = refl;
      room = omega arith;
      housed = c.requires;
    }

pub end-requires : goal.end-requires
end-requires c = rw c.in-Some.ensures.rows c.ending.invariant.housed

pub ending-smaller : goal.ending-smaller
ending-smaller c =
    rw (c.end.ensures.rows, c.in-Some.ensures.rows) (length-without c.in-Some.number c.in-Some.ensures.number.0 c.ending.self.rows c.in-Some.ensures.number.1)

pub ending-preserved : goal.ending-preserved
ending-preserved c =
    let row = c.in-Some.ensures.number.0 in
    let gone : IsGone row.end.queue c.ending.pool c.end.new.pool = rw (c.in-Some.ensures.rows, c.in-Some.ensures.number.1) at c.end.ensures.pool in
    record {
      so_far = rw (c.end.ensures.rows, c.in-Some.ensures.rows)
          (expiring_more c.args.now c.in-Some.number c.ending.self.next row c.args.self.now.rows c.ending.self.rows c.args.pool.now c.ending.pool c.end.new.pool
          c.in-Some.ensures.table c.in-Some.ensures.number.1 c.in-Some.ensures.number.2 gone c.ending.invariant.so_far);
      next = c.end.ensures.next ∙ c.in-Some.ensures.next ∙ c.ending.invariant.next;
      reservation = c.end.ensures.reservation ∙ c.in-Some.ensures.reservation ∙ c.ending.invariant.reservation;
      kept = omega arith;
      made = c.end.ensures.made ∙ c.ending.invariant.made;
      room = omega arith;
      housed = c.end.ensures.housed;
    }

pub returns-in-None-clause-rows : goal.returns-in-None-clause-rows
returns-in-None-clause-rows c =
    c.in-None.ensures.rows ∙ (expiring_ends c.args.now c.args.self.now.rows c.ending.self.rows c.args.pool.now c.ending.pool c.in-None.ensures.number c.ending.invariant.so_far).0

pub returns-in-None-clause-pool : goal.returns-in-None-clause-pool
returns-in-None-clause-pool c = (expiring_ends c.args.now c.args.self.now.rows c.ending.self.rows c.args.pool.now c.ending.pool c.in-None.ensures.number c.ending.invariant.so_far).1

pub returns-in-None-clause-others : goal.returns-in-None-clause-others
returns-in-None-clause-others c =
    unexpired_stand c.args.now c.args.self.now.rows _ c.args.pool.now c.ending.pool c.requires (returns-in-None-clause-rows c) (returns-in-None-clause-pool c)
