use Rattle.std.proofs.Common.{sym, subst, ◌∙◌}
use Rattle.sm_live.proofs.Reservations.{number_low}
use Rattle.sm_resumption.proofs.HousedFacts.{housed_made}
use Rattle.sm_resumption.specs.Housed.{IsFree, IsHoused}
use Rattle.sm_live.proofs.live.Live.reserve_session.Goals as goal

pub invariant_of-self-2 : goal.invariant_of-self-2
invariant_of-self-2 c =
    let made = subst (λ rows. IsHoused rows c.make_queue.new.self × IsFree c.in_ok-queue.queue rows c.make_queue.new.self) (sym c.in_ok-reserve.ensures.rows)
    (housed_made c.in_ok-queue.queue c.self.inside.table.rows c.self.inside.pool c.make_queue.new.self c.in_ok-queue.ensures.fresh c.in_ok-queue.ensures.queue c.in_ok-queue.ensures.others c.self.invariant.0) in
    let low = number_low c.next_number.result c.self.inside.table.next c.reserve.new.self.next c.next_number.ensures c.in_ok-reserve.ensures.next c.if-next_number.false c.keeps_rule.ensures.fits in (
      made.0,
      record { room = c.in_ok-reserve.ensures.spare; account = c.in_ok-reserve.ensures.reservation; number = low; free = made.1 },
      c.in_ok-queue.ensures.made ∙ sym c.in_ok-queue.ensures.number,
    )
