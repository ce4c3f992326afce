use Rattle.sm_outbox.proofs.NumberedSubmissions.{part_kept}
use Rattle.sm_outbox.specs.declared.said.SaidState.TheVariants.{Undecided}
use Rattle.sm_outbox.proofs.submissions.Submissions.give_up.Goals as goal

pub invariant_of-self : goal.invariant_of-self
invariant_of-self c = (
  c.settle_part.ensures.within.1,
  part_kept Undecided c.self.inside.items.items c.settle_part.new.items.items c.self.inside.settled c.len-end.result c.self.inside.epoch c.self.inside.n c.settle_part.ensures.within.0 c.settle_part.ensures.items c.self.invariant.1,
)
