use Rattle.std.proofs.Common.{sym, ◌∙◌, arith}
use Rattle.sm_acks.specs.Arena.{path_of, stanzas_at}
use Rattle.sm_acks.proofs.Paths.{drop_next, lacks_drop}
use Rattle.sm_acks.proofs.nodes.Ends.drop_first.Goals as goal

pub loop-preserved : goal.loop-preserved
loop-preserved c =
    let before = c.loop.invariant in
    let took = c.take.ensures in
    let i = c.loop.counter in
    let s = c.args.nodes.now.slots in
    let e = c.args.self.now in
    let split = sym before.path ∙ took.path in
    record {
      linked = took.linked;
      path = drop_next i (path_of s e) _ _ split;
      stanzas = drop_next i (stanzas_at s e) _ _ (sym before.stanzas ∙ took.stanzas);
      len = omega arith;
      others = λ at away. took.others at (rw split at (lacks_drop at i (path_of s e) away)).0 ∙ before.others at away;
      nodes = omega arith;
      capacity = took.capacity ∙ before.capacity;
    }
