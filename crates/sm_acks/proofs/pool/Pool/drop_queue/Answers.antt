use Rattle.std.proofs.Common.{Some, ap, ◌∙◌, drop}
use Rattle.sm_acks.specs.Queues.{list_of}
use Rattle.sm_acks.proofs.Paths.{drop_all}
use Rattle.sm_acks.proofs.pool.Pool.drop_queue.Goals as goal

pub forget-requires : goal.forget-requires
forget-requires c =
    let all = list_of c.args.queue c.args.self.now in
    c.drop_front.ensures.queue ∙ ap Some (ap (λ n. drop n all) c.len-count.ensures ∙ drop_all all)
