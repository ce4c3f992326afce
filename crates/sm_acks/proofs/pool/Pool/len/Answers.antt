use Rattle.std.proofs.Common.{[], length, sym, ap, ◌∙◌}
use Rattle.std.specs.Option.{unwrap_or}
use Rattle.sm_acks.specs.Queues.{list_of}
use Rattle.sm_acks.proofs.Arenas.{listed}
use Rattle.sm_acks.proofs.Paths.{stanzas_length}
use Rattle.sm_acks.proofs.pool.Pool.len.Goals as goal

pub returns : goal.returns
returns c =
    let here = listed c.self.inside.nodes.slots c.self.inside.ends.entries c.args.queue c.ends_of.result c.ends_of.ensures in
    sym (stanzas_length c.self.inside.nodes.slots c.ends_of.result) ∙ ap (λ o. length (unwrap_or o [])) (sym here) ∙ ap (λ p. length (list_of c.args.queue p)) c.self.view_is
