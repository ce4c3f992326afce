use Rattle.std.proofs.Common.{◌≡◌, ◌+◌, length, ap, ◌∙◌}
use Rattle.std.specs.Prelude.{slice_get}
use Rattle.cmd_resolving.specs.Expansion.{Watching, observed_by}
use Rattle.cmd_deciding.proofs.Changed.{many_changed}
use Rattle.cmd_deciding.proofs.Looked.{next_looks, rest_look}
use Rattle.cmd_deciding.proofs.watch.Watch.look_at_all.Goals as goal

pub loop-index-preserved : goal.loop-index-preserved
loop-index-preserved c =
    let s = c.loop-index.self in
    let at = c.loop-index.index in
    record {
      world = ap (λ (t : Watching). t.world) c.look_at.ensures ∙ c.loop-index.invariant.world;
      many = ap (λ (t : Watching). length t.intents) c.look_at.ensures ∙ many_changed (observed_by (slice_get s.world.devices at)) at s.intents ∙ c.loop-index.invariant.many;
      whole = ap (λ (t : Watching). rest_look (at + 1) 0 t.world.devices t.intents) c.look_at.ensures ∙ next_looks at s.world.devices s.intents ∙ c.loop-index.invariant.whole;
    }
