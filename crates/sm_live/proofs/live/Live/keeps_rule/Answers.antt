use Rattle.std.proofs.Common.{subst}
use Rattle.sm_live.proofs.Seen.{rule_seen}
use Rattle.sm_live.specs.Kept.{LiveView}
use Rattle.sm_live.specs.Rule.{IsRule}
use Rattle.sm_live.proofs.live.Live.keeps_rule.Goals as goal

pub returns : goal.returns
returns c = subst (λ (l : LiveView). IsRule l.sessions l.next) c.self.view_is (rule_seen c.self.inside.table.next c.self.inside.pool c.self.inside.table.rows c.keeps_rule.ensures c.self.invariant.0)
