use Rattle.std.proofs.Common.{arith, sym, ◌∙◌, inl, inr, ◌≡◌, ◌+◌, ◌-◌, ◌<◌, length}
use Rattle.net_owner.proofs.KeptPositions.{past_end}
use Rattle.net_owner.proofs.OwnerSteps.{is_started, no_start}
use Rattle.net_owner.proofs.stepping.started.Goals as goal
use Rattle.net_owner.proofs.stepping.started.Goals.{then-from-eq0-via-then-from-eq0, then-from-eq0-via-else-from-eq0+then-from-positions}

pub returns-then-from-eq0 : goal.returns-then-from-eq0
returns-then-from-eq0 g c = past_end c.args.positions.now c.args.from (elim c.then-from-eq0.branch [
  | then-from-eq0-via-then-from-eq0 w ↦ inl w.if-from-eq0.true
  | then-from-eq0-via-else-from-eq0+then-from-positions w ↦ inr w.if-from-positions.true
])

pub returns-then-is_some : goal.returns-then-is_some
returns-then-is_some g c = let not = c.if-from-eq0.false in let le = c.if-from-positions.false in let n = c.args.from in
    let back : n - 1 + 1 ≡ n = omega arith in let below : n - 1 < length c.args.positions.now = omega arith in
    (back, is_started c.args.positions.now (n - 1) c.index-positions-index.result below c.index-positions-index.is (sym c.is_some.ensures ∙ c.if-is_some.true))

pub returns-else-is_some : goal.returns-else-is_some
returns-else-is_some g c = no_start c.args.positions.now c.args.from c.index-positions-index.result c.if-from-eq0.false c.if-from-positions.false c.index-positions-index.is (sym c.is_some.ensures ∙ c.if-is_some.false)
