use Rattle.std.proofs.Common.{◌≡◌, ◌-◌, true, arith, refl}
use Rattle.std.proofs.lemmas.Bool.{false≢true}
use Rattle.std.proofs.lemmas.List.Elements.{pair_read}
use Rattle.std.specs.Ordering.{eq_by_cmp}
use Rattle.base_lemmas.proofs.DistinctItems.{IsDistinct-in_order, neighbour_repeated}
use Rattle.base_lemmas.proofs.distinct.neighbours_differ.Goals as goal

pub returns-then-eq : goal.returns-then-eq
returns-then-eq g c = (
  λ never. absurd (false≢true never),
  λ h.
      let xs = c.args.items.now in
      let x = c.index-items-later.result in
      let y = c.index-items-later-in-loop-later.result in
      let alike : eq_by_cmp g.T.Ord.cmp x y ≡ true = cc (g.met.T.Ord.matches_eq x y, c.eq.ensures, c.if-eq.true) in
      let at_their_positions = pair_read xs (λ a b. eq_by_cmp g.T.Ord.cmp a b ≡ true) (c.loop-later.later - 1) c.loop-later.later x y (omega arith) c.loop-later-test.true c.index-items-later.is c.index-items-later-in-loop-later.is alike x in
      absurd (neighbour_repeated g.T.Ord.cmp xs (c.loop-later.later - 1) c.loop-later.later x (omega arith) c.loop-later-test.true at_their_positions h),
)

pub returns : goal.returns
returns g c = (λ _. IsDistinct-in_order g.met.T.Ord.total c.args.items.now c.requires (λ k d h. c.loop-later.invariant k d (omega arith)), λ _. refl)
