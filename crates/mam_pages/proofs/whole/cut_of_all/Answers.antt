use Rattle.std.proofs.Common.{◌≡◌, ℕ, zero, suc, ◌-◌, ◌≤◌, refl, arith}
use Rattle.mam_pages.proofs.Behind.{cut_after, position_by}
use Rattle.mam_pages.proofs.whole.cut_of_all.Goals as goal

position_is : (r base following count : ℕ) → (count ≡ 0 → r ≡ 0) → (1 ≤ count → r ≡ following - base) → r ≡ position_by base following count
position_is r base following zero none some = none refl
position_is r base following (suc count) none some = some (omega arith)

pub returns : goal.returns
returns c =
    cut_after c.args.span.now (c.args.first - 1) (c.args.last - (c.args.first - 1)) c.max-before.result c.saturating_sub-found.result
    c.min-count.result c.first_after-following.result c.position.result c.in_ok-next_numbers.field-0.items
    c.max-before.ensures (omega (arith, c.requires.first, c.requires.last, c.requires.through)) c.saturating_sub-found.ensures c.min-count.ensures
    c.first_after-following.ensures
    (position_is c.position.result (c.args.first - 1) c.first_after-following.result c.min-count.result c.position.ensures.none c.position.ensures.some)
    c.in_ok-next_numbers.ensures
