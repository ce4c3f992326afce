use Rattle.std.proofs.Common.{◌≡◌, ◌+◌, ◌-◌, IfOk, subst, refl, arith}
use Rattle.mam_pages.proofs.ChainNumbers.{numbers_rise}
use Rattle.mam_pages.proofs.StretchCuts.{backward_page, backward_start, forward_page, forward_start}
use Rattle.mam_pages.specs.Kept.{last_number}
use Rattle.mam_pages.specs.Stretches.{chain_numbers}
use Rattle.mam_pages.proofs.stretch.numbers_of_stretch.Goals as goal

pub returns-then-span-clause-numbers : goal.returns-then-span-clause-numbers
returns-then-span-clause-numbers g c peer last reach stretch =
    let kept = g.V.Look.archive c.args.look.now in
    let ns = chain_numbers kept peer in
    let s = c.args.stretch.now in
    let position = s.skipped + s.found - 1 in
    subst (λ t. IfOk c.numbers_up_to.result (λ numbers. numbers.items ≡ t))
    (backward_page c.args.span.now (last_number kept.entries) last position ns s c.args.count c.if-span.true (numbers_rise kept peer c.requires.consecutive) reach stretch c.requires.count (omega (arith, c.if-count-eq0.false)) refl)
    (c.numbers_up_to.ensures.numbers peer position (backward_start c.args.span.now ns s c.args.count c.if-span.true stretch c.requires.count (omega (arith, c.if-count-eq0.false)))
    (omega (arith, c.requires.count, c.if-count-eq0.false)))

pub returns-else-span-clause-numbers : goal.returns-else-span-clause-numbers
returns-else-span-clause-numbers g c peer last reach stretch =
    let kept = g.V.Look.archive c.args.look.now in
    let ns = chain_numbers kept peer in
    let s = c.args.stretch.now in
    subst (λ t. IfOk c.numbers_from.result (λ numbers. numbers.items ≡ t))
    (forward_page c.args.span.now ns s c.args.count c.if-span.false stretch c.requires.count)
    (c.numbers_from.ensures.numbers peer s.skipped (forward_start c.args.span.now ns s c.args.count c.if-span.false stretch c.requires.count (omega (arith, c.if-count-eq0.false)))
    (omega (arith, c.requires.count, stretch.room)))
