use Rattle.std.proofs.Common.{true≢false, ◌+◌, drop, refl, sym, ◌∙◌, arith}
use Rattle.std.proofs.lemmas.List.{drop_all}
use Rattle.std.specs.Option.{option_copied}
use Rattle.xml_trees.proofs.RuleSteps.{drop_item, in_order_step, one_in_order}
use Rattle.xml_trees.proofs.attributes.are_in_order.Goals as goal

pub returns-then-not-stands_above : goal.returns-then-not-stands_above
returns-then-not-stands_above c =
    let at = c.loop-attr in
    let item = c.attr-item.result in
    let was = rw (drop_item c.args.attrs.now at.attr-index item (omega arith) c.attr-item.is) at at.invariant in
    let step = in_order_step (option_copied at.before) item (drop (at.attr-index + 1) c.args.attrs.now) in (
      λ f. absurd (true≢false (sym f)),
      λ h. sym c.if-not-stands_above.true ∙ c.stands_above.ensures ∙ (step.0 (was.1 h)).0,
    )

pub loop-attr-preserved : goal.loop-attr-preserved
loop-attr-preserved c =
    let at = c.loop-attr in
    let item = c.attr-item.result in
    let was = rw (drop_item c.args.attrs.now at.attr-index item (omega arith) c.attr-item.is) at at.invariant in
    let step = in_order_step (option_copied at.before) item (drop (at.attr-index + 1) c.args.attrs.now) in (
      λ h. was.0 (step.1 (sym c.stands_above.ensures ∙ c.if-not-stands_above.false, h)),
      λ h. (step.0 (was.1 h)).1,
    )

pub returns : goal.returns
returns c =
    let at = c.loop-attr in
    let was = rw (drop_all at.attr-index c.args.attrs.now c.loop-attr-test.false) at at.invariant in
    (λ _. was.0 (one_in_order (option_copied at.before)), λ _. refl)
