use Rattle.std.proofs.Common.{map, sym, ap, ◌∙◌}
use Rattle.xml_names.proofs.Parted.{refused, past_refused}
use Rattle.xml_names.specs.Scopes.{scope_of}
use Rattle.xml_names.specs.Starts.{is_well_formed, past_limits}
use Rattle.xml_tokens.specs.RawTags.{attribute_of}
use Rattle.xml_names.proofs.starts.expand.Goals as goal

pub returns-then-not-branch-clause-refused : goal.returns-then-not-branch-clause-refused
returns-then-not-branch-clause-refused c =
    let scope = scope_of c.args.stack.now in
    let own = c.args.parted.bindings.items in
    let others = map attribute_of c.args.parted.others.items in
    refused c.args.limits c.args.count scope c.args.spelled.now own others c.args.empty
    (ap (λ p. is_well_formed scope p own others) (sym (c.prefix_or_nothing.ensures ∙ c.split_prefix.ensures.prefix)) ∙ sym c.in_ok-is_well_formed.ensures ∙ c.if-not-branch.true)

pub returns-in-Some-clause-refused : goal.returns-in-Some-clause-refused
returns-in-Some-clause-refused c =
    let scope = scope_of c.args.stack.now in
    let own = c.args.parted.bindings.items in
    let others = map attribute_of c.args.parted.others.items in
    past_refused c.args.limits c.args.count scope c.args.spelled.now own others c.args.empty c.in-Some.why
    (ap (λ p. is_well_formed scope p own others) (sym (c.prefix_or_nothing.ensures ∙ c.split_prefix.ensures.prefix)) ∙ sym c.in_ok-is_well_formed.ensures ∙ c.if-not-branch.false)
    (ap (past_limits c.args.limits c.args.count) (sym c.as_slice-2.ensures.value) ∙ sym c.past_limits.ensures ∙ c.in-Some.is)
