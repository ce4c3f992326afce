use Rattle.std.proofs.Common.{sym, ◌∙◌}
use Rattle.std.proofs.lemmas.Result.{IfOk-weaker}
use Rattle.im_forwarding.proofs.KeptNodes.{none_given, some_given}
use Rattle.xml_trees.specs.Views.{nodes_view}
use Rattle.im_forwarding.proofs.passing.has_nothing.Goals as goal

pub returns-then-is_some : goal.returns-then-is_some
returns-then-is_some c = some_given c.args.filed.now.by.now c.args.filed.now.number (nodes_view c.args.payload.now) (sym c.if-is_some.ensures)

pub returns : goal.returns
returns c =
    IfOk-weaker c.says_nothing.result _ _
    (λ nothing e. e ∙ none_given c.args.filed.now.by.now c.args.filed.now.number (nodes_view c.args.payload.now) (sym c.if-is_some.ensures))
    c.says_nothing.ensures
