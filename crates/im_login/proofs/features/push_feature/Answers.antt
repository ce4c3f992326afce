use Rattle.std.proofs.Common.{◌≡◌, false, rules}
use Rattle.im_login.proofs.FeatureLaws.{not_offered}
use Rattle.xml_trees.specs.Views.{elem_view}
use Rattle.im_login.proofs.features.push_feature.Goals as goal

pub returns-then-not-offered-clause-ok : goal.returns-then-not-offered-clause-ok
returns-then-not-offered-clause-ok c =
    let off : c.args.offered ≡ false = search rules in
    not_offered (elem_view c.args.features.now) _ c.args.offered off
