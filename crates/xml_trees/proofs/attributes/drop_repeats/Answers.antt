use Rattle.std.proofs.Common.{rules}
use Rattle.std.proofs.lemmas.Fn.{dedup_same}
use Rattle.std.specs.Ordering.{eq_by_cmp}
use Rattle.xml_trees.specs.Attributes.{name_order}
use Rattle.xml_trees.proofs.attributes.drop_repeats.Goals as goal

pub returns : goal.returns
returns c = dedup_same _ (eq_by_cmp name_order) _ (λ x y b f' x' y' k. search rules) _ _ c.dedup_by.ensures.filtered
