use Rattle.im_forwarding.proofs.TreeLaws.{copy_IsTree, entry_IsTree, passed_IsTree}
use Rattle.im_forwarding.proofs.laws.what_is_passed_on_is_a_tree.Goals as goal

pub returns : goal.returns
returns c = record { passed = passed_IsTree; copy = copy_IsTree; result = entry_IsTree }
