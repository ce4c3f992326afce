use Rattle.xml_names.proofs.NameLaws.{may_from_test, test_from_may}
use Rattle.xml_names.proofs.laws.declarations_are_tested.Goals as goal

pub returns : goal.returns
returns c = λ b. (may_from_test b, test_from_may b)
