use Rattle.std.proofs.Common.{subst}
use Rattle.xml_names.proofs.NameLaws.{is_name_of, parts_of}
use Rattle.xml_names.specs.Names.{IsName, prefix_of}
use Rattle.xml_names.proofs.laws.names_are_split.Goals as goal

pub returns : goal.returns
returns c =
    λ name prefix local. (parts_of name prefix local, λ h. subst (λ p. IsName name p local) h.0 (subst (IsName name (prefix_of name)) h.1 (is_name_of name)))
