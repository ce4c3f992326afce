use Rattle.std.proofs.Common.{◌≡◌, ◌++◌, drop, map}
use Rattle.std.specs.Option.{is_some}
use Rattle.xml_names.specs.Scopes.{scope_of}
use Rattle.xml_names.specs.Starts.{attributes_in}
use Rattle.xml_tokens.specs.RawTags.{attribute_of}
use Rattle.xml_names.proofs.pairs.have_names_in_pairs.Given as goal

-- what is left decides
abbrev pub invariant-loop-at : goal.invariant-loop-at
invariant-loop-at l =
    is_some (attributes_in (l.own ++ scope_of l.stack) (map attribute_of (drop l.at l.others)))
    ≡ is_some (attributes_in (l.own ++ scope_of l.stack) (map attribute_of l.others))
