use Rattle.std.proofs.Common.{◌≡◌, ◌++◌, drop}
use Rattle.std.specs.List.{list_any}
use Rattle.xml_names.specs.Expansion.{borrowed_name, expanded_name, is_same_if}
use Rattle.xml_names.specs.Scopes.{scope_of}
use Rattle.xml_names.proofs.pairs.some_is_named.Given as goal

-- what is left decides
abbrev pub invariant-loop-attribute : goal.invariant-loop-attribute
invariant-loop-attribute l =
    list_any (λ a. is_same_if (borrowed_name l.name) (expanded_name (l.own ++ scope_of l.stack) a.name.now)) (drop l.attribute-index l.others)
    ≡ list_any (λ a. is_same_if (borrowed_name l.name) (expanded_name (l.own ++ scope_of l.stack) a.name.now)) l.others
