use Rattle.std.proofs.Common.{◌++◌, Some, ap, sym, ◌∙◌}
use Rattle.xml_names.proofs.SpelledNames.{plain_expanded}
use Rattle.xml_names.specs.Scopes.{scope_of}
use Rattle.xml_names.proofs.expansion.expanded_attributes.Goals as goal

pub returns : goal.returns
returns c =
    ap Some c.in_ok-plain_attributes.ensures ∙ sym (plain_expanded (c.args.own.now ++ scope_of c.args.stack.now) c.args.others.items (sym c.requires ∙ c.if-prefixed.false))
