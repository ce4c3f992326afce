-- A spelling of an element that is within limits: `spelled_items_are_read` says something of it.
use Rattle.std.proofs.Common.{[], ◌∷◌, codes, arith}
use Rattle.xml_names.proofs.StartLaws as laws
use Rattle.law_xml.proofs.WorkedGrammar.{inner, inner_is, inner_spelled, inner_tag, inside, kids, outer, outer_is, outer_tag, spelled}
use Rattle.xml_trees.specs.Attributes.{attribute}
use Rattle.xml_writer.specs.Canon.{client_namespace}
use Rattle.law_xml.specs.Spells.{written_scope}
use Rattle.xml_framer.specs.TagSteps.{tag_limits}
use Rattle.xml_trees.specs.Trees.{element}
use Rattle.law_xml.specs.Within.{IsElementWithin}
use Rattle.xml_framer.specs.declared.limits.Limits.{Limits}

-- as many bytes and levels as the element has
abbrev just_enough : Limits
just_enough = record { bytes = 48; depth = 2; attributes = 9; namespace_bytes = 99 }

within : IsElementWithin just_enough written_scope (codes "<a b = \"1\" xmlns:p='u' ><p:c/><![CDATA[x]]></a >") (element client_namespace (codes "a") (attribute [] (codes "b") (codes "1") ∷ []) kids) spelled
unfolding spelled inner_spelled
within = record {
  short = omega arith;
  shallow = omega arith;
  tags = (((laws.read (tag_limits just_enough) written_scope outer outer_tag).0 outer_is).2, (((laws.read (tag_limits just_enough) inside inner inner_tag).0 inner_is).2, tt));
}
