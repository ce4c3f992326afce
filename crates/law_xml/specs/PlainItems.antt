-- The scopes that streams put in force, and the items that can be written again (XML 1.0, section 2.2; Namespaces in XML
-- 1.0, sections 3 and 5).
use Rattle.std.specs.List.{AllByRecursion}
use Rattle.xml_tokens.specs.Lines.{IsCharacters}
use Rattle.xml_names.specs.Declarations.{MayDeclare}
use Rattle.xml_names.specs.Scopes.{Scope}
use Rattle.xml_names.specs.declared.scopes.Binding.{Binding}
use Rattle.xml_framer.specs.declared.items.Item.{Item}
use Rattle.xml_framer.specs.declared.items.Item.TheVariants as item
use Rattle.law_xml.specs.Plain.{IsPlain, IsPlainHeader}

-- what a declaration may bind, and a text of XML's characters
pub record IsPlainBinding (b : Binding) : Type 0 where
  pub characters : IsCharacters b.ns
  pub may : MayDeclare b

abbrev pub IsPlainScope : Scope → Type 0
IsPlainScope scope = AllByRecursion IsPlainBinding scope

-- a header whose values have a spelling, a plain element, or a footer
abbrev pub IsPlainItem : Item → Type 0
IsPlainItem (item.Header at h) = IsPlainHeader h
IsPlainItem (item.Element e) = IsPlain e
IsPlainItem item.Footer = Unit {0}
