-- The elements that have a spelling (XML 1.0, section 2.2; Namespaces in XML 1.0, section 3).
use Rattle.std.specs.Prelude.{ℕ, ◌≡◌, ◌≢◌, true, List, [], codes, IfSome}
use Rattle.std.specs.List.{AllByRecursion}
use Rattle.xml_tokens.specs.Characters.{is_name}
use Rattle.xml_names.specs.Scopes.{xmlns_namespace}
use Rattle.xml_names.specs.declared.headers.Header.{Header}
use Rattle.xml_trees.specs.Attributes.{Attribute}
use Rattle.law_xml.specs.Spells.{IsHeaderName}
use Rattle.xml_tokens.specs.Lines.{IsCharacters}
use Rattle.xml_trees.specs.Trees.{Elem, element, Nodes, no_nodes, child, text, namespace_of, name_of}

-- a name of XML's characters without a colon (NCName)
pub record IsPlainName (name : List ℕ) : Type 0 where
  pub characters : IsCharacters name
  pub is_name : is_name name ≡ true

-- The name that `xmlns` is bound to names no attribute, and `xmlns` alone is a declaration.
pub record IsPlainAttribute (a : Attribute) : Type 0 where
  pub ns : IsCharacters a.ns
  pub name : IsPlainName a.name
  pub value : IsCharacters a.value
  pub not_xmlns : a.ns ≢ xmlns_namespace
  pub no_declaration : a.ns ≡ [] → a.name ≢ codes "xmlns"

-- No element has the prefix `xmlns`.
pub record HasPlainName (ns name : List ℕ) : Type 0 where
  pub characters : IsCharacters ns
  pub name_is : IsPlainName name
  pub not_xmlns : ns ≢ xmlns_namespace

abbrev mutual
  pub IsPlainElement : Elem → Type 0
  IsPlainElement (element ns name attrs kids) = HasPlainName ns name × AllByRecursion IsPlainAttribute attrs × ArePlainNodes kids

  pub ArePlainNodes : Nodes → Type 0
  ArePlainNodes no_nodes = Unit {0}
  ArePlainNodes (child e rest) = IsPlainElement e × ArePlainNodes rest
  ArePlainNodes (text t rest) = IsCharacters t × ArePlainNodes rest

-- a plain element whose tag is no header's
pub record IsPlain (e : Elem) : Type 0 where
  pub inside : IsPlainElement e
  pub no_header : ¬ (IsHeaderName (namespace_of e) (name_of e))

-- a header whose values have a spelling
pub record IsPlainHeader (h : Header) : Type 0 where
  pub to : IfSome h.to IsCharacters
  pub from : IfSome h.from IsCharacters
  pub id : IfSome h.id IsCharacters
  pub version : IfSome h.version IsCharacters
  pub lang : IfSome h.lang IsCharacters
