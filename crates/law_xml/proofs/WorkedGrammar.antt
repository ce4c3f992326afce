-- The grammar of elements at a spelling that isn't the one that is written: double quotes, white space, a prefix, a CDATA
-- section.
use Rattle.std.proofs.Common.{◌≡◌, ℕ, true, false, List, [], ◌∷◌, ◌++◌, codes, Ok, refl}
use Rattle.std.proofs.lemmas.Str.{IsUtf8-from_is_utf8}
use Rattle.std.specs.List.Sorted.{IsStrictlySortedBy}
use Rattle.std.specs.Str.{is_utf8, chars}
use lib.Utf8.{encode}
use Rattle.xml_tokens.specs.Characters.{are_characters}
use Rattle.xml_tokens.specs.Spelling.{text_byte, value_byte}
use Rattle.xml_tokens.specs.Tags.{IsTag, end_tag, tag_of, start_at, inside_of, spelled_at, is_qualified}
use Rattle.xml_tokens.specs.Values.{value_of}
use Rattle.xml_names.proofs.StartLaws as laws
use Rattle.xml_names.specs.Declarations.{declared_prefix, may_declare}
use Rattle.xml_names.specs.Expansion.{attribute_ns, element_ns, expanded_name}
use Rattle.xml_names.specs.Names.{local_of, prefix_of}
use Rattle.xml_names.specs.Scopes.{Scope, bound}
use Rattle.xml_names.specs.Starts.{Tag, attributes_in, parted_tag, past_limits, start_of}
use Rattle.xml_names.specs.declared.limits.TagLimits.{TagLimits}
use Rattle.xml_trees.specs.Attributes.{attribute}
use Rattle.xml_writer.specs.Canon.{client_namespace}
use Rattle.law_xml.specs.Spells.{Spells, SpellsContent, bind, empty, filled, text_alone, with_element, written_scope}
use Rattle.law_xml.specs.Texts.{IsText, data_alone, with_section}
use Rattle.xml_trees.specs.Trees.{Elem, element, Nodes, no_nodes, child, text}
use Rattle.law_xml.proofs.SpelledTexts.{no_text}

abbrev pub limits : TagLimits
limits = record { attributes = 9; namespace_bytes = 99 }

abbrev pub outer : List ℕ
outer = codes "<a b = \"1\" xmlns:p='u' >"

abbrev pub outer_tag : Tag
outer_tag = record { spelled = codes "a"; ns = client_namespace; name = codes "a"; attributes = record { ns = []; name = codes "b"; value = codes "1" } ∷ []; bindings = bind (codes "p") (codes "u") ∷ []; empty = false }

pub outer_is : start_of limits written_scope outer ≡ Ok outer_tag
unfolding start_of parted_tag attributes_in past_limits element_ns attribute_ns expanded_name bound prefix_of local_of declared_prefix may_declare tag_of start_at inside_of spelled_at is_qualified value_of are_characters is_utf8 chars encode value_byte text_byte
outer_is = refl

abbrev pub inside : Scope
inside = bind (codes "p") (codes "u") ∷ written_scope

abbrev pub inner : List ℕ
inner = codes "<p:c/>"

abbrev pub inner_tag : Tag
inner_tag = record { spelled = codes "p:c"; ns = codes "u"; name = codes "c"; attributes = []; bindings = []; empty = true }

pub inner_is : start_of limits inside inner ≡ Ok inner_tag
unfolding start_of parted_tag attributes_in past_limits element_ns attribute_ns expanded_name bound prefix_of local_of declared_prefix may_declare tag_of start_at inside_of spelled_at is_qualified value_of are_characters is_utf8 chars encode value_byte text_byte
inner_is = refl

abbrev pub section : List ℕ
section = codes "<![CDATA[x]]>"

abbrev pub inner_element : Elem
inner_element = element (codes "u") (codes "c") [] no_nodes

unfoldable pub inner_spelled : Spells inside inner inner_element
unfolding IsStrictlySortedBy
inner_spelled =
    let start = (laws.read limits inside inner inner_tag).0 inner_is in
    empty inside inner inner_element start.0 inner_tag start.1 refl (record { attributes = []; sorted = record { ascending = tt; firsts = λ ns name. refl }; is = refl })

pub section_is : IsText section (codes "x")
unfolding are_characters is_utf8 chars encode
section_is = record {
  characters = record { utf8 = IsUtf8-from_is_utf8 section refl; characters = refl };
  spelled = with_section section (codes "x") [] (codes "x") [] [] (record { no_markup = refl; no_section_end = refl }) refl (data_alone [] [] (record { no_markup = refl; no_section_end = refl }) refl) refl refl;
}

pub close_is : IsTag (codes "</a >") (end_tag (codes "a"))
unfolding is_qualified are_characters is_utf8 chars encode
close_is = record { space = 32 ∷ []; bytes_are = refl; name_is = refl; space_white = refl }

abbrev pub kids : Nodes
kids = child inner_element (text (codes "x") no_nodes)

unfoldable pub spelled : Spells written_scope (codes "<a b = \"1\" xmlns:p='u' ><p:c/><![CDATA[x]]></a >") (element client_namespace (codes "a") (attribute [] (codes "b") (codes "1") ∷ []) kids)
unfolding IsStrictlySortedBy
spelled =
    let start = (laws.read limits written_scope outer outer_tag).0 outer_is in
    let content : SpellsContent inside (inner ++ section) kids =
    with_element inside (inner ++ section) kids [] [] inner section inner_element (text (codes "x") no_nodes) no_text inner_spelled (text_alone inside section (text (codes "x") no_nodes) (codes "x") section_is refl) refl refl in
    filled written_scope (codes "<a b = \"1\" xmlns:p='u' ><p:c/><![CDATA[x]]></a >") (element client_namespace (codes "a") (attribute [] (codes "b") (codes "1") ∷ []) kids) start.0 outer_tag
    outer (inner ++ section) (codes "</a >") kids start.1 refl content close_is refl
    (record { attributes = attribute [] (codes "b") (codes "1") ∷ []; sorted = record { ascending = (tt, tt); firsts = λ ns name. refl }; is = refl })
