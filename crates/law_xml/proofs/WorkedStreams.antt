-- The grammar of streams at streams that were worked out beforehand.
use Rattle.std.proofs.Common.{◌≡◌, ℕ, inl, ⊎_elim, true, false, List, [], ◌∷◌, ◌++◌, codes, Ok, refl}
use Rattle.std.proofs.lemmas.Str.{IsUtf8-from_is_utf8}
use Rattle.std.specs.List.Sorted.{IsStrictlySortedBy}
use Rattle.std.specs.Str.{is_utf8, chars}
use lib.Utf8.{encode}
use Rattle.xml_tokens.specs.Characters.{are_characters}
use Rattle.xml_tokens.specs.Declarations.{declaration_of, has_other, is_good, is_utf8_label}
use Rattle.xml_tokens.specs.Spelling.{text_byte, value_byte}
use Rattle.xml_tokens.specs.Tags.{IsTag, end_tag, tag_of, start_at, inside_of, spelled_at, is_qualified}
use Rattle.xml_tokens.specs.Values.{value_of}
use Rattle.xml_tokens.specs.declared.declarations.Declaration.TheVariants as declaration
use Rattle.xml_names.proofs.StartLaws as laws
use Rattle.xml_names.specs.Declarations.{declared_prefix, may_declare}
use Rattle.xml_names.specs.Expansion.{attribute_ns, element_ns, expanded_name}
use Rattle.xml_names.specs.Headers.{header_of}
use Rattle.xml_names.specs.Names.{local_of, prefix_of}
use Rattle.xml_names.specs.Scopes.{Scope, bound}
use Rattle.xml_names.specs.Starts.{Tag, attributes_in, parted_tag, past_limits, start_of}
use Rattle.xml_names.specs.declared.headers.Header.{Header}
use Rattle.xml_names.specs.declared.limits.TagLimits.{TagLimits}
use Rattle.xml_writer.specs.Canon.{streams_namespace}
use Rattle.law_xml.specs.Spells.{SpellsTop, bind, filled, text_alone}
use Rattle.law_xml.specs.Streams.{InForce, IsDeclared, IsStream, SpellsHeaderIn, StreamTo, declared, ended, headed, headed_and_ended, nothing, white_space, with_element}
use Rattle.law_xml.specs.Texts.{IsText, data_alone}
use Rattle.xml_trees.specs.Trees.{Elem, element, no_nodes, text}
use Rattle.xml_framer.specs.declared.items.Item.{Item}
use Rattle.xml_framer.specs.declared.items.Item.TheVariants as item
use Rattle.xml_framer.specs.declared.states.Phase.{Phase}
use Rattle.xml_framer.specs.declared.states.Phase.TheVariants as phase

abbrev limits : TagLimits
limits = record { attributes = 9; namespace_bytes = 99 }

abbrev in_force : Phase → Scope → List ℕ → InForce
in_force p scope name = record { phase = p; scope = scope; name = name }

-- ---- a declaration, a header of any name, an element, a footer, with white space between

abbrev declaration_bytes : List ℕ
declaration_bytes = codes "<?xml version='1.0'?>"

declaration_is : declaration_of declaration_bytes ≡ declaration.Good
unfolding declaration_of has_other is_good is_utf8_label spelled_at is_qualified are_characters is_utf8 chars encode
declaration_is = refl

abbrev header_tag : Tag
header_tag = record { spelled = codes "a"; ns = []; name = codes "a"; attributes = []; bindings = bind (codes "p") (codes "u") ∷ []; empty = false }

header_is : start_of limits [] (codes "<a xmlns:p='u'>") ≡ Ok header_tag
unfolding start_of parted_tag attributes_in past_limits element_ns attribute_ns expanded_name bound prefix_of local_of declared_prefix may_declare tag_of start_at inside_of spelled_at is_qualified value_of are_characters is_utf8 chars encode value_byte text_byte
header_is = refl

abbrev scope : Scope
scope = bind (codes "p") (codes "u") ∷ []

abbrev inner_tag : Tag
inner_tag = record { spelled = codes "p:b"; ns = codes "u"; name = codes "b"; attributes = []; bindings = []; empty = false }

inner_is : start_of limits scope (codes "<p:b>") ≡ Ok inner_tag
unfolding start_of parted_tag attributes_in past_limits element_ns attribute_ns expanded_name bound prefix_of local_of declared_prefix may_declare tag_of start_at inside_of spelled_at is_qualified value_of are_characters is_utf8 chars encode value_byte text_byte
inner_is = refl

text_is : IsText (codes "x") (codes "x")
unfolding are_characters is_utf8 chars encode
text_is = record {
  characters = record { utf8 = IsUtf8-from_is_utf8 (codes "x") refl; characters = refl };
  spelled = data_alone (codes "x") (codes "x") (record { no_markup = refl; no_section_end = refl }) refl;
}

inner_ends : IsTag (codes "</p:b>") (end_tag (codes "p:b"))
unfolding is_qualified are_characters is_utf8 chars encode
inner_ends = record { space = []; bytes_are = refl; name_is = refl; space_white = refl }

footer_is : IsTag (codes "</a>") (end_tag (codes "a"))
unfolding is_qualified are_characters is_utf8 chars encode
footer_is = record { space = []; bytes_are = refl; name_is = refl; space_white = refl }

abbrev inner : Elem
inner = element (codes "u") (codes "b") [] (text (codes "x") no_nodes)

inner_spelled : SpellsTop scope (codes "<p:b>x</p:b>") inner
unfolding IsStrictlySortedBy
inner_spelled =
    let start = (laws.read limits scope (codes "<p:b>") inner_tag).0 inner_is in
    record {
      spelled = filled scope _ inner start.0 inner_tag (codes "<p:b>") (codes "x") (codes "</p:b>") (text (codes "x") no_nodes)
          start.1 refl (text_alone scope (codes "x") (text (codes "x") no_nodes) (codes "x") text_is refl) inner_ends refl
          (record { attributes = []; sorted = record { ascending = tt; firsts = λ ns name. refl }; is = refl });
      no_header = λ n. let is = n.0 in cc;
    }

abbrev front : List ℕ
front = declaration_bytes ++ 10 ∷ []

declared_front : StreamTo (in_force phase.FirstDeclared [] []) front []
declared_front =
    white_space _ front [] declaration_bytes (10 ∷ [])
    (declared _ declaration_bytes [] (in_force phase.First [] []) [] declaration_bytes (nothing _ [] [] refl refl refl refl refl) (inl (refl, refl)) refl refl declaration_is refl) refl refl

-- the header has the place behind the declaration and the line feed
abbrev header_item : Item
header_item = item.Header 22 (header_of header_tag)

headed_front : StreamTo (in_force phase.Between scope (codes "a")) (front ++ codes "<a xmlns:p='u'>") (header_item ∷ [])
headed_front =
    let start = (laws.read limits [] (codes "<a xmlns:p='u'>") header_tag).0 header_is in
    headed _ _ _ (in_force phase.FirstDeclared [] []) front (codes "<a xmlns:p='u'>") [] (header_of header_tag) declared_front
    (record { raw = start.0; tag = header_tag; start = start.1; not_empty = refl; name_is = refl; scope_is = refl; says = refl }) refl refl refl

whole : IsStream (codes "<?xml version='1.0'?>" ++ 10 ∷ codes "<a xmlns:p='u'><p:b>x</p:b> </a>" ++ 10 ∷ []) (header_item ∷ item.Element inner ∷ item.Footer ∷ [])
whole = (
  in_force phase.Ended scope (codes "a"),
  white_space _ _ _ (front ++ codes "<a xmlns:p='u'><p:b>x</p:b> </a>") (10 ∷ [])
      (ended _ _ _ (in_force phase.Between scope (codes "a")) (front ++ codes "<a xmlns:p='u'><p:b>x</p:b> ") (codes "</a>") (header_item ∷ item.Element inner ∷ [])
      (white_space _ _ _ (front ++ codes "<a xmlns:p='u'><p:b>x</p:b>") (32 ∷ [])
      (with_element _ _ _ (front ++ codes "<a xmlns:p='u'>") (codes "<p:b>x</p:b>") (header_item ∷ []) inner headed_front refl inner_spelled refl refl) refl refl)
      refl footer_is refl refl refl refl refl) refl refl,
)

-- ---- a tag that is header and footer

abbrev only_bytes : List ℕ
only_bytes = codes "<s:stream xmlns:s='http://etherx.jabber.org/streams'/>"

abbrev only_tag : Tag
only_tag = record { spelled = codes "s:stream"; ns = streams_namespace; name = codes "stream"; attributes = []; bindings = bind (codes "s") streams_namespace ∷ []; empty = true }

only_is : start_of limits [] only_bytes ≡ Ok only_tag
unfolding start_of parted_tag attributes_in past_limits element_ns attribute_ns expanded_name bound prefix_of local_of declared_prefix may_declare tag_of start_at inside_of spelled_at is_qualified value_of are_characters is_utf8 chars encode value_byte text_byte
only_is = refl

again_is : start_of limits scope only_bytes ≡ Ok only_tag
unfolding start_of parted_tag attributes_in past_limits element_ns attribute_ns expanded_name bound prefix_of local_of declared_prefix may_declare tag_of start_at inside_of spelled_at is_qualified value_of are_characters is_utf8 chars encode value_byte text_byte
again_is = refl

-- behind a header, and so inside its scope, but with the tag's own declarations alone
again : IsStream (front ++ codes "<a xmlns:p='u'>" ++ only_bytes) (header_item ∷ item.Header 37 (header_of only_tag) ∷ item.Footer ∷ [])
again =
    let first = (laws.read limits [] only_bytes only_tag).0 only_is in
    let next = (laws.read limits scope only_bytes only_tag).0 again_is in (
      in_force phase.Ended (bind (codes "s") streams_namespace ∷ []) (codes "s:stream"),
      headed_and_ended _ _ _ (in_force phase.Between scope (codes "a")) (front ++ codes "<a xmlns:p='u'>") only_bytes (header_item ∷ []) (header_of only_tag) headed_front
          (record {
            spelled = record { raw = first.0; tag = only_tag; start = first.1; is_empty = refl; name_is = refl; scope_is = refl; says = refl };
            raw = next.0;
            tag = only_tag;
            start = next.1;
            named = (refl, refl);
          })
          refl refl refl,
    )

-- ---- what may not stand

no_second_declaration : (p : Phase) → ¬ (IsDeclared phase.FirstDeclared p)
no_second_declaration p h = ⊎_elim (λ x. let is = x.0 in cc) (λ x. let is = x.0 in cc) h

no_declaration_at_the_end : (p : Phase) → ¬ (IsDeclared phase.Ended p)
no_declaration_at_the_end p h = ⊎_elim (λ x. let is = x.0 in cc) (λ x. let is = x.0 in cc) h

no_header_at_the_end : (bytes name : List ℕ) (own : Scope) (h : Header) → ¬ (SpellsHeaderIn phase.Ended scope bytes name own h)
no_header_at_the_end bytes name own h spelled = spelled
