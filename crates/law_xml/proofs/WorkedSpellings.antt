-- The written spelling, evaluated at elements that were worked out beforehand.
use Rattle.std.proofs.Common.{true, false, true≢false, ℕ, List, ◌≡◌, [], ◌∷◌, ◌++◌, Some, None, refl}
use Rattle.std.specs.List.{list_all}
use Rattle.std.specs.Prelude.{codes, ◌==◌, ◌||◌, not}
use lib.Utf8.{encode}
use Rattle.xml_tokens.specs.References.{referred}
use Rattle.xml_tokens.specs.Spelling.{text_byte, value_byte}
use Rattle.xml_names.specs.Scopes.{xml_namespace}
use Rattle.xml_names.specs.declared.headers.Header.{Header}
use Rattle.xml_trees.specs.Attributes.{attribute}
use Rattle.xml_writer.specs.Canon.{assignment, canon, client_namespace, declared_default, default_inside, next_number, number_text, spelled_attribute, spelled_name, streams_namespace, written_footer, written_header}
use Rattle.law_xml.specs.Texts.{IsCharacterData, SpellsText, data_alone, has_section_end, with_reference, with_section}
use Rattle.xml_tokens.specs.Lines.{line_ends}
use Rattle.xml_trees.specs.Trees.{element, no_nodes, child, text}

-- no attribute, nothing inside, the default in force
a_leaf : canon (element client_namespace (codes "presence") [] no_nodes) ≡ codes "<presence/>"
unfolding assignment declared_default spelled_name
a_leaf = refl

-- a namespace that is declared is in force inside, and not behind
declared_inside : canon (element client_namespace (codes "iq") [] (child (element (codes "urn:a") (codes "q") [] (child (element (codes "urn:a") (codes "b") [] no_nodes) (child (element [] (codes "c") [] no_nodes) no_nodes))) (child (element client_namespace (codes "e") [] no_nodes) no_nodes)))
    ≡ codes "<iq><q xmlns='urn:a'><b/><c xmlns=''/></q><e/></iq>"
unfolding assignment declared_default default_inside spelled_name value_byte text_byte
declared_inside = refl

-- the streams namespace leaves the default as it was
in_streams : canon (element streams_namespace (codes "error") [] (child (element client_namespace (codes "a") [] no_nodes) (child (element (codes "urn:b") (codes "b") [] no_nodes) no_nodes)))
    ≡ codes "<stream:error><a/><b xmlns='urn:b'/></stream:error>"
unfolding assignment declared_default default_inside spelled_name value_byte text_byte
in_streams = refl

-- and so does that of XML, in which elements have the prefix `xml`
in_xml : canon (element xml_namespace (codes "a") [] (child (element client_namespace (codes "b") [] no_nodes) (child (element (codes "urn:c") (codes "c") [] (child (element xml_namespace (codes "d") [] no_nodes) (child (element (codes "urn:c") (codes "e") [] no_nodes) no_nodes))) no_nodes)))
    ≡ codes "<xml:a><b/><c xmlns='urn:c'><xml:d/><e/></c></xml:a>"
unfolding assignment declared_default default_inside spelled_name value_byte text_byte
in_xml = refl

-- attributes of no namespace, of two others, and of XML's
with_attributes : canon (element client_namespace (codes "m") (attribute [] (codes "id") (codes "1") ∷ attribute xml_namespace (codes "lang") (codes "en") ∷ attribute (codes "urn:a") (codes "b") (codes "2") ∷ attribute (codes "urn:a") (codes "c") (codes "3") ∷ []) no_nodes)
    ≡ codes "<m id='1' xml:lang='en' xmlns:a0='urn:a' a0:b='2' xmlns:a1='urn:a' a1:c='3'/>"
unfolding assignment declared_default spelled_name spelled_attribute next_number number_text value_byte text_byte
with_attributes = refl

tenth_prefix : number_text 10 ≡ codes "10"
unfolding number_text
tenth_prefix = refl

-- what is escaped, in a text and in a value
escaped : canon (element client_namespace (codes "m") (attribute [] (codes "a") (codes "<&>'" ++ 34 ∷ 9 ∷ 10 ∷ 13 ∷ []) ∷ []) (text (codes "<&>'" ++ 34 ∷ 9 ∷ 10 ∷ 13 ∷ []) no_nodes))
    ≡ codes "<m a='&lt;&amp;&gt;&apos;" ++ 34 ∷ codes "&#x9;&#xA;&#xD;'>&lt;&amp;&gt;'" ++ 34 ∷ 9 ∷ 10 ∷ codes "&#xD;</m>"
unfolding assignment declared_default default_inside spelled_name spelled_attribute next_number value_byte text_byte
escaped = refl

abbrev server : Header
server = record { ns = streams_namespace; name = codes "stream"; content = client_namespace; to = None; from = Some (codes "example.org"); id = Some (codes "x1"); version = Some (codes "1.0"); lang = Some (codes "en") }

server_header : written_header server
    ≡ codes "<stream:stream from='example.org' id='x1' version='1.0' xml:lang='en' xmlns='jabber:client' xmlns:stream='http://etherx.jabber.org/streams'>"
unfolding assignment value_byte text_byte
server_header = refl

client_header : written_header (record server { to = Some (codes "example.org"); from = None; id = None; lang = None })
    ≡ codes "<stream:stream to='example.org' version='1.0' xmlns='jabber:client' xmlns:stream='http://etherx.jabber.org/streams'>"
unfolding assignment value_byte text_byte
client_header = refl

footer : written_footer ≡ codes "</stream:stream>"
footer = refl

-- ---- other spellings: line ends, references and CDATA sections in a text, white space and quotes in a tag

ends : line_ends (97 ∷ 13 ∷ 10 ∷ 98 ∷ 13 ∷ 13 ∷ 10 ∷ 10 ∷ 99 ∷ []) ≡ 97 ∷ 10 ∷ 98 ∷ 10 ∷ 10 ∷ 10 ∷ 99 ∷ []
ends = refl

section_end : has_section_end (codes "a]]>") ≡ true
section_end = refl

no_section_end_yet : has_section_end (codes "]] >]>") ≡ false
no_section_end_yet = refl

some_data : (bytes : List ℕ) → list_all (λ b. not (b == 60 || b == 38)) bytes ≡ true → has_section_end bytes ≡ false → IsCharacterData bytes
some_data bytes marks ends = record { no_markup = marks; no_section_end = ends }

a_section : SpellsText (codes "a" ++ 13 ∷ 10 ∷ codes "<![CDATA[<&]]]]>&#65;&lt;b") (codes "a" ++ 10 ∷ codes "<&]]A<b")
unfolding referred encode
a_section =
    with_section _ _ (codes "a" ++ 13 ∷ 10 ∷ []) (codes "<&]]") (codes "&#65;&lt;b") (codes "A<b") (some_data _ refl refl) refl
    (with_reference _ _ [] (codes "#65") (codes "&lt;b") (codes "<b") 65 (some_data _ refl refl) refl
    (with_reference _ _ [] (codes "lt") (codes "b") (codes "b") 60 (some_data _ refl refl) refl (data_alone _ _ (some_data (codes "b") refl refl) refl) refl refl) refl refl) refl refl

bare_section_end : ¬ (IsCharacterData (codes "]]>"))
bare_section_end h = true≢false h.no_section_end
