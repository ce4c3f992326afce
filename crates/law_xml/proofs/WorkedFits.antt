-- What is written, and fits, at a stream that was worked out beforehand.
use Rattle.std.proofs.Common.{◌≡◌, List, [], ◌∷◌, Some, None, codes, refl, arith}
use Rattle.std.proofs.lemmas.List.Elements.{All-from_recursion}
use Rattle.std.specs.List.{All}
use Rattle.std.specs.List.Sorted.{IsStrictlySortedBy}
use Rattle.std.specs.Str.{is_utf8, chars}
use lib.Utf8.{encode}
use Rattle.xml_tokens.specs.Characters.{are_characters}
use Rattle.xml_tokens.specs.Spelling.{text_byte, value_byte}
use Rattle.xml_names.specs.declared.headers.Header.{Header}
use Rattle.xml_trees.specs.Attributes.{attribute}
use Rattle.xml_trees.specs.Trees.{Elem, IsTree, child, element, no_nodes, text}
use Rattle.xml_framer.specs.Limits.{server_limits}
use Rattle.xml_framer.specs.declared.items.Item.{Item}
use Rattle.xml_framer.specs.declared.items.Item.TheVariants as item
use Rattle.xml_framer.specs.declared.limits.Limits.{Limits}
use Rattle.xml_framer.specs.declared.states.Phase.TheVariants as phase
use Rattle.xml_writer.specs.Canon.{assignment, canon, client_namespace, declared_default, default_inside, next_number, number_text, spelled_attribute, spelled_name, streams_namespace, written_header}
use Rattle.law_xml.specs.Fitting.{Fits, HeaderFits}
use Rattle.law_xml.specs.Plain.{IsPlain, IsPlainHeader}
use Rattle.law_xml.specs.WrittenStreams.{ItemFits, MayFollow}
use Rattle.base_lemmas.proofs.Bytes.{other-from_bytes_eq}
use Rattle.law_xml.proofs.HeaderLaws.{plain_literal as literal}

abbrev opening : Header
opening = record { ns = streams_namespace; name = codes "stream"; content = client_namespace; to = Some (codes "b.c"); from = None; id = None; version = Some (codes "1.0"); lang = None }

opening_plain : IsPlainHeader opening
unfolding are_characters is_utf8 chars encode
opening_plain = record { to = literal (codes "b.c") refl refl; from = tt; id = tt; version = literal (codes "1.0") refl refl; lang = tt }

opening_bytes : written_header opening ≡ codes "<stream:stream to='b.c' version='1.0' xmlns='jabber:client' xmlns:stream='http://etherx.jabber.org/streams'>"
unfolding assignment value_byte text_byte
opening_bytes = refl

opening_fits : HeaderFits server_limits opening
unfolding assignment value_byte text_byte
opening_fits = record { short = omega arith; attributes = omega arith; declared = (omega arith, (omega arith, tt)) }

-- an element with an attribute of a namespace, and another inside in a namespace of its own
abbrev message : Elem
message = element client_namespace (codes "message") (attribute (codes "u") (codes "k") (codes "<") ∷ []) (child (element (codes "v") (codes "x") [] (text (codes "&") no_nodes)) no_nodes)

message_bytes : canon message ≡ codes "<message xmlns:a0='u' a0:k='&lt;'><x xmlns='v'>&amp;</x></message>"
unfolding assignment value_byte text_byte declared_default default_inside next_number number_text spelled_attribute spelled_name
message_bytes = refl

message_plain : IsPlain message
unfolding are_characters is_utf8 chars encode
message_plain = record {
  inside = (
    record { characters = literal client_namespace refl refl; name_is = record { characters = literal (codes "message") refl refl; is_name = refl }; not_xmlns = other-from_bytes_eq _ _ refl },
    (
      record {
        ns = literal (codes "u") refl refl;
        name = record { characters = literal (codes "k") refl refl; is_name = refl };
        value = literal (codes "<") refl refl;
        not_xmlns = other-from_bytes_eq _ _ refl;
        no_declaration = λ e. absurd (other-from_bytes_eq (codes "u") [] refl e);
      },
      tt,
    ),
    (
      (
        record { characters = literal (codes "v") refl refl; name_is = record { characters = literal (codes "x") refl refl; is_name = refl }; not_xmlns = other-from_bytes_eq _ _ refl },
        tt,
        (literal (codes "&") refl refl, tt),
      ),
      tt,
    ),
  );
  no_header = λ n. other-from_bytes_eq client_namespace streams_namespace refl n.0;
}

message_tree : IsTree message
unfolding IsStrictlySortedBy
message_tree = ((tt, tt), ((tt, ((λ e. other-from_bytes_eq (codes "&") [] refl e), tt, tt)), tt))

message_fits : Fits server_limits message
unfolding assignment value_byte text_byte declared_default default_inside next_number number_text spelled_attribute spelled_name
message_fits = record {
  short = omega arith;
  shallow = omega arith;
  tags = (
    record { attributes = omega arith; declared = λ e. absurd cc; prefixed = ((λ e. omega arith), tt) },
    (
      (record { attributes = omega arith; declared = λ e. omega arith; prefixed = tt }, tt),
      tt,
    ),
  );
}

abbrev said : List Item
said = item.Header 0 opening ∷ item.Element message ∷ item.Footer ∷ []

said_may : MayFollow phase.First said
said_may = (tt, (tt, (tt, tt)))

said_fits : All (ItemFits server_limits) said
said_fits = All-from_recursion (ItemFits server_limits) said ((opening_plain, opening_fits), ((message_tree, message_plain, message_fits), (tt, tt)))

-- the declaration of an attribute's namespace is counted
no_fit : (limits : Limits) → limits.attributes ≡ 1 → Fits limits message → ⊥
unfolding declared_default next_number number_text spelled_attribute
no_fit limits few h = let most = h.tags.0.attributes in omega (arith, few, most)
