-- Elements that a client reads, put together.
use Rattle.std.proofs.Common.{◌≡◌, ◌≢◌, ℕ, ◌+◌, ◌≤◌, nat_le, true, false, not, List, [], ◌∷◌, ◌++◌, bytes_eq, codes, Option, Some, None, IfSome, length, refl, sym, ◌∙◌, arith, leb-true, length-append}
use Rattle.std.proofs.lemmas.Bool.{and_from, and_parts, false≢true, not-true}
use Rattle.std.specs.List.{AllByRecursion, list_all}
use Rattle.law_xml.specs.Fitting.{IsShortAttribute, NodesFit, TagFits}
use Rattle.law_xml.specs.Plain.{ArePlainNodes, IsPlainAttribute}
use Rattle.law_xml.specs.Spells.{IsHeaderName}
use Rattle.xml_names.specs.Scopes.{xmlns_namespace}
use Rattle.law_limits.specs.Bounded.{AreBounded, BoundedAttributes, ClientReads, IsBounded, IsSpace, IsWord, client_tags, is_space, is_word}
use Rattle.law_limits.proofs.Characters.{printable_characters}
use Rattle.law_limits.proofs.ElementSizes.{child_size, element_up, joined_size, nothing_size, text_node_size}
use Rattle.law_limits.proofs.TextSizes.{text_no_longer, value_short}
use Rattle.law_limits.specs.Elements.{are_local, attributes_size, element_size}
use Rattle.law_limits.specs.Texts.{Said, is_printable, text_size, value_size}
use Rattle.im_stanza.specs.Names.{client_ns, xml_ns}
use Rattle.im_stanza.specs.Written.{attr_where, attrs_written}
use Rattle.xml_tokens.specs.Characters.{is_named}
use Rattle.xml_tokens.specs.Lines.{IsCharacters}
use Rattle.xml_trees.specs.Attributes.{Attribute, attribute}
use Rattle.xml_trees.specs.Tidied.{text_node}
use Rattle.xml_trees.specs.Trees.{Elem, IsTree, Nodes, child, depth_below, element, joined, name_of, namespace_of, no_nodes, text}
use Rattle.xml_writer.specs.Canon.{declared_default, default_inside, is_foreign, spelled_attributes, streams_namespace}
use Rattle.base_lemmas.proofs.Bytes.{other-from_bytes_eq as differs}
use Rattle.law_xml.proofs.FitsAgain.{all_written, default_written}

-- ---- words that are written out

pub word : (name : List ℕ) → is_word name ≡ true → IsWord name
word name h =
    let a = and_parts (list_all is_printable name) _ h in
    let b = and_parts (is_named name) _ a.1 in
    let c = and_parts (nat_le (length name) 40) _ b.1 in
    let characters = printable_characters name a.0 in
    record {
      plain = record { characters = characters; is_name = and_from _ _ b.0 characters.characters };
      short = leb-true (length name) 40 c.0;
      other = differs name (codes "xmlns") (not-true _ c.1);
    }

pub space : (ns : List ℕ) → is_space ns ≡ true → IsSpace ns
space ns h =
    let a = and_parts (list_all is_printable ns) _ h in
    let b = and_parts (nat_le (length ns) 40) _ a.1 in
    let few = leb-true (length ns) 40 b.0 in
    let size = value_short ns in
    record { characters = printable_characters ns a.0; short = omega (arith, few, size); other = differs ns xmlns_namespace (not-true _ b.1) }

-- ---- attributes

no_xmlns : [] ≢ xmlns_namespace
no_xmlns = differs [] xmlns_namespace refl

pub no_attributes : BoundedAttributes 0 0 []
no_attributes = record { plain = tt; local = refl; few = omega arith; short = omega arith }

pub one_attribute : (m : ℕ) (name value : List ℕ) → IsWord name → Said m value → BoundedAttributes 1 (m + 48) (attribute [] name value ∷ [])
one_attribute m name value h k =
    let short = k.short in
    let few = h.short in
    record {
      plain = (record { ns = printable_characters [] refl; name = h.plain; value = k.characters; not_xmlns = no_xmlns; no_declaration = λ none. h.other }, tt);
      local = refl;
      few = omega arith;
      short = omega (arith, short, few);
    }

pub language : (m : ℕ) (value : List ℕ) → Said m value → BoundedAttributes 1 (m + 48) (attribute xml_ns (codes "lang") value ∷ [])
language m value k =
    let short = k.short in
    record {
      plain = (
        record {
          ns = printable_characters xml_ns refl;
          name = (word (codes "lang") refl).plain;
          value = k.characters;
          not_xmlns = differs xml_ns xmlns_namespace refl;
          no_declaration = λ none. absurd (differs xml_ns [] refl none);
        },
        tt,
      );
      local = refl;
      few = omega arith;
      short = omega (arith, short);
    }

local_append : (xs ys : List Attribute) → are_local xs ≡ true → are_local ys ≡ true → are_local (xs ++ ys) ≡ true
local_append [] ys h k = k
local_append (x ∷ xs) ys h k = let parts = and_parts (not (is_foreign x)) (are_local xs) h in and_from _ _ parts.0 (local_append xs ys parts.1 k)

plain_append : (xs ys : List Attribute) → AllByRecursion IsPlainAttribute xs → AllByRecursion IsPlainAttribute ys → AllByRecursion IsPlainAttribute (xs ++ ys)
plain_append [] ys h k = k
plain_append (x ∷ xs) ys h k = (h.0, plain_append xs ys h.1 k)

size_append : (xs ys : List Attribute) → attributes_size (xs ++ ys) ≡ attributes_size xs + attributes_size ys
size_append [] ys = omega arith
size_append (x ∷ xs) ys = let rest = size_append xs ys in omega (arith, rest)

pub attributes_joined : (i j m n : ℕ) (xs ys : List Attribute) → BoundedAttributes i m xs → BoundedAttributes j n ys → BoundedAttributes (i + j) (m + n) (xs ++ ys)
attributes_joined i j m n xs ys h k =
    let a = h.few in
    let b = k.few in
    let c = h.short in
    let d = k.short in
    record {
      plain = plain_append xs ys h.plain k.plain;
      local = local_append xs ys h.local k.local;
      few = omega (arith, a, b, length-append xs ys);
      short = omega (arith, c, d, size_append xs ys);
    }

pub attributes_more : (i j m n : ℕ) (xs : List Attribute) → BoundedAttributes i m xs → i ≤ j → m ≤ n → BoundedAttributes j n xs
attributes_more i j m n xs h many most =
    let a = h.few in let c = h.short in record { plain = h.plain; local = h.local; few = omega (arith, a, many); short = omega (arith, c, most) }

pub where_given : (m : ℕ) (name : List ℕ) (o : Option (List ℕ)) → IsWord name → IfSome o (Said m) → BoundedAttributes 1 (m + 48) (attr_where [] name o)
where_given m name None h k = attributes_more 0 1 0 (m + 48) [] no_attributes (omega arith) (omega arith)
where_given m name (Some value) h k = one_attribute m name value h k

language_given : (m : ℕ) (o : Option (List ℕ)) → IfSome o (Said m) → BoundedAttributes 1 (m + 48) (attr_where xml_ns (codes "lang") o)
language_given m None k = attributes_more 0 1 0 (m + 48) [] no_attributes (omega arith) (omega arith)
language_given m (Some value) k = language m value k

-- those of a stanza
pub stanza_attributes : (f i t k l : ℕ) (from id to kind lang : Option (List ℕ)) → IfSome from (Said f) → IfSome id (Said i) → IfSome to (Said t) → IfSome kind (Said k) → IfSome lang (Said l)
    → BoundedAttributes 5 (f + i + t + k + l + 240) (attrs_written from id to kind lang)
stanza_attributes f i t k l from id to kind lang a b c d e =
    let first = where_given f (codes "from") from (word (codes "from") refl) a in
    let second = where_given i (codes "id") id (word (codes "id") refl) b in
    let third = where_given t (codes "to") to (word (codes "to") refl) c in
    let fourth = where_given k (codes "type") kind (word (codes "type") refl) d in
    let fifth = language_given l lang e in
    let two = attributes_joined 1 1 (f + 48) (i + 48) (attr_where [] (codes "from") from) (attr_where [] (codes "id") id) first second in
    let three = attributes_joined 2 1 (f + 48 + (i + 48)) (t + 48) _ (attr_where [] (codes "to") to) two third in
    let four = attributes_joined 3 1 (f + 48 + (i + 48) + (t + 48)) (k + 48) _ (attr_where [] (codes "type") kind) three fourth in
    let five = attributes_joined 4 1 (f + 48 + (i + 48) + (t + 48) + (k + 48)) (l + 48) _ (attr_where xml_ns (codes "lang") lang) four fifth in
    attributes_more 5 5 (f + 48 + (i + 48) + (t + 48) + (k + 48) + (l + 48)) (f + i + t + k + l + 240) _ five (omega arith) (omega arith)

-- ---- tags

no_prefixes : (attrs : List Attribute) → are_local attrs ≡ true → AllByRecursion (IsShortAttribute client_tags) attrs
no_prefixes [] h = tt
no_prefixes (a ∷ more) h =
    let parts = and_parts (not (is_foreign a)) (are_local more) h in
    ((λ foreign. absurd (false≢true (sym (not-true _ parts.0) ∙ foreign))), no_prefixes more parts.1)

short_space : (ns : List ℕ) → IsSpace ns → value_size ns ≤ 240
short_space ns h = h.short

tag_fits : (default ns : List ℕ) (attrs : List Attribute) (many most : ℕ) → IsSpace ns → BoundedAttributes many most attrs → many ≤ 100 → TagFits client_tags default ns attrs
unfolding value_size
tag_fits default ns attrs many most h k within =
    let few = k.few in
    let short = short_space ns h in
    let all = all_written 0 attrs in
    let one = default_written default ns in
    record {
      attributes = omega (arith, few, within, all, one, length-append (declared_default default ns) (spelled_attributes 0 attrs));
      declared = λ due. omega (arith, short);
      prefixed = no_prefixes attrs k.local;
    }

-- ---- elements and nodes

-- with some 400 bytes for the tags themselves
pub bounded_element : (default ns name : List ℕ) (attrs : List Attribute) (kids : Nodes) (many m levels n : ℕ) → IsSpace ns → IsWord name → BoundedAttributes many m attrs → many ≤ 100
    → AreBounded (default_inside default ns) levels n kids → IsBounded default (levels + 1) (m + n + 400) (element ns name attrs kids)
bounded_element default ns name attrs kids many m levels n h k l within inside =
    let deep = inside.shallow in
    let long = inside.short in
    let attributes = l.short in
    let wide = k.short in
    let space = h.short in
    let up = element_up default ns name attrs kids l.local in
    record {
      plain = (record { characters = h.characters; name_is = k.plain; not_xmlns = h.other }, l.plain, inside.plain);
      tags = (tag_fits default ns attrs many m h l within, inside.tags);
      shallow = omega (arith, deep);
      short = omega (arith, long, attributes, wide, space, up);
    }

pub bounded_more : (default : List ℕ) (i j m n : ℕ) (e : Elem) → IsBounded default i m e → i ≤ j → m ≤ n → IsBounded default j n e
bounded_more default i j m n e h deep long =
    let a = h.shallow in let b = h.short in record { plain = h.plain; tags = h.tags; shallow = omega (arith, a, deep); short = omega (arith, b, long) }

pub nodes_more : (default : List ℕ) (i j m n : ℕ) (ks : Nodes) → AreBounded default i m ks → i ≤ j → m ≤ n → AreBounded default j n ks
nodes_more default i j m n ks h deep long =
    let a = h.shallow in let b = h.short in record { plain = h.plain; tags = h.tags; shallow = omega (arith, a, deep); short = omega (arith, b, long) }

pub no_nodes_bounded : (default : List ℕ) → AreBounded default 0 0 no_nodes
no_nodes_bounded default = let none = nothing_size default in record { plain = tt; tags = tt; shallow = omega arith; short = omega (arith, none) }

pub child_bounded : (default : List ℕ) (levels m n : ℕ) (e : Elem) (rest : Nodes) → IsBounded default levels m e → AreBounded default levels n rest → AreBounded default levels (m + n) (child e rest)
child_bounded default levels m n e rest h k =
    let a = h.shallow in
    let b = k.shallow in
    let c = h.short in
    let d = k.short in
    let both = child_size default e rest in
    record { plain = (h.plain, k.plain); tags = (h.tags, k.tags); shallow = omega (arith, a, b); short = omega (arith, c, d, both) }

pub only_child : (default : List ℕ) (levels m : ℕ) (e : Elem) → IsBounded default levels m e → AreBounded default levels m (child e no_nodes)
only_child default levels m e h =
    nodes_more default levels levels (m + 0) m (child e no_nodes) (child_bounded default levels m 0 e no_nodes h (nodes_more default 0 levels 0 0 no_nodes (no_nodes_bounded default) (omega arith) (omega arith))) (omega arith) (omega arith)

pub joined_bounded : (default : List ℕ) (levels m n : ℕ) (ks more : Nodes) → AreBounded default levels m ks → AreBounded default levels n more → AreBounded default levels (m + n) (joined ks more)
joined_bounded default levels m n ks more h k =
    let c = h.short in
    let d = k.short in
    let both = joined_size default ks more in
    record { plain = plain ks more h.plain k.plain; tags = tags ks more h.tags k.tags; shallow = shallow ks more h.shallow k.shallow; short = omega (arith, c, d, both) }
  where
    plain : (xs ys : Nodes) → ArePlainNodes xs → ArePlainNodes ys → ArePlainNodes (joined xs ys)
    plain no_nodes ys p q = q
    plain (child e rest) ys p q = (p.0, plain rest ys p.1 q)
    plain (text t rest) ys p q = (p.0, plain rest ys p.1 q)

    tags : (xs ys : Nodes) → NodesFit client_tags default xs → NodesFit client_tags default ys → NodesFit client_tags default (joined xs ys)
    tags no_nodes ys p q = q
    tags (child e rest) ys p q = (p.0, tags rest ys p.1 q)
    tags (text t rest) ys p q = tags rest ys p q

    shallow : (xs ys : Nodes) → depth_below xs ≤ levels → depth_below ys ≤ levels → depth_below (joined xs ys) ≤ levels
    shallow no_nodes ys p q = q
    shallow (child e rest) ys p q = let r = shallow rest ys (omega (arith, p)) q in omega (arith, p, r)
    shallow (text t rest) ys p q = shallow rest ys p q

pub text_bounded : (default : List ℕ) (t : List ℕ) (m : ℕ) → IsCharacters t → text_size t ≤ m → AreBounded default 0 m (text_node t)
text_bounded default [] m h short = let size = text_node_size default [] in record { plain = tt; tags = tt; shallow = omega arith; short = omega (arith, size, short) }
text_bounded default (c ∷ cs) m h short = let size = text_node_size default (c ∷ cs) in record { plain = (h, tt); tags = tt; shallow = omega arith; short = omega (arith, size, short) }

pub said_bounded : (default : List ℕ) (t : List ℕ) (m : ℕ) → Said m t → AreBounded default 0 m (text_node t)
said_bounded default t m h = let value = text_no_longer t in let short = h.short in text_bounded default t m h.characters (omega (arith, value, short))

-- an element without attributes that contains nothing
pub bounded_bare : (default ns name : List ℕ) → IsSpace ns → IsWord name → IsBounded default 1 400 (element ns name [] no_nodes)
bounded_bare default ns name h k = bounded_element default ns name [] no_nodes 0 0 0 0 h k no_attributes (omega arith) (no_nodes_bounded (default_inside default ns))

-- ---- at the top

pub reads : (e : Elem) (levels most : ℕ) → IsTree e → IsBounded client_ns levels most e → ¬ (IsHeaderName (namespace_of e) (name_of e)) → levels ≤ 64 → most ≤ 4194304 → ClientReads e
unfolding element_size
reads e levels most tree bounded other deep long =
    let a = bounded.shallow in
    let b = bounded.short in
    record { tree = tree; plain = record { inside = bounded.plain; no_header = other }; fits = record { short = omega (arith, b, long); shallow = omega (arith, a, deep); tags = bounded.tags } }

-- a namespace that isn't that of streams, or a name that isn't a header's
pub other_space : (ns name : List ℕ) → bytes_eq ns streams_namespace ≡ false → ¬ (IsHeaderName ns name)
other_space ns name e is = differs ns streams_namespace e is.0

pub other_name : (ns name : List ℕ) → bytes_eq name (codes "stream") ≡ false → ¬ (IsHeaderName ns name)
other_name ns name e is = differs name (codes "stream") e is.1
