-- What is written for a header spells it.
use Rattle.std.proofs.Common.{◌≡◌, ◌≢◌, ◌⊎◌, ℕ, inl, inr, true, false, cond, ◌&&◌, List, [], ◌∷◌, ◌++◌, map, codes, bytes_eq, Option, Some, None, refl, sym, ap, subst, ◌∙◌, arith, append_assoc}
use Rattle.std.specs.Prelude.{IfSome}
use Rattle.std.specs.List.{AllByRecursion, AllPairs, AllZip}
use Rattle.std.specs.Str.{is_utf8, chars}
use lib.Utf8.{encode}
use Rattle.std.proofs.lemmas.List.Elements.{All-from_recursion}
use Rattle.std.proofs.lemmas.List.Kept.{AllPairs-cons}
use Rattle.std.proofs.lemmas.Str.{IsUtf8-from_is_utf8}
use Rattle.xml_tokens.specs.Characters.{are_characters}
use Rattle.xml_tokens.specs.Spelling.{text_byte, value_byte}
use Rattle.xml_tokens.specs.Tags as tokens
use Rattle.xml_tokens.specs.Tags.{is_qualified, names_of, tag_end}
use Rattle.xml_names.specs.Declarations.{MayDeclare, bindings_of, declared_prefix, others_of, unless_binding, with_binding}
use Rattle.xml_names.specs.Expansion.{Name, name_of}
use Rattle.xml_names.specs.Grammar.{IsExpanded, IsStart}
use Rattle.xml_names.specs.Headers.{header_of, value_in}
use Rattle.xml_names.specs.Names.{local_of, no_colon, prefix_of}
use Rattle.xml_names.specs.Scopes.{Scope, bound, xml_namespace, xmlns_namespace}
use Rattle.xml_names.specs.Starts.{Tag}
use Rattle.xml_names.specs.declared.expansion.ExpandedAttribute.{ExpandedAttribute}
use Rattle.xml_names.specs.declared.headers.Header.{Header}
use Rattle.xml_writer.specs.Canon.{assignment, assignments, client_namespace, spelled, streams_namespace, written_footer, written_given, written_header}
use Rattle.law_xml.specs.Plain.{IsPlainHeader}
use Rattle.law_xml.specs.Spells.{SpellsFooter, SpellsHeader, as_written, bind, written_scope}
use Rattle.xml_tokens.specs.Lines.{IsCharacters}
use Rattle.law_xml.proofs.CanonLaws.{attributes_spelled}
use Rattle.law_xml.proofs.SpelledAttributes.{Apart, Bounded, each, nothing_apart}
use Rattle.base_lemmas.proofs.Bytes.{other-from_bytes_eq}

-- ---- an attribute that may be there

abbrev pub given : List ℕ → Option (List ℕ) → List tokens.Attribute
given name None = []
given name (Some value) = spelled name value ∷ []

abbrev pub said : List ℕ → List ℕ → Option (List ℕ) → List ExpandedAttribute
said ns name None = []
said ns name (Some value) = record { ns = ns; name = name; value = value } ∷ []

given_bytes : (name : List ℕ) (o : Option (List ℕ)) (rest : List tokens.Attribute) (end : List ℕ) → assignments (given name o ++ rest) ++ end ≡ written_given name o ++ (assignments rest ++ end)
given_bytes name None rest end = refl
given_bytes name (Some value) rest end = append_assoc (assignment (spelled name value)) (assignments rest) end

given_bindings : (name : List ℕ) (o : Option (List ℕ)) (rest : List tokens.Attribute) → declared_prefix name ≡ None → bindings_of (given name o ++ rest) ≡ bindings_of rest
given_bindings name None rest e = refl
given_bindings name (Some value) rest e = ap (λ p. with_binding p value (bindings_of rest)) e

abbrev Say : Scope → List tokens.Attribute → List ExpandedAttribute → Type 0
Say scope xs es = AllZip (IsExpanded scope) (others_of xs) es

given_said : (scope : Scope) (x ns name : List ℕ) (o : Option (List ℕ)) (rest : List tokens.Attribute) (more : List ExpandedAttribute) → declared_prefix x ≡ None
    → ((value : List ℕ) → IsExpanded scope (spelled x value) (record { ns = ns; name = name; value = value })) → Say scope rest more → Say scope (given x o ++ rest) (said ns name o ++ more)
given_said scope x ns name None rest more e f h = h
given_said scope x ns name (Some value) rest more e f h =
    subst (λ os. AllZip (IsExpanded scope) os (record { ns = ns; name = name; value = value } ∷ more)) (sym (ap (λ p. unless_binding p (spelled x value) (others_of rest)) e)) (f value, h)

abbrev In : List ℕ → List (List ℕ) → Type 0
In x [] = ⊥
In x (m ∷ ms) = (x ≡ m) ⊎ In x ms

apart_from : (x y : List ℕ) (ms : List (List ℕ)) → AllByRecursion (λ m. x ≢ m) ms → In y ms → x ≢ y
apart_from x y [] h o e = absurd o
apart_from x y (m ∷ ms) h (inl is) e = h.0 (e ∙ is)
apart_from x y (m ∷ ms) h (inr o) e = apart_from x y ms h.1 o e

-- attributes can be read, and their names are some of these
record Sound (names : List (List ℕ)) (xs : List tokens.Attribute) : Type 0 where
  bounded : AllByRecursion Bounded xs
  within : AllByRecursion (λ x. In x names) (names_of xs)
  apart : Apart (names_of xs)

given_sound : (x : List ℕ) (o : Option (List ℕ)) (names : List (List ℕ)) (rest : List tokens.Attribute) → is_qualified x ≡ true → IfSome o IsCharacters → AllByRecursion (λ m. x ≢ m) names → Sound names rest
    → Sound (x ∷ names) (given x o ++ rest)
given_sound x None names rest q v h s = record { bounded = s.bounded; within = each (λ y. In y names) (λ y. In y (x ∷ names)) (λ y o. inr o) (names_of rest) s.within; apart = s.apart }
given_sound x (Some value) names rest q v h s =
    record {
      bounded = (record { name = q; value = v }, s.bounded);
      within = (inl refl, each (λ y. In y names) (λ y. In y (x ∷ names)) (λ y o. inr o) (names_of rest) s.within);
      apart = AllPairs-cons (λ a b. a ≢ b) x (names_of rest) (All-from_recursion (λ y. x ≢ y) (names_of rest) (each (λ y. In y names) (λ y. x ≢ y) (λ y o. apart_from x y names h o) (names_of rest) s.within)) s.apart;
    }

-- what is said, by its local names
record Told (names : List (List ℕ)) (es : List ExpandedAttribute) : Type 0 where
  within : AllByRecursion (λ (e : Name). In e.name names) (map name_of es)
  apart : AllPairs (λ a b. a ≢ b) (map name_of es)

said_told : (ns x : List ℕ) (o : Option (List ℕ)) (names : List (List ℕ)) (more : List ExpandedAttribute) → AllByRecursion (λ m. x ≢ m) names → Told names more → Told (x ∷ names) (said ns x o ++ more)
said_told ns x None names more h t = record { within = each (λ (e : Name). In e.name names) (λ (e : Name). In e.name (x ∷ names)) (λ e o. inr o) (map name_of more) t.within; apart = t.apart }
said_told ns x (Some value) names more h t =
    let here : Name = record { ns = ns; name = x } in
    record {
      within = (inl refl, each (λ (e : Name). In e.name names) (λ (e : Name). In e.name (x ∷ names)) (λ e o. inr o) (map name_of more) t.within);
      apart = AllPairs-cons (λ a b. a ≢ b) here (map name_of more)
          (All-from_recursion (λ e. here ≢ e) (map name_of more) (each (λ (e : Name). In e.name names) (λ e. here ≢ e) (λ e o same. apart_from x e.name names h o (ap (λ (n : Name). n.name) same)) (map name_of more) t.within)) t.apart;
    }

value_other : (ns x : List ℕ) (o : Option (List ℕ)) (more : List ExpandedAttribute) (ms y : List ℕ) → (bytes_eq ns ms && bytes_eq x y) ≡ false → value_in (said ns x o ++ more) ms y ≡ value_in more ms y
value_other ns x None more ms y f = refl
value_other ns x (Some value) more ms y f = ap (λ b. cond b (Some value) (value_in more ms y)) f

value_here : (ns x : List ℕ) (o : Option (List ℕ)) (more : List ExpandedAttribute) → (bytes_eq ns ns && bytes_eq x x) ≡ true → value_in more ns x ≡ None → value_in (said ns x o ++ more) ns x ≡ o
value_here ns x None more t none = none
value_here ns x (Some value) more t none = ap (λ b. cond b (Some value) (value_in more ns x)) t

-- ---- the parts of a header

abbrev pub declarations : List tokens.Attribute
declarations = spelled (codes "xmlns") client_namespace ∷ spelled (codes "xmlns:stream") streams_namespace ∷ []

abbrev pub from_lang : Header → List tokens.Attribute
from_lang h = given (codes "xml:lang") h.lang ++ declarations

abbrev pub from_version : Header → List tokens.Attribute
from_version h = given (codes "version") h.version ++ from_lang h

abbrev pub from_to : Header → List tokens.Attribute
from_to h = given (codes "to") h.to ++ from_version h

abbrev pub from_id : Header → List tokens.Attribute
from_id h = given (codes "id") h.id ++ from_to h

abbrev pub all : Header → List tokens.Attribute
all h = given (codes "from") h.from ++ from_id h

abbrev pub say_lang : Header → List ExpandedAttribute
say_lang h = said xml_namespace (codes "lang") h.lang ++ []

abbrev pub say_version : Header → List ExpandedAttribute
say_version h = said [] (codes "version") h.version ++ say_lang h

abbrev pub say_to : Header → List ExpandedAttribute
say_to h = said [] (codes "to") h.to ++ say_version h

abbrev pub say_id : Header → List ExpandedAttribute
say_id h = said [] (codes "id") h.id ++ say_to h

abbrev pub say_all : Header → List ExpandedAttribute
say_all h = said [] (codes "from") h.from ++ say_id h

declared_bytes : assignments declarations ++ tag_end false ≡ codes " xmlns='jabber:client' xmlns:stream='http://etherx.jabber.org/streams'>"
unfolding assignment value_byte text_byte
declared_bytes = refl

header_bytes : (h : Header) → written_header h ≡ codes "<stream:stream" ++ (assignments (all h) ++ tag_end false)
header_bytes h =
    let e = tag_end false in
    sym (ap (λ l. codes "<stream:stream" ++ l) (given_bytes (codes "from") h.from (from_id h) e
    ∙ ap (λ l. written_given (codes "from") h.from ++ l) (given_bytes (codes "id") h.id (from_to h) e
    ∙ ap (λ l. written_given (codes "id") h.id ++ l) (given_bytes (codes "to") h.to (from_version h) e
    ∙ ap (λ l. written_given (codes "to") h.to ++ l) (given_bytes (codes "version") h.version (from_lang h) e
    ∙ ap (λ l. written_given (codes "version") h.version ++ l) (given_bytes (codes "xml:lang") h.lang declarations e
    ∙ ap (λ l. written_given (codes "xml:lang") h.lang ++ l) declared_bytes))))))

-- ---- literal names

pub plain_literal : (s : List ℕ) → is_utf8 s ≡ true → are_characters s ≡ true → IsCharacters s
plain_literal s u c = record { utf8 = IsUtf8-from_is_utf8 s u; characters = c }

client_plain : IsCharacters client_namespace
unfolding are_characters is_utf8 chars encode
client_plain = plain_literal client_namespace refl refl

streams_plain : IsCharacters streams_namespace
unfolding are_characters is_utf8 chars encode
streams_plain = plain_literal streams_namespace refl refl

from_qualified : is_qualified (codes "from") ≡ true
unfolding is_qualified are_characters is_utf8 chars encode
from_qualified = refl

id_qualified : is_qualified (codes "id") ≡ true
unfolding is_qualified are_characters is_utf8 chars encode
id_qualified = refl

to_qualified : is_qualified (codes "to") ≡ true
unfolding is_qualified are_characters is_utf8 chars encode
to_qualified = refl

version_qualified : is_qualified (codes "version") ≡ true
unfolding is_qualified are_characters is_utf8 chars encode
version_qualified = refl

lang_qualified : is_qualified (codes "xml:lang") ≡ true
unfolding is_qualified are_characters is_utf8 chars encode
lang_qualified = refl

xmlns_qualified : is_qualified (codes "xmlns") ≡ true
unfolding is_qualified are_characters is_utf8 chars encode
xmlns_qualified = refl

stream_names_qualified : (is_qualified (codes "xmlns:stream") ≡ true) × (is_qualified (codes "stream:stream") ≡ true)
unfolding is_qualified are_characters is_utf8 chars encode
stream_names_qualified = (refl, refl)

-- ---- what holds of them

abbrev declared_names : List (List ℕ)
declared_names = codes "xmlns" ∷ codes "xmlns:stream" ∷ []

declared_sound : Sound declared_names declarations
declared_sound = record {
  bounded = (record { name = xmlns_qualified; value = client_plain }, (record { name = stream_names_qualified.0; value = streams_plain }, tt));
  within = (inl refl, (inr (inl refl), tt));
  apart = AllPairs-cons (λ a b. a ≢ b) (codes "xmlns") (codes "xmlns:stream" ∷ [])
      (All-from_recursion (λ y. codes "xmlns" ≢ y) (codes "xmlns:stream" ∷ []) (other-from_bytes_eq (codes "xmlns") (codes "xmlns:stream") refl, tt))
      (AllPairs-cons (λ a b. a ≢ b) (codes "xmlns:stream") [] (All-from_recursion (λ y. codes "xmlns:stream" ≢ y) [] tt) nothing_apart);
}

-- a text differs from each of some texts
abbrev Differ : List ℕ → List (List ℕ) → Type 0
Differ x [] = Unit {0}
Differ x (m ∷ ms) = (bytes_eq x m ≡ false) × Differ x ms

differs : (x : List ℕ) (ms : List (List ℕ)) → Differ x ms → AllByRecursion (λ m. x ≢ m) ms
differs x [] h = tt
differs x (m ∷ ms) h = (other-from_bytes_eq x m h.0, differs x ms h.1)

all_sound : (h : Header) → IsPlainHeader h → Sound (codes "from" ∷ codes "id" ∷ codes "to" ∷ codes "version" ∷ codes "xml:lang" ∷ declared_names) (all h)
all_sound h p =
    let lang = given_sound (codes "xml:lang") h.lang declared_names declarations lang_qualified p.lang (differs (codes "xml:lang") declared_names (refl, (refl, tt))) declared_sound in
    let names1 = codes "xml:lang" ∷ declared_names in
    let version = given_sound (codes "version") h.version names1 (from_lang h) version_qualified p.version (differs (codes "version") names1 (refl, (refl, (refl, tt)))) lang in
    let names2 = codes "version" ∷ names1 in
    let to = given_sound (codes "to") h.to names2 (from_version h) to_qualified p.to (differs (codes "to") names2 (refl, (refl, (refl, (refl, tt))))) version in
    let names3 = codes "to" ∷ names2 in
    let id = given_sound (codes "id") h.id names3 (from_to h) id_qualified p.id (differs (codes "id") names3 (refl, (refl, (refl, (refl, (refl, tt)))))) to in
    let names4 = codes "id" ∷ names3 in
    given_sound (codes "from") h.from names4 (from_id h) from_qualified p.from (differs (codes "from") names4 (refl, (refl, (refl, (refl, (refl, (refl, tt))))))) id

all_told : (h : Header) → Told (codes "from" ∷ codes "id" ∷ codes "to" ∷ codes "version" ∷ codes "lang" ∷ []) (say_all h)
all_told h =
    let lang = said_told xml_namespace (codes "lang") h.lang [] [] tt (record { within = tt; apart = nothing_told }) in
    let names1 = codes "lang" ∷ [] in
    let version = said_told [] (codes "version") h.version names1 (say_lang h) (differs (codes "version") names1 (refl, tt)) lang in
    let names2 = codes "version" ∷ names1 in
    let to = said_told [] (codes "to") h.to names2 (say_version h) (differs (codes "to") names2 (refl, (refl, tt))) version in
    let names3 = codes "to" ∷ names2 in
    let id = said_told [] (codes "id") h.id names3 (say_to h) (differs (codes "id") names3 (refl, (refl, (refl, tt)))) to in
    let names4 = codes "id" ∷ names3 in
    said_told [] (codes "from") h.from names4 (say_id h) (differs (codes "from") names4 (refl, (refl, (refl, (refl, tt))))) id
  where
    nothing_told : AllPairs (λ (a : Name) b. a ≢ b) []
    nothing_told i j d less within = absurd (omega (arith, within))

all_bindings : (h : Header) → bindings_of (all h) ≡ written_scope
unfolding declared_prefix prefix_of local_of
all_bindings h =
    given_bindings (codes "from") h.from (from_id h) refl ∙ given_bindings (codes "id") h.id (from_to h) refl ∙ given_bindings (codes "to") h.to (from_version h) refl
    ∙ given_bindings (codes "version") h.version (from_lang h) refl ∙ given_bindings (codes "xml:lang") h.lang declarations refl

plain_said : (scope : Scope) (x value : List ℕ) → no_colon x ≡ true → IsExpanded scope (spelled x value) (record { ns = []; name = x; value = value })
plain_said scope x value h = ([], inr (refl, refl, h), inl (refl, refl), refl)

lang_said : (scope : Scope) (value : List ℕ) → IsExpanded scope (spelled (codes "xml:lang") value) (record { ns = xml_namespace; name = codes "lang"; value = value })
unfolding bound
lang_said scope value = (codes "xml", inl (refl, refl), inr (other-from_bytes_eq (codes "xml") [] refl, refl), refl)

all_say : (scope : Scope) (h : Header) → Say scope (all h) (say_all h)
unfolding declared_prefix prefix_of local_of
all_say scope h =
    given_said scope (codes "from") [] (codes "from") h.from (from_id h) (say_id h) refl (λ v. plain_said scope (codes "from") v refl)
    (given_said scope (codes "id") [] (codes "id") h.id (from_to h) (say_to h) refl (λ v. plain_said scope (codes "id") v refl)
    (given_said scope (codes "to") [] (codes "to") h.to (from_version h) (say_version h) refl (λ v. plain_said scope (codes "to") v refl)
    (given_said scope (codes "version") [] (codes "version") h.version (from_lang h) (say_lang h) refl (λ v. plain_said scope (codes "version") v refl)
    (given_said scope (codes "xml:lang") xml_namespace (codes "lang") h.lang declarations [] refl (λ v. lang_said scope v) tt))))

-- ---- a header

abbrev pub header_tag : Header → Tag
header_tag h = record { spelled = codes "stream:stream"; ns = streams_namespace; name = codes "stream"; attributes = say_all h; bindings = written_scope; empty = false }

may_default : MayDeclare (bind [] client_namespace)
may_default = record {
  xml_alone = (λ e. absurd (other-from_bytes_eq [] (codes "xml") refl e), λ e. absurd (other-from_bytes_eq client_namespace xml_namespace refl e));
  not_xmlns = other-from_bytes_eq [] (codes "xmlns") refl;
  not_its_name = other-from_bytes_eq client_namespace xmlns_namespace refl;
  not_undeclared = λ e. refl;
}

may_stream : MayDeclare (bind (codes "stream") streams_namespace)
may_stream = record {
  xml_alone = (λ e. absurd (other-from_bytes_eq (codes "stream") (codes "xml") refl e), λ e. absurd (other-from_bytes_eq streams_namespace xml_namespace refl e));
  not_xmlns = other-from_bytes_eq (codes "stream") (codes "xmlns") refl;
  not_its_name = other-from_bytes_eq streams_namespace xmlns_namespace refl;
  not_undeclared = λ e. absurd (other-from_bytes_eq streams_namespace [] refl e);
}

from_said : (h : Header) → value_in (say_all h) [] (codes "from") ≡ h.from
from_said h =
    value_here [] (codes "from") h.from (say_id h) refl
    (value_other [] (codes "id") h.id (say_to h) [] (codes "from") refl ∙ value_other [] (codes "to") h.to (say_version h) [] (codes "from") refl
    ∙ value_other [] (codes "version") h.version (say_lang h) [] (codes "from") refl ∙ value_other xml_namespace (codes "lang") h.lang [] [] (codes "from") refl)

id_said : (h : Header) → value_in (say_all h) [] (codes "id") ≡ h.id
id_said h =
    value_other [] (codes "from") h.from (say_id h) [] (codes "id") refl
    ∙ value_here [] (codes "id") h.id (say_to h) refl
    (value_other [] (codes "to") h.to (say_version h) [] (codes "id") refl ∙ value_other [] (codes "version") h.version (say_lang h) [] (codes "id") refl
    ∙ value_other xml_namespace (codes "lang") h.lang [] [] (codes "id") refl)

to_said : (h : Header) → value_in (say_all h) [] (codes "to") ≡ h.to
to_said h =
    value_other [] (codes "from") h.from (say_id h) [] (codes "to") refl ∙ value_other [] (codes "id") h.id (say_to h) [] (codes "to") refl
    ∙ value_here [] (codes "to") h.to (say_version h) refl (value_other [] (codes "version") h.version (say_lang h) [] (codes "to") refl ∙ value_other xml_namespace (codes "lang") h.lang [] [] (codes "to") refl)

version_said : (h : Header) → value_in (say_all h) [] (codes "version") ≡ h.version
version_said h =
    value_other [] (codes "from") h.from (say_id h) [] (codes "version") refl ∙ value_other [] (codes "id") h.id (say_to h) [] (codes "version") refl
    ∙ value_other [] (codes "to") h.to (say_version h) [] (codes "version") refl
    ∙ value_here [] (codes "version") h.version (say_lang h) refl (value_other xml_namespace (codes "lang") h.lang [] [] (codes "version") refl)

xml_lang_said : (h : Header) → value_in (say_all h) xml_namespace (codes "lang") ≡ h.lang
xml_lang_said h =
    value_other [] (codes "from") h.from (say_id h) xml_namespace (codes "lang") refl ∙ value_other [] (codes "id") h.id (say_to h) xml_namespace (codes "lang") refl
    ∙ value_other [] (codes "to") h.to (say_version h) xml_namespace (codes "lang") refl ∙ value_other [] (codes "version") h.version (say_lang h) xml_namespace (codes "lang") refl
    ∙ value_here xml_namespace (codes "lang") h.lang [] refl refl

pub header_says : (h : Header) → as_written h ≡ header_of (header_tag h)
header_says h = λ i. record {
  ns = streams_namespace;
  name = codes "stream";
  content = client_namespace;
  to = sym (to_said h) i;
  from = sym (from_said h) i;
  id = sym (id_said h) i;
  version = sym (version_said h) i;
  lang = sym (xml_lang_said h) i;
}

-- the tag is read so in each scope
pub header_start : (scope : Scope) (h : Header) → IsPlainHeader h → IsStart scope (written_header h) (all h) (header_tag h)
unfolding bound
header_start scope h p =
    let s = all_sound h p in
    record {
      spelled = record {
        inside = assignments (all h) ++ tag_end false;
        space = [];
        bytes_are = header_bytes h;
        name_is = stream_names_qualified.1;
        inside_is = attributes_spelled (all h) (tag_end false) s.bounded;
        space_white = refl;
        distinct = s.apart;
      };
      declarations = sym (all_bindings h);
      may_be_made = All-from_recursion MayDeclare written_scope (may_default, (may_stream, tt));
      prefix = codes "stream";
      name_is = inl (refl, refl);
      element = inr (other-from_bytes_eq (codes "stream") [] refl, other-from_bytes_eq (codes "stream") (codes "xmlns") refl, refl);
      others = all_say (written_scope ++ scope) h;
      distinct = (all_told h).apart;
    }

abbrev pub header_by : (h : Header) → IsPlainHeader h → SpellsHeader (written_header h) (codes "stream:stream") written_scope (as_written h)
header_by h p = record {
  raw = all h;
  tag = header_tag h;
  start = header_start [] h p;
  not_empty = refl;
  name_is = refl;
  scope_is = refl;
  says = header_says h;
}

pub header_spelled : (h : Header) → IsPlainHeader h → SpellsHeader (written_header h) (codes "stream:stream") written_scope (as_written h)
header_spelled h p = header_by h p

pub footer_spelled : SpellsFooter written_footer (codes "stream:stream")
footer_spelled = record { space = []; bytes_are = refl; name_is = stream_names_qualified.1; space_white = refl }
