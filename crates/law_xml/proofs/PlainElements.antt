-- What is spelled is plain, so that it can be written.
use Rattle.std.proofs.Common.{◌≡◌, ◌≢◌, ℕ, ◌⊎◌, inl, inr, Bool, true, false, cond, ◌&&◌, List, [], ◌∷◌, ◌++◌, map, codes, bytes_eq, Option, Some, None, Ordering, Less, Equal, Greater, unwrap_or, refl, sym, ap, subst, ◌∙◌, ⊎_elim}
use Rattle.std.specs.Prelude.{IfSome}
use Rattle.std.proofs.lemmas.Bool.{and_parts, false≢true}
use Rattle.std.proofs.lemmas.List.Elements.{All-from_recursion, recursion_from_All}
use Rattle.std.proofs.lemmas.Option.{same_Some}
use Rattle.std.proofs.lemmas.Slice.Eq.{bytes_eq-Decides}
use Rattle.std.specs.List.{All, AllByRecursion, AllZip}
use Rattle.std.specs.Ordering.{match_ordering}
use Rattle.std.specs.Str.{chars, is_utf8}
use lib.Utf8.{encode}
use Rattle.xml_tokens.specs.Characters.{are_characters}
use Rattle.xml_tokens.specs.Lines.{IsCharacters}
use Rattle.xml_tokens.specs.Tags as tokens
use Rattle.xml_tokens.specs.Tags.{AreAttributes, has_parts, is_qualified, tag_end}
use Rattle.xml_names.specs.Declarations.{MayDeclare, bindings_of, declared_prefix, others_of, unless_binding, with_binding}
use Rattle.xml_names.specs.Grammar.{IsElementIn, IsExpanded, IsStart}
use Rattle.xml_names.specs.Headers.{header_of, value_in}
use Rattle.xml_names.specs.Names.{IsName}
use Rattle.xml_names.specs.Scopes.{Scope, bound, first_bound, xml_namespace, xmlns_namespace}
use Rattle.xml_names.specs.Starts.{Tag}
use Rattle.xml_names.specs.declared.expansion.ExpandedAttribute.{ExpandedAttribute}
use Rattle.xml_names.specs.declared.headers.Header.{Header}
use Rattle.xml_trees.specs.Attributes.{Attribute, name_order, put_attribute, sorted_attributes}
use Rattle.xml_trees.specs.Tidied.{text_node}
use Rattle.xml_trees.specs.Trees.{Elem, Nodes, child, joined, no_nodes}
use Rattle.xml_framer.specs.Expanded.{attribute_of}
use Rattle.xml_framer.specs.declared.items.Item.{Item}
use Rattle.xml_framer.specs.declared.states.Phase.{Phase}
use Rattle.xml_framer.specs.declared.states.Phase.TheVariants as phase
use Rattle.xml_writer.specs.Canon.{canon, client_namespace, streams_namespace, written_header}
use Rattle.law_xml.specs.Plain.{ArePlainNodes, HasPlainName, IsPlain, IsPlainAttribute, IsPlainElement, IsPlainHeader, IsPlainName}
use Rattle.law_xml.specs.PlainItems.{IsPlainBinding, IsPlainItem, IsPlainScope}
use Rattle.law_xml.specs.Spells.{IsBegun, Spells, SpellsContent, SpellsHeader, SpellsTop, as_written, bind, empty, filled, text_alone, with_element, written_scope}
use Rattle.law_xml.specs.Streams.{InForce, IsStream, SpellsEmptyHeaderIn, SpellsHeaderIn, StreamTo, declared, ended, headed, headed_and_ended, nothing, white_space}
use Rattle.law_xml.specs.Streams as streams
use Rattle.law_xml.proofs.CanonLaws.{canon_spelled, declares_empty as declares}
use Rattle.law_xml.proofs.HeaderLaws.{header_spelled, plain_literal as characters_literal}
use Rattle.law_xml.proofs.SaidCharacters.{local_is_plain, text_says_characters, value_says_characters}
use Rattle.law_xml.proofs.SpelledAttributes.{Bounded}
use Rattle.base_lemmas.proofs.Bytes.{other-from_bytes_eq}
use Rattle.law_xml.proofs.SpelledTrees.{begun_is, spelled_tree}

-- ---- lists

pub append_each : {A : Type 0} (P : A → Type 0) (xs ys : List A) → AllByRecursion P xs → AllByRecursion P ys → AllByRecursion P (xs ++ ys)
append_each P [] ys h k = k
append_each P (x ∷ xs) ys h k = (h.0, append_each P xs ys h.1 k)

pub chosen : {A : Type 0} (b : Bool) (x y z : A) → cond b x y ≡ z → ((b ≡ true) × (x ≡ z)) ⊎ ((b ≡ false) × (y ≡ z))
chosen true x y z e = inl (refl, e)
chosen false x y z e = inr (refl, e)

-- ---- literal texts

no_characters : IsCharacters []
unfolding are_characters is_utf8 chars encode
no_characters = characters_literal [] refl refl

xml_characters : IsCharacters xml_namespace
unfolding are_characters is_utf8 chars encode
xml_characters = characters_literal xml_namespace refl refl

-- ---- attributes as they are spelled

bounded_from : (bytes : List ℕ) (xs : List tokens.Attribute) (rest : List ℕ) → AreAttributes bytes xs rest → AllByRecursion Bounded xs
bounded_from bytes [] rest h = tt
bounded_from bytes (a ∷ more) rest h = (record { name = h.1.1.name_is; value = value_says_characters h.1.0 a.value h.1.2 }, bounded_from h.0 more rest h.2)

more_bound : (o : Option (List ℕ)) (value : List ℕ) (more : Scope) → IsCharacters value → AllByRecursion MayDeclare (with_binding o value more) → (AllByRecursion MayDeclare more → IsPlainScope more)
    → IsPlainScope (with_binding o value more)
more_bound None value more c may ih = ih may
more_bound (Some p) value more c may ih = (record { characters = c; may = may.0 }, ih may.1)

bindings_plain : (xs : List tokens.Attribute) → AllByRecursion Bounded xs → AllByRecursion MayDeclare (bindings_of xs) → IsPlainScope (bindings_of xs)
bindings_plain [] h may = tt
bindings_plain (a ∷ more) h may = more_bound (declared_prefix a.name) a.value (bindings_of more) h.0.value may (bindings_plain more h.1)

record IsOther (a : tokens.Attribute) : Type 0 where
  bounded : Bounded a
  undeclared : declared_prefix a.name ≡ None

one_other : (o : Option (List ℕ)) (a : tokens.Attribute) (more : List tokens.Attribute) → declared_prefix a.name ≡ o → Bounded a → AllByRecursion IsOther more → AllByRecursion IsOther (unless_binding o a more)
one_other None a more is bounded rest = (record { bounded = bounded; undeclared = is }, rest)
one_other (Some p) a more is bounded rest = rest

others_bounded : (xs : List tokens.Attribute) → AllByRecursion Bounded xs → AllByRecursion IsOther (others_of xs)
others_bounded [] h = tt
others_bounded (a ∷ more) h = one_other (declared_prefix a.name) a (others_of more) refl h.0 (others_bounded more h.1)

-- ---- what a prefix is bound to

xml_plain : IsPlainBinding (bind (codes "xml") xml_namespace)
xml_plain = record {
  characters = xml_characters;
  may = record {
    xml_alone = (λ e. refl, λ e. refl);
    not_xmlns = other-from_bytes_eq (codes "xml") (codes "xmlns") refl;
    not_its_name = other-from_bytes_eq xml_namespace xmlns_namespace refl;
    not_undeclared = λ e. absurd (other-from_bytes_eq xml_namespace [] refl e);
  };
}

first_plain : (scope : Scope) (prefix ns : List ℕ) → IsPlainScope scope → first_bound scope prefix ≡ Some ns → IsPlainBinding (bind prefix ns)
first_plain [] prefix ns h e = absurd cc
first_plain (b ∷ outer) prefix ns h e =
    ⊎_elim
    (λ here.
    let same_prefix : b.prefix ≡ prefix = (bytes_eq-Decides b.prefix prefix).0 here.0 in
    let same_ns : b.ns ≡ ns = same_Some b.ns ns here.1 in
    subst (λ p. IsPlainBinding (bind p ns)) same_prefix (subst (λ n. IsPlainBinding (bind b.prefix n)) same_ns h.0))
    (λ there. first_plain outer prefix ns h.1 there.1)
    (chosen (bytes_eq b.prefix prefix) (Some b.ns) (first_bound outer prefix) (Some ns) e)

bound_plain : (scope : Scope) (prefix ns : List ℕ) → IsPlainScope scope → bound scope prefix ≡ Some ns → IsPlainBinding (bind prefix ns)
unfolding bound
bound_plain scope prefix ns h e =
    ⊎_elim
    (λ xml.
    let same_prefix : prefix ≡ codes "xml" = (bytes_eq-Decides prefix (codes "xml")).0 xml.0 in
    let same_ns : xml_namespace ≡ ns = same_Some xml_namespace ns xml.1 in
    subst (λ p. IsPlainBinding (bind p ns)) (sym same_prefix) (subst (λ n. IsPlainBinding (bind (codes "xml") n)) same_ns xml_plain))
    (λ other. first_plain scope prefix ns h other.1)
    (chosen (bytes_eq prefix (codes "xml")) (Some xml_namespace) (first_bound scope prefix) (Some ns) e)

-- ---- attributes

no_empty_prefix : (name local : List ℕ) → is_qualified name ≡ true → name ≡ 58 ∷ local → ⊥
unfolding is_qualified
no_empty_prefix name local q is = false≢true (ap has_parts (sym is) ∙ (and_parts (has_parts name) (is_utf8 name) q).0)

-- a name without a prefix that declares nothing
no_declaration : (a : tokens.Attribute) (local : List ℕ) → IsOther a → IsName a.name [] local → local ≢ codes "xmlns"
no_declaration a local h (inl (is, uncolon)) e = no_empty_prefix a.name local h.bounded.name is
no_declaration a local h (inr (is, none, uncolon)) e = let clash : None ≡ Some [] = sym h.undeclared ∙ ap declared_prefix (is ∙ e) ∙ declares in absurd cc

expanded_plain : (scope : Scope) (a : tokens.Attribute) (e : ExpandedAttribute) → IsPlainScope scope → IsOther a → IsExpanded scope a e → IsPlainAttribute (attribute_of e)
expanded_plain scope a e s h (prefix, named, within, says) =
    let plain_name = local_is_plain a.name prefix e.name h.bounded.name named in
    let value = subst IsCharacters (sym says) h.bounded.value in
    ⊎_elim
    (λ (none : (prefix ≡ []) × (e.ns ≡ [])). record {
      ns = subst IsCharacters (sym none.1) no_characters;
      name = plain_name;
      value = value;
      not_xmlns = λ is. other-from_bytes_eq [] xmlns_namespace refl (sym none.1 ∙ is);
      no_declaration = λ is. no_declaration a e.name h (subst (λ p. IsName a.name p e.name) none.0 named);
    })
    (λ (some : (prefix ≢ []) × (bound scope prefix ≡ Some e.ns)).
    let b = bound_plain scope prefix e.ns s some.1 in
    record {
      ns = b.characters;
      name = plain_name;
      value = value;
      not_xmlns = b.may.not_its_name;
      no_declaration = λ is. absurd (some.0 (b.may.not_undeclared is));
    })
    within

all_expanded : (scope : Scope) (xs : List tokens.Attribute) (es : List ExpandedAttribute) → IsPlainScope scope → AllByRecursion IsOther xs → AllZip (IsExpanded scope) xs es
    → AllByRecursion IsPlainAttribute (map attribute_of es)
all_expanded scope [] [] s h z = tt
all_expanded scope [] (e ∷ es) s h z = absurd z
all_expanded scope (a ∷ xs) [] s h z = absurd z
all_expanded scope (a ∷ xs) (e ∷ es) s h z = (expanded_plain scope a e s h.0 z.0, all_expanded scope xs es s h.1 z.1)

one_of : (P : List Attribute → Type 0) (o : Ordering) (xs ys zs : List Attribute) → P xs → P ys → P zs → P (match_ordering o xs ys zs)
one_of P Less xs ys zs h k l = h
one_of P Equal xs ys zs h k l = k
one_of P Greater xs ys zs h k l = l

put_each : (P : Attribute → Type 0) (a : Attribute) (bs : List Attribute) → P a → AllByRecursion P bs → AllByRecursion P (put_attribute a bs)
put_each P a [] h k = (h, tt)
put_each P a (b ∷ bs) h k = one_of (AllByRecursion P) (name_order a b) (a ∷ b ∷ bs) (a ∷ bs) (b ∷ put_attribute a bs) (h, k) (h, k.1) (k.0, put_each P a bs h k.1)

pub sorted_each : (P : Attribute → Type 0) (xs : List Attribute) → AllByRecursion P xs → AllByRecursion P (sorted_attributes xs)
sorted_each P [] h = tt
sorted_each P (a ∷ xs) h = put_each P a (sorted_attributes xs) h.0 (sorted_each P xs h.1)

-- ---- tags

record IsPlainTag (scope : Scope) (t : Tag) : Type 0 where
  inner : IsPlainScope (t.bindings ++ scope)
  own : IsPlainScope t.bindings
  name : HasPlainName t.ns t.name
  attributes : AllByRecursion IsPlainAttribute (map attribute_of t.attributes)

default_is : (o : Option (List ℕ)) (ns : List ℕ) → ns ≡ unwrap_or o [] → (o ≡ Some ns) ⊎ (ns ≡ [])
default_is None ns e = inr e
default_is (Some x) ns e = inl (ap Some (sym e))

plain_name : (scope : Scope) (prefix ns name : List ℕ) → IsPlainScope scope → IsPlainName name → IsElementIn scope prefix ns → HasPlainName ns name
plain_name scope prefix ns name s p within =
    let bound_name = λ (is : bound scope prefix ≡ Some ns).
    let b = bound_plain scope prefix ns s is in
    let r : HasPlainName ns name = record { characters = b.characters; name_is = p; not_xmlns = b.may.not_its_name } in r in
    ⊎_elim
    (λ (none : (prefix ≡ []) × (ns ≡ unwrap_or (bound scope []) [])).
    ⊎_elim
    (λ (is : bound scope [] ≡ Some ns). bound_name (ap (bound scope) none.0 ∙ is))
    (λ (is : ns ≡ []). record { characters = subst IsCharacters (sym is) no_characters; name_is = p; not_xmlns = λ e. other-from_bytes_eq [] xmlns_namespace refl (sym is ∙ e) })
    (default_is (bound scope []) ns none.1))
    (λ (some : (prefix ≢ []) × (prefix ≢ codes "xmlns") × (bound scope prefix ≡ Some ns)). bound_name some.2)
    within

tag_plain : (scope : Scope) (bytes : List ℕ) (raw : List tokens.Attribute) (t : Tag) → IsPlainScope scope → IsStart scope bytes raw t → IsPlainTag scope t
tag_plain scope bytes raw t s start =
    let bounded = bounded_from start.spelled.inside raw (start.spelled.space ++ tag_end t.empty) start.spelled.inside_is in
    let own = subst IsPlainScope (sym start.declarations) (bindings_plain raw bounded (subst (AllByRecursion MayDeclare) start.declarations (recursion_from_All MayDeclare t.bindings start.may_be_made))) in
    let inner = append_each IsPlainBinding t.bindings scope own s in
    record {
      inner = inner;
      own = own;
      name = plain_name (t.bindings ++ scope) start.prefix t.ns t.name inner (local_is_plain t.spelled start.prefix t.name start.spelled.name_is start.name_is) start.element;
      attributes = all_expanded (t.bindings ++ scope) (others_of raw) t.attributes inner (others_bounded raw bounded) start.others;
    }

-- ---- elements

begun_plain : (scope : Scope) (t : Tag) (kids : Nodes) (e : Elem) → IsPlainTag scope t → IsBegun t kids e → ArePlainNodes kids → IsPlainElement e
begun_plain scope t kids e h begun inside =
    subst IsPlainElement (sym (begun_is t kids e begun)) (h.name, sorted_each IsPlainAttribute (map attribute_of t.attributes) h.attributes, inside)

pub text_plain : (says : List ℕ) (more : Nodes) → IsCharacters says → ArePlainNodes more → ArePlainNodes (joined (text_node says) more)
text_plain [] more h k = k
text_plain (c ∷ cs) more h k = (h, k)

pub only_text_plain : (says : List ℕ) → IsCharacters says → ArePlainNodes (text_node says)
only_text_plain [] h = tt
only_text_plain (c ∷ cs) h = (h, tt)

mutual
  pub element_is_plain : (scope : Scope) (bytes : List ℕ) (e : Elem) → IsPlainScope scope → Spells scope bytes e → IsPlainElement e
  element_is_plain scope bytes e s (empty _ _ _ raw t start is_empty begun) = begun_plain scope t no_nodes e (tag_plain scope bytes raw t s start) begun tt
  element_is_plain scope bytes e s (filled _ _ _ raw t front inside close kids start not_empty content end bytes_are begun) =
      let tag = tag_plain scope front raw t s start in
      begun_plain scope t kids e tag begun (content_is_plain (t.bindings ++ scope) inside kids tag.inner content)

  pub content_is_plain : (scope : Scope) (bytes : List ℕ) (kids : Nodes) → IsPlainScope scope → SpellsContent scope bytes kids → ArePlainNodes kids
  content_is_plain scope bytes kids s (text_alone _ _ _ says is_text kids_are) = subst ArePlainNodes (sym kids_are) (only_text_plain says (text_says_characters bytes says is_text))
  content_is_plain scope bytes kids s (with_element _ _ _ front says middle rest e more is_text spelled content bytes_are kids_are) =
      subst ArePlainNodes (sym kids_are) (text_plain says (child e more) (text_says_characters front says is_text) (element_is_plain scope middle e s spelled, content_is_plain scope rest more s content))

pub top_is_plain : (scope : Scope) (bytes : List ℕ) (e : Elem) → IsPlainScope scope → SpellsTop scope bytes e → IsPlain e
top_is_plain scope bytes e s h = record { inside = element_is_plain scope bytes e s h.spelled; no_header = h.no_header }

pub written_again : (scope : Scope) (bytes : List ℕ) (e : Elem) → IsPlainScope scope → SpellsTop scope bytes e → SpellsTop written_scope (canon e) e
written_again scope bytes e s h = canon_spelled e (spelled_tree scope bytes e h.spelled) (top_is_plain scope bytes e s h)

-- ---- headers

value_plain : (es : List ExpandedAttribute) (ns name : List ℕ) → AllByRecursion IsPlainAttribute (map attribute_of es) → IfSome (value_in es ns name) IsCharacters
value_plain [] ns name h = tt
value_plain (a ∷ more) ns name h =
    either_value (bytes_eq a.ns ns && bytes_eq a.name name) a.value (value_in more ns name) h.0.value (value_plain more ns name h.1)
  where
    either_value : (b : Bool) (value : List ℕ) (o : Option (List ℕ)) → IsCharacters value → IfSome o IsCharacters → IfSome (cond b (Some value) o) IsCharacters
    either_value true value o h k = h
    either_value false value o h k = k

head_plain : (bytes : List ℕ) (raw : List tokens.Attribute) (t : Tag) → IsStart [] bytes raw t → IsPlainHeader (header_of t) × IsPlainScope t.bindings
head_plain bytes raw t start =
    let tag = tag_plain [] bytes raw t tt start in
    let es = t.attributes in (
      record {
        to = value_plain es [] (codes "to") tag.attributes;
        from = value_plain es [] (codes "from") tag.attributes;
        id = value_plain es [] (codes "id") tag.attributes;
        version = value_plain es [] (codes "version") tag.attributes;
        lang = value_plain es xml_namespace (codes "lang") tag.attributes;
      },
      tag.own,
    )

abbrev IsPlainHead : Scope → Header → Type 0
IsPlainHead scope h = IsPlainHeader h × IsPlainScope scope

head_says : (bytes : List ℕ) (raw : List tokens.Attribute) (t : Tag) (scope : Scope) (h : Header) → IsStart [] bytes raw t → t.bindings ≡ scope → h ≡ header_of t → IsPlainHead scope h
head_says bytes raw t scope h start scope_is says =
    let p = head_plain bytes raw t start in (subst IsPlainHeader (sym says) p.0, subst IsPlainScope scope_is p.1)

pub header_is_plain : (bytes name : List ℕ) (scope : Scope) (h : Header) → SpellsHeader bytes name scope h → IsPlainHeader h × IsPlainScope scope
header_is_plain bytes name scope h spelled = head_says bytes spelled.raw spelled.tag scope h spelled.start spelled.scope_is spelled.says

header_in_plain : (p : Phase) (outer : Scope) (bytes name : List ℕ) (scope : Scope) (h : Header) → SpellsHeaderIn p outer bytes name scope h → IsPlainHead scope h
header_in_plain phase.First outer bytes name scope h n = head_says bytes n.raw n.tag scope h n.start n.scope_is n.says
header_in_plain phase.FirstDeclared outer bytes name scope h n = head_says bytes n.raw n.tag scope h n.start n.scope_is n.says
header_in_plain phase.Between outer bytes name scope h n = head_says bytes n.spelled.raw n.spelled.tag scope h n.spelled.start n.spelled.scope_is n.spelled.says
header_in_plain phase.Declared outer bytes name scope h n = head_says bytes n.spelled.raw n.spelled.tag scope h n.spelled.start n.spelled.scope_is n.spelled.says
header_in_plain phase.Ended outer bytes name scope h n = absurd n

empty_header_in_plain : (p : Phase) (outer : Scope) (bytes name : List ℕ) (scope : Scope) (h : Header) → SpellsEmptyHeaderIn p outer bytes name scope h → IsPlainHead scope h
empty_header_in_plain phase.First outer bytes name scope h n = head_says bytes n.raw n.tag scope h n.start n.scope_is n.says
empty_header_in_plain phase.FirstDeclared outer bytes name scope h n = head_says bytes n.raw n.tag scope h n.start n.scope_is n.says
empty_header_in_plain phase.Between outer bytes name scope h n = head_says bytes n.spelled.raw n.spelled.tag scope h n.spelled.start n.spelled.scope_is n.spelled.says
empty_header_in_plain phase.Declared outer bytes name scope h n = head_says bytes n.spelled.raw n.spelled.tag scope h n.spelled.start n.spelled.scope_is n.spelled.says
empty_header_in_plain phase.Ended outer bytes name scope h n = absurd n

-- ---- streams

abbrev pub ArePlainItems : List Item → Type 0
ArePlainItems items = AllByRecursion IsPlainItem items

pub record IsPlainSoFar (now : InForce) (said : List Item) : Type 0 where
  pub scope : IsPlainScope now.scope
  pub items : ArePlainItems said

more_items : (items given more : List Item) → items ≡ given ++ more → ArePlainItems given → ArePlainItems more → ArePlainItems items
more_items items given more are h k = subst ArePlainItems (sym are) (append_each IsPlainItem given more h k)

pub stream_so_far : (now : InForce) (bytes : List ℕ) (items : List Item) → StreamTo now bytes items → IsPlainSoFar now items
stream_so_far now bytes items (nothing _ _ _ is_first no_scope no_name no_bytes no_items) = record { scope = subst IsPlainScope (sym no_scope) tt; items = subst ArePlainItems (sym no_items) tt }
stream_so_far now bytes items (white_space _ _ _ front space so_far white bytes_are) = stream_so_far now front items so_far
stream_so_far now bytes items (declared _ _ _ before front tag so_far phases scope_is name_is good bytes_are) =
    let r = stream_so_far before front items so_far in record { scope = subst IsPlainScope (sym scope_is) r.scope; items = r.items }
stream_so_far now bytes items (headed _ _ _ before front tag given h so_far spelled phase_is bytes_are items_are) =
    let r = stream_so_far before front given so_far in
    let p = header_in_plain before.phase before.scope tag now.name now.scope h spelled in
    record { scope = p.1; items = more_items items given _ items_are r.items (p.0, tt) }
stream_so_far now bytes items (headed_and_ended _ _ _ before front tag given h so_far spelled phase_is bytes_are items_are) =
    let r = stream_so_far before front given so_far in
    let p = empty_header_in_plain before.phase before.scope tag now.name now.scope h spelled in
    record { scope = p.1; items = more_items items given _ items_are r.items (p.0, (tt, tt)) }
stream_so_far now bytes items (streams.with_element _ _ _ front inside given e so_far phase_is spelled bytes_are items_are) =
    let r = stream_so_far now front given so_far in
    record { scope = r.scope; items = more_items items given _ items_are r.items (top_is_plain now.scope inside e r.scope spelled, tt) }
stream_so_far now bytes items (ended _ _ _ before front tag given so_far was_between spelled phase_is scope_is name_is bytes_are items_are) =
    let r = stream_so_far before front given so_far in
    record { scope = subst IsPlainScope (sym scope_is) r.scope; items = more_items items given _ items_are r.items (tt, tt) }

pub stream_is_plain : (bytes : List ℕ) (items : List Item) → IsStream bytes items → All IsPlainItem items
stream_is_plain bytes items h = All-from_recursion IsPlainItem items (stream_so_far h.0 bytes items h.1).items

-- ---- what is read, written again

pub written_same : (h : Header) → h.ns ≡ streams_namespace → h.name ≡ codes "stream" → h.content ≡ client_namespace → as_written h ≡ h
written_same h ns_is name_is content_is = λ i. record {
  ns = sym ns_is i;
  name = sym name_is i;
  content = sym content_is i;
  to = h.to;
  from = h.from;
  id = h.id;
  version = h.version;
  lang = h.lang;
}

pub header_again : (bytes name : List ℕ) (scope : Scope) (h : Header) → SpellsHeader bytes name scope h → SpellsHeader (written_header h) (codes "stream:stream") written_scope (as_written h)
header_again bytes name scope h spelled = header_spelled h (header_is_plain bytes name scope h spelled).0
