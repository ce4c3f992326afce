-- How long elements are as they are written.
use Rattle.std.proofs.Common.{◌≡◌, ℕ, ◌+◌, ◌*◌, ◌≤◌, Bool, true, false, not, List, [], ◌∷◌, ◌++◌, bytes_eq, codes, cond, Option, Some, None, length, unwrap_or, refl, sym, ap, subst, ◌∙◌, inl, inr, arith, length-append}
use Rattle.std.proofs.lemmas.Bool.{and_parts, cases_Bool, false≢true}
use Rattle.std.proofs.lemmas.Grind.{flat_map-append}
use Rattle.std.proofs.lemmas.Option.{same_Some}
use Rattle.std.proofs.lemmas.Slice.Eq.{bytes_eq-Decides}
use Rattle.std.specs.Option.{option_map}
use Rattle.xml_names.specs.Scopes.{xml_namespace}
use Rattle.law_limits.proofs.TextSizes.{either_short as shorter, text_append, text_nothing}
use Rattle.law_limits.specs.Elements.{are_local, attributes_size, element_size, nodes_size}
use Rattle.law_limits.specs.Texts.{text_size, value_size}
use Rattle.im_stanza.specs.Written.{attr_where, unless_empty}
use Rattle.xml_tokens.specs.Spelling.{spelled_value}
use Rattle.xml_tokens.specs.Tags as tokens
use Rattle.xml_tokens.specs.Tags.{is_empty}
use Rattle.xml_trees.specs.Attributes.{Attribute, found, has_name}
use Rattle.xml_trees.specs.Readers.{attr_of, text_of}
use Rattle.xml_trees.specs.Tidied.{text_node, texts_joined}
use Rattle.xml_trees.specs.Trees.{Elem, Nodes, child, element, joined, namespace_of, no_nodes, nodes_of, text}
use Rattle.xml_writer.specs.Canon.{after_attributes, assignment, assignments, declared_default, declares_default, default_inside, has_nothing, is_foreign, next_number, number_text, opened, spelled, spelled_attribute, spelled_attributes, spelled_name, streams_namespace, tag_attributes, written, written_nodes}
use Rattle.base_lemmas.proofs.Bytes.{same-from_bytes_eq as same_bytes}
use Rattle.law_limits.proofs.Spelled.{joined_long as assignments_add, name_short as name_written}

-- ---- attributes as they are spelled

pub assignment_is : (name value : List ℕ) → length (assignment (spelled name value)) ≡ 4 + length name + value_size value
unfolding assignment value_size
assignment_is name value = omega (arith, length-append name (61 ∷ 39 ∷ (spelled_value value ++ (39 ∷ []))), length-append (spelled_value value) (39 ∷ []))

one_assignment : (name value : List ℕ) → length (assignments (spelled name value ∷ [])) ≡ 4 + length name + value_size value
one_assignment name value = let one = assignment_is name value in omega (arith, one, length-append (assignment (spelled name value)) [])

two_assignments : (m v n w : List ℕ) → value_size w ≤ length (assignments (spelled m v ∷ spelled n w ∷ []))
two_assignments m v n w =
    let second = one_assignment n w in
    omega (arith, second, length-append (assignment (spelled m v)) (assignments (spelled n w ∷ [])))

-- each value is there
value_written : (n : ℕ) (a : Attribute) → value_size a.value ≤ length (assignments (spelled_attribute n a))
unfolding spelled_attribute
value_written n a =
    elim (cases_Bool (is_empty a.ns)) [
      | inl e ↦ rw e (let one = one_assignment a.name a.value in omega (arith, one))
      | inr e ↦
          elim (cases_Bool (bytes_eq a.ns xml_namespace)) [
            | inl x ↦ rw (e, x) (let one = one_assignment (codes "xml:" ++ a.name) a.value in omega (arith, one))
            | inr x ↦ rw (e, x) (two_assignments (codes "xmlns:a" ++ number_text n) a.ns (97 ∷ (number_text n ++ (58 ∷ a.name))) a.value)
          ]
    ]

no_other : (b : Bool) → not b ≡ true → b ≡ true → false ≡ true
no_other true h k = h
no_other false h k = k

local_written : (n : ℕ) (a : Attribute) → not (is_foreign a) ≡ true → length (assignments (spelled_attribute n a)) ≤ 8 + length a.name + value_size a.value
unfolding spelled_attribute
local_written n a here =
    elim (cases_Bool (is_empty a.ns)) [
      | inl e ↦ rw e (let one = one_assignment a.name a.value in omega (arith, one))
      | inr e ↦
          elim (cases_Bool (bytes_eq a.ns xml_namespace)) [
            | inl x ↦ rw (e, x) (let one = one_assignment (codes "xml:" ++ a.name) a.value in omega (arith, one, length-append (codes "xml:") a.name))
            | inr x ↦ absurd (false≢true (no_other (is_foreign a) here (rw (e, x) refl)))
          ]
    ]

pub locals_written : (n : ℕ) (attrs : List Attribute) → are_local attrs ≡ true → length (assignments (spelled_attributes n attrs)) ≤ attributes_size attrs
locals_written n [] h = omega arith
locals_written n (a ∷ more) h =
    let parts = and_parts (not (is_foreign a)) (are_local more) h in
    let first = local_written n a parts.0 in
    let rest = locals_written (next_number n a) more parts.1 in
    omega (arith, first, rest, assignments_add (spelled_attribute n a) (spelled_attributes (next_number n a) more))

default_written : (default ns : List ℕ) → length (assignments (declared_default default ns)) ≤ 9 + value_size ns
unfolding declared_default
default_written default ns =
    elim (cases_Bool (declares_default default ns)) [
      | inl e ↦ rw e (let one = one_assignment (codes "xmlns") ns in omega (arith, one))
      | inr e ↦ rw e (omega arith)
    ]

-- ---- tags

after_written : (b : Bool) (ns name inside : List ℕ) → length (after_attributes b ns name inside) ≤ 11 + length name + length inside
after_written true ns name inside = omega arith
after_written false ns name inside =
    let tag = name_written ns name in
    omega (arith, tag, length-append inside (60 ∷ 47 ∷ (spelled_name ns name ++ (62 ∷ []))), length-append (spelled_name ns name) (62 ∷ []))

pub element_up : (default ns name : List ℕ) (attrs : List Attribute) (kids : Nodes) → are_local attrs ≡ true →
    element_size default (element ns name attrs kids) ≤ 40 + 2 * length name + value_size ns + attributes_size attrs + nodes_size (default_inside default ns) kids
unfolding element_size nodes_size
element_up default ns name attrs kids local =
    let tag = name_written ns name in
    let declared = default_written default ns in
    let given = locals_written 0 attrs local in
    let inside = written_nodes (default_inside default ns) kids in
    let following = after_written (has_nothing kids) ns name inside in
    omega (
      arith,
      tag,
      declared,
      given,
      following,
      assignments_add (declared_default default ns) (spelled_attributes 0 attrs),
      length-append (spelled_name ns name) (assignments (tag_attributes default ns attrs)),
      length-append (opened default ns name attrs) (after_attributes (has_nothing kids) ns name inside),
    )

-- ---- what is inside

inside_written : (default ns name : List ℕ) (kids : Nodes) → length (written_nodes default kids) ≤ length (after_attributes (has_nothing kids) ns name (written_nodes default kids))
inside_written default ns name no_nodes = omega arith
inside_written default ns name (child e rest) =
    let inside = written_nodes default (child e rest) in omega (arith, length-append inside (60 ∷ 47 ∷ (spelled_name ns name ++ (62 ∷ []))))
inside_written default ns name (text t rest) =
    let inside = written_nodes default (text t rest) in omega (arith, length-append inside (60 ∷ 47 ∷ (spelled_name ns name ++ (62 ∷ []))))

found_written : (ns name : List ℕ) (n : ℕ) (attrs : List Attribute) (v : List ℕ) → option_map (λ (a : Attribute). a.value) (found ns name attrs) ≡ Some v → value_size v ≤ length (assignments (spelled_attributes n attrs))
found_written ns name n [] v is = absurd cc
found_written ns name n (a ∷ more) v is =
    let both = assignments_add (spelled_attribute n a) (spelled_attributes (next_number n a) more) in
    elim (cases_Bool (has_name ns name a)) [
      | inl here ↦
          let same : a.value ≡ v = same_Some a.value v (rw here at is) in
          let long = value_written n a in
          rw (← same) (omega (arith, long, both))
      | inr other ↦
          let rest = found_written ns name (next_number n a) more v (rw other at is) in
          omega (arith, rest, both)
    ]

pub value_and_nodes : (default ns name : List ℕ) (e : Elem) (v : List ℕ) → attr_of ns name e ≡ Some v → value_size v + nodes_size (default_inside default (namespace_of e)) (nodes_of e) ≤ element_size default e
unfolding element_size nodes_size
value_and_nodes default ns name (element own called attrs kids) v is =
    let value = found_written ns name 0 attrs v is in
    let inside = written_nodes (default_inside default own) kids in
    let following = inside_written (default_inside default own) own called kids in
    omega (
      arith,
      value,
      following,
      assignments_add (declared_default default own) (spelled_attributes 0 attrs),
      length-append (spelled_name own called) (assignments (tag_attributes default own attrs)),
      length-append (opened default own called attrs) (after_attributes (has_nothing kids) own called inside),
    )

pub nodes_within : (default : List ℕ) (e : Elem) → nodes_size (default_inside default (namespace_of e)) (nodes_of e) ≤ element_size default e
unfolding element_size nodes_size
nodes_within default (element own called attrs kids) =
    let inside = written_nodes (default_inside default own) kids in
    let following = inside_written (default_inside default own) own called kids in
    omega (arith, following, length-append (opened default own called attrs) (after_attributes (has_nothing kids) own called inside))

-- ---- nodes

pub nothing_size : (default : List ℕ) → nodes_size default no_nodes ≡ 0
unfolding nodes_size
nothing_size default = refl

pub child_size : (default : List ℕ) (e : Elem) (rest : Nodes) → nodes_size default (child e rest) ≡ element_size default e + nodes_size default rest
unfolding element_size nodes_size
child_size default e rest = length-append (written default e) (written_nodes default rest)

pub texts_size : (default t : List ℕ) (rest : Nodes) → nodes_size default (text t rest) ≡ text_size t + nodes_size default rest
unfolding nodes_size text_size
texts_size default t rest = length-append _ (written_nodes default rest)

pub joined_size : (default : List ℕ) (ks more : Nodes) → nodes_size default (joined ks more) ≡ nodes_size default ks + nodes_size default more
joined_size default no_nodes more = let none = nothing_size default in omega (arith, none)
joined_size default (child e rest) more =
    let both = joined_size default rest more in
    omega (arith, both, child_size default e rest, child_size default e (joined rest more))
joined_size default (text t rest) more =
    let both = joined_size default rest more in
    omega (arith, both, texts_size default t rest, texts_size default t (joined rest more))

pub text_node_size : (default t : List ℕ) → nodes_size default (text_node t) ≡ text_size t
text_node_size default [] = nothing_size default ∙ sym text_nothing
text_node_size default (c ∷ cs) = let none = nothing_size default in let one = texts_size default (c ∷ cs) no_nodes in omega (arith, none, one)

pub texts_joined_size : (default run : List ℕ) (ks : Nodes) → nodes_size default (texts_joined run ks) ≡ text_size run + nodes_size default ks
texts_joined_size default run no_nodes = let none = nothing_size default in let one = text_node_size default run in omega (arith, none, one)
texts_joined_size default run (child e rest) =
    let after = texts_joined_size default [] rest in
    let none = text_nothing in
    omega (
      arith,
      after,
      none,
      text_node_size default run,
      joined_size default (text_node run) (child e (texts_joined [] rest)),
      child_size default e (texts_joined [] rest),
      child_size default e rest,
    )
texts_joined_size default run (text t rest) = let after = texts_joined_size default (run ++ t) rest in omega (arith, after, text_append run t, texts_size default t rest)

-- the texts directly among nodes
pub text_of_size : (default : List ℕ) (ks : Nodes) → text_size (text_of ks) ≤ nodes_size default ks
text_of_size default no_nodes = let none = text_nothing in omega (arith, none)
text_of_size default (child e rest) = let after = text_of_size default rest in omega (arith, after, child_size default e rest)
text_of_size default (text t rest) = let after = text_of_size default rest in omega (arith, after, text_append t (text_of rest), texts_size default t rest)

-- ---- less of an element

language_spelled : (n : ℕ) (a : Attribute) → has_name xml_namespace (codes "lang") a ≡ true → 12 + value_size a.value ≤ length (assignments (spelled_attribute n a))
unfolding spelled_attribute
language_spelled n a h =
    let parts = and_parts (bytes_eq a.ns xml_namespace) (bytes_eq a.name (codes "lang")) h in
    let some : is_empty a.ns ≡ false = ap is_empty (same_bytes a.ns xml_namespace parts.0) in
    let four : length a.name ≡ 4 = ap length (same_bytes a.name (codes "lang") parts.1) in
    rw (some, parts.0) (let one = one_assignment (codes "xml:" ++ a.name) a.value in omega (arith, one, four, length-append (codes "xml:") a.name))

language_written : (n : ℕ) (attrs : List Attribute) (v : List ℕ) → option_map (λ (a : Attribute). a.value) (found xml_namespace (codes "lang") attrs) ≡ Some v → 12 + value_size v ≤ length (assignments (spelled_attributes n attrs))
language_written n [] v is = absurd cc
language_written n (a ∷ more) v is =
    let both = assignments_add (spelled_attribute n a) (spelled_attributes (next_number n a) more) in
    elim (cases_Bool (has_name xml_namespace (codes "lang") a)) [
      | inl here ↦
          let same : a.value ≡ v = same_Some a.value v (rw here at is) in
          let long = language_spelled n a here in
          rw (← same) (omega (arith, long, both))
      | inr other ↦
          let rest = language_written (next_number n a) more v (rw other at is) in
          omega (arith, rest, both)
    ]

one_language : (v : List ℕ) → length (assignments (spelled_attributes 0 (record { ns = xml_namespace; name = codes "lang"; value = v } ∷ []))) ≡ 12 + value_size v
unfolding spelled_attribute
one_language v = one_assignment (codes "xml:lang") v

nodes_written : (default : List ℕ) (ks : Nodes) → length (written_nodes default ks) ≡ nodes_size default ks
unfolding nodes_size
nodes_written default ks = refl

longer : (ns name inside whole : List ℕ) → length inside ≤ length whole → length (after_attributes false ns name inside) ≤ length (after_attributes false ns name whole)
longer ns name inside whole h =
    omega (arith, h, length-append inside (60 ∷ 47 ∷ (spelled_name ns name ++ (62 ∷ []))), length-append whole (60 ∷ 47 ∷ (spelled_name ns name ++ (62 ∷ []))))

less : (default ns name : List ℕ) (fewer attrs : List Attribute) (inner kids : Nodes) → length (assignments (spelled_attributes 0 fewer)) ≤ length (assignments (spelled_attributes 0 attrs))
    → length (after_attributes (has_nothing inner) ns name (written_nodes (default_inside default ns) inner)) ≤ length (after_attributes (has_nothing kids) ns name (written_nodes (default_inside default ns) kids))
    → element_size default (element ns name fewer inner) ≤ element_size default (element ns name attrs kids)
unfolding element_size
less default ns name fewer attrs inner kids h k =
    omega (
      arith,
      h,
      k,
      assignments_add (declared_default default ns) (spelled_attributes 0 fewer),
      assignments_add (declared_default default ns) (spelled_attributes 0 attrs),
      length-append (spelled_name ns name) (assignments (tag_attributes default ns fewer)),
      length-append (spelled_name ns name) (assignments (tag_attributes default ns attrs)),
      length-append (opened default ns name fewer) (after_attributes (has_nothing inner) ns name (written_nodes (default_inside default ns) inner)),
      length-append (opened default ns name attrs) (after_attributes (has_nothing kids) ns name (written_nodes (default_inside default ns) kids)),
    )

text_after : (ns name default t : List ℕ) (kids : Nodes) → text_of kids ≡ t
    → length (after_attributes (has_nothing (text_node t)) ns name (written_nodes default (text_node t))) ≤ length (after_attributes (has_nothing kids) ns name (written_nodes default kids))
text_after ns name default [] no_nodes is = omega arith
text_after ns name default (c ∷ cs) no_nodes is = absurd cc
text_after ns name default [] (child e rest) is =
    let inside = written_nodes default (child e rest) in omega (arith, length-append inside (60 ∷ 47 ∷ (spelled_name ns name ++ (62 ∷ []))))
text_after ns name default [] (text t rest) is =
    let inside = written_nodes default (text t rest) in omega (arith, length-append inside (60 ∷ 47 ∷ (spelled_name ns name ++ (62 ∷ []))))
text_after ns name default (c ∷ cs) (child e rest) is =
    let size = subst (λ x. text_size x ≤ nodes_size default (child e rest)) is (text_of_size default (child e rest)) in
    longer ns name (written_nodes default (text_node (c ∷ cs))) (written_nodes default (child e rest))
    (let same = text_node_size default (c ∷ cs) in omega (arith, size, same, nodes_written default (text_node (c ∷ cs)), nodes_written default (child e rest)))
text_after ns name default (c ∷ cs) (text t rest) is =
    let size = subst (λ x. text_size x ≤ nodes_size default (text t rest)) is (text_of_size default (text t rest)) in
    longer ns name (written_nodes default (text_node (c ∷ cs))) (written_nodes default (text t rest))
    (let same = text_node_size default (c ∷ cs) in omega (arith, size, same, nodes_written default (text_node (c ∷ cs)), nodes_written default (text t rest)))

-- an element with the language and the texts of another alone
pub only_text : (ns name : List ℕ) (lang : Option (List ℕ)) (attrs : List Attribute) (kids : Nodes) → lang ≡ option_map (λ (a : Attribute). a.value) (found xml_namespace (codes "lang") attrs)
    → (default : List ℕ) → element_size default (element ns name (attr_where xml_namespace (codes "lang") (unless_empty (unwrap_or lang []))) (text_node (text_of kids))) ≤ element_size default (element ns name attrs kids)
unfolding element_size
only_text ns name None attrs kids is default = less default ns name [] attrs (text_node (text_of kids)) kids (omega arith) (text_after ns name (default_inside default ns) (text_of kids) kids refl)
only_text ns name (Some []) attrs kids is default = less default ns name [] attrs (text_node (text_of kids)) kids (omega arith) (text_after ns name (default_inside default ns) (text_of kids) kids refl)
only_text ns name (Some (c ∷ cs)) attrs kids is default =
    let one = one_language (c ∷ cs) in
    let there = language_written 0 attrs (c ∷ cs) (sym is) in
    less default ns name (record { ns = xml_namespace; name = codes "lang"; value = c ∷ cs } ∷ []) attrs (text_node (text_of kids)) kids (omega (arith, one, there))
    (text_after ns name (default_inside default ns) (text_of kids) kids refl)
