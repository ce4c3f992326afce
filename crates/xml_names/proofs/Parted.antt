-- What the parts of a tag say of the whole.
use Rattle.std.proofs.Common.{◌≡◌, ℕ, Bool, true, false, cond, ◌&&◌, List, [], ◌∷◌, ◌++◌, Option, Some, None, Err, map, refl, sym, ap, ◌∙◌}
use Rattle.std.proofs.lemmas.Bool.{and_parts, false≢true, cond-true}
use Rattle.std.specs.List.{list_all}
use Rattle.std.specs.Option.{option_map, option_and_then, is_some}
use Rattle.xml_tokens.specs.Tags.{Attribute, names_of}
use Rattle.xml_names.specs.Declarations.{may_declare}
use Rattle.xml_names.specs.Expansion.{Name, are_distinct, element_ns, expanded_name, expanded_names, expanded_attributes, in_front, name_of, with_value}
use Rattle.xml_names.specs.Names.{prefix_of, local_of}
use Rattle.xml_names.specs.Scopes.{Scope}
use Rattle.xml_names.specs.Starts.{Tag, attributes_in, if_distinct, is_well_formed, limited, or_fault, parted_tag, past_limits, tag_with}
use Rattle.xml_names.specs.declared.expansion.ExpandedAttribute.{ExpandedAttribute}
use Rattle.xml_names.specs.declared.fault.StartWhy.{StartWhy}
use Rattle.xml_names.specs.declared.fault.StartWhy.TheVariants.{NotWellFormed}
use Rattle.xml_names.specs.declared.limits.TagLimits.{TagLimits}

-- ---- names and attributes

one_more : (n : Name) (v : List ℕ) (es : Option (List ExpandedAttribute)) → in_front (n ∷ []) (option_map (map name_of) es) ≡ option_map (map name_of) (in_front (with_value v n ∷ []) es)
one_more n v None = refl
one_more n v (Some es) = refl

next : (o : Option Name) (v : List ℕ) (ns : Option (List Name)) (es : Option (List ExpandedAttribute)) → ns ≡ option_map (map name_of) es
    → option_and_then (λ e. in_front (e ∷ []) ns) o ≡ option_map (map name_of) (option_and_then (λ e. in_front (e ∷ []) es) (option_map (with_value v) o))
next None v ns es e = refl
next (Some n) v ns es e = ap (in_front (n ∷ [])) e ∙ one_more n v es

pub names_mean : (scope : Scope) (xs : List Attribute) → expanded_names scope (names_of xs) ≡ option_map (map name_of) (expanded_attributes scope xs)
names_mean scope [] = refl
names_mean scope (a ∷ xs) = next (expanded_name scope a.name) a.value (expanded_names scope (names_of xs)) (expanded_attributes scope xs) (names_mean scope xs)

pub some_if : (b : Bool) (es : List ExpandedAttribute) → b ≡ is_some (cond b (Some es) None)
some_if true es = refl
some_if false es = refl

distinct_tells : (o : Option (List ExpandedAttribute)) (found : List Name) → option_map (map name_of) o ≡ Some found → are_distinct found ≡ is_some (option_and_then if_distinct o)
distinct_tells None found e = absurd cc
distinct_tells (Some es) found e =
    let same : map name_of es ≡ found = cc in
    ap are_distinct (sym same) ∙ some_if (are_distinct (map name_of es)) es

none_tells : (o : Option (List ExpandedAttribute)) → option_map (map name_of) o ≡ None → false ≡ is_some (option_and_then if_distinct o)
none_tells None e = refl
none_tells (Some es) e = absurd cc

pub names_tell : (scope : Scope) (xs : List Attribute) (found : List Name) (b : Bool) → expanded_names scope (names_of xs) ≡ Some found → b ≡ are_distinct found → b ≡ is_some (attributes_in scope xs)
unfolding attributes_in
names_tell scope xs found b e d = d ∙ distinct_tells (expanded_attributes scope xs) found (sym (names_mean scope xs) ∙ e)

pub no_names_tell : (scope : Scope) (xs : List Attribute) → expanded_names scope (names_of xs) ≡ None → false ≡ is_some (attributes_in scope xs)
unfolding attributes_in
no_names_tell scope xs e = none_tells (expanded_attributes scope xs) (sym (names_mean scope xs) ∙ e)

-- ---- the whole

kept_some : (b : Bool) (es : List ExpandedAttribute) → is_some (cond b (Some es) None) ≡ true → cond b (Some es) None ≡ Some es
kept_some true es h = refl
kept_some false es h = absurd (false≢true h)

kept : (o : Option (List ExpandedAttribute)) → is_some (option_and_then if_distinct o) ≡ true → option_and_then if_distinct o ≡ o
kept None h = refl
kept (Some es) h = kept_some (are_distinct (map name_of es)) es h

module _ (scope : Scope) (name : List ℕ) (own : Scope) (others : List Attribute) (empty : Bool) (h : is_well_formed scope (prefix_of name) own others ≡ true) where
  finishes : parted_tag scope name own others empty ≡ tag_with name own empty (element_ns (own ++ scope) (prefix_of name)) (expanded_attributes (own ++ scope) others)
  unfolding parted_tag attributes_in
  finishes =
      let p = and_parts (list_all may_declare own) _ h in
      let q = and_parts (is_some (element_ns (own ++ scope) (prefix_of name))) _ p.1 in
      cond-true (list_all may_declare own) (tag_with name own empty (element_ns (own ++ scope) (prefix_of name)) (attributes_in (own ++ scope) others)) None p.0
      ∙ ap (tag_with name own empty (element_ns (own ++ scope) (prefix_of name))) (kept (expanded_attributes (own ++ scope) others) q.1)

  pub finished_tag : (ns local : List ℕ) (es : List ExpandedAttribute) → element_ns (own ++ scope) (prefix_of name) ≡ Some ns → local ≡ local_of name → expanded_attributes (own ++ scope) others ≡ Some es
      → Some (record { spelled = name; ns = ns; name = local; attributes = es; bindings = own; empty = empty }) ≡ parted_tag scope name own others empty
  finished_tag ns local es n l a =
      let whole : List ℕ → Tag = λ x. record { spelled = name; ns = ns; name = x; attributes = es; bindings = own; empty = empty } in
      sym (finishes ∙ ap (λ o. tag_with name own empty o (expanded_attributes (own ++ scope) others)) n ∙ ap (tag_with name own empty (Some ns)) a ∙ ap (λ x. Some (whole x)) (sym l))

  nothing : (o : Option (List ℕ)) → tag_with name own empty o None ≡ None
  nothing None = refl
  nothing (Some n) = refl

  pub finished_none : expanded_attributes (own ++ scope) others ≡ None → None ≡ parted_tag scope name own others empty
  finished_none a = sym (finishes ∙ ap (tag_with name own empty (element_ns (own ++ scope) (prefix_of name))) a ∙ nothing (element_ns (own ++ scope) (prefix_of name)))

refuses : (b : Bool) (o : Option (List ℕ)) (a : Option (List ExpandedAttribute)) (name : List ℕ) (own : Scope) (empty : Bool) → (b && (is_some o && is_some a)) ≡ false → cond b (tag_with name own empty o a) None ≡ None
refuses false o a name own empty h = refl
refuses true None a name own empty h = refl
refuses true (Some n) None name own empty h = refl
refuses true (Some n) (Some es) name own empty h = absurd (false≢true (sym h))

builds : (b : Bool) (o : Option (List ℕ)) (a : Option (List ExpandedAttribute)) (name : List ℕ) (own : Scope) (empty : Bool) → (b && (is_some o && is_some a)) ≡ true → is_some (cond b (tag_with name own empty o a) None) ≡ true
builds false o a name own empty h = absurd (false≢true h)
builds true None a name own empty h = absurd (false≢true h)
builds true (Some n) None name own empty h = absurd (false≢true h)
builds true (Some n) (Some es) name own empty h = refl

past : (limits : TagLimits) (count : ℕ) (own : Scope) (fault : StartWhy) (o : Option Tag) → is_some o ≡ true → past_limits limits count own ≡ Some fault → limited limits count own o ≡ Err fault
past limits count own fault None h e = absurd (false≢true h)
past limits count own fault (Some t) h e = ap (λ f. or_fault f t) e

module _ (limits : TagLimits) (count : ℕ) (scope : Scope) (name : List ℕ) (own : Scope) (others : List Attribute) (empty : Bool) where
  pub refused : is_well_formed scope (prefix_of name) own others ≡ false → limited limits count own (parted_tag scope name own others empty) ≡ Err NotWellFormed
  unfolding parted_tag
  refused h = ap (limited limits count own) (refuses (list_all may_declare own) (element_ns (own ++ scope) (prefix_of name)) (attributes_in (own ++ scope) others) name own empty h)

  pub past_refused : (fault : StartWhy) → is_well_formed scope (prefix_of name) own others ≡ true → past_limits limits count own ≡ Some fault → limited limits count own (parted_tag scope name own others empty) ≡ Err fault
  unfolding parted_tag
  past_refused fault h e =
      past limits count own fault (parted_tag scope name own others empty) (builds (list_all may_declare own) (element_ns (own ++ scope) (prefix_of name)) (attributes_in (own ++ scope) others) name own empty h) e
