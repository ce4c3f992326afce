-- What an archive is asked for (XEP-0313, sections 4.1 and 4.3; XEP-0059, section 2).
use Rattle.std.specs.Prelude.{◌≡◌, ℕ, ◌^◌, Bool, true, not, ◌||◌, List, [], ◌∷◌, ◌++◌, Option, Some, None, codes, is_none, is_some}
use Rattle.std.specs.Fmt.{decimal}
use Rattle.std.specs.List.{list_all}
use Rattle.std.specs.Option.{option_map}
use Rattle.std.specs.Result.{result_ok}
use Rattle.im_payload.specs.Names.{archive, data_forms, result_sets}
use Rattle.im_payload.specs.Checks.{Check}
use Rattle.im_mam.specs.DataForms.{field_value, field_where, form_of, form_type_elem, has_var, is_field, is_given, value_in}
use Rattle.im_payload.specs.Moments.{IsStampOf, moment_in}
use Rattle.im_mam.specs.ResultSets.{set_child, set_item, set_item_where, set_text}
use Rattle.im_payload.specs.Shapes.{attr_or_empty, optional_number}
use Rattle.im_mam.specs.declared.archive_query.MamQuery.{MamQuery}
use Rattle.im_payload.specs.declared.fault.Field.TheVariants as field
use Rattle.xml_trees.specs.Attributes.{attribute}
use Rattle.xml_trees.specs.Readers.{elements_of, is_named}
use Rattle.xml_trees.specs.Trees.{Elem, element, Nodes, no_nodes, child, joined, nodes_of}
use Rattle.im_jid.specs.Normal.{normal}
use Rattle.mam_pages.specs.declared.query.PageQuery.{PageQuery}
use Rattle.mam_pages.specs.declared.query.PagePosition.{PagePosition}
use Rattle.mam_pages.specs.declared.query.PagePosition.TheVariants.{First, After, Before, Last}
use Rattle.im_stanza.specs.Errors.{trees_where}
use Rattle.im_stanza.specs.Written.{IsNormal, attr_where, unless_empty}

abbrev pub is_query : Elem → Bool
is_query e = is_named archive (codes "query") e

-- ---- the form, which may be absent

-- where there is a form, it is for the archive
abbrev pub is_for_archive : Option Elem → Bool
is_for_archive None = true
is_for_archive (Some form) = is_given archive (value_in (codes "FORM_TYPE") form)

-- no field, or one of these four
abbrev pub is_known : Elem → Bool
is_known e = not (is_field e) || (has_var (codes "FORM_TYPE") e || (has_var (codes "with") e || (has_var (codes "start") e || has_var (codes "end") e)))

-- where there is a form, it has no other field
abbrev pub has_known_fields : Option Elem → Bool
has_known_fields None = true
has_known_fields (Some form) = list_all is_known (elements_of (nodes_of form))

-- an address in normal form, and a moment, which may be absent: `Some None` where it is, and `None` where the text spells
-- none
abbrev pub optional_address : Option (List ℕ) → Option (Option (List ℕ))
optional_address None = Some None
optional_address (Some given) = option_map Some (result_ok (normal given))

abbrev pub optional_moment : Option (List ℕ) → Option (Option ℕ)
optional_moment None = Some None
optional_moment (Some given) = option_map Some (moment_in (Some given))

abbrev pub form_checks : Elem → List Check
form_checks e =
    (is_for_archive (form_of e), field.FormType) ∷ (has_known_fields (form_of e), field.UnknownField)
    ∷ (is_some (optional_address (field_value (codes "with") e)), field.Peer) ∷ (is_some (optional_moment (field_value (codes "start") e)), field.Start)
    ∷ (is_some (optional_moment (field_value (codes "end") e)), field.End) ∷ []

-- whose messages, and from when to when; the address in normal form stays as it is
pub record IsFiltered (e : Elem) (peer : Option (List ℕ)) (start end : Option ℕ) : Type 0 where
  pub for_archive : is_for_archive (form_of e) ≡ true
  pub known : has_known_fields (form_of e) ≡ true
  pub peer_is : optional_address (field_value (codes "with") e) ≡ Some peer
  pub peer_stays : IsNormal peer
  pub start_is : optional_moment (field_value (codes "start") e) ≡ Some start
  pub end_is : optional_moment (field_value (codes "end") e) ≡ Some end

-- ---- the set, which may be absent

-- the place of a page, by the texts of `after` and `before`, of which one is there at most; an empty `before` is the end
abbrev pub position_of : Option (List ℕ) → Option (List ℕ) → Option PagePosition
position_of None None = Some First
position_of (Some id) None = Some (After id)
position_of None (Some []) = Some Last
position_of None (Some (c ∷ cs)) = Some (Before (c ∷ cs))
position_of (Some after) (Some before) = None

abbrev pub position_in : Elem → Option PagePosition
position_in e = position_of (set_text (codes "after") e) (set_text (codes "before") e)

abbrev pub max_in : Elem → Option (Option ℕ)
max_in e = optional_number (2 ^ 32) (set_text (codes "max") e)

abbrev pub set_checks : Elem → List Check
set_checks e = (is_some (position_in e), field.PagePosition) ∷ (is_some (max_in e), field.Max) ∷ (is_none (set_child (codes "index") e), field.UnknownField) ∷ []

-- where the page lies, and how many items it has at most
pub record IsLimited (e : Elem) (position : PagePosition) (max : Option ℕ) : Type 0 where
  pub position_is : position_in e ≡ Some position
  pub max_is : max_in e ≡ Some max
  pub no_index : is_none (set_child (codes "index") e) ≡ true

-- ---- the query

pub record IsMamQuery (e : Elem) (v : MamQuery) : Type 0 where
  pub named : is_query e ≡ true
  pub queryid : v.queryid ≡ attr_or_empty (codes "queryid") e
  pub filtered : IsFiltered e v.query.peer v.query.start v.query.end
  pub limited : IsLimited e v.query.position v.query.max

-- the form is judged before the set
abbrev pub query_checks : Elem → List Check
query_checks e = form_checks e ++ set_checks e

-- ---- what is written

-- a moment where there is one
abbrev pub IsStampWhere : Option ℕ → Option (List ℕ) → Type 0
IsStampWhere None None = Unit {0}
IsStampWhere (Some ms) (Some given) = IsStampOf ms given
IsStampWhere None (Some given) = ⊥
IsStampWhere (Some ms) None = ⊥

abbrev pub form_items : Option (List ℕ) → Option (List ℕ) → Option (List ℕ) → Nodes
form_items peer start end =
    joined (joined (joined (child (form_type_elem archive) no_nodes) (trees_where (field_where (codes "with") peer))) (trees_where (field_where (codes "start") start)))
    (trees_where (field_where (codes "end") end))

abbrev pub form_elem : Option (List ℕ) → Option (List ℕ) → Option (List ℕ) → Elem
form_elem peer start end = element data_forms (codes "x") (attribute [] (codes "type") (codes "submit") ∷ []) (form_items peer start end)

abbrev pub place_item : PagePosition → Option Elem
place_item First = None
place_item (After id) = Some (set_item (codes "after") id)
place_item (Before id) = Some (set_item (codes "before") id)
place_item Last = Some (set_item (codes "before") [])

abbrev pub limit_elem : PagePosition → Option ℕ → Elem
limit_elem position max = element result_sets (codes "set") [] (joined (trees_where (place_item position)) (trees_where (set_item_where (codes "max") (option_map decimal max))))

abbrev pub query_elem : List ℕ → Elem → Elem → Elem
query_elem queryid form set = element archive (codes "query") (attr_where [] (codes "queryid") (unless_empty queryid)) (child form (child set no_nodes))

-- the form, whose stamps are those of the moments
pub record WritesForm (q : PageQuery) (e : Elem) : Type 0 where
  pub start : Option (List ℕ)
  pub end : Option (List ℕ)
  pub start_spelled : IsStampWhere q.start start
  pub end_spelled : IsStampWhere q.end end
  pub shape : e ≡ form_elem q.peer start end

pub record WritesMamQuery (v : MamQuery) (e : Elem) : Type 0 where
  pub form : Elem
  pub form_is : WritesForm v.query form
  pub shape : e ≡ query_elem v.queryid form (limit_elem v.query.position v.query.max)
