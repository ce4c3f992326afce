-- A request for a page of an archive.
use Rattle.std.proofs.Common.{◌≡◌, ℕ, ◌+◌, ◌*◌, ◌^◌, ◌<◌, ◌≤◌, true, List, [], ◌∷◌, length, Option, Some, None, IfSome, codes, refl, arith}
use Rattle.std.specs.Fmt.{decimal}
use Rattle.im_mam.specs.ArchiveQuery.{form_elem, limit_elem}
use Rattle.im_mam.specs.DataForms.{form_type_elem}
use Rattle.im_mam.specs.ResultSets.{set_item}
use Rattle.im_payload.specs.Names.{archive, data_forms, result_sets}
use Rattle.im_requests.specs.Messages.{page_elem, position_after}
use Rattle.im_requests.specs.Sessions.{setting_elem}
use Rattle.im_stanza.specs.Written.{attr_where, unless_empty}
use Rattle.xml_trees.specs.Attributes.{attribute, sorted_attributes}
use Rattle.xml_trees.specs.Tidied.{text_node}
use Rattle.xml_trees.specs.Trees.{child, element, no_nodes}
use Rattle.law_limits.specs.Bounds.{IsTextWithin, most_id}
use Rattle.law_limits.proofs.Management.{count_within}
use Rattle.law_limits.proofs.RequestParts.{IsSmall, attribute_where, bare_small, child_small, element_small, fewer, is_tag, more_attributes, one_attribute, only_child, text_small, wider, wider_nodes}
use Rattle.law_limits.proofs.Sessions.{setting_small}
use Rattle.law_limits.proofs.Texts.{literal, unless_empty_within}

-- ---- the form

value_small : IsSmall (element data_forms (codes "value") [] (text_node archive)) 300 1
value_small = wider _ _ _ _ _ (omega arith) (omega arith) (bare_small data_forms (codes "value") (text_node archive) _ 0 refl (text_small archive 14 (literal archive 14 refl refl)))

field_small : IsSmall (form_type_elem archive) 700 2
field_small =
    let hidden = one_attribute [] (codes "type") (codes "hidden") 6 refl (literal (codes "hidden") 6 refl refl) in
    let named = one_attribute [] (codes "var") (codes "FORM_TYPE") 9 refl (literal (codes "FORM_TYPE") 9 refl refl) in
    wider _ _ _ _ _ (omega arith) (omega arith)
    (element_small data_forms (codes "field") (attribute [] (codes "type") (codes "hidden") ∷ attribute [] (codes "var") (codes "FORM_TYPE") ∷ []) _ 200 _ 1 refl refl
    (fewer _ _ 200 _ 16 (omega arith) (omega arith) (more_attributes (attribute [] (codes "type") (codes "hidden") ∷ []) (attribute [] (codes "var") (codes "FORM_TYPE") ∷ []) _ _ _ _ hidden named))
    (only_child (element data_forms (codes "value") [] (text_node archive)) 300 1 value_small))

form_small : IsSmall (form_elem None None None) 1000 3
form_small =
    wider _ _ _ _ _ (omega arith) (omega arith)
    (element_small data_forms (codes "x") (attribute [] (codes "type") (codes "submit") ∷ []) (child (form_type_elem archive) no_nodes) 100 _ 2 refl refl
    (fewer _ _ 100 _ 16 (omega arith) (omega arith) (one_attribute [] (codes "type") (codes "submit") 6 refl (literal (codes "submit") 6 refl refl)))
    (only_child (form_type_elem archive) 700 2 field_small))

-- ---- the set

item_small : (name t : List ℕ) (most : ℕ) → is_tag result_sets name ≡ true → length name ≤ 5 → IsTextWithin most t → IsSmall (set_item name t) (300 + 5 * most) 1
item_small name t most named short h = wider _ _ _ _ _ (omega (arith, short)) (omega arith) (bare_small result_sets name (text_node t) (5 * most) 0 named (text_small t most h))

limit_small : (after : Option (List ℕ)) (max : ℕ) → IfSome after (IsTextWithin most_id) → max < 2 ^ 32 → IsSmall (limit_elem (position_after after) (Some max)) 22000 2
limit_small None max h low =
    wider _ _ _ _ _ (omega arith) (omega arith)
    (bare_small result_sets (codes "set") (child (set_item (codes "max") (decimal max)) no_nodes) _ 1 refl (only_child (set_item (codes "max") (decimal max)) _ 1 (item_small (codes "max") (decimal max) 10 refl (omega arith) (count_within max low))))
limit_small (Some id) max h low =
    wider _ _ _ _ _ (omega arith) (omega arith)
    (bare_small result_sets (codes "set") (child (set_item (codes "after") id) (child (set_item (codes "max") (decimal max)) no_nodes)) _ 1 refl
    (child_small (set_item (codes "after") id) (child (set_item (codes "max") (decimal max)) no_nodes) _ _ 1 (item_small (codes "after") id most_id refl (omega arith) h)
    (only_child (set_item (codes "max") (decimal max)) _ 1 (item_small (codes "max") (decimal max) 10 refl (omega arith) (count_within max low)))))

-- ---- the query

pub query_small : (queryid : List ℕ) (after : Option (List ℕ)) (max : ℕ) → IsTextWithin 21 queryid → IfSome after (IsTextWithin most_id) → max < 2 ^ 32 → IsSmall (page_elem queryid after max) 25000 4
query_small queryid after max named h low =
    wider _ _ _ _ _ (omega arith) (omega arith)
    (element_small archive (codes "query") (attr_where [] (codes "queryid") (unless_empty queryid)) (child (form_elem None None None) (child (limit_elem (position_after after) (Some max)) no_nodes)) 200 (1000 + 22000) 3 refl (one_stays (unless_empty queryid))
    (fewer _ _ 200 _ 16 (omega arith) (omega arith) (attribute_where [] (codes "queryid") (unless_empty queryid) 21 refl (unless_empty_within queryid 21 named)))
    (child_small (form_elem None None None) (child (limit_elem (position_after after) (Some max)) no_nodes) 1000 22000 3 form_small
    (wider_nodes (child (limit_elem (position_after after) (Some max)) no_nodes) (22000 + 0) 22000 2 3 (omega arith) (omega arith) (only_child (limit_elem (position_after after) (Some max)) 22000 2 (limit_small after max h low)))))
  where
    one_stays : (given : Option (List ℕ)) → sorted_attributes (attr_where [] (codes "queryid") given) ≡ attr_where [] (codes "queryid") given
    one_stays None = refl
    one_stays (Some t) = refl

pub page_small : (queryid : List ℕ) (after : Option (List ℕ)) (max : ℕ) → IsTextWithin 21 queryid → IfSome after (IsTextWithin most_id) → max < 2 ^ 32
    → IsSmall (setting_elem queryid (child (page_elem queryid after max) no_nodes)) 65536 32
page_small queryid after max named h low =
    wider _ _ _ _ _ (omega arith) (omega arith) (setting_small queryid (page_elem queryid after max) 21 25000 4 named (query_small queryid after max named h low))
