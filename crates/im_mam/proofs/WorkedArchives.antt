-- The definitions of an archive's payloads, evaluated at elements in the shape of the examples of XEP-0313, XEP-0059,
-- XEP-0297 and XEP-0280.
use Rattle.std.proofs.Common.{◌≡◌, true, false, [], ◌∷◌, codes, Some, None, refl}
use Rattle.std.specs.Fmt.{decimal}
use Rattle.im_mam.specs.ArchiveAnswers.{fin_checks, fin_elem, fin_elem_without_index, number_or_zero, result_checks}
use Rattle.im_payload.specs.Names.{archive, data_forms, result_sets}
use Rattle.im_mam.specs.ArchiveQuery.{max_in, position_in, query_checks}
use Rattle.im_extensions.specs.Carbons.{carbon_checks, is_sent}
use Rattle.im_payload.specs.Checks.{first_wrong}
use Rattle.im_mam.specs.DataForms.{field_elem, form_type_elem, value_in}
use Rattle.im_extensions.specs.Forwarding.{forwarded_checks}
use Rattle.im_payload.specs.Names.{forwarding}
use Rattle.im_payload.specs.Names.{carbons}
use Rattle.im_mam.specs.ResultSets.{set_item, set_text}
use Rattle.im_payload.specs.declared.fault.Field.TheVariants as field
use Rattle.xml_trees.specs.Attributes.{attribute}
use Rattle.xml_trees.specs.Trees.{Elem, element, Nodes, no_nodes, child, text}
use Rattle.mam_pages.specs.declared.query.PagePosition.TheVariants.{First, After, Before, Last}

abbrev query : Nodes → Elem
query inside = element archive (codes "query") (attribute [] (codes "queryid") (codes "f27") ∷ []) inside

abbrev form : Nodes → Elem
form fields = element data_forms (codes "x") (attribute [] (codes "type") (codes "submit") ∷ []) fields

abbrev asked : Nodes → Elem
asked fields = query (child (form (child (form_type_elem archive) fields)) no_nodes)

abbrev set : Nodes → Elem
set items = query (child (element result_sets (codes "set") [] items) no_nodes)

-- ---- queries

-- <query/>
bare_right : first_wrong (query_checks (query no_nodes)) ≡ None
bare_right = refl

bare_position : position_in (query no_nodes) ≡ Some First
bare_position = refl

bare_max : max_in (query no_nodes) ≡ Some None
bare_max = refl

-- <set><max>010</max><after>28482-98726-73623</after></set>
abbrev next_page : Elem
next_page = set (child (set_item (codes "max") (codes "010")) (child (set_item (codes "after") (codes "28482-98726-73623")) no_nodes))

next_right : first_wrong (query_checks next_page) ≡ None
next_right = refl

next_position : position_in next_page ≡ Some (After (codes "28482-98726-73623"))
next_position = refl

next_max : max_in next_page ≡ Some (Some 10)
next_max = refl

-- <set><before/></set>, <set><after/></set> and <set><before>7</before></set>
last_page : position_in (set (child (set_item (codes "before") []) no_nodes)) ≡ Some Last
last_page = refl

after_nothing : position_in (set (child (set_item (codes "after") []) no_nodes)) ≡ Some (After [])
after_nothing = refl

page_before : position_in (set (child (set_item (codes "before") (codes "7")) no_nodes)) ≡ Some (Before (codes "7"))
page_before = refl

-- both
two_positions : first_wrong (query_checks (set (child (set_item (codes "before") []) (child (set_item (codes "after") (codes "7")) no_nodes)))) ≡ Some field.PagePosition
two_positions = refl

bad_max : first_wrong (query_checks (set (child (set_item (codes "max") (codes "ten")) (child (set_item (codes "index") (codes "3")) no_nodes)))) ≡ Some field.Max
bad_max = refl

with_index : first_wrong (query_checks (set (child (set_item (codes "index") (codes "3")) no_nodes))) ≡ Some field.UnknownField
with_index = refl

-- the form
form_right : first_wrong (query_checks (asked no_nodes)) ≡ None
form_right = refl

other_purpose : first_wrong (query_checks (query (child (form (child (form_type_elem (codes "jabber:iq:register")) no_nodes)) no_nodes))) ≡ Some field.FormType
other_purpose = refl

no_purpose : first_wrong (query_checks (query (child (form no_nodes) no_nodes))) ≡ Some field.FormType
no_purpose = refl

other_field : first_wrong (query_checks (asked (child (field_elem (codes "withtext") (codes "lute")) no_nodes))) ≡ Some field.UnknownField
other_field = refl

no_var : first_wrong (query_checks (asked (child (element data_forms (codes "field") [] no_nodes) no_nodes))) ≡ Some field.UnknownField
no_var = refl

-- of two fields of one name the first, and a field without a value
first_with : value_in (codes "with") (form (child (field_elem (codes "with") (codes "juliet@capulet.lit")) (child (field_elem (codes "with") (codes "romeo@montague.lit")) no_nodes)))
    ≡ Some (codes "juliet@capulet.lit")
first_with = refl

no_value : value_in (codes "with") (form (child (element data_forms (codes "field") (attribute [] (codes "var") (codes "with") ∷ []) no_nodes) no_nodes)) ≡ Some []
no_value = refl

-- ---- the end of a page

-- <fin complete='true'><set><first index='0'>28482-98726-73623</first><last>09af3-cc343-b409f</last><count>20</count></set></fin>
end_of_page : fin_elem (record { complete = true; first = Some (codes "28482-98726-73623"); first_index = 0; last = Some (codes "09af3-cc343-b409f"); count = 20 })
    ≡ element archive (codes "fin") (attribute [] (codes "complete") (codes "true") ∷ []) (child (element result_sets (codes "set") [] (
    child (element result_sets (codes "first") (attribute [] (codes "index") (decimal 0) ∷ []) (text (codes "28482-98726-73623") no_nodes))
    (child (element result_sets (codes "last") [] (text (codes "09af3-cc343-b409f") no_nodes)) (child (set_item (codes "count") (decimal 20)) no_nodes))
    )) no_nodes)
end_of_page = refl

-- <fin><set><first>28482-98726-73623</first><last>09af3-cc343-b409f</last><count>20</count></set></fin>
end_without_index : fin_elem_without_index (record { complete = false; first = Some (codes "28482-98726-73623"); first_index = 18; last = Some (codes "09af3-cc343-b409f"); count = 20 })
    ≡ element archive (codes "fin") [] (child (element result_sets (codes "set") [] (
    child (element result_sets (codes "first") [] (text (codes "28482-98726-73623") no_nodes))
    (child (element result_sets (codes "last") [] (text (codes "09af3-cc343-b409f") no_nodes)) (child (set_item (codes "count") (decimal 20)) no_nodes))
    )) no_nodes)
end_without_index = refl

-- the set of an empty page has its count alone
empty_page : fin_elem (record { complete = true; first = None; first_index = 0; last = None; count = 0 })
    ≡ element archive (codes "fin") (attribute [] (codes "complete") (codes "true") ∷ []) (child (element result_sets (codes "set") [] (child (set_item (codes "count") (decimal 0)) no_nodes)) no_nodes)
empty_page = refl

-- <fin/>
without_set : first_wrong (fin_checks (element archive (codes "fin") [] no_nodes)) ≡ None
without_set = refl

no_count : number_or_zero (set_text (codes "count") (element archive (codes "fin") [] no_nodes)) ≡ Some 0
no_count = refl

bad_count : first_wrong (fin_checks (element archive (codes "fin") [] (child (element result_sets (codes "set") [] (child (set_item (codes "count") (codes "-1")) no_nodes)) no_nodes))) ≡ Some field.Count
bad_count = refl

-- ---- what is forwarded

no_delay : first_wrong (forwarded_checks (element forwarding (codes "forwarded") [] no_nodes)) ≡ Some field.Stamp
no_delay = refl

-- an absent `forwarded`
no_id : first_wrong (result_checks (element archive (codes "result") [] no_nodes)) ≡ Some field.Id
no_id = refl

nothing_archived : first_wrong (result_checks (element archive (codes "result") (attribute [] (codes "id") (codes "1") ∷ []) no_nodes)) ≡ Some field.Stamp
nothing_archived = refl

nothing_copied : first_wrong (carbon_checks (element carbons (codes "sent") [] no_nodes)) ≡ Some field.Stanza
nothing_copied = refl

received_is_no_sent : is_sent (element carbons (codes "received") [] no_nodes) ≡ false
received_is_no_sent = refl
