-- What an archive answers (XEP-0313, sections 4.1 and 4.2).
use Rattle.std.specs.Prelude.{◌≡◌, ℕ, ◌^◌, Bool, true, List, [], ◌∷◌, Option, Some, None, codes, is_some, unwrap_or}
use Rattle.std.specs.Fmt.{decimal}
use Rattle.std.specs.Option.{option_and_then, option_map}
use Rattle.im_payload.specs.Names.{archive, result_sets}
use Rattle.im_payload.specs.Checks.{Check}
use Rattle.im_extensions.specs.Forwarding.{Forwards, WritesForwarded, forward_checks, the_forwarded}
use Rattle.im_mam.specs.ResultSets.{set_child, set_item, set_item_where, set_text}
use Rattle.im_payload.specs.Shapes.{attr_or_empty, flag, optional_number}
use Rattle.im_stanza.specs.Stanzas.{attr_named}
use Rattle.im_payload.specs.Writing.{flag_text}
use Rattle.mam_pages.specs.declared.fin.Fin.{Fin}
use Rattle.im_mam.specs.declared.archive_answers.MamResult.{MamResult}
use Rattle.im_payload.specs.declared.fault.Field.TheVariants as field
use Rattle.xml_trees.specs.Attributes.{attribute}
use Rattle.xml_trees.specs.Readers.{is_named}
use Rattle.xml_trees.specs.Tidied.{text_node}
use Rattle.xml_trees.specs.Trees.{Elem, element, Nodes, no_nodes, child, joined}
use Rattle.im_stanza.specs.Errors.{trees_where}
use Rattle.im_stanza.specs.Written.{attr_where, unless_empty}

-- ---- `fin`: the end of a page (XEP-0313, section 4.2; XEP-0059, section 2.1)

abbrev pub is_fin : Elem → Bool
is_fin e = is_named archive (codes "fin") e

-- a number that is 0 where it is absent
abbrev pub number_or_zero : Option (List ℕ) → Option ℕ
number_or_zero given = option_map (λ n. unwrap_or n 0) (optional_number (2 ^ 64) given)

-- where the page begins among all that match
abbrev pub index_in : Elem → Option (List ℕ)
index_in e = option_and_then (attr_named (codes "index")) (set_child (codes "first") e)

-- whether nothing remains in the direction of paging, the ids of the page's first and last item, the place of the first,
-- and how many match; the set may be absent
pub record IsFin (e : Elem) (v : Fin) : Type 0 where
  pub named : is_fin e ≡ true
  pub complete : v.complete ≡ flag (attr_named (codes "complete") e)
  pub first : v.first ≡ set_text (codes "first") e
  pub index : number_or_zero (index_in e) ≡ Some v.first_index
  pub last : v.last ≡ set_text (codes "last") e
  pub count : number_or_zero (set_text (codes "count") e) ≡ Some v.count

abbrev pub fin_checks : Elem → List Check
fin_checks e = (is_some (number_or_zero (index_in e)), field.Count) ∷ (is_some (number_or_zero (set_text (codes "count") e)), field.Count) ∷ []

-- what is written: the place of the first item only where there is one, and where it is told
abbrev pub first_item : Option ℕ → List ℕ → Elem
first_item index id = element result_sets (codes "first") (attr_where [] (codes "index") (option_map decimal index)) (text_node id)

abbrev pub first_item_where : Option (List ℕ) → Option ℕ → Option Elem
first_item_where first index = option_map (first_item index) first

abbrev pub page_items : Option (List ℕ) → Option ℕ → Option (List ℕ) → ℕ → Nodes
page_items first index last count =
    joined (joined (trees_where (first_item_where first index)) (trees_where (set_item_where (codes "last") last))) (child (set_item (codes "count") (decimal count)) no_nodes)

abbrev pub page_elem : Option ℕ → Fin → Elem
page_elem index v = element result_sets (codes "set") [] (page_items v.first index v.last v.count)

-- the end of a page, with this as the place of its first item, or without it
abbrev pub fin_elem_with : Option ℕ → Fin → Elem
fin_elem_with index v = element archive (codes "fin") (attr_where [] (codes "complete") (flag_text v.complete)) (child (page_elem index v) no_nodes)

abbrev pub fin_elem : Fin → Elem
fin_elem v = fin_elem_with (Some v.first_index) v

-- XEP-0059 section 2.6 leaves it to the server whether it tells the place
abbrev pub fin_elem_without_index : Fin → Elem
fin_elem_without_index v = fin_elem_with None v

-- ---- `result`: an archived message (XEP-0313, section 4.2)

abbrev pub is_result : Elem → Bool
is_result e = is_named archive (codes "result") e

-- the id of the query, empty where it is absent, the message's id in the archive, and the message
pub record IsMamResult (e : Elem) (v : MamResult) : Type 0 where
  pub named : is_result e ≡ true
  pub queryid : v.queryid ≡ attr_or_empty (codes "queryid") e
  pub id : attr_named (codes "id") e ≡ Some v.id
  pub inside : Forwards None (the_forwarded e) v.forwarded

abbrev pub result_checks : Elem → List Check
result_checks e = (is_some (attr_named (codes "id") e), field.Id) ∷ forward_checks None (the_forwarded e)

abbrev pub result_elem : List ℕ → List ℕ → Elem → Elem
result_elem queryid id forwarded =
    element archive (codes "result") (attribute [] (codes "id") id ∷ attr_where [] (codes "queryid") (unless_empty queryid)) (child forwarded no_nodes)

pub record WritesMamResult (v : MamResult) (e : Elem) : Type 0 where
  pub forwarded : Elem
  pub forwarded_is : WritesForwarded v.forwarded forwarded
  pub shape : e ≡ result_elem v.queryid v.id forwarded
