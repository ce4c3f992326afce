-- A query without a moment is written as one element.
use Rattle.std.proofs.Common.{◌≡◌, ℕ, List, Option, Some, None, ap, refl, ◌∙◌}
use Rattle.im_mam.specs.ArchiveQuery.{IsStampWhere, WritesForm, WritesMamQuery, form_elem, limit_elem, query_elem}
use Rattle.mam_pages.specs.declared.query.PagePosition.{PagePosition}
use Rattle.xml_trees.specs.Trees.{Elem}

none_spelled : (given : Option (List ℕ)) → IsStampWhere None given → given ≡ None
none_spelled None spelled = refl
none_spelled (Some text) spelled = absurd spelled

form_is : (position : PagePosition) (max : ℕ) (form : Elem) → WritesForm (record { peer = None; start = None; end = None; position = position; max = Some max }) form → form ≡ form_elem None None None
form_is position max form w = w.shape ∙ (rw (none_spelled w.start w.start_spelled, none_spelled w.end w.end_spelled) refl)

pub is_page : (queryid : List ℕ) (position : PagePosition) (max : ℕ) (e : Elem)
    → WritesMamQuery (record { queryid = queryid; query = record { peer = None; start = None; end = None; position = position; max = Some max } }) e
    → e ≡ query_elem queryid (form_elem None None None) (limit_elem position (Some max))
is_page queryid position max e w = w.shape ∙ ap (λ form. query_elem queryid form (limit_elem position (Some max))) (form_is position max w.form w.form_is)
