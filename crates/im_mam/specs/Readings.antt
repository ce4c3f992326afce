-- What the readers of an archive's payloads answer, as functions of the element.
use Rattle.std.specs.Prelude.{ℕ, Bool, true, false, List, Option, Some, None, Result, Ok, Err, codes, is_none}
use Rattle.im_extensions.specs.ForwardReadings.{forward_read}
use Rattle.im_extensions.specs.Forwarding.{the_forwarded}
use Rattle.im_extensions.specs.declared.forwarding.Forwarded.{Forwarded}
use Rattle.im_mam.specs.ArchiveAnswers.{index_in, is_fin, is_result, number_or_zero}
use Rattle.im_mam.specs.ArchiveQuery.{has_known_fields, is_for_archive, is_query, max_in, optional_address, optional_moment, position_in}
use Rattle.im_mam.specs.DataForms.{field_value, form_of}
use Rattle.im_mam.specs.ResultSets.{set_child, set_text}
use Rattle.im_mam.specs.declared.archive_answers.MamResult.{MamResult}
use Rattle.im_mam.specs.declared.archive_query.MamQuery.{MamQuery}
use Rattle.mam_pages.specs.declared.fin.Fin.{Fin}
use Rattle.im_payload.specs.Readings.{where_this}
use Rattle.im_payload.specs.Shapes.{attr_or_empty, flag}
use Rattle.mam_pages.specs.declared.query.PagePosition.{PagePosition}
use Rattle.im_payload.specs.declared.fault.ExtFault.{ExtFault}
use Rattle.im_payload.specs.declared.fault.ExtFault.TheVariants.{Bad}
use Rattle.im_payload.specs.declared.fault.Field.{Field}
use Rattle.im_payload.specs.declared.fault.Field.TheVariants as field
use Rattle.im_stanza.specs.Stanzas.{attr_named}
use Rattle.xml_trees.specs.Trees.{Elem}

-- `fin`: the place of the first item is judged before the count
abbrev pub fin_with : Elem → Option ℕ → Option ℕ → Result Fin ExtFault
fin_with e None count = Err (Bad field.Count)
fin_with e (Some index) None = Err (Bad field.Count)
fin_with e (Some index) (Some count) =
    Ok (record { complete = flag (attr_named (codes "complete") e); first = set_text (codes "first") e; first_index = index; last = set_text (codes "last") e; count = count })

abbrev pub fin_read : Elem → Result Fin ExtFault
fin_read e = where_this (is_fin e) (fin_with e (number_or_zero (index_in e)) (number_or_zero (set_text (codes "count") e)))

-- `result`: the id is judged before what is forwarded
abbrev pub result_with : List ℕ → Option (List ℕ) → Result Forwarded ExtFault → Result MamResult ExtFault
result_with queryid None forwarded = Err (Bad field.Id)
result_with queryid (Some id) (Err fault) = Err fault
result_with queryid (Some id) (Ok forwarded) = Ok (record { queryid = queryid; id = id; forwarded = forwarded })

abbrev pub result_read : Elem → Result MamResult ExtFault
result_read e = where_this (is_result e) (result_with (attr_or_empty (codes "queryid") e) (attr_named (codes "id") e) (forward_read None (the_forwarded e)))

-- what is read where a test passes, and where a field has a value; else that field is wrong
abbrev pub if_right : {V : Type 0} → Bool → Field → Result V ExtFault → Result V ExtFault
if_right true field read = read
if_right false field read = Err (Bad field)

abbrev pub with_field : {A V : Type 0} → Option A → Field → (A → Result V ExtFault) → Result V ExtFault
with_field None field read = Err (Bad field)
with_field (Some x) field read = read x

-- `query`: the form is judged before the set, and each field of theirs in the order in which it is told
abbrev pub query_with : Elem → Option (List ℕ) → Option ℕ → Option ℕ → PagePosition → Option ℕ → MamQuery
query_with e peer start end position max = record { queryid = attr_or_empty (codes "queryid") e; query = record { peer = peer; start = start; end = end; position = position; max = max } }

abbrev pub limits_read : Elem → Option (List ℕ) → Option ℕ → Option ℕ → Result MamQuery ExtFault
limits_read e peer start end =
    with_field (position_in e) field.PagePosition (λ position. with_field (max_in e) field.Max (λ max.
    if_right (is_none (set_child (codes "index") e)) field.UnknownField (Ok (query_with e peer start end position max))))

abbrev pub filters_read : Elem → Result MamQuery ExtFault
filters_read e =
    if_right (is_for_archive (form_of e)) field.FormType (if_right (has_known_fields (form_of e)) field.UnknownField
    (with_field (optional_address (field_value (codes "with") e)) field.Peer (λ peer.
    with_field (optional_moment (field_value (codes "start") e)) field.Start (λ start.
    with_field (optional_moment (field_value (codes "end") e)) field.End (λ end. limits_read e peer start end)))))

abbrev pub mam_query_read : Elem → Result MamQuery ExtFault
mam_query_read e = where_this (is_query e) (filters_read e)
