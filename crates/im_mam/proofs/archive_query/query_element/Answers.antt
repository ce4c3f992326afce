use Rattle.std.proofs.Common.{◌≡◌, rules}
use Rattle.im_mam.specs.ArchiveQuery.{WritesForm, limit_elem, query_elem}
use Rattle.xml_trees.specs.Views.{elem_view}
use Rattle.im_mam.proofs.archive_query.query_element.Goals as goal

pub returns : goal.returns
returns c =
    let v = c.args.v.now in
    let form = elem_view c.in_ok-form.form in
    let form_is : WritesForm v.query form = search rules in
    let shape : elem_view c.push_child-2.new.self ≡ query_elem v.queryid form (limit_elem v.query.position v.query.max) = search rules in
    record { form = form; form_is = form_is; shape = shape }
