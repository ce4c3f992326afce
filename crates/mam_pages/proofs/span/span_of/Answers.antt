use Rattle.std.proofs.Common.{ap, ◌∙◌, sym}
use Rattle.mam_pages.proofs.Edges.{edge_after, edge_before}
use Rattle.mam_pages.proofs.SpanPages.{page_after, page_before, page_first, page_last}
use Rattle.mam_pages.specs.declared.query.PagePosition.TheVariants.{After, Before}
use Rattle.mam_pages.proofs.span.span_of.Goals as goal

pub returns-in-First-clause-span : goal.returns-in-First-clause-span
returns-in-First-clause-span c kept known =
    page_first kept c.args.query.now c.args.first c.args.last c.most-most.result known c.in-First.is c.most-most.ensures

pub returns-in-Last-clause-span : goal.returns-in-Last-clause-span
returns-in-Last-clause-span c kept known =
    page_last kept c.args.query.now c.args.first c.args.last c.most-most.result known c.in-Last.is c.most-most.ensures

pub returns-in_ok-number_kept-in-After-clause-span : goal.returns-in_ok-number_kept-in-After-clause-span
returns-in_ok-number_kept-in-After-clause-span c kept known =
    page_after kept c.args.query.now c.as_str.result.now c.args.first c.args.last c.most-most.result c.in_ok-number_kept-in-After.field-0 known
    (c.in-After.is ∙ ap After (sym c.as_str.ensures)) (c.in_ok-number_kept-in-After.ensures.number kept.entries known) c.most-most.ensures

pub returns-in_ok-number_kept-in-Before-clause-span : goal.returns-in_ok-number_kept-in-Before-clause-span
returns-in_ok-number_kept-in-Before-clause-span c kept known =
    page_before kept c.args.query.now c.as_str-in-Before.result.now c.args.first c.args.last c.most-most.result c.in_ok-number_kept-in-Before.field-0 known
    (c.in-Before.is ∙ ap Before (sym c.as_str-in-Before.ensures)) (c.in_ok-number_kept-in-Before.ensures.number kept.entries known) c.in_ok-number_kept-in-Before.ensures.kept.0 c.most-most.ensures

pub returns-in_ok-number_kept-in-After-clause-edge : goal.returns-in_ok-number_kept-in-After-clause-edge
returns-in_ok-number_kept-in-After-clause-edge c kept peer known =
    edge_after kept peer c.as_str.result.now c.args.query.now.position c.args.first c.args.last c.in_ok-number_kept-in-After.field-0 known
    (c.in-After.is ∙ ap After (sym c.as_str.ensures)) (c.in_ok-number_kept-in-After.ensures.number kept.entries known) c.in_ok-number_kept-in-After.ensures.kept.0

pub returns-in_ok-number_kept-in-Before-clause-edge : goal.returns-in_ok-number_kept-in-Before-clause-edge
returns-in_ok-number_kept-in-Before-clause-edge c kept peer known =
    edge_before kept peer c.as_str-in-Before.result.now c.args.query.now.position c.args.first c.args.last c.in_ok-number_kept-in-Before.field-0 known
    (c.in-Before.is ∙ ap Before (sym c.as_str-in-Before.ensures)) (c.in_ok-number_kept-in-Before.ensures.number kept.entries known)
    c.in_ok-number_kept-in-Before.ensures.kept.0 c.in_ok-number_kept-in-Before.ensures.kept.1
