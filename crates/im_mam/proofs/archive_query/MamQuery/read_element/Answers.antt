use Rattle.im_mam.proofs.QueryReads.{query_reads}
use Rattle.xml_trees.specs.Views.{elem_view}
use Rattle.im_mam.proofs.archive_query.MamQuery.read_element.Goals as goal

pub returns-clause-reading : goal.returns-clause-reading
returns-clause-reading c = query_reads (elem_view c.args.element.now) c.query_in.result c.query_in.ensures.ok c.query_in.ensures.err
