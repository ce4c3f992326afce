use Rattle.std.proofs.Common.{◌++◌, Some, None, ap, codes, sym, ◌∙◌}
use Rattle.im_forwarding.proofs.PartSteps.{around_in_message, three_parts}
use Rattle.im_forwarding.specs.Results.{archived_result}
use Rattle.im_stanza.specs.Names.{client_ns}
use Rattle.im_stanza.specs.Written.{attrs_written}
use Rattle.xml_writer.specs.Canon.{written, written_end_tag, written_start_tag}
use Rattle.im_forwarding.proofs.results.archived.Goals as goal

pub returns : goal.returns
returns c =
    let attrs = attrs_written (Some c.args.asker.now.by.now) None (Some c.args.asker.now.full.now) None None in
    let inside = archived_result c.args.asker.now.queryid.now c.args.entry.now in
    let start = written_start_tag client_ns client_ns (codes "message") attrs in
    let end = written_end_tag client_ns (codes "message") in
    three_parts c.new-out.result.items c.open_message.new.out.items c.write_result.new.out.items c.close_message.new.out.items start (written client_ns inside) end
    c.in_ok-open_message.ensures c.in_ok-write_result.ensures c.in_ok-close_message.ensures
    ∙ ap (λ none. none ++ (start ++ (written client_ns inside ++ end))) c.new-out.ensures
    ∙ sym (around_in_message attrs inside)
