use Rattle.std.proofs.Common.{◌++◌, Some, None, ap, codes, sym, ◌∙◌}
use Rattle.im_forwarding.proofs.PartSteps.{around_in_message, three_parts}
use Rattle.im_forwarding.specs.Copies.{copied_elem, copied_text, copy_view}
use Rattle.im_stanza.specs.Kinds.{message_type}
use Rattle.im_stanza.specs.Names.{client_ns}
use Rattle.im_stanza.specs.Written.{attrs_written}
use Rattle.xml_writer.specs.Canon.{written_end_tag, written_start_tag}
use Rattle.im_forwarding.proofs.copies.CarbonCopy.to.Goals as goal

pub returns : goal.returns
returns c =
    let v = copy_view c.args.self.now in
    let full = c.args.full.now in
    let kind = c.type_of-kind.result.now in
    let opened = c.open_message.new.out.items in
    let start = written_start_tag client_ns client_ns (codes "message") (attrs_written (Some v.by) None (Some full) (Some kind) None) in
    let end = written_end_tag client_ns (codes "message") in
    three_parts c.new-out.result.items opened c.append.new.self.items c.close_message.new.out.items start (copied_text v) end
    c.in_ok-open_message.ensures (c.in_ok-append.ensures.ok ∙ ap (λ l. opened ++ l) (c.as_slice.ensures ∙ c.requires)) c.in_ok-close_message.ensures
    ∙ ap (λ none. none ++ (start ++ (copied_text v ++ end))) c.new-out.ensures
    ∙ ap (λ k. written_start_tag client_ns client_ns (codes "message") (attrs_written (Some v.by) None (Some full) (Some k) None) ++ (copied_text v ++ end)) c.type_of-kind.ensures
    ∙ sym (around_in_message (attrs_written (Some v.by) None (Some full) (Some (message_type v.message.kind)) None) (copied_elem v))
