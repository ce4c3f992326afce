use Rattle.std.proofs.Common.{[], ◌++◌, ap, codes, sym, ◌∙◌}
use Rattle.im_extensions.specs.Forwarding.{delay_elem}
use Rattle.im_forwarding.proofs.PartSteps.{carbon_in_parts, five_parts}
use Rattle.im_forwarding.specs.Copies.{copy_view}
use Rattle.im_forwarding.specs.Passed.{passed_elem}
use Rattle.im_payload.specs.Names.{carbons, forwarding}
use Rattle.im_stamp.specs.Dates.{stamp_at}
use Rattle.im_stanza.specs.Names.{client_ns}
use Rattle.xml_writer.specs.Canon.{written, written_end_tag, written_start_tag}
use Rattle.im_forwarding.proofs.copies.CarbonCopy.inside.Goals as goal

pub returns : goal.returns
returns c =
    let v = copy_view c.args.self.now in
    let name = c.carbon_name-name.result.now in
    let message = passed_elem v.by v.number v.message in
    let front = written_start_tag carbons forwarding (codes "forwarded") [] ++ written forwarding (delay_elem (stamp_at v.moment)) in
    let end = written_end_tag forwarding (codes "forwarded") in
    five_parts c.new-out.result.items c.open_bare.new.out.items c.open_forwarded.new.out.items c.write_passed.new.out.items c.close_forwarded.new.out.items c.write_end.new.out.items
    (written_start_tag client_ns carbons name []) front (written forwarding message) end (written_end_tag carbons name)
    c.in_ok-open_bare.ensures c.in_ok-open_forwarded.ensures c.in_ok-write_passed.ensures c.in_ok-close_forwarded.ensures c.in_ok-write_end.ensures.ok
    ∙ ap (λ none. none ++ (written_start_tag client_ns carbons name [] ++ (front ++ (written forwarding message ++ (end ++ written_end_tag carbons name))))) c.new-out.ensures
    ∙ ap (λ n. written_start_tag client_ns carbons n [] ++ (front ++ (written forwarding message ++ (end ++ written_end_tag carbons n)))) c.carbon_name-name.ensures
    ∙ sym (carbon_in_parts v.sent (stamp_at v.moment) message)
