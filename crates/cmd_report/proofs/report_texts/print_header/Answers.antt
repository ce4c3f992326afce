use Rattle.cmd_report.proofs.Headers.{header_one, header_two}
use Rattle.cmd_report.proofs.report_texts.print_header.Goals as goal

pub returns-in_ok-append-in-One : goal.returns-in_ok-append-in-One
returns-in_ok-append-in-One c =
    let text = rw (c.in_ok-append-in-One.ensures.ok, c.as_bytes.ensures.value, c.mode_name.ensures, header_one c.args.out.now.items c.args.wire) at c.append-in-One.ensures.ok in
    rw c.in-One.is text

pub returns-in_ok-append-in-Two-2 : goal.returns-in_ok-append-in-Two-2
returns-in_ok-append-in-Two-2 c =
    let text = rw (c.in_ok-append-in-Two-2.ensures.ok, c.in_ok-append-in-Two.ensures.ok, c.as_bytes-in-Two.ensures.value, c.mode_name-in-Two.ensures, c.from.ensures, header_two c.args.out.now.items c.in-Two.keep c.args.wire) at c.append_number_field.ensures in
    rw c.in-Two.is text
