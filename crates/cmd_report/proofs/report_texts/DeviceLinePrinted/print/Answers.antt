use Rattle.cmd_report.proofs.DeviceTexts.{parts_joined}
use Rattle.cmd_report.proofs.report_texts.DeviceLinePrinted.print.Goals as goal

-- the three parts stand one behind the other
pub returns : goal.returns
returns c =
    let log = rw (c.in_ok-print_device_head.ensures) at (rw (c.in_ok-print_device_past.ensures) at c.print_device_log.ensures) in
    rw (parts_joined c.args.out.now.items c.args.self.now) at log
