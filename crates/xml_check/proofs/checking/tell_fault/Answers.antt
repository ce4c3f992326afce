use Rattle.xml_check.proofs.Telling.{strange_told}
use Rattle.xml_check.specs.Checked.{wrong_with}
use Rattle.xml_check.specs.Lines.{fault_line, why_name}
use Rattle.xml_check.proofs.checking.tell_fault.Goals as goal

pub returns-in_ok-append_fault-in-Some : goal.returns-in_ok-append_fault-in-Some
returns-in_ok-append_fault-in-Some c =
    strange_told c.in_ok-tell_items.field-0 c.in-Some.at c.args.text.now.items c.tell_items.new.text.items c.append_fault-in-Some.new.out.items c.args.items.now
    (wrong_with (fault_line c.args.fault.at (why_name c.args.fault.why))) c.in-Some.is c.in_ok-tell_items.ensures c.in_ok-append_fault-in-Some.ensures
