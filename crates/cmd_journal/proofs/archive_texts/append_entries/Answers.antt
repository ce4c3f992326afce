use Rattle.std.proofs.Common.{◌+◌, refl, arith}
use Rattle.cmd_journal.proofs.EntryTexts.{entry_more}
use Rattle.cmd_journal.proofs.archive_texts.append_entries.Goals as goal

pub loop-i-preserved : goal.loop-i-preserved
loop-i-preserved c =
    entry_more c.args.out.now.items c.loop-i.out.items c.append_entry.new.out.items c.args.archive.now.entries c.loop-i.i (c.first-first.result + c.loop-i.i) c.first-first.result
    c.args.archive.now.last c.in-Some.entry.now c.first-first.ensures.kept.within c.first-first.ensures.first refl (omega (arith, c.loop-i-test.true, c.len-i-end.ensures.entries))
    c.in-Some.ensures.found c.loop-i.invariant c.in_ok-append_entry-in-Some.ensures
