use Rattle.std.proofs.Common.{◌+◌, ◌-◌, length, sym, ◌∙◌, refl, arith}
use Rattle.mam_keep.proofs.Checked.{each_seen, entries_more, numbers_seen}
use Rattle.mam_keep.proofs.checks.are_of.Goals as goal

pub loop-entry-preserved : goal.loop-entry-preserved
loop-entry-preserved c =
    entries_more c.args.owner.now (c.args.last + 1 - length c.args.entries.now) c.loop-entry.next c.args.entries.now c.loop-entry.entry-index c.entry-item.result
    (omega (arith, c.loop-entry-test.true)) c.entry-item.is c.loop-entry.invariant (sym c.number.ensures ∙ c.if-number-next.false) (c.if-not-is_of.ensures refl)

pub returns-clause-numbers : goal.returns-clause-numbers
returns-clause-numbers c = λ _. numbers_seen c.args.owner.now c.args.last c.loop-entry.next c.loop-entry.entry-index c.args.entries.now c.requires.within c.loop-entry-test.false c.loop-entry.invariant

pub returns-clause-each : goal.returns-clause-each
returns-clause-each c = λ _. each_seen c.args.owner.now c.args.last c.loop-entry.next c.loop-entry.entry-index c.args.entries.now c.loop-entry-test.false c.loop-entry.invariant
