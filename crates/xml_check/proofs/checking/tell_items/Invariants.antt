use Rattle.std.proofs.Common.{◌≡◌, drop}
use Rattle.xml_check.specs.Checked.{Told, told_after, told_items}
use Rattle.xml_check.proofs.checking.tell_items.Given as goal

-- what was told, and the items ahead
abbrev pub invariant-loop-item : goal.invariant-loop-item
invariant-loop-item l =
    (last : Told) → told_after l.initial.text.items (told_items l.items last) ≡ told_after l.text.items (told_items (drop l.item-index l.items) last)
