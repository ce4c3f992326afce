use Rattle.std.proofs.Common.{◌≡◌, ◌+◌, ◌-◌, ◌≤◌, length, drop}
use Rattle.std.specs.List.{prefix_len}
use Rattle.xml_tokens.specs.Spelling
use Rattle.xml_tokens.proofs.fronts.text_plain_len.Given as goal

-- what is behind is plain
abbrev pub invariant-loop-done : goal.invariant-loop-done
invariant-loop-done l =
    record {
      within : l.done ≤ length l.bytes;
      plain : l.done + prefix_len Spelling.is_text_plain (drop l.done l.bytes) ≡ prefix_len Spelling.is_text_plain l.bytes;
    }

abbrev pub decreases-loop-done : goal.decreases-loop-done
decreases-loop-done l = length l.bytes - l.done
