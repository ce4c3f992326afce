use Rattle.std.proofs.Common.{◌≡◌, drop}
use Rattle.im_bad_fields.specs.PayloadTexts.{payload_after}
use Rattle.im_bad_fields.proofs.payload.PayloadText.followed_by_all.Given as goal

-- what was read so far, and the rest behind it, is what all of the bytes are
abbrev pub invariant-loop-byte : goal.invariant-loop-byte
invariant-loop-byte l = payload_after l.payload (drop l.byte-index l.bytes) ≡ payload_after l.fn.self l.bytes
