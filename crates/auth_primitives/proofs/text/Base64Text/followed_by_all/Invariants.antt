use Rattle.std.proofs.Common.{◌≡◌, drop}
use Rattle.auth_primitives.specs.Reading.{base64_after}
use Rattle.auth_primitives.proofs.text.Base64Text.followed_by_all.Given as goal

-- what was read so far, and the rest behind it, is what all of the bytes are
abbrev pub invariant-loop-byte : goal.invariant-loop-byte
invariant-loop-byte l = base64_after l.text (drop l.byte-index l.bytes) ≡ base64_after l.fn.self l.bytes
