use Rattle.std.proofs.Common.{◌≡◌, ◌++◌, drop}
use Rattle.im_replies.specs.Streams.{hex_of}
use Rattle.im_replies.proofs.streams.push_hexadecimal.Given as goal

-- what was added and what is ahead are the whole
abbrev pub invariant-loop-byte : goal.invariant-loop-byte
invariant-loop-byte l = l.out.items ++ hex_of (drop l.byte-index l.bytes) ≡ l.fn.out.items ++ hex_of l.bytes
