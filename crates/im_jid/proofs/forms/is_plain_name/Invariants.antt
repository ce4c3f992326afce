use Rattle.std.proofs.Common.{◌≡◌, drop, false}
use Rattle.im_jid.specs.Plain.{is_plain_name}
use Rattle.im_jid.proofs.forms.is_plain_name.Given as goal

-- what is left is plain exactly where the whole is
abbrev pub invariant-loop-byte : goal.invariant-loop-byte
invariant-loop-byte l = is_plain_name l.hyphen (drop l.byte-index l.name) ≡ is_plain_name false l.name
