use Rattle.std.proofs.Common.{◌≡◌, ◌==◌, true, false, length, sym}
use Rattle.im_jid.specs.Forms.{less_dot}
use Rattle.im_jid.specs.Plain.{is_plain_name}
use Rattle.im_jid.proofs.PlainParts.{domain_form-plain}
use Rattle.im_jid.proofs.forms.push_domain.Goals as goal

pub returns-then-is_plain_name : goal.returns-then-is_plain_name
returns-then-is_plain_name c =
    let given = c.args.given.now in
    let some : (length given == 0) ≡ false = sym c.if-is_empty.ensures in
    let plain : is_plain_name false (less_dot given) ≡ true =
    rw (c.as_bytes.ensures.value, c.without_dot-name.ensures) at (sym c.if-is_plain_name.ensures) in
    rw (domain_form-plain given some plain) (rw c.without_dot-name.ensures at c.push_ascii.ensures)
