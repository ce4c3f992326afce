use Rattle.std.proofs.Common.{◌≡◌, ◌==◌, true, false, length, chars, encode_utf8_all, sym, refl, ◌∙◌}
use Rattle.std.specs.List.{list_all}
use Rattle.unicode_normalization.specs.Forms.{nfc}
use Rattle.im_jid.specs.Forms.{is_resource_char}
use Rattle.im_jid.proofs.PlainParts.{resource_form-printable, resource_form-spelled}
use Rattle.im_jid.proofs.forms.push_resource.Goals as goal

pub returns-then-is_printable : goal.returns-then-is_printable
returns-then-is_printable c =
    let given = c.args.given.now in
    let some : (length given == 0) ≡ false = sym c.if-is_empty.ensures in
    rw (resource_form-printable given some (sym c.if-is_printable.ensures)) c.push_fitting.ensures

pub returns-then-not-fits_resource : goal.returns-then-not-fits_resource
returns-then-not-fits_resource c =
    let given = c.args.given.now in
    let some : (length given == 0) ≡ false = sym c.if-is_empty.ensures in
    let spelled : c.as_str.result.now ≡ encode_utf8_all (nfc (chars given)) = c.as_str.ensures.value ∙ c.in_ok-normal.ensures in
    let refused : list_all is_resource_char (chars c.as_str.result.now) ≡ false = sym c.if-not-fits_resource.ensures in
    rw (resource_form-spelled given c.as_str.result.now some c.as_str.utf8 spelled, refused) refl

pub returns : goal.returns
returns c =
    let given = c.args.given.now in
    let some : (length given == 0) ≡ false = sym c.if-is_empty.ensures in
    let spelled : c.as_str.result.now ≡ encode_utf8_all (nfc (chars given)) = c.as_str.ensures.value ∙ c.in_ok-normal.ensures in
    let fits : list_all is_resource_char (chars c.as_str.result.now) ≡ true = sym c.if-not-fits_resource.ensures in
    let same : c.as_str.result.now ≡ c.as_str-2.result.now = c.as_str.ensures.value ∙ sym c.as_str-2.ensures.value in
    rw (resource_form-spelled given c.as_str.result.now some c.as_str.utf8 spelled, fits, same) c.push_fitting-2.ensures
