use Rattle.std.proofs.Common.{◌≡◌, ◌∙◌, sym}
use Rattle.auth_scram.specs.Values.{base64_bytes}
use Rattle.auth_scram.proofs.Base64.{bytes_are}
use Rattle.auth_scram.proofs.contents.base64_bytes.Goals as goal

pub returns-in-Ok : goal.returns-in-Ok
returns-in-Ok c =
    let same : c.as_slice.result.now ≡ base64_bytes c.args.text.now = c.as_slice.ensures.value ∙ sym (bytes_are c.args.text.now c.in-Ok.bytes.items c.in-Ok.ensures.ok) in
    rw same at c.from_slice.ensures
