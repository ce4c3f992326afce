use Rattle.std.proofs.Common.{◌≡◌, sym, ap}
use Rattle.std.proofs.lemmas.Bool.{false≢true}
use Rattle.std.proofs.lemmas.Str.{IsUtf8-string_bytes}
use Rattle.std.specs.String.{string_bytes}
use Rattle.xml_tokens.proofs.Texts.{text_same, text_fails}
use Rattle.xml_tokens.proofs.values.text_from.Goals as goal

pub returns-in-Ok : goal.returns-in-Ok
returns-in-Ok c =
    let same : string_bytes c.in-Ok.characters ≡ c.args.bytes.items = ap (λ v. v.items) c.in-Ok.ensures.ok in
    rw c.from.ensures (sym (text_same (string_bytes c.in-Ok.characters) c.args.bytes.items same (IsUtf8-string_bytes c.in-Ok.characters)))

pub returns : goal.returns
returns c = sym (text_fails c.args.bytes.items (λ good. false≢true (c.in-Err.ensures.succeeds good)))
