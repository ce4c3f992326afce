use Rattle.std.proofs.Common.{◌≡◌, ◌∙◌, sym, length, refl, replicate, Some, ap, List, ℕ}
use Rattle.auth_scram.specs.Values.{base64_bytes}
use Rattle.auth_scram.proofs.Base64.{hash_none, hash_some, sliced_32, sliced_ok, written_32}
use Rattle.auth_scram.proofs.contents.hash_of.Goals as goal

pub returns-then-len-eq32 : goal.returns-then-len-eq32
returns-then-len-eq32 c =
    let text = c.args.text.now in
    let is_32 : length (base64_bytes text) ≡ 32 = sliced_ok text c.in-Ok.len c.requires (sym c.decode_slice.ensures.value ∙ c.in-Ok.is) ∙ c.if-len-eq32.true in
    let written = written_32 text (replicate 32 0) c.decode_slice.new.output refl is_32 c.in-Ok.ensures.written in
    ap (λ (b : List ℕ). Some b) written ∙ sym (hash_some (base64_bytes text) is_32)

pub returns-else-len-eq32 : goal.returns-else-len-eq32
returns-else-len-eq32 c =
    let text = c.args.text.now in
    let same = sliced_ok text c.in-Ok.len c.requires (sym c.decode_slice.ensures.value ∙ c.in-Ok.is) in
    sym (hash_none (base64_bytes text) (λ h. c.if-len-eq32.false (sym same ∙ h)))

pub returns-in-Err : goal.returns-in-Err
returns-in-Err c =
    let text = c.args.text.now in
    sym (hash_none (base64_bytes text) (λ h. let fits = sliced_32 text c.requires h in let told = sym fits ∙ sym c.decode_slice.ensures.value ∙ c.in-Err.is in cc told))
