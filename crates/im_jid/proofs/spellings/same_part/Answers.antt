use Rattle.std.proofs.Common.{chars, ap, ◌∙◌, ◌≡◌}
use Rattle.std.specs.Str.{bytes_eq}
use Rattle.im_jid.proofs.SpellingLaws.{same_answer}
use Rattle.im_jid.specs.Spellings.{local_key}
use Rattle.caseless.specs.Caseless.{compatibility_key}
use Rattle.im_jid.proofs.spellings.same_part.Goals as goal

pub returns : goal.returns
returns c =
    let one : compatibility_key (chars c.as_str.result.now) ≡ local_key c.args.part.now = ap (λ t. compatibility_key (chars t)) (c.as_str.ensures.value ∙ c.in_ok-kept.ensures) in
    let two : compatibility_key (chars c.as_str-2.result.now) ≡ local_key c.args.other.now = ap (λ t. compatibility_key (chars t)) (c.as_str-2.ensures.value ∙ c.in_ok-other.ensures) in
    same_answer c.in_ok-same.same _ _ c.in_ok-same.ensures.value ∙ ap (λ k. bytes_eq k (compatibility_key (chars c.as_str-2.result.now))) one ∙ ap (bytes_eq (local_key c.args.part.now)) two
