use Rattle.std.proofs.Common.{◌≡◌, Some, ap, ◌∙◌}
use Rattle.std.specs.Option.{option_map}
use Rattle.std.specs.Result.{result_ok}
use Rattle.xml_tokens.proofs.Utf8Runs.{next_IsPending}
use Rattle.xml_tokens.specs.Held.{held_bytes}
use Rattle.xml_tokens.specs.Utf8.{utf8_next}
use Rattle.xml_tokens.proofs.utf8.PartialCharacter.take.Goals as goal

pub invariant_of-self : goal.invariant_of-self
invariant_of-self c =
    let next : utf8_next (held_bytes c.self.inside.held) c.args.b ≡ Some (held_bytes c.in_ok-self-inside.field-0) = c.next_held.ensures ∙ ap (λ r. option_map held_bytes (result_ok r)) c.in_ok-self-inside.was in
    next_IsPending (held_bytes c.self.inside.held) (held_bytes c.in_ok-self-inside.field-0) c.args.b c.self.invariant next
