use Rattle.std.proofs.Common.{◌∷◌, ◌++◌, decimal, sym, ap, ◌∙◌}
use Rattle.cl_intents.proofs.Ids.{after_prefix, numbers_test}
use Rattle.cl_intents.proofs.log_entries.are_numbers.Goals as goal

pub returns-in_default : goal.returns-in_default
returns-in_default c = (
  λ bad. absurd (let no : ⊥ = cc in no),
  λ is. absurd (c.in_default.ensures (46 ∷ decimal c.args.n) (is ∙ sym (ap (λ d. d ++ 46 ∷ decimal c.args.n) c.format.ensures.text))),
)

pub returns-in_default-following : goal.returns-in_default-following
returns-in_default-following c = (
  λ bad. absurd (let no : ⊥ = cc in no),
  λ is.
      let dotted = after_prefix c.args.text.now c.format.result.now c.in-Some.dotted.now (46 ∷ decimal c.args.n) c.in-Some.ensures (is ∙ sym (ap (λ d. d ++ 46 ∷ decimal c.args.n) c.format.ensures.text)) in
      absurd (c.in_default-following.ensures (decimal c.args.n) dotted),
)

pub returns : goal.returns
returns c =
    numbers_test c.args.text.now c.format.result.now c.in-Some.dotted.now c.in-Some-following.rest.now c.format-2.result.now c.args.epoch c.args.n c.eq.result c.in-Some.ensures c.format.ensures.text
    c.in-Some-following.ensures c.format-2.ensures.text c.eq.ensures
