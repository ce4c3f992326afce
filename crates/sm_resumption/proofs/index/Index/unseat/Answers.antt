use Rattle.std.proofs.Common.{◌≡◌, ℕ, Option, Some, Vec, Global, rules, refl, ap, subst, not, ◌∙◌, ◌==◌}
use Rattle.std.specs.Prelude.{IsSome, nat_eq}
use Rattle.std.specs.HashMap as hash
use Rattle.std.specs.List.{filter}
use Rattle.std.proofs.lemmas.Fn.{filter_same}
use Rattle.sm_resumption.proofs.RowFacts.{eqb_same}
use Rattle.sm_resumption.specs.Indexed.{numbers_in}
use Rattle.sm_resumption.proofs.index.Index.unseat.Goals as goal

pub returns-in-Some-clause-here : goal.returns-in-Some-clause-here
returns-in-Some-clause-here c =
    let kept = filter_same _ (λ m. not (m == c.args.number)) _ (λ x b f k. search rules) _ _ c.retain.ensures.filtered in
    let there : IsSome (hash.get nat_eq c.args.self.now.sessions_by_account c.args.account) = (let P : Option (Vec ℕ Global) → Type 0 = λ o. IsSome o in subst P c.in-Some.ensures.value refl) in
    let updates = ((c.get_mut.follows.holds c.retain.new.self).3 there).0 in
    let now : hash.get nat_eq (c.get_mut.follows.lender c.retain.new.self) c.args.account ≡ Some c.retain.new.self = updates c.args.account ∙ rw (eqb_same c.args.account) refl in
    ap numbers_in now ∙ kept ∙ ap (λ o. filter (λ m. not (m == c.args.number)) (numbers_in o)) c.in-Some.ensures.value
