use Rattle.std.proofs.Common.{◌≡◌, ◌≢◌, ℕ, List, ◌++◌, rules, subst}
use Rattle.std.proofs.lemmas.Bool.Decides.{Decides-eqb}
use Rattle.std.proofs.lemmas.Slice.Eq.{strip_prefix_is}
use Rattle.std.specs.Option.{MatchOption}
use Rattle.im_login.proofs.texts.following.Goals as goal

pub returns : goal.returns
returns c =
    let same : c.as_bytes.result.now ≡ c.args.text.now = search rules in
    subst (λ t. MatchOption c.strip_prefix.result ((rest : List ℕ) → c.args.bytes.now ≢ t ++ rest) (λ rest. c.args.bytes.now ≡ t ++ rest.now)) same
    (strip_prefix_is Decides-eqb c.args.bytes.now c.as_bytes.result.now c.strip_prefix.result c.strip_prefix.ensures.cases)
