use Rattle.std.proofs.Common.{rules}
use Rattle.std.specs.Prelude.{is_some, nat_eq}
use Rattle.std.specs.HashMap as hash
use Rattle.std.proofs.lemmas.Fn.{filter_same}
use Rattle.sm_resumption.proofs.table.keep_living.Goals as goal

pub returns-clause-kept : goal.returns-clause-kept
returns-clause-kept c = filter_same _ (λ n. is_some (hash.get nat_eq c.args.rows.now n)) _ (λ x b f k. search rules) _ _ c.retain.ensures.filtered
