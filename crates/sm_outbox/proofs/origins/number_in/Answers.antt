use Rattle.std.proofs.Common.{◌≡◌, ◌∙◌, Ok, true, false, true≢false, ap, sym, decimal}
use Rattle.std.proofs.lemmas.Fmt.{parse-decimal}
use Rattle.std.proofs.lemmas.Slice.Eq.{bytes_eq-Decides}
use Rattle.sm_outbox.proofs.OriginIds.{same_value}
use Rattle.sm_outbox.proofs.origins.number_in.Goals as goal

pub returns-in_default-clause-none : goal.returns-in_default-clause-none
returns-in_default-clause-none c n small is = c.in_default.not-Ok n (parse-decimal 64 n c.args.digits.now c.parse.result small small is c.parse.ensures.value.0)

pub returns-else-eq-clause-none : goal.returns-else-eq-clause-none
returns-else-eq-clause-none c n small is =
    let read : c.parse.result ≡ Ok n = parse-decimal 64 n c.args.digits.now c.parse.result small small is c.parse.ensures.value.0 in
    let same : c.in-Ok.n ≡ n = same_value c.parse.result c.in-Ok.n n c.in-Ok.is read in
    let text : c.format.result.now ≡ c.args.digits.now = c.format.ensures.text ∙ ap decimal same ∙ sym is in
    true≢false (sym ((bytes_eq-Decides c.format.result.now c.args.digits.now).1 text) ∙ sym c.if-eq.ensures)
