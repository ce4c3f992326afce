use Rattle.std.proofs.Common.{◌≡◌, ◌≤◌, ◌-◌, length, sym, ap, ◌∙◌, arith}
use Rattle.mam_pages.proofs.Tallying.{index_of_first, index_of_last}
use Rattle.mam_pages.specs.Spans.{within}
use Rattle.mam_pages.specs.declared.span.Span.{Span}
use Rattle.mam_pages.proofs.tally.Tally.first_index.Goals as goal

pub returns-then-self : goal.returns-then-self
returns-then-self c span numbers high rises tally =
    let some : 1 ≤ length c.args.self.now.window.numbers = omega (arith, c.if-len-eq0.false, c.len.ensures.len) in
    let most : c.args.self.now.span.most ≡ span.most = ap (λ (s : Span). s.most) tally.same_span in
    let over : c.saturating_sub.result ≡ length (within span numbers) - span.most = omega (arith, c.saturating_sub.ensures, tally.found, most) in
    index_of_last span high c.args.self.now.skipped c.saturating_sub.result numbers c.args.self.now.window.numbers rises
    (ap (λ (s : Span). s.backward) (sym tally.same_span) ∙ c.if-self.true) tally.window some tally.skipped over

pub returns-else-self : goal.returns-else-self
returns-else-self c span numbers high rises tally =
    let some : 1 ≤ length c.args.self.now.window.numbers = omega (arith, c.if-len-eq0.false, c.len.ensures.len) in
    index_of_first span high c.args.self.now.skipped numbers c.args.self.now.window.numbers rises
    (ap (λ (s : Span). s.backward) (sym tally.same_span) ∙ c.if-self.false) tally.window some tally.skipped
