use Rattle.std.proofs.Common.{rules, ◌^◌, ◌≡◌, ℕ, ◌+◌, ◌-◌, ◌<◌, ◌≤◌, List, length, take, refl, sym, ap, ◌∙◌, arith}
use Rattle.std.proofs.lemmas.List.{length-take-le, take_all}
use Rattle.mam_archive.specs.Entries.{EntryView}
use Rattle.mam_pages.proofs.Listing.{listed}
use Rattle.mam_pages.proofs.Placed.{placed_self}
use Rattle.mam_pages.proofs.Walked.{wanted_few, wanted_push}
use Rattle.mam_pages.specs.Kept.{AreConsecutive, first_number, last_number}
use Rattle.mam_pages.specs.Tallies.{IsTally}
use Rattle.mam_pages.specs.Walks.{is_in_chain, is_own, wanted_numbers}
use Rattle.mam_pages.specs.declared.query.PageQuery.{PageQuery}
use Rattle.mam_pages.specs.declared.span.Span.{Span}
use Rattle.mam_pages.specs.declared.tally.Tally.{Tally}
use Rattle.mam_pages.proofs.walks.tally_of_list.Goals as goal

-- how many entries there are, by their first number and their last
sized : (es : List EntryView) (first last : ℕ) → AreConsecutive es → first ≡ first_number es → last ≡ last_number es →
    (1 ≤ first) × (first - 1 + length es ≡ last)
sized es first last known from to =
    let at = placed_self es known in
    (omega (arith, at.0, from), omega (arith, at.0, at.1.end, from, to))

pub overflow_sub-base : goal.overflow_sub-base
overflow_sub-base g c =
    let es = (g.V.Look.archive c.args.look.now).entries in
    (sized es c.first-base.result (last_number es) c.first-base.ensures.consecutive c.first-base.ensures.first refl).0

pub overflow_sub-count : goal.overflow_sub-count
overflow_sub-count g c =
    let es = (g.V.Look.archive c.args.look.now).entries in
    let size = sized es c.first-base.result c.last.result c.first-base.ensures.consecutive c.first-base.ensures.first c.last.ensures in
    omega (arith, size.1)

few_counted : (owner : List ℕ) (query : PageQuery) (span : Span) (es : List EntryView) (at : ℕ) (t : Tally) → at < length es →
    IsTally span (wanted_numbers owner query (take at es)) t → t.count ≤ at
few_counted owner query span es at t within tally =
    omega (arith, tally.count, wanted_few owner query (take at es), length-take-le at es (omega (arith, within)))

pub visit-requires : goal.visit-requires
visit-requires g c =
    let kept = g.V.Look.archive c.args.look.now in
    let size = sized kept.entries c.first-base.result c.last.result c.first-base.ensures.consecutive c.first-base.ensures.first c.last.ensures in
    let few = few_counted kept.owner c.args.query.now c.args.span kept.entries c.loop-at.at c.loop-at.tally (omega (arith, size.1, c.loop-at-test.true)) c.loop-at.invariant.counted in
    let fits : c.last.result < 2 ^ 64 = search rules in
    omega (arith, few, fits, size.1, c.loop-at-test.true)

pub loop-at-preserved : goal.loop-at-preserved
loop-at-preserved g c =
    let kept = g.V.Look.archive c.args.look.now in
    let size = sized kept.entries c.first-base.result c.last.result c.first-base.ensures.consecutive c.first-base.ensures.first c.last.ensures in
    let placed = placed_self kept.entries c.first-base.ensures.consecutive in
    let base : first_number kept.entries - 1 ≡ c.first-base.result - 1 = ap (λ n. n - 1) (sym c.first-base.ensures.first) in
    let here = listed (c.first-base.result - 1) c.loop-at.at kept.entries (rw base at placed.1.follow) (omega (arith, size.1, c.loop-at-test.true)) in
    let same = c.loop-at.invariant.same in
    let own = ap (is_own kept.owner) (sym c.requires.peer) in
    let in_chain = ap (λ asked. is_in_chain kept.owner asked here.entry) c.requires.peer in
    let counted = rw same at (c.visit.ensures.tally here.entry c.args.span (wanted_numbers kept.owner c.args.query.now (take c.loop-at.at kept.entries))) in
    record {
      same = c.visit.ensures.archive ∙ same;
      counted = rw (here.more, wanted_push kept.owner c.args.query.now (take c.loop-at.at kept.entries) here.entry) (counted here.there here.is own in_chain c.loop-at.invariant.counted);
      looks = omega (arith, c.visit.ensures.looks, c.loop-at.invariant.looks);
    }

pub returns-clause-tally : goal.returns-clause-tally
returns-clause-tally g c =
    let kept = g.V.Look.archive c.args.look.now in
    let size = sized kept.entries c.first-base.result c.last.result c.first-base.ensures.consecutive c.first-base.ensures.first c.last.ensures in
    let all : take c.loop-at.at kept.entries ≡ kept.entries = take_all c.loop-at.at kept.entries (omega (arith, size.1, c.loop-at-test.false)) in
    rw all at c.loop-at.invariant.counted

pub returns-clause-looks : goal.returns-clause-looks
returns-clause-looks g c =
    let kept = g.V.Look.archive c.args.look.now in
    let size = sized kept.entries c.first-base.result c.last.result c.first-base.ensures.consecutive c.first-base.ensures.first c.last.ensures in
    omega (arith, size.1, c.loop-at.invariant.looks, c.loop-at.auto.at-end)
