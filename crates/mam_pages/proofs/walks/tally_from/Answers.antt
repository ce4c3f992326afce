use Rattle.std.proofs.Common.{◌≡◌, refl, sym, ap, ap₂, ◌∙◌, arith}
use Rattle.std.specs.Str.{bytes_eq}
use Rattle.mam_pages.proofs.Walked.{walk_at, walk_begin, walk_end, walk_on, walk_smaller}
use Rattle.mam_pages.specs.Kept.{Kept}
use Rattle.mam_archive.specs.Peers.{next_of}
use Rattle.mam_pages.specs.Walks.{is_own, wanted_numbers}
use Rattle.mam_pages.proofs.walks.tally_from.Goals as goal

pub loop-next-init : goal.loop-next-init
loop-next-init g c =
    let kept = g.V.Look.archive c.args.look.now in
    record {
      same = refl;
      walked = walk_begin kept c.args.query.now c.args.peer.now c.args.span (g.V.Look.looks c.args.look.now)
          (g.V.Look.looks c.args.look.now) c.args.first c.new-tally.result c.requires.peer c.requires.first c.new-tally.ensures (omega arith);
    }

pub visit-requires : goal.visit-requires
visit-requires g c =
    let at = walk_at (g.V.Look.archive c.args.look.now) c.args.query.now c.args.peer.now c.args.span (g.V.Look.looks c.args.look.now)
    (g.V.Look.looks c.loop-next.look) c.in-Some.number c.loop-next.next c.loop-next.tally c.requires.peer c.requires.consecutive c.in-Some.is c.loop-next.invariant.walked in
    omega (arith, at.room, c.requires.few)

pub loop-next-preserved : goal.loop-next-preserved
loop-next-preserved g c =
    let kept = g.V.Look.archive c.args.look.now in
    let at = walk_at kept c.args.query.now c.args.peer.now c.args.span (g.V.Look.looks c.args.look.now)
    (g.V.Look.looks c.loop-next.look) c.in-Some.number c.loop-next.next c.loop-next.tally c.requires.peer c.requires.consecutive c.in-Some.is c.loop-next.invariant.walked in
    let same = c.loop-next.invariant.same in
    let own : c.eq-own.result ≡ is_own kept.owner c.args.query.now.peer =
    c.eq-own.ensures ∙ ap₂ bytes_eq c.owner.ensures c.bare_form.ensures ∙ ap (is_own kept.owner) (sym c.requires.peer) in
    let counted = rw same at (c.visit.ensures.tally at.entry c.args.span (wanted_numbers kept.owner c.args.query.now at.before)) in
    record {
      same = c.next_of-next.ensures.archive ∙ c.visit.ensures.archive ∙ same;
      walked = walk_on kept c.args.query.now c.args.span (g.V.Look.looks c.args.look.now) (g.V.Look.looks c.loop-next.look)
          (g.V.Look.looks c.next_of-next.new.self) c.in-Some.number c.next_of-next.result c.loop-next.tally c.visit.new.tally at
          (c.next_of-next.ensures.number ∙ ap (λ (k : Kept). next_of k.owner c.in-Some.number k.entries) (c.visit.ensures.archive ∙ same))
          (counted at.there at.is own at.in_chain at.counted) (omega (arith, c.next_of-next.ensures.looks, c.visit.ensures.looks))
          (λ plain. omega (arith, c.next_of-next.ensures.looks, c.visit.ensures.plain plain));
    }

pub loop-next-smaller : goal.loop-next-smaller
loop-next-smaller g c =
    let kept = g.V.Look.archive c.args.look.now in
    let at = walk_at kept c.args.query.now c.args.peer.now c.args.span (g.V.Look.looks c.args.look.now)
    (g.V.Look.looks c.loop-next.look) c.in-Some.number c.loop-next.next c.loop-next.tally c.requires.peer c.requires.consecutive c.in-Some.is c.loop-next.invariant.walked in
    walk_smaller kept c.args.query.now c.args.span (g.V.Look.looks c.args.look.now) (g.V.Look.looks c.loop-next.look) c.in-Some.number
    c.loop-next.next c.next_of-next.result c.loop-next.tally at c.in-Some.is
    (c.next_of-next.ensures.number ∙ ap (λ (k : Kept). next_of k.owner c.in-Some.number k.entries) (c.visit.ensures.archive ∙ c.loop-next.invariant.same))

pub returns-clause-tally : goal.returns-clause-tally
returns-clause-tally g c =
    walk_end (g.V.Look.archive c.args.look.now) c.args.query.now c.args.peer.now c.args.span (g.V.Look.looks c.args.look.now)
    (g.V.Look.looks c.loop-next.look) c.loop-next.next c.loop-next.tally c.requires.peer c.in_default.is c.loop-next.invariant.walked
