use Rattle.std.proofs.Common.{◌-◌, ap, ◌∙◌, arith}
use Rattle.std.proofs.lemmas.Option.{slice_get_within}
use Rattle.mam_archive.specs.Peers.{previous_of}
use Rattle.mam_pages.proofs.ChainNumbers.{numbers_previous}
use Rattle.mam_pages.proofs.Runs.{back_more}
use Rattle.mam_pages.specs.Kept.{Kept}
use Rattle.mam_pages.specs.Stretches.{chain_numbers}
use Rattle.mam_pages.proofs.stretch.fill_back.Goals as goal

pub loop-at-preserved : goal.loop-at-preserved
loop-at-preserved g c =
    let kept = g.V.Look.archive c.args.look.now in
    let same = c.loop-at.invariant.same in
    record {
      same = c.previous_of.ensures.archive ∙ same;
      run = λ peer position is fits.
          let run = c.loop-at.invariant.run peer position is fits in
          back_more (chain_numbers kept peer) c.loop-at.slots position c.args.count c.loop-at.at c.loop-at.number c.unwrap_or-number.result c.previous_of.result run
          c.loop-at-test.true fits (slice_get_within (chain_numbers kept peer) position c.args.last is) (omega (arith, c.requires.few))
          (c.previous_of.ensures.number ∙ ap (λ (k : Kept). previous_of k.owner c.loop-at.number k.entries) same
          ∙ numbers_previous kept peer (position - c.loop-at.at) c.loop-at.number c.requires.consecutive run.here (omega (arith, c.loop-at-test.true, fits)))
          c.unwrap_or-number.ensures;
      looks = omega (arith, c.loop-at.invariant.looks, c.previous_of.ensures.looks);
    }
