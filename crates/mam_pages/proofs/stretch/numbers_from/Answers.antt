use Rattle.std.proofs.Common.{◌+◌, [], ◌∷◌, ◌++◌, refl, ap, ◌∙◌, arith}
use Rattle.mam_archive.specs.Peers.{next_of}
use Rattle.mam_pages.proofs.ChainNumbers.{numbers_next}
use Rattle.mam_pages.proofs.Runs.{run_begin, run_more}
use Rattle.mam_pages.specs.Kept.{Kept}
use Rattle.mam_pages.specs.Stretches.{chain_numbers}
use Rattle.mam_pages.proofs.stretch.numbers_from.Goals as goal

pub loop-at-init : goal.loop-at-init
loop-at-init g c =
    let kept = g.V.Look.archive c.args.look.now in
    record {
      same = refl;
      run = λ peer position is room. run_begin (chain_numbers kept peer) position c.args.first c.push_reserved.new.self.items is
          (c.push_reserved.ensures.items ∙ ap (λ t. t ++ c.args.first ∷ []) (c.in_ok-reserve.ensures.items ∙ c.new-numbers.ensures));
      spare = omega (arith, c.in_ok-reserve.ensures.ok, c.push_reserved.ensures.spare);
      looks = omega arith;
    }

pub loop-at-preserved : goal.loop-at-preserved
loop-at-preserved g c =
    let kept = g.V.Look.archive c.args.look.now in
    let same = c.loop-at.invariant.same in
    record {
      same = c.next_of.ensures.archive ∙ same;
      run = λ peer position is room.
          let run = c.loop-at.invariant.run peer position is room in
          run_more (chain_numbers kept peer) position c.loop-at._at c.loop-at.number c.unwrap_or-number.result c.loop-at.numbers.items c.push_reserved-in-loop-at.new.self.items
          c.next_of.result run (omega (arith, room, c.loop-at-test.true))
          (c.next_of.ensures.number ∙ ap (λ (k : Kept). next_of k.owner c.loop-at.number k.entries) same
          ∙ numbers_next kept peer (position + c.loop-at._at) c.loop-at.number c.requires.consecutive run.here)
          c.unwrap_or-number.ensures c.push_reserved-in-loop-at.ensures.items;
      spare = omega (arith, c.loop-at.invariant.spare, c.push_reserved-in-loop-at.ensures.spare);
      looks = omega (arith, c.loop-at.invariant.looks, c.next_of.ensures.looks);
    }
