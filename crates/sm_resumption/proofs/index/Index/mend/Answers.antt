use Rattle.std.proofs.Common.{Some, sym, ap, ◌∙◌, refl, get_or}
use Rattle.std.specs.Prelude.{nat_eq}
use Rattle.std.specs.HashMap as hash
use Rattle.sm_resumption.proofs.IndexFacts.{found_none, found_some, mended, mended_none, ordered_same, waits_same}
use Rattle.sm_resumption.specs.Indexed.{conn_in}
use Rattle.sm_resumption.proofs.index.Index.mend.Goals as goal
use Rattle.sm_resumption.proofs.index.Index.mend.Goals.{in-Some+in-Some-conn, in-Some+in-None, in_default}

pub loop-number-preserved : goal.loop-number-preserved
loop-number-preserved c =
    elim c.match-get.branch [
      | in-Some+in-Some-conn w ↦
          rw w.self-is (
            λ whole.
                mended c.loop-number.number-index (get_or c.args.numbers.now c.loop-number.number-index 0) w.in-Some.row.now c.loop-number.self w.enter.new.self c.args.numbers.now (hash.get nat_eq c.args.rows.now) c.requires
                (sym w.in-Some.ensures.value) refl
                (λ s q waiting. waits_same s q c.loop-number.self w.enter.new.self w.enter.ensures.waits waiting)
                (λ q other. w.enter.ensures.conns q (λ same. other (w.in-Some-conn.is ∙ ap Some (sym same))))
                (found_some _ w.in-Some-conn.conn w.in-Some.row.now.shown.parked_at w.enter.new.self w.in-Some.row.now.shown.conn w.in-Some-conn.is (w.enter.ensures.here whole))
                (c.loop-number.invariant.0 (w.enter.ensures.whole whole)),
            w.enter.ensures.sessions_by_account ∙ c.loop-number.invariant.1,
            ordered_same c.loop-number.self w.enter.new.self w.enter.ensures.waits c.loop-number.invariant.2,
          )
      | in-Some+in-None w ↦
          rw w.self-is (
            λ whole.
                mended c.loop-number.number-index (get_or c.args.numbers.now c.loop-number.number-index 0) w.in-Some.row.now c.loop-number.self w.wait.new.self c.args.numbers.now (hash.get nat_eq c.args.rows.now) c.requires
                (sym w.in-Some.ensures.value) refl w.wait.ensures.waits
                (λ q other. ap (λ cs. conn_in (record c.loop-number.self { conns = cs }) q) w.wait.ensures.conns)
                (found_none _ w.in-Some.row.now.shown.parked_at w.wait.new.self w.in-Some.row.now.shown.conn w.in-None.is (w.wait.ensures.here whole))
                (c.loop-number.invariant.0 (w.wait.ensures.whole whole)),
            w.wait.ensures.sessions_by_account ∙ c.loop-number.invariant.1,
            w.wait.ensures.ordered,
          )
      | in_default w ↦
          rw w.self-is
          (λ whole. mended_none c.loop-number.number-index c.loop-number.self c.args.numbers.now (hash.get nat_eq c.args.rows.now) (sym w.in_default.ensures.value) (c.loop-number.invariant.0 whole), c.loop-number.invariant.1, c.loop-number.invariant.2)
    ]
