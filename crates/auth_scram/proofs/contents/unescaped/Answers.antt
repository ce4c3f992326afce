use Rattle.std.proofs.Common.{◌∙◌, sym, ap, get_or, arith, Vec, Global, ℕ}
use Rattle.auth_scram.specs.Values.{name_of}
use Rattle.auth_scram.proofs.Escapes.{begins, plain, ended, inside, comma, equals}
use Rattle.auth_scram.proofs.contents.unescaped.Goals as goal
use Rattle.auth_scram.proofs.contents.unescaped.Goals.{in-0, in-0-2+in_ok-push-in-0-2, in-1+in_ok-push-in-1, then-byte-eq67, else-byte-eq67, in_default}

pub loop-byte-preserved : goal.loop-byte-preserved
loop-byte-preserved c =
    let xs = c.args.spelled.now in
    let i = c.loop-byte.byte-index in
    let front = c.loop-byte.name.items in
    let after = c.match-left.name.items in
    let lt = c.loop-byte-test.true in
    let so_far = c.loop-byte.invariant in
    elim c.match-left.branch [
      | in-0 w ↦
          begins front after xs (name_of xs) c.loop-byte.left i lt so_far c.match-left.left w.if-byte-eq61.true w.in-0.is w.left-is (ap (λ (v : Vec ℕ Global). v.items) w.name-is)
      | in-0-2+in_ok-push-in-0-2 w ↦
          plain front after xs (name_of xs) c.loop-byte.left i lt so_far c.match-left.left w.if-byte-eq61.false w.in-0.is (w.left-is ∙ w.in-0.is)
          (ap (λ (v : Vec ℕ Global). v.items) w.name-is ∙ w.in_ok-push-in-0-2.ensures.items)
      | in-1+in_ok-push-in-1 w ↦
          elim w.if-byte-eq67.branch [
            | then-byte-eq67 v ↦
                ended front after xs (name_of xs) c.loop-byte.left i lt so_far c.match-left.left w.if-byte-eq67.push w.in-1.is w.left-is (v.push-is ∙ sym (comma (get_or xs i 0) v.if-byte-eq67.true))
                (ap (λ (v : Vec ℕ Global). v.items) w.name-is ∙ w.in_ok-push-in-1.ensures.items)
            | else-byte-eq67 v ↦
                ended front after xs (name_of xs) c.loop-byte.left i lt so_far c.match-left.left w.if-byte-eq67.push w.in-1.is w.left-is (v.push-is ∙ sym (equals (get_or xs i 0) v.if-byte-eq67.false))
                (ap (λ (v : Vec ℕ Global). v.items) w.name-is ∙ w.in_ok-push-in-1.ensures.items)
          ]
      | in_default w ↦
          inside front after xs (name_of xs) c.loop-byte.left i lt so_far c.match-left.left (omega arith) (omega arith) w.left-is (ap (λ (v : Vec ℕ Global). v.items) w.name-is)
    ]
