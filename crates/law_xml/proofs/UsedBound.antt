-- A byte counts for one at most of what is compared with the limit on bytes.
use Rattle.std.proofs.Common.{◌≡◌, ℕ, ◌+◌, ◌≤◌, arith, subst, Bool, true, false, ◌==◌, if◌then◌else◌, List, [], ◌∷◌, None, length, sym}
use Rattle.xml_framer.specs.Machine.{run, step}
use Rattle.xml_framer.specs.States.{Turn, counted, moved, next_position}
use Rattle.law_xml.proofs.CountLaws.{takes}
use Rattle.law_xml.proofs.FaultLaws.{goes}
use Rattle.law_xml.proofs.RunPositions.{no_fault_before, taken_used}
use Rattle.law_xml.specs.FaultRows.{Takes}

step_used : (t : Turn) (b : ℕ) → Takes t.state t.state.lexical.mode b → (step t b).state.positions.used ≤ t.state.positions.used + 1
step_used t b k =
    let u = moved t (counted t.state) in
    let there = taken_used t.state.lexical.mode u b (t.state.positions.used + 1) (omega arith) (counted_used (t.state.positions.used == 0) t.state.positions.used) in
    subst (λ (v : Turn). v.state.positions.used ≤ t.state.positions.used + 1) (sym (goes t t.state.lexical.mode b k)) there
  where
    counted_used : (c : Bool) (n : ℕ) → (if c then 0 else next_position n) ≤ n + 1
    counted_used true n = omega arith
    counted_used false n = omega arith

pub run_used : (bs : List ℕ) (t : Turn) → (run t bs).state.fault ≡ None → (run t bs).state.positions.used ≤ t.state.positions.used + length bs
run_used [] t none = omega arith
run_used (b ∷ bs) t none =
    let first = no_fault_before (step t b) bs none in
    let one_more = step_used t b (takes t b first) in
    let rest = run_used bs (step t b) none in
    omega (arith, one_more, rest)
