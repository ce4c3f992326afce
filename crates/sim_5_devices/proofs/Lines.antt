-- The lines of stanzas: of those that are acknowledged, and of those that aren't; and of submissions in another state.
use Rattle.std.proofs.Common.{◌≡◌, ℕ, zero, suc, ◌-◌, true, List, [], ◌∷◌, ◌++◌, map, length, take, drop, refl, ap, ap₂, ◌∙◌, arith, if◌then◌else◌}
use Rattle.std.proofs.lemmas.Bool.{lt-ltb}
use Rattle.std.specs.Prelude.{nat_lt}
use Rattle.cmd_network.specs.DeviceLines as device
use Rattle.sm_outbox.specs.Submissions.{in_state}
use Rattle.sm_outbox.specs.Waiting.{count_true}
use Rattle.sm_outbox.specs.declared.said.Said.{Said}
use Rattle.sm_outbox.specs.declared.said.SaidState.{SaidState}
use Rattle.cmd_report.specs.declared.report.SaidLine.{SaidLine}
use Rattle.cmd_report.specs.declared.report.SaidMark.{SaidMark}
use Rattle.cmd_report.specs.declared.report.SaidMark.TheVariants.{Acknowledged}
use Rattle.sim_3_items.specs.Submitted.{is_message}
use Rattle.sim_1_applications.specs.Stanzas.{Carbons, Message, Presence, Query, Submission, Up, messages}
use Rattle.sim_1_applications.specs.Reported.{said_among, said_line}

abbrev pub lines : List Said → List SaidLine
lines said = map device.said_line said

abbrev pub lines_as : SaidMark → List Up → List SaidLine
lines_as mark zs = map (said_line mark) (messages zs)

-- nothing is acknowledged
none_acknowledged : (mark : SaidMark) (zs : List Up) → said_among 0 mark zs ≡ lines_as mark zs
none_acknowledged mark [] = refl
none_acknowledged mark (Carbons ∷ zs) = none_acknowledged mark zs
none_acknowledged mark (Presence ∷ zs) = none_acknowledged mark zs
none_acknowledged mark (Query r ∷ zs) = none_acknowledged mark zs
none_acknowledged mark (Message m ∷ zs) = ap (λ ls. said_line mark m ∷ ls) (none_acknowledged mark zs)

-- the first so many are
pub two_parts : (acked : ℕ) (mark : SaidMark) (zs : List Up) → said_among acked mark zs ≡ lines_as Acknowledged (take acked zs) ++ lines_as mark (drop acked zs)
two_parts zero mark zs = none_acknowledged mark zs
two_parts (suc k) mark [] = refl
two_parts (suc k) mark (Carbons ∷ zs) = ap (λ a. said_among a mark zs) (let e : suc k - 1 ≡ k = omega arith in e) ∙ two_parts k mark zs
two_parts (suc k) mark (Presence ∷ zs) = ap (λ a. said_among a mark zs) (let e : suc k - 1 ≡ k = omega arith in e) ∙ two_parts k mark zs
two_parts (suc k) mark (Query r ∷ zs) = ap (λ a. said_among a mark zs) (let e : suc k - 1 ≡ k = omega arith in e) ∙ two_parts k mark zs
two_parts (suc k) mark (Message m ∷ zs) =
    ap₂ (λ b ls. said_line (if b then Acknowledged else mark) m ∷ ls) (let e : nat_lt 0 (suc k) ≡ true = lt-ltb 0 (suc k) (omega arith) in e)
    (ap (λ a. said_among a mark zs) (let e : suc k - 1 ≡ k = omega arith in e) ∙ two_parts k mark zs)

-- how many of them are submissions
pub as_many : (zs : List Up) → count_true (map is_message zs) ≡ length (messages zs)
as_many [] = refl
as_many (Carbons ∷ zs) = as_many zs
as_many (Presence ∷ zs) = as_many zs
as_many (Query r ∷ zs) = as_many zs
as_many (Message m ∷ zs) = let rest = as_many zs in omega (arith, rest)

-- ---- in another state

abbrev pub marked : SaidMark → SaidLine → SaidLine
marked mark l = record l { state = mark }

pub lines_in : (state : SaidState) (said : List Said) → lines (map (in_state state) said) ≡ map (marked (device.mark_of state)) (lines said)
lines_in state [] = refl
lines_in state (s ∷ said) = ap (λ ls. marked (device.mark_of state) (device.said_line s) ∷ ls) (lines_in state said)

pub marked_lines : (old new : SaidMark) (ms : List Submission) → map (marked new) (map (said_line old) ms) ≡ map (said_line new) ms
marked_lines old new [] = refl
marked_lines old new (m ∷ ms) = ap (λ ls. said_line new m ∷ ls) (marked_lines old new ms)
