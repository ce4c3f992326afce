-- How many bytes came.
use Rattle.std.proofs.Common.{◌≡◌, ℕ, ◌+◌, ◌≤◌, Bool, true, false, cond, List, [], ◌∷◌, length, Option, Some, None, Result, Ok, Err, refl, sym, ap, ◌∙◌, arith}
use Rattle.std.specs.Prelude.{nat_lt}
use Rattle.std.proofs.lemmas.Bool.{false≢true}
use Rattle.std.proofs.lemmas.Bool.Decides.{nat_tests}
use Rattle.cl_core.specs.Feeds.{Fed, bytes_step}
use Rattle.cl_core.specs.UserCalls.{catch_up_answer, say_answer}
use Rattle.cl_core.specs.declared.faults.CatchUpStart.{CatchUpStart}
use Rattle.cl_core.specs.declared.faults.SayFault.{SayFault}
use Rattle.cl_handlers.specs.Speech.{in_bytes}
use Rattle.cmd_sync.specs.declared.script.Step.{Step}
use Rattle.cmd_sync.specs.declared.script.Step.TheVariants.{Say, CatchUp}
use Rattle.cmd_sync.specs.Courses.{Course, CourseStep, asks_for, done_with, fails_late, goes_on, is_awaiting, looks, quiet, says_to, seen_in, stands, taken, takes, takes_in}
use Rattle.cmd_sync.specs.declared.failure.PeerFailure.{PeerFailure}
use Rattle.cmd_sync.specs.declared.failure.PeerFailure.TheVariants.{TooMuch}
use Rattle.cmd_sync.specs.declared.running.TheConstants.{MOST_RECEIVED}
use Rattle.cmd_sync.specs.declared.seen.Seen.{Seen}
use Rattle.cmd_sync.specs.declared.seen.Seen.TheVariants.{Still, Fails, Does}
use Rattle.cmd_sync.specs.declared.stage.Stage.{Stage}
use Rattle.cmd_sync.specs.declared.stage.Stage.TheVariants.{Failed}

says_total : (f : Fed (List ℕ) ℕ) (to text : List ℕ) (steps : List Step) (total : ℕ) (answer : Result ℕ SayFault) → (says_to f to text steps total answer).course.total ≡ total
says_total f to text steps total (Ok n) = refl
says_total f to text steps total (Err fault) = refl

asks_total : (f : Fed (List ℕ) ℕ) (max : ℕ) (steps : List Step) (total : ℕ) (answer : Result (Unit {0}) CatchUpStart) → (asks_for f max steps total answer).course.total ≡ total
asks_total f max steps total (Ok done) = refl
asks_total f max steps total (Err fault) = refl

goes_total : (f : Fed (List ℕ) ℕ) (steps : List Step) (total : ℕ) → (goes_on f steps total).course.total ≡ total
goes_total f [] total = refl
goes_total f (Say to text ∷ steps) total = says_total f to text steps total (say_answer f.turn.client text)
goes_total f (CatchUp max ∷ steps) total = asks_total f max steps total (catch_up_answer f.turn.client)

late_total : (f : Fed (List ℕ) ℕ) (failure : PeerFailure) (steps : List Step) (total : ℕ) → (fails_late f failure total steps).course.total ≡ total
late_total f failure [] total = refl
late_total f failure (step ∷ steps) total = refl

done_total : (f : Fed (List ℕ) ℕ) (steps : List Step) (total : ℕ) (late : Option PeerFailure) → (done_with f steps total late).course.total ≡ total
done_total f steps total None = goes_total f steps total
done_total f steps total (Some failure) = late_total f failure steps total

looks_total : (f : Fed (List ℕ) ℕ) (stage : Stage) (steps : List Step) (total : ℕ) (seen : Seen) → (looks f stage steps total seen).course.total ≡ total
looks_total f stage steps total Still = refl
looks_total f stage steps total (Fails failure) = refl
looks_total f stage steps total (Does late) = done_total f steps total late

-- all is counted, and where something is awaited still it is within the bound
record IsCounted (total : ℕ) (t : CourseStep) : Type 0 where
  counted : t.course.total ≡ total
  bound : is_awaiting t.course.stage ≡ true → total ≤ MOST_RECEIVED

if_counted : (over : Bool) (total : ℕ) (x y : CourseStep) → x.course.total ≡ total → is_awaiting x.course.stage ≡ false → y.course.total ≡ total → (over ≡ false → total ≤ MOST_RECEIVED) → IsCounted total (cond over x y)
if_counted true total x y xt failed yt within = record { counted = xt; bound = λ e. absurd (false≢true (sym_of failed e)) }
  where
    sym_of : {b : Bool} → b ≡ false → b ≡ true → false ≡ true
    sym_of e f = cc (e, f)
if_counted false total x y xt failed yt within = record { counted = yt; bound = λ e. within refl }

taken_counted : (f : Fed (List ℕ) ℕ) (stage : Stage) (steps : List Step) (total : ℕ) → IsCounted total (taken f stage steps total)
taken_counted f stage steps total =
    if_counted (nat_lt MOST_RECEIVED total) total (stands f (Failed TooMuch) steps total) (looks f stage steps total (seen_in f stage)) refl refl
    (looks_total f stage steps total (seen_in f stage)) (λ e. grind (arith, nat_tests))

takes_counted : (awaited : Bool) (c : Course) (piece : List ℕ) → awaited ≡ true → IsCounted (c.total + length piece) (takes_in awaited c piece)
takes_counted true c piece e = taken_counted (bytes_step in_bytes (quiet c.client) piece) c.stage c.steps (c.total + length piece)
takes_counted false c piece e = absurd (false≢true e)

pub takes_total : (c : Course) (piece : List ℕ) → is_awaiting c.stage ≡ true → (takes c piece).course.total ≡ c.total + length piece
takes_total c piece e = (takes_counted (is_awaiting c.stage) c piece e).counted

pub takes_bound : (c : Course) (piece : List ℕ) → is_awaiting c.stage ≡ true → is_awaiting (takes c piece).course.stage ≡ true → c.total + length piece ≤ MOST_RECEIVED
takes_bound c piece e still = (takes_counted (is_awaiting c.stage) c piece e).bound still

-- behind a piece
pub round_few : (c d : Course) (piece : List ℕ) → is_awaiting c.stage ≡ true → d ≡ (takes c piece).course → is_awaiting d.stage ≡ true → d.total ≤ MOST_RECEIVED
round_few c d piece at same still =
    let counted : d.total ≡ c.total + length piece = ap (λ (x : Course). x.total) same ∙ takes_total c piece at in
    let bound : c.total + length piece ≤ MOST_RECEIVED = takes_bound c piece at (ap (λ (x : Course). is_awaiting x.stage) (sym same) ∙ still) in
    omega (arith, counted, bound)
