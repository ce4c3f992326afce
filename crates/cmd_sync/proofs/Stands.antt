-- Where a course has come to, by what the client has come to.
use Rattle.std.proofs.Common.{◌≡◌, ℕ, ◌+◌, Bool, true, false, List, [], ◌∷◌, length, None, refl, sym, ap, ap₂, ◌∙◌, arith}
use Rattle.cl_core.specs.Feeds.{Fed, bytes_step}
use Rattle.cl_core.specs.UserCalls.{dials}
use Rattle.cl_core.specs.Values.{ClientValue, client_step_in, fed_of}
use Rattle.cl_handlers.specs.Clients.{ClientStep}
use Rattle.cl_handlers.specs.Speech.{in_bytes}
use Rattle.cl_handlers.specs.declared.events.ClientOut.{ClientOut}
use Rattle.cmd_sync.specs.declared.script.Step.{Step}
use Rattle.cmd_sync.specs.Courses.{Course, CourseStep, begun, fails_late, goes_on, is_awaiting, quiet, stands, taken, takes, takes_in, with_client_step}
use Rattle.cmd_sync.specs.declared.failure.PeerFailure.{PeerFailure}
use Rattle.cmd_sync.specs.declared.stage.Stage.{Stage}
use Rattle.cmd_sync.specs.declared.stage.Stage.TheVariants.{Awaits, Failed}

-- a course with this client, and what it put
abbrev pub with_client : ClientValue → ClientOut → Stage → List Step → ℕ → CourseStep
with_client client out stage steps total = stands (fed_of client out) stage steps total

pub by_fed : (client : ClientValue) (out : ClientOut) (f : Fed (List ℕ) ℕ) (stage : Stage) (steps : List Step) (total : ℕ) → fed_of client out ≡ f → with_client client out stage steps total ≡ stands f stage steps total
by_fed client out f stage steps total e = ap (λ (g : Fed (List ℕ) ℕ). stands g stage steps total) e

by_parts : (f g : Fed (List ℕ) ℕ) (turn : ClientStep (List ℕ) ℕ) (stage : Stage) (steps : List Step) (total : ℕ) → f.framer ≡ g.framer → f.turn ≡ turn → stands f stage steps total ≡ stands (with_client_step g turn) stage steps total
by_parts f g turn stage steps total framer same = ap₂ (λ fr t. stands (record { framer = fr; turn = t }) stage steps total) framer same

pub by_client_step : (client : ClientValue) (out : ClientOut) (f : Fed (List ℕ) ℕ) (turn : ClientStep (List ℕ) ℕ) (stage : Stage) (steps : List Step) (total : ℕ) → client.framer ≡ f.framer → client_step_in client out ≡ turn
    → with_client client out stage steps total ≡ stands (with_client_step f turn) stage steps total
by_client_step client out f turn stage steps total framer same = by_parts (fed_of client out) f turn stage steps total framer same

pub late_none : (f : Fed (List ℕ) ℕ) (failure : PeerFailure) (total : ℕ) (steps : List Step) → length steps ≡ 0 → goes_on f steps total ≡ fails_late f failure total steps
late_none f failure total [] e = refl
late_none f failure total (step ∷ steps) e = absurd (omega (arith, e))

pub late_some : (f : Fed (List ℕ) ℕ) (failure : PeerFailure) (total : ℕ) (steps : List Step) → (length steps ≡ 0 → ⊥) → stands f (Failed failure) steps total ≡ fails_late f failure total steps
late_some f failure total [] e = absurd (e refl)
late_some f failure total (step ∷ steps) e = refl

takes_are : (awaited : Bool) (c : Course) (piece : List ℕ) → awaited ≡ true → takes_in awaited c piece ≡ taken (bytes_step in_bytes (quiet c.client) piece) c.stage c.steps (c.total + length piece)
takes_are true c piece at = refl
takes_are false c piece at = absurd (bad at)
  where
    bad : false ≡ true → ⊥
    bad h = cc

-- a piece was handed to the client, and was judged
pub take_all : (c : Course) (piece : List ℕ) (first got : Fed (List ℕ) ℕ) (t : CourseStep) → is_awaiting c.stage ≡ true → first ≡ quiet c.client → got ≡ bytes_step in_bytes first piece
    → t ≡ taken got c.stage c.steps (c.total + length piece) → t ≡ takes c piece
take_all c piece first got t at same step judged =
    judged ∙ ap (λ (f : Fed (List ℕ) ℕ). taken f c.stage c.steps (c.total + length piece)) (step ∙ ap (λ (f : Fed (List ℕ) ℕ). bytes_step in_bytes f piece) same)
    ∙ sym (takes_are (is_awaiting c.stage) c piece at)

-- a connection has begun
pub begun_is : (client now : ClientValue) (out : ClientOut) (first : Fed (List ℕ) ℕ) (entropy : List ℕ) (given steps : List Step) → first ≡ quiet client → fed_of now out ≡ dials in_bytes entropy first → given ≡ steps
    → with_client now out (Awaits None) given 0 ≡ begun client entropy steps
begun_is client now out first entropy given steps same dialed all =
    ap₂ (λ (f : Fed (List ℕ) ℕ) (ss : List Step). stands f (Awaits None) ss 0) (dialed ∙ ap (λ (f : Fed (List ℕ) ℕ). dials in_bytes entropy f) same) all
