-- A script that came to its closing is done whole.
use Rattle.std.proofs.Common.{◌≡◌, ℕ, ◌+◌, Bool, true, false, cond, List, [], ◌∷◌, ◌++◌, length, Option, Some, None, Result, Ok, Err, refl, sym, ap, ◌∙◌, inl, inr}
use Rattle.std.specs.Prelude.{nat_lt}
use Rattle.std.proofs.lemmas.Bool.{cases_Bool}
use Rattle.cl_core.specs.Feeds.{Fed, bytes_step}
use Rattle.cl_core.specs.UserCalls.{catch_up_answer, say_answer}
use Rattle.cl_core.specs.Values.{ClientValue}
use Rattle.cl_core.specs.declared.faults.CatchUpStart.{CatchUpStart}
use Rattle.cl_core.specs.declared.faults.SayFault.{SayFault}
use Rattle.cl_handlers.specs.Speech.{in_bytes}
use Rattle.cmd_sync.specs.declared.script.Step.{Step}
use Rattle.cmd_sync.specs.declared.script.Step.TheVariants.{Say, CatchUp}
use Rattle.cmd_sync.specs.Courses.{Course, CourseStep, asks_for, begun, done_with, fails_late, further, goes_on, is_awaiting, looks, over, quiet, says_to, seen_in, stands, takes, takes_in}
use Rattle.cmd_sync.specs.Outcomes.{awaited, done_by, done_in, done_over, done_within}
use Rattle.cmd_sync.specs.declared.failure.PeerFailure.{PeerFailure}
use Rattle.cmd_sync.specs.declared.failure.PeerFailure.TheVariants.{NotSaid, NotAsked, TooMuch}
use Rattle.cmd_sync.specs.declared.running.TheConstants.{MOST_RECEIVED}
use Rattle.cmd_sync.specs.declared.seen.Seen.{Seen}
use Rattle.cmd_sync.specs.declared.seen.Seen.TheVariants.{Still, Fails, Does}
use Rattle.cmd_sync.specs.declared.stage.Stage.{Stage}
use Rattle.cmd_sync.specs.declared.stage.Stage.TheVariants.{Awaits, Done, Failed}

-- the steps that are not done
abbrev undone : Course → List Step
undone c = awaited c.stage ++ c.steps

-- What comes of a course that something was awaited in: it failed, or what is left of the steps is what was left without those
-- that are done; and where it is done no step is left.
data Comes (before : List Step) (done : List Step) (c : Course) : Type 0 where
  Fell : (failure : PeerFailure) → c.stage ≡ Failed failure → Comes before done c
  Rest : before ≡ done ++ undone c → (c.stage ≡ Done → c.steps ≡ []) → (is_awaiting c.stage ≡ false → c.stage ≡ Done) → Comes before done c

awaits_comes : (step : Step) (c : Course) (done : List Step) (steps : List Step) → c.stage ≡ Awaits (Some step) → c.steps ≡ steps → Comes (done ++ step ∷ steps) done c
awaits_comes step c done steps at left = Rest
    (ap (λ (ss : List Step). done ++ step ∷ ss) (sym left) ∙ ap (λ (s : Stage). done ++ (awaited s ++ c.steps)) (sym at))
    (λ e. absurd (not_both step (sym at ∙ e)))
    (λ e. absurd (awaiting step (sym (ap is_awaiting at) ∙ e)))
  where
    not_both : (s : Step) → Awaits (Some s) ≡ Done → ⊥
    not_both s h = cc

    awaiting : (s : Step) → true ≡ false → ⊥
    awaiting s h = cc

says_comes : (f : Fed (List ℕ) ℕ) (to text : List ℕ) (steps : List Step) (total : ℕ) (done : List Step) (answer : Result ℕ SayFault)
    → Comes (done ++ Say to text ∷ steps) done (says_to f to text steps total answer).course
says_comes f to text steps total done (Ok n) = awaits_comes (Say to text) _ done steps refl refl
says_comes f to text steps total done (Err fault) = Fell (NotSaid fault) refl

asks_comes : (f : Fed (List ℕ) ℕ) (max : ℕ) (steps : List Step) (total : ℕ) (done : List Step) (answer : Result (Unit {0}) CatchUpStart)
    → Comes (done ++ CatchUp max ∷ steps) done (asks_for f max steps total answer).course
asks_comes f max steps total done (Ok given) = awaits_comes (CatchUp max) _ done steps refl refl
asks_comes f max steps total done (Err fault) = Fell (NotAsked fault) refl

goes_comes : (f : Fed (List ℕ) ℕ) (steps : List Step) (total : ℕ) (done : List Step) → Comes (done ++ steps) done (goes_on f steps total).course
goes_comes f [] total done = Rest refl (λ e. refl) (λ e. refl)
goes_comes f (Say to text ∷ steps) total done = says_comes f to text steps total done (say_answer f.turn.client text)
goes_comes f (CatchUp max ∷ steps) total done = asks_comes f max steps total done (catch_up_answer f.turn.client)

late_comes : (f : Fed (List ℕ) ℕ) (failure : PeerFailure) (steps : List Step) (total : ℕ) (done : List Step) → Comes (done ++ steps) done (fails_late f failure total steps).course
late_comes f failure [] total done = goes_comes f [] total done
late_comes f failure (step ∷ steps) total done = Fell failure refl

done_comes : (f : Fed (List ℕ) ℕ) (steps : List Step) (total : ℕ) (late : Option PeerFailure) (done : List Step) → Comes (done ++ steps) done (done_with f steps total late).course
done_comes f steps total None done = goes_comes f steps total done
done_comes f steps total (Some failure) done = late_comes f failure steps total done

looks_comes : (f : Fed (List ℕ) ℕ) (stage : Stage) (steps : List Step) (total : ℕ) (seen : Seen) → is_awaiting stage ≡ true → Comes (awaited stage ++ steps) (done_by stage seen) (looks f stage steps total seen).course
looks_comes f stage steps total Still at = Rest refl (λ e. absurd (awaits_not_done stage at e)) (λ e. absurd (both (sym at ∙ e)))
  where
    awaits_not_done : (s : Stage) → is_awaiting s ≡ true → s ≡ Done → ⊥
    awaits_not_done (Awaits step) h e = cc
    awaits_not_done Done h e = cc
    awaits_not_done (Failed failure) h e = cc

    both : true ≡ false → ⊥
    both h = cc
looks_comes f stage steps total (Fails failure) at = Fell failure refl
looks_comes f stage steps total (Does late) at = done_comes f steps total late (awaited stage)

if_comes : (over : Bool) (before done : List Step) (x y : CourseStep) (failure : PeerFailure) → x.course.stage ≡ Failed failure → Comes before done y.course
    → Comes before (cond over [] done) (cond over x y).course
if_comes true before done x y failure fell comes = Fell failure fell
if_comes false before done x y failure fell comes = comes

takes_comes : (awaiting : Bool) (c : Course) (piece : List ℕ) → is_awaiting c.stage ≡ awaiting → awaiting ≡ true → Comes (undone c) (done_within awaiting c piece) (takes_in awaiting c piece).course
takes_comes true c piece at e =
    let f : Fed (List ℕ) ℕ = bytes_step in_bytes (quiet c.client) piece in
    let total : ℕ = c.total + length piece in
    if_comes (nat_lt MOST_RECEIVED total) (undone c) (done_by c.stage (seen_in f c.stage)) (stands f (Failed TooMuch) c.steps total)
    (looks f c.stage c.steps total (seen_in f c.stage)) TooMuch refl (looks_comes f c.stage c.steps total (seen_in f c.stage) at)
takes_comes false c piece at e = absurd (bad e)
  where
    bad : false ≡ true → ⊥
    bad h = cc

-- ---- all pieces

-- where nothing is awaited, no piece changes anything
still_takes : (awaiting : Bool) (c : Course) (piece : List ℕ) → awaiting ≡ false → (takes_in awaiting c piece).course ≡ c
still_takes false c piece e = refl
still_takes true c piece e = absurd (bad e)
  where
    bad : true ≡ false → ⊥
    bad h = cc

still_done : (awaiting : Bool) (c : Course) (piece : List ℕ) → awaiting ≡ false → done_within awaiting c piece ≡ []
still_done false c piece e = refl
still_done true c piece e = absurd (bad e)
  where
    bad : true ≡ false → ⊥
    bad h = cc

abbrev at_end : Course → List (List ℕ) → Course
at_end c [] = c
at_end c (piece ∷ pieces) = at_end (takes c piece).course pieces

over_end : (t : CourseStep) (pieces : List (List ℕ)) → (over t pieces).course ≡ at_end t.course pieces
over_end t [] = refl
over_end t (piece ∷ pieces) = over_end (further t piece) pieces

still_end : (c : Course) (pieces : List (List ℕ)) → is_awaiting c.stage ≡ false → at_end c pieces ≡ c
still_end c [] e = refl
still_end c (piece ∷ pieces) e =
    let same : (takes c piece).course ≡ c = still_takes (is_awaiting c.stage) c piece e in
    ap (λ (d : Course). at_end d pieces) same ∙ still_end c pieces e

still_over : (c : Course) (pieces : List (List ℕ)) → is_awaiting c.stage ≡ false → done_over c pieces ≡ []
still_over c [] e = refl
still_over c (piece ∷ pieces) e =
    let same : (takes c piece).course ≡ c = still_takes (is_awaiting c.stage) c piece e in
    let none : done_in c piece ≡ [] = still_done (is_awaiting c.stage) c piece e in
    ap (λ (steps : List Step). steps ++ done_over (takes c piece).course pieces) none ∙ ap (λ (d : Course). done_over d pieces) same ∙ still_over c pieces e

not_fallen : (s : Stage) (failure : PeerFailure) → s ≡ Failed failure → s ≡ Done → ⊥
not_fallen s failure e h = cc

bad_test : true ≡ false → ⊥
bad_test h = cc

-- behind a piece, where what comes is done whole
comes_whole : (before done : List Step) (c : Course) (pieces : List (List ℕ)) → (is_awaiting c.stage ≡ true → done_over c pieces ≡ undone c) → Comes before done c → (at_end c pieces).stage ≡ Done → done ++ done_over c pieces ≡ before
comes_whole before done c pieces again (Fell failure at) e =
    let apart : is_awaiting c.stage ≡ false = ap is_awaiting at in
    absurd (not_fallen c.stage failure at (ap (λ (d : Course). d.stage) (sym (still_end c pieces apart)) ∙ e))
comes_whole before done c pieces again (Rest is none over) e =
    elim (cases_Bool (is_awaiting c.stage)) [
      | inl at ↦ ap (λ (steps : List Step). done ++ steps) (again at) ∙ sym is
      | inr apart ↦
          let closed : c.stage ≡ Done = over apart in
          let nothing : undone c ≡ [] = ap (λ (s : Stage). awaited s ++ c.steps) closed ∙ none closed in
          ap (λ (steps : List Step). done ++ steps) (still_over c pieces apart ∙ sym nothing) ∙ sym is
    ]

-- from a course in which something is awaited to the closing
done_whole : (c : Course) (pieces : List (List ℕ)) → is_awaiting c.stage ≡ true → (at_end c pieces).stage ≡ Done → done_over c pieces ≡ undone c
done_whole c [] at e = absurd (bad_test (sym at ∙ ap is_awaiting e))
done_whole c (piece ∷ pieces) at e =
    comes_whole (undone c) (done_in c piece) (takes c piece).course pieces (λ still. done_whole (takes c piece).course pieces still e) (takes_comes (is_awaiting c.stage) c piece refl at) e

pub script_whole : (client : ClientValue) (entropy : List ℕ) (steps : List Step) (pieces : List (List ℕ))
    → (over (begun client entropy steps) pieces).course.stage ≡ Done → done_over (begun client entropy steps).course pieces ≡ steps
script_whole client entropy steps pieces e =
    done_whole (begun client entropy steps).course pieces refl (ap (λ (c : Course). c.stage) (sym (over_end (begun client entropy steps) pieces)) ∙ e)
