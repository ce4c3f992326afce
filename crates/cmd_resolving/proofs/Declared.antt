-- The lines that a file of intents stands for declare what its own lines declare.
use Rattle.std.proofs.Common.{◌≡◌, ℕ, zero, suc, ◌+◌, Bool, true, false, cond, List, [], ◌∷◌, ◌++◌, Option, Some, None, map, refl, sym, ap, ap₂, ◌∙◌}
use Rattle.std.specs.List.{slice_get}
use Rattle.std.proofs.lemmas.List.{map-append}
use Rattle.base_io.specs.Names.{position_of}
use Rattle.cl_intents.specs.Intents.{IntentsView}
use Rattle.cl_intents.specs.declared.intents.Intent.{Intent as OneIntent}
use Rattle.cl_intents.specs.declared.intents.Next.{Next}
use Rattle.cl_intents.specs.declared.intents.Next.TheVariants as next
use Rattle.cmd_schedule.specs.Contents.{Owned, account_name, owned_at}
use Rattle.cmd_schedule.specs.declared.schedule.Step.{Step}
use Rattle.cmd_schedule.specs.declared.schedule.Step.TheVariants.{Account, Device, Say, Private, Catchup, Tick}
use Rattle.cmd_schedule.specs.declared.schedule.WireLine.{WireLine}
use Rattle.cmd_schedule.specs.declared.schedule.WireStep.{WireStep}
use Rattle.cmd_schedule.specs.declared.schedule.WireStep.TheVariants.{Common, Dial, Forget, Close, Up, Down, Cut, Pass, Run}
use Rattle.cmd_world.specs.Histories.{world_at_start, world_of}
use Rattle.cmd_world.specs.Lines.{all_stepped}
use Rattle.cmd_world.proofs.Gathered.{gathered, gathered_append, made}
use Rattle.cmd_resolving.specs.Expansion.{Asked, RunLine, Watching, all_lines, as_schedule, asked_by_intent, asked_by_resolve, begun, count_at, done, expand, first_submission, gone, intent_in, intent_of, is_number_among, is_try, lines_by, lines_of, next_at, resolve_of, resolved, say_line, submission, submission_and_on, try_of, wanted, watched_end, watching_at_start}
use Rattle.cmd_intents.specs.Files.{FileView}
use Rattle.cmd_resolving.proofs.Expanded.{expanded_world, line_in}

-- steps of users declare nothing
record IsOfDeclared (A : Type 0) (give : Step → List A) : Type 0 where
  says : (device to text : List ℕ) → give (Say device to text) ≡ []
  asks : (device : List ℕ) (most : ℕ) → give (Catchup device most) ≡ []

module _ {A : Type 0} (give : Step → List A) (of : IsOfDeclared A give) where
  nothing_of : (line : WireLine) (step : Step) → line.step ≡ Common step → give step ≡ [] → gathered give (line ∷ []) ≡ []
  nothing_of line step is none = ap (λ st. gathered give (record { number = line.number; step = st } ∷ [])) is ∙ ap (λ l. l ++ []) none

  caught_up : (n : ℕ) (device : List ℕ) (most : ℕ) → gathered give (record { number = n; step = Common (Catchup device most) } ∷ []) ≡ []
  caught_up n device most = ap (λ l. l ++ []) (of.asks device most)

  -- one turn of a resolve line, where those after it declare nothing
  turn_none : (n : ℕ) (device : List ℕ) (index most : ℕ) (more : Watching → List RunLine) (s : Watching) → ((after : Watching) → gathered give (map line_in (more after)) ≡ []) → (x : Next)
      → gathered give (map line_in (wanted n device index most more s x)) ≡ []
  turn_none n device index most more s rest next.CatchUp = caught_up n device most
  turn_none n device index most more s rest next.Rest = refl
  turn_none n device index most more s rest (next.Submit k) = submitted (intent_in index k s.intents)
    where
      if_accepted : (b : Bool) (after : Watching) → gathered give (map line_in (cond b (more after) [])) ≡ []
      if_accepted true after = rest after
      if_accepted false after = refl

      submitted : (o : Option OneIntent) → gathered give (map line_in (submission_and_on n device index more s k o)) ≡ []
      submitted None = refl
      submitted (Some i) =
          let line = say_line n device i.to i.text in
          let after = done (submission line index k) s in
          ap (λ l. l ++ gathered give (map line_in (cond (is_try (try_of line index s.world)) (more after) []))) (of.says device i.to i.text)
          ∙ if_accepted (is_try (try_of line index s.world)) after

  resolved_none : (left n : ℕ) (device : List ℕ) (index most : ℕ) (s : Watching) → gathered give (map line_in (resolved left n device index most s)) ≡ []
  resolved_none zero n device index most s = refl
  resolved_none (suc left) n device index most s = turn_none n device index most (resolved left n device index most) s (λ after. resolved_none left n device index most after) (next_at index s)

  -- what a line asks for declares what the line does
  abbrev IsSame : WireLine → Watching → Asked → Type 0
  IsSame line s a = gathered give (map line_in (lines_by a line (begun a s))) ≡ gathered give (line ∷ [])

  intent_same : (line : WireLine) (s : Watching) (step : WireStep) → line.step ≡ step → IsSame line s (asked_by_intent s.world.names step)
  intent_same line s (Common (Say device to text)) is = by_position (position_of device s.world.names)
    where
      by_position : (p : Option ℕ) → IsSame line s (intent_of to text p)
      by_position None = sym (nothing_of line (Say device to text) is (of.says device to text))
      by_position (Some index) = by_view (slice_get (begun (Asked.NewIntent index to text) s).intents index)
        where
          by_view : (o : Option IntentsView) → gathered give (map line_in (first_submission line index o)) ≡ gathered give (line ∷ [])
          by_view None = sym (nothing_of line (Say device to text) is (of.says device to text))
          by_view (Some v) = refl
  intent_same line s (Common (Account name)) is = refl
  intent_same line s (Common (Device name account)) is = refl
  intent_same line s (Common (Private device to text)) is = refl
  intent_same line s (Common (Catchup device most)) is = refl
  intent_same line s (Common (Tick ms)) is = refl
  intent_same line s (Dial device) is = refl
  intent_same line s (Forget device) is = refl
  intent_same line s (Close device) is = refl
  intent_same line s (Up conn count) is = refl
  intent_same line s (Down conn count) is = refl
  intent_same line s (Cut conn up down) is = refl
  intent_same line s (Pass conn times) is = refl
  intent_same line s (Run times) is = refl

  resolve_same : (line : WireLine) (s : Watching) (step : WireStep) → line.step ≡ step → IsSame line s (asked_by_resolve s.world.names step)
  resolve_same line s (Common (Catchup device most)) is = by_position (position_of device s.world.names)
    where
      by_position : (p : Option ℕ) → IsSame line s (resolve_of device most p)
      by_position None = sym (nothing_of line (Catchup device most) is (of.asks device most))
      by_position (Some index) =
          resolved_none (count_at index s.intents + 1) line.number device index most s ∙ sym (nothing_of line (Catchup device most) is (of.asks device most))
  resolve_same line s (Common (Account name)) is = refl
  resolve_same line s (Common (Device name account)) is = refl
  resolve_same line s (Common (Say device to text)) is = refl
  resolve_same line s (Common (Private device to text)) is = refl
  resolve_same line s (Common (Tick ms)) is = refl
  resolve_same line s (Dial device) is = refl
  resolve_same line s (Forget device) is = refl
  resolve_same line s (Close device) is = refl
  resolve_same line s (Up conn count) is = refl
  resolve_same line s (Down conn count) is = refl
  resolve_same line s (Cut conn up down) is = refl
  resolve_same line s (Pass conn times) is = refl
  resolve_same line s (Run times) is = refl

  line_same : (f : FileView) (line : WireLine) (s : Watching) → gathered give (map line_in (lines_of f line s)) ≡ gathered give (line ∷ [])
  line_same f line s = by_both (is_number_among line.number f.intents) (is_number_among line.number f.resolves)
    where
      by_both : (b c : Bool) → IsSame line s (cond b (asked_by_intent s.world.names line.step) (cond c (asked_by_resolve s.world.names line.step) Asked.Plain))
      by_both true c = intent_same line s line.step refl
      by_both false true = resolve_same line s line.step refl
      by_both false false = refl

  all_same : (f : FileView) (lines : List WireLine) (s : Watching) → gathered give (map line_in (all_lines f lines s)) ≡ gathered give lines
  all_same f [] s = refl
  all_same f (line ∷ lines) s =
      let first = lines_of f line s in
      let rest = all_lines f lines (gone f line s) in
      ap (gathered give) (map-append line_in first rest)
      ∙ gathered_append give (map line_in first) (map line_in rest)
      ∙ ap (λ l. l ++ gathered give (map line_in rest)) (line_same f line s)
      ∙ ap (λ l. gathered give (line ∷ []) ++ l) (all_same f lines (gone f line s))
      ∙ sym (gathered_append give (line ∷ []) lines)

accounts_of_declared : IsOfDeclared (List ℕ) account_name
accounts_of_declared = record { says = λ device to text. refl; asks = λ device most. refl }

owned_of_declared : IsOfDeclared Owned owned_at
owned_of_declared = record { says = λ device to text. refl; asks = λ device most. refl }

-- the same accounts and devices are there at the start
pub start_same : (f : FileView) → world_at_start (as_schedule f) ≡ world_at_start f.schedule
unfolding expand
start_same f =
    let lines = f.schedule.lines in
    let s = watching_at_start f in
    ap₂ (made f.schedule.version) (all_same account_name accounts_of_declared f lines s) (all_same owned_at owned_of_declared f lines s)

pub expanded_is_run : (f : FileView) → (watched_end f).world ≡ world_of (as_schedule f)
unfolding world_of
expanded_is_run f = expanded_world f ∙ ap (all_stepped (expand f)) (sym (start_same f))
