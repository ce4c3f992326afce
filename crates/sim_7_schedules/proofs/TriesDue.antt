-- The lines of a run that submit intents submit those that are due: an intent that has no try, or whose last one is absent.
use Rattle.std.proofs.Common.{◌≡◌, ◌⊎◌, ℕ, zero, suc, ◌+◌, ◌-◌, Bool, true, false, cond, List, [], ◌∷◌, ◌++◌, Option, Some, None, length, refl, sym, ap, ◌∙◌, subst, arith, inl, inr}
use Rattle.std.proofs.lemmas.Bool.{false≢true}
use Rattle.std.proofs.lemmas.List.{length-append}
use Rattle.std.proofs.lemmas.Option.{none-some, same_Some}
use Rattle.std.specs.List.{slice_get}
use Rattle.std.specs.Option.{option_and_then, option_map, option_map_or}
use Rattle.base_io.specs.Names.{position_of}
use Rattle.cl_handlers.specs.Clients.{ClientView}
use Rattle.cl_intents.specs.Intents.{IntentsView, first_due, intent_state, intent_under, is_due, last_try, new_intent, next_by, some_undecided, with_intent}
use Rattle.cl_intents.specs.States.{state_of}
use Rattle.cl_intents.specs.declared.intents.Intent.{Intent}
use Rattle.cl_intents.specs.declared.intents.Next.{Next}
use Rattle.cl_intents.specs.declared.intents.Next.TheVariants as next
use Rattle.cl_intents.specs.declared.intents.Try.{Try}
use Rattle.cl_intents.specs.declared.states.IntentState.{IntentState}
use Rattle.cl_intents.specs.declared.states.IntentState.TheVariants as state
use Rattle.cmd_intents.specs.Files.{FileView}
use Rattle.cmd_network.specs.Devices.{DeviceState}
use Rattle.cmd_network.specs.Positions.{changed_at}
use Rattle.cmd_resolving.specs.Expansion.{Asked, RunLine, Submitted, Watching, asked_by_intent, asked_by_resolve, begun, count_at, done, first_submission, gone, intent_in, intent_of, is_number_among, is_try, asked, lines_by, lines_of, next_at, next_where, resolve_of, resolved, say_line, submission, submission_and_on, try_of, wanted}
use Rattle.cmd_resolving.proofs.Expanded.{done_world}
use Rattle.cmd_schedule.specs.declared.schedule.Step.TheVariants as step
use Rattle.cmd_schedule.specs.declared.schedule.WireLine.{WireLine}
use Rattle.cmd_schedule.specs.declared.schedule.WireStep.{WireStep}
use Rattle.cmd_schedule.specs.declared.schedule.WireStep.TheVariants as wire
use Rattle.cmd_world.specs.Lines.{moves_of}
use Rattle.sim_7_schedules.proofs.QuietMoves.{names_stay}

-- ---- a line that submits an intent

-- it has no try, or what is known of its last one is that it is absent
abbrev pub IsOpen : Option DeviceState → IntentsView → Intent → Type 0
IsOpen None v x = x.tries.items ≡ []
IsOpen (Some d) v x = (x.tries.items ≡ []) ⊎ (intent_state v.full v.sure d.client.client x ≡ state.Absent)

-- the line is the message of an intent that is open
pub record IsDue (at : Submitted) (line : WireLine) (s : Watching) : Type 0 where
  pub view : IntentsView
  pub of : slice_get s.intents at.device ≡ Some view
  pub intent : Intent
  pub is : intent_under at.intent view.intents ≡ Some intent
  pub name : List ℕ
  pub says : line.step ≡ wire.Common (step.Say name intent.to intent.text)
  pub named : position_of name s.world.names ≡ Some at.device
  pub open_there : IsOpen (slice_get s.world.devices at.device) view intent

abbrev pub IsDueAt : Option Submitted → WireLine → Watching → Type 0
IsDueAt None line s = Unit {0}
IsDueAt (Some at) line s = IsDue at line s

abbrev pub AreDue : List RunLine → Watching → Type 0
AreDue [] s = Unit {0}
AreDue (l ∷ ls) s = IsDueAt l.submits l.line s × AreDue ls (done l s)

abbrev pub AreAllDue : FileView → List WireLine → Watching → Type 0
AreAllDue f [] s = Unit {0}
AreAllDue f (line ∷ lines) s = AreDue (lines_of f line s) (begun (asked f s.world.names line) s) × AreAllDue f lines (gone f line s)

-- ---- lists

changed_there : {T : Type 0} (k : ℕ) (f : T → T) (xs : List T) → slice_get (changed_at k f xs) k ≡ option_map f (slice_get xs k)
changed_there zero f [] = refl
changed_there (suc k) f [] = refl
changed_there zero f (x ∷ xs) = refl
changed_there (suc k) f (x ∷ xs) = changed_there k f xs

mapped : {A B : Type 0} (f : A → B) (o : Option A) (b : B) → option_map f o ≡ Some b → (a : A) × (f a ≡ b)
mapped f None b is = absurd (none-some b is)
mapped f (Some a) b is = (a, same_Some (f a) b is)

last_there : {T : Type 0} (xs : List T) (x : T) → slice_get (xs ++ x ∷ []) (length xs) ≡ Some x
last_there [] x = refl
last_there (y ∷ xs) x = last_there xs x

newest_there : (to text : List ℕ) (v : IntentsView) → intent_under (length (with_intent to text v).intents) (with_intent to text v).intents ≡ Some (new_intent to text)
newest_there to text v =
    let many : length (v.intents ++ new_intent to text ∷ []) ≡ suc (length v.intents) = length-append v.intents (new_intent to text ∷ []) ∙ (let one : length v.intents + 1 ≡ suc (length v.intents) = omega arith in one) in
    ap (λ k. intent_under k (v.intents ++ new_intent to text ∷ [])) many ∙ last_there v.intents (new_intent to text)

-- ---- what is due

some_last : (t : Try) (ts : List Try) → (u : Try) × (last_try (t ∷ ts) ≡ Some u)
some_last t [] = (t, refl)
some_last t (u ∷ ts) =
    let rest = some_last u ts in
    let index : length (t ∷ u ∷ ts) - 1 ≡ suc (length (u ∷ ts) - 1) = omega arith in
    (rest.0, ap (slice_get (t ∷ u ∷ ts)) index ∙ rest.1)

never_fresh : (a b c d : Bool) → cond a state.Done (cond b state.Waiting (cond c state.Undecided (cond d state.Unsure state.Absent))) ≡ state.Fresh → ⊥
never_fresh true b c d is = cc
never_fresh false true c d is = cc
never_fresh false false true d is = cc
never_fresh false false false true is = cc
never_fresh false false false false is = cc

module _ (full : List ℕ) (sure : ℕ) (c : ClientView (List ℕ)) where
  known_state : (u : Try) → state_of full sure c u ≡ state.Fresh → ⊥
  known_state u is = never_fresh _ _ _ _ is

  due_state : (x : Intent) (st : IntentState) → intent_state full sure c x ≡ st → is_due st ≡ true → (intent_state full sure c x ≡ state.Fresh) ⊎ (intent_state full sure c x ≡ state.Absent)
  due_state x state.Fresh is due = inl is
  due_state x state.Absent is due = inr is
  due_state x state.Done is due = absurd (false≢true due)
  due_state x state.Waiting is due = absurd (false≢true due)
  due_state x state.Undecided is due = absurd (false≢true due)
  due_state x state.Unsure is due = absurd (false≢true due)

  fresh_none : (x : Intent) (ts : List Try) → x.tries.items ≡ ts → intent_state full sure c x ≡ state.Fresh → ts ≡ []
  fresh_none x [] are is = refl
  fresh_none x (t ∷ ts) are is =
      let u = some_last t ts in
      absurd (known_state u.0 (sym (ap (λ o. option_map_or (state_of full sure c) o state.Fresh) u.1) ∙ sym (ap (λ l. option_map_or (state_of full sure c) (last_try l) state.Fresh) are) ∙ is))

  open_of : (x : Intent) → is_due (intent_state full sure c x) ≡ true → (x.tries.items ≡ []) ⊎ (intent_state full sure c x ≡ state.Absent)
  open_of x due = elim (due_state x (intent_state full sure c x) refl due) [
    | inl fresh ↦ inl (fresh_none x x.tries.items refl fresh)
    | inr absent ↦ inr absent
  ]

  -- the place of one that is due
  record IsPlaced (j k : ℕ) (xs : List Intent) : Type 0 where
    place : ℕ
    number : k ≡ j + place
    intent : Intent
    there : slice_get xs place ≡ Some intent
    due : is_due (intent_state full sure c intent) ≡ true

  first_by : (j k : ℕ) (x : Intent) (xs : List Intent) (b : Bool) → is_due (intent_state full sure c x) ≡ b → (first_due full sure c (j + 1) xs ≡ Some k → IsPlaced (j + 1) k xs)
      → cond b (Some j) (first_due full sure c (j + 1) xs) ≡ Some k → IsPlaced j k (x ∷ xs)
  first_by j k x xs true due rest here = record { place = 0; number = (let same = same_Some j k here in omega (arith, same)); intent = x; there = refl; due = due }
  first_by j k x xs false due rest later =
      let is = rest later in
      record { place = suc is.place; number = (let same = is.number in omega (arith, same)); intent = is.intent; there = is.there; due = is.due }

  first_is : (j : ℕ) (xs : List Intent) (k : ℕ) → first_due full sure c j xs ≡ Some k → IsPlaced j k xs
  first_is j [] k is = absurd (none-some k is)
  first_is j (x ∷ xs) k is = first_by j k x xs (is_due (intent_state full sure c x)) refl (first_is (j + 1) xs k) is

next_first : (o : Option ℕ) (undecided : Bool) (k : ℕ) → next_by o undecided ≡ next.Submit k → o ≡ Some k
next_first None true k is = absurd (let bad : ⊥ = cc in bad)
next_first None false k is = absurd (let bad : ⊥ = cc in bad)
next_first (Some j) undecided k is = cc

-- what is wanted next is open
wanted_open : (od : Option DeviceState) (ov : Option IntentsView) (k : ℕ) → next_where od ov ≡ next.Submit k → (v : IntentsView) × (ov ≡ Some v) × (x : Intent) × (intent_under k v.intents ≡ Some x) × IsOpen od v x
wanted_open None ov k is = absurd (let bad : ⊥ = cc in bad)
wanted_open (Some d) None k is = absurd (let bad : ⊥ = cc in bad)
wanted_open (Some d) (Some v) k is =
    let first = first_is v.full v.sure d.client.client 1 v.intents k (next_first (first_due v.full v.sure d.client.client 1 v.intents) (some_undecided v.full v.sure d.client.client v.intents) k is) in
    let number : k ≡ suc first.place = (let same = first.number in omega (arith, same)) in
    (v, refl, first.intent, ap (λ n. intent_under n v.intents) number ∙ first.there, open_of v.full v.sure d.client.client first.intent first.due)

-- ---- a resolve line

names_done : (l : RunLine) (s : Watching) → (done l s).world.names ≡ s.world.names
names_done l s = ap (λ w. w.names) (done_world l s) ∙ names_stay (moves_of l.line s.world) s.world

module _ (number : ℕ) (device : List ℕ) (index most : ℕ) where
  -- one turn, where those after it are due
  module _ (more : Watching → List RunLine) (s : Watching) (named : position_of device s.world.names ≡ Some index) (rest : (w : Watching) → position_of device w.world.names ≡ Some index → AreDue (more w) w) where
    rest_due : (l : RunLine) (b : Bool) → AreDue (cond b (more (done l s)) []) (done l s)
    rest_due l true = rest (done l s) (ap (position_of device) (names_done l s) ∙ named)
    rest_due l false = tt

    submitted_due : (k : ℕ) → next_at index s ≡ next.Submit k → (o : Option Intent) → intent_in index k s.intents ≡ o → AreDue (submission_and_on number device index more s k o) s
    submitted_due k is None at = tt
    submitted_due k is (Some x) at =
        let line = say_line number device x.to x.text in
        let due = wanted_open (slice_get s.world.devices index) (slice_get s.intents index) k is in
        let same : due.2 ≡ x = same_Some due.2 x (sym due.3 ∙ sym (ap (λ o. option_and_then (λ (v : IntentsView). intent_under k v.intents) o) due.1) ∙ at) in (
          record {
            view = due.0;
            of = due.1;
            intent = x;
            is = due.3 ∙ ap (λ y. Some y) same;
            name = device;
            says = refl;
            named = named;
            open_there = subst (IsOpen (slice_get s.world.devices index) due.0) same due.4;
          },
          rest_due (submission line index k) (is_try (try_of line index s.world)),
        )

    turn_due : (n : Next) → next_at index s ≡ n → AreDue (wanted number device index most more s n) s
    turn_due next.CatchUp is = (tt, tt)
    turn_due next.Rest is = tt
    turn_due (next.Submit k) is = submitted_due k is (intent_in index k s.intents) refl

  resolved_due : (left : ℕ) (s : Watching) → position_of device s.world.names ≡ Some index → AreDue (resolved left number device index most s) s
  resolved_due zero s named = tt
  resolved_due (suc left) s named = turn_due (resolved left number device index most) s named (resolved_due left) (next_at index s) refl

-- ---- a line of the file

abbrev IsSo : WireLine → Watching → Asked → Type 0
IsSo line s a = AreDue (lines_by a line (begun a s)) (begun a s)

open_anew : (o : Option DeviceState) (v : IntentsView) (to text : List ℕ) → IsOpen o v (new_intent to text)
open_anew None v to text = refl
open_anew (Some d) v to text = inl refl

intent_due : (line : WireLine) (s : Watching) (st : WireStep) → line.step ≡ st → IsSo line s (asked_by_intent s.world.names st)
intent_due line s (wire.Common (step.Say device to text)) is = by_position (position_of device s.world.names) refl
  where
    by_position : (p : Option ℕ) → position_of device s.world.names ≡ p → IsSo line s (intent_of to text p)
    by_position None at = tt
    by_position (Some index) at = by_view (slice_get (changed_at index (with_intent to text) s.intents) index) refl
      where
        by_view : (o : Option IntentsView) → slice_get (changed_at index (with_intent to text) s.intents) index ≡ o → AreDue (first_submission line index o) (begun (Asked.NewIntent index to text) s)
        by_view None here = tt
        by_view (Some v) here =
            let old = mapped (with_intent to text) (slice_get s.intents index) v (sym (changed_there index (with_intent to text) s.intents) ∙ here) in (
              record {
                view = v;
                of = here;
                intent = new_intent to text;
                is = subst (λ (u : IntentsView). intent_under (length u.intents) u.intents ≡ Some (new_intent to text)) old.1 (newest_there to text old.0);
                name = device;
                says = is;
                named = at;
                open_there = open_anew (slice_get s.world.devices index) v to text;
              },
              tt,
            )
intent_due line s (wire.Common (step.Account name)) is = (tt, tt)
intent_due line s (wire.Common (step.Device name account)) is = (tt, tt)
intent_due line s (wire.Common (step.Private device to text)) is = (tt, tt)
intent_due line s (wire.Common (step.Catchup device most)) is = (tt, tt)
intent_due line s (wire.Common (step.Tick ms)) is = (tt, tt)
intent_due line s (wire.Dial device) is = (tt, tt)
intent_due line s (wire.Forget device) is = (tt, tt)
intent_due line s (wire.Close device) is = (tt, tt)
intent_due line s (wire.Up conn count) is = (tt, tt)
intent_due line s (wire.Down conn count) is = (tt, tt)
intent_due line s (wire.Cut conn up down) is = (tt, tt)
intent_due line s (wire.Pass conn times) is = (tt, tt)
intent_due line s (wire.Run times) is = (tt, tt)

resolve_due : (line : WireLine) (s : Watching) (st : WireStep) → IsSo line s (asked_by_resolve s.world.names st)
resolve_due line s (wire.Common (step.Catchup device most)) = by_position (position_of device s.world.names) refl
  where
    by_position : (p : Option ℕ) → position_of device s.world.names ≡ p → IsSo line s (resolve_of device most p)
    by_position None at = tt
    by_position (Some index) at = resolved_due line.number device index most (count_at index s.intents + 1) s at
resolve_due line s (wire.Common (step.Account name)) = (tt, tt)
resolve_due line s (wire.Common (step.Device name account)) = (tt, tt)
resolve_due line s (wire.Common (step.Say device to text)) = (tt, tt)
resolve_due line s (wire.Common (step.Private device to text)) = (tt, tt)
resolve_due line s (wire.Common (step.Tick ms)) = (tt, tt)
resolve_due line s (wire.Dial device) = (tt, tt)
resolve_due line s (wire.Forget device) = (tt, tt)
resolve_due line s (wire.Close device) = (tt, tt)
resolve_due line s (wire.Up conn count) = (tt, tt)
resolve_due line s (wire.Down conn count) = (tt, tt)
resolve_due line s (wire.Cut conn up down) = (tt, tt)
resolve_due line s (wire.Pass conn times) = (tt, tt)
resolve_due line s (wire.Run times) = (tt, tt)

line_due : (f : FileView) (line : WireLine) (s : Watching) → AreDue (lines_of f line s) (begun (asked f s.world.names line) s)
line_due f line s = by_both (is_number_among line.number f.intents) (is_number_among line.number f.resolves)
  where
    by_both : (b c : Bool) → IsSo line s (cond b (asked_by_intent s.world.names line.step) (cond c (asked_by_resolve s.world.names line.step) Asked.Plain))
    by_both true c = intent_due line s line.step refl
    by_both false true = resolve_due line s line.step
    by_both false false = (tt, tt)

pub all_due : (f : FileView) (lines : List WireLine) (s : Watching) → AreAllDue f lines s
all_due f [] s = tt
all_due f (line ∷ lines) s = (line_due f line s, all_due f lines (gone f line s))
