-- The intents of devices where one of them is changed, looked at or added.
use Rattle.std.proofs.Common.{◌≡◌, ◌≢◌, ◌⊎◌, ℕ, zero, suc, ◌+◌, List, [], ◌∷◌, ◌++◌, Option, Some, None, length, map, refl, sym, ap, ap₂, ◌∙◌, inl, inr}
use Rattle.std.proofs.lemmas.Bool.Decides.{eqb_tells}
use Rattle.std.specs.List.{slice_get}
use Rattle.std.specs.Option.{option_map, option_map_or}
use Rattle.cl_intents.specs.Intents.{IntentsView, changed_under, intent_under, new_intent, tried_again, with_intent, with_try}
use Rattle.cl_intents.specs.Intents as intents
use Rattle.cl_intents.specs.declared.intents.Intent.{Intent}
use Rattle.cl_intents.specs.declared.intents.Try.{Try}
use Rattle.cmd_network.specs.Devices.{DeviceState}
use Rattle.cmd_network.specs.Positions.{changed_at, position_under}
use Rattle.cmd_resolving.specs.Expansion.{Submitted, Watching, observed_by, observed_from, watched, watched_line, watched_move, watched_step}
use Rattle.cmd_schedule.specs.declared.schedule.WireLine.{WireLine}
use Rattle.cmd_schedule.specs.declared.schedule.WireStep.{WireStep}
use Rattle.cmd_schedule.specs.declared.schedule.WireStep.TheVariants as wire
use Rattle.cmd_world.specs.Lines.{passes_where, rounds_of, stepped}
use Rattle.cmd_world.specs.Moves.{Move}

-- ---- lists

pub at_other : {T : Type 0} (j k : ℕ) (f : T → T) (xs : List T) → k ≢ j → slice_get (changed_at j f xs) k ≡ slice_get xs k
at_other j k f [] other = refl
at_other zero zero f (x ∷ xs) other = absurd (other refl)
at_other zero (suc k) f (x ∷ xs) other = refl
at_other (suc j) zero f (x ∷ xs) other = refl
at_other (suc j) (suc k) f (x ∷ xs) other = at_other j k f xs (λ same. other (ap suc same))

pub at_same : {T : Type 0} (k : ℕ) (f : T → T) (xs : List T) → slice_get (changed_at k f xs) k ≡ option_map f (slice_get xs k)
at_same zero f [] = refl
at_same (suc k) f [] = refl
at_same zero f (x ∷ xs) = refl
at_same (suc k) f (x ∷ xs) = at_same k f xs

map_changed : {T : Type 0} (g : T → T) (j : ℕ) (f : T → T) (xs : List T) → ((x : T) → g (f x) ≡ f (g x)) → map g (changed_at j f xs) ≡ changed_at j f (map g xs)
map_changed g j f [] same = refl
map_changed g zero f (x ∷ xs) same = ap (λ y. y ∷ map g xs) (same x)
map_changed g (suc j) f (x ∷ xs) same = ap (λ l. g x ∷ l) (map_changed g j f xs same)

-- ---- the intent under a number

other_intent : (j k : ℕ) (f : Intent → Intent) (xs : List Intent) → k ≢ j → slice_get (intents.changed_at j f xs) k ≡ slice_get xs k
other_intent j k f [] other = refl
other_intent zero zero f (x ∷ xs) other = absurd (other refl)
other_intent zero (suc k) f (x ∷ xs) other = refl
other_intent (suc j) zero f (x ∷ xs) other = refl
other_intent (suc j) (suc k) f (x ∷ xs) other = other_intent j k f xs (λ same. other (ap suc same))

this_intent : (k : ℕ) (f : Intent → Intent) (xs : List Intent) → slice_get (intents.changed_at k f xs) k ≡ option_map f (slice_get xs k)
this_intent zero f [] = refl
this_intent (suc k) f [] = refl
this_intent zero f (x ∷ xs) = refl
this_intent (suc k) f (x ∷ xs) = this_intent k f xs

pub under_other : (j k : ℕ) (f : Intent → Intent) (xs : List Intent) → k ≢ j → intent_under k (changed_under j f xs) ≡ intent_under k xs
under_other zero k f xs other = refl
under_other (suc j) zero f xs other = refl
under_other (suc j) (suc k) f xs other = other_intent j k f xs (λ same. other (ap suc same))

pub under_same : (k : ℕ) (f : Intent → Intent) (xs : List Intent) → intent_under k (changed_under k f xs) ≡ option_map f (intent_under k xs)
under_same zero f xs = refl
under_same (suc k) f xs = this_intent k f xs

-- ---- its tries

abbrev pub items_in : Option Intent → List Try
items_in o = option_map_or (λ (x : Intent). x.tries.items) o []

abbrev pub tries_under : ℕ → List Intent → List Try
tries_under k xs = items_in (intent_under k xs)

-- one more intent has none
pub tries_with : (k : ℕ) (to text : List ℕ) (xs : List Intent) → tries_under k (xs ++ new_intent to text ∷ []) ≡ tries_under k xs
tries_with zero to text xs = refl
tries_with (suc k) to text xs = by k xs
  where
    by : (p : ℕ) (ys : List Intent) → items_in (slice_get (ys ++ new_intent to text ∷ []) p) ≡ items_in (slice_get ys p)
    by zero [] = refl
    by (suc p) [] = refl
    by zero (y ∷ ys) = refl
    by (suc p) (y ∷ ys) = by p ys

-- ---- the place of an intent

abbrev pub IsOther : Submitted → Submitted → Type 0
IsOther a at = (a.device ≢ at.device) ⊎ ((a.device ≡ at.device) × (a.intent ≢ at.intent))

pub is_it : (a at : Submitted) → (at ≡ a) ⊎ IsOther a at
is_it a at = elim (eqb_tells a.device at.device) [
  | inr other ↦ inr (inl other.1)
  | inl same ↦ elim (eqb_tells a.intent at.intent) [
    | inr other ↦ inr (inr (same.1, other.1))
    | inl equal ↦ inl (ap₂ (λ (d : ℕ) (k : ℕ). let s : Submitted = record { device = d; intent = k } in s) (sym same.1) (sym equal.1))
  ]
]

-- ---- but for what was noted of clients

abbrev pub core : IntentsView → IntentsView
core v = record v { seen = 0; mark = 0; sure = 0 }

seen_core : (o : Option DeviceState) (v : IntentsView) → core (observed_by o v) ≡ core v
seen_core None v = refl
seen_core (Some d) v = refl

pub looks_core : (index : ℕ) (ds : List DeviceState) (vs : List IntentsView) → map core (observed_from index ds vs) ≡ map core vs
looks_core index ds [] = refl
looks_core index ds (v ∷ vs) = ap₂ (λ u us. u ∷ us) (seen_core (slice_get ds index) v) (looks_core (index + 1) ds vs)

moves_core : (ms : List Move) (s : Watching) → map core (watched ms s).intents ≡ map core s.intents
moves_core [] s = refl
moves_core (m ∷ ms) s = moves_core ms (watched_move m s) ∙ looks_core 0 (watched_move m s).world.devices s.intents

step_core : (st : WireStep) (line : WireLine) (s : Watching) → map core (watched_step st line s).intents ≡ map core s.intents
step_core (wire.Pass conn times) line s = moves_core (passes_where times (position_under conn)) s
step_core (wire.Run times) line s = moves_core (rounds_of times (length s.world.wires)) s
step_core (wire.Common st) line s = looks_core 0 (stepped line s.world).devices s.intents
step_core (wire.Dial device) line s = looks_core 0 (stepped line s.world).devices s.intents
step_core (wire.Forget device) line s = looks_core 0 (stepped line s.world).devices s.intents
step_core (wire.Close device) line s = looks_core 0 (stepped line s.world).devices s.intents
step_core (wire.Up conn bytes) line s = looks_core 0 (stepped line s.world).devices s.intents
step_core (wire.Down conn bytes) line s = looks_core 0 (stepped line s.world).devices s.intents
step_core (wire.Cut conn up down) line s = looks_core 0 (stepped line s.world).devices s.intents

pub line_core : (line : WireLine) (s : Watching) → map core (watched_line line s).intents ≡ map core s.intents
line_core line s = step_core line.step line s

pub tried_core : (at : Submitted) (t : Try) (vs : List IntentsView) → map core (changed_at at.device (with_try at.intent t) vs) ≡ changed_at at.device (with_try at.intent t) (map core vs)
tried_core at t vs = map_changed core at.device (with_try at.intent t) vs (λ v. refl)

pub added_core : (index : ℕ) (to text : List ℕ) (vs : List IntentsView) → map core (changed_at index (with_intent to text) vs) ≡ changed_at index (with_intent to text) (map core vs)
added_core index to text vs = map_changed core index (with_intent to text) vs (λ v. refl)

-- ---- tries of an intent of a device

abbrev pub tries_in : ℕ → Option IntentsView → List Try
tries_in k o = option_map_or (λ (v : IntentsView). tries_under k v.intents) o []

-- a try of another intent changes none
pub other_tries : (a at : Submitted) (t : Try) (vs : List IntentsView) → IsOther a at → tries_in a.intent (slice_get (changed_at at.device (with_try at.intent t) vs) a.device) ≡ tries_in a.intent (slice_get vs a.device)
other_tries a at t vs (inl device) = ap (tries_in a.intent) (at_other at.device a.device (with_try at.intent t) vs device)
other_tries a at t vs (inr both) =
    ap (λ j. tries_in a.intent (slice_get (changed_at at.device (with_try at.intent t) vs) j)) both.0
    ∙ ap (tries_in a.intent) (at_same at.device (with_try at.intent t) vs)
    ∙ by_view (slice_get vs at.device)
    ∙ ap (λ j. tries_in a.intent (slice_get vs j)) (sym both.0)
  where
    by_view : (o : Option IntentsView) → tries_in a.intent (option_map (with_try at.intent t) o) ≡ tries_in a.intent o
    by_view None = refl
    by_view (Some v) = ap items_in (under_other at.intent a.intent (tried_again t) v.intents both.1)

-- a try of it is one more
pub own_tries : (at : Submitted) (t : Try) (vs : List IntentsView) (v : IntentsView) (x : Intent) → slice_get vs at.device ≡ Some v → intent_under at.intent v.intents ≡ Some x
    → tries_in at.intent (slice_get (changed_at at.device (with_try at.intent t) vs) at.device) ≡ x.tries.items ++ t ∷ []
own_tries at t vs v x there is =
    ap (tries_in at.intent) (at_same at.device (with_try at.intent t) vs ∙ ap (option_map (with_try at.intent t)) there)
    ∙ ap items_in (under_same at.intent (tried_again t) v.intents ∙ ap (option_map (tried_again t)) is)

-- a new intent changes none
pub added_tries : (a : Submitted) (index : ℕ) (to text : List ℕ) (vs : List IntentsView) → tries_in a.intent (slice_get (changed_at index (with_intent to text) vs) a.device) ≡ tries_in a.intent (slice_get vs a.device)
added_tries a index to text vs = elim (eqb_tells a.device index) [
  | inr other ↦ ap (tries_in a.intent) (at_other index a.device (with_intent to text) vs other.1)
  | inl same ↦
      ap (λ j. tries_in a.intent (slice_get (changed_at index (with_intent to text) vs) j)) same.1
      ∙ ap (tries_in a.intent) (at_same index (with_intent to text) vs)
      ∙ by_view (slice_get vs index)
      ∙ ap (λ j. tries_in a.intent (slice_get vs j)) (sym same.1)
]
  where
    by_view : (o : Option IntentsView) → tries_in a.intent (option_map (with_intent to text) o) ≡ tries_in a.intent o
    by_view None = refl
    by_view (Some v) = tries_with a.intent to text v.intents
