-- Behind a handled bind each take of the device is of an epoch above the one that was reached then.
use Rattle.std.proofs.Common.{◌≡◌, ℕ, ◌+◌, ◌<◌, ◌≤◌, ◌==◌, Bool, true, false, cond, List, [], ◌∷◌, ◌++◌, Some, length, drop, refl, sym, ap, ◌∙◌, subst, arith}
use Rattle.std.proofs.Math.Seq.{drop-append_seam}
use Rattle.std.proofs.lemmas.Bool.{eq-eqb}
use Rattle.std.proofs.lemmas.List.{drop-append-le, length-append}
use Rattle.std.proofs.lemmas.List.Elements.{filter-append}
use Rattle.std.specs.List.{AllByRecursion, filter, slice_get}
use Rattle.std.specs.Option.{option_map}
use Rattle.sim_1_applications.specs.Stanzas.{Up, Down}
use Rattle.sim_1_applications.specs.Devices.{AppWorld, Device, Take, epoch_of}
use Rattle.sim_1_applications.specs.Events as events
use Rattle.sim_1_applications.specs.Events.AppEvent.{At, Tick}
use Rattle.sim_1_applications.specs.Kept.{SessionsKept, Taken, is_of}
use Rattle.sim_1_applications.specs.Laws.{AreAbove}
use Rattle.sim_1_applications.proofs.Archives.{taken_is_new}
use Rattle.sim_1_applications.proofs.Lists.{all_append, all_weaker}
use Rattle.sim_1_applications.proofs.Runs.{taken_moves, taken_reached}
use Rattle.sim_1_applications.proofs.Takes.{is_of_taken}
use Rattle.sim_1_applications.proofs.Worlds.{at_position, get_each, same_position}

bound_served : (x : events.Around) (fits : ℕ) (zs : List Up) (d : Device) → (events.served x fits zs d).sessions.bound ≡ d.sessions.bound
bound_served x fits [] d = refl
bound_served x fits (z ∷ rest) d = refl

bound_read : (x : events.Around) (zs : List Down) (d : Device) → (events.read x zs d).sessions.bound ≡ d.sessions.bound
bound_read x [] d = refl
bound_read x (z ∷ rest) d = refl

-- the epoch that was reached at the last bind doesn't fall
bound_own : (x : events.Around) (act : events.Act) (d : Device) → SessionsKept d.sessions → d.sessions.bound ≤ (events.own x act d).sessions.bound
bound_own x events.Act.Bind d kept = kept.epochs.bound
bound_own x (events.Act.ReadBound live) d kept = omega arith
bound_own x events.Act.Enable d kept = omega arith
bound_own x events.Act.ReadEnabled d kept = omega arith
bound_own x events.Act.End d kept = omega arith
bound_own x events.Act.Drop d kept = omega arith
bound_own x (events.Act.Acknowledge n) d kept = omega arith
bound_own x (events.Act.Say to text private) d kept = omega arith
bound_own x (events.Act.CatchUp max) d kept = omega arith
bound_own x (events.Act.ServerHandles fits full) d kept = let same = bound_served x fits d.sessions.now.up_rest d in omega arith
bound_own x events.Act.ClientHandles d kept = let same = bound_read x d.sessions.now.down_rest d in omega arith

bound_hears : (takes : List Take) (full : List ℕ) (ts : List Take) (j : ℕ) (d : Device) → (events.hear_all takes full ts j d).sessions.bound ≡ d.sessions.bound
bound_hears takes full [] j d = refl
bound_hears takes full (t ∷ ts) j d = bound_hears takes full ts j (events.hear takes full t j d)

bound_becomes : (w : AppWorld) (new : List Take) (i : ℕ) (act : events.Act) (j b : ℕ) (d : Device) → SessionsKept d.sessions → b ≤ d.sessions.bound →
    b ≤ (events.becomes w new i act j d).sessions.bound
bound_becomes w new i act j b d kept low =
    at_position (j == i) (events.own (events.around w d) act d) d (λ e. b ≤ (events.hear_all (w.takes ++ new) (events.full_of act) new j e).sessions.bound)
    (λ _. let same = bound_hears (w.takes ++ new) (events.full_of act) new j (events.own (events.around w d) act d) in let more = bound_own (events.around w d) act d kept in omega arith)
    (λ _. let same = bound_hears (w.takes ++ new) (events.full_of act) new j d in omega arith)

-- the takes behind the first so many
record BoundAt (b many : ℕ) (w : AppWorld) (i : ℕ) : Type 0 where
  device : Device
  at : slice_get w.devices i ≡ Some device
  bound : b ≤ device.sessions.bound
  before : many ≤ length w.takes
  later : AreAbove b i (drop many w.takes)

new_above : (w : AppWorld) (b i j : ℕ) (act : events.Act) (own d : Device) → slice_get w.devices i ≡ Some d → slice_get w.devices j ≡ Some own → events.May act own →
    SessionsKept d.sessions → b ≤ d.sessions.bound → AreAbove b i (events.taken_by w.accounts w.clock j own act)
new_above w b i j act own d here at may kept low =
    subst (AllByRecursion (λ t. b < t.said.epoch)) (sym (is_of_taken w.accounts w.clock j act own i)) (chosen (i == j) refl)
  where
    chosen : (c : Bool) → (i == j) ≡ c → AllByRecursion (λ t. b < t.said.epoch) (cond c (events.taken_by w.accounts w.clock j own act) [])
    chosen false is = tt
    chosen true is =
        let i_is_j = same_position i j is in
        let same : own ≡ d = (let g : slice_get w.devices i ≡ slice_get w.devices j = ap (slice_get w.devices) i_is_j in cc) in
        subst (λ e. AllByRecursion (λ t. b < t.said.epoch) (events.taken_by w.accounts w.clock j e act)) (sym same)
        (all_weaker (λ t. d.sessions.bound < t.said.epoch) (λ t. b < t.said.epoch) _ (λ t is_new. omega arith)
        (taken_is_new w.accounts w.clock j act d (subst (events.May act) same may) kept))

bound_moves : (b many : ℕ) (event : events.AppEvent) (w next : AppWorld) (i : ℕ) → events.Moves event w next → Taken w → BoundAt b many w i → BoundAt b many next i
bound_moves b many (Tick ms) w next i is taken kept =
    subst (λ v. BoundAt b many v i) (sym is) (record { device = kept.device; at = kept.at; bound = kept.bound; before = kept.before; later = kept.later })
bound_moves b many (At j act) w next i is taken kept =
    let new = events.taken_by w.accounts w.clock j is.0 act in
    let sessions = (taken.devices i kept.device kept.at).sessions in
    let more = length-append w.takes new in
    let following : drop many (w.takes ++ new) ≡ drop many w.takes ++ new = drop-append-le many w.takes new kept.before in
    let few = kept.before in
    subst (λ v. BoundAt b many v i) (sym is.3) (record {
      device = events.becomes w new j act (0 + i) kept.device;
      at = get_each 0 (events.becomes w new j act) w.devices i ∙ ap (option_map (events.becomes w new j act (0 + i))) kept.at;
      bound = bound_becomes w new j act (0 + i) b kept.device sessions kept.bound;
      before = omega arith;
      later = subst (AreAbove b i) (sym following) (subst (AllByRecursion (λ t. b < t.said.epoch)) (sym (filter-append (is_of i) (drop many w.takes) new))
          (all_append (λ t. b < t.said.epoch) (filter (is_of i) (drop many w.takes)) (filter (is_of i) new) kept.later
          (new_above w b i j act is.0 kept.device kept.at is.1 is.2 sessions kept.bound)));
    })

bound_along : (b many : ℕ) (all : List events.AppEvent) (w last : AppWorld) (i : ℕ) → events.Reaches all w last → Taken w → BoundAt b many w i → BoundAt b many last i
bound_along b many [] w last i is taken kept = subst (λ v. BoundAt b many v i) (sym is) kept
bound_along b many (event ∷ all) w last i reaches taken kept =
    bound_along b many all reaches.0 last i reaches.2 (taken_moves event w reaches.0 reaches.1 taken) (bound_moves b many event w reaches.0 i reaches.1 taken kept)

-- behind a bind
pub after_a_bind : (w next v : AppWorld) (i : ℕ) (d : Device) (all : List events.AppEvent) → events.Reached w → slice_get w.devices i ≡ Some d →
    events.Moves (At i events.Act.Bind) w next → events.Reaches all next v → AreAbove (epoch_of d.sessions) i (drop (length w.takes) v.takes)
after_a_bind w next v i d all reached at is reaches =
    let taken = taken_reached w reached in
    let same : is.0 ≡ d = (let found = is.1 in cc) in
    let bound : BoundAt (epoch_of d.sessions) (length w.takes) next i =
    subst (λ u. BoundAt (epoch_of d.sessions) (length w.takes) u i) (sym is.3) (record {
      device = events.becomes w [] i events.Act.Bind (0 + i) d;
      at = get_each 0 (events.becomes w [] i events.Act.Bind) w.devices i ∙ ap (option_map (events.becomes w [] i events.Act.Bind (0 + i))) at;
      bound = here (0 + i) (let z : 0 + i ≡ i = omega arith in z);
      before = let e = length-append w.takes [] in omega arith;
      later = subst (AreAbove (epoch_of d.sessions) i) (sym (drop-append_seam w.takes [])) tt;
    }) in
    (bound_along (epoch_of d.sessions) (length w.takes) all next v i reaches (taken_moves (At i events.Act.Bind) w next is taken) bound).later
  where
    here : (j : ℕ) → j ≡ i → epoch_of d.sessions ≤ (events.becomes w [] i events.Act.Bind j d).sessions.bound
    here j j_is_i = at_position (j == i) (events.own (events.around w d) events.Act.Bind d) d (λ e. epoch_of d.sessions ≤ e.sessions.bound)
        (λ _. omega arith)
        (λ other. absurd (let hit : (j == i) ≡ true = eq-eqb j i j_is_i in let bad : ⊥ = cc in bad))
