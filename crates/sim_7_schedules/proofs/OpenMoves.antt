-- A device that is connected stays so by the moves of a run; but for a late word in the first round, and a full queue.
use Rattle.std.proofs.Common.{◌≡◌, ◌≢◌, ◌⊎◌, ℕ, zero, suc, ◌+◌, ◌≤◌, ◌<◌, List, [], ◌∷◌, ◌++◌, Some, append_assoc, length, refl, sym, ap, ◌∙◌, subst, arith, inl, inr}
use Rattle.std.proofs.lemmas.Bool.{cases_eq}
use Rattle.std.proofs.lemmas.Option.{slice_get_within}
use Rattle.std.specs.List.{slice_get}
use Rattle.cmd_network.specs.declared.wire.Wire.{Wire}
use Rattle.cmd_schedule.specs.Contents.{Owned}
use Rattle.cmd_schedule.specs.LineLists.{IsLineList}
use Rattle.cmd_schedule.specs.Schedules.{WireView}
use Rattle.cmd_schedule.specs.declared.schedule.Count.TheVariants.{All}
use Rattle.cmd_world.proofs.TurnsLeft.{moved_join}
use Rattle.cmd_world.specs.Lines.{round_from, rounds_of}
use Rattle.cmd_world.specs.Moves.{Down, Move, Up, all_moved, moved}
use Rattle.cmd_world.specs.Worlds.{ByteWorld}
use Rattle.sim_1_applications.specs.Devices.{AppWorld}
use Rattle.sim_1_applications.specs.Events.{AppEvent}
use Rattle.sim_1_applications.specs.Histories.{state_after}
use Rattle.sim_3_items.specs.ItemMoves as items
use Rattle.sim_5_moves.specs.Running.{IsOwned}
use Rattle.sim_7_schedules.proofs.Along.{Parts, parts}
use Rattle.sim_7_schedules.proofs.ByteMoves.{IsTimely, is_moved}
use Rattle.sim_7_schedules.proofs.Handing.{AreHandings, IsHanding, round_hands, rounds_hand, up_emptied}
use Rattle.sim_7_schedules.proofs.LineMoments.{down_still, up_still}
use Rattle.sim_7_schedules.proofs.OlderEmpty.{down_none, no_late_word, nothing_older, up_none}
use Rattle.sim_7_schedules.proofs.OpenBytes.{IsByteOpen, IsEndedIn, OpenOrAt, hand_goes, hand_so}
use Rattle.sim_7_schedules.proofs.OpenItems.{FillsHere, HasNext, IsCause}
use Rattle.sim_7_schedules.proofs.Wires.{downs_none, moves_many, served_none}
use Rattle.sim_7_schedules.specs.Calm.{AsksLate, ComesUp, FillsQueue, HasNothingOlder}
use Rattle.sim_7_schedules.specs.Simulation.{MovesSimulate, Simulates, SimulatesBy, Views}

-- ---- what moves of a run leave

hand_timely : (m : Move) (W : ByteWorld) → IsHanding m → IsTimely W → IsTimely (moved m W)
hand_timely (Up q count) W is timely = let same = up_still q count W in omega (arith, same, timely)
hand_timely (Down q count) W is timely = let same = down_still q count W in omega (arith, same, timely)
hand_timely _ W is timely = absurd is

all_timely : (ms : List Move) (W : ByteWorld) → AreHandings ms → IsTimely W → IsTimely (all_moved ms W)
all_timely [] W hands timely = timely
all_timely (m ∷ ms) W hands timely = all_timely ms (moved m W) hands.1 (hand_timely m W hands.0 timely)

pub moves_so : (ms : List Move) (W : ByteWorld) (p : ℕ) → AreHandings ms → OpenOrAt p W.wires → OpenOrAt p (all_moved ms W).wires
moves_so [] W p hands so = so
moves_so (m ∷ ms) W p hands so = moves_so ms (moved m W) p hands.1 (hand_so m W p hands.0 so)

-- as many connections
hand_many : (s : WireView) (m : Move) (W : ByteWorld) (x : AppWorld) → IsHanding m → Simulates s W x → length (moved m W).wires ≡ length W.wires
hand_many s (Up q count) W x hands beside =
    let r = is_moved (Up q count) W beside.items tt beside.encodes in
    let run = r.is_run in
    r.encodes.encoding.as_many
    ∙ ap (λ ms. length (items.all_moved ms beside.items).wires) run.3 ∙ moves_many _ beside.items (served_none q run.0 run.1 run.2)
    ∙ sym beside.encodes.encoding.as_many
hand_many s (Down q count) W x hands beside =
    let r = is_moved (Down q count) W beside.items tt beside.encodes in
    let run = r.is_run in
    r.encodes.encoding.as_many
    ∙ ap (λ ms. length (items.all_moved ms beside.items).wires) run.2 ∙ moves_many _ beside.items (downs_none q run.0 run.1)
    ∙ sym beside.encodes.encoding.as_many
hand_many s _ W x hands beside = absurd hands

-- ---- which of them ends the connection

pub record IsEndedBy (ms : List Move) (i position : ℕ) (W : ByteWorld) : Type 0 where
  pub before : List Move
  pub move : Move
  pub behind : List Move
  pub are : ms ≡ before ++ move ∷ behind
  pub ended : IsEndedIn move i position (all_moved before W)

-- by a full queue
pub record IsFilledIn (m : Move) (i position : ℕ) (W : ByteWorld) : Type 0 where
  pub ended : IsEndedIn m i position W
  pub fills : FillsHere position ended.from (items.all_moved ended.done ended.beside)

pub record IsFilledBy (ms : List Move) (i position : ℕ) (W : ByteWorld) : Type 0 where
  pub before : List Move
  pub move : Move
  pub behind : List Move
  pub are : ms ≡ before ++ move ∷ behind
  pub filled : IsFilledIn move i position (all_moved before W)

ended_later : (m : Move) (ms : List Move) (i position : ℕ) (W : ByteWorld) → IsEndedBy ms i position (moved m W) → IsEndedBy (m ∷ ms) i position W
ended_later m ms i position W e = record { before = m ∷ e.before; move = e.move; behind = e.behind; are = ap (λ l. m ∷ l) e.are; ended = e.ended }

filled_later : (m : Move) (ms : List Move) (i position : ℕ) (W : ByteWorld) → IsFilledBy ms i position (moved m W) → IsFilledBy (m ∷ ms) i position W
filled_later m ms i position W f = record { before = m ∷ f.before; move = f.move; behind = f.behind; are = ap (λ l. m ∷ l) f.are; filled = f.filled }

-- before others, and behind others
filled_first : (ms more : List Move) (i position : ℕ) (W : ByteWorld) (before behind : List Move) (move : Move) → ms ≡ before ++ move ∷ behind → IsFilledIn move i position (all_moved before W) → IsFilledBy (ms ++ more) i position W
filled_first ms more i position W before behind move are filled = record { before = before; move = move; behind = behind ++ more; are = ap (λ l. l ++ more) are ∙ append_assoc before (move ∷ behind) more; filled = filled }

filled_then : (ms more : List Move) (i position : ℕ) (W : ByteWorld) → IsFilledBy more i position (all_moved ms W) → IsFilledBy (ms ++ more) i position W
filled_then ms more i position W f = record {
  before = ms ++ f.before;
  move = f.move;
  behind = f.behind;
  are = ap (λ l. ms ++ l) f.are ∙ sym (append_assoc ms f.before (f.move ∷ f.behind));
  filled = subst (IsFilledIn f.move i position) (sym (moved_join ms f.before W)) f.filled;
}

-- ---- as it is told

module _ (W : ByteWorld) (ms : List Move) (i position : ℕ) where
  module _ (before behind : List Move) (move : Move) (are : ms ≡ before ++ move ∷ behind) (e : IsEndedIn move i position (all_moved before W)) where
    abbrev comes : HasNext e.from (items.all_moved e.done e.beside) → ComesUp W ms e.from
    comes next = record {
      before = before;
      move = move;
      behind = behind;
      are = are;
      beside = e.beside;
      encodes = e.encodes;
      run = e.run;
      done = e.done;
      later = e.later;
      now = e.now;
      world = items.all_moved e.done e.beside;
      is_world = refl;
      wire = next.wire;
      there = next.there;
      item = next.item;
      rest = next.rest;
      first = next.first;
    }

    fills_so : FillsHere position e.from (items.all_moved e.done e.beside) → FillsQueue W ms position
    fills_so f = record {
      from = e.from;
      comes = comes f.next;
      acts = f.fills.front;
      number = f.fills.number;
      stanza = f.fills.stanza;
      others = f.fills.others;
      does = f.fills.are;
      session = f.fills.is_full.session;
      is_session = f.fills.is_full.there;
      on = f.fills.is_full.on;
      counted = f.fills.is_full.counted;
      full = f.fills.is_full.full;
    }

    -- a late word, or a full queue
    cause_so : IsCause i position e.from (items.all_moved e.done e.beside) → AsksLate W ms i position ⊎ IsFilledIn move i position (all_moved before W)
    cause_so (inl a) = inl (record { from = e.from; comes = comes a.next; older = a.older; of = a.of; asks = a.asks })
    cause_so (inr f) = inr (record { ended = e; fills = f })

  pub queue_so : IsFilledBy ms i position W → FillsQueue W ms position
  queue_so f = fills_so f.before f.behind f.move f.are f.filled.ended f.filled.fills

-- ---- moves, one after another

module _ (s : WireView) (right : IsLineList s) (i : ℕ) (o : Owned) (owned : IsOwned s i o) (position : ℕ) where
  -- the device is connected, and nothing older is under way
  abbrev pub IsLone : ByteWorld → Type 0
  IsLone W = IsByteOpen i position W × HasNothingOlder W i position

  lone_go : (ms : List Move) (ess : List (List AppEvent)) (views last : Views s) (W : ByteWorld) (x : AppWorld) → AreHandings ms → Simulates s W x → MovesSimulate s ms ess views last W x → IsTimely W → IsByteOpen i position W → HasNothingOlder W i position
      → IsLone (all_moved ms W) ⊎ IsFilledBy ms i position W
  lone_go [] ess views last W x hands beside go timely is nothing = inl (is, nothing)
  lone_go (m ∷ ms) [] views last W x hands beside go timely is nothing = absurd go
  lone_go (m ∷ ms) (es ∷ ess) views last W x hands beside go timely is nothing =
      by (hand_goes s right i o owned position W x beside timely is m hands.0)
      (λ stays. lone_go ms ess go.0 last (moved m W) (state_after x es) hands.1 go.1.beside go.3 (hand_timely m W hands.0 timely) stays (nothing_older m i position W hands.0 is nothing))
    where
      further : IsLone (all_moved ms (moved m W)) ⊎ IsFilledBy ms i position (moved m W) → IsLone (all_moved (m ∷ ms) W) ⊎ IsFilledBy (m ∷ ms) i position W
      further (inl done) = inl done
      further (inr f) = inr (filled_later m ms i position W f)

      filled : (e : IsEndedIn m i position W) → IsCause i position e.from (items.all_moved e.done e.beside) → IsFilledBy (m ∷ ms) i position W
      filled e (inl asks) = absurd (no_late_word m i position W hands.0 nothing e asks)
      filled e (inr fills) = record { before = []; move = m; behind = ms; are = refl; filled = record { ended = e; fills = fills } }

      by : IsByteOpen i position (moved m W) ⊎ IsEndedIn m i position W → (IsByteOpen i position (moved m W) → IsLone (all_moved ms (moved m W)) ⊎ IsFilledBy ms i position (moved m W))
          → IsLone (all_moved (m ∷ ms) W) ⊎ IsFilledBy (m ∷ ms) i position W
      by (inl stays) rest = further (rest stays)
      by (inr ended) rest = inr (filled ended ended.cause)

  -- ---- the first round

  -- no older connection of those before a place has bytes under way
  abbrev EmptyBelow : ℕ → ByteWorld → Type 0
  EmptyBelow k W = (other : ℕ) (wire : Wire) → slice_get W.wires other ≡ Some wire → wire.device ≡ i → other ≢ position → other < k → wire.up.bytes ≡ []

  -- the device is connected still, and nothing older is under way before a place
  record IsPassed (k count : ℕ) (W : ByteWorld) : Type 0 where
    is : IsByteOpen i position W
    empty : EmptyBelow k W
    many : length W.wires ≡ count

  up_passed : (p : ℕ) (W : ByteWorld) → EmptyBelow p W → EmptyBelow (p + 1) (moved (Up p All) W)
  up_passed p W empty other wire at of apart below =
      elim (cases_eq other p) [
        | inl same ↦ up_emptied p W wire (subst (λ q. slice_get (moved (Up p All) W).wires q ≡ Some wire) same at)
        | inr different ↦ up_none i p All W other (λ c there its. empty other c there its apart (omega (arith, below, different))) wire at of
      ]

  down_passed : (p k : ℕ) (W : ByteWorld) → IsByteOpen i position W → EmptyBelow k W → EmptyBelow k (moved (Down p All) W)
  down_passed p k W is empty other wire at of apart below = down_none i position W is p All other apart (λ c there its. empty other c there its apart below) wire at of

  round_go : (p count many : ℕ) (ess : List (List AppEvent)) (views last : Views s) (W : ByteWorld) (x : AppWorld) → Simulates s W x → MovesSimulate s (round_from p count) ess views last W x → IsTimely W → IsPassed p many W
      → IsPassed (p + count) many (all_moved (round_from p count) W) ⊎ IsEndedBy (round_from p count) i position W
  round_go p zero many ess views last W x beside go timely passed = inl (subst (λ k. IsPassed k many W) (let same : p ≡ p + 0 = omega arith in same) passed)
  round_go p (suc count) many [] views last W x beside go timely passed = absurd go
  round_go p (suc count) many (es ∷ []) views last W x beside go timely passed = absurd go.3
  round_go p (suc count) many (es ∷ fs ∷ ess) views last W x beside go timely passed =
      by_up (hand_goes s right i o owned position W x beside timely passed.is (Up p All) tt)
      (λ is. by_down (hand_goes s right i o owned position (moved (Up p All) W) (state_after x es) go.1.beside (hand_timely (Up p All) W tt timely) is (Down p All) tt)
      (λ then. by_rest (round_go (p + 1) count many ess go.3.0 last (moved (Down p All) (moved (Up p All) W)) (state_after (state_after x es) fs) go.3.1.beside go.3.3
      (hand_timely (Down p All) (moved (Up p All) W) tt (hand_timely (Up p All) W tt timely)) (record {
        is = then;
        empty = down_passed p (p + 1) (moved (Up p All) W) is (up_passed p W passed.empty);
        many = hand_many s (Down p All) (moved (Up p All) W) (state_after x es) tt go.1.beside ∙ hand_many s (Up p All) W x tt beside ∙ passed.many;
      }))))
    where
      by_rest : IsPassed (p + 1 + count) many (all_moved (round_from (p + 1) count) (moved (Down p All) (moved (Up p All) W))) ⊎ IsEndedBy (round_from (p + 1) count) i position (moved (Down p All) (moved (Up p All) W))
          → IsPassed (p + suc count) many (all_moved (round_from p (suc count)) W) ⊎ IsEndedBy (round_from p (suc count)) i position W
      by_rest (inl passed) = inl (subst (λ k. IsPassed k many (all_moved (round_from p (suc count)) W)) (let same : p + 1 + count ≡ p + suc count = omega arith in same) passed)
      by_rest (inr e) =
          inr (ended_later (Up p All) (Down p All ∷ round_from (p + 1) count) i position W (ended_later (Down p All) (round_from (p + 1) count) i position (moved (Up p All) W) e))

      by_down : IsByteOpen i position (moved (Down p All) (moved (Up p All) W)) ⊎ IsEndedIn (Down p All) i position (moved (Up p All) W) → (IsByteOpen i position (moved (Down p All) (moved (Up p All) W)) → IsPassed (p + suc count) many (all_moved (round_from p (suc count)) W) ⊎ IsEndedBy (round_from p (suc count)) i position W)
          → IsPassed (p + suc count) many (all_moved (round_from p (suc count)) W) ⊎ IsEndedBy (round_from p (suc count)) i position W
      by_down (inl then) rest = rest then
      by_down (inr e) rest =
          inr (ended_later (Up p All) (Down p All ∷ round_from (p + 1) count) i position W (record { before = []; move = Down p All; behind = round_from (p + 1) count; are = refl; ended = e }))

      by_up : IsByteOpen i position (moved (Up p All) W) ⊎ IsEndedIn (Up p All) i position W → (IsByteOpen i position (moved (Up p All) W) → IsPassed (p + suc count) many (all_moved (round_from p (suc count)) W) ⊎ IsEndedBy (round_from p (suc count)) i position W)
          → IsPassed (p + suc count) many (all_moved (round_from p (suc count)) W) ⊎ IsEndedBy (round_from p (suc count)) i position W
      by_up (inl is) rest = rest is
      by_up (inr e) rest = inr (record { before = []; move = Up p All; behind = Down p All ∷ round_from (p + 1) count; are = refl; ended = e })

  -- ---- so many rounds

  -- where the first round is behind
  nothing_of : (W : ByteWorld) (count : ℕ) → IsPassed (0 + count) count W → HasNothingOlder W i position
  nothing_of W count passed other wire at of apart =
      let within : other < length W.wires = slice_get_within W.wires other wire at in
      let many = passed.many in
      passed.empty other wire at of apart (omega (arith, within, many))

  none_below : (W : ByteWorld) → EmptyBelow 0 W
  none_below W other wire at of apart below = absurd (omega (arith, below))

  module _ (n : ℕ) (views last : Views s) (W : ByteWorld) (x : AppWorld) (timely : IsTimely W) where
    abbrev wide : ℕ
    wide = length W.wires

    abbrev one : List Move
    one = round_from 0 wide

    abbrev more : List Move
    more = rounds_of n wide

    abbrev Outcome : Type 0
    Outcome = IsLone (all_moved (one ++ more) W) ⊎ (AsksLate W one i position ⊎ FillsQueue W (one ++ more) position)

    by_more : IsLone (all_moved more (all_moved one W)) ⊎ IsFilledBy more i position (all_moved one W) → Outcome
    by_more (inl done) = inl (subst IsLone (sym (moved_join one more W)) done)
    by_more (inr f) = inr (inr (queue_so W (one ++ more) i position (filled_then one more i position W f)))

    told_so : (e : IsEndedBy one i position W) → AsksLate W one i position ⊎ IsFilledIn e.move i position (all_moved e.before W) → Outcome
    told_so e (inl asks) = inr (inl asks)
    told_so e (inr f) = inr (inr (queue_so W (one ++ more) i position (filled_first one more i position W e.before e.behind e.move e.are f)))

    by_round : Parts s one more views last W x → IsPassed (0 + wide) wide (all_moved one W) ⊎ IsEndedBy one i position W → Outcome
    by_round p (inl passed) =
        by_more (lone_go more p.events_then p.mid last (all_moved one W) p.applications (rounds_hand n wide) p.by.beside p.go_then (all_timely one W (round_hands 0 wide) timely) passed.is (nothing_of (all_moved one W) wide passed))
    by_round p (inr e) = told_so e (cause_so W one i position e.before e.behind e.move e.are e.ended e.ended.cause)

  -- so many rounds, at least one
  some_go : (n : ℕ) (ess : List (List AppEvent)) (views last : Views s) (W : ByteWorld) (x : AppWorld) → SimulatesBy s W x views → MovesSimulate s (rounds_of (suc n) (length W.wires)) ess views last W x → IsTimely W → IsByteOpen i position W
      → IsLone (all_moved (rounds_of (suc n) (length W.wires)) W) ⊎ (AsksLate W (round_from 0 (length W.wires)) i position ⊎ FillsQueue W (rounds_of (suc n) (length W.wires)) position)
  some_go n ess views last W x by go timely is =
      let p = parts s (round_from 0 (length W.wires)) (rounds_of n (length W.wires)) ess views last W x by go in
      by_round n views last W x timely p (round_go 0 (length W.wires) (length W.wires) p.events views p.mid W x by.beside p.go timely (record { is = is; empty = none_below W; many = refl }))

  -- behind one of them nothing older is under way
  pub rounds_go : (n : ℕ) (ess : List (List AppEvent)) (views last : Views s) (W : ByteWorld) (x : AppWorld) → SimulatesBy s W x views → MovesSimulate s (rounds_of n (length W.wires)) ess views last W x → IsTimely W → IsByteOpen i position W
      → (IsByteOpen i position (all_moved (rounds_of n (length W.wires)) W) × (1 ≤ n → HasNothingOlder (all_moved (rounds_of n (length W.wires)) W) i position))
      ⊎ (AsksLate W (round_from 0 (length W.wires)) i position ⊎ FillsQueue W (rounds_of n (length W.wires)) position)
  rounds_go zero ess views last W x by go timely is = inl (is, λ some. absurd (omega (arith, some)))
  rounds_go (suc n) ess views last W x by go timely is = weaker (some_go n ess views last W x by go timely is)
    where
      weaker : IsLone (all_moved (rounds_of (suc n) (length W.wires)) W) ⊎ (AsksLate W (round_from 0 (length W.wires)) i position ⊎ FillsQueue W (rounds_of (suc n) (length W.wires)) position)
          → (IsByteOpen i position (all_moved (rounds_of (suc n) (length W.wires)) W) × (1 ≤ suc n → HasNothingOlder (all_moved (rounds_of (suc n) (length W.wires)) W) i position))
          ⊎ (AsksLate W (round_from 0 (length W.wires)) i position ⊎ FillsQueue W (rounds_of (suc n) (length W.wires)) position)
      weaker (inl lone) = inl (lone.0, λ some. lone.1)
      weaker (inr cause) = inr cause

  pub lone_rounds : (ms : List Move) (ess : List (List AppEvent)) (views last : Views s) (W : ByteWorld) (x : AppWorld) → AreHandings ms → Simulates s W x → MovesSimulate s ms ess views last W x → IsTimely W → IsByteOpen i position W → HasNothingOlder W i position
      → IsLone (all_moved ms W) ⊎ FillsQueue W ms position
  lone_rounds ms ess views last W x hands beside go timely is nothing = by (lone_go ms ess views last W x hands beside go timely is nothing)
    where
      by : IsLone (all_moved ms W) ⊎ IsFilledBy ms i position W → IsLone (all_moved ms W) ⊎ FillsQueue W ms position
      by (inl done) = inl done
      by (inr f) = inr (queue_so W ms i position f)
