-- A move that changes nothing leaves the worlds related.
use Rattle.std.proofs.Common.{◌≡◌, ℕ, ◌+◌, ◌≤◌, ◌==◌, Bool, true, false, List, [], Some, Err, length, refl, sym, ap, ◌∙◌, subst, if◌then◌else◌, arith, inl}
use Rattle.std.proofs.lemmas.Option.{same_Some}
use Rattle.std.specs.List.{slice_get}
use Rattle.cl_core.specs.UserCalls.{catch_up_answer, catches_up, say_answer, says as says_client_step}
use Rattle.cl_core.specs.declared.faults.CatchUpStart.{CatchUpStart}
use Rattle.cl_core.specs.declared.faults.SayFault.{SayFault}
use Rattle.cl_handlers.specs.Speech.{in_items}
use Rattle.sim_4_links_follow.proofs.Nobody.{not_over, nothing_down, nothing_up, of_nobody}
use Rattle.sim_4_links_follow.specs.Following.{IsOfNobody, IsOnNone}
use Rattle.sim_3_items.specs.Told.{local_part_of}
use Rattle.sim_3_items.specs.ItemMoves.{CatchUp, Close, Cut, Dial, Down, DownEnd, Forget, ItemMove, Say, Tick, Up, UpEnd, caught_up_by, moved, said_by, said_in}
use Rattle.sim_3_items.specs.ItemPipes.{ItemWire, is_end_due}
use Rattle.sim_3_items.specs.ItemWorlds.{ItemDevice, ItemWorld, silent_client_step}
use Rattle.cmd_schedule.specs.Schedules.{WireView}
use Rattle.sim_1_applications.specs.Devices.{AppWorld, Device}
use Rattle.sim_5_moves.specs.Running.{Bounds, IsAskedBy, MoveSimulates, RunsOn, WorldSimulates, said_at, spoken_by_move, spoken_where, DoesBy}
use Rattle.sim_5_moves.proofs.Doing.{nobody_does, none_does, refused_does, unasked_does}
use Rattle.sim_5_moves.proofs.ReadStanzas.{none_gives, nothing_read, unread_does}

more_or_none : (b : Bool) (n : ℕ) → n ≤ n + (if b then 1 else 0)
more_or_none true n = omega arith
more_or_none false n = omega arith

-- a device that stays asked for nothing
asked_same : (m : ItemMove) (w : ItemWorld) (i : ℕ) (d : Device) → IsAskedBy m w i d d
asked_same (Dial device mine yours) w i d = refl
asked_same (Forget device) w i d = refl
asked_same (Close device) w i d = refl
asked_same (Say device to text private) w i d = refl
asked_same (CatchUp device most) w i d = more_or_none (i == device) d.reading.asked
asked_same (Tick milliseconds) w i d = refl
asked_same (Up position) w i d = refl
asked_same (Down position) w i d = ((λ un. (refl, un), inl refl), λ wire there other. (refl, λ un. un))
asked_same (UpEnd position) w i d = refl
asked_same (DownEnd position) w i d = refl
asked_same (Cut position up down) w i d = refl

module _ (schedule : WireView) (b : Bounds) (says : ℕ) (w : ItemWorld) (x : AppWorld) (runs : WorldSimulates schedule b says w x) where
  pub still_runs : (m : ItemMove) → moved m w ≡ w → spoken_by_move m w ≡ [] → ((i : ℕ) → DoesBy m w i []) → MoveSimulates schedule b says m w x runs
  still_runs m same silent nothing = record {
    events = [];
    next = x;
    reaches = refl;
    spoken = sym silent;
    asked = λ i d e there here. subst (IsAskedBy m w i d) (same_Some d e (sym there ∙ here)) (asked_same m w i d);
    runs = on.runs;
    links = on.links;
  }
    where
      on : RunsOn schedule b says w x runs (DoesBy m w) (says + length (spoken_by_move m w)) (moved m w) x
      on =
          subst (λ n. RunsOn schedule b says w x runs (DoesBy m w) n (moved m w) x) (let none = ap length silent in let e : says ≡ says + length (spoken_by_move m w) = omega arith in e)
          (subst (λ v. RunsOn schedule b says w x runs (DoesBy m w) says v x) (sym same) (record { runs = runs; links = λ i o is. ([], refl, nothing i) }))

  -- ---- of nobody

  nobody_speaks : (m : ItemMove) → IsOfNobody m w → spoken_by_move m w ≡ []
  nobody_speaks (Dial device mine yours) none = refl
  nobody_speaks (Forget device) none = refl
  nobody_speaks (Close device) none = refl
  nobody_speaks (Say device to text private) none = ap (said_at device to text private) none
  nobody_speaks (CatchUp device most) none = refl
  nobody_speaks (Tick milliseconds) none = absurd none
  nobody_speaks (Up position) none = refl
  nobody_speaks (Down position) none = refl
  nobody_speaks (UpEnd position) none = refl
  nobody_speaks (DownEnd position) none = refl
  nobody_speaks (Cut position up down) none = refl

  pub nobody_runs : (m : ItemMove) → IsOfNobody m w → MoveSimulates schedule b says m w x runs
  nobody_runs m none = still_runs m (of_nobody m w none) (nobody_speaks m none) (nobody_does m w none)

  -- ---- nothing to hand over

  pub up_runs : (position : ℕ) (wire : ItemWire) → slice_get w.wires position ≡ Some wire → wire.up.items ≡ [] → MoveSimulates schedule b says (Up position) w x runs
  up_runs position wire there none = still_runs (Up position) (nothing_up w position wire there none) refl (λ i. unread_does position w i (nothing_read position w wire there none i) (none_gives position w wire there [] none (λ who. refl) i))

  pub told_runs : (position : ℕ) (wire : ItemWire) → slice_get w.wires position ≡ Some wire → is_end_due wire.up ≡ false → MoveSimulates schedule b says (UpEnd position) w x runs
  told_runs position wire there due = still_runs (UpEnd position) (not_over w position wire there due) refl (λ i. refl)

  pub down_runs : (position : ℕ) (wire : ItemWire) → slice_get w.wires position ≡ Some wire → IsOnNone position wire w → MoveSimulates schedule b says (Down position) w x runs
  down_runs position wire there none = still_runs (Down position) (nothing_down w position wire there none) refl (none_does position wire w there none)

  -- ---- refused

  pub says_refused : (position : ℕ) (to text : List ℕ) (private : Bool) (d : ItemDevice) (fault : SayFault) → slice_get w.devices position ≡ Some d → say_answer d.client text ≡ Err fault → MoveSimulates schedule b says (Say position to text private) w x runs
  says_refused position to text private d fault there answer =
      still_runs (Say position to text private)
      (ap (λ o. said_by position to text private o w) there ∙ ap (λ r. said_in r position d (says_client_step in_items (silent_client_step d.client) to text private) w) answer)
      (ap (said_at position to text private) there ∙ ap (λ r. spoken_where r (record { device = position; to = local_part_of to; text = text; private = private })) answer)
      (refused_does w position to text private d fault there answer)

  pub asks_refused : (position most : ℕ) (d : ItemDevice) (fault : CatchUpStart) → slice_get w.devices position ≡ Some d → catch_up_answer d.client ≡ Err fault → MoveSimulates schedule b says (CatchUp position most) w x runs
  asks_refused position most d fault there answer =
      still_runs (CatchUp position most)
      (ap (λ o. caught_up_by position most o w) there ∙ ap (λ r. said_in r position d (catches_up in_items (silent_client_step d.client) most) w) answer) refl (unasked_does w position most d fault there answer)
