-- A connection that a device has stays open in a world of bytes, whatever bytes are handed over; but for two causes.
use Rattle.std.proofs.Common.{◌≡◌, ◌≢◌, ◌⊎◌, ℕ, zero, suc, ◌+◌, ◌≤◌, ◌==◌, ◌&&◌, Bool, true, false, cond, List, [], ◌∷◌, ◌++◌, Option, None, Some, append_assoc, refl, sym, ap, ◌∙◌, subst, inl, inr}
use Rattle.std.proofs.lemmas.Bool.{cases_eq}
use Rattle.std.proofs.lemmas.Option.{none-some, same_Some}
use Rattle.std.specs.List.{slice_get, slice_set}
use Rattle.std.specs.Prelude.{take}
use Rattle.cl_core.specs.Feeds.{bytes_step}
use Rattle.cl_handlers.specs.Speech.{in_bytes}
use Rattle.cmd_network.specs.Devices.{DeviceState, after_step, has_wire, hears, is_left, loses, silent}
use Rattle.cmd_network.specs.Positions.{changed_at, changed_under}
use Rattle.cmd_network.specs.Wires as wires
use Rattle.cmd_network.specs.Wires.{amount, handed_down, handed_up, put_down, put_up, shut, up_end_reported}
use Rattle.cmd_network.specs.declared.wire.Wire.{Wire}
use Rattle.cmd_schedule.specs.Contents.{Owned}
use Rattle.cmd_schedule.specs.LineLists.{IsLineList}
use Rattle.cmd_schedule.specs.Schedules.{WireView}
use Rattle.cmd_schedule.specs.declared.schedule.Count.{Count}
use Rattle.cmd_schedule.specs.declared.schedule.Version.{Version}
use Rattle.cmd_world.specs.Effects.{Effects, all_emitted, effects_of, emitted}
use Rattle.cmd_world.specs.Moves.{Down, Link, Move, Up, down_by, down_to, end_heard, heard, heard_by, heard_first, left_where, link_of, moved, reported_up, served, served_by, step_of_piece}
use Rattle.cmd_world.specs.WorldReports.{is_open}
use Rattle.cmd_world.specs.Worlds.{ByteWorld, number_at}
use Rattle.cmd_world.proofs.UpDevices.{up_devices}
use Rattle.net_pipes.specs.Pipes.{is_end_due}
use Rattle.sim_1_applications.specs.Devices.{AppWorld}
use Rattle.sim_3_images.proofs.NetworkMoves.{found_both}
use Rattle.sim_3_images.proofs.UpMoves.{moved_joined}
use Rattle.sim_3_images.specs.ItemRuns.{AreServedUps, downs, moved_where, ups}
use Rattle.sim_3_images.specs.Relayable.{ClientFits, DownFits, ServerFits, UpFits}
use Rattle.sim_3_images.specs.Stands.{StandingServers}
use Rattle.sim_3_images.specs.WorldEncodings.{Both, DeviceEncodes, IsMoved, WireAt}
use Rattle.sim_3_images.proofs.PutSteps.{ended_entered}
use Rattle.sim_3_items.specs.ItemMoves as items
use Rattle.sim_3_items.specs.ItemMoves.{DownEnd, ItemMove, Tick, UpEnd}
use Rattle.sim_3_items.specs.ItemWorlds.{ItemWorld}
use Rattle.sim_5_moves.specs.Running.{IsOwned, MoveSimulates}
use Rattle.sim_7_schedules.proofs.ByteMoves.{IsTimely, is_moved}
use Rattle.sim_7_schedules.proofs.Handing.{IsHanding}
use Rattle.sim_7_schedules.proofs.Moves.{each_runs}
use Rattle.sim_7_schedules.proofs.OpenDowns.{IsHearing, down_end_elsewhere, down_end_here, downs_elsewhere, downs_go, widened}
use Rattle.sim_7_schedules.proofs.OpenItems.{IsCause, IsOpen, IsStopped, tick_open, up_end_open, ups_go}
use Rattle.sim_7_schedules.specs.Simulation.{IsEncoded, Simulates, bounds}
use Rattle.srv_core.specs.Events.{after_gone}
use Rattle.srv_state.specs.State.{Out, Put, Shut, Took}
use Rattle.law_payloads.specs.AsRead.{last_moment}

-- ---- what ended a connection ended its pipes

abbrev IsOpenOr : Wire → Type 0
IsOpenOr b = (is_open b.end ≡ true) ⊎ (b.up.ended ≡ true)

abbrev pub OpenOrAt : ℕ → List Wire → Type 0
OpenOrAt p ws = (b : Wire) → slice_get ws p ≡ Some b → (is_open b.end ≡ true) ⊎ (b.up.ended ≡ true)

changed_so : (f : Wire → Wire) → ((b : Wire) → IsOpenOr b → IsOpenOr (f b)) → (q p : ℕ) (ws : List Wire) → OpenOrAt p ws → OpenOrAt p (changed_at q f ws)
changed_so f keeps q p [] so b at = so b at
changed_so f keeps zero zero (w ∷ ws) so b at = subst IsOpenOr (same_Some (f w) b at) (keeps w (so w refl))
changed_so f keeps zero (suc p) (w ∷ ws) so b at = so b at
changed_so f keeps (suc q) zero (w ∷ ws) so b at = so b at
changed_so f keeps (suc q) (suc p) (w ∷ ws) so b at = changed_so f keeps q p ws (λ c there. so c there) b at

under_so : (f : Wire → Wire) → ((b : Wire) → IsOpenOr b → IsOpenOr (f b)) → (k p : ℕ) (ws : List Wire) → OpenOrAt p ws → OpenOrAt p (changed_under k f ws)
under_so f keeps zero p ws so b at = so b at
under_so f keeps (suc q) p ws so b at = changed_so f keeps q p ws so b at

set_so : (ws : List Wire) (q p : ℕ) (new : Wire) → (q ≡ p → IsOpenOr new) → OpenOrAt p ws → OpenOrAt p (slice_set ws q new)
set_so [] q p new is so b at = so b at
set_so (w ∷ ws) zero zero new is so b at = subst IsOpenOr (same_Some new b at) (is refl)
set_so (w ∷ ws) zero (suc p) new is so b at = so b at
set_so (w ∷ ws) (suc q) zero new is so b at = so b at
set_so (w ∷ ws) (suc q) (suc p) new is so b at = set_so ws q p new (λ e. is (ap suc e)) (λ c there. so c there) b at

emitted_so : (version : Version) (moment : ℕ) (out : Out (List ℕ)) (p : ℕ) (e : Effects) → OpenOrAt p e.wires → OpenOrAt p (emitted version moment out e).wires
emitted_so version moment (Put k bytes) p e so = under_so (put_down bytes) (λ b is. is) k p e.wires so
emitted_so version moment (Shut k) p e so = under_so shut (λ b is. inr refl) k p e.wires so
emitted_so version moment (Took from to origin) p e so = so

all_emitted_so : (version : Version) (moment : ℕ) (outs : List (Out (List ℕ))) (p : ℕ) (e : Effects) → OpenOrAt p e.wires → OpenOrAt p (all_emitted version moment outs e).wires
all_emitted_so version moment [] p e so = so
all_emitted_so version moment (out ∷ outs) p e so = all_emitted_so version moment outs p (emitted version moment out e) (emitted_so version moment out p e so)

-- the one of a place is that of the same place
so_there : (q p : ℕ) (ws : List Wire) (wire : Wire) → OpenOrAt p ws → slice_get ws q ≡ Some wire → q ≡ p → IsOpenOr wire
so_there q p ws wire so there same = so wire (subst (λ n. slice_get ws n ≡ Some wire) same there)

up_so : (q : ℕ) (count : Count) (W : ByteWorld) (p : ℕ) → OpenOrAt p W.wires → OpenOrAt p (moved (Up q count) W).wires
up_so q count W p so = told (slice_get (served_by q count (slice_get W.wires q) W).wires q) (served_by q count (slice_get W.wires q) W) refl (of_wire (slice_get W.wires q) refl)
  where
    chosen : (b : Bool) (wire : Wire) (V : ByteWorld) → slice_get V.wires q ≡ Some wire → OpenOrAt p V.wires → OpenOrAt p (cond b (record V { server = after_gone (number_at q) V.moment V.server; wires = slice_set V.wires q (up_end_reported wire) }) V).wires
    chosen true wire V there was = set_so V.wires q p (up_end_reported wire) (λ same. so_there q p V.wires wire was there same) was
    chosen false wire V there was = was

    told : (o : Option Wire) (V : ByteWorld) → slice_get V.wires q ≡ o → OpenOrAt p V.wires → OpenOrAt p (reported_up q o V).wires
    told None V is was = was
    told (Some wire) V is was = chosen (is_end_due wire.up) wire V is was

    first : (b : Bool) (n : ℕ) (wire : Wire) → slice_get W.wires q ≡ Some wire → OpenOrAt p (cond b W (served q n wire W)).wires
    first true n wire there = so
    first false n wire there =
        all_emitted_so W.version W.moment (step_of_piece (number_at q) (take n wire.up.bytes) W.moment W.server).outs p (effects_of (slice_set W.wires q (handed_up n wire)) W.takes)
        (set_so W.wires q p (handed_up n wire) (λ same. so_there q p W.wires wire so there same) so)

    of_wire : (o : Option Wire) → slice_get W.wires q ≡ o → OpenOrAt p (served_by q count o W).wires
    of_wire None is = so
    of_wire (Some wire) is = first (amount count wire.up == 0) (amount count wire.up) wire is

-- what is put behind it
put_so : (bytes : List ℕ) (b : Wire) → IsOpenOr b → IsOpenOr (put_up bytes b)
put_so bytes b (inl open_end) = inl open_end
put_so bytes b (inr ended) = inr (ended_entered bytes b.up ∙ ended)

left_so : (is_gone : Bool) (b : Wire) → IsOpenOr b → IsOpenOr (left_where is_gone b)
left_so true b so = inr refl
left_so false b so = so

module _ (q : ℕ) (count : Count) where
  first_so : (n : ℕ) (l : Link) → IsOpenOr l.wire → IsOpenOr (heard_first n l).wire
  first_so n l so = by (n == 0)
    where
      by : (b : Bool) → IsOpenOr (cond b l (heard n (hears (take n l.wire.down.bytes) l.device) l)).wire
      by true = so
      by false =
          let s = hears (take n l.wire.down.bytes) l.device in
          left_so (is_left s.device.client) (put_up s.put (handed_down n l.wire)) (put_so s.put (handed_down n l.wire) so)

  end_so : (l : Link) → IsOpenOr l.wire → IsOpenOr (end_heard q l).wire
  end_so l so = by (has_wire q l.device.here && is_end_due l.wire.down)
    where
      by : (b : Bool) → IsOpenOr (cond b (link_of (wires.down_end_reported l.wire) (loses l.device)) l).wire
      by true = so
      by false = so

  link_so : (l : Link) → IsOpenOr l.wire → IsOpenOr (heard_by q count l).wire
  link_so l so = by (has_wire q l.device.here)
    where
      by : (b : Bool) → IsOpenOr (cond b (end_heard q (heard_first (amount count l.wire.down) l)) l).wire
      by true = end_so (heard_first (amount count l.wire.down) l) (first_so (amount count l.wire.down) l so)
      by false = so

  down_so : (W : ByteWorld) (p : ℕ) → OpenOrAt p W.wires → OpenOrAt p (moved (Down q count) W).wires
  down_so W p so = of_wire (slice_get W.wires q) refl
    where
      of_device : (wire : Wire) (o : Option DeviceState) → slice_get W.wires q ≡ Some wire → OpenOrAt p (down_to q count wire o W).wires
      of_device wire None there = so
      of_device wire (Some d) there = set_so W.wires q p (heard_by q count (link_of wire d)).wire (λ same. link_so (link_of wire d) (so_there q p W.wires wire so there same)) so

      of_wire : (o : Option Wire) → slice_get W.wires q ≡ o → OpenOrAt p (down_by q count o W).wires
      of_wire None is = so
      of_wire (Some wire) is = of_device wire (slice_get W.devices wire.device) is

pub hand_so : (m : Move) (W : ByteWorld) (p : ℕ) → IsHanding m → OpenOrAt p W.wires → OpenOrAt p (moved m W).wires
hand_so (Up q count) W p is so = up_so q count W p so
hand_so (Down q count) W p is so = down_so q count W p so
hand_so _ W p is so = absurd is

-- ---- the newest connection of a device

abbrev pub newest_of : Option DeviceState → Option ℕ
newest_of None = None
newest_of (Some d) = d.newest

set_newest : (ds : List DeviceState) (k i : ℕ) (new old : DeviceState) → slice_get ds k ≡ Some old → new.newest ≡ old.newest → newest_of (slice_get (slice_set ds k new) i) ≡ newest_of (slice_get ds i)
set_newest [] k i new old found same = refl
set_newest (d ∷ ds) zero zero new old found same = same ∙ ap (λ (e : DeviceState). e.newest) (sym (same_Some d old found))
set_newest (d ∷ ds) zero (suc i) new old found same = refl
set_newest (d ∷ ds) (suc k) zero new old found same = refl
set_newest (d ∷ ds) (suc k) (suc i) new old found same = set_newest ds k i new old found same

unless_newest : (b : Bool) (d : DeviceState) → (cond b (record d { here = None }) d).newest ≡ d.newest
unless_newest true d = refl
unless_newest false d = refl

heard_newest : (q : ℕ) (count : Count) (l : Link) → (heard_by q count l).device.newest ≡ l.device.newest
heard_newest q count l = by (has_wire q l.device.here)
  where
    first : (n : ℕ) (b : Bool) → (cond b l (heard n (hears (take n l.wire.down.bytes) l.device) l)).device.newest ≡ l.device.newest
    first n true = refl
    first n false = let d = (after_step (bytes_step in_bytes (silent l.device.client) (take n l.wire.down.bytes)) l.device).device in unless_newest (is_left d.client) d

    ended : (k : Link) (b : Bool) → (cond b (link_of (wires.down_end_reported k.wire) (loses k.device)) k).device.newest ≡ k.device.newest
    ended k true = refl
    ended k false = refl

    by : (b : Bool) → (cond b (end_heard q (heard_first (amount count l.wire.down) l)) l).device.newest ≡ l.device.newest
    by true =
        let k = heard_first (amount count l.wire.down) l in
        ended k (has_wire q k.device.here && is_end_due k.wire.down) ∙ first (amount count l.wire.down) (amount count l.wire.down == 0)
    by false = refl

down_newest : (q : ℕ) (count : Count) (W : ByteWorld) (i : ℕ) → newest_of (slice_get (moved (Down q count) W).devices i) ≡ newest_of (slice_get W.devices i)
down_newest q count W i = of_wire (slice_get W.wires q)
  where
    of_device : (wire : Wire) (o : Option DeviceState) → slice_get W.devices wire.device ≡ o → newest_of (slice_get (down_to q count wire o W).devices i) ≡ newest_of (slice_get W.devices i)
    of_device wire None none = refl
    of_device wire (Some d) there = set_newest W.devices wire.device i (heard_by q count (link_of wire d)).device d there (heard_newest q count (link_of wire d))

    of_wire : (o : Option Wire) → newest_of (slice_get (down_by q count o W).devices i) ≡ newest_of (slice_get W.devices i)
    of_wire None = refl
    of_wire (Some wire) = of_device wire (slice_get W.devices wire.device) refl

hand_newest : (m : Move) (W : ByteWorld) (i : ℕ) → IsHanding m → newest_of (slice_get (moved m W).devices i) ≡ newest_of (slice_get W.devices i)
hand_newest (Up q count) W i is = ap (λ ds. newest_of (slice_get ds i)) (up_devices q count W)
hand_newest (Down q count) W i is = down_newest q count W i
hand_newest _ W i is = absurd is

-- ---- an open connection

pub record IsByteOpen (i position : ℕ) (W : ByteWorld) : Type 0 where
  pub wire : Wire
  pub there : slice_get W.wires position ≡ Some wire
  pub of : wire.device ≡ i
  pub flows : wire.up.ended ≡ false
  pub device : DeviceState
  pub has : slice_get W.devices i ≡ Some device
  pub here : device.here ≡ Some position
  pub newest : device.newest ≡ Some position

to_items : (i position : ℕ) (W : ByteWorld) (v : ItemWorld) → IsEncoded W v → IsByteOpen i position W → IsOpen i position v
to_items i position W v encodes is =
    let wire = found_both (WireAt W v position) is.wire (slice_get W.wires position) (slice_get v.wires position) is.there (encodes.encoding.wires position) in
    let device = found_both DeviceEncodes is.device (slice_get W.devices i) (slice_get v.devices i) is.has (encodes.encoding.devices i) in
    record {
      wire = wire.other;
      there = wire.is;
      of = sym wire.holds.device ∙ is.of;
      flows = sym wire.holds.up.ended ∙ is.flows;
      device = device.other;
      has = device.is;
      here = sym device.holds.here ∙ is.here;
    }

other_some : {A B : Type 0} (R : A → B → Type 0) (oa : Option A) (ob : Option B) (b : B) → ob ≡ Some b → Both R oa ob → (a : A) × (oa ≡ Some a) × R a b
other_some R oa None b is both = absurd (none-some b is)
other_some R None (Some y) b is both = absurd both
other_some R (Some x) (Some y) b is both = (x, refl, subst (λ z. R x z) (same_Some y b is) both)

from_items : (i position : ℕ) (W : ByteWorld) (v : ItemWorld) → IsEncoded W v → newest_of (slice_get W.devices i) ≡ Some position → IsOpen i position v → IsByteOpen i position W
from_items i position W v encodes newest is =
    let wire = other_some (WireAt W v position) (slice_get W.wires position) (slice_get v.wires position) is.wire is.there (encodes.encoding.wires position) in
    let device = other_some DeviceEncodes (slice_get W.devices i) (slice_get v.devices i) is.device is.has (encodes.encoding.devices i) in
    record {
      wire = wire.0;
      there = wire.1;
      of = wire.2.device ∙ is.of;
      flows = wire.2.up.ended ∙ is.flows;
      device = device.0;
      has = device.1;
      here = device.2.here ∙ is.here;
      newest = ap newest_of (sym device.1) ∙ newest;
    }

-- ---- a move

-- in the midst of it one of the causes comes
pub record IsEndedIn (m : Move) (i position : ℕ) (W : ByteWorld) : Type 0 where
  pub beside : ItemWorld
  pub encodes : IsEncoded W beside
  pub run : IsMoved UpFits DownFits (StandingServers ServerFits) ClientFits m W beside
  pub from : ℕ
  pub done : List ItemMove
  pub later : List ItemMove
  pub now : run.moves ≡ done ++ items.Up from ∷ later
  pub cause : IsCause i position from (items.all_moved done beside)

module _ (s : WireView) (right : IsLineList s) (i : ℕ) (o : Owned) (owned : IsOwned s i o) (position : ℕ) (W : ByteWorld) (x : AppWorld) (here : Simulates s W x) (timely : IsTimely W) (is : IsByteOpen i position W) where
  abbrev v : ItemWorld
  v = here.items

  opens : IsOpen i position v
  opens = to_items i position W v here.encodes is

  newest : newest_of (slice_get W.devices i) ≡ Some position
  newest = ap newest_of is.has ∙ is.newest

  -- behind a move of which this is so
  behind : (m : Move) → IsHanding m → (r : IsMoved UpFits DownFits (StandingServers ServerFits) ClientFits m W v) → IsOpen i position (items.all_moved r.moves v) → IsByteOpen i position (moved m W)
  behind m hands r so = from_items i position (moved m W) (items.all_moved r.moves v) r.encodes (hand_newest m W i hands ∙ newest) so

  -- ---- to the server

  module _ (q : ℕ) (count : Count) where
    r : IsMoved UpFits DownFits (StandingServers ServerFits) ClientFits (Up q count) W v
    r = is_moved (Up q count) W v tt here.encodes

    ends : (ended : Bool) (w : ItemWorld) → IsOpen i position w → IsOpen i position (items.all_moved (moved_where (UpEnd q) ended) w)
    ends true w so = up_end_open i position q w so
    ends false w so = so

    module _ (first : List ItemMove) (ended : Bool) (are : r.moves ≡ first ++ moved_where (UpEnd q) ended) where
      abbrev tail : List ItemMove
      tail = moved_where (UpEnd q) ended

      goes_so : (ms : List ItemMove) → first ≡ ms → IsOpen i position (items.all_moved ms v) → IsByteOpen i position (moved (Up q count) W)
      goes_so ms same so =
          behind (Up q count) tt r (subst (λ l. IsOpen i position (items.all_moved l v)) (sym are)
          (subst (λ l. IsOpen i position (items.all_moved (l ++ tail) v)) (sym same)
          (subst (IsOpen i position) (sym (moved_joined ms tail v)) (ends ended (items.all_moved ms v) so))))

      tick : MoveSimulates s bounds here.says (Tick 0) v x here.runs
      tick = each_runs s right (Tick 0) here.says v x tt here.runs tt

      abbrev ticked : ItemWorld
      ticked = items.moved (Tick 0) v

      stopped : (n : ℕ) → first ≡ Tick 0 ∷ ups q n → IsStopped i position q n ticked → IsEndedIn (Up q count) i position W
      stopped n same stop = record {
        beside = v;
        encodes = here.encodes;
        run = r;
        from = q;
        done = Tick 0 ∷ stop.done;
        later = stop.later ++ tail;
        now = are ∙ ap (λ l. l ++ tail) same ∙ ap (λ l. Tick 0 ∷ (l ++ tail)) stop.are ∙ ap (λ l. Tick 0 ∷ l) (append_assoc stop.done (items.Up q ∷ stop.later) tail);
        cause = stop.cause;
      }

      by_ups : (n : ℕ) → first ≡ Tick 0 ∷ ups q n → IsOpen i position (items.all_moved (ups q n) ticked) ⊎ IsStopped i position q n ticked → IsByteOpen i position (moved (Up q count) W) ⊎ IsEndedIn (Up q count) i position W
      by_ups n same (inl so) = inl (goes_so (Tick 0 ∷ ups q n) same so)
      by_ups n same (inr stop) = inr (stopped n same stop)

      by_first : AreServedUps q first → IsByteOpen i position (moved (Up q count) W) ⊎ IsEndedIn (Up q count) i position W
      by_first (inl none) = inl (goes_so [] none opens)
      by_first (inr (n, same)) = by_ups n same (ups_go s right i o owned position q n (here.says + 0) ticked tick.next tick.runs (tick_open i position v opens))

    up_goes : IsByteOpen i position (moved (Up q count) W) ⊎ IsEndedIn (Up q count) i position W
    up_goes = by_first r.is_run.0 r.is_run.1 r.is_run.3 r.is_run.2

  -- ---- to a device

  module _ (q : ℕ) (count : Count) where
    r_down : IsMoved UpFits DownFits (StandingServers ServerFits) ClientFits (Down q count) W v
    r_down = is_moved (Down q count) W v tt here.encodes

    hearing : IsHearing s i position here.says v x
    hearing = record {
      runs = widened s here.says v x here.runs;
      timely = subst (λ m. m ≤ last_moment) here.encodes.encoding.moment timely;
      is_open = opens;
      few = λ e there. inl (here.runs.in_bounds.asked i e there);
    }

    down_so_far : (n : ℕ) (ended : Bool) → IsOpen i position (items.all_moved (downs q n ++ moved_where (DownEnd q) ended) v)
    down_so_far n ended =
        subst (IsOpen i position) (sym (moved_joined (downs q n) (moved_where (DownEnd q) ended) v))
        (elim (cases_eq q position) [ inl same ↦ subst (λ j. IsOpen i position (items.all_moved (moved_where (DownEnd j) ended) (items.all_moved (downs j n) v))) (sym same) (at_itself ended) | inr apart ↦ elsewhere apart ended ])
      where
        goes : (more : ℕ) × (y : AppWorld) × IsHearing s i position more (items.all_moved (downs position n) v) y
        goes = downs_go s right i o owned position n here.says v x hearing

        at_itself : (b : Bool) → IsOpen i position (items.all_moved (moved_where (DownEnd position) b) (items.all_moved (downs position n) v))
        at_itself true = down_end_here s i o owned position goes.0 (items.all_moved (downs position n) v) goes.1 goes.2
        at_itself false = goes.2.is_open

        elsewhere : q ≢ position → (b : Bool) → IsOpen i position (items.all_moved (moved_where (DownEnd q) b) (items.all_moved (downs q n) v))
        elsewhere apart true = down_end_elsewhere i position q apart (items.all_moved (downs q n) v) (downs_elsewhere i position q apart n v opens)
        elsewhere apart false = downs_elsewhere i position q apart n v opens

    down_goes : IsByteOpen i position (moved (Down q count) W)
    down_goes = behind (Down q count) tt r_down (subst (λ l. IsOpen i position (items.all_moved l v)) (sym r_down.is_run.2) (down_so_far r_down.is_run.0 r_down.is_run.1))

  pub hand_goes : (m : Move) → IsHanding m → IsByteOpen i position (moved m W) ⊎ IsEndedIn m i position W
  hand_goes (Up q count) hands = up_goes q count
  hand_goes (Down q count) hands = inl (down_goes q count)
  hand_goes _ hands = absurd hands
