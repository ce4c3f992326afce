-- Where no older connection of a device has bytes under way to the server, none comes to have any in a run, and no late word
-- comes.
use Rattle.std.proofs.Common.{◌≡◌, ◌≢◌, ℕ, zero, suc, ◌+◌, ◌==◌, ◌&&◌, Bool, true, false, cond, List, [], ◌∷◌, ◌++◌, Option, None, Some, refl, sym, ap, ◌∙◌, subst, inl, inr}
use Rattle.std.proofs.lemmas.Bool.{eqb-true}
use Rattle.std.proofs.lemmas.Option.{none-some, same_Some}
use Rattle.std.specs.List.{AllByRecursion, slice_get, slice_set}
use Rattle.std.specs.Prelude.{drop, take}
use Rattle.cmd_network.specs.Devices.{DeviceState, has_wire, hears, is_left, loses}
use Rattle.cmd_network.specs.Positions.{changed_at, changed_under}
use Rattle.cmd_network.specs.Wires.{amount, down_end_reported, handed_down, handed_up, put_down, put_up, shut, up_end_reported}
use Rattle.cmd_network.specs.declared.wire.Wire.{Wire}
use Rattle.cmd_schedule.specs.declared.schedule.Count.{Count}
use Rattle.cmd_schedule.specs.declared.schedule.Version.{Version}
use Rattle.cmd_world.specs.Effects.{Effects, all_emitted, effects_of, emitted}
use Rattle.cmd_world.specs.Moves.{Down, Link, Move, Up, down_by, down_to, end_heard, heard, heard_by, heard_first, link_of, moved, reported_up, served, served_by, step_of_piece}
use Rattle.cmd_world.specs.Worlds.{ByteWorld, number_at}
use Rattle.net_pipes.specs.Pipes.{Pipe, is_end_due}
use Rattle.sim_3_images.proofs.PipeSteps.{due_encodes, empty_encodes}
use Rattle.sim_3_images.specs.ItemRuns.{AreServedUps, downs, moved_where, ups}
use Rattle.sim_3_images.specs.PipeEncodings.{IsCarried, PipeEncodes, over, standing}
use Rattle.sim_3_images.specs.WorldEncodings.{Both, WireAt}
use Rattle.sim_3_images.proofs.DownMoves.{left_device}
use Rattle.sim_3_items.specs.ItemMoves as items
use Rattle.sim_3_items.specs.ItemMoves.{ItemMove, Tick, UpEnd, all_moved}
use Rattle.sim_3_items.specs.ItemPipes as pipes
use Rattle.sim_3_items.specs.ItemPipes.{ItemPipe, ItemWire}
use Rattle.sim_3_items.specs.ItemWorlds.{ItemWorld}
use Rattle.sim_4_links_follow.specs.Taking.{on_item}
use Rattle.sim_7_schedules.proofs.Handing.{IsHanding}
use Rattle.sim_7_schedules.proofs.LatePipes.{IsLeft, at_here, emitted_left}
use Rattle.sim_7_schedules.proofs.OpenBytes.{IsByteOpen, IsEndedIn}
use Rattle.sim_7_schedules.proofs.OpenItems.{AsksHere}
use Rattle.sim_7_schedules.specs.Calm.{HasNothingOlder}
use Rattle.sim_7_schedules.specs.Simulation.{IsEncoded}
use Rattle.srv_core.specs.Events.{after_gone}
use Rattle.srv_state.specs.State.{Out, Put, ServerState, Shut, Took}
use Rattle.srv_state.specs.Moments.{at_moment, gone_at}
use Rattle.xml_framer.specs.States.{State}
use Rattle.xml_framer.specs.declared.limits.Limits.{Limits}
use Rattle.xml_framer.specs.declared.states.Phase.{Phase}
use Rattle.xml_writer.specs.Items.{ItemOut}

drop_none : (n : ℕ) (bytes : List ℕ) → bytes ≡ [] → drop n bytes ≡ []
drop_none zero bytes none = none
drop_none (suc n) [] none = refl
drop_none (suc n) (x ∷ bytes) none = absurd (let no_way : ⊥ = cc in no_way)

no_first : (x : ItemOut) (xs : List ItemOut) → x ∷ xs ≡ [] → ⊥
no_first x xs none = let no_way : ⊥ = cc in no_way

-- ---- no bytes, and no items

no_items : (limits : Limits) (writer : Option Phase) (reader : Option State) (b : Pipe) (p : ItemPipe) → PipeEncodes limits writer reader b p → b.bytes ≡ [] → p.items ≡ []
no_items limits writer reader b p i none = by i.carried
  where
    ended_so : (f : State) (is : reader ≡ Some f) → PipeEncodes limits writer reader (record b { told = false }) (record p { told = false }) → b.ended ≡ true → p.items ≡ []
    ended_so f is e ended = due_encodes limits writer reader (record b { told = false }) (record p { told = false }) e (rw (none, ended) refl)

    by : IsCarried limits writer reader b p → p.items ≡ []
    by (over o) = o.no_items
    by (standing f is st) = either b.ended refl
      where
        either : (e : Bool) → b.ended ≡ e → p.items ≡ []
        either false e = empty_encodes limits writer reader b p i e none
        either true e = ended_so f is (record {
          ended = i.ended;
          told = refl;
          carried = standing f is (record {
            start = st.start;
            part = st.part;
            items = st.items;
            following = st.following;
            held_is = st.held_is;
            carries = record { no_fault = st.carries.no_fault; none_given = st.carries.none_given; are_items = st.carries.are_items };
            read = st.read;
            awaits = st.awaits;
          });
        }) e

-- ---- moves of items

-- nothing is on its way up on a connection, where it is this device's
abbrev IsQuiet : ℕ → ℕ → ItemWorld → Type 0
IsQuiet i q w = (u : ItemWire) → slice_get w.wires q ≡ Some u → u.device ≡ i → u.up.items ≡ []

-- moves of a piece that goes up there
abbrev IsUpOf : ℕ → ItemMove → Type 0
IsUpOf q (Tick ms) = ms ≡ 0
IsUpOf q (items.Up p) = p ≡ q
IsUpOf q (UpEnd p) = p ≡ q
IsUpOf q _ = ⊥

up_quiet : (i q : ℕ) (w : ItemWorld) → IsQuiet i q w → IsQuiet i q (items.moved (items.Up q) w)
up_quiet i q w quiet = by_wire (slice_get w.wires q) refl
  where
    by_items : (wire : ItemWire) (l : List ItemOut) → slice_get w.wires q ≡ Some wire → wire.up.items ≡ l → IsQuiet i q (items.served_first q l w)
    by_items wire [] there pipe u at of = quiet u at of
    by_items wire (z ∷ rest) there pipe u at of =
        let outs = (on_item (q + 1) z w.server).outs in
        let l : IsLeft (pipes.handed_up wire) (items.all_emitted outs (changed_at q pipes.handed_up w.wires)) q = emitted_left outs q (changed_at q pipes.handed_up w.wires) (pipes.handed_up wire) (at_here pipes.handed_up q w.wires wire there) in
        let device : wire.device ≡ i = sym l.device ∙ ap (λ (y : ItemWire). y.device) (same_Some l.wire u (sym l.there ∙ at)) ∙ of in
        let none = quiet wire there device in
        absurd (no_first z rest (sym pipe ∙ none))

    by_wire : (e : Option ItemWire) → slice_get w.wires q ≡ e → IsQuiet i q (items.served_by q e w)
    by_wire None there = quiet
    by_wire (Some wire) there = by_items wire wire.up.items there refl

told_there : (q : ℕ) (wires : List ItemWire) (u : ItemWire) → slice_get (changed_at q pipes.up_end_reported wires) q ≡ Some u → (v : ItemWire) × (slice_get wires q ≡ Some v) × (u ≡ pipes.up_end_reported v)
told_there q [] u at = absurd (none-some u at)
told_there zero (v ∷ wires) u at = (v, refl, sym (same_Some (pipes.up_end_reported v) u at))
told_there (suc q) (v ∷ wires) u at = told_there q wires u at

end_quiet : (i q : ℕ) (w : ItemWorld) → IsQuiet i q w → IsQuiet i q (items.moved (UpEnd q) w)
end_quiet i q w quiet = by_wire (slice_get w.wires q)
  where
    told : (h : ServerState ItemOut) → IsQuiet i q (record w { server = h; wires = changed_at q pipes.up_end_reported w.wires })
    told h u at of =
        let t = told_there q w.wires u at in
        let same : u.up.items ≡ t.0.up.items = ap (λ (y : ItemWire). y.up.items) t.2 in
        same ∙ quiet t.0 t.1 (sym (ap (λ (y : ItemWire). y.device) t.2) ∙ of)

    either : (b : Bool) (h : ServerState ItemOut) → IsQuiet i q (cond b (record w { server = h; wires = changed_at q pipes.up_end_reported w.wires }) w)
    either true h = told h
    either false h = quiet

    by_wire : (e : Option ItemWire) → IsQuiet i q (items.reported_up q e w)
    by_wire None = quiet
    by_wire (Some wire) = either (pipes.is_end_due wire.up) (gone_at (q + 1) (at_moment w.moment w.server))

move_quiet : (i q : ℕ) (m : ItemMove) (w : ItemWorld) → IsUpOf q m → IsQuiet i q w → IsQuiet i q (items.moved m w)
move_quiet i q (Tick ms) w is quiet = quiet
move_quiet i q (items.Up p) w is quiet = subst (λ n. IsQuiet i q (items.moved (items.Up n) w)) (sym is) (up_quiet i q w quiet)
move_quiet i q (UpEnd p) w is quiet = subst (λ n. IsQuiet i q (items.moved (UpEnd n) w)) (sym is) (end_quiet i q w quiet)
move_quiet i q _ w is quiet = absurd is

moves_quiet : (i q : ℕ) (ms : List ItemMove) (w : ItemWorld) → AllByRecursion (IsUpOf q) ms → IsQuiet i q w → IsQuiet i q (all_moved ms w)
moves_quiet i q [] w are quiet = quiet
moves_quiet i q (m ∷ ms) w are quiet = moves_quiet i q ms (items.moved m w) are.1 (move_quiet i q m w are.0 quiet)

-- ---- which moves of items a move of a run is

all_ups : (q n : ℕ) → AllByRecursion (IsUpOf q) (ups q n)
all_ups q zero = tt
all_ups q (suc n) = (refl, all_ups q n)

all_ends : (q : ℕ) (ended : Bool) → AllByRecursion (IsUpOf q) (moved_where (UpEnd q) ended)
all_ends q true = (refl, tt)
all_ends q false = tt

all_both : (P : ItemMove → Type 0) (xs ys : List ItemMove) → AllByRecursion P xs → AllByRecursion P ys → AllByRecursion P (xs ++ ys)
all_both P [] ys a b = b
all_both P (x ∷ xs) ys a b = (a.0, all_both P xs ys a.1 b)

all_front : (P : ItemMove → Type 0) (xs ys : List ItemMove) (y : ItemMove) → AllByRecursion P (xs ++ y ∷ ys) → AllByRecursion P xs × P y
all_front P [] ys y a = (tt, a.0)
all_front P (x ∷ xs) ys y a = let b = all_front P xs ys y a.1 in ((a.0, b.0), b.1)

served_ups : (q : ℕ) (first : List ItemMove) → AreServedUps q first → AllByRecursion (IsUpOf q) first
served_ups q first (inl none) = subst (AllByRecursion (IsUpOf q)) (sym none) tt
served_ups q first (inr (n, is)) = subst (AllByRecursion (IsUpOf q)) (sym is) (refl, all_ups q n)

-- it is no item that goes up
abbrev IsNoUp : ItemMove → Type 0
IsNoUp (items.Up p) = ⊥
IsNoUp _ = Unit {0}

no_downs : (q n : ℕ) → AllByRecursion IsNoUp (downs q n)
no_downs q zero = tt
no_downs q (suc n) = (tt, no_downs q n)

no_ends : (q : ℕ) (ended : Bool) → AllByRecursion IsNoUp (moved_where (items.DownEnd q) ended)
no_ends q true = (tt, tt)
no_ends q false = tt

-- ---- where nothing older is under way no late word comes

-- on the item's side
quiet_of : (i position q : ℕ) (W : ByteWorld) (v : ItemWorld) → IsEncoded W v → HasNothingOlder W i position → q ≢ position → IsQuiet i q v
quiet_of i position q W v encodes nothing apart u at of =
    let b = byte_wire (slice_get W.wires q) (slice_get v.wires q) u at (encodes.encoding.wires q) in
    no_items _ _ _ b.0.up u.up b.2.up (nothing q b.0 b.1 (b.2.device ∙ of) apart)
  where
    byte_wire : (oa : Option Wire) (ob : Option ItemWire) (y : ItemWire) → ob ≡ Some y → Both (WireAt W v q) oa ob → (a : Wire) × (oa ≡ Some a) × WireAt W v q a y
    byte_wire oa None y is both = absurd (none-some y is)
    byte_wire None (Some x) y is both = absurd both
    byte_wire (Some a) (Some x) y is both = (a, refl, subst (λ z. WireAt W v q a z) (same_Some x y is) both)

pub no_late_word : (m : Move) (i position : ℕ) (W : ByteWorld) → IsHanding m → HasNothingOlder W i position → (e : IsEndedIn m i position W) → AsksHere i position e.from (all_moved e.done e.beside) → ⊥
no_late_word (Up q count) i position W hands nothing e asks =
    let run = e.run.is_run in
    let all : AllByRecursion (IsUpOf q) (e.done ++ items.Up e.from ∷ e.later) = subst (AllByRecursion (IsUpOf q)) (sym run.3 ∙ e.now) (all_both (IsUpOf q) run.0 (moved_where (UpEnd q) run.1) (served_ups q run.0 run.2) (all_ends q run.1)) in
    let parts = all_front (IsUpOf q) e.done e.later (items.Up e.from) all in
    let apart : q ≢ position = (λ same. asks.older (parts.1 ∙ same)) in
    let quiet : IsQuiet i q (all_moved e.done e.beside) = moves_quiet i q e.done e.beside parts.0 (quiet_of i position q W e.beside e.encodes nothing apart) in
    let none : asks.next.wire.up.items ≡ [] = quiet asks.next.wire (ap (slice_get (all_moved e.done e.beside).wires) (sym parts.1) ∙ asks.next.there) asks.of in
    no_first asks.next.item asks.next.rest (sym asks.next.first ∙ none)
no_late_word (Down q count) i position W hands nothing e asks =
    let run = e.run.is_run in
    let all : AllByRecursion IsNoUp (e.done ++ items.Up e.from ∷ e.later) = subst (AllByRecursion IsNoUp) (sym run.2 ∙ e.now) (all_both IsNoUp (downs q run.0) (moved_where (items.DownEnd q) run.1) (no_downs q run.0) (no_ends q run.1)) in
    (all_front IsNoUp e.done e.later (items.Up e.from) all).1
no_late_word _ i position W hands nothing e asks = absurd hands

-- ---- and it stays so

module _ (i : ℕ) where
  abbrev IsNone : Wire → Type 0
  IsNone b = b.device ≡ i → b.up.bytes ≡ []

  abbrev NoneAt : ℕ → List Wire → Type 0
  NoneAt p ws = (b : Wire) → slice_get ws p ≡ Some b → b.device ≡ i → b.up.bytes ≡ []

  changed_none : (f : Wire → Wire) → ((b : Wire) → IsNone b → IsNone (f b)) → (q p : ℕ) (ws : List Wire) → NoneAt p ws → NoneAt p (changed_at q f ws)
  changed_none f keeps q p [] none b at = none b at
  changed_none f keeps zero zero (w ∷ ws) none b at = subst IsNone (same_Some (f w) b at) (keeps w (none w refl))
  changed_none f keeps zero (suc p) (w ∷ ws) none b at = none b at
  changed_none f keeps (suc q) zero (w ∷ ws) none b at = none b at
  changed_none f keeps (suc q) (suc p) (w ∷ ws) none b at = changed_none f keeps q p ws (λ c there. none c there) b at

  under_none : (f : Wire → Wire) → ((b : Wire) → IsNone b → IsNone (f b)) → (k p : ℕ) (ws : List Wire) → NoneAt p ws → NoneAt p (changed_under k f ws)
  under_none f keeps zero p ws none b at = none b at
  under_none f keeps (suc q) p ws none b at = changed_none f keeps q p ws none b at

  set_none : (ws : List Wire) (q p : ℕ) (new : Wire) → (q ≡ p → IsNone new) → NoneAt p ws → NoneAt p (slice_set ws q new)
  set_none [] q p new is none b at = none b at
  set_none (w ∷ ws) zero zero new is none b at = subst IsNone (same_Some new b at) (is refl)
  set_none (w ∷ ws) zero (suc p) new is none b at = none b at
  set_none (w ∷ ws) (suc q) zero new is none b at = none b at
  set_none (w ∷ ws) (suc q) (suc p) new is none b at = set_none ws q p new (λ e. is (ap suc e)) (λ c there. none c there) b at

  emitted_none : (version : Version) (moment : ℕ) (out : Out (List ℕ)) (p : ℕ) (e : Effects) → NoneAt p e.wires → NoneAt p (emitted version moment out e).wires
  emitted_none version moment (Put k bytes) p e none = under_none (put_down bytes) (λ b is. is) k p e.wires none
  emitted_none version moment (Shut k) p e none = under_none shut (λ b is of. refl) k p e.wires none
  emitted_none version moment (Took from to origin) p e none = none

  all_emitted_none : (version : Version) (moment : ℕ) (outs : List (Out (List ℕ))) (p : ℕ) (e : Effects) → NoneAt p e.wires → NoneAt p (all_emitted version moment outs e).wires
  all_emitted_none version moment [] p e none = none
  all_emitted_none version moment (out ∷ outs) p e none = all_emitted_none version moment outs p (emitted version moment out e) (emitted_none version moment out p e none)

  none_there : (q p : ℕ) (ws : List Wire) (wire : Wire) → NoneAt p ws → slice_get ws q ≡ Some wire → q ≡ p → IsNone wire
  none_there q p ws wire none there same = none wire (subst (λ n. slice_get ws n ≡ Some wire) same there)

  -- nothing is left of nothing
  handed_none : (n : ℕ) (wire : Wire) → IsNone wire → IsNone (handed_up n wire)
  handed_none n wire none of = drop_none n wire.up.bytes (none of)

  pub up_none : (q : ℕ) (count : Count) (W : ByteWorld) (p : ℕ) → NoneAt p W.wires → NoneAt p (moved (Up q count) W).wires
  up_none q count W p none = told (slice_get (served_by q count (slice_get W.wires q) W).wires q) (served_by q count (slice_get W.wires q) W) refl (of_wire (slice_get W.wires q) refl)
    where
      chosen : (b : Bool) (wire : Wire) (V : ByteWorld) → slice_get V.wires q ≡ Some wire → NoneAt p V.wires → NoneAt p (cond b (record V { server = after_gone (number_at q) V.moment V.server; wires = slice_set V.wires q (up_end_reported wire) }) V).wires
      chosen true wire V there was = set_none V.wires q p (up_end_reported wire) (λ same. none_there q p V.wires wire was there same) was
      chosen false wire V there was = was

      told : (o : Option Wire) (V : ByteWorld) → slice_get V.wires q ≡ o → NoneAt p V.wires → NoneAt p (reported_up q o V).wires
      told None V is was = was
      told (Some wire) V is was = chosen (is_end_due wire.up) wire V is was

      first : (b : Bool) (n : ℕ) (wire : Wire) → slice_get W.wires q ≡ Some wire → NoneAt p (cond b W (served q n wire W)).wires
      first true n wire there = none
      first false n wire there =
          all_emitted_none W.version W.moment (step_of_piece (number_at q) (take n wire.up.bytes) W.moment W.server).outs p (effects_of (slice_set W.wires q (handed_up n wire)) W.takes)
          (set_none W.wires q p (handed_up n wire) (λ same. handed_none n wire (none_there q p W.wires wire none there same)) none)

      of_wire : (o : Option Wire) → slice_get W.wires q ≡ o → NoneAt p (served_by q count o W).wires
      of_wire None is = none
      of_wire (Some wire) is = first (amount count wire.up == 0) (amount count wire.up) wire is

  heard_device : (q : ℕ) (count : Count) (l : Link) → (heard_by q count l).wire.device ≡ l.wire.device
  heard_device q count l = by (has_wire q l.device.here)
    where
      first : (n : ℕ) (b : Bool) → (cond b l (heard n (hears (take n l.wire.down.bytes) l.device) l)).wire.device ≡ l.wire.device
      first n true = refl
      first n false = let s = hears (take n l.wire.down.bytes) l.device in left_device (is_left s.device.client) (put_up s.put (handed_down n l.wire))

      ended : (k : Link) (b : Bool) → (cond b (link_of (down_end_reported k.wire) (loses k.device)) k).wire.device ≡ k.wire.device
      ended k true = refl
      ended k false = refl

      by : (b : Bool) → (cond b (end_heard q (heard_first (amount count l.wire.down) l)) l).wire.device ≡ l.wire.device
      by true =
          let k = heard_first (amount count l.wire.down) l in
          ended k (has_wire q k.device.here && is_end_due k.wire.down) ∙ first (amount count l.wire.down) (amount count l.wire.down == 0)
      by false = refl

  -- a device that has another connection takes nothing there
  module _ (position : ℕ) (W : ByteWorld) (is : IsByteOpen i position W) (q : ℕ) (count : Count) (p : ℕ) (apart : p ≢ position) (none : NoneAt p W.wires) where
    link_none : (wire : Wire) (d : DeviceState) → slice_get W.wires q ≡ Some wire → slice_get W.devices wire.device ≡ Some d → q ≡ p → IsNone (heard_by q count (link_of wire d)).wire
    link_none wire d at there same of = by (has_wire q d.here) refl
      where
        its : wire.device ≡ i
        its = sym (heard_device q count (link_of wire d)) ∙ of

        one : d ≡ is.device
        one = same_Some d is.device (sym there ∙ ap (slice_get W.devices) its ∙ is.has)

        here : has_wire q d.here ≡ (position == q)
        here = ap (has_wire q) (ap (λ (e : DeviceState). e.here) one ∙ is.here)

        by : (b : Bool) → has_wire q d.here ≡ b → (heard_by q count (link_of wire d)).wire.up.bytes ≡ []
        by true has = absurd (apart (sym same ∙ sym (eqb-true position q (sym here ∙ has))))
        by false has =
            ap (λ (b : Bool). (cond b (end_heard q (heard_first (amount count wire.down) (link_of wire d))) (link_of wire d)).wire.up.bytes) has
            ∙ none_there q p W.wires wire none at same its

    of_device : (wire : Wire) (o : Option DeviceState) → slice_get W.wires q ≡ Some wire → slice_get W.devices wire.device ≡ o → NoneAt p (down_to q count wire o W).wires
    of_device wire None at there = none
    of_device wire (Some d) at there = set_none W.wires q p (heard_by q count (link_of wire d)).wire (λ same. link_none wire d at there same) none

    of_wire : (o : Option Wire) → slice_get W.wires q ≡ o → NoneAt p (down_by q count o W).wires
    of_wire None at = none
    of_wire (Some wire) at = of_device wire (slice_get W.devices wire.device) at refl

    pub down_none : NoneAt p (moved (Down q count) W).wires
    down_none = of_wire (slice_get W.wires q) refl

pub nothing_older : (m : Move) (i position : ℕ) (W : ByteWorld) → IsHanding m → IsByteOpen i position W → HasNothingOlder W i position → HasNothingOlder (moved m W) i position
nothing_older (Up q count) i position W hands is nothing p b at of apart = up_none i q count W p (λ c there its. nothing p c there its apart) b at of
nothing_older (Down q count) i position W hands is nothing p b at of apart = down_none i position W is q count p apart (λ c there its. nothing p c there its apart) b at of
nothing_older _ i position W hands is nothing p b at of apart = absurd hands
