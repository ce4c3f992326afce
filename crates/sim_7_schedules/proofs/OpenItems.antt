-- A connection that a device has stays open, whatever item comes to the server, or its end is told; but for two causes.
use Rattle.std.proofs.Common.{◌≡◌, ◌≢◌, ◌⊎◌, ℕ, zero, suc, ◌+◌, Bool, true, false, not, List, [], ◌∷◌, ◌++◌, Option, Some, None, refl, sym, ap, subst, ◌∙◌, inl, inr, arith, slice_get, if◌then◌else◌}
use Rattle.std.proofs.lemmas.Bool.{cases_eq, false≢true, not-false}
use Rattle.std.proofs.lemmas.Option.{none-some, same_Some}
use Rattle.std.specs.Option.{option_map}
use Rattle.cmd_network.specs.Positions.{changed_at}
use Rattle.cmd_schedule.specs.Contents.{Owned}
use Rattle.cmd_schedule.specs.LineLists.{IsLineList}
use Rattle.cmd_schedule.specs.Schedules.{WireView}
use Rattle.sim_1_applications.specs.Devices.{AppWorld}
use Rattle.sim_2_links.specs.Stages.{Conn}
use Rattle.sim_2_links.specs.Wires.{is_flowing}
use Rattle.sim_3_images.proofs.RuleKept.{found_is, named_as}
use Rattle.sim_3_images.specs.Devices.{identity_at}
use Rattle.sim_3_images.specs.ItemRuns.{ups}
use Rattle.sim_3_items.specs.Identities.{Identity}
use Rattle.sim_3_items.specs.ItemMoves.{ItemMove, Tick, Up, UpEnd, all_emitted, all_moved, moved, reported_up, served_by, served_first, step_of}
use Rattle.sim_3_items.specs.ItemPipes.{ItemPipe, ItemWire, handed_up, is_end_due, up_end_reported}
use Rattle.sim_3_items.specs.ItemWorlds.{ItemDevice, ItemWorld, itself, read_of}
use Rattle.sim_3_items.specs.Pipes.{IsWire, by_number}
use Rattle.sim_3_items.specs.Sent.{sent_under}
use Rattle.sim_4_links_follow.proofs.Changes.{under_position}
use Rattle.sim_4_links_follow.proofs.Emitted.{all_sent}
use Rattle.sim_4_links_follow.proofs.Found.{found_on}
use Rattle.sim_4_links_follow.proofs.HandMoves.{shown_wire}
use Rattle.sim_4_links_follow.specs.Steps.{ItemGoesUp}
use Rattle.sim_4_links_follow.specs.Taking.{AreApart, on_item}
use Rattle.sim_4_links_follow.proofs.Ups.{moved_so}
use Rattle.sim_5_moves.proofs.Goes.{apart_of, countable, goes_up}
use Rattle.sim_5_moves.specs.Running.{Bounds, DeviceSimulates, IsOwned, MoveSimulates, WorldSimulates}
use Rattle.sim_7_schedules.proofs.Moves.{each_runs, small}
use Rattle.sim_7_schedules.proofs.OutsOpen.{AreNoShuts, FillsAt, left_up}
use Rattle.sim_7_schedules.proofs.WordsOpen.{IsFormer, Outcome, word_open}
use Rattle.sim_7_schedules.specs.LateWords.{IsAsk}
use Rattle.sim_7_schedules.specs.Simulation.{bounds}
use Rattle.sm_live.specs.Sessions.{is_named, session_at}
use Rattle.srv_core.specs.Table.{at_open}
use Rattle.srv_state.specs.Moments.{at_moment, gone_at}
use Rattle.srv_state.specs.State.{ServerState, Step}
use Rattle.srv_state.specs.Streams.{standing_at}
use Rattle.xml_writer.specs.Items.{ItemOut}

-- ---- a connection of a list is changed, and keeps its device and its end

pub record KeepsEnd (w u : ItemWire) : Type 0 where
  pub device : u.device ≡ w.device
  pub ended : u.up.ended ≡ w.up.ended

pub changed_keeps : (f : ItemWire → ItemWire) → ((w : ItemWire) → KeepsEnd w (f w)) → (from position : ℕ) (wires : List ItemWire) (w : ItemWire) → slice_get wires position ≡ Some w → (u : ItemWire) × (slice_get (changed_at from f wires) position ≡ Some u) × KeepsEnd w u
changed_keeps f keeps from position [] w at = absurd (none-some w at)
changed_keeps f keeps zero zero (x ∷ wires) w at = (f x, refl, subst (λ y. KeepsEnd y (f x)) (same_Some x w at) (keeps x))
changed_keeps f keeps zero (suc position) (x ∷ wires) w at = (w, at, record { device = refl; ended = refl })
changed_keeps f keeps (suc from) zero (x ∷ wires) w at = (w, at, record { device = refl; ended = refl })
changed_keeps f keeps (suc from) (suc position) (x ∷ wires) w at = changed_keeps f keeps from position wires w at

-- ---- an open connection

-- the device at a place has the connection at a place, which has not ended
pub record IsOpen (i position : ℕ) (w : ItemWorld) : Type 0 where
  pub wire : ItemWire
  pub there : slice_get w.wires position ≡ Some wire
  pub of : wire.device ≡ i
  pub flows : wire.up.ended ≡ false
  pub device : ItemDevice
  pub has : slice_get w.devices i ≡ Some device
  pub here : device.here ≡ Some position

-- what it is in the links
module _ (schedule : WireView) (b : Bounds) (says : ℕ) (w : ItemWorld) (x : AppWorld) (runs : WorldSimulates schedule b says w x) (i : ℕ) (o : Owned) (owned : IsOwned schedule i o) (position : ℕ) (is : IsOpen i position w) where
  abbrev pub links : DeviceSimulates schedule w x i o
  links = runs.simulation.devices i o owned

  pub same_device : links.represents.device ≡ is.device
  same_device = same_Some links.represents.device is.device (sym links.represents.there ∙ is.has)

  pub conn_here : (c : Conn ItemOut) × (links.view.conns (position + 1) ≡ Some c) × ((links.view.here ≡ Some (position + 1)) ⊎ (is_flowing c.wires ≡ false))
  conn_here = links.represents.client.has position (ap (λ (d : ItemDevice). d.here) same_device ∙ is.here)

  abbrev pub its_conn : Conn ItemOut
  its_conn = conn_here.0

  pub is_conn : links.view.conns (position + 1) ≡ Some its_conn
  is_conn = conn_here.1

  pub its_wire : IsWire (identity_at schedule i o) (links.logins (position + 1)) (position + 1) its_conn is.wire
  its_wire =
      shown_wire (identity_at schedule i o) (links.logins (position + 1)) (position + 1) (links.view.conns (position + 1)) (by_number w.wires (position + 1)) its_conn is.wire is_conn
      (under_position position w.wires ∙ is.there) (links.represents.pipes.each (position + 1))

  pub flowing : is_flowing its_conn.wires ≡ true
  flowing = not-false (is_flowing its_conn.wires) (sym its_wire.up_ended ∙ is.flows)

  pub works : links.view.here ≡ Some (position + 1)
  works = elim conn_here.2 [ inl here ↦ here | inr over ↦ absurd (false≢true (sym over ∙ flowing)) ]

  pub down_still : is.wire.down.ended ≡ false
  down_still = its_wire.down_ended ∙ ap not flowing

-- ---- the causes

-- the next item of a connection
pub record HasNext (from : ℕ) (w : ItemWorld) : Type 0 where
  pub wire : ItemWire
  pub there : slice_get w.wires from ≡ Some wire
  pub item : ItemOut
  pub rest : List ItemOut
  pub first : wire.up.items ≡ item ∷ rest

pub record AsksHere (i position from : ℕ) (w : ItemWorld) : Type 0 where
  pub next : HasNext from w
  pub older : from ≢ position
  pub of : next.wire.device ≡ i
  pub asks : IsAsk next.item

pub record FillsHere (position from : ℕ) (w : ItemWorld) : Type 0 where
  pub next : HasNext from w
  pub fills : FillsAt (position + 1) (at_open itself (from + 1) (read_of next.item) (standing_at (from + 1) w.server) w.server) (step_of w.server)

abbrev pub IsCause : ℕ → ℕ → ℕ → ItemWorld → Type 0
IsCause i position from w = AsksHere i position from w ⊎ FillsHere position from w

-- ---- an item

handed_keeps : (w : ItemWire) → KeepsEnd w (handed_up w)
handed_keeps w = record { device = refl; ended = refl }

told_keeps : (w : ItemWire) → KeepsEnd w (up_end_reported w)
told_keeps w = record { device = refl; ended = refl }

module _ (schedule : WireView) (right : IsLineList schedule) (says : ℕ) (w : ItemWorld) (x : AppWorld) (runs : WorldSimulates schedule bounds says w x) (i : ℕ) (o : Owned) (owned : IsOwned schedule i o) (position : ℕ) (is : IsOpen i position w) (from : ℕ) where
  abbrev old : DeviceSimulates schedule w x i o
  old = runs.simulation.devices i o owned

  module _ (wire : ItemWire) (z : ItemOut) (rest : List ItemOut) (there : slice_get w.wires from ≡ Some wire) (pipe : wire.up.items ≡ z ∷ rest) where
    owner : (p : Owned) × IsOwned schedule wire.device p
    owner = runs.simulation.wires from wire there

    abbrev mine : DeviceSimulates schedule w x wire.device owner.0
    mine = runs.simulation.devices wire.device owner.0 owner.1

    abbrev who : Identity
    who = identity_at schedule wire.device owner.0

    g : ItemGoesUp who mine.logins w mine.view from wire z
    g = goes_up schedule bounds small says w x runs from wire z rest there pipe wire.device owner.0 mine refl

    -- on this connection itself the client works
    works_there : from + 1 ≡ position + 1 → mine.view.here ≡ Some (from + 1)
    works_there next =
        let same : from ≡ position = omega (arith, next) in
        let one : is.wire ≡ wire = same_Some is.wire wire (sym is.there ∙ ap (slice_get w.wires) (sym same) ∙ there) in
        let of : wire.device ≡ i = ap (λ (u : ItemWire). u.device) (sym one) ∙ is.of in
        works schedule bounds says w x runs wire.device owner.0 owner.1 from (record {
          wire = wire;
          there = there;
          of = refl;
          flows = ap (λ (u : ItemWire). u.up.ended) (sym one) ∙ is.flows;
          device = is.device;
          has = ap (slice_get w.devices) of ∙ is.has;
          here = is.here ∙ ap Some (sym same);
        })

    abbrev Result : ItemOut → Type 0
    Result y = Outcome who mine.logins w.server (by_number w.wires) mine.view (from + 1) (position + 1) works_there (countable schedule bounds small says w x runs wire.device owner.0 mine) y

    outcome : Result z
    outcome =
        subst Result g.has.is
        (word_open who mine.logins w.server (by_number w.wires) mine.view (from + 1) (position + 1) works_there (countable schedule bounds small says w x runs wire.device owner.0 mine) g.has.word g.has.first)

    abbrev next : HasNext from w
    next = record { wire = wire; there = there; item = z; rest = rest; first = pipe }

    -- the session that was on the connection is the device's
    its_own : IsFormer who mine.logins w.server (by_number w.wires) mine.view (from + 1) (position + 1) works_there (countable schedule bounds small says w x runs wire.device owner.0 mine) → wire.device ≡ i
    its_own f =
        elim (cases_eq wire.device i) [
          | inl same ↦ same
          | inr other ↦
              let apart : AreApart who (identity_at schedule i o) = apart_of schedule right wire.device i owner.0 o owner.1 owned other in
              let its = identity_at schedule i o in
              let seat : session_at (position + 1) w.server.sessions ≡ Some f.session = found_on w.server.next (position + 1) who.account who.resource w.server.sessions f.session old.represents.server.server_state.sessions f.named f.on in
              let a = named_as who.account who.resource f.session (found_is (is_named who.account who.resource) w.server.sessions f.session f.named) in
              let d = named_as its.account its.resource f.session
              (old.represents.server.seated (position + 1) (its_conn schedule bounds says w x runs i o owned position is) f.session (is_conn schedule bounds says w x runs i o owned position is) seat) in
              absurd (apart.name (sym a.0 ∙ d.0) (sym a.1 ∙ d.1))
        ]

    abbrev step : Step ItemOut
    step = on_item (from + 1) z w.server

    stays : AreNoShuts (position + 1) step.outs → IsOpen i position (moved (Up from) w)
    stays none =
        let ws = changed_at from handed_up w.wires in
        let handed = changed_keeps handed_up handed_keeps from position w.wires is.wire is.there in
        let kept = left_up (position + 1) step.outs handed.0 none in
        subst (IsOpen i position) (sym (moved_so w from wire z rest there pipe)) (record {
          wire = sent_under (position + 1) step.outs handed.0;
          there = sym (under_position position (all_emitted step.outs ws)) ∙ all_sent (position + 1) step.outs ws ∙ ap (option_map (sent_under (position + 1) step.outs)) (under_position position ws ∙ handed.1);
          of = kept.device ∙ handed.2.device ∙ is.of;
          flows = ap (λ (p : ItemPipe). p.ended) kept.up ∙ handed.2.ended ∙ is.flows;
          device = is.device;
          has = is.has;
          here = is.here;
        })

    item_goes : IsOpen i position (moved (Up from) w) ⊎ IsCause i position from w
    item_goes = by outcome
      where
        by : Result z → IsOpen i position (moved (Up from) w) ⊎ IsCause i position from w
        by (inl none) = inl (stays none)
        by (inr (inl (asks, former))) = inr (inl (record { next = next; older = λ same. former.apart (ap (λ n. n + 1) same); of = its_own former; asks = asks }))
        by (inr (inr fills)) = inr (inr (record { next = next; fills = fills }))

  by_items : (wire : ItemWire) (items : List ItemOut) → slice_get w.wires from ≡ Some wire → wire.up.items ≡ items → IsOpen i position (moved (Up from) w) ⊎ IsCause i position from w
  by_items wire [] there none = inl (subst (IsOpen i position) (sym (ap (λ e. served_by from e w) there ∙ ap (λ l. served_first from l w) none)) is)
  by_items wire (z ∷ rest) there pipe = item_goes wire z rest there pipe

  by_wire : (e : Option ItemWire) → slice_get w.wires from ≡ e → IsOpen i position (moved (Up from) w) ⊎ IsCause i position from w
  by_wire None none = inl (subst (IsOpen i position) (sym (ap (λ e. served_by from e w) none)) is)
  by_wire (Some wire) there = by_items wire wire.up.items there refl

  pub up_goes : IsOpen i position (moved (Up from) w) ⊎ IsCause i position from w
  up_goes = by_wire (slice_get w.wires from) refl

-- ---- as the clock is looked at, and the end is told

pub tick_open : (i position : ℕ) (w : ItemWorld) → IsOpen i position w → IsOpen i position (moved (Tick 0) w)
tick_open i position w is = record { wire = is.wire; there = is.there; of = is.of; flows = is.flows; device = is.device; has = is.has; here = is.here }

pub up_end_open : (i position from : ℕ) (w : ItemWorld) → IsOpen i position w → IsOpen i position (moved (UpEnd from) w)
up_end_open i position from w is = by (slice_get w.wires from)
  where
    told : (h : ServerState ItemOut) → IsOpen i position (record w { server = h; wires = changed_at from up_end_reported w.wires })
    told h =
        let kept = changed_keeps up_end_reported told_keeps from position w.wires is.wire is.there in
        record { wire = kept.0; there = kept.1; of = kept.2.device ∙ is.of; flows = kept.2.ended ∙ is.flows; device = is.device; has = is.has; here = is.here }

    either : (b : Bool) (h : ServerState ItemOut) → IsOpen i position (if b then record w { server = h; wires = changed_at from up_end_reported w.wires } else w)
    either true h = told h
    either false h = is

    by : (e : Option ItemWire) → IsOpen i position (reported_up from e w)
    by None = is
    by (Some wire) = either (is_end_due wire.up) (gone_at (from + 1) (at_moment w.moment w.server))

-- ---- items, one after another

-- one of the moves is such an item
pub record IsStopped (i position from n : ℕ) (w : ItemWorld) : Type 0 where
  pub done : List ItemMove
  pub later : List ItemMove
  pub are : ups from n ≡ done ++ Up from ∷ later
  pub cause : IsCause i position from (all_moved done w)

module _ (schedule : WireView) (right : IsLineList schedule) (i : ℕ) (o : Owned) (owned : IsOwned schedule i o) (position from : ℕ) where
  pub ups_go : (n says : ℕ) (w : ItemWorld) (x : AppWorld) → WorldSimulates schedule bounds says w x → IsOpen i position w → IsOpen i position (all_moved (ups from n) w) ⊎ IsStopped i position from n w
  ups_go zero says w x runs is = inl is
  ups_go (suc n) says w x runs is =
      let move : MoveSimulates schedule bounds says (Up from) w x runs = each_runs schedule right (Up from) says w x tt runs tt in
      by (up_goes schedule right says w x runs i o owned position is from) (λ stays. ups_go n (says + 0) (moved (Up from) w) move.next move.runs stays)
    where
      further : IsOpen i position (all_moved (ups from n) (moved (Up from) w)) ⊎ IsStopped i position from n (moved (Up from) w) → IsOpen i position (all_moved (ups from (suc n)) w) ⊎ IsStopped i position from (suc n) w
      further (inl done) = inl done
      further (inr stop) = inr (record { done = Up from ∷ stop.done; later = stop.later; are = ap (λ l. Up from ∷ l) stop.are; cause = stop.cause })

      by : IsOpen i position (moved (Up from) w) ⊎ IsCause i position from w → (IsOpen i position (moved (Up from) w) → IsOpen i position (all_moved (ups from n) (moved (Up from) w)) ⊎ IsStopped i position from n (moved (Up from) w))
          → IsOpen i position (all_moved (ups from (suc n)) w) ⊎ IsStopped i position from (suc n) w
      by (inl stays) rest = further (rest stays)
      by (inr cause) rest = inr (record { done = []; later = ups from n; are = refl; cause = cause })
