-- Bytes that are handed to the server on a connection on which it has no session.
use Rattle.std.proofs.Common.{◌≡◌, ℕ, ◌+◌, max, ◌==◌, ◌-◌, ◌&&◌, not, Bool, true, List, ◌++◌, Option, Some, None, is_none, map, nat_le, refl, sym, ap, subst, ◌∙◌, ◌⊎◌, inl, inr, arith}
use Rattle.std.proofs.lemmas.Option.{none-some}
use Rattle.std.specs.List.{AllByRecursion, filter, slice_get}
use Rattle.std.specs.Option.{option_map}
use Rattle.std.specs.Str.{bytes_eq}
use Rattle.srv_state.specs.Moments.{at_moment}
use Rattle.srv_state.specs.State.{ServerState}
use Rattle.sim_3_images.proofs.MovesKept.{kept_after}
use Rattle.sim_3_images.proofs.NetworkMoves.{Found, found_both}
use Rattle.sim_3_images.proofs.UpMoves.{moved_joined}
use Rattle.sim_3_images.specs.Devices.{identity_at}
use Rattle.sim_3_images.specs.ItemRuns.{AreServedUps, moved_where, ups}
use Rattle.sim_3_images.specs.Kept.{IsWorldKept}
use Rattle.sim_3_images.specs.Relayable.{ClientFits, DownFits, ServerFits, UpFits}
use Rattle.sim_3_images.specs.Stands.{StandingServers}
use Rattle.sim_3_images.specs.WorldEncodings.{IsMoved, WireAt, line_reported}
use Rattle.sim_3_items.specs.ItemMoves as items
use Rattle.sim_3_items.specs.ItemMoves.{ItemMove, Tick, UpEnd}
use Rattle.sim_3_items.specs.ItemWorlds.{ItemWorld}
use Rattle.sim_3_images.proofs.RuleKept.{none_left}
use Rattle.sm_live.specs.Sessions.{Session, is_at, is_expired, session_at, unexpired}
use Rattle.sim_5_moves.specs.Running.{MoveSimulates}
use Rattle.sm_resumption.specs.declared.answers.TheConstants.{RESUMABLE_FOR}
use Rattle.cmd_schedule.proofs.Lists.{all_filter}
use Rattle.cmd_schedule.specs.Contents.{Owned}
use Rattle.cmd_schedule.specs.Schedules.{WireView}
use Rattle.cmd_schedule.specs.LineLists.{IsLineList}
use Rattle.cmd_schedule.specs.declared.schedule.Count.{Count}
use Rattle.law_server.proofs.SessionsRendered.{at_rendered, filtered}
use Rattle.law_server.specs.Rendered.{session_rendered, sessions_rendered}
use Rattle.sim_1_applications.specs.Devices as sessions
use Rattle.sim_7_schedules.proofs.ByteMoves.{is_moved}
use Rattle.sim_7_schedules.proofs.LateMoves.{Goes, over_where, passes, theirs, ups_late}
use Rattle.sim_7_schedules.proofs.Moves.{each_runs}
use Rattle.sim_7_schedules.proofs.OtherSessions.{is_other, left_same}
use Rattle.sim_7_schedules.specs.Simulation.{Simulates, bounds}
use Rattle.sim_7_schedules.specs.LateWords.{IsDialledBy, IsOfDeviceAlone, IsUnboundAt, beside}
use Rattle.cmd_world.specs.Moves as bytes
use Rattle.cmd_world.specs.Moves.{moved}
use Rattle.cmd_world.specs.Worlds.{ByteWorld, number_at}
use Rattle.xml_writer.specs.Items.{ItemOut, written_item}

none_rendered : {A B : Type 0} (f : A → B) (o : Option A) → option_map f o ≡ None → o ≡ None
none_rendered f None none = refl
none_rendered f (Some a) none = absurd (none-some (f a) (sym none))

module _ (s : WireView) (right : IsLineList s) (W : ByteWorld) (x : sessions.AppWorld) (kept : IsWorldKept s W) (here : Simulates s W x) (position : ℕ) (o : Owned) (by : IsDialledBy s W position o) (none : IsUnboundAt position W) where
  abbrev v : ItemWorld
  v = here.items

  abbrev d : ℕ
  d = by.wire.device

  abbrev k : ℕ
  k = number_at position

  abbrev m : ℕ
  m = v.moment

  abbrev Late : List (Session ItemOut) → ItemWorld → Type 0
  Late left w = Goes s right d o by.of position m v.server.archives left v.takes w

  abbrev others : List (Session ItemOut) → List (Session ItemOut)
  others ss = theirs s right d o by.of position m ss

  abbrev timely : Session ItemOut → Bool
  timely t = not (is_expired (max m m) t)

  -- ---- where it begins

  found : Found (WireAt W v position) by.wire (slice_get v.wires position)
  found = found_both (WireAt W v position) by.wire (slice_get W.wires position) (slice_get v.wires position) by.there (here.encodes.encoding.wires position)

  nobody : session_at k v.server.sessions ≡ None
  nobody = none_rendered (session_rendered written_item) (session_at k v.server.sessions) (sym (at_rendered written_item k v.server.sessions) ∙ sym (ap (λ (h : ServerState (List ℕ)). session_at k h.sessions) here.encodes.encoding.server_state) ∙ none)

  begins : Late (others v.server.sessions) v
  begins = record {
    says = here.says;
    beside = x;
    runs = here.runs;
    late = record { wire = found.other; there = found.is; of = sym found.holds.device; archived = refl; spared = refl; taken = refl; moment = refl; free = inl nobody };
  }

  still : v.moment + 0 ≡ v.moment
  still = omega arith

  abbrev ticked : ItemWorld
  ticked = items.moved (Tick 0) v

  tick : MoveSimulates s bounds here.says (Tick 0) v x here.runs
  tick = each_runs s right (Tick 0) here.says v x tt here.runs tt

  moments : max v.server.moment (v.moment + 0) ≡ max m m
  moments = ap (λ n. max n (v.moment + 0)) here.runs.simulation.now ∙ ap (λ n. max m n) still

  ticks : Late (others (filter timely v.server.sessions)) ticked
  ticks = record {
    says = _;
    beside = tick.next;
    runs = tick.runs;
    late = record {
      wire = found.other;
      there = found.is;
      of = sym found.holds.device;
      archived = refl;
      spared = ap (λ n. others (unexpired n v.server.sessions)) moments;
      taken = refl;
      moment = still;
      free = inl (none_left (is_at k) (λ t. not (is_expired (max v.server.moment (v.moment + 0)) t)) v.server.sessions nobody);
    };
  }

  -- ---- where it ends

  record IsAlone (w : ItemWorld) : Type 0 where
    archived : w.server.archives ≡ v.server.archives
    spared : (others w.server.sessions ≡ others v.server.sessions) ⊎ (others w.server.sessions ≡ others (filter timely v.server.sessions))
    taken : w.takes ≡ v.takes

  -- nothing was handed over
  told_alone : (ended : Bool) → IsAlone (items.all_moved (moved_where (UpEnd position) ended) v)
  told_alone ended =
      let over = over_where s right d o by.of position m v.server.archives (others v.server.sessions) v.takes v begins ended in
      record { archived = over.archived; spared = over.spared; taken = over.taken }

  module _ (w : ItemWorld) (goes : Late (others (filter timely v.server.sessions)) w) where
    all_timely : AllByRecursion (λ t. timely t ≡ true) (others w.server.sessions)
    all_timely =
        subst (AllByRecursion (λ t. timely t ≡ true)) (sym goes.late.spared)
        (all_filter (λ t. timely t ≡ true) (is_other (identity_at s d o).account (identity_at s d o).resource) (filter timely v.server.sessions) (passes timely v.server.sessions))

    timely_same : others (filter timely w.server.sessions) ≡ others (filter timely v.server.sessions)
    timely_same = left_same (is_other (identity_at s d o).account (identity_at s d o).resource) timely w.server.sessions all_timely ∙ goes.late.spared

    either : (y : ItemWorld) → (others y.server.sessions ≡ others (filter timely v.server.sessions)) ⊎ (others y.server.sessions ≡ others (filter timely w.server.sessions)) → others y.server.sessions ≡ others (filter timely v.server.sessions)
    either y (inl same) = same
    either y (inr same) = same ∙ timely_same

    ended_alone : (ended : Bool) → IsAlone (items.all_moved (moved_where (UpEnd position) ended) w)
    ended_alone ended =
        let over = over_where s right d o by.of position m v.server.archives (others (filter timely v.server.sessions)) v.takes w goes ended in
        record { archived = over.archived; spared = inr (either (items.all_moved (moved_where (UpEnd position) ended) w) over.spared); taken = over.taken }

  served_alone : (first : List ItemMove) (ended : Bool) → AreServedUps position first → IsAlone (items.all_moved (first ++ moved_where (UpEnd position) ended) v)
  served_alone first ended (inl nothing) = subst (λ ms. IsAlone (items.all_moved (ms ++ moved_where (UpEnd position) ended) v)) (sym nothing) (told_alone ended)
  served_alone first ended (inr (n, is)) =
      subst (λ ms. IsAlone (items.all_moved (ms ++ moved_where (UpEnd position) ended) v)) (sym is)
      (subst IsAlone (sym (moved_joined (ups position n) (moved_where (UpEnd position) ended) ticked))
      (ended_alone (items.all_moved (ups position n) ticked) (ups_late s right d o by.of position m v.server.archives (others (filter timely v.server.sessions)) v.takes n ticked ticks) ended))

  -- ---- bytes

  beside_rendered : (ss : List (Session ItemOut)) → beside s o (sessions_rendered written_item ss) ≡ sessions_rendered written_item (others ss)
  beside_rendered ss = filtered written_item (λ u. not ((u.account == (identity_at s d o).account) && bytes_eq u.resource o.device)) ss

  at_moment_rendered : (at_moment W.moment W.server.server_state).sessions ≡ sessions_rendered written_item (filter timely v.server.sessions)
  at_moment_rendered =
      ap (λ (h : ServerState (List ℕ)). unexpired (max h.moment W.moment) h.sessions) here.encodes.encoding.server_state
      ∙ ap (λ n. unexpired (max n W.moment) (sessions_rendered written_item v.server.sessions)) here.runs.simulation.now
      ∙ ap (λ n. unexpired (max m n) (sessions_rendered written_item v.server.sessions)) here.encodes.encoding.moment
      ∙ filtered written_item (λ u. not (is_none u.conn && nat_le RESUMABLE_FOR (max m m - u.parked_at))) v.server.sessions

  module _ (count : Count) where
    abbrev V : ByteWorld
    V = moved (bytes.Up position count) W

    r : IsMoved UpFits DownFits (StandingServers ServerFits) ClientFits (bytes.Up position count) W v
    r = is_moved (bytes.Up position count) W v tt here.encodes

    abbrev y : ItemWorld
    y = items.all_moved r.moves v

    alone : IsAlone y
    alone = subst (λ ms. IsAlone (items.all_moved ms v)) (sym r.is_run.3) (served_alone r.is_run.0 r.is_run.1 r.is_run.2)

    version : V.version ≡ W.version
    version = (kept_after s (bytes.Up position count) W kept).version ∙ sym kept.version

    there : beside s o V.server.server_state.sessions ≡ sessions_rendered written_item (others y.server.sessions)
    there = ap (λ (h : ServerState (List ℕ)). beside s o h.sessions) r.encodes.encoding.server_state ∙ beside_rendered y.server.sessions

    before : beside s o W.server.server_state.sessions ≡ sessions_rendered written_item (others v.server.sessions)
    before = ap (λ (h : ServerState (List ℕ)). beside s o h.sessions) here.encodes.encoding.server_state ∙ beside_rendered v.server.sessions

    on_moment : beside s o (at_moment W.moment W.server.server_state).sessions ≡ sessions_rendered written_item (others (filter timely v.server.sessions))
    on_moment = ap (λ ss. beside s o ss) at_moment_rendered ∙ beside_rendered (filter timely v.server.sessions)

    others_are : (others y.server.sessions ≡ others v.server.sessions) ⊎ (others y.server.sessions ≡ others (filter timely v.server.sessions))
        → (beside s o V.server.server_state.sessions ≡ beside s o W.server.server_state.sessions) ⊎ (beside s o V.server.server_state.sessions ≡ beside s o (at_moment W.moment W.server.server_state).sessions)
    others_are (inl same) = inl (there ∙ ap (sessions_rendered written_item) same ∙ sym before)
    others_are (inr same) = inr (there ∙ ap (sessions_rendered written_item) same ∙ sym on_moment)

    pub device_alone : IsOfDeviceAlone s o W (moved (bytes.Up position count) W)
    device_alone = record {
      archives = ap (λ (h : ServerState (List ℕ)). h.archives) r.encodes.encoding.server_state ∙ alone.archived ∙ sym (ap (λ (h : ServerState (List ℕ)). h.archives) here.encodes.encoding.server_state);
      takes = r.encodes.encoding.takes ∙ ap (λ n. map (line_reported n) y.takes) version ∙ ap (map (line_reported W.version)) alone.taken ∙ sym here.encodes.encoding.takes;
      others = others_are alone.spared;
    }
