-- In a world beside the applications: the session that the server has of a device, and what is taken behind a bind.
use Rattle.std.proofs.Common.{◌≡◌, ◌≢◌, ℕ, ◌<◌, Bool, true, false, List, [], ◌∷◌, ◌++◌, Option, None, Some, length, map, refl, sym, ap, ◌∙◌, subst, arith, inl, inr}
use Rattle.std.proofs.lemmas.List.{map-append}
use Rattle.std.proofs.lemmas.Option.{none-some, same_Some}
use Rattle.std.specs.List.{AllByRecursion, filter, slice_get}
use Rattle.std.specs.Option.{option_map}
use Rattle.srv_state.specs.State.{ServerState}
use Rattle.sim_3_items.specs.Labels.{awaits}
use Rattle.sim_3_items.specs.Servers.{IsRowRepresented}
use Rattle.cmd_network.specs.Devices.{DeviceState}
use Rattle.sim_3_images.proofs.NetworkMoves.{found_both}
use Rattle.sim_3_images.specs.Devices.{account_position}
use Rattle.sim_3_images.specs.Kept.{IsWorldKept}
use Rattle.sim_3_images.specs.WorldEncodings.{DeviceEncodes}
use Rattle.sim_3_items.specs.ItemWorlds.{ItemDevice}
use Rattle.sim_2_links.proofs.Reached.{link_kept}
use Rattle.sim_2_links.proofs.WithPremises.{prompt_runs}
use Rattle.sim_2_links.specs.Events.{seen, seen_as, seen_session}
use Rattle.sim_2_links.specs.Links.{LinkKept}
use Rattle.sim_2_links.specs.Views.{Row}
use Rattle.sim_2_events.specs.Lists.{IsRow, stage_of}
use Rattle.sim_3_images.proofs.RuleKept.{found_is, numbered_here, one_named}
use Rattle.sm_live.specs.Sessions.{Session, is_named, session_named, session_of}
use Rattle.sim_5_moves.specs.Running.{DeviceSimulates}
use Rattle.cmd_report.specs.Lines.{take_line}
use Rattle.cmd_report.specs.declared.report.TakeLine.{TakeLine}
use Rattle.cmd_schedule.specs.Contents.{Owned, accounts_of}
use Rattle.cmd_schedule.specs.Schedules.{WireView, keep_of}
use Rattle.cmd_schedule.specs.LineLists.{IsLineList}
use Rattle.cmd_schedule.specs.WireGrammar.{nothing_above}
use Rattle.law_server.proofs.SessionsRendered.{of_rendered}
use Rattle.law_server.specs.Rendered as server
use Rattle.sim_1_applications.proofs.Runs.{taken_along, taken_beginning}
use Rattle.sim_1_applications.specs.Devices as sessions
use Rattle.sim_1_applications.specs.Devices.{Named, Present, epoch_of}
use Rattle.sim_1_applications.specs.Events.{AppEvent, Reaches}
use Rattle.sim_1_applications.specs.Kept.{IsOfDevice, Taken, is_of}
use Rattle.sim_1_applications.specs.Laws.{AreAbove}
use Rattle.sim_1_applications.proofs.Ground.{lines_of_device}
use Rattle.sim_1_applications.proofs.Owners.{names_differ}
use Rattle.sim_1_applications.proofs.WireSteps.{wire_stand}
use Rattle.sim_1_applications.specs.Reported.{take_of}
use Rattle.sim_1_applications.specs.Runs.{begins, owned_of, steps_in}
use Rattle.base_lemmas.proofs.Lists.{AllByRecursion-weaker}
use Rattle.sim_7_schedules.proofs.Moves.{small}
use Rattle.sim_7_schedules.proofs.SessionRuns.{IsAfter, Leads, after_along, led_along}
use Rattle.sim_7_schedules.proofs.WorldTold as world
use Rattle.sim_7_schedules.specs.Simulation.{Simulates, bounds}
use Rattle.sim_7_schedules.specs.Bound.{AreEnabled, HasBound, IsTakenAbove}
use Rattle.sim_7_schedules.specs.Messages.{taken_of}
use Rattle.cmd_world.specs.Histories.{common_steps}
use Rattle.cmd_world.specs.Worlds.{ByteWorld}
use Rattle.xml_writer.specs.Items.{ItemOut, written_item}

-- ---- the session of the present epoch, in one world

module _ (s : WireView) (W : ByteWorld) (x : sessions.AppWorld) (beside : Simulates s W x) (i : ℕ) (o : Owned) (owned : slice_get (owned_of s) i ≡ Some o) where
  abbrev pub here : DeviceSimulates s beside.items x i o
  here = beside.runs.simulation.devices i o owned

  abbrev position : ℕ
  position = account_position o.account (accounts_of (common_steps s))

  abbrev items : List (Session ItemOut)
  items = beside.items.server.sessions

  kept : LinkKept here.view
  kept = link_kept here.view (prompt_runs awaits here.view here.prompt)

  -- where the client has read of it: it is counted as its stage says
  record IsStaged (u : Session ItemOut) : Type 0 where
    known : Bool
    stage : stage_of u.shown.counted known ≡ here.device.sessions.now.stage

  record IsPresent : Type 0 where
    session : Session ItemOut
    found : session_named position o.device items ≡ Some session
    staged : IsStaged session

  present_by : (row : Option (Row ItemOut)) (found : Option (Session ItemOut)) → here.view.row ≡ row → session_named position o.device items ≡ found → IsRowRepresented row found →
      IsRow (seen here.view) here.device.sessions.row (seen here.view).live → here.device.sessions.row ≡ Present → IsPresent
  present_by None found row named shown is present = let none = rw row at is in absurd (let no_way : ⊥ = cc in no_way)
  present_by (Some r) None row named shown is present = absurd shown
  present_by (Some r) (Some u) row named shown is present =
      let k = kept.row r row in
      let (t, there, which) = rw row at is in
      let same : seen_session k.session ≡ t = same_Some (seen_session k.session) t (sym (ap seen_as k.is) ∙ there) in
      elim which [
        | inl unread ↦ let other = unread.1 in absurd (let no_way : ⊥ = cc in no_way)
        | inr now ↦ record {
          session = u;
          found = named;
          staged = record {
            known = t.known;
            stage = ap (λ b. stage_of b t.known) (shown.counted ∙ k.counted ∙ ap (λ (q : _). q.counted) same) ∙ (here.sessions.now r.number t there now.0).stage;
          };
        }
      ]

  present_here : here.device.sessions.row ≡ Present → IsPresent
  present_here present = present_by here.view.row (session_named position o.device items) refl refl here.represents.server.row here.sessions.row present

  -- ---- its flag, in the world of bytes

  rendered : (n : ℕ) → session_of n W.server.server_state.sessions ≡ option_map (server.session_rendered written_item) (session_of n items)
  rendered n = ap (λ (h : ServerState (List ℕ)). session_of n h.sessions) beside.encodes.encoding.server_state ∙ of_rendered written_item n items

  staged_counted : (known : Bool) → stage_of true known ≢ Named
  staged_counted true = λ is. let no_way : ⊥ = cc in no_way
  staged_counted false = λ is. let no_way : ⊥ = cc in no_way

  pub enabled_here : AreEnabled s o W → here.device.sessions.row ≡ Present → here.device.sessions.now.stage ≢ Named
  enabled_here enabled present =
      let p = present_here present in
      let t = server.session_rendered written_item p.session in
      let numbered = numbered_here (is_named position o.device) beside.items.server.next 1 items p.session here.represents.server.server_state.sessions.ascending p.found in
      let is : p.session.shown.counted ≡ true = enabled t (record { there = rendered p.session.shown.number ∙ ap (option_map (server.session_rendered written_item)) numbered; named = found_is (is_named position o.device) items p.session p.found }) in
      λ named. staged_counted p.staged.known (ap (λ b. stage_of b p.staged.known) (sym is) ∙ p.staged.stage ∙ named)

  item_of : (t : Session (List ℕ)) (found : Option (Session ItemOut)) → option_map (server.session_rendered written_item) found ≡ Some t → (u : Session ItemOut) × (found ≡ Some u) × (u.shown ≡ t.shown)
  item_of t None at = absurd (none-some t at)
  item_of t (Some u) at = (u, refl, ap (λ (q : Session (List ℕ)). q.shown) (same_Some (server.session_rendered written_item u) t at))

  pub bound_here : HasBound s o W → here.device.sessions.row ≡ Present → here.device.sessions.now.stage ≡ Named
  bound_here bound present =
      let p = present_here present in
      let t = bound.session in
      let (u, there, shown) = item_of t (session_of t.shown.number items) (sym (rendered t.shown.number) ∙ bound.of.there) in
      let numbered : session_of u.shown.number items ≡ Some u = ap (λ (v : _). session_of v.number items) shown ∙ there in
      let named : is_named position o.device u ≡ true = subst (λ v. is_named position o.device (record { shown = v; acked = u.acked; handled = u.handled; waiting = u.waiting }) ≡ true) (sym shown) bound.of.named in
      let same : u ≡ p.session = one_named position o.device beside.items.server.next items p.session u here.represents.server.server_state.sessions p.found numbered named in
      let un : p.session.shown.counted ≡ false = ap (λ (q : Session ItemOut). q.shown.counted) (sym same) ∙ ap (λ (v : _). v.counted) shown ∙ bound.unenabled in
      sym p.staged.stage ∙ ap (λ b. stage_of b p.staged.known) un

  -- ---- the client's epoch

  pub epoch_here : (d : DeviceState) → slice_get W.devices i ≡ Some d → d.client.client.epoch ≡ epoch_of here.device.sessions
  epoch_here d at =
      let found = found_both DeviceEncodes d (slice_get W.devices i) (slice_get beside.items.devices i) at (beside.encodes.encoding.devices i) in
      let same : found.other ≡ here.represents.device = same_Some found.other here.represents.device (sym found.is ∙ here.represents.there) in
      ap (λ c. c.epoch) found.holds.client ∙ ap (λ (e : ItemDevice). e.client.epoch) same ∙ here.represents.client.epoch ∙ here.sessions.epoch

-- ---- takes

module _ (s : WireView) (right : IsLineList s) where
  taken_here : (W : ByteWorld) (x : sessions.AppWorld) → Simulates s W x → Taken x
  taken_here W x beside =
      let led = beside.runs.in_bounds.led in
      taken_along led.events (begins s) x led.reaches (taken_beginning (keep_of s.version) (accounts_of (steps_in s)) (map (λ (p : Owned). p.account) (owned_of s)))

  abbrev lines_of : List sessions.Take → List TakeLine
  lines_of ts = map (take_line s.version) (map (take_of (owned_of s)) ts)

  lines_here : (W : ByteWorld) (x : sessions.AppWorld) → IsWorldKept s W → Simulates s W x → W.takes ≡ lines_of x.takes
  lines_here W x kept beside = (world.reported s bounds beside.says W beside.items x right small kept beside.encodes beside.runs).takes

  all_back : {A : Type 0} (P : A → Type 0) (xs ys : List A) → AllByRecursion P (xs ++ ys) → AllByRecursion P ys
  all_back P [] ys all = all
  all_back P (z ∷ xs) ys all = all_back P xs ys all.1

  epochs_above : (epoch : ℕ) (ts : List sessions.Take) → AllByRecursion (λ t. epoch < t.said.epoch) ts → AllByRecursion (λ (line : TakeLine). epoch < line.epoch) (lines_of ts)
  epochs_above epoch [] all = tt
  epochs_above epoch (t ∷ ts) all = (all.0, epochs_above epoch ts all.1)

  -- ---- behind a bind

  module _ (i : ℕ) (o : Owned) (owned : slice_get (owned_of s) i ≡ Some o) where
    lines_above : (epoch : ℕ) (more : List sessions.Take) → AllByRecursion (λ (t : sessions.Take). t.device < length (owned_of s)) more → AreAbove epoch i more →
        AllByRecursion (λ (line : TakeLine). epoch < line.epoch) (taken_of o.device (lines_of more))
    lines_above epoch more within above =
        subst (AllByRecursion (λ (line : TakeLine). epoch < line.epoch)) (sym (lines_of_device s.version (owned_of s) i o more (names_differ (steps_in s) (wire_stand [] nothing_above s.lines refl right.lines)) owned within))
        (epochs_above epoch (filter (is_of i) more) above)

    pub taken_after : (V U : ByteWorld) (y z : sessions.AppWorld) (es : List AppEvent) (epoch : ℕ) → IsWorldKept s V → IsWorldKept s U → (at : Simulates s V y) → Simulates s U z → Reaches es y z → IsAfter epoch (here s V y at i o owned).device.sessions → IsTakenAbove epoch o V U
    taken_after V U y z es epoch keptV keptU at onward reaches following =
        let dr = here s V y at i o owned in
        let b = after_along epoch i es y z dr.device reaches (taken_here V y at) dr.there following in
        let many = onward.runs.simulation.many_there in
        let placed : AllByRecursion (IsOfDevice z.accounts (length z.devices)) (y.takes ++ b.more) = subst (AllByRecursion (IsOfDevice z.accounts (length z.devices))) b.are (taken_here U z onward).placed in
        let within = AllByRecursion-weaker (IsOfDevice z.accounts (length z.devices)) (λ (t : sessions.Take). t.device < length (owned_of s)) (λ t is. let low = is.device in omega (arith, many)) b.more (all_back _ y.takes b.more placed) in
        record {
          more = lines_of b.more;
          are = lines_here U z keptU onward ∙ ap lines_of b.are
              ∙ ap (map (take_line s.version)) (map-append (take_of (owned_of s)) y.takes b.more) ∙ map-append (take_line s.version) (map (take_of (owned_of s)) y.takes) (map (take_of (owned_of s)) b.more)
              ∙ ap (λ l. l ++ lines_of b.more) (sym (lines_here V y keptV at));
          above = lines_above epoch b.more within b.above;
        }

    -- the client's epoch was reached, and no session of it is any more
    pub after_a_bind : (W V : ByteWorld) (x y : sessions.AppWorld) (es : List AppEvent) (one : Simulates s W x) (two : Simulates s V y) → Reaches es x y → AreEnabled s o W → HasBound s o V →
        IsAfter (epoch_of (here s W x one i o owned).device.sessions) (here s V y two i o owned).device.sessions
    after_a_bind W V x y es one two reaches enabled bound =
        let old = here s W x one i o owned in
        let new = here s V y two i o owned in
        let led = led_along es x y i old.device reaches old.there in
        let same : led.device ≡ new.device = same_Some led.device new.device (sym led.at ∙ new.there) in
        by (subst (λ (e : sessions.Device). Leads old.device.sessions e.sessions) same led.leads)
      where
        by : Leads (here s W x one i o owned).device.sessions (here s V y two i o owned).device.sessions → IsAfter (epoch_of (here s W x one i o owned).device.sessions) (here s V y two i o owned).device.sessions
        by (inl more) = record { reached = omega (arith, more); above = λ present. more }
        by (inr stays) = let equal = stays.same in record {
          reached = omega (arith, equal);
          above = λ present. absurd (stays.counted present (enabled_here s W x one i o owned enabled (stays.was present)) (bound_here s V y two i o owned bound present));
        }
