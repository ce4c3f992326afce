-- Moves of bytes, one after another, as events of the applications.
use Rattle.std.proofs.Common.{◌≡◌, ℕ, zero, suc, ◌+◌, ◌≤◌, ◌==◌, Bool, true, false, cond, List, [], ◌∷◌, ◌++◌, Option, None, Some, length, map, refl, sym, ap, ◌∙◌, subst, arith}
use Rattle.std.proofs.lemmas.List.{append-nil}
use Rattle.std.proofs.lemmas.List.Concat.{flat_map-append}
use Rattle.std.specs.List.{AllByRecursion, flat_map, slice_get, slice_set}
use Rattle.sim_5_devices.proofs.AllSessionSteps.{reaches_both}
use Rattle.sim_3_images.proofs.AnsweredTable.{what_a_server_says_is_answered}
use Rattle.sim_3_images.proofs.Keeping.{cores_keep}
use Rattle.sim_3_images.proofs.RelayableSteps.{client_is_relayable}
use Rattle.sim_3_images.specs.Relayable.{ClientFits, DownFits, ServerFits, UpFits}
use Rattle.sim_3_images.proofs.Moves.{move_is}
use Rattle.sim_3_images.proofs.ServersInOrder.{cores_fit}
use Rattle.sim_3_images.specs.EncodingsCores.{CoresFit}
use Rattle.sim_3_images.specs.ItemRuns.{MayMove}
use Rattle.sim_3_images.specs.Notes.{all_item_notes}
use Rattle.sim_3_items.specs.Reading.{noted}
use Rattle.sim_3_images.specs.Stands.{StandingServers}
use Rattle.sim_3_images.specs.WorldEncodings.{IsMoved}
use Rattle.sim_3_items.specs.ItemMoves as items
use Rattle.sim_3_items.specs.ItemWorlds.{ItemWorld}
use Rattle.cmd_schedule.specs.Schedules.{WireView}
use Rattle.cmd_schedule.specs.declared.schedule.Count.{Count}
use Rattle.cmd_schedule.specs.declared.schedule.Count.TheVariants.{All}
use Rattle.sim_1_applications.specs.Devices.{AppWorld}
use Rattle.sim_1_applications.specs.Events.{AppEvent, Reaches, after}
use Rattle.sim_1_applications.specs.Histories.{Spoken, spoken_by, spoken_in, state_after}
use Rattle.sim_1_applications.proofs.Moments.{reaches_is}
use Rattle.cmd_network.specs.Devices.{DeviceState}
use Rattle.law_payloads.specs.AsRead.{last_moment}
use Rattle.net_pipes.specs.Pipes.{is_end_due}
use Rattle.srv_core.specs.Events.{after_gone}
use Rattle.cmd_network.specs.Wires.{amount, up_end_reported}
use Rattle.cmd_network.specs.declared.wire.Wire.{Wire}
use Rattle.cmd_world.proofs.TurnsLeft.{moved_join}
use Rattle.cmd_world.specs.Lines.{pass_of, passes_of, round_from, rounds_of}
use Rattle.cmd_world.specs.Moves.{Move, all_moved, moved}
use Rattle.cmd_world.specs.Moves as bytes
use Rattle.cmd_world.specs.Worlds as wires
use Rattle.sim_5_moves.specs.Running.{WorldSimulates}
use Rattle.sim_7_schedules.proofs.Leading.{all_gave, all_noted, all_read, at_once, nothing_told, told_along}
use Rattle.sim_7_schedules.specs.Simulation.{AllLead, LabelsAreNotedIn, EachMoveSimulates, IsEncoded, MovesSimulate, SimulatesBy, Views, bounds, clients_of, views_of}
use Rattle.sim_7_schedules.proofs.Wires.{IsNoDial, downs_none, moves_many, served_none}
use Rattle.xml_writer.specs.Items.{written_item}
use Rattle.sim_7_schedules.proofs.Rounds.{AtMost, Goes, IsInRound, down_line, most_after, round_of, up_line}

pub cores : CoresFit UpFits DownFits (StandingServers ServerFits) ClientFits
cores = cores_fit UpFits DownFits ServerFits ClientFits (cores_keep what_a_server_says_is_answered client_is_relayable)

-- a move of bytes is moves of items
pub is_moved : (m : Move) (W : wires.ByteWorld) (w : ItemWorld) → MayMove m → IsEncoded W w → IsMoved UpFits DownFits (StandingServers ServerFits) ClientFits m W w
is_moved m W w may encodes = move_is UpFits DownFits (StandingServers ServerFits) ClientFits cores m W w may encodes

-- Moves lead to a world of bytes, and events to one of the applications; behind each the two are related.
pub record LineGoes (schedule : WireView) (from : Views schedule) (dials says : ℕ) (said : List Spoken) (ms : List Move) (W : wires.ByteWorld) (x : AppWorld) (Post : ItemWorld → AppWorld → Type 0) : Type 0 where
  pub moves : List (List AppEvent)
  pub items : ItemWorld
  pub next : AppWorld
  pub led : Reaches (flat_map (λ one. one) moves) x next
  pub spoken : spoken_in (flat_map (λ one. one) moves) ≡ said
  pub encodes : IsEncoded (all_moved ms W) items
  pub runs : WorldSimulates schedule bounds says items next
  pub post : Post items next
  pub wide : length items.wires ≤ length W.wires + dials
  pub beside : MovesSimulate schedule ms moves from (views_of runs) W x

pub no_moves : (schedule : WireView) (says : ℕ) (W : wires.ByteWorld) (w : ItemWorld) (x : AppWorld) (Post : ItemWorld → AppWorld → Type 0) → IsEncoded W w → (runs : WorldSimulates schedule bounds says w x) → Post w x → LineGoes schedule (views_of runs) 0 says [] [] W x Post
no_moves schedule says W w x Post encodes runs post = record { moves = []; items = w; next = x; led = refl; spoken = refl; encodes = encodes; runs = runs; post = post; wide = (let same = encodes.encoding.as_many in omega arith); beside = refl }

-- one move
pub one_move : (schedule : WireView) (from : Views schedule) (dials says : ℕ) (said : List Spoken) (m : Move) (W : wires.ByteWorld) (x : AppWorld) (Post : ItemWorld → AppWorld → Type 0) (events : List AppEvent) (w2 : ItemWorld) (next : AppWorld) → Reaches events x next → spoken_in events ≡ said →
    IsEncoded (moved m W) w2 → (runs : WorldSimulates schedule bounds says w2 next) → AllLead schedule (LabelsAreNotedIn m W) from (views_of runs) → Post w2 next → length w2.wires ≤ length W.wires + dials → LineGoes schedule from dials says said (m ∷ []) W x Post
one_move schedule from dials says said m W x Post events w2 next led spoken encodes runs leads post wide = record {
  moves = events ∷ [];
  items = w2;
  next = next;
  led = subst (λ es. Reaches es x next) (sym (append-nil events)) led;
  spoken = ap spoken_in (append-nil events) ∙ spoken;
  encodes = encodes;
  runs = runs;
  post = post;
  wide = wide;
  beside = (
    views_of runs,
    subst (λ y. SimulatesBy schedule (moved m W) y (views_of runs)) (reaches_is events x next led) (record { beside = record { says = says; items = w2; encodes = encodes; runs = runs }; shown = λ i o is. refl }),
    leads,
    refl,
  );
}

-- moves, and then others

pub state_joined : (x : AppWorld) (first second : List AppEvent) → state_after x (first ++ second) ≡ state_after (state_after x first) second
state_joined x [] second = refl
state_joined x (e ∷ first) second = state_joined (after x e) first second

beside_joined : (schedule : WireView) (first second : List Move) (es fs : List (List AppEvent)) (from mid last : Views schedule) (W : wires.ByteWorld) (x : AppWorld) → MovesSimulate schedule first es from mid W x →
    MovesSimulate schedule second fs mid last (all_moved first W) (state_after x (flat_map (λ one. one) es)) → MovesSimulate schedule (first ++ second) (es ++ fs) from last W x
beside_joined schedule [] second [] fs from mid last W x one two = subst (λ (v : Views schedule). MovesSimulate schedule second fs v last W x) one two
beside_joined schedule [] second (e ∷ es) fs from mid last W x one two = absurd one
beside_joined schedule (m ∷ first) second [] fs from mid last W x one two = absurd one
beside_joined schedule (m ∷ first) second (e ∷ es) fs from mid last W x one two = (
  one.0,
  one.1,
  one.2,
  beside_joined schedule first second es fs one.0 mid last (moved m W) (state_after x e) one.3
      (subst (MovesSimulate schedule second fs mid last (all_moved first (moved m W))) (state_joined x e (flat_map (λ l. l) es)) two),
)

pub and_then : (schedule : WireView) (from : Views schedule) (mid says : ℕ) (said more : List Spoken) (first second : List Move) (W : wires.ByteWorld) (x : AppWorld) (Mid Post : ItemWorld → AppWorld → Type 0) →
    LineGoes schedule from 0 mid said first W x Mid →
    ((w : ItemWorld) (y : AppWorld) → IsEncoded (all_moved first W) w → (runs : WorldSimulates schedule bounds mid w y) → Mid w y → LineGoes schedule (views_of runs) 0 says more second (all_moved first W) y Post) →
    LineGoes schedule from 0 says (said ++ more) (first ++ second) W x Post
and_then schedule from mid says said more first second W x Mid Post one rest =
    let two = rest one.items one.next one.encodes one.runs one.post in
    record {
      moves = one.moves ++ two.moves;
      items = two.items;
      next = two.next;
      led = subst (λ es. Reaches es x two.next) (sym (flat_map-append (λ l. l) one.moves two.moves)) (reaches_both (flat_map (λ l. l) one.moves) (flat_map (λ l. l) two.moves) x one.next two.next one.led two.led);
      spoken = ap spoken_in (flat_map-append (λ l. l) one.moves two.moves) ∙ flat_map-append spoken_by (flat_map (λ l. l) one.moves) (flat_map (λ l. l) two.moves)
          ∙ ap (λ l. l ++ spoken_in (flat_map (λ k. k) two.moves)) one.spoken ∙ ap (λ l. said ++ l) two.spoken;
      encodes = subst (λ V. IsEncoded V two.items) (sym (moved_join first second W)) two.encodes;
      runs = two.runs;
      post = two.post;
      wide = let shown = one.encodes.encoding.as_many in let first_wide = one.wide in let second_wide = two.wide in omega arith;
      beside = beside_joined schedule first second one.moves two.moves from (views_of one.runs) (views_of two.runs) W x one.beside
          (subst (MovesSimulate schedule second two.moves (views_of one.runs) (views_of two.runs) (all_moved first W)) (reaches_is (flat_map (λ l. l) one.moves) x one.next one.led) two.beside);
    }

-- ---- passes and rounds

-- what is handed over leaves the moment

up_moment : (position : ℕ) (count : Count) (W : wires.ByteWorld) → (moved (bytes.Up position count) W).moment ≡ W.moment
up_moment position count W = told (slice_get (bytes.served_by position count (slice_get W.wires position) W).wires position) (bytes.served_by position count (slice_get W.wires position) W) ∙ of_wire (slice_get W.wires position)
  where
    chosen : (b : Bool) (wire : Wire) (V : wires.ByteWorld) → (cond b (record V { server = after_gone (wires.number_at position) V.moment V.server; wires = slice_set V.wires position (up_end_reported wire) }) V).moment ≡ V.moment
    chosen true wire V = refl
    chosen false wire V = refl

    told : (o : Option Wire) (V : wires.ByteWorld) → (bytes.reported_up position o V).moment ≡ V.moment
    told None V = refl
    told (Some wire) V = chosen (is_end_due wire.up) wire V

    first : (b : Bool) (n : ℕ) (wire : Wire) → (cond b W (bytes.served position n wire W)).moment ≡ W.moment
    first true n wire = refl
    first false n wire = refl

    of_wire : (o : Option Wire) → (bytes.served_by position count o W).moment ≡ W.moment
    of_wire None = refl
    of_wire (Some wire) = first (amount count wire.up == 0) (amount count wire.up) wire

down_moment : (position : ℕ) (count : Count) (W : wires.ByteWorld) → (moved (bytes.Down position count) W).moment ≡ W.moment
down_moment position count W = of_wire (slice_get W.wires position)
  where
    of_device : (wire : Wire) (o : Option DeviceState) → (bytes.down_to position count wire o W).moment ≡ W.moment
    of_device wire None = refl
    of_device wire (Some d) = refl

    of_wire : (o : Option Wire) → (bytes.down_by position count o W).moment ≡ W.moment
    of_wire None = refl
    of_wire (Some wire) = of_device wire (slice_get W.devices wire.device)

-- the moment can be told
abbrev pub IsTimely : wires.ByteWorld → Type 0
IsTimely W = W.moment ≤ last_moment

pass_timely : (position : ℕ) (W : wires.ByteWorld) → IsTimely W → IsTimely (all_moved (pass_of position) W)
pass_timely position W timely = subst (λ k. k ≤ last_moment) (sym (down_moment position All (moved (bytes.Up position All) W) ∙ up_moment position All W)) timely

round_timely : (position count : ℕ) (W : wires.ByteWorld) → IsTimely W → IsTimely (all_moved (round_from position count) W)
round_timely position zero W timely = timely
round_timely position (suc count) W timely = round_timely (position + 1) count (all_moved (pass_of position) W) (pass_timely position W timely)

module _ (schedule : WireView) (each : EachMoveSimulates schedule) where
  pub of_goes : (from : Views schedule) (says : ℕ) (m : Move) (W : wires.ByteWorld) (w : ItemWorld) (x : AppWorld) (Post : ItemWorld → AppWorld → Type 0) → IsEncoded W w → (r : IsMoved UpFits DownFits (StandingServers ServerFits) ClientFits m W w) →
      Goes schedule from (told_along r.moves w nothing_told) says (items.all_moved r.moves w) x (Post (items.all_moved r.moves w)) → AllByRecursion IsNoDial r.moves → LineGoes schedule from 0 says [] (m ∷ []) W x Post
  of_goes from says m W w x Post encodes r g none =
      one_move schedule from 0 says [] m W x Post g.events (items.all_moved r.moves w) g.next g.led g.silent r.encodes g.runs.world
      (λ i o is. let l = g.runs.leads i o is in (l.0, l.1, (all_item_notes r.moves w i, r.notes i, (l.2.0.0 ∙ ap (λ notes. clients_of (noted notes)) (all_noted r.moves w i), l.2.0.1 ∙ all_read r.moves w i ∙ sym (r.reads i)), ap (map written_item) (l.2.1 ∙ all_gave r.moves w i) ∙ sym (r.gives i)))) g.post
      (let same = moves_many r.moves w none in let shown = encodes.encoding.as_many in omega arith)

  pub up_byte : (says position : ℕ) (count : Count) (W : wires.ByteWorld) (w : ItemWorld) (x : AppWorld) (top n p : ℕ) → IsEncoded W w → (runs : WorldSimulates schedule bounds says w x) → IsInRound top n p w x →
      LineGoes schedule (views_of runs) 0 says [] (bytes.Up position count ∷ []) W x (IsInRound top n p)
  up_byte says position count W w x top n p encodes runs round =
      let r = is_moved (bytes.Up position count) W w tt encodes in
      let run = r.is_run in
      of_goes (views_of runs) says (bytes.Up position count) W w x (IsInRound top n p) encodes r
      (subst (λ ms. Goes schedule (views_of runs) (told_along ms w nothing_told) says (items.all_moved ms w) x (IsInRound top n p (items.all_moved ms w))) (sym run.3) (up_line schedule each (views_of runs) nothing_told says position run.0 run.1 w x top n p run.2 (at_once schedule says w x runs) round))
      (subst (AllByRecursion IsNoDial) (sym run.3) (served_none position run.0 run.1 run.2))

  pub down_byte : (says position : ℕ) (count : Count) (W : wires.ByteWorld) (w : ItemWorld) (x : AppWorld) (n : ℕ) → n ≤ 10100000 → IsTimely W → IsEncoded W w → (runs : WorldSimulates schedule bounds says w x) → IsInRound (n + 1) n position w x →
      LineGoes schedule (views_of runs) 0 says [] (bytes.Down position count ∷ []) W x (IsInRound (n + 1) n (position + 1))
  down_byte says position count W w x n few timely encodes runs round =
      let r = is_moved (bytes.Down position count) W w tt encodes in
      let run = r.is_run in
      of_goes (views_of runs) says (bytes.Down position count) W w x (IsInRound (n + 1) n (position + 1)) encodes r
      (subst (λ ms. Goes schedule (views_of runs) (told_along ms w nothing_told) says (items.all_moved ms w) x (IsInRound (n + 1) n (position + 1) (items.all_moved ms w))) (sym run.2) (down_line schedule each (views_of runs) nothing_told says position run.0 run.1 w x n few (subst (λ k. k ≤ last_moment) encodes.encoding.moment timely) (at_once schedule says w x runs) round))
      (subst (AllByRecursion IsNoDial) (sym run.2) (downs_none position run.0 run.1))

  pub pass_goes : (says position : ℕ) (W : wires.ByteWorld) (w : ItemWorld) (x : AppWorld) (n : ℕ) → n ≤ 10100000 → IsTimely W → IsEncoded W w → (runs : WorldSimulates schedule bounds says w x) → IsInRound (n + 1) n position w x →
      LineGoes schedule (views_of runs) 0 says [] (pass_of position) W x (IsInRound (n + 1) n (position + 1))
  pass_goes says position W w x n few timely encodes runs round =
      and_then schedule (views_of runs) says says [] [] (bytes.Up position All ∷ []) (bytes.Down position All ∷ []) W x (IsInRound (n + 1) n position) (IsInRound (n + 1) n (position + 1)) (up_byte says position All W w x (n + 1) n position encodes runs round)
      (λ v y shown here mid. down_byte says position All (moved (bytes.Up position All) W) v y n few (subst (λ k. k ≤ last_moment) (sym (up_moment position All W)) timely) shown here mid)

  pub round_goes : (says position count : ℕ) (W : wires.ByteWorld) (w : ItemWorld) (x : AppWorld) (n : ℕ) → n ≤ 10100000 → IsTimely W → IsEncoded W w → (runs : WorldSimulates schedule bounds says w x) → IsInRound (n + 1) n position w x →
      LineGoes schedule (views_of runs) 0 says [] (round_from position count) W x (λ v y. (p : ℕ) × IsInRound (n + 1) n p v y)
  round_goes says position zero W w x n few timely encodes runs round = no_moves schedule says W w x (λ v y. (p : ℕ) × IsInRound (n + 1) n p v y) encodes runs (position, round)
  round_goes says position (suc count) W w x n few timely encodes runs round =
      and_then schedule (views_of runs) says says [] [] (pass_of position) (round_from (position + 1) count) W x (IsInRound (n + 1) n (position + 1)) (λ v y. (p : ℕ) × IsInRound (n + 1) n p v y) (pass_goes says position W w x n few timely encodes runs round)
      (λ v y shown here mid. round_goes says (position + 1) count (all_moved (pass_of position) W) v y n few (pass_timely position W timely) shown here mid)

  pub rounds_go : (says times count : ℕ) (W : wires.ByteWorld) (w : ItemWorld) (x : AppWorld) (n : ℕ) → n + times ≤ 10100000 → IsTimely W → IsEncoded W w → (runs : WorldSimulates schedule bounds says w x) → AtMost n x →
      LineGoes schedule (views_of runs) 0 says [] (rounds_of times count) W x (λ v y. AtMost (n + times) y)
  rounds_go says zero count W w x n few timely encodes runs most = no_moves schedule says W w x (λ v y. AtMost (n + 0) y) encodes runs (subst (λ k. AtMost k x) (let same : n ≡ n + 0 = omega arith in same) most)
  rounds_go says (suc times) count W w x n few timely encodes runs most =
      and_then schedule (views_of runs) says says [] [] (round_from 0 count) (rounds_of times count) W x (λ v y. (p : ℕ) × IsInRound (n + 1) n p v y) (λ v y. AtMost (n + suc times) y)
      (round_goes says 0 count W w x n (omega arith) timely encodes runs (round_of n 0 w x most))
      (λ v y shown here mid. subst (λ k. LineGoes schedule (views_of here) 0 says [] (rounds_of times count) (all_moved (round_from 0 count) W) y (λ u z. AtMost k z)) (let same : n + 1 + times ≡ n + suc times = omega arith in same)
      (rounds_go says times count (all_moved (round_from 0 count) W) v y (n + 1) (omega arith) (round_timely 0 count W timely) shown here (most_after (n + 1) n mid.0 v y mid.1)))

  pub passes_go : (says times position : ℕ) (W : wires.ByteWorld) (w : ItemWorld) (x : AppWorld) (n : ℕ) → n + times ≤ 10100000 → IsTimely W → IsEncoded W w → (runs : WorldSimulates schedule bounds says w x) → AtMost n x →
      LineGoes schedule (views_of runs) 0 says [] (passes_of times position) W x (λ v y. AtMost (n + times) y)
  passes_go says zero position W w x n few timely encodes runs most = no_moves schedule says W w x (λ v y. AtMost (n + 0) y) encodes runs (subst (λ k. AtMost k x) (let same : n ≡ n + 0 = omega arith in same) most)
  passes_go says (suc times) position W w x n few timely encodes runs most =
      and_then schedule (views_of runs) says says [] [] (pass_of position) (passes_of times position) W x (IsInRound (n + 1) n (position + 1)) (λ v y. AtMost (n + suc times) y)
      (pass_goes says position W w x n (omega arith) timely encodes runs (round_of n position w x most))
      (λ v y shown here mid. subst (λ k. LineGoes schedule (views_of here) 0 says [] (passes_of times position) (all_moved (pass_of position) W) y (λ u z. AtMost k z)) (let same : n + 1 + times ≡ n + suc times = omega arith in same)
      (passes_go says times position (all_moved (pass_of position) W) v y (n + 1) (omega arith) (pass_timely position W timely) shown here (most_after (n + 1) n (position + 1) v y mid)))
