-- The moves of a run are rounds of the links of each device whose connection is open in the end.
use Rattle.std.proofs.Common.{◌≡◌, ◌⊎◌, ℕ, zero, suc, ◌+◌, ◌≤◌, ◌<◌, true, false, List, [], ◌∷◌, ◌++◌, Some, sym, ap, ◌∙◌, subst, arith, inl, inr}
use Rattle.std.proofs.lemmas.Bool.{cases_eq}
use Rattle.std.specs.List.{slice_get}
use Rattle.cmd_schedule.specs.Contents.{Owned}
use Rattle.cmd_schedule.specs.Schedules.{WireView}
use Rattle.cmd_schedule.specs.declared.schedule.Count.TheVariants.{All}
use Rattle.cmd_world.proofs.TurnsLeft.{moved_join}
use Rattle.cmd_world.specs.Lines.{round_from, rounds_of}
use Rattle.cmd_world.specs.Moves.{Move, Down, Up, all_moved, moved}
use Rattle.cmd_world.specs.Worlds.{ByteWorld}
use Rattle.law_calm.proofs.Staying.{flows_along}
use Rattle.law_calm.specs.Rounds.{AreRounds, Goes, IsAny, IsRound, Leads}
use Rattle.sim_7_schedules.proofs.Along.{parts}
use Rattle.sim_7_schedules.proofs.Handing.{HasHere, down_emptied, hand_before, hands_before, here_there, round_hands, rounds_hand, up_emptied}
use Rattle.sim_7_schedules.proofs.LinksShown as shown
use Rattle.sim_1_applications.specs.Devices.{AppWorld}
use Rattle.sim_1_applications.specs.Events.{AppEvent}
use Rattle.sim_1_applications.specs.Histories.{state_after}
use Rattle.sim_2_links.specs.Machine.{LinkMove, LinkReaches}
use Rattle.sim_2_links.specs.Stages.{Conn}
use Rattle.sim_2_links.specs.Views.{View}
use Rattle.sim_2_links.specs.Wires.{down_words, is_flowing, up_words}
use Rattle.sim_5_moves.specs.Running.{IsOwned}
use Rattle.sim_5_moves.specs.Running as running
use Rattle.sim_3_items.specs.Labels.{Label}
use Rattle.sim_7_schedules.specs.Simulation.{LabelsAreNotedIn, MovesSimulate, SimulatesBy, Views}
use Rattle.xml_writer.specs.Items.{ItemOut}

-- ---- moves of the links

any_leads : (moves : List (LinkMove ItemOut)) (v last : View ItemOut) → LinkReaches moves v last → Leads IsAny moves v last
any_leads [] v last same = same
any_leads (move ∷ moves) v last (next, by, more) = (next, tt, by, any_leads moves next last more)

pub any_goes : (Does : List (Label ItemOut) → Type 0) (v last : View ItemOut) → running.Leads Does v last → Goes IsAny v last
any_goes Does v last leads = record { moves = leads.0; leads = any_leads leads.0 v last leads.1 }

leads_both : (moves more : List (LinkMove ItemOut)) (v mid last : View ItemOut) → Leads IsAny moves v mid → Leads IsAny more mid last → Leads IsAny (moves ++ more) v last
leads_both [] more v mid last same then = subst (λ x. Leads IsAny more x last) same then
leads_both (move ∷ moves) more v mid last (next, ok, by, rest) then = (next, ok, by, leads_both moves more next mid last rest then)

goes_both : (v mid last : View ItemOut) → Goes IsAny v mid → Goes IsAny mid last → Goes IsAny v last
goes_both v mid last one two = record { moves = one.moves ++ two.moves; leads = leads_both one.moves two.moves v mid last one.leads two.leads }

begins_earlier : (k : ℕ) (v mid last : View ItemOut) → Goes IsAny v mid → IsRound IsAny k mid last → IsRound IsAny k v last
begins_earlier k v mid last goes round = record { taken = round.taken; up = goes_both v mid round.taken goes round.up; up_empty = round.up_empty; read = round.read; down = round.down; down_empty = round.down_empty; rest = round.rest }

-- ---- a device

module _ (s : WireView) (i : ℕ) (o : Owned) (owned : IsOwned s i o) where
  abbrev of : Views s → View ItemOut
  of views = views i o owned

  moves_go : (ms : List Move) (ess : List (List AppEvent)) (views last : Views s) (W : ByteWorld) (x : AppWorld) → MovesSimulate s ms ess views last W x → Goes IsAny (of views) (of last)
  moves_go [] [] views last W x go = record { moves = []; leads = ap of go }
  moves_go [] (es ∷ ess) views last W x go = absurd go
  moves_go (m ∷ ms) [] views last W x go = absurd go
  moves_go (m ∷ ms) (es ∷ ess) views last W x go = goes_both (of views) (of go.0) (of last) (any_goes (LabelsAreNotedIn m W i) (of views) (of go.0) (go.2 i o owned)) (moves_go ms ess go.0 last (moved m W) (state_after x es) go.3)

  -- the connection that the device has in a world
  pub conn_of : (position : ℕ) (views : Views s) (W : ByteWorld) (x : AppWorld) → SimulatesBy s W x views → HasHere i position W → (c : Conn ItemOut) × ((of views).conns (position + 1) ≡ Some c) × (((of views).here ≡ Some (position + 1)) ⊎ (is_flowing c.wires ≡ false))
  conn_of position views W x by at =
      let d = here_there (slice_get W.devices i) position at in
      subst (λ (v : View ItemOut). (c : Conn ItemOut) × (v.conns (position + 1) ≡ Some c) × ((v.here ≡ Some (position + 1)) ⊎ (is_flowing c.wires ≡ false))) (by.shown i o owned)
      (shown.conn_here s W x by.beside i o owned position d.0 d.1 d.2)

  conns_same : (position : ℕ) (c : Conn ItemOut) (views : Views s) (W : ByteWorld) (x : AppWorld) (by : SimulatesBy s W x views) → (of views).conns (position + 1) ≡ Some c → (by.beside.runs.simulation.devices i o owned).view.conns (position + 1) ≡ Some c
  conns_same position c views W x by is = ap (λ (v : View ItemOut). v.conns (position + 1)) (by.shown i o owned) ∙ is

  -- behind all bytes up, and behind all bytes down
  up_none : (position : ℕ) (c : Conn ItemOut) (views : Views s) (W : ByteWorld) (x : AppWorld) → SimulatesBy s (moved (Up position All) W) x views → (of views).conns (position + 1) ≡ Some c → is_flowing c.wires ≡ true → up_words c.wires ≡ []
  up_none position c views W x by is flows = shown.no_words_up s (moved (Up position All) W) x by.beside i o owned position c (conns_same position c views (moved (Up position All) W) x by is) flows (up_emptied position W)

  down_none : (position : ℕ) (c b : Conn ItemOut) (views before : Views s) (W : ByteWorld) (x y : AppWorld) → SimulatesBy s W y before → (of before).conns (position + 1) ≡ Some b → HasHere i position W →
      SimulatesBy s (moved (Down position All) W) x views → (of views).conns (position + 1) ≡ Some c → is_flowing c.wires ≡ true → down_words c.wires ≡ []
  down_none position c b views before W x y was is_before here by is flows =
      let p = shown.pair_at s W y was.beside i o owned position b (conns_same position b before W y was is_before) in
      let d = here_there (slice_get W.devices i) position here in
      let there : slice_get W.devices p.bytes.device ≡ Some d.0 = ap (slice_get W.devices) (shown.of_device s W y was.beside i o owned position b p) ∙ d.1 in
      shown.no_words_down s (moved (Down position All) W) x by.beside i o owned position c (conns_same position c views (moved (Down position All) W) x by is) flows (down_emptied position W p.bytes d.0 p.there there d.2)

  -- ---- a round

  -- the connection is passed first
  round_first : (p count : ℕ) (es fs : List AppEvent) (ess : List (List AppEvent)) (views last : Views s) (W : ByteWorld) (x : AppWorld) (d : Conn ItemOut) → MovesSimulate s (Up p All ∷ Down p All ∷ round_from (p + 1) count) (es ∷ fs ∷ ess) views last W x →
      HasHere i p (all_moved (round_from (p + 1) count) (moved (Down p All) (moved (Up p All) W))) → (of last).conns (p + 1) ≡ Some d → is_flowing d.wires ≡ true → IsRound IsAny (p + 1) (of views) (of last)
  round_first p count es fs ess views last W x d go here at flows =
      let W1 = moved (Up p All) W in
      let W2 = moved (Down p All) W1 in
      let x1 = state_after x es in
      let x2 = state_after x1 fs in
      let v1 = go.0 in
      let v2 = go.3.0 in
      let here2 : HasHere i p W2 = hands_before (round_from (p + 1) count) W2 i p (round_hands (p + 1) count) here in
      let here1 : HasHere i p W1 = hand_before (Down p All) W1 i p tt here2 in
      let c1 = conn_of p v1 W1 x1 go.1 here1 in
      let c2 = conn_of p v2 W2 x2 go.3.1 here2 in
      let rest = moves_go (round_from (p + 1) count) ess v2 last W2 x2 go.3.3 in
      let down = any_goes (LabelsAreNotedIn (Down p All) W1 i) (of v1) (of v2) (go.3.2 i o owned) in
      let flows2 : is_flowing c2.0.wires ≡ true = flows_along IsAny rest.moves (of v2) (of last) (p + 1) c2.0 d rest.leads c2.1 at flows in
      let flows1 : is_flowing c1.0.wires ≡ true = flows_along IsAny down.moves (of v1) (of v2) (p + 1) c1.0 c2.0 down.leads c1.1 c2.1 flows2 in
      record {
        taken = of v1;
        up = any_goes (LabelsAreNotedIn (Up p All) W i) (of views) (of v1) (go.2 i o owned);
        up_empty = (c1.0, c1.1, up_none p c1.0 v1 W x1 go.1 c1.1 flows1);
        read = of v2;
        down = down;
        down_empty = (c2.0, c2.1, down_none p c2.0 c1.0 v2 v1 W1 x2 x1 go.1 c1.1 here1 go.3.1 c2.1 flows2);
        rest = rest;
      }

  round_in : (position p count : ℕ) (ess : List (List AppEvent)) (views last : Views s) (W : ByteWorld) (x : AppWorld) (d : Conn ItemOut) → MovesSimulate s (round_from p count) ess views last W x → p ≤ position → position < p + count →
      HasHere i position (all_moved (round_from p count) W) → (of last).conns (position + 1) ≡ Some d → is_flowing d.wires ≡ true → IsRound IsAny (position + 1) (of views) (of last)
  round_in position p zero ess views last W x d go from below here at flows = absurd (omega (arith, from, below))
  round_in position p (suc count) [] views last W x d go from below here at flows = absurd go
  round_in position p (suc count) (es ∷ []) views last W x d go from below here at flows = absurd go.3
  round_in position p (suc count) (es ∷ fs ∷ ess) views last W x d go from below here at flows =
      elim (cases_eq p position) [
        | inl same ↦
            subst (λ q. IsRound IsAny (q + 1) (of views) (of last)) same
            (round_first p count es fs ess views last W x d go (subst (λ q. HasHere i q (all_moved (round_from (p + 1) count) (moved (Down p All) (moved (Up p All) W)))) (sym same) here) (subst (λ q. (of last).conns (q + 1) ≡ Some d) (sym same) at) flows)
        | inr other ↦
            begins_earlier (position + 1) (of views) (of go.3.0) (of last)
            (goes_both (of views) (of go.0) (of go.3.0) (any_goes (LabelsAreNotedIn (Up p All) W i) (of views) (of go.0) (go.2 i o owned)) (any_goes (LabelsAreNotedIn (Down p All) (moved (Up p All) W) i) (of go.0) (of go.3.0) (go.3.2 i o owned)))
            (round_in position (p + 1) count ess go.3.0 last (moved (Down p All) (moved (Up p All) W)) (state_after (state_after x es) fs) d go.3.3 (omega (arith, from, other)) (omega (arith, below)) here at flows)
      ]

  -- ---- so many rounds

  pub rounds_in : (position n count : ℕ) (ess : List (List AppEvent)) (views last : Views s) (W : ByteWorld) (x : AppWorld) (d : Conn ItemOut) → SimulatesBy s W x views → MovesSimulate s (rounds_of n count) ess views last W x → position < count →
      HasHere i position (all_moved (rounds_of n count) W) → (of last).conns (position + 1) ≡ Some d → is_flowing d.wires ≡ true → AreRounds IsAny (position + 1) n (of views) (of last)
  rounds_in position zero count [] views last W x d by go below here at flows = ap of go
  rounds_in position zero count (es ∷ ess) views last W x d by go below here at flows = absurd go
  rounds_in position (suc n) count ess views last W x d by go below here at flows =
      let p = parts s (round_from 0 count) (rounds_of n count) ess views last W x by go in
      let V = all_moved (round_from 0 count) W in
      let here_then : HasHere i position (all_moved (rounds_of n count) V) = subst (λ U. HasHere i position U) (moved_join (round_from 0 count) (rounds_of n count) W) here in
      let here_mid : HasHere i position V = hands_before (rounds_of n count) V i position (rounds_hand n count) here_then in
      let c = conn_of position p.mid V p.applications p.by here_mid in
      let rest = moves_go (rounds_of n count) p.events_then p.mid last V p.applications p.go_then in
      let flows_mid : is_flowing c.0.wires ≡ true = flows_along IsAny rest.moves (of p.mid) (of last) (position + 1) c.0 d rest.leads c.1 at flows in
      let first = round_in position 0 count p.events views p.mid W x c.0 p.go (omega arith) (omega (arith, below)) here_mid c.1 flows_mid in
      (of p.mid, first, rounds_in position n count p.events_then p.mid last V p.applications d p.by p.go_then below here_then at flows)
