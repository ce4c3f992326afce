-- Behind the lines of a restart no connection is open, and the server is one that is started again.
use Rattle.std.proofs.Common.{◌≡◌, ℕ, zero, suc, ◌+◌, ◌<◌, ◌≤◌, Bool, true, false, not, cond, List, [], ◌∷◌, Option, Some, None, length, refl, sym, ap, subst, ◌∙◌, arith, inl, inr, le_refl}
use Rattle.std.proofs.lemmas.Bool.{cases_lt}
use Rattle.std.proofs.lemmas.List.{length-map}
use Rattle.std.proofs.lemmas.Option.{none-some, same_Some}
use Rattle.std.specs.Prelude.{slice_get, slice_set}
use Rattle.cmd_network.specs.Positions.{changed_at}
use Rattle.cmd_network.specs.Wires.{cut_at, up_end_reported}
use Rattle.cmd_network.specs.declared.wire.Wire.{Wire}
use Rattle.cmd_restarts.specs.Files.{FileView}
use Rattle.cmd_restarts.specs.RestartFiles.{is_next, without_next}
use Rattle.cmd_schedule.specs.Schedules.{WireView}
use Rattle.cmd_schedule.specs.declared.schedule.Count.TheVariants.{All}
use Rattle.cmd_schedule.specs.declared.schedule.Step.TheVariants.{Tick as TickStep}
use Rattle.cmd_schedule.specs.declared.schedule.WireLine.{WireLine}
use Rattle.cmd_schedule.specs.declared.schedule.WireStep.{WireStep}
use Rattle.cmd_schedule.specs.declared.schedule.WireStep.TheVariants as wire
use Rattle.cmd_world.specs.Histories.{world_at_start}
use Rattle.cmd_world.specs.Lines.{all_stepped}
use Rattle.cmd_world.specs.Moves as moves
use Rattle.cmd_world.specs.Moves.{moved, reported_up, served_by}
use Rattle.cmd_world.specs.Worlds.{ByteWorld, number_at}
use Rattle.cmd_world.proofs.AllMoves.{kept_by_lines, stepped_append}
use Rattle.cmd_world.proofs.Numbers.{many_at, many_set}
use Rattle.law_restart.proofs.Gone.{restarts}
use Rattle.law_restart.proofs.Stands.{stands_so}
use Rattle.law_restart.specs.Standing.{numbers_of}
use Rattle.law_restart.specs.Stopping.{again, stopping}
use Rattle.law_server.specs.Events.{Run, after_events, run}
use Rattle.sm_resumption.specs.declared.answers.TheConstants.{RESUMABLE_FOR}
use Rattle.srv_core.specs.Events.{after_gone}
use Rattle.srv_core.specs.Restarts.{at_restart}
use Rattle.srv_state.specs.declared.connection.Connection.{Connection}
use Rattle.xml_writer.specs.Items.{written_item}
use Rattle.cmd_restart_lines.proofs.OpenOnes.{none_open, told_at, told_here, told_past, told_stays}
use Rattle.cmd_restart_lines.proofs.StandingWorlds.{Stands, stands_at_start, stands_behind, stands_move}
use Rattle.cmd_restart_lines.proofs.ToldMoves.{many_line, told, told_cut, told_end, told_in}
use Rattle.cmd_restart_lines.specs.RestartLines.{as_schedule, line_at, lines_cutting, lines_cutting_all, lines_of, lines_restarting, with_dial}
use Rattle.cmd_restart_lines.specs.StartedAgain.{AreStartedAgain, IsStartedAgain, IsStartedWhere}

-- ---- a connection that is cut

-- what stays of the server where connections are gone, and of the world
pub record Stays (v w : ByteWorld) : Type 0 where
  pub domain : v.server.server_state.domain ≡ w.server.server_state.domain
  pub accounts : v.server.server_state.accounts ≡ w.server.server_state.accounts
  pub archives : v.server.server_state.archives ≡ w.server.server_state.archives
  pub next : v.server.server_state.next ≡ w.server.server_state.next
  pub moment : v.moment ≡ w.moment
  pub many : length v.wires ≡ length w.wires

pub stays : (w : ByteWorld) → Stays w w
stays w = record { domain = refl; accounts = refl; archives = refl; next = refl; moment = refl; many = refl }

stays_on : (u v w : ByteWorld) → Stays u v → Stays v w → Stays u w
stays_on u v w a b = record {
  domain = a.domain ∙ b.domain;
  accounts = a.accounts ∙ b.accounts;
  archives = a.archives ∙ b.archives;
  next = a.next ∙ b.next;
  moment = a.moment ∙ b.moment;
  many = a.many ∙ b.many;
}

-- the server was told that the connection at a place is gone, and of all others that it was told of before
record IsTold (position : ℕ) (v w : ByteWorld) : Type 0 where
  same : Stays v w
  here : told_at position (told_in v.wires) ≡ true
  others : (q : ℕ) → told_at q (told_in w.wires) ≡ true → told_at q (told_in v.wires) ≡ true

-- what stands at the place of a connection that was cut
abbrev cut_one : Option Wire → Option Wire
cut_one None = None
cut_one (Some b) = Some (cut_at 0 0 b)

cut_there : (position : ℕ) (ws : List Wire) → slice_get (changed_at position (cut_at 0 0) ws) position ≡ cut_one (slice_get ws position)
cut_there position [] = refl
cut_there zero (w ∷ ws) = refl
cut_there (suc position) (w ∷ ws) = cut_there position ws

told_there : (position : ℕ) (ws : List Wire) (b : Wire) → slice_get ws position ≡ Some b → told_at position (told_in ws) ≡ told b
told_there position [] b is = absurd (none-some b is)
told_there zero (w ∷ ws) b is = ap told (same_Some w b is)
told_there (suc position) (w ∷ ws) b is = told_there position ws b is

none_there : (position : ℕ) (ws : List Wire) → slice_get ws position ≡ None → told_at position (told_in ws) ≡ true
none_there position [] is = refl
none_there zero (w ∷ ws) is = absurd (none-some w (sym is))
none_there (suc position) (w ∷ ws) is = none_there position ws is

-- in a world in which nothing of the connection is under way and nothing comes
told_cut_one : (position : ℕ) (o : Option Wire) (w : ByteWorld) → slice_get w.wires position ≡ cut_one o → IsTold position (reported_up position (cut_one o) (served_by position All (cut_one o) w)) w
told_cut_one position None w there = record { same = stays w; here = none_there position w.wires there; others = λ q is. is }
told_cut_one position (Some b) w there = by b.up.told refl
  where
    by : (t : Bool) → b.up.told ≡ t → IsTold position (cond (not t) (record w { server = after_gone (number_at position) w.moment w.server; wires = slice_set w.wires position (up_end_reported (cut_at 0 0 b)) }) w) w
    by true is = record { same = stays w; here = told_there position w.wires (cut_at 0 0 b) there ∙ is; others = λ q was. was }
    by false is = record {
      same = record { domain = refl; accounts = refl; archives = refl; next = refl; moment = refl; many = many_set w.wires position (up_end_reported (cut_at 0 0 b)) };
      here = ap (told_at position) (told_end position (cut_at 0 0 b) w.wires) ∙ told_here position (told_in w.wires);
      others = λ q was. ap (told_at q) (told_end position (cut_at 0 0 b) w.wires) ∙ told_stays position q (told_in w.wires) was;
    }

-- it was cut
told_up : (position : ℕ) (o : Option Wire) (w : ByteWorld) → slice_get w.wires position ≡ cut_one o → IsTold position (moved (moves.Up position All) w) w
told_up position None w there =
    subst (λ (x : Option Wire). IsTold position (reported_up position (slice_get (served_by position All x w).wires position) (served_by position All x w)) w) (sym there)
    (subst (λ (x : Option Wire). IsTold position (reported_up position x w) w) (sym there) (told_cut_one position None w there))
told_up position (Some b) w there =
    subst (λ (x : Option Wire). IsTold position (reported_up position (slice_get (served_by position All x w).wires position) (served_by position All x w)) w) (sym there)
    (subst (λ (x : Option Wire). IsTold position (reported_up position x w) w) (sym there) (told_cut_one position (Some b) w there))

cut_and_told : (number position : ℕ) (w : ByteWorld) → IsTold position (all_stepped (lines_cutting number (suc position)) w) w
cut_and_told number position w =
    let v = moved (moves.Cut position 0 0) w in
    let u = moved (moves.Up position All) v in
    let t = told_up position (slice_get w.wires position) v (cut_there position w.wires) in
    let cut : Stays v w = record { domain = refl; accounts = refl; archives = refl; next = refl; moment = refl; many = many_at position (cut_at 0 0) w.wires } in
    record { same = stays_on u v w t.same cut; here = t.here; others = λ q was. t.others q (ap (told_at q) (told_cut position 0 0 w) ∙ was) }

-- ---- the first so many connections

pub record AreTold (count : ℕ) (v w : ByteWorld) : Type 0 where
  pub same : Stays v w
  pub first : (q : ℕ) → q < count → told_at q (told_in v.wires) ≡ true

pub all_told : (number count : ℕ) (w : ByteWorld) → AreTold count (all_stepped (lines_cutting_all number count) w) w
all_told number zero w = record { same = stays w; first = λ q below. absurd (omega (arith, below)) }
all_told number (suc k) w =
    let u = all_stepped (lines_cutting_all number k) w in
    let v = all_stepped (lines_cutting number (suc k)) u in
    let before = all_told number k w in
    let one = cut_and_told number k u in
    let told_all : (q : ℕ) → q < suc k → told_at q (told_in v.wires) ≡ true =
    λ q below. elim (cases_lt q k) [
      | inl earlier ↦ one.others q (before.first q earlier)
      | inr later ↦ (let last : q ≡ k = omega (arith, below, later) in ap (λ (n : ℕ). told_at n (told_in v.wires)) last ∙ one.here)
    ] in
    subst (λ (x : ByteWorld). AreTold (suc k) x w) (sym (stepped_append (lines_cutting_all number k) (lines_cutting number (suc k)) w))
    (record { same = stays_on v u w one.same before.same; first = told_all })

-- ---- and time passes

no_conns : (conns : List (ℕ × Connection)) → numbers_of conns ≡ [] → conns ≡ []
no_conns [] e = refl
no_conns (c ∷ conns) e = absurd (let bad : ⊥ = cc in bad)

pub started_world : (w : ByteWorld) (number dialed : ℕ) → Stands w → length w.wires ≤ dialed → IsStartedAgain number dialed w
started_world w number dialed stands few =
    let v = all_stepped (lines_cutting_all number dialed) w in
    let last = line_at number (wire.Common (TickStep 300000)) ∷ [] in
    let is = kept_by_lines Stands stands_move (lines_cutting_all number dialed) w stands in
    let cut = all_told number dialed w in
    let same = cut.same in
    let many : length (told_in v.wires) ≡ length w.wires = length-map v.wires told ∙ same.many in
    let every : (p : ℕ) → told_at p (told_in v.wires) ≡ true =
    λ p. elim (cases_lt p dialed) [
      | inl within ↦ cut.first p within
      | inr past ↦ told_past p (told_in v.wires) (omega (arith, many, few, past))
    ] in
    let none : v.server.server_state.conns ≡ [] = no_conns v.server.server_state.conns (none_open (told_in v.wires) (numbers_of v.server.server_state.conns) every is.fits.untold) in
    let later = v.moment + RESUMABLE_FOR in
    let law = restarts written_item v.server [] v.moment later (stands_so is.accounts v.server is.fits.goes) is.fits.early (le_refl later) in
    let gone : after_events written_item (stopping v.moment later []) (run v.server []) ≡ run (again later v.server.server_state) [] =
    sym (ap (λ (conns : List (ℕ × Connection)). after_events written_item (stopping v.moment later conns) (run v.server [])) none) ∙ law in
    let ticked : (all_stepped last v).server ≡ again later v.server.server_state = ap (λ (r : Run (List ℕ)). r.server) gone in
    let at : again later v.server.server_state ≡ again (w.moment + RESUMABLE_FOR) w.server.server_state =
    λ i. at_restart (same.domain i) (same.accounts i) (same.archives i) (same.next i) (same.moment i + RESUMABLE_FOR) in
    ap (λ (x : ByteWorld). x.server) (stepped_append (lines_cutting_all number dialed) last w) ∙ ticked ∙ at

pub started_behind : (schedule : WireView) (lines : List WireLine) (number dialed : ℕ) → length (all_stepped lines (world_at_start schedule)).wires ≤ dialed → IsStartedAgain number dialed (all_stepped lines (world_at_start schedule))
started_behind schedule lines number dialed few = started_world (all_stepped lines (world_at_start schedule)) number dialed (stands_behind schedule lines) few

-- ---- lines of a file

dial_more : (s : WireStep) (d : ℕ) → d ≤ with_dial s d
dial_more (wire.Common s) d = le_refl d
dial_more (wire.Dial device) d = omega arith
dial_more (wire.Forget device) d = le_refl d
dial_more (wire.Close device) d = le_refl d
dial_more (wire.Up k count) d = le_refl d
dial_more (wire.Down k count) d = le_refl d
dial_more (wire.Cut k up down) d = le_refl d
dial_more (wire.Pass k times) d = le_refl d
dial_more (wire.Run times) d = le_refl d

-- behind the lines that a line stands for there are as many connections as dial lines at most
pub few_behind : (is : Bool) (line : WireLine) (dialed : ℕ) (w : ByteWorld) → length w.wires ≤ dialed → length (all_stepped (lines_of is dialed line) w).wires ≤ with_dial line.step dialed
few_behind false line dialed w few = many_line line dialed w few
few_behind true line dialed w few =
    let last = line_at line.number (wire.Common (TickStep 300000)) ∷ [] in
    let same = (all_told line.number dialed w).same in
    let many : length (all_stepped (lines_restarting line.number dialed) w).wires ≡ length w.wires =
    ap (λ (x : ByteWorld). length x.wires) (stepped_append (lines_cutting_all line.number dialed) last w) ∙ same.many in
    let more = dial_more line.step dialed in
    omega (arith, many, few, more)

started_where : (is : Bool) (line : WireLine) (dialed : ℕ) (w : ByteWorld) → Stands w → length w.wires ≤ dialed → IsStartedWhere is line dialed w
started_where true line dialed w stands few = started_world w line.number dialed stands few
started_where false line dialed w stands few = tt

started_lines : (dialed : ℕ) (restarts : List ℕ) (lines : List WireLine) (w : ByteWorld) → Stands w → length w.wires ≤ dialed → AreStartedAgain dialed restarts lines w
started_lines dialed restarts [] w stands few = tt
started_lines dialed restarts (line ∷ lines) w stands few =
    let is = is_next line.number restarts in
    let v = all_stepped (lines_of is dialed line) w in (
      started_where is line dialed w stands few,
      started_lines (with_dial line.step dialed) (without_next is restarts) lines v (kept_by_lines Stands stands_move (lines_of is dialed line) w stands) (few_behind is line dialed w few),
    )

pub started_in_file : (f : FileView) → AreStartedAgain 0 f.restarts f.schedule.lines (world_at_start (as_schedule f))
started_in_file f = started_lines 0 f.restarts f.schedule.lines (world_at_start (as_schedule f)) (stands_at_start (as_schedule f)) (le_refl 0)
