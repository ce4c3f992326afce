-- What each line of a wire schedule comes to.
use Rattle.std.proofs.Common.{◌≡◌, ℕ, zero, suc, ◌+◌, ◌≤◌, ◌<◌, Bool, true, false, cond, List, [], ◌∷◌, ◌++◌, Option, Some, None, Result, Ok, Err, length, map, refl, sym, ap, subst, append_assoc, ◌∙◌, inl, inr, arith}
use Rattle.std.proofs.lemmas.Bool.{and_parts, false≢true, leb-true, or_left}
use Rattle.std.proofs.lemmas.Bool.Decides.{nat_tests}
use Rattle.std.proofs.lemmas.List.Folds.{list_any-append}
use Rattle.std.proofs.lemmas.Option.{none-some, same_Some}
use Rattle.std.specs.List.{flat_map}
use Rattle.std.specs.Prelude.{IfNone, IfSome, IsTrue, ◌&&◌, nat_le, nat_lt, slice_get}
use Rattle.std.specs.Option.{is_some}
use Rattle.std.specs.Str.{bytes_eq, is_utf8}
use Rattle.cl_core.specs.UserCalls.{catch_up_answer, catch_up_in, is_bad_text, outbox_bound, say_answer, say_in}
use Rattle.cl_core.specs.declared.faults.CatchUpStart.{CatchUpStart}
use Rattle.cl_core.specs.declared.faults.CatchUpStart.TheVariants as start
use Rattle.cl_core.specs.declared.faults.SayFault.{SayFault}
use Rattle.cl_core.specs.declared.faults.SayFault.TheVariants as say
use Rattle.cl_handlers.specs.Clients.{ClientView}
use Rattle.cmd_network.specs.Devices.{DeviceState}
use Rattle.base_io.proofs.NamePositions.{stands_nowhere, stands_there}
use Rattle.base_io.specs.Names.{is_among, position_of}
use Rattle.sim_7_schedules.proofs.LinesRefused.{move_names}
use Rattle.sim_7_schedules.proofs.MovesRefused.{noted_moved}
use Rattle.sim_7_schedules.proofs.NamesApart.{first_names, names_by, names_of}
use Rattle.sim_7_schedules.proofs.QuietMoves.{names_stay, one_refuses_nothing, passes_refuse_nothing, runs_refuse_nothing}
use Rattle.sim_7_schedules.specs.Answered.{AreAnswered, IsAnswered, IsCatchUpAnswered, IsNamedAt, IsSayAnswered}
use Rattle.sim_7_schedules.specs.Refusals.{AreLinesRefused, all_refusals, asked_why, catch_up_whys, noted_in, noted_of, refusals_at, refusals_of, said_why, say_whys}
use Rattle.sm_outbox.specs.Sessions.{SessionView}
use Rattle.cmd_report.specs.declared.report.RefusedWhy.{RefusedWhy}
use Rattle.cmd_report.specs.declared.report.RefusedWhy.TheVariants as why
use Rattle.cmd_schedule.specs.Contents.{Owned, owned_in}
use Rattle.cmd_schedule.specs.Grammar.{is_name, is_text}
use Rattle.cmd_schedule.specs.Schedules.{WireView, common_at, steps_of}
use Rattle.cmd_schedule.specs.LineLists.{AreListed, IsLineList}
use Rattle.cmd_schedule.specs.WireGrammar.{WireAbove, above_by, may_run, nothing_above}
use Rattle.cmd_schedule.specs.declared.schedule.Line.{Line}
use Rattle.cmd_schedule.specs.declared.schedule.Step.TheVariants as step
use Rattle.cmd_schedule.specs.declared.schedule.WireLine.{WireLine}
use Rattle.cmd_schedule.specs.declared.schedule.WireStep.{WireStep}
use Rattle.cmd_schedule.specs.declared.schedule.WireStep.TheVariants as wire
use Rattle.law_limits.proofs.NamesWithin.{text_within}
use Rattle.sim_1_applications.specs.Runs.{IsRefused, LineRun, Refusal, owned_of}
use Rattle.cmd_network.specs.Positions.{position_under}
use Rattle.cmd_world.specs.Histories.{common_steps, world_at_start}
use Rattle.cmd_world.specs.Lines.{move_of, moves_of, step_moves, stepped}
use Rattle.cmd_world.specs.Moves as moves
use Rattle.cmd_world.specs.Moves.{Move, all_moved, moved}
use Rattle.cmd_world.specs.Worlds.{ByteWorld}

-- ---- what a client answers

-- no text of a schedule is one that can't be sent
good_text : (text : List ℕ) → is_text text ≡ true → is_bad_text text ≡ false
good_text text is =
    let most = nat_le 1 (length text) && nat_le (length text) 1000 in
    let p = and_parts (most && is_utf8 text) _ is in
    let sizes = and_parts (nat_le 1 (length text)) (nat_le (length text) 1000) (and_parts most (is_utf8 text) p.0).0 in
    let some : 1 ≤ length text = leb-true 1 (length text) sizes.0 in
    let few : length text ≤ 1000 = leb-true (length text) 1000 sizes.1 in
    let short : nat_lt (length text) 1 ≡ false = grind (arith, nat_tests) in
    let long : nat_lt 10000 (length text) ≡ false = grind (arith, nat_tests) in
    rw (short, long, (text_within text is).characters.characters) refl

-- why neither is noted
abbrev is_other : Result ℕ SayFault → Bool
is_other (Err say.BadText) = true
is_other (Err say.NoMemory) = true
is_other (Err say.NotBound) = false
is_other (Err say.OutboxFull) = false
is_other (Ok n) = false

abbrev is_other_start : Result (Unit {0}) CatchUpStart → Bool
is_other_start (Err start.NoMemory) = true
is_other_start (Err start.NotBound) = false
is_other_start (Err start.OutboxFull) = false
is_other_start (Err start.Underway) = false
is_other_start (Ok done) = false

full_or_said : (b : Bool) (n : ℕ) → is_other (cond b (Err say.OutboxFull) (Ok n)) ≡ false
full_or_said true n = refl
full_or_said false n = refl

full_or_asked : (b u : Bool) → is_other_start (cond b (Err start.OutboxFull) (cond u (Err start.Underway) (Ok tt))) ≡ false
full_or_asked true u = refl
full_or_asked false true = refl
full_or_asked false false = refl

module _ (c : ClientView (List ℕ)) where
  said_in : (o : Option (SessionView (List ℕ))) → is_other (say_in c o) ≡ false
  said_in None = refl
  said_in (Some s) = full_or_said (nat_le outbox_bound (length s.waiting.queue)) _

  said_with : (b : Bool) → b ≡ false → is_other (cond b (Err say.BadText) (say_in c c.session)) ≡ false
  said_with true is = absurd (false≢true (sym is))
  said_with false is = said_in c.session

  answered_well : (text : List ℕ) → is_text text ≡ true → is_other (say_answer c text) ≡ false
  answered_well text is = said_with (is_bad_text text) (good_text text is)

  asked_in : (o : Option (SessionView (List ℕ))) → is_other_start (catch_up_in c o) ≡ false
  asked_in None = refl
  asked_in (Some s) = full_or_asked (nat_le outbox_bound (length s.waiting.queue)) (is_some c.log.page)

-- ---- a device by its name

found_under : {X : Type 0} (f : X → List ℕ) (xs : List X) (position : ℕ) (name : List ℕ) → slice_get (map f xs) position ≡ Some name → (x : X) × (slice_get xs position ≡ Some x) × (f x ≡ name)
found_under f [] position name at = absurd (none-some name at)
found_under f (x ∷ xs) zero name at = (x, refl, same_Some (f x) name at)
found_under f (x ∷ xs) (suc position) name at = found_under f xs position name at

device_names : (ds : List DeviceState) → map (λ (d : DeviceState). d.name) ds ≡ names_of (map noted_of ds)
device_names [] = refl
device_names (d ∷ ds) = ap (λ ns. d.name ∷ ns) (device_names ds)

-- a world whose names are those of the devices and of their owners
record IsKnown (owned : List Owned) (w : ByteWorld) : Type 0 where
  owners : map (λ (o : Owned). o.device) owned ≡ w.names
  devices : names_of (noted_in w) ≡ w.names

pub record Found (owned : List Owned) (w : ByteWorld) (name : List ℕ) : Type 0 where
  pub position : ℕ
  pub device : DeviceState
  pub is : IsNamedAt owned w name position device

found_by : (owned : List Owned) (w : ByteWorld) (name : List ℕ) → IsKnown owned w → is_among name w.names ≡ true → (o : Option ℕ) → position_of name w.names ≡ o → Found owned w name
found_by owned w name known among None at = absurd (false≢true (sym (subst (λ o. IfNone o (is_among name w.names ≡ false)) at (stands_nowhere name w.names)) ∙ among))
found_by owned w name known among (Some position) at =
    let there : (position < length w.names) × (slice_get w.names position ≡ Some name) = subst (λ o. IfSome o (λ i. (i < length w.names) × (slice_get w.names i ≡ Some name))) at (stands_there name w.names) in
    let o = found_under (λ (o : Owned). o.device) owned position name (ap (λ ns. slice_get ns position) known.owners ∙ there.1) in
    let d = found_under (λ (d : DeviceState). d.name) w.devices position name (ap (λ ns. slice_get ns position) (device_names w.devices ∙ known.devices) ∙ there.1) in
    record { position = position; device = d.0; is = record { named = at; owner = o; device = d.1; name_is = d.2 } }

-- ---- a line of a user

module _ (owned : List Owned) (w : ByteWorld) (name : List ℕ) (number : ℕ) (refused : List Refusal) (f : Found owned w name) where
  abbrev noted : List RefusedWhy → Type 0
  noted whys = refused ≡ refusals_of f.device.name number whys ++ []

  refused_so : (reason : RefusedWhy) → noted (reason ∷ []) → IsRefused name number refused
  refused_so reason is = (reason, is ∙ ap (λ (x : List ℕ). record { device = x; line = record { line = number; why = reason } } ∷ []) f.is.name_is)

  said_so : (text : List ℕ) (r : Result ℕ SayFault) → say_answer f.device.client.client text ≡ r → is_other r ≡ false → noted (said_why r) → IsSayAnswered owned w name text number refused
  said_so text (Ok n) is well so = (f.position, f.device, f.is, inl (n, is, so))
  said_so text (Err say.NotBound) is well so = (f.position, f.device, f.is, inr (say.NotBound, is, refused_so why.NotBound so))
  said_so text (Err say.OutboxFull) is well so = (f.position, f.device, f.is, inr (say.OutboxFull, is, refused_so why.OutboxFull so))
  said_so text (Err say.BadText) is well so = absurd (false≢true (sym well))
  said_so text (Err say.NoMemory) is well so = absurd (false≢true (sym well))

  asked_so : (r : Result (Unit {0}) CatchUpStart) → catch_up_answer f.device.client.client ≡ r → is_other_start r ≡ false → noted (asked_why r) → IsCatchUpAnswered owned w name number refused
  asked_so (Ok done) is well so = (f.position, f.device, f.is, inl (is, so))
  asked_so (Err start.NotBound) is well so = (f.position, f.device, f.is, inr (start.NotBound, is, refused_so why.NotBound so))
  asked_so (Err start.OutboxFull) is well so = (f.position, f.device, f.is, inr (start.OutboxFull, is, refused_so why.OutboxFull so))
  asked_so (Err start.Underway) is well so = (f.position, f.device, f.is, inr (start.Underway, is, refused_so why.Underway so))
  asked_so (Err start.NoMemory) is well so = absurd (false≢true (sym well))

  say_line : (to text : List ℕ) (private : Bool) → is_text text ≡ true → refused ≡ all_refusals (move_of (λ position. moves.Say position number to text private) (position_of name w.names)) w → IsSayAnswered owned w name text number refused
  say_line to text private good is =
      said_so text (say_answer f.device.client.client text) refl (answered_well f.device.client.client text good)
      (is ∙ ap (λ o. all_refusals (move_of (λ position. moves.Say position number to text private) o) w) f.is.named ∙ ap (λ o. refusals_at number o (say_whys text o) ++ []) f.is.device)

  catch_up_line : (most : ℕ) → refused ≡ all_refusals (move_of (λ position. moves.CatchUp position number most) (position_of name w.names)) w → IsCatchUpAnswered owned w name number refused
  catch_up_line most is =
      asked_so (catch_up_answer f.device.client.client) refl (asked_in f.device.client.client f.device.client.client.session)
      (is ∙ ap (λ o. all_refusals (move_of (λ position. moves.CatchUp position number most) o) w) f.is.named ∙ ap (λ o. refusals_at number o (catch_up_whys o) ++ []) f.is.device)

-- ---- a line

-- the names that stand above a line are among all
among_all : (name : List ℕ) (above more names : List (List ℕ)) → above ++ more ≡ names → is_among name above ≡ true → is_among name names ≡ true
among_all name above more names same is =
    subst (λ ns. is_among name ns ≡ true) same (list_any-append (λ other. bytes_eq name other) above more ∙ or_left (is_among name above) (is_among name more) is)

module _ (owned : List Owned) (w : ByteWorld) (above : WireAbove) (more : List (List ℕ)) (known : IsKnown owned w) (same : above.names.devices ++ more ≡ w.names) (number : ℕ) (refused : List Refusal) where
  found_above : (name : List ℕ) → is_among name above.names.devices ≡ true → Found owned w name
  found_above name is = found_by owned w name known (among_all name above.names.devices more w.names same is) (position_of name w.names) refl

  one_line : (s : WireStep) → IsTrue (may_run above s) → refused ≡ all_refusals (step_moves w.names (length w.wires) number s) w → IsAnswered owned w s number refused
  one_line (wire.Common (step.Account name)) may is = is
  one_line (wire.Common (step.Device name account)) may is = is
  one_line (wire.Common (step.Say name to text)) may is =
      let p = and_parts (is_among name above.names.devices && is_name to) (is_text text) may in
      say_line owned w name number refused (found_above name (and_parts (is_among name above.names.devices) (is_name to) p.0).0) to text false p.1 is
  one_line (wire.Common (step.Private name to text)) may is =
      let p = and_parts (is_among name above.names.devices && is_name to) (is_text text) may in
      say_line owned w name number refused (found_above name (and_parts (is_among name above.names.devices) (is_name to) p.0).0) to text true p.1 is
  one_line (wire.Common (step.Catchup name most)) may is =
      let p = and_parts (is_among name above.names.devices && nat_le 1 most) (nat_le most 100) may in
      catch_up_line owned w name number refused (found_above name (and_parts (is_among name above.names.devices) (nat_le 1 most) p.0).0) most is
  one_line (wire.Common (step.Tick ms)) may is = is
  one_line (wire.Dial device) may is = is ∙ one_refuses_nothing moves.Dial (position_of device w.names) w (λ position v. refl)
  one_line (wire.Forget device) may is = is ∙ one_refuses_nothing moves.Forget (position_of device w.names) w (λ position v. refl)
  one_line (wire.Close device) may is = is ∙ one_refuses_nothing moves.Close (position_of device w.names) w (λ position v. refl)
  one_line (wire.Up k count) may is = is ∙ one_refuses_nothing (λ position. moves.Up position count) (position_under k) w (λ position v. refl)
  one_line (wire.Down k count) may is = is ∙ one_refuses_nothing (λ position. moves.Down position count) (position_under k) w (λ position v. refl)
  one_line (wire.Cut k up down) may is = is ∙ one_refuses_nothing (λ position. moves.Cut position up down) (position_under k) w (λ position v. refl)
  one_line (wire.Pass k times) may is = is ∙ passes_refuse_nothing times (position_under k) w
  one_line (wire.Run times) may is = is ∙ runs_refuse_nothing times (length w.wires) w

-- ---- lines

one_known : (owned : List Owned) (m : Move) (w : ByteWorld) → names_of (noted_in (moved m w)) ≡ names_of (noted_in w)
one_known owned m w = ap names_of (noted_moved m w) ∙ sym (move_names m w)

devices_stay : (owned : List Owned) (ms : List Move) (w : ByteWorld) → names_of (noted_in (all_moved ms w)) ≡ names_of (noted_in w)
devices_stay owned [] w = refl
devices_stay owned (m ∷ ms) w = devices_stay owned ms (moved m w) ∙ one_known owned m w

known_after : (owned : List Owned) (ms : List Move) (w : ByteWorld) → IsKnown owned w → IsKnown owned (all_moved ms w)
known_after owned ms w known = record {
  owners = known.owners ∙ sym (names_stay ms w);
  devices = devices_stay owned ms w ∙ known.devices ∙ sym (names_stay ms w);
}

-- what is declared above a line and from it on
declared_on : (above : WireAbove) (number : ℕ) (s : WireStep) (rest : List Line) → (above_by s above).names.devices ++ names_by (steps_of rest) ≡ above.names.devices ++ names_by (steps_of (common_at number s ++ rest))
declared_on above number (wire.Common (step.Account name)) rest = refl
declared_on above number (wire.Common (step.Device name account)) rest = append_assoc above.names.devices (name ∷ []) (names_by (steps_of rest))
declared_on above number (wire.Common (step.Say device to text)) rest = refl
declared_on above number (wire.Common (step.Private device to text)) rest = refl
declared_on above number (wire.Common (step.Catchup device most)) rest = refl
declared_on above number (wire.Common (step.Tick ms)) rest = refl
declared_on above number (wire.Dial device) rest = refl
declared_on above number (wire.Forget device) rest = refl
declared_on above number (wire.Close device) rest = refl
declared_on above number (wire.Up k bytes) rest = refl
declared_on above number (wire.Down k bytes) rest = refl
declared_on above number (wire.Cut k up down) rest = refl
declared_on above number (wire.Pass k times) rest = refl
declared_on above number (wire.Run times) rest = refl

abbrev lines_in : List WireLine → List Line
lines_in lines = flat_map (λ (line : WireLine). common_at line.number line.step) lines

all_answered : (owned : List Owned) (above : WireAbove) (lines : List WireLine) (runs : List LineRun) (w : ByteWorld) → AreListed above lines → IsKnown owned w → above.names.devices ++ names_by (steps_of (lines_in lines)) ≡ w.names
    → AreLinesRefused lines runs w → AreAnswered owned lines runs w
all_answered owned above [] [] w are known same refused = tt
all_answered owned above [] (r ∷ runs) w are known same refused = absurd refused
all_answered owned above (line ∷ lines) [] w are known same refused = absurd refused
all_answered owned above (line ∷ lines) (r ∷ runs) w are known same refused = (
  one_line owned w above (names_by (steps_of (lines_in (line ∷ lines)))) known same line.number r.refused line.step are.1 refused.1,
  all_answered owned (above_by line.step above) lines runs (stepped line w) are.3 (known_after owned (moves_of line w) w known)
      (declared_on above line.number line.step (lines_in lines) ∙ same ∙ sym (names_stay (moves_of line w) w)) refused.2,
)

pub schedule_answered : (schedule : WireView) (runs : List LineRun) → IsLineList schedule → AreLinesRefused schedule.lines runs (world_at_start schedule)
    → AreAnswered (owned_of schedule) schedule.lines runs (world_at_start schedule)
schedule_answered schedule runs right refused =
    all_answered (owned_of schedule) nothing_above schedule.lines runs (world_at_start schedule) right.lines
    (record { owners = refl; devices = sym (first_names (owned_in (common_steps schedule))) }) refl refused
