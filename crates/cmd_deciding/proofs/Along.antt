-- What stays so along the lines of a file.
use Rattle.std.proofs.Common.{◌≡◌, ◌+◌, ◌≤◌, ℕ, List, [], ◌∷◌, Option, Some, None, length, map, refl, sym, ap, subst, ◌∙◌, arith}
use Rattle.std.specs.Prelude.{slice_get}
use Rattle.cl_intents.specs.Intents.{IntentsView, with_intent, with_try}
use Rattle.cl_intents.specs.declared.intents.Try.{Try}
use Rattle.cmd_intents.specs.Files.{FileView, IsIntentFile}
use Rattle.cmd_network.specs.Devices.{DeviceState}
use Rattle.cmd_network.specs.Positions.{position_under}
use Rattle.cmd_schedule.proofs.LineLists.{listed}
use Rattle.cmd_schedule.specs.LineLists.{ticked_in, ticked_of}
use Rattle.cmd_schedule.specs.declared.schedule.WireLine.{WireLine}
use Rattle.cmd_schedule.specs.declared.schedule.WireStep.{WireStep}
use Rattle.cmd_schedule.specs.declared.schedule.WireStep.TheVariants as wire
use Rattle.cmd_world.proofs.Numbers.{numbered_line}
use Rattle.cmd_world.proofs.Traces.{few_accounts, may_step, passes_line}
use Rattle.cmd_world.specs.Histories.{world_of}
use Rattle.cmd_world.specs.Lines.{all_stepped, passes_where, rounds_of, stepped}
use Rattle.cmd_world.specs.Standing.{IsNumbered, MayStep}
use Rattle.cmd_world.specs.Worlds.{ByteWorld}
use Rattle.cmd_resolving.specs.Expansion.{Asked, RunLine, Submitted, Watching, all_done, all_gone, as_schedule, asked, begun, done, expand, gone, lines_by, lines_of, noted, noted_try, observed_by, try_of, watched_end, watched_line, watched_step, watching_at_start}
use Rattle.cmd_deciding.proofs.Sendable.{each_named}
use Rattle.cmd_deciding.specs.Looks.{EachNamed, HasLooked}
use Rattle.cmd_deciding.proofs.Begins.{start_looked}
use Rattle.cmd_resolving.proofs.Declared.{expanded_is_run, start_same}
use Rattle.cmd_resolving.proofs.Expanded.{gone_world, line_in}
use Rattle.cmd_resolving.proofs.Listed.{Stands, file_listed, line_ticked, stands_next, stands_start}
use Rattle.cmd_deciding.proofs.Looked.{changed_looked, looked}
use Rattle.cmd_deciding.proofs.Watched.{watched_looked}

-- ---- all have looked

step_looked : (step : WireStep) (line : WireLine) (s : Watching) → HasLooked s → HasLooked (watched_step step line s)
step_looked (wire.Pass conn times) line s has = watched_looked (passes_where times (position_under conn)) s has
step_looked (wire.Run times) line s has = watched_looked (rounds_of times (length s.world.wires)) s has
step_looked (wire.Common step) line s has = looked (stepped line s.world) s.intents
step_looked (wire.Dial device) line s has = looked (stepped line s.world) s.intents
step_looked (wire.Forget device) line s has = looked (stepped line s.world) s.intents
step_looked (wire.Close device) line s has = looked (stepped line s.world) s.intents
step_looked (wire.Up conn count) line s has = looked (stepped line s.world) s.intents
step_looked (wire.Down conn count) line s has = looked (stepped line s.world) s.intents
step_looked (wire.Cut conn up down) line s has = looked (stepped line s.world) s.intents

tried_keeps : (k : ℕ) (t : Try) (o : Option DeviceState) (v : IntentsView) → observed_by o (with_try k t v) ≡ with_try k t (observed_by o v)
tried_keeps k t None v = refl
tried_keeps k t (Some d) v = refl

added_keeps : (to text : List ℕ) (o : Option DeviceState) (v : IntentsView) → observed_by o (with_intent to text v) ≡ with_intent to text (observed_by o v)
added_keeps to text None v = refl
added_keeps to text (Some d) v = refl

noted_looked : (at : Submitted) (o : Option Try) (s : Watching) → HasLooked s → HasLooked (noted_try at o s)
noted_looked at None s has = has
noted_looked at (Some t) s has = changed_looked (with_try at.intent t) at.device 0 s.world.devices s.intents (tried_keeps at.intent t) has

done_looked : (l : RunLine) (s : Watching) → HasLooked s → HasLooked (done l s)
done_looked l s has = by_submission l.submits
  where
    stepped_on : HasLooked (watched_line l.line s)
    stepped_on = step_looked l.line.step l.line s has

    by_submission : (o : Option Submitted) → HasLooked (noted o l.line s.world (watched_line l.line s))
    by_submission None = stepped_on
    by_submission (Some at) = noted_looked at (try_of l.line at.device s.world) (watched_line l.line s) stepped_on

all_done_looked : (ls : List RunLine) (s : Watching) → HasLooked s → HasLooked (all_done ls s)
all_done_looked [] s has = has
all_done_looked (l ∷ ls) s has = all_done_looked ls (done l s) (done_looked l s has)

begun_looked : (a : Asked) (s : Watching) → HasLooked s → HasLooked (begun a s)
begun_looked Asked.Plain s has = has
begun_looked (Asked.NewIntent index to text) s has = changed_looked (with_intent to text) index 0 s.world.devices s.intents (added_keeps to text) has
begun_looked (Asked.Resolve device index most) s has = has
begun_looked Asked.Nothing s has = has

gone_looked : (f : FileView) (line : WireLine) (s : Watching) → HasLooked s → HasLooked (gone f line s)
gone_looked f line s has = all_done_looked (lines_of f line s) (begun (asked f s.world.names line) s) (begun_looked (asked f s.world.names line) s has)

-- ---- the world

all_numbered : (lines : List WireLine) (w : ByteWorld) → IsNumbered w → IsNumbered (all_stepped lines w)
all_numbered [] w is = is
all_numbered (line ∷ lines) w is = all_numbered lines (stepped line w) (numbered_line line w is)

all_pass : (lines : List WireLine) (w : ByteWorld) → (all_stepped lines w).moment ≤ w.moment + ticked_in lines
all_pass [] w = omega arith
all_pass (line ∷ lines) w =
    let first = (passes_line line.step line.number w).moment in
    let rest = all_pass lines (stepped line w) in
    omega (arith, first, rest)

-- ---- with so many lines left

pub record Goes (f : FileView) (lines : List WireLine) (s : Watching) : Type 0 where
  pub stands : Stands f lines s
  pub numbered : IsNumbered s.world
  pub looked : HasLooked s
  pub soon : s.world.moment + ticked_in lines ≤ 253402207200000

pub goes_right : (f : FileView) (line : WireLine) (lines : List WireLine) (s : Watching) → Goes f (line ∷ lines) s → MayStep line.step s.world
goes_right f line lines s goes =
    let are = goes.stands.are in
    let soon : s.world.moment + (ticked_of line.step + ticked_in lines) ≤ 253402207200000 = goes.soon in
    may_step line.step goes.stands.above s.world are.2 (omega (arith, soon))

pub goes_named : (f : FileView) (lines : List WireLine) (s : Watching) → Goes f lines s → EachNamed s.intents
goes_named f lines s goes = each_named s.intents goes.stands.can

pub goes_next : (f : FileView) (line : WireLine) (lines : List WireLine) (s : Watching) → Goes f (line ∷ lines) s → Goes f lines (gone f line s)
goes_next f line lines s goes =
    let run = map line_in (lines_of f line s) in
    let there : (gone f line s).world ≡ all_stepped run s.world = gone_world f line s in
    let moment : (gone f line s).world.moment ≡ (all_stepped run s.world).moment = ap (λ (w : ByteWorld). w.moment) there in
    let passed = all_pass run s.world in
    let ticked = line_ticked f line lines s goes.stands in
    let soon : s.world.moment + (ticked_of line.step + ticked_in lines) ≤ 253402207200000 = goes.soon in
    record {
      stands = stands_next f line lines s goes.stands;
      numbered = subst IsNumbered (sym there) (all_numbered run s.world goes.numbered);
      looked = gone_looked f line s goes.looked;
      soon = omega (arith, moment, passed, ticked, soon);
    }

pub goes_start : (f : FileView) (s : Watching) → IsIntentFile f → s ≡ watching_at_start f → Goes f f.schedule.lines s
goes_start f s is same =
    subst (Goes f f.schedule.lines) (sym same) (record {
      stands = stands_start f is;
      numbered = (tt, tt);
      looked = start_looked f;
      soon = (let ticked : ticked_in f.schedule.lines ≤ 253402207200000 = (listed f.schedule is.schedule).ticked in omega (arith, ticked));
    })

-- ---- in the end

pub few_in_end : (f : FileView) (s : Watching) → IsIntentFile f → s ≡ watched_end f → length s.world.accounts ≤ 100
unfolding world_of
few_in_end f s is same =
    few_accounts (as_schedule f) s.world (file_listed f is) (ap (λ (t : Watching). t.world) same ∙ expanded_is_run f)
