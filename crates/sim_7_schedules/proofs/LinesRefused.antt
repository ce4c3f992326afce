-- What lines refuse is what devices have refused behind them.
use Rattle.std.proofs.Common.{◌≡◌, ℕ, zero, suc, Bool, true, false, cond, List, [], ◌∷◌, ◌++◌, Option, Some, None, map, refl, sym, ap, subst, append-nil, append_assoc, ◌∙◌}
use Rattle.std.proofs.lemmas.Bool.{false≢true, true≢false}
use Rattle.std.proofs.lemmas.List.{map-append}
use Rattle.std.proofs.lemmas.List.Elements.{filter-append}
use Rattle.std.proofs.lemmas.Option.{none-some, same_Some, slice_get-map}
use Rattle.std.specs.List.{AllByRecursion, filter, flat_map}
use Rattle.std.specs.Option.{option_map}
use Rattle.std.specs.Prelude.{slice_get}
use Rattle.std.specs.Str.{bytes_eq}
use Rattle.base_lemmas.proofs.Bytes.{bytes_eq-self}
use Rattle.cmd_network.specs.Devices.{DeviceState}
use Rattle.sim_7_schedules.proofs.MovesRefused.{none_more, noted_moved}
use Rattle.sim_7_schedules.proofs.NamesApart.{AreApart, IsApart, apart_at_start, names_of}
use Rattle.sim_7_schedules.specs.Refusals.{AreLinesRefused, Noted, all_refusals, catch_up_whys, lines_at, more_at, move_refusals, noted_after, noted_in, noted_of, refusals_at, refusals_of, say_whys, with_more}
use Rattle.cmd_report.specs.Reports.{DeviceView}
use Rattle.cmd_report.specs.declared.report.RefusedLine.{RefusedLine}
use Rattle.cmd_report.specs.declared.report.RefusedWhy.{RefusedWhy}
use Rattle.cmd_schedule.specs.Contents.{Owned, owned_in}
use Rattle.cmd_schedule.specs.Schedules.{WireView}
use Rattle.cmd_schedule.specs.LineLists.{IsLineList}
use Rattle.cmd_schedule.specs.declared.schedule.WireLine.{WireLine}
use Rattle.sim_1_applications.specs.Runs.{LineRun, Refusal, refused_by}
use Rattle.cmd_world.specs.Histories.{common_steps, owned_at_start, world_at_start, world_of}
use Rattle.cmd_world.specs.Lines.{all_stepped, moves_of, stepped}
use Rattle.cmd_world.specs.Moves as moves
use Rattle.cmd_world.specs.Moves.{Move, all_moved, moved}
use Rattle.cmd_world.specs.WorldReports.{device_line_of, report_of}
use Rattle.cmd_world.specs.Worlds.{ByteWorld}

-- ---- the lines under a name

abbrev lines_by : List ℕ → List Refusal → List RefusedLine
lines_by name rs = map (λ (refusal : Refusal). refusal.line) (filter (λ (refusal : Refusal). bytes_eq name refusal.device) rs)

lines_of_both : (name : List ℕ) (rs ss : List Refusal) → lines_by name (rs ++ ss) ≡ lines_by name rs ++ lines_by name ss
lines_of_both name rs ss =
    let is_its = λ (refusal : Refusal). bytes_eq name refusal.device in
    ap (map (λ (refusal : Refusal). refusal.line)) (filter-append is_its rs ss)
    ∙ map-append (λ (refusal : Refusal). refusal.line) (filter is_its rs) (filter is_its ss)

taken : (b : Bool) (r : Refusal) (rs : List Refusal) → b ≡ true → map (λ (refusal : Refusal). refusal.line) (cond b (r ∷ rs) rs) ≡ r.line ∷ map (λ (refusal : Refusal). refusal.line) rs
taken true r rs is = refl
taken false r rs is = absurd (false≢true is)

spared : (b : Bool) (r : Refusal) (rs : List Refusal) → b ≡ false → map (λ (refusal : Refusal). refusal.line) (cond b (r ∷ rs) rs) ≡ map (λ (refusal : Refusal). refusal.line) rs
spared true r rs is = absurd (true≢false is)
spared false r rs is = refl

own_lines : (name : List ℕ) (number : ℕ) (whys : List RefusedWhy) → lines_by name (refusals_of name number whys) ≡ lines_at number whys
own_lines name number [] = refl
own_lines name number (y ∷ ys) =
    taken (bytes_eq name name) (record { device = name; line = record { line = number; why = y } }) (filter (λ (r : Refusal). bytes_eq name r.device) (refusals_of name number ys)) (bytes_eq-self name)
    ∙ ap (λ (l : List RefusedLine). record { line = number; why = y } ∷ l) (own_lines name number ys)

no_lines : (name other : List ℕ) (number : ℕ) (whys : List RefusedWhy) → bytes_eq name other ≡ false → lines_by name (refusals_of other number whys) ≡ []
no_lines name other number [] apart = refl
no_lines name other number (y ∷ ys) apart =
    spared (bytes_eq name other) (record { device = other; line = record { line = number; why = y } }) (filter (λ (r : Refusal). bytes_eq name r.device) (refusals_of other number ys)) apart
    ∙ no_lines name other number ys apart

-- ---- one device adds lines

-- what a device has refused are the lines under its name
abbrev Holds : List Refusal → Noted → Type 0
Holds rs n = n.refused ≡ lines_by n.name rs

module _ (name : List ℕ) (number : ℕ) (whys : List RefusedWhy) (rs : List Refusal) where
  one_still : (n : Noted) → bytes_eq n.name name ≡ false → Holds rs n → Holds (rs ++ refusals_of name number whys) n
  one_still n apart is =
      is ∙ sym (append-nil (lines_by n.name rs)) ∙ ap (λ l. lines_by n.name rs ++ l) (sym (no_lines n.name name number whys apart)) ∙ sym (lines_of_both n.name rs (refusals_of name number whys))

  all_still : (first : List ℕ) (ns : List Noted) → first ≡ name → IsApart first (names_of ns) → AllByRecursion (Holds rs) ns → AllByRecursion (Holds (rs ++ refusals_of name number whys)) ns
  all_still first [] same apart all = tt
  all_still first (n ∷ ns) same apart all =
      (one_still n (subst (λ x. bytes_eq n.name x ≡ false) same apart.0.1) all.0, all_still first ns same apart.1 all.1)

  apart_there : (first : List ℕ) (names : List (List ℕ)) (position : ℕ) → IsApart first names → slice_get names position ≡ Some name → bytes_eq first name ≡ false
  apart_there first [] position apart at = absurd (none-some name at)
  apart_there first (n ∷ names) zero apart at = subst (λ x. bytes_eq first x ≡ false) (same_Some n name at) apart.0.0
  apart_there first (n ∷ names) (suc position) apart at = apart_there first names position apart.1 at

  one_adds : (n : Noted) → n.name ≡ name → Holds rs n → Holds (rs ++ refusals_of name number whys) (with_more (lines_at number whys) n)
  one_adds n same is =
      ap (λ l. l ++ lines_at number whys) is
      ∙ ap (λ l. lines_by n.name rs ++ l) (sym (own_lines n.name number whys) ∙ ap (λ x. lines_by n.name (refusals_of x number whys)) same)
      ∙ sym (lines_of_both n.name rs (refusals_of name number whys))

  lines_added : (ns : List Noted) (position : ℕ) → AreApart (names_of ns) → slice_get (names_of ns) position ≡ Some name → AllByRecursion (Holds rs) ns
      → AllByRecursion (Holds (rs ++ refusals_of name number whys)) (more_at position (lines_at number whys) ns)
  lines_added [] position apart at all = tt
  lines_added (n ∷ ns) zero apart at all = (let same = same_Some n.name name at in (one_adds n same all.0, all_still n.name ns same apart.0 all.1))
  lines_added (n ∷ ns) (suc position) apart at all = (one_still n (apart_there n.name (names_of ns) position apart.0 at) all.0, lines_added ns position apart.1 at all.1)

-- nothing is added
still_held : (rs : List Refusal) (ns : List Noted) → AllByRecursion (Holds rs) ns → AllByRecursion (Holds (rs ++ [])) ns
still_held rs ns all = subst (λ x. AllByRecursion (Holds x) ns) (sym (append-nil rs)) all

-- ---- a move

named_there : (devices : List DeviceState) (position : ℕ) (d : DeviceState) → slice_get devices position ≡ Some d → slice_get (names_of (map noted_of devices)) position ≡ Some d.name
named_there devices position d at =
    slice_get-map (λ (n : Noted). n.name) (map noted_of devices) position
    ∙ ap (option_map (λ (n : Noted). n.name)) (slice_get-map noted_of devices position ∙ ap (option_map noted_of) at)

-- the device there, where there is one, refuses for what it says
by_device : (number position : ℕ) (whys : Option DeviceState → List RefusedWhy) → whys None ≡ [] → (o : Option DeviceState) (devices : List DeviceState) (rs : List Refusal) → slice_get devices position ≡ o
    → AreApart (names_of (map noted_of devices)) → AllByRecursion (Holds rs) (map noted_of devices)
    → AllByRecursion (Holds (rs ++ refusals_at number o (whys o))) (more_at position (lines_at number (whys o)) (map noted_of devices))
by_device number position whys none None devices rs at apart all =
    subst (λ ws. AllByRecursion (Holds (rs ++ [])) (more_at position (lines_at number ws) (map noted_of devices))) (sym none)
    (subst (λ ns. AllByRecursion (Holds (rs ++ [])) ns) (none_more position devices at) (still_held rs (map noted_of devices) all))
by_device number position whys none (Some d) devices rs at apart all =
    lines_added d.name number (whys (Some d)) rs (map noted_of devices) position apart (named_there devices position d at) all

move_holds : (m : Move) (w : ByteWorld) (rs : List Refusal) → AreApart (names_of (noted_in w)) → AllByRecursion (Holds rs) (noted_in w) → AllByRecursion (Holds (rs ++ move_refusals m w)) (noted_after m w)
move_holds (moves.Dial position) w rs apart all = still_held rs (noted_in w) all
move_holds (moves.Forget position) w rs apart all = still_held rs (noted_in w) all
move_holds (moves.Close position) w rs apart all = still_held rs (noted_in w) all
move_holds (moves.Say position number to text private) w rs apart all = by_device number position (say_whys text) refl (slice_get w.devices position) w.devices rs refl apart all
move_holds (moves.CatchUp position number most) w rs apart all = by_device number position catch_up_whys refl (slice_get w.devices position) w.devices rs refl apart all
move_holds (moves.Tick milliseconds) w rs apart all = still_held rs (noted_in w) all
move_holds (moves.Up position count) w rs apart all = still_held rs (noted_in w) all
move_holds (moves.Down position count) w rs apart all = still_held rs (noted_in w) all
move_holds (moves.Cut position up down) w rs apart all = still_held rs (noted_in w) all

same_names : (position : ℕ) (lines : List RefusedLine) (ns : List Noted) → names_of ns ≡ names_of (more_at position lines ns)
same_names position lines [] = refl
same_names zero lines (n ∷ ns) = refl
same_names (suc position) lines (n ∷ ns) = ap (λ names. n.name ∷ names) (same_names position lines ns)

pub move_names : (m : Move) (w : ByteWorld) → names_of (noted_in w) ≡ names_of (noted_after m w)
move_names (moves.Dial position) w = refl
move_names (moves.Forget position) w = refl
move_names (moves.Close position) w = refl
move_names (moves.Say position number to text private) w = same_names position (lines_at number (say_whys text (slice_get w.devices position))) (noted_in w)
move_names (moves.CatchUp position number most) w = same_names position (lines_at number (catch_up_whys (slice_get w.devices position))) (noted_in w)
move_names (moves.Tick milliseconds) w = refl
move_names (moves.Up position count) w = refl
move_names (moves.Down position count) w = refl
move_names (moves.Cut position up down) w = refl

-- ---- moves and lines

-- what the devices of a world have refused, under their names, which are apart
record Stands (rs : List Refusal) (w : ByteWorld) : Type 0 where
  apart : AreApart (names_of (noted_in w))
  holds : AllByRecursion (Holds rs) (noted_in w)

one_move : (m : Move) (w : ByteWorld) (rs : List Refusal) → Stands rs w → Stands (rs ++ move_refusals m w) (moved m w)
one_move m w rs stands = record {
  apart = subst (λ ns. AreApart (names_of ns)) (sym (noted_moved m w)) (subst AreApart (move_names m w) stands.apart);
  holds = subst (λ ns. AllByRecursion (Holds (rs ++ move_refusals m w)) ns) (sym (noted_moved m w)) (move_holds m w rs stands.apart stands.holds);
}

all_moves : (ms : List Move) (w : ByteWorld) (rs : List Refusal) → Stands rs w → Stands (rs ++ all_refusals ms w) (all_moved ms w)
all_moves [] w rs stands = subst (λ x. Stands x w) (sym (append-nil rs)) stands
all_moves (m ∷ ms) w rs stands =
    subst (λ x. Stands x (all_moved ms (moved m w))) (append_assoc rs (move_refusals m w) (all_refusals ms (moved m w)))
    (all_moves ms (moved m w) (rs ++ move_refusals m w) (one_move m w rs stands))

all_lines : (lines : List WireLine) (runs : List LineRun) (w : ByteWorld) (rs : List Refusal) → AreLinesRefused lines runs w → Stands rs w → Stands (rs ++ flat_map (λ (r : LineRun). r.refused) runs) (all_stepped lines w)
all_lines [] [] w rs are stands = subst (λ x. Stands x w) (sym (append-nil rs)) stands
all_lines [] (r ∷ runs) w rs are stands = absurd are
all_lines (line ∷ lines) [] w rs are stands = absurd are
all_lines (line ∷ lines) (r ∷ runs) w rs are stands =
    let next = stepped line w in
    subst (λ x. Stands x (all_stepped lines next)) (append_assoc rs r.refused (flat_map (λ (run : LineRun). run.refused) runs))
    (all_lines lines runs next (rs ++ r.refused) are.2 (subst (λ x. Stands (rs ++ x) next) (sym are.1) (all_moves (moves_of line w) w rs stands)))

-- ---- a schedule

first_holds : (os : List Owned) → AllByRecursion (Holds []) (map noted_of (map owned_at_start os))
first_holds [] = tt
first_holds (o ∷ os) = (refl, first_holds os)

shown : (rs : List Refusal) (w : ByteWorld) (devices : List DeviceState) → AllByRecursion (Holds rs) (map noted_of devices) → AllByRecursion (λ (d : DeviceView). d.refused ≡ lines_by d.name rs) (map (device_line_of w) devices)
shown rs w [] all = tt
shown rs w (d ∷ devices) all = (all.0, shown rs w devices all.1)

last_stands : (schedule : WireView) (rs : List Refusal) → Stands rs (all_stepped schedule.lines (world_at_start schedule)) → Stands rs (world_of schedule)
unfolding world_of
last_stands schedule rs stands = stands

pub schedule_refused : (schedule : WireView) (runs : List LineRun) → IsLineList schedule → AreLinesRefused schedule.lines runs (world_at_start schedule)
    → AllByRecursion (λ (d : DeviceView). d.refused ≡ refused_by d.name runs) (report_of (world_of schedule)).devices
schedule_refused schedule runs right are =
    let first : Stands [] (world_at_start schedule) = record { apart = apart_at_start schedule right; holds = first_holds (owned_in (common_steps schedule)) } in
    let last : Stands (flat_map (λ (r : LineRun). r.refused) runs) (world_of schedule) =
    last_stands schedule (flat_map (λ (r : LineRun). r.refused) runs) (all_lines schedule.lines runs (world_at_start schedule) [] are first) in
    shown (flat_map (λ (r : LineRun). r.refused) runs) (world_of schedule) (world_of schedule).devices last.holds
