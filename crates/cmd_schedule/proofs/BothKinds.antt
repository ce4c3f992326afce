-- What is read is a schedule, and the text is its text; and the text of each schedule is read as that schedule.
use Rattle.std.proofs.Common.{◌≡◌, ℕ, true, false, Bool, List, ◌∷◌, ◌++◌, Result, Ok, Err, refl, sym, ap, subst, ◌∙◌, arith}
use Rattle.std.specs.List.{flat_map}
use Rattle.cmd_schedule.specs.Grammar.{AreLines, direct_text, header_text, may_keep, nothing_declared}
use Rattle.cmd_schedule.specs.Kinds.{IsSchedule, schedule_text}
use Rattle.cmd_schedule.specs.Reading.{Piece, pieces_of, read_header, read_lines}
use Rattle.cmd_schedule.specs.Schedules.{ScheduleView, WireView}
use Rattle.cmd_schedule.specs.WireGrammar.{AreWireLines, nothing_above, wire_text}
use Rattle.cmd_schedule.specs.WireReading.{as_direct, as_wire, read_below, read_kind, read_wire_lines, reading}
use Rattle.cmd_schedule.specs.declared.fault.LineWhy.{LineWhy}
use Rattle.cmd_schedule.specs.declared.fault.ScheduleFault.{ScheduleFault}
use Rattle.cmd_schedule.specs.declared.heading.Heading.{Heading}
use Rattle.cmd_schedule.specs.declared.schedule.Line.{Line}
use Rattle.cmd_schedule.specs.declared.schedule.Schedule.{Schedule}
use Rattle.cmd_schedule.specs.declared.schedule.Schedule.TheVariants.{Direct, Wire}
use Rattle.cmd_schedule.specs.declared.schedule.Version.{Version}
use Rattle.cmd_schedule.specs.declared.schedule.WireLine.{WireLine}
use Rattle.cmd_schedule.proofs.Again.{AreDeclared, lines_again}
use Rattle.cmd_schedule.proofs.Found.{line_text, lines_found, pieces_back, text_of_pieces}
use Rattle.cmd_schedule.proofs.Headings.{header_found, heading_again}
use Rattle.cmd_schedule.proofs.WireAgain.{wire_lines_again}
use Rattle.cmd_schedule.proofs.WireFound.{wire_line_text, wire_lines_found}
use Rattle.cmd_schedule.proofs.Words.{piece_after}

-- ---- what is read

below_ok : (r : Result (Heading × List Piece) LineWhy) (s : Schedule) → read_below r ≡ Ok s
    → (begun : Heading × List Piece) × (r ≡ Ok begun) × (read_kind begun.0.version begun.0.wire begun.1 ≡ Ok s)
below_ok (Ok begun) s e = (begun, refl, e)
below_ok (Err reason) s e = absurd cc

abbrev direct_of : Version → List Line → ScheduleView
direct_of version lines = record { version = version; wire = false; lines = lines }

abbrev wire_of : Version → List WireLine → WireView
wire_of version lines = record { version = version; lines = lines }

direct_ok : (version : Version) (r : Result (List Line) ScheduleFault) (s : Schedule) → as_direct version r ≡ Ok s → (lines : List Line) × (r ≡ Ok lines) × (Direct (direct_of version lines) ≡ s)
direct_ok version (Ok lines) s e = (lines, refl, cc)
direct_ok version (Err d) s e = absurd cc

wire_ok : (version : Version) (r : Result (List WireLine) ScheduleFault) (s : Schedule) → as_wire version r ≡ Ok s → (lines : List WireLine) × (r ≡ Ok lines) × (Wire (wire_of version lines) ≡ s)
wire_ok version (Ok lines) s e = (lines, refl, cc)
wire_ok version (Err d) s e = absurd cc

-- what was read behind line 1 is a schedule with this text
kind_found : (version : Version) (wire : Bool) (pieces : List Piece) (s : Schedule) → may_keep version ≡ true → read_kind version wire pieces ≡ Ok s
    → IsSchedule s × (header_text version wire ++ 10 ∷ text_of_pieces pieces ≡ schedule_text s)
kind_found version false pieces s keeps e =
    let b = direct_ok version (read_lines nothing_declared 2 pieces) s e in
    let c = lines_found nothing_declared 2 pieces b.0 b.1 in
    subst (λ (v : Schedule). IsSchedule v × (header_text version false ++ 10 ∷ text_of_pieces pieces ≡ schedule_text v)) b.2
    (record { direct = refl; keeps = keeps; lines = c.0 }, ap (λ (xs : List ℕ). header_text version false ++ 10 ∷ xs) c.1)
kind_found version true pieces s keeps e =
    let b = wire_ok version (read_wire_lines nothing_above 2 pieces) s e in
    let c = wire_lines_found nothing_above 2 pieces b.0 (omega arith) b.1 in
    subst (λ (v : Schedule). IsSchedule v × (header_text version true ++ 10 ∷ text_of_pieces pieces ≡ schedule_text v)) b.2
    (record { keeps = keeps; lines = c.0 }, ap (λ (xs : List ℕ). header_text version true ++ 10 ∷ xs) c.1)

pub reading_found : (text : List ℕ) (s : Schedule) → reading text ≡ Ok s → IsSchedule s × (text ≡ schedule_text s)
unfolding reading
reading_found text s e =
    let a = below_ok (read_header (pieces_of text)) s e in
    let h = header_found (pieces_of text) a.0 a.1 in
    let k = kind_found a.0.0.version a.0.0.wire a.0.1 s h.keeps a.2 in
    (k.0, sym (pieces_back text) ∙ h.spelled ∙ k.1)

-- ---- and read again

abbrev as_read : Schedule → Result Schedule ScheduleFault
as_read s = Ok s

none_declared : AreDeclared nothing_declared
none_declared = record { accounts = tt; devices = tt }

direct_again : (version : Version) (lines : List Line) → may_keep version ≡ true → AreLines nothing_declared 2 lines →
    reading (direct_text (direct_of version lines)) ≡ as_read (Direct (direct_of version lines))
unfolding reading
direct_again version lines keeps h =
    let read = lines_again nothing_declared 2 lines none_declared h in
    let headed = heading_again version false keeps in
    let parts = piece_after (header_text version false) (flat_map line_text lines) headed.lacks in
    rw (parts, headed.read, read) refl

wire_again : (version : Version) (lines : List WireLine) → may_keep version ≡ true → AreWireLines nothing_above 2 lines →
    reading (wire_text (wire_of version lines)) ≡ as_read (Wire (wire_of version lines))
unfolding reading
wire_again version lines keeps h =
    let read = wire_lines_again nothing_above 2 lines none_declared (omega arith) h in
    let headed = heading_again version true keeps in
    let parts = piece_after (header_text version true) (flat_map wire_line_text lines) headed.lacks in
    rw (parts, headed.read, read) refl

abbrev with_mode : ScheduleView → Bool → ScheduleView
with_mode s wire = record { version = s.version; wire = wire; lines = s.lines }

pub reading_again : (s : Schedule) → IsSchedule s → reading (schedule_text s) ≡ Ok s
reading_again (Direct s) h =
    subst (λ (w : Bool). reading (direct_text (with_mode s w)) ≡ as_read (Direct (with_mode s w))) (sym h.direct) (direct_again s.version s.lines h.keeps h.lines)
reading_again (Wire s) h = wire_again s.version s.lines h.keeps h.lines
