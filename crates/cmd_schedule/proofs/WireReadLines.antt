-- Lines of a wire schedule that are read one after the other.
use Rattle.std.proofs.Common.{◌≡◌, ℕ, ◌+◌, List, [], ◌∷◌, ◌++◌, Result, Ok, Err, refl, sym, ap, ◌∙◌, append_assoc}
use Rattle.std.proofs.lemmas.List.{append-nil}
use Rattle.cmd_schedule.specs.Reading.{Piece, pieces_of}
use Rattle.cmd_schedule.specs.WireGrammar.{WireAbove, above_by}
use Rattle.cmd_schedule.specs.WireReading.{read_wire_line, read_wire_lines, with_wire_front}
use Rattle.cmd_schedule.specs.declared.fault.LineWhy.{LineWhy}
use Rattle.cmd_schedule.specs.declared.fault.ScheduleFault.{ScheduleFault}
use Rattle.cmd_schedule.specs.declared.fault.ScheduleFault.TheVariants.{BadLine}
use Rattle.cmd_schedule.specs.declared.schedule.WireLine.{WireLine}
use Rattle.cmd_schedule.specs.declared.schedule.WireStep.{WireStep}

-- what was read before, and what is still read
abbrev pub with_wire_lines : List WireLine → Result (List WireLine) ScheduleFault → Result (List WireLine) ScheduleFault
with_wire_lines front (Ok lines) = Ok (front ++ lines)
with_wire_lines front (Err e) = Err e

regroup : (front : List WireLine) (line : WireLine) (read : Result (List WireLine) ScheduleFault) → with_wire_lines front (with_wire_front line read) ≡ with_wire_lines (front ++ line ∷ []) read
regroup front line (Ok lines) = ap (λ (all : List WireLine). Ok all) (simp append_assoc)
regroup front line (Err e) = refl

abbrev pub wire_line_of : ℕ → WireStep → WireLine
wire_line_of n step = record { number = n; step = step }

goes_on : (front : List WireLine) (above : WireAbove) (n : ℕ) (piece : Piece) (pieces : List Piece) (step : WireStep) → read_wire_line above n piece ≡ Ok step
    → with_wire_lines front (read_wire_lines above n (piece ∷ pieces)) ≡ with_wire_lines (front ++ wire_line_of n step ∷ []) (read_wire_lines (above_by step above) (n + 1) pieces)
goes_on front above n piece pieces step h = rw h (regroup front (wire_line_of n step) (read_wire_lines (above_by step above) (n + 1) pieces))

pub wire_stops : (front : List WireLine) (above : WireAbove) (n : ℕ) (piece : Piece) (pieces : List Piece) (reason : LineWhy) → read_wire_line above n piece ≡ Err reason
    → with_wire_lines front (read_wire_lines above n (piece ∷ pieces)) ≡ Err (BadLine n reason)
wire_stops front above n piece pieces reason h = rw h refl

pub wire_is_done : (front : List WireLine) (above : WireAbove) (n : ℕ) → with_wire_lines front (read_wire_lines above n []) ≡ Ok front
wire_is_done front above n = ap (λ (all : List WireLine). Ok all) (append-nil front)

-- one line of the text is read
pub wire_next : (front now : List WireLine) (above after : WireAbove) (n : ℕ) (text rest : List ℕ) (piece : Piece) (step : WireStep) (total : Result (List WireLine) ScheduleFault)
    → pieces_of text ≡ piece ∷ pieces_of rest → read_wire_line above n piece ≡ Ok step → now ≡ front ++ wire_line_of n step ∷ [] → after ≡ above_by step above
    → with_wire_lines front (read_wire_lines above n (pieces_of text)) ≡ total → with_wire_lines now (read_wire_lines after (n + 1) (pieces_of rest)) ≡ total
wire_next front now above after n text rest piece step total parts read pushed declared so_far =
    rw (pushed, declared) (sym (goes_on front above n piece (pieces_of rest) step read) ∙ ap (λ (ps : List Piece). with_wire_lines front (read_wire_lines above n ps)) (sym parts) ∙ so_far)
