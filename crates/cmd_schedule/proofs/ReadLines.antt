-- Lines that are read one after the other.
use Rattle.std.proofs.Common.{◌≡◌, ℕ, ◌+◌, List, [], ◌∷◌, ◌++◌, Result, Ok, Err, refl, sym, ap, ◌∙◌, append_assoc}
use Rattle.std.proofs.lemmas.List.{append-nil}
use Rattle.cmd_schedule.specs.Grammar.{Declared, declared_by}
use Rattle.cmd_schedule.specs.Reading.{Piece, pieces_of, read_line, read_lines, with_front}
use Rattle.cmd_schedule.specs.declared.schedule.Line.{Line}
use Rattle.cmd_schedule.specs.declared.fault.LineWhy.{LineWhy}
use Rattle.cmd_schedule.specs.declared.fault.ScheduleFault.{ScheduleFault}
use Rattle.cmd_schedule.specs.declared.fault.ScheduleFault.TheVariants.{BadLine}
use Rattle.cmd_schedule.specs.declared.schedule.Step.{Step}

-- what was read before, and what is still read
abbrev pub with_lines : List Line → Result (List Line) ScheduleFault → Result (List Line) ScheduleFault
with_lines front (Ok lines) = Ok (front ++ lines)
with_lines front (Err e) = Err e

regroup : (front : List Line) (line : Line) (read : Result (List Line) ScheduleFault) → with_lines front (with_front line read) ≡ with_lines (front ++ line ∷ []) read
regroup front line (Ok lines) = ap (λ (all : List Line). Ok all) (simp append_assoc)
regroup front line (Err e) = refl

abbrev pub line_of : ℕ → Step → Line
line_of n step = record { number = n; step = step }

pub goes_on : (front : List Line) (above : Declared) (n : ℕ) (piece : Piece) (pieces : List Piece) (step : Step) → read_line above n piece ≡ Ok step
    → with_lines front (read_lines above n (piece ∷ pieces)) ≡ with_lines (front ++ line_of n step ∷ []) (read_lines (declared_by step above) (n + 1) pieces)
goes_on front above n piece pieces step h = rw h (regroup front (line_of n step) (read_lines (declared_by step above) (n + 1) pieces))

pub stops : (front : List Line) (above : Declared) (n : ℕ) (piece : Piece) (pieces : List Piece) (reason : LineWhy) → read_line above n piece ≡ Err reason
    → with_lines front (read_lines above n (piece ∷ pieces)) ≡ Err (BadLine n reason)
stops front above n piece pieces reason h = rw h refl

pub is_done : (front : List Line) (above : Declared) (n : ℕ) → with_lines front (read_lines above n []) ≡ Ok front
is_done front above n = ap (λ (all : List Line). Ok all) (append-nil front)

-- one line of the text is read
pub next : (front now : List Line) (above after : Declared) (n : ℕ) (text rest : List ℕ) (piece : Piece) (step : Step) (total : Result (List Line) ScheduleFault)
    → pieces_of text ≡ piece ∷ pieces_of rest → read_line above n piece ≡ Ok step → now ≡ front ++ line_of n step ∷ [] → after ≡ declared_by step above
    → with_lines front (read_lines above n (pieces_of text)) ≡ total → with_lines now (read_lines after (n + 1) (pieces_of rest)) ≡ total
next front now above after n text rest piece step total parts read pushed declared so_far =
    rw (pushed, declared) (sym (goes_on front above n piece (pieces_of rest) step read) ∙ ap (λ (ps : List Piece). with_lines front (read_lines above n ps)) (sym parts) ∙ so_far)
