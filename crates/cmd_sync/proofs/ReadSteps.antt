-- Steps that are read one after the other.
use Rattle.std.proofs.Common.{◌≡◌, ℕ, ◌+◌, List, [], ◌∷◌, ◌++◌, Result, Ok, Err, refl, sym, ap, ◌∙◌, append_assoc}
use Rattle.std.proofs.lemmas.List.{append-nil}
use Rattle.cmd_schedule.specs.Reading.{Piece, pieces_of}
use Rattle.cmd_schedule.specs.declared.fault.LineWhy.{LineWhy}
use Rattle.cmd_sync.specs.ScriptReading.{read_step, read_steps, with_step}
use Rattle.cmd_sync.specs.declared.script_fault.ScriptFault.{ScriptFault}
use Rattle.cmd_sync.specs.declared.script_fault.ScriptFault.TheVariants.{BadLine}
use Rattle.cmd_sync.specs.declared.script.Step.{Step}

-- what was read before, and what is still read
abbrev pub with_steps : List Step → Result (List Step) ScriptFault → Result (List Step) ScriptFault
with_steps front (Ok steps) = Ok (front ++ steps)
with_steps front (Err e) = Err e

regroup : (front : List Step) (step : Step) (read : Result (List Step) ScriptFault) → with_steps front (with_step step read) ≡ with_steps (front ++ step ∷ []) read
regroup front step (Ok steps) = ap (λ (all : List Step). Ok all) (simp append_assoc)
regroup front step (Err e) = refl

goes_on : (front : List Step) (n : ℕ) (piece : Piece) (pieces : List Piece) (step : Step) → read_step piece ≡ Ok step
    → with_steps front (read_steps n (piece ∷ pieces)) ≡ with_steps (front ++ step ∷ []) (read_steps (n + 1) pieces)
goes_on front n piece pieces step h = rw h (regroup front step (read_steps (n + 1) pieces))

-- a bad line
pub steps_stop : (front : List Step) (n : ℕ) (text rest : List ℕ) (piece : Piece) (reason : LineWhy) (total : Result (List Step) ScriptFault)
    → pieces_of text ≡ piece ∷ pieces_of rest → read_step piece ≡ Err reason → with_steps front (read_steps n (pieces_of text)) ≡ total → total ≡ Err (BadLine n reason)
steps_stop front n text rest piece reason total parts read so_far =
    sym so_far ∙ ap (λ (ps : List Piece). with_steps front (read_steps n ps)) parts ∙ rw read refl

pub steps_done : (front : List Step) (n : ℕ) (total : Result (List Step) ScriptFault) → with_steps front (read_steps n []) ≡ total → total ≡ Ok front
steps_done front n total so_far = sym so_far ∙ ap (λ (all : List Step). Ok all) (append-nil front)

-- one step of the text is read
pub next_step : (before now : List Step) (n : ℕ) (text rest : List ℕ) (piece : Piece) (step : Step) (total : Result (List Step) ScriptFault)
    → pieces_of text ≡ piece ∷ pieces_of rest → read_step piece ≡ Ok step → now ≡ before ++ step ∷ []
    → with_steps before (read_steps n (pieces_of text)) ≡ total → with_steps now (read_steps (n + 1) (pieces_of rest)) ≡ total
next_step before now n text rest piece step total parts read pushed so_far =
    rw pushed
    (sym (goes_on before n piece (pieces_of rest) step read)
    ∙ ap (λ (ps : List Piece). with_steps before (read_steps n ps)) (sym parts) ∙ so_far)
