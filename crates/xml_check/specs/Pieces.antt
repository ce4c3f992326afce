-- What is told of a stream piece by piece.
use Rattle.std.specs.Prelude.{◌≡◌, ℕ, Bool, true, false, List, [], ◌++◌, Option, Some, None, codes}
use Rattle.xml_check.specs.Checked.{Told, told_after, told_turn, wrong_with}
use Rattle.xml_check.specs.Lines.{fault_line}
use Rattle.xml_framer.specs.Machine.{run}
use Rattle.xml_framer.specs.States.{State, turn}

-- a text, and whether nothing is wrong
abbrev pub told_with : List ℕ → Bool → Told
told_with text sound = record { text = text; sound = sound }

-- what is told of the bytes behind a state
abbrev pub told_from : State → List ℕ → Told
told_from s rest = told_turn (run (turn s []) rest)

-- where a strange header was met, that is told in place of the rest
abbrev pub or_strange : Option ℕ → Told → Told
or_strange None rest = rest
or_strange (Some at) rest = wrong_with (fault_line at (codes "InvalidNamespace"))

-- all is told, or what is told of the rest comes behind the text
abbrev pub or_rest : Bool → List ℕ → Told → Told
or_rest true text rest = wrong_with text
or_rest false text rest = told_after text rest

-- A piece was told: it was `before` that stood there, and now `text` does.
abbrev pub IsToldOf : Bool → State → State → List ℕ → List ℕ → List ℕ → Type 0
IsToldOf over old new piece before text =
    (rest : List ℕ) → told_after before (told_from old (piece ++ rest)) ≡ or_rest over text (told_from new rest)
