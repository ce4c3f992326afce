-- A text in parts.
use Rattle.std.specs.Prelude.{◌≢◌, ℕ, List, [], string_bytes}
use Rattle.xml_trees.specs.declared.runs.Run.{Run}
use Rattle.xml_trees.specs.declared.runs.Run.TheVariants.{Nothing, One, Several}

-- the parts of a run as one text
abbrev pub run_text : Run → List ℕ
run_text Nothing = []
run_text (One t) = t
run_text (Several s) = string_bytes s

-- what was joined is not empty
abbrev pub HasNoEmptyText : Run → Type 0
HasNoEmptyText Nothing = Unit {0}
HasNoEmptyText (One t) = t ≢ []
HasNoEmptyText (Several s) = string_bytes s ≢ []
