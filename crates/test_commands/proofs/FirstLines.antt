-- What wrong reports are told apart by: a part of the first of some entries' lines.
use Rattle.std.specs.Prelude.{ℕ, List, [], ◌∷◌, length}
use Rattle.cmd_report.specs.EntryLines.{EntryLineView}

abbrev pub stamp_first : List EntryLineView → ℕ
stamp_first [] = 0
stamp_first (l ∷ ls) = l.stamp

abbrev pub first_id : List EntryLineView → List ℕ
first_id [] = []
first_id (l ∷ ls) = l.id

abbrev pub second_id : List EntryLineView → List ℕ
second_id [] = []
second_id (l ∷ ls) = first_id ls

abbrev pub text_length : List EntryLineView → ℕ
text_length [] = 1
text_length (l ∷ ls) = length l.text
