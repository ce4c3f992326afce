-- A declared name stands at its place.
use Rattle.std.proofs.Common.{◌≡◌, ℕ, zero, suc, true, List, [], ◌∷◌, Some, Ok, get_or, refl, ap, ◌∙◌}
use Rattle.std.proofs.lemmas.Bool.{or_left, or_right}
use Rattle.std.proofs.lemmas.Option.{get_or_from_slice_get, none-some, same_Some}
use Rattle.std.specs.List.{slice_get}
use Rattle.std.specs.Str.{bytes_eq}
use Rattle.base_lemmas.proofs.Bytes.{bytes_eq-self}
use Rattle.base_io.specs.Names.{is_among}
use Rattle.cmd_schedule.specs.Reading.{wants}
use Rattle.cmd_schedule.specs.declared.fault.LineWhy.TheVariants.{Unknown}

-- what stands among names is among them
standing_among : (names : List (List ℕ)) (i : ℕ) (name : List ℕ) → slice_get names i ≡ Some name → is_among name names ≡ true
standing_among [] i name is = absurd (none-some name is)
standing_among (other ∷ names) zero name is =
    let same : other ≡ name = same_Some other name is in
    or_left (bytes_eq name other) (is_among name names) (rw same (bytes_eq-self name))
standing_among (other ∷ names) (suc i) name is = or_right (bytes_eq name other) (is_among name names) (standing_among names i name is)

pub known_there : (names all : List (List ℕ)) (i : ℕ) (name : List ℕ) → names ≡ all → slice_get names i ≡ Some name → wants (is_among name all) Unknown ≡ Ok true
known_there names all i name same is = rw (← same, standing_among names i name is) refl

-- the text that is kept at the place is the name
pub text_there : (texts names : List (List ℕ)) (i : ℕ) (name text : List ℕ) → texts ≡ names → slice_get names i ≡ Some name → text ≡ get_or texts i text → text ≡ name
text_there texts names i name text same is read = read ∙ ap (λ xs. get_or xs i text) same ∙ get_or_from_slice_get names i name text is
