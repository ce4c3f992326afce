-- What a clock told and what random bytes were drawn since a start.
use Rattle.std.specs.Prelude.{◌≡◌, ◌++◌, ℕ, List}

-- P holds of the moments and of the bytes behind those of the start.
pub record ToldSince (told_first drawn_first told_now drawn_now : List ℕ) (P : List ℕ → List ℕ → Type 0) : Type 0 where
  pub moments : List ℕ
  pub bytes : List ℕ
  pub told : told_now ≡ told_first ++ moments
  pub drawn : drawn_now ≡ drawn_first ++ bytes
  pub such : P moments bytes
