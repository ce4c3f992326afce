-- What a source gave in a call.
use Rattle.std.specs.Prelude.{◌≡◌, ◌++◌, ℕ, List}

-- It gave bytes of which P holds, behind those that it had given before.
pub record Gave (before now : List ℕ) (P : List ℕ → Type 0) : Type 0 where
  pub bytes : List ℕ
  pub grown : now ≡ before ++ bytes
  pub such : P bytes
