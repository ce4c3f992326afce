-- The places of texts in the order of the texts.
use Rattle.std.specs.Prelude.{◌≡◌, ℕ, ◌<◌, true, false, ⊤, List, [], ◌∷◌, ◌++◌, length, map, slice_index_or}
use Rattle.std.specs.List.{AllByRecursion}
use Rattle.mam_archive.specs.Chained.{Ascend, IsBelow, is_text_of}

-- the text at a place
abbrev pub text_at : List (List ℕ) → ℕ → List ℕ
text_at texts i = slice_index_or texts i []

abbrev pub texts_at : List (List ℕ) → List ℕ → List (List ℕ)
texts_at texts positions = map (text_at texts) positions

-- the texts at these places are all texts, each once, and each is above the ones before it
pub record IsOrderOf (positions : List ℕ) (texts : List (List ℕ)) : Type 0 where
  pub within : AllByRecursion (λ i. i < length texts) positions
  pub ascend : Ascend (texts_at texts positions)
  pub every : (p : List ℕ) → is_text_of p (texts_at texts positions) ≡ is_text_of p texts

-- each text above this one is none of these
abbrev pub AreUpTo : List ℕ → List (List ℕ) → Type 0
AreUpTo q texts = (p : List ℕ) → IsBelow q p → is_text_of p texts ≡ false

-- each of these is below this text
abbrev pub AreBelow : List ℕ → List (List ℕ) → Type 0
AreBelow p texts = (q : List ℕ) → is_text_of q texts ≡ true → IsBelow q p

-- each text to come is above those that are there and those that come before it
abbrev pub Rise : List (List ℕ) → List (List ℕ) → Type 0
Rise texts [] = ⊤
Rise texts (p ∷ ps) = AreBelow p texts × Rise (texts ++ p ∷ []) ps
