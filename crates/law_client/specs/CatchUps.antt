-- A catch-up page by page, of an archive that doesn't grow meanwhile (XEP-0313, section 4; XEP-0059).
use Rattle.std.specs.Prelude.{◌≡◌, ℕ, zero, suc, ◌+◌, ◌≤◌, ◌⊎◌, max, true, false, List, Option, Some, None}
use Rattle.std.specs.Int.{div_ceil}
use Rattle.mam_archive.specs.Ids.{id_of}
use Rattle.mam_pages.specs.Cuts.{CutView, fin_of}
use Rattle.mam_pages.specs.Kept.{Kept}
use Rattle.mam_pages.specs.PageOf.{page_of}
use Rattle.mam_pages.specs.declared.query.PageQuery.{PageQuery}
use Rattle.mam_pages.specs.declared.query.PagePosition.{PagePosition}
use Rattle.mam_pages.specs.declared.query.PagePosition.TheVariants.{First, After}

-- what a page request asks for: at most so many entries behind the one with this id, or from the first one on
abbrev pub position_after : Option (List ℕ) → PagePosition
position_after None = First
position_after (Some id) = After id

abbrev pub query_after : Option (List ℕ) → ℕ → PageQuery
query_after after most = record { peer = None; start = None; end = None; position = position_after after; max = Some most }

-- of entries that are numbered from `first` to `last`, the ones that follow are those behind the number `base`
pub data FollowFrom (first last : ℕ) (after : Option (List ℕ)) (base : ℕ) : Type 0 where
  from_first : after ≡ None → base + 1 ≡ first → FollowFrom first last after base
  from_id : after ≡ Some (id_of base) → first ≤ base → base ≤ last → FollowFrom first last after base

-- So many pages are taken: the last one is complete, the others are not, and each is asked for behind the last entry of the
-- one before it.
abbrev pub TakesPages : Kept → ℕ → Option (List ℕ) → ℕ → Type 0
TakesPages kept most after zero = ⊥
TakesPages kept most after (suc n) =
    (cut : CutView) × (page_of kept (query_after after most) ≡ Some cut)
    × (((cut.complete ≡ true) × (n ≡ 0)) ⊎ ((cut.complete ≡ false) × TakesPages kept most (fin_of cut).last n))

-- how many pages so many entries make, and one where there is none
abbrev pub pages_for : ℕ → ℕ → ℕ
pages_for entries most = max 1 (div_ceil entries most)
