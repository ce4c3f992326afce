-- What clauses see of a page that was found, and what its archive reports at its end.
use Rattle.std.specs.Prelude.{ℕ, ◌-◌, Bool, List, length, slice_get}
use Rattle.std.specs.Option.{option_map}
use Rattle.mam_archive.specs.Ids.{id_of}
use Rattle.mam_pages.specs.declared.fin.Fin.{Fin}

-- the numbers of its entries, the place of the first among all entries that match, how many these are, whether nothing
-- remains in the direction of paging, and whether it was asked for backwards: the entries before a place, or the last
pub record CutView : Type 0 where
  pub numbers : List ℕ
  pub first_index : ℕ
  pub count : ℕ
  pub complete : Bool
  pub backward : Bool

-- what an archive reports at the end of a page (XEP-0313 section 4.3, XEP-0059 section 2.6)
abbrev pub fin_of : CutView → Fin
fin_of cut = record {
  complete = cut.complete;
  first = option_map id_of (slice_get cut.numbers 0);
  first_index = cut.first_index;
  last = option_map id_of (slice_get cut.numbers (length cut.numbers - 1));
  count = cut.count;
}
