-- What is kept of the numbers of matching entries while they go by, one after another.
use Rattle.std.specs.Prelude.{◌≡◌, ℕ, List, length}
use Rattle.mam_pages.specs.Spans.{portion_by, skipped, within}
use Rattle.mam_pages.specs.declared.span.Span.{Span}
use Rattle.mam_pages.specs.declared.tally.Tally.{Tally}

-- the tally of these numbers
pub record IsTally (span : Span) (numbers : List ℕ) (t : Tally) : Type 0 where
  pub same_span : t.span ≡ span
  pub count : t.count ≡ length numbers
  pub skipped : t.skipped ≡ length (skipped span numbers)
  pub found : t.found ≡ length (within span numbers)
  pub most : t.window.most ≡ span.most
  pub window : t.window.numbers ≡ portion_by span (within span numbers)
