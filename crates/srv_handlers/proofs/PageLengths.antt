-- A page has few numbers.
use Rattle.std.proofs.Common.{◌≡◌, ◌-◌, ◌≤◌, ℕ, min, List, Option, Some, None, arith, length, map, subst, take, drop}
use Rattle.std.proofs.lemmas.List.{length-drop, length-map, length-take}
use Rattle.std.proofs.lemmas.Option.{none-some, same_Some}
use Rattle.std.specs.Option.{option_map}
use Rattle.mam_archive.specs.Entries.{EntryView, newest}
use Rattle.mam_pages.specs.Cuts.{CutView}
use Rattle.mam_pages.specs.Kept.{Kept}
use Rattle.mam_pages.specs.Matches.{matching}
use Rattle.mam_pages.specs.PageOf.{candidates, cut_out, most_of, page_of, portion}
use Rattle.mam_pages.specs.declared.query.PageQuery.{PageQuery}
use Rattle.mam_pages.specs.declared.query.PagePosition.{PagePosition}
use Rattle.mam_pages.specs.declared.query.PagePosition.TheVariants.{First, After, Before, Last}

most_few : (max : Option ℕ) → most_of max ≤ 100
most_few None = omega arith
most_few (Some max) = omega arith

first_few : (most : ℕ) (found : List EntryView) → most ≤ 100 → length (take most found) ≤ 100
first_few most found few = omega (arith, length-take most found)

last_few : (most : ℕ) (found : List EntryView) → most ≤ 100 → length (newest most found) ≤ 100
last_few most found few = omega (arith, length-drop (length found - most) found)

portion_few : (position : PagePosition) (most : ℕ) (found : List EntryView) → most ≤ 100 → length (portion position most found) ≤ 100
portion_few First most found few = first_few most found few
portion_few (After id) most found few = first_few most found few
portion_few (Before id) most found few = last_few most found few
portion_few Last most found few = last_few most found few

cut_few : (position : PagePosition) (matches found page : List EntryView) (most : ℕ) → length page ≤ 100 → length (cut_out position matches most found page).numbers ≤ 100
cut_few position matches found page most few = omega (arith, length-map page (λ (e : EntryView). e.number), few)

-- of the candidates, where there are any to name
named_few : (query : PageQuery) (matches : List EntryView) (named : Option (List EntryView)) (cut : CutView)
    → option_map (λ found. cut_out query.position matches (most_of query.max) found (portion query.position (most_of query.max) found)) named ≡ Some cut
    → length cut.numbers ≤ 100
named_few query matches None cut is = absurd (none-some cut is)
named_few query matches (Some found) cut is =
    subst (λ (c : CutView). length c.numbers ≤ 100) (same_Some _ _ is)
    (cut_few query.position matches found (portion query.position (most_of query.max) found) (most_of query.max) (portion_few query.position (most_of query.max) found (most_few query.max)))

pub few_numbers : (kept : Kept) (query : PageQuery) (cut : CutView) → page_of kept query ≡ Some cut → length cut.numbers ≤ 100
few_numbers kept query cut is = named_few query (matching kept query) (candidates query.position kept.entries (matching kept query)) cut is
