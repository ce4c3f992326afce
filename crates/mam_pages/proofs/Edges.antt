-- The entry beside which a page stands.
use Rattle.std.proofs.Common.{◌≡◌, ℕ, suc, ◌-◌, ◌<◌, ◌≤◌, if◌then◌else◌, Bool, true, false, List, [], ◌∷◌, Option, Some, None, ltb, eqb, refl, ap, arith, inl, inr}
use Rattle.std.proofs.lemmas.Bool.{cases_Bool}
use Rattle.std.proofs.lemmas.Bool.Decides.{nat_tests}
use Rattle.std.proofs.lemmas.Option.{none-some, same_Some}
use Rattle.std.specs.List.{find}
use Rattle.std.specs.Option.{option_map}
use Rattle.mam_archive.specs.Entries.{EntryView, entry_numbered}
use Rattle.mam_pages.proofs.Chains.{Ascend, ascend_follow}
use Rattle.mam_pages.proofs.Placed.{placed}
use Rattle.mam_pages.specs.Kept.{Kept}
use Rattle.mam_pages.specs.PageOf.{entry_of_id}
use Rattle.mam_pages.specs.Spans.{IsNumbered, number_of_entry}
use Rattle.mam_pages.specs.Stretches.{is_edge_with}
use Rattle.mam_pages.specs.declared.query.PagePosition.{PagePosition}
use Rattle.mam_pages.specs.declared.query.PagePosition.TheVariants.{After, Before}
use Rattle.mam_pages.specs.Looks.{is_found_with, is_number_with, is_place_with}

-- an entry that is found is above what all are above
found_above : (p : EntryView → Bool) (n : ℕ) (es : List EntryView) (e : EntryView) → Ascend n es → find p es ≡ Some e → n < e.number
found_above p n [] e up is = absurd (none-some e is)
found_above p n (f ∷ es) e up is =
    elim (cases_Bool (p f)) [
      | inl here ↦
          let same : f ≡ e = same_Some f e (rw here at is) in
          rw (← same) up.0
      | inr other ↦
          let rest = found_above p f.number es e up.1 (rw other at is) in
          omega (arith, rest, up.0)
    ]

-- and it has its number alone
found_numbered : (p : EntryView → Bool) (n : ℕ) (es : List EntryView) (e : EntryView) → Ascend n es → find p es ≡ Some e → entry_numbered e.number es ≡ Some e
found_numbered p n [] e up is = absurd (none-some e is)
found_numbered p n (f ∷ es) e up is =
    elim (cases_Bool (p f)) [
      | inl here ↦
          let same : f ≡ e = same_Some f e (rw here at is) in
          let test : eqb f.number e.number ≡ true = rw same (grind (arith, nat_tests)) in
          rw test (ap Some same)
      | inr other ↦
          let rest : find p es ≡ Some e = rw other at is in
          let above = found_above p f.number es e up.1 rest in
          let test : eqb f.number e.number ≡ false = grind (arith, nat_tests, above) in
          rw test (found_numbered p f.number es e up.1 rest)
    ]

number_found : (kept : Kept) (peer : List ℕ) (p : EntryView → Bool) (n k : ℕ) (found : Option EntryView) → Ascend n kept.entries → find p kept.entries ≡ found →
    option_map number_of_entry found ≡ Some k → is_found_with kept.owner peer found ≡ true → is_number_with kept peer k ≡ true
number_found kept peer p n k None up is number passes = absurd (none-some k number)
number_found kept peer p n k (Some e) up is number passes =
    let same : e.number ≡ k = same_Some e.number k number in
    let there : entry_numbered k kept.entries ≡ Some e = rw (← same) (found_numbered p n kept.entries e up is) in
    rw there passes

id_number : (kept : Kept) (peer id : List ℕ) (first last k : ℕ) → IsNumbered first last kept.entries → option_map number_of_entry (entry_of_id id kept.entries) ≡ Some k →
    is_found_with kept.owner peer (entry_of_id id kept.entries) ≡ true → is_number_with kept peer k ≡ true
id_number kept peer id first last k known number passes =
    let at = placed first last kept.entries known in
    number_found kept peer _ (first - 1) k (entry_of_id id kept.entries) (ascend_follow (first - 1) kept.entries at.1.follow) refl number passes

pub edge_after : (kept : Kept) (peer id : List ℕ) (position : PagePosition) (first last k : ℕ) → IsNumbered first last kept.entries → position ≡ After id →
    option_map number_of_entry (entry_of_id id kept.entries) ≡ Some k → 1 ≤ k → is_place_with kept peer position ≡ true →
    is_edge_with kept peer (if ltb 0 k then Some k else None) ≡ true
edge_after kept peer id position first last k known is number low passes =
    let test : ltb 0 k ≡ true = grind (arith, nat_tests) in
    rw test (id_number kept peer id first last k known number (rw is at passes))

pub edge_before : (kept : Kept) (peer id : List ℕ) (position : PagePosition) (first last k : ℕ) → IsNumbered first last kept.entries → position ≡ Before id →
    option_map number_of_entry (entry_of_id id kept.entries) ≡ Some k → 1 ≤ k → k ≤ last → is_place_with kept peer position ≡ true →
    is_edge_with kept peer (if ltb (k - 1) last then Some (suc (k - 1)) else None) ≡ true
edge_before kept peer id position first last k known is number low high passes =
    let test : ltb (k - 1) last ≡ true = grind (arith, nat_tests) in
    let same : suc (k - 1) ≡ k = omega arith in
    rw (test, same) (id_number kept peer id first last k known number (rw is at passes))
