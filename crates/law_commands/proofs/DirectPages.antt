-- The pages of a direct run: no page has more entries than its catch-up asks for.
use Rattle.std.proofs.Common.{◌≡◌, ℕ, zero, suc, ◌+◌, ◌≤◌, min, Bool, true, false, cond, List, [], ◌∷◌, ◌++◌, Option, Some, None, length, take, map, refl, sym, ap, ◌∙◌, subst, arith, inl, inr}
use Rattle.std.proofs.lemmas.Bool.{cases_Bool}
use Rattle.std.proofs.lemmas.List.{append-nil, append_assoc, length-map, length-take, map-append}
use Rattle.std.proofs.lemmas.Option.{none-some, same_Some}
use Rattle.std.specs.List.{AllByRecursion, filter_map}
use Rattle.std.specs.Option.{option_map, option_map_or, option_or}
use Rattle.std.specs.Str.{bytes_eq}
use Rattle.mam_archive.specs.Entries.{EntryView, entry_numbered}
use Rattle.mam_log.specs.LogPages.{LogPage, last_id, log_of}
use Rattle.mam_pages.specs.Cuts.{CutView}
use Rattle.mam_pages.specs.Kept.{Kept}
use Rattle.mam_pages.specs.Matches.{matching}
use Rattle.mam_pages.specs.PageOf.{candidates, cut_out, page_of, portion}
use Rattle.mam_pages.specs.declared.query.PagePosition.TheVariants.{First, After}
use Rattle.cmd_direct.specs.Direct.{Page, as_logged, as_taken_over, catch_up, device_line, direct_report, entries_numbered, kept_after, next_page, page_answered, page_from, page_with, pages_after, pages_from, position_after, query_after, takes_of}
use Rattle.cmd_report.specs.Lines.{page_line}
use Rattle.cmd_report.specs.Reports.{DeviceView}
use Rattle.cmd_report.specs.declared.report.PageLine.{PageLine}
use Rattle.cmd_schedule.proofs.Lists.{all_map, all_of}
use Rattle.cmd_schedule.specs.Contents.{devices_of, home_of}
use Rattle.cmd_schedule.specs.Schedules.{ScheduleView, keep_of, steps_of}
use Rattle.cmd_schedule.specs.declared.schedule.Step.{Step}
use Rattle.cmd_schedule.specs.declared.schedule.Step.TheVariants.{Account, Device, Say, Private, Catchup, Tick}
use Rattle.law_commands.specs.DirectRuns.{AreOfCatchUps, BeginsWithPages, HasFewEntries}

-- ---- one page

given_one : {A B : Type 0} (f : A → Option B) (x : A) (xs : List A) (o : Option B) → f x ≡ o → length (filter_map f xs) ≤ length xs → length (filter_map f (x ∷ xs)) ≤ length (x ∷ xs)
given_one f x xs None is rest = rw is (omega (arith, rest))
given_one f x xs (Some y) is rest = rw is (omega (arith, rest))

given_few : {A B : Type 0} (f : A → Option B) (xs : List A) → length (filter_map f xs) ≤ length xs
given_few f [] = omega arith
given_few f (x ∷ xs) = given_one f x xs (f x) refl (given_few f xs)

portion_few : (after : Option (List ℕ)) (most : ℕ) (found : List EntryView) → length (portion (position_after after) (min 100 most) found) ≤ most
portion_few None most found = let size = length-take (min 100 most) found in omega (arith, size)
portion_few (Some id) most found = let size = length-take (min 100 most) found in omega (arith, size)

-- a page that is there, of so many entries at most
abbrev IsFew : ℕ → Option LogPage → Type 0
IsFew most None = Unit {0}
IsFew most (Some page) = length page.entries ≤ most

cut_few : (after : Option (List ℕ)) (most : ℕ) (kept : Kept) (o : Option (List EntryView)) →
    IsFew most (option_map (as_taken_over after) (option_map (page_with kept.entries)
    (option_map (λ found. cut_out (position_after after) (matching kept (query_after after most)) (min 100 most) found (portion (position_after after) (min 100 most) found)) o)))
cut_few after most kept None = tt
cut_few after most kept (Some found) =
    let page = portion (position_after after) (min 100 most) found in
    let numbers = map (λ (e : EntryView). e.number) page in
    let logged = length-map (entries_numbered numbers kept.entries) as_logged in
    let given = given_few (λ n. entry_numbered n kept.entries) numbers in
    let size = length-map page (λ (e : EntryView). e.number) in
    let few = portion_few after most found in
    omega (arith, logged, given, size, few)

page_few : (after : Option (List ℕ)) (most : ℕ) (kept : Kept) → IsFew most (page_from after most kept)
page_few after most kept = cut_few after most kept (candidates (position_after after) kept.entries (matching kept (query_after after most)))

first_few : (most : ℕ) (a b : Option LogPage) → IsFew most a → IsFew most b → IsFew most (option_or a b)
first_few most None b one other = other
first_few most (Some page) b one other = one

next_few : (most : ℕ) (kept : Kept) (pages : List LogPage) → IsFew most (next_page most kept pages)
next_few most kept pages = first_few most (page_from (last_id (log_of pages)) most kept) (page_from None most kept) (page_few (last_id (log_of pages)) most kept) (page_few None most kept)

-- ---- a catch-up

record Adds (most : ℕ) (before after : List LogPage) : Type 0 where
  pub own : List LogPage
  pub are : after ≡ before ++ own
  pub few : AllByRecursion (λ page. length page.entries ≤ most) own

adds_none : (most : ℕ) (pages : List LogPage) → Adds most pages pages
adds_none most pages = record { own = []; are = sym (append-nil pages); few = tt }

adds_one : (most : ℕ) (pages : List LogPage) (page : LogPage) (after : List LogPage) → length page.entries ≤ most → Adds most (pages ++ page ∷ []) after → Adds most pages after
adds_one most pages page after few rest = record { own = page ∷ rest.own; are = rest.are ∙ append_assoc pages (page ∷ []) rest.own; few = (few, rest.few) }

adds_either : (most : ℕ) (pages : List LogPage) (b : Bool) (x y : List LogPage) → Adds most pages x → Adds most pages y → Adds most pages (cond b x y)
adds_either most pages true x y one other = one
adds_either most pages false x y one other = other

with_next : (most : ℕ) (pages : List LogPage) (more : LogPage → List LogPage) → ((page : LogPage) → Adds most (pages ++ page ∷ []) (more page)) → (o : Option LogPage) → IsFew most o
    → Adds most pages (option_map_or (λ (page : LogPage). cond page.complete (pages ++ page ∷ []) (more page)) o pages)
with_next most pages more each None few = adds_none most pages
with_next most pages more each (Some page) few =
    adds_one most pages page _ few (adds_either most (pages ++ page ∷ []) page.complete _ _ (adds_none most (pages ++ page ∷ [])) (each page))

caught_up : (turns most : ℕ) (kept : Kept) (pages : List LogPage) → Adds most pages (catch_up turns most kept pages)
caught_up zero most kept pages = adds_none most pages
caught_up (suc turns) most kept pages =
    with_next most pages (λ page. catch_up turns most kept (pages ++ page ∷ [])) (λ page. caught_up turns most kept (pages ++ page ∷ [])) (next_page most kept pages) (next_few most kept pages)

-- ---- all steps

few_lines : (most : ℕ) (pages : List LogPage) → AllByRecursion (λ page. length page.entries ≤ most) pages → AllByRecursion (λ (page : PageLine). page.count ≤ most) (map page_line pages)
few_lines most [] few = tt
few_lines most (page ∷ pages) few = (few.0, few_lines most pages few.1)

-- the pages behind those that there were
record Behind (name : List ℕ) (steps : List Step) (before after : List LogPage) : Type 0 where
  pub more : List LogPage
  pub are : after ≡ before ++ more
  pub asked : AreOfCatchUps name steps (map page_line more)

module _ (keep : ℕ) (all : List Step) (name : List ℕ) where
  catching : (before : List Step) (pages : List LogPage) (device : List ℕ) (most : ℕ) (steps : List Step)
      → ((now : List LogPage) → Behind name steps now (pages_from keep all name (before ++ Catchup device most ∷ []) now steps))
      → (b : Bool) → bytes_eq name device ≡ b
      → Behind name (Catchup device most ∷ steps) pages (pages_from keep all name (before ++ Catchup device most ∷ []) (pages_after keep all name before pages (Catchup device most)) steps)
  catching before pages device most steps later true is =
      let kept = kept_after keep (home_of before name) (takes_of all before) in
      let now = catch_up (length kept.entries + 1) most kept pages in
      let first : Adds most pages now = caught_up (length kept.entries + 1) most kept pages in
      let rest = later now in
      rw is (record {
        more = first.own ++ rest.more;
        are = rest.are ∙ ap (λ ps. ps ++ rest.more) first.are ∙ append_assoc pages first.own rest.more;
        asked = rw is (record {
          own = map page_line first.own;
          others = map page_line rest.more;
          are = map-append page_line first.own rest.more;
          few = few_lines most first.own first.few;
          later = rest.asked;
        });
      })
  catching before pages device most steps later false is =
      let rest = later pages in
      rw is (record { more = rest.more; are = rest.are; asked = rw is rest.asked })

  passing : (step : Step) (pages after : List LogPage) (steps : List Step) → ((lines : List PageLine) → AreOfCatchUps name steps lines → AreOfCatchUps name (step ∷ steps) lines)
      → Behind name steps pages after → Behind name (step ∷ steps) pages after
  passing step pages after steps same rest = record { more = rest.more; are = rest.are; asked = same (map page_line rest.more) rest.asked }

  behind : (before : List Step) (pages : List LogPage) (steps : List Step) → Behind name steps pages (pages_from keep all name before pages steps)
  behind before pages [] = record { more = []; are = sym (append-nil pages); asked = refl }
  behind before pages (Catchup device most ∷ steps) = catching before pages device most steps (λ now. behind (before ++ Catchup device most ∷ []) now steps) (bytes_eq name device) refl
  behind before pages (Account other ∷ steps) = passing (Account other) pages _ steps (λ lines is. is) (behind (before ++ Account other ∷ []) pages steps)
  behind before pages (Device other account ∷ steps) = passing (Device other account) pages _ steps (λ lines is. is) (behind (before ++ Device other account ∷ []) pages steps)
  behind before pages (Say device to text ∷ steps) = passing (Say device to text) pages _ steps (λ lines is. is) (behind (before ++ Say device to text ∷ []) pages steps)
  behind before pages (Private device to text ∷ steps) = passing (Private device to text) pages _ steps (λ lines is. is) (behind (before ++ Private device to text ∷ []) pages steps)
  behind before pages (Tick ms ∷ steps) = passing (Tick ms) pages _ steps (λ lines is. is) (behind (before ++ Tick ms ∷ []) pages steps)

  few_of : AreOfCatchUps name all (map page_line (pages_from keep all name [] [] all))
  few_of = let found = behind [] [] all in rw (found.are) (found.asked)

-- ---- the law

pub pages_asked : (s : ScheduleView) → AllByRecursion (HasFewEntries s) (direct_report s).devices
unfolding direct_report
pages_asked s =
    let keep = keep_of s.version in
    let all = steps_of s.lines in
    all_map (HasFewEntries s) (device_line keep all) (devices_of all) (all_of (λ name. HasFewEntries s (device_line keep all name)) (few_of keep all) (devices_of all))
