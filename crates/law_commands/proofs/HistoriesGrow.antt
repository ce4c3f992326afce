-- Histories grow with the takes.
use Rattle.std.proofs.Common.{◌≡◌, ℕ, zero, suc, ◌+◌, ◌-◌, ◌≤◌, List, [], ◌∷◌, ◌++◌, length, take, drop, map, refl, sym, ap, ◌∙◌, arith, filter, take-add}
use Rattle.std.proofs.lemmas.List.{length-append, take_at}
use Rattle.std.proofs.lemmas.List.Elements.{filter-append}
use Rattle.mam_archive.proofs.Newest.{newest_few}
use Rattle.mam_archive.specs.Entries.{EntryView, newest, numbered}
use Rattle.cmd_report.specs.Takes.{Take, archive_of, concerns, entry_of, numbered_from}
use Rattle.cmd_report.specs.Worlds.{ReportWorld}
use Rattle.law_commands.specs.OfWorlds.{AreFronts, AreKeptOf}

mapped : {A B : Type 0} (f : A → B) (xs ys : List A) → map f (xs ++ ys) ≡ map f xs ++ map f ys
mapped f [] ys = refl
mapped f (x ∷ xs) ys = ap (λ rest. f x ∷ rest) (mapped f xs ys)

-- the one list is the other with more behind it
abbrev pub Extends : List EntryView → List EntryView → Type 0
Extends xs ys = (more : List EntryView) × (ys ≡ xs ++ more)

more_numbered : (n : ℕ) (xs ys : List EntryView) → Extends (numbered_from n xs) (numbered_from n (xs ++ ys))
more_numbered n [] ys = (numbered_from n ys, refl)
more_numbered n (x ∷ xs) ys = let rest = more_numbered (n + 1) xs ys in (rest.0, ap (λ es. numbered n x ∷ es) rest.1)

pub archive_grows : (account : List ℕ) (xs ys : List Take) → Extends (archive_of account xs) (archive_of account (xs ++ ys))
archive_grows account xs ys =
    let entries = λ (ts : List Take). map entry_of (filter (concerns account) ts) in
    let same : entries (xs ++ ys) ≡ entries xs ++ entries ys =
    ap (map entry_of) (filter-append (concerns account) xs ys) ∙ mapped entry_of (filter (concerns account) xs) (filter (concerns account) ys) in
    let more = more_numbered 1 (entries xs) (entries ys) in
    (more.0, ap (numbered_from 1) same ∙ more.1)

pub newest_none : (keep : ℕ) → newest {A = EntryView} keep [] ≡ []
newest_none keep = newest_few keep [] (omega arith)

-- the first entries of what has more behind them
pub front_is : (xs ys : List EntryView) → Extends xs ys → take (length xs) ys ≡ xs
front_is xs ys more = ap (take (length xs)) more.1 ∙ take_at xs more.0 (length xs) refl

pub front_few : (xs ys : List EntryView) → Extends xs ys → length xs ≤ length ys
front_few xs ys more = let size = ap (λ (es : List EntryView). length es) more.1 ∙ length-append xs more.0 in omega (arith, size)

-- ---- nothing is purged

few_taken : (n : ℕ) (history : List EntryView) → length (take n history) ≤ length history
few_taken zero history = omega arith
few_taken (suc n) [] = omega arith
few_taken (suc n) (e ∷ es) = let rest = few_taken n es in omega (arith, rest)

whole_front : (keep n : ℕ) (history : List EntryView) → length history ≤ keep → newest keep (take n history) ≡ take n history
whole_front keep n history wide = newest_few keep (take n history) (let few = few_taken n history in omega arith)

longer_front : (n m : ℕ) (history : List EntryView) → n ≤ m → Extends (take n history) (take m history)
longer_front n m history low =
    let sum : m ≡ n + (m - n) = omega arith in
    (take (m - n) (drop n history), ap (λ k. take k history) sum ∙ take-add n (m - n) history)

pub fronts_of : (keep : ℕ) (account : List ℕ) (history : List EntryView) (least : ℕ) (worlds : List ReportWorld) → length history ≤ keep → AreKeptOf keep account history least worlds → AreFronts account worlds
fronts_of keep account history least [] wide kept = tt
fronts_of keep account history least (w ∷ []) wide kept = tt
fronts_of keep account history least (w ∷ next ∷ ws) wide (n, low, is, (m, high, next_is, rest)) =
    let longer = longer_front n m history high in (
      (longer.0, next_is ∙ (whole_front keep m history wide ∙ (longer.1 ∙ ap (λ es. es ++ longer.0) (sym (is ∙ whole_front keep n history wide))))),
      fronts_of keep account history n (next ∷ ws) wide (m, high, next_is, rest),
    )
