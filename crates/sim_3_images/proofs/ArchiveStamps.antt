-- Where moments don't fall along takes, stamps don't along archives.
use Rattle.std.proofs.Common.{◌≡◌, ◌≤◌, ℕ, zero, suc, ◌+◌, ◌-◌, List, [], ◌∷◌, length, drop, map, refl, sym, ap, subst, ◌∙◌}
use Rattle.std.proofs.lemmas.List.{drop-map}
use Rattle.std.specs.List.{filter}
use Rattle.std.specs.List.Sorted.{IsNonDecreasing}
use Rattle.mam_archive.specs.Entries.{EntryView, newest}
use Rattle.cmd_direct.proofs.LawLists.{pairs_filter, pairs_not_falling}
use Rattle.cmd_report.specs.EntryLines.{EntryLineView}
use Rattle.cmd_report.specs.Lawful.{EachPair}
use Rattle.cmd_report.specs.Lines.{entry_line}
use Rattle.cmd_report.specs.Takes.{numbered_from}
use Rattle.cmd_schedule.proofs.Lists.{all_map, map-map}
use Rattle.sim_3_images.specs.ReportTakes.{IsNoLater, Taken, concerns, history_of}

abbrev stamps_of : List EntryView → List ℕ
stamps_of entries = map (λ (e : EntryView). e.stamp) entries

stamps_numbered : (n : ℕ) (entries : List EntryView) → stamps_of (numbered_from n entries) ≡ stamps_of entries
stamps_numbered n [] = refl
stamps_numbered n (e ∷ entries) = ap (λ (stamps : List ℕ). e.stamp ∷ stamps) (stamps_numbered (n + 1) entries)

pairs_stamps : (takes : List Taken) → EachPair IsNoLater takes → EachPair (λ x y. x ≤ y) (map (λ (t : Taken). t.entry.stamp) takes)
pairs_stamps [] pairs = tt
pairs_stamps (t ∷ takes) pairs = (all_map (λ x. t.entry.stamp ≤ x) (λ (u : Taken). u.entry.stamp) takes pairs.0, pairs_stamps takes pairs.1)

pairs_drop : {A : Type 0} (R : A → A → Type 0) (n : ℕ) (xs : List A) → EachPair R xs → EachPair R (drop n xs)
pairs_drop R zero xs pairs = pairs
pairs_drop R (suc n) [] pairs = tt
pairs_drop R (suc n) (x ∷ xs) pairs = pairs_drop R n xs pairs.1

pub stamps_rise : (keep : ℕ) (name : List ℕ) (takes : List Taken) → EachPair IsNoLater takes → IsNonDecreasing (map (λ (l : EntryLineView). l.stamp) (map entry_line (newest keep (history_of name takes))))
stamps_rise keep name takes pairs =
    let history = history_of name takes in
    let over = length history - keep in
    let here = filter (concerns name) takes in
    let same : map (λ (l : EntryLineView). l.stamp) (map entry_line (newest keep history)) ≡ drop over (map (λ (t : Taken). t.entry.stamp) here) =
    map-map entry_line (λ (l : EntryLineView). l.stamp) (newest keep history)
    ∙ sym (drop-map (λ (e : EntryView). e.stamp) over history)
    ∙ ap (drop over) (stamps_numbered 1 (map (λ (t : Taken). t.entry) here) ∙ map-map (λ (t : Taken). t.entry) (λ (e : EntryView). e.stamp) here) in
    subst IsNonDecreasing (sym same)
    (pairs_not_falling (drop over (map (λ (t : Taken). t.entry.stamp) here))
    (pairs_drop (λ x y. x ≤ y) over (map (λ (t : Taken). t.entry.stamp) here) (pairs_stamps here (pairs_filter IsNoLater (concerns name) takes pairs))))
