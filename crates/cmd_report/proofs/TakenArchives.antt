-- What an archive of takes has, and what one take more adds.
use Rattle.std.proofs.Common.{◌≡◌, ℕ, zero, suc, zero-add, ◌+◌, ◌≤◌, Bool, true, false, cond, List, [], ◌∷◌, ◌++◌, Some, length, take, map, refl, sym, ap, ◌∙◌, arith}
use Rattle.std.proofs.lemmas.List.{append-nil, length-map, map_push}
use Rattle.std.proofs.lemmas.List.Elements.{filter-append}
use Rattle.std.proofs.lemmas.List.Sums.{count_by-le-length, length-filter}
use Rattle.std.proofs.lemmas.Option.{none-some, same_Some}
use Rattle.std.specs.List.{filter, slice_get}
use Rattle.mam_archive.specs.Entries.{AreNumbered, EntryView, numbered}
use Rattle.cmd_report.specs.Takes.{Take, archive_of, concerns, entry_of, numbered_from}

pub numbered_from_push : (n : ℕ) (entries : List EntryView) (entry : EntryView) →
    numbered_from n (entries ++ entry ∷ []) ≡ numbered_from n entries ++ numbered (length entries + n) entry ∷ []
numbered_from_push n [] entry = ap (λ k. numbered k entry ∷ []) (sym (zero-add n))
numbered_from_push n (first ∷ entries) entry =
    let number : length entries + (n + 1) ≡ suc (length entries) + n = omega arith in
    ap (λ t. numbered n first ∷ t) (numbered_from_push (n + 1) entries entry ∙ ap (λ k. numbered_from (n + 1) entries ++ numbered k entry ∷ []) number)

pub length-numbered_from : (n : ℕ) (entries : List EntryView) → length (numbered_from n entries) ≡ length entries
length-numbered_from n [] = refl
length-numbered_from n (first ∷ entries) = ap suc (length-numbered_from (n + 1) entries)

pub numbers_from : (n : ℕ) (entries : List EntryView) (i : ℕ) (e : EntryView) → slice_get (numbered_from n entries) i ≡ Some e → e.number ≡ i + n
numbers_from n [] i e is = absurd (none-some e is)
numbers_from n (first ∷ entries) zero e is = let same : n ≡ e.number = ap (λ (v : EntryView). v.number) (same_Some (numbered n first) e is) in omega arith
numbers_from n (first ∷ entries) (suc i) e is = let rest : e.number ≡ i + (n + 1) = numbers_from (n + 1) entries i e is in omega arith

pub archive_numbered : (account : List ℕ) (takes : List Take) → AreNumbered (length (archive_of account takes)) (archive_of account takes)
archive_numbered account takes = record {
  each = λ i e is. let number : e.number ≡ i + 1 = numbers_from 1 (map entry_of (filter (concerns account) takes)) i e is in omega arith;
}

-- one take more
pub archive_push : (account : List ℕ) (takes : List Take) (take : Take) →
    archive_of account (takes ++ take ∷ [])
    ≡ cond (concerns account take) (archive_of account takes ++ numbered (length (archive_of account takes) + 1) (entry_of take) ∷ []) (archive_of account takes)
archive_push account takes take =
    ap (λ ts. numbered_from 1 (map entry_of ts)) (filter-append (concerns account) takes (take ∷ []))
    ∙ go (concerns account take)
  where
    kept : List Take
    kept = filter (concerns account) takes

    size : length (map entry_of (filter (concerns account) takes)) ≡ length (archive_of account takes)
    size = sym (length-numbered_from 1 (map entry_of (filter (concerns account) takes)))

    go : (hit : Bool) → numbered_from 1 (map entry_of (filter (concerns account) takes ++ cond hit (take ∷ []) []))
        ≡ cond hit (archive_of account takes ++ numbered (length (archive_of account takes) + 1) (entry_of take) ∷ []) (archive_of account takes)
    go true =
        ap (numbered_from 1) (map_push entry_of (filter (concerns account) takes) take)
        ∙ numbered_from_push 1 (map entry_of (filter (concerns account) takes)) (entry_of take)
        ∙ ap (λ n. archive_of account takes ++ numbered (n + 1) (entry_of take) ∷ []) size
    go false = ap (λ ts. numbered_from 1 (map entry_of ts)) (append-nil (filter (concerns account) takes))

pub archive_few : (account : List ℕ) (takes : List Take) → length (archive_of account takes) ≤ length takes
archive_few account takes =
    omega (
      arith,
      length-numbered_from 1 (map entry_of (filter (concerns account) takes)),
      length-map (filter (concerns account) takes) entry_of,
      length-filter (concerns account) takes,
      count_by-le-length (concerns account) takes,
    )
