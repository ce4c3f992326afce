-- The greatest of a moment and stamps, step by step.
use Rattle.std.proofs.Common.{◌≡◌, ℕ, ◌+◌, suc, max, List, [], ◌∷◌, ◌++◌, Some, drop, map, ap, refl, sym, ◌∙◌, arith}
use Rattle.std.proofs.Math.Seq.{drop-cons}
use Rattle.std.proofs.lemmas.Option.{get_or_from_slice_get, slice_get_within}
use Rattle.std.specs.List.{slice_get}
use Rattle.mam_archive.specs.Entries.{ArchiveView, EntryView, entry_with}
use Rattle.mam_archive.specs.declared.entry.ArchivedMessage.{ArchivedMessage}
use Rattle.srv_core.specs.Restarts.{greatest, stamp_of, stamps_of}
use Rattle.srv_state.specs.Seen.{kept_of}

pub greatest-append : (now : ℕ) (xs ys : List ℕ) → greatest now (xs ++ ys) ≡ greatest (greatest now xs) ys
greatest-append now [] ys = refl
greatest-append now (x ∷ xs) ys = greatest-append (max now x) xs ys

pub next : {A : Type 0} (xs : List A) (i : ℕ) (x : A) → slice_get xs i ≡ Some x → drop i xs ≡ x ∷ drop (i + 1) xs
next xs i x there =
    let one : suc i ≡ i + 1 = omega arith in
    drop-cons xs i x (slice_get_within xs i x there) ∙ ap (λ y. y ∷ drop (suc i) xs) (get_or_from_slice_get xs i x x there) ∙ ap (λ n. x ∷ drop n xs) one

-- an entry more
pub entry_more : (entries : List EntryView) (i number moment now due : ℕ) (e : EntryView) (message : ArchivedMessage) → slice_get entries i ≡ Some e → e ≡ entry_with number message → now ≡ max moment message.stamp
    → greatest moment (map stamp_of (drop i entries)) ≡ due → greatest now (map stamp_of (drop (i + 1) entries)) ≡ due
entry_more entries i number moment now due e message there is at was =
    ap (λ m. greatest m (map stamp_of (drop (i + 1) entries))) (at ∙ ap (λ x. max moment (stamp_of x)) (sym is))
    ∙ ap (λ xs. greatest moment (map stamp_of xs)) (sym (next entries i e there)) ∙ was

-- an archive more
pub archive_more : (moment now due : ℕ) (archive : ArchiveView) (rest : List ArchiveView) → now ≡ greatest moment (map stamp_of archive.entries)
    → greatest moment (stamps_of (map kept_of (archive ∷ rest))) ≡ due → greatest now (stamps_of (map kept_of rest)) ≡ due
archive_more moment now due archive rest at was =
    ap (λ m. greatest m (stamps_of (map kept_of rest))) at ∙ sym (greatest-append moment (map stamp_of archive.entries) (stamps_of (map kept_of rest))) ∙ was
