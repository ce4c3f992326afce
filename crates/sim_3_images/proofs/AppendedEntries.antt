-- What an archive keeps of entries that were appended, one after another.
use Rattle.std.proofs.Common.{◌≡◌, ℕ, suc, ◌+◌, ◌-◌, ◌≤◌, List, [], ◌∷◌, ◌++◌, append-nil, append_assoc, length, drop, sym, ap, ap₂, ◌∙◌, arith}
use Rattle.std.proofs.lemmas.List.{drop-append-le, drop-drop, length-append, length-drop}
use Rattle.mam_archive.proofs.Newest.{newest_few}
use Rattle.mam_archive.specs.Entries.{EntryView, newest, numbered}
use Rattle.cmd_report.specs.Takes.{numbered_from}
use Rattle.srv_state.specs.State.{Kept}
use Rattle.srv_state.specs.Steps.{appended}
use Rattle.law_server.specs.Taken.{all_appended}

-- what is kept of what was kept before, and of more
pub newest_after : {A : Type 0} (keep : ℕ) (xs ys : List A) → newest keep (newest keep xs ++ ys) ≡ newest keep (xs ++ ys)
newest_after keep xs ys =
    let over = length xs - keep in
    let kept = drop over xs in
    let size : length kept ≡ length xs - over = length-drop over xs in
    let first = length-append kept ys in
    let both = length-append xs ys in
    let number : length (xs ++ ys) - keep ≡ over + (length (kept ++ ys) - keep) = omega (arith, size, first, both) in
    sym (ap (λ n. drop n (xs ++ ys)) number ∙ sym (drop-drop (length (kept ++ ys) - keep) over (xs ++ ys)) ∙ ap (drop (length (kept ++ ys) - keep)) (drop-append-le over xs ys (omega arith)))

few_kept : {A : Type 0} (keep : ℕ) (xs : List A) → length (newest keep xs) ≤ keep
few_kept keep xs = omega (arith, length-drop (length xs - keep) xs)

pub all_kept : (es : List EntryView) (kept : Kept) → length kept.entries ≤ kept.keep
    → all_appended es kept ≡ record kept { last = kept.last + length es; entries = newest kept.keep (kept.entries ++ numbered_from (kept.last + 1) es) }
all_kept [] kept few =
    ap₂ (λ (n : ℕ) (l : List EntryView). record kept { last = n; entries = l }) (sym (plus_none kept.last)) (sym (ap (newest kept.keep) (append-nil kept.entries) ∙ newest_few kept.keep kept.entries few))
  where
    plus_none : (n : ℕ) → n + 0 ≡ n
    plus_none n = omega arith
all_kept (e ∷ es) kept few =
    let more = appended e kept in
    let rest = numbered_from (kept.last + 1 + 1) es in
    let one = kept.entries ++ numbered (kept.last + 1) e ∷ [] in
    let number : kept.last + 1 + length es ≡ kept.last + suc (length es) = omega arith in
    let following : newest kept.keep (more.entries ++ rest) ≡ newest kept.keep (kept.entries ++ numbered (kept.last + 1) e ∷ rest) =
    newest_after kept.keep one rest ∙ ap (newest kept.keep) (append_assoc kept.entries (numbered (kept.last + 1) e ∷ []) rest) in
    all_kept es more (few_kept kept.keep one) ∙ ap₂ (λ (n : ℕ) (l : List EntryView). record kept { last = n; entries = l }) number following
