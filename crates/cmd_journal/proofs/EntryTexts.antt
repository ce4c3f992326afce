-- The lines of entries, one more behind those so far.
use Rattle.std.proofs.Common.{◌≡◌, ℕ, ◌+◌, ◌-◌, ◌≤◌, ◌<◌, List, [], ◌∷◌, ◌++◌, length, take, Some, sym, ap, ◌∙◌, append_assoc, arith}
use Rattle.std.proofs.lemmas.List.{append-nil, take_more}
use Rattle.std.proofs.lemmas.List.Concat.{flat_map-append}
use Rattle.std.proofs.lemmas.Option.{get_or_from_slice_get}
use Rattle.std.specs.List.{flat_map, slice_get}
use Rattle.mam_archive.specs.Entries.{EntryView}
use Rattle.cmd_journal.specs.Texts.{plain_entry_text}

-- the entry of the number that is i above the first one is the one at i
pub entry_more : (out before now : List ℕ) (entries : List EntryView) (i number first last : ℕ) (e : EntryView) → length entries ≤ last → first ≡ last + 1 - length entries → number ≡ first + i → i < length entries
    → slice_get entries (number + length entries - 1 - last) ≡ Some e → before ≡ out ++ flat_map plain_entry_text (take i entries) → now ≡ before ++ plain_entry_text e
    → now ≡ out ++ flat_map plain_entry_text (take (i + 1) entries)
entry_more out before now entries i number first last e kept begins is within there so_far added =
    let index : number + length entries - 1 - last ≡ i = omega (arith, kept, begins, is, within) in
    let here : slice_get entries i ≡ Some e = rw index at there in
    let more : take (i + 1) entries ≡ take i entries ++ e ∷ [] =
    take_more entries i e within ∙ ap (λ x. take i entries ++ x ∷ []) (get_or_from_slice_get entries i e e here) in
    let text : flat_map plain_entry_text (take (i + 1) entries) ≡ flat_map plain_entry_text (take i entries) ++ plain_entry_text e =
    ap (flat_map plain_entry_text) more ∙ flat_map-append plain_entry_text (take i entries) (e ∷ [])
    ∙ ap (λ xs. flat_map plain_entry_text (take i entries) ++ xs) (append-nil (plain_entry_text e)) in
    added ∙ ap (λ xs. xs ++ plain_entry_text e) so_far ∙ append_assoc out (flat_map plain_entry_text (take i entries)) (plain_entry_text e) ∙ ap (λ xs. out ++ xs) (sym text)
