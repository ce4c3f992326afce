-- The lines of the archives, account by account.
use Rattle.std.proofs.Common.{◌≡◌, ℕ, ◌+◌, List, [], ◌∷◌, ◌++◌, drop, Option, append_assoc, ap, refl, sym, ◌∙◌}
use Rattle.std.proofs.lemmas.Grind.{flat_map-append}
use Rattle.std.specs.List.{flat_map, slice_get}
use Rattle.srv_state.specs.State.{Kept}
use Rattle.cmd_journal.specs.declared.accounts_file.Registration.{Registration}
use Rattle.cmd_journal.specs.Texts.{archive_text}
use Rattle.cmd_rerun.proofs.Lines.{named_more}
use Rattle.cmd_rerun.specs.Reruns.{named_archives, named_kept}
use Rattle.cmd_schedule.specs.declared.schedule.Version.{Version}

-- the lines so far and those of the accounts that are left are all
pub lines_more : (version : Version) (out more due : List ℕ) (r : Registration) (rs : List Registration) (archives : List Kept) (i : ℕ) (o : Option Kept) → o ≡ slice_get archives i
    → more ≡ out ++ flat_map (archive_text version) (named_kept r.name o)
    → out ++ flat_map (archive_text version) (named_archives (r ∷ rs) (drop i archives)) ≡ due
    → more ++ flat_map (archive_text version) (named_archives rs (drop (i + 1) archives)) ≡ due
lines_more version out more due r rs archives i o at is was =
    let first : named_kept r.name o ++ named_archives rs (drop (i + 1) archives) ≡ named_archives (r ∷ rs) (drop i archives) =
    named_more [] (named_kept r.name o) r rs archives i o (named_archives (r ∷ rs) (drop i archives)) at refl refl in
    ap (λ l. l ++ flat_map (archive_text version) (named_archives rs (drop (i + 1) archives))) is
    ∙ append_assoc out (flat_map (archive_text version) (named_kept r.name o)) (flat_map (archive_text version) (named_archives rs (drop (i + 1) archives)))
    ∙ ap (λ l. out ++ l) (sym (flat_map-append (archive_text version) (named_kept r.name o) (named_archives rs (drop (i + 1) archives))))
    ∙ ap (λ l. out ++ flat_map (archive_text version) l) first ∙ was
