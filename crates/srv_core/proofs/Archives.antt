-- An archive among the archives, as it is seen.
use Rattle.std.proofs.Common.{◌≡◌, ℕ, List, [], ◌∷◌, ◌++◌, Option, ap, append_assoc, map, sym, ◌∙◌}
use Rattle.std.proofs.lemmas.List.{map_push}
use Rattle.std.proofs.lemmas.Option.{slice_get-map}
use Rattle.std.specs.List.{slice_get}
use Rattle.std.specs.Option.{option_map}
use Rattle.mam_archive.specs.Entries.{ArchiveView}
use Rattle.srv_login.specs.declared.account.Account.{Account}
use Rattle.srv_core.specs.Configs.{archives_of, empty_kept}
use Rattle.srv_state.specs.Seen.{kept_of}
use Rattle.srv_state.specs.State.{Kept}
pub use Rattle.srv_handlers.proofs.ArchiveSteps.{seen_at}

-- an archive more, of the next account
pub one_more : (domain : List ℕ) (keep : ℕ) (made : List ArchiveView) (archive : ArchiveView) (account : Account) (rest : List Account) (due : List Kept)
    → kept_of archive ≡ empty_kept domain keep account.name → map kept_of made ++ archives_of domain keep (account ∷ rest) ≡ due
    → map kept_of (made ++ archive ∷ []) ++ archives_of domain keep rest ≡ due
one_more domain keep made archive account rest due is was =
    ap (λ l. l ++ archives_of domain keep rest) (map_push kept_of made archive) ∙ append_assoc (map kept_of made) (kept_of archive ∷ []) (archives_of domain keep rest)
    ∙ ap (λ k. map kept_of made ++ k ∷ archives_of domain keep rest) is ∙ was
