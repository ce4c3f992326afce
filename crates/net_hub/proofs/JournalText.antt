-- The text of a journal.
use Rattle.std.proofs.Common.{◌≡◌, ℕ, List, [], ◌∷◌, ◌++◌, Result, Ok, Err, IfOk, append_assoc, ap, ◌∙◌}
use Rattle.cmd_journal.specs.AccountsFiles.{AccountsView}
use Rattle.cmd_journal.specs.Journals.{EventView, events_text, journal_header}
use Rattle.cmd_journal.specs.Texts.{NamedView}
use Rattle.net_hub.specs.Records.{run_of_file}
use Rattle.cmd_rerun.specs.Reruns.{Run, archives_after, named_archives}
use Rattle.srv_core.specs.Events.{Whole}
use Rattle.cmd_rerun.proofs.Adding.{from_start}
use Rattle.cmd_rerun.specs.Journaling.{ending_text, journal_text}

pub if_ok : {T E : Type 0} {P Q : T → Type 0} (r : Result T E) → ((t : T) → P t → Q t) → IfOk r P → IfOk r Q
if_ok (Ok t) f h = f t h
if_ok (Err e) f h = tt

pub journal_is : (file : AccountsView) (es : List EventView) (server : Whole (List ℕ)) (text journal : List ℕ) → server ≡ (run_of_file file es).server → journal ≡ (journal_header file.version ++ 10 ∷ []) ++ events_text es
    → text ≡ journal ++ ending_text file.version (named_archives file.accounts server.server_state.archives) → text ≡ journal_text file es
unfolding journal_text
journal_is file es server text journal made begun is =
    let archives : List NamedView = archives_after (record { accounts = file; events = es }) in
    let ending = ending_text file.version archives in
    is
    ∙ ap (λ (w : Whole (List ℕ)). journal ++ ending_text file.version (named_archives file.accounts w.server_state.archives)) (made ∙ ap (λ (r : Run). r.server) (from_start es file))
    ∙ ap (λ l. l ++ ending) begun
    ∙ append_assoc (journal_header file.version ++ 10 ∷ []) (events_text es) ending
    ∙ append_assoc (journal_header file.version) (10 ∷ []) (events_text es ++ ending)
