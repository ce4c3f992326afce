use Rattle.std.proofs.Common.{◌≡◌, ◌∷◌, [], ◌++◌, ap, ◌∙◌, rules}
use Rattle.cmd_journal.specs.Journals.{events_text, journal_header}
use Rattle.net_hub.proofs.JournalText.{if_ok, journal_is}
use Rattle.net_hub.proofs.journal.journal_of.Goals as goal
use Rattle.net_hub.specs.Records.{views_of}

pub returns : goal.returns
returns c =
    let es = views_of c.args.events.now in
    let begun : c.in_ok-journal.journal.items ≡ journal_header c.args.file.now.version ++ 10 ∷ [] = search (rules, c.in_ok-journal.ensures, c.file.view_is) in
    if_ok c.finish.result (λ text is. journal_is c.args.file.now es c.args.server text.items c.append_events.new.out.items c.requires.server
    (c.in_ok-append_events.ensures ∙ ap (λ l. l ++ events_text es) begun) is) c.finish.ensures
