use Rattle.std.proofs.Common.{◌+◌, ◌++◌, ◌∷◌, List, drop, map, ap, sym, ◌∙◌, arith, rules}
use Rattle.std.proofs.lemmas.List.{at_drop_more}
use Rattle.std.specs.List.{slice_get}
use Rattle.std.specs.Option.{option_copied, option_map}
use Rattle.srv_state.specs.Seen.{kept_of}
use Rattle.cmd_journal.specs.declared.accounts_file.Registration.{Registration}
use Rattle.cmd_journal.specs.Texts.{named_view}
use Rattle.cmd_rerun.proofs.Lines.{named_more}
use Rattle.cmd_rerun.specs.Reruns.{named_archives, named_kept}
use Rattle.cmd_rerun.proofs.outputs.named_archives.Goals as goal

pub loop-r-preserved : goal.loop-r-preserved
loop-r-preserved c =
    let i = c.loop-r.r-index in
    let archives = c.args.server.now.server_state.archives in
    let rest = drop (i + 1) c.args.registrations.now in
    let ahead = at_drop_more (λ (rs : List Registration). named_archives rs (drop i archives)) c.args.registrations.now i c.r-item.result (omega arith)
    ∙ ap (λ (r : Registration). named_archives (r ∷ rest) (drop i archives)) (sym c.r-item.is) in
    let kept = option_map kept_of (option_copied c.archive.result) in
    let at = c.archive.ensures ∙ ap (λ n. slice_get archives n) c.loop-r.invariant.position in
    record {
      position = search rules;
      made = named_more (map named_view c.loop-r.named.items) (map named_view c.add_archive.new.named.items) c.r-item.result rest archives i kept _ at
          (c.in_ok-add_archive.ensures ∙ ap (λ name. map named_view c.loop-r.named.items ++ named_kept name kept) c.as_str.ensures)
          (ap (λ l. map named_view c.loop-r.named.items ++ l) (sym ahead) ∙ c.loop-r.invariant.made);
    }
