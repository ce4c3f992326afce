use Rattle.std.proofs.Common.{◌+◌, ◌++◌, ◌∷◌, List, drop, ap, sym, ◌∙◌, arith, rules}
use Rattle.std.proofs.lemmas.List.{at_drop_more}
use Rattle.std.specs.List.{flat_map, slice_get}
use Rattle.std.specs.Option.{option_copied, option_map}
use Rattle.srv_state.specs.Seen.{kept_of}
use Rattle.cmd_journal.specs.declared.accounts_file.Registration.{Registration}
use Rattle.cmd_journal.specs.Texts.{NamedView, archive_text}
use Rattle.cmd_rerun.specs.Reruns.{named_archives, named_kept}
use Rattle.net_hub.proofs.Endings.{lines_more}
use Rattle.net_hub.proofs.ending.append_archives.Goals as goal

pub loop-r-preserved : goal.loop-r-preserved
loop-r-preserved c =
    let i = c.loop-r.r-index in
    let archives = c.args.server.now.server_state.archives in
    let rest = drop (i + 1) c.args.registrations.now in
    let out = c.loop-r.out.items in
    let ahead = at_drop_more (λ (rs : List Registration). named_archives rs (drop i archives)) c.args.registrations.now i c.r-item.result (omega arith)
    ∙ ap (λ (r : Registration). named_archives (r ∷ rest) (drop i archives)) (sym c.r-item.is) in
    let kept = option_map kept_of (option_copied c.archive.result) in
    let at = c.archive.ensures ∙ ap (λ n. slice_get archives n) c.loop-r.invariant.position in
    record {
      position = search rules;
      made = lines_more c.args.version out c.append_kept.new.out.items _ c.r-item.result rest archives i kept at
          (c.in_ok-append_kept.ensures ∙ ap (λ name. out ++ flat_map (archive_text c.args.version) (named_kept name kept)) c.as_str.ensures)
          (ap (λ (l : List NamedView). out ++ flat_map (archive_text c.args.version) l) (sym ahead) ∙ c.loop-r.invariant.made);
    }
