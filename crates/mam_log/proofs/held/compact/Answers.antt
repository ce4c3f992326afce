use Rattle.std.proofs.Common.{ap, filter, rules, ◌∙◌}
use Rattle.std.proofs.lemmas.Fn.{filter_same}
use Rattle.std.specs.BTreeSet.{contains_text}
use Rattle.mam_log.specs.declared.log_entry.LogEntry.{LogEntry}
use Rattle.mam_log.proofs.held.compact.Goals as goal

pub returns : goal.returns
returns c =
    filter_same _ (λ (e : LogEntry). contains_text c.args.ids.now e.id) _ (λ x b f k. search rules) _ _ c.retain.ensures.filtered
    ∙ ap (λ es. filter (λ (e : LogEntry). contains_text c.args.ids.now e.id) es) c.drop_front.ensures
