use Rattle.std.proofs.Common.{◌≡◌, ◌+◌, List, [], ◌∷◌, ◌++◌, take, ap, subst, sym, ◌∙◌}
use Rattle.std.proofs.Math.Seq.{take_all}
use Rattle.std.proofs.lemmas.Map.Text.{btree_set_updates_text}
use Rattle.mam_log.proofs.Repeats.{ids_more}
use Rattle.mam_log.proofs.Unheld.{IsIndexOf-removed, unheld_more, unheld_nothing}
use Rattle.mam_log.specs.HeldIds.{IsIndexOf}
use Rattle.mam_log.specs.LogPages.{ids_of}
use Rattle.mam_log.specs.Views.{unheld}
use Rattle.mam_log.specs.declared.log_entry.LogEntry.{LogEntry}
use Rattle.mam_log.proofs.held.remove_ids.Goals as goal

pub loop-entry-init : goal.loop-entry-init
loop-entry-init c = λ held h. subst (λ (es : List LogEntry). IsIndexOf c.args.ids.now es) (sym (unheld_nothing held)) h

pub loop-entry-preserved : goal.loop-entry-preserved
loop-entry-preserved c = λ held h.
    let results = c.args.results.now in
    let i = c.loop-entry.entry-index in
    let id = c.as_str.result.now in
    let here = c.as_str.ensures ∙ ap (λ (e : LogEntry). e.id) c.entry-item.is in
    let more : ids_of (take (i + 1) results) ≡ ids_of (take i results) ++ id ∷ [] = ids_more results i c.entry-item.result id c.loop-entry-test.true here in
    let removed = IsIndexOf-removed id c.loop-entry.ids c.remove.new.self c.remove.result (unheld (ids_of (take i results)) held)
    (btree_set_updates_text id c.loop-entry.ids c.remove.new.self _ c.remove.ensures.updates) c.remove.ensures.test c.remove.ensures.len (c.loop-entry.invariant held h) in
    subst (λ (es : List LogEntry). IsIndexOf c.remove.new.self es) (sym (ap (λ ids. unheld ids held) more ∙ unheld_more (ids_of (take i results)) id held)) removed

pub returns : goal.returns
returns c = λ held h.
    subst (λ (es : List LogEntry). IsIndexOf c.loop-entry.ids (unheld (ids_of es) held)) (take_all c.loop-entry.entry-index c.args.results.now c.loop-entry-test.false) (c.loop-entry.invariant held h)
