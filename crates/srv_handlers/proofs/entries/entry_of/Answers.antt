use Rattle.std.proofs.Common.{◌≡◌, IfOk, subst}
use Rattle.mam_archive.specs.Entries.{EntryView}
use Rattle.srv_handlers.proofs.entries.entry_of.Goals as goal

-- the entry of what is kept is that of the message
pub returns : goal.returns
returns c = subst (λ (e : EntryView). IfOk c.new.result (λ entry. entry ≡ e)) (c.in_ok-kept.ensures 0) c.new.ensures
