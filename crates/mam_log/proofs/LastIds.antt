-- The id of the last entry.
use Rattle.std.proofs.Common.{◌≡◌, List, [], ◌∷◌, ◌++◌, Some, refl}
use Rattle.mam_log.specs.LogPages.{last_id}
use Rattle.mam_log.specs.declared.log_entry.LogEntry.{LogEntry}

pub last_id-push : (entries : List LogEntry) (e : LogEntry) → last_id (entries ++ e ∷ []) ≡ Some e.id
last_id-push [] e = refl
last_id-push (d ∷ []) e = refl
last_id-push (d ∷ f ∷ es) e = last_id-push (f ∷ es) e
