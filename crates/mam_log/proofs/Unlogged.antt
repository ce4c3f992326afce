-- No message that is held is in the log.
use Rattle.std.proofs.Common.{◌≡◌, ℕ, Bool, true, false, cond, not, ◌&&◌, List, [], ◌∷◌, ◌++◌, refl, ap, ◌∙◌}
use Rattle.std.proofs.lemmas.List.{map-append}
use Rattle.std.proofs.lemmas.List.Folds.{list_any-append}
use Rattle.std.specs.Str.{bytes_eq}
use Rattle.mam_log.specs.LogPages.{ids_of}
use Rattle.mam_log.specs.Tilings.{AreUnlogged}
use Rattle.mam_log.specs.Views.{is_among, unheld}
use Rattle.mam_log.specs.declared.log_entry.LogEntry.{LogEntry}

neither : (id : List ℕ) (entries results : List LogEntry) → is_among id (ids_of entries) ≡ false → is_among id (ids_of results) ≡ false → is_among id (ids_of (entries ++ results)) ≡ false
neither id entries results h k =
    ap (λ ids. is_among id ids) (map-append (λ (d : LogEntry). d.id) entries results)
    ∙ (list_any-append (λ other. bytes_eq id other) (ids_of entries) (ids_of results) ∙ rw (h, k) refl)

joined_step : (b : Bool) (entries results : List LogEntry) (e : LogEntry) (r : List LogEntry) → is_among e.id (ids_of results) ≡ b → is_among e.id (ids_of entries) ≡ false → AreUnlogged (entries ++ results) r → AreUnlogged (entries ++ results) (cond (not b) (e ∷ r) r)
joined_step true entries results e r is none rest = rest
joined_step false entries results e r is none rest = (neither e.id entries results none is, rest)

-- what stays behind a page isn't in the log with the page
pub unlogged-joined : (entries results held : List LogEntry) → AreUnlogged entries held → AreUnlogged (entries ++ results) (unheld (ids_of results) held)
unlogged-joined entries results [] h = tt
unlogged-joined entries results (e ∷ es) h = joined_step (is_among e.id (ids_of results)) entries results e (unheld (ids_of results) es) refl h.0 (unlogged-joined entries results es h.1)

pub unlogged-push : (entries held : List LogEntry) (e : LogEntry) → AreUnlogged entries held → is_among e.id (ids_of entries) ≡ false → AreUnlogged entries (held ++ e ∷ [])
unlogged-push entries [] e h none = (none, tt)
unlogged-push entries (d ∷ ds) e h none = (h.0, unlogged-push entries ds e h.1 none)

-- ---- what a message that may be held is not

pub not_logged : (a b : Bool) → (not a && b) ≡ true → a ≡ false
not_logged false b h = refl
not_logged true b h = absurd cc

pub not_held : (a b c : Bool) → (not a && (not b && c)) ≡ true → b ≡ false
not_held a false c h = refl
not_held false true c h = absurd cc
not_held true true c h = absurd cc
