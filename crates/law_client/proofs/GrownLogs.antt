-- What a row does to a log adds whole pages to it.
use Rattle.std.proofs.Common.{◌≡◌, Bool, true, false, List, [], ◌∷◌, ◌++◌, Ok, map, refl, sym, ap, subst, ◌∙◌, append-nil, append_assoc, if◌then◌else◌}
use Rattle.std.proofs.lemmas.Grind.{flat_map-append}
use Rattle.std.proofs.lemmas.List.{map-append}
use Rattle.law_client.proofs.KeptLogs.{fin_is}
use Rattle.law_client.proofs.LogParts.{LogPart, adds, asks_anew, breaks_off, holds, takes}
use Rattle.law_client.specs.Logs.{AreTaken, GrewByPages, whole_page}
use Rattle.mam_log.specs.LogCalls.{after_hold, may_hold}
use Rattle.mam_log.specs.LogPages.{LogPage, log_of, tile_of}
use Rattle.mam_log.specs.Views.{LogView, OpenPage, end_of, with_page}
use Rattle.mam_log.specs.declared.fin.PageOutcome.{PageOutcome}
use Rattle.mam_log.specs.declared.log_entry.LogEntry.{LogEntry}
use Rattle.mam_pages.specs.declared.fin.Fin.{Fin}

-- the log stayed
pub same_grew : (old new : LogView) → new.entries ≡ old.entries → new.tiles ≡ old.tiles → GrewByPages old new
same_grew old new entries tiles =
    record { pages = []; taken = tt; entries = entries ∙ sym (append-nil old.entries); tiles = tiles ∙ sym (append-nil old.tiles) }

log_of-append : (ps qs : List LogPage) → log_of (ps ++ qs) ≡ log_of ps ++ log_of qs
log_of-append ps qs = flat_map-append (λ (p : LogPage). p.entries) ps qs

taken_append : (before : List LogEntry) (ps qs : List LogPage) → AreTaken before ps → AreTaken (before ++ log_of ps) qs → AreTaken before (ps ++ qs)
taken_append before [] qs first rest = subst (λ (es : List LogEntry). AreTaken es qs) (append-nil before) rest
taken_append before (p ∷ ps) qs first rest =
    (first.0, taken_append (before ++ p.entries) ps qs first.1 (subst (λ (es : List LogEntry). AreTaken es qs) (sym (append_assoc before p.entries (log_of ps))) rest))

-- one after the other
pub grew_on : (old log new : LogView) → GrewByPages old log → GrewByPages log new → GrewByPages old new
grew_on old log new first rest =
    record {
      pages = first.pages ++ rest.pages;
      taken = taken_append old.entries first.pages rest.pages first.taken (subst (λ (es : List LogEntry). AreTaken es rest.pages) first.entries rest.taken);
      entries = rest.entries ∙ ap (λ es. es ++ log_of rest.pages) first.entries ∙ append_assoc old.entries (log_of first.pages) (log_of rest.pages) ∙ ap (λ es. old.entries ++ es) (sym (log_of-append first.pages rest.pages));
      tiles = rest.tiles ∙ ap (λ ts. ts ++ map tile_of rest.pages) first.tiles ∙ append_assoc old.tiles (map tile_of first.pages) (map tile_of rest.pages) ∙ ap (λ ts. old.tiles ++ ts) (sym (map-append tile_of first.pages rest.pages));
    }

-- one page more
taken_grew : (log : LogView) (page : OpenPage) (fin : Fin) (outcome : PageOutcome) → end_of log page fin ≡ Ok outcome → GrewByPages log (with_page log page fin)
taken_grew log page fin outcome judged =
    record {
      pages = whole_page page fin ∷ [];
      taken = (record { opened = page; fin = fin; outcome = outcome; judged = judged; whole = refl }, tt);
      entries = ap (λ es. log.entries ++ es) (sym (append-nil page.results));
      tiles = refl;
    }

held_entries : (log : LogView) (live : LogEntry) (b : Bool) → (if b then record log { held = log.held ++ live ∷ [] } else log).entries ≡ log.entries
held_entries log live true = refl
held_entries log live false = refl

held_tiles : (log : LogView) (live : LogEntry) (b : Bool) → (if b then record log { held = log.held ++ live ∷ [] } else log).tiles ≡ log.tiles
held_tiles log live true = refl
held_tiles log live false = refl

pub grew_by : (old new : LogView) → LogPart old new → GrewByPages old new
grew_by old new (adds page entry opened position is) = subst (GrewByPages old) (sym is) (same_grew old _ refl refl)
grew_by old new (breaks_off is) = subst (GrewByPages old) (sym is) (same_grew old _ refl refl)
grew_by old new (holds live is) =
    subst (GrewByPages old) (sym is) (same_grew old (after_hold old live) (held_entries old live (may_hold old live.id)) (held_tiles old live (may_hold old live.id)))
grew_by old new (takes page fin outcome opened judged is) = subst (GrewByPages old) (sym (is ∙ fin_is old page fin opened)) (taken_grew old page fin outcome judged)
grew_by old new (asks_anew queryid is) = subst (GrewByPages old) (sym is) (same_grew old _ refl refl)
