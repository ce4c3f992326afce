-- The id behind which the next page is asked for.
use Rattle.std.proofs.Common.{◌≡◌, ℕ, Bool, true, false, cond, not, ◌&&◌, List, [], ◌∷◌, ◌++◌, Option, Some, None, Ok, Err, Result, length, refl, ap, sym, ◌∙◌, ◌⊎◌, inl, inr}
use Rattle.std.specs.Prelude.{nat_lt}
use Rattle.std.specs.Str.{bytes_eq}
use Rattle.std.proofs.lemmas.Slice.Eq.{bytes_eq-Decides}
use Rattle.mam_log.specs.LogCalls.{begun_again}
use Rattle.mam_log.specs.LogPages.{IsAfter, ids_of, last_id}
use Rattle.mam_log.specs.Views.{LogView, OpenPage, after_fin, end_of, fin_answer, first_repeat, outcome_of, page_for, page_outcome_of, repeat_of, same_id, with_page}
use Rattle.mam_pages.specs.declared.fin.Fin.{Fin}
use Rattle.mam_log.specs.declared.fin.FinFault.{FinFault}
use Rattle.mam_log.specs.declared.fin.PageOutcome.{PageOutcome}
use Rattle.mam_log.specs.declared.fin.PageOutcome.TheVariants.{More}
use Rattle.mam_log.specs.declared.log_entry.LogEntry.{LogEntry}

last_of_both : (es : List LogEntry) (r : LogEntry) (rs : List LogEntry) → last_id (es ++ r ∷ rs) ≡ last_id (r ∷ rs)
last_of_both [] r rs = refl
last_of_both (e ∷ []) r rs = refl
last_of_both (e ∷ f ∷ es) r rs = last_of_both (f ∷ es) r rs

same_ids : (a b : Option (List ℕ)) → same_id a b ≡ true → a ≡ b
same_ids None None e = refl
same_ids (Some x) (Some y) e = ap Some ((bytes_eq-Decides x y).0 e)
same_ids None (Some y) e = absurd cc
same_ids (Some x) None e = absurd cc

-- a test whose result is Ok went the way of Ok
chosen : (b : Bool) (x : Result PageOutcome FinFault) (fault : FinFault) → cond b x (Err fault) ≡ Ok More → (b ≡ true) × (x ≡ Ok More)
chosen true x fault e = (refl, e)
chosen false x fault e = absurd cc

unrepeated : (o : Option (List ℕ)) (x : Result PageOutcome FinFault) → repeat_of o x ≡ Ok More → x ≡ Ok More
unrepeated None x e = e
unrepeated (Some id) x e = absurd cc

advanced : (b complete : Bool) (fault : FinFault) → cond (b && not complete) (Err fault) (Ok (outcome_of complete)) ≡ Ok More → b ≡ false
advanced false complete fault e = refl
advanced true true fault e = absurd cc
advanced true false fault e = absurd cc

not_empty : (results : List LogEntry) (entries : List LogEntry) → nat_lt (length results) 1 ≡ false → last_id (entries ++ results) ≡ last_id results
not_empty [] entries e = absurd cc
not_empty (r ∷ rs) entries e = last_of_both entries r rs

-- of a page that isn't the last, the last result told is the log's last entry then
last_told : (log : LogView) (page : OpenPage) (fin : Fin) → end_of log page fin ≡ Ok More → last_id (log.entries ++ page.results) ≡ fin.last
last_told log page fin e =
    let first = chosen (same_id fin.last (last_id page.results)) _ _ e in
    let rest = unrepeated (first_repeat (ids_of log.entries) (ids_of page.results)) _ first.1 in
    let some = advanced (nat_lt (length page.results) 1) fin.complete _ rest in
    not_empty page.results log.entries some ∙ sym (same_ids fin.last (last_id page.results) first.0)

info_at : (b : Bool) (log : LogView) (page : OpenPage) (fin : Fin) → page_outcome_of log (cond b (Some page) None) fin ≡ Ok More → end_of log page fin ≡ Ok More
info_at true log page fin e = e
info_at false log page fin e = absurd cc

told_with : (log : LogView) (o : Option OpenPage) (queryid : List ℕ) (fin : Fin) → page_outcome_of log (page_for queryid o) fin ≡ Ok More → last_id (elim o as (λ _. LogView) [ None ↦ log | Some page ↦ with_page log page fin ]).entries ≡ fin.last
told_with log None queryid fin e = absurd cc
told_with log (Some page) queryid fin e = last_told log page fin (info_at (bytes_eq page.queryid queryid) log page fin e)

-- the same of the log behind the page
pub told_after : (log : LogView) (queryid : List ℕ) (fin : Fin) → fin_answer log queryid fin ≡ Ok More → last_id (after_fin log fin).entries ≡ fin.last
told_after log queryid fin e = told_with log log.page queryid fin e

-- an answer that is no want of memory is the one that is due
pub due : (r answer : Result PageOutcome FinFault) (fault : FinFault) → r ≡ Ok More → (r ≡ Err fault) ⊎ (r ≡ answer) → answer ≡ Ok More
due r answer fault e (inl f) = absurd cc
due r answer fault e (inr f) = sym f ∙ e

-- the log behind the page, the next page's place
pub position_after : (old new : LogView) (queryid : List ℕ) (fin : Fin) (after : Option (List ℕ)) (entries : List LogEntry) → fin_answer old queryid fin ≡ Ok More → new ≡ after_fin old fin → entries ≡ new.entries → after ≡ fin.last → IsAfter entries after
position_after old new queryid fin after entries e f g h = inr (h ∙ sym (told_after old queryid fin e) ∙ ap (λ (l : LogView). last_id l.entries) (sym f) ∙ ap last_id (sym g))

-- a log with this page open
abbrev pub rendered : LogView → List ℕ → ℕ → Option (List ℕ) → List LogEntry → LogView
rendered log queryid max after results = record log { page = Some (record { queryid = queryid; max = max; after = after; results = results }) }

-- the log behind the page, with the next page
pub begun_after : (old new : LogView) (page : OpenPage) (queryid next : List ℕ) (fin : Fin) (after : Option (List ℕ)) → fin_answer old queryid fin ≡ Ok More → new ≡ after_fin old fin → after ≡ fin.last → old.page ≡ Some page →
    rendered new next page.max after [] ≡ begun_again (after_fin old fin) next old.page
begun_after old new page queryid next fin after e f h o =
    let position : after ≡ last_id (after_fin old fin).entries = h ∙ sym (told_after old queryid fin e) in
    ap (λ (l : LogView). rendered l next page.max after []) f
    ∙ (ap (λ (a : Option (List ℕ)). rendered (after_fin old fin) next page.max a []) position ∙ ap (λ (p : Option OpenPage). begun_again (after_fin old fin) next p) (sym o))
