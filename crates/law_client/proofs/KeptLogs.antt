-- What a row does to a log keeps it as pages that were taken over.
use Rattle.std.proofs.Common.{◌≡◌, ℕ, ◌+◌, ◌<◌, ◌≤◌, Bool, true, false, cond, not, ◌&&◌, ◌||◌, List, [], ◌∷◌, ◌++◌, Option, Some, None, Result, Ok, Err, IfSome, length, nat_le, if◌then◌else◌, inl, inr, arith, refl, sym, ap, subst, ◌∙◌, length-append}
use Rattle.std.proofs.Math.Bool.{or-false}
use Rattle.std.proofs.lemmas.Bool.{or_parts, or_from}
use Rattle.std.proofs.lemmas.Bool.Decides.{nat_tests}
use Rattle.std.proofs.lemmas.List.{map-append}
use Rattle.std.proofs.lemmas.List.Folds.{list_any-append}
use Rattle.std.specs.Option.{option_map}
use Rattle.std.specs.Prelude.{nat_lt}
use Rattle.std.specs.Str.{bytes_eq}
use Rattle.law_client.proofs.LogParts.{LogPart, adds, asks_anew, breaks_off, holds, takes}
use Rattle.law_client.specs.Logs.{IsLogKept, whole_page}
use Rattle.mam_log.proofs.Orders.{bytes_eq-sym}
use Rattle.mam_log.proofs.Tilings.{IsTiling-nil, IsTiling-push}
use Rattle.mam_log.proofs.Unheld.{apart-unheld}
use Rattle.mam_log.proofs.Unlogged.{not_held, not_logged, unlogged-joined, unlogged-push}
use Rattle.mam_log.specs.HeldIds.{AreApart}
use Rattle.mam_log.specs.LogCalls.{may_hold, restarted}
use Rattle.mam_log.specs.LogPages.{IsAfter, ids_of, last_id}
use Rattle.mam_log.specs.Views.{LogView, OpenPage, after_fin, end_of, first_repeat, is_among, outcome_of, repeat_of, same_id, with_begun, with_page}
use Rattle.mam_log.specs.declared.fin.FinFault.{FinFault}
use Rattle.mam_log.specs.declared.fin.PageOutcome.{PageOutcome}
use Rattle.mam_log.specs.declared.held.TheConstants.{MOST_HELD}
use Rattle.mam_log.specs.declared.log_entry.LogEntry.{LogEntry}
use Rattle.mam_pages.specs.declared.fin.Fin.{Fin}

-- ---- a result more

added_after : (entries : List LogEntry) (o : Option OpenPage) (entry : LogEntry) → IfSome o (λ p. IsAfter entries p.after)
    → IfSome (option_map (λ (page : OpenPage). record page { results = page.results ++ entry ∷ [] }) o) (λ p. IsAfter entries p.after)
added_after entries None entry h = tt
added_after entries (Some page) entry h = h

room_for : (n max : ℕ) → nat_le max n ≡ false → n + 1 ≤ max
room_for n max position = grind (arith, nat_tests)

added_bound : (o : Option OpenPage) (page : OpenPage) (entry : LogEntry) → o ≡ Some page → nat_le page.max (length page.results) ≡ false
    → IfSome (option_map (λ (p : OpenPage). record p { results = p.results ++ entry ∷ [] }) o) (λ p. length p.results ≤ p.max)
added_bound None page entry is position = tt
added_bound (Some p) page entry is position =
    let same : p ≡ page = cc in
    let room : length p.results + 1 ≤ p.max = room_for (length p.results) p.max (rw same position) in
    rw (length-append p.results (entry ∷ [])) room

-- ---- the same page, asked for anew

anew_after : (entries : List LogEntry) (o : Option OpenPage) (queryid : List ℕ) → IfSome (option_map (restarted queryid) o) (λ p. IsAfter entries p.after)
anew_after entries None queryid = tt
anew_after entries (Some page) queryid = inl refl

anew_bound : (o : Option OpenPage) (queryid : List ℕ) → IfSome (option_map (restarted queryid) o) (λ p. length p.results ≤ p.max)
anew_bound None queryid = tt
anew_bound (Some page) queryid = omega arith

-- ---- a message that is held

among_push : (q : List ℕ) (held : List LogEntry) (e : LogEntry) → is_among q (ids_of (held ++ e ∷ [])) ≡ (is_among q (ids_of held) || bytes_eq q e.id)
among_push q held e =
    ap (λ ids. is_among q ids) (map-append (λ (d : LogEntry). d.id) held (e ∷ []))
    ∙ (list_any-append (λ other. bytes_eq q other) (ids_of held) (e.id ∷ []) ∙ ap (λ t. is_among q (ids_of held) || t) (or-false (bytes_eq q e.id)))

apart_push : (held : List LogEntry) (e : LogEntry) → AreApart held → is_among e.id (ids_of held) ≡ false → AreApart (held ++ e ∷ [])
apart_push [] e h none = (refl, tt)
apart_push (d ∷ ds) e h none = (
  among_push d.id ds e ∙ or_from (is_among d.id (ids_of ds)) (bytes_eq d.id e.id) h.0 (bytes_eq-sym d.id e.id ∙ (or_parts (bytes_eq e.id d.id) (is_among e.id (ids_of ds)) none).0),
  apart_push ds e h.1 ((or_parts (bytes_eq e.id d.id) (is_among e.id (ids_of ds)) none).1),
)

held_by : (log : LogView) (live : LogEntry) (b : Bool) → may_hold log live.id ≡ b → IsLogKept log → IsLogKept (if b then record log { held = log.held ++ live ∷ [] } else log)
held_by log live false may h = h
held_by log live true may h =
    let logged = is_among live.id (ids_of log.entries) in
    let held = is_among live.id (ids_of log.held) in
    let position = nat_lt (length log.held) MOST_HELD in
    record {
      tiling = h.tiling;
      following = h.following;
      bound = h.bound;
      apart = apart_push log.held live h.apart (not_held logged held position may);
      unlogged = unlogged-push log.entries log.held live h.unlogged (not_logged logged (not held && position) may);
    }

-- ---- a page that is taken over

-- what an Ok of the end of a page tells
pub record IsWell (log : LogView) (page : OpenPage) (fin : Fin) : Type 0 where
  pub fresh : first_repeat (ids_of log.entries) (ids_of page.results) ≡ None
  pub advances : fin.complete ≡ false → 0 < length page.results

chosen : (b : Bool) (x : Result PageOutcome FinFault) (fault : FinFault) (outcome : PageOutcome) → cond b x (Err fault) ≡ Ok outcome → x ≡ Ok outcome
chosen true x fault outcome e = e
chosen false x fault outcome e = absurd (cc e)

unrepeated : (o : Option (List ℕ)) (x : Result PageOutcome FinFault) (outcome : PageOutcome) → repeat_of o x ≡ Ok outcome → (o ≡ None) × (x ≡ Ok outcome)
unrepeated None x outcome e = (refl, e)
unrepeated (Some id) x outcome e = absurd (cc e)

advanced : (results : List LogEntry) (complete : Bool) (fault : FinFault) (outcome : PageOutcome) → cond (nat_lt (length results) 1 && not complete) (Err fault) (Ok (outcome_of complete)) ≡ Ok outcome → complete ≡ false → 0 < length results
advanced [] false fault outcome e last = absurd (cc e)
advanced [] true fault outcome e last = absurd (cc last)
advanced (r ∷ rs) complete fault outcome e last = omega arith

pub judged_well : (log : LogView) (page : OpenPage) (fin : Fin) (outcome : PageOutcome) → end_of log page fin ≡ Ok outcome → IsWell log page fin
judged_well log page fin outcome e =
    let same = chosen (same_id fin.last (last_id page.results)) _ _ outcome e in
    let rest = unrepeated (first_repeat (ids_of log.entries) (ids_of page.results)) _ outcome same in
    record { fresh = rest.0; advances = λ last. advanced page.results fin.complete _ outcome rest.1 last }

taken_by : (log : LogView) (page : OpenPage) (fin : Fin) → IsWell log page fin → IsAfter log.entries page.after → IsLogKept log → IsLogKept (with_page log page fin)
taken_by log page fin well following h =
    record {
      tiling = IsTiling-push log.entries log.tiles (whole_page page fin) h.tiling following well.advances well.fresh;
      following = tt;
      bound = tt;
      apart = apart-unheld (ids_of page.results) log.held h.apart;
      unlogged = unlogged-joined log.entries page.results log.held h.unlogged;
    }

pub fin_is : (log : LogView) (page : OpenPage) (fin : Fin) → log.page ≡ Some page → after_fin log fin ≡ with_page log page fin
fin_is log page fin opened = ap (λ (o : Option OpenPage). elim o as (λ _. LogView) [ None ↦ log | Some p ↦ with_page log p fin ]) opened

after_of : (entries : List LogEntry) (o : Option OpenPage) (page : OpenPage) → o ≡ Some page → IfSome o (λ p. IsAfter entries p.after) → IsAfter entries page.after
after_of entries o page opened h = subst (λ (p : Option OpenPage). IfSome p (λ q. IsAfter entries q.after)) opened h

-- ---- all

pub kept_by : (old new : LogView) → LogPart old new → IsLogKept old → IsLogKept new
kept_by old new (adds page entry opened position is) h =
    subst IsLogKept (sym is)
    (record {
      tiling = h.tiling;
      following = added_after old.entries old.page entry h.following;
      bound = added_bound old.page page entry opened position;
      apart = h.apart;
      unlogged = h.unlogged;
    })
kept_by old new (breaks_off is) h = subst IsLogKept (sym is) (record { tiling = h.tiling; following = tt; bound = tt; apart = h.apart; unlogged = h.unlogged })
kept_by old new (holds live is) h = subst IsLogKept (sym is) (held_by old live (may_hold old live.id) refl h)
kept_by old new (takes page fin outcome opened judged is) h =
    subst IsLogKept (sym (is ∙ fin_is old page fin opened)) (taken_by old page fin (judged_well old page fin outcome judged) (after_of old.entries old.page page opened h.following) h)
kept_by old new (asks_anew queryid is) h =
    subst IsLogKept (sym is) (record { tiling = h.tiling; following = anew_after old.entries old.page queryid; bound = anew_bound old.page queryid; apart = h.apart; unlogged = h.unlogged })

-- a page begins
pub begun_kept : (log : LogView) (queryid : List ℕ) (max : ℕ) → IsLogKept log → IsLogKept (with_begun log queryid max)
begun_kept log queryid max h = record { tiling = h.tiling; following = inr refl; bound = omega arith; apart = h.apart; unlogged = h.unlogged }

pub empty_kept : IsLogKept (record { entries = []; tiles = []; page = None; held = [] })
empty_kept = record { tiling = IsTiling-nil; following = tt; bound = tt; apart = tt; unlogged = tt }
