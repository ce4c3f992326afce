-- What the worlds of a run show of its states.
use Rattle.std.proofs.Common.{◌≡◌, ℕ, zero, suc, ◌+◌, ◌-◌, ◌≤◌, true, List, [], ◌∷◌, ◌++◌, Some, length, drop, refl, sym, ap, ◌∙◌, subst, arith}
use Rattle.std.proofs.lemmas.List.{append-nil, length-drop}
use Rattle.std.proofs.lemmas.Option.{none-some, same_Some}
use Rattle.std.specs.List.{flat_map, slice_get}
use Rattle.mam_archive.proofs.NumberedEntries.{FollowFrom, follow_drop}
use Rattle.mam_archive.specs.Entries.{EntryView, newest}
use Rattle.cmd_direct.proofs.TurnRuns.{number_follow}
use Rattle.cmd_direct.proofs.RunLaws.{first_follow}
use Rattle.base_io.specs.Names.{is_among}
use Rattle.mam_pages.specs.Kept.{first_number, last_number, last_number_or}
use Rattle.cmd_report.specs.Lawful.{EndsWith}
use Rattle.cmd_report.specs.Reports.{DeviceView}
use Rattle.cmd_report.specs.Worlds.{ReportWorld}
use Rattle.cmd_schedule.specs.Contents.{Owned}
use Rattle.sim_1_applications.specs.Devices as sessions
use Rattle.sim_1_applications.specs.Devices.{last_of}
use Rattle.sim_1_applications.specs.Events.{AppEvent, after}
use Rattle.sim_1_applications.specs.Histories.{state_after, states_of}
use Rattle.sim_1_applications.proofs.Rendered.{history_follows, history_long}
use Rattle.sim_1_applications.specs.Reported.{AreRepresented, IsShown, history_at}

-- The numbers that an archive keeps.

small_drop : (keep n size : ℕ) → 1 ≤ keep → size ≡ n - (n - keep) → size ≡ 0 → 0 ≡ n - keep
small_drop keep n size some is none = omega arith

pub last_newest : (keep : ℕ) (history : List EntryView) → 1 ≤ keep → FollowFrom 1 history → last_number (newest keep history) ≡ length history
last_newest keep history some follow =
    let p = length history - keep in
    let entries = drop p history in
    let size : length entries ≡ length history - p = length-drop p history in
    let first : 1 + p ≡ suc p = omega arith in
    let following : FollowFrom (suc p) entries = subst (λ k. FollowFrom k entries) first (follow_drop p 1 history follow) in
    let end : p + length entries ≡ length history = omega arith in
    ap (last_number_or 0) (sym (append-nil entries)) ∙ number_follow 0 p entries [] following (λ none. small_drop keep (length history) (length entries) some size none) ∙ end

pub first_newest : (keep : ℕ) (history : List EntryView) → 1 ≤ keep → FollowFrom 1 history → first_number (newest keep history) ≡ suc (length history - keep)
first_newest keep history some follow =
    let p = length history - keep in
    let entries = drop p history in
    let size : length entries ≡ length history - p = length-drop p history in
    let first : 1 + p ≡ suc p = omega arith in
    first_follow p entries (subst (λ k. FollowFrom k entries) first (follow_drop p 1 history follow)) (λ none. sym (small_drop keep (length history) (length entries) some size none))

-- of an account that exists, what a world shows has these numbers
pub record Numbers (w : sessions.AppWorld) (keep : ℕ) (shown : ReportWorld) (account : List ℕ) : Type 0 where
  pub last : last_number (shown.archive account) ≡ last_of w.takes account
  pub first : first_number (shown.archive account) ≡ suc (last_of w.takes account - keep)

pub shown_numbers : (owned : List Owned) (w : sessions.AppWorld) (shown : ReportWorld) (account : List ℕ) → 1 ≤ w.keep → IsShown owned w shown → is_among account w.accounts ≡ true → Numbers w w.keep shown account
shown_numbers owned w shown account some is exists =
    let history = history_at owned w.takes account in
    let follow = history_follows owned w.takes account in
    let archive = is.archive account exists in
    let long = history_long owned w.takes account in
    record {
      last = ap last_number archive ∙ last_newest w.keep history some follow ∙ long;
      first = ap first_number archive ∙ first_newest w.keep history some follow ∙ ap (λ n. suc (n - w.keep)) long;
    }

-- Worlds by their places.

pub record ShownAt (owned : List Owned) (states : List sessions.AppWorld) (i : ℕ) (shown : ReportWorld) : Type 0 where
  pub state : sessions.AppWorld
  pub at : slice_get states i ≡ Some state
  pub is : IsShown owned state shown

pub shown_at : (owned : List Owned) (states : List sessions.AppWorld) (worlds : List ReportWorld) (i : ℕ) (shown : ReportWorld) → AreRepresented owned states worlds → slice_get worlds i ≡ Some shown → ShownAt owned states i shown
shown_at owned [] [] i shown are at = absurd (none-some shown at)
shown_at owned [] (x ∷ worlds) i shown are at = absurd are
shown_at owned (w ∷ states) [] i shown are at = absurd are
shown_at owned (w ∷ states) (x ∷ worlds) zero shown are at = record { state = w; at = refl; is = subst (IsShown owned w) (same_Some x shown at) are.0 }
shown_at owned (w ∷ states) (x ∷ worlds) (suc i) shown are at =
    let rest = shown_at owned states worlds i shown are.1 at in
    record { state = rest.state; at = rest.at; is = rest.is }

pub after_both : (xs ys : List AppEvent) (v : sessions.AppWorld) → state_after v (xs ++ ys) ≡ state_after (state_after v xs) ys
after_both [] ys v = refl
after_both (x ∷ xs) ys v = after_both xs ys (after v x)

-- the last world shows the last state
pub ends_with : (owned : List Owned) (moves : List (List AppEvent)) (w : sessions.AppWorld) (worlds : List ReportWorld) (line : DeviceView) → AreRepresented owned (states_of w moves) worlds →
    ((shown : ReportWorld) → IsShown owned (state_after w (flat_map (λ move. move) moves)) shown → length (shown.pages line.name) ≡ length line.pages) → EndsWith worlds line
ends_with owned [] w [] line are each = absurd are
ends_with owned [] w (x ∷ []) line are each = each x are.0
ends_with owned [] w (x ∷ y ∷ worlds) line are each = absurd are.1
ends_with owned (move ∷ moves) w [] line are each = absurd are
ends_with owned (move ∷ moves) w (x ∷ []) line are each = absurd (none_left moves are.1)
  where
    none_left : (ms : List (List AppEvent)) → AreRepresented owned (states_of (state_after w move) ms) [] → ⊥
    none_left [] is = is
    none_left (m ∷ ms) is = is
ends_with owned (move ∷ moves) w (x ∷ y ∷ worlds) line are each =
    ends_with owned moves (state_after w move) (y ∷ worlds) line are.1
    (λ shown is. each shown (subst (λ v. IsShown owned v shown) (sym (after_both move (flat_map (λ m. m) moves) w)) is))
