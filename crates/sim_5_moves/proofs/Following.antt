-- Flags that show sessions show them behind what becomes of them.
use Rattle.std.proofs.Common.{◌≡◌, ◌≢◌, ℕ, ◌&&◌, Bool, true, false, List, [], ◌∷◌, refl, sym, ap, subst, ◌∙◌, inl, inr}
use Rattle.std.proofs.lemmas.Bool.{false≢true}
use Rattle.srv_state.specs.State.{ServerState}
use Rattle.sim_3_items.specs.Labels.{Drops, Enters, Gives, Label, Learns, Names, Reads, Says, Takes}
use Rattle.sim_2_events.specs.Acts.{MayAct}
use Rattle.sim_2_events.specs.Lists.{Stanzas}
use Rattle.sim_5_devices.specs.Labels.{Binds, Counts, Does, Ends, SessionStep, SessionSteps}
use Rattle.sim_3_items.specs.Served.{FlagsRepresent}
use Rattle.sim_1_applications.specs.Devices.{Device, NoRow, Present, Row, Sessions, Unread, new_device}
use Rattle.sim_1_applications.specs.Events.{ReadBound, binds, counts, end_row, is_present, reads_bound}
use Rattle.sim_5_moves.specs.WordsRunWords.{IsBare, binds_between}
use Rattle.xml_writer.specs.Items.{ItemOut}
use Rattle.sim_5_devices.proofs.Given.{stays_away}

pub not_present : (r : Row) → r ≢ Present → is_present r ≡ false
not_present NoRow other = refl
not_present Unread other = refl
not_present Present other = absurd (other refl)

-- a device with these sessions
abbrev with_sessions_of : Sessions → Device
with_sessions_of d = record (new_device []) { sessions = d }

module _ (account : ℕ) (resource : List ℕ) (h : ServerState ItemOut) where
  abbrev Represents : Sessions → Type 0
  Represents d = FlagsRepresent account resource h d

  -- ---- labels

  named : (live : Bool) (d : Sessions) → (live ≡ true → d.row ≡ Unread) → (live ≡ false → d.row ≢ Present) → Represents d → Represents (reads_bound live d)
  named true d unread absent represents = λ some s found.
      let row = unread refl in
      let f = represents (λ none. absurd (let no_way : Unread ≡ NoRow = sym row ∙ none in let bad : ⊥ = cc in bad)) s found in
      (f.0 ∙ ap (λ r. is_present r && d.now.available) row, f.1 ∙ ap (λ r. is_present r && d.now.carbons) row, f.2)
  named false d unread absent represents = λ some s found.
      let f = represents some s found in
      let gone = not_present d.row (absent refl) in
      (f.0 ∙ ap (λ b. b && d.now.available) gone ∙ sym (ap (λ b. b && false) gone), f.1 ∙ ap (λ b. b && d.now.carbons) gone ∙ sym (ap (λ b. b && false) gone), f.2)

  pub label_shows : {A : Type 0} (r : Stanzas A) (x : Label A) (d next : Sessions) → Does r x d next → Represents d → Represents next
  label_shows r (Says z) d next does represents = subst Represents (sym does.1) represents
  label_shows r (Takes z) d next does represents = subst Represents (sym does.is) represents
  label_shows r (Gives z) d next does represents = subst Represents (sym does.1) represents
  label_shows r (Reads z) d next does represents = subst Represents (sym does.is) represents
  label_shows r Names d next does represents = subst Represents (sym does.2) (by_live does.0 does.1)
    where
      by_live : (live : Bool) → MayAct (ReadBound live) d → Represents (reads_bound live d)
      by_live true may = named true d (λ e. (may (with_sessions_of d) refl).1) (λ e. absurd (false≢true (sym e))) represents
      by_live false may = named false d (λ e. absurd (false≢true e)) (λ e. (may (with_sessions_of d) refl).1) represents
  label_shows r Enters d next does represents = subst Represents (sym does.1) represents
  label_shows r Learns d next does represents = subst Represents (sym does.is) represents
  label_shows r Drops d next (inl does) represents = subst Represents (sym does.1) represents
  label_shows r Drops d next (inr does) represents = subst Represents (sym does.1) represents

  -- ---- what the server alone does

  none_represents : (d : Sessions) → Represents (end_row d)
  none_represents d = λ some s found. absurd (some refl)

  pub session_steps_show : (xs : List SessionStep) (d last : Sessions) → binds_between xs ≡ false → SessionSteps xs d last → Represents d → Represents last
  session_steps_show [] d last none session_steps represents = subst Represents (sym session_steps) represents
  session_steps_show (Binds ∷ xs) d last none session_steps represents = absurd (false≢true (sym none))
  session_steps_show (Counts ∷ xs) d last none session_steps represents = session_steps_show xs (counts d) last none session_steps.1 represents
  session_steps_show (Ends ∷ xs) d last none session_steps represents = session_steps_show xs (end_row d) last none session_steps.1 (none_represents d)

  pub bare_represents : (d : Sessions) → IsBare account resource h → d.row ≢ Present → Represents d
  bare_represents d bare absent = λ some s found.
      let f = bare s found in
      let gone = not_present d.row absent in
      (f.0 ∙ sym (ap (λ b. b && d.now.available) gone), f.1 ∙ sym (ap (λ b. b && d.now.carbons) gone), f.2)

  pub bound_absent : (xs : List SessionStep) (d last : Sessions) → binds_between xs ≡ true → SessionSteps xs d last → last.row ≢ Present
  bound_absent [] d last some session_steps = absurd (false≢true some)
  bound_absent (Binds ∷ xs) d last some session_steps = stays_away xs (binds d) last session_steps.1 (λ e. let no_way : ⊥ = cc in no_way)
  bound_absent (Counts ∷ xs) d last some session_steps = bound_absent xs (counts d) last some session_steps.1
  bound_absent (Ends ∷ xs) d last some session_steps = bound_absent xs (end_row d) last some session_steps.1

  pub bound_represents : (xs : List SessionStep) (d last : Sessions) → binds_between xs ≡ true → SessionSteps xs d last → IsBare account resource h → Represents last
  bound_represents xs d last some session_steps bare = bare_represents last bare (bound_absent xs d last some session_steps)
