-- The flags of a device's session behind a move without a label.
use Rattle.std.proofs.Common.{◌≡◌, ℕ, ◌&&◌, true, false, List, [], ◌∷◌, Option, None, Some, pos, refl, sym, ap, subst, ◌∙◌, inl, inr}
use Rattle.std.proofs.lemmas.Bool.{cases_Bool, false≢true}
use Rattle.std.proofs.lemmas.Option.{none-some, same_Some}
use Rattle.srv_state.specs.State.{ServerState}
use Rattle.sim_3_items.specs.Identities.{Identity, Login}
use Rattle.sim_3_items.specs.Servers.{IsRow as IsRowOf, IsRowRepresented, ServerRepresents}
use Rattle.sim_2_links.specs.Events.{SeenSession, row_number, seen, seen_as, seen_session}
use Rattle.sim_2_links.specs.Links.{LinkKept}
use Rattle.sim_2_links.specs.Views.{Row, View}
use Rattle.sim_2_events.specs.Lists.{IsDevice, IsRow, Stanzas, stage_of}
use Rattle.sm_live.specs.Sessions.{Session, session_named}
use Rattle.sim_5_moves.specs.Silent.{AreFlagsKept, DoFlagsGo}
use Rattle.sim_5_devices.specs.Labels.{Binds, Counts, Ends, SessionStep, SessionSteps}
use Rattle.sim_3_items.specs.Served.{FlagsRepresent}
use Rattle.sim_1_applications.specs.Devices.{Named, NoRow, Present, Row as DeviceRow, Sessions, Unread}
use Rattle.sim_1_applications.specs.Events.{binds, counts, end_row, is_present}
use Rattle.sim_5_moves.proofs.Following.{bound_absent, session_steps_show}
use Rattle.sim_5_moves.specs.WordsRunWords.{binds_between}
use Rattle.xml_writer.specs.Items.{ItemOut}
use Rattle.sim_4_links_follow.proofs.MomentRows.{no_session}

-- a session without a stage has no flags in the applications
abbrev pub IsNamedBare : Sessions → Type 0
IsNamedBare d = d.now.stage ≡ Named → (d.now.available ≡ false) × (d.now.carbons ≡ false)

pub bare_session_steps : (xs : List SessionStep) (d last : Sessions) → SessionSteps xs d last → IsNamedBare d → IsNamedBare last
bare_session_steps [] d last session_steps bare = subst IsNamedBare (sym session_steps) bare
bare_session_steps (Binds ∷ xs) d last session_steps bare = bare_session_steps xs (binds d) last session_steps.1 bare
bare_session_steps (Counts ∷ xs) d last session_steps bare = bare_session_steps xs (counts d) last session_steps.1 (λ named. absurd (let no_way : ⊥ = cc in no_way))
bare_session_steps (Ends ∷ xs) d last session_steps bare = bare_session_steps xs (end_row d) last session_steps.1 bare

pub no_row : (v : View ItemOut) (d : Sessions) (live : Option ℕ) → IsRow (seen v) d.row live → d.row ≡ NoRow → live ≡ None
no_row v d None is none = refl
no_row v d (Some p) (t, at, inl (unread, row)) none = absurd (let bad : Unread ≡ NoRow = sym row ∙ none in let no_way : ⊥ = cc in no_way)
no_row v d (Some p) (t, at, inr (present, row)) none = absurd (let bad : Present ≡ NoRow = sym row ∙ none in let no_way : ⊥ = cc in no_way)

pub none_live : (o : Option (Row ItemOut)) → row_number o ≡ None → o ≡ None
none_live None is = refl
none_live (Some r) is = absurd (none-some r.number (sym is))

-- a session is shown by the row that there is
pub record HasRow (o : Option (Row ItemOut)) (s : Session ItemOut) : Type 0 where
  pub row : Row ItemOut
  pub is : o ≡ Some row
  pub shown : IsRowOf row s

has_row : (o : Option (Row ItemOut)) (m : Option (Session ItemOut)) (s : Session ItemOut) → IsRowRepresented o m → m ≡ Some s → HasRow o s
has_row None None s shown found = absurd (none-some s found)
has_row None (Some t) s shown found = absurd shown
has_row (Some r) None s shown found = absurd shown
has_row (Some r) (Some t) s shown found = record { row = r; is = refl; shown = subst (IsRowOf r) (same_Some t s found) shown }

-- the session that is seen under its number is the row's
pub seen_counted : (u : View ItemOut) (row : Row ItemOut) → LinkKept u → u.row ≡ Some row → (t : SeenSession ItemOut) → (seen u).sessions row.number ≡ Some t → t.counted ≡ row.counted
seen_counted u row kept is t at =
    let k = kept.row row is in
    let same : seen_session k.session ≡ t = same_Some (seen_session k.session) t (sym (ap seen_as k.is) ∙ at) in
    ap (λ (x : SeenSession ItemOut). x.counted) (sym same) ∙ sym k.counted

module _ (r : Stanzas ItemOut) (who : Identity) (h next : ServerState ItemOut) (logins others : ℕ → Login) (v u : View ItemOut) (kept : LinkKept u)
    (before : ServerRepresents who logins h v) (following : ServerRepresents who others next u) (d last : Sessions) (was : IsDevice r (seen v) d) (is : IsDevice r (seen u) last)
    (xs : List SessionStep) (session_steps : SessionSteps xs d last) (bare : IsNamedBare d) (flags : FlagsRepresent who.account who.resource h d) (go : DoFlagsGo who.account who.resource h next) where
  -- where the applications have no session, the server has none
  nobody : d.row ≡ NoRow → session_named who.account who.resource h.sessions ≡ None
  nobody none =
      let live = no_row v d (row_number v.row) was.row none in
      no_session (session_named who.account who.resource h.sessions) (subst (λ o. IsRowRepresented o (session_named who.account who.resource h.sessions)) (none_live v.row live) before.row)

  module _ (s : Session ItemOut) (found : session_named who.account who.resource next.sessions ≡ Some s) where
    priority_is : s.shown.priority ≡ pos 0
    priority_is = elim go [
      | inl keeps ↦ by_row keeps d.row refl
      | inr new ↦ (new s found).2
    ]
      where
        by_row : AreFlagsKept who.account who.resource h next → (row : DeviceRow) → d.row ≡ row → s.shown.priority ≡ pos 0
        by_row keeps NoRow e = absurd (none-some s (sym (keeps.none (nobody e)) ∙ found))
        by_row keeps Unread e = (keeps.shown d flags (λ none. let bad : Unread ≡ NoRow = sym e ∙ none in let no_way : ⊥ = cc in no_way) s found).2
        by_row keeps Present e = (keeps.shown d flags (λ none. let bad : Present ≡ NoRow = sym e ∙ none in let no_way : ⊥ = cc in no_way) s found).2

    has : HasRow u.row s
    has = has_row u.row (session_named who.account who.resource next.sessions) s following.row found

    abbrev row : Row ItemOut
    row = has.row

    uncounted : row.counted ≡ false → (s.shown.available ≡ false) × (s.shown.carbons ≡ false)
    uncounted un = has.shown.quiet un

    abbrev Wanted : Type 0
    Wanted = (s.shown.available ≡ (is_present last.row && last.now.available)) × (s.shown.carbons ≡ (is_present last.row && last.now.carbons)) × (s.shown.priority ≡ pos 0)

    unread : row.counted ≡ false → last.row ≡ Unread → Wanted
    unread un at =
        let f = uncounted un in
        (f.0 ∙ sym (ap (λ q. is_present q && last.now.available) at), f.1 ∙ sym (ap (λ q. is_present q && last.now.carbons) at), priority_is)

    named : row.counted ≡ false → last.row ≡ Present → last.now.stage ≡ Named → Wanted
    named un at stage =
        let f = uncounted un in
        let none = bare_session_steps xs d last session_steps bare stage in
        (f.0 ∙ sym (ap (λ q. is_present q && last.now.available) at ∙ none.0), f.1 ∙ sym (ap (λ q. is_present q && last.now.carbons) at ∙ none.1), priority_is)

    counted : row.counted ≡ true → last.row ≡ Present → Wanted
    counted so at = elim go [
      | inl keeps ↦
          elim (cases_Bool (binds_between xs)) [
            | inl some ↦ absurd (bound_absent who.account who.resource next xs d last some session_steps at)
            | inr none ↦ session_steps_show who.account who.resource next xs d last none session_steps (keeps.shown d flags) (λ e. let bad : Present ≡ NoRow = sym at ∙ e in let no_way : ⊥ = cc in no_way) s found
          ]
      | inr new ↦ absurd (false≢true (sym (new s found).3 ∙ has.shown.counted ∙ so))
    ]

    by_row : IsRow (seen u) last.row (Some row.number) → Wanted
    by_row (t, at, inl (epoch, gone)) = unread (sym (seen_counted u row kept has.is t at) ∙ ap (λ (x : SeenSession ItemOut). x.counted) (is.unread row.number t at epoch)) gone
    by_row (t, at, inr (epoch, there)) = elim (cases_Bool row.counted) [
      | inl so ↦ counted so there
      | inr un ↦ named un there (sym (is.now row.number t at epoch).stage ∙ ap (λ b. stage_of b t.known) (seen_counted u row kept has.is t at ∙ un))
    ]

    wanted : Wanted
    wanted = by_row (subst (λ o. IsRow (seen u) last.row (row_number o)) has.is is.row)

  pub flags_after : FlagsRepresent who.account who.resource next last
  flags_after = λ some s found. wanted s found
