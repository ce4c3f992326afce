-- The flags of a device's session, where the server stays and the device drifts.
use Rattle.std.proofs.Common.{◌≡◌, ◌≢◌, ◌&&◌, ℕ, Bool, true, false, List, [], ◌∷◌, Option, Some, None, refl, sym, ap, subst, ◌∙◌, inl, inr}
use Rattle.std.proofs.lemmas.Option.{same_Some}
use Rattle.std.specs.Prelude.{pos}
use Rattle.srv_state.specs.State.{ServerState}
use Rattle.sim_3_items.specs.Identities.{Identity, Login}
use Rattle.sim_3_items.specs.Servers.{IsRowRepresented, ServerRepresents}
use Rattle.sim_3_items.specs.Items.{stanzas_read}
use Rattle.sim_2_links.specs.Events.{SeenSession, row_number, seen, seen_as, seen_session}
use Rattle.sim_2_links.specs.Links.{LinkKept}
use Rattle.sim_2_links.specs.Views.{Row as LinkRow, View}
use Rattle.sim_2_events.specs.Lists.{IsDevice, IsRow}
use Rattle.sm_live.specs.Sessions.{Session, session_named}
use Rattle.sim_5_devices.proofs.Given.{stays_away}
use Rattle.sim_5_devices.specs.Labels.{Binds, Counts, Ends, SessionStep, SessionSteps, session_stepped}
use Rattle.sim_5_moves.proofs.Following.{not_present}
use Rattle.sim_3_items.specs.Served.{FlagsRepresent}
use Rattle.sim_1_applications.specs.Devices.{NoRow, Present, Sessions}
use Rattle.sim_1_applications.specs.Events.{counts, end_row}
use Rattle.xml_writer.specs.Items.{ItemOut}

-- a session is bound
abbrev binds_between : List SessionStep → Bool
binds_between [] = false
binds_between (Binds ∷ xs) = true
binds_between (Counts ∷ xs) = binds_between xs
binds_between (Ends ∷ xs) = binds_between xs

-- behind a binding the row isn't that of the client's session
bound_away : (xs : List SessionStep) (d last : Sessions) → binds_between xs ≡ true → SessionSteps xs d last → last.row ≢ Present
bound_away [] d last some by = absurd (let no_way : ⊥ = cc in no_way)
bound_away (Binds ∷ xs) d last some by = stays_away xs (session_stepped Binds d) last by.1 (λ e. cc)
bound_away (Counts ∷ xs) d last some by = bound_away xs (session_stepped Counts d) last some by.1
bound_away (Ends ∷ xs) d last some by = bound_away xs (session_stepped Ends d) last some by.1

module _ (who : Identity) (logins : ℕ → Login) (h : ServerState ItemOut) where
  -- the session that the server has of the device, where it has one, is not available and wants no copies
  abbrev IsBare : Type 0
  IsBare = (t : Session ItemOut) → session_named who.account who.resource h.sessions ≡ Some t → (t.shown.available ≡ false) × (t.shown.carbons ≡ false) × (t.shown.priority ≡ pos 0)

  abbrev Represents : Sessions → Type 0
  Represents d = FlagsRepresent who.account who.resource h d

  bare_represents : (d : Sessions) → IsBare → d.row ≢ Present → Represents d
  bare_represents d bare absent = λ some t found.
      let f = bare t found in
      let gone = not_present d.row absent in
      (f.0 ∙ sym (ap (λ b. b && d.now.available) gone), f.1 ∙ sym (ap (λ b. b && d.now.carbons) gone), f.2)

  none_represents : (d : Sessions) → Represents (end_row d)
  none_represents d = λ some t found. absurd (some refl)

  session_steps_show : (xs : List SessionStep) (d last : Sessions) → binds_between xs ≡ false → SessionSteps xs d last → Represents d → Represents last
  session_steps_show [] d last none by represents = subst Represents (sym by) represents
  session_steps_show (Binds ∷ xs) d last none by represents = absurd (let no_way : ⊥ = cc in no_way)
  session_steps_show (Counts ∷ xs) d last none by represents = session_steps_show xs (counts d) last none by.1 represents
  session_steps_show (Ends ∷ xs) d last none by represents = session_steps_show xs (end_row d) last none by.1 (none_represents d)

  -- the server has a session of a device that has a row
  has_row : (v : View ItemOut) (d : Sessions) (t : Session ItemOut) → ServerRepresents who logins h v → IsDevice stanzas_read (seen v) d → session_named who.account who.resource h.sessions ≡ Some t → d.row ≢ NoRow
  has_row v d t represents device there = by v.row (subst (IsRowRepresented v.row) there represents.row) device.row
    where
      by : (o : Option (LinkRow ItemOut)) → IsRowRepresented o (Some t) → IsRow (seen v) d.row (row_number o) → d.row ≢ NoRow
      by None shown is = absurd shown
      by (Some r) shown (s, at, inl (none, unread)) = λ e. let no_way : ⊥ = cc in no_way
      by (Some r) shown (s, at, inr (of, present)) = λ e. let no_way : ⊥ = cc in no_way

  -- a session of which the client hasn't read has no flags
  is_bare : (v : View ItemOut) (d : Sessions) → ServerRepresents who logins h v → LinkKept v → IsDevice stanzas_read (seen v) d → d.row ≢ Present
      → ((t : Session ItemOut) → session_named who.account who.resource h.sessions ≡ Some t → t.shown.priority ≡ pos 0) → IsBare
  is_bare v d represents kept device absent priority t there = by v.row refl (subst (IsRowRepresented v.row) there represents.row) device.row
    where
      uncounted : (r : LinkRow ItemOut) (s : SeenSession ItemOut) → v.row ≡ Some r → (seen v).sessions r.number ≡ Some s → s.epoch ≡ None → r.counted ≡ false
      uncounted r s is at none =
          let k = kept.row r is in
          let one : seen_session k.session ≡ s = same_Some (seen_session k.session) s (sym (ap seen_as k.is) ∙ at) in
          k.counted ∙ ap (λ (u : SeenSession ItemOut). u.counted) (one ∙ device.unread r.number s at none)

      by : (o : Option (LinkRow ItemOut)) → v.row ≡ o → IsRowRepresented o (Some t) → IsRow (seen v) d.row (row_number o) → (t.shown.available ≡ false) × (t.shown.carbons ≡ false) × (t.shown.priority ≡ pos 0)
      by None is shown row = absurd shown
      by (Some r) is shown (s, at, inl (none, unread)) =
          let quiet = shown.quiet (uncounted r s is at none) in
          (quiet.0, quiet.1, priority t there)
      by (Some r) is shown (s, at, inr (of, present)) = absurd (absent present)

  -- before the move, and behind it, where the device drifted to sessions with the row that it has in the end
  pub flags_session_step : (v next : View ItemOut) (d there end : Sessions) (xs : List SessionStep) → ServerRepresents who logins h v → ServerRepresents who logins h next → LinkKept next → IsDevice stanzas_read (seen v) d → IsDevice stanzas_read (seen next) end
      → SessionSteps xs d there → end.row ≡ there.row → FlagsRepresent who.account who.resource h d → FlagsRepresent who.account who.resource h there
  flags_session_step v next d there end xs before after kept old new session_steps same flags = by (binds_between xs) refl
    where
      by : (b : Bool) → binds_between xs ≡ b → FlagsRepresent who.account who.resource h there
      by false none = session_steps_show xs d there none session_steps flags
      by true some =
          let away = bound_away xs d there some session_steps in
          bare_represents there (is_bare next end after kept new (λ e. away (sym same ∙ e)) (λ t is. (flags (has_row v d t before old is) t is).2)) away
