-- The flags of a device's session behind a stanza.
use Rattle.std.proofs.Common.{◌≡◌, ℕ, ◌&&◌, false, Option, None, Some, pos, refl, sym, ap, subst, ◌∙◌, inl, inr}
use Rattle.std.proofs.lemmas.Option.{none-some, same_Some}
use Rattle.srv_state.specs.State.{ServerState}
use Rattle.sim_3_items.specs.Identities.{Identity, Login}
use Rattle.sim_3_items.specs.Servers.{IsRow as IsRowOf, IsRowRepresented, ServerRepresents}
use Rattle.sim_3_items.specs.Items.{stanzas_read}
use Rattle.sim_2_links.specs.Events.{SeenSession, row_number, seen}
use Rattle.sim_2_links.specs.Links.{LinkKept}
use Rattle.sim_2_links.specs.Views.{Row, View}
use Rattle.sim_2_events.specs.Lists.{IsDevice, IsRow}
use Rattle.sm_live.specs.Sessions.{Session, session_named}
use Rattle.sim_5_moves.proofs.QuietWorldsFlags.{no_row, none_live, seen_counted}
use Rattle.sim_5_moves.specs.Silent.{AreFlagsKept}
use Rattle.sim_5_moves.proofs.Interleaved.{IsAfter}
use Rattle.sim_3_items.specs.Served.{FlagsRepresent}
use Rattle.sim_1_applications.specs.Devices.{NoRow, Present, Row as DeviceRow, Sessions, Unread}
use Rattle.sim_1_applications.specs.Events.{is_present}
use Rattle.xml_writer.specs.Items.{ItemOut}
use Rattle.sim_4_links_follow.proofs.MomentRows.{no_session}

-- ---- where the applications have no session, the server has none

nobody : (who : Identity) (logins : ℕ → Login) (h : ServerState ItemOut) (v : View ItemOut) (d : Sessions) → ServerRepresents who logins h v → IsDevice stanzas_read (seen v) d → d.row ≡ NoRow → session_named who.account who.resource h.sessions ≡ None
nobody who logins h v d represents is none =
    let live = no_row v d (row_number v.row) is.row none in
    no_session (session_named who.account who.resource h.sessions) (subst (λ o. IsRowRepresented o (session_named who.account who.resource h.sessions)) (none_live v.row live) represents.row)

-- a session of a device that is left is one of priority 0
pub priority_kept : (who : Identity) (logins : ℕ → Login) (h next : ServerState ItemOut) (v : View ItemOut) (d : Sessions) → ServerRepresents who logins h v → IsDevice stanzas_read (seen v) d → AreFlagsKept who.account who.resource h next
    → FlagsRepresent who.account who.resource h d → (s : Session ItemOut) → session_named who.account who.resource next.sessions ≡ Some s → s.shown.priority ≡ pos 0
priority_kept who logins h next v d represents is keeps flags s found = by d.row refl
  where
    by : (row : DeviceRow) → d.row ≡ row → s.shown.priority ≡ pos 0
    by NoRow e = absurd (none-some s (sym (keeps.none (nobody who logins h v d represents is e)) ∙ found))
    by Unread e = (keeps.shown d flags (λ none. let bad : Unread ≡ NoRow = sym e ∙ none in let no_way : ⊥ = cc in no_way) s found).2
    by Present e = (keeps.shown d flags (λ none. let bad : Present ≡ NoRow = sym e ∙ none in let no_way : ⊥ = cc in no_way) s found).2

-- ---- flags

-- a session is shown by the row that there is
record HasRow (o : Option (Row ItemOut)) (s : Session ItemOut) : Type 0 where
  row : Row ItemOut
  is : o ≡ Some row
  shown : IsRowOf row s

has_row : (o : Option (Row ItemOut)) (m : Option (Session ItemOut)) (s : Session ItemOut) → IsRowRepresented o m → m ≡ Some s → HasRow o s
has_row None None s shown found = absurd (none-some s found)
has_row None (Some t) s shown found = absurd shown
has_row (Some r) None s shown found = absurd shown
has_row (Some r) (Some t) s shown found = record { row = r; is = refl; shown = subst (IsRowOf r) (same_Some t s found) shown }

-- The links and the device are as they are shown behind it; the flags are those of a device of which it has the present row.
module _ (who : Identity) (logins : ℕ → Login) (next : ServerState ItemOut) (u : View ItemOut) (kept : LinkKept u) (represents : ServerRepresents who logins next u) (last : Sessions) (is : IsDevice stanzas_read (seen u) last)
    (d : Sessions) (flags : FlagsRepresent who.account who.resource next d) (back : IsAfter d last) (priority : (s : Session ItemOut) → session_named who.account who.resource next.sessions ≡ Some s → s.shown.priority ≡ pos 0) where
  module _ (s : Session ItemOut) (found : session_named who.account who.resource next.sessions ≡ Some s) where
    has : HasRow u.row s
    has = has_row u.row (session_named who.account who.resource next.sessions) s represents.row found

    abbrev row : Row ItemOut
    row = has.row

    abbrev Wanted : Type 0
    Wanted = (s.shown.available ≡ (is_present last.row && last.now.available)) × (s.shown.carbons ≡ (is_present last.row && last.now.carbons)) × (s.shown.priority ≡ pos 0)

    unread : row.counted ≡ false → last.row ≡ Unread → Wanted
    unread un at =
        let f = has.shown.quiet un in
        (f.0 ∙ sym (ap (λ q. is_present q && last.now.available) at), f.1 ∙ sym (ap (λ q. is_present q && last.now.carbons) at), priority s found)

    present : last.row ≡ Present → Wanted
    present at =
        let was = back.row at in
        let same : d.row ≡ last.row = was ∙ sym at in
        let f = flags (λ none. let bad : Present ≡ NoRow = sym was ∙ none in let no_way : ⊥ = cc in no_way) s found in
        (f.0 ∙ (λ k. is_present (same k) && sym back.available k), f.1 ∙ (λ k. is_present (same k) && sym back.carbons k), f.2)

    by_row : IsRow (seen u) last.row (Some row.number) → Wanted
    by_row (t, at, inl (epoch, gone)) = unread (sym (seen_counted u row kept has.is t at) ∙ ap (λ (x : SeenSession ItemOut). x.counted) (is.unread row.number t at epoch)) gone
    by_row (t, at, inr (epoch, there)) = present there

    wanted : Wanted
    wanted = by_row (subst (λ o. IsRow (seen u) last.row (row_number o)) has.is is.row)

  pub flags_follow : FlagsRepresent who.account who.resource next last
  flags_follow = λ some s found. wanted s found
