-- What the server gives a device as it handles a stanza is what its outputs tell, or what joined the queue of a parked session.
use Rattle.std.proofs.Common.{◌≡◌, ℕ, List, [], ◌++◌, Option, Some, None, drop, length, refl, sym, ap, subst, ◌∙◌}
use Rattle.std.proofs.Math.Seq.{drop-append_seam}
use Rattle.sim_2_links.specs.Views.{Row, View}
use Rattle.sim_3_images.specs.Puts.{given_by, given_to, is_put_as_stanza, joined, session_by, session_for}
use Rattle.sim_3_items.specs.Identities.{Identity, Login, own_account}
use Rattle.sim_3_items.specs.Servers.{IsRow, IsRowRepresented, ServerRepresents}
use Rattle.sim_4_links_follow.specs.Given.{HasJoined, IsTold, IsToldOn}
use Rattle.sm_live.specs.Sessions.{Session, session_named}
use Rattle.srv_state.specs.State.{ServerState, Step}
use Rattle.xml_writer.specs.Items.{ItemOut}

-- the session that the server has of a device is that of the account and the resource of its client
pub session_is : (who : Identity) (logins : ℕ → Login) (h : ServerState ItemOut) (v : View ItemOut) → ServerRepresents who logins h v → session_for (own_account who) h ≡ session_named who.account who.resource h.sessions
session_is who logins h v represents = ap (λ o. session_by o who.resource h) represents.served.found

module _ (who : Identity) (logins : ℕ → Login) (h : ServerState ItemOut) (s : Step ItemOut) (v next : View ItemOut) (given : List ItemOut) (before : ServerRepresents who logins h v) (behind : ServerRepresents who logins s.server_state next)
    (none : v.row ≡ None → given ≡ []) (ended : (r : Row ItemOut) → v.row ≡ Some r → r.on ≡ None → next.row ≡ None → given ≡ []) where
  -- it is parked, and lives on or ends
  parked : (r : Row ItemOut) (t : Session ItemOut) → v.row ≡ Some r → r.on ≡ None → IsRow r t → HasJoined r given next.row → given ≡ joined t (session_for (own_account who) s.server_state)
  parked r t is off shown has_joined = go next.row (session_named who.account who.resource s.server_state.sessions) refl behind.row has_joined ∙ ap (joined t) (sym (session_is who logins s.server_state next behind))
    where
      go : (q : Option (Row ItemOut)) (u : Option (Session ItemOut)) → next.row ≡ q → IsRowRepresented q u → HasJoined r given q → given ≡ joined t u
      go None None gone here so = ended r is off gone
      go None (Some u) gone here so = absurd here
      go (Some q) None lives here so = absurd here
      go (Some q) (Some u) lives here so =
          sym (ap (λ l. drop (length t.waiting) l) (here.waiting ∙ so) ∙ ap (λ l. drop (length l) (r.queue ++ given)) shown.waiting ∙ drop-append_seam r.queue given)

  of_session : (r : Row ItemOut) (t : Session ItemOut) → v.row ≡ Some r → IsRow r t → (o : Option ℕ) → r.on ≡ o → IsToldOn r o s.outs given next.row → given ≡ given_by is_put_as_stanza (own_account who) t o s
  of_session r t is shown (Some k) on told = told
  of_session r t is shown None off told = parked r t is off shown told

  pub as_told : IsTold v.row s.outs given next.row → given ≡ given_to is_put_as_stanza (own_account who) (session_for (own_account who) h) s
  as_told told =
      go v.row (session_named who.account who.resource h.sessions) refl before.row told ∙ ap (λ o. given_to is_put_as_stanza (own_account who) o s) (sym (session_is who logins h v before))
    where
      go : (row : Option (Row ItemOut)) (found : Option (Session ItemOut)) → v.row ≡ row → IsRowRepresented row found → IsTold row s.outs given next.row → given ≡ given_to is_put_as_stanza (own_account who) found s
      go None None is shown so = none is
      go None (Some t) is shown so = absurd shown
      go (Some r) None is shown so = absurd shown
      go (Some r) (Some t) is shown so = subst (λ o. given ≡ given_by is_put_as_stanza (own_account who) t o s) (sym shown.conn) (of_session r t is shown r.on refl so)
