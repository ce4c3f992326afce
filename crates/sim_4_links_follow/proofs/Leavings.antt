-- What the server has of a device, where one of its connections is no more.
use Rattle.std.proofs.Common.{◌≡◌, ℕ, Bool, true, Option, Some, None, refl, sym, ap, subst, ◌∙◌}
use Rattle.std.proofs.lemmas.Option.{same_Some}
use Rattle.std.specs.List.{filter}
use Rattle.srv_state.specs.State.{ServerState, conn_at, with_sessions, without_conn}
use Rattle.sim_3_items.specs.Identities.{Identity, Login}
use Rattle.sim_3_items.specs.Servers.{IsRowRepresented, ServerRepresents, conn_shown}
use Rattle.sim_2_links.proofs.Entries.{Entry, New, Old, entry}
use Rattle.sim_2_links.specs.Links.{IsPlaced, LinkKept}
use Rattle.sim_2_links.specs.Stages.{Conn}
use Rattle.sim_2_links.specs.Views.{Row, Table, View, session_on, with_at}
use Rattle.sim_2_links.specs.Views as links
use Rattle.sm_live.specs.Sessions.{Session, is_at, is_named, session_at, session_named, session_of}
use Rattle.sim_4_links_follow.proofs.ServerStatesLeft.{without_apart, without_here, without_sorted}
use Rattle.sim_4_links_follow.proofs.Removed.{seat_left}
use Rattle.sim_3_images.proofs.RuleKept.{found_is, found_none, found_some, numbered_here, of_left, one_named, rule_left, seat_is, seat_of}
use Rattle.sim_4_links_follow.proofs.Servings.{Known}
use Rattle.xml_writer.specs.Items.{ItemOut}

module _ (who : Identity) (logins : ℕ → Login) (h : ServerState ItemOut) (v : View ItemOut) (kept : LinkKept v) (represents : ServerRepresents who logins h v) (k : ℕ) (c : Conn ItemOut) (is : v.conns k ≡ Some c) where
  -- where the links have no session on the connection the server has none
  pub unseated : session_on c ≡ None → session_at k h.sessions ≡ None
  unseated off = found_none (is_at k) h.sessions no_one
    where
      placed : (r : Row ItemOut) → v.row ≡ Some r → r.on ≡ Some k → ⊥
      placed r row on =
          let there = subst (IsPlaced v.conns r (kept.row r row).session) on (kept.row r row).placed in
          let same : there.0 ≡ c = same_Some there.0 c (sym there.1 ∙ is) in
          let some : session_on c ≡ Some r.number = ap session_on (sym same) ∙ there.2 in
          let no_way : ⊥ = cc in no_way

      shown : (o : Option (Row ItemOut)) (t : Session ItemOut) → v.row ≡ o → t.shown.conn ≡ Some k → IsRowRepresented o (Some t) → ⊥
      shown None t row on it = it
      shown (Some r) t row on it = placed r row (sym it.conn ∙ on)

      no_one : (s : Session ItemOut) → session_at k h.sessions ≡ Some s → ⊥
      no_one s seat =
          let named = represents.seated k c s is seat in
          let some = found_some (is_at k) (is_named who.account who.resource) h.sessions s seat named in
          let there = numbered_here (is_at k) h.next 1 h.sessions s represents.server_state.sessions.ascending seat in
          let same : s ≡ some.0 = one_named who.account who.resource h.next h.sessions some.0 s represents.server_state.sessions some.1 there named in
          let on : some.0.shown.conn ≡ Some k = ap (λ (t : Session ItemOut). t.shown.conn) (sym same) ∙ seat_is s.shown.conn k (found_is (is_at k) h.sessions s seat) in
          shown v.row some.0 refl on (subst (IsRowRepresented v.row) some.1 represents.row)

  -- the connection is no more, and of the sessions these are left
  abbrev pub left_server_state : (Session ItemOut → Bool) → ServerState ItemOut
  left_server_state q = with_sessions (filter q h.sessions) (without_conn k h)

  pub left_represents : (q : Session ItemOut → Bool) (d : Conn ItemOut) (o : Option (Row ItemOut)) (t : Table (links.Session ItemOut)) → Known t v → conn_shown who (logins k) d ≡ None → IsRowRepresented o (session_named who.account who.resource (filter q h.sessions))
      → ServerRepresents who logins (left_server_state q) (record v { conns = with_at k d v.conns; row = o; sessions = t })
  left_represents q d o t known ended row = record {
    served = record { domain = represents.served.domain; account = represents.served.account; found = represents.served.found; archive = represents.served.archive };
    server_state = record { sessions = rule_left q h.next h.sessions represents.server_state.sessions; conns = without_sorted k h represents.server_state.conns };
    conns = λ j e there. shown j e (entry k d v.conns j e there);
    row = row;
    seated = λ j e s there seat. seated j e s (entry k d v.conns j e there) (seat_left q j h.next h.sessions s represents.server_state.sessions seat);
    owned = λ n u s there found. let old = known n u there in represents.owned n old.0 s old.1 (of_left q h.next 1 n h.sessions s represents.server_state.sessions.ascending found).0;
    free = represents.free;
  }
    where
      shown : (j : ℕ) (e : Conn ItemOut) → Entry k d v.conns j e → conn_at j (without_conn k h) ≡ conn_shown who (logins j) e
      shown j e (New same it) = subst (λ n. conn_at n (without_conn k h) ≡ conn_shown who (logins n) e) same (without_here k h represents.server_state.conns ∙ sym ended ∙ ap (conn_shown who (logins k)) it)
      shown j e (Old apart was) = without_apart k h represents.server_state.conns j apart ∙ represents.conns j e was

      was_on : (j : ℕ) (s : Session ItemOut) → session_of s.shown.number h.sessions ≡ Some s → is_at j s ≡ true → session_at j h.sessions ≡ Some s
      was_on j s there on = seat_of h.next j h.sessions s represents.server_state.sessions there (seat_is s.shown.conn j on)

      seated : (j : ℕ) (e : Conn ItemOut) (s : Session ItemOut) → Entry k d v.conns j e → (session_of s.shown.number h.sessions ≡ Some s) × (is_at j s ≡ true) × (q s ≡ true) → is_named who.account who.resource s ≡ true
      seated j e s (New same it) seat = represents.seated k c s is (was_on k s seat.0 (subst (λ n. is_at n s ≡ true) (sym same) seat.1))
      seated j e s (Old apart was) seat = represents.seated j e s was (was_on j s seat.0 seat.1)
