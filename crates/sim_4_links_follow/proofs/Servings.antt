-- What the server has of a device, where one connection of it comes to another phase, or its session is changed.
use Rattle.std.proofs.Common.{◌≡◌, ℕ, ◌≤◌, true, Option, Some, None, length, refl, sym, ap, subst, ◌∙◌}
use Rattle.std.specs.Option.{option_map}
use Rattle.sm_acks.specs.declared.end.TheConstants.{MOST_UNACKNOWLEDGED}
use Rattle.srv_state.specs.State.{ServerState, conn_at, with_conn, with_sessions}
use Rattle.srv_state.specs.declared.connection.Connection.{Connection}
use Rattle.sim_3_items.specs.Identities.{Identity, Login}
use Rattle.sim_3_items.specs.Servers.{IsRow, IsRowRepresented, ServerRepresents, conn_shown}
use Rattle.sim_2_links.proofs.Entries.{Entry, New, Old, entry, was}
use Rattle.sim_2_links.specs.Stages.{Conn}
use Rattle.sim_2_links.specs.Views.{Row, Table, View, alter, with_at}
use Rattle.sim_2_links.specs.Views as links
use Rattle.sm_live.specs.Sessions.{Session, is_named, session_at, session_named, session_of, with_session}
use Rattle.sim_4_links_follow.proofs.Found.{Keeps, at_was, of_was, change_here, keeps_one, named_changed, rule_changed}
use Rattle.sim_3_images.proofs.RuleKept.{changes_one, numbered_here}
use Rattle.sim_4_links_follow.proofs.WireStepsServerStates.{server_state_apart, server_state_here, server_state_sorted}
use Rattle.xml_writer.specs.Items.{ItemOut}

-- these are sessions that the device had
abbrev pub Known : Table (links.Session ItemOut) → View ItemOut → Type 0
Known t v = (q : ℕ) (s : links.Session ItemOut) → t q ≡ Some s → (old : links.Session ItemOut) × (v.sessions q ≡ Some old)

pub known_same : (v : View ItemOut) → Known v.sessions v
known_same v q s is = (s, is)

pub known_altered : (g : ℕ → links.Session ItemOut → links.Session ItemOut) (v : View ItemOut) → Known (alter g v.sessions) v
known_altered g v q s is = let old = was g v.sessions q s is in (old.0, old.1)

-- the live session of a row
pub record IsLive (who : Identity) (h : ServerState ItemOut) (r : Row ItemOut) : Type 0 where
  pub session : Session ItemOut
  pub named : session_named who.account who.resource h.sessions ≡ Some session
  pub row : IsRow r session

live_in : (who : Identity) (h : ServerState ItemOut) (o : Option (Session ItemOut)) (r : Row ItemOut) → session_named who.account who.resource h.sessions ≡ o → IsRowRepresented (Some r) o → IsLive who h r
live_in who h None r is shown = absurd shown
live_in who h (Some s) r is shown = record { session = s; named = is; row = shown }

pub live_of : (who : Identity) (logins : ℕ → Login) (h : ServerState ItemOut) (v : View ItemOut) (r : Row ItemOut) → ServerRepresents who logins h v → v.row ≡ Some r → IsLive who h r
live_of who logins h v r represents is = live_in who h (session_named who.account who.resource h.sessions) r refl (subst (λ o. IsRowRepresented o (session_named who.account who.resource h.sessions)) is represents.row)

module _ (who : Identity) (logins : ℕ → Login) (h : ServerState ItemOut) (v : View ItemOut) (represents : ServerRepresents who logins h v) (k : ℕ) (c : Conn ItemOut) (is : v.conns k ≡ Some c) where
  seated_after : (d : Conn ItemOut) (j : ℕ) (e : Conn ItemOut) (s : Session ItemOut) → Entry k d v.conns j e → session_at j h.sessions ≡ Some s → is_named who.account who.resource s ≡ true
  seated_after d j e s (New same it) seat = represents.seated k c s is (subst (λ n. session_at n h.sessions ≡ Some s) (sym same) seat)
  seated_after d j e s (Old apart before) seat = represents.seated j e s before seat

  -- the connection comes to another phase
  pub phase_represents : (f : Connection → Connection) (conn : Connection) (d : Conn ItemOut) → conn_at k h ≡ Some conn → conn_shown who (logins k) d ≡ Some (f conn)
      → ServerRepresents who logins (with_conn k f h) (record v { conns = with_at k d v.conns })
  phase_represents f conn d at comes = record {
    served = record { domain = represents.served.domain; account = represents.served.account; found = represents.served.found; archive = represents.served.archive };
    server_state = record { sessions = represents.server_state.sessions; conns = server_state_sorted k f h conn at represents.server_state.conns };
    conns = λ j e there. shown j e (entry k d v.conns j e there);
    row = represents.row;
    seated = λ j e s there seat. seated_after d j e s (entry k d v.conns j e there) seat;
    owned = represents.owned;
    free = represents.free;
  }
    where
      shown : (j : ℕ) (e : Conn ItemOut) → Entry k d v.conns j e → conn_at j (with_conn k f h) ≡ conn_shown who (logins j) e
      shown j e (New same it) = subst (λ n. conn_at n (with_conn k f h) ≡ conn_shown who (logins n) e) same (server_state_here k f h conn at ∙ sym comes ∙ ap (conn_shown who (logins k)) it)
      shown j e (Old apart before) = server_state_apart k f h conn at j apart ∙ represents.conns j e before

  -- it stays in its phase, and this is then the row
  pub row_represents : (d : Conn ItemOut) (o : Option (Row ItemOut)) (t : Table (links.Session ItemOut)) → Known t v → conn_shown who (logins k) d ≡ conn_shown who (logins k) c → IsRowRepresented o (session_named who.account who.resource h.sessions)
      → ServerRepresents who logins h (record v { conns = with_at k d v.conns; row = o; sessions = t })
  row_represents d o t known same row = record {
    served = represents.served;
    server_state = represents.server_state;
    conns = λ j e there. shown j e (entry k d v.conns j e there);
    row = row;
    seated = λ j e s there seat. seated_after d j e s (entry k d v.conns j e there) seat;
    owned = λ q u s there found. let old = known q u there in represents.owned q old.0 s old.1 found;
    free = represents.free;
  }
    where
      shown : (j : ℕ) (e : Conn ItemOut) → Entry k d v.conns j e → conn_at j h ≡ conn_shown who (logins j) e
      shown j e (New at it) = subst (λ n. conn_at n h ≡ conn_shown who (logins n) e) at (represents.conns k c is ∙ sym same ∙ ap (conn_shown who (logins k)) it)
      shown j e (Old apart before) = represents.conns j e before

-- the session of the device is changed
pub session_represents : (who : Identity) (logins : ℕ → Login) (h : ServerState ItemOut) (v : View ItemOut) (r changed : Row ItemOut) (f : Session ItemOut → Session ItemOut) (t : Table (links.Session ItemOut))
    → Known t v → ServerRepresents who logins h v → v.row ≡ Some r → Keeps f → ((s : Session ItemOut) → IsRow r s → IsRow changed (f s)) → ((s : Session ItemOut) → IsRow r s → length (f s).waiting ≤ MOST_UNACKNOWLEDGED)
    → ServerRepresents who logins (with_sessions (with_session r.number f h.sessions) h) (record v { row = Some changed; sessions = t })
session_represents who logins h v r changed f t known represents is kept becomes few = record {
  served = record { domain = represents.served.domain; account = represents.served.account; found = represents.served.found; archive = represents.served.archive };
  server_state = record { sessions = rule_changed h.next r.number f h.sessions kept few_in represents.server_state.sessions; conns = represents.server_state.conns };
  conns = represents.conns;
  row = subst (IsRowRepresented (Some changed)) (sym found) (becomes live.session live.row);
  seated = λ j e s there seat. seated j e s there (at_was j r.number f h.sessions s kept seat);
  owned = λ q u s there found. owned q s (known q u there) (of_was q r.number f h.sessions s kept found);
  free = represents.free;
}
  where
    live : IsLive who h r
    live = live_of who logins h v r represents is

    found : session_named who.account who.resource (with_session r.number f h.sessions) ≡ Some (f live.session)
    found = named_changed who.account who.resource r.number f h.sessions kept ∙ ap (option_map (changes_one r.number f)) live.named ∙ ap Some (change_here r.number f live.session live.row.number)

    few_in : (s : Session ItemOut) → session_of r.number h.sessions ≡ Some s → length (f s).waiting ≤ MOST_UNACKNOWLEDGED
    few_in s at =
        let mine : session_of r.number h.sessions ≡ Some live.session = subst (λ n. session_of n h.sessions ≡ Some live.session) live.row.number
        (numbered_here (is_named who.account who.resource) h.next 1 h.sessions live.session represents.server_state.sessions.ascending live.named) in
        subst (λ u. length (f u).waiting ≤ MOST_UNACKNOWLEDGED) (let same : live.session ≡ s = cc in same) (few live.session live.row)

    named_so : (s u : Session ItemOut) → changes_one r.number f s ≡ u → is_named who.account who.resource s ≡ true → is_named who.account who.resource u ≡ true
    named_so s u same named =
        let all = keeps_one r.number f kept in
        let a : u.shown.account ≡ s.shown.account = ap (λ (x : Session ItemOut). x.shown.account) (sym same) ∙ all.account s in
        let b : u.shown.resource ≡ s.shown.resource = ap (λ (x : Session ItemOut). x.shown.resource) (sym same) ∙ all.resource s in
        rw (a, b) named

    seated : (j : ℕ) (e : Conn ItemOut) (s : Session ItemOut) → v.conns j ≡ Some e → (u : Session ItemOut) × (session_at j h.sessions ≡ Some u) × (changes_one r.number f u ≡ s) → is_named who.account who.resource s ≡ true
    seated j e s there before = named_so before.0 s before.2 (represents.seated j e before.0 there before.1)

    owned : (q : ℕ) (s : Session ItemOut) → (old : links.Session ItemOut) × (v.sessions q ≡ Some old) → (u : Session ItemOut) × (session_of q h.sessions ≡ Some u) × (changes_one r.number f u ≡ s) → is_named who.account who.resource s ≡ true
    owned q s old then_so = named_so then_so.0 s then_so.2 (represents.owned q old.0 then_so.0 old.1 then_so.1)
