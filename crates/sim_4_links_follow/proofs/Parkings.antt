-- A session of the device leaves its connection, which is no more.
use Rattle.std.proofs.Common.{◌≡◌, ℕ, ◌≤◌, true, List, Some, None, length, refl, sym, ap, subst, ◌∙◌, ◌⊎◌, inl, inr}
use Rattle.std.specs.Option.{option_map}
use Rattle.sm_acks.specs.declared.end.TheConstants.{MOST_UNACKNOWLEDGED}
use Rattle.srv_state.specs.State.{ServerState, conn_at, with_sessions, without_conn}
use Rattle.sim_3_items.specs.Identities.{Identity, Login}
use Rattle.sim_3_items.specs.Servers.{IsRow, IsRowRepresented, ServerRepresents, conn_shown}
use Rattle.sim_2_links.proofs.Entries.{Entry, New, Old, entry}
use Rattle.sim_2_links.specs.Stages.{Conn}
use Rattle.sim_2_links.specs.Views.{Row, Table, View, with_at}
use Rattle.sim_2_links.specs.Views as links
use Rattle.sm_live.specs.Rule.{IsRule}
use Rattle.sm_live.specs.Sessions.{Session, is_named, parked, session_at, session_named, session_of, with_session}
use Rattle.sim_4_links_follow.proofs.ServerStatesLeft.{without_apart, without_here, without_sorted}
use Rattle.sim_3_images.proofs.RuleKept.{Keeps, changes_one, named_changed, named_one, of_was, rule_changed, seat_was, stays}
use Rattle.sim_4_links_follow.proofs.Found.{change_here}
use Rattle.sim_4_links_follow.proofs.Servings.{Known}
use Rattle.xml_writer.specs.Items.{ItemOut}

-- ---- what such a change leaves

pub record Leaves (f : Session ItemOut → Session ItemOut) : Type 0 where
  pub number : (s : Session ItemOut) → (f s).shown.number ≡ s.shown.number
  pub account : (s : Session ItemOut) → (f s).shown.account ≡ s.shown.account
  pub resource : (s : Session ItemOut) → (f s).shown.resource ≡ s.shown.resource
  pub conn : (s : Session ItemOut) → (f s).shown.conn ≡ None
  pub waiting : (s : Session ItemOut) → (f s).waiting ≡ s.waiting
  pub row : (r : Row ItemOut) (s : Session ItemOut) → IsRow r s → IsRow (record r { on = None }) (f s)

off_row : (r : Row ItemOut) (s t : Session ItemOut) → t ≡ record s { shown = record s.shown { conn = None; parked_at = t.shown.parked_at } } → IsRow r s → IsRow (record r { on = None }) t
off_row r s t same is = subst (IsRow (record r { on = None })) (sym same) (record {
  number = is.number;
  conn = refl;
  counted = is.counted;
  resumable = is.resumable;
  acked = is.acked;
  handled = is.handled;
  waiting = is.waiting;
  quiet = is.quiet;
  for_client = is.for_client;
})

-- it is parked at a moment
pub parked_leaves : (now : ℕ) → Leaves (parked now)
parked_leaves now = record { number = λ s. refl; account = λ s. refl; resource = λ s. refl; conn = λ s. refl; waiting = λ s. refl; row = λ r s is. off_row r s (parked now s) refl is }

-- or it is on no connection, and nothing else
abbrev pub off : Session ItemOut → Session ItemOut
off s = record s { shown = record s.shown { conn = None } }

pub off_leaves : Leaves off
off_leaves = record { number = λ s. refl; account = λ s. refl; resource = λ s. refl; conn = λ s. refl; waiting = λ s. refl; row = λ r s is. off_row r s (off s) refl is }

-- ---- sessions of which one leaves

module _ (n : ℕ) (f : Session ItemOut → Session ItemOut) (leaves : Leaves f) where
  keeps : Keeps f
  keeps = record { number = leaves.number; account = leaves.account; resource = leaves.resource }

  still_on : (s : Session ItemOut) (j : ℕ) → (f s).shown.conn ≡ Some j → s.shown.conn ≡ Some j
  still_on s j is = let none = leaves.conn s in absurd (let no_way : ⊥ = cc in no_way)

  goes_rule : (next : ℕ) (ss : List (Session ItemOut)) → IsRule ss next → IsRule (with_session n f ss) next
  goes_rule next ss rule = rule_changed next n (λ j. ⊥) f ss rule keeps (stays ss f still_on) (λ s at. subst (λ z. length z ≤ MOST_UNACKNOWLEDGED) (sym (leaves.waiting s)) (rule.few n s at))

  -- ---- the server's part

  module _ (who : Identity) (logins : ℕ → Login) (h : ServerState ItemOut) (v : View ItemOut) (represents : ServerRepresents who logins h v) (k : ℕ) (c : Conn ItemOut) (is : v.conns k ≡ Some c) (row : Row ItemOut) (s : Session ItemOut)
      (named : session_named who.account who.resource h.sessions ≡ Some s) (number : s.shown.number ≡ n) (its : IsRow row s) where
    abbrev pub off_server_state : ServerState ItemOut
    off_server_state = with_sessions (with_session n f h.sessions) (without_conn k h)

    pub off_named : session_named who.account who.resource (with_session n f h.sessions) ≡ Some (f s)
    off_named = named_changed who.account who.resource n f h.sessions keeps ∙ ap (option_map (changes_one n f)) named ∙ ap Some (change_here n f s number)

    pub off_represents : (d : Conn ItemOut) (t : Table (links.Session ItemOut)) → Known t v → conn_shown who (logins k) d ≡ None → ServerRepresents who logins off_server_state (record v { conns = with_at k d v.conns; row = Some (record row { on = None }); sessions = t })
    off_represents d t known ended = record {
      served = record { domain = represents.served.domain; account = represents.served.account; found = represents.served.found; archive = represents.served.archive };
      server_state = record { sessions = goes_rule h.next h.sessions represents.server_state.sessions; conns = without_sorted k h represents.server_state.conns };
      conns = λ j e at. shown j e (entry k d v.conns j e at);
      row = subst (IsRowRepresented (Some (record row { on = None }))) (sym off_named) (leaves.row row s its);
      seated = λ j e u at on_it. seated j e u (entry k d v.conns j e at) (was_on j u (seat_was h.next n (λ i. ⊥) f h.sessions represents.server_state.sessions keeps (stays h.sessions f still_on) j u on_it));
      owned = λ q u x there at. let old = known q u there in owned x q old.0 old.1 (of_was q n f h.sessions x keeps at);
      free = represents.free;
    }
      where
        shown : (j : ℕ) (e : Conn ItemOut) → Entry k d v.conns j e → conn_at j (without_conn k h) ≡ conn_shown who (logins j) e
        shown j e (New same it) = subst (λ m. conn_at m (without_conn k h) ≡ conn_shown who (logins m) e) same (without_here k h represents.server_state.conns ∙ sym ended ∙ ap (conn_shown who (logins k)) it)
        shown j e (Old apart was) = without_apart k h represents.server_state.conns j apart ∙ represents.conns j e was

        was_on : (j : ℕ) (u : Session ItemOut) → (x : Session ItemOut) × (session_of x.shown.number h.sessions ≡ Some x) × (changes_one n f x ≡ u) × (((x.shown.number ≡ n) × ⊥) ⊎ (session_at j h.sessions ≡ Some x))
            → (x : Session ItemOut) × (session_at j h.sessions ≡ Some x) × (changes_one n f x ≡ u)
        was_on j u (x, here, same, inl none) = absurd none.1
        was_on j u (x, here, same, inr there) = (x, there, same)

        name : (x u : Session ItemOut) → changes_one n f x ≡ u → is_named who.account who.resource x ≡ true → is_named who.account who.resource u ≡ true
        name x u same is_so = subst (λ y. is_named who.account who.resource y ≡ true) same (named_one who.account who.resource n f x keeps ∙ is_so)

        owned : (u : Session ItemOut) (q : ℕ) (y : links.Session ItemOut) → v.sessions q ≡ Some y → (x : Session ItemOut) × (session_of q h.sessions ≡ Some x) × (changes_one n f x ≡ u) → is_named who.account who.resource u ≡ true
        owned u q y there old = name old.0 u old.2 (represents.owned q y old.0 there old.1)

        seated : (j : ℕ) (e : Conn ItemOut) (u : Session ItemOut) → Entry k d v.conns j e → (x : Session ItemOut) × (session_at j h.sessions ≡ Some x) × (changes_one n f x ≡ u) → is_named who.account who.resource u ≡ true
        seated j e u (New same it) was = name was.0 u was.2 (represents.seated k c was.0 is (subst (λ m. session_at m h.sessions ≡ Some was.0) (sym same) was.1))
        seated j e u (Old apart at) was = name was.0 u was.2 (represents.seated j e was.0 at was.1)
