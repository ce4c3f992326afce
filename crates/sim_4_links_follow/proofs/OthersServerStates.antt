-- What the server has of a device stays, where connections and sessions change that are none of it.
use Rattle.std.proofs.Common.{◌≡◌, ◌≢◌, ℕ, ◌≤◌, ◌==◌, length, Bool, true, Option, Some, None, refl, sym, subst, ◌∙◌, ◌⊎◌, inl, inr}
use Rattle.std.proofs.lemmas.Bool.{cases_Bool, eqb-true}
use Rattle.std.specs.List.{filter}
use Rattle.sm_acks.specs.declared.end.TheConstants.{MOST_UNACKNOWLEDGED}
use Rattle.srv_state.specs.State.{ServerState, with_sessions, without_conn}
use Rattle.sim_3_items.specs.Identities.{Identity, Login}
use Rattle.sim_3_items.specs.Servers.{IsRow, IsRowRepresented, ServerRepresents}
use Rattle.sim_2_links.specs.Links.{IsPlaced, LinkKept}
use Rattle.sim_2_links.specs.Stages.{Conn}
use Rattle.sim_2_links.specs.Views.{Row, View}
use Rattle.sm_live.specs.Sessions.{Session, is_named, session_at, session_named, session_of, with_session}
use Rattle.sim_3_images.proofs.RuleKept.{Keeps, Sits, changes_one, named_one, of_left, of_was, rule_changed, rule_left, seat_is, seat_of, seat_was, named_stays, left_found, none_left}
use Rattle.sim_4_links_follow.proofs.OthersElsewhere.{apart_from}
use Rattle.sim_4_links_follow.proofs.ServerStatesLeft.{without_apart, without_sorted}
use Rattle.sim_4_links_follow.proofs.Removed.{seat_left}
use Rattle.xml_writer.specs.Items.{ItemOut}

-- what a change of a session leaves: it stays where it is, or is on no connection, or comes to a free one
pub record Carries (Free : ℕ → Type 0) (f : Session ItemOut → Session ItemOut) : Type 0 where
  pub number : (s : Session ItemOut) → (f s).shown.number ≡ s.shown.number
  pub account : (s : Session ItemOut) → (f s).shown.account ≡ s.shown.account
  pub resource : (s : Session ItemOut) → (f s).shown.resource ≡ s.shown.resource
  pub conn : (s : Session ItemOut) (j : ℕ) → (f s).shown.conn ≡ Some j → Free j ⊎ (s.shown.conn ≡ Some j)
  pub few : (s : Session ItemOut) → length s.waiting ≤ MOST_UNACKNOWLEDGED → length (f s).waiting ≤ MOST_UNACKNOWLEDGED

-- it is not the number of the device's session
abbrev pub IsNotOf : View ItemOut → ℕ → Type 0
IsNotOf u n = (r : Row ItemOut) → u.row ≡ Some r → r.number ≢ n

module _ (whom : Identity) (others : ℕ → Login) (h : ServerState ItemOut) (u : View ItemOut) (represents : ServerRepresents whom others h u) where
  -- the session that lives is that of the row
  shown_row : (t : Session ItemOut) → session_named whom.account whom.resource h.sessions ≡ Some t → (r : Row ItemOut) × (u.row ≡ Some r) × IsRow r t
  shown_row t named = go u.row refl (subst (IsRowRepresented u.row) named represents.row)
    where
      go : (o : Option (Row ItemOut)) → u.row ≡ o → IsRowRepresented o (Some t) → (r : Row ItemOut) × (u.row ≡ Some r) × IsRow r t
      go None is shown = absurd shown
      go (Some r) is shown = (r, is, shown)

  pub number_apart : (n : ℕ) (t : Session ItemOut) → IsNotOf u n → session_named whom.account whom.resource h.sessions ≡ Some t → t.shown.number ≢ n
  number_apart n t not_of named same = let r = shown_row t named in not_of r.0 r.1 (sym r.2.number ∙ same)

  pub conn_apart : (j : ℕ) (t : Session ItemOut) → LinkKept u → u.conns j ≡ None → session_named whom.account whom.resource h.sessions ≡ Some t → t.shown.conn ≢ Some j
  conn_apart j t kept none named on =
      let r = shown_row t named in
      let seat : r.0.on ≡ Some j = sym r.2.conn ∙ on in
      let placed = subst (IsPlaced u.conns r.0 (kept.row r.0 r.1).session) seat (kept.row r.0 r.1).placed in
      let there = placed.1 in
      let no_way : ⊥ = cc in no_way

  -- a connection is no more
  pub conn_stays : (k : ℕ) → u.conns k ≡ None → ServerRepresents whom others (without_conn k h) u
  conn_stays k none = record {
    served = record { domain = represents.served.domain; account = represents.served.account; found = represents.served.found; archive = represents.served.archive };
    server_state = record { sessions = represents.server_state.sessions; conns = without_sorted k h represents.server_state.conns };
    conns = λ j e there. without_apart k h represents.server_state.conns j (apart_from u k j e none there) ∙ represents.conns j e there;
    row = represents.row;
    seated = represents.seated;
    owned = represents.owned;
    free = represents.free;
  }

  -- some sessions are no more
  pub thinned_stays : (q : Session ItemOut → Bool) → ((t : Session ItemOut) → session_named whom.account whom.resource h.sessions ≡ Some t → q t ≡ true) → ServerRepresents whom others (with_sessions (filter q h.sessions) h) u
  thinned_stays q stays = record {
    served = record { domain = represents.served.domain; account = represents.served.account; found = represents.served.found; archive = represents.served.archive };
    server_state = record { sessions = rule_left q h.next h.sessions represents.server_state.sessions; conns = represents.server_state.conns };
    conns = represents.conns;
    row = subst (IsRowRepresented u.row) (sym (row_same (session_named whom.account whom.resource h.sessions) refl)) represents.row;
    seated = λ j e s there at.
        let old = seat_left q j h.next h.sessions s represents.server_state.sessions at in
        represents.seated j e s there (seat_of h.next j h.sessions s represents.server_state.sessions old.0 (seat_is s.shown.conn j old.1));
    owned = λ n t s there found. represents.owned n t s there (of_left q h.next 1 n h.sessions s represents.server_state.sessions.ascending found).0;
    free = represents.free;
  }
    where
      row_same : (o : Option (Session ItemOut)) → session_named whom.account whom.resource h.sessions ≡ o
          → session_named whom.account whom.resource (filter q h.sessions) ≡ session_named whom.account whom.resource h.sessions
      row_same None is = none_left (is_named whom.account whom.resource) q h.sessions is ∙ sym is
      row_same (Some t) is = left_found (is_named whom.account whom.resource) q h.sessions t is (stays t is) ∙ sym is

  -- one session is changed
  pub changed_stays : (n : ℕ) (Free : ℕ → Type 0) (f : Session ItemOut → Session ItemOut) → Carries Free f → ((j : ℕ) → Free j → (u.conns j ≡ None) × (session_at j h.sessions ≡ None)) → IsNotOf u n
      → ServerRepresents whom others (with_sessions (with_session n f h.sessions) h) u
  changed_stays n Free f carries free not_of = record {
    served = record { domain = represents.served.domain; account = represents.served.account; found = represents.served.found; archive = represents.served.archive };
    server_state = record { sessions = rule_changed h.next n Free f h.sessions represents.server_state.sessions keeps sits (λ s at. carries.few s (represents.server_state.sessions.few n s at)); conns = represents.server_state.conns };
    conns = represents.conns;
    row = subst (IsRowRepresented u.row) (sym (named_stays whom.account whom.resource n f h.sessions keeps (λ t is. elim (cases_Bool (t.shown.number == n)) [ inl same ↦ absurd (number_apart n t not_of is (eqb-true t.shown.number n same)) | inr other ↦ rw other refl ]))) represents.row;
    seated = λ j e s there at. seated j e s there (seat_was h.next n Free f h.sessions represents.server_state.sessions keeps sits j s at);
    owned = λ q t s there found.
        let old = of_was q n f h.sessions s keeps found in
        name old.0 s old.2 (represents.owned q t old.0 there old.1);
    free = represents.free;
  }
    where
      keeps : Keeps f
      keeps = record { number = carries.number; account = carries.account; resource = carries.resource }

      sits : Sits Free h.sessions f
      sits = record { conn = carries.conn; nobody = λ j is. (free j is).1 }

      name : (a s : Session ItemOut) → changes_one n f a ≡ s → is_named whom.account whom.resource a ≡ true → is_named whom.account whom.resource s ≡ true
      name a s same is =
          subst (λ (x : Session ItemOut). is_named whom.account whom.resource x ≡ true) same
          (named_one whom.account whom.resource n f a keeps ∙ is)

      seated : (j : ℕ) (e : Conn ItemOut) (s : Session ItemOut) → u.conns j ≡ Some e
          → (a : Session ItemOut) × (session_of a.shown.number h.sessions ≡ Some a) × (changes_one n f a ≡ s) × (((a.shown.number ≡ n) × Free j) ⊎ (session_at j h.sessions ≡ Some a)) → is_named whom.account whom.resource s ≡ true
      seated j e s there (a, here, same, inl new) = let none = (free j new.1).0 in absurd (let no_way : ⊥ = cc in no_way)
      seated j e s there (a, here, same, inr at) = name a s same (represents.seated j e a there at)
