-- What the server has of a device, where sessions are changed or end that aren't its own, or where its own ends.
use Rattle.std.proofs.Common.{◌≡◌, ◌≢◌, ℕ, ◌≤◌, ◌==◌, Bool, true, false, not, Option, Some, None, length, refl, sym, ap, subst, ◌∙◌, inl, inr}
use Rattle.std.proofs.lemmas.Bool.{cases_Bool, eqb-true}
use Rattle.std.specs.List.{filter}
use Rattle.std.specs.Option.{option_map}
use Rattle.sm_acks.specs.declared.end.TheConstants.{MOST_UNACKNOWLEDGED}
use Rattle.srv_state.specs.State.{ServerState, with_sessions, without_conn}
use Rattle.sim_3_items.specs.Identities.{Identity, Login}
use Rattle.sim_3_items.specs.Servers.{IsRow, IsRowRepresented, ServerRepresents}
use Rattle.sim_2_links.specs.Links.{IsPlaced, LinkKept}
use Rattle.sim_2_links.specs.Stages.{Conn}
use Rattle.sim_2_links.specs.Views.{Row, Table, View}
use Rattle.sim_2_links.specs.Views as links
use Rattle.sm_live.specs.Sessions.{Session, is_at, is_named, is_numbered, session_named, session_of, with_session}
use Rattle.sim_3_images.proofs.RuleKept.{changes_one, found_is, found_some, left_found, none_left, of_left, one_named, rule_left, seat_is, seat_of}
use Rattle.sim_4_links_follow.proofs.ServerStatesLeft.{without_apart, without_sorted}
use Rattle.sim_4_links_follow.proofs.Removed.{seat_left}
use Rattle.sim_4_links_follow.proofs.GivenParts.{IsCountedAt, IsNotOf}
use Rattle.sim_4_links_follow.proofs.Found.{Keeps, at_was, keeps_one, named_changed, of_was, rule_changed}
use Rattle.sim_4_links_follow.proofs.Servings.{Known}
use Rattle.xml_writer.specs.Items.{ItemOut}

-- a change that leaves a session that is counted as its row says
abbrev pub LeavesRow : (Session ItemOut → Session ItemOut) → Type 0
LeavesRow f = (r : Row ItemOut) (s : Session ItemOut) → r.counted ≡ true → IsRow r s → IsRow r (f s)

module _ (who : Identity) (logins : ℕ → Login) (h : ServerState ItemOut) (v : View ItemOut) (represents : ServerRepresents who logins h v) where
  abbrev mine : Option (Session ItemOut)
  mine = session_named who.account who.resource h.sessions

  -- ---- whose sessions these are

  row_has : (o : Option (Row ItemOut)) (s : Session ItemOut) (n : ℕ) → v.row ≡ o → IsNotOf v.row n → s.shown.number ≡ n → IsRowRepresented o (Some s) → ⊥
  row_has None s n is apart number shown = shown
  row_has (Some r) s n is apart number shown = apart r is (sym shown.number ∙ number)

  pub not_named : (n : ℕ) (s : Session ItemOut) → IsNotOf v.row n → session_of n h.sessions ≡ Some s → is_named who.account who.resource s ≡ false
  not_named n s apart found =
      elim (cases_Bool (is_named who.account who.resource s)) [
        | inl named ↦
            let some = found_some (is_numbered n) (is_named who.account who.resource) h.sessions s found named in
            let number : s.shown.number ≡ n = eqb-true s.shown.number n (found_is (is_numbered n) h.sessions s found) in
            let there : session_of s.shown.number h.sessions ≡ Some s = subst (λ m. session_of m h.sessions ≡ Some s) (sym number) found in
            let same : s ≡ some.0 = one_named who.account who.resource h.next h.sessions some.0 s represents.server_state.sessions some.1 there named in
            absurd (row_has v.row some.0 n refl apart (subst (λ (t : Session ItemOut). t.shown.number ≡ n) same number) (subst (IsRowRepresented v.row) some.1 represents.row))
        | inr other ↦ other
      ]

  -- the connection of such a one is none of the device's
  pub not_its_conn : (n j : ℕ) (s : Session ItemOut) → IsNotOf v.row n → session_of n h.sessions ≡ Some s → s.shown.conn ≡ Some j → v.conns j ≡ None
  not_its_conn n j s apart found on = go (v.conns j) refl
    where
      number : s.shown.number ≡ n
      number = eqb-true s.shown.number n (found_is (is_numbered n) h.sessions s found)

      go : (o : Option (Conn ItemOut)) → v.conns j ≡ o → v.conns j ≡ None
      go None is = is
      go (Some c) is =
          let seat = seat_of h.next j h.sessions s represents.server_state.sessions (subst (λ m. session_of m h.sessions ≡ Some s) (sym number) found) on in
          let named = represents.seated j c s is seat in
          let other = not_named n s apart found in
          absurd (let no_way : ⊥ = cc in no_way)

  -- ---- one session is changed

  pub session_kept : (n : ℕ) (f : Session ItemOut → Session ItemOut) → Keeps f → ((s : Session ItemOut) → session_of n h.sessions ≡ Some s → length (f s).waiting ≤ MOST_UNACKNOWLEDGED)
      → IsRowRepresented v.row (option_map (changes_one n f) (session_named who.account who.resource h.sessions)) → ServerRepresents who logins (with_sessions (with_session n f h.sessions) h) v
  session_kept n f keeps few row = record {
    served = record { domain = represents.served.domain; account = represents.served.account; found = represents.served.found; archive = represents.served.archive };
    server_state = record { sessions = rule_changed h.next n f h.sessions keeps few represents.server_state.sessions; conns = represents.server_state.conns };
    conns = represents.conns;
    row = subst (IsRowRepresented v.row) (sym (named_changed who.account who.resource n f h.sessions keeps)) row;
    seated = λ j e t there at. let old = at_was j n f h.sessions t keeps at in name old.0 t old.2 (represents.seated j e old.0 there old.1);
    owned = λ q u t there found. let old = of_was q n f h.sessions t keeps found in name old.0 t old.2 (represents.owned q u old.0 there old.1);
    free = represents.free;
  }
    where
      name : (t u : Session ItemOut) → changes_one n f t ≡ u → is_named who.account who.resource t ≡ true → is_named who.account who.resource u ≡ true
      name t u same is =
          let all = keeps_one n f keeps in
          let a : u.shown.account ≡ t.shown.account = ap (λ (x : Session ItemOut). x.shown.account) (sym same) ∙ all.account t in
          let b : u.shown.resource ≡ t.shown.resource = ap (λ (x : Session ItemOut). x.shown.resource) (sym same) ∙ all.resource t in
          rw (a, b) is

  row_after : (n : ℕ) (f : Session ItemOut → Session ItemOut) → ((t : Session ItemOut) → t.shown.number ≡ n → IsRowRepresented v.row (Some t) → IsRowRepresented v.row (Some (f t))) →
      (o : Option (Session ItemOut)) → IsRowRepresented v.row o → IsRowRepresented v.row (option_map (changes_one n f) o)
  row_after n f here None shown = shown
  row_after n f here (Some t) shown =
      elim (cases_Bool (t.shown.number == n)) [
        | inl same ↦ rw same (here t (eqb-true t.shown.number n same) shown)
        | inr other ↦ rw other shown
      ]

  -- one of another
  pub apart_row : (n : ℕ) (f : Session ItemOut → Session ItemOut) → IsNotOf v.row n → IsRowRepresented v.row (option_map (changes_one n f) (session_named who.account who.resource h.sessions))
  apart_row n f apart = row_after n f (λ t number shown. absurd (row_has v.row t n refl apart number shown)) mine represents.row

  -- one that may be its own
  pub fair_row : (n : ℕ) (f : Session ItemOut → Session ItemOut) → LeavesRow f → IsCountedAt v.row n → IsRowRepresented v.row (option_map (changes_one n f) (session_named who.account who.resource h.sessions))
  fair_row n f leaves counted = row_after n f (λ t number shown. changed_so v.row t refl number shown) mine represents.row
    where
      changed_so : (o : Option (Row ItemOut)) (t : Session ItemOut) → v.row ≡ o → t.shown.number ≡ n → IsRowRepresented o (Some t) → IsRowRepresented o (Some (f t))
      changed_so None t is number shown = shown
      changed_so (Some r) t is number shown = leaves r t (counted r is (sym shown.number ∙ number)) shown

  -- ---- sessions end

  pub thinned : (q : Session ItemOut → Bool) (o : Option (Row ItemOut)) (t : Table (links.Session ItemOut)) → Known t v → IsRowRepresented o (session_named who.account who.resource (filter q h.sessions))
      → ServerRepresents who logins (with_sessions (filter q h.sessions) h) (record v { row = o; sessions = t })
  thinned q o t known row = record {
    served = record { domain = represents.served.domain; account = represents.served.account; found = represents.served.found; archive = represents.served.archive };
    server_state = record { sessions = rule_left q h.next h.sessions represents.server_state.sessions; conns = represents.server_state.conns };
    conns = represents.conns;
    row = row;
    seated = λ k c s there at.
        let old = seat_left q k h.next h.sessions s represents.server_state.sessions at in
        represents.seated k c s there (seat_of h.next k h.sessions s represents.server_state.sessions old.0 (seat_is s.shown.conn k old.1));
    owned = λ n u s there found. let old = known n u there in represents.owned n old.0 s old.1 (of_left q h.next 1 n h.sessions s represents.server_state.sessions.ascending found).0;
    free = represents.free;
  }

  -- that of the device stays where what stays has it
  pub row_stays : (q : Session ItemOut → Bool) → ((s : Session ItemOut) → IsRowRepresented v.row (Some s) → q s ≡ true) → IsRowRepresented v.row (session_named who.account who.resource (filter q h.sessions))
  row_stays q stays = go mine refl
    where
      go : (o : Option (Session ItemOut)) → mine ≡ o → IsRowRepresented v.row (session_named who.account who.resource (filter q h.sessions))
      go None is = subst (IsRowRepresented v.row) (is ∙ sym (none_left (is_named who.account who.resource) q h.sessions is)) represents.row
      go (Some s) is =
          let shown = subst (IsRowRepresented v.row) is represents.row in
          subst (IsRowRepresented v.row) (sym (left_found (is_named who.account who.resource) q h.sessions s is (stays s shown))) shown

  -- another's ends
  pub other_ends : (n : ℕ) → IsNotOf v.row n → ServerRepresents who logins (with_sessions (filter (λ s. not (s.shown.number == n)) h.sessions) h) v
  other_ends n apart = thinned (λ s. not (s.shown.number == n)) v.row v.sessions (λ q s is. (s, is)) (row_stays (λ s. not (s.shown.number == n)) stays)
    where
      stays : (s : Session ItemOut) → IsRowRepresented v.row (Some s) → not (s.shown.number == n) ≡ true
      stays s shown =
          elim (cases_Bool (s.shown.number == n)) [
            | inl same ↦ absurd (row_has v.row s n refl apart (eqb-true s.shown.number n same) shown)
            | inr other ↦ ap not other
          ]

  -- and a connection that is none of the device's is no more
  pub conn_ends : LinkKept v → (j : ℕ) → v.conns j ≡ None → ServerRepresents who logins (with_sessions (filter (λ s. not (is_at j s)) h.sessions) (without_conn j h)) v
  conn_ends kept j none = record {
    served = record { domain = represents.served.domain; account = represents.served.account; found = represents.served.found; archive = represents.served.archive };
    server_state = record { sessions = rule_left q h.next h.sessions represents.server_state.sessions; conns = without_sorted j h represents.server_state.conns };
    conns = λ k e there. without_apart j h represents.server_state.conns k (other k e there) ∙ represents.conns k e there;
    row = row_stays q stays;
    seated = λ k e s there at.
        let old = seat_left q k h.next h.sessions s represents.server_state.sessions at in
        represents.seated k e s there (seat_of h.next k h.sessions s represents.server_state.sessions old.0 (seat_is s.shown.conn k old.1));
    owned = λ n t s there found. represents.owned n t s there (of_left q h.next 1 n h.sessions s represents.server_state.sessions.ascending found).0;
    free = represents.free;
  }
    where
      q : Session ItemOut → Bool
      q s = not (is_at j s)

      other : (k : ℕ) (e : Conn ItemOut) → v.conns k ≡ Some e → j ≢ k
      other k e there same = let here : v.conns j ≡ Some e = subst (λ n. v.conns n ≡ Some e) (sym same) there in let no_way : ⊥ = cc in no_way

      off : (o : Option (Row ItemOut)) (s : Session ItemOut) → v.row ≡ o → IsRowRepresented o (Some s) → s.shown.conn ≡ Some j → ⊥
      off None s is shown on = shown
      off (Some r) s is shown on =
          let there = subst (IsPlaced v.conns r (kept.row r is).session) (sym shown.conn ∙ on) (kept.row r is).placed in
          let e = there.1 in
          let no_way : ⊥ = cc in no_way

      stays : (s : Session ItemOut) → IsRowRepresented v.row (Some s) → not (is_at j s) ≡ true
      stays s shown =
          elim (cases_Bool (is_at j s)) [
            | inl on ↦ absurd (off v.row s refl shown (seat_is s.shown.conn j on))
            | inr away ↦ ap not away
          ]
