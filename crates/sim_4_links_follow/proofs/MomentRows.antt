-- Time passes: a session that was parked for too long ends (XEP-0198, section 5).
use Rattle.std.proofs.Common.{◌≡◌, ℕ, Bool, true, false, not, [], ◌∷◌, Option, Some, None, ◌-◌, nat_le, refl, sym, subst, ◌∙◌, inl, inr}
use Rattle.std.proofs.lemmas.Bool.{cases_Bool}
use Rattle.std.specs.List.{filter}
use Rattle.std.specs.Prelude.{is_none, max}
use Rattle.srv_state.specs.Moments.{at_moment}
use Rattle.srv_state.specs.State.{ServerState}
use Rattle.sim_3_items.specs.Identities.{Identity, Login}
use Rattle.sim_3_items.specs.Pipes.{PipesRepresent}
use Rattle.sim_3_items.specs.Servers.{IsRowRepresented, ServerFollows, ServerRepresents}
use Rattle.sim_3_items.specs.ItemPipes.{ItemWire}
use Rattle.sim_2_links.specs.Machine.{EndsRow}
use Rattle.sim_2_links.specs.Views.{Row, Table, View}
use Rattle.sm_live.specs.Sessions.{Session, is_expired, is_named, session_named}
use Rattle.sm_resumption.specs.declared.answers.TheConstants.{RESUMABLE_FOR}
use Rattle.sim_3_images.proofs.RuleKept.{left_found, named_gone, none_left, of_left, rule_left, seat_is, seat_of}
use Rattle.sim_4_links_follow.proofs.Removed.{seat_left}
use Rattle.sim_4_links_follow.proofs.Placed.{keeps_all}
use Rattle.sim_4_links_follow.proofs.Servings.{IsLive, live_of}
use Rattle.xml_writer.specs.Items.{ItemOut}
use Rattle.sim_4_links_follow.proofs.Listening.{first_true}

is_off : (o : Option ℕ) → is_none o ≡ true → o ≡ None
is_off None is = refl
is_off (Some k) is = absurd (let no_way : ⊥ = cc in no_way)

not_false : (b : Bool) → not b ≡ false → b ≡ true
not_false true is = refl
not_false false is = absurd (let no_way : ⊥ = cc in no_way)

-- no session where there is no row
pub no_session : (o : Option (Session ItemOut)) → IsRowRepresented None o → o ≡ None
no_session None shown = refl
no_session (Some s) shown = absurd shown

module _ (who : Identity) (logins : ℕ → Login) (h : ServerState ItemOut) (wires : Table ItemWire) (v : View ItemOut) (now : ℕ) (represents : ServerRepresents who logins h v) (pipes : PipesRepresent who logins wires v) where
  abbrev stays : Session ItemOut → Bool
  stays s = not (is_expired (max h.moment now) s)

  thinned_represents : (o : Option (Row ItemOut)) → IsRowRepresented o (session_named who.account who.resource (filter stays h.sessions)) → ServerRepresents who logins (at_moment now h) (record v { row = o })
  thinned_represents o row = record {
    served = record { domain = represents.served.domain; account = represents.served.account; found = represents.served.found; archive = represents.served.archive };
    server_state = record { sessions = rule_left stays h.next h.sessions represents.server_state.sessions; conns = represents.server_state.conns };
    conns = represents.conns;
    row = row;
    seated = λ k c s there at.
        let old = seat_left stays k h.next h.sessions s represents.server_state.sessions at in
        represents.seated k c s there (seat_of h.next k h.sessions s represents.server_state.sessions old.0 (seat_is s.shown.conn k old.1));
    owned = λ q t s there found. represents.owned q t s there (of_left stays h.next 1 q h.sessions s represents.server_state.sessions.ascending found).0;
    free = represents.free;
  }

  stays_so : IsRowRepresented v.row (session_named who.account who.resource (filter stays h.sessions)) → ServerFollows who logins (at_moment now h) wires v []
  stays_so row = record {
    moves = [];
    next = v;
    leads = refl;
    does = refl;
    server = thinned_represents v.row row;
    pipes = pipes;
    client = record { here = refl; own = refl; epoch = refl; conns = λ k. keeps_all (v.conns k) };
  }

  without_row : v.row ≡ None → ServerFollows who logins (at_moment now h) wires v []
  without_row none =
      let nobody = no_session (session_named who.account who.resource h.sessions) (subst (λ o. IsRowRepresented o (session_named who.account who.resource h.sessions)) none represents.row) in
      let still = none_left (is_named who.account who.resource) stays h.sessions nobody in
      stays_so (subst (λ o. IsRowRepresented o (session_named who.account who.resource (filter stays h.sessions))) (sym none) (subst (IsRowRepresented None) (sym still) tt))

  module _ (row : Row ItemOut) (is : v.row ≡ Some row) where
    abbrev live : IsLive who h row
    live = live_of who logins h v row represents is

    lives_on : stays live.session ≡ true → ServerFollows who logins (at_moment now h) wires v []
    lives_on left =
        let found = left_found (is_named who.account who.resource) stays h.sessions live.session live.named left in
        stays_so (subst (λ o. IsRowRepresented o (session_named who.account who.resource (filter stays h.sessions))) (sym is) (subst (IsRowRepresented (Some row)) (sym found) live.row))

    expires : stays live.session ≡ false → ServerFollows who logins (at_moment now h) wires v []
    expires gone =
        let expired : is_expired (max h.moment now) live.session ≡ true = not_false (is_expired (max h.moment now) live.session) gone in
        let away : live.session.shown.conn ≡ None = is_off live.session.shown.conn (first_true (is_none live.session.shown.conn) (nat_le RESUMABLE_FOR (max h.moment now - live.session.shown.parked_at)) expired) in
        let nobody = named_gone stays who.account who.resource h.next h.sessions live.session represents.server_state.sessions live.named gone in
        record {
          moves = EndsRow ∷ [];
          next = record v { row = None };
          leads = (record v { row = None }, record { row = row; is_row = is; off = sym live.row.conn ∙ away; gives = refl }, refl);
          does = refl;
          server = thinned_represents None (subst (IsRowRepresented None) (sym nobody) tt);
          pipes = record { each = pipes.each };
          client = record { here = refl; own = refl; epoch = refl; conns = λ k. keeps_all (v.conns k) };
        }

  pub moment_follows : ServerFollows who logins (at_moment now h) wires v []
  moment_follows = go v.row refl
    where
      go : (o : Option (Row ItemOut)) → v.row ≡ o → ServerFollows who logins (at_moment now h) wires v []
      go None none = without_row none
      go (Some row) is = elim (cases_Bool (stays (live row is).session)) [ inl left ↦ lives_on row is left | inr gone ↦ expires row is gone ]
