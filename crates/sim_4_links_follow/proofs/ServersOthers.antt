-- What a step on one device's connection leaves of another device: its part of the server and its pipes.
use Rattle.std.proofs.Common.{◌≡◌, ◌≢◌, ℕ, ◌≤◌, ◌==◌, Bool, true, false, List, [], ◌∷◌, Option, Some, None, length, nat_eq, refl, sym, ap, subst, ◌∙◌, inl, inr}
use Rattle.std.proofs.lemmas.Bool.{cases_Bool, cases_eq, eqb-true}
use Rattle.std.proofs.lemmas.Option.{same_Some}
use Rattle.std.specs.Option.{option_map}
use Rattle.sm_acks.specs.declared.end.TheConstants.{MOST_UNACKNOWLEDGED}
use Rattle.srv_state.specs.State.{Out, Put, ServerState, Shut, Took, conn_at, with_conn, with_sessions}
use Rattle.srv_state.specs.declared.connection.Connection.{Connection}
use Rattle.sim_3_items.specs.Identities.{Identity, Login}
use Rattle.sim_3_items.specs.Pipes.{IsShown, IsWire, PipesRepresent}
use Rattle.sim_3_items.specs.Sent.{sent, sent_one, sent_under, where_it}
use Rattle.sim_3_items.specs.Servers.{IsRowRepresented, ServerFollows, ServerRepresents}
use Rattle.sim_3_items.specs.ItemPipes.{ItemWire, handed_up, put_down, shut}
use Rattle.sim_2_links.proofs.Entries.{at_other, at_same}
use Rattle.sim_2_links.specs.Stages.{Conn}
use Rattle.sim_2_links.specs.Views.{Table, View, with_at}
use Rattle.sm_live.specs.Sessions.{Session, is_named, session_named, session_of, with_session}
use Rattle.sim_3_images.proofs.RuleKept.{changes_one, found_is, named_as, numbered_here}
use Rattle.sim_4_links_follow.specs.Taking.{AreApart}
use Rattle.sim_4_links_follow.proofs.Emitted.{AreFor}
use Rattle.sim_4_links_follow.proofs.Found.{Keeps, at_was, of_was, rule_changed, named_stays, named_one}
use Rattle.sim_4_links_follow.proofs.WireStepsServerStates.{server_state_apart, server_state_sorted}
use Rattle.sim_4_links_follow.proofs.Placed.{keeps_all, shown_as, left_apart}
use Rattle.xml_writer.specs.Items.{ItemOut}

-- ---- whose a connection is

where_device : (b : Bool) (f : ItemWire → ItemWire) (w : ItemWire) → ((u : ItemWire) → (f u).device ≡ u.device) → (where_it b f w).device ≡ w.device
where_device true f w same = same w
where_device false f w same = refl

one_device : (k : ℕ) (o : Out ItemOut) (w : ItemWire) → (sent_one k o w).device ≡ w.device
one_device k (Put j i) w = where_device (nat_eq j k) (put_down (i ∷ [])) w (λ u. refl)
one_device k (Shut j) w = where_device (nat_eq j k) shut w (λ u. refl)
one_device k (Took from to origin) w = refl

pub sent_device : (k : ℕ) (outs : List (Out ItemOut)) (w : ItemWire) → (sent_under k outs w).device ≡ w.device
sent_device k [] w = refl
sent_device k (o ∷ outs) w = sent_device k outs (sent_one k o w) ∙ one_device k o w

module _ (who whom : Identity) (logins : ℕ → Login) (h : ServerState ItemOut) (wires : Table ItemWire) (v : View ItemOut) (apart : AreApart who whom) (represents : ServerRepresents whom logins h v) (pipes : PipesRepresent whom logins wires v) where
  -- a connection of the one is none of the other
  pub not_its : (k : ℕ) (w : ItemWire) → wires k ≡ Some w → w.device ≡ who.position → v.conns k ≡ None
  not_its k w there of = go (v.conns k) refl (pipes.each k)
    where
      go : (o : Option (Conn ItemOut)) → v.conns k ≡ o → IsShown whom (logins k) k (v.conns k) (wires k) → v.conns k ≡ None
      go None is shown = is
      go (Some c) is shown =
          let wire : IsWire whom (logins k) k c w = subst (IsShown whom (logins k) k (Some c)) there (subst (λ o. IsShown whom (logins k) k o (wires k)) is shown) in
          absurd (apart.position (sym wire.of ∙ of))

  pub pipes_stay : (k : ℕ) (w : ItemWire) (outs : List (Out ItemOut)) → wires k ≡ Some w → w.device ≡ who.position → AreFor k outs → PipesRepresent whom logins (sent outs (with_at k (handed_up w) wires)) v
  pipes_stay k w outs there of for = record { each = each }
    where
      each : (j : ℕ) → IsShown whom (logins j) j (v.conns j) (sent outs (with_at k (handed_up w) wires) j)
      each j =
          elim (cases_eq k j) [
            | inl same ↦ subst (λ n. IsShown whom (logins n) n (v.conns n) (sent outs (with_at k (handed_up w) wires) n)) same
                (shown_as whom (logins k) k None (v.conns k) (Some (sent_under k outs (handed_up w))) (sent outs (with_at k (handed_up w) wires) k) (not_its k w there of)
                (ap (option_map (sent_under k outs)) (at_same k (handed_up w) wires)) (λ its. apart.position (sym its ∙ sent_device k outs (handed_up w) ∙ of)))
            | inr other ↦
                shown_as whom (logins j) j (v.conns j) (v.conns j) (wires j) (sent outs (with_at k (handed_up w) wires) j) refl
                (ap (option_map (sent_under j outs)) (at_other k (handed_up w) wires j other) ∙ left_apart k outs for j other (wires j)) (pipes.each j)
          ]

  -- a connection of the one comes to another phase
  pub phase_stays : (k : ℕ) (f : Connection → Connection) (conn : Connection) → v.conns k ≡ None → conn_at k h ≡ Some conn → ServerRepresents whom logins (with_conn k f h) v
  phase_stays k f conn none at = record {
    served = record { domain = represents.served.domain; account = represents.served.account; found = represents.served.found; archive = represents.served.archive };
    server_state = record { sessions = represents.server_state.sessions; conns = server_state_sorted k f h conn at represents.server_state.conns };
    conns = λ j e there. server_state_apart k f h conn at j (other j e there) ∙ represents.conns j e there;
    row = represents.row;
    seated = represents.seated;
    owned = represents.owned;
    free = represents.free;
  }
    where
      other : (j : ℕ) (e : Conn ItemOut) → v.conns j ≡ Some e → k ≢ j
      other j e there same = let here : v.conns k ≡ Some e = subst (λ n. v.conns n ≡ Some e) (sym same) there in let no_way : ⊥ = cc in no_way

  -- the session of the one is changed
  pub session_stays : (n : ℕ) (f : Session ItemOut → Session ItemOut) (s : Session ItemOut) → Keeps f → session_of n h.sessions ≡ Some s → is_named who.account who.resource s ≡ true → length (f s).waiting ≤ MOST_UNACKNOWLEDGED
      → ServerRepresents whom logins (with_sessions (with_session n f h.sessions) h) v
  session_stays n f s keeps its named few = record {
    served = record { domain = represents.served.domain; account = represents.served.account; found = represents.served.found; archive = represents.served.archive };
    server_state = record { sessions = rule_changed h.next n f h.sessions keeps (λ t is. subst (λ u. length (f u).waiting ≤ MOST_UNACKNOWLEDGED) (same_Some s t (sym its ∙ is)) few) represents.server_state.sessions; conns = represents.server_state.conns };
    conns = represents.conns;
    row = subst (IsRowRepresented v.row) (sym (named_stays whom.account whom.resource n f h.sessions keeps unchanged)) represents.row;
    seated = λ j e t there at. let old = at_was j n f h.sessions t keeps at in subst (λ (x : Session ItemOut). is_named whom.account whom.resource x ≡ true) old.2 (named_one whom.account whom.resource n f old.0 keeps ∙ (represents.seated j e old.0 there old.1));
    owned = λ q u t there found. let old = of_was q n f h.sessions t keeps found in subst (λ (x : Session ItemOut). is_named whom.account whom.resource x ≡ true) old.2 (named_one whom.account whom.resource n f old.0 keeps ∙ (represents.owned q u old.0 there old.1));
    free = represents.free;
  }
    where
      -- its session has another number
      unchanged : (t : Session ItemOut) → session_named whom.account whom.resource h.sessions ≡ Some t → changes_one n f t ≡ t
      unchanged t is =
          elim (cases_Bool (t.shown.number == n)) [
            | inl same ↦
                let there = numbered_here (is_named whom.account whom.resource) h.next 1 h.sessions t represents.server_state.sessions.ascending is in
                let one : s ≡ t = same_Some s t (sym its ∙ sym (ap (λ m. session_of m h.sessions) (eqb-true t.shown.number n same)) ∙ there) in
                let a = named_as who.account who.resource s named in
                let b = named_as whom.account whom.resource t (found_is (is_named whom.account whom.resource) h.sessions t is) in
                absurd (apart.name (sym a.0 ∙ ap (λ (x : Session ItemOut). x.shown.account) one ∙ b.0) (sym a.1 ∙ ap (λ (x : Session ItemOut). x.shown.resource) one ∙ b.1))
            | inr other ↦ rw other refl
          ]

-- nothing moves
pub nothing_moves : (whom : Identity) (logins : ℕ → Login) (h : ServerState ItemOut) (wires : Table ItemWire) (v : View ItemOut) → ServerRepresents whom logins h v → PipesRepresent whom logins wires v → ServerFollows whom logins h wires v []
nothing_moves whom logins h wires v represents pipes = record {
  moves = [];
  next = v;
  leads = refl;
  does = refl;
  server = represents;
  pipes = pipes;
  client = record { here = refl; own = refl; epoch = refl; conns = λ k. keeps_all (v.conns k) };
}
