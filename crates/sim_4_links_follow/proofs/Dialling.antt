-- A client dials: it leaves the connection that it has, and one more connection comes, of which the server hears.
use Rattle.std.proofs.Common.{◌≡◌, ◌≢◌, ℕ, ◌+◌, ◌≤◌, true, false, List, [], ◌∷◌, ◌++◌, Option, Some, None, if◌then◌else◌, nat_eq, refl, sym, ap, subst, ◌∙◌, ◌⊎◌, inl, inr, arith}
use Rattle.std.proofs.lemmas.Bool.{cases_eq}
use Rattle.std.proofs.lemmas.List.Elements.{All-nil}
use Rattle.std.proofs.lemmas.Option.{same_Some}
use Rattle.std.specs.Option.{option_map}
use Rattle.cl_core.specs.UserCalls.{dials}
use Rattle.cl_login.specs.LoginRows.{client_header}
use Rattle.cl_login.specs.declared.login_state.LoginState.TheVariants as state
use Rattle.cl_handlers.specs.Speech.{in_items}
use Rattle.cl_handlers.specs.declared.phase.Phase.TheVariants as phase
use Rattle.sim_4_links_follow.proofs.CutPipes.{none_there}
use Rattle.sim_4_links_follow.proofs.Inserted.{found_beside, found_inserted, sorted_inserted}
use Rattle.sim_4_links_follow.proofs.MoreMoves.{then_reaches}
use Rattle.sim_4_links_follow.proofs.Parts.{here_left}
use Rattle.sim_4_links_follow.proofs.Stays.{no_labels, server_stays}
use Rattle.sim_4_links_follow.specs.Following.{AreDialled, BothFollow, IsDrawn, with_login}
use Rattle.srv_state.specs.Moments.{fresh_conn, with_fresh}
use Rattle.srv_state.specs.State.{ServerState, conn_at}
use Rattle.sim_3_items.specs.Clients.{ClientRepresents, IsOwnRepresented, client_phase}
use Rattle.sim_3_items.specs.Counted.{IsForClient, IsForServer}
use Rattle.sim_3_items.specs.Identities.{Identity, Login}
use Rattle.sim_3_items.specs.Pipes.{IsShown, IsWire, PipesRepresent}
use Rattle.sim_3_items.specs.Reading.{IsRepresentedHere, where_here}
use Rattle.sim_3_items.specs.Sent.{where_it}
use Rattle.sim_3_items.specs.Servers.{ServerRepresents, conn_shown}
use Rattle.sim_3_items.specs.WordItems.{up_item}
use Rattle.sim_3_items.specs.ItemMoves.{fed_of}
use Rattle.sim_3_items.specs.ItemPipes.{ItemWire, fresh_wire, left, put_up}
use Rattle.sim_3_items.specs.ItemWorlds.{ItemDevice}
use Rattle.sim_2_links.proofs.Entries.{Entry, New, Old, at_other, at_same, entry, other_number, same_number}
use Rattle.sim_2_links.specs.LinkMoves.{dialled}
use Rattle.sim_2_links.specs.Machine.{Dials}
use Rattle.sim_2_links.specs.Stages.{Conn}
use Rattle.sim_2_links.specs.Views.{Table, View, with_at}
use Rattle.sim_2_links.specs.Wires.{is_flowing}
use Rattle.sim_2_links.specs.Words.{Hdr, InHeader1}
use Rattle.sm_live.specs.Sessions.{Session, is_named, session_at}
use Rattle.auth_scram.specs.Exchange.{added_nonce}
use Rattle.sim_4_links_follow.proofs.Placed.{shown_as}
use Rattle.sim_4_links_follow.proofs.PromptMoves.{prompt_both, silent_as}
use Rattle.xml_writer.specs.Items.{ItemOut, Opening}

-- ---- logins

pub login_here : (k : ℕ) (x : Login) (logins : ℕ → Login) → with_login k x logins k ≡ x
login_here k x logins = ap (λ b. if b then x else logins k) (same_number k)

pub login_apart : (k j : ℕ) (x : Login) (logins : ℕ → Login) → k ≢ j → with_login k x logins j ≡ logins j
login_apart k j x logins apart = ap (λ b. if b then x else logins j) (other_number k j apart)

-- ---- the server

-- a connection of which the view has nothing comes
pub fresh_beside : {A : Type 0} (k j : ℕ) (entropy : List ℕ) (h : ServerState A) → j ≢ k → conn_at j (with_fresh k entropy h) ≡ conn_at j h
fresh_beside k j entropy h apart = found_beside k (fresh_conn entropy) j h.conns apart

pub fresh_here : {A : Type 0} (k : ℕ) (entropy : List ℕ) (h : ServerState A) → conn_at k (with_fresh k entropy h) ≡ Some (fresh_conn entropy)
fresh_here k entropy h = found_inserted k (fresh_conn entropy) h.conns

module _ (who : Identity) (logins : ℕ → Login) (x : Login) (n : ℕ) (own other : List ℕ) (drawn : IsDrawn who x own other) where
  abbrev k : ℕ
  k = n + 1

  abbrev more : ℕ → Login
  more = with_login k x logins

  abbrev with_dialled : View ItemOut → View ItemOut
  with_dialled v = record v { here = Some k; conns = with_at k dialled v.conns }

  module _ (h : ServerState ItemOut) (v : View ItemOut) (represents : ServerRepresents who logins h v) (below : AreDialled n h) where
    too_high : k ≤ n → ⊥
    too_high low = omega arith

    pub fresh_represents : ServerRepresents who more (with_fresh k other h) (with_dialled v)
    fresh_represents = record {
      served = record { domain = represents.served.domain; account = represents.served.account; found = represents.served.found; archive = represents.served.archive };
      server_state = record { sessions = represents.server_state.sessions; conns = sorted_inserted k (fresh_conn other) h.conns represents.server_state.conns };
      conns = λ j c is. shown j c (entry k dialled v.conns j c is);
      row = represents.row;
      seated = λ j c s is at. seated j c s (entry k dialled v.conns j c is) at;
      owned = represents.owned;
      free = represents.free;
    }
      where
        mine : conn_at k (with_fresh k other h) ≡ conn_shown who (more k) dialled
        mine = fresh_here k other h ∙ ap (λ e. Some (fresh_conn e)) (sym drawn.yours) ∙ ap (λ l. conn_shown who l dialled) (sym (login_here k x logins))

        shown : (j : ℕ) (c : Conn ItemOut) → Entry k dialled v.conns j c → conn_at j (with_fresh k other h) ≡ conn_shown who (more j) c
        shown j c (New same it) = subst (λ m. conn_at m (with_fresh k other h) ≡ conn_shown who (more m) c) same (mine ∙ ap (conn_shown who (more k)) it)
        shown j c (Old apart was) = fresh_beside k j other h (λ e. apart (sym e)) ∙ represents.conns j c was ∙ ap (λ l. conn_shown who l c) (sym (login_apart k j x logins apart))

        seated : (j : ℕ) (c : Conn ItemOut) (s : Session ItemOut) → Entry k dialled v.conns j c → session_at j h.sessions ≡ Some s → is_named who.account who.resource s ≡ true
        seated j c s (New same it) at = absurd (too_high (below.seats k s (subst (λ m. session_at m h.sessions ≡ Some s) (sym same) at)))
        seated j c s (Old apart was) at = represents.seated j c s was at

  -- ---- the pipes

  abbrev dialled_wire : ItemWire
  dialled_wire = put_up (up_item who x Hdr ∷ []) (fresh_wire who.position)

  fresh_is : IsWire who x k dialled dialled_wire
  fresh_is = record {
    of = refl;
    login = drawn.login;
    up = refl;
    down = refl;
    up_ended = refl;
    down_ended = refl;
    gone = refl;
    for_server = All-nil IsForServer;
    for_client = All-nil IsForClient;
  }

  pub dialled_pipes : (wires : Table ItemWire) (v : View ItemOut) → PipesRepresent who logins wires v → PipesRepresent who more (with_at k dialled_wire wires) (with_dialled v)
  dialled_pipes wires v pipes = record { each = each }
    where
      each : (j : ℕ) → IsShown who (more j) j (with_at k dialled v.conns j) (with_at k dialled_wire wires j)
      each j =
          elim (cases_eq k j) [
            | inl same ↦ subst (λ m. IsShown who (more m) m (with_at k dialled v.conns m) (with_at k dialled_wire wires m)) same
                (shown_as who (more k) k (Some dialled) (with_at k dialled v.conns k) (Some dialled_wire) (with_at k dialled_wire wires k) (at_same k dialled v.conns) (at_same k dialled_wire wires)
                (subst (λ l. IsWire who l k dialled dialled_wire) (sym (login_here k x logins)) fresh_is))
            | inr apart ↦ shown_as who (more j) j (v.conns j) (with_at k dialled v.conns j) (wires j) (with_at k dialled_wire wires j) (at_other k dialled v.conns j apart) (at_other k dialled_wire wires j apart)
                (subst (λ l. IsShown who l j (v.conns j) (wires j)) (sym (login_apart k j x logins apart)) (pipes.each j))
          ]

  -- ---- the client

  module _ (d : ItemDevice) (v : View ItemOut) (represents : ClientRepresents who logins d v) where
    abbrev dialling : ItemDevice
    dialling = record { client = (dials in_items own (fed_of d.client)).turn.client; here = Some n }

    pub dialled_client : (next : View ItemOut) → next.own ≡ v.own → next.epoch ≡ v.epoch → ClientRepresents who more dialling (with_dialled next)
    dialled_client next same epoch = record {
      account = represents.account;
      epoch = represents.epoch ∙ sym epoch;
      own = subst (λ o. IsOwnRepresented o d.client.session) (sym same) represents.own;
      apart = refl;
      here = λ j is. (n, sym (same_Some k j is), refl);
      has = λ position at. has position (same_Some n position at);
      phase = λ j c is there. comes j c (same_Some k j is) there;
    }
      where
        has : (position : ℕ) → n ≡ position → (c : Conn ItemOut) × (with_at k dialled next.conns (position + 1) ≡ Some c) × ((Some k ≡ Some (position + 1)) ⊎ (is_flowing c.wires ≡ false))
        has position same_position =
            subst (λ p. (c : Conn ItemOut) × (with_at k dialled next.conns (p + 1) ≡ Some c) × ((Some k ≡ Some (p + 1)) ⊎ (is_flowing c.wires ≡ false))) same_position (dialled, at_same k dialled next.conns, inl refl)

        comes : (j : ℕ) (c : Conn ItemOut) → k ≡ j → with_at k dialled next.conns j ≡ Some c → dialling.client.phase ≡ client_phase who (more j) c.client
        comes j c same_number_so there =
            let it : dialled ≡ c = same_Some dialled c (sym (at_same k dialled next.conns) ∙ subst (λ m. with_at k dialled next.conns m ≡ Some c) (sym same_number_so) there) in
            ap (λ m. phase.Login (state.Header1 (added_nonce m))) (sym drawn.mine)
            ∙ ap (λ l. client_phase who l InHeader1) (sym (login_here k x logins) ∙ ap more same_number_so)
            ∙ ap (λ (e : Conn ItemOut). client_phase who (more j) e.client) it

  -- ---- both

  left_none : (here : Option ℕ) (wires : Table ItemWire) → wires k ≡ None → where_here here left wires k ≡ None
  left_none None wires none = none
  left_none (Some position) wires none = ap (option_map (where_it (nat_eq (position + 1) k) left)) none

  pub dial_follows : (h : ServerState ItemOut) (d : ItemDevice) (wires : Table ItemWire) (v : View ItemOut) → IsRepresentedHere who logins d wires v → ServerRepresents who logins h v → wires k ≡ None → AreDialled n h
      → BothFollow who more (with_fresh k other h) (record { client = (dials in_items own (fed_of d.client)).turn.client; here = Some n })
      (with_at k (put_up (dials in_items own (fed_of d.client)).turn.out.put (fresh_wire who.position)) (where_here d.here left wires)) v []
  dial_follows h d wires v shown server none below =
      let l = here_left who logins d wires v shown in
      let header : (dials in_items own (fed_of d.client)).turn.out.put ≡ up_item who x Hdr ∷ [] = ap (λ a. Opening (client_header a.login.domain) ∷ []) shown.client.account in
      let pipes : PipesRepresent who more (with_at k dialled_wire (where_here d.here left wires)) (with_dialled l.next) = dialled_pipes (where_here d.here left wires) l.next l.pipes in
      record {
        moves = l.moves ++ Dials k ∷ [];
        next = with_dialled l.next;
        leads =
            then_reaches l.moves (Dials k ∷ []) v l.next (with_dialled l.next) l.leads
            (with_dialled l.next, record { idle = l.idle; fresh = none_there who (logins k) k (l.next.conns k) (subst (IsShown who (logins k) k (l.next.conns k)) (left_none d.here wires none) (l.pipes.each k)); gives = refl }, refl);
        does = no_labels l.moves (Dials k ∷ []) l.does refl;
        prompt = prompt_both l.moves (Dials k ∷ []) (silent_as l.moves [] l.does tt) (tt, tt);
        server = fresh_represents h l.next (server_stays who logins h v l.next l.server server) below;
        client = dialled_client d v shown.client l.next l.own l.epoch;
        pipes = subst (λ is. PipesRepresent who more (with_at k (put_up is (fresh_wire who.position)) (where_here d.here left wires)) (with_dialled l.next)) (sym header) pipes;
      }
