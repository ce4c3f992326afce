-- A connection comes in a world: of this device, or of another one. Before it comes, the moment may end a session that
-- was parked for too long.
use Rattle.std.proofs.Common.{◌≡◌, ◌≢◌, ℕ, ◌+◌, ◌≤◌, Bool, List, [], ◌∷◌, ◌++◌, Option, Some, None, if◌then◌else◌, length, nat_eq, slice_get, refl, sym, ap, subst, ◌∙◌, inl, inr}
use Rattle.std.proofs.lemmas.Bool.{cases_Bool, cases_eq}
use Rattle.std.specs.List.{filter, find}
use Rattle.cl_core.specs.UserCalls.{dials}
use Rattle.cl_handlers.specs.Clients.{ClientStep}
use Rattle.cl_handlers.specs.Speech.{in_items}
use Rattle.sim_3_images.proofs.UserMoves.{get_set_same, length_where}
use Rattle.sim_4_links_follow.proofs.CutPipes.{none_there}
use Rattle.sim_4_links_follow.proofs.Dialling.{dial_follows, fresh_beside}
use Rattle.sim_4_links_follow.proofs.ConnectionsElsewhere.{IsOfOther, other_pipes}
use Rattle.sim_4_links_follow.proofs.Former.{pipes_as}
use Rattle.sim_4_links_follow.proofs.Inserted.{sorted_inserted}
use Rattle.sim_4_links_follow.proofs.MoreMoves.{then_reaches}
use Rattle.sim_4_links_follow.proofs.Numbered.{here_changed, set_elsewhere, under_more, under_none}
use Rattle.sim_4_links_follow.proofs.Stays.{client_stays, no_labels, reached_along}
use Rattle.sim_4_links_follow.specs.Following.{AreDialled, IsDrawn, WorldFollows, with_login}
use Rattle.srv_state.specs.Moments.{at_moment, fresh_conn, with_fresh}
use Rattle.srv_state.specs.State.{ServerState}
use Rattle.sim_3_items.specs.Identities.{Identity, Login}
use Rattle.sim_3_items.specs.Pipes.{IsShown, PipesRepresent, by_number, under}
use Rattle.sim_3_items.specs.Reading.{where_here}
use Rattle.sim_3_items.specs.Servers.{ServerFollows, ServerRepresents}
use Rattle.sim_3_items.specs.Represents.{Represents}
use Rattle.sim_3_items.specs.ItemMoves.{Dial, dialed_by, fed_of, moved}
use Rattle.sim_3_items.specs.ItemPipes.{ItemWire, fresh_wire, left, put_up}
use Rattle.sim_3_items.specs.ItemWorlds.{ItemDevice, ItemWorld}
use Rattle.sim_2_links.proofs.Entries.{at_other, at_same}
use Rattle.sim_2_links.specs.Machine.{LinkReached}
use Rattle.sim_2_links.specs.Stages.{Conn}
use Rattle.sim_2_links.specs.Views.{Table, View, with_at}
use Rattle.sm_live.specs.Sessions.{Session, session_at}
use Rattle.sim_4_links_follow.proofs.Placed.{shown_as}
use Rattle.sim_4_links_follow.proofs.PromptMoves.{prompt_both, silent_as}
use Rattle.cmd_network.specs.Positions.{changed_where}
use Rattle.xml_writer.specs.Items.{ItemOut}

-- ---- moments

was_there : {A : Type 0} (p q : A → Bool) (ss : List A) (s : A) → find p (filter q ss) ≡ Some s → (t : A) × (find p ss ≡ Some t)
was_there {A = A} p q [] s is = absurd (let no_way : ⊥ = cc in no_way)
was_there {A = A} p q (x ∷ ss) s is =
    elim (cases_Bool (p x)) [
      | inl here ↦ (x, rw here refl)
      | inr other ↦
          let rest : (t : A) × (find p ss ≡ Some t) = elim (cases_Bool (q x)) [ inl left ↦ was_there p q ss s (rw (left, other) at is) | inr gone ↦ was_there p q ss s (rw gone at is) ] in
          (rest.0, rw other rest.1)
    ]

moment_below : (n now : ℕ) (h : ServerState ItemOut) → AreDialled n h → AreDialled n (at_moment now h)
moment_below n now h below = record { conns = below.conns; seats = seats }
  where
    seats : (k : ℕ) (s : Session ItemOut) → session_at k (at_moment now h).sessions ≡ Some s → k ≤ n
    seats k s is = let before = was_there _ _ h.sessions s is in below.seats k before.0 before.1

-- ---- the list of connections

again_at : (k : ℕ) (x : ItemWire) (t same : Table ItemWire) (j : ℕ) → t j ≡ same j → with_at k x t j ≡ with_at k x same j
again_at k x t same j e = ap (λ o. if nat_eq k j then Some x else o) e

one_more : (here : Option ℕ) (x : ItemWire) (wires : List ItemWire) (j : ℕ) → under j (changed_where here left wires ++ x ∷ []) ≡ with_at (length wires + 1) x (where_here here left (by_number wires)) j
one_more here x wires j =
    under_more (changed_where here left wires) x j
    ∙ ap (λ n. with_at (n + 1) x (by_number (changed_where here left wires)) j) (length_where here left wires)
    ∙ again_at (length wires + 1) x (by_number (changed_where here left wires)) (where_here here left (by_number wires)) j (here_changed here left wires j)

-- ---- this device

module _ (who : Identity) (logins : ℕ → Login) (w : ItemWorld) (v : View ItemOut) (s : Represents who logins w v) (moment : ServerFollows who logins (at_moment w.moment w.server) (by_number w.wires) v []) where
  pub dial_lifts : (x : Login) (mine yours : List ℕ) → LinkReached v → IsDrawn who x mine yours → AreDialled (length w.wires) w.server
      → WorldFollows who (with_login (length w.wires + 1) x logins) (moved (Dial who.position mine yours) w) v []
  dial_lifts x mine yours reached drawn below =
      let d : ItemDevice = s.device in
      let n : ℕ = length w.wires in
      let t : ClientStep ItemOut ItemOut = (dials in_items mine (fed_of d.client)).turn in
      let f =
      dial_follows who logins x n mine yours drawn (at_moment w.moment w.server) d (by_number w.wires) moment.next
      (record { normal = s.normal; reached = reached_along moment.moves v moment.next reached moment.leads; client = client_stays who logins d v moment.next moment.client s.client; pipes = moment.pipes }) moment.server (under_none w.wires)
      (moment_below n w.moment w.server below) in
      subst (λ o. WorldFollows who (with_login (n + 1) x logins) (dialed_by who.position mine yours o w) v []) (sym s.there)
      (record {
        moves = moment.moves ++ f.moves;
        next = f.next;
        leads = then_reaches moment.moves f.moves v moment.next f.next moment.leads f.leads;
        does = no_labels moment.moves f.moves moment.does f.does;
        prompt = prompt_both moment.moves f.moves (silent_as moment.moves [] moment.does tt) f.prompt;
        represents = record {
          normal = s.normal;
          device = record { client = t.client; here = Some n };
          there = get_set_same w.devices who.position d (record { client = t.client; here = Some n }) s.there;
          pipes =
              pipes_as who (with_login (n + 1) x logins) (with_at (n + 1) (put_up t.out.put (fresh_wire who.position)) (where_here d.here left (by_number w.wires))) (by_number (dialed_by who.position mine yours (Some d) w).wires) f.next
              (one_more d.here (put_up t.out.put (fresh_wire who.position)) w.wires) f.pipes;
          server = f.server;
          client = f.client;
        };
      })

-- ---- another one

module _ (whom : Identity) (others : ℕ → Login) (u : View ItemOut) (k : ℕ) where
  beside_server : (h : ServerState ItemOut) (entropy : List ℕ) → u.conns k ≡ None → ServerRepresents whom others h u → ServerRepresents whom others (with_fresh k entropy h) u
  beside_server h entropy none represents = record {
    served = record { domain = represents.served.domain; account = represents.served.account; found = represents.served.found; archive = represents.served.archive };
    server_state = record { sessions = represents.server_state.sessions; conns = sorted_inserted k (fresh_conn entropy) h.conns represents.server_state.conns };
    conns = λ j c is. fresh_beside k j entropy h (λ same. not_there j c is same) ∙ represents.conns j c is;
    row = represents.row;
    seated = represents.seated;
    owned = represents.owned;
    free = represents.free;
  }
    where
      not_there : (j : ℕ) (c : Conn ItemOut) → u.conns j ≡ Some c → j ≡ k → ⊥
      not_there j c is same = let there : u.conns k ≡ Some c = subst (λ n. u.conns n ≡ Some c) same is in let no_way : ⊥ = cc in no_way

  beside_pipes : (x : ItemWire) (wires : Table ItemWire) → x.device ≢ whom.position → u.conns k ≡ None → PipesRepresent whom others wires u → PipesRepresent whom others (with_at k x wires) u
  beside_pipes x wires apart none pipes = record { each = each }
    where
      each : (j : ℕ) → IsShown whom (others j) j (u.conns j) (with_at k x wires j)
      each j =
          elim (cases_eq k j) [
            | inl same ↦ subst (λ m. IsShown whom (others m) m (u.conns m) (with_at k x wires m)) same (shown_as whom (others k) k None (u.conns k) (Some x) (with_at k x wires k) none (at_same k x wires) (λ e. apart e))
            | inr other ↦ shown_as whom (others j) j (u.conns j) (u.conns j) (wires j) (with_at k x wires j) refl (at_other k x wires j other) (pipes.each j)
          ]

module _ (whom : Identity) (others : ℕ → Login) (w : ItemWorld) (u : View ItemOut) (s : Represents whom others w u) (moment : ServerFollows whom others (at_moment w.moment w.server) (by_number w.wires) u []) where
  pub dial_leaves : (at : ℕ) → whom.position ≢ at → (d : ItemDevice) → slice_get w.devices at ≡ Some d → IsOfOther whom.position d.here w.wires → (mine yours : List ℕ) → WorldFollows whom others (moved (Dial at mine yours) w) u []
  dial_leaves at apart d is strange_here mine yours =
      let n : ℕ = length w.wires in
      let t : ClientStep ItemOut ItemOut = (dials in_items mine (fed_of d.client)).turn in
      let x : ItemWire = put_up t.out.put (fresh_wire at) in
      let none : moment.next.conns (n + 1) ≡ None =
      none_there whom (others (n + 1)) (n + 1) (moment.next.conns (n + 1)) (subst (IsShown whom (others (n + 1)) (n + 1) (moment.next.conns (n + 1))) (under_none w.wires) (moment.pipes.each (n + 1))) in
      let stays : PipesRepresent whom others (where_here d.here left (by_number w.wires)) moment.next =
      pipes_as whom others (by_number (changed_where d.here left w.wires)) (where_here d.here left (by_number w.wires)) moment.next (λ j. sym (here_changed d.here left w.wires j))
      (other_pipes whom others moment.next d.here left w.wires (λ y. refl) strange_here moment.pipes) in
      subst (λ o. WorldFollows whom others (dialed_by at mine yours o w) u []) (sym is)
      (record {
        moves = moment.moves;
        next = moment.next;
        leads = moment.leads;
        does = moment.does;
        prompt = silent_as moment.moves [] moment.does tt;
        represents = record {
          normal = s.normal;
          device = s.device;
          there = set_elsewhere w.devices at whom.position (record { client = t.client; here = Some n }) apart ∙ s.there;
          pipes =
              pipes_as whom others (with_at (n + 1) x (where_here d.here left (by_number w.wires))) (by_number (dialed_by at mine yours (Some d) w).wires) moment.next (one_more d.here x w.wires)
              (beside_pipes whom others moment.next (n + 1) x (where_here d.here left (by_number w.wires)) (λ e. apart (sym e)) none stays);
          server = beside_server whom others moment.next (n + 1) (at_moment w.moment w.server) yours none moment.server;
          client = client_stays whom others s.device u moment.next moment.client s.client;
        };
      })
