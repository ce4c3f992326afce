-- A client parts: it gives its session up with the connection, puts its footer before, or is told the connection's end.
use Rattle.std.proofs.Common.{◌≡◌, ℕ, ◌+◌, Bool, true, false, not, List, [], ◌∷◌, ◌++◌, Option, Some, None, map, if◌then◌else◌, refl, sym, ap, subst, ◌∙◌, ◌⊎◌, inl, inr}
use Rattle.std.proofs.lemmas.Option.{same_Some}
use Rattle.std.specs.Prelude.{is_none}
use Rattle.cl_core.specs.UserCalls.{closes, forgets, leaves}
use Rattle.cl_handlers.specs.Clients.{ClientStep}
use Rattle.cl_handlers.specs.Speech.{Ended, Note, in_items}
use Rattle.cl_handlers.specs.ClientSteps.{drops, is_apart, puts, puts_footer}
use Rattle.cl_handlers.specs.ClientSteps as turns
use Rattle.sim_4_links_follow.proofs.CutPipes.{wire_of}
use Rattle.sim_4_links_follow.proofs.Leaves.{HasLeft, leaves_plainly, leaves_with, left_same, none_left}
use Rattle.sim_4_links_follow.proofs.MoreMoves.{labels_both, then_reaches}
use Rattle.sim_4_links_follow.proofs.Numbered.{at_itself, here_is, here_twice}
use Rattle.sim_4_links_follow.proofs.Stays.{keeps_server}
use Rattle.sim_3_items.specs.Clients.{ClientFollows, ClientRepresents}
use Rattle.sim_3_items.specs.Labels.{Drops}
use Rattle.sim_3_items.specs.Identities.{Identity, Login}
use Rattle.sim_3_items.specs.Pipes.{IsShown, IsWire, PipesRepresent}
use Rattle.sim_3_items.specs.Reading.{ClosingFollows, ForgettingFollows, IsOverHere, IsRepresentedHere, LeavingFollows, noted, where_here}
use Rattle.sim_3_items.specs.WordItems.{down_item, is_after_login}
use Rattle.sim_3_items.specs.ItemMoves.{fed_of}
use Rattle.sim_3_items.specs.ItemPipes.{ItemWire, down_end_reported, left, put_up}
use Rattle.sim_3_items.specs.ItemWorlds.{ItemDevice, silent_client_step}
use Rattle.sim_2_links.proofs.Entries.{at_other, at_same}
use Rattle.sim_2_links.proofs.Reached.{link_kept}
use Rattle.sim_2_links.specs.Links.{ArePiped}
use Rattle.sim_2_links.specs.Machine.{Forgets, LetsGo}
use Rattle.sim_2_links.specs.Stages.{Conn}
use Rattle.sim_2_links.specs.Views.{Table, View, has, with_at}
use Rattle.sim_2_links.specs.Wires.{down_words, is_flowing}
use Rattle.sim_4_links_follow.proofs.Placed.{shown_at}
use Rattle.sim_4_links_follow.proofs.PromptMoves.{prompt_both, silent_as}
use Rattle.sim_4_links_follow.proofs.Servings.{known_same}
use Rattle.xml_writer.specs.Items.{Closing, ItemOut}

-- ---- the connection that a device has

-- a device that has no connection works on none
pub works_on_none : (who : Identity) (logins : ℕ → Login) (d : ItemDevice) (v : View ItemOut) → ClientRepresents who logins d v → d.here ≡ None → v.here ≡ None
works_on_none who logins d v represents none = go v.here refl
  where
    go : (o : Option ℕ) → v.here ≡ o → v.here ≡ None
    go None is = is
    go (Some k) is = let there = represents.here k is in absurd (let at = there.2 in let no_way : ⊥ = cc in no_way)

-- it works on the one that it has, or on none and that one is ended
pub record HasConn (who : Identity) (logins : ℕ → Login) (d : ItemDevice) (wires : Table ItemWire) (v : View ItemOut) (position : ℕ) : Type 0 where
  pub conn : Conn ItemOut
  pub is : v.conns (position + 1) ≡ Some conn
  pub wire : ItemWire
  pub there : wires (position + 1) ≡ Some wire
  pub shown : IsWire who (logins (position + 1)) (position + 1) conn wire
  pub works : (v.here ≡ Some (position + 1)) ⊎ ((v.here ≡ None) × (is_flowing conn.wires ≡ false))
  pub piped : ArePiped (has v.here (position + 1)) conn

module _ (who : Identity) (logins : ℕ → Login) (d : ItemDevice) (wires : Table ItemWire) (v : View ItemOut) (shown : IsRepresentedHere who logins d wires v) where
  pub has_conn : (position : ℕ) → d.here ≡ Some position → HasConn who logins d wires v position
  has_conn position at = on (shown.client.has position at).0 (shown.client.has position at).1 (shown.client.has position at).2
    where
      one_position : (other : ℕ) → d.here ≡ Some other → other + 1 ≡ position + 1
      one_position other there = ap (λ n. n + 1) (same_Some other position (sym there ∙ at))

      works : (c : Conn ItemOut) → (v.here ≡ Some (position + 1)) ⊎ (is_flowing c.wires ≡ false) → (o : Option ℕ) → v.here ≡ o → (v.here ≡ Some (position + 1)) ⊎ ((v.here ≡ None) × (is_flowing c.wires ≡ false))
      works c (inl here) o is = inl here
      works c (inr ended) None is = inr (is, ended)
      works c (inr ended) (Some k) is = let there = shown.client.here k is in inl (is ∙ ap Some (there.1 ∙ one_position there.0 there.2))

      wired : (c : Conn ItemOut) → v.conns (position + 1) ≡ Some c → (o : Option ItemWire) → wires (position + 1) ≡ o → IsShown who (logins (position + 1)) (position + 1) (Some c) o → (v.here ≡ Some (position + 1)) ⊎ (is_flowing c.wires ≡ false) → HasConn who logins d wires v position
      wired c is None none represents where_it_is = absurd represents
      wired c is (Some w) there represents where_it_is = record {
        conn = c;
        is = is;
        wire = w;
        there = there;
        shown = represents;
        works = works c where_it_is v.here refl;
        piped = ((link_kept v shown.reached).conns (position + 1) c is).piped;
      }

      on : (c : Conn ItemOut) → v.conns (position + 1) ≡ Some c → (v.here ≡ Some (position + 1)) ⊎ (is_flowing c.wires ≡ false) → HasConn who logins d wires v position
      on c is where_it_is = wired c is (wires (position + 1)) refl (subst (λ o. IsShown who (logins (position + 1)) (position + 1) o (wires (position + 1))) is (shown.pipes.each (position + 1))) where_it_is

  -- the connection that the device has is left
  pub here_left : HasLeft who logins (where_here d.here left wires) v
  here_left = go d.here refl
    where
      go : (o : Option ℕ) → d.here ≡ o → HasLeft who logins (where_here o left wires) v
      go None none = none_left who logins wires v shown.pipes (works_on_none who logins d v shown.client none)
      go (Some position) at =
          let h = has_conn position at in
          left_same who logins (with_at (position + 1) (left h.wire) wires) (where_here (Some position) left wires) v (here_is position left h.wire wires h.there)
          (leaves_plainly who logins wires v shown.pipes (position + 1) h.conn h.is h.wire h.there h.piped h.works)

  -- with these items before it
  pub here_left_with : (items : List ItemOut) → ((k : ℕ) → v.here ≡ Some k → items ≡ Closing ∷ []) → HasLeft who logins (where_here d.here left (where_here d.here (put_up items) wires)) v
  here_left_with items foot = left_same who logins (where_here d.here (λ w. left (put_up items w)) wires) (where_here d.here left (where_here d.here (put_up items) wires)) v (here_twice d.here left (put_up items) wires) (go d.here refl)
    where
      go : (o : Option ℕ) → d.here ≡ o → HasLeft who logins (where_here o (λ w. left (put_up items w)) wires) v
      go None none = none_left who logins wires v shown.pipes (works_on_none who logins d v shown.client none)
      go (Some position) at =
          let h = has_conn position at in
          left_same who logins (with_at (position + 1) (left (put_up items h.wire)) wires) (where_here (Some position) (λ w. left (put_up items w)) wires) v (here_is position (λ w. left (put_up items w)) h.wire wires h.there)
          (leaves_with who logins wires v shown.pipes (position + 1) h.conn h.is h.wire h.there h.piped items h.works (foot (position + 1)))

  -- ---- the session is given up

  no_more : (l : List (Note ItemOut)) → l ≡ [] → noted (l ++ Ended ∷ []) ≡ Drops ∷ []
  no_more l none = ap (λ notes. noted (notes ++ Ended ∷ [])) none

  abbrev parted : ClientStep ItemOut ItemOut → ClientStep ItemOut ItemOut
  parted t = drops in_items (turns.left t)

  parting : (t : ClientStep ItemOut ItemOut) (after : Table ItemWire) → t.client ≡ d.client → t.out.notes ≡ [] → HasLeft who logins after v → ClientFollows who logins (record { client = (parted t).client; here = None }) after v (noted (parted t).out.notes)
  parting t after same none l = record {
    moves = l.moves ++ Forgets ∷ [];
    next = record l.next { own = None };
    leads = then_reaches l.moves (Forgets ∷ []) v l.next (record l.next { own = None }) l.leads (record l.next { own = None }, record { idle = l.idle; gives = refl }, refl);
    prompt = prompt_both l.moves (Forgets ∷ []) (silent_as l.moves [] l.does tt) (tt, tt);
    does = labels_both l.moves (Forgets ∷ []) ∙ ap (λ ds. ds ++ Drops ∷ []) l.does ∙ sym (no_more t.out.notes none);
    client = record {
      account = ap (λ c. c.account) same ∙ shown.client.account;
      epoch = ap (λ c. c.epoch) same ∙ shown.client.epoch ∙ sym l.epoch;
      own = tt;
      apart = ap is_none (sym l.idle);
      here = λ k is. absurd (let idle = l.idle in let no_way : ⊥ = cc in no_way);
      has = λ position at. absurd (let no_way : ⊥ = cc in no_way);
      phase = λ k c is there. absurd (let idle = l.idle in let no_way : ⊥ = cc in no_way);
    };
    pipes = record { each = l.pipes.each };
    server = record { row = l.server.row; free = l.server.free; known = l.server.known; conns = l.server.conns };
  }

  pub forgotten : ForgettingFollows who logins d wires v (forgets in_items (fed_of d.client)).turn
  forgotten = parting (silent_client_step d.client) (where_here d.here left wires) refl refl here_left

  -- ---- with a footer

  footer_client : (b : Bool) (t : ClientStep ItemOut ItemOut) (items : List ItemOut) → (if b then t else puts t items).client ≡ t.client
  footer_client true t items = refl
  footer_client false t items = refl

  footer_notes : (b : Bool) (t : ClientStep ItemOut ItemOut) (items : List ItemOut) → (if b then t else puts t items).out.notes ≡ t.out.notes
  footer_notes true t items = refl
  footer_notes false t items = refl

  footer_put : (k : ℕ) → v.here ≡ Some k → (puts_footer in_items (silent_client_step d.client)).out.put ≡ Closing ∷ []
  footer_put k here =
      let works : is_apart d.client.phase ≡ false = shown.client.apart ∙ ap is_none here in
      ap (λ b. (if b then silent_client_step d.client else puts (silent_client_step d.client) (Closing ∷ [])).out.put) works

  pub closed_so : ClosingFollows who logins d wires v (closes in_items (fed_of d.client)).turn
  closed_so =
      let t : ClientStep ItemOut ItemOut = puts_footer in_items (silent_client_step d.client) in
      parting t (where_here d.here left (where_here d.here (put_up t.out.put) wires)) (footer_client (is_apart d.client.phase) (silent_client_step d.client) (Closing ∷ []))
      (footer_notes (is_apart d.client.phase) (silent_client_step d.client) (Closing ∷ [])) (here_left_with t.out.put footer_put)

  pub closes_note : noted (closes in_items (fed_of d.client)).turn.out.notes ≡ Drops ∷ []
  closes_note = no_more (puts_footer in_items (silent_client_step d.client)).out.notes (footer_notes (is_apart d.client.phase) (silent_client_step d.client) (Closing ∷ []))

  -- ---- its end is told

  module _ (position : ℕ) (over : IsOverHere d wires position) where
    abbrev away : ItemDevice
    away = record d { client = (leaves (fed_of d.client)).turn.client }

    told : (c : Conn ItemOut) → IsWire who (logins (position + 1)) (position + 1) c over.wire → IsWire who (logins (position + 1)) (position + 1) c (down_end_reported over.wire)
    told c is = record {
      of = is.of;
      login = is.login;
      up = is.up;
      down = is.down;
      up_ended = is.up_ended;
      down_ended = is.down_ended;
      gone = is.gone;
      for_server = is.for_server;
      for_client = is.for_client;
    }

    told_pipes : (c : Conn ItemOut) → v.conns (position + 1) ≡ Some c → PipesRepresent who logins (with_at (position + 1) (down_end_reported over.wire) wires) v
    told_pipes c is =
        let w = over.wire in
        shown_at who logins wires (with_at (position + 1) (down_end_reported w) wires) v v (position + 1) c (down_end_reported w) shown.pipes (λ j. sym (at_itself_so j)) (at_same (position + 1) (down_end_reported w) wires)
        (λ j apart. at_other (position + 1) (down_end_reported w) wires j apart) (told c (wire_of who logins wires v (position + 1) c w shown.pipes is over.there))
      where
        at_itself_so : (j : ℕ) → with_at (position + 1) c v.conns j ≡ v.conns j
        at_itself_so j = at_itself (position + 1) c v.conns is j

    not_true : (b : Bool) → not b ≡ true → b ≡ false
    not_true true is = absurd (let no_way : ⊥ = cc in no_way)
    not_true false is = refl

    none_mapped : {S T : Type 0} (f : S → T) (l : List S) → [] ≡ map f l → l ≡ []
    none_mapped f [] is = refl
    none_mapped f (x ∷ l) is = absurd (let no_way : ⊥ = cc in no_way)

    module _ (c : Conn ItemOut) (is : v.conns (position + 1) ≡ Some c) where
      wire : IsWire who (logins (position + 1)) (position + 1) c over.wire
      wire = wire_of who logins wires v (position + 1) c over.wire shown.pipes is over.there

      ended : is_flowing c.wires ≡ false
      ended = not_true (is_flowing c.wires) (sym wire.down_ended ∙ over.ended)

      empty : down_words c.wires ≡ []
      empty = none_mapped (down_item who (logins (position + 1)) (position + 1) (is_after_login c.client)) (down_words c.wires) (sym over.nothing ∙ wire.down)

      stands_apart : v.here ≡ None → ClientFollows who logins away (with_at (position + 1) (down_end_reported over.wire) wires) v []
      stands_apart idle = record {
        moves = [];
        next = v;
        leads = refl;
        does = refl;
        prompt = tt;
        client = record {
          account = shown.client.account;
          epoch = shown.client.epoch;
          own = shown.client.own;
          apart = ap is_none (sym idle);
          here = shown.client.here;
          has = shown.client.has;
          phase = λ k e here there. absurd (let no_way : ⊥ = cc in no_way);
        };
        pipes = told_pipes c is;
        server = record { row = refl; free = refl; known = known_same v; conns = λ j. keeps_server (v.conns j) };
      }

      lets_go : v.here ≡ Some (position + 1) → ClientFollows who logins away (with_at (position + 1) (down_end_reported over.wire) wires) v []
      lets_go here =
          let pipes = told_pipes c is in
          record {
            moves = LetsGo (position + 1) ∷ [];
            next = record v { here = None };
            leads = (record v { here = None }, record { conn = c; here = here; is = is; ended = ended; empty = empty; gives = refl }, refl);
            does = refl;
            prompt = (tt, tt);
            client = record {
              account = shown.client.account;
              epoch = shown.client.epoch;
              own = shown.client.own;
              apart = refl;
              here = λ k none. absurd (let no_way : ⊥ = cc in no_way);
              has = λ other at. has other at;
              phase = λ k e none there. absurd (let no_way : ⊥ = cc in no_way);
            };
            pipes = record { each = pipes.each };
            server = record { row = refl; free = refl; known = known_same v; conns = λ j. keeps_server (v.conns j) };
          }
        where
          has : (other : ℕ) → d.here ≡ Some other → (e : Conn ItemOut) × (v.conns (other + 1) ≡ Some e) × ((None ≡ Some (other + 1)) ⊎ (is_flowing e.wires ≡ false))
          has other at =
              subst (λ p. (e : Conn ItemOut) × (v.conns (p + 1) ≡ Some e) × ((None ≡ Some (p + 1)) ⊎ (is_flowing e.wires ≡ false))) (same_Some position other (sym over.here ∙ at)) (c, is, inr ended)

    pub told_over : LeavingFollows who logins d wires v position over.wire (leaves (fed_of d.client)).turn
    told_over = let h = has_conn position over.here in elim h.works [ inl here ↦ lets_go h.conn h.is here | inr away_so ↦ stands_apart h.conn h.is away_so.0 ]
