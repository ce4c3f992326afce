-- One small step of a row on a stanza, and then all of them.
use Rattle.std.proofs.Common.{◌≡◌, ℕ, zero, suc, Bool, true, false, List, [], ◌∷◌, ◌++◌, Option, Some, None, is_some, nat_eq, refl, sym, ap, subst, ◌∙◌, inl, inr}
use Rattle.std.proofs.lemmas.Bool.{cases_Bool, eqb-true}
use Rattle.std.proofs.lemmas.List.{map-append}
use Rattle.std.proofs.lemmas.Option.{same_Some}
use Rattle.std.specs.List.{AllByRecursion}
use Rattle.std.specs.Prelude.{ℤ, slice_get, slice_set}
use Rattle.mam_archive.specs.Entries.{EntryView}
use Rattle.base_lemmas.proofs.Lists.{AllByRecursion-weaker}
use Rattle.sim_2_links.specs.Stages.{Conn}
use Rattle.sim_3_images.specs.Puts.{is_put_as_stanza, puts_on}
use Rattle.srv_state.specs.State.{Kept, Out, ServerState, Step, Took, archive_at}
use Rattle.srv_state.specs.Steps.{Act, Archive, Copy, Handle, Present, Send, Tell, act, acted, appended, archived_in}
use Rattle.sim_3_items.specs.Labels.{Gives, Label, gives_all}
use Rattle.sim_3_items.specs.Identities.{Identity, Login}
use Rattle.sim_3_items.specs.Pipes.{PipesRepresent}
use Rattle.sim_3_items.specs.Sent.{sent}
use Rattle.sim_3_items.specs.Servers.{ServerFollows, ServerRepresents}
use Rattle.sim_3_items.specs.ItemPipes.{ItemWire}
use Rattle.sim_3_items.specs.ItemWorlds.{itself}
use Rattle.sim_2_links.proofs.Entries.{same_number}
use Rattle.sim_2_links.proofs.Reached.{link_kept}
use Rattle.sim_2_links.specs.Machine.{LinkMove, LinkReached, LinkReaches, nothing_yet}
use Rattle.sim_2_links.specs.Views.{Row, Table, View}
use Rattle.sm_live.specs.Sessions.{copies, handles, presents}
use Rattle.sim_4_links_follow.proofs.Former.{same_clients}
use Rattle.sim_4_links_follow.proofs.StanzasElsewhere.{send_stands}
use Rattle.sim_4_links_follow.proofs.GivenParts.{IsFair, IsNotOf, fair_still, given_both, given_still, row_both, row_same, sends_elsewhere}
use Rattle.sim_4_links_follow.proofs.MorePipes.{more_put_out, told_out}
use Rattle.sim_4_links_follow.proofs.Own.{Goes, own_goes}
use Rattle.sim_4_links_follow.proofs.Tellings.{both_tell, given_to_none, quiet_more, still_tells}
use Rattle.sim_4_links_follow.proofs.Thinned.{LeavesRow, apart_row, fair_row, session_kept}
use Rattle.sim_4_links_follow.specs.Given.{sends_to}
use Rattle.sim_4_links_follow.proofs.Found.{Keeps}
use Rattle.sim_4_links_follow.proofs.MoreMoves.{does_both, then_reaches}
use Rattle.sim_4_links_follow.proofs.Placed.{keeps_all}
use Rattle.xml_writer.specs.Items.{ItemOut}

-- ---- changes of a session that put nothing

presents_keeps : (available : Bool) (priority : ℤ) → Keeps (presents {A = ItemOut} available priority)
presents_keeps available priority = record { number = λ s. refl; account = λ s. refl; resource = λ s. refl; conn = λ s. refl }

copies_keeps : (on : Bool) → Keeps (copies {A = ItemOut} on)
copies_keeps on = record { number = λ s. refl; account = λ s. refl; resource = λ s. refl; conn = λ s. refl }

pub handles_keeps : Keeps (handles {A = ItemOut})
handles_keeps = record { number = λ s. refl; account = λ s. refl; resource = λ s. refl; conn = λ s. refl }

presents_leaves : (available : Bool) (priority : ℤ) → LeavesRow (presents available priority)
presents_leaves available priority r s counted is = record {
  number = is.number;
  conn = is.conn;
  counted = is.counted;
  resumable = is.resumable;
  acked = is.acked;
  handled = is.handled;
  waiting = is.waiting;
  quiet = λ un. absurd (let no_way : ⊥ = cc in no_way);
  for_client = is.for_client;
}

copies_leaves : (on : Bool) → LeavesRow (copies on)
copies_leaves on r s counted is = record {
  number = is.number;
  conn = is.conn;
  counted = is.counted;
  resumable = is.resumable;
  acked = is.acked;
  handled = is.handled;
  waiting = is.waiting;
  quiet = λ un. absurd (let no_way : ⊥ = cc in no_way);
  for_client = is.for_client;
}

-- a row with another number
number_apart : (o : Option (Row ItemOut)) (r : Row ItemOut) (n : ℕ) → o ≡ Some r → nat_eq r.number n ≡ false → IsNotOf o n
number_apart o r n is other t there same =
    let number : r.number ≡ n = ap (λ (u : Row ItemOut). u.number) (same_Some r t (sym is ∙ there)) ∙ same in
    let now : nat_eq n n ≡ false = subst (λ m. nat_eq m n ≡ false) number other in
    let here = same_number n in
    let no_way : ⊥ = cc in no_way

-- ---- archives

written_over : {X : Type 0} (xs : List X) (i j : ℕ) (x : X) → is_some (slice_get xs j) ≡ true → is_some (slice_get (slice_set xs i x) j) ≡ true
written_over [] i j x is = is
written_over (y ∷ ys) zero zero x is = refl
written_over (y ∷ ys) zero (suc j) x is = is
written_over (y ∷ ys) (suc i) zero x is = is
written_over (y ∷ ys) (suc i) (suc j) x is = written_over ys i j x is

module _ (who : Identity) (logins : ℕ → Login) where
  archived_represents : (v : View ItemOut) (e : EntryView) (account : ℕ) (o : Option Kept) (h : ServerState ItemOut) → ServerRepresents who logins h v → ServerRepresents who logins (archived_in e account o h) v
  archived_represents v e account None h represents = represents
  archived_represents v e account (Some kept) h represents = record {
    served = record { domain = represents.served.domain; account = represents.served.account; found = represents.served.found; archive = written_over h.archives account who.account (appended e kept) represents.served.archive };
    server_state = record { sessions = represents.server_state.sessions; conns = represents.server_state.conns };
    conns = represents.conns;
    row = represents.row;
    seated = represents.seated;
    owned = represents.owned;
    free = represents.free;
  }

  module _ (wires : Table ItemWire) where
    -- nothing moves
    stays_still : (acts : List (Act ItemOut)) (first : List (Out ItemOut)) (s : Step ItemOut) (v : View ItemOut) → ServerRepresents who logins s.server_state v → PipesRepresent who logins (sent s.outs wires) v → ((r : Row ItemOut) → v.row ≡ Some r → sends_to r.number acts ≡ [])
        → ((k : ℕ) (c : Conn ItemOut) → v.conns k ≡ Some c → puts_on is_put_as_stanza k s.outs ≡ puts_on is_put_as_stanza k first) → Goes who logins wires v acts first s
    stays_still acts first s v represents pipes none quiet = record {
      given = [];
      follows = record {
        moves = [];
        next = v;
        leads = refl;
        does = refl;
        server = represents;
        pipes = pipes;
        client = record { here = refl; own = refl; epoch = refl; conns = λ k. keeps_all (v.conns k) };
      };
      are_given = given_still acts v.row none;
      kept = row_same v.row;
      tells = still_tells v first s.outs quiet;
    }

    module _ (s : Step ItemOut) (v : View ItemOut) (reached : LinkReached v) (represents : ServerRepresents who logins s.server_state v) (pipes : PipesRepresent who logins (sent s.outs wires) v) where
      goes_elsewhere : (n : ℕ) (z : ItemOut) → IsNotOf v.row n → Goes who logins wires v (Send n z ∷ []) s.outs (act itself (Send n z) s)
      goes_elsewhere n z apart =
          let stands = send_stands who logins wires v (link_kept v reached) s.outs n z apart s (represents, pipes, λ k c is. refl) in
          stays_still (Send n z ∷ []) s.outs (act itself (Send n z) s) v stands.0 stands.1 (sends_elsewhere v.row n z apart) stands.2

      send_goes : (n : ℕ) (z : ItemOut) → IsFair v.row (Send n z) → Goes who logins wires v (Send n z ∷ []) s.outs (act itself (Send n z) s)
      send_goes n z fair = go v.row refl
        where
          go : (o : Option (Row ItemOut)) → v.row ≡ o → Goes who logins wires v (Send n z ∷ []) s.outs (act itself (Send n z) s)
          go None is = goes_elsewhere n z (λ r there same. let no_way : ⊥ = cc in no_way)
          go (Some r) is =
              elim (cases_Bool (nat_eq r.number n)) [
                | inl same ↦
                    let number : r.number ≡ n = eqb-true r.number n same in
                    subst (λ m. Goes who logins wires v (Send m z ∷ []) s.outs (act itself (Send m z) s)) number
                    (own_goes who logins wires v (link_kept v reached) s represents pipes r is (fair.1 r is number) z fair.0)
                | inr other ↦ goes_elsewhere n z (number_apart v.row r n is other)
              ]

      act_goes : (a : Act ItemOut) → IsFair v.row a → Goes who logins wires v (a ∷ []) s.outs (act itself a s)
      act_goes (Send n z) fair = send_goes n z fair
      act_goes (Present n available priority) fair =
          stays_still (Present n available priority ∷ []) s.outs (act itself (Present n available priority) s) v
          (session_kept who logins s.server_state v represents n (presents available priority) (presents_keeps available priority) (λ t is. represents.server_state.sessions.few n t is) (fair_row who logins s.server_state v represents n (presents available priority) (presents_leaves available priority) fair)) pipes
          (λ r is. refl) (λ k c is. refl)
      act_goes (Copy n on) fair =
          stays_still (Copy n on ∷ []) s.outs (act itself (Copy n on) s) v
          (session_kept who logins s.server_state v represents n (copies on) (copies_keeps on) (λ t is. represents.server_state.sessions.few n t is) (fair_row who logins s.server_state v represents n (copies on) (copies_leaves on) fair)) pipes
          (λ r is. refl) (λ k c is. refl)
      act_goes (Handle n) fair =
          stays_still (Handle n ∷ []) s.outs (act itself (Handle n) s) v
          (session_kept who logins s.server_state v represents n handles handles_keeps (λ t is. represents.server_state.sessions.few n t is) (apart_row who logins s.server_state v represents n handles fair)) pipes
          (λ r is. refl) (λ k c is. refl)
      act_goes (Archive account e) fair = stays_still (Archive account e ∷ []) s.outs (act itself (Archive account e) s) v (archived_represents v e account (archive_at account s.server_state) s.server_state represents) pipes (λ r is. refl) (λ k c is. refl)
      act_goes (Tell from to origin) fair =
          stays_still (Tell from to origin ∷ []) s.outs (act itself (Tell from to origin) s) v represents
          (more_put_out who logins wires v s.outs (Took from to origin ∷ []) (told_out who logins (sent s.outs wires) v from to origin pipes)) (λ r is. refl) (λ k c is. quiet_more k s.outs (Took from to origin ∷ []) refl)
      act_goes _ fair = absurd fair

    -- ---- one behind the other

    abbrev pub follows_both : (v : View ItemOut) (first last : Step ItemOut) (done more all : List (Label ItemOut)) → done ++ more ≡ all → (f : ServerFollows who logins first.server_state (sent first.outs wires) v done)
        → ServerFollows who logins last.server_state (sent last.outs wires) f.next more → ServerFollows who logins last.server_state (sent last.outs wires) v all
    follows_both v first last done more all same f g = record {
      moves = f.moves ++ g.moves;
      next = g.next;
      leads = then_reaches f.moves g.moves v f.next g.next f.leads g.leads;
      does = does_both f.moves g.moves done more f.does g.does ∙ same;
      server = g.server;
      pipes = g.pipes;
      client = same_clients v f.next g.next f.client g.client;
    }

    pub reached_more : (moves : List (LinkMove ItemOut)) (v next : View ItemOut) → LinkReached v → LinkReaches moves v next → LinkReached next
    reached_more moves v next reached to = record { moves = reached.moves ++ moves; reaches = then_reaches reached.moves moves nothing_yet v next reached.reaches to }

    goes_both : (a : Act ItemOut) (acts : List (Act ItemOut)) (v : View ItemOut) (before : List (Out ItemOut)) (first last : Step ItemOut) (f : Goes who logins wires v (a ∷ []) before first) → Goes who logins wires f.follows.next acts first.outs last → Goes who logins wires v (a ∷ acts) before last
    goes_both a acts v before first last f g = record {
      given = f.given ++ g.given;
      follows = follows_both v first last (gives_all f.given) (gives_all g.given) (gives_all (f.given ++ g.given)) (sym (map-append Gives f.given g.given)) f.follows g.follows;
      are_given = given_both a acts f.given g.given v.row f.follows.next.row g.follows.next.row f.are_given g.are_given;
      kept = row_both v.row f.follows.next.row g.follows.next.row f.kept g.kept;
      tells =
          both_tell v f.follows.next f.given g.given before first.outs last.outs g.follows.next.row f.follows.client.conns (given_to_none (a ∷ []) f.given v.row f.follows.next.row f.are_given)
          (given_to_none acts g.given f.follows.next.row g.follows.next.row g.are_given) f.tells g.tells;
    }

    pub acts_go : (acts : List (Act ItemOut)) (s : Step ItemOut) (v : View ItemOut) → LinkReached v → ServerRepresents who logins s.server_state v → PipesRepresent who logins (sent s.outs wires) v → AllByRecursion (IsFair v.row) acts → Goes who logins wires v acts s.outs (acted itself acts s)
    acts_go [] s v reached represents pipes fair = stays_still [] s.outs s v represents pipes (λ r is. refl) (λ k c is. refl)
    acts_go (a ∷ acts) s v reached represents pipes fair =
        let one = act_goes s v reached represents pipes a fair.0 in
        goes_both a acts v s.outs (act itself a s) (acted itself (a ∷ acts) s) one
        (acts_go acts (act itself a s) one.follows.next (reached_more one.follows.moves v one.follows.next reached one.follows.leads) one.follows.server one.follows.pipes
        (AllByRecursion-weaker (IsFair v.row) (IsFair one.follows.next.row) (λ b. fair_still v.row one.follows.next.row b one.kept) acts fair.1))
