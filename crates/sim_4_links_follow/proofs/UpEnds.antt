-- The end of a connection goes up, and time passes: what that is for each device.
use Rattle.std.proofs.Common.{◌≡◌, ℕ, ◌+◌, Bool, true, false, [], ◌++◌, Some, slice_get, refl, sym, subst, ◌∙◌}
use Rattle.sim_4_links_follow.proofs.CutPipes.{conn_of}
use Rattle.sim_4_links_follow.proofs.Lifts.{due_empty, due_ended, nothing_moves, tick_lifts, told_lifts}
use Rattle.sim_4_links_follow.proofs.MoreMoves.{then_reaches}
use Rattle.sim_4_links_follow.proofs.Nobody.{not_over}
use Rattle.sim_4_links_follow.proofs.Stays.{no_labels, reached_along}
use Rattle.sim_4_links_follow.specs.Following.{WorldFollows}
use Rattle.srv_state.specs.Moments.{at_moment, gone_at}
use Rattle.srv_state.specs.State.{ServerState}
use Rattle.sim_3_items.specs.Identities.{Identity, Login}
use Rattle.sim_3_items.specs.Pipes.{by_number}
use Rattle.sim_3_items.specs.Servers.{ServerFollows}
use Rattle.sim_3_items.specs.Represents.{Represents}
use Rattle.sim_3_items.specs.ItemMoves.{Tick, UpEnd, moved}
use Rattle.sim_3_items.specs.ItemPipes.{ItemWire, is_end_due, up_end_reported}
use Rattle.sim_3_items.specs.ItemWorlds.{ItemWorld}
use Rattle.sim_2_links.proofs.Reached.{link_kept}
use Rattle.sim_2_links.specs.Machine.{LinkReached}
use Rattle.sim_2_links.specs.Stages.{Conn}
use Rattle.sim_2_links.specs.Views.{Table, View, with_at}
use Rattle.sim_4_links_follow.proofs.Ends.{end_stays}
use Rattle.sim_4_links_follow.proofs.Former.{same_clients}
use Rattle.sim_4_links_follow.proofs.GoneRows.{gone_follows}
use Rattle.sim_4_links_follow.proofs.MomentRows.{moment_follows}
use Rattle.sim_4_links_follow.specs.Taking.{IsOver}
use Rattle.sim_4_links_follow.proofs.Changes.{under_position}
use Rattle.sim_4_links_follow.specs.Steps.{IsOtherRepresented}
use Rattle.xml_writer.specs.Items.{ItemOut}

-- ---- time passes

pub moment_in : (who : Identity) (logins : ℕ → Login) (w : ItemWorld) (v : View ItemOut) (now : ℕ) → Represents who logins w v → ServerFollows who logins (at_moment now w.server) (by_number w.wires) v []
moment_in who logins w v now s = moment_follows who logins w.server (by_number w.wires) v now s.server s.pipes

pub tick_in : (who : Identity) (logins : ℕ → Login) (w : ItemWorld) (v : View ItemOut) (milliseconds : ℕ) → Represents who logins w v → WorldFollows who logins (moved (Tick milliseconds) w) v []
tick_in who logins w v milliseconds s = tick_lifts who logins w v s milliseconds [] tt (moment_in who logins w v (w.moment + milliseconds) s)

-- ---- an end

-- what the server does first, and then
both_quiet : (who : Identity) (logins : ℕ → Login) (h last : ServerState ItemOut) (wires after : Table ItemWire) (v : View ItemOut) (f : ServerFollows who logins h wires v []) → ServerFollows who logins last after f.next [] → ServerFollows who logins last after v []
both_quiet who logins h last wires after v f g = record {
  moves = f.moves ++ g.moves;
  next = g.next;
  leads = then_reaches f.moves g.moves v f.next g.next f.leads g.leads;
  does = no_labels f.moves g.moves f.does g.does;
  server = g.server;
  pipes = g.pipes;
  client = same_clients v f.next g.next f.client g.client;
}

-- before the end is due nothing changes
module _ (w : ItemWorld) (position : ℕ) (wire : ItemWire) (there : slice_get w.wires position ≡ Some wire) (whom : Identity) (others : ℕ → Login) (u : View ItemOut) (s : Represents whom others w u) where
  early_or_due : (is_end_due wire.up ≡ true → ServerFollows whom others (gone_at (position + 1) (at_moment w.moment w.server)) (with_at (position + 1) (up_end_reported wire) (by_number w.wires)) u []) → WorldFollows whom others (moved (UpEnd position) w) u []
  early_or_due hears = go (is_end_due wire.up) refl
    where
      go : (b : Bool) → is_end_due wire.up ≡ b → WorldFollows whom others (moved (UpEnd position) w) u []
      go false early = subst (λ x. WorldFollows whom others x u []) (sym (not_over w position wire there early)) (nothing_moves whom others w u s)
      go true due = told_lifts whom others w u s position wire [] tt there due (hears due)

module _ (who : Identity) (logins : ℕ → Login) (w : ItemWorld) (v : View ItemOut) (s : Represents who logins w v) (reached : LinkReached v) (position : ℕ) (wire : ItemWire) (there : slice_get w.wires position ≡ Some wire) (of : wire.device ≡ who.position) where
  abbrev now : ServerState ItemOut
  now = at_moment w.moment w.server

  abbrev wires : Table ItemWire
  wires = by_number w.wires

  moment : ServerFollows who logins now wires v []
  moment = moment_in who logins w v w.moment s

  at : wires (position + 1) ≡ Some wire
  at = under_position position w.wires ∙ there

  conn_there : (c : Conn ItemOut) × (moment.next.conns (position + 1) ≡ Some c)
  conn_there = conn_of who logins wires moment.next (position + 1) wire moment.pipes at of

  abbrev over : is_end_due wire.up ≡ true → IsOver who logins now wires moment.next (position + 1)
  over due = record {
    reached = reached_along moment.moves v moment.next reached moment.leads;
    server = moment.server;
    pipes = moment.pipes;
    conn = conn_there.0;
    is = conn_there.1;
    wire = wire;
    there = at;
    nothing = due_empty wire.up due;
    ended = due_ended wire.up due;
  }

  pub end_in : WorldFollows who logins (moved (UpEnd position) w) v []
  end_in = early_or_due w position wire there who logins v s hears
    where
      hears : is_end_due wire.up ≡ true → ServerFollows who logins (gone_at (position + 1) now) (with_at (position + 1) (up_end_reported wire) wires) v []
      hears due =
          let p = over due in
          both_quiet who logins now (gone_at (position + 1) now) wires (with_at (position + 1) (up_end_reported wire) wires) v moment
          (gone_follows who logins now wires moment.next (link_kept moment.next p.reached) p.server p.pipes (position + 1) p.conn p.is wire p.there p.nothing p.ended)

  pub end_beside : (whom : Identity) (others : ℕ → Login) (u : View ItemOut) → IsOtherRepresented who whom others w u → WorldFollows whom others (moved (UpEnd position) w) u []
  end_beside whom others u b = early_or_due w position wire there whom others u b.represents hears
    where
      later : ServerFollows whom others now wires u []
      later = moment_in whom others w u w.moment b.represents

      hears : is_end_due wire.up ≡ true → ServerFollows whom others (gone_at (position + 1) now) (with_at (position + 1) (up_end_reported wire) wires) u []
      hears due =
          both_quiet whom others now (gone_at (position + 1) now) wires (with_at (position + 1) (up_end_reported wire) wires) u later
          (end_stays who whom logins others now wires moment.next later.next (position + 1) (over due)
          (record { apart = b.apart; reached = reached_along later.moves u later.next b.reached later.leads; server = later.server; pipes = later.pipes }))
