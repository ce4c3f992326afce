-- A stanza that comes to the server is the next one of its session, and so it is built as it is read.
use Rattle.std.proofs.Common.{◌≡◌, ℕ, ◌+◌, option_map, true, All, List, [], ◌∷◌, ◌++◌, Option, Some, refl, ap, subst, ◌∙◌}
use Rattle.std.proofs.lemmas.List.Elements.{All-head, All-tail}
use Rattle.mam_archive.specs.Entries.{EntryView}
use Rattle.srv_state.specs.State.{ServerState}
use Rattle.sim_3_items.specs.Identities.{Identity, Login}
use Rattle.sim_3_items.specs.ItemPipes.{ItemWire}
use Rattle.sim_2_links.proofs.Expected.{expected_up}
use Rattle.sim_2_links.proofs.Numbers.{reached_rises}
use Rattle.sim_2_links.proofs.Reached.{link_kept}
use Rattle.sim_2_links.proofs.Seen.{move_seen}
use Rattle.sim_2_links.specs.Events.{Handled, IsSeenAs, LinkEvent, May, Seen, SeenSession, row_number, seen}
use Rattle.sim_2_links.specs.LinkMoves.{handled_if}
use Rattle.sim_2_links.specs.Machine.{LinkMoves, TakesStanza}
use Rattle.sim_2_links.specs.Promises.{HasThere}
use Rattle.sim_2_links.specs.Views.{Row, Table, View, alter, has, with_at}
use Rattle.sim_2_links.specs.Wires.{left_up, send_down}
use Rattle.sim_2_links.specs.Words.{St, Up, up_stanzas}
use Rattle.cmd_schedule.specs.Contents.{Owned}
use Rattle.sim_4_links_follow.specs.Taking.{IsFirst}
use Rattle.sim_3_items.specs.Built.{IsUp}
use Rattle.sim_5_moves.specs.Going.{AllBuilt}
use Rattle.xml_writer.specs.Items.{ItemOut}

may_take : (z : ItemOut) (s next : Seen ItemOut) (p : ℕ) (e : Option (LinkEvent ItemOut)) → e ≡ Some (Handled p z) → IsSeenAs e s next → May (Handled p z) s
may_take z s next p e is so = (let at = subst (λ e. IsSeenAs e s next) is so in at.0)

pub all_after : (P : ItemOut → Type 0) (got : List ItemOut) (z : ItemOut) (rest : List ItemOut) → All P (got ++ z ∷ rest) → P z
all_after P [] z rest all = All-head P z rest all
all_after P (g ∷ got) z rest all = all_after P got z rest (All-tail P g (got ++ z ∷ rest) all)

module _ (who : Identity) (logins : ℕ → Login) (h : ServerState ItemOut) (wires : Table ItemWire) (v : View ItemOut) (k : ℕ) (z : ItemOut) (p : IsFirst who logins h wires v k (Up (St z))) where
  there : HasThere v k p.conn.phase true
  there = expected_up v k p.conn (Up (St z)) p.rest (link_kept v p.reached) p.is p.first

  abbrev row : Row ItemOut
  row = there.0

  abbrev next : View ItemOut
  next = record v {
    conns = with_at k (record p.conn { wires = send_down [] (left_up p.rest p.conn.wires) }) v.conns;
    row = Some (record row { handled = row.handled + 1 });
    sessions = alter (λ q t. handled_if (has (Some row.number) q) z (up_stanzas p.rest) t) v.sessions;
  }

  takes_it : LinkMoves (TakesStanza k z) v next
  takes_it = record { conn = p.conn; is = p.is; rest = p.rest; first = p.first; row = row; is_row = there.1; on = there.3; counted = there.4; gives = refl }

  may : May (Handled row.number z) (seen v)
  may =
      let told = move_seen (TakesStanza k z) v next takes_it (link_kept v p.reached) (reached_rises v p.reached) in
      may_take z (seen v) (seen next) row.number told.0 (told.1 ∙ ap of_it there.1) told.2
    where
      of_it : Option (Row ItemOut) → Option (LinkEvent ItemOut)
      of_it o = option_map (λ q. Handled q z) (row_number o)

  pub stanza_built : (o : Owned) (history : List EntryView) → AllBuilt o history (seen v) → IsUp o z
  stanza_built o history built =
      let t : SeenSession ItemOut = may.1.0 in
      let rest = may.1.1 in
      all_after (IsUp o) t.up_got z rest (subst (All (IsUp o)) may.1.5 (built row.number t may.1.2).up)
