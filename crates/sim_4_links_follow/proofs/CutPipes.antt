-- A connection of a device is cut: its pipes are cut as those of the links, and both ends have what they had.
use Rattle.std.proofs.Common.{◌≡◌, ℕ, not, Option, None, Some, length, map, take, refl, sym, ap, subst, ◌∙◌}
use Rattle.std.proofs.lemmas.List.{take-map}
use Rattle.std.proofs.lemmas.List.Elements.{All-take}
use Rattle.std.specs.List.{All}
use Rattle.sim_4_links_follow.proofs.Stays.{client_stays, keeps_server_at}
use Rattle.sim_4_links_follow.specs.Following.{CutFollows}
use Rattle.srv_state.specs.State.{ServerState}
use Rattle.sim_3_items.specs.Clients.{ClientRepresents}
use Rattle.sim_3_items.specs.Counted.{IsForClient, IsForServer}
use Rattle.sim_3_items.specs.Frames.{SameClient, SameServer}
use Rattle.sim_3_items.specs.Identities.{Identity, Login}
use Rattle.sim_3_items.specs.Pipes.{IsShown, IsWire, PipesRepresent}
use Rattle.sim_3_items.specs.Servers.{ServerRepresents}
use Rattle.sim_3_items.specs.WordItems.{down_item, is_after_login, up_item}
use Rattle.sim_3_items.specs.ItemPipes.{ItemWire, cut_at}
use Rattle.sim_3_items.specs.ItemWorlds.{ItemDevice}
use Rattle.sim_2_links.proofs.Cuts.{down_front, up_front}
use Rattle.sim_2_links.proofs.Entries.{at_other, at_same}
use Rattle.sim_2_links.proofs.Tables.{cut_down_words, cut_stops, cut_up_words}
use Rattle.sim_2_links.specs.LinkMoves.{ways_cut}
use Rattle.sim_2_links.specs.Stages.{Conn}
use Rattle.sim_2_links.specs.Views.{Table, View, alter, has, with_at}
use Rattle.sim_2_links.specs.Wires.{cut, down_words, up_words}
use Rattle.sim_2_links.specs.Words.{down_stanzas, up_stanzas}
use Rattle.sim_4_links_follow.proofs.Placed.{keeps_at, shown_at}
use Rattle.sim_4_links_follow.proofs.Servings.{known_altered, row_represents}
use Rattle.xml_writer.specs.Items.{ItemOut}

abbrev pub cut_conn : ℕ → ℕ → Conn ItemOut → Conn ItemOut
cut_conn i j c = record c { wires = cut i j c.wires }

abbrev pub cut_view : ℕ → ℕ → ℕ → Conn ItemOut → View ItemOut → View ItemOut
cut_view k i j c v = record v { conns = with_at k (cut_conn i j c) v.conns; sessions = alter (ways_cut (has v.here k) c i j) v.sessions }

pub wire_cut : (who : Identity) (x : Login) (k i j : ℕ) (c : Conn ItemOut) (w : ItemWire) → IsWire who x k c w → IsWire who x k (cut_conn i j c) (cut_at i j w)
wire_cut who x k i j c w is = record {
  of = is.of;
  login = is.login;
  up = ap (take i) is.up ∙ take-map (up_item who x) i (up_words c.wires) ∙ ap (map (up_item who x)) (sym (cut_up_words i j c.wires));
  down =
      ap (take j) is.down
      ∙ take-map (down_item who x k (is_after_login c.client)) j (down_words c.wires)
      ∙ ap (map (down_item who x k (is_after_login c.client))) (sym (cut_down_words i j c.wires));
  up_ended = ap not (sym (cut_stops i j c.wires));
  down_ended = ap not (sym (cut_stops i j c.wires));
  gone = is.gone;
  for_server =
      subst (λ us. All IsForServer (up_stanzas us)) (sym (cut_up_words i j c.wires))
      (subst (All IsForServer) (up_front i (up_words c.wires)) (All-take IsForServer (length (up_stanzas (take i (up_words c.wires)))) (up_stanzas (up_words c.wires)) is.for_server));
  for_client =
      subst (λ ds. All IsForClient (down_stanzas ds)) (sym (cut_down_words i j c.wires))
      (subst (All IsForClient) (down_front j (down_words c.wires)) (All-take IsForClient (length (down_stanzas (take j (down_words c.wires)))) (down_stanzas (down_words c.wires)) is.for_client));
}

-- a connection of the device has its pipes
pub wire_of : (who : Identity) (logins : ℕ → Login) (wires : Table ItemWire) (v : View ItemOut) (k : ℕ) (c : Conn ItemOut) (w : ItemWire) → PipesRepresent who logins wires v → v.conns k ≡ Some c → wires k ≡ Some w → IsWire who (logins k) k c w
wire_of who logins wires v k c w pipes is there = subst (IsShown who (logins k) k (Some c)) there (subst (λ o. IsShown who (logins k) k o (wires k)) is (pipes.each k))

-- and a connection that it dialled is its own
pub conn_of : (who : Identity) (logins : ℕ → Login) (wires : Table ItemWire) (v : View ItemOut) (k : ℕ) (w : ItemWire) → PipesRepresent who logins wires v → wires k ≡ Some w → w.device ≡ who.position → (c : Conn ItemOut) × (v.conns k ≡ Some c)
conn_of who logins wires v k w pipes there of = go (v.conns k) refl (subst (IsShown who (logins k) k (v.conns k)) there (pipes.each k))
  where
    go : (o : Option (Conn ItemOut)) → v.conns k ≡ o → IsShown who (logins k) k (v.conns k) (Some w) → (c : Conn ItemOut) × (v.conns k ≡ Some c)
    go None is shown = absurd (subst (λ o. IsShown who (logins k) k o (Some w)) is shown of)
    go (Some c) is shown = (c, is)

-- and where no pipes are, it has no connection
pub none_there : (who : Identity) (x : Login) (k : ℕ) (o : Option (Conn ItemOut)) → IsShown who x k o None → o ≡ None
none_there who x k None shown = refl
none_there who x k (Some c) shown = absurd shown

module _ (who : Identity) (logins : ℕ → Login) (wires : Table ItemWire) (v : View ItemOut) (k i j : ℕ) (c : Conn ItemOut) (w : ItemWire) (is : v.conns k ≡ Some c) where
  pub cut_pipes : PipesRepresent who logins wires v → wires k ≡ Some w → PipesRepresent who logins (with_at k (cut_at i j w) wires) (cut_view k i j c v)
  cut_pipes pipes there =
      shown_at who logins wires (with_at k (cut_at i j w) wires) v (cut_view k i j c v) k (cut_conn i j c) (cut_at i j w) pipes (λ n. refl) (at_same k (cut_at i j w) wires)
      (λ n apart. at_other k (cut_at i j w) wires n apart) (wire_cut who (logins k) k i j c w (wire_of who logins wires v k c w pipes is there))

  pub cut_server : SameServer v (cut_view k i j c v)
  cut_server = record { row = refl; free = refl; known = known_altered (ways_cut (has v.here k) c i j) v; conns = keeps_server_at v.conns k c (cut_conn i j c) is refl refl refl }

  pub cut_client : SameClient v (cut_view k i j c v)
  cut_client = record { here = refl; own = refl; epoch = refl; conns = keeps_at v.conns k c (cut_conn i j c) is refl (λ e. cut_stops i j c.wires) }

  cut_follows : (h : ServerState ItemOut) (d : ItemDevice) → ServerRepresents who logins h v → ClientRepresents who logins d v → PipesRepresent who logins wires v → wires k ≡ Some w
      → CutFollows who logins h d (with_at k (cut_at i j w) wires) v k i j
  cut_follows h d server client pipes there = record {
    next = cut_view k i j c v;
    cuts = record { conn = c; is = is; gives = refl };
    server = row_represents who logins h v server k c is (cut_conn i j c) v.row (alter (ways_cut (has v.here k) c i j) v.sessions) (known_altered (ways_cut (has v.here k) c i j) v) refl server.row;
    client = client_stays who logins d v (cut_view k i j c v) cut_client client;
    pipes = cut_pipes pipes there;
  }

pub cut_of_device : (who : Identity) (logins : ℕ → Login) (h : ServerState ItemOut) (d : ItemDevice) (wires : Table ItemWire) (v : View ItemOut) (k i j : ℕ) (w : ItemWire) → ServerRepresents who logins h v → ClientRepresents who logins d v → PipesRepresent who logins wires v
    → wires k ≡ Some w → w.device ≡ who.position → CutFollows who logins h d (with_at k (cut_at i j w) wires) v k i j
cut_of_device who logins h d wires v k i j w server client pipes there of =
    let c = conn_of who logins wires v k w pipes there of in
    cut_follows who logins wires v k i j c.0 w c.1 h d server client pipes there
