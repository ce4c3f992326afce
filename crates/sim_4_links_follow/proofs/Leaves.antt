-- A client leaves its connection, with a footer or without: the connection is cut behind all that goes up, nothing more
-- comes down, and the client has no connection any more. Where it stands apart nothing changes.
use Rattle.std.proofs.Common.{◌≡◌, ℕ, true, false, not, List, [], ◌∷◌, ◌++◌, Some, None, drop, length, map, refl, sym, ap, subst, ◌∙◌, ◌⊎◌, inl, inr}
use Rattle.std.proofs.Math.Seq.{drop-length, take-length}
use Rattle.std.proofs.lemmas.Bool.{cases_Bool}
use Rattle.std.proofs.lemmas.List.{length-map, map-append}
use Rattle.std.specs.List.{All}
use Rattle.sim_4_links_follow.proofs.CutPipes.{cut_conn, cut_pipes, cut_server, cut_view, wire_of}
use Rattle.sim_4_links_follow.proofs.Former.{pipes_as as pipes_same}
use Rattle.sim_4_links_follow.proofs.Numbered.{at_itself}
use Rattle.sim_4_links_follow.proofs.Stays.{keeps_server, keeps_server_at, same_servers}
use Rattle.sim_3_items.specs.Counted.{IsForClient, IsForServer}
use Rattle.sim_3_items.specs.Labels.{labels_of}
use Rattle.sim_3_items.specs.Frames.{SameServer}
use Rattle.sim_3_items.specs.Identities.{Identity, Login}
use Rattle.sim_3_items.specs.Pipes.{IsWire, PipesRepresent}
use Rattle.sim_3_items.specs.WordItems.{down_item, is_after_login, up_item}
use Rattle.sim_3_items.specs.ItemPipes.{ItemPipe, ItemWire, closed, cut_at, emptied, entered, left, put_up}
use Rattle.sim_2_links.proofs.Entries.{at_other, at_same, is_has}
use Rattle.sim_2_links.proofs.Tables.{cut_down_words, cut_stops}
use Rattle.sim_2_links.specs.EndMoves.{up_lost, with_foot}
use Rattle.sim_2_links.specs.Links.{ArePiped}
use Rattle.sim_2_links.specs.Machine.{Cuts, Foots, LetsGo, LinkMove, LinkReaches}
use Rattle.sim_2_links.specs.Stages.{Conn}
use Rattle.sim_2_links.specs.Views.{Table, View, has, with_at}
use Rattle.sim_2_links.specs.Wires.{Flow, Stop, Wires, cut, down_words, is_flowing, up_words}
use Rattle.sim_2_links.specs.Words.{Ack, Auth, Bind, Enable, Foot, Hdr, Req, Resp, ResumeAt, St, Up, UpWord, down_stanzas, up_stanzas}
use Rattle.sim_4_links_follow.proofs.Flows.{entered_ended}
use Rattle.sim_4_links_follow.proofs.Placed.{shown_at}
use Rattle.sim_4_links_follow.proofs.Servings.{known_same}
use Rattle.xml_writer.specs.Items.{Closing, ItemOut}

-- behind it the client has no connection, and the pipes are these
pub record HasLeft (who : Identity) (logins : ℕ → Login) (wires : Table ItemWire) (v : View ItemOut) : Type 0 where
  pub moves : List (LinkMove ItemOut)
  pub next : View ItemOut
  pub leads : LinkReaches moves v next
  pub does : labels_of moves ≡ []
  pub idle : next.here ≡ None
  pub own : next.own ≡ v.own
  pub epoch : next.epoch ≡ v.epoch
  pub pipes : PipesRepresent who logins wires next
  pub server : SameServer v next

pub left_same : (who : Identity) (logins : ℕ → Login) (wires same : Table ItemWire) (v : View ItemOut) → ((j : ℕ) → same j ≡ wires j) → HasLeft who logins wires v → HasLeft who logins same v
left_same who logins wires same v alike l = record {
  moves = l.moves;
  next = l.next;
  leads = l.leads;
  does = l.does;
  idle = l.idle;
  own = l.own;
  epoch = l.epoch;
  pipes = pipes_same who logins wires same l.next alike l.pipes;
  server = l.server;
}

-- where it has none nothing is left
pub none_left : (who : Identity) (logins : ℕ → Login) (wires : Table ItemWire) (v : View ItemOut) → PipesRepresent who logins wires v → v.here ≡ None → HasLeft who logins wires v
none_left who logins wires v pipes idle = record {
  moves = [];
  next = v;
  leads = refl;
  does = refl;
  idle = idle;
  own = refl;
  epoch = refl;
  pipes = pipes;
  server = record { row = refl; free = refl; known = known_same v; conns = λ j. keeps_server (v.conns j) };
}

-- ---- pipes that are left

left_is_cut : (w : ItemWire) → left w ≡ cut_at (length w.up.items) 0 w
left_is_cut w = ap (λ is. record w { up = record w.up { items = is; ended = true }; down = emptied w.down }) (sym (take-length w.up.items))

closed_still : (p : ItemPipe) → p.ended ≡ true → closed p ≡ p
closed_still p e = ap (λ b. record p { ended = b }) (sym e)

emptied_still : (p : ItemPipe) → p.items ≡ [] → p.ended ≡ true → emptied p ≡ p
emptied_still p none e = ap (λ is. record p { items = is; ended = true }) (sym none) ∙ closed_still p e

left_still : (w : ItemWire) → w.up.ended ≡ true → w.down.items ≡ [] → w.down.ended ≡ true → left w ≡ w
left_still w up none down = ap (λ p. record w { up = p; down = emptied w.down }) (closed_still w.up up) ∙ ap (λ p. record w { down = p }) (emptied_still w.down none down)

put_ended : (items : List ItemOut) (w : ItemWire) → w.up.ended ≡ true → left (put_up items w) ≡ left w
put_ended items w ended = ap (λ p. left (record w { up = p })) (entered_ended items w.up ended)

-- what is put before
abbrev following : List ItemOut → ItemWire → ItemWire
following items w = record w { up = record w.up { items = w.up.items ++ items } }

entered_as : (items : List ItemOut) (p : ItemPipe) → p.ended ≡ false → entered items p ≡ record p { items = p.items ++ items }
entered_as items p flows = rw flows refl

put_flowing : (items : List ItemOut) (w : ItemWire) → w.up.ended ≡ false → left (put_up items w) ≡ following items (left w)
put_flowing items w flows = ap (λ p. left (record w { up = p })) (entered_as items w.up flows)

-- ---- a footer

foot_up : {A : Type 0} (ws : Wires A) → up_words (with_foot ws) ≡ up_words ws ++ Foot ∷ []
foot_up (Flow us ds) = refl
foot_up (Stop us ds lu ld) = refl

foot_down : {A : Type 0} (ws : Wires A) → down_words (with_foot ws) ≡ down_words ws
foot_down (Flow us ds) = refl
foot_down (Stop us ds lu ld) = refl

foot_flows : {A : Type 0} (ws : Wires A) → is_flowing (with_foot ws) ≡ is_flowing ws
foot_flows (Flow us ds) = refl
foot_flows (Stop us ds lu ld) = refl

foot_stanzas : {A : Type 0} (ws : List (UpWord A)) → up_stanzas (ws ++ Foot ∷ []) ≡ up_stanzas ws
foot_stanzas [] = refl
foot_stanzas (Up (St z) ∷ ws) = ap (λ zs. z ∷ zs) (foot_stanzas ws)
foot_stanzas (Up Req ∷ ws) = foot_stanzas ws
foot_stanzas (Up (Ack n) ∷ ws) = foot_stanzas ws
foot_stanzas (Hdr ∷ ws) = foot_stanzas ws
foot_stanzas (Auth ∷ ws) = foot_stanzas ws
foot_stanzas (Resp ∷ ws) = foot_stanzas ws
foot_stanzas (ResumeAt p h ∷ ws) = foot_stanzas ws
foot_stanzas (Bind ∷ ws) = foot_stanzas ws
foot_stanzas (Enable ∷ ws) = foot_stanzas ws
foot_stanzas (Foot ∷ ws) = foot_stanzas ws

abbrev footed_conn : Conn ItemOut → Conn ItemOut
footed_conn c = record c { footed = true; wires = with_foot c.wires }

wire_footed : (who : Identity) (x : Login) (k : ℕ) (c : Conn ItemOut) (w : ItemWire) → IsWire who x k c w → IsWire who x k (footed_conn c) (following (Closing ∷ []) w)
wire_footed who x k c w is = record {
  of = is.of;
  login = is.login;
  up = ap (λ l. l ++ Closing ∷ []) is.up ∙ sym (map-append (up_item who x) (up_words c.wires) (Foot ∷ [])) ∙ ap (map (up_item who x)) (sym (foot_up c.wires));
  down = is.down ∙ ap (map (down_item who x k (is_after_login c.client))) (sym (foot_down c.wires));
  up_ended = is.up_ended ∙ ap not (sym (foot_flows c.wires));
  down_ended = is.down_ended ∙ ap not (sym (foot_flows c.wires));
  gone = is.gone;
  for_server = subst (λ us. All IsForServer (up_stanzas us)) (sym (foot_up c.wires)) (subst (All IsForServer) (sym (foot_stanzas (up_words c.wires))) is.for_server);
  for_client = subst (λ ds. All IsForClient (down_stanzas ds)) (sym (foot_down c.wires)) is.for_client;
}

none_lost : {A : Type 0} (i j : ℕ) (ws : Wires A) → is_flowing ws ≡ true → drop i (up_words ws) ≡ [] → up_lost (cut i j ws) ≡ []
none_lost i j (Flow us ds) flows all = all
none_lost i j (Stop us ds lu ld) flows all = absurd (let no_way : ⊥ = cc in no_way)

-- ---- on the connection that the device has

module _ (who : Identity) (logins : ℕ → Login) (wires : Table ItemWire) (v : View ItemOut) (pipes : PipesRepresent who logins wires v) (k : ℕ) (c : Conn ItemOut) (is : v.conns k ≡ Some c) (w : ItemWire) (there : wires k ≡ Some w) (piped : ArePiped (has v.here k) c) where
  wire : IsWire who (logins k) k c w
  wire = wire_of who logins wires v k c w pipes is there

  abbrev all : ℕ
  all = length w.up.items

  abbrev stopped : Conn ItemOut
  stopped = cut_conn all 0 c

  abbrev middle : View ItemOut
  middle = cut_view k all 0 c v

  abbrev gone_from : View ItemOut
  gone_from = record middle { here = None }

  all_stay : drop all (up_words c.wires) ≡ []
  all_stay = ap (λ n. drop n (up_words c.wires)) (ap length wire.up ∙ length-map (up_words c.wires) (up_item who (logins k))) ∙ drop-length (up_words c.wires)

  left_pipes : PipesRepresent who logins (with_at k (left w) wires) middle
  left_pipes = pipes_same who logins (with_at k (cut_at all 0 w) wires) (with_at k (left w) wires) middle (λ j. ap (λ u. with_at k u wires j) (left_is_cut w)) (cut_pipes who logins wires v k all 0 c w is pipes there)

  plainly : v.here ≡ Some k → HasLeft who logins (with_at k (left w) wires) v
  plainly here = record {
    moves = Cuts k all 0 ∷ LetsGo k ∷ [];
    next = gone_from;
    leads = (middle, record { conn = c; is = is; gives = refl }, (gone_from, record { conn = stopped; here = here; is = at_same k stopped v.conns; ended = cut_stops all 0 c.wires; empty = cut_down_words all 0 c.wires; gives = refl }, refl));
    does = refl;
    idle = refl;
    own = refl;
    epoch = refl;
    pipes = record { each = left_pipes.each };
    server = let same = cut_server who logins wires v k all 0 c w is in record { row = refl; free = refl; known = same.known; conns = same.conns };
  }

  abbrev footed : Conn ItemOut
  footed = footed_conn stopped

  abbrev after_foot : View ItemOut
  after_foot = record gone_from { conns = with_at k footed gone_from.conns }

  with_footer : v.here ≡ Some k → is_flowing c.wires ≡ true → HasLeft who logins (with_at k (left (put_up (Closing ∷ []) w)) wires) v
  unfolding plainly
  with_footer here flows =
      let works : has v.here k ≡ true = is_has v.here k here in
      let stands = piped.flowing flows in
      let open_up : w.up.ended ≡ false = wire.up_ended ∙ ap not flows in
      let one : IsWire who (logins k) k stopped (left w) = wire_of who logins (with_at k (left w) wires) middle k stopped (left w) left_pipes (at_same k stopped v.conns) (at_same k (left w) wires) in
      let two : IsWire who (logins k) k footed (left (put_up (Closing ∷ []) w)) = subst (IsWire who (logins k) k footed) (sym (put_flowing (Closing ∷ []) w open_up)) (wire_footed who (logins k) k stopped (left w) one) in
      record {
        moves = Cuts k all 0 ∷ LetsGo k ∷ Foots k ∷ [];
        next = after_foot;
        leads = (
          middle,
          record { conn = c; is = is; gives = refl },
          (
            gone_from,
            record { conn = stopped; here = here; is = at_same k stopped v.conns; ended = cut_stops all 0 c.wires; empty = cut_down_words all 0 c.wires; gives = refl },
            (
              after_foot,
              record { conn = stopped; left = refl; is = at_same k stopped v.conns; unfooted = piped.unfooted works; stands = stands.1; untold = stands.2; whole = none_lost all 0 c.wires flows all_stay; gives = refl },
              refl,
            ),
          ),
        );
        does = refl;
        idle = refl;
        own = refl;
        epoch = refl;
        pipes =
            shown_at who logins (with_at k (left w) wires) (with_at k (left (put_up (Closing ∷ []) w)) wires) middle after_foot k footed (left (put_up (Closing ∷ []) w)) left_pipes (λ j. refl)
            (at_same k (left (put_up (Closing ∷ []) w)) wires) (λ j apart. at_other k (left (put_up (Closing ∷ []) w)) wires j apart ∙ sym (at_other k (left w) wires j apart)) two;
        server = same_servers v gone_from after_foot (plainly here).server
            (record { row = refl; free = refl; known = known_same gone_from; conns = keeps_server_at gone_from.conns k stopped footed (at_same k stopped v.conns) refl refl refl });
      }

  -- it stood apart
  apart : v.here ≡ None → is_flowing c.wires ≡ false → HasLeft who logins (with_at k (left w) wires) v
  apart idle ended =
      let away : has v.here k ≡ false = ap (λ o. has o k) idle in
      let nothing : w.down.items ≡ [] = wire.down ∙ ap (map (down_item who (logins k) k (is_after_login c.client))) (piped.left away) in
      let same : left w ≡ w = left_still w (wire.up_ended ∙ ap not ended) nothing (wire.down_ended ∙ ap not ended) in
      none_left who logins (with_at k (left w) wires) v (pipes_same who logins wires (with_at k (left w) wires) v (λ j. ap (λ u. with_at k u wires j) same ∙ at_itself k w wires there j) pipes) idle

  -- where a connection stands the footer goes out
  pub leaves_with : (items : List ItemOut) → (v.here ≡ Some k) ⊎ ((v.here ≡ None) × (is_flowing c.wires ≡ false)) → (v.here ≡ Some k → items ≡ Closing ∷ []) → HasLeft who logins (with_at k (left (put_up items w)) wires) v
  leaves_with items where_it_is foot = go (cases_Bool (is_flowing c.wires)) where_it_is
    where
      without : is_flowing c.wires ≡ false → HasLeft who logins (with_at k (left w) wires) v → HasLeft who logins (with_at k (left (put_up items w)) wires) v
      without ended l = left_same who logins (with_at k (left w) wires) (with_at k (left (put_up items w)) wires) v (λ j. ap (λ u. with_at k u wires j) (put_ended items w (wire.up_ended ∙ ap not ended))) l

      go : (is_flowing c.wires ≡ true) ⊎ (is_flowing c.wires ≡ false) → (v.here ≡ Some k) ⊎ ((v.here ≡ None) × (is_flowing c.wires ≡ false)) → HasLeft who logins (with_at k (left (put_up items w)) wires) v
      go flowing (inr (idle, ended)) = without ended (apart idle ended)
      go (inr ended) (inl here) = without ended (plainly here)
      go (inl flows) (inl here) = subst (λ is. HasLeft who logins (with_at k (left (put_up is w)) wires) v) (sym (foot here)) (with_footer here flows)

  pub leaves_plainly : (v.here ≡ Some k) ⊎ ((v.here ≡ None) × (is_flowing c.wires ≡ false)) → HasLeft who logins (with_at k (left w) wires) v
  leaves_plainly (inl here) = plainly here
  leaves_plainly (inr (idle, ended)) = apart idle ended
