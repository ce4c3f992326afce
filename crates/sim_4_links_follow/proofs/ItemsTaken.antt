-- In a world of items: the first item on its way up is that of the first word, and behind it the pipes are as the
-- step says.
use Rattle.std.proofs.Common.{◌≡◌, ℕ, ◌+◌, List, [], ◌∷◌, Option, Some, None, map, slice_get, refl, sym, ap, subst, ◌∙◌, inl, inr}
use Rattle.std.proofs.lemmas.Bool.{cases_eq}
use Rattle.std.specs.Option.{option_map}
use Rattle.srv_state.specs.State.{Out, ServerState}
use Rattle.sim_3_items.specs.Labels.{Label}
use Rattle.sim_3_items.specs.Identities.{Identity, IsNormal, Login}
use Rattle.sim_3_items.specs.Pipes.{IsShown, IsWire, PipesRepresent, by_number, under}
use Rattle.sim_3_items.specs.Sent.{sent, sent_under}
use Rattle.sim_3_items.specs.Servers.{ServerFollows, ServerRepresents}
use Rattle.sim_3_items.specs.WordItems.{up_item}
use Rattle.sim_3_items.specs.ItemMoves.{all_emitted, served_item}
use Rattle.sim_3_items.specs.ItemPipes.{ItemWire, handed_up}
use Rattle.sim_3_items.specs.ItemWorlds.{ItemWorld}
use Rattle.sim_2_links.proofs.Entries.{at_other, at_same}
use Rattle.sim_2_links.specs.Machine.{LinkReached}
use Rattle.sim_2_links.specs.Stages.{Conn}
use Rattle.sim_2_links.specs.Views.{Table, View, with_at}
use Rattle.sim_2_links.specs.Wires.{up_words}
use Rattle.sim_4_links_follow.proofs.Former.{pipes_as}
use Rattle.sim_4_links_follow.specs.Taking.{HasFirst, IsNext, StepFollows, on_item}
use Rattle.sim_4_links_follow.proofs.Changes.{at_position, under_changed, under_other, under_position}
use Rattle.sim_4_links_follow.proofs.Emitted.{all_sent}
use Rattle.cmd_network.specs.Positions.{changed_at, changed_under}
use Rattle.xml_writer.specs.Items.{ItemOut}

handed_table : (position : ℕ) (wires : List ItemWire) (w : ItemWire) → slice_get wires position ≡ Some w → (j : ℕ) → under j (changed_at position handed_up wires) ≡ with_at (position + 1) (handed_up w) (by_number wires) j
handed_table position wires w there j =
    ap (under j) (at_position position handed_up wires)
    ∙ elim (cases_eq (position + 1) j) [
      | inl same ↦
          subst (λ n. under n (changed_under (position + 1) handed_up wires) ≡ with_at (position + 1) (handed_up w) (by_number wires) n) same
          (under_changed (position + 1) handed_up wires ∙ ap (option_map handed_up) (under_position position wires ∙ there) ∙ sym (at_same (position + 1) (handed_up w) (by_number wires)))
      | inr apart ↦ under_other (position + 1) j handed_up wires apart ∙ sym (at_other (position + 1) (handed_up w) (by_number wires) j apart)
    ]

pub next_wires : (position : ℕ) (outs : List (Out ItemOut)) (wires : List ItemWire) (w : ItemWire) → slice_get wires position ≡ Some w → (j : ℕ)
    → under j (all_emitted outs (changed_at position handed_up wires)) ≡ sent outs (with_at (position + 1) (handed_up w) (by_number wires)) j
next_wires position outs wires w there j = all_sent j outs (changed_at position handed_up wires) ∙ ap (option_map (sent_under j outs)) (handed_table position wires w there j)

-- what follows a step follows it in the world
pub world_follows : (who : Identity) (logins : ℕ → Login) (w : ItemWorld) (v : View ItemOut) (position : ℕ) (wire : ItemWire) (i : ItemOut) (done : List (Label ItemOut)) → slice_get w.wires position ≡ Some wire
    → StepFollows who logins (by_number w.wires) v (position + 1) wire (on_item (position + 1) i w.server) done → ServerFollows who logins (served_item position i w).server (by_number (served_item position i w).wires) v done
world_follows who logins w v position wire i done there step = record {
  moves = step.moves;
  next = step.next;
  leads = step.leads;
  does = step.does;
  server = step.server;
  pipes =
      pipes_as who logins (sent (on_item (position + 1) i w.server).outs (with_at (position + 1) (handed_up wire) (by_number w.wires))) (by_number (served_item position i w).wires) step.next
      (next_wires position (on_item (position + 1) i w.server).outs w.wires wire there) step.pipes;
  client = step.client;
}

-- ---- words

first_of : {S T : Type 0} (f : S → T) (ss : List S) (t : T) (ts : List T) → t ∷ ts ≡ map f ss → (s : S) × (rest : List S) × (ss ≡ s ∷ rest) × (f s ≡ t)
first_of f [] t ts is = absurd (let no_way : ⊥ = cc in no_way)
first_of f (s ∷ ss) t ts is = (s, ss, refl, (let same : f s ≡ t = cc in same))

module _ (who : Identity) (logins : ℕ → Login) (h : ServerState ItemOut) (wires : Table ItemWire) (v : View ItemOut) (k : ℕ) (w : ItemWire) (i : ItemOut) (items : List ItemOut) (normal : IsNormal who) (reached : LinkReached v) (server : ServerRepresents who logins h v)
    (pipes : PipesRepresent who logins wires v) (there : wires k ≡ Some w) (of : w.device ≡ who.position) (first : w.up.items ≡ i ∷ items) where
  pub item_is_word : HasFirst who logins h wires v k w i
  item_is_word = go (v.conns k) refl (subst (IsShown who (logins k) k (v.conns k)) there (pipes.each k))
    where
      on : (c : Conn ItemOut) → v.conns k ≡ Some c → IsWire who (logins k) k c w → HasFirst who logins h wires v k w i
      on c is wire =
          let word = first_of (up_item who (logins k)) (up_words c.wires) i items (sym first ∙ wire.up) in
          record {
            word = word.0;
            is = word.3;
            first = record { normal = normal; reached = reached; server = server; pipes = pipes; conn = c; is = is; rest = word.1; first = word.2; wire = w; there = there };
            same = refl;
          }

      go : (o : Option (Conn ItemOut)) → v.conns k ≡ o → IsShown who (logins k) k (v.conns k) (Some w) → HasFirst who logins h wires v k w i
      go None is shown = absurd (subst (λ o. IsShown who (logins k) k o (Some w)) is shown of)
      go (Some c) is shown = on c is (subst (λ o. IsShown who (logins k) k o (Some w)) is shown)

pub next_is_word : (who : Identity) (logins : ℕ → Login) (h : ServerState ItemOut) (wires : Table ItemWire) (v : View ItemOut) (k : ℕ) (w : ItemWire) (i : ItemOut) → IsNormal who → LinkReached v → ServerRepresents who logins h v → PipesRepresent who logins wires v
    → IsNext who wires k w i → HasFirst who logins h wires v k w i
next_is_word who logins h wires v k w i normal reached server pipes is = item_is_word who logins h wires v k w i is.items normal reached server pipes is.there is.of is.first
