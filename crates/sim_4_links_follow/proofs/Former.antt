-- Two connections of a device: the one is shut, and then a word is taken from the other.
use Rattle.std.proofs.Common.{◌≡◌, ◌≢◌, ℕ, List, ◌∷◌, ◌++◌, Option, Some, None, map, refl, sym, ap, subst, ◌∙◌, inl, inr}
use Rattle.std.proofs.lemmas.Bool.{cases_eq}
use Rattle.std.specs.List.{All}
use Rattle.std.specs.Option.{option_map}
use Rattle.srv_state.specs.State.{Out}
use Rattle.sim_3_items.specs.Counted.{IsForClient}
use Rattle.sim_3_items.specs.Frames.{KeepsClient, SameClient}
use Rattle.sim_3_items.specs.Identities.{Identity, Login}
use Rattle.sim_3_items.specs.Pipes.{IsShown, IsWire, PipesRepresent}
use Rattle.sim_3_items.specs.Sent.{sent, sent_under}
use Rattle.sim_3_items.specs.WordItems.{down_item, is_after_login}
use Rattle.sim_3_items.specs.ItemPipes.{ItemWire, handed_up, put_down, shut}
use Rattle.sim_2_links.proofs.Entries.{at_other, at_same}
use Rattle.sim_2_links.specs.SessionMoves.{shut as shut_conn}
use Rattle.sim_2_links.specs.Stages.{Conn, Ending, tail_of}
use Rattle.sim_2_links.specs.Views.{Table, View, with_at}
use Rattle.sim_2_links.specs.Wires.{left_up, send_down, up_words}
use Rattle.sim_2_links.specs.Words.{DownWord, Phase, UpWord, down_stanzas}
use Rattle.sim_4_links_follow.proofs.Shuts.{shuts_are_for, shuts_at, shuts_here}
use Rattle.sim_4_links_follow.proofs.Emitted.{AreFor, puts_are_for, puts_at, puts_here, sent_both}
use Rattle.sim_4_links_follow.proofs.Placed.{shown_as, shown_at, shown_sent}
use Rattle.sim_4_links_follow.proofs.Taken.{wire_shut, wire_taken}
use Rattle.xml_writer.specs.Items.{ItemOut}

-- a connection of the device has its pipes
pub record HasWire (who : Identity) (x : Login) (k : ℕ) (c : Conn ItemOut) (m : Option ItemWire) : Type 0 where
  pub wire : ItemWire
  pub there : m ≡ Some wire
  pub is : IsWire who x k c wire

has_wire_in : (who : Identity) (x : Login) (k : ℕ) (c : Conn ItemOut) (m : Option ItemWire) → IsShown who x k (Some c) m → HasWire who x k c m
has_wire_in who x k c None shown = absurd shown
has_wire_in who x k c (Some w) shown = record { wire = w; there = refl; is = shown }

pub has_wire : (who : Identity) (logins : ℕ → Login) (wires : Table ItemWire) (v : View ItemOut) (k : ℕ) (c : Conn ItemOut) → PipesRepresent who logins wires v → v.conns k ≡ Some c → HasWire who (logins k) k c (wires k)
has_wire who logins wires v k c pipes is = has_wire_in who (logins k) k c (wires k) (subst (λ o. IsShown who (logins k) k o (wires k)) is (pipes.each k))

pub keeps_both : (a b c : Option (Conn ItemOut)) → KeepsClient a b → KeepsClient b c → KeepsClient a c
keeps_both None None None first then_so = tt
keeps_both None None (Some c) first then_so = absurd then_so
keeps_both None (Some b) c first then_so = absurd first
keeps_both (Some a) None c first then_so = absurd first
keeps_both (Some a) (Some b) None first then_so = absurd then_so
keeps_both (Some a) (Some b) (Some c) first then_so = (then_so.0 ∙ first.0, λ ended. then_so.1 (first.1 ended))

pub pipes_as : (who : Identity) (logins : ℕ → Login) (wires same : Table ItemWire) (v : View ItemOut) → ((j : ℕ) → same j ≡ wires j) → PipesRepresent who logins wires v → PipesRepresent who logins same v
pipes_as who logins wires same v alike pipes = record { each = λ j. shown_as who (logins j) j (v.conns j) (v.conns j) (wires j) (same j) refl (alike j) (pipes.each j) }

module _ (who : Identity) (logins : ℕ → Login) (wires : Table ItemWire) (v : View ItemOut) (pipes : PipesRepresent who logins wires v) (f k : ℕ) (apart : f ≢ k) where
  -- what was sent to the one first and then to the other
  pub sent_apart : (outs more : List (Out ItemOut)) (w : ItemWire) → wires k ≡ Some w → AreFor f outs → (j : ℕ) → sent (outs ++ more) (with_at k (handed_up w) wires) j ≡ sent more (with_at k (handed_up w) (sent outs wires)) j
  sent_apart outs more w there for j =
      elim (cases_eq k j) [
        | inl same ↦ subst (λ n. sent (outs ++ more) (with_at k (handed_up w) wires) n ≡ sent more (with_at k (handed_up w) (sent outs wires)) n) same
            (ap (option_map (sent_under k (outs ++ more))) (at_same k (handed_up w) wires)
            ∙ ap Some (sent_both k outs more (handed_up w) ∙ ap (sent_under k more) (for k (handed_up w) apart))
            ∙ sym (ap (option_map (sent_under k more)) (at_same k (handed_up w) (sent outs wires))))
        | inr other ↦
            ap (option_map (sent_under j (outs ++ more))) (at_other k (handed_up w) wires j other)
            ∙ both_sent j outs more (wires j)
            ∙ sym (ap (option_map (sent_under j more)) (at_other k (handed_up w) (sent outs wires) j other))
      ]
    where
      both_sent : (n : ℕ) (some others : List (Out ItemOut)) (o : Option ItemWire) → option_map (sent_under n (some ++ others)) o ≡ option_map (sent_under n others) (option_map (sent_under n some) o)
      both_sent n some others None = refl
      both_sent n some others (Some u) = ap Some (sent_both n some others u)

  -- the one is shut
  pub shut_first : (former : Conn ItemOut) (ending : Ending) (words : List ItemOut) → v.conns f ≡ Some former → words ≡ map (down_item who (logins f) f (is_after_login former.client)) (tail_of ending)
      → PipesRepresent who logins (sent (shuts_at f words) wires) (record v { conns = with_at f (shut_conn ending former) v.conns })
  shut_first former ending words is_former same_words =
      let has = has_wire who logins wires v f former pipes is_former in
      let closed : IsWire who (logins f) f (shut_conn ending former) (sent_under f (shuts_at f words) has.wire) =
      subst (IsWire who (logins f) f (shut_conn ending former)) (sym (shuts_here f words has.wire ∙ ap (λ l. shut (put_down l has.wire)) same_words)) (wire_shut who (logins f) f former has.wire has.is ending) in
      shown_at who logins wires (sent (shuts_at f words) wires) v (record v { conns = with_at f (shut_conn ending former) v.conns }) f (shut_conn ending former) (sent_under f (shuts_at f words) has.wire) pipes (λ j. refl)
      (ap (option_map (sent_under f (shuts_at f words))) has.there) (λ j other. left_so j other (wires j)) closed
    where
      left_so : (j : ℕ) → f ≢ j → (o : Option ItemWire) → option_map (sent_under j (shuts_at f words)) o ≡ o
      left_so j other None = refl
      left_so j other (Some u) = ap Some (shuts_are_for f words j u other)

  pub shut_then_taken : (former : Conn ItemOut) (ending : Ending) (words : List ItemOut) (c : Conn ItemOut) (w : ItemWire) (word : UpWord ItemOut) (rest : List (UpWord ItemOut)) (at : Phase) (puts : List (DownWord ItemOut)) (items : List ItemOut) (next : View ItemOut)
      → v.conns f ≡ Some former → v.conns k ≡ Some c → wires k ≡ Some w → up_words c.wires ≡ word ∷ rest
      → words ≡ map (down_item who (logins f) f (is_after_login former.client)) (tail_of ending) → items ≡ map (down_item who (logins k) k (is_after_login c.client)) puts → All IsForClient (down_stanzas puts)
      → next.conns ≡ with_at k (record c { phase = at; wires = send_down puts (left_up rest c.wires) }) (with_at f (shut_conn ending former) v.conns)
      → PipesRepresent who logins (sent (shuts_at f words ++ puts_at k items) (with_at k (handed_up w) wires)) next
  shut_then_taken former ending words c w word rest at puts items next is_former is there first same_words same_items stanzas conns =
      let middle : View ItemOut = record v { conns = with_at f (shut_conn ending former) v.conns } in
      let shut_so : PipesRepresent who logins (sent (shuts_at f words) wires) middle = shut_first former ending words is_former same_words in
      pipes_as who logins (sent (puts_at k items) (with_at k (handed_up w) (sent (shuts_at f words) wires))) (sent (shuts_at f words ++ puts_at k items) (with_at k (handed_up w) wires)) next
      (sent_apart (shuts_at f words) (puts_at k items) w there (shuts_are_for f words))
      (shown_sent who logins (sent (shuts_at f words) wires) middle next k (record c { phase = at; wires = send_down puts (left_up rest c.wires) }) w (handed_up w) (puts_at k items) shut_so (λ j. ap (λ t. t j) conns) (puts_are_for k items)
      (subst (IsWire who (logins k) k (record c { phase = at; wires = send_down puts (left_up rest c.wires) })) (sym (puts_here k items (handed_up w) ∙ ap (λ l. put_down l (handed_up w)) same_items))
      (wire_taken who (logins k) k c w mine_w word rest puts at first stanzas)))
    where
      mine_w : IsWire who (logins k) k c w
      mine_w = subst (IsShown who (logins k) k (Some c)) there (subst (λ o. IsShown who (logins k) k o (wires k)) is (pipes.each k))

pub same_clients : (u v w : View ItemOut) → SameClient u v → SameClient v w → SameClient u w
same_clients u v w first then_so = record {
  here = then_so.here ∙ first.here;
  own = then_so.own ∙ first.own;
  epoch = then_so.epoch ∙ first.epoch;
  conns = λ k. keeps_both (u.conns k) (v.conns k) (w.conns k) (first.conns k) (then_so.conns k);
}
