-- All connections of a device, where one of them changes.
use Rattle.std.proofs.Common.{◌≡◌, ◌≢◌, ℕ, false, List, Option, Some, None, refl, sym, ap, subst, ◌∙◌, inl, inr}
use Rattle.std.proofs.lemmas.Bool.{cases_eq}
use Rattle.std.specs.Option.{option_map}
use Rattle.srv_state.specs.State.{Out}
use Rattle.sim_3_items.specs.Frames.{KeepsClient}
use Rattle.sim_3_items.specs.Identities.{Identity, Login}
use Rattle.sim_3_items.specs.Pipes.{IsShown, IsWire, PipesRepresent}
use Rattle.sim_3_items.specs.Sent.{sent, sent_under}
use Rattle.sim_3_items.specs.ItemPipes.{ItemWire}
use Rattle.sim_2_links.proofs.Entries.{at_other, at_same}
use Rattle.sim_2_links.specs.Stages.{Conn}
use Rattle.sim_2_links.specs.Views.{Table, View, with_at}
use Rattle.sim_2_links.specs.Wires.{is_flowing}
use Rattle.sim_4_links_follow.proofs.Emitted.{AreFor}
use Rattle.xml_writer.specs.Items.{ItemOut}

pub shown_as : (who : Identity) (x : Login) (k : ℕ) (o p : Option (Conn ItemOut)) (m n : Option ItemWire) → p ≡ o → n ≡ m → IsShown who x k o m → IsShown who x k p n
shown_as who x k o p m n conn wire shown = subst (λ q. IsShown who x k q n) (sym conn) (subst (IsShown who x k o) (sym wire) shown)

-- one changes, and the others are as they were
pub shown_at : (who : Identity) (logins : ℕ → Login) (wires after : Table ItemWire) (v next : View ItemOut) (k : ℕ) (c : Conn ItemOut) (w : ItemWire)
    → PipesRepresent who logins wires v → ((j : ℕ) → next.conns j ≡ with_at k c v.conns j) → after k ≡ Some w → ((j : ℕ) → k ≢ j → after j ≡ wires j) → IsWire who (logins k) k c w → PipesRepresent who logins after next
shown_at who logins wires after v next k c w old conns here others is = record { each = each }
  where
    each : (j : ℕ) → IsShown who (logins j) j (next.conns j) (after j)
    each j =
        elim (cases_eq k j) [
          | inl same ↦ subst (λ n. IsShown who (logins n) n (next.conns n) (after n)) same
              (shown_as who (logins k) k (Some c) (next.conns k) (Some w) (after k) (conns k ∙ at_same k c v.conns) here is)
          | inr apart ↦ shown_as who (logins j) j (v.conns j) (next.conns j) (wires j) (after j) (conns j ∙ at_other k c v.conns j apart) (others j apart) (old.each j)
        ]

pub left_apart : (k : ℕ) (outs : List (Out ItemOut)) → AreFor k outs → (j : ℕ) → k ≢ j → (o : Option ItemWire) → option_map (sent_under j outs) o ≡ o
left_apart k outs for j apart None = refl
left_apart k outs for j apart (Some w) = ap Some (for j w apart)

-- where an item was handed over there, and these are put out
pub shown_sent : (who : Identity) (logins : ℕ → Login) (wires : Table ItemWire) (v next : View ItemOut) (k : ℕ) (c : Conn ItemOut) (w done : ItemWire) (outs : List (Out ItemOut))
    → PipesRepresent who logins wires v → ((j : ℕ) → next.conns j ≡ with_at k c v.conns j) → AreFor k outs → IsWire who (logins k) k c (sent_under k outs done) → PipesRepresent who logins (sent outs (with_at k done wires)) next
shown_sent who logins wires v next k c w done outs old conns for is =
    shown_at who logins wires (sent outs (with_at k done wires)) v next k c (sent_under k outs done) old conns (ap (option_map (sent_under k outs)) (at_same k done wires))
    (λ j apart. ap (option_map (sent_under j outs)) (at_other k done wires j apart) ∙ left_apart k outs for j apart (wires j)) is

-- ---- what the client has of them

pub keeps_all : (o : Option (Conn ItemOut)) → KeepsClient o o
keeps_all None = tt
keeps_all (Some c) = (refl, λ e. e)

pub keeps_at : (t : Table (Conn ItemOut)) (k : ℕ) (c next : Conn ItemOut) → t k ≡ Some c → next.client ≡ c.client → (is_flowing c.wires ≡ false → is_flowing next.wires ≡ false) → (j : ℕ) → KeepsClient (t j) (with_at k next t j)
keeps_at t k c next is client ended j =
    elim (cases_eq k j) [
      | inl same ↦ subst (λ n. KeepsClient (t n) (with_at k next t n)) same (subst (λ o. KeepsClient o (with_at k next t k)) (sym is) (subst (KeepsClient (Some c)) (sym (at_same k next t)) (client, ended)))
      | inr apart ↦ subst (KeepsClient (t j)) (sym (at_other k next t j apart)) (keeps_all (t j))
    ]
