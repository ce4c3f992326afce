-- What is put out for connections that are none of a device leaves its pipes.
use Rattle.std.proofs.Common.{◌≡◌, ◌≢◌, ℕ, List, [], ◌∷◌, ◌++◌, Option, Some, None, refl, sym, ap, subst, ◌∙◌, inl, inr}
use Rattle.std.proofs.lemmas.Bool.{cases_eq}
use Rattle.std.specs.Option.{option_map}
use Rattle.srv_state.specs.State.{Out, Put, Shut}
use Rattle.sim_3_items.specs.Identities.{Identity, Login}
use Rattle.sim_3_items.specs.Pipes.{IsShown, IsWire, PipesRepresent}
use Rattle.sim_3_items.specs.Sent.{sent, sent_under}
use Rattle.sim_3_items.specs.ItemPipes.{ItemWire, put_down, shut}
use Rattle.sim_2_links.proofs.Entries.{at_other, at_same}
use Rattle.sim_2_links.specs.Stages.{Conn}
use Rattle.sim_2_links.specs.Views.{Table, View, with_at}
use Rattle.sim_4_links_follow.proofs.ServersOthers.{sent_device}
use Rattle.sim_4_links_follow.proofs.Emitted.{one_apart, sent_both}
use Rattle.sim_4_links_follow.proofs.Placed.{shown_as}
use Rattle.xml_writer.specs.Items.{ItemOut}

abbrev pub AreElsewhere : View ItemOut → List (Out ItemOut) → Type 0
AreElsewhere u outs = (j : ℕ) (e : Conn ItemOut) → u.conns j ≡ Some e → (w : ItemWire) → sent_under j outs w ≡ w

pub none_elsewhere : (u : View ItemOut) → AreElsewhere u []
none_elsewhere u j e there w = refl

pub apart_from : (u : View ItemOut) (k j : ℕ) (e : Conn ItemOut) → u.conns k ≡ None → u.conns j ≡ Some e → k ≢ j
apart_from u k j e none there same = let here : u.conns k ≡ Some e = subst (λ n. u.conns n ≡ Some e) (sym same) there in let no_way : ⊥ = cc in no_way

pub both_elsewhere : (u : View ItemOut) (outs more : List (Out ItemOut)) → AreElsewhere u outs → AreElsewhere u more → AreElsewhere u (outs ++ more)
both_elsewhere u outs more some others j e there w = sent_both j outs more w ∙ ap (sent_under j more) (some j e there w) ∙ others j e there w

pub put_elsewhere : (u : View ItemOut) (k : ℕ) (i : ItemOut) → u.conns k ≡ None → AreElsewhere u (Put k i ∷ [])
put_elsewhere u k i none j e there w = one_apart k j (put_down (i ∷ [])) w (apart_from u k j e none there)

pub shut_elsewhere : (u : View ItemOut) (k : ℕ) → u.conns k ≡ None → AreElsewhere u (Shut k ∷ [])
shut_elsewhere u k none j e there w = one_apart k j shut w (apart_from u k j e none there)

module _ (whom : Identity) (others : ℕ → Login) (wires : Table ItemWire) (u : View ItemOut) (pipes : PipesRepresent whom others wires u) where
  pub sent_beside : (outs : List (Out ItemOut)) → AreElsewhere u outs → PipesRepresent whom others (sent outs wires) u
  sent_beside outs away = record { each = λ j. each j (u.conns j) refl (wires j) (pipes.each j) }
    where
      each : (j : ℕ) (o : Option (Conn ItemOut)) → u.conns j ≡ o → (m : Option ItemWire) → IsShown whom (others j) j o m → IsShown whom (others j) j o (option_map (sent_under j outs) m)
      each j None is None shown = tt
      each j None is (Some w) shown = λ of. shown (sym (sent_device j outs w) ∙ of)
      each j (Some e) is None shown = absurd shown
      each j (Some e) is (Some w) shown = subst (IsWire whom (others j) j e) (sym (away j e is w)) shown

  -- a connection of another device is changed
  pub with_beside : (k : ℕ) (w : ItemWire) → u.conns k ≡ None → w.device ≢ whom.position → PipesRepresent whom others (with_at k w wires) u
  with_beside k w none foreign = record { each = each }
    where
      each : (j : ℕ) → IsShown whom (others j) j (u.conns j) (with_at k w wires j)
      each j =
          elim (cases_eq k j) [
            | inl same ↦ subst (λ n. IsShown whom (others n) n (u.conns n) (with_at k w wires n)) same (shown_as whom (others k) k None (u.conns k) (Some w) (with_at k w wires k) none (at_same k w wires) foreign)
            | inr apart ↦ shown_as whom (others j) j (u.conns j) (u.conns j) (wires j) (with_at k w wires j) refl (at_other k w wires j apart) (pipes.each j)
          ]

  -- a number under which there is no connection is none of the device's
  pub unknown : (k : ℕ) → wires k ≡ None → u.conns k ≡ None
  unknown k none = go (u.conns k) refl (pipes.each k)
    where
      go : (o : Option (Conn ItemOut)) → u.conns k ≡ o → IsShown whom (others k) k (u.conns k) (wires k) → u.conns k ≡ None
      go None is shown = is
      go (Some e) is shown = absurd (subst (IsShown whom (others k) k (Some e)) none (subst (λ o. IsShown whom (others k) k o (wires k)) is shown))
