-- The pipes of a device as the server puts out more: for it, or for others.
use Rattle.std.proofs.Common.{◌≡◌, ℕ, List, [], ◌∷◌, ◌++◌, Option, Some, None, map, refl, sym, ap, subst, ◌∙◌, inl, inr}
use Rattle.std.proofs.lemmas.Bool.{cases_eq}
use Rattle.std.specs.List.{All}
use Rattle.std.specs.Option.{option_map}
use Rattle.srv_state.specs.State.{Out, Took}
use Rattle.sim_3_items.specs.Counted.{IsForClient}
use Rattle.sim_3_items.specs.Identities.{Identity, Login}
use Rattle.sim_3_items.specs.Pipes.{IsShown, IsWire, PipesRepresent}
use Rattle.sim_3_items.specs.Sent.{sent, sent_under}
use Rattle.sim_3_items.specs.WordItems.{down_item, is_after_login}
use Rattle.sim_3_items.specs.ItemPipes.{ItemWire, put_down, shut}
use Rattle.sim_2_links.specs.SessionMoves.{shut as shut_conn}
use Rattle.sim_2_links.specs.Stages.{Conn, Ending, tail_of}
use Rattle.sim_2_links.specs.Views.{Table, View, with_at}
use Rattle.sim_2_links.specs.Wires.{send_down}
use Rattle.sim_2_links.specs.Words.{DownWord, down_stanzas}
use Rattle.sim_4_links_follow.proofs.Demanding.{sent_more}
use Rattle.sim_4_links_follow.proofs.Former.{has_wire, pipes_as}
use Rattle.sim_4_links_follow.proofs.ServersOthers.{sent_device}
use Rattle.sim_4_links_follow.proofs.Shuts.{shuts_are_for, shuts_at, shuts_here}
use Rattle.sim_4_links_follow.proofs.Emitted.{AreFor, puts_are_for, puts_at, puts_here}
use Rattle.sim_4_links_follow.proofs.Placed.{shown_as, shown_at, left_apart}
use Rattle.sim_4_links_follow.proofs.Taken.{wire_put, wire_shut}
use Rattle.xml_writer.specs.Items.{ItemOut}

module _ (who : Identity) (logins : ℕ → Login) (wires : Table ItemWire) (v : View ItemOut) where
  -- behind more that is put out
  pub more_put_out : (outs more : List (Out ItemOut)) → PipesRepresent who logins (sent more (sent outs wires)) v → PipesRepresent who logins (sent (outs ++ more) wires) v
  more_put_out outs more pipes = pipes_as who logins (sent more (sent outs wires)) (sent (outs ++ more) wires) v (sent_more outs more wires) pipes

  pub nothing_put_out : PipesRepresent who logins wires v → PipesRepresent who logins (sent [] wires) v
  nothing_put_out pipes = pipes_as who logins wires (sent [] wires) v (λ j. same j (wires j)) pipes
    where
      same : (j : ℕ) (o : Option ItemWire) → option_map (sent_under j []) o ≡ o
      same j None = refl
      same j (Some w) = refl

  pub told_out : (from to origin : List ℕ) → PipesRepresent who logins wires v → PipesRepresent who logins (sent (Took from to origin ∷ []) wires) v
  told_out from to origin pipes = pipes_as who logins wires (sent (Took from to origin ∷ []) wires) v (λ j. same j (wires j)) pipes
    where
      same : (j : ℕ) (o : Option ItemWire) → option_map (sent_under j (Took from to origin ∷ [])) o ≡ o
      same j None = refl
      same j (Some w) = refl

  module _ (pipes : PipesRepresent who logins wires v) where
    -- for a connection that is none of the device's
    pub sent_elsewhere : (k : ℕ) (outs : List (Out ItemOut)) → AreFor k outs → v.conns k ≡ None → PipesRepresent who logins (sent outs wires) v
    sent_elsewhere k outs for none = record { each = each }
      where
        here : (o : Option ItemWire) → IsShown who (logins k) k None o → IsShown who (logins k) k None (option_map (sent_under k outs) o)
        here None shown = shown
        here (Some w) shown = λ its. shown (sym (sent_device k outs w) ∙ its)

        its : IsShown who (logins k) k (v.conns k) (option_map (sent_under k outs) (wires k))
        its =
            subst (λ o. IsShown who (logins k) k o (option_map (sent_under k outs) (wires k))) (sym none)
            (here (wires k) (subst (λ o. IsShown who (logins k) k o (wires k)) none (pipes.each k)))

        each : (j : ℕ) → IsShown who (logins j) j (v.conns j) (sent outs wires j)
        each j =
            elim (cases_eq k j) [
              | inl same ↦ subst (λ n. IsShown who (logins n) n (v.conns n) (sent outs wires n)) same its
              | inr other ↦ shown_as who (logins j) j (v.conns j) (v.conns j) (wires j) (sent outs wires j) refl (left_apart k outs for j other (wires j)) (pipes.each j)
            ]

    -- for one of the device's
    module _ (k : ℕ) (c : Conn ItemOut) (is : v.conns k ≡ Some c) (next : View ItemOut) where
      pub put_here : (puts : List (DownWord ItemOut)) (items : List ItemOut) → items ≡ map (down_item who (logins k) k (is_after_login c.client)) puts → All IsForClient (down_stanzas puts)
          → next.conns ≡ with_at k (record c { wires = send_down puts c.wires }) v.conns → PipesRepresent who logins (sent (puts_at k items) wires) next
      put_here puts items same stanzas conns =
          let has = has_wire who logins wires v k c pipes is in
          let d : Conn ItemOut = record c { wires = send_down puts c.wires } in
          shown_at who logins wires (sent (puts_at k items) wires) v next k d (sent_under k (puts_at k items) has.wire) pipes (λ j. ap (λ t. t j) conns) (ap (option_map (sent_under k (puts_at k items))) has.there)
          (λ j other. left_apart k (puts_at k items) (puts_are_for k items) j other (wires j))
          (subst (IsWire who (logins k) k d) (sym (puts_here k items has.wire ∙ ap (λ l. put_down l has.wire) same)) (wire_put who (logins k) k c has.wire has.is puts stanzas))

      pub shut_here : (ending : Ending) (items : List ItemOut) → items ≡ map (down_item who (logins k) k (is_after_login c.client)) (tail_of ending)
          → next.conns ≡ with_at k (shut_conn ending c) v.conns → PipesRepresent who logins (sent (shuts_at k items) wires) next
      shut_here ending items same conns =
          let has = has_wire who logins wires v k c pipes is in
          let d : Conn ItemOut = shut_conn ending c in
          shown_at who logins wires (sent (shuts_at k items) wires) v next k d (sent_under k (shuts_at k items) has.wire) pipes (λ j. ap (λ t. t j) conns) (ap (option_map (sent_under k (shuts_at k items))) has.there)
          (λ j other. left_apart k (shuts_at k items) (shuts_are_for k items) j other (wires j))
          (subst (IsWire who (logins k) k d) (sym (shuts_here k items has.wire ∙ ap (λ l. shut (put_down l has.wire)) same)) (wire_shut who (logins k) k c has.wire has.is ending))
