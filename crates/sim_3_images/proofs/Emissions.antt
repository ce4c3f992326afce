-- What the server puts out goes into pipes of bytes as it goes into those of items.
use Rattle.std.proofs.Common.{◌≡◌, ◌≢◌, ℕ, zero, suc, true, List, [], ◌∷◌, Option, Some, None, sym, ap, subst, ◌∙◌, inl, inr, arith}
use Rattle.std.proofs.lemmas.Bool.{cases_eq}
use Rattle.std.specs.List.{slice_get}
use Rattle.std.specs.Map.{remove_entry}
use Rattle.std.specs.Option.{option_map}
use Rattle.srv_state.specs.State.{Out, Put, Shut, Took, is_number}
use Rattle.cmd_network.specs.Devices.{DeviceState}
use Rattle.xml_framer.specs.Limits.{client_limits, server_limits}
use Rattle.xml_framer.specs.declared.states.Phase.{Phase}
use Rattle.sim_3_images.proofs.Lookups.{found_after_removal, get_changed_other, get_changed_same, other_number, self_is}
use Rattle.sim_3_images.proofs.WireSteps.{wire_put_down, wire_shut}
use Rattle.sim_3_images.specs.EncodingsCores.{AreInOrder, IsInOrder, after_put, after_shut}
use Rattle.sim_3_images.specs.WireEncodings.{WireEncodes}
use Rattle.sim_3_images.specs.WorldEncodings.{Both, framer_here}
use Rattle.sim_3_items.specs.ItemMoves as items
use Rattle.sim_3_items.specs.ItemPipes as pipes
use Rattle.sim_3_items.specs.ItemPipes.{ItemWire}
use Rattle.srv_core.specs.Events.{Framers, dropped, framer_at}
use Rattle.law_server.specs.Rendered.{outs_rendered}
use Rattle.cmd_schedule.specs.declared.schedule.Version.{Version}
use Rattle.cmd_network.specs.Positions.{changed_under}
use Rattle.cmd_network.specs.Wires.{put_down, shut}
use Rattle.cmd_network.specs.declared.wire.Wire.{Wire}
use Rattle.cmd_world.specs.Effects.{Effects, all_emitted, emitted}
use Rattle.cmd_world.specs.Worlds.{number_at}
use Rattle.xml_writer.specs.Items.{ItemOut, written_item}
use Rattle.law_xml.specs.Puts.{MayPut, OutFits, phase_behind}

pub number_suc : (position : ℕ) → number_at position ≡ suc position
number_suc position = omega arith

pub this_number : (position q : ℕ) → position ≡ q → is_number (number_at position) (suc q) ≡ true
this_number position q e = subst (λ k. is_number (number_at position) k ≡ true) (number_suc position ∙ ap suc e) (self_is (number_at position))

pub not_this : (position q : ℕ) → (position ≡ q → ⊥) → number_at position ≢ suc q
not_this position q other e = other (omega (arith, e))

pub no_position : (position : ℕ) → number_at position ≢ 0
no_position position e = omega (arith, e)

module _ (UpFits DownFits : ItemOut → Type 0) (up_out : (i : ItemOut) → UpFits i → OutFits server_limits i) (down_out : (i : ItemOut) → DownFits i → OutFits client_limits i) (position : ℕ) (devices : List DeviceState) where
  abbrev pub At : Framers → Option Phase → Wire → ItemWire → Type 0
  At framers now b p = WireEncodes (framer_at (number_at position) framers) (framer_here position (slice_get devices b.device)) now b p

  abbrev pub Here : Framers → Option Phase → List Wire → List ItemWire → Type 0
  Here framers now bs ps = Both (At framers now) (slice_get bs position) (slice_get ps position)

  -- one step, and what is to come
  record IsStep (framers : Framers) (bs : List Wire) (ps : List ItemWire) (rest : List (Out ItemOut)) (later : Option Phase) : Type 0 where
    next : Option Phase
    in_order : AreInOrder DownFits (number_at position) next rest later
    here : Here framers next bs ps

  both_put : (framers : Framers) (now : Phase) (i : ItemOut) → DownFits i → MayPut now i → (ob : Option Wire) (op : Option ItemWire) → Both (At framers (Some now)) ob op
      → Both (At framers (Some (phase_behind i))) (option_map (put_down (written_item i)) ob) (option_map (pipes.put_down (i ∷ [])) op)
  both_put framers now i fits may None None h = tt
  both_put framers now i fits may None (Some p) h = absurd h
  both_put framers now i fits may (Some b) None h = absurd h
  both_put framers now i fits may (Some b) (Some p) h = wire_put_down UpFits DownFits up_out down_out (framer_at (number_at position) framers) (framer_here position (slice_get devices b.device)) now b p i fits may h

  both_shut : (framers others : Framers) (now next : Option Phase) (ob : Option Wire) (op : Option ItemWire) → Both (At framers now) ob op → Both (At others next) (option_map shut ob) (option_map pipes.shut op)
  both_shut framers others now next None None h = tt
  both_shut framers others now next None (Some p) h = absurd h
  both_shut framers others now next (Some b) None h = absurd h
  both_shut framers others now next (Some b) (Some p) h =
      wire_shut UpFits DownFits up_out down_out (framer_at (number_at position) framers) (framer_here position (slice_get devices b.device)) (framer_at (number_at position) others) now next b p h

  put_here : (framers : Framers) (now : Option Phase) (i : ItemOut) (bs : List Wire) (ps : List ItemWire) (rest : List (Out ItemOut)) (later : Option Phase) (q : ℕ) → position ≡ q → IsInOrder DownFits true now i → AreInOrder DownFits (number_at position) (Some (phase_behind i)) rest later
      → Here framers now bs ps → IsStep framers (changed_under (suc q) (put_down (written_item i)) bs) (changed_under (suc q) (pipes.put_down (i ∷ [])) ps) rest later
  put_here framers None i bs ps rest later q same order more h = absurd order
  put_here framers (Some now) i bs ps rest later q same order more h = record {
    next = Some (phase_behind i);
    in_order = more;
    here = subst (λ x. Both (At framers (Some (phase_behind i))) (slice_get (changed_under (suc x) (put_down (written_item i)) bs) position) (slice_get (changed_under (suc x) (pipes.put_down (i ∷ [])) ps) position)) same
        (subst (λ o. Both (At framers (Some (phase_behind i))) o (slice_get (changed_under (suc position) (pipes.put_down (i ∷ [])) ps) position)) (sym (get_changed_same (put_down (written_item i)) bs position))
        (subst (λ o. Both (At framers (Some (phase_behind i))) (option_map (put_down (written_item i)) (slice_get bs position)) o) (sym (get_changed_same (pipes.put_down (i ∷ [])) ps position))
        (both_put framers now i order.1 order.0 (slice_get bs position) (slice_get ps position) h)));
  }

  put_one : (framers : Framers) (now : Option Phase) (k : ℕ) (i : ItemOut) (bs : List Wire) (ps : List ItemWire) (rest : List (Out ItemOut)) (later : Option Phase) → AreInOrder DownFits (number_at position) now (Put k i ∷ rest) later → Here framers now bs ps
      → IsStep framers (changed_under k (put_down (written_item i)) bs) (changed_under k (pipes.put_down (i ∷ [])) ps) rest later
  put_one framers now zero i bs ps rest later order h =
      record { next = now; in_order = subst (λ b. AreInOrder DownFits (number_at position) (after_put b now i) rest later) (other_number (number_at position) 0 (no_position position)) order.1; here = h }
  put_one framers now (suc q) i bs ps rest later order h = elim (cases_eq position q) [
    | inl same ↦
        let this = this_number position q same in
        put_here framers now i bs ps rest later q same (subst (λ b. IsInOrder DownFits b now i) this order.0) (subst (λ b. AreInOrder DownFits (number_at position) (after_put b now i) rest later) this order.1) h
    | inr other ↦ record {
      next = now;
      in_order = subst (λ b. AreInOrder DownFits (number_at position) (after_put b now i) rest later) (other_number (number_at position) (suc q) (not_this position q other)) order.1;
      here = subst (λ o. Both (At framers now) o (slice_get (changed_under (suc q) (pipes.put_down (i ∷ [])) ps) position)) (sym (get_changed_other (put_down (written_item i)) bs q position other))
          (subst (λ o. Both (At framers now) (slice_get bs position) o) (sym (get_changed_other (pipes.put_down (i ∷ [])) ps q position other)) h);
    }
  ]

  both_other : (framers others : Framers) (now : Option Phase) (ob : Option Wire) (op : Option ItemWire) → framer_at (number_at position) framers ≡ framer_at (number_at position) others → Both (At framers now) ob op → Both (At others now) ob op
  both_other framers others now None None e h = tt
  both_other framers others now None (Some p) e h = absurd h
  both_other framers others now (Some b) None e h = absurd h
  both_other framers others now (Some b) (Some p) e h = subst (λ r. WireEncodes r (framer_here position (slice_get devices b.device)) now b p) e h

  shut_one : (framers : Framers) (now : Option Phase) (k : ℕ) (bs : List Wire) (ps : List ItemWire) (rest : List (Out ItemOut)) (later : Option Phase) → AreInOrder DownFits (number_at position) now (Shut k ∷ rest) later → Here framers now bs ps
      → IsStep (remove_entry (is_number k) framers) (changed_under k shut bs) (changed_under k pipes.shut ps) rest later
  shut_one framers now zero bs ps rest later order h = record {
    next = now;
    in_order = subst (λ b. AreInOrder DownFits (number_at position) (after_shut b now) rest later) (other_number (number_at position) 0 (no_position position)) order;
    here = both_other framers (remove_entry (is_number 0) framers) now (slice_get bs position) (slice_get ps position) (sym (found_after_removal (number_at position) 0 framers (no_position position))) h;
  }
  shut_one framers now (suc q) bs ps rest later order h = elim (cases_eq position q) [
    | inl same ↦ record {
      next = None;
      in_order = subst (λ b. AreInOrder DownFits (number_at position) (after_shut b now) rest later) (this_number position q same) order;
      here = subst (λ x. Both (At (remove_entry (is_number (suc q)) framers) None) (slice_get (changed_under (suc x) shut bs) position) (slice_get (changed_under (suc x) pipes.shut ps) position)) same
          (subst (λ o. Both (At (remove_entry (is_number (suc q)) framers) None) o (slice_get (changed_under (suc position) pipes.shut ps) position)) (sym (get_changed_same shut bs position))
          (subst (λ o. Both (At (remove_entry (is_number (suc q)) framers) None) (option_map shut (slice_get bs position)) o) (sym (get_changed_same pipes.shut ps position))
          (both_shut framers (remove_entry (is_number (suc q)) framers) now None (slice_get bs position) (slice_get ps position) h)));
    }
    | inr other ↦ record {
      next = now;
      in_order = subst (λ b. AreInOrder DownFits (number_at position) (after_shut b now) rest later) (other_number (number_at position) (suc q) (not_this position q other)) order;
      here = subst (λ o. Both (At (remove_entry (is_number (suc q)) framers) now) o (slice_get (changed_under (suc q) pipes.shut ps) position)) (sym (get_changed_other shut bs q position other))
          (subst (λ o. Both (At (remove_entry (is_number (suc q)) framers) now) (slice_get bs position) o) (sym (get_changed_other pipes.shut ps q position other))
          (both_other framers (remove_entry (is_number (suc q)) framers) now (slice_get bs position) (slice_get ps position) (sym (found_after_removal (number_at position) (suc q) framers (not_this position q other))) h));
    }
  ]

  -- all that is put out
  pub all_here : (version : Version) (moment : ℕ) (outs : List (Out ItemOut)) (framers : Framers) (now later : Option Phase) (e : Effects) (ps : List ItemWire) → AreInOrder DownFits (number_at position) now outs later → Here framers now e.wires ps
      → Here (dropped (outs_rendered written_item outs) framers) later (all_emitted version moment (outs_rendered written_item outs) e).wires (items.all_emitted outs ps)
  all_here version moment [] framers now later e ps order h = subst (λ n. Here framers n e.wires ps) order h
  all_here version moment (Put k i ∷ outs) framers now later e ps order h =
      let one = put_one framers now k i e.wires ps outs later order h in
      all_here version moment outs framers one.next later (emitted version moment (Put k (written_item i)) e) (items.emitted (Put k i) ps) one.in_order one.here
  all_here version moment (Shut k ∷ outs) framers now later e ps order h =
      let one = shut_one framers now k e.wires ps outs later order h in
      all_here version moment outs (remove_entry (is_number k) framers) one.next later (emitted version moment (Shut k) e) (items.emitted (Shut k) ps) one.in_order one.here
  all_here version moment (Took from to origin ∷ outs) framers now later e ps order h =
      all_here version moment outs framers now later (emitted version moment (Took from to origin) e) (items.emitted (Took from to origin) ps) order h
