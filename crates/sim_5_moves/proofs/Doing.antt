-- What each move of a world of items has its devices do.
use Rattle.std.proofs.Common.{◌≡◌, ◌≢◌, ℕ, ◌==◌, Bool, true, false, cond, List, [], Option, Some, None, Ok, Err, refl, sym, ap, ap₂, subst, ◌∙◌, slice_get, inl}
use Rattle.std.proofs.lemmas.Bool.{eq-eqb, eqb-true}
use Rattle.cl_core.specs.UserCalls.{catch_up_answer, catches_up, say_answer, says as says_client_step}
use Rattle.cl_core.specs.declared.faults.CatchUpStart.{CatchUpStart}
use Rattle.cl_core.specs.declared.faults.SayFault.{SayFault}
use Rattle.cl_handlers.specs.Speech.{in_items}
use Rattle.cmd_schedule.specs.Schedules.{WireView}
use Rattle.sim_1_applications.specs.Devices.{AppWorld}
use Rattle.sim_3_images.proofs.ItemsHeard.{heard_one}
use Rattle.sim_3_images.specs.Notes.{asked_at, asked_notes, heard_at, heard_notes, heard_on, said_at, said_notes}
use Rattle.sim_3_items.specs.ItemMoves.{CatchUp, Close, Cut, Dial, Down, DownEnd, Forget, ItemMove, Say, Tick, Up, UpEnd, has_wire}
use Rattle.sim_3_items.specs.ItemPipes.{ItemWire}
use Rattle.sim_3_items.specs.ItemWorlds.{ItemDevice, ItemWorld, silent_client_step}
use Rattle.sim_3_items.specs.Labels.{Label}
use Rattle.sim_3_items.specs.Reading.{client_step_on, noted}
use Rattle.sim_4_links_follow.specs.Following.{IsNextItem, IsOfNobody, IsOnNone}
use Rattle.sim_5_moves.specs.Running.{Bounds, DoesBy, RunsOn, WorldSimulates}
use Rattle.xml_writer.specs.Items.{ItemOut}
use Rattle.sim_5_moves.proofs.ReadStanzas.{apart_from, nobody_gives, unread_does}
use Rattle.sim_3_images.specs.Reads.{item_read_on}

-- ---- what a user does

pub said_does : (w : ItemWorld) (i : ℕ) (to text : List ℕ) (private : Bool) (d : ItemDevice) (n : ℕ) → slice_get w.devices i ≡ Some d → say_answer d.client text ≡ Ok n → (done : List (Label ItemOut))
    → noted (says_client_step in_items (silent_client_step d.client) to text private).out.notes ≡ done → DoesBy (Say i to text private) w i done
said_does w i to text private d n there taken done is =
    sym is
    ∙ ap noted (sym (ap (λ (c : Bool). cond c (said_at to text private (slice_get w.devices i)) []) (eq-eqb i i refl) ∙ ap (said_at to text private) there ∙ ap (λ a. said_notes a to text private d) taken))

pub says_beside : (w : ItemWorld) (i : ℕ) (to text : List ℕ) (private : Bool) (j : ℕ) → j ≢ i → DoesBy (Say i to text private) w j []
says_beside w i to text private j other = ap noted (sym (ap (λ (c : Bool). cond c (said_at to text private (slice_get w.devices j)) []) (apart_from i j other)))

pub refused_does : (w : ItemWorld) (i : ℕ) (to text : List ℕ) (private : Bool) (d : ItemDevice) (fault : SayFault) → slice_get w.devices i ≡ Some d → say_answer d.client text ≡ Err fault → (j : ℕ) → DoesBy (Say i to text private) w j []
refused_does w i to text private d fault there refused j = ap noted (sym (by (i == j) refl))
  where
    by : (c : Bool) → (i == j) ≡ c → cond c (said_at to text private (slice_get w.devices j)) [] ≡ []
    by true same = ap (said_at to text private) (ap (slice_get w.devices) (sym (eqb-true i j same)) ∙ there) ∙ ap (λ a. said_notes a to text private d) refused
    by false other = refl

pub asked_does : (w : ItemWorld) (i most : ℕ) (d : ItemDevice) → slice_get w.devices i ≡ Some d → catch_up_answer d.client ≡ Ok tt → (done : List (Label ItemOut)) → noted (catches_up in_items (silent_client_step d.client) most).out.notes ≡ done
    → DoesBy (CatchUp i most) w i done
asked_does w i most d there taken done is =
    sym is ∙ ap noted (sym (ap (λ (c : Bool). cond c (asked_at most (slice_get w.devices i)) []) (eq-eqb i i refl) ∙ ap (asked_at most) there ∙ ap (λ a. asked_notes a most d) taken))

pub asks_beside : (w : ItemWorld) (i most j : ℕ) → j ≢ i → DoesBy (CatchUp i most) w j []
asks_beside w i most j other = ap noted (sym (ap (λ (c : Bool). cond c (asked_at most (slice_get w.devices j)) []) (apart_from i j other)))

pub unasked_does : (w : ItemWorld) (i most : ℕ) (d : ItemDevice) (fault : CatchUpStart) → slice_get w.devices i ≡ Some d → catch_up_answer d.client ≡ Err fault → (j : ℕ) → DoesBy (CatchUp i most) w j []
unasked_does w i most d fault there refused j = ap noted (sym (by (i == j) refl))
  where
    by : (c : Bool) → (i == j) ≡ c → cond c (asked_at most (slice_get w.devices j)) [] ≡ []
    by true same = ap (asked_at most) (ap (slice_get w.devices) (sym (eqb-true i j same)) ∙ there) ∙ ap (λ a. asked_notes a most d) refused
    by false other = refl

-- ---- an item comes to a device

module _ (position i : ℕ) (w : ItemWorld) (d : ItemDevice) (wire : ItemWire) (z : ItemOut) (n : IsNextItem position i w d wire z) where
  pub heard_does : DoesBy (Down position) w i (noted (client_step_on z d).out.notes)
  heard_does =
      ap noted (sym (heard_one position i i w wire d n.there n.of n.has ∙ ap (λ (c : Bool). cond c (cond (has_wire position d.here) (heard_notes wire.down.items d) []) []) (eq-eqb i i refl)
      ∙ ap₂ (λ (c : Bool) (under_way : List ItemOut). cond c (heard_notes under_way d) []) (ap (has_wire position) n.here ∙ eq-eqb position position refl) n.first))

  pub heard_beside : (j : ℕ) → j ≢ i → DoesBy (Down position) w j []
  heard_beside j other =
      ap noted (sym (heard_one position i j w wire d n.there n.of n.has ∙ ap (λ (c : Bool). cond c (cond (has_wire position d.here) (heard_notes wire.down.items d) []) []) (apart_from i j other)))

  -- its client notes nothing down of it
  pub heard_nothing : noted (client_step_on z d).out.notes ≡ [] → (j : ℕ) → DoesBy (Down position) w j []
  heard_nothing none j = by (i == j) refl
    where
      by : (c : Bool) → (i == j) ≡ c → DoesBy (Down position) w j []
      by true same = subst (λ k. DoesBy (Down position) w k []) (eqb-true i j same) (subst (DoesBy (Down position) w i) none heard_does)
      by false other = heard_beside j (λ same. (let yes : (i == j) ≡ true = eq-eqb i j (sym same) in let no_way : ⊥ = cc in no_way))

-- ---- nothing comes

pub here_is : (position : ℕ) (o : Option ℕ) → has_wire position o ≡ true → o ≡ Some position
here_is position None e = absurd (let no_way : ⊥ = cc in no_way)
here_is position (Some h) e = ap Some (eqb-true h position e)

pub none_does : (position : ℕ) (wire : ItemWire) (w : ItemWorld) → slice_get w.wires position ≡ Some wire → IsOnNone position wire w → (i : ℕ) → DoesBy (Down position) w i []
none_does position wire w there none i = ap noted (sym (ap (heard_on position i (slice_get w.devices i)) there ∙ by (wire.device == i) refl))
  where
    on_it : (d : ItemDevice) → slice_get w.devices wire.device ≡ Some d → (c : Bool) → has_wire position d.here ≡ c → cond c (heard_notes wire.down.items d) [] ≡ []
    on_it d at true here = ap (λ l. heard_notes l d) (none d at (here_is position d.here here))
    on_it d at false here = refl

    of_device : (o : Option ItemDevice) → slice_get w.devices wire.device ≡ o → heard_at position wire.down.items o ≡ []
    of_device None at = refl
    of_device (Some d) at = on_it d at (has_wire position d.here) refl

    by : (c : Bool) → (wire.device == i) ≡ c → cond c (heard_at position wire.down.items (slice_get w.devices i)) [] ≡ []
    by true same = ap (λ k. heard_at position wire.down.items (slice_get w.devices k)) (sym (eqb-true wire.device i same)) ∙ of_device (slice_get w.devices wire.device) refl
    by false other = refl

-- ---- a move of nobody

pub nobody_does : (m : ItemMove) (w : ItemWorld) → IsOfNobody m w → (i : ℕ) → DoesBy m w i []
nobody_does (Dial device mine yours) w none i = refl
nobody_does (Forget device) w none i = inl refl
nobody_does (Close device) w none i = inl refl
nobody_does (Say device to text private) w none i = ap noted (sym (by (device == i) refl))
  where
    by : (c : Bool) → (device == i) ≡ c → cond c (said_at to text private (slice_get w.devices i)) [] ≡ []
    by true same = ap (said_at to text private) (ap (slice_get w.devices) (sym (eqb-true device i same)) ∙ none)
    by false other = refl
nobody_does (CatchUp device most) w none i = ap noted (sym (by (device == i) refl))
  where
    by : (c : Bool) → (device == i) ≡ c → cond c (asked_at most (slice_get w.devices i)) [] ≡ []
    by true same = ap (asked_at most) (ap (slice_get w.devices) (sym (eqb-true device i same)) ∙ none)
    by false other = refl
nobody_does (Tick milliseconds) w none i = absurd none
nobody_does (Up position) w none i = unread_does position w i (ap (item_read_on position i w) none) (nobody_gives position w none i)
nobody_does (Down position) w none i = ap noted (sym (ap (heard_on position i (slice_get w.devices i)) none))
nobody_does (UpEnd position) w none i = refl
nobody_does (DownEnd position) w none i = refl
nobody_does (Cut position up down) w none i = refl

-- ---- moves of the links without a label

pub without_labels : (schedule : WireView) (b : Bounds) (says : ℕ) (w : ItemWorld) (x : AppWorld) (runs : WorldSimulates schedule b says w x) (Does : ℕ → List (Label ItemOut) → Type 0) → ((i : ℕ) → Does i [])
    → (more : ℕ) (after : ItemWorld) (next : AppWorld) → RunsOn schedule b says w x runs (λ i ds. ds ≡ []) more after next → RunsOn schedule b says w x runs Does more after next
without_labels schedule b says w x runs Does nothing more after next on = record {
  runs = on.runs;
  links = λ i o is. let l = on.links i o is in (l.0, l.1, subst (Does i) (sym l.2) (nothing i));
}
