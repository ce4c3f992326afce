-- A move of a device, or on a connection, that isn't there changes nothing; and likewise where nothing is to be handed
-- over.
use Rattle.std.proofs.Common.{◌≡◌, ℕ, zero, suc, ◌+◌, Bool, true, false, List, [], ◌∷◌, Option, Some, None, if◌then◌else◌, slice_get, refl, ap, ◌∙◌}
use Rattle.std.proofs.lemmas.Bool.{eqb-true}
use Rattle.sim_4_links_follow.specs.Following.{IsOfNobody, IsOnNone}
use Rattle.srv_state.specs.Moments.{at_moment, gone_at}
use Rattle.sim_3_items.specs.ItemMoves.{CatchUp, Close, Cut, Dial, Down, DownEnd, Forget, ItemMove, Say, Tick, Up, UpEnd, at_device, at_wire, caught_up_by, closed_by, dialed_by, end_heard, forgot_by, has_wire, heard_first, moved, reported_up, said_by, served_by, served_first}
use Rattle.sim_3_items.specs.ItemPipes.{ItemWire, cut_at, is_end_due, up_end_reported}
use Rattle.sim_3_items.specs.ItemWorlds.{ItemDevice, ItemWorld}
use Rattle.cmd_network.specs.Positions.{changed_at}

changed_none : {T : Type 0} (position : ℕ) (f : T → T) (items : List T) → slice_get items position ≡ None → changed_at position f items ≡ items
changed_none position f [] none = refl
changed_none zero f (x ∷ items) none = absurd (let no_way : ⊥ = cc in no_way)
changed_none (suc position) f (x ∷ items) none = ap (λ l. x ∷ l) (changed_none position f items none)

pub of_nobody : (m : ItemMove) (w : ItemWorld) → IsOfNobody m w → moved m w ≡ w
of_nobody (Dial device mine yours) w none = ap (λ o. dialed_by device mine yours o w) none
of_nobody (Forget device) w none = ap (λ o. forgot_by device o w) none
of_nobody (Close device) w none = ap (λ o. closed_by device o w) none
of_nobody (Say device to text private) w none = ap (λ o. said_by device to text private o w) none
of_nobody (CatchUp device most) w none = ap (λ o. caught_up_by device most o w) none
of_nobody (Tick milliseconds) w none = absurd none
of_nobody (Up position) w none = ap (λ o. served_by position o w) none
of_nobody (UpEnd position) w none = ap (λ o. reported_up position o w) none
of_nobody (Down position) w none = ap (λ o. at_wire position (λ u e. heard_first position u.device u.down.items e) o w) none
of_nobody (DownEnd position) w none = ap (λ o. at_wire position (λ u e. end_heard position u.device (is_end_due u.down) e) o w) none
of_nobody (Cut position up down) w none = ap (λ l. record w { wires = l }) (changed_none position (cut_at up down) w.wires none)

-- ---- nothing is handed over

pub nothing_up : (w : ItemWorld) (position : ℕ) (wire : ItemWire) → slice_get w.wires position ≡ Some wire → wire.up.items ≡ [] → moved (Up position) w ≡ w
nothing_up w position wire there none = ap (λ o. served_by position o w) there ∙ ap (λ items. served_first position items w) none

pub not_over : (w : ItemWorld) (position : ℕ) (wire : ItemWire) → slice_get w.wires position ≡ Some wire → is_end_due wire.up ≡ false → moved (UpEnd position) w ≡ w
not_over w position wire there early = ap (λ o. reported_up position o w) there ∙ ap (λ b. if b then told_end else w) early
  where
    told_end : ItemWorld
    told_end = record w { server = gone_at (position + 1) (at_moment w.moment w.server); wires = changed_at position up_end_reported w.wires }

pub nothing_down : (w : ItemWorld) (position : ℕ) (wire : ItemWire) → slice_get w.wires position ≡ Some wire → IsOnNone position wire w → moved (Down position) w ≡ w
nothing_down w position wire there idle = ap (λ o. at_wire position hears o w) there ∙ go (slice_get w.devices wire.device) refl
  where
    hears : ItemWire → ItemDevice → ItemWorld → ItemWorld
    hears u e = heard_first position u.device u.down.items e

    empty : (d : ItemDevice) → wire.down.items ≡ [] → hears wire d w ≡ w
    empty d none = ap (λ items. heard_first position wire.device items d w) none

    given : (b : Bool) (d : ItemDevice) → (b ≡ true → wire.down.items ≡ []) → (if b then hears wire d w else w) ≡ w
    given true d none = empty d (none refl)
    given false d none = refl

    on_it : (o : Option ℕ) → has_wire position o ≡ true → o ≡ Some position
    on_it None e = absurd (let no_way : ⊥ = cc in no_way)
    on_it (Some here) e = ap Some (eqb-true here position e)

    go : (o : Option ItemDevice) → slice_get w.devices wire.device ≡ o → at_device position hears wire o w ≡ w
    go None is = refl
    go (Some d) is = given (has_wire position d.here) d (λ has. idle d is (on_it d.here has))
