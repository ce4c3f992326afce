-- Each move keeps what worlds keep.
use Rattle.std.proofs.Common.{◌≡◌, ◌⊎◌, ℕ, zero, suc, ◌==◌, ◌&&◌, Bool, true, false, cond, List, [], ◌∷◌, ◌++◌, Option, Some, None, Result, Ok, Err, length, map, refl, sym, ap, subst, ◌∙◌, arith, inl, inr}
use Rattle.std.proofs.lemmas.Bool.{eqb-true, false≢true}
use Rattle.std.proofs.lemmas.Option.{none-some, same_Some}
use Rattle.std.specs.Prelude.{slice_get, slice_set, take}
use Rattle.std.specs.List.{AllByRecursion}
use Rattle.cl_core.specs.Feeds.{bytes_step}
use Rattle.cl_core.specs.declared.faults.CatchUpStart.{CatchUpStart}
use Rattle.cl_core.specs.declared.faults.CatchUpStart.TheVariants as start
use Rattle.cl_core.specs.declared.faults.SayFault.{SayFault}
use Rattle.cl_core.specs.declared.faults.SayFault.TheVariants as say
use Rattle.cl_handlers.specs.Speech.{in_bytes}
use Rattle.cmd_network.specs.Devices.{DeviceState, after_step, catches_up_by, catches_up_on, closes_here, dials_at, forgets_all, has_wire, hears, is_left, loses, says_by, says_to, silent, unless_left}
use Rattle.cl_core.specs.UserCalls.{catch_up_answer, say_answer}
use Rattle.net_pipes.specs.Pipes.{is_end_due}
use Rattle.cmd_report.specs.Addresses.{bare_address}
use Rattle.cmd_schedule.specs.Contents.{Owned, owned_in}
use Rattle.cmd_schedule.specs.Schedules.{WireView}
use Rattle.cmd_schedule.specs.declared.schedule.Count.{Count}
use Rattle.srv_core.specs.Events.{after_gone}
use Rattle.cmd_network.specs.Positions.{changed_where}
use Rattle.cmd_network.specs.Wires as wires
use Rattle.cmd_network.specs.Wires.{amount, cut_at, down_end_reported, fresh_wire, handed_down, handed_up, put_up, up_end_reported}
use Rattle.cmd_network.specs.declared.wire.Wire.{Wire}
use Rattle.cmd_world.specs.Effects.{effects_of}
use Rattle.cmd_world.specs.Histories.{common_steps, owned_at_start, world_at_start}
use Rattle.cmd_world.specs.Moves as moves
use Rattle.cmd_world.specs.Moves.{Link, Move, caught_up_by, closed_by, dialed_by, down_by, down_to, end_heard, forgot_by, heard, heard_first, left_where, link_of, moved, reported_up, said_by, served, served_by, step_of_piece}
use Rattle.cmd_world.specs.WorldReports.{is_open}
use Rattle.cmd_world.specs.Worlds.{ByteWorld, client_entropy, number_at}
use Rattle.sim_3_images.proofs.OwnersKept.{owners_kept}
use Rattle.sim_3_images.proofs.Ends.{Onward, changed_on, closed_there, emitted_on, left_closes, left_opens, cut_opens, length_more, more_on, set_closed, set_on, then_on, where_on, changed_flows, cut_flows, emitted_flows, left_flows, more_flows, put_up_flows, set_flows, where_flows}
use Rattle.sim_3_images.specs.Kept.{IsFlowing, IsNewest, IsWorldKept, is_open_at, owned_by}
use Rattle.sim_3_images.proofs.RelayableItems.{unlike as no_way}

-- ---- one device

-- it stays, or is as far with its connections
pub same_newest : (wires later : List Wire) (d new : DeviceState) → Onward wires later → new.newest ≡ d.newest → new.here ≡ d.here → IsNewest wires d → IsNewest later new
same_newest wires later d new on newest here is = record {
  there = λ position at. (let low = is.there position (sym newest ∙ at) in let many = on.many in omega (arith, low, many));
  here = λ position at opened. here ∙ is.here position (sym newest ∙ at) (on.opens position (is.there position (sym newest ∙ at)) opened);
}

-- it lost the one that it had, and that is opened no more
gone_newest : (wires later : List Wire) (d new : DeviceState) → Onward wires later → new.newest ≡ d.newest → ((position : ℕ) → d.here ≡ Some position → is_open_at position later ≡ false) → IsNewest wires d → IsNewest later new
gone_newest wires later d new on newest closed is = record {
  there = λ position at. (let low = is.there position (sym newest ∙ at) in let many = on.many in omega (arith, low, many));
  here = λ position at opened. absurd (no_way (is_open_at position later) (closed position (is.here position (sym newest ∙ at) (on.opens position (is.there position (sym newest ∙ at)) opened))) opened);
}

-- ---- all devices

abbrev AllNewest : List DeviceState → List Wire → Type 0
AllNewest devices wires = (i : ℕ) (d : DeviceState) → slice_get devices i ≡ Some d → IsNewest wires d

all_on : (devices : List DeviceState) (wires later : List Wire) → Onward wires later → AllNewest devices wires → AllNewest devices later
all_on devices wires later on all i d at = same_newest wires later d d on refl refl (all i d at)

found_after : (devices : List DeviceState) (position i : ℕ) (new d : DeviceState) → slice_get (slice_set devices position new) i ≡ Some d → (d ≡ new) ⊎ (slice_get devices i ≡ Some d)
found_after [] position i new d at = inr at
found_after (e ∷ devices) zero zero new d at = inl (sym (same_Some new d at))
found_after (e ∷ devices) zero (suc i) new d at = inr at
found_after (e ∷ devices) (suc position) zero new d at = inr at
found_after (e ∷ devices) (suc position) (suc i) new d at = found_after devices position i new d at

one_set : (devices : List DeviceState) (wires later : List Wire) (position : ℕ) (new : DeviceState) → Onward wires later → IsNewest later new → AllNewest devices wires → AllNewest (slice_set devices position new) later
one_set devices wires later position new on is all i d at =
    elim (found_after devices position i new d at) [
      | inl same ↦ subst (IsNewest later) (sym same) is
      | inr before ↦ all_on devices wires later on all i d before
    ]

-- ---- a step of a world

record IsKeptBy (w v : ByteWorld) : Type 0 where
  version : v.version ≡ w.version
  accounts : v.accounts ≡ w.accounts
  flowing : AllByRecursion IsFlowing w.wires → AllByRecursion IsFlowing v.wires
  newest : AllNewest w.devices w.wires → AllNewest v.devices v.wires

nothing : (w : ByteWorld) → IsKeptBy w w
nothing w = record { version = refl; accounts = refl; flowing = λ all. all; newest = λ all. all }

then_kept : (u w v : ByteWorld) → IsKeptBy u w → IsKeptBy w v → IsKeptBy u v
then_kept u w v first second = record { version = second.version ∙ first.version; accounts = second.accounts ∙ first.accounts; flowing = λ all. second.flowing (first.flowing all); newest = λ all. second.newest (first.newest all) }

either : (b : Bool) (w v x : ByteWorld) → IsKeptBy w v → IsKeptBy w x → IsKeptBy w (cond b v x)
either true w v x here there = here
either false w v x here there = there

-- connections alone change
wires_kept : (w : ByteWorld) (v : ByteWorld) → v.version ≡ w.version → v.accounts ≡ w.accounts → v.devices ≡ w.devices → Onward w.wires v.wires → (AllByRecursion IsFlowing w.wires → AllByRecursion IsFlowing v.wires) → IsKeptBy w v
wires_kept w v version accounts devices on flowing = record {
  version = version;
  accounts = accounts;
  flowing = flowing;
  newest = λ all. subst (λ ds. AllNewest ds v.wires) (sym devices) (all_on w.devices w.wires v.wires on all);
}

-- ---- the user

dialed : (position : ℕ) (o : Option DeviceState) (w : ByteWorld) → IsKeptBy w (dialed_by position o w)
dialed position None w = nothing w
dialed position (Some d) w =
    let s = dials_at (client_entropy (number_at (length w.wires))) (length w.wires) d in
    let before = changed_where d.here wires.left w.wires in
    let one = put_up s.put (fresh_wire position) in
    let first = where_on wires.left left_opens w.wires d.here in
    let on = then_on w.wires before (before ++ one ∷ []) first (more_on before one) in
    let size = length_more before one in
    let many = first.many in
    record {
      version = refl;
      accounts = refl;
      flowing = λ all. more_flows before one (where_flows wires.left left_flows w.wires d.here all) (put_up_flows s.put (fresh_wire position) (λ opened. (refl, refl)));
      newest = λ all. one_set w.devices w.wires (before ++ one ∷ []) position s.device on
          (record {
            there = λ p at. (let same = same_Some (length w.wires) p at in omega (arith, same, size, many));
            here = λ p at opened. at;
          })
          all;
    }

forgot : (position : ℕ) (o : Option DeviceState) (w : ByteWorld) → slice_get w.devices position ≡ o → IsKeptBy w (forgot_by position o w)
forgot position None w found = nothing w
forgot position (Some d) w found = record {
  version = refl;
  accounts = refl;
  flowing = where_flows wires.left left_flows w.wires d.here;
  newest = λ all.
      let later = changed_where d.here wires.left w.wires in
      let on = where_on wires.left left_opens w.wires d.here in
      one_set w.devices w.wires later position (forgets_all d) on
      (gone_newest w.wires later d (forgets_all d) on refl (λ p here. subst (λ o. is_open_at p (changed_where o wires.left w.wires) ≡ false) (sym here) (closed_there w.wires p)) (all position d found))
      all;
}

closed : (position : ℕ) (o : Option DeviceState) (w : ByteWorld) → slice_get w.devices position ≡ o → IsKeptBy w (closed_by position o w)
closed position None w found = nothing w
closed position (Some d) w found = record {
  version = refl;
  accounts = refl;
  flowing = λ all. where_flows wires.left left_flows (changed_where d.here (put_up (closes_here d).put) w.wires) d.here (where_flows (put_up (closes_here d).put) (put_up_flows (closes_here d).put) w.wires d.here all);
  newest = λ all.
      let put = changed_where d.here (put_up (closes_here d).put) w.wires in
      let later = changed_where d.here wires.left put in
      let on = then_on w.wires put later (where_on (put_up (closes_here d).put) (λ b is. is) w.wires d.here) (where_on wires.left left_opens put d.here) in
      one_set w.devices w.wires later position (closes_here d).device on
      (gone_newest w.wires later d (closes_here d).device on refl (λ p here. subst (λ o. is_open_at p (changed_where o wires.left put) ≡ false) (sym here) (closed_there put p)) (all position d found))
      all;
}

-- what its user asks for leaves its connections
record IsSame (d new : DeviceState) : Type 0 where
  newest : new.newest ≡ d.newest
  here : new.here ≡ d.here

said_same : (line : ℕ) (to text : List ℕ) (private : Bool) (r : Result ℕ SayFault) (d : DeviceState) → IsSame d (says_by line to text private r d).device
said_same line to text private (Ok n) d = record { newest = refl; here = refl }
said_same line to text private (Err say.NotBound) d = record { newest = refl; here = refl }
said_same line to text private (Err say.OutboxFull) d = record { newest = refl; here = refl }
said_same line to text private (Err say.BadText) d = record { newest = refl; here = refl }
said_same line to text private (Err say.NoMemory) d = record { newest = refl; here = refl }

caught_up_same : (line most : ℕ) (r : Result (Unit {0}) CatchUpStart) (d : DeviceState) → IsSame d (catches_up_by line most r d).device
caught_up_same line most (Ok done) d = record { newest = refl; here = refl }
caught_up_same line most (Err start.NotBound) d = record { newest = refl; here = refl }
caught_up_same line most (Err start.OutboxFull) d = record { newest = refl; here = refl }
caught_up_same line most (Err start.Underway) d = record { newest = refl; here = refl }
caught_up_same line most (Err start.NoMemory) d = record { newest = refl; here = refl }

spoke_kept : (position : ℕ) (put : List ℕ) (d new : DeviceState) (w : ByteWorld) → slice_get w.devices position ≡ Some d → IsSame d new → IsKeptBy w (record w { devices = slice_set w.devices position new; wires = changed_where d.here (put_up put) w.wires })
spoke_kept position put d new w found same = record {
  version = refl;
  accounts = refl;
  flowing = where_flows (put_up put) (put_up_flows put) w.wires d.here;
  newest = λ all.
      let later = changed_where d.here (put_up put) w.wires in
      let on = where_on (put_up put) (λ b is. is) w.wires d.here in
      one_set w.devices w.wires later position new on (same_newest w.wires later d new on same.newest same.here (all position d found)) all;
}

said : (position line : ℕ) (to text : List ℕ) (private : Bool) (o : Option DeviceState) (w : ByteWorld) → slice_get w.devices position ≡ o → IsKeptBy w (said_by position line to text private o w)
said position line to text private None w found = nothing w
said position line to text private (Some d) w found =
    let s = says_to line (bare_address to) text private d in
    spoke_kept position s.put d s.device w found (said_same line (bare_address to) text private (say_answer d.client.client text) d)

caught_up : (position line most : ℕ) (o : Option DeviceState) (w : ByteWorld) → slice_get w.devices position ≡ o → IsKeptBy w (caught_up_by position line most o w)
caught_up position line most None w found = nothing w
caught_up position line most (Some d) w found =
    let s = catches_up_on line most d in
    spoke_kept position s.put d s.device w found (caught_up_same line most (catch_up_answer d.client.client) d)

-- ---- to the server

served_kept : (position n : ℕ) (wire : Wire) (w : ByteWorld) → slice_get w.wires position ≡ Some wire → IsKeptBy w (served position n wire w)
served_kept position n wire w found =
    let piece = take n wire.up.bytes in
    let done = step_of_piece (number_at position) piece w.moment w.server in
    let first = slice_set w.wires position (handed_up n wire) in
    wires_kept w (served position n wire w) refl refl refl
    (then_on w.wires first _ (set_on w.wires position wire (handed_up n wire) found (λ is. is)) (emitted_on w.version w.moment done.outs (effects_of first w.takes)))
    (λ all. emitted_flows w.version w.moment done.outs (effects_of first w.takes) (set_flows w.wires position wire (handed_up n wire) found (λ is. is) all))

was_served : (position : ℕ) (count : Count) (o : Option Wire) (w : ByteWorld) → slice_get w.wires position ≡ o → IsKeptBy w (served_by position count o w)
was_served position count None w found = nothing w
was_served position count (Some wire) w found =
    either (amount count wire.up == 0) w w (served position (amount count wire.up) wire w) (nothing w) (served_kept position (amount count wire.up) wire w found)

end_told : (position : ℕ) (o : Option Wire) (w : ByteWorld) → slice_get w.wires position ≡ o → IsKeptBy w (reported_up position o w)
end_told position None w found = nothing w
end_told position (Some wire) w found =
    let v = record w { server = after_gone (number_at position) w.moment w.server; wires = slice_set w.wires position (up_end_reported wire) } in
    either (is_end_due wire.up) w v w (wires_kept w v refl refl refl (set_on w.wires position wire (up_end_reported wire) found (λ is. is)) (set_flows w.wires position wire (up_end_reported wire) found (λ is. is))) (nothing w)

-- ---- to the device

-- The device has the connection still, or has lost this one, which is opened no more.
record IsLinkKept (position : ℕ) (l m : Link) : Type 0 where
  newest : m.device.newest ≡ l.device.newest
  never : is_open m.wire.end ≡ true → is_open l.wire.end ≡ true
  flowing : IsFlowing l.wire → IsFlowing m.wire
  here : (m.device.here ≡ l.device.here) ⊎ (is_open m.wire.end ≡ false)

still : (position : ℕ) (l : Link) → IsLinkKept position l l
still position l = record { newest = refl; never = λ is. is; flowing = λ is. is; here = inl refl }

links_either : (b : Bool) (position : ℕ) (l m x : Link) → IsLinkKept position l m → IsLinkKept position l x → IsLinkKept position l (cond b m x)
links_either true position l m x here there = here
links_either false position l m x here there = there

-- the client heard something
module _ (position : ℕ) (l : Link) (e : DeviceState) (b : Wire) (newest : e.newest ≡ l.device.newest) (here : e.here ≡ l.device.here) (never : is_open b.end ≡ true → is_open l.wire.end ≡ true) (flowing : IsFlowing l.wire → IsFlowing b) where
  hearing_by : (c : Bool) → is_left e.client ≡ c → IsLinkKept position l (link_of (left_where (is_left (cond c (record e { here = None }) e).client) b) (cond c (record e { here = None }) e))
  hearing_by true is =
      let closes : is_open (left_where (is_left e.client) b).end ≡ false = subst (λ c. is_open (left_where c b).end ≡ false) (sym is) (left_closes b) in
      record { newest = newest; never = λ opened. absurd (no_way (is_open (left_where (is_left e.client) b).end) closes opened); flowing = λ is opened. absurd (no_way (is_open (left_where (is_left e.client) b).end) closes opened); here = inr closes }
  hearing_by false is = record { newest = newest; never = subst (λ c. is_open (left_where c b).end ≡ true → is_open l.wire.end ≡ true) (sym is) never; flowing = subst (λ c. IsFlowing l.wire → IsFlowing (left_where c b)) (sym is) flowing; here = inl here }

  hearing : IsLinkKept position l (link_of (left_where (is_left (unless_left e).client) b) (unless_left e))
  hearing = hearing_by (is_left e.client) refl

heard_kept : (position n : ℕ) (l : Link) → IsLinkKept position l (heard n (hears (take n l.wire.down.bytes) l.device) l)
heard_kept position n l =
    let s = after_step (bytes_step in_bytes (silent l.device.client) (take n l.wire.down.bytes)) l.device in
    hearing position l s.device (put_up s.put (handed_down n l.wire)) refl refl (λ is. is) (λ is. put_up_flows s.put (handed_down n l.wire) is)

first_kept : (position n : ℕ) (l : Link) → IsLinkKept position l (heard_first n l)
first_kept position n l = links_either (n == 0) position l l (heard n (hears (take n l.wire.down.bytes) l.device) l) (still position l) (heard_kept position n l)

-- the end alone
end_kept : (position : ℕ) (l m : Link) → IsLinkKept position l m → IsLinkKept position l (end_heard position m)
end_kept position l m kept =
    links_either (has_wire position m.device.here && is_end_due m.wire.down) position l (link_of (down_end_reported m.wire) (loses m.device)) m
    (record { newest = kept.newest; never = kept.never; flowing = kept.flowing; here = kept.here }) kept

-- where this is the device's connection
pub has_here : (position : ℕ) (o : Option ℕ) → has_wire position o ≡ true → o ≡ Some position
has_here position None is = absurd (false≢true is)
has_here position (Some here) is = ap Some (eqb-true here position is)

link_kept : (position device : ℕ) (l m : Link) (w : ByteWorld) → slice_get w.wires position ≡ Some l.wire → slice_get w.devices device ≡ Some l.device → l.device.here ≡ Some position → IsLinkKept position l m
    → IsKeptBy w (record w { wires = slice_set w.wires position m.wire; devices = slice_set w.devices device m.device })
link_kept position device l m w wired found here kept = record {
  version = refl;
  accounts = refl;
  flowing = set_flows w.wires position l.wire m.wire wired kept.flowing;
  newest = λ all.
      let later = slice_set w.wires position m.wire in
      let on = set_on w.wires position l.wire m.wire wired kept.never in
      let closed : is_open m.wire.end ≡ false → (p : ℕ) → l.device.here ≡ Some p → is_open_at p later ≡ false =
      λ shuts p at. subst (λ q. is_open_at q later ≡ false) (same_Some position p (sym here ∙ at)) (set_closed w.wires position l.wire m.wire wired shuts) in
      let one : IsNewest later m.device = elim kept.here [
        | inl same ↦ same_newest w.wires later l.device m.device on kept.newest same (all device l.device found)
        | inr shuts ↦ gone_newest w.wires later l.device m.device on kept.newest (closed shuts) (all device l.device found)
      ] in
      one_set w.devices w.wires later device m.device on one all;
}

-- and where it is another
put_again : (position device : ℕ) (l : Link) (w : ByteWorld) → slice_get w.wires position ≡ Some l.wire → slice_get w.devices device ≡ Some l.device
    → IsKeptBy w (record w { wires = slice_set w.wires position l.wire; devices = slice_set w.devices device l.device })
put_again position device l w wired found = record {
  version = refl;
  accounts = refl;
  flowing = set_flows w.wires position l.wire l.wire wired (λ is. is);
  newest = λ all.
      let later = slice_set w.wires position l.wire in
      let on = set_on w.wires position l.wire l.wire wired (λ is. is) in
      one_set w.devices w.wires later device l.device on (same_newest w.wires later l.device l.device on refl refl (all device l.device found)) all;
}

heard_by_here : (position : ℕ) (wire : Wire) (d : DeviceState) (m : Link) (w : ByteWorld) → slice_get w.wires position ≡ Some wire → slice_get w.devices wire.device ≡ Some d → IsLinkKept position (link_of wire d) m → (c : Bool) → has_wire position d.here ≡ c
    → IsKeptBy w (record w { wires = slice_set w.wires position (cond c m (link_of wire d)).wire; devices = slice_set w.devices wire.device (cond c m (link_of wire d)).device })
heard_by_here position wire d m w wired found kept true is = link_kept position wire.device (link_of wire d) m w wired found (has_here position d.here is) kept
heard_by_here position wire d m w wired found kept false is = put_again position wire.device (link_of wire d) w wired found

heard_to : (position : ℕ) (count : Count) (wire : Wire) (o : Option DeviceState) (w : ByteWorld) → slice_get w.wires position ≡ Some wire → slice_get w.devices wire.device ≡ o → IsKeptBy w (down_to position count wire o w)
heard_to position count wire None w wired found = nothing w
heard_to position count wire (Some d) w wired found =
    let l = link_of wire d in
    let n = amount count wire.down in
    heard_by_here position wire d (end_heard position (heard_first n l)) w wired found (end_kept position l (heard_first n l) (first_kept position n l)) (has_wire position d.here) refl

heard_on : (position : ℕ) (count : Count) (o : Option Wire) (w : ByteWorld) → slice_get w.wires position ≡ o → IsKeptBy w (down_by position count o w)
heard_on position count None w wired = nothing w
heard_on position count (Some wire) w wired = heard_to position count wire (slice_get w.devices wire.device) w wired refl

-- ---- a move

move_kept : (m : Move) (w : ByteWorld) → IsKeptBy w (moved m w)
move_kept (moves.Dial position) w = dialed position (slice_get w.devices position) w
move_kept (moves.Forget position) w = forgot position (slice_get w.devices position) w refl
move_kept (moves.Close position) w = closed position (slice_get w.devices position) w refl
move_kept (moves.Say position line to text private) w = said position line to text private (slice_get w.devices position) w refl
move_kept (moves.CatchUp position line most) w = caught_up position line most (slice_get w.devices position) w refl
move_kept (moves.Tick milliseconds) w = record { version = refl; accounts = refl; flowing = λ all. all; newest = λ all. all }
move_kept (moves.Up position count) w =
    let v = served_by position count (slice_get w.wires position) w in
    then_kept w v (reported_up position (slice_get v.wires position) v) (was_served position count (slice_get w.wires position) w refl) (end_told position (slice_get v.wires position) v refl)
move_kept (moves.Down position count) w = heard_on position count (slice_get w.wires position) w refl
move_kept (moves.Cut position up down) w = wires_kept w (moved (moves.Cut position up down) w) refl refl refl (changed_on (cut_at up down) (cut_opens up down) w.wires position) (changed_flows (cut_at up down) (cut_flows up down) w.wires position)

-- ---- what a world keeps

pub kept_after : (schedule : WireView) (m : Move) (w : ByteWorld) → IsWorldKept schedule w → IsWorldKept schedule (moved m w)
kept_after schedule m w is =
    let step = move_kept m w in
    record { version = step.version ∙ is.version; accounts = step.accounts ∙ is.accounts; owners = owners_kept m w ∙ is.owners; flowing = step.flowing is.flowing; newest = step.newest is.newest }

first_owners : (os : List Owned) → map owned_by (map owned_at_start os) ≡ os
first_owners [] = refl
first_owners (o ∷ os) = ap (λ l. o ∷ l) (first_owners os)

first_newest : (os : List Owned) (i : ℕ) (d : DeviceState) → slice_get (map owned_at_start os) i ≡ Some d → d.newest ≡ None
first_newest [] i d at = absurd (none-some d at)
first_newest (o ∷ os) zero d at = ap (λ (e : DeviceState). e.newest) (sym (same_Some (owned_at_start o) d at))
first_newest (o ∷ os) (suc i) d at = first_newest os i d at

pub kept_first : (schedule : WireView) → IsWorldKept schedule (world_at_start schedule)
kept_first schedule = record {
  version = refl;
  accounts = refl;
  owners = first_owners (owned_in (common_steps schedule));
  flowing = tt;
  newest = λ i d at.
      let none = first_newest (owned_in (common_steps schedule)) i d at in
      record { there = λ p is. absurd (none-some p (sym none ∙ is)); here = λ p is opened. absurd (none-some p (sym none ∙ is)) };
}
