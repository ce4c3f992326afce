-- What happens to one device, and on its connections, leaves another one as it is.
use Rattle.std.proofs.Common.{◌≡◌, ◌≢◌, ℕ, ◌+◌, Bool, true, false, List, [], ◌∷◌, Option, Some, None, Result, Ok, Err, if◌then◌else◌, nat_eq, slice_get, refl, sym, ap, subst, ◌∙◌}
use Rattle.std.proofs.lemmas.Bool.{eqb-true}
use Rattle.std.proofs.lemmas.Option.{same_Some}
use Rattle.std.specs.List.{slice_set}
use Rattle.std.specs.Option.{option_map}
use Rattle.cl_core.specs.UserCalls.{catch_up_answer, catches_up, closes, forgets, leaves, say_answer, says}
use Rattle.cl_handlers.specs.Clients.{ClientStep}
use Rattle.cl_handlers.specs.Speech.{in_items}
use Rattle.cl_handlers.specs.ClientSteps.{is_apart}
use Rattle.sim_4_links_follow.proofs.CutPipes.{wire_of}
use Rattle.sim_4_links_follow.proofs.Former.{pipes_as}
use Rattle.sim_4_links_follow.proofs.Numbered.{here_changed, set_elsewhere}
use Rattle.sim_3_items.specs.Identities.{Identity, Login}
use Rattle.sim_3_items.specs.Pipes.{IsShown, PipesRepresent, by_number, under}
use Rattle.sim_3_items.specs.Reading.{client_step_on, device_after, where_here, wire_after}
use Rattle.sim_3_items.specs.Sent.{where_it}
use Rattle.sim_3_items.specs.Servers.{ServerRepresents}
use Rattle.sim_3_items.specs.Represents.{Represents}
use Rattle.sim_3_items.specs.ItemMoves.{CatchUp, Close, Cut, Down, DownEnd, Forget, Say, at_device, at_wire, caught_up_by, closed_by, end_heard, fed_of, forgot_by, has_wire, heard, heard_first, left_where, moved, said_by, said_in, spoke}
use Rattle.sim_3_items.specs.ItemPipes.{ItemWire, cut_at, down_end_reported, handed_down, is_end_due, left, put_up}
use Rattle.sim_3_items.specs.ItemWorlds.{ItemDevice, ItemWorld, silent_client_step}
use Rattle.sim_2_links.specs.Stages.{Conn}
use Rattle.sim_2_links.specs.Views.{View}
use Rattle.sim_4_links_follow.proofs.Changes.{changed_there, under_position}
use Rattle.cmd_network.specs.Positions.{changed_at, changed_where}
use Rattle.xml_writer.specs.Items.{ItemOut}

-- the connection that a device has, where it has one, is of no device at this place
abbrev pub IsOfOther : ℕ → Option ℕ → List ItemWire → Type 0
IsOfOther whom here wires = (position : ℕ) (x : ItemWire) → here ≡ Some position → slice_get wires position ≡ Some x → x.device ≢ whom

module _ (whom : Identity) (others : ℕ → Login) (u : View ItemOut) where
  strange : (k : ℕ) (o : Option (Conn ItemOut)) (x y : ItemWire) → x.device ≢ whom.position → y.device ≡ x.device → IsShown whom (others k) k o (Some x) → IsShown whom (others k) k o (Some y)
  strange k None x y apart same shown = λ e. apart (sym same ∙ e)
  strange k (Some c) x y apart same shown = absurd (apart shown.of)

  where_strange : (k : ℕ) (f : ItemWire → ItemWire) (keeps : (x : ItemWire) → (f x).device ≡ x.device) (o : Option (Conn ItemOut)) (m : Option ItemWire) (b : Bool) → (b ≡ true → (x : ItemWire) → m ≡ Some x → x.device ≢ whom.position)
      → IsShown whom (others k) k o m → IsShown whom (others k) k o (option_map (where_it b f) m)
  where_strange k f keeps o None b apart shown = shown
  where_strange k f keeps o (Some x) false apart shown = shown
  where_strange k f keeps o (Some x) true apart shown = strange k o x (f x) (apart refl x refl) (keeps x) shown

  pub other_pipes : (here : Option ℕ) (f : ItemWire → ItemWire) (wires : List ItemWire) → ((x : ItemWire) → (f x).device ≡ x.device) → IsOfOther whom.position here wires → PipesRepresent whom others (by_number wires) u
      → PipesRepresent whom others (by_number (changed_where here f wires)) u
  other_pipes here f wires keeps apart pipes = pipes_as whom others (where_here here f (by_number wires)) (by_number (changed_where here f wires)) u (here_changed here f wires) (go here refl)
    where
      go : (o : Option ℕ) → here ≡ o → PipesRepresent whom others (where_here o f (by_number wires)) u
      go None is = pipes
      go (Some position) is = record { each = λ k. where_strange k f keeps (u.conns k) (under k wires) (nat_eq (position + 1) k) (there k) (pipes.each k) }
        where
          there : (k : ℕ) → nat_eq (position + 1) k ≡ true → (x : ItemWire) → under k wires ≡ Some x → x.device ≢ whom.position
          there k same x found = apart position x is (sym (under_position position wires) ∙ ap (λ n. under n wires) (eqb-true (position + 1) k same) ∙ found)

-- a change that keeps whose a connection is
changed_of : (whom : ℕ) (here : Option ℕ) (f : ItemWire → ItemWire) (wires : List ItemWire) → ((x : ItemWire) → (f x).device ≡ x.device) → IsOfOther whom here wires → IsOfOther whom here (changed_where here f wires)
changed_of whom here f wires keeps strange_here position x is there = go (slice_get wires position) refl
  where
    found : option_map f (slice_get wires position) ≡ Some x
    found = sym (changed_there position f wires) ∙ subst (λ o. slice_get (changed_where o f wires) position ≡ Some x) is there

    go : (o : Option ItemWire) → slice_get wires position ≡ o → x.device ≢ whom
    go None none = absurd (let some : None ≡ Some x = ap (option_map f) (sym none) ∙ found in let no_way : ⊥ = cc in no_way)
    go (Some y) some =
        let same : f y ≡ x = same_Some (f y) x (sym (ap (option_map f) some) ∙ found) in
        λ e. strange_here position y is some (sym (keeps y) ∙ ap (λ z. z.device) same ∙ e)

after_device : (b : Bool) (t : ClientStep ItemOut ItemOut) (x : ItemWire) → (left_where b (put_up t.out.put (handed_down x))).device ≡ x.device
after_device true t x = refl
after_device false t x = refl

module _ (whom : Identity) (others : ℕ → Login) (w : ItemWorld) (u : View ItemOut) (s : Represents whom others w u) where
  pub other_represents : (after : ItemWorld) → slice_get after.devices whom.position ≡ slice_get w.devices whom.position → after.server ≡ w.server → PipesRepresent whom others (by_number after.wires) u → Represents whom others after u
  other_represents after devices server pipes = record {
    normal = s.normal;
    device = s.device;
    there = devices ∙ s.there;
    pipes = pipes;
    server = subst (λ h. ServerRepresents whom others h u) (sym server) s.server;
    client = s.client;
  }

  -- ---- a device at another place, whose connection is not of this one

  module _ (at : ℕ) (apart : whom.position ≢ at) (d : ItemDevice) (is : slice_get w.devices at ≡ Some d) (strange_here : IsOfOther whom.position d.here w.wires) where
    pub forget_leaves : Represents whom others (moved (Forget at) w) u
    forget_leaves =
        subst (λ o. Represents whom others (forgot_by at o w) u) (sym is)
        (other_represents (forgot_by at (Some d) w) (set_elsewhere w.devices at whom.position (record { client = (forgets in_items (fed_of d.client)).turn.client; here = None }) apart) refl
        (other_pipes whom others u d.here left w.wires (λ x. refl) strange_here s.pipes))

    put_strange : (items : List ItemOut) → PipesRepresent whom others (by_number (changed_where d.here (put_up items) w.wires)) u
    put_strange items = other_pipes whom others u d.here (put_up items) w.wires (λ x. refl) strange_here s.pipes

    -- the pipes are left behind what is put
    left_after : (items : List ItemOut) → PipesRepresent whom others (by_number (changed_where d.here left (changed_where d.here (put_up items) w.wires))) u
    left_after items = other_pipes whom others u d.here left (changed_where d.here (put_up items) w.wires) (λ x. refl) still (put_strange items)
      where
        still : IsOfOther whom.position d.here (changed_where d.here (put_up items) w.wires)
        still position x here there = changed_of whom.position d.here (put_up items) w.wires (λ y. refl) strange_here position x here there

    pub close_leaves : Represents whom others (moved (Close at) w) u
    close_leaves =
        let t : ClientStep ItemOut ItemOut = (closes in_items (fed_of d.client)).turn in
        subst (λ o. Represents whom others (closed_by at o w) u) (sym is)
        (other_represents (closed_by at (Some d) w) (set_elsewhere w.devices at whom.position (record { client = t.client; here = None }) apart) refl (left_after t.out.put))

    pub spoke_leaves : (t : ClientStep ItemOut ItemOut) → Represents whom others (spoke at d t w) u
    spoke_leaves t = other_represents (spoke at d t w) (set_elsewhere w.devices at whom.position (record d { client = t.client }) apart) refl (put_strange t.out.put)

    said_leaves : {T E : Type 0} (r : Result T E) (t : ClientStep ItemOut ItemOut) → Represents whom others (said_in r at d t w) u
    said_leaves (Ok done) t = spoke_leaves t
    said_leaves (Err fault) t = s

    pub say_leaves : (to text : List ℕ) (private : Bool) → Represents whom others (moved (Say at to text private) w) u
    say_leaves to text private =
        subst (λ o. Represents whom others (said_by at to text private o w) u) (sym is) (said_leaves (say_answer d.client text) (says in_items (silent_client_step d.client) to text private))

    pub ask_leaves : (most : ℕ) → Represents whom others (moved (CatchUp at most) w) u
    ask_leaves most = subst (λ o. Represents whom others (caught_up_by at most o w) u) (sym is) (said_leaves (catch_up_answer d.client) (catches_up in_items (silent_client_step d.client) most))

  -- ---- a connection of another device

  module _ (position : ℕ) (wire : ItemWire) (there : slice_get w.wires position ≡ Some wire) (apart : wire.device ≢ whom.position) where
    changed_pipes : (f : ItemWire → ItemWire) → ((x : ItemWire) → (f x).device ≡ x.device) → PipesRepresent whom others (by_number (changed_at position f w.wires)) u
    changed_pipes f keeps = other_pipes whom others u (Some position) f w.wires keeps strange_there s.pipes
      where
        strange_there : IsOfOther whom.position (Some position) w.wires
        strange_there other x here found = subst (λ y. y.device ≢ whom.position) (same_Some wire x (sym there ∙ ap (slice_get w.wires) (same_Some position other here) ∙ found)) apart

    pub cut_leaves : (i j : ℕ) → Represents whom others (moved (Cut position i j) w) u
    cut_leaves i j = other_represents (moved (Cut position i j) w) refl refl (changed_pipes (cut_at i j) (λ x. refl))

    -- what is handed to its device
    at_it : (f : ItemWire → ItemDevice → ItemWorld → ItemWorld) → ((d : ItemDevice) → Represents whom others (f wire d w) u) → Represents whom others (at_wire position f (slice_get w.wires position) w) u
    at_it f each = subst (λ o. Represents whom others (at_wire position f o w) u) (sym there) (go (slice_get w.devices wire.device))
      where
        either : (b : Bool) (d : ItemDevice) → Represents whom others (if b then f wire d w else w) u
        either true d = each d
        either false d = s

        go : (o : Option ItemDevice) → Represents whom others (at_device position f wire o w) u
        go None = s
        go (Some d) = either (has_wire position d.here) d

    elsewhere : (e : ItemDevice) → slice_get (slice_set w.devices wire.device e) whom.position ≡ slice_get w.devices whom.position
    elsewhere e = set_elsewhere w.devices wire.device whom.position e (λ same. apart (sym same))

    heard_leaves : (d : ItemDevice) (t : ClientStep ItemOut ItemOut) → Represents whom others (heard position wire.device d t w) u
    heard_leaves d t = other_represents (heard position wire.device d t w) (elsewhere (device_after t d)) refl (changed_pipes (wire_after t) (λ x. after_device (is_apart t.client.phase) t x))

    pub down_leaves : Represents whom others (moved (Down position) w) u
    down_leaves = at_it (λ x d. heard_first position x.device x.down.items d) (λ d. first d wire.down.items)
      where
        first : (d : ItemDevice) (items : List ItemOut) → Represents whom others (heard_first position wire.device items d w) u
        first d [] = s
        first d (i ∷ items) = heard_leaves d (client_step_on i d)

    pub end_leaves : Represents whom others (moved (DownEnd position) w) u
    end_leaves = at_it (λ x d. end_heard position x.device (is_end_due x.down) d) (λ d. told d (is_end_due wire.down))
      where
        told : (d : ItemDevice) (b : Bool) → Represents whom others (end_heard position wire.device b d w) u
        told d false = s
        told d true =
            other_represents (end_heard position wire.device true d w) (elsewhere (record d { client = (leaves (fed_of d.client)).turn.client })) refl (changed_pipes down_end_reported (λ x. refl))

-- ---- whose the connection is that a device has

pub of_its_own : (who : Identity) (logins : ℕ → Login) (w : ItemWorld) (v : View ItemOut) (s : Represents who logins w v) (whom : ℕ) → whom ≢ who.position → IsOfOther whom s.device.here w.wires
of_its_own who logins w v s whom apart position x here there =
    let c = s.client.has position here in
    let is = wire_of who logins (by_number w.wires) v (position + 1) c.0 x s.pipes c.1 (under_position position w.wires ∙ there) in
    λ same. apart (sym same ∙ is.of)
