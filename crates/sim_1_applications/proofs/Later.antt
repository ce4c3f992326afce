-- Along a run takes are only added, and so are the pages that were taken over.
use Rattle.std.proofs.Common.{◌≡◌, ℕ, ◌+◌, ◌==◌, Bool, true, false, cond, List, [], ◌∷◌, ◌++◌, Option, Some, None, length, refl, sym, ap, ◌∙◌, subst, append_assoc}
use Rattle.std.proofs.lemmas.List.{append-nil}
use Rattle.std.specs.List.{slice_get}
use Rattle.std.specs.Option.{option_map, option_map_or}
use Rattle.sim_1_applications.specs.Stanzas.{Up, Down}
use Rattle.sim_1_applications.specs.Stanzas.Up.{Carbons, Presence, Message, Query}
use Rattle.sim_1_applications.specs.Stanzas.Down.{Accepted, Bounced, Live, Res, Fin, NotFound}
use Rattle.sim_1_applications.specs.Devices.{AppWorld, Device, OpenPage, Reading, Take}
use Rattle.sim_1_applications.specs.Answers.{last_in}
use Rattle.sim_1_applications.specs.Events as events
use Rattle.sim_1_applications.specs.Events.AppEvent.{At, Tick}
use Rattle.sim_1_applications.proofs.Takes.{account_hear_all, account_own}
use Rattle.sim_1_applications.proofs.TileRuns.{same_hear_all}
use Rattle.sim_1_applications.proofs.Worlds.{at_position, get_each, length_each}

-- the one list is the other with more behind it
abbrev pub Extends : {A : Type 0} → List A → List A → Type 0
Extends {A = A} xs ys = (more : List A) × (ys ≡ xs ++ more)

pub extends_same : {A : Type 0} (xs ys : List A) → ys ≡ xs → Extends xs ys
extends_same xs ys same = ([], same ∙ sym (append-nil xs))

extends_both : {A : Type 0} (xs ys zs : List A) → Extends xs ys → Extends ys zs → Extends xs zs
extends_both xs ys zs first second = (first.0 ++ second.0, second.1 ∙ ap (λ l. l ++ second.0) first.1 ∙ append_assoc xs first.0 second.0)

-- The pages of a device under its own acts.

tiles_if : (c : Bool) (r : events.Reaction) (b : Reading) → Extends b.tiles r.reading.tiles → Extends b.tiles (cond c r (events.refuse b)).reading.tiles
tiles_if true r b more = more
tiles_if false r b more = extends_same b.tiles b.tiles refl

tiles_with : (f : OpenPage → Reading → events.Reaction) (b : Reading) → ((p : OpenPage) → Extends b.tiles (f p b).reading.tiles) → Extends b.tiles (events.with_page f b).reading.tiles
tiles_with f b each = of_page b.page
  where
    of_page : (o : Option OpenPage) → Extends b.tiles (option_map_or (λ p. f p b) o (events.refuse b)).reading.tiles
    of_page None = extends_same b.tiles b.tiles refl
    of_page (Some p) = each p

tiles_end : (x : events.Around) (complete : Bool) (count : ℕ) (p : OpenPage) (b : Reading) →
    Extends b.tiles (cond complete (events.quiet (events.over x complete count p b)) (events.asking (last_in (events.over x complete count p b).run) p.max x.last (events.over x complete count p b))).reading.tiles
tiles_end x true count p b = (events.tile x true count p ∷ [], refl)
tiles_end x false count p b = (events.tile x false count p ∷ [], refl)

tiles_reads : (x : events.Around) (z : Down) (b : Reading) → Extends b.tiles (events.reads x z b).reading.tiles
tiles_reads x Accepted b = extends_same b.tiles b.tiles refl
tiles_reads x (Bounced e m) b = extends_same b.tiles b.tiles refl
tiles_reads x (Live m) b = extends_same b.tiles b.tiles refl
tiles_reads x (Res q m) b = tiles_with (events.result q m) b (λ p. tiles_if _ _ b (extends_same b.tiles b.tiles refl))
tiles_reads x (Fin q complete last count) b = tiles_with (events.fin x q complete last count) b (λ p. tiles_if _ _ b (tiles_end x complete count p b))
tiles_reads x (NotFound q) b = tiles_with (events.restart q) b (λ p. tiles_if _ _ b (extends_same b.tiles b.tiles refl))

tiles_served : (x : events.Around) (z : Up) (b : Reading) → Extends b.tiles (events.reading_served x z b).tiles
tiles_served x Carbons b = extends_same b.tiles b.tiles refl
tiles_served x Presence b = extends_same b.tiles b.tiles refl
tiles_served x (Message m) b = extends_same b.tiles b.tiles refl
tiles_served x (Query r) b = extends_same b.tiles b.tiles refl

tiles_server : (x : events.Around) (fits : ℕ) (zs : List Up) (d : Device) → Extends d.reading.tiles (events.served x fits zs d).reading.tiles
tiles_server x fits [] d = extends_same d.reading.tiles d.reading.tiles refl
tiles_server x fits (z ∷ rest) d = tiles_served x z d.reading

tiles_client : (x : events.Around) (zs : List Down) (d : Device) → Extends d.reading.tiles (events.read x zs d).reading.tiles
tiles_client x [] d = extends_same d.reading.tiles d.reading.tiles refl
tiles_client x (z ∷ rest) d = tiles_reads x z d.reading

tiles_own : (x : events.Around) (act : events.Act) (d : Device) → Extends d.reading.tiles (events.own x act d).reading.tiles
tiles_own x events.Act.Bind d = extends_same d.reading.tiles d.reading.tiles refl
tiles_own x (events.Act.ReadBound live) d = extends_same d.reading.tiles d.reading.tiles refl
tiles_own x events.Act.Enable d = extends_same d.reading.tiles d.reading.tiles refl
tiles_own x events.Act.ReadEnabled d = extends_same d.reading.tiles d.reading.tiles refl
tiles_own x events.Act.End d = extends_same d.reading.tiles d.reading.tiles refl
tiles_own x events.Act.Drop d = extends_same d.reading.tiles d.reading.tiles refl
tiles_own x (events.Act.Acknowledge n) d = extends_same d.reading.tiles d.reading.tiles refl
tiles_own x (events.Act.Say to text private) d = extends_same d.reading.tiles d.reading.tiles refl
tiles_own x (events.Act.CatchUp max) d = extends_same d.reading.tiles d.reading.tiles refl
tiles_own x (events.Act.ServerHandles fits full) d = tiles_server x fits d.sessions.now.up_rest d
tiles_own x events.Act.ClientHandles d = tiles_client x d.sessions.now.down_rest d

-- A later state.

-- a device later on
pub record IsLaterDevice (d e : Device) : Type 0 where
  pub account : e.account ≡ d.account
  pub tiles : Extends d.reading.tiles e.reading.tiles

later_own : (x : events.Around) (act : events.Act) (d : Device) → IsLaterDevice d (events.own x act d)
later_own x act d = record { account = account_own x act d; tiles = tiles_own x act d }

later_itself : (d : Device) → IsLaterDevice d d
later_itself d = record { account = refl; tiles = extends_same d.reading.tiles d.reading.tiles refl }

later_hears : (takes : List Take) (full : List ℕ) (ts : List Take) (j : ℕ) (d e : Device) → IsLaterDevice d e → IsLaterDevice d (events.hear_all takes full ts j e)
later_hears takes full ts j d e later = record {
  account = account_hear_all takes full ts j e ∙ later.account;
  tiles = subst (λ (b : Reading). Extends d.reading.tiles b.tiles) (sym (same_hear_all takes full ts j e)) later.tiles;
}

later_becomes : (w : AppWorld) (new : List Take) (i : ℕ) (act : events.Act) (j : ℕ) (d : Device) → IsLaterDevice d (events.becomes w new i act j d)
later_becomes w new i act j d =
    later_hears (w.takes ++ new) (events.full_of act) new j d _
    (at_position (j == i) _ _ (IsLaterDevice d) (λ _. later_own (events.around w d) act d) (λ _. later_itself d))

pub record LaterAt (v w : AppWorld) (i : ℕ) (d : Device) : Type 0 where
  pub device : Device
  pub at : slice_get w.devices i ≡ Some device
  pub later : IsLaterDevice d device

pub record IsLater (v w : AppWorld) : Type 0 where
  pub keep : w.keep ≡ v.keep
  pub accounts : w.accounts ≡ v.accounts
  pub many : length w.devices ≡ length v.devices
  pub takes : Extends v.takes w.takes
  pub devices : (i : ℕ) (d : Device) → slice_get v.devices i ≡ Some d → LaterAt v w i d

is_itself : (v : AppWorld) → IsLater v v
is_itself v = record {
  keep = refl;
  accounts = refl;
  many = refl;
  takes = extends_same v.takes v.takes refl;
  devices = λ i d at. record { device = d; at = at; later = later_itself d };
}

later_both : (u v w : AppWorld) → IsLater u v → IsLater v w → IsLater u w
later_both u v w first second = record {
  keep = second.keep ∙ first.keep;
  accounts = second.accounts ∙ first.accounts;
  many = second.many ∙ first.many;
  takes = extends_both u.takes v.takes w.takes first.takes second.takes;
  devices = λ i d at.
      let one = first.devices i d at in
      let two = second.devices i one.device one.at in
      record {
        device = two.device;
        at = two.at;
        later = record {
          account = two.later.account ∙ one.later.account;
          tiles = extends_both d.reading.tiles one.device.reading.tiles two.device.reading.tiles one.later.tiles two.later.tiles;
        };
      };
}

later_acted : (w : AppWorld) (i : ℕ) (act : events.Act) (own : Device) → IsLater w (events.acted w i act own)
later_acted w i act own =
    let new = events.taken_by w.accounts w.clock i own act in
    record {
      keep = refl;
      accounts = refl;
      many = length_each 0 (events.becomes w new i act) w.devices;
      takes = (new, refl);
      devices = λ j d at. record {
        device = events.becomes w new i act (0 + j) d;
        at = get_each 0 (events.becomes w new i act) w.devices j ∙ ap (option_map (events.becomes w new i act (0 + j))) at;
        later = later_becomes w new i act (0 + j) d;
      };
    }

pub later_moves : (event : events.AppEvent) (w next : AppWorld) → events.Moves event w next → IsLater w next
later_moves (Tick ms) w next is = subst (IsLater w) (sym is) (record {
  keep = refl;
  accounts = refl;
  many = refl;
  takes = extends_same w.takes w.takes refl;
  devices = λ i d at. record { device = d; at = at; later = later_itself d };
})
later_moves (At i act) w next is = subst (IsLater w) (sym is.3) (later_acted w i act is.0)

pub later_along : (all : List events.AppEvent) (w last : AppWorld) → events.Reaches all w last → IsLater w last
later_along [] w last is = subst (IsLater w) (sym is) (is_itself w)
later_along (event ∷ all) w last reaches = later_both w reaches.0 last (later_moves event w reaches.0 reaches.1) (later_along all reaches.0 last reaches.2)
