-- Items of a connection that go to the device one after another do what they do at once.
use Rattle.std.proofs.Common.{◌≡◌, ℕ, zero, suc, ◌==◌, Bool, true, false, cond, List, [], ◌∷◌, ◌++◌, Option, Some, None, map, drop, length, refl, sym, ap, ap₂, subst, ◌∙◌, inl, inr, append_assoc, append-nil}
use Rattle.std.proofs.lemmas.Bool.{cases_Bool, eq-eqb, eqb-true}
use Rattle.std.specs.List.{AllByRecursion, slice_get, slice_set}
use Rattle.std.specs.Option.{option_map}
use Rattle.cl_core.specs.Steps.{connected_step, item_step, items_run}
use Rattle.cl_handlers.specs.Clients.{ClientStep, ClientView}
use Rattle.cl_handlers.specs.Speech.{in_items}
use Rattle.cl_handlers.specs.ClientSteps.{is_apart}
use Rattle.srv_state.specs.State.{ServerState}
use Rattle.xml_framer.specs.declared.items.Item.{Item}
use Rattle.law_xml.proofs.PlainElements.{append_each}
use Rattle.sim_3_images.proofs.ItemsServed.{changed_none, changed_twice, drop_more}
use Rattle.sim_3_images.proofs.Lookups.{get_changed_same}
use Rattle.sim_3_images.proofs.TurnsAfter.{step_adds}
use Rattle.sim_3_images.proofs.UserMoves.{get_set_same}
use Rattle.sim_3_images.specs.PipeEncodings.{dropped}
use Rattle.sim_3_images.specs.EncodingsCores.{Adds, CoresFit, HeardFits, IsInClientStep, IsNoFooter}
use Rattle.sim_3_images.specs.ItemRuns.{downs}
use Rattle.sim_3_images.specs.Notes.{all_item_notes, heard_at, heard_notes, heard_on, item_notes}
use Rattle.sim_3_items.specs.ItemMoves.{Down, all_moved, at_device, at_wire, has_wire, heard_first, here_after, left_where, moved}
use Rattle.sim_3_items.specs.ItemPipes.{ItemPipe, ItemWire, entered, handed_down, put_up}
use Rattle.sim_3_items.specs.ItemWorlds.{ItemDevice, ItemWorld, read_of, silent_client_step}
use Rattle.cmd_network.specs.Positions.{changed_at}
use Rattle.sim_3_images.proofs.DevicesMoved.{put_again}
use Rattle.xml_writer.specs.Items.{Closing, ItemOut}
pub use Rattle.sim_3_images.proofs.PutSteps.{nothing_entered}

abbrev pub many_down : ℕ → ItemWire → ItemWire
many_down count p = record p { down = dropped count p.down }

pub set_twice : {T : Type 0} (l : List T) (i : ℕ) (x y : T) → slice_set (slice_set l i x) i y ≡ slice_set l i y
set_twice [] zero x y = refl
set_twice [] (suc i) x y = refl
set_twice (z ∷ l) zero x y = refl
set_twice (z ∷ l) (suc i) x y = ap (λ r. z ∷ r) (set_twice l i x y)

-- ---- things that enter one behind another

pub entered_twice : (a b : List ItemOut) (p : ItemPipe) → entered b (entered a p) ≡ entered (a ++ b) p
entered_twice a b p = by p.ended refl
  where
    by : (e : Bool) → p.ended ≡ e → entered b (entered a p) ≡ entered (a ++ b) p
    by true e = rw e refl
    by false e = rw e (ap (λ l. record { items = l; ended = false; told = p.told }) (append_assoc p.items a b))

-- ---- a turn behind another

-- the turn of some items
abbrev pub client_step_of_items : ClientView ItemOut → List ItemOut → ClientStep ItemOut ItemOut
client_step_of_items c l = items_run in_items (silent_client_step c) (map read_of l)

-- an item that comes where no connection stands does nothing
pub apart_run : (l : List Item) (t : ClientStep ItemOut ItemOut) → is_apart t.client.phase ≡ true → items_run in_items t l ≡ t
apart_run [] t e = refl
apart_run (i ∷ l) t e = ap (λ (b : Bool). items_run in_items (cond b t (connected_step in_items t i)) l) e ∙ apart_run l t e

-- one item handed over, and its turn put
abbrev one_of : Bool → List ItemOut → ItemWire → ItemWire
one_of apart puts x = left_where apart (put_up puts (handed_down x))

abbrev pub many_of : Bool → List ItemOut → ℕ → ItemWire → ItemWire
many_of apart puts n x = left_where apart (put_up puts (many_down n x))

left_alike : (puts : List ItemOut) (n : ℕ) (x : ItemWire) → one_of true puts x ≡ many_of true puts n x
left_alike puts n x = refl

one_then_many : (apart : Bool) (a b : List ItemOut) (n : ℕ) (x : ItemWire) → many_of apart b n (one_of false a x) ≡ many_of apart (a ++ b) (suc n) x
one_then_many apart a b n x =
    ap₂ (λ u l. left_where apart (record x { up = u; down = record x.down { items = l } })) (entered_twice a b x.up) (drop_more n x.down.items)

-- what is in turn behind things that are no footers
in_client_step_after : (apart : Bool) (before put : List ItemOut) → AllByRecursion IsNoFooter before → IsInClientStep apart put → IsInClientStep apart (before ++ put)
in_client_step_after apart before put none (inl all) = inl (append_each IsNoFooter before put none all)
in_client_step_after apart before put none (inr last) = inr (before ++ last.0, ap (λ l. before ++ l) last.1 ∙ sym (append_assoc before last.0 (Closing ∷ [])), append_each IsNoFooter before last.0 none last.2, last.3)

-- what is noted down by one device, or by another

pub nothing_either : {T : Type 0} (b : Bool) → cond {A = List T} b [] [] ≡ []
nothing_either true = refl
nothing_either false = refl

both_either : {T : Type 0} (b : Bool) (first second : List T) → cond b first [] ++ cond b second [] ≡ cond b (first ++ second) []
both_either true first second = refl
both_either false first second = refl

-- of the first item that comes to a device
pub heard_one : (position device i : ℕ) (v : ItemWorld) (p : ItemWire) (e : ItemDevice) → slice_get v.wires position ≡ Some p → p.device ≡ device → slice_get v.devices device ≡ Some e
    → item_notes (Down position) v i ≡ cond (device == i) (cond (has_wire position e.here) (heard_notes p.down.items e) []) []
heard_one position device i v p e found dev found_device =
    ap (heard_on position i (slice_get v.devices i)) found ∙ ap (λ k. cond (k == i) (heard_at position p.down.items (slice_get v.devices i)) []) dev ∙ by (device == i) refl
  where
    by : (b : Bool) → (device == i) ≡ b → cond b (heard_at position p.down.items (slice_get v.devices i)) [] ≡ cond b (cond (has_wire position e.here) (heard_notes p.down.items e) []) []
    by true same = ap (heard_at position p.down.items) (ap (slice_get v.devices) (sym (eqb-true device i same)) ∙ found_device)
    by false other = refl

module _ (UpFits DownFits : ItemOut → Type 0) (ServerFits : ℕ → ServerState ItemOut → Type 0) (ClientFits : ClientView ItemOut → Type 0) (cores : CoresFit UpFits DownFits ServerFits ClientFits) where
  run_adds : (l : List Item) (t : ClientStep ItemOut ItemOut) → Adds t (items_run in_items (silent_client_step t.client) l) (items_run in_items t l)
  run_adds [] t = record { client_is = refl; put_is = sym (append-nil t.out.put); notes_is = sym (append-nil t.out.notes) }
  run_adds (i ∷ l) t =
      let one = item_step in_items (silent_client_step t.client) i in
      let a = step_adds i t in
      let whole = run_adds l (item_step in_items t i) in
      let alone = run_adds l one in
      let same : items_run in_items (silent_client_step (item_step in_items t i).client) l ≡ items_run in_items (silent_client_step one.client) l = ap (λ c. items_run in_items (silent_client_step c) l) a.client_is in
      record {
        client_is = whole.client_is ∙ ap (λ (u : ClientStep ItemOut ItemOut). u.client) same ∙ sym alone.client_is;
        put_is =
            whole.put_is ∙ ap (λ x. x ++ (items_run in_items (silent_client_step (item_step in_items t i).client) l).out.put) a.put_is ∙ ap (λ (u : ClientStep ItemOut ItemOut). (t.out.put ++ one.out.put) ++ u.out.put) same
            ∙ append_assoc t.out.put one.out.put (items_run in_items (silent_client_step one.client) l).out.put ∙ ap (λ x. t.out.put ++ x) (sym alone.put_is);
        notes_is =
            whole.notes_is ∙ ap (λ x. x ++ (items_run in_items (silent_client_step (item_step in_items t i).client) l).out.notes) a.notes_is ∙ ap (λ (u : ClientStep ItemOut ItemOut). (t.out.notes ++ one.out.notes) ++ u.out.notes) same
            ∙ append_assoc t.out.notes one.out.notes (items_run in_items (silent_client_step one.client) l).out.notes ∙ ap (λ x. t.out.notes ++ x) (sym alone.notes_is);
      }

  -- what the turn of some items puts fits
  pub client_step_fits : (l : List ItemOut) (c : ClientView ItemOut) → ClientFits c → AllByRecursion DownFits l → HeardFits UpFits ClientFits (client_step_of_items c l)
  client_step_fits [] c fits all = record { client = fits; puts = tt; in_client_step = inl tt }
  client_step_fits (i ∷ l) c fits all = elim (cores.client.hears i c fits all.0).in_client_step [
    | inl none ↦
        let one = item_step in_items (silent_client_step c) (read_of i) in
        let f = cores.client.hears i c fits all.0 in
        let g = client_step_fits l one.client f.client all.1 in
        let a = run_adds (map read_of l) one in
        record {
          client = subst ClientFits (sym a.client_is) g.client;
          puts = subst (AllByRecursion UpFits) (sym a.put_is) (append_each UpFits one.out.put (client_step_of_items one.client l).out.put f.puts g.puts);
          in_client_step = subst (λ (c' : ClientView ItemOut). IsInClientStep (is_apart c'.phase) (client_step_of_items c (i ∷ l)).out.put) (sym a.client_is)
              (subst (IsInClientStep (is_apart (client_step_of_items one.client l).client.phase)) (sym a.put_is) (in_client_step_after (is_apart (client_step_of_items one.client l).client.phase) one.out.put (client_step_of_items one.client l).out.put none g.in_client_step));
        }
    | inr last ↦
        let one = item_step in_items (silent_client_step c) (read_of i) in
        let f = cores.client.hears i c fits all.0 in
        subst (HeardFits UpFits ClientFits) (sym (apart_run (map read_of l) one last.3)) f
  ]

  -- ---- items one after another, and at once

  abbrev pub heard_at_once : ℕ → ℕ → ItemDevice → List ItemOut → ItemWorld → ItemWorld
  heard_at_once position device e l v = record v {
    devices = slice_set v.devices device (record { client = (client_step_of_items e.client l).client; here = here_after (is_apart (client_step_of_items e.client l).client.phase) e.here });
    wires = changed_at position (many_of (is_apart (client_step_of_items e.client l).client.phase) (client_step_of_items e.client l).out.put (length l)) v.wires;
  }

  down_is : (position : ℕ) (v : ItemWorld) (p : ItemWire) (e : ItemDevice) → slice_get v.wires position ≡ Some p → slice_get v.devices p.device ≡ Some e → moved (Down position) v ≡ cond (has_wire position e.here) (heard_first position p.device p.down.items e v) v
  down_is position v p e found found_device =
      ap (λ o. at_wire position (λ wire d. heard_first position wire.device wire.down.items d) o v) found ∙ ap (λ o. at_device position (λ wire d. heard_first position wire.device wire.down.items d) p o v) found_device

  -- a device that has no connection hears nothing
  downs_of_none : (position n device : ℕ) (v : ItemWorld) (p : ItemWire) (e : ItemDevice) → slice_get v.wires position ≡ Some p → p.device ≡ device → slice_get v.devices device ≡ Some e → e.here ≡ None → all_moved (downs position n) v ≡ v
  downs_of_none position zero device v p e found dev found_device none = refl
  downs_of_none position (suc n) device v p e found dev found_device none =
      ap (all_moved (downs position n)) (down_is position v p e found (ap (slice_get v.devices) dev ∙ found_device) ∙ ap (λ (o : Option ℕ). cond (has_wire position o) (heard_first position p.device p.down.items e v) v) none)
      ∙ downs_of_none position n device v p e found dev found_device none

  pub downs_are : (position device : ℕ) (l others : List ItemOut) (v : ItemWorld) (p : ItemWire) (e : ItemDevice) → slice_get v.wires position ≡ Some p → p.device ≡ device → slice_get v.devices device ≡ Some e → e.here ≡ Some position
      → is_apart e.client.phase ≡ false → p.down.items ≡ l ++ others → all_moved (downs position (length l)) v ≡ heard_at_once position device e l v
  downs_are position device [] others v p e found dev found_device here stands items_are =
      sym (ap₂ (λ x y. record v { devices = x; wires = y })
      (ap (λ (b : Bool). slice_set v.devices device (record { client = e.client; here = here_after b e.here })) stands ∙ put_again v.devices device e found_device)
      (ap (λ (b : Bool). changed_at position (many_of b [] 0) v.wires) stands ∙ changed_none (many_of false [] 0) v.wires position (λ x. ap (λ u. record x { up = u }) (nothing_entered x.up))))
  downs_are position device (i ∷ l) others v p e found dev found_device here stands items_are =
      let n = length l in
      let t = item_step in_items (silent_client_step e.client) (read_of i) in
      let following : Bool → ItemWorld = λ b. record v {
        devices = slice_set v.devices device (record { client = t.client; here = here_after b e.here });
        wires = changed_at position (one_of b t.out.put) v.wires;
      } in
      let itself_here : has_wire position e.here ≡ true = ap (has_wire position) here ∙ eq-eqb position position refl in
      let one_is : moved (Down position) v ≡ following (is_apart t.client.phase) =
      down_is position v p e found (ap (slice_get v.devices) dev ∙ found_device) ∙ ap (λ (b : Bool). cond b (heard_first position p.device p.down.items e v) v) itself_here ∙ ap₂ (λ m k. heard_first position m k e v) dev items_are in
      let whole = items_run in_items t (map read_of l) in
      let shape : ClientView ItemOut → List ItemOut → ItemWorld = λ c put. record v {
        devices = slice_set v.devices device (record { client = c; here = here_after (is_apart c.phase) e.here });
        wires = changed_at position (many_of (is_apart c.phase) put (suc n)) v.wires;
      } in
      ap (all_moved (downs position n)) one_is ∙ elim (cases_Bool (is_apart t.client.phase)) [
        | inl apart ↦
            let e1 : ItemDevice = record { client = t.client; here = None } in
            ap (λ b. all_moved (downs position n) (following b)) apart
            ∙ downs_of_none position n device (following true) (one_of true t.out.put p) e1 (get_changed_same (one_of true t.out.put) v.wires position ∙ ap (option_map (one_of true t.out.put)) found) dev (get_set_same v.devices device e e1 found_device) refl
            ∙ sym (ap (λ (u : ClientStep ItemOut ItemOut). shape u.client u.out.put) (apart_run (map read_of l) t apart)
            ∙ ap (λ b. record v { devices = slice_set v.devices device (record { client = t.client; here = here_after b e.here }); wires = changed_at position (many_of b t.out.put (suc n)) v.wires }) apart)
        | inr stays ↦
            let e1 : ItemDevice = record { client = t.client; here = e.here } in
            let t' = client_step_of_items t.client l in
            let a = is_apart t'.client.phase in
            let more = run_adds (map read_of l) t in
            ap (λ b. all_moved (downs position n) (following b)) stays
            ∙ downs_are position device l others (following false) (one_of false t.out.put p) e1 (get_changed_same (one_of false t.out.put) v.wires position ∙ ap (option_map (one_of false t.out.put)) found) dev (get_set_same v.devices device e e1 found_device) here stays (ap (drop 1) items_are)
            ∙ ap₂ (λ x y. record v { devices = x; wires = y }) (set_twice v.devices device e1 (record { client = t'.client; here = here_after a e.here }))
            (changed_twice (many_of a t'.out.put n) (one_of false t.out.put) (many_of a (t.out.put ++ t'.out.put) (suc n)) v.wires position (one_then_many a t.out.put t'.out.put n))
            ∙ ap₂ shape (sym more.client_is) (sym more.put_is)
      ]

  -- ---- what the client notes down of items

  -- a device that has no connection notes nothing down
  none_noted : (position n device i : ℕ) (v : ItemWorld) (p : ItemWire) (e : ItemDevice) → slice_get v.wires position ≡ Some p → p.device ≡ device → slice_get v.devices device ≡ Some e → e.here ≡ None → all_item_notes (downs position n) v i ≡ []
  none_noted position zero device i v p e found dev found_device none = refl
  none_noted position (suc n) device i v p e found dev found_device none =
      let here : item_notes (Down position) v i ≡ [] =
      heard_one position device i v p e found dev found_device ∙ ap (λ (o : Option ℕ). cond (device == i) (cond (has_wire position o) (heard_notes p.down.items e) []) []) none ∙ nothing_either (device == i) in
      let same : moved (Down position) v ≡ v =
      down_is position v p e found (ap (slice_get v.devices) dev ∙ found_device) ∙ ap (λ (o : Option ℕ). cond (has_wire position o) (heard_first position p.device p.down.items e v) v) none in
      ap₂ (λ a b. a ++ b) here (ap (λ u. all_item_notes (downs position n) u i) same ∙ none_noted position n device i v p e found dev found_device none)

  pub downs_noted : (position device i : ℕ) (l others : List ItemOut) (v : ItemWorld) (p : ItemWire) (e : ItemDevice) → slice_get v.wires position ≡ Some p → p.device ≡ device → slice_get v.devices device ≡ Some e → e.here ≡ Some position
      → is_apart e.client.phase ≡ false → p.down.items ≡ l ++ others → all_item_notes (downs position (length l)) v i ≡ cond (device == i) (client_step_of_items e.client l).out.notes []
  downs_noted position device i [] others v p e found dev found_device here stands items_are = sym (nothing_either (device == i))
  downs_noted position device i (x ∷ l) others v p e found dev found_device here stands items_are =
      let n = length l in
      let t = item_step in_items (silent_client_step e.client) (read_of x) in
      let following : Bool → ItemWorld = λ b. record v {
        devices = slice_set v.devices device (record { client = t.client; here = here_after b e.here });
        wires = changed_at position (one_of b t.out.put) v.wires;
      } in
      let itself_here : has_wire position e.here ≡ true = ap (has_wire position) here ∙ eq-eqb position position refl in
      let one_is : moved (Down position) v ≡ following (is_apart t.client.phase) =
      down_is position v p e found (ap (slice_get v.devices) dev ∙ found_device) ∙ ap (λ (b : Bool). cond b (heard_first position p.device p.down.items e v) v) itself_here ∙ ap₂ (λ m k. heard_first position m k e v) dev items_are in
      let first : item_notes (Down position) v i ≡ cond (device == i) t.out.notes [] =
      heard_one position device i v p e found dev found_device ∙ ap₂ (λ (b : Bool) (m : List ItemOut). cond (device == i) (cond b (heard_notes m e) []) []) itself_here items_are in
      elim (cases_Bool (is_apart t.client.phase)) [
        | inl apart ↦
            let e1 : ItemDevice = record { client = t.client; here = None } in
            let rest : all_item_notes (downs position n) (moved (Down position) v) i ≡ [] =
            ap (λ u. all_item_notes (downs position n) u i) (one_is ∙ ap following apart)
            ∙ none_noted position n device i (following true) (one_of true t.out.put p) e1 (get_changed_same (one_of true t.out.put) v.wires position ∙ ap (option_map (one_of true t.out.put)) found) dev (get_set_same v.devices device e e1 found_device) refl in
            ap₂ (λ a b. a ++ b) first rest ∙ append-nil (cond (device == i) t.out.notes []) ∙ ap (λ (u : ClientStep ItemOut ItemOut). cond (device == i) u.out.notes []) (sym (apart_run (map read_of l) t apart))
        | inr stays ↦
            let e1 : ItemDevice = record { client = t.client; here = e.here } in
            let more = run_adds (map read_of l) t in
            let rest : all_item_notes (downs position n) (moved (Down position) v) i ≡ cond (device == i) (client_step_of_items t.client l).out.notes [] =
            ap (λ u. all_item_notes (downs position n) u i) (one_is ∙ ap following stays)
            ∙ downs_noted position device i l others (following false) (one_of false t.out.put p) e1 (get_changed_same (one_of false t.out.put) v.wires position ∙ ap (option_map (one_of false t.out.put)) found) dev (get_set_same v.devices device e e1 found_device) here stays (ap (drop 1) items_are) in
            ap₂ (λ a b. a ++ b) first rest ∙ both_either (device == i) t.out.notes (client_step_of_items t.client l).out.notes ∙ ap (λ m. cond (device == i) m []) (sym more.notes_is)
      ]
