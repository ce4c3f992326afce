-- Items of a connection that go to the server one after another do what they do at once.
use Rattle.std.proofs.Common.{◌≡◌, ◌⊎◌, ◌≤◌, ℕ, zero, suc, ◌==◌, Bool, true, false, cond, List, [], ◌∷◌, ◌++◌, Option, Some, None, map, drop, length, refl, sym, ap, ap₂, subst, ◌∙◌, inl, inr, append-nil, append_assoc}
use Rattle.std.proofs.lemmas.Bool.{cases_eq}
use Rattle.std.proofs.lemmas.Option.{none-some, same_Some}
use Rattle.std.specs.List.{AllByRecursion, slice_get}
use Rattle.std.specs.Option.{option_map}
use Rattle.cl_handlers.specs.Clients.{ClientView}
use Rattle.srv_state.specs.State.{Out, Put, ServerState, Shut, Step, Took, conn_at, is_number}
use Rattle.srv_state.specs.Steps.{acted}
use Rattle.srv_state.specs.Streams.{standing_of}
use Rattle.srv_state.specs.declared.connection.Connection.{Connection}
use Rattle.xml_framer.specs.declared.items.Item.{Item}
use Rattle.xml_framer.specs.declared.states.Phase.{Phase}
use Rattle.xml_framer.specs.declared.states.Phase.TheVariants as phase
use Rattle.sim_3_images.proofs.Beginnings.{IsHeaded, first_before}
use Rattle.sim_3_images.proofs.AfterOuts.{following, items_after}
use Rattle.sim_3_images.proofs.Emissions.{this_number}
use Rattle.sim_3_images.proofs.Lookups.{get_changed_other, get_changed_same}
use Rattle.sim_3_images.specs.PipeEncodings.{dropped}
use Rattle.sim_3_images.specs.EncodingsCores.{AreInOrder, CoresFit, IsInOrder, after_put, after_shut, writer_at, writer_of}
use Rattle.sim_3_images.specs.ItemRuns.{ups}
use Rattle.sim_3_images.specs.Puts.{all_item_gives, given_along, given_here, is_put_as_stanza, item_gives, item_given_first, item_given_on}
use Rattle.sim_3_images.specs.Reads.{all_item_reads, item_read_first, item_read_on, item_reads, read_along, read_here, read_where}
use Rattle.sim_3_images.proofs.PutsTold.{given_following, nothing_given}
use Rattle.sim_3_images.proofs.ReadsTold.{read_following}
use Rattle.sim_3_items.specs.ItemMoves.{Up, all_emitted, all_moved, emitted, moved, served_by, served_first, step_of, takes_reported}
use Rattle.sim_3_items.specs.ItemPipes.{ItemPipe, ItemWire, handed_up, put_down, shut}
use Rattle.sim_3_items.specs.ItemWorlds.{ItemDevice, ItemWorld, Take, itself, read_of}
use Rattle.srv_core.specs.Table.{after_item, after_items, at_open}
use Rattle.cmd_network.specs.Positions.{changed_at, changed_under}
use Rattle.cmd_world.specs.Worlds.{number_at}
use Rattle.xml_writer.specs.Items.{ItemOut}

abbrev pub many_up : ℕ → ItemWire → ItemWire
many_up count p = record p { up = dropped count p.up }

-- ---- lists changed twice

pub changed_commute : {T : Type 0} (f g : T → T) (l : List T) (p q : ℕ) → ((x : T) → f (g x) ≡ g (f x)) → changed_at p f (changed_at q g l) ≡ changed_at q g (changed_at p f l)
changed_commute f g [] p q same = refl
changed_commute f g (x ∷ l) zero zero same = ap (λ y. y ∷ l) (same x)
changed_commute f g (x ∷ l) zero (suc q) same = refl
changed_commute f g (x ∷ l) (suc p) zero same = refl
changed_commute f g (x ∷ l) (suc p) (suc q) same = ap (λ r. x ∷ r) (changed_commute f g l p q same)

pub changed_twice : {T : Type 0} (f g h : T → T) (l : List T) (p : ℕ) → ((x : T) → f (g x) ≡ h x) → changed_at p f (changed_at p g l) ≡ changed_at p h l
changed_twice f g h [] p same = refl
changed_twice f g h (x ∷ l) zero same = ap (λ y. y ∷ l) (same x)
changed_twice f g h (x ∷ l) (suc p) same = ap (λ r. x ∷ r) (changed_twice f g h l p same)

pub changed_none : {T : Type 0} (f : T → T) (l : List T) (p : ℕ) → ((x : T) → f x ≡ x) → changed_at p f l ≡ l
changed_none f [] p same = refl
changed_none f (x ∷ l) zero same = ap (λ y. y ∷ l) (same x)
changed_none f (x ∷ l) (suc p) same = ap (λ r. x ∷ r) (changed_none f l p same)

pub changed_to_same : {T : Type 0} (f : T → T) (l : List T) (p : ℕ) (x : T) → slice_get l p ≡ Some x → f x ≡ x → changed_at p f l ≡ l
changed_to_same f [] p x found same = refl
changed_to_same f (y ∷ l) zero x found same = ap (λ z. z ∷ l) (ap f (same_Some y x found) ∙ same ∙ sym (same_Some y x found))
changed_to_same f (y ∷ l) (suc p) x found same = ap (λ r. y ∷ r) (changed_to_same f l p x found same)

-- ---- items dropped

drop_none : (n : ℕ) → drop {A = ItemOut} n [] ≡ []
drop_none zero = refl
drop_none (suc n) = refl

pub drop_more : (n : ℕ) (l : List ItemOut) → drop n (drop 1 l) ≡ drop (suc n) l
drop_more n [] = drop_none n
drop_more n (x ∷ l) = refl

many_handed : (n : ℕ) (x : ItemWire) → many_up n (handed_up x) ≡ many_up (suc n) x
many_handed n x = ap (λ l. record x { up = record x.up { items = l } }) (drop_more n x.up.items)

-- ---- what is put out doesn't touch what was dropped

shut_commutes : (n : ℕ) (x : ItemWire) → many_up n (shut x) ≡ shut (many_up n x)
shut_commutes n x = ap (λ l. record (shut x) { up = record (shut x).up { items = l } }) (drop_none n)

under_commutes : (position n k : ℕ) (g : ItemWire → ItemWire) (ws : List ItemWire) → ((x : ItemWire) → many_up n (g x) ≡ g (many_up n x)) → changed_at position (many_up n) (changed_under k g ws) ≡ changed_under k g (changed_at position (many_up n) ws)
under_commutes position n zero g ws same = refl
under_commutes position n (suc q) g ws same = changed_commute (many_up n) g ws position q same

emitted_commutes : (position n : ℕ) (out : Out ItemOut) (ws : List ItemWire) → changed_at position (many_up n) (emitted out ws) ≡ emitted out (changed_at position (many_up n) ws)
emitted_commutes position n (Put k i) ws = under_commutes position n k (put_down (i ∷ [])) ws (λ x. refl)
emitted_commutes position n (Shut k) ws = under_commutes position n k shut ws (shut_commutes n)
emitted_commutes position n (Took from to origin) ws = refl

pub all_commutes : (position n : ℕ) (outs : List (Out ItemOut)) (ws : List ItemWire) → changed_at position (many_up n) (all_emitted outs ws) ≡ all_emitted outs (changed_at position (many_up n) ws)
all_commutes position n [] ws = refl
all_commutes position n (out ∷ outs) ws = all_commutes position n outs (emitted out ws) ∙ ap (all_emitted outs) (emitted_commutes position n out ws)

emitted_joined : (a b : List (Out ItemOut)) (ws : List ItemWire) → all_emitted (a ++ b) ws ≡ all_emitted b (all_emitted a ws)
emitted_joined [] b ws = refl
emitted_joined (out ∷ a) b ws = emitted_joined a b (emitted out ws)

-- ---- what was taken

takes_joined : (moment : ℕ) (a b : List (Out ItemOut)) → takes_reported moment (a ++ b) ≡ takes_reported moment a ++ takes_reported moment b
takes_joined moment [] b = refl
takes_joined moment (Put k i ∷ a) b = takes_joined moment a b
takes_joined moment (Shut k ∷ a) b = takes_joined moment a b
takes_joined moment (Took from to origin ∷ a) b = ap (λ l. record { moment = moment; from = from; to = to; origin = origin } ∷ l) (takes_joined moment a b)

takes_after : (moment : ℕ) (before : List Take) (a b : List (Out ItemOut)) → (before ++ takes_reported moment a) ++ takes_reported moment b ≡ before ++ takes_reported moment (a ++ b)
takes_after moment before a b = append_assoc before (takes_reported moment a) (takes_reported moment b) ∙ ap (λ l. before ++ l) (sym (takes_joined moment a b))

-- ---- order

either_shut : (b : Bool) → after_shut b None ≡ None
either_shut true = refl
either_shut false = refl

-- where the writer puts nothing more it doesn't begin again
none_later : (Fits : ItemOut → Type 0) (j : ℕ) (outs : List (Out ItemOut)) (later : Option Phase) → AreInOrder Fits j None outs later → later ≡ None
none_later Fits j [] later order = sym order
none_later Fits j (Put k i ∷ outs) later order = by (none_later Fits j outs later) (is_number j k) order.0 order.1
  where
    by : (AreInOrder Fits j None outs later → later ≡ None) → (b : Bool) → IsInOrder Fits b None i → AreInOrder Fits j (after_put b None i) outs later → later ≡ None
    by more true bad rest = absurd bad
    by more false bounded rest = more rest
none_later Fits j (Shut k ∷ outs) later order = none_later Fits j outs later (subst (λ n. AreInOrder Fits j n outs later) (either_shut (is_number j k)) order)
none_later Fits j (Took from to origin ∷ outs) later order = none_later Fits j outs later order

pub order_joined : (Fits : ItemOut → Type 0) (j : ℕ) (a b c : Option Phase) (outs more : List (Out ItemOut)) → AreInOrder Fits j a outs b → AreInOrder Fits j b more c → AreInOrder Fits j a (outs ++ more) c
order_joined Fits j a b c [] more order rest = subst (λ n. AreInOrder Fits j n more c) (sym order) rest
order_joined Fits j a b c (Put k i ∷ outs) more order rest = (order.0, order_joined Fits j (after_put (is_number j k) a i) b c outs more order.1 rest)
order_joined Fits j a b c (Shut k ∷ outs) more order rest = order_joined Fits j (after_shut (is_number j k) a) b c outs more order rest
order_joined Fits j a b c (Took from to origin ∷ outs) more order rest = order_joined Fits j a b c outs more order rest

-- ---- the pipe up behind what was put out: as it was, or emptied, and then the server puts nothing more

pub record UpAfter (position : ℕ) (p : ItemWire) (later : Option Phase) (ws : List ItemWire) : Type 0 where
  pub wire : ItemWire
  pub found : slice_get ws position ≡ Some wire
  pub is : (wire.up ≡ p.up) ⊎ ((wire.up.items ≡ []) × (later ≡ None))

emptied_after : (position : ℕ) (p : ItemWire) (later : Option Phase) (ws : List ItemWire) → later ≡ None → UpAfter position (shut p) later ws → UpAfter position p later ws
emptied_after position p later ws none u = record { wire = u.wire; found = u.found; is = by u.is }
  where
    by : (u.wire.up ≡ (shut p).up) ⊎ ((u.wire.up.items ≡ []) × (later ≡ None)) → (u.wire.up ≡ p.up) ⊎ ((u.wire.up.items ≡ []) × (later ≡ None))
    by (inl e) = inr (ap (λ (x : ItemPipe). x.items) e, none)
    by (inr e) = inr e

-- what goes down leaves the pipe up
put_after : (position : ℕ) (p : ItemWire) (i : ItemOut) (later : Option Phase) (ws : List ItemWire) → UpAfter position (put_down (i ∷ []) p) later ws → UpAfter position p later ws
put_after position p i later ws u = record { wire = u.wire; found = u.found; is = u.is }

pub up_after : (Fits : ItemOut → Type 0) (position : ℕ) (outs : List (Out ItemOut)) (now later : Option Phase) (ws : List ItemWire) (p : ItemWire) → AreInOrder Fits (number_at position) now outs later → slice_get ws position ≡ Some p → UpAfter position p later (all_emitted outs ws)
up_after Fits position [] now later ws p order found = record { wire = p; found = found; is = inl refl }
up_after Fits position (Took from to origin ∷ outs) now later ws p order found = up_after Fits position outs now later ws p order found
up_after Fits position (Put zero i ∷ outs) now later ws p order found = up_after Fits position outs (after_put (is_number (number_at position) zero) now i) later ws p order.1 found
up_after Fits position (Put (suc q) i ∷ outs) now later ws p order found = elim (cases_eq position q) [
  | inl same ↦ put_after position p i later (all_emitted outs (changed_at q (put_down (i ∷ [])) ws))
      (up_after Fits position outs (after_put (is_number (number_at position) (suc q)) now i) later (changed_at q (put_down (i ∷ [])) ws) (put_down (i ∷ []) p) order.1
      (subst (λ x. slice_get (changed_at x (put_down (i ∷ [])) ws) position ≡ Some (put_down (i ∷ []) p)) same (get_changed_same (put_down (i ∷ [])) ws position ∙ ap (option_map (put_down (i ∷ []))) found)))
  | inr other ↦ up_after Fits position outs (after_put (is_number (number_at position) (suc q)) now i) later (changed_at q (put_down (i ∷ [])) ws) p order.1 (get_changed_other (put_down (i ∷ [])) ws q position other ∙ found)
]
up_after Fits position (Shut zero ∷ outs) now later ws p order found = up_after Fits position outs (after_shut (is_number (number_at position) zero) now) later ws p order found
up_after Fits position (Shut (suc q) ∷ outs) now later ws p order found = elim (cases_eq position q) [
  | inl same ↦
      let then_none = subst (λ b. AreInOrder Fits (number_at position) (after_shut b now) outs later) (this_number position q same) order in
      emptied_after position p later (all_emitted outs (changed_at q shut ws)) (none_later Fits (number_at position) outs later then_none)
      (up_after Fits position outs None later (changed_at q shut ws) (shut p) then_none (subst (λ x. slice_get (changed_at x shut ws) position ≡ Some (shut p)) same (get_changed_same shut ws position ∙ ap (option_map shut) found)))
  | inr other ↦ up_after Fits position outs (after_shut (is_number (number_at position) (suc q)) now) later (changed_at q shut ws) p order (get_changed_other shut ws q position other ∙ found)
]

-- ---- a connection that isn't open

no_conn : (o : Option Connection) → option_map writer_of o ≡ None → o ≡ None
no_conn None e = refl
no_conn (Some c) e = absurd (none-some (writer_of c) (sym e))

nothing_done : (k : ℕ) (items : List Item) (s : Step ItemOut) → conn_at k s.server_state ≡ None → after_items itself k items s ≡ s
nothing_done k [] s none = refl
nothing_done k (i ∷ items) s none =
    ap (λ o. after_items itself k items (acted itself (at_open itself k i (option_map standing_of o) s.server_state) s)) none ∙ nothing_done k items s none

-- nothing is read there
nothing_read : (k : ℕ) (coming : List Item) (s : Step ItemOut) → conn_at k s.server_state ≡ None → read_along itself k coming s ≡ []
nothing_read k [] s none = refl
nothing_read k (i ∷ coming) s none =
    ap₂ (λ a b. a ++ b) (ap (λ o. read_where o k i s.server_state) none)
    (ap (λ o. read_along itself k coming (acted itself (at_open itself k i (option_map standing_of o) s.server_state) s)) none ∙ nothing_read k coming s none)

-- what is put out leaves each connection to its device
changed_device : (f : ItemWire → ItemWire) → ((x : ItemWire) → (f x).device ≡ x.device) → (ws : List ItemWire) (q position : ℕ) → option_map (λ (x : ItemWire). x.device) (slice_get (changed_at q f ws) position) ≡ option_map (λ (x : ItemWire). x.device) (slice_get ws position)
changed_device f same [] q position = refl
changed_device f same (x ∷ ws) zero zero = ap Some (same x)
changed_device f same (x ∷ ws) zero (suc position) = refl
changed_device f same (x ∷ ws) (suc q) zero = refl
changed_device f same (x ∷ ws) (suc q) (suc position) = changed_device f same ws q position

under_device : (k : ℕ) (f : ItemWire → ItemWire) → ((x : ItemWire) → (f x).device ≡ x.device) → (ws : List ItemWire) (position : ℕ) → option_map (λ (x : ItemWire). x.device) (slice_get (changed_under k f ws) position) ≡ option_map (λ (x : ItemWire). x.device) (slice_get ws position)
under_device zero f same ws position = refl
under_device (suc q) f same ws position = changed_device f same ws q position

emitted_device : (outs : List (Out ItemOut)) (ws : List ItemWire) (position : ℕ) → option_map (λ (x : ItemWire). x.device) (slice_get (all_emitted outs ws) position) ≡ option_map (λ (x : ItemWire). x.device) (slice_get ws position)
emitted_device [] ws position = refl
emitted_device (Put k i ∷ outs) ws position = emitted_device outs (emitted (Put k i) ws) position ∙ under_device k (put_down (i ∷ [])) (λ x. refl) ws position
emitted_device (Shut k ∷ outs) ws position = emitted_device outs (emitted (Shut k) ws) position ∙ under_device k shut (λ x. refl) ws position
emitted_device (Took from to origin ∷ outs) ws position = emitted_device outs ws position

-- what is read of one device, or of another
pub nothing_either : (b : Bool) → cond {A = List ItemOut} b [] [] ≡ []
nothing_either true = refl
nothing_either false = refl

pub both_either : (b : Bool) (first second : List ItemOut) → cond b first [] ++ cond b second [] ≡ cond b (first ++ second) []
both_either true first second = refl
both_either false first second = refl

ups_of_none : (position n : ℕ) (v : ItemWorld) (p : ItemWire) → slice_get v.wires position ≡ Some p → p.up.items ≡ [] → all_moved (ups position n) v ≡ v
ups_of_none position zero v p found none = refl
ups_of_none position (suc n) v p found none =
    ap (λ o. all_moved (ups position n) (served_by position o v)) found ∙ ap (λ l. all_moved (ups position n) (served_first position l v)) none ∙ ups_of_none position n v p found none

-- ---- items one after another, and at once

abbrev pub served : ℕ → List ItemOut → ServerState ItemOut → Step ItemOut
served position first h = after_items itself (number_at position) (map read_of first) (step_of h)

abbrev pub at_once : ℕ → List ItemOut → ItemWorld → ItemWorld
at_once position first v = record v {
  server = (served position first v.server).server_state;
  wires = all_emitted (served position first v.server).outs (changed_at position (many_up (length first)) v.wires);
  takes = v.takes ++ takes_reported v.moment (served position first v.server).outs;
}

-- the first item, and the others behind it
served_parts : (position : ℕ) (i : ItemOut) (rest : List ItemOut) (h : ServerState ItemOut) →
    served position (i ∷ rest) h ≡ following (after_item itself (number_at position) (read_of i) (step_of h)).outs (served position rest (after_item itself (number_at position) (read_of i) (step_of h)).server_state)
served_parts position i rest h =
    let d = after_item itself (number_at position) (read_of i) (step_of h) in
    ap (λ l. after_items itself (number_at position) (map read_of rest) (record { server_state = d.server_state; outs = l })) (sym (append-nil d.outs)) ∙ items_after d.outs itself (number_at position) (map read_of rest) (step_of d.server_state)

module _ (UpFits DownFits : ItemOut → Type 0) (ServerFits : ℕ → ServerState ItemOut → Type 0) (ClientFits : ClientView ItemOut → Type 0) (cores : CoresFit UpFits DownFits ServerFits ClientFits) where
  pub served_fits : (n position : ℕ) (first : List ItemOut) (h : ServerState ItemOut) → number_at position ≤ n → ServerFits n h → AllByRecursion UpFits first → (writer_at (number_at position) h ≡ Some phase.First → IsHeaded first) → ServerFits n (served position first h).server_state
  served_fits n position [] h few fits all comes = fits
  served_fits n position (i ∷ rest) h few fits all comes =
      let d = after_item itself (number_at position) (read_of i) (step_of h) in
      subst (λ (s : Step ItemOut). ServerFits n s.server_state) (sym (served_parts position i rest h)) (served_fits n position rest d.server_state few (cores.handles n (number_at position) i h fits few all.0 comes) all.1 (λ e. absurd (cores.opened n (number_at position) i h fits few all.0 comes e)))

  pub served_in_order : (n position : ℕ) (first : List ItemOut) (h : ServerState ItemOut) (j : ℕ) → number_at position ≤ n → ServerFits n h → AllByRecursion UpFits first → (writer_at (number_at position) h ≡ Some phase.First → IsHeaded first) → AreInOrder DownFits j (writer_at j h) (served position first h).outs (writer_at j (served position first h).server_state)
  served_in_order n position [] h j few fits all comes = refl
  served_in_order n position (i ∷ rest) h j few fits all comes =
      let d = after_item itself (number_at position) (read_of i) (step_of h) in
      let d' = served position rest d.server_state in
      subst (λ (s : Step ItemOut). AreInOrder DownFits j (writer_at j h) s.outs (writer_at j s.server_state)) (sym (served_parts position i rest h))
      (order_joined DownFits j (writer_at j h) (writer_at j d.server_state) (writer_at j d'.server_state) d.outs d'.outs (cores.in_order n (number_at position) i h j fits few all.0 comes)
      (served_in_order n position rest d.server_state j few (cores.handles n (number_at position) i h fits few all.0 comes) all.1 (λ e. absurd (cores.opened n (number_at position) i h fits few all.0 comes e))))

  -- behind an item its connection doesn't stand before the first header
  pub served_opened : (n position : ℕ) (first : List ItemOut) (h : ServerState ItemOut) → number_at position ≤ n → ServerFits n h → AllByRecursion UpFits first → (writer_at (number_at position) h ≡ Some phase.First → IsHeaded first)
      → writer_at (number_at position) (served position first h).server_state ≡ Some phase.First → first ≡ []
  served_opened n position [] h few fits all comes first = refl
  served_opened n position (i ∷ rest) h few fits all comes first =
      let d = after_item itself (number_at position) (read_of i) (step_of h) in
      let opened = cores.opened n (number_at position) i h fits few all.0 comes in
      let order = served_in_order n position rest d.server_state (number_at position) few (cores.handles n (number_at position) i h fits few all.0 comes) all.1 (λ e. absurd (opened e)) in
      absurd (opened (first_before DownFits (number_at position) (served position rest d.server_state).outs (writer_at (number_at position) d.server_state) (writer_at (number_at position) (served position rest d.server_state).server_state) order
      (sym (ap (λ (s : Step ItemOut). writer_at (number_at position) s.server_state) (served_parts position i rest h)) ∙ first)))

  pub ups_are : (many position : ℕ) (first others : List ItemOut) (v : ItemWorld) (p : ItemWire) → number_at position ≤ many → slice_get v.wires position ≡ Some p → p.up.items ≡ first ++ others → ServerFits many v.server → AllByRecursion UpFits first → (writer_at (number_at position) v.server ≡ Some phase.First → IsHeaded first)
      → all_moved (ups position (length first)) v ≡ at_once position first v
  ups_are many position [] others v p few found items_are fits all comes = ap₂ (λ l t. record v { wires = l; takes = t }) (sym (changed_none (many_up 0) v.wires position (λ x. refl))) (sym (append-nil v.takes))
  ups_are many position (i ∷ rest) others v p few found items_are fits all comes =
      let n = length rest in
      let d = after_item itself (number_at position) (read_of i) (step_of v.server) in
      let ws = changed_at position handed_up v.wires in
      let took = takes_reported v.moment in
      let one : ItemWorld = record v { server = d.server_state; wires = all_emitted d.outs ws; takes = v.takes ++ took d.outs } in
      let step : moved (Up position) v ≡ one = ap (λ o. served_by position o v) found ∙ ap (λ l. served_first position l v) items_are in
      let here : slice_get ws position ≡ Some (handed_up p) = get_changed_same handed_up v.wires position ∙ ap (option_map handed_up) found in
      let after = up_after DownFits position d.outs (writer_at (number_at position) v.server) (writer_at (number_at position) d.server_state) ws (handed_up p) (cores.in_order many (number_at position) i v.server (number_at position) fits few all.0 comes) here in
      let dropped_is : changed_at position (many_up n) (all_emitted d.outs ws) ≡ all_emitted d.outs (changed_at position (many_up (suc n)) v.wires) =
      all_commutes position n d.outs ws ∙ ap (all_emitted d.outs) (changed_twice (many_up n) handed_up (many_up (suc n)) v.wires position (many_handed n)) in
      ap (all_moved (ups position n)) step ∙ (elim after.is [
        | inl kept ↦
            let d' = served position rest d.server_state in
            ups_are many position rest others one after.wire few after.found (ap (λ (x : ItemPipe). x.items) kept ∙ ap (drop 1) items_are) (cores.handles many (number_at position) i v.server fits few all.0 comes) all.1 (λ e. absurd (cores.opened many (number_at position) i v.server fits few all.0 comes e))
            ∙ ap₂ (λ l t. record v { server = d'.server_state; wires = all_emitted d'.outs l; takes = t }) dropped_is (takes_after v.moment v.takes d.outs d'.outs)
            ∙ ap (λ l. record v { server = d'.server_state; wires = l; takes = v.takes ++ took (d.outs ++ d'.outs) }) (sym (emitted_joined d.outs d'.outs (changed_at position (many_up (suc n)) v.wires)))
            ∙ ap (λ (s : Step ItemOut). record v { server = s.server_state; wires = all_emitted s.outs (changed_at position (many_up (suc n)) v.wires); takes = v.takes ++ took s.outs }) (sym (served_parts position i rest v.server))
        | inr gone ↦
            let same : served position (i ∷ rest) v.server ≡ d = nothing_done (number_at position) (map read_of rest) d (no_conn (conn_at (number_at position) d.server_state) gone.1) in
            let unchanged : many_up n after.wire ≡ after.wire = ap (λ l. record after.wire { up = record after.wire.up { items = drop n l } }) gone.0 ∙ ap (λ l. record after.wire { up = record after.wire.up { items = l } }) (drop_none n ∙ sym gone.0) in
            ups_of_none position n one after.wire after.found gone.0
            ∙ ap (λ l. record v { server = d.server_state; wires = l; takes = v.takes ++ took d.outs }) (sym (changed_to_same (many_up n) (all_emitted d.outs ws) position after.wire after.found unchanged) ∙ dropped_is)
            ∙ ap (λ (s : Step ItemOut). record v { server = s.server_state; wires = all_emitted s.outs (changed_at position (many_up (suc n)) v.wires); takes = v.takes ++ took s.outs }) (sym same)
      ])

  -- ---- what the server reads of them

  none_read : (position n i : ℕ) (v : ItemWorld) (p : ItemWire) → slice_get v.wires position ≡ Some p → p.up.items ≡ [] → all_item_reads (ups position n) v i ≡ []
  none_read position zero i v p found none = refl
  none_read position (suc n) i v p found none =
      let same : moved (Up position) v ≡ v = ap (λ o. served_by position o v) found ∙ ap (λ l. served_first position l v) none in
      ap₂ (λ a b. a ++ b) (ap (item_read_on position i v) found ∙ ap (λ l. cond (p.device == i) (item_read_first (number_at position) l v) []) none ∙ nothing_either (p.device == i))
      (ap (λ u. all_item_reads (ups position n) u i) same ∙ none_read position n i v p found none)

  pub ups_read : (many position device i : ℕ) (first others : List ItemOut) (v : ItemWorld) (p : ItemWire) → number_at position ≤ many → slice_get v.wires position ≡ Some p → p.device ≡ device → p.up.items ≡ first ++ others → ServerFits many v.server → AllByRecursion UpFits first
      → (writer_at (number_at position) v.server ≡ Some phase.First → IsHeaded first) → all_item_reads (ups position (length first)) v i ≡ cond (device == i) (read_along itself (number_at position) (map read_of first) (step_of v.server)) []
  ups_read many position device i [] others v p few found dev items_are fits all comes = sym (nothing_either (device == i))
  ups_read many position device i (x ∷ rest) others v p few found dev items_are fits all comes =
      let n = length rest in
      let k = number_at position in
      let d = after_item itself k (read_of x) (step_of v.server) in
      let ws = changed_at position handed_up v.wires in
      let one : ItemWorld = record v { server = d.server_state; wires = all_emitted d.outs ws; takes = v.takes ++ takes_reported v.moment d.outs } in
      let step : moved (Up position) v ≡ one = ap (λ o. served_by position o v) found ∙ ap (λ l. served_first position l v) items_are in
      let here : slice_get ws position ≡ Some (handed_up p) = get_changed_same handed_up v.wires position ∙ ap (option_map handed_up) found in
      let after = up_after DownFits position d.outs (writer_at k v.server) (writer_at k d.server_state) ws (handed_up p) (cores.in_order many k x v.server k fits few all.0 comes) here in
      let same_device : after.wire.device ≡ device =
      same_Some after.wire.device p.device (sym (ap (option_map (λ (y : ItemWire). y.device)) after.found) ∙ emitted_device d.outs ws position ∙ ap (option_map (λ (y : ItemWire). y.device)) here) ∙ dev in
      let mine : item_reads (Up position) v i ≡ cond (device == i) (read_here k (read_of x) v.server) [] =
      ap (item_read_on position i v) found ∙ ap₂ (λ m l. cond (m == i) (item_read_first k l v) []) dev items_are in
      let more : read_along itself k (map read_of rest) d ≡ read_along itself k (map read_of rest) (step_of d.server_state) =
      ap (λ l. read_along itself k (map read_of rest) (record { server_state = d.server_state; outs = l })) (sym (append-nil d.outs)) ∙ read_following d.outs itself k (map read_of rest) (step_of d.server_state) in
      elim after.is [
        | inl kept ↦
            ap₂ (λ a b. a ++ b) mine (ap (λ u. all_item_reads (ups position n) u i) step
            ∙ ups_read many position device i rest others one after.wire few after.found same_device (ap (λ (y : ItemPipe). y.items) kept ∙ ap (drop 1) items_are) (cores.handles many k x v.server fits few all.0 comes) all.1 (λ e. absurd (cores.opened many k x v.server fits few all.0 comes e)))
            ∙ both_either (device == i) (read_here k (read_of x) v.server) (read_along itself k (map read_of rest) (step_of d.server_state)) ∙ ap (λ l. cond (device == i) (read_here k (read_of x) v.server ++ l) []) (sym more)
        | inr gone ↦
            ap₂ (λ a b. a ++ b) mine (ap (λ u. all_item_reads (ups position n) u i) step ∙ none_read position n i one after.wire after.found gone.0) ∙ append-nil (cond (device == i) (read_here k (read_of x) v.server) [])
            ∙ ap (λ l. cond (device == i) l []) (sym (append-nil (read_here k (read_of x) v.server)) ∙ ap (λ l. read_here k (read_of x) v.server ++ l) (sym (nothing_read k (map read_of rest) d (no_conn (conn_at k d.server_state) gone.1))))
      ]

  -- ---- what the server puts then

  none_given : (position n i : ℕ) (v : ItemWorld) (p : ItemWire) → slice_get v.wires position ≡ Some p → p.up.items ≡ [] → all_item_gives (ups position n) v i ≡ []
  none_given position zero i v p found none = refl
  none_given position (suc n) i v p found none =
      let same : moved (Up position) v ≡ v = ap (λ o. served_by position o v) found ∙ ap (λ l. served_first position l v) none in
      ap₂ (λ a b. a ++ b) (by (slice_get v.devices i)) (ap (λ u. all_item_gives (ups position n) u i) same ∙ none_given position n i v p found none)
    where
      by : (o : Option ItemDevice) → item_given_on position v o (slice_get v.wires position) ≡ []
      by None = refl
      by (Some d) = ap (item_given_on position v (Some d)) found ∙ ap (λ l. item_given_first d.client.account (number_at position) l v) none

  pub ups_give : (many position i : ℕ) (first others : List ItemOut) (v : ItemWorld) (p : ItemWire) (e : ItemDevice) → slice_get v.devices i ≡ Some e → number_at position ≤ many → slice_get v.wires position ≡ Some p → p.up.items ≡ first ++ others → ServerFits many v.server → AllByRecursion UpFits first
      → (writer_at (number_at position) v.server ≡ Some phase.First → IsHeaded first) → all_item_gives (ups position (length first)) v i ≡ given_along itself is_put_as_stanza e.client.account (number_at position) (map read_of first) (step_of v.server)
  ups_give many position i [] others v p e dev few found items_are fits all comes = refl
  ups_give many position i (x ∷ rest) others v p e dev few found items_are fits all comes =
      let n = length rest in
      let k = number_at position in
      let who = e.client.account in
      let d = after_item itself k (read_of x) (step_of v.server) in
      let ws = changed_at position handed_up v.wires in
      let one : ItemWorld = record v { server = d.server_state; wires = all_emitted d.outs ws; takes = v.takes ++ takes_reported v.moment d.outs } in
      let step : moved (Up position) v ≡ one = ap (λ o. served_by position o v) found ∙ ap (λ l. served_first position l v) items_are in
      let here : slice_get ws position ≡ Some (handed_up p) = get_changed_same handed_up v.wires position ∙ ap (option_map handed_up) found in
      let after = up_after DownFits position d.outs (writer_at k v.server) (writer_at k d.server_state) ws (handed_up p) (cores.in_order many k x v.server k fits few all.0 comes) here in
      let mine : item_gives (Up position) v i ≡ given_here itself is_put_as_stanza who k (read_of x) v.server =
      ap (λ o. item_given_on position v o (slice_get v.wires position)) dev ∙ ap (item_given_on position v (Some e)) found ∙ ap (λ l. item_given_first who k l v) items_are in
      let more : given_along itself is_put_as_stanza who k (map read_of rest) d ≡ given_along itself is_put_as_stanza who k (map read_of rest) (step_of d.server_state) =
      ap (λ l. given_along itself is_put_as_stanza who k (map read_of rest) (record { server_state = d.server_state; outs = l })) (sym (append-nil d.outs)) ∙ given_following d.outs itself is_put_as_stanza who k (map read_of rest) (step_of d.server_state) in
      elim after.is [
        | inl kept ↦
            ap₂ (λ a b. a ++ b) mine (ap (λ u. all_item_gives (ups position n) u i) step
            ∙ ups_give many position i rest others one after.wire e dev few after.found (ap (λ (y : ItemPipe). y.items) kept ∙ ap (drop 1) items_are) (cores.handles many k x v.server fits few all.0 comes) all.1 (λ e. absurd (cores.opened many k x v.server fits few all.0 comes e))
            ∙ sym more)
        | inr gone ↦
            ap₂ (λ a b. a ++ b) mine (ap (λ u. all_item_gives (ups position n) u i) step ∙ none_given position n i one after.wire after.found gone.0
            ∙ sym (nothing_given who k (map read_of rest) d (no_conn (conn_at k d.server_state) gone.1)))
      ]
