-- A cut, a tick of the clock, and an end that is told to the server.
use Rattle.std.proofs.Common.{◌≡◌, ◌≢◌, ℕ, ◌+◌, Bool, true, false, List, [], ◌∷◌, Option, Some, None, cond, length, refl, sym, ap, subst, ◌∙◌, inl, inr, arith}
use Rattle.std.proofs.lemmas.Bool.{cases_eq}
use Rattle.std.proofs.lemmas.Option.{same_Some}
use Rattle.std.specs.List.{slice_get, slice_set}
use Rattle.std.specs.Map.{remove_entry}
use Rattle.std.specs.Option.{option_map}
use Rattle.cl_handlers.specs.Clients.{ClientView}
use Rattle.srv_state.specs.Moments.{at_moment, gone_at}
use Rattle.srv_state.specs.State.{ServerState, is_number}
use Rattle.xml_framer.specs.Limits.{server_limits}
use Rattle.xml_framer.specs.declared.states.Phase.TheVariants as phase
use Rattle.sim_3_images.proofs.Beginnings.{begins_at, cut_begun}
use Rattle.sim_3_images.proofs.ServerStatesRendered.{gone_rendered, moment_rendered}
use Rattle.sim_3_images.proofs.Lookups.{found_after_removal, get_changed_other, get_changed_same, length_changed, set_changes}
use Rattle.sim_3_images.proofs.PipeSteps.{due_encodes, is_due, items_due}
use Rattle.sim_3_images.proofs.WireSteps.{wire_cut, wire_up_told}
use Rattle.sim_3_images.proofs.NotesTold.{nothing_noted}
use Rattle.sim_3_images.specs.EncodingsCores.{CoresFit, writer_at, writer_of}
use Rattle.sim_3_images.proofs.ChangedLists.{all_changed}
use Rattle.sim_3_images.proofs.WiresFit.{cut_fits, up_told_fits}
use Rattle.sim_3_images.specs.Fitting.{WireFits}
use Rattle.sim_3_images.specs.ItemRuns.{moved_where}
use Rattle.sim_3_images.specs.WireEncodings.{WireEncodes}
use Rattle.sim_3_images.specs.WorldEncodings.{Begins, Both, IsBegun, IsMoved, WireAt, WorldEncodes, framer_here}
use Rattle.sim_3_items.specs.ItemMoves as items
use Rattle.sim_3_items.specs.ItemPipes as pipes
use Rattle.sim_3_items.specs.ItemPipes.{ItemWire}
use Rattle.sim_3_items.specs.ItemWorlds.{ItemWorld}
use Rattle.net_pipes.specs.Pipes.{is_end_due}
use Rattle.srv_core.specs.Events.{after_gone, framer_at}
use Rattle.law_server.specs.Rendered.{server_state_rendered}
use Rattle.cmd_network.specs.Positions.{changed_at}
use Rattle.cmd_network.specs.Wires.{cut_at, up_end_reported}
use Rattle.cmd_network.specs.declared.wire.Wire.{Wire}
use Rattle.cmd_world.specs.Moves.{Cut, Tick, end_reported_up, reported_up}
use Rattle.cmd_world.specs.Worlds.{ByteWorld, number_at}
use Rattle.xml_writer.specs.Items.{ItemOut, written_item}

-- ---- both or neither

pub both_mapped : {A B C D : Type 0} (R : A → B → Type 0) (S : C → D → Type 0) (f : A → C) (g : B → D) → ((a : A) (b : B) → R a b → S (f a) (g b)) → (oa : Option A) (ob : Option B) → Both R oa ob → Both S (option_map f oa) (option_map g ob)
both_mapped R S f g h None None r = tt
both_mapped R S f g h None (Some b) r = absurd r
both_mapped R S f g h (Some a) None r = absurd r
both_mapped R S f g h (Some a) (Some b) r = h a b r

pub both_weaker : {A B : Type 0} (R S : A → B → Type 0) → ((a : A) (b : B) → R a b → S a b) → (oa : Option A) (ob : Option B) → Both R oa ob → Both S oa ob
both_weaker R S h None None r = tt
both_weaker R S h None (Some b) r = absurd r
both_weaker R S h (Some a) None r = absurd r
both_weaker R S h (Some a) (Some b) r = h a b r

-- what stands so to the one that is there is there too
pub record Found {A B : Type 0} (R : A → B → Type 0) (a : A) (ob : Option B) : Type 0 where
  pub other : B
  pub is : ob ≡ Some other
  pub holds : R a other

found_of : {A B : Type 0} (R : A → B → Type 0) (a : A) (o : Option B) → Both R (Some a) o → Found R a o
found_of R a None h = absurd h
found_of R a (Some b) h = record { other = b; is = refl; holds = h }

pub found_both : {A B : Type 0} (R : A → B → Type 0) (a : A) (oa : Option A) (ob : Option B) → oa ≡ Some a → Both R oa ob → Found R a ob
found_both R a oa ob e r = found_of R a ob (subst (λ o. Both R o ob) e r)

-- one place is changed in both lists, and elsewhere it holds as before
pub both_changed : {A B : Type 0} (R S : ℕ → A → B → Type 0) (f : A → A) (g : B → B) (xs : List A) (ys : List B) (q : ℕ) → Both (S q) (option_map f (slice_get xs q)) (option_map g (slice_get ys q))
    → ((p : ℕ) → (p ≡ q → ⊥) → (a : A) (b : B) → R p a b → S p a b) → ((p : ℕ) → Both (R p) (slice_get xs p) (slice_get ys p)) → (p : ℕ) → Both (S p) (slice_get (changed_at q f xs) p) (slice_get (changed_at q g ys) p)
both_changed R S f g xs ys q here there all p = elim (cases_eq p q) [
  | inl same ↦ subst (λ x. Both (S x) (slice_get (changed_at q f xs) x) (slice_get (changed_at q g ys) x)) (sym same)
      (subst (λ o. Both (S q) o (slice_get (changed_at q g ys) q)) (sym (get_changed_same f xs q)) (subst (λ o. Both (S q) (option_map f (slice_get xs q)) o) (sym (get_changed_same g ys q)) here))
  | inr other ↦ subst (λ o. Both (S p) o (slice_get (changed_at q g ys) p)) (sym (get_changed_other f xs q p other))
      (subst (λ o. Both (S p) (slice_get xs p) o) (sym (get_changed_other g ys q p other))
      (both_weaker (R p) (S p) (there p other) (slice_get xs p) (slice_get ys p) (all p)))
]

pub number_apart : (p q : ℕ) → (p ≡ q → ⊥) → number_at p ≢ number_at q
number_apart p q other e = other (omega (arith, e))

module _ (UpFits DownFits : ItemOut → Type 0) (ServerFits : ℕ → ServerState ItemOut → Type 0) (ClientFits : ClientView ItemOut → Type 0) (cores : CoresFit UpFits DownFits ServerFits ClientFits) where
  pub tick_is : (milliseconds : ℕ) (w : ByteWorld) (v : ItemWorld) → WorldEncodes UpFits DownFits ServerFits ClientFits w v → IsMoved UpFits DownFits ServerFits ClientFits (Tick milliseconds) w v
  tick_is milliseconds w v i = record {
    moves = items.Tick milliseconds ∷ [];
    is_run = refl;
    encodes = record {
      encoding = record {
        moment = ap (λ n. n + milliseconds) i.encoding.moment;
        server_state = ap (at_moment (w.moment + milliseconds)) i.encoding.server_state ∙ moment_rendered written_item (w.moment + milliseconds) v.server ∙ ap (λ n. server_state_rendered written_item (at_moment (n + milliseconds) v.server)) i.encoding.moment;
        devices = i.encoding.devices;
        as_many = i.encoding.as_many;
        wires = i.encoding.wires;
        takes = i.encoding.takes;
      };
      fits = record { server_state = cores.moment (length v.wires) (v.moment + milliseconds) v.server i.fits.server_state; clients = i.fits.clients; wires = i.fits.wires };
      begins = i.begins;
    };
    notes = λ j. nothing_noted (slice_get w.devices j);
    reads = λ j. refl;
    gives = λ j. refl;
  }

  -- ---- a cut, whose counts hang on what is there

  has_cut : (position up down : ℕ) (w : ByteWorld) (v : ItemWorld) (ob : Option Wire) (op : Option ItemWire) → Both (WireAt w v position) ob op
      → (i j : ℕ) × Both (WireAt w v position) (option_map (cut_at up down) ob) (option_map (pipes.cut_at i j) op)
  has_cut position up down w v None None r = (0, 0, tt)
  has_cut position up down w v None (Some p) r = absurd r
  has_cut position up down w v (Some b) None r = absurd r
  has_cut position up down w v (Some b) (Some p) r =
      let h = wire_cut UpFits DownFits cores.up_limits cores.down_limits (framer_at (number_at position) w.server.framers) (framer_here position (slice_get w.devices b.device)) (writer_at (number_at position) v.server) (writer_at (number_at position) v.server) b p up down r in
      (h.up_count, h.down_count, h.encodes)

  pub cut_is : (position up down : ℕ) (w : ByteWorld) (v : ItemWorld) → WorldEncodes UpFits DownFits ServerFits ClientFits w v → IsMoved UpFits DownFits ServerFits ClientFits (Cut position up down) w v
  cut_is position up down w v i =
      let h = has_cut position up down w v (slice_get w.wires position) (slice_get v.wires position) (i.encoding.wires position) in
      record {
        moves = items.Cut position h.0 h.1 ∷ [];
        is_run = (h.0, h.1, refl);
        encodes = record {
          encoding = record {
            moment = i.encoding.moment;
            server_state = i.encoding.server_state;
            devices = i.encoding.devices;
            as_many = length_changed (cut_at up down) w.wires position ∙ i.encoding.as_many ∙ sym (length_changed (pipes.cut_at h.0 h.1) v.wires position);
            wires = both_changed (WireAt w v) (WireAt w v) (cut_at up down) (pipes.cut_at h.0 h.1) w.wires v.wires position h.2 (λ q other c r x. x) i.encoding.wires;
            takes = i.encoding.takes;
          };
          fits = record {
            server_state = subst (λ n. ServerFits n v.server) (sym (length_changed (pipes.cut_at h.0 h.1) v.wires position)) i.fits.server_state;
            clients = i.fits.clients;
            wires = all_changed (WireFits UpFits DownFits) (pipes.cut_at h.0 h.1) (cut_fits UpFits DownFits h.0 h.1) position v.wires i.fits.wires;
          };
          begins = begins_at v.wires v.server v.server position (pipes.cut_at h.0 h.1) (λ x b. cut_begun h.0 x.up b) (λ j e. e) i.begins;
        };
        notes = λ j. nothing_noted (slice_get w.devices j);
        reads = λ j. refl;
        gives = λ j. refl;
      }

  -- ---- the end of a connection is told to the server

  -- another connection is as it was
  told_other : (position : ℕ) (w : ByteWorld) (v : ItemWorld) (q : ℕ) → (q ≡ position → ⊥) → (c : Wire) (r : ItemWire) → WireAt w v q c r
      → WireEncodes (framer_at (number_at q) (remove_entry (is_number (number_at position)) w.server.framers)) (framer_here q (slice_get w.devices c.device)) (writer_at (number_at q) (gone_at (position + 1) (at_moment v.moment v.server))) c r
  told_other position w v q other c r x =
      subst (λ f. WireEncodes f (framer_here q (slice_get w.devices c.device)) (writer_at (number_at q) (gone_at (position + 1) (at_moment v.moment v.server))) c r) (sym (found_after_removal (number_at q) (number_at position) w.server.framers (number_apart q position other)))
      (subst (λ n. WireEncodes (framer_at (number_at q) w.server.framers) (framer_here q (slice_get w.devices c.device)) n c r) (sym (ap (option_map writer_of) (found_after_removal (number_at q) (position + 1) v.server.conns (number_apart q position other)))) x)

  told_here : (position : ℕ) (w : ByteWorld) (v : ItemWorld) (b : Wire) (p : ItemWire) → is_end_due b.up ≡ true → WireAt w v position b p
      → WireEncodes (framer_at (number_at position) (remove_entry (is_number (number_at position)) w.server.framers)) (framer_here position (slice_get w.devices b.device)) (writer_at (number_at position) (gone_at (position + 1) (at_moment v.moment v.server))) (up_end_reported b) (pipes.up_end_reported p)
  told_here position w v b p due x =
      wire_up_told UpFits DownFits cores.up_limits cores.down_limits (framer_at (number_at position) w.server.framers) (framer_here position (slice_get w.devices b.device))
      (framer_at (number_at position) (remove_entry (is_number (number_at position)) w.server.framers)) (writer_at (number_at position) v.server) (writer_at (number_at position) (gone_at (position + 1) (at_moment v.moment v.server))) b p due x

  -- nothing comes of it any more
  told_begins : (position : ℕ) (w : ByteWorld) (v : ItemWorld) (b : Wire) (p : ItemWire) → slice_get v.wires position ≡ Some p → is_end_due b.up ≡ true → WireAt w v position b p → Begins v.wires v.server
      → Begins (changed_at position pipes.up_end_reported v.wires) (gone_at (position + 1) (at_moment v.moment v.server))
  told_begins position w v b p found due x begins q r there first = elim (cases_eq q position) [
    | inl same ↦
        let is : pipes.up_end_reported p ≡ r = same_Some (pipes.up_end_reported p) r (sym (get_changed_same pipes.up_end_reported v.wires position ∙ ap (option_map pipes.up_end_reported) found) ∙ ap (slice_get (changed_at position pipes.up_end_reported v.wires)) (sym same) ∙ there) in
        subst (λ (y : ItemWire). IsBegun y.up) is
        (inr (due_encodes server_limits (Some phase.Between) (framer_at (number_at position) w.server.framers) b.up p.up x.up due, sym x.up.ended ∙ (is_due b.up due).has_ended))
    | inr other ↦
        begins q r (sym (get_changed_other pipes.up_end_reported v.wires position q other) ∙ there)
        (sym (ap (option_map writer_of) (found_after_removal (number_at q) (position + 1) v.server.conns (number_apart q position other))) ∙ first)
  ]

  told_encodes : (position : ℕ) (w : ByteWorld) (v : ItemWorld) (b : Wire) (p : ItemWire) → slice_get w.wires position ≡ Some b → slice_get v.wires position ≡ Some p → is_end_due b.up ≡ true → WireAt w v position b p
      → WorldEncodes UpFits DownFits ServerFits ClientFits w v
      → WorldEncodes UpFits DownFits ServerFits ClientFits (record w { server = after_gone (number_at position) w.moment w.server; wires = slice_set w.wires position (up_end_reported b) })
      (record v { server = gone_at (position + 1) (at_moment v.moment v.server); wires = changed_at position pipes.up_end_reported v.wires })
  told_encodes position w v b p found found_item due x i =
      let set_is : slice_set w.wires position (up_end_reported b) ≡ changed_at position up_end_reported w.wires = set_changes up_end_reported w.wires position b (up_end_reported b) found refl in
      let after : ℕ → Wire → ItemWire → Type 0 =
      λ q c r. WireEncodes (framer_at (number_at q) (remove_entry (is_number (number_at position)) w.server.framers)) (framer_here q (slice_get w.devices c.device)) (writer_at (number_at q) (gone_at (position + 1) (at_moment v.moment v.server))) c r in
      let here : Both (after position) (option_map up_end_reported (slice_get w.wires position)) (option_map pipes.up_end_reported (slice_get v.wires position)) =
      subst (λ o. Both (after position) (option_map up_end_reported o) (option_map pipes.up_end_reported (slice_get v.wires position))) (sym found)
      (subst (λ o. Both (after position) (Some (up_end_reported b)) (option_map pipes.up_end_reported o)) (sym found_item) (told_here position w v b p due x)) in
      record {
        encoding = record {
          moment = i.encoding.moment;
          server_state =
              ap (λ x. gone_at (number_at position) (at_moment w.moment x)) i.encoding.server_state ∙ ap (gone_at (number_at position)) (moment_rendered written_item w.moment v.server) ∙ gone_rendered written_item (number_at position) (at_moment w.moment v.server)
              ∙ ap (λ n. server_state_rendered written_item (gone_at (position + 1) (at_moment n v.server))) i.encoding.moment;
          devices = i.encoding.devices;
          as_many = ap length set_is ∙ length_changed up_end_reported w.wires position ∙ i.encoding.as_many ∙ sym (length_changed pipes.up_end_reported v.wires position);
          wires = λ q. subst (λ l. Both (after q) (slice_get l q) (slice_get (changed_at position pipes.up_end_reported v.wires) q)) (sym set_is)
              (both_changed (WireAt w v) after up_end_reported pipes.up_end_reported w.wires v.wires position here (told_other position w v) i.encoding.wires q);
          takes = i.encoding.takes;
        };
        fits = record {
          server_state = subst (λ n. ServerFits n (gone_at (position + 1) (at_moment v.moment v.server))) (sym (length_changed pipes.up_end_reported v.wires position))
              (cores.goes (length v.wires) (position + 1) (at_moment v.moment v.server) (cores.moment (length v.wires) v.moment v.server i.fits.server_state));
          clients = i.fits.clients;
          wires = all_changed (WireFits UpFits DownFits) pipes.up_end_reported (up_told_fits UpFits DownFits) position v.wires i.fits.wires;
        };
        begins = told_begins position w v b p found_item due x i.begins;
      }

  pub record IsEnded (position : ℕ) (w : ByteWorld) (v : ItemWorld) : Type 0 where
    pub ended : Bool
    pub encodes : WorldEncodes UpFits DownFits ServerFits ClientFits (end_reported_up position w) (items.all_moved (moved_where (items.UpEnd position) ended) v)

  pub end_is : (position : ℕ) (w : ByteWorld) (v : ItemWorld) → WorldEncodes UpFits DownFits ServerFits ClientFits w v → IsEnded position w v
  end_is position w v i = by (slice_get w.wires position) refl
    where
      due_or_not : (b : Wire) → slice_get w.wires position ≡ Some b → (e : Bool) → is_end_due b.up ≡ e → IsEnded position w v
      due_or_not b found true due =
          let other = found_both (WireAt w v position) b (slice_get w.wires position) (slice_get v.wires position) found (i.encoding.wires position) in
          let due_item = items_due server_limits (Some phase.Between) (framer_at (number_at position) w.server.framers) b.up other.other.up other.holds.up due in
          let bytes_is : end_reported_up position w ≡ record w { server = after_gone (number_at position) w.moment w.server; wires = slice_set w.wires position (up_end_reported b) } =
          ap (λ o. reported_up position o w) found ∙ ap (λ (e : Bool). cond e (record w { server = after_gone (number_at position) w.moment w.server; wires = slice_set w.wires position (up_end_reported b) }) w) due in
          let items_is : items.moved (items.UpEnd position) v ≡ record v { server = gone_at (position + 1) (at_moment v.moment v.server); wires = changed_at position pipes.up_end_reported v.wires } =
          ap (λ o. items.reported_up position o v) other.is ∙ ap (λ (e : Bool). cond e (record v { server = gone_at (position + 1) (at_moment v.moment v.server); wires = changed_at position pipes.up_end_reported v.wires }) v) due_item in
          record {
            ended = true;
            encodes = subst (λ x. WorldEncodes UpFits DownFits ServerFits ClientFits x (items.moved (items.UpEnd position) v)) (sym bytes_is)
                (subst (WorldEncodes UpFits DownFits ServerFits ClientFits (record w { server = after_gone (number_at position) w.moment w.server; wires = slice_set w.wires position (up_end_reported b) })) (sym items_is)
                (told_encodes position w v b other.other found other.is due other.holds i));
          }
      due_or_not b found false due =
          let bytes_is : end_reported_up position w ≡ w =
          ap (λ o. reported_up position o w) found ∙ ap (λ (e : Bool). cond e (record w { server = after_gone (number_at position) w.moment w.server; wires = slice_set w.wires position (up_end_reported b) }) w) due in
          record { ended = false; encodes = subst (λ x. WorldEncodes UpFits DownFits ServerFits ClientFits x v) (sym bytes_is) i }

      by : (o : Option Wire) → slice_get w.wires position ≡ o → IsEnded position w v
      by None found = record { ended = false; encodes = subst (λ x. WorldEncodes UpFits DownFits ServerFits ClientFits x v) (sym (ap (λ o. reported_up position o w) found)) i }
      by (Some b) found = due_or_not b found (is_end_due b.up) refl
