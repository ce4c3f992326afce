-- What each operation on a connection makes of the image that it is of a connection of items.
use Rattle.std.proofs.Common.{◌≡◌, ℕ, zero, suc, Bool, true, false, List, [], ◌∷◌, ◌++◌, Option, Some, None, take, refl, sym, ◌∙◌, flat_map, cond, arith}
use Rattle.std.specs.List.{AllByRecursion}
use Rattle.xml_framer.specs.Limits.{client_limits, server_limits}
use Rattle.xml_framer.specs.Machine.{run}
use Rattle.xml_framer.specs.States.{State, from_start, turn}
use Rattle.xml_framer.specs.declared.items.Item.{Item}
use Rattle.xml_framer.specs.declared.states.Phase.{Phase}
use Rattle.xml_framer.specs.declared.states.Phase.TheVariants as phase
use Rattle.law_xml.proofs.PlainElements.{append_each}
use Rattle.sim_3_images.proofs.PipeSteps.{closed_encodes, cut_encodes, due_told_encodes, ended_encodes, fresh_encodes, handed_encodes, is_due, over_encodes}
use Rattle.sim_3_images.proofs.PutSteps.{ended_entered, put_encodes, puts_encodes, puts_last}
use Rattle.sim_3_images.specs.PipeEncodings.{AreRead, Standing, dropped}
use Rattle.sim_3_images.specs.WireEncodings.{WireEncodes}
use Rattle.sim_3_items.specs.ItemPipes as items
use Rattle.sim_3_items.specs.ItemPipes.{ItemPipe, ItemWire}
use Rattle.net_pipes.specs.Pipes.{entered, is_end_due}
use Rattle.cmd_network.specs.Wires.{cut_at, down_end_reported, fresh_wire, handed_down, handed_up, left, put_down, put_up, shut, up_end_reported}
use Rattle.cmd_network.specs.declared.wire.Wire.{Wire}
use Rattle.xml_writer.specs.Items.{Closing, ItemOut, Opening, written_item}
use Rattle.xml_names.specs.declared.headers.Header.{Header}
use Rattle.law_xml.specs.Puts.{MayPut, OutFits, phase_behind}

-- ---- all of some

pub all_taken : {X : Type 0} (P : X → Type 0) (n : ℕ) (l : List X) → AllByRecursion P l → AllByRecursion P (take n l)
all_taken P zero l all = tt
all_taken P (suc n) [] all = tt
all_taken P (suc n) (x ∷ l) all = (all.0, all_taken P n l all.1)

pub all_mapped : {X : Type 0} (P Q : X → Type 0) (f : (x : X) → P x → Q x) (l : List X) → AllByRecursion P l → AllByRecursion Q l
all_mapped P Q f [] all = tt
all_mapped P Q f (x ∷ l) all = (f x all.0, all_mapped P Q f l all.1)

pub all_entered : (P : ItemOut → Type 0) (more : List ItemOut) (p : ItemPipe) → AllByRecursion P p.items → AllByRecursion P more → AllByRecursion P (items.entered more p).items
all_entered P more p all rest = by p.ended
  where
    by : (e : Bool) → AllByRecursion P (cond e p (record p { items = p.items ++ more })).items
    by true = all
    by false = append_each P p.items more all rest

module _ (UpFits DownFits : ItemOut → Type 0) (up_out : (i : ItemOut) → UpFits i → OutFits server_limits i) (down_out : (i : ItemOut) → DownFits i → OutFits client_limits i) where
  -- ---- the network

  pub record IsWireCut (r d : Option State) (next : Option Phase) (b : Wire) (p : ItemWire) (n m : ℕ) : Type 0 where
    pub up_count : ℕ
    pub down_count : ℕ
    pub encodes : WireEncodes r d next (cut_at n m b) (items.cut_at up_count down_count p)

  pub wire_cut : (r d : Option State) (writer next : Option Phase) (b : Wire) (p : ItemWire) (n m : ℕ) → WireEncodes r d writer b p → IsWireCut r d next b p n m
  wire_cut r d writer next b p n m i =
      let up = cut_encodes server_limits (Some phase.Between) (Some phase.Between) r b.up p.up n i.up in
      let down = cut_encodes client_limits writer next d b.down p.down m i.down in
      record {
        up_count = up.count;
        down_count = down.count;
        encodes = record {
          device = i.device;
          end_together = refl;
          up = up.encodes;
          down = down.encodes;
        };
      }

  -- ---- who leaves, and who shuts

  pub wire_left : (r d e : Option State) (writer next : Option Phase) (b : Wire) (p : ItemWire) → WireEncodes r d writer b p → WireEncodes r e next (left b) (items.left p)
  wire_left r d e writer next b p i = record {
    device = i.device;
    end_together = refl;
    up = closed_encodes server_limits (Some phase.Between) (Some phase.Between) r b.up p.up i.up;
    down = over_encodes client_limits next e b.down p.down i.down.told;
  }

  pub wire_shut : (r d e : Option State) (writer next : Option Phase) (b : Wire) (p : ItemWire) → WireEncodes r d writer b p → WireEncodes e d next (shut b) (items.shut p)
  wire_shut r d e writer next b p i = record {
    device = i.device;
    end_together = refl;
    up = over_encodes server_limits (Some phase.Between) e b.up p.up i.up.told;
    down = closed_encodes client_limits writer next d b.down p.down i.down;
  }

  -- ---- what is put

  pub wire_put_up : (r d : Option State) (writer : Option Phase) (b : Wire) (p : ItemWire) (more : List ItemOut) → AllByRecursion UpFits more → AllByRecursion (λ i. phase_behind i ≡ phase.Between) more
      → WireEncodes r d writer b p → WireEncodes r d writer (put_up (flat_map written_item more) b) (items.put_up more p)
  wire_put_up r d writer b p more fit between i = record {
    device = i.device;
    end_together = ended_entered (flat_map written_item more) b.up ∙ i.end_together;
    up = puts_encodes server_limits (omega arith) (omega arith) r b.up p.up more between (all_mapped UpFits (OutFits server_limits) up_out more fit) i.up;
    down = i.down;
  }

  -- a footer behind what is put, and the device leaves
  pub wire_last : (r d e : Option State) (writer next : Option Phase) (b : Wire) (p : ItemWire) (more : List ItemOut) → AllByRecursion UpFits (more ++ Closing ∷ []) → AllByRecursion (λ i. phase_behind i ≡ phase.Between) more
      → WireEncodes r d writer b p → WireEncodes r e next (left (put_up (flat_map written_item (more ++ Closing ∷ [])) b)) (items.left (items.put_up (more ++ Closing ∷ []) p))
  wire_last r d e writer next b p more fit between i = record {
    device = i.device;
    end_together = refl;
    up = closed_encodes server_limits (Some phase.Ended) (Some phase.Between) r (entered (flat_map written_item (more ++ Closing ∷ [])) b.up) (items.entered (more ++ Closing ∷ []) p.up)
        (puts_last server_limits (omega arith) (omega arith) r b.up p.up more between (all_mapped UpFits (OutFits server_limits) up_out (more ++ Closing ∷ []) fit) i.up);
    down = over_encodes client_limits next e b.down p.down i.down.told;
  }

  pub wire_put_down : (r d : Option State) (now : Phase) (b : Wire) (p : ItemWire) (out : ItemOut) → DownFits out → MayPut now out → WireEncodes r d (Some now) b p
      → WireEncodes r d (Some (phase_behind out)) (put_down (written_item out) b) (items.put_down (out ∷ []) p)
  wire_put_down r d now b p out fits may i = record {
    device = i.device;
    end_together = i.end_together ∙ sym (ended_entered (written_item out) b.down);
    up = i.up;
    down = put_encodes client_limits (omega arith) (omega arith) now d b.down p.down out may (down_out out fits) i.down;
  }

  -- a connection that is dialed: its device puts the header
  pub wire_fresh : (device : ℕ) (h : Header) → UpFits (Opening h)
      → WireEncodes (Some (from_start server_limits)) (Some (from_start client_limits)) (Some phase.First) (put_up (written_item (Opening h)) (fresh_wire device)) (items.put_up (Opening h ∷ []) (items.fresh_wire device))
  wire_fresh device h fits = record {
    device = refl;
    end_together = refl;
    up = put_encodes server_limits (omega arith) (omega arith) phase.First (Some (from_start server_limits)) (fresh_wire device).up (items.fresh_wire device).up (Opening h) tt (up_out (Opening h) fits) (fresh_encodes server_limits);
    down = fresh_encodes client_limits;
  }

  -- ---- ends

  pub wire_up_told : (r d e : Option State) (writer next : Option Phase) (b : Wire) (p : ItemWire) → is_end_due b.up ≡ true → WireEncodes r d writer b p
      → WireEncodes e d next (up_end_reported b) (items.up_end_reported p)
  wire_up_told r d e writer next b p due i = record {
    device = i.device;
    end_together = i.end_together;
    up = due_told_encodes server_limits (Some phase.Between) (Some phase.Between) r e b.up p.up i.up due;
    down = ended_encodes client_limits writer next d b.down p.down (sym i.end_together ∙ (is_due b.up due).has_ended) i.down;
  }

  pub wire_down_told : (r d e : Option State) (writer : Option Phase) (b : Wire) (p : ItemWire) → is_end_due b.down ≡ true → WireEncodes r d writer b p
      → WireEncodes r e writer (down_end_reported b) (items.down_end_reported p)
  wire_down_told r d e writer b p due i = record {
    device = i.device;
    end_together = i.end_together;
    up = i.up;
    down = due_told_encodes client_limits writer writer d e b.down p.down i.down due;
  }

  -- ---- bytes that are handed over

  -- the framer gave first items, and the connection carries the others
  pub record IsUpHanded (f : State) (d : Option State) (writer : Option Phase) (b : Wire) (p : ItemWire) (n : ℕ) : Type 0 where
    pub count : ℕ
    pub first : List Item
    pub now : State
    pub run_is : run (turn f []) (take n b.up.bytes) ≡ turn now first
    pub no_fault : now.fault ≡ None
    pub read : AreRead first (take count p.up.items)
    pub encodes : WireEncodes (Some now) d writer (handed_up n b) (record p { up = dropped count p.up })

  pub wire_up : (f : State) (d : Option State) (writer : Option Phase) (b : Wire) (p : ItemWire) (n : ℕ) → Standing server_limits (Some phase.Between) f b.up p.up
      → WireEncodes (Some f) d writer b p → IsUpHanded f d writer b p n
  wire_up f d writer b p n st i =
      let h = handed_encodes server_limits (Some phase.Between) f b.up p.up n i.up.ended i.up.told st in
      record {
        count = h.count;
        first = h.first;
        now = h.now;
        run_is = h.run_is;
        no_fault = h.no_fault;
        read = h.read;
        encodes = record {
          device = i.device;
          end_together = i.end_together;
          up = h.encodes;
          down = i.down;
        };
      }

  pub record IsDownHanded (r : Option State) (f : State) (writer : Option Phase) (b : Wire) (p : ItemWire) (n : ℕ) : Type 0 where
    pub count : ℕ
    pub first : List Item
    pub now : State
    pub run_is : run (turn f []) (take n b.down.bytes) ≡ turn now first
    pub no_fault : now.fault ≡ None
    pub read : AreRead first (take count p.down.items)
    pub encodes : WireEncodes r (Some now) writer (handed_down n b) (record p { down = dropped count p.down })

  pub wire_down : (r : Option State) (f : State) (writer : Option Phase) (b : Wire) (p : ItemWire) (n : ℕ) → Standing client_limits writer f b.down p.down
      → WireEncodes r (Some f) writer b p → IsDownHanded r f writer b p n
  wire_down r f writer b p n st i =
      let h = handed_encodes client_limits writer f b.down p.down n i.down.ended i.down.told st in
      record {
        count = h.count;
        first = h.first;
        now = h.now;
        run_is = h.run_is;
        no_fault = h.no_fault;
        read = h.read;
        encodes = record {
          device = i.device;
          end_together = i.end_together;
          up = i.up;
          down = h.encodes;
        };
      }
