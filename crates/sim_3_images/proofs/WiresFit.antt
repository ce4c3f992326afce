-- What is under way on a connection is within limits behind each operation on it.
use Rattle.std.proofs.Common.{◌≡◌, ℕ, Bool, true, false, cond, List, [], ◌∷◌, Option, Some, None, subst}
use Rattle.std.specs.List.{AllByRecursion}
use Rattle.cl_core.specs.UserCalls.{closes}
use Rattle.law_limits.proofs.TurnsKept.{All-drop}
use Rattle.cl_handlers.specs.Clients.{ClientView}
use Rattle.cl_handlers.specs.Speech.{in_items, uttered}
use Rattle.cl_handlers.specs.ClientSteps.{drops, is_apart, puts}
use Rattle.cl_handlers.specs.ClientSteps as turns
use Rattle.srv_state.specs.State.{Out, Put, Shut, Took, is_number}
use Rattle.xml_framer.specs.declared.states.Phase.{Phase}
use Rattle.sim_3_images.proofs.ChangedLists.{all_where}
use Rattle.sim_3_images.proofs.Lookups.{self_is}
use Rattle.sim_3_images.proofs.WireSteps.{all_entered, all_taken}
use Rattle.sim_3_images.specs.EncodingsCores.{AreInOrder, IsInOrder, after_put, after_shut}
use Rattle.sim_3_images.specs.Fitting.{WireFits}
use Rattle.sim_3_images.specs.PipeEncodings.{dropped}
use Rattle.sim_3_images.specs.Stands.{OutPuts}
use Rattle.sim_3_items.specs.ItemMoves.{all_emitted, emitted, fed_of, left_where}
use Rattle.sim_3_items.specs.ItemPipes.{ItemWire, cut_at, down_end_reported, fresh_wire, handed_down, handed_up, left, put_down, put_up, shut, up_end_reported}
use Rattle.sim_3_items.specs.ItemWorlds.{silent_client_step}
use Rattle.cmd_network.specs.Positions.{position_under}
use Rattle.xml_writer.specs.Items.{Closing, ItemOut}

-- ---- a client that closes its stream

-- a footer at most is put
pub footer_fits : (P : ItemOut → Type 0) (c : ClientView ItemOut) → P Closing → AllByRecursion P (closes in_items (fed_of c)).turn.out.put
footer_fits P c fits = by (is_apart c.phase)
  where
    by : (b : Bool) → AllByRecursion P (drops in_items (turns.left (cond b (silent_client_step c) (puts (silent_client_step c) (uttered in_items Closing))))).out.put
    by true = tt
    by false = (fits, tt)

-- ---- connections

module _ (UpFits DownFits : ItemOut → Type 0) where
  abbrev pub Both : ItemWire → Type 0
  Both wire = WireFits UpFits DownFits wire

  pub fresh_fits : (device : ℕ) → Both (fresh_wire device)
  fresh_fits device = record { up = tt; down = tt }

  pub cut_fits : (i j : ℕ) (wire : ItemWire) → Both wire → Both (cut_at i j wire)
  cut_fits i j wire fits = record { up = all_taken UpFits i wire.up.items fits.up; down = all_taken DownFits j wire.down.items fits.down }

  pub left_fits : (wire : ItemWire) → Both wire → Both (left wire)
  left_fits wire fits = record { up = fits.up; down = tt }

  pub shut_fits : (wire : ItemWire) → Both wire → Both (shut wire)
  shut_fits wire fits = record { up = tt; down = fits.down }

  pub put_up_fits : (more : List ItemOut) → AllByRecursion UpFits more → (wire : ItemWire) → Both wire → Both (put_up more wire)
  put_up_fits more rest wire fits = record { up = all_entered UpFits more wire.up fits.up rest; down = fits.down }

  pub put_down_fits : (more : List ItemOut) → AllByRecursion DownFits more → (wire : ItemWire) → Both wire → Both (put_down more wire)
  put_down_fits more rest wire fits = record { up = fits.up; down = all_entered DownFits more wire.down fits.down rest }

  pub handed_up_fits : (wire : ItemWire) → Both wire → Both (handed_up wire)
  handed_up_fits wire fits = record { up = All-drop UpFits 1 wire.up.items fits.up; down = fits.down }

  pub handed_down_fits : (wire : ItemWire) → Both wire → Both (handed_down wire)
  handed_down_fits wire fits = record { up = fits.up; down = All-drop DownFits 1 wire.down.items fits.down }

  pub many_up_fits : (count : ℕ) (wire : ItemWire) → Both wire → Both (record wire { up = dropped count wire.up })
  many_up_fits count wire fits = record { up = All-drop UpFits count wire.up.items fits.up; down = fits.down }

  pub many_down_fits : (count : ℕ) (wire : ItemWire) → Both wire → Both (record wire { down = dropped count wire.down })
  many_down_fits count wire fits = record { up = fits.up; down = All-drop DownFits count wire.down.items fits.down }

  pub up_told_fits : (wire : ItemWire) → Both wire → Both (up_end_reported wire)
  up_told_fits wire fits = record { up = fits.up; down = fits.down }

  pub down_told_fits : (wire : ItemWire) → Both wire → Both (down_end_reported wire)
  down_told_fits wire fits = record { up = fits.up; down = fits.down }

  pub left_where_fits : (is_left : Bool) (wire : ItemWire) → Both wire → Both (left_where is_left wire)
  left_where_fits true wire fits = left_fits wire fits
  left_where_fits false wire fits = fits

  -- what the server puts out
  pub emitted_fits : (out : Out ItemOut) (wires : List ItemWire) → OutPuts DownFits out → AllByRecursion Both wires → AllByRecursion Both (emitted out wires)
  emitted_fits (Put k i) wires fits all = all_where Both (put_down (i ∷ [])) (put_down_fits (i ∷ []) (fits, tt)) (position_under k) wires all
  emitted_fits (Shut k) wires fits all = all_where Both shut shut_fits (position_under k) wires all
  emitted_fits (Took from to origin) wires fits all = all

  pub all_emitted_fits : (outs : List (Out ItemOut)) (wires : List ItemWire) → AllByRecursion (OutPuts DownFits) outs → AllByRecursion Both wires → AllByRecursion Both (all_emitted outs wires)
  all_emitted_fits [] wires fits all = all
  all_emitted_fits (out ∷ outs) wires fits all = all_emitted_fits outs (emitted out wires) fits.1 (emitted_fits out wires fits.0 all)

-- what is put out in order for each connection fits
pub outs_fit : (Fits : ItemOut → Type 0) (outs : List (Out ItemOut)) (now later : ℕ → Option Phase) → ((j : ℕ) → AreInOrder Fits j (now j) outs (later j)) → AllByRecursion (OutPuts Fits) outs
outs_fit Fits [] now later order = tt
outs_fit Fits (Put k i ∷ outs) now later order = (here (now k) (subst (λ b. IsInOrder Fits b (now k) i) (self_is k) (order k).0), outs_fit Fits outs (λ j. after_put (is_number j k) (now j) i) later (λ j. (order j).1))
  where
    here : (p : Option Phase) → IsInOrder Fits true p i → Fits i
    here None h = absurd h
    here (Some p) h = h.1
outs_fit Fits (Shut k ∷ outs) now later order = (tt, outs_fit Fits outs (λ j. after_shut (is_number j k) (now j)) later order)
outs_fit Fits (Took from to origin ∷ outs) now later order = (tt, outs_fit Fits outs now later order)
