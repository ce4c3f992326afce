-- The moves of bytes that are one move of items.
use Rattle.std.proofs.Common.{◌≡◌, ℕ, ◌+◌, ◌≤◌, ◌==◌, Bool, true, false, cond, List, [], ◌∷◌, length, map, refl, sym, ap, ◌∙◌, append-nil, subst, arith}
use Rattle.std.specs.Prelude.{IsTrue}
use Rattle.sim_3_images.specs.Relayable.{ClientFits, DownFits, ServerFits, UpFits}
use Rattle.sim_3_images.specs.Stands.{StandingServers}
use Rattle.sim_3_images.specs.WorldEncodings.{IsMoved}
use Rattle.sim_3_images.specs.Fitting.{MayItem}
use Rattle.sim_3_items.specs.ItemMoves as items
use Rattle.sim_3_items.specs.ItemMoves.{ItemMove}
use Rattle.sim_3_items.specs.ItemWorlds.{ItemWorld}
use Rattle.cmd_report.specs.Addresses.{bare_address}
use Rattle.cmd_schedule.specs.Grammar.{is_name, is_text}
use Rattle.cmd_schedule.specs.Schedules.{WireView}
use Rattle.sim_1_applications.proofs.Said.{was_there}
use Rattle.sim_1_applications.specs.Devices.{AppWorld, Device}
use Rattle.cmd_world.specs.Moves.{Move}
use Rattle.cmd_world.specs.Moves as bytes
use Rattle.cmd_world.specs.Worlds as wires
use Rattle.cmd_world.specs.Worlds.{client_entropy, server_entropy}
use Rattle.sim_5_moves.specs.Running.{IsAskedBy, IsInBounds, WorldSimulates, spoken_by_move}
use Rattle.sim_7_schedules.specs.Simulation.{EachMoveSimulates, IsEncoded, bounds, views_of}
use Rattle.sim_7_schedules.proofs.ByteMoves.{LineGoes, is_moved, one_move}
use Rattle.sim_7_schedules.proofs.Leading.{are_told}
use Rattle.sim_7_schedules.proofs.Rounds.{AtMost}
use Rattle.law_client.specs.Rendered.{note_rendered}
use Rattle.sim_3_images.specs.Notes.{all_item_notes, item_notes}
use Rattle.sim_3_images.specs.Puts.{all_item_gives, item_gives}
use Rattle.sim_3_images.specs.Reads.{all_item_reads, item_reads}
use Rattle.sim_3_items.specs.Labels.{labels_of}
use Rattle.xml_writer.specs.Items.{written_item}
use Rattle.sim_7_schedules.proofs.Wires.{dial_many, move_many}

one_or_none : (b : Bool) → cond b 1 0 ≤ 1
one_or_none true = omega arith
one_or_none false = omega arith

-- at it each device asks for so many pages at most
abbrev AsksFor : ℕ → ItemMove → ItemWorld → Type 0
AsksFor units m w = (i : ℕ) (d e : Device) → IsAskedBy m w i d e → e.reading.asked ≤ d.reading.asked + units

module _ (schedule : WireView) (each : EachMoveSimulates schedule) where
  single : (says units dials : ℕ) (m : Move) (im : ItemMove) (W : wires.ByteWorld) (w : ItemWorld) (x : AppWorld) (n : ℕ) → IsEncoded W w → (runs : WorldSimulates schedule bounds says w x) →
      (r : IsMoved UpFits DownFits (StandingServers ServerFits) ClientFits m W w) → r.moves ≡ im ∷ [] → MayItem im → IsInBounds bounds says im w x → AsksFor units im w → length (items.moved im w).wires ≤ length w.wires + dials → AtMost n x →
      LineGoes schedule (views_of runs) dials (says + length (spoken_by_move im w)) (spoken_by_move im w) (m ∷ []) W x (λ v y. AtMost (n + units) y)
  single says units dials m im W w x n encodes runs r is may within asks wide most =
      let g = each im says w x may runs within in
      one_move schedule (views_of runs) dials (says + length (spoken_by_move im w)) (spoken_by_move im w) m W x (λ v y. AtMost (n + units) y) g.events (items.moved im w) g.next g.reaches g.spoken
      (subst (λ ms. IsEncoded (bytes.moved m W) (items.all_moved ms w)) is r.encodes) g.runs
      (λ i o at.
      let l = g.links i o at in
      let told = are_told im w i (labels_of l.0) l.2 in
      let notes = r.notes i ∙ ap (map (note_rendered written_item)) (ap (λ ms. all_item_notes ms w i) is ∙ append-nil (item_notes im w i)) in
      let read = r.reads i ∙ ap (λ ms. all_item_reads ms w i) is ∙ append-nil (item_reads im w i) in
      let gave = r.gives i ∙ ap (map written_item) (ap (λ ms. all_item_gives ms w i) is ∙ append-nil (item_gives im w i)) in
      (l.0, l.1, (item_notes im w i, notes, (told.0.0, told.0.1 ∙ sym read), ap (map written_item) told.1 ∙ sym gave)))
      (λ i e at. let d = was_there g.events x g.next i e g.reaches at in let low = most i d.0 d.1 in let more = asks i d.0 e (g.asked i d.0 e d.1 at) in omega arith)
      (let same = encodes.encoding.as_many in omega arith)

  pub forget_byte : (says device : ℕ) (W : wires.ByteWorld) (w : ItemWorld) (x : AppWorld) (n : ℕ) → IsEncoded W w → (runs : WorldSimulates schedule bounds says w x) → AtMost n x →
      LineGoes schedule (views_of runs) 0 (says + 0) [] (bytes.Forget device ∷ []) W x (λ v y. AtMost (n + 0) y)
  forget_byte says device W w x n encodes runs most =
      let r = is_moved (bytes.Forget device) W w tt encodes in
      let same = move_many (items.Forget device) w tt in
      single says 0 0 (bytes.Forget device) (items.Forget device) W w x n encodes runs r r.is_run tt tt (λ i d e is. omega (arith, is)) (omega arith) most

  pub close_byte : (says device : ℕ) (W : wires.ByteWorld) (w : ItemWorld) (x : AppWorld) (n : ℕ) → IsEncoded W w → (runs : WorldSimulates schedule bounds says w x) → AtMost n x →
      LineGoes schedule (views_of runs) 0 (says + 0) [] (bytes.Close device ∷ []) W x (λ v y. AtMost (n + 0) y)
  close_byte says device W w x n encodes runs most =
      let r = is_moved (bytes.Close device) W w tt encodes in
      let same = move_many (items.Close device) w tt in
      single says 0 0 (bytes.Close device) (items.Close device) W w x n encodes runs r r.is_run tt tt (λ i d e is. omega (arith, is)) (omega arith) most

  pub tick_byte : (says ms : ℕ) (W : wires.ByteWorld) (w : ItemWorld) (x : AppWorld) (n : ℕ) → IsEncoded W w → (runs : WorldSimulates schedule bounds says w x) → AtMost n x →
      LineGoes schedule (views_of runs) 0 (says + 0) [] (bytes.Tick ms ∷ []) W x (λ v y. AtMost (n + 0) y)
  tick_byte says ms W w x n encodes runs most =
      let r = is_moved (bytes.Tick ms) W w tt encodes in
      let same = move_many (items.Tick ms) w tt in
      single says 0 0 (bytes.Tick ms) (items.Tick ms) W w x n encodes runs r r.is_run tt tt (λ i d e is. omega (arith, is)) (omega arith) most

  pub cut_byte : (says position up down : ℕ) (W : wires.ByteWorld) (w : ItemWorld) (x : AppWorld) (n : ℕ) → IsEncoded W w → (runs : WorldSimulates schedule bounds says w x) → AtMost n x →
      LineGoes schedule (views_of runs) 0 (says + 0) [] (bytes.Cut position up down ∷ []) W x (λ v y. AtMost (n + 0) y)
  cut_byte says position up down W w x n encodes runs most =
      let r = is_moved (bytes.Cut position up down) W w tt encodes in
      let run = r.is_run in
      let same = move_many (items.Cut position run.0 run.1) w tt in
      single says 0 0 (bytes.Cut position up down) (items.Cut position run.0 run.1) W w x n encodes runs r run.2 tt tt (λ i d e is. omega (arith, is)) (omega arith) most

  -- one connection more
  pub dial_byte : (says device : ℕ) (W : wires.ByteWorld) (w : ItemWorld) (x : AppWorld) (n : ℕ) → length W.wires + 1 ≤ 10000 → IsEncoded W w → (runs : WorldSimulates schedule bounds says w x) → AtMost n x →
      LineGoes schedule (views_of runs) 1 (says + 0) [] (bytes.Dial device ∷ []) W x (λ v y. AtMost (n + 0) y)
  dial_byte says device W w x n few encodes runs most =
      let r = is_moved (bytes.Dial device) W w tt encodes in
      let run = r.is_run in
      let shown = encodes.encoding.as_many in
      single says 0 1 (bytes.Dial device) (items.Dial device (client_entropy run.0) (server_entropy run.0)) W w x n encodes runs r run.1 (run.0, refl, refl) (omega arith) (λ i d e is. omega (arith, is))
      (dial_many device (client_entropy run.0) (server_entropy run.0) w) most

  -- one page more
  pub catch_up_byte : (says device line pages : ℕ) (W : wires.ByteWorld) (w : ItemWorld) (x : AppWorld) (n : ℕ) → 1 ≤ pages → pages ≤ 100 → n ≤ 10100000 → IsEncoded W w → (runs : WorldSimulates schedule bounds says w x) → AtMost n x →
      LineGoes schedule (views_of runs) 0 (says + 0) [] (bytes.CatchUp device line pages ∷ []) W x (λ v y. AtMost (n + 1) y)
  catch_up_byte says device line pages W w x n some few low encodes runs most =
      let r = is_moved (bytes.CatchUp device line pages) W w (some, few) encodes in
      let same = move_many (items.CatchUp device pages) w tt in
      single says 1 0 (bytes.CatchUp device line pages) (items.CatchUp device pages) W w x n encodes runs r r.is_run (some, few) (λ d at. let asked = most device d at in omega arith)
      (λ i d e is. let one = one_or_none (i == device) in omega (arith, is, one)) (omega arith) most

  -- what the client takes is said
  pub say_byte : (says device line : ℕ) (to text : List ℕ) (private : Bool) (W : wires.ByteWorld) (w : ItemWorld) (x : AppWorld) (n : ℕ) → IsTrue (is_name to) → IsTrue (is_text text) → says + 1 ≤ 10000000 → IsEncoded W w → (runs : WorldSimulates schedule bounds says w x) → AtMost n x →
      LineGoes schedule (views_of runs) 0 (says + length (spoken_by_move (items.Say device (bare_address to) text private) w)) (spoken_by_move (items.Say device (bare_address to) text private) w) (bytes.Say device line to text private ∷ []) W x (λ v y. AtMost (n + 0) y)
  say_byte says device line to text private W w x n named good few encodes runs most =
      let r = is_moved (bytes.Say device line to text private) W w (named, good) encodes in
      let same = move_many (items.Say device (bare_address to) text private) w tt in
      single says 0 0 (bytes.Say device line to text private) (items.Say device (bare_address to) text private) W w x n encodes runs r r.is_run (to, refl, named, good) few (λ i d e is. omega (arith, is)) (omega arith) most
