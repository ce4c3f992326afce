-- A move of bytes and the moves of items that it is note down the same.
use Rattle.std.proofs.Common.{◌≡◌, ℕ, zero, suc, ◌==◌, Bool, true, false, cond, List, [], ◌∷◌, ◌++◌, Option, Some, None, Result, Ok, Err, is_ok, map, slice_get, refl, sym, ap, ap₂, ◌∙◌, append_assoc, append-nil, inl, inr}
use Rattle.std.proofs.lemmas.List.{map-append}
use Rattle.cl_core.specs.Feeds.{Fed}
use Rattle.cl_core.specs.UserCalls.{catch_up_answer, say_answer}
use Rattle.cl_core.specs.declared.faults.CatchUpStart.{CatchUpStart}
use Rattle.cl_core.specs.declared.faults.SayFault.{SayFault}
use Rattle.cl_handlers.specs.Clients.{ClientView}
use Rattle.cl_handlers.specs.Speech.{Note, in_items}
use Rattle.law_client.proofs.TableRendered.{calls_rendered}
use Rattle.law_client.specs.Calls.{Call, CatchUp, Say, calls_run, caught_up_by, said_by}
use Rattle.law_client.specs.Rendered.{IsRendered, fed_rendered, note_rendered}
use Rattle.cmd_network.specs.Devices.{DeviceState, silent}
use Rattle.cmd_report.specs.Addresses.{bare_address}
use Rattle.cmd_schedule.specs.declared.schedule.Count.{Count}
use Rattle.cmd_world.specs.Moves as bytes
use Rattle.cmd_world.specs.Worlds.{ByteWorld}
use Rattle.sim_3_images.specs.ItemRuns.{AreServedUps, moved_where, ups}
use Rattle.sim_3_images.specs.Notes.{all_item_notes, asked_at, asked_notes, item_notes, notes_in, notes_of, noting, said_at, said_notes}
use Rattle.sim_3_images.specs.WorldEncodings.{Both, DeviceEncodes}
use Rattle.sim_3_items.specs.ItemMoves as items
use Rattle.sim_3_items.specs.ItemMoves.{ItemMove, all_moved}
use Rattle.sim_3_items.specs.ItemWorlds.{ItemDevice, ItemWorld, silent_client_step}
use Rattle.xml_framer.specs.States.{State}
use Rattle.xml_writer.specs.Items.{ItemOut, written_item}

abbrev pub written_notes : List (Note ItemOut) → List (Note (List ℕ))
written_notes ns = map (note_rendered written_item) ns

pub noting_rendered : IsRendered in_items noting written_item written_item written_notes
noting_rendered = record {
  say = λ item. refl;
  spread = λ stanza. sym (append-nil (written_item stanza));
  note = λ notes one. sym (map-append (note_rendered written_item) notes (one ∷ []));
}

-- ---- calls

-- a client of items at a framer of bytes, before it is called
abbrev pub silent_at : Option State → ClientView ItemOut → Fed ItemOut ItemOut
silent_at framer c = record { framer = framer; turn = silent_client_step c }

silent_so : (d : DeviceState) (e : ItemDevice) → DeviceEncodes d e → silent d.client ≡ fed_rendered written_item written_item written_notes (silent_at d.client.framer e.client)
silent_so d e h = ap (λ (c : ClientView (List ℕ)). record { framer = d.client.framer; turn = record { client = c; out = record { put = []; events = []; notes = [] } } }) h.client

pub calls_noted : (called : List Call) (d : DeviceState) (e : ItemDevice) → DeviceEncodes d e
    → notes_of called (Some d) ≡ written_notes (calls_run in_items called (silent_at d.client.framer e.client)).turn.out.notes
calls_noted called d e h =
    ap (λ (f : Fed (List ℕ) ℕ). (calls_run noting called f).turn.out.notes) (silent_so d e h)
    ∙ ap (λ (f : Fed (List ℕ) ℕ). f.turn.out.notes) (calls_rendered noting_rendered called (silent_at d.client.framer e.client))

pub nothing_noted : (o : Option DeviceState) → notes_of [] o ≡ []
nothing_noted None = refl
nothing_noted (Some d) = refl

-- ---- what a user does

said_same : (to text : List ℕ) (private : Bool) (od : Option DeviceState) (oe : Option ItemDevice) → Both DeviceEncodes od oe → notes_of (Say to text private ∷ []) od ≡ written_notes (said_at to text private oe)
said_same to text private None None h = refl
said_same to text private None (Some e) h = absurd h
said_same to text private (Some d) None h = absurd h
said_same to text private (Some d) (Some e) h = calls_noted (Say to text private ∷ []) d e h ∙ ap written_notes (by (say_answer e.client text))
  where
    by : (a : Result ℕ SayFault) → (said_by in_items (silent_at d.client.framer e.client) to text private (is_ok a)).turn.out.notes ≡ said_notes a to text private e
    by (Ok n) = refl
    by (Err fault) = refl

pub say_noted : (device line : ℕ) (to text : List ℕ) (private : Bool) (w : ByteWorld) (v : ItemWorld) → ((position : ℕ) → Both DeviceEncodes (slice_get w.devices position) (slice_get v.devices position)) → (i : ℕ)
    → notes_in (bytes.Say device line to text private) w i ≡ written_notes (all_item_notes (items.Say device (bare_address to) text private ∷ []) v i)
say_noted device line to text private w v devices i = by (device == i) ∙ ap written_notes (sym (append-nil (cond (device == i) (said_at (bare_address to) text private (slice_get v.devices i)) [])))
  where
    by : (b : Bool) → notes_of (cond b (Say (bare_address to) text private ∷ []) []) (slice_get w.devices i) ≡ written_notes (cond b (said_at (bare_address to) text private (slice_get v.devices i)) [])
    by true = said_same (bare_address to) text private (slice_get w.devices i) (slice_get v.devices i) (devices i)
    by false = nothing_noted (slice_get w.devices i)

asked_same : (most : ℕ) (od : Option DeviceState) (oe : Option ItemDevice) → Both DeviceEncodes od oe → notes_of (CatchUp most ∷ []) od ≡ written_notes (asked_at most oe)
asked_same most None None h = refl
asked_same most None (Some e) h = absurd h
asked_same most (Some d) None h = absurd h
asked_same most (Some d) (Some e) h = calls_noted (CatchUp most ∷ []) d e h ∙ ap written_notes (by (catch_up_answer e.client))
  where
    by : (a : Result (Unit {0}) CatchUpStart) → (caught_up_by in_items (silent_at d.client.framer e.client) most (is_ok a)).turn.out.notes ≡ asked_notes a most e
    by (Ok done) = refl
    by (Err fault) = refl

pub catch_up_noted : (device line most : ℕ) (w : ByteWorld) (v : ItemWorld) → ((position : ℕ) → Both DeviceEncodes (slice_get w.devices position) (slice_get v.devices position)) → (i : ℕ)
    → notes_in (bytes.CatchUp device line most) w i ≡ written_notes (all_item_notes (items.CatchUp device most ∷ []) v i)
catch_up_noted device line most w v devices i = by (device == i) ∙ ap written_notes (sym (append-nil (cond (device == i) (asked_at most (slice_get v.devices i)) [])))
  where
    by : (b : Bool) → notes_of (cond b (CatchUp most ∷ []) []) (slice_get w.devices i) ≡ written_notes (cond b (asked_at most (slice_get v.devices i)) [])
    by true = asked_same most (slice_get w.devices i) (slice_get v.devices i) (devices i)
    by false = nothing_noted (slice_get w.devices i)

-- ---- moves one after another

pub noted_joined : (first second : List ItemMove) (v : ItemWorld) (i : ℕ) → all_item_notes (first ++ second) v i ≡ all_item_notes first v i ++ all_item_notes second (all_moved first v) i
noted_joined [] second v i = refl
noted_joined (m ∷ first) second v i = ap (λ l. item_notes m v i ++ l) (noted_joined first second (items.moved m v) i) ∙ sym (append_assoc (item_notes m v i) (all_item_notes first (items.moved m v) i) (all_item_notes second (all_moved first (items.moved m v)) i))

-- what goes to the server is none of a client's
ups_noted : (position count : ℕ) (v : ItemWorld) (i : ℕ) → all_item_notes (ups position count) v i ≡ []
ups_noted position zero v i = refl
ups_noted position (suc count) v i = ups_noted position count (items.moved (items.Up position) v) i

served_noted : (position : ℕ) (ms : List ItemMove) (v : ItemWorld) (i : ℕ) → AreServedUps position ms → all_item_notes ms v i ≡ []
served_noted position ms v i (inl none) = ap (λ l. all_item_notes l v i) none
served_noted position ms v i (inr some) = ap (λ l. all_item_notes l v i) some.1 ∙ ups_noted position some.0 (items.moved (items.Tick 0) v) i

end_noted : (position : ℕ) (ended : Bool) (v : ItemWorld) (i : ℕ) → all_item_notes (moved_where (items.UpEnd position) ended) v i ≡ []
end_noted position true v i = refl
end_noted position false v i = refl

pub up_noted : (position : ℕ) (count : Count) (w : ByteWorld) (first : List ItemMove) (ended : Bool) (v : ItemWorld) → AreServedUps position first → (i : ℕ)
    → notes_in (bytes.Up position count) w i ≡ written_notes (all_item_notes (first ++ moved_where (items.UpEnd position) ended) v i)
up_noted position count w first ended v is i =
    nothing_noted (slice_get w.devices i)
    ∙ sym (ap written_notes (noted_joined first (moved_where (items.UpEnd position) ended) v i ∙ ap₂ (λ a b. a ++ b) (served_noted position first v i is) (end_noted position ended (all_moved first v) i)))

-- nor is an end that is told to the device
pub down_end_noted : (position : ℕ) (first : List ItemMove) (ended : Bool) (v : ItemWorld) (i : ℕ) → all_item_notes (first ++ moved_where (items.DownEnd position) ended) v i ≡ all_item_notes first v i
down_end_noted position first ended v i =
    noted_joined first (moved_where (items.DownEnd position) ended) v i ∙ ap (λ l. all_item_notes first v i ++ l) (by ended) ∙ append-nil (all_item_notes first v i)
  where
    by : (b : Bool) → all_item_notes (moved_where (items.DownEnd position) b) (all_moved first v) i ≡ []
    by true = refl
    by false = refl
