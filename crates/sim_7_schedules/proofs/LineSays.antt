-- What is said at a line of a wire schedule, told by the world of bytes before it: a message that the client takes.
use Rattle.std.proofs.Common.{◌≡◌, ℕ, ◌≤◌, Bool, true, false, List, [], Option, None, Some, Result, Ok, Err, length, sym, refl, ap, ◌∙◌, arith}
use Rattle.std.specs.List.{slice_get}
use Rattle.std.specs.Prelude.{IsTrue}
use Rattle.cl_core.specs.UserCalls.{say_answer}
use Rattle.cl_core.specs.declared.faults.SayFault.{SayFault}
use Rattle.law_client.proofs.TableRendered.{answer_rendered}
use Rattle.cl_handlers.specs.Clients.{ClientView}
use Rattle.cmd_network.specs.Devices.{DeviceState}
use Rattle.base_io.specs.Names.{position_of}
use Rattle.sim_3_images.specs.WorldEncodings.{Both, DeviceEncodes}
use Rattle.sim_3_items.proofs.TextsTold.{name_again}
use Rattle.sim_3_items.specs.ItemWorlds.{ItemDevice, ItemWorld}
use Rattle.cmd_report.specs.Addresses.{bare_address, domain}
use Rattle.cmd_schedule.specs.Grammar.{is_name}
use Rattle.cmd_schedule.specs.LineLists.{counted_of}
use Rattle.cmd_schedule.specs.declared.schedule.Step.TheVariants as step
use Rattle.cmd_schedule.specs.declared.schedule.WireStep.{WireStep}
use Rattle.cmd_schedule.specs.declared.schedule.WireStep.TheVariants as wire
use Rattle.sim_7_schedules.specs.Simulation.{IsEncoded}
use Rattle.sim_1_applications.specs.Histories.{Spoken}
use Rattle.cmd_world.specs.Worlds.{ByteWorld}
use Rattle.sim_5_moves.specs.Running.{said_at, spoken_where}
use Rattle.xml_writer.specs.Items.{written_item}

-- ---- in a world of bytes

abbrev pub message : ℕ → List ℕ → List ℕ → Bool → Spoken
message position to text private = record { device = position; to = to; text = text; private = private }

abbrev pub said_on : ℕ → List ℕ → List ℕ → Bool → Option DeviceState → List Spoken
said_on position to text private None = []
said_on position to text private (Some d) = spoken_where (say_answer d.client.client text) (message position to text private)

abbrev pub said_under : ByteWorld → List ℕ → List ℕ → Bool → Option ℕ → List Spoken
said_under W to text private None = []
said_under W to text private (Some position) = said_on position to text private (slice_get W.devices position)

-- no line but these
abbrev pub said_by_step : ByteWorld → WireStep → List Spoken
said_by_step W (wire.Common (step.Say name to text)) = said_under W to text false (position_of name W.names)
said_by_step W (wire.Common (step.Private name to text)) = said_under W to text true (position_of name W.names)
said_by_step W _ = []

-- ---- and in the world of items whose image it is

-- the client of bytes answers as that of items
pub same_said : (position : ℕ) (to text : List ℕ) (private : Bool) (W : ByteWorld) (w : ItemWorld) → IsTrue (is_name to) → IsEncoded W w →
    said_at position (bare_address to) text private (slice_get w.devices position) ≡ said_on position to text private (slice_get W.devices position)
same_said position to text private W w named encodes = by (slice_get W.devices position) (slice_get w.devices position) (encodes.encoding.devices position)
  where
    by : (od : Option DeviceState) (oe : Option ItemDevice) → Both DeviceEncodes od oe → said_at position (bare_address to) text private oe ≡ said_on position to text private od
    by None None h = refl
    by None (Some e) h = absurd h
    by (Some d) None h = absurd h
    by (Some d) (Some e) h =
        ap (λ name. spoken_where (say_answer e.client text) (message position name text private)) (name_again to domain named)
        ∙ ap (λ (a : Result ℕ SayFault). spoken_where a (message position to text private)) (sym (ap (λ (c : ClientView (List ℕ)). say_answer c text) h.client ∙ answer_rendered written_item e.client text))

-- one message at most
one_where : (r : Result ℕ SayFault) (s : Spoken) → length (spoken_where r s) ≤ 1
one_where (Ok n) s = omega arith
one_where (Err fault) s = omega arith

pub one_said : (position : ℕ) (to text : List ℕ) (private : Bool) (o : Option ItemDevice) → length (said_at position to text private o) ≤ 1
one_said position to text private None = omega arith
one_said position to text private (Some d) = one_where (say_answer d.client text) _

one_on : (position : ℕ) (to text : List ℕ) (private : Bool) (o : Option DeviceState) → length (said_on position to text private o) ≤ 1
one_on position to text private None = omega arith
one_on position to text private (Some d) = one_where (say_answer d.client.client text) (message position to text private)

one_under : (W : ByteWorld) (to text : List ℕ) (private : Bool) (o : Option ℕ) → length (said_under W to text private o) ≤ 1
one_under W to text private None = omega arith
one_under W to text private (Some position) = one_on position to text private (slice_get W.devices position)

-- and none at a line that is not counted
pub said_few : (W : ByteWorld) (s : WireStep) → length (said_by_step W s) ≤ counted_of s
said_few W (wire.Common (step.Account name)) = omega arith
said_few W (wire.Common (step.Device name account)) = omega arith
said_few W (wire.Common (step.Say name to text)) = one_under W to text false (position_of name W.names)
said_few W (wire.Common (step.Private name to text)) = one_under W to text true (position_of name W.names)
said_few W (wire.Common (step.Catchup name most)) = omega arith
said_few W (wire.Common (step.Tick ms)) = omega arith
said_few W (wire.Dial device) = omega arith
said_few W (wire.Forget device) = omega arith
said_few W (wire.Close device) = omega arith
said_few W (wire.Up k count) = omega arith
said_few W (wire.Down k count) = omega arith
said_few W (wire.Cut k up down) = omega arith
said_few W (wire.Pass k times) = omega arith
said_few W (wire.Run times) = omega arith
