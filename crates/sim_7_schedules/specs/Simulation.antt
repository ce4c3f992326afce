-- A wire schedule's history, beside events of the two applications.
use Rattle.std.specs.Prelude.{◌≡◌, ℕ, List, [], ◌∷◌, map}
use Rattle.std.specs.List.{AllByRecursion, flat_map}
use Rattle.sim_3_images.specs.Relayable.{ClientFits, DownFits, ServerFits, UpFits}
use Rattle.sim_3_images.specs.Stands.{StandingServers}
use Rattle.sim_3_images.specs.WorldEncodings.{WorldEncodes}
use Rattle.sim_3_images.specs.Fitting.{MayItem}
use Rattle.sim_3_images.specs.Notes.{notes_in}
use Rattle.sim_3_images.specs.Puts.{given_in}
use Rattle.sim_3_images.specs.Reads.{read_in}
use Rattle.sim_3_items.specs.Labels.{Gives, Label, Names, Reads, Says, Takes}
use Rattle.sim_3_items.specs.Reading.{noted}
use Rattle.cl_handlers.specs.Speech.{Note}
use Rattle.law_client.specs.Rendered.{note_rendered}
use Rattle.sim_2_links.specs.Views.{View}
use Rattle.sim_3_items.specs.ItemMoves.{ItemMove}
use Rattle.sim_3_items.specs.ItemWorlds.{ItemWorld}
use Rattle.cmd_schedule.specs.Contents.{Owned}
use Rattle.cmd_schedule.specs.Schedules.{WireView}
use Rattle.sim_1_applications.specs.Devices.{AppWorld}
use Rattle.sim_1_applications.specs.Events.{AppEvent, Reaches}
use Rattle.sim_1_applications.specs.Histories.{state_after}
use Rattle.sim_1_applications.specs.Runs.{IsLineDone, LineRun, begins, owned_of, refused_by}
use Rattle.sim_1_applications.specs.Runs as lines
use Rattle.cmd_report.specs.Reports.{DeviceView}
use Rattle.cmd_schedule.specs.declared.schedule.WireLine.{WireLine}
use Rattle.cmd_world.specs.Histories.{world_at_start, world_of}
use Rattle.cmd_world.specs.Lines.{moves_of, stepped}
use Rattle.cmd_world.specs.Moves.{Move, moved}
use Rattle.cmd_world.specs.WorldReports.{report_of}
use Rattle.cmd_world.specs.Worlds as bytes
use Rattle.sim_5_moves.specs.Running.{Bounds, IsInBounds, IsOwned, Leads, MoveSimulates, WorldSimulates}
use Rattle.xml_writer.specs.Items.{ItemOut, written_item}

-- How much a list of lines can come to. Each line that is counted is one message at most, one page or one connection, and
-- a pass or a run is as many pages at most as it has times. No page is asked for, and nothing said, at the others.
abbrev pub bounds : Bounds
bounds = record { says = 10000000; pages = 10100000; dials = 10000 }

-- each move of a world of items is events of the applications
abbrev pub EachMoveSimulates : WireView → Type 0
EachMoveSimulates schedule = (m : ItemMove) (says : ℕ) (w : ItemWorld) (x : AppWorld) → MayItem m → (runs : WorldSimulates schedule bounds says w x) → IsInBounds bounds says m w x → MoveSimulates schedule bounds says m w x runs

-- the world of bytes encodes one of items
abbrev pub IsEncoded : bytes.ByteWorld → ItemWorld → Type 0
IsEncoded W w = WorldEncodes UpFits DownFits (StandingServers ServerFits) ClientFits W w

-- a world of bytes and one of the applications, and that of items between them
pub record Simulates (schedule : WireView) (W : bytes.ByteWorld) (x : AppWorld) : Type 0 where
  pub says : ℕ
  pub items : ItemWorld
  pub encodes : IsEncoded W items
  pub runs : WorldSimulates schedule bounds says items x

-- the links of each device of a schedule
abbrev pub Views : WireView → Type 0
Views schedule = (i : ℕ) (o : Owned) → IsOwned schedule i o → View ItemOut

-- as a world of items is shown by them
abbrev pub views_of : {schedule : WireView} {b : Bounds} {says : ℕ} {w : ItemWorld} {x : AppWorld} → WorldSimulates schedule b says w x → Views schedule
views_of runs i o is = (runs.simulation.devices i o is).view

-- moves of the links lead from the ones to the others, and of each device their labels are as is said
abbrev pub AllLead : (schedule : WireView) → (ℕ → List (Label ItemOut) → Type 0) → Views schedule → Views schedule → Type 0
AllLead schedule Does views next = (i : ℕ) (o : Owned) (is : IsOwned schedule i o) → Leads (Does i) (views i o is) (next i o is)

-- of labels those of a client: what it puts and handles, and that a session was bound
abbrev pub clients_of : List (Label ItemOut) → List (Label ItemOut)
clients_of [] = []
clients_of (Says z ∷ done) = Says z ∷ clients_of done
clients_of (Reads z ∷ done) = Reads z ∷ clients_of done
clients_of (Names ∷ done) = Names ∷ clients_of done
clients_of (_ ∷ done) = clients_of done

-- and the stanzas that the server handles
abbrev pub takes_of : List (Label ItemOut) → List ItemOut
takes_of [] = []
takes_of (Takes z ∷ done) = z ∷ takes_of done
takes_of (_ ∷ done) = takes_of done

-- and those that it puts
abbrev pub gives_of : List (Label ItemOut) → List ItemOut
gives_of [] = []
gives_of (Gives z ∷ done) = z ∷ gives_of done
gives_of (_ ∷ done) = gives_of done

-- the ones are those of what the client notes down, and the others those that the server reads
abbrev pub LabelsAreNoted : List (Note ItemOut) → List ItemOut → List (Label ItemOut) → Type 0
LabelsAreNoted notes read done = (clients_of done ≡ clients_of (noted notes)) × (takes_of done ≡ read)

-- and so in a move of bytes; and the server puts those that its outputs tell, as they are written
abbrev pub LabelsAreNotedIn : Move → bytes.ByteWorld → ℕ → List (Label ItemOut) → Type 0
LabelsAreNotedIn m W i done = (notes : List (Note ItemOut)) × (notes_in m W i ≡ map (note_rendered written_item) notes) × LabelsAreNoted notes (read_in m W i) done × (map written_item (gives_of done) ≡ given_in m W i)

-- a world of bytes and one of the applications, with these links between them
pub record SimulatesBy (schedule : WireView) (W : bytes.ByteWorld) (x : AppWorld) (views : Views schedule) : Type 0 where
  pub beside : Simulates schedule W x
  pub shown : (i : ℕ) (o : Owned) (is : IsOwned schedule i o) → (beside.runs.simulation.devices i o is).view ≡ views i o is

-- Moves of bytes, and the events that each led to: behind each the worlds are related, and moves of the links led from those
-- before it to those behind it, in which each client did what it noted down, and the server handled what it read, and put
-- what its outputs tell.
abbrev pub MovesSimulate : (schedule : WireView) → List Move → List (List AppEvent) → Views schedule → Views schedule → bytes.ByteWorld → AppWorld → Type 0
MovesSimulate schedule [] [] views last W x = last ≡ views
MovesSimulate schedule (m ∷ ms) (es ∷ ess) views last W x =
    (next : Views schedule) × SimulatesBy schedule (moved m W) (state_after x es) next × AllLead schedule (LabelsAreNotedIn m W) views next × MovesSimulate schedule ms ess next last (moved m W) (state_after x es)
MovesSimulate schedule _ _ views last W x = ⊥

-- the same of lines, one after another
abbrev pub LinesSimulate : (schedule : WireView) → List WireLine → List LineRun → Views schedule → bytes.ByteWorld → AppWorld → Type 0
LinesSimulate schedule [] [] views W x = Unit {0}
LinesSimulate schedule (line ∷ lines) (r ∷ rs) views W x =
    (r.line ≡ line) × (next : Views schedule) × MovesSimulate schedule (moves_of line W) r.moves views next W x × LinesSimulate schedule lines rs next (stepped line W) (state_after x (flat_map (λ one. one) r.moves))
LinesSimulate schedule _ _ views W x = ⊥

-- A schedule's history beside a run of the applications: what each line led to, and what was refused.
pub record ScheduleSimulates (schedule : WireView) : Type 0 where
  pub runs : List LineRun
  pub done : AllByRecursion (IsLineDone (owned_of schedule)) runs
  pub first : Simulates schedule (world_at_start schedule) (begins schedule)
  pub go : LinesSimulate schedule schedule.lines runs (views_of first.runs) (world_at_start schedule) (begins schedule)
  pub last : AppWorld
  pub reaches : Reaches (flat_map (λ move. move) (lines.moves_of runs)) (begins schedule) last
  pub refused : AllByRecursion (λ (d : DeviceView). d.refused ≡ refused_by d.name runs) (report_of (world_of schedule)).devices
