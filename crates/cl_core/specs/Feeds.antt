-- The client's step over bytes.
use Rattle.std.specs.Prelude.{◌≡◌, ℕ, ◌≤◌, List, [], Option, Some, None, length, take, drop, if◌then◌else◌}
use Rattle.cl_handlers.specs.Clients.{ClientStep}
use Rattle.cl_handlers.specs.Speech.{Speech}
use Rattle.cl_core.specs.Steps.{items_run}
use Rattle.cl_handlers.specs.ClientSteps.{ends, is_apart, left}
use Rattle.cl_handlers.specs.declared.events.PeerFault.TheVariants.{Framing}
use Rattle.xml_framer.specs.Machine as machine
use Rattle.xml_framer.specs.States as framer
use Rattle.xml_framer.specs.declared.fault.Fault.{Fault}
use Rattle.xml_framer.specs.declared.items.Item.{Item}

-- a turn, and the framer of the connection, where one stands
pub record Fed (A X : Type 0) : Type 0 where
  pub framer : Option framer.State
  pub turn : ClientStep A X

-- the fault of the bytes is told only where the connection stands still
abbrev pub with_fault : {A X : Type 0} → ClientStep A X → Option Fault → ClientStep A X
with_fault t None = t
with_fault t (Some fault) = if is_apart t.client.phase then t else ends t (Framing fault)

-- the framer is kept as long as the connection stands
abbrev pub kept_while : {A X : Type 0} → ClientStep A X → framer.State → Fed A X
kept_while t state = record { framer = if is_apart t.client.phase then None else Some state; turn = t }

abbrev pub read : framer.State → List ℕ → framer.Turn
read state piece = machine.run (framer.turn state []) piece

-- the items of a piece, and then the fault of its bytes
abbrev pub fed : {A X : Type 0} → Speech A X → ClientStep A X → framer.Turn → Fed A X
fed speech t f = kept_while (with_fault (items_run speech t f.items) f.state.fault) f.state

abbrev pub bytes_in : {A X : Type 0} → Speech A X → ClientStep A X → Option framer.State → List ℕ → Fed A X
bytes_in speech t None piece = record { framer = None; turn = t }
bytes_in speech t (Some state) piece = fed speech t (read state piece)

-- bytes that come where no connection stands do nothing
abbrev pub bytes_step : {A X : Type 0} → Speech A X → Fed A X → List ℕ → Fed A X
bytes_step speech f piece = bytes_in speech f.turn f.framer piece

-- ---- where memory runs out

-- the first items had their effect, the next one had none, and the connection is left
pub record IsStopped {A X : Type 0} (speech : Speech A X) (old : ClientStep A X) (items : List Item) (new : ClientStep A X) : Type 0 where
  pub done : ℕ
  pub within : done ≤ length items
  pub turn : new ≡ left (items_run speech old (take done items))

-- so far the first items had their effect, and the rest is to come
pub record IsAlong {A X : Type 0} (speech : Speech A X) (old : ClientStep A X) (items : List Item) (now : ClientStep A X) (rest : List Item) : Type 0 where
  pub done : ℕ
  pub within : done ≤ length items
  pub now_is : now ≡ items_run speech old (take done items)
  pub rest_is : rest ≡ drop done items

-- of the items of a piece
pub record IsCutShort {A X : Type 0} (speech : Speech A X) (state : framer.State) (old : ClientStep A X) (piece : List ℕ) (new : Fed A X) : Type 0 where
  pub done : ℕ
  pub within : done ≤ length (read state piece).items
  pub framer : new.framer ≡ None
  pub turn : new.turn ≡ left (items_run speech old (take done (read state piece).items))

abbrev pub IsLostIn : {A X : Type 0} → Speech A X → Option framer.State → ClientStep A X → List ℕ → Fed A X → Type 0
IsLostIn speech None old piece new = ⊥
IsLostIn speech (Some state) old piece new = IsCutShort speech state old piece new

-- it runs out only where a connection stands
abbrev pub IsMemoryLost : {A X : Type 0} → Speech A X → Fed A X → List ℕ → Fed A X → Type 0
IsMemoryLost speech old piece new = IsLostIn speech old.framer old.turn piece new
