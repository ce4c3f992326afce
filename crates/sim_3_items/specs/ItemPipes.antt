-- Connections whose two pipes hold items (RFC 6120, section 4.4).
use Rattle.std.specs.Prelude.{ℕ, Bool, true, false, not, ◌&&◌, List, [], ◌∷◌, ◌++◌, drop, take, if◌then◌else◌}
use Rattle.xml_writer.specs.Items.{ItemOut}

-- the items under way; the end mark, behind which nothing enters; and whether the end was told to who takes
pub record ItemPipe : Type 0 where
  pub items : List ItemOut
  pub ended : Bool
  pub told : Bool

abbrev pub empty_pipe : ItemPipe
empty_pipe = record { items = []; ended = false; told = false }

-- items that are put: into an ended pipe nothing enters
abbrev pub entered : List ItemOut → ItemPipe → ItemPipe
entered more p = if p.ended then p else record p { items = p.items ++ more }

-- the first item is handed over
abbrev pub handed : ItemPipe → ItemPipe
handed p = record p { items = drop 1 p.items }

-- the first n items stay, and no further ones come
abbrev pub cut_to : ℕ → ItemPipe → ItemPipe
cut_to n p = record p { items = take n p.items; ended = true }

abbrev pub closed : ItemPipe → ItemPipe
closed p = record p { ended = true }

abbrev pub emptied : ItemPipe → ItemPipe
emptied p = record p { items = []; ended = true }

abbrev has_none : List ItemOut → Bool
has_none [] = true
has_none (i ∷ items) = false

abbrev pub is_empty : ItemPipe → Bool
is_empty p = has_none p.items

-- nothing is under way any more, nothing comes, and that wasn't told yet
abbrev pub is_end_due : ItemPipe → Bool
is_end_due p = is_empty p && p.ended && not p.told

abbrev pub with_end_reported : ItemPipe → ItemPipe
with_end_reported p = record p { told = true }

-- ---- both pipes of a connection

-- the place of the device that dialed it; the pipe to the server, and that to the device
pub record ItemWire : Type 0 where
  pub device : ℕ
  pub up : ItemPipe
  pub down : ItemPipe

abbrev pub fresh_wire : ℕ → ItemWire
fresh_wire device = record { device = device; up = empty_pipe; down = empty_pipe }

-- the network cuts it: the first items of both pipes stay
abbrev pub cut_at : ℕ → ℕ → ItemWire → ItemWire
cut_at up down w = record w { up = cut_to up w.up; down = cut_to down w.down }

-- the device leaves it: the end mark stands behind what is on its way to the server, and what is on its way to the device is lost
abbrev pub left : ItemWire → ItemWire
left w = record w { up = closed w.up; down = emptied w.down }

-- the server shuts it: the end mark stands behind what is on its way to the device, and what is on its way to the server is lost
abbrev pub shut : ItemWire → ItemWire
shut w = record w { up = emptied w.up; down = closed w.down }

abbrev pub put_up : List ItemOut → ItemWire → ItemWire
put_up items w = record w { up = entered items w.up }

abbrev pub put_down : List ItemOut → ItemWire → ItemWire
put_down items w = record w { down = entered items w.down }

abbrev pub handed_up : ItemWire → ItemWire
handed_up w = record w { up = handed w.up }

abbrev pub handed_down : ItemWire → ItemWire
handed_down w = record w { down = handed w.down }

abbrev pub up_end_reported : ItemWire → ItemWire
up_end_reported w = record w { up = with_end_reported w.up }

abbrev pub down_end_reported : ItemWire → ItemWire
down_end_reported w = record w { down = with_end_reported w.down }
