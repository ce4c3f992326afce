-- Requests that ask by a bare element: carbons (XEP-0280, sections 4 and 5), and those of which the whole shape is the name.
use Rattle.std.specs.Prelude.{◌≡◌, ℕ, Bool, true, false, ◌||◌, List, codes, Result, Ok, Err, if◌then◌else◌}
use Rattle.im_payload.specs.Bare.{bare}
use Rattle.im_payload.specs.Names.{carbons}
use Rattle.im_extensions.specs.declared.requests.CarbonsSwitch.{CarbonsSwitch}
use Rattle.im_payload.specs.declared.fault.ExtFault.{ExtFault}
use Rattle.im_payload.specs.declared.fault.ExtFault.TheVariants.{NotThis}
use Rattle.xml_trees.specs.Readers.{is_named}
use Rattle.xml_trees.specs.Trees.{Elem}

-- `enable` switches carbons on, `disable` off
abbrev pub switch_name : Bool → List ℕ
switch_name true = codes "enable"
switch_name false = codes "disable"

abbrev pub is_switch : Elem → Bool
is_switch e = is_named carbons (codes "enable") e || is_named carbons (codes "disable") e

abbrev pub IsCarbonsSwitch : Elem → CarbonsSwitch → Type 0
IsCarbonsSwitch e v = is_named carbons (switch_name v.on) e ≡ true

abbrev pub carbons_switch_elem : CarbonsSwitch → Elem
carbons_switch_elem v = bare carbons (switch_name v.on)

-- what is read of an element
abbrev pub switch_read : Elem → Result CarbonsSwitch ExtFault
switch_read e =
    if is_named carbons (codes "enable") e then Ok (record { on = true })
    else (if is_named carbons (codes "disable") e then Ok (record { on = false }) else Err NotThis)
