-- The parts of a device's text, one behind the other.
use Rattle.std.proofs.Common.{◌≡◌, ℕ, List, [], ◌∷◌, ◌++◌, refl, codes, append_assoc}
use Rattle.std.specs.Fmt.{decimal}
use Rattle.std.specs.List.{flat_map}
use Rattle.cmd_report.specs.ReportText.{device_text, settled_text, said_text, refused_text, page_text, underway_text, logged_text, held_text}
use Rattle.cmd_report.specs.Reports.{DeviceView}

regroup : (out a b c d e f g h i j k l : List ℕ)
    → out ++ a ++ b ++ c ++ d ++ e ++ f ++ g ++ h ++ i ++ j ++ k ++ l ≡ out ++ (a ++ b ++ c ++ d ++ e ++ (f ++ g) ++ h ++ i ++ j ++ k ++ l)
regroup out a b c d e f g h i j k l = simp append_assoc refl

pub parts_joined : (out : List ℕ) (d : DeviceView)
    → out ++ codes "device " ++ d.name ++ 32 ∷ d.account ++ 32 ∷ decimal d.epoch ++ 32 ∷ settled_text d.settled ++ 10 ∷ []
    ++ flat_map said_text d.said ++ flat_map refused_text d.refused ++ flat_map page_text d.pages
    ++ flat_map underway_text d.underway ++ flat_map logged_text d.logged ++ flat_map held_text d.held
    ≡ out ++ device_text d
parts_joined out d =
    regroup out (codes "device ") d.name (32 ∷ d.account) (32 ∷ decimal d.epoch) (32 ∷ settled_text d.settled) (10 ∷ [])
    (flat_map said_text d.said) (flat_map refused_text d.refused) (flat_map page_text d.pages)
    (flat_map underway_text d.underway) (flat_map logged_text d.logged) (flat_map held_text d.held)
