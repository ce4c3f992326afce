-- Pages with the same parts are the same.
use Rattle.std.proofs.Common.{◌≡◌, ℕ, Bool, List}
use Rattle.mam_pages.specs.Cuts.{CutView}

abbrev pub view : List ℕ → ℕ → ℕ → Bool → Bool → CutView
view numbers first_index count complete backward =
    record { numbers = numbers; first_index = first_index; count = count; complete = complete; backward = backward }

pub same_view : (ns ms : List ℕ) (i j c d : ℕ) (a b x y : Bool) → ns ≡ ms → i ≡ j → c ≡ d → a ≡ b → x ≡ y → view ns i c a x ≡ view ms j d b y
same_view ns ms i j c d a b x y numbers index count complete backward = rw (numbers, index, count, complete, backward)
