use Rattle.std.proofs.Common.{arith, refl}
use Rattle.base_lemmas.specs.Hexadecimal.{hex16_of}
use Rattle.base_lemmas.proofs.hexadecimal.hex16.Goals as goal

pub loop-at-init : goal.loop-at-init
unfolding hex16_of
loop-at-init c = record { within = omega arith; size = refl; split = refl }
