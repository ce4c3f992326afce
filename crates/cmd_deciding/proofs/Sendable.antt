-- Each intent of a file is for an account's name.
use Rattle.std.proofs.Common.{List, [], ◌∷◌}
use Rattle.cl_intents.specs.Intents.{IntentsView}
use Rattle.cl_intents.specs.declared.intents.Intent.{Intent as OneIntent}
use Rattle.cmd_deciding.specs.Looks.{AreNamed, EachNamed}
use Rattle.cmd_resolving.proofs.Listed.{CanAllSay, CanEachSay}

all_named : (is : List OneIntent) → CanAllSay is → AreNamed is
all_named [] can = tt
all_named (i ∷ is) can = (can.0.0, all_named is can.1)

pub each_named : (vs : List IntentsView) → CanEachSay vs → EachNamed vs
each_named [] can = tt
each_named (v ∷ vs) can = (all_named v.intents can.0, each_named vs can.1)
