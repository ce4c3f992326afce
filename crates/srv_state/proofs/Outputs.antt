-- One output more is seen behind those that were there.
use Rattle.std.proofs.Common.{◌≡◌, List, [], ◌∷◌, ◌++◌}
use Rattle.std.proofs.lemmas.List.{map_push}
use Rattle.srv_state.specs.Seen.{out_of, outs_of}
use Rattle.srv_state.specs.declared.output.Output.{Output}

pub outs_push : (outputs : List Output) (o : Output) → outs_of (outputs ++ o ∷ []) ≡ outs_of outputs ++ out_of o ∷ []
outs_push outputs o = map_push out_of outputs o
