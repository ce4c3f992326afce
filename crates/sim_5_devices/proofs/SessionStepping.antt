-- Drifts behind drifts, and before labels.
use Rattle.std.proofs.Common.{List, [], ◌∷◌, ◌++◌, subst}
use Rattle.sim_3_items.specs.Labels.{Label}
use Rattle.sim_2_events.specs.Lists.{Stanzas}
use Rattle.sim_5_devices.specs.Labels.{DoesInterleaved, SessionStep, SessionSteps, session_stepped}
use Rattle.sim_1_applications.specs.Devices.{Sessions}

pub session_steps_both : (xs ys : List SessionStep) (d there last : Sessions) → SessionSteps xs d there → SessionSteps ys there last → SessionSteps (xs ++ ys) d last
session_steps_both [] ys d there last same more = subst (λ s. SessionSteps ys s last) same more
session_steps_both (x ∷ xs) ys d there last by more = (by.0, session_steps_both xs ys (session_stepped x d) there last by.1 more)

pub session_steps_before : {A : Type 0} (r : Stanzas A) (ds : List (Label A)) (xs : List SessionStep) (d there last : Sessions) → SessionSteps xs d there → DoesInterleaved r ds there last → DoesInterleaved r ds d last
session_steps_before r [] xs d there last by interleaved = (xs ++ interleaved.0, session_steps_both xs interleaved.0 d there last by interleaved.1)
session_steps_before r (x ∷ ds) xs d there last by interleaved = (xs ++ interleaved.0, interleaved.1, session_steps_both xs interleaved.0 d there interleaved.1 by interleaved.2, interleaved.3)
