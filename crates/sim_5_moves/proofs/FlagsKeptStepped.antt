-- Where a device takes session steps, what its client put and what is acknowledged stay.
use Rattle.std.proofs.Common.{◌≡◌, ◌≤◌, List, [], ◌∷◌, length, refl, sym, ap, subst, ◌∙◌}
use Rattle.sim_5_devices.specs.Labels.{Binds, Counts, Ends, SessionStep, SessionSteps, session_stepped}
use Rattle.sim_1_applications.specs.Devices.{Sessions, up_put}
use Rattle.sim_5_devices.specs.Told.{IsAcked, SameUps}

same_then : (d e f : Sessions) → SameUps d e → SameUps e f → SameUps d f
same_then d e f one two = record { past = two.past ∙ one.past; n = two.n ∙ one.n; online = two.online ∙ one.online; acked = two.acked ∙ one.acked; put = two.put ∙ one.put }

one_same : (x : SessionStep) (d : Sessions) → SameUps d (session_stepped x d)
one_same Binds d = record { past = refl; n = refl; online = refl; acked = refl; put = refl }
one_same Counts d = record { past = refl; n = refl; online = refl; acked = refl; put = refl }
one_same Ends d = record { past = refl; n = refl; online = refl; acked = refl; put = refl }

pub same_ups : (xs : List SessionStep) (d last : Sessions) → SessionSteps xs d last → SameUps d last
same_ups [] d last same = subst (SameUps d) (sym same) (record { past = refl; n = refl; online = refl; acked = refl; put = refl })
same_ups (x ∷ xs) d last by = same_then d (session_stepped x d) last (one_same x d) (same_ups xs (session_stepped x d) last by.1)

one_acked : (x : SessionStep) (d : Sessions) → IsAcked d → IsAcked (session_stepped x d)
one_acked Binds d acked = acked
one_acked Counts d acked = acked
one_acked Ends d acked = acked

pub still_acked : (xs : List SessionStep) (d last : Sessions) → SessionSteps xs d last → IsAcked d → IsAcked last
still_acked [] d last same acked = subst IsAcked (sym same) acked
still_acked (x ∷ xs) d last by acked = still_acked xs (session_stepped x d) last by.1 (one_acked x d acked)
