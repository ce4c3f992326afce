-- What a client has of the applications stays, where its sessions drift.
use Rattle.std.proofs.Common.{◌≡◌, ℕ, Bool, List, [], ◌∷◌, Option, Some, None, is_some, map, refl, sym, ap, subst, ◌∙◌}
use Rattle.mam_archive.specs.Entries.{EntryView}
use Rattle.cl_handlers.specs.Clients.{ClientView}
use Rattle.cmd_network.specs.DeviceLines.{said_line}
use Rattle.sim_5_devices.specs.Shown.{LogRepresents}
use Rattle.sm_outbox.specs.Sessions.{SessionView}
use Rattle.sm_outbox.specs.Submissions.{all_said}
use Rattle.sim_5_moves.specs.Silent.{SameUser}
use Rattle.sim_5_devices.specs.Labels.{Binds, Counts, Ends, SessionStep, SessionSteps}
use Rattle.sim_3_items.specs.Submitted.{IsWaiting, SubmissionsRepresent}
use Rattle.sim_1_applications.specs.Devices.{Reading, Sessions, epoch_of}
use Rattle.sim_1_applications.specs.Events.{binds, counts, end_row}
use Rattle.sim_1_applications.specs.Reported.{said_of}
use Rattle.xml_writer.specs.Items.{ItemOut}

-- what a drift leaves is all that submissions hang on
stepped_shows : (c : ClientView ItemOut) (d e : Sessions) → epoch_of e ≡ epoch_of d → e.n ≡ d.n → e.online ≡ d.online → said_of e ≡ said_of d → (IsWaiting c.session c.said d → IsWaiting c.session c.said e) → SubmissionsRepresent c d → SubmissionsRepresent c e
stepped_shows c d e epoch n online said waiting represents = record {
  epoch = represents.epoch ∙ sym epoch;
  n = represents.n ∙ sym n;
  online = online ∙ represents.online;
  said = represents.said ∙ sym said;
  waiting = waiting represents.waiting;
}

pub session_steps_show_submissions : (xs : List SessionStep) (c : ClientView ItemOut) (d last : Sessions) → SessionSteps xs d last → SubmissionsRepresent c d → SubmissionsRepresent c last
session_steps_show_submissions [] c d last session_steps represents = subst (SubmissionsRepresent c) (sym session_steps) represents
session_steps_show_submissions (Binds ∷ xs) c d last session_steps represents = session_steps_show_submissions xs c (binds d) last session_steps.1 (stepped_shows c d (binds d) refl refl refl refl (same c.session) represents)
  where
    same : (o : Option (SessionView ItemOut)) → IsWaiting o c.said d → IsWaiting o c.said (binds d)
    same None is = is
    same (Some s) is = is
session_steps_show_submissions (Counts ∷ xs) c d last session_steps represents = session_steps_show_submissions xs c (counts d) last session_steps.1 (stepped_shows c d (counts d) refl refl refl refl (same c.session) represents)
  where
    same : (o : Option (SessionView ItemOut)) → IsWaiting o c.said d → IsWaiting o c.said (counts d)
    same None is = is
    same (Some s) is = is
session_steps_show_submissions (Ends ∷ xs) c d last session_steps represents = session_steps_show_submissions xs c (end_row d) last session_steps.1 (stepped_shows c d (end_row d) refl refl refl refl (same c.session) represents)
  where
    same : (o : Option (SessionView ItemOut)) → IsWaiting o c.said d → IsWaiting o c.said (end_row d)
    same None is = is
    same (Some s) is = is

-- another client with the same has it too
pub same_submissions : (c e : ClientView ItemOut) (d : Sessions) → SameUser c e → SubmissionsRepresent c d → SubmissionsRepresent e d
same_submissions c e d user represents = record {
  epoch = user.epoch ∙ represents.epoch;
  n = user.n ∙ represents.n;
  online = represents.online ∙ ap is_some (sym user.session);
  said = ap (λ s. map said_line (all_said s)) user.said ∙ represents.said;
  waiting = subst (λ s. IsWaiting s e.said d) (sym user.session) (subst (λ s. IsWaiting c.session s d) (sym user.said) represents.waiting);
}
