-- For which reasons the server ended the streams of a device.
use Rattle.std.proofs.Common.{◌≡◌, ℕ, Bool, true, false, List, [], ◌∷◌, Some, map, refl, sym, subst}
use Rattle.std.specs.List.{AllByRecursion, slice_get}
use Rattle.sim_3_items.specs.Labels.{awaits}
use Rattle.sim_2_links.proofs.Reached.{link_kept}
use Rattle.sim_2_links.proofs.WithPremises.{prompt_runs}
use Rattle.sim_2_links.specs.Links.{IsFair, LinkKept}
use Rattle.sim_2_links.specs.Machine.{LinkReached}
use Rattle.sim_2_links.specs.Stages.{AsksBind, AsksEnable, AsksResume, Answers, Binds, Challenged, Closes, Conn, Enables, Ending, Errs, Greeted, Greets, Offered, Proves, Refused, Regreeted, Regreets, Reoffered, Resumes, Runs, Stage, Stands, Succeeded, down_of, tail_of}
use Rattle.sim_2_links.specs.Views.{View, has}
use Rattle.sim_2_links.specs.Wires.{down_whole}
use Rattle.sim_2_links.specs.Words.{Conflict, Constraint, Down, DownWord, TooHigh, Traffic}
use Rattle.cmd_schedule.proofs.Lists.{all_append}
use Rattle.cmd_schedule.specs.Contents.{Owned}
use Rattle.cmd_schedule.specs.Schedules.{WireView}
use Rattle.sim_1_applications.specs.Devices as sessions
use Rattle.sim_1_applications.specs.Runs.{owned_of}
use Rattle.sim_7_schedules.specs.Simulation.{Simulates}
use Rattle.sim_7_schedules.specs.Faults.{HasWords, IsForReason}
use Rattle.cmd_world.specs.Worlds.{ByteWorld}
use Rattle.xml_writer.specs.Items.{ItemOut}

-- ---- of the words of a connection only those behind its row are errors

module _ (works : Bool) where
  abbrev AreForReason : List (DownWord ItemOut) → Type 0
  AreForReason words = AllByRecursion (IsForReason works) words

  traffic : (downs : List (Traffic ItemOut)) → AreForReason (map Down downs)
  traffic [] = tt
  traffic (t ∷ downs) = (tt, traffic downs)

  of_row : (s : Stage ItemOut) → AreForReason (down_of s)
  of_row Greets = tt
  of_row Greeted = (tt, (tt, tt))
  of_row Offered = (tt, tt)
  of_row Proves = tt
  of_row Challenged = (tt, tt)
  of_row Answers = tt
  of_row Succeeded = (tt, tt)
  of_row Regreets = tt
  of_row Regreeted = (tt, (tt, tt))
  of_row Reoffered = (tt, tt)
  of_row (AsksResume p h) = tt
  of_row (Refused p) = (tt, tt)
  of_row (Resumes p h downs) = (tt, traffic downs)
  of_row AsksBind = tt
  of_row (Binds m) = (tt, tt)
  of_row (AsksEnable m) = tt
  of_row (Enables m downs) = (tt, traffic downs)
  of_row (Runs p ups downs) = traffic downs

-- and where the client works the error is a fair one
of_end : (works : Bool) (e : Ending) → (works ≡ true → IsFair e) → AreForReason works (tail_of e)
of_end works Stands fair = tt
of_end works (Errs Conflict) fair = (tt, (tt, tt))
of_end works (Errs Constraint) fair = (tt, (tt, tt))
of_end true (Errs TooHigh) fair = absurd (fair refl)
of_end false (Errs TooHigh) fair = (refl, (tt, tt))
of_end works Closes fair = (tt, tt)

-- ---- each connection of a device

each_word : (v : View ItemOut) → LinkKept v → (k : ℕ) (c : Conn ItemOut) → v.conns k ≡ Some c → AllByRecursion (IsForReason (has v.here k)) (down_whole c.wires)
each_word v kept k c is =
    let conn = kept.conns k c is in
    let works = has v.here k in
    subst (AreForReason works) (sym conn.at.down)
    (all_append (IsForReason works) (down_of conn.stage) (tail_of c.ending) (of_row works conn.stage) (of_end works c.ending conn.piped.fair))

pub words_here : (s : WireView) (W : ByteWorld) (x : sessions.AppWorld) → Simulates s W x → (i : ℕ) (o : Owned) → slice_get (owned_of s) i ≡ Some o → HasWords s W i o
words_here s W x beside i o owned =
    let dr = beside.runs.simulation.devices i o owned in
    let reached : LinkReached dr.view = prompt_runs awaits dr.view dr.prompt in
    record {
      items = beside.items;
      encodes = beside.encodes;
      logins = dr.logins;
      view = dr.view;
      reached = reached;
      represents = dr.represents;
      words = each_word dr.view (link_kept dr.view reached);
    }
