-- What a file of intents comes to, by the laws, and what is answered to it.
use Rattle.std.proofs.Common.{◌≡◌, ℕ, Bool, true, false, List, [], map, Result, Ok, Err, refl, sym, ap, subst, inr, ◌∙◌}
use Rattle.std.specs.Prelude.{is_ok}
use Rattle.cmd_intents.proofs.Found.{found_of}
use Rattle.cmd_intents.specs.Files.{FileView, IsIntentFile, reading_intents}
use Rattle.cmd_report.specs.LawfulRuns.{KeepsLaws}
use Rattle.cmd_deciding.specs.Answers.{answer_by, answer_of}
use Rattle.cmd_resolving.specs.Expansion.{as_schedule, watched_end}
use Rattle.cmd_deciding.specs.Texts.{text_of_intents}
use Rattle.cmd_schedule.specs.Schedules.{seen_of}
use Rattle.cmd_schedule.specs.declared.fault.LineWhy.{LineWhy}
use Rattle.cmd_schedule.specs.declared.fault.ScheduleFault.{ScheduleFault}
use Rattle.cmd_schedule.specs.declared.fault.ScheduleFault.TheVariants.{BadLine, NoMemory as WantOfMemory}
use Rattle.cmd_world.specs.Histories.{history_of, world_of}
use Rattle.cmd_world.specs.WorldReports.{report_of}
use Rattle.law_commands.specs.OfWorlds.{IsOfWorlds}
use Rattle.sim_7_schedules.specs.ShownWorlds.{shown_of}
use Rattle.cmd_run.specs.Table.{IsDecided, IsIntentsRefusal, IsResolved}
use Rattle.cmd_run.specs.Texts.{bad_line}
use Rattle.cmd_run.specs.Tries.{AreTriedRight}

pub decided : (f : FileView) → IsIntentFile f → (watched_end f).world ≡ world_of (as_schedule f)
    → KeepsLaws (map shown_of (history_of (as_schedule f))) (seen_of (as_schedule f)) (report_of (world_of (as_schedule f)))
    → IsOfWorlds (map shown_of (history_of (as_schedule f))) (seen_of (as_schedule f)) (report_of (world_of (as_schedule f)))
    → AreTriedRight f → IsDecided f (report_of (watched_end f).world)
decided f right same lawful worlds tries =
    let is = ap report_of same in record {
      right = right;
      of = record {
        wire = is;
        lawful = subst (KeepsLaws (map shown_of (history_of (as_schedule f))) (seen_of (as_schedule f))) (sym is) lawful;
        worlds = subst (IsOfWorlds (map shown_of (history_of (as_schedule f))) (seen_of (as_schedule f))) (sym is) worlds;
      };
      tries = tries;
    }

-- what is answered, and why not
abbrev text_in : Result (List ℕ) ScheduleFault → List ℕ
text_in (Ok text) = text
text_in (Err fault) = []

abbrev fault_in : Result (List ℕ) ScheduleFault → ScheduleFault
fault_in (Ok text) = WantOfMemory
fault_in (Err fault) = fault

-- what was read of the text, where a run of it answers a text
resolved_by : (input text : List ℕ) (read : Result FileView ScheduleFault) → read ≡ reading_intents input → answer_by read ≡ Ok text
    → ((f : FileView) → IsIntentFile f → IsDecided f (report_of (watched_end f).world)) → IsResolved input text
resolved_by input text (Ok f) is due law = (f, sym is, law f (found_of input (Ok f) (inr is)), sym (ap text_in due))
resolved_by input text (Err fault) is due law = let both : false ≡ true = ap (λ r. is_ok r) due in absurd (cc)

pub resolved_so : (input text : List ℕ) → answer_of input ≡ Ok text → ((f : FileView) → IsIntentFile f → IsDecided f (report_of (watched_end f).world)) → IsResolved input text
resolved_so input text is law = resolved_by input text (reading_intents input) refl is law

refused_by : (input text : List ℕ) (line : ℕ) (reason : LineWhy) (read : Result FileView ScheduleFault) → read ≡ reading_intents input → answer_by read ≡ Err (BadLine line reason)
    → text ≡ bad_line line reason → IsIntentsRefusal input text
refused_by input text line reason (Err fault) is why due = (line, reason, sym is ∙ ap (λ f. Err f) (ap fault_in why), due)
refused_by input text line reason (Ok f) is why due = let both : true ≡ false = ap (λ r. is_ok r) why in absurd (cc)

pub refused_so : (input text : List ℕ) (line : ℕ) (reason : LineWhy) → answer_of input ≡ Err (BadLine line reason) → text ≡ bad_line line reason → IsIntentsRefusal input text
refused_so input text line reason is due = refused_by input text line reason (reading_intents input) refl is due
