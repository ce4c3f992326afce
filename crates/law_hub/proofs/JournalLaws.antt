-- The journal of several connections is the input of a rerun, which ends with its archives.
use Rattle.std.proofs.Common.{◌≡◌, ℕ, List, [], ◌∷◌, ◌++◌, Result, Ok, Err, ap, sym, ◌∙◌, inr, append_assoc, codes}
use Rattle.std.specs.List.{flat_map}
use Rattle.net_hub.specs.Served.{HasServed}
use Rattle.law_hub.proofs.CarriedRuns.{all_carried}
use Rattle.law_hub.proofs.PutRuns.{outs, puts_are_lines, puts_within, shut_is_lines}
use Rattle.law_hub.proofs.ShownRuns.{none_come}
use Rattle.law_hub.specs.Carried.{ArePutAgain, IsOutOf}
use Rattle.cmd_journal.proofs.Again.{rerun_again}
use Rattle.cmd_journal.specs.Journals.{InputView, Says}
use Rattle.cmd_journal.specs.Reading.{rerun_reading}
use Rattle.cmd_journal.specs.declared.fault.InputFault.{InputFault}
use Rattle.cmd_journal.specs.Texts.{NamedView, OutputView, archive_text, output_text, rerun_text}
use Rattle.net_traits.specs.Links.{LinkView}
use Rattle.net_hub.specs.Records.{run_of_file}
use Rattle.cmd_rerun.specs.Reruns.{archives_after, lines_of, rerun_of}
use Rattle.cmd_rerun.specs.Journaling.{ending_text, journal_text}
use Rattle.law_hub.proofs.JournalInputs.{ending_after, input_is}
use Rattle.law_hub.specs.Again.{EndsAlike, IsRerunOf, rerun_input}

module _ (accounts : List ℕ) (n : ℕ) (told drawn : List ℕ) (old new : List LinkView) (journal : List ℕ) (served : HasServed accounts n told drawn old new journal) where
  abbrev input : InputView
  input = record { accounts = served.file; events = served.is.events }

  abbrev archives : List NamedView
  archives = archives_after input

  abbrev lines : List OutputView
  lines = lines_of (outs served.file served.is.events)

  pub journal_says : Says (rerun_input accounts journal) input
  journal_says = record {
    rest = ending_text served.file.version archives;
    right = record { accounts = served.right; events = served.is.are };
    whole = ap (λ a. rerun_input a journal) served.whole ∙ ap (rerun_input _) served.is.journal ∙ input_is served.file input.events;
    follows = inr (ending_after served.file.version [] served.file.accounts _ served.right.accounts);
  }

  pub journal_read : rerun_reading (rerun_input accounts journal) ≡ Ok input
  journal_read = rerun_again (rerun_input accounts journal) input journal_says

  -- a text says one input
  abbrev from_ok : Result InputView InputFault → InputView
  from_ok (Ok found) = found
  from_ok (Err fault) = input

  one_input : (other : InputView) → Says (rerun_input accounts journal) other → other ≡ input
  one_input other says = ap from_ok (sym (rerun_again (rerun_input accounts journal) other says) ∙ journal_read)

  answer_is : (again : List ℕ) → IsRerunOf (rerun_input accounts journal) again → again ≡ rerun_of input
  answer_is again (other, says, is) = is ∙ ap rerun_of (one_input other says)

  text_is : rerun_of input ≡ codes "xmpp-rerun 1" ++ 10 ∷ (flat_map output_text lines ++ ending_text served.file.version archives)
  unfolding rerun_of rerun_text
  text_is = regroup (codes "xmpp-rerun 1") (flat_map output_text lines) (flat_map (archive_text served.file.version) archives) (codes "end")
    where
      regroup : (h l a e : List ℕ) → (h ++ 10 ∷ l ++ a ++ e ++ 10 ∷ []) ≡ h ++ 10 ∷ (l ++ (a ++ e ++ 10 ∷ []))
      regroup h l a e = simp append_assoc

  pub ends_alike : (again : List ℕ) → IsRerunOf (rerun_input accounts journal) again → EndsAlike journal again
  unfolding journal_text
  ends_alike again is = record {
    version = served.file.version;
    events = input.events;
    lines = lines;
    archives = archives;
    journal_is = served.is.journal;
    again_is = answer_is again is ∙ text_is;
  }

  pub put_out : (again : List ℕ) → IsRerunOf (rerun_input accounts journal) again → IsOutOf (run_of_file served.file served.is.events).outs again
  put_out again is = record {
    version = served.file.version;
    lines = lines;
    archives = archives;
    again_is = answer_is again is ∙ text_is;
    puts = λ k. sym (puts_are_lines served.file input.events k);
    shut = shut_is_lines served.file input.events;
  }

  pub put_again : (again : List ℕ) → IsRerunOf (rerun_input accounts journal) again → ArePutAgain n old new journal again
  unfolding journal_text
  put_again again is = record {
    version = served.file.version;
    events = input.events;
    lines = lines;
    archives = archives;
    links = served.is.links;
    journal_is = served.is.journal;
    again_is = answer_is again is ∙ text_is;
    given = served.is.given;
    many = served.is.many;
    within = puts_within served.file input.events n (λ k outside. none_come k input.events (served.is.others k outside));
    carried = all_carried served.file input.events 1 served.is.links served.is.served;
  }
