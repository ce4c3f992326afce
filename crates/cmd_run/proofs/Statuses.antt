-- What is due with a status, and which status there must be.
use Rattle.std.proofs.Common.{◌≡◌, ◌≢◌, Bool, true, false, ap, ℕ, ◌++◌, ◌<◌, ◌≤◌, subst, List, length, Option, Some, None, Result, Ok, IfSome, IsSomeAnd, ◌⊎◌, inl, inr, refl, ◌∙◌, sym, arith}
use Rattle.std.proofs.lemmas.Bool.Decides.{eqb_tells}
use Rattle.std.proofs.lemmas.List.{append_cancel_left}
use Rattle.std.specs.Bool.{MatchBool}
use Rattle.std.specs.Prelude.{◌==◌, if◌then◌else◌, IsOk, is_ok}
use Rattle.std.specs.Io.KnownBytes.{IsAtEnd}
use Rattle.base_io.specs.Counts.{Rose, Quiet}
use Rattle.base_io.specs.Given.{Gave}
use Rattle.base_io.specs.declared.whole_reads.TheConstants.{MOST_BYTES_READ}
use Rattle.xml_check.specs.Checked.{told}
use Rattle.cmd_generate.specs.Generated.{generated}
use Rattle.cmd_generate.specs.Summary.{summary_of}
use Rattle.cmd_report.specs.ReportText.{text_of}
use Rattle.cmd_report.specs.Reports.{ReportView}
use Rattle.cmd_schedule.specs.Kinds.{IsSchedule, schedule_text}
use Rattle.cmd_schedule.specs.WireGrammar.{IsWireSchedule}
use Rattle.cmd_schedule.specs.declared.schedule.Schedule.{Schedule}
use Rattle.cmd_intents.specs.Files.{reading_intents}
use Rattle.cmd_sync.specs.ScriptReading.{script_reading}
use Rattle.cmd_sync.specs.Scripts.{ScriptView}
use Rattle.net_hub.specs.Served.{HasServed}
use Rattle.net_hub.specs.GivenLinks.{AreFewer}
use Rattle.net_traits.specs.ToldSince.{ToldSince}
use Rattle.cmd_run.proofs.Dialers.{link_not_quiet, not_risen}
use Rattle.cmd_run.proofs.Unread.{unread_entropy, unread_link, unread_peer, unread_worker}
use Rattle.cmd_run.specs.Dealings.{Dealings, DoorView}
use Rattle.cmd_run.specs.Words.{reads}
use Rattle.cmd_run.specs.Table.{code_of, Accepts, HasLinkFailed, HasPeerFailed, HasNoWorker, HasEntropyFailed, IsBlameless, IsQuiet, SaysAccounts, IsAnswer, IsDone, IsInput, IsReadWhole, IsRefused, IsReportOf, IsTooLong, IsWireReport, Due, IsDueOf, MustAnswer, MustEnd, generated_summary}
use Rattle.cmd_run.specs.declared.command.Command.{Command}
use Rattle.cmd_run.specs.declared.command.Command.TheVariants.{Help, Version, Replay, Check, Rerun, Intents, Generate, Serve, Sync}
use Rattle.cmd_run.specs.declared.outcome.Outcome.{Outcome}
use Rattle.cmd_run.specs.declared.outcome.Outcome.TheVariants.{Done, WrongWords, Refused, ReadFault, LinkFault, PeerFault, NoWorker, EntropyFault, TooLong}

-- What is known of a call whose status is neither 5 nor 6.
abbrev pub Told : Option Command → List ℕ → List ℕ → Option (List ℕ) → Option (List ℕ) → Type 0 → Dealings → (List ℕ → Type 0) → ℕ → Type 0
Told command before now ahead left rose dealt Written result = result ≢ 5 → result ≢ 6 → (outcome : Outcome) × (result ≡ code_of outcome)
    × Gave before now (λ input. (text : List ℕ) × Due command input ahead left rose dealt outcome text × Written text)

-- what is due was written
pub gave_written : (command : Option Command) (before now : List ℕ) (ahead left : Option (List ℕ)) (rose : Type 0) (dealt : Dealings) (outcome : Outcome) (text : List ℕ) (Written : List ℕ → Type 0)
    → Gave before now (λ input. Due command input ahead left rose dealt outcome text) → Written text
    → Gave before now (λ input. (other : List ℕ) × Due command input ahead left rose dealt outcome other × Written other)
gave_written command before now ahead left rose dealt outcome text Written gave out = record { bytes = gave.bytes; grown = gave.grown; such = (text, gave.such, out) }

-- outcomes have codes of their own, and these are neither 5 nor 6
code_not_5 : (outcome : Outcome) → code_of outcome ≢ 5
code_not_5 Done e = omega arith
code_not_5 WrongWords e = omega arith
code_not_5 Refused e = omega arith
code_not_5 ReadFault e = omega arith
code_not_5 LinkFault e = omega arith
code_not_5 PeerFault e = omega arith
code_not_5 NoWorker e = omega arith
code_not_5 EntropyFault e = omega arith
code_not_5 TooLong e = omega arith

code_not_6 : (outcome : Outcome) → code_of outcome ≢ 6
code_not_6 Done e = omega arith
code_not_6 WrongWords e = omega arith
code_not_6 Refused e = omega arith
code_not_6 ReadFault e = omega arith
code_not_6 LinkFault e = omega arith
code_not_6 PeerFault e = omega arith
code_not_6 NoWorker e = omega arith
code_not_6 EntropyFault e = omega arith
code_not_6 TooLong e = omega arith

abbrev outcome_with : ℕ → Outcome
outcome_with n =
    if n == 0 then Done
    else (if n == 2 then WrongWords
    else (if n == 3 then Refused
    else (if n == 4 then ReadFault
    else (if n == 7 then LinkFault
    else (if n == 8 then PeerFault
    else (if n == 9 then NoWorker
    else (if n == 10 then EntropyFault
    else TooLong)))))))

outcome_back : (outcome : Outcome) → outcome_with (code_of outcome) ≡ outcome
outcome_back Done = refl
outcome_back WrongWords = refl
outcome_back Refused = refl
outcome_back ReadFault = refl
outcome_back LinkFault = refl
outcome_back PeerFault = refl
outcome_back NoWorker = refl
outcome_back EntropyFault = refl
outcome_back TooLong = refl

same_outcome : (a b : Outcome) → code_of a ≡ code_of b → a ≡ b
same_outcome a b e = sym (outcome_back a) ∙ ap outcome_with e ∙ outcome_back b

pub answered : (command : Option Command) (before now : List ℕ) (ahead left : Option (List ℕ)) (rose : Type 0) (dealt : Dealings) (Written : List ℕ → Type 0) (result : ℕ)
    → Told command before now ahead left rose dealt Written result → (outcome : Outcome) → result ≡ code_of outcome
    → Gave before now (λ input. (text : List ℕ) × Due command input ahead left rose dealt outcome text × Written text)
answered command before now ahead left rose dealt Written result answer outcome e =
    let (other, same, gave) = answer (λ five. code_not_5 outcome (sym e ∙ five)) (λ six. code_not_6 outcome (sym e ∙ six)) in
    subst (λ o. Gave before now (λ input. (text : List ℕ) × Due command input ahead left rose dealt o text × Written text)) (same_outcome other outcome (sym same ∙ e)) gave

-- what the source had left before is what it gave
left_is : (ahead : Option (List ℕ)) (input other : List ℕ) → IfSome ahead (λ bytes. input ≡ bytes) → input ≡ other → IfSome ahead (λ bytes. bytes ≡ other)
left_is None input other all e = tt
left_is (Some bytes) input other all e = sym all ∙ e

-- the headline: a report was written
pub replayed : (command : Option Command) (before now : List ℕ) (ahead left : Option (List ℕ)) (rose : Type 0) (dealt : Dealings) (Written : List ℕ → Type 0) (result : ℕ)
    → Told command before now ahead left rose dealt Written result → result ≡ 0 → command ≡ Some Replay
    → (schedule : Schedule) × (report : ReportView) × IsSchedule schedule × (now ≡ before ++ schedule_text schedule)
    × IfSome ahead (λ bytes. bytes ≡ schedule_text schedule) × IsAtEnd left × IsReportOf schedule report × Written (text_of report)
replayed command before now ahead left rose dealt Written result answer zero e =
    let gave = answered command before now ahead left rose dealt Written result answer Done zero in
    let (text, due, out) = gave.such in
    let ((schedule, report, is, spelled, of, text_is), whole) = subst (λ c. Due c gave.bytes ahead left rose dealt Done text) e due in
    (schedule, report, is, gave.grown ∙ ap (λ bytes. before ++ bytes) spelled, left_is ahead gave.bytes (schedule_text schedule) (whole refl).all spelled, (whole refl).ended, of, subst Written text_is out)

-- a summary was written, of a report that keeps the laws
pub summed_up : (command : Option Command) (before now : List ℕ) (ahead left : Option (List ℕ)) (rose : Type 0) (dealt : Dealings) (Written : List ℕ → Type 0) (result number size : ℕ)
    → Told command before now ahead left rose dealt Written result → result ≡ 0 → command ≡ Some (Generate number size)
    → (report : ReportView) × IsWireSchedule (generated number size) × IsWireReport (generated number size) report
    × (generated_summary number size ≡ summary_of (generated number size) report) × Written (generated_summary number size)
summed_up command before now ahead left rose dealt Written result number size answer zero e =
    let gave = answered command before now ahead left rose dealt Written result answer Done zero in
    let (text, due, out) = gave.such in
    let ((text_is, (report, right, of, sum)), whole) = subst (λ c. Due c gave.bytes ahead left rose dealt Done text) e due in
    (report, right, of, sym text_is ∙ sum, subst Written text_is out)

served_accepted : (connections : ℕ) (input : List ℕ) (dealt : Dealings) (old new : Option DoorView) (text : List ℕ)
    → IsSomeAnd old (λ o. IsSomeAnd new (λ n.
    ToldSince dealt.before.told dealt.before.drawn dealt.following.told dealt.following.drawn (λ told drawn. HasServed input connections told drawn o.given n.given text))) → SaysAccounts input
served_accepted connections input dealt None new text served = absurd served
served_accepted connections input dealt (Some o) None text served = absurd served
served_accepted connections input dealt (Some o) (Some n) text served = let is = served.such in (is.file, is.right, is.whole)

file_read : {A E : Type 0} (read : Result A E) (file : A) → read ≡ Ok file → IsOk read
file_read read file is = rw is refl

begun_accepted : (input : List ℕ) (x : ScriptView) → script_reading input ≡ Ok x → IsOk (script_reading input)
begun_accepted input x said = rw said refl

done_accepted : (command : Command) (input : List ℕ) (dealt : Dealings) (text : List ℕ) → IsDone command input dealt text → Accepts command input
done_accepted Help input dealt text done = tt
done_accepted Version input dealt text done = tt
done_accepted Replay input dealt text (schedule, report, is, spelled, of, due) = (schedule, is, spelled)
done_accepted Check input dealt text (sound, due, of) = sound
done_accepted Rerun input dealt text (run, says, due) = (run, says)
done_accepted Intents input dealt text (file, said, decided, due) = file_read (reading_intents input) file said
done_accepted (Generate number size) input dealt text done = tt
done_accepted (Serve port connections) input dealt text served = served_accepted connections input dealt dealt.before.door dealt.following.door text served.1
done_accepted (Sync port) input dealt text synced = begun_accepted input synced.begins.script synced.begins.said

refused_not_accepted : (command : Command) (input text : List ℕ) (dealt : Dealings) → IsRefused command input dealt text → ¬ (Accepts command input)
refused_not_accepted Help input text dealt refused accepts = refused
refused_not_accepted Version input text dealt refused accepts = refused
refused_not_accepted Replay input text dealt (line, reason, why, due) accepts = why.1 accepts
refused_not_accepted Check input text dealt (unsound, due, of) accepts =
    let both : true ≡ false = sym accepts ∙ unsound in cc
refused_not_accepted Rerun input text dealt (line, reason, why, due) accepts = why.1 accepts
refused_not_accepted Intents input text dealt (line, reason, why, due) accepts = let both : false ≡ true = sym (ap (λ r. is_ok r) why) ∙ accepts in cc
refused_not_accepted (Generate number size) input text dealt refused accepts = refused
refused_not_accepted (Serve port connections) input text dealt (back, (line, reason, why, due)) accepts = why.1 accepts
refused_not_accepted (Sync port) input text dealt (line, reason, why, due) accepts = let both : false ≡ true = sym (ap (λ r. is_ok r) why) ∙ accepts in cc

-- a door that is quiet did not fail
door_not_quiet : (connections : ℕ) (dealt : Dealings) (old new : Option DoorView)
    → IfSome old (λ o. IfSome new (λ n. Quiet o.faults n.faults)) → IsSomeAnd old (λ o. IsSomeAnd new (λ n. Rose o.faults n.faults × (connections ≢ 0 → AreFewer connections o.given n.given))) → ⊥
door_not_quiet connections dealt None new quiet failed = failed
door_not_quiet connections dealt (Some o) None quiet failed = failed
door_not_quiet connections dealt (Some o) (Some n) quiet failed = not_risen o.faults n.faults quiet failed.0

quiet_link : (command : Command) (input : List ℕ) (dealt : Dealings) → IsQuiet command dealt → ¬ (HasLinkFailed command input dealt)
quiet_link Help input dealt quiet failed = failed
quiet_link Version input dealt quiet failed = failed
quiet_link Replay input dealt quiet failed = failed
quiet_link Check input dealt quiet failed = failed
quiet_link Rerun input dealt quiet failed = failed
quiet_link Intents input dealt quiet failed = failed
quiet_link (Generate number size) input dealt quiet failed = failed
quiet_link (Serve port connections) input dealt quiet failed = door_not_quiet connections dealt dealt.before.door dealt.following.door quiet.0 failed.1
quiet_link (Sync port) input dealt quiet (failure, stopped, cause) = link_not_quiet failure stopped.start dealt.before.dialer dealt.following.dialer quiet.0.faults quiet.0.ends stopped.untold

quiet_worker : (command : Command) (dealt : Dealings) → IsQuiet command dealt → ¬ (HasNoWorker command dealt)
quiet_worker Help dealt quiet failed = failed
quiet_worker Version dealt quiet failed = failed
quiet_worker Replay dealt quiet failed = failed
quiet_worker Check dealt quiet failed = failed
quiet_worker Rerun dealt quiet failed = failed
quiet_worker Intents dealt quiet failed = failed
quiet_worker (Generate number size) dealt quiet failed = failed
quiet_worker (Serve port connections) dealt quiet failed = not_risen _ _ quiet.2 failed
quiet_worker (Sync port) dealt quiet failed = failed

quiet_entropy : (command : Command) (dealt : Dealings) → IsQuiet command dealt → ¬ (HasEntropyFailed command dealt)
quiet_entropy Help dealt quiet failed = failed
quiet_entropy Version dealt quiet failed = failed
quiet_entropy Replay dealt quiet failed = failed
quiet_entropy Check dealt quiet failed = failed
quiet_entropy Rerun dealt quiet failed = failed
quiet_entropy Intents dealt quiet failed = failed
quiet_entropy (Generate number size) dealt quiet failed = failed
quiet_entropy (Serve port connections) dealt quiet failed = not_risen _ _ quiet.1 failed
quiet_entropy (Sync port) dealt quiet failed = not_risen _ _ quiet.1 failed

-- where no server has to answer for anything, none did
no_peer : (command : Command) (input : List ℕ) (dealt : Dealings) (text : List ℕ) → IsBlameless command input dealt → ¬ (HasPeerFailed command input dealt text)
no_peer Help input dealt text blameless failed = failed
no_peer Version input dealt text blameless failed = failed
no_peer Replay input dealt text blameless failed = failed
no_peer Check input dealt text blameless failed = failed
no_peer Rerun input dealt text blameless failed = failed
no_peer Intents input dealt text blameless failed = failed
no_peer (Generate number size) input dealt text blameless failed = failed
no_peer (Serve port connections) input dealt text blameless failed = failed
no_peer (Sync port) input dealt text blameless (failure, stopped, due, cause) = blameless failure stopped

-- a script that began is one
peer_accepted : (command : Command) (input : List ℕ) (dealt : Dealings) (text : List ℕ) → HasPeerFailed command input dealt text → Accepts command input
peer_accepted Help input dealt text failed = absurd failed
peer_accepted Version input dealt text failed = absurd failed
peer_accepted Replay input dealt text failed = absurd failed
peer_accepted Check input dealt text failed = absurd failed
peer_accepted Rerun input dealt text failed = absurd failed
peer_accepted Intents input dealt text failed = absurd failed
peer_accepted (Generate number size) input dealt text failed = absurd failed
peer_accepted (Serve port connections) input dealt text failed = absurd failed
peer_accepted (Sync port) input dealt text (failure, stopped, due, cause) = begun_accepted input stopped.begins.script stopped.begins.said

-- a command that does not read is done
unread_done : (command : Command) (input : List ℕ) (ahead left : Option (List ℕ)) (rose : Type 0) (dealt : Dealings) (outcome : Outcome) (text : List ℕ)
    → reads (Some command) ≡ false → IsDueOf command input ahead left rose dealt outcome text → outcome ≡ Done
unread_done command input ahead left rose dealt Done text e due = refl
unread_done Help input ahead left rose dealt Refused text e due = absurd due.0
unread_done Version input ahead left rose dealt Refused text e due = absurd due.0
unread_done Replay input ahead left rose dealt Refused text e due = absurd (cc)
unread_done Check input ahead left rose dealt Refused text e due = absurd (cc)
unread_done Rerun input ahead left rose dealt Refused text e due = absurd (cc)
unread_done Intents input ahead left rose dealt Refused text e due = absurd (cc)
unread_done (Generate number size) input ahead left rose dealt Refused text e due = absurd due.0
unread_done (Serve port connections) input ahead left rose dealt Refused text e due = absurd (cc)
unread_done (Sync port) input ahead left rose dealt Refused text e due = absurd (cc)
unread_done command input ahead left rose dealt LinkFault text e due = absurd (unread_link command input dealt e due.0.0)
unread_done command input ahead left rose dealt PeerFault text e due = absurd (unread_peer command input dealt text e due.0)
unread_done command input ahead left rose dealt NoWorker text e due = absurd (unread_worker command dealt e due.0.0)
unread_done command input ahead left rose dealt EntropyFault text e due = absurd (unread_entropy command dealt e due.0.0)
unread_done command input ahead left rose dealt WrongWords text e due = absurd due.0
unread_done command input ahead left rose dealt ReadFault text e due = let both : false ≡ true = sym e ∙ due.0 in absurd (cc)
unread_done command input ahead left rose dealt TooLong text e due = let both : false ≡ true = sym e ∙ due.0 in absurd (cc)

-- a command that reads ends as its input wants it
read_ends : (command : Command) (input : List ℕ) (ahead left : Option (List ℕ)) (rose : Type 0) (dealt : Dealings) (outcome wanted : Outcome) (text : List ℕ)
    → reads (Some command) ≡ true → ¬ rose → IsQuiet command dealt → MustEnd command input dealt wanted → IsDueOf command input ahead left rose dealt outcome text → outcome ≡ wanted
read_ends command input ahead left rose dealt Done Done text e nothing_failed quiet must due = refl
read_ends command input ahead left rose dealt Done Refused text e nothing_failed quiet must due = absurd (must.1 (done_accepted command input dealt text due.0))
read_ends command input ahead left rose dealt Done TooLong text e nothing_failed quiet must due = absurd (omega (arith, must, (due.1 e).short))
read_ends command input ahead left rose dealt Refused Done text e nothing_failed quiet must due = absurd (refused_not_accepted command input text dealt due.0 must.1)
read_ends command input ahead left rose dealt Refused Refused text e nothing_failed quiet must due = refl
read_ends command input ahead left rose dealt Refused TooLong text e nothing_failed quiet must due = absurd (omega (arith, must, (due.1 e).short))
read_ends command input ahead left rose dealt PeerFault Done text e nothing_failed quiet must due = absurd (no_peer command input dealt text must.2 due.0)
read_ends command input ahead left rose dealt PeerFault Refused text e nothing_failed quiet must due = absurd (must.1 (peer_accepted command input dealt text due.0))
read_ends command input ahead left rose dealt PeerFault TooLong text e nothing_failed quiet must due = absurd (omega (arith, must, (due.1 e).short))
read_ends command input ahead left rose dealt TooLong Done text e nothing_failed quiet must due = absurd (omega (arith, must.0, due.1.given))
read_ends command input ahead left rose dealt TooLong Refused text e nothing_failed quiet must due = absurd (omega (arith, must.0, due.1.given))
read_ends command input ahead left rose dealt TooLong TooLong text e nothing_failed quiet must due = refl
read_ends command input ahead left rose dealt ReadFault wanted text e nothing_failed quiet must due = absurd (nothing_failed due.1)
read_ends command input ahead left rose dealt LinkFault wanted text e nothing_failed quiet must due = absurd (quiet_link command input dealt quiet due.0.0)
read_ends command input ahead left rose dealt NoWorker wanted text e nothing_failed quiet must due = absurd (quiet_worker command dealt quiet due.0.0)
read_ends command input ahead left rose dealt EntropyFault wanted text e nothing_failed quiet must due = absurd (quiet_entropy command dealt quiet due.0.0)
read_ends command input ahead left rose dealt WrongWords wanted text e nothing_failed quiet must due = absurd due.0
read_ends command input ahead left rose dealt outcome WrongWords text e nothing_failed quiet must due = absurd must
read_ends command input ahead left rose dealt outcome ReadFault text e nothing_failed quiet must due = absurd must
read_ends command input ahead left rose dealt outcome LinkFault text e nothing_failed quiet must due = absurd must
read_ends command input ahead left rose dealt outcome PeerFault text e nothing_failed quiet must due = absurd must
read_ends command input ahead left rose dealt outcome NoWorker text e nothing_failed quiet must due = absurd must
read_ends command input ahead left rose dealt outcome EntropyFault text e nothing_failed quiet must due = absurd must

-- what was given is the input in each sense
same_input : (before now given input : List ℕ) (ahead : Option (List ℕ)) → IsInput before now ahead input → now ≡ before ++ given → IfSome ahead (λ bytes. given ≡ bytes) → given ≡ input
same_input before now given input ahead (inl is) grown all = append_cancel_left before given input (sym grown ∙ is)
same_input before now given input ahead (inr is) grown all = subst (λ a. IfSome a (λ bytes. given ≡ bytes)) is all

long_input : (before now given input : List ℕ) (ahead : Option (List ℕ)) → IsInput before now ahead input → now ≡ before ++ given → IsTooLong given ahead → MOST_BYTES_READ < length input
long_input before now given input ahead (inl is) grown long = subst (λ bytes. MOST_BYTES_READ < length bytes) (append_cancel_left before given input (sym grown ∙ is)) long.given
long_input before now given input ahead (inr is) grown long = subst (λ a. IfSome a (λ bytes. MOST_BYTES_READ < length bytes)) is long.all

module _ (command : Command) (before now given input : List ℕ) (ahead left : Option (List ℕ)) (rose : Type 0) (dealt : Dealings) (e : reads (Some command) ≡ true)
    (is : IsInput before now ahead input) (grown : now ≡ before ++ given) where
  answer_for : (outcome : Outcome) (text : List ℕ) → IsAnswer command given dealt outcome text × (reads (Some command) ≡ true → IsReadWhole given ahead left)
      → IsAnswer command input dealt outcome text × (reads (Some command) ≡ true → IsReadWhole input None left)
  answer_for outcome text due =
      let whole = due.1 e in
      let same = same_input before now given input ahead is grown whole.all in (
        subst (λ bytes. IsAnswer command bytes dealt outcome text) same due.0,
        λ r. record { all = tt; ended = whole.ended; short = subst (λ bytes. length bytes ≤ MOST_BYTES_READ) same whole.short },
      )

  -- what is due of what was given is due of the input
  due_for : (outcome : Outcome) (text : List ℕ) → IsDueOf command given ahead left rose dealt outcome text → IsDueOf command input None left rose dealt outcome text
  due_for Done text due = answer_for Done text due
  due_for Refused text due = answer_for Refused text due
  due_for LinkFault text due = answer_for LinkFault text due
  due_for PeerFault text due = answer_for PeerFault text due
  due_for NoWorker text due = answer_for NoWorker text due
  due_for EntropyFault text due = answer_for EntropyFault text due
  due_for WrongWords text due = absurd due.0
  due_for ReadFault text due = due
  due_for TooLong text due = (due.0, record { given = long_input before now given input ahead is grown due.1; all = tt }, due.2, due.3)

known_must : (command : Command) (before now given input : List ℕ) (ahead left : Option (List ℕ)) (rose nothing_failed : Type 0) (dealt : Dealings) (outcome wanted : Outcome) (text : List ℕ) → (nothing_failed → ¬ rose)
    → IsInput before now ahead input → now ≡ before ++ given → (test : Bool) → reads (Some command) ≡ test
    → MatchBool test (nothing_failed × IsQuiet command dealt × MustEnd command input dealt wanted) (wanted ≡ Done)
    → IsDueOf command given ahead left rose dealt outcome text → outcome ≡ wanted
known_must command before now given input ahead left rose nothing_failed dealt outcome wanted text still is grown true e must due =
    read_ends command input None left rose dealt outcome wanted text e (still must.0) must.1 must.2 (due_for command before now given input ahead left rose dealt e is grown outcome text due)
known_must command before now given input ahead left rose nothing_failed dealt outcome wanted text still is grown false e must due = unread_done command given ahead left rose dealt outcome text e due ∙ sym must

-- what is due is what must be
must_be : (command : Option Command) (before now given input : List ℕ) (ahead left : Option (List ℕ)) (rose nothing_failed : Type 0) (dealt : Dealings) (outcome wanted : Outcome) (text : List ℕ) → (nothing_failed → ¬ rose)
    → IsInput before now ahead input → now ≡ before ++ given → MustAnswer command input nothing_failed dealt wanted → Due command given ahead left rose dealt outcome text → outcome ≡ wanted
must_be (Some command) before now given input ahead left rose nothing_failed dealt outcome wanted text still is grown must due =
    known_must command before now given input ahead left rose nothing_failed dealt outcome wanted text still is grown (reads (Some command)) refl must due
must_be None before now given input ahead left rose nothing_failed dealt WrongWords wanted text still is grown must due = sym must
must_be None before now given input ahead left rose nothing_failed dealt Done wanted text still is grown must due = absurd due
must_be None before now given input ahead left rose nothing_failed dealt Refused wanted text still is grown must due = absurd due
must_be None before now given input ahead left rose nothing_failed dealt ReadFault wanted text still is grown must due = absurd due
must_be None before now given input ahead left rose nothing_failed dealt LinkFault wanted text still is grown must due = absurd due
must_be None before now given input ahead left rose nothing_failed dealt PeerFault wanted text still is grown must due = absurd due
must_be None before now given input ahead left rose nothing_failed dealt NoWorker wanted text still is grown must due = absurd due
must_be None before now given input ahead left rose nothing_failed dealt EntropyFault wanted text still is grown must due = absurd due
must_be None before now given input ahead left rose nothing_failed dealt TooLong wanted text still is grown must due = absurd due

pub exactly : (command : Option Command) (before now : List ℕ) (ahead left : Option (List ℕ)) (rose nothing_failed : Type 0) (dealt : Dealings) (Written : List ℕ → Type 0) (result : ℕ) (input : List ℕ) (wanted : Outcome)
    → (nothing_failed → ¬ rose) → result ≢ 5 → IsInput before now ahead input → MustAnswer command input nothing_failed dealt wanted → Told command before now ahead left rose dealt Written result
    → (result ≡ code_of wanted) ⊎ (result ≡ 6)
exactly command before now ahead left rose nothing_failed dealt Written result input wanted still written is must answer =
    elim (eqb_tells result 6) [
      | inl six ↦ inr six.1
      | inr other ↦ (
          let (outcome, same, gave) = answer written other.1 in
          let (text, due, out) = gave.such in
          inl (same ∙ ap code_of (must_be command before now gave.bytes input ahead left rose nothing_failed dealt outcome wanted text still is gave.grown must due)))
    ]
