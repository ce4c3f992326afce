-- When each answer comes, and the text that is due with it.
use Rattle.std.specs.Prelude.{◌≡◌, ◌≢◌, ◌⊎◌, ◌++◌, ℕ, ◌<◌, ◌≤◌, ◌==◌, Bool, true, false, ◌||◌, List, length, map, Option, Some, None, Ok, Err, IfSome, IsOk, IsSomeAnd}
use Rattle.std.specs.Bool.{MatchBool}
use Rattle.std.specs.Io.KnownBytes.{IsAtEnd}
use Rattle.xml_check.specs.Checked.{told}
use Rattle.xml_framer.specs.Limits.{server_limits}
use Rattle.law_commands.specs.Checks.{IsToldOf}
use Rattle.law_commands.specs.OfWorlds.{IsOfWorlds}
use Rattle.base_io.specs.Counts.{Quiet, Rose}
use Rattle.base_io.specs.declared.whole_reads.TheConstants.{MOST_BYTES_READ}
use Rattle.cmd_generate.specs.Generated.{generated}
use Rattle.cmd_generate.specs.Summary.{summary_of}
use Rattle.cmd_direct.specs.Direct.{direct_report}
use Rattle.cmd_direct.specs.History.{direct_history}
use Rattle.cmd_schedule.specs.Kinds.{InGrammar, IsSchedule, schedule_text}
use Rattle.cmd_report.specs.LawfulRuns.{KeepsLaws}
use Rattle.cmd_schedule.specs.WireGrammar.{IsWireSchedule}
use Rattle.cmd_schedule.specs.WireReading.{reading}
use Rattle.cmd_report.specs.ReportText.{text_of}
use Rattle.cmd_report.specs.Reports.{ReportView}
use Rattle.sim_7_schedules.specs.ShownWorlds.{shown_of}
use Rattle.cmd_schedule.specs.Schedules.{ScheduleView, WireView, seen_of}
use Rattle.cmd_journal.specs.AccountsFiles.{AccountsView, IsAccountsFile, accounts_text}
use Rattle.cmd_journal.specs.Journals.{InputView, Says}
use Rattle.cmd_journal.specs.Reading.{accounts_reading, rerun_reading}
use Rattle.cmd_journal.specs.declared.fault.InputFault.TheVariants as inputs
use Rattle.cmd_rerun.specs.Reruns.{SaysRun, rerun_of}
use Rattle.cmd_sync.specs.ScriptReading.{script_reading}
use Rattle.cmd_sync.specs.declared.script_fault.ScriptFault.TheVariants as scripts
use Rattle.net_hub.specs.Served.{HasServed}
use Rattle.net_hub.specs.GivenLinks.{AreFewer}
use Rattle.net_traits.specs.ToldSince.{ToldSince}
use Rattle.cmd_sync.specs.Syncs.{IsSynced, IsUnsynced}
use Rattle.cmd_sync.specs.declared.failure.LinkFailure.{LinkFailure}
use Rattle.cmd_sync.specs.declared.failure.PeerFailure.{PeerFailure}
use Rattle.cmd_sync.specs.declared.sync_fault.SyncFault.{SyncFault}
use Rattle.cmd_sync.specs.declared.sync_fault.SyncFault.TheVariants as syncs
use Rattle.cmd_schedule.specs.declared.fault.LineWhy.{LineWhy}
use Rattle.cmd_schedule.specs.declared.fault.ScheduleFault.TheVariants.{BadLine}
use Rattle.cmd_schedule.specs.declared.schedule.Schedule.{Schedule}
use Rattle.cmd_schedule.specs.declared.schedule.Schedule.TheVariants.{Direct, Wire}
use Rattle.cmd_world.specs.Histories.{history_of, world_of}
use Rattle.cmd_world.specs.WorldReports.{report_of}
use Rattle.cmd_intents.specs.Files.{FileView, IsIntentFile, reading_intents}
use Rattle.cmd_resolving.specs.Expansion.{as_schedule, watched_end}
use Rattle.cmd_deciding.specs.Texts.{text_of_intents}
use Rattle.cmd_run.specs.Dealings.{AreBack, Dealings, HasTold, IsQuietDialer, IsQuietDoor}
use Rattle.cmd_run.specs.Texts.{words_line, read_fault_line, too_long_line, bad_line, link_fault_line, no_worker_line, entropy_fault_line, peer_line}
use Rattle.cmd_run.specs.Tries.{AreTriedRight}
use Rattle.cmd_run.specs.Words.{reads}
use Rattle.cmd_run.specs.declared.cause.Cause.TheVariants.{Door, Link, Peer}
use Rattle.cmd_run.specs.declared.command.Command.{Command}
use Rattle.cmd_run.specs.declared.command.Command.TheVariants.{Help, Version, Replay, Check, Rerun, Intents, Generate, Serve, Sync}
use Rattle.cmd_run.specs.declared.outcome.Outcome.{Outcome}
use Rattle.cmd_run.specs.declared.outcome.Outcome.TheVariants.{Done, WrongWords, Refused, ReadFault, LinkFault, PeerFault, NoWorker, EntropyFault, TooLong}
use Rattle.cmd_run.specs.declared.texts.TheConstants.{HELP, VERSION}

-- the exit status of each outcome
abbrev pub code_of : Outcome → ℕ
code_of Done = 0
code_of WrongWords = 2
code_of Refused = 3
code_of ReadFault = 4
code_of LinkFault = 7
code_of PeerFault = 8
code_of NoWorker = 9
code_of EntropyFault = 10
code_of TooLong = 11

-- the statuses that there are
abbrev pub is_status : ℕ → Bool
is_status n = n == 0 || n == 2 || n == 3 || n == 4 || n == 5 || n == 6 || n == 7 || n == 8 || n == 9 || n == 10 || n == 11

-- The report is that of the schedule's direct run, keeps the five laws of the schedule's version, and is of the last of that run's
-- worlds.
pub record IsDirectReport (schedule : ScheduleView) (report : ReportView) : Type 0 where
  pub direct : report ≡ direct_report schedule
  pub lawful : KeepsLaws (direct_history schedule) schedule report
  pub worlds : IsOfWorlds (direct_history schedule) schedule report

-- The report is that of the world to which the schedule's lines lead, byte by byte, and keeps the five laws of the schedule's
-- version, over what each world on the way there shows. It is of the last of these worlds: by this the laws speak of some
-- moves, and of the report's archives.
pub record IsWireReport (schedule : WireView) (report : ReportView) : Type 0 where
  pub wire : report ≡ report_of (world_of schedule)
  pub lawful : KeepsLaws (map shown_of (history_of schedule)) (seen_of schedule) report
  pub worlds : IsOfWorlds (map shown_of (history_of schedule)) (seen_of schedule) report

-- a case for each kind of schedule
abbrev pub IsReportOf : Schedule → ReportView → Type 0
IsReportOf (Direct schedule) report = IsDirectReport schedule report
IsReportOf (Wire schedule) report = IsWireReport schedule report

-- The text is the report of one schedule, and the input is that schedule's text.
abbrev pub IsReplayed : List ℕ → List ℕ → Type 0
IsReplayed input text =
    (schedule : Schedule) × (report : ReportView) × IsSchedule schedule × (input ≡ schedule_text schedule)
    × IsReportOf schedule report × (text ≡ text_of report)

-- The text names the first bad line of the input and its reason, and the input is no schedule's text.
abbrev pub IsRefusal : List ℕ → List ℕ → Type 0
IsRefusal input text =
    (line : ℕ) × (reason : LineWhy) × ((reading input ≡ Err (BadLine line reason)) × ¬ (InGrammar input))
    × (text ≡ bad_line line reason)

-- The text is what is told of the input as a stream, sound or not. It is the grammar's: the items, what is unfinished and the
-- fault are those of the grammar of streams and of its table of faults.
abbrev pub IsChecked : Bool → List ℕ → List ℕ → Type 0
IsChecked sound input text =
    ((told input).sound ≡ sound) × (text ≡ (told input).text)
    × IsToldOf server_limits input (record { text = text; sound = sound })

-- The text is what comes of one run that is done again, and the input says that run.
abbrev pub IsRerun : List ℕ → List ℕ → Type 0
IsRerun input text = (run : InputView) × Says input run × (text ≡ rerun_of run)

-- The text names the first bad line of the input and its reason, and the input says no run.
abbrev pub IsRerunRefusal : List ℕ → List ℕ → Type 0
IsRerunRefusal input text =
    (line : ℕ) × (reason : LineWhy) × ((rerun_reading input ≡ Err (inputs.BadLine line reason)) × ¬ (SaysRun input))
    × (text ≡ bad_line line reason)

-- What a file of intents comes to: the report is that of the world to which the lines lead that it stands for, and keeps the
-- five laws of version 2, as that of a schedule does; and its intents are tried right.
pub record IsDecided (file : FileView) (report : ReportView) : Type 0 where
  pub right : IsIntentFile file
  pub of : IsWireReport (as_schedule file) report
  pub tries : AreTriedRight file

-- The text is what one file of intents comes to, its report and what became of its intents, and the input is that file's text.
abbrev pub IsResolved : List ℕ → List ℕ → Type 0
IsResolved input text =
    (file : FileView) × (reading_intents input ≡ Ok file) × IsDecided file (report_of (watched_end file).world)
    × (text ≡ text_of_intents (watched_end file))

-- The text names the first bad line of the input and its reason, and the input is no file of intents.
abbrev pub IsIntentsRefusal : List ℕ → List ℕ → Type 0
IsIntentsRefusal input text =
    (line : ℕ) × (reason : LineWhy) × (reading_intents input ≡ Err (BadLine line reason))
    × (text ≡ bad_line line reason)

-- the summary of the report of the schedule that a number makes, with so many drawn lines
abbrev pub generated_summary : ℕ → ℕ → List ℕ
generated_summary number size = let schedule = generated number size in summary_of schedule (report_of (world_of schedule))

-- The schedule that a number makes is one of the grammar, and the text is the summary of its report, which keeps the laws.
abbrev pub IsSummedUp : ℕ → ℕ → List ℕ → Type 0
IsSummedUp number size text =
    (report : ReportView) × IsWireSchedule (generated number size) × IsWireReport (generated number size) report
    × (text ≡ summary_of (generated number size) report)

-- The text is the journal of a server that served so many connections at the same time, and the input is the text of its
-- accounts. The moments of its events and the bytes drawn for them are all that were told and drawn in the call.
abbrev pub IsServed : List ℕ → ℕ → Dealings → List ℕ → Type 0
IsServed input connections dealt text =
    IsSomeAnd dealt.before.door (λ old. IsSomeAnd dealt.following.door (λ new.
    ToldSince dealt.before.told dealt.before.drawn dealt.following.told dealt.following.drawn (λ told drawn.
    HasServed input connections told drawn old.given new.given text)))

-- some accounts have this text
abbrev pub SaysAccounts : List ℕ → Type 0
SaysAccounts input = (file : AccountsView) × IsAccountsFile file × (input ≡ accounts_text file)

-- The text names the first bad line of the input and its reason, and the input is no accounts' text.
abbrev pub IsAccountsRefusal : List ℕ → List ℕ → Type 0
IsAccountsRefusal input text =
    (line : ℕ) × (reason : LineWhy) × ((accounts_reading input ≡ Err (inputs.BadLine line reason)) × ¬ (SaysAccounts input))
    × (text ≡ bad_line line reason)

-- The text is the log of a client that did the script whose text the input is.
abbrev pub HasSynced : List ℕ → Dealings → List ℕ → Type 0
HasSynced input dealt text =
    IsSynced input dealt.before.drawn dealt.following.drawn dealt.before.dialer dealt.following.dialer text

-- The text names the first bad line of the input and its reason, and the input is no script's text.
abbrev pub IsScriptRefusal : List ℕ → List ℕ → Type 0
IsScriptRefusal input text =
    (line : ℕ) × (reason : LineWhy) × (script_reading input ≡ Err (scripts.BadLine line reason))
    × (text ≡ bad_line line reason)

-- Why the script was not done whose text the input is.
abbrev pub IsStopped : List ℕ → Dealings → SyncFault → Type 0
IsStopped input dealt fault =
    IsUnsynced input dealt.before.drawn dealt.following.drawn dealt.before.dialer dealt.following.dialer fault

-- A case for each command: the text where it was done.
abbrev pub IsDone : Command → List ℕ → Dealings → List ℕ → Type 0
IsDone Help input dealt text = text ≡ HELP.now
IsDone Version input dealt text = text ≡ VERSION.now
IsDone Replay input dealt text = IsReplayed input text
IsDone Check input dealt text = IsChecked true input text
IsDone Rerun input dealt text = IsRerun input text
IsDone Intents input dealt text = IsResolved input text
IsDone (Generate number size) input dealt text = (text ≡ generated_summary number size) × IsSummedUp number size text
IsDone (Serve port connections) input dealt text = AreBack dealt × IsServed input connections dealt text
IsDone (Sync port) input dealt text = HasSynced input dealt text

-- A case for each command that can refuse its input: the text where it does.
abbrev pub IsRefused : Command → List ℕ → Dealings → List ℕ → Type 0
IsRefused Replay input dealt text = IsRefusal input text
IsRefused Check input dealt text = IsChecked false input text
IsRefused Rerun input dealt text = IsRerunRefusal input text
IsRefused Intents input dealt text = IsIntentsRefusal input text
IsRefused (Serve port connections) input dealt text = AreBack dealt × IsAccountsRefusal input text
IsRefused (Sync port) input dealt text = IsScriptRefusal input text
IsRefused command input dealt text = ⊥

-- A case for each command that can refuse its input: which inputs it doesn't refuse.
abbrev pub Accepts : Command → List ℕ → Type 0
Accepts Replay input = InGrammar input
Accepts Check input = (told input).sound ≡ true
Accepts Rerun input = SaysRun input
Accepts Intents input = IsOk (reading_intents input)
Accepts (Serve port connections) input = SaysAccounts input
Accepts (Sync port) input = IsOk (script_reading input)
Accepts command input = Unit {0}

-- The door failed before so many links came back to it.
abbrev pub HasDoorFailed : ℕ → Dealings → Type 0
HasDoorFailed connections dealt =
    IsSomeAnd dealt.before.door (λ old. IsSomeAnd dealt.following.door (λ new.
    Rose old.faults new.faults × (connections ≢ 0 → AreFewer connections old.given new.given)))

-- A case for each command that goes out: a link or the door failed, and which it was is told.
abbrev pub HasLinkFailed : Command → List ℕ → Dealings → Type 0
HasLinkFailed (Serve port connections) input dealt = AreBack dealt × HasDoorFailed connections dealt × HasTold Door dealt
HasLinkFailed (Sync port) input dealt = (failure : LinkFailure) × IsStopped input dealt (syncs.Link failure) × HasTold (Link failure) dealt
HasLinkFailed command input dealt = ⊥

-- The server has to answer for it, the text names what it did, and it is told.
abbrev pub HasPeerFailed : Command → List ℕ → Dealings → List ℕ → Type 0
HasPeerFailed (Sync port) input dealt text = (failure : PeerFailure) × IsStopped input dealt (syncs.Peer failure) × (text ≡ peer_line failure) × HasTold (Peer failure) dealt
HasPeerFailed command input dealt text = ⊥

-- A thread could not be started.
abbrev pub HasNoWorker : Command → Dealings → Type 0
HasNoWorker (Serve port connections) dealt = Rose dealt.before.starts dealt.following.starts
HasNoWorker command dealt = ⊥

-- No random bytes were drawn.
abbrev pub HasEntropyFailed : Command → Dealings → Type 0
HasEntropyFailed (Serve port connections) dealt = Rose dealt.before.draws dealt.following.draws
HasEntropyFailed (Sync port) dealt = Rose dealt.before.draws dealt.following.draws
HasEntropyFailed command dealt = ⊥

-- what a command makes of its input
abbrev pub IsAnswer : Command → List ℕ → Dealings → Outcome → List ℕ → Type 0
IsAnswer command input dealt Done text = IsDone command input dealt text
IsAnswer command input dealt Refused text = IsRefused command input dealt text
IsAnswer command input dealt LinkFault text = HasLinkFailed command input dealt × (text ≡ link_fault_line)
IsAnswer command input dealt PeerFault text = HasPeerFailed command input dealt text
IsAnswer command input dealt NoWorker text = HasNoWorker command dealt × (text ≡ no_worker_line)
IsAnswer command input dealt EntropyFault text = HasEntropyFailed command dealt × (text ≡ entropy_fault_line)
IsAnswer command input dealt outcome text = ⊥

-- What the source gave was read to its end, and is no more than the bound. Where the source tells what it had left before, that is
-- what it gave; `left` is what it has left still.
pub record IsReadWhole (input : List ℕ) (ahead left : Option (List ℕ)) : Type 0 where
  pub all : IfSome ahead (λ bytes. input ≡ bytes)
  pub ended : IsAtEnd left
  pub short : length input ≤ MOST_BYTES_READ

-- the source gave more than the bound, and so had more left, where it tells that
pub record IsTooLong (input : List ℕ) (ahead : Option (List ℕ)) : Type 0 where
  pub given : MOST_BYTES_READ < length input
  pub all : IfSome ahead (λ bytes. MOST_BYTES_READ < length bytes)

-- What is due of a command with an outcome, where `input` is what the source gave in the call, and `rose` says that its count of
-- faults rose. Where it was not read to its end, the outside is as it was.
abbrev pub IsDueOf : Command → List ℕ → Option (List ℕ) → Option (List ℕ) → Type 0 → Dealings → Outcome → List ℕ → Type 0
IsDueOf command input ahead left rose dealt ReadFault text =
    (reads (Some command) ≡ true) × rose × (text ≡ read_fault_line) × (dealt.following ≡ dealt.before)
IsDueOf command input ahead left rose dealt TooLong text =
    (reads (Some command) ≡ true) × IsTooLong input ahead × (text ≡ too_long_line) × (dealt.following ≡ dealt.before)
IsDueOf command input ahead left rose dealt outcome text =
    IsAnswer command input dealt outcome text × (reads (Some command) ≡ true → IsReadWhole input ahead left)

-- what is due with an outcome, by the command that the words ask for, where they ask for one
abbrev pub Due : Option Command → List ℕ → Option (List ℕ) → Option (List ℕ) → Type 0 → Dealings → Outcome → List ℕ → Type 0
Due (Some command) input ahead left rose dealt outcome text = IsDueOf command input ahead left rose dealt outcome text
Due None input ahead left rose dealt WrongWords text = text ≡ words_line
Due None input ahead left rose dealt outcome text = ⊥

-- no server has to answer for anything
abbrev pub IsBlameless : Command → List ℕ → Dealings → Type 0
IsBlameless (Sync port) input dealt = (failure : PeerFailure) → ¬ (IsStopped input dealt (syncs.Peer failure))
IsBlameless command input dealt = Unit {0}

-- the outcome that an input must have
abbrev pub MustEnd : Command → List ℕ → Dealings → Outcome → Type 0
MustEnd command input dealt Done = (length input ≤ MOST_BYTES_READ) × Accepts command input × IsBlameless command input dealt
MustEnd command input dealt Refused = (length input ≤ MOST_BYTES_READ) × ¬ (Accepts command input)
MustEnd command input dealt TooLong = MOST_BYTES_READ < length input
MustEnd command input dealt outcome = ⊥

-- A case for each command that goes out: what it has to do with did not fail.
abbrev pub IsQuiet : Command → Dealings → Type 0
IsQuiet (Serve port connections) dealt =
    IsQuietDoor dealt × Quiet dealt.before.draws dealt.following.draws × Quiet dealt.before.starts dealt.following.starts
IsQuiet (Sync port) dealt = IsQuietDialer dealt × Quiet dealt.before.draws dealt.following.draws
IsQuiet command dealt = Unit {0}

-- the input of a call: what the source gave in it, and what it had left before, where it tells that
abbrev pub IsInput : List ℕ → List ℕ → Option (List ℕ) → List ℕ → Type 0
IsInput given_before given_now ahead input = (given_now ≡ given_before ++ input) ⊎ (ahead ≡ Some input)

-- The converse of what is due: the outcome that there must be, where memory suffices and no write of it failed.
-- `nothing_failed` says that no read failed.
abbrev pub MustAnswer : Option Command → List ℕ → Type 0 → Dealings → Outcome → Type 0
MustAnswer None input nothing_failed dealt outcome = outcome ≡ WrongWords
MustAnswer (Some command) input nothing_failed dealt outcome =
    MatchBool (reads (Some command)) (nothing_failed × IsQuiet command dealt × MustEnd command input dealt outcome) (outcome ≡ Done)
