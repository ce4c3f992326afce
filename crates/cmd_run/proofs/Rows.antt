-- What the clauses `answered` and `exactly` of `run` say of each status and command, one by one.
use Rattle.std.proofs.Common.{◌≡◌, ◌≢◌, Bool, true, false, ℕ, ◌<◌, ◌≤◌, subst, List, length, Option, Some, None, Ok, Err, IfSome, IsOk, IsTrue, ◌⊎◌, inl, inr, refl, ◌∙◌, sym, arith}
use Rattle.std.proofs.lemmas.Bool.Decides.{eqb_tells, nat_tests}
use Rattle.std.specs.Io.KnownBytes.{IsAtEnd}
use Rattle.base_io.specs.declared.whole_reads.TheConstants.{MOST_BYTES_READ}
use Rattle.law_commands.specs.Checks.{IsToldOf}
use Rattle.xml_check.specs.Checked.{told}
use Rattle.xml_framer.specs.Limits.{server_limits}
use Rattle.cmd_journal.specs.Journals.{InputView, Says}
use Rattle.cmd_journal.specs.declared.fault.InputFault.TheVariants as inputs
use Rattle.cmd_rerun.specs.Reruns.{SaysRun, rerun_of}
use Rattle.cmd_schedule.specs.Kinds.{InGrammar}
use Rattle.cmd_schedule.specs.declared.fault.LineWhy.{LineWhy}
use Rattle.cmd_run.specs.Texts.{words_line, read_fault_line, too_long_line, bad_line, link_fault_line, no_worker_line, entropy_fault_line, peer_line}
use Rattle.cmd_intents.specs.Files.{FileView, reading_intents}
use Rattle.cmd_journal.specs.Reading.{rerun_reading}
use Rattle.cmd_resolving.specs.Expansion.{watched_end}
use Rattle.cmd_deciding.specs.Texts.{text_of_intents}
use Rattle.cmd_world.specs.WorldReports.{report_of}
use Rattle.cmd_sync.specs.ScriptReading.{script_reading}
use Rattle.cmd_sync.specs.declared.failure.LinkFailure.{LinkFailure}
use Rattle.cmd_sync.specs.declared.failure.PeerFailure.{PeerFailure}
use Rattle.cmd_sync.specs.declared.sync_fault.SyncFault.TheVariants as syncs
use Rattle.base_io.specs.Counts.{Rose, Quiet}
use Rattle.base_io.specs.Given.{Gave}
use Rattle.cmd_run.specs.Dealings.{AreBack, Dealings, HasTold, IsQuietDialer, IsQuietDoor}
use Rattle.cmd_run.specs.declared.cause.Cause.TheVariants.{Door, Link, Peer}
use Rattle.cmd_run.specs.Words.{goes_out, reads}
use Rattle.cmd_run.specs.Table.{code_of, is_status, Due, HasDoorFailed, HasSynced, IsAccountsRefusal, IsDecided, IsInput, IsIntentsRefusal, IsRefusal, IsScriptRefusal, IsServed, IsStopped, IsTooLong, MustAnswer, SaysAccounts}
use Rattle.cmd_run.specs.declared.command.Command.{Command}
use Rattle.cmd_run.specs.declared.command.Command.TheVariants.{Help, Version, Replay, Check, Rerun, Intents, Generate, Serve, Sync}
use Rattle.cmd_run.specs.declared.outcome.Outcome.{Outcome}
use Rattle.cmd_run.specs.declared.outcome.Outcome.TheVariants.{Done, WrongWords, Refused, ReadFault, LinkFault, PeerFault, NoWorker, EntropyFault, TooLong}
use Rattle.cmd_run.specs.declared.texts.TheConstants.{HELP, VERSION}

-- what was told of a stream, and is the grammar's
told_of : (whether : Bool) (text stream : List ℕ) → (told stream).sound ≡ whether → text ≡ (told stream).text → IsToldOf server_limits stream (record { text = text; sound = whether }) → IsToldOf server_limits stream (told stream)
told_of whether text stream sound is of =
    subst (λ b. IsToldOf server_limits stream (record { text = (told stream).text; sound = b })) (sym sound)
    (subst (λ t. IsToldOf server_limits stream (record { text = t; sound = whether })) is of)

module _ (before now : List ℕ) (ahead left : Option (List ℕ)) (rose nothing_failed still : Type 0) (dealt : Dealings) (Written : List ℕ → Type 0) (result : ℕ) where
  abbrev Answered : Option Command → Type 0
  Answered command = (outcome : Outcome) → result ≡ code_of outcome → Gave before now (λ input. (text : List ℕ) × Due command input ahead left rose dealt outcome text × Written text)

  abbrev Exactly : Option Command → Type 0
  Exactly command = (outcome : Outcome) (input : List ℕ) → IsInput before now ahead input → MustAnswer command input nothing_failed dealt outcome → still → (result ≡ code_of outcome) ⊎ (result ≡ 6)

  done_help : (command : Option Command) → Answered command → result ≡ 0 → command ≡ Some Help
      → Written HELP.now
  done_help command answer zero e =
      let gave = answer Done zero in
      let (text, due, out) = gave.such in
      subst Written (subst (λ c. Due c gave.bytes ahead left rose dealt Done text) e due).0 out

  done_version : (command : Option Command) → Answered command → result ≡ 0 → command ≡ Some Version
      → Written VERSION.now
  done_version command answer zero e =
      let gave = answer Done zero in
      let (text, due, out) = gave.such in
      subst Written (subst (λ c. Due c gave.bytes ahead left rose dealt Done text) e due).0 out

  done_check : (command : Option Command) → Answered command → result ≡ 0 → command ≡ Some Check → Gave before now (λ input.
      IfSome ahead (λ all. input ≡ all) × IsAtEnd left × ((told input).sound ≡ true) × IsToldOf server_limits input (told input) × Written (told input).text)
  done_check command answer zero e =
      let gave = answer Done zero in
      let (text, due, out) = gave.such in
      let ((sound, text_is, of), whole) = subst (λ c. Due c gave.bytes ahead left rose dealt Done text) e due in
      record { bytes = gave.bytes; grown = gave.grown; such = ((whole refl).all, (whole refl).ended, sound, told_of _ text gave.bytes sound text_is of, subst Written text_is out) }

  refused_check : (command : Option Command) → Answered command → result ≡ 3 → command ≡ Some Check → Gave before now (λ input.
      IfSome ahead (λ all. input ≡ all) × IsAtEnd left × ((told input).sound ≡ false) × IsToldOf server_limits input (told input) × Written (told input).text)
  refused_check command answer three e =
      let gave = answer Refused three in
      let (text, due, out) = gave.such in
      let ((sound, text_is, of), whole) = subst (λ c. Due c gave.bytes ahead left rose dealt Refused text) e due in
      record { bytes = gave.bytes; grown = gave.grown; such = ((whole refl).all, (whole refl).ended, sound, told_of _ text gave.bytes sound text_is of, subst Written text_is out) }

  refused : (command : Option Command) → Answered command → result ≡ 3 → command ≡ Some Replay → Gave before now (λ input.
      IfSome ahead (λ all. input ≡ all) × IsAtEnd left × ((text : List ℕ) × IsRefusal input text × Written text))
  refused command answer three e =
      let gave = answer Refused three in
      let (text, due, out) = gave.such in
      let (refusal, whole) = subst (λ c. Due c gave.bytes ahead left rose dealt Refused text) e due in
      record { bytes = gave.bytes; grown = gave.grown; such = ((whole refl).all, (whole refl).ended, (text, refusal, out)) }

  done_rerun : (command : Option Command) → Answered command → result ≡ 0 → command ≡ Some Rerun → Gave before now (λ input.
      IfSome ahead (λ all. input ≡ all) × IsAtEnd left × ((run : InputView) × Says input run × Written (rerun_of run)))
  done_rerun command answer zero e =
      let gave = answer Done zero in
      let (text, due, out) = gave.such in
      let ((run, says, text_is), whole) = subst (λ c. Due c gave.bytes ahead left rose dealt Done text) e due in
      record { bytes = gave.bytes; grown = gave.grown; such = ((whole refl).all, (whole refl).ended, (run, says, subst Written text_is out)) }

  refused_rerun : (command : Option Command) → Answered command → result ≡ 3 → command ≡ Some Rerun → Gave before now (λ input.
      IfSome ahead (λ all. input ≡ all) × IsAtEnd left × ((line : ℕ) × (reason : LineWhy) × ((rerun_reading input ≡ Err (inputs.BadLine line reason)) × ¬ (SaysRun input)) × Written (bad_line line reason)))
  refused_rerun command answer three e =
      let gave = answer Refused three in
      let (text, due, out) = gave.such in
      let ((line, reason, why, text_is), whole) = subst (λ c. Due c gave.bytes ahead left rose dealt Refused text) e due in
      record { bytes = gave.bytes; grown = gave.grown; such = ((whole refl).all, (whole refl).ended, (line, reason, why, subst Written text_is out)) }

  done_intents : (command : Option Command) → Answered command → result ≡ 0 → command ≡ Some Intents → Gave before now (λ input.
      IfSome ahead (λ all. input ≡ all) × IsAtEnd left × ((file : FileView) × (reading_intents input ≡ Ok file) × IsDecided file (report_of (watched_end file).world) × Written (text_of_intents (watched_end file))))
  done_intents command answer zero e =
      let gave = answer Done zero in
      let (text, due, out) = gave.such in
      let ((file, said, decided, text_is), whole) = subst (λ c. Due c gave.bytes ahead left rose dealt Done text) e due in
      record { bytes = gave.bytes; grown = gave.grown; such = ((whole refl).all, (whole refl).ended, (file, said, decided, subst Written text_is out)) }

  refused_intents : (command : Option Command) → Answered command → result ≡ 3 → command ≡ Some Intents → Gave before now (λ input.
      IfSome ahead (λ all. input ≡ all) × IsAtEnd left × ((text : List ℕ) × IsIntentsRefusal input text × Written text))
  refused_intents command answer three e =
      let gave = answer Refused three in
      let (text, due, out) = gave.such in
      let (refusal, whole) = subst (λ c. Due c gave.bytes ahead left rose dealt Refused text) e due in
      record { bytes = gave.bytes; grown = gave.grown; such = ((whole refl).all, (whole refl).ended, (text, refusal, out)) }

  done_serve : (port connections : ℕ) (command : Option Command) → Answered command → result ≡ 0 → command ≡ Some (Serve port connections) → Gave before now (λ input.
      IfSome ahead (λ all. input ≡ all) × IsAtEnd left × AreBack dealt × ((text : List ℕ) × IsServed input connections dealt text × Written text))
  done_serve port connections command answer zero e =
      let gave = answer Done zero in
      let (text, due, out) = gave.such in
      let ((back, served), whole) = subst (λ c. Due c gave.bytes ahead left rose dealt Done text) e due in
      record { bytes = gave.bytes; grown = gave.grown; such = ((whole refl).all, (whole refl).ended, back, (text, served, out)) }

  done_sync : (port : ℕ) (command : Option Command) → Answered command → result ≡ 0 → command ≡ Some (Sync port) → Gave before now (λ input.
      IfSome ahead (λ all. input ≡ all) × IsAtEnd left × ((text : List ℕ) × HasSynced input dealt text × Written text))
  done_sync port command answer zero e =
      let gave = answer Done zero in
      let (text, due, out) = gave.such in
      let (synced, whole) = subst (λ c. Due c gave.bytes ahead left rose dealt Done text) e due in
      record { bytes = gave.bytes; grown = gave.grown; such = ((whole refl).all, (whole refl).ended, (text, synced, out)) }

  refused_serve : (port connections : ℕ) (command : Option Command) → Answered command → result ≡ 3 → command ≡ Some (Serve port connections) → Gave before now (λ input.
      IfSome ahead (λ all. input ≡ all) × IsAtEnd left × AreBack dealt × ((text : List ℕ) × IsAccountsRefusal input text × Written text))
  refused_serve port connections command answer three e =
      let gave = answer Refused three in
      let (text, due, out) = gave.such in
      let ((back, refusal), whole) = subst (λ c. Due c gave.bytes ahead left rose dealt Refused text) e due in
      record { bytes = gave.bytes; grown = gave.grown; such = ((whole refl).all, (whole refl).ended, back, (text, refusal, out)) }

  refused_sync : (port : ℕ) (command : Option Command) → Answered command → result ≡ 3 → command ≡ Some (Sync port) → Gave before now (λ input.
      IfSome ahead (λ all. input ≡ all) × IsAtEnd left × ((text : List ℕ) × IsScriptRefusal input text × Written text))
  refused_sync port command answer three e =
      let gave = answer Refused three in
      let (text, due, out) = gave.such in
      let (refusal, whole) = subst (λ c. Due c gave.bytes ahead left rose dealt Refused text) e due in
      record { bytes = gave.bytes; grown = gave.grown; such = ((whole refl).all, (whole refl).ended, (text, refusal, out)) }

  -- 7 is of `serve` and `sync` alone
  link_serve : (port connections : ℕ) (command : Option Command) → Answered command → result ≡ 7 → command ≡ Some (Serve port connections)
      → AreBack dealt × HasDoorFailed connections dealt × HasTold Door dealt × Written link_fault_line
  link_serve port connections command answer seven e =
      let gave = answer LinkFault seven in
      let (text, due, out) = gave.such in
      let ((back, failed, cause), text_is) = (subst (λ c. Due c gave.bytes ahead left rose dealt LinkFault text) e due).0 in
      (back, failed, cause, subst Written text_is out)

  link_sync : (port : ℕ) (command : Option Command) → Answered command → result ≡ 7 → command ≡ Some (Sync port) → Gave before now (λ input.
      IfSome ahead (λ all. input ≡ all) × IsAtEnd left × ((failure : LinkFailure) × IsStopped input dealt (syncs.Link failure) × HasTold (Link failure) dealt) × Written link_fault_line)
  link_sync port command answer seven e =
      let gave = answer LinkFault seven in
      let (text, due, out) = gave.such in
      let ((failed, text_is), whole) = subst (λ c. Due c gave.bytes ahead left rose dealt LinkFault text) e due in
      record { bytes = gave.bytes; grown = gave.grown; such = ((whole refl).all, (whole refl).ended, failed, subst Written text_is out) }

  -- 8 is of `sync` alone
  peer_sync : (port : ℕ) (command : Option Command) → Answered command → result ≡ 8 → command ≡ Some (Sync port) → Gave before now (λ input.
      IfSome ahead (λ all. input ≡ all) × IsAtEnd left × ((failure : PeerFailure) × IsStopped input dealt (syncs.Peer failure) × HasTold (Peer failure) dealt × Written (peer_line failure)))
  peer_sync port command answer eight e =
      let gave = answer PeerFault eight in
      let (text, due, out) = gave.such in
      let ((failure, stopped, text_is, cause), whole) = subst (λ c. Due c gave.bytes ahead left rose dealt PeerFault text) e due in
      record { bytes = gave.bytes; grown = gave.grown; such = ((whole refl).all, (whole refl).ended, (failure, stopped, cause, subst Written text_is out)) }

  -- 9 is of `serve` alone
  worker_serve : (port connections : ℕ) (command : Option Command) → Answered command → result ≡ 9 → command ≡ Some (Serve port connections)
      → Rose dealt.before.starts dealt.following.starts × Written no_worker_line
  worker_serve port connections command answer nine e =
      let gave = answer NoWorker nine in
      let (text, due, out) = gave.such in
      let (failed, text_is) = (subst (λ c. Due c gave.bytes ahead left rose dealt NoWorker text) e due).0 in
      (failed, subst Written text_is out)

  entropy_serve : (port connections : ℕ) (command : Option Command) → Answered command → result ≡ 10 → command ≡ Some (Serve port connections)
      → Rose dealt.before.draws dealt.following.draws × Written entropy_fault_line
  entropy_serve port connections command answer ten e =
      let gave = answer EntropyFault ten in
      let (text, due, out) = gave.such in
      let (failed, text_is) = (subst (λ c. Due c gave.bytes ahead left rose dealt EntropyFault text) e due).0 in
      (failed, subst Written text_is out)

  entropy_sync : (port : ℕ) (command : Option Command) → Answered command → result ≡ 10 → command ≡ Some (Sync port)
      → Rose dealt.before.draws dealt.following.draws × Written entropy_fault_line
  entropy_sync port command answer ten e =
      let gave = answer EntropyFault ten in
      let (text, due, out) = gave.such in
      let (failed, text_is) = (subst (λ c. Due c gave.bytes ahead left rose dealt EntropyFault text) e due).0 in
      (failed, subst Written text_is out)

  refused_command : (command : Option Command) → Answered command → result ≡ 3 → reads command ≡ true
  refused_command None answer three = absurd (answer Refused three).such.1
  refused_command (Some Help) answer three = absurd (answer Refused three).such.1.0
  refused_command (Some Version) answer three = absurd (answer Refused three).such.1.0
  refused_command (Some Replay) answer three = refl
  refused_command (Some Check) answer three = refl
  refused_command (Some Rerun) answer three = refl
  refused_command (Some Intents) answer three = refl
  refused_command (Some (Generate number size)) answer three = absurd (answer Refused three).such.1.0
  refused_command (Some (Serve port connections)) answer three = refl
  refused_command (Some (Sync port)) answer three = refl

  words : (command : Option Command) → Answered command → result ≡ 2 → (command ≡ None) × Written words_line
  words None answer two = let (text, due, out) = (answer WrongWords two).such in (refl, subst Written due out)
  words (Some command) answer two = absurd (answer WrongWords two).such.1.0

  read_fault : (command : Option Command) → Answered command → result ≡ 4 → (reads command ≡ true) × rose × Written read_fault_line × (dealt.following ≡ dealt.before)
  read_fault None answer four = absurd (answer ReadFault four).such.1
  read_fault (Some command) answer four = let (text, due, out) = (answer ReadFault four).such in (due.0, due.1, subst Written due.2 out, due.3)

  too_long : (command : Option Command) → Answered command → result ≡ 11
      → (reads command ≡ true) × Gave before now (λ input. IsTooLong input ahead) × Written too_long_line × (dealt.following ≡ dealt.before)
  too_long None answer eleven = absurd (answer TooLong eleven).such.1
  too_long (Some command) answer eleven =
      let gave = answer TooLong eleven in
      let (text, due, out) = gave.such in
      (due.0, record { bytes = gave.bytes; grown = gave.grown; such = due.1 }, subst Written due.2 out, due.3)

  words_only : (command : Option Command) → Answered command → IsTrue (is_status result) → command ≡ None → (result ≡ 2) ⊎ (result ≡ 5) ⊎ (result ≡ 6)
  words_only command answer status e =
      let none : (outcome : Outcome) → outcome ≢ WrongWords → result ≢ code_of outcome = never command answer e in
      elim (eqb_tells result 2) [
        | inl two ↦ inl two.1
        | inr a ↦ elim (eqb_tells result 5) [
          | inl five ↦ inr (inl five.1)
          | inr b ↦ elim (eqb_tells result 6) [
            | inl six ↦ inr (inr six.1)
            | inr c ↦ absurd (left_over status a.1 b.1 c.1 (none Done (λ s. cc)) (none Refused (λ s. cc)) (none ReadFault (λ s. cc)) (none LinkFault (λ s. cc)) (none PeerFault (λ s. cc)) (none NoWorker (λ s. cc)) (none EntropyFault (λ s. cc)) (none TooLong (λ s. cc)))
          ]
        ]
      ]
    where
      never : (command : Option Command) → Answered command → command ≡ None → (outcome : Outcome) → outcome ≢ WrongWords → result ≢ code_of outcome
      never None answer e Done other is = (answer Done is).such.1
      never None answer e WrongWords other is = other refl
      never None answer e Refused other is = (answer Refused is).such.1
      never None answer e ReadFault other is = (answer ReadFault is).such.1
      never None answer e LinkFault other is = (answer LinkFault is).such.1
      never None answer e PeerFault other is = (answer PeerFault is).such.1
      never None answer e NoWorker other is = (answer NoWorker is).such.1
      never None answer e EntropyFault other is = (answer EntropyFault is).such.1
      never None answer e TooLong other is = (answer TooLong is).such.1
      never (Some c) answer e outcome other is = cc

      left_over : IsTrue (is_status result) → result ≢ 2 → result ≢ 5 → result ≢ 6 → result ≢ 0 → result ≢ 3 → result ≢ 4 → result ≢ 7 → result ≢ 8 → result ≢ 9 → result ≢ 10 → result ≢ 11 → ⊥
      left_over status a b c d e f g h i j k = grind (arith, nat_tests)

  complete_help : (command : Option Command) → Exactly command → command ≡ Some Help → still → (input : List ℕ) → IsInput before now ahead input → (result ≡ 0) ⊎ (result ≡ 6)
  complete_help command exactly e quiet input is = exactly Done input is (subst (λ c. MustAnswer c input nothing_failed dealt Done) (sym e) refl) quiet

  complete : (command : Option Command) → Exactly command → command ≡ Some Replay → nothing_failed → still
      → (input : List ℕ) → IsInput before now ahead input → length input ≤ MOST_BYTES_READ → InGrammar input → (result ≡ 0) ⊎ (result ≡ 6)
  complete command exactly e read quiet input is short good = exactly Done input is (subst (λ c. MustAnswer c input nothing_failed dealt Done) (sym e) (read, tt, (short, good, tt))) quiet

  refused_only : (command : Option Command) → Exactly command → command ≡ Some Replay → nothing_failed → still
      → (input : List ℕ) → IsInput before now ahead input → length input ≤ MOST_BYTES_READ → ¬ (InGrammar input) → (result ≡ 3) ⊎ (result ≡ 6)
  refused_only command exactly e read quiet input is short bad = exactly Refused input is (subst (λ c. MustAnswer c input nothing_failed dealt Refused) (sym e) (read, tt, (short, bad))) quiet

  refused_check_only : (command : Option Command) → Exactly command → command ≡ Some Check → nothing_failed → still
      → (input : List ℕ) → IsInput before now ahead input → length input ≤ MOST_BYTES_READ → (told input).sound ≡ false → (result ≡ 3) ⊎ (result ≡ 6)
  refused_check_only command exactly e read quiet input is short bad =
      exactly Refused input is (subst (λ c. MustAnswer c input nothing_failed dealt Refused) (sym e) (read, tt, (short, λ good. let both : true ≡ false = sym good ∙ bad in cc))) quiet

  complete_rerun : (command : Option Command) → Exactly command → command ≡ Some Rerun → nothing_failed → still
      → (input : List ℕ) → IsInput before now ahead input → length input ≤ MOST_BYTES_READ → SaysRun input → (result ≡ 0) ⊎ (result ≡ 6)
  complete_rerun command exactly e read quiet input is short good = exactly Done input is (subst (λ c. MustAnswer c input nothing_failed dealt Done) (sym e) (read, tt, (short, good, tt))) quiet

  refused_rerun_only : (command : Option Command) → Exactly command → command ≡ Some Rerun → nothing_failed → still
      → (input : List ℕ) → IsInput before now ahead input → length input ≤ MOST_BYTES_READ → ¬ (SaysRun input) → (result ≡ 3) ⊎ (result ≡ 6)
  refused_rerun_only command exactly e read quiet input is short bad = exactly Refused input is (subst (λ c. MustAnswer c input nothing_failed dealt Refused) (sym e) (read, tt, (short, bad))) quiet

  complete_intents : (command : Option Command) → Exactly command → command ≡ Some Intents → nothing_failed → still
      → (input : List ℕ) → IsInput before now ahead input → length input ≤ MOST_BYTES_READ → IsOk (reading_intents input) → (result ≡ 0) ⊎ (result ≡ 6)
  complete_intents command exactly e read quiet input is short good = exactly Done input is (subst (λ c. MustAnswer c input nothing_failed dealt Done) (sym e) (read, tt, (short, good, tt))) quiet

  refused_intents_only : (command : Option Command) → Exactly command → command ≡ Some Intents → nothing_failed → still
      → (input : List ℕ) → IsInput before now ahead input → length input ≤ MOST_BYTES_READ → ¬ (IsOk (reading_intents input)) → (result ≡ 3) ⊎ (result ≡ 6)
  refused_intents_only command exactly e read quiet input is short bad = exactly Refused input is (subst (λ c. MustAnswer c input nothing_failed dealt Refused) (sym e) (read, tt, (short, bad))) quiet

  too_long_only : (command : Option Command) → Exactly command → reads command ≡ true → goes_out command ≡ false → nothing_failed → still
      → (input : List ℕ) → IsInput before now ahead input → MOST_BYTES_READ < length input → (result ≡ 11) ⊎ (result ≡ 6)
  too_long_only (Some Replay) exactly e apart read quiet input is long = exactly TooLong input is (read, tt, long) quiet
  too_long_only (Some Check) exactly e apart read quiet input is long = exactly TooLong input is (read, tt, long) quiet
  too_long_only (Some Rerun) exactly e apart read quiet input is long = exactly TooLong input is (read, tt, long) quiet
  too_long_only (Some Intents) exactly e apart read quiet input is long = exactly TooLong input is (read, tt, long) quiet
  too_long_only (Some (Generate number size)) exactly e apart read quiet input is long = absurd cc
  too_long_only (Some Help) exactly e apart read quiet input is long = absurd cc
  too_long_only (Some Version) exactly e apart read quiet input is long = absurd cc
  too_long_only None exactly e apart read quiet input is long = absurd cc
  too_long_only (Some (Serve port connections)) exactly e apart read quiet input is long = absurd cc
  too_long_only (Some (Sync port)) exactly e apart read quiet input is long = absurd cc

  complete_serve : (port connections : ℕ) (command : Option Command) → Exactly command → command ≡ Some (Serve port connections) → nothing_failed → IsQuietDoor dealt
      → Quiet dealt.before.draws dealt.following.draws → Quiet dealt.before.starts dealt.following.starts → still
      → (input : List ℕ) → IsInput before now ahead input → length input ≤ MOST_BYTES_READ → SaysAccounts input → (result ≡ 0) ⊎ (result ≡ 6)
  complete_serve port connections command exactly e read door draws starts quiet input is short good =
      exactly Done input is (subst (λ c. MustAnswer c input nothing_failed dealt Done) (sym e) (read, (door, draws, starts), (short, good, tt))) quiet

  complete_sync : (port : ℕ) (command : Option Command) → Exactly command → command ≡ Some (Sync port) → nothing_failed → IsQuietDialer dealt → Quiet dealt.before.draws dealt.following.draws → still
      → (input : List ℕ) → IsInput before now ahead input → length input ≤ MOST_BYTES_READ → IsOk (script_reading input)
      → ((failure : PeerFailure) → ¬ (IsStopped input dealt (syncs.Peer failure))) → (result ≡ 0) ⊎ (result ≡ 6)
  complete_sync port command exactly e read dialer draws quiet input is short good blameless =
      exactly Done input is (subst (λ c. MustAnswer c input nothing_failed dealt Done) (sym e) (read, (dialer, draws), (short, good, blameless))) quiet
