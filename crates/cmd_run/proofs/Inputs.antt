-- What is due of the bytes that the source gave.
use Rattle.std.proofs.Common.{◌≡◌, ◌++◌, [], ℕ, Bool, true, false, ◌<◌, ◌≤◌, List, length, Option, Some, None, Result, Ok, Err, IfOk, IfSome, append-nil, sym, ◌∙◌, subst}
use Rattle.std.specs.Io.KnownBytes.{IsAtEnd}
use Rattle.base_io.specs.Given.{Gave}
use Rattle.base_io.specs.declared.whole_reads.TheConstants.{MOST_BYTES_READ}
use Rattle.law_commands.specs.Checks.{IsToldOf}
use Rattle.xml_check.specs.Checked.{told}
use Rattle.xml_check.specs.Pieces.{told_with}
use Rattle.xml_framer.specs.Limits.{server_limits}
use Rattle.cmd_run.specs.Dealings.{Dealings}
use Rattle.cmd_run.specs.Words.{reads}
use Rattle.cmd_run.specs.Texts.{read_fault_line, too_long_line, words_line}
use Rattle.cmd_run.specs.Table.{IsReadWhole, IsAnswer, IsDueOf, Due}
use Rattle.cmd_run.specs.declared.answer.Answer.{Answer}
use Rattle.cmd_run.specs.declared.command.Command.{Command}
use Rattle.cmd_run.specs.declared.outcome.Outcome.{Outcome}
use Rattle.cmd_run.specs.declared.outcome.Outcome.TheVariants.{Done, WrongWords, Refused, ReadFault, LinkFault, PeerFault, NoWorker, EntropyFault, TooLong}

-- what was told is the grammar's
pub told_so : (text input : List ℕ) (sound whether : Bool) → told_with text sound ≡ told input → sound ≡ whether → IsToldOf server_limits input (told input)
    → IsToldOf server_limits input (record { text = text; sound = whether })
told_so text input sound whether same is of = subst (λ b. IsToldOf server_limits input (told_with text b)) is (subst (IsToldOf server_limits input) (sym same) of)

-- an answer to what was given is due of it, where a command that reads has read the whole
due_of_answer : (command : Command) (input : List ℕ) (ahead left : Option (List ℕ)) (rose : Type 0) (dealt : Dealings) (outcome : Outcome) (text : List ℕ)
    → (reads (Some command) ≡ true → IsReadWhole input ahead left) → IsAnswer command input dealt outcome text → IsDueOf command input ahead left rose dealt outcome text
due_of_answer command input ahead left rose dealt Done text whole answer = (answer, whole)
due_of_answer command input ahead left rose dealt Refused text whole answer = (answer, whole)
due_of_answer command input ahead left rose dealt WrongWords text whole answer = absurd answer
due_of_answer command input ahead left rose dealt ReadFault text whole answer = absurd answer
due_of_answer command input ahead left rose dealt LinkFault text whole answer = (answer, whole)
due_of_answer command input ahead left rose dealt PeerFault text whole answer = (answer, whole)
due_of_answer command input ahead left rose dealt NoWorker text whole answer = (answer, whole)
due_of_answer command input ahead left rose dealt EntropyFault text whole answer = (answer, whole)
due_of_answer command input ahead left rose dealt TooLong text whole answer = absurd answer

-- a source that gave nothing
gave_none : (before now : List ℕ) → now ≡ before → now ≡ before ++ []
gave_none before now same = same ∙ sym (append-nil before)

unread_whole : {P : Type 0} (command : Command) → reads (Some command) ≡ false → reads (Some command) ≡ true → P
unread_whole command e is = let both : false ≡ true = sym e ∙ is in absurd (cc)

-- the answer to what was read whole is due
pub due_of_read : {E : Type 0} (result : Result Answer E) (command : Command) (seen input before now : List ℕ) (ahead left : Option (List ℕ)) (rose : Type 0) (dealt : Dealings)
    → seen ≡ input → now ≡ before ++ input → IfSome ahead (λ all. input ≡ all) → length input ≤ MOST_BYTES_READ → IsAtEnd left
    → IfOk result (λ answer. IsAnswer command seen dealt answer.outcome answer.text.items)
    → IfOk result (λ answer. Gave before now (λ given. Due (Some command) given ahead left rose dealt answer.outcome answer.text.items))
due_of_read (Ok answer) command seen input before now ahead left rose dealt e grown all short ended is = record {
  bytes = input;
  grown = grown;
  such = due_of_answer command input ahead left rose dealt answer.outcome answer.text.items (λ r. record { all = all; ended = ended; short = short })
      (subst (λ bytes. IsAnswer command bytes dealt answer.outcome answer.text.items) e is);
}
due_of_read (Err _) command seen input before now ahead left rose dealt e grown all short ended is = tt

-- the answer of a command that does not read is due
pub due_unread : {E : Type 0} (result : Result Answer E) (command : Command) (seen before now : List ℕ) (ahead left : Option (List ℕ)) (rose : Type 0) (dealt : Dealings)
    → seen ≡ [] → now ≡ before → reads (Some command) ≡ false → IfOk result (λ answer. IsAnswer command seen dealt answer.outcome answer.text.items)
    → IfOk result (λ answer. Gave before now (λ given. Due (Some command) given ahead left rose dealt answer.outcome answer.text.items))
due_unread (Ok answer) command seen before now ahead left rose dealt e same unread is = record {
  bytes = [];
  grown = gave_none before now same;
  such = due_of_answer command [] ahead left rose dealt answer.outcome answer.text.items (unread_whole command unread)
      (subst (λ bytes. IsAnswer command bytes dealt answer.outcome answer.text.items) e is);
}
due_unread (Err _) command seen before now ahead left rose dealt e same unread is = tt

-- a read failed
pub due_of_fault : {E : Type 0} {P : List ℕ → Type 0} (result : Result Answer E) (command : Command) (before now : List ℕ) (ahead left : Option (List ℕ)) (rose : Type 0) (dealt : Dealings)
    → Gave before now P → reads (Some command) ≡ true → rose → dealt.following ≡ dealt.before → IfOk result (λ answer. answer.outcome ≡ ReadFault)
    → IfOk result (λ answer. answer.text.items ≡ read_fault_line)
    → IfOk result (λ answer. Gave before now (λ given. Due (Some command) given ahead left rose dealt answer.outcome answer.text.items))
due_of_fault (Ok answer) command before now ahead left rose dealt gave r fault same outcome text = record {
  bytes = gave.bytes;
  grown = gave.grown;
  such = subst (λ o. IsDueOf command gave.bytes ahead left rose dealt o answer.text.items) (sym outcome) (r, fault, text, same);
}
due_of_fault (Err _) command before now ahead left rose dealt gave r fault same outcome text = tt

-- the source gave more than the bound
pub due_of_long : {E : Type 0} (result : Result Answer E) (command : Command) (before now : List ℕ) (ahead left : Option (List ℕ)) (rose : Type 0) (dealt : Dealings)
    → Gave before now (λ given. MOST_BYTES_READ < length given) → IfSome ahead (λ all. MOST_BYTES_READ < length all) → reads (Some command) ≡ true → dealt.following ≡ dealt.before
    → IfOk result (λ answer. answer.outcome ≡ TooLong) → IfOk result (λ answer. answer.text.items ≡ too_long_line)
    → IfOk result (λ answer. Gave before now (λ given. Due (Some command) given ahead left rose dealt answer.outcome answer.text.items))
due_of_long (Ok answer) command before now ahead left rose dealt gave all r same outcome text = record {
  bytes = gave.bytes;
  grown = gave.grown;
  such = subst (λ o. IsDueOf command gave.bytes ahead left rose dealt o answer.text.items) (sym outcome) (r, record { given = gave.such; all = all }, text, same);
}
due_of_long (Err _) command before now ahead left rose dealt gave all r same outcome text = tt

-- the words ask for nothing
pub due_of_words : {E : Type 0} (result : Result Answer E) (before now : List ℕ) (ahead left : Option (List ℕ)) (rose : Type 0) (dealt : Dealings)
    → now ≡ before → IfOk result (λ answer. answer.outcome ≡ WrongWords) → IfOk result (λ answer. answer.text.items ≡ words_line)
    → IfOk result (λ answer. Gave before now (λ given. Due None given ahead left rose dealt answer.outcome answer.text.items))
due_of_words (Ok answer) before now ahead left rose dealt same outcome text = record {
  bytes = [];
  grown = gave_none before now same;
  such = subst (λ o. Due None [] ahead left rose dealt o answer.text.items) (sym outcome) text;
}
due_of_words (Err _) before now ahead left rose dealt same outcome text = tt

-- the same of what the words ask for
pub due_as : {E : Type 0} (result : Result Answer E) (command other : Option Command) (before now : List ℕ) (ahead left : Option (List ℕ)) (rose : Type 0) (dealt : Dealings) → command ≡ other
    → IfOk result (λ answer. Gave before now (λ given. Due command given ahead left rose dealt answer.outcome answer.text.items))
    → IfOk result (λ answer. Gave before now (λ given. Due other given ahead left rose dealt answer.outcome answer.text.items))
due_as result command other before now ahead left rose dealt e due =
    subst (λ c. IfOk result (λ answer. Gave before now (λ given. Due c given ahead left rose dealt answer.outcome answer.text.items))) e due
