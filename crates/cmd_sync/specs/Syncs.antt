-- What a script that is done came to, and why one was not done.
use Rattle.std.specs.Prelude.{◌≡◌, ◌⊎◌, ◌++◌, ℕ, List, IsOk, IsTrue, Ok, Err}
use Rattle.std.specs.List.{list_all}
use Rattle.cl_core.specs.Making.{made}
use Rattle.cl_core.specs.Values.{ClientValue}
use Rattle.base_io.specs.Counts.{Rose}
use Rattle.cmd_sync.specs.Texts.{synced_text}
use Rattle.cmd_sync.specs.ScriptReading.{script_reading}
use Rattle.cmd_sync.specs.Scripts.{ScriptView, may_do, may_log_in}
use Rattle.cmd_sync.specs.declared.script.Step.{Step}
use Rattle.cmd_sync.specs.declared.script.User.{User}
use Rattle.cmd_sync.specs.declared.script_fault.ScriptFault.TheVariants.{BadLine as BadScriptLine}
use Rattle.cmd_sync.specs.Courses.{Course, CourseStep, begun}
use Rattle.cmd_sync.specs.Talks.{CallStops, DialerView, IsBroken, IsHeld}
use Rattle.cmd_sync.specs.declared.sync_fault.Stop.TheVariants as stop
use Rattle.cmd_sync.specs.declared.sync_fault.SyncFault.{SyncFault}
use Rattle.cmd_sync.specs.declared.sync_fault.SyncFault.TheVariants.{BadLine, Link, Peer, Entropy, NoMemory}
use Rattle.cmd_sync.specs.declared.stage.Stage.{Stage}
use Rattle.cmd_sync.specs.declared.stage.Stage.TheVariants.{Done, Failed}

-- ---- from where the connection begins

-- all was said over one link, and came to this stage
pub record IsOver (start : CourseStep) (old new : DialerView) (stage : Stage) (now : Course) : Type 0 where
  pub held : IsHeld start old new now
  pub ends : now.stage ≡ stage

-- all is done, and the output is the text of the log
pub record IsTold (start : CourseStep) (old new : DialerView) (output : List ℕ) : Type 0 where
  pub now : Course
  pub over : IsOver start old new Done now
  pub written : output ≡ synced_text now.client.client.log

-- Why it was not done. No link was handed out, or a read or a write of the one that was failed, or its end was found before
-- all was done, and it is told which; the server has to answer for it; or memory ran out, for the talk, or for the output.
abbrev pub IsUntold : SyncFault → CourseStep → DialerView → DialerView → Type 0
IsUntold (Link failure) start old new = CallStops (stop.Link failure) start old new
IsUntold (Peer failure) start old new = (now : Course) × IsOver start old new (Failed failure) now
IsUntold NoMemory start old new = IsBroken stop.NoMemory start old new ⊎ ((now : Course) × IsOver start old new Done now)
IsUntold (BadLine line why) start old new = ⊥
IsUntold Entropy start old new = ⊥

-- what a course came to that is over
abbrev pub IsOutcome : SyncFault → Stage → Type 0
IsOutcome (Peer failure) stage = stage ≡ Failed failure
IsOutcome NoMemory stage = stage ≡ Done
IsOutcome _ stage = ⊥

-- the same, where memory may have run out before the dialer was called
abbrev pub IsUnrun : SyncFault → CourseStep → DialerView → DialerView → Type 0
IsUnrun NoMemory start old new = (new ≡ old) ⊎ IsUntold NoMemory start old new
IsUnrun fault start old new = IsUntold fault start old new

-- ---- from the text of the script

-- the text says a script of this account and these steps, which it may say
pub record IsRead (text : List ℕ) (account : User) (steps : List Step) : Type 0 where
  pub said : script_reading text ≡ Ok (record { user = account; steps = steps })
  pub may : IsTrue (may_log_in account)
  pub may_all : IsTrue (list_all may_do steps)

-- the text says none
abbrev pub IsUnread : SyncFault → List ℕ → Type 0
IsUnread (BadLine line why) text = script_reading text ≡ Err (BadScriptLine line why)
IsUnread NoMemory text = Unit {0}
IsUnread _ text = ⊥

-- so it begins: the script that the text says, a client of its account, and the bytes that were drawn, which stand behind those that
-- were drawn before
pub record IsBegun (text drawn_first drawn_now : List ℕ) (start : CourseStep) : Type 0 where
  pub script : ScriptView
  pub said : script_reading text ≡ Ok script
  pub client : ClientValue
  pub made_of : made script.user.address script.user.password script.user.resource ≡ Ok client
  pub entropy : List ℕ
  pub drawn : drawn_now ≡ drawn_first ++ entropy
  pub start_is : start ≡ begun client entropy script.steps

pub record IsSynced (text drawn_first drawn_now : List ℕ) (old new : DialerView) (output : List ℕ) : Type 0 where
  pub start : CourseStep
  pub begins : IsBegun text drawn_first drawn_now start
  pub told : IsTold start old new output

pub record IsUnsynced (text drawn_first drawn_now : List ℕ) (old new : DialerView) (fault : SyncFault) : Type 0 where
  pub start : CourseStep
  pub begins : IsBegun text drawn_first drawn_now start
  pub untold : IsUntold fault start old new

-- What is so of each refusal, where `drawn_first` and `drawn_now` are the bytes that were drawn before and behind it, and `before`
-- and `after` how many drawings failed. Where no connection was to be made the
-- dialer is as it was.
abbrev pub IsWhy : SyncFault → List ℕ → List ℕ → List ℕ → ℕ → ℕ → DialerView → DialerView → Type 0
IsWhy (BadLine line why) text drawn_first drawn_now before after old new = (script_reading text ≡ Err (BadScriptLine line why)) × (after ≡ before) × (new ≡ old)
IsWhy Entropy text drawn_first drawn_now before after old new = IsOk (script_reading text) × Rose before after × (new ≡ old)
IsWhy (Link failure) text drawn_first drawn_now before after old new = IsUnsynced text drawn_first drawn_now old new (Link failure) × (after ≡ before)
IsWhy (Peer failure) text drawn_first drawn_now before after old new = IsUnsynced text drawn_first drawn_now old new (Peer failure) × (after ≡ before)
IsWhy NoMemory text drawn_first drawn_now before after old new = ((new ≡ old) ⊎ IsUnsynced text drawn_first drawn_now old new NoMemory) × (after ≡ before)
