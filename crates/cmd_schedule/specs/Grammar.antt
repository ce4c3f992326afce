-- The grammar of direct schedules, as a relation between a schedule and its text.
use Rattle.std.specs.Prelude.{◌≡◌, ℕ, ◌+◌, ◌≤◌, nat_lt, nat_le, Bool, true, false, ◌&&◌, ◌||◌, not, List, [], ◌∷◌, ◌++◌, IsTrue, length, chars, codes}
use Rattle.std.specs.Fmt.{decimal}
use Rattle.std.specs.List.{flat_map, list_all}
use Rattle.std.specs.Str.{is_utf8}
use Rattle.cmd_schedule.specs.Schedules.{ScheduleView}
use Rattle.cmd_schedule.specs.declared.schedule.Line.{Line}
use Rattle.cmd_schedule.specs.declared.schedule.Step.{Step}
use Rattle.cmd_schedule.specs.declared.schedule.Step.TheVariants.{Account, Device, Say, Private, Catchup, Tick}
use Rattle.cmd_schedule.specs.declared.schedule.TheConstants.{MOST_KEPT, MOST_TICK}
use Rattle.cmd_schedule.specs.declared.schedule.Version.{Version}
use Rattle.cmd_schedule.specs.declared.schedule.Version.TheVariants.{One, Two}
use Rattle.base_io.specs.Names.{is_among}

abbrev pub is_lower : ℕ → Bool
is_lower c = nat_le 97 c && nat_le c 122

abbrev pub is_digit : ℕ → Bool
is_digit c = nat_le 48 c && nat_le c 57

-- a lower-case letter and up to 31 lower-case letters or digits
abbrev pub is_name : List ℕ → Bool
is_name [] = false
is_name (c ∷ cs) = is_lower c && nat_le (length cs) 31 && list_all (λ d. is_lower d || is_digit d) cs

-- a character of XML 1.0 that isn't below U+20
abbrev pub is_text_character : ℕ → Bool
is_text_character c =
    (nat_le 0x20 c && nat_le c 0xD7FF) || (nat_le 0xE000 c && nat_le c 0xFFFD) || (nat_le 0x10000 c && nat_le c 0x10FFFF)

-- 1 to 1,000 bytes of such characters in UTF-8
abbrev pub is_text : List ℕ → Bool
is_text text =
    nat_le 1 (length text) && nat_le (length text) 1000 && is_utf8 text && list_all is_text_character (chars text)

-- the accounts and the devices that stand above a line
pub record Declared : Type 0 where
  pub accounts : List (List ℕ)
  pub devices : List (List ℕ)

abbrev pub nothing_declared : Declared
nothing_declared = record { accounts = []; devices = [] }

-- with what a line declares
abbrev pub declared_by : Step → Declared → Declared
declared_by (Account name) above = record above { accounts = above.accounts ++ name ∷ [] }
declared_by (Device name account) above = record above { devices = above.devices ++ name ∷ [] }
declared_by _ above = above

-- what a line may say below what is declared
abbrev pub may_stand : Declared → Step → Bool
may_stand above (Account name) =
    nat_lt (length above.accounts) 100 && is_name name && not (is_among name above.accounts)
may_stand above (Device name account) =
    nat_lt (length above.devices) 100 && is_name name && not (is_among name above.devices) && is_among account above.accounts
may_stand above (Say device to text) = is_among device above.devices && is_name to && is_text text
may_stand above (Private device to text) = is_among device above.devices && is_name to && is_text text
may_stand above (Catchup device most) = is_among device above.devices && nat_le 1 most && nat_le most 100
may_stand above (Tick ms) = nat_le ms MOST_TICK

-- the lines are numbered from n, each may stand where it stands, and none is behind line 100,000
abbrev pub AreLines : Declared → ℕ → List Line → Type 0
AreLines above n [] = Unit {0}
AreLines above n (line ∷ lines) =
    (line.number ≡ n) × (n ≤ 100000) × IsTrue (may_stand above line.step) × AreLines (declared_by line.step above) (n + 1) lines

-- in version 2 archives keep 1 to 4,294,967,295 entries
abbrev pub may_keep : Version → Bool
may_keep One = true
may_keep (Two keep) = nat_le 1 keep && nat_le keep MOST_KEPT

pub record IsDirectSchedule (schedule : ScheduleView) : Type 0 where
  pub direct : schedule.wire ≡ false
  pub keeps : IsTrue (may_keep schedule.version)
  pub lines : AreLines nothing_declared 2 schedule.lines

abbrev pub step_text : Step → List ℕ
step_text (Account name) = codes "account " ++ name
step_text (Device name account) = codes "device " ++ name ++ 32 ∷ account
step_text (Say device to text) = codes "say " ++ device ++ 32 ∷ to ++ 32 ∷ text
step_text (Private device to text) = codes "private " ++ device ++ 32 ∷ to ++ 32 ∷ text
step_text (Catchup device most) = codes "catchup " ++ device ++ 32 ∷ decimal most
step_text (Tick ms) = codes "tick " ++ decimal ms

abbrev pub mode_text : Bool → List ℕ
mode_text true = codes "wire"
mode_text false = codes "direct"

-- line 1
abbrev pub header_text : Version → Bool → List ℕ
header_text One wire = codes "xmpp-schedule 1 " ++ mode_text wire
header_text (Two keep) wire = codes "xmpp-schedule 2 " ++ mode_text wire ++ 32 ∷ decimal keep

-- the text of a direct schedule: each line is ended by LF
abbrev pub direct_text : ScheduleView → List ℕ
direct_text schedule = header_text schedule.version false ++ 10 ∷ flat_map (λ line. step_text line.step ++ 10 ∷ []) schedule.lines

-- the input is the text of some direct schedule
abbrev pub InDirectGrammar : List ℕ → Type 0
InDirectGrammar input = (schedule : ScheduleView) × IsDirectSchedule schedule × (input ≡ direct_text schedule)
