-- The state of the two applications: sessions are two pairs of lists that may stop at any time. No connection, count
-- or handshake occurs here.
use Rattle.std.specs.Prelude.{ℕ, ◌+◌, ◌-◌, Bool, false, ◌||◌, List, [], ◌++◌, Option, None, length, filter}
use Rattle.std.specs.List.{flat_map}
use Rattle.std.specs.Str.{bytes_eq}
use Rattle.sim_1_applications.specs.Stanzas.{Submission, Up, Down}

-- how far a session has come whose bind result the client read: no further; the server counts; the client knows it
pub data Stage : Type 0 where
  Named : Stage
  Counted : Stage
  Known : Stage

-- A session. What was put is what was handled, and then the rest, of which nobody says that it will be handled.
pub record Session : Type 0 where
  pub stage : Stage
  pub available : Bool
  pub carbons : Bool
  pub up_got : List Up
  pub up_rest : List Up
  pub acked : ℕ
  pub down_got : List Down
  pub down_rest : List Down

abbrev pub fresh : Session
fresh = record { stage = Named; available = false; carbons = false; up_got = []; up_rest = []; acked = 0; down_got = []; down_rest = [] }

-- all that the client put
abbrev pub up_put : Session → List Up
up_put s = s.up_got ++ s.up_rest

-- what the server has live of a device: nothing; a session whose bind result the client hasn't read and will perhaps
-- never read; the session of the client's present epoch
pub data Row : Type 0 where
  NoRow : Row
  Unread : Row
  Present : Row

-- the answer to a request: between which numbers the archive was then, and what of it the client hasn't handled
pub record Answer : Type 0 where
  pub first : ℕ
  pub last : ℕ
  pub rest : List Down

-- a page under way: its request, the results so far, the archive's last number when it was asked for, and the answer,
-- once the server gave one
pub record OpenPage : Type 0 where
  pub number : ℕ
  pub after : Option ℕ
  pub max : ℕ
  pub results : List ℕ
  pub began : ℕ
  pub answer : Option Answer

-- a page that was taken over: its place, how many entries were asked for and how many came, and of the last page of a
-- catch-up how many the archive kept then; and the archive's last number when the page was asked for, when it was
-- answered and when it was over
pub record Tile : Type 0 where
  pub after : Option ℕ
  pub most : ℕ
  pub count : ℕ
  pub total : Option ℕ
  pub began : ℕ
  pub given : ℕ
  pub last : ℕ

-- an answer that was given: in which epoch, to which request, and how many takes there were then
pub record Made : Type 0 where
  pub epoch : ℕ
  pub number : ℕ
  pub takes : ℕ

-- The sessions of a device. Its epoch is the number of sessions behind the present one: the first of these stands for
-- the time before epoch 1.
pub record Sessions : Type 0 where
  pub past : List Session
  pub now : Session
  pub row : Row
  pub bound : ℕ  -- the epoch that was reached at the last bind
  pub online : Bool  -- the client has its session, the present one
  pub n : ℕ  -- the number of the last message in this epoch

-- what the client keeps of its account's history
pub record Reading : Type 0 where
  pub asked : ℕ  -- the number of the last request
  pub page : Option OpenPage
  pub broken : List (List ℕ)  -- the log's runs but for the last one
  pub run : List ℕ  -- the log's last run
  pub tiles : List Tile
  pub held : List ℕ
  pub faulty : Bool  -- the client met an answer that it refuses

pub record Device : Type 0 where
  pub account : List ℕ
  pub sessions : Sessions
  pub reading : Reading
  pub made : List Made

abbrev pub epoch_of : Sessions → ℕ
epoch_of s = length s.past

abbrev pub log_of : Reading → List ℕ
log_of r = flat_map (λ run. run) r.broken ++ r.run

abbrev pub new_device : List ℕ → Device
new_device account = record {
  account = account;
  sessions = record { past = []; now = fresh; row = NoRow; bound = 0; online = false; n = 0 };
  reading = record { asked = 0; page = None; broken = []; run = []; tiles = []; held = []; faulty = false };
  made = [];
}

-- a message that the server took: of which device, by its place, of which account, and the submission
pub record Take : Type 0 where
  pub device : ℕ
  pub account : List ℕ
  pub said : Submission
  pub moment : ℕ

-- KEEP, the time, the accounts that exist, the takes in order, and the devices. An account's archive is made of the
-- takes that concern it.
pub record AppWorld : Type 0 where
  pub keep : ℕ
  pub clock : ℕ
  pub accounts : List (List ℕ)
  pub takes : List Take
  pub devices : List Device

abbrev pub concerns : List ℕ → Take → Bool
concerns account take = bytes_eq account take.account || bytes_eq account take.said.to

-- the last number of an account's archive, and the first that it keeps
unfoldable pub last_of : List Take → List ℕ → ℕ
last_of takes account = length (filter (concerns account) takes)

abbrev pub first_of : ℕ → ℕ → ℕ
first_of keep last = last - keep + 1
