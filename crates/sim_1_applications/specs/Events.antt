-- The twelve events, and what each does.
use Rattle.std.specs.Prelude.{◌≡◌, ℕ, suc, ◌+◌, ◌≤◌, ◌≢◌, ◌==◌, nat_lt, nat_le, Bool, true, false, ◌&&◌, ◌||◌, not, List, [], ◌∷◌, ◌++◌, Option, Some, None, length, take, drop, slice_get, filter, if◌then◌else◌}
use Rattle.std.specs.List.{list_any}
use Rattle.std.specs.Option.{option_map, option_map_or}
use Rattle.std.specs.Str.{bytes_eq}
use Rattle.sim_1_applications.specs.Stanzas.{Request, Up, Down}
use Rattle.sim_1_applications.specs.Stanzas.Up.{Carbons, Presence, Message, Query}
use Rattle.sim_1_applications.specs.Stanzas.Down.{Accepted, Bounced, Live, Res, Fin, NotFound}
use Rattle.sim_1_applications.specs.Devices.{fresh, Row, Sessions, Reading, Device, OpenPage, Answer, Tile, Made, Take, AppWorld, epoch_of, log_of, new_device, concerns, last_of, first_of}
use Rattle.sim_1_applications.specs.Devices.Stage.{Named, Counted, Known}
use Rattle.sim_1_applications.specs.Devices.Row.{NoRow, Unread, Present}
use Rattle.sim_1_applications.specs.Answers.{last_in, page_answer_of}

-- What can happen at a device.
pub data Act : Type 0 where
  -- the server handles a bind: a new session, and the one before it is gone
  Bind : Act
  -- the client reads a bind result: of the live session, or of one that is gone
  ReadBound : Bool → Act
  -- the server counts the session; the client hears so
  Enable : Act
  ReadEnabled : Act
  -- the server's session ends; the client gives its own up
  End : Act
  Drop : Act
  -- the client learns that so many of its stanzas were handled
  Acknowledge : ℕ → Act
  -- the user sends a message, or asks for the account's history
  Say : List ℕ → List ℕ → Bool → Act
  CatchUp : ℕ → Act
  -- the server handles the next stanza. So many of the stanzas that it puts to this device fit its queue; and the
  -- queues of these devices, by their places, are full
  ServerHandles : ℕ → List ℕ → Act
  -- the client handles the next stanza
  ClientHandles : Act

pub data AppEvent : Type 0 where
  At : ℕ → Act → AppEvent
  Tick : ℕ → AppEvent

-- what an act at a device knows of the world: the accounts that exist, the first and the last number of the archive
-- of the device's account, and how many takes there were
pub record Around : Type 0 where
  pub accounts : List (List ℕ)
  pub first : ℕ
  pub last : ℕ
  pub takes : ℕ

abbrev pub put_all : List Up → Sessions → Sessions
put_all zs s = record s { now = record s.now { up_rest = s.now.up_rest ++ zs } }

abbrev pub put_up : Up → Sessions → Sessions
put_up z s = put_all (z ∷ []) s

abbrev pub put_down : List Down → Sessions → Sessions
put_down zs s = record s { now = record s.now { down_rest = s.now.down_rest ++ zs } }

abbrev pub end_row : Sessions → Sessions
end_row s = record s { row = NoRow }

-- as many as fit are put, and where some don't the session ends
abbrev pub give : ℕ → List Down → Sessions → Sessions
give fits zs s = record (put_down (take fits zs) s) { row = if nat_lt fits (length zs) then NoRow else s.row }

abbrev pub is_among : List ℕ → List (List ℕ) → Bool
is_among name names = list_any (λ other. bytes_eq name other) names

abbrev pub is_number_among : ℕ → List ℕ → Bool
is_number_among n ns = list_any (λ m. n == m) ns

-- the request is put, and the page with its number is under way
abbrev pub ask : Option ℕ → ℕ → ℕ → Device → Device
ask after max began d = record d {
  sessions = put_up (Query (record { number = d.reading.asked + 1; after = after; max = max })) d.sessions;
  reading = record d.reading {
    asked = d.reading.asked + 1;
    page = Some (record { number = d.reading.asked + 1; after = after; max = max; results = []; began = began; answer = None });
  };
}

-- The server.

-- the answer is to the page that is under way
abbrev pub answered : Around → Request → OpenPage → OpenPage
answered a r page =
    if page.number == r.number
    then record page { answer = Some (record { first = a.first; last = a.last; rest = page_answer_of a.first a.last r }) }
    else page

abbrev pub is_carbons : Up → Bool
is_carbons Carbons = true
is_carbons _ = false

abbrev pub is_presence : Up → Bool
is_presence Presence = true
is_presence _ = false

-- what the server puts to the session whose stanza it handles
abbrev pub reply : Around → Up → List Down
reply a Carbons = Accepted ∷ []
reply a Presence = []
reply a (Message m) = if is_among m.to a.accounts then [] else Bounced m.epoch m.n ∷ []
reply a (Query r) = page_answer_of a.first a.last r

abbrev pub flagged : Up → Sessions → Sessions
flagged z s = record s { now = record s.now { carbons = is_carbons z || s.now.carbons; available = is_presence z || s.now.available } }

abbrev pub reading_served : Around → Up → Reading → Reading
reading_served a (Query r) b = record b { page = option_map (answered a r) b.page }
reading_served a _ b = b

abbrev pub made_served : Around → ℕ → Up → List Made → List Made
made_served a epoch (Query r) made = made ++ record { epoch = epoch; number = r.number; takes = a.takes } ∷ []
made_served a epoch _ made = made

abbrev pub moved_up : Up → List Up → Sessions → Sessions
moved_up z rest s = record s { now = record s.now { up_got = s.now.up_got ++ z ∷ []; up_rest = rest } }

abbrev pub served : Around → ℕ → List Up → Device → Device
served a fits [] d = d
served a fits (z ∷ rest) d = record d {
  sessions = give fits (reply a z) (flagged z (moved_up z rest d.sessions));
  reading = reading_served a z d.reading;
  made = made_served a (epoch_of d.sessions) z d.made;
}

-- The client. Its reactions are a new reading, and perhaps a request.

pub record Reaction : Type 0 where
  pub reading : Reading
  pub request : Option Request

abbrev pub quiet : Reading → Reaction
quiet b = record { reading = b; request = None }

abbrev pub refuse : Reading → Reaction
refuse b = quiet (record b { faulty = true })

-- a request, and its page is under way
abbrev pub asking : Option ℕ → ℕ → ℕ → Reading → Reaction
asking after max began b = record {
  reading = record b {
    asked = b.asked + 1;
    page = Some (record { number = b.asked + 1; after = after; max = max; results = []; began = began; answer = None });
  };
  request = Some (record { number = b.asked + 1; after = after; max = max });
}

abbrev pub holds : ℕ → Reading → Bool
holds n b = is_number_among n (log_of b) || is_number_among n b.held || nat_le 10000 (length b.held)

abbrev pub hold : ℕ → Reading → Reading
hold n b = record b { held = if holds n b then b.held else b.held ++ n ∷ [] }

abbrev pub passed : Answer → Answer
passed answer = record answer { rest = drop 1 answer.rest }

abbrev pub result : ℕ → ℕ → OpenPage → Reading → Reaction
result q n page b =
    if page.number == q && nat_lt (length page.results) page.max
    then quiet (record b { page = Some (record page { results = page.results ++ n ∷ []; answer = option_map passed page.answer }) })
    else refuse b

-- the page begins anew at the archive's first entry
abbrev pub restart : ℕ → OpenPage → Reading → Reaction
restart q page b =
    if page.number == q && option_map_or (λ n. true) page.after false then asking None page.max page.began b else refuse b

-- each of these is new to the log and comes once
abbrev pub are_new : List ℕ → List ℕ → Bool
are_new log [] = true
are_new log (n ∷ ns) = not (is_number_among n log) && are_new (n ∷ log) ns

abbrev pub same_position : Option ℕ → Option ℕ → Bool
same_position None None = true
same_position None (Some n) = false
same_position (Some m) None = false
same_position (Some m) (Some n) = m == n

abbrev pub is_empty : List ℕ → Bool
is_empty [] = true
is_empty (n ∷ ns) = false

abbrev pub number_or_none : Option ℕ → ℕ
number_or_none None = 0
number_or_none (Some n) = n

-- the log with the results of a page behind a place: a new run begins where the page was asked for from the archive's
-- first entry on
abbrev pub is_broken : Option ℕ → List ℕ → List ℕ → Bool
is_broken None run results = not (is_empty run) && not (is_empty results)
is_broken (Some n) run results = false

abbrev pub logged : OpenPage → Reading → Reading
logged page b = record b {
  page = None;
  broken = if is_broken page.after b.run page.results then b.broken ++ b.run ∷ [] else b.broken;
  run = if is_broken page.after b.run page.results then page.results else b.run ++ page.results;
  held = filter (λ h. not (is_number_among h page.results)) b.held;
}

abbrev pub tile : Around → Bool → ℕ → OpenPage → Tile
tile a complete count page = record {
  after = page.after;
  most = page.max;
  count = length page.results;
  total = if complete then Some count else None;
  began = page.began;
  given = option_map_or (λ answer. answer.last) page.answer a.last;
  last = a.last;
}

abbrev pub over : Around → Bool → ℕ → OpenPage → Reading → Reading
over a complete count page b = record (logged page b) { tiles = b.tiles ++ tile a complete count page ∷ [] }

abbrev pub fin : Around → ℕ → Bool → Option ℕ → ℕ → OpenPage → Reading → Reaction
fin a q complete last count page b =
    if page.number == q && same_position last (last_in page.results) && are_new (log_of b) page.results && (complete || not (is_empty page.results))
    then (if complete then quiet (over a complete count page b)
    else asking (last_in (over a complete count page b).run) page.max a.last (over a complete count page b))
    else refuse b

abbrev pub with_page : (OpenPage → Reading → Reaction) → Reading → Reaction
with_page f b = option_map_or (λ page. f page b) b.page (refuse b)

abbrev pub reads : Around → Down → Reading → Reaction
reads a Accepted b = quiet b
reads a (Bounced e n) b = quiet b
reads a (Live n) b = quiet (hold n b)
reads a (Res q n) b = with_page (result q n) b
reads a (Fin q complete last count) b = with_page (fin a q complete last count) b
reads a (NotFound q) b = with_page (restart q) b

abbrev pub moved_down : Down → List Down → Sessions → Sessions
moved_down z rest s = record s { now = record s.now { down_got = s.now.down_got ++ z ∷ []; down_rest = rest } }

abbrev pub queries : Option Request → List Up
queries None = []
queries (Some r) = Query r ∷ []

abbrev pub reacted : Reaction → Down → List Down → Device → Device
reacted reaction z rest d = record d {
  sessions = put_all (queries reaction.request) (moved_down z rest d.sessions);
  reading = reaction.reading;
}

abbrev pub read : Around → List Down → Device → Device
read a [] d = d
read a (z ∷ rest) d = reacted (reads a z d.reading) z rest d

abbrev pub on_sessions : (Sessions → Sessions) → Device → Device
on_sessions f d = record d { sessions = f d.sessions }

abbrev pub binds : Sessions → Sessions
binds s = record s { row = Unread; bound = epoch_of s }

abbrev pub reads_bound : Bool → Sessions → Sessions
reads_bound live s = record s { past = s.past ++ s.now ∷ []; now = fresh; n = 0; row = if live then Present else s.row }

abbrev pub counts : Sessions → Sessions
counts s = record s { now = record s.now { stage = Counted } }

abbrev pub goes_online : Sessions → Sessions
goes_online s = put_all (Carbons ∷ Presence ∷ []) (record s { online = true; now = record s.now { stage = Known } })

abbrev pub goes_offline : Sessions → Sessions
goes_offline s = record s { online = false }

abbrev pub acknowledged : ℕ → Sessions → Sessions
acknowledged n s = record s { now = record s.now { acked = n } }

abbrev pub says : List ℕ → List ℕ → Bool → Sessions → Sessions
says to text private s =
    put_up (Message (record { epoch = epoch_of s; n = s.n + 1; to = to; text = text; private = private })) (record s { n = s.n + 1 })

-- What an act does to its own device.
abbrev pub own : Around → Act → Device → Device
own a Bind d = on_sessions binds d
own a (ReadBound live) d = on_sessions (reads_bound live) d
own a Enable d = on_sessions counts d
own a ReadEnabled d = on_sessions goes_online d
own a End d = on_sessions end_row d
own a Drop d = record d { sessions = goes_offline d.sessions; reading = record d.reading { page = None } }
own a (Acknowledge n) d = on_sessions (acknowledged n) d
own a (Say to text private) d = on_sessions (says to text private) d
own a (CatchUp max) d = ask (last_in d.reading.run) max a.last d
own a (ServerHandles fits full) d = served a fits d.sessions.now.up_rest d
own a ClientHandles d = read a d.sessions.now.down_rest d

-- it may happen
abbrev pub May : Act → Device → Type 0
May Bind d = Unit {0}
May (ReadBound true) d = (d.sessions.online ≡ false) × (d.sessions.row ≡ Unread)
May (ReadBound false) d = (d.sessions.online ≡ false) × (d.sessions.row ≢ Present)
May Enable d = (d.sessions.row ≡ Present) × (d.sessions.now.stage ≡ Named)
May ReadEnabled d = (d.sessions.online ≡ false) × (d.sessions.now.stage ≡ Counted)
May End d = Unit {0}
May Drop d = Unit {0}
May (Acknowledge n) d = (d.sessions.online ≡ true) × (d.sessions.now.acked ≤ n) × (n ≤ length d.sessions.now.up_got)
May (Say to text private) d = d.sessions.online ≡ true
May (CatchUp max) d = (d.sessions.online ≡ true) × (d.reading.page ≡ None) × (1 ≤ max) × (max ≤ 100)
May (ServerHandles fits full) d =
    (d.sessions.row ≡ Present) × (d.sessions.now.stage ≢ Named) × (1 ≤ length d.sessions.now.up_rest)
May ClientHandles d = (d.sessions.online ≡ true) × (1 ≤ length d.sessions.now.down_rest)

-- What an act does to the others: the server takes a message, and puts it to the sessions that hear of it.

-- the take of the next stanza, where it is a message to an account that exists
abbrev pub taking : List (List ℕ) → ℕ → ℕ → List ℕ → List Up → List Take
taking accounts moment i account (Message m ∷ rest) =
    if is_among m.to accounts then record { device = i; account = account; said = m; moment = moment } ∷ [] else []
taking accounts moment i account _ = []

abbrev pub taken_by : List (List ℕ) → ℕ → ℕ → Device → Act → List Take
taken_by accounts moment i d (ServerHandles fits full) = taking accounts moment i d.account d.sessions.now.up_rest
taken_by accounts moment i d _ = []

abbrev pub full_of : Act → List ℕ
full_of (ServerHandles fits full) = full
full_of _ = []

abbrev pub is_present : Row → Bool
is_present NoRow = false
is_present Unread = false
is_present Present = true

-- the device's session hears of a take: as one of the recipient's that is available, or by a carbon
abbrev pub hears_of : Take → ℕ → Device → Bool
hears_of t j d =
    is_present d.sessions.row
    && ((bytes_eq d.account t.said.to && d.sessions.now.available)
    || (not t.said.private && d.sessions.now.carbons && concerns d.account t && not (j == t.device)))

-- where it is heard, the number is put, or the queue is full and the session ends
abbrev pub told : Bool → Bool → ℕ → Sessions → Sessions
told heard full number s =
    record (put_down (if heard && not full then Live number ∷ [] else []) s) { row = if heard && full then NoRow else s.row }

-- after this take the archive of the device's account has this last number
abbrev pub hear : List Take → List ℕ → Take → ℕ → Device → Device
hear takes full t j d = on_sessions (told (hears_of t j d) (is_number_among j full) (last_of takes d.account)) d

abbrev pub hear_all : List Take → List ℕ → List Take → ℕ → Device → Device
hear_all takes full [] j d = d
hear_all takes full (t ∷ ts) j d = hear_all takes full ts j (hear takes full t j d)

abbrev pub around : AppWorld → Device → Around
around w d = record {
  accounts = w.accounts;
  first = first_of w.keep (last_of w.takes d.account);
  last = last_of w.takes d.account;
  takes = length w.takes;
}

-- each device, with its place
abbrev pub each_from : ℕ → (ℕ → Device → Device) → List Device → List Device
each_from j f [] = []
each_from j f (d ∷ ds) = f j d ∷ each_from (suc j) f ds

-- what the device at a place becomes by an act at another, or the same
abbrev pub becomes : AppWorld → List Take → ℕ → Act → ℕ → Device → Device
becomes w new i act j d =
    hear_all (w.takes ++ new) (full_of act) new j (if j == i then own (around w d) act d else d)

abbrev pub acted : AppWorld → ℕ → Act → Device → AppWorld
acted w i act d = record w {
  takes = w.takes ++ taken_by w.accounts w.clock i d act;
  devices = each_from 0 (becomes w (taken_by w.accounts w.clock i d act) i act) w.devices;
}

abbrev pub after : AppWorld → AppEvent → AppWorld
after w (Tick ms) = record w { clock = w.clock + ms }
after w (At i act) = option_map_or (acted w i act) (slice_get w.devices i) w

-- the event may happen, and leads from the one world to the next
abbrev pub Moves : AppEvent → AppWorld → AppWorld → Type 0
Moves (Tick ms) w next = next ≡ after w (Tick ms)
Moves (At i act) w next = (d : Device) × (slice_get w.devices i ≡ Some d) × May act d × (next ≡ acted w i act d)

abbrev pub Reaches : List AppEvent → AppWorld → AppWorld → Type 0
Reaches [] w last = last ≡ w
Reaches (event ∷ events) w last = (next : AppWorld) × Moves event w next × Reaches events next last

-- before the first event, with devices of these accounts
abbrev pub devices_of : List (List ℕ) → List Device
devices_of [] = []
devices_of (account ∷ accounts) = new_device account ∷ devices_of accounts

abbrev pub beginning : ℕ → List (List ℕ) → List (List ℕ) → AppWorld
beginning keep accounts homes = record { keep = keep; clock = 0; accounts = accounts; takes = []; devices = devices_of homes }

-- some events lead to the world
pub record Reached (w : AppWorld) : Type 0 where
  pub keep : ℕ
  pub some : 1 ≤ keep
  pub accounts : List (List ℕ)
  pub homes : List (List ℕ)
  pub events : List AppEvent
  pub reaches : Reaches events (beginning keep accounts homes) w
