-- Each event keeps that pages are in time.
use Rattle.std.proofs.Common.{◌≡◌, ◌≢◌, ◌≤◌, ◌+◌, ◌==◌, ℕ, Bool, true, false, List, [], ◌∷◌, ◌++◌, Option, Some, None, length, take, refl, ap, ◌∙◌, if◌then◌else◌, arith}
use Rattle.std.specs.Option.{option_map, option_map_or}
use Rattle.std.specs.Prelude.{◌&&◌, nat_lt, not}
use Rattle.sim_5_devices.proofs.LabelsInTimeEnds.{many_more, queries_one, reply_ends}
use Rattle.sim_5_devices.specs.Pages.{IsPaged}
use Rattle.sim_2_links.proofs.Many.{many_append}
use Rattle.sim_2_links.specs.Paging.{many, one_if}
use Rattle.sim_5_devices.specs.InTime.{is_end, is_query}
use Rattle.sim_1_applications.proofs.EachDevice.{IsKept}
use Rattle.sim_1_applications.proofs.Reactions.{Asks, Reacts, Stays, reacts}
use Rattle.sim_1_applications.proofs.Up.{put_more, put_stays, nothing_put}
use Rattle.sim_1_applications.specs.Answers.{last_in}
use Rattle.sim_1_applications.specs.Devices.{Counted, Device, Known, OpenPage, Reading, Session, Take, epoch_of, last_of, new_device, up_put}
use Rattle.sim_1_applications.specs.Events as events
use Rattle.sim_1_applications.specs.Kept.{SessionsKept}
use Rattle.sim_1_applications.specs.Stanzas.{Accepted, Bounced, Carbons, Down, Fin, Live, Message, NotFound, Presence, Query, Request, Res, Up}

abbrev pub Paged : ℕ → Device → Type 0
Paged k d = IsPaged d

-- ---- the client reads

-- where no page ends, nothing is asked for, and a page that was open stays open
pub record IsPlain (b : Reading) (r : events.Reaction) : Type 0 where
  pub request : r.request ≡ None
  pub page : r.reading.page ≡ None → b.page ≡ None

result_plain : (q n : ℕ) (page : OpenPage) (b : Reading) → b.page ≡ Some page → IsPlain b (events.result q n page b)
result_plain q n page b is = by (page.number == q && nat_lt (length page.results) page.max)
  where
    more : OpenPage
    more = record page { results = page.results ++ n ∷ []; answer = option_map events.passed page.answer }

    by : (t : Bool) → IsPlain b (if t then events.quiet (record b { page = Some more }) else events.refuse b)
    by true = record { request = refl; page = λ none. absurd (let no_way : ⊥ = cc in no_way) }
    by false = record { request = refl; page = λ none. none }

results_plain : (q n : ℕ) (b : Reading) → IsPlain b (events.with_page (events.result q n) b)
results_plain q n b = by b.page refl
  where
    by : (o : Option OpenPage) → b.page ≡ o → IsPlain b (option_map_or (λ page. events.result q n page b) o (events.refuse b))
    by None is = record { request = refl; page = λ none. none }
    by (Some page) is = result_plain q n page b is

pub plain_read : (a : events.Around) (z : Down) (b : Reading) → is_end z ≡ false → IsPlain b (events.reads a z b)
plain_read a Accepted b other = record { request = refl; page = λ none. none }
plain_read a (Bounced e n) b other = record { request = refl; page = λ none. none }
plain_read a (Live n) b other = record { request = refl; page = λ none. none }
plain_read a (Res q n) b other = results_plain q n b
plain_read a (Fin q complete last count) b other = absurd (let no_way : ⊥ = cc in no_way)
plain_read a (NotFound q) b other = absurd (let no_way : ⊥ = cc in no_way)

-- where one does, it asks for one more at most, which is under way then
asks_open : (b : Reading) (r : events.Reaction) → Reacts b r → r.reading.page ≡ None → r.request ≡ None
asks_open b r (Stays request asked page) none = request
asks_open b r (Asks asks) none = absurd (let some = asks.opens in let no_way : ⊥ = cc in no_way)

read_page : (a : events.Around) (zs : List Down) (d : Device) → d.sessions.now.down_rest ≡ zs → IsPaged d → IsPaged (events.read a zs d)
read_page a [] d is paged = paged
read_page a (z ∷ rest) d is paged = by (is_end z) refl
  where
    r : events.Reaction
    r = events.reads a z d.reading

    s : Session
    s = d.sessions.now

    put : many is_query (s.up_got ++ (s.up_rest ++ events.queries r.request)) ≡ many is_query (up_put s) + many is_query (events.queries r.request)
    put = ap (many is_query) (put_more (events.queries r.request) s) ∙ many_append is_query (up_put s) (events.queries r.request)

    got : many is_end (s.down_got ++ z ∷ []) ≡ many is_end s.down_got + many is_end (z ∷ [])
    got = many_append is_end s.down_got (z ∷ [])

    given : many is_end ((s.down_got ++ z ∷ []) ++ rest) ≤ many is_query s.up_got
    given = let old = paged.given in let same = many_more is_end s.down_got rest z in let e = ap (λ l. many is_end (s.down_got ++ l)) is in omega arith

    none_asked : r.request ≡ None → many is_query (events.queries r.request) ≡ 0
    none_asked none = ap (λ o. many is_query (events.queries o)) none

    by : (b : Bool) → is_end z ≡ b → IsPaged (events.read a (z ∷ rest) d)
    by true ends =
        let one = ap one_if ends in
        record {
          given = given;
          asked = let old = paged.asked in let p = put in let g = got in let few = queries_one r.request in omega arith;
          ended = λ online none. let old = paged.asked in let p = put in let g = got in let zero = none_asked (asks_open d.reading r (reacts a z d.reading) none) in omega arith;
        }
    by false other =
        let plain = plain_read a z d.reading other in
        let none = none_asked plain.request in
        record {
          given = given;
          asked = let old = paged.asked in let p = put in let g = got in omega arith;
          ended = λ online closed. let old = paged.ended online (plain.page closed) in let p = put in let g = got in omega arith;
        }

-- ---- the server handles a stanza

still_open : (a : events.Around) (r : Request) (o : Option OpenPage) → option_map (events.answered a r) o ≡ None → o ≡ None
still_open a r None none = refl
still_open a r (Some page) none = absurd (let no_way : ⊥ = cc in no_way)

served_open : (a : events.Around) (z : Up) (b : Reading) → (events.reading_served a z b).page ≡ None → b.page ≡ None
served_open a Carbons b none = none
served_open a Presence b none = none
served_open a (Message m) b none = none
served_open a (Query r) b none = still_open a r b.page none

served_page : (a : events.Around) (fits : ℕ) (zs : List Up) (d : Device) → d.sessions.now.up_rest ≡ zs → IsPaged d → IsPaged (events.served a fits zs d)
served_page a fits [] d is paged = paged
served_page a fits (z ∷ rest) d is paged =
    let s = d.sessions.now in
    let put = ap (many is_query) (put_stays z rest s is) in
    record {
      given =
          let old = paged.given in
          let few = reply_ends a fits z in
          let more = many_append is_end s.down_rest (take fits (events.reply a z)) in
          let all = many_append is_end s.down_got (s.down_rest ++ take fits (events.reply a z)) in
          let before = many_append is_end s.down_got s.down_rest in
          let got = many_append is_query s.up_got (z ∷ []) in
          omega arith;
      asked = let old = paged.asked in omega arith;
      ended = λ online none. let old = paged.ended online (served_open a z d.reading none) in omega arith;
    }

-- ---- what is put besides

more_put : (zs : List Up) (s : Session) → many is_query (s.up_got ++ (s.up_rest ++ zs)) ≡ many is_query (up_put s) + many is_query zs
more_put zs s = ap (many is_query) (put_more zs s) ∙ many_append is_query (up_put s) zs

-- nothing was put before the client knows of its session
pub begins_empty : (d : Device) → SessionsKept d.sessions → d.sessions.now.stage ≡ Counted → up_put d.sessions.now ≡ []
begins_empty d sessions stage =
    let unknown : d.sessions.now.stage ≢ Known = λ e. let no_way : ⊥ = cc in no_way in
    nothing_put d.sessions.now (sessions.now.is_session.up_got unknown) (sessions.now.is_session.up_rest unknown)

online_page : (d : Device) → SessionsKept d.sessions → d.sessions.now.stage ≡ Counted → IsPaged d → IsPaged (events.on_sessions events.goes_online d)
online_page d sessions stage paged =
    let put = more_put (Carbons ∷ Presence ∷ []) d.sessions.now in
    let none = ap (many is_query) (begins_empty d sessions stage) in
    record { given = paged.given; asked = omega arith; ended = λ online page. omega arith }

-- ---- the acts

acts_page : (a : events.Around) (act : events.Act) (d : Device) (k : ℕ) → events.May act d → SessionsKept d.sessions → IsPaged d → IsPaged (events.own a act d)
acts_page a events.Act.Bind d k may sessions paged = record { given = paged.given; asked = paged.asked; ended = paged.ended }
acts_page a (events.Act.ReadBound live) d k may sessions paged = record { given = omega arith; asked = omega arith; ended = λ online page. omega arith }
acts_page a events.Act.Enable d k may sessions paged = record { given = paged.given; asked = paged.asked; ended = paged.ended }
acts_page a events.Act.ReadEnabled d k may sessions paged = online_page d sessions may.1 paged
acts_page a events.Act.End d k may sessions paged = record { given = paged.given; asked = paged.asked; ended = paged.ended }
acts_page a events.Act.Drop d k may sessions paged = record { given = paged.given; asked = paged.asked; ended = λ online page. absurd (let no_way : ⊥ = cc in no_way) }
acts_page a (events.Act.Acknowledge n) d k may sessions paged = record { given = paged.given; asked = paged.asked; ended = paged.ended }
acts_page a (events.Act.Say to text private) d k may sessions paged =
    let put = more_put (Message (record { epoch = epoch_of d.sessions; n = d.sessions.n + 1; to = to; text = text; private = private }) ∷ []) d.sessions.now in
    record { given = paged.given; asked = let old = paged.asked in omega arith; ended = λ online page. let old = paged.ended online page in omega arith }
acts_page a (events.Act.CatchUp max) d k may sessions paged =
    let put = more_put (Query (record { number = d.reading.asked + 1; after = last_in d.reading.run; max = max }) ∷ []) d.sessions.now in
    record { given = paged.given; asked = let old = paged.ended may.0 may.1 in omega arith; ended = λ online page. absurd (let no_way : ⊥ = cc in no_way) }
acts_page a (events.Act.ServerHandles fits full) d k may sessions paged = served_page a fits d.sessions.now.up_rest d refl paged
acts_page a events.Act.ClientHandles d k may sessions paged = read_page a d.sessions.now.down_rest d refl paged

-- ---- messages that are heard

lives_end : (b : Bool) (n : ℕ) → (let zs : List Down = if b then Live n ∷ [] else [] in many is_end zs ≡ 0)
lives_end true n = refl
lives_end false n = refl

hears_page : (takes : List Take) (full : List ℕ) (t : Take) (j : ℕ) (d : Device) (k : ℕ) → IsPaged d → IsPaged (events.hear takes full t j d)
hears_page takes full t j d k paged = record {
  given =
      let s = d.sessions.now in
      let n = last_of takes d.account in
      let b = events.hears_of t j d && not (events.is_number_among j full) in
      let zs : List Down = if b then Live n ∷ [] else [] in
      let none = lives_end b n in
      let more = many_append is_end s.down_rest zs in
      let all = many_append is_end s.down_got (s.down_rest ++ zs) in
      let before = many_append is_end s.down_got s.down_rest in
      let old = paged.given in
      omega arith;
  asked = paged.asked;
  ended = paged.ended;
}

pub paged_kept : IsKept Paged
paged_kept = record { acts = acts_page; hears = hears_page }

pub paged_begins : (account : List ℕ) → Paged 0 (new_device account)
paged_begins account = record { given = omega arith; asked = omega arith; ended = λ online page. omega arith }
