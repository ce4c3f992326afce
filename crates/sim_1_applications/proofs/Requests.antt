-- The requests that a client put have the numbers from 1 on.
use Rattle.std.proofs.Common.{◌≡◌, ℕ, suc, ◌+◌, ◌≤◌, Bool, List, [], ◌∷◌, ◌++◌, length, map, refl, sym, ap, ◌∙◌, arith, append_assoc}
use Rattle.std.proofs.lemmas.List.{append-nil, length-append, length-map, map-append}
use Rattle.std.proofs.lemmas.List.Concat.{flat_map-append}
use Rattle.std.specs.List.{AllByRecursion, flat_map}
use Rattle.sim_1_applications.specs.Stanzas.{Request, Up, Down, requests}
use Rattle.sim_1_applications.specs.Stanzas.Up.{Carbons, Presence, Message, Query}
use Rattle.sim_1_applications.specs.Devices.{Device, Session, Sessions, new_device, up_put}
use Rattle.sim_1_applications.specs.Answers.{following}
use Rattle.sim_1_applications.specs.Events as events
use Rattle.sim_1_applications.specs.Kept.{SessionsKept, request_of}
use Rattle.sim_1_applications.proofs.Intervals.{after_append, length_after}
use Rattle.sim_1_applications.proofs.Lists.{all_append}
use Rattle.sim_1_applications.proofs.Numbered.{requests_append}
use Rattle.sim_1_applications.specs.Counts.{number_of, requested, requested_in}
use Rattle.sim_1_applications.proofs.EachDevice.{IsKept}
use Rattle.sim_1_applications.proofs.Reactions.{reacts, Reacts, Stays, Asks}
use Rattle.sim_1_applications.proofs.Up.{put_more, put_stays}

abbrev pub numbers_in : Sessions → List ℕ
numbers_in s = map number_of (requested s)

abbrev pub AreNumbered : ℕ → Device → Type 0
AreNumbered k d = numbers_in d.sessions ≡ following 0 d.reading.asked

next_number : (n : ℕ) → following 0 (n + 1) ≡ following 0 n ++ (n + 1) ∷ []
next_number n = after_append 0 n 1 ∙ (let e : suc (0 + n) ≡ n + 1 = omega arith in ap (λ m. following 0 n ++ m ∷ []) e)

-- the same requests, or one more
requested_same : (s t : Sessions) → t.past ≡ s.past → up_put t.now ≡ up_put s.now → requested t ≡ requested s
requested_same s t past now = ap (λ ss. flat_map requested_in ss ++ requested_in t.now) past ∙ ap (λ zs. flat_map requested_in s.past ++ requests zs) now

put_none : (zs : List Up) (s : Session) → requests zs ≡ [] → requests (s.up_got ++ (s.up_rest ++ zs)) ≡ requested_in s
put_none zs s none = ap requests (put_more zs s) ∙ requests_append (up_put s) zs ∙ ap (λ rs. requested_in s ++ rs) none ∙ append-nil (requested_in s)

put_one : (r : Request) (s : Session) → requests (s.up_got ++ (s.up_rest ++ Query r ∷ [])) ≡ requested_in s ++ r ∷ []
put_one r s = ap requests (put_more (Query r ∷ []) s) ∙ requests_append (up_put s) (Query r ∷ [])

none_more : (zs : List Up) (s : Sessions) → requests zs ≡ [] → requested (events.put_all zs s) ≡ requested s
none_more zs s none = ap (λ rs. flat_map requested_in s.past ++ rs) (put_none zs s.now none)

one_more : (r : Request) (s : Sessions) (n : ℕ) → r.number ≡ n + 1 → numbers_in s ≡ following 0 n → numbers_in (events.put_up (Query r) s) ≡ following 0 (n + 1)
one_more r s n next known =
    ap (map number_of) (ap (λ rs. flat_map requested_in s.past ++ rs) (put_one r s.now) ∙ sym (append_assoc (flat_map requested_in s.past) (requested_in s.now) (r ∷ [])))
    ∙ map-append number_of (requested s) (r ∷ []) ∙ ap (λ ns. ns ++ r.number ∷ []) known ∙ ap (λ m. following 0 n ++ m ∷ []) next ∙ sym (next_number n)

requested_bound : (live : Bool) (s : Sessions) → requested (events.reads_bound live s) ≡ requested s
requested_bound live s =
    append-nil (flat_map requested_in (s.past ++ s.now ∷ [])) ∙ flat_map-append requested_in s.past (s.now ∷ [])
    ∙ ap (λ rs. flat_map requested_in s.past ++ rs) (append-nil (requested_in s.now))

pub asked_served : (a : events.Around) (z : Up) (d : Device) → (events.reading_served a z d.reading).asked ≡ d.reading.asked
asked_served a Carbons d = refl
asked_served a Presence d = refl
asked_served a (Message m) d = refl
asked_served a (Query r) d = refl

numbers_served : (a : events.Around) (fits : ℕ) (zs : List Up) (d : Device) (k : ℕ) → d.sessions.now.up_rest ≡ zs → AreNumbered k d → AreNumbered k (events.served a fits zs d)
numbers_served a fits [] d k split known = known
numbers_served a fits (z ∷ rest) d k split known =
    ap (map number_of) (requested_same d.sessions (events.served a fits (z ∷ rest) d).sessions refl (put_stays z rest d.sessions.now split))
    ∙ known ∙ sym (ap (following 0) (asked_served a z d))

numbers_read : (a : events.Around) (zs : List Down) (d : Device) (k : ℕ) → AreNumbered k d → AreNumbered k (events.read a zs d)
numbers_read a [] d k known = known
numbers_read a (z ∷ rest) d k known = by (events.reads a z d.reading) (reacts a z d.reading)
  where
    moved : Sessions
    moved = events.moved_down z rest d.sessions

    by : (r : events.Reaction) → Reacts d.reading r → AreNumbered k (events.reacted r z rest d)
    by r (Stays request asked page) =
        ap (λ o. numbers_in (events.put_all (events.queries o) moved)) request ∙ ap (map number_of) (none_more [] moved refl) ∙ known ∙ sym (ap (following 0) asked)
    by r (Asks asks) =
        ap (λ o. numbers_in (events.put_all (events.queries o) moved)) asks.request
        ∙ one_more (request_of asks.page) moved d.reading.asked asks.number known ∙ sym (ap (following 0) asks.asked)

numbers_act : (a : events.Around) (act : events.Act) (d : Device) (k : ℕ) → events.May act d → SessionsKept d.sessions → AreNumbered k d → AreNumbered k (events.own a act d)
numbers_act a events.Act.Bind d k may sessions known = known
numbers_act a (events.Act.ReadBound live) d k may sessions known = ap (map number_of) (requested_bound live d.sessions) ∙ known
numbers_act a events.Act.Enable d k may sessions known = known
numbers_act a events.Act.ReadEnabled d k may sessions known = ap (map number_of) (none_more (Carbons ∷ Presence ∷ []) d.sessions refl) ∙ known
numbers_act a events.Act.End d k may sessions known = known
numbers_act a events.Act.Drop d k may sessions known = known
numbers_act a (events.Act.Acknowledge n) d k may sessions known = known
numbers_act a (events.Act.Say to text private) d k may sessions known = ap (map number_of) (none_more _ d.sessions refl) ∙ known
numbers_act a (events.Act.CatchUp max) d k may sessions known = one_more _ d.sessions d.reading.asked refl known
numbers_act a (events.Act.ServerHandles fits full) d k may sessions known = numbers_served a fits d.sessions.now.up_rest d k refl known
numbers_act a events.Act.ClientHandles d k may sessions known = numbers_read a d.sessions.now.down_rest d k known

pub numbers_kept : IsKept AreNumbered
numbers_kept = record { acts = numbers_act; hears = λ takes full t j d k known. known }

pub numbers_begin : (account : List ℕ) → AreNumbered 0 (new_device account)
numbers_begin account = refl

-- as many as the last number says
pub all_requested : (d : Device) (k : ℕ) → AreNumbered k d → length (requested d.sessions) ≡ d.reading.asked
all_requested d k known = sym (length-map (requested d.sessions) number_of) ∙ ap length known ∙ length_after 0 d.reading.asked

-- each of these has no more than all
pub parts_within : {A : Type 0} (f : Session → List A) (ss : List Session) (more n : ℕ) → length (flat_map f ss) + more ≤ n → AllByRecursion (λ s. length (f s) ≤ n) ss
parts_within f [] more n within = tt
parts_within f (s ∷ ss) more n within =
    let both = length-append (f s) (flat_map f ss) in
    (omega arith, parts_within f ss 0 n (omega arith))

pub each_within : {A : Type 0} (f : Session → List A) (s : Sessions) (n : ℕ) → length (flat_map f s.past ++ f s.now) ≤ n → AllByRecursion (λ t. length (f t) ≤ n) (s.past ++ s.now ∷ [])
each_within f s n within =
    let both = length-append (flat_map f s.past) (f s.now) in
    all_append (λ t. length (f t) ≤ n) s.past (s.now ∷ []) (parts_within f s.past 0 n (omega arith)) (omega arith, tt)
