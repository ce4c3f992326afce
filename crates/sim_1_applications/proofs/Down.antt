-- What the server put to a session: by what it handled, and how many takes there were.
use Rattle.std.proofs.Common.{◌≡◌, ℕ, suc, ◌+◌, ◌-◌, ◌*◌, ◌≤◌, ◌==◌, Bool, true, false, cond, List, [], ◌∷◌, ◌++◌, Option, Some, None, length, map, take, refl, sym, ap, ◌∙◌, subst, arith}
use Rattle.std.proofs.lemmas.List.{length-append, length_push, length-take, length-map}
use Rattle.std.proofs.lemmas.Option.{same_Some}
use Rattle.std.specs.List.{AllByRecursion}
use Rattle.std.specs.Option.{option_map}
use Rattle.std.specs.Prelude.{◌&&◌, nat_le, not}
use Rattle.sim_1_applications.specs.Stanzas.{Request, Up, Down, requests}
use Rattle.sim_1_applications.specs.Stanzas.Up.{Carbons, Presence, Message, Query}
use Rattle.sim_1_applications.specs.Stanzas.Down.{Bounced, NotFound, Res, Fin, Live}
use Rattle.sim_1_applications.specs.Devices.{Device, OpenPage, Session, Take, last_of, new_device}
use Rattle.sim_1_applications.specs.Answers.{edge, following, is_position, last_in, page_answer_of, page_from, size}
use Rattle.sim_1_applications.specs.Events as events
use Rattle.sim_1_applications.specs.Kept.{SessionsKept}
use Rattle.sim_1_applications.proofs.Intervals.{length_after}
use Rattle.sim_1_applications.proofs.Lists.{all_append, all_rest, all_weaker}
use Rattle.sim_1_applications.proofs.Numbered.{requests_append}
use Rattle.sim_1_applications.specs.Counts.{IsDownFew}
use Rattle.sim_1_applications.proofs.EachDevice.{IsKept}
use Rattle.sim_1_applications.proofs.Reactions.{reacts, Reacts, Stays, Asks, HasMost}

abbrev pub IsSmall : Request → Type 0
IsSmall r = r.max ≤ 100

-- what is open and what is asked for is small, and each session's way down has few
pub record DownKept (k : ℕ) (d : Device) : Type 0 where
  pub page : (p : OpenPage) → d.reading.page ≡ Some p → p.max ≤ 100
  pub asked : AllByRecursion IsSmall (requests d.sessions.now.up_rest)
  pub past : AllByRecursion (IsDownFew k) d.sessions.past
  pub now : IsDownFew k d.sessions.now

-- what is put in answer to a stanza

length_answer : (first last : ℕ) (r : Request) (b : Bool) → (let zs : List Down = cond b (page_from (edge first r.after) first last r) (NotFound r.number ∷ []) in length zs ≤ r.max + 1)
length_answer first last r false = omega arith
length_answer first last r true =
    let low = edge first r.after in
    let ns = following low (size low last r.max) in
    let ends = length_push (map (Res r.number) ns) (Fin r.number (nat_le (last - low) r.max) (last_in ns) (last + 1 - first)) in
    let many = length-map {B = Down} ns (Res r.number) in
    let count = length_after low (size low last r.max) in
    omega arith

length_bounce : (b : Bool) (e n : ℕ) → (let zs : List Down = cond b [] (Bounced e n ∷ []) in length zs ≤ 101)
length_bounce true e n = omega arith
length_bounce false e n = omega arith

length_reply : (a : events.Around) (z : Up) (rest : List Up) → AllByRecursion IsSmall (requests (z ∷ rest)) → length (events.reply a z) ≤ 101
length_reply a Carbons rest small = omega arith
length_reply a Presence rest small = omega arith
length_reply a (Message m) rest small = length_bounce (events.is_among m.to a.accounts) m.epoch m.n
length_reply a (Query r) rest small = let few = length_answer a.first a.last r (is_position a.first a.last r.after) in let low = small.0 in omega arith

-- more takes

few_grows : (k n : ℕ) (s : Session) → k ≤ n → IsDownFew k s → IsDownFew n s
few_grows k n s more few = omega arith

past_grows : (k n : ℕ) (ss : List Session) → k ≤ n → AllByRecursion (IsDownFew k) ss → AllByRecursion (IsDownFew n) ss
past_grows k n ss more few = all_weaker (IsDownFew k) (IsDownFew n) ss (λ s one. few_grows k n s more one) few

-- the acts

-- more go up
more_asked : (zs : List Up) (d : Device) → AllByRecursion IsSmall (requests zs) → AllByRecursion IsSmall (requests d.sessions.now.up_rest) → AllByRecursion IsSmall (requests (d.sessions.now.up_rest ++ zs))
more_asked zs d new old =
    subst (AllByRecursion IsSmall) (sym (requests_append d.sessions.now.up_rest zs)) (all_append IsSmall (requests d.sessions.now.up_rest) (requests zs) old new)

rest_asked : (z : Up) (rest : List Up) → AllByRecursion IsSmall (requests (z ∷ rest)) → AllByRecursion IsSmall (requests rest)
rest_asked z rest small = all_rest IsSmall (requests (z ∷ [])) (requests rest) (subst (AllByRecursion IsSmall) (requests_append (z ∷ []) rest) small)

-- an answer is noted, and the page is as large as it was
page_of_request : (a : events.Around) (r : Request) (o : Option OpenPage) (p : OpenPage) → option_map (events.answered a r) o ≡ Some p → HasMost o p
page_of_request a r None p is = absurd (let no : ⊥ = cc in no)
page_of_request a r (Some old) p is = chosen (old.number == r.number) (events.answered a r old) refl (same_Some (events.answered a r old) p is)
  where
    chosen : (b : Bool) (new : OpenPage) → new ≡ cond b (record old { answer = Some (record { first = a.first; last = a.last; rest = page_answer_of a.first a.last r }) }) old → new ≡ p → HasMost (Some old) p
    chosen true new made same = (old, refl, sym (ap (λ (q : OpenPage). q.max) same) ∙ ap (λ (q : OpenPage). q.max) made)
    chosen false new made same = (old, refl, sym (ap (λ (q : OpenPage). q.max) same) ∙ ap (λ (q : OpenPage). q.max) made)

page_served : (a : events.Around) (z : Up) (d : Device) (p : OpenPage) → (events.reading_served a z d.reading).page ≡ Some p → HasMost d.reading.page p
page_served a Carbons d p is = (p, is, refl)
page_served a Presence d p is = (p, is, refl)
page_served a (Message m) d p is = (p, is, refl)
page_served a (Query r) d p is = page_of_request a r d.reading.page p is

still_small : (d : Device) (p : OpenPage) → ((q : OpenPage) → d.reading.page ≡ Some q → q.max ≤ 100) → HasMost d.reading.page p → p.max ≤ 100
still_small d p small was = let old = small was.0 was.1 in let same = was.2 in omega arith

served : (a : events.Around) (fits : ℕ) (zs : List Up) (d : Device) (k : ℕ) → d.sessions.now.up_rest ≡ zs → DownKept k d → DownKept k (events.served a fits zs d)
served a fits [] d k split kept = kept
served a fits (z ∷ rest) d k split kept =
    let small : AllByRecursion IsSmall (requests (z ∷ rest)) = subst (λ zs. AllByRecursion IsSmall (requests zs)) split kept.asked in
    record {
      page = λ p is. still_small d p kept.page (page_served a z d p is);
      asked = rest_asked z rest small;
      past = kept.past;
      now =
          let was = kept.now in
          let few = length_reply a z rest small in
          let puts = length-take fits (events.reply a z) in
          let got = length_push d.sessions.now.up_got z in
          let more = length-append d.sessions.now.down_rest (take fits (events.reply a z)) in
          let before = length-append d.sessions.now.down_got d.sessions.now.down_rest in
          let after_it = length-append d.sessions.now.down_got (d.sessions.now.down_rest ++ take fits (events.reply a z)) in
          omega arith;
    }

-- the client handles a stanza: what is put stays as many
same_many : (z : Down) (rest got : List Down) → length ((got ++ z ∷ []) ++ rest) ≡ length (got ++ z ∷ rest)
same_many z rest got =
    let first = length-append (got ++ z ∷ []) rest in
    let one = length_push got z in
    let second = length-append got (z ∷ rest) in
    omega arith

handled : (a : events.Around) (zs : List Down) (d : Device) (k : ℕ) → d.sessions.now.down_rest ≡ zs → DownKept k d → DownKept k (events.read a zs d)
handled a [] d k split kept = kept
handled a (z ∷ rest) d k split kept = by (events.reads a z d.reading) (reacts a z d.reading)
  where
    now : length ((d.sessions.now.down_got ++ z ∷ []) ++ rest) ≤ 101 * length d.sessions.now.up_got + k
    now =
        let same = same_many z rest d.sessions.now.down_got in
        let was = kept.now in
        let is = ap (λ l. length (d.sessions.now.down_got ++ l)) split in
        omega arith

    by : (r : events.Reaction) → Reacts d.reading r → DownKept k (events.reacted r z rest d)
    by r (Stays request asked page) = record {
      page = λ p is. still_small d p kept.page (page p is);
      asked = subst (λ o. AllByRecursion IsSmall (requests (d.sessions.now.up_rest ++ events.queries o))) (sym request) (more_asked [] d tt kept.asked);
      past = kept.past;
      now = now;
    }
    by r (Asks asks) =
        let small : asks.page.max ≤ 100 = still_small d asks.page kept.page asks.most in
        record {
          page = λ p is. let same : asks.page ≡ p = same_Some asks.page p (sym asks.opens ∙ is) in let e = ap (λ (q : OpenPage). q.max) same in omega arith;
          asked = subst (λ o. AllByRecursion IsSmall (requests (d.sessions.now.up_rest ++ events.queries o))) (sym asks.request) (more_asked _ d (small, tt) kept.asked);
          past = kept.past;
          now = now;
        }

-- the session is a past one, and a new one begins
bound : (live : Bool) (d : Device) (k : ℕ) → DownKept k d → DownKept k (events.on_sessions (events.reads_bound live) d)
bound live d k kept = record {
  page = kept.page;
  asked = tt;
  past = all_append (IsDownFew k) d.sessions.past (d.sessions.now ∷ []) kept.past (kept.now, tt);
  now = omega arith;
}

asks : (a : events.Around) (max : ℕ) (d : Device) (k : ℕ) → max ≤ 100 → DownKept k d → DownKept k (events.own a (events.Act.CatchUp max) d)
asks a max d k small kept = record {
  page = λ p is. let same = ap (λ (q : OpenPage). q.max) (same_Some _ p is) in omega arith;
  asked = more_asked _ d (small, tt) kept.asked;
  past = kept.past;
  now = kept.now;
}

acts : (a : events.Around) (act : events.Act) (d : Device) (k : ℕ) → events.May act d → SessionsKept d.sessions → DownKept k d → DownKept k (events.own a act d)
acts a events.Act.Bind d k may sessions kept = record { page = kept.page; asked = kept.asked; past = kept.past; now = kept.now }
acts a (events.Act.ReadBound live) d k may sessions kept = bound live d k kept
acts a events.Act.Enable d k may sessions kept = record { page = kept.page; asked = kept.asked; past = kept.past; now = kept.now }
acts a events.Act.ReadEnabled d k may sessions kept = record { page = kept.page; asked = more_asked (Carbons ∷ Presence ∷ []) d tt kept.asked; past = kept.past; now = kept.now }
acts a events.Act.End d k may sessions kept = record { page = kept.page; asked = kept.asked; past = kept.past; now = kept.now }
acts a events.Act.Drop d k may sessions kept = record { page = λ p (is : None ≡ Some p). absurd (let no : ⊥ = cc in no); asked = kept.asked; past = kept.past; now = kept.now }
acts a (events.Act.Acknowledge n) d k may sessions kept = record { page = kept.page; asked = kept.asked; past = kept.past; now = kept.now }
acts a (events.Act.Say to text private) d k may sessions kept = record { page = kept.page; asked = more_asked _ d tt kept.asked; past = kept.past; now = kept.now }
acts a (events.Act.CatchUp max) d k may sessions kept = asks a max d k may.3 kept
acts a (events.Act.ServerHandles fits full) d k may sessions kept = served a fits d.sessions.now.up_rest d k refl kept
acts a events.Act.ClientHandles d k may sessions kept = handled a d.sessions.now.down_rest d k refl kept

-- one live message at most is put for a take
length_told : (b : Bool) (n : ℕ) → (let zs : List Down = cond b (Live n ∷ []) [] in length zs ≤ 1)
length_told true n = omega arith
length_told false n = omega arith

hears : (takes : List Take) (full : List ℕ) (t : Take) (j : ℕ) (d : Device) (k : ℕ) → DownKept k d → DownKept (suc k) (events.hear takes full t j d)
hears takes full t j d k kept = record {
  page = kept.page;
  asked = kept.asked;
  past = past_grows k (suc k) d.sessions.past (omega arith) kept.past;
  now =
      let live = cond (events.hears_of t j d && not (events.is_number_among j full)) (Live (last_of takes d.account) ∷ []) [] in
      let one = length_told (events.hears_of t j d && not (events.is_number_among j full)) (last_of takes d.account) in
      let was = kept.now in
      let more = length-append d.sessions.now.down_rest live in
      let before = length-append d.sessions.now.down_got d.sessions.now.down_rest in
      let after_it = length-append d.sessions.now.down_got (d.sessions.now.down_rest ++ live) in
      omega arith;
}

pub down_kept : IsKept DownKept
down_kept = record {
  acts = acts;
  hears = hears;
}

pub down_begins : (account : List ℕ) → DownKept 0 (new_device account)
down_begins account = record { page = λ p (is : None ≡ Some p). absurd (let no : ⊥ = cc in no); asked = tt; past = tt; now = omega arith }
