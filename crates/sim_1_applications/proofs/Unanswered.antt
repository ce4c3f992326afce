-- While no answer is under way the client begins no page by handling stanzas; and where it begins one, none is.
use Rattle.std.proofs.Common.{◌≡◌, ◌≢◌, ◌⊎◌, ℕ, ◌+◌, ◌≤◌, Bool, true, false, cond, List, [], ◌∷◌, ◌++◌, Some, None, refl, sym, ap, ◌∙◌, subst, arith, inl, inr}
use Rattle.std.proofs.lemmas.Option.{same_Some}
use Rattle.std.specs.List.{AllByRecursion, slice_get}
use Rattle.std.specs.Prelude.{◌&&◌, not}
use Rattle.sim_1_applications.specs.Stanzas.{Down, answers}
use Rattle.sim_1_applications.specs.Stanzas.Down.{Live}
use Rattle.sim_1_applications.specs.Devices.{AppWorld, Device, OpenPage, Take, first_of, last_of}
use Rattle.sim_1_applications.specs.Devices.Stage.{Counted, Known}
use Rattle.sim_1_applications.specs.Events as events
use Rattle.sim_1_applications.specs.Events.AppEvent.{At, Tick}
use Rattle.sim_1_applications.specs.Kept.{IsAt, IsPage, PageKept, Read, Taken}
use Rattle.sim_1_applications.proofs.Numbered.{answers_append}
use Rattle.sim_1_applications.proofs.Runs.{taken_moves}
use Rattle.sim_1_applications.proofs.TileRuns.{read_moves}
use Rattle.sim_1_applications.specs.Counts.{IsBetween, IsUnanswered}
use Rattle.sim_1_applications.proofs.Reactions.{reacts, Reacts, Stays, Asks, passes}
use Rattle.sim_1_applications.proofs.Rises.{Becomes, Stayed, Acted, Heard, becomes_of, reading_hears, there_after}

-- what is heard is no answer

no_answer : (h f : Bool) (n : ℕ) → (let zs : List Down = cond (h && not f) (Live n ∷ []) [] in answers zs ≡ [])
no_answer true true n = refl
no_answer true false n = refl
no_answer false f n = refl

unanswered_hear : (takes : List Take) (full : List ℕ) (t : Take) (j : ℕ) (d : Device) → IsUnanswered d → IsUnanswered (events.hear takes full t j d)
unanswered_hear takes full t j d none on =
    let live : List Down = cond (events.hears_of t j d && not (events.is_number_among j full)) (Live (last_of takes d.account) ∷ []) [] in
    answers_append d.sessions.now.down_rest live ∙ ap (λ l. l ++ answers live) (none on) ∙ no_answer (events.hears_of t j d) (events.is_number_among j full) (last_of takes d.account)

unanswered_hears : (takes : List Take) (full : List ℕ) (ts : List Take) (j : ℕ) (d : Device) → IsUnanswered d → IsUnanswered (events.hear_all takes full ts j d)
unanswered_hears takes full [] j d none = none
unanswered_hears takes full (t ∷ ts) j d none = unanswered_hears takes full ts j (events.hear takes full t j d) (unanswered_hear takes full t j d none)

-- a page that isn't answered, of a device that is read

abbrev pub PageIs : AppWorld → Device → Type 0
PageIs w d = PageKept w.keep (first_of w.keep (last_of w.takes d.account)) (last_of w.takes d.account) d

pub none_under_way : (w : AppWorld) (d : Device) (page : OpenPage) → PageIs w d → d.reading.page ≡ Some page → page.answer ≡ None → IsUnanswered d
none_under_way w d page kept is unanswered on =
    let first = first_of w.keep (last_of w.takes d.account) in
    let last = last_of w.takes d.account in
    let opened : IsPage w.keep first last d (Some page) = subst (IsPage w.keep first last d) is (kept.page on) in
    let asked : IsAt w.keep first last d page None = subst (IsAt w.keep first last d page) unanswered opened.progress in
    asked.underway

-- the client handles a stanza

-- where no answer is under way it stays with its page
pub record StaysWith (d e : Device) : Type 0 where
  pub asked : e.reading.asked ≡ d.reading.asked
  pub page : e.reading.page ≡ d.reading.page
  pub none : answers e.sessions.now.down_rest ≡ []

first_of_none : (z : Down) (rest : List Down) → answers (z ∷ rest) ≡ [] → (answers (z ∷ []) ≡ []) × (answers rest ≡ [])
first_of_none z rest none = both (answers (z ∷ [])) (answers rest) (sym (answers_append (z ∷ []) rest) ∙ none)
  where
    both : (a b : List Down) → a ++ b ≡ [] → (a ≡ []) × (b ≡ [])
    both [] b e = (refl, e)
    both (x ∷ a) b e = absurd (let no : ⊥ = cc in no)

pub stays_reading : (a : events.Around) (zs : List Down) (d : Device) → d.sessions.now.down_rest ≡ zs → answers zs ≡ [] → StaysWith d (events.read a zs d)
stays_reading a [] d split none = record { asked = refl; page = refl; none = ap answers split }
stays_reading a (z ∷ rest) d split none =
    let both = first_of_none z rest none in
    let is = passes a z d.reading both.0 in
    record { asked = is.asked; page = is.page; none = both.1 }

-- where it begins one, that is open and not answered
pub record Begins (d e : Device) : Type 0 where
  pub page : OpenPage
  pub opens : e.reading.page ≡ Some page
  pub unanswered : page.answer ≡ None
  pub number : page.number ≡ e.reading.asked
  pub asked : e.reading.asked ≡ d.reading.asked + 1

pub begins_reading : (a : events.Around) (zs : List Down) (d : Device) → (let e : Device = events.read a zs d in (e.reading.asked ≡ d.reading.asked) ⊎ Begins d e)
begins_reading a [] d = inl refl
begins_reading a (z ∷ rest) d = by (events.reads a z d.reading) (reacts a z d.reading)
  where
    by : (r : events.Reaction) → Reacts d.reading r → (r.reading.asked ≡ d.reading.asked) ⊎ Begins d (events.reacted r z rest d)
    by r (Stays request asked page) = inl asked
    by r (Asks asks) = inr (record { page = asks.page; opens = asks.opens; unanswered = asks.unanswered; number = asks.number ∙ sym asks.asked; asked = asks.asked })

-- what such an act leads to, of which nothing is heard
pub read_to : (w next : AppWorld) (i : ℕ) (d e : Device) → slice_get w.devices i ≡ Some d → events.Moves (At i events.Act.ClientHandles) w next → slice_get next.devices i ≡ Some e →
    (e ≡ events.read (events.around w d) d.sessions.now.down_rest d) × (d.sessions.online ≡ true)
read_to w next i d e there led here = by (becomes_of (At i events.Act.ClientHandles) w next led i d e there here)
  where
    is_same : (act : events.Act) → At i events.Act.ClientHandles ≡ At i act → act ≡ events.Act.ClientHandles
    is_same act same = let s : events.Act.ClientHandles ≡ act = cc in sym s

    by : Becomes w (At i events.Act.ClientHandles) i d e → (e ≡ events.read (events.around w d) d.sessions.now.down_rest d) × (d.sessions.online ≡ true)
    by (Acted act is may new took same) =
        let act_is = is_same act is in
        let none : new ≡ [] = took ∙ ap (events.taken_by w.accounts w.clock i d) act_is in (
          same ∙ ap (λ ts. events.hear_all (w.takes ++ new) (events.full_of act) ts i (events.own (events.around w d) act d)) none ∙ ap (λ x. events.own (events.around w d) x d) act_is,
          (subst (λ x. events.May x d) act_is may).0,
        )
    by (Heard j act is other new same) = absurd (other (let position : i ≡ j = cc in sym position))
    by (Stayed ms is same) = absurd (let no : ⊥ = cc in no)

-- Along events.

-- the number of the last request stays, or rises by one and no answer is under way; and it stays where none was
pub record LeadsTo (d e : Device) : Type 0 where
  pub few : (e.reading.asked ≡ d.reading.asked) ⊎ ((e.reading.asked ≡ d.reading.asked + 1) × IsUnanswered e)
  pub still : IsUnanswered d → (e.reading.asked ≡ d.reading.asked) × IsUnanswered e

leads_nowhere : (d e : Device) → e ≡ d → LeadsTo d e
leads_nowhere d e same = record {
  few = inl (ap (λ (x : Device). x.reading.asked) same);
  still = λ none. (ap (λ (x : Device). x.reading.asked) same, subst IsUnanswered (sym same) none);
}

leads_on : (d e f : Device) → LeadsTo d e → LeadsTo e f → LeadsTo d f
leads_on d e f first second = record {
  few = elim first.few [
    | inl same ↦ elim second.few [ inl stays ↦ inl (stays ∙ same) | inr more ↦ inr (more.0 ∙ ap (λ n. n + 1) same, more.1) ]
    | inr more ↦ let after = second.still more.1 in inr (after.0 ∙ more.0, after.1)
  ];
  still = λ none. let one = first.still none in let two = second.still one.1 in (two.0 ∙ one.0, two.1);
}

-- an act that leaves what the client asked
quiet_leads : (d e : Device) → e.reading.asked ≡ d.reading.asked → (IsUnanswered d → IsUnanswered e) → LeadsTo d e
quiet_leads d e asked none = record { few = inl asked; still = λ was. (asked, none was) }

hears_leads : (takes : List Take) (full : List ℕ) (ts : List Take) (j : ℕ) (d : Device) → LeadsTo d (events.hear_all takes full ts j d)
hears_leads takes full ts j d = quiet_leads d (events.hear_all takes full ts j d) (ap (λ b. b.asked) (reading_hears takes full ts j d)) (unanswered_hears takes full ts j d)

drop_leads : (a : events.Around) (d : Device) → LeadsTo d (events.own a events.Act.Drop d)
drop_leads a d = quiet_leads d (events.own a events.Act.Drop d) refl (λ none (on : false ≡ true). absurd (let no : ⊥ = cc in no))

unknown : (d : Device) → d.sessions.now.stage ≡ Counted → d.sessions.now.stage ≢ Known
unknown d stage known = let no : ⊥ = cc in no

own_leads : (keep first last : ℕ) (i : ℕ) (a : events.Around) (act : events.Act) (d : Device) → PageKept keep first last d → events.May act d → IsBetween i (At i act) → act ≢ events.Act.ClientHandles → LeadsTo d (events.own a act d)
own_leads keep first last i a events.Act.Bind d kept may between other = quiet_leads d (events.own a events.Act.Bind d) refl (λ none. none)
own_leads keep first last i a (events.Act.ReadBound live) d kept may between other = quiet_leads d (events.own a (events.Act.ReadBound live) d) refl (λ none on. refl)
own_leads keep first last i a events.Act.Enable d kept may between other = quiet_leads d (events.own a events.Act.Enable d) refl (λ none. none)
own_leads keep first last i a events.Act.ReadEnabled d kept may between other = quiet_leads d (events.own a events.Act.ReadEnabled d) refl (λ none on. kept.early (unknown d may.1))
own_leads keep first last i a events.Act.End d kept may between other = quiet_leads d (events.own a events.Act.End d) refl (λ none. none)
own_leads keep first last i a events.Act.Drop d kept may between other = drop_leads a d
own_leads keep first last i a (events.Act.Acknowledge n) d kept may between other = quiet_leads d (events.own a (events.Act.Acknowledge n) d) refl (λ none. none)
own_leads keep first last i a (events.Act.Say to text private) d kept may between other = quiet_leads d (events.own a (events.Act.Say to text private) d) refl (λ none. none)
own_leads keep first last i a (events.Act.CatchUp max) d kept may between other = absurd (between refl)
own_leads keep first last i a (events.Act.ServerHandles fits full) d kept may between other = absurd (between refl)
own_leads keep first last i a events.Act.ClientHandles d kept may between other = absurd (other refl)

read_leads : (w next : AppWorld) (i : ℕ) (d e : Device) → PageIs next e → slice_get w.devices i ≡ Some d → events.Moves (At i events.Act.ClientHandles) w next → slice_get next.devices i ≡ Some e → LeadsTo d e
read_leads w next i d e kept there led here =
    let to = read_to w next i d e there led here in
    let x = events.around w d in
    let zs = d.sessions.now.down_rest in
    record {
      few = elim (begins_reading x zs d) [
        | inl same ↦ inl (ap (λ (y : Device). y.reading.asked) to.0 ∙ same)
        | inr begins ↦ inr (
          ap (λ (y : Device). y.reading.asked) to.0 ∙ begins.asked,
          none_under_way next e begins.page kept (ap (λ (y : Device). y.reading.page) to.0 ∙ begins.opens) begins.unanswered,
        )
      ];
      still = λ none.
          let stays = stays_reading x zs d refl (none to.1) in
          (ap (λ (y : Device). y.reading.asked) to.0 ∙ stays.asked, λ on. ap (λ (y : Device). answers y.sessions.now.down_rest) to.0 ∙ stays.none);
    }

data IsHandling (act : events.Act) : Type 0 where
  Handling : act ≡ events.Act.ClientHandles → IsHandling act
  Other : act ≢ events.Act.ClientHandles → IsHandling act

is_handling : (act : events.Act) → IsHandling act
is_handling events.Act.ClientHandles = Handling refl
is_handling events.Act.Bind = Other (λ e. let no : ⊥ = cc in no)
is_handling (events.Act.ReadBound live) = Other (λ e. let no : ⊥ = cc in no)
is_handling events.Act.Enable = Other (λ e. let no : ⊥ = cc in no)
is_handling events.Act.ReadEnabled = Other (λ e. let no : ⊥ = cc in no)
is_handling events.Act.End = Other (λ e. let no : ⊥ = cc in no)
is_handling events.Act.Drop = Other (λ e. let no : ⊥ = cc in no)
is_handling (events.Act.Acknowledge n) = Other (λ e. let no : ⊥ = cc in no)
is_handling (events.Act.Say to text private) = Other (λ e. let no : ⊥ = cc in no)
is_handling (events.Act.CatchUp max) = Other (λ e. let no : ⊥ = cc in no)
is_handling (events.Act.ServerHandles fits full) = Other (λ e. let no : ⊥ = cc in no)

event_leads : (event : events.AppEvent) (w next : AppWorld) (i : ℕ) (d e : Device) → Read w → Read next → IsBetween i event → slice_get w.devices i ≡ Some d → events.Moves event w next → slice_get next.devices i ≡ Some e → LeadsTo d e
event_leads event w next i d e before after_it between there led here = by (becomes_of event w next led i d e there here)
  where
    acted : (act : events.Act) → event ≡ At i act → events.May act d → (new : List Take) → e ≡ events.hear_all (w.takes ++ new) (events.full_of act) new i (events.own (events.around w d) act d) → IsHandling act → LeadsTo d e
    acted act is may new same (Handling handles) =
        read_leads w next i d e (after_it.devices i e here).page there (subst (λ x. events.Moves x w next) (is ∙ ap (At i) handles) led) here
    acted act is may new same (Other other) =
        let own = events.own (events.around w d) act d in
        subst (LeadsTo d) (sym same)
        (leads_on d own (events.hear_all (w.takes ++ new) (events.full_of act) new i own)
        (own_leads w.keep _ _ i (events.around w d) act d (before.devices i d there).page may (subst (IsBetween i) is between) other)
        (hears_leads (w.takes ++ new) (events.full_of act) new i own))

    by : Becomes w event i d e → LeadsTo d e
    by (Stayed ms is same) = leads_nowhere d e same
    by (Heard j act is other new same) = subst (LeadsTo d) (sym same) (hears_leads (w.takes ++ new) (events.full_of act) new i d)
    by (Acted act is may new took same) = acted act is may new same (is_handling act)

pub leads_along : (all : List events.AppEvent) (w last : AppWorld) (i : ℕ) (d e : Device) → Taken w → Read w → AllByRecursion (IsBetween i) all → events.Reaches all w last →
    slice_get w.devices i ≡ Some d → slice_get last.devices i ≡ Some e → LeadsTo d e
leads_along [] w last i d e taken read between led there here =
    leads_nowhere d e (same_Some e d (sym here ∙ ap (λ (v : AppWorld). slice_get v.devices i) led ∙ there))
leads_along (event ∷ all) w last i d e taken read between led there here =
    let next = read_moves event w led.0 led.1 taken read in
    let one = there_after event w led.0 i d led.1 there in
    leads_on d one.0 e (event_leads event w led.0 i d one.0 read next between.0 there led.1 one.1)
    (leads_along all led.0 last i one.0 e (taken_moves event w led.0 led.1 taken) next between.1 led.2 one.1 here)

-- The clauses.

pub leaves_page : (w next : AppWorld) (i : ℕ) (d e : Device) (page : OpenPage) → PageIs w d → slice_get w.devices i ≡ Some d → d.reading.page ≡ Some page → page.answer ≡ None →
    events.Moves (At i events.Act.ClientHandles) w next → slice_get next.devices i ≡ Some e → (e.reading.asked ≡ d.reading.asked) × (e.reading.page ≡ Some page)
leaves_page w next i d e page kept there is unanswered led here =
    let to = read_to w next i d e there led here in
    let stays = stays_reading (events.around w d) d.sessions.now.down_rest d refl (none_under_way w d page kept is unanswered to.1) in
    (ap (λ (y : Device). y.reading.asked) to.0 ∙ stays.asked, ap (λ (y : Device). y.reading.page) to.0 ∙ stays.page ∙ is)

pub begins_page : (w next : AppWorld) (i : ℕ) (d e : Device) → slice_get w.devices i ≡ Some d → events.Moves (At i events.Act.ClientHandles) w next → slice_get next.devices i ≡ Some e →
    e.reading.asked ≢ d.reading.asked → (page : OpenPage) × (e.reading.page ≡ Some page) × (page.answer ≡ None) × (page.number ≡ e.reading.asked)
begins_page w next i d e there led here other =
    let to = read_to w next i d e there led here in
    let asked = ap (λ (y : Device). y.reading.asked) to.0 in
    elim (begins_reading (events.around w d) d.sessions.now.down_rest d) [
      | inl same ↦ absurd (other (asked ∙ same))
      | inr begins ↦ (begins.page, ap (λ (y : Device). y.reading.page) to.0 ∙ begins.opens, begins.unanswered, begins.number ∙ sym asked)
    ]

pub once : (all : List events.AppEvent) (w last : AppWorld) (i : ℕ) (d e : Device) → Taken w → Read w → AllByRecursion (IsBetween i) all → events.Reaches all w last →
    slice_get w.devices i ≡ Some d → slice_get last.devices i ≡ Some e →
    (e.reading.asked ≤ d.reading.asked + 1) × (IsUnanswered d → (e.reading.asked ≡ d.reading.asked) × IsUnanswered e)
once all w last i d e taken read between led there here =
    let leads = leads_along all w last i d e taken read between led there here in
    (elim leads.few [ inl same ↦ omega arith | inr more ↦ let one = more.0 in omega arith ], leads.still)
