-- What the client does where it handles a stanza: it stays with its page, or asks for one that isn't answered.
use Rattle.std.proofs.Common.{◌≡◌, ℕ, ◌+◌, ◌==◌, Bool, true, false, cond, [], ◌∷◌, ◌++◌, Option, Some, None, length, refl, sym, ap, ◌∙◌}
use Rattle.std.specs.Option.{option_map, option_map_or}
use Rattle.std.specs.Prelude.{◌&&◌, ◌||◌, not, nat_lt}
use Rattle.sim_1_applications.specs.Stanzas.{Down, answers}
use Rattle.sim_1_applications.specs.Stanzas.Down.{Accepted, Bounced, Live, Res, Fin, NotFound}
use Rattle.sim_1_applications.specs.Devices.{Reading, OpenPage, log_of}
use Rattle.sim_1_applications.specs.Answers.{last_in}
use Rattle.sim_1_applications.specs.Events as events
use Rattle.sim_1_applications.specs.Kept.{request_of}

-- a page asks for as many entries as the one before
abbrev pub HasMost : Option OpenPage → OpenPage → Type 0
HasMost o page = (old : OpenPage) × (o ≡ Some old) × (page.max ≡ old.max)

-- the request that is put, and its page
pub record IsAsking (b : Reading) (r : events.Reaction) : Type 0 where
  pub page : OpenPage
  pub request : r.request ≡ Some (request_of page)
  pub opens : r.reading.page ≡ Some page
  pub number : page.number ≡ b.asked + 1
  pub asked : r.reading.asked ≡ b.asked + 1
  pub unanswered : page.answer ≡ None
  pub most : HasMost b.page page

pub data Reacts (b : Reading) (r : events.Reaction) : Type 0 where
  Stays : r.request ≡ None → r.reading.asked ≡ b.asked → ((page : OpenPage) → r.reading.page ≡ Some page → HasMost b.page page) → Reacts b r
  Asks : IsAsking b r → Reacts b r

-- the page is the one that was, or none is
stays_with : (b c : Reading) → c.asked ≡ b.asked → c.page ≡ b.page → Reacts b (events.quiet c)
stays_with b c asked page = Stays refl asked (λ p is. (p, sym page ∙ is, refl))

refuses : (b : Reading) → Reacts b (events.refuse b)
refuses b = stays_with b (record b { faulty = true }) refl refl

result_reacts : (q n : ℕ) (page : OpenPage) (b : Reading) → b.page ≡ Some page → Reacts b (events.result q n page b)
result_reacts q n page b is = chosen (page.number == q && nat_lt (length page.results) page.max)
  where
    more : OpenPage
    more = record page { results = page.results ++ n ∷ []; answer = option_map events.passed page.answer }

    chosen : (t : Bool) → Reacts b (cond t (events.quiet (record b { page = Some more })) (events.refuse b))
    chosen true = Stays refl refl (λ p (e : Some more ≡ Some p). (page, is, let same : more ≡ p = cc in sym (ap (λ (o : OpenPage). o.max) same)))
    chosen false = refuses b

asks_anew : (after : Option ℕ) (began : ℕ) (page : OpenPage) (b c : Reading) → b.page ≡ Some page → c.asked ≡ b.asked → Reacts b (events.asking after page.max began c)
asks_anew after began page b c is asked = Asks (record {
  page = record { number = c.asked + 1; after = after; max = page.max; results = []; began = began; answer = None };
  request = refl;
  opens = refl;
  number = ap (λ n. n + 1) asked;
  asked = ap (λ n. n + 1) asked;
  unanswered = refl;
  most = (page, is, refl);
})

restart_reacts : (q : ℕ) (page : OpenPage) (b : Reading) → b.page ≡ Some page → Reacts b (events.restart q page b)
restart_reacts q page b is = chosen (page.number == q && option_map_or (λ n. true) page.after false)
  where
    chosen : (t : Bool) → Reacts b (cond t (events.asking None page.max page.began b) (events.refuse b))
    chosen true = asks_anew None page.began page b b is refl
    chosen false = refuses b

fin_reacts : (a : events.Around) (q : ℕ) (complete : Bool) (last : Option ℕ) (count : ℕ) (page : OpenPage) (b : Reading) → b.page ≡ Some page → Reacts b (events.fin a q complete last count page b)
fin_reacts a q complete last count page b is =
    chosen (page.number == q && events.same_position last (last_in page.results) && events.are_new (log_of b) page.results && (complete || not (events.is_empty page.results))) complete
  where
    chosen : (t c : Bool) →
        Reacts b (cond t (cond c (events.quiet (events.over a complete count page b)) (events.asking (last_in (events.over a complete count page b).run) page.max a.last (events.over a complete count page b))) (events.refuse b))
    chosen true true = Stays refl refl (λ p (e : None ≡ Some p). absurd (let no : ⊥ = cc in no))
    chosen true false = asks_anew (last_in (events.over a complete count page b).run) a.last page b (events.over a complete count page b) is refl
    chosen false c = refuses b

with_page_reacts : (f : OpenPage → Reading → events.Reaction) (b : Reading) → ((page : OpenPage) → b.page ≡ Some page → Reacts b (f page b)) → Reacts b (events.with_page f b)
with_page_reacts f b each = of_page b.page refl
  where
    of_page : (o : Option OpenPage) → b.page ≡ o → Reacts b (option_map_or (λ page. f page b) o (events.refuse b))
    of_page None is = refuses b
    of_page (Some page) is = each page is

pub reacts : (a : events.Around) (z : Down) (b : Reading) → Reacts b (events.reads a z b)
reacts a Accepted b = stays_with b b refl refl
reacts a (Bounced e n) b = stays_with b b refl refl
reacts a (Live n) b = stays_with b (events.hold n b) refl refl
reacts a (Res q n) b = with_page_reacts (events.result q n) b (λ page is. result_reacts q n page b is)
reacts a (Fin q complete last count) b = with_page_reacts (events.fin a q complete last count) b (λ page is. fin_reacts a q complete last count page b is)
reacts a (NotFound q) b = with_page_reacts (events.restart q) b (λ page is. restart_reacts q page b is)

-- what is no answer leaves the page, and asks for none
pub record IsPassed (b : Reading) (r : events.Reaction) : Type 0 where
  pub request : r.request ≡ None
  pub asked : r.reading.asked ≡ b.asked
  pub page : r.reading.page ≡ b.page

pub passes : (a : events.Around) (z : Down) (b : Reading) → answers (z ∷ []) ≡ [] → IsPassed b (events.reads a z b)
passes a Accepted b none = record { request = refl; asked = refl; page = refl }
passes a (Bounced e n) b none = record { request = refl; asked = refl; page = refl }
passes a (Live n) b none = record { request = refl; asked = refl; page = refl }
passes a (Res q n) b none = absurd (let wrong : Res q n ∷ [] ≡ [] = none in let no : ⊥ = cc in no)
passes a (Fin q complete last count) b none = absurd (let wrong : Fin q complete last count ∷ [] ≡ [] = none in let no : ⊥ = cc in no)
passes a (NotFound q) b none = absurd (let wrong : NotFound q ∷ [] ≡ [] = none in let no : ⊥ = cc in no)
