-- The client handles the next stanza of an answer: what it is, and what becomes of the page.
use Rattle.std.proofs.Common.{◌≡◌, ℕ, suc, zero, ◌+◌, ◌-◌, ◌<◌, ◌≤◌, ◌≢◌, Bool, true, false, cond, List, [], ◌∷◌, ◌++◌, Option, Some, None, length, map, drop, refl, sym, ap, ◌∙◌, subst, arith, append_assoc, inl, inr}
use Rattle.std.specs.List.{slice_get}
use Rattle.std.specs.Prelude.{◌&&◌, ◌||◌, not, nat_le}
use Rattle.std.specs.Option.{option_map, option_map_or}
use Rattle.std.proofs.lemmas.Bool.{eq-eqb, lt-ltb, cases_Bool, leb-false, le-leb}
use Rattle.std.proofs.lemmas.List.{append-nil, map_push}
use Rattle.sim_1_applications.specs.Stanzas.{Request, Up, Down, requests, answers}
use Rattle.sim_1_applications.specs.Stanzas.Up.{Query}
use Rattle.sim_1_applications.specs.Stanzas.Down.{Res, Fin, NotFound}
use Rattle.sim_1_applications.specs.Devices.{Reading, Device, OpenPage, Answer, log_of}
use Rattle.sim_1_applications.specs.Devices.Row.{Present}
use Rattle.sim_1_applications.specs.Devices.Stage.{Known}
use Rattle.sim_1_applications.specs.Answers.{following, last_in, page_answer_of, is_position, page_from, edge, size}
use Rattle.sim_1_applications.specs.Events.{number_or_none}
use Rattle.sim_1_applications.specs.Events as events
use Rattle.sim_1_applications.specs.Kept.{IsFront, IsPosition, IsAnswered, IsAt, IsOpen, IsPage, PageKept, AreLogged, request_of}
use Rattle.sim_1_applications.proofs.Numbered.{requests_append, answers_append}
use Rattle.sim_1_applications.proofs.Intervals.{next_of_page, not_found_next, new_after, some_left}
use Rattle.sim_1_applications.proofs.Logs.{IsTaken, broken_after, run_after, taken, logged_then}

-- the next stanza is the next one of the answer to the open page
pub record IsNext (keep first last : ℕ) (d : Device) (page : OpenPage) (a : Answer) (z : Down) (rest tail : List Down) : Type 0 where
  pub page_is : d.reading.page ≡ Some page
  pub opened : IsOpen keep first last d page
  pub answer_is : page.answer ≡ Some a
  pub answered : IsAnswered keep first last d page a
  pub split : a.rest ≡ z ∷ tail
  pub underway : IsFront (answers rest) tail
  pub whole : d.sessions.row ≡ Present → answers rest ≡ tail

pub record Next (keep first last : ℕ) (d : Device) (z : Down) (rest : List Down) : Type 0 where
  pub page : OpenPage
  pub a : Answer
  pub tail : List Down
  pub is : IsNext keep first last d page a z rest tail

pub next_answer : (keep first last : ℕ) (d : Device) (z : Down) (rest : List Down) → d.sessions.online ≡ true → d.sessions.now.down_rest ≡ z ∷ rest → answers (z ∷ []) ≡ z ∷ [] →
    PageKept keep first last d → Next keep first last d z rest
next_answer keep first last d z rest on split is kept = of_page d.reading.page refl (kept.page on)
  where
    all : answers d.sessions.now.down_rest ≡ z ∷ answers rest
    all = ap answers split ∙ answers_append (z ∷ []) rest ∙ ap (λ l. l ++ answers rest) is

    of_answer : (page : OpenPage) → d.reading.page ≡ Some page → IsOpen keep first last d page → (o : Option Answer) → page.answer ≡ o → IsAt keep first last d page o → Next keep first last d z rest
    of_answer page p opened None w was = absurd (let has = all in let none : answers d.sessions.now.down_rest ≡ [] = was.underway in let bad : ⊥ = cc in bad)
    of_answer page p opened (Some a) w was =
        let front : IsFront (answers d.sessions.now.down_rest) a.rest = was.underway in
        let whole : a.rest ≡ z ∷ (answers rest ++ front.0) = front.1 ∙ ap (λ l. l ++ front.0) all in
        record {
          page = page;
          a = a;
          tail = answers rest ++ front.0;
          is = record {
            page_is = p;
            opened = opened;
            answer_is = w;
            answered = was;
            split = whole;
            underway = (front.0, refl);
            whole = λ row. let same : z ∷ answers rest ≡ z ∷ (answers rest ++ front.0) = sym all ∙ was.whole row ∙ whole in let e : answers rest ≡ answers rest ++ front.0 = cc in e;
          };
        }

    of_page : (o : Option OpenPage) → d.reading.page ≡ o → IsPage keep first last d o → Next keep first last d z rest
    of_page None p was = absurd (let has = all in let none : answers d.sessions.now.down_rest ≡ [] = was.1 in let bad : ⊥ = cc in bad)
    of_page (Some page) p was = of_answer page p was page.answer refl was.progress

-- What it is.

-- the numbers of the page
abbrev pub numbers_of : Answer → OpenPage → List ℕ
numbers_of a page = following (edge a.first page.after) (size (edge a.first page.after) a.last page.max)

abbrev pub end_of : Answer → OpenPage → Down
end_of a page = Fin page.number (nat_le (a.last - edge a.first page.after) page.max) (last_in (numbers_of a page)) (a.last + 1 - a.first)

-- a result and more to come; the page's end; or the place wasn't kept
pub data Kind (page : OpenPage) (a : Answer) (z : Down) (tail : List Down) : Type 0 where
  AResult : (n : ℕ) (more : List ℕ) → z ≡ Res page.number n → numbers_of a page ≡ page.results ++ n ∷ more → tail ≡ map (Res page.number) more ++ end_of a page ∷ [] → Kind page a z tail
  AnEnd : is_position a.first a.last page.after ≡ true → z ≡ end_of a page → page.results ≡ numbers_of a page → tail ≡ [] → Kind page a z tail
  NoPlace : is_position a.first a.last page.after ≡ false → z ≡ NotFound page.number → page.results ≡ [] → tail ≡ [] → Kind page a z tail

pub kind_of : (page : OpenPage) (a : Answer) (z : Down) (tail : List Down) → map (Res page.number) page.results ++ z ∷ tail ≡ page_answer_of a.first a.last (request_of page) → Kind page a z tail
kind_of page a z tail same = chosen (is_position a.first a.last page.after) refl same
  where
    chosen : (b : Bool) → is_position a.first a.last page.after ≡ b →
        map (Res page.number) page.results ++ z ∷ tail ≡ cond b (page_from (edge a.first page.after) a.first a.last (request_of page)) (NotFound page.number ∷ []) → Kind page a z tail
    chosen true position e =
        elim (next_of_page page.number page.results (numbers_of a page) z (end_of a page) tail (λ n wrong. let bad : ⊥ = cc in bad) e) [
          | inl more ↦ AResult more.0 more.1 more.2 more.3 more.4
          | inr over ↦ AnEnd position over.0 over.1 over.2
        ]
    chosen false position e = let three = not_found_next page.number page.number page.results z tail e in NoPlace position three.1 three.0 three.2

-- A result.

-- what reading a result comes to
abbrev pub with_result : Reading → OpenPage → Answer → ℕ → List Down → Reading
with_result b page a n tail = record b { page = Some (record page { results = page.results ++ n ∷ []; answer = Some (record a { rest = tail }) }) }

size_most : (low last most : ℕ) → size low last most ≤ most
size_most low last most = omega arith

pub both_true : (b c : Bool) → b ≡ true → c ≡ true → (b && c) ≡ true
both_true b c first second = ap (λ e. e && c) first ∙ second

pub reads_result : (x : events.Around) (b : Reading) (page : OpenPage) (a : Answer) (n : ℕ) (tail : List Down) → b.page ≡ Some page → page.answer ≡ Some a → a.rest ≡ Res page.number n ∷ tail →
    length page.results < page.max → events.reads x (Res page.number n) b ≡ events.quiet (with_result b page a n tail)
reads_result x b page a n tail is answer split short =
    ap (λ o. option_map_or (λ p. events.result page.number n p b) o (events.refuse b)) is
    ∙ ap (λ t. cond t (events.quiet (record b { page = Some (record page { results = page.results ++ n ∷ []; answer = option_map events.passed page.answer }) })) (events.refuse b))
    (both_true _ _ (eq-eqb page.number page.number refl) (lt-ltb (length page.results) page.max short))
    ∙ ap (λ o. events.quiet (record b { page = Some (record page { results = page.results ++ n ∷ []; answer = option_map events.passed o }) })) answer
    ∙ ap (λ zs. events.quiet (record b { page = Some (record page { results = page.results ++ n ∷ []; answer = Some (record a { rest = drop 1 zs }) }) })) split

-- A6 behind a result
pub page_result : (keep : ℕ) (x : events.Around) (d : Device) (page : OpenPage) (a : Answer) (n : ℕ) (more : List ℕ) (rest tail : List Down) →
    IsNext keep x.first x.last d page a (Res page.number n) rest tail → numbers_of a page ≡ page.results ++ n ∷ more → tail ≡ map (Res page.number) more ++ end_of a page ∷ [] →
    d.sessions.online ≡ true → d.sessions.now.stage ≡ Known → PageKept keep x.first x.last d →
    PageKept keep x.first x.last (events.reacted (events.quiet (with_result d.reading page a n tail)) (Res page.number n) rest d)
page_result keep x d page a n more rest tail next numbers tail_is on known_stage kept =
    let known = next.answered in
    let opened = next.opened in
    record {
      early = λ stage. absurd (stage known_stage);
      offline = λ off. absurd (let bad : ⊥ = cc in bad);
      page = λ _. record {
        number = opened.number;
        some = opened.some;
        most = opened.most;
        progress = record {
          request = no_more d.sessions.now.up_rest known.request;
          underway = next.underway;
          whole = next.whole;
          answer = ap (λ l. l ++ tail) (map_push (Res page.number) page.results n) ∙ append_assoc (map (Res page.number) page.results) (Res page.number n ∷ []) tail
              ∙ ap (λ l. map (Res page.number) page.results ++ l) (sym next.split) ∙ known.answer;
          some = subst (λ l. l ≢ []) (sym tail_is) (some_left (map (Res page.number) more) (end_of a page));
          kept = known.kept;
          first_rises = known.first_rises;
          last_rises = known.last_rises;
          position = known.position;
          logged = known.logged;
          began = known.began;
        };
      };
      no_fault = kept.no_fault;
    }
  where
    no_more : (zs : List Up) → requests zs ≡ [] → requests (zs ++ []) ≡ []
    no_more zs e = ap requests (append-nil zs) ∙ e

-- The place wasn't kept.

nothing_underway : (xs : List Down) (tail : List Down) → IsFront xs tail → tail ≡ [] → xs ≡ []
nothing_underway [] tail front none = refl
nothing_underway (z ∷ xs) tail front none = absurd (let all : tail ≡ z ∷ (xs ++ front.0) = front.1 in let bad : ⊥ = cc in bad)

-- the place is a number, below the archive's first
pub lost_position : (first last : ℕ) (run : List ℕ) (after : Option ℕ) → is_position first last after ≡ false → IsPosition first run after → number_or_none (last_in run) ≤ last →
    (n : ℕ) × (after ≡ Some n) × (number_or_none (last_in run) < first)
lost_position first last run None lost position logged = absurd (let bad : ⊥ = cc in bad)
lost_position first last run (Some n) lost position logged =
    elim position.following [
      | inr purged ↦ absurd (let e : Some n ≡ None = purged.0 in let bad : ⊥ = cc in bad)
      | inl is ↦
          let e : n ≡ number_or_none (last_in run) = ap number_or_none is in (
            n,
            refl,
            elim (cases_Bool (nat_le first n)) [
              | inr out ↦ let low = leb-false first n out in omega arith
              | inl in_low ↦ absurd (let high : nat_le n last ≡ true = le-leb n last (omega arith) in let both : (nat_le first n && nat_le n last) ≡ true = both_true _ _ in_low high in let bad : ⊥ = cc in bad)
            ],
          )
    ]

pub reads_restart : (x : events.Around) (b : Reading) (page : OpenPage) (n : ℕ) → b.page ≡ Some page → page.after ≡ Some n →
    events.reads x (NotFound page.number) b ≡ events.asking None page.max page.began b
reads_restart x b page n is after =
    ap (λ o. option_map_or (λ p. events.restart page.number p b) o (events.refuse b)) is
    ∙ ap (λ t. cond t (events.asking None page.max page.began b) (events.refuse b))
    (both_true _ _ (eq-eqb page.number page.number refl) (ap (λ o. option_map_or (λ m. true) o false) after))

-- a request more, with nothing of an answer under way
asked_again : (keep : ℕ) (x : events.Around) (after : Option ℕ) (max began : ℕ) (b : Reading) (d : Device) (z : Down) (rest : List Down) → 1 ≤ max → max ≤ 100 →
    requests d.sessions.now.up_rest ≡ [] → answers rest ≡ [] → IsPosition x.first b.run after → began ≤ x.last → b.faulty ≡ false → d.sessions.online ≡ true → d.sessions.now.stage ≡ Known →
    PageKept keep x.first x.last (events.reacted (events.asking after max began b) z rest d)
asked_again keep x after max began b d z rest low high request underway position early_enough no_fault on known_stage =
    let r : Request = record { number = b.asked + 1; after = after; max = max } in
    record {
      early = λ stage. absurd (stage known_stage);
      offline = λ off. absurd (let bad : ⊥ = cc in bad);
      page = λ _. record {
        number = refl;
        some = low;
        most = high;
        progress = record {
          request = requests_append d.sessions.now.up_rest (Query r ∷ []) ∙ ap (λ rs. rs ++ r ∷ []) request;
          underway = underway;
          results = refl;
          position = position;
          began = early_enough;
        };
      };
      no_fault = no_fault;
    }

-- A6 behind a restart
pub page_restart : (keep : ℕ) (x : events.Around) (d : Device) (page : OpenPage) (a : Answer) (rest tail : List Down) →
    IsNext keep x.first x.last d page a (NotFound page.number) rest tail → is_position a.first a.last page.after ≡ false → tail ≡ [] →
    d.sessions.online ≡ true → d.sessions.now.stage ≡ Known → PageKept keep x.first x.last d →
    PageKept keep x.first x.last (events.reacted (events.reads x (NotFound page.number) d.reading) (NotFound page.number) rest d)
page_restart keep x d page a rest tail next lost over on known_stage kept =
    let known = next.answered in
    let opened = next.opened in
    let position = lost_position a.first a.last d.reading.run page.after lost known.position known.logged in
    let first = known.first_rises in
    let last = known.last_rises in
    subst (λ reaction. PageKept keep x.first x.last (events.reacted reaction (NotFound page.number) rest d)) (sym (reads_restart x d.reading page position.0 next.page_is position.1))
    (asked_again keep x None page.max page.began d.reading d (NotFound page.number) rest opened.some opened.most known.request (nothing_underway (answers rest) tail next.underway over)
    (record { following = inr (refl, let low = position.2 in omega arith); reaches = λ n at. let low = known.position.reaches n at in omega arith })
    (let b = known.began in omega arith) kept.no_fault on known_stage)

-- The end of a page.

four_true : (b c e f : Bool) → b ≡ true → c ≡ true → e ≡ true → f ≡ true → (b && c && e && f) ≡ true
four_true true true true true p q r s = refl
four_true false c e f p q r s = p
four_true true false e f p q r s = q
four_true true true false f p q r s = r
four_true true true true false p q r s = s

same_position_self : (o : Option ℕ) → events.same_position o o ≡ true
same_position_self None = refl
same_position_self (Some n) = eq-eqb n n refl

-- what the client does at the end
abbrev pub ended : events.Around → Bool → ℕ → OpenPage → Reading → events.Reaction
ended x complete count page b =
    cond complete (events.quiet (events.over x complete count page b))
    (events.asking (last_in (events.over x complete count page b).run) page.max x.last (events.over x complete count page b))

reads_end : (x : events.Around) (b : Reading) (page : OpenPage) (complete : Bool) (last : Option ℕ) (count : ℕ) → b.page ≡ Some page → last ≡ last_in page.results →
    events.are_new (log_of b) page.results ≡ true → (complete || not (events.is_empty page.results)) ≡ true →
    events.reads x (Fin page.number complete last count) b ≡ ended x complete count page b
reads_end x b page complete last count is same new some =
    ap (λ o. option_map_or (λ p. events.fin x page.number complete last count p b) o (events.refuse b)) is
    ∙ ap (λ t. cond t (ended x complete count page b) (events.refuse b))
    (four_true _ _ _ _ (eq-eqb page.number page.number refl) (ap (λ o. events.same_position o (last_in page.results)) same ∙ same_position_self (last_in page.results)) new some)

-- the results of a page that isn't complete
some_results : (n k : ℕ) → 1 ≤ k → not (events.is_empty (following n k)) ≡ true
some_results n zero low = absurd (omega arith)
some_results n (suc k) low = refl

complete_or_some : (low last max : ℕ) → 1 ≤ max → (nat_le (last - low) max || not (events.is_empty (following low (size low last max)))) ≡ true
complete_or_some low last max some = elim (cases_Bool (nat_le (last - low) max)) [
  | inl is ↦ ap (λ b. b || not (events.is_empty (following low (size low last max)))) is
  | inr not_all ↦
      let more = leb-false (last - low) max not_all in
      ap (λ b. b || not (events.is_empty (following low (size low last max)))) not_all ∙ some_results low (size low last max) (omega arith)
]

-- what the page leaves of the log, at the archive's ends of then
abbrev pub TakenThen : Reading → OpenPage → Answer → Type 0
TakenThen b page a =
    IsTaken a.first a.last (edge a.first page.after) (size (edge a.first page.after) a.last page.max) b.broken b.run
    (broken_after page.after b.broken b.run (numbers_of a page)) (run_after page.after b.run (numbers_of a page))

pub taken_then : (keep first last : ℕ) (d : Device) (page : OpenPage) (a : Answer) (z : Down) (rest tail : List Down) → 1 ≤ keep → IsNext keep first last d page a z rest tail →
    is_position a.first a.last page.after ≡ true → AreLogged first last d.reading.broken d.reading.run → TakenThen d.reading page a
taken_then keep first last d page a z rest tail some next placed known =
    let answered = next.answered in
    taken keep a.first a.last a.first a.last page.max d.reading.broken d.reading.run page.after
    (logged_then first last a.first a.last d.reading.broken d.reading.run known answered.position.reaches answered.logged)
    answered.position placed answered.kept some next.opened.some (omega arith) (omega arith)

-- what is read at the end of a page
pub end_is_read : (keep : ℕ) (x : events.Around) (d : Device) (page : OpenPage) (a : Answer) (rest tail : List Down) → IsNext keep x.first x.last d page a (end_of a page) rest tail →
    page.results ≡ numbers_of a page → TakenThen d.reading page a →
    events.reads x (end_of a page) d.reading ≡ ended x (nat_le (a.last - edge a.first page.after) page.max) (a.last + 1 - a.first) page d.reading
end_is_read keep x d page a rest tail next results then =
    let low = edge a.first page.after in
    reads_end x d.reading page (nat_le (a.last - low) page.max) (last_in (numbers_of a page)) (a.last + 1 - a.first) next.page_is (ap last_in (sym results))
    (ap (events.are_new (log_of d.reading)) results ∙ new_after (log_of d.reading) low (size low a.last page.max) then.new)
    (ap (λ ns. nat_le (a.last - low) page.max || not (events.is_empty ns)) results ∙ complete_or_some low a.last page.max next.opened.some)

-- A6 behind the end of a page
pub page_end : (keep : ℕ) (x : events.Around) (d : Device) (page : OpenPage) (a : Answer) (rest tail : List Down) → IsNext keep x.first x.last d page a (end_of a page) rest tail →
    page.results ≡ numbers_of a page → tail ≡ [] → TakenThen d.reading page a → d.sessions.online ≡ true → d.sessions.now.stage ≡ Known → PageKept keep x.first x.last d →
    PageKept keep x.first x.last (events.reacted (events.reads x (end_of a page) d.reading) (end_of a page) rest d)
page_end keep x d page a rest tail next results over then on known_stage kept =
    subst (λ reaction. PageKept keep x.first x.last (events.reacted reaction (end_of a page) rest d)) (sym (end_is_read keep x d page a rest tail next results then))
    (chosen (nat_le (a.last - edge a.first page.after) page.max))
  where
    count : ℕ
    count = a.last + 1 - a.first

    nothing : answers rest ≡ []
    nothing = nothing_underway (answers rest) tail next.underway over

    chosen : (complete : Bool) → PageKept keep x.first x.last (events.reacted (ended x complete count page d.reading) (end_of a page) rest d)
    chosen true = record {
      early = λ stage. absurd (stage known_stage);
      offline = λ _. refl;
      page = λ _. (ap requests (append-nil d.sessions.now.up_rest) ∙ next.answered.request, nothing);
      no_fault = kept.no_fault;
    }
    chosen false =
        let first = next.answered.first_rises in
        asked_again keep x (last_in (run_after page.after d.reading.run page.results)) page.max x.last (events.over x false count page d.reading) d (end_of a page) rest
        next.opened.some next.opened.most next.answered.request nothing
        (record {
          following = inl refl;
          reaches = subst (λ ns. (n : ℕ) → slice_get (run_after page.after d.reading.run ns) 0 ≡ Some n → n ≤ x.first) (sym results)
              (λ n at. let r = then.logged.reaches n at in omega arith);
        })
        (omega arith) kept.no_fault on known_stage
