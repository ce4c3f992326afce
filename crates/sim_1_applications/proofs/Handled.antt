-- A6 and A7 where the client handles a stanza.
use Rattle.std.proofs.Common.{◌≡◌, ℕ, ◌+◌, ◌-◌, ◌<◌, ◌≤◌, ◌==◌, Bool, true, false, cond, List, [], ◌∷◌, ◌++◌, length, map, refl, sym, ap, ◌∙◌, subst, arith, append_assoc, inl, inr}
use Rattle.std.specs.List.{flat_map, filter, AllByRecursion}
use Rattle.std.specs.Prelude.{◌||◌, not, nat_le}
use Rattle.std.proofs.lemmas.Bool.{cases_Bool, eqb-true, eq-eqb, or_parts, not-true}
use Rattle.std.proofs.lemmas.List.{append-nil, length-append}
use Rattle.std.proofs.lemmas.List.Concat.{flat_map-append}
use Rattle.sim_1_applications.specs.Stanzas.{Down, requests, answers, lives}
use Rattle.sim_1_applications.specs.Stanzas.Down.{Accepted, Bounced, Live, Res, Fin, NotFound}
use Rattle.sim_1_applications.specs.Devices.{Device, OpenPage, Answer, log_of}
use Rattle.sim_1_applications.specs.Devices.Stage.{Known}
use Rattle.sim_1_applications.specs.Answers.{is_position, edge, size}
use Rattle.sim_1_applications.specs.Events.{is_number_among}
use Rattle.sim_1_applications.specs.Events as events
use Rattle.sim_1_applications.specs.Kept.{PageKept, LogKept, AreLogged, AreApart}
use Rattle.sim_1_applications.proofs.Numbered.{answers_append, lives_append}
use Rattle.sim_1_applications.proofs.Intervals.{length_after, among_append}
use Rattle.sim_1_applications.proofs.Lists.{all_append, all_rest}
use Rattle.sim_1_applications.proofs.Logs.{broken_after, run_after, logged_grows}
use Rattle.sim_1_applications.proofs.Pages.{Quiet, page_quiet}
use Rattle.sim_1_applications.proofs.Answered.{IsNext, Next, next_answer, Kind, AResult, AnEnd, NoPlace, kind_of, numbers_of, end_of, reads_result, page_result, page_restart, lost_position, reads_restart, ended, TakenThen, taken_then, end_is_read, page_end}

-- both
pub record ReadKept (keep first last : ℕ) (d : Device) : Type 0 where
  pub page : PageKept keep first last d
  pub log : LogKept first last d

-- no stanza of an answer

quiet_read : (x : events.Around) (held : List ℕ) (z : Down) (rest : List Down) (d : Device) → d.sessions.now.down_rest ≡ z ∷ rest → answers (z ∷ []) ≡ [] →
    Quiet d (events.reacted (events.quiet (record d.reading { held = held })) z rest d)
quiet_read x held z rest d split none = record {
  same = record {
    requested = ap requests (append-nil d.sessions.now.up_rest);
    underway = sym (ap answers split ∙ answers_append (z ∷ []) rest ∙ ap (λ l. l ++ answers rest) none);
    row = λ e. e;
    run = refl;
    asked = refl;
  };
  stage = λ s. s;
  online = refl;
  page = refl;
  faulty = refl;
}

lives_rest : (P : ℕ → Type 0) (zs : List Down) (z : Down) (rest : List Down) → zs ≡ z ∷ rest → AllByRecursion P (lives zs) → AllByRecursion P (lives rest)
lives_rest P zs z rest split known = all_rest P (lives (z ∷ [])) (lives rest) (subst (AllByRecursion P) (ap lives split ∙ lives_append (z ∷ []) rest) known)

apart_push : (hs : List ℕ) (n : ℕ) → AreApart hs → is_number_among n hs ≡ false → AreApart (hs ++ n ∷ [])
apart_push [] n apart new = (refl, tt)
apart_push (h ∷ hs) n apart new =
    (among_append h hs (n ∷ []) apart.0 (other (n == h) (h == n) (is_number_among n hs) new (λ e. eq-eqb n h (sym (eqb-true h n e)))), apart_push hs n apart.1 ((or_parts (n == h) (is_number_among n hs) new).1))
  where
    other : (b b2 c : Bool) → (b || c) ≡ false → (b2 ≡ true → b ≡ true) → (b2 || false) ≡ false
    other b true c e same = absurd (let was : b ≡ true = same refl in let f : (b || c) ≡ true = ap (λ e2. e2 || c) was in let bad : ⊥ = cc in bad)
    other b false c e same = refl

read_quiet : (keep : ℕ) (x : events.Around) (z : Down) (rest : List Down) (d : Device) → d.sessions.now.down_rest ≡ z ∷ rest → answers (z ∷ []) ≡ [] →
    ReadKept keep x.first x.last d → ReadKept keep x.first x.last (events.reacted (events.quiet d.reading) z rest d)
read_quiet keep x z rest d split none kept = record {
  page = page_quiet keep x.first x.last d _ (quiet_read x d.reading.held z rest d split none) kept.page;
  log = record { runs = kept.log.runs; apart = kept.log.apart; held = kept.log.held; live = lives_rest _ d.sessions.now.down_rest z rest split kept.log.live };
}

-- a live message
read_live : (keep : ℕ) (x : events.Around) (n : ℕ) (rest : List Down) (d : Device) → d.sessions.now.down_rest ≡ Live n ∷ rest →
    ReadKept keep x.first x.last d → ReadKept keep x.first x.last (events.reacted (events.quiet (events.hold n d.reading)) (Live n) rest d)
read_live keep x n rest d split kept =
    let known : AllByRecursion (λ m. (1 ≤ m) × (m ≤ x.last)) (n ∷ lives rest) = subst (AllByRecursion (λ m. (1 ≤ m) × (m ≤ x.last))) (ap lives split) kept.log.live in
    record {
      page = page_quiet keep x.first x.last d _ (quiet_read x (cond (events.holds n d.reading) d.reading.held (d.reading.held ++ n ∷ [])) (Live n) rest d split refl) kept.page;
      log = record {
        runs = kept.log.runs;
        apart = elim (cases_Bool (events.holds n d.reading)) [
          | inl skip ↦ subst AreApart (sym (ap (λ b. cond b d.reading.held (d.reading.held ++ n ∷ [])) skip)) kept.log.apart
          | inr new ↦ subst AreApart (sym (ap (λ b. cond b d.reading.held (d.reading.held ++ n ∷ [])) new))
              (apart_push d.reading.held n kept.log.apart ((or_parts _ _ ((or_parts _ _ new).0)).1))
        ];
        held = elim (cases_Bool (events.holds n d.reading)) [
          | inl skip ↦ subst (AllByRecursion _) (sym (ap (λ b. cond b d.reading.held (d.reading.held ++ n ∷ [])) skip)) kept.log.held
          | inr new ↦ subst (AllByRecursion _) (sym (ap (λ b. cond b d.reading.held (d.reading.held ++ n ∷ [])) new))
              (all_append (λ h. (is_number_among h (log_of d.reading) ≡ false) × (1 ≤ h) × (h ≤ x.last)) d.reading.held (n ∷ []) kept.log.held (((or_parts _ _ ((or_parts _ _ new).0)).0, known.0.0, known.0.1), tt))
        ];
        live = known.1;
      };
    }

-- a result
read_result : (keep : ℕ) (x : events.Around) (d : Device) (page : OpenPage) (a : Answer) (n : ℕ) (more : List ℕ) (rest tail : List Down) →
    d.sessions.now.down_rest ≡ Res page.number n ∷ rest →
    IsNext keep x.first x.last d page a (Res page.number n) rest tail → numbers_of a page ≡ page.results ++ n ∷ more → tail ≡ map (Res page.number) more ++ end_of a page ∷ [] →
    d.sessions.online ≡ true → d.sessions.now.stage ≡ Known → ReadKept keep x.first x.last d →
    ReadKept keep x.first x.last (events.reacted (events.reads x (Res page.number n) d.reading) (Res page.number n) rest d)
read_result keep x d page a n more rest tail split next numbers tail_is on known_stage kept =
    let size_is = length_after (edge a.first page.after) (size (edge a.first page.after) a.last page.max) in
    let both = length-append page.results (n ∷ more) in
    let whole = ap length numbers in
    let short : length page.results < page.max = omega arith in
    subst (λ reaction. ReadKept keep x.first x.last (events.reacted reaction (Res page.number n) rest d)) (sym (reads_result x d.reading page a n tail next.page_is next.answer_is next.split short))
    (record {
      page = page_result keep x d page a n more rest tail next numbers tail_is on known_stage kept.page;
      log = record { runs = kept.log.runs; apart = kept.log.apart; held = kept.log.held; live = lives_rest _ d.sessions.now.down_rest (Res page.number n) rest split kept.log.live };
    })

-- a restart
read_restart : (keep : ℕ) (x : events.Around) (d : Device) (page : OpenPage) (a : Answer) (rest tail : List Down) → d.sessions.now.down_rest ≡ NotFound page.number ∷ rest →
    IsNext keep x.first x.last d page a (NotFound page.number) rest tail → is_position a.first a.last page.after ≡ false → tail ≡ [] →
    d.sessions.online ≡ true → d.sessions.now.stage ≡ Known → ReadKept keep x.first x.last d →
    ReadKept keep x.first x.last (events.reacted (events.reads x (NotFound page.number) d.reading) (NotFound page.number) rest d)
read_restart keep x d page a rest tail split next lost over on known_stage kept =
    let position = lost_position a.first a.last d.reading.run page.after lost next.answered.position next.answered.logged in
    record {
      page = page_restart keep x d page a rest tail next lost over on known_stage kept.page;
      log = subst (λ reaction. LogKept x.first x.last (events.reacted reaction (NotFound page.number) rest d)) (sym (reads_restart x d.reading page position.0 next.page_is position.1))
          (record { runs = kept.log.runs; apart = kept.log.apart; held = kept.log.held; live = lives_rest _ d.sessions.now.down_rest (NotFound page.number) rest split kept.log.live });
    }

-- the end of a page

pub log_grown : (b : Bool) (broken : List (List ℕ)) (run results : List ℕ) →
    flat_map (λ r. r) (cond b (broken ++ run ∷ []) broken) ++ cond b results (run ++ results) ≡ (flat_map (λ r. r) broken ++ run) ++ results
log_grown true broken run results =
    ap (λ l. l ++ results) (flat_map-append (λ r. r) broken (run ∷ []) ∙ ap (λ l. flat_map (λ r. r) broken ++ l) (append-nil run))
log_grown false broken run results = sym (append_assoc (flat_map (λ r. r) broken) run results)

held_filtered : (log results : List ℕ) (last : ℕ) (hs : List ℕ) → AllByRecursion (λ h. (is_number_among h log ≡ false) × (1 ≤ h) × (h ≤ last)) hs →
    AllByRecursion (λ h. (is_number_among h (log ++ results) ≡ false) × (1 ≤ h) × (h ≤ last)) (filter (λ h. not (is_number_among h results)) hs)
held_filtered log results last [] known = tt
held_filtered log results last (h ∷ hs) known = chosen (not (is_number_among h results)) refl (held_filtered log results last hs known.1)
  where
    P : ℕ → Type 0
    P n = (is_number_among n (log ++ results) ≡ false) × (1 ≤ n) × (n ≤ last)

    chosen : (b : Bool) → not (is_number_among h results) ≡ b → AllByRecursion (λ n. (is_number_among n (log ++ results) ≡ false) × (1 ≤ n) × (n ≤ last)) (filter (λ n. not (is_number_among n results)) hs) →
        AllByRecursion (λ n. (is_number_among n (log ++ results) ≡ false) × (1 ≤ n) × (n ≤ last)) (cond b (h ∷ filter (λ n. not (is_number_among n results)) hs) (filter (λ n. not (is_number_among n results)) hs))
    chosen true is others = ((among_append h log results known.0.0 (not-true (is_number_among h results) is), known.0.1, known.0.2), others)
    chosen false is others = others

filtered_none : (n : ℕ) (p : ℕ → Bool) (hs : List ℕ) → is_number_among n hs ≡ false → is_number_among n (filter p hs) ≡ false
filtered_none n p [] none = refl
filtered_none n p (h ∷ hs) none = chosen (p h) (filtered_none n p hs ((or_parts (n == h) _ none).1))
  where
    chosen : (b : Bool) → is_number_among n (filter p hs) ≡ false → is_number_among n (cond b (h ∷ filter p hs) (filter p hs)) ≡ false
    chosen true others = ap (λ c. c || is_number_among n (filter p hs)) ((or_parts (n == h) _ none).0) ∙ others
    chosen false others = others

apart_filtered : (p : ℕ → Bool) (hs : List ℕ) → AreApart hs → AreApart (filter p hs)
apart_filtered p [] apart = tt
apart_filtered p (h ∷ hs) apart = chosen (p h) (apart_filtered p hs apart.1)
  where
    chosen : (b : Bool) → AreApart (filter p hs) → AreApart (cond b (h ∷ filter p hs) (filter p hs))
    chosen true others = (filtered_none h p hs apart.0, others)
    chosen false others = others

-- A7 of what the page leaves
log_over : (x : events.Around) (complete : Bool) (count : ℕ) (d e : Device) (page : OpenPage) (a : Answer) → e.reading.broken ≡ (events.over x complete count page d.reading).broken →
    e.reading.run ≡ (events.over x complete count page d.reading).run → e.reading.held ≡ (events.over x complete count page d.reading).held →
    page.results ≡ numbers_of a page → a.first ≤ x.first → a.last ≤ x.last → TakenThen d.reading page a →
    AllByRecursion (λ n. (1 ≤ n) × (n ≤ x.last)) (lives e.sessions.now.down_rest) → LogKept x.first x.last d → LogKept x.first x.last e
log_over x complete count d e page a broken run held results first last then live kept =
    let log_is : log_of e.reading ≡ log_of d.reading ++ page.results =
    ap (λ bs. flat_map (λ r. r) bs ++ e.reading.run) broken ∙ ap (λ r. flat_map (λ l. l) (broken_after page.after d.reading.broken d.reading.run page.results) ++ r) run
    ∙ log_grown (events.is_broken page.after d.reading.run page.results) d.reading.broken d.reading.run page.results in
    let then_logged : AreLogged a.first a.last (broken_after page.after d.reading.broken d.reading.run page.results) (run_after page.after d.reading.run page.results) =
    subst (λ ns. AreLogged a.first a.last (broken_after page.after d.reading.broken d.reading.run ns) (run_after page.after d.reading.run ns)) (sym results) then.logged in
    record {
      runs = subst (λ bs. AreLogged x.first x.last bs e.reading.run) (sym broken) (subst (AreLogged x.first x.last (broken_after page.after d.reading.broken d.reading.run page.results)) (sym run)
          (logged_grows a.first a.last x.first x.last _ _ first last then_logged));
      apart = subst AreApart (sym held) (apart_filtered (λ h. not (is_number_among h page.results)) d.reading.held kept.apart);
      held = subst (λ l. AllByRecursion (λ h. (is_number_among h l ≡ false) × (1 ≤ h) × (h ≤ x.last)) e.reading.held) (sym log_is)
          (subst (AllByRecursion (λ h. (is_number_among h (log_of d.reading ++ page.results) ≡ false) × (1 ≤ h) × (h ≤ x.last))) (sym held)
          (held_filtered (log_of d.reading) page.results x.last d.reading.held kept.held));
      live = live;
    }

read_end : (keep : ℕ) (x : events.Around) (d : Device) (page : OpenPage) (a : Answer) (rest tail : List Down) → 1 ≤ keep → d.sessions.now.down_rest ≡ end_of a page ∷ rest →
    IsNext keep x.first x.last d page a (end_of a page) rest tail → is_position a.first a.last page.after ≡ true → page.results ≡ numbers_of a page → tail ≡ [] →
    d.sessions.online ≡ true → d.sessions.now.stage ≡ Known → ReadKept keep x.first x.last d →
    ReadKept keep x.first x.last (events.reacted (events.reads x (end_of a page) d.reading) (end_of a page) rest d)
read_end keep x d page a rest tail some split next placed results over on known_stage kept =
    record {
      page = page_end keep x d page a rest tail next results over then on known_stage kept.page;
      log = subst (λ reaction. LogKept x.first x.last (events.reacted reaction (end_of a page) rest d)) (sym (end_is_read keep x d page a rest tail next results then))
          (chosen (nat_le (a.last - edge a.first page.after) page.max));
    }
  where
    count : ℕ
    count = a.last + 1 - a.first

    then : TakenThen d.reading page a
    then = taken_then keep x.first x.last d page a (end_of a page) rest tail some next placed kept.log.runs

    live : AllByRecursion (λ n. (1 ≤ n) × (n ≤ x.last)) (lives rest)
    live = lives_rest (λ n. (1 ≤ n) × (n ≤ x.last)) d.sessions.now.down_rest (end_of a page) rest split kept.log.live

    chosen : (complete : Bool) → LogKept x.first x.last (events.reacted (ended x complete count page d.reading) (end_of a page) rest d)
    chosen true = log_over x true count d (events.reacted (ended x true count page d.reading) (end_of a page) rest d) page a refl refl refl results next.answered.first_rises next.answered.last_rises then live kept.log
    chosen false = log_over x false count d (events.reacted (ended x false count page d.reading) (end_of a page) rest d) page a refl refl refl results next.answered.first_rises next.answered.last_rises then live kept.log

-- any stanza of an answer
read_answer : (keep : ℕ) (x : events.Around) (z : Down) (rest : List Down) (d : Device) → 1 ≤ keep → d.sessions.now.down_rest ≡ z ∷ rest → answers (z ∷ []) ≡ z ∷ [] →
    d.sessions.online ≡ true → d.sessions.now.stage ≡ Known → ReadKept keep x.first x.last d → ReadKept keep x.first x.last (events.reacted (events.reads x z d.reading) z rest d)
read_answer keep x z rest d some split is on known_stage kept = of_next (next_answer keep x.first x.last d z rest on split is kept.page)
  where
    Goal : Down → Type 0
    Goal y = ReadKept keep x.first x.last (events.reacted (events.reads x y d.reading) y rest d)

    of_kind : (page : OpenPage) (a : Answer) (tail : List Down) → IsNext keep x.first x.last d page a z rest tail → Kind page a z tail →
        ReadKept keep x.first x.last (events.reacted (events.reads x z d.reading) z rest d)
    of_kind page a tail next (AResult n more z_is numbers tail_is) =
        subst (λ y. ReadKept keep x.first x.last (events.reacted (events.reads x y d.reading) y rest d)) (sym z_is)
        (read_result keep x d page a n more rest tail (split ∙ ap (λ y. y ∷ rest) z_is) (subst (λ y. IsNext keep x.first x.last d page a y rest tail) z_is next) numbers tail_is on known_stage kept)
    of_kind page a tail next (AnEnd placed z_is results over) =
        subst (λ y. ReadKept keep x.first x.last (events.reacted (events.reads x y d.reading) y rest d)) (sym z_is)
        (read_end keep x d page a rest tail some (split ∙ ap (λ y. y ∷ rest) z_is) (subst (λ y. IsNext keep x.first x.last d page a y rest tail) z_is next) placed results over on known_stage kept)
    of_kind page a tail next (NoPlace lost z_is results over) =
        subst (λ y. ReadKept keep x.first x.last (events.reacted (events.reads x y d.reading) y rest d)) (sym z_is)
        (read_restart keep x d page a rest tail (split ∙ ap (λ y. y ∷ rest) z_is) (subst (λ y. IsNext keep x.first x.last d page a y rest tail) z_is next) lost over on known_stage kept)

    of_next : Next keep x.first x.last d z rest → ReadKept keep x.first x.last (events.reacted (events.reads x z d.reading) z rest d)
    of_next n = of_kind n.page n.a n.tail n.is (kind_of n.page n.a z n.tail (ap (λ l. map (Res n.page.number) n.page.results ++ l) (sym n.is.split) ∙ n.is.answered.answer))

-- A6 and A7 where the client handles a stanza
pub read_kept : (keep : ℕ) (x : events.Around) (zs : List Down) (d : Device) → 1 ≤ keep → d.sessions.now.down_rest ≡ zs → d.sessions.online ≡ true → d.sessions.now.stage ≡ Known →
    ReadKept keep x.first x.last d → ReadKept keep x.first x.last (events.read x zs d)
read_kept keep x [] d some split on known_stage kept = kept
read_kept keep x (Accepted ∷ rest) d some split on known_stage kept = read_quiet keep x Accepted rest d split refl kept
read_kept keep x (Bounced e n ∷ rest) d some split on known_stage kept = read_quiet keep x (Bounced e n) rest d split refl kept
read_kept keep x (Live n ∷ rest) d some split on known_stage kept = read_live keep x n rest d split kept
read_kept keep x (Res q n ∷ rest) d some split on known_stage kept = read_answer keep x (Res q n) rest d some split refl on known_stage kept
read_kept keep x (Fin q c l t ∷ rest) d some split on known_stage kept = read_answer keep x (Fin q c l t) rest d some split refl on known_stage kept
read_kept keep x (NotFound q ∷ rest) d some split on known_stage kept = read_answer keep x (NotFound q) rest d some split refl on known_stage kept
