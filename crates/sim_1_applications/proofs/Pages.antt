-- A6 and A9: the page under way, where no answer's stanza is handled.
use Rattle.std.proofs.Common.{◌≡◌, ℕ, ◌+◌, ◌≤◌, ◌≢◌, ◌==◌, Bool, true, false, cond, List, [], ◌∷◌, ◌++◌, Option, Some, None, length, map, take, drop, refl, sym, ap, ◌∙◌, subst, arith, take_all, inl, inr, take-append-drop}
use Rattle.std.specs.List.{slice_get}
use Rattle.std.specs.Prelude.{◌&&◌, not}
use Rattle.std.proofs.Common.{ltb}
use Rattle.std.proofs.lemmas.List.{append-nil}
use Rattle.std.proofs.lemmas.Bool.{ltb-false, eq-eqb}
use Rattle.sim_1_applications.proofs.Numbered.{requests_append, answers_append}
use Rattle.sim_1_applications.proofs.Intervals.{none_taken, answer_taken, answer_some}
use Rattle.sim_1_applications.proofs.SessionSteps.{row_was}
use Rattle.sim_1_applications.specs.Events as events
use Rattle.sim_1_applications.specs.Stanzas.Up.{Carbons, Presence, Message, Query}
use Rattle.std.specs.Option.{option_map}
use Rattle.sim_1_applications.specs.Stanzas.Down.{Bounced, Live, Res}
use Rattle.sim_1_applications.specs.Stanzas.{Request, Up, Down, requests, answers}
use Rattle.sim_1_applications.specs.Devices.{Row, Device, OpenPage, Answer, first_of, last_of}
use Rattle.sim_1_applications.specs.Devices.Row.{NoRow, Unread, Present}
use Rattle.sim_1_applications.specs.Devices.Stage.{Named, Counted, Known}
use Rattle.sim_1_applications.specs.Answers.{last_in, page_answer_of}
use Rattle.sim_1_applications.specs.Events.{number_or_none}
use Rattle.sim_1_applications.specs.Kept.{IsFront, IsPosition, IsAnswered, IsAt, IsOpen, IsPage, PageKept, request_of, SessionsKept}

-- what a page rests on
pub record SamePage (d e : Device) : Type 0 where
  pub requested : requests e.sessions.now.up_rest ≡ requests d.sessions.now.up_rest
  pub underway : answers e.sessions.now.down_rest ≡ answers d.sessions.now.down_rest
  pub row : e.sessions.row ≡ Present → d.sessions.row ≡ Present
  pub run : e.reading.run ≡ d.reading.run
  pub asked : e.reading.asked ≡ d.reading.asked

at_frame : (keep first last : ℕ) (d e : Device) (page : OpenPage) (a : Option Answer) → SamePage d e → IsAt keep first last d page a → IsAt keep first last e page a
at_frame keep first last d e page None same kept = record {
  request = same.requested ∙ kept.request;
  underway = same.underway ∙ kept.underway;
  results = kept.results;
  position = subst (λ run. IsPosition first run page.after) (sym same.run) kept.position;
  began = kept.began;
}
at_frame keep first last d e page (Some a) same kept = record {
  request = same.requested ∙ kept.request;
  underway = subst (λ zs. IsFront zs a.rest) (sym same.underway) kept.underway;
  whole = λ row. same.underway ∙ kept.whole (same.row row);
  answer = kept.answer;
  some = kept.some;
  kept = kept.kept;
  first_rises = kept.first_rises;
  last_rises = kept.last_rises;
  position = subst (λ run. IsPosition a.first run page.after) (sym same.run) kept.position;
  logged = subst (λ run. number_or_none (last_in run) ≤ a.last) (sym same.run) kept.logged;
  began = kept.began;
}

pub page_frame : (keep first last : ℕ) (d e : Device) (page : Option OpenPage) → SamePage d e → IsPage keep first last d page → IsPage keep first last e page
page_frame keep first last d e None same kept = (same.requested ∙ kept.0, same.underway ∙ kept.1)
page_frame keep first last d e (Some page) same kept = record {
  number = kept.number ∙ sym same.asked;
  some = kept.some;
  most = kept.most;
  progress = at_frame keep first last d e page page.answer same kept.progress;
}

-- the archive grows
pub position_grows : (kept now : ℕ) (run : List ℕ) (after : Option ℕ) → kept ≤ now → IsPosition kept run after → IsPosition now run after
position_grows kept now run after more position = record {
  following = elim position.following [
    | inl is ↦ inl is
    | inr purged ↦ inr (purged.0, let low = purged.1 in omega arith)
  ];
  reaches = λ n at. let low = position.reaches n at in omega arith;
}

at_grows : (keep first last first2 last2 : ℕ) (d : Device) (page : OpenPage) (a : Option Answer) → first ≤ first2 → last ≤ last2 → IsAt keep first last d page a → IsAt keep first2 last2 d page a
at_grows keep first last first2 last2 d page None low high kept = record {
  request = kept.request;
  underway = kept.underway;
  results = kept.results;
  position = position_grows first first2 d.reading.run page.after low kept.position;
  began = let b = kept.began in omega arith;
}
at_grows keep first last first2 last2 d page (Some a) low high kept = record {
  request = kept.request;
  underway = kept.underway;
  whole = kept.whole;
  answer = kept.answer;
  some = kept.some;
  kept = kept.kept;
  first_rises = let b = kept.first_rises in omega arith;
  last_rises = let b = kept.last_rises in omega arith;
  position = kept.position;
  logged = kept.logged;
  began = kept.began;
}

pub page_grows : (keep first last first2 last2 : ℕ) (d : Device) (page : Option OpenPage) → first ≤ first2 → last ≤ last2 → IsPage keep first last d page → IsPage keep first2 last2 d page
page_grows keep first last first2 last2 d None low high kept = kept
page_grows keep first last first2 last2 d (Some page) low high kept = record {
  number = kept.number;
  some = kept.some;
  most = kept.most;
  progress = at_grows keep first last first2 last2 d page page.answer low high kept.progress;
}

-- nothing happens to the page
pub record Quiet (d e : Device) : Type 0 where
  pub same : SamePage d e
  pub stage : e.sessions.now.stage ≢ Known → d.sessions.now.stage ≢ Known
  pub online : e.sessions.online ≡ d.sessions.online
  pub page : e.reading.page ≡ d.reading.page
  pub faulty : e.reading.faulty ≡ d.reading.faulty

pub page_quiet : (keep first last : ℕ) (d e : Device) → Quiet d e → PageKept keep first last d → PageKept keep first last e
page_quiet keep first last d e quiet kept = record {
  early = λ stage. quiet.same.underway ∙ kept.early (quiet.stage stage);
  offline = λ off. quiet.page ∙ kept.offline (sym quiet.online ∙ off);
  page = λ on. subst (IsPage keep first last e) (sym quiet.page) (page_frame keep first last d e d.reading.page quiet.same (kept.page (sym quiet.online ∙ on)));
  no_fault = quiet.faulty ∙ kept.no_fault;
}

pub page_grown : (keep first last first2 last2 : ℕ) (d : Device) → first ≤ first2 → last ≤ last2 → PageKept keep first last d → PageKept keep first2 last2 d
page_grown keep first last first2 last2 d low high kept = record {
  early = kept.early;
  offline = kept.offline;
  page = λ on. page_grows keep first last first2 last2 d d.reading.page low high (kept.page on);
  no_fault = kept.no_fault;
}

-- the acts at the sessions alone

row_absurd : (r : Row) → r ≢ Present → (d : Device) → r ≡ Present → d.sessions.row ≡ Present
row_absurd r other d e = absurd (other e)

quiet_binds : (d : Device) → Quiet d (events.on_sessions events.binds d)
quiet_binds d = record {
  same = record { requested = refl; underway = refl; row = λ (e : Unread ≡ Present). absurd (let bad : ⊥ = cc in bad); run = refl; asked = refl };
  stage = λ s. s;
  online = refl;
  page = refl;
  faulty = refl;
}

quiet_ends : (d : Device) → Quiet d (events.on_sessions events.end_row d)
quiet_ends d = record {
  same = record { requested = refl; underway = refl; row = λ (e : NoRow ≡ Present). absurd (let bad : ⊥ = cc in bad); run = refl; asked = refl };
  stage = λ s. s;
  online = refl;
  page = refl;
  faulty = refl;
}

quiet_counts : (d : Device) → d.sessions.now.stage ≡ Named → Quiet d (events.on_sessions events.counts d)
quiet_counts d named = record {
  same = record { requested = refl; underway = refl; row = λ e. e; run = refl; asked = refl };
  stage = λ _ known. let bad : ⊥ = cc in bad;
  online = refl;
  page = refl;
  faulty = refl;
}

quiet_acknowledged : (n : ℕ) (d : Device) → Quiet d (events.on_sessions (events.acknowledged n) d)
quiet_acknowledged n d = record {
  same = record { requested = refl; underway = refl; row = λ e. e; run = refl; asked = refl };
  stage = λ s. s;
  online = refl;
  page = refl;
  faulty = refl;
}

no_request : (rest : List Up) (zs : List Up) → requests zs ≡ [] → requests (rest ++ zs) ≡ requests rest
no_request rest zs none = requests_append rest zs ∙ ap (λ rs. requests rest ++ rs) none ∙ append-nil (requests rest)

no_answer : (rest : List Down) (zs : List Down) → answers zs ≡ [] → answers (rest ++ zs) ≡ answers rest
no_answer rest zs none = answers_append rest zs ∙ ap (λ rs. answers rest ++ rs) none ∙ append-nil (answers rest)

quiet_says : (to text : List ℕ) (private : Bool) (d : Device) → Quiet d (events.on_sessions (events.says to text private) d)
quiet_says to text private d = record {
  same = record { requested = no_request d.sessions.now.up_rest _ refl; underway = refl; row = λ e. e; run = refl; asked = refl };
  stage = λ s. s;
  online = refl;
  page = refl;
  faulty = refl;
}

-- the server handles what is no request
quiet_served : (a : events.Around) (fits : ℕ) (z : Up) (rest : List Up) (d : Device) → d.sessions.now.up_rest ≡ z ∷ rest → requests (z ∷ []) ≡ [] →
    answers (events.reply a z) ≡ [] → events.reading_served a z d.reading ≡ d.reading → Quiet d (events.served a fits (z ∷ rest) d)
quiet_served a fits z rest d split none no_reply reading = record {
  same = record {
    requested = sym (ap requests split ∙ requests_append (z ∷ []) rest ∙ ap (λ rs. rs ++ requests rest) none);
    underway = no_answer d.sessions.now.down_rest (take fits (events.reply a z)) (none_taken fits (events.reply a z) no_reply);
    row = row_was (ltb fits (length (events.reply a z))) d.sessions.row;
    run = ap (λ b. b.run) reading;
    asked = ap (λ b. b.asked) reading;
  };
  stage = λ s. s;
  online = refl;
  page = ap (λ b. b.page) reading;
  faulty = ap (λ b. b.faulty) reading;
}

-- what is heard
pub quiet_hear : (takes : _) (full : List ℕ) (t : _) (j : ℕ) (d : Device) → Quiet d (events.hear takes full t j d)
quiet_hear takes full t j d = record {
  same = record {
    requested = refl;
    underway = no_answer d.sessions.now.down_rest _ (heard (events.hears_of t j d) (events.is_number_among j full));
    row = row_was _ d.sessions.row;
    run = refl;
    asked = refl;
  };
  stage = λ s. s;
  online = refl;
  page = refl;
  faulty = refl;
}
  where
    heard : (h f : Bool) → (let zs : List Down = cond (h && not f) (Live (last_of takes d.account) ∷ []) [] in answers zs ≡ [])
    heard true true = refl
    heard true false = refl
    heard false f = refl

-- the session begins
page_reads_bound : (keep first last : ℕ) (live : Bool) (d : Device) → d.sessions.online ≡ false → PageKept keep first last d → PageKept keep first last (events.on_sessions (events.reads_bound live) d)
page_reads_bound keep first last live d off kept = record {
  early = λ _. refl;
  offline = λ _. kept.offline off;
  page = λ (on : d.sessions.online ≡ true). absurd (let bad : ⊥ = cc in bad);
  no_fault = kept.no_fault;
}

page_goes_online : (keep first last : ℕ) (d : Device) → d.sessions.online ≡ false → d.sessions.now.stage ≡ Counted → SessionsKept d.sessions → PageKept keep first last d →
    PageKept keep first last (events.on_sessions events.goes_online d)
page_goes_online keep first last d off counted sessions kept =
    let unknown : d.sessions.now.stage ≢ Known = λ e. let bad : ⊥ = cc in bad in
    let nothing : d.sessions.now.up_rest ≡ [] = sessions.now.is_session.up_rest unknown in
    let none : d.reading.page ≡ None = kept.offline off in
    record {
      early = λ stage. absurd (stage refl);
      offline = λ (e : true ≡ false). absurd (let bad : ⊥ = cc in bad);
      page = λ _. subst (IsPage keep first last (events.on_sessions events.goes_online d)) (sym none)
          (no_request d.sessions.now.up_rest _ refl ∙ ap requests nothing, kept.early unknown);
      no_fault = kept.no_fault;
    }

page_goes_offline : (keep first last : ℕ) (a : events.Around) (d : Device) → PageKept keep first last d → PageKept keep first last (events.own a events.Act.Drop d)
page_goes_offline keep first last a d kept = record {
  early = kept.early;
  offline = λ _. refl;
  page = λ (e : false ≡ true). absurd (let bad : ⊥ = cc in bad);
  no_fault = kept.no_fault;
}

-- a request is made
page_asks : (keep : ℕ) (a : events.Around) (max : ℕ) (d : Device) → d.sessions.online ≡ true → d.reading.page ≡ None → 1 ≤ max → max ≤ 100 →
    ((n : ℕ) → slice_get d.reading.run 0 ≡ Some n → n ≤ a.first) → SessionsKept d.sessions → PageKept keep a.first a.last d →
    PageKept keep a.first a.last (events.own a (events.Act.CatchUp max) d)
page_asks keep a max d on none low high reach sessions kept =
    let was : IsPage keep a.first a.last d None = subst (IsPage keep a.first a.last d) none (kept.page on) in
    let r : Request = record { number = d.reading.asked + 1; after = last_in d.reading.run; max = max } in
    record {
      early = λ stage. absurd (stage (sessions.epochs.online on));
      offline = λ (off : d.sessions.online ≡ false). absurd (let bad : ⊥ = cc in bad);
      page = λ _. record {
        number = refl;
        some = low;
        most = high;
        progress = record {
          request = requests_append d.sessions.now.up_rest (Query r ∷ []) ∙ ap (λ rs. rs ++ r ∷ []) was.0;
          underway = was.1;
          results = refl;
          position = record { following = inl refl; reaches = reach };
          began = omega arith;
        };
      };
      no_fault = kept.no_fault;
    }

-- the request is answered
abbrev given : events.Around → Request → Answer
given a r = record { first = a.first; last = a.last; rest = page_answer_of a.first a.last r }

answered_at : (keep : ℕ) (a : events.Around) (fits : ℕ) (r : Request) (rest : List Up) (d : Device) (page : OpenPage) → d.sessions.now.up_rest ≡ Query r ∷ rest →
    a.first ≡ first_of keep a.last → number_or_none (last_in d.reading.run) ≤ a.last →
    (o : Option Answer) → page.answer ≡ o → IsAt keep a.first a.last d page o →
    (r ≡ request_of page) × IsAnswered keep a.first a.last (events.served a fits (Query r ∷ rest) d) (record page { answer = Some (given a r) }) (given a r)
answered_at keep a fits r rest d page split first logged (Some old) is kept = absurd (let wrong : Query r ∷ rest ≡ _ = sym split in
    let all : requests d.sessions.now.up_rest ≡ r ∷ requests rest = ap requests split in let none : requests d.sessions.now.up_rest ≡ [] = kept.request in let bad : ⊥ = cc in bad)
answered_at keep a fits r rest d page split first logged None is kept =
    let all : r ∷ requests rest ≡ request_of page ∷ [] = sym (ap requests split) ∙ kept.request in
    let one : r ≡ request_of page = cc in
    let others : requests rest ≡ [] = cc in
    let zs : List Down = page_answer_of a.first a.last r in
    let under : answers (d.sessions.now.down_rest ++ take fits zs) ≡ take fits zs =
    answers_append d.sessions.now.down_rest (take fits zs) ∙ ap (λ l. l ++ answers (take fits zs)) kept.underway ∙ answer_taken fits a.first a.last r in (
      one,
      record {
        request = others;
        underway = (drop fits zs, sym (take-append-drop fits zs) ∙ ap (λ l. l ++ drop fits zs) (sym under));
        whole = λ row. under ∙ all_fit fits zs (ltb fits (length zs)) refl row;
        answer = ap (λ xs. map (Res page.number) xs ++ zs) kept.results ∙ ap (page_answer_of a.first a.last) one;
        some = answer_some a.first a.last r;
        kept = first;
        first_rises = omega arith;
        last_rises = omega arith;
        position = kept.position;
        logged = logged;
        began = kept.began;
      },
    )
  where
    all_fit : (k : ℕ) (zs : List Down) (b : Bool) → ltb k (length zs) ≡ b → cond b NoRow d.sessions.row ≡ Present → take k zs ≡ zs
    all_fit k zs true is row = absurd (let e : NoRow ≡ Present = row in let bad : ⊥ = cc in bad)
    all_fit k zs false is row = take_all k zs (ltb-false k (length zs) is)

page_answers : (keep : ℕ) (a : events.Around) (fits : ℕ) (r : Request) (rest : List Up) (d : Device) → d.sessions.now.up_rest ≡ Query r ∷ rest →
    a.first ≡ first_of keep a.last → number_or_none (last_in d.reading.run) ≤ a.last → SessionsKept d.sessions → PageKept keep a.first a.last d →
    PageKept keep a.first a.last (events.served a fits (Query r ∷ rest) d)
page_answers keep a fits r rest d split first logged sessions kept = record {
  early = λ stage. absurd (let none : d.sessions.now.up_rest ≡ [] = sessions.now.is_session.up_rest stage in let bad : ⊥ = cc in bad);
  offline = λ off. ap (option_map (events.answered a r)) (kept.offline off);
  page = λ on. open_page d.reading.page (kept.page on);
  no_fault = kept.no_fault;
}
  where
    answered_is : (b : Bool) (page : OpenPage) → b ≡ true → cond b (record page { answer = Some (given a r) }) page ≡ record page { answer = Some (given a r) }
    answered_is true page is = refl
    answered_is false page is = absurd (let bad : ⊥ = cc in bad)

    open_page : (o : Option OpenPage) → IsPage keep a.first a.last d o → IsPage keep a.first a.last (events.served a fits (Query r ∷ rest) d) (option_map (events.answered a r) o)
    open_page None was = absurd (let all : requests d.sessions.now.up_rest ≡ r ∷ requests rest = ap requests split in let none : requests d.sessions.now.up_rest ≡ [] = was.0 in let bad : ⊥ = cc in bad)
    open_page (Some page) was =
        let both = answered_at keep a fits r rest d page split first logged page.answer refl was.progress in
        let number : (page.number == r.number) ≡ true = eq-eqb page.number r.number (sym (ap (λ q. q.number) both.0)) in
        subst (IsOpen keep a.first a.last (events.served a fits (Query r ∷ rest) d)) (sym (answered_is (page.number == r.number) page number))
        (record { number = was.number; some = was.some; most = was.most; progress = both.1 })

no_bounce : (b : Bool) (e n : ℕ) → (let zs : List Down = cond b [] (Bounced e n ∷ []) in answers zs ≡ [])
no_bounce true e n = refl
no_bounce false e n = refl

page_served : (keep : ℕ) (a : events.Around) (fits : ℕ) (zs : List Up) (d : Device) → d.sessions.now.up_rest ≡ zs →
    a.first ≡ first_of keep a.last → number_or_none (last_in d.reading.run) ≤ a.last → SessionsKept d.sessions → PageKept keep a.first a.last d →
    PageKept keep a.first a.last (events.served a fits zs d)
page_served keep a fits [] d split first logged sessions kept = kept
page_served keep a fits (Carbons ∷ rest) d split first logged sessions kept = page_quiet keep a.first a.last d _ (quiet_served a fits Carbons rest d split refl refl refl) kept
page_served keep a fits (Presence ∷ rest) d split first logged sessions kept = page_quiet keep a.first a.last d _ (quiet_served a fits Presence rest d split refl refl refl) kept
page_served keep a fits (Message m ∷ rest) d split first logged sessions kept =
    page_quiet keep a.first a.last d _ (quiet_served a fits (Message m) rest d split refl (no_bounce (events.is_among m.to a.accounts) m.epoch m.n) refl) kept
page_served keep a fits (Query r ∷ rest) d split first logged sessions kept = page_answers keep a fits r rest d split first logged sessions kept

-- A6 of the device where an act happens that isn't the client's handling of a stanza
pub page_own : (keep : ℕ) (a : events.Around) (act : events.Act) (d : Device) → events.May act d → act ≢ events.Act.ClientHandles →
    a.first ≡ first_of keep a.last → number_or_none (last_in d.reading.run) ≤ a.last → ((n : ℕ) → slice_get d.reading.run 0 ≡ Some n → n ≤ a.first) →
    SessionsKept d.sessions → PageKept keep a.first a.last d → PageKept keep a.first a.last (events.own a act d)
page_own keep a events.Act.Bind d may other first logged reach sessions kept = page_quiet keep a.first a.last d _ (quiet_binds d) kept
page_own keep a (events.Act.ReadBound true) d may other first logged reach sessions kept = page_reads_bound keep a.first a.last true d may.0 kept
page_own keep a (events.Act.ReadBound false) d may other first logged reach sessions kept = page_reads_bound keep a.first a.last false d may.0 kept
page_own keep a events.Act.Enable d may other first logged reach sessions kept = page_quiet keep a.first a.last d _ (quiet_counts d may.1) kept
page_own keep a events.Act.ReadEnabled d may other first logged reach sessions kept = page_goes_online keep a.first a.last d may.0 may.1 sessions kept
page_own keep a events.Act.End d may other first logged reach sessions kept = page_quiet keep a.first a.last d _ (quiet_ends d) kept
page_own keep a events.Act.Drop d may other first logged reach sessions kept = page_goes_offline keep a.first a.last a d kept
page_own keep a (events.Act.Acknowledge n) d may other first logged reach sessions kept = page_quiet keep a.first a.last d _ (quiet_acknowledged n d) kept
page_own keep a (events.Act.Say to text private) d may other first logged reach sessions kept = page_quiet keep a.first a.last d _ (quiet_says to text private d) kept
page_own keep a (events.Act.CatchUp max) d may other first logged reach sessions kept = page_asks keep a max d may.0 may.1 may.2 may.3 reach sessions kept
page_own keep a (events.Act.ServerHandles fits full) d may other first logged reach sessions kept = page_served keep a fits d.sessions.now.up_rest d refl first logged sessions kept
page_own keep a events.Act.ClientHandles d may other first logged reach sessions kept = absurd (other refl)
