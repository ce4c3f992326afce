-- What a device's client put of messages is what its user said, in order.
use Rattle.std.proofs.Common.{◌≡◌, ℕ, ◌+◌, ◌==◌, Bool, true, false, cond, List, [], ◌∷◌, ◌++◌, Option, Some, None, map, refl, sym, ap, ◌∙◌, subst, arith, append_assoc}
use Rattle.std.proofs.lemmas.Bool.{eq-eqb, eqb-true, false_from_ne_true, false≢true}
use Rattle.std.proofs.lemmas.List.{append-nil, map-append}
use Rattle.std.proofs.lemmas.List.Concat.{flat_map-append}
use Rattle.std.proofs.lemmas.List.Elements.{filter-append}
use Rattle.std.specs.List.{filter, flat_map, slice_get}
use Rattle.std.specs.Option.{option_map}
use Rattle.sim_1_applications.specs.Stanzas.{Submission, Up, Down, messages}
use Rattle.sim_1_applications.specs.Stanzas.Up.{Carbons, Presence, Message, Query}
use Rattle.sim_1_applications.specs.Devices.{AppWorld, Device, Session, Sessions, Take, epoch_of, up_put}
use Rattle.sim_1_applications.specs.Answers.{last_in}
use Rattle.sim_1_applications.specs.Events as events
use Rattle.sim_1_applications.specs.Events.AppEvent.{At, Tick}
use Rattle.sim_1_applications.specs.Histories.{Spoken, spoken_by, spoken_in}
use Rattle.sim_1_applications.proofs.Numbered.{messages_append}
use Rattle.sim_1_applications.proofs.Worlds.{at_position, get_each, same_position}

-- all messages that the client put, session after session
abbrev pub put_of : Session → List Submission
put_of s = messages (up_put s)

abbrev pub submitted : Sessions → List Submission
submitted s = flat_map put_of s.past ++ put_of s.now

abbrev pub as_spoken : ℕ → Submission → Spoken
as_spoken i m = record { device = i; to = m.to; text = m.text; private = m.private }

abbrev pub all_spoken : ℕ → Sessions → List Spoken
all_spoken i s = map (as_spoken i) (submitted s)

abbrev said_by : ℕ → events.Act → List Spoken
said_by i act = spoken_by (At i act)

none_more : (i : ℕ) (s t : Sessions) → submitted t ≡ submitted s → all_spoken i t ≡ all_spoken i s ++ []
none_more i s t same = ap (map (as_spoken i)) same ∙ sym (append-nil (all_spoken i s))

put_none : (zs : List Up) (s : Session) → messages zs ≡ [] → messages (s.up_got ++ (s.up_rest ++ zs)) ≡ put_of s
put_none zs s none =
    ap messages (sym (append_assoc s.up_got s.up_rest zs)) ∙ messages_append (up_put s) zs ∙ ap (λ ms. put_of s ++ ms) none ∙ append-nil (put_of s)

put_one : (m : Submission) (s : Session) → messages (s.up_got ++ (s.up_rest ++ Message m ∷ [])) ≡ put_of s ++ m ∷ []
put_one m s = ap messages (sym (append_assoc s.up_got s.up_rest (Message m ∷ []))) ∙ messages_append (up_put s) (Message m ∷ [])

of_now : (s t : Sessions) → t.past ≡ s.past → put_of t.now ≡ put_of s.now → submitted t ≡ submitted s
of_now s t past now = ap (λ ss. flat_map put_of ss ++ put_of t.now) past ∙ ap (λ ms. flat_map put_of s.past ++ ms) now

submitted_bound : (live : Bool) (s : Sessions) → submitted (events.reads_bound live s) ≡ submitted s
submitted_bound live s =
    append-nil (flat_map put_of (s.past ++ s.now ∷ [])) ∙ flat_map-append put_of s.past (s.now ∷ []) ∙ ap (λ ms. flat_map put_of s.past ++ ms) (append-nil (put_of s.now))

submitted_served : (x : events.Around) (fits : ℕ) (zs : List Up) (d : Device) → d.sessions.now.up_rest ≡ zs → submitted (events.served x fits zs d).sessions ≡ submitted d.sessions
submitted_served x fits [] d split = refl
submitted_served x fits (z ∷ rest) d split =
    ap (λ ms. flat_map put_of d.sessions.past ++ ms)
    (ap messages (append_assoc d.sessions.now.up_got (z ∷ []) rest) ∙ ap (λ zs. messages (d.sessions.now.up_got ++ zs)) (sym split))

queries_none : (r : Option _) → messages (events.queries r) ≡ []
queries_none None = refl
queries_none (Some r) = refl

submitted_read : (x : events.Around) (zs : List Down) (d : Device) → submitted (events.read x zs d).sessions ≡ submitted d.sessions
submitted_read x [] d = refl
submitted_read x (z ∷ rest) d =
    ap (λ ms. flat_map put_of d.sessions.past ++ ms)
    (put_none (events.queries (events.reads x z d.reading).request) d.sessions.now (queries_none (events.reads x z d.reading).request))

spoken_own : (i : ℕ) (x : events.Around) (act : events.Act) (d : Device) → all_spoken i (events.own x act d).sessions ≡ all_spoken i d.sessions ++ said_by i act
spoken_own i x events.Act.Bind d = none_more i d.sessions (events.own x events.Act.Bind d).sessions refl
spoken_own i x (events.Act.ReadBound live) d = none_more i d.sessions (events.own x (events.Act.ReadBound live) d).sessions (submitted_bound live d.sessions)
spoken_own i x events.Act.Enable d = none_more i d.sessions (events.own x events.Act.Enable d).sessions refl
spoken_own i x events.Act.ReadEnabled d =
    none_more i d.sessions (events.own x events.Act.ReadEnabled d).sessions (ap (λ ms. flat_map put_of d.sessions.past ++ ms) (put_none (Carbons ∷ Presence ∷ []) d.sessions.now refl))
spoken_own i x events.Act.End d = none_more i d.sessions (events.own x events.Act.End d).sessions refl
spoken_own i x events.Act.Drop d = none_more i d.sessions (events.own x events.Act.Drop d).sessions refl
spoken_own i x (events.Act.Acknowledge n) d = none_more i d.sessions (events.own x (events.Act.Acknowledge n) d).sessions refl
spoken_own i x (events.Act.CatchUp max) d =
    none_more i d.sessions (events.own x (events.Act.CatchUp max) d).sessions
    (ap (λ ms. flat_map put_of d.sessions.past ++ ms) (put_none (Query (record { number = d.reading.asked + 1; after = last_in d.reading.run; max = max }) ∷ []) d.sessions.now refl))
spoken_own i x (events.Act.Say to text private) d =
    let m : Submission = record { epoch = epoch_of d.sessions; n = d.sessions.n + 1; to = to; text = text; private = private } in
    ap (map (as_spoken i)) (ap (λ ms. flat_map put_of d.sessions.past ++ ms) (put_one m d.sessions.now) ∙ sym (append_assoc (flat_map put_of d.sessions.past) (put_of d.sessions.now) (m ∷ [])))
    ∙ map-append (as_spoken i) (submitted d.sessions) (m ∷ [])
spoken_own i x (events.Act.ServerHandles fits full) d =
    none_more i d.sessions (events.served x fits d.sessions.now.up_rest d).sessions (submitted_served x fits d.sessions.now.up_rest d refl)
spoken_own i x events.Act.ClientHandles d = none_more i d.sessions (events.read x d.sessions.now.down_rest d).sessions (submitted_read x d.sessions.now.down_rest d)

-- what is heard is no message of its own
submitted_hears : (takes : List Take) (full : List ℕ) (ts : List Take) (j : ℕ) (d : Device) → submitted (events.hear_all takes full ts j d).sessions ≡ submitted d.sessions
submitted_hears takes full [] j d = refl
submitted_hears takes full (t ∷ ts) j d = submitted_hears takes full ts j (events.hear takes full t j d)

-- of an event, what the user of a device said
abbrev pub is_by : ℕ → Spoken → Bool
is_by i s = s.device == i

abbrev pub spoken_at : ℕ → List events.AppEvent → List Spoken
spoken_at i all = filter (is_by i) (spoken_in all)

by_itself : (i j : ℕ) (act : events.Act) → (i == j) ≡ true → filter (is_by i) (said_by j act) ≡ said_by i act
by_itself i j (events.Act.Say to text private) is =
    let same : i ≡ j = same_position i j is in
    subst (λ k. filter (is_by i) (said_by k (events.Act.Say to text private)) ≡ said_by i (events.Act.Say to text private)) same
    (let hit : (i == i) ≡ true = eq-eqb i i refl in ap (λ b. cond b (said_by i (events.Act.Say to text private)) []) hit)
by_itself i j events.Act.Bind is = refl
by_itself i j (events.Act.ReadBound live) is = refl
by_itself i j events.Act.Enable is = refl
by_itself i j events.Act.ReadEnabled is = refl
by_itself i j events.Act.End is = refl
by_itself i j events.Act.Drop is = refl
by_itself i j (events.Act.Acknowledge n) is = refl
by_itself i j (events.Act.CatchUp max) is = refl
by_itself i j (events.Act.ServerHandles fits full) is = refl
by_itself i j events.Act.ClientHandles is = refl

by_another : (i j : ℕ) (act : events.Act) → (i == j) ≡ false → filter (is_by i) (said_by j act) ≡ []
by_another i j (events.Act.Say to text private) other =
    let miss : (j == i) ≡ false = false_from_ne_true (j == i) (λ is. let same : (i == j) ≡ true = eq-eqb i j (sym (eqb-true j i is)) in false≢true (sym other ∙ same)) in
    ap (λ b. cond b (said_by j (events.Act.Say to text private)) []) miss
by_another i j events.Act.Bind other = refl
by_another i j (events.Act.ReadBound live) other = refl
by_another i j events.Act.Enable other = refl
by_another i j events.Act.ReadEnabled other = refl
by_another i j events.Act.End other = refl
by_another i j events.Act.Drop other = refl
by_another i j (events.Act.Acknowledge n) other = refl
by_another i j (events.Act.CatchUp max) other = refl
by_another i j (events.Act.ServerHandles fits full) other = refl
by_another i j events.Act.ClientHandles other = refl

-- the first ones, and those that an event adds
IsGrown : ℕ → List Spoken → List Spoken → Device → Type 0
IsGrown i before more e = all_spoken i e.sessions ≡ before ++ more

spoken_becomes : (w : AppWorld) (new : List Take) (j : ℕ) (act : events.Act) (i : ℕ) (d : Device) →
    all_spoken i (events.becomes w new j act i d).sessions ≡ all_spoken i d.sessions ++ filter (is_by i) (said_by j act)
unfolding IsGrown
spoken_becomes w new j act i d =
    at_position (i == j) (events.own (events.around w d) act d) d
    (λ e. IsGrown i (all_spoken i d.sessions) (filter (is_by i) (said_by j act)) (events.hear_all (w.takes ++ new) (events.full_of act) new i e))
    (λ is. ap (map (as_spoken i)) (submitted_hears (w.takes ++ new) (events.full_of act) new i (events.own (events.around w d) act d))
    ∙ spoken_own i (events.around w d) act d ∙ ap (λ l. all_spoken i d.sessions ++ l) (sym (by_itself i j act is)))
    (λ other. ap (map (as_spoken i)) (submitted_hears (w.takes ++ new) (events.full_of act) new i d)
    ∙ sym (append-nil (all_spoken i d.sessions)) ∙ ap (λ l. all_spoken i d.sessions ++ l) (sym (by_another i j act other)))

pub record SaidAt (w : AppWorld) (i : ℕ) (said : List Spoken) : Type 0 where
  pub device : Device
  pub at : slice_get w.devices i ≡ Some device
  pub whole : all_spoken i device.sessions ≡ said

said_moves : (event : events.AppEvent) (w next : AppWorld) (i : ℕ) (said : List Spoken) → events.Moves event w next → SaidAt w i said → SaidAt next i (said ++ filter (is_by i) (spoken_by event))
said_moves (Tick ms) w next i said is kept =
    subst (λ v. SaidAt v i (said ++ [])) (sym is) (record { device = kept.device; at = kept.at; whole = kept.whole ∙ sym (append-nil said) })
said_moves (At j act) w next i said is kept =
    let new = events.taken_by w.accounts w.clock j is.0 act in
    subst (λ v. SaidAt v i (said ++ filter (is_by i) (spoken_by (At j act)))) (sym is.3) (record {
      device = events.becomes w new j act (0 + i) kept.device;
      at = get_each 0 (events.becomes w new j act) w.devices i ∙ ap (option_map (events.becomes w new j act (0 + i))) kept.at;
      whole =
          (let position : 0 + i ≡ i = omega arith in ap (λ k. all_spoken i (events.becomes w new j act k kept.device).sessions) position)
          ∙ spoken_becomes w new j act i kept.device ∙ ap (λ l. l ++ filter (is_by i) (spoken_by (At j act))) kept.whole;
    })

-- behind events the user of a device said what these tell
pub said_along : (all : List events.AppEvent) (w last : AppWorld) (i : ℕ) (said : List Spoken) → events.Reaches all w last → SaidAt w i said → SaidAt last i (said ++ spoken_at i all)
said_along [] w last i said is kept = subst (λ v. SaidAt v i (said ++ [])) (sym is) (record { device = kept.device; at = kept.at; whole = kept.whole ∙ sym (append-nil said) })
said_along (event ∷ all) w last i said reaches kept =
    let next = said_moves event w reaches.0 i said reaches.1 kept in
    subst (SaidAt last i)
    (append_assoc said (filter (is_by i) (spoken_by event)) (spoken_at i all) ∙ ap (λ l. said ++ l) (sym (filter-append (is_by i) (spoken_by event) (spoken_in all))))
    (said_along all reaches.0 last i (said ++ filter (is_by i) (spoken_by event)) reaches.2 next)
