-- Each round leaves one round less to go until the client is online.
use Rattle.std.proofs.Common.{arith, ◌≡◌, ◌⊎◌, ℕ, zero, suc, ◌+◌, ◌≤◌, ◌<◌, true, List, [], ◌∷◌, ◌++◌, refl, sym, ap, ◌∙◌, subst, inl, inr, Some}
use Rattle.std.proofs.lemmas.List.{append-nil}
use Rattle.sim_2_links.proofs.CutLinks.{some_one}
use Rattle.sim_2_links.proofs.Entries.{is_has}
use Rattle.sim_2_links.proofs.Reached.{link_kept, move_keeps}
use Rattle.sim_2_links.specs.Words.{Client, InHeader1, InFeatures1, InAuth, InResponse, InHeader2, InFeatures2, InResume, InBind, InEnable, InOnline}
use Rattle.sim_2_links.specs.Wires.{Wires, Flow, Stop, is_flowing, up_words, down_words, up_whole, down_whole}
use Rattle.sim_2_links.specs.Stages.{Stage, AsksResume, Refused, Resumes, Binds, AsksEnable, Enables, Runs, client_of, up_of, down_of, tail_of, foot_of, Conn}
use Rattle.sim_2_links.specs.Views.{View, has}
use Rattle.sim_2_links.specs.Links.{ConnKept, LinkKept}
use Rattle.sim_2_links.specs.Machine.{LinkMove, LinkMoves, LinkReached}
use Rattle.law_calm.proofs.Changes.{GoesOn}
use Rattle.law_calm.proofs.Calm.{IsCalm, goes_on, stays_here}
use Rattle.law_calm.proofs.Staying.{IsCalmAnd, calm_rounds, flows_along, flows_rounds}
use Rattle.law_calm.specs.Rounds.{IsAny, Leads, Goes, IsRound, AreRounds, rounds_to_go}

-- ---- what moves of a kind keep

pub kept_along : {A : Type 0} (kind : LinkMove A → Type 0) (P : View A → Type 0) → ((move : LinkMove A) (v next : View A) → kind move → LinkMoves move v next → LinkKept v → P v → P next) → (moves : List (LinkMove A)) (v last : View A) → Leads kind moves v last → LinkKept v → P v → LinkKept last × P last
kept_along kind P keeps [] v last same kept p = subst (λ x. LinkKept x × P x) (sym same) (kept, p)
kept_along kind P keeps (move ∷ moves) v last (next, is, made, more) kept p = kept_along kind P keeps moves next last more (move_keeps move v next made kept) (keeps move v next is made kept p)

pub kept_going : {A : Type 0} (kind : LinkMove A → Type 0) (P : View A → Type 0) → ((move : LinkMove A) (v next : View A) → kind move → LinkMoves move v next → LinkKept v → P v → P next) → (v last : View A) → Goes kind v last → LinkKept v → P v → LinkKept last × P last
kept_going kind P keeps v last goes kept p = kept_along kind P keeps goes.moves v last goes.leads kept p

-- ---- where nothing is under way

-- only one row of the table has nothing in both pipes
idle_row : {A : Type 0} (s : Stage A) → up_of s ≡ [] → down_of s ≡ [] → (p : ℕ) × (client_of s ≡ InOnline p)
idle_row (Runs p [] []) e f = (p, refl)
idle_row (Runs p (u ∷ ups) downs) e f = absurd (let no_way : ⊥ = cc in no_way)
idle_row (Runs p [] (d ∷ downs)) e f = absurd (let no_way : ⊥ = cc in no_way)
idle_row (AsksResume p h) e f = absurd (let no_way : ⊥ = cc in no_way)
idle_row (Refused p) e f = absurd (let no_way : ⊥ = cc in no_way)
idle_row (Resumes p h downs) e f = absurd (let no_way : ⊥ = cc in no_way)
idle_row (Binds m) e f = absurd (let no_way : ⊥ = cc in no_way)
idle_row (AsksEnable m) e f = absurd (let no_way : ⊥ = cc in no_way)
idle_row (Enables m downs) e f = absurd (let no_way : ⊥ = cc in no_way)
idle_row _ e f = absurd (let no_way : ⊥ = cc in no_way)

flowing_whole : {A : Type 0} (x : Wires A) → is_flowing x ≡ true → (up_whole x ≡ up_words x) × (down_whole x ≡ down_words x)
flowing_whole (Flow us ds) e = (refl, refl)
flowing_whole (Stop us ds lu ld) e = absurd (let no_way : ⊥ = cc in no_way)

-- the client is online
pub idle_online : {A : Type 0} (v : View A) (k : ℕ) (c : Conn A) → LinkKept v → v.here ≡ Some k → v.conns k ≡ Some c → is_flowing c.wires ≡ true → up_words c.wires ≡ [] → down_words c.wires ≡ [] → (p : ℕ) × (c.client ≡ InOnline p)
idle_online {A = A} v k c kept here is flows no_up no_down = (row.0, old.at.client ∙ row.1)
  where
    old : ConnKept v k c
    old = kept.conns k c is

    works : has v.here k ≡ true
    works = is_has v.here k here

    whole : (up_whole c.wires ≡ up_words c.wires) × (down_whole c.wires ≡ down_words c.wires)
    whole = flowing_whole c.wires flows

    row : (p : ℕ) × (client_of old.stage ≡ InOnline p)
    row = idle_row old.stage
        (sym (append-nil (up_of old.stage)) ∙ ap (λ x. up_of old.stage ++ foot_of x) (sym (old.piped.unfooted works)) ∙ sym old.at.up ∙ whole.0 ∙ no_up)
        (sym (append-nil (down_of old.stage)) ∙ ap (λ x. down_of old.stage ++ tail_of x) (sym ((old.piped.flowing flows).1)) ∙ sym old.at.down ∙ whole.1 ∙ no_down)

-- with nothing to go it is, and the other way
pub nothing_to_go : (c : Client) → rounds_to_go c ≤ 0 → (p : ℕ) × (c ≡ InOnline p)
nothing_to_go (InOnline p) e = (p, refl)
nothing_to_go InHeader1 e = absurd (omega arith)
nothing_to_go InFeatures1 e = absurd (omega arith)
nothing_to_go InAuth e = absurd (omega arith)
nothing_to_go InResponse e = absurd (omega arith)
nothing_to_go InHeader2 e = absurd (omega arith)
nothing_to_go InFeatures2 e = absurd (omega arith)
nothing_to_go (InResume p) e = absurd (omega arith)
nothing_to_go InBind e = absurd (omega arith)
nothing_to_go InEnable e = absurd (omega arith)

-- ---- a round

-- the client works on the connection, with at most so many rounds to go
pub record Has {A : Type 0} (k most : ℕ) (v : View A) : Type 0 where
  pub here : v.here ≡ Some k
  pub conn : Conn A
  pub is : v.conns k ≡ Some conn
  pub low : rounds_to_go conn.client ≤ most

-- with fewer, or with nothing put up since nothing was on its way up
abbrev pub IsNearer : {A : Type 0} → ℕ → Conn A → Type 0
IsNearer most c = (rounds_to_go c.client + 1 ≤ most) ⊎ ((rounds_to_go c.client ≤ most) × (up_words c.wires ≡ []))

pub record HasNearer {A : Type 0} (k most : ℕ) (v : View A) : Type 0 where
  pub here : v.here ≡ Some k
  pub conn : Conn A
  pub is : v.conns k ≡ Some conn
  pub near : IsNearer most conn

pub below : {A : Type 0} (most : ℕ) (c d : Conn A) → GoesOn c d → rounds_to_go c.client ≤ most → rounds_to_go d.client ≤ most
below most c d goes low =
    elim goes.comes [
      | inl same ↦ let e = same.0 in omega arith
      | inr more ↦ elim more [ inl near ↦ omega arith | inr done ↦ let e = done.1 in omega arith ]
    ]

pub nearer : {A : Type 0} (most : ℕ) (c d : Conn A) → 1 ≤ most → GoesOn c d → IsNearer most c → IsNearer most d
nearer most c d some goes is =
    elim goes.comes [
      | inl same ↦ elim is [ inl low ↦ inl (let e = same.0 in omega arith) | inr still ↦ inr ((let e = same.0 in let f = still.0 in omega arith), same.1 still.1) ]
      | inr more ↦ elim more [ inl near ↦ inl (elim is [ inl low ↦ omega arith | inr still ↦ let f = still.0 in omega arith ]) | inr done ↦ inl (let e = done.1 in omega arith) ]
    ]

pub has_keeps : {A : Type 0} (k most : ℕ) (move : LinkMove A) (v next : View A) → IsCalm k move → LinkMoves move v next → Has k most v → Has k most next
has_keeps k most move v next calm made has =
    let on = goes_on move v next k has.conn calm made has.is in
    record { here = stays_here move v next k calm made ∙ has.here; conn = on.0; is = on.1; low = below most has.conn on.0 on.2 has.low }

nearer_keeps : {A : Type 0} (k most : ℕ) → 1 ≤ most → (move : LinkMove A) (v next : View A) → IsCalm k move → LinkMoves move v next → HasNearer k most v → HasNearer k most next
nearer_keeps k most some move v next calm made has =
    let on = goes_on move v next k has.conn calm made has.is in
    record { here = stays_here move v next k calm made ∙ has.here; conn = on.0; is = on.1; near = nearer most has.conn on.0 some on.2 has.near }

-- behind a round
pub record HasRound {A : Type 0} (k most : ℕ) (last : View A) : Type 0 where
  pub kept : LinkKept last
  pub has : Has k most last
  pub nearer : is_flowing has.conn.wires ≡ true → (less : ℕ) → most ≤ less + 1 → rounds_to_go has.conn.client ≤ less

pub has_going : {A : Type 0} (kind : LinkMove A → Type 0) (k most : ℕ) → ((move : LinkMove A) → kind move → IsCalm k move) → (v last : View A) → Goes kind v last → LinkKept v → Has k most v → LinkKept last × Has k most last
has_going {A = A} kind k most into v last goes kept has = kept_going kind (Has k most) keeps v last goes kept has
  where
    keeps : (move : LinkMove A) (x next : View A) → kind move → LinkMoves move x next → LinkKept x → Has k most x → Has k most next
    keeps move x next is made old it = has_keeps k most move x next (into move is) made it

round_brings : {A : Type 0} (kind : LinkMove A → Type 0) (k most : ℕ) → ((move : LinkMove A) → kind move → IsCalm k move) → (v last : View A) → IsRound kind k v last → LinkKept v → Has k most v → HasRound k most last
round_brings {A = A} kind k zero into v last round kept has = record { kept = end.0; has = end.1; nearer = λ flows less low. let e = end.1.low in omega arith }
  where
    mid : LinkKept round.taken × Has k 0 round.taken
    mid = has_going kind k 0 into v round.taken round.up kept has

    then : LinkKept round.read × Has k 0 round.read
    then = has_going kind k 0 into round.taken round.read round.down mid.0 mid.1

    end : LinkKept last × Has k 0 last
    end = has_going kind k 0 into round.read last round.rest then.0 then.1
round_brings {A = A} kind k (suc less) into v last round kept has = record { kept = end.0; has = end.1; nearer = nearer_in_the_end }
  where
    some : 1 ≤ suc less
    some = omega arith

    nears : (move : LinkMove A) (x next : View A) → kind move → LinkMoves move x next → LinkKept x → HasNearer k (suc less) x → HasNearer k (suc less) next
    nears move x next is made old it = nearer_keeps k (suc less) some move x next (into move is) made it

    mid : LinkKept round.taken × Has k (suc less) round.taken
    mid = has_going kind k (suc less) into v round.taken round.up kept has

    near : HasNearer k (suc less) round.taken
    near =
        let one : round.up_empty.0 ≡ mid.1.conn = some_one (round.taken.conns k) round.up_empty.0 mid.1.conn round.up_empty.1 mid.1.is in
        record { here = mid.1.here; conn = mid.1.conn; is = mid.1.is; near = inr (mid.1.low, subst (λ (x : Conn A). up_words x.wires ≡ []) one round.up_empty.2) }

    then : LinkKept round.read × HasNearer k (suc less) round.read
    then = kept_going kind (HasNearer k (suc less)) nears round.taken round.read round.down mid.0 near

    has_then : Has k (suc less) round.read
    has_then = record { here = then.1.here; conn = then.1.conn; is = then.1.is; low = elim then.1.near [ inl less_now ↦ omega arith | inr still ↦ still.0 ] }

    online : is_flowing then.1.conn.wires ≡ true → up_words then.1.conn.wires ≡ [] → (fewer : ℕ) → rounds_to_go then.1.conn.client ≤ fewer
    online flows no_up fewer =
        let one : round.down_empty.0 ≡ then.1.conn = some_one (round.read.conns k) round.down_empty.0 then.1.conn round.down_empty.1 then.1.is in
        let it = idle_online round.read k then.1.conn then.0 then.1.here then.1.is flows no_up (subst (λ (x : Conn A). down_words x.wires ≡ []) one round.down_empty.2) in
        let e : rounds_to_go then.1.conn.client ≡ 0 = ap rounds_to_go it.1 in
        omega arith

    end : LinkKept last × Has k (suc less) last
    end = has_going kind k (suc less) into round.read last round.rest then.0 has_then

    nearer_in_the_end : is_flowing end.1.conn.wires ≡ true → (fewer : ℕ) → suc less ≤ fewer + 1 → rounds_to_go end.1.conn.client ≤ fewer
    nearer_in_the_end flows fewer low =
        let flowed : is_flowing then.1.conn.wires ≡ true = flows_along kind round.rest.moves round.read last k then.1.conn end.1.conn round.rest.leads then.1.is end.1.is flows in
        let now : rounds_to_go then.1.conn.client ≤ fewer = elim then.1.near [ inl less_now ↦ omega arith | inr still ↦ online flowed still.1 fewer ] in
        let last_has : LinkKept last × Has k fewer last = has_going kind k fewer into round.read last round.rest then.0 (record { here = then.1.here; conn = then.1.conn; is = then.1.is; low = now }) in
        let one : last_has.1.conn ≡ end.1.conn = some_one (last.conns k) last_has.1.conn end.1.conn last_has.1.is end.1.is in
        subst (λ (x : Conn A). rounds_to_go x.client ≤ fewer) one last_has.1.low

-- ---- rounds

-- where the connection flows in the end, so many fewer are to go
pub rounds_bring : {A : Type 0} (kind : LinkMove A → Type 0) (k n less most : ℕ) → ((move : LinkMove A) → kind move → IsCalm k move) → (v last : View A) (d : Conn A) → AreRounds kind k n v last → LinkKept v → Has k most v → most ≤ n + less → last.conns k ≡ Some d → is_flowing d.wires ≡ true → rounds_to_go d.client ≤ less
rounds_bring {A = A} kind k zero less most into v last d same kept has low at flows =
    let one : has.conn ≡ d = some_one (v.conns k) has.conn d has.is (subst (λ (x : View A). x.conns k ≡ Some d) same at) in
    subst (λ (x : Conn A). rounds_to_go x.client ≤ less) one (let e = has.low in omega arith)
rounds_bring {A = A} kind k (suc n) less most into v last d (next, round, more) kept has low at flows =
    let one : HasRound k most next = round_brings kind k most into v next round kept has in
    let there : is_flowing one.has.conn.wires ≡ true = flows_rounds kind n next last k one.has.conn d more one.has.is at flows in
    let near : rounds_to_go one.has.conn.client ≤ n + less = one.nearer there (n + less) (omega arith) in
    let now : Has k (n + less) next = record { here = one.has.here; conn = one.has.conn; is = one.has.is; low = near } in
    let same : n + less ≤ n + less = omega arith in
    rounds_bring kind k n less (n + less) into next last d more one.kept now same at flows

-- and the device stays on the connection
pub rounds_keep : {A : Type 0} (kind : LinkMove A → Type 0) (k n most : ℕ) → ((move : LinkMove A) → kind move → IsCalm k move) → (v last : View A) → AreRounds kind k n v last → LinkKept v → Has k most v → LinkKept last × Has k most last
rounds_keep kind k zero most into v last same kept has = subst (λ x. LinkKept x × Has k most x) (sym same) (kept, has)
rounds_keep kind k (suc n) most into v last (next, round, more) kept has =
    let one = round_brings kind k most into v next round kept has in
    rounds_keep kind k n most into next last more one.kept one.has

pub has_now : {A : Type 0} (v : View A) (k : ℕ) (c : Conn A) → v.here ≡ Some k → v.conns k ≡ Some c → Has k (rounds_to_go c.client) v
has_now v k c here is = record { here = here; conn = c; is = is; low = omega arith }

pub is_calm : {A : Type 0} (kind : LinkMove A → Type 0) (k : ℕ) (move : LinkMove A) → IsCalmAnd kind k move → IsCalm k move
is_calm kind k move both = both.1

-- ---- the law

pub low_then : {A : Type 0} (v last : View A) (k n less : ℕ) (c d : Conn A) → LinkReached v → v.here ≡ Some k → v.conns k ≡ Some c → AreRounds IsAny k n v last → rounds_to_go c.client ≤ n + less → last.conns k ≡ Some d → is_flowing d.wires ≡ true → rounds_to_go d.client ≤ less
low_then {A = A} v last k n less c d reached here is rounds low at flows =
    rounds_bring (IsCalmAnd IsAny k) k n less (rounds_to_go c.client) (is_calm IsAny k) v last d (calm_rounds IsAny n v last k c d rounds here is at flows).0 (link_kept v reached) (has_now v k c here is) low at flows

pub falls : {A : Type 0} (v next : View A) (k : ℕ) (c d : Conn A) → LinkReached v → v.here ≡ Some k → v.conns k ≡ Some c → IsRound IsAny k v next → next.conns k ≡ Some d → is_flowing d.wires ≡ true → (rounds_to_go d.client < rounds_to_go c.client) ⊎ ((p : ℕ) × (d.client ≡ InOnline p))
falls {A = A} v next k c d reached here is round at flows = go (rounds_to_go c.client) refl
  where
    near : (less : ℕ) → rounds_to_go c.client ≤ 1 + less → rounds_to_go d.client ≤ less
    near less low = low_then v next k 1 less c d reached here is (next, round, refl) low at flows

    go : (n : ℕ) → rounds_to_go c.client ≡ n → (rounds_to_go d.client < rounds_to_go c.client) ⊎ ((p : ℕ) × (d.client ≡ InOnline p))
    go zero e = inr (nothing_to_go d.client (near 0 (omega arith)))
    go (suc less) e = inl (let f = near less (omega arith) in omega arith)

pub online_then : {A : Type 0} (v last : View A) (k n : ℕ) (c d : Conn A) → LinkReached v → v.here ≡ Some k → v.conns k ≡ Some c → AreRounds IsAny k n v last → rounds_to_go c.client ≤ n → last.conns k ≡ Some d → is_flowing d.wires ≡ true → (p : ℕ) × (d.client ≡ InOnline p)
online_then {A = A} v last k n c d reached here is rounds low at flows = nothing_to_go d.client (low_then v last k n 0 c d reached here is rounds (omega arith) at flows)
