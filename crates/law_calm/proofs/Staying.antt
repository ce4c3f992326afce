-- Where a connection on which the client works flows in the end, no move cut it, left it or dialled another one.
use Rattle.std.proofs.Common.{◌≡◌, ◌≢◌, ℕ, zero, suc, true, false, List, [], ◌∷◌, refl, sym, ap, ◌∙◌, subst, None, Some}
use Rattle.sim_2_links.proofs.CutLinks.{some_one}
use Rattle.sim_2_links.proofs.Entries.{at_other, at_same, is_has}
use Rattle.sim_2_links.proofs.Tables.{cut_stops}
use Rattle.sim_2_links.specs.Wires.{Wires, Flow, Stop, cut, is_flowing}
use Rattle.sim_2_links.specs.EndMoves.{with_foot}
use Rattle.sim_2_links.specs.Stages.{Conn}
use Rattle.sim_2_links.specs.Views.{Table, View, has, with_at}
use Rattle.sim_2_links.specs.Machine.{LinkMove, Cuts, Dials, LetsGo, Foots, Forgets, LinkMoves}
use Rattle.law_calm.proofs.Changes.{Changed, at_one, at_none}
use Rattle.law_calm.proofs.Calm.{IsCalm, goes_on, stays_here}
use Rattle.law_calm.specs.Rounds.{Leads, Goes, IsRound, AreRounds}

-- ---- what flows did so before

abbrev pub FlowedBefore : {A : Type 0} → Conn A → Conn A → Type 0
FlowedBefore c d = is_flowing d.wires ≡ true → is_flowing c.wires ≡ true

same_flow : {A : Type 0} (c : Conn A) → FlowedBefore c c
same_flow c = λ e. e

pub foot_flow : {A : Type 0} (x : Wires A) → is_flowing (with_foot x) ≡ is_flowing x
foot_flow (Flow us ds) = refl
foot_flow (Stop us ds lu ld) = refl

cut_flow : {A : Type 0} (i j : ℕ) (c : Conn A) → FlowedBefore c (record c { wires = cut i j c.wires })
cut_flow i j c = λ e. absurd (let no = cut_stops i j c.wires in let no_way : ⊥ = cc in no_way)

abbrev conns_of : {A : Type 0} (v : View A) → Table (Conn A)
conns_of v = v.conns

pub never_fresh : {A : Type 0} (j k : ℕ) (c : Conn A) (v : View A) → v.conns j ≡ None → v.conns k ≡ Some c → j ≢ k
never_fresh {A = A} j k c v none is same = let no : v.conns k ≡ None = subst (λ x. v.conns x ≡ None) same none in let no_way : ⊥ = cc in no_way

any_flows : {A : Type 0} (move : LinkMove A) (v next : View A) (k : ℕ) (c : Conn A) → LinkMoves move v next → v.conns k ≡ Some c → Changed FlowedBefore k c next
any_flows (Cuts j a b) v next k c m is = at_one FlowedBefore same_flow j k m.conn _ c v next (ap conns_of m.gives) m.is is (cut_flow a b m.conn)
any_flows {A = A} (Dials j) v next k c m is = (c, ap (λ (t : Table (Conn A)). t k) (ap conns_of m.gives) ∙ at_other j _ v.conns k (never_fresh j k c v m.fresh is) ∙ is, same_flow c)
any_flows (LetsGo j) v next k c m is = at_none FlowedBefore same_flow k c v next (ap conns_of m.gives) is
any_flows (Foots j) v next k c m is = at_one FlowedBefore same_flow j k m.conn _ c v next (ap conns_of m.gives) m.is is (λ e. sym (foot_flow m.conn.wires) ∙ e)
any_flows Forgets v next k c m is = at_none FlowedBefore same_flow k c v next (ap conns_of m.gives) is
any_flows move v next k c m is = let on = goes_on move v next k c tt m is in (on.0, on.1, on.2.flows)

pub conn_along : {A : Type 0} (kind : LinkMove A → Type 0) (moves : List (LinkMove A)) (v last : View A) (k : ℕ) (c : Conn A) → Leads kind moves v last → v.conns k ≡ Some c → (d : Conn A) × (last.conns k ≡ Some d)
conn_along {A = A} kind [] v last k c same is = (c, subst (λ (x : View A). x.conns k ≡ Some c) (sym same) is)
conn_along {A = A} kind (move ∷ moves) v last k c (next, ok, made, more) is =
    let on = any_flows move v next k c made is in
    conn_along kind moves next last k on.0 more on.1

pub flows_along : {A : Type 0} (kind : LinkMove A → Type 0) (moves : List (LinkMove A)) (v last : View A) (k : ℕ) (c d : Conn A) → Leads kind moves v last → v.conns k ≡ Some c → last.conns k ≡ Some d → is_flowing d.wires ≡ true → is_flowing c.wires ≡ true
flows_along {A = A} kind [] v last k c d same is at flows =
    let one : d ≡ c = some_one (v.conns k) d c (subst (λ (x : View A). x.conns k ≡ Some d) same at) is in
    subst (λ (x : Conn A). is_flowing x.wires ≡ true) one flows
flows_along {A = A} kind (move ∷ moves) v last k c d (next, ok, made, more) is at flows =
    let on = any_flows move v next k c made is in
    on.2 (flows_along kind moves next last k on.0 d more on.1 at flows)

pub conn_round : {A : Type 0} (kind : LinkMove A → Type 0) (v last : View A) (k : ℕ) (c : Conn A) → IsRound kind k v last → v.conns k ≡ Some c → (d : Conn A) × (last.conns k ≡ Some d)
conn_round kind v last k c round is =
    let taken = conn_along kind round.up.moves v round.taken k c round.up.leads is in
    let read = conn_along kind round.down.moves round.taken round.read k taken.0 round.down.leads taken.1 in
    conn_along kind round.rest.moves round.read last k read.0 round.rest.leads read.1

pub conn_rounds : {A : Type 0} (kind : LinkMove A → Type 0) (n : ℕ) (v last : View A) (k : ℕ) (c : Conn A) → AreRounds kind k n v last → v.conns k ≡ Some c → (d : Conn A) × (last.conns k ≡ Some d)
conn_rounds {A = A} kind zero v last k c same is = (c, subst (λ (x : View A). x.conns k ≡ Some c) (sym same) is)
conn_rounds kind (suc n) v last k c (next, round, more) is =
    let then = conn_round kind v next k c round is in
    conn_rounds kind n next last k then.0 more then.1

pub flows_round : {A : Type 0} (kind : LinkMove A → Type 0) (v last : View A) (k : ℕ) (c d : Conn A) → IsRound kind k v last → v.conns k ≡ Some c → last.conns k ≡ Some d → is_flowing d.wires ≡ true → is_flowing c.wires ≡ true
flows_round kind v last k c d round is at flows =
    let taken = conn_along kind round.up.moves v round.taken k c round.up.leads is in
    let read = conn_along kind round.down.moves round.taken round.read k taken.0 round.down.leads taken.1 in
    flows_along kind round.up.moves v round.taken k c taken.0 round.up.leads is taken.1
    (flows_along kind round.down.moves round.taken round.read k taken.0 read.0 round.down.leads taken.1 read.1
    (flows_along kind round.rest.moves round.read last k read.0 d round.rest.leads read.1 at flows))

pub flows_rounds : {A : Type 0} (kind : LinkMove A → Type 0) (n : ℕ) (v last : View A) (k : ℕ) (c d : Conn A) → AreRounds kind k n v last → v.conns k ≡ Some c → last.conns k ≡ Some d → is_flowing d.wires ≡ true → is_flowing c.wires ≡ true
flows_rounds {A = A} kind zero v last k c d same is at flows =
    let one : d ≡ c = some_one (v.conns k) d c (subst (λ (x : View A). x.conns k ≡ Some d) same at) is in
    subst (λ (x : Conn A). is_flowing x.wires ≡ true) one flows
flows_rounds {A = A} kind (suc n) v last k c d (next, round, more) is at flows =
    let then = conn_round kind v next k c round is in
    flows_round kind v next k c then.0 round is then.1 (flows_rounds kind n next last k then.0 d more then.1 at flows)

-- ---- what stays open was left alone

stays_calm : {A : Type 0} (move : LinkMove A) (v next : View A) (k : ℕ) (c d : Conn A) → v.here ≡ Some k → v.conns k ≡ Some c → LinkMoves move v next → next.conns k ≡ Some d → is_flowing d.wires ≡ true → IsCalm k move
stays_calm {A = A} (Cuts j a b) v next k c d here is m at flows = λ same.
    let new : Conn A = record m.conn { wires = cut a b m.conn.wires } in
    let now : next.conns k ≡ Some new = ap (λ (t : Table (Conn A)). t k) (ap conns_of m.gives) ∙ subst (λ x. with_at j new v.conns x ≡ Some new) same (at_same j new v.conns) in
    let one : new ≡ d = some_one (next.conns k) new d now at in
    let stops : is_flowing d.wires ≡ false = subst (λ (x : Conn A). is_flowing x.wires ≡ false) one (cut_stops a b m.conn.wires) in
    let no_way : ⊥ = cc in no_way
stays_calm (Dials j) v next k c d here is m at flows = let idle = m.idle in let no_way : ⊥ = cc in no_way
stays_calm {A = A} (LetsGo j) v next k c d here is m at flows =
    let same : j ≡ k = (let a : Some j ≡ Some k = sym m.here ∙ here in cc) in
    let then : v.conns k ≡ Some d = sym (ap (λ (t : Table (Conn A)). t k) (ap conns_of m.gives)) ∙ at in
    let one : m.conn ≡ d = some_one (v.conns k) m.conn d (subst (λ x. v.conns x ≡ Some m.conn) same m.is) then in
    let stops : is_flowing d.wires ≡ false = subst (λ (x : Conn A). is_flowing x.wires ≡ false) one m.ended in
    let no_way : ⊥ = cc in no_way
stays_calm (Foots j) v next k c d here is m at flows = λ same.
    let works : has v.here j ≡ true = is_has v.here j (here ∙ ap Some (sym same)) in
    let left = m.left in
    let no_way : ⊥ = cc in no_way
stays_calm Forgets v next k c d here is m at flows = let idle = m.idle in let no_way : ⊥ = cc in no_way
stays_calm _ v next k c d here is m at flows = tt

-- of one of these kinds, and leaving the connection alone
abbrev pub IsCalmAnd : {A : Type 0} → (LinkMove A → Type 0) → ℕ → LinkMove A → Type 0
IsCalmAnd kind k move = kind move × IsCalm k move

calm_leads : {A : Type 0} (kind : LinkMove A → Type 0) (moves : List (LinkMove A)) (v last : View A) (k : ℕ) (c d : Conn A) → Leads kind moves v last → v.here ≡ Some k → v.conns k ≡ Some c → last.conns k ≡ Some d → is_flowing d.wires ≡ true → Leads (IsCalmAnd kind k) moves v last × (last.here ≡ Some k)
calm_leads {A = A} kind [] v last k c d same here is at flows = (same, ap (λ (x : View A). x.here) same ∙ here)
calm_leads {A = A} kind (move ∷ moves) v last k c d (next, ok, made, more) here is at flows =
    let on = any_flows move v next k c made is in
    let calm = stays_calm move v next k c on.0 here is made on.1 (flows_along kind moves next last k on.0 d more on.1 at flows) in
    let then = calm_leads kind moves next last k on.0 d more (stays_here move v next k calm made ∙ here) on.1 at flows in
    ((next, (ok, calm), made, then.0), then.1)

pub calm_goes : {A : Type 0} (kind : LinkMove A → Type 0) (v last : View A) (k : ℕ) (c d : Conn A) → Goes kind v last → v.here ≡ Some k → v.conns k ≡ Some c → last.conns k ≡ Some d → is_flowing d.wires ≡ true → Goes (IsCalmAnd kind k) v last × (last.here ≡ Some k)
calm_goes kind v last k c d goes here is at flows =
    let then = calm_leads kind goes.moves v last k c d goes.leads here is at flows in
    (record { moves = goes.moves; leads = then.0 }, then.1)

calm_round : {A : Type 0} (kind : LinkMove A → Type 0) (v last : View A) (k : ℕ) (c d : Conn A) → IsRound kind k v last → v.here ≡ Some k → v.conns k ≡ Some c → last.conns k ≡ Some d → is_flowing d.wires ≡ true → IsRound (IsCalmAnd kind k) k v last × (last.here ≡ Some k)
calm_round kind v last k c d round here is at flows =
    let taken = conn_along kind round.up.moves v round.taken k c round.up.leads is in
    let read = conn_along kind round.down.moves round.taken round.read k taken.0 round.down.leads taken.1 in
    let flows_read = flows_along kind round.rest.moves round.read last k read.0 d round.rest.leads read.1 at flows in
    let flows_taken = flows_along kind round.down.moves round.taken round.read k taken.0 read.0 round.down.leads taken.1 read.1 flows_read in
    let up = calm_goes kind v round.taken k c taken.0 round.up here is taken.1 flows_taken in
    let down = calm_goes kind round.taken round.read k taken.0 read.0 round.down up.1 taken.1 read.1 flows_read in
    let rest = calm_goes kind round.read last k read.0 d round.rest down.1 read.1 at flows in
    (record { taken = round.taken; up = up.0; up_empty = round.up_empty; read = round.read; down = down.0; down_empty = round.down_empty; rest = rest.0 }, rest.1)

pub calm_rounds : {A : Type 0} (kind : LinkMove A → Type 0) (n : ℕ) (v last : View A) (k : ℕ) (c d : Conn A) → AreRounds kind k n v last → v.here ≡ Some k → v.conns k ≡ Some c → last.conns k ≡ Some d → is_flowing d.wires ≡ true → AreRounds (IsCalmAnd kind k) k n v last × (last.here ≡ Some k)
calm_rounds {A = A} kind zero v last k c d same here is at flows = (same, ap (λ (x : View A). x.here) same ∙ here)
calm_rounds {A = A} kind (suc n) v last k c d (next, round, more) here is at flows =
    let then = conn_round kind v next k c round is in
    let one = calm_round kind v next k c then.0 round here is then.1 (flows_rounds kind n next last k then.0 d more then.1 at flows) in
    let others = calm_rounds kind n next last k then.0 d more one.1 then.1 at flows in
    ((next, one.0, others.0), others.1)
