-- What the client had put in its session is handled, where it had so many rounds to go and one more comes behind.
use Rattle.std.proofs.Common.{arith, ◌≡◌, ℕ, zero, suc, ◌+◌, ◌≤◌, true, List, [], ◌∷◌, ◌++◌, refl, sym, ap, ◌∙◌, subst, append-nil, append_assoc, Some}
use Rattle.sm_acks.specs.Delivery.{Acknowledge, Cut, Direction, Handle, IsPrefix, Move, Moves, Put, Reaches, Resume, State}
use Rattle.sim_2_links.proofs.Covering.{together}
use Rattle.sim_2_links.proofs.CutLinks.{some_one}
use Rattle.sim_2_links.proofs.Entries.{at_other}
use Rattle.sim_2_links.proofs.Onward.{move_goes, still, tables_both}
use Rattle.sim_2_links.proofs.Reached.{link_kept, move_keeps}
use Rattle.sim_2_links.specs.Words.{Client, InFeatures2, InResume, InBind, InEnable, InOnline, up_stanzas}
use Rattle.sim_2_links.specs.Wires.{is_flowing, up_words}
use Rattle.sim_2_links.specs.Stages.{Conn, IsEarly}
use Rattle.sim_2_links.specs.Views.{Table, View, Session}
use Rattle.sim_2_links.specs.Links.{LinkKept}
use Rattle.sim_2_links.specs.Onward.{AreOnward, IsOnward}
use Rattle.sim_2_links.specs.Machine.{LinkMove, Cuts, Dials, LetsGo, Foots, Forgets, Puts, Queues, Requests, ReadsHand, AsksToResume, AsksToBind, ReadsFailed, ReadsResumed, ReadsBound, ReadsEnabled, ReadsStanza, ReadsRequest, ReadsCount, TakesHand, TakesResume, TakesLateResume, TakesStrangeResume, TakesHighResume, TakesBind, TakesEnable, TakesStanza, TakesRequest, TakesCount, TakesFoot, Parks, Hears, HearsEarly, Detaches, Shuts, EndsRow, Serves, Keeps, Demands, LinkMoves, LinkReached}
use Rattle.law_calm.proofs.Changes.{Changed, at_one, at_none}
use Rattle.law_calm.proofs.Online.{has_now, is_calm, nothing_to_go, rounds_bring}
use Rattle.law_calm.proofs.Sparing.{fits_of, own_online}
use Rattle.law_calm.proofs.Staying.{IsCalmAnd, calm_goes, calm_rounds, conn_along, conn_round, flows_along, flows_rounds, never_fresh}
use Rattle.law_calm.specs.Rounds.{IsAny, Leads, Goes, IsRound, AreRounds, rounds_to_go}

-- ---- a client that is online stays so on a connection

abbrev StaysOnline : {A : Type 0} → Conn A → Conn A → Type 0
StaysOnline c d = (q : ℕ) → c.client ≡ InOnline q → d.client ≡ InOnline q

same_online : {A : Type 0} (c : Conn A) → StaysOnline c c
same_online c q e = e

early_never : (c : Client) (q : ℕ) → IsEarly c → c ≡ InOnline q → ⊥
early_never c q early is = subst (λ x. IsEarly x) is early

not_online : (c from : Client) (q : ℕ) → c ≡ from → (from ≡ InOnline q → ⊥) → c ≡ InOnline q → ⊥
not_online c from q was never is = never (sym was ∙ is)

abbrev conns_of : {A : Type 0} (v : View A) → Table (Conn A)
conns_of v = v.conns

online_on : {A : Type 0} (move : LinkMove A) (v next : View A) (k : ℕ) (c : Conn A) → LinkMoves move v next → v.conns k ≡ Some c → Changed StaysOnline k c next
online_on (Cuts j a b) v next k c m is = at_one StaysOnline same_online j k m.conn _ c v next (ap conns_of m.gives) m.is is (same_online m.conn)
online_on {A = A} (Dials j) v next k c m is = (c, ap (λ (t : Table (Conn A)). t k) (ap conns_of m.gives) ∙ at_other j _ v.conns k (never_fresh j k c v m.fresh is) ∙ is, same_online c)
online_on (LetsGo j) v next k c m is = at_none StaysOnline same_online k c v next (ap conns_of m.gives) is
online_on (Foots j) v next k c m is = at_one StaysOnline same_online j k m.conn _ c v next (ap conns_of m.gives) m.is is (same_online m.conn)
online_on Forgets v next k c m is = at_none StaysOnline same_online k c v next (ap conns_of m.gives) is
online_on (Puts j z) v next k c m is = at_one StaysOnline same_online j k m.conn _ c v next (ap conns_of m.gives) m.is is (same_online m.conn)
online_on (Queues z) v next k c m is = at_none StaysOnline same_online k c v next (ap conns_of m.gives) is
online_on (Requests j) v next k c m is = at_one StaysOnline same_online j k m.conn _ c v next (ap conns_of m.gives) m.is is (same_online m.conn)
online_on (ReadsHand j) v next k c m is = at_one StaysOnline same_online j k m.conn _ c v next (ap conns_of m.gives) m.is is (λ q e. absurd (early_never m.conn.client q m.early e))
online_on (AsksToResume j) v next k c m is = at_one StaysOnline same_online j k m.conn _ c v next (ap conns_of m.gives) m.is is (λ q e. absurd (not_online m.conn.client InFeatures2 q m.client (λ f. let no_way : ⊥ = cc in no_way) e))
online_on (AsksToBind j) v next k c m is = at_one StaysOnline same_online j k m.conn _ c v next (ap conns_of m.gives) m.is is (λ q e. absurd (not_online m.conn.client InFeatures2 q m.client (λ f. let no_way : ⊥ = cc in no_way) e))
online_on (ReadsFailed j) v next k c m is = at_one StaysOnline same_online j k m.conn _ c v next (ap conns_of m.gives) m.is is (λ q e. absurd (not_online m.conn.client (InResume m.p) q m.client (λ f. let no_way : ⊥ = cc in no_way) e))
online_on (ReadsResumed j) v next k c m is = at_one StaysOnline same_online j k m.conn _ c v next (ap conns_of m.gives) m.is is (λ q e. absurd (not_online m.conn.client (InResume m.own.number) q m.client (λ f. let no_way : ⊥ = cc in no_way) e))
online_on (ReadsBound j n) v next k c m is = at_one StaysOnline same_online j k m.conn _ c v next (ap conns_of m.gives) m.is is (λ q e. absurd (not_online m.conn.client InBind q m.client (λ f. let no_way : ⊥ = cc in no_way) e))
online_on (ReadsEnabled j n) v next k c m is = at_one StaysOnline same_online j k m.conn _ c v next (ap conns_of m.gives) m.is is (λ q e. absurd (not_online m.conn.client InEnable q m.client (λ f. let no_way : ⊥ = cc in no_way) e))
online_on (ReadsStanza j z) v next k c m is = at_one StaysOnline same_online j k m.conn _ c v next (ap conns_of m.gives) m.is is (same_online m.conn)
online_on (ReadsRequest j) v next k c m is = at_one StaysOnline same_online j k m.conn _ c v next (ap conns_of m.gives) m.is is (same_online m.conn)
online_on (ReadsCount j h) v next k c m is = at_one StaysOnline same_online j k m.conn _ c v next (ap conns_of m.gives) m.is is (same_online m.conn)
online_on (TakesHand j) v next k c m is = at_one StaysOnline same_online j k m.conn _ c v next (ap conns_of m.gives) m.is is (same_online m.conn)
online_on (TakesResume j) v next k c m is = at_one StaysOnline same_online j k m.conn _ c v next (ap conns_of m.gives) m.is is (same_online m.conn)
online_on (TakesLateResume j) v next k c m is = at_one StaysOnline same_online j k m.conn _ c v next (ap conns_of m.gives) m.is is (same_online m.conn)
online_on (TakesStrangeResume j) v next k c m is = at_one StaysOnline same_online j k m.conn _ c v next (ap conns_of m.gives) m.is is (same_online m.conn)
online_on (TakesHighResume j) v next k c m is = at_one StaysOnline same_online j k m.conn _ c v next (ap conns_of m.gives) m.is is (same_online m.conn)
online_on (TakesBind j n) v next k c m is = at_one StaysOnline same_online j k m.conn _ c v next (ap conns_of m.gives) m.is is (same_online m.conn)
online_on (TakesEnable j) v next k c m is = at_one StaysOnline same_online j k m.conn _ c v next (ap conns_of m.gives) m.is is (same_online m.conn)
online_on (TakesStanza j z) v next k c m is = at_one StaysOnline same_online j k m.conn _ c v next (ap conns_of m.gives) m.is is (same_online m.conn)
online_on (TakesRequest j) v next k c m is = at_one StaysOnline same_online j k m.conn _ c v next (ap conns_of m.gives) m.is is (same_online m.conn)
online_on (TakesCount j h) v next k c m is = at_one StaysOnline same_online j k m.conn _ c v next (ap conns_of m.gives) m.is is (same_online m.conn)
online_on (TakesFoot j) v next k c m is = at_one StaysOnline same_online j k m.conn _ c v next (ap conns_of m.gives) m.is is (same_online m.conn)
online_on (Parks j) v next k c m is = at_one StaysOnline same_online j k m.conn _ c v next (ap conns_of m.gives) m.is is (same_online m.conn)
online_on (Hears j) v next k c m is = at_one StaysOnline same_online j k m.conn _ c v next (ap conns_of m.gives) m.is is (same_online m.conn)
online_on (HearsEarly j) v next k c m is = at_one StaysOnline same_online j k m.conn _ c v next (ap conns_of m.gives) m.is is (same_online m.conn)
online_on (Detaches j ending) v next k c m is = at_one StaysOnline same_online j k m.conn _ c v next (ap conns_of m.gives) m.is is (same_online m.conn)
online_on (Shuts j ending) v next k c m is = at_one StaysOnline same_online j k m.conn _ c v next (ap conns_of m.gives) m.is is (same_online m.conn)
online_on EndsRow v next k c m is = at_none StaysOnline same_online k c v next (ap conns_of m.gives) is
online_on (Serves j z) v next k c m is = at_one StaysOnline same_online j k m.conn _ c v next (ap conns_of m.gives) m.is is (same_online m.conn)
online_on (Keeps z) v next k c m is = at_none StaysOnline same_online k c v next (ap conns_of m.gives) is
online_on (Demands j) v next k c m is = at_one StaysOnline same_online j k m.conn _ c v next (ap conns_of m.gives) m.is is (same_online m.conn)

online_along : {A : Type 0} (kind : LinkMove A → Type 0) (moves : List (LinkMove A)) (v last : View A) (k q : ℕ) (c d : Conn A) → Leads kind moves v last → v.conns k ≡ Some c → last.conns k ≡ Some d → c.client ≡ InOnline q → d.client ≡ InOnline q
online_along {A = A} kind [] v last k q c d same is at online =
    let one : c ≡ d = some_one (v.conns k) c d is (subst (λ (x : View A). x.conns k ≡ Some d) same at) in
    subst (λ (x : Conn A). x.client ≡ InOnline q) one online
online_along kind (move ∷ moves) v last k q c d (next, ok, made, more) is at online =
    let on = online_on move v next k c made is in
    online_along kind moves next last k q on.0 d more on.1 at (on.2 q online)

-- ---- sessions go on

record IsMore {A : Type 0} (d next : Direction A) : Type 0 where
  put : IsPrefix d.put next.put
  got : IsPrefix d.got next.got

front_same : {A : Type 0} (xs : List A) → IsPrefix xs xs
front_same xs = ([], sym (append-nil xs))

front_on : {A : Type 0} (xs ys zs : List A) → IsPrefix xs ys → IsPrefix ys zs → IsPrefix xs zs
front_on {A = A} xs ys zs one two = (one.0 ++ two.0, two.1 ∙ ap (λ (l : List A). l ++ two.0) one.1 ∙ append_assoc xs one.0 two.0)

one_more : {A : Type 0} (move : Move A) (d next : Direction A) → Moves move d next → IsMore d next
one_more (Put z) d next made = subst (IsMore d) (sym made) (record { put = (z ∷ [], refl); got = front_same d.got })
one_more Handle d next made = subst (IsMore d) (sym made.3) (record { put = front_same d.put; got = (made.0 ∷ [], refl) })
one_more State d next made = subst (IsMore d) (sym made) (record { put = front_same d.put; got = front_same d.got })
one_more (Acknowledge n) d next made = subst (IsMore d) (sym made.2) (record { put = front_same d.put; got = front_same d.got })
one_more (Cut n) d next made = subst (IsMore d) (sym made) (record { put = front_same d.put; got = front_same d.got })
one_more Resume d next made = subst (IsMore d) (sym made) (record { put = front_same d.put; got = front_same d.got })

more_along : {A : Type 0} (moves : List (Move A)) (d last : Direction A) → Reaches moves d last → IsMore d last
more_along [] d last is = subst (IsMore d) (sym is) (record { put = front_same d.put; got = front_same d.got })
more_along (move ∷ moves) d last (next, made, rest) =
    let one = one_more move d next made in
    let then = more_along moves next last rest in
    record { put = front_on d.put next.put last.put one.put then.put; got = front_on d.got next.got last.got one.got then.got }

up_more : {A : Type 0} (s t : Session A) → IsOnward s t → IsMore s.up t.up
up_more s t on = more_along on.up.moves s.up t.up on.up.reaches

onward_along : {A : Type 0} (kind : LinkMove A → Type 0) (moves : List (LinkMove A)) (v last : View A) → Leads kind moves v last → LinkKept v → LinkKept last × AreOnward v.sessions last.sessions
onward_along {A = A} kind [] v last same kept = (subst LinkKept (sym same) kept, λ p s is. (s, ap (λ (w : View A). w.sessions p) same ∙ is, still s))
onward_along kind (move ∷ moves) v last (next, ok, made, more) kept =
    let then = onward_along kind moves next last more (move_keeps move v next made kept) in
    (then.0, tables_both v.sessions next.sessions last.sessions (move_goes move v next made kept) then.1)

onward_going : {A : Type 0} (kind : LinkMove A → Type 0) (v last : View A) → Goes kind v last → LinkKept v → LinkKept last × AreOnward v.sessions last.sessions
onward_going kind v last goes kept = onward_along kind goes.moves v last goes.leads kept

onward_round : {A : Type 0} (kind : LinkMove A → Type 0) (k : ℕ) (v last : View A) → IsRound kind k v last → LinkKept v → LinkKept last × AreOnward v.sessions last.sessions
onward_round kind k v last round kept =
    let a = onward_going kind v round.taken round.up kept in
    let b = onward_going kind round.taken round.read round.down a.0 in
    let c = onward_going kind round.read last round.rest b.0 in
    (c.0, tables_both v.sessions round.taken.sessions last.sessions a.1 (tables_both round.taken.sessions round.read.sessions last.sessions b.1 c.1))

pub onward_rounds : {A : Type 0} (kind : LinkMove A → Type 0) (k n : ℕ) (v last : View A) → AreRounds kind k n v last → LinkKept v → LinkKept last × AreOnward v.sessions last.sessions
onward_rounds {A = A} kind k zero v last same kept = (subst LinkKept (sym same) kept, λ p s is. (s, ap (λ (w : View A). w.sessions p) same ∙ is, still s))
onward_rounds kind k (suc n) v last (next, round, more) kept =
    let one = onward_round kind k v next round kept in
    let rest = onward_rounds kind k n next last more one.0 in
    (rest.0, tables_both v.sessions next.sessions last.sessions one.1 rest.1)

-- ---- where nothing is on its way up, all is handled

all_handled : {A : Type 0} (v : View A) (k q : ℕ) (c : Conn A) (s : Session A) → LinkKept v → v.here ≡ Some k → v.conns k ≡ Some c → is_flowing c.wires ≡ true → c.client ≡ InOnline q → up_words c.wires ≡ [] → v.sessions q ≡ Some s → s.up.put ≡ s.up.got
all_handled {A = A} v k q c s kept here is flows online no_up at =
    let fits = fits_of v k c kept here is in
    let own = own_online v.own v.epoch v.sessions fits.0 q (sym fits.1 ∙ online) fits.2 in
    let g = together v k c own.0 kept here is own.1 (online ∙ ap InOnline (sym own.2)) flows in
    let there : v.sessions q ≡ Some g.0 = ap v.sessions (sym own.2) ∙ g.1.session in
    let one : g.0 ≡ s = some_one (v.sessions q) g.0 s there at in
    subst (λ (x : Session A). x.up.put ≡ x.up.got) one (g.1.all ∙ ap (λ ws. g.0.up.got ++ up_stanzas ws) no_up ∙ append-nil g.0.up.got)

-- in a round in which the client is online from the beginning
handled_in : {A : Type 0} (v last : View A) (k p : ℕ) (c d : Conn A) (s t : Session A) → LinkKept v → v.here ≡ Some k → v.conns k ≡ Some c → IsRound IsAny k v last → c.client ≡ InOnline p → last.conns k ≡ Some d → is_flowing d.wires ≡ true → v.sessions p ≡ Some s → last.sessions p ≡ Some t → IsPrefix s.up.put t.up.got
handled_in {A = A} v last k p c d s t kept here is round online at flows before after = done
  where
    one : (e : Conn A) × (round.taken.conns k ≡ Some e)
    one = conn_along IsAny round.up.moves v round.taken k c round.up.leads is

    two : (e : Conn A) × (round.read.conns k ≡ Some e)
    two = conn_along IsAny round.down.moves round.taken round.read k one.0 round.down.leads one.1

    flows_two : is_flowing two.0.wires ≡ true
    flows_two = flows_along IsAny round.rest.moves round.read last k two.0 d round.rest.leads two.1 at flows

    flows_one : is_flowing one.0.wires ≡ true
    flows_one = flows_along IsAny round.down.moves round.taken round.read k one.0 two.0 round.down.leads one.1 two.1 flows_two

    here_one : round.taken.here ≡ Some k
    here_one = (calm_goes IsAny v round.taken k c one.0 round.up here is one.1 flows_one).1

    no_up : up_words one.0.wires ≡ []
    no_up = subst (λ (x : Conn A). up_words x.wires ≡ []) (some_one (round.taken.conns k) round.up_empty.0 one.0 round.up_empty.1 one.1) round.up_empty.2

    a : LinkKept round.taken × AreOnward v.sessions round.taken.sessions
    a = onward_going IsAny v round.taken round.up kept

    b : LinkKept round.read × AreOnward round.taken.sessions round.read.sessions
    b = onward_going IsAny round.taken round.read round.down a.0

    mid : (u : Session A) × (round.taken.sessions p ≡ Some u) × IsOnward s u
    mid = a.1 p s before

    end : (u : Session A) × (last.sessions p ≡ Some u) × IsOnward mid.0 u
    end = tables_both round.taken.sessions round.read.sessions last.sessions b.1 (onward_going IsAny round.read last round.rest b.0).1 p mid.0 mid.1

    all : mid.0.up.put ≡ mid.0.up.got
    all = all_handled round.taken k p one.0 mid.0 a.0 here_one one.1 flows_one (online_along IsAny round.up.moves v round.taken k p c one.0 round.up.leads is one.1 online) no_up mid.1

    done : IsPrefix s.up.put t.up.got
    done =
        let first : IsPrefix s.up.put mid.0.up.got = subst (λ (l : List A). IsPrefix s.up.put l) all (up_more s mid.0 mid.2).put in
        let then : IsPrefix mid.0.up.got t.up.got = subst (λ (x : Session A). IsPrefix mid.0.up.got x.up.got) (some_one (last.sessions p) end.0 t end.1 after) (up_more mid.0 end.0 end.2).got in
        front_on s.up.put mid.0.up.got t.up.got first then

online_round : {A : Type 0} (v last : View A) (k q : ℕ) (c d : Conn A) → IsRound IsAny k v last → v.conns k ≡ Some c → last.conns k ≡ Some d → c.client ≡ InOnline q → d.client ≡ InOnline q
online_round v last k q c d round is at online =
    let one = conn_along IsAny round.up.moves v round.taken k c round.up.leads is in
    let two = conn_along IsAny round.down.moves round.taken round.read k one.0 round.down.leads one.1 in
    online_along IsAny round.rest.moves round.read last k q two.0 d round.rest.leads two.1 at
    (online_along IsAny round.down.moves round.taken round.read k q one.0 two.0 round.down.leads one.1 two.1 (online_along IsAny round.up.moves v round.taken k q c one.0 round.up.leads is one.1 online))

pub handled_so : {A : Type 0} (n : ℕ) (v last : View A) (k p : ℕ) (c d : Conn A) (s t : Session A) → LinkKept v → v.here ≡ Some k → v.conns k ≡ Some c → AreRounds IsAny k n v last → rounds_to_go c.client + 1 ≤ n → last.conns k ≡ Some d → is_flowing d.wires ≡ true → d.client ≡ InOnline p → v.sessions p ≡ Some s → last.sessions p ≡ Some t → IsPrefix s.up.put t.up.got
handled_so zero v last k p c d s t kept here is rounds low at flows online before after = absurd (omega arith)
handled_so {A = A} (suc zero) v last k p c d s t kept here is (next, round, same) low at flows online before after =
    let q = nothing_to_go c.client (omega arith) in
    let there : next.conns k ≡ Some d = subst (λ (x : View A). x.conns k ≡ Some d) same at in
    let then : d.client ≡ InOnline q.0 = online_round v next k q.0 c d round is there q.1 in
    let number : q.0 ≡ p = (let e : InOnline q.0 ≡ InOnline p = sym then ∙ online in cc) in
    handled_in v next k p c d s t kept here is round (q.1 ∙ ap InOnline number) there flows before (subst (λ (x : View A). x.sessions p ≡ Some t) same after)
handled_so {A = A} (suc (suc n)) v last k p c d s t kept here is (next, round, more) low at flows online before after =
    let one = conn_round IsAny v next k c round is in
    let flows_one = flows_rounds IsAny (suc n) next last k one.0 d more one.1 at flows in
    let calm = calm_rounds IsAny 1 v next k c one.0 (next, round, refl) here is one.1 flows_one in
    let near : rounds_to_go one.0.client ≤ n = rounds_bring (IsCalmAnd IsAny k) k 1 n (rounds_to_go c.client) (is_calm IsAny k) v next one.0 calm.0 kept (has_now v k c here is) (omega arith) one.1 flows_one in
    let on = onward_round IsAny k v next round kept in
    let mid = on.1 p s before in
    let rest = handled_so (suc n) next last k p one.0 d mid.0 t on.0 calm.1 one.1 more (omega arith) at flows online mid.1 after in
    front_on s.up.put mid.0.up.put t.up.got (up_more s mid.0 mid.2).put rest

pub handled_then : {A : Type 0} (v last : View A) (k n p : ℕ) (c d : Conn A) (s t : Session A) → LinkReached v → v.here ≡ Some k → v.conns k ≡ Some c → AreRounds IsAny k n v last → rounds_to_go c.client + 1 ≤ n → last.conns k ≡ Some d → is_flowing d.wires ≡ true → d.client ≡ InOnline p → v.sessions p ≡ Some s → last.sessions p ≡ Some t → IsPrefix s.up.put t.up.got
handled_then v last k n p c d s t reached here is rounds low at flows online before after = handled_so n v last k p c d s t (link_kept v reached) here is rounds low at flows online before after
