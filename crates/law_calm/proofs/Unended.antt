-- Rounds bring the client online, and resume its session, or something ends within them.
use Rattle.std.proofs.Common.{◌≡◌, ◌⊎◌, ℕ, zero, suc, ◌≤◌, List, [], ◌∷◌, ◌++◌, sym, ◌∙◌, subst, inl, inr, Some}
use Rattle.sim_2_links.specs.Words.{InHeader1}
use Rattle.sim_2_links.specs.Views.{Own, View}
use Rattle.sim_2_links.specs.Machine.{LinkMove, LinkReached, LinkReaches}
use Rattle.law_calm.proofs.Online.{online_then}
use Rattle.law_calm.proofs.SessionStays.{session_stays}
use Rattle.law_calm.proofs.Sparing.{resumed_then}
use Rattle.law_calm.proofs.StaysOpen.{stays_open}
use Rattle.law_calm.specs.Ends.{EndsConn, EndsSession, EndsWithin, HasCounted, IsAmong, IsOnlineOn, WorksOn}
use Rattle.law_calm.specs.Rounds.{AreRounds, IsAny, IsRound, Leads, rounds_to_go}

-- ---- the moves of rounds

leads_reach : {A : Type 0} (moves more : List (LinkMove A)) (v mid last : View A) → Leads IsAny moves v mid → LinkReaches more mid last → LinkReaches (moves ++ more) v last
leads_reach [] more v mid last same then = subst (λ x. LinkReaches more x last) same then
leads_reach (move ∷ moves) more v mid last (next, any, made, rest) then = (next, made, leads_reach moves more next mid last rest then)

round_reaches : {A : Type 0} (k : ℕ) (more : List (LinkMove A)) (v mid last : View A) → IsRound IsAny k v mid → LinkReaches more mid last → (moves : List (LinkMove A)) × LinkReaches moves v last
round_reaches k more v mid last round then =
    let rest = leads_reach round.rest.moves more round.read mid last round.rest.leads then in
    let down = leads_reach round.down.moves (round.rest.moves ++ more) round.taken round.read last round.down.leads rest in
    (round.up.moves ++ (round.down.moves ++ (round.rest.moves ++ more)), leads_reach round.up.moves (round.down.moves ++ (round.rest.moves ++ more)) v round.taken last round.up.leads down)

rounds_reach : {A : Type 0} (k n : ℕ) (v last : View A) → AreRounds IsAny k n v last → (moves : List (LinkMove A)) × LinkReaches moves v last
rounds_reach k zero v last same = ([], same)
rounds_reach k (suc n) v last (next, round, more) =
    let rest = rounds_reach k n next last more in
    round_reaches k rest.0 v next last round rest.1

-- ---- what they bring

pub online_or : {A : Type 0} (v last : View A) (k n : ℕ) (w : WorksOn k v) → LinkReached v → AreRounds IsAny k n v last → rounds_to_go w.conn.client ≤ n → ((p : ℕ) × IsOnlineOn k p last) ⊎ EndsWithin (WorksOn k) (EndsConn k) v last
online_or {A = A} v last k n w reached rounds low = let ms = rounds_reach k n v last rounds in by ms.0 ms.1 (stays_open ms.0 v last k reached w ms.1)
  where
    by : (moves : List (LinkMove A)) → LinkReaches moves v last → WorksOn k last ⊎ IsAmong (WorksOn k) (EndsConn k) moves v last → ((p : ℕ) × IsOnlineOn k p last) ⊎ EndsWithin (WorksOn k) (EndsConn k) v last
    by moves leads (inl e) = let o = online_then v last k n w.conn e.conn reached w.here w.is rounds low e.is e.flows in inl (o.0, record { works = e; online = o.1 })
    by moves leads (inr a) = inr (record { moves = moves; leads = leads; among = a })

pub resumed_or : {A : Type 0} (v last : View A) (k n : ℕ) (own : Own A) (w : WorksOn k v) → LinkReached v → v.own ≡ Some own → HasCounted own.number v → w.conn.client ≡ InHeader1 → AreRounds IsAny k n v last → 5 ≤ n →
    (IsOnlineOn k own.number last × (last.epoch ≡ v.epoch)) ⊎ (EndsWithin (WorksOn k) (EndsConn k) v last ⊎ EndsWithin (HasCounted own.number) EndsSession v last)
resumed_or {A = A} v last k n own w reached is_own has client rounds low =
    let ms = rounds_reach k n v last rounds in by ms.0 ms.1 (stays_open ms.0 v last k reached w ms.1) (session_stays ms.0 v last own.number reached has ms.1)
  where
    by : (moves : List (LinkMove A)) → LinkReaches moves v last → WorksOn k last ⊎ IsAmong (WorksOn k) (EndsConn k) moves v last → HasCounted own.number last ⊎ IsAmong (HasCounted own.number) EndsSession moves v last →
        (IsOnlineOn k own.number last × (last.epoch ≡ v.epoch)) ⊎ (EndsWithin (WorksOn k) (EndsConn k) v last ⊎ EndsWithin (HasCounted own.number) EndsSession v last)
    by moves leads (inr a) s = inr (inl (record { moves = moves; leads = leads; among = a }))
    by moves leads (inl e) (inr a) = inr (inr (record { moves = moves; leads = leads; among = a }))
    by moves leads (inl e) (inl s) =
        let r = resumed_then v last k n w.conn e.conn own has.row s.row reached w.here w.is is_own has.is has.number client rounds low e.is e.flows s.is (s.number ∙ sym has.number) in
        inl (record { works = e; online = r.0 }, r.1)
