-- Two rounds in which neither end puts anything of itself leave nothing under way.
use Rattle.std.proofs.Common.{arith, ◌≡◌, ℕ, ◌≤◌, true, List, [], sym, ap, ◌∙◌, subst, Some}
use Rattle.sim_2_links.proofs.CutLinks.{some_one}
use Rattle.sim_2_links.proofs.Reached.{link_kept}
use Rattle.sim_2_links.specs.Words.{UpWord, InOnline}
use Rattle.sim_2_links.specs.Wires.{is_flowing, up_words, down_words}
use Rattle.sim_2_links.specs.Stages.{Conn}
use Rattle.sim_2_links.specs.Views.{View}
use Rattle.sim_2_links.specs.Links.{LinkKept}
use Rattle.sim_2_links.specs.Machine.{LinkMove, LinkMoves, LinkReached}
use Rattle.law_calm.proofs.Changes.{GoesOn}
use Rattle.law_calm.proofs.Calm.{goes_on, stays_here}
use Rattle.law_calm.proofs.Counts.{OnlyCounts, StaysQuiet, stays_quiet}
use Rattle.law_calm.proofs.Online.{kept_going, below, Has, has_keeps}
use Rattle.law_calm.proofs.Staying.{IsCalmAnd, calm_rounds}
use Rattle.law_calm.specs.Rounds.{IsStill, IsRound, AreRounds, rounds_to_go}

-- such a move, which leaves the connection alone
abbrev pub IsQuietMove : {A : Type 0} → ℕ → LinkMove A → Type 0
IsQuietMove k move = IsCalmAnd IsStill k move

-- the client is online on the connection, and only counts are on their way up; besides, nothing is on its way down while it
-- flows; and besides, nothing is on its way up
pub record Counting {A : Type 0} (k : ℕ) (v : View A) : Type 0 where
  pub has : Has k 0 v
  pub counts : OnlyCounts (up_words has.conn.wires)

pub record Drained {A : Type 0} (k : ℕ) (v : View A) : Type 0 where
  pub has : Has k 0 v
  pub counts : OnlyCounts (up_words has.conn.wires)
  pub down : is_flowing has.conn.wires ≡ true → down_words has.conn.wires ≡ []

pub record Emptied {A : Type 0} (k : ℕ) (v : View A) : Type 0 where
  pub has : Has k 0 v
  pub counts : OnlyCounts (up_words has.conn.wires)
  pub down : is_flowing has.conn.wires ≡ true → down_words has.conn.wires ≡ []
  pub up : is_flowing has.conn.wires ≡ true → up_words has.conn.wires ≡ []

abbrev pub Both : {A : Type 0} → Conn A → Conn A → Type 0
Both c d = GoesOn c d × StaysQuiet c d

both_on : {A : Type 0} (move : LinkMove A) (v next : View A) (k : ℕ) (c : Conn A) → IsQuietMove k move → LinkMoves move v next → v.conns k ≡ Some c → (d : Conn A) × (next.conns k ≡ Some d) × GoesOn c d × StaysQuiet c d
both_on {A = A} move v next k c still made is =
    let a = goes_on move v next k c still.1 made is in
    let b = stays_quiet move v next k c still.1 still.0 made is in
    let one : b.0 ≡ a.0 = some_one (next.conns k) b.0 a.0 b.1 a.1 in
    (a.0, a.1, a.2, subst (λ (x : Conn A). StaysQuiet c x) one b.2)

none_to_go : {A : Type 0} (c : Conn A) → rounds_to_go c.client ≤ 0 → rounds_to_go c.client ≡ 0
none_to_go c low = omega arith

has_next : {A : Type 0} (move : LinkMove A) (v next : View A) (k : ℕ) (d : Conn A) → IsQuietMove k move → LinkMoves move v next → (has : Has k 0 v) → next.conns k ≡ Some d → GoesOn has.conn d → Has k 0 next
has_next move v next k d still made has is goes = record { here = stays_here move v next k still.1 made ∙ has.here; conn = d; is = is; low = below 0 has.conn d goes has.low }

online_keeps : {A : Type 0} (k : ℕ) (move : LinkMove A) (v next : View A) → IsQuietMove k move → LinkMoves move v next → LinkKept v → Has k 0 v → Has k 0 next
online_keeps k move v next still made kept has = has_keeps k 0 move v next still.1 made has

counting_keeps : {A : Type 0} (k : ℕ) (move : LinkMove A) (v next : View A) → IsQuietMove k move → LinkMoves move v next → LinkKept v → Counting k v → Counting k next
unfolding has_next both_on
counting_keeps k move v next still made kept old =
    let on = both_on move v next k old.has.conn still made old.has.is in
    let quiet = on.3 (none_to_go old.has.conn old.has.low) in
    record { has = has_next move v next k on.0 still made old.has on.1 on.2; counts = quiet.counts old.counts }

drained_keeps : {A : Type 0} (k : ℕ) (move : LinkMove A) (v next : View A) → IsQuietMove k move → LinkMoves move v next → LinkKept v → Drained k v → Drained k next
unfolding has_next both_on
drained_keeps k move v next still made kept old =
    let on = both_on move v next k old.has.conn still made old.has.is in
    let quiet = on.3 (none_to_go old.has.conn old.has.low) in
    record {
      has = has_next move v next k on.0 still made old.has on.1 on.2;
      counts = quiet.counts old.counts;
      down = λ flows. (quiet.empty flows old.counts (old.down (on.2.flows flows))).0;
    }

emptied_keeps : {A : Type 0} (k : ℕ) (move : LinkMove A) (v next : View A) → IsQuietMove k move → LinkMoves move v next → LinkKept v → Emptied k v → Emptied k next
unfolding has_next both_on
emptied_keeps k move v next still made kept old =
    let on = both_on move v next k old.has.conn still made old.has.is in
    let quiet = on.3 (none_to_go old.has.conn old.has.low) in
    record {
      has = has_next move v next k on.0 still made old.has on.1 on.2;
      counts = quiet.counts old.counts;
      down = λ flows. (quiet.empty flows old.counts (old.down (on.2.flows flows))).0;
      up = λ flows. (quiet.empty flows old.counts (old.down (on.2.flows flows))).1 (old.up (on.2.flows flows));
    }

-- ---- the two rounds

counting_at : {A : Type 0} (k : ℕ) (v : View A) (c : Conn A) → v.conns k ≡ Some c → up_words c.wires ≡ [] → Has k 0 v → Counting k v
counting_at {A = A} k v c is no_up has =
    let one : c ≡ has.conn = some_one (v.conns k) c has.conn is has.is in
    record { has = has; counts = subst (λ (ws : List (UpWord A)). OnlyCounts ws) (sym (subst (λ (x : Conn A). up_words x.wires ≡ []) one no_up)) tt }

drained_at : {A : Type 0} (k : ℕ) (v : View A) (c : Conn A) → v.conns k ≡ Some c → down_words c.wires ≡ [] → Counting k v → Drained k v
drained_at {A = A} k v c is no_down old =
    let one : c ≡ old.has.conn = some_one (v.conns k) c old.has.conn is old.has.is in
    record { has = old.has; counts = old.counts; down = λ flows. subst (λ (x : Conn A). down_words x.wires ≡ []) one no_down }

emptied_at : {A : Type 0} (k : ℕ) (v : View A) (c : Conn A) → v.conns k ≡ Some c → up_words c.wires ≡ [] → Drained k v → Emptied k v
emptied_at {A = A} k v c is no_up old =
    let one : c ≡ old.has.conn = some_one (v.conns k) c old.has.conn is old.has.is in
    record { has = old.has; counts = old.counts; down = old.down; up = λ flows. subst (λ (x : Conn A). up_words x.wires ≡ []) one no_up }

first_round : {A : Type 0} (k : ℕ) (v last : View A) → IsRound (IsQuietMove k) k v last → LinkKept v → Has k 0 v → LinkKept last × Drained k last
first_round {A = A} k v last round kept has =
    let a : LinkKept round.taken × Has k 0 round.taken = kept_going (IsQuietMove k) (Has k 0) (online_keeps k) v round.taken round.up kept has in
    let b : LinkKept round.read × Counting k round.read = kept_going (IsQuietMove k) (Counting k) (counting_keeps k) round.taken round.read round.down a.0 (counting_at k round.taken round.up_empty.0 round.up_empty.1 round.up_empty.2 a.1) in
    kept_going (IsQuietMove k) (Drained k) (drained_keeps k) round.read last round.rest b.0 (drained_at k round.read round.down_empty.0 round.down_empty.1 round.down_empty.2 b.1)

second_round : {A : Type 0} (k : ℕ) (v last : View A) → IsRound (IsQuietMove k) k v last → LinkKept v → Drained k v → LinkKept last × Emptied k last
second_round {A = A} k v last round kept drained =
    let a : LinkKept round.taken × Drained k round.taken = kept_going (IsQuietMove k) (Drained k) (drained_keeps k) v round.taken round.up kept drained in
    let b : LinkKept round.read × Emptied k round.read = kept_going (IsQuietMove k) (Emptied k) (emptied_keeps k) round.taken round.read round.down a.0 (emptied_at k round.taken round.up_empty.0 round.up_empty.1 round.up_empty.2 a.1) in
    kept_going (IsQuietMove k) (Emptied k) (emptied_keeps k) round.read last round.rest b.0 b.1

pub two_rounds : {A : Type 0} (k : ℕ) (v last : View A) → AreRounds (IsQuietMove k) k 2 v last → LinkKept v → Has k 0 v → LinkKept last × Emptied k last
two_rounds k v last (mid, one, (then, two, same)) kept has =
    let a = first_round k v mid one kept has in
    subst (λ x. LinkKept x × Emptied k x) (sym same) (second_round k mid then two a.0 a.1)

pub empty_then : {A : Type 0} (v last : View A) (k p : ℕ) (c d : Conn A) → LinkReached v → v.here ≡ Some k → v.conns k ≡ Some c → c.client ≡ InOnline p → AreRounds IsStill k 2 v last → last.conns k ≡ Some d → is_flowing d.wires ≡ true → (up_words d.wires ≡ []) × (down_words d.wires ≡ [])
empty_then {A = A} v last k p c d reached here is online rounds at flows =
    let calm : AreRounds (IsQuietMove k) k 2 v last = (calm_rounds IsStill 2 v last k c d rounds here is at flows).0 in
    let b = two_rounds k v last calm (link_kept v reached) (record { here = here; conn = c; is = is; low = (let e : rounds_to_go c.client ≡ 0 = ap rounds_to_go online in omega arith) }) in
    let it : d ≡ b.1.has.conn = some_one (last.conns k) d b.1.has.conn at b.1.has.is in
    let there : is_flowing b.1.has.conn.wires ≡ true = subst (λ (x : Conn A). is_flowing x.wires ≡ true) it flows in
    subst (λ (x : Conn A). (up_words x.wires ≡ []) × (down_words x.wires ≡ [])) (sym it) (b.1.up there, b.1.down there)
