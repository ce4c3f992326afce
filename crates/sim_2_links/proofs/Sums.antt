-- No more stanzas are put in a session than moves put them.
use Rattle.std.proofs.Common.{◌≡◌, ℕ, ◌+◌, ◌≤◌, Bool, true, false, ◌&&◌, if◌then◌else◌, List, [], ◌∷◌, ◌++◌, length, refl, sym, ap, ◌∙◌, subst, arith, Some}
use Rattle.std.proofs.lemmas.List.{length_push}
use Rattle.sim_2_links.proofs.Entries.{Entry, New, Old, entry, was}
use Rattle.sim_2_links.proofs.Hands.{no_entry}
use Rattle.sim_2_links.proofs.Late.{late_if}
use Rattle.sim_2_links.proofs.Puts.{putting}
use Rattle.sim_2_links.proofs.Putting.{serving}
use Rattle.sim_2_links.proofs.Enabling.{enabled_if}
use Rattle.sim_2_links.proofs.ReadBound.{named_if}
use Rattle.sim_2_links.proofs.ReadEnabled.{known_if}
use Rattle.sim_2_links.proofs.ReadResumed.{resent_if}
use Rattle.sim_2_links.specs.Words.{up_stanzas, down_stanzas}
use Rattle.sim_2_links.specs.Wires.{is_flowing}
use Rattle.sim_2_links.specs.Views.{Table, with_at, alter, has, Session, View, carries}
use Rattle.sim_2_links.specs.LinkMoves.{ways_cut, handled_if, stated_if, acked_if, read_if, told_if, heard_if}
use Rattle.sim_2_links.specs.SessionMoves.{lost_if, unread, resumed_if}
use Rattle.sim_2_links.specs.Machine.{LinkMove, Cuts, Dials, LetsGo, Foots, Forgets, Puts, Queues, Requests, ReadsHand, AsksToResume, AsksToBind, ReadsFailed, ReadsResumed, ReadsBound, ReadsEnabled, ReadsStanza, ReadsRequest, ReadsCount, TakesHand, TakesResume, TakesLateResume, TakesStrangeResume, TakesHighResume, TakesBind, TakesEnable, TakesStanza, TakesRequest, TakesCount, TakesFoot, Parks, Hears, HearsEarly, Detaches, Shuts, EndsRow, Serves, Keeps, Demands, LinkMoves, nothing_yet, LinkReaches}
use Rattle.sim_2_links.specs.Sums.{says, serves, said_in, served_in}

-- the sessions have at most so many stanzas, either way
abbrev pub HaveAtMost : {A : Type 0} → ℕ → ℕ → Table (Session A) → Type 0
HaveAtMost {A = A} up down sessions = (q : ℕ) (s : Session A) → sessions q ≡ Some s → (length s.up.put ≤ up) × (length s.down.put ≤ down)

-- a move adds at most so many
abbrev pub AddsAtMost : {A : Type 0} → ℕ → ℕ → View A → View A → Type 0
AddsAtMost up down v next = (a b : ℕ) → HaveAtMost a b v.sessions → HaveAtMost (up + a) (down + b) next.sessions

none_more : (l a : ℕ) → l ≤ a → l ≤ 0 + a
none_more l a le = omega arith

sums_same : {A : Type 0} (v next : View A) → ((q : ℕ) → next.sessions q ≡ v.sessions q) → AddsAtMost 0 0 v next
sums_same v next same a b have q s is = let h = have q s (sym (same q) ∙ is) in (none_more (length s.up.put) a h.0, none_more (length s.down.put) b h.1)

sums_by : {A : Type 0} (v next : View A) (f : ℕ → Session A → Session A) → ((q : ℕ) → next.sessions q ≡ alter f v.sessions q) → ((q : ℕ) (s : Session A) → (f q s).up.put ≡ s.up.put) → ((q : ℕ) (s : Session A) → (f q s).down.put ≡ s.down.put) → AddsAtMost 0 0 v next
sums_by v next f same up down a b have q t is =
    let w = was f v.sessions q t (sym (same q) ∙ is) in
    let h = have q w.0 w.1 in (
      subst (λ (l : ℕ). l ≤ 0 + a) (sym (ap (λ (x : Session _). length x.up.put) (sym w.2) ∙ ap length (up q w.0))) (none_more (length w.0.up.put) a h.0),
      subst (λ (l : ℕ). l ≤ 0 + b) (sym (ap (λ (x : Session _). length x.down.put) (sym w.2) ∙ ap length (down q w.0))) (none_more (length w.0.down.put) b h.1),
    )

-- a stanza more, where it is said
push_if : {B : Type 0} (c : Bool) (zs : List B) (z : B) (a : ℕ) → length zs ≤ a → length (if c then zs ++ z ∷ [] else zs) ≤ 1 + a
push_if false zs z a l = omega arith
push_if true zs z a l = let e = length_push zs z in omega arith

said_sums : {A : Type 0} (v next : View A) (p : ℕ) (z : A) → ((q : ℕ) → next.sessions q ≡ alter (λ q s. putting (has (Some p) q) z s) v.sessions q) → AddsAtMost 1 0 v next
said_sums v next p z same a b have q t is =
    let w = was (λ q s. putting (has (Some p) q) z s) v.sessions q t (sym (same q) ∙ is) in
    let h = have q w.0 w.1 in
    (subst (λ (x : Session _). length x.up.put ≤ 1 + a) w.2 (push_if (has (Some p) q) w.0.up.put z a h.0), subst (λ (x : Session _). length x.down.put ≤ 0 + b) w.2 (none_more (length w.0.down.put) b h.1))

served_sums : {A : Type 0} (v next : View A) (p : ℕ) (z : A) → ((q : ℕ) → next.sessions q ≡ alter (λ q s. serving (has (Some p) q) z s) v.sessions q) → AddsAtMost 0 1 v next
served_sums v next p z same a b have q t is =
    let w = was (λ q s. serving (has (Some p) q) z s) v.sessions q t (sym (same q) ∙ is) in
    let h = have q w.0 w.1 in
    (subst (λ (x : Session _). length x.up.put ≤ 0 + a) w.2 (none_more (length w.0.up.put) a h.0), subst (λ (x : Session _). length x.down.put ≤ 1 + b) w.2 (push_if (has (Some p) q) w.0.down.put z b h.1))

bound_sums : {A : Type 0} (v next : View A) (m : ℕ) → ((q : ℕ) → next.sessions q ≡ with_at m unread v.sessions q) → AddsAtMost 0 0 v next
bound_sums {A = A} v next m same a b have q s is = by (entry m unread v.sessions q s (sym (same q) ∙ is))
  where
    by : Entry m unread v.sessions q s → (length s.up.put ≤ 0 + a) × (length s.down.put ≤ 0 + b)
    by (New one this) = (subst (λ (x : Session A). length x.up.put ≤ 0 + a) this (let l : 0 ≤ 0 + a = omega arith in l), subst (λ (x : Session A). length x.down.put ≤ 0 + b) this (let l : 0 ≤ 0 + b = omega arith in l))
    by (Old ne there) = let h = have q s there in (none_more (length s.up.put) a h.0, none_more (length s.down.put) b h.1)

move_sums : {A : Type 0} (move : LinkMove A) (v next : View A) → LinkMoves move v next → AddsAtMost (says move) (serves move) v next
move_sums (Cuts k i j) v next m = (sums_by v next (λ q s. ways_cut (has v.here k) m.conn i j q s) (λ q. ap (λ (x : View _). x.sessions q) m.gives) (λ q s. refl) (λ q s. refl))
move_sums (Dials k) v next m = (sums_same v next (λ q. ap (λ (x : View _). x.sessions q) m.gives))
move_sums (LetsGo k) v next m = (sums_same v next (λ q. ap (λ (x : View _). x.sessions q) m.gives))
move_sums (Foots k) v next m = (sums_same v next (λ q. ap (λ (x : View _). x.sessions q) m.gives))
move_sums Forgets v next m = (sums_same v next (λ q. ap (λ (x : View _). x.sessions q) m.gives))
move_sums (Requests k) v next m = (sums_same v next (λ q. ap (λ (x : View _). x.sessions q) m.gives))
move_sums (ReadsHand k) v next m = (sums_same v next (λ q. ap (λ (x : View _). x.sessions q) m.gives))
move_sums (AsksToResume k) v next m = (sums_by v next (λ q s. told_if (has (Some m.own.number) q) s) (λ q. ap (λ (x : View _). x.sessions q) m.gives) (λ q s. refl) (λ q s. refl))
move_sums (AsksToBind k) v next m = (sums_same v next (λ q. ap (λ (x : View _). x.sessions q) m.gives))
move_sums (ReadsFailed k) v next m = (sums_same v next (λ q. ap (λ (x : View _). x.sessions q) m.gives))
move_sums (ReadsResumed k) v next m = (sums_by v next (λ q s. resent_if (has (Some m.own.number) q) (is_flowing m.conn.wires) s) (λ q. ap (λ (x : View _). x.sessions q) m.gives) (λ q s. refl) (λ q s. refl))
move_sums (ReadsBound k number) v next m = (sums_by v next (λ q s. named_if (has (Some number) q) (v.epoch + 1) s) (λ q. ap (λ (x : View _). x.sessions q) m.gives) (λ q s. refl) (λ q s. refl))
move_sums (ReadsEnabled k number) v next m = (sums_by v next (λ q s. known_if (has (Some number) q) s) (λ q. ap (λ (x : View _). x.sessions q) m.gives) (λ q s. refl) (λ q s. refl))
move_sums (ReadsStanza k z) v next m = (sums_by v next (λ q s. read_if (has (Some m.own.number) q) z (down_stanzas m.rest) s) (λ q. ap (λ (x : View _). x.sessions q) m.gives) (λ q s. refl) (λ q s. refl))
move_sums (ReadsRequest k) v next m = (sums_by v next (λ q s. told_if (has (Some m.own.number) q) s) (λ q. ap (λ (x : View _). x.sessions q) m.gives) (λ q s. refl) (λ q s. refl))
move_sums (ReadsCount k h) v next m = (sums_by v next (λ q s. heard_if (has (Some m.own.number) q) h s) (λ q. ap (λ (x : View _). x.sessions q) m.gives) (λ q s. refl) (λ q s. refl))
move_sums (TakesHand k) v next m = (sums_same v next (λ q. ap (λ (x : View _). x.sessions q) m.gives))
move_sums (TakesResume k) v next m = (sums_by v next (λ q s. resumed_if (has (Some m.row.number) q) (is_flowing m.conn.wires) s) (λ q. ap (λ (x : View _). x.sessions q) m.gives) (λ q s. refl) (λ q s. refl))
move_sums (TakesLateResume k) v next m = (sums_by v next (λ q s. late_if (has (Some m.row.number) q) m.h s) (λ q. ap (λ (x : View _). x.sessions q) m.gives) (λ q s. refl) (λ q s. refl))
move_sums (TakesStrangeResume k) v next m = (sums_same v next (λ q. ap (λ (x : View _). x.sessions q) m.gives))
move_sums (TakesHighResume k) v next m = (sums_same v next (λ q. ap (λ (x : View _). x.sessions q) m.gives))
move_sums (TakesEnable k) v next m = (sums_by v next (λ q s. enabled_if (has (Some m.row.number) q) (is_flowing m.conn.wires) s) (λ q. ap (λ (x : View _). x.sessions q) m.gives) (λ q s. refl) (λ q s. refl))
move_sums (TakesStanza k z) v next m = (sums_by v next (λ q s. handled_if (has (Some m.row.number) q) z (up_stanzas m.rest) s) (λ q. ap (λ (x : View _). x.sessions q) m.gives) (λ q s. refl) (λ q s. refl))
move_sums (TakesRequest k) v next m = (sums_by v next (λ q s. stated_if (has (Some m.row.number) q) s) (λ q. ap (λ (x : View _). x.sessions q) m.gives) (λ q s. refl) (λ q s. refl))
move_sums (TakesCount k h) v next m = (sums_by v next (λ q s. acked_if (has (Some m.row.number) q) h s) (λ q. ap (λ (x : View _). x.sessions q) m.gives) (λ q s. refl) (λ q s. refl))
move_sums (TakesFoot k) v next m = (sums_same v next (λ q. ap (λ (x : View _). x.sessions q) m.gives))
move_sums (Parks k) v next m = (sums_same v next (λ q. ap (λ (x : View _). x.sessions q) m.gives))
move_sums (Hears k) v next m = (sums_same v next (λ q. ap (λ (x : View _). x.sessions q) m.gives))
move_sums (HearsEarly k) v next m = (sums_same v next (λ q. ap (λ (x : View _). x.sessions q) m.gives))
move_sums (Detaches k ending) v next m = (sums_by v next (λ q s. lost_if (has (Some m.row.number) q) (s.counted && (has v.here k && has (carries m.conn) q)) s) (λ q. ap (λ (x : View _). x.sessions q) m.gives) (λ q s. refl) (λ q s. refl))
move_sums (Shuts k ending) v next m = (sums_same v next (λ q. ap (λ (x : View _). x.sessions q) m.gives))
move_sums EndsRow v next m = (sums_same v next (λ q. ap (λ (x : View _). x.sessions q) m.gives))
move_sums (Demands k) v next m = (sums_same v next (λ q. ap (λ (x : View _). x.sessions q) m.gives))
move_sums (Puts k z) v next m = said_sums v next m.own.number z (λ q. ap (λ (x : View _). x.sessions q) m.gives)
move_sums (Queues z) v next m = said_sums v next m.own.number z (λ q. ap (λ (x : View _). x.sessions q) m.gives)
move_sums (TakesBind k number) v next m = bound_sums v next number (λ q. ap (λ (x : View _). x.sessions q) m.gives)
move_sums (Serves k z) v next m = served_sums v next m.row.number z (λ q. ap (λ (x : View _). x.sessions q) m.gives)
move_sums (Keeps z) v next m = served_sums v next m.row.number z (λ q. ap (λ (x : View _). x.sessions q) m.gives)

sums_along : {A : Type 0} (moves : List (LinkMove A)) (v last : View A) (a b : ℕ) → HaveAtMost a b v.sessions → LinkReaches moves v last → HaveAtMost (said_in moves + a) (served_in moves + b) last.sessions
sums_along [] v last a b have same q s is = let h = have q s (ap (λ (x : View _). x.sessions q) (sym same) ∙ is) in (none_more (length s.up.put) a h.0, none_more (length s.down.put) b h.1)
sums_along (move ∷ moves) v last a b have (next, by, along) q s is =
    let more = sums_along moves next last (says move + a) (serves move + b) (move_sums move v next by a b have) along q s is in
    let up = more.0 in
    let down = more.1 in
    ((let l : length s.up.put ≤ says move + said_in moves + a = omega arith in l), (let l : length s.down.put ≤ serves move + served_in moves + b = omega arith in l))

pub puts_sum : {A : Type 0} (moves : List (LinkMove A)) (v : View A) → LinkReaches moves nothing_yet v → (q : ℕ) (s : Session A) → v.sessions q ≡ Some s → (length s.up.put ≤ said_in moves) × (length s.down.put ≤ served_in moves)
puts_sum moves v along q s is =
    let all = sums_along moves nothing_yet v 0 0 (λ q s none. no_entry s none) along q s is in
    let up = all.0 in
    let down = all.1 in
    ((let l : length s.up.put ≤ said_in moves = omega arith in l), (let l : length s.down.put ≤ served_in moves = omega arith in l))
