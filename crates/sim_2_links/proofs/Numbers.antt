-- Each move keeps that the numbers of sessions rise with their epochs.
use Rattle.std.proofs.Common.{◌≡◌, ℕ, ◌+◌, ◌≤◌, false, ◌&&◌, List, [], ◌∷◌, ◌++◌, refl, sym, ap, ◌∙◌, subst, arith, ◌⊎◌, inl, inr, None, Some}
use Rattle.std.proofs.lemmas.Bool.{cases_eq}
use Rattle.sim_2_links.proofs.Entries.{other_number, at_same, Entry, New, Old, entry, was, is_has}
use Rattle.sim_2_links.proofs.Tables.{left_down_whole, UpRow, DownRow}
use Rattle.sim_2_links.proofs.CutLinks.{some_same}
use Rattle.sim_2_links.proofs.Hands.{no_entry, beginning_keeps, up_row, down_row}
use Rattle.sim_2_links.proofs.Detached.{first_whole}
use Rattle.sim_2_links.proofs.Resumption.{asks}
use Rattle.sim_2_links.proofs.Late.{late_if}
use Rattle.sim_2_links.proofs.Puts.{putting}
use Rattle.sim_2_links.proofs.Putting.{serving}
use Rattle.sim_2_links.proofs.Binding.{bound_keeps}
use Rattle.sim_2_links.proofs.Enabling.{enabled_if}
use Rattle.sim_2_links.proofs.ReadBound.{named_if, at_bound}
use Rattle.sim_2_links.proofs.ReadEnabled.{known_if}
use Rattle.sim_2_links.proofs.ReadResumed.{resent_if}
use Rattle.sim_2_links.proofs.Asking.{at_features, at_refused}
use Rattle.sim_2_links.proofs.Reached.{move_keeps}
use Rattle.sim_2_links.specs.Words.{UpWord, ResumeAt, DownWord, Failed, Bound, Enable, InFeatures2, InBind, InEnable, InResume, Ready, AtSession, up_stanzas, down_stanzas}
use Rattle.sim_2_links.specs.Wires.{is_flowing, up_words, down_words, down_whole, send_up, send_down, left_up, left_down}
use Rattle.sim_2_links.specs.Stages.{Stage, AsksResume, Refused, Resumes, AsksBind, Binds, AsksEnable, Enables, Runs, client_of, phase_of, down_of, Ending, Stands, Errs, Closes, tail_of, Conn, IsAt, IsPlain, IsEarly}
use Rattle.sim_2_links.specs.Views.{with_at, alter, has, Session, Row, View, carries}
use Rattle.sim_2_links.specs.LinkMoves.{ways_cut, handled_if, stated_if, acked_if, read_if, told_if, heard_if, dialled, IsUpHand, IsDownHand}
use Rattle.sim_2_links.specs.SessionMoves.{lost_if, unread, resumed_if, IsBound, IsReadBound}
use Rattle.sim_2_links.specs.Links.{FitsOwn, ConnKept, LinkKept}
use Rattle.sim_2_links.specs.Machine.{LinkMove, Cuts, Dials, LetsGo, Foots, Forgets, Puts, Queues, Requests, ReadsHand, AsksToResume, AsksToBind, ReadsFailed, ReadsResumed, ReadsBound, ReadsEnabled, ReadsStanza, ReadsRequest, ReadsCount, TakesHand, TakesResume, TakesLateResume, TakesStrangeResume, TakesHighResume, TakesBind, TakesEnable, TakesStanza, TakesRequest, TakesCount, TakesFoot, Parks, Hears, HearsEarly, Detaches, Shuts, EndsRow, Serves, Keeps, Demands, LinkMoves, nothing_yet, LinkReaches, LinkReached}
use Rattle.sim_2_links.specs.Numbers.{brought_by, brings, IsRising}

-- what is brought is a session that is bound, at the row of the table which says so

brought_tail : (A : Type 0) (end : Ending) (m : ℕ) → brought_by {A = A} InBind (tail_of end) ≡ Some m → ⊥
brought_tail A Stands m e = no_entry m e
brought_tail A (Errs x) m e = no_entry m e
brought_tail A Closes m e = no_entry m e

brought_row : {A : Type 0} (s : Stage A) (end : Ending) (m : ℕ) → brought_by (client_of s) (down_of s ++ tail_of end) ≡ Some m → s ≡ Binds m
brought_row (Binds n) end m e = ap (λ x. Binds x) (some_same n m e)
brought_row {A = A} AsksBind end m e = absurd (brought_tail A end m e)
brought_row (AsksResume p h) end m e = no_entry m e
brought_row (Refused p) end m e = no_entry m e
brought_row (Resumes p h downs) end m e = no_entry m e
brought_row (AsksEnable n) end m e = no_entry m e
brought_row (Enables n downs) end m e = no_entry m e
brought_row (Runs p ups downs) end m e = no_entry m e
brought_row _ end m e = no_entry m e

is_binds : {A : Type 0} (s : Stage A) (c : Conn A) (m : ℕ) → IsAt s c → brings c ≡ Some m → s ≡ Binds m
is_binds s c m at e = brought_row s c.ending m (sym (ap (λ x. brought_by x (down_whole c.wires)) at.client ∙ ap (brought_by (client_of s)) at.down) ∙ e)

pub binds_brings : {A : Type 0} (s : Stage A) (c : Conn A) (m : ℕ) → IsAt s c → s ≡ Binds m → brings c ≡ Some m
binds_brings s c m at is =
    let row : IsAt (Binds m) c = subst (λ x. IsAt x c) is at in
    ap (λ x. brought_by x (down_whole c.wires)) row.client ∙ ap (brought_by InBind) row.down

at_binds : {A : Type 0} (s : Stage A) (m : ℕ) → client_of s ≡ InBind → phase_of s ≡ AtSession m → s ≡ Binds m
at_binds (Binds n) m e f = let same : n ≡ m = cc in ap (λ x. Binds x) same
at_binds AsksBind m e f = absurd (let no_way : ⊥ = cc in no_way)
at_binds (AsksResume p h) m e f = absurd (let no_way : ⊥ = cc in no_way)
at_binds (Resumes p h downs) m e f = absurd (let no_way : ⊥ = cc in no_way)
at_binds (Runs p ups downs) m e f = absurd (let no_way : ⊥ = cc in no_way)
at_binds _ m e f = absurd (let no_way : ⊥ = cc in no_way)

-- a connection on which neither the client's state nor the server's phase changes brings what it brought
brought_back : {A : Type 0} (v next : View A) (k m : ℕ) (old new : Conn A) → LinkKept v → LinkKept next → v.conns k ≡ Some old → next.conns k ≡ Some new → new.client ≡ old.client → new.phase ≡ old.phase → brings new ≡ Some m → brings old ≡ Some m
brought_back {A = A} v next k m old new kept after is_old is_new client phase e =
    let before = kept.conns k old is_old in
    let now = after.conns k new is_new in
    let row : IsAt (Binds m) new = subst (λ x. IsAt x new) (is_binds now.stage new m now.at e) now.at in
    binds_brings before.stage old m before.at (at_binds before.stage m (sym before.at.client ∙ sym client ∙ row.client) (sym before.at.phase ∙ sym phase ∙ row.phase))

-- what a move may do to rise no number

abbrev pub SameRows : {A : Type 0} → View A → View A → Type 0
SameRows {A = A} v next = (r : Row A) → next.row ≡ Some r → (s : Row A) × (v.row ≡ Some s) × (s.number ≡ r.number)

abbrev pub SameEpochs : {A : Type 0} → View A → View A → Type 0
SameEpochs {A = A} v next = (q : ℕ) (t : Session A) → next.sessions q ≡ Some t → (s : Session A) × (v.sessions q ≡ Some s) × (t.epoch ≡ s.epoch)

abbrev pub SameBrought : {A : Type 0} → View A → View A → Type 0
SameBrought {A = A} v next = (k m : ℕ) (c : Conn A) → next.here ≡ Some k → next.conns k ≡ Some c → brings c ≡ Some m → (j : ℕ) × (d : Conn A) × (v.here ≡ Some j) × (v.conns j ≡ Some d) × (brings d ≡ Some m)

rises_by : {A : Type 0} (v next : View A) → SameRows v next → SameEpochs v next → SameBrought v next → next.epoch ≡ v.epoch → next.free ≡ v.free → IsRising v → IsRising next
rises_by v next rows epochs brought epoch free rising = record {
  given = λ q t is. let w = epochs q t is in subst (λ n. q + 1 ≤ n) (sym free) (rising.given q w.0 w.1);
  newest = λ r is q t found. let w = epochs q t found in let x = rows r is in subst (λ n. q ≤ n) x.2 (rising.newest x.0 x.1 q w.0 w.1);
  above = λ k m c here is e q n t found named. let w = epochs q t found in let b = brought k m c here is e in rising.above b.0 m b.1 b.2 b.3 b.4 q n w.0 w.1 (sym w.2 ∙ named);
  present = λ r is t n found named. let x = rows r is in let w = epochs r.number t found in rising.present x.0 x.1 w.0 n (subst (λ (q : ℕ). v.sessions q ≡ Some w.0) (sym x.2) w.1) (sym w.2 ∙ named) ∙ sym epoch;
}

rows_same : {A : Type 0} (v next : View A) → next.row ≡ v.row → SameRows v next
rows_same v next same r is = (r, sym same ∙ is, refl)

rows_none : {A : Type 0} (v next : View A) → next.row ≡ None → SameRows v next
rows_none v next none r is = no_entry r (sym none ∙ is)

rows_new : {A : Type 0} (v next : View A) (old new : Row A) → v.row ≡ Some old → next.row ≡ Some new → new.number ≡ old.number → SameRows v next
rows_new v next old new is_old is_new number r is = (old, is_old, sym number ∙ ap (λ (x : Row _). x.number) (some_same new r (sym is_new ∙ is)))

epochs_same : {A : Type 0} (v next : View A) → ((q : ℕ) → next.sessions q ≡ v.sessions q) → SameEpochs v next
epochs_same v next same q t is = (t, sym (same q) ∙ is, refl)

epochs_by : {A : Type 0} (v next : View A) (f : ℕ → Session A → Session A) → ((q : ℕ) → next.sessions q ≡ alter f v.sessions q) → ((q : ℕ) (s : Session A) → (f q s).epoch ≡ s.epoch) → SameEpochs v next
epochs_by v next f same epoch q t is = let w = was f v.sessions q t (sym (same q) ∙ is) in (w.0, w.1, ap (λ (x : Session _). x.epoch) (sym w.2) ∙ epoch q w.0)

-- one connection changes, and brings what it brought or nothing
brought_at : {A : Type 0} (v next : View A) (k : ℕ) (new : Conn A) → next.here ≡ v.here → ((n : ℕ) → next.conns n ≡ with_at k new v.conns n) →
    ((m : ℕ) → brings new ≡ Some m → (d : Conn A) × (v.conns k ≡ Some d) × (brings d ≡ Some m)) → SameBrought v next
brought_at {A = A} v next k new here conns back n m c is_here is e = by (entry k new v.conns n c (sym (conns n) ∙ is))
  where
    by : Entry k new v.conns n c → (j : ℕ) × (d : Conn A) × (v.here ≡ Some j) × (v.conns j ≡ Some d) × (brings d ≡ Some m)
    by (New same this) = let b = back m (ap brings this ∙ e) in (k, b.0, sym here ∙ is_here ∙ ap Some (sym same), b.1, b.2)
    by (Old ne there) = (n, c, sym here ∙ is_here, there, e)

brought_same : {A : Type 0} (v next : View A) → next.here ≡ v.here → ((n : ℕ) → next.conns n ≡ v.conns n) → SameBrought v next
brought_same v next here conns n m c is_here is e = (n, c, sym here ∙ is_here, sym (conns n) ∙ is, e)

brought_none : {A : Type 0} (v next : View A) → next.here ≡ None → SameBrought v next
brought_none v next none n m c is_here is e = no_entry n (sym none ∙ is_here)

-- a new connection brings nothing
dialled_brings : {A : Type 0} (v : View A) (k j n : ℕ) (c : Conn A) → Some k ≡ Some j → with_at k dialled v.conns j ≡ Some c → brings c ≡ Some n → ⊥
dialled_brings {A = A} v k j n c here found e = by (entry k dialled v.conns j c found)
  where
    by : Entry k dialled v.conns j c → ⊥
    by (New same this) = no_entry n (ap brings this ∙ e)
    by (Old ne there) = ne (some_same k j here)

-- one that is ready for a session brings none
ready_brings : {A : Type 0} (v next : View A) (k n : ℕ) {old : Conn A} → ConnKept v k old → (new : Conn A) → LinkKept next → next.conns k ≡ Some new → old.phase ≡ Ready → new.phase ≡ old.phase → brings new ≡ Some n → ⊥
ready_brings v next k n before new after is ready same e =
    let now = after.conns k new is in
    let row : IsAt (Binds n) new = subst (λ x. IsAt x new) (is_binds now.stage new n now.at e) now.at in
    let no_way : Ready ≡ AtSession n = sym (same ∙ ready) ∙ row.phase in
    absurd (let out : ⊥ = cc in out)

features_ready : {A : Type 0} (v : View A) (k : ℕ) (c : Conn A) → v.conns k ≡ Some c → c.client ≡ InFeatures2 → LinkKept v → c.phase ≡ Ready
features_ready v k c is client kept = let old = kept.conns k c is in old.at.phase ∙ ap phase_of (at_features old.stage (sym old.at.client ∙ client))

refused_ready : {A : Type 0} (v : View A) (k : ℕ) (c : Conn A) (p : ℕ) (rest : List (DownWord A)) → v.conns k ≡ Some c → c.client ≡ InResume p → down_words c.wires ≡ Failed ∷ rest → LinkKept v → c.phase ≡ Ready
refused_ready v k c p rest is client first kept =
    let old = kept.conns k c is in
    old.at.phase ∙ ap phase_of (at_refused old.stage c.ending p (down_whole (left_down rest c.wires)) (sym old.at.client ∙ client) (sym old.at.down ∙ left_down_whole Failed rest c.wires first))

asked_brings : {A : Type 0} (v next : View A) (k p h n : ℕ) (c new : Conn A) (rest : List (UpWord A)) → LinkKept v → v.conns k ≡ Some c → up_words c.wires ≡ ResumeAt p h ∷ rest → next.conns k ≡ Some new → new.client ≡ c.client → brings new ≡ Some n → ⊥
asked_brings v next k p h n c new rest kept is first is_new same e =
    let old = kept.conns k c is in
    let whole = first_whole (ResumeAt p h) rest c.wires first in
    let client : c.client ≡ InResume p = old.at.client ∙ ap client_of (asks old.stage c.footed p h whole.0 (sym old.at.up ∙ whole.1)).is in
    no_entry n (sym (ap (λ x. brought_by x (down_whole new.wires)) (same ∙ client)) ∙ e)

plain_brings : {A : Type 0} (s : Stage A) (ws : List (DownWord A)) (n : ℕ) → IsPlain s → brought_by (client_of s) ws ≡ Some n → ⊥
plain_brings (AsksResume p h) ws n plain e = absurd plain
plain_brings (Refused p) ws n plain e = absurd plain
plain_brings (Resumes p h downs) ws n plain e = absurd plain
plain_brings AsksBind ws n plain e = absurd plain
plain_brings (Binds m) ws n plain e = absurd plain
plain_brings (AsksEnable m) ws n plain e = absurd plain
plain_brings (Enables m downs) ws n plain e = absurd plain
plain_brings (Runs p ups downs) ws n plain e = absurd plain
plain_brings _ ws n plain e = no_entry n e

taken_hand_rises : {A : Type 0} (k : ℕ) (v next : View A) → IsUpHand k v next → LinkKept v → IsRising v → IsRising next
taken_hand_rises {A = A} k v next m kept rising = rises_by v next (rows_same v next (ap (λ (x : View _). x.row) m.gives)) (epochs_same v next (λ q. ap (λ (x : View _). x.sessions q) m.gives)) (brought_at v next k this (ap (λ (x : View _). x.here) m.gives) (λ n. ap (λ (x : View _). x.conns n) m.gives) (λ n e. absurd (plain_brings old.stage (down_whole this.wires) n row.before (sym (ap (λ x. brought_by x (down_whole this.wires)) old.at.client) ∙ e)))) (ap (λ (x : View _). x.epoch) m.gives) (ap (λ (x : View _). x.free) m.gives) rising
  where
    this : Conn A
    this = record m.conn { phase = m.phase; wires = send_down m.puts (left_up m.rest m.conn.wires) }

    old : ConnKept v k m.conn
    old = kept.conns k m.conn m.is

    row : UpRow old.stage m.conn m.phase m.puts m.rest
    row = up_row old.stage m.conn m.word m.rest m.phase m.puts old.at m.first m.hand

read_hand_rises : {A : Type 0} (k : ℕ) (v next : View A) → IsDownHand k v next → LinkKept v → IsRising v → IsRising next
read_hand_rises {A = A} k v next m kept rising = rises_by v next (rows_same v next (ap (λ (x : View _). x.row) m.gives)) (epochs_same v next (λ q. ap (λ (x : View _). x.sessions q) m.gives)) (brought_at v next k this (ap (λ (x : View _). x.here) m.gives) (λ n. ap (λ (x : View _). x.conns n) m.gives) (λ n e. absurd (plain_brings row.row (down_whole this.wires) n (row.plain early) (ap (λ x. brought_by x (down_whole this.wires)) row.state ∙ e)))) (ap (λ (x : View _). x.epoch) m.gives) (ap (λ (x : View _). x.free) m.gives) rising
  where
    this : Conn A
    this = record m.conn { client = m.client; wires = send_up m.puts (left_down m.rest m.conn.wires) }

    old : ConnKept v k m.conn
    old = kept.conns k m.conn m.is

    early : IsEarly (client_of old.stage)
    early = subst IsEarly old.at.client m.early

    row : DownRow old.stage m.conn m.client m.puts m.rest
    row = down_row old.stage m.conn m.word m.rest m.client m.puts old.at m.first m.hand

-- a session is bound

bound_rises : {A : Type 0} (k number : ℕ) (v next : View A) → IsBound k number v next → LinkKept v → IsRising v → IsRising next
bound_rises {A = A} k number v next m kept rising = subst IsRising (sym m.gives) (record {
  given = λ q s is. given q s (entry number unread v.sessions q s is);
  newest = λ r is q s found. let g = given q s (entry number unread v.sessions q s found) in subst (λ (n : ℕ). q ≤ n) (ap (λ (x : Row A). x.number) (some_same new r is)) (let l : q ≤ number = omega arith in l);
  above = λ j n c here found e q epoch s is named. above j n c here e q epoch s named (entry number unread v.sessions q s is) (entry k this v.conns j c found);
  present = λ r is s epoch found named. absurd (fresh r s epoch (ap (λ (x : Row A). x.number) (some_same new r is)) found named);
})
  where
    this : Conn A
    this = record m.conn { phase = AtSession number; wires = send_down (Bound number ∷ []) (left_up m.rest m.conn.wires) }

    new : Row A
    new = record { number = number; on = Some k; counted = false; acked = 0; handled = 0; queue = [] }

    after : LinkKept (record v { conns = with_at k this v.conns; row = Some new; sessions = with_at number unread v.sessions; free = number + 1 })
    after = subst LinkKept m.gives (bound_keeps k number v next m kept)

    given : (q : ℕ) (s : Session A) → Entry number unread v.sessions q s → q + 1 ≤ number + 1
    given q s (New same this) = let e = same in omega arith
    given q s (Old ne there) = let g = rising.given q s there in let l = m.rises in omega arith

    unnamed : (s : Session A) (epoch : ℕ) → unread ≡ s → s.epoch ≡ Some epoch → ⊥
    unnamed s epoch this named = no_entry epoch (ap (λ (x : Session A). x.epoch) this ∙ named)

    above : (j n : ℕ) (c : Conn A) → v.here ≡ Some j → brings c ≡ Some n → (q epoch : ℕ) (s : Session A) → s.epoch ≡ Some epoch → Entry number unread v.sessions q s → Entry k this v.conns j c → q + 1 ≤ n
    above j n c here e q epoch s named (New same one) entry_c = absurd (unnamed s epoch one named)
    above j n c here e q epoch s named (Old ne there) (Old apart found) = rising.above j n c here found e q epoch s there named
    above j n c here e q epoch s named (Old ne there) (New same one) = brought c n one e (rising.given q s there)
      where
        brought : (c : Conn A) (n : ℕ) → this ≡ c → brings c ≡ Some n → q + 1 ≤ v.free → q + 1 ≤ n
        brought c n one e g =
            let now = after.conns k this (at_same k this v.conns) in
            let row : IsAt (Binds n) this = subst (λ x. IsAt x this) (is_binds now.stage this n now.at (ap brings one ∙ e)) now.at in
            let phase : AtSession number ≡ AtSession n = row.phase in
            let same_number : number ≡ n = cc in
            let l = m.rises in
            omega arith

    fresh : (r : Row A) (s : Session A) (epoch : ℕ) → number ≡ r.number → with_at number unread v.sessions r.number ≡ Some s → s.epoch ≡ Some epoch → ⊥
    fresh r s epoch same found named = by (entry number unread v.sessions r.number s found)
      where
        by : Entry number unread v.sessions r.number s → ⊥
        by (New one this) = unnamed s epoch this named
        by (Old ne there) = ne same

-- the client reads that a session was bound: it is above all that have an epoch, so no other row has one
read_bound_rises : {A : Type 0} (k number : ℕ) (v next : View A) → IsReadBound k number v next → LinkKept v → IsRising v → IsRising next
read_bound_rises {A = A} k number v next m kept rising = subst IsRising (sym m.gives) (record {
  given = λ q s is. let w = was f v.sessions q s is in rising.given q w.0 w.1;
  newest = λ r is q s found. let w = was f v.sessions q s found in rising.newest r is q w.0 w.1;
  above = λ j n c here found e q epoch s is named. absurd (silent j n c here e (entry k this v.conns j c found));
  present = λ r is s epoch found named. present r s epoch is (was f v.sessions r.number s found) named (cases_eq number r.number);
})
  where
    this : Conn A
    this = record m.conn { client = InEnable; wires = send_up (Enable ∷ []) (left_down m.rest m.conn.wires) }

    f : ℕ → Session A → Session A
    f = λ q s. named_if (has (Some number) q) (v.epoch + 1) s

    old : ConnKept v k m.conn
    old = kept.conns k m.conn m.is

    binds : old.stage ≡ Binds number
    binds = at_bound old.stage m.conn.ending number (down_whole (left_down m.rest m.conn.wires)) (sym old.at.client ∙ m.client) (sym old.at.down ∙ left_down_whole (Bound number) m.rest m.conn.wires m.first)

    silent : (j n : ℕ) (c : Conn A) → v.here ≡ Some j → brings c ≡ Some n → Entry k this v.conns j c → ⊥
    silent j n c here e (New same one) = no_entry n (ap brings one ∙ e)
    silent j n c here e (Old ne there) = ne (some_same k j (sym m.here ∙ here))

    present : (r : Row A) (s : Session A) (epoch : ℕ) → v.row ≡ Some r → (t : Session A) × (v.sessions r.number ≡ Some t) × (f r.number t ≡ s) → s.epoch ≡ Some epoch → (number ≡ r.number) ⊎ (number ≡ r.number → ⊥) → epoch ≡ v.epoch + 1
    present r s epoch is w named (inl same) = some_same epoch (v.epoch + 1) (sym named ∙ ap (λ (x : Session A). x.epoch) (sym w.2) ∙ now)
      where
        now : (f r.number w.0).epoch ≡ Some (v.epoch + 1)
        now = rw (is_has (Some number) r.number (ap Some same)) refl
    present r s epoch is w named (inr ne) =
        let stays : w.0.epoch ≡ Some epoch = sym unchanged ∙ ap (λ (x : Session A). x.epoch) w.2 ∙ named in
        let brought : brings m.conn ≡ Some number = binds_brings old.stage m.conn number old.at binds in
        let low = rising.above k number m.conn m.here m.is brought r.number epoch w.0 w.1 stays in
        let fits : FitsOwn v.own v.epoch v.sessions (Binds number) = subst (λ x. FitsOwn v.own v.epoch v.sessions x) binds (old.fits (is_has v.here k m.here)) in
        let high = rising.newest r is number fits.1.0 fits.1.1 in
        absurd (let no_way : ⊥ = omega arith in no_way)
      where
        unchanged : (f r.number w.0).epoch ≡ w.0.epoch
        unchanged = rw (other_number number r.number ne) refl

pub move_rises : {A : Type 0} (move : LinkMove A) (v next : View A) → LinkMoves move v next → LinkKept v → IsRising v → IsRising next
move_rises (Cuts k i j) v next m kept rising = rises_by v next (rows_same v next (ap (λ (x : View _). x.row) m.gives)) (epochs_by v next (λ q s. ways_cut (has v.here k) m.conn i j q s) (λ q. ap (λ (x : View _). x.sessions q) m.gives) (λ q s. refl)) (brought_at v next k _ (ap (λ (x : View _). x.here) m.gives) (λ n. ap (λ (x : View _). x.conns n) m.gives) (λ n e. (m.conn, m.is, brought_back v next k n m.conn _ kept (move_keeps (Cuts k i j) v next m kept) m.is (ap (λ (x : View _). x.conns k) m.gives ∙ at_same k _ v.conns) refl refl e))) (ap (λ (x : View _). x.epoch) m.gives) (ap (λ (x : View _). x.free) m.gives) rising
move_rises (Dials k) v next m kept rising = rises_by v next (rows_same v next (ap (λ (x : View _). x.row) m.gives)) (epochs_same v next (λ q. ap (λ (x : View _). x.sessions q) m.gives)) (λ j n c here found e. absurd (dialled_brings v k j n c (sym (ap (λ (x : View _). x.here) m.gives) ∙ here) (sym (ap (λ (x : View _). x.conns j) m.gives) ∙ found) e)) (ap (λ (x : View _). x.epoch) m.gives) (ap (λ (x : View _). x.free) m.gives) rising
move_rises (LetsGo k) v next m kept rising = rises_by v next (rows_same v next (ap (λ (x : View _). x.row) m.gives)) (epochs_same v next (λ q. ap (λ (x : View _). x.sessions q) m.gives)) (brought_none v next (ap (λ (x : View _). x.here) m.gives)) (ap (λ (x : View _). x.epoch) m.gives) (ap (λ (x : View _). x.free) m.gives) rising
move_rises (Foots k) v next m kept rising = rises_by v next (rows_same v next (ap (λ (x : View _). x.row) m.gives)) (epochs_same v next (λ q. ap (λ (x : View _). x.sessions q) m.gives)) (brought_at v next k _ (ap (λ (x : View _). x.here) m.gives) (λ n. ap (λ (x : View _). x.conns n) m.gives) (λ n e. (m.conn, m.is, brought_back v next k n m.conn _ kept (move_keeps (Foots k) v next m kept) m.is (ap (λ (x : View _). x.conns k) m.gives ∙ at_same k _ v.conns) refl refl e))) (ap (λ (x : View _). x.epoch) m.gives) (ap (λ (x : View _). x.free) m.gives) rising
move_rises Forgets v next m kept rising = rises_by v next (rows_same v next (ap (λ (x : View _). x.row) m.gives)) (epochs_same v next (λ q. ap (λ (x : View _). x.sessions q) m.gives)) (brought_same v next (ap (λ (x : View _). x.here) m.gives) (λ n. ap (λ (x : View _). x.conns n) m.gives)) (ap (λ (x : View _). x.epoch) m.gives) (ap (λ (x : View _). x.free) m.gives) rising
move_rises (Puts k z) v next m kept rising = rises_by v next (rows_same v next (ap (λ (x : View _). x.row) m.gives)) (epochs_by v next (λ q s. putting (has (Some m.own.number) q) z s) (λ q. ap (λ (x : View _). x.sessions q) m.gives) (λ q s. refl)) (brought_at v next k _ (ap (λ (x : View _). x.here) m.gives) (λ n. ap (λ (x : View _). x.conns n) m.gives) (λ n e. (m.conn, m.is, brought_back v next k n m.conn _ kept (move_keeps (Puts k z) v next m kept) m.is (ap (λ (x : View _). x.conns k) m.gives ∙ at_same k _ v.conns) refl refl e))) (ap (λ (x : View _). x.epoch) m.gives) (ap (λ (x : View _). x.free) m.gives) rising
move_rises (Queues z) v next m kept rising = rises_by v next (rows_same v next (ap (λ (x : View _). x.row) m.gives)) (epochs_by v next (λ q s. putting (has (Some m.own.number) q) z s) (λ q. ap (λ (x : View _). x.sessions q) m.gives) (λ q s. refl)) (brought_same v next (ap (λ (x : View _). x.here) m.gives) (λ n. ap (λ (x : View _). x.conns n) m.gives)) (ap (λ (x : View _). x.epoch) m.gives) (ap (λ (x : View _). x.free) m.gives) rising
move_rises (Requests k) v next m kept rising = rises_by v next (rows_same v next (ap (λ (x : View _). x.row) m.gives)) (epochs_same v next (λ q. ap (λ (x : View _). x.sessions q) m.gives)) (brought_at v next k _ (ap (λ (x : View _). x.here) m.gives) (λ n. ap (λ (x : View _). x.conns n) m.gives) (λ n e. (m.conn, m.is, brought_back v next k n m.conn _ kept (move_keeps (Requests k) v next m kept) m.is (ap (λ (x : View _). x.conns k) m.gives ∙ at_same k _ v.conns) refl refl e))) (ap (λ (x : View _). x.epoch) m.gives) (ap (λ (x : View _). x.free) m.gives) rising
move_rises (AsksToResume k) v next m kept rising = rises_by v next (rows_same v next (ap (λ (x : View _). x.row) m.gives)) (epochs_by v next (λ q s. told_if (has (Some m.own.number) q) s) (λ q. ap (λ (x : View _). x.sessions q) m.gives) (λ q s. refl)) (brought_at v next k _ (ap (λ (x : View _). x.here) m.gives) (λ n. ap (λ (x : View _). x.conns n) m.gives) (λ n e. no_entry n e)) (ap (λ (x : View _). x.epoch) m.gives) (ap (λ (x : View _). x.free) m.gives) rising
move_rises (AsksToBind k) v next m kept rising = rises_by v next (rows_same v next (ap (λ (x : View _). x.row) m.gives)) (epochs_same v next (λ q. ap (λ (x : View _). x.sessions q) m.gives)) (brought_at v next k _ (ap (λ (x : View _). x.here) m.gives) (λ n. ap (λ (x : View _). x.conns n) m.gives) (λ n e. absurd (ready_brings v next k n (kept.conns k m.conn m.is) _ (move_keeps (AsksToBind k) v next m kept) (ap (λ (x : View _). x.conns k) m.gives ∙ at_same k _ v.conns) (features_ready v k m.conn m.is m.client kept) refl e))) (ap (λ (x : View _). x.epoch) m.gives) (ap (λ (x : View _). x.free) m.gives) rising
move_rises (ReadsFailed k) v next m kept rising = rises_by v next (rows_same v next (ap (λ (x : View _). x.row) m.gives)) (epochs_same v next (λ q. ap (λ (x : View _). x.sessions q) m.gives)) (brought_at v next k _ (ap (λ (x : View _). x.here) m.gives) (λ n. ap (λ (x : View _). x.conns n) m.gives) (λ n e. absurd (ready_brings v next k n (kept.conns k m.conn m.is) _ (move_keeps (ReadsFailed k) v next m kept) (ap (λ (x : View _). x.conns k) m.gives ∙ at_same k _ v.conns) (refused_ready v k m.conn m.p m.rest m.is m.client m.first kept) refl e))) (ap (λ (x : View _). x.epoch) m.gives) (ap (λ (x : View _). x.free) m.gives) rising
move_rises (ReadsResumed k) v next m kept rising = rises_by v next (rows_same v next (ap (λ (x : View _). x.row) m.gives)) (epochs_by v next (λ q s. resent_if (has (Some m.own.number) q) (is_flowing m.conn.wires) s) (λ q. ap (λ (x : View _). x.sessions q) m.gives) (λ q s. refl)) (brought_at v next k _ (ap (λ (x : View _). x.here) m.gives) (λ n. ap (λ (x : View _). x.conns n) m.gives) (λ n e. no_entry n e)) (ap (λ (x : View _). x.epoch) m.gives) (ap (λ (x : View _). x.free) m.gives) rising
move_rises (ReadsEnabled k number) v next m kept rising = rises_by v next (rows_same v next (ap (λ (x : View _). x.row) m.gives)) (epochs_by v next (λ q s. known_if (has (Some number) q) s) (λ q. ap (λ (x : View _). x.sessions q) m.gives) (λ q s. refl)) (brought_at v next k _ (ap (λ (x : View _). x.here) m.gives) (λ n. ap (λ (x : View _). x.conns n) m.gives) (λ n e. no_entry n e)) (ap (λ (x : View _). x.epoch) m.gives) (ap (λ (x : View _). x.free) m.gives) rising
move_rises (ReadsStanza k z) v next m kept rising = rises_by v next (rows_same v next (ap (λ (x : View _). x.row) m.gives)) (epochs_by v next (λ q s. read_if (has (Some m.own.number) q) z (down_stanzas m.rest) s) (λ q. ap (λ (x : View _). x.sessions q) m.gives) (λ q s. refl)) (brought_at v next k _ (ap (λ (x : View _). x.here) m.gives) (λ n. ap (λ (x : View _). x.conns n) m.gives) (λ n e. (m.conn, m.is, brought_back v next k n m.conn _ kept (move_keeps (ReadsStanza k z) v next m kept) m.is (ap (λ (x : View _). x.conns k) m.gives ∙ at_same k _ v.conns) refl refl e))) (ap (λ (x : View _). x.epoch) m.gives) (ap (λ (x : View _). x.free) m.gives) rising
move_rises (ReadsRequest k) v next m kept rising = rises_by v next (rows_same v next (ap (λ (x : View _). x.row) m.gives)) (epochs_by v next (λ q s. told_if (has (Some m.own.number) q) s) (λ q. ap (λ (x : View _). x.sessions q) m.gives) (λ q s. refl)) (brought_at v next k _ (ap (λ (x : View _). x.here) m.gives) (λ n. ap (λ (x : View _). x.conns n) m.gives) (λ n e. (m.conn, m.is, brought_back v next k n m.conn _ kept (move_keeps (ReadsRequest k) v next m kept) m.is (ap (λ (x : View _). x.conns k) m.gives ∙ at_same k _ v.conns) refl refl e))) (ap (λ (x : View _). x.epoch) m.gives) (ap (λ (x : View _). x.free) m.gives) rising
move_rises (ReadsCount k h) v next m kept rising = rises_by v next (rows_same v next (ap (λ (x : View _). x.row) m.gives)) (epochs_by v next (λ q s. heard_if (has (Some m.own.number) q) h s) (λ q. ap (λ (x : View _). x.sessions q) m.gives) (λ q s. refl)) (brought_at v next k _ (ap (λ (x : View _). x.here) m.gives) (λ n. ap (λ (x : View _). x.conns n) m.gives) (λ n e. (m.conn, m.is, brought_back v next k n m.conn _ kept (move_keeps (ReadsCount k h) v next m kept) m.is (ap (λ (x : View _). x.conns k) m.gives ∙ at_same k _ v.conns) refl refl e))) (ap (λ (x : View _). x.epoch) m.gives) (ap (λ (x : View _). x.free) m.gives) rising
move_rises (TakesResume k) v next m kept rising = rises_by v next (rows_new v next m.row _ m.is_row (ap (λ (x : View _). x.row) m.gives) refl) (epochs_by v next (λ q s. resumed_if (has (Some m.row.number) q) (is_flowing m.conn.wires) s) (λ q. ap (λ (x : View _). x.sessions q) m.gives) (λ q s. refl)) (brought_at v next k _ (ap (λ (x : View _). x.here) m.gives) (λ n. ap (λ (x : View _). x.conns n) m.gives) (λ n e. absurd (asked_brings v next k m.row.number m.h n m.conn _ m.rest kept m.is m.first (ap (λ (x : View _). x.conns k) m.gives ∙ at_same k _ v.conns) refl e))) (ap (λ (x : View _). x.epoch) m.gives) (ap (λ (x : View _). x.free) m.gives) rising
move_rises (TakesLateResume k) v next m kept rising = rises_by v next (rows_new v next m.row _ m.is_row (ap (λ (x : View _). x.row) m.gives) refl) (epochs_by v next (λ q s. late_if (has (Some m.row.number) q) m.h s) (λ q. ap (λ (x : View _). x.sessions q) m.gives) (λ q s. refl)) (brought_at v next k _ (ap (λ (x : View _). x.here) m.gives) (λ n. ap (λ (x : View _). x.conns n) m.gives) (λ n e. absurd (asked_brings v next k m.row.number m.h n m.conn _ m.rest kept m.is m.first (ap (λ (x : View _). x.conns k) m.gives ∙ at_same k _ v.conns) refl e))) (ap (λ (x : View _). x.epoch) m.gives) (ap (λ (x : View _). x.free) m.gives) rising
move_rises (TakesStrangeResume k) v next m kept rising = rises_by v next (rows_same v next (ap (λ (x : View _). x.row) m.gives)) (epochs_same v next (λ q. ap (λ (x : View _). x.sessions q) m.gives)) (brought_at v next k _ (ap (λ (x : View _). x.here) m.gives) (λ n. ap (λ (x : View _). x.conns n) m.gives) (λ n e. (m.conn, m.is, brought_back v next k n m.conn _ kept (move_keeps (TakesStrangeResume k) v next m kept) m.is (ap (λ (x : View _). x.conns k) m.gives ∙ at_same k _ v.conns) refl refl e))) (ap (λ (x : View _). x.epoch) m.gives) (ap (λ (x : View _). x.free) m.gives) rising
move_rises (TakesHighResume k) v next m kept rising = rises_by v next (rows_none v next (ap (λ (x : View _). x.row) m.gives)) (epochs_same v next (λ q. ap (λ (x : View _). x.sessions q) m.gives)) (brought_at v next k _ (ap (λ (x : View _). x.here) m.gives) (λ n. ap (λ (x : View _). x.conns n) m.gives) (λ n e. (m.conn, m.is, brought_back v next k n m.conn _ kept (move_keeps (TakesHighResume k) v next m kept) m.is (ap (λ (x : View _). x.conns k) m.gives ∙ at_same k _ v.conns) refl refl e))) (ap (λ (x : View _). x.epoch) m.gives) (ap (λ (x : View _). x.free) m.gives) rising
move_rises (TakesEnable k) v next m kept rising = rises_by v next (rows_new v next m.row _ m.is_row (ap (λ (x : View _). x.row) m.gives) refl) (epochs_by v next (λ q s. enabled_if (has (Some m.row.number) q) (is_flowing m.conn.wires) s) (λ q. ap (λ (x : View _). x.sessions q) m.gives) (λ q s. refl)) (brought_at v next k _ (ap (λ (x : View _). x.here) m.gives) (λ n. ap (λ (x : View _). x.conns n) m.gives) (λ n e. (m.conn, m.is, brought_back v next k n m.conn _ kept (move_keeps (TakesEnable k) v next m kept) m.is (ap (λ (x : View _). x.conns k) m.gives ∙ at_same k _ v.conns) refl refl e))) (ap (λ (x : View _). x.epoch) m.gives) (ap (λ (x : View _). x.free) m.gives) rising
move_rises (TakesStanza k z) v next m kept rising = rises_by v next (rows_new v next m.row _ m.is_row (ap (λ (x : View _). x.row) m.gives) refl) (epochs_by v next (λ q s. handled_if (has (Some m.row.number) q) z (up_stanzas m.rest) s) (λ q. ap (λ (x : View _). x.sessions q) m.gives) (λ q s. refl)) (brought_at v next k _ (ap (λ (x : View _). x.here) m.gives) (λ n. ap (λ (x : View _). x.conns n) m.gives) (λ n e. (m.conn, m.is, brought_back v next k n m.conn _ kept (move_keeps (TakesStanza k z) v next m kept) m.is (ap (λ (x : View _). x.conns k) m.gives ∙ at_same k _ v.conns) refl refl e))) (ap (λ (x : View _). x.epoch) m.gives) (ap (λ (x : View _). x.free) m.gives) rising
move_rises (TakesRequest k) v next m kept rising = rises_by v next (rows_same v next (ap (λ (x : View _). x.row) m.gives)) (epochs_by v next (λ q s. stated_if (has (Some m.row.number) q) s) (λ q. ap (λ (x : View _). x.sessions q) m.gives) (λ q s. refl)) (brought_at v next k _ (ap (λ (x : View _). x.here) m.gives) (λ n. ap (λ (x : View _). x.conns n) m.gives) (λ n e. (m.conn, m.is, brought_back v next k n m.conn _ kept (move_keeps (TakesRequest k) v next m kept) m.is (ap (λ (x : View _). x.conns k) m.gives ∙ at_same k _ v.conns) refl refl e))) (ap (λ (x : View _). x.epoch) m.gives) (ap (λ (x : View _). x.free) m.gives) rising
move_rises (TakesCount k h) v next m kept rising = rises_by v next (rows_new v next m.row _ m.is_row (ap (λ (x : View _). x.row) m.gives) refl) (epochs_by v next (λ q s. acked_if (has (Some m.row.number) q) h s) (λ q. ap (λ (x : View _). x.sessions q) m.gives) (λ q s. refl)) (brought_at v next k _ (ap (λ (x : View _). x.here) m.gives) (λ n. ap (λ (x : View _). x.conns n) m.gives) (λ n e. (m.conn, m.is, brought_back v next k n m.conn _ kept (move_keeps (TakesCount k h) v next m kept) m.is (ap (λ (x : View _). x.conns k) m.gives ∙ at_same k _ v.conns) refl refl e))) (ap (λ (x : View _). x.epoch) m.gives) (ap (λ (x : View _). x.free) m.gives) rising
move_rises (TakesFoot k) v next m kept rising = rises_by v next (rows_same v next (ap (λ (x : View _). x.row) m.gives)) (epochs_same v next (λ q. ap (λ (x : View _). x.sessions q) m.gives)) (brought_at v next k _ (ap (λ (x : View _). x.here) m.gives) (λ n. ap (λ (x : View _). x.conns n) m.gives) (λ n e. (m.conn, m.is, brought_back v next k n m.conn _ kept (move_keeps (TakesFoot k) v next m kept) m.is (ap (λ (x : View _). x.conns k) m.gives ∙ at_same k _ v.conns) refl refl e))) (ap (λ (x : View _). x.epoch) m.gives) (ap (λ (x : View _). x.free) m.gives) rising
move_rises (Parks k) v next m kept rising = rises_by v next (rows_new v next m.row _ m.is_row (ap (λ (x : View _). x.row) m.gives) refl) (epochs_same v next (λ q. ap (λ (x : View _). x.sessions q) m.gives)) (brought_at v next k _ (ap (λ (x : View _). x.here) m.gives) (λ n. ap (λ (x : View _). x.conns n) m.gives) (λ n e. (m.conn, m.is, brought_back v next k n m.conn _ kept (move_keeps (Parks k) v next m kept) m.is (ap (λ (x : View _). x.conns k) m.gives ∙ at_same k _ v.conns) refl refl e))) (ap (λ (x : View _). x.epoch) m.gives) (ap (λ (x : View _). x.free) m.gives) rising
move_rises (Hears k) v next m kept rising = rises_by v next (rows_same v next (ap (λ (x : View _). x.row) m.gives)) (epochs_same v next (λ q. ap (λ (x : View _). x.sessions q) m.gives)) (brought_at v next k _ (ap (λ (x : View _). x.here) m.gives) (λ n. ap (λ (x : View _). x.conns n) m.gives) (λ n e. (m.conn, m.is, brought_back v next k n m.conn _ kept (move_keeps (Hears k) v next m kept) m.is (ap (λ (x : View _). x.conns k) m.gives ∙ at_same k _ v.conns) refl refl e))) (ap (λ (x : View _). x.epoch) m.gives) (ap (λ (x : View _). x.free) m.gives) rising
move_rises (HearsEarly k) v next m kept rising = rises_by v next (rows_none v next (ap (λ (x : View _). x.row) m.gives)) (epochs_same v next (λ q. ap (λ (x : View _). x.sessions q) m.gives)) (brought_at v next k _ (ap (λ (x : View _). x.here) m.gives) (λ n. ap (λ (x : View _). x.conns n) m.gives) (λ n e. (m.conn, m.is, brought_back v next k n m.conn _ kept (move_keeps (HearsEarly k) v next m kept) m.is (ap (λ (x : View _). x.conns k) m.gives ∙ at_same k _ v.conns) refl refl e))) (ap (λ (x : View _). x.epoch) m.gives) (ap (λ (x : View _). x.free) m.gives) rising
move_rises (Detaches k ending) v next m kept rising = rises_by v next (rows_new v next m.row _ m.is_row (ap (λ (x : View _). x.row) m.gives) refl) (epochs_by v next (λ q s. lost_if (has (Some m.row.number) q) (s.counted && (has v.here k && has (carries m.conn) q)) s) (λ q. ap (λ (x : View _). x.sessions q) m.gives) (λ q s. refl)) (brought_at v next k _ (ap (λ (x : View _). x.here) m.gives) (λ n. ap (λ (x : View _). x.conns n) m.gives) (λ n e. (m.conn, m.is, brought_back v next k n m.conn _ kept (move_keeps (Detaches k ending) v next m kept) m.is (ap (λ (x : View _). x.conns k) m.gives ∙ at_same k _ v.conns) refl refl e))) (ap (λ (x : View _). x.epoch) m.gives) (ap (λ (x : View _). x.free) m.gives) rising
move_rises (Shuts k ending) v next m kept rising = rises_by v next (rows_none v next (ap (λ (x : View _). x.row) m.gives)) (epochs_same v next (λ q. ap (λ (x : View _). x.sessions q) m.gives)) (brought_at v next k _ (ap (λ (x : View _). x.here) m.gives) (λ n. ap (λ (x : View _). x.conns n) m.gives) (λ n e. (m.conn, m.is, brought_back v next k n m.conn _ kept (move_keeps (Shuts k ending) v next m kept) m.is (ap (λ (x : View _). x.conns k) m.gives ∙ at_same k _ v.conns) refl refl e))) (ap (λ (x : View _). x.epoch) m.gives) (ap (λ (x : View _). x.free) m.gives) rising
move_rises EndsRow v next m kept rising = rises_by v next (rows_none v next (ap (λ (x : View _). x.row) m.gives)) (epochs_same v next (λ q. ap (λ (x : View _). x.sessions q) m.gives)) (brought_same v next (ap (λ (x : View _). x.here) m.gives) (λ n. ap (λ (x : View _). x.conns n) m.gives)) (ap (λ (x : View _). x.epoch) m.gives) (ap (λ (x : View _). x.free) m.gives) rising
move_rises (Serves k z) v next m kept rising = rises_by v next (rows_new v next m.row _ m.is_row (ap (λ (x : View _). x.row) m.gives) refl) (epochs_by v next (λ q s. serving (has (Some m.row.number) q) z s) (λ q. ap (λ (x : View _). x.sessions q) m.gives) (λ q s. refl)) (brought_at v next k _ (ap (λ (x : View _). x.here) m.gives) (λ n. ap (λ (x : View _). x.conns n) m.gives) (λ n e. (m.conn, m.is, brought_back v next k n m.conn _ kept (move_keeps (Serves k z) v next m kept) m.is (ap (λ (x : View _). x.conns k) m.gives ∙ at_same k _ v.conns) refl refl e))) (ap (λ (x : View _). x.epoch) m.gives) (ap (λ (x : View _). x.free) m.gives) rising
move_rises (Keeps z) v next m kept rising = rises_by v next (rows_new v next m.row _ m.is_row (ap (λ (x : View _). x.row) m.gives) refl) (epochs_by v next (λ q s. serving (has (Some m.row.number) q) z s) (λ q. ap (λ (x : View _). x.sessions q) m.gives) (λ q s. refl)) (brought_same v next (ap (λ (x : View _). x.here) m.gives) (λ n. ap (λ (x : View _). x.conns n) m.gives)) (ap (λ (x : View _). x.epoch) m.gives) (ap (λ (x : View _). x.free) m.gives) rising
move_rises (Demands k) v next m kept rising = rises_by v next (rows_same v next (ap (λ (x : View _). x.row) m.gives)) (epochs_same v next (λ q. ap (λ (x : View _). x.sessions q) m.gives)) (brought_at v next k _ (ap (λ (x : View _). x.here) m.gives) (λ n. ap (λ (x : View _). x.conns n) m.gives) (λ n e. (m.conn, m.is, brought_back v next k n m.conn _ kept (move_keeps (Demands k) v next m kept) m.is (ap (λ (x : View _). x.conns k) m.gives ∙ at_same k _ v.conns) refl refl e))) (ap (λ (x : View _). x.epoch) m.gives) (ap (λ (x : View _). x.free) m.gives) rising
move_rises (ReadsHand k) v next m kept rising = read_hand_rises k v next m kept rising
move_rises (ReadsBound k number) v next m kept rising = read_bound_rises k number v next m kept rising
move_rises (TakesHand k) v next m kept rising = taken_hand_rises k v next m kept rising
move_rises (TakesBind k number) v next m kept rising = bound_rises k number v next m kept rising

pub beginning_rises : {A : Type 0} → IsRising {A = A} nothing_yet
beginning_rises = record { given = λ q s is. no_entry s is; newest = λ r is q s found. no_entry r is; above = λ k m c here is e q n s found named. no_entry c is; present = λ r is s e found named. no_entry r is }

rises_along : {A : Type 0} (moves : List (LinkMove A)) (v last : View A) → LinkKept v → IsRising v → LinkReaches moves v last → IsRising last
rises_along [] v last kept rising same = subst IsRising (sym same) rising
rises_along (move ∷ moves) v last kept rising (next, by, along) = rises_along moves next last (move_keeps move v next by kept) (move_rises move v next by kept rising) along

pub reached_rises : {A : Type 0} (v : View A) → LinkReached v → IsRising v
reached_rises v reached = rises_along reached.moves nothing_yet v beginning_keeps beginning_rises reached.reaches
