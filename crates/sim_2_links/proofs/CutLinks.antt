-- A cut keeps what a device keeps.
use Rattle.std.proofs.Common.{◌≡◌, ◌≢◌, ℕ, zero, suc, Bool, true, false, ◌&&◌, List, [], ◌∷◌, length, take, refl, sym, ap, ◌∙◌, subst, ◌⊎◌, inl, inr, Option, None, Some}
use Rattle.std.proofs.lemmas.Bool.{cases_eq}
use Rattle.std.specs.List.{Contains}
use Rattle.sm_acks.specs.Delivery.{Direction}
use Rattle.sim_2_links.proofs.Entries.{at_same, at_other, Entry, New, Old, entry, was, altered, is_has, has_not}
use Rattle.sim_2_links.proofs.Cuts.{reached_cut_if, up_front, down_front}
use Rattle.sim_2_links.proofs.Tables.{cut_whole_up, cut_whole_down, cut_stops, cut_up_words, cut_down_words}
use Rattle.sim_2_links.specs.Words.{St, Req, Ack, up_stanzas, down_stanzas, UpWord, Hdr, Auth, Resp, ResumeAt, Bind, Enable, Up, Foot, DownWord, Head, Feat, Chal, Succ, Failed, Resumed, Bound, Enabled, Down, Err, End}
use Rattle.sim_2_links.specs.Wires.{Wires, up_words, down_words, up_whole, down_whole, cut}
use Rattle.sim_2_links.specs.Stages.{Stage, Greets, Greeted, Offered, Proves, Challenged, Answers, Succeeded, Regreets, Regreeted, Reoffered, AsksResume, Refused, Resumes, AsksBind, Binds, AsksEnable, Enables, Runs, Conn, IsAt}
use Rattle.sim_2_links.specs.Views.{Table, with_at, alter, has, Session, Row, Own, View, session_on, carried_by, carries, cut_if}
use Rattle.sim_2_links.specs.LinkMoves.{two_cut, ways_cut, IsCut}
use Rattle.sim_2_links.specs.Links.{UpCounts, DownCounts, ArePiped, IsAsked, FitsOwn, ConnKept, GoesUp, GoesDown, IsIdle, IsPlaced, RowKept, OwnKept, SessionKept, IsCarried, IsBare, LinkKept}

pub take_none : {W : Type 0} (i : ℕ) (ws : List W) → ws ≡ [] → take i ws ≡ []
take_none i ws e = subst (λ x. take i x ≡ []) (sym e) (nothing i)
  where
    nothing : {V : Type 0} (i : ℕ) → take {A = V} i [] ≡ []
    nothing zero = refl
    nothing (suc i) = refl

pub not_true : {b : Bool} → b ≡ false → b ≡ true → ⊥
not_true f t = let no_way : ⊥ = cc in no_way

pub some_one : {B : Type 0} (o : Option B) (a b : B) → o ≡ Some a → o ≡ Some b → a ≡ b
some_one o a b e f = cc

-- the row is on no connection, or on one alone
pub some_same : {B : Type 0} (a b : B) → Some a ≡ Some b → a ≡ b
some_same a b e = cc

pub off_row : {A C : Type 0} (k : ℕ) (new r : Row A) → Some new ≡ Some r → new.on ≡ None → r.on ≡ Some k → C
off_row {A = A} k new r same off on =
    let one : r.on ≡ None = subst (λ (x : Row A). x.on ≡ None) (some_same new r same) off in
    absurd (let no_way : ⊥ = cc in no_way)

pub on_other : {A C : Type 0} (k n : ℕ) (new r : Row A) → Some new ≡ Some r → new.on ≡ Some k → k ≢ n → r.on ≡ Some n → C
on_other {A = A} k n new r same on ne also =
    let one : r.on ≡ Some k = subst (λ (x : Row A). x.on ≡ Some k) (some_same new r same) on in
    absurd (ne (some_same k n (sym one ∙ also)))

-- the row of the table stays, since the pipes with what was lost stay
pub rewired : {A : Type 0} (s : Stage A) (c : Conn A) (x : Wires A) → IsAt s c → up_whole x ≡ up_whole c.wires → down_whole x ≡ down_whole c.wires → IsAt s (record c { wires = x })
rewired s c x at up down = record { client = at.client; phase = at.phase; up = up ∙ at.up; down = down ∙ at.down }

piped_cut : {A : Type 0} (works : Bool) (c : Conn A) (i j : ℕ) → ArePiped works c → ArePiped works (record c { wires = cut i j c.wires })
piped_cut works c i j p = record {
  flowing = λ e. absurd (not_true (cut_stops i j c.wires) e);
  unfooted = p.unfooted;
  fair = p.fair;
  left = λ e. cut_down_words i j c.wires ∙ take_none j (down_words c.wires) (p.left e);
  ended = elim p.ended [ inl e ↦ inl e | inr e ↦ inr (cut_up_words i j c.wires ∙ take_none i (up_words c.wires) e) ];
  gone = λ e. cut_up_words i j c.wires ∙ take_none i (up_words c.wires) (p.gone e);
}

-- sessions whose ways alone changed
asked_cut : {A : Type 0} (works : Bool) (c : Conn A) (i j : ℕ) (sessions : Table (Session A)) (s : Stage A) → IsAsked sessions s → IsAsked (alter (ways_cut works c i j) sessions) s
asked_cut works c i j sessions (AsksResume p h) (s, is, read, stated) = (ways_cut works c i j p s, altered (ways_cut works c i j) sessions p s is, read, stated)
asked_cut works c i j sessions (AsksEnable m) (s, e, is, epoch) = (ways_cut works c i j m s, e, altered (ways_cut works c i j) sessions m s is, epoch)
asked_cut works c i j sessions _ a = tt

fits_cut : {A : Type 0} (own : Option (Own A)) (epoch : ℕ) (works : Bool) (c : Conn A) (i j : ℕ) (sessions : Table (Session A)) (s : Stage A) → FitsOwn own epoch sessions s → FitsOwn own epoch (alter (ways_cut works c i j) sessions) s
fits_cut own epoch works c i j sessions (AsksResume p h) a = a
fits_cut own epoch works c i j sessions (Refused p) a = a
fits_cut {A = A} own epoch works c i j sessions (Resumes p h downs) a = (a.0, λ t is. moved t (was (ways_cut works c i j) sessions p t is))
  where
    moved : (t : Session A) → (s : Session A) × (sessions p ≡ Some s) × (ways_cut works c i j p s ≡ t) → (h ≡ length t.up.got) × Contains t.up.stated h
    moved t w = subst (λ x. (h ≡ length x.up.got) × Contains x.up.stated h) w.2 (a.1 w.0 w.1)
fits_cut own epoch works c i j sessions AsksBind a = a
fits_cut own epoch works c i j sessions (Binds m) (none, b) = (none, (ways_cut works c i j m b.0, altered (ways_cut works c i j) sessions m b.0 b.1, b.2, b.3))
fits_cut own epoch works c i j sessions (AsksEnable m) (none, b) = (none, (ways_cut works c i j m b.0, altered (ways_cut works c i j) sessions m b.0 b.1, b.2))
fits_cut own epoch works c i j sessions (Enables m downs) (none, b) = (none, (ways_cut works c i j m b.0, altered (ways_cut works c i j) sessions m b.0 b.1, b.2, b.3, b.4))
fits_cut own epoch works c i j sessions (Runs p ups downs) a = a
fits_cut own epoch works c i j sessions Greets a = a
fits_cut own epoch works c i j sessions Greeted a = a
fits_cut own epoch works c i j sessions Offered a = a
fits_cut own epoch works c i j sessions Proves a = a
fits_cut own epoch works c i j sessions Challenged a = a
fits_cut own epoch works c i j sessions Answers a = a
fits_cut own epoch works c i j sessions Succeeded a = a
fits_cut own epoch works c i j sessions Regreets a = a
fits_cut own epoch works c i j sessions Regreeted a = a
fits_cut own epoch works c i j sessions Reoffered a = a

pub quiet_cut : {A : Type 0} (b : Bool) (n : ℕ) (d : Direction A) → IsIdle d → IsIdle (cut_if b n d)
quiet_cut false n d q = q
quiet_cut true n d q = record { way = take_none n d.way q.way; is_open = refl }

up_counts_front : {A : Type 0} (i low : ℕ) (stated : List ℕ) (ws : List (UpWord A)) → UpCounts low stated ws → UpCounts low stated (take i ws)
up_counts_front zero low stated ws u = tt
up_counts_front (suc i) low stated [] u = tt
up_counts_front (suc i) low stated (Up (Ack h) ∷ ws) u = (u.0, u.1, up_counts_front i h stated ws u.2)
up_counts_front (suc i) low stated (Up (St z) ∷ ws) u = up_counts_front i low stated ws u
up_counts_front (suc i) low stated (Up Req ∷ ws) u = up_counts_front i low stated ws u
up_counts_front (suc i) low stated (Hdr ∷ ws) u = up_counts_front i low stated ws u
up_counts_front (suc i) low stated (Auth ∷ ws) u = up_counts_front i low stated ws u
up_counts_front (suc i) low stated (Resp ∷ ws) u = up_counts_front i low stated ws u
up_counts_front (suc i) low stated (ResumeAt p h ∷ ws) u = up_counts_front i low stated ws u
up_counts_front (suc i) low stated (Bind ∷ ws) u = up_counts_front i low stated ws u
up_counts_front (suc i) low stated (Enable ∷ ws) u = up_counts_front i low stated ws u
up_counts_front (suc i) low stated (Foot ∷ ws) u = up_counts_front i low stated ws u

down_counts_front : {A : Type 0} (i low : ℕ) (stated : List ℕ) (ws : List (DownWord A)) → DownCounts low stated ws → DownCounts low stated (take i ws)
down_counts_front zero low stated ws u = tt
down_counts_front (suc i) low stated [] u = tt
down_counts_front (suc i) low stated (Down (Ack h) ∷ ws) u = (u.0, u.1, down_counts_front i h stated ws u.2)
down_counts_front (suc i) low stated (Down (St z) ∷ ws) u = down_counts_front i low stated ws u
down_counts_front (suc i) low stated (Down Req ∷ ws) u = down_counts_front i low stated ws u
down_counts_front (suc i) low stated (Head ∷ ws) u = down_counts_front i low stated ws u
down_counts_front (suc i) low stated (Feat ∷ ws) u = down_counts_front i low stated ws u
down_counts_front (suc i) low stated (Chal ∷ ws) u = down_counts_front i low stated ws u
down_counts_front (suc i) low stated (Succ ∷ ws) u = down_counts_front i low stated ws u
down_counts_front (suc i) low stated (Failed ∷ ws) u = down_counts_front i low stated ws u
down_counts_front (suc i) low stated (Resumed p h ∷ ws) u = (u.0, u.1, down_counts_front i h stated ws u.2)
down_counts_front (suc i) low stated (Bound m ∷ ws) u = down_counts_front i low stated ws u
down_counts_front (suc i) low stated (Enabled m ∷ ws) u = down_counts_front i low stated ws u
down_counts_front (suc i) low stated (Err c ∷ ws) u = down_counts_front i low stated ws u
down_counts_front (suc i) low stated (End ∷ ws) u = down_counts_front i low stated ws u

session_cut : {A : Type 0} (works : Bool) (c : Conn A) (i j q : ℕ) (s : Session A) → SessionKept s → SessionKept (ways_cut works c i j q s)
session_cut works c i j q s kept = record {
  up = reached_cut_if _ _ s.up kept.up;
  down = reached_cut_if _ _ s.down kept.down;
  begun = λ e. rw e (kept.begun e);
  read = kept.read;
  epoch = kept.epoch;
  unread = kept.unread;
  unheard = kept.unheard;
}

-- whether a number is that of this connection
pub here_or_not : {A : Type 0} (v : View A) (k n : ℕ) → k ≢ n → v.here ≡ Some n → has v.here k ≡ false
here_or_not v k n ne here = has_not v.here k (λ e. ne (some_one v.here k n e here))

-- the row's session goes up on the connection that is cut: a front of what was under way stays
goes_up_cut : {A : Type 0} (works : Bool) (c : Conn A) (i j q : ℕ) (s : Session A) → session_on c ≡ Some q → s.counted ≡ true → GoesUp c s →
    GoesUp (record c { wires = cut i j c.wires }) (ways_cut works c i j q s)
goes_up_cut works c i j q s on counted g = record {
  way =
      rw (counted, is_has (session_on c) q on)
      (ap (take (length (up_stanzas (take i (up_words c.wires))))) g.way ∙ up_front i (up_words c.wires) ∙ ap up_stanzas (sym (cut_up_words i j c.wires)));
  is_open = rw (counted, is_has (session_on c) q on, cut_stops i j c.wires) refl;
  counts = subst (λ ws. UpCounts s.down.acked s.down.stated ws) (sym (cut_up_words i j c.wires)) (up_counts_front i s.down.acked s.down.stated (up_words c.wires) g.counts);
}

-- and on another connection all stays as it was
goes_up_other : {A : Type 0} (b : Bool) (n : ℕ) (b2 : Bool) (m : ℕ) (c : Conn A) (s : Session A) → b ≡ false → GoesUp c s → GoesUp c (two_cut b n b2 m s)
goes_up_other {A = A} b n b2 m c s e g = subst (λ x. GoesUp c (two_cut x n b2 m s)) (sym e) (record { way = g.way; is_open = g.is_open; counts = g.counts })

goes_down_other : {A : Type 0} (b : Bool) (n : ℕ) (b2 : Bool) (m : ℕ) (c : Conn A) (s : Session A) → b2 ≡ false → GoesDown c s → GoesDown c (two_cut b n b2 m s)
goes_down_other {A = A} b n b2 m c s e g =
    subst (λ x. GoesDown c (two_cut b n x m s)) (sym e) (record { counted = g.counted; way = g.way; is_open = g.is_open; counts = g.counts })

goes_down_cut : {A : Type 0} (c : Conn A) (i j q : ℕ) (s : Session A) → carries c ≡ Some q → GoesDown c s →
    GoesDown (record c { wires = cut i j c.wires }) (ways_cut true c i j q s)
goes_down_cut c i j q s on g = record {
  counted = g.counted;
  way =
      rw (g.counted, is_has (carries c) q on)
      (ap (take (length (down_stanzas (take j (down_words c.wires))))) g.way ∙ down_front j (down_words c.wires) ∙ ap down_stanzas (sym (cut_down_words i j c.wires)));
  is_open = rw (g.counted, is_has (carries c) q on, cut_stops i j c.wires) refl;
  counts = subst (λ ws. DownCounts s.up.acked s.up.stated ws) (sym (cut_down_words i j c.wires)) (down_counts_front j s.up.acked s.up.stated (down_words c.wires) g.counts);
}

abbrev pub cut_conn : {A : Type 0} → ℕ → ℕ → Conn A → Conn A
cut_conn i j c = record c { wires = cut i j c.wires }

placed_cut : {A : Type 0} (v : View A) (kept : LinkKept v) (k i j : ℕ) (c : Conn A) → v.conns k ≡ Some c → (r : Row A) → v.row ≡ Some r → (s : Session A) →
    r.counted ≡ s.counted → (o : Option ℕ) → r.on ≡ o → IsPlaced v.conns r s o →
    IsPlaced (with_at k (cut_conn i j c) v.conns) r (ways_cut (has v.here k) c i j r.number s) o
placed_cut v kept k i j c is r row s counted None on (yes_counted, quiet) = (yes_counted, quiet_cut _ _ s.up quiet)
placed_cut {A = A} v kept k i j c is r row s counted (Some n) on (d, at, holds, goes) = by (cases_eq k n)
  where
    works : Bool
    works = has v.here k

    by : (k ≡ n) ⊎ (k ≡ n → ⊥) → IsPlaced (with_at k (cut_conn i j c) v.conns) r (ways_cut (has v.here k) c i j r.number s) (Some n)
    by (inl same) =
        let one : d ≡ c = cc in
        let held : session_on c ≡ Some r.number = subst (λ x. session_on x ≡ Some r.number) one holds in
        let up : s.counted ≡ true → GoesUp c s = λ e. subst (λ x. GoesUp x s) one (goes e) in (
          cut_conn i j c,
          subst (λ x. with_at k (cut_conn i j c) v.conns x ≡ Some (cut_conn i j c)) same (at_same k (cut_conn i j c) v.conns),
          held,
          λ e. goes_up_cut (has v.here k) c i j r.number s held e (up e),
        )
    by (inr ne) =
        let apart : session_on c ≢ Some r.number =
        λ e.
        let a : (q : Row A) × (v.row ≡ Some q) × (q.number ≡ r.number) × (q.on ≡ Some k) = (kept.conns k c is).attached r.number e in
        let same_row : a.0 ≡ r = some_one v.row a.0 r a.1 row in
        let both : r.on ≡ Some k = subst (λ x. x.on ≡ Some k) same_row a.3 in
        ne (let out : k ≡ n = cc in out)
        in
        (d, at_other k (cut_conn i j c) v.conns n ne ∙ at, holds, λ e. goes_up_other (s.counted && has (session_on c) r.number) _ _ _ d s (rw (e, has_not (session_on c) r.number apart) refl) (goes e))

row_cut : {A : Type 0} (v : View A) (kept : LinkKept v) (k i j : ℕ) (c : Conn A) → v.conns k ≡ Some c → (r : Row A) → v.row ≡ Some r →
    RowKept (with_at k (cut_conn i j c) v.conns) (alter (ways_cut (has v.here k) c i j) v.sessions) r
row_cut v kept k i j c is r row =
    let was_kept = kept.row r row in
    record {
      session = ways_cut (has v.here k) c i j r.number was_kept.session;
      is = altered (ways_cut (has v.here k) c i j) v.sessions r.number was_kept.session was_kept.is;
      counted = was_kept.counted;
      handled = was_kept.handled;
      acked = was_kept.acked;
      queue = was_kept.queue;
      placed = placed_cut v kept k i j c is r row was_kept.session was_kept.counted r.on refl was_kept.placed;
    }

own_cut : {A : Type 0} (epoch : ℕ) (sessions : Table (Session A)) (works : Bool) (c : Conn A) (i j : ℕ) (o : Own A) → OwnKept epoch sessions o → OwnKept epoch (alter (ways_cut works c i j) sessions) o
own_cut epoch sessions works c i j o k = record {
  session = ways_cut works c i j o.number k.session;
  is = altered (ways_cut works c i j) sessions o.number k.session k.is;
  read = k.read;
  of_epoch = k.of_epoch;
  handled = k.handled;
  acked = k.acked;
  queue = k.queue;
}

abbrev pub after_cut : {A : Type 0} → View A → ℕ → ℕ → ℕ → Conn A → View A
after_cut v k i j c = record v { conns = with_at k (cut_conn i j c) v.conns; sessions = alter (ways_cut (has v.here k) c i j) v.sessions }

conn_cut : {A : Type 0} (v : View A) (kept : LinkKept v) (k i j : ℕ) (c : Conn A) → v.conns k ≡ Some c → (n : ℕ) (d : Conn A) → with_at k (cut_conn i j c) v.conns n ≡ Some d → ConnKept (after_cut v k i j c) n d
conn_cut {A = A} v kept k i j c is n d at = by (entry k (cut_conn i j c) v.conns n d at)
  where
    by : Entry k (cut_conn i j c) v.conns n d → ConnKept (after_cut v k i j c) n d
    by (New same this) =
        let old : ConnKept v k c = kept.conns k c is in
        let here : ConnKept (after_cut v k i j c) k (cut_conn i j c) = record {
          piped = piped_cut (has v.here k) c i j old.piped;
          stage = old.stage;
          at = rewired old.stage c (cut i j c.wires) old.at (cut_whole_up i j c.wires) (cut_whole_down i j c.wires);
          asked = asked_cut (has v.here k) c i j v.sessions old.stage old.asked;
          fits = λ e. fits_cut v.own v.epoch (has v.here k) c i j v.sessions old.stage (old.fits e);
          attached = old.attached;
          uncounted = old.uncounted;
          counting = old.counting;
        } in
        subst (λ x. ConnKept (after_cut v k i j c) x d) same (subst (λ x. ConnKept (after_cut v k i j c) k x) this here)
    by (Old ne there) =
        let old : ConnKept v n d = kept.conns n d there in
        record {
          piped = old.piped;
          stage = old.stage;
          at = old.at;
          asked = asked_cut (has v.here k) c i j v.sessions old.stage old.asked;
          fits = λ e. fits_cut v.own v.epoch (has v.here k) c i j v.sessions old.stage (old.fits e);
          attached = old.attached;
          uncounted = old.uncounted;
          counting = old.counting;
        }

goes_down_after : {A : Type 0} (v : View A) (kept : LinkKept v) (k i j : ℕ) (c : Conn A) → v.conns k ≡ Some c →
    (n : ℕ) (d : Conn A) (p : ℕ) → v.here ≡ Some n → with_at k (cut_conn i j c) v.conns n ≡ Some d → carries d ≡ Some p →
    (s : Session A) × (alter (ways_cut (has v.here k) c i j) v.sessions p ≡ Some s) × GoesDown d s
goes_down_after {A = A} v kept k i j c is n d p here at carried = by (entry k (cut_conn i j c) v.conns n d at)
  where
    by : Entry k (cut_conn i j c) v.conns n d → (s : Session A) × (alter (ways_cut (has v.here k) c i j) v.sessions p ≡ Some s) × GoesDown d s
    by (New same this) =
        let held : carries c ≡ Some p = ap (carried_by c.client) (sym (cut_whole_down i j c.wires)) ∙ subst (λ x. carries x ≡ Some p) (sym this) carried in
        let works : has v.here k ≡ true = is_has v.here k (here ∙ ap Some (sym same)) in
        let old = kept.goes_down k c p (here ∙ ap Some (sym same)) is held in (
          ways_cut (has v.here k) c i j p old.0,
          altered (ways_cut (has v.here k) c i j) v.sessions p old.0 old.1,
          subst (λ x. GoesDown x (ways_cut (has v.here k) c i j p old.0)) this (rw works (goes_down_cut c i j p old.0 held old.2)),
        )
    by (Old ne there) =
        let works : has v.here k ≡ false = here_or_not v k n ne here in
        let old = kept.goes_down n d p here there carried in (
          ways_cut (has v.here k) c i j p old.0,
          altered (ways_cut (has v.here k) c i j) v.sessions p old.0 old.1,
          goes_down_other _ _ (old.0.counted && (has v.here k && has (carries c) p)) _ d old.0 (rw (old.2.counted, works) refl) old.2,
        )

pub quiet_up_after : {A : Type 0} (v : View A) (kept : LinkKept v) (f : ℕ → Session A → Session A) → ((p : ℕ) (s : Session A) → s.counted ≡ (f p s).counted) → ((p : ℕ) (s : Session A) → IsIdle s.up → IsIdle (f p s).up) →
    (p : ℕ) (s : Session A) → alter f v.sessions p ≡ Some s → s.counted ≡ true → IsIdle s.up ⊎ ((r : Row A) × (v.row ≡ Some r) × (r.number ≡ p))
quiet_up_after v kept f same quiet p s is counted =
    let w = was f v.sessions p s is in
    let before : w.0.counted ≡ true = same p w.0 ∙ ap (λ x. x.counted) w.2 ∙ counted in
    elim (kept.idle_up p w.0 w.1 before) [ inl q ↦ inl (subst (λ x. IsIdle x.up) w.2 (quiet p w.0 q)) | inr row ↦ inr row ]

carried_cut : {A : Type 0} (v : View A) (k i j : ℕ) (c : Conn A) → v.conns k ≡ Some c → (p : ℕ) → IsCarried v p → IsCarried (after_cut v k i j c) p
carried_cut {A = A} v k i j c is p (n, d, here, at, carried) = by (cases_eq k n)
  where
    by : (k ≡ n) ⊎ (k ≡ n → ⊥) → IsCarried (after_cut v k i j c) p
    by (inl same) =
        let one : d ≡ c = cc in (
          n,
          cut_conn i j c,
          here,
          subst (λ x. with_at k (cut_conn i j c) v.conns x ≡ Some (cut_conn i j c)) same (at_same k (cut_conn i j c) v.conns),
          ap (carried_by c.client) (cut_whole_down i j c.wires) ∙ subst (λ x. carries x ≡ Some p) one carried,
        )
    by (inr ne) = (n, d, here, at_other k (cut_conn i j c) v.conns n ne ∙ at, carried)

pub there_cut : {A : Type 0} (v : View A) (kept : LinkKept v) (k : ℕ) (c : Conn A) (n : ℕ) → v.here ≡ Some n → (d : Conn A) × (with_at k c v.conns n ≡ Some d)
there_cut {A = A} v kept k c n here = by (cases_eq k n)
  where
    by : (k ≡ n) ⊎ (k ≡ n → ⊥) → (d : Conn A) × (with_at k c v.conns n ≡ Some d)
    by (inl same) = (c, subst (λ x. with_at k c v.conns x ≡ Some c) same (at_same k c v.conns))
    by (inr ne) = let old = kept.there n here in (old.0, at_other k c v.conns n ne ∙ old.1)

carried_uncut : {A : Type 0} (v : View A) (k i j : ℕ) (c : Conn A) → v.conns k ≡ Some c → (p : ℕ) → IsCarried (after_cut v k i j c) p → IsCarried v p
carried_uncut {A = A} v k i j c is p (n, d, here, at, carried) = by (entry k (cut_conn i j c) v.conns n d at)
  where
    by : Entry k (cut_conn i j c) v.conns n d → IsCarried v p
    by (New same this) = (k, c, here ∙ ap Some (sym same), is, ap (carried_by c.client) (sym (cut_whole_down i j c.wires)) ∙ subst (λ x. carries x ≡ Some p) (sym this) carried)
    by (Old ne there) = (n, d, here, there, carried)

bare_front : {A : Type 0} (i : ℕ) (ws : List (UpWord A)) → IsBare ws → IsBare (take i ws)
bare_front i ws (inl e) = inl (take_none i ws e)
bare_front zero ws (inr e) = inl refl
bare_front {A = A} (suc i) ws (inr e) = inr (subst (λ x. take (suc i) x ≡ Foot ∷ []) (sym e) (ap (λ l. Foot ∷ l) (take_none {W = UpWord A} i [] refl)))

late_cut : {A : Type 0} (v : View A) (kept : LinkKept v) (k i j : ℕ) (c : Conn A) → v.conns k ≡ Some c → (n : ℕ) (d : Conn A) (p : ℕ) →
    with_at k (cut_conn i j c) v.conns n ≡ Some d → has v.here n ≡ false → session_on d ≡ Some p → IsCarried v p → IsBare (up_words d.wires)
late_cut {A = A} v kept k i j c is n d p at away on carried = by (entry k (cut_conn i j c) v.conns n d at)
  where
    by : Entry k (cut_conn i j c) v.conns n d → IsBare (up_words d.wires)
    by (New same this) =
        let was_away : has v.here k ≡ false = subst (λ x. has v.here x ≡ false) (sym same) away in
        let held : session_on c ≡ Some p = subst (λ x. session_on x ≡ Some p) (sym this) on in
        let bare = kept.late k c p is was_away held carried in
        subst (λ x. IsBare (up_words x.wires)) this (subst IsBare (sym (cut_up_words i j c.wires)) (bare_front i (up_words c.wires) bare))
    by (Old ne there) = kept.late n d p there away on carried

pub cut_keeps : {A : Type 0} (k i j : ℕ) (v next : View A) → IsCut k i j v next → LinkKept v → LinkKept next
cut_keeps {A = A} k i j v next m kept = subst LinkKept (sym m.gives) (record {
  there = λ n here. there_cut v kept k (cut_conn i j m.conn) n here;
  conns = λ n d at. conn_cut v kept k i j m.conn m.is n d at;
  row = λ r row. row_cut v kept k i j m.conn m.is r row;
  own = λ o own. own_cut v.epoch v.sessions (has v.here k) m.conn i j o (kept.own o own);
  sessions = λ p s is. let w = was (ways_cut (has v.here k) m.conn i j) v.sessions p s is in subst SessionKept w.2 (session_cut (has v.here k) m.conn i j p w.0 (kept.sessions p w.0 w.1));
  goes_down = λ n d p here at carried. goes_down_after v kept k i j m.conn m.is n d p here at carried;
  idle_up = quiet_up_after v kept (ways_cut (has v.here k) m.conn i j) (λ p s. refl) (λ p s q. quiet_cut _ _ s.up q);
  idle_down = λ p s is counted.
      let w = was (ways_cut (has v.here k) m.conn i j) v.sessions p s is in
      let before : w.0.counted ≡ true = ap (λ x. x.counted) w.2 ∙ counted in
      elim (kept.idle_down p w.0 w.1 before) [ inl q ↦ inl (subst (λ x. IsIdle x.down) w.2 (quiet_cut _ _ w.0.down q)) | inr c ↦ inr (carried_cut v k i j m.conn m.is p c) ];
  late = λ n d p at away on carried. late_cut v kept k i j m.conn m.is n d p at away on (carried_uncut v k i j m.conn m.is p carried);
})
