-- The client reads that its session was resumed.
use Rattle.std.proofs.Common.{◌≡◌, ◌≢◌, ℕ, ◌+◌, ◌-◌, ◌≤◌, Bool, true, false, cond, ◌&&◌, if◌then◌else◌, List, [], ◌∷◌, ◌++◌, length, drop, map, refl, sym, ap, ◌∙◌, subst, arith, ◌⊎◌, inl, inr, Option, None, Some, nat_eq}
use Rattle.std.proofs.lemmas.Bool.{cases_Bool, cases_eq}
use Rattle.std.specs.List.{Contains}
use Rattle.sm_acks.specs.Delivery.{Reached, Cut, Resume, queue_of}
use Rattle.sim_2_links.proofs.Entries.{same_number, other_number, at_same, at_other, Entry, New, Old, entry, was, altered, has_is, is_has}
use Rattle.sim_2_links.proofs.DeliveryRuns.{reached_more}
use Rattle.sim_2_links.proofs.Tables.{send_up_whole, send_up_whole_down, left_down_whole, left_down_whole_up}
use Rattle.std.proofs.lemmas.List.{drop-drop, append-nil, map-append}
use Rattle.sim_2_links.proofs.CutLinks.{not_true, some_one, here_or_not, there_cut}
use Rattle.sim_2_links.proofs.Hands.{no_entry, piped_down, flow_up, stopped_away}
use Rattle.sim_2_links.proofs.StepParts.{carried_before, OwnAfter, GoesDownAfter, StaysBare}
use Rattle.sim_2_links.specs.Words.{Traffic, St, Req, up_stanzas, down_stanzas, UpWord, Up, DownWord, Resumed, Down, InResume, InOnline, AtSession}
use Rattle.sim_2_links.specs.Wires.{Wires, Flow, Stop, is_flowing, up_words, down_words, up_whole, down_whole, send_up, left_down}
use Rattle.sim_2_links.specs.Stages.{Stage, Greets, Greeted, Offered, Proves, Challenged, Answers, Succeeded, Regreets, Regreeted, Reoffered, AsksResume, Refused, Resumes, AsksBind, Binds, AsksEnable, Enables, Runs, phase_of, up_of, down_of, Ending, Stands, Errs, Closes, tail_of, foot_of, Conn}
use Rattle.sim_2_links.specs.Views.{Table, with_at, alter, has, Session, Row, Own, View, on_phase, session_on, carried_by, carries, sends}
use Rattle.sim_2_links.specs.SessionMoves.{again, IsReadResumed}
use Rattle.sim_2_links.specs.Links.{carried_of, UpCounts, DownCounts, ArePiped, IsAsked, FitsOwn, ConnKept, GoesUp, GoesDown, IsIdle, IsPlaced, RowKept, OwnKept, SessionKept, IsCarried, IsBare, LinkKept}
use Rattle.std.proofs.Math.Bool.{and-true}

pub record Reads {A : Type 0} (s : Stage A) (p h : ℕ) (tail rest : List (DownWord A)) : Type 0 where
  pub downs : List (Traffic A)
  pub is : s ≡ Resumes p h downs
  pub left : map Down downs ++ tail ≡ rest

no_tail : {A C : Type 0} (end : Ending) (p h : ℕ) (rest : List (DownWord A)) → tail_of end ≡ Resumed p h ∷ rest → C
no_tail Stands p h rest e = absurd (let no_way : ⊥ = cc in no_way)
no_tail (Errs x) p h rest e = absurd (let no_way : ⊥ = cc in no_way)
no_tail Closes p h rest e = absurd (let no_way : ⊥ = cc in no_way)

pub reads : {A : Type 0} (s : Stage A) (end : Ending) (p h : ℕ) (rest : List (DownWord A)) → down_of s ++ tail_of end ≡ Resumed p h ∷ rest → Reads s p h (tail_of end) rest
reads (Resumes q i downs) end p h rest e =
    let one : q ≡ p = cc in
    let two : i ≡ h = cc in
    let left : map Down downs ++ tail_of end ≡ rest = cc in
    record { downs = downs; is = ap (λ x. Resumes x i downs) one ∙ ap (λ x. Resumes p x downs) two; left = left }
reads Greets end p h rest e = no_tail end p h rest e
reads Proves end p h rest e = no_tail end p h rest e
reads Answers end p h rest e = no_tail end p h rest e
reads Regreets end p h rest e = no_tail end p h rest e
reads (AsksResume q i) end p h rest e = no_tail end p h rest e
reads AsksBind end p h rest e = no_tail end p h rest e
reads (AsksEnable m) end p h rest e = no_tail end p h rest e
reads (Runs q ups []) end p h rest e = no_tail end p h rest e
reads (Runs q ups (t ∷ downs)) end p h rest e = absurd (let no_way : ⊥ = cc in no_way)
reads Greeted end p h rest e = absurd (let no_way : ⊥ = cc in no_way)
reads Offered end p h rest e = absurd (let no_way : ⊥ = cc in no_way)
reads Challenged end p h rest e = absurd (let no_way : ⊥ = cc in no_way)
reads Succeeded end p h rest e = absurd (let no_way : ⊥ = cc in no_way)
reads Regreeted end p h rest e = absurd (let no_way : ⊥ = cc in no_way)
reads Reoffered end p h rest e = absurd (let no_way : ⊥ = cc in no_way)
reads (Refused q) end p h rest e = absurd (let no_way : ⊥ = cc in no_way)
reads (Binds m) end p h rest e = absurd (let no_way : ⊥ = cc in no_way)
reads (Enables m downs) end p h rest e = absurd (let no_way : ⊥ = cc in no_way)

-- what is sent again
abbrev again_of : {A : Type 0} → List A → List (Traffic A)
again_of [] = []
again_of (z ∷ zs) = map St (z ∷ zs) ++ Req ∷ []

again_is : {A : Type 0} (zs : List A) → again zs ≡ map Up (again_of zs)
again_is [] = refl
again_is (z ∷ zs) = sym (map-append Up (map St (z ∷ zs)) (Req ∷ []))

sent : {A : Type 0} (zs : List A) → up_stanzas (map Up (map St zs) ++ Up Req ∷ []) ≡ zs
sent [] = refl
sent (z ∷ zs) = ap (λ l. z ∷ l) (sent zs)

again_stanzas : {A : Type 0} (zs : List A) → up_stanzas (again zs) ≡ zs
again_stanzas [] = refl
again_stanzas (z ∷ zs) = sent (z ∷ zs)

sent_counts : {A : Type 0} (low : ℕ) (stated : List ℕ) (zs : List A) → UpCounts low stated (map Up (map St zs) ++ Up Req ∷ [])
sent_counts low stated [] = tt
sent_counts low stated (z ∷ zs) = sent_counts low stated zs

again_counts : {A : Type 0} (low : ℕ) (stated : List ℕ) (zs : List A) → UpCounts low stated (again zs)
again_counts low stated [] = tt
again_counts low stated (z ∷ zs) = sent_counts low stated (z ∷ zs)

pub up_none : {A : Type 0} (x : Wires A) → up_whole x ≡ [] → up_words x ≡ []
up_none (Flow us ds) e = e
up_none (Stop [] ds lu ld) e = refl
up_none (Stop (u ∷ us) ds lu ld) e = absurd (let no_way : ⊥ = cc in no_way)

-- the words up behind it, on a way up that had nothing
up_after : {A : Type 0} (ws : List (UpWord A)) (rest : List (DownWord A)) (x : Wires A) → up_words x ≡ [] → up_words (send_up ws (left_down rest x)) ≡ cond (is_flowing x) ws []
up_after ws rest (Flow us ds) e = ap (λ l. l ++ ws) e
up_after ws rest (Stop us ds lu ld) e = e

down_words_up : {A : Type 0} (puts : List (UpWord A)) (rest : List (DownWord A)) (x : Wires A) → down_words (send_up puts (left_down rest x)) ≡ rest
down_words_up puts rest (Flow us ds) = refl
down_words_up puts rest (Stop us ds lu ld) = refl

-- the sending end of the way up hears how many were handled, where it is said
abbrev pub resent_if : {A : Type 0} → Bool → Bool → Session A → Session A
resent_if b flows s = record s {
  up = record s.up {
    acked = if b then length s.up.got else s.up.acked;
    way = if b then (if flows then drop (length s.up.got) s.up.put else []) else s.up.way;
    is_open = if b then flows else s.up.is_open;
  };
}

resent_kept : {A : Type 0} (b flows : Bool) (s : Session A) → (b ≡ true → s.counted ≡ true) → SessionKept s → SessionKept (resent_if b flows s)
resent_kept {A = A} false flows s counted kept = kept
resent_kept {A = A} true flows s counted kept = record {
  up = up flows;
  down = kept.down;
  begun = λ e. absurd (not_true e (counted refl));
  read = kept.read;
  epoch = kept.epoch;
  unread = kept.unread;
  unheard = kept.unheard;
}
  where
    is_opened : Reached (record s.up { acked = length s.up.got; way = drop (length s.up.got) s.up.put; is_open = true })
    is_opened = reached_more Resume s.up (record s.up { acked = length s.up.got; way = drop (length s.up.got) s.up.put; is_open = true }) kept.up refl

    up : (flows : Bool) → Reached (resent_if true flows s).up
    up true = is_opened
    up false = reached_more (Cut 0) (record s.up { acked = length s.up.got; way = drop (length s.up.got) s.up.put; is_open = true }) (record s.up { acked = length s.up.got; way = []; is_open = false }) is_opened refl

resent_other : {A : Type 0} (p : ℕ) (flows : Bool) (q : ℕ) (s : Session A) → p ≢ q → resent_if (has (Some p) q) flows s ≡ s
resent_other {A = A} p flows q s ne = none (nat_eq p q) (other_number p q ne)
  where
    none : (b : Bool) → b ≡ false → resent_if b flows s ≡ s
    none b e = subst (λ x. resent_if x flows s ≡ s) (sym e) refl

resent_asked : {A : Type 0} (p : ℕ) (flows : Bool) (sessions : Table (Session A)) (s : Stage A) → IsAsked sessions s → IsAsked (alter (λ q t. resent_if (has (Some p) q) flows t) sessions) s
resent_asked p flows sessions (AsksResume q h) (s, is, read, stated) = (resent_if (has (Some p) q) flows s, altered (λ q t. resent_if (has (Some p) q) flows t) sessions q s is, read, stated)
resent_asked p flows sessions (AsksEnable m) (s, e, is, epoch) = (resent_if (has (Some p) m) flows s, e, altered (λ q t. resent_if (has (Some p) q) flows t) sessions m s is, epoch)
resent_asked p flows sessions _ a = tt

pub phase_session : (p q : ℕ) (end : Ending) (gone : Bool) → on_phase (AtSession p) end gone ≡ Some q → p ≡ q
phase_session p q Stands false e = cc
phase_session p q Stands true e = absurd (let no_way : ⊥ = cc in no_way)
phase_session p q (Errs x) gone e = absurd (let no_way : ⊥ = cc in no_way)
phase_session p q Closes gone e = absurd (let no_way : ⊥ = cc in no_way)

pub bare_stanzas : {A : Type 0} (ws : List (UpWord A)) → IsBare ws → up_stanzas ws ≡ []
bare_stanzas ws (inl e) = ap up_stanzas e
bare_stanzas ws (inr e) = ap up_stanzas e

pub read_resumed_keeps : {A : Type 0} (k : ℕ) (v next : View A) → IsReadResumed k v next → LinkKept v → LinkKept next
read_resumed_keeps {A = A} k v next m kept = subst LinkKept (sym m.gives) (record {
  there = λ n here. there_cut v kept k this n here;
  conns = λ n d found. conn n d (entry k this v.conns n d found);
  row = λ r found. row r found;
  own = λ o e. subst (λ x. OwnKept v.epoch (alter f v.sessions) x) (let out : new ≡ o = cc in out) own_kept;
  sessions = λ q t found. let w = was f v.sessions q t found in subst SessionKept w.2 (resent_kept (has (Some p) q) (is_flowing m.conn.wires) w.0 (λ e. subst (λ (x : Session A). x.counted ≡ true) (mine q w.0 e w.1) g.2.counted) (kept.sessions q w.0 w.1));
  goes_down = λ n d q here found carried. down n d q here carried (entry k this v.conns n d found);
  idle_up = λ q t found yes_counted. idle_up q t (was f v.sessions q t found) yes_counted (cases_eq p q);
  idle_down = λ q t found yes_counted. idle_down q t (was f v.sessions q t found) yes_counted (cases_eq p q);
  late = λ n d q found away on carried. late n d q away on (back q carried) (entry k this v.conns n d found);
})
  where
    p : ℕ
    p = m.own.number

    queue : List A
    queue = drop (m.h - m.own.acked) m.own.queue

    this : Conn A
    this = record m.conn { client = InOnline m.own.number; wires = send_up (again (drop (m.h - m.own.acked) m.own.queue)) (left_down m.rest m.conn.wires) }

    new : Own A
    new = record m.own { acked = m.h; queue = drop (m.h - m.own.acked) m.own.queue }

    f : ℕ → Session A → Session A
    f = λ q s. resent_if (has (Some m.own.number) q) (is_flowing m.conn.wires) s

    old : ConnKept v k m.conn
    old = kept.conns k m.conn m.is

    works : has v.here k ≡ true
    works = is_has v.here k m.here

    r : Reads old.stage m.own.number m.h (tail_of m.conn.ending) (down_whole (left_down m.rest m.conn.wires))
    r = reads old.stage m.conn.ending m.own.number m.h (down_whole (left_down m.rest m.conn.wires)) (sym old.at.down ∙ left_down_whole (Resumed m.own.number m.h) m.rest m.conn.wires m.first)

    unfooted : m.conn.footed ≡ false
    unfooted = old.piped.unfooted works

    nothing_up : up_whole m.conn.wires ≡ []
    nothing_up = old.at.up ∙ ap (λ x. up_of x ++ foot_of m.conn.footed) r.is ∙ ap foot_of unfooted

    empty_up : up_words m.conn.wires ≡ []
    empty_up = up_none m.conn.wires nothing_up

    carries_old : carries m.conn ≡ Some m.own.number
    carries_old = ap (λ x. carried_by x (down_whole m.conn.wires)) m.client ∙ ap (carried_by (InResume m.own.number)) (left_down_whole (Resumed m.own.number m.h) m.rest m.conn.wires m.first)

    g : (s : Session A) × (v.sessions m.own.number ≡ Some s) × GoesDown m.conn s
    g = kept.goes_down k m.conn m.own.number m.here m.is carries_old

    own : OwnKept v.epoch v.sessions m.own
    own = kept.own m.own m.is_own

    own_is : own.session ≡ g.0
    own_is = some_one (v.sessions m.own.number) own.session g.0 own.is g.1

    present : m.h ≡ length g.0.up.got
    present = ((subst (λ x. FitsOwn v.own v.epoch v.sessions x) r.is (old.fits works)).1 g.0 g.1).0

    counts : (g.0.up.acked ≤ m.h) × Contains g.0.up.stated m.h × DownCounts m.h g.0.up.stated m.rest
    counts = subst (λ ws. DownCounts g.0.up.acked g.0.up.stated ws) m.first g.2.counts

    acked : m.own.acked ≡ g.0.up.acked
    acked = own.acked ∙ ap (λ (x : Session A). x.up.acked) own_is

    all : drop (m.h - m.own.acked) m.own.queue ≡ drop m.h g.0.up.put
    all =
        let low = counts.0 in
        let a = acked in
        let sum : g.0.up.acked + (m.h - m.own.acked) ≡ m.h = omega arith in
        ap (drop (m.h - m.own.acked)) (own.queue ∙ ap (λ (x : Session A). queue_of x.up) own_is) ∙ drop-drop (m.h - m.own.acked) g.0.up.acked g.0.up.put ∙ ap (λ (n : ℕ). drop n g.0.up.put) sum

    mine : (q : ℕ) (t : Session A) → has (Some m.own.number) q ≡ true → v.sessions q ≡ Some t → g.0 ≡ t
    mine q t e found = let same : Some m.own.number ≡ Some q = has_is (Some m.own.number) q e in let n : m.own.number ≡ q = cc in some_one (v.sessions q) g.0 t (subst (λ x. v.sessions x ≡ Some g.0) n g.1) found

    own_kept : OwnAfter v f new
    own_kept = record {
      session = f m.own.number g.0;
      is = altered f v.sessions m.own.number g.0 g.1;
      read = subst (λ (x : Session A). x.read ≡ true) own_is own.read;
      of_epoch = subst (λ (x : Session A). x.epoch ≡ Some v.epoch) own_is own.of_epoch;
      handled = subst (λ (x : Session A). m.own.handled ≡ length x.down.got) own_is own.handled;
      acked = rw same_number present;
      queue = rw (same_number, ← present) all;
    }

    -- where the connection flows, the server has the session on it
    attached : is_flowing m.conn.wires ≡ true → (x : Row A) × (v.row ≡ Some x) × (x.number ≡ m.own.number) × (x.on ≡ Some k)
    attached flows =
        let fl = old.piped.flowing flows in
        old.attached m.own.number (ap (λ x. on_phase x m.conn.ending m.conn.gone) (old.at.phase ∙ ap phase_of r.is) ∙ ap (λ x. on_phase (AtSession m.own.number) x m.conn.gone) fl.1 ∙ ap (on_phase (AtSession m.own.number) Stands) fl.2)

    conn : (n : ℕ) (d : Conn A) → Entry k this v.conns n d → ConnKept (record v { conns = with_at k this v.conns; own = Some new; sessions = alter f v.sessions }) n d
    conn n d (New same is) =
        let here : ConnKept (record v { conns = with_at k this v.conns; own = Some new; sessions = alter f v.sessions }) k this = record {
          piped = subst (λ b. ArePiped b this) (sym works) (piped_down m.conn m.rest (InOnline m.own.number) (again (drop (m.h - m.own.acked) m.own.queue)) (subst (λ b. ArePiped b m.conn) works old.piped));
          stage = Runs m.own.number (again_of queue) r.downs;
          at = record {
            client = refl;
            phase = old.at.phase ∙ ap phase_of r.is;
            up = send_up_whole (again queue) (left_down m.rest m.conn.wires) ∙ ap (λ l. l ++ again queue) (left_down_whole_up m.rest m.conn.wires ∙ nothing_up) ∙ again_is queue ∙ sym (append-nil (map Up (again_of queue))) ∙ ap (λ x. map Up (again_of queue) ++ foot_of x) (sym unfooted);
            down = send_up_whole_down (again queue) (left_down m.rest m.conn.wires) ∙ sym r.left;
          };
          asked = tt;
          fits = λ e. (new, refl, refl);
          attached = old.attached;
          uncounted = λ r f on e. absurd (not_true refl e);
          counting = λ x f on p e. old.counting x f on p (ap carried_of r.is ∙ e);
        } in
        subst (λ x. ConnKept (record v { conns = with_at k this v.conns; own = Some new; sessions = alter f v.sessions }) x d) same (subst (λ x. ConnKept (record v { conns = with_at k this v.conns; own = Some new; sessions = alter f v.sessions }) k x) is here)
    conn n d (Old ne there) =
        let before = kept.conns n d there in
        record {
          piped = before.piped;
          stage = before.stage;
          at = before.at;
          asked = resent_asked m.own.number (is_flowing m.conn.wires) v.sessions before.stage before.asked;
          fits = λ e. absurd (ne (let h : v.here ≡ Some n = has_is v.here n e in let here = m.here in let same : k ≡ n = cc in same));
          attached = before.attached;
          uncounted = before.uncounted;
          counting = before.counting;
        }

    goes_up : GoesUp this (f m.own.number g.0)
    goes_up = record {
      way = rw same_number (by m.conn.wires empty_up);
      is_open = rw same_number (sym (and-true (is_flowing m.conn.wires)) ∙ ap (λ x. x && true) (sym (flow_up (again queue) m.rest m.conn.wires)));
      counts = some_counts m.conn.wires empty_up;
    }
      where
        by : (x : Wires A) → up_words x ≡ [] → cond (is_flowing x) (drop (length g.0.up.got) g.0.up.put) [] ≡ up_stanzas (up_words (send_up (again (drop (m.h - m.own.acked) m.own.queue)) (left_down m.rest x)))
        by (Flow us ds) e = ap (λ (n : ℕ). drop n g.0.up.put) (sym present) ∙ sym all ∙ sym (again_stanzas queue) ∙ ap (λ l. up_stanzas (l ++ again queue)) (sym e)
        by (Stop us ds lu ld) e = ap up_stanzas (sym e)

        some_counts : (x : Wires A) → up_words x ≡ [] → UpCounts g.0.down.acked g.0.down.stated (up_words (send_up (again (drop (m.h - m.own.acked) m.own.queue)) (left_down m.rest x)))
        some_counts (Flow us ds) e = subst (λ l. UpCounts g.0.down.acked g.0.down.stated (l ++ again (drop (m.h - m.own.acked) m.own.queue))) (sym e) (again_counts g.0.down.acked g.0.down.stated (drop (m.h - m.own.acked) m.own.queue))
        some_counts (Stop us ds lu ld) e = subst (λ l. UpCounts g.0.down.acked g.0.down.stated l) (sym e) tt

    closed : is_flowing m.conn.wires ≡ false → IsIdle (f m.own.number g.0).up
    closed e = record { way = rw (same_number, e) refl; is_open = rw (same_number, e) refl }

    placed : (x : Row A) (t : Session A) → v.row ≡ Some x → v.sessions x.number ≡ Some t → (o : Option ℕ) → x.on ≡ o → IsPlaced v.conns x t o → IsPlaced (with_at k this v.conns) x (f x.number t) o
    placed x t is_row is o on before = elim (cases_eq m.own.number x.number) [
      | inl same ↦ subst (λ (n : ℕ). IsPlaced (with_at k this v.conns) x (f n t) o) same (subst (λ y. IsPlaced (with_at k this v.conns) x (f m.own.number y) o) (one same) (own_row same o on (subst (λ y. IsPlaced v.conns x y o) (sym (one same)) before)))
      | inr ne ↦ subst (λ y. IsPlaced (with_at k this v.conns) x y o) (sym (resent_other m.own.number (is_flowing m.conn.wires) x.number t ne)) (other_row ne o before)
    ]
      where
        one : m.own.number ≡ x.number → g.0 ≡ t
        one same = some_one (v.sessions x.number) g.0 t (subst (λ y. v.sessions y ≡ Some g.0) same g.1) is

        stays : (n : ℕ) → x.on ≡ Some n → k ≢ n → is_flowing m.conn.wires ≡ false
        stays n on ne = elim (cases_Bool (is_flowing m.conn.wires)) [
          | inr e ↦ e
          | inl e ↦
              let a = attached e in
              let same : a.0 ≡ x = some_one v.row a.0 x a.1 is_row in
              let both : x.on ≡ Some k = subst (λ (y : Row A). y.on ≡ Some k) same a.3 in
              absurd (ne (let out : k ≡ n = cc in out))
        ]

        own_row : m.own.number ≡ x.number → (o : Option ℕ) → x.on ≡ o → IsPlaced v.conns x g.0 o → IsPlaced (with_at k this v.conns) x (f m.own.number g.0) o
        own_row mine_too None on (counted, quiet) = (
          counted,
          closed (elim (cases_Bool (is_flowing m.conn.wires)) [
            | inr e ↦ e
            | inl e ↦
                let a = attached e in
                let same : a.0 ≡ x = some_one v.row a.0 x a.1 is_row in
                let both : x.on ≡ Some k = subst (λ (y : Row A). y.on ≡ Some k) same a.3 in
                no_entry k (sym on ∙ both)
          ]),
        )
        own_row mine_too (Some n) on (d, found, held, goes) = by (cases_eq k n)
          where
            by : (k ≡ n) ⊎ (k ≡ n → ⊥) → IsPlaced (with_at k this v.conns) x (f m.own.number g.0) (Some n)
            by (inl same) =
                let c : d ≡ m.conn = some_one (v.conns k) d m.conn (subst (λ y. v.conns y ≡ Some d) (sym same) found) m.is in
                (this, subst (λ y. with_at k this v.conns y ≡ Some this) same (at_same k this v.conns), subst (λ y. session_on y ≡ Some x.number) c held, λ e. goes_up)
            by (inr ne) =
                let stopped : is_flowing m.conn.wires ≡ false = stays n on ne in
                let away : has v.here n ≡ false = here_or_not v n k (λ e. ne (sym e)) m.here in
                let dead : is_flowing d.wires ≡ false = stopped_away (has v.here n) d (kept.conns n d found).piped away in
                let bare : IsBare (up_words d.wires) = kept.late n d x.number found away held (subst (λ (y : ℕ). IsCarried v y) mine_too (k, m.conn, m.here, m.is, carries_old)) in
                let quiet = closed stopped in (
                  d,
                  at_other k this v.conns n ne ∙ found,
                  held,
                  λ e. record {
                    way = quiet.way ∙ sym (bare_stanzas (up_words d.wires) bare);
                    is_open = quiet.is_open ∙ ap (λ x. x && sends d.client) (sym dead);
                    counts = (goes e).counts;
                  },
                )

        other_row : m.own.number ≢ x.number → (o : Option ℕ) → IsPlaced v.conns x t o → IsPlaced (with_at k this v.conns) x t o
        other_row ne None before = before
        other_row ne (Some n) (d, found, held, goes) = by (cases_eq k n)
          where
            by : (k ≡ n) ⊎ (k ≡ n → ⊥) → IsPlaced (with_at k this v.conns) x t (Some n)
            by (inl same) =
                let c : d ≡ m.conn = some_one (v.conns k) d m.conn (subst (λ y. v.conns y ≡ Some d) (sym same) found) m.is in
                absurd (ne (phase_session m.own.number x.number m.conn.ending m.conn.gone (ap (λ y. on_phase y m.conn.ending m.conn.gone) (sym (old.at.phase ∙ ap phase_of r.is)) ∙ subst (λ y. session_on y ≡ Some x.number) c held)))
            by (inr apart) = (d, at_other k this v.conns n apart ∙ found, held, goes)

    row : (x : Row A) → v.row ≡ Some x → RowKept (with_at k this v.conns) (alter f v.sessions) x
    row x found =
        let before = kept.row x found in
        record {
          session = f x.number before.session;
          is = altered f v.sessions x.number before.session before.is;
          counted = before.counted;
          handled = before.handled;
          acked = before.acked;
          queue = before.queue;
          placed = placed x before.session found before.is x.on refl before.placed;
        }

    goes_down : GoesDown this (f m.own.number g.0)
    goes_down = record {
      counted = g.2.counted;
      way = g.2.way ∙ ap down_stanzas m.first ∙ ap down_stanzas (sym (down_words_up (again queue) m.rest m.conn.wires));
      is_open = g.2.is_open ∙ sym (flow_up (again queue) m.rest m.conn.wires);
      counts = rw (same_number, ← present) (subst (λ ws. DownCounts m.h g.0.up.stated ws) (sym (down_words_up (again queue) m.rest m.conn.wires)) counts.2);
    }

    down : GoesDownAfter k this v f
    down n d q here carried (New same is) =
        let e : Some m.own.number ≡ Some q = subst (λ x. carries x ≡ Some q) (sym is) carried in
        let one : m.own.number ≡ q = cc in
        let this_one : (t : Session A) × (alter f v.sessions m.own.number ≡ Some t) × GoesDown d t = (f m.own.number g.0, altered f v.sessions m.own.number g.0 g.1, subst (λ x. GoesDown x (f m.own.number g.0)) is goes_down) in
        subst (λ x. (t : Session A) × (alter f v.sessions x ≡ Some t) × GoesDown d t) one this_one
    down n d q here carried (Old ne there) = absurd (ne (let h = m.here in let same : k ≡ n = cc in same))

    idle_up : (q : ℕ) (t : Session A) → (a : Session A) × (v.sessions q ≡ Some a) × (f q a ≡ t) → t.counted ≡ true → (m.own.number ≡ q) ⊎ (m.own.number ≡ q → ⊥) → IsIdle t.up ⊎ ((x : Row A) × (v.row ≡ Some x) × (x.number ≡ q))
    idle_up q t w yes_counted (inl same) =
        let one : f m.own.number g.0 ≡ t = ap (f m.own.number) (some_one (v.sessions q) g.0 w.0 (subst (λ x. v.sessions x ≡ Some g.0) same g.1) w.1) ∙ ap (λ (n : ℕ). f n w.0) same ∙ w.2 in
        elim (cases_Bool (is_flowing m.conn.wires)) [
          | inl e ↦ inr (let a = attached e in (a.0, a.1, a.2 ∙ same))
          | inr e ↦ inl (subst (λ (x : Session A). IsIdle x.up) one (closed e))
        ]
    idle_up q t w yes_counted (inr ne) =
        let stays : w.0 ≡ t = sym (resent_other m.own.number (is_flowing m.conn.wires) q w.0 ne) ∙ w.2 in
        let before : w.0.counted ≡ true = ap (λ (x : Session A). x.counted) stays ∙ yes_counted in
        elim (kept.idle_up q w.0 w.1 before) [ inl still ↦ inl (subst (λ (x : Session A). IsIdle x.up) stays still) | inr x ↦ inr x ]

    back : (q : ℕ) → IsCarried (record v { conns = with_at k this v.conns; own = Some new; sessions = alter f v.sessions }) q → IsCarried v q
    back q (n, d, here, found, carried) = carried_before k this v q (λ e at. (k, m.conn, m.here, m.is, carries_old ∙ at)) n d here carried (entry k this v.conns n d found)

    idle_down : (q : ℕ) (t : Session A) → (a : Session A) × (v.sessions q ≡ Some a) × (f q a ≡ t) → t.counted ≡ true → (m.own.number ≡ q) ⊎ (m.own.number ≡ q → ⊥) →
        IsIdle t.down ⊎ IsCarried (record v { conns = with_at k this v.conns; own = Some new; sessions = alter f v.sessions }) q
    idle_down q t w yes_counted (inl same) = inr (k, this, m.here, at_same k this v.conns, ap Some same)
    idle_down q t w yes_counted (inr ne) =
        let stays : w.0 ≡ t = sym (resent_other m.own.number (is_flowing m.conn.wires) q w.0 ne) ∙ w.2 in
        let before : w.0.counted ≡ true = ap (λ (x : Session A). x.counted) stays ∙ yes_counted in
        elim (kept.idle_down q w.0 w.1 before) [ inl still ↦ inl (subst (λ (x : Session A). IsIdle x.down) stays still) | inr x ↦ absurd (ne (only q x)) ]
      where
        only : (q : ℕ) → IsCarried v q → m.own.number ≡ q
        only q (n, d, here, found, carried) =
            let h = m.here in
            let same : k ≡ n = cc in
            let one : d ≡ m.conn = some_one (v.conns k) d m.conn (subst (λ x. v.conns x ≡ Some d) (sym same) found) m.is in
            let e : Some m.own.number ≡ Some q = sym carries_old ∙ subst (λ x. carries x ≡ Some q) one carried in
            cc

    late : StaysBare k this v
    late n d q away on carried (New same is) = absurd (not_true away (subst (λ x. has v.here x ≡ true) same works))
    late n d q away on carried (Old ne there) = kept.late n d q there away on carried
