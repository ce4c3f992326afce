-- The server binds a new session, early or late.
use Rattle.std.proofs.Common.{◌≡◌, ℕ, ◌+◌, Bool, true, false, List, [], ◌∷◌, ◌++◌, length, refl, sym, ap, ◌∙◌, subst, ◌⊎◌, inl, inr, Option, None, Some}
use Rattle.std.proofs.lemmas.Bool.{cases_Bool, cases_eq}
use Rattle.std.specs.List.{Contains}
use Rattle.sim_2_links.proofs.Entries.{at_same, at_other, Entry, New, Old, entry}
use Rattle.sim_2_links.proofs.Tables.{send_down_whole, send_down_whole_up, left_up_whole, left_up_whole_down}
use Rattle.sim_2_links.proofs.CutLinks.{not_true, some_one, there_cut, on_other, some_same}
use Rattle.sim_2_links.proofs.Hands.{no_entry, piped_up, taken_stands}
use Rattle.sim_2_links.proofs.ReadResumed.{phase_session}
use Rattle.sim_2_links.proofs.StepParts.{carried_before}
use Rattle.sim_2_links.specs.Words.{UpWord, Bind, Bound, InBind, AtSession}
use Rattle.sim_2_links.specs.Wires.{Wires, up_whole, down_whole, send_down, left_up}
use Rattle.sim_2_links.specs.Stages.{Stage, Greets, Greeted, Offered, Proves, Challenged, Answers, Succeeded, Regreets, Regreeted, Reoffered, AsksResume, Refused, Resumes, AsksBind, Binds, AsksEnable, Enables, Runs, client_of, up_of, down_of, Stands, tail_of, foot_of, Conn}
use Rattle.sim_2_links.specs.Views.{Table, with_at, has, Session, Row, Own, View, on_phase, session_on, carried_by, carries}
use Rattle.sim_2_links.specs.SessionMoves.{unread, IsBound}
use Rattle.sim_2_links.specs.Links.{IsAsked, FitsOwn, ConnKept, GoesDown, IsIdle, RowKept, OwnKept, SessionKept, IsCarried, LinkKept}

pub record Binding {A : Type 0} (s : Stage A) (tail rest : List (UpWord A)) : Type 0 where
  pub is : s ≡ AsksBind
  pub left : tail ≡ rest

no_bind : {A C : Type 0} (foot : Bool) (rest : List (UpWord A)) → foot_of foot ≡ Bind ∷ rest → C
no_bind false rest e = absurd (let no_way : ⊥ = cc in no_way)
no_bind true rest e = absurd (let no_way : ⊥ = cc in no_way)

pub binding : {A : Type 0} (s : Stage A) (foot : Bool) (rest : List (UpWord A)) → up_of s ++ foot_of foot ≡ Bind ∷ rest → Binding s (foot_of foot) rest
binding AsksBind foot rest e = record { is = refl; left = (let left : foot_of foot ≡ rest = cc in left) }
binding (Runs q (u ∷ ups) downs) foot rest e = absurd (let no_way : ⊥ = cc in no_way)
binding (Runs q [] downs) foot rest e = no_bind foot rest e
binding Greets foot rest e = absurd (let no_way : ⊥ = cc in no_way)
binding Proves foot rest e = absurd (let no_way : ⊥ = cc in no_way)
binding Answers foot rest e = absurd (let no_way : ⊥ = cc in no_way)
binding Regreets foot rest e = absurd (let no_way : ⊥ = cc in no_way)
binding (AsksResume p h) foot rest e = absurd (let no_way : ⊥ = cc in no_way)
binding (AsksEnable m) foot rest e = absurd (let no_way : ⊥ = cc in no_way)
binding Greeted foot rest e = no_bind foot rest e
binding Offered foot rest e = no_bind foot rest e
binding Challenged foot rest e = no_bind foot rest e
binding Succeeded foot rest e = no_bind foot rest e
binding Regreeted foot rest e = no_bind foot rest e
binding Reoffered foot rest e = no_bind foot rest e
binding (Refused q) foot rest e = no_bind foot rest e
binding (Resumes q i downs) foot rest e = no_bind foot rest e
binding (Binds m) foot rest e = no_bind foot rest e
binding (Enables m downs) foot rest e = no_bind foot rest e

-- one session more: those that were there are there
more : {A : Type 0} (m : ℕ) (t : Table (Session A)) (p : ℕ) (s : Session A) → t m ≡ None → t p ≡ Some s → with_at m unread t p ≡ Some s
more m t p s fresh is = at_other m unread t p (λ e. no_entry s (sym (subst (λ x. t x ≡ None) e fresh) ∙ is)) ∙ is

more_asked : {A : Type 0} (m : ℕ) (t : Table (Session A)) (s : Stage A) → t m ≡ None → IsAsked t s → IsAsked (with_at m unread t) s
more_asked m t (AsksResume p h) fresh (s, is, read, stated) = (s, more m t p s fresh is, read, stated)
more_asked m t (AsksEnable p) fresh (s, e, is, epoch) = (s, e, more m t p s fresh is, epoch)
more_asked m t _ fresh a = tt

more_fits : {A : Type 0} (own : Option (Own A)) (epoch m : ℕ) (t : Table (Session A)) (s : Stage A) → t m ≡ None → ((o : Own A) → own ≡ Some o → OwnKept epoch t o) → FitsOwn own epoch t s → FitsOwn own epoch (with_at m unread t) s
more_fits own epoch m t (AsksResume q h) fresh kept a = a
more_fits own epoch m t (Refused q) fresh kept a = a
more_fits {A = A} own epoch m t (Resumes q h downs) fresh kept a = (a.0, λ s is. by s (entry m unread t q s is))
  where
    by : (s : Session A) → Entry m unread t q s → (h ≡ length s.up.got) × Contains s.up.stated h
    by s (New same this) =
        let o = a.0 in
        let mine = kept o.0 o.1 in
        let none : t o.0.number ≡ None = subst (λ x. t x ≡ None) (same ∙ sym o.2) fresh in
        no_entry mine.session (sym none ∙ mine.is)
    by s (Old ne there) = a.1 s there
more_fits own epoch m t AsksBind fresh kept a = a
more_fits own epoch m t (Binds p) fresh kept (none, b) = (none, (b.0, more m t p b.0 fresh b.1, b.2, b.3))
more_fits own epoch m t (AsksEnable p) fresh kept (none, b) = (none, (b.0, more m t p b.0 fresh b.1, b.2))
more_fits own epoch m t (Enables p downs) fresh kept (none, b) = (none, (b.0, more m t p b.0 fresh b.1, b.2, b.3, b.4))
more_fits own epoch m t (Runs q ups downs) fresh kept a = a
more_fits own epoch m t Greets fresh kept a = a
more_fits own epoch m t Greeted fresh kept a = a
more_fits own epoch m t Offered fresh kept a = a
more_fits own epoch m t Proves fresh kept a = a
more_fits own epoch m t Challenged fresh kept a = a
more_fits own epoch m t Answers fresh kept a = a
more_fits own epoch m t Succeeded fresh kept a = a
more_fits own epoch m t Regreets fresh kept a = a
more_fits own epoch m t Regreeted fresh kept a = a
more_fits own epoch m t Reoffered fresh kept a = a

unread_kept : {A : Type 0} → SessionKept {A = A} unread
unread_kept = record {
  up = record { moves = []; reaches = refl };
  down = record { moves = []; reaches = refl };
  begun = λ e. (refl, refl);
  read = λ e. absurd (let no_way : ⊥ = cc in no_way);
  epoch = λ e. absurd (let no_way : ⊥ = cc in no_way);
  unread = λ e. refl;
  unheard = λ e. refl;
}

pub bound_keeps : {A : Type 0} (k m : ℕ) (v next : View A) → IsBound k m v next → LinkKept v → LinkKept next
bound_keeps {A = A} k number v next m kept = subst LinkKept (sym m.gives) (record {
  there = λ n here. there_cut v kept k this n here;
  conns = λ n d found. conn n d (entry k this v.conns n d found);
  row = λ r e. subst (λ x. RowKept (with_at k this v.conns) (with_at number unread v.sessions) x) (let out : new ≡ r = cc in out) row_kept;
  own = λ o found. let before = kept.own o found in record {
    session = before.session;
    is = more number v.sessions o.number before.session m.fresh before.is;
    read = before.read;
    of_epoch = before.of_epoch;
    handled = before.handled;
    acked = before.acked;
    queue = before.queue;
  };
  sessions = λ q s found. session q s (entry number unread v.sessions q s found);
  goes_down = λ n d q here found carried. down n d q here carried (entry k this v.conns n d found);
  idle_up = λ q s found counted. idle_up q s counted (entry number unread v.sessions q s found);
  idle_down = λ q s found counted. idle_down q s counted (entry number unread v.sessions q s found);
  late = λ n d q found away on carried. absurd (late n d q on (back q carried) (entry k this v.conns n d found));
})
  where
    this : Conn A
    this = record m.conn { phase = AtSession number; wires = send_down (Bound number ∷ []) (left_up m.rest m.conn.wires) }

    new : Row A
    new = record { number = number; on = Some k; counted = false; acked = 0; handled = 0; queue = [] }

    old : ConnKept v k m.conn
    old = kept.conns k m.conn m.is

    b : Binding old.stage (foot_of m.conn.footed) (up_whole (left_up m.rest m.conn.wires))
    b = binding old.stage m.conn.footed (up_whole (left_up m.rest m.conn.wires)) (sym old.at.up ∙ left_up_whole Bind m.rest m.conn.wires m.first)

    stands : m.conn.ending ≡ Stands
    stands = taken_stands (has v.here k) m.conn Bind m.rest old.piped m.first

    told : m.conn.gone ≡ false
    told = elim (cases_Bool m.conn.gone) [ inr e ↦ e | inl e ↦ absurd (let none = old.piped.gone e in let first = m.first in let no_way : ⊥ = cc in no_way) ]

    nothing_down : down_whole m.conn.wires ≡ []
    nothing_down = old.at.down ∙ ap (λ x. down_of x ++ tail_of m.conn.ending) b.is ∙ ap tail_of stands

    client : m.conn.client ≡ InBind
    client = old.at.client ∙ ap client_of b.is

    silent : (w : Wires A) (q : ℕ) → carried_by m.conn.client (down_whole w) ≡ Some q → ⊥
    silent w q e = no_entry q (sym (ap (λ x. carried_by x (down_whole w)) client) ∙ e)

    no_row : (x : Row A) → v.row ≡ Some x → ⊥
    no_row x e = no_entry x (sym m.none ∙ e)

    row_kept : RowKept (with_at k this v.conns) (with_at number unread v.sessions) new
    row_kept = record {
      session = unread;
      is = at_same number unread v.sessions;
      counted = refl;
      handled = refl;
      acked = refl;
      queue = refl;
      placed = (this, at_same k this v.conns, ap (λ x. on_phase (AtSession number) x m.conn.gone) stands ∙ ap (λ x. on_phase (AtSession number) Stands x) told, λ e. absurd (let no_way : ⊥ = cc in no_way));
    }

    conn : (n : ℕ) (d : Conn A) → Entry k this v.conns n d → ConnKept (record v { conns = with_at k this v.conns; row = Some new; sessions = with_at number unread v.sessions; free = number + 1 }) n d
    conn n d (New same is) =
        let here : ConnKept (record v { conns = with_at k this v.conns; row = Some new; sessions = with_at number unread v.sessions; free = number + 1 }) k this = record {
          piped = piped_up (has v.here k) m.conn Bind m.rest (AtSession number) (Bound number ∷ []) m.first old.piped;
          stage = Binds number;
          at = record {
            client = client;
            phase = refl;
            up = send_down_whole_up (Bound number ∷ []) (left_up m.rest m.conn.wires) ∙ sym b.left;
            down = send_down_whole (Bound number ∷ []) (left_up m.rest m.conn.wires) ∙ ap (λ l. l ++ Bound number ∷ []) (left_up_whole_down m.rest m.conn.wires ∙ nothing_down) ∙ ap (λ x. Bound number ∷ tail_of x) (sym stands);
          };
          asked = tt;
          fits = λ e. (subst (λ s. FitsOwn v.own v.epoch v.sessions s) b.is (old.fits e), (unread, at_same number unread v.sessions, refl, refl));
          attached = λ q e. (new, refl, phase_session number q m.conn.ending m.conn.gone e, refl);
          uncounted = λ r f on e. subst (λ (x : Row A). x.counted ≡ false) (some_same new r f) refl;
          counting = λ r f on p e. no_entry p e;
        } in
        subst (λ x. ConnKept (record v { conns = with_at k this v.conns; row = Some new; sessions = with_at number unread v.sessions; free = number + 1 }) x d) same (subst (λ x. ConnKept (record v { conns = with_at k this v.conns; row = Some new; sessions = with_at number unread v.sessions; free = number + 1 }) k x) is here)
    conn n d (Old ne there) =
        let before = kept.conns n d there in
        record {
          piped = before.piped;
          stage = before.stage;
          at = before.at;
          asked = more_asked number v.sessions before.stage m.fresh before.asked;
          fits = λ e. more_fits v.own v.epoch number v.sessions before.stage m.fresh kept.own (before.fits e);
          attached = λ q e. absurd (no_row (before.attached q e).0 (before.attached q e).1);
          uncounted = λ r f on e. on_other k n new r f refl ne on;
          counting = λ r f on p e. on_other k n new r f refl ne on;
        }

    session : (q : ℕ) (s : Session A) → Entry number unread v.sessions q s → SessionKept s
    session q s (New same this) = subst SessionKept this unread_kept
    session q s (Old ne there) = kept.sessions q s there

    down : (n : ℕ) (d : Conn A) (q : ℕ) → v.here ≡ Some n → carries d ≡ Some q → Entry k this v.conns n d → (s : Session A) × (with_at number unread v.sessions q ≡ Some s) × GoesDown d s
    down n d q here carried (New same is) = absurd (silent (send_down (Bound number ∷ []) (left_up m.rest m.conn.wires)) q (subst (λ x. carries x ≡ Some q) (sym is) carried))
    down n d q here carried (Old ne there) = let before = kept.goes_down n d q here there carried in (before.0, more number v.sessions q before.0 m.fresh before.1, before.2)

    carried_on : (q : ℕ) → IsCarried v q → IsCarried (record v { conns = with_at k this v.conns; row = Some new; sessions = with_at number unread v.sessions; free = number + 1 }) q
    carried_on q (n, d, here, found, carried) = by (cases_eq k n)
      where
        by : (k ≡ n) ⊎ (k ≡ n → ⊥) → IsCarried (record v { conns = with_at k this v.conns; row = Some new; sessions = with_at number unread v.sessions; free = number + 1 }) q
        by (inl same) =
            let one : d ≡ m.conn = some_one (v.conns k) d m.conn (subst (λ x. v.conns x ≡ Some d) (sym same) found) m.is in
            absurd (silent m.conn.wires q (subst (λ x. carries x ≡ Some q) one carried))
        by (inr ne) = (n, d, here, at_other k this v.conns n ne ∙ found, carried)

    back : (q : ℕ) → IsCarried (record v { conns = with_at k this v.conns; row = Some new; sessions = with_at number unread v.sessions; free = number + 1 }) q → IsCarried v q
    back q (n, d, here, found, carried) = carried_before k this v q (λ e at. absurd (silent (send_down (Bound number ∷ []) (left_up m.rest m.conn.wires)) q at)) n d here carried (entry k this v.conns n d found)

    idle_up : (q : ℕ) (s : Session A) → s.counted ≡ true → Entry number unread v.sessions q s → IsIdle s.up ⊎ ((x : Row A) × (Some new ≡ Some x) × (x.number ≡ q))
    idle_up q s counted (New same this) = absurd (not_true {b = s.counted} (ap (λ (x : Session A). x.counted) (sym this)) counted)
    idle_up q s counted (Old ne there) = elim (kept.idle_up q s there counted) [ inl quiet ↦ inl quiet | inr x ↦ absurd (no_row x.0 x.1) ]

    idle_down : (q : ℕ) (s : Session A) → s.counted ≡ true → Entry number unread v.sessions q s → IsIdle s.down ⊎ IsCarried (record v { conns = with_at k this v.conns; row = Some new; sessions = with_at number unread v.sessions; free = number + 1 }) q
    idle_down q s counted (New same this) = absurd (not_true {b = s.counted} (ap (λ (x : Session A). x.counted) (sym this)) counted)
    idle_down q s counted (Old ne there) = elim (kept.idle_down q s there counted) [ inl quiet ↦ inl quiet | inr x ↦ inr (carried_on q x) ]

    late : (n : ℕ) (d : Conn A) (q : ℕ) → session_on d ≡ Some q → IsCarried v q → Entry k this v.conns n d → ⊥
    late n d q on (j, c, here, found, carried) (New same is) =
        let one : number ≡ q = phase_session number q m.conn.ending m.conn.gone (subst (λ x. session_on x ≡ Some q) (sym is) on) in
        let before = kept.goes_down j c q here found carried in
        no_entry before.0 (sym (subst (λ x. v.sessions x ≡ None) one m.fresh) ∙ before.1)
    late n d q on carried (Old ne there) = let a = (kept.conns n d there).attached q on in no_row a.0 a.1
