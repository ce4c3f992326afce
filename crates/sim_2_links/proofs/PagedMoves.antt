-- The network, the handshake and the ends of connections keep that pages come in time.
use Rattle.std.proofs.Common.{◌≡◌, ℕ, ◌+◌, ◌-◌, true, false, ◌&&◌, [], ◌∷◌, ◌++◌, drop, map, refl, sym, ap, ◌∙◌, subst, arith, inl, inr, Option, None, Some}
use Rattle.std.proofs.lemmas.Bool.{cases_Bool}
use Rattle.sim_2_links.proofs.Entries.{Entry, New, Old, entry, was, is_has}
use Rattle.sim_2_links.proofs.Tables.{cut_whole_down, left_up_whole, left_down_whole, left_up_whole_down, send_down_whole, UpRow, DownRow}
use Rattle.sim_2_links.proofs.CutLinks.{some_one, some_same, cut_conn}
use Rattle.sim_2_links.proofs.Hands.{no_entry, plain_carried, up_row, down_row}
use Rattle.sim_2_links.proofs.Asking.{at_features, steps, steps_at}
use Rattle.sim_2_links.proofs.ReadBound.{at_bound, named_if}
use Rattle.sim_2_links.proofs.Resumption.{asks}
use Rattle.sim_2_links.proofs.Refusals.{too_high_left}
use Rattle.sim_2_links.proofs.Binding.{binding}
use Rattle.sim_2_links.proofs.Late.{late_if}
use Rattle.sim_2_links.proofs.Ends.{shut_at}
use Rattle.sim_2_links.proofs.Detached.{carries_at, first_whole, no_foot_here, on_stands}
use Rattle.sim_2_links.proofs.Paged.{IsPaged, PagingKept, pages_by, others_by, others_same, no_others, time_with, bare_this, left_this}
use Rattle.sim_2_links.proofs.PagedWires.{cut_in_time, shut_in_time}
use Rattle.sim_2_links.specs.Words.{St, ResumeAt, Bind, Enable, Feat, Failed, Resumed, Bound, Down, InResume, InBind, InEnable, AtSession, TooHigh}
use Rattle.sim_2_links.specs.Wires.{up_whole, down_whole, send_up, send_down, left_up, left_down, cut, halt}
use Rattle.sim_2_links.specs.Stages.{Reoffered, AsksResume, Binds, AsksEnable, client_of, Ending, Stands, Errs, Closes, tail_of, Conn, IsAt, IsEarly}
use Rattle.sim_2_links.specs.Views.{with_at, alter, has, Session, Row, View, session_on, carried_by, carries}
use Rattle.sim_2_links.specs.LinkMoves.{ways_cut, IsCut, IsLetGo, dialled, IsDialled, IsUpHand, IsDownHand, told_if}
use Rattle.sim_2_links.specs.SessionMoves.{IsAskResume, IsAskBind, IsRefused, shut, lost_if, IsDetached, IsRowEnded, unread, IsBound, IsReadBound, IsResumedLate, IsParked}
use Rattle.sim_2_links.specs.EndMoves.{IsFailed, IsTooHigh, IsFootTaken, IsUncountedShut, IsUncountedGone, IsGone, with_foot, IsFooted, IsForgotten}
use Rattle.sim_2_links.specs.Links.{ConnKept, IsPlaced, RowKept, LinkKept}
use Rattle.sim_2_links.specs.Paging.{Paging, course_of, IsInTime}

-- a connection changes, and no session

on_conn : {A : Type 0} (p : Paging A) (v : View A) (k : ℕ) (new : Conn A) (row : Option (Row A)) → ((q : ℕ) (t : Session A) → v.here ≡ Some k → carries new ≡ Some q → v.sessions q ≡ Some t → IsInTime p new.wires (course_of t)) →
    PagingKept p v → PagingKept p (record v { conns = with_at k new v.conns; row = row })
on_conn p v k new row this paged = record {
  pages = paged.pages;
  time = time_with p v k new row v.own v.epoch v.sessions v.free (others_same p v k paged.time) this;
  room = paged.room;
}

pub cut_paged : {A : Type 0} (p : Paging A) (k i j : ℕ) (v next : View A) → IsCut k i j v next → PagingKept p v → PagingKept p next
cut_paged {A = A} p k i j v next m paged = subst (PagingKept p) (sym m.gives) (record {
  pages = pages_by p f v.sessions (λ q s is a. a) paged.pages;
  time = time_with p v k (cut_conn i j m.conn) v.row v.own v.epoch (alter f v.sessions) v.free (others_by p f v k (λ n q c s here ne found carried is a. a) paged.time) this;
  room = paged.room;
})
  where
    f : ℕ → Session A → Session A
    f = λ q s. ways_cut (has v.here k) m.conn i j q s

    this : (q : ℕ) (t : Session A) → v.here ≡ Some k → carries (cut_conn i j m.conn) ≡ Some q → alter f v.sessions q ≡ Some t → IsInTime p (cut i j m.conn.wires) (course_of t)
    this q t here carried is =
        let w = was f v.sessions q t is in
        let before : carries m.conn ≡ Some q = ap (carried_by m.conn.client) (sym (cut_whole_down i j m.conn.wires)) ∙ carried in
        let old : IsInTime p m.conn.wires (course_of w.0) = paged.time k q m.conn w.0 here m.is before w.1 in
        subst (λ (x : Session A). IsInTime p (cut i j m.conn.wires) (course_of x)) w.2 (cut_in_time p i j m.conn.wires (course_of w.0) old)

pub dial_paged : {A : Type 0} (p : Paging A) (k : ℕ) (v next : View A) → IsDialled k v next → PagingKept p v → PagingKept p next
dial_paged {A = A} p k v next m paged = subst (PagingKept p) (sym m.gives) (record {
  pages = paged.pages;
  time = λ n q c s here found carried is. by n q c s here carried (entry k dialled v.conns n c found);
  room = paged.room;
})
  where
    by : (n q : ℕ) (c : Conn A) (s : Session A) → Some k ≡ Some n → carries c ≡ Some q → Entry k dialled v.conns n c → IsInTime p c.wires (course_of s)
    by n q c s here carried (New same one) = no_entry q (let e : None ≡ Some q = ap carries one ∙ carried in e)
    by n q c s here carried (Old ne there) = absurd (ne (some_same k n here))

pub let_go_paged : {A : Type 0} (p : Paging A) (k : ℕ) (v next : View A) → IsLetGo k v next → PagingKept p v → PagingKept p next
let_go_paged p k v next m paged = subst (PagingKept p) (sym m.gives) (record { pages = paged.pages; time = λ n q c s here found carried is. no_entry n here; room = paged.room })

pub forgotten_paged : {A : Type 0} (p : Paging A) (v next : View A) → IsForgotten v next → PagingKept p v → PagingKept p next
forgotten_paged p v next m paged = subst (PagingKept p) (sym m.gives) (record { pages = paged.pages; time = paged.time; room = λ o e. no_entry o e })

pub footed_paged : {A : Type 0} (p : Paging A) (k : ℕ) (v next : View A) → IsFooted k v next → PagingKept p v → PagingKept p next
footed_paged p k v next m paged = subst (PagingKept p) (sym m.gives) (on_conn p v k (record m.conn { footed = true; wires = with_foot m.conn.wires }) v.row (left_this p v v.sessions k (record m.conn { footed = true; wires = with_foot m.conn.wires }) m.left) paged)

-- the handshake

pub up_hand_paged : {A : Type 0} (p : Paging A) (k : ℕ) (v next : View A) → IsUpHand k v next → LinkKept v → PagingKept p v → PagingKept p next
up_hand_paged {A = A} p k v next m kept paged = subst (PagingKept p) (sym m.gives) (on_conn p v k new v.row (bare_this p v v.sessions k new
    (ap (λ x. carried_by x (down_whole (send_down m.puts (left_up m.rest m.conn.wires)))) old.at.client ∙ plain_carried old.stage (down_whole (send_down m.puts (left_up m.rest m.conn.wires))) n.before)) paged)
  where
    new : Conn A
    new = record m.conn { phase = m.phase; wires = send_down m.puts (left_up m.rest m.conn.wires) }

    old : ConnKept v k m.conn
    old = kept.conns k m.conn m.is

    n : UpRow old.stage m.conn m.phase m.puts m.rest
    n = up_row old.stage m.conn m.word m.rest m.phase m.puts old.at m.first m.hand

pub down_hand_paged : {A : Type 0} (p : Paging A) (k : ℕ) (v next : View A) → IsDownHand k v next → LinkKept v → PagingKept p v → PagingKept p next
down_hand_paged {A = A} p k v next m kept paged = subst (PagingKept p) (sym m.gives) (on_conn p v k new v.row (bare_this p v v.sessions k new
    (ap (λ x. carried_by x (down_whole (send_up m.puts (left_down m.rest m.conn.wires)))) (sym n.state) ∙ plain_carried n.row (down_whole (send_up m.puts (left_down m.rest m.conn.wires))) (n.plain early))) paged)
  where
    new : Conn A
    new = record m.conn { client = m.client; wires = send_up m.puts (left_down m.rest m.conn.wires) }

    old : ConnKept v k m.conn
    old = kept.conns k m.conn m.is

    early : IsEarly (client_of old.stage)
    early = subst IsEarly old.at.client m.early

    n : DownRow old.stage m.conn m.client m.puts m.rest
    n = down_row old.stage m.conn m.word m.rest m.client m.puts old.at m.first m.hand

pub ask_resume_paged : {A : Type 0} (p : Paging A) (k : ℕ) (v next : View A) → IsAskResume k v next → LinkKept v → PagingKept p v → PagingKept p next
ask_resume_paged {A = A} p k v next m kept paged = subst (PagingKept p) (sym m.gives) (record {
  pages = pages_by p f v.sessions (λ q s is a. a) paged.pages;
  time = time_with p v k new v.row v.own v.epoch (alter f v.sessions) v.free (no_others p v (alter f v.sessions) k m.here) (bare_this p v (alter f v.sessions) k new (carries_at (AsksResume m.own.number m.own.handled) new at'));
  room = paged.room;
})
  where
    f : ℕ → Session A → Session A
    f = λ q s. told_if (has (Some m.own.number) q) s

    new : Conn A
    new = steps m.conn (InResume m.own.number) (ResumeAt m.own.number m.own.handled ∷ []) m.rest

    old : ConnKept v k m.conn
    old = kept.conns k m.conn m.is

    at : IsAt Reoffered m.conn
    at = subst (λ x. IsAt x m.conn) (at_features old.stage (sym old.at.client ∙ m.client)) old.at

    at' : IsAt (AsksResume m.own.number m.own.handled) (steps m.conn (InResume m.own.number) (ResumeAt m.own.number m.own.handled ∷ []) m.rest)
    at' = steps_at Reoffered (AsksResume m.own.number m.own.handled) m.conn Feat m.rest (InResume m.own.number) (ResumeAt m.own.number m.own.handled ∷ []) at (old.piped.unfooted (is_has v.here k m.here)) m.first refl refl refl refl (λ e. absurd e)

pub ask_bind_paged : {A : Type 0} (p : Paging A) (k : ℕ) (v next : View A) → IsAskBind k v next → PagingKept p v → PagingKept p next
ask_bind_paged p k v next m paged = subst (PagingKept p) (sym m.gives) (on_conn p v k (steps m.conn InBind (Bind ∷ []) m.rest) v.row (bare_this p v v.sessions k (steps m.conn InBind (Bind ∷ []) m.rest) refl) paged)

pub refused_paged : {A : Type 0} (p : Paging A) (k : ℕ) (v next : View A) → IsRefused k v next → PagingKept p v → PagingKept p next
refused_paged p k v next m paged = subst (PagingKept p) (sym m.gives) (record {
  pages = paged.pages;
  time = time_with p v k (steps m.conn InBind (Bind ∷ []) m.rest) v.row None v.epoch v.sessions v.free (no_others p v v.sessions k m.here) (bare_this p v v.sessions k (steps m.conn InBind (Bind ∷ []) m.rest) refl);
  room = λ o e. no_entry o e;
})

pub read_bound_paged : {A : Type 0} (p : Paging A) (k number : ℕ) (v next : View A) → IsReadBound k number v next → LinkKept v → PagingKept p v → PagingKept p next
read_bound_paged {A = A} p k number v next m kept paged = subst (PagingKept p) (sym m.gives) (record {
  pages = pages_by p f v.sessions (λ q s is a. a) paged.pages;
  time = time_with p v k new v.row v.own (v.epoch + 1) (alter f v.sessions) v.free (no_others p v (alter f v.sessions) k m.here) (bare_this p v (alter f v.sessions) k new (carries_at (AsksEnable number) new at'));
  room = paged.room;
})
  where
    f : ℕ → Session A → Session A
    f = λ q s. named_if (has (Some number) q) (v.epoch + 1) s

    new : Conn A
    new = steps m.conn InEnable (Enable ∷ []) m.rest

    old : ConnKept v k m.conn
    old = kept.conns k m.conn m.is

    at : IsAt (Binds number) m.conn
    at = subst (λ x. IsAt x m.conn) (at_bound old.stage m.conn.ending number (down_whole (left_down m.rest m.conn.wires)) (sym old.at.client ∙ m.client) (sym old.at.down ∙ left_down_whole (Bound number) m.rest m.conn.wires m.first)) old.at

    at' : IsAt (AsksEnable number) (steps m.conn InEnable (Enable ∷ []) m.rest)
    at' = steps_at (Binds number) (AsksEnable number) m.conn (Bound number) m.rest InEnable (Enable ∷ []) at (old.piped.unfooted (is_has v.here k m.here)) m.first refl refl refl refl (λ e. absurd e)

-- the server's answers outside of sessions

failed_bare : (A : Type 0) (q : ℕ) (end : Ending) → carried_by {A = A} (InResume q) (tail_of end ++ Failed ∷ []) ≡ None
failed_bare A q Stands = refl
failed_bare A q (Errs cause) = refl
failed_bare A q Closes = refl

pub failed_paged : {A : Type 0} (p : Paging A) (k : ℕ) (v next : View A) → IsFailed k v next → LinkKept v → PagingKept p v → PagingKept p next
failed_paged {A = A} p k v next m kept paged = subst (PagingKept p) (sym m.gives) (on_conn p v k new v.row (bare_this p v v.sessions k new
    (ap (λ x. carried_by x (down_whole new.wires)) (at.client) ∙ ap (carried_by (InResume m.p)) (send_down_whole (Failed ∷ []) (left_up m.rest m.conn.wires) ∙ ap (λ l. l ++ Failed ∷ []) (left_up_whole_down m.rest m.conn.wires ∙ at.down)) ∙ failed_bare A m.p m.conn.ending)) paged)
  where
    new : Conn A
    new = record m.conn { wires = send_down (Failed ∷ []) (left_up m.rest m.conn.wires) }

    old : ConnKept v k m.conn
    old = kept.conns k m.conn m.is

    at : IsAt (AsksResume m.p m.h) m.conn
    at =
        let whole = first_whole (ResumeAt m.p m.h) m.rest m.conn.wires m.first in
        subst (λ x. IsAt x m.conn) (asks old.stage m.conn.footed m.p m.h whole.0 (sym old.at.up ∙ whole.1)).is old.at

pub too_high_paged : {A : Type 0} (p : Paging A) (k : ℕ) (v next : View A) → IsTooHigh k v next → LinkKept v → PagingKept p v → PagingKept p next
too_high_paged p k v next m kept paged = subst (PagingKept p) (sym m.gives) (on_conn p v k (shut (Errs TooHigh) m.conn) None (left_this p v v.sessions k (shut (Errs TooHigh) m.conn) (too_high_left k v next m kept)) paged)

pub resumed_late_paged : {A : Type 0} (p : Paging A) (k : ℕ) (v next : View A) → IsResumedLate k v next → PagingKept p v → PagingKept p next
resumed_late_paged {A = A} p k v next m paged = subst (PagingKept p) (sym m.gives) (record {
  pages = pages_by p f v.sessions (λ q s is a. a) paged.pages;
  time = time_with p v k new (Some (record m.row { on = Some k; acked = m.h; queue = drop (m.h - m.row.acked) m.row.queue })) v.own v.epoch (alter f v.sessions) v.free
      (others_by p f v k (λ n q c s here ne found carried is a. a) paged.time) (left_this p v (alter f v.sessions) k new m.left);
  room = paged.room;
})
  where
    f : ℕ → Session A → Session A
    f = λ q s. late_if (has (Some m.row.number) q) m.h s

    new : Conn A
    new = record m.conn { phase = AtSession m.row.number; wires = send_down (Resumed m.row.number m.row.handled ∷ map Down (map St (drop (m.h - m.row.acked) m.row.queue))) (left_up m.rest m.conn.wires) }

pub bound_paged : {A : Type 0} (p : Paging A) (k number : ℕ) (v next : View A) → IsBound k number v next → LinkKept v → PagingKept p v → PagingKept p next
bound_paged {A = A} p k number v next m kept paged = subst (PagingKept p) (sym m.gives) (record {
  pages = λ q t is. page q t (entry number unread v.sessions q t is);
  time = time_with p v k new (Some (record { number = number; on = Some k; counted = false; acked = 0; handled = 0; queue = [] })) v.own v.epoch (with_at number unread v.sessions) (number + 1)
      (λ n q c t here ne found carried is. other n q c t here found carried (entry number unread v.sessions q t is)) (bare_this p v (with_at number unread v.sessions) k new (ap (λ x. carried_by x (down_whole new.wires)) client));
  room = paged.room;
})
  where
    new : Conn A
    new = record m.conn { phase = AtSession number; wires = send_down (Bound number ∷ []) (left_up m.rest m.conn.wires) }

    old : ConnKept v k m.conn
    old = kept.conns k m.conn m.is

    client : m.conn.client ≡ InBind
    client = old.at.client ∙ ap client_of (binding old.stage m.conn.footed (up_whole (left_up m.rest m.conn.wires)) (sym old.at.up ∙ left_up_whole Bind m.rest m.conn.wires m.first)).is

    page : (q : ℕ) (t : Session A) → Entry number unread v.sessions q t → IsPaged p t.down.put (course_of t)
    page q t (New same one) = subst (λ (x : Session A). IsPaged p x.down.put (course_of x)) one (record { served = omega arith; asked = omega arith; over = omega arith })
    page q t (Old ne there) = paged.pages q t there

    other : (n q : ℕ) (c : Conn A) (t : Session A) → v.here ≡ Some n → v.conns n ≡ Some c → carries c ≡ Some q → Entry number unread v.sessions q t → IsInTime p c.wires (course_of t)
    other n q c t here found carried (New same one) = let g = kept.goes_down n c q here found carried in no_entry g.0 (sym m.fresh ∙ subst (λ x. v.sessions x ≡ Some g.0) (sym same) g.1)
    other n q c t here found carried (Old ne there) = paged.time n q c t here found carried there

-- connections and rows end

pub foot_taken_paged : {A : Type 0} (p : Paging A) (k : ℕ) (v next : View A) → IsFootTaken k v next → LinkKept v → PagingKept p v → PagingKept p next
foot_taken_paged p k v next m kept paged =
    let old = kept.conns k m.conn m.is in
    let left : has v.here k ≡ false = elim (cases_Bool (has v.here k)) [ inl e ↦ no_foot_here old.stage m.conn (has v.here k) m.rest old.piped old.at m.first e | inr e ↦ e ] in
    subst (PagingKept p) (sym m.gives) (on_conn p v k (shut Closes m.conn) v.row (left_this p v v.sessions k (shut Closes m.conn) left) paged)

pub parked_paged : {A : Type 0} (p : Paging A) (k : ℕ) (v next : View A) → IsParked k v next → PagingKept p v → PagingKept p next
parked_paged p k v next m paged = subst (PagingKept p) (sym m.gives) (on_conn p v k (record m.conn { gone = true }) (Some (record m.row { on = None })) (λ q t here carried is. paged.time k q m.conn t here m.is carried is) paged)

pub gone_paged : {A : Type 0} (p : Paging A) (k : ℕ) (v next : View A) → IsGone k v next → PagingKept p v → PagingKept p next
gone_paged p k v next m paged = subst (PagingKept p) (sym m.gives) (on_conn p v k (record m.conn { gone = true }) v.row (λ q t here carried is. paged.time k q m.conn t here m.is carried is) paged)

pub uncounted_gone_paged : {A : Type 0} (p : Paging A) (k : ℕ) (v next : View A) → IsUncountedGone k v next → PagingKept p v → PagingKept p next
uncounted_gone_paged p k v next m paged = subst (PagingKept p) (sym m.gives) (on_conn p v k (record m.conn { gone = true }) None (λ q t here carried is. paged.time k q m.conn t here m.is carried is) paged)

pub row_ended_paged : {A : Type 0} (p : Paging A) (v next : View A) → IsRowEnded v next → PagingKept p v → PagingKept p next
row_ended_paged p v next m paged = subst (PagingKept p) (sym m.gives) (record { pages = paged.pages; time = paged.time; room = paged.room })

row_stands : {A : Type 0} (v : View A) (k : ℕ) (c : Conn A) (r : Row A) → LinkKept v → v.conns k ≡ Some c → v.row ≡ Some r → r.on ≡ Some k → c.ending ≡ Stands
row_stands {A = A} v k c r kept is is_row on =
    let row : RowKept v.conns v.sessions r = kept.row r is_row in
    let placed : IsPlaced v.conns r row.session (Some k) = subst (λ o. IsPlaced v.conns r row.session o) on row.placed in
    let held : session_on c ≡ Some r.number = subst (λ (x : Conn A). session_on x ≡ Some r.number) (some_one (v.conns k) placed.0 c placed.1 is) placed.2 in
    on_stands c.phase c.ending c.gone r.number held

-- the server shuts a connection, which carries what it carried
shut_carries : {A : Type 0} (v : View A) (k q : ℕ) (c : Conn A) (r : Row A) (ending : Ending) → LinkKept v → v.conns k ≡ Some c → v.row ≡ Some r → r.on ≡ Some k → carries (shut ending c) ≡ Some q → carries c ≡ Some q
shut_carries {A = A} v k q c r ending kept is is_row on carried =
    let old : ConnKept v k c = kept.conns k c is in
    carries_at old.stage c old.at ∙ sym (carries_at old.stage (shut ending c) (shut_at old.stage c ending old.at (row_stands v k c r kept is is_row on))) ∙ carried

pub detached_paged : {A : Type 0} (p : Paging A) (k : ℕ) (ending : Ending) (v next : View A) → IsDetached k ending v next → LinkKept v → PagingKept p v → PagingKept p next
detached_paged {A = A} p k ending v next m kept paged = subst (PagingKept p) (sym m.gives) (record {
  pages = pages_by p f v.sessions (λ q s is a. a) paged.pages;
  time = time_with p v k (shut ending m.conn) (Some (record m.row { on = None })) v.own v.epoch (alter f v.sessions) v.free (others_by p f v k (λ n q c s here ne found carried is a. a) paged.time) this;
  room = paged.room;
})
  where
    f : ℕ → Session A → Session A
    f = λ q s. lost_if (has (Some m.row.number) q) (s.counted && (has v.here k && has (carries m.conn) q)) s

    this : (q : ℕ) (t : Session A) → v.here ≡ Some k → carries (shut ending m.conn) ≡ Some q → alter f v.sessions q ≡ Some t → IsInTime p (halt (send_down (tail_of ending) m.conn.wires)) (course_of t)
    this q t here carried is =
        let w = was f v.sessions q t is in
        let old : IsInTime p m.conn.wires (course_of w.0) = paged.time k q m.conn w.0 here m.is (shut_carries v k q m.conn m.row ending kept m.is m.is_row m.on carried) w.1 in
        subst (λ (x : Session A). IsInTime p (halt (send_down (tail_of ending) m.conn.wires)) (course_of x)) w.2 (shut_in_time p ending m.conn.wires (course_of w.0) old)

pub uncounted_shut_paged : {A : Type 0} (p : Paging A) (k : ℕ) (ending : Ending) (v next : View A) → IsUncountedShut k ending v next → LinkKept v → PagingKept p v → PagingKept p next
uncounted_shut_paged {A = A} p k ending v next m kept paged = subst (PagingKept p) (sym m.gives) (on_conn p v k (shut ending m.conn) None
    (λ q t here carried is. shut_in_time p ending m.conn.wires (course_of t) (paged.time k q m.conn t here m.is (shut_carries v k q m.conn m.row ending kept m.is m.is_row m.on carried) is)) paged)
