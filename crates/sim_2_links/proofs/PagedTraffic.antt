-- Stanzas, requests and counts keep that pages come in time.
use Rattle.std.proofs.Common.{◌≡◌, ◌≢◌, ℕ, ◌+◌, ◌-◌, ◌≤◌, Bool, true, false, List, [], ◌∷◌, ◌++◌, length, take, drop, refl, sym, ap, ◌∙◌, subst, arith, inl, inr, Some, if◌then◌else◌}
use Rattle.std.proofs.lemmas.Bool.{cases_Bool}
use Rattle.std.proofs.lemmas.List.{append-nil, length_push}
use Rattle.sm_acks.specs.Delivery.{Direction, Reached}
use Rattle.sm_acks.proofs.Directions.{kept_reached}
use Rattle.sim_2_links.proofs.Entries.{same_number, at_same, was, has_is, is_has}
use Rattle.sim_2_links.proofs.Tables.{left_up_whole_down, send_down_whole, send_up_whole_down}
use Rattle.sim_2_links.proofs.CutLinks.{some_one, some_same}
use Rattle.sim_2_links.proofs.Serving.{sent_down}
use Rattle.sim_2_links.proofs.Heard.{same_session}
use Rattle.sim_2_links.proofs.Puts.{putting}
use Rattle.sim_2_links.proofs.Putting.{serving}
use Rattle.sim_2_links.proofs.Promised.{down_count_within}
use Rattle.sim_2_links.proofs.Many.{many_push, many_rises, many_later, many_front, dropped, ended_stanzas, all_ended, none_where, one_where}
use Rattle.sim_2_links.proofs.Paged.{IsPaged, PagesKept, PagingKept, pages_by, others_by, others_same, no_others, time_with, flowing_row, not_flowing, PagesAfter, InTimeAsTaken, InTimeAsRead}
use Rattle.sim_2_links.proofs.PagedWires.{IsRead, none_quiet, count_quiet, word_read, word_taken, word_put, queued_in_time, put_near, put_in_time, asked_in_time}
use Rattle.sim_2_links.specs.Words.{Traffic, St, Req, Ack, up_stanzas, down_stanzas, UpWord, Up, DownWord, Head, Feat, Chal, Succ, Failed, Resumed, Bound, Enabled, Down, Err, End, Client, InHeader1, InFeatures1, InAuth, InResponse, InHeader2, InFeatures2, InResume, InBind, InEnable, InOnline}
use Rattle.sim_2_links.specs.Wires.{is_flowing, down_words, down_whole, send_up, send_down, left_up, left_down}
use Rattle.sim_2_links.specs.Stages.{Conn}
use Rattle.sim_2_links.specs.Views.{with_at, alter, has, Session, Row, Own, View, carried_by, carries}
use Rattle.sim_2_links.specs.LinkMoves.{handled_if, IsUpStanza, stated_if, IsUpRequest, acked_if, IsUpCount, read_if, IsDownStanza, told_if, IsDownRequest, heard_if, IsDownCount}
use Rattle.sim_2_links.specs.SessionMoves.{IsClientPut}
use Rattle.sim_2_links.specs.PutMoves.{IsClientQueued, IsClientRequest, IsServerPut, IsServerQueued, IsServerRequest}
use Rattle.sim_2_links.specs.Links.{GoesDown, LinkKept}
use Rattle.sim_2_links.specs.Paging.{Paging, one_if, many, course_of, MayPut, MayServe, asked_now, asked_then, IsInTime}

-- what was handled is a front of what was put
pub front_asked : {A : Type 0} (test : A → Bool) (d : Direction A) → Reached d → many test (take (length d.got) d.put) ≡ many test d.got
front_asked test d reached =
    let k = kept_reached d reached in
    let whole : d.put ≡ d.got ++ (d.way ++ k.front.0) = k.front.1 ∙ append_two d.got d.way k.front.0 in
    ap (λ l. many test (take (length d.got) l)) whole ∙ many_front test d.got (d.way ++ k.front.0)
  where
    append_two : {B : Type 0} (xs ys zs : List B) → (xs ++ ys) ++ zs ≡ xs ++ (ys ++ zs)
    append_two [] ys zs = refl
    append_two (x ∷ xs) ys zs = ap (λ l. x ∷ l) (append_two xs ys zs)

-- the server takes traffic: its connection carries what it carried

taken_carries : {A : Type 0} (c : Conn A) (t : Traffic A) (rest : List (UpWord A)) (q : ℕ) → carries (record c { wires = send_down [] (left_up rest c.wires) }) ≡ Some q → carries c ≡ Some q
taken_carries {A = A} c t rest q carried =
    ap (carried_by c.client) (sym (send_down_whole [] (left_up rest c.wires) ∙ append-nil (down_whole (left_up rest c.wires)) ∙ left_up_whole_down rest c.wires)) ∙ carried

-- a word of traffic more
carried_with : {A : Type 0} (c : Client) (ws : List (DownWord A)) (t : Traffic A) → carried_by c (ws ++ Down t ∷ []) ≡ carried_by c ws
carried_with (InResume p) [] t = refl
carried_with (InResume p) (Resumed q h ∷ ws) t = refl
carried_with (InResume p) (Head ∷ ws) t = refl
carried_with (InResume p) (Feat ∷ ws) t = refl
carried_with (InResume p) (Chal ∷ ws) t = refl
carried_with (InResume p) (Succ ∷ ws) t = refl
carried_with (InResume p) (Failed ∷ ws) t = refl
carried_with (InResume p) (Bound m ∷ ws) t = refl
carried_with (InResume p) (Enabled m ∷ ws) t = refl
carried_with (InResume p) (Down s ∷ ws) t = refl
carried_with (InResume p) (Err x ∷ ws) t = refl
carried_with (InResume p) (End ∷ ws) t = refl
carried_with InEnable [] t = refl
carried_with InEnable (Resumed q h ∷ ws) t = refl
carried_with InEnable (Head ∷ ws) t = refl
carried_with InEnable (Feat ∷ ws) t = refl
carried_with InEnable (Chal ∷ ws) t = refl
carried_with InEnable (Succ ∷ ws) t = refl
carried_with InEnable (Failed ∷ ws) t = refl
carried_with InEnable (Bound m ∷ ws) t = refl
carried_with InEnable (Enabled m ∷ ws) t = refl
carried_with InEnable (Down s ∷ ws) t = refl
carried_with InEnable (Err x ∷ ws) t = refl
carried_with InEnable (End ∷ ws) t = refl
carried_with (InOnline p) ws t = refl
carried_with InHeader1 ws t = refl
carried_with InFeatures1 ws t = refl
carried_with InAuth ws t = refl
carried_with InResponse ws t = refl
carried_with InHeader2 ws t = refl
carried_with InFeatures2 ws t = refl
carried_with InBind ws t = refl

sent_carries : {A : Type 0} (c : Conn A) (t : Traffic A) (q : ℕ) → carries (sent_down c t) ≡ Some q → carries c ≡ Some q
sent_carries c t q carried = sym (ap (carried_by c.client) (send_down_whole (Down t ∷ []) c.wires) ∙ carried_with c.client (down_whole c.wires) t) ∙ carried

answered_carries : {A : Type 0} (c : Conn A) (t : Traffic A) (rest : List (UpWord A)) (q : ℕ) → carries (record c { wires = send_down (Down t ∷ []) (left_up rest c.wires) }) ≡ Some q → carries c ≡ Some q
answered_carries c t rest q carried =
    sym (ap (carried_by c.client) (send_down_whole (Down t ∷ []) (left_up rest c.wires) ∙ ap (λ l. l ++ Down t ∷ []) (left_up_whole_down rest c.wires)) ∙ carried_with c.client (down_whole c.wires) t) ∙ carried

pub up_stanza_paged : {A : Type 0} (p : Paging A) (k : ℕ) (z : A) (v next : View A) → IsUpStanza k z v next → LinkKept v → PagingKept p v → PagingKept p next
up_stanza_paged {A = A} p k z v next m kept paged = subst (PagingKept p) (sym m.gives) (record {
  pages = pages_by p f v.sessions (λ q s is a. grown q s a) paged.pages;
  time = time_with p v k (record m.conn { wires = send_down [] (left_up m.rest m.conn.wires) }) (Some (record m.row { handled = m.row.handled + 1 })) v.own v.epoch (alter f v.sessions) v.free
      (others_by p f v k (λ n q c s here ne found carried is a. record {
        near = record { read = a.near.read; taken = λ e. dead n q c ne found carried e; handled = λ e. dead n q c ne found carried e };
        last = λ e. dead n q c ne found carried e;
      }) paged.time) this;
  room = paged.room;
})
  where
    f : ℕ → Session A → Session A
    f = λ q s. handled_if (has (Some m.row.number) q) z (up_stanzas m.rest) s

    dead : {C : Type 0} (n q : ℕ) (c : Conn A) → k ≢ n → v.conns n ≡ Some c → carries c ≡ Some q → is_flowing c.wires ≡ true → C
    dead n q c ne found carried e = not_flowing v k n q c m.row kept m.is_row m.on ne found carried e

    more : (b : Bool) (l : List A) → many p.asks l ≤ many p.asks (if b then l ++ z ∷ [] else l)
    more true l = let e = many_push p.asks l z in omega arith
    more false l = omega arith

    grown : (q : ℕ) (s : Session A) → IsPaged p s.down.put (course_of s) → IsPaged p (f q s).down.put (course_of (f q s))
    grown q s a = record { served = (let b = a.served in let c = more (has (Some m.row.number) q) s.up.got in omega arith); asked = a.asked; over = a.over }

    this : InTimeAsTaken p k m.conn m.rest v f
    this q t here carried is =
        let w = was f v.sessions q t is in
        let before : carries m.conn ≡ Some q = taken_carries m.conn (St z) m.rest q carried in
        let old : IsInTime p m.conn.wires (course_of w.0) = paged.time k q m.conn w.0 here m.is before w.1 in
        subst (λ (x : Session A). IsInTime p (send_down [] (left_up m.rest m.conn.wires)) (course_of x)) w.2
        (word_taken p m.conn.wires (course_of w.0) (f q w.0).up.got (Up (St z)) m.rest [] m.first (λ e. mine q w.0 before e) (λ n e. tt) (λ e. refl) old)
      where
        mine : (q : ℕ) (s : Session A) → carries m.conn ≡ Some q → is_flowing m.conn.wires ≡ true → many p.asks (f q s).up.got ≡ many p.asks s.up.got + one_if (p.asks z)
        mine q s before e =
            let a = flowing_row v k q m.conn kept m.is before e in
            let same : m.row.number ≡ q = ap (λ (x : Row A). x.number) (some_one v.row m.row a.0 m.is_row a.1) ∙ a.2 in
            rw (is_has (Some m.row.number) q (ap Some same)) (many_push p.asks s.up.got z)

pub up_request_paged : {A : Type 0} (p : Paging A) (k : ℕ) (v next : View A) → IsUpRequest k v next → LinkKept v → PagingKept p v → PagingKept p next
up_request_paged {A = A} p k v next m kept paged = subst (PagingKept p) (sym m.gives) (record {
  pages = pages_by p f v.sessions (λ q s is a. a) paged.pages;
  time = time_with p v k (record m.conn { wires = send_down (Down (Ack m.row.handled) ∷ []) (left_up m.rest m.conn.wires) }) v.row v.own v.epoch (alter f v.sessions) v.free (others_by p f v k (λ n q c s here ne found carried is a. a) paged.time) this;
  room = paged.room;
})
  where
    f : ℕ → Session A → Session A
    f = λ q s. stated_if (has (Some m.row.number) q) s

    this : (q : ℕ) (t : Session A) → v.here ≡ Some k → carries (record m.conn { wires = send_down (Down (Ack m.row.handled) ∷ []) (left_up m.rest m.conn.wires) }) ≡ Some q → alter f v.sessions q ≡ Some t →
        IsInTime p (send_down (Down (Ack m.row.handled) ∷ []) (left_up m.rest m.conn.wires)) (course_of t)
    this q t here carried is =
        let w = was f v.sessions q t is in
        let before : carries m.conn ≡ Some q = answered_carries m.conn (Ack m.row.handled) m.rest q carried in
        let old : IsInTime p m.conn.wires (course_of w.0) = paged.time k q m.conn w.0 here m.is before w.1 in
        subst (λ (x : Session A). IsInTime p (send_down (Down (Ack m.row.handled) ∷ []) (left_up m.rest m.conn.wires)) (course_of x)) w.2
        (word_taken p m.conn.wires (course_of w.0) w.0.up.got (Up Req) m.rest (Down (Ack m.row.handled) ∷ []) m.first (λ e. let same : many p.asks w.0.up.got ≡ many p.asks w.0.up.got + 0 = omega arith in same) (λ n e. (tt, tt)) (λ e. count q w.0 w.1 before e) old)
      where
        count : (q : ℕ) (s : Session A) → v.sessions q ≡ Some s → carries m.conn ≡ Some q → is_flowing m.conn.wires ≡ true → many p.asks (take m.row.handled s.up.put) ≡ many p.asks s.up.got
        count q s is before e =
            let a = flowing_row v k q m.conn kept m.is before e in
            let row = kept.row m.row m.is_row in
            let number : m.row.number ≡ q = ap (λ (x : Row A). x.number) (some_one v.row m.row a.0 m.is_row a.1) ∙ a.2 in
            let same : row.session ≡ s = some_one (v.sessions q) row.session s (subst (λ n. v.sessions n ≡ Some row.session) number row.is) is in
            let handled : m.row.handled ≡ length s.up.got = row.handled ∙ ap (λ (x : Session A). length x.up.got) same in
            ap (λ n. many p.asks (take n s.up.put)) handled ∙ front_asked p.asks s.up (kept.sessions q s is).up

pub up_count_paged : {A : Type 0} (p : Paging A) (k h : ℕ) (v next : View A) → IsUpCount k h v next → PagingKept p v → PagingKept p next
up_count_paged {A = A} p k h v next m paged = subst (PagingKept p) (sym m.gives) (record {
  pages = pages_by p f v.sessions (λ q s is a. a) paged.pages;
  time = time_with p v k (record m.conn { wires = send_down [] (left_up m.rest m.conn.wires) }) (Some (record m.row { acked = h; queue = drop (h - m.row.acked) m.row.queue })) v.own v.epoch (alter f v.sessions) v.free (others_by p f v k (λ n q c s here ne found carried is a. a) paged.time) this;
  room = paged.room;
})
  where
    f : ℕ → Session A → Session A
    f = λ q s. acked_if (has (Some m.row.number) q) h s

    this : InTimeAsTaken p k m.conn m.rest v f
    this q t here carried is =
        let w = was f v.sessions q t is in
        let old : IsInTime p m.conn.wires (course_of w.0) = paged.time k q m.conn w.0 here m.is (taken_carries m.conn (Ack h) m.rest q carried) w.1 in
        subst (λ (x : Session A). IsInTime p (send_down [] (left_up m.rest m.conn.wires)) (course_of x)) w.2
        (word_taken p m.conn.wires (course_of w.0) w.0.up.got (Up (Ack h)) m.rest [] m.first (λ e. let same : many p.asks w.0.up.got ≡ many p.asks w.0.up.got + 0 = omega arith in same) (λ n e. tt) (λ e. refl) old)

-- the server's puts

pub served_page : {A : Type 0} (p : Paging A) (v : View A) (z : A) (r : Row A) → MayServe p v z → v.row ≡ Some r → (q : ℕ) (s : Session A) → v.sessions q ≡ Some s → IsPaged p s.down.put (course_of s) →
    IsPaged p (serving (has (Some r.number) q) z s).down.put (course_of (serving (has (Some r.number) q) z s))
served_page {A = A} p v z r may is_row q s is a = record { served = by (has (Some r.number) q) refl; asked = a.asked; over = a.over }
  where
    by : (b : Bool) → has (Some r.number) q ≡ b → many p.ends (serving b z s).down.put ≤ many p.asks s.up.got
    by false e = a.served
    by true e =
        let same : Some r.number ≡ Some q = has_is (Some r.number) q e in
        let number : r.number ≡ q = some_same r.number q same in
        let sum = many_push p.ends s.down.put z in
        let old = a.served in
        elim (cases_Bool (p.ends z)) [
          | inl it ↦ let b = may it r s is_row (subst (λ n. v.sessions n ≡ Some s) (sym number) is) in let one = one_where (p.ends z) it in omega arith
          | inr off ↦ let none = none_where (p.ends z) off in omega arith
        ]

pub server_put_paged : {A : Type 0} (p : Paging A) (k : ℕ) (z : A) (v next : View A) → MayServe p v z → IsServerPut k z v next → LinkKept v → PagingKept p v → PagingKept p next
server_put_paged {A = A} p k z v next may m kept paged = subst (PagingKept p) (sym m.gives) (record {
  pages = pages_by p f v.sessions (λ q s is a. served_page p v z m.row may m.is_row q s is a) paged.pages;
  time = time_with p v k (sent_down m.conn (St z)) (Some (record m.row { queue = m.row.queue ++ z ∷ [] })) v.own v.epoch (alter f v.sessions) v.free (others_by p f v k (λ n q c s here ne found carried is a. a) paged.time) this;
  room = paged.room;
})
  where
    f : ℕ → Session A → Session A
    f = λ q s. serving (has (Some m.row.number) q) z s

    this : (q : ℕ) (t : Session A) → v.here ≡ Some k → carries (sent_down m.conn (St z)) ≡ Some q → alter f v.sessions q ≡ Some t → IsInTime p (send_down (Down (St z) ∷ []) m.conn.wires) (course_of t)
    this q t here carried is =
        let w = was f v.sessions q t is in
        let before : carries m.conn ≡ Some q = sent_carries m.conn (St z) q carried in
        let old : IsInTime p m.conn.wires (course_of w.0) = paged.time k q m.conn w.0 here m.is before w.1 in
        subst (λ (x : Session A). IsInTime p (send_down (Down (St z) ∷ []) m.conn.wires) (course_of x)) w.2
        (word_put p m.conn.wires (course_of w.0) (Down (St z)) (λ e. (λ it. in_time q w.0 here before w.1 old e it, tt)) (λ n. refl) old)
      where
        -- the end of a page comes behind the count that acknowledges all requests before the last one
        in_time : (q : ℕ) (s : Session A) → v.here ≡ Some k → carries m.conn ≡ Some q → v.sessions q ≡ Some s → IsInTime p m.conn.wires (course_of s) → is_flowing m.conn.wires ≡ true → p.ends z ≡ true →
            many p.ends s.down.got + all_ended p (down_words m.conn.wires) ≤ asked_then p m.conn.wires (course_of s)
        in_time q s here before is old e it =
            let a = flowing_row v k q m.conn kept m.is before e in
            let number : m.row.number ≡ q = ap (λ (x : Row A). x.number) (some_one v.row m.row a.0 m.is_row a.1) ∙ a.2 in
            let more = may it m.row s m.is_row (subst (λ n. v.sessions n ≡ Some s) (sym number) is) in
            let g = kept.goes_down k m.conn q here m.is before in
            let same : g.0 ≡ s = some_one (v.sessions q) g.0 s g.1 is in
            let goes : GoesDown m.conn s = subst (GoesDown m.conn) same g.2 in
            let whole : s.down.put ≡ s.down.got ++ s.down.way = (kept_reached s.down (kept.sessions q s is).down).whole (goes.is_open ∙ e) in
            let all : many p.ends s.down.put ≡ many p.ends s.down.got + many p.ends s.down.way = ap (many p.ends) whole ∙ many_two p.ends s.down.got s.down.way in
            let way : many p.ends s.down.way ≡ all_ended p (down_words m.conn.wires) = ap (many p.ends) goes.way ∙ sym (ended_stanzas p (down_words m.conn.wires)) in
            let handled = old.near.handled e in
            omega arith
          where
            many_two : (test : A → Bool) (xs ys : List A) → many test (xs ++ ys) ≡ many test xs + many test ys
            many_two test [] ys = omega arith
            many_two test (x ∷ xs) ys = let e = many_two test xs ys in omega arith

pub server_queued_paged : {A : Type 0} (p : Paging A) (z : A) (v next : View A) → MayServe p v z → IsServerQueued z v next → PagingKept p v → PagingKept p next
server_queued_paged {A = A} p z v next may m paged = subst (PagingKept p) (sym m.gives) (record {
  pages = pages_by p f v.sessions (λ q s is a. served_page p v z m.row may m.is_row q s is a) paged.pages;
  time = λ n q c t here found carried is. let w = was f v.sessions q t is in subst (λ (x : Session A). IsInTime p c.wires (course_of x)) w.2 (paged.time n q c w.0 here found carried w.1);
  room = paged.room;
})
  where
    f : ℕ → Session A → Session A
    f = λ q s. serving (has (Some m.row.number) q) z s

pub server_request_paged : {A : Type 0} (p : Paging A) (k : ℕ) (v next : View A) → IsServerRequest k v next → PagingKept p v → PagingKept p next
server_request_paged {A = A} p k v next m paged = subst (PagingKept p) (sym m.gives) (record {
  pages = paged.pages;
  time = time_with p v k (sent_down m.conn Req) v.row v.own v.epoch v.sessions v.free (others_same p v k paged.time)
      (λ q t here carried is. word_put p m.conn.wires (course_of t) (Down Req) (λ e. (tt, tt)) (λ n. refl) (paged.time k q m.conn t here m.is (sent_carries m.conn Req q carried) is));
  room = paged.room;
})

-- the client's puts

put_room : {A : Type 0} (p : Paging A) (v : View A) (z : A) (o : Own A) → MayPut p v z → v.own ≡ Some o → length o.queue ≤ p.most + many p.asks o.queue → length (o.queue ++ z ∷ []) ≤ p.most + many p.asks (o.queue ++ z ∷ [])
put_room p v z o may is low =
    let sum = many_push p.asks o.queue z in
    let len = length_push o.queue z in
    elim (cases_Bool (p.asks z)) [
      | inl it ↦ let one = one_where (p.asks z) it in omega arith
      | inr off ↦ let room = may.room off o is in omega arith
    ]

room_of : {A : Type 0} (p : Paging A) (new o : Own A) → length new.queue ≤ p.most + many p.asks new.queue → Some new ≡ Some o → length o.queue ≤ p.most + many p.asks o.queue
room_of {A = A} p new o low e = subst (λ (x : Own A). length x.queue ≤ p.most + many p.asks x.queue) (some_same new o e) low

put_page : {A : Type 0} (p : Paging A) (v : View A) (z : A) (o : Own A) → MayPut p v z → v.own ≡ Some o → (q : ℕ) (s : Session A) → v.sessions q ≡ Some s → IsPaged p s.down.put (course_of s) →
    IsPaged p (putting (has (Some o.number) q) z s).down.put (course_of (putting (has (Some o.number) q) z s))
put_page {A = A} p v z o may own q s is a = record { served = a.served; asked = asked (has (Some o.number) q) refl; over = over (has (Some o.number) q) }
  where
    over : (b : Bool) → many p.ends s.down.got ≤ many p.asks (take s.up.acked (putting b z s).up.put) + 1
    over false = a.over
    over true = let b = a.over in let c = many_later p.asks s.up.acked s.up.put (z ∷ []) in omega arith

    asked : (b : Bool) → has (Some o.number) q ≡ b → many p.asks (putting b z s).up.put ≤ many p.ends s.down.got + 1
    asked false e = a.asked
    asked true e =
        let number : o.number ≡ q = some_same o.number q (has_is (Some o.number) q e) in
        let sum = many_push p.asks s.up.put z in
        let old = a.asked in
        elim (cases_Bool (p.asks z)) [
          | inl it ↦ let b = may.ended it o s own (subst (λ n. v.sessions n ≡ Some s) (sym number) is) in let one = one_where (p.asks z) it in omega arith
          | inr off ↦ let none = none_where (p.asks z) off in omega arith
        ]

-- what a put changes of the client's session: it is put behind the others
put_course : {A : Type 0} (number : ℕ) (z : A) (s : Session A) → course_of (putting (has (Some number) number) z s) ≡ record (course_of s) { put = s.up.put ++ z ∷ [] }
put_course number z s = rw same_number refl

pub client_put_paged : {A : Type 0} (p : Paging A) (k : ℕ) (z : A) (v next : View A) → p.asks z ≡ false → MayPut p v z → IsClientPut k z v next → PagingKept p v → PagingKept p next
client_put_paged {A = A} p k z v next quiet may m paged = subst (PagingKept p) (sym m.gives) (record {
  pages = pages_by p f v.sessions (λ q s is a. put_page p v z m.own may m.is_own q s is a) paged.pages;
  time = time_with p v k new v.row (Some (record m.own { queue = m.own.queue ++ z ∷ [] })) v.epoch (alter f v.sessions) v.free (no_others p v (alter f v.sessions) k m.here) this;
  room = λ o e. room_of p (record m.own { queue = m.own.queue ++ z ∷ [] }) o (put_room p v z m.own may m.is_own (paged.room m.own m.is_own)) e;
})
  where
    f : ℕ → Session A → Session A
    f = λ q s. putting (has (Some m.own.number) q) z s

    new : Conn A
    new = record m.conn { wires = send_up (Up (St z) ∷ []) m.conn.wires }

    this : (q : ℕ) (t : Session A) → v.here ≡ Some k → carries (record m.conn { wires = send_up (Up (St z) ∷ []) m.conn.wires }) ≡ Some q → alter f v.sessions q ≡ Some t → IsInTime p (send_up (Up (St z) ∷ []) m.conn.wires) (course_of t)
    this q t here carried is =
        let w = was f v.sessions q t is in
        let before : carries m.conn ≡ Some q = ap (carried_by m.conn.client) (sym (send_up_whole_down (Up (St z) ∷ []) m.conn.wires)) ∙ carried in
        let own : Some m.own.number ≡ Some q = sym (ap (λ x. carried_by x (down_whole m.conn.wires)) m.client) ∙ before in
        let number : m.own.number ≡ q = some_same m.own.number q own in
        let old : IsInTime p m.conn.wires (course_of w.0) = paged.time k q m.conn w.0 here m.is before w.1 in
        let course : record (course_of w.0) { put = w.0.up.put ++ z ∷ [] } ≡ course_of t = sym (put_course m.own.number z w.0) ∙ ap (λ n. course_of (f n w.0)) number ∙ ap course_of w.2 in
        subst (IsInTime p (send_up (Up (St z) ∷ []) m.conn.wires)) course (put_in_time p m.conn.wires (course_of w.0) z quiet old)

pub client_queued_paged : {A : Type 0} (p : Paging A) (z : A) (v next : View A) → MayPut p v z → IsClientQueued z v next → PagingKept p v → PagingKept p next
client_queued_paged {A = A} p z v next may m paged = subst (PagingKept p) (sym m.gives) (record {
  pages = pages_by p f v.sessions (λ q s is a. put_page p v z m.own may m.is_own q s is a) paged.pages;
  time = λ n q c t here found carried is. let w = was f v.sessions q t is in subst (λ (x : Session A). IsInTime p c.wires (course_of x)) w.2 (more (has (Some m.own.number) q) c w.0 (paged.time n q c w.0 here found carried w.1));
  room = λ o e. room_of p (record m.own { queue = m.own.queue ++ z ∷ [] }) o (put_room p v z m.own may m.is_own (paged.room m.own m.is_own)) e;
})
  where
    f : ℕ → Session A → Session A
    f = λ q s. putting (has (Some m.own.number) q) z s

    more : (b : Bool) (c : Conn A) (s : Session A) → IsInTime p c.wires (course_of s) → IsInTime p c.wires (course_of (putting b z s))
    more false c s a = a
    more true c s a = queued_in_time p c.wires (course_of s) z a

pub client_request_paged : {A : Type 0} (p : Paging A) (k : ℕ) (v next : View A) → IsClientRequest k v next → PagingKept p v → PagingKept p next
client_request_paged {A = A} p k v next m paged = subst (PagingKept p) (sym m.gives) (record {
  pages = paged.pages;
  time = time_with p v k (record m.conn { wires = send_up (Up Req ∷ []) m.conn.wires }) v.row v.own v.epoch v.sessions v.free (no_others p v v.sessions k m.here)
      (λ q t here carried is. asked_in_time p m.conn.wires (course_of t) (paged.time k q m.conn t here m.is (ap (carried_by m.conn.client) (sym (send_up_whole_down (Up Req ∷ []) m.conn.wires)) ∙ carried) is).near);
  room = paged.room;
})

-- both at once, for any stanza
pub client_says_paged : {A : Type 0} (p : Paging A) (k : ℕ) (z : A) (v mid next : View A) → MayPut p v z → IsClientPut k z v mid → IsClientRequest k mid next → PagingKept p v → PagingKept p next
client_says_paged {A = A} p k z v mid next may m asked paged = subst (PagingKept p) (sym asked.gives) (record {
  pages = subst (λ (x : View A). PagesKept p x.sessions) (sym m.gives) (pages_by p f v.sessions (λ q s is a. put_page p v z m.own may m.is_own q s is a) paged.pages);
  time = λ n q c t here found carried is. by n q c t (subst (λ (x : View A). x.here ≡ Some n) m.gives here) carried (subst (λ (x : View A). x.sessions q ≡ Some t) m.gives is) (entry_of n c found);
  room = subst (λ (x : View A). (o : Own A) → x.own ≡ Some o → length o.queue ≤ p.most + many p.asks o.queue) (sym m.gives) (λ o e. room_of p (record m.own { queue = m.own.queue ++ z ∷ [] }) o (put_room p v z m.own may m.is_own (paged.room m.own m.is_own)) e);
})
  where
    f : ℕ → Session A → Session A
    f = λ q s. putting (has (Some m.own.number) q) z s

    new : Conn A
    new = record m.conn { wires = send_up (Up (St z) ∷ []) m.conn.wires }

    one : asked.conn ≡ record m.conn { wires = send_up (Up (St z) ∷ []) m.conn.wires }
    one = some_one (mid.conns k) asked.conn new asked.is (subst (λ (x : View A). x.conns k ≡ Some new) (sym m.gives) (at_same k new v.conns))

    entry_of : (n : ℕ) (c : Conn A) → with_at k (record asked.conn { wires = send_up (Up Req ∷ []) asked.conn.wires }) mid.conns n ≡ Some c → v.here ≡ Some n → c ≡ record m.conn { wires = send_up (Up Req ∷ []) (send_up (Up (St z) ∷ []) m.conn.wires) }
    entry_of n c found here =
        let same : k ≡ n = some_same k n (sym m.here ∙ here) in
        let this : with_at k (record asked.conn { wires = send_up (Up Req ∷ []) asked.conn.wires }) mid.conns n ≡ Some (record asked.conn { wires = send_up (Up Req ∷ []) asked.conn.wires }) =
        subst (λ x. with_at k (record asked.conn { wires = send_up (Up Req ∷ []) asked.conn.wires }) mid.conns x ≡ Some (record asked.conn { wires = send_up (Up Req ∷ []) asked.conn.wires })) same (at_same k (record asked.conn { wires = send_up (Up Req ∷ []) asked.conn.wires }) mid.conns)
        in
        some_same c (record asked.conn { wires = send_up (Up Req ∷ []) asked.conn.wires }) (sym found ∙ this) ∙ ap (λ (x : Conn A). record x { wires = send_up (Up Req ∷ []) x.wires }) one

    by : (n q : ℕ) (c : Conn A) (t : Session A) → v.here ≡ Some n → carries c ≡ Some q → alter f v.sessions q ≡ Some t → (v.here ≡ Some n → c ≡ record m.conn { wires = send_up (Up Req ∷ []) (send_up (Up (St z) ∷ []) m.conn.wires) }) → IsInTime p c.wires (course_of t)
    by n q c t here carried is same_conn =
        let w = was f v.sessions q t is in
        let this : c ≡ record m.conn { wires = send_up (Up Req ∷ []) (send_up (Up (St z) ∷ []) m.conn.wires) } = same_conn here in
        let own : Some m.own.number ≡ Some q = sym (ap (λ x. carried_by x (down_whole (send_up (Up Req ∷ []) (send_up (Up (St z) ∷ []) m.conn.wires)))) m.client) ∙ sym (ap carries this) ∙ carried in
        let number : m.own.number ≡ q = some_same m.own.number q own in
        let before : carries m.conn ≡ Some q = ap (λ x. carried_by x (down_whole m.conn.wires)) m.client ∙ own in
        let old : IsInTime p m.conn.wires (course_of w.0) = paged.time k q m.conn w.0 m.here m.is before w.1 in
        let course : record (course_of w.0) { put = w.0.up.put ++ z ∷ [] } ≡ course_of t = sym (put_course m.own.number z w.0) ∙ ap (λ n. course_of (f n w.0)) number ∙ ap course_of w.2 in
        subst (λ (x : Conn A). IsInTime p x.wires (course_of t)) (sym this) (subst (IsInTime p (send_up (Up Req ∷ []) (send_up (Up (St z) ∷ []) m.conn.wires))) course
        (asked_in_time p (send_up (Up (St z) ∷ []) m.conn.wires) (record (course_of w.0) { put = w.0.up.put ++ z ∷ [] }) (put_near p m.conn.wires (course_of w.0) z old)))

-- the client takes traffic

heard_carries : {A : Type 0} (c : Conn A) (number q : ℕ) (ups : List (UpWord A)) (rest : List (DownWord A)) → c.client ≡ InOnline number → carries (record c { wires = send_up ups (left_down rest c.wires) }) ≡ Some q → number ≡ q
heard_carries c number q ups rest client carried = some_same number q (sym (ap (λ x. carried_by x (down_whole (send_up ups (left_down rest c.wires)))) client) ∙ carried)

online_carries : {A : Type 0} (c : Conn A) (number q : ℕ) → c.client ≡ InOnline number → number ≡ q → carries c ≡ Some q
online_carries c number q client same = ap (λ x. carried_by x (down_whole c.wires)) client ∙ ap Some same

pub down_stanza_paged : {A : Type 0} (p : Paging A) (k : ℕ) (z : A) (v next : View A) → IsDownStanza k z v next → PagingKept p v → PagingKept p next
down_stanza_paged {A = A} p k z v next m paged = subst (PagingKept p) (sym m.gives) (record {
  pages = pages_by p f v.sessions (λ q s is a. page q s is a) paged.pages;
  time = time_with p v k new v.row (Some (record m.own { handled = m.own.handled + 1 })) v.epoch (alter f v.sessions) v.free (no_others p v (alter f v.sessions) k m.here) this;
  room = λ o e. room_of p (record m.own { handled = m.own.handled + 1 }) o (paged.room m.own m.is_own) e;
})
  where
    f : ℕ → Session A → Session A
    f = λ q s. read_if (has (Some m.own.number) q) z (down_stanzas m.rest) s

    new : Conn A
    new = record m.conn { wires = send_up [] (left_down m.rest m.conn.wires) }

    page : PagesAfter p v f
    page q s is a = by (has (Some m.own.number) q) refl
      where
        by : (b : Bool) → has (Some m.own.number) q ≡ b → IsPaged p s.down.put (course_of (read_if b z (down_stanzas m.rest) s))
        by false e = a
        by true e =
            let number : m.own.number ≡ q = some_same m.own.number q (has_is (Some m.own.number) q e) in
            let old : IsInTime p m.conn.wires (course_of s) = paged.time k q m.conn s m.here m.is (online_carries m.conn m.own.number q m.client number) is in
            let first : (p.ends z ≡ true → many p.ends s.down.got ≤ asked_now p (course_of s)) × _ = subst (λ ws. IsRead p ws (course_of s)) m.first old.near.read in
            let sum = many_push p.ends s.down.got z in
            record {
              served = a.served;
              asked = (let low = a.asked in omega arith);
              over = elim (cases_Bool (p.ends z)) [
                | inl it ↦ let low = first.0 it in let one = one_where (p.ends z) it in omega arith
                | inr off ↦ let low = a.over in let none = none_where (p.ends z) off in omega arith
              ];
            }

    heard : (s : Session A) → course_of (f m.own.number s) ≡ record (course_of s) { heard = s.down.got ++ z ∷ [] }
    heard s = rw same_number refl

    this : InTimeAsRead p k m.conn m.rest v f
    this q t here carried is =
        let w = was f v.sessions q t is in
        let number : m.own.number ≡ q = heard_carries m.conn m.own.number q [] m.rest m.client carried in
        let old : IsInTime p m.conn.wires (course_of w.0) = paged.time k q m.conn w.0 here m.is (online_carries m.conn m.own.number q m.client number) w.1 in
        let course : record (course_of w.0) { heard = w.0.down.got ++ z ∷ [] } ≡ course_of t = sym (heard w.0) ∙ ap (λ n. course_of (f n w.0)) number ∙ ap course_of w.2 in
        subst (IsInTime p (send_up [] (left_down m.rest m.conn.wires))) course
        (word_read p m.conn.wires (course_of w.0) w.0.up.acked (w.0.down.got ++ z ∷ []) (Down (St z)) m.rest [] m.first refl (many_push p.ends w.0.down.got z) (none_quiet p) old)

pub down_request_paged : {A : Type 0} (p : Paging A) (k : ℕ) (v next : View A) → IsDownRequest k v next → PagingKept p v → PagingKept p next
down_request_paged {A = A} p k v next m paged = subst (PagingKept p) (sym m.gives) (record {
  pages = pages_by p f v.sessions (λ q s is a. a) paged.pages;
  time = time_with p v k (record m.conn { wires = send_up (Up (Ack m.own.handled) ∷ []) (left_down m.rest m.conn.wires) }) v.row v.own v.epoch (alter f v.sessions) v.free (no_others p v (alter f v.sessions) k m.here) this;
  room = paged.room;
})
  where
    f : ℕ → Session A → Session A
    f = λ q s. told_if (has (Some m.own.number) q) s

    this : (q : ℕ) (t : Session A) → v.here ≡ Some k → carries (record m.conn { wires = send_up (Up (Ack m.own.handled) ∷ []) (left_down m.rest m.conn.wires) }) ≡ Some q → alter f v.sessions q ≡ Some t →
        IsInTime p (send_up (Up (Ack m.own.handled) ∷ []) (left_down m.rest m.conn.wires)) (course_of t)
    this q t here carried is =
        let w = was f v.sessions q t is in
        let number : m.own.number ≡ q = heard_carries m.conn m.own.number q (Up (Ack m.own.handled) ∷ []) m.rest m.client carried in
        let old : IsInTime p m.conn.wires (course_of w.0) = paged.time k q m.conn w.0 here m.is (online_carries m.conn m.own.number q m.client number) w.1 in
        subst (λ (x : Session A). IsInTime p (send_up (Up (Ack m.own.handled) ∷ []) (left_down m.rest m.conn.wires)) (course_of x)) w.2
        (word_read p m.conn.wires (course_of w.0) w.0.up.acked w.0.down.got (Down Req) m.rest (Up (Ack m.own.handled) ∷ []) m.first refl (let same : many p.ends w.0.down.got ≡ many p.ends w.0.down.got + 0 = omega arith in same) (count_quiet p m.own.handled) old)

pub down_count_paged : {A : Type 0} (p : Paging A) (k h : ℕ) (v next : View A) → IsDownCount k h v next → LinkKept v → PagingKept p v → PagingKept p next
down_count_paged {A = A} p k h v next m kept paged = subst (PagingKept p) (sym m.gives) (record {
  pages = pages_by p f v.sessions (λ q s is a. page q s is a) paged.pages;
  time = time_with p v k (record m.conn { wires = send_up [] (left_down m.rest m.conn.wires) }) v.row (Some (record m.own { acked = h; queue = drop (h - m.own.acked) m.own.queue })) v.epoch (alter f v.sessions) v.free (no_others p v (alter f v.sessions) k m.here) this;
  room = λ o e. room_of p (record m.own { acked = h; queue = drop (h - m.own.acked) m.own.queue }) o (dropped p.asks p.most (h - m.own.acked) m.own.queue (paged.room m.own m.is_own)) e;
})
  where
    f : ℕ → Session A → Session A
    f = λ q s. heard_if (has (Some m.own.number) q) h s

    page : PagesAfter p v f
    page q s is a = record { served = a.served; asked = a.asked; over = by (has (Some m.own.number) q) refl }
      where
        by : (b : Bool) → has (Some m.own.number) q ≡ b → many p.ends s.down.got ≤ many p.asks (take (heard_if b h s).up.acked s.up.put) + 1
        by false e = a.over
        by true e =
            let within = down_count_within v k h m.conn m.own m.rest kept m.here m.is m.is_own m.first in
            let own = kept.own m.own m.is_own in
            let same : own.session ≡ s = same_session v m.own.number q own.session s own.is e is in
            let acked : m.own.acked ≡ s.up.acked = own.acked ∙ ap (λ (x : Session A). x.up.acked) same in
            let low = within.low in
            let rises : s.up.acked ≤ h = omega arith in
            let more = many_rises p.asks s.up.acked h s.up.put rises in
            let old = a.over in
            omega arith

    heard : (s : Session A) → course_of (f m.own.number s) ≡ record (course_of s) { acked = h }
    heard s = rw same_number refl

    this : InTimeAsRead p k m.conn m.rest v f
    this q t here carried is =
        let w = was f v.sessions q t is in
        let number : m.own.number ≡ q = heard_carries m.conn m.own.number q [] m.rest m.client carried in
        let old : IsInTime p m.conn.wires (course_of w.0) = paged.time k q m.conn w.0 here m.is (online_carries m.conn m.own.number q m.client number) w.1 in
        let course : record (course_of w.0) { acked = h } ≡ course_of t = sym (heard w.0) ∙ ap (λ n. course_of (f n w.0)) number ∙ ap course_of w.2 in
        subst (IsInTime p (send_up [] (left_down m.rest m.conn.wires))) course
        (word_read p m.conn.wires (course_of w.0) h w.0.down.got (Down (Ack h)) m.rest [] m.first refl (let same : many p.ends w.0.down.got ≡ many p.ends w.0.down.got + 0 = omega arith in same) (none_quiet p) old)
