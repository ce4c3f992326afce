-- Sessions that are counted and resumed keep that pages come in time.
use Rattle.std.proofs.Common.{◌≡◌, ℕ, ◌+◌, ◌-◌, ◌≤◌, Bool, true, false, List, [], ◌∷◌, ◌++◌, length, take, drop, map, refl, sym, ap, ◌∙◌, subst, arith, Some, if◌then◌else◌}
use Rattle.std.proofs.lemmas.List.{drop-drop}
use Rattle.sm_acks.specs.Delivery.{Direction, Reached, queue_of}
use Rattle.sm_acks.proofs.Directions.{kept_reached}
use Rattle.sim_2_links.proofs.Entries.{same_number, was, is_has}
use Rattle.sim_2_links.proofs.Tables.{left_up_whole, left_up_whole_down, left_down_whole, send_down_whole}
use Rattle.sim_2_links.proofs.CutLinks.{some_one, some_same}
use Rattle.sim_2_links.proofs.Hands.{taken_stands, up_words_down, flow_down, flow_up}
use Rattle.sim_2_links.proofs.Resumption.{asks, down_none, AsksFirst, asks_first}
use Rattle.sim_2_links.proofs.ReadResumed.{Reads, reads, up_none, resent_if}
use Rattle.sim_2_links.proofs.ReadEnabled.{known_if}
use Rattle.sim_2_links.proofs.Enabling.{AsksEnabled, asks_enabled, enabled_if}
use Rattle.sim_2_links.proofs.Heard.{down_words_up}
use Rattle.sim_2_links.proofs.Prompt.{flowing_up_left, flowing_down_left}
use Rattle.sim_2_links.proofs.Many.{many_split, many_rises, dropped, ends_sent, covered_sent, again_taken, again_last}
use Rattle.sim_2_links.proofs.Paged.{PagingKept, pages_by, others_by, no_others, time_with, PagesAfter, InTimeAfter}
use Rattle.sim_2_links.proofs.PagedWires.{IsRead, none_quiet, word_read}
use Rattle.sim_2_links.proofs.PagedTraffic.{front_asked}
use Rattle.sim_2_links.specs.Words.{St, UpWord, ResumeAt, Enable, Resumed, Enabled, Down, InResume, InEnable, InOnline, AtSession}
use Rattle.sim_2_links.specs.Wires.{Wires, Flow, Stop, is_flowing, up_words, down_words, up_whole, down_whole, send_up, send_down, left_up, left_down}
use Rattle.sim_2_links.specs.Stages.{AsksResume, Resumes, client_of, down_of, up_of, Stands, tail_of, foot_of, Conn}
use Rattle.sim_2_links.specs.Views.{alter, has, Session, Own, View, carried_by, carries}
use Rattle.sim_2_links.specs.SessionMoves.{again, resumed_if, IsResumedHere, IsReadResumed, IsEnabled, IsReadEnabled}
use Rattle.sim_2_links.specs.Links.{FitsOwn, ConnKept, RowKept, OwnKept, LinkKept}
use Rattle.sim_2_links.specs.Paging.{Paging, many, Course, course_of, AreReadInTime, covered, AreTakenInTime, all_asked, covered_in, asked_now, asked_then, IsInTime}

-- what was handled of a direction, and the rest

front_and_rest : {A : Type 0} (test : A → Bool) (d : Direction A) → Reached d → many test d.got + many test (drop (length d.got) d.put) ≡ many test d.put
front_and_rest test d reached = let a = front_asked test d reached in let b = many_split test (length d.got) d.put in omega arith

pub handled_below : {A : Type 0} (test : A → Bool) (d : Direction A) → Reached d → many test d.got ≤ many test d.put
handled_below test d reached = let a = front_and_rest test d reached in omega arith

-- the queue behind the stanzas that were handled
queue_rest : {A : Type 0} (d : Direction A) (acked h : ℕ) (queue : List A) → Reached d → acked ≡ d.acked → queue ≡ queue_of d → h ≡ length d.got → drop (h - acked) queue ≡ drop (length d.got) d.put
queue_rest d acked h queue reached is_acked is count =
    let k = kept_reached d reached in
    let low = k.acked in
    let sum : d.acked + (h - acked) ≡ length d.got = omega arith in
    ap (drop (h - acked)) is ∙ drop-drop (h - acked) d.acked d.put ∙ ap (λ n. drop n d.put) sum

left_words : {A : Type 0} (rest : List (UpWord A)) (x : Wires A) → up_words (left_up rest x) ≡ rest
left_words rest (Flow us ds) = refl
left_words rest (Stop us ds lu ld) = refl

-- nothing else goes up
none_after_it : {A : Type 0} (rest : List (UpWord A)) (x : Wires A) → up_whole (left_up rest x) ≡ [] → rest ≡ []
none_after_it rest x e = sym (left_words rest x) ∙ up_none (left_up rest x) e

-- the server counts a session, of which nothing was put

begun_in_time : {A : Type 0} (p : Paging A) (x : Wires A) (t : Course A) → t.got ≡ [] → up_words x ≡ [] → IsRead p (down_words x) t → IsInTime p x t
begun_in_time p x t none quiet read = record {
  near = record {
    read = read;
    taken = λ e. subst (λ ws. AreTakenInTime p (asked_then p x t) (many p.asks t.got) ws) (sym quiet) tt;
    handled = λ e. let zero : many p.asks t.got ≡ 0 = ap (many p.asks) none in omega arith;
  };
  last = λ e. subst (λ ws. many p.asks t.got + all_asked p ws ≤ covered_in p (asked_then p x t) (many p.asks t.got) ws) (sym quiet) (let zero : many p.asks t.got ≡ 0 = ap (many p.asks) none in omega arith);
}

enabled_words : {A : Type 0} (p : Paging A) (put : List A) (m e number : ℕ) (rest : List (UpWord A)) (x : Wires A) → down_words x ≡ [] → AreReadInTime p put m e (down_words (send_down (Enabled number ∷ []) (left_up rest x)))
enabled_words p put m e number rest (Flow us ds) none = subst (λ l. AreReadInTime p put m e (l ++ Enabled number ∷ [])) (sym none) (tt, tt)
enabled_words p put m e number rest (Stop us ds lu ld) none = subst (λ l. AreReadInTime p put m e l) (sym none) tt

pub enabled_paged : {A : Type 0} (p : Paging A) (k : ℕ) (v next : View A) → IsEnabled k v next → LinkKept v → PagingKept p v → PagingKept p next
enabled_paged {A = A} p k v next m kept paged = subst (PagingKept p) (sym m.gives) (record {
  pages = pages_by p f v.sessions (λ q s is a. a) paged.pages;
  time = time_with p v k (record m.conn { wires = send_down (Enabled m.row.number ∷ []) (left_up m.rest m.conn.wires) }) (Some (record m.row { counted = true })) v.own v.epoch (alter f v.sessions) v.free (others_by p f v k (λ n q c s here ne found carried is a. a) paged.time) this;
  room = paged.room;
})
  where
    f : ℕ → Session A → Session A
    f = λ q s. enabled_if (has (Some m.row.number) q) (is_flowing m.conn.wires) s

    old : ConnKept v k m.conn
    old = kept.conns k m.conn m.is

    asking : AsksEnabled old.stage (foot_of m.conn.footed) (up_whole (left_up m.rest m.conn.wires))
    asking = asks_enabled old.stage m.conn.footed (up_whole (left_up m.rest m.conn.wires)) (sym old.at.up ∙ left_up_whole Enable m.rest m.conn.wires m.first)

    stands : m.conn.ending ≡ Stands
    stands = taken_stands (has v.here k) m.conn Enable m.rest old.piped m.first

    none : down_whole m.conn.wires ≡ []
    none = old.at.down ∙ ap (λ x. down_of x ++ tail_of m.conn.ending) asking.is ∙ ap tail_of stands

    row : RowKept v.conns v.sessions m.row
    row = kept.row m.row m.is_row

    carried_is : (q : ℕ) → carries (record m.conn { wires = send_down (Enabled m.row.number ∷ []) (left_up m.rest m.conn.wires) }) ≡ Some q → m.row.number ≡ q
    carried_is q carried =
        let client : m.conn.client ≡ InEnable = old.at.client ∙ ap client_of asking.is in
        let whole : down_whole (send_down (Enabled m.row.number ∷ []) (left_up m.rest m.conn.wires)) ≡ Enabled m.row.number ∷ [] =
        send_down_whole (Enabled m.row.number ∷ []) (left_up m.rest m.conn.wires) ∙ ap (λ l. l ++ Enabled m.row.number ∷ []) (left_up_whole_down m.rest m.conn.wires ∙ none)
        in
        some_same m.row.number q (sym (ap (λ x. carried_by x (down_whole (send_down (Enabled m.row.number ∷ []) (left_up m.rest m.conn.wires)))) client ∙ ap (carried_by InEnable) whole) ∙ carried)

    this : (q : ℕ) (t : Session A) → v.here ≡ Some k → carries (record m.conn { wires = send_down (Enabled m.row.number ∷ []) (left_up m.rest m.conn.wires) }) ≡ Some q → alter f v.sessions q ≡ Some t →
        IsInTime p (send_down (Enabled m.row.number ∷ []) (left_up m.rest m.conn.wires)) (course_of t)
    this q t here carried is =
        let w = was f v.sessions q t is in
        let number : m.row.number ≡ q = carried_is q carried in
        let same : row.session ≡ w.0 = some_one (v.sessions q) row.session w.0 (subst (λ n. v.sessions n ≡ Some row.session) number row.is) w.1 in
        let yet : w.0.counted ≡ false = ap (λ (x : Session A). x.counted) (sym same) ∙ sym row.counted ∙ m.uncounted in
        let begun = (kept.sessions q w.0 w.1).begun yet in
        let unfooted : m.conn.footed ≡ false = old.piped.unfooted (is_has v.here k here) in
        let rest : m.rest ≡ [] = none_after_it m.rest m.conn.wires (sym asking.left ∙ ap foot_of unfooted) in
        subst (λ (x : Session A). IsInTime p (send_down (Enabled m.row.number ∷ []) (left_up m.rest m.conn.wires)) (course_of x)) w.2
        (begun_in_time p (send_down (Enabled m.row.number ∷ []) (left_up m.rest m.conn.wires)) (course_of w.0) (ap (λ (d : Direction A). d.got) begun.0) (up_words_down (Enabled m.row.number ∷ []) m.rest m.conn.wires ∙ rest)
        (enabled_words p w.0.up.put (asked_now p (course_of w.0)) (many p.ends w.0.down.got) m.row.number m.rest m.conn.wires (down_none m.conn.wires none)))

pub read_enabled_paged : {A : Type 0} (p : Paging A) (k number : ℕ) (v next : View A) → IsReadEnabled k number v next → PagingKept p v → PagingKept p next
read_enabled_paged {A = A} p k number v next m paged = subst (PagingKept p) (sym m.gives) (record {
  pages = pages_by p f v.sessions (λ q s is a. a) paged.pages;
  time = time_with p v k (record m.conn { client = InOnline number; wires = send_up [] (left_down m.rest m.conn.wires) }) v.row (Some new) v.epoch (alter f v.sessions) v.free (no_others p v (alter f v.sessions) k m.here) this;
  room = λ o e. subst (λ (x : Own A). length x.queue ≤ p.most + many p.asks x.queue) (some_same new o e) (omega arith);
})
  where
    f : ℕ → Session A → Session A
    f = λ q s. known_if (has (Some number) q) s

    new : Own A
    new = record { number = number; acked = 0; handled = 0; queue = [] }

    this : (q : ℕ) (t : Session A) → v.here ≡ Some k → carries (record m.conn { client = InOnline number; wires = send_up [] (left_down m.rest m.conn.wires) }) ≡ Some q → alter f v.sessions q ≡ Some t → IsInTime p (send_up [] (left_down m.rest m.conn.wires)) (course_of t)
    this q t here carried is =
        let w = was f v.sessions q t is in
        let before : carries m.conn ≡ Some number = ap (λ x. carried_by x (down_whole m.conn.wires)) m.client ∙ ap (carried_by InEnable) (left_down_whole (Enabled number) m.rest m.conn.wires m.first) in
        let same : number ≡ q = some_same number q carried in
        let old : IsInTime p m.conn.wires (course_of w.0) = paged.time k q m.conn w.0 here m.is (before ∙ ap Some same) w.1 in
        subst (λ (x : Session A). IsInTime p (send_up [] (left_down m.rest m.conn.wires)) (course_of x)) w.2
        (word_read p m.conn.wires (course_of w.0) w.0.up.acked w.0.down.got (Enabled number) m.rest [] m.first refl (let zero : many p.ends w.0.down.got ≡ many p.ends w.0.down.got + 0 = omega arith in zero) (none_quiet p) old)

-- the server resumes a session: all that the client has handled is acknowledged by the first word

resumed_words : {A : Type 0} (p : Paging A) (put : List A) (m e number n : ℕ) (zs : List A) (rest : List (UpWord A)) (x : Wires A) → down_words x ≡ [] → e + many p.ends zs ≤ many p.asks (take n put) →
    AreReadInTime p put m e (down_words (send_down (Resumed number n ∷ map Down (map St zs)) (left_up rest x)))
resumed_words p put m e number n zs rest (Flow us ds) none low = subst (λ l. AreReadInTime p put m e (l ++ Resumed number n ∷ map Down (map St zs))) (sym none) (tt, ends_sent p put (many p.asks (take n put)) (e + 0) zs (let less : e + 0 + many p.ends zs ≤ many p.asks (take n put) = omega arith in less))
resumed_words p put m e number n zs rest (Stop us ds lu ld) none low = subst (λ l. AreReadInTime p put m e l) (sym none) tt

resumed_covers : {A : Type 0} (p : Paging A) (put : List A) (m number n : ℕ) (zs : List A) (rest : List (UpWord A)) (x : Wires A) → down_words x ≡ [] → is_flowing x ≡ true →
    covered p put m (down_words (send_down (Resumed number n ∷ map Down (map St zs)) (left_up rest x))) ≡ many p.asks (take n put)
resumed_covers p put m number n zs rest x none flows = ap (covered p put m) (flowing_down_left (Resumed number n ∷ map Down (map St zs)) rest x flows ∙ ap (λ l. l ++ Resumed number n ∷ map Down (map St zs)) none) ∙ covered_sent p put (many p.asks (take n put)) zs

pub resumed_here_paged : {A : Type 0} (p : Paging A) (k : ℕ) (v next : View A) → IsResumedHere k v next → LinkKept v → PagingKept p v → PagingKept p next
resumed_here_paged {A = A} p k v next m kept paged = subst (PagingKept p) (sym m.gives) (record {
  pages = pages_by p f v.sessions (λ q s is a. a) paged.pages;
  time = time_with p v k new (Some (record m.row { on = Some k; acked = m.h; queue = drop (m.h - m.row.acked) m.row.queue })) v.own v.epoch (alter f v.sessions) v.free (no_others p v (alter f v.sessions) k m.here) this;
  room = paged.room;
})
  where
    f : ℕ → Session A → Session A
    f = λ q s. resumed_if (has (Some m.row.number) q) (is_flowing m.conn.wires) s

    queue : List A
    queue = drop (m.h - m.row.acked) m.row.queue

    new : Conn A
    new = record m.conn { phase = AtSession m.row.number; wires = send_down (Resumed m.row.number m.row.handled ∷ map Down (map St (drop (m.h - m.row.acked) m.row.queue))) (left_up m.rest m.conn.wires) }

    old : ConnKept v k m.conn
    old = kept.conns k m.conn m.is

    works : has v.here k ≡ true
    works = is_has v.here k m.here

    asking : AsksFirst old.stage m.conn m.row.number m.h m.rest
    asking = asks_first old.stage m.conn m.row.number m.h m.rest old.at m.first

    stands : m.conn.ending ≡ Stands
    stands = taken_stands (has v.here k) m.conn (ResumeAt m.row.number m.h) m.rest old.piped m.first

    none : down_whole m.conn.wires ≡ []
    none = old.at.down ∙ ap (λ x. down_of x ++ tail_of m.conn.ending) asking.is ∙ ap tail_of stands

    no_down : down_words m.conn.wires ≡ []
    no_down = down_none m.conn.wires none

    no_rest : m.rest ≡ []
    no_rest = none_after_it m.rest m.conn.wires (sym asking.left ∙ ap foot_of (old.piped.unfooted works))

    row : RowKept v.conns v.sessions m.row
    row = kept.row m.row m.is_row

    count : m.h ≡ length row.session.down.got
    count =
        let fits : FitsOwn v.own v.epoch v.sessions (AsksResume m.row.number m.h) = subst (λ s. FitsOwn v.own v.epoch v.sessions s) asking.is (old.fits works) in
        let o = kept.own fits.0 fits.1 in
        let same : o.session ≡ row.session = some_one (v.sessions m.row.number) o.session row.session (subst (λ (x : ℕ). v.sessions x ≡ Some o.session) fits.2 o.is) row.is in
        sym fits.3 ∙ o.handled ∙ ap (λ (x : Session A). length x.down.got) same

    carried_is : (q : ℕ) → carries new ≡ Some q → m.row.number ≡ q
    carried_is q carried =
        let client : m.conn.client ≡ InResume m.row.number = old.at.client ∙ ap client_of asking.is in
        let whole : down_whole new.wires ≡ Resumed m.row.number m.row.handled ∷ map Down (map St queue) =
        send_down_whole (Resumed m.row.number m.row.handled ∷ map Down (map St queue)) (left_up m.rest m.conn.wires) ∙ ap (λ l. l ++ Resumed m.row.number m.row.handled ∷ map Down (map St queue)) (left_up_whole_down m.rest m.conn.wires ∙ none)
        in
        some_same m.row.number q (sym (ap (λ x. carried_by x (down_whole new.wires)) client ∙ ap (carried_by (InResume m.row.number)) whole) ∙ carried)

    mine : IsInTime p new.wires (course_of row.session)
    mine =
        let s : Session A = row.session in
        let a = paged.pages m.row.number row.session row.is in
        let k_down = (kept.sessions m.row.number row.session row.is).down in
        let zs : drop (m.h - m.row.acked) m.row.queue ≡ drop (length row.session.down.got) row.session.down.put = queue_rest row.session.down m.row.acked m.h m.row.queue k_down row.acked row.queue count in
        let ends : many p.ends row.session.down.got + many p.ends (drop (m.h - m.row.acked) m.row.queue) ≡ many p.ends row.session.down.put = ap (λ l. many p.ends row.session.down.got + many p.ends l) zs ∙ front_and_rest p.ends row.session.down k_down in
        let handled : many p.asks (take m.row.handled row.session.up.put) ≡ many p.asks row.session.up.got = ap (λ n. many p.asks (take n row.session.up.put)) row.handled ∙ front_asked p.asks row.session.up (kept.sessions m.row.number row.session row.is).up in
        let up : up_words new.wires ≡ [] = up_words_down (Resumed m.row.number m.row.handled ∷ map Down (map St queue)) m.rest m.conn.wires ∙ no_rest in
        let low : many p.ends row.session.down.got + many p.ends (drop (m.h - m.row.acked) m.row.queue) ≤ many p.asks (take m.row.handled row.session.up.put) = let served = a.served in omega arith in
        record {
          near = record {
            read = resumed_words p row.session.up.put (asked_now p (course_of row.session)) (many p.ends row.session.down.got) m.row.number m.row.handled (drop (m.h - m.row.acked) m.row.queue) m.rest m.conn.wires no_down low;
            taken = λ e. subst (λ ws. AreTakenInTime p (asked_then p new.wires (course_of row.session)) (many p.asks row.session.up.got) ws) (sym up) tt;
            handled = λ e. let c = covers e in omega arith;
          };
          last = λ e. subst (λ ws. many p.asks row.session.up.got + all_asked p ws ≤ covered_in p (asked_then p new.wires (course_of row.session)) (many p.asks row.session.up.got) ws) (sym up) (let c = covers e in omega arith);
        }
      where
        covers : is_flowing new.wires ≡ true → asked_then p new.wires (course_of row.session) ≡ many p.asks (take m.row.handled row.session.up.put)
        covers e = resumed_covers p row.session.up.put (asked_now p (course_of row.session)) m.row.number m.row.handled (drop (m.h - m.row.acked) m.row.queue) m.rest m.conn.wires no_down
            (sym (flow_down (Resumed m.row.number m.row.handled ∷ map Down (map St queue)) m.rest m.conn.wires) ∙ e)

    this : InTimeAfter p k new v f
    this q t here carried is =
        let w = was f v.sessions q t is in
        let number : m.row.number ≡ q = carried_is q carried in
        let same : row.session ≡ w.0 = some_one (v.sessions q) row.session w.0 (subst (λ n. v.sessions n ≡ Some row.session) number row.is) w.1 in
        subst (λ (x : Session A). IsInTime p new.wires (course_of x)) w.2 (subst (λ (x : Session A). IsInTime p new.wires (course_of x)) same mine)

-- the client reads this

pub read_resumed_paged : {A : Type 0} (p : Paging A) (k : ℕ) (v next : View A) → IsReadResumed k v next → LinkKept v → PagingKept p v → PagingKept p next
read_resumed_paged {A = A} p k v next m kept paged = subst (PagingKept p) (sym m.gives) (record {
  pages = pages_by p f v.sessions (λ q s is a. page q s is a) paged.pages;
  time = time_with p v k new v.row (Some own) v.epoch (alter f v.sessions) v.free (no_others p v (alter f v.sessions) k m.here) this;
  room = λ o e. subst (λ (x : Own A). length x.queue ≤ p.most + many p.asks x.queue) (some_same own o e) (dropped p.asks p.most (m.h - m.own.acked) m.own.queue (paged.room m.own m.is_own));
})
  where
    f : ℕ → Session A → Session A
    f = λ q s. resent_if (has (Some m.own.number) q) (is_flowing m.conn.wires) s

    queue : List A
    queue = drop (m.h - m.own.acked) m.own.queue

    own : Own A
    own = record m.own { acked = m.h; queue = drop (m.h - m.own.acked) m.own.queue }

    new : Conn A
    new = record m.conn { client = InOnline m.own.number; wires = send_up (again (drop (m.h - m.own.acked) m.own.queue)) (left_down m.rest m.conn.wires) }

    old : ConnKept v k m.conn
    old = kept.conns k m.conn m.is

    works : has v.here k ≡ true
    works = is_has v.here k m.here

    r : Reads old.stage m.own.number m.h (tail_of m.conn.ending) (down_whole (left_down m.rest m.conn.wires))
    r = reads old.stage m.conn.ending m.own.number m.h (down_whole (left_down m.rest m.conn.wires)) (sym old.at.down ∙ left_down_whole (Resumed m.own.number m.h) m.rest m.conn.wires m.first)

    fits : FitsOwn v.own v.epoch v.sessions (Resumes m.own.number m.h r.downs)
    fits = subst (λ x. FitsOwn v.own v.epoch v.sessions x) r.is (old.fits works)

    empty_up : up_words m.conn.wires ≡ []
    empty_up = up_none m.conn.wires (old.at.up ∙ ap (λ x. up_of x ++ foot_of m.conn.footed) r.is ∙ ap foot_of (old.piped.unfooted works))

    mine : OwnKept v.epoch v.sessions m.own
    mine = kept.own m.own m.is_own

    -- the client's session, and what the word says of it
    count : m.h ≡ length mine.session.up.got
    count = (fits.1 mine.session mine.is).0

    carried : carries m.conn ≡ Some m.own.number
    carried = ap (λ x. carried_by x (down_whole m.conn.wires)) m.client ∙ ap (carried_by (InResume m.own.number)) (left_down_whole (Resumed m.own.number m.h) m.rest m.conn.wires m.first)

    page : PagesAfter p v f
    page q s is a = record { served = a.served; asked = a.asked; over = by (has (Some m.own.number) q) }
      where
        by : (b : Bool) → many p.ends s.down.got ≤ many p.asks (take (if b then length s.up.got else s.up.acked) s.up.put) + 1
        by false = a.over
        by true =
            let k = kept_reached s.up (kept.sessions q s is).up in
            let more = many_rises p.asks s.up.acked (length s.up.got) s.up.put k.acked in
            let low = a.over in
            omega arith

    time : IsInTime p m.conn.wires (course_of mine.session)
    time = paged.time k m.own.number m.conn mine.session m.here m.is carried mine.is

    course : (s : Session A) → course_of (f m.own.number s) ≡ record (course_of s) { acked = length s.up.got }
    course s = rw same_number refl

    resumed : IsInTime p new.wires (record (course_of mine.session) { acked = length mine.session.up.got })
    resumed = record {
      near = record {
        read = subst (λ ws. AreReadInTime p mine.session.up.put (many p.asks (take (length mine.session.up.got) mine.session.up.put)) (many p.ends mine.session.down.got) ws) (sym (down_words_up (again queue) m.rest m.conn.wires)) first;
        taken = λ e. subst (λ ws. AreTakenInTime p (asked_then p new.wires t) h ws) (sym (up e)) (again_taken p (asked_then p new.wires t) h queue (let c = all (flows e) in let d = is_then in let one = at_most_one in omega arith));
        handled = λ e. let c = all (flows e) in let d = is_then in omega arith;
      };
      last = λ e. subst (λ ws. h + all_asked p ws ≤ covered_in p (asked_then p new.wires t) h ws) (sym (up e)) (again_last p (asked_then p new.wires t) h queue (let c = all (flows e) in let d = is_then in omega arith));
    }
      where
        t : Course A
        t = record (course_of mine.session) { acked = length mine.session.up.got }

        h : ℕ
        h = many p.asks mine.session.up.got

        flows : is_flowing new.wires ≡ true → is_flowing m.conn.wires ≡ true
        flows e = sym (flow_up (again queue) m.rest m.conn.wires) ∙ e

        up : is_flowing new.wires ≡ true → up_words new.wires ≡ again queue
        up e = flowing_up_left (again queue) m.rest m.conn.wires (flows e) ∙ ap (λ l. l ++ again queue) empty_up

        -- the walk behind the first word
        before : AreReadInTime p mine.session.up.put (asked_now p (course_of mine.session)) (many p.ends mine.session.down.got) (Resumed m.own.number m.h ∷ m.rest)
        before = subst (λ ws. IsRead p ws (course_of mine.session)) m.first time.near.read

        first : AreReadInTime p mine.session.up.put (many p.asks (take (length mine.session.up.got) mine.session.up.put)) (many p.ends mine.session.down.got) m.rest
        first =
            let zero : many p.ends mine.session.down.got + 0 ≡ many p.ends mine.session.down.got = omega arith in
            subst (λ n. AreReadInTime p mine.session.up.put (many p.asks (take n mine.session.up.put)) (many p.ends mine.session.down.got) m.rest) count
            (subst (λ n. AreReadInTime p mine.session.up.put (many p.asks (take m.h mine.session.up.put)) n m.rest) zero before.1)

        is_then : asked_then p new.wires (record (course_of mine.session) { acked = length mine.session.up.got }) ≡ asked_then p m.conn.wires (course_of mine.session)
        is_then = ap (covered p mine.session.up.put (many p.asks (take (length mine.session.up.got) mine.session.up.put))) (down_words_up (again queue) m.rest m.conn.wires) ∙ ap (λ n. covered p mine.session.up.put (many p.asks (take n mine.session.up.put)) m.rest) (sym count) ∙
            ap (covered p mine.session.up.put (asked_now p (course_of mine.session))) (sym m.first)

        all : is_flowing m.conn.wires ≡ true → many p.asks mine.session.up.got ≤ asked_then p m.conn.wires (course_of mine.session)
        all e =
            let last : many p.asks mine.session.up.got + 0 ≤ asked_then p m.conn.wires (course_of mine.session) =
            subst (λ ws. many p.asks mine.session.up.got + all_asked p ws ≤ covered_in p (asked_then p m.conn.wires (course_of mine.session)) (many p.asks mine.session.up.got) ws) empty_up (time.last e)
            in
            omega arith

        at_most_one : many p.asks (drop (m.h - m.own.acked) m.own.queue) ≤ 1
        at_most_one =
            let reached = kept.sessions m.own.number mine.session mine.is in
            let a = paged.pages m.own.number mine.session mine.is in
            let rest : drop (m.h - m.own.acked) m.own.queue ≡ drop (length mine.session.up.got) mine.session.up.put = queue_rest mine.session.up m.own.acked m.h m.own.queue reached.up mine.acked mine.queue count in
            let asks : many p.asks mine.session.up.got + many p.asks (drop (m.h - m.own.acked) m.own.queue) ≡ many p.asks mine.session.up.put = ap (λ l. many p.asks mine.session.up.got + many p.asks l) rest ∙ front_and_rest p.asks mine.session.up reached.up in
            let below = handled_below p.ends mine.session.down reached.down in
            let served = a.served in
            let asked = a.asked in
            omega arith

    this : InTimeAfter p k new v f
    this q t here carried is =
        let w = was f v.sessions q t is in
        let number : m.own.number ≡ q = some_same m.own.number q carried in
        let same : mine.session ≡ w.0 = some_one (v.sessions q) mine.session w.0 (subst (λ n. v.sessions n ≡ Some mine.session) number mine.is) w.1 in
        let now : record (course_of w.0) { acked = length w.0.up.got } ≡ course_of t = sym (course w.0) ∙ ap (λ n. course_of (f n w.0)) number ∙ ap course_of w.2 in
        subst (IsInTime p new.wires) now (subst (λ (x : Session A). IsInTime p new.wires (record (course_of x) { acked = length x.up.got })) same resumed)
