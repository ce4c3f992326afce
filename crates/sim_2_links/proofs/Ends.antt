-- How streams, connections and rows end.
use Rattle.std.proofs.Common.{◌≡◌, ℕ, Bool, true, false, List, ◌∷◌, ◌++◌, sym, ap, ◌∙◌, subst, ◌⊎◌, inl, inr, None, Some}
use Rattle.std.proofs.lemmas.Bool.{cases_Bool, cases_eq}
use Rattle.std.proofs.lemmas.List.{append-nil}
use Rattle.sim_2_links.proofs.Entries.{at_same, at_other, Entry, New, Old, entry, is_has}
use Rattle.sim_2_links.proofs.Tables.{send_down_whole, send_down_whole_up, halt_whole_up, halt_whole_down}
use Rattle.sim_2_links.proofs.CutLinks.{not_true, some_one, there_cut}
use Rattle.sim_2_links.proofs.Hands.{no_entry, row_other, stopped_away, taken_stands}
use Rattle.sim_2_links.proofs.Detached.{end_off, no_foot_here, IsEnd, halted, halted_up, halted_down}
use Rattle.sim_2_links.proofs.Parked.{told_gone_off}
use Rattle.sim_2_links.proofs.StepParts.{carried_before, apart_from, GoesDownStill, StaysBare}
use Rattle.sim_2_links.specs.Words.{UpWord, Foot}
use Rattle.sim_2_links.specs.Wires.{up_words, down_whole, send_down}
use Rattle.sim_2_links.specs.Stages.{Stage, down_of, Ending, Stands, Closes, tail_of, Conn, IsAt}
use Rattle.sim_2_links.specs.Views.{with_at, has, Row, View, session_on, carries}
use Rattle.sim_2_links.specs.SessionMoves.{shut}
use Rattle.sim_2_links.specs.EndMoves.{IsFootTaken, IsGone}
use Rattle.sim_2_links.specs.Links.{carried_of, IsFair, ArePiped, IsAsked, ConnKept, is_yet, GoesDown, IsCarried, LinkKept}

-- a connection changes that the client left, and on which no session is

pub left_keeps : {A : Type 0} (v : View A) (k : ℕ) (old new : Conn A) (s : Stage A) → has v.here k ≡ false → v.conns k ≡ Some old → session_on old ≡ None → session_on new ≡ None →
    IsAt s new → ((r : Row A) → v.row ≡ Some r → r.on ≡ Some k → is_yet s ≡ true → r.counted ≡ false) → ((r : Row A) → v.row ≡ Some r → r.on ≡ Some k → (p : ℕ) → carried_of s ≡ Some p → r.counted ≡ true) → ArePiped false new → IsAsked v.sessions s → LinkKept v → LinkKept (record v { conns = with_at k new v.conns })
left_keeps {A = A} v k old new s away is off off' at yet counts piped asked kept = record {
  there = λ n here. there_cut v kept k new n here;
  conns = λ n c found. conn n c (entry k new v.conns n c found);
  row = λ r row. row_other k new v.conns v.sessions r (λ d found e. no_entry r.number (sym off ∙ subst (λ x. session_on x ≡ Some r.number) (some_one (v.conns k) d old found is) e)) (kept.row r row);
  own = kept.own;
  sessions = kept.sessions;
  goes_down = λ n c p here found carried. down n c p here carried (entry k new v.conns n c found);
  idle_up = kept.idle_up;
  idle_down = λ p t found counted. elim (kept.idle_down p t found counted) [ inl q ↦ inl q | inr c ↦ inr (c.0, c.1, c.2, at_other k new v.conns c.0 (apart_from v.here k c.0 away c.2) ∙ c.3, c.4) ];
  late = λ n c p found gone on carried. late n c p gone on (back p carried) (entry k new v.conns n c found);
}
  where
    conn : (n : ℕ) (c : Conn A) → Entry k new v.conns n c → ConnKept (record v { conns = with_at k new v.conns }) n c
    conn n c (New same this) =
        let here : ConnKept (record v { conns = with_at k new v.conns }) k new = record {
          piped = subst (λ b. ArePiped b new) (sym away) piped;
          stage = s;
          at = at;
          asked = asked;
          fits = λ e. absurd (not_true away e);
          attached = λ p e. no_entry p (sym off' ∙ e);
          uncounted = yet;
          counting = counts;
        } in
        subst (λ x. ConnKept (record v { conns = with_at k new v.conns }) x c) same (subst (λ x. ConnKept (record v { conns = with_at k new v.conns }) k x) this here)
    conn n c (Old ne there) =
        let before = kept.conns n c there in
        record { piped = before.piped; stage = before.stage; at = before.at; asked = before.asked; fits = before.fits; attached = before.attached; uncounted = before.uncounted; counting = before.counting }

    down : GoesDownStill k new v
    down n c p here carried (New same this) = absurd (apart_from v.here k n away here same)
    down n c p here carried (Old ne there) = kept.goes_down n c p here there carried

    back : (p : ℕ) → IsCarried (record v { conns = with_at k new v.conns }) p → IsCarried v p
    back p (n, c, here, found, carried) = carried_before k new v p (λ e at. absurd (not_true away (is_has v.here k e))) n c here carried (entry k new v.conns n c found)

    late : StaysBare k new v
    late n c p gone on carried (New same this) = no_entry p (sym off' ∙ subst (λ x. session_on x ≡ Some p) (sym this) on)
    late n c p gone on carried (Old ne there) = kept.late n c p there gone on carried

-- a connection that is shut stays at its row of the table

pub shut_at : {A : Type 0} (s : Stage A) (c : Conn A) (end : Ending) → IsAt s c → c.ending ≡ Stands → IsAt s (shut end c)
shut_at s c end at stands = record {
  client = at.client;
  phase = at.phase;
  up = halt_whole_up (send_down (tail_of end) c.wires) ∙ send_down_whole_up (tail_of end) c.wires ∙ at.up;
  down =
      let bare : down_whole c.wires ≡ down_of s = at.down ∙ ap (λ x. down_of s ++ tail_of x) stands ∙ append-nil (down_of s) in
      halt_whole_down (send_down (tail_of end) c.wires) ∙ send_down_whole (tail_of end) c.wires ∙ ap (λ l. l ++ tail_of end) bare;
}

pub shut_piped : {A : Type 0} (works : Bool) (c : Conn A) (end : Ending) → (works ≡ true → IsFair end) → ArePiped works c → ArePiped works (shut end c)
shut_piped works c end fair piped = record {
  flowing = λ e. absurd (not_true (halted (tail_of end) c.wires) e);
  unfooted = piped.unfooted;
  fair = fair;
  left = λ e. halted_down (tail_of end) c.wires (stopped_away works c piped e) ∙ piped.left e;
  ended = inr (halted_up (tail_of end) c.wires);
  gone = λ e. halted_up (tail_of end) c.wires;
}

pub shut_off : {A : Type 0} (c : Conn A) (end : Ending) → IsEnd end → session_on (shut end c) ≡ None
shut_off c end e = end_off c.phase end c.gone e

-- the server takes the client's footer, on a connection without a session

first_untold : {A : Type 0} (works : Bool) (c : Conn A) (w : UpWord A) (rest : List (UpWord A)) → ArePiped works c → up_words c.wires ≡ w ∷ rest → c.gone ≡ false
first_untold works c w rest p first = elim (cases_Bool c.gone) [ inr e ↦ e | inl e ↦ absurd (let none = p.gone e in let no_way : ⊥ = cc in no_way) ]

pub foot_taken_keeps : {A : Type 0} (k : ℕ) (v next : View A) → IsFootTaken k v next → LinkKept v → LinkKept next
foot_taken_keeps {A = A} k v next m kept = subst LinkKept (sym m.gives) (left_keeps v k m.conn (shut Closes m.conn) old.stage left m.is m.off (shut_off m.conn Closes tt)
    (shut_at old.stage m.conn Closes old.at stands) old.uncounted old.counting
    (subst (λ b. ArePiped b (shut Closes m.conn)) left (shut_piped (has v.here k) m.conn Closes (λ e. absurd (not_true left e)) old.piped)) old.asked kept)
  where
    old : ConnKept v k m.conn
    old = kept.conns k m.conn m.is

    left : has v.here k ≡ false
    left = elim (cases_Bool (has v.here k)) [ inr e ↦ e | inl e ↦ no_foot_here old.stage m.conn (has v.here k) m.rest old.piped old.at m.first e ]

    stands : m.conn.ending ≡ Stands
    stands = taken_stands (has v.here k) m.conn Foot m.rest old.piped m.first

-- the server hears of the end of a connection without a session

pub gone_keeps : {A : Type 0} (k : ℕ) (v next : View A) → IsGone k v next → LinkKept v → LinkKept next
gone_keeps {A = A} k v next m kept = subst LinkKept (sym m.gives) (record {
  there = λ n here. there_cut v kept k this n here;
  conns = λ n d found. conn n d (entry k this v.conns n d found);
  row = λ r row. row_other k this v.conns v.sessions r (λ d found e. no_entry r.number (sym m.off ∙ subst (λ x. session_on x ≡ Some r.number) (some_one (v.conns k) d m.conn found m.is) e)) (kept.row r row);
  own = kept.own;
  sessions = kept.sessions;
  goes_down = λ n d q here found carried. down n d q here carried (entry k this v.conns n d found);
  idle_up = kept.idle_up;
  idle_down = λ q t found counted. elim (kept.idle_down q t found counted) [ inl quiet ↦ inl quiet | inr x ↦ inr (carried_on q x) ];
  late = λ n d q found away on carried. late n d q away on (back q carried) (entry k this v.conns n d found);
})
  where
    this : Conn A
    this = record m.conn { gone = true }

    old : ConnKept v k m.conn
    old = kept.conns k m.conn m.is

    conn : (n : ℕ) (d : Conn A) → Entry k this v.conns n d → ConnKept (record v { conns = with_at k this v.conns }) n d
    conn n d (New same is) =
        let here : ConnKept (record v { conns = with_at k this v.conns }) k this = record {
          piped = record {
            flowing = λ e. absurd (not_true m.ended e);
            unfooted = old.piped.unfooted;
            fair = old.piped.fair;
            left = old.piped.left;
            ended = old.piped.ended;
            gone = λ e. m.empty;
          };
          stage = old.stage;
          at = record { client = old.at.client; phase = old.at.phase; up = old.at.up; down = old.at.down };
          asked = old.asked;
          fits = old.fits;
          attached = λ q e. told_gone_off m.conn q e;
          uncounted = old.uncounted;
          counting = old.counting;
        } in
        subst (λ x. ConnKept (record v { conns = with_at k this v.conns }) x d) same (subst (λ x. ConnKept (record v { conns = with_at k this v.conns }) k x) is here)
    conn n d (Old ne there) =
        let before = kept.conns n d there in
        record { piped = before.piped; stage = before.stage; at = before.at; asked = before.asked; fits = before.fits; attached = before.attached; uncounted = before.uncounted; counting = before.counting }

    down : GoesDownStill k this v
    down n d q here carried (New same is) =
        let before = kept.goes_down k m.conn q (here ∙ ap Some (sym same)) m.is (subst (λ x. carries x ≡ Some q) (sym is) carried) in
        let after : GoesDown this before.0 = record { counted = before.2.counted; way = before.2.way; is_open = before.2.is_open; counts = before.2.counts } in
        (before.0, before.1, subst (λ x. GoesDown x before.0) is after)
    down n d q here carried (Old ne there) = kept.goes_down n d q here there carried

    carried_on : (q : ℕ) → IsCarried v q → IsCarried (record v { conns = with_at k this v.conns }) q
    carried_on q (n, d, here, found, carried) = by (cases_eq k n)
      where
        by : (k ≡ n) ⊎ (k ≡ n → ⊥) → IsCarried (record v { conns = with_at k this v.conns }) q
        by (inl same) =
            let one : d ≡ m.conn = some_one (v.conns k) d m.conn (subst (λ x. v.conns x ≡ Some d) (sym same) found) m.is in
            let carried_k : carries m.conn ≡ Some q = subst (λ x. carries x ≡ Some q) one carried in
            (k, this, here ∙ ap Some (sym same), at_same k this v.conns, carried_k)
        by (inr ne) = (n, d, here, at_other k this v.conns n ne ∙ found, carried)

    back : (q : ℕ) → IsCarried (record v { conns = with_at k this v.conns }) q → IsCarried v q
    back q (n, d, here, found, carried) = carried_before k this v q (λ e at. (k, m.conn, e, m.is, at)) n d here carried (entry k this v.conns n d found)

    late : StaysBare k this v
    late n d q away on carried (New same is) = told_gone_off m.conn q (subst (λ x. session_on x ≡ Some q) (sym is) on)
    late n d q away on carried (Old ne there) = kept.late n d q there away on carried
