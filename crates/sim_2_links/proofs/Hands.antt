-- The beginning, a dial, a connection that is let go, and the words of the handshake.
use Rattle.std.proofs.Common.{◌≡◌, ℕ, Bool, true, false, List, [], ◌∷◌, ◌++◌, refl, sym, ap, ◌∙◌, subst, ◌⊎◌, inl, inr, Option, None, Some}
use Rattle.std.proofs.lemmas.Bool.{cases_Bool, cases_eq}
use Rattle.sim_2_links.proofs.Entries.{same_number, other_number, at_same, at_other, Entry, New, Old, entry, has_is, is_has}
use Rattle.sim_2_links.proofs.Tables.{send_up_whole, send_up_whole_down, send_down_whole, send_down_whole_up, left_up_whole, left_up_whole_down, left_down_whole, left_down_whole_up, NextDown, LeadsDown, client_leads, early_plain, LeadsUp, server_leads, UpRow, DownRow}
use Rattle.std.proofs.lemmas.List.{append-nil}
use Rattle.sim_2_links.proofs.CutLinks.{not_true, some_one, there_cut}
use Rattle.sim_2_links.proofs.StepParts.{carried_before, GoesDownStill, StaysBare}
use Rattle.sim_2_links.specs.Words.{down_stanzas, UpWord, DownWord, Client, Phase}
use Rattle.sim_2_links.specs.Wires.{Wires, Flow, Stop, is_flowing, up_words, down_words, up_whole, down_whole, send_up, send_down, left_up, left_down}
use Rattle.sim_2_links.specs.Stages.{Stage, Greets, AsksResume, Refused, Resumes, AsksBind, Binds, AsksEnable, Enables, Runs, client_of, phase_of, up_of, down_of, Goes, server_hand, client_hand, Ending, Stands, tail_of, foot_of, Conn, IsAt, IsPlain, IsEarly}
use Rattle.sim_2_links.specs.Views.{Table, with_at, has, Session, Row, Own, View, on_phase, session_on, carried_by, carries}
use Rattle.sim_2_links.specs.LinkMoves.{IsLetGo, dialled, IsDialled, IsUpHand, IsDownHand}
use Rattle.sim_2_links.specs.Machine.{nothing_yet}
use Rattle.sim_2_links.specs.Links.{carried_of, ArePiped, IsAsked, FitsOwn, is_yet, ConnKept, GoesDown, IsIdle, IsPlaced, RowKept, IsCarried, LinkKept}

pub no_entry : {B C : Type 0} (b : B) → None ≡ Some b → C
no_entry b e = absurd (let no_way : ⊥ = cc in no_way)

pub beginning_keeps : {A : Type 0} → LinkKept {A = A} nothing_yet
beginning_keeps = record {
  there = λ k here. no_entry k here;
  conns = λ k c at. no_entry c at;
  row = λ r row. no_entry r row;
  own = λ o own. no_entry o own;
  sessions = λ p s is. no_entry s is;
  goes_down = λ k c p here at carried. no_entry c at;
  idle_up = λ p s is counted. no_entry s is;
  idle_down = λ p s is counted. no_entry s is;
  late = λ k c p at away on carried. no_entry c at;
}

-- a connection that is let go

pub let_go_keeps : {A : Type 0} (k : ℕ) (v next : View A) → IsLetGo k v next → LinkKept v → LinkKept next
let_go_keeps {A = A} k v next m kept = subst LinkKept (sym m.gives) (record {
  there = λ n here. no_entry n here;
  conns = λ n c at. conn n c at;
  row = kept.row;
  own = kept.own;
  sessions = kept.sessions;
  goes_down = λ n c p here at carried. no_entry n here;
  idle_up = kept.idle_up;
  idle_down = λ p s is counted. elim (kept.idle_down p s is counted) [ inl q ↦ inl q | inr c ↦ inl (carried_quiet p s is c) ];
  late = λ n c p at away on carried. no_entry carried.0 carried.2;
})
  where
    stopped : (n : ℕ) (c : Conn A) → v.conns n ≡ Some c → ArePiped (has v.here n) c → is_flowing c.wires ≡ true → ⊥
    stopped n c at p flows =
        let same : k ≡ n = let h : v.here ≡ Some n = has_is v.here n (p.flowing flows).0 in some_one v.here k n m.here h in
        let one : c ≡ m.conn = some_one (v.conns n) c m.conn at (subst (λ x. v.conns x ≡ Some m.conn) same m.is) in
        not_true m.ended (subst (λ x. is_flowing x.wires ≡ true) one flows)

    emptied : (n : ℕ) (c : Conn A) → v.conns n ≡ Some c → ArePiped (has v.here n) c → down_words c.wires ≡ []
    emptied n c at p = elim (cases_Bool (has v.here n)) [
      | inr e ↦ p.left e
      | inl e ↦
          let h : v.here ≡ Some n = has_is v.here n e in
          let same : k ≡ n = let e = m.here in cc in
          let one : m.conn ≡ c = some_one (v.conns n) m.conn c (subst (λ x. v.conns x ≡ Some m.conn) same m.is) at in
          subst (λ x. down_words x.wires ≡ []) one m.empty
    ]

    conn : (n : ℕ) (c : Conn A) → v.conns n ≡ Some c → ConnKept (record v { here = None }) n c
    conn n c at =
        let old = kept.conns n c at in
        record {
          piped = record {
            flowing = λ e. absurd (stopped n c at old.piped e);
            unfooted = λ e. absurd (let no_way : ⊥ = cc in no_way);
            fair = λ e. absurd (let no_way : ⊥ = cc in no_way);
            left = λ e. emptied n c at old.piped;
            ended = old.piped.ended;
            gone = old.piped.gone;
          };
          stage = old.stage;
          at = old.at;
          asked = old.asked;
          fits = λ e. absurd (let no_way : ⊥ = cc in no_way);
          attached = old.attached;
          uncounted = old.uncounted;
          counting = old.counting;
        }

    carried_quiet : (p : ℕ) (s : Session A) → v.sessions p ≡ Some s → IsCarried v p → IsIdle s.down
    carried_quiet p s is (n, c, here, at, carried) =
        let same : k ≡ n = let e = m.here in cc in
        let one : m.conn ≡ c = some_one (v.conns n) m.conn c (subst (λ x. v.conns x ≡ Some m.conn) same m.is) at in
        let old = kept.goes_down n c p here at carried in
        let this : old.0 ≡ s = some_one (v.sessions p) old.0 s old.1 is in
        subst (λ x. IsIdle x.down) this (record {
          way = old.2.way ∙ ap down_stanzas (subst (λ x. down_words x.wires ≡ []) one m.empty);
          is_open = old.2.is_open ∙ subst (λ x. is_flowing x.wires ≡ false) one m.ended;
        })

-- a connection on which no session is: the row and the sessions don't see that it changes

placed_other : {A : Type 0} (k : ℕ) (new : Conn A) (conns : Table (Conn A)) (r : Row A) (s : Session A) (o : Option ℕ) →
    ((d : Conn A) → conns k ≡ Some d → session_on d ≡ Some r.number → ⊥) → IsPlaced conns r s o → IsPlaced (with_at k new conns) r s o
placed_other k new conns r s None apart placed = placed
placed_other {A = A} k new conns r s (Some n) apart (d, at, holds, goes) = by (cases_eq k n)
  where
    by : (k ≡ n) ⊎ (k ≡ n → ⊥) → IsPlaced (with_at k new conns) r s (Some n)
    by (inl same) = absurd (apart d (subst (λ x. conns x ≡ Some d) (sym same) at) holds)
    by (inr ne) = (d, at_other k new conns n ne ∙ at, holds, goes)

pub row_other : {A : Type 0} (k : ℕ) (new : Conn A) (conns : Table (Conn A)) (sessions : Table (Session A)) (r : Row A) →
    ((d : Conn A) → conns k ≡ Some d → session_on d ≡ Some r.number → ⊥) → RowKept conns sessions r → RowKept (with_at k new conns) sessions r
row_other k new conns sessions r apart kept = record {
  session = kept.session;
  is = kept.is;
  counted = kept.counted;
  handled = kept.handled;
  acked = kept.acked;
  queue = kept.queue;
  placed = placed_other k new conns r kept.session r.on apart kept.placed;
}

-- a dial

pub dial_keeps : {A : Type 0} (k : ℕ) (v next : View A) → IsDialled k v next → LinkKept v → LinkKept next
dial_keeps {A = A} k v next m kept = subst LinkKept (sym m.gives) (record {
  there = λ n here. (dialled, (let same : k ≡ n = cc in subst (λ x. with_at k dialled v.conns x ≡ Some dialled) same (at_same k dialled v.conns)));
  conns = λ n c at. conn n c (entry k dialled v.conns n c at);
  row = λ r row. row_other k dialled v.conns v.sessions r (λ d at e. no_entry d (sym m.fresh ∙ at)) (kept.row r row);
  own = kept.own;
  sessions = kept.sessions;
  goes_down = λ n c p here at carried. silent n c p here (entry k dialled v.conns n c at) carried;
  idle_up = kept.idle_up;
  idle_down = λ p s is counted. elim (kept.idle_down p s is counted) [ inl q ↦ inl q | inr c ↦ no_entry c.0 (sym m.idle ∙ c.2) ];
  late = λ n c p at away on carried. none_carried p carried;
})
  where
    conn : (n : ℕ) (c : Conn A) → Entry k dialled v.conns n c → ConnKept (record v { here = Some k; conns = with_at k dialled v.conns }) n c
    conn n c (New same this) =
        let here : ConnKept (record v { here = Some k; conns = with_at k dialled v.conns }) k dialled = record {
          piped = record {
            flowing = λ e. (same_number k, refl, refl);
            unfooted = λ e. refl;
            fair = λ e. tt;
            left = λ e. refl;
            ended = inl refl;
            gone = λ e. absurd (let no_way : ⊥ = cc in no_way);
          };
          stage = Greets;
          at = record { client = refl; phase = refl; up = refl; down = refl };
          asked = tt;
          fits = λ e. tt;
          attached = λ p e. no_entry p e;
          uncounted = λ r f on e. absurd (not_true refl e);
          counting = λ r f on p e. no_entry p e;
        } in
        subst (λ x. ConnKept (record v { here = Some k; conns = with_at k dialled v.conns }) x c) same (subst (λ x. ConnKept (record v { here = Some k; conns = with_at k dialled v.conns }) k x) this here)
    conn n c (Old ne there) =
        let old = kept.conns n c there in
        let before : has v.here n ≡ false = rw m.idle refl in
        let now : has (Some k) n ≡ false = other_number k n ne in
        record {
          piped = subst (λ b. ArePiped b c) (before ∙ sym now) old.piped;
          stage = old.stage;
          at = old.at;
          asked = old.asked;
          fits = λ e. absurd (not_true now e);
          attached = old.attached;
          uncounted = old.uncounted;
          counting = old.counting;
        }

    silent : (n : ℕ) (c : Conn A) (p : ℕ) → Some k ≡ Some n → Entry k dialled v.conns n c → carries c ≡ Some p → (s : Session A) × (v.sessions p ≡ Some s) × GoesDown c s
    silent n c p here (New same this) carried = no_entry p (subst (λ x. carries x ≡ Some p) (sym this) carried)
    silent n c p here (Old ne there) carried = absurd (ne (let same : k ≡ n = cc in same))

    none_carried : {C : Type 0} (p : ℕ) → IsCarried (record v { here = Some k; conns = with_at k dialled v.conns }) p → C
    none_carried p (n, c, here, at, carried) = let got = silent n c p here (entry k dialled v.conns n c at) carried in absurd (by (entry k dialled v.conns n c at))
      where
        by : Entry k dialled v.conns n c → ⊥
        by (New same this) = no_entry p (subst (λ x. carries x ≡ Some p) (sym this) carried)
        by (Old ne there) = ne (let same : k ≡ n = cc in same)

-- what a plain row says

plain_asked : {A : Type 0} (sessions : Table (Session A)) (s : Stage A) → IsPlain s → IsAsked sessions s
plain_asked sessions (AsksResume p h) e = absurd e
plain_asked sessions (AsksEnable m) e = absurd e
plain_asked sessions _ e = tt

plain_fits : {A : Type 0} (own : Option (Own A)) (epoch : ℕ) (sessions : Table (Session A)) (s : Stage A) → IsPlain s → FitsOwn own epoch sessions s
plain_fits own epoch sessions (AsksResume p h) e = absurd e
plain_fits own epoch sessions (Refused p) e = absurd e
plain_fits own epoch sessions (Resumes p h downs) e = absurd e
plain_fits own epoch sessions AsksBind e = absurd e
plain_fits own epoch sessions (Binds m) e = absurd e
plain_fits own epoch sessions (AsksEnable m) e = absurd e
plain_fits own epoch sessions (Enables m downs) e = absurd e
plain_fits own epoch sessions (Runs p ups downs) e = absurd e
plain_fits own epoch sessions _ e = tt

plain_yet : {A : Type 0} (s : Stage A) → IsPlain s → is_yet s ≡ false
plain_yet (Binds m) e = absurd e
plain_yet (AsksEnable m) e = absurd e
plain_yet _ e = refl

plain_carried_of : {A : Type 0} (s : Stage A) → IsPlain s → carried_of s ≡ None
plain_carried_of (Resumes p h downs) e = absurd e
plain_carried_of (Enables m downs) e = absurd e
plain_carried_of (Runs p ups downs) e = absurd e
plain_carried_of _ e = refl

plain_phase : {A : Type 0} (s : Stage A) (end : Ending) (gone : Bool) → IsPlain s → on_phase (phase_of s) end gone ≡ None
plain_phase (AsksResume p h) end gone e = absurd e
plain_phase (Refused p) end gone e = absurd e
plain_phase (Resumes p h downs) end gone e = absurd e
plain_phase AsksBind end gone e = absurd e
plain_phase (Binds m) end gone e = absurd e
plain_phase (AsksEnable m) end gone e = absurd e
plain_phase (Enables m downs) end gone e = absurd e
plain_phase (Runs p ups downs) end gone e = absurd e
plain_phase _ end gone e = refl

pub plain_carried : {A : Type 0} (s : Stage A) (ws : List (DownWord A)) → IsPlain s → carried_by (client_of s) ws ≡ None
plain_carried (AsksResume p h) ws e = absurd e
plain_carried (Refused p) ws e = absurd e
plain_carried (Resumes p h downs) ws e = absurd e
plain_carried AsksBind ws e = absurd e
plain_carried (Binds m) ws e = absurd e
plain_carried (AsksEnable m) ws e = absurd e
plain_carried (Enables m downs) ws e = absurd e
plain_carried (Runs p ups downs) ws e = absurd e
plain_carried _ ws e = refl

pub plain_on : {A : Type 0} (s : Stage A) (c : Conn A) → IsAt s c → IsPlain s → session_on c ≡ None
plain_on s c at e = ap (λ x. on_phase x c.ending c.gone) at.phase ∙ plain_phase s c.ending c.gone e

pub plain_carries : {A : Type 0} (s : Stage A) (c : Conn A) → IsAt s c → IsPlain s → carries c ≡ None
plain_carries s c at e = ap (λ x. carried_by x (down_whole c.wires)) at.client ∙ plain_carried s (down_whole c.wires) e

-- a connection at a plain row comes to another plain row: no session sees it

pub plain_keeps : {A : Type 0} (v : View A) (k : ℕ) (old new : Conn A) (s s' : Stage A) → v.conns k ≡ Some old → IsAt s old → IsPlain s → IsAt s' new → IsPlain s' →
    ArePiped (has v.here k) new → LinkKept v → LinkKept (record v { conns = with_at k new v.conns })
plain_keeps {A = A} v k old new s s' is at plain at' plain' piped kept = record {
  there = λ n here. there_cut v kept k new n here;
  conns = λ n c found. conn n c (entry k new v.conns n c found);
  row = λ r row. row_other k new v.conns v.sessions r (λ d found e. no_entry r.number (sym (plain_on s old at plain) ∙ subst (λ x. session_on x ≡ Some r.number) (some_one (v.conns k) d old found is) e)) (kept.row r row);
  own = kept.own;
  sessions = kept.sessions;
  goes_down = λ n c p here found carried. down n c p here carried (entry k new v.conns n c found);
  idle_up = kept.idle_up;
  idle_down = λ p t found counted. elim (kept.idle_down p t found counted) [ inl q ↦ inl q | inr c ↦ inr (carried_on p c) ];
  late = λ n c p found away on carried. late n c p away on (carried_back p carried) (entry k new v.conns n c found);
}
  where
    next : View A
    next = record v { conns = with_at k new v.conns }

    silent : (p : ℕ) → carries new ≡ Some p → ⊥
    silent p e = no_entry p (sym (plain_carries s' new at' plain') ∙ e)

    conn : (n : ℕ) (c : Conn A) → Entry k new v.conns n c → ConnKept (record v { conns = with_at k new v.conns }) n c
    conn n c (New same this) =
        let here : ConnKept (record v { conns = with_at k new v.conns }) k new = record {
          piped = piped;
          stage = s';
          at = at';
          asked = plain_asked v.sessions s' plain';
          fits = λ e. plain_fits v.own v.epoch v.sessions s' plain';
          attached = λ p e. no_entry p (sym (plain_on s' new at' plain') ∙ e);
          uncounted = λ r f on e. absurd (not_true (plain_yet s' plain') e);
          counting = λ r f on p e. no_entry p (sym (plain_carried_of s' plain') ∙ e);
        } in
        subst (λ x. ConnKept (record v { conns = with_at k new v.conns }) x c) same (subst (λ x. ConnKept (record v { conns = with_at k new v.conns }) k x) this here)
    conn n c (Old ne there) =
        let was_kept = kept.conns n c there in
        record { piped = was_kept.piped; stage = was_kept.stage; at = was_kept.at; asked = was_kept.asked; fits = was_kept.fits; attached = was_kept.attached; uncounted = was_kept.uncounted; counting = was_kept.counting }

    down : GoesDownStill k new v
    down n c p here carried (New same this) = absurd (silent p (subst (λ x. carries x ≡ Some p) (sym this) carried))
    down n c p here carried (Old ne there) = kept.goes_down n c p here there carried

    carried_back : (p : ℕ) → IsCarried (record v { conns = with_at k new v.conns }) p → IsCarried v p
    carried_back p (n, c, here, found, carried) = carried_before k new v p (λ e at. absurd (silent p at)) n c here carried (entry k new v.conns n c found)

    carried_on : (p : ℕ) → IsCarried v p → IsCarried (record v { conns = with_at k new v.conns }) p
    carried_on p (n, c, here, found, carried) = by (cases_eq k n)
      where
        by : (k ≡ n) ⊎ (k ≡ n → ⊥) → IsCarried (record v { conns = with_at k new v.conns }) p
        by (inl same) =
            let one : c ≡ old = some_one (v.conns k) c old (subst (λ x. v.conns x ≡ Some c) (sym same) found) is in
            no_entry p (sym (plain_carries s old at plain) ∙ subst (λ x. carries x ≡ Some p) one carried)
        by (inr ne) = (n, c, here, at_other k new v.conns n ne ∙ found, carried)

    late : StaysBare k new v
    late n c p away on carried (New same this) = no_entry p (sym (plain_on s' new at' plain') ∙ subst (λ x. session_on x ≡ Some p) (sym this) on)
    late n c p away on carried (Old ne there) = kept.late n c p there away on carried

-- the words of the handshake

pub flow_down : {A : Type 0} (puts : List (DownWord A)) (rest : List (UpWord A)) (x : Wires A) → is_flowing (send_down puts (left_up rest x)) ≡ is_flowing x
flow_down puts rest (Flow us ds) = refl
flow_down puts rest (Stop us ds lu ld) = refl

pub up_words_down : {A : Type 0} (puts : List (DownWord A)) (rest : List (UpWord A)) (x : Wires A) → up_words (send_down puts (left_up rest x)) ≡ rest
up_words_down puts rest (Flow us ds) = refl
up_words_down puts rest (Stop us ds lu ld) = refl

pub down_words_stopped : {A : Type 0} (puts : List (DownWord A)) (rest : List (UpWord A)) (x : Wires A) → is_flowing x ≡ false → down_words (send_down puts (left_up rest x)) ≡ down_words x
down_words_stopped puts rest (Flow us ds) e = absurd (let no_way : ⊥ = cc in no_way)
down_words_stopped puts rest (Stop us ds lu ld) e = refl

pub flow_up : {A : Type 0} (puts : List (UpWord A)) (rest : List (DownWord A)) (x : Wires A) → is_flowing (send_up puts (left_down rest x)) ≡ is_flowing x
flow_up puts rest (Flow us ds) = refl
flow_up puts rest (Stop us ds lu ld) = refl

pub up_words_stopped : {A : Type 0} (puts : List (UpWord A)) (rest : List (DownWord A)) (x : Wires A) → is_flowing x ≡ false → up_words (send_up puts (left_down rest x)) ≡ up_words x
up_words_stopped puts rest (Flow us ds) e = absurd (let no_way : ⊥ = cc in no_way)
up_words_stopped puts rest (Stop us ds lu ld) e = refl

-- what is not flowing, or is worked on
pub stopped_away : {A : Type 0} (works : Bool) (c : Conn A) → ArePiped works c → works ≡ false → is_flowing c.wires ≡ false
stopped_away works c p away = elim (cases_Bool (is_flowing c.wires)) [ inr e ↦ e | inl e ↦ absurd (not_true away (p.flowing e).0) ]

pub taken_stands : {A : Type 0} (works : Bool) (c : Conn A) (w : UpWord A) (rest : List (UpWord A)) → ArePiped works c → up_words c.wires ≡ w ∷ rest → c.ending ≡ Stands
taken_stands works c w rest p first = elim p.ended [ inl e ↦ e | inr e ↦ absurd (let no_way : ⊥ = cc in no_way) ]

pub piped_up : {A : Type 0} (works : Bool) (c : Conn A) (w : UpWord A) (rest : List (UpWord A)) (phase : Phase) (puts : List (DownWord A)) → up_words c.wires ≡ w ∷ rest → ArePiped works c →
    ArePiped works (record c { phase = phase; wires = send_down puts (left_up rest c.wires) })
piped_up works c w rest phase puts first p = record {
  flowing = λ e. p.flowing (sym (flow_down puts rest c.wires) ∙ e);
  unfooted = p.unfooted;
  fair = p.fair;
  left = λ e. down_words_stopped puts rest c.wires (stopped_away works c p e) ∙ p.left e;
  ended = inl (taken_stands works c w rest p first);
  gone = λ e. absurd (let none = p.gone e in let no_way : ⊥ = cc in no_way);
}

pub up_row : {A : Type 0} (s : Stage A) (c : Conn A) (w : UpWord A) (rest : List (UpWord A)) (phase : Phase) (puts : List (DownWord A)) → IsAt s c → up_words c.wires ≡ w ∷ rest → server_hand c.phase w ≡ Goes phase puts → UpRow s c phase puts rest
up_row s c w rest phase puts at first goes =
    let split : up_of s ++ foot_of c.footed ≡ w ∷ up_whole (left_up rest c.wires) = sym at.up ∙ left_up_whole w rest c.wires first in
    let hand : server_hand (phase_of s) w ≡ Goes phase puts = ap (λ x. server_hand x w) (sym at.phase) ∙ goes in
    subst (λ h. LeadsUp s (foot_of c.footed) h (up_whole (left_up rest c.wires))) hand (server_leads s c.footed w (up_whole (left_up rest c.wires)) split)

pub up_hand_keeps : {A : Type 0} (k : ℕ) (v next : View A) → IsUpHand k v next → LinkKept v → LinkKept next
up_hand_keeps {A = A} k v next m kept = subst LinkKept (sym m.gives) (plain_keeps v k m.conn new old.stage n.row m.is old.at n.before at n.plain (piped_up (has v.here k) m.conn m.word m.rest m.phase m.puts m.first old.piped) kept)
  where
    old : ConnKept v k m.conn
    old = kept.conns k m.conn m.is

    new : Conn A
    new = record m.conn { phase = m.phase; wires = send_down m.puts (left_up m.rest m.conn.wires) }

    n : UpRow old.stage m.conn m.phase m.puts m.rest
    n = up_row old.stage m.conn m.word m.rest m.phase m.puts old.at m.first m.hand

    stands : m.conn.ending ≡ Stands
    stands = taken_stands (has v.here k) m.conn m.word m.rest old.piped m.first

    at : IsAt n.row (record m.conn { phase = m.phase; wires = send_down m.puts (left_up m.rest m.conn.wires) })
    at = record {
      client = old.at.client ∙ sym n.state;
      phase = sym n.stage;
      up = send_down_whole_up m.puts (left_up m.rest m.conn.wires) ∙ sym n.up;
      down =
          let bare : down_whole m.conn.wires ≡ down_of old.stage = old.at.down ∙ ap (λ x. down_of old.stage ++ tail_of x) stands ∙ append-nil (down_of old.stage) in
          send_down_whole m.puts (left_up m.rest m.conn.wires) ∙ ap (λ l. l ++ m.puts) (left_up_whole_down m.rest m.conn.wires ∙ bare) ∙ sym n.down ∙ sym (append-nil (down_of n.row)) ∙ ap (λ x. down_of n.row ++ tail_of x) (sym stands);
    }

pub piped_down : {A : Type 0} (c : Conn A) (rest : List (DownWord A)) (client : Client) (puts : List (UpWord A)) → ArePiped true c →
    ArePiped true (record c { client = client; wires = send_up puts (left_down rest c.wires) })
piped_down {A = A} c rest client puts p = record {
  flowing = λ e. p.flowing (sym (flow_up puts rest c.wires) ∙ e);
  unfooted = p.unfooted;
  fair = p.fair;
  left = λ e. absurd (let no_way : ⊥ = cc in no_way);
  ended = by (cases_Bool (is_flowing c.wires));
  gone = λ e. elim (cases_Bool (is_flowing c.wires)) [ inl f ↦ absurd (not_true (p.flowing f).2 e) | inr f ↦ up_words_stopped puts rest c.wires f ∙ p.gone e ];
}
  where
    by : (is_flowing c.wires ≡ true) ⊎ (is_flowing c.wires ≡ false) → (c.ending ≡ Stands) ⊎ (up_words (send_up puts (left_down rest c.wires)) ≡ [])
    by (inl f) = inl (p.flowing f).1
    by (inr f) = elim p.ended [ inl e ↦ inl e | inr e ↦ inr (up_words_stopped puts rest c.wires f ∙ e) ]

pub at_down : {A : Type 0} (s : Stage A) (c : Conn A) (w : DownWord A) (rest : List (DownWord A)) (client : Client) (puts : List (UpWord A)) → IsAt s c → c.footed ≡ false →
    down_words c.wires ≡ w ∷ rest → (n : NextDown s (tail_of c.ending) client puts (down_whole (left_down rest c.wires))) →
    IsAt n.row (record c { client = client; wires = send_up puts (left_down rest c.wires) })
at_down s c w rest client puts at unfooted first n = record {
  client = sym n.state;
  phase = at.phase ∙ sym n.phase;
  up =
      let bare : up_whole c.wires ≡ up_of s = at.up ∙ ap (λ x. up_of s ++ foot_of x) unfooted ∙ append-nil (up_of s) in
      send_up_whole puts (left_down rest c.wires) ∙ ap (λ l. l ++ puts) (left_down_whole_up rest c.wires ∙ bare) ∙ sym n.up ∙ sym (append-nil (up_of n.row)) ∙ ap (λ x. up_of n.row ++ foot_of x) (sym unfooted);
  down = send_up_whole_down puts (left_down rest c.wires) ∙ sym n.down;
}

pub down_row : {A : Type 0} (s : Stage A) (c : Conn A) (w : DownWord A) (rest : List (DownWord A)) (client : Client) (puts : List (UpWord A)) → IsAt s c → down_words c.wires ≡ w ∷ rest → client_hand None c.client w ≡ Goes client puts → DownRow s c client puts rest
down_row s c w rest client puts at first goes =
    let split : down_of s ++ tail_of c.ending ≡ w ∷ down_whole (left_down rest c.wires) = sym at.down ∙ left_down_whole w rest c.wires first in
    let hand : client_hand None (client_of s) w ≡ Goes client puts = ap (λ x. client_hand None x w) (sym at.client) ∙ goes in
    subst (λ h. LeadsDown s (tail_of c.ending) h (down_whole (left_down rest c.wires))) hand (client_leads None s c.ending w (down_whole (left_down rest c.wires)) split)

pub down_hand_keeps : {A : Type 0} (k : ℕ) (v next : View A) → IsDownHand k v next → LinkKept v → LinkKept next
down_hand_keeps {A = A} k v next m kept = subst LinkKept (sym m.gives) (plain_keeps v k m.conn (record m.conn { client = m.client; wires = send_up m.puts (left_down m.rest m.conn.wires) }) old.stage n.row m.is old.at plain at (n.plain early) piped kept)
  where
    old : ConnKept v k m.conn
    old = kept.conns k m.conn m.is

    works : has v.here k ≡ true
    works = is_has v.here k m.here

    early : IsEarly (client_of old.stage)
    early = subst IsEarly old.at.client m.early

    plain : IsPlain old.stage
    plain = early_plain old.stage early

    n : DownRow old.stage m.conn m.client m.puts m.rest
    n = down_row old.stage m.conn m.word m.rest m.client m.puts old.at m.first m.hand

    at : IsAt n.row (record m.conn { client = m.client; wires = send_up m.puts (left_down m.rest m.conn.wires) })
    at = at_down old.stage m.conn m.word m.rest m.client m.puts old.at (old.piped.unfooted works) m.first n

    piped : ArePiped (has v.here k) (record m.conn { client = m.client; wires = send_up m.puts (left_down m.rest m.conn.wires) })
    piped = subst (λ b. ArePiped b (record m.conn { client = m.client; wires = send_up m.puts (left_down m.rest m.conn.wires) })) (sym works) (piped_down m.conn m.rest m.client m.puts (subst (λ b. ArePiped b m.conn) works old.piped))
