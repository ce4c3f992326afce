-- Each prompt move keeps that the count is still to come.
use Rattle.std.proofs.Common.{◌≡◌, ℕ, ◌+◌, ◌-◌, Bool, true, false, ◌&&◌, List, [], ◌∷◌, ◌++◌, length, drop, map, refl, sym, ap, ◌∙◌, subst, ◌⊎◌, inl, inr, None, Some}
use Rattle.sim_2_links.proofs.Entries.{Entry, New, Old, entry, is_has}
use Rattle.sim_2_links.proofs.Tables.{cut_stops, left_up_whole, UpRow, DownRow}
use Rattle.sim_2_links.proofs.CutLinks.{not_true, some_same, cut_conn}
use Rattle.sim_2_links.proofs.Hands.{no_entry, up_row, down_row}
use Rattle.sim_2_links.proofs.Putting.{serving}
use Rattle.sim_2_links.proofs.Resumption.{asks}
use Rattle.sim_2_links.proofs.Late.{late_if}
use Rattle.sim_2_links.proofs.Binding.{binding}
use Rattle.sim_2_links.proofs.Enabling.{enabled_if, asks_enabled}
use Rattle.sim_2_links.proofs.Detached.{halted, first_whole}
use Rattle.sim_2_links.proofs.ReadBound.{named_if}
use Rattle.sim_2_links.proofs.Asking.{steps}
use Rattle.sim_2_links.proofs.Covering.{unseen_by, unseen_same, elsewhere_covered, silent_covered}
use Rattle.sim_2_links.specs.Words.{St, UpWord, ResumeAt, Bind, Enable, DownWord, Failed, Bound, Resumed, Enabled, Down, InHeader1, InResume, InBind, InEnable, InOnline, AtSession, TooHigh}
use Rattle.sim_2_links.specs.Wires.{Wires, Flow, Stop, is_flowing, up_words, down_words, up_whole, send_up, send_down, left_up, left_down}
use Rattle.sim_2_links.specs.Stages.{Stage, AsksResume, Refused, Resumes, AsksBind, Binds, AsksEnable, Enables, Runs, client_of, Ending, Errs, Closes, tail_of, Conn, IsPlain, IsEarly}
use Rattle.sim_2_links.specs.Views.{with_at, alter, has, Session, Own, View, carries}
use Rattle.sim_2_links.specs.LinkMoves.{ways_cut, IsCut, IsLetGo, dialled, IsDialled, IsUpHand, IsDownHand, told_if}
use Rattle.sim_2_links.specs.SessionMoves.{IsAskResume, IsAskBind, IsRefused, shut, lost_if, IsDetached, IsRowEnded, unread, IsBound, IsReadBound, IsEnabled, resumed_if, IsResumedHere, IsResumedLate, IsParked}
use Rattle.sim_2_links.specs.EndMoves.{IsFailed, IsTooHigh, IsFootTaken, IsUncountedShut, IsUncountedGone, IsGone, with_foot, IsFooted, IsForgotten}
use Rattle.sim_2_links.specs.PutMoves.{is_online, IsClientQueued, IsServerQueued}
use Rattle.sim_2_links.specs.Links.{ConnKept, LinkKept}
use Rattle.sim_2_links.specs.Covers.{NoneAsks, IsOnWay, IsToCome, IsCoveredBy, IsCovered}

plain_offline : {A : Type 0} (s : Stage A) → IsPlain s → is_online (client_of s) ≡ false
plain_offline (AsksResume p h) e = absurd e
plain_offline (Refused p) e = absurd e
plain_offline (Resumes p h downs) e = absurd e
plain_offline AsksBind e = absurd e
plain_offline (Binds m) e = absurd e
plain_offline (AsksEnable m) e = absurd e
plain_offline (Enables m downs) e = absurd e
plain_offline (Runs p ups downs) e = absurd e
plain_offline _ e = refl

pub flowing_up : {A : Type 0} (ws : List (UpWord A)) (x : Wires A) → is_flowing x ≡ true → up_words (send_up ws x) ≡ up_words x ++ ws
flowing_up ws (Flow us ds) e = refl
flowing_up ws (Stop us ds lu ld) e = absurd (let no_way : ⊥ = cc in no_way)

pub flowing_up_left : {A : Type 0} (ws : List (UpWord A)) (rest : List (DownWord A)) (x : Wires A) → is_flowing x ≡ true → up_words (send_up ws (left_down rest x)) ≡ up_words x ++ ws
flowing_up_left ws rest (Flow us ds) e = refl
flowing_up_left ws rest (Stop us ds lu ld) e = absurd (let no_way : ⊥ = cc in no_way)

pub flowing_down : {A : Type 0} (ws : List (DownWord A)) (x : Wires A) → is_flowing x ≡ true → down_words (send_down ws x) ≡ down_words x ++ ws
flowing_down ws (Flow us ds) e = refl
flowing_down ws (Stop us ds lu ld) e = absurd (let no_way : ⊥ = cc in no_way)

pub flowing_down_left : {A : Type 0} (ws : List (DownWord A)) (rest : List (UpWord A)) (x : Wires A) → is_flowing x ≡ true → down_words (send_down ws (left_up rest x)) ≡ down_words x ++ ws
flowing_down_left ws rest (Flow us ds) e = refl
flowing_down_left ws rest (Stop us ds lu ld) e = absurd (let no_way : ⊥ = cc in no_way)

pub same_down : {A : Type 0} (ws : List (UpWord A)) (x : Wires A) → down_words (send_up ws x) ≡ down_words x
same_down ws (Flow us ds) = refl
same_down ws (Stop us ds lu ld) = refl

pub same_up : {A : Type 0} (ws : List (DownWord A)) (x : Wires A) → up_words (send_down ws x) ≡ up_words x
same_up ws (Flow us ds) = refl
same_up ws (Stop us ds lu ld) = refl

pub same_flow_up : {A : Type 0} (ws : List (UpWord A)) (x : Wires A) → is_flowing (send_up ws x) ≡ is_flowing x
same_flow_up ws (Flow us ds) = refl
same_flow_up ws (Stop us ds lu ld) = refl

pub same_flow_down : {A : Type 0} (ws : List (DownWord A)) (x : Wires A) → is_flowing (send_down ws x) ≡ is_flowing x
same_flow_down ws (Flow us ds) = refl
same_flow_down ws (Stop us ds lu ld) = refl

-- a count that is to come stays to come
pub carry_over : {A : Type 0} (test : A → Bool) (c d : Conn A) (o m : Own A) (s t : Session A) → m.acked ≡ o.acked → t.up.put ≡ s.up.put →
    ((n : ℕ) → IsOnWay n (down_words c.wires) → IsOnWay n (down_words d.wires)) → ((n : ℕ) → IsToCome n (length s.up.got) (up_words c.wires) → IsOnWay n (down_words d.wires) ⊎ IsToCome n (length t.up.got) (up_words d.wires)) →
    IsCoveredBy test c o s → IsCoveredBy test d m t
carry_over test c d o m s t acked put down up g = record {
  count = g.count;
  comes = elim g.comes [ inl e ↦ inl (e ∙ sym acked) | inr x ↦ inr (elim x [ inl e ↦ inl (down g.count e) | inr e ↦ up g.count e ]) ];
  none = subst (λ l. NoneAsks test (drop g.count l)) (sym put) g.none;
}

-- moves after which the client is not online there, or nothing flows there

pub cut_covered : {A : Type 0} (test : A → Bool) (k i j : ℕ) (v next : View A) → IsCut k i j v next → IsCovered test v → IsCovered test next
cut_covered test k i j v next m covered = subst (IsCovered test) (sym m.gives) (elsewhere_covered test v k (cut_conn i j m.conn) v.row v.epoch (alter (ways_cut (has v.here k) m.conn i j) v.sessions)
    (unseen_by v (ways_cut (has v.here k) m.conn i j) (λ q s. refl) (λ q s. refl)) (λ here on flows. not_true (cut_stops i j m.conn.wires) flows) covered)

pub dial_covered : {A : Type 0} (test : A → Bool) (k : ℕ) (v next : View A) → IsDialled k v next → IsCovered test next
dial_covered {A = A} test k v next m = subst (IsCovered test) (sym m.gives) (λ n c o s here found own online flows is. by n c o s here online (entry k dialled v.conns n c found))
  where
    by : (n : ℕ) (c : Conn A) (o : Own A) (s : Session A) → Some k ≡ Some n → c.client ≡ InOnline o.number → Entry k dialled v.conns n c → IsCoveredBy test c o s
    by n c o s here online (New same this) = absurd (let e : InHeader1 ≡ InOnline o.number = ap (λ (x : Conn A). x.client) this ∙ online in let no_way : ⊥ = cc in no_way)
    by n c o s here online (Old ne there) = absurd (ne (some_same k n here))

pub let_go_covered : {A : Type 0} (test : A → Bool) (k : ℕ) (v next : View A) → IsLetGo k v next → IsCovered test next
let_go_covered test k v next m = subst (IsCovered test) (sym m.gives) (λ n c o s here found own online flows is. no_entry n here)

pub forgotten_covered : {A : Type 0} (test : A → Bool) (v next : View A) → IsForgotten v next → IsCovered test next
forgotten_covered test v next m = subst (IsCovered test) (sym m.gives) (λ n c o s here found own online flows is. no_entry o own)

pub footed_covered : {A : Type 0} (test : A → Bool) (k : ℕ) (v next : View A) → IsFooted k v next → IsCovered test v → IsCovered test next
footed_covered test k v next m covered = subst (IsCovered test) (sym m.gives) (elsewhere_covered test v k (record m.conn { footed = true; wires = with_foot m.conn.wires }) v.row v.epoch v.sessions (unseen_same v) (λ here on flows. not_true m.left (is_has v.here k here)) covered)

pub up_hand_covered : {A : Type 0} (test : A → Bool) (k : ℕ) (v next : View A) → IsUpHand k v next → LinkKept v → IsCovered test v → IsCovered test next
up_hand_covered {A = A} test k v next m kept covered = subst (IsCovered test) (sym m.gives) (elsewhere_covered test v k (record m.conn { phase = m.phase; wires = send_down m.puts (left_up m.rest m.conn.wires) }) v.row v.epoch v.sessions (unseen_same v)
    (λ here on flows. not_true (ap is_online old.at.client ∙ plain_offline old.stage n.before) on) covered)
  where
    old : ConnKept v k m.conn
    old = kept.conns k m.conn m.is

    n : UpRow old.stage m.conn m.phase m.puts m.rest
    n = up_row old.stage m.conn m.word m.rest m.phase m.puts old.at m.first m.hand

pub down_hand_covered : {A : Type 0} (test : A → Bool) (k : ℕ) (v next : View A) → IsDownHand k v next → LinkKept v → IsCovered test v → IsCovered test next
down_hand_covered {A = A} test k v next m kept covered = subst (IsCovered test) (sym m.gives) (elsewhere_covered test v k (record m.conn { client = m.client; wires = send_up m.puts (left_down m.rest m.conn.wires) }) v.row v.epoch v.sessions (unseen_same v)
    (λ here on flows. not_true (ap is_online (sym n.state) ∙ plain_offline n.row (n.plain early)) on) covered)
  where
    old : ConnKept v k m.conn
    old = kept.conns k m.conn m.is

    early : IsEarly (client_of old.stage)
    early = subst IsEarly old.at.client m.early

    n : DownRow old.stage m.conn m.client m.puts m.rest
    n = down_row old.stage m.conn m.word m.rest m.client m.puts old.at m.first m.hand

pub ask_resume_covered : {A : Type 0} (test : A → Bool) (k : ℕ) (v next : View A) → IsAskResume k v next → IsCovered test v → IsCovered test next
ask_resume_covered test k v next m covered = subst (IsCovered test) (sym m.gives) (elsewhere_covered test v k (steps m.conn (InResume m.own.number) (ResumeAt m.own.number m.own.handled ∷ []) m.rest) v.row v.epoch (alter (λ q s. told_if (has (Some m.own.number) q) s) v.sessions)
    (unseen_by v (λ q s. told_if (has (Some m.own.number) q) s) (λ q s. refl) (λ q s. refl)) (λ here on flows. not_true refl on) covered)

pub ask_bind_covered : {A : Type 0} (test : A → Bool) (k : ℕ) (v next : View A) → IsAskBind k v next → IsCovered test v → IsCovered test next
ask_bind_covered test k v next m covered = subst (IsCovered test) (sym m.gives) (elsewhere_covered test v k (steps m.conn InBind (Bind ∷ []) m.rest) v.row v.epoch v.sessions (unseen_same v) (λ here on flows. not_true refl on) covered)

pub refused_covered : {A : Type 0} (test : A → Bool) (k : ℕ) (v next : View A) → IsRefused k v next → IsCovered test next
refused_covered test k v next m = subst (IsCovered test) (sym m.gives) (λ n c o s here found own online flows is. no_entry o own)

pub read_bound_covered : {A : Type 0} (test : A → Bool) (k number : ℕ) (v next : View A) → IsReadBound k number v next → IsCovered test v → IsCovered test next
read_bound_covered test k number v next m covered = subst (IsCovered test) (sym m.gives) (elsewhere_covered test v k (steps m.conn InEnable (Enable ∷ []) m.rest) v.row (v.epoch + 1) (alter (λ q s. named_if (has (Some number) q) (v.epoch + 1) s) v.sessions)
    (unseen_by v (λ q s. named_if (has (Some number) q) (v.epoch + 1) s) (λ q s. refl) (λ q s. refl)) (λ here on flows. not_true refl on) covered)

asks_offline : {A : Type 0} (v : View A) (k p h : ℕ) (c : Conn A) (rest : List (UpWord A)) → LinkKept v → v.conns k ≡ Some c → up_words c.wires ≡ ResumeAt p h ∷ rest → is_online c.client ≡ false
asks_offline v k p h c rest kept is first =
    let old = kept.conns k c is in
    let whole = first_whole (ResumeAt p h) rest c.wires first in
    ap is_online (old.at.client ∙ ap client_of (asks old.stage c.footed p h whole.0 (sym old.at.up ∙ whole.1)).is)

pub failed_covered : {A : Type 0} (test : A → Bool) (k : ℕ) (v next : View A) → IsFailed k v next → LinkKept v → IsCovered test v → IsCovered test next
failed_covered test k v next m kept covered = subst (IsCovered test) (sym m.gives) (elsewhere_covered test v k (record m.conn { wires = send_down (Failed ∷ []) (left_up m.rest m.conn.wires) }) v.row v.epoch v.sessions (unseen_same v)
    (λ here on flows. not_true (asks_offline v k m.p m.h m.conn m.rest kept m.is m.first) on) covered)

pub too_high_covered : {A : Type 0} (test : A → Bool) (k : ℕ) (v next : View A) → IsTooHigh k v next → IsCovered test v → IsCovered test next
too_high_covered test k v next m covered = subst (IsCovered test) (sym m.gives) (elsewhere_covered test v k (shut (Errs TooHigh) m.conn) None v.epoch v.sessions (unseen_same v) (λ here on flows. not_true (halted (tail_of (Errs TooHigh)) m.conn.wires) flows) covered)

pub resumed_here_covered : {A : Type 0} (test : A → Bool) (k : ℕ) (v next : View A) → IsResumedHere k v next → LinkKept v → IsCovered test v → IsCovered test next
resumed_here_covered test k v next m kept covered = subst (IsCovered test) (sym m.gives) (elsewhere_covered test v k
    (record m.conn { phase = AtSession m.row.number; wires = send_down (Resumed m.row.number m.row.handled ∷ map Down (map St (drop (m.h - m.row.acked) m.row.queue))) (left_up m.rest m.conn.wires) })
    (Some (record m.row { on = Some k; acked = m.h; queue = drop (m.h - m.row.acked) m.row.queue })) v.epoch (alter (λ q s. resumed_if (has (Some m.row.number) q) (is_flowing m.conn.wires) s) v.sessions)
    (unseen_by v (λ q s. resumed_if (has (Some m.row.number) q) (is_flowing m.conn.wires) s) (λ q s. refl) (λ q s. refl)) (λ here on flows. not_true (asks_offline v k m.row.number m.h m.conn m.rest kept m.is m.first) on) covered)

pub resumed_late_covered : {A : Type 0} (test : A → Bool) (k : ℕ) (v next : View A) → IsResumedLate k v next → IsCovered test v → IsCovered test next
resumed_late_covered test k v next m covered = subst (IsCovered test) (sym m.gives) (elsewhere_covered test v k
    (record m.conn { phase = AtSession m.row.number; wires = send_down (Resumed m.row.number m.row.handled ∷ map Down (map St (drop (m.h - m.row.acked) m.row.queue))) (left_up m.rest m.conn.wires) })
    (Some (record m.row { on = Some k; acked = m.h; queue = drop (m.h - m.row.acked) m.row.queue })) v.epoch (alter (λ q s. late_if (has (Some m.row.number) q) m.h s) v.sessions)
    (unseen_by v (λ q s. late_if (has (Some m.row.number) q) m.h s) (λ q s. refl) (λ q s. refl)) (λ here on flows. not_true m.left (is_has v.here k here)) covered)

pub bound_covered : {A : Type 0} (test : A → Bool) (k number : ℕ) (v next : View A) → IsBound k number v next → LinkKept v → IsCovered test v → IsCovered test next
bound_covered {A = A} test k number v next m kept covered = subst (IsCovered test) (sym m.gives) (elsewhere_covered test v k (record m.conn { phase = AtSession number; wires = send_down (Bound number ∷ []) (left_up m.rest m.conn.wires) })
    (Some (record { number = number; on = Some k; counted = false; acked = 0; handled = 0; queue = [] })) v.epoch (with_at number unread v.sessions) (λ o t own is. unseen o t own (entry number unread v.sessions o.number t is))
    (λ here on flows. not_true (ap is_online client) on) covered)
  where
    old : ConnKept v k m.conn
    old = kept.conns k m.conn m.is

    client : m.conn.client ≡ InBind
    client = old.at.client ∙ ap client_of (binding old.stage m.conn.footed (up_whole (left_up m.rest m.conn.wires)) (sym old.at.up ∙ left_up_whole Bind m.rest m.conn.wires m.first)).is

    unseen : (o : Own A) (t : Session A) → v.own ≡ Some o → Entry number unread v.sessions o.number t → (s : Session A) × (v.sessions o.number ≡ Some s) × (t.up.put ≡ s.up.put) × (t.up.got ≡ s.up.got)
    unseen o t own (New same this) = let mine = kept.own o own in absurd (no_entry mine.session (sym (subst (λ n. v.sessions n ≡ None) same m.fresh) ∙ mine.is))
    unseen o t own (Old ne there) = (t, there, refl, refl)

pub enabled_covered : {A : Type 0} (test : A → Bool) (k : ℕ) (v next : View A) → IsEnabled k v next → LinkKept v → IsCovered test v → IsCovered test next
enabled_covered {A = A} test k v next m kept covered = subst (IsCovered test) (sym m.gives) (elsewhere_covered test v k (record m.conn { wires = send_down (Enabled m.row.number ∷ []) (left_up m.rest m.conn.wires) })
    (Some (record m.row { counted = true })) v.epoch (alter (λ q s. enabled_if (has (Some m.row.number) q) (is_flowing m.conn.wires) s) v.sessions)
    (unseen_by v (λ q s. enabled_if (has (Some m.row.number) q) (is_flowing m.conn.wires) s) (λ q s. refl) (λ q s. refl)) (λ here on flows. not_true (ap is_online client) on) covered)
  where
    old : ConnKept v k m.conn
    old = kept.conns k m.conn m.is

    client : m.conn.client ≡ InEnable
    client = old.at.client ∙ ap client_of (asks_enabled old.stage m.conn.footed (up_whole (left_up m.rest m.conn.wires)) (sym old.at.up ∙ left_up_whole Enable m.rest m.conn.wires m.first)).is

pub foot_taken_covered : {A : Type 0} (test : A → Bool) (k : ℕ) (v next : View A) → IsFootTaken k v next → IsCovered test v → IsCovered test next
foot_taken_covered test k v next m covered = subst (IsCovered test) (sym m.gives) (elsewhere_covered test v k (shut Closes m.conn) v.row v.epoch v.sessions (unseen_same v) (λ here on flows. not_true (halted (tail_of Closes) m.conn.wires) flows) covered)

pub parked_covered : {A : Type 0} (test : A → Bool) (k : ℕ) (v next : View A) → IsParked k v next → IsCovered test v → IsCovered test next
parked_covered test k v next m covered = subst (IsCovered test) (sym m.gives) (elsewhere_covered test v k (record m.conn { gone = true }) (Some (record m.row { on = None })) v.epoch v.sessions (unseen_same v) (λ here on flows. not_true m.ended flows) covered)

pub gone_covered : {A : Type 0} (test : A → Bool) (k : ℕ) (v next : View A) → IsGone k v next → IsCovered test v → IsCovered test next
gone_covered test k v next m covered = subst (IsCovered test) (sym m.gives) (elsewhere_covered test v k (record m.conn { gone = true }) v.row v.epoch v.sessions (unseen_same v) (λ here on flows. not_true m.ended flows) covered)

pub uncounted_gone_covered : {A : Type 0} (test : A → Bool) (k : ℕ) (v next : View A) → IsUncountedGone k v next → IsCovered test v → IsCovered test next
uncounted_gone_covered test k v next m covered = subst (IsCovered test) (sym m.gives) (elsewhere_covered test v k (record m.conn { gone = true }) None v.epoch v.sessions (unseen_same v) (λ here on flows. not_true m.ended flows) covered)

pub detached_covered : {A : Type 0} (test : A → Bool) (k : ℕ) (ending : Ending) (v next : View A) → IsDetached k ending v next → IsCovered test v → IsCovered test next
detached_covered test k ending v next m covered = subst (IsCovered test) (sym m.gives) (elsewhere_covered test v k (shut ending m.conn) (Some (record m.row { on = None })) v.epoch
    (alter (λ q s. lost_if (has (Some m.row.number) q) (s.counted && (has v.here k && has (carries m.conn) q)) s) v.sessions)
    (unseen_by v (λ q s. lost_if (has (Some m.row.number) q) (s.counted && (has v.here k && has (carries m.conn) q)) s) (λ q s. refl) (λ q s. refl)) (λ here on flows. not_true (halted (tail_of ending) m.conn.wires) flows) covered)

pub uncounted_shut_covered : {A : Type 0} (test : A → Bool) (k : ℕ) (ending : Ending) (v next : View A) → IsUncountedShut k ending v next → IsCovered test v → IsCovered test next
uncounted_shut_covered test k ending v next m covered = subst (IsCovered test) (sym m.gives) (elsewhere_covered test v k (shut ending m.conn) None v.epoch v.sessions (unseen_same v) (λ here on flows. not_true (halted (tail_of ending) m.conn.wires) flows) covered)

pub row_ended_covered : {A : Type 0} (test : A → Bool) (v next : View A) → IsRowEnded v next → IsCovered test v → IsCovered test next
row_ended_covered test v next m covered = subst (IsCovered test) (sym m.gives) (silent_covered test v None v.sessions (unseen_same v) covered)

pub server_queued_covered : {A : Type 0} (test : A → Bool) (z : A) (v next : View A) → IsServerQueued z v next → IsCovered test v → IsCovered test next
server_queued_covered test z v next m covered = subst (IsCovered test) (sym m.gives) (silent_covered test v (Some (record m.row { queue = m.row.queue ++ z ∷ [] })) (alter (λ q s. serving (has (Some m.row.number) q) z s) v.sessions)
    (unseen_by v (λ q s. serving (has (Some m.row.number) q) z s) (λ q s. refl) (λ q s. refl)) covered)

pub client_queued_covered : {A : Type 0} (test : A → Bool) (z : A) (v next : View A) → IsClientQueued z v next → IsCovered test next
client_queued_covered test z v next m = subst (IsCovered test) (sym m.gives) (λ n c o s here found own online flows is. absurd (not_true (m.away n c here found) (ap is_online online)))
