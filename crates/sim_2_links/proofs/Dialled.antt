-- Along moves, and what follows of counts on the connection dialled last.
use Rattle.std.proofs.Common.{◌≡◌, ℕ, ◌-◌, List, [], ◌∷◌, ◌++◌, length, sym, ap, ◌∙◌, subst, arith, inl, inr, Option, None, Some}
use Rattle.std.proofs.lemmas.List.{length-append, length-drop}
use Rattle.sm_acks.proofs.Directions.{kept_reached}
use Rattle.sim_2_links.proofs.Hands.{no_entry, beginning_keeps}
use Rattle.sim_2_links.proofs.Detached.{first_whole}
use Rattle.sim_2_links.proofs.Reached.{move_keeps}
use Rattle.sim_2_links.proofs.Newest.{IsNewest}
use Rattle.sim_2_links.proofs.NewestMoves.{cut_newest, dial_newest, let_go_newest, forgotten_newest, footed_newest, put_newest, queued_newest, request_newest, down_hand_newest, ask_bind_newest, refused_newest, read_bound_newest, read_enabled_newest, read_resumed_newest, down_stanza_newest, down_request_newest, down_count_newest, ask_resume_newest, up_hand_newest, failed_newest, up_stanza_newest, up_request_newest, up_count_newest, server_put_newest, server_request_newest, enabled_newest, server_queued_newest, resumed_here_newest, resumed_late_newest, bound_newest, too_high_newest, foot_taken_newest, uncounted_shut_newest, detached_newest, parked_newest, gone_newest, uncounted_gone_newest, row_ended_newest}
use Rattle.sim_2_links.specs.Words.{UpWord, ResumeAt}
use Rattle.sim_2_links.specs.Wires.{up_words}
use Rattle.sim_2_links.specs.Stages.{Conn}
use Rattle.sim_2_links.specs.Views.{Session, Row, View}
use Rattle.sim_2_links.specs.EndMoves.{IsTooHigh}
use Rattle.sim_2_links.specs.Links.{RowKept, LinkKept}
use Rattle.sim_2_links.specs.Machine.{LinkMove, Cuts, Dials, LetsGo, Foots, Forgets, Puts, Queues, Requests, ReadsHand, AsksToResume, AsksToBind, ReadsFailed, ReadsResumed, ReadsBound, ReadsEnabled, ReadsStanza, ReadsRequest, ReadsCount, TakesHand, TakesResume, TakesLateResume, TakesStrangeResume, TakesHighResume, TakesBind, TakesEnable, TakesStanza, TakesRequest, TakesCount, TakesFoot, Parks, Hears, HearsEarly, Detaches, Shuts, EndsRow, Serves, Keeps, Demands, LinkMoves, nothing_yet, LinkReaches}
use Rattle.sim_2_links.specs.Newest.{dialled_by, newest}
use Rattle.sim_2_links.specs.Promises.{IsWithin}

move_newest : {A : Type 0} (n : Option ℕ) (move : LinkMove A) (v next : View A) → LinkMoves move v next → LinkKept v → LinkKept next → IsNewest n v → IsNewest (dialled_by move n) next
move_newest n (Cuts k i j) v next m kept after a = cut_newest n k i j v next m a
move_newest n (Dials k) v next m kept after a = dial_newest n k v next m a
move_newest n (LetsGo k) v next m kept after a = let_go_newest n k v next m a
move_newest n (Foots k) v next m kept after a = footed_newest n k v next m a
move_newest n Forgets v next m kept after a = forgotten_newest n v next m a
move_newest n (Puts k z) v next m kept after a = put_newest n k z v next m after a
move_newest n (Queues z) v next m kept after a = queued_newest n z v next m a
move_newest n (Requests k) v next m kept after a = request_newest n k v next m after a
move_newest n (ReadsHand k) v next m kept after a = down_hand_newest n k v next m kept after a
move_newest n (AsksToResume k) v next m kept after a = ask_resume_newest n k v next m kept a
move_newest n (AsksToBind k) v next m kept after a = ask_bind_newest n k v next m after a
move_newest n (ReadsFailed k) v next m kept after a = refused_newest n k v next m after a
move_newest n (ReadsResumed k) v next m kept after a = read_resumed_newest n k v next m after a
move_newest n (ReadsBound k i) v next m kept after a = read_bound_newest n k i v next m after a
move_newest n (ReadsEnabled k i) v next m kept after a = read_enabled_newest n k i v next m after a
move_newest n (ReadsStanza k z) v next m kept after a = down_stanza_newest n k z v next m after a
move_newest n (ReadsRequest k) v next m kept after a = down_request_newest n k v next m after a
move_newest n (ReadsCount k h) v next m kept after a = down_count_newest n k h v next m after a
move_newest n (TakesHand k) v next m kept after a = up_hand_newest n k v next m kept after a
move_newest n (TakesResume k) v next m kept after a = resumed_here_newest n k v next m after a
move_newest n (TakesLateResume k) v next m kept after a = resumed_late_newest n k v next m after a
move_newest n (TakesStrangeResume k) v next m kept after a = failed_newest n k v next m kept a
move_newest n (TakesHighResume k) v next m kept after a = too_high_newest n k v next m a
move_newest n (TakesBind k i) v next m kept after a = bound_newest n k i v next m kept after a
move_newest n (TakesEnable k) v next m kept after a = enabled_newest n k v next m kept after a
move_newest n (TakesStanza k z) v next m kept after a = up_stanza_newest n k z v next m kept after a
move_newest n (TakesRequest k) v next m kept after a = up_request_newest n k v next m kept after a
move_newest n (TakesCount k h) v next m kept after a = up_count_newest n k h v next m kept after a
move_newest n (TakesFoot k) v next m kept after a = foot_taken_newest n k v next m a
move_newest n (Parks k) v next m kept after a = parked_newest n k v next m a
move_newest n (Hears k) v next m kept after a = gone_newest n k v next m a
move_newest n (HearsEarly k) v next m kept after a = uncounted_gone_newest n k v next m a
move_newest n (Detaches k ending) v next m kept after a = detached_newest n k ending v next m a
move_newest n (Shuts k ending) v next m kept after a = uncounted_shut_newest n k ending v next m a
move_newest n EndsRow v next m kept after a = row_ended_newest n v next m a
move_newest n (Serves k z) v next m kept after a = server_put_newest n k z v next m kept after a
move_newest n (Keeps z) v next m kept after a = server_queued_newest n z v next m a
move_newest n (Demands k) v next m kept after a = server_request_newest n k v next m kept after a

newest_along : {A : Type 0} (moves : List (LinkMove A)) (n : Option ℕ) (v last : View A) → LinkReaches moves v last → LinkKept v → IsNewest n v → LinkKept last × IsNewest (newest moves n) last
newest_along [] n v last same kept a = (subst LinkKept (sym same) kept, subst (IsNewest n) (sym same) a)
newest_along (move ∷ moves) n v last (next, by, along) kept a =
    let after : LinkKept next = move_keeps move v next by kept in
    newest_along moves (dialled_by move n) next last along after (move_newest n move v next by kept after a)

pub newest_kept : {A : Type 0} (moves : List (LinkMove A)) (v : View A) → LinkReaches moves nothing_yet v → LinkKept v × IsNewest (newest moves None) v
newest_kept moves v reaches = newest_along moves None nothing_yet v reaches beginning_keeps (record { here = λ k e. no_entry k e; present = λ k p h c more s is found word there. no_entry c found })

pub newest_states : {A : Type 0} (moves : List (LinkMove A)) (v : View A) (k h : ℕ) (c : Conn A) (r : Row A) (rest : List (UpWord A)) → LinkReaches moves nothing_yet v → newest moves None ≡ Some k → v.conns k ≡ Some c → v.row ≡ Some r →
    up_words c.wires ≡ ResumeAt r.number h ∷ rest → (s : Session A) × (v.sessions r.number ≡ Some s) × (h ≡ length s.down.got) × IsWithin r.acked r.queue h
newest_states {A = A} moves v k h c r rest reaches is found is_row first =
    let b = newest_kept moves v reaches in
    let row : RowKept v.conns v.sessions r = b.0.row r is_row in
    let whole = first_whole (ResumeAt r.number h) rest c.wires first in
    let count : h ≡ length row.session.down.got = b.1.present k r.number h c whole.0 row.session is found whole.1 row.is in
    let d = kept_reached row.session.down (b.0.sessions r.number row.session row.is).down in
    let low = d.acked in
    let all = ap length d.front.1 in
    let one = length-append (row.session.down.got ++ row.session.down.way) d.front.0 in
    let two = length-append row.session.down.got row.session.down.way in
    let acked = row.acked in
    let queue : length r.queue ≡ length row.session.down.put - row.session.down.acked = ap length row.queue ∙ length-drop row.session.down.acked row.session.down.put in
    (row.session, row.is, count, record { low = omega arith; high = omega arith })

pub newest_not_high : {A : Type 0} (moves : List (LinkMove A)) (v next : View A) (k : ℕ) → LinkReaches moves nothing_yet v → newest moves None ≡ Some k → IsTooHigh k v next → ⊥
newest_not_high moves v next k reaches is m =
    let s = newest_states moves v k m.h m.conn m.row m.rest reaches is m.is m.is_row m.first in
    let low = s.3.low in
    let high = s.3.high in
    elim m.high [ inl below ↦ absurd (omega arith) | inr above ↦ absurd (omega arith) ]
