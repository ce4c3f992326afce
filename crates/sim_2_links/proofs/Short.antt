-- The client's queue stays short wherever such moves lead.
use Rattle.std.proofs.Common.{◌≡◌, ℕ, ◌+◌, ◌≤◌, List, [], ◌∷◌, take, drop, sym, ap, subst, arith, Some}
use Rattle.sim_2_links.proofs.Hands.{no_entry, beginning_keeps}
use Rattle.sim_2_links.proofs.Reached.{move_keeps}
use Rattle.sim_2_links.proofs.Puts.{client_put_keeps}
use Rattle.sim_2_links.proofs.Queueing.{client_request_keeps}
use Rattle.sim_2_links.proofs.Many.{many_split}
use Rattle.sim_2_links.proofs.Paged.{PagingKept}
use Rattle.sim_2_links.proofs.PagedMoves.{cut_paged, dial_paged, let_go_paged, forgotten_paged, footed_paged, up_hand_paged, down_hand_paged, ask_resume_paged, ask_bind_paged, refused_paged, read_bound_paged, failed_paged, too_high_paged, resumed_late_paged, bound_paged, foot_taken_paged, parked_paged, gone_paged, uncounted_gone_paged, row_ended_paged, detached_paged, uncounted_shut_paged}
use Rattle.sim_2_links.proofs.PagedTraffic.{up_stanza_paged, up_request_paged, up_count_paged, server_put_paged, server_queued_paged, server_request_paged, client_put_paged, client_queued_paged, client_request_paged, client_says_paged, down_stanza_paged, down_request_paged, down_count_paged}
use Rattle.sim_2_links.proofs.PagedSessions.{enabled_paged, read_enabled_paged, resumed_here_paged, read_resumed_paged}
use Rattle.sim_2_links.specs.Words.{InOnline}
use Rattle.sim_2_links.specs.Wires.{down_whole}
use Rattle.sim_2_links.specs.Stages.{Conn}
use Rattle.sim_2_links.specs.Views.{Session, Own, View, carried_by}
use Rattle.sim_2_links.specs.Links.{LinkKept}
use Rattle.sim_2_links.specs.Machine.{LinkMove, Cuts, Dials, LetsGo, Foots, Forgets, Puts, Queues, Requests, ReadsHand, AsksToResume, AsksToBind, ReadsFailed, ReadsResumed, ReadsBound, ReadsEnabled, ReadsStanza, ReadsRequest, ReadsCount, TakesHand, TakesResume, TakesLateResume, TakesStrangeResume, TakesHighResume, TakesBind, TakesEnable, TakesStanza, TakesRequest, TakesCount, TakesFoot, Parks, Hears, HearsEarly, Detaches, Shuts, EndsRow, Serves, Keeps, Demands, LinkMoves, nothing_yet}
use Rattle.sim_2_links.specs.Covers.{PromptMove, Does, Says, IsPrompt}
use Rattle.sim_2_links.specs.Paging.{Paging, many, course_of, MayPage, PagingMoves, PagingReaches, PagingReached, IsInTime, IsShort}

move_paged : {A : Type 0} (p : Paging A) (move : LinkMove A) (v next : View A) → MayPage p (Does move) v → IsPrompt p.asks move → LinkMoves move v next → LinkKept v → PagingKept p v → PagingKept p next
move_paged p (Cuts k i j) v next may quiet m kept paged = cut_paged p k i j v next m paged
move_paged p (Dials k) v next may quiet m kept paged = dial_paged p k v next m paged
move_paged p (LetsGo k) v next may quiet m kept paged = let_go_paged p k v next m paged
move_paged p (Foots k) v next may quiet m kept paged = footed_paged p k v next m paged
move_paged p Forgets v next may quiet m kept paged = forgotten_paged p v next m paged
move_paged p (Puts k z) v next may quiet m kept paged = client_put_paged p k z v next quiet may m paged
move_paged p (Queues z) v next may quiet m kept paged = client_queued_paged p z v next may m paged
move_paged p (Requests k) v next may quiet m kept paged = client_request_paged p k v next m paged
move_paged p (ReadsHand k) v next may quiet m kept paged = down_hand_paged p k v next m kept paged
move_paged p (AsksToResume k) v next may quiet m kept paged = ask_resume_paged p k v next m kept paged
move_paged p (AsksToBind k) v next may quiet m kept paged = ask_bind_paged p k v next m paged
move_paged p (ReadsFailed k) v next may quiet m kept paged = refused_paged p k v next m paged
move_paged p (ReadsResumed k) v next may quiet m kept paged = read_resumed_paged p k v next m kept paged
move_paged p (ReadsBound k n) v next may quiet m kept paged = read_bound_paged p k n v next m kept paged
move_paged p (ReadsEnabled k n) v next may quiet m kept paged = read_enabled_paged p k n v next m paged
move_paged p (ReadsStanza k z) v next may quiet m kept paged = down_stanza_paged p k z v next m paged
move_paged p (ReadsRequest k) v next may quiet m kept paged = down_request_paged p k v next m paged
move_paged p (ReadsCount k h) v next may quiet m kept paged = down_count_paged p k h v next m kept paged
move_paged p (TakesHand k) v next may quiet m kept paged = up_hand_paged p k v next m kept paged
move_paged p (TakesResume k) v next may quiet m kept paged = resumed_here_paged p k v next m kept paged
move_paged p (TakesLateResume k) v next may quiet m kept paged = resumed_late_paged p k v next m paged
move_paged p (TakesStrangeResume k) v next may quiet m kept paged = failed_paged p k v next m kept paged
move_paged p (TakesHighResume k) v next may quiet m kept paged = too_high_paged p k v next m kept paged
move_paged p (TakesBind k n) v next may quiet m kept paged = bound_paged p k n v next m kept paged
move_paged p (TakesEnable k) v next may quiet m kept paged = enabled_paged p k v next m kept paged
move_paged p (TakesStanza k z) v next may quiet m kept paged = up_stanza_paged p k z v next m kept paged
move_paged p (TakesRequest k) v next may quiet m kept paged = up_request_paged p k v next m kept paged
move_paged p (TakesCount k h) v next may quiet m kept paged = up_count_paged p k h v next m paged
move_paged p (TakesFoot k) v next may quiet m kept paged = foot_taken_paged p k v next m kept paged
move_paged p (Parks k) v next may quiet m kept paged = parked_paged p k v next m paged
move_paged p (Hears k) v next may quiet m kept paged = gone_paged p k v next m paged
move_paged p (HearsEarly k) v next may quiet m kept paged = uncounted_gone_paged p k v next m paged
move_paged p (Detaches k ending) v next may quiet m kept paged = detached_paged p k ending v next m kept paged
move_paged p (Shuts k ending) v next may quiet m kept paged = uncounted_shut_paged p k ending v next m kept paged
move_paged p EndsRow v next may quiet m kept paged = row_ended_paged p v next m paged
move_paged p (Serves k z) v next may quiet m kept paged = server_put_paged p k z v next may m kept paged
move_paged p (Keeps z) v next may quiet m kept paged = server_queued_paged p z v next may m paged
move_paged p (Demands k) v next may quiet m kept paged = server_request_paged p k v next m paged

abbrev pub Both : {A : Type 0} → Paging A → View A → Type 0
Both p v = LinkKept v × PagingKept p v

paging_keeps : {A : Type 0} (p : Paging A) (move : PromptMove A) (v next : View A) → PagingMoves p move v next → Both p v → Both p next
paging_keeps p (Does move) v next (may, (quiet, m)) (kept, paged) = (move_keeps move v next m kept, move_paged p move v next may quiet m kept paged)
paging_keeps p (Says k z) v next (may, (mid, put, asked)) (kept, paged) = (client_request_keeps k mid next asked (client_put_keeps k z v mid put kept), client_says_paged p k z v mid next may put asked paged)

both_along : {A : Type 0} (p : Paging A) (moves : List (PromptMove A)) (v last : View A) → Both p v → PagingReaches p moves v last → Both p last
both_along p [] v last both same = subst (Both p) (sym same) both
both_along p (move ∷ moves) v last both (next, by, along) = both_along p moves next last (paging_keeps p move v next by both) along

pub paging_kept : {A : Type 0} (p : Paging A) (v : View A) → PagingReached p v → Both p v
paging_kept p v reached = both_along p reached.moves nothing_yet v (
  beginning_keeps,
  record {
    pages = λ q s is. no_entry s is;
    time = λ n q c s here found carried is. no_entry c found;
    room = λ o own. no_entry o own;
  },
) reached.reaches

pub short : {A : Type 0} (p : Paging A) (v : View A) (o : Own A) → Both p v → v.own ≡ Some o → (s : Session A) × (v.sessions o.number ≡ Some s) × IsShort p o s
short {A = A} p v o (kept, paged) own =
    let mine = kept.own o own in
    let a = paged.pages o.number mine.session mine.is in
    let acked : o.acked ≡ mine.session.up.acked = mine.acked in
    let over : many p.ends mine.session.down.got ≤ many p.asks (take o.acked mine.session.up.put) + 1 = subst (λ n. many p.ends mine.session.down.got ≤ many p.asks (take n mine.session.up.put) + 1) (sym acked) a.over in
    let queue : many p.asks o.queue ≡ many p.asks (drop mine.session.up.acked mine.session.up.put) = ap (many p.asks) mine.queue in
    let split = many_split p.asks mine.session.up.acked mine.session.up.put in
    let requests : many p.asks o.queue ≤ 2 = let asked = a.asked in let late = a.over in omega arith in
    (mine.session, mine.is, record { queue = paged.room o own; requests = requests; over = over; bound = (let low = paged.room o own in omega arith) })

pub comes_in_time : {A : Type 0} (p : Paging A) (v : View A) (k : ℕ) (c : Conn A) (o : Own A) → Both p v → v.here ≡ Some k → v.conns k ≡ Some c → v.own ≡ Some o → c.client ≡ InOnline o.number → (s : Session A) × (v.sessions o.number ≡ Some s) × IsInTime p c.wires (course_of s)
comes_in_time p v k c o (kept, paged) here is own online =
    let mine = kept.own o own in
    (mine.session, mine.is, paged.time k o.number c mine.session here is (ap (λ x. carried_by x (down_whole c.wires)) online) mine.is)
