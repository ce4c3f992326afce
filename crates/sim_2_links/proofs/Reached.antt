-- What each move keeps holds wherever moves lead.
use Rattle.std.proofs.Common.{List, [], ◌∷◌, sym, subst}
use Rattle.sim_2_links.proofs.CutLinks.{cut_keeps}
use Rattle.sim_2_links.proofs.Hands.{beginning_keeps, dial_keeps, let_go_keeps, up_hand_keeps, down_hand_keeps}
use Rattle.sim_2_links.proofs.Refusals.{failed_keeps, too_high_keeps, forgotten_keeps, footed_keeps}
use Rattle.sim_2_links.proofs.Puts.{client_put_keeps}
use Rattle.sim_2_links.proofs.Queueing.{client_queued_keeps, client_request_keeps}
use Rattle.sim_2_links.proofs.Asking.{ask_resume_keeps, ask_bind_keeps, refused_keeps}
use Rattle.sim_2_links.proofs.ReadResumed.{read_resumed_keeps}
use Rattle.sim_2_links.proofs.ReadBound.{read_bound_keeps}
use Rattle.sim_2_links.proofs.ReadEnabled.{read_enabled_keeps}
use Rattle.sim_2_links.proofs.Heard.{down_stanza_keeps, down_request_keeps, down_count_keeps}
use Rattle.sim_2_links.proofs.Resumption.{resumed_here_keeps}
use Rattle.sim_2_links.proofs.Late.{resumed_late_keeps}
use Rattle.sim_2_links.proofs.Binding.{bound_keeps}
use Rattle.sim_2_links.proofs.Enabling.{enabled_keeps}
use Rattle.sim_2_links.proofs.Served.{up_stanza_keeps}
use Rattle.sim_2_links.proofs.ServedCounts.{up_request_keeps, up_count_keeps}
use Rattle.sim_2_links.proofs.Ends.{foot_taken_keeps, gone_keeps}
use Rattle.sim_2_links.proofs.Parked.{parked_keeps}
use Rattle.sim_2_links.proofs.UncountedEnds.{uncounted_shut_keeps, uncounted_gone_keeps}
use Rattle.sim_2_links.proofs.Detached.{detached_keeps, row_ended_keeps}
use Rattle.sim_2_links.proofs.Putting.{server_put_keeps, server_queued_keeps, server_request_keeps}
use Rattle.sim_2_links.specs.Views.{View}
use Rattle.sim_2_links.specs.Links.{LinkKept}
use Rattle.sim_2_links.specs.Machine.{LinkMove, Cuts, Dials, LetsGo, Foots, Forgets, Puts, Queues, Requests, ReadsHand, AsksToResume, AsksToBind, ReadsFailed, ReadsResumed, ReadsBound, ReadsEnabled, ReadsStanza, ReadsRequest, ReadsCount, TakesHand, TakesResume, TakesLateResume, TakesStrangeResume, TakesHighResume, TakesBind, TakesEnable, TakesStanza, TakesRequest, TakesCount, TakesFoot, Parks, Hears, HearsEarly, Detaches, Shuts, EndsRow, Serves, Keeps, Demands, LinkMoves, nothing_yet, LinkReaches, LinkReached}

pub move_keeps : {A : Type 0} (move : LinkMove A) (v next : View A) → LinkMoves move v next → LinkKept v → LinkKept next
move_keeps (Cuts k i j) v next m = cut_keeps k i j v next m
move_keeps (Dials k) v next m = dial_keeps k v next m
move_keeps (LetsGo k) v next m = let_go_keeps k v next m
move_keeps (Foots k) v next m = footed_keeps k v next m
move_keeps Forgets v next m = forgotten_keeps v next m
move_keeps (Puts k z) v next m = client_put_keeps k z v next m
move_keeps (Queues z) v next m = client_queued_keeps z v next m
move_keeps (Requests k) v next m = client_request_keeps k v next m
move_keeps (ReadsHand k) v next m = down_hand_keeps k v next m
move_keeps (AsksToResume k) v next m = ask_resume_keeps k v next m
move_keeps (AsksToBind k) v next m = ask_bind_keeps k v next m
move_keeps (ReadsFailed k) v next m = refused_keeps k v next m
move_keeps (ReadsResumed k) v next m = read_resumed_keeps k v next m
move_keeps (ReadsBound k n) v next m = read_bound_keeps k n v next m
move_keeps (ReadsEnabled k n) v next m = read_enabled_keeps k n v next m
move_keeps (ReadsStanza k z) v next m = down_stanza_keeps k z v next m
move_keeps (ReadsRequest k) v next m = down_request_keeps k v next m
move_keeps (ReadsCount k h) v next m = down_count_keeps k h v next m
move_keeps (TakesHand k) v next m = up_hand_keeps k v next m
move_keeps (TakesResume k) v next m = resumed_here_keeps k v next m
move_keeps (TakesLateResume k) v next m = resumed_late_keeps k v next m
move_keeps (TakesStrangeResume k) v next m = failed_keeps k v next m
move_keeps (TakesHighResume k) v next m = too_high_keeps k v next m
move_keeps (TakesBind k n) v next m = bound_keeps k n v next m
move_keeps (TakesEnable k) v next m = enabled_keeps k v next m
move_keeps (TakesStanza k z) v next m = up_stanza_keeps k z v next m
move_keeps (TakesRequest k) v next m = up_request_keeps k v next m
move_keeps (TakesCount k h) v next m = up_count_keeps k h v next m
move_keeps (TakesFoot k) v next m = foot_taken_keeps k v next m
move_keeps (Parks k) v next m = parked_keeps k v next m
move_keeps (Hears k) v next m = gone_keeps k v next m
move_keeps (HearsEarly k) v next m = uncounted_gone_keeps k v next m
move_keeps (Detaches k ending) v next m = detached_keeps k ending v next m
move_keeps (Shuts k ending) v next m = uncounted_shut_keeps k ending v next m
move_keeps EndsRow v next m = row_ended_keeps v next m
move_keeps (Serves k z) v next m = server_put_keeps k z v next m
move_keeps (Keeps z) v next m = server_queued_keeps z v next m
move_keeps (Demands k) v next m = server_request_keeps k v next m

pub kept_along : {A : Type 0} (moves : List (LinkMove A)) (v last : View A) → LinkKept v → LinkReaches moves v last → LinkKept last
kept_along [] v last kept same = subst LinkKept (sym same) kept
kept_along (move ∷ moves) v last kept (next, by, along) = kept_along moves next last (move_keeps move v next by kept) along

pub link_kept : {A : Type 0} (v : View A) → LinkReached v → LinkKept v
link_kept v reached = kept_along reached.moves nothing_yet v beginning_keeps reached.reaches
