-- Where both pipes of a connection that flows are empty, nothing is outstanding.
use Rattle.std.proofs.Common.{◌≡◌, ℕ, Bool, true, List, [], ◌∷◌, ◌++◌, length, drop, refl, sym, ap, ◌∙◌, subst, inl, inr, Some}
use Rattle.std.proofs.lemmas.List.{append-nil}
use Rattle.sm_acks.specs.Delivery.{queue_of}
use Rattle.sm_acks.proofs.Directions.{kept_reached}
use Rattle.sim_2_links.proofs.Entries.{is_has}
use Rattle.sim_2_links.proofs.CutLinks.{some_one}
use Rattle.sim_2_links.proofs.Hands.{no_entry, beginning_keeps}
use Rattle.sim_2_links.proofs.Reached.{move_keeps}
use Rattle.sim_2_links.proofs.Puts.{client_put_keeps}
use Rattle.sim_2_links.proofs.Queueing.{client_request_keeps}
use Rattle.sim_2_links.proofs.Covering.{IsTogether, together}
use Rattle.sim_2_links.proofs.Prompt.{cut_covered, dial_covered, let_go_covered, footed_covered, forgotten_covered, client_queued_covered, down_hand_covered, ask_resume_covered, ask_bind_covered, refused_covered, read_bound_covered, up_hand_covered, resumed_here_covered, resumed_late_covered, failed_covered, too_high_covered, bound_covered, enabled_covered, foot_taken_covered, parked_covered, gone_covered, uncounted_gone_covered, detached_covered, uncounted_shut_covered, row_ended_covered, server_queued_covered}
use Rattle.sim_2_links.proofs.PromptWords.{server_put_covered, server_request_covered, up_stanza_covered, up_request_covered, up_count_covered, client_put_covered, client_request_covered, down_stanza_covered, down_request_covered, down_count_covered}
use Rattle.sim_2_links.proofs.PromptSessions.{read_resumed_covered, read_enabled_covered}
use Rattle.sim_2_links.specs.Words.{up_stanzas, down_stanzas, InOnline}
use Rattle.sim_2_links.specs.Wires.{Wires, Flow, Stop, is_flowing, up_words, down_words, up_whole, down_whole}
use Rattle.sim_2_links.specs.Stages.{Stage, AsksResume, Refused, Resumes, Binds, AsksEnable, Enables, Runs, client_of, up_of, down_of, tail_of, foot_of, Conn}
use Rattle.sim_2_links.specs.Views.{has, Session, Own, View, carried_by}
use Rattle.sim_2_links.specs.Links.{FitsOwn, IsOwn, ConnKept, GoesDown, OwnKept, LinkKept}
use Rattle.sim_2_links.specs.Machine.{LinkMove, Cuts, Dials, LetsGo, Foots, Forgets, Puts, Queues, Requests, ReadsHand, AsksToResume, AsksToBind, ReadsFailed, ReadsResumed, ReadsBound, ReadsEnabled, ReadsStanza, ReadsRequest, ReadsCount, TakesHand, TakesResume, TakesLateResume, TakesStrangeResume, TakesHighResume, TakesBind, TakesEnable, TakesStanza, TakesRequest, TakesCount, TakesFoot, Parks, Hears, HearsEarly, Detaches, Shuts, EndsRow, Serves, Keeps, Demands, LinkMoves, nothing_yet}
use Rattle.sim_2_links.specs.Covers.{NoneAsks, IsOnWay, IsToCome, IsCoveredBy, IsCovered, PromptMove, Does, Says, IsPrompt, PromptMoves, PromptReaches, PromptReached, IsSettled}

move_covered : {A : Type 0} (test : A → Bool) (move : LinkMove A) (v next : View A) → IsPrompt test move → LinkMoves move v next → LinkKept v → IsCovered test v → IsCovered test next
move_covered test (Cuts k i j) v next p m kept covered = cut_covered test k i j v next m covered
move_covered test (Dials k) v next p m kept covered = dial_covered test k v next m
move_covered test (LetsGo k) v next p m kept covered = let_go_covered test k v next m
move_covered test (Foots k) v next p m kept covered = footed_covered test k v next m covered
move_covered test Forgets v next p m kept covered = forgotten_covered test v next m
move_covered test (Puts k z) v next p m kept covered = client_put_covered test k z v next p m covered
move_covered test (Queues z) v next p m kept covered = client_queued_covered test z v next m
move_covered test (Requests k) v next p m kept covered = client_request_covered test k v next m kept
move_covered test (ReadsHand k) v next p m kept covered = down_hand_covered test k v next m kept covered
move_covered test (AsksToResume k) v next p m kept covered = ask_resume_covered test k v next m covered
move_covered test (AsksToBind k) v next p m kept covered = ask_bind_covered test k v next m covered
move_covered test (ReadsFailed k) v next p m kept covered = refused_covered test k v next m
move_covered test (ReadsResumed k) v next p m kept covered = read_resumed_covered test k v next m kept
move_covered test (ReadsBound k n) v next p m kept covered = read_bound_covered test k n v next m covered
move_covered test (ReadsEnabled k n) v next p m kept covered = read_enabled_covered test k n v next m kept
move_covered test (ReadsStanza k z) v next p m kept covered = down_stanza_covered test k z v next m covered
move_covered test (ReadsRequest k) v next p m kept covered = down_request_covered test k v next m covered
move_covered test (ReadsCount k h) v next p m kept covered = down_count_covered test k h v next m kept covered
move_covered test (TakesHand k) v next p m kept covered = up_hand_covered test k v next m kept covered
move_covered test (TakesResume k) v next p m kept covered = resumed_here_covered test k v next m kept covered
move_covered test (TakesLateResume k) v next p m kept covered = resumed_late_covered test k v next m covered
move_covered test (TakesStrangeResume k) v next p m kept covered = failed_covered test k v next m kept covered
move_covered test (TakesHighResume k) v next p m kept covered = too_high_covered test k v next m covered
move_covered test (TakesBind k n) v next p m kept covered = bound_covered test k n v next m kept covered
move_covered test (TakesEnable k) v next p m kept covered = enabled_covered test k v next m kept covered
move_covered test (TakesStanza k z) v next p m kept covered = up_stanza_covered test k z v next m kept covered
move_covered test (TakesRequest k) v next p m kept covered = up_request_covered test k v next m kept covered
move_covered test (TakesCount k h) v next p m kept covered = up_count_covered test k h v next m covered
move_covered test (TakesFoot k) v next p m kept covered = foot_taken_covered test k v next m covered
move_covered test (Parks k) v next p m kept covered = parked_covered test k v next m covered
move_covered test (Hears k) v next p m kept covered = gone_covered test k v next m covered
move_covered test (HearsEarly k) v next p m kept covered = uncounted_gone_covered test k v next m covered
move_covered test (Detaches k ending) v next p m kept covered = detached_covered test k ending v next m covered
move_covered test (Shuts k ending) v next p m kept covered = uncounted_shut_covered test k ending v next m covered
move_covered test EndsRow v next p m kept covered = row_ended_covered test v next m covered
move_covered test (Serves k z) v next p m kept covered = server_put_covered test k z v next m covered
move_covered test (Keeps z) v next p m kept covered = server_queued_covered test z v next m covered
move_covered test (Demands k) v next p m kept covered = server_request_covered test k v next m covered

abbrev pub Both : {A : Type 0} → (A → Bool) → View A → Type 0
Both test v = LinkKept v × IsCovered test v

prompt_keeps : {A : Type 0} (test : A → Bool) (move : PromptMove A) (v next : View A) → PromptMoves test move v next → Both test v → Both test next
prompt_keeps test (Does move) v next (p, m) (kept, covered) = (move_keeps move v next m kept, move_covered test move v next p m kept covered)
prompt_keeps test (Says k z) v next (mid, put, asked) (kept, covered) =
    let mid_kept : LinkKept mid = client_put_keeps k z v mid put kept in
    (client_request_keeps k mid next asked mid_kept, client_request_covered test k mid next asked mid_kept)

both_along : {A : Type 0} (test : A → Bool) (moves : List (PromptMove A)) (v last : View A) → Both test v → PromptReaches test moves v last → Both test last
both_along test [] v last both same = subst (Both test) (sym same) both
both_along test (move ∷ moves) v last both (next, by, along) = both_along test moves next last (prompt_keeps test move v next by both) along

pub prompt_kept : {A : Type 0} (test : A → Bool) (v : View A) → PromptReached test v → Both test v
prompt_kept test v reached = both_along test reached.moves nothing_yet v (beginning_keeps, λ k c o s here found own online flows is. no_entry c found) reached.reaches

-- only one row of the table has nothing in both pipes
quiet_row : {A : Type 0} (s : Stage A) → up_of s ≡ [] → down_of s ≡ [] → (p : ℕ) × (s ≡ Runs p [] [])
quiet_row (Runs p [] []) e f = (p, refl)
quiet_row (Runs p (u ∷ ups) downs) e f = absurd (let no_way : ⊥ = cc in no_way)
quiet_row (Runs p [] (d ∷ downs)) e f = absurd (let no_way : ⊥ = cc in no_way)
quiet_row (AsksResume p h) e f = absurd (let no_way : ⊥ = cc in no_way)
quiet_row (Refused p) e f = absurd (let no_way : ⊥ = cc in no_way)
quiet_row (Resumes p h downs) e f = absurd (let no_way : ⊥ = cc in no_way)
quiet_row (Binds m) e f = absurd (let no_way : ⊥ = cc in no_way)
quiet_row (AsksEnable m) e f = absurd (let no_way : ⊥ = cc in no_way)
quiet_row (Enables m downs) e f = absurd (let no_way : ⊥ = cc in no_way)
quiet_row _ e f = absurd (let no_way : ⊥ = cc in no_way)

flowing_whole_up : {A : Type 0} (x : Wires A) → is_flowing x ≡ true → up_whole x ≡ up_words x
flowing_whole_up (Flow us ds) e = refl
flowing_whole_up (Stop us ds lu ld) e = absurd (let no_way : ⊥ = cc in no_way)

flowing_whole_down : {A : Type 0} (x : Wires A) → is_flowing x ≡ true → down_whole x ≡ down_words x
flowing_whole_down (Flow us ds) e = refl
flowing_whole_down (Stop us ds lu ld) e = absurd (let no_way : ⊥ = cc in no_way)

pub settled : {A : Type 0} (test : A → Bool) (v : View A) (k : ℕ) (c : Conn A) → Both test v → v.here ≡ Some k → v.conns k ≡ Some c → is_flowing c.wires ≡ true → up_words c.wires ≡ [] → down_words c.wires ≡ [] → IsSettled test v k c
settled {A = A} test v k c (kept, covered) here is flows no_up no_down = record {
  own = o;
  is_own = own.1;
  online = online;
  row = g.1.row;
  is_row = g.1.is_row;
  same = g.1.number;
  on = g.1.on;
  session = g.0;
  is = g.1.session;
  up = sym (g.1.all ∙ ap (λ ws. g.0.up.got ++ up_stanzas ws) no_up ∙ append-nil g.0.up.got);
  down = down;
  acknowledged = subst (λ (l : List A). NoneAsks test l) (sym (mine.queue ∙ ap (λ (x : Session A). queue_of x.up) same)) (elim cover.comes [
    | inl e ↦ subst (λ (n : ℕ). NoneAsks test (drop n g.0.up.put)) (e ∙ mine.acked ∙ ap (λ (x : Session A). x.up.acked) same) cover.none
    | inr x ↦ absurd (elim x [ inl on ↦ subst (IsOnWay cover.count) no_down on | inr come ↦ subst (IsToCome cover.count (length g.0.up.got)) no_up come ])
  ]);
}
  where
    old : ConnKept v k c
    old = kept.conns k c is

    works : has v.here k ≡ true
    works = is_has v.here k here

    quiet : (p : ℕ) × (old.stage ≡ Runs p [] [])
    quiet = quiet_row old.stage
        (sym (append-nil (up_of old.stage)) ∙ ap (λ x. up_of old.stage ++ foot_of x) (sym (old.piped.unfooted works)) ∙ sym old.at.up ∙ flowing_whole_up c.wires flows ∙ no_up)
        (sym (append-nil (down_of old.stage)) ∙ ap (λ x. down_of old.stage ++ tail_of x) (sym (old.piped.flowing flows).1) ∙ sym old.at.down ∙ flowing_whole_down c.wires flows ∙ no_down)

    own : IsOwn v.own quiet.0
    own = subst (λ s. FitsOwn v.own v.epoch v.sessions s) quiet.1 (old.fits works)

    o : Own A
    o = own.0

    online : c.client ≡ InOnline own.0.number
    online = old.at.client ∙ ap client_of quiet.1 ∙ ap InOnline (sym own.2)

    g : (s : Session A) × IsTogether v k c own.0 s
    g = together v k c own.0 kept here is own.1 online flows

    mine : OwnKept v.epoch v.sessions own.0
    mine = kept.own own.0 own.1

    same : mine.session ≡ g.0
    same = some_one (v.sessions own.0.number) mine.session g.0 mine.is g.1.session

    cover : IsCoveredBy test c own.0 g.0
    cover = covered k c own.0 g.0 here is own.1 online flows g.1.session

    goes : (s : Session A) × (v.sessions own.0.number ≡ Some s) × GoesDown c s
    goes = kept.goes_down k c own.0.number here is (ap (λ x. carried_by x (down_whole c.wires)) online)

    down : g.0.down.got ≡ g.0.down.put
    down =
        let one : goes.0 ≡ g.0 = some_one (v.sessions own.0.number) goes.0 g.0 goes.1 g.1.session in
        let whole = (kept_reached goes.0.down (kept.sessions own.0.number goes.0 goes.1).down).whole (goes.2.is_open ∙ flows) in
        let all : goes.0.down.put ≡ goes.0.down.got = whole ∙ ap (λ l. goes.0.down.got ++ l) (goes.2.way ∙ ap down_stanzas no_down) ∙ append-nil goes.0.down.got in
        subst (λ (x : Session A). x.down.got ≡ x.down.put) one (sym all)
