-- A session is resumed (XEP-0198, section 5) that is on another connection: the stream there ends first, by `conflict`, and
-- the session is parked; then all is as for one that was parked.
use Rattle.std.proofs.Common.{◌≡◌, ◌≢◌, ℕ, ◌==◌, Bool, false, ◌&&◌, List, [], ◌∷◌, ◌++◌, Option, Some, None, Ok, Err, cond, length, nat_le, refl, sym, ap, subst, ◌∙◌}
use Rattle.std.proofs.lemmas.Option.{same_Some}
use Rattle.std.specs.List.{filter, find}
use Rattle.std.specs.Option.{option_map}
use Rattle.srv_state.specs.State.{Put, ServerState, Step, with_sessions, without_conn}
use Rattle.srv_state.specs.Steps.{Act, Ask, Resume, Say, acted}
use Rattle.srv_state.specs.Streams.{parting_where}
use Rattle.srv_state.specs.declared.limits.TheConstants.{ASKS_AT}
use Rattle.sim_3_items.specs.Identities.{Identity, Login}
use Rattle.sim_3_items.specs.Pipes.{PipesRepresent}
use Rattle.sim_3_items.specs.Sent.{sent, sent_under}
use Rattle.sim_3_items.specs.Servers.{ServerRepresents}
use Rattle.sim_3_items.specs.WordItems.{told_count, up_item}
use Rattle.sim_3_items.specs.ItemMoves.{step_of}
use Rattle.sim_3_items.specs.ItemPipes.{ItemWire, handed_up}
use Rattle.sim_3_items.specs.ItemWorlds.{itself}
use Rattle.sim_2_links.proofs.Detached.{ended_off}
use Rattle.sim_2_links.proofs.Entries.{at_other, at_same, other_number}
use Rattle.sim_2_links.proofs.Reached.{link_kept}
use Rattle.sim_2_links.proofs.LinkRuns.{link_more}
use Rattle.sim_2_links.specs.Links.{IsPlaced, LinkKept}
use Rattle.sim_2_links.specs.Machine.{Detaches}
use Rattle.sim_2_links.specs.SessionMoves.{IsDetached, lost_if, shut as shut_conn}
use Rattle.sim_2_links.specs.Stages.{Conn, Errs, tail_of}
use Rattle.sim_2_links.specs.Views.{Row, Table, View, alter, carries, has, on_phase, session_on, with_at}
use Rattle.sim_2_links.specs.Views as links
use Rattle.sim_2_links.specs.Wires.{send_down}
use Rattle.sim_2_links.specs.Words.{Conflict, ResumeAt}
use Rattle.sm_live.specs.Sessions.{Session, after_resume, asks, is_at, is_resumed_by, is_too_high, resent, resume_answer, resume_ok, resumes, send_count, session_resumed, with_session, without, without_at}
use Rattle.im_replies.specs.Management.{resumed_item}
use Rattle.im_replies.specs.Streams.{error_item}
use Rattle.im_replies.specs.declared.conditions.StreamCondition.TheVariants as stream
use Rattle.sm_resumption.specs.Previds.{previd_of}
use Rattle.sm_resumption.specs.declared.answers.ResumeFault.TheVariants.{TooHigh}
use Rattle.sim_3_images.proofs.RuleKept.{changes_one, either, found_mapped, none_left}
use Rattle.sim_4_links_follow.proofs.Former.{keeps_both, pipes_as, sent_apart, shut_first}
use Rattle.sim_4_links_follow.proofs.HandMoves.{kept_here}
use Rattle.sim_4_links_follow.proofs.Leavings.{unseated}
use Rattle.sim_4_links_follow.proofs.Parkings.{off, off_leaves, off_named, off_represents}
use Rattle.sim_4_links_follow.proofs.Removed.{all_left}
use Rattle.sim_4_links_follow.proofs.ResumeCounts.{IsAfter, IsPosition}
use Rattle.sim_4_links_follow.proofs.ResumeHigh.{alone, high, high_begins, high_follows, high_words, stays}
use Rattle.sim_4_links_follow.proofs.ResumeRows.{IsOwnSession, asked_so, asked_where, said, within_so}
use Rattle.sim_4_links_follow.proofs.ResumeTaken.{back_follows, few}
use Rattle.sim_4_links_follow.proofs.Shuts.{shuts_are_for, shuts_at}
use Rattle.sim_4_links_follow.proofs.StrangeRows.{ready, resume_step}
use Rattle.sim_4_links_follow.proofs.Swapped.{asked_outs, asked_server_state, none_mapped, off_then, off_without, removed_swapped, sent_swapped}
use Rattle.sim_4_links_follow.specs.Taking.{IsFirst, IsTaken, StepFollows, on_item}
use Rattle.srv_handlers.specs.Resumptions.{asking, resent_where, resuming, saying}
use Rattle.sim_4_links_follow.proofs.Emitted.{puts_at}
use Rattle.sim_4_links_follow.proofs.Flows.{halted}
use Rattle.sim_4_links_follow.proofs.Found.{change_here}
use Rattle.sim_4_links_follow.proofs.Placed.{keeps_at}
use Rattle.sim_4_links_follow.proofs.Servings.{known_altered}
use Rattle.xml_writer.specs.Items.{Closing, ItemOut}

module _ (who : Identity) (logins : ℕ → Login) (h : ServerState ItemOut) (wires : Table ItemWire) (v : View ItemOut) (k q n : ℕ) (p : IsFirst who logins h wires v k (ResumeAt q n)) (s : Session ItemOut) (found : session_resumed (previd_of q) who.account h.sessions ≡ Some s)
    (own : IsOwnSession who h v q s) (f : ℕ) (on : own.row.on ≡ Some f) where
  kept : LinkKept v
  kept = kept_here who logins h wires v k (ResumeAt q n) p

  abbrev row : Row ItemOut
  row = own.row

  abbrev m : ℕ
  m = s.shown.number

  abbrev hh : ℕ
  hh = told_count n

  placed : (c : Conn ItemOut) × (v.conns f ≡ Some c) × (session_on c ≡ Some row.number)
  placed = let there = subst (IsPlaced v.conns row (kept.row row own.is_row).session) on (kept.row row own.is_row).placed in (there.0, there.1, there.2)

  abbrev former : Conn ItemOut
  former = placed.0

  apart : f ≢ k
  apart same =
      let there : v.conns k ≡ Some former = subst (λ j. v.conns j ≡ Some former) same placed.1 in
      let alike : former ≡ p.conn = same_Some former p.conn (sym there ∙ p.is) in
      let some : session_on p.conn ≡ Some row.number = ap session_on (sym alike) ∙ placed.2 in
      let none : session_on p.conn ≡ None = ap (λ at. on_phase at p.conn.ending p.conn.gone) (ready who logins h wires v k q n p) in
      let no_way : ⊥ = cc in no_way

  -- ---- behind the end of the stream there

  abbrev closed : Conn ItemOut
  closed = shut_conn (Errs Conflict) former

  abbrev words : List ItemOut
  words = error_item stream.Conflict ∷ Closing ∷ []

  abbrev g : ℕ → links.Session ItemOut → links.Session ItemOut
  g j t = lost_if (has (Some row.number) j) (t.counted && (has v.here f && has (carries former) j)) t

  abbrev off_view : View ItemOut
  off_view = record v { conns = with_at f closed v.conns; row = Some (record row { on = None }); sessions = alter g v.sessions }

  abbrev server_state : ServerState ItemOut
  server_state = with_sessions (with_session m off h.sessions) (without_conn f h)

  abbrev off_wires : Table ItemWire
  off_wires = sent (shuts_at f words) wires

  detaches : IsDetached f (Errs Conflict) v off_view
  detaches = record { conn = former; is = placed.1; row = row; is_row = own.is_row; on = on; counted = own.counted; reason = tt; gives = refl }

  represents : ServerRepresents who logins server_state off_view
  represents = off_represents m off off_leaves who logins h v p.server f former placed.1 row s own.named refl own.live closed (alter g v.sessions) (known_altered g v) refl

  pipes : PipesRepresent who logins off_wires off_view
  pipes = record { each = (shut_first who logins wires v p.pipes f k apart former (Errs Conflict) words placed.1 refl).each }

  abbrev first : IsFirst who logins server_state off_wires off_view k (ResumeAt q n)
  first = record {
    normal = p.normal;
    reached = link_more (Detaches f (Errs Conflict)) v off_view p.reached detaches;
    server = represents;
    pipes = pipes;
    conn = p.conn;
    is = at_other f closed v.conns k apart ∙ p.is;
    rest = p.rest;
    first = p.first;
    wire = p.wire;
    there = ap (option_map (sent_under k (shuts_at f words))) p.there ∙ ap Some (shuts_are_for f words k p.wire apart);
  }

  off_found : session_resumed (previd_of q) who.account server_state.sessions ≡ Some (off s)
  off_found =
      found_mapped (is_resumed_by (previd_of q) who.account) (changes_one m off) h.sessions same
      ∙ ap (option_map (changes_one m off)) found ∙ ap Some (change_here m off s refl)
    where
      same : (t : Session ItemOut) → is_resumed_by (previd_of q) who.account (changes_one m off t) ≡ is_resumed_by (previd_of q) who.account t
      same t = either (λ (u : Session ItemOut). is_resumed_by (previd_of q) who.account u ≡ is_resumed_by (previd_of q) who.account t) (t.shown.number == m) (off t) t refl refl

  abbrev off_own : IsOwnSession who server_state off_view q (off s)
  off_own = record {
    number = own.number;
    named = off_named m off off_leaves who logins h v p.server f former placed.1 row s own.named refl own.live;
    row = record row { on = None };
    is_row = refl;
    live = off_leaves.row row s own.live;
    counted = own.counted;
  }

  unseated_there : find (is_at f) (with_session m off h.sessions) ≡ None
  unseated_there = unseated who logins server_state off_view (link_kept off_view first.reached) represents f closed (at_same f closed v.conns) (ended_off former.phase Conflict former.gone)

  -- what follows behind it follows
  after_it : (step last : Step ItemOut) → step.server_state ≡ last.server_state → ((j : ℕ) → sent step.outs (with_at k (handed_up p.wire) wires) j ≡ sent last.outs (with_at k (handed_up p.wire) off_wires) j)
      → StepFollows who logins off_wires off_view k p.wire last [] → StepFollows who logins wires v k p.wire step []
  after_it step last same alike then_so = record {
    moves = Detaches f (Errs Conflict) ∷ then_so.moves;
    next = then_so.next;
    leads = (off_view, detaches, then_so.leads);
    does = then_so.does;
    server = subst (λ l. ServerRepresents who logins l then_so.next) (sym same) then_so.server;
    pipes = pipes_as who logins (sent last.outs (with_at k (handed_up p.wire) off_wires)) (sent step.outs (with_at k (handed_up p.wire) wires)) then_so.next alike then_so.pipes;
    client = record {
      here = then_so.client.here;
      own = then_so.client.own;
      epoch = then_so.client.epoch;
      conns = λ j.
          keeps_both (v.conns j) (off_view.conns j) (then_so.next.conns j) (keeps_at v.conns f former closed placed.1 refl (λ ended. halted (send_down (tail_of (Errs Conflict)) former.wires)) j) (then_so.client.conns j);
    };
  }

  -- ---- the count names a place

  abbrev IsTakenSo : Type 0
  IsTakenSo = IsTaken who logins h wires v k p.wire (ResumeAt q n)

  module _ (position : IsPosition v k n row) where
    not_high : is_too_high hh s ≡ false
    not_high = within_so row n position.within (few who logins h wires v k q n p s found own) s own.live

    abbrev due : Bool
    due = nat_le ASKS_AT (length (resent hh s))

    abbrev back : Session ItemOut → Session ItemOut
    back = resumes hh k

    abbrev comes : List (Session ItemOut) → List (Session ItemOut)
    comes ss = with_session m (asks false) (with_session m back ss)

    abbrev items : List ItemOut
    items = resumed_item m s.handled ∷ resent hh s

    abbrev tail : List (Session ItemOut) → Step ItemOut
    tail ss =
        acted itself (Say k (resumed_item m s.handled) ∷ saying k (resent hh s) (asking itself k m due))
        (record { server_state = with_sessions (without_at f (with_session m (asks false) ss)) (without_conn f h); outs = shuts_at f words })

    abbrev acts : Option ℕ → List (Act ItemOut)
    acts o =
        Resume (previd_of q) who.account hh k ∷ Ask m false
        ∷ parting_where itself o (error_item stream.Conflict) (Say k (resumed_item m s.handled) ∷ saying k (resent hh s) (asking itself k m due))

    nobody_there : find (is_at f) (comes (with_session m off h.sessions)) ≡ None
    nobody_there =
        none_mapped (is_at f) (changes_one m (asks false)) (with_session m back (with_session m off h.sessions))
        (λ t other. either (λ (u : Session ItemOut). is_at f u ≡ false) (t.shown.number == m) (asks false t) t other other)
        (none_mapped (is_at f) (changes_one m back) (with_session m off h.sessions)
        (λ t other. either (λ (u : Session ItemOut). is_at f u ≡ false) (t.shown.number == m) (back t) t (other_number k f (λ e. apart (sym e))) other) unseated_there)

    sessions_same : without_at f (comes h.sessions) ≡ comes (with_session m off h.sessions)
    sessions_same =
        ap (λ ss. without_at f (with_session m (asks false) ss)) (sym (off_then m back (λ t. refl) h.sessions))
        ∙ all_left (is_at f) (comes (with_session m off h.sessions)) nobody_there

    abbrev last_server_state : List (Session ItemOut) → ServerState ItemOut
    last_server_state ss = with_sessions ss (without_conn f h)

    step : on_item k (up_item who (logins k) (ResumeAt q n)) h ≡ asked_where k m due (last_server_state (comes (with_session m off h.sessions))) (shuts_at f words ++ puts_at k items)
    step =
        resume_step who logins h wires v k q n p
        ∙ ap (λ o. acted itself (resuming itself k who.account (previd_of q) hh (resume_answer hh o) (resent_where hh o)) (step_of h)) found
        ∙ ap (λ b. acted itself (resuming itself k who.account (previd_of q) hh (cond b (Err (TooHigh hh (send_count s) s.shown.conn)) (Ok (resume_ok s))) (resent hh s)) (step_of h)) not_high
        ∙ ap (λ o. acted itself (acts o) (step_of h)) (own.live.conn ∙ on)
        ∙ ap (λ o. tail (after_resume hh k o h.sessions)) found
        ∙ ap (λ b. tail (cond b (without m h.sessions) (with_session m back h.sessions))) not_high
        ∙ said k (resent hh s) (asking itself k m due) (last_server_state (without_at f (comes h.sessions))) (shuts_at f words ++ Put k (resumed_item m s.handled) ∷ [])
        ∙ asked_so k m due (last_server_state (without_at f (comes h.sessions))) (shuts_at f words ++ puts_at k items)
        ∙ ap (λ ss. asked_where k m due (last_server_state ss) (shuts_at f words ++ puts_at k items)) sessions_same

    pub position_follows : IsTakenSo
    position_follows =
        let last : Step ItemOut = asked_where k m due (last_server_state (comes (with_session m off h.sessions))) (puts_at k items) in
        let all : Step ItemOut = asked_where k m due (last_server_state (comes (with_session m off h.sessions))) (shuts_at f words ++ puts_at k items) in
        subst (λ t. StepFollows who logins wires v k p.wire t []) (sym step)
        (after_it all last (asked_server_state k m due (last_server_state (comes (with_session m off h.sessions))) (shuts_at f words) (puts_at k items))
        (λ j.
        ap (λ o. sent o (with_at k (handed_up p.wire) wires) j) (asked_outs k m due (last_server_state (comes (with_session m off h.sessions))) (shuts_at f words) (puts_at k items))
        ∙ sent_apart who logins wires v p.pipes f k apart (shuts_at f words) last.outs p.wire p.there (shuts_are_for f words) j)
        (back_follows who logins server_state off_wires off_view k q n first (off s) off_found off_own refl (record { low = position.within.low; high = position.within.high }) position.here))

  -- ---- it is behind

  module _ (following : IsAfter v k n row) where
    abbrev left_of : List (Session ItemOut) → List (Session ItemOut)
    left_of ss = filter (stays who logins h wires v k q n p s found own following) ss

    abbrev told : List ItemOut
    told = high_words who logins h wires v k q n p s found own following

    abbrev off_after : IsAfter off_view k n (record row { on = None })
    off_after = record { left = following.left; following = following.following; few = following.few }

    abbrev ends : List (Session ItemOut) → Step ItemOut
    ends ss = record { server_state = with_sessions (without_at f (without_at k ss)) (without_conn f (without_conn k h)); outs = shuts_at k told ++ shuts_at f words }

    nobody_left : find (is_at f) (left_of h.sessions) ≡ None
    nobody_left =
        ap (find (is_at f)) (sym (off_without m h.sessions)) ∙ none_left (is_at f) (stays who logins h wires v k q n p s found own following) (with_session m off h.sessions) unseated_there

    left_same : without_at f (without_at k (without m h.sessions)) ≡ left_of (with_session m off h.sessions)
    left_same =
        ap (without_at f) (alone who logins h wires v k q n p s found own following)
        ∙ all_left (is_at f) (left_of h.sessions) nobody_left
        ∙ sym (off_without m h.sessions)

    abbrev last_of : ServerState ItemOut
    last_of = with_sessions (left_of (with_session m off h.sessions)) (without_conn k server_state)

    high_step : on_item k (up_item who (logins k) (ResumeAt q n)) h ≡ record { server_state = last_of; outs = shuts_at k told ++ shuts_at f words }
    high_step =
        high_begins who logins h wires v k q n p s found own following (Some f) (own.live.conn ∙ on)
        ∙ ap (λ o. ends (after_resume hh k o h.sessions)) found
        ∙ ap (λ b. ends (cond b (without m h.sessions) (with_session m (resumes hh k) h.sessions))) (high who logins h wires v k q n p s found own following)
        ∙ ap (λ ss. record { server_state = with_sessions ss (without_conn f (without_conn k h)); outs = shuts_at k told ++ shuts_at f words }) left_same
        ∙ ap (λ cs. record { server_state = record h { sessions = left_of (with_session m off h.sessions); conns = cs }; outs = shuts_at k told ++ shuts_at f words }) (removed_swapped f k apart h.conns)

    pub after_follows : IsTakenSo
    after_follows =
        let last : Step ItemOut = record { server_state = last_of; outs = shuts_at k told } in
        let all : Step ItemOut = record { server_state = last_of; outs = shuts_at k told ++ shuts_at f words } in
        subst (λ t. StepFollows who logins wires v k p.wire t []) (sym high_step)
        (after_it all last refl
        (λ j.
        sent_swapped f k (shuts_at f words) (shuts_at k told) apart (shuts_are_for f words) (shuts_are_for k told) (with_at k (handed_up p.wire) wires) j
        ∙ sent_apart who logins wires v p.pipes f k apart (shuts_at f words) (shuts_at k told) p.wire p.there (shuts_are_for f words) j)
        (high_follows who logins server_state off_wires off_view k q n first (off s) off_found off_own off_after refl))
