-- A resumption (XEP-0198, section 5) leaves other devices: the session that it names is of the device itself, or none
-- is named; and so is the connection that this was on.
use Rattle.std.proofs.Common.{◌≡◌, ℕ, Bool, true, false, List, [], ◌∷◌, Option, Some, None, Ok, Err, cond, length, nat_le, refl, sym, ap, subst, ◌∙◌}
use Rattle.srv_state.specs.State.{ServerState, Step, with_sessions}
use Rattle.srv_state.specs.Steps.{Act, Ask, Close, Say, acted}
use Rattle.srv_state.specs.Streams.{parting_where}
use Rattle.srv_state.specs.declared.limits.TheConstants.{ASKS_AT}
use Rattle.sim_3_items.specs.Identities.{Identity, Login}
use Rattle.sim_3_items.specs.Sent.{sent}
use Rattle.sim_3_items.specs.Servers.{ServerFollows, ServerRepresents}
use Rattle.sim_3_items.specs.WordItems.{told_count}
use Rattle.sim_3_items.specs.ItemMoves.{step_of}
use Rattle.sim_3_items.specs.ItemPipes.{ItemWire, handed_up}
use Rattle.sim_3_items.specs.ItemWorlds.{itself}
use Rattle.sim_2_links.specs.Links.{LinkKept}
use Rattle.sim_2_links.specs.Views.{Table, View, with_at}
use Rattle.sim_2_links.specs.Words.{ResumeAt}
use Rattle.sm_live.specs.Sessions.{Session, after_resume, is_named, is_too_high, resent, resume_answer, resume_ok, resumes, send_count, session_resumed, with_session, without}
use Rattle.sim_4_links_follow.proofs.Acts.{Leave, Stays, ended_stays, leave_ask, leave_asking, leave_close, leave_nothing, leave_parting, leave_say, leave_saying, resumed_stays}
use Rattle.sim_4_links_follow.proofs.OthersElsewhere.{none_elsewhere}
use Rattle.sim_4_links_follow.proofs.OthersServerStates.{IsNotOf}
use Rattle.sim_4_links_follow.proofs.Parted.{conn_not, former_not, kept_beside, session_not, stays_follow}
use Rattle.sim_4_links_follow.specs.OtherDevices.{IsOtherDevice}
use Rattle.im_replies.specs.Management.{refused_item, resumed_item}
use Rattle.im_replies.specs.Streams.{error_item, too_high_item}
use Rattle.im_replies.specs.declared.conditions.StreamCondition.TheVariants as stream
use Rattle.sm_resumption.specs.Previds.{previd_of}
use Rattle.sm_resumption.specs.declared.answers.ResumeFault.TheVariants.{TooHigh}
use Rattle.sim_4_links_follow.proofs.HandMoves.{kept_here, wire_here}
use Rattle.sim_4_links_follow.proofs.ResumeRows.{IsOwnSession, own_session}
use Rattle.sim_4_links_follow.proofs.StrangeRows.{none_here, resume_step}
use Rattle.sim_4_links_follow.specs.Taking.{IsFirst, IsLeft}
use Rattle.srv_handlers.specs.Resumptions.{asking, resent_where, resuming, saying}
use Rattle.im_stanza.specs.declared.conditions.Condition.TheVariants.{ItemNotFound}
use Rattle.sim_3_images.proofs.RuleKept.{found_is, numbered_here}
use Rattle.xml_writer.specs.Items.{Closing, ItemOut}

module _ (who whom : Identity) (logins others : ℕ → Login) (h : ServerState ItemOut) (wires : Table ItemWire) (v u : View ItemOut) (k q n : ℕ) (p : IsFirst who logins h wires v k (ResumeAt q n)) (beside : IsOtherDevice who whom others h wires u) where
  abbrev linked : LinkKept u
  linked = kept_beside who whom logins others h wires v u p.server p.pipes beside

  off : u.conns k ≡ None
  off = conn_not who whom logins others h wires v u p.server p.pipes beside k p.conn p.is

  abbrev hh : ℕ
  hh = told_count n

  -- with these acts
  abbrev resumed_by : Option (Session ItemOut) → Step ItemOut
  resumed_by o = acted itself (resuming itself k who.account (previd_of q) hh (resume_answer hh o) (resent_where hh o)) (step_of h)

  -- a session is named
  module _ (s : Session ItemOut) (found : session_resumed (previd_of q) who.account h.sessions ≡ Some s) where
    own : IsOwnSession who h v q s
    own = own_session who logins h wires v k q n p s found

    abbrev not_of : IsNotOf u s.shown.number
    not_of =
        session_not who whom logins others h wires v u p.server p.pipes beside s (numbered_here (is_named who.account who.resource) h.next 1 h.sessions s p.server.server_state.sessions.ascending own.named)
        (found_is (is_named who.account who.resource) h.sessions s own.named)

    former : (f : ℕ) → s.shown.conn ≡ Some f → u.conns f ≡ None
    former f on = former_not who whom logins others h wires v u p.server p.pipes beside (kept_here who logins h wires v k (ResumeAt q n) p) s own.named f on

    abbrev first : Step ItemOut
    first = record { server_state = with_sessions (after_resume hh k (session_resumed (previd_of q) who.account h.sessions) h.sessions) h; outs = [] }

    first_as : (b : Bool) → is_too_high hh s ≡ b → after_resume hh k (session_resumed (previd_of q) who.account h.sessions) h.sessions ≡ cond b (without s.shown.number h.sessions) (with_session s.shown.number (resumes hh k) h.sessions)
    first_as b high = ap (λ o. after_resume hh k o h.sessions) found ∙ ap (λ c. cond c (without s.shown.number h.sessions) (with_session s.shown.number (resumes hh k) h.sessions)) high

    first_stays : (b : Bool) → is_too_high hh s ≡ b → Stays whom others u linked first
    first_stays b high = record { server = subst (λ ss. ServerRepresents whom others (with_sessions ss h) u) (sym (first_as b high)) (either b); outs = none_elsewhere u }
      where
        either : (c : Bool) → ServerRepresents whom others (with_sessions (cond c (without s.shown.number h.sessions) (with_session s.shown.number (resumes hh k) h.sessions)) h) u
        either true = ended_stays whom others u linked s.shown.number h not_of beside.server
        either false = resumed_stays whom others u linked s.shown.number hh k h not_of off (none_here who logins h wires v k q n p) beside.server

    -- it ends, its count is too high
    leave_high : Leave whom others u linked (Say k (too_high_item hh (send_count s)) ∷ Say k Closing ∷ Close k ∷ parting_where itself s.shown.conn (error_item stream.Conflict) [])
    leave_high =
        leave_say whom others u linked k (too_high_item hh (send_count s)) (Say k Closing ∷ Close k ∷ parting_where itself s.shown.conn (error_item stream.Conflict) []) off
        (leave_say whom others u linked k Closing (Close k ∷ parting_where itself s.shown.conn (error_item stream.Conflict) []) off
        (leave_close whom others u linked k (parting_where itself s.shown.conn (error_item stream.Conflict) []) off
        (leave_parting whom others u linked s.shown.conn (error_item stream.Conflict) [] former (leave_nothing whom others u linked))))

    -- it comes to the connection
    abbrev asks_last : List (Act ItemOut)
    asks_last = asking itself k s.shown.number (nat_le ASKS_AT (length (resent hh s)))

    abbrev says_first : List (Act ItemOut)
    says_first = Say k (resumed_item s.shown.number s.handled) ∷ saying k (resent hh s) asks_last

    leave_back : Leave whom others u linked (Ask s.shown.number false ∷ parting_where itself s.shown.conn (error_item stream.Conflict) says_first)
    leave_back =
        leave_ask whom others u linked s.shown.number false (parting_where itself s.shown.conn (error_item stream.Conflict) says_first) not_of
        (leave_parting whom others u linked s.shown.conn (error_item stream.Conflict) says_first former
        (leave_say whom others u linked k (resumed_item s.shown.number s.handled) (saying k (resent hh s) asks_last) off
        (leave_saying whom others u linked k (resent hh s) asks_last off (leave_asking whom others u linked k s.shown.number (nat_le ASKS_AT (length (resent hh s))) off not_of))))

    named_stays : (b : Bool) → is_too_high hh s ≡ b
        → Stays whom others u linked (acted itself (resuming itself k who.account (previd_of q) hh (cond b (Err (TooHigh hh (send_count s) s.shown.conn)) (Ok (resume_ok s))) (resent hh s)) (step_of h))
    named_stays true high = leave_high first (first_stays true high)
    named_stays false high = leave_back first (first_stays false high)

  resumption_stays : (o : Option (Session ItemOut)) → session_resumed (previd_of q) who.account h.sessions ≡ o → Stays whom others u linked (resumed_by o)
  resumption_stays None strange = leave_say whom others u linked k (refused_item ItemNotFound) [] off (leave_nothing whom others u linked) (step_of h) (record { server = beside.server; outs = none_elsewhere u })
  resumption_stays (Some s) found = named_stays s found (is_too_high hh s) refl

  pub resume_stays : IsLeft who whom logins others h wires u k p.wire (ResumeAt q n)
  resume_stays =
      subst (λ (s : Step ItemOut). ServerFollows whom others s.server_state (sent s.outs (with_at k (handed_up p.wire) wires)) u []) (sym (resume_step who logins h wires v k q n p))
      (stays_follow whom others wires u linked k p.wire (resumed_by (session_resumed (previd_of q) who.account h.sessions)) beside.pipes off
      (λ its. beside.apart.position (sym its ∙ (wire_here who logins h wires v k (ResumeAt q n) p).of)) (resumption_stays (session_resumed (previd_of q) who.account h.sessions) refl))
