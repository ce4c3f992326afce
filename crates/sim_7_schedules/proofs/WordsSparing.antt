-- The words of a connection without a session leave the archives and the sessions of others.
use Rattle.std.proofs.Common.{◌≡◌, ℕ, ◌+◌, Bool, true, false, List, [], ◌∷◌, ◌++◌, Option, Some, None, Ok, Err, codes, cond, length, nat_le, refl, sym, ap, subst, ◌∙◌, ◌⊎◌, inl, inr}
use Rattle.std.proofs.lemmas.Option.{none-some, same_Some}
use Rattle.std.specs.Option.{option_map}
use Rattle.srv_state.specs.State.{ServerState, Step, full_address, with_sessions}
use Rattle.srv_state.specs.Steps.{Act, Ask, Close, Say, acted}
use Rattle.srv_state.specs.Streams.{parting_where, standing_of}
use Rattle.srv_state.specs.declared.connection.Phase.TheVariants as phase
use Rattle.srv_state.specs.declared.connection.Standing.{Standing}
use Rattle.srv_state.specs.declared.connection.Tries.TheVariants as tries
use Rattle.srv_state.specs.declared.limits.TheConstants.{ASKS_AT}
use Rattle.srv_state.specs.declared.word.Word.TheVariants as word
use Rattle.sim_3_items.specs.Identities.{Identity, Login}
use Rattle.sim_3_items.specs.WordItems.{told_count, up_item}
use Rattle.xml_framer.specs.declared.items.Item.TheVariants as item
use Rattle.sim_3_items.specs.ItemMoves.{step_of}
use Rattle.sim_3_items.specs.ItemPipes.{ItemWire}
use Rattle.sim_3_items.specs.ItemWorlds.{itself}
use Rattle.sim_2_links.proofs.Expected.{expected_up}
use Rattle.sim_2_links.specs.Views.{Table, View, on_phase}
use Rattle.sim_2_links.specs.Words.{Auth, Bind, Enable, Foot, Hdr, Ready, Resp, Restart, ResumeAt, Start, Up, UpWord}
use Rattle.sim_4_links_follow.proofs.Found.{found_on}
use Rattle.sim_3_images.proofs.RuleKept.{found_is, numbered_here}
use Rattle.sim_4_links_follow.proofs.HandMoves.{kept_here, row_here}
use Rattle.sim_4_links_follow.proofs.Leavings.{unseated}
use Rattle.sim_4_links_follow.proofs.LoginRows.{auth_step, response_step, restart_step, start_step}
use Rattle.sim_4_links_follow.proofs.ResumeRows.{IsOwnSession, own_session}
use Rattle.sim_4_links_follow.proofs.StrangeRows.{resume_step}
use Rattle.sim_4_links_follow.proofs.Binds.{bind_step}
use Rattle.sim_4_links_follow.specs.Taking.{IsFirst, on_item}
use Rattle.sm_live.specs.Sessions.{Session, after_resume, ended_of, fresh, is_named, is_too_high, less, resent, resume_answer, resume_ok, resumes, send_count, session_at, session_named, session_resumed, with_session, without}
use Rattle.im_replies.specs.Management.{resumed_item}
use Rattle.im_replies.specs.Requests.{bound_item}
use Rattle.im_replies.specs.Streams.{error_item, too_high_item}
use Rattle.im_replies.specs.declared.conditions.StreamCondition.TheVariants as stream
use Rattle.sm_resumption.specs.Previds.{previd_of}
use Rattle.sm_resumption.specs.declared.answers.ResumeFault.TheVariants.{TooHigh}
use Rattle.srv_handlers.specs.Bindings.{former_of}
use Rattle.srv_handlers.specs.Resumptions.{asking, resent_where, resuming, saying}
use Rattle.sim_7_schedules.proofs.OtherSessions.{NotAt, NotOf, Spares, asking_spares, changed_others, fresh_others, not_at, not_of, others, parting_spares, saying_spares, then_sparing, without_others}
use Rattle.xml_writer.specs.Items.{Closing, ItemOut}

-- words that come where the server has no session, and the footer
abbrev pub IsOutside : UpWord ItemOut → Type 0
IsOutside Enable = ⊥
IsOutside (Up t) = ⊥
IsOutside w = Unit {0}

module _ (who : Identity) (logins : ℕ → Login) (h : ServerState ItemOut) (wires : Table ItemWire) (v : View ItemOut) (k : ℕ) where
  abbrev Left : Step ItemOut → Type 0
  Left s = Spares who.account who.resource h s

  -- the connection of the device's session
  former_away : (p : UpWord ItemOut) → IsFirst who logins h wires v k p → (s : Session ItemOut) → session_named who.account who.resource h.sessions ≡ Some s → (f : ℕ) → s.shown.conn ≡ Some f → NotAt who.account who.resource f h.sessions
  former_away w p s named f on =
      let seat = found_on h.next f who.account who.resource h.sessions s p.server.server_state.sessions named on in
      not_at who.account who.resource h p.server.server_state.sessions f
      (λ t at. subst (λ u. is_named who.account who.resource u ≡ true) (same_Some s t (sym seat ∙ at)) (found_is (is_named who.account who.resource) h.sessions s named))

  its_number : (p : UpWord ItemOut) → IsFirst who logins h wires v k p → (s : Session ItemOut) → session_named who.account who.resource h.sessions ≡ Some s → NotOf who.account who.resource s.shown.number h.sessions
  its_number w p s named =
      not_of who.account who.resource h p.server.server_state.sessions s (numbered_here (is_named who.account who.resource) h.next 1 h.sessions s p.server.server_state.sessions.ascending named)
      (found_is (is_named who.account who.resource) h.sessions s named)

  -- whatever session is on the connection is the device's
  here_away : (w : UpWord ItemOut) → IsFirst who logins h wires v k w → NotAt who.account who.resource k h.sessions
  here_away w p = not_at who.account who.resource h p.server.server_state.sessions k (λ s at. p.server.seated k p.conn s p.is at)

  -- ---- a login, and a footer

  header_spares : (p : IsFirst who logins h wires v k Hdr) → (p.conn.phase ≡ Start) ⊎ (p.conn.phase ≡ Restart) → Left (on_item k (up_item who (logins k) Hdr) h)
  header_spares p (inl is) = subst Left (sym (start_step who logins h wires v k p is)) (record { archives = refl; others = refl })
  header_spares p (inr is) = subst Left (sym (restart_step who logins h wires v k p is)) (record { archives = refl; others = refl })

  foot_spares : (p : IsFirst who logins h wires v k Foot) → Left (on_item k (up_item who (logins k) Foot) h)
  foot_spares p =
      subst Left (sym (row_here who logins h wires v k Foot p p.conn.phase item.Footer refl))
      (then_sparing who.account who.resource h (Say k Closing ∷ Close k ∷ []) (here_away Foot p, tt) (step_of h) (record { archives = refl; others = refl }))

  -- ---- a binding

  module _ (p : IsFirst who logins h wires v k Bind) where
    ready : p.conn.phase ≡ Ready
    ready = expected_up v k p.conn Bind p.rest (kept_here who logins h wires v k Bind p) p.is p.first

    abbrev nobody : session_at k h.sessions ≡ None
    nobody = unseated who logins h v (kept_here who logins h wires v k Bind p) p.server k p.conn p.is (ap (λ q. on_phase q p.conn.ending p.conn.gone) ready)

    abbrev standing : Standing
    standing = standing_of (record { entropy = (logins k).yours; phase = phase.Ready who.account; tries = tries.Three })

    -- where this is the older session with the device's name
    less_others : (o : Option (Session ItemOut)) → session_named who.account who.resource h.sessions ≡ o → others who.account who.resource (less o h.sessions) ≡ others who.account who.resource h.sessions
    less_others None is = refl
    less_others (Some s) is = without_others who.account who.resource s.shown.number h.sessions (its_number Bind p s is)

    former : (o : Option (Session ItemOut)) → session_named who.account who.resource h.sessions ≡ o → (f : ℕ) → former_of (option_map ended_of o) ≡ Some f → NotAt who.account who.resource f h.sessions
    former None is f on = absurd (none-some f on)
    former (Some s) is f on = former_away Bind p s is f on

    bind_spares : Left (on_item k (up_item who (logins k) Bind) h)
    bind_spares =
        let o = session_named who.account who.resource h.sessions in
        subst Left (sym (bind_step who logins h wires v k p))
        (then_sparing who.account who.resource h (parting_where itself (former_of (option_map ended_of o)) (error_item stream.Conflict) (Say k (bound_item (codes "bind") (full_address who.account who.resource h)) ∷ []))
        (parting_spares who.account who.resource h (former_of (option_map ended_of o)) (error_item stream.Conflict) (Say k (bound_item (codes "bind") (full_address who.account who.resource h)) ∷ []) (former o refl) tt)
        (record { server_state = record h { sessions = less o h.sessions ++ fresh h.next who.account who.resource k ∷ []; next = h.next + 1 }; outs = [] })
        (record { archives = refl; others = fresh_others who.account who.resource h.next k (less o h.sessions) ∙ less_others o refl }))

  -- ---- a resumption

  module _ (q n : ℕ) (p : IsFirst who logins h wires v k (ResumeAt q n)) where
    abbrev hh : ℕ
    hh = told_count n

    module _ (s : Session ItemOut) (found : session_resumed (previd_of q) who.account h.sessions ≡ Some s) where
      own : IsOwnSession who h v q s
      own = own_session who logins h wires v k q n p s found

      its : NotOf who.account who.resource s.shown.number h.sessions
      its = its_number (ResumeAt q n) p s own.named

      away : (f : ℕ) → s.shown.conn ≡ Some f → NotAt who.account who.resource f h.sessions
      away f on = former_away (ResumeAt q n) p s own.named f on

      resumed_others : (o : Option (Session ItemOut)) → o ≡ Some s → others who.account who.resource (after_resume hh k o h.sessions) ≡ others who.account who.resource h.sessions
      resumed_others None is = absurd (none-some s is)
      resumed_others (Some t) is = either (is_too_high hh t)
        where
          of_t : NotOf who.account who.resource t.shown.number h.sessions
          of_t = subst (λ u. NotOf who.account who.resource u.shown.number h.sessions) (sym (same_Some t s is)) its

          either : (b : Bool) → others who.account who.resource (cond b (without t.shown.number h.sessions) (with_session t.shown.number (resumes hh k) h.sessions)) ≡ others who.account who.resource h.sessions
          either true = without_others who.account who.resource t.shown.number h.sessions of_t
          either false = changed_others who.account who.resource t.shown.number (resumes hh k) (λ u. refl) h.sessions of_t

      abbrev first : Step ItemOut
      first = record { server_state = with_sessions (after_resume hh k (session_resumed (previd_of q) who.account h.sessions) h.sessions) h; outs = [] }

      first_spares : Left first
      first_spares = record { archives = refl; others = resumed_others (session_resumed (previd_of q) who.account h.sessions) found }

      abbrev says_first : List (Act ItemOut)
      says_first = Say k (resumed_item s.shown.number s.handled) ∷ saying k (resent hh s) (asking itself k s.shown.number (nat_le ASKS_AT (length (resent hh s))))

      named_spares : (b : Bool) → Left (acted itself (resuming itself k who.account (previd_of q) hh (cond b (Err (TooHigh hh (send_count s) s.shown.conn)) (Ok (resume_ok s))) (resent hh s)) (step_of h))
      named_spares true =
          then_sparing who.account who.resource h (Say k (too_high_item hh (send_count s)) ∷ Say k Closing ∷ Close k ∷ parting_where itself s.shown.conn (error_item stream.Conflict) [])
          (here_away (ResumeAt q n) p, parting_spares who.account who.resource h s.shown.conn (error_item stream.Conflict) [] away tt) first first_spares
      named_spares false =
          then_sparing who.account who.resource h (Ask s.shown.number false ∷ parting_where itself s.shown.conn (error_item stream.Conflict) says_first) (
            its,
            parting_spares who.account who.resource h s.shown.conn (error_item stream.Conflict) says_first away
                (saying_spares who.account who.resource h k (resent hh s) (asking itself k s.shown.number (nat_le ASKS_AT (length (resent hh s)))) (asking_spares who.account who.resource h k s.shown.number (nat_le ASKS_AT (length (resent hh s))) its)),
          )
          first first_spares

    resumption_spares : (o : Option (Session ItemOut)) → session_resumed (previd_of q) who.account h.sessions ≡ o
        → Left (acted itself (resuming itself k who.account (previd_of q) hh (resume_answer hh o) (resent_where hh o)) (step_of h))
    resumption_spares None strange = record { archives = refl; others = refl }
    resumption_spares (Some s) found = named_spares s found (is_too_high hh s)

    resume_spares : Left (on_item k (up_item who (logins k) (ResumeAt q n)) h)
    resume_spares = subst Left (sym (resume_step who logins h wires v k q n p)) (resumption_spares (session_resumed (previd_of q) who.account h.sessions) refl)

  -- ---- each of them

  pub word_spares : (w : UpWord ItemOut) → IsOutside w → IsFirst who logins h wires v k w → Spares who.account who.resource h (on_item k (up_item who (logins k) w) h)
  word_spares Hdr is p = header_spares p (expected_up v k p.conn Hdr p.rest (kept_here who logins h wires v k Hdr p) p.is p.first)
  word_spares Auth is p =
      subst Left (sym (auth_step who logins h wires v k p (expected_up v k p.conn Auth p.rest (kept_here who logins h wires v k Auth p) p.is p.first))) (record { archives = refl; others = refl })
  word_spares Resp is p =
      subst Left (sym (response_step who logins h wires v k p (expected_up v k p.conn Resp p.rest (kept_here who logins h wires v k Resp p) p.is p.first))) (record { archives = refl; others = refl })
  word_spares (ResumeAt q n) is p = resume_spares q n p
  word_spares Bind is p = bind_spares p
  word_spares Enable is p = absurd is
  word_spares (Up t) is p = absurd is
  word_spares Foot is p = foot_spares p
