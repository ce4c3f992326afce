-- The row on a resumption (XEP-0198, section 5) with a count that is behind the one acknowledged: it is too high, and the
-- session ends. This happens on connections alone that the client left: nothing comes to it.
use Rattle.std.proofs.Common.{◌≡◌, ℕ, ◌==◌, Bool, true, false, not, List, [], ◌∷◌, Option, Some, None, Ok, Err, cond, map, refl, sym, ap, subst, ◌∙◌, inl, inr}
use Rattle.std.proofs.lemmas.Bool.{cases_Bool, eq-eqb}
use Rattle.std.specs.List.{filter}
use Rattle.srv_state.specs.State.{ServerState, Step, with_sessions, without_conn}
use Rattle.srv_state.specs.Steps.{Act, Close, Resume, Say, acted}
use Rattle.srv_state.specs.Streams.{parting_where}
use Rattle.sim_3_items.specs.Identities.{Identity, Login}
use Rattle.sim_3_items.specs.Pipes.{IsWire}
use Rattle.sim_3_items.specs.Sent.{sent_under}
use Rattle.sim_3_items.specs.Servers.{IsRowRepresented}
use Rattle.sim_3_items.specs.WordItems.{down_item, is_after_login, told_count, up_item}
use Rattle.sim_3_items.specs.ItemMoves.{step_of}
use Rattle.sim_3_items.specs.ItemPipes.{ItemWire, closed, emptied, handed_up, put_down, shut}
use Rattle.sim_3_items.specs.ItemWorlds.{itself}
use Rattle.sim_2_links.specs.Links.{LinkKept}
use Rattle.sim_2_links.specs.Machine.{TakesHighResume}
use Rattle.sim_2_links.specs.SessionMoves.{shut as shut_conn}
use Rattle.sim_2_links.specs.Stages.{Conn, Errs, tail_of}
use Rattle.sim_2_links.specs.Views.{Table, View, with_at}
use Rattle.sim_2_links.specs.Wires.{is_flowing}
use Rattle.sim_2_links.specs.Words.{ResumeAt}
use Rattle.sim_2_links.specs.Words as word
use Rattle.sm_live.specs.Sessions.{Session, after_resume, is_at, is_too_high, resent, resume_answer, resume_ok, resumes, send_count, session_named, session_resumed, with_session, without, without_at}
use Rattle.im_replies.specs.Streams.{error_item, too_high_item}
use Rattle.im_replies.specs.declared.conditions.StreamCondition.TheVariants as stream
use Rattle.sm_resumption.specs.Previds.{previd_of}
use Rattle.sm_resumption.specs.declared.answers.ResumeFault.TheVariants.{TooHigh}
use Rattle.sim_3_images.proofs.RuleKept.{named_gone, none_left}
use Rattle.sim_4_links_follow.proofs.HandMoves.{kept_here, wire_here}
use Rattle.sim_4_links_follow.proofs.Leavings.{left_represents, left_server_state}
use Rattle.sim_4_links_follow.proofs.Removed.{all_left}
use Rattle.sim_4_links_follow.proofs.ResumeCounts.{IsAfter, high_so}
use Rattle.sim_4_links_follow.proofs.ResumeRows.{IsOwnSession}
use Rattle.sim_4_links_follow.proofs.ResumeTaken.{first_word, nobody}
use Rattle.sim_4_links_follow.proofs.Shuts.{shut_client, shuts_are_for, shuts_at, shuts_here}
use Rattle.sim_4_links_follow.proofs.StrangeRows.{resume_step}
use Rattle.sim_4_links_follow.specs.Taking.{IsFirst, StepFollows, on_item}
use Rattle.srv_handlers.specs.Resumptions.{resent_where, resuming}
use Rattle.sim_4_links_follow.proofs.Flows.{entered_ended}
use Rattle.sim_4_links_follow.proofs.Placed.{shown_sent}
use Rattle.sim_4_links_follow.proofs.Servings.{known_same}
use Rattle.sim_4_links_follow.proofs.Taken.{wire_shut}
use Rattle.xml_writer.specs.Items.{Closing, ItemOut}

-- where nothing enters it is the same what is put
nothing_put : (some others : List ItemOut) (w : ItemWire) → w.down.ended ≡ true → shut (put_down some w) ≡ shut (put_down others w)
nothing_put some others w ended = ap (λ d. record w { up = emptied w.up; down = closed d }) (entered_ended some w.down ended ∙ sym (entered_ended others w.down ended))

module _ (who : Identity) (logins : ℕ → Login) (h : ServerState ItemOut) (wires : Table ItemWire) (v : View ItemOut) (k q n : ℕ) (p : IsFirst who logins h wires v k (ResumeAt q n)) (s : Session ItemOut) (found : session_resumed (previd_of q) who.account h.sessions ≡ Some s)
    (own : IsOwnSession who h v q s) (following : IsAfter v k n own.row) where
  pub kept : LinkKept v
  kept = kept_here who logins h wires v k (ResumeAt q n) p

  abbrev pub hh : ℕ
  hh = told_count n

  pub high : is_too_high hh s ≡ true
  high = high_so own.row n s own.live following.following following.few

  abbrev pub stays : Session ItemOut → Bool
  stays t = not (t.shown.number == s.shown.number)

  abbrev pub high_words : List ItemOut
  high_words = too_high_item hh (send_count s) ∷ Closing ∷ []

  abbrev pub high_acts : Option ℕ → List (Act ItemOut)
  high_acts former =
      Resume (previd_of q) who.account hh k ∷ Say k (too_high_item hh (send_count s)) ∷ Say k Closing ∷ Close k
      ∷ parting_where itself former (error_item stream.Conflict) []

  pub high_begins : (o : Option ℕ) → s.shown.conn ≡ o → on_item k (up_item who (logins k) (ResumeAt q n)) h ≡ acted itself (high_acts o) (step_of h)
  high_begins o is =
      resume_step who logins h wires v k q n p
      ∙ ap (λ r. acted itself (resuming itself k who.account (previd_of q) hh (resume_answer hh r) (resent_where hh r)) (step_of h)) found
      ∙ ap (λ b. acted itself (resuming itself k who.account (previd_of q) hh (cond b (Err (TooHigh hh (send_count s) s.shown.conn)) (Ok (resume_ok s))) (resent hh s)) (step_of h)) high
      ∙ ap (λ r. acted itself (high_acts r) (step_of h)) is

  pub alone : without_at k (without s.shown.number h.sessions) ≡ filter stays h.sessions
  alone = all_left (is_at k) (filter stays h.sessions) (none_left (is_at k) stays h.sessions (nobody who logins h wires v k q n p s found own))

  module _ (parked : own.row.on ≡ None) where
    abbrev pub high_server_state : ServerState ItemOut
    high_server_state = left_server_state who logins h v kept p.server k p.conn p.is stays

    abbrev ends : List (Session ItemOut) → Step ItemOut
    ends ss = record { server_state = with_sessions (without_at k ss) (without_conn k h); outs = shuts_at k high_words }

    pub high_step : on_item k (up_item who (logins k) (ResumeAt q n)) h ≡ record { server_state = high_server_state; outs = shuts_at k high_words }
    high_step =
        high_begins None (own.live.conn ∙ parked)
        ∙ ap (λ o. ends (after_resume hh k o h.sessions)) found
        ∙ ap (λ b. ends (cond b (without s.shown.number h.sessions) (with_session s.shown.number (resumes hh k) h.sessions))) high
        ∙ ap (λ ss. record { server_state = with_sessions ss (without_conn k h); outs = shuts_at k high_words }) alone

    abbrev ended : Conn ItemOut
    ended = shut_conn (Errs word.TooHigh) p.conn

    abbrev next : View ItemOut
    next = record v { conns = with_at k ended v.conns; row = None }

    stopped : is_flowing p.conn.wires ≡ false
    stopped =
        elim (cases_Bool (is_flowing p.conn.wires)) [
          | inl flows ↦ let works = ((kept.conns k p.conn p.is).piped.flowing flows).0 in let left = following.left in absurd (let no_way : ⊥ = cc in no_way)
          | inr stops ↦ stops
        ]

    nameless : session_named who.account who.resource (filter stays h.sessions) ≡ None
    nameless = named_gone stays who.account who.resource h.next h.sessions s p.server.server_state.sessions own.named (ap not (eq-eqb s.shown.number s.shown.number refl))

    abbrev said : List ItemOut
    said = map (down_item who (logins k) k (is_after_login p.conn.client)) (tail_of (Errs word.TooHigh))

    pub high_follows : StepFollows who logins wires v k p.wire (record { server_state = high_server_state; outs = shuts_at k high_words }) []
    high_follows =
        let w : IsWire who (logins k) k p.conn p.wire = wire_here who logins h wires v k (ResumeAt q n) p in
        let same : sent_under k (shuts_at k high_words) (handed_up p.wire) ≡ shut (put_down said p.wire) =
        shuts_here k high_words (handed_up p.wire) ∙ nothing_put high_words said p.wire (w.down_ended ∙ ap not stopped) in
        record {
          moves = TakesHighResume k ∷ [];
          next = next;
          leads = (
            next,
            record { conn = p.conn; is = p.is; h = n; row = own.row; is_row = own.is_row; off = parked; rest = p.rest; first = first_word who logins h wires v k q n p s found own; high = inl following.following; gives = refl },
            refl,
          );
          does = refl;
          server = left_represents who logins h v kept p.server k p.conn p.is stays ended None v.sessions (known_same v) refl (subst (IsRowRepresented None) (sym nameless) tt);
          pipes =
              shown_sent who logins wires v next k ended p.wire (handed_up p.wire) (shuts_at k high_words) p.pipes (λ j. refl) (shuts_are_for k high_words)
              (subst (IsWire who (logins k) k ended) (sym same) (wire_shut who (logins k) k p.conn p.wire w (Errs word.TooHigh)));
          client = shut_client who logins wires v next k p.conn p.wire (Errs word.TooHigh) p.is refl refl refl refl;
        }
