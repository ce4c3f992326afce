-- A session that is parked is resumed, with a count that names a place in its queue: on the connection that its client
-- works on, or late.
use Rattle.std.proofs.Common.{◌≡◌, ℕ, ◌-◌, ◌≤◌, Bool, true, false, List, [], ◌∷◌, Option, Some, None, Ok, Err, cond, length, drop, nat_le, map, refl, sym, ap, subst, ◌∙◌, ◌⊎◌, inl, inr, if◌then◌else◌, ◌++◌}
use Rattle.std.proofs.lemmas.List.Elements.{All-drop}
use Rattle.std.proofs.lemmas.Option.{same_Some}
use Rattle.std.specs.List.{All}
use Rattle.std.specs.Option.{option_map}
use Rattle.sm_acks.specs.Counters.{ahead}
use Rattle.sm_acks.specs.declared.end.TheConstants.{MOST_UNACKNOWLEDGED}
use Rattle.srv_state.specs.State.{Put, ServerState, Step, conn_at, with_sessions}
use Rattle.srv_state.specs.Steps.{Act, Ask, Resume, Say, acted}
use Rattle.srv_state.specs.Streams.{parting_where}
use Rattle.srv_state.specs.declared.limits.TheConstants.{ASKS_AT}
use Rattle.sim_3_items.specs.Counted.{IsForClient}
use Rattle.sim_3_items.specs.Labels.{label_of}
use Rattle.sim_3_items.specs.Identities.{Identity, Login}
use Rattle.sim_3_items.specs.Sent.{sent}
use Rattle.sim_3_items.specs.Servers.{IsRowRepresented, ServerFollows, ServerRepresents, conn_shown, open_conn}
use Rattle.sim_3_items.specs.WordItems.{down_item, is_after_login, told_count, up_item}
use Rattle.sim_3_items.specs.ItemMoves.{step_of}
use Rattle.sim_3_items.specs.ItemPipes.{ItemWire, handed_up}
use Rattle.sim_3_items.specs.ItemWorlds.{itself}
use Rattle.sim_2_links.proofs.Entries.{Entry, New, Old, at_same, entry}
use Rattle.sim_2_links.specs.Machine.{LinkMove, LinkMoves, TakesLateResume, TakesResume}
use Rattle.sim_2_links.specs.Promises.{IsWithin}
use Rattle.sim_2_links.specs.SessionMoves.{resumed_if, resumed_words}
use Rattle.sim_2_links.specs.Stages.{Conn}
use Rattle.sim_2_links.specs.Views.{Row, Table, View, alter, has, with_at}
use Rattle.sim_2_links.specs.Views as links
use Rattle.sim_2_links.specs.Wires.{is_flowing, up_words}
use Rattle.sim_2_links.specs.Words.{AtSession, Down, DownWord, Ready, ResumeAt, St, down_stanzas}
use Rattle.sm_live.specs.Sessions.{Session, after_resume, asks, is_named, is_too_high, resent, resume_answer, resume_ok, resumes, send_count, session_at, session_named, session_of, session_resumed, with_session, without}
use Rattle.im_replies.specs.Management.{request_item, resumed_item}
use Rattle.im_replies.specs.Streams.{error_item}
use Rattle.im_replies.specs.declared.conditions.StreamCondition.TheVariants as stream
use Rattle.sm_resumption.specs.Previds.{previd_of}
use Rattle.sm_resumption.specs.declared.answers.ResumeFault.TheVariants.{TooHigh}
use Rattle.sim_4_links_follow.proofs.Demanding.{demanded, follows_on, sent_more}
use Rattle.sim_4_links_follow.proofs.HandMoves.{kept_here, open_here}
use Rattle.sim_3_images.proofs.RuleKept.{Keeps, Sits, changes_one, comes, found_is, named_changed, named_one, of_was, rule_changed, seat_was}
use Rattle.sim_4_links_follow.proofs.ResumeRows.{IsOwnSession, asked_so, asked_where, numbered, resumed_row, said, within_so}
use Rattle.sim_4_links_follow.proofs.SessionRows.{asked_row, asks_keeps, fewer}
use Rattle.sim_4_links_follow.proofs.Sessions.{taken, taken_client, taken_pipes}
use Rattle.sim_4_links_follow.proofs.Standing.{stands_at}
use Rattle.sim_4_links_follow.proofs.StrangeRows.{none_here, ready, resume_step}
use Rattle.sim_4_links_follow.specs.Taking.{IsFirst, StepFollows, on_item}
use Rattle.srv_handlers.specs.Resumptions.{asking, resent_where, resuming, saying}
use Rattle.sim_4_links_follow.proofs.Emitted.{puts_at}
use Rattle.sim_4_links_follow.proofs.Found.{change_here}
use Rattle.sim_4_links_follow.proofs.Servings.{Known, known_altered, known_same, session_represents}
use Rattle.xml_writer.specs.Items.{ItemOut}

-- the words of stanzas are the stanzas
stanza_items : (who : Identity) (x : Login) (k : ℕ) (following : Bool) (zs : List ItemOut) → map (down_item who x k following) (map Down (map St zs)) ≡ zs
stanza_items who x k following [] = refl
stanza_items who x k following (z ∷ zs) = ap (λ l. z ∷ l) (stanza_items who x k following zs)

stanzas_so : (zs : List ItemOut) → down_stanzas (map Down (map St zs)) ≡ zs
stanzas_so [] = refl
stanzas_so (z ∷ zs) = ap (λ l. z ∷ l) (stanzas_so zs)

module _ (who : Identity) (logins : ℕ → Login) (h : ServerState ItemOut) (wires : Table ItemWire) (v : View ItemOut) (k q n : ℕ) (p : IsFirst who logins h wires v k (ResumeAt q n)) (s : Session ItemOut) (found : session_resumed (previd_of q) who.account h.sessions ≡ Some s)
    (own : IsOwnSession who h v q s) where
  abbrev pub row : Row ItemOut
  row = own.row

  abbrev pub hh : ℕ
  hh = told_count n

  abbrev pub back : Session ItemOut → Session ItemOut
  back = resumes hh k

  pub first_word : up_words p.conn.wires ≡ ResumeAt row.number n ∷ p.rest
  first_word = p.first ∙ ap (λ m. ResumeAt m n ∷ p.rest) (sym (sym own.live.number ∙ own.number))

  few_wait : length s.waiting ≤ MOST_UNACKNOWLEDGED
  few_wait = p.server.server_state.sessions.few s.shown.number s (numbered who logins h wires v k q n p s found)

  pub few : length row.queue ≤ MOST_UNACKNOWLEDGED
  few = subst (λ z. length z ≤ MOST_UNACKNOWLEDGED) own.live.waiting few_wait

  there : session_of s.shown.number h.sessions ≡ Some s
  there = numbered who logins h wires v k q n p s found

  few_back : (t : Session ItemOut) → session_of s.shown.number h.sessions ≡ Some t → length (back t).waiting ≤ MOST_UNACKNOWLEDGED
  few_back t is = subst (λ u. length (back u).waiting ≤ MOST_UNACKNOWLEDGED) (same_Some s t (sym there ∙ is)) (fewer (ahead hh s.acked) MOST_UNACKNOWLEDGED s.waiting few_wait)

  pub nobody : session_at k h.sessions ≡ None
  nobody = none_here who logins h wires v k q n p

  module _ (parked : row.on ≡ None) (within : IsWithin row.acked row.queue n) where
    not_high : is_too_high hh s ≡ false
    not_high = within_so row n within few s own.live

    abbrev after : Row ItemOut
    after = record row { on = Some k; acked = n; queue = drop (n - row.acked) row.queue }

    abbrev pub back_server_state : ServerState ItemOut
    back_server_state = with_sessions (with_session s.shown.number back h.sessions) h

    abbrev pub last_server_state : ServerState ItemOut
    last_server_state = with_sessions (with_session s.shown.number (asks false) back_server_state.sessions) back_server_state

    abbrev pub due : Bool
    due = nat_le ASKS_AT (length (resent hh s))

    abbrev tail : List (Session ItemOut) → Step ItemOut
    tail ss =
        acted itself (Say k (resumed_item s.shown.number s.handled) ∷ saying k (resent hh s) (asking itself k s.shown.number due))
        (record { server_state = with_sessions (with_session s.shown.number (asks false) ss) h; outs = [] })

    abbrev acts : Option ℕ → List (Act ItemOut)
    acts former =
        Resume (previd_of q) who.account hh k ∷ Ask s.shown.number false
        ∷ parting_where itself former (error_item stream.Conflict) (Say k (resumed_item s.shown.number s.handled) ∷ saying k (resent hh s) (asking itself k s.shown.number due))

    abbrev pub back_items : List ItemOut
    back_items = resumed_item s.shown.number s.handled ∷ resent hh s

    pub back_step : on_item k (up_item who (logins k) (ResumeAt q n)) h ≡ asked_where k s.shown.number due last_server_state (puts_at k back_items)
    back_step =
        resume_step who logins h wires v k q n p
        ∙ ap (λ o. acted itself (resuming itself k who.account (previd_of q) hh (resume_answer hh o) (resent_where hh o)) (step_of h)) found
        ∙ ap (λ b. acted itself (resuming itself k who.account (previd_of q) hh (cond b (Err (TooHigh hh (send_count s) s.shown.conn)) (Ok (resume_ok s))) (resent hh s)) (step_of h)) not_high
        ∙ ap (λ o. acted itself (acts o) (step_of h)) (own.live.conn ∙ parked)
        ∙ ap (λ o. tail (after_resume hh k o h.sessions)) found
        ∙ ap (λ b. tail (cond b (without s.shown.number h.sessions) (with_session s.shown.number back h.sessions))) not_high
        ∙ said k (resent hh s) (asking itself k s.shown.number due) last_server_state (Put k (resumed_item s.shown.number s.handled) ∷ [])
        ∙ asked_so k s.shown.number due last_server_state (puts_at k back_items)

    abbrev puts : List (DownWord ItemOut)
    puts = resumed_words row n

    abbrev attached : Conn ItemOut
    attached = taken who logins h wires v k (ResumeAt q n) p (AtSession row.number) puts

    same_conn : conn_at k h ≡ conn_shown who (logins k) attached
    same_conn =
        let st = stands_at v k p.conn (kept_here who logins h wires v k (ResumeAt q n) p) p.is (ResumeAt q n) p.rest p.first in
        open_here who logins h wires v k (ResumeAt q n) p Ready (ready who logins h wires v k q n p)
        ∙ sym (ap (λ b. open_conn who (logins k) (AtSession row.number) p.conn.ending b) st.1 ∙ ap (λ g. open_conn who (logins k) (AtSession row.number) g false) st.0)

    keeps : Keeps back
    keeps = record { number = λ t. refl; account = λ t. refl; resource = λ t. refl }

    sits : Sits (λ j. j ≡ k) h.sessions back
    sits = comes k h.sessions back nobody (λ t. refl)

    back_represents : (t : Table (links.Session ItemOut)) → Known t v → ServerRepresents who logins back_server_state (record v { conns = with_at k attached v.conns; row = Some after; sessions = t })
    back_represents t known = record {
      served = record { domain = p.server.served.domain; account = p.server.served.account; found = p.server.served.found; archive = p.server.served.archive };
      server_state = record { sessions = rule_changed h.next s.shown.number (λ j. j ≡ k) back h.sessions p.server.server_state.sessions keeps sits few_back; conns = p.server.server_state.conns };
      conns = λ j e at. shown j e (entry k attached v.conns j e at);
      row = subst (IsRowRepresented (Some after)) (sym by_name) (resumed_row row n k within few s own.live);
      seated = λ j e u at seat. seated j e u (entry k attached v.conns j e at) (seat_was h.next s.shown.number (λ j. j ≡ k) back h.sessions p.server.server_state.sessions keeps sits j u seat);
      owned = λ m u t2 at here. owned m t2 (known m u at) (of_was m s.shown.number back h.sessions t2 keeps here);
      free = p.server.free;
    }
      where
        by_name : session_named who.account who.resource (with_session s.shown.number back h.sessions) ≡ Some (back s)
        by_name =
            named_changed who.account who.resource s.shown.number back h.sessions keeps
            ∙ ap (option_map (changes_one s.shown.number back)) own.named ∙ ap Some (change_here s.shown.number back s refl)

        shown : (j : ℕ) (e : Conn ItemOut) → Entry k attached v.conns j e → conn_at j h ≡ conn_shown who (logins j) e
        shown j e (New same it) = subst (λ m. conn_at m h ≡ conn_shown who (logins m) e) same (same_conn ∙ ap (conn_shown who (logins k)) it)
        shown j e (Old apart was) = p.server.conns j e was

        name : (a b : Session ItemOut) → changes_one s.shown.number back a ≡ b → is_named who.account who.resource a ≡ true → is_named who.account who.resource b ≡ true
        name a b same is =
            subst (λ u. is_named who.account who.resource u ≡ true) same (named_one who.account who.resource s.shown.number back a keeps ∙ is)

        mine : (a : Session ItemOut) → session_of a.shown.number h.sessions ≡ Some a → a.shown.number ≡ s.shown.number → is_named who.account who.resource a ≡ true
        mine a here same =
            subst (λ u. is_named who.account who.resource u ≡ true) (same_Some s a (sym there ∙ ap (λ m. session_of m h.sessions) (sym same) ∙ here)) (found_is (is_named who.account who.resource) h.sessions s own.named)

        seated : (j : ℕ) (e : Conn ItemOut) (u : Session ItemOut) → Entry k attached v.conns j e
            → (a : Session ItemOut) × (session_of a.shown.number h.sessions ≡ Some a) × (changes_one s.shown.number back a ≡ u) × (((a.shown.number ≡ s.shown.number) × (j ≡ k)) ⊎ (session_at j h.sessions ≡ Some a))
            → is_named who.account who.resource u ≡ true
        seated j e u at (a, here, same, inl new) = name a u same (mine a here new.0)
        seated j e u (New is_k it) (a, here, same, inr seat) = name a u same (p.server.seated k p.conn a p.is (subst (λ m. session_at m h.sessions ≡ Some a) (sym is_k) seat))
        seated j e u (Old apart was) (a, here, same, inr seat) = name a u same (p.server.seated j e a was seat)

        owned : (m : ℕ) (b : Session ItemOut) → (old : links.Session ItemOut) × (v.sessions m ≡ Some old) → (a : Session ItemOut) × (session_of m h.sessions ≡ Some a) × (changes_one s.shown.number back a ≡ b)
            → is_named who.account who.resource b ≡ true
        owned m b old was = name was.0 b was.2 (p.server.owned m old.0 was.0 old.1 was.1)

    items_are : back_items ≡ map (down_item who (logins k) k (is_after_login p.conn.client)) puts
    items_are =
        let r = resumed_row row n k within few s own.live in
        ap (λ m. resumed_item m s.handled ∷ resent hh s) own.live.number
        ∙ ap (λ c. resumed_item row.number c ∷ resent hh s) own.live.handled
        ∙ ap (λ l. resumed_item row.number (told_count row.handled) ∷ l) (r.waiting ∙ sym (stanza_items who (logins k) k (is_after_login p.conn.client) (drop (n - row.acked) row.queue)))

    module _ (move : LinkMove ItemOut) (g : ℕ → links.Session ItemOut → links.Session ItemOut) where
      abbrev next : View ItemOut
      next = record v { conns = with_at k attached v.conns; row = Some after; sessions = alter g v.sessions }

      plain_by : LinkMoves move v next → label_of move ≡ [] → ServerFollows who logins last_server_state (sent (puts_at k back_items) (with_at k (handed_up p.wire) wires)) v []
      plain_by leads none =
          let first_represents = back_represents (alter g v.sessions) (known_altered g v) in
          let few_left : length after.queue ≤ MOST_UNACKNOWLEDGED = fewer (n - row.acked) MOST_UNACKNOWLEDGED row.queue few in
          record {
            moves = move ∷ [];
            next = next;
            leads = (next, leads, refl);
            does = ap (λ l. l ++ []) none;
            server =
                subst (λ m. ServerRepresents who logins (with_sessions (with_session m (asks false) back_server_state.sessions) back_server_state) next) (sym own.live.number)
                (session_represents who logins back_server_state next after after (asks false) (alter g v.sessions) (known_same next) first_represents refl (asks_keeps false) (asked_row false after) (λ t is. subst (λ z. length z ≤ MOST_UNACKNOWLEDGED) (sym is.waiting) few_left));
            pipes =
                taken_pipes who logins h wires v k (ResumeAt q n) p (AtSession row.number) puts back_items next (λ j. refl) items_are
                (subst (All IsForClient) (sym (stanzas_so (drop (n - row.acked) row.queue))) (All-drop IsForClient (n - row.acked) row.queue own.live.for_client));
            client = taken_client who logins h wires v k (ResumeAt q n) p (AtSession row.number) puts next refl refl refl refl;
          }

      -- and a request behind it, where as many stanzas wait
      due_by : LinkMoves move v next → label_of move ≡ [] → (b : Bool) → StepFollows who logins wires v k p.wire (asked_where k s.shown.number b last_server_state (puts_at k back_items)) []
      unfolding plain_by
      due_by leads none false = plain_by leads none
      due_by leads none true =
          let told : Table ItemWire = with_at k (handed_up p.wire) wires in
          let more = demanded who logins last_server_state (sent (puts_at k back_items) told) v [] k (plain_by leads none) after attached refl refl own.counted (at_same k attached v.conns) in
          follows_on who logins (with_sessions (with_session s.shown.number (asks true) last_server_state.sessions) last_server_state) (sent (Put k request_item ∷ []) (sent (puts_at k back_items) told)) (sent (puts_at k back_items ++ Put k request_item ∷ []) told) v []
          (sent_more (puts_at k back_items) (Put k request_item ∷ []) told)
          (subst (λ m. ServerFollows who logins (with_sessions (with_session m (asks true) last_server_state.sessions) last_server_state) (sent (Put k request_item ∷ []) (sent (puts_at k back_items) told)) v []) (sym own.live.number) more)

    pub back_follows : (v.here ≡ Some k) ⊎ ((has v.here k ≡ false) × (row.acked ≤ n)) → StepFollows who logins wires v k p.wire (asked_where k s.shown.number due last_server_state (puts_at k back_items)) []
    back_follows (inl here) =
        due_by (TakesResume k) (λ m t. resumed_if (has (Some row.number) m) (is_flowing p.conn.wires) t)
        (record { conn = p.conn; here = here; is = p.is; h = n; row = row; is_row = own.is_row; off = parked; counted = own.counted; rest = p.rest; first = first_word; gives = refl }) refl due
    back_follows (inr late) =
        due_by (TakesLateResume k) (λ m t. record t {
          up = record t.up { stated = if has (Some row.number) m then t.up.stated ++ length t.up.got ∷ [] else t.up.stated };
          down = record t.down { acked = if has (Some row.number) m then n else t.down.acked };
        })
        (record { conn = p.conn; left = late.0; is = p.is; h = n; row = row; is_row = own.is_row; off = parked; counted = own.counted; low = late.1; rest = p.rest; first = first_word; gives = refl }) refl due
