-- What the server does on a word shuts no connection, but that of an older session of the word's device, where it asks for one,
-- and that of a session whose queue is full, where it is a stanza.
use Rattle.std.proofs.Common.{◌≡◌, ◌≢◌, ◌⊎◌, ℕ, ◌≤◌, Bool, true, false, cond, List, [], ◌∷◌, Option, Some, None, Ok, Err, codes, length, nat_eq, nat_le, refl, sym, ap, subst, ◌∙◌, inl, inr}
use Rattle.std.proofs.lemmas.Bool.{cases_eq, false≢true}
use Rattle.std.proofs.lemmas.Option.{none-some, same_Some}
use Rattle.std.specs.List.{AllByRecursion}
use Rattle.std.specs.Option.{option_map}
use Rattle.base_lemmas.proofs.Lists.{AllByRecursion-weaker}
use Rattle.im_replies.specs.Management.{resumed_item}
use Rattle.im_replies.specs.Requests.{bound_item}
use Rattle.im_replies.specs.Streams.{error_item, too_high_item}
use Rattle.im_replies.specs.declared.conditions.StreamCondition.TheVariants as stream
use Rattle.im_stanza.specs.Readings.{stanza_of}
use Rattle.sim_2_links.proofs.Entries.{is_has, other_number}
use Rattle.sim_2_links.proofs.Expected.{expected_up}
use Rattle.sim_2_links.specs.Promises.{HasThere}
use Rattle.sim_2_links.specs.Views.{Table, View, has, on_phase}
use Rattle.sim_2_links.specs.Words.{Ack, AtSession, Auth, Bind, Enable, Foot, Hdr, Ready, Req, Resp, ResumeAt, St, Up, UpWord}
use Rattle.sim_3_images.proofs.RuleKept.{numbered_here}
use Rattle.sim_3_items.specs.Identities.{Identity, Login}
use Rattle.sim_3_items.specs.ItemMoves.{step_of}
use Rattle.sim_3_items.specs.ItemPipes.{ItemWire}
use Rattle.sim_3_items.specs.ItemWorlds.{itself, read_of}
use Rattle.sim_3_items.specs.WordItems.{told_count, up_item}
use Rattle.sim_4_links_follow.proofs.Binds.{bind_step}
use Rattle.sim_4_links_follow.proofs.FooterRows.{foot_step}
use Rattle.sim_4_links_follow.proofs.Found.{found_on}
use Rattle.sim_4_links_follow.proofs.HandMoves.{kept_here, standing_here}
use Rattle.sim_4_links_follow.proofs.Leavings.{unseated}
use Rattle.sim_4_links_follow.proofs.Listening.{IsHeard, IsHeardBy, handling_heard}
use Rattle.sim_4_links_follow.proofs.LoginRows.{auth_step, response_step, restart_step, start_step}
use Rattle.sim_4_links_follow.proofs.ResumeCounts.{count_so}
use Rattle.sim_4_links_follow.proofs.ResumeRows.{IsOwnSession, own_session, within_so}
use Rattle.sim_4_links_follow.proofs.SessionRows.{count_step, enable_step, request_step}
use Rattle.sim_4_links_follow.proofs.Sessions.{live, seat, seated, session}
use Rattle.sim_4_links_follow.proofs.StanzaRows.{stanza_comes, stanza_word}
use Rattle.sim_4_links_follow.proofs.StrangeRows.{none_here, resume_step}
use Rattle.sim_4_links_follow.specs.Given.{IsOfSession, acts_on}
use Rattle.sim_4_links_follow.specs.Taking.{AreCountable, IsFirst, on_item}
use Rattle.sim_7_schedules.proofs.OutsOpen.{AreMild, AreNoShuts, FillsAt, IsGiving, given_open, mild_open, parting_mild}
use Rattle.sim_7_schedules.specs.LateWords.{IsAsk}
use Rattle.sm_acks.specs.declared.end.TheConstants.{MOST_UNACKNOWLEDGED}
use Rattle.sm_live.specs.Rule.{IsRule}
use Rattle.sm_live.specs.Sessions.{Session, ended_of, is_named, is_too_high, resent, resume_answer, resume_ok, send_count, session_at, session_named, session_resumed, told}
use Rattle.sm_resumption.specs.Previds.{previd_of}
use Rattle.sm_resumption.specs.declared.answers.ResumeFault.TheVariants.{TooHigh}
use Rattle.srv_core.specs.Ready.{at_bound, at_ready_or_bound}
use Rattle.srv_core.specs.Stanzas.{judging}
use Rattle.srv_core.specs.Table.{at_open}
use Rattle.srv_handlers.specs.Bindings.{former_of}
use Rattle.srv_handlers.specs.Resumptions.{asking, resent_where, resuming, saying}
use Rattle.srv_state.specs.State.{ServerState, full_address}
use Rattle.srv_state.specs.Steps as steps
use Rattle.srv_state.specs.Steps.{Act, acted}
use Rattle.srv_state.specs.Streams.{parting_where, standing_at}
use Rattle.srv_state.specs.declared.limits.TheConstants.{ASKS_AT}
use Rattle.srv_state.specs.declared.word.Word.TheVariants as kind
use Rattle.xml_framer.specs.declared.items.Item.TheVariants as item
use Rattle.xml_trees.specs.Trees.{Elem}
use Rattle.xml_writer.specs.Items.{Closing, ItemOut}

-- ---- steps of a resumption

saying_mild : (k j : ℕ) (items : List ItemOut) (more : List (Act ItemOut)) → AreMild k more → AreMild k (saying j items more)
saying_mild k j [] more mild = mild
saying_mild k j (z ∷ items) more mild = (tt, saying_mild k j items more mild)

asking_mild : (k j n : ℕ) (due : Bool) → AreMild k (asking itself j n due)
asking_mild k j n true = (tt, (tt, tt))
asking_mild k j n false = tt

-- ---- words

-- The word is on a connection with the number `j`; of another one with the number `k` we ask whether it is shut. Where they are
-- the same, the client works there.
module _ (who : Identity) (logins : ℕ → Login) (h : ServerState ItemOut) (wires : Table ItemWire) (v : View ItemOut) (j k : ℕ) (works : j ≡ k → v.here ≡ Some j) (countable : AreCountable v) where
  abbrev row_acts : ItemOut → List (Act ItemOut)
  row_acts z = at_open itself j (read_of z) (standing_at j h) h

  -- the session of the device is on the connection, which is another one
  pub record IsFormer : Type 0 where
    pub session : Session ItemOut
    pub named : session_named who.account who.resource h.sessions ≡ Some session
    pub on : session.shown.conn ≡ Some k
    pub apart : j ≢ k

  former : IsRule h.sessions h.next → session_at j h.sessions ≡ None → (s : Session ItemOut) → session_named who.account who.resource h.sessions ≡ Some s → s.shown.conn ≡ Some k → IsFormer
  former rule nobody s named on = record {
    session = s;
    named = named;
    on = on;
    apart = λ same. none-some s (sym nobody ∙ subst (λ n. session_at n h.sessions ≡ Some s) (sym same) (found_on h.next k who.account who.resource h.sessions s rule named on));
  }

  abbrev pub IsLeftOpen : ItemOut → Type 0
  IsLeftOpen z = AreNoShuts k (on_item j z h).outs

  abbrev pub Outcome : ItemOut → Type 0
  Outcome z = IsLeftOpen z ⊎ ((IsAsk z × IsFormer) ⊎ FillsAt k (row_acts z) (step_of h))

  -- on the connection itself the client works no more
  elsewhere : has v.here j ≡ false → nat_eq j k ≡ false
  elsewhere gone =
      elim (cases_eq j k) [
        | inl same ↦ absurd (false≢true (sym gone ∙ is_has v.here j (works same)))
        | inr apart ↦ other_number j k apart
      ]

  -- ---- a login, and a footer

  header_open : (p : IsFirst who logins h wires v j Hdr) → IsLeftOpen (up_item who (logins j) Hdr)
  header_open p =
      elim (expected_up v j p.conn Hdr p.rest (kept_here who logins h wires v j Hdr p) p.is p.first) [
        | inl is ↦ subst (λ t. AreNoShuts k t.outs) (sym (start_step who logins h wires v j p is)) (tt, (tt, tt))
        | inr is ↦ subst (λ t. AreNoShuts k t.outs) (sym (restart_step who logins h wires v j p is)) (tt, (tt, tt))
      ]

  auth_open : (p : IsFirst who logins h wires v j Auth) → IsLeftOpen (up_item who (logins j) Auth)
  auth_open p =
      subst (λ t. AreNoShuts k t.outs) (sym (auth_step who logins h wires v j p (expected_up v j p.conn Auth p.rest (kept_here who logins h wires v j Auth p) p.is p.first))) (tt, tt)

  response_open : (p : IsFirst who logins h wires v j Resp) → IsLeftOpen (up_item who (logins j) Resp)
  response_open p =
      subst (λ t. AreNoShuts k t.outs) (sym (response_step who logins h wires v j p (expected_up v j p.conn Resp p.rest (kept_here who logins h wires v j Resp p) p.is p.first))) (tt, tt)

  foot_open : (p : IsFirst who logins h wires v j Foot) → IsLeftOpen (up_item who (logins j) Foot)
  foot_open p =
      let gone : has v.here j ≡ false = expected_up v j p.conn Foot p.rest (kept_here who logins h wires v j Foot p) p.is p.first in
      subst (λ t. AreNoShuts k t.outs) (sym (foot_step who logins h wires v j p)) (tt, (elsewhere gone, tt))

  -- ---- acknowledgement

  enable_open : (p : IsFirst who logins h wires v j Enable) → IsLeftOpen (up_item who (logins j) Enable)
  enable_open p =
      subst (λ t. AreNoShuts k t.outs) (sym (enable_step who logins h wires v j p (expected_up v j p.conn Enable p.rest (kept_here who logins h wires v j Enable p) p.is p.first))) (tt, tt)

  request_open : (p : IsFirst who logins h wires v j (Up Req)) → IsLeftOpen (up_item who (logins j) (Up Req))
  request_open p =
      subst (λ t. AreNoShuts k t.outs) (sym (request_step who logins h wires v j p (expected_up v j p.conn (Up Req) p.rest (kept_here who logins h wires v j (Up Req) p) p.is p.first))) (tt, tt)

  count_open : (n : ℕ) (p : IsFirst who logins h wires v j (Up (Ack n))) → IsLeftOpen (up_item who (logins j) (Up (Ack n)))
  count_open n p =
      subst (λ t. AreNoShuts k t.outs) (sym (count_step who logins h wires v j n p (expected_up v j p.conn (Up (Ack n)) p.rest (kept_here who logins h wires v j (Up (Ack n)) p) p.is p.first))) tt

  -- ---- a binding

  bind_asks : IsAsk (up_item who (logins j) Bind)
  bind_asks = inl (who.resource, refl)

  module _ (p : IsFirst who logins h wires v j Bind) where
    abbrev bind_says : List (Act ItemOut)
    bind_says = steps.Say j (bound_item (codes "bind") (full_address who.account who.resource h)) ∷ []

    abbrev bind_acts : Option (Session ItemOut) → List (Act ItemOut)
    bind_acts o = steps.Bind who.account who.resource j ∷ parting_where itself (former_of (option_map ended_of o)) (error_item stream.Conflict) bind_says

    bind_alone : session_at j h.sessions ≡ None
    bind_alone =
        let ready : p.conn.phase ≡ Ready = expected_up v j p.conn Bind p.rest (kept_here who logins h wires v j Bind p) p.is p.first in
        unseated who logins h v (kept_here who logins h wires v j Bind p) p.server j p.conn p.is (ap (λ q. on_phase q p.conn.ending p.conn.gone) ready)

    bind_so : (o : Option (Session ItemOut)) → session_named who.account who.resource h.sessions ≡ o → AreMild k (bind_acts o) → IsLeftOpen (up_item who (logins j) Bind)
    bind_so o is mild =
        subst (λ t. AreNoShuts k t.outs) (sym (bind_step who logins h wires v j p))
        (mild_open k (bind_acts (session_named who.account who.resource h.sessions)) (subst (λ q. AreMild k (bind_acts q)) (sym is) mild) (step_of h) tt)

    bind_by : (o : Option (Session ItemOut)) → session_named who.account who.resource h.sessions ≡ o → IsLeftOpen (up_item who (logins j) Bind) ⊎ IsFormer
    bind_by None is = inl (bind_so None is (tt, (tt, tt)))
    bind_by (Some s) is =
        elim (parting_mild k s.shown.conn (error_item stream.Conflict) bind_says (tt, tt)) [
          | inl mild ↦ inl (bind_so (Some s) is (tt, mild))
          | inr on ↦ inr (former p.server.server_state.sessions bind_alone s is on)
        ]

    bind_open : IsLeftOpen (up_item who (logins j) Bind) ⊎ IsFormer
    bind_open = bind_by (session_named who.account who.resource h.sessions) refl

  -- ---- a resumption

  module _ (q n : ℕ) (p : IsFirst who logins h wires v j (ResumeAt q n)) where
    abbrev hh : ℕ
    hh = told_count n

    resume_asks : IsAsk (up_item who (logins j) (ResumeAt q n))
    resume_asks = inr (previd_of q, hh, refl)

    abbrev Does : Option (Session ItemOut) → Type 0
    Does o = AreNoShuts k (acted itself (resuming itself j who.account (previd_of q) hh (resume_answer hh o) (resent_where hh o)) (step_of h)).outs

    module _ (s : Session ItemOut) (found : session_resumed (previd_of q) who.account h.sessions ≡ Some s) where
      own : IsOwnSession who h v q s
      own = own_session who logins h wires v j q n p s found

      -- a count is too high only where the client works no more
      high_gone : is_too_high hh s ≡ true → has v.here j ≡ false
      high_gone high =
          elim (count_so who logins h wires v j q n p countable s found own) [
            | inl position ↦
                let few : length own.row.queue ≤ 10000 = subst (λ l. length l ≤ MOST_UNACKNOWLEDGED) own.live.waiting (p.server.server_state.sessions.few s.shown.number s (numbered_here (is_named who.account who.resource) h.next 1 h.sessions s p.server.server_state.sessions.ascending own.named)) in
                absurd (false≢true (sym (within_so own.row n position.within few s own.live) ∙ high))
            | inr following ↦ following.left
          ]

      abbrev says : List (Act ItemOut)
      says = steps.Say j (resumed_item s.shown.number s.handled) ∷ saying j (resent hh s) (asking itself j s.shown.number (nat_le ASKS_AT (length (resent hh s))))

      says_mild : AreMild k says
      says_mild = (tt, saying_mild k j (resent hh s) (asking itself j s.shown.number (nat_le ASKS_AT (length (resent hh s)))) (asking_mild k j s.shown.number (nat_le ASKS_AT (length (resent hh s)))))

      named_open : (high : Bool) → is_too_high hh s ≡ high
          → AreNoShuts k (acted itself (resuming itself j who.account (previd_of q) hh (cond high (Err (TooHigh hh (send_count s) s.shown.conn)) (Ok (resume_ok s))) (resent hh s)) (step_of h)).outs ⊎ (s.shown.conn ≡ Some k)
      named_open true high =
          elim (parting_mild k s.shown.conn (error_item stream.Conflict) [] tt) [
            | inl mild ↦
                inl (mild_open k (steps.Resume (previd_of q) who.account hh j ∷ steps.Say j (too_high_item hh (send_count s)) ∷ steps.Say j Closing ∷ steps.Close j ∷ parting_where itself s.shown.conn (error_item stream.Conflict) [])
                (tt, (tt, (tt, (elsewhere (high_gone high), mild)))) (step_of h) tt)
            | inr on ↦ inr on
          ]
      named_open false low =
          elim (parting_mild k s.shown.conn (error_item stream.Conflict) says says_mild) [
            | inl mild ↦
                inl (mild_open k (steps.Resume (previd_of q) who.account hh j ∷ steps.Ask s.shown.number false ∷ parting_where itself s.shown.conn (error_item stream.Conflict) says) (tt, (tt, mild)) (step_of h) tt)
            | inr on ↦ inr on
          ]

      found_open : Does (Some s) ⊎ IsFormer
      found_open =
          elim (named_open (is_too_high hh s) refl) [
            | inl stays ↦ inl stays
            | inr on ↦ inr (former p.server.server_state.sessions (none_here who logins h wires v j q n p) s own.named on)
          ]

    resume_open : IsLeftOpen (up_item who (logins j) (ResumeAt q n)) ⊎ IsFormer
    resume_open = by (session_resumed (previd_of q) who.account h.sessions) refl
      where
        open_so : (o : Option (Session ItemOut)) → session_resumed (previd_of q) who.account h.sessions ≡ o → Does o → IsLeftOpen (up_item who (logins j) (ResumeAt q n))
        open_so o is does = subst (λ t. AreNoShuts k t.outs) (sym (resume_step who logins h wires v j q n p)) (subst Does (sym is) does)

        by : (o : Option (Session ItemOut)) → session_resumed (previd_of q) who.account h.sessions ≡ o → IsLeftOpen (up_item who (logins j) (ResumeAt q n)) ⊎ IsFormer
        by None is = inl (open_so None is (tt, tt))
        by (Some s) is =
            elim (found_open s is) [
              | inl does ↦ inl (open_so (Some s) is does)
              | inr former ↦ inr former
            ]

  -- ---- a stanza

  module _ (z : ItemOut) (p : IsFirst who logins h wires v j (Up (St z))) where
    x : IsOfSession who h z
    x = stanza_comes who logins h wires v j z p

    abbrev there : HasThere v j p.conn.phase true
    there = expected_up v j p.conn (Up (St z)) p.rest (kept_here who logins h wires v j (Up (St z)) p) p.is p.first

    abbrev s : Session ItemOut
    s = session who logins h wires v j (Up (St z)) p true there

    abbrev e : Elem
    e = x.stanza.elem

    abbrev acts : List (Act ItemOut)
    acts = acts_on who h z x

    same : s ≡ x.session
    same = same_Some s x.session (sym (live who logins h wires v j (Up (St z)) p true there).named ∙ x.named)

    acts_are : row_acts z ≡ steps.Handle x.session.shown.number ∷ acts
    acts_are =
        let st = seated who logins h wires v j (Up (St z)) p true there in
        ap (λ i. at_open itself j (read_of i) (standing_at j h) h) x.stanza.whole
        ∙ ap (λ o. at_open itself j (item.Element e) o h) (standing_here who logins h wires v j (Up (St z)) p (AtSession there.0.number) there.2)
        ∙ ap (λ w. at_ready_or_bound itself j who.account w (option_map told (session_at j h.sessions)) st h) (stanza_word e x.stanza.stanza x.stanza.short)
        ∙ ap (λ o. at_ready_or_bound itself j who.account (kind.Stanza false (stanza_of e)) (option_map told o) st h) (seat who logins h wires v j (Up (St z)) p true there)
        ∙ ap (λ (t : Session ItemOut). at_bound itself j (kind.Stanza false (stanza_of e)) (told t) st h) same
        ∙ ap (λ o. judging itself j (stanza_of e) (told x.session) st o h) (x.stanza.fair (told x.session) h)
        ∙ ap (λ b. cond b (steps.Handle x.session.shown.number ∷ acts) acts) x.counted

    heard_gives : (a : Act ItemOut) → IsHeard h.sessions a → IsGiving a
    heard_gives (steps.Send n y) heard = tt
    heard_gives (steps.Present n available priority) heard = tt
    heard_gives (steps.Copy n on) heard = tt
    heard_gives (steps.Archive account entry) heard = tt
    heard_gives (steps.Tell from to origin) heard = tt
    heard_gives _ heard = absurd heard

    gives : AllByRecursion IsGiving acts
    gives =
        AllByRecursion-weaker (IsHeard h.sessions) IsGiving heard_gives acts
        (handling_heard h (told x.session) own (stanza_of e) p.server.server_state.sessions.ascending x.stanza.bare)
      where
        own : IsHeardBy h.sessions x.session.shown.number
        own t found =
            let here = numbered_here (is_named who.account who.resource) h.next 1 h.sessions x.session p.server.server_state.sessions.ascending x.named in
            inl (subst (λ (u : Session ItemOut). u.shown.counted ≡ true) (same_Some x.session t (sym here ∙ found)) x.counted)

    stanza_open : IsLeftOpen z ⊎ FillsAt k (row_acts z) (step_of h)
    stanza_open = given_open k (row_acts z) (subst (AllByRecursion IsGiving) (sym acts_are) (tt, gives)) (step_of h) tt

  -- ---- each of them

  asked : (z : ItemOut) → IsAsk z → IsLeftOpen z ⊎ IsFormer → Outcome z
  asked z asks (inl stays) = inl stays
  asked z asks (inr former) = inr (inl (asks, former))

  given : (z : ItemOut) → IsLeftOpen z ⊎ FillsAt k (row_acts z) (step_of h) → Outcome z
  given z (inl stays) = inl stays
  given z (inr fills) = inr (inr fills)

  pub word_open : (word : UpWord ItemOut) → IsFirst who logins h wires v j word → Outcome (up_item who (logins j) word)
  word_open Hdr p = inl (header_open p)
  word_open Auth p = inl (auth_open p)
  word_open Resp p = inl (response_open p)
  word_open (ResumeAt q n) p = asked (up_item who (logins j) (ResumeAt q n)) (resume_asks q n p) (resume_open q n p)
  word_open Bind p = asked (up_item who (logins j) Bind) bind_asks (bind_open p)
  word_open Enable p = inl (enable_open p)
  word_open (Up (St z)) p = given z (stanza_open z p)
  word_open (Up Req) p = inl (request_open p)
  word_open (Up (Ack n)) p = inl (count_open n p)
  word_open Foot p = inl (foot_open p)
