-- The row on a stanza (RFC 6120, section 8): what it is for the device whose session it is of, and for the others.
use Rattle.std.proofs.Common.{◌≡◌, ℕ, ◌+◌, true, false, List, [], ◌∷◌, Option, Some, None, cond, refl, sym, ap, subst, ◌∙◌, ◌⊎◌, inl, inr}
use Rattle.std.proofs.lemmas.Bool.{cases_Bool}
use Rattle.std.proofs.lemmas.List.Elements.{All-head, All-nil}
use Rattle.std.proofs.lemmas.Option.{same_Some}
use Rattle.std.specs.List.{All, AllByRecursion}
use Rattle.sm_acks.proofs.Senders.{counted_more}
use Rattle.base_lemmas.proofs.Lists.{AllByRecursion-weaker}
use Rattle.srv_state.specs.State.{ServerState, Step, with_sessions}
use Rattle.srv_state.specs.Steps.{Act, Archive, Copy, Handle, Present, Send, Tell, acted}
use Rattle.srv_state.specs.Words.{is_long, is_stanza, word_of}
use Rattle.srv_state.specs.declared.word.Word.TheVariants as word
use Rattle.sim_3_items.specs.Counted.{IsForClient, IsForServer}
use Rattle.sim_3_items.specs.Labels.{Takes, gives_all}
use Rattle.sim_3_items.specs.Identities.{Identity, Login}
use Rattle.sim_3_items.specs.Pipes.{PipesRepresent}
use Rattle.sim_3_items.specs.Sent.{sent}
use Rattle.sim_3_items.specs.Servers.{IsRow, ServerFollows, ServerRepresents}
use Rattle.sim_3_items.specs.WordItems.{told_count}
use Rattle.sim_3_items.specs.ItemMoves.{step_of}
use Rattle.sim_3_items.specs.ItemPipes.{ItemWire, handed_up}
use Rattle.sim_3_items.specs.ItemWorlds.{itself}
use Rattle.sim_2_links.proofs.Expected.{expected_up}
use Rattle.sim_2_links.proofs.Reached.{link_kept}
use Rattle.sim_2_links.specs.LinkMoves.{handled_if}
use Rattle.sim_2_links.specs.Machine.{LinkReached, TakesStanza}
use Rattle.sim_2_links.specs.Promises.{HasThere}
use Rattle.sim_2_links.specs.Stages.{Conn}
use Rattle.sim_2_links.specs.Views.{Row, Table, View, alter, has, with_at}
use Rattle.sim_2_links.specs.Views as links
use Rattle.sim_2_links.specs.Words.{St, Up, up_stanzas}
use Rattle.sm_live.specs.Sessions.{Session, handles, is_named, session_of, told, with_session}
use Rattle.sim_4_links_follow.proofs.HandMoves.{kept_here, wire_here}
use Rattle.sim_4_links_follow.proofs.ServersOthers.{pipes_stay}
use Rattle.sim_3_images.proofs.RuleKept.{found_is, named_as, numbered_here}
use Rattle.sim_4_links_follow.proofs.Sessions.{counts_so, few_wait, live, numbered, seated, session_row, taken, taken_client, taken_pipes}
use Rattle.sim_4_links_follow.specs.Taking.{AreApart, IsFirst, on_item}
use Rattle.im_stanza.specs.Readings.{stanza_of}
use Rattle.srv_core.specs.Ready.{at_bound}
use Rattle.srv_core.specs.Stanzas.{judging}
use Rattle.sim_4_links_follow.proofs.ActSteps.{acts_go, follows_both, handles_keeps, reached_more}
use Rattle.sim_4_links_follow.proofs.GivenParts.{IsCountedAt, IsFair, IsKeptRow, IsNotOf, fair_still}
use Rattle.sim_4_links_follow.proofs.Listening.{AreHeard, IsHeard, IsHeardBy, IsListening, handling_heard}
use Rattle.sim_4_links_follow.proofs.Own.{Goes}
use Rattle.sim_4_links_follow.proofs.Tellings.{told_alike, told_from}
use Rattle.sim_4_links_follow.specs.Given.{IsGiven, IsOfSession, IsTold, StepGives, acts_on}
use Rattle.xml_trees.specs.Trees.{Elem}
use Rattle.sim_4_links_follow.proofs.Servings.{IsLive, known_altered, known_same, live_of, row_represents, session_represents}
use Rattle.xml_writer.specs.Items.{ItemOut}

-- ---- for any device: nothing is for a session of it that isn't counted

module _ (who : Identity) (logins : ℕ → Login) (h : ServerState ItemOut) (v : View ItemOut) (represents : ServerRepresents who logins h v) where
  counted_at : (n : ℕ) → IsHeardBy h.sessions n → IsCountedAt v.row n
  counted_at n heard r is number =
      let there = numbered_here (is_named who.account who.resource) h.next 1 h.sessions here.session represents.server_state.sessions.ascending here.named in
      by (heard here.session (subst (λ m. session_of m h.sessions ≡ Some here.session) (here.row.number ∙ number) there))
    where
      here : IsLive who h r
      here = live_of who logins h v r represents is

      counts : r.counted ≡ false → (here.session.shown.available ≡ true) ⊎ (here.session.shown.carbons ≡ true) → ⊥
      counts un (inl available) = let quiet = (here.row.quiet un).0 in let no_way : ⊥ = cc in no_way
      counts un (inr carbons) = let quiet = (here.row.quiet un).1 in let no_way : ⊥ = cc in no_way

      by : IsListening here.session → r.counted ≡ true
      by (inl counted) = sym here.row.counted ∙ counted
      by (inr wants) = elim (cases_Bool r.counted) [ inl counted ↦ counted | inr un ↦ absurd (counts un wants) ]

  heard_fair : (a : Act ItemOut) → IsHeard h.sessions a → IsFair v.row a
  heard_fair (Send n z) heard = (heard.0, counted_at n heard.1)
  heard_fair (Present n available priority) heard = counted_at n heard
  heard_fair (Copy n on) heard = counted_at n heard
  heard_fair (Archive account e) heard = tt
  heard_fair (Tell from to origin) heard = tt
  heard_fair _ heard = absurd heard

  all_fair : (acts : List (Act ItemOut)) → AreHeard h.sessions acts → AllByRecursion (IsFair v.row) acts
  all_fair acts heard = AllByRecursion-weaker (IsHeard h.sessions) (IsFair v.row) heard_fair acts heard

pub stanza_word : (e : Elem) → is_stanza e ≡ true → is_long e ≡ false → word_of e ≡ word.Stanza false (stanza_of e)
unfolding word_of
stanza_word e stanza short = rw (stanza, short) refl

handled_row : (r : Row ItemOut) (s : Session ItemOut) → IsRow r s → IsRow (record r { handled = r.handled + 1 }) (handles s)
handled_row r s is = record {
  number = is.number;
  conn = is.conn;
  counted = is.counted;
  resumable = is.resumable;
  acked = is.acked;
  handled = ap (λ n. told_count (n + 1)) is.handled ∙ counted_more r.handled;
  waiting = is.waiting;
  quiet = is.quiet;
  for_client = is.for_client;
}

module _ (who : Identity) (logins : ℕ → Login) (h : ServerState ItemOut) (wires : Table ItemWire) (v : View ItemOut) (k : ℕ) (z : ItemOut) (p : IsFirst who logins h wires v k (Up (St z))) where
  abbrev there : HasThere v k p.conn.phase true
  there = expected_up v k p.conn (Up (St z)) p.rest (kept_here who logins h wires v k (Up (St z)) p) p.is p.first

  abbrev row : Row ItemOut
  row = there.0

  abbrev s : Session ItemOut
  s = (live who logins h wires v k (Up (St z)) p true there).session

  pub stanza_comes : IsOfSession who h z
  stanza_comes = record {
    stanza = All-head IsForServer z (up_stanzas p.rest) (subst (λ ws. All IsForServer (up_stanzas ws)) p.first (wire_here who logins h wires v k (Up (St z)) p).for_server);
    session = s;
    named = (live who logins h wires v k (Up (St z)) p true there).named;
    counted = counts_so who logins h wires v k (Up (St z)) p true there;
  }

  abbrev counted_server_state : ServerState ItemOut
  counted_server_state = with_sessions (with_session row.number handles h.sessions) h

  abbrev counted_step : Step ItemOut
  counted_step = record { server_state = counted_server_state; outs = [] }

  module _ (x : IsOfSession who h z) where
    abbrev acts : List (Act ItemOut)
    acts = acts_on who h z x

    same : s ≡ x.session
    same = same_Some s x.session (sym (live who logins h wires v k (Up (St z)) p true there).named ∙ x.named)

    number : x.session.shown.number ≡ row.number
    number = ap (λ (t : Session ItemOut). t.shown.number) (sym same) ∙ (live who logins h wires v k (Up (St z)) p true there).row.number

    step : on_item k z h ≡ acted itself acts counted_step
    step =
        let e = x.stanza.elem in
        ap (λ i. on_item k i h) x.stanza.whole
        ∙ session_row who logins h wires v k (Up (St z)) p true there e (word.Stanza false (stanza_of e)) (stanza_word e x.stanza.stanza x.stanza.short)
        ∙ ap (λ t. acted itself (at_bound itself k (word.Stanza false (stanza_of e)) (told t) (seated who logins h wires v k (Up (St z)) p true there) h) (step_of h)) same
        ∙ ap (λ o. acted itself (judging itself k (stanza_of e) (told x.session) (seated who logins h wires v k (Up (St z)) p true there) o h) (step_of h)) (x.stanza.fair (told x.session) h)
        ∙ ap (λ b. acted itself (cond b (Handle x.session.shown.number ∷ acts) acts) (step_of h)) x.counted
        ∙ ap (λ n. acted itself acts (record { server_state = with_sessions (with_session n handles h.sessions) h; outs = [] })) number

    heard : AreHeard h.sessions acts
    heard = handling_heard h (told x.session) own (stanza_of x.stanza.elem) p.server.server_state.sessions.ascending x.stanza.bare
      where
        own : IsHeardBy h.sessions x.session.shown.number
        own t found =
            let here = numbered_here (is_named who.account who.resource) h.next 1 h.sessions x.session p.server.server_state.sessions.ascending x.named in
            inl (subst (λ (u : Session ItemOut). u.shown.counted ≡ true) (same_Some x.session t (sym here ∙ found)) x.counted)

    -- ---- for its own device

    abbrev d : Conn ItemOut
    d = taken who logins h wires v k (Up (St z)) p p.conn.phase []

    abbrev after : Row ItemOut
    after = record row { handled = row.handled + 1 }

    abbrev counted_one : ℕ → links.Session ItemOut → links.Session ItemOut
    counted_one q u = handled_if (has (Some row.number) q) z (up_stanzas p.rest) u

    abbrev next : View ItemOut
    next = record v { conns = with_at k d v.conns; row = Some after; sessions = alter counted_one v.sessions }

    counted_represents : ServerRepresents who logins counted_server_state (record v { row = Some after; sessions = alter counted_one v.sessions })
    counted_represents =
        session_represents who logins h v row after handles (alter counted_one v.sessions) (known_altered counted_one v) p.server there.1 handles_keeps (handled_row row)
        (few_wait who logins h wires v k (Up (St z)) p true there)

    abbrev counted_follows : ServerFollows who logins counted_server_state (sent [] (with_at k (handed_up p.wire) wires)) v (Takes z ∷ [])
    counted_follows = record {
      moves = TakesStanza k z ∷ [];
      next = next;
      leads = (next, record { conn = p.conn; is = p.is; rest = p.rest; first = p.first; row = row; is_row = there.1; on = there.3; counted = there.4; gives = refl }, refl);
      does = refl;
      server = row_represents who logins counted_server_state (record v { row = Some after; sessions = alter counted_one v.sessions }) counted_represents k p.conn p.is d (Some after) (alter counted_one v.sessions) (known_same (record v { row = Some after; sessions = alter counted_one v.sessions })) refl counted_represents.row;
      pipes = taken_pipes who logins h wires v k (Up (St z)) p p.conn.phase [] [] next (λ j. refl) refl (All-nil IsForClient);
      client = taken_client who logins h wires v k (Up (St z)) p p.conn.phase [] next refl refl refl refl;
    }

    kept_row : IsKeptRow v.row (Some after)
    kept_row t is = let one : after ≡ t = same_Some after t is in (row, there.1, ap (λ (u : Row ItemOut). u.number) one, ap (λ (u : Row ItemOut). u.counted) one)

    goes : Goes who logins (with_at k (handed_up p.wire) wires) next acts [] (acted itself acts counted_step)
    goes =
        acts_go who logins (with_at k (handed_up p.wire) wires) acts counted_step next (reached_more who logins (with_at k (handed_up p.wire) wires) (TakesStanza k z ∷ []) v next p.reached counted_follows.leads) counted_follows.server counted_follows.pipes
        (AllByRecursion-weaker (IsFair v.row) (IsFair (Some after)) (λ a. fair_still v.row (Some after) a kept_row) acts (all_fair who logins h v p.server acts heard))

    given_by : (given : List ItemOut) (q : Option (Row ItemOut)) → IsGiven acts given (Some after) q → IsGiven acts given (Some row) q
    given_by given None is = is
    given_by given (Some last) is = is

    pub stanza_follows : StepGives who logins wires v k p.wire (on_item k z h) acts (Takes z ∷ [])
    stanza_follows = subst (λ t. StepGives who logins wires v k p.wire t acts (Takes z ∷ [])) (sym step) (record {
      given = goes.given;
      follows = follows_both who logins (with_at k (handed_up p.wire) wires) v counted_step (acted itself acts counted_step) (Takes z ∷ []) (gives_all goes.given) (Takes z ∷ gives_all goes.given) refl counted_follows goes.follows;
      are_given = subst (λ o. IsGiven acts goes.given o goes.follows.next.row) (sym there.1) (given_by goes.given goes.follows.next.row goes.are_given);
      told =
          subst (λ o. IsTold o (acted itself acts counted_step).outs goes.given goes.follows.next.row) (sym there.1)
          (told_alike row (row.handled + 1) (acted itself acts counted_step).outs goes.given goes.follows.next.row
          (told_from next goes.given (acted itself acts counted_step).outs goes.follows.next.row (link_kept next (reached_more who logins (with_at k (handed_up p.wire) wires) (TakesStanza k z ∷ []) v next p.reached counted_follows.leads)) goes.tells));
    })

    -- ---- for another

    module _ (whom : Identity) (others : ℕ → Login) (u : View ItemOut) (apart : AreApart who whom) (reached : LinkReached u) (represents : ServerRepresents whom others h u) (pipes : PipesRepresent whom others wires u) where
      not_its_session : IsNotOf u.row row.number
      not_its_session r is number_is =
          let mine = live who logins h wires v k (Up (St z)) p true there in
          let its = live_of whom others h u r represents is in
          let its_number = numbered_here (is_named whom.account whom.resource) h.next 1 h.sessions its.session represents.server_state.sessions.ascending its.named in
          let at : its.session.shown.number ≡ mine.session.shown.number = its.row.number ∙ number_is ∙ sym mine.row.number in
          let one : its.session ≡ mine.session = same_Some its.session mine.session (sym its_number ∙ ap (λ n. session_of n h.sessions) at ∙ numbered who logins h wires v k (Up (St z)) p true there) in
          let a = named_as who.account who.resource mine.session (found_is (is_named who.account who.resource) h.sessions mine.session mine.named) in
          let b = named_as whom.account whom.resource its.session (found_is (is_named whom.account whom.resource) h.sessions its.session its.named) in
          apart.name (sym a.0 ∙ ap (λ (t : Session ItemOut). t.shown.account) (sym one) ∙ b.0) (sym a.1 ∙ ap (λ (t : Session ItemOut). t.shown.resource) (sym one) ∙ b.1)

      all_acts : Goes whom others (with_at k (handed_up p.wire) wires) u (Handle row.number ∷ acts) [] (acted itself acts counted_step)
      all_acts =
          acts_go whom others (with_at k (handed_up p.wire) wires) (Handle row.number ∷ acts) (step_of h) u reached represents
          (pipes_stay who whom others h wires u apart represents pipes k p.wire [] p.there (wire_here who logins h wires v k (Up (St z)) p).of (λ j w other. refl))
          (not_its_session, all_fair whom others h u represents acts heard)

      given_too : (given : List ItemOut) (o q : Option (Row ItemOut)) → IsGiven (Handle row.number ∷ acts) given o q → IsGiven acts given o q
      given_too given None q is = is
      given_too given (Some r) None is = is
      given_too given (Some r) (Some last) is = is

      pub reaches_other : StepGives whom others wires u k p.wire (on_item k z h) acts []
      reaches_other = subst (λ t. StepGives whom others wires u k p.wire t acts []) (sym step) (record {
        given = all_acts.given;
        follows = all_acts.follows;
        are_given = given_too all_acts.given u.row all_acts.follows.next.row all_acts.are_given;
        told = told_from u all_acts.given (acted itself acts counted_step).outs all_acts.follows.next.row (link_kept u reached) all_acts.tells;
      })
