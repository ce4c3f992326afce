-- What a client does on a stanza that comes, and what its user submits and asks for, is moves of the links.
use Rattle.std.proofs.Common.{◌≡◌, ◌≢◌, ℕ, ◌+◌, ◌%◌, ◌^◌, ◌<◌, ◌&&◌, ◌||◌, Bool, true, false, List, [], ◌∷◌, ◌++◌, Option, Some, None, Ok, codes, is_none, nat_eq, refl, sym, ap, subst, ◌∙◌, if◌then◌else◌}
use Rattle.std.proofs.lemmas.Slice.Eq.{bytes_eq-Decides}
use Rattle.std.proofs.lemmas.List.Elements.{All-head, All-nil}
use Rattle.std.proofs.lemmas.Option.{same_Some}
use Rattle.std.specs.List.{All}
use Rattle.std.specs.Option.{option_map}
use Rattle.std.specs.Str.{bytes_eq}
use Rattle.cl_core.specs.Steps.{element_row, handles, item_step, online_in, stanza_row, stream_condition, told_row}
use Rattle.cl_core.specs.UserCalls.{catch_up_answer, catches_up, say_answer, says as says_client_step}
use Rattle.law_limits.specs.Answerable.{IsItemAnswerable}
use Rattle.law_limits.specs.Within.{IsClientWithin}
use Rattle.sim_3_images.proofs.ItemsHeard.{entered_twice, nothing_entered}
use Rattle.sim_4_links_follow.proofs.HandMoves.{shown_wire}
use Rattle.sim_4_links_follow.proofs.Hearing.{wire_heard}
use Rattle.sim_4_links_follow.proofs.Turning.{own_session}
use Rattle.sim_4_links_follow.proofs.Working.{client_works, never_apart, same_server}
use Rattle.cl_handlers.specs.AckRows.{request_row}
use Rattle.cl_handlers.specs.SessionRows.{is_stanza}
use Rattle.cl_handlers.specs.Speech.{in_items}
use Rattle.cl_handlers.specs.ClientSteps.{ends, is_apart}
use Rattle.cl_handlers.specs.declared.events.PeerFault.TheVariants.{Stream}
use Rattle.cl_handlers.specs.declared.phase.Phase.TheVariants as phase
use Rattle.sim_4_links_follow.proofs.Courses.{Course, Enters, left_course, quiet_course, said_course, server_stays}
use Rattle.sim_4_links_follow.proofs.Fair.{submission_for_server}
use Rattle.sim_4_links_follow.proofs.Outcomes.{IsGone, IsSaid, Outcome, T, leaves, says, stays}
use Rattle.sim_4_links_follow.proofs.Rows.{catches_up_said, says_said, stanza_outcome}
use Rattle.sim_4_links_follow.specs.Speaking.{IsBareAddress}
use Rattle.sim_3_items.specs.Clients.{ClientFollows, IsOwn, client_phase}
use Rattle.sim_3_items.specs.Counted.{IsForClient, IsForServer}
use Rattle.sim_3_items.specs.Labels.{Reads}
use Rattle.sim_3_items.specs.Identities.{Identity, Login}
use Rattle.sim_3_items.specs.Pipes.{IsShown, IsWire}
use Rattle.sim_3_items.specs.Reading.{HearingFollows, IsNextDown, IsRead, IsRepresentedHere, SpeakingFollows, noted, where_here}
use Rattle.sim_3_items.specs.Sent.{where_it}
use Rattle.im_extensions.specs.StreamManagement.{ack_read, is_management}
use Rattle.sim_3_items.specs.ItemMoves.{here_after, left_where}
use Rattle.sim_3_items.specs.ItemPipes.{ItemPipe, ItemWire, handed_down, left, put_up}
use Rattle.sim_3_items.specs.ItemWorlds.{ItemDevice, read_of, silent_client_step}
use Rattle.xml_framer.specs.declared.items.Item.TheVariants as item
use Rattle.sim_2_links.proofs.CutLinks.{some_one}
use Rattle.sim_2_links.proofs.Entries.{at_other, at_same, other_number, same_number}
use Rattle.sim_2_links.proofs.Expected.{expected_down}
use Rattle.sim_2_links.proofs.Reached.{link_kept}
use Rattle.sim_2_links.specs.LinkMoves.{read_if}
use Rattle.sim_2_links.specs.Links.{LinkKept}
use Rattle.sim_2_links.specs.Machine.{ReadsStanza}
use Rattle.sim_2_links.specs.Stages.{Conn}
use Rattle.sim_2_links.specs.Views.{Own, Table, View, alter, has, with_at}
use Rattle.sim_2_links.specs.Wires.{left_down, send_up}
use Rattle.sim_2_links.specs.Words.{Down, InOnline, St, down_stanzas}
use Rattle.sm_outbox.specs.Sessions.{SessionView, with_waiting}
use Rattle.sm_outbox.specs.Submissions.{next_number}
use Rattle.sm_outbox.specs.Waiting.{counted_in}
use Rattle.law_limits.specs.Bounds.{IsTextWithin, most_text}
use Rattle.im_stanza.specs.Names.{client_ns, streams_ns}
use Rattle.im_stanza.specs.Readings.{stanza_of}
use Rattle.xml_trees.specs.Readers.{is_named}
use Rattle.xml_trees.specs.Trees.{Elem, name_of, namespace_of}
use Rattle.sim_4_links_follow.proofs.Placed.{shown_at}
use Rattle.sim_4_links_follow.proofs.Servings.{known_altered}
use Rattle.xml_writer.specs.Items.{ItemOut, Whole}
use Rattle.sm_acks.proofs.Senders.{counted_more as wraps}
use Rattle.law_limits.proofs.PagesKept.{next_low}

-- ---- pipes into which a turn puts

put_twice : (put more : List ItemOut) (w : ItemWire) → put_up more (put_up put w) ≡ put_up (put ++ more) w
put_twice put more w = ap (λ (p : ItemPipe). record w { up = p }) (entered_twice put more w.up)

-- those of a connection of which an item was handed over
heard_enters : (k : ℕ) (w : ItemWire) (wires : Table ItemWire) → Enters k (λ put. with_at k (put_up put w) wires)
heard_enters k w wires = record {
  here = λ put more u is.
      at_same k (put_up (put ++ more) w) wires
      ∙ ap Some (sym (put_twice put more w) ∙ ap (put_up more) (some_one (with_at k (put_up put w) wires k) (put_up put w) u (at_same k (put_up put w) wires) is));
  apart = λ put more j other. at_other k (put_up (put ++ more) w) wires j other ∙ sym (at_other k (put_up put w) wires j other);
}

-- and those of the connection that a device has
idle : (f : ItemWire → ItemWire) (o : Option ItemWire) → option_map (where_it false f) o ≡ o
idle f None = refl
idle f (Some w) = refl

here_enters : (position : ℕ) (wires : Table ItemWire) → Enters (position + 1) (λ put. where_here (Some position) (put_up put) wires)
here_enters position wires = record {
  here = λ put more w. subst (λ b. option_map (where_it b (put_up put)) (wires (position + 1)) ≡ Some w → option_map (where_it b (put_up (put ++ more))) (wires (position + 1)) ≡ Some (put_up more w))
      (sym (same_number (position + 1))) (by put more w (wires (position + 1)));
  apart = λ put more j other.
      ap (λ b. option_map (where_it b (put_up (put ++ more))) (wires j)) (other_number (position + 1) j other) ∙ idle (put_up (put ++ more)) (wires j)
      ∙ sym (ap (λ b. option_map (where_it b (put_up put)) (wires j)) (other_number (position + 1) j other) ∙ idle (put_up put) (wires j));
}
  where
    by : (put more : List ItemOut) (w : ItemWire) (o : Option ItemWire) → option_map (where_it true (put_up put)) o ≡ Some w → option_map (where_it true (put_up (put ++ more))) o ≡ Some (put_up more w)
    by put more w None is = absurd (let no_way : ⊥ = cc in no_way)
    by put more w (Some u) is = let same : put_up put u ≡ w = cc in ap Some (sym (put_twice put more u) ∙ ap (put_up more) same)

spoken_enters : (h : Option ℕ) (wires : Table ItemWire) (position : ℕ) → h ≡ Some position → Enters (position + 1) (λ put. where_here h (put_up put) wires)
spoken_enters h wires position is = subst (λ o. Enters (position + 1) (λ put. where_here o (put_up put) wires)) (sym is) (here_enters position wires)

silent_here : (h : Option ℕ) (wires : Table ItemWire) (n : ℕ) → where_here h (put_up []) wires n ≡ wires n
silent_here None wires n = refl
silent_here (Some position) wires n = by (nat_eq (position + 1) n) (wires n)
  where
    by : (b : Bool) (o : Option ItemWire) → option_map (where_it b (put_up [])) o ≡ o
    by false o = idle (put_up []) o
    by true None = refl
    by true (Some w) = ap (λ (p : ItemPipe). Some (record w { up = p })) (nothing_entered w.up)

-- ---- what the client does on a stanza

stanza_step : (t : T) (s : SessionView ItemOut) (e : Elem) → t.client.phase ≡ phase.Online → t.client.session ≡ Some s → is_stanza e ≡ true → is_named streams_ns (codes "error") e ≡ false
    → item_step in_items t (item.Element e) ≡ stanza_row in_items (handles in_items t s e) (stanza_of e)
stanza_step t s e online stands stanza plain =
    (λ i. if is_apart (online i) then t else (if plain i then ends t (Stream (stream_condition e)) else element_row in_items t (online i) e))
    ∙ (λ i. online_in in_items t (stands i) e) ∙ ap (λ b. if b then stanza_row in_items (handles in_items t s e) (stanza_of e) else (if is_management (codes "r") e then request_row in_items t s else told_row in_items t s (ack_read e))) stanza

-- no stanza is a stream error
in_namespace : (a b c d : Bool) → (a && b || (a && c || a && d)) ≡ true → a ≡ true
in_namespace true b c d is = refl
in_namespace false b c d is = absurd (let no_way : ⊥ = cc in no_way)

plain_stanza : (e : Elem) → is_stanza e ≡ true → is_named streams_ns (codes "error") e ≡ false
plain_stanza e stanza =
    let n = namespace_of e in
    let m = name_of e in
    let same : n ≡ client_ns = (bytes_eq-Decides n client_ns).0 (in_namespace (bytes_eq n client_ns) (bytes_eq m (codes "message")) (bytes_eq m (codes "presence")) (bytes_eq m (codes "iq")) stanza) in
    subst (λ ns. (bytes_eq ns streams_ns && bytes_eq m (codes "error")) ≡ false) (sym same) refl

-- ---- a stanza that comes

counted_own : (o : Own ItemOut) (s : SessionView ItemOut) → IsOwn o s → IsOwn (record o { handled = o.handled + 1 }) (with_waiting s (counted_in s.waiting))
counted_own o s old = record {
  previd = old.previd;
  acked = old.acked;
  handled = ap (λ n. (n + 1) % 2 ^ 32) old.handled ∙ wraps o.handled;
  queue = old.queue;
  for_server = old.for_server;
  few = old.few;
}

module _ (who : Identity) (logins : ℕ → Login) (d : ItemDevice) (wires : Table ItemWire) (v : View ItemOut) (k : ℕ) (z : ItemOut) (p : IsNextDown who logins d wires v k (Down (St z))) where
  -- the connection's pipes, so much being put
  abbrev heard : List ItemOut → Table ItemWire
  heard put = with_at k (put_up put (handed_down p.wire)) wires

  abbrev kept : LinkKept v
  kept = link_kept v p.shown.reached

  abbrev wire : IsWire who (logins k) k p.conn p.wire
  wire = shown_wire who (logins k) k (v.conns k) (wires k) p.conn p.wire p.is p.there (p.shown.pipes.each k)

  works : is_apart d.client.phase ≡ false
  works = ap is_apart (p.shown.client.phase k p.conn p.here p.is) ∙ never_apart who (logins k) p.conn.client

  number : (position : ℕ) → d.here ≡ Some position → k ≡ position + 1
  number position at = let had = p.shown.client.here k p.here in had.1 ∙ ap (λ n. n + 1) (same_Some had.0 position (sym had.2 ∙ at))

  enters : (position : ℕ) → d.here ≡ Some position → Enters (position + 1) heard
  enters position at = subst (λ n. Enters n heard) (number position at) (heard_enters k (handed_down p.wire) wires)

  -- the stanza is handled
  handled_course : (o : Own ItemOut) (s : SessionView ItemOut) (e : Elem) → v.own ≡ Some o → p.conn.client ≡ InOnline o.number → IsOwn o s → z ≡ Whole e → Course who logins d v heard (handles in_items (silent_client_step d.client) s e)
  handled_course o s e own client old whole =
      record {
        moves = ReadsStanza k z ∷ [];
        next = next;
        leads = (next, record { conn = p.conn; here = p.here; is = p.is; rest = p.rest; first = p.first; own = o; is_own = own; client = client; gives = refl }, refl);
        does = ap (λ i. Reads i ∷ []) whole;
        prompt = (tt, tt);
        client =
            client_works who logins d v p.shown.client next k after (handles in_items (silent_client_step d.client) s e).client p.here refl (at_same k after v.conns) refl p.shown.client.epoch (counted_own o s old)
            (p.shown.client.phase k p.conn p.here p.is);
        pipes =
            shown_at who logins wires (heard []) v next k after (put_up [] (handed_down p.wire)) p.shown.pipes (λ j. refl) (at_same k (put_up [] (handed_down p.wire)) wires)
            (λ j other. at_other k (put_up [] (handed_down p.wire)) wires j other)
            (wire_heard who (logins k) k p.conn p.wire wire (Down (St z)) p.rest [] p.conn.client p.first refl (All-nil IsForServer));
        server = same_server v next k p.conn after p.is (λ j. refl) refl refl (known_altered _ v) refl refl refl;
      }
    where
      after : Conn ItemOut
      after = record p.conn { wires = send_up [] (left_down p.rest p.conn.wires) }

      next : View ItemOut
      next = record v {
        conns = with_at k after v.conns;
        own = Some (record o { handled = o.handled + 1 });
        sessions = alter (λ q t. read_if (has (Some o.number) q) z (down_stanzas p.rest) t) v.sessions;
      }

  -- the client works on
  working : (u : T) → is_apart u.client.phase ≡ false → Course who logins d v heard u → HearingFollows who logins d wires v k p.wire u
  working u stands course =
      subst (λ b. ClientFollows who logins (record { client = u.client; here = here_after b d.here }) (with_at k (left_where b (put_up u.out.put (handed_down p.wire))) wires) v (noted u.out.notes))
      (sym stands) course

  -- or leaves
  leaving : (t u : T) → is_apart t.client.phase ≡ false → Course who logins d v heard t → IsGone t u → HearingFollows who logins d wires v k p.wire u
  leaving t u stands course g =
      subst (λ b. ClientFollows who logins (record { client = u.client; here = here_after b d.here }) (with_at k (left_where b (put_up u.out.put (handed_down p.wire))) wires) v (noted u.out.notes))
      (sym (ap is_apart g.phase)) (by course.next.here refl)
    where
      none_left : (w : ItemWire) → heard t.out.put k ≡ Some w → with_at k (left (put_up u.out.put (handed_down p.wire))) wires k ≡ Some (left w)
      none_left w is =
          at_same k (left (put_up u.out.put (handed_down p.wire))) wires ∙ ap (λ put. Some (left (put_up put (handed_down p.wire)))) g.put
          ∙ ap (λ x. Some (left x)) (some_one (heard t.out.put k) (put_up t.out.put (handed_down p.wire)) w (at_same k (put_up t.out.put (handed_down p.wire)) wires) is)

      others : (j : ℕ) → k ≢ j → with_at k (left (put_up u.out.put (handed_down p.wire))) wires j ≡ heard t.out.put j
      others j other = at_other k (left (put_up u.out.put (handed_down p.wire))) wires j other ∙ sym (at_other k (put_up t.out.put (handed_down p.wire)) wires j other)

      by : (o : Option ℕ) → course.next.here ≡ o → ClientFollows who logins (record { client = u.client; here = None }) (with_at k (left (put_up u.out.put (handed_down p.wire))) wires) v (noted u.out.notes)
      by None none = let both = sym stands ∙ course.client.apart ∙ ap is_none none in absurd (let no_way : ⊥ = cc in no_way)
      by (Some j) at =
          let had = course.client.here j at in
          let same : j ≡ k = had.1 ∙ sym (number had.0 had.2) in
          left_course who logins d v heard kept enters t u course g k (at ∙ ap Some same) (with_at k (left (put_up u.out.put (handed_down p.wire))) wires) none_left others

  pub stanza_read : IsClientWithin d.client → IsItemAnswerable (read_of z) → IsRead who logins d wires v k p.conn p.wire (Down (St z))
  stanza_read within answers =
      let expected = expected_down v k p.conn (Down (St z)) p.rest kept p.here p.is p.first in
      let held = own_session who logins d v expected.0 p.shown.client expected.1 in
      let good = All-head IsForClient z (down_stanzas p.rest) (subst (λ ds. All IsForClient (down_stanzas ds)) p.first wire.for_client) in
      let online = p.shown.client.phase k p.conn p.here p.is ∙ ap (client_phase who (logins k)) expected.2 in
      by expected.0 held.0 good.elem expected.1 expected.2 held.1 held.2 good.whole good.stanza online
    where
      by : (o : Own ItemOut) (s : SessionView ItemOut) (e : Elem) → v.own ≡ Some o → p.conn.client ≡ InOnline o.number → d.client.session ≡ Some s → IsOwn o s → z ≡ Whole e → is_stanza e ≡ true → d.client.phase ≡ phase.Online
          → IsRead who logins d wires v k p.conn p.wire (Down (St z))
      by o s e own client stands old whole stanza online =
          subst (HearingFollows who logins d wires v k p.wire)
          (sym (ap (λ i. item_step in_items (silent_client_step d.client) (read_of i)) whole ∙ stanza_step (silent_client_step d.client) s e online stands stanza (plain_stanza e stanza)))
          (finish (stanza_row in_items first (stanza_of e)) (stanza_outcome first (stanza_of e) within.log (subst (λ i. IsItemAnswerable (read_of i)) whole answers).request))
        where
          first : T
          first = handles in_items (silent_client_step d.client) s e

          course : Course who logins d v heard first
          course = handled_course o s e own client old whole

          finish : (u : T) → Outcome first u → HearingFollows who logins d wires v k p.wire u
          finish u (stays q) = working u (ap is_apart q.phase ∙ works) (quiet_course who logins d v heard first u q course)
          finish u (says m) = working u (ap is_apart m.queued.phase ∙ works) (said_course who logins d v heard kept enters first u m course)
          finish u (leaves g) = leaving first u works course g

-- ---- calls of the user

module _ (who : Identity) (logins : ℕ → Login) (d : ItemDevice) (wires : Table ItemWire) (v : View ItemOut) (shown : IsRepresentedHere who logins d wires v) where
  abbrev spoken : List ItemOut → Table ItemWire
  spoken put = where_here d.here (put_up put) wires

  silent_course : Course who logins d v spoken (silent_client_step d.client)
  silent_course = record {
    moves = [];
    next = v;
    leads = refl;
    does = refl;
    prompt = tt;
    client = shown.client;
    pipes = record { each = λ k. subst (IsShown who (logins k) k (v.conns k)) (sym (silent_here d.here wires k)) (shown.pipes.each k) };
    server = server_stays v;
  }

  said_follows : (u : T) → IsSaid (silent_client_step d.client) u → SpeakingFollows who logins d wires v u
  said_follows u m = said_course who logins d v spoken (link_kept v shown.reached) (spoken_enters d.here wires) (silent_client_step d.client) u m silent_course

  pub submission_follows : (to text : List ℕ) (private : Bool) (n : ℕ) → IsClientWithin d.client → IsBareAddress to → IsTextWithin most_text text → say_answer d.client text ≡ Ok n
      → SpeakingFollows who logins d wires v (says_client_step in_items (silent_client_step d.client) to text private)
  submission_follows to text private n within to_good text_good answer =
      said_follows (says_client_step in_items (silent_client_step d.client) to text private)
      (says_said (silent_client_step d.client) to text private n answer
      (submission_for_server d.client.account.resource to text d.client.epoch (next_number d.client.n) private within.account.resource within.epoch (next_low d.client.n) to_good text_good))

  pub catch_up_follows : (most : ℕ) → IsClientWithin d.client → most < 2 ^ 32 → catch_up_answer d.client ≡ Ok tt → SpeakingFollows who logins d wires v (catches_up in_items (silent_client_step d.client) most)
  catch_up_follows most within small answer =
      said_follows (catches_up in_items (silent_client_step d.client) most) (catches_up_said (silent_client_step d.client) most answer within.log.entries small)
