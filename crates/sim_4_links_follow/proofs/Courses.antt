-- A turn of a client, part by part, is moves of the links.
use Rattle.std.proofs.Common.{◌≡◌, ◌≢◌, ◌⊎◌, ℕ, ◌+◌, ◌≤◌, ◌==◌, Bool, true, false, List, [], ◌∷◌, ◌++◌, Option, Some, None, length, is_none, refl, sym, ap, subst, ◌∙◌, arith, append-nil, append_assoc, inl, inr, if◌then◌else◌}
use Rattle.std.proofs.lemmas.Bool.{cases_Bool}
use Rattle.std.proofs.lemmas.Bool.Decides.{nat_tests}
use Rattle.std.proofs.lemmas.List.{length_push}
use Rattle.std.proofs.lemmas.List.Elements.{All-append, All-cons, All-nil}
use Rattle.sim_4_links_follow.proofs.Hearing.{wire_left, wire_said}
use Rattle.sim_4_links_follow.proofs.Stays.{keeps_server, same_servers}
use Rattle.sim_4_links_follow.proofs.Working.{client_leaves, client_works, same_server}
use Rattle.cl_handlers.specs.Clients.{ClientView}
use Rattle.cl_handlers.specs.Speech.{Note, Put}
use Rattle.cl_handlers.specs.ClientSteps.{is_apart, is_online}
use Rattle.cl_handlers.specs.declared.phase.Phase.TheVariants as phase
use Rattle.sim_4_links_follow.proofs.Outcomes.{IsGone, IsQueued, IsQuiet, IsSaid, T, said_put}
use Rattle.sim_3_items.specs.Clients.{ClientFollows, ClientRepresents, IsOwn, IsOwnRepresented, client_phase}
use Rattle.sim_3_items.specs.Counted.{IsForServer}
use Rattle.sim_3_items.specs.Labels.{ArePrompt, IsAskedAt, Says, awaits, label_of, labels_of}
use Rattle.sim_3_items.specs.Frames.{SameServer}
use Rattle.sim_3_items.specs.Identities.{Identity, Login}
use Rattle.sim_3_items.specs.Pipes.{IsShown, IsWire, PipesRepresent}
use Rattle.sim_3_items.specs.Reading.{noted, noted_by}
use Rattle.sim_3_items.specs.ItemPipes.{ItemWire, left, put_up}
use Rattle.sim_3_items.specs.ItemWorlds.{ItemDevice}
use Rattle.sim_2_links.proofs.CutLinks.{cut_conn, some_one}
use Rattle.sim_2_links.proofs.Entries.{at_same, is_has}
use Rattle.sim_2_links.proofs.Heard.{runs_down}
use Rattle.sim_2_links.proofs.Reached.{kept_along}
use Rattle.sim_2_links.proofs.Tables.{cut_down_words, cut_stops}
use Rattle.sim_2_links.specs.LinkMoves.{ways_cut}
use Rattle.sim_2_links.specs.Links.{FitsOwn, LinkKept}
use Rattle.sim_2_links.specs.Machine.{Cuts, LetsGo, LinkMove, LinkReaches, Puts, Queues, Requests}
use Rattle.sim_2_links.specs.PutMoves.{is_online as is_client_online}
use Rattle.sim_2_links.specs.SessionMoves.{put_if}
use Rattle.sim_2_links.specs.Stages.{Conn}
use Rattle.sim_2_links.specs.Views.{Own, Table, View, alter, has, with_at}
use Rattle.sim_2_links.specs.Wires.{send_up, up_words}
use Rattle.sim_2_links.specs.Words.{Client, InAuth, InBind, InEnable, InFeatures1, InFeatures2, InHeader1, InHeader2, InOnline, InResponse, InResume, Req, St, Up}
use Rattle.sm_outbox.specs.Sessions.{SessionView}
use Rattle.sm_outbox.specs.Waiting.{is_full}
use Rattle.im_replies.specs.Management.{request_item}
use Rattle.sim_4_links_follow.proofs.MoreMoves.{labels_both, then_reaches}
use Rattle.sim_4_links_follow.proofs.Placed.{shown_at}
use Rattle.sim_4_links_follow.proofs.PromptMoves.{prompt_both}
use Rattle.sim_4_links_follow.proofs.Servings.{known_altered, known_same}
use Rattle.xml_writer.specs.Items.{ItemOut}
use Rattle.law_client.proofs.StepsOrdered.{apart_offline}

-- ---- notes, one behind the other

pub noted_on : (ns more : List (Note ItemOut)) → noted (ns ++ more) ≡ noted ns ++ noted more
noted_on [] more = refl
noted_on (one ∷ ns) more = ap (λ l. noted_by one ++ l) (noted_on ns more) ∙ sym (append_assoc (noted_by one) (noted ns) (noted more))

-- ---- what the server has is left

pub server_stays : (v : View ItemOut) → SameServer v v
server_stays v = record { row = refl; free = refl; known = known_same v; conns = λ k. keeps_server (v.conns k) }

-- ---- whether the client is online

same_online : (who : Identity) (x : Login) (c : Client) → is_online (client_phase who x c) ≡ is_client_online c
same_online who x InHeader1 = refl
same_online who x InFeatures1 = refl
same_online who x InAuth = refl
same_online who x InResponse = refl
same_online who x InHeader2 = refl
same_online who x InFeatures2 = refl
same_online who x (InResume p) = refl
same_online who x InBind = refl
same_online who x InEnable = refl
same_online who x (InOnline p) = refl

online_with : (c : Client) → is_client_online c ≡ true → (p : ℕ) × (c ≡ InOnline p)
online_with (InOnline p) e = (p, refl)
online_with InHeader1 e = absurd (let no_way : ⊥ = cc in no_way)
online_with InFeatures1 e = absurd (let no_way : ⊥ = cc in no_way)
online_with InAuth e = absurd (let no_way : ⊥ = cc in no_way)
online_with InResponse e = absurd (let no_way : ⊥ = cc in no_way)
online_with InHeader2 e = absurd (let no_way : ⊥ = cc in no_way)
online_with InFeatures2 e = absurd (let no_way : ⊥ = cc in no_way)
online_with (InResume p) e = absurd (let no_way : ⊥ = cc in no_way)
online_with InBind e = absurd (let no_way : ⊥ = cc in no_way)
online_with InEnable e = absurd (let no_way : ⊥ = cc in no_way)

pub record IsOnlineHere (v : View ItemOut) : Type 0 where
  pub k : ℕ
  pub p : ℕ
  pub conn : Conn ItemOut
  pub here : v.here ≡ Some k
  pub is : v.conns k ≡ Some conn
  pub online : conn.client ≡ InOnline p

-- then it is so with the session that it has
online_own : (v : View ItemOut) (k p : ℕ) (c : Conn ItemOut) (o : Own ItemOut) → LinkKept v → v.here ≡ Some k → v.conns k ≡ Some c → c.client ≡ InOnline p → v.own ≡ Some o → c.client ≡ InOnline o.number
online_own v k p c o kept here is client own =
    let old = kept.conns k c is in
    let run = runs_down old.stage p (sym old.at.client ∙ client) in
    let fits = subst (FitsOwn v.own v.epoch v.sessions) run.is (old.fits (is_has v.here k here)) in
    client ∙ ap InOnline (sym fits.2) ∙ ap (λ (w : Own ItemOut). InOnline w.number) (some_one v.own fits.0 o fits.1 own)

-- ---- the session

abbrev pub Owns : Option (Own ItemOut) → SessionView ItemOut → Type 0
Owns o s = (w : Own ItemOut) × (o ≡ Some w) × IsOwn w s

pub own_shown : (o : Option (Own ItemOut)) (p : Option (SessionView ItemOut)) (s : SessionView ItemOut) → p ≡ Some s → IsOwnRepresented o p → Owns o s
own_shown None None s is shown = absurd (let no_way : ⊥ = cc in no_way)
own_shown None (Some q) s is shown = absurd shown
own_shown (Some w) None s is shown = absurd shown
own_shown (Some w) (Some q) s is shown = let same : q ≡ s = cc in (w, refl, subst (IsOwn w) same shown)

room : (n : ℕ) → n ≤ 10000 → (n == 10000) ≡ false → n + 1 ≤ 10000
room n few position = grind (arith, nat_tests)

queued_own : (t u : T) (s : SessionView ItemOut) (z : ItemOut) (o : Own ItemOut) → IsOwn o s → is_full s.waiting ≡ false → IsForServer z → (q : IsQueued t u s z) → IsOwn (record o { queue = o.queue ++ z ∷ [] }) q.session
queued_own t u s z o old position good q = record {
  previd = q.previd ∙ old.previd;
  acked = q.acked ∙ old.acked;
  handled = q.handled ∙ old.handled;
  queue = q.queue ∙ ap (λ l. l ++ z ∷ []) old.queue;
  for_server = All-append IsForServer o.queue (z ∷ []) old.for_server (All-cons IsForServer z [] good (All-nil IsForServer));
  few =
      subst (λ n. n ≤ 10000) (sym (length_push o.queue z))
      (room (length o.queue) old.few (subst (λ (l : List ItemOut). (length l == 10000) ≡ false) old.queue position));
}

-- ---- pipes

-- what is put enters the pipe up of the connection with this number, and of no other
pub record Enters (k : ℕ) (table : List ItemOut → Table ItemWire) : Type 0 where
  pub here : (put more : List ItemOut) (w : ItemWire) → table put k ≡ Some w → table (put ++ more) k ≡ Some (put_up more w)
  pub apart : (put more : List ItemOut) (j : ℕ) → k ≢ j → table (put ++ more) j ≡ table put j

-- a connection of the device is there
pub wire_of : (who : Identity) (x : Login) (k : ℕ) (o : Option (Conn ItemOut)) (m : Option ItemWire) (c : Conn ItemOut) → o ≡ Some c → IsShown who x k o m → (w : ItemWire) × (m ≡ Some w) × IsWire who x k c w
wire_of who x k None m c is shown = absurd (let no_way : ⊥ = cc in no_way)
wire_of who x k (Some b) None c is shown = absurd shown
wire_of who x k (Some b) (Some w) c is shown = let same : b ≡ c = cc in (w, refl, subst (λ a. IsWire who x k a w) same shown)

-- ---- a turn

-- a stanza has gone out on this connection, on which the client is online: moves lead so far, and a request that is put at
-- once makes them prompt
pub record IsOut (who : Identity) (logins : ℕ → Login) (d : ItemDevice) (v : View ItemOut) (table : List ItemOut → Table ItemWire) (z : ItemOut) (k : ℕ) (t : T) : Type 0 where
  pub moves : List (LinkMove ItemOut)
  pub next : View ItemOut
  pub leads : LinkReaches moves v next
  pub does : labels_of moves ≡ noted t.out.notes
  pub client : ClientRepresents who logins (record d { client = t.client }) next
  pub pipes : PipesRepresent who logins (table t.out.put) next
  pub server : SameServer v next
  pub p : ℕ
  pub conn : Conn ItemOut
  pub here : next.here ≡ Some k
  pub is : next.conns k ≡ Some conn
  pub online : conn.client ≡ InOnline p
  pub following : (more : List (LinkMove ItemOut)) → (awaits z ≡ false) ⊎ IsAskedAt k more → ArePrompt more → ArePrompt (moves ++ more)

module _ (who : Identity) (logins : ℕ → Login) (d : ItemDevice) (v : View ItemOut) (table : List ItemOut → Table ItemWire) where
  -- so far moves lead to a view that shows the device with this turn's client, and with what it put in the pipes
  abbrev pub Course : T → Type 0
  Course t = ClientFollows who logins (record d { client = t.client }) (table t.out.put) v (noted t.out.notes)

  -- what changes nothing that the links have
  pub quiet_course : (t u : T) → IsQuiet t u → Course t → Course u
  quiet_course t u q c = record {
    moves = c.moves;
    next = c.next;
    leads = c.leads;
    does = c.does ∙ ap noted (sym q.notes);
    prompt = c.prompt;
    client = record {
      account = q.account ∙ c.client.account;
      epoch = q.epoch ∙ c.client.epoch;
      own = subst (IsOwnRepresented c.next.own) (sym q.session) c.client.own;
      apart = ap is_apart q.phase ∙ c.client.apart;
      here = c.client.here;
      has = c.client.has;
      phase = λ k conn at is. q.phase ∙ c.client.phase k conn at is;
    };
    pipes = subst (λ put. PipesRepresent who logins (table put) c.next) (sym q.put) c.pipes;
    server = c.server;
  }

  module _ (kept : LinkKept v) (enters : (position : ℕ) → d.here ≡ Some position → Enters (position + 1) table) where
    kept_so : (t : T) (c : Course t) → LinkKept c.next
    kept_so t c = kept_along c.moves v c.next kept c.leads

    -- the pipes of the connection that the client works on take what is put
    enters_at : (a : ClientView ItemOut) (next : View ItemOut) → ClientRepresents who logins (record d { client = a }) next → (k : ℕ) → next.here ≡ Some k → Enters k table
    enters_at a next represents k at = let had = represents.here k at in subst (λ n. Enters n table) (sym had.1) (enters had.0 had.2)

    -- the connection on which it is online
    works_online : (t : T) (c : Course t) → is_online t.client.phase ≡ true → IsOnlineHere c.next
    works_online t c on = by c.next.here refl
      where
        by : (o : Option ℕ) → c.next.here ≡ o → IsOnlineHere c.next
        by None none =
            let apart : is_apart t.client.phase ≡ true = c.client.apart ∙ ap is_none none in
            let off = apart_offline t.client.phase apart in
            absurd (let no_way : ⊥ = cc in no_way)
        by (Some k) at =
            let there = (kept_so t c).there k at in
            let so = online_with there.0.client (sym (same_online who (logins k) there.0.client) ∙ ap is_online (sym (c.client.phase k there.0 at there.1)) ∙ on) in
            record { k = k; p = so.0; conn = there.0; here = at; is = there.1; online = so.1 }

    -- and no connection is one where it isn't
    away : (t : T) (c : Course t) → is_online t.client.phase ≡ false → (k : ℕ) (conn : Conn ItemOut) → c.next.here ≡ Some k → c.next.conns k ≡ Some conn → is_client_online conn.client ≡ false
    away t c off k conn at is = sym (same_online who (logins k) conn.client) ∙ ap is_online (sym (c.client.phase k conn at is)) ∙ off

    -- the labels with one stanza more
    more_said : (t u : T) (c : Course t) (z : ItemOut) (move : LinkMove ItemOut) → label_of move ≡ Says z ∷ [] → u.out.notes ≡ t.out.notes ++ Put z ∷ [] → labels_of (c.moves ++ move ∷ []) ≡ noted u.out.notes
    more_said t u c z move label notes =
        labels_both c.moves (move ∷ []) ∙ (λ i. c.does i ++ (label i ++ [])) ∙ sym (noted_on t.out.notes (Put z ∷ [])) ∙ ap noted (sym notes)

    -- ---- a stanza is put where the client isn't online: it waits

    queue_course : (t u : T) (c : Course t) (s : SessionView ItemOut) (z : ItemOut) → t.client.session ≡ Some s → is_full s.waiting ≡ false → IsForServer z → IsQueued t u s z → u.out.put ≡ t.out.put
        → ((k : ℕ) (conn : Conn ItemOut) → c.next.here ≡ Some k → c.next.conns k ≡ Some conn → is_client_online conn.client ≡ false) → Course u
    queue_course t u c s z stands position good q put away =
        record {
          moves = c.moves ++ Queues z ∷ [];
          next = next;
          leads = then_reaches c.moves (Queues z ∷ []) v c.next next c.leads (next, record { own = o.0; is_own = o.1; away = away; gives = refl }, refl);
          does = more_said t u c z (Queues z) refl q.notes;
          prompt = prompt_both c.moves (Queues z ∷ []) c.prompt (tt, tt);
          client = record {
            account = q.account ∙ c.client.account;
            epoch = q.epoch ∙ c.client.epoch;
            own = subst (IsOwnRepresented next.own) (sym q.is) (queued_own t u s z o.0 o.2 position good q);
            apart = ap is_apart q.phase ∙ c.client.apart;
            here = c.client.here;
            has = c.client.has;
            phase = λ k conn at is. q.phase ∙ c.client.phase k conn at is;
          };
          pipes = subst (λ items. PipesRepresent who logins (table items) next) (sym put) (record { each = c.pipes.each });
          server = same_servers v c.next next c.server (record { row = refl; free = refl; known = known_altered _ c.next; conns = λ k. keeps_server (c.next.conns k) });
        }
      where
        o : Owns c.next.own s
        o = own_shown c.next.own t.client.session s stands c.client.own

        next : View ItemOut
        next = record c.next {
          own = Some (record o.0 { queue = o.0.queue ++ z ∷ [] });
          sessions = alter (λ q s. record s { up = put_if (has (Some o.0.number) q) z s.up }) c.next.sessions;
        }

    -- ---- and where it is online: it goes out

    put_course : (t u : T) (c : Course t) (s : SessionView ItemOut) (z : ItemOut) → t.client.session ≡ Some s → is_full s.waiting ≡ false → IsForServer z → IsQueued t u s z → u.out.put ≡ t.out.put ++ z ∷ []
        → (k p : ℕ) (conn : Conn ItemOut) → c.next.here ≡ Some k → c.next.conns k ≡ Some conn → conn.client ≡ InOnline p → IsOut who logins d v table z k u
    put_course t u c s z stands position good q put k p conn at is online =
        record {
          moves = c.moves ++ Puts k z ∷ [];
          next = next;
          leads =
              then_reaches c.moves (Puts k z ∷ []) v c.next next c.leads
              (next, record { conn = conn; here = at; is = is; own = o.0; is_own = o.1; client = online_own c.next k p conn o.0 (kept_so t c) at is online o.1; gives = refl }, refl);
          does = more_said t u c z (Puts k z) refl q.notes;
          client =
              client_works who logins (record d { client = t.client }) c.next c.client next k after u.client at refl (at_same k after c.next.conns) q.account (q.epoch ∙ c.client.epoch)
              (subst (IsOwnRepresented next.own) (sym q.is) (queued_own t u s z o.0 o.2 position good q)) (q.phase ∙ c.client.phase k conn at is);
          pipes =
              let w = wire_of who (logins k) k (c.next.conns k) (table t.out.put k) conn is (c.pipes.each k) in
              subst (λ items. PipesRepresent who logins (table items) next) (sym put)
              (shown_at who logins (table t.out.put) (table (t.out.put ++ z ∷ [])) c.next next k after (put_up (z ∷ []) w.0) c.pipes (λ j. refl) (way.here t.out.put (z ∷ []) w.0 w.1) (way.apart t.out.put (z ∷ []))
              (wire_said who (logins k) k conn w.0 w.2 (Up (St z) ∷ []) (All-cons IsForServer z [] good (All-nil IsForServer))));
          server = same_servers v c.next next c.server (same_server c.next next k conn after is (λ j. refl) refl refl (known_altered _ c.next) refl refl refl);
          p = p;
          conn = after;
          here = at;
          is = at_same k after c.next.conns;
          online = online;
          following = λ more asked rest. subst ArePrompt (sym (append_assoc c.moves (Puts k z ∷ []) more)) (prompt_both c.moves (Puts k z ∷ more) c.prompt (asked, rest));
        }
      where
        o : Owns c.next.own s
        o = own_shown c.next.own t.client.session s stands c.client.own

        way : Enters k table
        way = enters_at t.client c.next c.client k at

        after : Conn ItemOut
        after = record conn { wires = send_up (Up (St z) ∷ []) conn.wires }

        next : View ItemOut
        next = record c.next {
          conns = with_at k after c.next.conns;
          own = Some (record o.0 { queue = o.0.queue ++ z ∷ [] });
          sessions = alter (λ q s. record s { up = put_if (has (Some o.0.number) q) z s.up }) c.next.sessions;
        }

    -- ---- a request behind it

    ask_course : (t u : T) (s : SessionView ItemOut) (z : ItemOut) (k : ℕ) (c : IsOut who logins d v table z k t) → t.client.session ≡ Some s → u.client ≡ t.client → u.out.notes ≡ t.out.notes → u.out.put ≡ t.out.put ++ request_item ∷ [] → Course u
    ask_course t u s z k c stands same notes put =
        record {
          moves = c.moves ++ Requests k ∷ [];
          next = next;
          leads =
              then_reaches c.moves (Requests k ∷ []) v c.next next c.leads
              (next, record { conn = c.conn; here = c.here; is = c.is; own = o.0; is_own = o.1; client = online_own c.next k c.p c.conn o.0 (kept_along c.moves v c.next kept c.leads) c.here c.is c.online o.1; gives = refl }, refl);
          does = labels_both c.moves (Requests k ∷ []) ∙ append-nil (labels_of c.moves) ∙ c.does ∙ ap noted (sym notes);
          prompt = c.following (Requests k ∷ []) (inr ([], refl)) (tt, tt);
          client =
              subst (λ a. ClientRepresents who logins (record d { client = a }) next) (sym same)
              (client_works who logins (record d { client = t.client }) c.next c.client next k after t.client c.here refl (at_same k after c.next.conns) refl c.client.epoch c.client.own (c.client.phase k c.conn c.here c.is));
          pipes =
              let w = wire_of who (logins k) k (c.next.conns k) (table t.out.put k) c.conn c.is (c.pipes.each k) in
              subst (λ items. PipesRepresent who logins (table items) next) (sym put)
              (shown_at who logins (table t.out.put) (table (t.out.put ++ request_item ∷ [])) c.next next k after (put_up (request_item ∷ []) w.0) c.pipes (λ j. refl) ((enters_at t.client c.next c.client k c.here).here t.out.put (request_item ∷ []) w.0 w.1)
              ((enters_at t.client c.next c.client k c.here).apart t.out.put (request_item ∷ []))
              (wire_said who (logins k) k c.conn w.0 w.2 (Up Req ∷ []) (All-nil IsForServer)));
          server = same_servers v c.next next c.server (same_server c.next next k c.conn after c.is (λ j. refl) refl refl (known_same c.next) refl refl refl);
        }
      where
        o : Owns c.next.own s
        o = own_shown c.next.own t.client.session s stands c.client.own

        after : Conn ItemOut
        after = record c.conn { wires = send_up (Up Req ∷ []) c.conn.wires }

        next : View ItemOut
        next = record c.next { conns = with_at k after c.next.conns }

    -- ---- or none, where it isn't awaited

    out_course : (t : T) (z : ItemOut) (k : ℕ) → IsOut who logins d v table z k t → awaits z ≡ false → Course t
    out_course t z k c other = record {
      moves = c.moves;
      next = c.next;
      leads = c.leads;
      does = c.does;
      prompt = subst ArePrompt (append-nil c.moves) (c.following [] (inl other) tt);
      client = c.client;
      pipes = c.pipes;
      server = c.server;
    }

    -- ---- a stanza is put, wherever the client stands

    both_course : (t u : T) (c : Course t) (m : IsSaid t u) → is_online t.client.phase ≡ true → (asks : Bool) → m.asks ≡ asks → u.out.put ≡ said_put asks t.out.put m.stanza → Course u
    both_course t u c m on false silent put =
        let at = works_online t c on in
        out_course u m.stanza at.k (put_course t u c m.session m.stanza m.stands m.position m.good m.queued put at.k at.p at.conn at.here at.is at.online) (m.other silent)
    both_course t u c m on true asks put =
        let at = works_online t c on in
        let said : IsOut who logins d v table m.stanza at.k middle = put_course t middle c m.session m.stanza m.stands m.position m.good queued refl at.k at.p at.conn at.here at.is at.online in
        ask_course middle u m.queued.session m.stanza at.k said m.queued.is refl refl put
      where
        middle : T
        middle = record u { out = record u.out { put = t.out.put ++ m.stanza ∷ [] } }

        queued : IsQueued t middle m.session m.stanza
        queued = record {
          account = m.queued.account;
          epoch = m.queued.epoch;
          phase = m.queued.phase;
          session = m.queued.session;
          is = m.queued.is;
          previd = m.queued.previd;
          acked = m.queued.acked;
          handled = m.queued.handled;
          queue = m.queued.queue;
          notes = m.queued.notes;
        }

    pub said_course : (t u : T) → IsSaid t u → Course t → Course u
    said_course t u m c =
        elim (cases_Bool (is_online t.client.phase)) [
          | inl on ↦ both_course t u c m on m.asks refl (m.put ∙ ap (λ b. if b then said_put m.asks t.out.put m.stanza else t.out.put) on)
          | inr off ↦ queue_course t u c m.session m.stanza m.stands m.position m.good m.queued (m.put ∙ ap (λ b. if b then said_put m.asks t.out.put m.stanza else t.out.put) off) (away t c off)
        ]

    -- ---- the connection is left: what is on its way up stays, and all on its way down is lost

    pub left_course : (t u : T) (c : Course t) → IsGone t u → (k : ℕ) → c.next.here ≡ Some k → (after : Table ItemWire) → ((w : ItemWire) → table t.out.put k ≡ Some w → after k ≡ Some (left w)) → ((j : ℕ) → k ≢ j → after j ≡ table t.out.put j)
        → ClientFollows who logins (record { client = u.client; here = None }) after v (noted u.out.notes)
    left_course t u c g k at after here others =
        record {
          moves = c.moves ++ Cuts k (length (up_words conn.wires)) 0 ∷ LetsGo k ∷ [];
          next = next;
          leads =
              then_reaches c.moves (Cuts k (length (up_words conn.wires)) 0 ∷ LetsGo k ∷ []) v c.next next c.leads (
                cut,
                record { conn = conn; is = is; gives = refl },
                (
                  next,
                  record {
                    conn = ended;
                    here = at;
                    is = at_same k ended c.next.conns;
                    ended = cut_stops (length (up_words conn.wires)) 0 conn.wires;
                    empty = cut_down_words (length (up_words conn.wires)) 0 conn.wires;
                    gives = refl;
                  },
                  refl,
                ),
              );
          prompt = prompt_both c.moves (Cuts k (length (up_words conn.wires)) 0 ∷ LetsGo k ∷ []) c.prompt (tt, (tt, tt));
          does = labels_both c.moves (Cuts k (length (up_words conn.wires)) 0 ∷ LetsGo k ∷ []) ∙ append-nil (labels_of c.moves) ∙ c.does ∙ ap noted (sym g.notes);
          client =
              client_leaves who logins (record d { client = t.client }) c.next c.client next u.client refl g.account (g.epoch ∙ c.client.epoch) (subst (IsOwnRepresented c.next.own) (sym g.session) c.client.own) (ap is_apart g.phase);
          pipes =
              let w = wire_of who (logins k) k (c.next.conns k) (table t.out.put k) conn is (c.pipes.each k) in
              shown_at who logins (table t.out.put) after c.next next k ended (left w.0) c.pipes (λ j. refl) (here w.0 w.1) others
              (wire_left who (logins k) k conn w.0 w.2);
          server =
              same_servers v c.next next c.server
              (same_server c.next next k conn ended is (λ j. refl) refl refl (known_altered (ways_cut (has c.next.here k) conn (length (up_words conn.wires)) 0) c.next) refl refl refl);
        }
      where
        there : (e : Conn ItemOut) × (c.next.conns k ≡ Some e)
        there = (kept_so t c).there k at

        conn : Conn ItemOut
        conn = there.0

        is : c.next.conns k ≡ Some conn
        is = there.1

        ended : Conn ItemOut
        ended = cut_conn (length (up_words conn.wires)) 0 conn

        cut : View ItemOut
        cut = record c.next { conns = with_at k ended c.next.conns; sessions = alter (ways_cut (has c.next.here k) conn (length (up_words conn.wires)) 0) c.next.sessions }

        next : View ItemOut
        next = record cut { here = None }
