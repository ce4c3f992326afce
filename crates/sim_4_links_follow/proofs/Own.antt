-- A stanza goes to the session of the device, which is counted: it waits there, and goes out where the session is
-- attached; or the session ends, since as many wait as may (XEP-0198, section 4).
use Rattle.std.proofs.Common.{◌≡◌, ℕ, ◌≤◌, ◌==◌, Bool, true, false, not, ◌&&◌, List, [], ◌∷◌, ◌++◌, Option, Some, None, cond, length, refl, sym, ap, subst, ◌∙◌, inl, inr}
use Rattle.std.proofs.lemmas.Bool.{cases_Bool, eq-eqb}
use Rattle.std.proofs.lemmas.List.{append_assoc}
use Rattle.std.proofs.lemmas.List.Elements.{All-cons, All-nil, All-push}
use Rattle.std.proofs.lemmas.Option.{same_Some}
use Rattle.std.specs.List.{filter}
use Rattle.std.specs.Option.{option_map}
use Rattle.sm_acks.specs.declared.end.TheConstants.{MOST_UNACKNOWLEDGED}
use Rattle.srv_state.specs.State.{Out, Put, ServerState, Shut, Step, with_sessions, without_conn}
use Rattle.srv_state.specs.Steps.{Act, Send, act, ask_where, in_sessions, is_due, overflow, part_where, put, put_where, queue, send_by_info}
use Rattle.sim_3_items.specs.Counted.{IsForClient}
use Rattle.sim_3_items.specs.Labels.{gives_all}
use Rattle.sim_3_items.specs.Frames.{KeepsClient}
use Rattle.sim_3_items.specs.Identities.{Identity, Login}
use Rattle.sim_3_items.specs.Pipes.{PipesRepresent}
use Rattle.sim_3_items.specs.Sent.{sent}
use Rattle.sim_3_items.specs.Servers.{IsRow, IsRowRepresented, ServerFollows, ServerRepresents}
use Rattle.sim_3_items.specs.ItemPipes.{ItemWire}
use Rattle.sim_3_items.specs.ItemWorlds.{itself}
use Rattle.sim_2_links.proofs.Entries.{at_same}
use Rattle.sim_2_links.proofs.Prompt.{same_flow_down}
use Rattle.sim_2_links.specs.Links.{IsPlaced, LinkKept}
use Rattle.sim_2_links.specs.Machine.{Demands, Detaches, EndsRow, Keeps, Serves}
use Rattle.sim_2_links.specs.SessionMoves.{lost_if, put_if, shut as shut_conn}
use Rattle.sim_2_links.specs.Stages.{Conn, Errs, tail_of}
use Rattle.sim_2_links.specs.Views.{Row, Table, View, alter, carries, has, session_on, with_at}
use Rattle.sim_2_links.specs.Views as links
use Rattle.sim_2_links.specs.Wires.{send_down}
use Rattle.sim_2_links.specs.Words.{Constraint, Down, Req, St}
use Rattle.sm_live.specs.Sessions.{Session, asks, is_at, is_named, session_of, told, waits, with_session, without}
use Rattle.im_replies.specs.Management.{request_item}
use Rattle.im_replies.specs.Streams.{error_item}
use Rattle.im_replies.specs.declared.conditions.StreamCondition.TheVariants as stream
use Rattle.sim_4_links_follow.proofs.Former.{keeps_both}
use Rattle.sim_4_links_follow.proofs.Leavings.{left_represents, left_server_state}
use Rattle.sim_3_images.proofs.RuleKept.{named_gone, numbered_here}
use Rattle.sim_4_links_follow.proofs.SessionRows.{asked_row, asks_keeps}
use Rattle.sim_4_links_follow.proofs.Shuts.{shuts_at}
use Rattle.sim_4_links_follow.proofs.StanzasElsewhere.{one_more, waits_keeps}
use Rattle.sim_4_links_follow.proofs.GivenParts.{IsKeptRow, given_all, given_short, row_ended, sends_here}
use Rattle.sim_4_links_follow.proofs.MorePipes.{more_put_out, put_here, shut_here}
use Rattle.sim_4_links_follow.proofs.Tellings.{PutsOut, Tells, attached_puts, client_begins, joins_ended, joins_one, parked_puts, quiet_more, quiet_puts, quiet_request, quiet_shuts, then_quiet}
use Rattle.sim_4_links_follow.proofs.Thinned.{thinned}
use Rattle.sim_4_links_follow.specs.Given.{IsGiven}
use Rattle.sim_4_links_follow.proofs.Flows.{halted}
use Rattle.sim_4_links_follow.proofs.Placed.{keeps_all, keeps_at}
use Rattle.sim_4_links_follow.proofs.Servings.{IsLive, known_altered, known_same, live_of, row_represents, session_represents}
use Rattle.xml_writer.specs.Items.{Closing, ItemOut}

-- behind small steps the links have moved, and these were given, as what was put out meanwhile tells
pub record Goes (who : Identity) (logins : ℕ → Login) (wires : Table ItemWire) (v : View ItemOut) (acts : List (Act ItemOut)) (first : List (Out ItemOut)) (s : Step ItemOut) : Type 0 where
  pub given : List ItemOut
  pub follows : ServerFollows who logins s.server_state (sent s.outs wires) v (gives_all given)
  pub are_given : IsGiven acts given v.row follows.next.row
  pub kept : IsKeptRow v.row follows.next.row
  pub tells : Tells v given first s.outs follows.next.row

pub twice_left : {A : Type 0} (p q : A → Bool) (xs : List A) → filter p (filter q xs) ≡ filter (λ x. q x && p x) xs
twice_left p q [] = refl
twice_left p q (x ∷ xs) =
    elim (cases_Bool (q x)) [
      | inl left ↦
          elim (cases_Bool (p x)) [
            | inl also ↦ rw (left, also) (ap (λ l. x ∷ l) (twice_left p q xs))
            | inr gone ↦ rw (left, gone) (twice_left p q xs)
          ]
      | inr gone ↦ rw gone (twice_left p q xs)
    ]

none_asked : (n : ℕ) (b : Bool) (s : Step ItemOut) → ask_where itself n None b s ≡ s
none_asked n true s = refl
none_asked n false s = refl

module _ (who : Identity) (logins : ℕ → Login) (wires : Table ItemWire) (v : View ItemOut) (kept : LinkKept v) (s : Step ItemOut) (represents : ServerRepresents who logins s.server_state v) (pipes : PipesRepresent who logins (sent s.outs wires) v) (r : Row ItemOut) (is_row : v.row ≡ Some r)
    (counted : r.counted ≡ true) (z : ItemOut) (stanza : IsForClient z) where
  live : IsLive who s.server_state r
  live = live_of who logins s.server_state v r represents is_row

  abbrev x : Session ItemOut
  x = live.session

  numbered_x : session_of x.shown.number s.server_state.sessions ≡ Some x
  numbered_x = numbered_here (is_named who.account who.resource) s.server_state.next 1 s.server_state.sessions x represents.server_state.sessions.ascending live.named

  numbered : session_of r.number s.server_state.sessions ≡ Some x
  numbered = subst (λ n. session_of n s.server_state.sessions ≡ Some x) live.row.number numbered_x

  few : length r.queue ≤ MOST_UNACKNOWLEDGED
  few = subst (λ q. length q ≤ MOST_UNACKNOWLEDGED) live.row.waiting (represents.server_state.sessions.few x.shown.number x numbered_x)

  -- the step, by whether there is room
  step : act itself (Send r.number z) s ≡ cond (length x.waiting == MOST_UNACKNOWLEDGED) (overflow itself r.number (told x) s) (queue itself r.number z (told x) s)
  step =
      ap (λ o. send_by_info itself r.number z (option_map told o) s) numbered
      ∙ ap (λ b. cond (not b) (put_where x.shown.conn z s) (cond (length x.waiting == MOST_UNACKNOWLEDGED) (overflow itself r.number (told x) s) (queue itself r.number z (told x) s))) (live.row.counted ∙ counted)

  abbrev sends : List (Act ItemOut)
  sends = Send r.number z ∷ []

  abbrev Result : Step ItemOut → Type 0
  Result t = Goes who logins wires v sends s.outs t

  -- ---- there is room

  module _ (room : (length x.waiting == MOST_UNACKNOWLEDGED) ≡ false) where
    abbrev after : Row ItemOut
    after = record r { queue = r.queue ++ z ∷ [] }

    abbrev one_put : ℕ → links.Session ItemOut → links.Session ItemOut
    one_put q u = record u { down = put_if (has (Some r.number) q) z u.down }

    abbrev middle : View ItemOut
    middle = record v { row = Some after; sessions = alter one_put v.sessions }

    abbrev waiting_server_state : ServerState ItemOut
    waiting_server_state = with_sessions (with_session r.number (waits z) s.server_state.sessions) s.server_state

    abbrev waiting : Step ItemOut
    waiting = in_sessions (with_session r.number (waits z)) s

    more_few : length (r.queue ++ z ∷ []) ≤ MOST_UNACKNOWLEDGED
    more_few = one_more r.queue z few (subst (λ q. (length q == MOST_UNACKNOWLEDGED) ≡ false) live.row.waiting room)

    waited_row : (t : Session ItemOut) → IsRow r t → IsRow after (waits z t)
    waited_row t is = record {
      number = is.number;
      conn = is.conn;
      counted = is.counted;
      resumable = is.resumable;
      acked = is.acked;
      handled = is.handled;
      waiting = ap (λ q. q ++ z ∷ []) is.waiting;
      quiet = is.quiet;
      for_client = All-push IsForClient r.queue z is.for_client stanza;
    }

    waits_represents : ServerRepresents who logins waiting_server_state middle
    waits_represents =
        session_represents who logins s.server_state v r after (waits z) (alter one_put v.sessions) (known_altered one_put v) represents is_row (waits_keeps z) waited_row
        (λ t is. subst (λ q. length (q ++ z ∷ []) ≤ MOST_UNACKNOWLEDGED) (sym is.waiting) more_few)

    given_here : IsGiven sends (z ∷ []) v.row (Some after)
    given_here = given_all sends (z ∷ []) v.row r after is_row refl (sym (sends_here r.number z))

    row_here : IsKeptRow v.row (Some after)
    row_here t is = let same : after ≡ t = same_Some after t is in (r, is_row, ap (λ (u : Row ItemOut). u.number) same, ap (λ (u : Row ItemOut). u.counted) same)

    -- where it is parked
    kept_waiting : r.on ≡ None → Result (queue itself r.number z (told x) s)
    kept_waiting off =
        let step_so : queue itself r.number z (told x) s ≡ waiting =
        ap (λ o. ask_where itself r.number o (is_due (told x)) (put_where o z waiting)) (live.row.conn ∙ off) ∙ none_asked r.number (is_due (told x)) waiting in
        subst Result (sym step_so) (record {
          given = z ∷ [];
          follows = record {
            moves = Keeps z ∷ [];
            next = middle;
            leads = (middle, record { row = r; is_row = is_row; off = off; counted = counted; gives = refl }, refl);
            does = refl;
            server = waits_represents;
            pipes = record { each = pipes.each };
            client = record { here = refl; own = refl; epoch = refl; conns = λ k. keeps_all (v.conns k) };
          };
          are_given = given_here;
          kept = row_here;
          tells = record { outs = parked_puts v r (z ∷ []) s.outs is_row off; joins = joins_one v.row r z is_row };
        })

    -- where it is attached
    module _ (k : ℕ) (on : r.on ≡ Some k) (c : Conn ItemOut) (is : v.conns k ≡ Some c) where
      abbrev put_conn : Conn ItemOut
      put_conn = record c { wires = send_down (Down (St z) ∷ []) c.wires }

      abbrev served : View ItemOut
      served = record v { conns = with_at k put_conn v.conns; row = Some after; sessions = alter one_put v.sessions }

      served_represents : ServerRepresents who logins waiting_server_state served
      served_represents = row_represents who logins waiting_server_state middle waits_represents k c is put_conn (Some after) (alter one_put v.sessions) (known_same middle) refl waits_represents.row

      served_pipes : PipesRepresent who logins (sent (s.outs ++ Put k z ∷ []) wires) served
      served_pipes =
          more_put_out who logins wires served s.outs (Put k z ∷ [])
          (put_here who logins (sent s.outs wires) v pipes k c is served (Down (St z) ∷ []) (z ∷ []) refl (All-cons IsForClient z [] stanza (All-nil IsForClient)) refl)

      at_there : served.conns k ≡ Some put_conn
      at_there = at_same k put_conn v.conns

      -- and a request goes out behind it
      abbrev asked_conn : Conn ItemOut
      asked_conn = record put_conn { wires = send_down (Down Req ∷ []) put_conn.wires }

      abbrev asked : View ItemOut
      asked = record served { conns = with_at k asked_conn served.conns }

      abbrev asked_server_state : ServerState ItemOut
      asked_server_state = with_sessions (with_session r.number (asks true) waiting_server_state.sessions) waiting_server_state

      asks_represents : ServerRepresents who logins asked_server_state served
      asks_represents =
          session_represents who logins waiting_server_state served after after (asks true) served.sessions (known_same served) served_represents refl (asks_keeps true) (asked_row true after)
          (λ t its. subst (λ q. length q ≤ MOST_UNACKNOWLEDGED) (sym its.waiting) more_few)

      asked_represents : ServerRepresents who logins asked_server_state asked
      asked_represents = row_represents who logins asked_server_state served asks_represents k put_conn at_there asked_conn (Some after) served.sessions (known_same served) refl asks_represents.row

      asked_pipes : PipesRepresent who logins (sent ((s.outs ++ Put k z ∷ []) ++ Put k request_item ∷ []) wires) asked
      asked_pipes =
          more_put_out who logins wires asked (s.outs ++ Put k z ∷ []) (Put k request_item ∷ [])
          (put_here who logins (sent (s.outs ++ Put k z ∷ []) wires) served served_pipes k put_conn at_there asked (Down Req ∷ []) (request_item ∷ []) refl (All-nil IsForClient) refl)

      served_keeps : (j : ℕ) → KeepsClient (v.conns j) (served.conns j)
      served_keeps = keeps_at v.conns k c put_conn is refl (λ ended. same_flow_down (Down (St z) ∷ []) c.wires ∙ ended)

      asked_keeps : (j : ℕ) → KeepsClient (v.conns j) (asked.conns j)
      asked_keeps j =
          keeps_both (v.conns j) (served.conns j) (asked.conns j) (served_keeps j)
          (keeps_at served.conns k put_conn asked_conn at_there refl (λ ended. same_flow_down (Down Req ∷ []) put_conn.wires ∙ ended) j)

      puts : PutsOut v v.row (z ∷ []) s.outs (s.outs ++ Put k z ∷ [])
      puts = attached_puts v r k z s.outs is_row on (client_begins z stanza)

      by_due : (b : Bool) → Result (ask_where itself r.number (Some k) b (put k z waiting))
      by_due false = record {
        given = z ∷ [];
        follows = record {
          moves = Serves k z ∷ [];
          next = served;
          leads = (served, record { conn = c; is = is; row = r; is_row = is_row; on = on; counted = counted; gives = refl }, refl);
          does = refl;
          server = served_represents;
          pipes = served_pipes;
          client = record { here = refl; own = refl; epoch = refl; conns = served_keeps };
        };
        are_given = given_here;
        kept = row_here;
        tells = record { outs = puts; joins = joins_one v.row r z is_row };
      }
      by_due true = record {
        given = z ∷ [];
        follows = record {
          moves = Serves k z ∷ Demands k ∷ [];
          next = asked;
          leads = (
            served,
            record { conn = c; is = is; row = r; is_row = is_row; on = on; counted = counted; gives = refl },
            (asked, record { conn = put_conn; is = at_there; row = after; is_row = refl; on = on; counted = counted; gives = refl }, refl),
          );
          does = refl;
          server = asked_represents;
          pipes = asked_pipes;
          client = record { here = refl; own = refl; epoch = refl; conns = asked_keeps };
        };
        are_given = given_here;
        kept = row_here;
        tells = record { outs = then_quiet v (z ∷ []) s.outs (s.outs ++ Put k z ∷ []) (Put k request_item ∷ []) (quiet_request k) puts; joins = joins_one v.row r z is_row };
      }

      put_out : Result (queue itself r.number z (told x) s)
      put_out = subst Result (sym (ap (λ o. ask_where itself r.number o (is_due (told x)) (put_where o z waiting)) (live.row.conn ∙ on))) (by_due (is_due (told x)))

  -- ---- there is none

  abbrev stays : Session ItemOut → Bool
  stays t = not (t.shown.number == r.number)

  out : stays x ≡ false
  out = ap not (eq-eqb x.shown.number r.number live.row.number)

  short_here : IsGiven sends [] v.row None
  short_here = given_short sends [] v.row r z [] is_row (sends_here r.number z)

  -- where it is parked
  ends_parked : r.on ≡ None → Result (overflow itself r.number (told x) s)
  ends_parked off =
      let last : View ItemOut = record v { row = None } in
      let nobody = named_gone stays who.account who.resource s.server_state.next s.server_state.sessions x represents.server_state.sessions live.named out in
      subst Result (sym (ap (λ o. part_where itself o (error_item stream.ResourceConstraint) (in_sessions (without r.number) s)) (live.row.conn ∙ off))) (record {
        given = [];
        follows = record {
          moves = EndsRow ∷ [];
          next = last;
          leads = (last, record { row = r; is_row = is_row; off = off; gives = refl }, refl);
          does = refl;
          server = thinned who logins s.server_state v represents stays None v.sessions (known_same v) (subst (IsRowRepresented None) (sym nobody) tt);
          pipes = record { each = pipes.each };
          client = record { here = refl; own = refl; epoch = refl; conns = λ k. keeps_all (v.conns k) };
        };
        are_given = short_here;
        kept = row_ended v.row;
        tells = record { outs = quiet_puts v s.outs s.outs (λ k c is. refl); joins = joins_ended v.row [] };
      })

  -- where it is attached
  module _ (k : ℕ) (on : r.on ≡ Some k) (c : Conn ItemOut) (is : v.conns k ≡ Some c) where
    abbrev closed : Conn ItemOut
    closed = shut_conn (Errs Constraint) c

    abbrev both : Session ItemOut → Bool
    both t = stays t && not (is_at k t)

    abbrev words : List ItemOut
    words = error_item stream.ResourceConstraint ∷ Closing ∷ []

    abbrev lost : ℕ → links.Session ItemOut → links.Session ItemOut
    lost q u = lost_if (has (Some r.number) q) (u.counted && (has v.here k && has (carries c) q)) u

    abbrev parked : View ItemOut
    parked = record v { conns = with_at k closed v.conns; row = Some (record r { on = None }); sessions = alter lost v.sessions }

    abbrev last : View ItemOut
    last = record v { conns = with_at k closed v.conns; row = None; sessions = alter lost v.sessions }

    parts : overflow itself r.number (told x) s ≡ record { server_state = left_server_state who logins s.server_state v kept represents k c is both; outs = s.outs ++ shuts_at k words }
    parts =
        ap (λ o. part_where itself o (error_item stream.ResourceConstraint) (in_sessions (without r.number) s)) (live.row.conn ∙ on)
        ∙ ap (λ ss. record { server_state = with_sessions ss (without_conn k s.server_state); outs = ((s.outs ++ Put k (error_item stream.ResourceConstraint) ∷ []) ++ Put k Closing ∷ []) ++ Shut k ∷ [] }) (twice_left (λ t. not (is_at k t)) stays s.server_state.sessions)
        ∙ ap (λ outs. record { server_state = left_server_state who logins s.server_state v kept represents k c is both; outs = outs })
        (append_assoc (s.outs ++ Put k (error_item stream.ResourceConstraint) ∷ []) (Put k Closing ∷ []) (Shut k ∷ [])
        ∙ append_assoc s.outs (Put k (error_item stream.ResourceConstraint) ∷ []) (Put k Closing ∷ Shut k ∷ []))

    gone : both x ≡ false
    gone = ap (λ b. b && not (is_at k x)) out

    ends_attached : Result (overflow itself r.number (told x) s)
    ends_attached =
        let nobody = named_gone both who.account who.resource s.server_state.next s.server_state.sessions x represents.server_state.sessions live.named gone in
        subst Result (sym parts) (record {
          given = [];
          follows = record {
            moves = Detaches k (Errs Constraint) ∷ EndsRow ∷ [];
            next = last;
            leads = (
              parked,
              record { conn = c; is = is; row = r; is_row = is_row; on = on; counted = counted; reason = tt; gives = refl },
              (last, record { row = record r { on = None }; is_row = refl; off = refl; gives = refl }, refl),
            );
            does = refl;
            server = left_represents who logins s.server_state v kept represents k c is both closed None (alter lost v.sessions) (known_altered lost v) refl (subst (IsRowRepresented None) (sym nobody) tt);
            pipes = more_put_out who logins wires last s.outs (shuts_at k words) (shut_here who logins (sent s.outs wires) v pipes k c is last (Errs Constraint) words refl refl);
            client = record { here = refl; own = refl; epoch = refl; conns = keeps_at v.conns k c closed is refl (λ ended. halted (send_down (tail_of (Errs Constraint)) c.wires)) };
          };
          are_given = short_here;
          kept = row_ended v.row;
          tells = record { outs = quiet_puts v s.outs (s.outs ++ shuts_at k words) (λ j d there. quiet_more j s.outs (shuts_at k words) (quiet_shuts k j)); joins = joins_ended v.row [] };
        })

  -- ---- all cases

  by_position : (b : Bool) → (length x.waiting == MOST_UNACKNOWLEDGED) ≡ b → Result (cond b (overflow itself r.number (told x) s) (queue itself r.number z (told x) s))
  by_position b room = go b room r.on refl
    where
      placed : (k : ℕ) → r.on ≡ Some k → (c : Conn ItemOut) × (v.conns k ≡ Some c)
      placed k on = let there = subst (IsPlaced v.conns r (kept.row r is_row).session) on (kept.row r is_row).placed in (there.0, there.1)

      go : (b : Bool) → (length x.waiting == MOST_UNACKNOWLEDGED) ≡ b → (o : Option ℕ) → r.on ≡ o → Result (cond b (overflow itself r.number (told x) s) (queue itself r.number z (told x) s))
      go true full None off = ends_parked off
      go true full (Some k) on = let there = placed k on in ends_attached k on there.0 there.1
      go false room None off = kept_waiting room off
      go false room (Some k) on = let there = placed k on in put_out room k on there.0 there.1

  pub own_goes : Result (act itself (Send r.number z) s)
  own_goes = subst Result (sym step) (by_position (length x.waiting == MOST_UNACKNOWLEDGED) refl)
