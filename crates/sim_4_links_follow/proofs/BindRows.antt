-- The row on a binding (RFC 6120, section 7): the older session of the device ends, and its connection is told so and
-- shut.
use Rattle.std.proofs.Common.{◌≡◌, ◌≢◌, ℕ, ◌+◌, ◌<◌, ◌^◌, ◌==◌, Bool, true, false, not, ◌&&◌, List, [], ◌∷◌, ◌++◌, Option, Some, None, codes, refl, sym, ap, subst, ◌∙◌, ◌⊎◌, inl, inr, arith}
use Rattle.std.proofs.lemmas.Bool.{cases_Bool, eq-eqb}
use Rattle.std.proofs.lemmas.List.Elements.{All-nil}
use Rattle.std.proofs.lemmas.Option.{same_Some}
use Rattle.std.specs.List.{filter}
use Rattle.std.specs.Option.{option_map}
use Rattle.srv_state.specs.State.{ServerState, Step, conn_at, full_address, without_conn}
use Rattle.srv_state.specs.Steps.{Say, acted}
use Rattle.srv_state.specs.Streams.{parting_where, standing_of}
use Rattle.srv_state.specs.declared.connection.Phase.TheVariants as phase
use Rattle.srv_state.specs.declared.connection.Standing.{Standing}
use Rattle.srv_state.specs.declared.connection.Tries.TheVariants as tries
use Rattle.srv_state.specs.declared.word.Word.TheVariants as word
use Rattle.sim_3_items.specs.Counted.{IsForClient}
use Rattle.sim_3_items.specs.Labels.{labels_of}
use Rattle.sim_3_items.specs.Frames.{KeepsClient}
use Rattle.sim_3_items.specs.Identities.{Identity, Login, full_of}
use Rattle.sim_3_items.specs.Servers.{IsRowRepresented, ServerRepresents, conn_shown, open_conn}
use Rattle.sim_3_items.specs.WordItems.{up_item}
use Rattle.xml_framer.specs.declared.items.Item.TheVariants as item
use Rattle.sim_3_items.specs.ItemPipes.{ItemWire}
use Rattle.sim_3_items.specs.ItemWorlds.{itself}
use Rattle.sim_2_links.proofs.Entries.{Entry, New, Old, at_other, at_same, entry, other_number}
use Rattle.sim_2_links.proofs.Expected.{expected_up}
use Rattle.sim_2_links.proofs.Numbers.{reached_rises}
use Rattle.sim_2_links.specs.Links.{IsPlaced, LinkKept}
use Rattle.sim_2_links.specs.Machine.{Detaches, EndsRow, LinkMove, LinkReaches, Shuts, TakesBind}
use Rattle.sim_2_links.specs.SessionMoves.{lost_if, shut as shut_conn, unread}
use Rattle.sim_2_links.specs.Stages.{Conn, Errs, tail_of}
use Rattle.sim_2_links.specs.Views.{Row, Table, View, alter, carries, changed, has, on_phase, session_on, with_at}
use Rattle.sim_2_links.specs.Wires.{send_down}
use Rattle.sim_2_links.specs.Views as links
use Rattle.sim_2_links.specs.Words.{AtSession, Bind, Bound, Conflict, Ready}
use Rattle.sm_live.specs.Rule.{IsRule}
use Rattle.sm_live.specs.Sessions.{Session, ended_of, fresh, is_at, is_named, less, session_at, session_named, session_of}
use Rattle.mam_pages.proofs.Tallying.{filter_kept}
use Rattle.im_replies.specs.Requests.{bound_item}
use Rattle.im_replies.specs.Streams.{error_item}
use Rattle.im_replies.specs.declared.conditions.StreamCondition.TheVariants as stream
use Rattle.sim_4_links_follow.proofs.Binding.{bound_represents, bound_server_state, new_row}
use Rattle.sim_4_links_follow.proofs.BindReads.{address_is}
use Rattle.sim_4_links_follow.proofs.Former.{keeps_both, shut_then_taken}
use Rattle.sim_4_links_follow.proofs.ServerStatesLeft.{without_apart, without_here, without_sorted}
use Rattle.sim_4_links_follow.proofs.HandMoves.{kept_here, open_here}
use Rattle.sim_4_links_follow.proofs.Leavings.{unseated}
use Rattle.sim_3_images.proofs.RuleKept.{named_gone, none_left, of_left, rule_left}
use Rattle.sim_4_links_follow.proofs.Sessions.{taken, taken_client, taken_pipes}
use Rattle.sim_4_links_follow.proofs.Shuts.{shuts_at}
use Rattle.sim_4_links_follow.proofs.Standing.{stands_at}
use Rattle.sim_4_links_follow.specs.Taking.{IsFirst, IsTaken, StepFollows, on_item}
use Rattle.srv_handlers.specs.Bindings.{former_of}
use Rattle.sim_4_links_follow.proofs.Emitted.{puts_at}
use Rattle.sim_4_links_follow.proofs.Flows.{halted, taken_flowing}
use Rattle.sim_4_links_follow.proofs.MoreMoves.{does_both, then_reaches}
use Rattle.sim_4_links_follow.proofs.Placed.{keeps_at}
use Rattle.sim_4_links_follow.proofs.Servings.{IsLive, Known, known_altered, known_same, live_of}
use Rattle.sim_4_links_follow.proofs.Binds.{bind_step}
use Rattle.xml_writer.specs.Items.{Closing, ItemOut}

no_row_named : (who : Identity) (h : ServerState ItemOut) (o : Option (Session ItemOut)) → IsRowRepresented None o → o ≡ None
no_row_named who h None shown = refl
no_row_named who h (Some s) shown = absurd shown

module _ (who : Identity) (logins : ℕ → Login) (h : ServerState ItemOut) (wires : Table ItemWire) (v : View ItemOut) (k : ℕ) (p : IsFirst who logins h wires v k Bind) (fits : h.next + 1 < 2 ^ 64) where
  abbrev kept : LinkKept v
  kept = kept_here who logins h wires v k Bind p

  ready : p.conn.phase ≡ Ready
  ready = expected_up v k p.conn Bind p.rest kept p.is p.first

  off : session_on p.conn ≡ None
  off = ap (λ q. on_phase q p.conn.ending p.conn.gone) ready

  abbrev none_here : session_at k h.sessions ≡ None
  none_here = unseated who logins h v kept p.server k p.conn p.is off

  abbrev standing : Standing
  standing = standing_of (record { entropy = (logins k).yours; phase = phase.Ready who.account; tries = tries.Three })

  abbrev IsTakenSo : Type 0
  IsTakenSo = IsTaken who logins h wires v k p.wire Bind

  known_bound : (ss : Table (links.Session ItemOut)) → Known ss v → (q : ℕ) (u : links.Session ItemOut) → with_at h.next unread ss q ≡ Some u → (q ≡ h.next) ⊎ ((old : links.Session ItemOut) × (v.sessions q ≡ Some old))
  known_bound ss known q u is = go (entry h.next unread ss q u is)
    where
      go : Entry h.next unread ss q u → (q ≡ h.next) ⊎ ((old : links.Session ItemOut) × (v.sessions q ≡ Some old))
      go (New same it) = inl (sym same)
      go (Old apart there) = inr (known q u there)

  abbrev items : List ItemOut
  items = bound_item (codes "bind") (full_of who) ∷ []

  new_number : v.sessions h.next ≡ None
  new_number = go (v.sessions h.next) refl
    where
      go : (o : Option (links.Session ItemOut)) → v.sessions h.next ≡ o → v.sessions h.next ≡ None
      go None is = is
      go (Some s) is = let given = (reached_rises v p.reached).given h.next s is in let free = p.server.free in absurd (let no_way : ⊥ = omega arith in no_way)

  abbrev attached : Conn ItemOut
  attached = taken who logins h wires v k Bind p (AtSession h.next) (Bound h.next ∷ [])

  shown : (j : ℕ) (e : Conn ItemOut) → Entry k attached v.conns j e → conn_at j h ≡ conn_shown who (logins j) e
  shown j e (New same it) =
      let s = stands_at v k p.conn kept p.is Bind p.rest p.first in
      let here : conn_at k h ≡ conn_shown who (logins k) attached =
      open_here who logins h wires v k Bind p Ready ready
      ∙ sym (ap (λ b. open_conn who (logins k) (AtSession h.next) p.conn.ending b) s.1 ∙ ap (λ g. open_conn who (logins k) (AtSession h.next) g false) s.0) in
      subst (λ n. conn_at n h ≡ conn_shown who (logins n) e) same (here ∙ ap (conn_shown who (logins k)) it)
  shown j e (Old apart was) = p.server.conns j e was

  mine : (j : ℕ) (e : Conn ItemOut) → Entry k attached v.conns j e → (d : Conn ItemOut) × (v.conns j ≡ Some d)
  mine j e (New same it) = (p.conn, subst (λ n. v.conns n ≡ Some p.conn) same p.is)
  mine j e (Old apart was) = (e, was)

  module _ (left : List (Session ItemOut)) (rule : IsRule left h.next) (was : (m : ℕ) (s : Session ItemOut) → session_of m left ≡ Some s → session_of m h.sessions ≡ Some s) (seat : session_at k left ≡ None)
      (name : session_named who.account who.resource left ≡ None) where
    abbrev after : ServerState ItemOut
    after = bound_server_state who logins h v p.server k left h.conns rule was seat name fits

    abbrev sessions : Table (links.Session ItemOut)
    sessions = with_at h.next unread v.sessions

    abbrev last : View ItemOut
    last = record v { conns = with_at k attached v.conns; row = Some (new_row h.next k); sessions = sessions; free = h.next + 1 }

    after_represents : ServerRepresents who logins after last
    after_represents =
        bound_represents who logins h v p.server k left h.conns rule was seat name fits (with_at k attached v.conns) sessions (known_bound v.sessions (λ q s is. (s, is))) p.server.server_state.conns
        (λ j e there. shown j e (entry k attached v.conns j e there)) (λ j e there. mine j e (entry k attached v.conns j e there))

  -- where this is the older session with the device's name, before it is told so
  abbrev bound_so : Option (Session ItemOut) → Step ItemOut
  bound_so o =
      acted itself (parting_where itself (former_of (option_map ended_of o)) (error_item stream.Conflict) (Say k (bound_item (codes "bind") (full_address who.account who.resource h)) ∷ []))
      (record { server_state = record h { sessions = less o h.sessions ++ fresh h.next who.account who.resource k ∷ []; next = h.next + 1 }; outs = [] })

  -- no session has the device's name
  bind_new : v.row ≡ None → IsTaken who logins h wires v k p.wire Bind
  bind_new no_row =
      let name : session_named who.account who.resource h.sessions ≡ None = no_row_named who h (session_named who.account who.resource h.sessions) (subst (λ o. IsRowRepresented o (session_named who.account who.resource h.sessions)) no_row p.server.row) in
      let rule = p.server.server_state.sessions in
      let was : (m : ℕ) (s : Session ItemOut) → session_of m h.sessions ≡ Some s → session_of m h.sessions ≡ Some s = λ m s is. is in
      let next : View ItemOut = last h.sessions rule was none_here name in
      let done : ServerState ItemOut = after h.sessions rule was none_here name in
      let step : on_item k (up_item who (logins k) Bind) h ≡ record { server_state = done; outs = puts_at k items } =
      bind_step who logins h wires v k p ∙ ap bound_so name ∙ ap (λ a. record { server_state = done; outs = puts_at k (bound_item (codes "bind") a ∷ []) }) (address_is who h p.server.served) in
      subst (λ t. StepFollows who logins wires v k p.wire t []) (sym step) (record {
        moves = TakesBind k h.next ∷ [];
        next = next;
        leads = (next, record { conn = p.conn; is = p.is; rest = p.rest; first = p.first; phase = ready; none = no_row; fresh = new_number; rises = p.server.free; gives = refl }, refl);
        does = refl;
        server = after_represents h.sessions rule was none_here name;
        pipes = taken_pipes who logins h wires v k Bind p (AtSession h.next) (Bound h.next ∷ []) items next (λ j. refl) refl (All-nil IsForClient);
        client = taken_client who logins h wires v k Bind p (AtSession h.next) (Bound h.next ∷ []) next refl refl refl refl;
      })

  -- the older one is parked, and ends
  bind_over : (row : Row ItemOut) → v.row ≡ Some row → row.on ≡ None → IsTaken who logins h wires v k p.wire Bind
  bind_over row is_row parked =
      let live = live_of who logins h v row p.server is_row in
      let s : Session ItemOut = live.session in
      let stays : Session ItemOut → Bool = λ t. not (t.shown.number == s.shown.number) in
      let out : stays s ≡ false = ap not (eq-eqb s.shown.number s.shown.number refl) in
      let left : List (Session ItemOut) = filter stays h.sessions in
      let rule : IsRule left h.next = rule_left stays h.next h.sessions p.server.server_state.sessions in
      let was : (m : ℕ) (t : Session ItemOut) → session_of m left ≡ Some t → session_of m h.sessions ≡ Some t = λ m t is. (of_left stays h.next 1 m h.sessions t p.server.server_state.sessions.ascending is).0 in
      let seat : session_at k left ≡ None = none_left (is_at k) stays h.sessions none_here in
      let name : session_named who.account who.resource left ≡ None = named_gone stays who.account who.resource h.next h.sessions s p.server.server_state.sessions live.named out in
      let ended : View ItemOut = record v { row = None } in
      let next : View ItemOut = last left rule was seat name in
      let done : ServerState ItemOut = after left rule was seat name in
      let off_it : s.shown.conn ≡ None = live.row.conn ∙ parked in
      let step : on_item k (up_item who (logins k) Bind) h ≡ record { server_state = done; outs = puts_at k items } =
      bind_step who logins h wires v k p ∙ ap bound_so live.named
      ∙ ap (λ o. acted itself (parting_where itself o (error_item stream.Conflict) (Say k (bound_item (codes "bind") (full_address who.account who.resource h)) ∷ [])) (record { server_state = done; outs = [] })) off_it
      ∙ ap (λ a. record { server_state = done; outs = puts_at k (bound_item (codes "bind") a ∷ []) }) (address_is who h p.server.served) in
      subst (λ t. StepFollows who logins wires v k p.wire t []) (sym step) (record {
        moves = EndsRow ∷ TakesBind k h.next ∷ [];
        next = next;
        leads = (
          ended,
          record { row = row; is_row = is_row; off = parked; gives = refl },
          (next, record { conn = p.conn; is = p.is; rest = p.rest; first = p.first; phase = ready; none = refl; fresh = new_number; rises = p.server.free; gives = refl }, refl),
        );
        does = refl;
        server = after_represents left rule was seat name;
        pipes = taken_pipes who logins h wires v k Bind p (AtSession h.next) (Bound h.next ∷ []) items next (λ j. refl) refl (All-nil IsForClient);
        client = taken_client who logins h wires v k Bind p (AtSession h.next) (Bound h.next ∷ []) next refl refl refl refl;
      })

  -- the older one is on a connection, which is told so and shut
  module _ (row : Row ItemOut) (is_row : v.row ≡ Some row) (f : ℕ) (on : row.on ≡ Some f) where
    placed : (c : Conn ItemOut) × (v.conns f ≡ Some c) × (session_on c ≡ Some row.number)
    placed = let there = subst (IsPlaced v.conns row (kept.row row is_row).session) on (kept.row row is_row).placed in (there.0, there.1, there.2)

    abbrev former : Conn ItemOut
    former = placed.0

    apart : f ≢ k
    apart same =
        let there : v.conns k ≡ Some former = subst (λ n. v.conns n ≡ Some former) same placed.1 in
        let alike : former ≡ p.conn = same_Some former p.conn (sym there ∙ p.is) in
        let some : session_on p.conn ≡ Some row.number = ap session_on (sym alike) ∙ placed.2 in
        let none = off in
        let no_way : ⊥ = cc in no_way

    abbrev live : IsLive who h row
    live = live_of who logins h v row p.server is_row

    abbrev numbered_so : Session ItemOut → Bool
    numbered_so t = not (t.shown.number == live.session.shown.number)

    abbrev elsewhere : Session ItemOut → Bool
    elsewhere t = not (is_at f t)

    abbrev fewer : List (Session ItemOut)
    fewer = filter numbered_so h.sessions

    abbrev left : List (Session ItemOut)
    left = filter elsewhere fewer

    out : numbered_so live.session ≡ false
    out = ap not (eq-eqb live.session.shown.number live.session.shown.number refl)

    rule_fewer : IsRule fewer h.next
    rule_fewer = rule_left numbered_so h.next h.sessions p.server.server_state.sessions

    rule : IsRule left h.next
    rule = rule_left elsewhere h.next fewer rule_fewer

    was : (m : ℕ) (t : Session ItemOut) → session_of m left ≡ Some t → session_of m h.sessions ≡ Some t
    was m t is = (of_left numbered_so h.next 1 m h.sessions t p.server.server_state.sessions.ascending (of_left elsewhere h.next 1 m fewer t rule_fewer.ascending is).0).0

    seat : session_at k left ≡ None
    seat = none_left (is_at k) elsewhere fewer (none_left (is_at k) numbered_so h.sessions none_here)

    name : session_named who.account who.resource left ≡ None
    name =
        none_left (is_named who.account who.resource) elsewhere fewer
        (named_gone numbered_so who.account who.resource h.next h.sessions live.session p.server.server_state.sessions live.named out)

    abbrev closed : Conn ItemOut
    closed = shut_conn (Errs Conflict) former

    abbrev first_conns : Table (Conn ItemOut)
    first_conns = with_at f closed v.conns

    abbrev last_conns : Table (Conn ItemOut)
    last_conns = with_at k attached first_conns

    abbrev words : List ItemOut
    words = error_item stream.Conflict ∷ Closing ∷ []

    abbrev done : ServerState ItemOut
    done = bound_server_state who logins h v p.server k left (without_conn f h).conns rule was seat name fits

    elsewhere_new : elsewhere (fresh h.next who.account who.resource k) ≡ true
    elsewhere_new = ap not (other_number k f (λ same. apart (sym same)))

    step : on_item k (up_item who (logins k) Bind) h ≡ record { server_state = done; outs = shuts_at f words ++ puts_at k items }
    step =
        bind_step who logins h wires v k p ∙ ap bound_so live.named
        ∙ ap (λ o. acted itself (parting_where itself o (error_item stream.Conflict) (Say k (bound_item (codes "bind") (full_address who.account who.resource h)) ∷ []))
        (record { server_state = record h { sessions = fewer ++ fresh h.next who.account who.resource k ∷ []; next = h.next + 1 }; outs = [] })) (live.row.conn ∙ on)
        ∙ ap (λ ss. record { server_state = record h { sessions = ss; next = h.next + 1; conns = (without_conn f h).conns }; outs = shuts_at f words ++ puts_at k (bound_item (codes "bind") (full_address who.account who.resource h) ∷ []) })
        (filter_kept elsewhere fewer (fresh h.next who.account who.resource k) elsewhere_new)
        ∙ ap (λ a. record { server_state = done; outs = shuts_at f words ++ puts_at k (bound_item (codes "bind") a ∷ []) }) (address_is who h p.server.served)

    shown_last : (j : ℕ) (e : Conn ItemOut) → Entry k attached first_conns j e → conn_at j done ≡ conn_shown who (logins j) e
    shown_last j e (New same it) = subst (λ n. conn_at n done ≡ conn_shown who (logins n) e) same (without_apart f h p.server.server_state.conns k apart ∙ shown k attached (entry k attached v.conns k attached (at_same k attached v.conns)) ∙ ap (conn_shown who (logins k)) it)
    shown_last j e (Old other at) = shown_first (entry f closed v.conns j e at)
      where
        shown_first : Entry f closed v.conns j e → conn_at j done ≡ conn_shown who (logins j) e
        shown_first (New same it) = subst (λ n. conn_at n done ≡ conn_shown who (logins n) e) same (without_here f h p.server.server_state.conns ∙ ap (conn_shown who (logins f)) it)
        shown_first (Old away there) = without_apart f h p.server.server_state.conns j away ∙ p.server.conns j e there

    mine_last : (j : ℕ) (e : Conn ItemOut) → Entry k attached first_conns j e → (d : Conn ItemOut) × (v.conns j ≡ Some d)
    mine_last j e (New same it) = (p.conn, subst (λ n. v.conns n ≡ Some p.conn) same p.is)
    mine_last j e (Old other at) = mine_first (entry f closed v.conns j e at)
      where
        mine_first : Entry f closed v.conns j e → (d : Conn ItemOut) × (v.conns j ≡ Some d)
        mine_first (New same it) = (former, subst (λ n. v.conns n ≡ Some former) same placed.1)
        mine_first (Old away there) = (e, there)

    module _ (ss : Table (links.Session ItemOut)) (known : Known ss v) (none_yet : ss h.next ≡ None) (moves : List (LinkMove ItemOut)) (nothing : labels_of moves ≡ []) (to : LinkReaches moves v (record v { conns = first_conns; row = None; sessions = ss })) where
      abbrev middle : View ItemOut
      middle = record v { conns = first_conns; row = None; sessions = ss }

      abbrev end : View ItemOut
      end = record v { conns = last_conns; row = Some (new_row h.next k); sessions = with_at h.next unread ss; free = h.next + 1 }

      bound_after : IsTakenSo
      bound_after =
          subst (λ t. StepFollows who logins wires v k p.wire t []) (sym step) (record {
            moves = moves ++ TakesBind k h.next ∷ [];
            next = end;
            leads = then_reaches moves (TakesBind k h.next ∷ []) v middle end to (end, record { conn = p.conn; is = at_other f closed v.conns k apart ∙ p.is; rest = p.rest; first = p.first; phase = ready; none = refl; fresh = none_yet; rises = p.server.free; gives = refl }, refl);
            does = does_both moves (TakesBind k h.next ∷ []) [] [] nothing refl;
            server =
                bound_represents who logins h v p.server k left (without_conn f h).conns rule was seat name fits last_conns (with_at h.next unread ss) (known_bound ss known) (without_sorted f h p.server.server_state.conns)
                (λ j e there. shown_last j e (entry k attached first_conns j e there)) (λ j e there. mine_last j e (entry k attached first_conns j e there));
            pipes =
                shut_then_taken who logins wires v p.pipes f k apart former (Errs Conflict) words p.conn p.wire Bind p.rest (AtSession h.next) (Bound h.next ∷ []) items end placed.1 p.is p.there p.first refl refl (All-nil IsForClient) refl;
            client = record { here = refl; own = refl; epoch = refl; conns = kept_conns };
          })
        where
          kept_conns : (j : ℕ) → KeepsClient (v.conns j) (last_conns j)
          kept_conns j =
              keeps_both (v.conns j) (first_conns j) (last_conns j)
              (keeps_at v.conns f former closed placed.1 refl (λ ended. halted (send_down (tail_of (Errs Conflict)) former.wires)) j)
              (keeps_at first_conns k p.conn attached (at_other f closed v.conns k apart ∙ p.is) refl (λ ended. taken_flowing p.rest (Bound h.next ∷ []) p.conn.wires ∙ ended) j)

    bind_detached : row.counted ≡ true → IsTaken who logins h wires v k p.wire Bind
    bind_detached counted =
        let g : ℕ → links.Session ItemOut → links.Session ItemOut = λ q s. lost_if (has (Some row.number) q) (s.counted && (has v.here f && has (carries former) q)) s in
        let parked : View ItemOut = record v { conns = first_conns; row = Some (record row { on = None }); sessions = alter g v.sessions } in
        bound_after (alter g v.sessions) (known_altered g v) (ap (changed (g h.next)) new_number) (Detaches f (Errs Conflict) ∷ EndsRow ∷ []) refl
        (parked, record { conn = former; is = placed.1; row = row; is_row = is_row; on = on; counted = counted; reason = tt; gives = refl }, (record parked { row = None }, record { row = record row { on = None }; is_row = refl; off = refl; gives = refl }, refl))

    bind_shut : row.counted ≡ false → IsTaken who logins h wires v k p.wire Bind
    bind_shut uncounted =
        bound_after v.sessions (known_same v) new_number (Shuts f (Errs Conflict) ∷ []) refl
        (record v { conns = first_conns; row = None }, record { conn = former; is = placed.1; row = row; is_row = is_row; on = on; uncounted = uncounted; reason = tt; gives = refl }, refl)

  pub bind_follows : IsTaken who logins h wires v k p.wire Bind
  bind_follows = go v.row refl
    where
      placed_so : (row : Row ItemOut) → v.row ≡ Some row → (o : Option ℕ) → row.on ≡ o → IsTaken who logins h wires v k p.wire Bind
      placed_so row is None parked = bind_over row is parked
      placed_so row is (Some f) on = elim (cases_Bool row.counted) [ inl counted ↦ bind_detached row is f on counted | inr uncounted ↦ bind_shut row is f on uncounted ]

      go : (o : Option (Row ItemOut)) → v.row ≡ o → IsTaken who logins h wires v k p.wire Bind
      go None is = bind_new is
      go (Some row) is = placed_so row is row.on refl
