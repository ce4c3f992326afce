-- The server hears of the end of a connection: the session on it is parked where it is counted, and else ends.
use Rattle.std.proofs.Common.{◌≡◌, ℕ, ◌==◌, Bool, true, false, not, List, [], ◌∷◌, ◌++◌, Option, Some, None, cond, map, refl, sym, ap, subst, ◌∙◌, inl, inr}
use Rattle.std.proofs.lemmas.Bool.{cases_Bool, eq-eqb}
use Rattle.std.specs.List.{filter}
use Rattle.srv_state.specs.Moments.{gone_at}
use Rattle.srv_state.specs.State.{ServerState, with_sessions, without_conn}
use Rattle.sim_3_items.specs.Labels.{label_of}
use Rattle.sim_3_items.specs.Identities.{Identity, Login}
use Rattle.sim_3_items.specs.Pipes.{IsWire, PipesRepresent}
use Rattle.sim_3_items.specs.Servers.{IsRowRepresented, ServerFollows, ServerRepresents, open_conn}
use Rattle.sim_3_items.specs.WordItems.{up_item}
use Rattle.sim_3_items.specs.ItemPipes.{ItemWire, up_end_reported}
use Rattle.sim_2_links.proofs.Entries.{at_other, at_same}
use Rattle.sim_2_links.specs.Links.{LinkKept}
use Rattle.sim_2_links.specs.Machine.{Hears, HearsEarly, LinkMove, LinkReaches, Parks}
use Rattle.sim_2_links.specs.Stages.{Closes, Conn, Ending, Errs, Stands}
use Rattle.sim_2_links.specs.Views.{Row, Table, View, session_on, with_at}
use Rattle.sim_2_links.specs.Wires.{is_flowing, up_words}
use Rattle.sim_2_links.specs.Words.{Phase}
use Rattle.sm_live.specs.Sessions.{Session, is_at, lost, parked, session_at, session_named, with_session, without}
use Rattle.sim_4_links_follow.proofs.HandMoves.{shown_wire}
use Rattle.sim_4_links_follow.proofs.Leavings.{left_represents, left_server_state, unseated}
use Rattle.sim_4_links_follow.proofs.Parkings.{off_represents, parked_leaves}
use Rattle.sim_4_links_follow.proofs.Removed.{all_left}
use Rattle.sim_3_images.proofs.RuleKept.{named_gone}
use Rattle.sim_4_links_follow.proofs.Found.{found_on}
use Rattle.sim_4_links_follow.proofs.Placed.{keeps_at, shown_at}
use Rattle.sim_4_links_follow.proofs.Servings.{IsLive, known_same, live_of}
use Rattle.sim_4_links_follow.proofs.Taken.{wire_gone}
use Rattle.xml_writer.specs.Items.{ItemOut}

-- ---- the end of a connection

ended_conn : (who : Identity) (x : Login) (p : Phase) (e : Ending) → open_conn who x p e true ≡ None
ended_conn who x p Stands = refl
ended_conn who x p (Errs cause) = refl
ended_conn who x p Closes = refl

nothing_mapped : {S T : Type 0} (f : S → T) (ss : List S) → map f ss ≡ [] → ss ≡ []
nothing_mapped f [] none = refl
nothing_mapped f (s ∷ ss) none = absurd (let no_way : ⊥ = cc in no_way)

not_true_so : (b : Bool) → true ≡ not b → b ≡ false
not_true_so true is = absurd (let no_way : ⊥ = cc in no_way)
not_true_so false is = refl

module _ (who : Identity) (logins : ℕ → Login) (h : ServerState ItemOut) (wires : Table ItemWire) (v : View ItemOut) (kept : LinkKept v) (represents : ServerRepresents who logins h v) (pipes : PipesRepresent who logins wires v)
    (k : ℕ) (c : Conn ItemOut) (is : v.conns k ≡ Some c) (w : ItemWire) (there : wires k ≡ Some w) (nothing : w.up.items ≡ []) (ended : w.up.ended ≡ true) where
  wire : IsWire who (logins k) k c w
  wire = shown_wire who (logins k) k (v.conns k) (wires k) c w is there (pipes.each k)

  empty : up_words c.wires ≡ []
  empty = nothing_mapped (up_item who (logins k)) (up_words c.wires) (sym wire.up ∙ nothing)

  stopped : is_flowing c.wires ≡ false
  stopped = not_true_so (is_flowing c.wires) (sym ended ∙ wire.up_ended)

  abbrev told : Conn ItemOut
  told = record c { gone = true }

  follows : (server_state : ServerState ItemOut) (o : Option (Row ItemOut)) → gone_at k h ≡ server_state → ServerRepresents who logins server_state (record v { conns = with_at k told v.conns; row = o }) → (move : LinkMove ItemOut) → label_of move ≡ []
      → LinkReaches (move ∷ []) v (record v { conns = with_at k told v.conns; row = o }) → ServerFollows who logins (gone_at k h) (with_at k (up_end_reported w) wires) v []
  follows server_state o same server move none leads =
      let next : View ItemOut = record v { conns = with_at k told v.conns; row = o } in
      record {
        moves = move ∷ [];
        next = next;
        leads = leads;
        does = ap (λ l. l ++ []) none;
        server = subst (λ g. ServerRepresents who logins g next) (sym same) server;
        pipes = shown_at who logins wires (with_at k (up_end_reported w) wires) v next k told (up_end_reported w) pipes (λ j. refl) (at_same k (up_end_reported w) wires) (λ j apart. at_other k (up_end_reported w) wires j apart) (wire_gone who (logins k) k c w wire);
        client = record { here = refl; own = refl; epoch = refl; conns = keeps_at v.conns k c told is refl (λ e. e) };
      }

  -- without a session
  gone_bare : session_on c ≡ None → ServerFollows who logins (gone_at k h) (with_at k (up_end_reported w) wires) v []
  gone_bare off =
      let stays : Session ItemOut → Bool = λ s. not (is_at k s) in
      let none = unseated who logins h v kept represents k c is off in
      let nobody : filter stays h.sessions ≡ h.sessions = all_left (is_at k) h.sessions none in
      follows (left_server_state who logins h v kept represents k c is stays) v.row
      (ap (λ o. with_sessions (lost h.moment o h.sessions) (without_conn k h)) none ∙ ap (λ ss. with_sessions ss (without_conn k h)) (sym nobody))
      (left_represents who logins h v kept represents k c is stays told v.row v.sessions (known_same v) (ended_conn who (logins k) c.phase c.ending) (subst (λ ss. IsRowRepresented v.row (session_named who.account who.resource ss)) (sym nobody) represents.row))
      (Hears k) refl (record v { conns = with_at k told v.conns }, record { conn = c; is = is; ended = stopped; empty = empty; off = off; gives = refl }, refl)

  module _ (row : Row ItemOut) (is_row : v.row ≡ Some row) (on : row.on ≡ Some k) where
    live : IsLive who h row
    live = live_of who logins h v row represents is_row

    seat : session_at k h.sessions ≡ Some live.session
    seat = found_on h.next k who.account who.resource h.sessions live.session represents.server_state.sessions live.named (live.row.conn ∙ on)

    -- one that isn't counted yet ends
    gone_early : row.counted ≡ false → ServerFollows who logins (gone_at k h) (with_at k (up_end_reported w) wires) v []
    gone_early uncounted =
        let s : Session ItemOut = live.session in
        let stays : Session ItemOut → Bool = λ t. not (t.shown.number == s.shown.number) in
        let same : s.shown.resumable ≡ false = live.row.resumable ∙ uncounted in
        let out : stays s ≡ false = ap not (eq-eqb s.shown.number s.shown.number refl) in
        follows (left_server_state who logins h v kept represents k c is stays) None
        (ap (λ o. with_sessions (lost h.moment o h.sessions) (without_conn k h)) seat ∙ ap (λ b. with_sessions (cond b (with_session s.shown.number (parked h.moment) h.sessions) (without s.shown.number h.sessions)) (without_conn k h)) same)
        (left_represents who logins h v kept represents k c is stays told None v.sessions (known_same v) (ended_conn who (logins k) c.phase c.ending)
        (subst (IsRowRepresented None) (sym (named_gone stays who.account who.resource h.next h.sessions s represents.server_state.sessions live.named out)) tt))
        (HearsEarly k) refl (record v { conns = with_at k told v.conns; row = None }, record { conn = c; is = is; ended = stopped; empty = empty; row = row; is_row = is_row; on = on; uncounted = uncounted; gives = refl }, refl)

    abbrev parked_server_state : ServerState ItemOut
    parked_server_state = with_sessions (with_session live.session.shown.number (parked h.moment) h.sessions) (without_conn k h)

    parked_represents : ServerRepresents who logins parked_server_state (record v { conns = with_at k told v.conns; row = Some (record row { on = None }) })
    parked_represents =
        off_represents live.session.shown.number (parked h.moment) (parked_leaves h.moment) who logins h v represents k c is row live.session live.named refl live.row told v.sessions (known_same v) (ended_conn who (logins k) c.phase c.ending)

    gone_parked : row.counted ≡ true → ServerFollows who logins (gone_at k h) (with_at k (up_end_reported w) wires) v []
    gone_parked counted =
        let s : Session ItemOut = live.session in
        let same : s.shown.resumable ≡ true = live.row.resumable ∙ counted in
        follows parked_server_state (Some (record row { on = None }))
        (ap (λ o. with_sessions (lost h.moment o h.sessions) (without_conn k h)) seat ∙ ap (λ b. with_sessions (cond b (with_session s.shown.number (parked h.moment) h.sessions) (without s.shown.number h.sessions)) (without_conn k h)) same)
        parked_represents
        (Parks k) refl (record v { conns = with_at k told v.conns; row = Some (record row { on = None }) }, record { conn = c; is = is; ended = stopped; empty = empty; row = row; is_row = is_row; on = on; counted = counted; gives = refl }, refl)

  pub gone_follows : ServerFollows who logins (gone_at k h) (with_at k (up_end_reported w) wires) v []
  gone_follows = go (session_on c) refl
    where
      go : (o : Option ℕ) → session_on c ≡ o → ServerFollows who logins (gone_at k h) (with_at k (up_end_reported w) wires) v []
      go None off = gone_bare off
      go (Some n) seated = let a = (kept.conns k c is).attached n seated in elim (cases_Bool a.0.counted) [ inl counted ↦ gone_parked a.0 a.1 a.3 counted | inr uncounted ↦ gone_early a.0 a.1 a.3 uncounted ]
