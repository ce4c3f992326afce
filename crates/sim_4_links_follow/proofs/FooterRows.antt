-- The row on a footer (RFC 6120, section 4.4): the server puts its own, and shuts the connection; a session on it ends.
use Rattle.std.proofs.Common.{◌≡◌, ℕ, Bool, true, false, not, ◌&&◌, [], ◌∷◌, Option, Some, None, refl, sym, ap, subst, ◌∙◌, inl, inr}
use Rattle.std.proofs.lemmas.Bool.{cases_Bool, eq-eqb}
use Rattle.std.specs.List.{filter}
use Rattle.srv_state.specs.State.{ServerState}
use Rattle.sim_3_items.specs.Identities.{Identity, Login}
use Rattle.sim_3_items.specs.Servers.{IsRowRepresented, ServerRepresents}
use Rattle.sim_3_items.specs.WordItems.{up_item}
use Rattle.xml_framer.specs.declared.items.Item.TheVariants as item
use Rattle.sim_3_items.specs.ItemPipes.{ItemWire}
use Rattle.sim_2_links.specs.Links.{LinkKept}
use Rattle.sim_2_links.specs.Machine.{Detaches, EndsRow, Shuts, TakesFoot}
use Rattle.sim_2_links.specs.SessionMoves.{lost_if, shut as shut_conn}
use Rattle.sim_2_links.specs.Stages.{Closes, Conn}
use Rattle.sim_2_links.specs.Views.{Row, Table, View, alter, carries, has, session_on, with_at}
use Rattle.sim_2_links.specs.Views as links
use Rattle.sim_2_links.specs.Words.{Foot}
use Rattle.sm_live.specs.Sessions.{Session, is_at, session_named}
use Rattle.sm_resumption.specs.Rows.{is_some_number}
use Rattle.sim_4_links_follow.proofs.HandMoves.{kept_here, row_here, wire_here}
use Rattle.sim_4_links_follow.proofs.Leavings.{left_represents, left_server_state, unseated}
use Rattle.sim_4_links_follow.proofs.Removed.{all_left}
use Rattle.sim_3_images.proofs.RuleKept.{named_gone}
use Rattle.sim_4_links_follow.proofs.Shuts.{shut_client, shut_pipes, shuts_at}
use Rattle.sim_4_links_follow.specs.Taking.{IsFirst, IsTaken, StepFollows, on_item}
use Rattle.sim_4_links_follow.proofs.Servings.{Known, known_altered, known_same, live_of}
use Rattle.xml_writer.specs.Items.{Closing, ItemOut}

module _ (who : Identity) (logins : ℕ → Login) (h : ServerState ItemOut) (wires : Table ItemWire) (v : View ItemOut) (k : ℕ) (p : IsFirst who logins h wires v k Foot) where
  abbrev pub kept : LinkKept v
  kept = kept_here who logins h wires v k Foot p

  abbrev pub stays : Session ItemOut → Bool
  stays s = not (is_at k s)

  abbrev closed : Conn ItemOut
  closed = shut_conn Closes p.conn

  pub foot_step : on_item k (up_item who (logins k) Foot) h ≡ record { server_state = left_server_state who logins h v kept p.server k p.conn p.is stays; outs = shuts_at k (Closing ∷ []) }
  foot_step = row_here who logins h wires v k Foot p p.conn.phase item.Footer refl

  -- without a session
  foot_taken : session_on p.conn ≡ None → IsTaken who logins h wires v k p.wire Foot
  foot_taken off =
      let next : View ItemOut = record v { conns = with_at k closed v.conns } in
      let nobody : filter stays h.sessions ≡ h.sessions = all_left (is_at k) h.sessions (unseated who logins h v kept p.server k p.conn p.is off) in
      subst (λ t. StepFollows who logins wires v k p.wire t []) (sym foot_step) (record {
        moves = TakesFoot k ∷ [];
        next = next;
        leads = (next, record { conn = p.conn; is = p.is; off = off; rest = p.rest; first = p.first; gives = refl }, refl);
        does = refl;
        server = left_represents who logins h v kept p.server k p.conn p.is stays closed v.row v.sessions (known_same v) refl (subst (λ ss. IsRowRepresented v.row (session_named who.account who.resource ss)) (sym nobody) p.server.row);
        pipes = shut_pipes who logins wires v next k p.conn p.wire Closes p.pipes (wire_here who logins h wires v k Foot p) (λ j. refl) (Closing ∷ []) refl;
        client = shut_client who logins wires v next k p.conn p.wire Closes p.is refl refl refl refl;
      })

  -- with one
  module _ (row : Row ItemOut) (is_row : v.row ≡ Some row) (on : row.on ≡ Some k) where
    gone_named : session_named who.account who.resource (filter stays h.sessions) ≡ None
    gone_named =
        let live = live_of who logins h v row p.server is_row in
        let there : is_at k live.session ≡ true = ap (is_some_number k) (live.row.conn ∙ on) ∙ eq-eqb k k refl in
        named_gone stays who.account who.resource h.next h.sessions live.session p.server.server_state.sessions live.named (ap not there)

    ends : (t : Table (links.Session ItemOut)) → Known t v → ServerRepresents who logins (left_server_state who logins h v kept p.server k p.conn p.is stays) (record v { conns = with_at k closed v.conns; row = None; sessions = t })
    ends t known = left_represents who logins h v kept p.server k p.conn p.is stays closed None t known refl (subst (IsRowRepresented None) (sym gone_named) tt)

    foot_detached : row.counted ≡ true → IsTaken who logins h wires v k p.wire Foot
    foot_detached counted =
        let sessions : Table (links.Session ItemOut) = alter (λ q s. lost_if (has (Some row.number) q) (s.counted && (has v.here k && has (carries p.conn) q)) s) v.sessions in
        let off : View ItemOut = record v { conns = with_at k closed v.conns; row = Some (record row { on = None }); sessions = sessions } in
        let next : View ItemOut = record v { conns = with_at k closed v.conns; row = None; sessions = sessions } in
        subst (λ t. StepFollows who logins wires v k p.wire t []) (sym foot_step) (record {
          moves = Detaches k Closes ∷ EndsRow ∷ [];
          next = next;
          leads = (off, record { conn = p.conn; is = p.is; row = row; is_row = is_row; on = on; counted = counted; reason = (p.rest, p.first); gives = refl }, (next, record { row = record row { on = None }; is_row = refl; off = refl; gives = refl }, refl));
          does = refl;
          server = ends sessions (known_altered (λ q s. lost_if (has (Some row.number) q) (s.counted && (has v.here k && has (carries p.conn) q)) s) v);
          pipes = shut_pipes who logins wires v next k p.conn p.wire Closes p.pipes (wire_here who logins h wires v k Foot p) (λ j. refl) (Closing ∷ []) refl;
          client = shut_client who logins wires v next k p.conn p.wire Closes p.is refl refl refl refl;
        })

    foot_ended : row.counted ≡ false → IsTaken who logins h wires v k p.wire Foot
    foot_ended uncounted =
        let next : View ItemOut = record v { conns = with_at k closed v.conns; row = None } in
        subst (λ t. StepFollows who logins wires v k p.wire t []) (sym foot_step) (record {
          moves = Shuts k Closes ∷ [];
          next = next;
          leads = (next, record { conn = p.conn; is = p.is; row = row; is_row = is_row; on = on; uncounted = uncounted; reason = (p.rest, p.first); gives = refl }, refl);
          does = refl;
          server = ends v.sessions (known_same v);
          pipes = shut_pipes who logins wires v next k p.conn p.wire Closes p.pipes (wire_here who logins h wires v k Foot p) (λ j. refl) (Closing ∷ []) refl;
          client = shut_client who logins wires v next k p.conn p.wire Closes p.is refl refl refl refl;
        })

  pub foot_follows : IsTaken who logins h wires v k p.wire Foot
  foot_follows = go (session_on p.conn) refl
    where
      go : (o : Option ℕ) → session_on p.conn ≡ o → IsTaken who logins h wires v k p.wire Foot
      go None off = foot_taken off
      go (Some n) seated = let a = (kept.conns k p.conn p.is).attached n seated in elim (cases_Bool a.0.counted) [ inl counted ↦ foot_detached a.0 a.1 a.3 counted | inr uncounted ↦ foot_ended a.0 a.1 a.3 uncounted ]
