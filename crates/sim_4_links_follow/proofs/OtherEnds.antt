-- A footer leaves the other devices as they are.
use Rattle.std.proofs.Common.{◌≡◌, ◌≢◌, ℕ, Bool, true, not, [], ◌∷◌, Option, Some, None, refl, sym, ap, subst, ◌∙◌, inl, inr}
use Rattle.std.proofs.lemmas.Bool.{cases_Bool}
use Rattle.std.specs.List.{filter}
use Rattle.srv_state.specs.State.{ServerState, with_sessions, without_conn}
use Rattle.sim_3_items.specs.Identities.{Identity, Login}
use Rattle.sim_3_items.specs.Pipes.{PipesRepresent}
use Rattle.sim_3_items.specs.Sent.{sent}
use Rattle.sim_3_items.specs.Servers.{IsRowRepresented, ServerRepresents}
use Rattle.sim_3_items.specs.WordItems.{up_item}
use Rattle.sim_3_items.specs.ItemPipes.{ItemWire, handed_up}
use Rattle.sim_2_links.specs.Stages.{Conn}
use Rattle.sim_2_links.specs.Views.{Table, View, with_at}
use Rattle.sim_2_links.specs.Words.{Foot, UpWord}
use Rattle.sm_live.specs.Sessions.{Session, is_at, is_named, session_at, session_named}
use Rattle.sim_3_images.proofs.RuleKept.{found_is, left_found, named_as, none_left, numbered_here, of_left, rule_left, seat_is, seat_of}
use Rattle.sim_4_links_follow.proofs.FooterRows.{foot_step}
use Rattle.sim_4_links_follow.proofs.ServerStatesLeft.{without_apart, without_sorted}
use Rattle.sim_4_links_follow.proofs.HandMoves.{wire_here}
use Rattle.sim_4_links_follow.proofs.OtherRows.{others_stay}
use Rattle.sim_4_links_follow.proofs.ServersOthers.{not_its, nothing_moves, pipes_stay}
use Rattle.sim_4_links_follow.proofs.Removed.{seat_left}
use Rattle.sim_4_links_follow.proofs.Shuts.{shuts_are_for, shuts_at}
use Rattle.sim_4_links_follow.specs.Taking.{AreApart, IsFirst, IsLeft, IsOwnWord, StepFollows, on_item}
use Rattle.xml_writer.specs.Items.{Closing, ItemOut}

module _ (who whom : Identity) (logins : ℕ → Login) (h : ServerState ItemOut) (wires : Table ItemWire) (v : View ItemOut) (apart : AreApart who whom) (represents : ServerRepresents whom logins h v) (pipes : PipesRepresent whom logins wires v) (k : ℕ) (none : v.conns k ≡ None) where
  -- a connection of the one is no more, and sessions on it
  pub left_stays : ((s : Session ItemOut) → session_at k h.sessions ≡ Some s → is_named who.account who.resource s ≡ true) → ServerRepresents whom logins (with_sessions (filter (λ s. not (is_at k s)) h.sessions) (without_conn k h)) v
  left_stays its = record {
    served = record { domain = represents.served.domain; account = represents.served.account; found = represents.served.found; archive = represents.served.archive };
    server_state = record { sessions = rule_left stays h.next h.sessions represents.server_state.sessions; conns = without_sorted k h represents.server_state.conns };
    conns = λ j e there. without_apart k h represents.server_state.conns j (other j e there) ∙ represents.conns j e there;
    row = subst (IsRowRepresented v.row) (sym (row_same (session_named whom.account whom.resource h.sessions) refl)) represents.row;
    seated = λ j e s there at.
        let old = seat_left stays j h.next h.sessions s represents.server_state.sessions at in
        represents.seated j e s there (seat_of h.next j h.sessions s represents.server_state.sessions old.0 (seat_is s.shown.conn j old.1));
    owned = λ q t s there found. represents.owned q t s there (of_left stays h.next 1 q h.sessions s represents.server_state.sessions.ascending found).0;
    free = represents.free;
  }
    where
      stays : Session ItemOut → Bool
      stays s = not (is_at k s)

      other : (j : ℕ) (e : Conn ItemOut) → v.conns j ≡ Some e → k ≢ j
      other j e there same = let here : v.conns k ≡ Some e = subst (λ n. v.conns n ≡ Some e) (sym same) there in let no_way : ⊥ = cc in no_way

      stays_so : (t : Session ItemOut) → session_named whom.account whom.resource h.sessions ≡ Some t → not (is_at k t) ≡ true
      stays_so t is =
          elim (cases_Bool (is_at k t)) [
            | inl on ↦
                let there = numbered_here (is_named whom.account whom.resource) h.next 1 h.sessions t represents.server_state.sessions.ascending is in
                let seat = seat_of h.next k h.sessions t represents.server_state.sessions there (seat_is t.shown.conn k on) in
                let a = named_as who.account who.resource t (its t seat) in
                let b = named_as whom.account whom.resource t (found_is (is_named whom.account whom.resource) h.sessions t is) in
                absurd (apart.name (sym a.0 ∙ b.0) (sym a.1 ∙ b.1))
            | inr off ↦ ap not off
          ]

      row_same : (o : Option (Session ItemOut)) → session_named whom.account whom.resource h.sessions ≡ o
          → session_named whom.account whom.resource (filter (λ s. not (is_at k s)) h.sessions) ≡ session_named whom.account whom.resource h.sessions
      row_same None is = none_left (is_named whom.account whom.resource) (λ s. not (is_at k s)) h.sessions is ∙ sym is
      row_same (Some t) is = left_found (is_named whom.account whom.resource) (λ s. not (is_at k s)) h.sessions t is (stays_so t is) ∙ sym is

pub foot_stays : (who whom : Identity) (logins others : ℕ → Login) (h : ServerState ItemOut) (wires : Table ItemWire) (v u : View ItemOut) (k : ℕ) (p : IsFirst who logins h wires v k Foot) → AreApart who whom → ServerRepresents whom others h u → PipesRepresent whom others wires u
    → StepFollows whom others wires u k p.wire (on_item k (up_item who (logins k) Foot) h) []
foot_stays who whom logins others h wires v u k p apart represents pipes =
    let none = not_its who whom others h wires u apart represents pipes k p.wire p.there (wire_here who logins h wires v k Foot p).of in
    subst (λ t. StepFollows whom others wires u k p.wire t []) (sym (foot_step who logins h wires v k p))
    (nothing_moves whom others (with_sessions (filter (λ s. not (is_at k s)) h.sessions) (without_conn k h)) (sent (shuts_at k (Closing ∷ [])) (with_at k (handed_up p.wire) wires)) u
    (left_stays who whom others h wires u apart represents pipes k none (λ s seat. p.server.seated k p.conn s p.is seat))
    (pipes_stay who whom others h wires u apart represents pipes k p.wire (shuts_at k (Closing ∷ [])) p.there (wire_here who logins h wires v k Foot p).of (shuts_are_for k (Closing ∷ []))))

-- ---- all of these words

pub own_word_stays : (who whom : Identity) (logins others : ℕ → Login) (h : ServerState ItemOut) (wires : Table ItemWire) (v u : View ItemOut) (k : ℕ) (word : UpWord ItemOut) (p : IsFirst who logins h wires v k word) → IsOwnWord word → AreApart who whom → ServerRepresents whom others h u
    → PipesRepresent whom others wires u → IsLeft who whom logins others h wires u k p.wire word
own_word_stays who whom logins others h wires v u k Foot p is apart represents pipes = foot_stays who whom logins others h wires v u k p apart represents pipes
own_word_stays who whom logins others h wires v u k word p is apart represents pipes = others_stay who whom logins others h wires v u k apart represents pipes word p is
