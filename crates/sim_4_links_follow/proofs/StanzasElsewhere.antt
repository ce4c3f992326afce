-- A stanza goes to a session that isn't the device's: of the device nothing moves.
use Rattle.std.proofs.Common.{◌≡◌, ℕ, ◌+◌, ◌≤◌, ◌==◌, Bool, true, false, not, List, [], ◌∷◌, ◌++◌, Option, Some, None, cond, length, refl, sym, subst, ◌∙◌, arith}
use Rattle.std.proofs.lemmas.Bool.{eq-eqb}
use Rattle.std.proofs.lemmas.List.{length_push}
use Rattle.std.proofs.lemmas.Option.{same_Some}
use Rattle.std.specs.Option.{option_map}
use Rattle.sm_acks.specs.declared.end.TheConstants.{MOST_UNACKNOWLEDGED}
use Rattle.sim_2_links.specs.Stages.{Conn}
use Rattle.sim_3_images.specs.Puts.{is_put_as_stanza, puts_on}
use Rattle.srv_state.specs.State.{Out, Put, Shut, Step}
use Rattle.srv_state.specs.Steps.{Send, act, ask_where, in_sessions, is_due, overflow, part, part_where, put, put_where, queue, send_by_info, shut}
use Rattle.sim_3_items.specs.Identities.{Identity, Login}
use Rattle.sim_3_items.specs.Pipes.{PipesRepresent}
use Rattle.sim_3_items.specs.Sent.{sent}
use Rattle.sim_3_items.specs.Servers.{ServerRepresents}
use Rattle.sim_3_items.specs.ItemPipes.{ItemWire}
use Rattle.sim_3_items.specs.ItemWorlds.{itself}
use Rattle.sim_2_links.specs.Links.{LinkKept}
use Rattle.sim_2_links.specs.Views.{Table, View}
use Rattle.sm_live.specs.Sessions.{Session, asks, session_of, told, waits, with_session, without}
use Rattle.im_replies.specs.Management.{request_item}
use Rattle.im_replies.specs.Streams.{error_item}
use Rattle.im_replies.specs.declared.conditions.StreamCondition.TheVariants.{ResourceConstraint}
use Rattle.sim_4_links_follow.proofs.SessionRows.{asks_keeps}
use Rattle.sim_4_links_follow.proofs.GivenParts.{IsNotOf}
use Rattle.sim_4_links_follow.proofs.MorePipes.{more_put_out, sent_elsewhere}
use Rattle.sim_4_links_follow.proofs.OthersElsewhere.{apart_from}
use Rattle.sim_4_links_follow.proofs.Tellings.{quiet_elsewhere, quiet_more}
use Rattle.sim_4_links_follow.proofs.Thinned.{apart_row, conn_ends, not_its_conn, other_ends, session_kept}
use Rattle.sim_4_links_follow.proofs.Emitted.{puts_are_for, shut_is_for}
use Rattle.sim_4_links_follow.proofs.Found.{Keeps}
use Rattle.xml_writer.specs.Items.{Closing, ItemOut}

pub waits_keeps : (z : ItemOut) → Keeps (waits {A = ItemOut} z)
waits_keeps z = record { number = λ s. refl; account = λ s. refl; resource = λ s. refl; conn = λ s. refl }

-- one more may wait
pub one_more : (zs : List ItemOut) (z : ItemOut) → length zs ≤ MOST_UNACKNOWLEDGED → (length zs == MOST_UNACKNOWLEDGED) ≡ false → length (zs ++ z ∷ []) ≤ MOST_UNACKNOWLEDGED
one_more zs z few room =
    let size = length_push zs z in
    let less : length zs + 1 ≤ MOST_UNACKNOWLEDGED = below (length zs) few room in
    omega arith
  where
    by_cases : (n : ℕ) → n ≤ MOST_UNACKNOWLEDGED → (n ≡ MOST_UNACKNOWLEDGED → ⊥) → n + 1 ≤ MOST_UNACKNOWLEDGED
    by_cases n few apart = omega arith

    below : (n : ℕ) → n ≤ MOST_UNACKNOWLEDGED → (n == MOST_UNACKNOWLEDGED) ≡ false → n + 1 ≤ MOST_UNACKNOWLEDGED
    below n few room = by_cases n few (λ same. let there = eq-eqb n MOST_UNACKNOWLEDGED same in let no_way : ⊥ = cc in no_way)

-- ---- what a step is, as the device's part of it stays

module _ (who : Identity) (logins : ℕ → Login) (wires : Table ItemWire) (v : View ItemOut) (kept : LinkKept v) (first : List (Out ItemOut)) where
  abbrev pub Stands : Step ItemOut → Type 0
  Stands s = ServerRepresents who logins s.server_state v × PipesRepresent who logins (sent s.outs wires) v × ((k : ℕ) (c : Conn ItemOut) → v.conns k ≡ Some c → puts_on is_put_as_stanza k s.outs ≡ puts_on is_put_as_stanza k first)

  put_stands : (k : ℕ) (z : ItemOut) (s : Step ItemOut) → v.conns k ≡ None → Stands s → Stands (put k z s)
  put_stands k z s none stands = (
    stands.0,
    more_put_out who logins wires v s.outs (Put k z ∷ []) (sent_elsewhere who logins (sent s.outs wires) v stands.1 k (Put k z ∷ []) (puts_are_for k (z ∷ [])) none),
    λ j c is. quiet_more j s.outs (Put k z ∷ []) (quiet_elsewhere k j z (apart_from v k j c none is)) ∙ stands.2 j c is,
  )

  shut_stands : (k : ℕ) (s : Step ItemOut) → v.conns k ≡ None → Stands s → Stands (shut k s)
  shut_stands k s none stands =
      (conn_ends who logins s.server_state v stands.0 kept k none, more_put_out who logins wires v s.outs (Shut k ∷ []) (sent_elsewhere who logins (sent s.outs wires) v stands.1 k (Shut k ∷ []) (shut_is_for k) none), λ j c is. quiet_more j s.outs (Shut k ∷ []) refl ∙ stands.2 j c is)

  part_stands : (k : ℕ) (z : ItemOut) (s : Step ItemOut) → v.conns k ≡ None → Stands s → Stands (part itself k z s)
  part_stands k z s none stands = shut_stands k (put k Closing (put k z s)) none (put_stands k Closing (put k z s) none (put_stands k z s none stands))

  -- ---- to the session with a number

  module _ (n : ℕ) (z : ItemOut) (apart : IsNotOf v.row n) where
    asks_stands : (s : Step ItemOut) → Stands s → Stands (in_sessions (with_session n (asks true)) s)
    asks_stands s stands =
        (session_kept who logins s.server_state v stands.0 n (asks true) (asks_keeps true) (λ t is. stands.0.server_state.sessions.few n t is) (apart_row who logins s.server_state v stands.0 n (asks true) apart), stands.1, stands.2)

    module _ (o : Option ℕ) (away : (k : ℕ) → o ≡ Some k → v.conns k ≡ None) where
      where_stands : (s : Step ItemOut) → Stands s → Stands (put_where o z s)
      where_stands s stands = go o refl
        where
          go : (p : Option ℕ) → o ≡ p → Stands (put_where p z s)
          go None is = stands
          go (Some k) is = put_stands k z s (away k is) stands

      parts_stands : (s : Step ItemOut) (e : ItemOut) → Stands s → Stands (part_where itself o e s)
      parts_stands s e stands = go o refl
        where
          go : (p : Option ℕ) → o ≡ p → Stands (part_where itself p e s)
          go None is = stands
          go (Some k) is = part_stands k e s (away k is) stands

      ask_stands : (s : Step ItemOut) (b : Bool) → Stands s → Stands (ask_where itself n o b s)
      ask_stands s false stands = stands
      ask_stands s true stands = go o refl
        where
          go : (p : Option ℕ) → o ≡ p → Stands (ask_where itself n p true s)
          go None is = stands
          go (Some k) is = put_stands k request_item (in_sessions (with_session n (asks true)) s) (away k is) (asks_stands s stands)

    module _ (s : Step ItemOut) (stands : Stands s) (x : Session ItemOut) (is : session_of n s.server_state.sessions ≡ Some x) where
      away : (k : ℕ) → x.shown.conn ≡ Some k → v.conns k ≡ None
      away k on = not_its_conn who logins s.server_state v stands.0 n k x apart is on

      waits_stands : (length x.waiting == MOST_UNACKNOWLEDGED) ≡ false → Stands (in_sessions (with_session n (waits z)) s)
      waits_stands room = (session_kept who logins s.server_state v stands.0 n (waits z) (waits_keeps z) few (apart_row who logins s.server_state v stands.0 n (waits z) apart), stands.1, stands.2)
        where
          few : (t : Session ItemOut) → session_of n s.server_state.sessions ≡ Some t → length (t.waiting ++ z ∷ []) ≤ MOST_UNACKNOWLEDGED
          few t there =
              subst (λ (u : Session ItemOut). length (u.waiting ++ z ∷ []) ≤ MOST_UNACKNOWLEDGED) (same_Some x t (sym is ∙ there))
              (one_more x.waiting z (stands.0.server_state.sessions.few n x is) room)

      queue_stands : (length x.waiting == MOST_UNACKNOWLEDGED) ≡ false → Stands (queue itself n z (told x) s)
      queue_stands room =
          ask_stands x.shown.conn away (put_where x.shown.conn z (in_sessions (with_session n (waits z)) s)) (is_due (told x))
          (where_stands x.shown.conn away (in_sessions (with_session n (waits z)) s) (waits_stands room))

      overflow_stands : Stands (overflow itself n (told x) s)
      overflow_stands = parts_stands x.shown.conn away (in_sessions (without n) s) (error_item ResourceConstraint) (other_ends who logins s.server_state v stands.0 n apart, stands.1, stands.2)

      by_room : (b : Bool) → (length x.waiting == MOST_UNACKNOWLEDGED) ≡ b → Stands (cond b (overflow itself n (told x) s) (queue itself n z (told x) s))
      by_room true full = overflow_stands
      by_room false room = queue_stands room

      by_count : (b : Bool) → Stands (cond (not b) (put_where x.shown.conn z s) (cond (length x.waiting == MOST_UNACKNOWLEDGED) (overflow itself n (told x) s) (queue itself n z (told x) s)))
      by_count true = by_room (length x.waiting == MOST_UNACKNOWLEDGED) refl
      by_count false = where_stands x.shown.conn away s stands

    pub send_stands : (s : Step ItemOut) → Stands s → Stands (act itself (Send n z) s)
    send_stands s stands = go (session_of n s.server_state.sessions) refl
      where
        go : (o : Option (Session ItemOut)) → session_of n s.server_state.sessions ≡ o → Stands (send_by_info itself n z (option_map told o) s)
        go None is = stands
        go (Some x) is = by_count s stands x is x.shown.counted
