-- Acts for one device, each of which leaves another one as it is.
use Rattle.std.proofs.Common.{◌≡◌, ◌≢◌, ℕ, ◌==◌, Bool, true, false, not, List, [], ◌∷◌, Option, Some, None, refl, ap, subst, inl, inr}
use Rattle.std.proofs.lemmas.Bool.{cases_Bool, eqb-true}
use Rattle.std.proofs.lemmas.Option.{same_Some}
use Rattle.sm_acks.specs.Counters.{ahead}
use Rattle.sm_acks.specs.declared.end.TheConstants.{MOST_UNACKNOWLEDGED}
use Rattle.srv_state.specs.State.{Put, ServerState, Shut, Step, with_sessions, without_conn}
use Rattle.srv_state.specs.Steps.{Act, Ask, Close, Say, act, acted, put, shut}
use Rattle.srv_state.specs.Streams.{parting_where}
use Rattle.sim_3_items.specs.Identities.{Identity, Login}
use Rattle.sim_3_items.specs.Servers.{ServerRepresents}
use Rattle.sim_3_items.specs.ItemWorlds.{itself}
use Rattle.sim_2_links.specs.Links.{LinkKept}
use Rattle.sim_2_links.specs.Views.{View}
use Rattle.sm_live.specs.Sessions.{Session, asks, is_at, parked, resumes, session_at, session_named, with_session, without}
use Rattle.sim_4_links_follow.proofs.OthersElsewhere.{AreElsewhere, both_elsewhere, put_elsewhere, shut_elsewhere}
use Rattle.sim_4_links_follow.proofs.OthersServerStates.{Carries, IsNotOf, changed_stays, conn_apart, conn_stays, number_apart, thinned_stays}
use Rattle.im_replies.specs.Management.{request_item}
use Rattle.sim_3_images.proofs.RuleKept.{seat_is}
use Rattle.sim_4_links_follow.proofs.SessionRows.{fewer}
use Rattle.srv_handlers.specs.Resumptions.{asking, saying}
use Rattle.xml_writer.specs.Items.{Closing, ItemOut}

-- ---- changes of a session

abbrev Nowhere : ℕ → Type 0
Nowhere j = ⊥

asks_carry : (on : Bool) → Carries Nowhere (asks on)
asks_carry on = record { number = λ s. refl; account = λ s. refl; resource = λ s. refl; conn = λ s j is. inr is; few = λ s few. few }

parked_carry : (now : ℕ) → Carries Nowhere (parked now)
parked_carry now = record { number = λ s. refl; account = λ s. refl; resource = λ s. refl; conn = λ s j is. absurd (let no_way : ⊥ = cc in no_way); few = λ s few. few }

resumes_carry : (n k : ℕ) → Carries (λ j. k ≡ j) (resumes n k)
resumes_carry n k = record {
  number = λ s. refl;
  account = λ s. refl;
  resource = λ s. refl;
  conn = λ s j is. inl (same_Some k j is);
  few = λ s few. fewer (ahead n s.acked) MOST_UNACKNOWLEDGED s.waiting few;
}

module _ (whom : Identity) (others : ℕ → Login) (u : View ItemOut) (kept : LinkKept u) where
  -- the device is shown behind these steps, of which nothing went to it
  pub record Stays (s : Step ItemOut) : Type 0 where
    pub server : ServerRepresents whom others s.server_state u
    pub outs : AreElsewhere u s.outs

  abbrev pub Leave : List (Act ItemOut) → Type 0
  Leave acts = (s : Step ItemOut) → Stays s → Stays (acted itself acts s)

  put_stays : (k : ℕ) (i : ItemOut) (s : Step ItemOut) → u.conns k ≡ None → Stays s → Stays (put k i s)
  put_stays k i s none stays = record { server = stays.server; outs = both_elsewhere u s.outs (Put k i ∷ []) stays.outs (put_elsewhere u k i none) }

  -- one that isn't on a connection of another device
  not_on : (k : ℕ) (h : ServerState ItemOut) (t : Session ItemOut) → u.conns k ≡ None → ServerRepresents whom others h u → session_named whom.account whom.resource h.sessions ≡ Some t → not (is_at k t) ≡ true
  not_on k h t none represents named =
      elim (cases_Bool (is_at k t)) [
        | inl on ↦ absurd (conn_apart whom others h u represents k t kept none named (seat_is t.shown.conn k on))
        | inr off ↦ ap not off
      ]

  shut_stays : (k : ℕ) (s : Step ItemOut) → u.conns k ≡ None → Stays s → Stays (shut k s)
  shut_stays k s none stays =
      let left = conn_stays whom others s.server_state u stays.server k none in
      record {
        server = thinned_stays whom others (without_conn k s.server_state) u left (λ t. not (is_at k t)) (λ t named. not_on k s.server_state t none stays.server named);
        outs = both_elsewhere u s.outs (Shut k ∷ []) stays.outs (shut_elsewhere u k none);
      }

  -- ---- one session

  abbrev pub left_out : ℕ → Session ItemOut → Bool
  left_out n t = not (t.shown.number == n)

  not_numbered : (n : ℕ) (t : Session ItemOut) → t.shown.number ≢ n → left_out n t ≡ true
  not_numbered n t apart = elim (cases_Bool (t.shown.number == n)) [ inl same ↦ absurd (apart (eqb-true t.shown.number n same)) | inr other ↦ ap not other ]

  -- it ends
  pub ended_stays : (n : ℕ) (h : ServerState ItemOut) → IsNotOf u n → ServerRepresents whom others h u → ServerRepresents whom others (with_sessions (without n h.sessions) h) u
  ended_stays n h not_of represents = thinned_stays whom others h u represents (left_out n) (λ t named. not_numbered n t (number_apart whom others h u represents n t not_of named))

  -- it is parked
  pub parked_stays : (n now : ℕ) (h : ServerState ItemOut) → IsNotOf u n → ServerRepresents whom others h u → ServerRepresents whom others (with_sessions (with_session n (parked now) h.sessions) h) u
  parked_stays n now h not_of represents = changed_stays whom others h u represents n Nowhere (parked now) (parked_carry now) (λ j is. absurd is) not_of

  -- it comes to a connection that has no session
  pub resumed_stays : (n m k : ℕ) (h : ServerState ItemOut) → IsNotOf u n → u.conns k ≡ None → session_at k h.sessions ≡ None → ServerRepresents whom others h u → ServerRepresents whom others (with_sessions (with_session n (resumes m k) h.sessions) h) u
  resumed_stays n m k h not_of none nobody represents = changed_stays whom others h u represents n (λ j. k ≡ j) (resumes m k) (resumes_carry m k) free not_of
    where
      free : (j : ℕ) → k ≡ j → (u.conns j ≡ None) × (session_at j h.sessions ≡ None)
      free j same = subst (λ i. (u.conns i ≡ None) × (session_at i h.sessions ≡ None)) same (none, nobody)

  -- ---- acts

  pub leave_nothing : Leave []
  leave_nothing s stays = stays

  pub leave_say : (k : ℕ) (i : ItemOut) (more : List (Act ItemOut)) → u.conns k ≡ None → Leave more → Leave (Say k i ∷ more)
  leave_say k i more none rest s stays = rest (put k i s) (put_stays k i s none stays)

  pub leave_close : (k : ℕ) (more : List (Act ItemOut)) → u.conns k ≡ None → Leave more → Leave (Close k ∷ more)
  leave_close k more none rest s stays = rest (shut k s) (shut_stays k s none stays)

  pub leave_ask : (n : ℕ) (on : Bool) (more : List (Act ItemOut)) → IsNotOf u n → Leave more → Leave (Ask n on ∷ more)
  leave_ask n on more not_of rest s stays =
      rest (act itself (Ask n on) s) (record { server = changed_stays whom others s.server_state u stays.server n Nowhere (asks on) (asks_carry on) (λ j is. absurd is) not_of; outs = stays.outs })

  pub leave_parting : (o : Option ℕ) (error : ItemOut) (more : List (Act ItemOut)) → ((k : ℕ) → o ≡ Some k → u.conns k ≡ None) → Leave more → Leave (parting_where itself o error more)
  leave_parting None error more none rest = rest
  leave_parting (Some k) error more none rest =
      let off = none k refl in
      leave_say k error (Say k Closing ∷ Close k ∷ more) off (leave_say k Closing (Close k ∷ more) off (leave_close k more off rest))

  pub leave_saying : (k : ℕ) (items : List ItemOut) (more : List (Act ItemOut)) → u.conns k ≡ None → Leave more → Leave (saying k items more)
  leave_saying k [] more none rest = rest
  leave_saying k (i ∷ items) more none rest = leave_say k i (saying k items more) none (leave_saying k items more none rest)

  pub leave_asking : (k n : ℕ) (due : Bool) → u.conns k ≡ None → IsNotOf u n → Leave (asking itself k n due)
  leave_asking k n true none not_of = leave_ask n true (Say k request_item ∷ []) not_of (leave_say k request_item [] none leave_nothing)
  leave_asking k n false none not_of = leave_nothing
