-- What the server has of a device behind a binding.
use Rattle.std.proofs.Common.{◌≡◌, ℕ, ◌+◌, ◌<◌, ◌^◌, true, false, List, [], ◌∷◌, ◌++◌, Some, None, refl, sym, subst, ◌⊎◌, inl, inr, arith}
use Rattle.std.proofs.lemmas.List.Elements.{All-nil}
use Rattle.std.specs.List.Sorted.{IsStrictlySortedBy}
use Rattle.std.specs.Map.{keys_of}
use Rattle.std.specs.Ordering.{nat_cmp}
use Rattle.srv_state.specs.State.{ServerState, conn_at}
use Rattle.srv_state.specs.declared.connection.Connection.{Connection}
use Rattle.sim_3_items.specs.Counted.{IsForClient}
use Rattle.sim_3_items.specs.Identities.{Identity, Login}
use Rattle.sim_3_items.specs.Servers.{IsRow, IsRowRepresented, ServerRepresents, conn_shown}
use Rattle.sim_2_links.specs.Stages.{Conn}
use Rattle.sim_2_links.specs.Views.{Row, Table, View}
use Rattle.sim_2_links.specs.Views as links
use Rattle.sm_live.specs.Rule.{IsRule}
use Rattle.sm_live.specs.Sessions.{Session, fresh, is_at, is_named, is_numbered, session_at, session_named, session_of}
use Rattle.sim_3_images.proofs.RuleKept.{found_is, found_pushed, numbered_here, rule_pushed, seat_is, seat_of}
use Rattle.sim_4_links_follow.proofs.Pushed.{named_last, numbers_below, newest_named, seat_pushed}
use Rattle.xml_writer.specs.Items.{ItemOut}

abbrev pub new_row : ℕ → ℕ → Row ItemOut
new_row m k = record { number = m; on = Some k; counted = false; acked = 0; handled = 0; queue = [] }

pub new_is_row : (m account : ℕ) (resource : List ℕ) (k : ℕ) → IsRow (new_row m k) (fresh m account resource k)
new_is_row m account resource k = record {
  number = refl;
  conn = refl;
  counted = refl;
  resumable = refl;
  acked = refl;
  handled = refl;
  waiting = refl;
  quiet = λ is. (refl, refl);
  for_client = All-nil IsForClient;
}

module _ (who : Identity) (logins : ℕ → Login) (h : ServerState ItemOut) (v : View ItemOut) (represents : ServerRepresents who logins h v) (k : ℕ) (left : List (Session ItemOut)) (conns : List (ℕ × Connection)) (rule : IsRule left h.next)
    (was : (m : ℕ) (s : Session ItemOut) → session_of m left ≡ Some s → session_of m h.sessions ≡ Some s) (seat : session_at k left ≡ None) (name : session_named who.account who.resource left ≡ None) (fits : h.next + 1 < 2 ^ 64) where
  abbrev pub bound_server_state : ServerState ItemOut
  bound_server_state = record h { sessions = left ++ fresh h.next who.account who.resource k ∷ []; next = h.next + 1; conns = conns }

  pub bound_represents : (cs : Table (Conn ItemOut)) (t : Table (links.Session ItemOut)) → ((q : ℕ) (u : links.Session ItemOut) → t q ≡ Some u → (q ≡ h.next) ⊎ ((old : links.Session ItemOut) × (v.sessions q ≡ Some old))) → IsStrictlySortedBy nat_cmp (keys_of conns) → ((j : ℕ) (e : Conn ItemOut) → cs j ≡ Some e → conn_at j bound_server_state ≡ conn_shown who (logins j) e)
      → ((j : ℕ) (e : Conn ItemOut) → cs j ≡ Some e → (d : Conn ItemOut) × (v.conns j ≡ Some d)) → ServerRepresents who logins bound_server_state (record v { conns = cs; row = Some (new_row h.next k); sessions = t; free = h.next + 1 })
  bound_represents cs t known sorted shown mine = record {
    served = record { domain = represents.served.domain; account = represents.served.account; found = represents.served.found; archive = represents.served.archive };
    server_state = record { sessions = rule_pushed h.next who.account who.resource k left rule fits seat name; conns = sorted };
    conns = shown;
    row = subst (IsRowRepresented (Some (new_row h.next k))) (sym (named_last h.next who.account who.resource k left rule fits seat name)) (new_is_row h.next who.account who.resource k);
    seated = λ j e s there at. seated j e s there (seat_pushed h.next who.account who.resource k left rule fits seat name j s at);
    owned = λ q u s there found. owned q s (known q u there) (found_pushed (is_numbered q) left (fresh h.next who.account who.resource k) s found);
    free = omega arith;
  }
    where
      new_named : (s : Session ItemOut) → fresh h.next who.account who.resource k ≡ s → is_named who.account who.resource s ≡ true
      new_named s same = subst (λ u. is_named who.account who.resource u ≡ true) same (newest_named h.next who.account who.resource k left rule fits seat name)

      owned : (q : ℕ) (s : Session ItemOut) → (q ≡ h.next) ⊎ ((old : links.Session ItemOut) × (v.sessions q ≡ Some old))
          → (session_of q left ≡ Some s) ⊎ ((session_of q left ≡ None) × (fresh {A = ItemOut} h.next who.account who.resource k ≡ s) × (is_numbered {A = ItemOut} q (fresh h.next who.account who.resource k) ≡ true)) → is_named who.account who.resource s ≡ true
      owned q s old (inr new) = new_named s new.1
      owned q s (inr old) (inl there) = represents.owned q old.0 s old.1 (was q s there)
      owned q s (inl same) (inl there) = let below = numbers_below h.next 1 q h.sessions s represents.server_state.sessions.ascending (was q s there) in absurd (let no_way : ⊥ = omega arith in no_way)

      seated : (j : ℕ) (e : Conn ItemOut) (s : Session ItemOut) → cs j ≡ Some e → (session_at j left ≡ Some s) ⊎ (fresh h.next who.account who.resource k ≡ s) → is_named who.account who.resource s ≡ true
      seated j e s there (inl at) =
          let d = mine j e there in
          let numbered = was s.shown.number s (numbered_here (is_at j) h.next 1 left s rule.ascending at) in
          represents.seated j d.0 s d.1 (seat_of h.next j h.sessions s represents.server_state.sessions numbered (seat_is s.shown.conn j (found_is (is_at j) left s at)))
      seated j e s there (inr same) = subst (λ u. is_named who.account who.resource u ≡ true) same (newest_named h.next who.account who.resource k left rule fits seat name)
