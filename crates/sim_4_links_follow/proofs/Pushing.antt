-- A session is bound for one device: what the server has of the others stays.
use Rattle.std.proofs.Common.{◌≡◌, ℕ, ◌+◌, ◌<◌, ◌^◌, Bool, true, false, List, [], ◌∷◌, ◌++◌, Some, None, refl, sym, subst, ◌⊎◌, inl, inr, arith}
use Rattle.std.proofs.lemmas.Bool.{cases_Bool, eqb-true}
use Rattle.std.proofs.lemmas.Option.{same_Some}
use Rattle.std.specs.List.{find}
use Rattle.srv_state.specs.State.{ServerState}
use Rattle.sim_3_items.specs.Identities.{Identity, Login}
use Rattle.sim_3_items.specs.Servers.{IsRowRepresented, ServerRepresents}
use Rattle.sim_2_links.proofs.Numbers.{reached_rises}
use Rattle.sim_2_links.specs.Machine.{LinkReached}
use Rattle.sim_2_links.specs.Stages.{Conn}
use Rattle.sim_2_links.specs.Views.{View}
use Rattle.sim_2_links.specs.Views as links
use Rattle.sm_live.specs.Sessions.{Session, fresh, is_at, is_named, is_numbered, session_at, session_named, session_of}
use Rattle.sim_3_images.proofs.RuleKept.{found_pushed, named_as, rule_pushed, seat_is}
use Rattle.sim_4_links_follow.specs.Taking.{AreApart}
use Rattle.xml_writer.specs.Items.{ItemOut}

-- what doesn't fit is not found
pushed_past : {A : Type 0} (p : A → Bool) (ss : List A) (f : A) → p f ≡ false → find p (ss ++ f ∷ []) ≡ find p ss
pushed_past p [] f not_it = rw not_it refl
pushed_past p (x ∷ ss) f not_it = elim (cases_Bool (p x)) [ inl here ↦ rw here refl | inr other ↦ rw other (pushed_past p ss f not_it) ]

module _ (who whom : Identity) (others : ℕ → Login) (h : ServerState ItemOut) (u : View ItemOut) (apart : AreApart who whom) (reached : LinkReached u) (represents : ServerRepresents whom others h u) (k : ℕ) (off : u.conns k ≡ None)
    (seat : session_at k h.sessions ≡ None) (name : session_named who.account who.resource h.sessions ≡ None) (fits : h.next + 1 < 2 ^ 64) where
  abbrev newest : Session ItemOut
  newest = fresh h.next who.account who.resource k

  abbrev pub pushed : ServerState ItemOut
  pushed = record h { sessions = h.sessions ++ fresh h.next who.account who.resource k ∷ []; next = h.next + 1 }

  not_its : is_named whom.account whom.resource newest ≡ false
  not_its =
      elim (cases_Bool (is_named whom.account whom.resource newest)) [
        | inl its ↦ let n = named_as whom.account whom.resource newest its in absurd (apart.name n.0 n.1)
        | inr other ↦ other
      ]

  pub pushed_stays : ServerRepresents whom others pushed u
  pushed_stays = record {
    served = record { domain = represents.served.domain; account = represents.served.account; found = represents.served.found; archive = represents.served.archive };
    server_state = record { sessions = rule_pushed h.next who.account who.resource k h.sessions represents.server_state.sessions fits seat name; conns = represents.server_state.conns };
    conns = represents.conns;
    row = subst (IsRowRepresented u.row) (sym (pushed_past (is_named whom.account whom.resource) h.sessions newest not_its)) represents.row;
    seated = λ j e s there at. seated j e s there (found_pushed (is_at j) h.sessions newest s at);
    owned = λ q t s there found. owned q t s there (found_pushed (is_numbered q) h.sessions newest s found);
    free = let old = represents.free in omega arith;
  }
    where
      seated : (j : ℕ) (e : Conn ItemOut) (s : Session ItemOut) → u.conns j ≡ Some e → (session_at j h.sessions ≡ Some s) ⊎ ((session_at j h.sessions ≡ None) × (newest ≡ s) × (is_at j newest ≡ true)) → is_named whom.account whom.resource s ≡ true
      seated j e s there (inl was) = represents.seated j e s there was
      seated j e s there (inr new) =
          let same : k ≡ j = same_Some k j (seat_is (Some k) j new.2) in
          let none : u.conns j ≡ None = subst (λ n. u.conns n ≡ None) same off in
          absurd (let no_way : ⊥ = cc in no_way)

      owned : (q : ℕ) (t : links.Session ItemOut) (s : Session ItemOut) → u.sessions q ≡ Some t → (session_of q h.sessions ≡ Some s) ⊎ ((session_of q h.sessions ≡ None) × (newest ≡ s) × (is_numbered q newest ≡ true))
          → is_named whom.account whom.resource s ≡ true
      owned q t s there (inl was) = represents.owned q t s there was
      owned q t s there (inr new) =
          let same : h.next ≡ q = eqb-true h.next q new.2 in
          let given = (reached_rises u reached).given q t there in
          let free = represents.free in
          absurd (let no_way : ⊥ = omega arith in no_way)
