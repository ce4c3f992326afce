-- Of each epoch that a client has reached its device has a session.
use Rattle.std.proofs.Common.{◌≡◌, ℕ, ◌+◌, ◌≤◌, leb, Bool, true, false, cond, List, [], ◌∷◌, ◌++◌, Some, refl, sym, ap, ◌∙◌, subst, arith, inl, inr}
use Rattle.std.proofs.lemmas.Bool.{cases_Bool, leb-false, leb-true}
use Rattle.std.proofs.lemmas.Option.{none-some, same_Some}
use Rattle.sim_2_links.proofs.Entries.{Entry, New, Old, altered, at_other, entry, has_is, has_same, was}
use Rattle.sim_2_links.proofs.Seen.{run_seen}
use Rattle.sim_2_links.specs.Events.{Bound, Counted, Dropped, Ended, Follows, Handled, Heard, Known, Learned, LinkEvent, May, Named, Said, Seen, SeenSession, Served, after, new_session, seen}
use Rattle.sim_2_links.specs.Machine.{LinkReached, nothing_yet}
use Rattle.sim_2_links.specs.Views.{Table, View, alter, has}

module _ {A : Type 0} where
  abbrev pub HasSession : Table (SeenSession A) → ℕ → Type 0
  HasSession sessions e = (q : ℕ) × (t : SeenSession A) × (sessions q ≡ Some t) × (t.epoch ≡ Some e)

  pub record AreReached (epoch : ℕ) (sessions : Table (SeenSession A)) : Type 0 where
    pub each : (e : ℕ) → 1 ≤ e → e ≤ epoch → HasSession sessions e
    pub some : (q e : ℕ) (t : SeenSession A) → sessions q ≡ Some t → t.epoch ≡ Some e → 1 ≤ e

  -- ---- an event that leaves all epochs

  altered_reached : (epoch : ℕ) (sessions : Table (SeenSession A)) (f : ℕ → SeenSession A → SeenSession A) → ((q : ℕ) (t : SeenSession A) → (f q t).epoch ≡ t.epoch) → AreReached epoch sessions → AreReached epoch (alter f sessions)
  altered_reached epoch sessions f same are = record {
    each = λ e low high. let x = are.each e low high in (x.0, f x.0 x.1, altered f sessions x.0 x.1 x.2, same x.0 x.1 ∙ x.3);
    some = λ q e t at is. let w = was f sessions q t at in are.some q e w.0 w.1 (sym (same q w.0) ∙ ap (λ (u : SeenSession A). u.epoch) w.2 ∙ is);
  }

  -- ---- a session is bound

  bound_some : (m : ℕ) (sessions : Table (SeenSession A)) (epoch q e : ℕ) (t : SeenSession A) → AreReached epoch sessions → Entry m new_session sessions q t → t.epoch ≡ Some e → 1 ≤ e
  bound_some m sessions epoch q e t are (New here same) is = absurd (none-some e (ap (λ (u : SeenSession A). u.epoch) same ∙ is))
  bound_some m sessions epoch q e t are (Old apart there) is = are.some q e t there is

  -- ---- its client reads so

  module _ (m : ℕ) (s : Seen A) (may : May (Named m) s) (are : AreReached s.epoch s.sessions) where
    abbrev naming : ℕ → SeenSession A → SeenSession A
    naming q t = record t { epoch = cond (has (Some m) q) (Some (s.epoch + 1)) t.epoch }

    named_each : (e : ℕ) → 1 ≤ e → e ≤ s.epoch + 1 → HasSession (alter naming s.sessions) e
    named_each e low high = elim (cases_Bool (leb e s.epoch)) [
      | inl before ↦
          let x = are.each e low (leb-true e s.epoch before) in
          (x.0, naming x.0 x.1, altered naming s.sessions x.0 x.1 x.2, by x.0 x.1 x.2 x.3 (has (Some m) x.0) refl)
      | inr following ↦
          let t = may.1 in
          let above = leb-false e s.epoch following in
          let same : s.epoch + 1 ≡ e = omega (arith, high, above) in
          (m, naming m t.0, altered naming s.sessions m t.0 t.1, ap (λ b. cond b (Some (s.epoch + 1)) t.0.epoch) (has_same m) ∙ ap Some same)
    ]
      where
        by : (q : ℕ) (t : SeenSession A) → s.sessions q ≡ Some t → t.epoch ≡ Some e → (b : Bool) → has (Some m) q ≡ b → (naming q t).epoch ≡ Some e
        by q t at is false off = ap (λ b. cond b (Some (s.epoch + 1)) t.epoch) off ∙ is
        by q t at is true on =
            let here : m ≡ q = same_Some m q (has_is (Some m) q on) in
            let one : may.1.0 ≡ t = same_Some may.1.0 t (sym (ap s.sessions (sym here) ∙ may.1.1) ∙ at) in
            absurd (none-some e (sym may.1.2 ∙ ap (λ (u : SeenSession A). u.epoch) one ∙ is))

    named_some : (q e : ℕ) (t : SeenSession A) → alter naming s.sessions q ≡ Some t → t.epoch ≡ Some e → 1 ≤ e
    named_some q e t at is = by (has (Some m) q) refl
      where
        by : (b : Bool) → has (Some m) q ≡ b → 1 ≤ e
        by true on =
            let w = was naming s.sessions q t at in
            let same : s.epoch + 1 ≡ e = same_Some (s.epoch + 1) e (ap (λ b. cond b (Some (s.epoch + 1)) w.0.epoch) (sym on) ∙ ap (λ (u : SeenSession A). u.epoch) w.2 ∙ is) in
            omega (arith, same)
        by false off =
            let w = was naming s.sessions q t at in
            are.some q e w.0 w.1 (ap (λ b. cond b (Some (s.epoch + 1)) w.0.epoch) (sym off) ∙ ap (λ (u : SeenSession A). u.epoch) w.2 ∙ is)

  -- ---- each event

  after_reached : (e : LinkEvent A) (s : Seen A) → May e s → AreReached s.epoch s.sessions → AreReached (after e s).epoch (after e s).sessions
  after_reached (Bound m) s may are = record {
    each = λ e low high.
        let x = are.each e low high in
        (x.0, x.1, at_other m new_session s.sessions x.0 (λ same. let above = may.1 x.0 x.1 x.2 in absurd (omega (arith, same, above))) ∙ x.2, x.3);
    some = λ q e t at is. bound_some m s.sessions s.epoch q e t are (entry m new_session s.sessions q t at) is;
  }
  after_reached (Named m) s may are = record { each = named_each m s may are; some = named_some m s may are }
  after_reached (Counted p) s may are = altered_reached s.epoch s.sessions (λ q t. record t { counted = cond (has (Some p) q) true t.counted }) (λ q t. refl) are
  after_reached (Known p) s may are = altered_reached s.epoch s.sessions (λ q t. record t { known = cond (has (Some p) q) true t.known }) (λ q t. refl) are
  after_reached (Ended p) s may are = are
  after_reached (Dropped p) s may are = are
  after_reached (Said p z) s may are = altered_reached s.epoch s.sessions (λ q t. record t { up_put = cond (has (Some p) q) (t.up_put ++ z ∷ []) t.up_put }) (λ q t. refl) are
  after_reached (Handled p z) s may are = altered_reached s.epoch s.sessions (λ q t. record t { up_got = cond (has (Some p) q) (t.up_got ++ z ∷ []) t.up_got }) (λ q t. refl) are
  after_reached (Served p z) s may are = altered_reached s.epoch s.sessions (λ q t. record t { down_put = cond (has (Some p) q) (t.down_put ++ z ∷ []) t.down_put }) (λ q t. refl) are
  after_reached (Heard p z) s may are = altered_reached s.epoch s.sessions (λ q t. record t { down_got = cond (has (Some p) q) (t.down_got ++ z ∷ []) t.down_got }) (λ q t. refl) are
  after_reached (Learned p n) s may are = altered_reached s.epoch s.sessions (λ q t. record t { acked = cond (has (Some p) q) n t.acked }) (λ q t. refl) are

  along : (es : List (LinkEvent A)) (s last : Seen A) → Follows es s last → AreReached s.epoch s.sessions → AreReached last.epoch last.sessions
  along [] s last is are = subst (λ (u : Seen A). AreReached u.epoch u.sessions) (sym is) are
  along (e ∷ es) s last follows are = along es (after e s) last follows.1 (after_reached e s follows.0 are)

  none_reached : AreReached (seen (nothing_yet {A = A})).epoch (seen (nothing_yet {A = A})).sessions
  none_reached = record { each = λ e low high. absurd (omega (arith, low, high)); some = λ q e t at is. absurd (none-some t at) }

  pub all_reached : (v : View A) → LinkReached v → AreReached (seen v).epoch (seen v).sessions
  all_reached v reached = let run = run_seen v reached in along run.0 (seen nothing_yet) (seen v) run.1 none_reached
