-- Each event is an act that may happen, and leads to the sessions that are seen behind it.
use Rattle.std.proofs.Common.{◌≡◌, ◌≢◌, ℕ, ◌+◌, ◌≤◌, Bool, true, false, [], ◌∷◌, ◌++◌, length, map, refl, sym, ap, ◌∙◌, subst, arith, ◌⊎◌, inl, inr, Option, None, Some, if◌then◌else◌}
use Rattle.std.proofs.lemmas.Bool.{cases_eq}
use Rattle.std.proofs.lemmas.List.{length_push, length-map}
use Rattle.std.specs.List.{slice_get}
use Rattle.sim_2_links.proofs.Entries.{same_number, other_number, at_same, at_other, Entry, New, Old, entry, was, altered, has_is, is_has}
use Rattle.sim_2_links.proofs.CutLinks.{not_true, some_one, some_same}
use Rattle.sim_2_links.proofs.Hands.{no_entry}
use Rattle.sim_2_links.specs.Views.{alter, has}
use Rattle.sim_2_links.specs.Events.{SeenSession, Seen, new_session, LinkEvent, Bound, Named, Counted, Known, Ended, Dropped, Said, Handled, Served, Heard, Learned}
use Rattle.sim_2_links.specs.Events as links
use Rattle.sim_1_applications.specs.Devices.{Session, Sessions, fresh}
use Rattle.sim_1_applications.specs.Devices.Row.{NoRow, Unread, Present}
use Rattle.sim_1_applications.specs.Events.{binds, reads_bound, counts, end_row, goes_offline, put_up, put_down, moved_up, moved_down, acknowledged}
use Rattle.sim_1_applications.specs.Events.Act.{ReadBound}
use Rattle.sim_2_events.proofs.Lists.{at_before, at_end, last_or_before}
use Rattle.sim_2_events.proofs.Sessions.{new_is_fresh, next_up, next_down, said_session, served_session, handled_session, heard_session, learned_session, counted_session, known_session, is_named, is_counted, not_named}
use Rattle.sim_2_events.proofs.Changes.{IsOf, present_changes}
use Rattle.sim_2_events.specs.Lists.{Stanzas, IsSession, IsRow, IsOnline, IsDevice, knows}
use Rattle.sim_2_events.specs.Acts.{MayAct, IsAct}

abbrev pub Leads : {A : Type 0} → Stanzas A → LinkEvent A → Seen A → Sessions → Type 0
Leads r e v d = (next : Sessions) × IsAct r e v d next × IsDevice r (links.after e v) next

-- the session that the server has live, where it has the present epoch, and the client's

live_session : {A : Type 0} (r : Stanzas A) (v : Seen A) (d : Sessions) (p : ℕ) → IsDevice r v d → v.live ≡ Some p → (t : SeenSession A) × (v.sessions p ≡ Some t) × (((t.epoch ≡ None) × (d.row ≡ Unread)) ⊎ ((t.epoch ≡ Some v.epoch) × (d.row ≡ Present)))
live_session r v d p a live = subst (λ o. IsRow v d.row o) live a.row

is_present : {A : Type 0} (r : Stanzas A) (v : Seen A) (d : Sessions) (p : ℕ) (t : SeenSession A) → IsDevice r v d → v.live ≡ Some p → v.sessions p ≡ Some t → t.epoch ≡ Some v.epoch → d.row ≡ Present
is_present {A = A} r v d p t a live is present =
    let l = live_session r v d p a live in
    let one : l.0 ≡ t = some_one (v.sessions p) l.0 t l.1 is in
    elim l.2 [ inl e ↦ no_entry v.epoch (sym e.0 ∙ ap (λ (x : SeenSession A). x.epoch) one ∙ present) | inr e ↦ e.1 ]

own_session : {A : Type 0} (r : Stanzas A) (v : Seen A) (d : Sessions) (p : ℕ) → IsDevice r v d → v.own ≡ Some p → (d.online ≡ true) × ((t : SeenSession A) × (v.sessions p ≡ Some t) × (t.epoch ≡ Some v.epoch))
own_session r v d p a own = subst (λ o. IsOnline v d.online o) own a.online

offline : {A : Type 0} (r : Stanzas A) (v : Seen A) (d : Sessions) → IsDevice r v d → v.own ≡ None → d.online ≡ false
offline r v d a own = subst (λ o. IsOnline v d.online o) own a.online

-- a session is bound

pub bound_leads : {A : Type 0} (r : Stanzas A) (v : Seen A) (d : Sessions) (m : ℕ) → links.May (Bound m) v → IsDevice r v d → Leads r (Bound m) v d
bound_leads {A = A} r v d m may a = (
  binds d,
  (λ w e. tt, refl),
  record {
    epoch = a.epoch;
    now = λ q t found e. now q t e (entry m new_session v.sessions q t found);
    past = λ q n t found e low. past q n t e low (entry m new_session v.sessions q t found);
    below = λ q n t found e. below q n t e (entry m new_session v.sessions q t found);
    once = λ q n e t u found there is_t is_u. once q n e t u is_t is_u (entry m new_session v.sessions q t found) (entry m new_session v.sessions n u there);
    unread = λ q t found none. unread q t none (entry m new_session v.sessions q t found);
    newest = λ p q t live found. newest p q t live (entry m new_session v.sessions q t found);
    row = (new_session, at_same m new_session v.sessions, inl (refl, refl));
    online = online v.own a.online;
  },
)
  where
    none : (q e : ℕ) (t : SeenSession A) → new_session ≡ t → t.epoch ≡ Some e → ⊥
    none q e t one is = no_entry e (ap (λ (x : SeenSession A). x.epoch) one ∙ is)

    now : (q : ℕ) (t : SeenSession A) → t.epoch ≡ Some v.epoch → Entry m new_session v.sessions q t → IsSession r t d.now
    now q t e (New same one) = absurd (none q v.epoch t one e)
    now q t e (Old ne there) = a.now q t there e

    past : (q e : ℕ) (t : SeenSession A) → t.epoch ≡ Some e → e + 1 ≤ v.epoch → Entry m new_session v.sessions q t → (s : Session) × (slice_get d.past e ≡ Some s) × IsSession r t s
    past q e t is low (New same one) = absurd (none q e t one is)
    past q e t is low (Old ne there) = a.past q e t there is low

    below : (q e : ℕ) (t : SeenSession A) → t.epoch ≡ Some e → Entry m new_session v.sessions q t → e ≤ v.epoch
    below q e t is (New same one) = absurd (none q e t one is)
    below q e t is (Old ne there) = a.below q e t there is

    once : (q n e : ℕ) (t u : SeenSession A) → t.epoch ≡ Some e → u.epoch ≡ Some e → Entry m new_session v.sessions q t → Entry m new_session v.sessions n u → q ≡ n
    once q n e t u is_t is_u (New same one) x = absurd (none q e t one is_t)
    once q n e t u is_t is_u (Old ne there) (New same one) = absurd (none n e u one is_u)
    once q n e t u is_t is_u (Old ne there) (Old other found) = a.once q n e t u there found is_t is_u

    unread : (q : ℕ) (t : SeenSession A) → t.epoch ≡ None → Entry m new_session v.sessions q t → t ≡ new_session
    unread q t e (New same one) = sym one
    unread q t e (Old ne there) = a.unread q t there e

    newest : (p q : ℕ) (t : SeenSession A) → Some m ≡ Some p → Entry m new_session v.sessions q t → q ≤ p
    newest p q t live (New same one) = let e = some_same m p live in omega arith
    newest p q t live (Old ne there) = let e = some_same m p live in let low = may.1 q t there in omega arith

    online : (own : Option ℕ) → IsOnline v d.online own → IsOnline (links.after (Bound m) v) d.online own
    online None x = x
    online (Some p) (yes_online, (t, is, present)) =
        let low = may.1 p t is in
        let ne : m ≢ p = λ same. absurd (omega arith) in
        (yes_online, (t, at_other m new_session v.sessions p ne ∙ is, present))

-- the client reads that one was bound

may_read : (b : Bool) (d : Sessions) → d.online ≡ false → (b ≡ true → d.row ≡ Unread) → (b ≡ false → d.row ≢ Present) → MayAct (ReadBound b) d
may_read true d off live dead w e = (ap (λ (x : Sessions). x.online) e ∙ off, ap (λ (x : Sessions). x.row) e ∙ live refl)
may_read false d off live dead w e = (ap (λ (x : Sessions). x.online) e ∙ off, λ n. dead refl (sym (ap (λ (x : Sessions). x.row) e) ∙ n))

pub named_leads : {A : Type 0} (r : Stanzas A) (v : Seen A) (d : Sessions) (m : ℕ) → links.May (Named m) v → IsDevice r v d → Leads r (Named m) v d
named_leads {A = A} r v d m may a = (
  reads_bound (has v.live m) d,
  (may_read (has v.live m) d (offline r v d a may.0) live dead, refl),
  record {
    epoch = (let len = length_push d.past d.now in let e = a.epoch in omega arith);
    now = λ q u found e. now q u e (named q u found);
    past = λ q e u found is low. past q e u is low (named q u found);
    below = λ q e u found is. below q e u is (named q u found);
    once = λ q n e u x found there is_u is_x. once q n e u x is_u is_x (named q u found) (named n x there);
    unread = λ q u found none. unread q u none (named q u found);
    newest = λ p q u is found. let w = was f v.sessions q u found in a.newest p q w.0 is w.1;
    row = row v.live refl a.row;
    online = subst (λ o. IsOnline (links.after (Named m) v) d.online o) (sym may.0) (offline r v d a may.0);
  },
)
  where
    f : ℕ → SeenSession A → SeenSession A
    f = λ q t. record t { epoch = if has (Some m) q then Some (v.epoch + 1) else t.epoch }

    this : SeenSession A
    this = record new_session { epoch = Some (v.epoch + 1) }

    t : SeenSession A
    t = may.1.0

    is_new : may.1.0 ≡ new_session
    is_new = a.unread m may.1.0 may.1.1 may.1.2

    is_this : (q : ℕ) (s : SeenSession A) → m ≡ q → s ≡ new_session → f q s ≡ record new_session { epoch = Some (v.epoch + 1) }
    is_this q s same fresh_one = ap (f q) fresh_one ∙ rw (is_has (Some m) q (ap Some same)) refl

    epoch_here : (q : ℕ) (s : SeenSession A) → m ≡ q → (f q s).epoch ≡ Some (v.epoch + 1)
    epoch_here q s same = rw (is_has (Some m) q (ap Some same)) refl

    is_other : (q : ℕ) (s : SeenSession A) → m ≢ q → f q s ≡ s
    is_other q s ne = let e = other_number m q ne in rw e refl

    named : (q : ℕ) (u : SeenSession A) → alter f v.sessions q ≡ Some u → ((m ≡ q) × (u ≡ record new_session { epoch = Some (v.epoch + 1) })) ⊎ ((m ≢ q) × (v.sessions q ≡ Some u))
    named q u found =
        let w = was f v.sessions q u found in
        elim (cases_eq m q) [
          | inl same ↦
              let one : may.1.0 ≡ w.0 = some_one (v.sessions q) may.1.0 w.0 (subst (λ n. v.sessions n ≡ Some may.1.0) same may.1.1) w.1 in
              inl (same, sym w.2 ∙ is_this q w.0 same (sym one ∙ is_new))
          | inr ne ↦ inr (ne, w.1 ∙ ap Some (sym (is_other q w.0 ne) ∙ w.2))
        ]

    epoch_this : (u : SeenSession A) (e : ℕ) → u ≡ record new_session { epoch = Some (v.epoch + 1) } → u.epoch ≡ Some e → v.epoch + 1 ≡ e
    epoch_this u e one is = some_same (v.epoch + 1) e (sym (ap (λ (x : SeenSession A). x.epoch) one) ∙ is)

    now : (q : ℕ) (u : SeenSession A) → u.epoch ≡ Some (v.epoch + 1) → ((m ≡ q) × (u ≡ record new_session { epoch = Some (v.epoch + 1) })) ⊎ ((m ≢ q) × (v.sessions q ≡ Some u)) → IsSession r u fresh
    now q u e (inl (same, one)) = subst (λ x. IsSession r x fresh) (sym one) (new_is_fresh r (v.epoch + 1))
    now q u e (inr (ne, there)) = absurd (let low = a.below q (v.epoch + 1) u there e in omega arith)

    past : (q e : ℕ) (u : SeenSession A) → u.epoch ≡ Some e → e + 1 ≤ v.epoch + 1 → ((m ≡ q) × (u ≡ record new_session { epoch = Some (v.epoch + 1) })) ⊎ ((m ≢ q) × (v.sessions q ≡ Some u)) →
        (s : Session) × (slice_get (d.past ++ d.now ∷ []) e ≡ Some s) × IsSession r u s
    past q e u is low (inl (same, one)) = absurd (let n = epoch_this u e one is in omega arith)
    past q e u is low (inr (ne, there)) =
        let n = a.epoch in
        elim (last_or_before e v.epoch (a.below q e u there is)) [
          | inl last ↦ (d.now, at_end d.past d.now e (last ∙ n), a.now q u there (is ∙ ap Some last))
          | inr less ↦ let g = a.past q e u there is less in (g.0, at_before d.past d.now e (let short : e + 1 ≤ length d.past = omega arith in short) ∙ g.1, g.2)
        ]

    below : (q e : ℕ) (u : SeenSession A) → u.epoch ≡ Some e → ((m ≡ q) × (u ≡ record new_session { epoch = Some (v.epoch + 1) })) ⊎ ((m ≢ q) × (v.sessions q ≡ Some u)) → e ≤ v.epoch + 1
    below q e u is (inl (same, one)) = let n = epoch_this u e one is in omega arith
    below q e u is (inr (ne, there)) = let low = a.below q e u there is in omega arith

    once : (q n e : ℕ) (u x : SeenSession A) → u.epoch ≡ Some e → x.epoch ≡ Some e → ((m ≡ q) × (u ≡ record new_session { epoch = Some (v.epoch + 1) })) ⊎ ((m ≢ q) × (v.sessions q ≡ Some u)) →
        ((m ≡ n) × (x ≡ record new_session { epoch = Some (v.epoch + 1) })) ⊎ ((m ≢ n) × (v.sessions n ≡ Some x)) → q ≡ n
    once q n e u x is_u is_x (inl (same, one)) (inl (again, two)) = sym same ∙ again
    once q n e u x is_u is_x (inl (same, one)) (inr (ne, there)) = absurd (let i = epoch_this u e one is_u in let low = a.below n e x there is_x in omega arith)
    once q n e u x is_u is_x (inr (ne, there)) (inl (again, two)) = absurd (let i = epoch_this x e two is_x in let low = a.below q e u there is_u in omega arith)
    once q n e u x is_u is_x (inr (ne, there)) (inr (other, found)) = a.once q n e u x there found is_u is_x

    unread : (q : ℕ) (u : SeenSession A) → u.epoch ≡ None → ((m ≡ q) × (u ≡ record new_session { epoch = Some (v.epoch + 1) })) ⊎ ((m ≢ q) × (v.sessions q ≡ Some u)) → u ≡ new_session
    unread q u none (inl (same, one)) = no_entry (v.epoch + 1) (sym none ∙ ap (λ (x : SeenSession A). x.epoch) one)
    unread q u none (inr (ne, there)) = a.unread q u there none

    -- a session that the server has beside the one that was read of has no epoch, since it is the newest
    no_epoch : (p : ℕ) (s : SeenSession A) → v.live ≡ Some p → v.sessions p ≡ Some s → m ≢ p → s.epoch ≡ Some v.epoch → ⊥
    no_epoch p s is found ne present = absurd (let low = may.2 p v.epoch s found present in let high = a.newest p m may.1.0 is may.1.1 in omega arith)

    live : has v.live m ≡ true → d.row ≡ Unread
    live e =
        let l = live_session r v d m a (has_is v.live m e) in
        let one : l.0 ≡ may.1.0 = some_one (v.sessions m) l.0 may.1.0 l.1 may.1.1 in
        elim l.2 [ inl x ↦ x.1 | inr x ↦ no_entry v.epoch (sym may.1.2 ∙ ap (λ (y : SeenSession A). y.epoch) (sym one) ∙ x.0) ]

    dead : has v.live m ≡ false → d.row ≡ Present → ⊥
    dead e present = by v.live refl a.row
      where
        by : (o : Option ℕ) → v.live ≡ o → IsRow v d.row o → ⊥
        by None is none = let no_way : ⊥ = (let two : NoRow ≡ Present = sym none ∙ present in cc) in no_way
        by (Some p) is (s, found, inl x) = let no_way : ⊥ = (let two : Unread ≡ Present = sym x.1 ∙ present in cc) in no_way
        by (Some p) is (s, found, inr x) = no_epoch p s is found (λ same. not_true e (is_has v.live m (is ∙ ap Some (sym same)))) x.0

    row : (o : Option ℕ) → v.live ≡ o → IsRow v d.row o → IsRow (links.after (Named m) v) (if has o m then Present else d.row) o
    row None is x = x
    row (Some p) is (s, found, x) = by (cases_eq p m)
      where
        by : (p ≡ m) ⊎ (p ≡ m → ⊥) → IsRow (links.after (Named m) v) (if has (Some p) m then Present else d.row) (Some p)
        by (inl same) = rw (is_has (Some p) m (ap Some same)) (f p s, altered f v.sessions p s found, inr (epoch_here p s (sym same), refl))
        by (inr ne) =
            let other : m ≢ p = λ same. ne (sym same) in
            let e = other_number p m ne in
            rw e (
              f p s,
              altered f v.sessions p s found,
              elim x [
                | inl y ↦ inl (ap (λ (z : SeenSession A). z.epoch) (is_other p s other) ∙ y.0, y.1)
                | inr y ↦ absurd (no_epoch p s is found other y.0)
              ],
            )

-- a session is counted, and the client hears so

pub counted_leads : {A : Type 0} (r : Stanzas A) (v : Seen A) (d : Sessions) (p : ℕ) → links.May (Counted p) v → IsDevice r v d → Leads r (Counted p) v d
counted_leads {A = A} r v d p (live, (t, is, yet, present)) a =
    let old : IsSession r t d.now = a.now p t is present in
    let row : d.row ≡ Present = is_present r v d p t a live is present in (
      counts d,
      (λ w e. (ap (λ (x : Sessions). x.row) e ∙ row, ap (λ (x : Sessions). x.now.stage) e ∙ is_named r t d.now old yet), refl),
      present_changes r v d p t f (counts d).now a is present of (subst (λ x. IsSession r x (counts d).now) (sym this) (counted_session r t d.now old yet)),
    )
  where
    f : ℕ → SeenSession A → SeenSession A
    f = λ q u. record u { counted = if has (Some p) q then true else u.counted }

    of : IsOf {A = A} p (λ q u. record u { counted = if has (Some p) q then true else u.counted })
    of = record { epoch = λ q u. refl; other = λ q u ne. let e = other_number p q ne in rw e refl }

    this : f p t ≡ record t { counted = true }
    this = rw same_number refl

pub known_leads : {A : Type 0} (r : Stanzas A) (v : Seen A) (d : Sessions) (p : ℕ) → links.May (Known p) v → IsDevice r v d → Leads r (Known p) v d
known_leads {A = A} r v d p (none, (t, is, counted, unknown, present)) a =
    let old : IsSession r t d.now = a.now p t is present in
    let off : d.online ≡ false = offline r v d a none in
    let b = present_changes r v d p t f (knows d).now a is present of (subst (λ x. IsSession r x (knows d).now) (sym this) (known_session r t d.now old counted)) in (
      knows d,
      (λ w e. (ap (λ (x : Sessions). x.online) e ∙ off, ap (λ (x : Sessions). x.now.stage) e ∙ is_counted r t d.now old counted unknown), refl),
      record {
        epoch = b.epoch;
        now = b.now;
        past = b.past;
        below = b.below;
        once = b.once;
        unread = b.unread;
        newest = b.newest;
        row = b.row;
        online = (refl, (f p t, altered f v.sessions p t is, present));
      },
    )
  where
    f : ℕ → SeenSession A → SeenSession A
    f = λ q u. record u { known = if has (Some p) q then true else u.known }

    of : IsOf {A = A} p (λ q u. record u { known = if has (Some p) q then true else u.known })
    of = record { epoch = λ q u. refl; other = λ q u ne. let e = other_number p q ne in rw e refl }

    this : f p t ≡ record t { known = true }
    this = rw same_number refl

-- sessions end

pub ended_leads : {A : Type 0} (r : Stanzas A) (v : Seen A) (d : Sessions) (p : ℕ) → links.May (Ended p) v → IsDevice r v d → Leads r (Ended p) v d
ended_leads r v d p live a = (
  end_row d,
  (λ w e. tt, refl),
  record { epoch = a.epoch; now = a.now; past = a.past; below = a.below; once = a.once; unread = a.unread; newest = λ q n t is found. no_entry q is; row = refl; online = alone v.own a.online },
)
  where
    alone : (own : Option ℕ) → IsOnline v d.online own → IsOnline (links.after (Ended p) v) d.online own
    alone None x = x
    alone (Some q) x = x

pub dropped_leads : {A : Type 0} (r : Stanzas A) (v : Seen A) (d : Sessions) (p : ℕ) → links.May (Dropped p) v → IsDevice r v d → Leads r (Dropped p) v d
dropped_leads r v d p own a = (
  goes_offline d,
  (λ w e. tt, refl),
  record { epoch = a.epoch; now = a.now; past = a.past; below = a.below; once = a.once; unread = a.unread; newest = a.newest; row = alone v.live a.row; online = refl },
)
  where
    alone : (live : Option ℕ) → IsRow v d.row live → IsRow (links.after (Dropped p) v) d.row live
    alone None x = x
    alone (Some q) x = x

-- stanzas are put and handled

pub said_leads : {A : Type 0} (r : Stanzas A) (v : Seen A) (d : Sessions) (p : ℕ) (z : A) → links.May (Said p z) v → IsDevice r v d → Leads r (Said p z) v d
said_leads {A = A} r v d p z own a =
    let o = own_session r v d p a own in
    let t : SeenSession A = o.1.0 in
    let old : IsSession r o.1.0 d.now = a.now p o.1.0 o.1.1 o.1.2 in (
      put_up (r.up z) d,
      (o.0, refl),
      present_changes r v d p o.1.0 f (put_up (r.up z) d).now a o.1.1 o.1.2 of (subst (λ x. IsSession r x (put_up (r.up z) d).now) (sym (this o.1.0)) (said_session r o.1.0 d.now z old)),
    )
  where
    f : ℕ → SeenSession A → SeenSession A
    f = λ q u. record u { up_put = if has (Some p) q then u.up_put ++ z ∷ [] else u.up_put }

    of : IsOf {A = A} p (λ q u. record u { up_put = if has (Some p) q then u.up_put ++ z ∷ [] else u.up_put })
    of = record { epoch = λ q u. refl; other = λ q u ne. let e = other_number p q ne in rw e refl }

    this : (t : SeenSession A) → f p t ≡ record t { up_put = t.up_put ++ z ∷ [] }
    this t = rw same_number refl

pub handled_leads : {A : Type 0} (r : Stanzas A) (v : Seen A) (d : Sessions) (p : ℕ) (z : A) → links.May (Handled p z) v → IsDevice r v d → Leads r (Handled p z) v d
handled_leads {A = A} r v d p z (live, (t, rest, is, counted, present, split)) a =
    let old : IsSession r t d.now = a.now p t is present in
    let row : d.row ≡ Present = is_present r v d p t a live is present in
    let next : d.now.up_rest ≡ r.up z ∷ map r.up rest = next_up r t d.now z rest old split in (
      moved_up (r.up z) (map r.up rest) d,
      (
        map r.up rest,
        next,
        λ fits full w e. (
          ap (λ (x : Sessions). x.row) e ∙ row,
          λ named. not_named r t d.now old counted (sym (ap (λ (x : Sessions). x.now.stage) e) ∙ named),
          (let len : length w.sessions.now.up_rest ≡ length (r.up z ∷ map r.up rest) = ap (λ (x : Sessions). length x.now.up_rest) e ∙ ap length next in omega arith),
        ),
        refl,
      ),
      present_changes r v d p t f (moved_up (r.up z) (map r.up rest) d).now a is present of (subst (λ x. IsSession r x (moved_up (r.up z) (map r.up rest) d).now) (sym this) (handled_session r t d.now z (map r.up rest) old next)),
    )
  where
    f : ℕ → SeenSession A → SeenSession A
    f = λ q u. record u { up_got = if has (Some p) q then u.up_got ++ z ∷ [] else u.up_got }

    of : IsOf {A = A} p (λ q u. record u { up_got = if has (Some p) q then u.up_got ++ z ∷ [] else u.up_got })
    of = record { epoch = λ q u. refl; other = λ q u ne. let e = other_number p q ne in rw e refl }

    this : f p t ≡ record t { up_got = t.up_got ++ z ∷ [] }
    this = rw same_number refl

pub served_leads : {A : Type 0} (r : Stanzas A) (v : Seen A) (d : Sessions) (p : ℕ) (z : A) → links.May (Served p z) v → IsDevice r v d → Leads r (Served p z) v d
served_leads {A = A} r v d p z (live, (t, is, counted, present)) a =
    let old : IsSession r t d.now = a.now p t is present in (
      put_down (r.down z ∷ []) d,
      ((is_present r v d p t a live is present, λ named. not_named r t d.now old counted named), refl),
      present_changes r v d p t f (put_down (r.down z ∷ []) d).now a is present of (subst (λ x. IsSession r x (put_down (r.down z ∷ []) d).now) (sym this) (served_session r t d.now z old)),
    )
  where
    f : ℕ → SeenSession A → SeenSession A
    f = λ q u. record u { down_put = if has (Some p) q then u.down_put ++ z ∷ [] else u.down_put }

    of : IsOf {A = A} p (λ q u. record u { down_put = if has (Some p) q then u.down_put ++ z ∷ [] else u.down_put })
    of = record { epoch = λ q u. refl; other = λ q u ne. let e = other_number p q ne in rw e refl }

    this : f p t ≡ record t { down_put = t.down_put ++ z ∷ [] }
    this = rw same_number refl

pub heard_leads : {A : Type 0} (r : Stanzas A) (v : Seen A) (d : Sessions) (p : ℕ) (z : A) → links.May (Heard p z) v → IsDevice r v d → Leads r (Heard p z) v d
heard_leads {A = A} r v d p z (own, (t, rest, is, split)) a =
    let o = own_session r v d p a own in
    let one : o.1.0 ≡ t = some_one (v.sessions p) o.1.0 t o.1.1 is in
    let present : t.epoch ≡ Some v.epoch = ap (λ (x : SeenSession A). x.epoch) (sym one) ∙ o.1.2 in
    let old : IsSession r t d.now = a.now p t is present in
    let next : d.now.down_rest ≡ r.down z ∷ map r.down rest = next_down r t d.now z rest old split in (
      moved_down (r.down z) (map r.down rest) d,
      (
        map r.down rest,
        next,
        λ w e. (
          ap (λ (x : Sessions). x.online) e ∙ o.0,
          (let len : length w.sessions.now.down_rest ≡ length (r.down z ∷ map r.down rest) = ap (λ (x : Sessions). length x.now.down_rest) e ∙ ap length next in omega arith),
        ),
        refl,
      ),
      present_changes r v d p t f (moved_down (r.down z) (map r.down rest) d).now a is present of (subst (λ x. IsSession r x (moved_down (r.down z) (map r.down rest) d).now) (sym this) (heard_session r t d.now z (map r.down rest) old next)),
    )
  where
    f : ℕ → SeenSession A → SeenSession A
    f = λ q u. record u { down_got = if has (Some p) q then u.down_got ++ z ∷ [] else u.down_got }

    of : IsOf {A = A} p (λ q u. record u { down_got = if has (Some p) q then u.down_got ++ z ∷ [] else u.down_got })
    of = record { epoch = λ q u. refl; other = λ q u ne. let e = other_number p q ne in rw e refl }

    this : f p t ≡ record t { down_got = t.down_got ++ z ∷ [] }
    this = rw same_number refl

pub learned_leads : {A : Type 0} (r : Stanzas A) (v : Seen A) (d : Sessions) (p n : ℕ) → links.May (Learned p n) v → IsDevice r v d → Leads r (Learned p n) v d
learned_leads {A = A} r v d p n (own, (t, is, low, high)) a =
    let o = own_session r v d p a own in
    let one : o.1.0 ≡ t = some_one (v.sessions p) o.1.0 t o.1.1 is in
    let present : t.epoch ≡ Some v.epoch = ap (λ (x : SeenSession A). x.epoch) (sym one) ∙ o.1.2 in
    let old : IsSession r t d.now = a.now p t is present in
    let acked : t.acked ≡ d.now.acked = old.acked in
    let got : length t.up_got ≡ length d.now.up_got = sym (length-map t.up_got r.up) ∙ ap length old.up_got in (
      acknowledged n d,
      (
        λ w e. (
          ap (λ (x : Sessions). x.online) e ∙ o.0,
          (let same : w.sessions.now.acked ≡ d.now.acked = ap (λ (x : Sessions). x.now.acked) e in omega arith),
          (let same : length w.sessions.now.up_got ≡ length d.now.up_got = ap (λ (x : Sessions). length x.now.up_got) e in omega arith),
        ),
        refl,
      ),
      present_changes r v d p t f (acknowledged n d).now a is present of (subst (λ x. IsSession r x (acknowledged n d).now) (sym this) (learned_session r t d.now n old)),
    )
  where
    f : ℕ → SeenSession A → SeenSession A
    f = λ q u. record u { acked = if has (Some p) q then n else u.acked }

    of : IsOf {A = A} p (λ q u. record u { acked = if has (Some p) q then n else u.acked })
    of = record { epoch = λ q u. refl; other = λ q u ne. let e = other_number p q ne in rw e refl }

    this : f p t ≡ record t { acked = n }
    this = rw same_number refl
