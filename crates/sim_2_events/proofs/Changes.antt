-- A device of which the present session changes.
use Rattle.std.proofs.Common.{◌≡◌, ◌≢◌, ℕ, ◌+◌, ◌≤◌, Bool, sym, ap, ◌∙◌, subst, arith, inl, inr, Option, None, Some}
use Rattle.sim_2_links.specs.Views.{alter}
use Rattle.sim_2_links.specs.Events.{SeenSession, Seen}
use Rattle.sim_1_applications.specs.Devices.{Session, Sessions, Row}
use Rattle.sim_2_links.proofs.Entries.{was, altered}
use Rattle.sim_2_links.proofs.CutLinks.{some_one, some_same}
use Rattle.sim_2_links.proofs.Hands.{no_entry}
use Rattle.sim_2_events.specs.Lists.{Stanzas, IsSession, IsRow, IsOnline, IsDevice}

-- it changes one session, and no epoch
pub record IsOf {A : Type 0} (p : ℕ) (f : ℕ → SeenSession A → SeenSession A) : Type 0 where
  pub epoch : (q : ℕ) (t : SeenSession A) → (f q t).epoch ≡ t.epoch
  pub other : (q : ℕ) (t : SeenSession A) → p ≢ q → f q t ≡ t

row_changed : {A : Type 0} (v : Seen A) (p : ℕ) (f : ℕ → SeenSession A → SeenSession A) → IsOf p f → (row : Row) (live : Option ℕ) → IsRow v row live → IsRow (record v { sessions = alter f v.sessions }) row live
row_changed v p f of row None a = a
row_changed v p f of row (Some n) a = (f n a.0, altered f v.sessions n a.0 a.1, elim a.2 [ inl e ↦ inl (of.epoch n a.0 ∙ e.0, e.1) | inr e ↦ inr (of.epoch n a.0 ∙ e.0, e.1) ])

online_changed : {A : Type 0} (v : Seen A) (p : ℕ) (f : ℕ → SeenSession A → SeenSession A) → IsOf p f → (online : Bool) (own : Option ℕ) → IsOnline v online own → IsOnline (record v { sessions = alter f v.sessions }) online own
online_changed v p f of online None a = a
online_changed v p f of online (Some n) (yes_online, (t, is, present)) = (yes_online, (f n t, altered f v.sessions n t is, of.epoch n t ∙ present))

pub present_changes : {A : Type 0} (r : Stanzas A) (v : Seen A) (d : Sessions) (p : ℕ) (t : SeenSession A) (f : ℕ → SeenSession A → SeenSession A) (s : Session) → IsDevice r v d → v.sessions p ≡ Some t → t.epoch ≡ Some v.epoch → IsOf p f →
    IsSession r (f p t) s → IsDevice r (record v { sessions = alter f v.sessions }) (record d { now = s })
present_changes {A = A} r v d p t f s a is present of new = record {
  epoch = a.epoch;
  now = λ q u found e.
      let w = was f v.sessions q u found in
      let e' : w.0.epoch ≡ Some v.epoch = sym (of.epoch q w.0) ∙ ap (λ (x : SeenSession A). x.epoch) w.2 ∙ e in
      let same : p ≡ q = a.once p q v.epoch t w.0 is w.1 present e' in
      let one : t ≡ w.0 = some_one (v.sessions q) t w.0 (subst (λ n. v.sessions n ≡ Some t) same is) w.1 in
      subst (λ x. IsSession r x s) (ap (λ n. f n t) same ∙ ap (f q) one ∙ w.2) new;
  past = λ q e u found is_e low.
      let w = was f v.sessions q u found in
      let e' : w.0.epoch ≡ Some e = sym (of.epoch q w.0) ∙ ap (λ (x : SeenSession A). x.epoch) w.2 ∙ is_e in
      let stays : w.0 ≡ u = sym (of.other q w.0 (λ same. apart q e w.0 w.1 e' low same)) ∙ w.2 in
      let g = a.past q e w.0 w.1 e' low in
      (g.0, g.1, subst (λ x. IsSession r x g.0) stays g.2);
  below = λ q e u found is_e. let w = was f v.sessions q u found in a.below q e w.0 w.1 (sym (of.epoch q w.0) ∙ ap (λ (x : SeenSession A). x.epoch) w.2 ∙ is_e);
  once = λ q n e u x found there is_u is_x.
      let w = was f v.sessions q u found in
      let y = was f v.sessions n x there in
      a.once q n e w.0 y.0 w.1 y.1 (sym (of.epoch q w.0) ∙ ap (λ (z : SeenSession A). z.epoch) w.2 ∙ is_u) (sym (of.epoch n y.0) ∙ ap (λ (z : SeenSession A). z.epoch) y.2 ∙ is_x);
  unread = λ q u found none.
      let w = was f v.sessions q u found in
      let none' : w.0.epoch ≡ None = sym (of.epoch q w.0) ∙ ap (λ (x : SeenSession A). x.epoch) w.2 ∙ none in
      sym w.2 ∙ of.other q w.0 (λ same. unread_apart q w.0 w.1 none' same) ∙ a.unread q w.0 w.1 none';
  newest = λ n q u live found. let w = was f v.sessions q u found in a.newest n q w.0 live w.1;
  row = row_changed v p f of d.row v.live a.row;
  online = online_changed v p f of d.online v.own a.online;
}
  where
    apart : (q e : ℕ) (u : SeenSession A) → v.sessions q ≡ Some u → u.epoch ≡ Some e → e + 1 ≤ v.epoch → p ≡ q → ⊥
    apart q e u found is_e low same =
        let one : t ≡ u = some_one (v.sessions q) t u (subst (λ n. v.sessions n ≡ Some t) same is) found in
        let epochs : v.epoch ≡ e = some_same v.epoch e (sym present ∙ ap (λ (x : SeenSession A). x.epoch) one ∙ is_e) in
        omega arith

    unread_apart : (q : ℕ) (u : SeenSession A) → v.sessions q ≡ Some u → u.epoch ≡ None → p ≡ q → ⊥
    unread_apart q u found none same =
        let one : t ≡ u = some_one (v.sessions q) t u (subst (λ n. v.sessions n ≡ Some t) same is) found in
        no_entry v.epoch (sym none ∙ ap (λ (x : SeenSession A). x.epoch) (sym one) ∙ present)
