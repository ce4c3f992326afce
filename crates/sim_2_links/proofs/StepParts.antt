-- What a step has to show of each part of the view, as statements, and what several steps show alike.
use Rattle.std.proofs.Common.{◌≡◌, ◌≢◌, ℕ, false, refl, sym, ap, ◌∙◌, subst, Option, None, Some}
use Rattle.sim_2_links.proofs.Entries.{Entry, New, Old, is_has}
use Rattle.sim_2_links.proofs.CutLinks.{not_true, some_one}
use Rattle.sim_2_links.specs.Wires.{up_words}
use Rattle.sim_2_links.specs.Stages.{Conn}
use Rattle.sim_2_links.specs.Views.{with_at, alter, has, Session, Row, Own, View, session_on, carries}
use Rattle.sim_2_links.specs.Links.{GoesUp, GoesDown, IsPlaced, RowKept, OwnKept, IsCarried, IsBare, LinkKept}

-- ---- statements: the connection `this` stands at k now, and f changed the sessions

abbrev pub GoesUpAs : {A : Type 0} → Conn A → Conn A → Type 0
GoesUpAs {A = A} old this = (s : Session A) → GoesUp old s → GoesUp this s

abbrev pub GoesDownStill : {A : Type 0} → ℕ → Conn A → View A → Type 0
GoesDownStill {A = A} k this v = (n : ℕ) (d : Conn A) (q : ℕ) → v.here ≡ Some n → carries d ≡ Some q → Entry k this v.conns n d → (t : Session A) × (v.sessions q ≡ Some t) × GoesDown d t

abbrev pub GoesDownAfter : {A : Type 0} → ℕ → Conn A → View A → (ℕ → Session A → Session A) → Type 0
GoesDownAfter {A = A} k this v f = (n : ℕ) (d : Conn A) (q : ℕ) → v.here ≡ Some n → carries d ≡ Some q → Entry k this v.conns n d → (t : Session A) × (alter f v.sessions q ≡ Some t) × GoesDown d t

abbrev pub StaysBare : {A : Type 0} → ℕ → Conn A → View A → Type 0
StaysBare {A = A} k this v = (n : ℕ) (d : Conn A) (q : ℕ) → has v.here n ≡ false → session_on d ≡ Some q → IsCarried v q → Entry k this v.conns n d → IsBare (up_words d.wires)

abbrev pub StaysPlaced : {A : Type 0} → View A → (ℕ → Session A → Session A) → Type 0
StaysPlaced {A = A} v f = (r : Row A) (t : Session A) (o : Option ℕ) → IsPlaced v.conns r t o → IsPlaced v.conns r (f r.number t) o

abbrev pub RowAfter : {A : Type 0} → ℕ → Conn A → View A → (ℕ → Session A → Session A) → Row A → Type 0
RowAfter k this v f new = RowKept (with_at k this v.conns) (alter f v.sessions) new

abbrev pub RowsAfter : {A : Type 0} → ℕ → Conn A → View A → (ℕ → Session A → Session A) → Type 0
RowsAfter {A = A} k this v f = (r : Row A) → RowKept v.conns v.sessions r → RowAfter k this v f r

abbrev pub OwnAfter : {A : Type 0} → View A → (ℕ → Session A → Session A) → Own A → Type 0
OwnAfter v f new = OwnKept v.epoch (alter f v.sessions) new

-- ---- what several steps show alike

-- the client works elsewhere
pub apart_from : (o : Option ℕ) (k n : ℕ) → has o k ≡ false → o ≡ Some n → k ≢ n
apart_from o k n away here same = not_true away (is_has o k (here ∙ ap Some (sym same)))

-- a session of the row on this connection is on no other
pub on_no_other : {A : Type 0} (v : View A) (k : ℕ) (r : Row A) → LinkKept v → v.row ≡ Some r → r.on ≡ Some k → (n : ℕ) (d : Conn A) (q : ℕ) → k ≢ n → v.conns n ≡ Some d → session_on d ≡ Some q → ⊥
on_no_other {A = A} v k r kept is_row on n d q ne there held =
    let a : (x : Row A) × (v.row ≡ Some x) × (x.number ≡ q) × (x.on ≡ Some n) = (kept.conns n d there).attached q held in
    let both : r.on ≡ Some n = subst (λ (x : Row A). x.on ≡ Some n) (some_one v.row a.0 r a.1 is_row) a.3 in
    ne (let out : k ≡ n = cc in out)

-- and a session of a row that is on none is on none
pub on_none : {A : Type 0} (v : View A) (r : Row A) → LinkKept v → v.row ≡ Some r → r.on ≡ None → (n : ℕ) (d : Conn A) (q : ℕ) → v.conns n ≡ Some d → session_on d ≡ Some q → ⊥
on_none {A = A} v r kept is_row off n d q there held =
    let a : (x : Row A) × (v.row ≡ Some x) × (x.number ≡ q) × (x.on ≡ Some n) = (kept.conns n d there).attached q held in
    let both : r.on ≡ Some n = subst (λ (x : Row A). x.on ≡ Some n) (some_one v.row a.0 r a.1 is_row) a.3 in
    let no_way : ⊥ = cc in
    no_way

pub on_nowhere : {A : Type 0} (k : ℕ) (this : Conn A) (v : View A) → ((q : ℕ) → session_on this ≡ Some q → ⊥) → ((n : ℕ) (d : Conn A) (q : ℕ) → k ≢ n → v.conns n ≡ Some d → session_on d ≡ Some q → ⊥) →
    (n : ℕ) (d : Conn A) (q : ℕ) → session_on d ≡ Some q → Entry k this v.conns n d → ⊥
on_nowhere k this v off others n d q held (New same is) = off q (subst (λ x. session_on x ≡ Some q) (sym is) held)
on_nowhere k this v off others n d q held (Old ne there) = others n d q ne there held

-- the row's connection is the same under its new counts
pub attached_after : {A : Type 0} (v : View A) (r new : Row A) → v.row ≡ Some r → new.number ≡ r.number → new.on ≡ r.on → (n : ℕ) (d : Conn A) →
    ((q : ℕ) → session_on d ≡ Some q → (x : Row A) × (v.row ≡ Some x) × (x.number ≡ q) × (x.on ≡ Some n)) → (q : ℕ) → session_on d ≡ Some q → (x : Row A) × (Some new ≡ Some x) × (x.number ≡ q) × (x.on ≡ Some n)
attached_after {A = A} v r new is_row number on n d before q e =
    let b = before q e in
    let same : b.0 ≡ r = some_one v.row b.0 r b.1 is_row in
    (new, refl, number ∙ subst (λ (x : Row A). x.number ≡ q) same b.2, on ∙ subst (λ (x : Row A). x.on ≡ Some n) same b.3)

-- what is carried was carried: by this connection before it changed, or by another
pub carried_before : {A : Type 0} (k : ℕ) (this : Conn A) (v : View A) (q : ℕ) → (v.here ≡ Some k → carries this ≡ Some q → IsCarried v q) → (n : ℕ) (d : Conn A) → v.here ≡ Some n → carries d ≡ Some q → Entry k this v.conns n d → IsCarried v q
carried_before k this v q at_this n d here carried (New same is) = at_this (here ∙ ap Some (sym same)) (subst (λ x. carries x ≡ Some q) (sym is) carried)
carried_before k this v q at_this n d here carried (Old ne there) = (n, d, here, there, carried)

-- nothing is carried, where this connection carries nothing
pub none_carried : {A : Type 0} (v : View A) (k : ℕ) (c : Conn A) → v.here ≡ Some k → v.conns k ≡ Some c → ((q : ℕ) → carries c ≡ Some q → ⊥) → (q : ℕ) → IsCarried v q → ⊥
none_carried v k c here is silent q (n, d, here_n, found, carried) =
    let same : k ≡ n = some_one v.here k n here here_n in
    let one : d ≡ c = some_one (v.conns k) d c (subst (λ x. v.conns x ≡ Some d) (sym same) found) is in
    silent q (subst (λ x. carries x ≡ Some q) one carried)
