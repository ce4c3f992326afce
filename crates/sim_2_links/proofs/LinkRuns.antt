-- Runs that go on by one move.
use Rattle.std.proofs.Common.{◌≡◌, ◌+◌, ◌≤◌, true, false, List, [], ◌∷◌, ◌++◌, length, refl, sym, subst, Some}
use Rattle.sim_2_links.proofs.CutLinks.{not_true, some_one}
use Rattle.sim_2_links.specs.Views.{Session, Row, Own, View}
use Rattle.sim_2_links.specs.Machine.{LinkMove, LinkMoves, nothing_yet, LinkReaches, LinkReached}
use Rattle.sim_2_links.specs.Covers.{PromptMove}
use Rattle.sim_2_links.specs.Paging.{Paging, many, MayPut, MayServe, PagingMoves, PagingReaches, PagingReached}

link_reaches_more : {A : Type 0} (moves : List (LinkMove A)) (move : LinkMove A) (first v next : View A) → LinkReaches moves first v → LinkMoves move v next → LinkReaches (moves ++ move ∷ []) first next
link_reaches_more [] move first v next is made = (next, subst (λ w. LinkMoves move w next) is made, refl)
link_reaches_more (m ∷ moves) move first v next (mid, by, along) made = (mid, by, link_reaches_more moves move mid v next along made)

pub link_more : {A : Type 0} (move : LinkMove A) (v next : View A) → LinkReached v → LinkMoves move v next → LinkReached next
link_more move v next reached made = record { moves = reached.moves ++ move ∷ []; reaches = link_reaches_more reached.moves move nothing_yet v next reached.reaches made }

paging_reaches_more : {A : Type 0} (p : Paging A) (moves : List (PromptMove A)) (move : PromptMove A) (first v next : View A) → PagingReaches p moves first v → PagingMoves p move v next → PagingReaches p (moves ++ move ∷ []) first next
paging_reaches_more p [] move first v next is made = (next, subst (λ w. PagingMoves p move w next) is made, refl)
paging_reaches_more p (m ∷ moves) move first v next (mid, by, along) made = (mid, by, paging_reaches_more p moves move mid v next along made)

pub paging_more : {A : Type 0} (p : Paging A) (move : PromptMove A) (v next : View A) → PagingReached p v → PagingMoves p move v next → PagingReached p next
paging_more p move v next reached made = record { moves = reached.moves ++ move ∷ []; reaches = paging_reaches_more p reached.moves move nothing_yet v next reached.reaches made }

-- what a put needs, where the client's session and the server's row are these

pub may_ask : {A : Type 0} (p : Paging A) (v : View A) (z : A) → p.asks z ≡ true → (o : Own A) (s : Session A) → v.own ≡ Some o → v.sessions o.number ≡ Some s → many p.asks s.up.put ≤ many p.ends s.down.got → MayPut p v z
may_ask {A = A} p v z asks o s own is low = record {
  room = λ quiet x e. absurd (not_true quiet asks);
  ended = λ e x t found there.
      let same : o ≡ x = some_one v.own o x own found in
      let one : s ≡ t = some_one (v.sessions o.number) s t is (subst (λ (y : Own A). v.sessions y.number ≡ Some t) (sym same) there) in
      subst (λ (y : Session A). many p.asks y.up.put ≤ many p.ends y.down.got) one low;
}

pub may_say : {A : Type 0} (p : Paging A) (v : View A) (z : A) → p.asks z ≡ false → (o : Own A) → v.own ≡ Some o → length o.queue + 1 ≤ p.most → MayPut p v z
may_say {A = A} p v z quiet o own low = record {
  room = λ e x found. subst (λ (y : Own A). length y.queue + 1 ≤ p.most) (some_one v.own o x own found) low;
  ended = λ asks x t found there. absurd (not_true quiet asks);
}

pub may_serve : {A : Type 0} (p : Paging A) (v : View A) (z : A) (r : Row A) (s : Session A) → v.row ≡ Some r → v.sessions r.number ≡ Some s → many p.ends s.down.put + 1 ≤ many p.asks s.up.got → MayServe p v z
may_serve {A = A} p v z r s row is low e x t found there =
    let same : r ≡ x = some_one v.row r x row found in
    let one : s ≡ t = some_one (v.sessions r.number) s t is (subst (λ (y : Row A). v.sessions y.number ≡ Some t) (sym same) there) in
    subst (λ (y : Session A). many p.ends y.down.put + 1 ≤ many p.asks y.up.got) one low
