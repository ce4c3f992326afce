-- Links that are given back, one more.
use Rattle.std.proofs.Common.{◌≡◌, ℕ, suc, ◌+◌, ◌≤◌, List, [], ◌∷◌, ◌++◌, length, length-append, Option, Some, None, IfSome, refl, subst, sym, ap, ◌∙◌, arith, append_assoc, append-nil}
use mathlib.Core.Option.{some, some-ne-none, some-injective}
use lib.ListN.{get_elem?}
use Rattle.net_traits.specs.Halves.{IncomingView, OutgoingView, link_of}
use Rattle.net_hub.specs.Backs.{AreBack, AreBackYet, AreLeft, AreLeftFrom, AreLeftYet, ArePaired, AreReady, IsBack, IsLeft, IsReady}
use Rattle.net_traits.specs.Links.{LinkView}
use Rattle.net_owner.specs.Halves.{IsNew}
use Rattle.net_owner.specs.Owners.{HasGiven}
use Rattle.net_owner.specs.declared.position.Slot.{Slot}
use Rattle.net_owner.specs.Merge.{items_of}
use Rattle.net_owner.specs.Feeds.{number}
use Rattle.net_owner.specs.declared.item.Item.{Item}
use Rattle.net_owner.specs.declared.reader.ReaderJob.{ReaderJob}
use Rattle.net_hub.specs.declared.sender.Sender.{Sender}

or_it : {A : Type 0} → A → Option A → A
or_it a None = a
or_it a (Some b) = b

the_same : {A : Type 0} (a b : A) → Some a ≡ Some b → a ≡ b
unfolding or_it
the_same a b e = ap (or_it a) e

module _ {R I O P : Type 0} (told : I → IncomingView) (out : O → OutgoingView) (got : List (Item P)) where
  pub back_more : (k : ℕ) (ps : List (Slot R I P)) (ss : List (Sender O)) (ls : List LinkView) (p : Slot R I P) (s : Sender O) (l : LinkView) → AreBack told out got k ps ss ls → IsBack told out got (k + length ps) p s l
      → AreBack told out got k (ps ++ p ∷ []) (ss ++ s ∷ []) (ls ++ l ∷ [])
  back_more k [] [] [] p s l are is = let same : k + 0 ≡ k = omega arith in (subst (λ n. IsBack told out got n p s l) same is, tt)
  back_more k [] [] (m ∷ ls) p s l are is = absurd are
  back_more k [] (t ∷ ss) ls p s l are is = absurd are
  back_more k (q ∷ ps) [] ls p s l are is = absurd are
  back_more k (q ∷ ps) (t ∷ ss) [] p s l are is = absurd are
  back_more k (q ∷ ps) (t ∷ ss) (m ∷ ls) p s l are is =
      let same : k + length (q ∷ ps) ≡ k + 1 + length ps = omega arith in
      (are.0, back_more (k + 1) ps ss ls p s l are.1 (subst (λ n. IsBack told out got n p s l) same is))

module _ {R I O P : Type 0} (told : I → IncomingView) (out : O → OutgoingView) where
  pub paired_begin : (positions left : List (Slot R I P)) (senders rest : List (Sender O)) → ArePaired told out positions senders → left ≡ positions → rest ≡ senders → ArePaired told out left rest
  paired_begin positions left senders rest paired a b = subst (λ l. ArePaired told out l rest) (sym a) (subst (λ l. ArePaired told out positions l) (sym b) paired)

  -- the first place's reader is of the same link as the first sender
  pub paired_first : (left : List (Slot R I P)) (senders : List (Sender O)) (p : Slot R I P) (ps : List (Slot R I P)) (s : Sender O) (ss : List (Sender O)) (job : ReaderJob R I P)
      → ArePaired told out left senders → left ≡ p ∷ ps → senders ≡ s ∷ ss → p.worker ≡ Some job → (told job.half).number ≡ (out s.half).number
  paired_first left senders p ps s ss job paired first front is =
      let at = subst (λ (l : List (Slot R I P)). get_elem? l 0 ≡ some p) (sym first) refl in
      let one = subst (λ w. IfSome w (λ j. (t : Sender O) × (get_elem? senders 0 ≡ some t) × ((told j.half).number ≡ (out t.half).number))) is (paired 0 p at) in
      one.2 ∙ ap (λ (t : Sender O). (out t.half).number) (some-injective one.0 s (sym one.1 ∙ ap (λ l. get_elem? l 0) front))

  -- where there is no sender, there is no reader
  pub paired_none : (left : List (Slot R I P)) (senders : List (Sender O)) (p : Slot R I P) (ps : List (Slot R I P)) (job : ReaderJob R I P)
      → ArePaired told out left senders → left ≡ p ∷ ps → length senders ≡ 0 → p.worker ≡ Some job → ⊥
  paired_none left [] p ps job paired first none is =
      let at = subst (λ (l : List (Slot R I P)). get_elem? l 0 ≡ some p) (sym first) refl in
      let one = subst (λ w. IfSome w (λ j. (t : Sender O) × (get_elem? {A = Sender O} [] 0 ≡ some t) × ((told j.half).number ≡ (out t.half).number))) is (paired 0 p at) in
      some-ne-none one.0 (sym one.1)
  paired_none left (s ∷ ss) p ps job paired first none is = absurd (omega (arith, none))

  -- those that are left behind the first
  pub paired_rest : (left : List (Slot R I P)) (senders : List (Sender O)) (p : Slot R I P) (ps : List (Slot R I P)) (s : Sender O) (ss : List (Sender O))
      → ArePaired told out left senders → left ≡ p ∷ ps → senders ≡ s ∷ ss → ArePaired told out ps ss
  paired_rest left senders p ps s ss paired first front i q at =
      let both = subst (λ l. ArePaired told out l (s ∷ ss)) first (subst (λ l. ArePaired told out left l) front paired) in both (suc i) q at

  pub paired_empty : (left : List (Slot R I P)) (senders rest : List (Sender O)) (p : Slot R I P) (ps : List (Slot R I P))
      → ArePaired told out left senders → left ≡ p ∷ ps → length senders ≡ 0 → senders ≡ rest → ArePaired told out ps rest
  paired_empty left [] rest p ps paired first none same i q at = let both = subst (λ l. ArePaired told out l []) first paired in subst (λ l. IfSome q.worker (λ job. (s : Sender O) × (get_elem? l i ≡ some s) × ((told job.half).number ≡ (out s.half).number))) same (both (suc i) q at)
  paired_empty left (s ∷ ss) rest p ps paired first none same i q at = absurd (omega (arith, none))

module _ {R I O P : Type 0} (told : I → IncomingView) (out : O → OutgoingView) where
  pub left_first : (positions left : List (Slot R I P)) (senders rest : List (Sender O)) (g : List LinkView) → left ≡ positions → rest ≡ senders → AreLeftYet told out positions left senders rest g g
  left_first positions left senders rest g a b = record {
    links = [];
    given = sym (append-nil g);
    whole = λ more are. subst (λ l. AreLeft told out l senders more) a (subst (λ l. AreLeft told out left l more) b are);
  }

  -- a reader was joined, and its link given back
  pub left_next : (positions was left : List (Slot R I P)) (senders had rest : List (Sender O)) (old now new : List LinkView) (p : Slot R I P) (s : Sender O) (job : ReaderJob R I P) (link : LinkView)
      → AreLeftYet told out positions was senders had old now → was ≡ p ∷ left → had ≡ s ∷ rest → p.worker ≡ Some job → IsLeft told out job s link → new ≡ now ++ link ∷ []
      → AreLeftYet told out positions left senders rest old new
  left_next positions was left senders had rest old now new p s job link yet first front some_one is more = record {
    links = yet.links ++ link ∷ [];
    given = more ∙ ap (λ l. l ++ link ∷ []) yet.given ∙ append_assoc old yet.links (link ∷ []);
    whole = λ others are.
        let here : AreLeftFrom told out p.worker (AreLeft told out left) (s ∷ rest) (link ∷ others) = subst (λ w. AreLeftFrom told out w (AreLeft told out left) (s ∷ rest) (link ∷ others)) (sym some_one) (is, are) in
        let all : AreLeft told out was had (link ∷ others) = subst (λ l. AreLeft told out l had (link ∷ others)) (sym first) (subst (λ l. AreLeft told out (p ∷ left) l (link ∷ others)) (sym front) here) in
        subst (λ l. AreLeft told out positions senders l) (sym (append_assoc yet.links (link ∷ []) others)) (yet.whole (link ∷ others) all);
  }

  -- no reader was started
  pub left_none : (positions was left : List (Slot R I P)) (senders had rest : List (Sender O)) (old now : List LinkView) (p : Slot R I P) (s : Sender O)
      → AreLeftYet told out positions was senders had old now → was ≡ p ∷ left → had ≡ s ∷ rest → p.worker ≡ None → AreLeftYet told out positions left senders rest old now
  left_none positions was left senders had rest old now p s yet first front none = record {
    links = yet.links;
    given = yet.given;
    whole = λ more are.
        let here : AreLeftFrom told out p.worker (AreLeft told out left) (s ∷ rest) more = subst (λ w. AreLeftFrom told out w (AreLeft told out left) (s ∷ rest) more) (sym none) are in
        yet.whole more (subst (λ l. AreLeft told out l had more) (sym first) (subst (λ l. AreLeft told out (p ∷ left) l more) (sym front) here));
  }

  -- nor is there a sender
  pub left_empty : (positions was left : List (Slot R I P)) (senders had rest : List (Sender O)) (old now : List LinkView) (p : Slot R I P)
      → AreLeftYet told out positions was senders had old now → was ≡ p ∷ left → length had ≡ 0 → had ≡ rest → p.worker ≡ None → AreLeftYet told out positions left senders rest old now
  left_empty positions was left senders [] rest old now p yet first empty same none = record {
    links = yet.links;
    given = yet.given;
    whole = λ more are.
        let here : AreLeftFrom told out p.worker (AreLeft told out left) [] more = subst (λ w. AreLeftFrom told out w (AreLeft told out left) [] more) (sym none) (subst (λ l. AreLeft told out left l more) (sym same) are) in
        yet.whole more (subst (λ l. AreLeft told out l [] more) (sym first) here);
  }
  left_empty positions was left senders (s ∷ had) rest old now p yet first empty same none = absurd (omega (arith, empty))

  -- once no place is left
  pub left_all : (positions left : List (Slot R I P)) (senders rest : List (Sender O)) (old now : List LinkView) → AreLeftYet told out positions left senders rest old now → length left ≡ 0
      → (links : List LinkView) × (now ≡ old ++ links) × AreLeft told out positions senders links
  left_all positions [] senders rest old now yet none = (yet.links, yet.given, subst (λ l. AreLeft told out positions senders l) (append-nil yet.links) (yet.whole [] tt))
  left_all positions (p ∷ left) senders rest old now yet none = absurd (omega (arith, none))

module _ {R I O P : Type 0} (told : I → IncomingView) (out : O → OutgoingView) (got : List (Item P)) where
  module _ (same : ReaderJob R I P → Type 0) where
    -- the first of those that are ready, and the others
    pub ready_first : (k : ℕ) (left : List (Slot R I P)) (senders : List (Sender O)) (p : Slot R I P) (ps : List (Slot R I P)) (s : Sender O) (ss : List (Sender O))
        → AreReady told out got same k left senders → left ≡ p ∷ ps → senders ≡ s ∷ ss → IsReady told out got same k p s × AreReady told out got same (k + 1) ps ss
    ready_first k left senders p ps s ss ready first front = subst (λ l. AreReady told out got same k l (s ∷ ss)) first (subst (λ l. AreReady told out got same k left l) front ready)

    pub ready_none : (k : ℕ) (left : List (Slot R I P)) (senders : List (Sender O)) (p : Slot R I P) (ps : List (Slot R I P)) → AreReady told out got same k left senders → left ≡ p ∷ ps → length senders ≡ 0 → ⊥
    ready_none k left [] p ps ready first none = subst (λ l. AreReady told out got same k l []) first ready
    ready_none k left (s ∷ ss) p ps ready first none = absurd (omega (arith, none))

    pub ready_begin : (k : ℕ) (positions left : List (Slot R I P)) (senders rest : List (Sender O)) → AreReady told out got same k positions senders → left ≡ positions → rest ≡ senders → AreReady told out got same k left rest
    ready_begin k positions left senders rest ready a b = subst (λ l. AreReady told out got same k l rest) (sym a) (subst (λ l. AreReady told out got same k positions l) (sym b) ready)

    -- a half that was joined
    pub back_of : (k : ℕ) (p : Slot R I P) (s : Sender O) (job : ReaderJob R I P) (half : I) → IsReady told out got same k p s → p.worker ≡ Some job → HasGiven told job (items_of number k got) half
        → IsBack told out got k p s (link_of (told half) (out s.half))
    back_of k p s job half ready is given = record {
      job = job;
      half = half;
      given = given;
      new = subst (λ (j : ReaderJob R I P). IsNew (told j.half)) (the_same ready.job job (sym ready.worker ∙ is)) ready.new;
      link_is = refl;
    }

    -- once none is left
    pub back_all : (k n : ℕ) (positions left : List (Slot R I P)) (senders rest : List (Sender O)) (old now : List LinkView) → AreBackYet told out got n positions left senders rest old now
        → AreReady told out got same k left rest → length left ≡ 0 → (links : List LinkView) × (now ≡ old ++ links) × AreBack told out got 1 positions senders links
    back_all k n positions [] senders [] old now yet ready none = (
      yet.links,
      yet.given,
      subst (λ l. AreBack told out got 1 l senders yet.links) (sym (yet.positions_are ∙ append-nil yet.ps)) (subst (λ l. AreBack told out got 1 yet.ps l yet.links) (sym (yet.senders_are ∙ append-nil yet.ss)) yet.back),
    )
    back_all k n positions [] senders (s ∷ rest) old now yet ready none = absurd ready
    back_all k n positions (p ∷ left) senders rest old now yet ready none = absurd (omega (arith, none))

  pub back_first : (positions left : List (Slot R I P)) (senders rest : List (Sender O)) (g : List LinkView) → left ≡ positions → rest ≡ senders → AreBackYet told out got 0 positions left senders rest g g
  back_first positions left senders rest g a b = record {
    ps = [];
    ss = [];
    links = [];
    positions_are = sym a;
    senders_are = sym b;
    many = refl;
    given = sym (append-nil g);
    back = tt;
  }

  -- so many places there are at least
  pub back_few : (n : ℕ) (positions left : List (Slot R I P)) (senders rest : List (Sender O)) (old now : List LinkView) → AreBackYet told out got n positions left senders rest old now → n ≤ length positions
  back_few n positions left senders rest old now yet =
      let whole : length positions ≡ length yet.ps + length left = ap length yet.positions_are ∙ length-append yet.ps left in omega (arith, whole, yet.many)

  pub back_next : (n : ℕ) (positions was left : List (Slot R I P)) (senders had rest : List (Sender O)) (old now new : List LinkView) (p : Slot R I P) (s : Sender O) (link : LinkView)
      → AreBackYet told out got n positions was senders had old now → was ≡ p ∷ left → had ≡ s ∷ rest → IsBack told out got (n + 1) p s link → new ≡ now ++ link ∷ []
      → AreBackYet told out got (n + 1) positions left senders rest old new
  back_next n positions was left senders had rest old now new p s link yet first front is more =
      let position : 1 + length yet.ps ≡ n + 1 = omega (arith, yet.many) in record {
        ps = yet.ps ++ p ∷ [];
        ss = yet.ss ++ s ∷ [];
        links = yet.links ++ link ∷ [];
        positions_are = yet.positions_are ∙ ap (λ l. yet.ps ++ l) first ∙ sym (append_assoc yet.ps (p ∷ []) left);
        senders_are = yet.senders_are ∙ ap (λ l. yet.ss ++ l) front ∙ sym (append_assoc yet.ss (s ∷ []) rest);
        many = length-append yet.ps (p ∷ []) ∙ ap (λ m. m + 1) yet.many;
        given = more ∙ ap (λ l. l ++ link ∷ []) yet.given ∙ append_assoc old yet.links (link ∷ []);
        back = back_more told out got 1 yet.ps yet.ss yet.links p s link yet.back (subst (λ m. IsBack told out got m p s link) (sym position) is);
      }
