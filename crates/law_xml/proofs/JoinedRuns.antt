-- Items behind items, and bytes that give nothing.
use Rattle.std.proofs.Common.{◌≡◌, ℕ, Bool, true, List, [], ◌∷◌, ◌++◌, sym, ap, subst, ◌∙◌, append_assoc}
use Rattle.xml_framer.proofs.ItemsBefore.{given_before}
use Rattle.xml_framer.proofs.Pieces.{run_append}
use Rattle.xml_framer.specs.Machine.{run}
use Rattle.xml_framer.specs.States.{State, Turn, turn}
use Rattle.xml_framer.specs.declared.items.Item.{Item}
use Rattle.law_xml.specs.Items.{AreItems, AreWhole, GivesOne, IsRest, no_more, one_more}
use Rattle.law_xml.proofs.RestRuns.{as_rest}

pub items_join : (lost : Bool) (s : State) (a : List ℕ) (items : List Item) (t : State) (b : List ℕ) (more : List Item) (u : State) → AreWhole s a items t → AreItems lost t b more u
    → AreItems lost s (a ++ b) (items ++ more) u
items_join lost s a items t b more u (no_more _ _ _ _ _ r no_items same) h =
    subst (λ l. AreItems lost s (l ++ b) (items ++ more) u) (sym r) (subst (λ l. AreItems lost s b (l ++ more) u) (sym no_items) (subst (λ x. AreItems lost x b more u) same h))
items_join lost s a items t b more u (one_more _ _ _ _ _ first rest i others next g after bytes_are items_are) h =
    one_more lost s (a ++ b) (items ++ more) u first (rest ++ b) i (others ++ more) next g (items_join lost next rest others t b more u after h)
    (ap (λ l. l ++ b) bytes_are ∙ append_assoc first rest b) (ap (λ l. l ++ more) items_are)

-- a rest may stand where none need
pub may_be_lost : (lost : Bool) (s : State) (bytes : List ℕ) (items : List Item) (t : State) → AreItems lost s bytes items t → AreItems true s bytes items t
may_be_lost lost s bytes items t (no_more _ _ _ _ _ r no_items same) = no_more true s bytes items t (as_rest lost s bytes r) no_items same
may_be_lost lost s bytes items t (one_more _ _ _ _ _ first rest i more next g after bytes_are items_are) =
    one_more true s bytes items t first rest i more next g (may_be_lost lost next rest more t after) bytes_are items_are

-- bytes with an item give it
gives_some : (s next : State) (first rest : List ℕ) (i : Item) → GivesOne s first i next → (run (turn s []) (first ++ rest)).items ≡ i ∷ (run (turn next []) rest).items
gives_some s next first rest i g =
    ap (λ (u : Turn). u.items) (run_append (turn s []) first rest ∙ ap (λ u. run u rest) g.run_is ∙ given_before next (i ∷ []) rest)

no_cons : (i : Item) (l : List Item) → i ∷ l ≡ [] → ⊥
no_cons i l e = cc

pub record NoItems (lost : Bool) (s : State) (bytes : List ℕ) (items : List Item) (t : State) : Type 0 where
  pub none : items ≡ []
  pub same : t ≡ s
  pub rest : IsRest lost s bytes

pub no_items : (lost : Bool) (s : State) (bytes : List ℕ) (items : List Item) (t : State) → AreItems lost s bytes items t → (run (turn s []) bytes).items ≡ [] → NoItems lost s bytes items t
no_items lost s bytes items t (no_more _ _ _ _ _ r none same) e = record { none = none; same = same; rest = r }
no_items lost s bytes items t (one_more _ _ _ _ _ first rest i more next g after bytes_are items_are) e =
    absurd (no_cons i (run (turn next []) rest).items (sym (gives_some s next first rest i g) ∙ ap (λ l. (run (turn s []) l).items) (sym bytes_are) ∙ e))
