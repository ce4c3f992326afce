-- Moves, and more moves behind them: where they lead, and what they do.
use Rattle.std.proofs.Common.{◌≡◌, List, [], ◌∷◌, ◌++◌, refl, sym, ap, subst, ◌∙◌}
use Rattle.std.proofs.lemmas.List.{append_assoc}
use Rattle.sim_3_items.specs.Labels.{Label, label_of, labels_of}
use Rattle.sim_2_links.specs.Machine.{LinkMove, LinkReaches}
use Rattle.sim_2_links.specs.Views.{View}

pub then_reaches : {A : Type 0} (moves more : List (LinkMove A)) (v middle last : View A) → LinkReaches moves v middle → LinkReaches more middle last → LinkReaches (moves ++ more) v last
then_reaches [] more v middle last to then_to = subst (λ u. LinkReaches more u last) to then_to
then_reaches (first ∷ moves) more v middle last to then_to = (to.0, to.1, then_reaches moves more to.0 middle last to.2 then_to)

pub labels_both : {A : Type 0} (moves more : List (LinkMove A)) → labels_of (moves ++ more) ≡ labels_of moves ++ labels_of more
labels_both [] more = refl
labels_both (move ∷ moves) more = ap (λ l. label_of move ++ l) (labels_both moves more) ∙ sym (append_assoc (label_of move) (labels_of moves) (labels_of more))

-- they do these, and then those
pub does_both : {A : Type 0} (moves more : List (LinkMove A)) (done others : List (Label A)) → labels_of moves ≡ done → labels_of more ≡ others → labels_of (moves ++ more) ≡ done ++ others
does_both moves more done others some rest = labels_both moves more ∙ ap (λ l. l ++ labels_of more) some ∙ ap (λ l. done ++ l) rest
