-- Runs in which stanzas are put with premises are runs of the moves.
use Rattle.std.proofs.Common.{Bool, List, [], ◌∷◌}
use Rattle.sim_2_links.specs.Views.{View}
use Rattle.sim_2_links.specs.Machine.{LinkMove, Puts, Requests, nothing_yet, LinkReaches, LinkReached}
use Rattle.sim_2_links.specs.Covers.{PromptMove, Does, Says, PromptReaches, PromptReached}
use Rattle.sim_2_links.specs.Paging.{Paging, PagingReaches, PagingReached}

-- each as one move or two
abbrev spelled : {A : Type 0} → List (PromptMove A) → List (LinkMove A)
spelled [] = []
spelled (Does move ∷ moves) = move ∷ spelled moves
spelled (Says k z ∷ moves) = Puts k z ∷ Requests k ∷ spelled moves

spelled_reaches : {A : Type 0} (asks : A → Bool) (moves : List (PromptMove A)) (v last : View A) → PromptReaches asks moves v last → LinkReaches (spelled moves) v last
spelled_reaches asks [] v last same = same
spelled_reaches asks (Does move ∷ moves) v last (next, (quiet, by), along) = (next, by, spelled_reaches asks moves next last along)
spelled_reaches asks (Says k z ∷ moves) v last (next, (mid, put, asked), along) = (mid, put, (next, asked, spelled_reaches asks moves next last along))

pub prompt_runs : {A : Type 0} (asks : A → Bool) (v : View A) → PromptReached asks v → LinkReached v
prompt_runs asks v reached = record { moves = spelled reached.moves; reaches = spelled_reaches asks reached.moves nothing_yet v reached.reaches }

prompt_reaches : {A : Type 0} (p : Paging A) (moves : List (PromptMove A)) (v last : View A) → PagingReaches p moves v last → PromptReaches p.asks moves v last
prompt_reaches p [] v last same = same
prompt_reaches p (move ∷ moves) v last (next, (may, by), along) = (next, by, prompt_reaches p moves next last along)

pub paging_runs : {A : Type 0} (p : Paging A) (v : View A) → PagingReached p v → PromptReached p.asks v
paging_runs p v reached = record { moves = reached.moves; reaches = prompt_reaches p reached.moves nothing_yet v reached.reaches }
