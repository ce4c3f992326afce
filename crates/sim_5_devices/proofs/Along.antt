-- Moves that are prompt, taken with their requests, are moves of prompt runs.
use Rattle.std.proofs.Common.{◌≡◌, ℕ, Bool, false, List, [], ◌∷◌, ◌++◌, refl, sym, subst, inl, inr}
use Rattle.sim_3_items.specs.Labels.{ArePrompt, IsAskedAt, IsPromptBefore, awaits}
use Rattle.sim_2_links.specs.Covers.{IsPrompt, PromptMove, PromptMoves, PromptReached, PromptReaches}
use Rattle.sim_2_links.specs.Machine.{AsksToBind, AsksToResume, Cuts, Demands, Detaches, Dials, EndsRow, Foots, Forgets, Hears, HearsEarly, Keeps, LetsGo, LinkMove, LinkMoves, LinkReached, LinkReaches, Parks, Puts, Queues, ReadsBound, ReadsCount, ReadsEnabled, ReadsFailed, ReadsHand, ReadsRequest, ReadsResumed, ReadsStanza, Requests, Serves, Shuts, TakesBind, TakesCount, TakesEnable, TakesFoot, TakesHand, TakesHighResume, TakesLateResume, TakesRequest, TakesResume, TakesStanza, TakesStrangeResume, nothing_yet}
use Rattle.sim_2_links.specs.Paging.{Paging, PagingMoves, PagingReached, PagingReaches}
use Rattle.sim_2_links.specs.PutMoves.{IsClientRequest}
use Rattle.sim_2_links.specs.SessionMoves.{IsClientPut}
use Rattle.sim_2_links.specs.Views.{View}
use Rattle.xml_writer.specs.Items.{ItemOut}

-- ---- one move more

prompt_then : (asks : ItemOut → Bool) (moves : List (PromptMove ItemOut)) (move : PromptMove ItemOut) (v middle last : View ItemOut) → PromptReaches asks moves v middle → PromptMoves asks move middle last → PromptReaches asks (moves ++ move ∷ []) v last
prompt_then asks [] move v middle last same by = (last, subst (λ x. PromptMoves asks move x last) same by, refl)
prompt_then asks (m ∷ moves) move v middle last (next, first, along) by = (next, first, prompt_then asks moves move next middle last along by)

paging_then : (p : Paging ItemOut) (moves : List (PromptMove ItemOut)) (move : PromptMove ItemOut) (v middle last : View ItemOut) → PagingReaches p moves v middle → PagingMoves p move middle last → PagingReaches p (moves ++ move ∷ []) v last
paging_then p [] move v middle last same by = (last, subst (λ x. PagingMoves p move x last) same by, refl)
paging_then p (m ∷ moves) move v middle last (next, first, along) by = (next, first, paging_then p moves move next middle last along by)

link_then : (moves : List (LinkMove ItemOut)) (move : LinkMove ItemOut) (v middle last : View ItemOut) → LinkReaches moves v middle → LinkMoves move middle last → LinkReaches (moves ++ move ∷ []) v last
link_then [] move v middle last same by = (last, subst (λ x. LinkMoves move x last) same by, refl)
link_then (m ∷ moves) move v middle last (next, first, along) by = (next, first, link_then moves move next middle last along by)

pub link_more : (v next : View ItemOut) (move : LinkMove ItemOut) → LinkReached v → LinkMoves move v next → LinkReached next
link_more v next move reached by = record { moves = reached.moves ++ move ∷ []; reaches = link_then reached.moves move nothing_yet v next reached.reaches by }

pub prompt_more : (asks : ItemOut → Bool) (v next : View ItemOut) (move : PromptMove ItemOut) → PromptReached asks v → PromptMoves asks move v next → PromptReached asks next
prompt_more asks v next move reached by = record { moves = reached.moves ++ move ∷ []; reaches = prompt_then asks reached.moves move nothing_yet v next reached.reaches by }

pub paging_more : (p : Paging ItemOut) (v next : View ItemOut) (move : PromptMove ItemOut) → PagingReached p v → PagingMoves p move v next → PagingReached p next
paging_more p v next move reached by = record { moves = reached.moves ++ move ∷ []; reaches = paging_then p reached.moves move nothing_yet v next reached.reaches by }

-- ---- moves that may happen

abbrev pub AreMay : (LinkMove ItemOut → View ItemOut → Type 0) → (moves : List (LinkMove ItemOut)) (v last : View ItemOut) → LinkReaches moves v last → Type 0
AreMay May [] v last same = Unit {0}
AreMay May (move ∷ moves) v last along = May move v × AreMay May moves along.0 last along.2

-- What is reached so, whatever it is: by a move behind which no request has to come, and by a stanza and the request
-- behind it.
module _ (asks : ItemOut → Bool) (free : (z : ItemOut) → awaits z ≡ false → asks z ≡ false) (R : View ItemOut → Type 0) (May : LinkMove ItemOut → View ItemOut → Type 0)
    (one : (move : LinkMove ItemOut) (v next : View ItemOut) → R v → May move v → IsPrompt asks move → LinkMoves move v next → R next)
    (two : (k : ℕ) (z : ItemOut) (v mid next : View ItemOut) → R v → May (Puts k z) v → IsClientPut k z v mid → IsClientRequest k mid next → R next) where
  -- so far; or a stanza was put behind it, and the request is to come
  data SoFar (moves : List (LinkMove ItemOut)) (v : View ItemOut) : Type 0 where
    There : R v → SoFar moves v
    Asks : (k : ℕ) (z : ItemOut) (u : View ItemOut) → R u → May (Puts k z) u → IsClientPut k z u v → IsAskedAt k moves → SoFar moves v

  plain : (move : LinkMove ItemOut) (moves : List (LinkMove ItemOut)) (v next : View ItemOut) → R v → May move v → IsPromptBefore moves move → LinkMoves move v next → SoFar moves next
  plain (Cuts k i j) moves v next reached may prompt by = There (one (Cuts k i j) v next reached may tt by)
  plain (Dials k) moves v next reached may prompt by = There (one (Dials k) v next reached may tt by)
  plain (LetsGo k) moves v next reached may prompt by = There (one (LetsGo k) v next reached may tt by)
  plain (Foots k) moves v next reached may prompt by = There (one (Foots k) v next reached may tt by)
  plain Forgets moves v next reached may prompt by = There (one Forgets v next reached may tt by)
  plain (Puts k z) moves v next reached may (inl other) by = There (one (Puts k z) v next reached may (free z other) by)
  plain (Puts k z) moves v next reached may (inr asked) by = Asks k z v reached may by asked
  plain (Queues z) moves v next reached may prompt by = There (one (Queues z) v next reached may tt by)
  plain (Requests k) moves v next reached may prompt by = There (one (Requests k) v next reached may tt by)
  plain (ReadsHand k) moves v next reached may prompt by = There (one (ReadsHand k) v next reached may tt by)
  plain (AsksToResume k) moves v next reached may prompt by = There (one (AsksToResume k) v next reached may tt by)
  plain (AsksToBind k) moves v next reached may prompt by = There (one (AsksToBind k) v next reached may tt by)
  plain (ReadsFailed k) moves v next reached may prompt by = There (one (ReadsFailed k) v next reached may tt by)
  plain (ReadsResumed k) moves v next reached may prompt by = There (one (ReadsResumed k) v next reached may tt by)
  plain (ReadsBound k m) moves v next reached may prompt by = There (one (ReadsBound k m) v next reached may tt by)
  plain (ReadsEnabled k m) moves v next reached may prompt by = There (one (ReadsEnabled k m) v next reached may tt by)
  plain (ReadsStanza k z) moves v next reached may prompt by = There (one (ReadsStanza k z) v next reached may tt by)
  plain (ReadsRequest k) moves v next reached may prompt by = There (one (ReadsRequest k) v next reached may tt by)
  plain (ReadsCount k h) moves v next reached may prompt by = There (one (ReadsCount k h) v next reached may tt by)
  plain (TakesHand k) moves v next reached may prompt by = There (one (TakesHand k) v next reached may tt by)
  plain (TakesResume k) moves v next reached may prompt by = There (one (TakesResume k) v next reached may tt by)
  plain (TakesLateResume k) moves v next reached may prompt by = There (one (TakesLateResume k) v next reached may tt by)
  plain (TakesStrangeResume k) moves v next reached may prompt by = There (one (TakesStrangeResume k) v next reached may tt by)
  plain (TakesHighResume k) moves v next reached may prompt by = There (one (TakesHighResume k) v next reached may tt by)
  plain (TakesBind k m) moves v next reached may prompt by = There (one (TakesBind k m) v next reached may tt by)
  plain (TakesEnable k) moves v next reached may prompt by = There (one (TakesEnable k) v next reached may tt by)
  plain (TakesStanza k z) moves v next reached may prompt by = There (one (TakesStanza k z) v next reached may tt by)
  plain (TakesRequest k) moves v next reached may prompt by = There (one (TakesRequest k) v next reached may tt by)
  plain (TakesCount k h) moves v next reached may prompt by = There (one (TakesCount k h) v next reached may tt by)
  plain (TakesFoot k) moves v next reached may prompt by = There (one (TakesFoot k) v next reached may tt by)
  plain (Parks k) moves v next reached may prompt by = There (one (Parks k) v next reached may tt by)
  plain (Hears k) moves v next reached may prompt by = There (one (Hears k) v next reached may tt by)
  plain (HearsEarly k) moves v next reached may prompt by = There (one (HearsEarly k) v next reached may tt by)
  plain (Detaches k ending) moves v next reached may prompt by = There (one (Detaches k ending) v next reached may tt by)
  plain (Shuts k ending) moves v next reached may prompt by = There (one (Shuts k ending) v next reached may tt by)
  plain EndsRow moves v next reached may prompt by = There (one EndsRow v next reached may tt by)
  plain (Serves k z) moves v next reached may prompt by = There (one (Serves k z) v next reached may tt by)
  plain (Keeps z) moves v next reached may prompt by = There (one (Keeps z) v next reached may tt by)
  plain (Demands k) moves v next reached may prompt by = There (one (Demands k) v next reached may tt by)

  same_first : (a b : LinkMove ItemOut) (l m : List (LinkMove ItemOut)) → a ∷ l ≡ b ∷ m → a ≡ b
  same_first a b l m e = cc

  further : (move : LinkMove ItemOut) (moves : List (LinkMove ItemOut)) (v next : View ItemOut) → SoFar (move ∷ moves) v → May move v → IsPromptBefore moves move → LinkMoves move v next → SoFar moves next
  further move moves v next (There reached) may prompt by = plain move moves v next reached may prompt by
  further move moves v next (Asks k z u reached may_put put asked) may prompt by =
      There (two k z u v next reached may_put put (subst (λ m. LinkMoves m v next) (same_first move (Requests k) moves asked.0 asked.1) by))

  at_end : (v : View ItemOut) → SoFar [] v → R v
  at_end v (There reached) = reached
  at_end v (Asks k z u reached may put asked) = absurd (let none = asked.1 in let no_way : ⊥ = cc in no_way)

  to_the_end : (moves : List (LinkMove ItemOut)) (v last : View ItemOut) → SoFar moves v → (along : LinkReaches moves v last) → ArePrompt moves → AreMay May moves v last along → R last
  to_the_end [] v last so same prompt may = subst R (sym same) (at_end v so)
  to_the_end (move ∷ moves) v last so (next, by, along) prompt may = to_the_end moves next last (further move moves v next so may.0 prompt.0 by) along prompt.1 may.1

  pub stays : (moves : List (LinkMove ItemOut)) (v last : View ItemOut) → R v → (along : LinkReaches moves v last) → ArePrompt moves → AreMay May moves v last along → R last
  stays moves v last reached along prompt may = to_the_end moves v last (There reached) along prompt may
