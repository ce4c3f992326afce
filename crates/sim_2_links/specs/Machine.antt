-- The moves of one device and its server, one after the other.
use Rattle.std.specs.Prelude.{◌≡◌, ℕ, List, [], ◌∷◌, None}
use Rattle.sim_2_links.specs.Stages.{Ending}
use Rattle.sim_2_links.specs.Views.{View}
use Rattle.sim_2_links.specs.LinkMoves.{IsCut, IsLetGo, IsDialled, IsUpHand, IsDownHand, IsUpStanza, IsUpRequest, IsUpCount, IsDownStanza, IsDownRequest, IsDownCount}
use Rattle.sim_2_links.specs.SessionMoves.{IsAskResume, IsAskBind, IsRefused, IsDetached, IsRowEnded, IsBound, IsReadBound, IsEnabled, IsReadEnabled, IsClientPut, IsResumedHere, IsResumedLate, IsReadResumed, IsParked}
use Rattle.sim_2_links.specs.EndMoves.{IsFailed, IsTooHigh, IsFootTaken, IsUncountedShut, IsUncountedGone, IsGone, IsFooted, IsForgotten}
use Rattle.sim_2_links.specs.PutMoves.{IsClientQueued, IsClientRequest, IsServerPut, IsServerQueued, IsServerRequest}

-- what can happen: on which connection, with which session, stanza or count
pub data LinkMove (A : Type 0) : Type 0 where
  -- the network
  Cuts : ℕ → ℕ → ℕ → LinkMove A
  -- the client by itself
  Dials : ℕ → LinkMove A
  LetsGo : ℕ → LinkMove A
  Foots : ℕ → LinkMove A
  Forgets : LinkMove A
  Puts : ℕ → A → LinkMove A
  Queues : A → LinkMove A
  Requests : ℕ → LinkMove A
  -- the client takes the next word
  ReadsHand : ℕ → LinkMove A
  AsksToResume : ℕ → LinkMove A
  AsksToBind : ℕ → LinkMove A
  ReadsFailed : ℕ → LinkMove A
  ReadsResumed : ℕ → LinkMove A
  ReadsBound : ℕ → ℕ → LinkMove A
  ReadsEnabled : ℕ → ℕ → LinkMove A
  ReadsStanza : ℕ → A → LinkMove A
  ReadsRequest : ℕ → LinkMove A
  ReadsCount : ℕ → ℕ → LinkMove A
  -- the server takes the next word
  TakesHand : ℕ → LinkMove A
  TakesResume : ℕ → LinkMove A
  TakesLateResume : ℕ → LinkMove A
  TakesStrangeResume : ℕ → LinkMove A
  TakesHighResume : ℕ → LinkMove A
  TakesBind : ℕ → ℕ → LinkMove A
  TakesEnable : ℕ → LinkMove A
  TakesStanza : ℕ → A → LinkMove A
  TakesRequest : ℕ → LinkMove A
  TakesCount : ℕ → ℕ → LinkMove A
  TakesFoot : ℕ → LinkMove A
  -- the server hears of the end of a connection
  Parks : ℕ → LinkMove A
  Hears : ℕ → LinkMove A
  HearsEarly : ℕ → LinkMove A
  -- the server by itself, and for other devices
  Detaches : ℕ → Ending → LinkMove A
  Shuts : ℕ → Ending → LinkMove A
  EndsRow : LinkMove A
  Serves : ℕ → A → LinkMove A
  Keeps : A → LinkMove A
  Demands : ℕ → LinkMove A

-- the move leads from the one view to the other
abbrev pub LinkMoves : {A : Type 0} → LinkMove A → View A → View A → Type 0
LinkMoves (Cuts k i j) v next = IsCut k i j v next
LinkMoves (Dials k) v next = IsDialled k v next
LinkMoves (LetsGo k) v next = IsLetGo k v next
LinkMoves (Foots k) v next = IsFooted k v next
LinkMoves Forgets v next = IsForgotten v next
LinkMoves (Puts k z) v next = IsClientPut k z v next
LinkMoves (Queues z) v next = IsClientQueued z v next
LinkMoves (Requests k) v next = IsClientRequest k v next
LinkMoves (ReadsHand k) v next = IsDownHand k v next
LinkMoves (AsksToResume k) v next = IsAskResume k v next
LinkMoves (AsksToBind k) v next = IsAskBind k v next
LinkMoves (ReadsFailed k) v next = IsRefused k v next
LinkMoves (ReadsResumed k) v next = IsReadResumed k v next
LinkMoves (ReadsBound k m) v next = IsReadBound k m v next
LinkMoves (ReadsEnabled k m) v next = IsReadEnabled k m v next
LinkMoves (ReadsStanza k z) v next = IsDownStanza k z v next
LinkMoves (ReadsRequest k) v next = IsDownRequest k v next
LinkMoves (ReadsCount k h) v next = IsDownCount k h v next
LinkMoves (TakesHand k) v next = IsUpHand k v next
LinkMoves (TakesResume k) v next = IsResumedHere k v next
LinkMoves (TakesLateResume k) v next = IsResumedLate k v next
LinkMoves (TakesStrangeResume k) v next = IsFailed k v next
LinkMoves (TakesHighResume k) v next = IsTooHigh k v next
LinkMoves (TakesBind k m) v next = IsBound k m v next
LinkMoves (TakesEnable k) v next = IsEnabled k v next
LinkMoves (TakesStanza k z) v next = IsUpStanza k z v next
LinkMoves (TakesRequest k) v next = IsUpRequest k v next
LinkMoves (TakesCount k h) v next = IsUpCount k h v next
LinkMoves (TakesFoot k) v next = IsFootTaken k v next
LinkMoves (Parks k) v next = IsParked k v next
LinkMoves (Hears k) v next = IsGone k v next
LinkMoves (HearsEarly k) v next = IsUncountedGone k v next
LinkMoves (Detaches k ending) v next = IsDetached k ending v next
LinkMoves (Shuts k ending) v next = IsUncountedShut k ending v next
LinkMoves EndsRow v next = IsRowEnded v next
LinkMoves (Serves k z) v next = IsServerPut k z v next
LinkMoves (Keeps z) v next = IsServerQueued z v next
LinkMoves (Demands k) v next = IsServerRequest k v next

-- a device at the beginning
abbrev pub nothing_yet : {A : Type 0} → View A
nothing_yet = record { here = None; conns = λ k. None; row = None; own = None; epoch = 0; sessions = λ p. None; free = 0 }

-- the moves lead, one after the other, from the one view to the other
abbrev pub LinkReaches : {A : Type 0} → List (LinkMove A) → View A → View A → Type 0
LinkReaches [] v last = last ≡ v
LinkReaches {A = A} (move ∷ moves) v last = (next : View A) × LinkMoves move v next × LinkReaches moves next last

-- some moves lead to the view from the beginning
pub record LinkReached {A : Type 0} (v : View A) : Type 0 where
  pub moves : List (LinkMove A)
  pub reaches : LinkReaches moves nothing_yet v
