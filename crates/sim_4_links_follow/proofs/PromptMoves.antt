-- Moves before more moves: where the client puts requests at once.
use Rattle.std.proofs.Common.{◌≡◌, List, [], ◌∷◌, ◌++◌, ap, inl, inr, subst, sym}
use Rattle.sim_3_items.specs.Labels.{ArePrompt, Drops, Enters, Gives, IsPromptBefore, Label, Learns, Names, Reads, Says, SaysNothing, Takes, gives_all, label_of, labels_of}
use Rattle.sim_2_links.specs.Machine.{AsksToBind, AsksToResume, Cuts, Demands, Detaches, Dials, EndsRow, Foots, Forgets, Hears, HearsEarly, Keeps, LetsGo, Parks, Puts, Queues, ReadsBound, ReadsCount, ReadsEnabled, ReadsFailed, ReadsHand, ReadsRequest, ReadsResumed, ReadsStanza, Requests, Serves, Shuts, TakesBind, TakesCount, TakesEnable, TakesFoot, TakesHand, TakesHighResume, TakesLateResume, TakesRequest, TakesResume, TakesStanza, TakesStrangeResume, LinkMove}
use Rattle.xml_writer.specs.Items.{ItemOut}

-- ---- a move

after_more : (moves more : List (LinkMove ItemOut)) (move : LinkMove ItemOut) → IsPromptBefore moves move → IsPromptBefore (moves ++ more) move
after_more moves more (Cuts k i j) is = tt
after_more moves more (Dials k) is = tt
after_more moves more (LetsGo k) is = tt
after_more moves more (Foots k) is = tt
after_more moves more Forgets is = tt
after_more moves more (Puts k z) (inl other) = inl other
after_more moves more (Puts k z) (inr asked) = inr (asked.0 ++ more, ap (λ l. l ++ more) asked.1)
after_more moves more (Queues z) is = tt
after_more moves more (Requests k) is = tt
after_more moves more (ReadsHand k) is = tt
after_more moves more (AsksToResume k) is = tt
after_more moves more (AsksToBind k) is = tt
after_more moves more (ReadsFailed k) is = tt
after_more moves more (ReadsResumed k) is = tt
after_more moves more (ReadsBound k m) is = tt
after_more moves more (ReadsEnabled k m) is = tt
after_more moves more (ReadsStanza k z) is = tt
after_more moves more (ReadsRequest k) is = tt
after_more moves more (ReadsCount k h) is = tt
after_more moves more (TakesHand k) is = tt
after_more moves more (TakesResume k) is = tt
after_more moves more (TakesLateResume k) is = tt
after_more moves more (TakesStrangeResume k) is = tt
after_more moves more (TakesHighResume k) is = tt
after_more moves more (TakesBind k m) is = tt
after_more moves more (TakesEnable k) is = tt
after_more moves more (TakesStanza k z) is = tt
after_more moves more (TakesRequest k) is = tt
after_more moves more (TakesCount k h) is = tt
after_more moves more (TakesFoot k) is = tt
after_more moves more (Parks k) is = tt
after_more moves more (Hears k) is = tt
after_more moves more (HearsEarly k) is = tt
after_more moves more (Detaches k ending) is = tt
after_more moves more (Shuts k ending) is = tt
after_more moves more EndsRow is = tt
after_more moves more (Serves k z) is = tt
after_more moves more (Keeps z) is = tt
after_more moves more (Demands k) is = tt

-- it says nothing
after_silent : (moves : List (LinkMove ItemOut)) (move : LinkMove ItemOut) → SaysNothing (label_of move) → IsPromptBefore moves move
after_silent moves (Cuts k i j) none = tt
after_silent moves (Dials k) none = tt
after_silent moves (LetsGo k) none = tt
after_silent moves (Foots k) none = tt
after_silent moves Forgets none = tt
after_silent moves (Puts k z) none = absurd none
after_silent moves (Queues z) none = tt
after_silent moves (Requests k) none = tt
after_silent moves (ReadsHand k) none = tt
after_silent moves (AsksToResume k) none = tt
after_silent moves (AsksToBind k) none = tt
after_silent moves (ReadsFailed k) none = tt
after_silent moves (ReadsResumed k) none = tt
after_silent moves (ReadsBound k m) none = tt
after_silent moves (ReadsEnabled k m) none = tt
after_silent moves (ReadsStanza k z) none = tt
after_silent moves (ReadsRequest k) none = tt
after_silent moves (ReadsCount k h) none = tt
after_silent moves (TakesHand k) none = tt
after_silent moves (TakesResume k) none = tt
after_silent moves (TakesLateResume k) none = tt
after_silent moves (TakesStrangeResume k) none = tt
after_silent moves (TakesHighResume k) none = tt
after_silent moves (TakesBind k m) none = tt
after_silent moves (TakesEnable k) none = tt
after_silent moves (TakesStanza k z) none = tt
after_silent moves (TakesRequest k) none = tt
after_silent moves (TakesCount k h) none = tt
after_silent moves (TakesFoot k) none = tt
after_silent moves (Parks k) none = tt
after_silent moves (Hears k) none = tt
after_silent moves (HearsEarly k) none = tt
after_silent moves (Detaches k ending) none = tt
after_silent moves (Shuts k ending) none = tt
after_silent moves EndsRow none = tt
after_silent moves (Serves k z) none = tt
after_silent moves (Keeps z) none = tt
after_silent moves (Demands k) none = tt

-- ---- labels

first_silent : {A : Type 0} (first more : List (Label A)) → SaysNothing (first ++ more) → SaysNothing first
first_silent [] more none = tt
first_silent ((Says z) ∷ first) more none = none
first_silent ((Takes z) ∷ first) more none = first_silent first more none
first_silent ((Gives z) ∷ first) more none = first_silent first more none
first_silent ((Reads z) ∷ first) more none = first_silent first more none
first_silent (Names ∷ first) more none = first_silent first more none
first_silent (Enters ∷ first) more none = first_silent first more none
first_silent (Learns ∷ first) more none = first_silent first more none
first_silent (Drops ∷ first) more none = first_silent first more none

last_silent : {A : Type 0} (first more : List (Label A)) → SaysNothing (first ++ more) → SaysNothing more
last_silent [] more none = none
last_silent ((Says z) ∷ first) more none = absurd none
last_silent ((Takes z) ∷ first) more none = last_silent first more none
last_silent ((Gives z) ∷ first) more none = last_silent first more none
last_silent ((Reads z) ∷ first) more none = last_silent first more none
last_silent (Names ∷ first) more none = last_silent first more none
last_silent (Enters ∷ first) more none = last_silent first more none
last_silent (Learns ∷ first) more none = last_silent first more none
last_silent (Drops ∷ first) more none = last_silent first more none

-- what the server gives is nothing that the client says
pub gives_nothing_said : {A : Type 0} (zs : List A) → SaysNothing (gives_all zs)
gives_nothing_said [] = tt
gives_nothing_said (z ∷ zs) = gives_nothing_said zs

-- ---- moves

pub silent_prompt : (moves : List (LinkMove ItemOut)) → SaysNothing (labels_of moves) → ArePrompt moves
silent_prompt [] none = tt
silent_prompt (move ∷ moves) none = (after_silent moves move (first_silent (label_of move) (labels_of moves) none), silent_prompt moves (last_silent (label_of move) (labels_of moves) none))

pub prompt_both : (moves more : List (LinkMove ItemOut)) → ArePrompt moves → ArePrompt more → ArePrompt (moves ++ more)
prompt_both [] more some rest = rest
prompt_both (move ∷ moves) more some rest = (after_more moves more move some.0, prompt_both moves more some.1 rest)

-- a server's moves, whose labels are these
pub silent_as : (moves : List (LinkMove ItemOut)) (done : List (Label ItemOut)) → labels_of moves ≡ done → SaysNothing done → ArePrompt moves
silent_as moves done does none = silent_prompt moves (subst SaysNothing (sym does) none)
