-- Lists of messages, of requests and of numbers.
use Rattle.std.proofs.Common.{◌≡◌, ℕ, suc, ◌+◌, List, [], ◌∷◌, ◌++◌, length, refl, ap, subst, arith}
use Rattle.sim_1_applications.specs.Stanzas.{Submission, Up, Down, messages, requests, answers, lives}
use Rattle.sim_1_applications.specs.Stanzas.Up.{Carbons, Presence, Message, Query}
use Rattle.sim_1_applications.specs.Stanzas.Down.{Accepted, Bounced, Live, Res, Fin, NotFound}
use Rattle.sim_1_applications.specs.Kept.{AreNumbered}

pub messages_append : (a b : List Up) → messages (a ++ b) ≡ messages a ++ messages b
messages_append [] b = refl
messages_append (Carbons ∷ a) b = messages_append a b
messages_append (Presence ∷ a) b = messages_append a b
messages_append (Message m ∷ a) b = ap (λ ms. m ∷ ms) (messages_append a b)
messages_append (Query r ∷ a) b = messages_append a b

pub requests_append : (a b : List Up) → requests (a ++ b) ≡ requests a ++ requests b
requests_append [] b = refl
requests_append (Carbons ∷ a) b = requests_append a b
requests_append (Presence ∷ a) b = requests_append a b
requests_append (Message m ∷ a) b = requests_append a b
requests_append (Query r ∷ a) b = ap (λ rs. r ∷ rs) (requests_append a b)

pub answers_append : (a b : List Down) → answers (a ++ b) ≡ answers a ++ answers b
answers_append [] b = refl
answers_append (Accepted ∷ a) b = answers_append a b
answers_append (Bounced e n ∷ a) b = answers_append a b
answers_append (Live n ∷ a) b = answers_append a b
answers_append (Res q n ∷ a) b = ap (λ zs. Res q n ∷ zs) (answers_append a b)
answers_append (Fin q c l t ∷ a) b = ap (λ zs. Fin q c l t ∷ zs) (answers_append a b)
answers_append (NotFound q ∷ a) b = ap (λ zs. NotFound q ∷ zs) (answers_append a b)

pub lives_append : (a b : List Down) → lives (a ++ b) ≡ lives a ++ lives b
lives_append [] b = refl
lives_append (Accepted ∷ a) b = lives_append a b
lives_append (Bounced e n ∷ a) b = lives_append a b
lives_append (Live n ∷ a) b = ap (λ ns. n ∷ ns) (lives_append a b)
lives_append (Res q n ∷ a) b = lives_append a b
lives_append (Fin q c l t ∷ a) b = lives_append a b
lives_append (NotFound q ∷ a) b = lives_append a b

-- one more, with the next number
pub numbered_push : (e n : ℕ) (ms : List Submission) (m : Submission) → AreNumbered e n ms → m.epoch ≡ e → m.n ≡ n + length ms + 1 → AreNumbered e n (ms ++ m ∷ [])
numbered_push e n [] m known epoch next = (epoch, let low : length {A = Submission} [] ≡ 0 = refl in omega arith, tt)
numbered_push e n (a ∷ ms) m known epoch next =
    (known.0, known.1, numbered_push e (suc n) ms m known.2 epoch (let more : length (a ∷ ms) ≡ suc (length ms) = refl in omega arith))

-- the front of such a list, and the rest
pub numbered_front : (e n : ℕ) (a b : List Submission) → AreNumbered e n (a ++ b) → AreNumbered e n a
numbered_front e n [] b known = tt
numbered_front e n (m ∷ a) b known = (known.0, known.1, numbered_front e (suc n) a b known.2)

pub numbered_rest : (e n : ℕ) (a b : List Submission) → AreNumbered e n (a ++ b) → AreNumbered e (n + length a) b
numbered_rest e n [] b known = subst (λ k. AreNumbered e k b) (let same : n ≡ n + 0 = omega arith in same) known
numbered_rest e n (m ∷ a) b known =
    subst (λ k. AreNumbered e k b) (let same : suc n + length a ≡ n + suc (length a) = omega arith in same) (numbered_rest e (suc n) a b known.2)
