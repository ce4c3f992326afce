-- The definitions, evaluated at values that were worked out beforehand.
use Rattle.std.proofs.Common.{◌≡◌, ℕ, true, false, List, [], ◌∷◌, codes, map, refl}
use Rattle.sm_outbox.specs.Directions.{chosen}
use Rattle.sm_outbox.specs.Submissions.{SaidView, acknowledged, next_number, nothing_said, said_of, undecided, with_said}
use Rattle.sm_outbox.specs.Waiting.{Waiting, acked, answered, is_too_high, resent, submissions_to, too_high}
use Rattle.sm_outbox.specs.declared.said.Said.{Said}
use Rattle.sm_outbox.specs.declared.said.SaidState.{SaidState}
use Rattle.sm_outbox.specs.declared.said.SaidState.TheVariants as state

-- three stanzas wait, of which the first and the last are submissions, and the count is about to wrap
abbrev three : Waiting ℕ
three = record { acked = 4294967295; handled = 4294967295; queue = 10 ∷ 11 ∷ 12 ∷ []; submissions = true ∷ false ∷ true ∷ [] }

-- counts 0, 2 and 3 are one, three and four stanzas further
first : acked three 0 ≡ record { acked = 0; handled = 4294967295; queue = 11 ∷ 12 ∷ []; submissions = false ∷ true ∷ [] }
first = refl

all_submissions : submissions_to three 2 ≡ 2
all_submissions = refl

sent_again : resent three 0 ≡ 11 ∷ 12 ∷ []
sent_again = refl

fits : is_too_high three 2 ≡ false
fits = refl

exceeds : is_too_high three 3 ≡ true
exceeds = refl

told : too_high three 3 ≡ record { h = 3; send_count = 2 }
told = refl

-- a count that was taken before is too high
stale : is_too_high (acked three 0) 4294967295 ≡ true
stale = refl

answers : answered three 13 ≡ record { acked = 4294967295; handled = 0; queue = 10 ∷ 11 ∷ 12 ∷ 13 ∷ []; submissions = true ∷ false ∷ true ∷ false ∷ [] }
answers = refl

which : chosen three.queue three.submissions ≡ 10 ∷ 12 ∷ []
which = refl

-- two submissions of the second epoch
abbrev two : SaidView
two = with_said (with_said nothing_said (said_of 2 0 (codes "bob") (codes "a") false)) (said_of 2 1 (codes "bob") (codes "b") true)

abbrev states : List Said → List SaidState
states items = map (λ (said : Said). said.state) items

one_settled : states (undecided (acknowledged 1 two)).settled ≡ state.Acknowledged ∷ state.Undecided ∷ []
one_settled = refl

one_waits : map (λ (said : Said). said.n) (acknowledged 1 two).waiting ≡ 2 ∷ []
one_waits = refl

stays : next_number 18446744073709551615 ≡ 18446744073709551615
stays = refl
