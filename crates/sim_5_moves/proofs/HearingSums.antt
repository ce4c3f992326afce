-- A message that is delivered and copied is heard once, by those who hear it: a matter of tests alone.
use Rattle.std.proofs.Common.{◌≡◌, Bool, true, false, not, ◌&&◌, ◌||◌, List, [], ◌++◌, refl, if◌then◌else◌}
use Rattle.std.proofs.lemmas.Bool.{false≢true}
use Rattle.std.proofs.lemmas.List.{append-nil}

-- one list where the test passes
abbrev pub where_so : {X : Type 0} → Bool → List X → List X
where_so b xs = if b then xs else []

-- Where it is delivered it isn't copied. Else it is copied as sent to the sender's account, or as received to the
-- recipient's where that is another one. `delivered`; `wants` copies; of the `senders`, or the `recipients`, account; is the
-- session that `sent` it; and the two accounts are the `same`
pub heard_once : {X : Type 0} (delivered wants senders recipients sent same : Bool) (xs : List X) → (senders ≡ true → recipients ≡ true → same ≡ true) → (same ≡ true → recipients ≡ true → senders ≡ true) →
    where_so delivered xs ++ (where_so (senders && (wants && not (sent || delivered))) xs ++ where_so (not same && (recipients && (wants && not (sent || delivered)))) xs)
    ≡ where_so (delivered || ((wants && (senders || recipients)) && not sent)) xs
heard_once true true true true true true xs both one = append-nil xs
heard_once true true true true true false xs both one = append-nil xs
heard_once true true true true false true xs both one = append-nil xs
heard_once true true true true false false xs both one = append-nil xs
heard_once true true true false true true xs both one = append-nil xs
heard_once true true true false true false xs both one = append-nil xs
heard_once true true true false false true xs both one = append-nil xs
heard_once true true true false false false xs both one = append-nil xs
heard_once true true false true true true xs both one = append-nil xs
heard_once true true false true true false xs both one = append-nil xs
heard_once true true false true false true xs both one = append-nil xs
heard_once true true false true false false xs both one = append-nil xs
heard_once true true false false true true xs both one = append-nil xs
heard_once true true false false true false xs both one = append-nil xs
heard_once true true false false false true xs both one = append-nil xs
heard_once true true false false false false xs both one = append-nil xs
heard_once true false true true true true xs both one = append-nil xs
heard_once true false true true true false xs both one = append-nil xs
heard_once true false true true false true xs both one = append-nil xs
heard_once true false true true false false xs both one = append-nil xs
heard_once true false true false true true xs both one = append-nil xs
heard_once true false true false true false xs both one = append-nil xs
heard_once true false true false false true xs both one = append-nil xs
heard_once true false true false false false xs both one = append-nil xs
heard_once true false false true true true xs both one = append-nil xs
heard_once true false false true true false xs both one = append-nil xs
heard_once true false false true false true xs both one = append-nil xs
heard_once true false false true false false xs both one = append-nil xs
heard_once true false false false true true xs both one = append-nil xs
heard_once true false false false true false xs both one = append-nil xs
heard_once true false false false false true xs both one = append-nil xs
heard_once true false false false false false xs both one = append-nil xs
heard_once false true true true true true xs both one = refl
heard_once false true true true true false xs both one = refl
heard_once false true true true false true xs both one = append-nil xs
heard_once false true true true false false xs both one = absurd (false≢true (both refl refl))
heard_once false true true false true true xs both one = refl
heard_once false true true false true false xs both one = refl
heard_once false true true false false true xs both one = append-nil xs
heard_once false true true false false false xs both one = append-nil xs
heard_once false true false true true true xs both one = refl
heard_once false true false true true false xs both one = refl
heard_once false true false true false true xs both one = absurd (false≢true (one refl refl))
heard_once false true false true false false xs both one = refl
heard_once false true false false true true xs both one = refl
heard_once false true false false true false xs both one = refl
heard_once false true false false false true xs both one = refl
heard_once false true false false false false xs both one = refl
heard_once false false true true true true xs both one = refl
heard_once false false true true true false xs both one = refl
heard_once false false true true false true xs both one = refl
heard_once false false true true false false xs both one = refl
heard_once false false true false true true xs both one = refl
heard_once false false true false true false xs both one = refl
heard_once false false true false false true xs both one = refl
heard_once false false true false false false xs both one = refl
heard_once false false false true true true xs both one = refl
heard_once false false false true true false xs both one = refl
heard_once false false false true false true xs both one = refl
heard_once false false false true false false xs both one = refl
heard_once false false false false true true xs both one = refl
heard_once false false false false true false xs both one = refl
heard_once false false false false false true xs both one = refl
heard_once false false false false false false xs both one = refl
