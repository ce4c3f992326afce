-- Reading the parts of a message. A reader answers what it took and the rest, or, where the bytes leave the grammar,
-- the bytes from the first on that no message has there.
use Rattle.std.specs.Prelude.{◌≡◌, ℕ, ◌==◌, Bool, true, false, List, [], ◌∷◌, ◌++◌, Option, Some, None, Result, Ok, Err, if◌then◌else◌}
use Rattle.std.specs.Borrow.{Bor}
use Rattle.auth_scram.specs.declared.parts.Departure.{Departure}

-- on with what was read, or stop where the bytes leave the grammar
infixl 10 ◌>>=◌
abbrev pub ◌>>=◌ : {A B : Type 0} → Result A (List ℕ) → (A → Result B (List ℕ)) → Result B (List ℕ)
(Ok x) >>= f = f x
(Err rest) >>= f = Err rest

-- a part and the rest
abbrev pub Cut : Type 0
Cut = List ℕ × List ℕ

abbrev pub with_first : ℕ → Result Cut (List ℕ) → Result Cut (List ℕ)
with_first b (Ok cut) = Ok (b ∷ cut.0, cut.1)
with_first b (Err rest) = Err rest

abbrev pub with_front : List ℕ → Result Cut (List ℕ) → Result Cut (List ℕ)
with_front bytes (Ok cut) = Ok (bytes ++ cut.0, cut.1)
with_front bytes (Err rest) = Err rest

-- the part ends in front of the rest, if it may end
abbrev pub ended : Bool → List ℕ → Result Cut (List ℕ)
ended true rest = Ok ([], rest)
ended false rest = Err rest

-- with the next state where there is one
abbrev pub either_way : {S A : Type 0} → (S → A) → A → Option S → A
either_way next here None = here
either_way next here (Some s) = next s

-- the longest part of which each byte may follow those before it
abbrev pub run : {S : Type 0} → (S → ℕ → Option S) → (S → Bool) → S → List ℕ → Result Cut (List ℕ)
run goes_on may_end s [] = ended (may_end s) []
run goes_on may_end s (b ∷ bs) =
    either_way (λ t. with_first b (run goes_on may_end t bs)) (ended (may_end s) (b ∷ bs)) (goes_on s b)

-- these bytes, and then the rest
abbrev pub literal : List ℕ → List ℕ → Result (List ℕ) (List ℕ)
literal [] bytes = Ok bytes
literal (w ∷ word) [] = Err []
literal (w ∷ word) (b ∷ bytes) = if b == w then literal word bytes else Err (b ∷ bytes)

-- nothing is left
abbrev pub ends_here : List ℕ → Result Bool (List ℕ)
ends_here [] = Ok true
ends_here (b ∷ bytes) = Err (b ∷ bytes)

-- what a function returned, seen by view, is what reading gives
abbrev pub Gives : {X Y : Type 0} → (X → Y) → Result X Departure → Result Y (List ℕ) → Type 0
Gives view (Ok x) read = read ≡ Ok (view x)
Gives view (Err departure) read = read ≡ Err departure.rest.now

abbrev pub cut_seen : Bor (List ℕ) × Bor (List ℕ) → Cut
cut_seen cut = (cut.0.now, cut.1.now)
