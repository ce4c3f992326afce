-- What a call that brings an address, or a part of one, into normal form answers. Want of memory alone is free.
use Rattle.std.specs.Prelude.{◌≡◌, ℕ, List, ◌++◌, Result, Ok, Err}
use Rattle.im_jid.specs.declared.fault.JidFault.{JidFault}
use Rattle.im_jid.specs.declared.fault.JidFault.TheVariants.{NoMemory}

-- unless memory ran out, the result, seen by `view`, is the answer
abbrev pub Answers : {T : Type 0} → (T → List ℕ) → Result T JidFault → Result (List ℕ) JidFault → Type 0
Answers view (Ok value) answer = answer ≡ Ok (view value)
Answers view (Err NoMemory) answer = Unit {0}
Answers view (Err e) answer = answer ≡ Err e

-- unless memory ran out, the part was added to the text, or the refusal is the part's
abbrev pub Appends : List ℕ → List ℕ → Result (Unit {0}) JidFault → Result (List ℕ) JidFault → Type 0
Appends old new (Ok done) answer = (part : List ℕ) × (answer ≡ Ok part) × (new ≡ old ++ part)
Appends old new (Err NoMemory) answer = Unit {0}
Appends old new (Err e) answer = answer ≡ Err e
