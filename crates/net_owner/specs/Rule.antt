-- The rule of the queue, and what each step does to what a pass knows.
use Rattle.std.specs.Prelude.{◌≡◌, ℕ, ◌+◌, ◌<◌, ◌≤◌, true, false, List, [], ◌∷◌, ◌++◌}
use mathlib.Core.Option.{Option, some, none}
use lib.ListN.{get_elem?}
use Rattle.net_owner.specs.declared.rule.Known.{Known}
use Rattle.net_owner.specs.Merge.{items_of}

module _ {T : Type 0} where
  abbrev pub nobody : Known T
  nobody = record { sends = false; takes = false; from = 0; put = []; got = []; made = 0; told = false; told_from = 0; told_put = [] }

  -- the pass that takes, at first
  abbrev pub owner : Known T
  owner = record { sends = false; takes = true; from = 0; put = []; got = []; made = 0; told = false; told_from = 0; told_put = [] }

  -- the sender k, which has sent nothing
  abbrev pub sender : ℕ → Known T
  sender k = record { sends = true; takes = false; from = k; put = []; got = []; made = 0; told = false; told_from = 0; told_put = [] }

  abbrev pub with_put : Known T → T → Known T
  with_put v x = record v { put = v.put ++ x ∷ [] }

  abbrev pub with_got : Known T → T → Known T
  with_got v x = record v { got = v.got ++ x ∷ [] }

  abbrev pub with_more : Known T → Known T
  with_more v = record v { made = v.made + 1 }

  abbrev pub with_told : Known T → Known T → Known T
  with_told v w = record v { told = true; told_from = w.from; told_put = w.put }

  module _ (from : T → ℕ) where
    -- what the owner learns: what was taken of the sender of which it was told last, and then what the queue holds of it, is what it sent
    abbrev pub IsTold : Known T → List T → Type 0
    IsTold v items = v.told ≡ true → items_of from v.told_from (v.got ++ items) ≡ v.told_put

    -- a sender has the pass that is kept for its number, and knows what it sent
    abbrev pub FitsSender : (ℕ → Option ℕ) → List T → ℕ → Known T → Type 0
    FitsSender seat all pass v = v.sends ≡ true → (seat v.from ≡ some pass) × (v.put ≡ items_of from v.from all)

    -- the owner has its pass, and knows what it took; no sender has a number from `made` on; what it was told is all of it
    abbrev pub FitsOwner : ℕ → (ℕ → Option ℕ) → List T → List T → ℕ → Known T → Type 0
    FitsOwner position seat got all pass v = v.takes ≡ true
        → (pass ≡ position) × (v.got ≡ got)
        × ((k : ℕ) → v.made ≤ k → (seat k ≡ none) × (items_of from k all ≡ []))
        × (v.told ≡ true → (v.told_from < v.made) × (seat v.told_from ≡ none) × (items_of from v.told_from all ≡ v.told_put))

    -- The rule: all that was sent is what was taken and then what the queue holds.
    abbrev pub Carries : List T → List (Known T) → Type 0
    Carries items views =
        (position : ℕ) × (seat : ℕ → Option ℕ) × (got : List T) × (all : List T) × (all ≡ got ++ items)
        × ((pass : ℕ) (v : Known T) → get_elem? views pass ≡ some v → FitsSender seat all pass v × FitsOwner position seat got all pass v)
