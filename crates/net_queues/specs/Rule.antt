-- The rule of the queue, and what each step does to what a pass knows.
use Rattle.std.specs.Prelude.{◌≡◌, ℕ, Bool, true, List, [], ◌∷◌, ◌++◌}
use mathlib.Core.Option.{some}
use lib.ListN.{get_elem?}
use Rattle.net_queues.specs.declared.rule.Side.{Side}

module _ {T : Type 0} where
  -- whether a pass may put and take, and what it knows
  abbrev pub side : Bool → Bool → List T → List T → Side T
  side puts takes put got = record { puts = puts; takes = takes; put = put; got = got }

  abbrev pub with_put : Side T → T → Side T
  with_put v x = record v { put = v.put ++ x ∷ [] }

  abbrev pub with_got : Side T → T → Side T
  with_got v x = record v { got = v.got ++ x ∷ [] }

  -- one pass at most may put, and knows all that was put; so of takes
  abbrev pub Fits : ℕ → ℕ → List T → List T → ℕ → Side T → Type 0
  Fits producer consumer sent got pass v = (v.puts ≡ true → (pass ≡ producer) × (v.put ≡ sent)) × (v.takes ≡ true → (pass ≡ consumer) × (v.got ≡ got))

  -- The rule: all that was put is what was taken and then what the queue holds.
  abbrev pub IsRelayed : List T → List (Side T) → Type 0
  IsRelayed items views =
      (producer : ℕ) × (consumer : ℕ) × (sent : List T) × (got : List T) × (sent ≡ got ++ items)
      × ((pass : ℕ) (v : Side T) → get_elem? views pass ≡ some v → Fits producer consumer sent got pass v)
