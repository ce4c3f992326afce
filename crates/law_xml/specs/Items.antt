-- Bytes as whole items of a stream, and the first bytes of one more (RFC 6120, sections 4.2 to 4.4).
use Rattle.std.specs.Prelude.{ℕ, ◌≡◌, ◌<◌, ◌⊎◌, Bool, true, false, List, [], ◌∷◌, ◌++◌, None, length, take}
use Rattle.xml_framer.specs.Machine.{run}
use Rattle.xml_framer.specs.States.{State, turn}
use Rattle.xml_framer.specs.declared.items.Item.{Item}

-- In a state of the framer these bytes give exactly this item, at the last of them, without a fault, and leave that
-- state. They may be the bytes of a declaration and of the header behind it: nothing is said of what is in hand
-- between.
pub record GivesOne (s : State) (bytes : List ℕ) (i : Item) (following : State) : Type 0 where
  pub run_is : run (turn s []) bytes ≡ turn following (i ∷ [])
  pub none_before : (n : ℕ) → n < length bytes → (run (turn s []) (take n bytes)).items ≡ []
  pub no_fault : following.fault ≡ None

-- the first bytes of an item, and not all of them
pub record IsFront (s : State) (bytes : List ℕ) : Type 0 where
  pub more : List ℕ
  pub given : Item
  pub following : State
  pub gives : GivesOne s (bytes ++ more) given following
  pub some_more : 0 < length more

-- What may stand behind whole items: nothing, and where the last bytes may be lost, a front of one more item.
abbrev pub IsRest : Bool → State → List ℕ → Type 0
IsRest false s bytes = bytes ≡ []
IsRest true s bytes = (bytes ≡ []) ⊎ IsFront s bytes

-- From a state on bytes are these items, one after another, and a rest. The items leave the last state.
pub data AreItems : Bool → State → List ℕ → List Item → State → Type 0 where
  no_more : (lost : Bool) (s : State) (bytes : List ℕ) (items : List Item) (t : State)
      → IsRest lost s bytes → items ≡ [] → t ≡ s → AreItems lost s bytes items t
  one_more : (lost : Bool) (s : State) (bytes : List ℕ) (items : List Item) (t : State) (first rest : List ℕ) (i : Item) (more : List Item) (next : State)
      → GivesOne s first i next → AreItems lost next rest more t → bytes ≡ first ++ rest → items ≡ i ∷ more → AreItems lost s bytes items t

-- bytes are whole items
abbrev pub AreWhole : State → List ℕ → List Item → State → Type 0
AreWhole s bytes items t = AreItems false s bytes items t
