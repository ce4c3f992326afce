-- How the client speaks: what it queues of an item, and what goes into its stream (RFC 6120, section 4.4). Its rows are over any
-- such speech, and never look into what is put.
use Rattle.std.specs.Prelude.{ℕ, List, [], ◌∷◌, ◌++◌, Option, Some, None}
use Rattle.xml_trees.specs.Trees.{Elem}
use Rattle.xml_writer.specs.Items.{ItemOut, written_item}

-- what happens to the session (XEP-0198, sections 3 to 5), beside what is put and told
pub data Note (A : Type 0) : Type 0 where
  -- a resource was bound, and its epoch begins
  Epoch : ℕ → Note A
  -- stanzas are counted from now on
  Counted : Note A
  -- a stanza of the server was handled
  Handled : Elem → Note A
  -- a stanza waits to be acknowledged
  Put : A → Note A
  -- the server was told how many of its stanzas were handled
  Stated : ℕ → Note A
  -- the server has handled so many stanzas more
  Acknowledged : ℕ → Note A
  -- the session ended, where there was one
  Ended : Note A

-- an item as it waits; the same in the stream; and what is noted down behind earlier notes
pub record Speech (A X : Type 0) : Type 0 where
  pub say : ItemOut → A
  pub spread : A → List X
  pub note : List (Note A) → Note A → List (Note A)

-- as bytes, and nothing is noted down: this is what the code does
abbrev pub in_bytes : Speech (List ℕ) ℕ
in_bytes = record { say = written_item; spread = λ bytes. bytes; note = λ notes one. notes }

-- as items, and all is noted down
abbrev pub in_items : Speech ItemOut ItemOut
in_items = record { say = λ item. item; spread = λ item. item ∷ []; note = λ notes one. notes ++ one ∷ [] }

abbrev pub uttered : {A X : Type 0} → Speech A X → ItemOut → List X
uttered speech item = speech.spread (speech.say item)

-- an item that may be there
abbrev pub uttered_where : {A X : Type 0} → Speech A X → Option ItemOut → List X
uttered_where speech None = []
uttered_where speech (Some item) = uttered speech item

-- what waits, in order
abbrev pub spread_all : {A X : Type 0} → Speech A X → List A → List X
spread_all speech [] = []
spread_all speech (stanza ∷ queue) = speech.spread stanza ++ spread_all speech queue
