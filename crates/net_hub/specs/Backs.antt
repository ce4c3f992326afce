-- Places and the halves of their connections, when these are given back.
use Rattle.std.specs.Prelude.{◌≡◌, ℕ, ◌+◌, true, List, [], ◌∷◌, ◌++◌, Option, None, Some, IfSome, length}
use mathlib.Core.Option.{some}
use lib.ListN.{get_elem?}
use Rattle.net_traits.specs.Halves.{IncomingView, OutgoingView, link_of}
use Rattle.net_traits.specs.Links.{LinkView}
use Rattle.net_owner.specs.Halves.{IsNew}
use Rattle.net_owner.specs.Owners.{HasGiven}
use Rattle.net_owner.specs.declared.position.Slot.{Slot}
use Rattle.net_owner.specs.Merge.{items_of}
use Rattle.net_owner.specs.Feeds.{has_end, number}
use Rattle.net_owner.specs.Readers.{HasRead}
use Rattle.net_owner.specs.declared.item.Item.{Item}
use Rattle.net_owner.specs.declared.reader.ReaderAnswer.{ReaderAnswer}
use Rattle.net_owner.specs.declared.reader.ReaderJob.{ReaderJob}
use Rattle.net_hub.specs.declared.sender.Sender.{Sender}

-- the second list begins with the first
abbrev pub AreAfter : List LinkView → List LinkView → Type 0
AreAfter old new = (links : List LinkView) × (new ≡ old ++ links)

module _ {R I O P : Type 0} (told : I → IncomingView) (out : O → OutgoingView) where
  -- the half of each reader is of the same link as the half that stands at its place
  abbrev pub ArePaired : List (Slot R I P) → List (Sender O) → Type 0
  ArePaired positions senders = (i : ℕ) (p : Slot R I P) → get_elem? positions i ≡ some p
      → IfSome p.worker (λ job. (s : Sender O) × (get_elem? senders i ≡ some s) × ((told job.half).number ≡ (out s.half).number))

  -- the link of a reader that was joined: its one half is what the reader answered, and its other half is the sender's
  pub record IsLeft (job : ReaderJob R I P) (s : Sender O) (link : LinkView) : Type 0 where
    pub answer : ReaderAnswer I P
    pub read : HasRead told job answer
    pub link_is : link ≡ link_of (told answer.half) (out s.half)

  -- the link of the first reader, if one was started, and then the others
  abbrev pub AreLeftFrom : Option (ReaderJob R I P) → (List (Sender O) → List LinkView → Type 0) → List (Sender O) → List LinkView → Type 0
  AreLeftFrom None Others [] links = Others [] links
  AreLeftFrom None Others (s ∷ ss) links = Others ss links
  AreLeftFrom (Some job) Others [] links = ⊥
  AreLeftFrom (Some job) Others (s ∷ ss) [] = ⊥
  AreLeftFrom (Some job) Others (s ∷ ss) (l ∷ ls) = IsLeft job s l × Others ss ls

  -- the links of all readers that were started, in the order of their places, each with the sender at its place
  abbrev pub AreLeft : List (Slot R I P) → List (Sender O) → List LinkView → Type 0
  AreLeft [] senders [] = Unit {0}
  AreLeft [] senders (l ∷ ls) = ⊥
  AreLeft (p ∷ ps) senders links = AreLeftFrom p.worker (AreLeft ps) senders links

  -- These links were given back, and these places and senders are left: with whatever links are theirs, those of all are given
  -- back.
  pub record AreLeftYet (positions left : List (Slot R I P)) (senders rest : List (Sender O)) (old now : List LinkView) : Type 0 where
    pub links : List LinkView
    pub given : now ≡ old ++ links
    pub whole : (more : List LinkView) → AreLeft left rest more → AreLeft positions senders (links ++ more)

  module _ (got : List (Item P)) where
    -- the reader of connection k was started and has ended; its half was new, and is of the same link as the sender's
    pub record IsReady (same : ReaderJob R I P → Type 0) (k : ℕ) (p : Slot R I P) (s : Sender O) : Type 0 where
      pub job : ReaderJob R I P
      pub worker : p.worker ≡ Some job
      pub queue : same job
      pub from : job.from ≡ k
      pub ended : has_end (items_of number k got) ≡ true
      pub pair : (told job.half).number ≡ (out s.half).number
      pub new : IsNew (told job.half)

    -- so are all, from k on
    abbrev pub AreReady : (ReaderJob R I P → Type 0) → ℕ → List (Slot R I P) → List (Sender O) → Type 0
    AreReady same k [] [] = Unit {0}
    AreReady same k [] (s ∷ ss) = ⊥
    AreReady same k (p ∷ ps) [] = ⊥
    AreReady same k (p ∷ ps) (s ∷ ss) = IsReady same k p s × AreReady same (k + 1) ps ss

    -- the link of connection k: what its half gave is what was taken of its reader, and its other half is the sender's
    pub record IsBack (k : ℕ) (p : Slot R I P) (s : Sender O) (link : LinkView) : Type 0 where
      pub job : ReaderJob R I P
      pub half : I
      pub given : HasGiven told job (items_of number k got) half
      pub new : IsNew (told job.half)
      pub link_is : link ≡ link_of (told half) (out s.half)

    -- the links of all, from k on
    abbrev pub AreBack : ℕ → List (Slot R I P) → List (Sender O) → List LinkView → Type 0
    AreBack k [] [] [] = Unit {0}
    AreBack k [] [] (l ∷ ls) = ⊥
    AreBack k [] (s ∷ ss) links = ⊥
    AreBack k (p ∷ ps) [] links = ⊥
    AreBack k (p ∷ ps) (s ∷ ss) [] = ⊥
    AreBack k (p ∷ ps) (s ∷ ss) (l ∷ ls) = IsBack k p s l × AreBack (k + 1) ps ss ls

module _ {R I O P : Type 0} (told : I → IncomingView) (out : O → OutgoingView) (got : List (Item P)) where
  -- the first n links were given back, and these places and senders are left
  pub record AreBackYet (n : ℕ) (positions left : List (Slot R I P)) (senders rest : List (Sender O)) (old now : List LinkView) : Type 0 where
    pub ps : List (Slot R I P)
    pub ss : List (Sender O)
    pub links : List LinkView
    pub positions_are : positions ≡ ps ++ left
    pub senders_are : senders ≡ ss ++ rest
    pub many : length ps ≡ n
    pub given : now ≡ old ++ links
    pub back : AreBack told out got 1 ps ss links
