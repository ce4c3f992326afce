-- What the bytes of a pipe stand for, behind the bytes that its reader has in hand.
use Rattle.std.specs.Prelude.{ℕ, ◌≡◌, List, [], ◌++◌, None, take}
use Rattle.xml_framer.specs.Machine.{run}
use Rattle.xml_framer.specs.States.{State, turn}
use Rattle.xml_framer.specs.declared.items.Item.{Item}
use Rattle.net_pipes.specs.Pipes.{Pipe, cut_to, handed}
use Rattle.law_xml.specs.Items.{AreItems, IsRest}

-- the framer behind the bytes that it took since it last gave an item
abbrev pub held : State → List ℕ → State
held s part = (run (turn s []) part).state

-- A framer gave its last item in a state, and took a part since that gave nothing. The part and the bytes of the pipe
-- are these items, and where the pipe has ended perhaps the first bytes of one more. What enters next comes to the last
-- state.
pub record Carries (s : State) (part : List ℕ) (p : Pipe) (items : List Item) (t : State) : Type 0 where
  pub no_fault : s.fault ≡ None
  pub none_given : (run (turn s []) part).items ≡ []
  pub are_items : AreItems p.ended s (part ++ p.bytes) items t

-- The first n bytes are handed to the framer. It gives some first items, whatever it gave before, and has no fault;
-- what is left in the pipe carries the others.
pub record GivesFirst (s : State) (part : List ℕ) (p : Pipe) (items : List Item) (t : State) (n : ℕ) : Type 0 where
  pub first : List Item
  pub others : List Item
  pub now : State
  pub kept : List ℕ
  pub items_are : items ≡ first ++ others
  pub run_is : (said : List Item) → run (turn (held s part) said) (take n p.bytes) ≡ turn (held now kept) (said ++ first)
  pub no_fault : (held now kept).fault ≡ None
  pub left : Carries now kept (handed n p) others t

-- The first n bytes stay: some first items do, and perhaps the first bytes of one more.
pub record KeepsFirst (s : State) (part : List ℕ) (p : Pipe) (items : List Item) (n : ℕ) : Type 0 where
  pub first : List Item
  pub others : List Item
  pub now : State
  pub items_are : items ≡ first ++ others
  pub left : Carries s part (cut_to n p) first now

-- All bytes are handed over: the framer gives all items and no more, and has in hand what is no whole item.
pub record GivesAll (s : State) (part : List ℕ) (p : Pipe) (items : List Item) (t : State) : Type 0 where
  pub kept : List ℕ
  pub run_is : (said : List Item) → run (turn (held s part) said) p.bytes ≡ turn (held t kept) (said ++ items)
  pub rest : IsRest p.ended t kept
