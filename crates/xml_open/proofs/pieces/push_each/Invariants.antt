use Rattle.std.proofs.Common.{◌≡◌, ◌+◌}
use Rattle.std.specs.Vec.Iter.{into_iter_items}
use Rattle.std.specs.VecDeque.{deque_capacity, deque_len}
use Rattle.xml_open.specs.Pieces.{attrs_pieces, reading, with_attrs}
use Rattle.xml_open.proofs.pieces.push_each.Given as goal

-- those so far and what is left are all
abbrev pub invariant-loop-attr : goal.invariant-loop-attr
invariant-loop-attr l = record {
  said : with_attrs (reading l.items.items) (into_iter_items l.attr-iterator) ≡ with_attrs (reading l.fn.items.items) l.fn.attrs.items;
  len : deque_len l.items + attrs_pieces (into_iter_items l.attr-iterator) ≡ deque_len l.fn.items + attrs_pieces l.fn.attrs.items;
  capacity : deque_capacity l.items ≡ deque_capacity l.fn.items;
}
