-- What moves of acknowledged delivery leave: what was put and handled.
use Rattle.std.proofs.Common.{List, [], ◌∷◌, ◌++◌, refl, sym, ap, ◌∙◌, subst, arith, append-nil, append_assoc}
use Rattle.sm_acks.proofs.Directions.{kept_reached}
use Rattle.sm_acks.specs.Delivery.{Acknowledge, Cut, Direction, Handle, IsPrefix, Move, Moves, Put, Reached, Reaches, Resume, State}
use Rattle.sim_2_links.proofs.DeliveryRuns.{reached_more}
use Rattle.sim_7_schedules.specs.Courses.{GoesOn, IsFurther}
use Rattle.sim_7_schedules.specs.Pairs.{IsPair, Pair}
use Rattle.xml_writer.specs.Items.{ItemOut}

whole_front : (xs : List ItemOut) → IsPrefix xs xs
whole_front xs = ([], sym (append-nil xs))

front_of : (xs ys zs : List ItemOut) → IsPrefix xs ys → IsPrefix ys zs → IsPrefix xs zs
front_of xs ys zs one two = (one.0 ++ two.0, two.1 ∙ ap (λ l. l ++ two.0) one.1 ∙ append_assoc xs one.0 two.0)

one_further : (move : Move ItemOut) (d next : Direction ItemOut) → Reached d → Moves move d next → IsFurther d next
one_further (Put z) d next reached made = subst (IsFurther d) (sym made) (record { put = (z ∷ [], refl); got = whole_front d.got; acked = omega arith })
one_further Handle d next reached made = subst (IsFurther d) (sym made.3) (record { put = whole_front d.put; got = (made.0 ∷ [], refl); acked = omega arith })
one_further State d next reached made = subst (IsFurther d) (sym made) (record { put = whole_front d.put; got = whole_front d.got; acked = omega arith })
one_further (Acknowledge n) d next reached made = subst (IsFurther d) (sym made.2) (record { put = whole_front d.put; got = whole_front d.got; acked = made.1 })
one_further (Cut n) d next reached made = subst (IsFurther d) (sym made) (record { put = whole_front d.put; got = whole_front d.got; acked = omega arith })
one_further Resume d next reached made = subst (IsFurther d) (sym made) (record { put = whole_front d.put; got = whole_front d.got; acked = (kept_reached d reached).acked })

both_further : (d mid last : Direction ItemOut) → IsFurther d mid → IsFurther mid last → IsFurther d last
both_further d mid last one two = record {
  put = front_of d.put mid.put last.put one.put two.put;
  got = front_of d.got mid.got last.got one.got two.got;
  acked = let a = one.acked in let b = two.acked in omega (arith, a, b);
}

along : (moves : List (Move ItemOut)) (d last : Direction ItemOut) → Reached d → Reaches moves d last → IsFurther d last
along [] d last reached is = subst (IsFurther d) (sym is) (record { put = whole_front d.put; got = whole_front d.got; acked = omega arith })
along (move ∷ moves) d last reached (next, made, more) = both_further d next last (one_further move d next reached made) (along moves next last (reached_more move d next reached made) more)

pub further : (p q : Pair) → IsPair p → GoesOn p q → IsFurther p.up q.up × IsFurther p.down q.down
further p q is goes = (along goes.up.moves p.up q.up is.up goes.up.reaches, along goes.down.moves p.down q.down is.down goes.down.reaches)
