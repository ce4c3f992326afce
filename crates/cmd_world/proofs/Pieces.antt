-- A piece that the server took, where nothing was put out before.
use Rattle.std.proofs.Common.{◌≡◌, ℕ, List, [], ap, subst, ◌∙◌}
use Rattle.srv_state.specs.State.{Out, ServerState}
use Rattle.srv_core.specs.Events.{Framers, IsAfterBytes, Whole, dropped, fed, framer_at, news, whole}
use Rattle.cmd_world.specs.Moves.{server_after, step_of_piece}
use Rattle.xml_writer.specs.Items.{written_item}

same_whole : (h k : ServerState (List ℕ)) (f g : Framers) → h ≡ k → f ≡ g → whole h f ≡ whole k g
same_whole h k f g server_states framers = ap (λ (x : ServerState (List ℕ)). whole x f) server_states ∙ ap (λ (x : Framers). whole k x) framers

from_none : (k : ℕ) (piece : List ℕ) (now : ℕ) (old new : Whole (List ℕ)) (outs : List (Out (List ℕ))) → IsAfterBytes written_item k piece now old [] new outs
    → new ≡ server_after k piece old (step_of_piece k piece now old)
from_none k piece now old new outs is =
    let done = step_of_piece k piece now old in
    same_whole new.server_state done.server_state new.framers (dropped (news [] done.outs) (fed k piece (framer_at k old.framers) old.framers)) is.server_state
    (is.framers_are ∙ ap (λ (o : List (Out (List ℕ))). dropped (news [] o) (fed k piece (framer_at k old.framers) old.framers)) is.outputs)

pub after_is : (k : ℕ) (piece : List ℕ) (now : ℕ) (old new : Whole (List ℕ)) (before outs : List (Out (List ℕ))) → before ≡ [] → IsAfterBytes written_item k piece now old before new outs
    → new ≡ server_after k piece old (step_of_piece k piece now old)
after_is k piece now old new before outs none is =
    from_none k piece now old new outs (subst (λ (b : List (Out (List ℕ))). IsAfterBytes written_item k piece now old b new outs) none is)

pub outputs_are : (k : ℕ) (piece : List ℕ) (now : ℕ) (old new : Whole (List ℕ)) (before outs : List (Out (List ℕ))) → before ≡ [] → IsAfterBytes written_item k piece now old before new outs
    → outs ≡ (step_of_piece k piece now old).outs
outputs_are k piece now old new before outs none is =
    (subst (λ (b : List (Out (List ℕ))). IsAfterBytes written_item k piece now old b new outs) none is).outputs
