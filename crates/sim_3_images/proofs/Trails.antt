-- The worlds of a history.
use Rattle.std.proofs.Common.{◌≡◌, List, [], ◌∷◌, ◌++◌, ap, append_assoc, refl, sym, subst, ◌∙◌}
use Rattle.cmd_schedule.specs.Schedules.{WireView}
use Rattle.cmd_schedule.specs.declared.schedule.WireLine.{WireLine}
use Rattle.cmd_world.specs.Histories.{history_of, world_at_start, world_of, worlds_along, worlds_by}
use Rattle.cmd_world.specs.Lines.{all_stepped, moves_of, stepped}
use Rattle.cmd_world.specs.Moves.{Move, all_moved, moved}
use Rattle.cmd_world.specs.Worlds.{ByteWorld}
use Rattle.sim_3_images.specs.Following.{Follow, IsBefore}

-- these worlds end in this one
abbrev EndIn : ByteWorld → List ByteWorld → Type 0
EndIn w worlds = (front : List ByteWorld) × (worlds ≡ front ++ w ∷ [])

end_by : (moves : List Move) (w : ByteWorld) → EndIn (all_moved moves w) (w ∷ worlds_by moves w)
end_by [] w = ([], refl)
end_by (m ∷ moves) w = (let rest = end_by moves (moved m w) in (w ∷ rest.0, ap (λ (ws : List ByteWorld). w ∷ ws) rest.1))

end_along : (lines : List WireLine) (w : ByteWorld) → EndIn (all_stepped lines w) (w ∷ worlds_along lines w)
end_along [] w = ([], refl)
end_along (line ∷ lines) w =
    let v = stepped line w in
    let by = end_by (moves_of line w) w in
    let rest = end_along lines v in
    let following = worlds_along lines v in (
      by.0 ++ rest.0,
      ap (λ (ws : List ByteWorld). ws ++ following) by.1 ∙ append_assoc by.0 (v ∷ []) following ∙ ap (λ (ws : List ByteWorld). by.0 ++ ws) rest.1
          ∙ sym (append_assoc by.0 rest.0 (all_stepped lines v ∷ [])),
    )

pub ends : (schedule : WireView) → (front : List ByteWorld) × (history_of schedule ≡ front ++ world_of schedule ∷ [])
unfolding world_of
ends schedule = end_along schedule.lines (world_at_start schedule)

-- ---- moves

before_more : (v : ByteWorld) (front : List ByteWorld) (w : ByteWorld) (following : List ByteWorld) → IsBefore v (front ++ w ∷ []) → IsBefore v (front ++ w ∷ following)
before_more v [] w following is = is
before_more v (x ∷ front) w following is = is

follow_on : (front : List ByteWorld) (w : ByteWorld) (following : List ByteWorld) → Follow (front ++ w ∷ []) → Follow (w ∷ following) → Follow (front ++ w ∷ following)
follow_on [] w following first rest = rest
follow_on (x ∷ front) w following first rest = (before_more x front w following first.0, follow_on front w following first.1 rest)

follow_by : (moves : List Move) (w : ByteWorld) → Follow (w ∷ worlds_by moves w)
follow_by [] w = (tt, tt)
follow_by (m ∷ moves) w = ((m, refl), follow_by moves (moved m w))

follow_along : (lines : List WireLine) (w : ByteWorld) → Follow (w ∷ worlds_along lines w)
follow_along [] w = (tt, tt)
follow_along (line ∷ lines) w =
    let v = stepped line w in
    let by = end_by (moves_of line w) w in
    let following = worlds_along lines v in
    let first : Follow (by.0 ++ v ∷ []) = subst Follow by.1 (follow_by (moves_of line w) w) in
    let whole : (w ∷ worlds_by (moves_of line w) w) ++ following ≡ by.0 ++ v ∷ following = ap (λ (ws : List ByteWorld). ws ++ following) by.1 ∙ append_assoc by.0 (v ∷ []) following in
    subst Follow (sym whole) (follow_on by.0 v following first (follow_along lines v))

pub follow : (schedule : WireView) → Follow (history_of schedule)
follow schedule = follow_along schedule.lines (world_at_start schedule)
