use Rattle.std.proofs.Common.{◌≡◌, [], ◌∷◌, ◌++◌, string_bytes, rules}
use Rattle.std.proofs.lemmas.Map.Text.{btree_map_updates_text}
use Rattle.std.proofs.lemmas.Result.{IfOk-at_ok}
use Rattle.base_io.proofs.NamePositions.{positions_with_new}
use Rattle.base_io.proofs.name_index.NameIndex.add.Goals as goal

-- the key has the name's bytes, and stands at the number of the names before
pub invariant_of-self-2 : goal.invariant_of-self-2
invariant_of-self-2 c =
    let key_is_name = IfOk-at_ok (λ s. string_bytes s ≡ c.args.name.now) c.in_ok-key.was c.from_str-2.ensures.ok in
    let sets = btree_map_updates_text (string_bytes c.in_ok-key.key) c.self.inside.positions c.insert.new.self _ c.in_ok-insert.ensures.updates in
    let names_are : c.push_reserved.new.self.items ≡ c.self.inside.names.items ++ c.args.name.now ∷ [] = search rules in
    let kept : c.as_slice-position.result.now ≡ c.self.inside.names.items = search rules in
    rw names_are (positions_with_new c.self.inside.positions c.insert.new.self c.args.name.now c.self.inside.names.items (search rules) c.self.invariant (rw kept at (rw key_is_name at sets)))
