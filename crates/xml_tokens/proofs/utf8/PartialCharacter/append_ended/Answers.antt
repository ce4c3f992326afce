use Rattle.std.proofs.Common.{[], ◌∷◌, ap}
use Rattle.xml_tokens.proofs.Utf8Runs.{ended_in}
use Rattle.xml_tokens.specs.Held.{held_bytes}
use Rattle.xml_tokens.proofs.utf8.PartialCharacter.append_ended.Goals as goal

pub push_bytes-requires : goal.push_bytes-requires
push_bytes-requires c = ended_in (held_bytes c.self.inside.held) c.args.self.now [] c.args.b c.ends.result c.self.invariant c.self.view_is c.ends.ensures c.if-not-ends.false (ap held_bytes c.in-Nothing.is)

pub push_bytes-requires-in-One : goal.push_bytes-requires-in-One
push_bytes-requires-in-One c =
    ended_in (held_bytes c.self.inside.held) c.args.self.now (c.in-One.x ∷ []) c.args.b c.ends.result c.self.invariant c.self.view_is c.ends.ensures c.if-not-ends.false (ap held_bytes c.in-One.is)

pub push_bytes-requires-in-Two : goal.push_bytes-requires-in-Two
push_bytes-requires-in-Two c =
    ended_in (held_bytes c.self.inside.held) c.args.self.now (c.in-Two.x ∷ c.in-Two.y ∷ []) c.args.b c.ends.result c.self.invariant c.self.view_is c.ends.ensures c.if-not-ends.false (ap held_bytes c.in-Two.is)

pub push_bytes-requires-in-Three : goal.push_bytes-requires-in-Three
push_bytes-requires-in-Three c =
    ended_in (held_bytes c.self.inside.held) c.args.self.now (c.in-Three.x ∷ c.in-Three.y ∷ c.in-Three.z ∷ []) c.args.b c.ends.result c.self.invariant c.self.view_is c.ends.ensures c.if-not-ends.false (ap held_bytes c.in-Three.is)
