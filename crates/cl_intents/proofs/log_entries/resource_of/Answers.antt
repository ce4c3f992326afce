use Rattle.std.proofs.Common.{Some, None, sym, arith}
use Rattle.std.proofs.lemmas.Str.Pattern.{split_parts}
use Rattle.cl_intents.proofs.Ids.{no_resource, resource_after}
use Rattle.cl_intents.proofs.log_entries.resource_of.Goals as goal

pub returns-in-Some : goal.returns-in-Some
returns-in-Some c =
    let parts = split_parts 47 c.args.full.now (Some (c.in-Some._bare, c.in-Some.resource)) c.in-Some.ensures.cases (omega arith) in
    rw parts.0 (sym (resource_after c.in-Some._bare.now c.in-Some.resource.now parts.1))

pub returns-in-None : goal.returns-in-None
returns-in-None c = sym (no_resource c.args.full.now (split_parts 47 c.args.full.now None c.in-None.ensures.cases (omega arith)))
