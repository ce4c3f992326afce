use Rattle.std.proofs.Common.{sym, ◌∙◌, arith}
use Rattle.xml_names.proofs.NameLaws.{declares_nothing}
use Rattle.xml_names.proofs.declarations.declared_prefix.Goals as goal

pub returns-then-not-starts_with : goal.returns-then-not-starts_with
returns-then-not-starts_with c = declares_nothing c.args.name.now (sym (c.starts_with.ensures.byte (omega arith) (omega arith) (λ w o h. h)) ∙ c.if-not-starts_with.true)
