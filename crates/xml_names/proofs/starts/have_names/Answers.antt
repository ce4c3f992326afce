use Rattle.std.proofs.Common.{◌++◌, Vec, map, sym, ap, ◌∙◌}
use Rattle.std.specs.Option.{option_map}
use Rattle.std.specs.declared.alloc.Global.{Global}
use Rattle.xml_names.proofs.Parted.{names_tell, no_names_tell}
use Rattle.base_lemmas.proofs.DistinctItems.{answer_is_test}
use Rattle.xml_names.proofs.SameNames.{is_eq-name_cmp, name_cmp}
use Rattle.xml_names.proofs.SpelledNames.{plain_tell}
use Rattle.xml_names.specs.Expansion.{borrowed_name, is_same}
use Rattle.xml_names.specs.Scopes.{scope_of}
use Rattle.xml_names.specs.declared.expansion.ExpandedName.{ExpandedName}
use Rattle.xml_tokens.specs.RawTags.{attribute_of}
use Rattle.xml_names.proofs.starts.have_names.Goals as goal

pub returns-then-not-prefixed : goal.returns-then-not-prefixed
returns-then-not-prefixed c =
    plain_tell (c.args.own.now ++ scope_of c.args.stack.now) c.args.others.now (sym c.requires.prefixed ∙ c.if-not-prefixed.true) c.requires.distinct

pub returns-in-Some : goal.returns-in-Some
returns-in-Some c =
    let found = map borrowed_name c.in-Some.names.items in
    names_tell (c.args.own.now ++ scope_of c.args.stack.now) (map attribute_of c.args.others.now) found c.are_distinct.result
    (sym c.in_ok-names.ensures ∙ ap (option_map (λ (v : Vec ExpandedName Global). map borrowed_name v.items)) c.in-Some.is)
    (answer_is_test borrowed_name name_cmp is_same is_eq-name_cmp c.in-Some.names.items c.are_distinct.result (rw (← c.as_mut_slice.ensures.value) c.are_distinct.ensures.told))

pub returns-in-None : goal.returns-in-None
returns-in-None c =
    no_names_tell (c.args.own.now ++ scope_of c.args.stack.now) (map attribute_of c.args.others.now)
    (sym c.in_ok-names.ensures ∙ ap (option_map (λ (v : Vec ExpandedName Global). map borrowed_name v.items)) c.in-None.is)
