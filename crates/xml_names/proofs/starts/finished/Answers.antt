use Rattle.std.proofs.Common.{ℕ, List, ◌++◌, Some, Vec, map, sym, ap, ◌∙◌}
use Rattle.std.specs.Option.{option_map}
use Rattle.std.specs.declared.alloc.Global.{Global}
use Rattle.xml_names.proofs.Parted.{finished_tag, finished_none}
use Rattle.xml_names.specs.Expansion.{element_ns, expanded_attributes}
use Rattle.xml_names.specs.Names.{prefix_of, with_prefix}
use Rattle.xml_names.specs.Scopes.{scope_of}
use Rattle.xml_names.specs.Starts.{is_well_formed}
use Rattle.xml_names.specs.declared.expansion.ExpandedAttribute.{ExpandedAttribute}
use Rattle.xml_tokens.specs.RawTags.{attribute_of}
use Rattle.xml_names.proofs.starts.finished.Goals as goal

pub returns-in-Some-2 : goal.returns-in-Some-2
returns-in-Some-2 c =
    let scope = scope_of c.args.stack.now in
    let own = c.args.parted.bindings.items in
    let given = option_map (λ p. p.now) c.args.prefix in
    let name = with_prefix given c.args.local.now in
    let others = map attribute_of c.args.parted.others.items in
    ap (λ (s : List ℕ). Some (record {
      spelled = s;
      ns = c.in-Some.ns;
      name = c.in_ok-name.name;
      attributes = c.in-Some-2.attributes.items;
      bindings = own;
      empty = c.args.empty;
    })) (ap (λ p. with_prefix p c.in_ok-name.name) c.in_ok-prefix.ensures ∙ ap (with_prefix given) c.in_ok-name.ensures)
    ∙ finished_tag scope name own others c.args.empty (ap (λ p. is_well_formed scope p own others) (sym c.requires.prefix) ∙ c.requires.formed) c.in-Some.ns c.in_ok-name.name c.in-Some-2.attributes.items
    (ap (λ s. element_ns (s ++ scope) (prefix_of name)) (sym c.as_slice.ensures.value)
    ∙ ap (element_ns (c.as_slice.result.now ++ scope)) (sym (c.prefix_or_nothing.ensures ∙ c.requires.prefix))
    ∙ sym c.in_ok-found.ensures ∙ c.in-Some.is)
    (c.in_ok-name.ensures ∙ c.requires.local)
    (ap (λ s. expanded_attributes (s ++ scope) others) (sym c.as_slice-2.ensures.value)
    ∙ sym c.in_ok-attributes.ensures ∙ ap (option_map (λ (v : Vec ExpandedAttribute Global). v.items)) c.in-Some-2.is)

pub returns-in-None : goal.returns-in-None
returns-in-None c =
    let scope = scope_of c.args.stack.now in
    let own = c.args.parted.bindings.items in
    let others = map attribute_of c.args.parted.others.items in
    finished_none scope (with_prefix (option_map (λ p. p.now) c.args.prefix) c.args.local.now) own others c.args.empty
    (ap (λ p. is_well_formed scope p own others) (sym c.requires.prefix) ∙ c.requires.formed)
    (ap (λ s. expanded_attributes (s ++ scope) others) (sym c.as_slice-2.ensures.value)
    ∙ sym c.in_ok-attributes.ensures ∙ ap (option_map (λ (v : Vec ExpandedAttribute Global). v.items)) c.in-None.is)
