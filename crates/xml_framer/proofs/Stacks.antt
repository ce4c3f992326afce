-- The stacks of a framer, outermost first, as the lists of the definitions, innermost first.
use Rattle.std.proofs.Common.{◌≡◌, ◌-◌, List, [], ◌∷◌, ◌++◌, Vec, map, reverse, length, take, refl, sym, ap, ◌∙◌, append_assoc}
use Rattle.std.proofs.lemmas.List.{append-nil, map-append, reverse-append}
use Rattle.std.specs.declared.alloc.Global.{Global}
use Rattle.xml_names.proofs.BoundNames.{front_of_more}
use Rattle.xml_names.specs.Scopes.{Scope, scope_of}
use Rattle.xml_names.specs.declared.scopes.Binding.{Binding}
use Rattle.xml_framer.specs.FramerView.{own_of, scopes_of}
use Rattle.xml_framer.specs.TagSteps.{outer_scopes, scope_in}

pub scopes_push : (vs : List (Vec Binding Global)) (v : Vec Binding Global) → scopes_of (vs ++ v ∷ []) ≡ v.items ∷ scopes_of vs
scopes_push vs v = ap (map own_of) (reverse-append vs (v ∷ []))

parted : (v : Vec Binding Global) (vs : List (Vec Binding Global)) → (front : List (Vec Binding Global)) × (last : Vec Binding Global) × (v ∷ vs ≡ front ++ last ∷ [])
parted v [] = ([], v, refl)
parted v (w ∷ ws) = let p = parted w ws in (v ∷ p.0, p.1, ap (λ l. v ∷ l) p.2)

less_of : (all front : List (Vec Binding Global)) (last : Vec Binding Global) → all ≡ front ++ last ∷ [] → scopes_of (take (length all - 1) all) ≡ outer_scopes (scopes_of all)
less_of all front last e =
    ap (λ l. scopes_of (take (length l - 1) l)) e ∙ ap scopes_of (front_of_more front last) ∙ sym (ap outer_scopes (ap scopes_of e ∙ scopes_push front last))

-- without the innermost
pub scopes_less : (vs : List (Vec Binding Global)) → scopes_of (take (length vs - 1) vs) ≡ outer_scopes (scopes_of vs)
scopes_less [] = refl
scopes_less (v ∷ vs) = let p = parted v vs in less_of (v ∷ vs) p.0 p.1 p.2

scope_append : (xs ys : List Scope) → scope_in (xs ++ ys) ≡ scope_in xs ++ scope_in ys
scope_append [] ys = refl
scope_append (x ∷ xs) ys = ap (λ s. x ++ s) (scope_append xs ys) ∙ sym (append_assoc x (scope_in xs) (scope_in ys))

-- the scope of a stack
pub scope_is : (vs : List (Vec Binding Global)) → scope_of vs ≡ scope_in (scopes_of vs)
scope_is [] = refl
scope_is (v ∷ vs) =
    let apart : scopes_of (v ∷ vs) ≡ scopes_of vs ++ v.items ∷ [] = ap (map own_of) (reverse-append (v ∷ []) vs) ∙ map-append own_of (reverse vs) (v ∷ []) in
    rw apart (ap (λ s. s ++ v.items) (scope_is vs) ∙ (ap (λ o. scope_in (scopes_of vs) ++ o) (sym (append-nil v.items)) ∙ sym (scope_append (scopes_of vs) (v.items ∷ []))))
