-- A code for trees, by which proofs tell them apart.
use Rattle.std.specs.Prelude.{◌≡◌, ℕ, List}
use Rattle.std.specs.Coded.{Coded, code_by, coded×, coded_list, coded_ℕ}
use Rattle.std.proofs.Common.{refl, sym, ap, subst}
use base.Stored.{Gv, gnil, gnum, gcons}
use Rattle.xml_trees.specs.Attributes.{Attribute}
use Rattle.xml_trees.specs.Trees.{Elem, element, Nodes, no_nodes, child, text}

abbrev pub coded_bytes : Coded (List ℕ)
coded_bytes = coded_list coded_ℕ

abbrev pub coded_attribute : Coded Attribute
coded_attribute =
    code_by (List ℕ × (List ℕ × List ℕ)) (coded× coded_bytes (coded× coded_bytes coded_bytes)) (λ a. (a.ns, (a.name, a.value))) (λ p. record { ns = p.0; name = p.1.0; value = p.1.1 }) (λ _. refl)

abbrev pub coded_attributes : Coded (List Attribute)
coded_attributes = coded_list coded_attribute

-- the parts of a pair of codes
abbrev pub front : Gv → Gv
front gnil = gnil
front (gnum n) = gnil
front (gcons a b) = a

abbrev pub back : Gv → Gv
back gnil = gnil
back (gnum n) = gnil
back (gcons a b) = b

-- a code of no nodes, and one of nodes that begin with a text
abbrev pub IsNone : Gv → Type 0
IsNone gnil = Unit {0}
IsNone (gnum n) = ⊥
IsNone (gcons a b) = ⊥

abbrev pub IsText : Gv → Type 0
IsText gnil = ⊥
IsText (gnum n) = ⊥
IsText (gcons a b) = IsNone a

abbrev mutual
  pub elem_code : Elem → Gv
  elem_code (element ns name attrs kids) = gcons (coded_bytes.code ns) (gcons (coded_bytes.code name) (gcons (coded_attributes.code attrs) (nodes_code kids)))

  pub nodes_code : Nodes → Gv
  nodes_code no_nodes = gnil
  nodes_code (child e rest) = gcons (gnum 0) (gcons (elem_code e) (nodes_code rest))
  nodes_code (text t rest) = gcons gnil (gcons (coded_bytes.code t) (nodes_code rest))

mutual
  pub elem_code_inj : (x y : Elem) → elem_code x ≡ elem_code y → x ≡ y
  elem_code_inj (element ns name attrs kids) (element ms nom bttrs kidz) p = λ i.
      element (coded_bytes.inj ns ms (ap front p) i) (coded_bytes.inj name nom (ap (λ g. front (back g)) p) i)
      (coded_attributes.inj attrs bttrs (ap (λ g. front (back (back g))) p) i) (nodes_code_inj kids kidz (ap (λ g. back (back (back g))) p) i)

  pub nodes_code_inj : (x y : Nodes) → nodes_code x ≡ nodes_code y → x ≡ y
  nodes_code_inj no_nodes no_nodes p = refl
  nodes_code_inj no_nodes (child f more) p = absurd (subst IsNone p tt)
  nodes_code_inj no_nodes (text u more) p = absurd (subst IsNone p tt)
  nodes_code_inj (child e rest) no_nodes p = absurd (subst IsNone (sym p) tt)
  nodes_code_inj (child e rest) (child f more) p = λ i. child (elem_code_inj e f (ap (λ g. front (back g)) p) i) (nodes_code_inj rest more (ap (λ g. back (back g)) p) i)
  nodes_code_inj (child e rest) (text u more) p = absurd (subst IsText (sym p) tt)
  nodes_code_inj (text t rest) no_nodes p = absurd (subst IsNone (sym p) tt)
  nodes_code_inj (text t rest) (child f more) p = absurd (subst IsText p tt)
  nodes_code_inj (text t rest) (text u more) p = λ i. text (coded_bytes.inj t u (ap (λ g. front (back g)) p) i) (nodes_code_inj rest more (ap (λ g. back (back g)) p) i)

abbrev pub elem_coded : Coded Elem
elem_coded = record { code = elem_code; inj = elem_code_inj }
