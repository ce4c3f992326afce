-- Codes of what is read and of what is open, by which proofs tell them apart.
use Rattle.std.specs.Prelude.{ℕ, List, Option}
use Rattle.std.specs.Coded.{Coded, code_by, coded×, coded_list, coded_option, coded_ℕ}
use Rattle.std.proofs.Common.{refl}
use Rattle.xml_trees.specs.Attributes.{Attribute}
use Rattle.xml_trees.specs.Codes.{coded_attributes, coded_bytes, elem_coded}
use Rattle.xml_trees.specs.Trees.{Elem}
use Rattle.xml_open.specs.Open.{OpenElement, Opens}
use Rattle.xml_open.specs.Pieces.{PiecesView, Reading}

abbrev pub coded_open : Coded OpenElement
coded_open = code_by (List ℕ × Elem) (coded× coded_bytes elem_coded) (λ o. (o.spelled, o.element)) (λ p. record { spelled = p.0; element = p.1 }) (λ _. refl)

abbrev pub opens_coded : Coded Opens
opens_coded = code_by (Option OpenElement × List OpenElement) (coded× (coded_option coded_open) (coded_list coded_open)) (λ o. (o.here, o.below)) (λ p. record { here = p.0; below = p.1 }) (λ _. refl)

-- a tag's parts, and what is open
abbrev Parts : Type 0
Parts = List ℕ × (List ℕ × (List ℕ × List Attribute))

abbrev Inside : Type 0
Inside = Option Elem × List Elem

abbrev parts_coded : Coded Parts
parts_coded = coded× coded_bytes (coded× coded_bytes (coded× coded_bytes coded_attributes))

abbrev inside_coded : Coded Inside
inside_coded = coded× (coded_option elem_coded) (coded_list elem_coded)

abbrev pub reading_coded : Coded Reading
reading_coded =
    code_by (Parts × Inside) (coded× parts_coded inside_coded)
    (λ r. ((r.ns, (r.attr_ns, (r.attr_name, r.attrs))), (r.here, r.below)))
    (λ p. record { ns = p.0.0; attr_ns = p.0.1.0; attr_name = p.0.1.1.0; attrs = p.0.1.1.1; here = p.1.0; below = p.1.1 })
    (λ _. refl)

abbrev pub pieces_coded : Coded PiecesView
pieces_coded = code_by (Reading × ℕ) (coded× reading_coded coded_ℕ) (λ v. (v.reading, v.spare)) (λ p. record { reading = p.0; spare = p.1 }) (λ _. refl)
