-- Whether two expanded names are the same: by the test, by equality and by their order.
use Rattle.std.proofs.Common.{◌≡◌, ℕ, List, Ordering, nat_cmp, is_eq, bytes_eq, ◌&&◌, sym, ap, ◌∙◌}
use Rattle.std.proofs.lemmas.Bool.{and_parts, and_from}
use Rattle.std.proofs.lemmas.Map.Text.{is_eq-slice_cmp}
use Rattle.std.proofs.lemmas.Slice.Eq.{bytes_eq-Decides}
use Rattle.std.specs.Bool.{Decides}
use Rattle.std.specs.Cmp.Lexicographic.{slice_cmp}
use Rattle.std.specs.Cmp.{tied_then}
use Rattle.std.specs.Ordering.{ordering_then}
use Rattle.xml_names.specs.Expansion.{Name, is_same, borrowed_name}
use Rattle.xml_names.specs.declared.expansion.ExpandedName.{ExpandedName}

-- the order in which names are compared
abbrev pub name_cmp : ExpandedName → ExpandedName → Ordering
name_cmp a b = ordering_then (slice_cmp nat_cmp a.local.now b.local.now) (slice_cmp nat_cmp a.ns.now b.ns.now)

abbrev made : List ℕ → List ℕ → Name
made s n = record { ns = s; name = n }

pub is_same-Decides : (a b : Name) → Decides (is_same a b) (a ≡ b)
is_same-Decides a b = (
  λ h. let p = and_parts (bytes_eq a.name b.name) (bytes_eq a.ns b.ns) h in
      ap (λ s. made s a.name) ((bytes_eq-Decides a.ns b.ns).0 p.1) ∙ ap (made b.ns) ((bytes_eq-Decides a.name b.name).0 p.0),
  λ e. and_from (bytes_eq a.name b.name) (bytes_eq a.ns b.ns)
      ((bytes_eq-Decides a.name b.name).1 (ap (λ (n : Name). n.name) e)) ((bytes_eq-Decides a.ns b.ns).1 (ap (λ (n : Name). n.ns) e)),
)

pub is_eq-name_cmp : (x y : ExpandedName) → is_eq (name_cmp x y) ≡ is_same (borrowed_name x) (borrowed_name y)
is_eq-name_cmp x y =
    sym (tied_then (slice_cmp nat_cmp x.local.now y.local.now) (slice_cmp nat_cmp x.ns.now y.ns.now))
    ∙ ap (λ b. b && is_eq (slice_cmp nat_cmp x.ns.now y.ns.now)) (is_eq-slice_cmp x.local.now y.local.now)
    ∙ ap (λ b. bytes_eq x.local.now y.local.now && b) (is_eq-slice_cmp x.ns.now y.ns.now)
