use Rattle.std.proofs.Common.{Bor, Ordering, List, ℕ, nat_cmp, bytes_eq}
use Rattle.std.proofs.lemmas.Map.Text.{is_eq-slice_cmp}
use Rattle.std.specs.Cmp.Lexicographic.{slice_cmp}
use Rattle.base_lemmas.proofs.DistinctItems.{answer_is_test}
use Rattle.xml_tokens.proofs.distinct.are_distinct.Goals as goal

abbrev order : Bor (List ℕ) → Bor (List ℕ) → Ordering
order a b = slice_cmp nat_cmp a.now b.now

pub returns : goal.returns
returns c =
    rw (← c.in_ok-names.ensures) (answer_is_test (λ (n : Bor (List ℕ)). n.now) order bytes_eq (λ x y. is_eq-slice_cmp x.now y.now) c.in_ok-names.names.items c.are_distinct.result (rw (← c.as_mut_slice.ensures.value) c.are_distinct.ensures.told))
