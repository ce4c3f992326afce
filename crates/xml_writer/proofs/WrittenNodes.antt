-- Elements and nodes as they are written, level by level.
use Rattle.std.proofs.Common.{◌≡◌, ◌≢◌, true≢false, ℕ, ◌+◌, ◌≤◌, false, List, [], ◌∷◌, ◌++◌, length, min, Vec, vec_len, refl, sym, ap, ◌∙◌, arith, append_assoc, length-append}
use Rattle.std.specs.Prelude.{◌==◌}
use Rattle.std.specs.declared.alloc.Global.{Global}
use Rattle.xml_writer.specs.Canon.{after_attributes, default_inside, has_nothing, written_inside, written_nodes, written_end_tag}
use Rattle.xml_trees.specs.Trees.{Elem, Nodes, joined}
use Rattle.xml_trees.specs.Views.{nodes_view, node_step, elem_step}
use Rattle.xml_trees.specs.declared.elements.Node.{Node, fold_out-Node}
use Rattle.xml_trees.specs.declared.elements.Node.TheOpen.{Node-F}

something_there : (n : Node-F Nodes Elem) (more : Nodes) → has_nothing (joined (node_step n) more) ≡ false
something_there (Node-F.Child e) more = refl
something_there (Node-F.Text t) more = refl

something_first : (k : Node) (ks : List Node) → has_nothing (nodes_view (k ∷ ks)) ≡ false
something_first k ks = ap (λ n. has_nothing (joined n (nodes_view ks))) (fold_out-Node Nodes Elem node_step elem_step k) ∙ something_there _ (nodes_view ks)

has_nothing_is : (ks : List Node) → ks ≢ [] → has_nothing (nodes_view ks) ≡ false
has_nothing_is [] some = absurd (some refl)
has_nothing_is (k ∷ ks) some = something_first k ks

pub some_nodes : (v : Vec Node Global) → false ≡ (vec_len v == 0) → has_nothing (nodes_view v.items) ≡ false
some_nodes v h = has_nothing_is v.items (λ e. let n = ap length e in let zero_is : vec_len v ≡ 0 = omega (arith, v.ok.0, n) in true≢false (sym (h ∙ ap (λ m. m == 0) zero_is)))

pub inside_is : (d at ns name : List ℕ) (kids : Nodes) → has_nothing kids ≡ false → at ≡ default_inside d ns → written_inside d ns name kids ≡ (62 ∷ []) ++ (written_nodes at kids ++ written_end_tag ns name)
inside_is d at ns name kids some is =
    ap (λ b. after_attributes b ns name (written_nodes (default_inside d ns) kids)) some ∙ ap (λ d. (62 ∷ []) ++ (written_nodes d kids ++ written_end_tag ns name)) (sym is)

-- ---- three parts

pub three_items : (o0 o1 o2 o3 a b c whole : List ℕ) → whole ≡ a ++ (b ++ c) → o1 ≡ o0 ++ a → o2 ≡ o1 ++ b → o3 ≡ o2 ++ c → o3 ≡ o0 ++ whole
three_items o0 o1 o2 o3 a b c whole is p1 p2 p3 = rw (is, p3, p2, p1) (simp append_assoc)

pub three_spare : (s0 s1 s2 s3 : ℕ) (a b c whole : List ℕ) → whole ≡ a ++ (b ++ c) → s0 ≤ s1 + length a → s1 ≤ s2 + length b → s2 ≤ s3 + length c → s0 ≤ s3 + length whole
three_spare s0 s1 s2 s3 a b c whole is p1 p2 p3 = let n = ap length is in omega (arith, n, p1, p2, p3, length-append a (b ++ c), length-append b c)

pub third_room : (s0 s1 s2 : ℕ) (a b c whole : List ℕ) → whole ≡ a ++ (b ++ c) → length whole ≤ s0 → s0 ≤ s1 + length a → s1 ≤ s2 + length b → length c ≤ s2
third_room s0 s1 s2 a b c whole is h p1 p2 = let n = ap length is in omega (arith, n, h, p1, p2, length-append a (b ++ c), length-append b c)

pub inside_length : (x y z r most : ℕ) (b c whole : List ℕ) → whole ≡ (62 ∷ []) ++ (b ++ c) → x ≡ min (length b) most → y ≡ min (length c) most → z ≡ min (x + y) most → r ≡ min (z + 1) most → r ≡ min (length whole) most
inside_length x y z r most b c whole is is_x is_y is_z is_r =
    let n : length whole ≡ length b + length c + 1 = let m = ap length is in omega (arith, m, length-append b c) in
    rw (is_r, is_z, is_x, is_y, n) (arithmetic (length b) (length c))
  where
    arithmetic : (m n : ℕ) → min (min (min m most + min n most) most + 1) most ≡ min (m + n + 1) most
    arithmetic m n = omega arith
