-- Open elements and their names: as many, and what becomes of them.
use Rattle.std.proofs.Common.{◌≡◌, ℕ, zero, suc, ◌+◌, ◌<◌, ◌==◌, List, [], ◌∷◌, ◌++◌, true, false, true≢false, Option, Some, None, length, length-append, refl, sym, ap, ◌∙◌, arith, if◌then◌else◌}
use Rattle.std.proofs.lemmas.List.{length-reverse}
use Rattle.std.specs.Option.{IsSome, is_some, option_to_list}
use Rattle.xml_open.proofs.Stacks.{names_push}
use Rattle.xml_open.specs.Named.{AreNamed, all_named, named, names_of, opens_of}
use Rattle.xml_open.specs.Open.{OpenElement, Opens, begun, closed, closed_in, joined, left_open, more_in, none_open, open_count, outermost, outermost_in}
use Rattle.xml_open.specs.Nested.{covered, first_of, rest_of}
use Rattle.xml_open.specs.Pieces.{Reading, ended, ended_in, put_in}
use Rattle.xml_trees.specs.Trees.{Elem, Nodes, child, no_nodes}

-- ---- as many

all_count : (ns : List (List ℕ)) (es : List Elem) → length ns ≡ length es → length (all_named ns es) ≡ length ns
all_count [] es same = refl
all_count (n ∷ ns) [] same = absurd (omega (arith, same))
all_count (n ∷ ns) (e ∷ es) same = ap suc (all_count ns es (omega (arith, same)))

many_names : (below : List (List ℕ)) → length (names_of below) ≡ length below
many_names below = length-reverse below

count_in : (n : List ℕ) (e : Option Elem) (ns : List (List ℕ)) (es : List Elem) → true ≡ is_some e → length ns ≡ length es → length ns + 1 ≡ (if is_some (named (Some n) e) then length (all_named ns es) + 1 else 0)
count_in n None ns es is same = absurd (true≢false is)
count_in n (Some e) ns es is same = ap (λ k. k + 1) (sym (all_count ns es same))

pub count_is : (n : List ℕ) (below : List (List ℕ)) (r : Reading) → AreNamed (Some n) below r → length below + 1 ≡ open_count (opens_of (Some n) below r)
count_is n below r are = ap (λ k. k + 1) (sym (many_names below)) ∙ count_in n r.here (names_of below) r.below are.innermost (many_names below ∙ are.others)

-- ---- an element begins

-- the names below one that begins
abbrev pub names_below : Option (List ℕ) → List (List ℕ) → List (List ℕ)
names_below None below = below
names_below (Some outer) below = below ++ outer ∷ []

covered_named : (here : Option (List ℕ)) (below : List (List ℕ)) (e : Option Elem) (es : List Elem) → is_some here ≡ is_some e
    → all_named (names_of (names_below here below)) (covered e es) ≡ covered (named (here) e) (all_named (names_of below) es)
covered_named None below None es same = refl
covered_named None below (Some e) es same = absurd (true≢false (sym same))
covered_named (Some n) below None es same = absurd (true≢false same)
covered_named (Some n) below (Some e) es same = ap (λ l. all_named l (e ∷ es)) (names_push below n)

covered_count : (here : Option (List ℕ)) (below : List (List ℕ)) (e : Option Elem) (es : List Elem) → is_some here ≡ is_some e → length below ≡ length es → length (names_below here below) ≡ length (covered e es)
covered_count None below None es same many = many
covered_count None below (Some e) es same many = absurd (true≢false (sym same))
covered_count (Some n) below None es same many = absurd (true≢false same)
covered_count (Some n) below (Some e) es same many = length-append below (n ∷ []) ∙ (omega (arith, many))

module _ (here : Option (List ℕ)) (below : List (List ℕ)) (r s : Reading) (n : List ℕ) (e : Elem) (are : AreNamed here below r) (at : s.here ≡ Some e) (under : s.below ≡ covered r.here r.below) where
  pub begun_named : s.attrs ≡ [] → AreNamed (Some n) (names_below here below) s
  begun_named none = record {
    none_waits = none;
    innermost = sym (ap is_some at);
    others = covered_count here below r.here r.below are.innermost are.others ∙ sym (ap length under);
  }

  pub begun_is : opens_of (Some n) (names_below here below) s ≡ begun (opens_of here below r) (record { spelled = n; element = e })
  begun_is =
      ap (λ (x : Option Elem). record { here = named (Some n) x; below = all_named (names_of (names_below here below)) s.below }) at
      ∙ ap (λ (l : List OpenElement). record { here = Some (record { spelled = n; element = e }); below = l }) (ap (all_named (names_of (names_below here below))) under ∙ covered_named here below r.here r.below are.innermost)

-- ---- nodes join the innermost element

put_named : (n : Option (List ℕ)) (e : Option Elem) (more : Nodes) → named n (put_in e more) ≡ more_in (named n e) more
put_named None None more = refl
put_named None (Some e) more = refl
put_named (Some n) None more = refl
put_named (Some n) (Some e) more = refl

put_some : (e : Option Elem) (more : Nodes) → is_some (put_in e more) ≡ is_some e
put_some None more = refl
put_some (Some e) more = refl

module _ (here : Option (List ℕ)) (below : List (List ℕ)) (r s : Reading) (more : Nodes) (are : AreNamed here below r) (at : s.here ≡ put_in r.here more) (under : s.below ≡ r.below) where
  pub joined_named : s.attrs ≡ [] → AreNamed here below s
  joined_named none = record {
    none_waits = none;
    innermost = are.innermost ∙ sym (ap is_some at ∙ put_some r.here more);
    others = are.others ∙ sym (ap length under);
  }

  pub joined_is : opens_of here below s ≡ joined (opens_of here below r) more
  joined_is =
      ap (λ (x : Option OpenElement). record { here = x; below = all_named (names_of below) s.below }) (ap (named (here)) at ∙ put_named (here) r.here more)
      ∙ ap (λ (l : List Elem). record { here = more_in (named (here) r.here) more; below = all_named (names_of below) l }) under

-- ---- the same elements are open

module _ (here : Option (List ℕ)) (below : List (List ℕ)) (r s : Reading) (are : AreNamed here below r) (at : s.here ≡ r.here) (under : s.below ≡ r.below) where
  pub same_named : s.attrs ≡ [] → AreNamed here below s
  same_named none = record { none_waits = none; innermost = are.innermost ∙ sym (ap is_some at); others = are.others ∙ sym (ap length under) }

  pub same_is : opens_of here below s ≡ opens_of here below r
  same_is =
      ap (λ (x : Option Elem). record { here = named (here) x; below = all_named (names_of below) s.below }) at
      ∙ ap (λ (l : List Elem). record { here = named (here) r.here; below = all_named (names_of below) l }) under

-- ---- the innermost element is whole

closed_to : (n p : List ℕ) (ns : List (List ℕ)) (e : Option Elem) (es : List Elem) → true ≡ is_some e → length (p ∷ ns) ≡ length es → (e2 : Option Elem) (es2 : List Elem)
    → ((x : Elem) → e ≡ Some x → (e2 ≡ put_in (first_of es) (child x no_nodes)) × (es2 ≡ rest_of es))
    → (closed_in (named (Some n) e) (all_named (p ∷ ns) es) ≡ record { here = named (Some p) e2; below = all_named ns es2 }) × (is_some e2 ≡ true) × (length es2 ≡ length ns) × (outermost_in (named (Some n) e) (all_named (p ∷ ns) es) ≡ None)
closed_to n p ns None es is same e2 es2 ends = absurd (true≢false is)
closed_to n p ns (Some e) [] is same e2 es2 ends = absurd (omega (arith, same))
closed_to n p ns (Some e) (f ∷ es) is same e2 es2 ends =
    let is2 = ends e refl in (
      sym (ap (λ (x : Option Elem). record { here = named (Some p) x; below = all_named ns es2 }) is2.0 ∙ ap (λ (l : List Elem). record { here = named (Some p) (put_in (Some f) (child e no_nodes)); below = all_named ns l }) is2.1),
      ap is_some is2.0,
      ap length is2.1 ∙ omega (arith, same),
      refl,
    )

ended_parts : (r s : Reading) → s ≡ ended r → (x : Elem) → r.here ≡ Some x → (s.here ≡ put_in (first_of r.below) (child x no_nodes)) × (s.below ≡ rest_of r.below)
ended_parts r s is x at =
    let both : s ≡ record r { here = put_in (first_of r.below) (child x no_nodes); below = rest_of r.below } = is ∙ ap (λ (e : Option Elem). ended_in e r) at in
    (ap (λ (t : Reading). t.here) both, ap (λ (t : Reading). t.below) both)

ended_waits : (e : Option Elem) (r : Reading) → (ended_in e r).attrs ≡ r.attrs
ended_waits None r = refl
ended_waits (Some e) r = refl

module _ (n p : List ℕ) (below front : List (List ℕ)) (r s : Reading) (are : AreNamed (Some n) below r) (split : below ≡ front ++ p ∷ []) (is : s ≡ ended r) where
  names_are : names_of below ≡ p ∷ names_of front
  names_are = ap names_of split ∙ names_push front p

  steps : (closed_in (named (Some n) r.here) (all_named (p ∷ names_of front) r.below) ≡ record { here = named (Some p) s.here; below = all_named (names_of front) s.below }) × (is_some s.here ≡ true) × (length s.below ≡ length (names_of front))
      × (outermost_in (named (Some n) r.here) (all_named (p ∷ names_of front) r.below) ≡ None)
  steps = closed_to n p (names_of front) r.here r.below are.innermost (sym (ap length names_are) ∙ many_names below ∙ are.others) s.here s.below (ended_parts r s is)

  pub closed_named : AreNamed (Some p) front s
  closed_named = record {
    none_waits = ap (λ (t : Reading). t.attrs) is ∙ ended_waits r.here r ∙ are.none_waits;
    innermost = sym steps.1;
    others = sym (many_names front) ∙ sym steps.2;
  }

  pub closed_is : opens_of (Some p) front s ≡ closed (opens_of (Some n) below r)
  closed_is = sym steps.0 ∙ sym (ap (λ (l : List (List ℕ)). closed_in (named (Some n) r.here) (all_named l r.below)) names_are)

  pub not_outermost : outermost (opens_of (Some n) below r) ≡ None
  not_outermost = ap (λ (l : List (List ℕ)). outermost_in (named (Some n) r.here) (all_named l r.below)) names_are ∙ steps.3

-- where nothing is around it, it is the outermost
whole_in : (n : List ℕ) (e : Option Elem) (es : List Elem) → true ≡ is_some e → (outermost_in (named (Some n) e) [] ≡ e) × (closed_in (named (Some n) e) [] ≡ none_open)
whole_in n None es is = absurd (true≢false is)
whole_in n (Some e) es is = (refl, refl)

module _ (n : List ℕ) (below : List (List ℕ)) (r : Reading) (are : AreNamed (Some n) below r) (none : below ≡ []) where
  pub outermost_is : outermost (opens_of (Some n) below r) ≡ r.here
  outermost_is = ap (λ (l : List (List ℕ)). outermost_in (named (Some n) r.here) (all_named (names_of l) r.below)) none ∙ (whole_in n r.here r.below are.innermost).0

  pub none_left : closed (opens_of (Some n) below r) ≡ none_open
  none_left = ap (λ (l : List (List ℕ)). closed_in (named (Some n) r.here) (all_named (names_of l) r.below)) none ∙ (whole_in n r.here r.below are.innermost).1

pub positive : (n : ℕ) → false ≡ (n == 0) → 0 < n
positive zero e = absurd (true≢false (sym e))
positive (suc n) e = omega arith

-- the name of the element around it is taken off its stack
pub closed_pop : (here : Option (List ℕ)) (below rest : List (List ℕ)) (got : Option (List ℕ)) (r s : Reading) → AreNamed here below r → is_some here ≡ true → below ≡ rest ++ option_to_list got → IsSome got → s ≡ ended r
    → (None ≡ outermost (opens_of here below r)) × (opens_of got rest s ≡ closed (opens_of here below r))
closed_pop None below rest got r s are is split some ends = absurd (true≢false (sym is))
closed_pop (Some n) below rest None r s are is split some ends = absurd (true≢false (sym some))
closed_pop (Some n) below rest (Some p) r s are is split some ends = (sym (not_outermost n p below rest r s are split ends), closed_is n p below rest r s are split ends)

-- ---- what a refusal of its end leaves

left_in : (n : ℕ) (os : Opens) → (n == 0) ≡ false → length os.below ≡ n → left_open os ≡ os
left_in n os some same = rw (same, some) refl

pub left_around : (here : Option (List ℕ)) (below : List (List ℕ)) (r : Reading) → AreNamed here below r → false ≡ (length below == 0) → left_open (opens_of here below r) ≡ opens_of here below r
left_around here below r are some = left_in (length below) (opens_of here below r) (sym some) (all_count (names_of below) r.below (many_names below ∙ are.others) ∙ many_names below)
