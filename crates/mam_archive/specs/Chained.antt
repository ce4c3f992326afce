-- How the entries with one peer are linked: each has the numbers of the next and of the previous one and its ordinal,
-- and each peer has a chain, which knows the first and the last. What is said of entries here depends on their peers
-- alone, and on the first one's number.
use Rattle.std.specs.Prelude.{◌≡◌, ℕ, suc, ◌+◌, ◌<◌, ◌≤◌, ◌==◌, nat_lt, Bool, List, [], ◌∷◌, ◌++◌, Option, Some, None, length, map, set, slice_get, slice_index_or, if◌then◌else◌}
use Rattle.std.specs.Cmp.Lexicographic.{slice_cmp}
use Rattle.std.specs.List.{AllByRecursion, list_any, remove}
use Rattle.std.specs.Ordering.{nat_cmp}
use Rattle.std.specs.Str.{bytes_eq}
use Rattle.std.specs.declared.cmp.Ordering.TheVariants.{Less}
use Rattle.mam_archive.specs.declared.chains.Chain.{Chain}
use Rattle.mam_archive.specs.declared.chains.Ends.{Ends}
use Rattle.mam_archive.specs.declared.chains.Link.{Link}

-- whether a text is one of these
abbrev pub is_text_of : List ℕ → List (List ℕ) → Bool
is_text_of p ps = list_any (λ q. bytes_eq q p) ps

-- the first of the numbers n, n + 1 and so on that stands beside a peer; 0 where none does
abbrev pub least_with_peer : List ℕ → ℕ → List (List ℕ) → ℕ
least_with_peer p n [] = 0
least_with_peer p n (q ∷ qs) = if bytes_eq q p then n else least_with_peer p (suc n) qs

-- the last of them
abbrev pub greatest_with_peer : List ℕ → ℕ → List (List ℕ) → ℕ
greatest_with_peer p n [] = 0
greatest_with_peer p n (q ∷ qs) = if is_text_of p qs then greatest_with_peer p (suc n) qs else (if bytes_eq q p then n else 0)

-- beside each peer, the next number beside the same one; 0 where there is none
abbrev pub next_numbers : ℕ → List (List ℕ) → List ℕ
next_numbers n [] = []
next_numbers n (q ∷ qs) = least_with_peer q (suc n) qs ∷ next_numbers (suc n) qs

-- how many of these are a text
abbrev pub count_of : List ℕ → List (List ℕ) → ℕ
count_of p [] = 0
count_of p (q ∷ qs) = if bytes_eq q p then suc (count_of p qs) else count_of p qs

-- what an entry gets beside its peer: the number of the entry before it with the same peer, or 0 where there is none,
-- and how many came before it in its chain. The one before it may have been dropped
pub record Mark : Type 0 where
  pub previous : ℕ
  pub ordinal : ℕ

-- what the next entry with a peer gets once the entry with the number n and the peer p came
abbrev pub marked : ℕ → List ℕ → (List ℕ → Mark) → List ℕ → Mark
marked n p before q = if bytes_eq p q then record { previous = n; ordinal = (before q).ordinal + 1 } else before q

-- what entries get from the number n on, where the next one with a peer is to get what `before` says
abbrev pub marks : ℕ → (List ℕ → Mark) → List (List ℕ) → List Mark
marks n before [] = []
marks n before (p ∷ ps) = before p ∷ marks (suc n) (marked n p before) ps

-- the entries that came before the number n have numbers below it, and are fewer
pub record AreBefore (n : ℕ) (before : List ℕ → Mark) : Type 0 where
  pub previous : (p : List ℕ) → (before p).previous < n
  pub ordinal : (p : List ℕ) → (before p).ordinal < n

abbrev pub mark_of : Link → Mark
mark_of l = record { previous = l.previous; ordinal = l.ordinal }

-- the chain of a peer
abbrev pub chain_at : ℕ → List (List ℕ) → List ℕ → Ends
chain_at n ps p = record { first = least_with_peer p n ps; last = greatest_with_peer p n ps }

abbrev pub IsBelow : List ℕ → List ℕ → Type 0
IsBelow p q = slice_cmp nat_cmp p q ≡ Less

-- texts in order, each once
abbrev pub Ascend : List (List ℕ) → Type 0
Ascend [] = Unit {0}
Ascend (p ∷ ps) = AllByRecursion (IsBelow p) ps × Ascend ps

-- one chain for each peer, in the order of these keys
pub record AreChains (keys : List (List ℕ)) (n : ℕ) (ps : List (List ℕ)) (chains : List Ends) : Type 0 where
  pub are : chains ≡ map (chain_at n ps) keys
  pub ascend : Ascend keys
  pub every : (p : List ℕ) → is_text_of p keys ≡ is_text_of p ps

-- the parts of an archive whose first entry has the number n, and whose entries have these peers
pub record IsChained (n : ℕ) (ps : List (List ℕ)) (links : List Link) (chains : List Ends) : Type 0 where
  pub linked : map (λ (l : Link). l.next) links ≡ next_numbers n ps
  pub before : List ℕ → Mark
  pub early : AreBefore n before
  pub beside : map mark_of links ≡ marks n before ps
  pub keys : List (List ℕ)
  pub chained : AreChains keys n ps chains

-- a number that is 0 where there is none
abbrev pub some_number : ℕ → Option ℕ
some_number n = if n == 0 then None else Some n

-- the same of a number of an entry that may have been dropped, where the first one kept has the number n
abbrev pub kept_number : ℕ → ℕ → Option ℕ
kept_number n m = if nat_lt m n then None else Some m

-- the first and the last number beside a peer, and how many there are
abbrev pub some_chain : List ℕ → ℕ → List (List ℕ) → Option Chain
some_chain p n ps =
    if is_text_of p ps then Some (record { first = least_with_peer p n ps; last = greatest_with_peer p n ps; count = count_of p ps })
    else None

-- the link at a place
abbrev pub link_or : List Link → ℕ → Link
link_or links at = slice_index_or links at (record { next = 0; previous = 0; ordinal = 0 })

-- the links after an entry with this number came to the chain whose last entry has the link at a place
abbrev pub extended : ℕ → ℕ → ℕ → List Link → List Link
extended position last number links =
    set links position (record (link_or links position) { next = number })
    ++ record { next = 0; previous = last; ordinal = (link_or links position).ordinal + 1 } ∷ []

-- the chain at a place
abbrev pub chain_or : List Ends → ℕ → Ends
chain_or chains at = slice_index_or chains at (record { first = 0; last = 0 })

-- the chains after the first entry of the one at a place went: it has this number for its first, and goes where
-- there is none
abbrev pub moved_on : ℕ → ℕ → List Ends → List Ends
moved_on next at chains = if next == 0 then remove chains at else set chains at (record { first = next; last = (chain_or chains at).last })

-- a text that is none of these has its place here
pub record IsGap (keys : List (List ℕ)) (p : List ℕ) (at : ℕ) : Type 0 where
  pub bound : at ≤ length keys
  pub below : (i : ℕ) (q : List ℕ) → i < at → slice_get keys i ≡ Some q → IsBelow q p
  pub above : (i : ℕ) (q : List ℕ) → at ≤ i → slice_get keys i ≡ Some q → IsBelow p q
