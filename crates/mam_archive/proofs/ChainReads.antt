-- What the ends of a chain and the links there say of the entries with its peer.
use Rattle.std.proofs.Common.{◌≡◌, ℕ, ◌+◌, ◌-◌, ◌<◌, ◌≤◌, true, false, List, Some, None, length, get_or, take, slice_get, refl, ap, ◌∙◌, arith}
use Rattle.mam_archive.proofs.ChainSteps.{chain_read, first_ordinal, key_has, last_ordinal, link_ordinal, links_size}
use Rattle.mam_archive.proofs.Linked.{first_beside, last_beside}
use Rattle.mam_archive.proofs.Marks.{count_last, count_within}
use Rattle.mam_archive.specs.Chained.{AreChains, IsChained, chain_at, count_of, least_with_peer, is_text_of, greatest_with_peer, some_chain}
use Rattle.mam_archive.specs.declared.chains.Ends.{Ends}
use Rattle.mam_archive.specs.declared.chains.Link.{Link}

-- these are the ends of a peer's chain, and have their links
pub record AreEnds (n : ℕ) (ps : List (List ℕ)) (links : List Link) (p : List ℕ) (x : Ends) : Type 0 where
  pub has : is_text_of p ps ≡ true
  pub first : x.first ≡ least_with_peer p n ps
  pub last : x.last ≡ greatest_with_peer p n ps
  pub first_low : n ≤ x.first
  pub first_high : x.first - n < length links
  pub last_low : n ≤ x.last
  pub last_high : x.last - n < length links

pub ends_read : (n : ℕ) (ps : List (List ℕ)) (p : List ℕ) (links : List Link) (chains : List Ends) (at : ℕ) (x : Ends) → IsChained n ps links chains →
    ((keys : List (List ℕ)) → AreChains keys n ps chains → slice_get keys at ≡ Some p) → x ≡ get_or chains at x → AreEnds n ps links p x
ends_read n ps p links chains at x known found read =
    let key : slice_get known.keys at ≡ Some p = found known.keys known.chained in
    let chain : x ≡ chain_at n ps p = read ∙ chain_read known.keys n ps chains at p x known.chained key in
    let has : is_text_of p ps ≡ true = key_has known.keys n ps chains at p known.chained key in
    let first : x.first ≡ least_with_peer p n ps = ap (λ (e : Ends). e.first) chain in
    let last : x.last ≡ greatest_with_peer p n ps = ap (λ (e : Ends). e.last) chain in
    let start = first_beside p n ps has in
    let end = last_beside p n ps has in
    let size = links_size n ps links chains known in
    record {
      has = has;
      first = first;
      last = last;
      first_low = omega (arith, start.low);
      first_high = omega (arith, start.low, start.high);
      last_low = omega (arith, end.low);
      last_high = omega (arith, end.low, end.high);
    }

-- the ordinals at the ends count the entries with the peer
pub ends_count : (n : ℕ) (ps : List (List ℕ)) (p : List ℕ) (links : List Link) (chains : List Ends) (x : Ends) (a b : Link) → IsChained n ps links chains → AreEnds n ps links p x →
    a ≡ get_or links (x.first - n) a → b ≡ get_or links (x.last - n) b → (a.ordinal ≤ b.ordinal) × (b.ordinal - a.ordinal + 1 ≡ count_of p ps) × (count_of p ps ≤ length links)
ends_count n ps p links chains x a b known ends first last =
    let start : a.ordinal ≡ (known.before p).ordinal =
    ap (λ (l : Link). l.ordinal) first ∙ ap (λ m. (get_or links (m - n) a).ordinal) ends.first ∙ first_ordinal n ps links chains known p a ends.has in
    let end : b.ordinal ≡ (get_or links (greatest_with_peer p n ps - n) b).ordinal =
    ap (λ (l : Link). l.ordinal) last ∙ ap (λ m. (get_or links (m - n) b).ordinal) ends.last in
    let whole = last_ordinal n ps links chains known p b ends.has in
    let some = count_last p n ps ends.has in
    let few = count_within p ps in
    let size = links_size n ps links chains known in
    (omega arith, omega arith, omega arith)

pub chain_some : (n : ℕ) (ps : List (List ℕ)) (p : List ℕ) (links : List Link) (x : Ends) (count : ℕ) → AreEnds n ps links p x → count ≡ count_of p ps →
    Some (record { first = x.first; last = x.last; count = count }) ≡ some_chain p n ps
chain_some n ps p links x count ends is = rw (ends.has, ends.first, ends.last, is) refl

pub chain_none : (n : ℕ) (ps : List (List ℕ)) (p : List ℕ) → is_text_of p ps ≡ false → None ≡ some_chain p n ps
chain_none n ps p none = rw none refl

-- the ordinal of an entry counts those with its peer in front of it
pub index_count : (n : ℕ) (ps : List (List ℕ)) (p : List ℕ) (links : List Link) (chains : List Ends) (x : Ends) (at : ℕ) (a b : Link) → IsChained n ps links chains → AreEnds n ps links p x → slice_get ps at ≡ Some p →
    a ≡ get_or links at a → b ≡ get_or links (x.first - n) b → (b.ordinal ≤ a.ordinal) × (a.ordinal - b.ordinal ≡ count_of p (take at ps))
index_count n ps p links chains x at a b known ends is entry first =
    let here : a.ordinal ≡ (known.before p).ordinal + count_of p (take at ps) =
    ap (λ (l : Link). l.ordinal) entry ∙ link_ordinal n ps links chains known at p a is in
    let start : b.ordinal ≡ (known.before p).ordinal =
    ap (λ (l : Link). l.ordinal) first ∙ ap (λ m. (get_or links (m - n) b).ordinal) ends.first ∙ first_ordinal n ps links chains known p b ends.has in
    (omega arith, omega arith)
