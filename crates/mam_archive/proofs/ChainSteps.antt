-- The chains of an archive's entries: where one stands, and what an append and a drop make of them.
use Rattle.std.proofs.Common.{◌≡◌, ◌≢◌, ℕ, suc, add-one, ◌+◌, ◌-◌, ◌<◌, ◌≤◌, inl, inr, Bool, true, false, ◌||◌, ◌==◌, List, [], ◌∷◌, ◌++◌, Option, Some, None, length, map, set, take, drop, get_or, slice_get, refl, sym, ap, subst, ◌∙◌, arith}
use Rattle.std.proofs.lemmas.Bool.{false≢true, cases_Bool, cases_lt, eq-eqb, ne_eqb}
use Rattle.std.proofs.lemmas.List.{drop-map, length-map, map-append}
use Rattle.std.proofs.lemmas.Option.{get_or_from_slice_get, none-some, slice_get-get_or, slice_get-map, slice_get_read, slice_get_within, same_Some}
use Rattle.std.specs.List.{insert, remove}
use Rattle.std.specs.Option.{option_map}
use Rattle.std.specs.Str.{bytes_eq}
use Rattle.mam_archive.proofs.Keys.{ascend-insert, ascend-remove, ascend_at, at_is_text, below-trans, differ_at, gap_absent, map-insert, map-remove, map-set, map_same, same_text, text-insert, text-remove, text-remove_other}
use Rattle.mam_archive.proofs.Linked.{IsBeside, first-push_new, first-push_old, first-push_other, first_beside, first_none, last-push, last-push_other, length-next_numbers, last_beside, nexts-push_new, nexts-push_old, text-push}
use Rattle.mam_archive.proofs.Marks.{anew, anew_after, anew_early, count_first, count_last, count_within, mark_after, mark_at, marked_early, marks-anew, marks-push, marks-set, nexts-set, ordinal_after, previous_some}
use Rattle.mam_archive.specs.Chained.{AreChains, Ascend, IsBelow, IsChained, IsGap, Mark, chain_at, chain_or, count_of, extended, least_with_peer, is_text_of, greatest_with_peer, link_or, mark_of, marked, marks, moved_on, next_numbers}
use Rattle.mam_archive.specs.Entries.{EntryView}
use Rattle.mam_archive.specs.declared.chains.Ends.{Ends}
use Rattle.mam_archive.specs.declared.chains.Link.{Link}
use Rattle.base_lemmas.proofs.Bytes.{bytes_eq-from_same}
use Rattle.std.proofs.Math.Bool.{or-false}

-- the chain at a place is that of the key there, which is the peer of an entry
pub chain_position : (keys : List (List ℕ)) (n : ℕ) (ps : List (List ℕ)) (chains : List Ends) (at : ℕ) (x : Ends) → AreChains keys n ps chains →
    at < length chains → x ≡ get_or chains at x → (k : List ℕ) × (slice_get keys at ≡ Some k) × (x ≡ chain_at n ps k) × (is_text_of k ps ≡ true)
chain_position keys n ps chains at x known within read =
    let is : slice_get chains at ≡ Some x = slice_get_read chains (length chains) at x refl within read in
    let mapped : option_map (chain_at n ps) (slice_get keys at) ≡ Some x =
    sym (slice_get-map (chain_at n ps) keys at) ∙ ap (λ cs. slice_get cs at) (sym known.are) ∙ is in
    go (slice_get keys at) refl mapped
  where
    go : (o : Option (List ℕ)) → slice_get keys at ≡ o → option_map (chain_at n ps) o ≡ Some x →
        (k : List ℕ) × (slice_get keys at ≡ Some k) × (x ≡ chain_at n ps k) × (is_text_of k ps ≡ true)
    go None here mapped = absurd (none-some x mapped)
    go (Some k) here mapped = (k, here, sym (same_Some (chain_at n ps k) x mapped), sym (known.every k) ∙ at_is_text keys at k here)

pub chain_read : (keys : List (List ℕ)) (n : ℕ) (ps : List (List ℕ)) (chains : List Ends) (at : ℕ) (p : List ℕ) (d : Ends) → AreChains keys n ps chains →
    slice_get keys at ≡ Some p → get_or chains at d ≡ chain_at n ps p
chain_read keys n ps chains at p d known key =
    let is : slice_get (map (chain_at n ps) keys) at ≡ Some (chain_at n ps p) = slice_get-map (chain_at n ps) keys at ∙ ap (option_map (chain_at n ps)) key in
    rw known.are (get_or_from_slice_get (map (chain_at n ps) keys) at (chain_at n ps p) d is)

pub key_has : (keys : List (List ℕ)) (n : ℕ) (ps : List (List ℕ)) (chains : List Ends) (at : ℕ) (p : List ℕ) → AreChains keys n ps chains →
    slice_get keys at ≡ Some p → is_text_of p ps ≡ true
key_has keys n ps chains at p known key = sym (known.every p) ∙ at_is_text keys at p key

-- a chain's first number is that of an entry, whose peer is the chain's key
pub chain_within : (n : ℕ) (f : EntryView → List ℕ) (es : List EntryView) (links : List Link) (chains : List Ends) (at : ℕ) (x : Ends) → IsChained n (map f es) links chains →
    at < length chains → x ≡ get_or chains at x → (n ≤ x.first) × (x.first - n < length es)
chain_within n f es links chains at x known within read =
    let position = chain_position known.keys n (map f es) chains at x known.chained within read in
    let beside = first_beside position.0 n (map f es) position.3 in
    let first : x.first ≡ least_with_peer position.0 n (map f es) = ap (λ (c : Ends). c.first) position.2 in
    let size : length (map f es) ≡ length es = length-map es f in
    (omega (arith, beside.low), omega (arith, beside.low, beside.high))

pub chain_peer : (keys : List (List ℕ)) (n : ℕ) (f : EntryView → List ℕ) (es : List EntryView) (chains : List Ends) (at : ℕ) (x : Ends) (e : EntryView) →
    AreChains keys n (map f es) chains → at < length chains → x ≡ get_or chains at x → x.first - n < length es → e ≡ get_or es (x.first - n) e → slice_get keys at ≡ Some (f e)
chain_peer keys n f es chains at x e known within read inside entry =
    let position = chain_position keys n (map f es) chains at x known within read in
    let beside = first_beside position.0 n (map f es) position.3 in
    let first : x.first ≡ least_with_peer position.0 n (map f es) = ap (λ (c : Ends). c.first) position.2 in
    let here : slice_get es (x.first - n) ≡ Some e = slice_get_read es (length es) (x.first - n) e refl inside entry in
    let peer : slice_get (map f es) (x.first - n) ≡ Some (f e) = slice_get-map f es (x.first - n) ∙ ap (option_map f) here in
    position.1 ∙ sym beside.there ∙ ap (λ m. slice_get (map f es) (m - n)) (sym first) ∙ peer

pub links_size : (n : ℕ) (ps : List (List ℕ)) (links : List Link) (chains : List Ends) → IsChained n ps links chains → length links ≡ length ps
links_size n ps links chains known =
    sym (length-map links (λ (l : Link). l.next)) ∙ ap length known.linked ∙ length-next_numbers n ps

-- the mark of an entry is what the entries in front of it left
pub link_mark : (n : ℕ) (ps : List (List ℕ)) (links : List Link) (chains : List Ends) (known : IsChained n ps links chains) (i : ℕ) (p : List ℕ) (d : Link) → slice_get ps i ≡ Some p →
    mark_of (get_or links i d) ≡ mark_after n known.before p (take i ps)
link_mark n ps links chains known i p d is =
    let size = links_size n ps links chains known in
    let within : i < length ps = slice_get_within ps i p is in
    let read : slice_get links i ≡ Some (get_or links i d) = slice_get-get_or links i d (omega arith) in
    let mark : slice_get (map mark_of links) i ≡ Some (mark_of (get_or links i d)) = slice_get-map mark_of links i ∙ ap (option_map mark_of) read in
    same_Some (mark_of (get_or links i d)) (mark_after n known.before p (take i ps))
    (sym mark ∙ ap (λ t. slice_get t i) known.beside ∙ mark_at n known.before ps i p is)

pub link_ordinal : (n : ℕ) (ps : List (List ℕ)) (links : List Link) (chains : List Ends) (known : IsChained n ps links chains) (i : ℕ) (p : List ℕ) (d : Link) → slice_get ps i ≡ Some p →
    (get_or links i d).ordinal ≡ (known.before p).ordinal + count_of p (take i ps)
link_ordinal n ps links chains known i p d is =
    ap (λ (m : Mark). m.ordinal) (link_mark n ps links chains known i p d is) ∙ ordinal_after n known.before p (take i ps)

-- the ordinals of the first and of the last entry of a peer
pub first_ordinal : (n : ℕ) (ps : List (List ℕ)) (links : List Link) (chains : List Ends) (known : IsChained n ps links chains) (p : List ℕ) (d : Link) → is_text_of p ps ≡ true →
    (get_or links (least_with_peer p n ps - n) d).ordinal ≡ (known.before p).ordinal
first_ordinal n ps links chains known p d has =
    let beside = first_beside p n ps has in
    let ordinal = link_ordinal n ps links chains known (least_with_peer p n ps - n) p d beside.there in
    let none = count_first p n ps has in
    omega arith

pub last_ordinal : (n : ℕ) (ps : List (List ℕ)) (links : List Link) (chains : List Ends) (known : IsChained n ps links chains) (p : List ℕ) (d : Link) → is_text_of p ps ≡ true →
    (get_or links (greatest_with_peer p n ps - n) d).ordinal + 1 ≡ (known.before p).ordinal + count_of p ps
last_ordinal n ps links chains known p d has =
    let beside = last_beside p n ps has in
    let ordinal = link_ordinal n ps links chains known (greatest_with_peer p n ps - n) p d beside.there in
    let more = count_last p n ps has in
    omega arith

-- what an entry more of a peer gets from the last one
end_mark : (n : ℕ) (ps : List (List ℕ)) (links : List Link) (chains : List Ends) (known : IsChained n ps links chains) (p : List ℕ) (last : ℕ) → is_text_of p ps ≡ true → last ≡ greatest_with_peer p n ps →
    record { previous = last; ordinal = (link_or links (last - n)).ordinal + 1 } ≡ mark_after n known.before p ps
end_mark n ps links chains known p last has is =
    let ordinal : (link_or links (greatest_with_peer p n ps - n)).ordinal + 1 ≡ (mark_after n known.before p ps).ordinal =
    last_ordinal n ps links chains known p (record { next = 0; previous = 0; ordinal = 0 }) has ∙ sym (ordinal_after n known.before p ps) in
    rw (is, ordinal, ← previous_some n known.before p ps has) refl

-- the last number of a peer's chain has a place among the links
pub chain_last : (n : ℕ) (ps : List (List ℕ)) (p : List ℕ) (links : List Link) (chains : List Ends) (at : ℕ) → IsChained n ps links chains →
    ((keys : List (List ℕ)) → AreChains keys n ps chains → slice_get keys at ≡ Some p) →
    (n ≤ (chain_or chains at).last) × ((chain_or chains at).last < n + length links)
chain_last n ps p links chains at known found =
    let key : slice_get known.keys at ≡ Some p = found known.keys known.chained in
    let chain : chain_or chains at ≡ chain_at n ps p = chain_read known.keys n ps chains at p (record { first = 0; last = 0 }) known.chained key in
    let last : (chain_or chains at).last ≡ greatest_with_peer p n ps = ap (λ (c : Ends). c.last) chain in
    let beside = last_beside p n ps (key_has known.keys n ps chains at p known.chained key) in
    let size = links_size n ps links chains known in
    (omega (arith, beside.low), omega (arith, beside.high))

-- and the ordinal there is below the number of an entry more
pub end_ordinal : (n number : ℕ) (ps : List (List ℕ)) (p : List ℕ) (links : List Link) (chains : List Ends) (at : ℕ) → IsChained n ps links chains →
    ((keys : List (List ℕ)) → AreChains keys n ps chains → slice_get keys at ≡ Some p) → number ≡ n + length ps →
    (link_or links ((chain_or chains at).last - n)).ordinal < number
end_ordinal n number ps p links chains at known found next =
    let none : Link = record { next = 0; previous = 0; ordinal = 0 } in
    let key : slice_get known.keys at ≡ Some p = found known.keys known.chained in
    let chain : chain_or chains at ≡ chain_at n ps p = chain_read known.keys n ps chains at p (record { first = 0; last = 0 }) known.chained key in
    let ordinal = last_ordinal n ps links chains known p none (key_has known.keys n ps chains at p known.chained key) in
    let few = count_within p ps in
    let early = known.early.ordinal p in
    rw chain (omega arith)

-- a peer of an entry has a chain
pub peer_position : (f : EntryView → List ℕ) (es : List EntryView) (i : ℕ) (e : EntryView) → i < length es → e ≡ get_or es i e → slice_get (map f es) i ≡ Some (f e)
peer_position f es i e within read = slice_get-map f es i ∙ ap (option_map f) (slice_get_read es (length es) i e refl within read)

pub links_of_entries : (n : ℕ) (f : EntryView → List ℕ) (es : List EntryView) (links : List Link) (chains : List Ends) → IsChained n (map f es) links chains → length links ≡ length es
links_of_entries n f es links chains known = links_size n (map f es) links chains known ∙ length-map es f

pub peer_chained : (n : ℕ) (ps : List (List ℕ)) (p : List ℕ) (links : List Link) (chains : List Ends) (i at : ℕ) → IsChained n ps links chains → slice_get ps i ≡ Some p →
    ((keys : List (List ℕ)) → AreChains keys n ps chains → IsGap keys p at) → ⊥
peer_chained n ps p links chains i at known is absent =
    false≢true (sym (gap_absent known.keys p at (absent known.keys known.chained)) ∙ known.chained.every p ∙ at_is_text ps i p is)

-- steps of a search among keys
pub below_more : (keys : List (List ℕ)) (m : ℕ) (k p : List ℕ) → Ascend keys → slice_get keys m ≡ Some k → IsBelow k p →
    (i : ℕ) (q : List ℕ) → i < m + 1 → slice_get keys i ≡ Some q → IsBelow q p
below_more keys m k p up key low i q within is = elim (cases_lt i m) [
  | inl front ↦ below-trans q k p (ascend_at keys i m q k up front is key) low
  | inr back ↦
      let here : m ≡ i = omega arith in
      subst (λ t. IsBelow t p) (same_Some k q (sym key ∙ ap (λ j. slice_get keys j) here ∙ is)) low
]

pub above_more : (keys : List (List ℕ)) (m : ℕ) (k p : List ℕ) → Ascend keys → slice_get keys m ≡ Some k → IsBelow p k →
    (i : ℕ) (q : List ℕ) → m ≤ i → slice_get keys i ≡ Some q → IsBelow p q
above_more keys m k p up key high i q within is = elim (cases_lt m i) [
  | inl later ↦ below-trans p k q high (ascend_at keys m i k q up later key is)
  | inr back ↦
      let here : m ≡ i = omega arith in
      subst (λ t. IsBelow p t) (same_Some k q (sym key ∙ ap (λ j. slice_get keys j) here ∙ is)) high
]

-- an entry more leaves the chain of another peer
chain-push_other : (n : ℕ) (ps : List (List ℕ)) (p q : List ℕ) → bytes_eq p q ≡ false → chain_at n (ps ++ p ∷ []) q ≡ chain_at n ps q
chain-push_other n ps p q other = rw (first-push_other p q n ps other, last-push_other p q n ps other) refl

-- an entry more of a peer that has a chain
pub chained_more : (n number : ℕ) (ps : List (List ℕ)) (p : List ℕ) (links : List Link) (chains : List Ends) (at : ℕ) → IsChained n ps links chains →
    ((keys : List (List ℕ)) → AreChains keys n ps chains → slice_get keys at ≡ Some p) → number ≡ n + length ps →
    IsChained n (ps ++ p ∷ []) (extended ((chain_or chains at).last - n) (chain_or chains at).last number links) (set chains at (record { first = (chain_or chains at).first; last = number }))
chained_more n number ps p links chains at known found next =
    let keys = known.keys in
    let key : slice_get keys at ≡ Some p = found keys known.chained in
    let has : is_text_of p ps ≡ true = key_has keys n ps chains at p known.chained key in
    let chain : chain_or chains at ≡ chain_at n ps p = chain_read keys n ps chains at p (record { first = 0; last = 0 }) known.chained key in
    let new : chain_at n (ps ++ p ∷ []) p ≡ record { first = least_with_peer p n ps; last = number } =
    rw (first-push_old p p n ps has, last-push p n ps, next) refl in
    let images : map (chain_at n (ps ++ p ∷ [])) keys ≡ set (map (chain_at n ps) keys) at (chain_at n (ps ++ p ∷ []) p) =
    map-set (chain_at n ps) (chain_at n (ps ++ p ∷ [])) keys at p key
    (λ i q other is. chain-push_other n ps p q (differ_at keys at i p q known.chained.ascend (λ same. other (sym same)) key is)) in
    record {
      linked = rw (map-append, nexts-set, chain, known.linked, next) (sym (nexts-push_old p n ps has));
      before = known.before;
      early = known.early;
      beside = rw (map-append, marks-set, known.beside, marks-push n known.before ps p, end_mark n ps links chains known p (chain_or chains at).last has (ap (λ (c : Ends). c.last) chain)) refl;
      keys = keys;
      chained = record {
        are = rw (chain, known.chained.are, ← new) (sym images);
        ascend = known.chained.ascend;
        every = every keys has;
      };
    }
  where
    every : (keys : List (List ℕ)) → is_text_of p ps ≡ true → (q : List ℕ) → is_text_of q known.keys ≡ is_text_of q (ps ++ p ∷ [])
    every keys has q = elim (same_text p q) [
      | inl same ↦
          let there : is_text_of q ps ≡ true = subst (λ t. is_text_of t ps ≡ true) same has in
          known.chained.every q ∙ there ∙ sym (text-push p q ps ∙ rw there refl)
      | inr other ↦ known.chained.every q ∙ sym (text-push p q ps ∙ rw other (or-false (is_text_of q ps)))
    ]

-- an entry more of a peer that has none
pub chained_new : (n number : ℕ) (ps : List (List ℕ)) (p : List ℕ) (links : List Link) (chains : List Ends) (at : ℕ) → IsChained n ps links chains →
    ((keys : List (List ℕ)) → AreChains keys n ps chains → IsGap keys p at) → number ≡ n + length ps →
    IsChained n (ps ++ p ∷ []) (links ++ record { next = 0; previous = 0; ordinal = 0 } ∷ []) (insert chains at (record { first = number; last = number }))
chained_new n number ps p links chains at known absent next =
    let keys = known.keys in
    let gap : IsGap keys p at = absent keys known.chained in
    let none : is_text_of p ps ≡ false = sym (known.chained.every p) ∙ gap_absent keys p at gap in
    let new : chain_at n (ps ++ p ∷ []) p ≡ record { first = number; last = number } =
    rw (first-push_new p n ps none, last-push p n ps, next) refl in
    let old : map (chain_at n (ps ++ p ∷ [])) keys ≡ map (chain_at n ps) keys =
    map_same (chain_at n ps) (chain_at n (ps ++ p ∷ [])) keys
    (λ i q is. chain-push_other n ps p q (differs keys none i q is)) in
    record {
      linked = rw (map-append, known.linked) (sym (nexts-push_new p n ps none));
      before = anew p known.before;
      early = anew_early n known.before p known.early;
      beside = rw (map-append, known.beside, marks-push n (anew p known.before) ps p, marks-anew n known.before p ps none, anew_after n known.before p ps none) refl;
      keys = insert keys at p;
      chained = record {
        are = rw (map-insert (chain_at n (ps ++ p ∷ [])) keys at p, new, old, known.chained.are) refl;
        ascend = ascend-insert keys p at gap known.chained.ascend;
        every = λ q. text-insert keys p at q ∙ ap (λ b. bytes_eq p q || b) (known.chained.every q) ∙ or_comm (bytes_eq p q) (is_text_of q ps) ∙ sym (text-push p q ps);
      };
    }
  where
    or_comm : (a b : Bool) → (a || b) ≡ (b || a)
    or_comm true true = refl
    or_comm true false = refl
    or_comm false true = refl
    or_comm false false = refl

    differs : (keys : List (List ℕ)) → is_text_of p ps ≡ false → (i : ℕ) (q : List ℕ) → slice_get known.keys i ≡ Some q → bytes_eq p q ≡ false
    differs keys none i q is = elim (same_text p q) [
      | inl same ↦
          let there : is_text_of q ps ≡ true = key_has known.keys n ps chains i q known.chained is in
          absurd (false≢true (sym none ∙ subst (λ t. is_text_of t ps ≡ true) (sym same) there))
      | inr other ↦ other
    ]

-- the first entry goes: the chain of another peer stays
chain_tail_other : (n : ℕ) (qs : List (List ℕ)) (p q : List ℕ) → bytes_eq p q ≡ false → is_text_of q (p ∷ qs) ≡ true → chain_at (suc n) qs q ≡ chain_at n (p ∷ qs) q
chain_tail_other n qs p q other has =
    let later : is_text_of q qs ≡ true = rw other at has in
    rw (other, later) refl

first_next : (links : List Link) (m : ℕ) (ms : List ℕ) → map (λ (l : Link). l.next) links ≡ m ∷ ms → (link_or links 0).next ≡ m
first_next [] m ms is = cc
first_next (l ∷ ls) m ms is = cc

moved : (n : ℕ) (p : List ℕ) (qs : List (List ℕ)) (links : List Link) (chains : List Ends) (at : ℕ) (known : IsChained n (p ∷ qs) links chains) →
    slice_get known.keys at ≡ Some p → IsChained (suc n) qs (drop 1 links) (moved_on (link_or links 0).next at chains)
moved n p qs links chains at known key = elim (cases_Bool (is_text_of p qs)) [
  | inl later ↦
      let position : IsBeside p (least_with_peer p (suc n) qs) (suc n) qs = first_beside p (suc n) qs later in
      let some : (least_with_peer p (suc n) qs == 0) ≡ false = ne_eqb (least_with_peer p (suc n) qs) 0 (λ same. omega (arith, position.low)) in
      let new : chain_at (suc n) qs p ≡ record { first = least_with_peer p (suc n) qs; last = (chain_or chains at).last } = rw (chain, later) refl in
      record {
        linked = linked;
        before = marked n p known.before;
        early = marked_early n known.before p known.early;
        beside = beside;
        keys = known.keys;
        chained = record {
          are = rw (next, some, ← new, known.chained.are) (sym (map-set (chain_at n (p ∷ qs)) (chain_at (suc n) qs) known.keys at p key others));
          ascend = known.chained.ascend;
          every = λ q. known.chained.every q ∙ stays later q;
        };
      }
  | inr none ↦
      let gone : (least_with_peer p (suc n) qs == 0) ≡ true = eq-eqb (least_with_peer p (suc n) qs) 0 (first_none p (suc n) qs none) in
      record {
        linked = linked;
        before = marked n p known.before;
        early = marked_early n known.before p known.early;
        beside = beside;
        keys = remove known.keys at;
        chained = record {
          are = rw (next, gone, known.chained.are) (sym (map-remove (chain_at n (p ∷ qs)) (chain_at (suc n) qs) known.keys at p key others));
          ascend = ascend-remove known.keys at known.chained.ascend;
          every = λ q. goes none q;
        };
      }
]
  where
    linked : map (λ (l : Link). l.next) (drop 1 links) ≡ next_numbers (suc n) qs
    linked = sym (drop-map (λ (l : Link). l.next) 1 links) ∙ ap (λ t. drop 1 t) known.linked

    beside : map mark_of (drop 1 links) ≡ marks (suc n) (marked n p known.before) qs
    beside = sym (drop-map mark_of 1 links) ∙ ap (λ t. drop 1 t) known.beside

    next : (link_or links 0).next ≡ least_with_peer p (suc n) qs
    next = first_next links (least_with_peer p (suc n) qs) (next_numbers (suc n) qs) known.linked

    chain : chain_or chains at ≡ chain_at n (p ∷ qs) p
    chain = chain_read known.keys n (p ∷ qs) chains at p (record { first = 0; last = 0 }) known.chained key

    others : (i : ℕ) (q : List ℕ) → i ≢ at → slice_get known.keys i ≡ Some q → chain_at (suc n) qs q ≡ chain_at n (p ∷ qs) q
    others i q other is =
        chain_tail_other n qs p q (differ_at known.keys at i p q known.chained.ascend (λ same. other (sym same)) key is)
        (key_has known.keys n (p ∷ qs) chains i q known.chained is)

    stays : is_text_of p qs ≡ true → (q : List ℕ) → is_text_of q (p ∷ qs) ≡ is_text_of q qs
    stays later q = elim (same_text p q) [
      | inl same ↦
          let there : is_text_of q qs ≡ true = subst (λ t. is_text_of t qs ≡ true) same later in
          rw (bytes_eq-from_same p q same, there) refl
      | inr other ↦ rw other refl
    ]

    goes : is_text_of p qs ≡ false → (q : List ℕ) → is_text_of q (remove known.keys at) ≡ is_text_of q qs
    goes none q = elim (same_text p q) [
      | inl same ↦
          let there : is_text_of q qs ≡ false = subst (λ t. is_text_of t qs ≡ false) same none in
          text-remove known.keys at q known.chained.ascend (key ∙ ap Some same) ∙ sym there
      | inr other ↦ text-remove_other known.keys at p q key other ∙ known.chained.every q ∙ rw other refl
    ]

pub chained_less : (n : ℕ) (p : List ℕ) (ps : List (List ℕ)) (links : List Link) (chains : List Ends) (at : ℕ) → IsChained n ps links chains → slice_get ps 0 ≡ Some p →
    ((keys : List (List ℕ)) → AreChains keys n ps chains → slice_get keys at ≡ Some p) → IsChained (n + 1) (drop 1 ps) (drop 1 links) (moved_on (link_or links 0).next at chains)
chained_less n p [] links chains at known first found = absurd (none-some p first)
chained_less n p (q ∷ qs) links chains at known first found =
    let same : q ≡ p = same_Some q p first in
    let key : slice_get known.keys at ≡ Some q = found known.keys known.chained ∙ ap Some (sym same) in
    rw (add-one n) (moved n q qs links chains at known key)
