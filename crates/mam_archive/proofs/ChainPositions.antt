-- What stands in a chain below a number, and at its ends.
use Rattle.std.proofs.Common.{◌≡◌, ℕ, zero, suc, ◌+◌, ◌-◌, ◌<◌, ◌≤◌, inl, inr, Bool, true, false, true≢false, List, [], ◌∷◌, Option, Some, None, length, map, take, slice_get, slice_index, ltb, refl, sym, ap, ◌∙◌, arith}
use Rattle.std.proofs.lemmas.Bool.{false≢true, cases_Bool, cases_lt}
use Rattle.std.proofs.lemmas.Bool.Decides.{nat_tests}
use Rattle.std.proofs.lemmas.List.{get_or-map, length-map, take-map}
use Rattle.std.proofs.lemmas.Option.{none-some, slice_get-map, same_Some}
use Rattle.std.specs.List.{filter}
use Rattle.std.specs.Option.{option_and_then, option_map}
use Rattle.std.specs.Str.{bytes_eq}
use Rattle.mam_archive.proofs.ChainSteps.{link_mark, links_size}
use Rattle.mam_archive.proofs.Linked.{first_beside, last_beside}
use Rattle.mam_archive.proofs.Marks.{mark_after, previous_none, previous_some}
use Rattle.mam_archive.proofs.NumberedEntries.{FollowFrom, at_position, entry_at}
use Rattle.mam_archive.proofs.Walks.{find_first, first_is, next_of_is, some_number-positive}
use Rattle.mam_archive.specs.Chained.{AreBefore, IsChained, Mark, count_of, least_with_peer, is_text_of, kept_number, greatest_with_peer, link_or, next_numbers, some_chain, some_number}
use Rattle.mam_archive.specs.Entries.{AreKept, EntryView, entry_numbered}
use Rattle.mam_archive.specs.Peers.{chain_below, chain_ends, index_of, is_with, last_entry, next_of, peer_of, previous_of}
use Rattle.mam_archive.specs.declared.chains.Chain.{Chain}
use Rattle.mam_archive.specs.declared.chains.Ends.{Ends}
use Rattle.mam_archive.specs.declared.chains.Link.{Link}

abbrev number_of : EntryView → ℕ
number_of e = e.number

pub follow_take : (k n : ℕ) (es : List EntryView) → FollowFrom n es → FollowFrom n (take k es)
follow_take zero n es follow = tt
follow_take (suc k) n [] follow = tt
follow_take (suc k) n (e ∷ es) follow = (follow.0, follow_take k (suc n) es follow.1)

-- those below a number are those in front of its place
pub filter_below : (t : EntryView → Bool) (m n : ℕ) (es : List EntryView) → FollowFrom n es → filter (λ f. ltb f.number m) (filter t es) ≡ filter t (take (m - n) es)
filter_below t m n [] follow = elim (cases_lt n m) [
  | inl below ↦
      let position : m - n ≡ suc (m - suc n) = omega arith in
      rw position refl
  | inr above ↦
      let position : m - n ≡ zero = omega arith in
      rw position refl
]
filter_below t m n (e ∷ es) follow = elim (cases_lt n m) [
  | inl below ↦
      let position : m - n ≡ suc (m - suc n) = omega arith in
      let test : ltb e.number m ≡ true = rw follow.0 (grind (arith, nat_tests)) in
      let rest = filter_below t m (suc n) es follow.1 in
      elim (cases_Bool (t e)) [
        | inl passes ↦ rw (position, passes, test) (ap (λ l. e ∷ l) rest)
        | inr fails ↦ rw (position, fails) rest
      ]
  | inr above ↦
      let position : m - n ≡ zero = omega arith in
      let next : m - suc n ≡ zero = omega arith in
      let test : ltb e.number m ≡ false = rw follow.0 (grind (arith, nat_tests)) in
      let rest : filter (λ f. ltb f.number m) (filter t es) ≡ [] = rw next at (filter_below t m (suc n) es follow.1) in
      elim (cases_Bool (t e)) [
        | inl passes ↦ rw (position, passes, test) rest
        | inr fails ↦ rw (position, fails) rest
      ]
]

-- how many entries have a peer
pub count_entries : (key : EntryView → List ℕ) (p : List ℕ) (es : List EntryView) → length (filter (λ e. bytes_eq (key e) p) es) ≡ count_of p (map key es)
count_entries key p [] = refl
count_entries key p (e ∷ es) = elim (cases_Bool (bytes_eq (key e) p)) [
  | inl same ↦ rw same (ap suc (count_entries key p es))
  | inr other ↦ rw other (count_entries key p es)
]

pub none_with : (key : EntryView → List ℕ) (p : List ℕ) (es : List EntryView) → is_text_of p (map key es) ≡ false → filter (λ e. bytes_eq (key e) p) es ≡ []
none_with key p [] none = refl
none_with key p (e ∷ es) none = elim (cases_Bool (bytes_eq (key e) p)) [
  | inl same ↦ absurd (true≢false (rw same at none))
  | inr other ↦ rw other (none_with key p es (rw other at none))
]

-- the last of a list
last_more : (e : EntryView) (es : List EntryView) (m : ℕ) → option_map number_of (last_entry es) ≡ Some m → option_map number_of (last_entry (e ∷ es)) ≡ Some m
last_more e [] m is = absurd (none-some m is)
last_more e (f ∷ fs) m is =
    let position : suc (suc (length fs)) - 1 ≡ suc (length fs) = omega arith in
    let before : suc (length fs) - 1 ≡ length fs = omega arith in
    rw position (rw before at is)

pub last_with : (key : EntryView → List ℕ) (p : List ℕ) (n : ℕ) (es : List EntryView) → FollowFrom n es → is_text_of p (map key es) ≡ true →
    option_map number_of (last_entry (filter (λ e. bytes_eq (key e) p) es)) ≡ Some (greatest_with_peer p n (map key es))
last_with key p n [] follow has = absurd (false≢true has)
last_with key p n (e ∷ es) follow has = elim (cases_Bool (is_text_of p (map key es))) [
  | inl later ↦
      let rest = last_with key p (suc n) es follow.1 later in
      elim (cases_Bool (bytes_eq (key e) p)) [
        | inl same ↦ rw (later, same) (last_more e (filter (λ f. bytes_eq (key f) p) es) (greatest_with_peer p (suc n) (map key es)) rest)
        | inr other ↦ rw (later, other) rest
      ]
  | inr none ↦ elim (cases_Bool (bytes_eq (key e) p)) [
    | inl same ↦ rw (none, same, none_with key p es none) (ap Some follow.0)
    | inr other ↦ absurd (false≢true (sym none ∙ rw other at has))
  ]
]

-- the numbers at the ends
ends_same : (a b : Option EntryView) (first last count : ℕ) → option_map number_of a ≡ Some first → option_map number_of b ≡ Some last →
    option_and_then (λ (e : EntryView). option_map (λ (f : EntryView). let c : Chain = record { first = e.number; last = f.number; count = count } in c) b) a
    ≡ Some (record { first = first; last = last; count = count })
ends_same None b first last count start end = absurd (none-some first start)
ends_same (Some e) None first last count start end = absurd (none-some last end)
ends_same (Some e) (Some f) first last count start end =
    rw (same_Some e.number first start, same_Some f.number last end) refl

pub chain_ends_is : (owner p : List ℕ) (n : ℕ) (es : List EntryView) → FollowFrom n es → 1 ≤ n → chain_ends owner p es ≡ some_chain p n (map (peer_of owner) es)
chain_ends_is owner p n es follow low =
    let t = is_with owner p in
    elim (cases_Bool (is_text_of p (map (peer_of owner) es))) [
      | inl has ↦
          let beside = first_beside p n (map (peer_of owner) es) has in
          let start : option_map number_of (slice_get (filter t es) 0) ≡ Some (least_with_peer p n (map (peer_of owner) es)) =
          ap (option_map number_of) (sym (find_first t es)) ∙ first_is (peer_of owner) p n es follow low
          ∙ some_number-positive (least_with_peer p n (map (peer_of owner) es)) (omega (arith, beside.low)) in
          let end = last_with (peer_of owner) p n es follow has in
          rw (has, ← count_entries (peer_of owner) p es)
          (ends_same (slice_get (filter t es) 0) (last_entry (filter t es)) (least_with_peer p n (map (peer_of owner) es)) (greatest_with_peer p n (map (peer_of owner) es)) (length (filter t es)) start end)
      | inr none ↦ rw (none, none_with (peer_of owner) p es none) refl
    ]

-- the entries in front of one
below_at : (owner p : List ℕ) (n m i : ℕ) (es : List EntryView) → FollowFrom n es → m ≡ n + i → chain_below owner p m es ≡ filter (is_with owner p) (take i es)
below_at owner p n m i es follow position =
    let at : m - n ≡ i = omega arith in
    filter_below (is_with owner p) m n es follow ∙ rw at refl

previous_is : (key : EntryView → List ℕ) (p : List ℕ) (n i : ℕ) (before : List ℕ → Mark) (es : List EntryView) → AreBefore n before → FollowFrom n es →
    option_map number_of (last_entry (filter (λ e. bytes_eq (key e) p) (take i es))) ≡ kept_number n (mark_after n before p (take i (map key es))).previous
previous_is key p n i before es early follow =
    let ps = map key (take i es) in
    rw (take-map key i es) (elim (cases_Bool (is_text_of p ps)) [
      | inl has ↦
          let beside = last_beside p n ps has in
          let low : n ≤ greatest_with_peer p n ps = beside.low in
          let test : ltb (greatest_with_peer p n ps) n ≡ false = grind (arith, nat_tests) in
          last_with key p n (take i es) (follow_take i n es follow) has ∙ sym (rw (previous_some n before p ps has, test) refl)
      | inr none ↦
          let low : (before p).previous < n = early.previous p in
          let test : ltb (before p).previous n ≡ true = grind (arith, nat_tests) in
          rw (none_with key p (take i es) none, previous_none n before p ps none, test) refl
    ])

pub previous_of_is : (owner : List ℕ) (n m i : ℕ) (before : List ℕ → Mark) (es : List EntryView) (e : EntryView) → AreBefore n before → FollowFrom n es → m ≡ n + i → slice_get es i ≡ Some e →
    previous_of owner m es ≡ kept_number n (mark_after n before (peer_of owner e) (take i (map (peer_of owner) es))).previous
previous_of_is owner n m i before es e early follow position is =
    let at : m - n ≡ i = omega arith in
    let entry : entry_numbered m es ≡ Some e = entry_at m n es follow (omega arith) ∙ rw at is in
    rw entry (ap (λ l. option_map number_of (last_entry l)) (below_at owner (peer_of owner e) n m i es follow position)
    ∙ previous_is (peer_of owner) (peer_of owner e) n i before es early follow)

pub index_of_is : (owner : List ℕ) (n m i : ℕ) (es : List EntryView) (e : EntryView) → FollowFrom n es → m ≡ n + i → slice_get es i ≡ Some e →
    index_of owner m es ≡ Some (count_of (peer_of owner e) (take i (map (peer_of owner) es)))
index_of_is owner n m i es e follow position is =
    let at : m - n ≡ i = omega arith in
    let entry : entry_numbered m es ≡ Some e = entry_at m n es follow (omega arith) ∙ rw at is in
    rw (entry, take-map (peer_of owner) i es) (ap (λ l. Some (length l)) (below_at owner (peer_of owner e) n m i es follow position)
    ∙ ap Some (count_entries (peer_of owner) (peer_of owner e) (take i es)))

-- what the links say of the entry at a place
pub position_has : (owner : List ℕ) (n m i : ℕ) (es : List EntryView) (links : List Link) (chains : List Ends) → IsChained n (map (peer_of owner) es) links chains → FollowFrom n es → 1 ≤ n → m ≡ n + i → i < length es →
    (next_of owner m es ≡ some_number (link_or links i).next) × (previous_of owner m es ≡ kept_number n (link_or links i).previous)
position_has owner n m i es links chains known follow low position within =
    let none : Link = record { next = 0; previous = 0; ordinal = 0 } in
    let ps = map (peer_of owner) es in
    let entry = at_position i es within in
    let peer : slice_get ps i ≡ Some (peer_of owner entry.0) = slice_get-map (peer_of owner) es i ∙ ap (option_map (peer_of owner)) entry.1 in
    let size = links_size n ps links chains known in
    let same = length-map es (peer_of owner) in
    let next : (link_or links i).next ≡ slice_index (next_numbers n ps) i =
    sym (get_or-map (λ (l : Link). l.next) links i none 0 (omega arith)) ∙ ap (λ t. slice_index t i) known.linked in
    let previous : (link_or links i).previous ≡ (mark_after n known.before (peer_of owner entry.0) (take i ps)).previous =
    ap (λ (k : Mark). k.previous) (link_mark n ps links chains known i (peer_of owner entry.0) none peer) in (
      rw next (next_of_is owner n m i es entry.0 follow low position entry.1),
      rw previous (previous_of_is owner n m i known.before es entry.0 known.early follow position entry.1),
    )

pub index_has : (owner : List ℕ) (n m i index : ℕ) (es : List EntryView) → FollowFrom n es → m ≡ n + i → i < length es →
    ((peer : List ℕ) → slice_get (map (peer_of owner) es) i ≡ Some peer → index ≡ count_of peer (take i (map (peer_of owner) es))) → index_of owner m es ≡ Some index
index_has owner n m i index es follow position within count =
    let entry = at_position i es within in
    let peer : slice_get (map (peer_of owner) es) i ≡ Some (peer_of owner entry.0) = slice_get-map (peer_of owner) es i ∙ ap (option_map (peer_of owner)) entry.1 in
    index_of_is owner n m i es entry.0 follow position entry.1 ∙ ap Some (sym (count (peer_of owner entry.0) peer))

-- an archive without entries
pub kept_none : (keep : ℕ) → 1 ≤ keep → AreKept keep 0 []
kept_none keep some = record {
  numbers = record { each = λ i e is. absurd (none-some e is) };
  some = some;
  few = omega arith;
  within = omega arith;
  most = omega arith;
  none = λ same. refl;
}

pub chained_none : (n : ℕ) → 1 ≤ n → IsChained n [] [] []
chained_none n low = record {
  linked = refl;
  before = λ p. record { previous = 0; ordinal = 0 };
  early = record { previous = λ p. omega arith; ordinal = λ p. omega arith };
  beside = refl;
  keys = [];
  chained = record { are = refl; ascend = tt; every = λ p. refl };
}
