-- What is true of entries that are numbered from a first to a last.
use Rattle.std.proofs.Common.{◌≡◌, ◌≢◌, ℕ, zero, suc, ◌+◌, ◌-◌, ◌<◌, ◌≤◌, ◌^◌, Bool, true, false, List, [], ◌∷◌, Some, None, length, refl, sym, ap, ◌∙◌, arith, inl, inr}
use Rattle.std.proofs.lemmas.Bool.{cases_eq}
use Rattle.std.proofs.lemmas.Slice.Eq.{bytes_eq-Decides}
use Rattle.std.specs.Bool.{Decides}
use Rattle.std.specs.Option.{option_map}
use Rattle.std.specs.Str.{bytes_eq}
use Rattle.mam_archive.specs.Entries.{AreNumbered, EntryView}
use Rattle.mam_archive.specs.Ids.{id_of}
use Rattle.std.specs.List.{slice_get}
use Rattle.mam_pages.specs.Kept.{AreConsecutive, first_number, last_number, last_number_or}
use Rattle.mam_pages.specs.PageOf.{entry_of_id}
use Rattle.mam_pages.specs.Spans.{IsNumbered, number_of_entry}

-- the numbers are those behind n, one after another
abbrev pub FollowOn : ℕ → List EntryView → Type 0
FollowOn n [] = Unit {0}
FollowOn n (e ∷ es) = (e.number ≡ suc n) × FollowOn (suc n) es

-- the numbers are those behind `base`, up to `last`
pub record IsPlaced (base last : ℕ) (es : List EntryView) : Type 0 where
  pub follow : FollowOn base es
  pub end : base + length es ≡ last

follow_from : (b : ℕ) (es : List EntryView) → ((i : ℕ) (e : EntryView) → slice_get es i ≡ Some e → e.number ≡ b + 1 + i) → FollowOn b es
follow_from b [] each = tt
follow_from b (e ∷ es) each =
    let here : e.number ≡ b + 1 + zero = each zero e refl in
    (omega (arith, here), follow_from (suc b) es (λ i f is. let number : f.number ≡ b + 1 + suc i = each (suc i) f is in omega (arith, number)))

-- the first number is not 0, and the others go on from it
pub placed : (first last : ℕ) (es : List EntryView) → IsNumbered first last es → (1 ≤ first) × IsPlaced (first - 1) last es
placed first last [] known =
    let start : 1 ≡ first = known.from in
    let end : 0 ≡ last = known.to in
    (omega (arith, start), record { follow = tt; end = omega (arith, start, end) })
placed first last (e ∷ es) known =
    let start : e.number ≡ first = known.from in
    let to : last_number (e ∷ es) ≡ last = known.to in
    let low : length (e ∷ es) ≤ last_number (e ∷ es) = known.consecutive.from_one in
    let here : e.number + length (e ∷ es) ≡ last_number (e ∷ es) + 1 + zero = known.consecutive.numbers.each zero e refl in (
      omega (arith, start, low, here),
      record {
        follow = follow_from (first - 1) (e ∷ es) (λ i f is.
            let number : f.number + length (e ∷ es) ≡ last_number (e ∷ es) + 1 + i = known.consecutive.numbers.each i f is in
            omega (arith, number, here, start, low));
        end = omega (arith, start, to, here, low);
      },
    )

pub placed_self : (es : List EntryView) → AreConsecutive es → (1 ≤ first_number es) × IsPlaced (first_number es - 1) (last_number es) es
placed_self es known = placed (first_number es) (last_number es) es (record { consecutive = known; from = refl; to = refl })

last_is : (n : ℕ) (es : List EntryView) → FollowOn n es → last_number_or n es ≡ n + length es
last_is n [] follow = omega arith
last_is n (e ∷ es) follow =
    let rest : last_number_or (suc n) es ≡ suc n + length es = last_is (suc n) es follow.1 in
    let sum : suc n + length es ≡ n + suc (length es) = omega arith in
    rw follow.0 (rest ∙ sum)

-- the last number of entries that are kept
pub kept_last : (last : ℕ) (es : List EntryView) → AreNumbered last es → length es ≤ last → (length es ≡ 0 → last ≡ 0) → last_number es ≡ last
kept_last last [] numbers low none = sym (none refl)
kept_last last (e ∷ es) numbers low none =
    let base = last - length (e ∷ es) in
    let follow : FollowOn base (e ∷ es) = follow_from base (e ∷ es) (λ i f is. let number = numbers.each i f is in omega (arith, number, low)) in
    let end : last_number_or base (e ∷ es) ≡ base + length (e ∷ es) = last_is base (e ∷ es) follow in
    end ∙ omega (arith, low)

pub kept_first : (last : ℕ) (es : List EntryView) → AreNumbered last es → length es ≤ last → (length es ≡ 0 → last ≡ 0) → last + 1 - length es ≡ first_number es
kept_first last [] numbers low none = let zero_last = none refl in omega (arith, zero_last)
kept_first last (e ∷ es) numbers low none =
    let here : e.number + length (e ∷ es) ≡ last + 1 + zero = numbers.each zero e refl in
    omega (arith, here, low)

pub kept_consecutive : (last : ℕ) (es : List EntryView) → AreNumbered last es → length es ≤ last → (length es ≡ 0 → last ≡ 0) → AreConsecutive es
kept_consecutive last es numbers low none =
    let same = kept_last last es numbers low none in
    record { numbers = rw same numbers; from_one = rw same low }

false_from_Decides : {P : Type 0} → (b : Bool) → Decides b P → ¬ P → b ≡ false
false_from_Decides true decides fails = absurd (fails (decides.0 refl))
false_from_Decides false decides fails = refl

-- different numbers have different ids
abbrev pub IdsDiffer : Type 0
IdsDiffer = (m n : ℕ) → m < 2 ^ 64 → n < 2 ^ 64 → id_of m ≡ id_of n → m ≡ n

-- the entry with an id has its number
pub find_kept : (k n : ℕ) (es : List EntryView) → IdsDiffer → FollowOn n es → n + length es < 2 ^ 64 → n < k → k ≤ n + length es →
    option_map number_of_entry (entry_of_id (id_of k) es) ≡ Some k
find_kept k n [] differ follow few low high = absurd (omega arith)
find_kept k n (e ∷ es) differ follow few low high =
    elim (cases_eq k (suc n)) [
      | inl same ↦
          let here : bytes_eq (id_of e.number) (id_of k) ≡ true =
          rw (follow.0, same) ((bytes_eq-Decides (id_of (suc n)) (id_of (suc n))).1 refl) in
          rw here (ap Some (follow.0 ∙ sym same))
      | inr other ↦
          let other_id : bytes_eq (id_of e.number) (id_of k) ≡ false =
          rw follow.0 (false_from_Decides (bytes_eq (id_of (suc n)) (id_of k)) (bytes_eq-Decides (id_of (suc n)) (id_of k))
          (λ is. other (sym (differ (suc n) k (omega arith) (omega arith) is)))) in
          rw other_id (find_kept k (suc n) es differ follow.1 (omega arith) (omega arith) (omega arith))
    ]

-- no entry has an id that is no number's
pub find_lost : (id : List ℕ) (n : ℕ) (es : List EntryView) → FollowOn n es →
    ((m : ℕ) → n < m → m ≤ n + length es → id ≢ id_of m) → entry_of_id id es ≡ None
find_lost id n [] follow unknown = refl
find_lost id n (e ∷ es) follow unknown =
    let other_id : bytes_eq (id_of e.number) id ≡ false =
    rw follow.0 (false_from_Decides (bytes_eq (id_of (suc n)) id) (bytes_eq-Decides (id_of (suc n)) id)
    (λ is. unknown (suc n) (omega arith) (omega arith) (sym is))) in
    rw other_id (find_lost id (suc n) es follow.1 (λ m above below. unknown m (omega arith) (omega arith)))
