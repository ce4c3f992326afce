-- The entries with a peer, one after another.
use Rattle.std.proofs.Common.{◌≡◌, ℕ, suc, ◌<◌, ◌≤◌, Bool, true, false, ◌&&◌, List, [], ◌∷◌, ◌++◌, Option, Some, ltb, eqb, refl, ap, ◌∙◌, arith, inl, inr}
use Rattle.std.proofs.lemmas.Bool.{cases_Bool}
use Rattle.std.proofs.lemmas.Bool.Decides.{nat_tests}
use Rattle.std.specs.List.{filter, find}
use Rattle.std.specs.Option.{option_map}
use Rattle.mam_archive.specs.Entries.{EntryView, entry_numbered}
use Rattle.base_lemmas.proofs.Bytes.{same-from_bytes_eq}
use Rattle.mam_pages.proofs.Placed.{FollowOn}
use Rattle.mam_archive.specs.Peers.{is_with, next_of, peer_of}
use Rattle.mam_pages.specs.Spans.{number_of_entry}
use Rattle.mam_pages.specs.Walks.{head_number}

-- the numbers go up, the first from above n
abbrev pub Ascend : ℕ → List EntryView → Type 0
Ascend n [] = Unit {0}
Ascend n (e ∷ es) = (n < e.number) × Ascend e.number es

ascend_weaken : (m n : ℕ) (es : List EntryView) → m ≤ n → Ascend n es → Ascend m es
ascend_weaken m n [] le up = tt
ascend_weaken m n (e ∷ es) le up = (omega (arith, up.0), up.1)

pub ascend_follow : (n : ℕ) (es : List EntryView) → FollowOn n es → Ascend n es
ascend_follow n [] follow = tt
ascend_follow n (e ∷ es) follow = (omega (arith, follow.0), rw follow.0 (ascend_follow (suc n) es follow.1))

pub ascend_filter : (p : EntryView → Bool) (n : ℕ) (es : List EntryView) → Ascend n es → Ascend n (filter p es)
ascend_filter p n [] up = tt
ascend_filter p n (e ∷ es) up =
    let rest : Ascend e.number (filter p es) = ascend_filter p e.number es up.1 in
    elim (cases_Bool (p e)) [
      | inl holds ↦ rw holds (up.0, rest)
      | inr fails ↦ rw fails (ascend_weaken n e.number (filter p es) (omega (arith, up.0)) rest)
    ]

-- an entry that is left by a test passes it and is above what all are above
record Kept_by (p : EntryView → Bool) (n : ℕ) (e : EntryView) : Type 0 where
  above : n < e.number
  passes : p e ≡ true

no_parts : (before : List EntryView) (e : EntryView) (rest : List EntryView) → [] ≡ before ++ e ∷ rest → ⊥
no_parts [] e rest is = grind (arith, is)
no_parts (b ∷ before) e rest is = grind (arith, is)

-- what stands among rising entries is above what all are above
pub among : (n : ℕ) (before : List EntryView) (e : EntryView) (rest : List EntryView) → Ascend n (before ++ e ∷ rest) → n < e.number
among n [] e rest up = up.0
among n (b ∷ before) e rest up = let above = among b.number before e rest up.1 in omega (arith, up.0, above)

pub left_passes : (p : EntryView → Bool) (es before : List EntryView) (e : EntryView) (rest : List EntryView) → filter p es ≡ before ++ e ∷ rest → p e ≡ true
left_passes p [] before e rest is = absurd (no_parts before e rest is)
left_passes p (x ∷ xs) before e rest is =
    elim (cases_Bool (p x)) [
      | inl holds ↦ first before (left_passes p xs) holds (rw holds at is)
      | inr fails ↦ left_passes p xs before e rest (rw fails at is)
    ]
  where
    first : (bs : List EntryView) → ((cs : List EntryView) (d : EntryView) (ds : List EntryView) → filter p xs ≡ cs ++ d ∷ ds → p d ≡ true) →
        p x ≡ true → x ∷ filter p xs ≡ bs ++ e ∷ rest → p e ≡ true
    first [] later holds is = let same : x ≡ e = grind (arith, is) in rw (← same) holds
    first (b ∷ bs) later holds is = later bs e rest (grind (arith, is))

-- the entry with the number of one that is left by a test is that one
numbered_step : (p : EntryView → Bool) (x : EntryView) (xs bs : List EntryView) (e : EntryView) (rest : List EntryView) →
    Ascend x.number (filter p xs) → ((cs : List EntryView) → filter p xs ≡ cs ++ e ∷ rest → entry_numbered e.number xs ≡ Some e) →
    x ∷ filter p xs ≡ bs ++ e ∷ rest → entry_numbered e.number (x ∷ xs) ≡ Some e
numbered_step p x xs [] e rest up later is =
    let same : x ≡ e = grind (arith, is) in
    let here : eqb x.number e.number ≡ true = rw same (grind (arith, nat_tests)) in
    rw here (ap Some same)
numbered_step p x xs (b ∷ bs) e rest up later is =
    let tail : filter p xs ≡ bs ++ e ∷ rest = grind (arith, is) in
    let above : x.number < e.number = among x.number bs e rest (rw tail at up) in
    let here : eqb x.number e.number ≡ false = grind (arith, nat_tests, above) in
    rw here (later bs tail)

pub numbered_left : (p : EntryView → Bool) (n : ℕ) (es before : List EntryView) (e : EntryView) (rest : List EntryView) → Ascend n es →
    filter p es ≡ before ++ e ∷ rest → entry_numbered e.number es ≡ Some e
numbered_left p n [] before e rest up is = absurd (no_parts before e rest is)
numbered_left p n (x ∷ xs) before e rest up is =
    let up_left : Ascend x.number (filter p xs) = ascend_filter p x.number xs up.1 in
    elim (cases_Bool (p x)) [
      | inl holds ↦ numbered_step p x xs before e rest up_left (λ cs tail. numbered_left p x.number xs cs e rest up.1 tail) (rw holds at is)
      | inr fails ↦
          let tail : filter p xs ≡ before ++ e ∷ rest = rw fails at is in
          let above : x.number < e.number = among x.number before e rest (rw tail at up_left) in
          let here : eqb x.number e.number ≡ false = grind (arith, nat_tests, above) in
          rw here (numbered_left p x.number xs before e rest up.1 tail)
    ]

-- a search by two tests searches what the one leaves
find_both : (q p : EntryView → Bool) (es : List EntryView) → find (λ e. q e && p e) es ≡ find q (filter p es)
find_both q p [] = refl
find_both q p (e ∷ es) =
    elim (cases_Bool (p e)) [
      | inl holds ↦
          elim (cases_Bool (q e)) [
            | inl found ↦ rw (holds, found)
            | inr passed ↦ rw (holds, passed) (find_both q p es)
          ]
      | inr fails ↦
          elim (cases_Bool (q e)) [
            | inl found ↦ rw (fails, found) (find_both q p es)
            | inr passed ↦ rw (fails, passed) (find_both q p es)
          ]
    ]

abbrev number_found : Option EntryView → Option ℕ
number_found found = option_map number_of_entry found

-- the first above the number of one of rising entries is the one behind it
find_after : (n : ℕ) (before : List EntryView) (e : EntryView) (rest : List EntryView) → Ascend n (before ++ e ∷ rest) →
    number_found (find (λ f. ltb e.number f.number) (before ++ e ∷ rest)) ≡ head_number rest
find_after n [] e [] up = let here : ltb e.number e.number ≡ false = grind (arith, nat_tests) in rw here
find_after n [] e (f ∷ rest) up =
    let here : ltb e.number e.number ≡ false = grind (arith, nat_tests) in
    let next : ltb e.number f.number ≡ true = grind (arith, nat_tests, up.1.0) in
    rw (here, next)
find_after n (b ∷ before) e rest up =
    let above : b.number < e.number = among b.number before e rest up.1 in
    let here : ltb e.number b.number ≡ false = grind (arith, nat_tests, above) in
    rw here (find_after b.number before e rest up.1)

pub find_head : (p : EntryView → Bool) (es : List EntryView) → number_found (find p es) ≡ head_number (filter p es)
find_head p [] = refl
find_head p (e ∷ es) =
    elim (cases_Bool (p e)) [
      | inl holds ↦ rw holds
      | inr fails ↦ rw fails (find_head p es)
    ]

-- the next one with the peer of an entry
pub next_in_chain : (owner peer : List ℕ) (n : ℕ) (es before : List EntryView) (e : EntryView) (rest : List EntryView) → Ascend n es →
    filter (is_with owner peer) es ≡ before ++ e ∷ rest → next_of owner e.number es ≡ head_number rest
next_in_chain owner peer n es before e rest up is =
    let there : entry_numbered e.number es ≡ Some e = numbered_left (is_with owner peer) n es before e rest up is in
    let same : peer_of owner e ≡ peer = same-from_bytes_eq (peer_of owner e) peer (left_passes (is_with owner peer) es before e rest is) in
    let next : number_found (find (λ f. ltb e.number f.number && is_with owner peer f) es) ≡ head_number rest =
    ap number_found (find_both (λ f. ltb e.number f.number) (is_with owner peer) es ∙ ap (find (λ f. ltb e.number f.number)) is)
    ∙ find_after n before e rest (rw (← is) (ascend_filter (is_with owner peer) n es up)) in
    rw (there, same) next

-- a test that another implies leaves the same behind it
pub filter_implied : (w p : EntryView → Bool) (es : List EntryView) → ((e : EntryView) → w e ≡ true → p e ≡ true) → filter w (filter p es) ≡ filter w es
filter_implied w p [] implies = refl
filter_implied w p (e ∷ es) implies =
    let rest = filter_implied w p es implies in
    elim (cases_Bool (w e)) [
      | inl holds ↦ let passes : p e ≡ true = implies e holds in rw (passes, holds) (ap (λ t. e ∷ t) rest)
      | inr fails ↦
          elim (cases_Bool (p e)) [
            | inl passes ↦ rw (passes, fails) rest
            | inr drops ↦ rw (drops, fails) rest
          ]
    ]
