-- The whole list, walked by numbers.
use Rattle.std.proofs.Common.{◌≡◌, ℕ, zero, suc, ◌+◌, ◌<◌, true, false, List, [], ◌∷◌, ◌++◌, Some, length, take, eqb, refl, ap, ◌∙◌, arith}
use Rattle.std.proofs.lemmas.Bool.Decides.{nat_tests}
use Rattle.mam_archive.specs.Entries.{EntryView, entry_numbered}
use Rattle.mam_pages.proofs.Placed.{FollowOn}

-- the entry at a place
pub record IsListed (b at : ℕ) (es : List EntryView) : Type 0 where
  pub entry : EntryView
  pub there : entry_numbered (b + at + 1) es ≡ Some entry
  pub is : entry.number ≡ b + at + 1
  pub more : take (at + 1) es ≡ take at es ++ entry ∷ []

pub listed : (b at : ℕ) (es : List EntryView) → FollowOn b es → at < length es → IsListed b at es
listed b at [] follow within = absurd (omega arith)
listed b zero (e ∷ es) follow within =
    let is : e.number ≡ b + zero + 1 = omega (arith, follow.0) in
    let here : eqb e.number (b + zero + 1) ≡ true = grind (arith, nat_tests, is) in
    record { entry = e; there = rw here; is = is; more = refl }
listed b (suc i) (e ∷ es) follow within =
    let rest = listed (suc b) i es follow.1 (omega arith) in
    let number : b + suc i + 1 ≡ suc b + i + 1 = omega arith in
    let skip : eqb e.number (suc b + i + 1) ≡ false = grind (arith, nat_tests, follow.0) in
    let one : suc i + 1 ≡ suc (i + 1) = omega arith in
    record {
      entry = rest.entry;
      there = ap (λ n. entry_numbered n (e ∷ es)) number ∙ rw skip rest.there;
      is = rw number rest.is;
      more = rw one (ap (λ t. e ∷ t) rest.more);
    }
