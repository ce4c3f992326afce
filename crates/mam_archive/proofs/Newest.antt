-- What is kept of a list that grows at its end, and the numbers of what is kept.
use Rattle.std.proofs.Common.{◌≡◌, ℕ, zero, suc, ◌+◌, ◌-◌, ◌<◌, ◌≤◌, List, [], ◌∷◌, ◌++◌, length, drop, refl, arith}
use Rattle.std.proofs.lemmas.List.{drop-append-le, length-drop, length_push}
use Rattle.mam_archive.proofs.NumberedEntries.{FollowFrom, follow_drop, follow_numbered, follow_push, numbered_following}
use Rattle.mam_archive.specs.Entries.{AreKept, AreNumbered, EntryView, newest, numbered}

pub length-newest : {A : Type 0} (keep : ℕ) (xs : List A) → keep ≤ length xs → length (newest keep xs) ≡ keep
length-newest keep xs many = let size = length-drop (length xs - keep) xs in omega arith

-- one more at the end
pub newest-push : {A : Type 0} (keep : ℕ) (xs : List A) (x : A) → 1 ≤ keep → newest keep (xs ++ x ∷ []) ≡ newest (keep - 1) xs ++ x ∷ []
newest-push keep xs x some =
    let size : length (xs ++ x ∷ []) - keep ≡ length xs - (keep - 1) = omega (arith, length_push xs x) in
    rw size (drop-append-le (length xs - (keep - 1)) xs (x ∷ []) (omega arith))

pub newest_few : {A : Type 0} (keep : ℕ) (xs : List A) → length xs ≤ keep → newest keep xs ≡ xs
newest_few keep xs few = let none : length xs - keep ≡ zero = omega arith in rw none refl

-- what is kept once the next entry came
pub kept_more : (keep last next : ℕ) (es front : List EntryView) (e : EntryView) → AreKept keep last es → last < 4294967295 → next ≡ last + 1 → front ≡ newest (keep - 1) es →
    AreKept keep next (front ++ numbered next e ∷ [])
kept_more keep last next es front e known room is cut =
    let over = length es - (keep - 1) in
    let all = follow_numbered last es known.numbers known.within in
    let size : length (drop over es) ≡ length es - over = length-drop over es in
    let follow : FollowFrom (last + 1 - length es + over) (drop over es) = follow_drop over (last + 1 - length es) es all in
    let push : FollowFrom (last + 1 - length es + over) (drop over es ++ numbered next e ∷ []) =
    follow_push (last + 1 - length es + over) next (drop over es) e follow (omega (arith, known.few, known.within)) in
    let whole : length (drop over es ++ numbered next e ∷ []) ≡ length (drop over es) + 1 = length_push (drop over es) (numbered next e) in
    rw cut (record {
      numbers = numbered_following (last + 1 - length es + over) next (drop over es ++ numbered next e ∷ []) push (omega (arith, known.few, known.within));
      some = known.some;
      few = omega (arith, known.few, known.some);
      within = omega (arith, known.within);
      most = omega arith;
      none = λ empty. omega arith;
    })

-- the oldest of too many may go first
pub newest_tail : {A : Type 0} (keep : ℕ) (xs : List A) → keep < length xs → newest keep (drop 1 xs) ≡ newest keep xs
newest_tail keep [] many = absurd (omega arith)
newest_tail keep (x ∷ xs) many = let over : length (x ∷ xs) - keep ≡ suc (length xs - keep) = omega arith in rw over refl

-- what is kept of entries that were kept before
pub kept_again : (keep last : ℕ) (es : List EntryView) → 1 ≤ keep → AreNumbered last es → length es ≤ last → last ≤ 4294967295 → (length es ≡ 0 → last ≡ 0) → AreKept keep last (newest keep es)
kept_again keep last es some known within most none =
    let over = length es - keep in
    let size : length (drop over es) ≡ length es - over = length-drop over es in
    let follow : FollowFrom (last + 1 - length es + over) (drop over es) = follow_drop over (last + 1 - length es) es (follow_numbered last es known within) in
    record {
      numbers = numbered_following (last + 1 - length es + over) last (drop over es) follow (omega (arith, within, some, size));
      some = some;
      few = omega (arith, size);
      within = omega (arith, size, within);
      most = most;
      none = λ empty. none (omega (arith, size, some, empty));
    }
