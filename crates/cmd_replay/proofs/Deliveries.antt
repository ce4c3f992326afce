-- A take adds an entry to the archives that it concerns, which stand at the places of two names.
use Rattle.std.proofs.Common.{◌≡◌, ◌≢◌, ℕ, zero, suc, ◌+◌, ◌-◌, ◌<◌, ◌≤◌, Bool, true, false, cond, eqb, ◌||◌, List, [], ◌∷◌, ◌++◌, Option, Some, None, is_some, length, drop, get_or, map, refl, sym, ap, ◌∙◌, subst, arith, inl, inr}
use Rattle.std.proofs.lemmas.Bool.{cases_eq, cases_lt, eq-eqb, eqb-true, false_from_ne_true, false≢true, ne_eqb}
use Rattle.std.proofs.lemmas.List.{drop-drop, get_or-map, get_or_append_left, get_or_push, length-drop, length-map, length_push, same_lists}
use Rattle.std.proofs.lemmas.Option.{get_or_from_slice_get, same_Some, slice_get-get_or, slice_get_within}
use Rattle.std.proofs.lemmas.Slice.Eq.{bytes_eq-Decides}
use Rattle.std.specs.List.{slice_get}
use Rattle.std.specs.Option.{IfSome}
use Rattle.std.specs.Str.{bytes_eq}
use Rattle.mam_archive.proofs.Newest.{newest-push}
use Rattle.mam_archive.specs.Entries.{EntryView, newest, numbered}
use Rattle.cmd_replay.proofs.HomeLists.{appended_length}
use Rattle.base_io.proofs.NamePositions.{is_some-position_of, position_of-push, stands_there}
use Rattle.cmd_report.proofs.TakenArchives.{archive_push}
use Rattle.cmd_report.specs.Takes.{Take, archive_of, concerns, entry_of}
use Rattle.base_io.specs.Names.{is_among, position_of}
use Rattle.cmd_replay.specs.Homes.{Home, appended, appended_at, delivered, home_at}
use Rattle.cmd_schedule.specs.Standing.{AreOnce}
use Rattle.base_lemmas.proofs.Bytes.{bytes_eq-from_other}

-- the name stands at its place
pub named_at : (name : List ℕ) (names : List (List ℕ)) (i : ℕ) → position_of name names ≡ Some i → (i < length names) × (slice_get names i ≡ Some name)
named_at name names i is =
    subst (λ (position : Option ℕ). IfSome position (λ j. (j < length names) × (slice_get names j ≡ Some name))) is (stands_there name names)

pub among_placed : (name : List ℕ) (names : List (List ℕ)) (i : ℕ) → position_of name names ≡ Some i → is_among name names ≡ true
among_placed name names i is = sym (is_some-position_of name names) ∙ ap is_some is

pub not_placed : (name : List ℕ) (names : List (List ℕ)) → position_of name names ≡ None → is_among name names ≡ false
not_placed name names is = sym (is_some-position_of name names) ∙ ap is_some is

pub once_among : (names : List (List ℕ)) (k : ℕ) (d : List ℕ) → AreOnce names → k < length names → is_among (get_or names k d) names ≡ true
once_among names k d once within = among_placed (get_or names k d) names k (once.first k (get_or names k d) (slice_get-get_or names k d within))

-- a name at another place is another name
pub names_apart : (names : List (List ℕ)) (k i : ℕ) (name d : List ℕ) → AreOnce names → k < length names → position_of name names ≡ Some i → k ≢ i →
    get_or names k d ≢ name
names_apart names k i name d once within is apart same =
    let here : position_of (get_or names k d) names ≡ Some k = once.first k (get_or names k d) (slice_get-get_or names k d within) in
    apart (same_Some k i (sym here ∙ ap (λ n. position_of n names) same ∙ is))

-- whether a name stands at a place is whether the place is its own
pub position_test : (names : List (List ℕ)) (k i : ℕ) (name d : List ℕ) → AreOnce names → k < length names → position_of name names ≡ Some i →
    bytes_eq (get_or names k d) name ≡ eqb k i
position_test names k i name d once within is =
    elim (cases_eq k i) [
      | inl same ↦
          let there : get_or names k d ≡ name = ap (λ j. get_or names j d) same ∙ get_or_from_slice_get names i name d (named_at name names i is).1 in
          (bytes_eq-Decides (get_or names k d) name).1 there ∙ sym (eq-eqb k i same)
      | inr apart ↦ bytes_eq-from_other (get_or names k d) name (names_apart names k i name d once within is apart) ∙ sym (ne_eqb k i apart)
    ]

-- a name more
pub once_push : (names : List (List ℕ)) (name : List ℕ) → AreOnce names → is_among name names ≡ false → AreOnce (names ++ name ∷ [])
once_push names name once new = record { first = first }
  where
    first : (k : ℕ) (other : List ℕ) → slice_get (names ++ name ∷ []) k ≡ Some other → position_of other (names ++ name ∷ []) ≡ Some k
    first k other is =
        let within : k < length (names ++ name ∷ []) = slice_get_within (names ++ name ∷ []) k other is in
        let at : get_or (names ++ name ∷ []) k other ≡ other = get_or_from_slice_get (names ++ name ∷ []) k other other is in
        elim (cases_lt k (length names)) [
          | inl front ↦
              let here : slice_get names k ≡ Some other =
              slice_get-get_or names k other front ∙ ap Some (sym (get_or_append_left names (name ∷ []) other k front) ∙ at) in
              let position : position_of other names ≡ Some k = once.first k other here in
              let apart : bytes_eq name other ≡ false = false_from_ne_true (bytes_eq name other) (λ same.
              false≢true (sym new ∙ ap (λ n. is_among n names) ((bytes_eq-Decides name other).0 same) ∙ among_placed other names k position)) in
              position_of-push name names new other ∙ ap (λ b. cond b (Some (length names)) (position_of other names)) apart ∙ position
          | inr past ↦
              let last : length names ≡ k = omega (arith, length_push names name) in
              let same : name ≡ other = sym (get_or_push names name other k last) ∙ at in
              position_of-push name names new other
              ∙ ap (λ b. cond b (Some (length names)) (position_of other names)) ((bytes_eq-Decides name other).1 same)
              ∙ ap Some last
        ]

-- what stands at a place after an entry was added at one
pub appended_get : (keep : ℕ) (homes : List Home) (i k : ℕ) (entry : EntryView) (d : Home) → k < length homes →
    get_or (appended_at keep i entry homes) k d ≡ cond (eqb k i) (appended keep entry (get_or homes k d)) (get_or homes k d)
appended_get keep [] i k entry d within = absurd (omega arith)
appended_get keep (h ∷ homes) zero zero entry d within = refl
appended_get keep (h ∷ homes) zero (suc k) entry d within = ap (λ b. cond b (appended keep entry (get_or homes k d)) (get_or homes k d)) (sym (ne_eqb (suc k) 0 (λ (e : suc k ≡ 0). omega arith)))
appended_get keep (h ∷ homes) (suc i) zero entry d within = ap (λ b. cond b (appended keep entry h) h) (sym (ne_eqb 0 (suc i) (λ (e : 0 ≡ suc i). omega arith)))
appended_get keep (h ∷ homes) (suc i) (suc k) entry d within =
    appended_get keep homes i k entry d (omega arith)
    ∙ ap (λ b. cond b (appended keep entry (get_or homes k d)) (get_or homes k d)) (shifted k i)
  where
    shifted : (k i : ℕ) → eqb k i ≡ eqb (suc k) (suc i)
    shifted k i = elim (cases_eq k i) [
      | inl same ↦ eq-eqb k i same ∙ sym (eq-eqb (suc k) (suc i) (ap suc same))
      | inr apart ↦ ne_eqb k i apart ∙ sym (ne_eqb (suc k) (suc i) (λ (e : suc k ≡ suc i). apart (omega arith)))
    ]

-- the newest of what was kept and one more
newest_again : (keep : ℕ) (xs : List EntryView) (x : EntryView) → 1 ≤ keep → newest keep (newest keep xs ++ x ∷ []) ≡ newest keep (xs ++ x ∷ [])
newest_again keep xs x some =
    newest-push keep (newest keep xs) x some
    ∙ ap (λ t. t ++ x ∷ []) fewer
    ∙ sym (newest-push keep xs x some)
  where
    size : length (drop (length xs - keep) xs) ≡ length xs - (length xs - keep)
    size = length-drop (length xs - keep) xs

    fewer : newest (keep - 1) (newest keep xs) ≡ newest (keep - 1) xs
    fewer = drop-drop (length (newest keep xs) - (keep - 1)) (length xs - keep) xs
        ∙ ap (λ n. drop n xs) {x = length xs - keep + (length (newest keep xs) - (keep - 1))} {y = length xs - (keep - 1)} (omega (arith, size))

abbrev home_with : List ℕ → ℕ → List EntryView → Home
home_with name last entries = record { name = name; last = last; entries = entries }

home_push : (keep : ℕ) (name : List ℕ) (takes : List Take) (take : Take) → 1 ≤ keep →
    home_at keep (takes ++ take ∷ []) name ≡ cond (concerns name take) (appended keep (entry_of take) (home_at keep takes name)) (home_at keep takes name)
home_push keep name takes take some =
    ap (λ entries. home_with name (length entries) (newest keep entries)) (archive_push name takes take)
    ∙ go (concerns name take)
  where
    history : List EntryView
    history = archive_of name takes

    more : EntryView
    more = numbered (length (archive_of name takes) + 1) (entry_of take)

    go : (hit : Bool) →
        home_with name (length (cond hit (archive_of name takes ++ numbered (length (archive_of name takes) + 1) (entry_of take) ∷ []) (archive_of name takes)))
        (newest keep (cond hit (archive_of name takes ++ numbered (length (archive_of name takes) + 1) (entry_of take) ∷ []) (archive_of name takes)))
        ≡ cond hit (appended keep (entry_of take) (home_at keep takes name)) (home_at keep takes name)
    go true =
        ap (λ n. home_with name n (newest keep (archive_of name takes ++ numbered (length (archive_of name takes) + 1) (entry_of take) ∷ [])))
        (length_push (archive_of name takes) (numbered (length (archive_of name takes) + 1) (entry_of take)))
        ∙ ap (home_with name (length (archive_of name takes) + 1)) (sym (newest_again keep (archive_of name takes) (numbered (length (archive_of name takes) + 1) (entry_of take)) some))
    go false = refl

-- two tests that aren't both true, and one after the other
either : {X : Type 0} (f : X → X) (x : X) (a b : Bool) → (a ≡ true → b ≡ true → a ≡ false) → cond b (f (cond a (f x) x)) (cond a (f x) x) ≡ cond (a || b) (f x) x
either f x true true apart = absurd (false≢true (sym (apart refl refl)))
either f x true false apart = refl
either f x false true apart = refl
either f x false false apart = refl

once_or : {X : Type 0} (a b : Bool) (x y : X) → b ≡ a → cond a x y ≡ cond (a || b) x y
once_or true b x y same = refl
once_or false b x y same = rw same refl

-- the accounts after one take more
pub delivered_takes : (keep : ℕ) (accounts : List (List ℕ)) (takes : List Take) (take : Take) (from to : ℕ) → 1 ≤ keep → AreOnce accounts →
    position_of take.account accounts ≡ Some from → position_of take.to accounts ≡ Some to →
    delivered keep from to (entry_of take) (map (home_at keep takes) accounts) ≡ map (home_at keep (takes ++ take ∷ [])) accounts
delivered_takes keep accounts takes take from to some once sender recipient =
    elim (cases_eq from to) [
      | inl same ↦
          ap (λ b. cond b (appended_at keep from (entry_of take) homes) (appended_at keep to (entry_of take) (appended_at keep from (entry_of take) homes))) (eq-eqb from to same)
          ∙ same_lists (appended_at keep from (entry_of take) homes) (map (home_at keep (takes ++ take ∷ [])) accounts)
          (appended_length keep homes from (entry_of take) ∙ length-map accounts (home_at keep takes) ∙ sym (length-map accounts (home_at keep (takes ++ take ∷ []))))
          (λ k d within.
          let inside : k < length accounts = omega (arith, appended_length keep homes from (entry_of take), length-map accounts (home_at keep takes)) in
          appended_get keep homes from k (entry_of take) d (omega (arith, length-map accounts (home_at keep takes)))
          ∙ ap (λ h. cond (eqb k from) (appended keep (entry_of take) h) h) (get_or-map (home_at keep takes) accounts k [] d inside)
          ∙ once_or (eqb k from) (eqb k to) (appended keep (entry_of take) (home_at keep takes (get_or accounts k []))) (home_at keep takes (get_or accounts k [])) (ap (eqb k) (sym same))
          ∙ ends k d inside)
      | inr apart ↦
          ap (λ b. cond b (appended_at keep from (entry_of take) homes) (appended_at keep to (entry_of take) (appended_at keep from (entry_of take) homes))) (ne_eqb from to apart)
          ∙ same_lists (appended_at keep to (entry_of take) (appended_at keep from (entry_of take) homes)) (map (home_at keep (takes ++ take ∷ [])) accounts)
          (appended_length keep (appended_at keep from (entry_of take) homes) to (entry_of take) ∙ appended_length keep homes from (entry_of take) ∙ length-map accounts (home_at keep takes) ∙ sym (length-map accounts (home_at keep (takes ++ take ∷ []))))
          (λ k d within.
          let inside : k < length accounts = omega (arith, appended_length keep (appended_at keep from (entry_of take) homes) to (entry_of take), appended_length keep homes from (entry_of take), length-map accounts (home_at keep takes)) in
          let held : k < length homes = omega (arith, length-map accounts (home_at keep takes)) in
          appended_get keep (appended_at keep from (entry_of take) homes) to k (entry_of take) d (omega (arith, appended_length keep homes from (entry_of take)))
          ∙ ap (λ h. cond (eqb k to) (appended keep (entry_of take) h) h)
          (appended_get keep homes from k (entry_of take) d held
          ∙ ap (λ h. cond (eqb k from) (appended keep (entry_of take) h) h) (get_or-map (home_at keep takes) accounts k [] d inside))
          ∙ either (appended keep (entry_of take)) (home_at keep takes (get_or accounts k [])) (eqb k from) (eqb k to)
          (λ a b. absurd (apart (sym (eqb-true k from a) ∙ eqb-true k to b)))
          ∙ ends k d inside)
    ]
  where
    homes : List Home
    homes = map (home_at keep takes) accounts

    ends : (k : ℕ) (d : Home) → k < length accounts →
        cond (eqb k from || eqb k to) (appended keep (entry_of take) (home_at keep takes (get_or accounts k []))) (home_at keep takes (get_or accounts k []))
        ≡ get_or (map (home_at keep (takes ++ take ∷ [])) accounts) k d
    ends k d inside =
        ap (λ b. cond (b || eqb k to) (appended keep (entry_of take) (home_at keep takes (get_or accounts k []))) (home_at keep takes (get_or accounts k [])))
        (sym (position_test accounts k from take.account [] once inside sender))
        ∙ ap (λ b. cond (bytes_eq (get_or accounts k []) take.account || b) (appended keep (entry_of take) (home_at keep takes (get_or accounts k []))) (home_at keep takes (get_or accounts k [])))
        (sym (position_test accounts k to take.to [] once inside recipient))
        ∙ sym (home_push keep (get_or accounts k []) takes take some)
        ∙ sym (get_or-map (home_at keep (takes ++ take ∷ [])) accounts k [] d inside)
