-- A8: the pages cut the log.
use Rattle.std.proofs.Common.{◌≡◌, ℕ, suc, zero, ◌+◌, ◌-◌, ◌<◌, ◌≤◌, max, min, Bool, true, false, cond, List, [], ◌∷◌, ◌++◌, Option, Some, None, length, refl, sym, ap, ◌∙◌, subst, arith, append_assoc, inl, inr}
use Rattle.std.specs.List.{flat_map}
use Rattle.std.specs.Option.{option_map_or}
use Rattle.std.specs.Prelude.{nat_le}
use Rattle.std.proofs.lemmas.Bool.{le-leb, leb-true, lt-leb, and_parts}
use Rattle.std.proofs.lemmas.List.{append-nil}
use Rattle.sim_1_applications.specs.Devices.{OpenPage, Answer, Tile, first_of}
use Rattle.sim_1_applications.specs.Answers.{following, last_in, is_position, edge, size}
use Rattle.sim_1_applications.specs.Events.{number_or_none}
use Rattle.sim_1_applications.specs.Events as events
use Rattle.sim_1_applications.specs.Kept.{AreLogged, AreTiles, IsPosition, IsTile, end_of, ends_at, numbers_by, start_of, top_of}
use Rattle.sim_1_applications.proofs.Intervals.{length_after}

-- One page more.

pub tiles_grow : (keep n low high high2 : ℕ) (ts : List Tile) → high ≤ high2 → AreTiles keep n low high ts → AreTiles keep n low high2 ts
tiles_grow keep n low high high2 [] more kept = omega arith
tiles_grow keep n low high high2 (t ∷ ts) more kept = (kept.0, tiles_grow keep (end_of keep n t) t.last high high2 ts more kept.1)

pub tiles_push : (keep n low high high2 : ℕ) (ts : List Tile) (t : Tile) → IsTile keep (ends_at keep n ts) (top_of low ts) t → t.last ≤ high2 → AreTiles keep n low high ts →
    AreTiles keep n low high2 (ts ++ t ∷ [])
tiles_push keep n low high high2 [] t one top kept = (one, top)
tiles_push keep n low high high2 (u ∷ ts) t one top kept = (kept.0, tiles_push keep (end_of keep n u) u.last high high2 ts t one top kept.1)

pub numbers_push : (keep n : ℕ) (ts : List Tile) (t : Tile) →
    numbers_by keep n (ts ++ t ∷ []) ≡ numbers_by keep n ts ++ following (start_of keep (ends_at keep n ts) t) (end_of keep (ends_at keep n ts) t - start_of keep (ends_at keep n ts) t)
numbers_push keep n [] t = append-nil (following (start_of keep n t) (end_of keep n t - start_of keep n t))
numbers_push keep n (u ∷ ts) t =
    let first = following (start_of keep n u) (end_of keep n u - start_of keep n u) in
    let m = ends_at keep (end_of keep n u) ts in
    ap (λ l. first ++ l) (numbers_push keep (end_of keep n u) ts t)
    ∙ sym (append_assoc first (numbers_by keep (end_of keep n u) ts) (following (start_of keep m t) (end_of keep m t - start_of keep m t)))

pub top_push : (low : ℕ) (ts : List Tile) (t : Tile) → top_of low (ts ++ t ∷ []) ≡ t.last
top_push low [] t = refl
top_push low (u ∷ ts) t = top_push u.last ts t

pub top_within : (keep n low high : ℕ) (ts : List Tile) → AreTiles keep n low high ts → top_of low ts ≤ high
top_within keep n low high [] kept = kept
top_within keep n low high (t ∷ ts) kept = top_within keep (end_of keep n t) t.last high ts kept.1

-- The last number.

abbrev last_or : ℕ → List ℕ → ℕ
last_or n [] = n
last_or n (m ∷ ms) = last_or m ms

last_or_append : (n : ℕ) (xs ys : List ℕ) → last_or n (xs ++ ys) ≡ last_or (last_or n xs) ys
last_or_append n [] ys = refl
last_or_append n (x ∷ xs) ys = last_or_append x xs ys

last_or_after : (n s k : ℕ) → last_or n (following s (suc k)) ≡ s + suc k
last_or_after n s zero = omega arith
last_or_after n s (suc k) = last_or_after (suc s) (suc s) k ∙ (let e : suc s + suc k ≡ s + suc (suc k) = omega arith in e)

last_or_none : (xs : List ℕ) → number_or_none (last_in xs) ≡ last_or 0 xs
last_or_none [] = refl
last_or_none (x ∷ []) = refl
last_or_none (x ∷ y ∷ xs) = last_or_none (y ∷ xs)

-- a page goes on from n or further, and not past what the archive had given
pub tile_bounds : (keep n : ℕ) (t : Tile) → 1 ≤ keep → 1 ≤ t.most → n ≤ t.given → (n ≤ start_of keep n t) × (start_of keep n t ≤ end_of keep n t) × (end_of keep n t ≤ t.given)
tile_bounds keep n t some many within = (omega arith, omega arith, omega arith)

tile_last : (keep n : ℕ) (t : Tile) → 1 ≤ keep → 1 ≤ t.most → n ≤ t.given → (k : ℕ) → k ≡ end_of keep n t - start_of keep n t → last_or n (following (start_of keep n t) k) ≡ end_of keep n t
tile_last keep n t some many within zero none = omega arith
tile_last keep n t some many within (suc k) is = let bounds = tile_bounds keep n t some many within in last_or_after n (start_of keep n t) k ∙ added bounds.1 is
  where
    added : {s e j : ℕ} → s ≤ e → j ≡ e - s → s + j ≡ e
    added low is2 = omega arith

pub numbers_last : (keep n low high : ℕ) (ts : List Tile) → 1 ≤ keep → n ≤ low → AreTiles keep n low high ts → (last_or n (numbers_by keep n ts) ≡ ends_at keep n ts) × (ends_at keep n ts ≤ top_of low ts)
numbers_last keep n low high [] some below kept = (refl, below)
numbers_last keep n low high (t ∷ ts) some below kept =
    let tile = kept.0 in
    let within : n ≤ t.given = through below tile.asked tile.answered in
    let bounds = tile_bounds keep n t some tile.some within in
    let rest = numbers_last keep (end_of keep n t) t.last high ts some (both bounds.2 tile.over) kept.1 in (
      last_or_append n (following (start_of keep n t) (end_of keep n t - start_of keep n t)) (numbers_by keep (end_of keep n t) ts)
          ∙ ap (λ m. last_or m (numbers_by keep (end_of keep n t) ts)) (tile_last keep n t some tile.some within (end_of keep n t - start_of keep n t) refl) ∙ rest.0,
      rest.1,
    )
  where
    through : {a b c d : ℕ} → a ≤ b → b ≤ c → c ≤ d → a ≤ d
    through first second third = omega arith

    both : {a b c : ℕ} → a ≤ b → b ≤ c → a ≤ c
    both first second = omega arith

pub log_last : (keep high : ℕ) (ts : List Tile) → 1 ≤ keep → AreTiles keep 0 0 high ts → number_or_none (last_in (numbers_by keep 0 ts)) ≡ ends_at keep 0 ts
log_last keep high ts some kept = last_or_none (numbers_by keep 0 ts) ∙ (numbers_last keep 0 0 high ts some (omega arith) kept).0

-- The tile of a page.

pub last_append : (a : List ℕ) (n : ℕ) (ns : List ℕ) → last_in (a ++ n ∷ ns) ≡ last_in (n ∷ ns)
last_append [] n ns = refl
last_append (x ∷ []) n ns = refl
last_append (x ∷ y ∷ a) n ns = last_append (y ∷ a) n ns

-- the log's last number is that of its last run
pub last_of_log : (first last : ℕ) (broken : List (List ℕ)) (run : List ℕ) → AreLogged first last broken run → last_in (flat_map (λ r. r) broken ++ run) ≡ last_in run
last_of_log first last broken [] known = ap (λ bs. last_in (flat_map (λ r. r) bs ++ [])) (known.none refl)
last_of_log first last broken (n ∷ run) known = last_append (flat_map (λ r. r) broken) n run

-- what is known of the page that is over: behind the log's last number n, and its place
pub record IsEnded (keep n : ℕ) (page : OpenPage) (a : Answer) : Type 0 where
  pub kept : a.first ≡ first_of keep a.last
  pub within : n ≤ a.last
  pub after : page.after ≡ cond (nat_le n (a.last - keep)) None (Some n)
  pub edge_is : edge a.first page.after ≡ max n (a.last - keep)

abbrev ends : ℕ → ℕ → OpenPage → Answer → Type 0
ends keep n page a = (page.after ≡ cond (nat_le n (a.last - keep)) None (Some n)) × (edge a.first page.after ≡ max n (a.last - keep))

-- from the archive's first entry on, where the log's last number was purged
from_first : (keep n : ℕ) (page : OpenPage) (a : Answer) → a.first ≡ first_of keep a.last → page.after ≡ None → n < a.first → ends keep n page a
from_first keep n page a kept none low =
    let purged : nat_le n (a.last - keep) ≡ true = le-leb n (a.last - keep) (omega arith) in
    (none ∙ sym (ap (λ c. cond c None (Some n)) purged), ap (edge a.first) none ∙ (let e : a.first - 1 ≡ max n (a.last - keep) = omega arith in e))

-- behind that number, which was kept
from_last : (keep n : ℕ) (page : OpenPage) (a : Answer) → a.first ≡ first_of keep a.last → page.after ≡ Some n → a.first ≤ n → ends keep n page a
from_last keep n page a kept is low =
    let there : nat_le n (a.last - keep) ≡ false = lt-leb n (a.last - keep) (omega arith) in
    (is ∙ sym (ap (λ c. cond c None (Some n)) there), ap (edge a.first) is ∙ (let e : n ≡ max n (a.last - keep) = omega arith in e))

pub page_ended : (keep n : ℕ) (run : List ℕ) (page : OpenPage) (a : Answer) → n ≡ number_or_none (last_in run) → a.first ≡ first_of keep a.last → IsPosition a.first run page.after →
    is_position a.first a.last page.after ≡ true → n ≤ a.last → IsEnded keep n page a
page_ended keep n run page a last kept position placed within =
    let is : ends keep n page a = elim position.following [ inl e ↦ after_last page.after refl (last_in run) refl e | inr e ↦ let low = e.1 in from_first keep n page a kept e.0 (omega arith) ] in
    record { kept = kept; within = within; after = is.0; edge_is = is.1 }
  where
    after_last : (o : Option ℕ) → page.after ≡ o → (m : Option ℕ) → last_in run ≡ m → page.after ≡ last_in run → ends keep n page a
    after_last None none m at same =
        let nothing : n ≡ 0 = last ∙ ap number_or_none (sym same ∙ none) in
        from_first keep n page a kept none (omega arith)
    after_last (Some p) some m at same =
        let number : p ≡ n = ap number_or_none (sym some ∙ same) ∙ sym last in
        let low : a.first ≤ p = leb-true a.first p ((and_parts (nat_le a.first p) (nat_le p a.last) (ap (is_position a.first a.last) (sym some) ∙ placed)).0) in
        from_last keep n page a kept (some ∙ ap Some number) (omega arith)

counted : (m old last most : ℕ) → m ≤ last → old ≤ last → min most (last - max m old) ≡ min (max m old + most) last - max m old
counted m old last most low high = omega arith

-- A8: the tile that the end of a page lays
pub tile_end : (keep n low : ℕ) (x : events.Around) (page : OpenPage) (a : Answer) → 1 ≤ keep → 1 ≤ page.max → page.answer ≡ Some a → IsEnded keep n page a →
    page.results ≡ following (edge a.first page.after) (size (edge a.first page.after) a.last page.max) → low ≤ page.began → page.began ≤ a.last → a.last ≤ x.last →
    (complete : Bool) → nat_le (a.last - edge a.first page.after) page.max ≡ complete → IsTile keep n low (events.tile x complete (a.last + 1 - a.first) page)
tile_end keep n low x page a some many answer ended results begun began last complete is =
    subst (λ given. IsTile keep n low (with_given given)) (sym given_is) (record {
      after = ended.after;
      count = ap length results ∙ length_after (edge a.first page.after) (size (edge a.first page.after) a.last page.max) ∙ ap (λ e. size e a.last page.max) ended.edge_is
          ∙ counted n (a.last - keep) a.last page.max ended.within (omega arith);
      total = ap (λ c. cond c (Some (a.last + 1 - a.first)) None) (sym is ∙ ap (λ e. nat_le (a.last - e) page.max) ended.edge_is)
          ∙ ap (λ k. cond (nat_le (a.last - max n (a.last - keep)) page.max) (Some k) None) (kept_count ended.kept);
      some = many;
      asked = begun;
      answered = began;
      over = last;
    })
  where
    with_given : ℕ → Tile
    with_given given = record (events.tile x complete (a.last + 1 - a.first) page) { given = given }

    given_is : option_map_or (λ (y : Answer). y.last) page.answer x.last ≡ a.last
    given_is = ap (λ o. option_map_or (λ (y : Answer). y.last) o x.last) answer

    kept_count : a.first ≡ first_of keep a.last → a.last + 1 - a.first ≡ min a.last keep
    kept_count kept = omega arith

-- and the numbers that it brings
pub numbers_end : (keep n : ℕ) (x : events.Around) (complete : Bool) (count : ℕ) (page : OpenPage) (a : Answer) → page.answer ≡ Some a → IsEnded keep n page a →
    page.results ≡ following (edge a.first page.after) (size (edge a.first page.after) a.last page.max) →
    page.results ≡ following (start_of keep n (events.tile x complete count page)) (end_of keep n (events.tile x complete count page) - start_of keep n (events.tile x complete count page))
numbers_end keep n x complete count page a answer ended results =
    results ∙ ap (λ e. following e (size e a.last page.max)) ended.edge_is
    ∙ (let e : size (max n (a.last - keep)) a.last page.max ≡ min (max n (a.last - keep) + page.max) a.last - max n (a.last - keep) = counted n (a.last - keep) a.last page.max ended.within (omega arith) in
    ap (following (max n (a.last - keep))) e)
    ∙ ap (λ g. following (max n (g - keep)) (min (max n (g - keep) + page.max) g - max n (g - keep))) (sym (ap (λ o. option_map_or (λ (y : Answer). y.last) o x.last) answer))
