-- What the end of a page is judged by: the last entry, ids that repeat, and that the page goes on.
use Rattle.std.proofs.Common.{◌≡◌, ℕ, zero, suc, ◌+◌, ◌<◌, ◌≤◌, ◌^◌, ◌&&◌, nat_lt, not, Bool, true, false, List, [], ◌∷◌, ◌++◌, Some, None, Ok, length, map, refl, ap, ◌∙◌, arith, inl, inr, ne_eqb}
use Rattle.std.proofs.lemmas.Bool.{cases_Bool}
use Rattle.std.proofs.lemmas.Bool.Decides.{nat_tests}
use Rattle.std.proofs.lemmas.List.{map-append}
use Rattle.std.proofs.lemmas.List.Folds.{list_any-append}
use Rattle.std.specs.List.{list_any}
use Rattle.std.specs.Str.{bytes_eq}
use Rattle.mam_archive.specs.Ids.{id_of}
use Rattle.mam_log.specs.LogPages.{ids_of, last_id}
use Rattle.mam_log.specs.Views.{LogView, OpenPage, advance_of, end_of, first_repeat, is_among, outcome_of, same_id}
use Rattle.mam_log.specs.declared.log_entry.LogEntry.{LogEntry}
use Rattle.mam_pages.specs.Spans.{numbers_after}
use Rattle.mam_pages.specs.declared.fin.Fin.{Fin}
use Rattle.sim_1_applications.specs.Answers.{last_in}
use Rattle.sim_5_devices.proofs.Entries.{same_ids}
pub use Rattle.law_client.proofs.KeptLogs.{fin_is as after_is}
use Rattle.cmd_direct.proofs.NextPages.{same_id-self}

-- ---- ids of numbers behind another

-- a number above them has another id
pub not_among : (k b count : ℕ) → b + count < k → k < 2 ^ 64 → list_any (λ other. bytes_eq (id_of k) other) (map id_of (numbers_after b count)) ≡ false
not_among k b zero above few = refl
not_among k b (suc count) above few =
    let differ : bytes_eq (id_of k) (id_of (suc b)) ≡ false = same_ids k (suc b) few (omega arith) ∙ ne_eqb k (suc b) (λ is. omega (arith, is, above)) in
    let rest : list_any (λ other. bytes_eq (id_of k) other) (map id_of (numbers_after (suc b) count)) ≡ false = not_among k (suc b) count (omega arith) few in
    rw differ rest

-- none of them repeats
pub no_repeat : (known : List (List ℕ)) (b count : ℕ) → b + count < 2 ^ 64 → ((k : ℕ) → b < k → k ≤ b + count → is_among (id_of k) known ≡ false) → first_repeat known (map id_of (numbers_after b count)) ≡ None
no_repeat known b zero few new = refl
no_repeat known b (suc count) few new =
    let first : list_any (λ other. bytes_eq (id_of (suc b)) other) known ≡ false = new (suc b) (omega arith) (omega arith) in
    let rest : first_repeat (known ++ id_of (suc b) ∷ []) (map id_of (numbers_after (suc b) count)) ≡ None =
    no_repeat (known ++ id_of (suc b) ∷ []) (suc b) count (omega arith)
    (λ k above below.
    let differ : bytes_eq (id_of k) (id_of (suc b)) ≡ false = same_ids k (suc b) (omega arith) (omega arith) ∙ ne_eqb k (suc b) (λ is. omega (arith, is, above)) in
    let old : list_any (λ other. bytes_eq (id_of k) other) known ≡ false = new k (omega arith) (omega arith) in
    list_any-append (λ other. bytes_eq (id_of k) other) known (id_of (suc b) ∷ []) ∙ rw (old, differ) refl) in
    rw first rest

-- the entries behind them aren't logged when they are
pub still_unlogged : (entries results : List LogEntry) (b count last : ℕ) → ids_of results ≡ map id_of (numbers_after b count) → last < 2 ^ 64 → ((k : ℕ) → b < k → k ≤ last → is_among (id_of k) (ids_of entries) ≡ false)
    → (k : ℕ) → b + count < k → k ≤ last → is_among (id_of k) (ids_of (entries ++ results)) ≡ false
still_unlogged entries results b count last ids few new k above below =
    let old : list_any (λ other. bytes_eq (id_of k) other) (ids_of entries) ≡ false = new k (omega arith) below in
    let these : list_any (λ other. bytes_eq (id_of k) other) (map id_of (numbers_after b count)) ≡ false = not_among k b count above (omega arith) in
    ap (list_any (λ other. bytes_eq (id_of k) other)) (map-append (λ (e : LogEntry). e.id) entries results ∙ ap (λ x. ids_of entries ++ x) ids)
    ∙ list_any-append (λ other. bytes_eq (id_of k) other) (ids_of entries) (map id_of (numbers_after b count)) ∙ rw (old, these) refl

-- ---- the last one

pub last_after : (b count : ℕ) → last_in (numbers_after b (suc count)) ≡ Some (b + suc count)
last_after b zero = let number : suc b ≡ b + suc zero = omega arith in ap Some number
last_after b (suc count) = let number : suc b + suc count ≡ b + suc (suc count) = omega arith in last_after (suc b) count ∙ ap Some number

pub last_of_both : (es rs : List LogEntry) (id : List ℕ) → last_id rs ≡ Some id → last_id (es ++ rs) ≡ Some id
last_of_both [] rs id is = is
last_of_both (e ∷ []) [] id is = absurd (let no_way : ⊥ = cc in no_way)
last_of_both (e ∷ []) (r ∷ rs) id is = is
last_of_both (e ∷ f ∷ es) rs id is = last_of_both (f ∷ es) rs id is

-- ---- how it is judged

pub end_is_well : (log : LogView) (page : OpenPage) (fin : Fin) (complete : Bool) → fin.complete ≡ complete → fin.last ≡ last_id page.results → first_repeat (ids_of log.entries) (ids_of page.results) ≡ None
    → (nat_lt (length page.results) 1 && not complete) ≡ false → end_of log page fin ≡ Ok (outcome_of complete)
end_is_well log page fin complete whole last none goes =
    let same : same_id fin.last (last_id page.results) ≡ true = ap (λ o. same_id o (last_id page.results)) last ∙ same_id-self (last_id page.results) in
    rw (same, none) (ap (λ c. advance_of c page) whole ∙ rw goes refl)

some_or_whole : (n : ℕ) (complete : Bool) → (complete ≡ false → 1 ≤ n) → (nat_lt n 1 && not complete) ≡ false
some_or_whole n true some = elim (cases_Bool (nat_lt n 1)) [ inl few ↦ rw few refl | inr many ↦ rw many refl ]
some_or_whole n false some = rw (not_few n (some refl)) refl
  where
    not_few : (n : ℕ) → 1 ≤ n → nat_lt n 1 ≡ false
    not_few n low = grind (arith, nat_tests)

pub goes_or_ends : (page : OpenPage) (complete : Bool) (n : ℕ) → length page.results ≡ n → (complete ≡ false → 1 ≤ n) → (nat_lt (length page.results) 1 && not complete) ≡ false
goes_or_ends page complete n size some = ap (λ m. nat_lt m 1 && not complete) size ∙ some_or_whole n complete some
