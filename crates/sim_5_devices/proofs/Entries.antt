-- The entries with numbers, and their ids.
use Rattle.std.proofs.Common.{◌≡◌, ℕ, suc, ◌<◌, ◌^◌, ◌==◌, ◌||◌, List, [], ◌∷◌, ◌++◌, Some, map, length, refl, sym, ap, ap₂, ◌∙◌}
use Rattle.std.proofs.lemmas.Bool.Decides.{Decides-eqb, same_from_decides}
use Rattle.std.proofs.lemmas.List.{map-append}
use Rattle.std.proofs.lemmas.List.Elements.{filter_map-append}
use Rattle.std.proofs.lemmas.Slice.Eq.{bytes_eq-Decides}
use Rattle.std.specs.List.{AllByRecursion, list_any}
use Rattle.std.specs.Option.{option_map}
use Rattle.std.specs.Str.{bytes_eq}
use Rattle.mam_archive.proofs.IdDigits.{id_of_same}
use Rattle.mam_archive.specs.Entries.{EntryView, entry_numbered}
use Rattle.mam_archive.specs.Ids.{id_of}
use Rattle.cmd_direct.specs.Direct.{as_logged}
use Rattle.mam_log.specs.LogPages.{ids_of, last_id}
use Rattle.mam_log.specs.declared.log_entry.LogEntry.{LogEntry}
use Rattle.sim_5_devices.specs.Shown.{AreGiven, IsGiven}
use Rattle.sim_1_applications.specs.Answers.{last_in}
use Rattle.sim_1_applications.specs.Events.{is_number_among}
use Rattle.sim_1_applications.specs.Reported.{entries_at}

abbrev pub logged_at : List EntryView → List ℕ → List LogEntry
logged_at history ns = map as_logged (entries_at history ns)

-- one number more in front
pub at_first : (history : List EntryView) (n : ℕ) (ns : List ℕ) (g : IsGiven history n) → entries_at history (n ∷ ns) ≡ g.entry ∷ entries_at history ns
at_first history n ns g = rw g.there refl

pub at_both : (history : List EntryView) (ms ns : List ℕ) → logged_at history (ms ++ ns) ≡ logged_at history ms ++ logged_at history ns
at_both history ms ns = ap (map as_logged) (filter_map-append (λ n. entry_numbered n history) ms ns) ∙ map-append as_logged (entries_at history ms) (entries_at history ns)

pub length_at : (history : List EntryView) (ns : List ℕ) → AreGiven history ns → length (logged_at history ns) ≡ length ns
length_at history [] g = refl
length_at history (n ∷ ns) g = ap (λ es. length (map as_logged es)) (at_first history n ns g.0) ∙ ap (λ k. suc k) (length_at history ns g.1)

pub ids_at : (history : List EntryView) (ns : List ℕ) → AreGiven history ns → ids_of (logged_at history ns) ≡ map id_of ns
ids_at history [] g = refl
ids_at history (n ∷ ns) g = ap (λ es. ids_of (map as_logged es)) (at_first history n ns g.0) ∙ ap₂ (λ k ids. id_of k ∷ ids) g.0.number (ids_at history ns g.1)

pub last_at : (history : List EntryView) (ns : List ℕ) → AreGiven history ns → last_id (logged_at history ns) ≡ option_map id_of (last_in ns)
last_at history [] g = refl
last_at history (n ∷ []) g = ap (λ es. last_id (map as_logged es)) (at_first history n [] g.0) ∙ ap (λ k. Some (id_of k)) g.0.number
last_at history (n ∷ m ∷ ns) g =
    ap (λ es. last_id (map as_logged es)) (at_first history n (m ∷ ns) g.0)
    ∙ ap (λ es. last_id (as_logged g.0.entry ∷ map as_logged es)) (at_first history m ns g.1.0)
    ∙ ap (λ es. last_id (map as_logged es)) (sym (at_first history m ns g.1.0))
    ∙ last_at history (m ∷ ns) g.1

-- ---- ids of numbers

-- no two numbers have one id
pub same_ids : (m n : ℕ) → m < 2 ^ 64 → n < 2 ^ 64 → bytes_eq (id_of m) (id_of n) ≡ (m == n)
same_ids m n few less =
    same_from_decides (bytes_eq (id_of m) (id_of n)) (m == n) (bytes_eq-Decides (id_of m) (id_of n))
    ((λ same. ap id_of ((Decides-eqb m n).0 same)), (λ same. (Decides-eqb m n).1 (id_of_same m n few less same)))

pub among_ids : (n : ℕ) (ns : List ℕ) → n < 2 ^ 64 → AllByRecursion (λ m. m < 2 ^ 64) ns → list_any (λ other. bytes_eq (id_of n) other) (map id_of ns) ≡ is_number_among n ns
among_ids n [] few small = refl
among_ids n (m ∷ ns) few small = ap₂ (λ a b. a || b) (same_ids n m few small.0) (among_ids n ns few small.1)
