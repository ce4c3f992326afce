-- Entries of a history that are found by their numbers, and numbers that are known.
use Rattle.std.proofs.Common.{◌≡◌, ℕ, ◌==◌, Bool, true, false, cond, List, [], ◌∷◌, ◌++◌, Option, Some, None, refl, sym, ap, subst, ◌∙◌}
use Rattle.std.proofs.lemmas.Bool.Decides.{Decides-eqb}
use Rattle.std.proofs.lemmas.Option.{none-some, same_Some}
use Rattle.mam_archive.specs.Entries.{EntryView, entry_numbered}
use Rattle.sim_3_items.specs.Meant.{IsEntryNumber}
use Rattle.sim_5_devices.specs.Shown.{AreGiven, ArePageGiven, IsGiven}
use Rattle.sim_1_applications.specs.Devices.{OpenPage}
use Rattle.sim_5_devices.specs.Plain.{IsPlain, IsPlainEntry}

-- it is one of the history, and has the number
pub found_entry : (n : ℕ) (history : List EntryView) → IsPlain history → (e : EntryView) → entry_numbered n history ≡ Some e → IsPlainEntry e × (e.number ≡ n)
found_entry n [] plain e is = absurd (none-some e is)
found_entry n (x ∷ xs) plain e is = by (x.number == n) refl (found_entry n xs plain.1 e) is
  where
    by : (b : Bool) → (x.number == n) ≡ b → (entry_numbered n xs ≡ Some e → IsPlainEntry e × (e.number ≡ n)) → cond b (Some x) (entry_numbered n xs) ≡ Some e → IsPlainEntry e × (e.number ≡ n)
    by true same later found =
        let is_it = same_Some x e found in
        (subst IsPlainEntry is_it plain.0, ap (λ (y : EntryView). y.number) (sym is_it) ∙ (Decides-eqb x.number n).0 same)
    by false other later found = later found

-- a number that is given is one of an entry
pub number_given : (history : List EntryView) → IsPlain history → (n : ℕ) → IsGiven history n → IsEntryNumber n
number_given history plain n given = (let found = found_entry n history plain given.entry given.there in subst IsEntryNumber found.1 found.0.number)

pub both_given : (history : List EntryView) (ms ns : List ℕ) → AreGiven history ms → AreGiven history ns → AreGiven history (ms ++ ns)
both_given history [] ns ms_given ns_given = ns_given
both_given history (m ∷ ms) ns ms_given ns_given = (ms_given.0, both_given history ms ns ms_given.1 ns_given)

-- the results of the page that is open
pub results_given : (history : List EntryView) (o : Option OpenPage) (page : OpenPage) → o ≡ Some page → ArePageGiven history o → AreGiven history page.results
results_given history None page is given = absurd (none-some page is)
results_given history (Some p) page is given = subst (λ (q : OpenPage). AreGiven history q.results) (same_Some p page is) given
