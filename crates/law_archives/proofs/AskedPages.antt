-- The entries of a page are those that were asked for.
use Rattle.std.proofs.Common.{◌≡◌, ◌↔◌, ℕ, zero, suc, ◌+◌, ◌-◌, ◌≤◌, min, Bool, true, false, ◌&&◌, nat_le, List, [], ◌∷◌, ◌++◌, Option, Some, None, IfSome, MatchBool, length, take, drop, map, refl, sym, ap, ◌∙◌, subst, arith, inl, inr, leb-true, leb-false, le-leb}
use Rattle.std.proofs.lemmas.Bool.{and_parts, cases_Bool}
use Rattle.std.proofs.lemmas.List.{length-drop, length-take, take_all}
use Rattle.std.proofs.lemmas.Option.{none-some, same_Some}
use Rattle.std.proofs.lemmas.Slice.Eq.{bytes_eq-Decides}
use Rattle.std.specs.List.{AllByRecursion, filter}
use Rattle.std.specs.Option.{option_map}
use Rattle.std.specs.Str.{bytes_eq}
use Rattle.mam_archive.specs.Entries.{EntryView, newest}
use Rattle.mam_archive.specs.Peers.{is_with, peer_of}
use Rattle.mam_pages.specs.Cuts.{CutView}
use Rattle.mam_pages.specs.Kept.{Kept}
use Rattle.mam_pages.specs.Matches.{end_passes, is_wanted, matching, stamp_passes, start_passes, with_passes}
use Rattle.mam_pages.specs.PageOf.{candidates, cut_out, entry_of_id, most_of, page_of, portion}
use Rattle.mam_pages.specs.Parties.{is_full, other_party}
use Rattle.mam_pages.specs.declared.query.PageQuery.{PageQuery}
use Rattle.mam_pages.specs.declared.query.PagePosition.{PagePosition}
use Rattle.mam_pages.specs.declared.query.PagePosition.TheVariants.{First, After, Before, Last}
use Rattle.law_archives.specs.Pages.{AreAskedFor, HasAsked, HasFirst, HasLast, IsAskedFor, IsWithPeer, none, one, other}

-- ---- one entry

with_is : (owner peer : List ℕ) (e : EntryView) → with_passes owner (Some peer) e ≡ true → IsWithPeer owner e peer
with_is owner peer e passes =
    elim (cases_Bool (is_full peer)) [
      | inl full ↦ rw full ((bytes_eq-Decides (other_party owner e) peer).0 (rw full at passes))
      | inr bare ↦ rw bare ((bytes_eq-Decides (peer_of owner e) peer).0 (rw bare at passes))
    ]

is_passing : (owner peer : List ℕ) (e : EntryView) → IsWithPeer owner e peer → with_passes owner (Some peer) e ≡ true
is_passing owner peer e is =
    elim (cases_Bool (is_full peer)) [
      | inl full ↦ rw full ((bytes_eq-Decides (other_party owner e) peer).1 (rw full at is))
      | inr bare ↦ rw bare ((bytes_eq-Decides (peer_of owner e) peer).1 (rw bare at is))
    ]

peer_asked : (owner : List ℕ) (peer : Option (List ℕ)) (e : EntryView) → with_passes owner peer e ≡ true → IfSome peer (IsWithPeer owner e)
peer_asked owner None e passes = tt
peer_asked owner (Some peer) e passes = with_is owner peer e passes

peer_passes : (owner : List ℕ) (peer : Option (List ℕ)) (e : EntryView) → IfSome peer (IsWithPeer owner e) → with_passes owner peer e ≡ true
peer_passes owner None e is = refl
peer_passes owner (Some peer) e is = is_passing owner peer e is

start_asked : (start : Option ℕ) (e : EntryView) → start_passes start e ≡ true → IfSome start (λ start. start ≤ e.stamp)
start_asked None e passes = tt
start_asked (Some start) e passes = leb-true start e.stamp passes

start_is : (start : Option ℕ) (e : EntryView) → IfSome start (λ start. start ≤ e.stamp) → start_passes start e ≡ true
start_is None e is = refl
start_is (Some start) e is = le-leb start e.stamp is

end_asked : (end : Option ℕ) (e : EntryView) → end_passes end e ≡ true → IfSome end (λ end. e.stamp ≤ end)
end_asked None e passes = tt
end_asked (Some end) e passes = leb-true e.stamp end passes

end_is : (end : Option ℕ) (e : EntryView) → IfSome end (λ end. e.stamp ≤ end) → end_passes end e ≡ true
end_is None e is = refl
end_is (Some end) e is = le-leb e.stamp end is

asked_for : (owner : List ℕ) (query : PageQuery) (e : EntryView) → is_wanted owner query e ≡ true → IsAskedFor owner query e
asked_for owner query e wanted =
    let outer = and_parts (with_passes owner query.peer e) (stamp_passes query e) wanted in
    let inner = and_parts (start_passes query.start e) (end_passes query.end e) outer.1 in
    record { peer = peer_asked owner query.peer e outer.0; start = start_asked query.start e inner.0; end = end_asked query.end e inner.1 }

wanted_if : (owner : List ℕ) (query : PageQuery) (e : EntryView) → IsAskedFor owner query e → is_wanted owner query e ≡ true
wanted_if owner query e is = rw (peer_passes owner query.peer e is.peer, start_is query.start e is.start, end_is query.end e is.end) refl

not_both : {b : Bool} → b ≡ true → b ≡ false → ⊥
not_both is not = cc (sym is ∙ not)

-- ---- all of them

asked_ones : (owner : List ℕ) (query : PageQuery) (entries : List EntryView) → AllByRecursion (IsAskedFor owner query) (filter (is_wanted owner query) entries)
asked_ones owner query [] = tt
asked_ones owner query (e ∷ entries) =
    elim (cases_Bool (is_wanted owner query e)) [
      | inl wanted ↦ rw wanted (asked_for owner query e wanted, asked_ones owner query entries)
      | inr not ↦ rw not (asked_ones owner query entries)
    ]

are_asked : (owner : List ℕ) (query : PageQuery) (entries : List EntryView) → AreAskedFor owner query (filter (is_wanted owner query) entries) entries
are_asked owner query [] = none
are_asked owner query (e ∷ entries) =
    elim (cases_Bool (is_wanted owner query e)) [
      | inl wanted ↦ rw wanted (one (asked_for owner query e wanted) (are_asked owner query entries))
      | inr not ↦ rw not (other (λ is. not_both (wanted_if owner query e is) not) (are_asked owner query entries))
    ]

-- ---- parts of a list

all_taken : {T : Type 0} (P : T → Type 0) (n : ℕ) (ts : List T) → AllByRecursion P ts → AllByRecursion P (take n ts)
all_taken P zero ts all = tt
all_taken P (suc n) [] all = tt
all_taken P (suc n) (t ∷ ts) all = (all.0, all_taken P n ts all.1)

all_dropped : {T : Type 0} (P : T → Type 0) (n : ℕ) (ts : List T) → AllByRecursion P ts → AllByRecursion P (drop n ts)
all_dropped P zero ts all = all
all_dropped P (suc n) [] all = tt
all_dropped P (suc n) (t ∷ ts) all = all_dropped P n ts all.1

all_filtered : {T : Type 0} (P : T → Type 0) (p : T → Bool) (ts : List T) → AllByRecursion P ts → AllByRecursion P (filter p ts)
all_filtered P p [] all = tt
all_filtered P p (t ∷ ts) all =
    elim (cases_Bool (p t)) [ inl stays ↦ rw stays (all.0, all_filtered P p ts all.1) | inr goes ↦ rw goes (all_filtered P p ts all.1) ]

parts : {T : Type 0} (n : ℕ) (ts : List T) → ts ≡ take n ts ++ drop n ts
parts zero ts = refl
parts (suc n) [] = refl
parts (suc n) (t ∷ ts) = ap (λ rest. t ∷ rest) (parts n ts)

no_rest : {T : Type 0} (ts : List T) → length ts ≡ 0 → ts ≡ []
no_rest [] size = refl
no_rest (t ∷ ts) size = absurd (omega (arith, size))

-- ---- the page

all_portion : (P : EntryView → Type 0) (position : PagePosition) (most : ℕ) (found : List EntryView) → AllByRecursion P found → AllByRecursion P (portion position most found)
all_portion P First most found all = all_taken P most found all
all_portion P (After id) most found all = all_taken P most found all
all_portion P (Before id) most found all = all_dropped P (length found - most) found all
all_portion P Last most found all = all_dropped P (length found - most) found all

portion_few : (position : PagePosition) (most : ℕ) (found : List EntryView) → length (portion position most found) ≤ most
portion_few First most found = let size = length-take most found in omega (arith, size)
portion_few (After id) most found = let size = length-take most found in omega (arith, size)
portion_few (Before id) most found = let size = length-drop (length found - most) found in omega (arith, size)
portion_few Last most found = let size = length-drop (length found - most) found in omega (arith, size)

most_few : (max : Option ℕ) (n : ℕ) → n ≤ most_of max → IfSome max (λ max. n ≤ max)
most_few None n few = tt
most_few (Some max) n few = omega (arith, few)

most_bounded : (max : Option ℕ) (n : ℕ) → n ≤ most_of max → n ≤ 100
most_bounded None n few = few
most_bounded (Some max) n few = omega (arith, few)

-- candidates are among the entries that match
abbrev AllCandidates : (EntryView → Type 0) → Option (List EntryView) → Type 0
AllCandidates P None = Unit {0}
AllCandidates P (Some found) = AllByRecursion P found

all_mapped : (P : EntryView → Type 0) (f : EntryView → List EntryView) → ((e : EntryView) → AllByRecursion P (f e)) → (o : Option EntryView) → AllCandidates P (option_map f o)
all_mapped P f each None = tt
all_mapped P f each (Some e) = each e

all_candidates : (P : EntryView → Type 0) (position : PagePosition) (entries matches : List EntryView) → AllByRecursion P matches → AllCandidates P (candidates position entries matches)
all_candidates P First entries matches all = all
all_candidates P Last entries matches all = all
all_candidates P (After id) entries matches all = all_mapped P _ (λ found. all_filtered P _ matches all) (entry_of_id id entries)
all_candidates P (Before id) entries matches all = all_mapped P _ (λ found. all_filtered P _ matches all) (entry_of_id id entries)

asked_cut : (kept : Kept) (query : PageQuery) (o : Option (List EntryView)) (cut : CutView) → AllCandidates (IsAskedFor kept.owner query) o
    → option_map (λ found. cut_out query.position (matching kept query) (most_of query.max) found (portion query.position (most_of query.max) found)) o ≡ Some cut → HasAsked kept query cut
asked_cut kept query None cut all is = absurd (none-some cut is)
asked_cut kept query (Some found) cut all is =
    let page = portion query.position (most_of query.max) found in
    let few = portion_few query.position (most_of query.max) found in
    record {
      page = page;
      numbers = sym (ap (λ (c : CutView). c.numbers) (same_Some _ cut is));
      asked = all_portion (IsAskedFor kept.owner query) query.position (most_of query.max) found all;
      few = most_bounded query.max (length page) few;
      most = most_few query.max (length page) few;
    }

pub has_asked : (kept : Kept) (query : PageQuery) (cut : CutView) → page_of kept query ≡ Some cut → HasAsked kept query cut
has_asked kept query cut is =
    asked_cut kept query (candidates query.position kept.entries (matching kept query)) cut
    (all_candidates (IsAskedFor kept.owner query) query.position kept.entries (matching kept query) (asked_ones kept.owner query kept.entries)) is

-- ---- from the beginning, and from the end

complete_is : (n most : ℕ) (rest : List EntryView) → length rest ≡ n - most → (nat_le n most ≡ true) ↔ (rest ≡ [])
complete_is n most rest size = (
  (λ fits. no_rest rest (omega (arith, size, leb-true n most fits))),
  (λ empty. le-leb n most (omega (arith, size, ap length empty))),
)

pub has_first : (kept : Kept) (query : PageQuery) (cut : CutView) → page_of kept query ≡ Some cut → query.position ≡ First → HasFirst kept query cut
has_first kept query cut is from_start =
    let matches = matching kept query in
    let most = most_of query.max in
    let same : cut_out First matches most matches (take most matches) ≡ cut =
    same_Some _ cut (sym (ap (λ (p : PagePosition). option_map (λ found. cut_out p matches most found (portion p most found)) (candidates p kept.entries matches)) from_start) ∙ is) in
    record {
      asked = matches;
      are = are_asked kept.owner query kept.entries;
      page = take most matches;
      rest = drop most matches;
      front = parts most matches;
      numbers = sym (ap (λ (c : CutView). c.numbers) same);
      count = sym (ap (λ (c : CutView). c.count) same);
      complete = subst (λ (b : Bool). (b ≡ true) ↔ (drop most matches ≡ [])) (ap (λ (c : CutView). c.complete) same) (complete_is (length matches) most (drop most matches) (length-drop most matches));
    }

pub has_last : (kept : Kept) (query : PageQuery) (cut : CutView) → page_of kept query ≡ Some cut → query.position ≡ Last → HasLast kept query cut
has_last kept query cut is from_end =
    let matches = matching kept query in
    let most = most_of query.max in
    let over = length matches - most in
    let same : cut_out Last matches most matches (drop over matches) ≡ cut =
    same_Some _ cut (sym (ap (λ (p : PagePosition). option_map (λ found. cut_out p matches most found (portion p most found)) (candidates p kept.entries matches)) from_end) ∙ is) in
    let size : length (take over matches) ≡ over = (let taken = length-take over matches in omega (arith, taken)) in
    record {
      asked = matches;
      are = are_asked kept.owner query kept.entries;
      rest = take over matches;
      page = drop over matches;
      back = parts over matches;
      numbers = sym (ap (λ (c : CutView). c.numbers) same);
      count = sym (ap (λ (c : CutView). c.count) same);
      complete = subst (λ (b : Bool). (b ≡ true) ↔ (take over matches ≡ [])) (ap (λ (c : CutView). c.complete) same) (complete_is (length matches) most (take over matches) size);
    }
