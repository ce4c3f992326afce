-- What archives get of one message, and of messages one after another.
use Rattle.std.proofs.Common.{◌≡◌, ◌≢◌, ℕ, zero, suc, ◌==◌, Bool, true, false, cond, List, [], ◌∷◌, ◌++◌, Option, Some, None, map, append-nil, refl, sym, ap, subst, ◌∙◌, eq-eqb, inl, inr}
use Rattle.std.proofs.lemmas.Bool.{cases_Bool, or_right, eqb-false}
use Rattle.std.proofs.lemmas.List.{map-append}
use Rattle.std.proofs.lemmas.List.Elements.{filter-append}
use Rattle.std.specs.List.{filter, slice_get}
use Rattle.std.specs.Option.{option_map}
use Rattle.mam_archive.specs.Entries.{EntryView}
use Rattle.srv_state.specs.State.{Kept, Out}
use Rattle.srv_state.specs.Steps.{appended}
use Rattle.sm_resumption.proofs.RowFacts.{same_from_eqb}
use Rattle.law_server.proofs.Marks.{Books, Entry, Mark, Notice, all_marking, with_entry}
use Rattle.law_server.proofs.MessageMarks.{marks_of}
use Rattle.law_server.specs.Taken.{Taken, all_appended, at_most_one, concerns, entries_for, told}

-- ---- an entry among the archives

under_first : (e : EntryView) (account : ℕ) (o : Option Kept) (k : Kept) (ks : List Kept) (p : ℕ) → slice_get (with_entry e (suc account) o (k ∷ ks)) (suc p) ≡ slice_get (with_entry e account o ks) p
under_first e account None k ks p = refl
under_first e account (Some kept) k ks p = refl

entry_there : (e : EntryView) (account : ℕ) (ks : List Kept) → slice_get (with_entry e account (slice_get ks account) ks) account ≡ option_map (appended e) (slice_get ks account)
entry_there e account [] = refl
entry_there e zero (k ∷ ks) = refl
entry_there e (suc account) (k ∷ ks) = under_first e account (slice_get ks account) k ks account ∙ entry_there e account ks

set_apart : (e : EntryView) (account : ℕ) (o : Option Kept) (ks : List Kept) (p : ℕ) → account ≢ p → slice_get (with_entry e account o ks) p ≡ slice_get ks p
set_apart e account None ks p apart = refl
set_apart e account (Some kept) [] p apart = refl
set_apart e zero (Some kept) (k ∷ ks) zero apart = absurd (apart refl)
set_apart e zero (Some kept) (k ∷ ks) (suc p) apart = refl
set_apart e (suc account) (Some kept) (k ∷ ks) zero apart = refl
set_apart e (suc account) (Some kept) (k ∷ ks) (suc p) apart = set_apart e account (Some kept) ks p (λ same. apart (ap suc same))

-- ---- one message

abbrev gets : ℕ → List Taken → Option Kept → Option Kept
gets p takes kept = option_map (all_appended (entries_for p takes)) kept

pub gets_nothing : (o : Option Kept) → option_map (all_appended []) o ≡ o
gets_nothing None = refl
gets_nothing (Some kept) = refl

abbrev entries_where : Bool → EntryView → List EntryView
entries_where b e = cond b (e ∷ []) []

one_entry : (b : Bool) (t : Taken) → map (λ (x : Taken). x.entry) (cond b (t ∷ []) []) ≡ entries_where b t.entry
one_entry true t = refl
one_entry false t = refl

gets_one : (p : ℕ) (t : Taken) (o : Option Kept) (b : Bool) → concerns p t ≡ b → gets p (t ∷ []) o ≡ option_map (all_appended (entries_where b t.entry)) o
gets_one p t o b is = ap (λ (es : List EntryView). option_map (all_appended es) o) (ap (λ c. map (λ (x : Taken). x.entry) (cond c (t ∷ []) [])) is ∙ one_entry b t)

concerns_addressee : (p : ℕ) (t : Taken) → t.addressee ≡ p → concerns p t ≡ true
concerns_addressee p t is = or_right (t.sender == p) (t.addressee == p) (eq-eqb t.addressee p is)

concerns_sender : (p : ℕ) (t : Taken) → t.sender ≡ p → concerns p t ≡ true
concerns_sender p t is = let here : (t.sender == p) ≡ true = eq-eqb t.sender p is in rw here refl

concerns_neither : (p : ℕ) (t : Taken) → (t.sender == p) ≡ false → (t.addressee == p) ≡ false → concerns p t ≡ false
concerns_neither p t a b = rw (a, b) refl

once_archived : {A : Type 0} (t : Taken) (b : Books A) (p : ℕ) → t.sender ≡ t.addressee →
    slice_get (all_marking (Entry t.addressee t.entry ∷ Notice t.entry.from t.entry.to t.entry.origin ∷ []) b).archives p ≡ gets p (t ∷ []) (slice_get b.archives p)
once_archived t b p same =
    elim (cases_Bool (t.addressee == p)) [
      | inl here ↦
          let is : t.addressee ≡ p = same_from_eqb t.addressee p here in
          subst (λ (n : ℕ). slice_get (with_entry t.entry t.addressee (slice_get b.archives t.addressee) b.archives) n ≡ option_map (appended t.entry) (slice_get b.archives n)) is
          (entry_there t.entry t.addressee b.archives)
          ∙ sym (gets_one p t (slice_get b.archives p) true (concerns_addressee p t is))
      | inr other ↦
          let neither : concerns p t ≡ false = concerns_neither p t (ap (λ n. n == p) same ∙ other) other in
          set_apart t.entry t.addressee (slice_get b.archives t.addressee) b.archives p (eqb-false t.addressee p other)
          ∙ sym (gets_one p t (slice_get b.archives p) false neither ∙ gets_nothing (slice_get b.archives p))
    ]

twice_archived : {A : Type 0} (t : Taken) (b : Books A) (p : ℕ) → (t.sender == t.addressee) ≡ false →
    slice_get (all_marking (Entry t.sender t.entry ∷ Entry t.addressee t.entry ∷ Notice t.entry.from t.entry.to t.entry.origin ∷ []) b).archives p ≡ gets p (t ∷ []) (slice_get b.archives p)
twice_archived t b p differ =
    let first = with_entry t.entry t.sender (slice_get b.archives t.sender) b.archives in
    let apart : t.sender ≢ t.addressee = eqb-false t.sender t.addressee differ in
    elim (cases_Bool (t.addressee == p)) [
      | inl here ↦
          let is : t.addressee ≡ p = same_from_eqb t.addressee p here in
          subst (λ (n : ℕ). slice_get (with_entry t.entry t.addressee (slice_get first t.addressee) first) n ≡ option_map (appended t.entry) (slice_get b.archives n)) is
          (entry_there t.entry t.addressee first ∙ ap (option_map (appended t.entry)) (set_apart t.entry t.sender (slice_get b.archives t.sender) b.archives t.addressee apart))
          ∙ sym (gets_one p t (slice_get b.archives p) true (concerns_addressee p t is))
      | inr other ↦
          set_apart t.entry t.addressee (slice_get first t.addressee) first p (eqb-false t.addressee p other)
          ∙ elim (cases_Bool (t.sender == p)) [
            | inl here ↦
                let is : t.sender ≡ p = same_from_eqb t.sender p here in
                subst (λ (n : ℕ). slice_get first n ≡ option_map (appended t.entry) (slice_get b.archives n)) is (entry_there t.entry t.sender b.archives)
                ∙ sym (gets_one p t (slice_get b.archives p) true (concerns_sender p t is))
            | inr neither ↦
                set_apart t.entry t.sender (slice_get b.archives t.sender) b.archives p (eqb-false t.sender p neither)
                ∙ sym (gets_one p t (slice_get b.archives p) false (concerns_neither p t neither other) ∙ gets_nothing (slice_get b.archives p))
          ]
    ]

archived_either : {A : Type 0} (c : Bool) (xs ys : List Mark) (b : Books A) (p : ℕ) (o : Option Kept) → (c ≡ true → slice_get (all_marking xs b).archives p ≡ o) → (c ≡ false → slice_get (all_marking ys b).archives p ≡ o)
    → slice_get (all_marking (cond c xs ys) b).archives p ≡ o
archived_either true xs ys b p o here there = here refl
archived_either false xs ys b p o here there = there refl

pub archives_get : {A : Type 0} (o : Option Taken) (b : Books A) (p : ℕ) → slice_get (all_marking (marks_of o) b).archives p ≡ gets p (at_most_one o) (slice_get b.archives p)
archives_get None b p = sym (gets_nothing (slice_get b.archives p))
archives_get (Some t) b p =
    archived_either (t.sender == t.addressee) _ _ b p _ (λ same. once_archived t b p (same_from_eqb t.sender t.addressee same)) (λ differ. twice_archived t b p differ)

-- ---- what is told, and what stays

told_either : {A : Type 0} (c : Bool) (xs ys : List Mark) (b : Books A) (takes : List (Out A)) → (all_marking xs b).takes ≡ takes → (all_marking ys b).takes ≡ takes → (all_marking (cond c xs ys) b).takes ≡ takes
told_either true xs ys b takes here there = here
told_either false xs ys b takes here there = there

pub takes_are_told : {A : Type 0} (o : Option Taken) (b : Books A) → (all_marking (marks_of o) b).takes ≡ b.takes ++ map told (at_most_one o)
takes_are_told None b = sym (append-nil b.takes)
takes_are_told (Some t) b = told_either (t.sender == t.addressee) _ _ b (b.takes ++ told t ∷ []) refl refl

-- the domain, the accounts and the moment, whatever is marked
pub stays : {A X : Type 0} (f : Books A → X) → ((m : Mark) (b : Books A) → f (all_marking (m ∷ []) b) ≡ f b) → (ms : List Mark) (b : Books A) → f (all_marking ms b) ≡ f b
stays f same [] b = refl
stays f same (m ∷ ms) b = stays f same ms (all_marking (m ∷ []) b) ∙ same m b

-- ---- one after another

appended_joined : (es fs : List EntryView) (kept : Kept) → all_appended (es ++ fs) kept ≡ all_appended fs (all_appended es kept)
appended_joined [] fs kept = refl
appended_joined (e ∷ es) fs kept = appended_joined es fs (appended e kept)

appended_both : (es fs : List EntryView) (o : Option Kept) → option_map (all_appended fs) (option_map (all_appended es) o) ≡ option_map (all_appended (es ++ fs)) o
appended_both es fs None = refl
appended_both es fs (Some kept) = ap Some (sym (appended_joined es fs kept))

pub entries_joined : (p : ℕ) (ts us : List Taken) → entries_for p (ts ++ us) ≡ entries_for p ts ++ entries_for p us
entries_joined p ts us =
    ap (map (λ (t : Taken). t.entry)) (filter-append (concerns p) ts us) ∙ map-append (λ (t : Taken). t.entry) (filter (concerns p) ts) (filter (concerns p) us)

pub gets_both : (p : ℕ) (ts us : List Taken) (o : Option Kept) → option_map (all_appended (entries_for p us)) (option_map (all_appended (entries_for p ts)) o) ≡ option_map (all_appended (entries_for p (ts ++ us))) o
gets_both p ts us o = appended_both (entries_for p ts) (entries_for p us) o ∙ ap (λ es. option_map (all_appended es) o) (sym (entries_joined p ts us))
