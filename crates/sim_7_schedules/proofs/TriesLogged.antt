-- An entry of a device's log is of a try where the message of the try is what was taken under its number.
use Rattle.std.proofs.Common.{◌≡◌, ℕ, zero, suc, ◌+◌, ◌-◌, ◌<◌, ◌≤◌, ◌==◌, ◌^◌, Bool, true, false, cond, List, [], ◌∷◌, ◌++◌, Option, Some, None, drop, length, map, not, refl, sym, ap, ap₂, ◌∙◌, arith}
use Rattle.std.proofs.lemmas.Bool.{and_from, and_parts, eq-eqb, eqb-true, false≢true, or_left}
use Rattle.std.proofs.lemmas.Bool.Decides.{nat_tests}
use Rattle.std.proofs.lemmas.List.Folds.{list_all-append}
use Rattle.std.proofs.lemmas.Option.{none-some, same_Some, slice_get-map}
use Rattle.std.proofs.lemmas.Slice.Eq.{bytes_eq-Decides}
use Rattle.std.specs.List.{AllByRecursion, filter, list_all, list_any, slice_get}
use Rattle.std.specs.Option.{option_map, option_map_or}
use Rattle.std.specs.Prelude.{◌&&◌, ◌||◌}
use Rattle.std.specs.Str.{bytes_eq}
use Rattle.base_lemmas.proofs.Bytes.{bytes_eq-self}
use Rattle.cl_intents.specs.States as states
use Rattle.cl_intents.specs.States.{resource_of}
use Rattle.cl_intents.specs.declared.intents.Try.{Try}
use Rattle.cmd_direct.specs.Direct.{as_logged}
use Rattle.cmd_report.specs.Addresses.{bare_address, domain, full_address}
use Rattle.cmd_report.specs.Lines.{take_line}
use Rattle.cmd_report.specs.Takes.{concerns, entry_of, numbered_from}
use Rattle.cmd_report.specs.declared.report.TakeLine.{TakeLine}
use Rattle.cmd_schedule.proofs.Lists.{all_filter}
use Rattle.cmd_schedule.specs.Contents.{Owned}
use Rattle.cmd_schedule.specs.Grammar.{is_digit, is_lower, is_name}
use Rattle.cmd_schedule.specs.declared.schedule.Version.{Version}
use Rattle.law_intents.specs.Intents as law
use Rattle.mam_archive.proofs.NumberedEntries.{entry_at}
use Rattle.mam_archive.specs.Entries.{EntryView, entry_numbered, numbered}
use Rattle.mam_log.specs.declared.log_entry.LogEntry.{LogEntry}
use Rattle.sim_1_applications.proofs.Owners.{Differ, name_is, name_tells, names_of}
use Rattle.sim_1_applications.proofs.Rendered.{history_follows}
use Rattle.sim_1_applications.specs.Devices as sessions
use Rattle.sim_1_applications.specs.Devices.{Device, log_of}
use Rattle.sim_1_applications.specs.Reported.{history_at, name_at, take_of}
use Rattle.sim_3_images.proofs.ChangedLists.{all_found}
use Rattle.sim_3_images.specs.WorldEncodings.{line_reported}
use Rattle.sim_3_items.specs.Served.{take_reported}
use Rattle.sim_5_devices.proofs.Entries.{at_first, logged_at}
use Rattle.sim_5_devices.proofs.Numbers.{AreWithin}
use Rattle.sim_5_devices.specs.Shown.{AreGiven, IsGiven}
use Rattle.sim_7_schedules.proofs.TakeLines.{IsTellable, take_lines_told}
use Rattle.sim_7_schedules.proofs.TriesNotes.{as_try}
use Rattle.sm_outbox.specs.Submissions.{origin_of}

-- ---- entries by numbers

numbered_get : (a : ℕ) (es : List EntryView) (j : ℕ) → slice_get (numbered_from a es) j ≡ option_map (numbered (a + j)) (slice_get es j)
numbered_get a [] j = refl
numbered_get a (e ∷ es) zero = (let same : a ≡ a + 0 = omega arith in ap (λ n. Some (numbered n e)) same)
numbered_get a (e ∷ es) (suc j) = numbered_get (a + 1) es j ∙ (let same : a + 1 + j ≡ a + suc j = omega arith in ap (λ n. option_map (numbered n) (slice_get es j)) same)

concerned : (owned : List Owned) (account : List ℕ) (takes : List sessions.Take) → filter (concerns account) (map (take_of owned) takes) ≡ map (take_of owned) (filter (sessions.concerns account) takes)
concerned owned account [] = refl
concerned owned account (t ∷ takes) = chosen (sessions.concerns account t) (concerned owned account takes)
  where
    chosen : (b : Bool) → filter (concerns account) (map (take_of owned) takes) ≡ map (take_of owned) (filter (sessions.concerns account) takes)
        → cond b (take_of owned t ∷ filter (concerns account) (map (take_of owned) takes)) (filter (concerns account) (map (take_of owned) takes))
        ≡ map (take_of owned) (cond b (t ∷ filter (sessions.concerns account) takes) (filter (sessions.concerns account) takes))
    chosen true same = ap (λ l. take_of owned t ∷ l) same
    chosen false same = same

-- what an archive has under a number is what was taken then
record IsTakenAs (owned : List Owned) (account : List ℕ) (takes : List sessions.Take) (n : ℕ) (e : EntryView) : Type 0 where
  one : sessions.Take
  at : slice_get (filter (sessions.concerns account) takes) (n - 1) ≡ Some one
  is : e ≡ numbered (1 + (n - 1)) (entry_of (take_of owned one))

taken_as : (owned : List Owned) (account : List ℕ) (takes : List sessions.Take) (n : ℕ) (e : EntryView) → 1 ≤ n → entry_numbered n (history_at owned takes account) ≡ Some e → IsTakenAs owned account takes n e
taken_as owned account takes n e some there =
    by (slice_get (filter (sessions.concerns account) takes) (n - 1)) refl
    (sym (numbered_get 1 (map entry_of (filter (concerns account) (map (take_of owned) takes))) (n - 1)
    ∙ ap (λ l. option_map (numbered (1 + (n - 1))) (slice_get (map entry_of l) (n - 1))) (concerned owned account takes)
    ∙ ap (option_map (numbered (1 + (n - 1)))) (slice_get-map entry_of (map (take_of owned) (filter (sessions.concerns account) takes)) (n - 1)
    ∙ ap (option_map entry_of) (slice_get-map (take_of owned) (filter (sessions.concerns account) takes) (n - 1))))
    ∙ sym (entry_at n 1 (history_at owned takes account) (history_follows owned takes account) some) ∙ there)
  where
    by : (o : Option sessions.Take) → slice_get (filter (sessions.concerns account) takes) (n - 1) ≡ o
        → option_map (numbered (1 + (n - 1))) (option_map entry_of (option_map (take_of owned) o)) ≡ Some e → IsTakenAs owned account takes n e
    by None at is = absurd (none-some e is)
    by (Some one) at is = record { one = one; at = at; is = sym (same_Some (numbered (1 + (n - 1)) (entry_of (take_of owned one))) e is) }

-- ---- addresses

no_slash : (b : ℕ) → (is_lower b || is_digit b) ≡ true → not (b == 47) ≡ true
no_slash b is = grind (arith, nat_tests)

plain_name : (name : List ℕ) → list_all (λ b. is_lower b || is_digit b) name ≡ true → list_all (λ b. not (b == 47)) name ≡ true
plain_name [] is = refl
plain_name (b ∷ bs) is =
    let parts = and_parts (is_lower b || is_digit b) (list_all (λ c. is_lower c || is_digit c) bs) is in
    and_from (not (b == 47)) (list_all (λ c. not (c == 47)) bs) (no_slash b parts.0) (plain_name bs parts.1)

plain : (name : List ℕ) → is_name name ≡ true → list_all (λ b. not (b == 47)) name ≡ true
plain [] is = refl
plain (c ∷ cs) is =
    let a = and_parts (is_lower c && _) (list_all (λ d. is_lower d || is_digit d) cs) is in
    let b = and_parts (is_lower c) _ a.0 in
    plain_name (c ∷ cs) (and_from (is_lower c || is_digit c) (list_all (λ d. is_lower d || is_digit d) cs) (or_left (is_lower c) (is_digit c) b.0) a.1)

after_slash : (xs ys : List ℕ) → list_all (λ b. not (b == 47)) xs ≡ true → resource_of (xs ++ 47 ∷ ys) ≡ ys
after_slash [] ys is = refl
after_slash (x ∷ xs) ys is =
    let parts = and_parts (not (x == 47)) (list_all (λ b. not (b == 47)) xs) is in
    ap (λ b. cond b (xs ++ 47 ∷ ys) (resource_of (xs ++ 47 ∷ ys))) (other (x == 47) parts.0) ∙ after_slash xs ys parts.1
  where
    other : (b : Bool) → not b ≡ true → b ≡ false
    other true is_not = absurd (false≢true is_not)
    other false is_not = refl

-- of a full address the resource is the device's name
pub resource_is : (account device : List ℕ) → is_name account ≡ true → resource_of (full_address account device) ≡ device
resource_is account device named =
    after_slash (bare_address account) device
    (list_all-append (λ b. not (b == 47)) account (64 ∷ domain) ∙ and_from (list_all (λ b. not (b == 47)) account) (list_all (λ b. not (b == 47)) (64 ∷ domain)) (plain account named) refl)

-- ---- an entry of a try

-- what was taken can be told, and is of a device that is there; of the device its account
pub record IsKnownTake (owned : List Owned) (i : ℕ) (account : List ℕ) (one : sessions.Take) : Type 0 where
  pub tellable : IsTellable owned one
  pub placed : one.device < length owned
  pub home : one.device ≡ i → one.account ≡ account

module _ (owned : List Owned) (version : Version) (i : ℕ) (o : Owned) (differ : Differ (names_of owned)) (owner : slice_get owned i ≡ Some o) (account_named : is_name o.account ≡ true) (device_named : is_name o.device ≡ true)
    (t : Try) (epoch_small : t.epoch < 2 ^ 64) (n_small : t.n < 2 ^ 64) where
  abbrev full : List ℕ
  full = full_address o.account o.device

  name_here : name_at owned i ≡ o.device
  name_here = name_is owned i o owner

  module _ (one : sessions.Take) (known : IsKnownTake owned i o.account one) where
    -- the same message as if it were the try's
    abbrev as_tried : sessions.Take
    as_tried = record { device = i; account = o.account; said = record one.said { epoch = t.epoch; n = t.n }; moment = one.moment }

    tried_tellable : IsTellable owned as_tried
    tried_tellable = record { account = account_named; device = ap is_name name_here ∙ device_named; to = known.tellable.to; epoch = epoch_small; n = n_small }

    abbrev is_entry : Bool
    is_entry = bytes_eq (full_address one.account (name_at owned one.device)) full && bytes_eq (origin_of (resource_of full) t.epoch t.n) (origin_of (name_at owned one.device) one.said.epoch one.said.n)

    -- what is told of the one is told of the other
    told_alike : full_address one.account (name_at owned one.device) ≡ full → origin_of (resource_of full) t.epoch t.n ≡ origin_of (name_at owned one.device) one.said.epoch one.said.n → take_line version (take_of owned one) ≡ take_line version (take_of owned as_tried)
    told_alike from origin =
        let address : full_address one.account (name_at owned one.device) ≡ full_address o.account (name_at owned i) = from ∙ ap (full_address o.account) (sym name_here) in
        let id : origin_of (name_at owned one.device) one.said.epoch one.said.n ≡ origin_of (name_at owned i) t.epoch t.n =
        sym origin ∙ ap (λ name. origin_of name t.epoch t.n) (resource_is o.account o.device account_named ∙ sym name_here) in
        let same : take_reported owned one ≡ take_reported owned as_tried = ap₂ (λ a b. record (take_reported owned one) { from = a; origin = b }) address id in
        first_is (sym (take_lines_told owned version (one ∷ []) (known.tellable, tt)) ∙ ap (λ x. map (line_reported version) (x ∷ [])) same ∙ take_lines_told owned version (as_tried ∷ []) (tried_tellable, tt))
      where
        first_is : {A : Type 0} {a b : A} → a ∷ [] ≡ b ∷ [] → a ≡ b
        first_is is = cc

    entry_then : is_entry ≡ true → law.is_try i (as_try t) one ≡ true
    entry_then is =
        let both = and_parts (bytes_eq (full_address one.account (name_at owned one.device)) full) (bytes_eq (origin_of (resource_of full) t.epoch t.n) (origin_of (name_at owned one.device) one.said.epoch one.said.n)) is in
        let alike = told_alike ((bytes_eq-Decides _ _).0 both.0) ((bytes_eq-Decides _ _).0 both.1) in
        let name : name_at owned one.device ≡ o.device = ap (λ (l : TakeLine). l.device) alike ∙ name_here in
        let device : (one.device == i) ≡ true = sym (name_tells owned i one.device o differ owner known.placed) ∙ ap (bytes_eq o.device) name ∙ bytes_eq-self o.device in
        let epoch : (one.said.epoch == t.epoch) ≡ true = eq-eqb one.said.epoch t.epoch (ap (λ (l : TakeLine). l.epoch) alike) in
        let n : (one.said.n == t.n) ≡ true = eq-eqb one.said.n t.n (ap (λ (l : TakeLine). l.n) alike) in
        and_from (one.device == i) (law.is_submission (as_try t) one.said) device (and_from (one.said.epoch == t.epoch) (one.said.n == t.n) epoch n)

    try_then : law.is_try i (as_try t) one ≡ true → is_entry ≡ true
    try_then is =
        let both = and_parts (one.device == i) (law.is_submission (as_try t) one.said) is in
        let two = and_parts (one.said.epoch == t.epoch) (one.said.n == t.n) both.1 in
        let device : one.device ≡ i = eqb-true one.device i both.0 in
        let name : name_at owned one.device ≡ o.device = ap (name_at owned) device ∙ name_here in
        let from : full_address one.account (name_at owned one.device) ≡ full = ap₂ full_address (known.home device) name in
        let epoch : t.epoch ≡ one.said.epoch = sym (eqb-true one.said.epoch t.epoch two.0) in
        let n : t.n ≡ one.said.n = sym (eqb-true one.said.n t.n two.1) in
        let origin : origin_of (resource_of full) t.epoch t.n ≡ origin_of (name_at owned one.device) one.said.epoch one.said.n =
        ap (λ r. origin_of r t.epoch t.n) (resource_is o.account o.device account_named ∙ sym name) ∙ ap₂ (origin_of (name_at owned one.device)) epoch n in
        and_from (bytes_eq (full_address one.account (name_at owned one.device)) full) (bytes_eq (origin_of (resource_of full) t.epoch t.n) (origin_of (name_at owned one.device) one.said.epoch one.said.n))
        ((bytes_eq-Decides _ _).1 from) ((bytes_eq-Decides _ _).1 origin)

    same_truth : (a b : Bool) → (a ≡ true → b ≡ true) → (b ≡ true → a ≡ true) → a ≡ b
    same_truth true b one_way other_way = sym (one_way refl)
    same_truth false true one_way other_way = other_way refl
    same_truth false false one_way other_way = refl

    entry_same : is_entry ≡ law.is_try i (as_try t) one
    entry_same = same_truth is_entry (law.is_try i (as_try t) one) entry_then try_then

  -- ---- a log

  module _ (takes : List sessions.Take) (all : AllByRecursion (IsKnownTake owned i o.account) takes) where
    abbrev history : List EntryView
    history = history_at owned takes o.account

    number_same : (n : ℕ) → 1 ≤ n → (given : IsGiven history n) → states.is_entry full t (as_logged given.entry) ≡ law.is_entry i (as_try t) o.account takes n
    number_same n some given =
        let found = taken_as owned o.account takes n given.entry some given.there in
        let known = all_found (IsKnownTake owned i o.account) (filter (sessions.concerns o.account) takes) (n - 1) found.one found.at (all_filter (IsKnownTake owned i o.account) (sessions.concerns o.account) takes all) in
        ap (λ e. states.is_entry full t (as_logged e)) found.is ∙ entry_same found.one known ∙ sym (ap (λ x. option_map_or (law.is_try i (as_try t)) x false) found.at)

    any_same : (last : ℕ) (ns : List ℕ) → AreGiven history ns → AreWithin last ns → list_any (states.is_entry full t) (logged_at history ns) ≡ list_any (law.is_entry i (as_try t) o.account takes) ns
    any_same last [] given within = refl
    any_same last (n ∷ ns) given within =
        ap (λ es. list_any (states.is_entry full t) (map as_logged es)) (at_first history n ns given.0)
        ∙ ap₂ (λ a b. a || b) (number_same n within.0.0 given.0) (any_same last ns given.1 within.1)

    all_dropped : {A : Type 0} (P : A → Type 0) (k : ℕ) (xs : List A) → AllByRecursion P xs → AllByRecursion P (drop k xs)
    all_dropped P zero xs all_here = all_here
    all_dropped P (suc k) [] all_here = tt
    all_dropped P (suc k) (x ∷ xs) all_here = all_dropped P k xs all_here.1

    drop_logged : (k : ℕ) (ns : List ℕ) → AreGiven history ns → drop k (logged_at history ns) ≡ logged_at history (drop k ns)
    drop_logged zero ns given = refl
    drop_logged (suc k) [] given = refl
    drop_logged (suc k) (n ∷ ns) given = ap (λ es. drop (suc k) (map as_logged es)) (at_first history n ns given.0) ∙ drop_logged k ns given.1

    pub logged_same : (last : ℕ) (es : List LogEntry) (ns : List ℕ) → es ≡ logged_at history ns → AreGiven history ns → AreWithin last ns
        → states.is_logged full t es ≡ list_any (law.is_entry i (as_try t) o.account takes) (drop t.logged ns)
    logged_same last es ns are given within =
        ap (λ l. list_any (states.is_entry full t) (drop t.logged l)) are
        ∙ ap (list_any (states.is_entry full t)) (drop_logged t.logged ns given)
        ∙ any_same last (drop t.logged ns) (all_dropped (IsGiven history) t.logged ns given) (all_dropped _ t.logged ns within)
