-- What a change of one account does to the lists that clauses see.
use Rattle.std.proofs.Common.{◌≡◌, ◌≢◌, ℕ, zero, suc, ◌+◌, ◌<◌, ◌≤◌, List, [], ◌∷◌, ◌++◌, Some, length, get_or, set, map, refl, sym, ap, ◌∙◌, arith, subst}
use Rattle.std.proofs.lemmas.List.{length-map}
use Rattle.std.specs.List.{All, slice_get}
use Rattle.mam_archive.specs.Entries.{ArchiveView, EntryView, newest, numbered}
use Rattle.cmd_replay.specs.Homes.{Home, HomesView, Keeps, appended, appended_at, home_of_account, names_of, room_of_account}
use Rattle.cmd_replay.specs.declared.run.accounts.Account.{Account}

abbrev with_archive : Account → ArchiveView → Account
with_archive account archive = record { name = account.name; archive = archive }

abbrev home_with : List ℕ → ℕ → List EntryView → Home
home_with name last entries = record { name = name; last = last; entries = entries }

-- the archive's entries are as they were
pub homes_kept : (items : List Account) (i : ℕ) (x : Account) (archive : ArchiveView) → x ≡ get_or items i x →
    archive.last ≡ x.archive.last → archive.entries ≡ x.archive.entries →
    map home_of_account (set items i (record { name = x.name; archive = archive })) ≡ map home_of_account items
homes_kept [] i x archive is last same = refl
homes_kept (a ∷ items) zero x archive is last same =
    ap (λ (h : Home). h ∷ map home_of_account items)
    (ap (λ n. home_with x.name n archive.entries) last ∙ ap (λ es. home_with x.name x.archive.last es) same ∙ ap home_of_account is)
homes_kept (a ∷ items) (suc i) x archive is last same = ap (λ t. home_of_account a ∷ t) (homes_kept items i x archive is last same)

pub homes_appended : (keep : ℕ) (items : List Account) (i : ℕ) (x : Account) (archive : ArchiveView) (entry : EntryView) → x ≡ get_or items i x →
    i < length items → archive.last ≡ x.archive.last + 1 → archive.entries ≡ newest keep (x.archive.entries ++ numbered (x.archive.last + 1) entry ∷ []) →
    map home_of_account (set items i (record { name = x.name; archive = archive })) ≡ appended_at keep i entry (map home_of_account items)
homes_appended keep [] i x archive entry is there last same = absurd (omega arith)
homes_appended keep (a ∷ items) zero x archive entry is there last same =
    ap (λ (h : Home). h ∷ map home_of_account items)
    (ap (λ n. home_with x.name n archive.entries) last ∙ ap (λ es. home_with x.name (x.archive.last + 1) es) same ∙ ap (λ a. appended keep entry (home_of_account a)) is)
homes_appended keep (a ∷ items) (suc i) x archive entry is there last same =
    ap (λ t. home_of_account a ∷ t) (homes_appended keep items i x archive entry is (omega arith) last same)

pub names_kept : (keep : ℕ) (homes : List Home) (i : ℕ) (entry : EntryView) → names_of (appended_at keep i entry homes) ≡ names_of homes
names_kept keep [] i entry = refl
names_kept keep (h ∷ homes) zero entry = refl
names_kept keep (h ∷ homes) (suc i) entry = ap (λ t. h.name ∷ t) (names_kept keep homes i entry)

pub appended_length : (keep : ℕ) (homes : List Home) (i : ℕ) (entry : EntryView) → length (appended_at keep i entry homes) ≡ length homes
appended_length keep [] i entry = refl
appended_length keep (h ∷ homes) zero entry = refl
appended_length keep (h ∷ homes) (suc i) entry = ap suc (appended_length keep homes i entry)

-- the room at one place is no less
pub rooms_raised : (items : List Account) (i : ℕ) (x : Account) (archive : ArchiveView) → x ≡ get_or items i x →
    x.archive.spare ≤ archive.spare →
    (k : ℕ) → get_or (map room_of_account items) k 0 ≤ get_or (map room_of_account (set items i (record { name = x.name; archive = archive }))) k 0
rooms_raised [] i x archive is more k = omega arith
rooms_raised (a ∷ items) zero x archive is more zero = let same : x.archive.spare ≡ a.archive.spare = ap room_of_account is in omega arith
rooms_raised (a ∷ items) zero x archive is more (suc k) = omega arith
rooms_raised (a ∷ items) (suc i) x archive is more zero = omega arith
rooms_raised (a ∷ items) (suc i) x archive is more (suc k) = rooms_raised items i x archive is more k

pub room_there : (items : List Account) (i : ℕ) (y : Account) → i < length items → get_or (map room_of_account (set items i y)) i 0 ≡ y.archive.spare
room_there [] i y there = absurd (omega arith)
room_there (a ∷ items) zero y there = refl
room_there (a ∷ items) (suc i) y there = room_there items i y (omega arith)

-- the room at the other places is as it was
pub rooms_elsewhere : (items : List Account) (i : ℕ) (y : Account) (k : ℕ) → k ≢ i →
    get_or (map room_of_account items) k 0 ≤ get_or (map room_of_account (set items i y)) k 0
rooms_elsewhere [] i y k apart = omega arith
rooms_elsewhere (a ∷ items) zero y zero apart = absurd (apart refl)
rooms_elsewhere (a ∷ items) zero y (suc k) apart = omega arith
rooms_elsewhere (a ∷ items) (suc i) y zero apart = omega arith
rooms_elsewhere (a ∷ items) (suc i) y (suc k) apart = rooms_elsewhere items i y k (λ e. apart (ap suc e))

-- what is known of a home, of the account that is read there
pub few_there : (items : List Account) (i : ℕ) (x : Account) → x ≡ get_or items i x → i < length items →
    All (λ (home : Home). home.last < 4294967295) (map home_of_account items) → x.archive.last < 4294967295
few_there [] i x is there few = absurd (omega arith)
few_there (a ∷ items) zero x is there few =
    let same : x.archive.last ≡ a.archive.last = ap (λ (v : Account). v.archive.last) is in
    let here : a.archive.last < 4294967295 = few zero (home_of_account a) (omega arith) in
    omega arith
few_there (a ∷ items) (suc i) x is there few =
    few_there items i x is (omega arith) (λ k d within. few (suc k) d (omega arith))

pub few_of_view : (keep : ℕ) (items : List Account) (view : HomesView) → record { keep = keep; homes = map home_of_account items; rooms = map room_of_account items } ≡ view →
    All (λ (home : Home). home.last < 4294967295) view.homes →
    All (λ (home : Home). home.last < 4294967295) (map home_of_account items)
few_of_view keep items view is few = subst (λ (homes : List Home). All (λ (home : Home). home.last < 4294967295) homes) (sym (ap (λ (v : HomesView). v.homes) is)) few

pub position_in_view : (keep : ℕ) (items : List Account) (view : HomesView) (i : ℕ) → record { keep = keep; homes = map home_of_account items; rooms = map room_of_account items } ≡ view →
    i < length view.homes → i < length items
position_in_view keep items view i is there =
    let same : length (map home_of_account items) ≡ length view.homes = ap (λ (v : HomesView). length v.homes) is in
    let size : length (map home_of_account items) ≡ length items = length-map items home_of_account in
    omega arith

-- the name of the account that is read at a place
pub name_there : (items : List Account) (i : ℕ) (x : Account) → x ≡ get_or items i x → i < length items →
    slice_get (names_of (map home_of_account items)) i ≡ Some x.name
name_there [] i x is there = absurd (omega arith)
name_there (a ∷ items) zero x is there = ap (λ (v : Account). Some v.name) (sym is)
name_there (a ∷ items) (suc i) x is there = name_there items i x is (omega arith)

-- the account that is read at a place, as it is seen
pub home_there : (items : List Account) (i : ℕ) (x : Account) (d : Home) → x ≡ get_or items i x → i < length items →
    home_of_account x ≡ get_or (map home_of_account items) i d
home_there [] i x d is there = absurd (omega arith)
home_there (a ∷ items) zero x d is there = ap home_of_account is
home_there (a ∷ items) (suc i) x d is there = home_there items i x d is (omega arith)

pub fewer : (homes : List Home) → All (λ (home : Home). home.last < 4294967294) homes → All (λ (home : Home). home.last < 4294967295) homes
fewer homes few k d within = let here : (get_or homes k d).last < 4294967294 = few k d within in omega arith

pub few_after : (keep : ℕ) (homes : List Home) (i : ℕ) (entry : EntryView) → All (λ (home : Home). home.last < 4294967294) homes →
    All (λ (home : Home). home.last < 4294967295) (appended_at keep i entry homes)
few_after keep [] i entry few k d within = absurd (omega arith)
few_after keep (h ∷ homes) zero entry few zero d within = let here : h.last < 4294967294 = few zero d (omega arith) in omega arith
few_after keep (h ∷ homes) zero entry few (suc k) d within = let here : (get_or homes k d).last < 4294967294 = few (suc k) d within in omega arith
few_after keep (h ∷ homes) (suc i) entry few zero d within = let here : h.last < 4294967294 = few zero d (omega arith) in omega arith
few_after keep (h ∷ homes) (suc i) entry few (suc k) d within = few_after keep homes i entry (λ j e w. few (suc j) e (omega arith)) k d (omega arith)

-- each archive keeps so many
pub keeps_there : (keep : ℕ) (items : List Account) (i : ℕ) (x : Account) → All (Keeps keep) items → x ≡ get_or items i x → i < length items → Keeps keep x
keeps_there keep items i x all is there = subst (Keeps keep) (sym is) (all i x there)

pub keeps_set : (keep : ℕ) (items : List Account) (i : ℕ) (y : Account) → All (Keeps keep) items → Keeps keep y → All (Keeps keep) (set items i y)
keeps_set keep [] i y all new k d within = absurd (omega arith)
keeps_set keep (a ∷ items) zero y all new zero d within = new
keeps_set keep (a ∷ items) zero y all new (suc k) d within = all (suc k) d within
keeps_set keep (a ∷ items) (suc i) y all new zero d within = all zero d (omega arith)
keeps_set keep (a ∷ items) (suc i) y all new (suc k) d within = keeps_set keep items i y (λ j e w. all (suc j) e (omega arith)) new k d (omega arith)

pub keeps_push : (keep : ℕ) (items : List Account) (y : Account) → All (Keeps keep) items → Keeps keep y → All (Keeps keep) (items ++ y ∷ [])
keeps_push keep [] y all new zero d within = new
keeps_push keep [] y all new (suc k) d within = absurd (omega arith)
keeps_push keep (a ∷ items) y all new zero d within = all zero d (omega arith)
keeps_push keep (a ∷ items) y all new (suc k) d within = keeps_push keep items y (λ j e w. all (suc j) e (omega arith)) new k d (omega arith)
