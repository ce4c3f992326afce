-- What items, pieces of bytes and other events archive.
use Rattle.std.proofs.Common.{◌≡◌, ℕ, List, [], ◌∷◌, ◌++◌, Option, Some, None, append-nil, append_assoc, map, refl, sym, ap, ap₂, subst, ◌∙◌}
use Rattle.std.proofs.lemmas.List.{map-append}
use Rattle.std.specs.List.{AllByRecursion, slice_get}
use Rattle.std.specs.Option.{IfSome, option_map, unwrap_or}
use Rattle.mam_archive.specs.Entries.{EntryView}
use Rattle.base_lemmas.proofs.Lists.{AllByRecursion-weaker}
use Rattle.srv_state.specs.State.{Out, ServerState, Step, archive_at, bare_address, full_address, name_of}
use Rattle.srv_state.specs.Steps.{Act, acted}
use Rattle.srv_state.specs.Streams.{standing_at}
use Rattle.srv_state.specs.declared.connection.Standing.{Standing}
use Rattle.xml_framer.specs.States.{State, Turn}
use Rattle.xml_framer.specs.declared.fault.Fault.{Fault}
use Rattle.xml_framer.specs.declared.items.Item.{Item}
use Rattle.srv_login.specs.Accounts.{bare_text}
use Rattle.srv_route.specs.Destinations.{destination_of}
use Rattle.srv_core.specs.Events.{Whole, after_bytes, after_fault, after_turn, at_fault, at_piece, begun, fault_condition, framer_at, turn_of}
use Rattle.srv_core.specs.Table.{after_item, after_items, at_open}
use Rattle.srv_login.specs.declared.account.Account.{Account}
use Rattle.law_server.proofs.AccountsKept.{Fit, accounts_acted, owner_at}
use Rattle.law_server.proofs.FittingRows.{fit_ending}
use Rattle.law_server.proofs.ItemFits.{fit_open}
use Rattle.law_server.proofs.ArchiveEntries.{archives_get, gets_both, gets_nothing, stays, takes_are_told}
use Rattle.law_server.proofs.ItemTakes.{open_marks}
use Rattle.law_server.proofs.Marks.{Books, Entry, Mark, Notice, acted_books, all_marking, books_of, marks}
use Rattle.law_server.proofs.MessageMarks.{marks_of}
use Rattle.law_server.proofs.NumbersWithin.{IsWithin, Rooms, within_taken}
use Rattle.law_server.proofs.NumbersKept.{address_is, numbers_acted}
use Rattle.law_server.proofs.QuietRows.{quiet_ending}
use Rattle.law_server.specs.Accounts.{Exists, HaveAccounts}
use Rattle.law_server.specs.Sound.{IsSound}
use Rattle.law_server.specs.Taken.{HasTaken, IsFromSender, IsTakenFrom, IsTo, Taken, account_of, all_appended, at_most_one, entries_for, takes_reported, told}
use Rattle.xml_writer.specs.Items.{ItemOut}

-- ---- an item

is_to : {A : Type 0} (k : ℕ) (i : Item) (h : ServerState A) (t : Taken) → IsTakenFrom k i h t → IsTo h t
is_to k i h t is = record {
  given = is.message.to;
  to = ap (λ (e : EntryView). e.to) is.entry ∙ ap (λ n. unwrap_or is.message.to (bare_address n h)) (sym is.sender);
  addressee = ap (λ n. account_of (destination_of h.domain h.accounts n is.message.to)) is.sender ∙ is.addressee;
}

is_from_sender : {A : Type 0} (k : ℕ) (i : Item) (h : ServerState A) (t : Taken) → IsSound h → IsTakenFrom k i h t → IsFromSender h t
is_from_sender k i h t sound is = record {
  exists = subst (Exists h.accounts) (sym is.sender) (owner_at k h is.session sound.accounts is.is_on);
  resource = is.session.shown.resource;
  from =
      ap (λ (e : EntryView). e.from) is.entry ∙ address_is k h is.session sound.numbers is.is_on
      ∙ ap (λ n. full_address n is.session.shown.resource h) (sym is.sender);
}

all_of_one : {P Q : Taken → Type 0} (o : Option Taken) → ((t : Taken) → P t → Q t) → IfSome o P → AllByRecursion Q (at_most_one o)
all_of_one None f is = tt
all_of_one (Some t) f is = (f t is, tt)

domain_stays : {A : Type 0} (m : Mark) (b : Books A) → (all_marking (m ∷ []) b).domain ≡ b.domain
domain_stays (Entry account e) b = refl
domain_stays (Notice from to origin) b = refl

accounts_stay : {A : Type 0} (m : Mark) (b : Books A) → (all_marking (m ∷ []) b).accounts ≡ b.accounts
accounts_stay (Entry account e) b = refl
accounts_stay (Notice from to origin) b = refl

moment_stays : {A : Type 0} (m : Mark) (b : Books A) → (all_marking (m ∷ []) b).moment ≡ b.moment
moment_stays (Entry account e) b = refl
moment_stays (Notice from to origin) b = refl

-- these are the acts of a row
by_acts : {A : Type 0} (say : ItemOut → A) (acts : List (Act A)) (s : Step A) (o : Option Taken) → marks acts ≡ marks_of o → AllByRecursion (λ (t : Taken). t.entry.stamp ≡ s.server_state.moment) (at_most_one o) → AllByRecursion (IsTo s.server_state) (at_most_one o)
    → (IsSound s.server_state → AllByRecursion (IsFromSender s.server_state) (at_most_one o)) → (HaveAccounts s.server_state → Fit s.server_state.accounts acts) → IfSome o (Rooms s.server_state) → HasTaken (at_most_one o) s (acted say acts s)
by_acts say acts s o marked stamps addressees senders fit rooms =
    let b = books_of s in
    let books : books_of (acted say acts s) ≡ all_marking (marks_of o) b = acted_books say acts s ∙ ap (λ ms. all_marking ms b) marked in
    record {
      tells = ap (λ (x : Books _). x.takes) books ∙ takes_are_told o b;
      archives = λ p. ap (λ (x : Books _). slice_get x.archives p) books ∙ archives_get o b p;
      stamps = stamps;
      addressees = addressees;
      senders = senders;
      sound = λ is. record { numbers = numbers_acted say acts s is.numbers; accounts = accounts_acted say acts s (fit is.accounts) is.accounts; archives = λ p. subst IsWithin (sym (ap (λ (x : Books _). slice_get x.archives p) books ∙ archives_get o b p)) (within_taken s.server_state o p rooms (is.archives p)) };
      domain = ap (λ (x : Books _). x.domain) books ∙ stays (λ (x : Books _). x.domain) domain_stays (marks_of o) b;
      accounts = ap (λ (x : Books _). x.accounts) books ∙ stays (λ (x : Books _). x.accounts) accounts_stay (marks_of o) b;
      moment = ap (λ (x : Books _). x.moment) books ∙ stays (λ (x : Books _). x.moment) moment_stays (marks_of o) b;
    }

rooms_of_one : {A : Type 0} (k : ℕ) (i : Item) (h : ServerState A) (o : Option Taken) → IfSome o (IsTakenFrom k i h) → IfSome o (Rooms h)
rooms_of_one k i h None is = tt
rooms_of_one k i h (Some t) is = (is.sender_room, is.addressee_room)

pub item_takes : {A : Type 0} (say : ItemOut → A) (k : ℕ) (i : Item) (s : Step A) → (o : Option Taken) × HasTaken (at_most_one o) s (after_item say k i s) × IfSome o (IsTakenFrom k i s.server_state)
item_takes say k i s =
    let standing = standing_at k s.server_state in
    let m = open_marks say k i standing s.server_state in (
      m.0,
      by_acts say (at_open say k i standing s.server_state) s m.0 m.1 (all_of_one m.0 (λ t is. ap (λ (e : EntryView). e.stamp) is.entry) m.2) (all_of_one m.0 (λ t is. is_to k i s.server_state t is) m.2)
          (λ sound. all_of_one m.0 (λ t is. is_from_sender k i s.server_state t sound is) m.2) (fit_open say k i s.server_state) (rooms_of_one k i s.server_state m.0 m.2),
      m.2,
    )

-- ---- one after another

address_same : {A : Type 0} (n : ℕ) (g h : ServerState A) → g.domain ≡ h.domain → g.accounts ≡ h.accounts → bare_address n g ≡ bare_address n h
address_same n g h domain accounts = ap₂ (λ d a. bare_text (name_of (slice_get a n)) d) domain accounts

pub to_before : {A : Type 0} (g h : ServerState A) → g.domain ≡ h.domain → g.accounts ≡ h.accounts → (t : Taken) → IsTo g t → IsTo h t
to_before g h domain accounts t is = record {
  given = is.given;
  to = is.to ∙ ap (unwrap_or is.given) (address_same t.sender g h domain accounts);
  addressee = sym (ap₂ (λ d a. account_of (destination_of d a t.sender is.given)) domain accounts) ∙ is.addressee;
}

pub from_before : {A : Type 0} (g h : ServerState A) → g.domain ≡ h.domain → g.accounts ≡ h.accounts → (t : Taken) → IsFromSender g t → IsFromSender h t
from_before g h domain accounts t is = record {
  exists = subst (λ these. Exists these t.sender) accounts is.exists;
  resource = is.resource;
  from = is.from ∙ ap (λ bare. bare ++ 47 ∷ is.resource) (address_same t.sender g h domain accounts);
}

pub all_both : (P : Taken → Type 0) (ts us : List Taken) → AllByRecursion P ts → AllByRecursion P us → AllByRecursion P (ts ++ us)
all_both P [] us a b = b
all_both P (t ∷ ts) us a b = (a.0, all_both P ts us a.1 b)

pub takes_nothing : {A : Type 0} (s : Step A) → HasTaken [] s s
takes_nothing s = record {
  tells = sym (append-nil (takes_reported s.outs));
  archives = λ p. sym (gets_nothing (archive_at p s.server_state));
  stamps = tt;
  addressees = tt;
  senders = λ sound. tt;
  sound = λ sound. sound;
  domain = refl;
  accounts = refl;
  moment = refl;
}

pub takes_both : {A : Type 0} (ts us : List Taken) (s t u : Step A) → HasTaken ts s t → HasTaken us t u → HasTaken (ts ++ us) s u
takes_both ts us s t u a b = record {
  tells =
      b.tells ∙ ap (λ outs. outs ++ map told us) a.tells ∙ append_assoc (takes_reported s.outs) (map told ts) (map told us)
      ∙ ap (λ outs. takes_reported s.outs ++ outs) (sym (map-append told ts us));
  archives = λ p. b.archives p ∙ ap (option_map (all_appended (entries_for p us))) (a.archives p) ∙ gets_both p ts us (archive_at p s.server_state);
  stamps = all_both (λ (x : Taken). x.entry.stamp ≡ s.server_state.moment) ts us a.stamps
      (AllByRecursion-weaker (λ (x : Taken). x.entry.stamp ≡ t.server_state.moment) (λ (x : Taken). x.entry.stamp ≡ s.server_state.moment) (λ x is. is ∙ a.moment) us b.stamps);
  addressees = all_both (IsTo s.server_state) ts us a.addressees (AllByRecursion-weaker (IsTo t.server_state) (IsTo s.server_state) (to_before t.server_state s.server_state a.domain a.accounts) us b.addressees);
  senders = λ sound. all_both (IsFromSender s.server_state) ts us (a.senders sound)
      (AllByRecursion-weaker (IsFromSender t.server_state) (IsFromSender s.server_state) (from_before t.server_state s.server_state a.domain a.accounts) us (b.senders (a.sound sound)));
  sound = λ sound. b.sound (a.sound sound);
  domain = b.domain ∙ a.domain;
  accounts = b.accounts ∙ a.accounts;
  moment = b.moment ∙ a.moment;
}

-- ---- items, and a piece

abbrev Takes : {A : Type 0} → Step A → Step A → Type 0
Takes s u = (takes : List Taken) × HasTaken takes s u

pub items_take : {A : Type 0} (say : ItemOut → A) (k : ℕ) (items : List Item) (s : Step A) → Takes s (after_items say k items s)
items_take say k [] s = ([], takes_nothing s)
items_take say k (i ∷ items) s =
    let first = item_takes say k i s in
    let rest = items_take say k items (after_item say k i s) in
    (at_most_one first.0 ++ rest.0, takes_both (at_most_one first.0) rest.0 s (after_item say k i s) (after_items say k items (after_item say k i s)) first.1 rest.1)

quiet_fault : {A : Type 0} (say : ItemOut → A) (k : ℕ) (f : Fault) (o : Option Standing) (h : ServerState A) → marks (at_fault say k f o h) ≡ []
quiet_fault say k f None h = refl
quiet_fault say k f (Some st) h = quiet_ending say k (fault_condition f.why) st h

fault_fits : {A : Type 0} (accounts : List Account) (say : ItemOut → A) (k : ℕ) (f : Fault) (o : Option Standing) (h : ServerState A) → Fit accounts (at_fault say k f o h)
fault_fits accounts say k f None h = tt
fault_fits accounts say k f (Some st) h = fit_ending accounts say k (fault_condition f.why) st h

fault_takes : {A : Type 0} (say : ItemOut → A) (k : ℕ) (o : Option Fault) (s : Step A) → HasTaken [] s (after_fault say k o s)
fault_takes say k None s = takes_nothing s
fault_takes say k (Some f) s = by_acts say (at_fault say k f (standing_at k s.server_state) s.server_state) s None (quiet_fault say k f (standing_at k s.server_state) s.server_state) tt tt (λ sound. tt) (λ have. fault_fits s.server_state.accounts say k f (standing_at k s.server_state) s.server_state) tt

turn_takes : {A : Type 0} (say : ItemOut → A) (k : ℕ) (t : Turn) (s : Step A) → Takes s (after_turn say k t s)
turn_takes say k t s =
    let all = items_take say k t.items s in
    (all.0 ++ [], takes_both all.0 [] s (after_items say k t.items s) (after_turn say k t s) all.1 (fault_takes say k t.state.fault (after_items say k t.items s)))

piece_takes : {A : Type 0} (say : ItemOut → A) (k : ℕ) (piece : List ℕ) (o : Option State) (s : Step A) → Takes s (at_piece say k piece o s)
piece_takes say k piece None s = ([], takes_nothing s)
piece_takes say k piece (Some f) s = turn_takes say k (turn_of piece f) s

pub bytes_take : {A : Type 0} (say : ItemOut → A) (k : ℕ) (piece : List ℕ) (now : ℕ) (w : Whole A) (outs : List (Out A)) → Takes (begun now w.server_state outs) (after_bytes say k piece now w outs)
bytes_take say k piece now w outs = piece_takes say k piece (framer_at k w.framers) (begun now w.server_state outs)
