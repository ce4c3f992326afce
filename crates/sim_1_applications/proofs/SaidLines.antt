-- The lines of submissions, session after session.
use Rattle.std.proofs.Common.{◌≡◌, ◌≢◌, ℕ, zero, suc, ◌+◌, ◌-◌, ◌<◌, ◌≤◌, ◌==◌, Bool, true, false, cond, List, [], ◌∷◌, ◌++◌, Some, length, drop, refl, sym, ap, ◌∙◌, subst, arith, append_assoc, inl, inr}
use Rattle.std.proofs.lemmas.Bool.{and_left, and_right, eq-eqb, eqb-true, lt-ltb, ne_eqb}
use Rattle.std.proofs.lemmas.List.{append-nil}
use Rattle.std.specs.List.{AllByRecursion, flat_map}
use Rattle.std.specs.Prelude.{◌&&◌, nat_lt}
use Rattle.base_lemmas.proofs.Lists.{AllByRecursion-weaker}
use Rattle.cmd_report.specs.Lawful.{AreNumberedAfter, AreSubmissions, EachPair, submission}
use Rattle.cmd_report.specs.declared.report.SaidLine.{SaidLine}
use Rattle.cmd_report.specs.declared.report.SaidMark.{SaidMark}
use Rattle.cmd_report.specs.declared.report.SaidMark.TheVariants.{Acknowledged, Undecided, Waiting}
use Rattle.cmd_schedule.proofs.Lists.{all_append, all_front, all_of}
use Rattle.sim_1_applications.specs.Devices.{Session, Sessions, epoch_of, up_put}
use Rattle.sim_1_applications.specs.Devices.Stage.{Known, Named}
use Rattle.sim_1_applications.specs.Kept.{AreNumbered, ArePast, IsNumbered, SessionsKept}
use Rattle.sim_1_applications.specs.Stanzas.{Submission, Up, messages}
use Rattle.sim_1_applications.specs.Stanzas.Up.{Carbons, Presence, Message, Query}
use Rattle.sim_1_applications.specs.Reported.{mark_of, said_among, said_in, said_line, said_of}

abbrev pub mark_at : ℕ → SaidMark → SaidMark
mark_at acked mark = cond (nat_lt 0 acked) Acknowledged mark

-- what holds of each message, however it is marked, holds of its line
pub all_said : (P : SaidLine → Type 0) (acked : ℕ) (mark : SaidMark) (zs : List Up) → AllByRecursion (λ m. (other : SaidMark) → P (said_line other m)) (messages zs) →
    AllByRecursion P (said_among acked mark zs)
all_said P acked mark [] all = tt
all_said P acked mark (Carbons ∷ zs) all = all_said P (acked - 1) mark zs all
all_said P acked mark (Presence ∷ zs) all = all_said P (acked - 1) mark zs all
all_said P acked mark (Query r ∷ zs) all = all_said P (acked - 1) mark zs all
all_said P acked mark (Message m ∷ zs) all = (all.0 (mark_at acked mark), all_said P (acked - 1) mark zs all.1)

-- and where none of them is acknowledged
pub all_unsaid : (P : SaidLine → Type 0) (mark : SaidMark) (zs : List Up) → AllByRecursion (λ m. P (said_line mark m)) (messages zs) → AllByRecursion P (said_among 0 mark zs)
all_unsaid P mark [] all = tt
all_unsaid P mark (Carbons ∷ zs) all = all_unsaid P mark zs all
all_unsaid P mark (Presence ∷ zs) all = all_unsaid P mark zs all
all_unsaid P mark (Query r ∷ zs) all = all_unsaid P mark zs all
all_unsaid P mark (Message m ∷ zs) all = (all.0, all_unsaid P mark zs all.1)

-- and the other way
pub each_said : (P : SaidLine → Type 0) (acked : ℕ) (mark : SaidMark) (zs : List Up) → AllByRecursion P (said_among acked mark zs) →
    AllByRecursion (λ m. (other : SaidMark) × P (said_line other m)) (messages zs)
each_said P acked mark [] all = tt
each_said P acked mark (Carbons ∷ zs) all = each_said P (acked - 1) mark zs all
each_said P acked mark (Presence ∷ zs) all = each_said P (acked - 1) mark zs all
each_said P acked mark (Query r ∷ zs) all = each_said P (acked - 1) mark zs all
each_said P acked mark (Message m ∷ zs) all = ((mark_at acked mark, all.0), each_said P (acked - 1) mark zs all.1)

-- the lines of stanzas and more stanzas
pub said_append : (acked : ℕ) (mark : SaidMark) (xs ys : List Up) → said_among acked mark (xs ++ ys) ≡ said_among acked mark xs ++ said_among (acked - length xs) mark ys
said_append acked mark [] ys = (let e : acked ≡ acked - 0 = omega arith in ap (λ k. said_among k mark ys) e)
said_append acked mark (Carbons ∷ xs) ys = said_append (acked - 1) mark xs ys ∙ (let e : acked - 1 - length xs ≡ acked - suc (length xs) = omega arith in ap (λ k. said_among (acked - 1) mark xs ++ said_among k mark ys) e)
said_append acked mark (Presence ∷ xs) ys = said_append (acked - 1) mark xs ys ∙ (let e : acked - 1 - length xs ≡ acked - suc (length xs) = omega arith in ap (λ k. said_among (acked - 1) mark xs ++ said_among k mark ys) e)
said_append acked mark (Query r ∷ xs) ys = said_append (acked - 1) mark xs ys ∙ (let e : acked - 1 - length xs ≡ acked - suc (length xs) = omega arith in ap (λ k. said_among (acked - 1) mark xs ++ said_among k mark ys) e)
said_append acked mark (Message m ∷ xs) ys =
    ap (λ ls. said_line (mark_at acked mark) m ∷ ls)
    (said_append (acked - 1) mark xs ys ∙ (let e : acked - 1 - length xs ≡ acked - suc (length xs) = omega arith in ap (λ k. said_among (acked - 1) mark xs ++ said_among k mark ys) e))

-- of a session, what was handled and what wasn't: nothing of that is acknowledged
pub said_parts : (mark : SaidMark) (s : Session) → s.acked ≤ length s.up_got → said_in mark s ≡ said_among s.acked mark s.up_got ++ said_among 0 mark s.up_rest
said_parts mark s low =
    said_append s.acked mark s.up_got s.up_rest ∙ (let e : s.acked - length s.up_got ≡ 0 = omega arith in ap (λ k. said_among s.acked mark s.up_got ++ said_among k mark s.up_rest) e)

-- numbers in a row
pub numbered_all : (e n : ℕ) (ms : List Submission) → AreNumbered e n ms → AllByRecursion (λ m. (m.epoch ≡ e) × (n < m.n)) ms
numbered_all e n [] known = tt
numbered_all e n (m ∷ ms) known = (
  (known.0, let is = known.1 in omega arith),
  AllByRecursion-weaker (λ k. (k.epoch ≡ e) × (suc n < k.n)) (λ k. (k.epoch ≡ e) × (n < k.n)) (λ k a. (a.0, let b = a.1 in omega arith)) ms (numbered_all e (suc n) ms known.2),
)

-- the lines of a session are of its epoch, above a number
pub lines_all : (e n acked : ℕ) (mark : SaidMark) (zs : List Up) → AreNumbered e n (messages zs) → AllByRecursion (λ l. (l.epoch ≡ e) × (n < l.n)) (said_among acked mark zs)
lines_all e n acked mark zs known =
    all_said (λ l. (l.epoch ≡ e) × (n < l.n)) acked mark zs
    (AllByRecursion-weaker (λ m. (m.epoch ≡ e) × (n < m.n)) (λ m. (other : SaidMark) → (m.epoch ≡ e) × (n < m.n)) (λ m is other. is) (messages zs) (numbered_all e n (messages zs) known))

-- before epoch 1 there are none
none_at_zero : (s : Session) → IsNumbered 0 s → up_put s ≡ []
none_at_zero s known =
    let named : s.stage ≡ Named = known.zero refl in
    let unknown : s.stage ≢ Known = λ e. let bad : ⊥ = cc in bad in
    ap (λ zs. zs ++ s.up_rest) (known.is_session.up_got unknown) ∙ known.is_session.up_rest unknown

session_lines : (e : ℕ) (mark : SaidMark) (s : Session) → IsNumbered e s → AllByRecursion (λ l. (l.epoch ≡ e) × (1 ≤ e)) (said_in mark s)
session_lines zero mark s known = subst (λ zs. AllByRecursion (λ l. (l.epoch ≡ 0) × (1 ≤ 0)) (said_among s.acked mark zs)) (sym (none_at_zero s known)) tt
session_lines (suc e) mark s known =
    AllByRecursion-weaker (λ l. (l.epoch ≡ suc e) × (0 < l.n)) (λ l. (l.epoch ≡ suc e) × (1 ≤ suc e)) (λ l is. (is.0, omega arith)) (said_in mark s) (lines_all (suc e) 0 s.acked mark (up_put s) known.numbers)

-- What holds of the lines of each session, and of lines of two, holds of all.

pub record Sessional (P : ℕ → Session → Type 0) (R : SaidLine → SaidLine → Type 0) : Type 0 where
  pub within : (e : ℕ) (mark : SaidMark) (s : Session) → IsNumbered e s → P e s → EachPair R (said_in mark s)
  pub across : (a b : SaidLine) → a.epoch < b.epoch → R a b

abbrev pub Each : (ℕ → Session → Type 0) → ℕ → List Session → Type 0
Each P e [] = Unit {0}
Each P e (s ∷ ss) = P e s × Each P (suc e) ss

pub pairs_append : (R : SaidLine → SaidLine → Type 0) (xs ys : List SaidLine) → EachPair R xs → EachPair R ys → AllByRecursion (λ x. AllByRecursion (R x) ys) xs → EachPair R (xs ++ ys)
pairs_append R [] ys first second between = second
pairs_append R (x ∷ xs) ys first second between = (all_append (R x) xs ys first.0 between.0, pairs_append R xs ys first.1 second between.1)

lines_from : (e : ℕ) (past : List Session) (now : Session) (mark : SaidMark) → ArePast e past → IsNumbered (e + length past) now →
    AllByRecursion (λ l. (e ≤ l.epoch) × (1 ≤ l.epoch) × (l.epoch ≤ e + length past)) (flat_map (said_in Undecided) past ++ said_in mark now)
lines_from e [] now mark known one =
    AllByRecursion-weaker (λ l. (l.epoch ≡ e + 0) × (1 ≤ e + 0)) (λ l. (e ≤ l.epoch) × (1 ≤ l.epoch) × (l.epoch ≤ e + 0)) (λ l is. let same = is.0 in let some = is.1 in (omega arith, omega arith, omega arith)) (said_in mark now)
    (session_lines (e + 0) mark now one)
lines_from e (s ∷ past) now mark known one =
    subst (AllByRecursion (λ l. (e ≤ l.epoch) × (1 ≤ l.epoch) × (l.epoch ≤ e + suc (length past)))) (sym (append_assoc (said_in Undecided s) (flat_map (said_in Undecided) past) (said_in mark now)))
    (all_append (λ l. (e ≤ l.epoch) × (1 ≤ l.epoch) × (l.epoch ≤ e + suc (length past))) (said_in Undecided s) (flat_map (said_in Undecided) past ++ said_in mark now)
    (AllByRecursion-weaker (λ l. (l.epoch ≡ e) × (1 ≤ e)) (λ l. (e ≤ l.epoch) × (1 ≤ l.epoch) × (l.epoch ≤ e + suc (length past))) (λ l is. let same = is.0 in let some = is.1 in (omega arith, omega arith, omega arith)) (said_in Undecided s) (session_lines e Undecided s known.0))
    (AllByRecursion-weaker (λ l. (suc e ≤ l.epoch) × (1 ≤ l.epoch) × (l.epoch ≤ suc e + length past)) (λ l. (e ≤ l.epoch) × (1 ≤ l.epoch) × (l.epoch ≤ e + suc (length past)))
    (λ l is. let low = is.0 in let high = is.2 in (omega arith, is.1, omega arith)) (flat_map (said_in Undecided) past ++ said_in mark now)
    (lines_from (suc e) past now mark known.1 (subst (λ k. IsNumbered k now) (let same : e + suc (length past) ≡ suc e + length past = omega arith in same) one))))

pairs_from : (P : ℕ → Session → Type 0) (R : SaidLine → SaidLine → Type 0) → Sessional P R → (e : ℕ) (past : List Session) (now : Session) (mark : SaidMark) → ArePast e past → IsNumbered (e + length past) now →
    Each P e past → P (e + length past) now → EachPair R (flat_map (said_in Undecided) past ++ said_in mark now)
pairs_from P R each e [] now mark known one first last = each.within (e + 0) mark now one last
pairs_from P R each e (s ∷ past) now mark known one first last =
    let same : e + suc (length past) ≡ suc e + length past = omega arith in
    let rest = flat_map (said_in Undecided) past ++ said_in mark now in
    subst (EachPair R) (sym (append_assoc (said_in Undecided s) (flat_map (said_in Undecided) past) (said_in mark now)))
    (pairs_append R (said_in Undecided s) rest (each.within e Undecided s known.0 first.0)
    (pairs_from P R each (suc e) past now mark known.1 (subst (λ k. IsNumbered k now) same one) first.1 (subst (λ k. P k now) same last))
    (AllByRecursion-weaker (λ l. (l.epoch ≡ e) × (1 ≤ e)) (λ a. AllByRecursion (R a) rest)
    (λ a is. AllByRecursion-weaker (λ l. (suc e ≤ l.epoch) × (1 ≤ l.epoch) × (l.epoch ≤ suc e + length past)) (R a) (λ b high. each.across a b (let mine = is.0 in let low = high.0 in omega arith)) rest
    (lines_from (suc e) past now mark known.1 (subst (λ k. IsNumbered k now) same one))) (said_in Undecided s) (session_lines e Undecided s known.0)))

now_numbered : (s : Sessions) → SessionsKept s → IsNumbered (0 + length s.past) s.now
now_numbered s kept = subst (λ k. IsNumbered k s.now) (let same : length s.past ≡ 0 + length s.past = omega arith in same) kept.now

pub said_pairs : (P : ℕ → Session → Type 0) (R : SaidLine → SaidLine → Type 0) → Sessional P R → (s : Sessions) → SessionsKept s → Each P 0 s.past → P (epoch_of s) s.now → EachPair R (said_of s)
said_pairs P R each s kept first last =
    pairs_from P R each 0 s.past s.now (mark_of s.online) kept.past (now_numbered s kept) first (subst (λ k. P k s.now) (let same : length s.past ≡ 0 + length s.past = omega arith in same) last)

not_acknowledged : (online : Bool) → mark_of online ≢ Acknowledged
not_acknowledged true is = let bad : ⊥ = cc in bad
not_acknowledged false is = let bad : ⊥ = cc in bad

-- the lines of each session have what its messages have
all_from : (P : ℕ → Session → Type 0) (Q : SaidLine → Type 0) → ((e : ℕ) (mark : SaidMark) (s : Session) → mark ≢ Acknowledged → IsNumbered e s → P e s → AllByRecursion Q (said_in mark s)) → (e : ℕ) (past : List Session) →
    ArePast e past → Each P e past → AllByRecursion Q (flat_map (said_in Undecided) past)
all_from P Q each e [] known first = tt
all_from P Q each e (s ∷ past) known first =
    all_append Q (said_in Undecided s) (flat_map (said_in Undecided) past) (each e Undecided s (λ is. let bad : ⊥ = cc in bad) known.0 first.0) (all_from P Q each (suc e) past known.1 first.1)

pub said_all : (P : ℕ → Session → Type 0) (Q : SaidLine → Type 0) → ((e : ℕ) (mark : SaidMark) (s : Session) → mark ≢ Acknowledged → IsNumbered e s → P e s → AllByRecursion Q (said_in mark s)) → (s : Sessions) → SessionsKept s →
    Each P 0 s.past → P (epoch_of s) s.now → AllByRecursion Q (said_of s)
said_all P Q each s kept first last =
    all_append Q (flat_map (said_in Undecided) s.past) (said_in (mark_of s.online) s.now) (all_from P Q each 0 s.past kept.past first) (each (epoch_of s) (mark_of s.online) s.now (not_acknowledged s.online) kept.now last)

-- epochs
pub said_epochs : (s : Sessions) → SessionsKept s → AllByRecursion (λ l. (1 ≤ l.epoch) × (l.epoch ≤ epoch_of s)) (said_of s)
said_epochs s kept =
    AllByRecursion-weaker (λ l. (0 ≤ l.epoch) × (1 ≤ l.epoch) × (l.epoch ≤ 0 + length s.past)) (λ l. (1 ≤ l.epoch) × (l.epoch ≤ epoch_of s)) (λ l is. (is.1, let high = is.2 in omega arith)) (said_of s)
    (lines_from 0 s.past s.now (mark_of s.online) kept.past (now_numbered s kept))

-- Numbers.

after_among : (e n acked : ℕ) (mark : SaidMark) (zs : List Up) (rest : List SaidLine) (last : SaidLine) → AreNumbered e n (messages zs) → last.epoch ≡ e → last.n ≡ n →
    ((l : SaidLine) → l.epoch ≡ e → AreNumberedAfter l rest) → AreNumberedAfter last (said_among acked mark zs ++ rest)
after_among e n acked mark [] rest last known epoch number more = more last epoch
after_among e n acked mark (Carbons ∷ zs) rest last known epoch number more = after_among e n (acked - 1) mark zs rest last known epoch number more
after_among e n acked mark (Presence ∷ zs) rest last known epoch number more = after_among e n (acked - 1) mark zs rest last known epoch number more
after_among e n acked mark (Query r ∷ zs) rest last known epoch number more = after_among e n (acked - 1) mark zs rest last known epoch number more
after_among e n acked mark (Message m ∷ zs) rest last known epoch number more = (
  inl (known.0 ∙ sym epoch, known.1 ∙ (let s : suc n ≡ last.n + 1 = omega arith in s)),
  after_among e (suc n) (acked - 1) mark zs rest (said_line (mark_at acked mark) m) known.2 known.0 known.1 more,
)

after_session : (e acked : ℕ) (mark : SaidMark) (zs : List Up) (rest : List SaidLine) (last : SaidLine) → AreNumbered e 0 (messages zs) → last.epoch < e →
    ((l : SaidLine) → l.epoch < suc e → AreNumberedAfter l rest) → AreNumberedAfter last (said_among acked mark zs ++ rest)
after_session e acked mark [] rest last known low more = more last (omega arith)
after_session e acked mark (Carbons ∷ zs) rest last known low more = after_session e (acked - 1) mark zs rest last known low more
after_session e acked mark (Presence ∷ zs) rest last known low more = after_session e (acked - 1) mark zs rest last known low more
after_session e acked mark (Query r ∷ zs) rest last known low more = after_session e (acked - 1) mark zs rest last known low more
after_session e acked mark (Message m ∷ zs) rest last known low more = (
  inr (let same = known.0 in let up : last.epoch < m.epoch = omega arith in up, known.1),
  after_among e 1 (acked - 1) mark zs rest (said_line (mark_at acked mark) m) known.2 known.0 known.1 (λ l is. more l (omega arith)),
)

first_session : (e acked : ℕ) (mark : SaidMark) (zs : List Up) (rest : List SaidLine) → AreNumbered e 0 (messages zs) → ((l : SaidLine) → l.epoch < suc e → AreNumberedAfter l rest) → AreSubmissions rest →
    AreSubmissions (said_among acked mark zs ++ rest)
first_session e acked mark [] rest known more others = others
first_session e acked mark (Carbons ∷ zs) rest known more others = first_session e (acked - 1) mark zs rest known more others
first_session e acked mark (Presence ∷ zs) rest known more others = first_session e (acked - 1) mark zs rest known more others
first_session e acked mark (Query r ∷ zs) rest known more others = first_session e (acked - 1) mark zs rest known more others
first_session e acked mark (Message m ∷ zs) rest known more others =
    (known.1, after_among e 1 (acked - 1) mark zs rest (said_line (mark_at acked mark) m) known.2 known.0 known.1 (λ l is. more l (omega arith)))

numbered_from : (e : ℕ) (past : List Session) (now : Session) (mark : SaidMark) → ArePast e past → IsNumbered (e + length past) now →
    ((last : SaidLine) → last.epoch < e → AreNumberedAfter last (flat_map (said_in Undecided) past ++ said_in mark now)) × AreSubmissions (flat_map (said_in Undecided) past ++ said_in mark now)
numbered_from e [] now mark known one =
    subst (λ ls. ((last : SaidLine) → last.epoch < e → AreNumberedAfter last ls) × AreSubmissions ls) (append-nil (said_in mark now))
    (λ last low. after_session (e + 0) now.acked mark (up_put now) [] last one.numbers (omega arith) (λ l under. tt), first_session (e + 0) now.acked mark (up_put now) [] one.numbers (λ l under. tt) tt)
numbered_from e (s ∷ past) now mark known one =
    let rest = flat_map (said_in Undecided) past ++ said_in mark now in
    let others = numbered_from (suc e) past now mark known.1 (subst (λ k. IsNumbered k now) (let same : e + suc (length past) ≡ suc e + length past = omega arith in same) one) in
    subst (λ ls. ((last : SaidLine) → last.epoch < e → AreNumberedAfter last ls) × AreSubmissions ls) (sym (append_assoc (said_in Undecided s) (flat_map (said_in Undecided) past) (said_in mark now)))
    (λ last low. after_session e s.acked Undecided (up_put s) rest last known.0.numbers low others.0, first_session e s.acked Undecided (up_put s) rest known.0.numbers others.0 others.1)

pub said_numbered : (s : Sessions) → SessionsKept s → AreSubmissions (said_of s)
said_numbered s kept = (numbered_from 0 s.past s.now (mark_of s.online) kept.past (now_numbered s kept)).1

-- Each is found by its epoch and number.

abbrev pub Apart : SaidLine → SaidLine → Type 0
Apart a b = a.epoch ≡ b.epoch → a.n < b.n

not_first : (x l : SaidLine) → Apart x l → (x.epoch == l.epoch && x.n == l.n) ≡ false
not_first x l apart = of_epoch (x.epoch == l.epoch) refl
  where
    of_epoch : (b : Bool) → (x.epoch == l.epoch) ≡ b → (x.epoch == l.epoch && x.n == l.n) ≡ false
    of_epoch true same = let low = apart (eqb-true x.epoch l.epoch same) in and_right (x.epoch == l.epoch) (x.n == l.n) (ne_eqb x.n l.n (λ e. omega arith))
    of_epoch false other = and_left (x.epoch == l.epoch) (x.n == l.n) other

pub all_both : (P Q S : SaidLine → Type 0) → ((x : SaidLine) → P x → Q x → S x) → (xs : List SaidLine) → AllByRecursion P xs → AllByRecursion Q xs → AllByRecursion S xs
all_both P Q S each [] first second = tt
all_both P Q S each (x ∷ xs) first second = (each x first.0 second.0, all_both P Q S each xs first.1 second.1)

found_all : (lines : List SaidLine) → EachPair Apart lines → AllByRecursion (λ l. submission l.epoch l.n lines ≡ Some l) lines
found_all [] pairs = tt
found_all (x ∷ lines) pairs = (
  let e = eq-eqb x.epoch x.epoch refl in let n = eq-eqb x.n x.n refl in ap (λ b. cond (b && x.n == x.n) (Some x) (submission x.epoch x.n lines)) e ∙ ap (λ b. cond b (Some x) (submission x.epoch x.n lines)) n,
  all_both (Apart x) (λ l. submission l.epoch l.n lines ≡ Some l) (λ l. submission l.epoch l.n (x ∷ lines) ≡ Some l)
      (λ l apart known. ap (λ b. cond b (Some x) (submission l.epoch l.n lines)) (not_first x l apart) ∙ known) lines pairs.0 (found_all lines pairs.1),
)

numbered_pairs : (e n acked : ℕ) (mark : SaidMark) (zs : List Up) → AreNumbered e n (messages zs) → EachPair Apart (said_among acked mark zs)
numbered_pairs e n acked mark [] known = tt
numbered_pairs e n acked mark (Carbons ∷ zs) known = numbered_pairs e n (acked - 1) mark zs known
numbered_pairs e n acked mark (Presence ∷ zs) known = numbered_pairs e n (acked - 1) mark zs known
numbered_pairs e n acked mark (Query r ∷ zs) known = numbered_pairs e n (acked - 1) mark zs known
numbered_pairs e n acked mark (Message m ∷ zs) known =
    let number = known.1 in (
      AllByRecursion-weaker (λ l. (l.epoch ≡ e) × (suc n < l.n)) (Apart (said_line (mark_at acked mark) m)) (λ l is same. let low = is.1 in omega arith) (said_among (acked - 1) mark zs) (lines_all e (suc n) (acked - 1) mark zs known.2),
      numbered_pairs e (suc n) (acked - 1) mark zs known.2,
    )

abbrev pub Nothing : ℕ → Session → Type 0
Nothing e s = Unit {0}

pub each_nothing : (e : ℕ) (ss : List Session) → Each Nothing e ss
each_nothing e [] = tt
each_nothing e (s ∷ ss) = (tt, each_nothing (suc e) ss)

pub said_apart : (s : Sessions) → SessionsKept s → EachPair Apart (said_of s)
said_apart s kept =
    said_pairs Nothing Apart (record { within = λ e mark t known nothing. numbered_pairs e 0 t.acked mark (up_put t) known.numbers; across = λ a b low same. absurd (omega arith) }) s kept (each_nothing 0 s.past) tt

-- the message is found, whatever its mark is
abbrev pub IsFound : List SaidLine → Submission → Type 0
IsFound lines m = (mark : SaidMark) × (submission m.epoch m.n lines ≡ Some (said_line mark m))

found_from : (lines : List SaidLine) (past : List Session) (rest : List SaidLine) → AllByRecursion (λ l. submission l.epoch l.n lines ≡ Some l) (flat_map (said_in Undecided) past ++ rest) →
    AllByRecursion (λ s. AllByRecursion (IsFound lines) (messages (up_put s))) past × AllByRecursion (λ l. submission l.epoch l.n lines ≡ Some l) rest
found_from lines [] rest all = (tt, all)
found_from lines (s ∷ past) rest all =
    let parts = subst (AllByRecursion (λ l. submission l.epoch l.n lines ≡ Some l)) (append_assoc (said_in Undecided s) (flat_map (said_in Undecided) past) rest) all in
    let others = found_from lines past rest (all_rest (said_in Undecided s) (flat_map (said_in Undecided) past ++ rest) parts) in
    ((each_said (λ l. submission l.epoch l.n lines ≡ Some l) s.acked Undecided (up_put s) (all_front (λ l. submission l.epoch l.n lines ≡ Some l) (said_in Undecided s) (flat_map (said_in Undecided) past ++ rest) parts), others.0), others.1)
  where
    all_rest : (xs ys : List SaidLine) → AllByRecursion (λ l. submission l.epoch l.n lines ≡ Some l) (xs ++ ys) → AllByRecursion (λ l. submission l.epoch l.n lines ≡ Some l) ys
    all_rest [] ys known = known
    all_rest (x ∷ xs) ys known = all_rest xs ys known.1

-- each submission of the device is found in its lines
pub said_found : (s : Sessions) → SessionsKept s → AllByRecursion (λ t. AllByRecursion (IsFound (said_of s)) (messages (up_put t))) (s.past ++ s.now ∷ [])
said_found s kept =
    let parts = found_from (said_of s) s.past (said_in (mark_of s.online) s.now) (found_all (said_of s) (said_apart s kept)) in
    all_append (λ t. AllByRecursion (IsFound (said_of s)) (messages (up_put t))) s.past (s.now ∷ []) parts.0
    (each_said (λ l. submission l.epoch l.n (said_of s) ≡ Some l) s.now.acked (mark_of s.online) (up_put s.now) parts.1, tt)

-- each session has it, and the last one
pub each_of : (Q : Session → Type 0) (e : ℕ) (past : List Session) (now : Session) → AllByRecursion Q (past ++ now ∷ []) → Each (λ n s. Q s) e past × Q now
each_of Q e [] now all = (tt, all.0)
each_of Q e (s ∷ past) now all = let rest = each_of Q (suc e) past now all.1 in ((all.0, rest.0), rest.1)

-- the lines of past sessions are of earlier epochs
pub past_below : (e : ℕ) (past : List Session) → ArePast e past → AllByRecursion (λ l. (l.epoch < e + length past) × (l.state ≢ Waiting)) (flat_map (said_in Undecided) past)
past_below e [] known = tt
past_below e (s ∷ past) known =
    all_append (λ l. (l.epoch < e + suc (length past)) × (l.state ≢ Waiting)) (said_in Undecided s) (flat_map (said_in Undecided) past)
    (all_both (λ l. (l.epoch ≡ e) × (1 ≤ e)) (λ l. l.state ≢ Waiting) (λ l. (l.epoch < e + suc (length past)) × (l.state ≢ Waiting)) (λ l is not. (let same = is.0 in omega arith, not))
    (said_in Undecided s) (session_lines e Undecided s known.0) (never_waits s.acked (up_put s)))
    (AllByRecursion-weaker (λ l. (l.epoch < suc e + length past) × (l.state ≢ Waiting)) (λ l. (l.epoch < e + suc (length past)) × (l.state ≢ Waiting)) (λ l is. (let low = is.0 in omega arith, is.1))
    (flat_map (said_in Undecided) past) (past_below (suc e) past known.1))
  where
    not_waiting : (b : Bool) → cond b Acknowledged Undecided ≢ Waiting
    not_waiting true is = let bad : ⊥ = cc in bad
    not_waiting false is = let bad : ⊥ = cc in bad

    never_waits : (acked : ℕ) (zs : List Up) → AllByRecursion (λ l. l.state ≢ Waiting) (said_among acked Undecided zs)
    never_waits acked [] = tt
    never_waits acked (Carbons ∷ zs) = never_waits (acked - 1) zs
    never_waits acked (Presence ∷ zs) = never_waits (acked - 1) zs
    never_waits acked (Query r ∷ zs) = never_waits (acked - 1) zs
    never_waits acked (Message m ∷ zs) = (not_waiting (nat_lt 0 acked), never_waits (acked - 1) zs)

-- where no message is behind what is acknowledged, all are
pub all_acknowledged : (acked : ℕ) (mark : SaidMark) (zs : List Up) → messages (drop acked zs) ≡ [] → AllByRecursion (λ l. l.state ≡ Acknowledged) (said_among acked mark zs)
all_acknowledged acked mark [] none = tt
all_acknowledged zero mark (Carbons ∷ zs) none = all_acknowledged 0 mark zs none
all_acknowledged zero mark (Presence ∷ zs) none = all_acknowledged 0 mark zs none
all_acknowledged zero mark (Query r ∷ zs) none = all_acknowledged 0 mark zs none
all_acknowledged zero mark (Message m ∷ zs) none = absurd (let bad : ⊥ = cc in bad)
all_acknowledged (suc k) mark (Carbons ∷ zs) none = subst (λ a. AllByRecursion (λ l. l.state ≡ Acknowledged) (said_among a mark zs)) (let e : k ≡ suc k - 1 = omega arith in e) (all_acknowledged k mark zs none)
all_acknowledged (suc k) mark (Presence ∷ zs) none = subst (λ a. AllByRecursion (λ l. l.state ≡ Acknowledged) (said_among a mark zs)) (let e : k ≡ suc k - 1 = omega arith in e) (all_acknowledged k mark zs none)
all_acknowledged (suc k) mark (Query r ∷ zs) none = subst (λ a. AllByRecursion (λ l. l.state ≡ Acknowledged) (said_among a mark zs)) (let e : k ≡ suc k - 1 = omega arith in e) (all_acknowledged k mark zs none)
all_acknowledged (suc k) mark (Message m ∷ zs) none = (
  ap (λ b. cond b Acknowledged mark) (let e : nat_lt 0 (suc k) ≡ true = lt-ltb 0 (suc k) (omega arith) in e),
  subst (λ a. AllByRecursion (λ l. l.state ≡ Acknowledged) (said_among a mark zs)) (let e : k ≡ suc k - 1 = omega arith in e) (all_acknowledged k mark zs none),
)

-- what is acknowledged comes first
pub acknowledged_first : (acked : ℕ) (mark : SaidMark) (zs : List Up) → EachPair (λ a b. b.state ≡ Acknowledged → a.state ≡ Acknowledged) (said_among acked mark zs)
acknowledged_first acked mark [] = tt
acknowledged_first acked mark (Carbons ∷ zs) = acknowledged_first (acked - 1) mark zs
acknowledged_first acked mark (Presence ∷ zs) = acknowledged_first (acked - 1) mark zs
acknowledged_first acked mark (Query r ∷ zs) = acknowledged_first (acked - 1) mark zs
acknowledged_first zero mark (Message m ∷ zs) = (all_marked mark zs, acknowledged_first 0 mark zs)
  where
    all_marked : (other : SaidMark) (ys : List Up) → AllByRecursion (λ l. l.state ≡ Acknowledged → other ≡ Acknowledged) (said_among 0 other ys)
    all_marked other [] = tt
    all_marked other (Carbons ∷ ys) = all_marked other ys
    all_marked other (Presence ∷ ys) = all_marked other ys
    all_marked other (Query r ∷ ys) = all_marked other ys
    all_marked other (Message k ∷ ys) = (λ is. is, all_marked other ys)
acknowledged_first (suc k) mark (Message m ∷ zs) =
    let hit : cond (nat_lt 0 (suc k)) Acknowledged mark ≡ Acknowledged = ap (λ b. cond b Acknowledged mark) (lt-ltb 0 (suc k) (omega arith)) in
    (all_of (λ l. l.state ≡ Acknowledged → cond (nat_lt 0 (suc k)) Acknowledged mark ≡ Acknowledged) (λ l is. hit) (said_among (suc k - 1) mark zs), acknowledged_first (suc k - 1) mark zs)
