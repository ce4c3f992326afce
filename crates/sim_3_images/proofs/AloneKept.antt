-- A connection has one session at most.
use Rattle.std.proofs.Common.{◌≡◌, ◌==◌, ℕ, Bool, true, false, cond, not, List, [], ◌∷◌, ◌++◌, Option, Some, None, refl, sym, ap, ◌∙◌}
use Rattle.std.proofs.lemmas.Bool.{eq-eqb, eqb-true}
use Rattle.std.proofs.lemmas.Option.{none-some, same_Some}
use Rattle.std.specs.List.{AllByRecursion, filter, find}
use Rattle.sim_3_images.proofs.ConnsKept.{all_filtered}
use Rattle.sim_3_images.specs.Stands.{Alone, Apart}
use Rattle.sm_live.specs.Sessions.{Session, after_resume, is_at, is_too_high, less, resumes, with_session, without}
use Rattle.sm_resumption.specs.Rows.{is_some_number}
use Rattle.xml_writer.specs.Items.{ItemOut}

abbrev Sessions : Type 0
Sessions = List (Session ItemOut)

pub alone_filtered : (q : Session ItemOut → Bool) (l : Sessions) → Alone l → Alone (filter q l)
alone_filtered q [] a = tt
alone_filtered q (t ∷ l) a = by (alone_filtered q l a.1) (q t)
  where
    by : Alone (filter q l) → (b : Bool) → Alone (cond b (t ∷ filter q l) (filter q l))
    by rest true = (all_filtered (Apart t) (Apart t) q l (λ u x e. x) a.0, rest)
    by rest false = rest

-- ---- one that is changed, on its connection

abbrev pub Keeps : (Session ItemOut → Session ItemOut) → Type 0
Keeps f = (t : Session ItemOut) → ((f t).shown.number ≡ t.shown.number) × ((f t).shown.conn ≡ t.shown.conn)

apart_as : (t t' u u' : Session ItemOut) → t'.shown.number ≡ t.shown.number → t'.shown.conn ≡ t.shown.conn → u'.shown.number ≡ u.shown.number → u'.shown.conn ≡ u.shown.conn → Apart t u → Apart t' u'
apart_as t t' u u' tn tc un uc a k x y = tn ∙ a k (sym tc ∙ x) (sym uc ∙ y) ∙ sym un

changed_number : (m : ℕ) (f : Session ItemOut → Session ItemOut) → Keeps f → (t : Session ItemOut) (b : Bool) → ((cond b (f t) t).shown.number ≡ t.shown.number) × ((cond b (f t) t).shown.conn ≡ t.shown.conn)
changed_number m f keeps t true = keeps t
changed_number m f keeps t false = (refl, refl)

apart_all : (m : ℕ) (f : Session ItemOut → Session ItemOut) → Keeps f → (t t' : Session ItemOut) → t'.shown.number ≡ t.shown.number → t'.shown.conn ≡ t.shown.conn → (l : Sessions) → AllByRecursion (Apart t) l → AllByRecursion (Apart t') (with_session m f l)
apart_all m f keeps t t' tn tc [] a = tt
apart_all m f keeps t t' tn tc (u ∷ l) a =
    let same = changed_number m f keeps u (u.shown.number == m) in
    (apart_as t t' u (cond (u.shown.number == m) (f u) u) tn tc same.0 same.1 a.0, apart_all m f keeps t t' tn tc l a.1)

pub alone_changed : (m : ℕ) (f : Session ItemOut → Session ItemOut) → Keeps f → (l : Sessions) → Alone l → Alone (with_session m f l)
alone_changed m f keeps [] a = tt
alone_changed m f keeps (t ∷ l) a =
    let same = changed_number m f keeps t (t.shown.number == m) in
    (apart_all m f keeps t (cond (t.shown.number == m) (f t) t) same.0 same.1 l a.0, alone_changed m f keeps l a.1)

-- ---- one that comes

-- none of these is on the connection
abbrev pub NoneAt : ℕ → Sessions → Type 0
NoneAt k l = AllByRecursion (λ (t : Session ItemOut). is_at k t ≡ false) l

not_there : (k : ℕ) (o : Option ℕ) → is_some_number k o ≡ false → o ≡ Some k → ⊥
not_there k None apart is = none-some k is
not_there k (Some q) apart is = true_is_not (sym (eq-eqb q k (same_Some q k is)) ∙ apart)
  where
    true_is_not : true ≡ false → ⊥
    true_is_not e = cc

joins : (k : ℕ) (x : Session ItemOut) (l : Sessions) → x.shown.conn ≡ Some k → NoneAt k l → Alone l → Alone (l ++ x ∷ [])
joins k x [] is none a = (tt, tt)
joins k x (t ∷ l) is none a = (more l a.0, joins k x l is none.1 a.1)
  where
    more : (l : Sessions) → AllByRecursion (Apart t) l → AllByRecursion (Apart t) (l ++ x ∷ [])
    more [] all = ((λ q tc xc. absurd (not_there k t.shown.conn none.0 (tc ∙ ap Some (same_Some q k (sym xc ∙ is))))), tt)
    more (u ∷ l) all = (all.0, more l all.1)

pub none_less : (k : ℕ) (o : Option (Session ItemOut)) (l : Sessions) → NoneAt k l → NoneAt k (less o l)
none_less k None l none = none
none_less k (Some t) l none = all_filtered (λ u. is_at k u ≡ false) (λ u. is_at k u ≡ false) (λ u. not (u.shown.number == t.shown.number)) l (λ u x e. x) none

pub alone_less : (o : Option (Session ItemOut)) (l : Sessions) → Alone l → Alone (less o l)
alone_less None l a = a
alone_less (Some t) l a = alone_filtered (λ u. not (u.shown.number == t.shown.number)) l a

pub alone_joined : (k : ℕ) (o : Option (Session ItemOut)) (x : Session ItemOut) (l : Sessions) → x.shown.conn ≡ Some k → NoneAt k l → Alone l → Alone (less o l ++ x ∷ [])
alone_joined k o x l is none a = joins k x (less o l) is (none_less k o l none) (alone_less o l a)

-- ---- one that is resumed

resumed_pair : (h k m : ℕ) (t u : Session ItemOut) → is_at k t ≡ false → is_at k u ≡ false → (b c : Bool) → (t.shown.number == m) ≡ b → (u.shown.number == m) ≡ c → Apart t u → Apart (cond b (resumes h k t) t) (cond c (resumes h k u) u)
resumed_pair h k m t u nt nu true true eb ec a q x y = eqb-true t.shown.number m eb ∙ sym (eqb-true u.shown.number m ec)
resumed_pair h k m t u nt nu true false eb ec a q x y = absurd (not_there k u.shown.conn nu (y ∙ sym x))
resumed_pair h k m t u nt nu false true eb ec a q x y = absurd (not_there k t.shown.conn nt (x ∙ sym y))
resumed_pair h k m t u nt nu false false eb ec a q x y = a q x y

resumed_all : (h k m : ℕ) (t : Session ItemOut) → is_at k t ≡ false → (l : Sessions) → NoneAt k l → AllByRecursion (Apart t) l → AllByRecursion (Apart (cond (t.shown.number == m) (resumes h k t) t)) (with_session m (resumes h k) l)
resumed_all h k m t nt [] none a = tt
resumed_all h k m t nt (u ∷ l) none a = (resumed_pair h k m t u nt none.0 (t.shown.number == m) (u.shown.number == m) refl refl a.0, resumed_all h k m t nt l none.1 a.1)

alone_resumes : (h k m : ℕ) (l : Sessions) → NoneAt k l → Alone l → Alone (with_session m (resumes h k) l)
alone_resumes h k m [] none a = tt
alone_resumes h k m (t ∷ l) none a = (resumed_all h k m t none.0 l none.1 a.0, alone_resumes h k m l none.1 a.1)

pub alone_resumed : (h k : ℕ) (o : Option (Session ItemOut)) (l : Sessions) → NoneAt k l → Alone l → Alone (after_resume h k o l)
alone_resumed h k None l none a = a
alone_resumed h k (Some t) l none a = by (is_too_high h t)
  where
    by : (b : Bool) → Alone (cond b (without t.shown.number l) (with_session t.shown.number (resumes h k) l))
    by true = alone_filtered (λ u. not (u.shown.number == t.shown.number)) l a
    by false = alone_resumes h k t.shown.number l none a

-- ---- one that is there

pub all_apart : (q : Session ItemOut → Bool) (l : Sessions) → find q l ≡ None → AllByRecursion (λ u. q u ≡ false) l
all_apart q [] none = tt
all_apart q (x ∷ l) none = by (all_apart q l) (q x) refl none
  where
    by : (find q l ≡ None → AllByRecursion (λ u. q u ≡ false) l) → (b : Bool) → q x ≡ b → cond b (Some x) (find q l) ≡ None → AllByRecursion (λ u. q u ≡ false) (x ∷ l)
    by rest true e none = absurd (none-some x (sym none))
    by rest false e none = (e, rest none)
