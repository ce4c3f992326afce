-- Messages that are held: one more, and those that leave with a page.
use Rattle.std.proofs.Common.{◌≡◌, ◌≢◌, ℕ, suc, ◌+◌, ◌<◌, ◌≤◌, Bool, true, false, cond, not, ◌&&◌, ◌||◌, List, [], ◌∷◌, ◌++◌, String, length, drop, get_or, filter, arith, refl, sym, ap, subst, append_assoc, ◌∙◌}
use Rattle.std.proofs.Math.Bool.{or-false}
use Rattle.std.proofs.Math.Seq.{drop-cons}
use Rattle.std.proofs.lemmas.Bool.{false≢true}
use Rattle.std.proofs.lemmas.List.{map-append, length-append}
use Rattle.std.proofs.lemmas.List.Folds.{list_any-append}
use Rattle.std.proofs.lemmas.List.Kept.{AllPairs-cons}
use Rattle.std.proofs.lemmas.Slice.Eq.{bytes_eq-Decides}
use Rattle.std.specs.BTreeSet.{BTreeSet, btree_set_len, contains_text}
use Rattle.std.specs.List.{AllByRecursion, AllPairs}
use Rattle.std.specs.Str.{bytes_eq}
use Rattle.mam_log.proofs.Orders.{bytes_eq-sym}
use Rattle.mam_log.proofs.Tilings.{differs}
use Rattle.mam_log.specs.HeldIds.{AreApart, IsIndexOf}
use Rattle.mam_log.specs.LogPages.{ids_of}
use Rattle.mam_log.specs.Views.{is_among, unheld}
use Rattle.mam_log.specs.declared.log_entry.LogEntry.{LogEntry}

-- ---- what stays

absorbed : (t m n : Bool) → (t ≡ true → n ≡ true) → (m && not n) ≡ ((t || m) && not n)
absorbed false m n s = refl
absorbed true m true s = grind arith
absorbed true m false s = absurd (false≢true (s refl))

kept_at : (t m n : Bool) → (t ≡ true → n ≡ false) → (t || (m && not n)) ≡ ((t || m) && not n)
kept_at false m n s = refl
kept_at true m false s = refl
kept_at true m true s = absurd (false≢true (sym (s refl)))

among_step : (q : List ℕ) (e : LogEntry) (r : List LogEntry) (m n b : Bool) → is_among q (ids_of r) ≡ (m && not n) → (bytes_eq q e.id ≡ true → n ≡ b) → is_among q (ids_of (cond (not b) (e ∷ r) r)) ≡ ((bytes_eq q e.id || m) && not n)
among_step q e r m n true h same = h ∙ absorbed (bytes_eq q e.id) m n same
among_step q e r m n false h same = ap (λ t. bytes_eq q e.id || t) h ∙ kept_at (bytes_eq q e.id) m n same

-- an id stands among those that stay where it stood among all and is none of those that leave
pub among_unheld : (q : List ℕ) (ids : List (List ℕ)) (held : List LogEntry) → is_among q (ids_of (unheld ids held)) ≡ (is_among q (ids_of held) && not (is_among q ids))
among_unheld q ids [] = refl
among_unheld q ids (e ∷ es) =
    among_step q e (unheld ids es) (is_among q (ids_of es)) (is_among q ids) (is_among e.id ids) (among_unheld q ids es) (λ t. ap (λ i. is_among i ids) ((bytes_eq-Decides q e.id).0 t))

more_step : (b : Bool) (id : List ℕ) (e : LogEntry) (a r : List LogEntry) → a ≡ unheld (id ∷ []) r → cond (not (b || is_among e.id (id ∷ []))) (e ∷ a) a ≡ unheld (id ∷ []) (cond (not b) (e ∷ r) r)
more_step true id e a r h = h
more_step false id e a r h = ap (λ es. cond (not (is_among e.id (id ∷ []))) (e ∷ es) es) h

-- what leaves in two steps
pub unheld_more : (ids : List (List ℕ)) (id : List ℕ) (held : List LogEntry) → unheld (ids ++ id ∷ []) held ≡ unheld (id ∷ []) (unheld ids held)
unheld_more ids id [] = refl
unheld_more ids id (e ∷ es) =
    ap (λ t. cond (not t) (e ∷ unheld (ids ++ id ∷ []) es) (unheld (ids ++ id ∷ []) es)) (list_any-append (λ other. bytes_eq e.id other) ids (id ∷ []))
    ∙ more_step (is_among e.id ids) id e (unheld (ids ++ id ∷ []) es) (unheld ids es) (unheld_more ids id es)

-- where no id is given, all stay
pub unheld_nothing : (held : List LogEntry) → unheld [] held ≡ held
unheld_nothing [] = refl
unheld_nothing (e ∷ es) = ap (λ r. e ∷ r) (unheld_nothing es)

first_false : (a b : Bool) → (a || b) ≡ false → a ≡ false
first_false false b h = refl
first_false true b h = h

second_false : (a b : Bool) → (a || b) ≡ false → b ≡ false
second_false false b h = h
second_false true b h = absurd (false≢true (sym h))

-- an id that is not held leaves nothing out
unheld_none : (id : List ℕ) (held : List LogEntry) → is_among id (ids_of held) ≡ false → unheld (id ∷ []) held ≡ held
unheld_none id [] h = refl
unheld_none id (e ∷ es) h =
    let other : is_among e.id (id ∷ []) ≡ false = or-false (bytes_eq e.id id) ∙ (bytes_eq-sym e.id id ∙ first_false (bytes_eq id e.id) (is_among id (ids_of es)) h) in
    ap (λ t. cond (not t) (e ∷ unheld (id ∷ []) es) (unheld (id ∷ []) es)) other
    ∙ ap (λ r. e ∷ r) (unheld_none id es (second_false (bytes_eq id e.id) (is_among id (ids_of es)) h))

-- an id that is held once leaves one out
one_step : (b : Bool) (id : List ℕ) (e : LogEntry) (es : List LogEntry) → b ≡ bytes_eq id e.id → (is_among e.id (ids_of es) ≡ false) → (is_among id (ids_of es) ≡ true → length (unheld (id ∷ []) es) + 1 ≡ length es) → (b || is_among id (ids_of es)) ≡ true →
    length (cond (not b) (e ∷ unheld (id ∷ []) es) (unheld (id ∷ []) es)) + 1 ≡ length es + 1
one_step true id e es t apart rest h =
    let same : id ≡ e.id = (bytes_eq-Decides id e.id).0 (sym t) in
    ap (λ (r : List LogEntry). length r + 1) (unheld_none id es (subst (λ i. is_among i (ids_of es) ≡ false) (sym same) apart))
one_step false id e es t apart rest h = omega (arith, rest h)

unheld_one : (id : List ℕ) (held : List LogEntry) → AreApart held → is_among id (ids_of held) ≡ true → length (unheld (id ∷ []) held) + 1 ≡ length held
unheld_one id [] apart h = absurd (false≢true h)
unheld_one id (e ∷ es) apart h =
    let back : is_among e.id (id ∷ []) ≡ bytes_eq id e.id = or-false (bytes_eq e.id id) ∙ bytes_eq-sym e.id id in
    let rest = one_step (bytes_eq id e.id) id e es refl apart.0 (unheld_one id es apart.1) h in
    ap (λ t. length (cond (not t) (e ∷ unheld (id ∷ []) es) (unheld (id ∷ []) es)) + 1) back ∙ (rest ∙ omega arith)

apart_step : (b : Bool) (ids : List (List ℕ)) (e : LogEntry) (es : List LogEntry) → is_among e.id (ids_of es) ≡ false → AreApart (unheld ids es) → AreApart (cond (not b) (e ∷ unheld ids es) (unheld ids es))
apart_step true ids e es h rest = rest
apart_step false ids e es h rest = (among_unheld e.id ids es ∙ ap (λ t. t && not (is_among e.id ids)) h, rest)

pub apart-unheld : (ids : List (List ℕ)) (held : List LogEntry) → AreApart held → AreApart (unheld ids held)
apart-unheld ids [] h = tt
apart-unheld ids (e ∷ es) h = apart_step (is_among e.id ids) ids e es h.0 (apart-unheld ids es h.1)

among_push : (q : List ℕ) (held : List LogEntry) (e : LogEntry) → is_among q (ids_of (held ++ e ∷ [])) ≡ (is_among q (ids_of held) || bytes_eq q e.id)
among_push q held e =
    ap (λ ids. is_among q ids) (map-append (λ (d : LogEntry). d.id) held (e ∷ []))
    ∙ (list_any-append (λ other. bytes_eq q other) (ids_of held) (e.id ∷ []) ∙ ap (λ t. is_among q (ids_of held) || t) (or-false (bytes_eq q e.id)))

none_of_both : (a b : Bool) → a ≡ false → b ≡ false → (a || b) ≡ false
none_of_both a b h k = rw (h, k) refl

apart-push : (held : List LogEntry) (e : LogEntry) → AreApart held → is_among e.id (ids_of held) ≡ false → AreApart (held ++ e ∷ [])
apart-push [] e h none = (refl, tt)
apart-push (d ∷ ds) e h none = (
  among_push d.id ds e ∙ none_of_both (is_among d.id (ids_of ds)) (bytes_eq d.id e.id) h.0 (bytes_eq-sym d.id e.id ∙ first_false (bytes_eq e.id d.id) (is_among e.id (ids_of ds)) none),
  apart-push ds e h.1 (second_false (bytes_eq e.id d.id) (is_among e.id (ids_of ds)) none),
)

pub apart_pairs : (held : List LogEntry) → AreApart held → AllPairs (λ a b. a ≢ b) (ids_of held)
apart_pairs [] h = λ i j d below above. absurd (omega arith)
apart_pairs (e ∷ es) h = AllPairs-cons (λ (a b : List ℕ). a ≢ b) e.id (ids_of es) (λ k d low same. differs (ids_of es) e.id h.0 k d low (sym same)) (apart_pairs es h.1)

-- ---- the set beside them

removed_at : (t q m : Bool) → cond t false m ≡ (m && not t)
removed_at true q false = refl
removed_at true q true = refl
removed_at false q false = refl
removed_at false q true = refl

count_removed : (found : Bool) (id : List ℕ) (held : List LogEntry) (n : ℕ) → AreApart held → is_among id (ids_of held) ≡ found → n + cond found 1 0 ≡ length held → n ≡ length (unheld (id ∷ []) held)
count_removed true id held n apart h c = omega (arith, unheld_one id held apart h, c)
count_removed false id held n apart h c = rw (unheld_none id held h) (omega (arith, c))

pub IsIndexOf-removed : {A : Type 0} (id : List ℕ) (ids new : BTreeSet (String A)) (found : Bool) (held : List LogEntry) → ((q : List ℕ) → contains_text new q ≡ cond (bytes_eq id q) false (contains_text ids q)) → found ≡ contains_text ids id → btree_set_len new + cond found 1 0 ≡ btree_set_len ids → IsIndexOf ids held → IsIndexOf new (unheld (id ∷ []) held)
IsIndexOf-removed id ids new found held updates is count h = record {
  finds = λ q.
      updates q ∙ (removed_at (bytes_eq id q) true (contains_text ids q)
      ∙ (ap (λ t. t && not (bytes_eq id q)) (h.finds q)
      ∙ (ap (λ t. is_among q (ids_of held) && not t) (bytes_eq-sym id q ∙ sym (or-false (bytes_eq q id))) ∙ sym (among_unheld q (id ∷ []) held))));
  apart = apart-unheld (id ∷ []) held h.apart;
  count = count_removed found id held (btree_set_len new) h.apart (sym (h.finds id) ∙ sym is) (count ∙ h.count);
}

added_at : (t m : Bool) → cond t true m ≡ (m || t)
added_at true false = refl
added_at true true = refl
added_at false false = refl
added_at false true = refl

pub IsIndexOf-added : {A : Type 0} (id : List ℕ) (ids new : BTreeSet (String A)) (held : List LogEntry) (e : LogEntry) → id ≡ e.id → ((q : List ℕ) → contains_text new q ≡ cond (bytes_eq id q) true (contains_text ids q)) → btree_set_len new ≡ btree_set_len ids + 1 → is_among e.id (ids_of held) ≡ false → IsIndexOf ids held → IsIndexOf new (held ++ e ∷ [])
IsIndexOf-added id ids new held e same updates count none h = record {
  finds = λ q.
      updates q ∙ (added_at (bytes_eq id q) (contains_text ids q)
      ∙ (ap (λ t. t || bytes_eq id q) (h.finds q)
      ∙ (ap (λ t. is_among q (ids_of held) || t) (ap (λ i. bytes_eq i q) same ∙ bytes_eq-sym e.id q) ∙ sym (among_push q held e))));
  apart = apart-push held e h.apart none;
  count = count ∙ (ap (λ n. n + 1) h.count ∙ sym (length-append held (e ∷ [])));
}

-- ---- by the set alone

found_at : (a b c : Bool) → b ≡ true → (a || (b || c)) ≡ true
found_at true b c h = refl
found_at false b c h = ap (λ t. t || c) h

all_among : (before held : List LogEntry) → AllByRecursion (λ (e : LogEntry). is_among e.id (ids_of (before ++ held)) ≡ true) held
all_among before [] = tt
all_among before (e ∷ es) = (
  ap (λ ids. is_among e.id ids) (map-append (λ (d : LogEntry). d.id) before (e ∷ es))
      ∙ (list_any-append (λ other. bytes_eq e.id other) (ids_of before) (ids_of (e ∷ es)) ∙ found_at (is_among e.id (ids_of before)) (bytes_eq e.id e.id) (is_among e.id (ids_of es)) ((bytes_eq-Decides e.id e.id).1 refl)),
  subst (λ (all : List LogEntry). AllByRecursion (λ (d : LogEntry). is_among d.id (ids_of all) ≡ true) es) (append_assoc before (e ∷ []) es) (all_among (before ++ e ∷ []) es),
)

filter_found : (has : List ℕ → Bool) (ids : List (List ℕ)) (all held : List LogEntry) → ((q : List ℕ) → has q ≡ (is_among q (ids_of all) && not (is_among q ids))) → AllByRecursion (λ (e : LogEntry). is_among e.id (ids_of all) ≡ true) held → filter (λ (e : LogEntry). has e.id) held ≡ unheld ids held
filter_found has ids all [] finds among = refl
filter_found has ids all (e ∷ es) finds among = rw (finds e.id, among.0, filter_found has ids all es finds among.1) refl

-- those that the set still has are those that stay
pub found_unheld : {A : Type 0} (ids : BTreeSet (String A)) (gone : List (List ℕ)) (held : List LogEntry) → IsIndexOf ids (unheld gone held) → filter (λ (e : LogEntry). contains_text ids e.id) held ≡ unheld gone held
found_unheld ids gone held h = filter_found (λ q. contains_text ids q) gone held held (λ q. h.finds q ∙ among_unheld q gone held) (all_among [] held)

-- one that the set doesn't have is passed
pub filter_pass : (has : List ℕ → Bool) (items : List LogEntry) (at : ℕ) (d : LogEntry) → at < length items → has (get_or items at d).id ≡ false → filter (λ (e : LogEntry). has e.id) (drop (at + 1) items) ≡ filter (λ (e : LogEntry). has e.id) (drop at items)
filter_pass has items at d low none =
    let step : at + 1 ≡ suc at = omega arith in
    let rest : List LogEntry = filter (λ (e : LogEntry). has e.id) (drop (suc at) items) in
    ap (λ n. filter (λ (e : LogEntry). has e.id) (drop n items)) step
    ∙ (ap (λ t. cond t (get_or items at d ∷ rest) rest) (sym none) ∙ ap (λ es. filter (λ (e : LogEntry). has e.id) es) (sym (drop-cons items at d low)))

short_step : (b : Bool) (e : LogEntry) (r es : List LogEntry) → length r ≤ length es → length (cond b (e ∷ r) r) ≤ length (e ∷ es)
short_step true e r es h = omega (arith, h)
short_step false e r es h = omega (arith, h)

filter_short : (p : LogEntry → Bool) (held : List LogEntry) → length (filter p held) ≤ length held
filter_short p [] = omega arith
filter_short p (e ∷ es) = short_step (p e) e (filter p es) es (filter_short p es)

whole_step : (b : Bool) (e : LogEntry) (r es : List LogEntry) → length r ≤ length es → (length r ≡ length es → r ≡ es) → length (cond b (e ∷ r) r) ≡ length (e ∷ es) → cond b (e ∷ r) r ≡ e ∷ es
whole_step true e r es short rest h = ap (λ xs. e ∷ xs) (rest (omega (arith, h)))
whole_step false e r es short rest h = absurd (omega (arith, h, short))

-- a list of which no fewer pass passes whole
pub filter_whole : (p : LogEntry → Bool) (held : List LogEntry) → length (filter p held) ≡ length held → filter p held ≡ held
filter_whole p [] h = refl
filter_whole p (e ∷ es) h = whole_step (p e) e (filter p es) es (filter_short p es) (filter_whole p es) h
