-- Looks: those that note nothing new, and those of one device.
use Rattle.std.proofs.Common.{◌≡◌, ◌≢◌, ◌≤◌, ◌+◌, ℕ, zero, suc, List, [], ◌∷◌, Option, Some, None, length, refl, sym, ap, ap₂, ◌∙◌, arith}
use Rattle.std.proofs.lemmas.Option.{slice_get_past}
use Rattle.std.specs.Prelude.{slice_get}
use Rattle.cl_intents.proofs.Again.{look_again}
use Rattle.cl_intents.specs.Intents.{IntentsView, observed}
use Rattle.cmd_network.specs.Devices.{DeviceState}
use Rattle.cmd_network.specs.Positions.{changed_at}
use Rattle.cmd_world.specs.Worlds.{ByteWorld}
use Rattle.cmd_resolving.specs.Expansion.{Watching, looked_at, observed_by, observed_from}
use Rattle.cmd_deciding.specs.Looks.{HasLooked, looked_once}
use Rattle.cmd_deciding.proofs.Changed.{changed_same, head_same, tail_same}

-- ---- again

once_more : (o : Option DeviceState) (v : IntentsView) → observed_by o (observed_by o v) ≡ observed_by o v
once_more None v = refl
once_more (Some d) v = look_again d.client.client v

all_once_more : (n : ℕ) (ds : List DeviceState) (vs : List IntentsView) → observed_from n ds (observed_from n ds vs) ≡ observed_from n ds vs
all_once_more n ds [] = refl
all_once_more n ds (v ∷ vs) =
    ap (λ y. y ∷ observed_from (n + 1) ds (observed_from (n + 1) ds vs)) (once_more (slice_get ds n) v)
    ∙ ap (λ ys. observed_by (slice_get ds n) v ∷ ys) (all_once_more (n + 1) ds vs)

pub looked : (w : ByteWorld) (vs : List IntentsView) → HasLooked (looked_at w vs)
looked w vs = all_once_more 0 w.devices vs

-- ---- of one device

pub nobody_looks : (index : ℕ) (s : Watching) → slice_get s.world.devices index ≡ None → looked_once index s ≡ s
nobody_looks index s nowhere =
    ap (λ o. record s { intents = changed_at index (observed_by o) s.intents }) nowhere ∙ ap (λ vs. record s { intents = vs }) (changed_same index s.intents)

pub nobody_looks_past : (index : ℕ) (s : Watching) → length s.world.devices ≤ index → looked_once index s ≡ s
nobody_looks_past index s past = nobody_looks index s (slice_get_past s.world.devices index past)

pub somebody_looks : (index : ℕ) (s : Watching) (d : DeviceState) (vs : List IntentsView) → slice_get s.world.devices index ≡ Some d → vs ≡ changed_at index (observed d.client.client) s.intents → looked_once index s ≡ record s { intents = vs }
somebody_looks index s d vs there becomes =
    ap (λ o. record s { intents = changed_at index (observed_by o) s.intents }) there ∙ ap (λ us. record s { intents = us }) (sym becomes)

-- ---- one device after another

-- the first so many have looked, and the others look now
abbrev pub rest_look : ℕ → ℕ → List DeviceState → List IntentsView → List IntentsView
rest_look zero n ds vs = observed_from n ds vs
rest_look (suc k) n ds [] = []
rest_look (suc k) n ds (v ∷ vs) = v ∷ rest_look k (n + 1) ds vs

one_looks : (k n at : ℕ) (ds : List DeviceState) (vs : List IntentsView) → at ≡ n + k → rest_look (suc k) n ds (changed_at k (observed_by (slice_get ds at)) vs) ≡ rest_look k n ds vs
one_looks zero n at ds [] is = refl
one_looks zero n at ds (v ∷ vs) is = ap (λ m. observed_by (slice_get ds m) v ∷ observed_from (n + 1) ds vs) (let same : at ≡ n = omega (arith, is) in same)
one_looks (suc k) n at ds [] is = refl
one_looks (suc k) n at ds (v ∷ vs) is = ap (λ ys. v ∷ ys) (one_looks k (n + 1) at ds vs (omega (arith, is)))

pub next_looks : (k : ℕ) (ds : List DeviceState) (vs : List IntentsView) → rest_look (k + 1) 0 ds (changed_at k (observed_by (slice_get ds k)) vs) ≡ rest_look k 0 ds vs
next_looks k ds vs =
    let more : k + 1 ≡ suc k = omega arith in
    ap (λ n. rest_look n 0 ds (changed_at k (observed_by (slice_get ds k)) vs)) more ∙ one_looks k 0 k ds vs (omega arith)

none_look_from : (k n : ℕ) (ds : List DeviceState) (vs : List IntentsView) → length vs ≤ k → rest_look k n ds vs ≡ vs
none_look_from zero n ds [] all = refl
none_look_from (suc k) n ds [] all = refl
none_look_from zero n ds (v ∷ vs) all = absurd (omega (arith, all))
none_look_from (suc k) n ds (v ∷ vs) all = ap (λ ys. v ∷ ys) (none_look_from k (n + 1) ds vs (omega (arith, all)))

pub none_look : (k : ℕ) (ds : List DeviceState) (vs : List IntentsView) → length vs ≤ k → rest_look k 0 ds vs ≡ vs
none_look k ds vs all = none_look_from k 0 ds vs all

pub all_looked : (s start : Watching) (k count : ℕ) → s.world ≡ start.world → length s.intents ≡ count → rest_look k 0 s.world.devices s.intents ≡ observed_from 0 start.world.devices start.intents → count ≤ k →
    s ≡ looked_at start.world start.intents
all_looked s start k count world many whole all =
    ap₂ (λ w vs. record start { world = w; intents = vs }) world (sym (none_look k s.world.devices s.intents (omega (arith, many, all))) ∙ whole)

-- ---- one device alone

-- these devices are as those from an index on
same_looks : (n : ℕ) (ds es : List DeviceState) (vs : List IntentsView) → ((i : ℕ) → n ≤ i → slice_get es i ≡ slice_get ds i) → observed_from n es vs ≡ observed_from n ds vs
same_looks n ds es [] same = refl
same_looks n ds es (v ∷ vs) same =
    ap (λ o. observed_by o v ∷ observed_from (n + 1) es vs) (same n (omega arith))
    ∙ ap (λ ys. observed_by (slice_get ds n) v ∷ ys) (same_looks (n + 1) ds es vs (λ i low. same i (omega (arith, low))))

-- all but one device are as they were, and their intents have looked
one_has_looked : (k n d : ℕ) (ds es : List DeviceState) (vs : List IntentsView) → d ≡ n + k → observed_from n ds vs ≡ vs → ((i : ℕ) → i ≢ d → slice_get es i ≡ slice_get ds i) →
    changed_at k (observed_by (slice_get es d)) vs ≡ observed_from n es vs
one_has_looked k n d ds es [] at looked same = refl
one_has_looked zero n d ds es (v ∷ vs) at looked same =
    let here : d ≡ n = omega (arith, at) in
    let rest = same_looks (n + 1) ds es vs (λ i low. same i (λ is. absurd (omega (arith, low, is, at)))) in
    ap (λ m. observed_by (slice_get es m) v ∷ vs) here
    ∙ ap (λ ys. observed_by (slice_get es n) v ∷ ys) (sym (rest ∙ tail_same (observed_by (slice_get ds n) v) v (observed_from (n + 1) ds vs) vs looked))
one_has_looked (suc k) n d ds es (v ∷ vs) at looked same =
    let first = same n (λ is. absurd (omega (arith, at, is))) in
    ap (λ ys. v ∷ ys) (one_has_looked k (n + 1) d ds es vs (omega (arith, at)) (tail_same (observed_by (slice_get ds n) v) v (observed_from (n + 1) ds vs) vs looked) same)
    ∙ ap (λ y. y ∷ observed_from (n + 1) es vs) (sym (ap (λ o. observed_by o v) first ∙ head_same (observed_by (slice_get ds n) v) v (observed_from (n + 1) ds vs) vs looked))

pub one_look : (d : ℕ) (s : Watching) (w : ByteWorld) → HasLooked s → ((i : ℕ) → i ≢ d → slice_get w.devices i ≡ slice_get s.world.devices i) →
    looked_once d (record s { world = w }) ≡ looked_at w s.intents
one_look d s w looked same = ap (λ vs. record s { world = w; intents = vs }) (one_has_looked d 0 d s.world.devices w.devices s.intents (omega arith) looked same)

-- the devices are as they were
pub no_look : (s : Watching) (w : ByteWorld) → HasLooked s → w.devices ≡ s.world.devices → looked_at w s.intents ≡ record s { world = w }
no_look s w looked same = ap (λ vs. record s { world = w; intents = vs }) (ap (λ ds. observed_from 0 ds s.intents) same ∙ looked)

-- ---- intents that are changed have looked still

pub changed_looked : (f : IntentsView → IntentsView) (k n : ℕ) (ds : List DeviceState) (vs : List IntentsView) → ((o : Option DeviceState) (v : IntentsView) → observed_by o (f v) ≡ f (observed_by o v)) →
    observed_from n ds vs ≡ vs → observed_from n ds (changed_at k f vs) ≡ changed_at k f vs
changed_looked f k n ds [] keeps looked = refl
changed_looked f zero n ds (v ∷ vs) keeps looked =
    ap (λ y. y ∷ observed_from (n + 1) ds vs) (keeps (slice_get ds n) v ∙ ap f (head_same (observed_by (slice_get ds n) v) v (observed_from (n + 1) ds vs) vs looked))
    ∙ ap (λ ys. f v ∷ ys) (tail_same (observed_by (slice_get ds n) v) v (observed_from (n + 1) ds vs) vs looked)
changed_looked f (suc k) n ds (v ∷ vs) keeps looked =
    ap (λ y. y ∷ observed_from (n + 1) ds (changed_at k f vs)) (head_same (observed_by (slice_get ds n) v) v (observed_from (n + 1) ds vs) vs looked)
    ∙ ap (λ ys. v ∷ ys) (changed_looked f k (n + 1) ds vs keeps (tail_same (observed_by (slice_get ds n) v) v (observed_from (n + 1) ds vs) vs looked))
