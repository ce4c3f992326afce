-- Texts of intents, one after another.
use Rattle.std.proofs.Common.{◌≡◌, ◌+◌, ◌<◌, ◌≤◌, ℕ, zero, suc, List, [], ◌∷◌, ◌++◌, Option, Some, None, drop, get_or, length, map, refl, sym, ap, ap₂, ◌∙◌, append_assoc, arith}
use Rattle.std.proofs.lemmas.Option.{slice_get-get_or}
use Rattle.std.specs.Option.{option_map_or}
use Rattle.std.specs.Prelude.{codes, slice_get}
use Rattle.cl_handlers.specs.Clients.{ClientView}
use Rattle.cl_intents.specs.Intents.{IntentsView, intent_under, without_room, without_rooms}
use Rattle.cl_intents.specs.declared.intents.Intent.{Intent as OneIntent}
use Rattle.cmd_network.specs.Devices.{DeviceState}
use Rattle.cmd_deciding.specs.Texts.{all_texts, device_texts, one_text, text_of_intents, texts_from}
use Rattle.cmd_report.specs.ReportText.{text_of}
use Rattle.cmd_world.specs.WorldReports.{report_of}
use Rattle.cmd_world.specs.Worlds.{ByteWorld}
use Rattle.cmd_deciding.specs.Looks.{watching}

-- whatever room there is for tries
rooms_from : {A : Type 0} (name full : List ℕ) (sure : ℕ) (c : ClientView A) (k : ℕ) (is : List OneIntent) → texts_from name full sure c k (map without_room is) ≡ texts_from name full sure c k is
rooms_from name full sure c k [] = refl
rooms_from name full sure c k (i ∷ is) = ap (λ text. one_text name full sure c k i ++ text) (rooms_from name full sure c (k + 1) is)

pub rooms_in : (ds : List DeviceState) (vs : List IntentsView) → all_texts ds (map without_rooms vs) ≡ all_texts ds vs
rooms_in [] vs = refl
rooms_in (d ∷ ds) [] = refl
rooms_in (d ∷ ds) (v ∷ vs) = ap₂ (λ x y. x ++ y) (rooms_from d.name v.full v.sure d.client.client 1 v.intents) (rooms_in ds vs)

-- ---- of a device, from a number on

pub no_text_left : {A : Type 0} (name full : List ℕ) (sure : ℕ) (c : ClientView A) (k n : ℕ) (is : List OneIntent) → length is ≤ n → texts_from name full sure c k (drop n is) ≡ []
no_text_left name full sure c k zero [] all = refl
no_text_left name full sure c k (suc n) [] all = refl
no_text_left name full sure c k zero (i ∷ is) all = absurd (omega (arith, all))
no_text_left name full sure c k (suc n) (i ∷ is) all = no_text_left name full sure c k n is (omega (arith, all))

-- the text of the intent at an index, and of those after it
next_text_of : {A : Type 0} (name full : List ℕ) (sure : ℕ) (c : ClientView A) (k n : ℕ) (is : List OneIntent) →
    texts_from name full sure c k (drop n is) ≡ option_map_or (one_text name full sure c k) (slice_get is n) [] ++ texts_from name full sure c (k + 1) (drop (suc n) is)
next_text_of name full sure c k zero [] = refl
next_text_of name full sure c k (suc n) [] = refl
next_text_of name full sure c k zero (i ∷ is) = refl
next_text_of name full sure c k (suc n) (i ∷ is) = next_text_of name full sure c k n is

pub next_text : {A : Type 0} (name full : List ℕ) (sure : ℕ) (c : ClientView A) (n : ℕ) (is : List OneIntent) (out more due : List ℕ) →
    more ≡ out ++ option_map_or (one_text name full sure c (n + 1)) (intent_under (n + 1) is) [] → out ++ texts_from name full sure c (n + 1) (drop n is) ≡ due →
    more ++ texts_from name full sure c (n + 1 + 1) (drop (n + 1) is) ≡ due
next_text name full sure c n is out more due added was =
    let one : n + 1 ≡ suc n = omega arith in
    let there : intent_under (n + 1) is ≡ slice_get is n = ap (λ m. intent_under m is) one in
    let text = option_map_or (one_text name full sure c (n + 1)) (slice_get is n) [] in
    let rest = texts_from name full sure c (n + 1 + 1) (drop (n + 1) is) in
    ap (λ l. l ++ rest) (added ∙ ap (λ o. out ++ option_map_or (one_text name full sure c (n + 1)) o []) there)
    ∙ append_assoc out text rest
    ∙ ap (λ m. out ++ (text ++ texts_from name full sure c (n + 1 + 1) (drop m is))) one
    ∙ ap (λ l. out ++ l) (sym (next_text_of name full sure c (n + 1) n is))
    ∙ was

-- ---- of all devices

none_text : (ds : List DeviceState) → all_texts ds [] ≡ []
none_text [] = refl
none_text (d ∷ ds) = refl

next_device_of : (n : ℕ) (ds : List DeviceState) (vs : List IntentsView) (d : DeviceState) → slice_get ds n ≡ Some d →
    all_texts (drop n ds) (drop n vs) ≡ option_map_or (device_texts d) (slice_get vs n) [] ++ all_texts (drop (suc n) ds) (drop (suc n) vs)
next_device_of n [] vs d there = absurd (let bad : ⊥ = cc in bad)
next_device_of zero (x ∷ ds) [] d there = sym (none_text ds)
next_device_of zero (x ∷ ds) (v ∷ vs) d there = (let same : x ≡ d = cc in ap (λ e. device_texts e v ++ all_texts ds vs) same)
next_device_of (suc n) (x ∷ ds) [] d there = none_text (drop n ds) ∙ sym (none_text (drop (suc n) ds))
next_device_of (suc n) (x ∷ ds) (v ∷ vs) d there = next_device_of n ds vs d there

pub next_device : (n : ℕ) (ds : List DeviceState) (vs : List IntentsView) (d : DeviceState) (out more due : List ℕ) → n < length ds → d ≡ get_or ds n d →
    more ≡ out ++ option_map_or (device_texts d) (slice_get vs n) [] → out ++ all_texts (drop n ds) (drop n vs) ≡ due → more ++ all_texts (drop (n + 1) ds) (drop (n + 1) vs) ≡ due
next_device n ds vs d out more due within is added was =
    let one : n + 1 ≡ suc n = omega arith in
    let there : slice_get ds n ≡ Some d = slice_get-get_or ds n d within ∙ ap Some (sym is) in
    let text = option_map_or (device_texts d) (slice_get vs n) [] in
    ap (λ l. l ++ all_texts (drop (n + 1) ds) (drop (n + 1) vs)) added
    ∙ append_assoc out text (all_texts (drop (n + 1) ds) (drop (n + 1) vs))
    ∙ ap (λ m. out ++ (text ++ all_texts (drop m ds) (drop m vs))) one
    ∙ ap (λ l. out ++ l) (sym (next_device_of n ds vs d there))
    ∙ was

-- ---- the whole text

pub whole_text : (w : ByteWorld) (vs : List IntentsView) (ds : List DeviceState) (us : List IntentsView) (first headed listed ended : List ℕ) → first ≡ text_of (report_of w) → headed ≡ first ++ (codes "intents 1" ++ 10 ∷ []) →
    ds ≡ w.devices → us ≡ vs → listed ≡ headed ++ all_texts ds us → ended ≡ listed ++ (codes "end" ++ 10 ∷ []) → ended ≡ text_of_intents (watching w (map without_rooms vs))
unfolding text_of_intents
whole_text w vs ds us first headed listed ended first_is headed_is ds_are us_are listed_is ended_is =
    let report = text_of (report_of w) in
    let newline : List ℕ = 10 ∷ [] in
    let title = codes "intents 1" in
    let last = codes "end" ++ newline in
    let all = all_texts w.devices (map without_rooms vs) in
    let texts : all_texts ds us ≡ all = ap₂ all_texts ds_are us_are ∙ sym (rooms_in w.devices vs) in
    ended_is
    ∙ ap (λ l. l ++ last) (listed_is ∙ ap₂ (λ l m. l ++ m) (headed_is ∙ ap (λ l. l ++ (title ++ newline)) first_is ∙ sym (append_assoc report title newline)) texts ∙ append_assoc (report ++ title) newline all)
    ∙ sym (append_assoc ((report ++ title) ++ (10 ∷ all)) (codes "end") newline)
