-- From one device's steps to the world's: what holds of each device, and of what the takes are.
use Rattle.std.proofs.Common.{◌≡◌, ℕ, suc, zero, ◌+◌, Bool, true, false, cond, List, [], ◌∷◌, ◌++◌, Option, Some, None, length, refl, sym, ap, ◌∙◌, subst, arith}
use Rattle.std.proofs.lemmas.Bool.{eqb-true}
use Rattle.std.specs.List.{slice_get}
use Rattle.std.specs.Prelude.{◌&&◌, ◌||◌, not, ◌==◌}
use Rattle.std.specs.Str.{bytes_eq}
use Rattle.std.specs.Option.{option_map}
use Rattle.sim_1_applications.specs.Devices.{AppWorld, Device, Take, concerns}
use Rattle.sim_1_applications.specs.Events as events
use Rattle.sim_1_applications.specs.Kept.{SessionsKept}
use Rattle.sim_1_applications.proofs.SessionSteps.{kept_told, sessions_own}

pub get_each : (k : ℕ) (f : ℕ → Device → Device) (ds : List Device) (j : ℕ) → slice_get (events.each_from k f ds) j ≡ option_map (f (k + j)) (slice_get ds j)
get_each k f [] j = refl
get_each k f (d ∷ ds) zero = ap (λ n. Some (f n d)) (let same : k ≡ k + 0 = omega arith in same)
get_each k f (d ∷ ds) (suc j) =
    get_each (suc k) f ds j ∙ ap (λ n. option_map (f n) (slice_get ds j)) (let same : suc k + j ≡ k + suc j = omega arith in same)

pub length_each : (k : ℕ) (f : ℕ → Device → Device) (ds : List Device) → length (events.each_from k f ds) ≡ length ds
length_each k f [] = refl
length_each k f (d ∷ ds) = ap suc (length_each (suc k) f ds)

-- a device of the next world, and the device that it was
pub was_device : (f : ℕ → Device → Device) (ds : List Device) (j : ℕ) (e : Device) → slice_get (events.each_from 0 f ds) j ≡ Some e →
    (d : Device) × (slice_get ds j ≡ Some d) × (e ≡ f j d)
was_device f ds j e at = from (slice_get ds j) refl
  where
    from : (o : Option Device) → slice_get ds j ≡ o → (d : Device) × (slice_get ds j ≡ Some d) × (e ≡ f j d)
    from None is = absurd (let w = get_each 0 f ds j in let no : ⊥ = cc in no)
    from (Some d) is = (d, is, (let w = get_each 0 f ds j in let zero_more : 0 + j ≡ j = omega arith in cc))

pub never : (p b n c e : Bool) → (p && ((b && false) || (n && false && c && e))) ≡ false
never false b n c e = refl
never true true true c e = refl
never true true false c e = refl
never true false true c e = refl
never true false false c e = refl

heard_by : (t : Take) (j : ℕ) (d : Device) (available carbons : Bool) → Bool
heard_by t j d available carbons =
    events.is_present d.sessions.row
    && ((bytes_eq d.account t.said.to && available)
    || (not t.said.private && carbons && concerns d.account t && not (j == t.device)))

-- who hears of a take is counted
unheard : (t : Take) (j : ℕ) (d : Device) → d.sessions.now.available ≡ false → d.sessions.now.carbons ≡ false → events.hears_of t j d ≡ true → ⊥
unfolding heard_by
unheard t j d a c heard =
    let is : events.hears_of t j d ≡ heard_by t j d false false = ap (λ b. heard_by t j d b d.sessions.now.carbons) a ∙ ap (λ b. heard_by t j d false b) c in
    let none : heard_by t j d false false ≡ false = never _ _ _ _ _ in
    let both : true ≡ false = sym heard ∙ is ∙ none in
    let no : ⊥ = cc in no

pub sessions_hear : (takes : List Take) (full : List ℕ) (t : Take) (j : ℕ) (d : Device) → SessionsKept d.sessions → SessionsKept (events.hear takes full t j d).sessions
sessions_hear takes full t j d kept = kept_told (events.hears_of t j d) _ _ d.sessions (λ heard named. let a = kept.now.is_session.available named in let c = kept.now.is_session.carbons named in unheard t j d a c heard) kept

pub sessions_hear_all : (takes : List Take) (full : List ℕ) (ts : List Take) (j : ℕ) (d : Device) → SessionsKept d.sessions → SessionsKept (events.hear_all takes full ts j d).sessions
sessions_hear_all takes full [] j d kept = kept
sessions_hear_all takes full (t ∷ ts) j d kept = sessions_hear_all takes full ts j (events.hear takes full t j d) (sessions_hear takes full t j d kept)

-- the device at the place of an act, and the others
pub at_position : (b : Bool) (x y : Device) (P : Device → Type 0) → (b ≡ true → P x) → (b ≡ false → P y) → P (cond b x y)
at_position true x y P here there = here refl
at_position false x y P here there = there refl

pub same_position : (j i : ℕ) → (j == i) ≡ true → j ≡ i
same_position j i h = eqb-true j i h

-- A1 to A3 of each device of the next world
pub sessions_becomes : (w : AppWorld) (new : List Take) (i : ℕ) (act : events.Act) (own : Device) (j : ℕ) (d : Device) →
    slice_get w.devices i ≡ Some own → events.May act own → slice_get w.devices j ≡ Some d → SessionsKept d.sessions →
    SessionsKept (events.becomes w new i act j d).sessions
sessions_becomes w new i act own j d at may here kept =
    sessions_hear_all (w.takes ++ new) (events.full_of act) new j (cond (j == i) (events.own (events.around w d) act d) d)
    (at_position (j == i) _ _ (λ e. SessionsKept e.sessions)
    (λ is. let j_is_i = same_position j i is in
    let same : own ≡ d = (let g : slice_get w.devices j ≡ slice_get w.devices i = ap (slice_get w.devices) j_is_i in cc) in
    sessions_own (events.around w d) act d (subst (events.May act) same may) kept)
    (λ _. kept))
