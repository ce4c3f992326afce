-- A message that is taken, amid drifts, is an event of the world of the applications.
use Rattle.std.proofs.Common.{◌≡◌, ◌≢◌, ℕ, zero, suc, ◌+◌, ◌==◌, Bool, true, List, [], ◌∷◌, ◌++◌, Some, length, refl, sym, ap, ap₂, subst, ◌∙◌, arith, inl, inr, if◌then◌else◌}
use Rattle.std.proofs.lemmas.Bool.{cases_Bool, eq-eqb, eqb-true, false≢true, ne_eqb}
use Rattle.std.proofs.lemmas.Option.{none-some, same_Some}
use Rattle.std.specs.List.{slice_get}
use Rattle.std.specs.Option.{option_map}
use Rattle.sim_2_events.specs.Acts.{MayAct}
use Rattle.sim_5_devices.proofs.AllSessionSteps.{all_session_step, reaches_both, spoken_both}
use Rattle.sim_5_devices.proofs.Given.{none_put}
use Rattle.sim_5_devices.specs.Labels.{AllStep, HasSessionSteps, SessionStep, SessionSteps}
use Rattle.sim_1_applications.proofs.Worlds.{get_each, length_each}
use Rattle.sim_1_applications.specs.Devices.{AppWorld, Device, Sessions, Take, last_of}
use Rattle.sim_1_applications.specs.Events.{Act, Around, At, Reaches, around, becomes, each_from, flagged, give, hear, hears_of, is_among, is_number_among, moved_up, own, served, taken_by, taking, told, ServerHandles}
use Rattle.sim_1_applications.specs.Stanzas.{Submission, Up}
use Rattle.sim_1_applications.specs.Stanzas.Down.{Bounced}
use Rattle.sim_1_applications.specs.Stanzas.Up.{Message}
use Rattle.sim_5_moves.proofs.FullQueues.{Full, full_from}
use Rattle.sim_5_moves.specs.Handled.{AreHandled, IsTakenOf, IsToldOf, take_at, takes_with}

pub there_too : {A B : Type 0} (xs : List A) (ys : List B) (j : ℕ) (a : A) → length xs ≡ length ys → slice_get xs j ≡ Some a → (b : B) × (slice_get ys j ≡ Some b)
there_too [] ys j a long at = absurd (none-some a at)
there_too (x ∷ xs) [] j a long at = absurd (omega (arith, long))
there_too (x ∷ xs) (y ∷ ys) zero a long at = (y, refl)
there_too (x ∷ xs) (y ∷ ys) (suc j) a long at = there_too xs ys j a (omega (arith, long)) at

module _ (Is : ℕ → Device → Sessions → Type 0) (x : AppWorld) (i : ℕ) (d : Device) (m : Submission) (last : Sessions) (there : slice_get x.devices i ≡ Some d) (exists : is_among m.to x.accounts ≡ true) where
  abbrev t : Take
  t = take_at x i d m

  abbrev takes : List Take
  takes = takes_with x i d m

  abbrev number : Device → ℕ
  number e = last_of takes e.account

  -- what is so of a device in the end
  record IsLast (j : ℕ) (e : Device) (l : Sessions) : Type 0 where
    own : j ≡ i → l ≡ last
    other : j ≢ i → Is j e l

  -- where the message is about to be handled
  record IsStaged (j : ℕ) (e : Device) (l : Sessions) : Type 0 where
    heard : Bool
    full : Bool
    mid : Sessions
    following : List SessionStep
    end : Sessions
    moves : (a : Around) → a.accounts ≡ x.accounts → (positions : List ℕ) → (if j == i then own a (ServerHandles 0 positions) (record e { sessions = l }) else record e { sessions = l }) ≡ record e { sessions = mid }
    hears : hears_of t j (record e { sessions = mid }) ≡ heard
    rests : SessionSteps following (told heard full (number e) mid) end
    is : IsLast j e end
    first : j ≡ i → (rest : List Up) × (l.now.up_rest ≡ Message m ∷ rest) × ((positions : List ℕ) → MayAct (ServerHandles 0 positions) l)

  -- ---- before

  own_moves : (l next : Sessions) (rest : List Up) → l.now.up_rest ≡ Message m ∷ rest → next ≡ moved_up (Message m) rest l → (a : Around) → a.accounts ≡ x.accounts → (positions : List ℕ) →
      own a (ServerHandles 0 positions) (record d { sessions = l }) ≡ record d { sessions = next }
  own_moves l next rest first is a same positions =
      ap (λ zs. served a 0 zs (record d { sessions = l })) first
      ∙ ap (λ b. let e : Device = record d { sessions = give 0 (if b then [] else Bounced m.epoch m.n ∷ []) (flagged (Message m) (moved_up (Message m) rest l)) } in e) (ap (is_among m.to) same ∙ exists)
      ∙ ap (λ s. let e : Device = record d { sessions = s } in e) (none_put (moved_up (Message m) rest l) ∙ sym is)

  -- the device at the place
  own_staged : IsTakenOf t (number d) i d last → (o : HasSessionSteps d) × IsStaged i d o.last
  own_staged is = (
    record { session_steps = is.before; last = is.there; leads = is.session_steps },
    record {
      heard = is.heard;
      full = is.full;
      mid = is.next;
      following = is.following;
      end = last;
      moves = λ a same positions. (let here = eq-eqb i i refl in rw here (own_moves is.there is.next is.taken.rest is.taken.first is.taken.is a same positions));
      hears = is.hears;
      rests = is.rests;
      is = record { own = λ here. refl; other = λ other. absurd (other refl) };
      first = λ here. (is.taken.rest, is.taken.first, λ positions. is.taken.may 0 positions);
    },
  )

  -- and one beside
  other_staged : (j : ℕ) (e : Device) (l : Sessions) → j ≢ i → IsToldOf t (number e) j e l → Is j e l → (o : HasSessionSteps e) × IsStaged j e o.last
  other_staged j e l apart is so = (
    record { session_steps = is.before; last = is.there; leads = is.session_steps },
    record {
      heard = is.heard;
      full = is.full;
      mid = is.there;
      following = is.following;
      end = l;
      moves = λ a same positions. (let other = ne_eqb j i apart in rw other refl);
      hears = is.hears;
      rests = is.rests;
      is = record { own = λ here. absurd (apart here); other = λ other. so };
      first = λ here. absurd (apart here);
    },
  )

  module _ (own_is : IsTakenOf t (number d) i d last) (others : (j : ℕ) (e : Device) → slice_get x.devices j ≡ Some e → j ≢ i → (next : Sessions) × IsToldOf t (number e) j e next × Is j e next) where
    all_staged : (j : ℕ) (e : Device) → slice_get x.devices j ≡ Some e → (o : HasSessionSteps e) × IsStaged j e o.last
    all_staged j e at = elim (cases_Bool (j == i)) [
      | inl here ↦
          let position : j ≡ i = eqb-true j i here in
          let device : d ≡ e = same_Some d e (sym there ∙ ap (slice_get x.devices) (sym position) ∙ at) in
          subst (λ n. (o : HasSessionSteps e) × IsStaged n e o.last) (sym position) (subst (λ (y : Device). (o : HasSessionSteps y) × IsStaged i y o.last) device (own_staged own_is))
      | inr other ↦
          let apart : j ≢ i = λ same. false≢true (sym other ∙ eq-eqb j i same) in
          let o = others j e at apart in
          other_staged j e o.0 apart o.1 o.2
    ]

    before : AllStep IsStaged x
    before = all_session_step IsStaged x all_staged

    abbrev mid_world : AppWorld
    mid_world = record x { devices = before.devices }

    -- ---- the queues that are full

    abbrev AtHand : ℕ → Device → Type 0
    AtHand j e = (l : Sessions) × IsStaged j e l × (slice_get before.devices j ≡ Some (record e { sessions = l }))

    abbrev queue_full : (j : ℕ) (e : Device) → AtHand j e → Bool
    queue_full j e o = o.1.full

    queues : Full AtHand queue_full 0 x.devices
    queues = full_from AtHand queue_full 0 x.devices (λ j e at. subst (λ n. AtHand n e) (let zero_more : j ≡ 0 + j = omega arith in zero_more) (before.each j e at))

    at_hand : (j : ℕ) (e : Device) → slice_get x.devices j ≡ Some e → (o : AtHand j e) × (is_number_among j queues.positions ≡ o.1.full)
    at_hand j e at = subst (λ n. (o : AtHand n e) × (is_number_among n queues.positions ≡ o.1.full)) (let zero_more : 0 + j ≡ j = omega arith in zero_more) (queues.each j e at)

    -- ---- the event

    abbrev act : Act
    act = ServerHandles 0 queues.positions

    abbrev own_there : Sessions
    own_there = (at_hand i d there).0.0

    abbrev own_before : Device
    own_before = record d { sessions = own_there }

    abbrev own_first : (rest : List Up) × (own_there.now.up_rest ≡ Message m ∷ rest) × ((positions : List ℕ) → MayAct (ServerHandles 0 positions) own_there)
    own_first = (at_hand i d there).0.1.first refl

    taken_is : taken_by x.accounts x.clock i own_before act ≡ t ∷ []
    taken_is = ap (taking x.accounts x.clock i d.account) own_first.1 ∙ ap (λ b. if b then t ∷ [] else []) exists

    abbrev next_world : AppWorld
    next_world = record x { takes = takes; devices = each_from 0 (becomes mid_world (t ∷ []) i act) before.devices }

    event_leads : Reaches (At i act ∷ []) mid_world next_world
    event_leads = (
      next_world,
      (
        own_before,
        (at_hand i d there).0.2,
        own_first.2 queues.positions own_before refl,
        sym (ap (λ new. let w : AppWorld = record x { takes = x.takes ++ new; devices = each_from 0 (becomes mid_world new i act) before.devices } in w) taken_is),
      ),
      refl,
    )

    -- ---- behind it

    device_after : (j : ℕ) (e : Device) → (o : AtHand j e) → is_number_among j queues.positions ≡ o.1.full → slice_get next_world.devices j ≡ Some (record e { sessions = told o.1.heard o.1.full (number e) o.1.mid })
    device_after j e o among =
        let f = becomes mid_world (t ∷ []) i act in
        let e1 : Device = record e { sessions = o.0 } in
        let zero_more : 0 + j ≡ j = omega arith in
        get_each 0 f before.devices j ∙ ap (option_map (f (0 + j))) o.2 ∙ ap (λ n. Some (f n e1)) zero_more
        ∙ ap (λ y. Some (hear takes queues.positions t j y)) (o.1.moves (around mid_world e1) refl queues.positions)
        ∙ (λ k. Some (record e { sessions = told (o.1.hears k) (among k) (number e) o.1.mid }))

    long : length next_world.devices ≡ length x.devices
    long = length_each 0 (becomes mid_world (t ∷ []) i act) before.devices ∙ before.many

    -- what a device behind the event ends as
    record IsEnd (j : ℕ) (e2 : Device) (l : Sessions) : Type 0 where
      e : Device
      was : slice_get x.devices j ≡ Some e
      is : IsLast j e l
      same : (let a : Device = record e2 { sessions = l } in a) ≡ record e { sessions = l }

    all_end : (j : ℕ) (e2 : Device) → slice_get next_world.devices j ≡ Some e2 → (o : HasSessionSteps e2) × IsEnd j e2 o.last
    all_end j e2 at2 =
        let was = there_too next_world.devices x.devices j e2 long at2 in
        let hand = at_hand j was.0 was.1 in
        let o = hand.0.1 in
        subst (λ (y : Device). (p : HasSessionSteps y) × IsEnd j y p.last) (same_Some _ _ (sym (device_after j was.0 hand.0 hand.1) ∙ at2))
        (record { session_steps = o.following; last = o.end; leads = o.rests }, record { e = was.0; was = was.1; is = o.is; same = refl })

    after : AllStep IsEnd next_world
    after = all_session_step IsEnd next_world all_end

    ends : (j : ℕ) (e : Device) → slice_get x.devices j ≡ Some e → (l : Sessions) × IsLast j e l × (slice_get after.devices j ≡ Some (record e { sessions = l }))
    ends j e at =
        let hand = at_hand j e at in
        let end = after.each j (record e { sessions = told hand.0.1.heard hand.0.1.full (number e) hand.0.1.mid }) (device_after j e hand.0 hand.1) in
        let device : end.1.e ≡ e = same_Some end.1.e e (sym end.1.was ∙ at) in
        (end.0, subst (λ y. IsLast j y end.0) device end.1.is, end.2 ∙ ap Some (end.1.same ∙ ap (λ (y : Device). let a : Device = record y { sessions = end.0 } in a) device))

    pub message_handled : AreHandled Is x i (record d { sessions = last }) takes
    message_handled =
        let mine = ends i d there in
        let final = record x { takes = takes; devices = after.devices } in
        record {
          events = before.events ++ ((At i act ∷ []) ++ after.events);
          devices = after.devices;
          reaches =
              reaches_both before.events ((At i act ∷ []) ++ after.events) x mid_world final before.reaches
              (reaches_both (At i act ∷ []) after.events mid_world next_world final event_leads after.reaches);
          silent = spoken_both before.events ((At i act ∷ []) ++ after.events) ∙ ap₂ (λ a b. a ++ b) before.silent after.silent;
          here = mine.2 ∙ ap (λ l. Some (record d { sessions = l })) (mine.1.own refl);
          each = λ j e at apart. let it = ends j e at in (it.0, it.1.other apart, it.2);
          many = after.many ∙ long;
        }
