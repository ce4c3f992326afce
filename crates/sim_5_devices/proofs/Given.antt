-- What the server gives a session, one stanza behind the other, is given at once: between two of these no session drifts.
use Rattle.std.proofs.Common.{◌≡◌, ◌≢◌, List, [], ◌∷◌, map, refl, sym, ap, subst, ◌∙◌, append-nil}
use Rattle.sim_3_items.specs.Labels.{Takes, gives_all}
use Rattle.sim_2_events.proofs.Acts.{one_by_one}
use Rattle.sim_2_events.specs.Lists.{IsCounting, Stanzas}
use Rattle.sim_5_devices.proofs.Sorted.{enable_at, with_sessions}
use Rattle.sim_5_devices.specs.Labels.{Binds, Counts, DoesInterleaved, Ends, IsGivenAtOnce, IsTakenAtOnce, SessionStep, SessionSteps, session_stepped}
use Rattle.sim_1_applications.specs.Devices.{Present, Sessions}
use Rattle.sim_1_applications.specs.Events.{put_down}

-- a device without a live session of its present epoch gets none by drifting
pub stays_away : (xs : List SessionStep) (d there : Sessions) → SessionSteps xs d there → d.row ≢ Present → there.row ≢ Present
stays_away [] d there same away = λ e. away (ap (λ (s : Sessions). s.row) (sym same) ∙ e)
stays_away (Binds ∷ xs) d there by away = stays_away xs (session_stepped Binds d) there by.1 (λ e. cc)
stays_away (Counts ∷ xs) d there by away = absurd (away (enable_at d by.0).0)
stays_away (Ends ∷ xs) d there by away = stays_away xs (session_stepped Ends d) there by.1 (λ e. cc)

-- one that is counted, and is so behind, didn't drift
still : (xs : List SessionStep) (d there : Sessions) → SessionSteps xs d there → IsCounting d → IsCounting there → there ≡ d
still [] d there same counted counts = same
still (Binds ∷ xs) d there by counted counts = absurd (stays_away xs (session_stepped Binds d) there by.1 (λ e. cc) counts.0)
still (Counts ∷ xs) d there by counted counts = absurd (counted.1 (enable_at d by.0).1)
still (Ends ∷ xs) d there by counted counts = absurd (stays_away xs (session_stepped Ends d) there by.1 (λ e. cc) counts.0)

-- ---- given

-- nothing is put
pub none_put : (d : Sessions) → put_down [] d ≡ d
none_put d = ap (λ l. record d { now = record d.now { down_rest = l } }) (append-nil d.now.down_rest)

module _ {A : Type 0} (r : Stanzas A) where
  pub given_at_once : (z : A) (zs : List A) (d last : Sessions) → DoesInterleaved r (gives_all (z ∷ zs)) d last → IsGivenAtOnce (map r.down (z ∷ zs)) d last
  given_at_once z [] d last interleaved =
      let does = interleaved.3.1 in
      let end = interleaved.3.2 in
      record { before = interleaved.0; there = interleaved.1; following = end.0; session_steps = interleaved.2; counting = does.0; rests = subst (λ s. SessionSteps end.0 s last) does.1 end.1 }
  given_at_once z (y ∷ zs) d last interleaved =
      let there = interleaved.1 in
      let next = interleaved.3.0 in
      let does = interleaved.3.1 in
      let more = given_at_once y zs next last interleaved.3.2 in
      let counts : IsCounting next = subst IsCounting (sym does.1) (does.0.0, does.0.1) in
      let same : more.there ≡ put_down (r.down z ∷ []) there = still more.before next more.there more.session_steps counts more.counting ∙ does.1 in
      record {
        before = interleaved.0;
        there = there;
        following = more.following;
        session_steps = interleaved.2;
        counting = does.0;
        rests = subst (λ s. SessionSteps more.following s last) (ap (put_down (map r.down (y ∷ zs))) same ∙ sym (one_by_one (r.down z) (map r.down (y ∷ zs)) there)) more.rests;
      }

  pub taken_at_once : (z : A) (zs : List A) (d last : Sessions) → DoesInterleaved r (Takes z ∷ gives_all zs) d last → IsTakenAtOnce (r.up z) (map r.down zs) d last
  taken_at_once z [] d last interleaved =
      let end = interleaved.3.2 in
      record { before = interleaved.0; there = interleaved.1; next = interleaved.3.0; following = end.0; session_steps = interleaved.2; taken = interleaved.3.1; rests = subst (λ s. SessionSteps end.0 s last) (sym (none_put interleaved.3.0)) end.1 }
  taken_at_once z (y ∷ zs) d last interleaved =
      let there = interleaved.1 in
      let next = interleaved.3.0 in
      let taken = interleaved.3.1 in
      let may = taken.may 0 [] (with_sessions there) refl in
      let counts : IsCounting next = subst IsCounting (sym taken.is) (may.0, may.1) in
      let more = given_at_once y zs next last interleaved.3.2 in
      let same : more.there ≡ next = still more.before next more.there more.session_steps counts more.counting in
      record {
        before = interleaved.0;
        there = there;
        next = next;
        following = more.following;
        session_steps = interleaved.2;
        taken = taken;
        rests = subst (λ s. SessionSteps more.following (put_down (map r.down (y ∷ zs)) s) last) same more.rests;
      }
