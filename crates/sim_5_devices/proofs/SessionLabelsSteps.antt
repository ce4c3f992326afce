-- Each move of the links is its label, or a drift.
use Rattle.std.proofs.Common.{◌≡◌, inl, inr, ℕ, List, [], ◌∷◌, ◌++◌, Option, Some, None, refl, sym, ap, subst, ◌∙◌}
use Rattle.std.specs.Option.{option_map}
use Rattle.sim_3_items.specs.Labels.{Drops, Enters, Gives, Label, Learns, Names, Reads, Says, Takes, label_of, labels_of}
use Rattle.sim_2_links.specs.Events.{Bound, Counted, Dropped, Ended, Handled, Heard, Known, Learned, LinkEvent, Named, Said, Served, own_number, row_number, seen}
use Rattle.sim_2_links.specs.Machine.{AsksToBind, AsksToResume, Cuts, Demands, Detaches, Dials, EndsRow, Foots, Forgets, Hears, HearsEarly, Keeps, LetsGo, LinkMove, LinkMoves, LinkReached, LinkReaches, Parks, Puts, Queues, ReadsBound, ReadsCount, ReadsEnabled, ReadsFailed, ReadsHand, ReadsRequest, ReadsResumed, ReadsStanza, Requests, Serves, Shuts, TakesBind, TakesCount, TakesEnable, TakesFoot, TakesHand, TakesHighResume, TakesLateResume, TakesRequest, TakesResume, TakesStanza, TakesStrangeResume, nothing_yet}
use Rattle.sim_2_links.specs.Telling.{of_own, of_row}
use Rattle.sim_2_links.specs.Views.{Own, Row, View}
use Rattle.sim_2_events.proofs.Acts.{move_leads}
use Rattle.sim_2_events.specs.Acts.{AreActs}
use Rattle.sim_2_events.specs.Lists.{IsDevice, IsOnline, Stanzas}
use Rattle.sim_5_devices.proofs.SessionStepping.{session_steps_before}
use Rattle.sim_5_devices.specs.Labels.{Binds, Counts, Does, DoesInterleaved, Ends, SessionStep, SessionSteps}
use Rattle.sim_1_applications.specs.Devices.{Sessions, new_device}

then_reaches : {A : Type 0} (moves : List (LinkMove A)) (move : LinkMove A) (v middle last : View A) → LinkReaches moves v middle → LinkMoves move middle last → LinkReaches (moves ++ move ∷ []) v last
then_reaches [] move v middle last same by = (last, subst (λ x. LinkMoves move x last) same by, refl)
then_reaches (m ∷ moves) move v middle last (next, first, along) by = (next, first, then_reaches moves move next middle last along by)

then_reached : {A : Type 0} (v next : View A) (move : LinkMove A) → LinkReached v → LinkMoves move v next → LinkReached next
then_reached v next move reached by = record { moves = reached.moves ++ move ∷ []; reaches = then_reaches reached.moves move nothing_yet v next reached.reaches by }

-- a step of one label, or of none
abbrev pub IsStep : {A : Type 0} → Stanzas A → List (Label A) → Sessions → Sessions → Type 0
IsStep r [] d next = (xs : List SessionStep) × SessionSteps xs d next
IsStep r (x ∷ []) d next = Does r x d next
IsStep r (x ∷ y ∷ ds) d next = ⊥

pub joined : {A : Type 0} (r : Stanzas A) (ds more : List (Label A)) (d there last : Sessions) → IsStep r ds d there → DoesInterleaved r more there last → DoesInterleaved r (ds ++ more) d last
joined r [] more d there last step interleaved = session_steps_before r more step.0 d there last step.1 interleaved
joined r (x ∷ []) more d there last step interleaved = ([], d, refl, (there, step, interleaved))
joined r (x ∷ y ∷ ds) more d there last step interleaved = absurd step

module _ {A : Type 0} (r : Stanzas A) (v : View A) (d next : Sessions) where
  -- what is told, where it is known
  abbrev Acts : Option (LinkEvent A) → Type 0
  Acts e = AreActs r e (seen v) d next

  nothing : (e : Option (LinkEvent A)) → e ≡ None → Acts e → (xs : List SessionStep) × SessionSteps xs d next
  nothing e is acts = ([], subst Acts is acts)

  bound : (m : ℕ) (e : Option (LinkEvent A)) → e ≡ Some (Bound m) → Acts e → (xs : List SessionStep) × SessionSteps xs d next
  bound m e is acts = let a = subst Acts is acts in (Binds ∷ [], (a.0, a.1))

  counted : (row : Row A) (e : Option (LinkEvent A)) → v.row ≡ Some row → e ≡ of_row Counted v → Acts e → (xs : List SessionStep) × SessionSteps xs d next
  counted row e is_row is acts = let a = subst Acts (is ∙ ap (λ o. option_map Counted (row_number o)) is_row) acts in (Counts ∷ [], (a.0, a.1))

  ended : (row : Row A) (e : Option (LinkEvent A)) → v.row ≡ Some row → e ≡ of_row Ended v → Acts e → (xs : List SessionStep) × SessionSteps xs d next
  ended row e is_row is acts = let a = subst Acts (is ∙ ap (λ o. option_map Ended (row_number o)) is_row) acts in (Ends ∷ [], (a.0, a.1))

  said : (own : Own A) (z : A) (e : Option (LinkEvent A)) → v.own ≡ Some own → e ≡ of_own (λ p. Said p z) v → Acts e → Does r (Says z) d next
  said own z e is_own is acts = subst Acts (is ∙ ap (λ o. option_map (λ p. Said p z) (own_number o)) is_own) acts

  heard : (own : Own A) (z : A) (e : Option (LinkEvent A)) → v.own ≡ Some own → e ≡ of_own (λ p. Heard p z) v → Acts e → Does r (Reads z) d next
  heard own z e is_own is acts =
      let a = subst Acts (is ∙ ap (λ o. option_map (λ p. Heard p z) (own_number o)) is_own) acts in
      record { rest = a.0; first = a.1; may = a.2; is = a.3 }

  handled : (row : Row A) (z : A) (e : Option (LinkEvent A)) → v.row ≡ Some row → e ≡ of_row (λ p. Handled p z) v → Acts e → Does r (Takes z) d next
  handled row z e is_row is acts =
      let a = subst Acts (is ∙ ap (λ o. option_map (λ p. Handled p z) (row_number o)) is_row) acts in
      record { rest = a.0; first = a.1; may = a.2; is = a.3 }

  served : (row : Row A) (z : A) (e : Option (LinkEvent A)) → v.row ≡ Some row → e ≡ of_row (λ p. Served p z) v → Acts e → Does r (Gives z) d next
  served row z e is_row is acts = subst Acts (is ∙ ap (λ o. option_map (λ p. Served p z) (row_number o)) is_row) acts

  learned : (own : Own A) (h : ℕ) (e : Option (LinkEvent A)) → v.own ≡ Some own → e ≡ of_own (λ p. Learned p h) v → Acts e → Does r Learns d next
  learned own h e is_own is acts =
      let a = subst Acts (is ∙ ap (λ o. option_map (λ p. Learned p h) (own_number o)) is_own) acts in
      let may = a.0 (record (new_device []) { sessions = d }) refl in
      record { count = h; online = may.0; low = may.1; high = may.2; is = a.1 }

  named : (m : ℕ) (e : Option (LinkEvent A)) → e ≡ Some (Named m) → Acts e → Does r Names d next
  named m e is acts = let a = subst Acts is acts in (_, a.0, a.1)

  known : (m : ℕ) (e : Option (LinkEvent A)) → e ≡ Some (Known m) → Acts e → Does r Enters d next
  known m e is acts = subst Acts is acts

  dropped : (e : Option (LinkEvent A)) → IsOnline (seen v) d.online (own_number v.own) → e ≡ of_own Dropped v → Acts e → Does r Drops d next
  dropped e online is acts = by (own_number v.own) online (subst Acts is acts)
    where
      by : (o : Option ℕ) → IsOnline (seen v) d.online o → Acts (option_map Dropped o) → Does r Drops d next
      by None off same = inr (off, same)
      by (Some p) on act = inl (on.0, act.1)

module _ {A : Type 0} (r : Stanzas A) where
  pub step_done : (move : LinkMove A) (v after : View A) (d : Sessions) → LinkReached v → (by : LinkMoves move v after) (a : IsDevice r (seen v) d)
      → (next : Sessions) × IsStep r (label_of move) d next × IsDevice r (seen after) next
  step_done (Cuts k i j) v after d reached by a = let l = move_leads r (Cuts k i j) v after d reached by a in (l.3.0, nothing r v d l.3.0 l.0 l.1 l.3.1, l.3.2)
  step_done (Dials k) v after d reached by a = let l = move_leads r (Dials k) v after d reached by a in (l.3.0, nothing r v d l.3.0 l.0 l.1 l.3.1, l.3.2)
  step_done (LetsGo k) v after d reached by a = let l = move_leads r (LetsGo k) v after d reached by a in (l.3.0, nothing r v d l.3.0 l.0 l.1 l.3.1, l.3.2)
  step_done (Foots k) v after d reached by a = let l = move_leads r (Foots k) v after d reached by a in (l.3.0, nothing r v d l.3.0 l.0 l.1 l.3.1, l.3.2)
  step_done Forgets v after d reached by a = let l = move_leads r Forgets v after d reached by a in (l.3.0, dropped r v d l.3.0 l.0 a.online l.1 l.3.1, l.3.2)
  step_done (Puts k z) v after d reached by a = let l = move_leads r (Puts k z) v after d reached by a in (l.3.0, said r v d l.3.0 by.own z l.0 by.is_own l.1 l.3.1, l.3.2)
  step_done (Queues z) v after d reached by a = let l = move_leads r (Queues z) v after d reached by a in (l.3.0, said r v d l.3.0 by.own z l.0 by.is_own l.1 l.3.1, l.3.2)
  step_done (Requests k) v after d reached by a = let l = move_leads r (Requests k) v after d reached by a in (l.3.0, nothing r v d l.3.0 l.0 l.1 l.3.1, l.3.2)
  step_done (ReadsHand k) v after d reached by a = let l = move_leads r (ReadsHand k) v after d reached by a in (l.3.0, nothing r v d l.3.0 l.0 l.1 l.3.1, l.3.2)
  step_done (AsksToResume k) v after d reached by a = let l = move_leads r (AsksToResume k) v after d reached by a in (l.3.0, nothing r v d l.3.0 l.0 l.1 l.3.1, l.3.2)
  step_done (AsksToBind k) v after d reached by a = let l = move_leads r (AsksToBind k) v after d reached by a in (l.3.0, nothing r v d l.3.0 l.0 l.1 l.3.1, l.3.2)
  step_done (ReadsFailed k) v after d reached by a = let l = move_leads r (ReadsFailed k) v after d reached by a in (l.3.0, dropped r v d l.3.0 l.0 a.online l.1 l.3.1, l.3.2)
  step_done (ReadsResumed k) v after d reached by a = let l = move_leads r (ReadsResumed k) v after d reached by a in (l.3.0, learned r v d l.3.0 by.own l.1.0 l.0 by.is_own l.1.1 l.3.1, l.3.2)
  step_done (ReadsBound k m) v after d reached by a = let l = move_leads r (ReadsBound k m) v after d reached by a in (l.3.0, named r v d l.3.0 m l.0 l.1 l.3.1, l.3.2)
  step_done (ReadsEnabled k m) v after d reached by a = let l = move_leads r (ReadsEnabled k m) v after d reached by a in (l.3.0, known r v d l.3.0 m l.0 l.1 l.3.1, l.3.2)
  step_done (ReadsStanza k z) v after d reached by a = let l = move_leads r (ReadsStanza k z) v after d reached by a in (l.3.0, heard r v d l.3.0 by.own z l.0 by.is_own l.1 l.3.1, l.3.2)
  step_done (ReadsRequest k) v after d reached by a = let l = move_leads r (ReadsRequest k) v after d reached by a in (l.3.0, nothing r v d l.3.0 l.0 l.1 l.3.1, l.3.2)
  step_done (ReadsCount k h) v after d reached by a = let l = move_leads r (ReadsCount k h) v after d reached by a in (l.3.0, learned r v d l.3.0 by.own h l.0 by.is_own l.1 l.3.1, l.3.2)
  step_done (TakesHand k) v after d reached by a = let l = move_leads r (TakesHand k) v after d reached by a in (l.3.0, nothing r v d l.3.0 l.0 l.1 l.3.1, l.3.2)
  step_done (TakesResume k) v after d reached by a = let l = move_leads r (TakesResume k) v after d reached by a in (l.3.0, nothing r v d l.3.0 l.0 l.1 l.3.1, l.3.2)
  step_done (TakesLateResume k) v after d reached by a = let l = move_leads r (TakesLateResume k) v after d reached by a in (l.3.0, nothing r v d l.3.0 l.0 l.1 l.3.1, l.3.2)
  step_done (TakesStrangeResume k) v after d reached by a = let l = move_leads r (TakesStrangeResume k) v after d reached by a in (l.3.0, nothing r v d l.3.0 l.0 l.1 l.3.1, l.3.2)
  step_done (TakesHighResume k) v after d reached by a = let l = move_leads r (TakesHighResume k) v after d reached by a in (l.3.0, ended r v d l.3.0 by.row l.0 by.is_row l.1 l.3.1, l.3.2)
  step_done (TakesBind k m) v after d reached by a = let l = move_leads r (TakesBind k m) v after d reached by a in (l.3.0, bound r v d l.3.0 m l.0 l.1 l.3.1, l.3.2)
  step_done (TakesEnable k) v after d reached by a = let l = move_leads r (TakesEnable k) v after d reached by a in (l.3.0, counted r v d l.3.0 by.row l.0 by.is_row l.1 l.3.1, l.3.2)
  step_done (TakesStanza k z) v after d reached by a = let l = move_leads r (TakesStanza k z) v after d reached by a in (l.3.0, handled r v d l.3.0 by.row z l.0 by.is_row l.1 l.3.1, l.3.2)
  step_done (TakesRequest k) v after d reached by a = let l = move_leads r (TakesRequest k) v after d reached by a in (l.3.0, nothing r v d l.3.0 l.0 l.1 l.3.1, l.3.2)
  step_done (TakesCount k h) v after d reached by a = let l = move_leads r (TakesCount k h) v after d reached by a in (l.3.0, nothing r v d l.3.0 l.0 l.1 l.3.1, l.3.2)
  step_done (TakesFoot k) v after d reached by a = let l = move_leads r (TakesFoot k) v after d reached by a in (l.3.0, nothing r v d l.3.0 l.0 l.1 l.3.1, l.3.2)
  step_done (Parks k) v after d reached by a = let l = move_leads r (Parks k) v after d reached by a in (l.3.0, nothing r v d l.3.0 l.0 l.1 l.3.1, l.3.2)
  step_done (Hears k) v after d reached by a = let l = move_leads r (Hears k) v after d reached by a in (l.3.0, nothing r v d l.3.0 l.0 l.1 l.3.1, l.3.2)
  step_done (HearsEarly k) v after d reached by a = let l = move_leads r (HearsEarly k) v after d reached by a in (l.3.0, ended r v d l.3.0 by.row l.0 by.is_row l.1 l.3.1, l.3.2)
  step_done (Detaches k ending) v after d reached by a = let l = move_leads r (Detaches k ending) v after d reached by a in (l.3.0, nothing r v d l.3.0 l.0 l.1 l.3.1, l.3.2)
  step_done (Shuts k ending) v after d reached by a = let l = move_leads r (Shuts k ending) v after d reached by a in (l.3.0, ended r v d l.3.0 by.row l.0 by.is_row l.1 l.3.1, l.3.2)
  step_done EndsRow v after d reached by a = let l = move_leads r EndsRow v after d reached by a in (l.3.0, ended r v d l.3.0 by.row l.0 by.is_row l.1 l.3.1, l.3.2)
  step_done (Serves k z) v after d reached by a = let l = move_leads r (Serves k z) v after d reached by a in (l.3.0, served r v d l.3.0 by.row z l.0 by.is_row l.1 l.3.1, l.3.2)
  step_done (Keeps z) v after d reached by a = let l = move_leads r (Keeps z) v after d reached by a in (l.3.0, served r v d l.3.0 by.row z l.0 by.is_row l.1 l.3.1, l.3.2)
  step_done (Demands k) v after d reached by a = let l = move_leads r (Demands k) v after d reached by a in (l.3.0, nothing r v d l.3.0 l.0 l.1 l.3.1, l.3.2)

  pub moves_done : (moves : List (LinkMove A)) (v last : View A) (d : Sessions) → LinkReached v → LinkReaches moves v last → IsDevice r (seen v) d
      → (end : Sessions) × DoesInterleaved r (labels_of moves) d end × IsDevice r (seen last) end
  moves_done [] v last d reached same a = (d, ([], refl), subst (λ x. IsDevice r (seen x) d) (sym same) a)
  moves_done (move ∷ moves) v last d reached (next, by, along) a =
      let one = step_done move v next d reached by a in
      let more = moves_done moves next last one.0 (then_reached v next move reached by) along one.2 in
      (more.0, joined r (label_of move) (labels_of moves) d one.0 more.0 one.1 more.1, more.2)
