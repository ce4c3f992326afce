-- The submissions that wait, and their stanzas in the queue.
use Rattle.std.proofs.Common.{◌≡◌, ℕ, zero, suc, ◌+◌, ◌-◌, Bool, true, false, List, [], ◌∷◌, ◌++◌, length, take, drop, map, refl, sym, ap, ◌∙◌, arith, append-nil, length-drop}
use Rattle.std.proofs.lemmas.List.{drop-map, length-map, length_push, map_push, take-map}
use Rattle.sm_acks.specs.Counters.{ahead}
use Rattle.sm_outbox.specs.Directions.{AreQueued, chosen}
use Rattle.sm_outbox.specs.Submissions.{SaidView, acknowledged, with_said}
use Rattle.sm_outbox.specs.Waiting.{Waiting, acked, count_true, queued, submissions_to}
use Rattle.sm_outbox.specs.declared.said.Said.{Said}

chosen-push : {A : Type 0} (queue : List A) (kinds : List Bool) (z : A) (kind : Bool) → length kinds ≡ length queue → chosen (queue ++ z ∷ []) (kinds ++ kind ∷ []) ≡ chosen queue kinds ++ chosen (z ∷ []) (kind ∷ [])
chosen-push [] [] z kind same = refl
chosen-push [] (k ∷ kinds) z kind same = absurd (omega arith)
chosen-push (a ∷ queue) [] z kind same = absurd (omega arith)
chosen-push (a ∷ queue) (true ∷ kinds) z kind same = let h : length kinds ≡ length queue = omega arith in ap (λ l. a ∷ l) (chosen-push queue kinds z kind h)
chosen-push (a ∷ queue) (false ∷ kinds) z kind same = let h : length kinds ≡ length queue = omega arith in chosen-push queue kinds z kind h

-- so many from the front
chosen-take : {A : Type 0} (n : ℕ) (queue : List A) (kinds : List Bool) → length kinds ≡ length queue → chosen (take n queue) (take n kinds) ≡ take (count_true (take n kinds)) (chosen queue kinds)
chosen-take zero queue kinds same = refl
chosen-take (suc n) [] [] same = refl
chosen-take (suc n) [] (k ∷ kinds) same = absurd (omega arith)
chosen-take (suc n) (a ∷ queue) [] same = absurd (omega arith)
chosen-take (suc n) (a ∷ queue) (true ∷ kinds) same =
    let h : length kinds ≡ length queue = omega arith in
    let one : count_true (take n kinds) + 1 ≡ suc (count_true (take n kinds)) = omega arith in
    rw one (ap (λ l. a ∷ l) (chosen-take n queue kinds h))
chosen-take (suc n) (a ∷ queue) (false ∷ kinds) same = let h : length kinds ≡ length queue = omega arith in chosen-take n queue kinds h

-- all but these
chosen-drop : {A : Type 0} (n : ℕ) (queue : List A) (kinds : List Bool) → length kinds ≡ length queue → chosen (drop n queue) (drop n kinds) ≡ drop (count_true (take n kinds)) (chosen queue kinds)
chosen-drop zero queue kinds same = refl
chosen-drop (suc n) [] [] same = refl
chosen-drop (suc n) [] (k ∷ kinds) same = absurd (omega arith)
chosen-drop (suc n) (a ∷ queue) [] same = absurd (omega arith)
chosen-drop (suc n) (a ∷ queue) (true ∷ kinds) same =
    let h : length kinds ≡ length queue = omega arith in
    let one : count_true (take n kinds) + 1 ≡ suc (count_true (take n kinds)) = omega arith in
    rw one (chosen-drop n queue kinds h)
chosen-drop (suc n) (a ∷ queue) (false ∷ kinds) same = let h : length kinds ≡ length queue = omega arith in chosen-drop n queue kinds h

chosen-count : {A : Type 0} (queue : List A) (kinds : List Bool) → length kinds ≡ length queue → count_true kinds ≡ length (chosen queue kinds)
chosen-count [] [] same = refl
chosen-count [] (k ∷ kinds) same = absurd (omega arith)
chosen-count (a ∷ queue) [] same = absurd (omega arith)
chosen-count (a ∷ queue) (true ∷ kinds) same =
    let h : length kinds ≡ length queue = omega arith in
    let rest : count_true kinds ≡ length (chosen queue kinds) = chosen-count queue kinds h in
    omega arith
chosen-count (a ∷ queue) (false ∷ kinds) same = let h : length kinds ≡ length queue = omega arith in chosen-count queue kinds h

-- as many kinds as stanzas, still
kinds_pushed : {A : Type 0} (queue : List A) (kinds : List Bool) (z : A) (kind : Bool) → length kinds ≡ length queue → length (kinds ++ kind ∷ []) ≡ length (queue ++ z ∷ [])
kinds_pushed queue kinds z kind same = length_push kinds kind ∙ ap (λ n. n + 1) same ∙ sym (length_push queue z)

-- ---- what happens to them

pub said_queued : {A : Type 0} (stanza : Said → A) (said : Said) (w : Waiting A) (s : SaidView) → AreQueued stanza w s → AreQueued stanza (queued w (stanza said) true) (with_said s said)
said_queued stanza said w s are =
    record {
      kinds = kinds_pushed w.queue w.submissions (stanza said) true are.kinds;
      stanzas = chosen-push w.queue w.submissions (stanza said) true are.kinds ∙ ap (λ l. l ++ stanza said ∷ []) are.stanzas ∙ sym (map_push stanza s.waiting said);
    }

pub other_queued : {A : Type 0} (stanza : Said → A) (z : A) (w : Waiting A) (s : SaidView) → AreQueued stanza w s → AreQueued stanza (queued w z false) s
other_queued stanza z w s are =
    record {
      kinds = kinds_pushed w.queue w.submissions z false are.kinds;
      stanzas = chosen-push w.queue w.submissions z false are.kinds ∙ append-nil (chosen w.queue w.submissions) ∙ are.stanzas;
    }

pub acked_queued : {A : Type 0} (stanza : Said → A) (h : ℕ) (w : Waiting A) (s : SaidView) → AreQueued stanza w s → AreQueued stanza (acked w h) (acknowledged (submissions_to w h) s)
acked_queued stanza h w s are =
    let n = ahead h w.acked in
    record {
      kinds = length-drop n w.submissions ∙ ap (λ m. m - n) are.kinds ∙ sym (length-drop n w.queue);
      stanzas = chosen-drop n w.queue w.submissions are.kinds ∙ ap (drop (submissions_to w h)) are.stanzas ∙ drop-map stanza (submissions_to w h) s.waiting;
    }

pub left_queue : {A : Type 0} (stanza : Said → A) (h : ℕ) (w : Waiting A) (s : SaidView) → AreQueued stanza w s → chosen (take (ahead h w.acked) w.queue) (take (ahead h w.acked) w.submissions) ≡ map stanza (take (submissions_to w h) s.waiting)
left_queue stanza h w s are = chosen-take (ahead h w.acked) w.queue w.submissions are.kinds ∙ ap (take (submissions_to w h)) are.stanzas ∙ take-map stanza (submissions_to w h) s.waiting

pub as_many : {A : Type 0} (stanza : Said → A) (w : Waiting A) (s : SaidView) → AreQueued stanza w s → count_true w.submissions ≡ length s.waiting
as_many stanza w s are = chosen-count w.queue w.submissions are.kinds ∙ ap length are.stanzas ∙ length-map s.waiting stanza
