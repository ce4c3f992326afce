-- What the marks of a device's lines say of its present session.
use Rattle.std.proofs.Common.{◌≡◌, ◌≢◌, ℕ, ◌+◌, ◌-◌, ◌<◌, ◌⊎◌, inl, inr, Bool, true, false, cond, List, [], ◌∷◌, length, refl, ap, ◌∙◌, arith, nat_lt}
use Rattle.std.specs.List.{AllByRecursion, flat_map}
use Rattle.base_lemmas.proofs.Lists.{AllByRecursion-weaker}
use Rattle.cmd_schedule.proofs.Lists.{all_append}
use Rattle.cmd_report.specs.declared.report.SaidLine.{SaidLine}
use Rattle.cmd_report.specs.declared.report.SaidMark.{SaidMark}
use Rattle.cmd_report.specs.declared.report.SaidMark.TheVariants.{Acknowledged, Undecided, Waiting}
use Rattle.sim_1_applications.proofs.SaidLines.{lines_all, past_below}
use Rattle.sim_1_applications.specs.Devices.{Sessions, epoch_of, up_put}
use Rattle.sim_1_applications.specs.Kept.{SessionsKept}
use Rattle.sim_1_applications.specs.Reported.{mark_of, said_among, said_in, said_of}
use Rattle.sim_1_applications.specs.Stanzas.{Up}
use Rattle.sim_1_applications.specs.Stanzas.Up.{Carbons, Presence, Message, Query}

-- a line is acknowledged, or has the mark
chosen : (b : Bool) (mark : SaidMark) → (cond b Acknowledged mark ≡ Acknowledged) ⊎ (cond b Acknowledged mark ≡ mark)
chosen true mark = inl refl
chosen false mark = inr refl

marked : (acked : ℕ) (mark : SaidMark) (zs : List Up) → AllByRecursion (λ l. (l.state ≡ Acknowledged) ⊎ (l.state ≡ mark)) (said_among acked mark zs)
marked acked mark [] = tt
marked acked mark (Carbons ∷ zs) = marked (acked - 1) mark zs
marked acked mark (Presence ∷ zs) = marked (acked - 1) mark zs
marked acked mark (Query r ∷ zs) = marked (acked - 1) mark zs
marked acked mark (Message m ∷ zs) = (chosen (nat_lt 0 acked) mark, marked (acked - 1) mark zs)

pub clash : (x : SaidMark) → x ≡ Acknowledged → x ≡ Waiting → ⊥
clash x one other = let bad : ⊥ = cc in bad

apart : (x : SaidMark) → x ≡ Acknowledged → x ≡ Undecided → ⊥
apart x one other = let bad : ⊥ = cc in bad

differ : (x : SaidMark) → x ≡ Waiting → x ≡ Undecided → ⊥
differ x one other = let bad : ⊥ = cc in bad

module _ (s : Sessions) (kept : SessionsKept s) where
  abbrev past : List SaidLine
  past = flat_map (said_in Undecided) s.past

  abbrev now : List SaidLine
  now = said_in (mark_of s.online) s.now

  older : AllByRecursion (λ l. (l.epoch < 0 + length s.past) × (l.state ≢ Waiting)) past
  older = past_below 0 s.past kept.past

  newer : AllByRecursion (λ l. l.epoch ≡ epoch_of s) now
  newer = AllByRecursion-weaker (λ l. (l.epoch ≡ epoch_of s) × (0 < l.n)) (λ l. l.epoch ≡ epoch_of s) (λ l is. is.0) now (lines_all (epoch_of s) 0 s.now.acked (mark_of s.online) (up_put s.now) kept.now.numbers)

  pub waits_now : AllByRecursion (λ l. l.state ≡ Waiting → l.epoch ≡ epoch_of s) (said_of s)
  waits_now =
      all_append (λ l. l.state ≡ Waiting → l.epoch ≡ epoch_of s) past now
      (AllByRecursion-weaker (λ l. (l.epoch < 0 + length s.past) × (l.state ≢ Waiting)) (λ l. l.state ≡ Waiting → l.epoch ≡ epoch_of s) (λ l is waits. absurd (is.1 waits)) past older)
      (AllByRecursion-weaker (λ l. l.epoch ≡ epoch_of s) (λ l. l.state ≡ Waiting → l.epoch ≡ epoch_of s) (λ l is waits. is) now newer)

  -- the client has its session: nothing of it is undecided
  decided : s.online ≡ true → AllByRecursion (λ l. l.epoch ≡ epoch_of s → l.state ≢ Undecided) (said_of s)
  decided on =
      all_append (λ l. l.epoch ≡ epoch_of s → l.state ≢ Undecided) past now
      (AllByRecursion-weaker (λ l. (l.epoch < 0 + length s.past) × (l.state ≢ Waiting)) (λ l. l.epoch ≡ epoch_of s → l.state ≢ Undecided) (λ l is same. absurd (let low = is.0 in omega arith)) past older)
      (AllByRecursion-weaker (λ (l : SaidLine). (l.state ≡ Acknowledged) ⊎ (l.state ≡ mark_of s.online)) (λ l. l.epoch ≡ epoch_of s → l.state ≢ Undecided)
      (λ (l : SaidLine) is same no. elim is [
        | inl known ↦ apart l.state known no
        | inr mark ↦ differ l.state (mark ∙ ap mark_of on) no
      ])
      now (marked s.now.acked (mark_of s.online) (up_put s.now)))

  -- it doesn't have it: nothing waits
  nothing_waits : s.online ≡ false → AllByRecursion (λ l. l.state ≢ Waiting) (said_of s)
  nothing_waits off =
      all_append (λ l. l.state ≢ Waiting) past now
      (AllByRecursion-weaker (λ l. (l.epoch < 0 + length s.past) × (l.state ≢ Waiting)) (λ l. l.state ≢ Waiting) (λ l is. is.1) past older)
      (AllByRecursion-weaker (λ (l : SaidLine). (l.state ≡ Acknowledged) ⊎ (l.state ≡ mark_of s.online)) (λ l. l.state ≢ Waiting)
      (λ (l : SaidLine) is waits. elim is [
        | inl known ↦ clash l.state known waits
        | inr mark ↦ differ l.state waits (mark ∙ ap mark_of off)
      ])
      now (marked s.now.acked (mark_of s.online) (up_put s.now)))

  abbrev pub OneKind : List SaidLine → Type 0
  OneKind lines = AllByRecursion (λ a. AllByRecursion (λ b. a.state ≡ Waiting → b.epoch ≡ epoch_of s → b.state ≢ Undecided) lines) lines

  each_of : (P : SaidLine → Type 0) → ((l : SaidLine) → P l) → (xs : List SaidLine) → AllByRecursion P xs
  each_of P each [] = tt
  each_of P each (x ∷ xs) = (each x, each_of P each xs)

  by_online : (b : Bool) → s.online ≡ b → OneKind (said_of s)
  by_online true on =
      each_of (λ a. AllByRecursion (λ b. a.state ≡ Waiting → b.epoch ≡ epoch_of s → b.state ≢ Undecided) (said_of s))
      (λ a. AllByRecursion-weaker (λ b. b.epoch ≡ epoch_of s → b.state ≢ Undecided) (λ b. a.state ≡ Waiting → b.epoch ≡ epoch_of s → b.state ≢ Undecided) (λ b is waits same. is same) (said_of s) (decided on))
      (said_of s)
  by_online false off =
      AllByRecursion-weaker (λ a. a.state ≢ Waiting) (λ a. AllByRecursion (λ b. a.state ≡ Waiting → b.epoch ≡ epoch_of s → b.state ≢ Undecided) (said_of s))
      (λ a is. each_of (λ b. a.state ≡ Waiting → b.epoch ≡ epoch_of s → b.state ≢ Undecided) (λ b waits. absurd (is waits)) (said_of s))
      (said_of s) (nothing_waits off)

  pub one_kind : OneKind (said_of s)
  one_kind = by_online s.online refl
