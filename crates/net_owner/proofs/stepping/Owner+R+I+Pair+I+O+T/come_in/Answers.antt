use Rattle.std.proofs.Common.{refl, sym, ap, ◌∙◌, ◌+◌, false, Some, None, ◌≡◌, length, subst}
use Rattle.crossbeam_channel.specs.Ends.{sends_on}
use Rattle.net_owner.proofs.CountedArrivals.{never_none}
use Rattle.net_owner.proofs.HeldHalves.{held_came, held_passed, held_with}
use Rattle.net_owner.proofs.KeptPositions.{Adds}
use Rattle.net_owner.proofs.MoreReaders.{none_more, one_more}
use Rattle.net_owner.proofs.OwnerSteps.{came, chosen, connected}
use Rattle.net_owner.proofs.stepping.Owner+R+I+Pair+I+O+T.come_in.Goals as goal
use Rattle.net_owner.specs.Events.{Connect, Gone}
use Rattle.net_owner.specs.Halves.{IsNew}
use Rattle.net_owner.specs.declared.position.Slot.{Slot}
use Rattle.net_owner.specs.declared.trouble.Trouble.TheVariants as trouble

pub returns-in-Ok-clause-going : goal.returns-in-Ok-clause-going
returns-in-Ok-clause-going g c =
    let events = g.T.Taker.events in let h = c.args.self.now in let job = c.in-Ok.worker in
    let p : Slot _ _ _ = record { worker = Some job; ended = false } in
    let count : c.as_slice.result.now ≡ h.positions.items = c.as_slice.ensures.value in
    let from : job.from ≡ length h.positions.items + 1 = ap (λ j. j.from) c.in-Ok.ensures.job ∙ c.new-job.ensures.from ∙ ap (λ l. length l + 1) count in
    let to : sends_on job.to ≡ sends_on h.to = ap (λ j. sends_on j.to) c.in-Ok.ensures.job ∙ ap sends_on c.new-job.ensures.to ∙ c.in_ok-to.ensures in
    let began = subst (λ l. Adds (events h.taker) (events c.connect.new.self) (length l + 1) Connect) count (connected c.in_ok-connect.field-0 _ _ _ c.if-not-branch.false c.in_ok-connect.ensures.came) in
    came events h c.hire-pass.new.pass c.push_reserved.new.self c.connect.new.self h.met p c.requires.coming c.hire-pass.ensures.channel.0 c.hire-pass.ensures.views.0 c.hire-pass.ensures.fresh c.push_reserved.ensures.items (from, to) refl began (λ e. (e, refl))

pub returns-in_ok-gone-in-Err-clause-going : goal.returns-in_ok-gone-in-Err-clause-going
returns-in_ok-gone-in-Err-clause-going g c =
    let events = g.T.Taker.events in let h = c.args.self.now in
    let p : Slot _ _ _ = record { worker = None; ended = false } in
    let count : c.as_slice.result.now ≡ h.positions.items = c.as_slice.ensures.value in
    let began = subst (λ l. Adds (events h.taker) (events c.connect.new.self) (length l + 1) Connect) count (connected c.in_ok-connect.field-0 _ _ _ c.if-not-branch.false c.in_ok-connect.ensures.came) in
    let over = subst (λ l. Adds (events c.connect.new.self) (events c.gone.new.self) (length l + 1) Gone) count c.in_ok-gone-in-Err.ensures.gone in
    came events h c.hire-pass.new.pass c.push_reserved-in-Err.new.self c.gone.new.self _ p c.requires.coming c.hire-pass.ensures.channel.0 c.hire-pass.ensures.views.0 c.hire-pass.ensures.fresh c.push_reserved-in-Err.ensures.items tt refl (events c.connect.new.self, began, over) (λ e. absurd (never_none h.met _ trouble.Worker c.first-self-in-Err.ensures e))

pub returns-in-Ok-clause-held : goal.returns-in-Ok-clause-held
returns-in-Ok-clause-held g c =
    let told = g.I.Incoming.told in let h = c.args.self.now in let job = c.in-Ok.worker in
    let p : Slot _ _ _ = record { worker = Some job; ended = false } in
    let half = ap (λ j. j.half) c.in-Ok.ensures.job ∙ c.new-job.ensures.half in
    held_came told g.T.Taker.numbers h c.hire-pass.new.pass c.push_reserved.new.self c.connect.new.self h.met p (g.O.Outgoing.told c.args.outgoing).number c.hire-pass.ensures.channel.0
    (ap (λ v. v.takes) c.hire-pass.ensures.views.0 ∙ c.requires.held.takes) c.push_reserved.ensures.items c.requires.many
    (chosen c.in_ok-connect.field-0 _ _ _ c.if-not-branch.false c.in_ok-connect.ensures.half)
    (sym c.requires.pair.number ∙ sym (ap (λ i. (told i).number) half), subst (λ i. IsNew (told i)) (sym half) (g.O.Outgoing.told c.args.outgoing, c.requires.pair)) c.requires.held

pub returns-in_ok-gone-in-Err-clause-held : goal.returns-in_ok-gone-in-Err-clause-held
returns-in_ok-gone-in-Err-clause-held g c =
    let told = g.I.Incoming.told in let h = c.args.self.now in
    let p : Slot _ _ _ = record { worker = None; ended = false } in
    held_came told g.T.Taker.numbers h c.hire-pass.new.pass c.push_reserved-in-Err.new.self c.gone.new.self _ p (g.O.Outgoing.told c.args.outgoing).number c.hire-pass.ensures.channel.0
    (ap (λ v. v.takes) c.hire-pass.ensures.views.0 ∙ c.requires.held.takes) c.push_reserved-in-Err.ensures.items c.requires.many
    (c.gone.ensures.halves ∙ chosen c.in_ok-connect.field-0 _ _ _ c.if-not-branch.false c.in_ok-connect.ensures.half) tt c.requires.held

pub returns-in_err-connect-clause-held : goal.returns-in_err-connect-clause-held
returns-in_err-connect-clause-held g c = let h = c.args.self.now in held_with g.I.Incoming.told g.T.Taker.numbers h c.connect.new.self h.closed h.met c.connect.ensures.halves c.requires.held

pub returns-then-not-branch-clause-held : goal.returns-then-not-branch-clause-held
returns-then-not-branch-clause-held g c = let h = c.args.self.now in held_with g.I.Incoming.told g.T.Taker.numbers h c.connect.new.self h.closed _ c.connect.ensures.halves c.requires.held

pub returns-in_err-gone-in-Err-clause-held : goal.returns-in_err-gone-in-Err-clause-held
returns-in_err-gone-in-Err-clause-held g c =
    let h = c.args.self.now in
    held_passed g.I.Incoming.told g.T.Taker.numbers h c.hire-pass.new.pass c.gone.new.self _ c.hire-pass.ensures.channel.0 (ap (λ v. v.takes) c.hire-pass.ensures.views.0 ∙ c.requires.held.takes)
    (c.connect.ensures.halves.0, c.gone.ensures.halves ∙ c.connect.ensures.halves.1) c.requires.held

pub returns-in_ok-gone-in-Err-clause-right : goal.returns-in_ok-gone-in-Err-clause-right
returns-in_ok-gone-in-Err-clause-right g c = λ told drawn since.
    c.in_ok-gone-in-Err.ensures.right told drawn (g.E.Entropy.drawn c.connect.new.entropy) (c.in_ok-connect.ensures.right told drawn since)

pub returns-in-Ok-clause-readers : goal.returns-in-Ok-clause-readers
returns-in-Ok-clause-readers g c =
    let positions = c.args.self.now.positions.items in let job = c.in-Ok.worker in
    one_more positions c.push_reserved.new.self.items (record { worker = Some job; ended = false }) job (g.S.Spawner.started c.args.spawner.now) (g.S.Spawner.started c.start.new.self) c.push_reserved.ensures.items refl c.in-Ok.ensures.started

pub returns-in_ok-gone-in-Err-clause-readers : goal.returns-in_ok-gone-in-Err-clause-readers
returns-in_ok-gone-in-Err-clause-readers g c =
    none_more c.args.self.now.positions.items c.push_reserved-in-Err.new.self.items (record { worker = None; ended = false }) (g.S.Spawner.started c.args.spawner.now) (g.S.Spawner.started c.start.new.self) c.push_reserved-in-Err.ensures.items refl c.in-Err.ensures.not_started
