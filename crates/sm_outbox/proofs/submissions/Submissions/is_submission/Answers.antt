use Rattle.std.proofs.Common.{◌-◌, vec_capacity, vec_len}
use Rattle.sm_outbox.proofs.NumberedSubmissions.{found_all, found_none}
use Rattle.sm_outbox.proofs.submissions.Submissions.is_submission.Goals as goal

pub returns-in_default : goal.returns-in_default
returns-in_default c =
    let items = c.self.inside.items in
    found_none c.args.resource.now c.args.id.now items.items c.self.inside.settled c.self.inside.epoch c.self.inside.n (vec_capacity items - vec_len items) c.args.self.now c.self.view_is c.self.invariant.1 c.in_default.ensures.none

pub returns-then-self : goal.returns-then-self
returns-then-self c =
    let items = c.self.inside.items in
    found_all c.args.resource.now c.args.id.now c.in-Some.epoch c.in-Some.n c.position-at.result c.is_anywhere.result items.items c.as_slice-items.result.now c.self.inside.settled c.self.inside.epoch c.self.inside.n (vec_capacity items - vec_len items) c.args.self.now
    c.self.view_is c.self.invariant.1 c.as_slice-items.ensures.value c.position-at.ensures.fits c.in-Some.ensures.some c.position-at.ensures.value c.is_anywhere.ensures

pub returns : goal.returns
returns c =
    let items = c.self.inside.items in
    found_all c.args.resource.now c.args.id.now c.in-Some.epoch c.in-Some.n c.position-at.result c.is_among.result items.items c.as_slice-items.result.now c.self.inside.settled c.self.inside.epoch c.self.inside.n (vec_capacity items - vec_len items) c.args.self.now
    c.self.view_is c.self.invariant.1 c.as_slice-items.ensures.value c.position-at.ensures.fits c.in-Some.ensures.some c.position-at.ensures.value c.is_among.ensures
