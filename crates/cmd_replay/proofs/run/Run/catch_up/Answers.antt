-- The device at the place has its log caught up.
use Rattle.std.proofs.Common.{◌≡◌, get_or, refl, sym, ap, ◌∙◌, subst}
use Rattle.cmd_replay.proofs.Ready.{OnOk_then, device_there, order_ready}
use Rattle.cmd_replay.specs.Devices.{DeviceState}
use Rattle.cmd_replay.specs.Turns.{caught_up}
use Rattle.cmd_replay.proofs.run.Run.catch_up.Goals as goal

pub catch_up-requires-clause-in_order : goal.catch_up-requires-clause-in_order
catch_up-requires-clause-in_order c =
    let inside = c.device.inside in
    let device : DeviceState = record { name = inside.name; account = inside.account; home = inside.home; said = inside.said; log = inside.log } in
    order_ready c.args.self.now c.in-Some.position device c.archive.result.now.last c.requires.ready c.in-Some.ensures.there.0
    (subst (λ (d : DeviceState). d ≡ get_or c.args.self.now.devices.items c.in-Some.position d) (sym c.device.view_is) c.index_mut-device.ensures.value)
    c.archive.ensures.last

pub returns : goal.returns
returns c =
    let inside = c.device.inside in
    let device : DeviceState = record { name = inside.name; account = inside.account; home = inside.home; said = inside.said; log = inside.log } in
    let read = subst (λ (d : DeviceState). d ≡ get_or c.args.self.now.devices.items c.in-Some.position d) (sym c.device.view_is) c.index_mut-device.ensures.value in
    OnOk_then c.catch_up.result c.catch_up.ensures (λ done. record {
      frame = record { version = refl; keep = refl; moment = refl };
      position = c.in-Some.position;
      old = device;
      new = _;
      named = sym c.in-Some.ensures.position;
      there = device_there c.args.self.now c.in-Some.position device c.requires.ready c.in-Some.ensures.there.0 read;
      devices = refl;
      index = refl;
      homes = refl;
      takes = refl;
      same = (refl, refl, refl, refl);
      log = λ d. done ∙ ap (λ n. caught_up c.args.most n c.archive.result.now.entries device.log) (c.archive.ensures.last d)
          ∙ ap (λ es. caught_up c.args.most (get_or c.args.self.now.accounts.homes inside.home d).last es device.log) (c.archive.ensures.entries d);
    })
