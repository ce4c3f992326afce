use Rattle.std.proofs.Common.{[], ◌++◌, ap, ◌∙◌, arith}
use Rattle.std.specs.Option.{option_map_or}
use Rattle.std.specs.Prelude.{slice_get}
use Rattle.cmd_deciding.specs.Texts.{device_texts}
use Rattle.cmd_deciding.proofs.Printed.{next_device}
use Rattle.cmd_deciding.proofs.texts.print_all.Goals as goal

pub loop-device-preserved : goal.loop-device-preserved
loop-device-preserved c =
    let at = c.loop-device.device-index in
    let d = c.device-item.result in
    let vs = c.args.intents.now in
    let out = c.loop-device.out.items in
    let there = c.intents_at.ensures ∙ ap (slice_get vs) c.loop-device.invariant.at in
    record {
      whole =
          next_device at c.args.devices.now vs d out c.print_device.new.out.items _ (omega arith) c.device-item.is
          (c.in_ok-print_device.ensures ∙ ap (λ o. out ++ option_map_or (device_texts d) o []) there) c.loop-device.invariant.whole;
      at = (let was = c.loop-device.invariant.at in omega (arith, was));
    }
