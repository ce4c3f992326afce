use Rattle.std.proofs.Common.{Err, Ok, ap, ◌∙◌}
use Rattle.cl_core.specs.UserCalls.{catch_up_answer}
use Rattle.cl_core.specs.declared.faults.CatchUpStart.TheVariants as fault
use Rattle.cmd_network.proofs.Asked.{catches_up_refused, catches_up_taken, refused_device, refused_put, still, still_put, told}
use Rattle.cmd_network.proofs.Puts.{seen}
use Rattle.cmd_network.specs.Devices.{DeviceState, Spoken, catches_up_on, refuses}
use Rattle.cmd_report.specs.declared.report.RefusedWhy.TheVariants as why
use Rattle.cmd_network.proofs.device.Device.ask.Goals as goal

pub returns-in-Ok-clause-device : goal.returns-in-Ok-clause-device
returns-in-Ok-clause-device c =
    let d : DeviceState = seen c.self.inside in
    ap (λ (s : Spoken). s.device)
    (catches_up_taken c.args.line c.args.most d c.catch_up.new.self c.args.out.now c.catch_up.new.out tt (c.requires.silent d.client)
    (told (Ok tt) (catch_up_answer d.client.client) fault.NoMemory c.in-Ok.ensures.exact (λ e. cc))
    c.in-Ok.ensures.ok c.catch_up.ensures.framer ∙ ap (λ (x : DeviceState). catches_up_on c.args.line c.args.most x) c.self.view_is)

pub returns-in-Ok-clause-put : goal.returns-in-Ok-clause-put
returns-in-Ok-clause-put c =
    let d : DeviceState = seen c.self.inside in
    ap (λ (s : Spoken). s.put)
    (catches_up_taken c.args.line c.args.most d c.catch_up.new.self c.args.out.now c.catch_up.new.out tt (c.requires.silent d.client)
    (told (Ok tt) (catch_up_answer d.client.client) fault.NoMemory c.in-Ok.ensures.exact (λ e. cc))
    c.in-Ok.ensures.ok c.catch_up.ensures.framer ∙ ap (λ (x : DeviceState). catches_up_on c.args.line c.args.most x) c.self.view_is)

pub returns-in-Err-NotBound-clause-device : goal.returns-in-Err-NotBound-clause-device
returns-in-Err-NotBound-clause-device c =
    let d : DeviceState = seen c.self.inside in
    refused_device c.refuse.result d c.refuse.new.self c.catch_up.new.self c.args.line why.NotBound (catches_up_on c.args.line c.args.most c.args.self.now)
    (still d.client c.catch_up.new.self c.args.out.now c.catch_up.new.out c.in-Err-NotBound.ensures.err c.catch_up.ensures.framer)
    (catches_up_refused c.args.line c.args.most d fault.NotBound (told (Err fault.NotBound) (catch_up_answer d.client.client) fault.NoMemory (rw c.in-Err-NotBound.field-0-is at c.in-Err-NotBound.ensures.exact) (λ e. cc)) ∙ ap (λ (x : DeviceState). catches_up_on c.args.line c.args.most x) c.self.view_is)
    c.refuse.ensures

pub returns-in-Err-NotBound-clause-put : goal.returns-in-Err-NotBound-clause-put
returns-in-Err-NotBound-clause-put c =
    let d : DeviceState = seen c.self.inside in
    refused_put c.refuse.result (refuses c.args.line why.NotBound d) c.catch_up.new.out.bytes.items (catches_up_on c.args.line c.args.most c.args.self.now)
    (still_put d.client c.catch_up.new.self c.args.out.now c.catch_up.new.out (c.requires.silent d.client) c.in-Err-NotBound.ensures.err)
    (catches_up_refused c.args.line c.args.most d fault.NotBound (told (Err fault.NotBound) (catch_up_answer d.client.client) fault.NoMemory (rw c.in-Err-NotBound.field-0-is at c.in-Err-NotBound.ensures.exact) (λ e. cc)) ∙ ap (λ (x : DeviceState). catches_up_on c.args.line c.args.most x) c.self.view_is)

pub returns-in-Err-OutboxFull-clause-device : goal.returns-in-Err-OutboxFull-clause-device
returns-in-Err-OutboxFull-clause-device c =
    let d : DeviceState = seen c.self.inside in
    refused_device c.refuse-in-Err-OutboxFull.result d c.refuse-in-Err-OutboxFull.new.self c.catch_up.new.self c.args.line why.OutboxFull (catches_up_on c.args.line c.args.most c.args.self.now)
    (still d.client c.catch_up.new.self c.args.out.now c.catch_up.new.out c.in-Err-OutboxFull.ensures.err c.catch_up.ensures.framer)
    (catches_up_refused c.args.line c.args.most d fault.OutboxFull (told (Err fault.OutboxFull) (catch_up_answer d.client.client) fault.NoMemory (rw c.in-Err-OutboxFull.field-0-is at c.in-Err-OutboxFull.ensures.exact) (λ e. cc)) ∙ ap (λ (x : DeviceState). catches_up_on c.args.line c.args.most x) c.self.view_is)
    c.refuse-in-Err-OutboxFull.ensures

pub returns-in-Err-OutboxFull-clause-put : goal.returns-in-Err-OutboxFull-clause-put
returns-in-Err-OutboxFull-clause-put c =
    let d : DeviceState = seen c.self.inside in
    refused_put c.refuse-in-Err-OutboxFull.result (refuses c.args.line why.OutboxFull d) c.catch_up.new.out.bytes.items (catches_up_on c.args.line c.args.most c.args.self.now)
    (still_put d.client c.catch_up.new.self c.args.out.now c.catch_up.new.out (c.requires.silent d.client) c.in-Err-OutboxFull.ensures.err)
    (catches_up_refused c.args.line c.args.most d fault.OutboxFull (told (Err fault.OutboxFull) (catch_up_answer d.client.client) fault.NoMemory (rw c.in-Err-OutboxFull.field-0-is at c.in-Err-OutboxFull.ensures.exact) (λ e. cc)) ∙ ap (λ (x : DeviceState). catches_up_on c.args.line c.args.most x) c.self.view_is)

pub returns-in-Err-Underway-clause-device : goal.returns-in-Err-Underway-clause-device
returns-in-Err-Underway-clause-device c =
    let d : DeviceState = seen c.self.inside in
    refused_device c.refuse-in-Err-Underway.result d c.refuse-in-Err-Underway.new.self c.catch_up.new.self c.args.line why.Underway (catches_up_on c.args.line c.args.most c.args.self.now)
    (still d.client c.catch_up.new.self c.args.out.now c.catch_up.new.out c.in-Err-Underway.ensures.err c.catch_up.ensures.framer)
    (catches_up_refused c.args.line c.args.most d fault.Underway (told (Err fault.Underway) (catch_up_answer d.client.client) fault.NoMemory (rw c.in-Err-Underway.field-0-is at c.in-Err-Underway.ensures.exact) (λ e. cc)) ∙ ap (λ (x : DeviceState). catches_up_on c.args.line c.args.most x) c.self.view_is)
    c.refuse-in-Err-Underway.ensures

pub returns-in-Err-Underway-clause-put : goal.returns-in-Err-Underway-clause-put
returns-in-Err-Underway-clause-put c =
    let d : DeviceState = seen c.self.inside in
    refused_put c.refuse-in-Err-Underway.result (refuses c.args.line why.Underway d) c.catch_up.new.out.bytes.items (catches_up_on c.args.line c.args.most c.args.self.now)
    (still_put d.client c.catch_up.new.self c.args.out.now c.catch_up.new.out (c.requires.silent d.client) c.in-Err-Underway.ensures.err)
    (catches_up_refused c.args.line c.args.most d fault.Underway (told (Err fault.Underway) (catch_up_answer d.client.client) fault.NoMemory (rw c.in-Err-Underway.field-0-is at c.in-Err-Underway.ensures.exact) (λ e. cc)) ∙ ap (λ (x : DeviceState). catches_up_on c.args.line c.args.most x) c.self.view_is)
