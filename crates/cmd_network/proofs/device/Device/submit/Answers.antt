use Rattle.std.proofs.Common.{Err, Ok, ap, ◌∙◌}
use Rattle.cl_core.specs.UserCalls.{say_answer}
use Rattle.cl_core.specs.Values.{ClientValue}
use Rattle.cl_core.specs.declared.faults.SayFault.TheVariants as fault
use Rattle.cmd_network.proofs.Asked.{says_refused, says_taken, refused_device, refused_put, still, still_put, told}
use Rattle.cmd_network.proofs.Puts.{seen}
use Rattle.cmd_network.specs.Devices.{DeviceState, Spoken, refuses, says_to}
use Rattle.cmd_report.specs.declared.report.RefusedWhy.TheVariants as why
use Rattle.cmd_network.proofs.device.Device.submit.Goals as goal

pub returns-in-Ok-clause-device : goal.returns-in-Ok-clause-device
returns-in-Ok-clause-device c =
    let d : DeviceState = seen c.self.inside in
    ap (λ (s : Spoken). s.device)
    (says_taken c.args.line c.in-Ok.field-0 c.args.to.now c.args.text.now c.args.private d c.say.new.self c.args.out.now c.say.new.out (c.requires.silent d.client)
    (told (Ok c.in-Ok.field-0) (say_answer d.client.client c.args.text.now) fault.NoMemory c.in-Ok.ensures.exact (λ e. cc))
    c.in-Ok.ensures.ok c.say.ensures.framer ∙ ap (λ (x : DeviceState). says_to c.args.line c.args.to.now c.args.text.now c.args.private x) c.self.view_is)

pub returns-in-Ok-clause-put : goal.returns-in-Ok-clause-put
returns-in-Ok-clause-put c =
    let d : DeviceState = seen c.self.inside in
    ap (λ (s : Spoken). s.put)
    (says_taken c.args.line c.in-Ok.field-0 c.args.to.now c.args.text.now c.args.private d c.say.new.self c.args.out.now c.say.new.out (c.requires.silent d.client)
    (told (Ok c.in-Ok.field-0) (say_answer d.client.client c.args.text.now) fault.NoMemory c.in-Ok.ensures.exact (λ e. cc))
    c.in-Ok.ensures.ok c.say.ensures.framer ∙ ap (λ (x : DeviceState). says_to c.args.line c.args.to.now c.args.text.now c.args.private x) c.self.view_is)

pub returns-in-Err-NotBound-clause-device : goal.returns-in-Err-NotBound-clause-device
returns-in-Err-NotBound-clause-device c =
    let d : DeviceState = seen c.self.inside in
    refused_device c.refuse.result d c.refuse.new.self c.say.new.self c.args.line why.NotBound (says_to c.args.line c.args.to.now c.args.text.now c.args.private c.args.self.now)
    (still d.client c.say.new.self c.args.out.now c.say.new.out c.in-Err-NotBound.ensures.err c.say.ensures.framer)
    (says_refused c.args.line c.args.to.now c.args.text.now c.args.private d fault.NotBound (told (Err fault.NotBound) (say_answer d.client.client c.args.text.now) fault.NoMemory (rw c.in-Err-NotBound.field-0-is at c.in-Err-NotBound.ensures.exact) (λ e. cc)) ∙ ap (λ (x : DeviceState). says_to c.args.line c.args.to.now c.args.text.now c.args.private x) c.self.view_is)
    c.refuse.ensures

pub returns-in-Err-NotBound-clause-put : goal.returns-in-Err-NotBound-clause-put
returns-in-Err-NotBound-clause-put c =
    let d : DeviceState = seen c.self.inside in
    refused_put c.refuse.result (refuses c.args.line why.NotBound d) c.say.new.out.bytes.items (says_to c.args.line c.args.to.now c.args.text.now c.args.private c.args.self.now)
    (still_put d.client c.say.new.self c.args.out.now c.say.new.out (c.requires.silent d.client) c.in-Err-NotBound.ensures.err)
    (says_refused c.args.line c.args.to.now c.args.text.now c.args.private d fault.NotBound (told (Err fault.NotBound) (say_answer d.client.client c.args.text.now) fault.NoMemory (rw c.in-Err-NotBound.field-0-is at c.in-Err-NotBound.ensures.exact) (λ e. cc)) ∙ ap (λ (x : DeviceState). says_to c.args.line c.args.to.now c.args.text.now c.args.private x) c.self.view_is)

pub returns-in-Err-OutboxFull-clause-device : goal.returns-in-Err-OutboxFull-clause-device
returns-in-Err-OutboxFull-clause-device c =
    let d : DeviceState = seen c.self.inside in
    refused_device c.refuse-in-Err-OutboxFull.result d c.refuse-in-Err-OutboxFull.new.self c.say.new.self c.args.line why.OutboxFull (says_to c.args.line c.args.to.now c.args.text.now c.args.private c.args.self.now)
    (still d.client c.say.new.self c.args.out.now c.say.new.out c.in-Err-OutboxFull.ensures.err c.say.ensures.framer)
    (says_refused c.args.line c.args.to.now c.args.text.now c.args.private d fault.OutboxFull (told (Err fault.OutboxFull) (say_answer d.client.client c.args.text.now) fault.NoMemory (rw c.in-Err-OutboxFull.field-0-is at c.in-Err-OutboxFull.ensures.exact) (λ e. cc)) ∙ ap (λ (x : DeviceState). says_to c.args.line c.args.to.now c.args.text.now c.args.private x) c.self.view_is)
    c.refuse-in-Err-OutboxFull.ensures

pub returns-in-Err-OutboxFull-clause-put : goal.returns-in-Err-OutboxFull-clause-put
returns-in-Err-OutboxFull-clause-put c =
    let d : DeviceState = seen c.self.inside in
    refused_put c.refuse-in-Err-OutboxFull.result (refuses c.args.line why.OutboxFull d) c.say.new.out.bytes.items (says_to c.args.line c.args.to.now c.args.text.now c.args.private c.args.self.now)
    (still_put d.client c.say.new.self c.args.out.now c.say.new.out (c.requires.silent d.client) c.in-Err-OutboxFull.ensures.err)
    (says_refused c.args.line c.args.to.now c.args.text.now c.args.private d fault.OutboxFull (told (Err fault.OutboxFull) (say_answer d.client.client c.args.text.now) fault.NoMemory (rw c.in-Err-OutboxFull.field-0-is at c.in-Err-OutboxFull.ensures.exact) (λ e. cc)) ∙ ap (λ (x : DeviceState). says_to c.args.line c.args.to.now c.args.text.now c.args.private x) c.self.view_is)

pub returns-in-Err-BadText-clause-device : goal.returns-in-Err-BadText-clause-device
returns-in-Err-BadText-clause-device c =
    let d : DeviceState = seen c.self.inside in
    ap (λ (x : ClientValue). record d { client = x })
    (still d.client c.say.new.self c.args.out.now c.say.new.out c.in-Err-BadText.ensures.err c.say.ensures.framer)
    ∙ ap (λ (s : Spoken). s.device) (says_refused c.args.line c.args.to.now c.args.text.now c.args.private d fault.BadText (told (Err fault.BadText) (say_answer d.client.client c.args.text.now) fault.NoMemory (rw c.in-Err-BadText.field-0-is at c.in-Err-BadText.ensures.exact) (λ e. cc)) ∙ ap (λ (x : DeviceState). says_to c.args.line c.args.to.now c.args.text.now c.args.private x) c.self.view_is)

pub returns-in-Err-BadText-clause-put : goal.returns-in-Err-BadText-clause-put
returns-in-Err-BadText-clause-put c =
    let d : DeviceState = seen c.self.inside in
    still_put d.client c.say.new.self c.args.out.now c.say.new.out (c.requires.silent d.client) c.in-Err-BadText.ensures.err
    ∙ ap (λ (s : Spoken). s.put) (says_refused c.args.line c.args.to.now c.args.text.now c.args.private d fault.BadText (told (Err fault.BadText) (say_answer d.client.client c.args.text.now) fault.NoMemory (rw c.in-Err-BadText.field-0-is at c.in-Err-BadText.ensures.exact) (λ e. cc)) ∙ ap (λ (x : DeviceState). says_to c.args.line c.args.to.now c.args.text.now c.args.private x) c.self.view_is)
