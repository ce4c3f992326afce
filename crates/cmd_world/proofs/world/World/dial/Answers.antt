use Rattle.std.proofs.Common.{◌∙◌, arith}
use Rattle.std.proofs.lemmas.Result.{on_ok_weaker}
use Rattle.cmd_world.proofs.Dials.{dialed}
use Rattle.cmd_world.proofs.world.World.dial.Goals as goal
use Rattle.cmd_world.specs.Worlds.{ByteWorld}

pub returns : goal.returns
returns c =
    let in_it = c.self.inside in
    let w : ByteWorld = record {
      version = in_it.version;
      moment = in_it.moment;
      server = in_it.server;
      accounts = in_it.accounts.items;
      names = in_it.index;
      devices = in_it.devices.items;
      wires = in_it.wires.items;
      takes = in_it.takes.items;
    } in
    rw (← c.self.view_is)
    (on_ok_weaker c.add_wire.result
    (dialed w c.args.position c.len-wire.result c.here-here.result c.index.result.now c.index_mut.result.now c.dial.new.self c.client_entropy.result c.server_entropy.result
    c.as_slice.result.now c.connect.new.self c.add_wire.new.wires.items (omega arith) c.index.ensures c.index_mut.ensures.value c.here-here.ensures (omega arith)
    c.client_entropy.ensures c.server_entropy.ensures c.in_ok-put.ensures.device (c.as_slice.ensures ∙ c.in_ok-put.ensures.put) c.in_ok-connect.ensures.ok)
    c.add_wire.ensures)
