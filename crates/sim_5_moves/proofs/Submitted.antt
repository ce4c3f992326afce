-- A message that goes up is a submission of the device's session.
use Rattle.std.proofs.Common.{◌≡◌, sym, subst, ◌∙◌}
use Rattle.sim_3_items.specs.Meant.{submitted}
use Rattle.sim_3_items.specs.Ups.{up_stanza}
use Rattle.sim_5_moves.specs.Submits.{Submits}
use Rattle.cmd_report.specs.Addresses.{domain}
use Rattle.sim_5_moves.proofs.ServersComing.{Coming, are_declared, built_up, elem, few, mine, rule, server_state, speaker, speaker_is}
use Rattle.sim_3_items.specs.Built.{IsSaid, IsUpAs}
use Rattle.sim_1_applications.specs.Stanzas.{Message, Submission}
use Rattle.sim_1_applications.specs.Runs.{owned_of}
use Rattle.sim_5_moves.specs.Running.{keep_in, names_of}

module _ (c : Coming) (m : Submission) (reads : up_stanza c.z ≡ Message m) where
  said : (c.z ≡ submitted c.o.device domain m) × IsSaid c.o m
  said = subst (λ y. IsUpAs c.o y c.z) reads (built_up c)

  pub submits : Submits (keep_in c.schedule) (owned_of c.schedule) (names_of c.schedule) c.x.takes (server_state c) (mine c) c.o (speaker c) m (elem c)
  submits = record {
    declared = are_declared c.schedule c.right;
    runs = c.runs.simulation.server;
    rule = rule c;
    few = few c;
    session = speaker_is c;
    said = said.1;
    element = sym said.0 ∙ c.session.stanza.whole;
  }
