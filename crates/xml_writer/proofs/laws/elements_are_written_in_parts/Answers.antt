use Rattle.xml_writer.specs.Canon.{client_namespace}
use Rattle.xml_writer.proofs.PartLaws.{in_parts, nodes_in_parts}
use Rattle.xml_writer.proofs.laws.elements_are_written_in_parts.Goals as goal

pub returns : goal.returns
returns c = record { element = in_parts; top = in_parts client_namespace; nodes = nodes_in_parts }
