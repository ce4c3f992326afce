use Rattle.law_xml.proofs.PlainElements.{element_is_plain, header_again, header_is_plain, stream_is_plain, top_is_plain, written_again, written_same}
use Rattle.law_xml.proofs.SpelledTrees.{spelled_tree}
use Rattle.law_xml.proofs.round_trips.what_is_read_is_plain.Goals as goal

pub returns : goal.returns
returns c = record {
  tree = spelled_tree;
  element = element_is_plain;
  top = top_is_plain;
  header = header_is_plain;
  stream = stream_is_plain;
  again = written_again;
  header_again = header_again;
  same_header = written_same;
}
