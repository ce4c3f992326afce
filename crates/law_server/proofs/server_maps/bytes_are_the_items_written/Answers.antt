use Rattle.law_server.proofs.TableRendered.{items_rendered}
use Rattle.law_server.proofs.EventsRendered.{bytes_rendered, fault_rendered, item_rendered, news_dropped, turn_rendered}
use Rattle.law_server.proofs.MomentsRendered.{connect_rendered, left_rendered, moment_rendered}
use Rattle.law_server.proofs.server_maps.bytes_are_the_items_written.Goals as goal
use Rattle.law_server.specs.Encodings.{itself}
use Rattle.xml_writer.specs.Items.{written_item}

pub returns : goal.returns
returns c = record {
  item = item_rendered written_item itself;
  items = items_rendered written_item itself;
  fault = fault_rendered written_item itself;
  turn = turn_rendered written_item itself;
  bytes = bytes_rendered written_item itself;
  moment = moment_rendered written_item;
  connect = connect_rendered written_item;
  gone = left_rendered written_item;
  news = news_dropped written_item;
}
