use Rattle.xml_framer.proofs.LargerLimits.{header_is}
use Rattle.xml_names.specs.TagView.{tag_view}
use Rattle.xml_framer.proofs.framer.Framer.opens_stream.Goals as goal

pub returns : goal.returns
returns c =
    header_is c.args.self.now (tag_view c.args.tag.now) c.opens_stream.result c.requires.attributes c.requires.namespace_bytes c.requires.read c.opens_stream.ensures
