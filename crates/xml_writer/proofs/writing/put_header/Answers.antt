use Rattle.std.proofs.Common.{codes}
use Rattle.xml_writer.specs.Canon.{written_given}
use Rattle.xml_writer.proofs.WrittenTags.{seven_items, seventh_room}
use Rattle.xml_writer.proofs.writing.put_header.Goals as goal

pub append_reserved-requires-2 : goal.append_reserved-requires-2
append_reserved-requires-2 c =
    let h = c.args.header.now in
    seventh_room c.args.out.now.spare c.append_reserved.new.self.spare c.put_given.new.out.spare c.put_given-2.new.out.spare c.put_given-3.new.out.spare c.put_given-4.new.out.spare c.put_given-5.new.out.spare
    (codes "<stream:stream") (written_given (codes "from") h.from) (written_given (codes "id") h.id) (written_given (codes "to") h.to) (written_given (codes "version") h.version) (written_given (codes "xml:lang") h.lang)
    (codes " xmlns='jabber:client' xmlns:stream='http://etherx.jabber.org/streams'>")
    c.requires c.append_reserved.ensures.spare c.put_given.ensures.spare c.put_given-2.ensures.spare c.put_given-3.ensures.spare c.put_given-4.ensures.spare c.put_given-5.ensures.spare

pub returns : goal.returns
returns c =
    let h = c.args.header.now in
    seven_items c.args.out.now.items c.append_reserved.new.self.items c.put_given.new.out.items c.put_given-2.new.out.items c.put_given-3.new.out.items c.put_given-4.new.out.items c.put_given-5.new.out.items c.append_reserved-2.new.self.items
    (codes "<stream:stream") (written_given (codes "from") h.from) (written_given (codes "id") h.id) (written_given (codes "to") h.to) (written_given (codes "version") h.version) (written_given (codes "xml:lang") h.lang)
    (codes " xmlns='jabber:client' xmlns:stream='http://etherx.jabber.org/streams'>")
    c.append_reserved.ensures.items c.put_given.ensures.items c.put_given-2.ensures.items c.put_given-3.ensures.items c.put_given-4.ensures.items c.put_given-5.ensures.items c.append_reserved-2.ensures.items
