-- Items as the stanzas of the two applications.
use Rattle.sim_3_items.specs.Downs.{down_stanza}
use Rattle.sim_3_items.specs.Ups.{up_stanza}
use Rattle.sim_2_events.specs.Lists.{Stanzas}
use Rattle.xml_writer.specs.Items.{ItemOut}

abbrev pub stanzas_read : Stanzas ItemOut
stanzas_read = record { up = up_stanza; down = down_stanza }
