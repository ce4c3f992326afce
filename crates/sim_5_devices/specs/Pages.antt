-- How many pages a device asked for in its session, and how many of these ended.
use Rattle.std.specs.Prelude.{◌≡◌, ◌+◌, ◌≤◌, ◌++◌, true, List, None, map}
use Rattle.sim_2_links.specs.Paging.{many, one_if}
use Rattle.sim_5_devices.specs.InTime.{is_end, is_query}
use Rattle.sim_3_items.specs.Downs.{down_stanza}
use Rattle.sim_3_items.specs.Ups.{up_stanza}
use Rattle.sim_1_applications.specs.Devices.{Device, up_put}
use Rattle.xml_writer.specs.Items.{ItemOut}

-- The server ends no page that was not asked for, and the client asks for one page after the other: where none is under
-- way, each has ended.
pub record IsPaged (d : Device) : Type 0 where
  pub given : many is_end (d.sessions.now.down_got ++ d.sessions.now.down_rest) ≤ many is_query d.sessions.now.up_got
  pub asked : many is_query (up_put d.sessions.now) ≤ many is_end d.sessions.now.down_got + 1
  pub ended : d.sessions.online ≡ true → d.reading.page ≡ None → many is_query (up_put d.sessions.now) ≤ many is_end d.sessions.now.down_got

-- as the server handles a stanza, it ends a page at most where that is a request
abbrev pub EndsFor : ItemOut → List ItemOut → Type 0
EndsFor z zs = many is_end (map down_stanza zs) ≤ one_if (is_query (up_stanza z))
