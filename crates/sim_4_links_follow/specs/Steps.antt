-- An item goes up in a world: what that is for the device on whose connection it does, and for the devices beside.
use Rattle.std.specs.Prelude.{ℕ, ◌+◌, List, [], ◌∷◌, ◌++◌}
use Rattle.srv_state.specs.State.{ServerState}
use Rattle.sim_3_items.specs.Labels.{Label, Takes, gives_all}
use Rattle.sim_3_items.specs.Identities.{Identity, Login}
use Rattle.sim_3_items.specs.Pipes.{by_number}
use Rattle.sim_3_items.specs.Represents.{Represents}
use Rattle.sim_4_links_follow.specs.Following.{WorldFollows}
use Rattle.sim_3_items.specs.ItemMoves.{Up, moved}
use Rattle.sim_3_items.specs.ItemPipes.{ItemWire}
use Rattle.sim_3_items.specs.ItemWorlds.{ItemWorld}
use Rattle.sim_2_links.specs.Machine.{LinkReached}
use Rattle.sim_2_links.specs.Views.{View}
use Rattle.sim_2_links.specs.Words.{St, Up as UpTraffic, UpWord}
use Rattle.sim_4_links_follow.specs.Taking.{AreApart, HasFirst, on_item}
use Rattle.sim_4_links_follow.specs.Given.{IsGiven, IsOfSession, IsTold, acts_on}
use Rattle.xml_writer.specs.Items.{ItemOut}

-- another device is shown beside the one
pub record IsOtherRepresented (who whom : Identity) (others : ℕ → Login) (w : ItemWorld) (u : View ItemOut) : Type 0 where
  pub apart : AreApart who whom
  pub reached : LinkReached u
  pub represents : Represents whom others w u

-- ---- stanzas

-- where the word is a stanza, it is one of the session of the device
abbrev pub IsOfWord : Identity → ServerState ItemOut → UpWord ItemOut → Type 0
IsOfWord who h (UpTraffic (St z)) = IsOfSession who h z
IsOfWord who h word = Unit {0}

-- first the links of a device do what is said, and then the device is given what the row on a stanza sends to its session;
-- and what the server puts out, and what waits in that session then, tell it
pub record IsGivenIn (who whom : Identity) (logins : ℕ → Login) (position : ℕ) (w after : ItemWorld) (v : View ItemOut) (z : ItemOut) (session : IsOfSession who w.server z) (first : List (Label ItemOut)) : Type 0 where
  pub given : List ItemOut
  pub follows : WorldFollows whom logins after v (first ++ gives_all given)
  pub are_given : IsGiven (acts_on who w.server z session) given v.row follows.next.row
  pub told : IsTold v.row (on_item (position + 1) z w.server).outs given follows.next.row

-- ---- items

-- what the device does first whose stanza it is, and what each other one does
abbrev pub takes_it : ItemOut → List (Label ItemOut)
takes_it z = Takes z ∷ []

abbrev pub takes_nothing : ItemOut → List (Label ItemOut)
takes_nothing z = []

-- behind an item that went up on a connection of the one, the links of a device, the one or another, have moved: on a
-- stanza so, and on any other word without a stanza
abbrev pub UpDoes : Identity → Identity → (ℕ → Login) → ℕ → ItemWorld → ItemWorld → View ItemOut → (ItemOut → List (Label ItemOut)) → UpWord ItemOut → Type 0
UpDoes who whom logins position w after v first (UpTraffic (St z)) = (session : IsOfSession who w.server z) → IsGivenIn who whom logins position w after v z session (first z)
UpDoes who whom logins position w after v first word = WorldFollows whom logins after v []

-- The item is that of a word of the device, and every device's links have moved by that word.
pub record ItemGoesUp (who : Identity) (logins : ℕ → Login) (w : ItemWorld) (v : View ItemOut) (position : ℕ) (wire : ItemWire) (i : ItemOut) : Type 0 where
  pub has : HasFirst who logins w.server (by_number w.wires) v (position + 1) wire i
  pub session : IsOfWord who w.server has.word
  pub does : UpDoes who who logins position w (moved (Up position) w) v takes_it has.word
  pub beside : (whom : Identity) (others : ℕ → Login) (u : View ItemOut) → IsOtherRepresented who whom others w u → UpDoes who whom others position w (moved (Up position) w) u takes_nothing has.word
