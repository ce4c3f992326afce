-- An item goes up: the word that it is, and what it does for each device.
use Rattle.std.proofs.Common.{◌≡◌, ℕ, ◌+◌, List, [], ◌∷◌, ◌++◌, Some, slice_get, sym, ap, subst, ◌∙◌}
use Rattle.sim_4_links_follow.proofs.Stays.{client_stays}
use Rattle.sim_4_links_follow.specs.Following.{WorldFollows}
use Rattle.sim_3_items.specs.Labels.{Label, SaysNothing, gives_all}
use Rattle.sim_3_items.specs.Identities.{Identity, Login}
use Rattle.sim_3_items.specs.Pipes.{by_number}
use Rattle.sim_3_items.specs.Sent.{sent}
use Rattle.sim_3_items.specs.Represents.{Represents}
use Rattle.sim_3_items.specs.WordItems.{up_item}
use Rattle.sim_3_items.specs.ItemMoves.{Up, moved, served_by, served_first, served_item}
use Rattle.sim_3_items.specs.ItemPipes.{ItemWire, handed_up}
use Rattle.sim_3_items.specs.ItemWorlds.{ItemWorld}
use Rattle.sim_2_links.specs.Machine.{LinkReached}
use Rattle.sim_2_links.specs.Views.{View, with_at}
use Rattle.sim_2_links.specs.Words.{Ack, Auth, Bind, Enable, Foot, Hdr, Req, Resp, ResumeAt, St, Up as UpTraffic, UpWord}
use Rattle.sim_4_links_follow.proofs.Words.{word_stays}
use Rattle.sim_4_links_follow.specs.OtherDevices.{HasRoom, IsNoStanza, IsOtherDevice}
use Rattle.sim_4_links_follow.proofs.BindRows.{bind_follows}
use Rattle.sim_4_links_follow.proofs.FooterRows.{foot_follows}
use Rattle.sim_4_links_follow.proofs.Former.{pipes_as}
use Rattle.sim_4_links_follow.proofs.ItemsTaken.{next_is_word, next_wires}
use Rattle.sim_4_links_follow.proofs.LoginRows.{login_follows}
use Rattle.sim_4_links_follow.proofs.Resumptions.{resume_follows}
use Rattle.sim_4_links_follow.proofs.SessionRows.{management_follows}
use Rattle.sim_4_links_follow.specs.Taking.{AreCountable, HasFirst, HasNumber, IsFirst, IsTaken, StepFollows, on_item}
use Rattle.sim_4_links_follow.proofs.StanzaRows.{reaches_other, stanza_comes, stanza_follows}
use Rattle.sim_4_links_follow.specs.Given.{IsOfSession, StepGives, acts_on}
use Rattle.sim_4_links_follow.proofs.Changes.{under_position}
use Rattle.sim_4_links_follow.proofs.PromptMoves.{gives_nothing_said, silent_as}
use Rattle.sim_4_links_follow.specs.Steps.{IsGivenIn, IsOfWord, IsOtherRepresented, ItemGoesUp, UpDoes, takes_it, takes_nothing}
use Rattle.xml_writer.specs.Items.{ItemOut}

-- ---- a step of the server on the first item of a connection, in the world

module _ (w : ItemWorld) (position : ℕ) (x : ItemWire) (j : ItemOut) (items : List ItemOut) (there : slice_get w.wires position ≡ Some x) (first : x.up.items ≡ j ∷ items) where
  pub moved_so : moved (Up position) w ≡ served_item position j w
  moved_so = ap (λ o. served_by position o w) there ∙ ap (λ l. served_first position l w) first

  served_represents : (whom : Identity) (others : ℕ → Login) (u : View ItemOut) (done : List (Label ItemOut)) → Represents whom others w u → (step : StepFollows whom others (by_number w.wires) u (position + 1) x (on_item (position + 1) j w.server) done)
      → Represents whom others (served_item position j w) step.next
  served_represents whom others u done s step = record {
    normal = s.normal;
    device = s.device;
    there = s.there;
    pipes =
        pipes_as whom others (sent (on_item (position + 1) j w.server).outs (with_at (position + 1) (handed_up x) (by_number w.wires))) (by_number (served_item position j w).wires) step.next
        (next_wires position (on_item (position + 1) j w.server).outs w.wires x there) step.pipes;
    server = step.server;
    client = client_stays whom others s.device u step.next step.client s.client;
  }

  -- the view behind it is that behind the step
  abbrev taken_in : (whom : Identity) (others : ℕ → Login) (u : View ItemOut) (done : List (Label ItemOut)) → SaysNothing done → Represents whom others w u
      → StepFollows whom others (by_number w.wires) u (position + 1) x (on_item (position + 1) j w.server) done → WorldFollows whom others (moved (Up position) w) u done
  taken_in whom others u done silent s step = record {
    moves = step.moves;
    next = step.next;
    leads = step.leads;
    does = step.does;
    prompt = silent_as step.moves done step.does silent;
    represents = subst (λ y. Represents whom others y step.next) (sym moved_so) (served_represents whom others u done s step);
  }

-- ---- the word

module _ (who : Identity) (logins : ℕ → Login) (w : ItemWorld) (v : View ItemOut) (position : ℕ) where
  abbrev First : UpWord ItemOut → Type 0
  First word = IsFirst who logins w.server (by_number w.wires) v (position + 1) word

  there_is : (word : UpWord ItemOut) (p : First word) → slice_get w.wires position ≡ Some p.wire
  there_is word p = sym (under_position position w.wires) ∙ p.there

  -- the pipe of the word
  abbrev Pipe : (word : UpWord ItemOut) → First word → List ItemOut → Type 0
  Pipe word p items = p.wire.up.items ≡ up_item who (logins (position + 1)) word ∷ items

  session_is : (word : UpWord ItemOut) → First word → IsOfWord who w.server word
  session_is (UpTraffic (St z)) p = stanza_comes who logins w.server (by_number w.wires) v (position + 1) z p
  session_is Hdr p = tt
  session_is Auth p = tt
  session_is Resp p = tt
  session_is (ResumeAt q n) p = tt
  session_is Bind p = tt
  session_is Enable p = tt
  session_is (UpTraffic Req) p = tt
  session_is (UpTraffic (Ack n)) p = tt
  session_is Foot p = tt

  -- ---- for its own device

  module _ (s : Represents who logins w v) (room : HasNumber w.server) (few : AreCountable v) (items : List ItemOut) where
    own_taken : (word : UpWord ItemOut) (p : First word) → Pipe word p items → IsTaken who logins w.server (by_number w.wires) v (position + 1) p.wire word → WorldFollows who logins (moved (Up position) w) v []
    own_taken word p pipe step = taken_in w position p.wire (up_item who (logins (position + 1)) word) items (there_is word p) pipe who logins v [] tt s step

    own_stanza : (z : ItemOut) (p : First (UpTraffic (St z))) → Pipe (UpTraffic (St z)) p items → (x : IsOfSession who w.server z) → IsGivenIn who who logins position w (moved (Up position) w) v z x (takes_it z)
    own_stanza z p pipe x =
        let g : StepGives who logins (by_number w.wires) v (position + 1) p.wire (on_item (position + 1) z w.server) (acts_on who w.server z x) (takes_it z) = stanza_follows who logins w.server (by_number w.wires) v (position + 1) z p x in
        record {
          given = g.given;
          follows = taken_in w position p.wire z items (there_is (UpTraffic (St z)) p) pipe who logins v (takes_it z ++ gives_all g.given) (gives_nothing_said g.given) s g.follows;
          are_given = g.are_given;
          told = g.told;
        }

    own_does : (word : UpWord ItemOut) (p : First word) → Pipe word p items → UpDoes who who logins position w (moved (Up position) w) v takes_it word
    own_does Hdr p pipe = own_taken Hdr p pipe (login_follows who logins w.server (by_number w.wires) v (position + 1) Hdr p tt)
    own_does Auth p pipe = own_taken Auth p pipe (login_follows who logins w.server (by_number w.wires) v (position + 1) Auth p tt)
    own_does Resp p pipe = own_taken Resp p pipe (login_follows who logins w.server (by_number w.wires) v (position + 1) Resp p tt)
    own_does (ResumeAt q n) p pipe = own_taken (ResumeAt q n) p pipe (resume_follows who logins w.server (by_number w.wires) v (position + 1) q n p few)
    own_does Bind p pipe = own_taken Bind p pipe (bind_follows who logins w.server (by_number w.wires) v (position + 1) p room)
    own_does Enable p pipe = own_taken Enable p pipe (management_follows who logins w.server (by_number w.wires) v (position + 1) Enable p tt)
    own_does (UpTraffic (St z)) p pipe = own_stanza z p pipe
    own_does (UpTraffic Req) p pipe = own_taken (UpTraffic Req) p pipe (management_follows who logins w.server (by_number w.wires) v (position + 1) (UpTraffic Req) p tt)
    own_does (UpTraffic (Ack n)) p pipe = own_taken (UpTraffic (Ack n)) p pipe (management_follows who logins w.server (by_number w.wires) v (position + 1) (UpTraffic (Ack n)) p tt)
    own_does Foot p pipe = own_taken Foot p pipe (foot_follows who logins w.server (by_number w.wires) v (position + 1) p)

  -- ---- for another one

  module _ (room : HasNumber w.server) (items : List ItemOut) (whom : Identity) (others : ℕ → Login) (u : View ItemOut) (b : IsOtherRepresented who whom others w u) where
    beside_it : IsOtherDevice who whom others w.server (by_number w.wires) u
    beside_it = record { apart = b.apart; reached = b.reached; server = b.represents.server; pipes = b.represents.pipes }

    other_taken : (word : UpWord ItemOut) (p : First word) → Pipe word p items → IsNoStanza word → HasRoom word w.server → WorldFollows whom others (moved (Up position) w) u []
    other_taken word p pipe none has_room =
        taken_in w position p.wire (up_item who (logins (position + 1)) word) items (there_is word p) pipe whom others u [] tt b.represents
        (word_stays who whom logins others w.server (by_number w.wires) v u (position + 1) word p none has_room beside_it)

    other_stanza : (z : ItemOut) (p : First (UpTraffic (St z))) → Pipe (UpTraffic (St z)) p items → (x : IsOfSession who w.server z) → IsGivenIn who whom others position w (moved (Up position) w) u z x (takes_nothing z)
    other_stanza z p pipe x =
        let g : StepGives whom others (by_number w.wires) u (position + 1) p.wire (on_item (position + 1) z w.server) (acts_on who w.server z x) [] =
        reaches_other who logins w.server (by_number w.wires) v (position + 1) z p x whom others u b.apart b.reached b.represents.server b.represents.pipes in
        record {
          given = g.given;
          follows = taken_in w position p.wire z items (there_is (UpTraffic (St z)) p) pipe whom others u (gives_all g.given) (gives_nothing_said g.given) b.represents g.follows;
          are_given = g.are_given;
          told = g.told;
        }

    other_does : (word : UpWord ItemOut) (p : First word) → Pipe word p items → UpDoes who whom others position w (moved (Up position) w) u takes_nothing word
    other_does Hdr p pipe = other_taken Hdr p pipe tt tt
    other_does Auth p pipe = other_taken Auth p pipe tt tt
    other_does Resp p pipe = other_taken Resp p pipe tt tt
    other_does (ResumeAt q n) p pipe = other_taken (ResumeAt q n) p pipe tt tt
    other_does Bind p pipe = other_taken Bind p pipe tt room
    other_does Enable p pipe = other_taken Enable p pipe tt tt
    other_does (UpTraffic (St z)) p pipe = other_stanza z p pipe
    other_does (UpTraffic Req) p pipe = other_taken (UpTraffic Req) p pipe tt tt
    other_does (UpTraffic (Ack n)) p pipe = other_taken (UpTraffic (Ack n)) p pipe tt tt
    other_does Foot p pipe = other_taken Foot p pipe tt tt

-- ---- the item

pub item_is_word : (who : Identity) (logins : ℕ → Login) (w : ItemWorld) (v : View ItemOut) (position : ℕ) (wire : ItemWire) (i : ItemOut) (items : List ItemOut) → Represents who logins w v → LinkReached v → slice_get w.wires position ≡ Some wire → wire.device ≡ who.position
    → wire.up.items ≡ i ∷ items → HasFirst who logins w.server (by_number w.wires) v (position + 1) wire i
item_is_word who logins w v position wire i items s reached there of first =
    next_is_word who logins w.server (by_number w.wires) v (position + 1) wire i s.normal reached s.server s.pipes (record { there = under_position position w.wires ∙ there; of = of; items = items; first = first })

pub item_goes_up : (who : Identity) (logins : ℕ → Login) (w : ItemWorld) (v : View ItemOut) (position : ℕ) (wire : ItemWire) (i : ItemOut) (items : List ItemOut) → Represents who logins w v → LinkReached v → slice_get w.wires position ≡ Some wire → wire.device ≡ who.position
    → wire.up.items ≡ i ∷ items → HasNumber w.server → AreCountable v → ItemGoesUp who logins w v position wire i
item_goes_up who logins w v position wire i items s reached there of first room few =
    let h : HasFirst who logins w.server (by_number w.wires) v (position + 1) wire i = item_is_word who logins w v position wire i items s reached there of first in
    let pipe : h.first.wire.up.items ≡ up_item who (logins (position + 1)) h.word ∷ items = ap (λ (x : ItemWire). x.up.items) h.same ∙ first ∙ ap (λ j. j ∷ items) (sym h.is) in
    record {
      has = h;
      session = session_is who logins w v position h.word h.first;
      does = own_does who logins w v position s room few items h.word h.first pipe;
      beside = λ whom others u b. other_does who logins w v position room items whom others u b h.word h.first pipe;
    }
