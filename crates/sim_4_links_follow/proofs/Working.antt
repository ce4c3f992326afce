-- A step of the client is moves of the links, where it works on with its connection, and where it leaves it.
use Rattle.std.proofs.Common.{◌≡◌, ℕ, ◌+◌, true, false, List, [], ◌∷◌, Some, None, length, map, is_none, refl, sym, ap, subst, ◌∙◌, inl}
use Rattle.std.specs.List.{All}
use Rattle.cl_handlers.specs.Clients.{ClientStep, ClientView}
use Rattle.cl_handlers.specs.ClientSteps.{is_apart}
use Rattle.sim_3_items.specs.Clients.{ClientRepresents, IsOwnRepresented, client_phase}
use Rattle.sim_3_items.specs.Counted.{IsForServer}
use Rattle.sim_3_items.specs.Labels.{ArePrompt, labels_of}
use Rattle.sim_3_items.specs.Frames.{KeepsServer, SameServer}
use Rattle.sim_3_items.specs.Identities.{Identity, Login}
use Rattle.sim_3_items.specs.Pipes.{IsWire}
use Rattle.sim_3_items.specs.Reading.{HearingFollows, IsNextDown, noted, wire_after}
use Rattle.sim_3_items.specs.WordItems.{down_item, is_after_login, up_item}
use Rattle.sim_3_items.specs.ItemMoves.{here_after, left_where}
use Rattle.sim_3_items.specs.ItemPipes.{ItemWire, handed_down, left, put_up}
use Rattle.sim_3_items.specs.ItemWorlds.{ItemDevice}
use Rattle.sim_2_links.proofs.CutLinks.{cut_conn, some_one}
use Rattle.sim_2_links.proofs.Entries.{at_other, at_same}
use Rattle.sim_2_links.proofs.Reached.{link_kept}
use Rattle.sim_2_links.proofs.Tables.{cut_down_words, cut_stops}
use Rattle.sim_2_links.specs.LinkMoves.{ways_cut}
use Rattle.sim_2_links.specs.Links.{LinkKept}
use Rattle.sim_2_links.specs.Machine.{Cuts, LetsGo, LinkMove, LinkReaches}
use Rattle.sim_2_links.specs.Stages.{Conn}
use Rattle.sim_2_links.specs.Views.{Table, View, alter, has, with_at}
use Rattle.sim_2_links.specs.Wires.{left_down, send_up, up_words}
use Rattle.sim_2_links.specs.Words.{Client, DownWord, InAuth, InBind, InEnable, InFeatures1, InFeatures2, InHeader1, InHeader2, InOnline, InResponse, InResume, UpWord, up_stanzas}
use Rattle.sim_4_links_follow.proofs.HandMoves.{shown_wire}
use Rattle.sim_4_links_follow.proofs.Placed.{shown_at}
use Rattle.sim_4_links_follow.proofs.Servings.{Known, known_altered}
use Rattle.sim_4_links_follow.proofs.Hearing.{left_silent, wire_heard_as, wire_left}
use Rattle.sim_4_links_follow.proofs.Stays.{keeps_server_at}
use Rattle.xml_writer.specs.Items.{ItemOut}
use Rattle.std.proofs.lemmas.Option.{same_Some}

-- ---- what is shown

-- a client that works on a connection doesn't stand apart
pub never_apart : (who : Identity) (x : Login) (c : Client) → is_apart (client_phase who x c) ≡ false
never_apart who x InHeader1 = refl
never_apart who x InFeatures1 = refl
never_apart who x InAuth = refl
never_apart who x InResponse = refl
never_apart who x InHeader2 = refl
never_apart who x InFeatures2 = refl
never_apart who x (InResume p) = refl
never_apart who x InBind = refl
never_apart who x InEnable = refl
never_apart who x (InOnline p) = refl

-- ---- what the server has is left

pub same_server : (v next : View ItemOut) (k : ℕ) (c after : Conn ItemOut) → v.conns k ≡ Some c → ((j : ℕ) → next.conns j ≡ with_at k after v.conns j) → next.row ≡ v.row → next.free ≡ v.free → Known next.sessions v
    → after.phase ≡ c.phase → after.ending ≡ c.ending → after.gone ≡ c.gone → SameServer v next
same_server v next k c after is conns row free known phase ending gone = record {
  row = row;
  free = free;
  known = known;
  conns = λ j. subst (KeepsServer (v.conns j)) (sym (conns j)) (keeps_server_at v.conns k c after is phase ending gone j);
}

-- ---- the client

module _ (who : Identity) (logins : ℕ → Login) (d : ItemDevice) (v : View ItemOut) (old : ClientRepresents who logins d v) where
  -- it works on with its connection
  pub client_works : (next : View ItemOut) (k : ℕ) (c : Conn ItemOut) (client : ClientView ItemOut) → v.here ≡ Some k → next.here ≡ v.here → next.conns k ≡ Some c → client.account ≡ d.client.account → client.epoch ≡ next.epoch
      → IsOwnRepresented next.own client.session → client.phase ≡ client_phase who (logins k) c.client → ClientRepresents who logins (record { client = client; here = d.here }) next
  client_works next k c client here same conn account epoch own phase = record {
    account = account ∙ old.account;
    epoch = epoch;
    own = own;
    apart = ap is_apart phase ∙ never_apart who (logins k) c.client ∙ ap is_none (sym now);
    here = λ j at. old.here j (sym same ∙ at);
    has = λ position at. (c, there position at, inl (works_there position at));
    phase = λ j e at is. phase_at j e (one_here j at) is;
  }
    where
      now : next.here ≡ Some k
      now = same ∙ here

      number : (position : ℕ) → d.here ≡ Some position → k ≡ position + 1
      number position at = let had = old.here k here in had.1 ∙ ap (λ n. n + 1) (same_Some had.0 position (sym had.2 ∙ at))

      there : (position : ℕ) → d.here ≡ Some position → next.conns (position + 1) ≡ Some c
      there position at = subst (λ n. next.conns n ≡ Some c) (number position at) conn

      works_there : (position : ℕ) → d.here ≡ Some position → next.here ≡ Some (position + 1)
      works_there position at = now ∙ ap Some (number position at)

      one_here : (j : ℕ) → next.here ≡ Some j → k ≡ j
      one_here j at = same_Some k j (sym now ∙ at)

      phase_at : (j : ℕ) (e : Conn ItemOut) → k ≡ j → next.conns j ≡ Some e → client.phase ≡ client_phase who (logins j) e.client
      phase_at j e at is = subst (λ n. client.phase ≡ client_phase who (logins n) e.client) at (phase ∙ ap (λ (a : Conn ItemOut). client_phase who (logins k) a.client) (some_one (next.conns k) c e conn (subst (λ n. next.conns n ≡ Some e) (sym at) is)))

  -- it has left its connection, and has none
  pub client_leaves : (next : View ItemOut) (client : ClientView ItemOut) → next.here ≡ None → client.account ≡ d.client.account → client.epoch ≡ next.epoch → IsOwnRepresented next.own client.session → is_apart client.phase ≡ true
      → ClientRepresents who logins (record { client = client; here = None }) next
  client_leaves next client none account epoch own apart = record {
    account = account ∙ old.account;
    epoch = epoch;
    own = own;
    apart = apart ∙ ap is_none (sym none);
    here = λ j at. absurd (no_position j at);
    has = λ position at. absurd (let no_way : ⊥ = cc in no_way);
    phase = λ j e at is. absurd (no_position j at);
  }
    where
      no_position : (j : ℕ) → next.here ≡ Some j → ⊥
      no_position j at = let both = sym none ∙ at in cc both

-- ---- behind a word

module _ (who : Identity) (logins : ℕ → Login) (d : ItemDevice) (wires : Table ItemWire) (v : View ItemOut) (k : ℕ) (word : DownWord ItemOut) (p : IsNextDown who logins d wires v k word) where
  abbrev pub kept_here : LinkKept v
  kept_here = link_kept v p.shown.reached

  abbrev pub wire_here : IsWire who (logins k) k p.conn p.wire
  wire_here = shown_wire who (logins k) k (v.conns k) (wires k) p.conn p.wire p.is p.there (p.shown.pipes.each k)

  pub phase_here : (client : Client) → p.conn.client ≡ client → d.client.phase ≡ client_phase who (logins k) client
  phase_here client is = p.shown.client.phase k p.conn p.here p.is ∙ ap (client_phase who (logins k)) is

  -- the connection as the word was taken and others were put
  abbrev pub heard : Client → List (UpWord ItemOut) → Conn ItemOut
  heard client puts = record p.conn { client = client; wires = send_up puts (left_down p.rest p.conn.wires) }

  -- the items that are left are those of their words also behind it
  abbrev pub SameItems : Client → Type 0
  SameItems client = map (down_item who (logins k) k (is_after_login p.conn.client)) p.rest ≡ map (down_item who (logins k) k (is_after_login client)) p.rest

  pub same_items : (before client : Client) → p.conn.client ≡ before → is_after_login before ≡ is_after_login client → SameItems client
  same_items before client is same = ap (λ b. map (down_item who (logins k) k b) p.rest) (ap is_after_login is ∙ same)

  -- the client works on: it comes to a state and puts words
  pub works_on : (t : ClientStep ItemOut ItemOut) (client : Client) (puts : List (UpWord ItemOut)) (moves : List (LinkMove ItemOut)) (next : View ItemOut) → ArePrompt moves
      → t.client.account ≡ d.client.account → t.client.epoch ≡ next.epoch → IsOwnRepresented next.own t.client.session → t.client.phase ≡ client_phase who (logins k) client
      → t.out.put ≡ map (up_item who (logins k)) puts → All IsForServer (up_stanzas puts) → SameItems client
      → LinkReaches moves v next → labels_of moves ≡ noted t.out.notes
      → next.here ≡ v.here → ((j : ℕ) → next.conns j ≡ with_at k (heard client puts) v.conns j) → next.row ≡ v.row → next.free ≡ v.free → Known next.sessions v
      → HearingFollows who logins d wires v k p.wire t
  works_on t client puts moves next prompt account epoch own phase put stanzas items leads does here conns row free known =
      record {
        moves = moves;
        next = next;
        leads = leads;
        does = does;
        prompt = prompt;
        client =
            subst (λ b. ClientRepresents who logins (record { client = t.client; here = here_after b d.here }) next) (sym works)
            (client_works who logins d v p.shown.client next k (heard client puts) t.client p.here here (conns k ∙ at_same k (heard client puts) v.conns) account epoch own phase);
        pipes =
            shown_at who logins wires (with_at k (wire_after t p.wire) wires) v next k (heard client puts) (wire_after t p.wire) p.shown.pipes conns (at_same k (wire_after t p.wire) wires)
            (λ j apart. at_other k (wire_after t p.wire) wires j apart)
            (subst (λ b. IsWire who (logins k) k (heard client puts) (left_where b (put_up t.out.put (handed_down p.wire)))) (sym works)
            (subst (λ items. IsWire who (logins k) k (heard client puts) (put_up items (handed_down p.wire))) (sym put)
            (wire_heard_as who (logins k) k p.conn p.wire wire_here word p.rest puts client p.first items stanzas)));
        server = same_server v next k p.conn (heard client puts) p.is conns row free known refl refl refl;
      }
    where
      works : is_apart t.client.phase ≡ false
      works = ap is_apart phase ∙ never_apart who (logins k) client

  -- the client leaves the connection, and puts nothing
  pub leaves_here : (t : ClientStep ItemOut ItemOut) → t.client.account ≡ d.client.account → t.client.epoch ≡ d.client.epoch → t.client.session ≡ d.client.session → is_apart t.client.phase ≡ true → t.out.put ≡ [] → noted t.out.notes ≡ []
      → HearingFollows who logins d wires v k p.wire t
  leaves_here t account epoch session apart put notes =
      record {
        moves = Cuts k (length (up_words p.conn.wires)) 0 ∷ LetsGo k ∷ [];
        next = next;
        leads = (cut, record { conn = p.conn; is = p.is; gives = refl }, (next, record { conn = after; here = p.here; is = at_same k after v.conns; ended = cut_stops (length (up_words p.conn.wires)) 0 p.conn.wires; empty = cut_down_words (length (up_words p.conn.wires)) 0 p.conn.wires; gives = refl }, refl));
        does = sym notes;
        prompt = (tt, (tt, tt));
        client =
            subst (λ b. ClientRepresents who logins (record { client = t.client; here = here_after b d.here }) next) (sym apart)
            (client_leaves who logins d v p.shown.client next t.client refl account (epoch ∙ p.shown.client.epoch) (subst (IsOwnRepresented v.own) (sym session) p.shown.client.own) apart);
        pipes =
            shown_at who logins wires (with_at k (wire_after t p.wire) wires) v next k after (wire_after t p.wire) p.shown.pipes (λ j. refl) (at_same k (wire_after t p.wire) wires)
            (λ j other. at_other k (wire_after t p.wire) wires j other)
            (subst (λ b. IsWire who (logins k) k after (left_where b (put_up t.out.put (handed_down p.wire)))) (sym apart)
            (subst (λ items. IsWire who (logins k) k after (left (put_up items (handed_down p.wire)))) (sym put)
            (subst (IsWire who (logins k) k after) (sym (left_silent p.wire)) (wire_left who (logins k) k p.conn p.wire wire_here))));
        server = same_server v next k p.conn after p.is (λ j. refl) refl refl (known_altered (ways_cut (has v.here k) p.conn (length (up_words p.conn.wires)) 0) v) refl refl refl;
      }
    where
      after : Conn ItemOut
      after = cut_conn (length (up_words p.conn.wires)) 0 p.conn

      cut : View ItemOut
      cut = record v { conns = with_at k after v.conns; sessions = alter (ways_cut (has v.here k) p.conn (length (up_words p.conn.wires)) 0) v.sessions }

      next : View ItemOut
      next = record cut { here = None }
