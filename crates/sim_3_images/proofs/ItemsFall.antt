-- Each item that comes.
use Rattle.std.proofs.Common.{◌≡◌, ℕ, ◌+◌, ◌<◌, ◌^◌, List, Option, Some, None, Result, Ok, refl}
use Rattle.std.specs.Option.{option_map}
use Rattle.std.specs.Result.{result_ok}
use Rattle.srv_state.specs.Logins.{at_challenge, at_login}
use Rattle.srv_state.specs.State.{Step, conn_at}
use Rattle.srv_state.specs.Steps.{Act}
use Rattle.srv_state.specs.Streams.{at_any, at_header, closing, ending, standing_of}
use Rattle.srv_state.specs.Words.{word_of}
use Rattle.srv_state.specs.declared.connection.Connection.{Connection}
use Rattle.srv_state.specs.declared.connection.Stage.{Stage}
use Rattle.srv_state.specs.declared.connection.Stage.TheVariants as stage
use Rattle.srv_state.specs.declared.connection.Standing.{Standing}
use Rattle.srv_state.specs.declared.word.Word.{Word}
use Rattle.srv_state.specs.declared.word.Word.TheVariants as word
use Rattle.xml_framer.specs.declared.items.Item.{Item}
use Rattle.xml_framer.specs.declared.items.Item.TheVariants as item
use Rattle.sm_live.specs.Sessions.{Session, session_at, session_resumed, told}
use Rattle.im_payload.specs.Names.{binding}
use Rattle.im_replies.specs.declared.conditions.StreamCondition.TheVariants.{NotAuthorized}
use Rattle.srv_core.specs.Table.{after_item, at_item, at_open, at_word}
use Rattle.sim_3_images.proofs.ActsFall.{acted_falls}
use Rattle.sim_3_images.proofs.CalmRows.{Calm, calm_any, calm_bound, calm_challenge, calm_ending, calm_header, calm_login}
use Rattle.sim_3_images.proofs.Falls.{Falls, every_one, no_fall}
use Rattle.sim_3_images.proofs.RowsFall.{Goes, binding_goes, resuming_goes}
use Rattle.sim_3_images.specs.Unbound.{IsOrdered, unbound}
use Rattle.srv_handlers.specs.Bindings.{asked_resource, binding_as, chosen}
use Rattle.im_stanza.specs.Views.{IqView}
use Rattle.im_stanza.specs.declared.fault.StanzaFault.{StanzaFault}
use Rattle.im_stanza.specs.declared.kinds.IqKind.{IqKind}
use Rattle.im_stanza.specs.declared.kinds.IqKind.TheVariants as iq
use Rattle.im_stanza.specs.declared.stanzas.Stanza.{Stanza}
use Rattle.im_stanza.specs.declared.stanzas.Stanza.TheVariants as stanza
use Rattle.srv_core.specs.Ready.{at_bound, at_ready, at_ready_or_bound, ready_iq, ready_stanza}
use Rattle.xml_trees.specs.Readers.{first_named}
use Rattle.xml_trees.specs.Trees.{Elem}
use Rattle.xml_writer.specs.Items.{ItemOut}
use Rattle.std.specs.Prelude.{codes}

module _ {A : Type 0} (say : ItemOut → A) (k : ℕ) (s : Step A) (c : Connection) (is : IsOrdered s.server_state) (below : s.server_state.next + unbound s.server_state < 2 ^ 64) (open_one : conn_at k s.server_state ≡ Some c) where
  calm_goes : (acts : List (Act A)) → Calm acts → Goes say s acts
  calm_goes acts calm = acted_falls say every_one acts s calm is

  -- ---- where no session is on the connection

  module _ (account : ℕ) (st : Standing) (seat : session_at k s.server_state.sessions ≡ None) where
    bind_goes : (id : List ℕ) (o : Option (List ℕ)) → Goes say s (binding_as say k account id o s.server_state)
    bind_goes id None = no_fall every_one s.server_state is
    bind_goes id (Some resource) = binding_goes say k account id resource s c is below open_one seat

    iq_goes : (kind : IqKind) (q : IqView) (bind : Option Elem) → Goes say s (ready_iq say k account kind q bind st s.server_state)
    iq_goes iq.Set q (Some bind) = bind_goes q.id (result_ok (chosen s.server_state.next (asked_resource bind)))
    iq_goes kind q bind = calm_goes (ending say k NotAuthorized st s.server_state) (calm_ending say k NotAuthorized st s.server_state)

    stanza_goes : (read : Result Stanza StanzaFault) → Goes say s (ready_stanza say k account read st s.server_state)
    stanza_goes (Ok (stanza.Iq q)) = iq_goes q.kind q (first_named binding (codes "bind") q.payload)
    stanza_goes read = calm_goes (ending say k NotAuthorized st s.server_state) (calm_ending say k NotAuthorized st s.server_state)

    ready_goes : (w : Word) → Goes say s (at_ready say k account w st s.server_state)
    ready_goes (word.Stanza long read) = stanza_goes read
    ready_goes (word.Resume previd handled) = resuming_goes say k account previd handled s is seat (session_resumed previd account s.server_state.sessions) refl
    ready_goes (word.Enable resume) = no_fall every_one s.server_state is
    ready_goes word.Request = no_fall every_one s.server_state is
    ready_goes (word.Ack handled) = no_fall every_one s.server_state is
    ready_goes w = calm_goes (at_any say k w st s.server_state) (calm_any say k w st s.server_state)

  -- ---- an item

  ready_or_bound_goes : (account : ℕ) (w : Word) (st : Standing) (o : Option (Session A)) → session_at k s.server_state.sessions ≡ o → Goes say s (at_ready_or_bound say k account w (option_map told o) st s.server_state)
  ready_or_bound_goes account w st None seat = ready_goes account st seat w
  ready_or_bound_goes account w st (Some t) seat = calm_goes (at_bound say k w (told t) st s.server_state) (calm_bound say k w (told t) st s.server_state)

  word_goes : (w : Word) (g : Stage) (st : Standing) → Goes say s (at_word say k w g st s.server_state)
  word_goes w stage.Login st = calm_goes (at_login say k w st s.server_state) (calm_login say k w st s.server_state)
  word_goes w stage.Challenge st = calm_goes (at_challenge say k w st s.server_state) (calm_challenge say k w st s.server_state)
  word_goes w (stage.Ready account) st = ready_or_bound_goes account w st (session_at k s.server_state.sessions) refl
  word_goes w g st = calm_goes (at_any say k w st s.server_state) (calm_any say k w st s.server_state)

  item_goes : (i : Item) (st : Standing) → Goes say s (at_item say k i st s.server_state)
  item_goes (item.Header at header) st = calm_goes (at_header say k header st s.server_state) (calm_header say k header st s.server_state)
  item_goes (item.Element e) st = word_goes (word_of e) st.stage st
  item_goes item.Footer st = calm_goes (closing say k) tt

pub item_falls : {A : Type 0} (say : ItemOut → A) (k : ℕ) (i : Item) (s : Step A) → IsOrdered s.server_state → s.server_state.next + unbound s.server_state < 2 ^ 64 → Falls every_one every_one s.server_state (after_item say k i s).server_state
item_falls say k i s is below = go (conn_at k s.server_state) refl
  where
    go : (o : Option Connection) → conn_at k s.server_state ≡ o → Goes say s (at_open say k i (option_map standing_of o) s.server_state)
    go None open_one = no_fall every_one s.server_state is
    go (Some c) open_one = item_goes say k s c is below open_one i (standing_of c)
