-- Which items that come to the server it reads as stanzas of a session.
use Rattle.std.proofs.Common.{◌≡◌, ◌≢◌, ℕ, ◌+◌, ◌==◌, ◌&&◌, Bool, true, false, codes, cond, List, [], ◌∷◌, ◌++◌, Option, Some, None, is_some, map, refl, sym, ap, ap₂, ◌∙◌, slice_get, inl, inr}
use Rattle.std.proofs.lemmas.Bool.{cases_Bool, eq-eqb, eqb-true}
use Rattle.cl_handlers.specs.declared.account.Account.{Account}
use Rattle.cmd_world.specs.Worlds.{number_at}
use Rattle.im_login.specs.Sasl.{auth_of, carrier}
use Rattle.im_payload.specs.Names.{sasl}
use Rattle.sim_2_links.proofs.Expected.{expected_up}
use Rattle.sim_2_links.specs.Views.{Table, View}
use Rattle.sim_2_links.specs.Words.{Ack, Auth, Bind, Enable, Foot, Hdr, Req, Resp, ResumeAt, St, Up as UpTraffic, UpWord}
use Rattle.sim_3_images.proofs.ItemsServed.{nothing_either}
use Rattle.sim_3_images.specs.Puts.{item_given_first, item_given_on, item_gives}
use Rattle.sim_3_images.specs.Reads.{item_read_first, item_read_on, item_reads, read_here, read_where}
use Rattle.sim_3_items.specs.Identities.{Identity, Login}
use Rattle.sim_3_items.specs.ItemMoves.{Up}
use Rattle.sim_3_items.specs.ItemPipes.{ItemWire}
use Rattle.sim_3_items.specs.ItemWorlds.{ItemDevice, ItemWorld, read_of}
use Rattle.sim_3_items.specs.Labels.{Takes, gives_all}
use Rattle.sim_3_items.specs.WordItems.{up_item}
use Rattle.sim_2_links.specs.Views.{on_phase}
use Rattle.sim_4_links_follow.proofs.HandMoves.{kept_here, open_here}
use Rattle.sim_4_links_follow.proofs.Leavings.{unseated}
use Rattle.sim_4_links_follow.proofs.Sessions.{seat}
use Rattle.sim_4_links_follow.specs.Given.{IsOfSession}
use Rattle.sim_4_links_follow.specs.Taking.{IsFirst}
use Rattle.sim_5_moves.specs.Running.{DoesBy}
use Rattle.sim_5_moves.specs.WordsRunWords.{IsSilent}
use Rattle.sm_live.specs.Sessions.{session_at}
use Rattle.srv_state.specs.State.{ServerState, conn_at}
use Rattle.srv_state.specs.Words.{is_stanza}
use Rattle.srv_state.specs.declared.connection.Connection.{Connection}
use Rattle.xml_framer.specs.declared.items.Item.TheVariants as item
use Rattle.xml_names.specs.declared.headers.Header.{Header}
use Rattle.xml_trees.specs.Trees.{Elem}
use Rattle.xml_writer.specs.Items.{ItemOut, Whole}

-- another number
pub apart_from : (a b : ℕ) → b ≢ a → (a == b) ≡ false
apart_from a b other = elim (cases_Bool (a == b)) [ inl same ↦ absurd (other (sym (eqb-true a b same))) | inr no_same ↦ no_same ]

-- ---- one item

-- those of SASL are no stanzas
auth_named : (mechanism payload : List ℕ) → is_stanza (auth_of mechanism payload) ≡ false
unfolding sasl
auth_named mechanism payload = refl

carrier_named : (name payload : List ℕ) → is_stanza (carrier name payload) ≡ false
unfolding sasl
carrier_named name payload = refl

module _ (h : ServerState ItemOut) (k : ℕ) where
  header_unread : (at : ℕ) (header : Header) (o : Option Connection) → read_where o k (item.Header at header) h ≡ []
  header_unread at header None = refl
  header_unread at header (Some c) = refl

  footer_unread : (o : Option Connection) → read_where o k item.Footer h ≡ []
  footer_unread None = refl
  footer_unread (Some c) = refl

  -- no stanza by its name, or on a connection without a session
  other_unread : (e : Elem) (o : Option Connection) → is_stanza e ≡ false → read_where o k (item.Element e) h ≡ []
  other_unread e None named = refl
  other_unread e (Some c) named = ap (λ b. cond (b && is_some (session_at k h.sessions)) (Whole e ∷ []) []) named

  unseated_unread : (e : Elem) (o : Option Connection) → session_at k h.sessions ≡ None → read_where o k (item.Element e) h ≡ []
  unseated_unread e None none = refl
  unseated_unread e (Some c) none = ap (λ s. cond (is_stanza e && is_some s) (Whole e ∷ []) []) none ∙ neither (is_stanza e)
    where
      neither : (b : Bool) → cond (b && false) (Whole e ∷ []) [] ≡ []
      neither true = refl
      neither false = refl

module _ (who : Identity) (logins : ℕ → Login) (h : ServerState ItemOut) (wires : Table ItemWire) (v : View ItemOut) (k : ℕ) where
  -- a stanza of a session is read
  pub stanza_read : (z : ItemOut) → IsFirst who logins h wires v k (UpTraffic (St z)) → IsOfSession who h z → read_here k (read_of z) h ≡ z ∷ []
  stanza_read z p x =
      let e = x.stanza.elem in
      let there = expected_up v k p.conn (UpTraffic (St z)) p.rest (kept_here who logins h wires v k (UpTraffic (St z)) p) p.is p.first in
      ap (λ i. read_here k (read_of i) h) x.stanza.whole
      ∙ ap (λ o. read_where o k (item.Element e) h) (open_here who logins h wires v k (UpTraffic (St z)) p p.conn.phase refl)
      ∙ ap₂ (λ b s. cond (b && is_some s) (Whole e ∷ []) []) x.stanza.stanza (seat who logins h wires v k (UpTraffic (St z)) p true there)
      ∙ ap (λ i. i ∷ []) (sym x.stanza.whole)

  -- any other word is not
  pub silent_unread : (word : UpWord ItemOut) → IsFirst who logins h wires v k word → IsSilent word → read_here k (read_of (up_item who (logins k) word)) h ≡ []
  silent_unread Hdr p is = header_unread h k _ _ (conn_at k h)
  silent_unread Auth p is =
      let message = (logins k).client.message in other_unread h k (auth_of (codes "SCRAM-SHA-256") message) (conn_at k h) (auth_named (codes "SCRAM-SHA-256") message)
  silent_unread Resp p is = let message = (logins k).reply.message in other_unread h k (carrier (codes "response") message) (conn_at k h) (carrier_named (codes "response") message)
  silent_unread (ResumeAt q n) p is = other_unread h k _ (conn_at k h) refl
  silent_unread Bind p is =
      unseated_unread h k _ (conn_at k h)
      (let kept = kept_here who logins h wires v k Bind p in unseated who logins h v kept p.server k p.conn p.is (ap (λ q. on_phase q p.conn.ending p.conn.gone) (expected_up v k p.conn Bind p.rest kept p.is p.first)))
  silent_unread Enable p is = other_unread h k _ (conn_at k h) refl
  silent_unread (UpTraffic Req) p is = other_unread h k _ (conn_at k h) refl
  silent_unread (UpTraffic (Ack n)) p is = other_unread h k _ (conn_at k h) refl
  silent_unread (UpTraffic (St z)) p is = absurd is
  silent_unread Foot p is = footer_unread h k (conn_at k h)

-- ---- the item that goes up

module _ (position : ℕ) (w : ItemWorld) (wire : ItemWire) (there : slice_get w.wires position ≡ Some wire) (under_way : List ItemOut) (pipe : wire.up.items ≡ under_way) where
  reads_are : (i : ℕ) → item_reads (Up position) w i ≡ cond (wire.device == i) (item_read_first (number_at position) under_way w) []
  reads_are i = ap (item_read_on position i w) there ∙ ap (λ l. cond (wire.device == i) (item_read_first (number_at position) l w) []) pipe

  -- of another device none is read
  pub beside_unread : (i : ℕ) → i ≢ wire.device → item_reads (Up position) w i ≡ []
  beside_unread i apart =
      reads_are i
      ∙ ap (λ (b : Bool). cond b (item_read_first (number_at position) under_way w) []) (apart_from wire.device i apart)

  pub own_reads : item_reads (Up position) w wire.device ≡ item_read_first (number_at position) under_way w
  own_reads = reads_are wire.device ∙ ap (λ (b : Bool). cond b (item_read_first (number_at position) under_way w) []) (eq-eqb wire.device wire.device refl)

-- nothing goes up
pub nothing_read : (position : ℕ) (w : ItemWorld) (wire : ItemWire) → slice_get w.wires position ≡ Some wire → wire.up.items ≡ [] → (i : ℕ) → item_reads (Up position) w i ≡ []
nothing_read position w wire there none i = reads_are position w wire there [] none i ∙ nothing_either (wire.device == i)

-- ---- what the server puts

-- where it reads nothing it puts nothing
module _ (position : ℕ) (w : ItemWorld) where
  for_none : ((d : ItemDevice) → item_given_on position w (Some d) (slice_get w.wires position) ≡ []) → (i : ℕ) → item_gives (Up position) w i ≡ []
  for_none each i = by (slice_get w.devices i)
    where
      by : (o : Option ItemDevice) → item_given_on position w o (slice_get w.wires position) ≡ []
      by None = refl
      by (Some d) = each d

  pub none_gives : (wire : ItemWire) → slice_get w.wires position ≡ Some wire → (under_way : List ItemOut) → wire.up.items ≡ under_way → ((who : Account) → item_given_first who (number_at position) under_way w ≡ []) → (i : ℕ) → item_gives (Up position) w i ≡ []
  none_gives wire there under_way pipe none =
      for_none (λ d. ap (item_given_on position w (Some d)) there ∙ ap (λ l. item_given_first d.client.account (number_at position) l w) pipe ∙ none d.client.account)

  pub nobody_gives : slice_get w.wires position ≡ None → (i : ℕ) → item_gives (Up position) w i ≡ []
  nobody_gives none = for_none (λ d. ap (item_given_on position w (Some d)) none)

-- ---- what devices do then

pub unread_does : (position : ℕ) (w : ItemWorld) (i : ℕ) → item_reads (Up position) w i ≡ [] → item_gives (Up position) w i ≡ [] → DoesBy (Up position) w i []
unread_does position w i none ungiven = ap₂ (λ l m. map Takes l ++ gives_all m) (sym none) (sym ungiven)

pub given_does : (position : ℕ) (w : ItemWorld) (i : ℕ) (given : List ItemOut) → item_reads (Up position) w i ≡ [] → given ≡ item_gives (Up position) w i → DoesBy (Up position) w i (gives_all given)
given_does position w i given none told = ap₂ (λ l m. map Takes l ++ gives_all m) (sym none) told

pub taken_does : (position : ℕ) (w : ItemWorld) (i : ℕ) (z : ItemOut) (given : List ItemOut) → item_reads (Up position) w i ≡ z ∷ [] → given ≡ item_gives (Up position) w i → DoesBy (Up position) w i (Takes z ∷ gives_all given)
taken_does position w i z given is told = ap₂ (λ l m. map Takes l ++ gives_all m) (sym is) told
