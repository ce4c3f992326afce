-- On some words a client notes nothing down of stanzas, and its user has what he had.
use Rattle.std.proofs.Common.{◌≡◌, ℕ, Bool, true, false, List, [], Option, Some, None, Result, Ok, Err, codes, if◌then◌else◌, refl, sym, subst, inl, inr}
use Rattle.cl_core.specs.Steps.{online_in, stream_condition}
use Rattle.cl_login.specs.LoginRows as rows
use Rattle.cl_login.specs.LoginRows.{other_fault}
use Rattle.cl_login.specs.Puts.{Row}
use Rattle.cl_login.specs.declared.answers.Next.{Next}
use Rattle.cl_login.specs.declared.answers.Next.TheVariants as next
use Rattle.cl_login.specs.declared.login_state.LoginState.{LoginState}
use Rattle.cl_login.specs.declared.login_state.LoginState.TheVariants as state
use Rattle.sim_4_links_follow.proofs.AllReads.{counts_read, end_read, expected, login_read, no_count}
use Rattle.sim_4_links_follow.proofs.Turning.{element_at, header_at, on_element}
use Rattle.sim_4_links_follow.proofs.Working.{phase_here}
use Rattle.cl_handlers.specs.Clients.{ClientStep, ClientView}
use Rattle.cl_handlers.specs.LoginSteps.{follows, goes_on, login_row, peer_fault}
use Rattle.cl_handlers.specs.SessionRows.{features2_row, features2_with, resumes_or_binds}
use Rattle.cl_handlers.specs.Speech.{in_items, uttered_where}
use Rattle.cl_handlers.specs.ClientSteps.{ends, is_apart, puts}
use Rattle.cl_handlers.specs.declared.events.PeerFault.{PeerFault}
use Rattle.cl_handlers.specs.declared.events.PeerFault.TheVariants.{Closed, NoFeature, Stream, Unexpected}
use Rattle.cl_handlers.specs.declared.phase.Phase.{Phase}
use Rattle.cl_handlers.specs.declared.phase.Phase.TheVariants as phase
use Rattle.sim_3_items.specs.Identities.{Identity, Login}
use Rattle.sim_3_items.specs.Reading.{IsNextDown, IsRead, client_step_on, noted}
use Rattle.sim_3_items.specs.WordItems.{down_item, is_after_login}
use Rattle.sim_5_moves.specs.DownMovesWords.{IsSilentWord}
use Rattle.im_login.specs.Features.{features_read}
use Rattle.im_login.specs.declared.features.Features.{Features}
use Rattle.sim_3_items.specs.ItemPipes.{ItemWire}
use Rattle.sim_3_items.specs.ItemWorlds.{ItemDevice, silent_client_step}
use Rattle.sim_2_links.specs.Views.{Table, View}
use Rattle.sim_2_links.specs.Words.{Chal, Conflict, Constraint, Down, DownWord, End, Err, Feat, Head, InAuth, InFeatures1, InFeatures2, InOnline, InResponse, Req, Succ, TooHigh}
use Rattle.sm_outbox.specs.Sessions.{SessionView}
use Rattle.im_payload.specs.Bare.{bare}
use Rattle.im_payload.specs.Names.{management}
use Rattle.im_payload.specs.declared.fault.ExtFault.{ExtFault}
use Rattle.sim_5_moves.specs.Silent.{SameUser}
use Rattle.im_login.specs.Readings.{failure_read}
use Rattle.auth_scram.specs.Exchange.{added_nonce, expecting}
use Rattle.im_stanza.specs.Errors.{stream_error_elem}
use Rattle.im_stanza.specs.Names.{streams_ns}
use Rattle.xml_trees.specs.Readers.{is_named}
use Rattle.xml_trees.specs.Trees.{Elem}
use Rattle.xml_writer.specs.Items.{Closing, ItemOut, Opening, Whole}

pub record IsCalm (c : ClientView ItemOut) (t : ClientStep ItemOut ItemOut) : Type 0 where
  pub notes : noted t.out.notes ≡ []
  pub user : SameUser c t.client

pub same_user : (c : ClientView ItemOut) (at : Phase) → SameUser c (record c { phase = at })
same_user c at = record { epoch = refl; n = refl; said = refl; session = refl; log = refl; pages = refl }

calm_if : (c : ClientView ItemOut) (b : Bool) (t u : ClientStep ItemOut ItemOut) → IsCalm c t → IsCalm c u → IsCalm c (if b then t else u)
calm_if c true t u first second = first
calm_if c false t u first second = second

module _ (d : ItemDevice) where
  abbrev c : ClientView ItemOut
  c = d.client

  abbrev now : ClientStep ItemOut ItemOut
  now = silent_client_step d.client

  nothing : IsCalm c now
  nothing = record { notes = refl; user = same_user c c.phase }

  ended : (fault : PeerFault) → IsCalm c (ends now fault)
  ended fault = record { notes = refl; user = same_user c phase.Apart }

  -- ---- a login

  goes_calm : (put : List ItemOut) (n : Next) → IsCalm c (goes_on (puts now put) n)
  goes_calm put (next.Goes s) = record { notes = refl; user = same_user c (phase.Login s) }
  goes_calm put next.LoggedIn = record { notes = refl; user = same_user c phase.Features2 }
  goes_calm put (next.Ends why) = record { notes = refl; user = same_user c phase.Apart }

  follows_calm : (row : Row) → IsCalm c (follows in_items now row)
  follows_calm row = goes_calm (uttered_where in_items row.put) row.next

  header_calm : (at : Phase) → IsCalm c (header_at d at)
  header_calm phase.Apart = nothing
  header_calm (phase.Login s) = follows_calm (rows.header_row s)
  header_calm phase.Features2 = ended Unexpected
  header_calm phase.Resuming = ended Unexpected
  header_calm phase.Binding = ended Unexpected
  header_calm phase.Enabling = ended Unexpected
  header_calm phase.Online = nothing

  login_calm : (s : LoginState) (e : Elem) → IsCalm c (element_at d e (phase.Login s))
  login_calm s e = calm_if c (is_named streams_ns (codes "error") e) (ends now (Stream (stream_condition e))) (login_row in_items now s e) (ended (Stream (stream_condition e))) (follows_calm (rows.element_row c.account.login s e))

  -- ---- the features behind it

  asks_calm : (m : Option (SessionView ItemOut)) → IsCalm c (resumes_or_binds in_items now m)
  asks_calm None = record { notes = refl; user = same_user c phase.Binding }
  asks_calm (Some s) = record { notes = refl; user = same_user c phase.Resuming }

  offered_calm : (e : Elem) (r : Result Features ExtFault) → IsCalm c (features2_with in_items now e r)
  offered_calm e (Ok features) = calm_if c features.bind (resumes_or_binds in_items now c.session) (ends now NoFeature) (asks_calm c.session) (ended NoFeature)
  offered_calm e (Err why) = ended (peer_fault (other_fault (failure_read e)))

  features_calm : (e : Elem) → IsCalm c (element_at d e phase.Features2)
  features_calm e = calm_if c (is_named streams_ns (codes "error") e) (ends now (Stream (stream_condition e))) (features2_row in_items now e) (ended (Stream (stream_condition e))) (offered_calm e (features_read e))

  -- ---- items

  item_calm : ((e : Elem) → IsCalm c (client_step_on (Whole e) d)) → (i : ItemOut) → IsCalm c (client_step_on i d)
  item_calm each (Opening h) = header_calm c.phase
  item_calm each (Whole e) = each e
  item_calm each Closing = calm_if c (is_apart c.phase) now (ends now Closed) nothing (ended Closed)

  login_item : (s : LoginState) → c.phase ≡ phase.Login s → (i : ItemOut) → IsCalm c (client_step_on i d)
  login_item s at i = item_calm (λ e. subst (IsCalm c) (sym (on_element d e (phase.Login s) at)) (login_calm s e)) i

  features_item : c.phase ≡ phase.Features2 → (i : ItemOut) → IsCalm c (client_step_on i d)
  features_item at i = item_calm (λ e. subst (IsCalm c) (sym (on_element d e phase.Features2 at)) (features_calm e)) i

  -- ---- a request, and an error of the stream

  abbrev request : Elem
  request = bare management (codes "r")

  answers_calm : (m : Option (SessionView ItemOut)) → IsCalm c (online_in in_items now m request)
  answers_calm None = nothing
  answers_calm (Some s) = record { notes = refl; user = same_user c c.phase }

  request_item : c.phase ≡ phase.Online → IsCalm c (client_step_on (Whole request) d)
  request_item at = subst (IsCalm c) (sym (on_element d request phase.Online at)) (answers_calm c.session)

  error_item : (condition : List ℕ) → IsCalm c (client_step_on (Whole (stream_error_elem condition None)) d)
  error_item condition =
      let e : Elem = stream_error_elem condition None in
      calm_if c (is_apart c.phase) now (ends now (Stream (stream_condition e))) nothing (ended (Stream (stream_condition e)))

-- ---- words

module _ (who : Identity) (logins : ℕ → Login) (d : ItemDevice) (wires : Table ItemWire) (v : View ItemOut) (k : ℕ) where
  pub word_calm : (word : DownWord ItemOut) (p : IsNextDown who logins d wires v k word) → IsSilentWord word → IsCalm d.client (client_step_on (down_item who (logins k) k (is_after_login p.conn.client) word) d)
  word_calm Head p is = header_calm d d.client.phase
  word_calm Feat p is = elim (expected who logins d wires v k Feat p) [
    | inl at ↦ login_item d (state.Features1 (added_nonce (logins k).mine)) (phase_here who logins d wires v k Feat p InFeatures1 at) (down_item who (logins k) k (is_after_login p.conn.client) Feat)
    | inr at ↦ features_item d (phase_here who logins d wires v k Feat p InFeatures2 at) (down_item who (logins k) k (is_after_login p.conn.client) Feat)
  ]
  word_calm Chal p is =
      login_item d (state.Authing (logins k).client) (phase_here who logins d wires v k Chal p InAuth (expected who logins d wires v k Chal p)) (down_item who (logins k) k (is_after_login p.conn.client) Chal)
  word_calm Succ p is =
      login_item d (state.Responding (expecting (logins k).client (Ok (logins k).reply))) (phase_here who logins d wires v k Succ p InResponse (expected who logins d wires v k Succ p)) (down_item who (logins k) k (is_after_login p.conn.client) Succ)
  word_calm (Down Req) p is = let e = expected who logins d wires v k (Down Req) p in request_item d (phase_here who logins d wires v k (Down Req) p (InOnline e.0.number) e.2)
  word_calm (Err Conflict) p is = error_item d (codes "conflict")
  word_calm (Err Constraint) p is = error_item d (codes "resource-constraint")
  word_calm (Err TooHigh) p is = absurd (no_count (expected who logins d wires v k (Err TooHigh) p))
  word_calm End p is = absurd (expected who logins d wires v k End p)
  word_calm _ p is = absurd is

  pub word_read : (word : DownWord ItemOut) (p : IsNextDown who logins d wires v k word) → IsSilentWord word → IsRead who logins d wires v k p.conn p.wire word
  word_read Head p is = login_read who logins d wires v k Head p tt
  word_read Feat p is = login_read who logins d wires v k Feat p tt
  word_read Chal p is = login_read who logins d wires v k Chal p tt
  word_read Succ p is = login_read who logins d wires v k Succ p tt
  word_read (Down Req) p is = counts_read who logins d wires v k (Down Req) p tt
  word_read (Err cause) p is = end_read who logins d wires v k (Err cause) p tt
  word_read End p is = end_read who logins d wires v k End p tt
  word_read _ p is = absurd is
