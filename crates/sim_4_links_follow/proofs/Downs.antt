-- An item comes down, and the user of a device calls: what the client does.
use Rattle.std.proofs.Common.{◌≡◌, ℕ, ◌+◌, ◌<◌, Bool, List, Some, Ok, slice_get, sym, subst, ◌∙◌}
use Rattle.std.proofs.lemmas.Option.{same_Some}
use Rattle.std.specs.Prelude.{◌^◌}
use Rattle.cl_core.specs.UserCalls.{catch_up_answer, catches_up, say_answer, says}
use Rattle.law_limits.specs.Answerable.{IsItemAnswerable}
use Rattle.law_limits.specs.Within.{IsClientWithin}
use Rattle.sim_4_links_follow.proofs.AllReads.{counts_read, end_read, login_read, session_read}
use Rattle.cl_handlers.specs.Speech.{in_items}
use Rattle.sim_4_links_follow.proofs.Spoken.{catch_up_follows, stanza_read, submission_follows}
use Rattle.sim_4_links_follow.specs.Speaking.{IsBareAddress}
use Rattle.sim_4_links_follow.proofs.DownWords.{next_down}
use Rattle.sim_4_links_follow.proofs.Lifts.{ask_lifts, hear_lifts, say_lifts, shown_here}
use Rattle.sim_4_links_follow.specs.Following.{HasNextDown, IsNextItem, WorldFollows}
use Rattle.sim_3_items.specs.Identities.{Identity, Login}
use Rattle.sim_3_items.specs.Pipes.{by_number}
use Rattle.sim_3_items.specs.Reading.{HearingFollows, IsNextDown, IsRead, IsRepresentedHere, client_step_on, noted}
use Rattle.sim_3_items.specs.Represents.{Represents}
use Rattle.sim_3_items.specs.WordItems.{down_item, is_after_login}
use Rattle.sim_3_items.specs.ItemMoves.{CatchUp, Down, Say, moved}
use Rattle.sim_3_items.specs.ItemPipes.{ItemWire}
use Rattle.sim_3_items.specs.ItemWorlds.{ItemDevice, ItemWorld, read_of, silent_client_step}
use Rattle.sim_2_links.specs.Machine.{LinkReached}
use Rattle.sim_2_links.specs.Views.{Table, View}
use Rattle.sim_2_links.specs.Words.{Ack, Bound, Chal, Down as DownTraffic, DownWord, Enabled, End, Err, Failed, Feat, Head, Req, Resumed, St, Succ}
use Rattle.law_limits.specs.Bounds.{IsTextWithin, most_text}
use Rattle.xml_writer.specs.Items.{ItemOut}

-- ---- each word

module _ (who : Identity) (logins : ℕ → Login) (d : ItemDevice) (wires : Table ItemWire) (v : View ItemOut) (k : ℕ) (within : IsClientWithin d.client) (low : v.epoch + 1 < 2 ^ 64) where
  -- the item of a word, where the client works on the connection
  abbrev ItemOf : (word : DownWord ItemOut) → IsNextDown who logins d wires v k word → ItemOut
  ItemOf word p = down_item who (logins k) k (is_after_login p.conn.client) word

  word_read : (word : DownWord ItemOut) (p : IsNextDown who logins d wires v k word) → IsItemAnswerable (read_of (ItemOf word p)) → IsRead who logins d wires v k p.conn p.wire word
  word_read Head p answers = login_read who logins d wires v k Head p tt
  word_read Feat p answers = login_read who logins d wires v k Feat p tt
  word_read Chal p answers = login_read who logins d wires v k Chal p tt
  word_read Succ p answers = login_read who logins d wires v k Succ p tt
  word_read Failed p answers = session_read who logins d wires v k Failed p tt
  word_read (Resumed q h) p answers = session_read who logins d wires v k (Resumed q h) p tt
  word_read (Bound m) p answers = session_read who logins d wires v k (Bound m) p low
  word_read (Enabled m) p answers = session_read who logins d wires v k (Enabled m) p tt
  word_read (DownTraffic (St z)) p answers = stanza_read who logins d wires v k z p within answers
  word_read (DownTraffic Req) p answers = counts_read who logins d wires v k (DownTraffic Req) p tt
  word_read (DownTraffic (Ack n)) p answers = counts_read who logins d wires v k (DownTraffic (Ack n)) p tt
  word_read (Err cause) p answers = end_read who logins d wires v k (Err cause) p tt
  word_read End p answers = end_read who logins d wires v k End p tt

-- ---- the item

pub item_goes_down : (who : Identity) (logins : ℕ → Login) (w : ItemWorld) (v : View ItemOut) (position : ℕ) (d : ItemDevice) (wire : ItemWire) (i : ItemOut) → Represents who logins w v → LinkReached v → IsNextItem position who.position w d wire i
    → IsClientWithin d.client → IsItemAnswerable (read_of i) → v.epoch + 1 < 2 ^ 64 → WorldFollows who logins (moved (Down position) w) v (noted (client_step_on i d).out.notes)
item_goes_down who logins w v position d wire i s reached n within answers low =
    let h : HasNextDown who logins d (by_number w.wires) v (position + 1) wire i = next_down who logins w v s reached position d wire i n in
    let read : IsRead who logins d (by_number w.wires) v (position + 1) h.next.conn h.next.wire h.word =
    word_read who logins d (by_number w.wires) v (position + 1) within low h.word h.next (subst (λ j. IsItemAnswerable (read_of j)) (sym h.is) answers) in
    hear_lifts who logins w v s position d wire i n
    (subst (λ x. HearingFollows who logins d (by_number w.wires) v (position + 1) x (client_step_on i d)) h.same
    (subst (λ j. HearingFollows who logins d (by_number w.wires) v (position + 1) h.next.wire (client_step_on j d)) h.is read))

-- ---- calls

module _ (who : Identity) (logins : ℕ → Login) (w : ItemWorld) (v : View ItemOut) (d : ItemDevice) (s : Represents who logins w v) (reached : LinkReached v) (is : slice_get w.devices who.position ≡ Some d) (within : IsClientWithin d.client) where
  same : s.device ≡ d
  same = same_Some s.device d (sym s.there ∙ is)

  shown : IsRepresentedHere who logins d (by_number w.wires) v
  shown = subst (λ e. IsRepresentedHere who logins e (by_number w.wires) v) same (shown_here who logins w v s reached)

  pub say_in : (to text : List ℕ) (private : Bool) (n : ℕ) → IsBareAddress to → IsTextWithin most_text text → say_answer d.client text ≡ Ok n
      → WorldFollows who logins (moved (Say who.position to text private) w) v (noted (says in_items (silent_client_step d.client) to text private).out.notes)
  say_in to text private n address short answer =
      say_lifts who logins w v s to text private d n is answer (submission_follows who logins d (by_number w.wires) v shown to text private n within address short answer)

  pub ask_in : (most : ℕ) → most < 2 ^ 32 → catch_up_answer d.client ≡ Ok tt → WorldFollows who logins (moved (CatchUp who.position most) w) v (noted (catches_up in_items (silent_client_step d.client) most).out.notes)
  ask_in most small answer = ask_lifts who logins w v s most d tt is answer (catch_up_follows who logins d (by_number w.wires) v shown most within small answer)
