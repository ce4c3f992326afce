-- What a device had said in its present session when a run began is taken in the end.
use Rattle.std.proofs.Common.{◌≡◌, ℕ, ◌+◌, ◌≤◌, Bool, true, false, cond, List, [], ◌∷◌, Option, None, Some, map, refl, sym, ap, ◌∙◌, subst, arith}
use Rattle.std.proofs.lemmas.List.{map-append}
use Rattle.std.proofs.lemmas.List.Elements.{filter-append}
use Rattle.std.proofs.lemmas.Option.{none-some, same_Some}
use Rattle.std.specs.List.{filter, slice_get}
use Rattle.std.specs.Option.{option_map}
use Rattle.base_io.specs.Names.{is_among}
use Rattle.cmd_network.specs.Devices.{DeviceState}
use Rattle.cmd_schedule.specs.Contents.{Owned}
use Rattle.cmd_schedule.specs.LineLists.{IsLineList}
use Rattle.cmd_schedule.specs.Schedules.{WireView}
use Rattle.cmd_schedule.specs.declared.schedule.WireLine.{WireLine}
use Rattle.cmd_world.specs.Histories.{world_at_start, world_of}
use Rattle.cmd_world.specs.Worlds.{ByteWorld}
use Rattle.cmd_world.proofs.AllMoves.{kept_by_lines, kept_by_moves}
use Rattle.law_calm.proofs.Handled.{handled_then, onward_rounds}
use Rattle.law_calm.proofs.Sparing.{fits_of, own_online}
use Rattle.law_calm.specs.Rounds.{IsAny}
use Rattle.sim_7_schedules.proofs.Along.{Along, run_moves}
use Rattle.sim_7_schedules.proofs.Connected as connected
use Rattle.sim_7_schedules.proofs.LinksShown as shown
use Rattle.sim_7_schedules.specs.LastLines.{EndsInRun, IsConnected, said_in_epoch, taken_in_epoch, world_behind}
use Rattle.sim_1_applications.proofs.Numbered.{messages_append}
use Rattle.sim_1_applications.specs.Stanzas.{Submission, messages}
use Rattle.sim_2_links.proofs.Reached.{link_kept}
use Rattle.sim_2_links.specs.Events.{SeenSession, seen_as, seen_session}
use Rattle.sim_2_links.specs.Links.{LinkKept}
use Rattle.sim_2_links.specs.Machine.{LinkReached}
use Rattle.sim_2_links.specs.Views as links
use Rattle.sim_2_links.specs.Views.{View}
use Rattle.sim_2_links.specs.Words.{InOnline}
use Rattle.sim_3_images.proofs.MovesKept.{kept_after, kept_first}
use Rattle.sim_3_images.specs.Kept.{IsWorldKept}
use Rattle.sim_3_items.specs.Ups.{up_stanza}
use Rattle.sim_5_moves.specs.Running.{IsOwned}
use Rattle.sim_7_schedules.proofs.ReachedEpochs.{all_reached}
use Rattle.sim_7_schedules.proofs.SessionMessages.{told_here}
use Rattle.sim_7_schedules.proofs.SessionPairs.{pair_of}
use Rattle.sim_7_schedules.specs.Messages.{HasMessages, Told, messages_in, of_epoch, said_lines, told, told_said}
use Rattle.sim_7_schedules.specs.Simulation.{Simulates}
use Rattle.sm_acks.specs.Delivery.{IsPrefix}
use Rattle.xml_writer.specs.Items.{ItemOut}

-- ---- fronts

messages_front : (xs ys : List ItemOut) → IsPrefix xs ys → IsPrefix (messages_in xs) (messages_in ys)
messages_front xs ys (rest, is) = (messages_in rest, ap messages_in is ∙ ap messages (map-append up_stanza xs rest) ∙ messages_append (map up_stanza xs) (map up_stanza rest))

filter_front : {A : Type 0} (test : A → Bool) (xs ys : List A) → IsPrefix xs ys → IsPrefix (filter test xs) (filter test ys)
filter_front test xs ys (rest, is) = (filter test rest, ap (filter test) is ∙ filter-append test xs rest)

map_front : {A B : Type 0} (f : A → B) (xs ys : List A) → IsPrefix xs ys → IsPrefix (map f xs) (map f ys)
map_front f xs ys (rest, is) = (map f rest, ap (map f) is ∙ map-append f xs rest)

-- those to accounts that exist, of messages and as they are told
exist_told : (names : List (List ℕ)) (ms : List Submission) → filter (λ (m : Told). is_among m.to names) (map told ms) ≡ map told (filter (λ (m : Submission). is_among m.to names) ms)
exist_told names [] = refl
exist_told names (m ∷ ms) = by (is_among m.to names) (exist_told names ms)
  where
    by : (b : Bool) → filter (λ (x : Told). is_among x.to names) (map told ms) ≡ map told (filter (λ (x : Submission). is_among x.to names) ms)
        → cond b (told m ∷ filter (λ (x : Told). is_among x.to names) (map told ms)) (filter (λ (x : Told). is_among x.to names) (map told ms))
        ≡ map told (cond b (m ∷ filter (λ (x : Submission). is_among x.to names) ms) (filter (λ (x : Submission). is_among x.to names) ms))
    by true rest = ap (λ l. told m ∷ l) rest
    by false rest = rest

-- ---- the session of an epoch

record EpochIs (v : View ItemOut) (e number : ℕ) : Type 0 where
  session : links.Session ItemOut
  there : v.sessions number ≡ Some session
  epoch : session.epoch ≡ Some e

seen_there : (o : Option (links.Session ItemOut)) (t : SeenSession ItemOut) → seen_as o ≡ Some t → (u : links.Session ItemOut) × (o ≡ Some u) × (seen_session u ≡ t)
seen_there None t is = absurd (none-some t is)
seen_there (Some u) t is = (u, refl, same_Some (seen_session u) t is)

epoch_there : (v : View ItemOut) (e : ℕ) → LinkReached v → 1 ≤ e → e ≤ v.epoch → (number : ℕ) × EpochIs v e number
epoch_there v e reached low high =
    let it = (all_reached v reached).each e low high in
    let u = seen_there (v.sessions it.0) it.1 it.2 in
    (it.0, record { session = u.0; there = u.1; epoch = ap (λ (t : SeenSession ItemOut). t.epoch) u.2 ∙ it.3 })

from_one : (v : View ItemOut) (e number : ℕ) → LinkReached v → EpochIs v e number → 1 ≤ e
from_one v e number reached is = (all_reached v reached).some number e (seen_session is.session) (ap seen_as is.there) is.epoch

-- ---- the law

module _ (s : WireView) (right : IsLineList s) (before : List WireLine) (n : ℕ) (ends : EndsInRun s before n) (i : ℕ) (d : DeviceState) (position : ℕ) (is : IsConnected (world_of s) i d position) (o : Owned) (owned : IsOwned s i o) (enough : 8 ≤ n)
    (old : DeviceState) (there : slice_get (world_behind s before).devices i ≡ Some old) (same : old.client.client.epoch ≡ d.client.client.epoch) where
  abbrev behind : ByteWorld
  behind = connected.behind s right before n ends i d position is

  abbrev end : ByteWorld
  end = connected.end s right before n ends i d position is

  abbrev first : View ItemOut
  first = connected.first s right before n ends i d position is o owned

  abbrev last : View ItemOut
  last = connected.last s right before n ends i d position is o owned

  abbrev along_here : Along s (run_moves s before n) behind
  along_here = connected.along s right before n ends i d position is

  abbrev beside_first : Simulates s behind along_here.applications
  beside_first = along_here.by.beside

  abbrev beside_last : Simulates s end (connected.last_applications s right before n ends i d position is)
  beside_last = (connected.by_end s right before n ends i d position is).beside

  abbrev e : ℕ
  e = d.client.client.epoch

  shown_first : (beside_first.runs.simulation.devices i o owned).view ≡ first
  shown_first = connected.shown_first s right before n ends i d position is o owned

  shown_last : (beside_last.runs.simulation.devices i o owned).view ≡ last
  shown_last = connected.shown_last s right before n ends i d position is o owned

  epoch_first : e ≡ first.epoch
  epoch_first = sym same ∙ shown.epoch_is s behind along_here.applications beside_first i o owned old there ∙ ap (λ (v : View ItemOut). v.epoch) shown_first

  epoch_last : e ≡ last.epoch
  epoch_last = shown.epoch_is s end (connected.last_applications s right before n ends i d position is) beside_last i o owned d (connected.there_end s right before n ends i d position is) ∙ ap (λ (v : View ItemOut). v.epoch) shown_last

  reached_last : LinkReached last
  reached_last = subst LinkReached shown_last (shown.reached s end (connected.last_applications s right before n ends i d position is) beside_last i o owned)

  kept_last : LinkKept last
  kept_last = link_kept last reached_last

  it_online : (p : ℕ) × ((connected.becomes s right before n ends i d position is o owned).client ≡ InOnline p)
  it_online = connected.online s right before n ends i d position is o owned (let few = enough in omega (arith, few))

  -- the session in which the client is online is of the present epoch
  ended : EpochIs last e it_online.0
  ended =
      let c = connected.becomes s right before n ends i d position is o owned in
      let fits = fits_of last (position + 1) c kept_last (connected.here_last s right before n ends i d position is o owned) (connected.is_becomes s right before n ends i d position is o owned) in
      let own = own_online last.own last.epoch last.sessions fits.0 it_online.0 (sym fits.1 ∙ it_online.1) fits.2 in
      let kept = kept_last.own own.0 own.1 in
      record { session = kept.session; there = ap last.sessions (sym own.2) ∙ kept.is; epoch = kept.of_epoch ∙ ap Some (sym epoch_last) }

  began : (number : ℕ) × EpochIs first e number
  began = epoch_there first e (connected.reached_first s right before n ends i d position is o owned) (from_one last e it_online.0 reached_last ended) (let same_epoch = epoch_first in omega (arith, same_epoch))

  -- and it was so before
  one_number : began.0 ≡ it_online.0
  one_number =
      let on = onward_rounds IsAny (position + 1) n first last (connected.rounds s right before n ends i d position is o owned) (link_kept first (connected.reached_first s right before n ends i d position is o owned)) in
      let later = on.1 began.0 began.1.session began.1.there in
      let sessions = (beside_last.runs.simulation.devices i o owned).sessions in
      let seen_at = λ (q : ℕ) (t : links.Session ItemOut) (at : last.sessions q ≡ Some t). ap seen_as (ap (λ (v : View ItemOut). v.sessions q) shown_last ∙ at) in
      sessions.once began.0 it_online.0 e (seen_session later.0) (seen_session ended.session) (seen_at began.0 later.0 later.1) (seen_at it_online.0 ended.session ended.there) (later.2.epoch e began.1.epoch) ended.epoch

  handled : IsPrefix began.1.session.up.put ended.session.up.got
  handled =
      let begins = connected.begins s right before n ends i d position is o owned in
      let low = connected.most_rounds begins.client in
      handled_then first last (position + 1) n it_online.0 begins
      (connected.becomes s right before n ends i d position is o owned)
      began.1.session
      ended.session
      (connected.reached_first s right before n ends i d position is o owned)
      (connected.here_first s right before n ends i d position is o owned)
      (connected.is_begins s right before n ends i d position is o owned)
      (connected.rounds s right before n ends i d position is o owned)
      (omega (arith, low, enough))
      (connected.is_becomes s right before n ends i d position is o owned)
      (connected.flows s right before n ends i d position is o owned)
      it_online.1
      (ap first.sessions (sym one_number) ∙ began.1.there)
      ended.there

  -- ---- as the lines tell it

  kept_behind : IsWorldKept s behind
  kept_behind = kept_by_lines (IsWorldKept s) (kept_after s) before (world_at_start s) (kept_first s)

  kept_end : IsWorldKept s end
  kept_end = kept_by_moves (IsWorldKept s) (kept_after s) (run_moves s before n) behind kept_behind

  told_first : HasMessages behind i o e (pair_of began.1.session)
  told_first = (told_here s right behind along_here.applications kept_behind beside_first i o owned).each began.0 e (pair_of began.1.session)
      (ap (λ (v : View ItemOut). option_map pair_of (v.sessions began.0)) shown_first ∙ ap (option_map pair_of) began.1.there)
      began.1.epoch

  told_last : HasMessages end i o e (pair_of ended.session)
  told_last = (told_here s right end (connected.last_applications s right before n ends i d position is) kept_end beside_last i o owned).each it_online.0 e (pair_of ended.session)
      (ap (λ (v : View ItemOut). option_map pair_of (v.sessions it_online.0)) shown_last ∙ ap (option_map pair_of) ended.there)
      ended.epoch

  accounts_same : behind.accounts ≡ end.accounts
  accounts_same = kept_behind.accounts ∙ sym kept_end.accounts

  said_first : said_in_epoch e old behind ≡ map told (filter (λ (m : Submission). is_among m.to end.accounts) (messages_in began.1.session.up.put))
  said_first =
      ap (λ names. filter (λ (m : Told). is_among m.to names) (of_epoch e (map told_said (said_lines old)))) accounts_same
      ∙ ap (filter (λ (m : Told). is_among m.to end.accounts)) (sym (told_first.put old there))
      ∙ exist_told end.accounts (messages_in began.1.session.up.put)

  pub said_is_taken : IsPrefix (said_in_epoch e old (world_behind s before)) (taken_in_epoch e o (world_of s))
  said_is_taken =
      let front = map_front told _ _ (filter_front (λ (m : Submission). is_among m.to end.accounts) _ _ (messages_front began.1.session.up.put ended.session.up.got handled)) in
      let one = subst (λ l. IsPrefix l (map told (filter (λ (m : Submission). is_among m.to end.accounts) (messages_in ended.session.up.got)))) (sym said_first) front in
      let two = subst (λ l. IsPrefix (said_in_epoch e old behind) l) told_last.handled one in
      subst (λ W. IsPrefix (said_in_epoch e old behind) (taken_in_epoch e o W)) (sym (connected.is_end s right before n ends i d position is)) two
