-- The client's queue is short, and a device with nothing under way is at rest.
use Rattle.std.proofs.Common.{◌≡◌, ◌≤◌, ℕ, true, false, IfSome, List, [], ◌∷◌, ◌++◌, Option, Some, None, drop, length, map, refl, sym, ap, ap₂, subst, ◌∙◌, inl, inr}
use Rattle.std.proofs.lemmas.List.{append-nil, append_cancel_left, drop-map}
use Rattle.sm_acks.specs.Delivery.{queue_of}
use Rattle.sim_3_items.specs.Clients.{ClientRepresents, IsOwnRepresented}
use Rattle.sim_3_items.specs.Labels.{awaits, is_awaited}
use Rattle.sim_3_items.specs.Identities.{Identity, Login}
use Rattle.sim_3_items.specs.Items.{stanzas_read}
use Rattle.sim_3_items.specs.Ups.{up_stanza}
use Rattle.sim_3_items.specs.ItemWorlds.{ItemDevice}
use Rattle.sim_2_links.proofs.CutLinks.{some_one}
use Rattle.sim_2_links.proofs.Settled.{prompt_kept, settled}
use Rattle.sim_2_links.proofs.Short.{paging_kept, short}
use Rattle.sim_2_links.specs.Covers.{IsSettled, NoneAsks, PromptReached}
use Rattle.sim_2_links.specs.Events.{SeenSession, own_number, row_number, seen, seen_session}
use Rattle.sim_2_links.specs.Links.{LinkKept}
use Rattle.sim_2_links.specs.Paging.{PagingReached}
use Rattle.sim_2_links.specs.Stages.{Conn}
use Rattle.sim_2_links.specs.Views.{Own, Session as LinkSession, View}
use Rattle.sim_2_links.specs.Wires.{down_words, is_flowing, up_words}
use Rattle.sim_2_events.specs.Lists.{IsDevice, IsOnline, IsRow, IsSession}
use Rattle.sim_5_devices.proofs.Put.{own_session, seen_there}
use Rattle.sim_5_devices.specs.InTime.{paging_here}
use Rattle.sm_outbox.specs.Sessions.{SessionView}
use Rattle.sim_1_applications.specs.Devices.{Present, Sessions}
use Rattle.sim_1_applications.specs.Stanzas.{Carbons, Message, Presence, Query, Up, messages}
use Rattle.sim_1_applications.specs.Reported.{IsAtRest}
use Rattle.xml_writer.specs.Items.{ItemOut}

-- ---- the queue

pub short_queue : (who : Identity) (logins : ℕ → Login) (d : ItemDevice) (v : View ItemOut) → PagingReached paging_here v → ClientRepresents who logins d v → IfSome d.client.session (λ s. length s.waiting.queue ≤ 1002)
short_queue who logins d v reached represents = by v.own d.client.session refl represents.own
  where
    by : (o : Option (Own ItemOut)) (s : Option (SessionView ItemOut)) → v.own ≡ o → IsOwnRepresented o s → IfSome s (λ a. length a.waiting.queue ≤ 1002)
    by None None own shown = tt
    by None (Some s) own shown = absurd shown
    by (Some o) None own shown = absurd shown
    by (Some o) (Some s) own shown = subst (λ l. length l ≤ 1002) (sym shown.queue) ((short paging_here v o (paging_kept paging_here v reached) own).2.bound)

-- ---- at rest

-- no message among stanzas that aren't awaited
push_none : (z : Up) (zs : List Up) → is_awaited z ≡ false → messages zs ≡ [] → messages (z ∷ zs) ≡ []
push_none Carbons zs other none = none
push_none Presence zs other none = none
push_none (Message m) zs other none = absurd (let no_way : ⊥ = cc in no_way)
push_none (Query r) zs other none = absurd (let no_way : ⊥ = cc in no_way)

no_messages : (zs : List ItemOut) → NoneAsks awaits zs → messages (map up_stanza zs) ≡ []
no_messages [] none = refl
no_messages (z ∷ zs) none = push_none (up_stanza z) (map up_stanza zs) none.0 (no_messages zs none.1)

none_left : {T : Type 0} (got rest : List T) → got ++ rest ≡ got → rest ≡ []
none_left got rest same = append_cancel_left got rest [] (same ∙ sym (append-nil got))

module _ (v : View ItemOut) (k : ℕ) (c : Conn ItemOut) (d : Sessions) (kept : LinkKept v) (device : IsDevice stanzas_read (seen v) d) (still : IsSettled awaits v k c) where
  is_online : d.online ≡ true
  is_online = (subst (λ o. IsOnline (seen v) d.online (own_number o)) still.is_own device.online).0

  here : (s : LinkSession ItemOut) × (v.sessions still.own.number ≡ Some s) × (still.own.queue ≡ queue_of s.up) × IsSession stanzas_read (seen_session s) d.now
  here = own_session v d kept device still.own still.is_own

  same : here.0 ≡ still.session
  same = some_one (v.sessions still.own.number) here.0 still.session here.1 still.is

  lists : IsSession stanzas_read (seen_session still.session) d.now
  lists = subst (λ s. IsSession stanzas_read (seen_session s) d.now) same here.3

  queue : still.own.queue ≡ queue_of still.session.up
  queue = here.2 ∙ ap (λ (s : LinkSession ItemOut). queue_of s.up) same

  present : d.row ≡ Present
  present = by (subst (IsRow (seen v) d.row) (ap row_number still.is_row) device.row)
    where
      of_epoch : still.session.epoch ≡ Some v.epoch
      of_epoch = let mine = kept.own still.own still.is_own in ap (λ (s : LinkSession ItemOut). s.epoch) (some_one (v.sessions still.own.number) still.session mine.session still.is mine.is) ∙ mine.of_epoch

      by : IsRow (seen v) d.row (Some still.row.number) → d.row ≡ Present
      by (t, there, inr now) = now.1
      by (t, there, inl unread) =
          let one : t ≡ seen_session still.session = some_one ((seen v).sessions still.row.number) t (seen_session still.session) there (subst (λ q. (seen v).sessions q ≡ Some (seen_session still.session)) (sym still.same) (seen_there v still.own.number still.session still.is)) in
          let none : None ≡ Some v.epoch = sym unread.0 ∙ ap (λ (x : SeenSession ItemOut). x.epoch) one ∙ of_epoch in
          absurd (let no_way : ⊥ = cc in no_way)

  pub at_rest : IsAtRest d
  at_rest = record {
    online = is_online;
    row = present;
    up = none_left d.now.up_got d.now.up_rest (sym lists.up_put ∙ ap (map up_stanza) (sym still.up) ∙ lists.up_got);
    down = none_left d.now.down_got d.now.down_rest (sym lists.down_put ∙ ap (map stanzas_read.down) (sym still.down) ∙ lists.down_got);
    acknowledged =
        subst (λ l. messages l ≡ []) (ap (map up_stanza) queue ∙ sym (drop-map up_stanza still.session.up.acked still.session.up.put) ∙ ap₂ drop lists.acked lists.up_put)
        (no_messages still.own.queue still.acknowledged);
  }

pub settled_rests : (v : View ItemOut) (k : ℕ) (c : Conn ItemOut) (d : Sessions) → PromptReached awaits v → IsDevice stanzas_read (seen v) d → v.here ≡ Some k → v.conns k ≡ Some c → is_flowing c.wires ≡ true → up_words c.wires ≡ [] → down_words c.wires ≡ []
    → IsAtRest d
settled_rests v k c d reached device at is flows no_up no_down =
    let both = prompt_kept awaits v reached in
    at_rest v k c d both.0 device (settled awaits v k c both at is flows no_up no_down)
