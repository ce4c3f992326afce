-- What a client learns of how many stanzas were handled is what its session in the links is told.
use Rattle.std.proofs.Common.{◌≡◌, ℕ, ◌+◌, ◌≤◌, true, [], ◌∷◌, Option, Some, None, length, refl, ap, subst, ◌∙◌, arith, length-append}
use Rattle.std.proofs.lemmas.List.{length-drop}
use Rattle.sim_3_items.specs.Clients.{ClientRepresents, IsOwn, IsOwnRepresented}
use Rattle.sim_3_items.specs.Labels.{Learns}
use Rattle.sim_3_items.specs.Identities.{Identity, Login}
use Rattle.sim_3_items.specs.WordItems.{told_count}
use Rattle.sim_3_items.specs.Items.{stanzas_read}
use Rattle.sim_3_items.specs.ItemWorlds.{ItemDevice}
use Rattle.sim_2_links.specs.Events.{seen, seen_session}
use Rattle.sim_2_links.specs.Links.{LinkKept}
use Rattle.sim_2_links.specs.Views.{Own, View}
use Rattle.sim_2_events.specs.Lists.{IsDevice}
use Rattle.sim_5_devices.proofs.Put.{own_session, queue_length, seen_there}
use Rattle.sm_outbox.specs.Sessions.{SessionView}
use Rattle.sim_5_devices.specs.Labels.{DoesAll}
use Rattle.sim_1_applications.specs.Devices.{Sessions, up_put}
use Rattle.sim_1_applications.specs.Events.{acknowledged}
use Rattle.xml_writer.specs.Items.{ItemOut}

-- the device learns a count, and nothing else
pub record Learnt (there end : Sessions) : Type 0 where
  pub count : ℕ
  pub is : end ≡ acknowledged count there
  pub low : there.now.acked ≤ count
  pub high : count ≤ length there.now.up_got

pub learns : (there end : Sessions) → DoesAll stanzas_read (Learns ∷ []) there end → Learnt there end × (there.online ≡ true)
learns there end (next, does, same) = (record { count = does.count; is = same ∙ does.is; low = does.low; high = does.high }, does.online)

-- ---- the links' count

pub acked_so : (v : View ItemOut) (d : Sessions) → LinkKept v → IsDevice stanzas_read (seen v) d → (o : Own ItemOut) → v.own ≡ Some o → o.acked ≡ d.now.acked
acked_so v d kept device o own = let k = kept.own o own in k.acked ∙ (device.now o.number (seen_session k.session) (seen_there v o.number k.session k.is) k.of_epoch).acked

-- no more was handled than what is acknowledged and what waits
pub none_above : (v : View ItemOut) (d : Sessions) → LinkKept v → IsDevice stanzas_read (seen v) d → (o : Own ItemOut) → v.own ≡ Some o → length d.now.up_got ≤ d.now.acked + length o.queue
none_above v d kept device o own =
    let mine = own_session v d kept device o own in
    let queue = queue_length v d kept device o mine.0 mine.2 mine.3 in
    let left = length-drop d.now.acked (up_put d.now) in
    let both = length-append d.now.up_got d.now.up_rest in
    omega (arith, queue, left, both)

-- ---- behind the word

-- the client has a session, and so have the links
shown_own : (o : Option (Own ItemOut)) (s : SessionView ItemOut) → IsOwnRepresented o (Some s) → (own : Own ItemOut) × (o ≡ Some own) × IsOwn own s
shown_own None s shown = absurd shown
shown_own (Some own) s shown = (own, refl, shown)

pub told_so : (who : Identity) (logins : ℕ → Login) (e : ItemDevice) (v : View ItemOut) (d : Sessions) (s : SessionView ItemOut) → ClientRepresents who logins e v → LinkKept v → IsDevice stanzas_read (seen v) d → e.client.session ≡ Some s
    → s.waiting.acked ≡ told_count d.now.acked
told_so who logins e v d s represents kept device has =
    let mine = shown_own v.own s (subst (IsOwnRepresented v.own) has represents.own) in
    mine.2.acked ∙ ap told_count (acked_so v d kept device mine.0 mine.1)
