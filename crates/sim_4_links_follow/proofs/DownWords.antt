-- An item that comes to a device on its connection is that of the first word there, and the client works there.
use Rattle.std.proofs.Common.{◌≡◌, ◌⊎◌, ℕ, ◌+◌, false, List, [], ◌∷◌, Some, None, map, refl, sym, ap, subst, ◌∙◌, inl, inr}
use Rattle.std.proofs.lemmas.Option.{same_Some}
use Rattle.sim_4_links_follow.proofs.CutPipes.{wire_of}
use Rattle.sim_4_links_follow.proofs.Lifts.{hear_lifts, shown_here}
use Rattle.sim_4_links_follow.proofs.Parts.{has_conn}
use Rattle.sim_4_links_follow.specs.Following.{HasNextDown, IsNextItem, WorldFollows}
use Rattle.sim_3_items.specs.Identities.{Identity, Login}
use Rattle.sim_3_items.specs.Pipes.{by_number}
use Rattle.sim_3_items.specs.Reading.{HearingFollows, IsNextDown, IsRead, IsRepresentedHere, client_step_on, noted}
use Rattle.sim_3_items.specs.Represents.{Represents}
use Rattle.sim_3_items.specs.WordItems.{down_item, is_after_login}
use Rattle.sim_3_items.specs.ItemMoves.{Down, moved}
use Rattle.sim_3_items.specs.ItemPipes.{ItemWire}
use Rattle.sim_3_items.specs.ItemWorlds.{ItemDevice, ItemWorld}
use Rattle.sim_2_links.specs.Machine.{LinkReached}
use Rattle.sim_2_links.specs.Views.{Table, View, has}
use Rattle.sim_2_links.specs.Wires.{down_words}
use Rattle.sim_2_links.specs.Words.{DownWord}
use Rattle.sim_4_links_follow.proofs.Changes.{under_position}
use Rattle.xml_writer.specs.Items.{ItemOut}

first_word : {S T : Type 0} (f : S → T) (ss : List S) (t : T) (ts : List T) → t ∷ ts ≡ map f ss → (s : S) × (rest : List S) × (ss ≡ s ∷ rest) × (f s ≡ t)
first_word f [] t ts is = absurd (let no_way : ⊥ = cc in no_way)
first_word f (s ∷ ss) t ts is = (s, ss, refl, (let same : f s ≡ t = cc in same))

pub next_is_word : (who : Identity) (logins : ℕ → Login) (d : ItemDevice) (wires : Table ItemWire) (v : View ItemOut) → IsRepresentedHere who logins d wires v → (position : ℕ) (w : ItemWire) (i : ItemOut) (items : List ItemOut)
    → d.here ≡ Some position → wires (position + 1) ≡ Some w → w.down.items ≡ i ∷ items → HasNextDown who logins d wires v (position + 1) w i
next_is_word who logins d wires v shown position w i items at there first =
    let h = has_conn who logins d wires v shown position at in
    let is = wire_of who logins wires v (position + 1) h.conn w shown.pipes h.is there in
    let word = first_word (down_item who (logins (position + 1)) (position + 1) (is_after_login h.conn.client)) (down_words h.conn.wires) i items (sym first ∙ is.down) in
    record {
      word = word.0;
      next = record { shown = shown; here = on word.2 h.works h.piped.left; conn = h.conn; is = h.is; rest = word.1; first = word.2; wire = w; there = there };
      is = word.3;
      same = refl;
    }
  where
    on : {W B : Type 0} {word : W} {rest words : List W} → words ≡ word ∷ rest → (v.here ≡ Some (position + 1)) ⊎ ((v.here ≡ None) × B) → (has v.here (position + 1) ≡ false → words ≡ []) → v.here ≡ Some (position + 1)
    on some (inl here) left = here
    on some (inr (idle, ended)) left = let none = left (ap (λ o. has o (position + 1)) idle) in absurd (let no_way : ⊥ = cc in no_way)

module _ (who : Identity) (logins : ℕ → Login) (w : ItemWorld) (v : View ItemOut) (s : Represents who logins w v) (reached : LinkReached v) (position : ℕ) (d : ItemDevice) (wire : ItemWire) (i : ItemOut) (n : IsNextItem position who.position w d wire i) where
  pub next_down : HasNextDown who logins d (by_number w.wires) v (position + 1) wire i
  next_down =
      let same : s.device ≡ d = same_Some s.device d (sym s.there ∙ n.has) in
      subst (λ e. HasNextDown who logins e (by_number w.wires) v (position + 1) wire i) same
      (next_is_word who logins s.device (by_number w.wires) v (shown_here who logins w v s reached) position wire i n.items (ap (λ (e : ItemDevice). e.here) same ∙ n.here) (under_position position w.wires ∙ n.there) n.first)

  -- what is read of each word is read in the world
  pub read_lifts : (((word : DownWord ItemOut) (p : IsNextDown who logins d (by_number w.wires) v (position + 1) word) → IsRead who logins d (by_number w.wires) v (position + 1) p.conn p.wire word)
      → WorldFollows who logins (moved (Down position) w) v (noted (client_step_on i d).out.notes))
  read_lifts reads =
      let h = next_down in
      hear_lifts who logins w v s position d wire i n
      (subst (λ x. HearingFollows who logins d (by_number w.wires) v (position + 1) x (client_step_on i d)) h.same
      (subst (λ j. HearingFollows who logins d (by_number w.wires) v (position + 1) h.next.wire (client_step_on j d)) h.is (reads h.word h.next)))
