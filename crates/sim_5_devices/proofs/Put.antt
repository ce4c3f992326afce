-- Where a label is in time in the sessions, its move may happen in the links.
use Rattle.std.proofs.Common.{◌≡◌, ◌≤◌, ◌+◌, ℕ, Bool, true, false, List, [], ◌∷◌, ◌++◌, Some, length, drop, map, refl, sym, ap, ap₂, subst, ◌∙◌, arith, inl, inr}
use Rattle.std.proofs.lemmas.List.{drop-map, length-drop, length-map}
use Rattle.sm_acks.specs.Delivery.{queue_of}
use Rattle.sim_3_items.specs.Downs.{down_stanza}
use Rattle.sim_3_items.specs.Items.{stanzas_read}
use Rattle.sim_3_items.specs.Ups.{up_stanza}
use Rattle.sim_2_links.proofs.CutLinks.{some_one}
use Rattle.sim_2_links.specs.Events.{row_number, seen, seen_as, seen_session}
use Rattle.sim_2_links.specs.Links.{LinkKept}
use Rattle.sim_2_links.specs.Paging.{MayPut, MayServe, many, one_if}
use Rattle.sim_2_links.specs.Views.{Own, Row, Session as LinkSession, View}
use Rattle.sim_2_events.specs.Lists.{IsDevice, IsRow, IsSession}
use Rattle.sim_5_devices.proofs.Alike.{AreAlike}
use Rattle.sim_5_devices.specs.InTime.{MayEnd, MayGive, MaySay, is_end, is_query, paging_here}
use Rattle.sim_1_applications.specs.Devices.{Present, Session, Sessions, up_put}
use Rattle.sim_1_applications.specs.Stanzas.{Accepted, Bounced, Carbons, Down, Fin, Live, Message, NotFound, Presence, Query, Res, Up}
use Rattle.xml_writer.specs.Items.{ItemOut}

-- ---- of lists that are alike

-- fewer wait where the client learned more
fewer : (m n : ℕ) (l : List Up) → m ≤ n → length (drop m l) + 1 ≤ 1000 → length (drop n l) + 1 ≤ 1000
fewer m n l low few = let before = length-drop m l in let then = length-drop n l in omega arith

module _ (s t : Session) (a : AreAlike s t) where
  puts_same : up_put t ≡ up_put s
  puts_same = ap₂ (λ got rest. got ++ rest) a.up_got a.up_rest

  waits : length (drop s.acked (up_put s)) + 1 ≤ 1000 → length (drop t.acked (up_put t)) + 1 ≤ 1000
  waits few = fewer s.acked t.acked (up_put t) a.acked (subst (λ l. length (drop s.acked l) + 1 ≤ 1000) (sym puts_same) few)

  pub may_say : (z : Up) → MaySay z s → MaySay z t
  may_say Carbons may = waits may
  may_say Presence may = waits may
  may_say (Message m) may = waits may
  may_say (Query r) may = subst (λ l. many is_query l ≤ many is_end t.down_got) (sym puts_same) (subst (λ l. many is_query (up_put s) ≤ many is_end l) (sym a.down_got) may)

  may_end : MayEnd s → MayEnd t
  may_end may =
      subst (λ l. many is_end l + 1 ≤ many is_query t.up_got) (sym (ap₂ (λ got rest. got ++ rest) a.down_got a.down_rest))
      (subst (λ l. many is_end (s.down_got ++ s.down_rest) + 1 ≤ many is_query l) (sym a.up_got) may)

  pub may_give : (z : Down) → MayGive z s → MayGive z t
  may_give (Fin q complete last count) may = may_end may
  may_give (NotFound q) may = may_end may
  may_give Accepted may = tt
  may_give (Bounced e n) may = tt
  may_give (Live n) may = tt
  may_give (Res q n) may = tt

-- ---- counts

many_mapped : {A B : Type 0} (f : A → B) (test : B → Bool) (l : List A) → many (λ z. test (f z)) l ≡ many test (map f l)
many_mapped f test [] = refl
many_mapped f test (z ∷ l) = ap (λ n. one_if (test (f z)) + n) (many_mapped f test l)

-- ---- the session that both ends put to

pub seen_there : (v : View ItemOut) (q : ℕ) (s : LinkSession ItemOut) → v.sessions q ≡ Some s → (seen v).sessions q ≡ Some (seen_session s)
seen_there v q s is = ap seen_as is

module _ (v : View ItemOut) (d : Sessions) (kept : LinkKept v) (device : IsDevice stanzas_read (seen v) d) where
  pub own_session : (o : Own ItemOut) → v.own ≡ Some o → (s : LinkSession ItemOut) × (v.sessions o.number ≡ Some s) × (o.queue ≡ queue_of s.up) × IsSession stanzas_read (seen_session s) d.now
  own_session o own = let k = kept.own o own in (k.session, k.is, k.queue, device.now o.number (seen_session k.session) (seen_there v o.number k.session k.is) k.of_epoch)

  row_session : (r : Row ItemOut) (s : LinkSession ItemOut) → v.row ≡ Some r → v.sessions r.number ≡ Some s → d.row ≡ Present → IsSession stanzas_read (seen_session s) d.now
  row_session r s row is present = by (subst (IsRow (seen v) d.row) (ap row_number row) device.row)
    where
      by : IsRow (seen v) d.row (Some r.number) → IsSession stanzas_read (seen_session s) d.now
      by (t, there, inl unread) = absurd (let both = sym present ∙ unread.1 in let no_way : ⊥ = cc in no_way)
      by (t, there, inr now) = subst (λ x. IsSession stanzas_read x d.now) (some_one ((seen v).sessions r.number) t (seen_session s) there (seen_there v r.number s is)) (device.now r.number t there now.0)

  -- ---- the client puts

  -- what waits in its queue
  pub queue_length : (o : Own ItemOut) (s : LinkSession ItemOut) → o.queue ≡ queue_of s.up → IsSession stanzas_read (seen_session s) d.now → length o.queue ≡ length (drop d.now.acked (up_put d.now))
  queue_length o s queue is =
      ap length queue ∙ sym (length-map (drop s.up.acked s.up.put) up_stanza) ∙ ap length (sym (drop-map up_stanza s.up.acked s.up.put))
      ∙ ap₂ (λ n l. length (drop n l)) is.acked is.up_put

  few_of : (z : Up) → is_query z ≡ false → MaySay z d.now → length (drop d.now.acked (up_put d.now)) + 1 ≤ 1000
  few_of Carbons other may = may
  few_of Presence other may = may
  few_of (Message m) other may = may
  few_of (Query r) other may = absurd (let no_way : ⊥ = cc in no_way)

  ended_of : (z : Up) → is_query z ≡ true → MaySay z d.now → many is_query (up_put d.now) ≤ many is_end d.now.down_got
  ended_of Carbons asks may = absurd (let no_way : ⊥ = cc in no_way)
  ended_of Presence asks may = absurd (let no_way : ⊥ = cc in no_way)
  ended_of (Message m) asks may = absurd (let no_way : ⊥ = cc in no_way)
  ended_of (Query r) asks may = may

  pub may_put : (z : ItemOut) → MaySay (up_stanza z) d.now → MayPut paging_here v z
  may_put z may = record {
    room = λ other o own.
        let s = own_session o own in
        subst (λ n. n + 1 ≤ 1000) (sym (queue_length o s.0 s.2 s.3)) (few_of (up_stanza z) other may);
    ended = λ asks o t own there.
        let s = own_session o own in
        let is = subst (λ x. IsSession stanzas_read (seen_session x) d.now) (some_one (v.sessions o.number) s.0 t s.1 there) s.3 in
        subst (λ n. n ≤ many paging_here.ends t.down.got) (sym (many_mapped up_stanza is_query t.up.put ∙ ap (many is_query) is.up_put))
        (subst (λ n. many is_query (up_put d.now) ≤ n) (sym (many_mapped down_stanza is_end t.down.got ∙ ap (many is_end) is.down_got)) (ended_of (up_stanza z) asks may));
  }

  -- ---- the server puts

  end_of : (z : Down) → is_end z ≡ true → MayGive z d.now → MayEnd d.now
  end_of (Fin q complete last count) ends may = may
  end_of (NotFound q) ends may = may
  end_of Accepted ends may = absurd (let no_way : ⊥ = cc in no_way)
  end_of (Bounced e n) ends may = absurd (let no_way : ⊥ = cc in no_way)
  end_of (Live n) ends may = absurd (let no_way : ⊥ = cc in no_way)
  end_of (Res q n) ends may = absurd (let no_way : ⊥ = cc in no_way)

  pub may_serve : (z : ItemOut) → d.row ≡ Present → MayGive (down_stanza z) d.now → MayServe paging_here v z
  may_serve z present may ends r s row there =
      let is = row_session r s row there present in
      subst (λ n. n + 1 ≤ many paging_here.asks s.up.got) (sym (many_mapped down_stanza is_end s.down.put ∙ ap (many is_end) is.down_put))
      (subst (λ n. many is_end (d.now.down_got ++ d.now.down_rest) + 1 ≤ n) (sym (many_mapped up_stanza is_query s.up.got ∙ ap (many is_query) is.up_got)) (end_of (down_stanza z) ends may))
