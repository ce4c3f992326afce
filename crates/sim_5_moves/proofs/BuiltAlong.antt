-- Along moves of the links all stanzas stay built as they are read, where those that are put are.
use Rattle.std.proofs.Common.{◌≡◌, ℕ, ◌+◌, Bool, true, false, All, List, [], ◌∷◌, ◌++◌, Option, Some, None, if◌then◌else◌, refl, sym, subst}
use Rattle.std.proofs.lemmas.List.Elements.{All-append, All-cons, All-nil}
use Rattle.std.specs.Option.{option_map}
use Rattle.mam_archive.specs.Entries.{EntryView}
use Rattle.sim_3_items.specs.Labels.{Drops, Enters, Gives, Label, Learns, Names, Reads, Says, Takes, label_of, labels_of}
use Rattle.sim_2_links.proofs.Entries.{Entry, New, Old, entry, was}
use Rattle.sim_2_links.proofs.Numbers.{reached_rises}
use Rattle.sim_2_links.proofs.Reached.{link_kept}
use Rattle.sim_2_links.proofs.Seen.{move_seen}
use Rattle.sim_2_links.specs.Events.{Bound, Counted, Dropped, Ended, Handled, Heard, IsSeenAs, Known, Learned, LinkEvent, Named, Said, Seen, SeenSession, Served, after, new_session, own_number, row_number, seen}
use Rattle.sim_2_links.specs.Machine.{AsksToBind, AsksToResume, Cuts, Demands, Detaches, Dials, EndsRow, Foots, Forgets, Hears, HearsEarly, Keeps, LetsGo, LinkMove, LinkReached, LinkReaches, Parks, Puts, Queues, ReadsBound, ReadsCount, ReadsEnabled, ReadsFailed, ReadsHand, ReadsRequest, ReadsResumed, ReadsStanza, Requests, Serves, Shuts, TakesBind, TakesCount, TakesEnable, TakesFoot, TakesHand, TakesHighResume, TakesLateResume, TakesRequest, TakesResume, TakesStanza, TakesStrangeResume}
use Rattle.sim_2_links.specs.Telling.{Tells}
use Rattle.sim_2_links.specs.Views.{View, alter, has}
use Rattle.cmd_schedule.specs.Contents.{Owned}
use Rattle.sim_4_links_follow.proofs.Stays.{reached_along}
use Rattle.sim_3_items.specs.Built.{IsDown, IsUp}
use Rattle.sim_5_moves.specs.Going.{AllBuilt, ArePutBuilt}
use Rattle.sim_5_moves.specs.Running.{AreBuilt}
use Rattle.xml_writer.specs.Items.{ItemOut}

module _ (o : Owned) (history : List EntryView) where
  -- what an event puts is built
  abbrev PutsBuilt : LinkEvent ItemOut → Type 0
  PutsBuilt (Said p z) = IsUp o z
  PutsBuilt (Served p z) = IsDown o history z
  PutsBuilt e = Unit {0}

  more_up : (b : Bool) (z : ItemOut) (t : SeenSession ItemOut) → IsUp o z → AreBuilt o history t → AreBuilt o history (record t { up_put = if b then t.up_put ++ z ∷ [] else t.up_put })
  more_up true z t one built = record { up = All-append (IsUp o) t.up_put (z ∷ []) built.up (All-cons (IsUp o) z [] one (All-nil (IsUp o))); down = built.down }
  more_up false z t one built = built

  more_down : (b : Bool) (z : ItemOut) (t : SeenSession ItemOut) → IsDown o history z → AreBuilt o history t → AreBuilt o history (record t { down_put = if b then t.down_put ++ z ∷ [] else t.down_put })
  more_down true z t one built = record { up = built.up; down = All-append (IsDown o history) t.down_put (z ∷ []) built.down (All-cons (IsDown o history) z [] one (All-nil (IsDown o history))) }
  more_down false z t one built = built

  same_lists : (t u : SeenSession ItemOut) → u.up_put ≡ t.up_put → u.down_put ≡ t.down_put → AreBuilt o history t → AreBuilt o history u
  same_lists t u up down built = record { up = subst (All (IsUp o)) (sym up) built.up; down = subst (All (IsDown o history)) (sym down) built.down }

  module _ (s : Seen ItemOut) (built : AllBuilt o history s) where
    -- each session is changed
    changed : (f : ℕ → SeenSession ItemOut → SeenSession ItemOut) → ((q : ℕ) (t : SeenSession ItemOut) → AreBuilt o history t → AreBuilt o history (f q t))
        → AllBuilt o history (record s { sessions = alter f s.sessions })
    changed f keeps q t there = let x = was f s.sessions q t there in subst (AreBuilt o history) x.2 (keeps q x.0 (built q x.0 x.1))

    after_built : (e : LinkEvent ItemOut) → PutsBuilt e → AllBuilt o history (after e s)
    after_built (Bound m) put = λ q t there. by q t (entry m new_session s.sessions q t there)
      where
        by : (q : ℕ) (t : SeenSession ItemOut) → Entry m new_session s.sessions q t → AreBuilt o history t
        by q t (New same is) = subst (AreBuilt o history) is (record { up = All-nil (IsUp o); down = All-nil (IsDown o history) })
        by q t (Old other there_before) = built q t there_before
    after_built (Named m) put = changed (λ q t. record t { epoch = if has (Some m) q then Some (s.epoch + 1) else t.epoch }) (λ q t b. record { up = b.up; down = b.down })
    after_built (Counted p) put = changed (λ q t. record t { counted = if has (Some p) q then true else t.counted }) (λ q t b. record { up = b.up; down = b.down })
    after_built (Known p) put = changed (λ q t. record t { known = if has (Some p) q then true else t.known }) (λ q t b. record { up = b.up; down = b.down })
    after_built (Ended p) put = built
    after_built (Dropped p) put = built
    after_built (Said p z) put = changed (λ q t. record t { up_put = if has (Some p) q then t.up_put ++ z ∷ [] else t.up_put }) (λ q t b. more_up (has (Some p) q) z t put b)
    after_built (Handled p z) put = changed (λ q t. record t { up_got = if has (Some p) q then t.up_got ++ z ∷ [] else t.up_got }) (λ q t b. record { up = b.up; down = b.down })
    after_built (Served p z) put = changed (λ q t. record t { down_put = if has (Some p) q then t.down_put ++ z ∷ [] else t.down_put }) (λ q t b. more_down (has (Some p) q) z t put b)
    after_built (Heard p z) put = changed (λ q t. record t { down_got = if has (Some p) q then t.down_got ++ z ∷ [] else t.down_got }) (λ q t b. record { up = b.up; down = b.down })
    after_built (Learned p n) put = changed (λ q t. record t { acked = if has (Some p) q then n else t.acked }) (λ q t b. record { up = b.up; down = b.down })

  -- ---- a move

  abbrev EventBuilt : Option (LinkEvent ItemOut) → Type 0
  EventBuilt None = Unit {0}
  EventBuilt (Some e) = PutsBuilt e

  seen_built : (e : Option (LinkEvent ItemOut)) (s next : Seen ItemOut) → IsSeenAs e s next → EventBuilt e → AllBuilt o history s → AllBuilt o history next
  seen_built None s next same put built = subst (AllBuilt o history) (sym same) built
  seen_built (Some e) s next (may, same) put built = subst (AllBuilt o history) (sym same) (after_built s built e put)

  -- an event of the session that the server has live, or of the client's, where there is one
  of_number : (tell : ℕ → LinkEvent ItemOut) → ((p : ℕ) → PutsBuilt (tell p)) → (n : Option ℕ) → EventBuilt (option_map tell n)
  of_number tell put None = tt
  of_number tell put (Some p) = put p

  -- what it tells puts what its label says
  tells_built : (move : LinkMove ItemOut) (v : View ItemOut) (e : Option (LinkEvent ItemOut)) → Tells move v e → ArePutBuilt o history (label_of move) → EventBuilt e
  tells_built (Cuts k i j) v e is put = subst EventBuilt (sym is) tt
  tells_built (Dials k) v e is put = subst EventBuilt (sym is) tt
  tells_built (LetsGo k) v e is put = subst EventBuilt (sym is) tt
  tells_built (Foots k) v e is put = subst EventBuilt (sym is) tt
  tells_built Forgets v e is put = subst EventBuilt (sym is) (of_number Dropped (λ p. tt) (own_number v.own))
  tells_built (Puts k z) v e is put = subst EventBuilt (sym is) (of_number (λ p. Said p z) (λ p. put.0) (own_number v.own))
  tells_built (Queues z) v e is put = subst EventBuilt (sym is) (of_number (λ p. Said p z) (λ p. put.0) (own_number v.own))
  tells_built (Requests k) v e is put = subst EventBuilt (sym is) tt
  tells_built (ReadsHand k) v e is put = subst EventBuilt (sym is) tt
  tells_built (AsksToResume k) v e is put = subst EventBuilt (sym is) tt
  tells_built (AsksToBind k) v e is put = subst EventBuilt (sym is) tt
  tells_built (ReadsFailed k) v e is put = subst EventBuilt (sym is) (of_number Dropped (λ p. tt) (own_number v.own))
  tells_built (ReadsResumed k) v e is put = subst EventBuilt (sym is.1) (of_number (λ p. Learned p is.0) (λ p. tt) (own_number v.own))
  tells_built (ReadsBound k m) v e is put = subst EventBuilt (sym is) tt
  tells_built (ReadsEnabled k m) v e is put = subst EventBuilt (sym is) tt
  tells_built (ReadsStanza k z) v e is put = subst EventBuilt (sym is) (of_number (λ p. Heard p z) (λ p. tt) (own_number v.own))
  tells_built (ReadsRequest k) v e is put = subst EventBuilt (sym is) tt
  tells_built (ReadsCount k h) v e is put = subst EventBuilt (sym is) (of_number (λ p. Learned p h) (λ p. tt) (own_number v.own))
  tells_built (TakesHand k) v e is put = subst EventBuilt (sym is) tt
  tells_built (TakesResume k) v e is put = subst EventBuilt (sym is) tt
  tells_built (TakesLateResume k) v e is put = subst EventBuilt (sym is) tt
  tells_built (TakesStrangeResume k) v e is put = subst EventBuilt (sym is) tt
  tells_built (TakesHighResume k) v e is put = subst EventBuilt (sym is) (of_number Ended (λ p. tt) (row_number v.row))
  tells_built (TakesBind k m) v e is put = subst EventBuilt (sym is) tt
  tells_built (TakesEnable k) v e is put = subst EventBuilt (sym is) (of_number Counted (λ p. tt) (row_number v.row))
  tells_built (TakesStanza k z) v e is put = subst EventBuilt (sym is) (of_number (λ p. Handled p z) (λ p. tt) (row_number v.row))
  tells_built (TakesRequest k) v e is put = subst EventBuilt (sym is) tt
  tells_built (TakesCount k h) v e is put = subst EventBuilt (sym is) tt
  tells_built (TakesFoot k) v e is put = subst EventBuilt (sym is) tt
  tells_built (Parks k) v e is put = subst EventBuilt (sym is) tt
  tells_built (Hears k) v e is put = subst EventBuilt (sym is) tt
  tells_built (HearsEarly k) v e is put = subst EventBuilt (sym is) (of_number Ended (λ p. tt) (row_number v.row))
  tells_built (Detaches k ending) v e is put = subst EventBuilt (sym is) tt
  tells_built (Shuts k ending) v e is put = subst EventBuilt (sym is) (of_number Ended (λ p. tt) (row_number v.row))
  tells_built EndsRow v e is put = subst EventBuilt (sym is) (of_number Ended (λ p. tt) (row_number v.row))
  tells_built (Serves k z) v e is put = subst EventBuilt (sym is) (of_number (λ p. Served p z) (λ p. put.0) (row_number v.row))
  tells_built (Keeps z) v e is put = subst EventBuilt (sym is) (of_number (λ p. Served p z) (λ p. put.0) (row_number v.row))
  tells_built (Demands k) v e is put = subst EventBuilt (sym is) tt

  puts_split : (ds more : List (Label ItemOut)) → ArePutBuilt o history (ds ++ more) → ArePutBuilt o history ds × ArePutBuilt o history more
  puts_split [] more put = (tt, put)
  puts_split (Says z ∷ ds) more put = let x = puts_split ds more put.1 in ((put.0, x.0), x.1)
  puts_split (Gives z ∷ ds) more put = let x = puts_split ds more put.1 in ((put.0, x.0), x.1)
  puts_split (Takes z ∷ ds) more put = puts_split ds more put
  puts_split (Reads z ∷ ds) more put = puts_split ds more put
  puts_split (Names ∷ ds) more put = puts_split ds more put
  puts_split (Enters ∷ ds) more put = puts_split ds more put
  puts_split (Learns ∷ ds) more put = puts_split ds more put
  puts_split (Drops ∷ ds) more put = puts_split ds more put

  pub built_along : (moves : List (LinkMove ItemOut)) (v last : View ItemOut) → LinkReached v → LinkReaches moves v last → ArePutBuilt o history (labels_of moves) → AllBuilt o history (seen v) → AllBuilt o history (seen last)
  built_along [] v last reached same put built = subst (λ x. AllBuilt o history (seen x)) (sym same) built
  built_along (move ∷ moves) v last reached (next, by, along) put built =
      let seen_so = move_seen move v next by (link_kept v reached) (reached_rises v reached) in
      let puts = puts_split (label_of move) (labels_of moves) put in
      built_along moves next last (reached_along (move ∷ []) v next reached (next, by, refl)) along puts.1 (seen_built seen_so.0 (seen v) (seen next) seen_so.2 (tells_built move v seen_so.0 seen_so.1 puts.0) built)
