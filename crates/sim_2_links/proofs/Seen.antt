-- Each move is nothing, or one event, to the applications.
use Rattle.std.proofs.Common.{◌≡◌, ℕ, ◌+◌, ◌≤◌, Bool, true, false, ◌&&◌, if◌then◌else◌, List, [], ◌∷◌, ◌++◌, length, refl, sym, ap, ◌∙◌, subst, arith, append_assoc, Option, None, Some, nat_eq}
use Rattle.std.specs.List.{Contains}
use Rattle.std.specs.Option.{option_map}
use Rattle.sm_acks.specs.Delivery.{Direction, Reached}
use Rattle.sm_acks.proofs.Directions.{kept_reached}
use Rattle.sim_2_links.proofs.Entries.{is_has, has_is}
use Rattle.sim_2_links.proofs.Tables.{left_up_whole, left_down_whole}
use Rattle.sim_2_links.proofs.CutLinks.{some_one, some_same}
use Rattle.sim_2_links.proofs.Hands.{no_entry, beginning_keeps}
use Rattle.sim_2_links.proofs.Reached.{move_keeps}
use Rattle.sim_2_links.proofs.Numbers.{binds_brings, move_rises, beginning_rises}
use Rattle.sim_2_links.proofs.Served.{on_row}
use Rattle.sim_2_links.proofs.Heard.{in_own}
use Rattle.sim_2_links.proofs.Puts.{putting}
use Rattle.sim_2_links.proofs.Putting.{serving}
use Rattle.sim_2_links.proofs.Late.{late_if}
use Rattle.sim_2_links.proofs.Enabling.{AsksEnabled, asks_enabled, enabled_if}
use Rattle.sim_2_links.proofs.ReadBound.{at_bound, named_if}
use Rattle.sim_2_links.proofs.ReadEnabled.{EnabledFirst, reads_enabled, known_if}
use Rattle.sim_2_links.proofs.ReadResumed.{Reads, reads, resent_if, phase_session}
use Rattle.sim_2_links.proofs.Asking.{at_refused}
use Rattle.sim_2_links.specs.Words.{Enable, Failed, Resumed, Bound, Enabled, up_stanzas, down_stanzas}
use Rattle.sim_2_links.specs.Wires.{is_flowing, up_whole, down_whole, left_up, left_down}
use Rattle.sim_2_links.specs.Stages.{Refused, Resumes, Binds, AsksEnable, Enables, phase_of, Ending, tail_of, foot_of, Conn}
use Rattle.sim_2_links.specs.Views.{changed, has, Session, Row, Own, View, on_phase, session_on, carries}
use Rattle.sim_2_links.specs.LinkMoves.{ways_cut, handled_if, stated_if, acked_if, read_if, told_if, heard_if, IsCut, IsLetGo, IsDialled, IsUpStanza, IsUpRequest, IsUpCount, IsDownStanza, IsDownRequest, IsDownCount}
use Rattle.sim_2_links.specs.SessionMoves.{lost_if, unread, resumed_if, IsAskResume, IsRefused, IsDetached, IsRowEnded, IsBound, IsReadBound, IsEnabled, IsReadEnabled, IsClientPut, IsResumedHere, IsResumedLate, IsReadResumed, IsParked}
use Rattle.sim_2_links.specs.EndMoves.{IsTooHigh, IsUncountedShut, IsUncountedGone, IsForgotten}
use Rattle.sim_2_links.specs.PutMoves.{IsClientQueued, IsServerPut, IsServerQueued}
use Rattle.sim_2_links.specs.Links.{DownCounts, FitsOwn, IsAsked, GoesUp, IsPlaced, LinkKept}
use Rattle.sim_2_links.specs.Machine.{LinkMove, Cuts, Dials, LetsGo, Foots, Forgets, Puts, Queues, Requests, ReadsHand, AsksToResume, AsksToBind, ReadsFailed, ReadsResumed, ReadsBound, ReadsEnabled, ReadsStanza, ReadsRequest, ReadsCount, TakesHand, TakesResume, TakesLateResume, TakesStrangeResume, TakesHighResume, TakesBind, TakesEnable, TakesStanza, TakesRequest, TakesCount, TakesFoot, Parks, Hears, HearsEarly, Detaches, Shuts, EndsRow, Serves, Keeps, Demands, LinkMoves, nothing_yet, LinkReaches, LinkReached}
use Rattle.sim_2_links.specs.Numbers.{IsRising}
use Rattle.sim_2_links.specs.Events.{SeenSession, seen_session, Seen, row_number, own_number, seen_as, seen, LinkEvent, Named, Counted, Known, Ended, Dropped, Said, Handled, Served, Heard, Learned, May, new_session, after, IsSeenAs, Follows}
use Rattle.sim_2_links.specs.Events as events
use Rattle.sim_2_links.specs.Telling.{Tells}

same_seen : {A : Type 0} (a b : Seen A) → a.live ≡ b.live → a.own ≡ b.own → a.epoch ≡ b.epoch → ((q : ℕ) → a.sessions q ≡ b.sessions q) → a ≡ b
same_seen a b live own epoch sessions = λ i. record { live = live i; own = own i; epoch = epoch i; sessions = λ q. sessions q i }

-- what is seen of sessions that change, where what is seen changes so
seen_changed : {A : Type 0} (f : Session A → Session A) (g : SeenSession A → SeenSession A) → ((s : Session A) → seen_session (f s) ≡ g (seen_session s)) → (o : Option (Session A)) → seen_as (changed f o) ≡ changed g (seen_as o)
seen_changed f g same None = refl
seen_changed f g same (Some s) = ap Some (same s)

seen_still : {A : Type 0} (f : Session A → Session A) → ((s : Session A) → seen_session (f s) ≡ seen_session s) → (o : Option (Session A)) → seen_as (changed f o) ≡ seen_as o
seen_still f same None = refl
seen_still f same (Some s) = ap Some (same s)

seen_changed_at : {A : Type 0} (f : Session A → Session A) (g : SeenSession A → SeenSession A) (o : Option (Session A)) → ((s : Session A) → o ≡ Some s → seen_session (f s) ≡ g (seen_session s)) → seen_as (changed f o) ≡ changed g (seen_as o)
seen_changed_at f g None same = refl
seen_changed_at f g (Some s) same = ap Some (same s refl)

-- a move of which nothing is seen
-- an event that may be, of which this is so
abbrev pub IsEvent : {A : Type 0} → (Option (LinkEvent A) → Type 0) → View A → View A → Type 0
IsEvent {A = A} T v next = (e : Option (LinkEvent A)) × T e × IsSeenAs e (seen v) (seen next)

-- the one that the move tells
abbrev pub Told : {A : Type 0} → LinkMove A → View A → View A → Type 0
Told move v next = IsEvent (Tells move v) v next

silent : {A : Type 0} (T : Option (LinkEvent A) → Type 0) (v next : View A) → T None → row_number next.row ≡ row_number v.row → own_number next.own ≡ own_number v.own → next.epoch ≡ v.epoch → ((q : ℕ) → seen_as (next.sessions q) ≡ seen_as (v.sessions q)) →
    IsEvent T v next
silent T v next told row own epoch sessions = (None, told, same_seen (seen next) (seen v) row own epoch sessions)

numbered : {A : Type 0} (v : View A) (r : Row A) → v.row ≡ Some r → row_number v.row ≡ Some r.number
numbered v r is = ap row_number is

owned : {A : Type 0} (v : View A) (o : Own A) → v.own ≡ Some o → own_number v.own ≡ Some o.number
owned v o is = ap own_number is

-- what is under way follows what was handled
next_of : {A : Type 0} (d : Direction A) (z : A) (ways : List A) → Reached d → d.way ≡ z ∷ ways → (rest : List A) × (d.put ≡ d.got ++ z ∷ rest)
next_of d z ways reached is =
    let front = (kept_reached d reached).front in
    (ways ++ front.0, front.1 ∙ append_assoc d.got d.way front.0 ∙ ap (λ l. d.got ++ (l ++ front.0)) is)

-- the moves

-- where rows, sessions and the client's session stay
unseen : {A : Type 0} (T : Option (LinkEvent A) → Type 0) (v next w : View A) → T None → next ≡ w → row_number w.row ≡ row_number v.row → own_number w.own ≡ own_number v.own → w.epoch ≡ v.epoch → ((q : ℕ) → seen_as (w.sessions q) ≡ seen_as (v.sessions q)) → IsEvent T v next
unseen T v next w told is row own epoch sessions = subst (IsEvent T v) (sym is) (silent T v w told row own epoch sessions)

event_at : {A : Type 0} (T : Option (LinkEvent A) → Type 0) (v next w : View A) (e : LinkEvent A) → T (Some e) → next ≡ w → May e (seen v) → seen w ≡ after e (seen v) → IsEvent T v next
event_at T v next w e told is may same = subst (IsEvent T v) (sym is) (Some e, told, (may, same))

-- what is seen is there
seen_was : {A : Type 0} (o : Option (Session A)) (t : SeenSession A) → seen_as o ≡ Some t → (s : Session A) × (o ≡ Some s) × (seen_session s ≡ t)
seen_was None t e = no_entry t e
seen_was (Some s) t e = (s, refl, some_same (seen_session s) t e)

-- a session that the server counts is of the client's present epoch
of_present : {A : Type 0} (v : View A) (r : Row A) (s : Session A) → v.row ≡ Some r → v.sessions r.number ≡ Some s → s.counted ≡ true → LinkKept v → IsRising v → s.epoch ≡ Some v.epoch
of_present v r s is_row is counted kept rising =
    let e = (kept.sessions r.number s is).epoch counted in
    e.1 ∙ ap Some (rising.present r is_row s e.0 is e.1)

dial_seen : {A : Type 0} (k : ℕ) (v next : View A) → IsDialled k v next → Told (Dials k) v next
dial_seen k v next m = unseen (Tells (Dials k) v) v next _ refl m.gives refl refl refl (λ q. refl)

let_go_seen : {A : Type 0} (k : ℕ) (v next : View A) → IsLetGo k v next → Told (LetsGo k) v next
let_go_seen k v next m = unseen (Tells (LetsGo k) v) v next _ refl m.gives refl refl refl (λ q. refl)

cut_seen : {A : Type 0} (k i j : ℕ) (v next : View A) → IsCut k i j v next → Told (Cuts k i j) v next
cut_seen k i j v next m = unseen (Tells (Cuts k i j) v) v next _ refl m.gives refl refl refl (λ q. seen_still (ways_cut (has v.here k) m.conn i j q) (λ s. refl) (v.sessions q))

forgotten_seen : {A : Type 0} (v next : View A) → IsForgotten v next → Told Forgets v next
forgotten_seen {A = A} v next m = by v.own refl
  where
    by : (o : Option (Own A)) → v.own ≡ o → Told Forgets v next
    by None is = unseen (Tells Forgets v) v next _ (sym (ap (λ o. option_map Dropped (own_number o)) is)) m.gives refl (sym (ap own_number is)) refl (λ q. refl)
    by (Some o) is = event_at (Tells Forgets v) v next _ (Dropped o.number) (sym (ap (λ o. option_map Dropped (own_number o)) is)) m.gives (owned v o is) refl

client_put_seen : {A : Type 0} (k : ℕ) (z : A) (v next : View A) → IsClientPut k z v next → Told (Puts k z) v next
client_put_seen k z v next m = event_at (Tells (Puts k z) v) v next _ (Said m.own.number z) (sym (ap (λ o. option_map (λ p. Said p z) (own_number o)) m.is_own)) m.gives (owned v m.own m.is_own)
    (same_seen _ _ refl (sym (owned v m.own m.is_own)) refl (λ q. seen_changed (λ s. putting (has (Some m.own.number) q) z s) _ (λ s. refl) (v.sessions q)))

client_queued_seen : {A : Type 0} (z : A) (v next : View A) → IsClientQueued z v next → Told (Queues z) v next
client_queued_seen z v next m = event_at (Tells (Queues z) v) v next _ (Said m.own.number z) (sym (ap (λ o. option_map (λ p. Said p z) (own_number o)) m.is_own)) m.gives (owned v m.own m.is_own)
    (same_seen _ _ refl (sym (owned v m.own m.is_own)) refl (λ q. seen_changed (λ s. putting (has (Some m.own.number) q) z s) _ (λ s. refl) (v.sessions q)))

ask_resume_seen : {A : Type 0} (k : ℕ) (v next : View A) → IsAskResume k v next → Told (AsksToResume k) v next
ask_resume_seen k v next m = unseen (Tells (AsksToResume k) v) v next _ refl m.gives refl refl refl (λ q. seen_still (λ s. told_if (has (Some m.own.number) q) s) (λ s. refl) (v.sessions q))

refused_seen : {A : Type 0} (k : ℕ) (v next : View A) → IsRefused k v next → LinkKept v → Told (ReadsFailed k) v next
refused_seen {A = A} k v next m kept =
    let old = kept.conns k m.conn m.is in
    let s : old.stage ≡ Refused m.p = at_refused old.stage m.conn.ending m.p (down_whole (left_down m.rest m.conn.wires)) (sym old.at.client ∙ m.client) (sym old.at.down ∙ left_down_whole Failed m.rest m.conn.wires m.first) in
    let fits : FitsOwn v.own v.epoch v.sessions (Refused m.p) = subst (λ x. FitsOwn v.own v.epoch v.sessions x) s (old.fits (is_has v.here k m.here)) in
    event_at (Tells (ReadsFailed k) v) v next _ (Dropped m.p) (sym (ap (option_map Dropped) (owned v fits.0 fits.1 ∙ ap Some fits.2))) m.gives (owned v fits.0 fits.1 ∙ ap Some fits.2) refl

named_seen : {A : Type 0} (k number : ℕ) (v next : View A) → IsReadBound k number v next → LinkKept v → IsRising v → Told (ReadsBound k number) v next
named_seen {A = A} k number v next m kept rising =
    let old = kept.conns k m.conn m.is in
    let s : old.stage ≡ Binds number = at_bound old.stage m.conn.ending number (down_whole (left_down m.rest m.conn.wires)) (sym old.at.client ∙ m.client) (sym old.at.down ∙ left_down_whole (Bound number) m.rest m.conn.wires m.first) in
    let fits : FitsOwn v.own v.epoch v.sessions (Binds number) = subst (λ x. FitsOwn v.own v.epoch v.sessions x) s (old.fits (is_has v.here k m.here)) in
    event_at (Tells (ReadsBound k number) v) v next _ (Named number) refl m.gives (ap own_number fits.0, (seen_session fits.1.0, ap seen_as fits.1.1, fits.1.2, fits.1.3), λ q e t is named. let w = seen_was (v.sessions q) t is in rising.above k number m.conn m.here m.is (binds_brings old.stage m.conn number old.at s) q e w.0 w.1 (ap (λ (x : SeenSession A). x.epoch) w.2 ∙ named))
    (same_seen _ _ refl refl refl (λ q. seen_changed (λ s. named_if (has (Some number) q) (v.epoch + 1) s) _ (λ s. refl) (v.sessions q)))

known_seen : {A : Type 0} (k number : ℕ) (v next : View A) → IsReadEnabled k number v next → LinkKept v → Told (ReadsEnabled k number) v next
known_seen {A = A} k number v next m kept =
    let old = kept.conns k m.conn m.is in
    let r : EnabledFirst old.stage number (tail_of m.conn.ending) (down_whole (left_down m.rest m.conn.wires)) = reads_enabled old.stage m.conn.ending number (down_whole (left_down m.rest m.conn.wires)) (sym old.at.client ∙ m.client) (sym old.at.down ∙ left_down_whole (Enabled number) m.rest m.conn.wires m.first) in
    let fits : FitsOwn v.own v.epoch v.sessions (Enables number r.downs) = subst (λ x. FitsOwn v.own v.epoch v.sessions x) r.is (old.fits (is_has v.here k m.here)) in
    event_at (Tells (ReadsEnabled k number) v) v next _ (Known number) refl m.gives (ap own_number fits.0, (seen_session fits.1.0, ap seen_as fits.1.1, fits.1.3, fits.1.4, fits.1.2))
    (same_seen _ _ refl refl refl (λ q. seen_changed (λ s. known_if (has (Some number) q) s) _ (λ s. refl) (v.sessions q)))

heard_seen : {A : Type 0} (k : ℕ) (z : A) (v next : View A) → IsDownStanza k z v next → LinkKept v → Told (ReadsStanza k z) v next
heard_seen {A = A} k z v next m kept =
    let i = in_own v k m.conn m.own m.is m.here m.is_own m.client kept in
    let follows = next_of i.0.down z (down_stanzas m.rest) (kept.sessions m.own.number i.0 i.1.is).down (i.1.goes.way ∙ ap down_stanzas m.first) in
    event_at (Tells (ReadsStanza k z) v) v next _ (Heard m.own.number z) (sym (ap (λ o. option_map (λ p. Heard p z) (own_number o)) m.is_own)) m.gives (owned v m.own m.is_own, (seen_session i.0, follows.0, ap seen_as i.1.is, follows.1))
    (same_seen _ _ refl (sym (owned v m.own m.is_own)) refl (λ q. seen_changed (λ s. read_if (has (Some m.own.number) q) z (down_stanzas m.rest) s) _ (λ s. refl) (v.sessions q)))

down_request_seen : {A : Type 0} (k : ℕ) (v next : View A) → IsDownRequest k v next → Told (ReadsRequest k) v next
down_request_seen k v next m = unseen (Tells (ReadsRequest k) v) v next _ refl m.gives refl refl refl (λ q. seen_still (λ s. told_if (has (Some m.own.number) q) s) (λ s. refl) (v.sessions q))

learned_seen : {A : Type 0} (k h : ℕ) (v next : View A) → IsDownCount k h v next → LinkKept v → Told (ReadsCount k h) v next
learned_seen {A = A} k h v next m kept =
    let i = in_own v k m.conn m.own m.is m.here m.is_own m.client kept in
    let counts : (i.0.up.acked ≤ h) × Contains i.0.up.stated h × DownCounts h i.0.up.stated m.rest = subst (λ ws. DownCounts i.0.up.acked i.0.up.stated ws) m.first i.1.goes.counts in
    event_at (Tells (ReadsCount k h) v) v next _ (Learned m.own.number h) (sym (ap (λ o. option_map (λ p. Learned p h) (own_number o)) m.is_own)) m.gives (owned v m.own m.is_own, (seen_session i.0, ap seen_as i.1.is, counts.0, (kept_reached i.0.up (kept.sessions m.own.number i.0 i.1.is).up).stated h counts.1))
    (same_seen _ _ refl (sym (owned v m.own m.is_own)) refl (λ q. seen_changed (λ s. heard_if (has (Some m.own.number) q) h s) _ (λ s. refl) (v.sessions q)))

resent_seen : {A : Type 0} (b flows : Bool) (h : ℕ) (s : Session A) → (b ≡ true → length s.up.got ≡ h) → seen_session (resent_if b flows s) ≡ record (seen_session s) { acked = if b then h else s.up.acked }
resent_seen false flows h s e = refl
resent_seen true flows h s e = ap (λ (n : ℕ). record (seen_session s) { acked = n }) (e refl)

read_resumed_seen : {A : Type 0} (k : ℕ) (v next : View A) → IsReadResumed k v next → LinkKept v → Told (ReadsResumed k) v next
read_resumed_seen {A = A} k v next m kept =
    let old = kept.conns k m.conn m.is in
    let r : Reads old.stage m.own.number m.h (tail_of m.conn.ending) (down_whole (left_down m.rest m.conn.wires)) = reads old.stage m.conn.ending m.own.number m.h (down_whole (left_down m.rest m.conn.wires)) (sym old.at.down ∙ left_down_whole (Resumed m.own.number m.h) m.rest m.conn.wires m.first) in
    let fits : FitsOwn v.own v.epoch v.sessions (Resumes m.own.number m.h r.downs) = subst (λ x. FitsOwn v.own v.epoch v.sessions x) r.is (old.fits (is_has v.here k m.here)) in
    let own = kept.own m.own m.is_own in
    let present = (fits.1 own.session own.is).0 in
    let low = (kept_reached own.session.up (kept.sessions m.own.number own.session own.is).up).acked in
    event_at (Tells (ReadsResumed k) v) v next _ (Learned m.own.number m.h) (m.h, sym (ap (λ o. option_map (λ p. Learned p m.h) (own_number o)) m.is_own)) m.gives (owned v m.own m.is_own, (seen_session own.session, ap seen_as own.is, (let l : own.session.up.acked ≤ m.h = omega arith in l), (let l : m.h ≤ length own.session.up.got = omega arith in l)))
    (same_seen _ _ refl (sym (owned v m.own m.is_own)) refl (λ q. seen_changed_at (λ s. resent_if (has (Some m.own.number) q) (is_flowing m.conn.wires) s) _ (v.sessions q)
    (λ s is. resent_seen (has (Some m.own.number) q) (is_flowing m.conn.wires) m.h s (λ e.
    let one : own.session ≡ s = some_one (v.sessions q) own.session s (subst (λ n. v.sessions n ≡ Some own.session) (some_same m.own.number q (has_is (Some m.own.number) q e)) own.is) is in
    ap (λ (x : Session A). length x.up.got) (sym one) ∙ sym present))))

-- the server's moves

resumed_here_seen : {A : Type 0} (k : ℕ) (v next : View A) → IsResumedHere k v next → Told (TakesResume k) v next
resumed_here_seen k v next m = unseen (Tells (TakesResume k) v) v next _ refl m.gives (sym (numbered v m.row m.is_row)) refl refl (λ q. seen_still (λ s. resumed_if (has (Some m.row.number) q) (is_flowing m.conn.wires) s) (λ s. refl) (v.sessions q))

resumed_late_seen : {A : Type 0} (k : ℕ) (v next : View A) → IsResumedLate k v next → Told (TakesLateResume k) v next
resumed_late_seen k v next m = unseen (Tells (TakesLateResume k) v) v next _ refl m.gives (sym (numbered v m.row m.is_row)) refl refl (λ q. seen_still (λ s. late_if (has (Some m.row.number) q) m.h s) (λ s. refl) (v.sessions q))

too_high_seen : {A : Type 0} (k : ℕ) (v next : View A) → IsTooHigh k v next → Told (TakesHighResume k) v next
too_high_seen k v next m = event_at (Tells (TakesHighResume k) v) v next _ (Ended m.row.number) (sym (ap (option_map Ended) (numbered v m.row m.is_row))) m.gives (numbered v m.row m.is_row) refl

one_more : {A : Type 0} (b : Bool) (o : Option (Session A)) → seen_as (if b then Some unread else o) ≡ (if b then Some new_session else seen_as o)
one_more false o = refl
one_more true o = refl

bound_seen : {A : Type 0} (k number : ℕ) (v next : View A) → IsBound k number v next → IsRising v → Told (TakesBind k number) v next
bound_seen {A = A} k number v next m rising = event_at (Tells (TakesBind k number) v) v next _ (events.Bound number) refl m.gives (ap row_number m.none, λ q t is. let w = seen_was (v.sessions q) t is in let g = rising.given q w.0 w.1 in let l = m.rises in omega arith) (same_seen _ _ refl refl refl (λ q. one_more (nat_eq number q) (v.sessions q)))

enabled_seen : {A : Type 0} (k : ℕ) (v next : View A) → IsEnabled k v next → LinkKept v → IsRising v → Told (TakesEnable k) v next
enabled_seen {A = A} k v next m kept rising =
    let old = kept.conns k m.conn m.is in
    let row = kept.row m.row m.is_row in
    let a : AsksEnabled old.stage (foot_of m.conn.footed) (up_whole (left_up m.rest m.conn.wires)) = asks_enabled old.stage m.conn.footed (up_whole (left_up m.rest m.conn.wires)) (sym old.at.up ∙ left_up_whole Enable m.rest m.conn.wires m.first) in
    let placed : (d : Conn A) × (v.conns k ≡ Some d) × (session_on d ≡ Some m.row.number) × (row.session.counted ≡ true → GoesUp d row.session) = subst (λ o. IsPlaced v.conns m.row row.session o) m.on row.placed in
    let held : session_on m.conn ≡ Some m.row.number = subst (λ x. session_on x ≡ Some m.row.number) (some_one (v.conns k) placed.0 m.conn placed.1 m.is) placed.2 in
    let number : a.m ≡ m.row.number = phase_session a.m m.row.number m.conn.ending m.conn.gone (ap (λ x. on_phase x m.conn.ending m.conn.gone) (sym (old.at.phase ∙ ap phase_of a.is)) ∙ held) in
    let asked : IsAsked v.sessions (AsksEnable m.row.number) = subst (λ s. IsAsked v.sessions s) (a.is ∙ ap (λ x. AsksEnable x) number) old.asked in
    let one : asked.0 ≡ row.session = some_one (v.sessions m.row.number) asked.0 row.session asked.2 row.is in
    let named : row.session.epoch ≡ Some asked.1 = subst (λ (x : Session A). x.epoch ≡ Some asked.1) one asked.3 in
    event_at (Tells (TakesEnable k) v) v next _ (Counted m.row.number) (sym (ap (option_map Counted) (numbered v m.row m.is_row))) m.gives (numbered v m.row m.is_row, (seen_session row.session, ap seen_as row.is, sym row.counted ∙ m.uncounted, named ∙ ap Some (rising.present m.row m.is_row row.session asked.1 row.is named)))
    (same_seen _ _ (sym (numbered v m.row m.is_row)) refl refl (λ q. seen_changed (λ s. enabled_if (has (Some m.row.number) q) (is_flowing m.conn.wires) s) _ (λ s. refl) (v.sessions q)))

handled_seen : {A : Type 0} (k : ℕ) (z : A) (v next : View A) → IsUpStanza k z v next → LinkKept v → IsRising v → Told (TakesStanza k z) v next
handled_seen {A = A} k z v next m kept rising =
    let o = on_row v k m.conn m.row m.is m.is_row m.on m.counted kept in
    let follows = next_of o.0.up z (up_stanzas m.rest) (kept.sessions m.row.number o.0 o.1.is).up (o.1.goes.way ∙ ap up_stanzas m.first) in
    event_at (Tells (TakesStanza k z) v) v next _ (Handled m.row.number z) (sym (ap (option_map (λ p. Handled p z)) (numbered v m.row m.is_row))) m.gives (numbered v m.row m.is_row, (seen_session o.0, follows.0, ap seen_as o.1.is, o.1.counted, of_present v m.row o.0 m.is_row o.1.is o.1.counted kept rising, follows.1))
    (same_seen _ _ (sym (numbered v m.row m.is_row)) refl refl (λ q. seen_changed (λ s. handled_if (has (Some m.row.number) q) z (up_stanzas m.rest) s) _ (λ s. refl) (v.sessions q)))

up_request_seen : {A : Type 0} (k : ℕ) (v next : View A) → IsUpRequest k v next → Told (TakesRequest k) v next
up_request_seen k v next m = unseen (Tells (TakesRequest k) v) v next _ refl m.gives refl refl refl (λ q. seen_still (λ s. stated_if (has (Some m.row.number) q) s) (λ s. refl) (v.sessions q))

up_count_seen : {A : Type 0} (k h : ℕ) (v next : View A) → IsUpCount k h v next → Told (TakesCount k h) v next
up_count_seen k h v next m = unseen (Tells (TakesCount k h) v) v next _ refl m.gives (sym (numbered v m.row m.is_row)) refl refl (λ q. seen_still (λ s. acked_if (has (Some m.row.number) q) h s) (λ s. refl) (v.sessions q))

parked_seen : {A : Type 0} (k : ℕ) (v next : View A) → IsParked k v next → Told (Parks k) v next
parked_seen k v next m = unseen (Tells (Parks k) v) v next _ refl m.gives (sym (numbered v m.row m.is_row)) refl refl (λ q. refl)

uncounted_gone_seen : {A : Type 0} (k : ℕ) (v next : View A) → IsUncountedGone k v next → Told (HearsEarly k) v next
uncounted_gone_seen k v next m = event_at (Tells (HearsEarly k) v) v next _ (Ended m.row.number) (sym (ap (option_map Ended) (numbered v m.row m.is_row))) m.gives (numbered v m.row m.is_row) refl

detached_seen : {A : Type 0} (k : ℕ) (ending : Ending) (v next : View A) → IsDetached k ending v next → Told (Detaches k ending) v next
detached_seen k ending v next m = unseen (Tells (Detaches k ending) v) v next _ refl m.gives (sym (numbered v m.row m.is_row)) refl refl (λ q. seen_still (λ s. lost_if (has (Some m.row.number) q) (s.counted && (has v.here k && has (carries m.conn) q)) s) (λ s. refl) (v.sessions q))

uncounted_shut_seen : {A : Type 0} (k : ℕ) (ending : Ending) (v next : View A) → IsUncountedShut k ending v next → Told (Shuts k ending) v next
uncounted_shut_seen k ending v next m = event_at (Tells (Shuts k ending) v) v next _ (Ended m.row.number) (sym (ap (option_map Ended) (numbered v m.row m.is_row))) m.gives (numbered v m.row m.is_row) refl

row_ended_seen : {A : Type 0} (v next : View A) → IsRowEnded v next → Told EndsRow v next
row_ended_seen v next m = event_at (Tells EndsRow v) v next _ (Ended m.row.number) (sym (ap (option_map Ended) (numbered v m.row m.is_row))) m.gives (numbered v m.row m.is_row) refl

server_put_seen : {A : Type 0} (k : ℕ) (z : A) (v next : View A) → IsServerPut k z v next → LinkKept v → IsRising v → Told (Serves k z) v next
server_put_seen k z v next m kept rising =
    let row = kept.row m.row m.is_row in
    event_at (Tells (Serves k z) v) v next _ (Served m.row.number z) (sym (ap (option_map (λ p. Served p z)) (numbered v m.row m.is_row))) m.gives (numbered v m.row m.is_row, (seen_session row.session, ap seen_as row.is, sym row.counted ∙ m.counted, of_present v m.row row.session m.is_row row.is (sym row.counted ∙ m.counted) kept rising))
    (same_seen _ _ (sym (numbered v m.row m.is_row)) refl refl (λ q. seen_changed (λ s. serving (has (Some m.row.number) q) z s) _ (λ s. refl) (v.sessions q)))

server_queued_seen : {A : Type 0} (z : A) (v next : View A) → IsServerQueued z v next → LinkKept v → IsRising v → Told (Keeps z) v next
server_queued_seen z v next m kept rising =
    let row = kept.row m.row m.is_row in
    event_at (Tells (Keeps z) v) v next _ (Served m.row.number z) (sym (ap (option_map (λ p. Served p z)) (numbered v m.row m.is_row))) m.gives (numbered v m.row m.is_row, (seen_session row.session, ap seen_as row.is, sym row.counted ∙ m.counted, of_present v m.row row.session m.is_row row.is (sym row.counted ∙ m.counted) kept rising))
    (same_seen _ _ (sym (numbered v m.row m.is_row)) refl refl (λ q. seen_changed (λ s. serving (has (Some m.row.number) q) z s) _ (λ s. refl) (v.sessions q)))

pub move_seen : {A : Type 0} (move : LinkMove A) (v next : View A) → LinkMoves move v next → LinkKept v → IsRising v → Told move v next
move_seen (Cuts k i j) v next m kept rising = cut_seen k i j v next m
move_seen (Dials k) v next m kept rising = dial_seen k v next m
move_seen (LetsGo k) v next m kept rising = let_go_seen k v next m
move_seen (Foots k) v next m kept rising = unseen (Tells (Foots k) v) v next _ refl m.gives refl refl refl (λ q. refl)
move_seen Forgets v next m kept rising = forgotten_seen v next m
move_seen (Puts k z) v next m kept rising = client_put_seen k z v next m
move_seen (Queues z) v next m kept rising = client_queued_seen z v next m
move_seen (Requests k) v next m kept rising = unseen (Tells (Requests k) v) v next _ refl m.gives refl refl refl (λ q. refl)
move_seen (ReadsHand k) v next m kept rising = unseen (Tells (ReadsHand k) v) v next _ refl m.gives refl refl refl (λ q. refl)
move_seen (AsksToResume k) v next m kept rising = ask_resume_seen k v next m
move_seen (AsksToBind k) v next m kept rising = unseen (Tells (AsksToBind k) v) v next _ refl m.gives refl refl refl (λ q. refl)
move_seen (ReadsFailed k) v next m kept rising = refused_seen k v next m kept
move_seen (ReadsResumed k) v next m kept rising = read_resumed_seen k v next m kept
move_seen (ReadsBound k n) v next m kept rising = named_seen k n v next m kept rising
move_seen (ReadsEnabled k n) v next m kept rising = known_seen k n v next m kept
move_seen (ReadsStanza k z) v next m kept rising = heard_seen k z v next m kept
move_seen (ReadsRequest k) v next m kept rising = down_request_seen k v next m
move_seen (ReadsCount k h) v next m kept rising = learned_seen k h v next m kept
move_seen (TakesHand k) v next m kept rising = unseen (Tells (TakesHand k) v) v next _ refl m.gives refl refl refl (λ q. refl)
move_seen (TakesResume k) v next m kept rising = resumed_here_seen k v next m
move_seen (TakesLateResume k) v next m kept rising = resumed_late_seen k v next m
move_seen (TakesStrangeResume k) v next m kept rising = unseen (Tells (TakesStrangeResume k) v) v next _ refl m.gives refl refl refl (λ q. refl)
move_seen (TakesHighResume k) v next m kept rising = too_high_seen k v next m
move_seen (TakesBind k n) v next m kept rising = bound_seen k n v next m rising
move_seen (TakesEnable k) v next m kept rising = enabled_seen k v next m kept rising
move_seen (TakesStanza k z) v next m kept rising = handled_seen k z v next m kept rising
move_seen (TakesRequest k) v next m kept rising = up_request_seen k v next m
move_seen (TakesCount k h) v next m kept rising = up_count_seen k h v next m
move_seen (TakesFoot k) v next m kept rising = unseen (Tells (TakesFoot k) v) v next _ refl m.gives refl refl refl (λ q. refl)
move_seen (Parks k) v next m kept rising = parked_seen k v next m
move_seen (Hears k) v next m kept rising = unseen (Tells (Hears k) v) v next _ refl m.gives refl refl refl (λ q. refl)
move_seen (HearsEarly k) v next m kept rising = uncounted_gone_seen k v next m
move_seen (Detaches k ending) v next m kept rising = detached_seen k ending v next m
move_seen (Shuts k ending) v next m kept rising = uncounted_shut_seen k ending v next m
move_seen EndsRow v next m kept rising = row_ended_seen v next m
move_seen (Serves k z) v next m kept rising = server_put_seen k z v next m kept rising
move_seen (Keeps z) v next m kept rising = server_queued_seen z v next m kept rising
move_seen (Demands k) v next m kept rising = unseen (Tells (Demands k) v) v next _ refl m.gives refl refl refl (λ q. refl)

with_event : {A : Type 0} (e : Option (LinkEvent A)) (s t last : Seen A) (es : List (LinkEvent A)) → IsSeenAs e s t → Follows es t last → (all : List (LinkEvent A)) × Follows all s last
with_event None s t last es same follows = (es, subst (λ x. Follows es x last) same follows)
with_event (Some e) s t last es (may, same) follows = (e ∷ es, (may, subst (λ x. Follows es x last) same follows))

seen_along : {A : Type 0} (moves : List (LinkMove A)) (v last : View A) → LinkKept v → IsRising v → LinkReaches moves v last → (es : List (LinkEvent A)) × Follows es (seen v) (seen last)
seen_along [] v last kept rising same = ([], ap seen same)
seen_along (move ∷ moves) v last kept rising (next, by, along) =
    let one = move_seen move v next by kept rising in
    let more = seen_along moves next last (move_keeps move v next by kept) (move_rises move v next by kept rising) along in
    with_event one.0 (seen v) (seen next) (seen last) more.0 one.2 more.1

pub run_seen : {A : Type 0} (v : View A) → LinkReached v → (es : List (LinkEvent A)) × Follows es (seen nothing_yet) (seen v)
run_seen v reached = seen_along reached.moves nothing_yet v beginning_keeps beginning_rises reached.reaches
