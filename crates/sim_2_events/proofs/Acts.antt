-- Runs of events, and what acts are made of.
use Rattle.std.proofs.Common.{◌≡◌, ℕ, true, false, List, [], ◌∷◌, length, take, refl, sym, ap, subst, append_assoc, Option, None, Some, nat_lt}
use Rattle.sim_2_links.proofs.Hands.{no_entry}
use Rattle.sim_2_links.proofs.Reached.{link_kept}
use Rattle.sim_2_links.proofs.Numbers.{reached_rises}
use Rattle.sim_2_links.proofs.Seen.{move_seen, run_seen}
use Rattle.sim_2_links.specs.Views.{View}
use Rattle.sim_2_links.specs.Events.{Seen, seen, LinkEvent, Bound, Named, Counted, Known, Ended, Dropped, Said, Handled, Served, Heard, Learned, IsSeenAs, Follows}
use Rattle.sim_2_links.specs.Events as links
use Rattle.sim_2_links.specs.Machine.{LinkMove, LinkMoves, nothing_yet, LinkReached}
use Rattle.sim_2_links.specs.Telling.{Tells}
use Rattle.sim_1_applications.specs.Stanzas.{Up, Down}
use Rattle.sim_1_applications.specs.Stanzas.Up.{Carbons, Presence}
use Rattle.sim_1_applications.specs.Devices.{Sessions}
use Rattle.sim_1_applications.specs.Events.{goes_online, put_up, put_down, give, end_row, flagged}
use Rattle.sim_2_events.proofs.Events.{Leads, bound_leads, named_leads, counted_leads, known_leads, ended_leads, dropped_leads, said_leads, handled_leads, served_leads, heard_leads, learned_leads}
use Rattle.sim_2_events.specs.Lists.{Stanzas, IsDevice, no_sessions, knows}
use Rattle.sim_2_events.specs.Acts.{AreActs, ActsLead}

event_leads : {A : Type 0} (r : Stanzas A) (e : LinkEvent A) (v : Seen A) (d : Sessions) → links.May e v → IsDevice r v d → Leads r e v d
event_leads r (Bound m) v d may a = bound_leads r v d m may a
event_leads r (Named m) v d may a = named_leads r v d m may a
event_leads r (Counted p) v d may a = counted_leads r v d p may a
event_leads r (Known p) v d may a = known_leads r v d p may a
event_leads r (Ended p) v d may a = ended_leads r v d p may a
event_leads r (Dropped p) v d may a = dropped_leads r v d p may a
event_leads r (Said p z) v d may a = said_leads r v d p z may a
event_leads r (Handled p z) v d may a = handled_leads r v d p z may a
event_leads r (Served p z) v d may a = served_leads r v d p z may a
event_leads r (Heard p z) v d may a = heard_leads r v d p z may a
event_leads r (Learned p n) v d may a = learned_leads r v d p n may a

pub begins : {A : Type 0} (r : Stanzas A) → IsDevice r (seen {A = A} nothing_yet) no_sessions
begins r = record {
  epoch = refl;
  now = λ q t found e. no_entry t found;
  past = λ q e t found is low. no_entry t found;
  below = λ q e t found is. no_entry t found;
  once = λ q p e t u found there is_t is_u. no_entry t found;
  unread = λ q t found none. no_entry t found;
  newest = λ p q t live found. no_entry p live;
  row = refl;
  online = refl;
}

seen_leads : {A : Type 0} (r : Stanzas A) (e : Option (LinkEvent A)) (v next : Seen A) (d : Sessions) → IsSeenAs e v next → IsDevice r v d → (after : Sessions) × AreActs r e v d after × IsDevice r next after
seen_leads r None v next d same a = (d, refl, subst (λ s. IsDevice r s d) (sym same) a)
seen_leads r (Some e) v next d (may, same) a = let l = event_leads r e v d may a in (l.0, l.1, subst (λ s. IsDevice r s l.0) (sym same) l.2)

pub move_leads : {A : Type 0} (r : Stanzas A) (move : LinkMove A) (v next : View A) (d : Sessions) → LinkReached v → LinkMoves move v next → IsDevice r (seen v) d →
    (e : Option (LinkEvent A)) × Tells move v e × IsSeenAs e (seen v) (seen next) × ((after : Sessions) × AreActs r e (seen v) d after × IsDevice r (seen next) after)
move_leads r move v next d reached by a = let s = move_seen move v next by (link_kept v reached) (reached_rises v reached) in (s.0, s.1, s.2, seen_leads r s.0 (seen v) (seen next) d s.2 a)

follow : {A : Type 0} (r : Stanzas A) (es : List (LinkEvent A)) (v last : Seen A) (d : Sessions) → Follows es v last → IsDevice r v d → (after : Sessions) × ActsLead r es v d after × IsDevice r last after
follow r [] v last d same a = (d, refl, subst (λ s. IsDevice r s d) (sym same) a)
follow r (e ∷ es) v last d (may, along) a =
    let l = event_leads r e v d may a in
    let f = follow r es (links.after e v) last l.0 along l.2 in
    (f.0, (l.0, l.1, f.1), f.2)

pub reached_leads : {A : Type 0} (r : Stanzas A) (v : View A) → LinkReached v → (es : List (LinkEvent A)) × Follows es (seen nothing_yet) (seen v) × ((d : Sessions) × ActsLead r es (seen nothing_yet) no_sessions d × IsDevice r (seen v) d)
reached_leads r v reached = let s = run_seen v reached in (s.0, s.1, follow r s.0 (seen nothing_yet) (seen v) no_sessions s.1 (begins r))

-- what acts are made of

pub first_two : (d : Sessions) → goes_online d ≡ put_up Presence (put_up Carbons (knows d))
first_two d = ap (λ l. record (knows d) { now = record (knows d).now { up_rest = l } }) (sym (append_assoc d.now.up_rest (Carbons ∷ []) (Presence ∷ [])))

pub one_by_one : (z : Down) (zs : List Down) (d : Sessions) → put_down (z ∷ zs) d ≡ put_down zs (put_down (z ∷ []) d)
one_by_one z zs d = ap (λ l. record d { now = record d.now { down_rest = l } }) (sym (append_assoc d.now.down_rest (z ∷ []) zs))

pub ends_where_full : (fits : ℕ) (zs : List Down) (d : Sessions) → nat_lt fits (length zs) ≡ true → give fits zs d ≡ end_row (put_down (take fits zs) d)
ends_where_full fits zs d full = rw full refl

pub stays_where_not : (fits : ℕ) (zs : List Down) (d : Sessions) → nat_lt fits (length zs) ≡ false → give fits zs d ≡ put_down (take fits zs) d
stays_where_not fits zs d room = rw room refl

pub flags_unseen : {A : Type 0} (r : Stanzas A) (v : Seen A) (d : Sessions) (z : Up) (n : ℕ) → IsDevice r v d → IsDevice r v (record (flagged z d) { n = n })
flags_unseen r v d z n a = record {
  epoch = a.epoch;
  now = λ q t found e. let s = a.now q t found e in record { stage = s.stage; heard = s.heard; up_put = s.up_put; up_got = s.up_got; acked = s.acked; down_put = s.down_put; down_got = s.down_got };
  past = a.past;
  below = a.below;
  once = a.once;
  unread = a.unread;
  newest = a.newest;
  row = a.row;
  online = a.online;
}
