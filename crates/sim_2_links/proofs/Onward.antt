-- Moves of a device move each of its sessions by moves of acknowledged delivery.
use Rattle.std.proofs.Common.{◌≡◌, ◌≢◌, ℕ, ◌+◌, ◌≤◌, Bool, true, false, ◌&&◌, if◌then◌else◌, List, [], ◌∷◌, ◌++◌, length, take, drop, refl, sym, ap, ◌∙◌, subst, arith, None, Some}
use Rattle.std.proofs.lemmas.List.{take_all}
use Rattle.std.proofs.lemmas.Option.{none-some}
use Rattle.std.specs.List.{Contains}
use Rattle.sm_acks.specs.Delivery.{Acknowledge, beginning, Cut, Direction, Handle, Move, Moves, Put, Reaches, Resume, State}
use Rattle.sim_2_links.proofs.CutLinks.{some_one}
use Rattle.sim_2_links.proofs.Entries.{altered, at_other, is_has}
use Rattle.sim_2_links.proofs.Heard.{in_own, same_session, OwnIn, DownCounted}
use Rattle.sim_2_links.proofs.Late.{late_if}
use Rattle.sim_2_links.proofs.Reached.{link_kept, move_keeps}
use Rattle.sim_2_links.proofs.ReadBound.{at_bound}
use Rattle.sim_2_links.proofs.Resumption.{AsksFirst, asks_first}
use Rattle.sim_2_links.proofs.Served.{on_row, RowOn, UpCounted}
use Rattle.sim_2_links.proofs.Tables.{left_down_whole}
use Rattle.sim_2_links.specs.Words.{Bound, up_stanzas, down_stanzas}
use Rattle.sim_2_links.specs.Wires.{down_whole, is_flowing, left_down}
use Rattle.sim_2_links.specs.Stages.{AsksResume, Binds, Ending}
use Rattle.sim_2_links.specs.Views.{Session, Table, View, alter, carries, cut_if, has}
use Rattle.sim_2_links.specs.LinkMoves.{IsCut, IsDownCount, IsDownRequest, IsDownStanza, IsUpCount, IsUpRequest, IsUpStanza, acked_if, handled_if, heard_if, read_if, stated_if, told_if, ways_cut}
use Rattle.sim_2_links.specs.SessionMoves.{IsAskResume, IsBound, IsClientPut, IsDetached, IsEnabled, IsReadBound, IsReadEnabled, IsReadResumed, IsResumedHere, IsResumedLate, lost_if, put_if, resumed_if, unread}
use Rattle.sim_2_links.specs.PutMoves.{IsClientQueued, IsServerPut, IsServerQueued}
use Rattle.sim_2_links.specs.Links.{ConnKept, DownCounts, FitsOwn, IsAsked, LinkKept, RowKept, UpCounts}
use Rattle.sim_2_links.specs.Machine.{AsksToBind, AsksToResume, Cuts, Demands, Detaches, Dials, EndsRow, Foots, Forgets, Hears, HearsEarly, Keeps, LetsGo, LinkMove, LinkMoves, LinkReached, LinkReaches, Parks, Puts, Queues, ReadsBound, ReadsCount, ReadsEnabled, ReadsFailed, ReadsHand, ReadsRequest, ReadsResumed, ReadsStanza, Requests, Serves, Shuts, TakesBind, TakesCount, TakesEnable, TakesFoot, TakesHand, TakesHighResume, TakesLateResume, TakesRequest, TakesResume, TakesStanza, TakesStrangeResume}
use Rattle.sim_2_links.specs.Onward.{AreOnward, Delivers, IsOnward}

-- ---- a direction

pub rests : {A : Type 0} (d : Direction A) → Delivers d d
rests d = record { moves = []; reaches = refl }

one : {A : Type 0} (move : Move A) (d next : Direction A) → Moves move d next → Delivers d next
one move d next made = record { moves = move ∷ []; reaches = (next, made, refl) }

two : {A : Type 0} (first second : Move A) (d mid next : Direction A) → Moves first d mid → Moves second mid next → Delivers d next
two first second d mid next made more = record { moves = first ∷ second ∷ []; reaches = (mid, made, (next, more, refl)) }

reaches_both : {A : Type 0} (first second : List (Move A)) (d mid last : Direction A) → Reaches first d mid → Reaches second mid last → Reaches (first ++ second) d last
reaches_both [] second d mid last is more = subst (λ x. Reaches second x last) is more
reaches_both (move ∷ first) second d mid last (next, made, along) more = (next, made, reaches_both first second next mid last along more)

pub delivers_both : {A : Type 0} (d mid last : Direction A) → Delivers d mid → Delivers mid last → Delivers d last
delivers_both d mid last a b = record { moves = a.moves ++ b.moves; reaches = reaches_both a.moves b.moves d mid last a.reaches b.reaches }

cut_on : {A : Type 0} (b : Bool) (n : ℕ) (d : Direction A) → Delivers d (cut_if b n d)
cut_on false n d = rests d
cut_on true n d = one (Cut n) d (cut_if true n d) refl

-- closed, with all that is under way
closed_on : {A : Type 0} (b : Bool) (d : Direction A) → Delivers d (record d { is_open = if b then false else d.is_open })
closed_on false d = rests d
closed_on true d = one (Cut (length d.way)) d (record d { is_open = false }) (ap (λ l. record d { way = l; is_open = false }) (sym (take_all (length d.way) d.way (omega arith))))

put_on : {A : Type 0} (b : Bool) (z : A) (d : Direction A) → Delivers d (put_if b z d)
put_on false z d = rests d
put_on true z d = one (Put z) d (put_if true z d) refl

opened_on : {A : Type 0} (flows : Bool) (d : Direction A) → d ≡ beginning → Delivers d (record d { is_open = flows })
opened_on true d is = subst (λ x. Delivers x (record x { is_open = true })) (sym is) (rests beginning)
opened_on false d is = one (Cut 0) d (record d { is_open = false }) (subst (λ x. record x { is_open = false } ≡ record x { way = take 0 x.way; is_open = false }) (sym is) refl)

-- ---- a session

pub still : {A : Type 0} (s : Session A) → IsOnward s s
still s = record { up = rests s.up; down = rests s.down; epoch = λ e is. is }

pub onward_both : {A : Type 0} (s t u : Session A) → IsOnward s t → IsOnward t u → IsOnward s u
onward_both s t u a b = record {
  up = delivers_both s.up t.up u.up a.up b.up;
  down = delivers_both s.down t.down u.down a.down b.down;
  epoch = λ e is. b.epoch e (a.epoch e is);
}

told_on : {A : Type 0} (b : Bool) (s : Session A) → IsOnward s (told_if b s)
told_on false s = still s
told_on true s = record { up = rests s.up; down = one State s.down (record s.down { stated = s.down.stated ++ length s.down.got ∷ [] }) refl; epoch = λ e is. is }

stated_on : {A : Type 0} (b : Bool) (s : Session A) → IsOnward s (stated_if b s)
stated_on false s = still s
stated_on true s = record { up = one State s.up (record s.up { stated = s.up.stated ++ length s.up.got ∷ [] }) refl; down = rests s.down; epoch = λ e is. is }

handled_on : {A : Type 0} (b : Bool) (z : A) (ways : List A) (s : Session A) → (b ≡ true → s.up.way ≡ z ∷ ways) → IsOnward s (handled_if b z ways s)
handled_on false z ways s first = still s
handled_on true z ways s first = record { up = one Handle s.up (record s.up { got = s.up.got ++ z ∷ []; way = ways }) (z, ways, first refl, refl); down = rests s.down; epoch = λ e is. is }

read_on : {A : Type 0} (b : Bool) (z : A) (ways : List A) (s : Session A) → (b ≡ true → s.down.way ≡ z ∷ ways) → IsOnward s (read_if b z ways s)
read_on false z ways s first = still s
read_on true z ways s first = record { up = rests s.up; down = one Handle s.down (record s.down { got = s.down.got ++ z ∷ []; way = ways }) (z, ways, first refl, refl); epoch = λ e is. is }

acked_on : {A : Type 0} (b : Bool) (h : ℕ) (s : Session A) → (b ≡ true → Contains s.down.stated h × (s.down.acked ≤ h)) → IsOnward s (acked_if b h s)
acked_on false h s good = still s
acked_on true h s good = record { up = rests s.up; down = one (Acknowledge h) s.down (record s.down { acked = h }) ((good refl).0, (good refl).1, refl); epoch = λ e is. is }

heard_on : {A : Type 0} (b : Bool) (h : ℕ) (s : Session A) → (b ≡ true → Contains s.up.stated h × (s.up.acked ≤ h)) → IsOnward s (heard_if b h s)
heard_on false h s good = still s
heard_on true h s good = record { up = one (Acknowledge h) s.up (record s.up { acked = h }) ((good refl).0, (good refl).1, refl); down = rests s.down; epoch = λ e is. is }

late_on : {A : Type 0} (b : Bool) (h : ℕ) (s : Session A) → (b ≡ true → Contains s.down.stated h × (s.down.acked ≤ h)) → IsOnward s (late_if b h s)
late_on false h s good = still s
late_on true h s good = record {
  up = one State s.up (record s.up { stated = s.up.stated ++ length s.up.got ∷ [] }) refl;
  down = one (Acknowledge h) s.down (record s.down { acked = h }) ((good refl).0, (good refl).1, refl);
  epoch = λ e is. is;
}

-- what waits is sent again, where the connection flows
again_on : {A : Type 0} (flows : Bool) (d : Direction A) → Delivers d (record d { acked = length d.got; way = if flows then drop (length d.got) d.put else []; is_open = flows })
again_on true d = one Resume d (record d { acked = length d.got; way = drop (length d.got) d.put; is_open = true }) refl
again_on false d =
    two Resume (Cut 0) d (record d { acked = length d.got; way = drop (length d.got) d.put; is_open = true }) (record d { acked = length d.got; way = []; is_open = false }) refl refl

resumed_on : {A : Type 0} (b flows : Bool) (s : Session A) → IsOnward s (resumed_if b flows s)
resumed_on false flows s = still s
resumed_on true flows s = record { up = one State s.up (record s.up { stated = s.up.stated ++ length s.up.got ∷ [] }) refl; down = again_on flows s.down; epoch = λ e is. is }

abbrev resent_if : {A : Type 0} → Bool → Bool → Session A → Session A
resent_if b flows s = record s {
  up = record s.up {
    acked = if b then length s.up.got else s.up.acked;
    way = if b then (if flows then drop (length s.up.got) s.up.put else []) else s.up.way;
    is_open = if b then flows else s.up.is_open;
  };
}

resent_on : {A : Type 0} (b flows : Bool) (s : Session A) → IsOnward s (resent_if b flows s)
resent_on false flows s = still s
resent_on true flows s = record { up = again_on flows s.up; down = rests s.down; epoch = λ e is. is }

abbrev enabled_if : {A : Type 0} → Bool → Bool → Session A → Session A
enabled_if b flows s = record s {
  counted = if b then true else s.counted;
  up = record s.up { is_open = if b then flows else s.up.is_open };
  down = record s.down { is_open = if b then flows else s.down.is_open };
}

enabled_on : {A : Type 0} (b flows : Bool) (s : Session A) → (b ≡ true → (s.up ≡ beginning) × (s.down ≡ beginning)) → IsOnward s (enabled_if b flows s)
enabled_on false flows s begun = still s
enabled_on true flows s begun = record { up = opened_on flows s.up (begun refl).0; down = opened_on flows s.down (begun refl).1; epoch = λ e is. is }

named_on : {A : Type 0} (b : Bool) (now : ℕ) (s : Session A) → (b ≡ true → s.epoch ≡ None) → IsOnward s (record s { epoch = if b then Some now else s.epoch })
named_on false now s none = still s
named_on true now s none = record { up = rests s.up; down = rests s.down; epoch = λ e is. absurd (none-some e (sym (none refl) ∙ is)) }

-- ---- tables

unchanged : {A : Type 0} (v next : View A) → ((p : ℕ) → next.sessions p ≡ v.sessions p) → AreOnward v.sessions next.sessions
unchanged v next same p s is = (s, same p ∙ is, still s)

changed_by : {A : Type 0} (v next : View A) (f : ℕ → Session A → Session A) → ((p : ℕ) → next.sessions p ≡ alter f v.sessions p) → ((p : ℕ) (s : Session A) → v.sessions p ≡ Some s → IsOnward s (f p s)) → AreOnward v.sessions next.sessions
changed_by v next f same goes p s is = (f p s, same p ∙ altered f v.sessions p s is, goes p s is)

-- ---- moves

cut_goes : {A : Type 0} (k i j : ℕ) (v next : View A) → IsCut k i j v next → AreOnward v.sessions next.sessions
cut_goes {A = A} k i j v next m = changed_by v next (ways_cut (has v.here k) m.conn i j) (λ p. ap (λ (w : View A). w.sessions p) m.gives)
    (λ p s is. record { up = cut_on _ _ s.up; down = cut_on _ _ s.down; epoch = λ e at. at })

ask_resume_goes : {A : Type 0} (k : ℕ) (v next : View A) → IsAskResume k v next → AreOnward v.sessions next.sessions
ask_resume_goes {A = A} k v next m = changed_by v next (λ q s. told_if (has (Some m.own.number) q) s) (λ p. ap (λ (w : View A). w.sessions p) m.gives) (λ p s is. told_on (has (Some m.own.number) p) s)

detached_goes : {A : Type 0} (k : ℕ) (ending : Ending) (v next : View A) → IsDetached k ending v next → AreOnward v.sessions next.sessions
detached_goes {A = A} k ending v next m =
    changed_by v next (λ q s. lost_if (has (Some m.row.number) q) (s.counted && (has v.here k && has (carries m.conn) q)) s) (λ p. ap (λ (w : View A). w.sessions p) m.gives)
    (λ p s is. record { up = cut_on (has (Some m.row.number) p) 0 s.up; down = closed_on (s.counted && (has v.here k && has (carries m.conn) p)) s.down; epoch = λ e at. at })

bound_goes : {A : Type 0} (k n : ℕ) (v next : View A) → IsBound k n v next → AreOnward v.sessions next.sessions
bound_goes {A = A} k n v next m p s is = (s, ap (λ (w : View A). w.sessions p) m.gives ∙ at_other n unread v.sessions p apart ∙ is, still s)
  where
    apart : n ≢ p
    apart same = none-some s (sym (subst (λ x. v.sessions x ≡ None) same m.fresh) ∙ is)

read_bound_goes : {A : Type 0} (k n : ℕ) (v next : View A) → IsReadBound k n v next → LinkKept v → AreOnward v.sessions next.sessions
read_bound_goes {A = A} k n v next m kept =
    changed_by v next (λ q s. record s { epoch = if has (Some n) q then Some (v.epoch + 1) else s.epoch }) (λ p. ap (λ (w : View A). w.sessions p) m.gives)
    (λ p s is. named_on (has (Some n) p) (v.epoch + 1) s (λ e. ap (λ (x : Session A). x.epoch) (sym (same_session v n p fits.1.0 s fits.1.1 e is)) ∙ fits.1.2))
  where
    old : ConnKept v k m.conn
    old = kept.conns k m.conn m.is

    is_binds : old.stage ≡ Binds n
    is_binds = at_bound old.stage m.conn.ending n (down_whole (left_down m.rest m.conn.wires)) (sym old.at.client ∙ m.client) (sym old.at.down ∙ left_down_whole (Bound n) m.rest m.conn.wires m.first)

    fits : FitsOwn v.own v.epoch v.sessions (Binds n)
    fits = subst (λ x. FitsOwn v.own v.epoch v.sessions x) is_binds (old.fits (is_has v.here k m.here))

enabled_goes : {A : Type 0} (k : ℕ) (v next : View A) → IsEnabled k v next → LinkKept v → AreOnward v.sessions next.sessions
enabled_goes {A = A} k v next m kept =
    changed_by v next (λ q s. enabled_if (has (Some m.row.number) q) (is_flowing m.conn.wires) s) (λ p. ap (λ (w : View A). w.sessions p) m.gives)
    (λ p s is. enabled_on (has (Some m.row.number) p) (is_flowing m.conn.wires) s (λ e. subst (λ (x : Session A). (x.up ≡ beginning) × (x.down ≡ beginning)) (same_session v m.row.number p row.session s row.is e is) ((kept.sessions m.row.number row.session row.is).begun (sym row.counted ∙ m.uncounted))))
  where
    row : RowKept v.conns v.sessions m.row
    row = kept.row m.row m.is_row

read_enabled_goes : {A : Type 0} (k n : ℕ) (v next : View A) → IsReadEnabled k n v next → AreOnward v.sessions next.sessions
read_enabled_goes {A = A} k n v next m = changed_by v next (λ q s. record s { read = if has (Some n) q then true else s.read }) (λ p. ap (λ (w : View A). w.sessions p) m.gives)
    (λ p s is. record { up = rests s.up; down = rests s.down; epoch = λ e at. at })

client_put_goes : {A : Type 0} (k : ℕ) (z : A) (v next : View A) → IsClientPut k z v next → AreOnward v.sessions next.sessions
client_put_goes {A = A} k z v next m = changed_by v next (λ q s. record s { up = put_if (has (Some m.own.number) q) z s.up }) (λ p. ap (λ (w : View A). w.sessions p) m.gives)
    (λ p s is. record { up = put_on (has (Some m.own.number) p) z s.up; down = rests s.down; epoch = λ e at. at })

client_queued_goes : {A : Type 0} (z : A) (v next : View A) → IsClientQueued z v next → AreOnward v.sessions next.sessions
client_queued_goes {A = A} z v next m = changed_by v next (λ q s. record s { up = put_if (has (Some m.own.number) q) z s.up }) (λ p. ap (λ (w : View A). w.sessions p) m.gives)
    (λ p s is. record { up = put_on (has (Some m.own.number) p) z s.up; down = rests s.down; epoch = λ e at. at })

server_put_goes : {A : Type 0} (k : ℕ) (z : A) (v next : View A) → IsServerPut k z v next → AreOnward v.sessions next.sessions
server_put_goes {A = A} k z v next m = changed_by v next (λ q s. record s { down = put_if (has (Some m.row.number) q) z s.down }) (λ p. ap (λ (w : View A). w.sessions p) m.gives)
    (λ p s is. record { up = rests s.up; down = put_on (has (Some m.row.number) p) z s.down; epoch = λ e at. at })

server_queued_goes : {A : Type 0} (z : A) (v next : View A) → IsServerQueued z v next → AreOnward v.sessions next.sessions
server_queued_goes {A = A} z v next m = changed_by v next (λ q s. record s { down = put_if (has (Some m.row.number) q) z s.down }) (λ p. ap (λ (w : View A). w.sessions p) m.gives)
    (λ p s is. record { up = rests s.up; down = put_on (has (Some m.row.number) p) z s.down; epoch = λ e at. at })

up_stanza_goes : {A : Type 0} (k : ℕ) (z : A) (v next : View A) → IsUpStanza k z v next → LinkKept v → AreOnward v.sessions next.sessions
up_stanza_goes {A = A} k z v next m kept =
    changed_by v next (λ q s. handled_if (has (Some m.row.number) q) z (up_stanzas m.rest) s) (λ p. ap (λ (w : View A). w.sessions p) m.gives)
    (λ p s is. handled_on (has (Some m.row.number) p) z (up_stanzas m.rest) s (λ e. subst (λ (x : Session A). x.up.way ≡ z ∷ up_stanzas m.rest) (same_session v m.row.number p on.0 s on.1.is e is) (on.1.goes.way ∙ ap up_stanzas m.first)))
  where
    on : RowOn v k m.conn m.row
    on = on_row v k m.conn m.row m.is m.is_row m.on m.counted kept

up_request_goes : {A : Type 0} (k : ℕ) (v next : View A) → IsUpRequest k v next → AreOnward v.sessions next.sessions
up_request_goes {A = A} k v next m = changed_by v next (λ q s. stated_if (has (Some m.row.number) q) s) (λ p. ap (λ (w : View A). w.sessions p) m.gives) (λ p s is. stated_on (has (Some m.row.number) p) s)

up_count_goes : {A : Type 0} (k h : ℕ) (v next : View A) → IsUpCount k h v next → LinkKept v → AreOnward v.sessions next.sessions
up_count_goes {A = A} k h v next m kept =
    changed_by v next (λ q s. acked_if (has (Some m.row.number) q) h s) (λ p. ap (λ (w : View A). w.sessions p) m.gives)
    (λ p s is. acked_on (has (Some m.row.number) p) h s (λ e. subst (λ (x : Session A). Contains x.down.stated h × (x.down.acked ≤ h)) (same_session v m.row.number p on.0 s on.1.is e is) (counts.1, counts.0)))
  where
    on : RowOn v k m.conn m.row
    on = on_row v k m.conn m.row m.is m.is_row m.on m.counted kept

    counts : UpCounted h on.0 m.rest
    counts = subst (λ ws. UpCounts on.0.down.acked on.0.down.stated ws) m.first on.1.goes.counts

down_stanza_goes : {A : Type 0} (k : ℕ) (z : A) (v next : View A) → IsDownStanza k z v next → LinkKept v → AreOnward v.sessions next.sessions
down_stanza_goes {A = A} k z v next m kept =
    changed_by v next (λ q s. read_if (has (Some m.own.number) q) z (down_stanzas m.rest) s) (λ p. ap (λ (w : View A). w.sessions p) m.gives)
    (λ p s is. read_on (has (Some m.own.number) p) z (down_stanzas m.rest) s (λ e. subst (λ (x : Session A). x.down.way ≡ z ∷ down_stanzas m.rest) (same_session v m.own.number p on.0 s on.1.is e is) (on.1.goes.way ∙ ap down_stanzas m.first)))
  where
    on : OwnIn v m.conn m.own
    on = in_own v k m.conn m.own m.is m.here m.is_own m.client kept

down_request_goes : {A : Type 0} (k : ℕ) (v next : View A) → IsDownRequest k v next → AreOnward v.sessions next.sessions
down_request_goes {A = A} k v next m = changed_by v next (λ q s. told_if (has (Some m.own.number) q) s) (λ p. ap (λ (w : View A). w.sessions p) m.gives) (λ p s is. told_on (has (Some m.own.number) p) s)

down_count_goes : {A : Type 0} (k h : ℕ) (v next : View A) → IsDownCount k h v next → LinkKept v → AreOnward v.sessions next.sessions
down_count_goes {A = A} k h v next m kept =
    changed_by v next (λ q s. heard_if (has (Some m.own.number) q) h s) (λ p. ap (λ (w : View A). w.sessions p) m.gives)
    (λ p s is. heard_on (has (Some m.own.number) p) h s (λ e. subst (λ (x : Session A). Contains x.up.stated h × (x.up.acked ≤ h)) (same_session v m.own.number p on.0 s on.1.is e is) (counts.1, counts.0)))
  where
    on : OwnIn v m.conn m.own
    on = in_own v k m.conn m.own m.is m.here m.is_own m.client kept

    counts : DownCounted h on.0 m.rest
    counts = subst (λ ws. DownCounts on.0.up.acked on.0.up.stated ws) m.first on.1.goes.counts

resumed_here_goes : {A : Type 0} (k : ℕ) (v next : View A) → IsResumedHere k v next → AreOnward v.sessions next.sessions
resumed_here_goes {A = A} k v next m = changed_by v next (λ q s. resumed_if (has (Some m.row.number) q) (is_flowing m.conn.wires) s) (λ p. ap (λ (w : View A). w.sessions p) m.gives) (λ p s is. resumed_on (has (Some m.row.number) p) (is_flowing m.conn.wires) s)

resumed_late_goes : {A : Type 0} (k : ℕ) (v next : View A) → IsResumedLate k v next → LinkKept v → AreOnward v.sessions next.sessions
resumed_late_goes {A = A} k v next m kept =
    changed_by v next (λ q s. late_if (has (Some m.row.number) q) m.h s) (λ p. ap (λ (w : View A). w.sessions p) m.gives)
    (λ p s is. late_on (has (Some m.row.number) p) m.h s (λ e. subst (λ (x : Session A). Contains x.down.stated m.h × (x.down.acked ≤ m.h)) (same_session v m.row.number p row.session s row.is e is) (stated, low)))
  where
    old : ConnKept v k m.conn
    old = kept.conns k m.conn m.is

    row : RowKept v.conns v.sessions m.row
    row = kept.row m.row m.is_row

    asking : AsksFirst old.stage m.conn m.row.number m.h m.rest
    asking = asks_first old.stage m.conn m.row.number m.h m.rest old.at m.first

    asked : IsAsked v.sessions (AsksResume m.row.number m.h)
    asked = subst (λ s. IsAsked v.sessions s) asking.is old.asked

    stated : Contains row.session.down.stated m.h
    stated = subst (λ (x : Session A). Contains x.down.stated m.h) (some_one (v.sessions m.row.number) asked.0 row.session asked.1 row.is) asked.3

    low : row.session.down.acked ≤ m.h
    low = let a = row.acked in let l = m.low in omega arith

read_resumed_goes : {A : Type 0} (k : ℕ) (v next : View A) → IsReadResumed k v next → AreOnward v.sessions next.sessions
read_resumed_goes {A = A} k v next m = changed_by v next (λ q s. resent_if (has (Some m.own.number) q) (is_flowing m.conn.wires) s) (λ p. ap (λ (w : View A). w.sessions p) m.gives) (λ p s is. resent_on (has (Some m.own.number) p) (is_flowing m.conn.wires) s)

-- ---- each move

pub move_goes : {A : Type 0} (move : LinkMove A) (v next : View A) → LinkMoves move v next → LinkKept v → AreOnward v.sessions next.sessions
move_goes (Cuts k i j) v next m kept = cut_goes k i j v next m
move_goes {A = A} (Dials k) v next m kept = unchanged v next (λ p. ap (λ (w : View A). w.sessions p) m.gives)
move_goes {A = A} (LetsGo k) v next m kept = unchanged v next (λ p. ap (λ (w : View A). w.sessions p) m.gives)
move_goes {A = A} (Foots k) v next m kept = unchanged v next (λ p. ap (λ (w : View A). w.sessions p) m.gives)
move_goes {A = A} Forgets v next m kept = unchanged v next (λ p. ap (λ (w : View A). w.sessions p) m.gives)
move_goes (Puts k z) v next m kept = client_put_goes k z v next m
move_goes (Queues z) v next m kept = client_queued_goes z v next m
move_goes {A = A} (Requests k) v next m kept = unchanged v next (λ p. ap (λ (w : View A). w.sessions p) m.gives)
move_goes {A = A} (ReadsHand k) v next m kept = unchanged v next (λ p. ap (λ (w : View A). w.sessions p) m.gives)
move_goes (AsksToResume k) v next m kept = ask_resume_goes k v next m
move_goes {A = A} (AsksToBind k) v next m kept = unchanged v next (λ p. ap (λ (w : View A). w.sessions p) m.gives)
move_goes {A = A} (ReadsFailed k) v next m kept = unchanged v next (λ p. ap (λ (w : View A). w.sessions p) m.gives)
move_goes (ReadsResumed k) v next m kept = read_resumed_goes k v next m
move_goes (ReadsBound k n) v next m kept = read_bound_goes k n v next m kept
move_goes (ReadsEnabled k n) v next m kept = read_enabled_goes k n v next m
move_goes (ReadsStanza k z) v next m kept = down_stanza_goes k z v next m kept
move_goes (ReadsRequest k) v next m kept = down_request_goes k v next m
move_goes (ReadsCount k h) v next m kept = down_count_goes k h v next m kept
move_goes {A = A} (TakesHand k) v next m kept = unchanged v next (λ p. ap (λ (w : View A). w.sessions p) m.gives)
move_goes (TakesResume k) v next m kept = resumed_here_goes k v next m
move_goes (TakesLateResume k) v next m kept = resumed_late_goes k v next m kept
move_goes {A = A} (TakesStrangeResume k) v next m kept = unchanged v next (λ p. ap (λ (w : View A). w.sessions p) m.gives)
move_goes {A = A} (TakesHighResume k) v next m kept = unchanged v next (λ p. ap (λ (w : View A). w.sessions p) m.gives)
move_goes (TakesBind k n) v next m kept = bound_goes k n v next m
move_goes (TakesEnable k) v next m kept = enabled_goes k v next m kept
move_goes (TakesStanza k z) v next m kept = up_stanza_goes k z v next m kept
move_goes (TakesRequest k) v next m kept = up_request_goes k v next m
move_goes (TakesCount k h) v next m kept = up_count_goes k h v next m kept
move_goes {A = A} (TakesFoot k) v next m kept = unchanged v next (λ p. ap (λ (w : View A). w.sessions p) m.gives)
move_goes {A = A} (Parks k) v next m kept = unchanged v next (λ p. ap (λ (w : View A). w.sessions p) m.gives)
move_goes {A = A} (Hears k) v next m kept = unchanged v next (λ p. ap (λ (w : View A). w.sessions p) m.gives)
move_goes {A = A} (HearsEarly k) v next m kept = unchanged v next (λ p. ap (λ (w : View A). w.sessions p) m.gives)
move_goes (Detaches k ending) v next m kept = detached_goes k ending v next m
move_goes {A = A} (Shuts k ending) v next m kept = unchanged v next (λ p. ap (λ (w : View A). w.sessions p) m.gives)
move_goes {A = A} EndsRow v next m kept = unchanged v next (λ p. ap (λ (w : View A). w.sessions p) m.gives)
move_goes (Serves k z) v next m kept = server_put_goes k z v next m
move_goes (Keeps z) v next m kept = server_queued_goes z v next m
move_goes {A = A} (Demands k) v next m kept = unchanged v next (λ p. ap (λ (w : View A). w.sessions p) m.gives)

-- ---- and moves, one after another

pub tables_both : {A : Type 0} (a b c : Table (Session A)) → AreOnward a b → AreOnward b c → AreOnward a c
tables_both a b c first second p s is =
    let (t, there, goes) = first p s is in
    let (u, here, more) = second p t there in
    (u, here, onward_both s t u goes more)

along : {A : Type 0} (moves : List (LinkMove A)) (v last : View A) → LinkKept v → LinkReaches moves v last → AreOnward v.sessions last.sessions
along {A = A} [] v last kept same = unchanged v last (λ p. ap (λ (w : View A). w.sessions p) same)
along (move ∷ moves) v last kept (next, by, more) = tables_both v.sessions next.sessions last.sessions (move_goes move v next by kept) (along moves next last (move_keeps move v next by kept) more)

pub moves_go : {A : Type 0} (moves : List (LinkMove A)) (v last : View A) → LinkReached v → LinkReaches moves v last → AreOnward v.sessions last.sessions
moves_go moves v last reached leads = along moves v last (link_kept v reached) leads
