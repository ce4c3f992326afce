-- What holds wherever the moves lead, from what each move keeps.
use Rattle.std.proofs.Common.{◌≡◌, ℕ, ◌-◌, ◌≤◌, true, List, ◌∷◌, ◌++◌, length, sym, ap, ◌∙◌, subst, arith, Some}
use Rattle.std.proofs.lemmas.List.{length-append, length-drop}
use Rattle.std.specs.List.{Contains}
use Rattle.sm_acks.specs.Delivery.{Direction, Reached, queue_of}
use Rattle.sm_acks.proofs.Directions.{kept_reached}
use Rattle.sim_2_links.proofs.CutLinks.{some_one}
use Rattle.sim_2_links.proofs.Entries.{is_has}
use Rattle.sim_2_links.proofs.Tables.{left_down_whole}
use Rattle.sim_2_links.proofs.Detached.{first_whole}
use Rattle.sim_2_links.proofs.Expected.{expected_down}
use Rattle.sim_2_links.proofs.Resumption.{Asks, asks}
use Rattle.sim_2_links.proofs.Served.{on_row}
use Rattle.sim_2_links.proofs.Heard.{in_own}
use Rattle.sim_2_links.specs.Words.{Ack, UpWord, ResumeAt, Up, DownWord, Resumed, Down, InResume, InOnline, up_stanzas, down_stanzas}
use Rattle.sim_2_links.specs.Wires.{up_words, down_words, down_whole}
use Rattle.sim_2_links.specs.Stages.{AsksResume, foot_of, Conn}
use Rattle.sim_2_links.specs.Views.{Session, Row, Own, View, carried_by, carries}
use Rattle.sim_2_links.specs.Links.{UpCounts, DownCounts, FitsOwn, LinkKept}
use Rattle.sim_2_links.specs.Promises.{IsServerEnd, IsClientEnd, IsWithin}

-- both ends of a session

pub server_end : {A : Type 0} (v : View A) (r : Row A) → LinkKept v → v.row ≡ Some r → (s : Session A) × (v.sessions r.number ≡ Some s) × IsServerEnd r s
server_end v r kept is = let row = kept.row r is in (row.session, row.is, record { handled = row.handled; acked = row.acked; queue = row.queue })

pub client_end : {A : Type 0} (v : View A) (o : Own A) → LinkKept v → v.own ≡ Some o → (s : Session A) × (v.sessions o.number ≡ Some s) × IsClientEnd o s
client_end v o kept is = let own = kept.own o is in (own.session, own.is, record { handled = own.handled; acked = own.acked; queue = own.queue })

-- a count that was stated and is not below the last one acknowledged names a place in the queue

within_queue : {A : Type 0} (d : Direction A) (acked h : ℕ) (queue : List A) → Reached d → acked ≡ d.acked → queue ≡ queue_of d → d.acked ≤ h → h ≤ length d.got → IsWithin acked queue h
within_queue d acked h queue reached same is low top =
    let k = kept_reached d reached in
    let all = ap length k.front.1 in
    let a = length-append (d.got ++ d.way) k.front.0 in
    let b = length-append d.got d.way in
    let q : length queue ≡ length d.put - d.acked = ap length is ∙ length-drop d.acked d.put in
    record { low = omega arith; high = omega arith }

stated_within : {A : Type 0} (d : Direction A) (acked h : ℕ) (queue : List A) → Reached d → acked ≡ d.acked → queue ≡ queue_of d → (d.acked ≤ h) × Contains d.stated h → IsWithin acked queue h
stated_within d acked h queue reached same is good = within_queue d acked h queue reached same is good.0 ((kept_reached d reached).stated h good.1)

pub up_count_within : {A : Type 0} (v : View A) (k h : ℕ) (c : Conn A) (r : Row A) (rest : List (UpWord A)) → LinkKept v → v.conns k ≡ Some c → v.row ≡ Some r → r.on ≡ Some k → r.counted ≡ true → up_words c.wires ≡ Up (Ack h) ∷ rest → IsWithin r.acked r.queue h
up_count_within v k h c r rest kept is is_row on counted first =
    let o = on_row v k c r is is_row on counted kept in
    let counts : (o.0.down.acked ≤ h) × Contains o.0.down.stated h × UpCounts h o.0.down.stated rest = subst (λ ws. UpCounts o.0.down.acked o.0.down.stated ws) first o.1.goes.counts in
    stated_within o.0.down r.acked h r.queue (kept.sessions r.number o.0 o.1.is).down o.1.acked o.1.queue (counts.0, counts.1)

pub down_count_within : {A : Type 0} (v : View A) (k h : ℕ) (c : Conn A) (o : Own A) (rest : List (DownWord A)) → LinkKept v → v.here ≡ Some k → v.conns k ≡ Some c → v.own ≡ Some o → down_words c.wires ≡ Down (Ack h) ∷ rest → IsWithin o.acked o.queue h
down_count_within v k h c o rest kept here is is_own first =
    let e = expected_down v k c (Down (Ack h)) rest kept here is first in
    let client : c.client ≡ InOnline o.number = e.2 ∙ ap (λ (x : Own _). InOnline x.number) (some_one v.own e.0 o e.1 is_own) in
    let i = in_own v k c o is here is_own client kept in
    let counts : (i.0.up.acked ≤ h) × Contains i.0.up.stated h × DownCounts h i.0.up.stated rest = subst (λ ws. DownCounts i.0.up.acked i.0.up.stated ws) first i.1.goes.counts in
    stated_within i.0.up o.acked h o.queue (kept.sessions o.number i.0 i.1.is).up i.1.acked i.1.queue (counts.0, counts.1)

pub resumed_within : {A : Type 0} (v : View A) (k p h : ℕ) (c : Conn A) (o : Own A) (rest : List (DownWord A)) → LinkKept v → v.here ≡ Some k → v.conns k ≡ Some c → v.own ≡ Some o → down_words c.wires ≡ Resumed p h ∷ rest → IsWithin o.acked o.queue h
resumed_within v k p h c o rest kept here is is_own first =
    let e = expected_down v k c (Resumed p h) rest kept here is first in
    let same : o.number ≡ p = ap (λ (x : Own _). x.number) (sym (some_one v.own e.0 o e.1 is_own)) ∙ e.2 in
    let carried : carries c ≡ Some p = ap (λ x. carried_by x (down_whole c.wires)) e.3 ∙ ap (carried_by (InResume p)) (left_down_whole (Resumed p h) rest c.wires first) in
    let g = kept.goes_down k c p here is carried in
    let own = kept.own o is_own in
    let one : own.session ≡ g.0 = some_one (v.sessions p) own.session g.0 (subst (λ n. v.sessions n ≡ Some own.session) same own.is) g.1 in
    let counts : (g.0.up.acked ≤ h) × Contains g.0.up.stated h × DownCounts h g.0.up.stated rest = subst (λ ws. DownCounts g.0.up.acked g.0.up.stated ws) first g.2.counts in
    stated_within g.0.up o.acked h o.queue (kept.sessions p g.0 g.1).up (own.acked ∙ ap (λ (x : Session _). x.up.acked) one) (own.queue ∙ ap (λ (x : Session _). queue_of x.up) one) (counts.0, counts.1)

-- a resumption that the server takes on the connection that the client works on states exactly what was handled

pub resume_is_present : {A : Type 0} (v : View A) (k h : ℕ) (c : Conn A) (r : Row A) (rest : List (UpWord A)) → LinkKept v → v.here ≡ Some k → v.conns k ≡ Some c → v.row ≡ Some r → up_words c.wires ≡ ResumeAt r.number h ∷ rest →
    (s : Session A) × (v.sessions r.number ≡ Some s) × (h ≡ length s.down.got) × IsWithin r.acked r.queue h
resume_is_present {A = A} v k h c r rest kept here is is_row first =
    let old = kept.conns k c is in
    let row = kept.row r is_row in
    let whole = first_whole (ResumeAt r.number h) rest c.wires first in
    let asking : Asks old.stage r.number h (foot_of c.footed) whole.0 = asks old.stage c.footed r.number h whole.0 (sym old.at.up ∙ whole.1) in
    let fits : FitsOwn v.own v.epoch v.sessions (AsksResume r.number h) = subst (λ s. FitsOwn v.own v.epoch v.sessions s) asking.is (old.fits (is_has v.here k here)) in
    let o = kept.own fits.0 fits.1 in
    let same : o.session ≡ row.session = some_one (v.sessions r.number) o.session row.session (subst (λ (x : ℕ). v.sessions x ≡ Some o.session) fits.2 o.is) row.is in
    let count : h ≡ length row.session.down.got = sym fits.3 ∙ o.handled ∙ ap (λ (x : Session A). length x.down.got) same in
    let k = kept_reached row.session.down (kept.sessions r.number row.session row.is).down in
    let low = k.acked in
    (row.session, row.is, count, within_queue row.session.down r.acked h r.queue (kept.sessions r.number row.session row.is).down row.acked row.queue (omega arith) (omega arith))

-- what is under way

pub up_way : {A : Type 0} (v : View A) (k : ℕ) (c : Conn A) (r : Row A) → LinkKept v → v.conns k ≡ Some c → v.row ≡ Some r → r.on ≡ Some k → r.counted ≡ true → (s : Session A) × (v.sessions r.number ≡ Some s) × (s.up.way ≡ up_stanzas (up_words c.wires))
up_way v k c r kept is is_row on counted = let o = on_row v k c r is is_row on counted kept in (o.0, o.1.is, o.1.goes.way)

pub down_way : {A : Type 0} (v : View A) (k p : ℕ) (c : Conn A) → LinkKept v → v.here ≡ Some k → v.conns k ≡ Some c → carries c ≡ Some p → (s : Session A) × (v.sessions p ≡ Some s) × (s.down.way ≡ down_stanzas (down_words c.wires))
down_way v k p c kept here is carried = let g = kept.goes_down k c p here is carried in (g.0, g.1, g.2.way)
