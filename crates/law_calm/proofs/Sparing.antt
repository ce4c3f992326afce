-- Where the server ends no session of the device, one that both ends have is resumed.
use Rattle.std.proofs.Common.{arith, ◌≡◌, ℕ, zero, suc, ◌-◌, ◌≤◌, Bool, true, false, List, [], ◌∷◌, ◌++◌, drop, map, refl, sym, ap, ◌∙◌, subst, Option, None, Some}
use Rattle.sim_2_links.proofs.CutLinks.{some_one}
use Rattle.sim_2_links.proofs.Entries.{at_other, is_has}
use Rattle.sim_2_links.proofs.Reached.{link_kept}
use Rattle.sim_2_links.specs.Words.{Traffic, St, UpWord, Hdr, Auth, Resp, ResumeAt, Bind, Up, DownWord, Head, Feat, Chal, Succ, Failed, Resumed, Enabled, Down, Client, InHeader1, InFeatures1, InAuth, InResponse, InHeader2, InFeatures2, InResume, InBind, InEnable, InOnline, Phase, Start, Sasl, Challenge, Restart, Req, Ack}
use Rattle.sim_2_links.specs.Wires.{Wires, Flow, Stop, is_flowing, up_words, down_words, up_whole, down_whole, send_up, send_down, left_up, left_down, halt}
use Rattle.sim_2_links.specs.Stages.{Stage, Greets, Greeted, AsksResume, AsksBind, Binds, AsksEnable, Enables, Runs, client_of, up_of, down_of, Goes, server_hand, Ending, Stands, Errs, Closes, tail_of, foot_of, Conn}
use Rattle.sim_2_links.specs.Views.{Table, with_at, View, Session, Row, Own}
use Rattle.sim_2_links.specs.SessionMoves.{again, resumed_words}
use Rattle.sim_2_links.specs.Links.{FitsOwn, IsOwn, LinkKept}
use Rattle.sim_2_links.specs.Machine.{LinkMove, Cuts, Dials, LetsGo, Foots, Forgets, Puts, Queues, Requests, ReadsHand, AsksToResume, AsksToBind, ReadsFailed, ReadsResumed, ReadsBound, ReadsEnabled, ReadsStanza, ReadsRequest, ReadsCount, TakesHand, TakesResume, TakesLateResume, TakesStrangeResume, TakesHighResume, TakesBind, TakesEnable, TakesStanza, TakesRequest, TakesCount, TakesFoot, Parks, Hears, HearsEarly, Detaches, Shuts, EndsRow, Serves, Keeps, Demands, LinkMoves, LinkReached}
use Rattle.law_calm.proofs.Changes.{Changed, at_one, at_none}
use Rattle.law_calm.proofs.Calm.{stays_here}
use Rattle.law_calm.proofs.Online.{kept_going, low_then}
use Rattle.law_calm.proofs.Spared.{IsSparing, RowIs, spared_rounds}
use Rattle.law_calm.proofs.Staying.{calm_rounds}
use Rattle.law_calm.specs.Rounds.{IsAny, Goes as GoesBy, IsRound, AreRounds, rounds_to_go}

-- ---- what is on its way down has no refusal

abbrev IsNoRefusal : {A : Type 0} → DownWord A → Type 0
IsNoRefusal Failed = ⊥
IsNoRefusal _ = Unit {0}

abbrev pub AreNoRefusals : {A : Type 0} → List (DownWord A) → Type 0
AreNoRefusals [] = Unit {0}
AreNoRefusals (w ∷ ws) = IsNoRefusal w × AreNoRefusals ws

more_free : {A : Type 0} (ds ws : List (DownWord A)) → AreNoRefusals ds → AreNoRefusals ws → AreNoRefusals (ds ++ ws)
more_free [] ws a b = b
more_free (d ∷ ds) ws a b = (a.0, more_free ds ws a.1 b)

front_free : {A : Type 0} (ds ws : List (DownWord A)) → AreNoRefusals (ds ++ ws) → AreNoRefusals ds
front_free [] ws a = tt
front_free (d ∷ ds) ws a = (a.0, front_free ds ws a.1)

words_free : {A : Type 0} (x : Wires A) → AreNoRefusals (down_whole x) → AreNoRefusals (down_words x)
words_free (Flow us ds) a = a
words_free (Stop us ds lu ld) a = front_free ds ld a

traffic_free : {A : Type 0} (ts : List (Traffic A)) → AreNoRefusals (map Down ts)
traffic_free [] = tt
traffic_free (t ∷ ts) = (tt, traffic_free ts)

tail_free : (A : Type 0) (ending : Ending) → AreNoRefusals (tail_of {A = A} ending)
tail_free A Stands = tt
tail_free A (Errs cause) = (tt, (tt, tt))
tail_free A Closes = (tt, tt)

-- the client has just dialled
first_free : {A : Type 0} (s : Stage A) → client_of s ≡ InHeader1 → AreNoRefusals (down_of s)
first_free Greets e = tt
first_free Greeted e = (tt, (tt, tt))
first_free _ e = absurd (let no_way : ⊥ = cc in no_way)

hand_free : {A : Type 0} (phase to : Phase) (word : UpWord A) (puts : List (DownWord A)) → server_hand phase word ≡ Goes to puts → AreNoRefusals puts
hand_free {A = A} Start to Hdr puts hand = let e : Head ∷ Feat ∷ [] ≡ puts = cc in subst (λ (ws : List (DownWord A)). AreNoRefusals ws) e (tt, (tt, tt))
hand_free {A = A} Sasl to Auth puts hand = let e : Chal ∷ [] ≡ puts = cc in subst (λ (ws : List (DownWord A)). AreNoRefusals ws) e (tt, tt)
hand_free {A = A} Challenge to Resp puts hand = let e : Succ ∷ [] ≡ puts = cc in subst (λ (ws : List (DownWord A)). AreNoRefusals ws) e (tt, tt)
hand_free {A = A} Restart to Hdr puts hand = let e : Head ∷ Feat ∷ [] ≡ puts = cc in subst (λ (ws : List (DownWord A)). AreNoRefusals ws) e (tt, (tt, tt))
hand_free {A = A} _ to _ puts hand = absurd (let no_way : ⊥ = cc in no_way)

-- ---- a connection

pub record StaysFree {A : Type 0} (c d : Conn A) : Type 0 where
  pub free : AreNoRefusals (down_words c.wires) → AreNoRefusals (down_words d.wires)

same_free : {A : Type 0} (c : Conn A) → StaysFree c c
same_free c = record { free = λ a. a }

put_wires : {A : Type 0} (puts : List (DownWord A)) (x : Wires A) → AreNoRefusals puts → AreNoRefusals (down_words x) → AreNoRefusals (down_words (send_down puts x))
put_wires puts (Flow us ds) a b = more_free ds puts b a
put_wires puts (Stop us ds lu ld) a b = b

taken_wires : {A : Type 0} (puts : List (DownWord A)) (rest : List (UpWord A)) (x : Wires A) → AreNoRefusals puts → AreNoRefusals (down_words x) → AreNoRefusals (down_words (send_down puts (left_up rest x)))
taken_wires puts rest (Flow us ds) a b = more_free ds puts b a
taken_wires puts rest (Stop us ds lu ld) a b = b

shut_wires : {A : Type 0} (puts : List (DownWord A)) (x : Wires A) → AreNoRefusals puts → AreNoRefusals (down_words x) → AreNoRefusals (down_words (halt (send_down puts x)))
shut_wires puts (Flow us ds) a b = more_free ds puts b a
shut_wires puts (Stop us ds lu ld) a b = b

read_wires : {A : Type 0} (puts : List (UpWord A)) (rest : List (DownWord A)) (x : Wires A) → AreNoRefusals rest → AreNoRefusals (down_words (send_up puts (left_down rest x)))
read_wires puts rest (Flow us ds) a = a
read_wires puts rest (Stop us ds lu ld) a = a

said_wires : {A : Type 0} (puts : List (UpWord A)) (x : Wires A) → AreNoRefusals (down_words x) → AreNoRefusals (down_words (send_up puts x))
said_wires puts (Flow us ds) a = a
said_wires puts (Stop us ds lu ld) a = a

read_free : {A : Type 0} (c : Conn A) (word : DownWord A) (rest : List (DownWord A)) (puts : List (UpWord A)) → down_words c.wires ≡ word ∷ rest → AreNoRefusals (down_words c.wires) → AreNoRefusals (down_words (send_up puts (left_down rest c.wires)))
read_free {A = A} c word rest puts first a = read_wires puts rest c.wires (subst (λ (ws : List (DownWord A)). AreNoRefusals ws) first a).1

-- ---- what both ends have

-- the client works on the connection, on whose way down no refusal is; it has a session, which the server has too, and its epoch
pub record Has {A : Type 0} (k number epoch : ℕ) (v : View A) : Type 0 where
  pub here : v.here ≡ Some k
  pub conn : Conn A
  pub is : v.conns k ≡ Some conn
  pub free : AreNoRefusals (down_words conn.wires)
  pub own : Own A
  pub is_own : v.own ≡ Some own
  pub own_number : own.number ≡ number
  pub row : Row A
  pub is_row : v.row ≡ Some row
  pub row_number : row.number ≡ number
  pub epoch_is : v.epoch ≡ epoch

-- a client with a session doesn't ask for one
own_bind : {A : Type 0} (own : Option (Own A)) (epoch : ℕ) (sessions : Table (Session A)) (s : Stage A) → client_of s ≡ InBind → FitsOwn own epoch sessions s → own ≡ None
own_bind own epoch sessions AsksBind e fits = fits
own_bind own epoch sessions (Binds m) e fits = fits.0
own_bind own epoch sessions _ e fits = absurd (let no_way : ⊥ = cc in no_way)

own_enable : {A : Type 0} (own : Option (Own A)) (epoch : ℕ) (sessions : Table (Session A)) (s : Stage A) → client_of s ≡ InEnable → FitsOwn own epoch sessions s → own ≡ None
own_enable own epoch sessions (AsksEnable m) e fits = fits.0
own_enable own epoch sessions (Enables m downs) e fits = fits.0
own_enable own epoch sessions _ e fits = absurd (let no_way : ⊥ = cc in no_way)

pub own_online : {A : Type 0} (own : Option (Own A)) (epoch : ℕ) (sessions : Table (Session A)) (s : Stage A) (p : ℕ) → client_of s ≡ InOnline p → FitsOwn own epoch sessions s → IsOwn own p
own_online own epoch sessions (Runs q ups downs) p e fits = let same : q ≡ p = cc in subst (IsOwn own) same fits
own_online own epoch sessions _ p e fits = absurd (let no_way : ⊥ = cc in no_way)

pub fits_of : {A : Type 0} (v : View A) (k : ℕ) (c : Conn A) → LinkKept v → v.here ≡ Some k → (is : v.conns k ≡ Some c) → (s : Stage A) × (c.client ≡ client_of s) × FitsOwn v.own v.epoch v.sessions s × (up_whole c.wires ≡ up_of s ++ foot_of c.footed) × (down_whole c.wires ≡ down_of s ++ tail_of c.ending)
fits_of v k c kept here is =
    let old = kept.conns k c is in
    (old.stage, old.at.client, old.fits (is_has v.here k here), old.at.up, old.at.down)

no_bind : {A : Type 0} (v : View A) (k : ℕ) (c : Conn A) (o : Own A) → LinkKept v → v.here ≡ Some k → v.conns k ≡ Some c → v.own ≡ Some o → c.client ≡ InBind → ⊥
no_bind v k c o kept here is own client =
    let it = fits_of v k c kept here is in
    let none : v.own ≡ None = own_bind v.own v.epoch v.sessions it.0 (sym it.1 ∙ client) it.2 in
    let no_way : ⊥ = cc in no_way

no_enable : {A : Type 0} (v : View A) (k : ℕ) (c : Conn A) (o : Own A) → LinkKept v → v.here ≡ Some k → v.conns k ≡ Some c → v.own ≡ Some o → c.client ≡ InEnable → ⊥
no_enable v k c o kept here is own client =
    let it = fits_of v k c kept here is in
    let none : v.own ≡ None = own_enable v.own v.epoch v.sessions it.0 (sym it.1 ∙ client) it.2 in
    let no_way : ⊥ = cc in no_way

-- a resumption that the server takes is of the client's session
resume_row : {A : Type 0} (s : Stage A) (footed : Bool) (p h : ℕ) (ws : List (UpWord A)) → up_of s ++ foot_of footed ≡ ResumeAt p h ∷ ws → s ≡ AsksResume p h
resume_row (AsksResume q g) footed p h ws e = let a : q ≡ p = cc in let b : g ≡ h = cc in ap (λ x. AsksResume x g) a ∙ ap (λ x. AsksResume p x) b
resume_row (Runs q [] downs) false p h ws e = absurd (let no_way : ⊥ = cc in no_way)
resume_row (Runs q [] downs) true p h ws e = absurd (let no_way : ⊥ = cc in no_way)
resume_row (Runs q (u ∷ ups) downs) footed p h ws e = absurd (let no_way : ⊥ = cc in no_way)
resume_row _ false p h ws e = absurd (let no_way : ⊥ = cc in no_way)
resume_row _ true p h ws e = absurd (let no_way : ⊥ = cc in no_way)

whole_first : {A : Type 0} (x : Wires A) (w : UpWord A) (rest : List (UpWord A)) → up_words x ≡ w ∷ rest → (ws : List (UpWord A)) × (up_whole x ≡ w ∷ ws)
whole_first {A = A} (Flow us ds) w rest e = (rest, e)
whole_first {A = A} (Stop us ds lu ld) w rest e = (rest ++ lu, ap (λ (l : List (UpWord A)). l ++ lu) e)

asked_number : {A : Type 0} (v : View A) (k : ℕ) (c : Conn A) (p h : ℕ) (rest : List (UpWord A)) → LinkKept v → v.here ≡ Some k → v.conns k ≡ Some c → up_words c.wires ≡ ResumeAt p h ∷ rest → (o : Own A) × (v.own ≡ Some o) × (o.number ≡ p)
asked_number {A = A} v k c p h rest kept here is first =
    let it = fits_of v k c kept here is in
    let whole = whole_first c.wires (ResumeAt p h) rest first in
    let row : it.0 ≡ AsksResume p h = resume_row it.0 c.footed p h whole.0 (sym it.3 ∙ whole.1) in
    let fits : FitsOwn v.own v.epoch v.sessions (AsksResume p h) = subst (λ (s : Stage A). FitsOwn v.own v.epoch v.sessions s) row it.2 in
    (fits.0, fits.1, fits.2)

-- ---- a move

abbrev conns_of : {A : Type 0} (v : View A) → Table (Conn A)
conns_of v = v.conns

abbrev own_of : {A : Type 0} (v : View A) → Option (Own A)
own_of v = v.own

abbrev row_of : {A : Type 0} (v : View A) → Option (Row A)
row_of v = v.row

abbrev epoch_of : {A : Type 0} (v : View A) → ℕ
epoch_of v = v.epoch

abbrev OwnIs : {A : Type 0} → ℕ → View A → Type 0
OwnIs {A = A} number v = (o : Own A) × (v.own ≡ Some o) × (o.number ≡ number)

same_own : {A : Type 0} (k number epoch : ℕ) (v next : View A) → Has k number epoch v → next.own ≡ v.own → OwnIs number next
same_own k number epoch v next h same = (h.own, same ∙ h.is_own, h.own_number)

new_own : {A : Type 0} (k number epoch : ℕ) (v next : View A) (old new : Own A) → Has k number epoch v → v.own ≡ Some old → next.own ≡ Some new → new.number ≡ old.number → OwnIs number next
new_own {A = A} k number epoch v next old new h was is same =
    let one : old ≡ h.own = some_one v.own old h.own was h.is_own in
    (new, is, same ∙ ap (λ (x : Own A). x.number) one ∙ h.own_number)

same_row : {A : Type 0} (k number epoch : ℕ) (v next : View A) → Has k number epoch v → next.row ≡ v.row → RowIs number next
same_row k number epoch v next h same = (h.row, same ∙ h.is_row, h.row_number)

new_row : {A : Type 0} (k number epoch : ℕ) (v next : View A) (old new : Row A) → Has k number epoch v → v.row ≡ Some old → next.row ≡ Some new → new.number ≡ old.number → RowIs number next
new_row {A = A} k number epoch v next old new h was is same =
    let one : old ≡ h.row = some_one v.row old h.row was h.is_row in
    (new, is, same ∙ ap (λ (x : Row A). x.number) one ∙ h.row_number)

has_next : {A : Type 0} (k number epoch : ℕ) (v next : View A) → (h : Has k number epoch v) → next.here ≡ v.here → Changed StaysFree k h.conn next → OwnIs number next → RowIs number next → next.epoch ≡ v.epoch → Has k number epoch next
has_next k number epoch v next h here on own row same = record {
  here = here ∙ h.here;
  conn = on.0;
  is = on.1;
  free = on.2.free h.free;
  own = own.0;
  is_own = own.1;
  own_number = own.2;
  row = row.0;
  is_row = row.1;
  row_number = row.2;
  epoch_is = same ∙ h.epoch_is;
}

-- no refusal comes
no_refusal : {A : Type 0} (k number epoch j : ℕ) (v : View A) (c : Conn A) (rest : List (DownWord A)) → Has k number epoch v → v.here ≡ Some j → v.conns j ≡ Some c → down_words c.wires ≡ Failed ∷ rest → ⊥
no_refusal {A = A} k number epoch j v c rest h here is first =
    let same : j ≡ k = (let a : Some j ≡ Some k = sym here ∙ h.here in cc) in
    let one : c ≡ h.conn = some_one (v.conns k) c h.conn (subst (λ x. v.conns x ≡ Some c) same is) h.is in
    let free : AreNoRefusals (down_words c.wires) = subst (λ (x : Conn A). AreNoRefusals (down_words x.wires)) (sym one) h.free in
    let bad : AreNoRefusals (Failed ∷ rest) = subst (λ (ws : List (DownWord A)). AreNoRefusals ws) first free in
    bad.0

-- the server refuses a resumption on another connection alone
refuses_elsewhere : {A : Type 0} (k number epoch j : ℕ) (v : View A) (c : Conn A) (p g : ℕ) (rest : List (UpWord A)) → LinkKept v → Has k number epoch v → v.conns j ≡ Some c → up_words c.wires ≡ ResumeAt p g ∷ rest → ((row : Row A) → v.row ≡ Some row → row.number ≡ p → ⊥) → j ≡ k → ⊥
refuses_elsewhere {A = A} k number epoch j v c p g rest kept h is first no_row same =
    let it = asked_number v k c p g rest kept h.here (subst (λ x. v.conns x ≡ Some c) same is) first in
    let one : it.0 ≡ h.own = some_one v.own it.0 h.own it.1 h.is_own in
    no_row h.row h.is_row (h.row_number ∙ sym h.own_number ∙ ap (λ (x : Own A). x.number) (sym one) ∙ it.2)

elsewhere : {A : Type 0} (j k : ℕ) (new c : Conn A) (v next : View A) → next.conns ≡ with_at j new v.conns → v.conns k ≡ Some c → (j ≡ k → ⊥) → Changed StaysFree k c next
elsewhere {A = A} j k new c v next gives is never = (c, ap (λ (t : Table (Conn A)). t k) gives ∙ at_other j new v.conns k never ∙ is, same_free c)

pub has_keeps : {A : Type 0} (k number epoch : ℕ) (move : LinkMove A) (v next : View A) → IsSparing k move → LinkMoves move v next → LinkKept v → Has k number epoch v → Has k number epoch next
has_keeps k number epoch (Cuts j a b) v next spare m kept h = has_next k number epoch v next h (stays_here (Cuts j a b) v next k spare m) (elsewhere j k _ h.conn v next (ap conns_of m.gives) h.is spare) (same_own k number epoch v next h (ap own_of m.gives)) (same_row k number epoch v next h (ap row_of m.gives)) (ap epoch_of m.gives)
has_keeps k number epoch (Dials j) v next spare m kept h = absurd spare
has_keeps k number epoch (LetsGo j) v next spare m kept h = absurd spare
has_keeps k number epoch (Foots j) v next spare m kept h = has_next k number epoch v next h (stays_here (Foots j) v next k spare m) (elsewhere j k _ h.conn v next (ap conns_of m.gives) h.is spare) (same_own k number epoch v next h (ap own_of m.gives)) (same_row k number epoch v next h (ap row_of m.gives)) (ap epoch_of m.gives)
has_keeps k number epoch Forgets v next spare m kept h = absurd spare
has_keeps k number epoch (TakesBind j n) v next spare m kept h = absurd spare
has_keeps k number epoch (TakesHighResume j) v next spare m kept h = absurd spare
has_keeps k number epoch (HearsEarly j) v next spare m kept h = absurd spare
has_keeps k number epoch (Shuts j ending) v next spare m kept h = absurd spare
has_keeps k number epoch EndsRow v next spare m kept h = absurd spare
has_keeps k number epoch (Puts j z) v next spare m kept h = has_next k number epoch v next h (stays_here (Puts j z) v next k tt m) (at_one StaysFree same_free j k m.conn _ h.conn v next (ap conns_of m.gives) m.is h.is (record { free = λ a. said_wires (Up (St z) ∷ []) m.conn.wires a })) (new_own k number epoch v next m.own _ h m.is_own (ap own_of m.gives) refl) (same_row k number epoch v next h (ap row_of m.gives)) (ap epoch_of m.gives)
has_keeps k number epoch (Queues z) v next spare m kept h = has_next k number epoch v next h (stays_here (Queues z) v next k tt m) (at_none StaysFree same_free k h.conn v next (ap conns_of m.gives) h.is) (new_own k number epoch v next m.own _ h m.is_own (ap own_of m.gives) refl) (same_row k number epoch v next h (ap row_of m.gives)) (ap epoch_of m.gives)
has_keeps k number epoch (Requests j) v next spare m kept h = has_next k number epoch v next h (stays_here (Requests j) v next k tt m) (at_one StaysFree same_free j k m.conn _ h.conn v next (ap conns_of m.gives) m.is h.is (record { free = λ a. said_wires (Up Req ∷ []) m.conn.wires a })) (same_own k number epoch v next h (ap own_of m.gives)) (same_row k number epoch v next h (ap row_of m.gives)) (ap epoch_of m.gives)
has_keeps k number epoch (ReadsHand j) v next spare m kept h = has_next k number epoch v next h (stays_here (ReadsHand j) v next k tt m) (at_one StaysFree same_free j k m.conn _ h.conn v next (ap conns_of m.gives) m.is h.is (record { free = λ a. read_free m.conn m.word m.rest m.puts m.first a })) (same_own k number epoch v next h (ap own_of m.gives)) (same_row k number epoch v next h (ap row_of m.gives)) (ap epoch_of m.gives)
has_keeps k number epoch (AsksToResume j) v next spare m kept h = has_next k number epoch v next h (stays_here (AsksToResume j) v next k tt m) (at_one StaysFree same_free j k m.conn _ h.conn v next (ap conns_of m.gives) m.is h.is (record { free = λ a. read_free m.conn Feat m.rest (ResumeAt m.own.number m.own.handled ∷ []) m.first a })) (same_own k number epoch v next h (ap own_of m.gives)) (same_row k number epoch v next h (ap row_of m.gives)) (ap epoch_of m.gives)
has_keeps k number epoch (AsksToBind j) v next spare m kept h = has_next k number epoch v next h (stays_here (AsksToBind j) v next k tt m) (at_one StaysFree same_free j k m.conn _ h.conn v next (ap conns_of m.gives) m.is h.is (record { free = λ a. read_free m.conn Feat m.rest (Bind ∷ []) m.first a })) (same_own k number epoch v next h (ap own_of m.gives)) (same_row k number epoch v next h (ap row_of m.gives)) (ap epoch_of m.gives)
has_keeps k number epoch (ReadsFailed j) v next spare m kept h = absurd (no_refusal k number epoch j v m.conn m.rest h m.here m.is m.first)
has_keeps k number epoch (ReadsResumed j) v next spare m kept h = has_next k number epoch v next h (stays_here (ReadsResumed j) v next k tt m) (at_one StaysFree same_free j k m.conn _ h.conn v next (ap conns_of m.gives) m.is h.is (record { free = λ a. read_free m.conn (Resumed m.own.number m.h) m.rest (again (drop (m.h - m.own.acked) m.own.queue)) m.first a })) (new_own k number epoch v next m.own _ h m.is_own (ap own_of m.gives) refl) (same_row k number epoch v next h (ap row_of m.gives)) (ap epoch_of m.gives)
has_keeps k number epoch (ReadsBound j n) v next spare m kept h = absurd (no_bind v j m.conn h.own kept m.here m.is h.is_own m.client)
has_keeps k number epoch (ReadsEnabled j n) v next spare m kept h = absurd (no_enable v j m.conn h.own kept m.here m.is h.is_own m.client)
has_keeps k number epoch (ReadsStanza j z) v next spare m kept h = has_next k number epoch v next h (stays_here (ReadsStanza j z) v next k tt m) (at_one StaysFree same_free j k m.conn _ h.conn v next (ap conns_of m.gives) m.is h.is (record { free = λ a. read_free m.conn (Down (St z)) m.rest [] m.first a })) (new_own k number epoch v next m.own _ h m.is_own (ap own_of m.gives) refl) (same_row k number epoch v next h (ap row_of m.gives)) (ap epoch_of m.gives)
has_keeps k number epoch (ReadsRequest j) v next spare m kept h = has_next k number epoch v next h (stays_here (ReadsRequest j) v next k tt m) (at_one StaysFree same_free j k m.conn _ h.conn v next (ap conns_of m.gives) m.is h.is (record { free = λ a. read_free m.conn (Down Req) m.rest (Up (Ack m.own.handled) ∷ []) m.first a })) (same_own k number epoch v next h (ap own_of m.gives)) (same_row k number epoch v next h (ap row_of m.gives)) (ap epoch_of m.gives)
has_keeps k number epoch (ReadsCount j g) v next spare m kept h = has_next k number epoch v next h (stays_here (ReadsCount j g) v next k tt m) (at_one StaysFree same_free j k m.conn _ h.conn v next (ap conns_of m.gives) m.is h.is (record { free = λ a. read_free m.conn (Down (Ack g)) m.rest [] m.first a })) (new_own k number epoch v next m.own _ h m.is_own (ap own_of m.gives) refl) (same_row k number epoch v next h (ap row_of m.gives)) (ap epoch_of m.gives)
has_keeps k number epoch (TakesHand j) v next spare m kept h = has_next k number epoch v next h (stays_here (TakesHand j) v next k tt m) (at_one StaysFree same_free j k m.conn _ h.conn v next (ap conns_of m.gives) m.is h.is (record { free = λ a. taken_wires m.puts m.rest m.conn.wires (hand_free m.conn.phase m.phase m.word m.puts m.hand) a })) (same_own k number epoch v next h (ap own_of m.gives)) (same_row k number epoch v next h (ap row_of m.gives)) (ap epoch_of m.gives)
has_keeps k number epoch (TakesResume j) v next spare m kept h = has_next k number epoch v next h (stays_here (TakesResume j) v next k tt m) (at_one StaysFree same_free j k m.conn _ h.conn v next (ap conns_of m.gives) m.is h.is (record { free = λ a. taken_wires (resumed_words m.row m.h) m.rest m.conn.wires (tt, traffic_free (map St (drop (m.h - m.row.acked) m.row.queue))) a })) (same_own k number epoch v next h (ap own_of m.gives)) (new_row k number epoch v next m.row _ h m.is_row (ap row_of m.gives) refl) (ap epoch_of m.gives)
has_keeps k number epoch (TakesLateResume j) v next spare m kept h = has_next k number epoch v next h (stays_here (TakesLateResume j) v next k tt m) (at_one StaysFree same_free j k m.conn _ h.conn v next (ap conns_of m.gives) m.is h.is (record { free = λ a. taken_wires (resumed_words m.row m.h) m.rest m.conn.wires (tt, traffic_free (map St (drop (m.h - m.row.acked) m.row.queue))) a })) (same_own k number epoch v next h (ap own_of m.gives)) (new_row k number epoch v next m.row _ h m.is_row (ap row_of m.gives) refl) (ap epoch_of m.gives)
has_keeps k number epoch (TakesStrangeResume j) v next spare m kept h = has_next k number epoch v next h (stays_here (TakesStrangeResume j) v next k tt m) (elsewhere j k _ h.conn v next (ap conns_of m.gives) h.is (refuses_elsewhere k number epoch j v m.conn m.p m.h m.rest kept h m.is m.first m.no_row)) (same_own k number epoch v next h (ap own_of m.gives)) (same_row k number epoch v next h (ap row_of m.gives)) (ap epoch_of m.gives)
has_keeps k number epoch (TakesEnable j) v next spare m kept h = has_next k number epoch v next h (stays_here (TakesEnable j) v next k tt m) (at_one StaysFree same_free j k m.conn _ h.conn v next (ap conns_of m.gives) m.is h.is (record { free = λ a. taken_wires (Enabled m.row.number ∷ []) m.rest m.conn.wires (tt, tt) a })) (same_own k number epoch v next h (ap own_of m.gives)) (new_row k number epoch v next m.row _ h m.is_row (ap row_of m.gives) refl) (ap epoch_of m.gives)
has_keeps k number epoch (TakesStanza j z) v next spare m kept h = has_next k number epoch v next h (stays_here (TakesStanza j z) v next k tt m) (at_one StaysFree same_free j k m.conn _ h.conn v next (ap conns_of m.gives) m.is h.is (record { free = λ a. taken_wires [] m.rest m.conn.wires tt a })) (same_own k number epoch v next h (ap own_of m.gives)) (new_row k number epoch v next m.row _ h m.is_row (ap row_of m.gives) refl) (ap epoch_of m.gives)
has_keeps k number epoch (TakesRequest j) v next spare m kept h = has_next k number epoch v next h (stays_here (TakesRequest j) v next k tt m) (at_one StaysFree same_free j k m.conn _ h.conn v next (ap conns_of m.gives) m.is h.is (record { free = λ a. taken_wires (Down (Ack m.row.handled) ∷ []) m.rest m.conn.wires (tt, tt) a })) (same_own k number epoch v next h (ap own_of m.gives)) (same_row k number epoch v next h (ap row_of m.gives)) (ap epoch_of m.gives)
has_keeps k number epoch (TakesCount j g) v next spare m kept h = has_next k number epoch v next h (stays_here (TakesCount j g) v next k tt m) (at_one StaysFree same_free j k m.conn _ h.conn v next (ap conns_of m.gives) m.is h.is (record { free = λ a. taken_wires [] m.rest m.conn.wires tt a })) (same_own k number epoch v next h (ap own_of m.gives)) (new_row k number epoch v next m.row _ h m.is_row (ap row_of m.gives) refl) (ap epoch_of m.gives)
has_keeps k number epoch (TakesFoot j) v next spare m kept h = has_next k number epoch v next h (stays_here (TakesFoot j) v next k tt m) (at_one StaysFree same_free j k m.conn _ h.conn v next (ap conns_of m.gives) m.is h.is (record { free = λ a. shut_wires (tail_of Closes) m.conn.wires (tt, tt) a })) (same_own k number epoch v next h (ap own_of m.gives)) (same_row k number epoch v next h (ap row_of m.gives)) (ap epoch_of m.gives)
has_keeps k number epoch (Parks j) v next spare m kept h = has_next k number epoch v next h (stays_here (Parks j) v next k tt m) (at_one StaysFree same_free j k m.conn _ h.conn v next (ap conns_of m.gives) m.is h.is (record { free = λ a. a })) (same_own k number epoch v next h (ap own_of m.gives)) (new_row k number epoch v next m.row _ h m.is_row (ap row_of m.gives) refl) (ap epoch_of m.gives)
has_keeps k number epoch (Hears j) v next spare m kept h = has_next k number epoch v next h (stays_here (Hears j) v next k tt m) (at_one StaysFree same_free j k m.conn _ h.conn v next (ap conns_of m.gives) m.is h.is (record { free = λ a. a })) (same_own k number epoch v next h (ap own_of m.gives)) (same_row k number epoch v next h (ap row_of m.gives)) (ap epoch_of m.gives)
has_keeps k number epoch (Detaches j ending) v next spare m kept h = has_next k number epoch v next h (stays_here (Detaches j ending) v next k tt m) (at_one StaysFree same_free j k m.conn _ h.conn v next (ap conns_of m.gives) m.is h.is (record { free = λ a. shut_wires (tail_of ending) m.conn.wires (tail_free _ ending) a })) (same_own k number epoch v next h (ap own_of m.gives)) (new_row k number epoch v next m.row _ h m.is_row (ap row_of m.gives) refl) (ap epoch_of m.gives)
has_keeps k number epoch (Serves j z) v next spare m kept h = has_next k number epoch v next h (stays_here (Serves j z) v next k tt m) (at_one StaysFree same_free j k m.conn _ h.conn v next (ap conns_of m.gives) m.is h.is (record { free = λ a. put_wires (Down (St z) ∷ []) m.conn.wires (tt, tt) a })) (same_own k number epoch v next h (ap own_of m.gives)) (new_row k number epoch v next m.row _ h m.is_row (ap row_of m.gives) refl) (ap epoch_of m.gives)
has_keeps k number epoch (Keeps z) v next spare m kept h = has_next k number epoch v next h (stays_here (Keeps z) v next k tt m) (at_none StaysFree same_free k h.conn v next (ap conns_of m.gives) h.is) (same_own k number epoch v next h (ap own_of m.gives)) (new_row k number epoch v next m.row _ h m.is_row (ap row_of m.gives) refl) (ap epoch_of m.gives)
has_keeps k number epoch (Demands j) v next spare m kept h = has_next k number epoch v next h (stays_here (Demands j) v next k tt m) (at_one StaysFree same_free j k m.conn _ h.conn v next (ap conns_of m.gives) m.is h.is (record { free = λ a. put_wires (Down Req ∷ []) m.conn.wires (tt, tt) a })) (same_own k number epoch v next h (ap own_of m.gives)) (same_row k number epoch v next h (ap row_of m.gives)) (ap epoch_of m.gives)

-- ---- rounds

goes_keeps : {A : Type 0} (k number epoch : ℕ) (v last : View A) → GoesBy (IsSparing k) v last → LinkKept v → Has k number epoch v → LinkKept last × Has k number epoch last
goes_keeps k number epoch v last goes kept h = kept_going (IsSparing k) (Has k number epoch) (has_keeps k number epoch) v last goes kept h

round_keeps : {A : Type 0} (k number epoch : ℕ) (v last : View A) → IsRound (IsSparing k) k v last → LinkKept v → Has k number epoch v → LinkKept last × Has k number epoch last
round_keeps {A = A} k number epoch v last round kept h =
    let mid = goes_keeps k number epoch v round.taken round.up kept h in
    let then = goes_keeps k number epoch round.taken round.read round.down mid.0 mid.1 in
    goes_keeps k number epoch round.read last round.rest then.0 then.1

rounds_keep : {A : Type 0} (k number epoch n : ℕ) (v last : View A) → AreRounds (IsSparing k) k n v last → LinkKept v → Has k number epoch v → LinkKept last × Has k number epoch last
rounds_keep k number epoch zero v last same kept h = subst (λ x. LinkKept x × Has k number epoch x) (sym same) (kept, h)
rounds_keep k number epoch (suc n) v last (next, round, more) kept h =
    let one = round_keeps k number epoch v next round kept h in
    rounds_keep k number epoch n next last more one.0 one.1

-- with two rounds to go at most, and a session, the client is online
soon_online : {A : Type 0} (v : View A) (k : ℕ) (c : Conn A) (o : Own A) → LinkKept v → v.here ≡ Some k → v.conns k ≡ Some c → v.own ≡ Some o → (x : Client) → c.client ≡ x → rounds_to_go x ≤ 2 → c.client ≡ InOnline o.number
soon_online {A = A} v k c o kept here is own (InOnline p) client low =
    let it = fits_of v k c kept here is in
    let mine : IsOwn v.own p = own_online v.own v.epoch v.sessions it.0 p (sym it.1 ∙ client) it.2 in
    let one : mine.0 ≡ o = some_one v.own mine.0 o mine.1 own in
    client ∙ ap InOnline (sym mine.2 ∙ ap (λ (x : Own A). x.number) one)
soon_online {A = A} v k c o kept here is own InBind client low = absurd (no_bind v k c o kept here is own client)
soon_online {A = A} v k c o kept here is own InEnable client low = absurd (no_enable v k c o kept here is own client)
soon_online {A = A} v k c o kept here is own InHeader1 client low = absurd (omega arith)
soon_online {A = A} v k c o kept here is own InFeatures1 client low = absurd (omega arith)
soon_online {A = A} v k c o kept here is own InAuth client low = absurd (omega arith)
soon_online {A = A} v k c o kept here is own InResponse client low = absurd (omega arith)
soon_online {A = A} v k c o kept here is own InHeader2 client low = absurd (omega arith)
soon_online {A = A} v k c o kept here is own InFeatures2 client low = absurd (omega arith)
soon_online {A = A} v k c o kept here is own (InResume p) client low = absurd (omega arith)

pub resumed_then : {A : Type 0} (v last : View A) (k n : ℕ) (c d : Conn A) (own : Own A) (row ended : Row A) → LinkReached v → v.here ≡ Some k → v.conns k ≡ Some c → v.own ≡ Some own → v.row ≡ Some row → row.number ≡ own.number → c.client ≡ InHeader1 → AreRounds IsAny k n v last → 5 ≤ n → last.conns k ≡ Some d → is_flowing d.wires ≡ true → last.row ≡ Some ended → ended.number ≡ row.number → (d.client ≡ InOnline own.number) × (last.epoch ≡ v.epoch)
resumed_then {A = A} v last k n c d own row ended reached here is is_own is_row same client rounds low at flows is_ended still = (online, end.1.epoch_is)
  where
    kept : LinkKept v
    kept = link_kept v reached

    begins : Has k own.number v.epoch v
    begins =
        let it = fits_of v k c kept here is in
        let whole : AreNoRefusals (down_whole c.wires) = subst (λ (ws : List (DownWord A)). AreNoRefusals ws) (sym it.4) (more_free (down_of it.0) (tail_of c.ending) (first_free it.0 (sym it.1 ∙ client)) (tail_free _ c.ending)) in
        record { here = here; conn = c; is = is; free = words_free c.wires whole; own = own; is_own = is_own; own_number = refl; row = row; is_row = is_row; row_number = same; epoch_is = refl }

    spared : AreRounds (IsSparing k) k n v last
    spared = spared_rounds k own.number n v last (calm_rounds IsAny n v last k c d rounds here is at flows).0 kept (row, is_row, same) (ended, is_ended, still ∙ same)

    end : LinkKept last × Has k own.number v.epoch last
    end = rounds_keep k own.number v.epoch n v last spared kept begins

    near : rounds_to_go d.client ≤ 2
    near =
        let first : rounds_to_go c.client ≡ 7 = ap rounds_to_go client in
        low_then v last k n 2 c d reached here is rounds (omega arith) at flows

    online : d.client ≡ InOnline own.number
    online = soon_online last k d end.1.own end.0 end.1.here at end.1.is_own d.client refl near ∙ ap InOnline end.1.own_number
