-- Each move keeps that a resumption on the connection dialled last states what the client has handled.
use Rattle.std.proofs.Common.{◌≡◌, ℕ, ◌+◌, ◌-◌, true, false, ◌&&◌, List, [], ◌∷◌, ◌++◌, length, drop, refl, sym, ap, ◌∙◌, subst, Option, None, Some}
use Rattle.sim_2_links.proofs.Entries.{at_same, Entry, New, Old, entry, was, is_has}
use Rattle.sim_2_links.proofs.Tables.{cut_whole_up, send_down_whole_up, UpRow, DownRow}
use Rattle.sim_2_links.proofs.CutLinks.{some_one, some_same, cut_conn}
use Rattle.sim_2_links.proofs.Hands.{no_entry, up_row, down_row}
use Rattle.sim_2_links.proofs.Asking.{at_features, steps, steps_at, off_ready}
use Rattle.sim_2_links.proofs.Resumption.{AsksFirst, asks_first}
use Rattle.sim_2_links.proofs.Enabling.{enabled_if}
use Rattle.sim_2_links.proofs.ReadBound.{named_if}
use Rattle.sim_2_links.proofs.ReadResumed.{resent_if}
use Rattle.sim_2_links.proofs.ReadEnabled.{known_if}
use Rattle.sim_2_links.proofs.Late.{late_if}
use Rattle.sim_2_links.proofs.Puts.{putting}
use Rattle.sim_2_links.proofs.Putting.{serving}
use Rattle.sim_2_links.proofs.Serving.{sent_down}
use Rattle.sim_2_links.proofs.Newest.{IsNewest, asking_client, asking_phase, at_asking, plain_asks, IsOther, client_newest, IsHeardSame, heard_by, heard_same, server_newest, same_words, shut_words, no_word_after, footed_words}
use Rattle.sim_2_links.specs.Words.{St, Req, Ack, up_stanzas, down_stanzas, UpWord, Hdr, ResumeAt, Bind, Enable, Up, Feat, Failed, Bound, Enabled, Down, InResume, InBind, InEnable, InOnline, Ready, AtSession, TooHigh}
use Rattle.sim_2_links.specs.Wires.{is_flowing, up_whole, send_up, send_down, left_up, left_down, cut, halt}
use Rattle.sim_2_links.specs.Stages.{Reoffered, AsksResume, Ending, Errs, Closes, tail_of, foot_of, Conn, IsAt, IsEarly}
use Rattle.sim_2_links.specs.Views.{Table, with_at, alter, has, Session, Row, View, session_on, carries}
use Rattle.sim_2_links.specs.LinkMoves.{ways_cut, IsCut, IsLetGo, dialled, IsDialled, IsUpHand, IsDownHand, handled_if, IsUpStanza, stated_if, IsUpRequest, acked_if, IsUpCount, read_if, IsDownStanza, told_if, IsDownRequest, heard_if, IsDownCount}
use Rattle.sim_2_links.specs.SessionMoves.{IsAskResume, IsAskBind, IsRefused, shut, lost_if, IsDetached, IsRowEnded, unread, IsBound, IsReadBound, IsEnabled, IsReadEnabled, IsClientPut, resumed_if, resumed_words, IsResumedHere, IsResumedLate, again, IsReadResumed, IsParked}
use Rattle.sim_2_links.specs.EndMoves.{IsFailed, IsTooHigh, IsFootTaken, IsUncountedShut, IsUncountedGone, IsGone, with_foot, IsFooted, IsForgotten}
use Rattle.sim_2_links.specs.PutMoves.{IsClientQueued, IsClientRequest, IsServerPut, IsServerQueued, IsServerRequest}
use Rattle.sim_2_links.specs.Links.{IsAsked, ConnKept, IsPlaced, RowKept, LinkKept}

-- the network, and the client by itself

pub cut_newest : {A : Type 0} (n : Option ℕ) (k i j : ℕ) (v next : View A) → IsCut k i j v next → IsNewest n v → IsNewest n next
cut_newest n k i j v next m a = subst (IsNewest n) (sym m.gives) (server_newest n v k m.conn (cut_conn i j m.conn) v.row (alter (ways_cut (has v.here k) m.conn i j) v.sessions) v.free m.is
    (heard_by (ways_cut (has v.here k) m.conn i j) v.sessions (λ q s. refl)) (same_words m.conn.wires (cut i j m.conn.wires) (cut_whole_up i j m.conn.wires)) a)

pub dial_newest : {A : Type 0} (n : Option ℕ) (k : ℕ) (v next : View A) → IsDialled k v next → IsNewest n v → IsNewest (Some k) next
dial_newest {A = A} n k v next m a = subst (IsNewest (Some k)) (sym m.gives) (record { here = λ j e. e; present = λ j p h c more s is found word there. by j p h c more is word (entry k dialled v.conns j c found) })
  where
    by : (j p h : ℕ) (c : Conn A) (more : List (UpWord A)) → Some k ≡ Some j → up_whole c.wires ≡ ResumeAt p h ∷ more → {C : Type 0} → Entry k dialled v.conns j c → C
    by j p h c more is word (New same one) = absurd (let e : Hdr ∷ [] ≡ ResumeAt p h ∷ more = ap (λ (x : Conn A). up_whole x.wires) one ∙ word in let no_way : ⊥ = cc in no_way)
    by j p h c more is word (Old ne there) = absurd (ne (some_same k j is))

pub let_go_newest : {A : Type 0} (n : Option ℕ) (k : ℕ) (v next : View A) → IsLetGo k v next → IsNewest n v → IsNewest n next
let_go_newest n k v next m a = subst (IsNewest n) (sym m.gives) (record { here = λ j e. no_entry j e; present = a.present })

pub forgotten_newest : {A : Type 0} (n : Option ℕ) (v next : View A) → IsForgotten v next → IsNewest n v → IsNewest n next
forgotten_newest n v next m a = subst (IsNewest n) (sym m.gives) (record { here = a.here; present = a.present })

pub footed_newest : {A : Type 0} (n : Option ℕ) (k : ℕ) (v next : View A) → IsFooted k v next → IsNewest n v → IsNewest n next
footed_newest n k v next m a = subst (IsNewest n) (sym m.gives) (server_newest n v k m.conn (record m.conn { footed = true; wires = with_foot m.conn.wires }) v.row v.sessions v.free m.is (heard_same v.sessions) (footed_words m.conn.wires m.whole) a)

pub put_newest : {A : Type 0} (n : Option ℕ) (k : ℕ) (z : A) (v next : View A) → IsClientPut k z v next → LinkKept next → IsNewest n v → IsNewest n next
put_newest n k z v next m kept a = subst (IsNewest n) (sym m.gives) (client_newest n v k (record m.conn { wires = send_up (Up (St z) ∷ []) m.conn.wires }) (Some (record m.own { queue = m.own.queue ++ z ∷ [] })) v.epoch (alter (λ q s. putting (has (Some m.own.number) q) z s) v.sessions) m.here
    (subst IsOther (sym m.client) tt) (subst LinkKept m.gives kept) a)

pub queued_newest : {A : Type 0} (n : Option ℕ) (z : A) (v next : View A) → IsClientQueued z v next → IsNewest n v → IsNewest n next
queued_newest {A = A} n z v next m a = subst (IsNewest n) (sym m.gives) (record { here = a.here; present = λ k p h c more s is found word there. let w = was f v.sessions p s there in a.present k p h c more w.0 is found word w.1 ∙ ap (λ (x : Session A). length x.down.got) w.2 })
  where
    f : ℕ → Session A → Session A
    f = λ q s. putting (has (Some m.own.number) q) z s

pub request_newest : {A : Type 0} (n : Option ℕ) (k : ℕ) (v next : View A) → IsClientRequest k v next → LinkKept next → IsNewest n v → IsNewest n next
request_newest n k v next m kept a = subst (IsNewest n) (sym m.gives) (client_newest n v k (record m.conn { wires = send_up (Up Req ∷ []) m.conn.wires }) v.own v.epoch v.sessions m.here (subst IsOther (sym m.client) tt) (subst LinkKept m.gives kept) a)

-- the client takes a word

pub down_hand_newest : {A : Type 0} (n : Option ℕ) (k : ℕ) (v next : View A) → IsDownHand k v next → LinkKept v → LinkKept next → IsNewest n v → IsNewest n next
down_hand_newest {A = A} n k v next m kept after a = subst (IsNewest n) (sym m.gives) (client_newest n v k (record m.conn { client = m.client; wires = send_up m.puts (left_down m.rest m.conn.wires) }) v.own v.epoch v.sessions m.here other (subst LinkKept m.gives after) a)
  where
    old : ConnKept v k m.conn
    old = kept.conns k m.conn m.is

    to : DownRow old.stage m.conn m.client m.puts m.rest
    to = down_row old.stage m.conn m.word m.rest m.client m.puts old.at m.first m.hand

    other : IsOther m.client
    other = by m.client refl
      where
        by : (c : _) → m.client ≡ c → IsOther c
        by (InResume p) e = plain_asks to.row p (to.plain (subst IsEarly old.at.client m.early)) (to.state ∙ e)
        by _ e = tt

pub ask_bind_newest : {A : Type 0} (n : Option ℕ) (k : ℕ) (v next : View A) → IsAskBind k v next → LinkKept next → IsNewest n v → IsNewest n next
ask_bind_newest n k v next m kept a = subst (IsNewest n) (sym m.gives) (client_newest n v k (steps m.conn InBind (Bind ∷ []) m.rest) v.own v.epoch v.sessions m.here tt (subst LinkKept m.gives kept) a)

pub refused_newest : {A : Type 0} (n : Option ℕ) (k : ℕ) (v next : View A) → IsRefused k v next → LinkKept next → IsNewest n v → IsNewest n next
refused_newest n k v next m kept a = subst (IsNewest n) (sym m.gives) (client_newest n v k (steps m.conn InBind (Bind ∷ []) m.rest) None v.epoch v.sessions m.here tt (subst LinkKept m.gives kept) a)

pub read_bound_newest : {A : Type 0} (n : Option ℕ) (k number : ℕ) (v next : View A) → IsReadBound k number v next → LinkKept next → IsNewest n v → IsNewest n next
read_bound_newest n k number v next m kept a = subst (IsNewest n) (sym m.gives) (client_newest n v k (steps m.conn InEnable (Enable ∷ []) m.rest) v.own (v.epoch + 1) (alter (λ q s. named_if (has (Some number) q) (v.epoch + 1) s) v.sessions) m.here tt (subst LinkKept m.gives kept) a)

pub read_enabled_newest : {A : Type 0} (n : Option ℕ) (k number : ℕ) (v next : View A) → IsReadEnabled k number v next → LinkKept next → IsNewest n v → IsNewest n next
read_enabled_newest n k number v next m kept a = subst (IsNewest n) (sym m.gives) (client_newest n v k (record m.conn { client = InOnline number; wires = send_up [] (left_down m.rest m.conn.wires) }) (Some (record { number = number; acked = 0; handled = 0; queue = [] })) v.epoch
    (alter (λ q s. known_if (has (Some number) q) s) v.sessions) m.here tt (subst LinkKept m.gives kept) a)

pub read_resumed_newest : {A : Type 0} (n : Option ℕ) (k : ℕ) (v next : View A) → IsReadResumed k v next → LinkKept next → IsNewest n v → IsNewest n next
read_resumed_newest n k v next m kept a = subst (IsNewest n) (sym m.gives) (client_newest n v k (record m.conn { client = InOnline m.own.number; wires = send_up (again (drop (m.h - m.own.acked) m.own.queue)) (left_down m.rest m.conn.wires) })
    (Some (record m.own { acked = m.h; queue = drop (m.h - m.own.acked) m.own.queue })) v.epoch (alter (λ q s. resent_if (has (Some m.own.number) q) (is_flowing m.conn.wires) s) v.sessions) m.here tt (subst LinkKept m.gives kept) a)

pub down_stanza_newest : {A : Type 0} (n : Option ℕ) (k : ℕ) (z : A) (v next : View A) → IsDownStanza k z v next → LinkKept next → IsNewest n v → IsNewest n next
down_stanza_newest n k z v next m kept a = subst (IsNewest n) (sym m.gives) (client_newest n v k (record m.conn { wires = send_up [] (left_down m.rest m.conn.wires) }) (Some (record m.own { handled = m.own.handled + 1 })) v.epoch
    (alter (λ q s. read_if (has (Some m.own.number) q) z (down_stanzas m.rest) s) v.sessions) m.here (subst IsOther (sym m.client) tt) (subst LinkKept m.gives kept) a)

pub down_request_newest : {A : Type 0} (n : Option ℕ) (k : ℕ) (v next : View A) → IsDownRequest k v next → LinkKept next → IsNewest n v → IsNewest n next
down_request_newest n k v next m kept a = subst (IsNewest n) (sym m.gives) (client_newest n v k (record m.conn { wires = send_up (Up (Ack m.own.handled) ∷ []) (left_down m.rest m.conn.wires) }) v.own v.epoch
    (alter (λ q s. told_if (has (Some m.own.number) q) s) v.sessions) m.here (subst IsOther (sym m.client) tt) (subst LinkKept m.gives kept) a)

pub down_count_newest : {A : Type 0} (n : Option ℕ) (k h : ℕ) (v next : View A) → IsDownCount k h v next → LinkKept next → IsNewest n v → IsNewest n next
down_count_newest n k h v next m kept a = subst (IsNewest n) (sym m.gives) (client_newest n v k (record m.conn { wires = send_up [] (left_down m.rest m.conn.wires) }) (Some (record m.own { acked = h; queue = drop (h - m.own.acked) m.own.queue })) v.epoch
    (alter (λ q s. heard_if (has (Some m.own.number) q) h s) v.sessions) m.here (subst IsOther (sym m.client) tt) (subst LinkKept m.gives kept) a)

-- it asks to resume its session, with the count that it has handled

pub ask_resume_newest : {A : Type 0} (n : Option ℕ) (k : ℕ) (v next : View A) → IsAskResume k v next → LinkKept v → IsNewest n v → IsNewest n next
ask_resume_newest {A = A} n k v next m kept a = subst (IsNewest n) (sym m.gives) (record {
  here = a.here;
  present = λ j p h c more s is found word there. by j p h c more s is word there (entry k new v.conns j c found);
})
  where
    f : ℕ → Session A → Session A
    f = λ q s. told_if (has (Some m.own.number) q) s

    new : Conn A
    new = steps m.conn (InResume m.own.number) (ResumeAt m.own.number m.own.handled ∷ []) m.rest

    old : ConnKept v k m.conn
    old = kept.conns k m.conn m.is

    at : IsAt Reoffered m.conn
    at = subst (λ x. IsAt x m.conn) (at_features old.stage (sym old.at.client ∙ m.client)) old.at

    at' : IsAt (AsksResume m.own.number m.own.handled) (steps m.conn (InResume m.own.number) (ResumeAt m.own.number m.own.handled ∷ []) m.rest)
    at' = steps_at Reoffered (AsksResume m.own.number m.own.handled) m.conn Feat m.rest (InResume m.own.number) (ResumeAt m.own.number m.own.handled ∷ []) at (old.piped.unfooted (is_has v.here k m.here)) m.first refl refl refl refl (λ e. absurd e)

    by : (j p h : ℕ) (c : Conn A) (more : List (UpWord A)) (s : Session A) → n ≡ Some j → up_whole c.wires ≡ ResumeAt p h ∷ more → alter f v.sessions p ≡ Some s → Entry k new v.conns j c → h ≡ length s.down.got
    by j p h c more s is word there (New same one) =
        let words : ResumeAt m.own.number m.own.handled ∷ foot_of m.conn.footed ≡ ResumeAt p h ∷ more = sym at'.up ∙ ap (λ (x : Conn A). up_whole x.wires) one ∙ word in
        let number : m.own.number ≡ p = cc in
        let count : m.own.handled ≡ h = cc in
        let own = kept.own m.own m.is_own in
        let w = was f v.sessions p s there in
        let mine : own.session ≡ w.0 = some_one (v.sessions p) own.session w.0 (subst (λ q. v.sessions q ≡ Some own.session) number own.is) w.1 in
        sym count ∙ own.handled ∙ ap (λ (x : Session A). length x.down.got) mine ∙ ap (λ (x : Session A). length x.down.got) w.2
    by j p h c more s is word there (Old ne at_j) = absurd (ne (some_same k j (sym (a.here k m.here) ∙ is)))

-- the server takes a word outside of sessions

pub up_hand_newest : {A : Type 0} (n : Option ℕ) (k : ℕ) (v next : View A) → IsUpHand k v next → LinkKept v → LinkKept next → IsNewest n v → IsNewest n next
up_hand_newest {A = A} n k v next m kept after a = subst (IsNewest n) (sym m.gives) (server_newest n v k m.conn new v.row v.sessions v.free m.is (heard_same v.sessions)
    (λ p h more word. plain_asks old.stage p to.before (sym old.at.client ∙ asking_client (record v { conns = with_at k new v.conns }) k p h new more (subst LinkKept m.gives after) (at_same k new v.conns) word)) a)
  where
    new : Conn A
    new = record m.conn { phase = m.phase; wires = send_down m.puts (left_up m.rest m.conn.wires) }

    old : ConnKept v k m.conn
    old = kept.conns k m.conn m.is

    to : UpRow old.stage m.conn m.phase m.puts m.rest
    to = up_row old.stage m.conn m.word m.rest m.phase m.puts old.at m.first m.hand

pub failed_newest : {A : Type 0} (n : Option ℕ) (k : ℕ) (v next : View A) → IsFailed k v next → LinkKept v → IsNewest n v → IsNewest n next
failed_newest {A = A} n k v next m kept a = subst (IsNewest n) (sym m.gives) (server_newest n v k m.conn (record m.conn { wires = send_down (Failed ∷ []) (left_up m.rest m.conn.wires) }) v.row v.sessions v.free m.is (heard_same v.sessions)
    (λ p h more word. no_word_after m.conn.footed p h more (asking.left ∙ sym (send_down_whole_up (Failed ∷ []) (left_up m.rest m.conn.wires)) ∙ word)) a)
  where
    old : ConnKept v k m.conn
    old = kept.conns k m.conn m.is

    asking : AsksFirst old.stage m.conn m.p m.h m.rest
    asking = asks_first old.stage m.conn m.p m.h m.rest old.at m.first

-- words in sessions come and go on connections in another phase

in_session : {A C : Type 0} (v : View A) (k p h q : ℕ) (c : Conn A) (more : List (UpWord A)) → LinkKept v → v.conns k ≡ Some c → up_whole c.wires ≡ ResumeAt p h ∷ more → c.phase ≡ AtSession q → C
in_session v k p h q c more kept is word phase = absurd (let two : AtSession q ≡ Ready = sym phase ∙ asking_phase v k p h c more kept is word in let no_way : ⊥ = cc in no_way)

on_phase_session : {A : Type 0} (v : View A) (k : ℕ) (c : Conn A) (r : Row A) → LinkKept v → v.conns k ≡ Some c → v.row ≡ Some r → r.on ≡ Some k → c.phase ≡ Ready → ⊥
on_phase_session {A = A} v k c r kept is is_row on ready =
    let row : RowKept v.conns v.sessions r = kept.row r is_row in
    let placed : IsPlaced v.conns r row.session (Some k) = subst (λ o. IsPlaced v.conns r row.session o) on row.placed in
    let held : session_on c ≡ Some r.number = subst (λ (x : Conn A). session_on x ≡ Some r.number) (some_one (v.conns k) placed.0 c placed.1 is) placed.2 in
    no_entry r.number (sym (off_ready c ready) ∙ held)

-- the connection of the server's session changes, and stays in its phase
row_newest : {A : Type 0} (n : Option ℕ) (v : View A) (k : ℕ) (old new : Conn A) (r : Row A) (row : Option (Row A)) (sessions : Table (Session A)) → v.conns k ≡ Some old → v.row ≡ Some r → r.on ≡ Some k → new.phase ≡ old.phase → IsHeardSame v.sessions sessions →
    LinkKept v → LinkKept (record v { conns = with_at k new v.conns; row = row; sessions = sessions }) → IsNewest n v → IsNewest n (record v { conns = with_at k new v.conns; row = row; sessions = sessions })
row_newest n v k old new r row sessions is is_row on phase same kept after a = server_newest n v k old new row sessions v.free is same
    (λ p h more word. absurd (on_phase_session v k old r kept is is_row on (sym phase ∙ asking_phase (record v { conns = with_at k new v.conns; row = row; sessions = sessions }) k p h new more after (at_same k new v.conns) word))) a

pub up_stanza_newest : {A : Type 0} (n : Option ℕ) (k : ℕ) (z : A) (v next : View A) → IsUpStanza k z v next → LinkKept v → LinkKept next → IsNewest n v → IsNewest n next
up_stanza_newest n k z v next m kept after a = subst (IsNewest n) (sym m.gives) (row_newest n v k m.conn (record m.conn { wires = send_down [] (left_up m.rest m.conn.wires) }) m.row (Some (record m.row { handled = m.row.handled + 1 })) (alter (λ q s. handled_if (has (Some m.row.number) q) z (up_stanzas m.rest) s) v.sessions) m.is m.is_row m.on refl
    (heard_by (λ q s. handled_if (has (Some m.row.number) q) z (up_stanzas m.rest) s) v.sessions (λ q s. refl)) kept (subst LinkKept m.gives after) a)

pub up_request_newest : {A : Type 0} (n : Option ℕ) (k : ℕ) (v next : View A) → IsUpRequest k v next → LinkKept v → LinkKept next → IsNewest n v → IsNewest n next
up_request_newest n k v next m kept after a = subst (IsNewest n) (sym m.gives) (row_newest n v k m.conn (record m.conn { wires = send_down (Down (Ack m.row.handled) ∷ []) (left_up m.rest m.conn.wires) }) m.row v.row (alter (λ q s. stated_if (has (Some m.row.number) q) s) v.sessions) m.is m.is_row m.on refl
    (heard_by (λ q s. stated_if (has (Some m.row.number) q) s) v.sessions (λ q s. refl)) kept (subst LinkKept m.gives after) a)

pub up_count_newest : {A : Type 0} (n : Option ℕ) (k h : ℕ) (v next : View A) → IsUpCount k h v next → LinkKept v → LinkKept next → IsNewest n v → IsNewest n next
up_count_newest n k h v next m kept after a = subst (IsNewest n) (sym m.gives) (row_newest n v k m.conn (record m.conn { wires = send_down [] (left_up m.rest m.conn.wires) }) m.row (Some (record m.row { acked = h; queue = drop (h - m.row.acked) m.row.queue })) (alter (λ q s. acked_if (has (Some m.row.number) q) h s) v.sessions) m.is m.is_row m.on refl
    (heard_by (λ q s. acked_if (has (Some m.row.number) q) h s) v.sessions (λ q s. refl)) kept (subst LinkKept m.gives after) a)

pub server_put_newest : {A : Type 0} (n : Option ℕ) (k : ℕ) (z : A) (v next : View A) → IsServerPut k z v next → LinkKept v → LinkKept next → IsNewest n v → IsNewest n next
server_put_newest n k z v next m kept after a = subst (IsNewest n) (sym m.gives) (row_newest n v k m.conn (sent_down m.conn (St z)) m.row (Some (record m.row { queue = m.row.queue ++ z ∷ [] })) (alter (λ q s. serving (has (Some m.row.number) q) z s) v.sessions) m.is m.is_row m.on refl
    (heard_by (λ q s. serving (has (Some m.row.number) q) z s) v.sessions (λ q s. refl)) kept (subst LinkKept m.gives after) a)

pub server_request_newest : {A : Type 0} (n : Option ℕ) (k : ℕ) (v next : View A) → IsServerRequest k v next → LinkKept v → LinkKept next → IsNewest n v → IsNewest n next
server_request_newest n k v next m kept after a = subst (IsNewest n) (sym m.gives) (row_newest n v k m.conn (sent_down m.conn Req) m.row v.row v.sessions m.is m.is_row m.on refl (heard_same v.sessions) kept (subst LinkKept m.gives after) a)

pub enabled_newest : {A : Type 0} (n : Option ℕ) (k : ℕ) (v next : View A) → IsEnabled k v next → LinkKept v → LinkKept next → IsNewest n v → IsNewest n next
enabled_newest n k v next m kept after a = subst (IsNewest n) (sym m.gives) (row_newest n v k m.conn (record m.conn { wires = send_down (Enabled m.row.number ∷ []) (left_up m.rest m.conn.wires) }) m.row (Some (record m.row { counted = true })) (alter (λ q s. enabled_if (has (Some m.row.number) q) (is_flowing m.conn.wires) s) v.sessions) m.is m.is_row m.on refl
    (heard_by (λ q s. enabled_if (has (Some m.row.number) q) (is_flowing m.conn.wires) s) v.sessions (λ q s. refl)) kept (subst LinkKept m.gives after) a)

pub server_queued_newest : {A : Type 0} (n : Option ℕ) (z : A) (v next : View A) → IsServerQueued z v next → IsNewest n v → IsNewest n next
server_queued_newest {A = A} n z v next m a = subst (IsNewest n) (sym m.gives) (record { here = a.here; present = λ k p h c more s is found word there. let w = was f v.sessions p s there in a.present k p h c more w.0 is found word w.1 ∙ ap (λ (x : Session A). length x.down.got) w.2 })
  where
    f : ℕ → Session A → Session A
    f = λ q s. serving (has (Some m.row.number) q) z s

-- a session comes to the connection

pub resumed_here_newest : {A : Type 0} (n : Option ℕ) (k : ℕ) (v next : View A) → IsResumedHere k v next → LinkKept next → IsNewest n v → IsNewest n next
resumed_here_newest {A = A} n k v next m after a = subst (IsNewest n) (sym m.gives) (server_newest n v k m.conn new (Some new_row) (alter f v.sessions) v.free m.is (heard_by f v.sessions (λ q s. refl))
    (λ p h more word. in_session (record v { conns = with_at k new v.conns; row = Some new_row; sessions = alter f v.sessions }) k p h m.row.number new more (subst LinkKept m.gives after) (at_same k new v.conns) word refl) a)
  where
    f : ℕ → Session A → Session A
    f = λ q s. resumed_if (has (Some m.row.number) q) (is_flowing m.conn.wires) s

    new : Conn A
    new = record m.conn { phase = AtSession m.row.number; wires = send_down (resumed_words m.row m.h) (left_up m.rest m.conn.wires) }

    new_row : Row A
    new_row = record m.row { on = Some k; acked = m.h; queue = drop (m.h - m.row.acked) m.row.queue }

pub resumed_late_newest : {A : Type 0} (n : Option ℕ) (k : ℕ) (v next : View A) → IsResumedLate k v next → LinkKept next → IsNewest n v → IsNewest n next
resumed_late_newest {A = A} n k v next m after a = subst (IsNewest n) (sym m.gives) (server_newest n v k m.conn new (Some new_row) (alter f v.sessions) v.free m.is (heard_by f v.sessions (λ q s. refl))
    (λ p h more word. in_session (record v { conns = with_at k new v.conns; row = Some new_row; sessions = alter f v.sessions }) k p h m.row.number new more (subst LinkKept m.gives after) (at_same k new v.conns) word refl) a)
  where
    f : ℕ → Session A → Session A
    f = λ q s. late_if (has (Some m.row.number) q) m.h s

    new : Conn A
    new = record m.conn { phase = AtSession m.row.number; wires = send_down (resumed_words m.row m.h) (left_up m.rest m.conn.wires) }

    new_row : Row A
    new_row = record m.row { on = Some k; acked = m.h; queue = drop (m.h - m.row.acked) m.row.queue }

pub bound_newest : {A : Type 0} (n : Option ℕ) (k number : ℕ) (v next : View A) → IsBound k number v next → LinkKept v → LinkKept next → IsNewest n v → IsNewest n next
bound_newest {A = A} n k number v next m kept after a = subst (IsNewest n) (sym m.gives) (record {
  here = a.here;
  present = λ j p h c more s is found word there. by j p h c more s is word (entry k new v.conns j c found) found (entry number unread v.sessions p s there);
})
  where
    new : Conn A
    new = record m.conn { phase = AtSession number; wires = send_down (Bound number ∷ []) (left_up m.rest m.conn.wires) }

    by : (j p h : ℕ) (c : Conn A) (more : List (UpWord A)) (s : Session A) → n ≡ Some j → up_whole c.wires ≡ ResumeAt p h ∷ more → Entry k new v.conns j c → with_at k new v.conns j ≡ Some c → Entry number unread v.sessions p s → h ≡ length s.down.got
    by j p h c more s is word (New same one) found e = in_session (record v {
      conns = with_at k new v.conns;
      row = Some (record { number = number; on = Some k; counted = false; acked = 0; handled = 0; queue = [] });
      sessions = with_at number unread v.sessions;
      free = number + 1;
    }) j p h number c more (subst LinkKept m.gives after) found word (ap (λ (x : Conn A). x.phase) (sym one))
    by j p h c more s is word (Old ne at_j) found (Old other there) = a.present j p h c more s is at_j word there
    by j p h c more s is word (Old ne at_j) found (New same one) =
        let asked : IsAsked v.sessions (AsksResume p h) = subst (λ x. IsAsked v.sessions x) (at_asking v j p h c more kept at_j word) (kept.conns j c at_j).asked in
        no_entry asked.0 (sym m.fresh ∙ subst (λ x. v.sessions x ≡ Some asked.0) (sym same) asked.1)

-- connections and rows end

shut_newest : {A : Type 0} (n : Option ℕ) (v : View A) (k : ℕ) (ending : Ending) (c : Conn A) (row : Option (Row A)) (sessions : Table (Session A)) → v.conns k ≡ Some c → IsHeardSame v.sessions sessions → IsNewest n v →
    IsNewest n (record v { conns = with_at k (shut ending c) v.conns; row = row; sessions = sessions })
shut_newest n v k ending c row sessions is same a = server_newest n v k c (shut ending c) row sessions v.free is same (same_words c.wires (halt (send_down (tail_of ending) c.wires)) (shut_words ending c.wires)) a

gone_words : {A : Type 0} (n : Option ℕ) (v : View A) (k : ℕ) (c : Conn A) (row : Option (Row A)) → v.conns k ≡ Some c → IsNewest n v → IsNewest n (record v { conns = with_at k (record c { gone = true }) v.conns; row = row })
gone_words n v k c row is a = server_newest n v k c (record c { gone = true }) row v.sessions v.free is (heard_same v.sessions) (same_words c.wires c.wires refl) a

pub too_high_newest : {A : Type 0} (n : Option ℕ) (k : ℕ) (v next : View A) → IsTooHigh k v next → IsNewest n v → IsNewest n next
too_high_newest n k v next m a = subst (IsNewest n) (sym m.gives) (shut_newest n v k (Errs TooHigh) m.conn None v.sessions m.is (heard_same v.sessions) a)

pub foot_taken_newest : {A : Type 0} (n : Option ℕ) (k : ℕ) (v next : View A) → IsFootTaken k v next → IsNewest n v → IsNewest n next
foot_taken_newest n k v next m a = subst (IsNewest n) (sym m.gives) (shut_newest n v k Closes m.conn v.row v.sessions m.is (heard_same v.sessions) a)

pub uncounted_shut_newest : {A : Type 0} (n : Option ℕ) (k : ℕ) (ending : Ending) (v next : View A) → IsUncountedShut k ending v next → IsNewest n v → IsNewest n next
uncounted_shut_newest n k ending v next m a = subst (IsNewest n) (sym m.gives) (shut_newest n v k ending m.conn None v.sessions m.is (heard_same v.sessions) a)

pub detached_newest : {A : Type 0} (n : Option ℕ) (k : ℕ) (ending : Ending) (v next : View A) → IsDetached k ending v next → IsNewest n v → IsNewest n next
detached_newest n k ending v next m a = subst (IsNewest n) (sym m.gives) (shut_newest n v k ending m.conn (Some (record m.row { on = None })) (alter (λ q s. lost_if (has (Some m.row.number) q) (s.counted && (has v.here k && has (carries m.conn) q)) s) v.sessions) m.is
    (heard_by (λ q s. lost_if (has (Some m.row.number) q) (s.counted && (has v.here k && has (carries m.conn) q)) s) v.sessions (λ q s. refl)) a)

pub parked_newest : {A : Type 0} (n : Option ℕ) (k : ℕ) (v next : View A) → IsParked k v next → IsNewest n v → IsNewest n next
parked_newest n k v next m a = subst (IsNewest n) (sym m.gives) (gone_words n v k m.conn (Some (record m.row { on = None })) m.is a)

pub gone_newest : {A : Type 0} (n : Option ℕ) (k : ℕ) (v next : View A) → IsGone k v next → IsNewest n v → IsNewest n next
gone_newest n k v next m a = subst (IsNewest n) (sym m.gives) (gone_words n v k m.conn v.row m.is a)

pub uncounted_gone_newest : {A : Type 0} (n : Option ℕ) (k : ℕ) (v next : View A) → IsUncountedGone k v next → IsNewest n v → IsNewest n next
uncounted_gone_newest n k v next m a = subst (IsNewest n) (sym m.gives) (gone_words n v k m.conn None m.is a)

pub row_ended_newest : {A : Type 0} (n : Option ℕ) (v next : View A) → IsRowEnded v next → IsNewest n v → IsNewest n next
row_ended_newest n v next m a = subst (IsNewest n) (sym m.gives) (record { here = a.here; present = a.present })
