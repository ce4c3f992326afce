-- Each move leaves a connection open on which the client works, but where it ends it.
use Rattle.std.proofs.Common.{◌≡◌, ◌≢◌, ◌⊎◌, ℕ, ◌-◌, true, false, drop, List, [], ◌∷◌, refl, sym, ap, ◌∙◌, subst, inl, inr, Some}
use Rattle.std.proofs.lemmas.Bool.{cases_eq}
use Rattle.sim_2_links.proofs.CutLinks.{some_one}
use Rattle.sim_2_links.proofs.Entries.{at_other, is_has}
use Rattle.sim_2_links.proofs.Expected.{expected_up}
use Rattle.sim_2_links.proofs.Hands.{flow_down, flow_up}
use Rattle.sim_2_links.proofs.Prompt.{same_flow_down, same_flow_up}
use Rattle.sim_2_links.proofs.Reached.{link_kept, move_keeps}
use Rattle.sim_2_links.proofs.Refusals.{too_high_left}
use Rattle.sim_2_links.specs.Words.{St, Req, Ack, UpWord, ResumeAt, Bind, Enable, Up, Foot, DownWord, Failed, Bound, Enabled, Down, Conflict, Constraint, TooHigh}
use Rattle.sim_2_links.specs.Wires.{Wires, is_flowing, up_words, send_down, send_up, left_down, left_up}
use Rattle.sim_2_links.specs.Stages.{Conn, Ending, Stands, Errs, Closes}
use Rattle.sim_2_links.specs.Views.{Table, View, has, with_at}
use Rattle.sim_2_links.specs.Links.{LinkKept}
use Rattle.sim_2_links.specs.SessionMoves.{IsReason, again, resumed_words}
use Rattle.sim_2_links.specs.Machine.{LinkMove, Cuts, Dials, LetsGo, Foots, Forgets, Puts, Queues, Requests, ReadsHand, AsksToResume, AsksToBind, ReadsFailed, ReadsResumed, ReadsBound, ReadsEnabled, ReadsStanza, ReadsRequest, ReadsCount, TakesHand, TakesResume, TakesLateResume, TakesStrangeResume, TakesHighResume, TakesBind, TakesEnable, TakesStanza, TakesRequest, TakesCount, TakesFoot, Parks, Hears, HearsEarly, Detaches, Shuts, EndsRow, Serves, Keeps, Demands, LinkMoves, LinkReached, LinkReaches}
use Rattle.law_calm.proofs.Changes.{Changed, at_none, at_one}
use Rattle.law_calm.proofs.Staying.{foot_flow}
use Rattle.law_calm.specs.Ends.{EndsConn, IsAmong, IsStreamEnd, WorksOn}

abbrev conns_of : {A : Type 0} (v : View A) → Table (Conn A)
conns_of v = v.conns

abbrev FlowsOn : {A : Type 0} → Conn A → Conn A → Type 0
FlowsOn c d = is_flowing c.wires ≡ true → is_flowing d.wires ≡ true

same_on : {A : Type 0} (c : Conn A) → FlowsOn c c
same_on c = λ e. e

-- words are taken and put
took : {A : Type 0} (x : Wires A) (rest : List (UpWord A)) (puts : List (DownWord A)) → is_flowing x ≡ true → is_flowing (send_down puts (left_up rest x)) ≡ true
took x rest puts flows = flow_down puts rest x ∙ flows

put_on : {A : Type 0} (x : Wires A) (puts : List (DownWord A)) → is_flowing x ≡ true → is_flowing (send_down puts x) ≡ true
put_on x puts flows = same_flow_down puts x ∙ flows

read_on : {A : Type 0} (x : Wires A) (rest : List (DownWord A)) (puts : List (UpWord A)) → is_flowing x ≡ true → is_flowing (send_up puts (left_down rest x)) ≡ true
read_on x rest puts flows = flow_up puts rest x ∙ flows

said_on : {A : Type 0} (x : Wires A) (puts : List (UpWord A)) → is_flowing x ≡ true → is_flowing (send_up puts x) ≡ true
said_on x puts flows = same_flow_up puts x ∙ flows

module _ {A : Type 0} (k : ℕ) (v next : View A) (kept : LinkKept v) (w : WorksOn k v) where
  abbrev Goes : LinkMove A → Type 0
  Goes move = WorksOn k next ⊎ EndsConn k move v

  works : next.here ≡ v.here → Changed FlowsOn k w.conn next → WorksOn k next
  works same on = record { here = same ∙ w.here; conn = on.0; is = on.1; flows = on.2 w.flows }

  -- the connection with a number is changed, and flows on
  one : (j : ℕ) (old new : Conn A) → next.here ≡ v.here → next.conns ≡ with_at j new v.conns → v.conns j ≡ Some old → FlowsOn old new → WorksOn k next
  one j old new same gives was on = works same (at_one FlowsOn same_on j k old new w.conn v next gives was w.is on)

  none : next.here ≡ v.here → next.conns ≡ v.conns → WorksOn k next
  none same gives = works same (at_none FlowsOn same_on k w.conn v next gives w.is)

  -- another one is changed
  other : (j : ℕ) (new : Conn A) → next.here ≡ v.here → next.conns ≡ with_at j new v.conns → j ≢ k → WorksOn k next
  other j new same gives apart = works same (w.conn, ap (λ (t : Table (Conn A)). t k) gives ∙ at_other j new v.conns k apart ∙ w.is, same_on w.conn)

  -- a footer comes only where the client works no more
  no_foot : (c : Conn A) (rest : List (UpWord A)) → v.conns k ≡ Some c → up_words c.wires ≡ Foot ∷ rest → ⊥
  no_foot c rest is first =
      let left : has v.here k ≡ false = expected_up v k c Foot rest kept is first in
      let here : has v.here k ≡ true = is_has v.here k w.here in
      let no_way : ⊥ = cc in no_way

  stream_end : (ending : Ending) (c : Conn A) → v.conns k ≡ Some c → IsReason ending (up_words c.wires) → IsStreamEnd ending
  stream_end Stands c is why = absurd why
  stream_end (Errs Conflict) c is why = tt
  stream_end (Errs Constraint) c is why = tt
  stream_end (Errs TooHigh) c is why = absurd why
  stream_end Closes c is why = absurd (no_foot c why.0 is why.1)

  at_k : (j : ℕ) (c : Conn A) → j ≡ k → v.conns j ≡ Some c → v.conns k ≡ Some c
  at_k j c same is = subst (λ n. v.conns n ≡ Some c) same is

  goes : (move : LinkMove A) → LinkMoves move v next → Goes move
  goes (Cuts j a b) m = elim (cases_eq j k) [ inl same ↦ inr same | inr apart ↦ inl (other j _ (ap (λ (x : View A). x.here) m.gives) (ap conns_of m.gives) apart) ]
  goes (Dials j) m = absurd (let idle = m.idle in let here = w.here in let no_way : ⊥ = cc in no_way)
  goes (LetsGo j) m =
      let same : j ≡ k = (let a : Some j ≡ Some k = sym m.here ∙ w.here in cc) in
      let alike : m.conn ≡ w.conn = some_one (v.conns k) m.conn w.conn (at_k j m.conn same m.is) w.is in
      let ended : is_flowing w.conn.wires ≡ false = subst (λ (x : Conn A). is_flowing x.wires ≡ false) alike m.ended in
      let flows = w.flows in
      absurd (let no_way : ⊥ = cc in no_way)
  goes (Foots j) m = inl (one j m.conn _ (ap (λ (x : View A). x.here) m.gives) (ap conns_of m.gives) m.is (λ e. foot_flow m.conn.wires ∙ e))
  goes Forgets m = absurd (let idle = m.idle in let here = w.here in let no_way : ⊥ = cc in no_way)
  goes (Puts j z) m = inl (one j m.conn _ (ap (λ (x : View A). x.here) m.gives) (ap conns_of m.gives) m.is (said_on m.conn.wires (Up (St z) ∷ [])))
  goes (Queues z) m = inl (none (ap (λ (x : View A). x.here) m.gives) (ap conns_of m.gives))
  goes (Requests j) m = inl (one j m.conn _ (ap (λ (x : View A). x.here) m.gives) (ap conns_of m.gives) m.is (said_on m.conn.wires (Up Req ∷ [])))
  goes (ReadsHand j) m = inl (one j m.conn _ (ap (λ (x : View A). x.here) m.gives) (ap conns_of m.gives) m.is (read_on m.conn.wires m.rest m.puts))
  goes (AsksToResume j) m = inl (one j m.conn _ (ap (λ (x : View A). x.here) m.gives) (ap conns_of m.gives) m.is (read_on m.conn.wires m.rest (ResumeAt m.own.number m.own.handled ∷ [])))
  goes (AsksToBind j) m = inl (one j m.conn _ (ap (λ (x : View A). x.here) m.gives) (ap conns_of m.gives) m.is (read_on m.conn.wires m.rest (Bind ∷ [])))
  goes (ReadsFailed j) m = inl (one j m.conn _ (ap (λ (x : View A). x.here) m.gives) (ap conns_of m.gives) m.is (read_on m.conn.wires m.rest (Bind ∷ [])))
  goes (ReadsResumed j) m = inl (one j m.conn _ (ap (λ (x : View A). x.here) m.gives) (ap conns_of m.gives) m.is (read_on m.conn.wires m.rest (again (drop (m.h - m.own.acked) m.own.queue))))
  goes (ReadsBound j n) m = inl (one j m.conn _ (ap (λ (x : View A). x.here) m.gives) (ap conns_of m.gives) m.is (read_on m.conn.wires m.rest (Enable ∷ [])))
  goes (ReadsEnabled j n) m = inl (one j m.conn _ (ap (λ (x : View A). x.here) m.gives) (ap conns_of m.gives) m.is (read_on m.conn.wires m.rest []))
  goes (ReadsStanza j z) m = inl (one j m.conn _ (ap (λ (x : View A). x.here) m.gives) (ap conns_of m.gives) m.is (read_on m.conn.wires m.rest []))
  goes (ReadsRequest j) m = inl (one j m.conn _ (ap (λ (x : View A). x.here) m.gives) (ap conns_of m.gives) m.is (read_on m.conn.wires m.rest (Up (Ack m.own.handled) ∷ [])))
  goes (ReadsCount j h) m = inl (one j m.conn _ (ap (λ (x : View A). x.here) m.gives) (ap conns_of m.gives) m.is (read_on m.conn.wires m.rest []))
  goes (TakesHand j) m = inl (one j m.conn _ (ap (λ (x : View A). x.here) m.gives) (ap conns_of m.gives) m.is (took m.conn.wires m.rest m.puts))
  goes (TakesResume j) m = inl (one j m.conn _ (ap (λ (x : View A). x.here) m.gives) (ap conns_of m.gives) m.is (took m.conn.wires m.rest (resumed_words m.row m.h)))
  goes (TakesLateResume j) m = inl (one j m.conn _ (ap (λ (x : View A). x.here) m.gives) (ap conns_of m.gives) m.is (took m.conn.wires m.rest (resumed_words m.row m.h)))
  goes (TakesStrangeResume j) m = inl (one j m.conn _ (ap (λ (x : View A). x.here) m.gives) (ap conns_of m.gives) m.is (took m.conn.wires m.rest (Failed ∷ [])))
  goes (TakesHighResume j) m =
      elim (cases_eq j k) [
        | inl same ↦
            let left : has v.here k ≡ false = subst (λ n. has v.here n ≡ false) same (too_high_left j v next m kept) in
            let here : has v.here k ≡ true = is_has v.here k w.here in
            absurd (let no_way : ⊥ = cc in no_way)
        | inr apart ↦ inl (other j _ (ap (λ (x : View A). x.here) m.gives) (ap conns_of m.gives) apart)
      ]
  goes (TakesBind j n) m = inl (one j m.conn _ (ap (λ (x : View A). x.here) m.gives) (ap conns_of m.gives) m.is (took m.conn.wires m.rest (Bound n ∷ [])))
  goes (TakesEnable j) m = inl (one j m.conn _ (ap (λ (x : View A). x.here) m.gives) (ap conns_of m.gives) m.is (took m.conn.wires m.rest (Enabled m.row.number ∷ [])))
  goes (TakesStanza j z) m = inl (one j m.conn _ (ap (λ (x : View A). x.here) m.gives) (ap conns_of m.gives) m.is (took m.conn.wires m.rest []))
  goes (TakesRequest j) m = inl (one j m.conn _ (ap (λ (x : View A). x.here) m.gives) (ap conns_of m.gives) m.is (took m.conn.wires m.rest (Down (Ack m.row.handled) ∷ [])))
  goes (TakesCount j h) m = inl (one j m.conn _ (ap (λ (x : View A). x.here) m.gives) (ap conns_of m.gives) m.is (took m.conn.wires m.rest []))
  goes (TakesFoot j) m =
      elim (cases_eq j k) [
        | inl same ↦ absurd (no_foot m.conn m.rest (at_k j m.conn same m.is) m.first)
        | inr apart ↦ inl (other j _ (ap (λ (x : View A). x.here) m.gives) (ap conns_of m.gives) apart)
      ]
  goes (Parks j) m = inl (one j m.conn _ (ap (λ (x : View A). x.here) m.gives) (ap conns_of m.gives) m.is (λ e. e))
  goes (Hears j) m = inl (one j m.conn _ (ap (λ (x : View A). x.here) m.gives) (ap conns_of m.gives) m.is (λ e. e))
  goes (HearsEarly j) m = inl (one j m.conn _ (ap (λ (x : View A). x.here) m.gives) (ap conns_of m.gives) m.is (λ e. e))
  goes (Detaches j ending) m =
      elim (cases_eq j k) [
        | inl same ↦ inr (same, stream_end ending m.conn (at_k j m.conn same m.is) m.reason)
        | inr apart ↦ inl (other j _ (ap (λ (x : View A). x.here) m.gives) (ap conns_of m.gives) apart)
      ]
  goes (Shuts j ending) m =
      elim (cases_eq j k) [
        | inl same ↦ inr (same, stream_end ending m.conn (at_k j m.conn same m.is) m.reason)
        | inr apart ↦ inl (other j _ (ap (λ (x : View A). x.here) m.gives) (ap conns_of m.gives) apart)
      ]
  goes EndsRow m = inl (none (ap (λ (x : View A). x.here) m.gives) (ap conns_of m.gives))
  goes (Serves j z) m = inl (one j m.conn _ (ap (λ (x : View A). x.here) m.gives) (ap conns_of m.gives) m.is (put_on m.conn.wires (Down (St z) ∷ [])))
  goes (Keeps z) m = inl (none (ap (λ (x : View A). x.here) m.gives) (ap conns_of m.gives))
  goes (Demands j) m = inl (one j m.conn _ (ap (λ (x : View A). x.here) m.gives) (ap conns_of m.gives) m.is (put_on m.conn.wires (Down Req ∷ [])))

-- ---- moves, one after another

pub until : {A : Type 0} (P : View A → Type 0) (E : LinkMove A → View A → Type 0) → ((move : LinkMove A) (v next : View A) → LinkKept v → P v → LinkMoves move v next → P next ⊎ E move v)
    → (moves : List (LinkMove A)) (v last : View A) → LinkKept v → P v → LinkReaches moves v last → P last ⊎ IsAmong P E moves v last
until P E step [] v last kept so same = inl (subst P (sym same) so)
until {A = A} P E step (move ∷ moves) v last kept so (next, made, more) = by (step move v next kept so made) (λ then. until P E step moves next last (move_keeps move v next made kept) then more)
  where
    further : P last ⊎ IsAmong P E moves next last → P last ⊎ IsAmong P E (move ∷ moves) v last
    further (inl done) = inl done
    further (inr a) = inr (record { front = move ∷ a.front; move = a.move; behind = a.behind; are = ap (λ l. move ∷ l) a.are; mid = a.mid; leads = (next, made, a.leads); so = a.so; ends = a.ends; next = a.next; made = a.made; more = a.more })

    by : P next ⊎ E move v → (P next → P last ⊎ IsAmong P E moves next last) → P last ⊎ IsAmong P E (move ∷ moves) v last
    by (inr ends) rest = inr (record { front = []; move = move; behind = moves; are = refl; mid = v; leads = refl; so = so; ends = ends; next = next; made = made; more = more })
    by (inl then) rest = further (rest then)

pub stays_open : {A : Type 0} (moves : List (LinkMove A)) (v last : View A) (k : ℕ) → LinkReached v → WorksOn k v → LinkReaches moves v last → WorksOn k last ⊎ IsAmong (WorksOn k) (EndsConn k) moves v last
stays_open {A = A} moves v last k reached works leads =
    until (WorksOn k) (EndsConn k) (λ (move : LinkMove A) (u next : View A) kept so made. goes k u next kept so move made) moves v last (link_kept v reached) works leads
