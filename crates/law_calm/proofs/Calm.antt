-- Each move that leaves a connection alone leaves the device on it, and the connection going on.
use Rattle.std.proofs.Common.{arith, ◌≡◌, ◌≢◌, ℕ, ◌-◌, [], ◌∷◌, drop, refl, ap, ◌∙◌, Option, Some}
use Rattle.sim_2_links.proofs.Entries.{at_other}
use Rattle.sim_2_links.specs.Words.{TooHigh, ResumeAt, Bind, Enable, Up, St, Req, Ack, Failed, Bound, Enabled, Down, InFeatures2, InResume, InBind, InEnable, InOnline}
use Rattle.sim_2_links.specs.Stages.{Conn, Errs, Closes}
use Rattle.sim_2_links.specs.Views.{Table, View, with_at}
use Rattle.sim_2_links.specs.SessionMoves.{again, resumed_words}
use Rattle.sim_2_links.specs.Machine.{LinkMove, Cuts, Dials, LetsGo, Foots, Forgets, Puts, Queues, Requests, ReadsHand, AsksToResume, AsksToBind, ReadsFailed, ReadsResumed, ReadsBound, ReadsEnabled, ReadsStanza, ReadsRequest, ReadsCount, TakesHand, TakesResume, TakesLateResume, TakesStrangeResume, TakesHighResume, TakesBind, TakesEnable, TakesStanza, TakesRequest, TakesCount, TakesFoot, Parks, Hears, HearsEarly, Detaches, Shuts, EndsRow, Serves, Keeps, Demands, LinkMoves}
use Rattle.law_calm.proofs.Changes.{Changed, GoesOn, unmoved, at_one, at_none, taken_goes, put_goes, shut_goes, told_goes, say_goes, online_reads, hand_reads, step_reads}

-- The connection isn't cut and not left, the client dials no other, and gives no session up.
abbrev pub IsCalm : {A : Type 0} → ℕ → LinkMove A → Type 0
IsCalm k (Cuts j a b) = j ≢ k
IsCalm k (Dials j) = ⊥
IsCalm k (LetsGo j) = ⊥
IsCalm k (Foots j) = j ≢ k
IsCalm k Forgets = ⊥
IsCalm k move = Unit {0}

abbrev conns_of : {A : Type 0} (v : View A) → Table (Conn A)
conns_of v = v.conns

-- another connection is changed
elsewhere : {A : Type 0} (j k : ℕ) (new c : Conn A) (v next : View A) → next.conns ≡ with_at j new v.conns → v.conns k ≡ Some c → j ≢ k → Changed GoesOn k c next
elsewhere {A = A} j k new c v next gives is other = (c, ap (λ (t : Table (Conn A)). t k) gives ∙ at_other j new v.conns k other ∙ is, unmoved c)

pub goes_on : {A : Type 0} (move : LinkMove A) (v next : View A) (k : ℕ) (c : Conn A) → IsCalm k move → LinkMoves move v next → v.conns k ≡ Some c → Changed GoesOn k c next
goes_on (Cuts j a b) v next k c calm m is = elsewhere j k _ c v next (ap conns_of m.gives) is calm
goes_on (Dials j) v next k c calm m is = absurd calm
goes_on (LetsGo j) v next k c calm m is = absurd calm
goes_on (Foots j) v next k c calm m is = elsewhere j k _ c v next (ap conns_of m.gives) is calm
goes_on Forgets v next k c calm m is = absurd calm
goes_on (Puts j z) v next k c calm m is = at_one GoesOn unmoved j k m.conn _ c v next (ap conns_of m.gives) m.is is (say_goes m.conn (Up (St z) ∷ []) m.own.number m.client)
goes_on (Queues z) v next k c calm m is = at_none GoesOn unmoved k c v next (ap conns_of m.gives) is
goes_on (Requests j) v next k c calm m is = at_one GoesOn unmoved j k m.conn _ c v next (ap conns_of m.gives) m.is is (say_goes m.conn (Up Req ∷ []) m.own.number m.client)
goes_on (ReadsHand j) v next k c calm m is = at_one GoesOn unmoved j k m.conn _ c v next (ap conns_of m.gives) m.is is (hand_reads m.conn m.word m.client m.rest m.puts m.early m.hand)
goes_on (AsksToResume j) v next k c calm m is = at_one GoesOn unmoved j k m.conn _ c v next (ap conns_of m.gives) m.is is (step_reads m.conn InFeatures2 (InResume m.own.number) m.rest (ResumeAt m.own.number m.own.handled ∷ []) m.client (omega arith))
goes_on (AsksToBind j) v next k c calm m is = at_one GoesOn unmoved j k m.conn _ c v next (ap conns_of m.gives) m.is is (step_reads m.conn InFeatures2 InBind m.rest (Bind ∷ []) m.client (omega arith))
goes_on (ReadsFailed j) v next k c calm m is = at_one GoesOn unmoved j k m.conn _ c v next (ap conns_of m.gives) m.is is (step_reads m.conn (InResume m.p) InBind m.rest (Bind ∷ []) m.client (omega arith))
goes_on (ReadsResumed j) v next k c calm m is = at_one GoesOn unmoved j k m.conn _ c v next (ap conns_of m.gives) m.is is (step_reads m.conn (InResume m.own.number) (InOnline m.own.number) m.rest (again (drop (m.h - m.own.acked) m.own.queue)) m.client (omega arith))
goes_on (ReadsBound j n) v next k c calm m is = at_one GoesOn unmoved j k m.conn _ c v next (ap conns_of m.gives) m.is is (step_reads m.conn InBind InEnable m.rest (Enable ∷ []) m.client (omega arith))
goes_on (ReadsEnabled j n) v next k c calm m is = at_one GoesOn unmoved j k m.conn _ c v next (ap conns_of m.gives) m.is is (step_reads m.conn InEnable (InOnline n) m.rest [] m.client (omega arith))
goes_on (ReadsStanza j z) v next k c calm m is = at_one GoesOn unmoved j k m.conn _ c v next (ap conns_of m.gives) m.is is (online_reads m.conn m.rest [] m.own.number m.client)
goes_on (ReadsRequest j) v next k c calm m is = at_one GoesOn unmoved j k m.conn _ c v next (ap conns_of m.gives) m.is is (online_reads m.conn m.rest (Up (Ack m.own.handled) ∷ []) m.own.number m.client)
goes_on (ReadsCount j h) v next k c calm m is = at_one GoesOn unmoved j k m.conn _ c v next (ap conns_of m.gives) m.is is (online_reads m.conn m.rest [] m.own.number m.client)
goes_on (TakesHand j) v next k c calm m is = at_one GoesOn unmoved j k m.conn _ c v next (ap conns_of m.gives) m.is is (taken_goes m.conn _ m.word m.rest m.puts m.first refl refl)
goes_on (TakesResume j) v next k c calm m is = at_one GoesOn unmoved j k m.conn _ c v next (ap conns_of m.gives) m.is is (taken_goes m.conn _ (ResumeAt m.row.number m.h) m.rest (resumed_words m.row m.h) m.first refl refl)
goes_on (TakesLateResume j) v next k c calm m is = at_one GoesOn unmoved j k m.conn _ c v next (ap conns_of m.gives) m.is is (taken_goes m.conn _ (ResumeAt m.row.number m.h) m.rest (resumed_words m.row m.h) m.first refl refl)
goes_on (TakesStrangeResume j) v next k c calm m is = at_one GoesOn unmoved j k m.conn _ c v next (ap conns_of m.gives) m.is is (taken_goes m.conn _ (ResumeAt m.p m.h) m.rest (Failed ∷ []) m.first refl refl)
goes_on (TakesHighResume j) v next k c calm m is = at_one GoesOn unmoved j k m.conn _ c v next (ap conns_of m.gives) m.is is (shut_goes m.conn (Errs TooHigh))
goes_on (TakesBind j n) v next k c calm m is = at_one GoesOn unmoved j k m.conn _ c v next (ap conns_of m.gives) m.is is (taken_goes m.conn _ Bind m.rest (Bound n ∷ []) m.first refl refl)
goes_on (TakesEnable j) v next k c calm m is = at_one GoesOn unmoved j k m.conn _ c v next (ap conns_of m.gives) m.is is (taken_goes m.conn _ Enable m.rest (Enabled m.row.number ∷ []) m.first refl refl)
goes_on (TakesStanza j z) v next k c calm m is = at_one GoesOn unmoved j k m.conn _ c v next (ap conns_of m.gives) m.is is (taken_goes m.conn _ (Up (St z)) m.rest [] m.first refl refl)
goes_on (TakesRequest j) v next k c calm m is = at_one GoesOn unmoved j k m.conn _ c v next (ap conns_of m.gives) m.is is (taken_goes m.conn _ (Up Req) m.rest (Down (Ack m.row.handled) ∷ []) m.first refl refl)
goes_on (TakesCount j h) v next k c calm m is = at_one GoesOn unmoved j k m.conn _ c v next (ap conns_of m.gives) m.is is (taken_goes m.conn _ (Up (Ack h)) m.rest [] m.first refl refl)
goes_on (TakesFoot j) v next k c calm m is = at_one GoesOn unmoved j k m.conn _ c v next (ap conns_of m.gives) m.is is (shut_goes m.conn Closes)
goes_on (Parks j) v next k c calm m is = at_one GoesOn unmoved j k m.conn _ c v next (ap conns_of m.gives) m.is is (told_goes m.conn)
goes_on (Hears j) v next k c calm m is = at_one GoesOn unmoved j k m.conn _ c v next (ap conns_of m.gives) m.is is (told_goes m.conn)
goes_on (HearsEarly j) v next k c calm m is = at_one GoesOn unmoved j k m.conn _ c v next (ap conns_of m.gives) m.is is (told_goes m.conn)
goes_on (Detaches j ending) v next k c calm m is = at_one GoesOn unmoved j k m.conn _ c v next (ap conns_of m.gives) m.is is (shut_goes m.conn ending)
goes_on (Shuts j ending) v next k c calm m is = at_one GoesOn unmoved j k m.conn _ c v next (ap conns_of m.gives) m.is is (shut_goes m.conn ending)
goes_on EndsRow v next k c calm m is = at_none GoesOn unmoved k c v next (ap conns_of m.gives) is
goes_on (Serves j z) v next k c calm m is = at_one GoesOn unmoved j k m.conn _ c v next (ap conns_of m.gives) m.is is (put_goes m.conn _ (Down (St z) ∷ []) refl refl)
goes_on (Keeps z) v next k c calm m is = at_none GoesOn unmoved k c v next (ap conns_of m.gives) is
goes_on (Demands j) v next k c calm m is = at_one GoesOn unmoved j k m.conn _ c v next (ap conns_of m.gives) m.is is (put_goes m.conn _ (Down Req ∷ []) refl refl)

abbrev here_of : {A : Type 0} (v : View A) → Option ℕ
here_of v = v.here

pub stays_here : {A : Type 0} (move : LinkMove A) (v next : View A) (k : ℕ) → IsCalm k move → LinkMoves move v next → next.here ≡ v.here
stays_here (Cuts j a b) v next k calm m = ap here_of m.gives
stays_here (Dials j) v next k calm m = absurd calm
stays_here (LetsGo j) v next k calm m = absurd calm
stays_here (Foots j) v next k calm m = ap here_of m.gives
stays_here Forgets v next k calm m = absurd calm
stays_here (Puts j z) v next k calm m = ap here_of m.gives
stays_here (Queues z) v next k calm m = ap here_of m.gives
stays_here (Requests j) v next k calm m = ap here_of m.gives
stays_here (ReadsHand j) v next k calm m = ap here_of m.gives
stays_here (AsksToResume j) v next k calm m = ap here_of m.gives
stays_here (AsksToBind j) v next k calm m = ap here_of m.gives
stays_here (ReadsFailed j) v next k calm m = ap here_of m.gives
stays_here (ReadsResumed j) v next k calm m = ap here_of m.gives
stays_here (ReadsBound j n) v next k calm m = ap here_of m.gives
stays_here (ReadsEnabled j n) v next k calm m = ap here_of m.gives
stays_here (ReadsStanza j z) v next k calm m = ap here_of m.gives
stays_here (ReadsRequest j) v next k calm m = ap here_of m.gives
stays_here (ReadsCount j h) v next k calm m = ap here_of m.gives
stays_here (TakesHand j) v next k calm m = ap here_of m.gives
stays_here (TakesResume j) v next k calm m = ap here_of m.gives
stays_here (TakesLateResume j) v next k calm m = ap here_of m.gives
stays_here (TakesStrangeResume j) v next k calm m = ap here_of m.gives
stays_here (TakesHighResume j) v next k calm m = ap here_of m.gives
stays_here (TakesBind j n) v next k calm m = ap here_of m.gives
stays_here (TakesEnable j) v next k calm m = ap here_of m.gives
stays_here (TakesStanza j z) v next k calm m = ap here_of m.gives
stays_here (TakesRequest j) v next k calm m = ap here_of m.gives
stays_here (TakesCount j h) v next k calm m = ap here_of m.gives
stays_here (TakesFoot j) v next k calm m = ap here_of m.gives
stays_here (Parks j) v next k calm m = ap here_of m.gives
stays_here (Hears j) v next k calm m = ap here_of m.gives
stays_here (HearsEarly j) v next k calm m = ap here_of m.gives
stays_here (Detaches j ending) v next k calm m = ap here_of m.gives
stays_here (Shuts j ending) v next k calm m = ap here_of m.gives
stays_here EndsRow v next k calm m = ap here_of m.gives
stays_here (Serves j z) v next k calm m = ap here_of m.gives
stays_here (Keeps z) v next k calm m = ap here_of m.gives
stays_here (Demands j) v next k calm m = ap here_of m.gives
