-- Where neither end puts anything of itself, a client that is online puts up counts alone, and a server that takes counts
-- alone puts nothing down.
use Rattle.std.proofs.Common.{arith, ◌≡◌, ◌≢◌, ℕ, ◌+◌, true, false, List, [], ◌∷◌, ◌++◌, refl, sym, ap, ◌∙◌, subst, Some}
use Rattle.std.proofs.lemmas.List.{append-nil}
use Rattle.sim_2_links.proofs.Detached.{halted, halted_up}
use Rattle.sim_2_links.proofs.Entries.{at_other}
use Rattle.sim_2_links.specs.Words.{TooHigh, St, Req, Ack, UpWord, Hdr, Auth, Resp, ResumeAt, Bind, Enable, Up, Foot, DownWord, Down, Client, InHeader1, InFeatures1, InAuth, InResponse, InHeader2, InFeatures2, InResume, InBind, InEnable, InOnline, Phase, Start, Sasl, Challenge, Restart, Ready, AtSession}
use Rattle.sim_2_links.specs.Wires.{Wires, Flow, Stop, is_flowing, up_words, down_words, send_up, send_down, left_up, left_down, halt}
use Rattle.sim_2_links.specs.Stages.{Conn, Ending, Errs, Closes, IsEarly, Goes, server_hand, tail_of}
use Rattle.sim_2_links.specs.Views.{Table, View, with_at}
use Rattle.sim_2_links.specs.SessionMoves.{shut}
use Rattle.sim_2_links.specs.Machine.{LinkMove, Cuts, Dials, LetsGo, Foots, Forgets, Puts, Queues, Requests, ReadsHand, AsksToResume, AsksToBind, ReadsFailed, ReadsResumed, ReadsBound, ReadsEnabled, ReadsStanza, ReadsRequest, ReadsCount, TakesHand, TakesResume, TakesLateResume, TakesStrangeResume, TakesHighResume, TakesBind, TakesEnable, TakesStanza, TakesRequest, TakesCount, TakesFoot, Parks, Hears, HearsEarly, Detaches, Shuts, EndsRow, Serves, Keeps, Demands, LinkMoves}
use Rattle.law_calm.proofs.Calm.{IsCalm}
use Rattle.law_calm.proofs.Changes.{Changed, at_one, at_none}
use Rattle.law_calm.specs.Rounds.{IsStill, rounds_to_go}

-- ---- counts alone

abbrev pub IsCount : {A : Type 0} → UpWord A → Type 0
IsCount (Up (Ack h)) = Unit {0}
IsCount _ = ⊥

abbrev pub OnlyCounts : {A : Type 0} → List (UpWord A) → Type 0
OnlyCounts [] = Unit {0}
OnlyCounts (w ∷ ws) = IsCount w × OnlyCounts ws

more_counts : {A : Type 0} (us ws : List (UpWord A)) → OnlyCounts us → OnlyCounts ws → OnlyCounts (us ++ ws)
more_counts [] ws a b = b
more_counts (u ∷ us) ws a b = (a.0, more_counts us ws a.1 b)

counts_up : {A : Type 0} (puts : List (UpWord A)) (rest : List (DownWord A)) (x : Wires A) → OnlyCounts puts → OnlyCounts (up_words x) → OnlyCounts (up_words (send_up puts (left_down rest x)))
counts_up puts rest (Flow us ds) a b = more_counts us puts b a
counts_up puts rest (Stop us ds lu ld) a b = b

-- no word of a count is one of the handshake
no_hand : {A : Type 0} (phase to : Phase) (word : UpWord A) (puts : List (DownWord A)) → IsCount word → server_hand phase word ≡ Goes to puts → ⊥
no_hand Start to (Up (Ack h)) puts is hand = let no_way : ⊥ = cc in no_way
no_hand Sasl to (Up (Ack h)) puts is hand = let no_way : ⊥ = cc in no_way
no_hand Challenge to (Up (Ack h)) puts is hand = let no_way : ⊥ = cc in no_way
no_hand Restart to (Up (Ack h)) puts is hand = let no_way : ⊥ = cc in no_way
no_hand Ready to (Up (Ack h)) puts is hand = let no_way : ⊥ = cc in no_way
no_hand (AtSession p) to (Up (Ack h)) puts is hand = let no_way : ⊥ = cc in no_way
no_hand phase to (Up (St z)) puts is hand = is
no_hand phase to (Up Req) puts is hand = is
no_hand phase to Hdr puts is hand = is
no_hand phase to Auth puts is hand = is
no_hand phase to Resp puts is hand = is
no_hand phase to (ResumeAt p h) puts is hand = is
no_hand phase to Bind puts is hand = is
no_hand phase to Enable puts is hand = is
no_hand phase to Foot puts is hand = is

-- ---- what a connection keeps, on which the client is online

pub record KeepsQuiet {A : Type 0} (c d : Conn A) : Type 0 where
  pub counts : OnlyCounts (up_words c.wires) → OnlyCounts (up_words d.wires)
  pub empty : is_flowing d.wires ≡ true → OnlyCounts (up_words c.wires) → down_words c.wires ≡ [] → (down_words d.wires ≡ []) × (up_words c.wires ≡ [] → up_words d.wires ≡ [])

abbrev pub StaysQuiet : {A : Type 0} → Conn A → Conn A → Type 0
StaysQuiet c d = rounds_to_go c.client ≡ 0 → KeepsQuiet c d

pub same_quiet : {A : Type 0} (c : Conn A) → StaysQuiet c c
same_quiet c z = record { counts = λ a. a; empty = λ flows a e. (e, λ f. f) }

gone_quiet : {A : Type 0} (c : Conn A) → StaysQuiet c (record c { gone = true })
gone_quiet c z = record { counts = λ a. a; empty = λ flows a e. (e, λ f. f) }

never_quiet : {A : Type 0} (c d : Conn A) (n : ℕ) (client : Client) → c.client ≡ client → rounds_to_go client ≡ n + 1 → StaysQuiet c d
never_quiet c d n client is more z = absurd (let e : rounds_to_go c.client ≡ n + 1 = ap rounds_to_go is ∙ more in let no_way : ⊥ = omega arith in no_way)

-- the server takes a word that is no count
taken_quiet : {A : Type 0} (c d : Conn A) (word : UpWord A) (rest : List (UpWord A)) → up_words c.wires ≡ word ∷ rest → (IsCount word → ⊥) → StaysQuiet c d
taken_quiet {A = A} c d word rest first bad z = record {
  counts = λ a. absurd (bad (subst (λ (ws : List (UpWord A)). OnlyCounts ws) first a).0);
  empty = λ flows a e. absurd (bad (subst (λ (ws : List (UpWord A)). OnlyCounts ws) first a).0);
}

rest_down : {A : Type 0} (rest : List (UpWord A)) (x : Wires A) → (up_words (send_down [] (left_up rest x)) ≡ rest) × (down_words (send_down [] (left_up rest x)) ≡ down_words x)
rest_down rest (Flow us ds) = (refl, append-nil ds)
rest_down rest (Stop us ds lu ld) = (refl, refl)

-- or a count
count_quiet : {A : Type 0} (c d : Conn A) (word : UpWord A) (rest : List (UpWord A)) → up_words c.wires ≡ word ∷ rest → d.wires ≡ send_down [] (left_up rest c.wires) → StaysQuiet c d
count_quiet {A = A} c d word rest first wires z = record {
  counts = λ a. subst (λ (ws : List (UpWord A)). OnlyCounts ws) (sym (ap up_words wires ∙ (rest_down rest c.wires).0)) (subst (λ (ws : List (UpWord A)). OnlyCounts ws) first a).1;
  empty = λ flows a e. (ap down_words wires ∙ (rest_down rest c.wires).1 ∙ e, λ f. absurd (let no_way : ⊥ = cc in no_way));
}

shut_quiet : {A : Type 0} (c : Conn A) (ending : Ending) → StaysQuiet c (shut ending c)
shut_quiet {A = A} c ending z = record {
  counts = λ a. subst (λ (ws : List (UpWord A)). OnlyCounts ws) (sym (halted_up (tail_of ending) c.wires)) tt;
  empty = λ flows a e. absurd (let no : is_flowing (halt (send_down (tail_of ending) c.wires)) ≡ false = halted (tail_of ending) c.wires in let no_way : ⊥ = cc in no_way);
}

-- the client takes a word, and puts counts at most
read_quiet : {A : Type 0} (c d : Conn A) (word : DownWord A) (rest : List (DownWord A)) (puts : List (UpWord A)) → down_words c.wires ≡ word ∷ rest → d.wires ≡ send_up puts (left_down rest c.wires) → OnlyCounts puts → StaysQuiet c d
read_quiet {A = A} c d word rest puts first wires only z = record {
  counts = λ a. subst (λ (x : Wires A). OnlyCounts (up_words x)) (sym wires) (counts_up puts rest c.wires only a);
  empty = λ flows a e. absurd (let no_way : ⊥ = cc in no_way);
}

hand_quiet : {A : Type 0} (c d : Conn A) → IsEarly c.client → StaysQuiet c d
hand_quiet c d early z = absurd (go c.client early z)
  where
    go : (x : Client) → IsEarly x → rounds_to_go x ≡ 0 → ⊥
    go InHeader1 is e = omega arith
    go InFeatures1 is e = omega arith
    go InAuth is e = omega arith
    go InResponse is e = omega arith
    go InHeader2 is e = omega arith
    go InFeatures2 is e = is
    go (InResume p) is e = is
    go InBind is e = is
    go InEnable is e = is
    go (InOnline p) is e = is

abbrev conns_of : {A : Type 0} (v : View A) → Table (Conn A)
conns_of v = v.conns

elsewhere : {A : Type 0} (j k : ℕ) (new c : Conn A) (v next : View A) → next.conns ≡ with_at j new v.conns → v.conns k ≡ Some c → j ≢ k → Changed StaysQuiet k c next
elsewhere {A = A} j k new c v next gives is other = (c, ap (λ (t : Table (Conn A)). t k) gives ∙ at_other j new v.conns k other ∙ is, same_quiet c)

pub stays_quiet : {A : Type 0} (move : LinkMove A) (v next : View A) (k : ℕ) (c : Conn A) → IsCalm k move → IsStill move → LinkMoves move v next → v.conns k ≡ Some c → Changed StaysQuiet k c next
stays_quiet (Cuts j a b) v next k c calm still m is = elsewhere j k _ c v next (ap conns_of m.gives) is calm
stays_quiet (Dials j) v next k c calm still m is = absurd calm
stays_quiet (LetsGo j) v next k c calm still m is = absurd calm
stays_quiet (Foots j) v next k c calm still m is = elsewhere j k _ c v next (ap conns_of m.gives) is calm
stays_quiet Forgets v next k c calm still m is = absurd calm
stays_quiet (Puts j z) v next k c calm still m is = absurd still
stays_quiet (Requests j) v next k c calm still m is = absurd still
stays_quiet (Serves j z) v next k c calm still m is = absurd still
stays_quiet (Demands j) v next k c calm still m is = absurd still
stays_quiet (Queues z) v next k c calm still m is = at_none StaysQuiet same_quiet k c v next (ap conns_of m.gives) is
stays_quiet EndsRow v next k c calm still m is = at_none StaysQuiet same_quiet k c v next (ap conns_of m.gives) is
stays_quiet (Keeps z) v next k c calm still m is = at_none StaysQuiet same_quiet k c v next (ap conns_of m.gives) is
stays_quiet (ReadsHand j) v next k c calm still m is = at_one StaysQuiet same_quiet j k m.conn _ c v next (ap conns_of m.gives) m.is is (hand_quiet m.conn _ m.early)
stays_quiet (AsksToResume j) v next k c calm still m is = at_one StaysQuiet same_quiet j k m.conn _ c v next (ap conns_of m.gives) m.is is (never_quiet m.conn _ 3 InFeatures2 m.client refl)
stays_quiet (AsksToBind j) v next k c calm still m is = at_one StaysQuiet same_quiet j k m.conn _ c v next (ap conns_of m.gives) m.is is (never_quiet m.conn _ 3 InFeatures2 m.client refl)
stays_quiet (ReadsFailed j) v next k c calm still m is = at_one StaysQuiet same_quiet j k m.conn _ c v next (ap conns_of m.gives) m.is is (never_quiet m.conn _ 2 (InResume m.p) m.client refl)
stays_quiet (ReadsResumed j) v next k c calm still m is = at_one StaysQuiet same_quiet j k m.conn _ c v next (ap conns_of m.gives) m.is is (never_quiet m.conn _ 2 (InResume m.own.number) m.client refl)
stays_quiet (ReadsBound j n) v next k c calm still m is = at_one StaysQuiet same_quiet j k m.conn _ c v next (ap conns_of m.gives) m.is is (never_quiet m.conn _ 1 InBind m.client refl)
stays_quiet (ReadsEnabled j n) v next k c calm still m is = at_one StaysQuiet same_quiet j k m.conn _ c v next (ap conns_of m.gives) m.is is (never_quiet m.conn _ 0 InEnable m.client refl)
stays_quiet (ReadsStanza j z) v next k c calm still m is = at_one StaysQuiet same_quiet j k m.conn _ c v next (ap conns_of m.gives) m.is is (read_quiet m.conn _ (Down (St z)) m.rest [] m.first refl tt)
stays_quiet (ReadsRequest j) v next k c calm still m is = at_one StaysQuiet same_quiet j k m.conn _ c v next (ap conns_of m.gives) m.is is (read_quiet m.conn _ (Down Req) m.rest (Up (Ack m.own.handled) ∷ []) m.first refl (tt, tt))
stays_quiet (ReadsCount j h) v next k c calm still m is = at_one StaysQuiet same_quiet j k m.conn _ c v next (ap conns_of m.gives) m.is is (read_quiet m.conn _ (Down (Ack h)) m.rest [] m.first refl tt)
stays_quiet (TakesHand j) v next k c calm still m is = at_one StaysQuiet same_quiet j k m.conn _ c v next (ap conns_of m.gives) m.is is (taken_quiet m.conn _ m.word m.rest m.first (λ a. no_hand m.conn.phase m.phase m.word m.puts a m.hand))
stays_quiet (TakesResume j) v next k c calm still m is = at_one StaysQuiet same_quiet j k m.conn _ c v next (ap conns_of m.gives) m.is is (taken_quiet m.conn _ (ResumeAt m.row.number m.h) m.rest m.first (λ a. a))
stays_quiet (TakesLateResume j) v next k c calm still m is = at_one StaysQuiet same_quiet j k m.conn _ c v next (ap conns_of m.gives) m.is is (taken_quiet m.conn _ (ResumeAt m.row.number m.h) m.rest m.first (λ a. a))
stays_quiet (TakesStrangeResume j) v next k c calm still m is = at_one StaysQuiet same_quiet j k m.conn _ c v next (ap conns_of m.gives) m.is is (taken_quiet m.conn _ (ResumeAt m.p m.h) m.rest m.first (λ a. a))
stays_quiet (TakesBind j n) v next k c calm still m is = at_one StaysQuiet same_quiet j k m.conn _ c v next (ap conns_of m.gives) m.is is (taken_quiet m.conn _ Bind m.rest m.first (λ a. a))
stays_quiet (TakesEnable j) v next k c calm still m is = at_one StaysQuiet same_quiet j k m.conn _ c v next (ap conns_of m.gives) m.is is (taken_quiet m.conn _ Enable m.rest m.first (λ a. a))
stays_quiet (TakesStanza j z) v next k c calm still m is = at_one StaysQuiet same_quiet j k m.conn _ c v next (ap conns_of m.gives) m.is is (taken_quiet m.conn _ (Up (St z)) m.rest m.first (λ a. a))
stays_quiet (TakesRequest j) v next k c calm still m is = at_one StaysQuiet same_quiet j k m.conn _ c v next (ap conns_of m.gives) m.is is (taken_quiet m.conn _ (Up Req) m.rest m.first (λ a. a))
stays_quiet (TakesCount j h) v next k c calm still m is = at_one StaysQuiet same_quiet j k m.conn _ c v next (ap conns_of m.gives) m.is is (count_quiet m.conn _ (Up (Ack h)) m.rest m.first refl)
stays_quiet (TakesHighResume j) v next k c calm still m is = at_one StaysQuiet same_quiet j k m.conn _ c v next (ap conns_of m.gives) m.is is (shut_quiet m.conn (Errs TooHigh))
stays_quiet (TakesFoot j) v next k c calm still m is = at_one StaysQuiet same_quiet j k m.conn _ c v next (ap conns_of m.gives) m.is is (shut_quiet m.conn Closes)
stays_quiet (Detaches j ending) v next k c calm still m is = at_one StaysQuiet same_quiet j k m.conn _ c v next (ap conns_of m.gives) m.is is (shut_quiet m.conn ending)
stays_quiet (Shuts j ending) v next k c calm still m is = at_one StaysQuiet same_quiet j k m.conn _ c v next (ap conns_of m.gives) m.is is (shut_quiet m.conn ending)
stays_quiet (Parks j) v next k c calm still m is = at_one StaysQuiet same_quiet j k m.conn _ c v next (ap conns_of m.gives) m.is is (gone_quiet m.conn)
stays_quiet (Hears j) v next k c calm still m is = at_one StaysQuiet same_quiet j k m.conn _ c v next (ap conns_of m.gives) m.is is (gone_quiet m.conn)
stays_quiet (HearsEarly j) v next k c calm still m is = at_one StaysQuiet same_quiet j k m.conn _ c v next (ap conns_of m.gives) m.is is (gone_quiet m.conn)
