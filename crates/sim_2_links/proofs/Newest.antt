-- On the connection that the client dialled last, a resumption states what it has handled.
use Rattle.std.proofs.Common.{◌≡◌, ℕ, Bool, true, false, List, [], ◌∷◌, ◌++◌, length, refl, sym, ap, ◌∙◌, subst, Option, Some}
use Rattle.sim_2_links.proofs.Entries.{Entry, New, Old, entry, was}
use Rattle.sim_2_links.proofs.Tables.{halt_whole_up, send_down_whole_up}
use Rattle.sim_2_links.proofs.CutLinks.{some_same}
use Rattle.sim_2_links.proofs.Resumption.{asks}
use Rattle.sim_2_links.specs.Words.{UpWord, ResumeAt, Client, InResume, Ready}
use Rattle.sim_2_links.specs.Wires.{Wires, Flow, Stop, up_whole, send_down, halt}
use Rattle.sim_2_links.specs.Stages.{Stage, AsksResume, Refused, Resumes, AsksBind, Binds, AsksEnable, Enables, Runs, client_of, phase_of, Ending, tail_of, foot_of, Conn, IsPlain}
use Rattle.sim_2_links.specs.Views.{Table, with_at, alter, Session, Row, Own, View}
use Rattle.sim_2_links.specs.Links.{LinkKept}
use Rattle.sim_2_links.specs.EndMoves.{with_foot, up_lost}

-- the client works on no other connection, and what it asked there it still would
pub record IsNewest {A : Type 0} (n : Option ℕ) (v : View A) : Type 0 where
  pub here : (k : ℕ) → v.here ≡ Some k → n ≡ Some k
  pub present : (k p h : ℕ) (c : Conn A) (more : List (UpWord A)) (s : Session A) → n ≡ Some k → v.conns k ≡ Some c → up_whole c.wires ≡ ResumeAt p h ∷ more → v.sessions p ≡ Some s → h ≡ length s.down.got

-- a connection with that word is at its row of the table
pub at_asking : {A : Type 0} (v : View A) (k p h : ℕ) (c : Conn A) (more : List (UpWord A)) (kept : LinkKept v) (is : v.conns k ≡ Some c) → up_whole c.wires ≡ ResumeAt p h ∷ more → (kept.conns k c is).stage ≡ AsksResume p h
at_asking v k p h c more kept is word = let old = kept.conns k c is in (asks old.stage c.footed p h more (sym old.at.up ∙ word)).is

pub asking_client : {A : Type 0} (v : View A) (k p h : ℕ) (c : Conn A) (more : List (UpWord A)) → LinkKept v → v.conns k ≡ Some c → up_whole c.wires ≡ ResumeAt p h ∷ more → c.client ≡ InResume p
asking_client v k p h c more kept is word = (kept.conns k c is).at.client ∙ ap client_of (at_asking v k p h c more kept is word)

pub asking_phase : {A : Type 0} (v : View A) (k p h : ℕ) (c : Conn A) (more : List (UpWord A)) → LinkKept v → v.conns k ≡ Some c → up_whole c.wires ≡ ResumeAt p h ∷ more → c.phase ≡ Ready
asking_phase v k p h c more kept is word = (kept.conns k c is).at.phase ∙ ap phase_of (at_asking v k p h c more kept is word)

pub plain_asks : {A C : Type 0} (s : Stage A) (p : ℕ) → IsPlain s → client_of s ≡ InResume p → C
plain_asks (AsksResume q h) p plain e = absurd plain
plain_asks (Refused q) p plain e = absurd plain
plain_asks (Resumes q h downs) p plain e = absurd plain
plain_asks AsksBind p plain e = absurd plain
plain_asks (Binds m) p plain e = absurd plain
plain_asks (AsksEnable m) p plain e = absurd plain
plain_asks (Enables m downs) p plain e = absurd plain
plain_asks (Runs q ups downs) p plain e = absurd plain
plain_asks _ p plain e = absurd (let no_way : ⊥ = cc in no_way)

-- moves of the client, on its connection

abbrev pub IsOther : Client → Type 0
IsOther (InResume p) = ⊥
IsOther _ = Unit {0}

is_other : {C : Type 0} (c : Client) (p : ℕ) → IsOther c → c ≡ InResume p → C
is_other c p other e = absurd (subst IsOther e other)

pub client_newest : {A : Type 0} (n : Option ℕ) (v : View A) (k : ℕ) (new : Conn A) (own : Option (Own A)) (epoch : ℕ) (sessions : Table (Session A)) → v.here ≡ Some k → IsOther new.client →
    LinkKept (record v { conns = with_at k new v.conns; own = own; epoch = epoch; sessions = sessions }) → IsNewest n v → IsNewest n (record v { conns = with_at k new v.conns; own = own; epoch = epoch; sessions = sessions })
client_newest {A = A} n v k new own epoch sessions here other kept a = record {
  here = a.here;
  present = λ j p h c more s is_j found word is. by j p h c more is_j found word (entry k new v.conns j c found);
}
  where
    by : (j p h : ℕ) (c : Conn A) (more : List (UpWord A)) → n ≡ Some j → with_at k new v.conns j ≡ Some c → up_whole c.wires ≡ ResumeAt p h ∷ more → {C : Type 0} → Entry k new v.conns j c → C
    by j p h c more is_j found word (New same one) = is_other new.client p other (ap (λ (x : Conn A). x.client) one ∙ asking_client (record v { conns = with_at k new v.conns; own = own; epoch = epoch; sessions = sessions }) j p h c more kept found word)
    by j p h c more is_j found word (Old ne there) = absurd (ne (some_same k j (sym (a.here k here) ∙ is_j)))

-- moves of the server and of the network: what was handled of the way down stays

abbrev pub IsHeardSame : {A : Type 0} → Table (Session A) → Table (Session A) → Type 0
IsHeardSame {A = A} before sessions = (q : ℕ) (t : Session A) → sessions q ≡ Some t → (s : Session A) × (before q ≡ Some s) × (s.down.got ≡ t.down.got)

pub heard_by : {A : Type 0} (f : ℕ → Session A → Session A) (before : Table (Session A)) → ((q : ℕ) (s : Session A) → s.down.got ≡ (f q s).down.got) → IsHeardSame before (alter f before)
heard_by f before same q t is = let w = was f before q t is in (w.0, w.1, same q w.0 ∙ ap (λ (x : Session _). x.down.got) w.2)

pub heard_same : {A : Type 0} (before : Table (Session A)) → IsHeardSame before before
heard_same before q t is = (t, is, refl)

pub server_newest : {A : Type 0} (n : Option ℕ) (v : View A) (k : ℕ) (old new : Conn A) (row : Option (Row A)) (sessions : Table (Session A)) (free : ℕ) → v.conns k ≡ Some old → IsHeardSame v.sessions sessions →
    ((p h : ℕ) (more : List (UpWord A)) → up_whole new.wires ≡ ResumeAt p h ∷ more → (rest : List (UpWord A)) × (up_whole old.wires ≡ ResumeAt p h ∷ rest)) → IsNewest n v →
    IsNewest n (record v { conns = with_at k new v.conns; row = row; sessions = sessions; free = free })
server_newest {A = A} n v k old new row sessions free is_old same word a = record {
  here = a.here;
  present = λ j p h c more s is_j found w is.
      let g = same p s is in
      by j p h c more g.0 is_j w g.1 (entry k new v.conns j c found) ∙ ap length g.2;
}
  where
    by : (j p h : ℕ) (c : Conn A) (more : List (UpWord A)) (s : Session A) → n ≡ Some j → up_whole c.wires ≡ ResumeAt p h ∷ more → v.sessions p ≡ Some s → Entry k new v.conns j c → h ≡ length s.down.got
    by j p h c more s is_j w is (New this one) =
        let before = word p h more (ap (λ (x : Conn A). up_whole x.wires) one ∙ w) in
        a.present j p h old before.0 s is_j (subst (λ x. v.conns x ≡ Some old) this is_old) before.1 is
    by j p h c more s is_j w is (Old ne there) = a.present j p h c more s is_j there w is

-- the pipe has the same words, with what was lost
pub same_words : {A : Type 0} (x y : Wires A) → up_whole y ≡ up_whole x → (p h : ℕ) (more : List (UpWord A)) → up_whole y ≡ ResumeAt p h ∷ more → (rest : List (UpWord A)) × (up_whole x ≡ ResumeAt p h ∷ rest)
same_words x y same p h more word = (more, sym same ∙ word)

pub shut_words : {A : Type 0} (end : Ending) (x : Wires A) → up_whole (halt (send_down (tail_of end) x)) ≡ up_whole x
shut_words end x = halt_whole_up (send_down (tail_of end) x) ∙ send_down_whole_up (tail_of end) x

-- nothing but the footer is left behind the word
pub no_word_after : {A C : Type 0} (foot : Bool) (p h : ℕ) (more : List (UpWord A)) → foot_of foot ≡ ResumeAt p h ∷ more → C
no_word_after false p h more e = absurd (let no_way : ⊥ = cc in no_way)
no_word_after true p h more e = absurd (let no_way : ⊥ = cc in no_way)

pub footed_words : {A : Type 0} (x : Wires A) → up_lost x ≡ [] → (p h : ℕ) (more : List (UpWord A)) → up_whole (with_foot x) ≡ ResumeAt p h ∷ more → (rest : List (UpWord A)) × (up_whole x ≡ ResumeAt p h ∷ rest)
footed_words (Flow [] ds) none p h more e = absurd (let no_way : ⊥ = cc in no_way)
footed_words (Flow (u ∷ us) ds) none p h more e = (us, (let one : u ≡ ResumeAt p h = cc in ap (λ w. w ∷ us) one))
footed_words (Stop [] ds lu ld) none p h more e = absurd (let no_way : ⊥ = cc in no_way)
footed_words (Stop (u ∷ us) ds lu ld) none p h more e = (us ++ lu, (let one : u ≡ ResumeAt p h = cc in ap (λ w. w ∷ us ++ lu) one))
