-- What each move of a calm network leaves of a connection: the client comes no further from being online, nothing is put up
-- but where it comes nearer, and what has ended stays so.
use Rattle.std.proofs.Common.{arith, ◌≡◌, ◌⊎◌, ℕ, ◌+◌, ◌≤◌, true, false, List, [], ◌∷◌, sym, ap, ◌∙◌, subst, inl, inr, None, Some}
use Rattle.std.proofs.lemmas.Bool.{cases_eq}
use Rattle.sim_2_links.proofs.CutLinks.{some_one}
use Rattle.sim_2_links.proofs.Detached.{halted, halted_up}
use Rattle.sim_2_links.proofs.Entries.{at_same, at_other}
use Rattle.sim_2_links.proofs.Hands.{flow_down, flow_up}
use Rattle.sim_2_links.proofs.Heard.{same_up as same_up_left}
use Rattle.sim_2_links.proofs.Prompt.{same_flow_down, same_flow_up, same_up}
use Rattle.sim_2_links.specs.Words.{UpWord, DownWord, Head, Feat, Chal, Succ, Client, InHeader1, InFeatures1, InAuth, InResponse, InHeader2, InFeatures2, InResume, InBind, InEnable, InOnline}
use Rattle.sim_2_links.specs.Wires.{is_flowing, up_words, send_up, send_down, left_up, left_down, halt}
use Rattle.sim_2_links.specs.Stages.{Conn, Ending, IsEarly, Goes, client_hand, tail_of}
use Rattle.sim_2_links.specs.Views.{Table, View, with_at}
use Rattle.sim_2_links.specs.SessionMoves.{shut}
use Rattle.law_calm.specs.Rounds.{rounds_to_go}

-- ---- a connection

-- how far the client comes: nothing is put up, or it comes nearer, or it is online already
abbrev pub ComesOn : {A : Type 0} → Conn A → Conn A → Type 0
ComesOn c d = ((rounds_to_go d.client ≤ rounds_to_go c.client) × (up_words c.wires ≡ [] → up_words d.wires ≡ [])) ⊎ ((rounds_to_go d.client + 1 ≤ rounds_to_go c.client) ⊎ ((rounds_to_go c.client ≡ 0) × (rounds_to_go d.client ≡ 0)))

pub record GoesOn {A : Type 0} (c d : Conn A) : Type 0 where
  pub flows : is_flowing d.wires ≡ true → is_flowing c.wires ≡ true
  pub comes : ComesOn c d

pub unmoved : {A : Type 0} (c : Conn A) → GoesOn c c
unmoved c = record { flows = λ e. e; comes = inl ((omega arith), λ e. e) }

-- it is a connection of the next view, of which this is so
abbrev pub Changed : {A : Type 0} → (Conn A → Conn A → Type 0) → ℕ → Conn A → View A → Type 0
Changed {A = A} so k c next = (d : Conn A) × (next.conns k ≡ Some d) × so c d

-- where one connection is changed, and the others are as they were
pub at_one : {A : Type 0} (so : Conn A → Conn A → Type 0) → ((x : Conn A) → so x x) → (j k : ℕ) (old new c : Conn A) (v next : View A) → next.conns ≡ with_at j new v.conns → v.conns j ≡ Some old → v.conns k ≡ Some c → so old new → Changed so k c next
at_one {A = A} so same_so j k old new c v next gives was is goes =
    elim (cases_eq j k) [
      | inl same ↦
          let one : old ≡ c = some_one (v.conns k) old c (subst (λ x. v.conns x ≡ Some old) same was) is in
          (new, ap (λ (t : Table (Conn A)). t k) gives ∙ subst (λ x. with_at j new v.conns x ≡ Some new) same (at_same j new v.conns), subst (λ (x : Conn A). so x new) one goes)
      | inr other ↦ (c, ap (λ (t : Table (Conn A)). t k) gives ∙ at_other j new v.conns k other ∙ is, same_so c)
    ]

pub at_none : {A : Type 0} (so : Conn A → Conn A → Type 0) → ((x : Conn A) → so x x) → (k : ℕ) (c : Conn A) (v next : View A) → next.conns ≡ v.conns → v.conns k ≡ Some c → Changed so k c next
at_none {A = A} so same_so k c v next gives is = (c, ap (λ (t : Table (Conn A)). t k) gives ∙ is, same_so c)

-- the server takes a word, and puts words
pub taken_goes : {A : Type 0} (c d : Conn A) (word : UpWord A) (rest : List (UpWord A)) (puts : List (DownWord A)) → up_words c.wires ≡ word ∷ rest → d.client ≡ c.client → d.wires ≡ send_down puts (left_up rest c.wires) → GoesOn c d
taken_goes {A = A} c d word rest puts first client wires = record {
  flows = λ e. sym (ap is_flowing wires ∙ flow_down puts rest c.wires) ∙ e;
  comes = inl (subst (λ (x : Client). rounds_to_go x ≤ rounds_to_go c.client) (sym client) (omega arith), λ e. absurd (let no_way : ⊥ = cc in no_way));
}

-- it puts words
pub put_goes : {A : Type 0} (c d : Conn A) (puts : List (DownWord A)) → d.client ≡ c.client → d.wires ≡ send_down puts c.wires → GoesOn c d
put_goes c d puts client wires = record {
  flows = λ e. sym (ap is_flowing wires ∙ same_flow_down puts c.wires) ∙ e;
  comes = inl (subst (λ (x : Client). rounds_to_go x ≤ rounds_to_go c.client) (sym client) (omega arith), λ e. ap up_words wires ∙ same_up puts c.wires ∙ e);
}

-- it shuts the connection
pub shut_goes : {A : Type 0} (c : Conn A) (ending : Ending) → GoesOn c (shut ending c)
shut_goes c ending = record {
  flows = λ e. absurd (let no : is_flowing (halt (send_down (tail_of ending) c.wires)) ≡ false = halted (tail_of ending) c.wires in let no_way : ⊥ = cc in no_way);
  comes = inl ((omega arith), λ e. halted_up (tail_of ending) c.wires);
}

-- it hears of the end
pub told_goes : {A : Type 0} (c : Conn A) → GoesOn c (record c { gone = true })
told_goes c = record { flows = λ e. e; comes = inl ((omega arith), λ e. e) }

-- the client takes a word, and puts words
abbrev pub reads : {A : Type 0} → Client → List (DownWord A) → List (UpWord A) → Conn A → Conn A
reads client rest puts c = record c { client = client; wires = send_up puts (left_down rest c.wires) }

pub read_goes : {A : Type 0} (c : Conn A) (client : Client) (rest : List (DownWord A)) (puts : List (UpWord A)) → ComesOn c (reads client rest puts c) → GoesOn c (reads client rest puts c)
read_goes c client rest puts comes = record {
  flows = λ e. sym (flow_up puts rest c.wires) ∙ e;
  comes = comes;
}

-- online it does so, or puts words of itself
pub online_reads : {A : Type 0} (c : Conn A) (rest : List (DownWord A)) (puts : List (UpWord A)) (p : ℕ) → c.client ≡ InOnline p → GoesOn c (reads c.client rest puts c)
online_reads c rest puts p is = read_goes c c.client rest puts (inr (inr (ap rounds_to_go is, ap rounds_to_go is)))

abbrev pub speaks : {A : Type 0} → List (UpWord A) → Conn A → Conn A
speaks puts c = record c { wires = send_up puts c.wires }

pub say_goes : {A : Type 0} (c : Conn A) (puts : List (UpWord A)) (p : ℕ) → c.client ≡ InOnline p → GoesOn c (speaks puts c)
say_goes c puts p is = record { flows = λ e. sym (same_flow_up puts c.wires) ∙ e; comes = inr (inr (ap rounds_to_go is, ap rounds_to_go is)) }

-- a word of the handshake before a session is asked for
hand_comes : {A : Type 0} (c : Client) (word : DownWord A) (to : Client) (puts : List (UpWord A)) → IsEarly c → client_hand None c word ≡ Goes to puts → ((rounds_to_go to ≤ rounds_to_go c) × (puts ≡ [])) ⊎ (rounds_to_go to + 1 ≤ rounds_to_go c)
hand_comes InHeader1 Head to puts early is = inl (let e : InFeatures1 ≡ to = cc in subst (λ (x : Client). rounds_to_go x ≤ 7) e (omega arith), (let f : puts ≡ [] = cc in f))
hand_comes InFeatures1 Feat to puts early is = inr (let e : InAuth ≡ to = cc in subst (λ (x : Client). rounds_to_go x + 1 ≤ 7) e (omega arith))
hand_comes InAuth Chal to puts early is = inr (let e : InResponse ≡ to = cc in subst (λ (x : Client). rounds_to_go x + 1 ≤ 6) e (omega arith))
hand_comes InResponse Succ to puts early is = inr (let e : InHeader2 ≡ to = cc in subst (λ (x : Client). rounds_to_go x + 1 ≤ 5) e (omega arith))
hand_comes InHeader2 Head to puts early is = inl (let e : InFeatures2 ≡ to = cc in subst (λ (x : Client). rounds_to_go x ≤ 4) e (omega arith), (let f : puts ≡ [] = cc in f))
hand_comes InFeatures2 word to puts early is = absurd early
hand_comes (InResume p) word to puts early is = absurd early
hand_comes InBind word to puts early is = absurd early
hand_comes InEnable word to puts early is = absurd early
hand_comes (InOnline p) word to puts early is = absurd early
hand_comes InHeader1 _ to puts early is = absurd (let no_way : ⊥ = cc in no_way)
hand_comes InFeatures1 _ to puts early is = absurd (let no_way : ⊥ = cc in no_way)
hand_comes InAuth _ to puts early is = absurd (let no_way : ⊥ = cc in no_way)
hand_comes InResponse _ to puts early is = absurd (let no_way : ⊥ = cc in no_way)
hand_comes InHeader2 _ to puts early is = absurd (let no_way : ⊥ = cc in no_way)

pub hand_reads : {A : Type 0} (c : Conn A) (word : DownWord A) (client : Client) (rest : List (DownWord A)) (puts : List (UpWord A)) → IsEarly c.client → client_hand None c.client word ≡ Goes client puts → GoesOn c (reads client rest puts c)
hand_reads {A = A} c word client rest puts early hand =
    read_goes c client rest puts (elim (hand_comes c.client word client puts early hand) [
      | inl same ↦ inl (same.0, λ e. ap up_words (ap (λ (x : List (UpWord A)). send_up x (left_down rest c.wires)) same.1) ∙ same_up_left rest c.wires ∙ e)
      | inr nearer ↦ inr (inl nearer)
    ])

-- a step of the client between two states
pub step_reads : {A : Type 0} (c : Conn A) (from to : Client) (rest : List (DownWord A)) (puts : List (UpWord A)) → c.client ≡ from → rounds_to_go to + 1 ≤ rounds_to_go from → GoesOn c (reads to rest puts c)
step_reads c from to rest puts was less = read_goes c to rest puts (inr (inl (subst (λ (x : Client). rounds_to_go to + 1 ≤ rounds_to_go x) (sym was) less)))
