-- Behind the rounds that bring the client online, two in which neither end puts anything of itself settle the device.
use Rattle.std.proofs.Common.{arith, ◌≡◌, ℕ, ◌≤◌, Bool, true, [], sym, subst, Some}
use Rattle.sim_2_links.proofs.CutLinks.{some_one}
use Rattle.sim_2_links.proofs.Reached.{link_kept}
use Rattle.sim_2_links.proofs.Settled.{prompt_kept, settled}
use Rattle.sim_2_links.specs.Wires.{is_flowing, up_words, down_words}
use Rattle.sim_2_links.specs.Stages.{Conn}
use Rattle.sim_2_links.specs.Views.{View}
use Rattle.sim_2_links.specs.Links.{LinkKept}
use Rattle.sim_2_links.specs.Machine.{LinkReached}
use Rattle.sim_2_links.specs.Covers.{PromptReached, IsSettled}
use Rattle.law_calm.proofs.Online.{Has, has_now, is_calm, low_then, rounds_keep}
use Rattle.law_calm.proofs.Staying.{IsCalmAnd, calm_rounds, conn_rounds, flows_rounds}
use Rattle.law_calm.proofs.Quiet.{Emptied, two_rounds}
use Rattle.law_calm.specs.Rounds.{IsAny, IsStill, AreRounds, rounds_to_go}

pub settles : {A : Type 0} (asks : A → Bool) (v mid last : View A) (k n : ℕ) (c d : Conn A) → LinkReached v → PromptReached asks last → v.here ≡ Some k → v.conns k ≡ Some c → rounds_to_go c.client ≤ n → AreRounds IsAny k n v mid → AreRounds IsStill k 2 mid last → last.conns k ≡ Some d → is_flowing d.wires ≡ true → IsSettled asks last k d
settles {A = A} asks v mid last k n c d reached prompt here is low calm still at flows = done
  where
    kept : LinkKept v
    kept = link_kept v reached

    begins : Has k (rounds_to_go c.client) v
    begins = has_now v k c here is

    there : Conn A
    there = (conn_rounds IsAny n v mid k c calm is).0

    at_mid : mid.conns k ≡ Some there
    at_mid = (conn_rounds IsAny n v mid k c calm is).1

    flowed : is_flowing there.wires ≡ true
    flowed = flows_rounds IsStill 2 mid last k there d still at_mid at flows

    first : AreRounds (IsCalmAnd IsAny k) k n v mid × (mid.here ≡ Some k)
    first = calm_rounds IsAny n v mid k c there calm here is at_mid flowed

    online : rounds_to_go there.client ≤ 0
    online = low_then v mid k n 0 c there reached here is calm (omega arith) at_mid flowed

    kept_mid : LinkKept mid
    kept_mid = (rounds_keep (IsCalmAnd IsAny k) k n (rounds_to_go c.client) (is_calm IsAny k) v mid first.0 kept begins).0

    end : LinkKept last × Emptied k last
    end = two_rounds k mid last (calm_rounds IsStill 2 mid last k there d still first.1 at_mid at flows).0 kept_mid (record { here = first.1; conn = there; is = at_mid; low = online })

    one : end.1.has.conn ≡ d
    one = some_one (last.conns k) end.1.has.conn d end.1.has.is at

    flows_there : is_flowing end.1.has.conn.wires ≡ true
    flows_there = subst (λ (x : Conn A). is_flowing x.wires ≡ true) (sym one) flows

    no_up : up_words d.wires ≡ []
    no_up = subst (λ (x : Conn A). up_words x.wires ≡ []) one (end.1.up flows_there)

    no_down : down_words d.wires ≡ []
    no_down = subst (λ (x : Conn A). down_words x.wires ≡ []) one (end.1.down flows_there)

    done : IsSettled asks last k d
    done = settled asks last k d (prompt_kept asks last prompt) end.1.has.here at flows no_up no_down
