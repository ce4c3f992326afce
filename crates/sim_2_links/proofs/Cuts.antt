-- Ways that are cut.
use Rattle.std.proofs.Common.{◌≡◌, ℕ, zero, suc, Bool, true, false, List, [], ◌∷◌, length, take, refl, ap}
use Rattle.sm_acks.specs.Delivery.{Direction, Reached, Cut}
use Rattle.sim_2_links.proofs.DeliveryRuns.{reached_more}
use Rattle.sim_2_links.specs.Words.{St, Req, Ack, UpWord, Hdr, Auth, Resp, ResumeAt, Bind, Enable, Up, Foot, DownWord, Head, Feat, Chal, Succ, Failed, Resumed, Bound, Enabled, Down, Err, End, up_stanzas, down_stanzas}
use Rattle.sim_2_links.specs.Views.{cut_if}

pub reached_cut_if : {A : Type 0} (b : Bool) (n : ℕ) (d : Direction A) → Reached d → Reached (cut_if b n d)
reached_cut_if false n d reached = reached
reached_cut_if true n d reached = reached_more (Cut n) d (cut_if true n d) reached refl

-- the stanzas of the first words are the first stanzas
pub up_front : {A : Type 0} (i : ℕ) (ws : List (UpWord A)) → take (length (up_stanzas (take i ws))) (up_stanzas ws) ≡ up_stanzas (take i ws)
up_front zero ws = refl
up_front (suc i) [] = refl
up_front (suc i) (Up (St z) ∷ ws) = ap (λ l. z ∷ l) (up_front i ws)
up_front (suc i) (Up Req ∷ ws) = up_front i ws
up_front (suc i) (Up (Ack h) ∷ ws) = up_front i ws
up_front (suc i) (Hdr ∷ ws) = up_front i ws
up_front (suc i) (Auth ∷ ws) = up_front i ws
up_front (suc i) (Resp ∷ ws) = up_front i ws
up_front (suc i) (ResumeAt p h ∷ ws) = up_front i ws
up_front (suc i) (Bind ∷ ws) = up_front i ws
up_front (suc i) (Enable ∷ ws) = up_front i ws
up_front (suc i) (Foot ∷ ws) = up_front i ws

pub down_front : {A : Type 0} (i : ℕ) (ws : List (DownWord A)) → take (length (down_stanzas (take i ws))) (down_stanzas ws) ≡ down_stanzas (take i ws)
down_front zero ws = refl
down_front (suc i) [] = refl
down_front (suc i) (Down (St z) ∷ ws) = ap (λ l. z ∷ l) (down_front i ws)
down_front (suc i) (Down Req ∷ ws) = down_front i ws
down_front (suc i) (Down (Ack h) ∷ ws) = down_front i ws
down_front (suc i) (Head ∷ ws) = down_front i ws
down_front (suc i) (Feat ∷ ws) = down_front i ws
down_front (suc i) (Chal ∷ ws) = down_front i ws
down_front (suc i) (Succ ∷ ws) = down_front i ws
down_front (suc i) (Failed ∷ ws) = down_front i ws
down_front (suc i) (Resumed p h ∷ ws) = down_front i ws
down_front (suc i) (Bound m ∷ ws) = down_front i ws
down_front (suc i) (Enabled m ∷ ws) = down_front i ws
down_front (suc i) (Err c ∷ ws) = down_front i ws
down_front (suc i) (End ∷ ws) = down_front i ws
