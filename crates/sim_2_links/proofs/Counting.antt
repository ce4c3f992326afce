-- The counts along a pipe.
use Rattle.std.proofs.Common.{◌≡◌, ℕ, ◌≤◌, List, [], ◌∷◌, ◌++◌, refl, ap}
use Rattle.std.specs.List.{Contains}
use Rattle.std.proofs.lemmas.List.Elements.{Contains-append_left, Contains-push}
use Rattle.sim_2_links.specs.Words.{St, Req, Ack, up_stanzas, down_stanzas, UpWord, Hdr, Auth, Resp, ResumeAt, Bind, Enable, Up, Foot, DownWord, Head, Feat, Chal, Succ, Failed, Resumed, Bound, Enabled, Down, Err, End}
use Rattle.sim_2_links.specs.Links.{UpCounts, DownCounts}

-- one count more was stated
pub up_counts_push : {A : Type 0} (low n : ℕ) (stated : List ℕ) (ws : List (UpWord A)) → ((h : ℕ) → Contains stated h → h ≤ n) → low ≤ n → UpCounts low stated ws → UpCounts low (stated ++ n ∷ []) (ws ++ Up (Ack n) ∷ [])
up_counts_push low n stated [] most l u = (l, Contains-push stated n, tt)
up_counts_push low n stated (Up (Ack k) ∷ ws) most l u = (u.0, Contains-append_left stated (n ∷ []) k u.1, up_counts_push k n stated ws most (most k u.1) u.2)
up_counts_push low n stated (Hdr ∷ ws) most l u = up_counts_push low n stated ws most l u
up_counts_push low n stated (Auth ∷ ws) most l u = up_counts_push low n stated ws most l u
up_counts_push low n stated (Resp ∷ ws) most l u = up_counts_push low n stated ws most l u
up_counts_push low n stated (ResumeAt p h ∷ ws) most l u = up_counts_push low n stated ws most l u
up_counts_push low n stated (Bind ∷ ws) most l u = up_counts_push low n stated ws most l u
up_counts_push low n stated (Enable ∷ ws) most l u = up_counts_push low n stated ws most l u
up_counts_push low n stated (Foot ∷ ws) most l u = up_counts_push low n stated ws most l u
up_counts_push low n stated (Up (St z) ∷ ws) most l u = up_counts_push low n stated ws most l u
up_counts_push low n stated (Up Req ∷ ws) most l u = up_counts_push low n stated ws most l u

pub up_counts_more : {A : Type 0} (low n : ℕ) (stated : List ℕ) (ws : List (UpWord A)) → UpCounts low stated ws → UpCounts low (stated ++ n ∷ []) ws
up_counts_more low n stated [] u = tt
up_counts_more low n stated (Up (Ack k) ∷ ws) u = (u.0, Contains-append_left stated (n ∷ []) k u.1, up_counts_more k n stated ws u.2)
up_counts_more low n stated (Hdr ∷ ws) u = up_counts_more low n stated ws u
up_counts_more low n stated (Auth ∷ ws) u = up_counts_more low n stated ws u
up_counts_more low n stated (Resp ∷ ws) u = up_counts_more low n stated ws u
up_counts_more low n stated (ResumeAt p h ∷ ws) u = up_counts_more low n stated ws u
up_counts_more low n stated (Bind ∷ ws) u = up_counts_more low n stated ws u
up_counts_more low n stated (Enable ∷ ws) u = up_counts_more low n stated ws u
up_counts_more low n stated (Foot ∷ ws) u = up_counts_more low n stated ws u
up_counts_more low n stated (Up (St z) ∷ ws) u = up_counts_more low n stated ws u
up_counts_more low n stated (Up Req ∷ ws) u = up_counts_more low n stated ws u

pub up_counts_with : {A : Type 0} (low : ℕ) (stated : List ℕ) (ws : List (UpWord A)) (last : UpWord A) → ((n : ℕ) → UpCounts n stated (last ∷ [])) → UpCounts low stated ws → UpCounts low stated (ws ++ last ∷ [])
up_counts_with low stated [] last plain u = plain low
up_counts_with low stated (Up (Ack k) ∷ ws) last plain u = (u.0, u.1, up_counts_with k stated ws last plain u.2)
up_counts_with low stated (Hdr ∷ ws) last plain u = up_counts_with low stated ws last plain u
up_counts_with low stated (Auth ∷ ws) last plain u = up_counts_with low stated ws last plain u
up_counts_with low stated (Resp ∷ ws) last plain u = up_counts_with low stated ws last plain u
up_counts_with low stated (ResumeAt p h ∷ ws) last plain u = up_counts_with low stated ws last plain u
up_counts_with low stated (Bind ∷ ws) last plain u = up_counts_with low stated ws last plain u
up_counts_with low stated (Enable ∷ ws) last plain u = up_counts_with low stated ws last plain u
up_counts_with low stated (Foot ∷ ws) last plain u = up_counts_with low stated ws last plain u
up_counts_with low stated (Up (St z) ∷ ws) last plain u = up_counts_with low stated ws last plain u
up_counts_with low stated (Up Req ∷ ws) last plain u = up_counts_with low stated ws last plain u

pub up_stanzas_with : {A : Type 0} (ws more : List (UpWord A)) → up_stanzas (ws ++ more) ≡ up_stanzas ws ++ up_stanzas more
up_stanzas_with [] more = refl
up_stanzas_with (Up (St z) ∷ ws) more = ap (λ l. z ∷ l) (up_stanzas_with ws more)
up_stanzas_with (Up (Ack k) ∷ ws) more = up_stanzas_with ws more
up_stanzas_with (Hdr ∷ ws) more = up_stanzas_with ws more
up_stanzas_with (Auth ∷ ws) more = up_stanzas_with ws more
up_stanzas_with (Resp ∷ ws) more = up_stanzas_with ws more
up_stanzas_with (ResumeAt p h ∷ ws) more = up_stanzas_with ws more
up_stanzas_with (Bind ∷ ws) more = up_stanzas_with ws more
up_stanzas_with (Enable ∷ ws) more = up_stanzas_with ws more
up_stanzas_with (Foot ∷ ws) more = up_stanzas_with ws more
up_stanzas_with (Up Req ∷ ws) more = up_stanzas_with ws more

pub down_counts_push : {A : Type 0} (low n : ℕ) (stated : List ℕ) (ws : List (DownWord A)) → ((h : ℕ) → Contains stated h → h ≤ n) → low ≤ n → DownCounts low stated ws → DownCounts low (stated ++ n ∷ []) (ws ++ Down (Ack n) ∷ [])
down_counts_push low n stated [] most l u = (l, Contains-push stated n, tt)
down_counts_push low n stated (Down (Ack k) ∷ ws) most l u = (u.0, Contains-append_left stated (n ∷ []) k u.1, down_counts_push k n stated ws most (most k u.1) u.2)
down_counts_push low n stated (Resumed p k ∷ ws) most l u = (u.0, Contains-append_left stated (n ∷ []) k u.1, down_counts_push k n stated ws most (most k u.1) u.2)
down_counts_push low n stated (Head ∷ ws) most l u = down_counts_push low n stated ws most l u
down_counts_push low n stated (Feat ∷ ws) most l u = down_counts_push low n stated ws most l u
down_counts_push low n stated (Chal ∷ ws) most l u = down_counts_push low n stated ws most l u
down_counts_push low n stated (Succ ∷ ws) most l u = down_counts_push low n stated ws most l u
down_counts_push low n stated (Failed ∷ ws) most l u = down_counts_push low n stated ws most l u
down_counts_push low n stated (Bound m ∷ ws) most l u = down_counts_push low n stated ws most l u
down_counts_push low n stated (Enabled m ∷ ws) most l u = down_counts_push low n stated ws most l u
down_counts_push low n stated (Down (St z) ∷ ws) most l u = down_counts_push low n stated ws most l u
down_counts_push low n stated (Down Req ∷ ws) most l u = down_counts_push low n stated ws most l u
down_counts_push low n stated (Err c ∷ ws) most l u = down_counts_push low n stated ws most l u
down_counts_push low n stated (End ∷ ws) most l u = down_counts_push low n stated ws most l u

pub down_counts_more : {A : Type 0} (low n : ℕ) (stated : List ℕ) (ws : List (DownWord A)) → DownCounts low stated ws → DownCounts low (stated ++ n ∷ []) ws
down_counts_more low n stated [] u = tt
down_counts_more low n stated (Down (Ack k) ∷ ws) u = (u.0, Contains-append_left stated (n ∷ []) k u.1, down_counts_more k n stated ws u.2)
down_counts_more low n stated (Resumed p k ∷ ws) u = (u.0, Contains-append_left stated (n ∷ []) k u.1, down_counts_more k n stated ws u.2)
down_counts_more low n stated (Head ∷ ws) u = down_counts_more low n stated ws u
down_counts_more low n stated (Feat ∷ ws) u = down_counts_more low n stated ws u
down_counts_more low n stated (Chal ∷ ws) u = down_counts_more low n stated ws u
down_counts_more low n stated (Succ ∷ ws) u = down_counts_more low n stated ws u
down_counts_more low n stated (Failed ∷ ws) u = down_counts_more low n stated ws u
down_counts_more low n stated (Bound m ∷ ws) u = down_counts_more low n stated ws u
down_counts_more low n stated (Enabled m ∷ ws) u = down_counts_more low n stated ws u
down_counts_more low n stated (Down (St z) ∷ ws) u = down_counts_more low n stated ws u
down_counts_more low n stated (Down Req ∷ ws) u = down_counts_more low n stated ws u
down_counts_more low n stated (Err c ∷ ws) u = down_counts_more low n stated ws u
down_counts_more low n stated (End ∷ ws) u = down_counts_more low n stated ws u

pub down_counts_with : {A : Type 0} (low : ℕ) (stated : List ℕ) (ws : List (DownWord A)) (last : DownWord A) → ((n : ℕ) → DownCounts n stated (last ∷ [])) → DownCounts low stated ws → DownCounts low stated (ws ++ last ∷ [])
down_counts_with low stated [] last plain u = plain low
down_counts_with low stated (Down (Ack k) ∷ ws) last plain u = (u.0, u.1, down_counts_with k stated ws last plain u.2)
down_counts_with low stated (Resumed p k ∷ ws) last plain u = (u.0, u.1, down_counts_with k stated ws last plain u.2)
down_counts_with low stated (Head ∷ ws) last plain u = down_counts_with low stated ws last plain u
down_counts_with low stated (Feat ∷ ws) last plain u = down_counts_with low stated ws last plain u
down_counts_with low stated (Chal ∷ ws) last plain u = down_counts_with low stated ws last plain u
down_counts_with low stated (Succ ∷ ws) last plain u = down_counts_with low stated ws last plain u
down_counts_with low stated (Failed ∷ ws) last plain u = down_counts_with low stated ws last plain u
down_counts_with low stated (Bound m ∷ ws) last plain u = down_counts_with low stated ws last plain u
down_counts_with low stated (Enabled m ∷ ws) last plain u = down_counts_with low stated ws last plain u
down_counts_with low stated (Down (St z) ∷ ws) last plain u = down_counts_with low stated ws last plain u
down_counts_with low stated (Down Req ∷ ws) last plain u = down_counts_with low stated ws last plain u
down_counts_with low stated (Err c ∷ ws) last plain u = down_counts_with low stated ws last plain u
down_counts_with low stated (End ∷ ws) last plain u = down_counts_with low stated ws last plain u

pub down_stanzas_with : {A : Type 0} (ws more : List (DownWord A)) → down_stanzas (ws ++ more) ≡ down_stanzas ws ++ down_stanzas more
down_stanzas_with [] more = refl
down_stanzas_with (Down (St z) ∷ ws) more = ap (λ l. z ∷ l) (down_stanzas_with ws more)
down_stanzas_with (Down (Ack k) ∷ ws) more = down_stanzas_with ws more
down_stanzas_with (Resumed p k ∷ ws) more = down_stanzas_with ws more
down_stanzas_with (Head ∷ ws) more = down_stanzas_with ws more
down_stanzas_with (Feat ∷ ws) more = down_stanzas_with ws more
down_stanzas_with (Chal ∷ ws) more = down_stanzas_with ws more
down_stanzas_with (Succ ∷ ws) more = down_stanzas_with ws more
down_stanzas_with (Failed ∷ ws) more = down_stanzas_with ws more
down_stanzas_with (Bound m ∷ ws) more = down_stanzas_with ws more
down_stanzas_with (Enabled m ∷ ws) more = down_stanzas_with ws more
down_stanzas_with (Down Req ∷ ws) more = down_stanzas_with ws more
down_stanzas_with (Err c ∷ ws) more = down_stanzas_with ws more
down_stanzas_with (End ∷ ws) more = down_stanzas_with ws more
