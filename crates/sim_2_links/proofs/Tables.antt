-- What the table of the handshake keeps.
use Rattle.std.proofs.Common.{◌≡◌, ℕ, Bool, true, false, List, [], ◌∷◌, ◌++◌, take, drop, refl, sym, ap, ◌∙◌, subst, append_assoc, take-append-drop, Option, None, Some}
use Rattle.std.proofs.lemmas.List.{append-nil}
use Rattle.sim_2_links.specs.Words.{UpWord, Hdr, Auth, Resp, ResumeAt, Bind, Enable, Up, Foot, DownWord, Head, Feat, Chal, Succ, Failed, Resumed, Bound, Enabled, Down, Err, End, Cause, Client, InHeader1, InFeatures1, InAuth, InResponse, InHeader2, InFeatures2, InResume, InBind, InEnable, InOnline, Phase, Start, Sasl, Challenge, Restart, Ready, AtSession}
use Rattle.sim_2_links.specs.Wires.{Wires, Flow, Stop, is_flowing, up_words, down_words, up_whole, down_whole, send_up, send_down, left_up, left_down, cut, halt}
use Rattle.sim_2_links.specs.Stages.{Stage, Greets, Greeted, Offered, Proves, Challenged, Answers, Succeeded, Regreets, Regreeted, Reoffered, AsksResume, Refused, Resumes, AsksBind, Binds, AsksEnable, Enables, Runs, client_of, phase_of, up_of, down_of, Hand, Other, Goes, server_hand, client_hand, Ending, Stands, Errs, Closes, tail_of, foot_of, IsPlain, IsEarly, Conn}

-- the pipes, with what was lost

pub send_up_whole : {A : Type 0} (ws : List (UpWord A)) (x : Wires A) → up_whole (send_up ws x) ≡ up_whole x ++ ws
send_up_whole ws (Flow us ds) = refl
send_up_whole ws (Stop us ds lu ld) = sym (append_assoc us lu ws)

pub send_up_whole_down : {A : Type 0} (ws : List (UpWord A)) (x : Wires A) → down_whole (send_up ws x) ≡ down_whole x
send_up_whole_down ws (Flow us ds) = refl
send_up_whole_down ws (Stop us ds lu ld) = refl

pub send_down_whole : {A : Type 0} (ws : List (DownWord A)) (x : Wires A) → down_whole (send_down ws x) ≡ down_whole x ++ ws
send_down_whole ws (Flow us ds) = refl
send_down_whole ws (Stop us ds lu ld) = sym (append_assoc ds ld ws)

pub send_down_whole_up : {A : Type 0} (ws : List (DownWord A)) (x : Wires A) → up_whole (send_down ws x) ≡ up_whole x
send_down_whole_up ws (Flow us ds) = refl
send_down_whole_up ws (Stop us ds lu ld) = refl

pub left_up_whole : {A : Type 0} (w : UpWord A) (rest : List (UpWord A)) (x : Wires A) → up_words x ≡ w ∷ rest → up_whole x ≡ w ∷ up_whole (left_up rest x)
left_up_whole w rest (Flow us ds) e = e
left_up_whole w rest (Stop us ds lu ld) e = ap (λ l. l ++ lu) e

pub left_up_whole_down : {A : Type 0} (rest : List (UpWord A)) (x : Wires A) → down_whole (left_up rest x) ≡ down_whole x
left_up_whole_down rest (Flow us ds) = refl
left_up_whole_down rest (Stop us ds lu ld) = refl

pub left_down_whole : {A : Type 0} (w : DownWord A) (rest : List (DownWord A)) (x : Wires A) → down_words x ≡ w ∷ rest → down_whole x ≡ w ∷ down_whole (left_down rest x)
left_down_whole w rest (Flow us ds) e = e
left_down_whole w rest (Stop us ds lu ld) e = ap (λ l. l ++ ld) e

pub left_down_whole_up : {A : Type 0} (rest : List (DownWord A)) (x : Wires A) → up_whole (left_down rest x) ≡ up_whole x
left_down_whole_up rest (Flow us ds) = refl
left_down_whole_up rest (Stop us ds lu ld) = refl

kept_by_cut : {W : Type 0} (i : ℕ) (ws lost : List W) → take i ws ++ (drop i ws ++ lost) ≡ ws ++ lost
kept_by_cut i ws lost = sym (append_assoc (take i ws) (drop i ws) lost) ∙ ap (λ l. l ++ lost) (take-append-drop i ws)

pub cut_whole_up : {A : Type 0} (i j : ℕ) (x : Wires A) → up_whole (cut i j x) ≡ up_whole x
cut_whole_up i j (Flow us ds) = take-append-drop i us
cut_whole_up i j (Stop us ds lu ld) = kept_by_cut i us lu

pub cut_whole_down : {A : Type 0} (i j : ℕ) (x : Wires A) → down_whole (cut i j x) ≡ down_whole x
cut_whole_down i j (Flow us ds) = take-append-drop j ds
cut_whole_down i j (Stop us ds lu ld) = kept_by_cut j ds ld

pub halt_whole_up : {A : Type 0} (x : Wires A) → up_whole (halt x) ≡ up_whole x
halt_whole_up (Flow us ds) = refl
halt_whole_up (Stop us ds lu ld) = refl

pub halt_whole_down : {A : Type 0} (x : Wires A) → down_whole (halt x) ≡ down_whole x
halt_whole_down (Flow us ds) = append-nil ds
halt_whole_down (Stop us ds lu ld) = refl

pub cut_stops : {A : Type 0} (i j : ℕ) (x : Wires A) → is_flowing (cut i j x) ≡ false
cut_stops i j (Flow us ds) = refl
cut_stops i j (Stop us ds lu ld) = refl

pub cut_up_words : {A : Type 0} (i j : ℕ) (x : Wires A) → up_words (cut i j x) ≡ take i (up_words x)
cut_up_words i j (Flow us ds) = refl
cut_up_words i j (Stop us ds lu ld) = refl

pub cut_down_words : {A : Type 0} (i j : ℕ) (x : Wires A) → down_words (cut i j x) ≡ take j (down_words x)
cut_down_words i j (Flow us ds) = refl
cut_down_words i j (Stop us ds lu ld) = refl

pub early_plain : {A : Type 0} (s : Stage A) → IsEarly (client_of s) → IsPlain s
early_plain (AsksResume p h) e = e
early_plain (Refused p) e = e
early_plain (Resumes p h downs) e = e
early_plain AsksBind e = e
early_plain (Binds m) e = e
early_plain (AsksEnable m) e = e
early_plain (Enables m downs) e = e
early_plain (Runs p ups downs) e = e
early_plain _ e = tt

-- the rows: a word that the client takes leads to a row, which has what it put behind and the same phase

pub record NextDown {A : Type 0} (s : Stage A) (tail : List (DownWord A)) (client : Client) (puts : List (UpWord A)) (rest : List (DownWord A)) : Type 0 where
  pub row : Stage A
  pub state : client_of row ≡ client
  pub phase : phase_of row ≡ phase_of s
  pub up : up_of row ≡ up_of s ++ puts
  pub down : down_of row ++ tail ≡ rest
  pub plain : IsEarly (client_of s) → IsPlain row

-- the row to which a word leads that the client takes
abbrev pub DownRow : {A : Type 0} → Stage A → Conn A → Client → List (UpWord A) → List (DownWord A) → Type 0
DownRow s c client puts rest = NextDown s (tail_of c.ending) client puts (down_whole (left_down rest c.wires))

abbrev pub LeadsDown : {A : Type 0} → Stage A → List (DownWord A) → Hand Client (UpWord A) → List (DownWord A) → Type 0
LeadsDown s tail Other rest = Unit {0}
LeadsDown s tail (Goes client puts) rest = NextDown s tail client puts rest

abbrev pub Down1 : {A : Type 0} → Option (ℕ × ℕ) → Stage A → Ending → DownWord A → List (DownWord A) → Type 0
Down1 own s end w rest = LeadsDown s (tail_of end) (client_hand own (client_of s) w) rest

on_err : {A : Type 0} (own : Option (ℕ × ℕ)) (c : Client) (cause : Cause) → client_hand {A = A} own c (Err cause) ≡ Other
on_err own InHeader1 cause = refl
on_err own InFeatures1 cause = refl
on_err own InAuth cause = refl
on_err own InResponse cause = refl
on_err own InHeader2 cause = refl
on_err None InFeatures2 cause = refl
on_err (Some s) InFeatures2 cause = refl
on_err own (InResume p) cause = refl
on_err own InBind cause = refl
on_err own InEnable cause = refl
on_err own (InOnline p) cause = refl

on_end : {A : Type 0} (own : Option (ℕ × ℕ)) (c : Client) → client_hand {A = A} own c End ≡ Other
on_end own InHeader1 = refl
on_end own InFeatures1 = refl
on_end own InAuth = refl
on_end own InResponse = refl
on_end own InHeader2 = refl
on_end None InFeatures2 = refl
on_end (Some s) InFeatures2 = refl
on_end own (InResume p) = refl
on_end own InBind = refl
on_end own InEnable = refl
on_end own (InOnline p) = refl

-- no word of the handshake is the server's last one
on_tail : {A : Type 0} (own : Option (ℕ × ℕ)) (s : Stage A) (end : Ending) (w : DownWord A) (rest : List (DownWord A)) → tail_of end ≡ w ∷ rest → Down1 own s end w rest
on_tail own s Stands w rest e = absurd (let no_way : ⊥ = cc in no_way)
on_tail own s (Errs cause) w rest e =
    let first : Err cause ≡ w = cc in
    subst (λ x. Down1 own s (Errs cause) x rest) first (subst (λ h. LeadsDown s (tail_of (Errs cause)) h rest) (sym (on_err own (client_of s) cause)) tt)
on_tail own s Closes w rest e =
    let first : End ≡ w = cc in
    subst (λ x. Down1 own s Closes x rest) first (subst (λ h. LeadsDown s (tail_of Closes) h rest) (sym (on_end own (client_of s))) tt)

pub client_leads : {A : Type 0} (own : Option (ℕ × ℕ)) (s : Stage A) (end : Ending) (w : DownWord A) (rest : List (DownWord A)) →
    down_of s ++ tail_of end ≡ w ∷ rest → Down1 own s end w rest
client_leads own Greets end w rest e = on_tail own Greets end w rest e
client_leads own Proves end w rest e = on_tail own Proves end w rest e
client_leads own Answers end w rest e = on_tail own Answers end w rest e
client_leads own Regreets end w rest e = on_tail own Regreets end w rest e
client_leads own (AsksResume p h) end w rest e = on_tail own (AsksResume p h) end w rest e
client_leads own AsksBind end w rest e = on_tail own AsksBind end w rest e
client_leads own (AsksEnable m) end w rest e = on_tail own (AsksEnable m) end w rest e
client_leads own Greeted end w rest e =
    let first : Head ≡ w = cc in let left : Feat ∷ tail_of end ≡ rest = cc in
    subst (λ x. Down1 own Greeted end x rest) first (record { row = Offered; state = refl; phase = refl; up = refl; down = left; plain = λ e. tt })
client_leads own Offered end w rest e =
    let first : Feat ≡ w = cc in let left : tail_of end ≡ rest = cc in
    subst (λ x. Down1 own Offered end x rest) first (record { row = Proves; state = refl; phase = refl; up = refl; down = left; plain = λ e. tt })
client_leads own Challenged end w rest e =
    let first : Chal ≡ w = cc in let left : tail_of end ≡ rest = cc in
    subst (λ x. Down1 own Challenged end x rest) first (record { row = Answers; state = refl; phase = refl; up = refl; down = left; plain = λ e. tt })
client_leads own Succeeded end w rest e =
    let first : Succ ≡ w = cc in let left : tail_of end ≡ rest = cc in
    subst (λ x. Down1 own Succeeded end x rest) first (record { row = Regreets; state = refl; phase = refl; up = refl; down = left; plain = λ e. tt })
client_leads own Regreeted end w rest e =
    let first : Head ≡ w = cc in let left : Feat ∷ tail_of end ≡ rest = cc in
    subst (λ x. Down1 own Regreeted end x rest) first (record { row = Reoffered; state = refl; phase = refl; up = refl; down = left; plain = λ e. tt })
client_leads None Reoffered end w rest e =
    let first : Feat ≡ w = cc in let left : tail_of end ≡ rest = cc in
    subst (λ x. Down1 None Reoffered end x rest) first (record { row = AsksBind; state = refl; phase = refl; up = refl; down = left; plain = λ e. absurd e })
client_leads (Some own) Reoffered end w rest e =
    let first : Feat ≡ w = cc in let left : tail_of end ≡ rest = cc in
    subst (λ x. Down1 (Some own) Reoffered end x rest) first (record { row = AsksResume own.0 own.1; state = refl; phase = refl; up = refl; down = left; plain = λ e. absurd e })
client_leads own (Refused p) end w rest e =
    let first : Failed ≡ w = cc in let left : tail_of end ≡ rest = cc in
    subst (λ x. Down1 own (Refused p) end x rest) first (record { row = AsksBind; state = refl; phase = refl; up = refl; down = left; plain = λ e. absurd e })
client_leads own (Binds m) end w rest e =
    let first : Bound m ≡ w = cc in let left : tail_of end ≡ rest = cc in
    subst (λ x. Down1 own (Binds m) end x rest) first (record { row = AsksEnable m; state = refl; phase = refl; up = refl; down = left; plain = λ e. absurd e })
client_leads own (Resumes p h downs) end w rest e =
    let first : Resumed p h ≡ w = cc in subst (λ x. Down1 own (Resumes p h downs) end x rest) first tt
client_leads own (Enables m downs) end w rest e =
    let first : Enabled m ≡ w = cc in subst (λ x. Down1 own (Enables m downs) end x rest) first tt
client_leads own (Runs p ups []) end w rest e = on_tail own (Runs p ups []) end w rest e
client_leads own (Runs p ups (t ∷ downs)) end w rest e =
    let first : Down t ≡ w = cc in subst (λ x. Down1 own (Runs p ups (t ∷ downs)) end x rest) first tt

-- and a word that the server takes, likewise

pub record NextUp {A : Type 0} (s : Stage A) (tail : List (UpWord A)) (phase : Phase) (puts : List (DownWord A)) (rest : List (UpWord A)) : Type 0 where
  pub row : Stage A
  pub state : client_of row ≡ client_of s
  pub stage : phase_of row ≡ phase
  pub up : up_of row ++ tail ≡ rest
  pub down : down_of row ≡ down_of s ++ puts
  pub before : IsPlain s
  pub plain : IsPlain row

-- the row to which a word leads that the server takes
abbrev pub UpRow : {A : Type 0} → Stage A → Conn A → Phase → List (DownWord A) → List (UpWord A) → Type 0
UpRow s c phase puts rest = NextUp s (foot_of c.footed) phase puts (up_whole (left_up rest c.wires))

abbrev pub LeadsUp : {A : Type 0} → Stage A → List (UpWord A) → Hand Phase (DownWord A) → List (UpWord A) → Type 0
LeadsUp s tail Other rest = Unit {0}
LeadsUp s tail (Goes phase puts) rest = NextUp s tail phase puts rest

abbrev pub Up1 : {A : Type 0} → Stage A → Bool → UpWord A → List (UpWord A) → Type 0
Up1 s foot w rest = LeadsUp s (foot_of foot) (server_hand (phase_of s) w) rest

on_foot_word : {A : Type 0} (p : Phase) → server_hand {A = A} p Foot ≡ Other
on_foot_word Start = refl
on_foot_word Sasl = refl
on_foot_word Challenge = refl
on_foot_word Restart = refl
on_foot_word Ready = refl
on_foot_word (AtSession p) = refl

on_foot : {A : Type 0} (s : Stage A) (foot : Bool) (w : UpWord A) (rest : List (UpWord A)) → foot_of foot ≡ w ∷ rest → Up1 s foot w rest
on_foot s false w rest e = absurd (let no_way : ⊥ = cc in no_way)
on_foot s true w rest e =
    let first : Foot ≡ w = cc in
    subst (λ x. Up1 s true x rest) first (subst (λ h. LeadsUp s (foot_of true) h rest) (sym (on_foot_word (phase_of s))) tt)

pub server_leads : {A : Type 0} (s : Stage A) (foot : Bool) (w : UpWord A) (rest : List (UpWord A)) →
    up_of s ++ foot_of foot ≡ w ∷ rest → Up1 s foot w rest
server_leads Greets foot w rest e =
    let first : Hdr ≡ w = cc in let left : foot_of foot ≡ rest = cc in
    subst (λ x. Up1 Greets foot x rest) first (record { row = Greeted; state = refl; stage = refl; up = left; down = refl; before = tt; plain = tt })
server_leads Proves foot w rest e =
    let first : Auth ≡ w = cc in let left : foot_of foot ≡ rest = cc in
    subst (λ x. Up1 Proves foot x rest) first (record { row = Challenged; state = refl; stage = refl; up = left; down = refl; before = tt; plain = tt })
server_leads Answers foot w rest e =
    let first : Resp ≡ w = cc in let left : foot_of foot ≡ rest = cc in
    subst (λ x. Up1 Answers foot x rest) first (record { row = Succeeded; state = refl; stage = refl; up = left; down = refl; before = tt; plain = tt })
server_leads Regreets foot w rest e =
    let first : Hdr ≡ w = cc in let left : foot_of foot ≡ rest = cc in
    subst (λ x. Up1 Regreets foot x rest) first (record { row = Regreeted; state = refl; stage = refl; up = left; down = refl; before = tt; plain = tt })
server_leads (AsksResume p h) foot w rest e =
    let first : ResumeAt p h ≡ w = cc in subst (λ x. Up1 (AsksResume p h) foot x rest) first tt
server_leads AsksBind foot w rest e = let first : Bind ≡ w = cc in subst (λ x. Up1 AsksBind foot x rest) first tt
server_leads (AsksEnable m) foot w rest e = let first : Enable ≡ w = cc in subst (λ x. Up1 (AsksEnable m) foot x rest) first tt
server_leads (Runs p [] downs) foot w rest e = on_foot (Runs p [] downs) foot w rest e
server_leads (Runs p (t ∷ ups) downs) foot w rest e =
    let first : Up t ≡ w = cc in subst (λ x. Up1 (Runs p (t ∷ ups) downs) foot x rest) first tt
server_leads Greeted foot w rest e = on_foot Greeted foot w rest e
server_leads Offered foot w rest e = on_foot Offered foot w rest e
server_leads Challenged foot w rest e = on_foot Challenged foot w rest e
server_leads Succeeded foot w rest e = on_foot Succeeded foot w rest e
server_leads Regreeted foot w rest e = on_foot Regreeted foot w rest e
server_leads Reoffered foot w rest e = on_foot Reoffered foot w rest e
server_leads (Refused p) foot w rest e = on_foot (Refused p) foot w rest e
server_leads (Resumes p h downs) foot w rest e = on_foot (Resumes p h downs) foot w rest e
server_leads (Binds m) foot w rest e = on_foot (Binds m) foot w rest e
server_leads (Enables m downs) foot w rest e = on_foot (Enables m downs) foot w rest e
