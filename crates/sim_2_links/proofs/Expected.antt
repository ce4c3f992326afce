-- Each word comes where it is expected.
use Rattle.std.proofs.Common.{◌≡◌, ℕ, Bool, true, false, List, [], ◌∷◌, ◌++◌, refl, sym, ap, ◌∙◌, subst, ◌⊎◌, inl, inr, Some}
use Rattle.std.proofs.lemmas.Bool.{cases_Bool}
use Rattle.sim_2_links.proofs.Entries.{is_has}
use Rattle.sim_2_links.proofs.Hands.{taken_stands}
use Rattle.sim_2_links.proofs.Detached.{no_foot_here, first_whole}
use Rattle.sim_2_links.specs.Words.{InResume, InOnline, UpWord, Hdr, Auth, Resp, ResumeAt, Bind, Enable, Up, Foot, DownWord, Head, Feat, Chal, Succ, Failed, Resumed, Bound, Enabled, Down, Err, Conflict, Constraint, TooHigh, Client, InHeader1, InFeatures1, InAuth, InResponse, InHeader2, InFeatures2, InBind, InEnable, Start, Sasl, Challenge, Restart, Ready, AtSession}
use Rattle.sim_2_links.specs.Wires.{Wires, Flow, Stop, up_words, down_words, up_whole, down_whole}
use Rattle.sim_2_links.specs.Stages.{Stage, Greets, Greeted, Offered, Proves, Challenged, Answers, Succeeded, Regreets, Regreeted, Reoffered, AsksResume, Refused, Resumes, AsksBind, Binds, AsksEnable, Enables, Runs, client_of, phase_of, up_of, down_of, Ending, Stands, Errs, Closes, tail_of, foot_of, Conn}
use Rattle.sim_2_links.specs.Views.{has, Row, View, on_phase}
use Rattle.sim_2_links.specs.Links.{IsFair, FitsOwn, is_yet, carried_of, ConnKept, LinkKept}
use Rattle.sim_2_links.specs.Promises.{IsExpectedUp, IsExpectedDown}

-- what a row of the table says of the first word up
abbrev pub FirstUp : {A : Type 0} → Stage A → Bool → UpWord A → Type 0
FirstUp s foot Hdr = (phase_of s ≡ Start) ⊎ (phase_of s ≡ Restart)
FirstUp s foot Auth = phase_of s ≡ Sasl
FirstUp s foot Resp = phase_of s ≡ Challenge
FirstUp s foot (ResumeAt p h) = phase_of s ≡ Ready
FirstUp s foot Bind = phase_of s ≡ Ready
FirstUp s foot Enable = (m : ℕ) × (phase_of s ≡ AtSession m) × (is_yet s ≡ true)
FirstUp s foot (Up t) = (p : ℕ) × (phase_of s ≡ AtSession p) × (carried_of s ≡ Some p)
FirstUp s foot Foot = foot ≡ true

from_foot : {A : Type 0} (s : Stage A) (foot : Bool) (w : UpWord A) (rest : List (UpWord A)) → foot_of foot ≡ w ∷ rest → FirstUp s foot w
from_foot s false w rest e = absurd (let no_way : ⊥ = cc in no_way)
from_foot s true w rest e = let first : Foot ≡ w = cc in subst (λ x. FirstUp s true x) first refl

first_up : {A : Type 0} (s : Stage A) (foot : Bool) (w : UpWord A) (rest : List (UpWord A)) → up_of s ++ foot_of foot ≡ w ∷ rest → FirstUp s foot w
first_up Greets foot w rest e = let first : Hdr ≡ w = cc in subst (λ x. FirstUp Greets foot x) first (inl refl)
first_up Proves foot w rest e = let first : Auth ≡ w = cc in subst (λ x. FirstUp Proves foot x) first refl
first_up Answers foot w rest e = let first : Resp ≡ w = cc in subst (λ x. FirstUp Answers foot x) first refl
first_up Regreets foot w rest e = let first : Hdr ≡ w = cc in subst (λ x. FirstUp Regreets foot x) first (inr refl)
first_up (AsksResume p h) foot w rest e = let first : ResumeAt p h ≡ w = cc in subst (λ x. FirstUp (AsksResume p h) foot x) first refl
first_up AsksBind foot w rest e = let first : Bind ≡ w = cc in subst (λ x. FirstUp AsksBind foot x) first refl
first_up (AsksEnable m) foot w rest e = let first : Enable ≡ w = cc in subst (λ x. FirstUp (AsksEnable m) foot x) first (m, refl, refl)
first_up (Runs p (t ∷ ups) downs) foot w rest e = let first : Up t ≡ w = cc in subst (λ x. FirstUp (Runs p (t ∷ ups) downs) foot x) first (p, refl, refl)
first_up (Runs p [] downs) foot w rest e = from_foot (Runs p [] downs) foot w rest e
first_up Greeted foot w rest e = from_foot Greeted foot w rest e
first_up Offered foot w rest e = from_foot Offered foot w rest e
first_up Challenged foot w rest e = from_foot Challenged foot w rest e
first_up Succeeded foot w rest e = from_foot Succeeded foot w rest e
first_up Regreeted foot w rest e = from_foot Regreeted foot w rest e
first_up Reoffered foot w rest e = from_foot Reoffered foot w rest e
first_up (Refused p) foot w rest e = from_foot (Refused p) foot w rest e
first_up (Resumes p h downs) foot w rest e = from_foot (Resumes p h downs) foot w rest e
first_up (Binds m) foot w rest e = from_foot (Binds m) foot w rest e
first_up (Enables m downs) foot w rest e = from_foot (Enables m downs) foot w rest e

pub expected_up : {A : Type 0} (v : View A) (k : ℕ) (c : Conn A) (w : UpWord A) (rest : List (UpWord A)) → LinkKept v → v.conns k ≡ Some c → up_words c.wires ≡ w ∷ rest → IsExpectedUp v k c.phase w
expected_up {A = A} v k c w rest kept is first = by w first (first_up old.stage c.footed w whole.0 (sym old.at.up ∙ whole.1))
  where
    old : ConnKept v k c
    old = kept.conns k c is

    whole : (more : List (UpWord A)) × (up_whole c.wires ≡ w ∷ more)
    whole = first_whole w rest c.wires first

    stands : c.ending ≡ Stands
    stands = taken_stands (has v.here k) c w rest old.piped first

    untold : c.gone ≡ false
    untold = elim (cases_Bool c.gone) [ inr e ↦ e | inl e ↦ absurd (let none = old.piped.gone e in let no_way : ⊥ = cc in no_way) ]

    attached : (p : ℕ) → phase_of old.stage ≡ AtSession p → (r : Row A) × (v.row ≡ Some r) × (r.number ≡ p) × (r.on ≡ Some k)
    attached p e = old.attached p (ap (λ x. on_phase x c.ending c.gone) (old.at.phase ∙ e) ∙ ap (λ x. on_phase (AtSession p) x c.gone) stands ∙ ap (λ x. on_phase (AtSession p) Stands x) untold)

    by : (w : UpWord A) → up_words c.wires ≡ w ∷ rest → FirstUp old.stage c.footed w → IsExpectedUp v k c.phase w
    by Hdr f (inl e) = inl (old.at.phase ∙ e)
    by Hdr f (inr e) = inr (old.at.phase ∙ e)
    by Auth f e = old.at.phase ∙ e
    by Resp f e = old.at.phase ∙ e
    by (ResumeAt p h) f e = old.at.phase ∙ e
    by Bind f e = old.at.phase ∙ e
    by Enable f (m, e, yet) = let a = attached m e in (a.0, a.1, old.at.phase ∙ e ∙ ap AtSession (sym a.2), a.3, old.uncounted a.0 a.1 a.3 yet)
    by (Up t) f (p, e, carried) = let a = attached p e in (a.0, a.1, old.at.phase ∙ e ∙ ap AtSession (sym a.2), a.3, old.counting a.0 a.1 a.3 p carried)
    by Foot f e = elim (cases_Bool (has v.here k)) [ inr away ↦ away | inl works ↦ no_foot_here old.stage c (has v.here k) rest old.piped old.at f works ]

-- and of the first word down

first_whole_down : {A : Type 0} (w : DownWord A) (rest : List (DownWord A)) (x : Wires A) → down_words x ≡ w ∷ rest → (more : List (DownWord A)) × (down_whole x ≡ w ∷ more)
first_whole_down w rest (Flow us ds) e = (rest, e)
first_whole_down w rest (Stop us ds lu ld) e = (rest ++ ld, ap (λ l. l ++ ld) e)

from_tail : {A : Type 0} (v : View A) (client : Client) (end : Ending) (w : DownWord A) (rest : List (DownWord A)) → IsFair end → tail_of end ≡ w ∷ rest → IsExpectedDown v client w
from_tail v client Stands w rest fair e = absurd (let no_way : ⊥ = cc in no_way)
from_tail v client (Errs Conflict) w rest fair e = let first : Err Conflict ≡ w = cc in subst (λ x. IsExpectedDown v client x) first (inl refl)
from_tail v client (Errs Constraint) w rest fair e = let first : Err Constraint ≡ w = cc in subst (λ x. IsExpectedDown v client x) first (inr refl)
from_tail v client (Errs TooHigh) w rest fair e = absurd fair
from_tail v client Closes w rest fair e = absurd fair

first_down : {A : Type 0} (v : View A) (s : Stage A) (end : Ending) (w : DownWord A) (rest : List (DownWord A)) → IsFair end → FitsOwn v.own v.epoch v.sessions s → down_of s ++ tail_of end ≡ w ∷ rest → IsExpectedDown v (client_of s) w
first_down v Greeted end w rest fair fits e = let first : Head ≡ w = cc in subst (λ x. IsExpectedDown v InHeader1 x) first (inl refl)
first_down v Offered end w rest fair fits e = let first : Feat ≡ w = cc in subst (λ x. IsExpectedDown v InFeatures1 x) first (inl refl)
first_down v Challenged end w rest fair fits e = let first : Chal ≡ w = cc in subst (λ x. IsExpectedDown v InAuth x) first refl
first_down v Succeeded end w rest fair fits e = let first : Succ ≡ w = cc in subst (λ x. IsExpectedDown v InResponse x) first refl
first_down v Regreeted end w rest fair fits e = let first : Head ≡ w = cc in subst (λ x. IsExpectedDown v InHeader2 x) first (inr refl)
first_down v Reoffered end w rest fair fits e = let first : Feat ≡ w = cc in subst (λ x. IsExpectedDown v InFeatures2 x) first (inr refl)
first_down v (Refused p) end w rest fair (o, is, number) e = let first : Failed ≡ w = cc in subst (λ x. IsExpectedDown v (InResume p) x) first (o, is, ap InResume (sym number))
first_down v (Resumes p h downs) end w rest fair ((o, is, number), said) e = let first : Resumed p h ≡ w = cc in subst (λ x. IsExpectedDown v (InResume p) x) first (o, is, number, refl)
first_down v (Binds m) end w rest fair (none, b) e = let first : Bound m ≡ w = cc in subst (λ x. IsExpectedDown v InBind x) first (none, refl)
first_down v (Enables m downs) end w rest fair (none, b) e = let first : Enabled m ≡ w = cc in subst (λ x. IsExpectedDown v InEnable x) first (none, refl)
first_down v (Runs p ups (t ∷ downs)) end w rest fair (o, is, number) e = let first : Down t ≡ w = cc in subst (λ x. IsExpectedDown v (InOnline p) x) first (o, is, ap InOnline (sym number))
first_down v (Runs p ups []) end w rest fair fits e = from_tail v (InOnline p) end w rest fair e
first_down v Greets end w rest fair fits e = from_tail v InHeader1 end w rest fair e
first_down v Proves end w rest fair fits e = from_tail v InAuth end w rest fair e
first_down v Answers end w rest fair fits e = from_tail v InResponse end w rest fair e
first_down v Regreets end w rest fair fits e = from_tail v InHeader2 end w rest fair e
first_down v (AsksResume p h) end w rest fair fits e = from_tail v (InResume p) end w rest fair e
first_down v AsksBind end w rest fair fits e = from_tail v InBind end w rest fair e
first_down v (AsksEnable m) end w rest fair fits e = from_tail v InEnable end w rest fair e

pub expected_down : {A : Type 0} (v : View A) (k : ℕ) (c : Conn A) (w : DownWord A) (rest : List (DownWord A)) → LinkKept v → v.here ≡ Some k → v.conns k ≡ Some c → down_words c.wires ≡ w ∷ rest → IsExpectedDown v c.client w
expected_down {A = A} v k c w rest kept here is first =
    let old = kept.conns k c is in
    let works : has v.here k ≡ true = is_has v.here k here in
    let whole = first_whole_down w rest c.wires first in
    subst (λ x. IsExpectedDown v x w) (sym old.at.client) (first_down v old.stage c.ending w whole.0 (old.piped.fair works) (old.fits works) (sym old.at.down ∙ whole.1))
