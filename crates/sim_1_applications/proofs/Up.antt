-- What a client put: messages, requests, and two stanzas beside them.
use Rattle.std.proofs.Common.{◌≡◌, ℕ, suc, ◌+◌, ◌≤◌, ◌≢◌, List, [], ◌∷◌, ◌++◌, Option, Some, None, length, refl, sym, ap, ◌∙◌, arith, append_assoc}
use Rattle.std.specs.List.{AllByRecursion}
use Rattle.sim_1_applications.specs.Stanzas.{Request, Up, Down, messages, requests}
use Rattle.sim_1_applications.specs.Stanzas.Up.{Carbons, Presence, Message, Query}
use Rattle.sim_1_applications.specs.Devices.{Device, Session, new_device, up_put}
use Rattle.sim_1_applications.specs.Devices.Stage.{Counted, Known}
use Rattle.sim_1_applications.specs.Events as events
use Rattle.sim_1_applications.specs.Kept.{SessionsKept}
use Rattle.sim_1_applications.proofs.Lists.{all_append}
use Rattle.sim_1_applications.specs.Counts.{IsUpFew}
use Rattle.sim_1_applications.proofs.EachDevice.{IsKept}

-- the stanzas that are neither messages nor requests
abbrev pub flags : List Up → ℕ
flags [] = 0
flags (Carbons ∷ zs) = suc (flags zs)
flags (Presence ∷ zs) = suc (flags zs)
flags (Message m ∷ zs) = flags zs
flags (Query r ∷ zs) = flags zs

counted : (zs : List Up) → length zs ≡ flags zs + length (messages zs) + length (requests zs)
counted [] = refl
counted (Carbons ∷ zs) = let rest = counted zs in omega arith
counted (Presence ∷ zs) = let rest = counted zs in omega arith
counted (Message m ∷ zs) = let rest = counted zs in omega arith
counted (Query r ∷ zs) = let rest = counted zs in omega arith

flags_append : (a b : List Up) → flags (a ++ b) ≡ flags a + flags b
flags_append [] b = omega arith
flags_append (Carbons ∷ a) b = let rest = flags_append a b in omega arith
flags_append (Presence ∷ a) b = let rest = flags_append a b in omega arith
flags_append (Message m ∷ a) b = flags_append a b
flags_append (Query r ∷ a) b = flags_append a b

pub few_of : (s : Session) → flags (up_put s) ≤ 2 → IsUpFew s
few_of s two = let all = counted (up_put s) in omega arith

-- what was put, with more behind it
pub put_more : (zs : List Up) (s : Session) → s.up_got ++ (s.up_rest ++ zs) ≡ up_put s ++ zs
put_more zs s = sym (append_assoc s.up_got s.up_rest zs)

-- the server handles the first of the rest: what was put stays
pub put_stays : (z : Up) (rest : List Up) (s : Session) → s.up_rest ≡ z ∷ rest → (s.up_got ++ z ∷ []) ++ rest ≡ up_put s
put_stays z rest s split = append_assoc s.up_got (z ∷ []) rest ∙ ap (λ zs. s.up_got ++ zs) (sym split)

two_more : (zs : List Up) (s : Session) → flags zs ≡ 0 → flags (up_put s) ≤ 2 → flags (s.up_got ++ (s.up_rest ++ zs)) ≤ 2
two_more zs s none two =
    let all = ap flags (put_more zs s) in
    let both = flags_append (up_put s) zs in
    omega arith

-- nothing was put before the client knows of the session
pub nothing_put : (s : Session) → s.up_got ≡ [] → s.up_rest ≡ [] → up_put s ≡ []
nothing_put s got rest = ap (λ l. l ++ s.up_rest) got ∙ rest

pub record UpKept (k : ℕ) (d : Device) : Type 0 where
  pub past : AllByRecursion IsUpFew d.sessions.past
  pub now : flags (up_put d.sessions.now) ≤ 2

no_flags : (o : Option Request) → flags (events.queries o) ≡ 0
no_flags None = refl
no_flags (Some r) = refl

up_served : (a : events.Around) (fits : ℕ) (zs : List Up) (d : Device) (k : ℕ) → d.sessions.now.up_rest ≡ zs → UpKept k d → UpKept k (events.served a fits zs d)
up_served a fits [] d k split kept = kept
up_served a fits (z ∷ rest) d k split kept =
    record { past = kept.past; now = let two = kept.now in let same = ap flags (put_stays z rest d.sessions.now split) in omega arith }

up_read : (a : events.Around) (zs : List Down) (d : Device) (k : ℕ) → UpKept k d → UpKept k (events.read a zs d)
up_read a [] d k kept = kept
up_read a (z ∷ rest) d k kept =
    let request = (events.reads a z d.reading).request in
    record { past = kept.past; now = two_more (events.queries request) d.sessions.now (no_flags request) kept.now }

up_online : (d : Device) (k : ℕ) → d.sessions.now.stage ≡ Counted → SessionsKept d.sessions → UpKept k d → UpKept k (events.on_sessions events.goes_online d)
up_online d k stage sessions kept =
    let unknown : d.sessions.now.stage ≢ Known = λ e. let no : ⊥ = cc in no in
    let was = sessions.now.is_session in
    let all = ap flags (put_more (Carbons ∷ Presence ∷ []) d.sessions.now) in
    let both = flags_append (up_put d.sessions.now) (Carbons ∷ Presence ∷ []) in
    let none = ap flags (nothing_put d.sessions.now (was.up_got unknown) (was.up_rest unknown)) in
    record { past = kept.past; now = omega arith }

up_acts : (a : events.Around) (act : events.Act) (d : Device) (k : ℕ) → events.May act d → SessionsKept d.sessions → UpKept k d → UpKept k (events.own a act d)
up_acts a events.Act.Bind d k may sessions kept = record { past = kept.past; now = kept.now }
up_acts a (events.Act.ReadBound live) d k may sessions kept = record {
  past = all_append IsUpFew d.sessions.past (d.sessions.now ∷ []) kept.past (few_of d.sessions.now kept.now, tt);
  now = omega arith;
}
up_acts a events.Act.Enable d k may sessions kept = record { past = kept.past; now = kept.now }
up_acts a events.Act.ReadEnabled d k may sessions kept = up_online d k may.1 sessions kept
up_acts a events.Act.End d k may sessions kept = record { past = kept.past; now = kept.now }
up_acts a events.Act.Drop d k may sessions kept = record { past = kept.past; now = kept.now }
up_acts a (events.Act.Acknowledge n) d k may sessions kept = record { past = kept.past; now = kept.now }
up_acts a (events.Act.Say to text private) d k may sessions kept = record { past = kept.past; now = two_more _ d.sessions.now refl kept.now }
up_acts a (events.Act.CatchUp max) d k may sessions kept = record { past = kept.past; now = two_more _ d.sessions.now refl kept.now }
up_acts a (events.Act.ServerHandles fits full) d k may sessions kept = up_served a fits d.sessions.now.up_rest d k refl kept
up_acts a events.Act.ClientHandles d k may sessions kept = up_read a d.sessions.now.down_rest d k kept

pub up_kept : IsKept UpKept
up_kept = record { acts = up_acts; hears = λ takes full t j d k kept. record { past = kept.past; now = kept.now } }

pub up_begins : (account : List ℕ) → UpKept 0 (new_device account)
up_begins account = record { past = tt; now = omega arith }
