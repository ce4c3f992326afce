-- Moves one after the other on one connection are one change of it.
use Rattle.std.proofs.Common.{◌≡◌, ℕ, List, ◌++◌, nat_eq, refl, ap, inl, inr}
use Rattle.std.proofs.lemmas.Bool.{cases_Bool}
use Rattle.std.proofs.lemmas.List.{append_assoc}
use Rattle.sim_2_links.proofs.Entries.{was}
use Rattle.sim_2_links.specs.Views.{Session, Table, View, alter, with_at}
use Rattle.sim_2_links.specs.Wires.{Flow, Stop, Wires, send_up}
use Rattle.sim_2_links.specs.Words.{UpWord}
use Rattle.sim_4_links_follow.proofs.Servings.{Known}
use Rattle.xml_writer.specs.Items.{ItemOut}

-- the last entry stands
pub twice : {T : Type 0} (k : ℕ) (a b : T) (t : Table T) (j : ℕ) → with_at k b (with_at k a t) j ≡ with_at k b t j
twice k a b t j = elim (cases_Bool (nat_eq k j)) [ inl same ↦ rw same refl | inr apart ↦ rw apart refl ]

pub thrice : {T : Type 0} (k : ℕ) (a b c : T) (t : Table T) (j : ℕ) → with_at k c (with_at k b (with_at k a t)) j ≡ with_at k c t j
thrice k a b c t j = elim (cases_Bool (nat_eq k j)) [ inl same ↦ rw same refl | inr apart ↦ rw apart refl ]

-- words that are put one after the other are put at once
pub both_sent : {A : Type 0} (some more : List (UpWord A)) (ws : Wires A) → send_up more (send_up some ws) ≡ send_up (some ++ more) ws
both_sent some more (Flow us ds) = ap (λ l. Flow l ds) (append_assoc us some more)
both_sent some more (Stop us ds lu ld) = ap (λ l. Stop us ds l ld) (append_assoc lu some more)

-- changed sessions are those that the device had
pub known_then : (g : ℕ → Session ItemOut → Session ItemOut) (t : Table (Session ItemOut)) (v : View ItemOut) → Known t v → Known (alter g t) v
known_then g t v known q s is = let old = was g t q s is in known q old.0 old.1
