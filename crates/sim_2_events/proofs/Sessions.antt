-- One session more by a stanza that is put or handled, by a count, or by what the two ends know of it.
use Rattle.std.proofs.Common.{◌≡◌, ℕ, Bool, true, false, List, [], ◌∷◌, ◌++◌, map, refl, sym, ap, ◌∙◌, append_assoc, Some}
use Rattle.std.proofs.lemmas.List.{map-append}
use Rattle.sim_2_links.specs.Events.{SeenSession, new_session}
use Rattle.sim_1_applications.specs.Stanzas.{Up, Down}
use Rattle.sim_1_applications.specs.Devices.{Session, fresh}
use Rattle.sim_1_applications.specs.Devices.Stage.{Named, Counted, Known}
use Rattle.sim_2_events.proofs.Lists.{cancel}
use Rattle.sim_2_events.specs.Lists.{Stanzas, stage_of, IsSession}

pub new_is_fresh : {A : Type 0} (r : Stanzas A) (e : ℕ) → IsSession r (record new_session { epoch = Some e }) fresh
new_is_fresh r e = record { stage = refl; heard = λ known. absurd (let no_way : ⊥ = cc in no_way); up_put = refl; up_got = refl; acked = refl; down_put = refl; down_got = refl }

-- what the server will take next is what the client put next
pub next_up : {A : Type 0} (r : Stanzas A) (t : SeenSession A) (s : Session) (z : A) (rest : List A) → IsSession r t s → t.up_put ≡ t.up_got ++ z ∷ rest → s.up_rest ≡ r.up z ∷ map r.up rest
next_up r t s z rest a split =
    cancel s.up_got s.up_rest (r.up z ∷ map r.up rest) (sym a.up_put ∙ ap (map r.up) split ∙ map-append r.up t.up_got (z ∷ rest) ∙ ap (λ l. l ++ r.up z ∷ map r.up rest) a.up_got)

pub next_down : {A : Type 0} (r : Stanzas A) (t : SeenSession A) (s : Session) (z : A) (rest : List A) → IsSession r t s → t.down_put ≡ t.down_got ++ z ∷ rest → s.down_rest ≡ r.down z ∷ map r.down rest
next_down r t s z rest a split =
    cancel s.down_got s.down_rest (r.down z ∷ map r.down rest) (sym a.down_put ∙ ap (map r.down) split ∙ map-append r.down t.down_got (z ∷ rest) ∙ ap (λ l. l ++ r.down z ∷ map r.down rest) a.down_got)

pub said_session : {A : Type 0} (r : Stanzas A) (t : SeenSession A) (s : Session) (z : A) → IsSession r t s → IsSession r (record t { up_put = t.up_put ++ z ∷ [] }) (record s { up_rest = s.up_rest ++ r.up z ∷ [] })
said_session r t s z a = record {
  stage = a.stage;
  heard = a.heard;
  up_put = map-append r.up t.up_put (z ∷ []) ∙ ap (λ l. l ++ r.up z ∷ []) a.up_put ∙ append_assoc s.up_got s.up_rest (r.up z ∷ []);
  up_got = a.up_got;
  acked = a.acked;
  down_put = a.down_put;
  down_got = a.down_got;
}

pub served_session : {A : Type 0} (r : Stanzas A) (t : SeenSession A) (s : Session) (z : A) → IsSession r t s → IsSession r (record t { down_put = t.down_put ++ z ∷ [] }) (record s { down_rest = s.down_rest ++ r.down z ∷ [] })
served_session r t s z a = record {
  stage = a.stage;
  heard = a.heard;
  up_put = a.up_put;
  up_got = a.up_got;
  acked = a.acked;
  down_put = map-append r.down t.down_put (z ∷ []) ∙ ap (λ l. l ++ r.down z ∷ []) a.down_put ∙ append_assoc s.down_got s.down_rest (r.down z ∷ []);
  down_got = a.down_got;
}

pub handled_session : {A : Type 0} (r : Stanzas A) (t : SeenSession A) (s : Session) (z : A) (rest : List Up) → IsSession r t s → s.up_rest ≡ r.up z ∷ rest → IsSession r (record t { up_got = t.up_got ++ z ∷ [] }) (record s { up_got = s.up_got ++ r.up z ∷ []; up_rest = rest })
handled_session r t s z rest a split = record {
  stage = a.stage;
  heard = a.heard;
  up_put = a.up_put ∙ ap (λ l. s.up_got ++ l) split ∙ sym (append_assoc s.up_got (r.up z ∷ []) rest);
  up_got = map-append r.up t.up_got (z ∷ []) ∙ ap (λ l. l ++ r.up z ∷ []) a.up_got;
  acked = a.acked;
  down_put = a.down_put;
  down_got = a.down_got;
}

pub heard_session : {A : Type 0} (r : Stanzas A) (t : SeenSession A) (s : Session) (z : A) (rest : List Down) → IsSession r t s → s.down_rest ≡ r.down z ∷ rest → IsSession r (record t { down_got = t.down_got ++ z ∷ [] }) (record s { down_got = s.down_got ++ r.down z ∷ []; down_rest = rest })
heard_session r t s z rest a split = record {
  stage = a.stage;
  heard = a.heard;
  up_put = a.up_put;
  up_got = a.up_got;
  acked = a.acked;
  down_put = a.down_put ∙ ap (λ l. s.down_got ++ l) split ∙ sym (append_assoc s.down_got (r.down z ∷ []) rest);
  down_got = map-append r.down t.down_got (z ∷ []) ∙ ap (λ l. l ++ r.down z ∷ []) a.down_got;
}

pub learned_session : {A : Type 0} (r : Stanzas A) (t : SeenSession A) (s : Session) (n : ℕ) → IsSession r t s → IsSession r (record t { acked = n }) (record s { acked = n })
learned_session r t s n a = record { stage = a.stage; heard = a.heard; up_put = a.up_put; up_got = a.up_got; acked = refl; down_put = a.down_put; down_got = a.down_got }

not_known : {A : Type 0} (r : Stanzas A) (t : SeenSession A) (s : Session) → IsSession r t s → t.counted ≡ false → t.known ≡ false
not_known {A = A} r t s a yet = by t.known refl
  where
    by : (b : Bool) → t.known ≡ b → t.known ≡ false
    by false e = e
    by true e = absurd (let counted : t.counted ≡ true = a.heard e in let no_way : ⊥ = cc in no_way)

pub counted_session : {A : Type 0} (r : Stanzas A) (t : SeenSession A) (s : Session) → IsSession r t s → t.counted ≡ false → IsSession r (record t { counted = true }) (record s { stage = Counted })
counted_session r t s a yet = record {
  stage = ap (stage_of true) (not_known r t s a yet);
  heard = λ known. refl;
  up_put = a.up_put;
  up_got = a.up_got;
  acked = a.acked;
  down_put = a.down_put;
  down_got = a.down_got;
}

pub known_session : {A : Type 0} (r : Stanzas A) (t : SeenSession A) (s : Session) → IsSession r t s → t.counted ≡ true → IsSession r (record t { known = true }) (record s { stage = Known })
known_session r t s a counted = record {
  stage = ap (λ b. stage_of b true) counted;
  heard = λ known. counted;
  up_put = a.up_put;
  up_got = a.up_got;
  acked = a.acked;
  down_put = a.down_put;
  down_got = a.down_got;
}

pub is_named : {A : Type 0} (r : Stanzas A) (t : SeenSession A) (s : Session) → IsSession r t s → t.counted ≡ false → s.stage ≡ Named
is_named r t s a yet = sym a.stage ∙ ap (λ b. stage_of b t.known) yet

pub is_counted : {A : Type 0} (r : Stanzas A) (t : SeenSession A) (s : Session) → IsSession r t s → t.counted ≡ true → t.known ≡ false → s.stage ≡ Counted
is_counted r t s a counted unknown = sym a.stage ∙ ap (λ b. stage_of b t.known) counted ∙ ap (stage_of true) unknown

pub not_named : {A : Type 0} (r : Stanzas A) (t : SeenSession A) (s : Session) → IsSession r t s → t.counted ≡ true → s.stage ≡ Named → ⊥
not_named {A = A} r t s a counted named = by t.known (sym (ap (λ b. stage_of b t.known) counted) ∙ a.stage ∙ named)
  where
    by : (b : Bool) → stage_of true b ≡ Named → ⊥
    by false e = let no_way : ⊥ = cc in no_way
    by true e = let no_way : ⊥ = cc in no_way
