-- Lists along which labels are in time, and those of the sessions in which the labels are done: they differ by what the
-- client learned, and drifts change neither.
use Rattle.std.proofs.Common.{◌≡◌, ◌≤◌, List, [], ◌∷◌, ◌++◌, drop, refl, sym, ap, subst, ◌∙◌, arith, inl, inr}
use Rattle.sim_3_items.specs.Labels.{Drops, Enters, Gives, Label, Learns, Names, Reads, Says, Takes}
use Rattle.sim_3_items.specs.Downs.{down_stanza}
use Rattle.sim_3_items.specs.Items.{stanzas_read}
use Rattle.sim_3_items.specs.Ups.{up_stanza}
use Rattle.sim_5_devices.specs.InTime.{AreInTime, read_by, taken_by}
use Rattle.sim_5_devices.proofs.SessionLabelsSteps.{IsStep}
use Rattle.sim_5_devices.specs.Labels.{Binds, Counts, Does, Ends, SessionStep, SessionSteps, session_stepped}
use Rattle.sim_1_applications.specs.Devices.{Session, Sessions, fresh}
use Rattle.xml_writer.specs.Items.{ItemOut}

-- those of the present session; no more is known to be handled than the client learned
pub record AreAlike (s t : Session) : Type 0 where
  pub up_got : t.up_got ≡ s.up_got
  pub up_rest : t.up_rest ≡ s.up_rest
  pub acked : s.acked ≤ t.acked
  pub down_got : t.down_got ≡ s.down_got
  pub down_rest : t.down_rest ≡ s.down_rest

pub alike_same : (s : Session) → AreAlike s s
alike_same s = record { up_got = refl; up_rest = refl; acked = omega arith; down_got = refl; down_rest = refl }

-- ---- drifts

alike_session_steps : (xs : List SessionStep) (s : Session) (d next : Sessions) → SessionSteps xs d next → AreAlike s d.now → AreAlike s next.now
alike_session_steps [] s d next same a = subst (λ (x : Sessions). AreAlike s x.now) (sym same) a
alike_session_steps (Binds ∷ xs) s d next by a = alike_session_steps xs s (session_stepped Binds d) next by.1 a
alike_session_steps (Counts ∷ xs) s d next by a =
    alike_session_steps xs s (session_stepped Counts d) next by.1 (record { up_got = a.up_got; up_rest = a.up_rest; acked = a.acked; down_got = a.down_got; down_rest = a.down_rest })
alike_session_steps (Ends ∷ xs) s d next by a = alike_session_steps xs s (session_stepped Ends d) next by.1 a

-- ---- labels

-- the lists behind a label
abbrev pub following : Label ItemOut → Session → Session
following (Says z) s = record s { up_rest = s.up_rest ++ up_stanza z ∷ [] }
following (Takes z) s = taken_by (up_stanza z) s
following (Gives z) s = record s { down_rest = s.down_rest ++ down_stanza z ∷ [] }
following (Reads z) s = read_by (down_stanza z) s
following Names s = fresh
following _ s = s

alike_does : (x : Label ItemOut) (s : Session) (d next : Sessions) → Does stanzas_read x d next → AreAlike s d.now → AreAlike (following x s) next.now
alike_does (Says z) s d next does a =
    subst (λ (n : Sessions). AreAlike (following (Says z) s) n.now) (sym does.1)
    (record { up_got = a.up_got; up_rest = ap (λ l. l ++ up_stanza z ∷ []) a.up_rest; acked = a.acked; down_got = a.down_got; down_rest = a.down_rest })
alike_does (Takes z) s d next does a =
    subst (λ (n : Sessions). AreAlike (following (Takes z) s) n.now) (sym does.is) (record {
      up_got = ap (λ l. l ++ up_stanza z ∷ []) a.up_got;
      up_rest = ap (drop 1) (sym does.first ∙ a.up_rest);
      acked = a.acked;
      down_got = a.down_got;
      down_rest = a.down_rest;
    })
alike_does (Gives z) s d next does a =
    subst (λ (n : Sessions). AreAlike (following (Gives z) s) n.now) (sym does.1)
    (record { up_got = a.up_got; up_rest = a.up_rest; acked = a.acked; down_got = a.down_got; down_rest = ap (λ l. l ++ down_stanza z ∷ []) a.down_rest })
alike_does (Reads z) s d next does a =
    subst (λ (n : Sessions). AreAlike (following (Reads z) s) n.now) (sym does.is) (record {
      up_got = a.up_got;
      up_rest = a.up_rest;
      acked = a.acked;
      down_got = ap (λ l. l ++ down_stanza z ∷ []) a.down_got;
      down_rest = ap (drop 1) (sym does.first ∙ a.down_rest);
    })
alike_does Names s d next does a = subst (λ (n : Sessions). AreAlike fresh n.now) (sym does.2) (alike_same fresh)
alike_does Enters s d next does a =
    subst (λ (n : Sessions). AreAlike s n.now) (sym does.1) (record { up_got = a.up_got; up_rest = a.up_rest; acked = a.acked; down_got = a.down_got; down_rest = a.down_rest })
alike_does Learns s d next does a =
    subst (λ (n : Sessions). AreAlike s n.now) (sym does.is)
    (record { up_got = a.up_got; up_rest = a.up_rest; acked = let low = a.acked in let more = does.low in omega arith; down_got = a.down_got; down_rest = a.down_rest })
alike_does Drops s d next (inl on) a = subst (λ (n : Sessions). AreAlike s n.now) (sym on.1) a
alike_does Drops s d next (inr off) a = subst (λ (n : Sessions). AreAlike s n.now) (sym off.1) a

-- ---- in time

-- behind a label that is in time the others are
time_after : (x : Label ItemOut) (more : List (Label ItemOut)) (s : Session) → AreInTime (x ∷ more) s → AreInTime more (following x s)
time_after (Says z) more s time = time.1
time_after (Takes z) more s time = time
time_after (Gives z) more s time = time.1
time_after (Reads z) more s time = time
time_after Names more s time = time
time_after Enters more s time = time
time_after Learns more s time = time
time_after Drops more s time = time

-- behind a step of one label, or of none
pub step_after : (labels more : List (Label ItemOut)) (s : Session) (d next : Sessions) → IsStep stanzas_read labels d next → AreAlike s d.now → AreInTime (labels ++ more) s → (t : Session) × AreAlike t next.now × AreInTime more t
step_after [] more s d next step a time = (s, alike_session_steps step.0 s d next step.1 a, time)
step_after (x ∷ []) more s d next step a time = (following x s, alike_does x s d next step a, time_after x more s time)
step_after (x ∷ y ∷ labels) more s d next step a time = absurd step
