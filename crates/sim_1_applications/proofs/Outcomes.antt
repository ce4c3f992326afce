-- What became of the lines that ask a device to send a message.
use Rattle.std.proofs.Common.{◌≡◌, ℕ, ◌-◌, ◌⊎◌, Bool, true, false, cond, List, [], ◌∷◌, ◌++◌, Some, map, refl, sym, ap, ◌∙◌, subst, inl, inr}
use Rattle.std.proofs.lemmas.Bool.{cases_Bool}
use Rattle.std.proofs.lemmas.Bool.Decides.{eqb_tells}
use Rattle.std.proofs.lemmas.List.{map-append}
use Rattle.std.proofs.lemmas.List.Concat.{flat_map-append}
use Rattle.std.proofs.lemmas.List.Elements.{filter-append}
use Rattle.std.proofs.lemmas.Option.{same_Some, slice_get_within}
use Rattle.std.specs.List.{AllByRecursion, filter, flat_map, slice_get}
use Rattle.std.specs.Str.{bytes_eq}
use Rattle.base_lemmas.proofs.Bytes.{bytes_eq-self}
use Rattle.std.specs.Bool.{MatchBool}
use Rattle.cmd_report.specs.Lawful.{AreOutcomes, BeginsRefused, BeginsSaid, IsOutcome}
use Rattle.cmd_report.specs.declared.report.RefusedLine.{RefusedLine}
use Rattle.cmd_report.specs.declared.report.SaidLine.{SaidLine}
use Rattle.cmd_report.specs.declared.report.SaidMark.{SaidMark}
use Rattle.cmd_report.specs.declared.report.SaidMark.TheVariants.{Undecided}
use Rattle.cmd_schedule.specs.Contents.{Owned}
use Rattle.cmd_schedule.specs.Schedules.{common_at}
use Rattle.cmd_schedule.specs.declared.schedule.Line.{Line}
use Rattle.cmd_schedule.specs.declared.schedule.Step.{Step}
use Rattle.cmd_schedule.specs.declared.schedule.Step.TheVariants.{Say, Private, Catchup}
use Rattle.cmd_schedule.specs.declared.schedule.WireLine.{WireLine}
use Rattle.cmd_schedule.specs.declared.schedule.WireStep.{WireStep}
use Rattle.cmd_schedule.specs.declared.schedule.WireStep.TheVariants.{Common}
use Rattle.sim_1_applications.proofs.Spoken.{all_spoken, as_spoken, is_by, put_of, spoken_at}
use Rattle.sim_1_applications.specs.Devices.{Session, Sessions, up_put}
use Rattle.sim_1_applications.specs.Events.{AppEvent}
use Rattle.sim_1_applications.specs.Histories.{Spoken, spoken_by, spoken_in}
use Rattle.sim_1_applications.specs.Stanzas.{Up, messages}
use Rattle.sim_1_applications.specs.Stanzas.Up.{Carbons, Presence, Message, Query}
use Rattle.sim_1_applications.proofs.Owners.{Differ, name_is, name_other, names_of}
use Rattle.sim_1_applications.specs.Reported.{mark_of, said_among, said_in, said_of}
use Rattle.sim_1_applications.specs.Runs.{IsDone, IsLineDone, IsRefused, IsSaid, IsStepDone, LineRun, Refusal, events_in, refused_by}

-- lines with what the user said, one by one
abbrev pub AreTexts : List Spoken → List SaidLine → Type 0
AreTexts [] [] = Unit {0}
AreTexts (x ∷ xs) (l ∷ ls) = (l.to ≡ x.to) × (l.text ≡ x.text) × AreTexts xs ls
AreTexts [] (l ∷ ls) = ⊥
AreTexts (x ∷ xs) [] = ⊥

texts_append : (xs ys : List Spoken) (ls ms : List SaidLine) → AreTexts xs ls → AreTexts ys ms → AreTexts (xs ++ ys) (ls ++ ms)
texts_append [] ys [] ms first second = second
texts_append [] ys (l ∷ ls) ms first second = absurd first
texts_append (x ∷ xs) ys [] ms first second = absurd first
texts_append (x ∷ xs) ys (l ∷ ls) ms first second = (first.0, first.1, texts_append xs ys ls ms first.2 second)

texts_among : (i acked : ℕ) (mark : SaidMark) (zs : List Up) → AreTexts (map (as_spoken i) (messages zs)) (said_among acked mark zs)
texts_among i acked mark [] = tt
texts_among i acked mark (Carbons ∷ zs) = texts_among i (acked - 1) mark zs
texts_among i acked mark (Presence ∷ zs) = texts_among i (acked - 1) mark zs
texts_among i acked mark (Query r ∷ zs) = texts_among i (acked - 1) mark zs
texts_among i acked mark (Message m ∷ zs) = (refl, refl, texts_among i (acked - 1) mark zs)

texts_from : (i : ℕ) (past : List Session) → AreTexts (map (as_spoken i) (flat_map put_of past)) (flat_map (said_in Undecided) past)
texts_from i [] = tt
texts_from i (s ∷ past) =
    subst (λ xs. AreTexts xs (said_in Undecided s ++ flat_map (said_in Undecided) past)) (sym (map-append (as_spoken i) (put_of s) (flat_map put_of past)))
    (texts_append (map (as_spoken i) (put_of s)) (map (as_spoken i) (flat_map put_of past)) (said_in Undecided s) (flat_map (said_in Undecided) past) (texts_among i s.acked Undecided (up_put s)) (texts_from i past))

pub said_texts : (i : ℕ) (s : Sessions) → AreTexts (all_spoken i s) (said_of s)
said_texts i s =
    subst (λ xs. AreTexts xs (said_of s)) (sym (map-append (as_spoken i) (flat_map put_of s.past) (put_of s.now)))
    (texts_append (map (as_spoken i) (flat_map put_of s.past)) (map (as_spoken i) (put_of s.now)) (flat_map (said_in Undecided) s.past) (said_in (mark_of s.online) s.now) (texts_from i s.past)
    (texts_among i s.now.acked (mark_of s.online) (up_put s.now)))

-- One line.

abbrev lines_by : List ℕ → List Refusal → List RefusedLine
lines_by name refusals = map (λ (r : Refusal). r.line) (filter (λ r. bytes_eq name r.device) refusals)

-- what is behind the line, and what it may come to
record Further (i : ℕ) (spoken rest : List Spoken) (Behind : List SaidLine → List RefusedLine → Type 0) (said : List SaidLine) (refused : List RefusedLine) : Type 0 where
  texts : AreTexts (filter (is_by i) spoken ++ rest) said
  following : (later : List SaidLine) → AreTexts rest later → Behind later refused

-- nothing was said or refused
nothing : (i : ℕ) (name : List ℕ) (spoken rest : List Spoken) (refusals : List Refusal) (Behind : List SaidLine → List RefusedLine → Type 0) (said : List SaidLine) (refused : List RefusedLine) →
    spoken ≡ [] → refusals ≡ [] → Further i spoken rest Behind said refused → Behind said (lines_by name refusals ++ refused)
nothing i name spoken rest refusals Behind said refused silent taken further =
    subst (λ rs. Behind said (lines_by name rs ++ refused)) (sym taken)
    (further.following said (subst (λ xs. AreTexts (filter (is_by i) xs ++ rest) said) silent further.texts))

-- a refusal of the device, or of another
refusal_here : (i : ℕ) (device name : List ℕ) (number : ℕ) (spoken rest : List Spoken) (refusals : List Refusal) (Behind : List SaidLine → List RefusedLine → Type 0) (said : List SaidLine) (refused : List RefusedLine) →
    bytes_eq device name ≡ true → spoken ≡ [] → IsRefused name number refusals → Further i spoken rest Behind said refused → BeginsRefused number (Behind said) (lines_by device refusals ++ refused)
refusal_here i device name number spoken rest refusals Behind said refused same silent is further =
    subst (λ rs. BeginsRefused number (Behind said) (lines_by device rs ++ refused)) (sym is.1)
    (subst (λ b. BeginsRefused number (Behind said) (map (λ (r : Refusal). r.line) (cond b (record { device = name; line = record { line = number; why = is.0 } } ∷ []) []) ++ refused)) (sym same)
    (refl, further.following said (subst (λ xs. AreTexts (filter (is_by i) xs ++ rest) said) silent further.texts)))

refusal_there : (i : ℕ) (device name : List ℕ) (number : ℕ) (spoken rest : List Spoken) (refusals : List Refusal) (Behind : List SaidLine → List RefusedLine → Type 0) (said : List SaidLine) (refused : List RefusedLine) →
    bytes_eq device name ≡ false → spoken ≡ [] → IsRefused name number refusals → Further i spoken rest Behind said refused → Behind said (lines_by device refusals ++ refused)
refusal_there i device name number spoken rest refusals Behind said refused other silent is further =
    subst (λ rs. Behind said (lines_by device rs ++ refused)) (sym is.1)
    (subst (λ b. Behind said (map (λ (r : Refusal). r.line) (cond b (record { device = name; line = record { line = number; why = is.0 } } ∷ []) []) ++ refused)) (sym other)
    (further.following said (subst (λ xs. AreTexts (filter (is_by i) xs ++ rest) said) silent further.texts)))

begins_said : (to text : List ℕ) (x : Spoken) (rest : List Spoken) (Behind : List SaidLine → List RefusedLine → Type 0) (said : List SaidLine) (refused : List RefusedLine) →
    x.to ≡ to → x.text ≡ text → AreTexts (x ∷ rest) said → ((later : List SaidLine) → AreTexts rest later → Behind later refused) → BeginsSaid to text (λ others. Behind others refused) said
begins_said to text x rest Behind [] refused is_to is_text texts following = absurd texts
begins_said to text x rest Behind (l ∷ ls) refused is_to is_text texts following = (texts.0 ∙ is_to, texts.1 ∙ is_text, following ls texts.2)

abbrev Message_ : ℕ → List ℕ → List ℕ → List ℕ → (List SaidLine → List RefusedLine → Type 0) → List SaidLine → List RefusedLine → List ℕ → Type 0
Message_ number name to text Behind said refused device =
    MatchBool (bytes_eq device name)
    (BeginsSaid to text (λ others. Behind others refused) said ⊎ BeginsRefused number (Behind said) refused)
    (Behind said refused)

message_done : (owned : List Owned) (i : ℕ) (o : Owned) (name to text : List ℕ) (private : Bool) (number : ℕ) (spoken rest : List Spoken) (refusals : List Refusal) (Behind : List SaidLine → List RefusedLine → Type 0)
    (said : List SaidLine) (refused : List RefusedLine) → Differ (names_of owned) → slice_get owned i ≡ Some o → IsSaid owned name to text private number spoken refusals → Further i spoken rest Behind said refused →
    Message_ number name to text Behind said (lines_by o.device refusals ++ refused) o.device
message_done owned i o name to text private number spoken rest refusals Behind said refused differ owner (inr is) further =
    elim (cases_Bool (bytes_eq o.device name)) [
      | inl same ↦ rw same (inr (refusal_here i o.device name number spoken rest refusals Behind said refused same is.0 is.1 further))
      | inr other ↦ rw other (refusal_there i o.device name number spoken rest refusals Behind said refused other is.0 is.1 further)
    ]
message_done owned i o name to text private number spoken rest refusals Behind said refused differ owner (inl is) further =
    elim (eqb_tells is.0 i) [
      | inl same ↦
          let mine : is.1 ≡ o = same_Some is.1 o (sym is.2 ∙ ap (slice_get owned) same.1 ∙ owner) in
          let hit : bytes_eq o.device name ≡ true = ap (bytes_eq o.device) (sym is.3 ∙ ap (λ (p : Owned). p.device) mine) ∙ bytes_eq-self o.device in
          let x : Spoken = record { device = is.0; to = to; text = text; private = private } in
          let first : filter (is_by i) spoken ≡ x ∷ [] = ap (filter (is_by i)) is.4 ∙ ap (λ b. cond b (x ∷ []) []) same.0 in
          let texts : AreTexts (x ∷ rest) said = subst (λ xs. AreTexts (xs ++ rest) said) first further.texts in
          rw hit (inl (subst (λ rs. BeginsSaid to text (λ others. Behind others (lines_by o.device rs ++ refused)) said) (sym is.5)
          (begins_said to text x rest Behind said refused refl refl texts further.following)))
      | inr other ↦
          let within = slice_get_within owned is.0 is.1 is.2 in
          let miss : bytes_eq o.device name ≡ false = ap (bytes_eq o.device) (sym is.3 ∙ sym (name_is owned is.0 is.1 is.2)) ∙ name_other owned i is.0 o differ owner within other.1 in
          let none : filter (is_by i) spoken ≡ [] = ap (filter (is_by i)) is.4 ∙ ap (λ b. cond b (record { device = is.0; to = to; text = text; private = private } ∷ []) []) other.0 in
          rw miss (subst (λ rs. Behind said (lines_by o.device rs ++ refused)) (sym is.5) (further.following said (subst (λ xs. AreTexts (xs ++ rest) said) none further.texts)))
    ]

outcome_is : (owned : List Owned) (i : ℕ) (o : Owned) (step : Step) (number : ℕ) (spoken rest : List Spoken) (refusals : List Refusal) (Behind : List SaidLine → List RefusedLine → Type 0) (said : List SaidLine)
    (refused : List RefusedLine) → Differ (names_of owned) → slice_get owned i ≡ Some o → IsStepDone owned step number spoken refusals → Further i spoken rest Behind said refused →
    IsOutcome o.device step number Behind said (lines_by o.device refusals ++ refused)
outcome_is owned i o (Say name to text) number spoken rest refusals Behind said refused differ owner done further =
    message_done owned i o name to text false number spoken rest refusals Behind said refused differ owner done further
outcome_is owned i o (Private name to text) number spoken rest refusals Behind said refused differ owner done further =
    message_done owned i o name to text true number spoken rest refusals Behind said refused differ owner done further
outcome_is owned i o (Catchup name most) number spoken rest refusals Behind said refused differ owner (silent, inl taken) further =
    elim (cases_Bool (bytes_eq o.device name)) [
      | inl same ↦ rw same (inl (nothing i o.device spoken rest refusals Behind said refused silent taken further))
      | inr other ↦ rw other (nothing i o.device spoken rest refusals Behind said refused silent taken further)
    ]
outcome_is owned i o (Catchup name most) number spoken rest refusals Behind said refused differ owner (silent, inr is) further =
    elim (cases_Bool (bytes_eq o.device name)) [
      | inl same ↦ rw same (inr (refusal_here i o.device name number spoken rest refusals Behind said refused same silent is further))
      | inr other ↦ rw other (refusal_there i o.device name number spoken rest refusals Behind said refused other silent is further)
    ]
outcome_is owned i o step number spoken rest refusals Behind said refused differ owner done further = nothing i o.device spoken rest refusals Behind said refused done.0 done.1 further

-- All lines.

abbrev pub events_of : List LineRun → List AppEvent
events_of runs = flat_map events_in runs

-- the lines that direct schedules have too
abbrev pub common_lines : List WireLine → List Line
common_lines lines = flat_map (λ (line : WireLine). common_at line.number line.step) lines

wire_outcome : (owned : List Owned) (i : ℕ) (o : Owned) (step : WireStep) (number : ℕ) (lines : List Line) (spoken rest : List Spoken) (refusals : List Refusal) (said : List SaidLine) (refused : List RefusedLine) →
    Differ (names_of owned) → slice_get owned i ≡ Some o → IsDone owned step number spoken refusals → Further i spoken rest (AreOutcomes o.device lines) said refused →
    AreOutcomes o.device (common_at number step ++ lines) said (lines_by o.device refusals ++ refused)
wire_outcome owned i o (Common step) number lines spoken rest refusals said refused differ owner done further =
    outcome_is owned i o step number spoken rest refusals (AreOutcomes o.device lines) said refused differ owner done further
wire_outcome owned i o step number lines spoken rest refusals said refused differ owner done further =
    nothing i o.device spoken rest refusals (AreOutcomes o.device lines) said refused done.0 done.1 further

pub outcomes : (owned : List Owned) (i : ℕ) (o : Owned) (runs : List LineRun) (said : List SaidLine) → Differ (names_of owned) → slice_get owned i ≡ Some o → AllByRecursion (IsLineDone owned) runs →
    AreTexts (spoken_at i (events_of runs)) said → AreOutcomes o.device (common_lines (map (λ (r : LineRun). r.line) runs)) said (refused_by o.device runs)
outcomes owned i o [] [] differ owner done texts = (refl, refl)
outcomes owned i o [] (l ∷ said) differ owner done texts = absurd texts
outcomes owned i o (r ∷ runs) said differ owner done texts =
    let lines = common_lines (map (λ (q : LineRun). q.line) runs) in
    let later = flat_map (λ (q : LineRun). q.refused) runs in
    let parts : refused_by o.device (r ∷ runs) ≡ lines_by o.device r.refused ++ refused_by o.device runs =
    ap (map (λ (q : Refusal). q.line)) (filter-append (λ q. bytes_eq o.device q.device) r.refused later)
    ∙ map-append (λ (q : Refusal). q.line) (filter (λ q. bytes_eq o.device q.device) r.refused) (filter (λ q. bytes_eq o.device q.device) later) in
    let spoken : spoken_at i (events_of (r ∷ runs)) ≡ filter (is_by i) (spoken_in (events_in r)) ++ spoken_at i (events_of runs) =
    ap (filter (is_by i)) (flat_map-append spoken_by (events_in r) (events_of runs)) ∙ filter-append (is_by i) (spoken_in (events_in r)) (spoken_in (events_of runs)) in
    subst (AreOutcomes o.device (common_at r.line.number r.line.step ++ lines) said) (sym parts)
    (wire_outcome owned i o r.line.step r.line.number lines (spoken_in (events_in r)) (spoken_at i (events_of runs)) r.refused said (refused_by o.device runs) differ owner done.0
    (record {
      texts = subst (λ xs. AreTexts xs said) spoken texts;
      following = λ ls is. outcomes owned i o runs ls differ owner done.1 is;
    }))
