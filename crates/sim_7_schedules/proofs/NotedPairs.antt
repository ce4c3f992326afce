-- What a client put and handled in its sessions is what it noted down, what the server handled is what it read, and what it
-- put is what its outputs tell.
use Rattle.std.proofs.Common.{◌≡◌, ℕ, ◌+◌, ◌==◌, Bool, true, false, cond, List, [], ◌∷◌, ◌++◌, Option, None, Some, map, slice_get, refl, sym, ap, ap₂, ◌∙◌, ◌⊎◌, subst, inl, inr}
use Rattle.std.proofs.lemmas.List.{map-append}
use Rattle.std.specs.Option.{option_map}
use Rattle.cl_handlers.specs.Speech.{Acknowledged, Counted, Ended, Epoch, Handled, Note, Put, Stated}
use Rattle.law_client.specs.Rendered.{note_rendered}
use Rattle.sim_1_applications.specs.Devices as sessions
use Rattle.sim_2_events.specs.Lists.{IsDevice}
use Rattle.sim_2_links.specs.Events.{seen, seen_as, seen_session}
use Rattle.sim_2_links.specs.Machine.{LinkReached}
use Rattle.sim_2_links.specs.Views as links
use Rattle.sim_2_links.specs.Views.{View}
use Rattle.sim_3_images.proofs.ItemsServed.{nothing_either}
use Rattle.sim_3_images.proofs.NotesTold.{nothing_noted as unspoken}
use Rattle.sim_3_images.specs.Notes.{notes_in}
use Rattle.sim_3_images.specs.Puts.{given_in}
use Rattle.sim_3_images.specs.Reads.{read_in}
use Rattle.sim_3_items.specs.Items.{stanzas_read}
use Rattle.sim_3_items.specs.Labels.{Drops, Enters, Gives, Label, Learns, Names, Reads, Says, Takes, labels_of}
use Rattle.sim_3_items.specs.Reading.{noted}
use Rattle.sim_5_moves.specs.Running.{Leads}
use Rattle.sim_7_schedules.proofs.LabelledLists.{given_by, in_epoch, lists_grow, read_by, said_by, taken_by, was}
use Rattle.sim_7_schedules.proofs.SessionPairs.{found_pair, pair_of}
use Rattle.sim_7_schedules.specs.Courses.{AreNoted, IsNoted, before, handled_in, put_in}
use Rattle.sim_7_schedules.specs.Pairs.{Pair}
use Rattle.sim_7_schedules.specs.Simulation.{LabelsAreNotedIn, clients_of, gives_of, takes_of}
use Rattle.cmd_world.specs.Moves as moves
use Rattle.cmd_world.specs.Moves.{Move}
use Rattle.cmd_world.specs.Worlds.{ByteWorld}
use Rattle.xml_writer.specs.Items.{ItemOut, Whole, written_item}

abbrev D : Type 0
D = Label ItemOut

none_more : (b : Bool) (l : List ItemOut) → cond {A = List ItemOut} b [] [] ++ l ≡ l
none_more true l = refl
none_more false l = refl

-- ---- labels of the client alone

-- a kind of labels that are the client's
abbrev IsClients : (D → List ItemOut) → Type 0
IsClients pick = ((z : ItemOut) → pick (Takes z) ≡ []) × ((z : ItemOut) → pick (Gives z) ≡ []) × (pick Enters ≡ []) × (pick Learns ≡ []) × (pick Drops ≡ [])

skipped : (pick : D → List ItemOut) (now : ℕ) (x : List ItemOut) (rest all : List ItemOut) (e : ℕ) → x ≡ [] → rest ≡ all → cond (now == e) x [] ++ rest ≡ all
skipped pick now x rest all e none is = ap (λ l. cond (now == e) l [] ++ rest) none ∙ none_more (now == e) rest ∙ is

of_clients : (pick : D → List ItemOut) → IsClients pick → (now : ℕ) (ds : List D) (e : ℕ) → in_epoch pick now ds e ≡ in_epoch pick now (clients_of ds) e
of_clients pick own now [] e = refl
of_clients pick own now (Names ∷ ds) e = of_clients pick own (now + 1) ds e
of_clients pick own now (Says z ∷ ds) e = ap (λ l. cond (now == e) (pick (Says z)) [] ++ l) (of_clients pick own now ds e)
of_clients pick own now (Reads z ∷ ds) e = ap (λ l. cond (now == e) (pick (Reads z)) [] ++ l) (of_clients pick own now ds e)
of_clients pick own now (Takes z ∷ ds) e = skipped pick now (pick (Takes z)) (in_epoch pick now ds e) (in_epoch pick now (clients_of ds) e) e (own.0 z) (of_clients pick own now ds e)
of_clients pick own now (Gives z ∷ ds) e = skipped pick now (pick (Gives z)) (in_epoch pick now ds e) (in_epoch pick now (clients_of ds) e) e (own.1 z) (of_clients pick own now ds e)
of_clients pick own now (Enters ∷ ds) e = skipped pick now (pick Enters) (in_epoch pick now ds e) (in_epoch pick now (clients_of ds) e) e own.2 (of_clients pick own now ds e)
of_clients pick own now (Learns ∷ ds) e = skipped pick now (pick Learns) (in_epoch pick now ds e) (in_epoch pick now (clients_of ds) e) e own.3 (of_clients pick own now ds e)
of_clients pick own now (Drops ∷ ds) e = skipped pick now (pick Drops) (in_epoch pick now ds e) (in_epoch pick now (clients_of ds) e) e own.4 (of_clients pick own now ds e)

same_clients : (pick : D → List ItemOut) → IsClients pick → (now : ℕ) (ds es : List D) (e : ℕ) → clients_of ds ≡ clients_of es → in_epoch pick now ds e ≡ in_epoch pick now es e
same_clients pick own now ds es e same = of_clients pick own now ds e ∙ ap (λ l. in_epoch pick now l e) same ∙ sym (of_clients pick own now es e)

-- ---- notes

abbrev written_notes : List (Note ItemOut) → List (Note (List ℕ))
written_notes ns = map (note_rendered written_item) ns

reads_noted : (now : ℕ) (ns : List (Note ItemOut)) (e : ℕ) → in_epoch read_by now (noted ns) e ≡ handled_in now (written_notes ns) e
reads_noted now [] e = refl
reads_noted now (Epoch n ∷ ns) e = reads_noted (now + 1) ns e
reads_noted now (Counted ∷ ns) e = none_more (now == e) (in_epoch read_by now (noted ns) e) ∙ reads_noted now ns e
reads_noted now (Handled z ∷ ns) e = ap (λ l. cond (now == e) (Whole z ∷ []) [] ++ l) (reads_noted now ns e)
reads_noted now (Put z ∷ ns) e = none_more (now == e) (in_epoch read_by now (noted ns) e) ∙ reads_noted now ns e
reads_noted now (Stated n ∷ ns) e = reads_noted now ns e
reads_noted now (Acknowledged n ∷ ns) e = none_more (now == e) (in_epoch read_by now (noted ns) e) ∙ reads_noted now ns e
reads_noted now (Ended ∷ ns) e = none_more (now == e) (in_epoch read_by now (noted ns) e) ∙ reads_noted now ns e

one_written : (b : Bool) (z : ItemOut) → map written_item (cond b (z ∷ []) []) ≡ cond b (written_item z ∷ []) []
one_written true z = refl
one_written false z = refl

puts_noted : (now : ℕ) (ns : List (Note ItemOut)) (e : ℕ) → map written_item (in_epoch said_by now (noted ns) e) ≡ put_in now (written_notes ns) e
puts_noted now [] e = refl
puts_noted now (Epoch n ∷ ns) e = puts_noted (now + 1) ns e
puts_noted now (Counted ∷ ns) e = ap (map written_item) (none_more (now == e) (in_epoch said_by now (noted ns) e)) ∙ puts_noted now ns e
puts_noted now (Handled z ∷ ns) e = ap (map written_item) (none_more (now == e) (in_epoch said_by now (noted ns) e)) ∙ puts_noted now ns e
puts_noted now (Put z ∷ ns) e =
    map-append written_item (cond (now == e) (z ∷ []) []) (in_epoch said_by now (noted ns) e) ∙ ap₂ (λ a b. a ++ b) (one_written (now == e) z) (puts_noted now ns e)
puts_noted now (Stated n ∷ ns) e = puts_noted now ns e
puts_noted now (Acknowledged n ∷ ns) e = ap (map written_item) (none_more (now == e) (in_epoch said_by now (noted ns) e)) ∙ puts_noted now ns e
puts_noted now (Ended ∷ ns) e = ap (map written_item) (none_more (now == e) (in_epoch said_by now (noted ns) e)) ∙ puts_noted now ns e

-- ---- what the server reads

-- where the client notes nothing down all is of the same epoch
nothing_noted : (ns : List (Note ItemOut)) → written_notes ns ≡ [] → ns ≡ []
nothing_noted [] none = refl
nothing_noted (one ∷ ns) none = absurd (let no_way : ⊥ = cc in no_way)

-- of a label that isn't the client's
other_taken : (now : ℕ) (rest : List ItemOut) (l : List ItemOut) (e : ℕ) → rest ≡ cond (now == e) l [] → cond {A = List ItemOut} (now == e) [] [] ++ rest ≡ cond (now == e) l []
other_taken now rest l e is = none_more (now == e) rest ∙ is

one_taken : (b : Bool) (z : ItemOut) (l : List ItemOut) → cond b (z ∷ []) [] ++ cond b l [] ≡ cond b (z ∷ l) []
one_taken true z l = refl
one_taken false z l = refl

taken_at_once : (now : ℕ) (ds : List D) (e : ℕ) → clients_of ds ≡ [] → in_epoch taken_by now ds e ≡ cond (now == e) (takes_of ds) []
taken_at_once now [] e none = sym (nothing_either (now == e))
taken_at_once now (Takes z ∷ ds) e none = ap (λ l. cond (now == e) (z ∷ []) [] ++ l) (taken_at_once now ds e none) ∙ one_taken (now == e) z (takes_of ds)
taken_at_once now (Gives z ∷ ds) e none = other_taken now (in_epoch taken_by now ds e) (takes_of ds) e (taken_at_once now ds e none)
taken_at_once now (Enters ∷ ds) e none = other_taken now (in_epoch taken_by now ds e) (takes_of ds) e (taken_at_once now ds e none)
taken_at_once now (Learns ∷ ds) e none = other_taken now (in_epoch taken_by now ds e) (takes_of ds) e (taken_at_once now ds e none)
taken_at_once now (Drops ∷ ds) e none = other_taken now (in_epoch taken_by now ds e) (takes_of ds) e (taken_at_once now ds e none)
taken_at_once now (Names ∷ ds) e none = absurd (let no_way : ⊥ = cc in no_way)
taken_at_once now (Says z ∷ ds) e none = absurd (let no_way : ⊥ = cc in no_way)
taken_at_once now (Reads z ∷ ds) e none = absurd (let no_way : ⊥ = cc in no_way)

-- where the server reads nothing
none_taken : (now : ℕ) (ds : List D) (e : ℕ) → takes_of ds ≡ [] → in_epoch taken_by now ds e ≡ []
none_taken now [] e none = refl
none_taken now (Names ∷ ds) e none = none_taken (now + 1) ds e none
none_taken now (Takes z ∷ ds) e none = absurd (let no_way : ⊥ = cc in no_way)
none_taken now (Says z ∷ ds) e none = none_more (now == e) (in_epoch taken_by now ds e) ∙ none_taken now ds e none
none_taken now (Gives z ∷ ds) e none = none_more (now == e) (in_epoch taken_by now ds e) ∙ none_taken now ds e none
none_taken now (Reads z ∷ ds) e none = none_more (now == e) (in_epoch taken_by now ds e) ∙ none_taken now ds e none
none_taken now (Enters ∷ ds) e none = none_more (now == e) (in_epoch taken_by now ds e) ∙ none_taken now ds e none
none_taken now (Learns ∷ ds) e none = none_more (now == e) (in_epoch taken_by now ds e) ∙ none_taken now ds e none
none_taken now (Drops ∷ ds) e none = none_more (now == e) (in_epoch taken_by now ds e) ∙ none_taken now ds e none

-- in a move of bytes the one or the other does nothing
one_idle : (m : Move) (V : ByteWorld) (i : ℕ) → (notes_in m V i ≡ []) ⊎ (read_in m V i ≡ [])
one_idle (moves.Up position count) V i = inl (unspoken (slice_get V.devices i))
one_idle (moves.Dial device) V i = inr refl
one_idle (moves.Forget device) V i = inr refl
one_idle (moves.Close device) V i = inr refl
one_idle (moves.Say device line to text private) V i = inr refl
one_idle (moves.CatchUp device line most) V i = inr refl
one_idle (moves.Tick milliseconds) V i = inr refl
one_idle (moves.Down position count) V i = inr refl
one_idle (moves.Cut position up down) V i = inr refl

reads_taken : (m : Move) (V : ByteWorld) (i now : ℕ) (ns : List (Note ItemOut)) (ds : List D) (e : ℕ) → notes_in m V i ≡ written_notes ns → clients_of ds ≡ clients_of (noted ns) → takes_of ds ≡ read_in m V i
    → in_epoch taken_by now ds e ≡ cond (now == e) (read_in m V i) []
reads_taken m V i now ns ds e notes clients taken = elim (one_idle m V i) [
  | inl silent ↦
      taken_at_once now ds e (clients ∙ ap (λ l. clients_of (noted l)) (nothing_noted ns (sym notes ∙ silent))) ∙ ap (λ l. cond (now == e) l []) taken
  | inr unread ↦ none_taken now ds e (taken ∙ unread) ∙ sym (ap (λ l. cond (now == e) l []) unread ∙ nothing_either (now == e))
]

-- ---- what the server puts

given_at_once : (now : ℕ) (ds : List D) (e : ℕ) → clients_of ds ≡ [] → in_epoch given_by now ds e ≡ cond (now == e) (gives_of ds) []
given_at_once now [] e none = sym (nothing_either (now == e))
given_at_once now (Gives z ∷ ds) e none = ap (λ l. cond (now == e) (z ∷ []) [] ++ l) (given_at_once now ds e none) ∙ one_taken (now == e) z (gives_of ds)
given_at_once now (Takes z ∷ ds) e none = other_taken now (in_epoch given_by now ds e) (gives_of ds) e (given_at_once now ds e none)
given_at_once now (Enters ∷ ds) e none = other_taken now (in_epoch given_by now ds e) (gives_of ds) e (given_at_once now ds e none)
given_at_once now (Learns ∷ ds) e none = other_taken now (in_epoch given_by now ds e) (gives_of ds) e (given_at_once now ds e none)
given_at_once now (Drops ∷ ds) e none = other_taken now (in_epoch given_by now ds e) (gives_of ds) e (given_at_once now ds e none)
given_at_once now (Names ∷ ds) e none = absurd (let no_way : ⊥ = cc in no_way)
given_at_once now (Says z ∷ ds) e none = absurd (let no_way : ⊥ = cc in no_way)
given_at_once now (Reads z ∷ ds) e none = absurd (let no_way : ⊥ = cc in no_way)

none_given : (now : ℕ) (ds : List D) (e : ℕ) → gives_of ds ≡ [] → in_epoch given_by now ds e ≡ []
none_given now [] e none = refl
none_given now (Names ∷ ds) e none = none_given (now + 1) ds e none
none_given now (Gives z ∷ ds) e none = absurd (let no_way : ⊥ = cc in no_way)
none_given now (Says z ∷ ds) e none = none_more (now == e) (in_epoch given_by now ds e) ∙ none_given now ds e none
none_given now (Takes z ∷ ds) e none = none_more (now == e) (in_epoch given_by now ds e) ∙ none_given now ds e none
none_given now (Reads z ∷ ds) e none = none_more (now == e) (in_epoch given_by now ds e) ∙ none_given now ds e none
none_given now (Enters ∷ ds) e none = none_more (now == e) (in_epoch given_by now ds e) ∙ none_given now ds e none
none_given now (Learns ∷ ds) e none = none_more (now == e) (in_epoch given_by now ds e) ∙ none_given now ds e none
none_given now (Drops ∷ ds) e none = none_more (now == e) (in_epoch given_by now ds e) ∙ none_given now ds e none

-- in a move of bytes the client notes nothing down, or the server puts nothing
one_quiet : (m : Move) (V : ByteWorld) (i : ℕ) → (notes_in m V i ≡ []) ⊎ (given_in m V i ≡ [])
one_quiet (moves.Up position count) V i = inl (unspoken (slice_get V.devices i))
one_quiet (moves.Dial device) V i = inr refl
one_quiet (moves.Forget device) V i = inr refl
one_quiet (moves.Close device) V i = inr refl
one_quiet (moves.Say device line to text private) V i = inr refl
one_quiet (moves.CatchUp device line most) V i = inr refl
one_quiet (moves.Tick milliseconds) V i = inr refl
one_quiet (moves.Down position count) V i = inr refl
one_quiet (moves.Cut position up down) V i = inr refl

unwritten : (l : List ItemOut) → map written_item l ≡ [] → l ≡ []
unwritten [] none = refl
unwritten (z ∷ l) none = absurd (let no_way : ⊥ = cc in no_way)

all_written : (b : Bool) (l : List ItemOut) → map written_item (cond b l []) ≡ cond b (map written_item l) []
all_written true l = refl
all_written false l = refl

gives_made : (m : Move) (V : ByteWorld) (i now : ℕ) (ns : List (Note ItemOut)) (ds : List D) (e : ℕ) → notes_in m V i ≡ written_notes ns → clients_of ds ≡ clients_of (noted ns) → map written_item (gives_of ds) ≡ given_in m V i
    → map written_item (in_epoch given_by now ds e) ≡ cond (now == e) (given_in m V i) []
gives_made m V i now ns ds e notes clients given = elim (one_quiet m V i) [
  | inl silent ↦
      ap (map written_item) (given_at_once now ds e (clients ∙ ap (λ l. clients_of (noted l)) (nothing_noted ns (sym notes ∙ silent)))) ∙ all_written (now == e) (gives_of ds)
      ∙ ap (λ l. cond (now == e) l []) given
  | inr none ↦ ap (map written_item) (none_given now ds e (unwritten (gives_of ds) (given ∙ none))) ∙ sym (ap (λ l. cond (now == e) l []) none ∙ nothing_where (now == e))
]
  where
    nothing_where : (b : Bool) → cond {A = List (List ℕ)} b [] [] ≡ []
    nothing_where true = refl
    nothing_where false = refl

-- ---- pairs

abbrev pub pairs_by : View ItemOut → ℕ → Option Pair
pairs_by v number = option_map pair_of (v.sessions number)

down_was : (o : Option (links.Session ItemOut)) → (was (seen_as o)).down_got ≡ (before (option_map pair_of o)).down.got
down_was None = refl
down_was (Some t) = refl

got_was : (o : Option (links.Session ItemOut)) → (was (seen_as o)).up_got ≡ (before (option_map pair_of o)).up.got
got_was None = refl
got_was (Some t) = refl

put_was : (o : Option (links.Session ItemOut)) → (was (seen_as o)).down_put ≡ (before (option_map pair_of o)).down.put
put_was None = refl
put_was (Some t) = refl

up_was : (o : Option (links.Session ItemOut)) → (was (seen_as o)).up_put ≡ (before (option_map pair_of o)).up.put
up_was None = refl
up_was (Some t) = refl

pub pairs_noted : (m : Move) (V : ByteWorld) (i : ℕ) (v next : View ItemOut) (d : sessions.Sessions) → LinkReached v → IsDevice stanzas_read (seen v) d → Leads (LabelsAreNotedIn m V i) v next
    → AreNoted v.epoch (notes_in m V i) (read_in m V i) (given_in m V i) (pairs_by v) (pairs_by next)
pairs_noted m V i v next d reached is leads number e q at epoch =
    let (t, there, same) = found_pair (next.sessions number) q at in
    let (made, along, told) = leads in
    let labels = labels_of made in
    let grows = lists_grow made v next d reached along is number e (seen_session t) (ap seen_as there) (ap (λ (p : Pair). p.epoch) same ∙ epoch) in
    let handled : in_epoch read_by v.epoch labels e ≡ handled_in v.epoch (notes_in m V i) e =
    same_clients read_by ((λ z. refl), (λ z. refl), refl, refl, refl) v.epoch labels (noted told.0) e told.2.0 ∙ reads_noted v.epoch told.0 e ∙ ap (λ ns. handled_in v.epoch ns e) (sym told.1) in
    let put : map written_item (in_epoch said_by v.epoch labels e) ≡ put_in v.epoch (notes_in m V i) e =
    ap (map written_item) (same_clients said_by ((λ z. refl), (λ z. refl), refl, refl, refl) v.epoch labels (noted told.0) e told.2.0) ∙ puts_noted v.epoch told.0 e ∙ ap (λ ns. put_in v.epoch ns e) (sym told.1) in
    subst (λ (p : Pair). IsNoted v.epoch (notes_in m V i) (read_in m V i) (given_in m V i) (before (pairs_by v number)) p e) same (record {
      handled = grows.down_got ∙ ap₂ (λ a b. a ++ b) (down_was (v.sessions number)) handled;
      put = (in_epoch said_by v.epoch labels e, grows.up_put ∙ ap (λ l. l ++ in_epoch said_by v.epoch labels e) (up_was (v.sessions number)), put);
      taken = grows.up_got ∙ ap₂ (λ a b. a ++ b) (got_was (v.sessions number)) (reads_taken m V i v.epoch told.0 labels e told.1 told.2.0 told.2.1);
      sent = (in_epoch given_by v.epoch labels e, grows.down_put ∙ ap (λ l. l ++ in_epoch given_by v.epoch labels e) (put_was (v.sessions number)), gives_made m V i v.epoch told.0 labels e told.1 told.2.0 told.3);
    })
