-- Moves of the links, one after another, and worlds to which they led; and what clients noted down meanwhile, and the server
-- read and put.
use Rattle.std.proofs.Common.{◌≡◌, ℕ, List, [], ◌∷◌, ◌++◌, map, refl, sym, ap, ap₂, ◌∙◌, subst, append_assoc, append-nil, inl, inr}
use Rattle.cl_handlers.specs.Speech.{Acknowledged, Counted, Ended, Epoch, Handled, Note, Put, Stated}
use Rattle.sim_2_links.specs.Machine.{LinkMove, LinkReaches}
use Rattle.sim_2_links.specs.Views.{View}
use Rattle.sim_3_images.specs.Notes.{all_item_notes, item_notes}
use Rattle.sim_3_images.specs.Puts.{all_item_gives, item_gives}
use Rattle.sim_3_images.specs.Reads.{all_item_reads, item_reads}
use Rattle.sim_3_items.specs.ItemMoves.{CatchUp, Close, Cut, Dial, Down, DownEnd, Forget, ItemMove, Say, Tick, Up, UpEnd, all_moved, moved}
use Rattle.sim_3_items.specs.ItemWorlds.{ItemWorld}
use Rattle.sim_3_items.specs.Labels.{Drops, Enters, Gives, Label, Learns, Names, Reads, Says, Takes, gives_all, label_of, labels_of}
use Rattle.sim_3_items.specs.Reading.{noted}
use Rattle.sim_4_links_follow.proofs.Courses.{noted_on}
use Rattle.cmd_schedule.specs.Schedules.{WireView}
use Rattle.sim_1_applications.specs.Devices.{AppWorld}
use Rattle.sim_5_moves.specs.Running.{DoesBy, Leads, WorldSimulates}
use Rattle.sim_7_schedules.specs.Simulation.{AllLead, LabelsAreNoted, Views, bounds, clients_of, gives_of, takes_of, views_of}
use Rattle.xml_writer.specs.Items.{ItemOut}

-- ---- labels, one after another

link_reaches_both : (first second : List (LinkMove ItemOut)) (v mid last : View ItemOut) → LinkReaches first v mid → LinkReaches second mid last → LinkReaches (first ++ second) v last
link_reaches_both [] second v mid last is more = subst (λ u. LinkReaches second u last) is more
link_reaches_both (move ∷ first) second v mid last (next, made, along) more = (next, made, link_reaches_both first second next mid last along more)

labels_joined : (first second : List (LinkMove ItemOut)) → labels_of (first ++ second) ≡ labels_of first ++ labels_of second
labels_joined [] second = refl
labels_joined (move ∷ first) second = ap (λ l. label_of move ++ l) (labels_joined first second) ∙ sym (append_assoc (label_of move) (labels_of first) (labels_of second))

clients_joined : (first second : List (Label ItemOut)) → clients_of (first ++ second) ≡ clients_of first ++ clients_of second
clients_joined [] second = refl
clients_joined (Says z ∷ first) second = ap (λ l. Says z ∷ l) (clients_joined first second)
clients_joined (Reads z ∷ first) second = ap (λ l. Reads z ∷ l) (clients_joined first second)
clients_joined (Names ∷ first) second = ap (λ l. Names ∷ l) (clients_joined first second)
clients_joined (Takes z ∷ first) second = clients_joined first second
clients_joined (Gives z ∷ first) second = clients_joined first second
clients_joined (Enters ∷ first) second = clients_joined first second
clients_joined (Learns ∷ first) second = clients_joined first second
clients_joined (Drops ∷ first) second = clients_joined first second

takes_joined : (first second : List (Label ItemOut)) → takes_of (first ++ second) ≡ takes_of first ++ takes_of second
takes_joined [] second = refl
takes_joined (Takes z ∷ first) second = ap (λ l. z ∷ l) (takes_joined first second)
takes_joined (Says z ∷ first) second = takes_joined first second
takes_joined (Reads z ∷ first) second = takes_joined first second
takes_joined (Names ∷ first) second = takes_joined first second
takes_joined (Gives z ∷ first) second = takes_joined first second
takes_joined (Enters ∷ first) second = takes_joined first second
takes_joined (Learns ∷ first) second = takes_joined first second
takes_joined (Drops ∷ first) second = takes_joined first second

gives_joined : (first second : List (Label ItemOut)) → gives_of (first ++ second) ≡ gives_of first ++ gives_of second
gives_joined [] second = refl
gives_joined (Gives z ∷ first) second = ap (λ l. z ∷ l) (gives_joined first second)
gives_joined (Says z ∷ first) second = gives_joined first second
gives_joined (Reads z ∷ first) second = gives_joined first second
gives_joined (Names ∷ first) second = gives_joined first second
gives_joined (Takes z ∷ first) second = gives_joined first second
gives_joined (Enters ∷ first) second = gives_joined first second
gives_joined (Learns ∷ first) second = gives_joined first second
gives_joined (Drops ∷ first) second = gives_joined first second

-- ---- what the client of a device noted down, and what the server read of it and put for it

pub record Told : Type 0 where
  pub notes : List (Note ItemOut)
  pub read : List ItemOut
  pub gave : List ItemOut

abbrev pub both_told : Told → Told → Told
both_told t u = record { notes = t.notes ++ u.notes; read = t.read ++ u.read; gave = t.gave ++ u.gave }

abbrev pub AreTold : Told → List (Label ItemOut) → Type 0
AreTold t done = LabelsAreNoted t.notes t.read done × (gives_of done ≡ t.gave)

pub leads_both : (first second : Told) (v mid last : View ItemOut) → Leads (AreTold first) v mid → Leads (AreTold second) mid last → Leads (AreTold (both_told first second)) v last
leads_both first second v mid last one two = (
  one.0 ++ two.0,
  link_reaches_both one.0 two.0 v mid last one.1 two.1,
  (
    (
      ap clients_of (labels_joined one.0 two.0) ∙ clients_joined (labels_of one.0) (labels_of two.0) ∙ ap₂ (λ a b. a ++ b) one.2.0.0 two.2.0.0
          ∙ sym (ap clients_of (noted_on first.notes second.notes) ∙ clients_joined (noted first.notes) (noted second.notes)),
      ap takes_of (labels_joined one.0 two.0) ∙ takes_joined (labels_of one.0) (labels_of two.0) ∙ ap₂ (λ a b. a ++ b) one.2.0.1 two.2.0.1,
    ),
    ap gives_of (labels_joined one.0 two.0) ∙ gives_joined (labels_of one.0) (labels_of two.0) ∙ ap₂ (λ a b. a ++ b) one.2.1 two.2.1,
  ),
)

-- ---- the labels of one move

none_taken : (taken : List ItemOut) (rest : List (Label ItemOut)) → clients_of (map Takes taken ++ rest) ≡ clients_of rest
none_taken [] rest = refl
none_taken (z ∷ taken) rest = none_taken taken rest

none_given : (given : List ItemOut) → clients_of (gives_all given) ≡ []
none_given [] = refl
none_given (z ∷ given) = none_given given

all_taken : (taken : List ItemOut) (rest : List (Label ItemOut)) → takes_of (map Takes taken ++ rest) ≡ taken ++ takes_of rest
all_taken [] rest = refl
all_taken (z ∷ taken) rest = ap (λ l. z ∷ l) (all_taken taken rest)

given_untaken : (given : List ItemOut) → takes_of (gives_all given) ≡ []
given_untaken [] = refl
given_untaken (z ∷ given) = given_untaken given

taken_ungiven : (taken : List ItemOut) (rest : List (Label ItemOut)) → gives_of (map Takes taken ++ rest) ≡ gives_of rest
taken_ungiven [] rest = refl
taken_ungiven (z ∷ taken) rest = taken_ungiven taken rest

all_given : (given : List ItemOut) → gives_of (gives_all given) ≡ given
all_given [] = refl
all_given (z ∷ given) = ap (λ l. z ∷ l) (all_given given)

noted_untaken : (notes : List (Note ItemOut)) → takes_of (noted notes) ≡ []
noted_untaken [] = refl
noted_untaken (Epoch n ∷ notes) = noted_untaken notes
noted_untaken (Counted ∷ notes) = noted_untaken notes
noted_untaken (Handled z ∷ notes) = noted_untaken notes
noted_untaken (Put z ∷ notes) = noted_untaken notes
noted_untaken (Stated n ∷ notes) = noted_untaken notes
noted_untaken (Acknowledged n ∷ notes) = noted_untaken notes
noted_untaken (Ended ∷ notes) = noted_untaken notes

noted_ungiven : (notes : List (Note ItemOut)) → gives_of (noted notes) ≡ []
noted_ungiven [] = refl
noted_ungiven (Epoch n ∷ notes) = noted_ungiven notes
noted_ungiven (Counted ∷ notes) = noted_ungiven notes
noted_ungiven (Handled z ∷ notes) = noted_ungiven notes
noted_ungiven (Put z ∷ notes) = noted_ungiven notes
noted_ungiven (Stated n ∷ notes) = noted_ungiven notes
noted_ungiven (Acknowledged n ∷ notes) = noted_ungiven notes
noted_ungiven (Ended ∷ notes) = noted_ungiven notes

abbrev pub told_by : ItemMove → ItemWorld → ℕ → Told
told_by m w i = record { notes = item_notes m w i; read = item_reads m w i; gave = item_gives m w i }

-- what the client notes down, where the server reads nothing
by_client : (notes : List (Note ItemOut)) (done : List (Label ItemOut)) → done ≡ noted notes → LabelsAreNoted notes [] done × (gives_of done ≡ [])
by_client notes done is = ((ap clients_of is, ap takes_of is ∙ noted_untaken notes), ap gives_of is ∙ noted_ungiven notes)

pub are_told : (m : ItemMove) (w : ItemWorld) (i : ℕ) (done : List (Label ItemOut)) → DoesBy m w i done → AreTold (told_by m w i) done
are_told (Up position) w i done does =
    let read = item_reads (Up position) w i in
    let given = item_gives (Up position) w i in (
      (
        ap clients_of does ∙ none_taken read (gives_all given) ∙ none_given given,
        ap takes_of does ∙ all_taken read (gives_all given) ∙ ap (λ l. read ++ l) (given_untaken given) ∙ append-nil read,
      ),
      ap gives_of does ∙ taken_ungiven read (gives_all given) ∙ all_given given,
    )
are_told (Forget position) w i done (inl none) = ((ap clients_of none, ap takes_of none), ap gives_of none)
are_told (Forget position) w i done (inr drops) = ((ap clients_of drops, ap takes_of drops), ap gives_of drops)
are_told (Close position) w i done (inl none) = ((ap clients_of none, ap takes_of none), ap gives_of none)
are_told (Close position) w i done (inr drops) = ((ap clients_of drops, ap takes_of drops), ap gives_of drops)
are_told (Dial device mine yours) w i done does = by_client [] done does
are_told (Say device to text private) w i done does = by_client (item_notes (Say device to text private) w i) done does
are_told (CatchUp device most) w i done does = by_client (item_notes (CatchUp device most) w i) done does
are_told (Tick milliseconds) w i done does = by_client [] done does
are_told (Down position) w i done does = by_client (item_notes (Down position) w i) done does
are_told (UpEnd position) w i done does = by_client [] done does
are_told (DownEnd position) w i done does = by_client [] done does
are_told (Cut position up down) w i done does = by_client [] done does

-- ---- what is told of each device so far

abbrev pub Telling : Type 0
Telling = ℕ → Told

abbrev pub nothing_told : Telling
nothing_told i = record { notes = []; read = []; gave = [] }

abbrev pub then_told : Telling → ItemMove → ItemWorld → Telling
then_told told m w i = both_told (told i) (told_by m w i)

abbrev pub told_along : List ItemMove → ItemWorld → Telling → Telling
told_along [] w told = told
told_along (m ∷ moves) w told = told_along moves (moved m w) (then_told told m w)

pub told_joined : (first second : List ItemMove) (w : ItemWorld) (told : Telling) → told_along (first ++ second) w told ≡ told_along second (all_moved first w) (told_along first w told)
told_joined [] second w told = refl
told_joined (m ∷ first) second w told = told_joined first second (moved m w) (then_told told m w)

notes_are : (moves : List ItemMove) (w : ItemWorld) (told : Telling) (i : ℕ) → (told_along moves w told i).notes ≡ (told i).notes ++ all_item_notes moves w i
notes_are [] w told i = sym (append-nil (told i).notes)
notes_are (m ∷ moves) w told i = notes_are moves (moved m w) (then_told told m w) i ∙ append_assoc (told i).notes (item_notes m w i) (all_item_notes moves (moved m w) i)

reads_are : (moves : List ItemMove) (w : ItemWorld) (told : Telling) (i : ℕ) → (told_along moves w told i).read ≡ (told i).read ++ all_item_reads moves w i
reads_are [] w told i = sym (append-nil (told i).read)
reads_are (m ∷ moves) w told i = reads_are moves (moved m w) (then_told told m w) i ∙ append_assoc (told i).read (item_reads m w i) (all_item_reads moves (moved m w) i)

gives_are : (moves : List ItemMove) (w : ItemWorld) (told : Telling) (i : ℕ) → (told_along moves w told i).gave ≡ (told i).gave ++ all_item_gives moves w i
gives_are [] w told i = sym (append-nil (told i).gave)
gives_are (m ∷ moves) w told i = gives_are moves (moved m w) (then_told told m w) i ∙ append_assoc (told i).gave (item_gives m w i) (all_item_gives moves (moved m w) i)

pub all_noted : (moves : List ItemMove) (w : ItemWorld) (i : ℕ) → (told_along moves w nothing_told i).notes ≡ all_item_notes moves w i
all_noted moves w i = notes_are moves w nothing_told i

pub all_read : (moves : List ItemMove) (w : ItemWorld) (i : ℕ) → (told_along moves w nothing_told i).read ≡ all_item_reads moves w i
all_read moves w i = reads_are moves w nothing_told i

pub all_gave : (moves : List ItemMove) (w : ItemWorld) (i : ℕ) → (told_along moves w nothing_told i).gave ≡ all_item_gives moves w i
all_gave moves w i = gives_are moves w nothing_told i

-- a move by which nothing is told
pub untold : (t : Told) (notes : List (Note ItemOut)) (read gave : List ItemOut) → notes ≡ [] → read ≡ [] → gave ≡ [] → t ≡ record { notes = t.notes ++ notes; read = t.read ++ read; gave = t.gave ++ gave }
untold t notes read gave none unread ungiven =
    ap₂ (λ a b. record { notes = a; read = b; gave = t.gave }) (sym (ap (λ l. t.notes ++ l) none ∙ append-nil t.notes)) (sym (ap (λ l. t.read ++ l) unread ∙ append-nil t.read))
    ∙ ap (λ c. record { notes = t.notes ++ notes; read = t.read ++ read; gave = c }) (sym (ap (λ l. t.gave ++ l) ungiven ∙ append-nil t.gave))

-- ---- worlds

-- a world of items beside one of the applications, to which moves of the links led from these, while this was told
pub record WorldFrom (schedule : WireView) (from : Views schedule) (told : Telling) (says : ℕ) (w : ItemWorld) (x : AppWorld) : Type 0 where
  pub world : WorldSimulates schedule bounds says w x
  pub leads : AllLead schedule (λ i. AreTold (told i)) from (views_of world)

-- no move did
pub at_once : (schedule : WireView) (says : ℕ) (w : ItemWorld) (x : AppWorld) (runs : WorldSimulates schedule bounds says w x) → WorldFrom schedule (views_of runs) nothing_told says w x
at_once schedule says w x runs = record { world = runs; leads = λ i o is. ([], refl, ((refl, refl), refl)) }

-- the same was told
pub retold : (schedule : WireView) (from : Views schedule) (told other : Telling) (says : ℕ) (w : ItemWorld) (x : AppWorld) → ((i : ℕ) → told i ≡ other i) → WorldFrom schedule from told says w x → WorldFrom schedule from other says w x
retold schedule from told other says w x same f = record {
  world = f.world;
  leads = λ i o is. let l = f.leads i o is in (l.0, l.1, subst (λ t. AreTold t (labels_of l.0)) (same i) l.2);
}
