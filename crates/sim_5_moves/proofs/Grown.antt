-- What is built stays so where the history grows.
use Rattle.std.proofs.Common.{◌≡◌, ◌==◌, ℕ, All, List, [], ◌∷◌, ◌++◌, Some, sym, ap, ◌∙◌, subst}
use Rattle.std.proofs.lemmas.List.Elements.{All-cons, All-head, All-nil, All-tail}
use Rattle.std.proofs.lemmas.List.Folds.{find-append}
use Rattle.std.specs.Option.{option_or}
use Rattle.mam_archive.specs.Entries.{EntryView, entry_numbered}
use Rattle.sim_3_items.specs.Labels.{gives_all, says_all}
use Rattle.sim_3_items.specs.Downs.{down_stanza}
use Rattle.sim_2_links.specs.Events.{Seen}
use Rattle.cmd_schedule.specs.Contents.{Owned}
use Rattle.cmd_schedule.specs.Schedules.{WireView}
use Rattle.sim_3_items.specs.Built.{IsDown, IsDownAs, IsUp}
use Rattle.sim_1_applications.specs.Devices.{Take}
use Rattle.sim_1_applications.specs.Stanzas.{Accepted, Bounced, Down, Fin, Live, NotFound, Res}
use Rattle.sim_1_applications.specs.Runs.{owned_of}
use Rattle.sim_5_devices.proofs.Grown.{history_more}
use Rattle.sim_5_moves.specs.Going.{AllBuilt, ArePutBuilt}
use Rattle.sim_5_moves.specs.Running.{history_for}
use Rattle.xml_writer.specs.Items.{ItemOut}

-- ---- one stanza

entry_stays : (n : ℕ) (history more : List EntryView) (e : EntryView) → entry_numbered n history ≡ Some e → entry_numbered n (history ++ more) ≡ Some e
entry_stays n history more e there = find-append (λ (x : EntryView). x.number == n) history more ∙ ap (λ o. option_or o (entry_numbered n more)) there

stays_as : (o : Owned) (history more : List EntryView) (x : Down) (z : ItemOut) → IsDownAs o history x z → IsDownAs o (history ++ more) x z
stays_as o history more Accepted z is = is
stays_as o history more (Bounced epoch n) z is = is
stays_as o history more (Live n) z is = is
stays_as o history more (Res q n) z is = record { entry = is.entry; there = entry_stays n history more is.entry is.there; numbered = is.numbered; is = is.is }
stays_as o history more (Fin q complete last count) z is = is
stays_as o history more (NotFound q) z is = is

pub down_grows : (o : Owned) (history more : List EntryView) (z : ItemOut) → IsDown o history z → IsDown o (history ++ more) z
down_grows o history more z is = stays_as o history more (down_stanza z) z is

-- ---- all

downs_grow : (o : Owned) (history more : List EntryView) (zs : List ItemOut) → All (IsDown o history) zs → All (IsDown o (history ++ more)) zs
downs_grow o history more [] are = All-nil (IsDown o (history ++ more))
downs_grow o history more (z ∷ zs) are =
    All-cons (IsDown o (history ++ more)) z zs (down_grows o history more z (All-head (IsDown o history) z zs are)) (downs_grow o history more zs (All-tail (IsDown o history) z zs are))

pub built_grows : (o : Owned) (history more : List EntryView) (s : Seen ItemOut) → AllBuilt o history s → AllBuilt o (history ++ more) s
built_grows o history more s built q t there = let was = built q t there in record { up = was.up; down = downs_grow o history more t.down_put was.down }

pub built_taken : (schedule : WireView) (takes new : List Take) (o : Owned) (s : Seen ItemOut) → AllBuilt o (history_for schedule takes o) s → AllBuilt o (history_for schedule (takes ++ new) o) s
built_taken schedule takes new o s built =
    let grown = history_more (owned_of schedule) takes new o.account in
    subst (λ history. AllBuilt o history s) (sym grown.1) (built_grows o (history_for schedule takes o) grown.0 s built)

-- ---- labels

pub gives_built : (o : Owned) (history : List EntryView) (zs : List ItemOut) → All (IsDown o history) zs → ArePutBuilt o history (gives_all zs)
gives_built o history [] are = tt
gives_built o history (z ∷ zs) are = (All-head (IsDown o history) z zs are, gives_built o history zs (All-tail (IsDown o history) z zs are))

pub says_built : (o : Owned) (history : List EntryView) (zs : List ItemOut) → All (IsUp o) zs → ArePutBuilt o history (says_all zs)
says_built o history [] are = tt
says_built o history (z ∷ zs) are = (All-head (IsUp o) z zs are, says_built o history zs (All-tail (IsUp o) z zs are))
