-- What each operation on a pipe makes of the items that it carries.
use Rattle.std.proofs.Common.{◌≡◌, ℕ, ◌+◌, ◌==◌, ◌&&◌, not, Bool, true, false, List, [], ◌++◌, None, length, take, drop, refl, sym, ap, subst, ◌∙◌, append_assoc, append-nil, arith}
use Rattle.std.proofs.Math.Seq.{drop-append-add, drop-length, take-append-add, take-length}
use Rattle.std.proofs.lemmas.Bool.{and_parts, cond-false, cond-true}
use Rattle.std.proofs.lemmas.Bool.Decides.{nat_tests}
use Rattle.std.proofs.lemmas.List.{nil_from_length}
use Rattle.xml_framer.proofs.ItemsBefore.{given_before}
use Rattle.xml_framer.proofs.Pieces.{run_append}
use Rattle.xml_framer.specs.Machine.{run}
use Rattle.xml_framer.specs.States.{State, Turn, turn}
use Rattle.xml_framer.specs.declared.items.Item.{Item}
use Rattle.net_pipes.specs.Pipes.{Pipe, closed, emptied, empty_pipe, entered, handed, is_end_due, with_end_reported}
use Rattle.law_xml.specs.Carries.{Carries, GivesAll, GivesFirst, KeepsFirst, held}
use Rattle.law_xml.specs.Items.{AreItems, AreWhole, IsRest, no_more}
use Rattle.law_xml.proofs.JoinedRuns.{NoItems, items_join, may_be_lost, no_items}
use Rattle.law_xml.proofs.RestRuns.{rest_gives_none, rest_no_fault}
use Rattle.law_xml.proofs.SplitRuns.{split}

-- ---- what enters

pub fresh : (s : State) → s.fault ≡ None → Carries s [] empty_pipe [] s
fresh s none = record { no_fault = none; none_given = refl; are_items = no_more false s [] [] s refl refl refl }

pub enters : (s : State) (part : List ℕ) (p : Pipe) (items : List Item) (t : State) (bytes : List ℕ) (more : List Item) (u : State) → Carries s part p items t → p.ended ≡ false → AreWhole t bytes more u
    → Carries s part (entered bytes p) (items ++ more) u
enters s part p items t bytes more u c open_still h =
    let added = record p { bytes = p.bytes ++ bytes; put = (entered bytes (record p { ended = false })).put } in
    let is : entered bytes p ≡ added = cond-false p.ended p added open_still in
    let all = items_join false s (part ++ p.bytes) items t bytes more u (subst (λ b. AreItems b s (part ++ p.bytes) items t) open_still c.are_items) h in
    subst (λ q. Carries s part q (items ++ more) u) (sym is)
    (record {
      no_fault = c.no_fault;
      none_given = c.none_given;
      are_items = subst (λ l. AreItems p.ended s l (items ++ more) u) (append_assoc part p.bytes bytes) (subst (λ b. AreItems b s ((part ++ p.bytes) ++ bytes) (items ++ more) u) (sym open_still) all);
    })

pub enters_not : (s : State) (part : List ℕ) (p : Pipe) (items : List Item) (t : State) (bytes : List ℕ) → Carries s part p items t → p.ended ≡ true → Carries s part (entered bytes p) items t
enters_not s part p items t bytes c over =
    let added = record p { bytes = p.bytes ++ bytes; put = (entered bytes (record p { ended = false })).put } in
    let is : entered bytes p ≡ p = cond-true p.ended p added over in
    subst (λ q. Carries s part q items t) (sym is) c

-- ---- what is handed over

-- a framer that took a part which gave nothing goes on
goes_on : (s now : State) (part bytes hand : List ℕ) (first : List Item) → (run (turn s []) part).items ≡ [] → run (turn s []) (part ++ bytes) ≡ turn (held now hand) first
    → run (turn (held s part) []) bytes ≡ turn (held now hand) first
goes_on s now part bytes hand first none all =
    let taken : run (turn s []) part ≡ turn (held s part) [] = ap (λ l. turn (held s part) l) none in
    ap (λ u. run u bytes) (sym taken) ∙ sym (run_append (turn s []) part bytes) ∙ all

whatever_was_said : (s now : State) (bytes : List ℕ) (first said : List Item) → run (turn s []) bytes ≡ turn now first → run (turn s said) bytes ≡ turn now (said ++ first)
whatever_was_said s now bytes first said e = given_before s said bytes ∙ ap (λ (u : Turn). turn u.state (said ++ u.items)) e

in_hand : (s now : State) (done hand : List ℕ) (first : List Item) → run (turn s []) done ≡ turn now first → IsRest true now hand → run (turn s []) (done ++ hand) ≡ turn (held now hand) first
in_hand s now done hand first e r =
    run_append (turn s []) done hand ∙ ap (λ u. run u hand) e ∙ given_before now first hand ∙ ap (λ l. turn (held now hand) (first ++ l)) (rest_gives_none now hand r) ∙ ap (turn (held now hand)) (append-nil first)

pub hands : (s : State) (part : List ℕ) (p : Pipe) (items : List Item) (t : State) (n : ℕ) → Carries s part p items t → GivesFirst s part p items t n
hands s part p items t n c =
    let h = split p.ended s (part ++ p.bytes) items t (length part + n) c.no_fault c.are_items in
    let front : take (length part + n) (part ++ p.bytes) ≡ part ++ take n p.bytes = take-append-add part p.bytes n in
    let back : drop (length part + n) (part ++ p.bytes) ≡ drop n p.bytes = drop-append-add part p.bytes n in
    let all : run (turn s []) (part ++ take n p.bytes) ≡ turn (held h.now h.hand) h.first = ap (run (turn s [])) (sym front ∙ h.bytes_are) ∙ in_hand s h.now h.done h.hand h.first h.run_is h.hand_is in
    record {
      first = h.first;
      others = h.others;
      now = h.now;
      kept = h.hand;
      items_are = h.items_are;
      run_is = λ said. whatever_was_said (held s part) (held h.now h.hand) (take n p.bytes) h.first said (goes_on s h.now part (take n p.bytes) h.hand h.first c.none_given all);
      no_fault = rest_no_fault h.now h.hand h.no_fault h.hand_is;
      left = record { no_fault = h.no_fault; none_given = rest_gives_none h.now h.hand h.hand_is; are_items = subst (λ l. AreItems p.ended h.now (h.hand ++ l) h.others t) back h.left };
    }

-- ---- what is lost

pub cuts : (s : State) (part : List ℕ) (p : Pipe) (items : List Item) (t : State) (n : ℕ) → Carries s part p items t → KeepsFirst s part p items n
cuts s part p items t n c =
    let h = split p.ended s (part ++ p.bytes) items t (length part + n) c.no_fault c.are_items in
    record {
      first = h.first;
      others = h.others;
      now = h.now;
      items_are = h.items_are;
      left = record { no_fault = c.no_fault; none_given = c.none_given; are_items = subst (λ l. AreItems true s l h.first h.now) (take-append-add part p.bytes n) h.stay };
    }

-- without bytes in the pipe the part is all
part_alone : (lost : Bool) (s : State) (part bytes : List ℕ) (items : List Item) (t : State) → (run (turn s []) part).items ≡ [] → bytes ≡ [] → AreItems lost s (part ++ bytes) items t → NoItems lost s part items t
part_alone lost s part bytes items t none no_bytes h =
    no_items lost s part items t (subst (λ l. AreItems lost s l items t) (ap (λ l. part ++ l) no_bytes ∙ append-nil part) h) none

pub part_is_rest : (s : State) (part : List ℕ) (p : Pipe) (items : List Item) (t : State) → Carries s part p items t → IsRest true s part
part_is_rest s part p items t c =
    let k = cuts s part p items t 0 c in
    (part_alone true s part [] k.first k.now c.none_given refl k.left.are_items).rest

pub empties : (s : State) (part : List ℕ) (p : Pipe) (items : List Item) (t : State) → Carries s part p items t → Carries s part (emptied p) [] s
empties s part p items t c =
    record {
      no_fault = c.no_fault;
      none_given = c.none_given;
      are_items = no_more true s (part ++ []) [] s (subst (IsRest true s) (sym (append-nil part)) (part_is_rest s part p items t c)) refl refl;
    }

-- ---- ends

pub closes : (s : State) (part : List ℕ) (p : Pipe) (items : List Item) (t : State) → Carries s part p items t → Carries s part (closed p) items t
closes s part p items t c = record { no_fault = c.no_fault; none_given = c.none_given; are_items = may_be_lost p.ended s (part ++ p.bytes) items t c.are_items }

pub end_told : (s : State) (part : List ℕ) (p : Pipe) (items : List Item) (t : State) → Carries s part p items t → Carries s part (with_end_reported p) items t
end_told s part p items t c = record { no_fault = c.no_fault; none_given = c.none_given; are_items = c.are_items }

pub without_bytes : (s : State) (part : List ℕ) (p : Pipe) (items : List Item) (t : State) → Carries s part p items t → p.bytes ≡ [] → (items ≡ []) × (t ≡ s) × IsRest p.ended s part
without_bytes s part p items t c none =
    let h = part_alone p.ended s part p.bytes items t c.none_given none c.are_items in
    (h.none, h.same, h.rest)

pub open_without_bytes : (s : State) (part : List ℕ) (p : Pipe) (items : List Item) (t : State) → Carries s part p items t → p.ended ≡ false → p.bytes ≡ []
    → (items ≡ []) × (part ≡ []) × (t ≡ s) × (held s part ≡ s)
open_without_bytes s part p items t c open_still none =
    let h = part_alone p.ended s part p.bytes items t c.none_given none c.are_items in
    let no_part : part ≡ [] = subst (λ b. IsRest b s part) open_still h.rest in
    (h.none, no_part, h.same, ap (held s) no_part)

no_bytes_due : (bytes : List ℕ) (ended told : Bool) → (length bytes == 0 && ended && not told) ≡ true → bytes ≡ []
no_bytes_due bytes ended told e =
    let none : length bytes ≡ 0 = grind (arith, nat_tests, and_parts) in
    nil_from_length bytes none

pub due_means_none : (s : State) (part : List ℕ) (p : Pipe) (items : List Item) (t : State) → Carries s part p items t → is_end_due p ≡ true → items ≡ []
due_means_none s part p items t c due = (without_bytes s part p items t c (no_bytes_due p.bytes p.ended p.told due)).0

-- ---- all bytes

pub gives_all : (s : State) (part : List ℕ) (p : Pipe) (items : List Item) (t : State) → Carries s part p items t → GivesAll s part p items t
gives_all s part p items t c =
    let n = length p.bytes in
    let h = hands s part p items t n c in
    let left = without_bytes h.now h.kept (handed n p) h.others t h.left (drop-length p.bytes) in
    let all : h.first ≡ items = sym (h.items_are ∙ ap (λ l. h.first ++ l) left.0 ∙ append-nil h.first) in
    record {
      kept = h.kept;
      run_is = λ said.
          ap (run (turn (held s part) said)) (sym (take-length p.bytes)) ∙ h.run_is said ∙ ap (λ x. turn (held x h.kept) (said ++ h.first)) (sym left.1) ∙ ap (λ l. turn (held t h.kept) (said ++ l)) all;
      rest = subst (λ x. IsRest p.ended x h.kept) (sym left.1) left.2;
    }
