-- What is read is right, and the text says it.
use Rattle.std.proofs.Common.{◌≡◌, ℕ, ◌+◌, ◌≤◌, Bool, true, false, cond, eqb, List, [], ◌∷◌, ◌++◌, Option, Some, None, Result, Ok, Err, refl, sym, ap, subst, ◌∙◌, inl, inr, arith, codes}
use Rattle.std.specs.Prelude.{not, ◌&&◌, ◌⊎◌, IsTrue, nat_le}
use Rattle.std.specs.Fmt.{decimal}
use Rattle.std.specs.List.{AllByRecursion, list_all}
use Rattle.std.specs.Str.{bytes_eq, is_utf8}
use Rattle.std.proofs.lemmas.Bool.{and_parts, and_from, cases_Bool, eqb-true, le-leb}
use Rattle.std.proofs.lemmas.Slice.Eq.{bytes_eq-Decides}
use Rattle.im_jid.specs.Normal.{normal}
use Rattle.im_jid.specs.declared.fault.JidFault.{JidFault}
use Rattle.cmd_schedule.proofs.Numbers.{number_found}
use Rattle.cmd_schedule.specs.Grammar.{is_text}
use Rattle.cmd_schedule.specs.Reading.{Cut, Piece, cut_of, either, joined, last_field, next_field, not_empty, pieces_of, rest_field}
use Rattle.cmd_schedule.specs.declared.fault.LineWhy.{LineWhy}
use Rattle.cmd_sync.proofs.ReadFields.{bind_ok, gate, done, ok_is, chosen, with_rest, cut_back, next_is, last_is, line_is}
use Rattle.cmd_sync.specs.ScriptReading.{address_in, addressed, as_script, fields_after, read_below, read_catch_up, read_first, read_say, read_step, read_steps, read_user, read_words, script_reading, with_next, with_step}
use Rattle.cmd_sync.specs.Scripts.{IsScript, Says, ScriptView, SpellsAddress, SpellsStep, SpellsSteps, SpellsUser, is_account, is_field, is_line, is_password, is_resource, may_do, may_log_in}
use Rattle.cmd_sync.specs.declared.script_fault.ScriptFault.{ScriptFault}
use Rattle.cmd_sync.specs.declared.script_fault.ScriptFault.TheVariants.{BadLine}
use Rattle.cmd_sync.specs.declared.script.Step.{Step}
use Rattle.cmd_sync.specs.declared.script.Step.TheVariants.{Say, CatchUp}
use Rattle.cmd_sync.specs.declared.script.User.{User}
use Rattle.cmd_schedule.specs.Reading as lines
use Rattle.cmd_schedule.specs.declared.fault.LineWhy.TheVariants as why

-- ---- fields

kept : {A : Type 0} (b : Bool) (x y : A) (reason : LineWhy) → cond b (done x) (Err reason) ≡ Ok y → b ≡ true
kept true x y reason e = refl
kept false x y reason e = absurd cc

last_field_is : (fields : Option (List ℕ)) (field : List ℕ) → last_field fields ≡ Ok field → is_field field ≡ true
last_field_is None field e = absurd cc
last_field_is (Some bytes) field e =
    let holds = kept (is_field bytes) bytes field why.Shape e in
    ap is_field (sym (some_is bytes field (last_is (Some bytes) field e))) ∙ holds
  where
    some_is : (xs ys : List ℕ) → Some xs ≡ Some ys → xs ≡ ys
    some_is xs ys h = cc

-- what precedes the first space has none
front_whole : (bytes : List ℕ) → list_all (λ b. not (eqb b 32)) (cut_of bytes).front ≡ true
front_whole [] = refl
front_whole (b ∷ bytes) =
    elim (cases_Bool (eqb b 32)) [
      | inl e ↦ rw e refl
      | inr e ↦ rw (e, front_whole bytes) (rw e refl)
    ]

next_field_is : (fields : Option (List ℕ)) (cut : Cut) → next_field fields ≡ Ok cut → is_field cut.front ≡ true
next_field_is None cut e = absurd cc
next_field_is (Some bytes) cut e =
    let holds = kept (not_empty (cut_of bytes).front) (cut_of bytes) cut why.Shape e in
    let same : cut_of bytes ≡ cut = same_cut (not_empty (cut_of bytes).front) (cut_of bytes) cut e in
    ap (λ (c : Cut). is_field c.front) (sym same) ∙ and_from (not_empty (cut_of bytes).front) _ holds (front_whole bytes)
  where
    same_cut : (b : Bool) (x y : Cut) → cond b (done x) (Err why.Shape) ≡ Ok y → x ≡ y
    same_cut true x y h = ok_is x y h
    same_cut false x y h = absurd cc

rest_is : (fields : Option (List ℕ)) (field : List ℕ) → rest_field fields ≡ Ok field → fields ≡ Some field
rest_is None field e = absurd cc
rest_is (Some bytes) field e = ap (λ (xs : List ℕ). Some xs) (same (not_empty bytes) bytes field e)
  where
    same : (b : Bool) (x y : List ℕ) → cond b (done x) (Err why.Shape) ≡ Ok y → x ≡ y
    same true x y h = ok_is x y h
    same false x y h = absurd cc

addressed_is : (form : Result (List ℕ) JidFault) (address : List ℕ) → addressed form ≡ Ok address → form ≡ Ok address
addressed_is (Ok other) address e = ap Ok (ok_is other address e)
addressed_is (Err fault) address e = absurd cc

spells : (field : Cut) (fields : Option (List ℕ)) (address : List ℕ) → next_field fields ≡ Ok field → address_in field.front ≡ Ok address → SpellsAddress field.front address
spells field fields address read form = record { field = next_field_is fields field read; form = addressed_is (normal field.front) address form }

-- ---- one line

with_three : (word one two three : List ℕ) (fields rest last : Option (List ℕ)) → fields ≡ Some (with_rest one rest) → rest ≡ Some (with_rest two last) → last ≡ Some three
    → with_rest word fields ≡ word ++ 32 ∷ (one ++ 32 ∷ (two ++ 32 ∷ three))
with_three word one two three fields rest last is after following = rw (is, after, following) refl

with_two : (word one two : List ℕ) (fields rest : Option (List ℕ)) → fields ≡ Some (with_rest one rest) → rest ≡ Some two → with_rest word fields ≡ word ++ 32 ∷ (one ++ 32 ∷ two)
with_two word one two fields rest is after = rw (is, after) refl

with_one : (word one : List ℕ) (fields : Option (List ℕ)) → fields ≡ Some one → with_rest word fields ≡ word ++ 32 ∷ one
with_one word one fields is = rw is refl

abbrev is_one_line : List ℕ → Bool
is_one_line line = list_all (λ b. not (eqb b 10)) line

record IsUser (piece : Piece) (user : User) : Type 0 where
  ended : piece.ended ≡ true
  may : may_log_in user ≡ true
  spells : SpellsUser user piece.bytes

user_found : (piece : Piece) (user : User) → is_one_line piece.bytes ≡ true → read_user piece ≡ Ok user → IsUser piece user
unfolding read_user
user_found piece user one e =
    let a = bind_ok (fields_after (codes "account") piece) _ user e in
    let f = bind_ok (next_field a.0) _ user a.2 in
    let p = bind_ok (next_field f.0.rest) _ user f.2 in
    let r = bind_ok (last_field p.0.rest) _ user p.2 in
    let n = bind_ok (address_in f.0.front) _ user r.2 in
    let b = gate (is_account n.0) why.Name _ user n.2 in
    let w = gate (is_password p.0.front) why.Text _ user b.1 in
    let m = gate (is_resource r.0) why.Name _ user w.1 in
    let line = line_is (codes "account") piece a.0 a.1 in
    let text = with_three (codes "account") f.0.front p.0.front r.0 a.0 f.0.rest p.0.rest (next_is a.0 f.0 f.1) (next_is f.0.rest p.0 p.1) (last_is p.0.rest r.0 r.1) in
    subst (λ (u : User). IsUser piece u) (ok_is _ user m.1)
    (record {
      ended = line.ended;
      may = and_from _ _ (and_from _ _ b.0 w.0) m.0;
      spells = record {
        address = f.0.front;
        spelled = spells f.0 a.0 n.0 f.1 n.1;
        resource = last_field_is p.0.rest r.0 r.1;
        whole = line.whole ∙ text;
        line = and_from _ _ line.spelled one;
      };
    })

record IsStep (piece : Piece) (step : Step) : Type 0 where
  ended : piece.ended ≡ true
  may : may_do step ≡ true
  spells : SpellsStep step piece.bytes
  line : is_line piece.bytes ≡ true

record AreWords (words : Cut) (step : Step) : Type 0 where
  may : may_do step ≡ true
  spells : SpellsStep step (with_rest words.front words.rest)

say_found : (words : Cut) (step : Step) → words.front ≡ codes "say" → read_say words.rest ≡ Ok step → AreWords words step
unfolding read_say
say_found words step named e =
    let f = bind_ok (next_field words.rest) _ step e in
    let t = bind_ok (rest_field f.0.rest) _ step f.2 in
    let n = bind_ok (address_in f.0.front) _ step t.2 in
    let g = gate (is_text t.0) why.Text _ step n.2 in
    let text = with_two words.front f.0.front t.0 words.rest f.0.rest (next_is words.rest f.0 f.1) (rest_is f.0.rest t.0 t.1) in
    subst (λ (s : Step). AreWords words s) (ok_is _ step g.1)
    (record {
      may = g.0;
      spells = (f.0.front, spells f.0 words.rest n.0 f.1 n.1, text ∙ ap (λ (w : List ℕ). w ++ 32 ∷ (f.0.front ++ 32 ∷ t.0)) named);
    })

catch_up_found : (words : Cut) (step : Step) → words.front ≡ codes "catchup" → read_catch_up words.rest ≡ Ok step → AreWords words step
unfolding read_catch_up
catch_up_found words step named e =
    let f = bind_ok (last_field words.rest) _ step e in
    let m = bind_ok (lines.number_within 1 100 f.0) _ step f.2 in
    let n = number_found 1 100 f.0 m.0 (omega arith) m.1 in
    let text = with_one words.front f.0 words.rest (last_is words.rest f.0 f.1) in
    subst (λ (s : Step). AreWords words s) (ok_is _ step m.2)
    (record {
      may = and_from (nat_le 1 m.0) _ (le-leb 1 m.0 n.0) (le-leb m.0 100 n.1);
      spells = text ∙ ap (λ (w : List ℕ). w ++ 32 ∷ f.0) named ∙ ap (λ (d : List ℕ). codes "catchup " ++ d) n.2;
    })

abbrev failed : LineWhy → Result Step LineWhy
failed reason = Err reason

words_found : (words : Cut) (step : Step) → read_words words ≡ Ok step → AreWords words step
unfolding read_words
words_found words step e =
    elim (chosen (bytes_eq words.front (codes "say")) (read_say words.rest) _ step e) [
      | inl says ↦ say_found words step ((bytes_eq-Decides words.front (codes "say")).0 says.0) says.1
      | inr other ↦ elim (chosen (bytes_eq words.front (codes "catchup")) (read_catch_up words.rest) _ step other.1) [
        | inl catches ↦ catch_up_found words step ((bytes_eq-Decides words.front (codes "catchup")).0 catches.0) catches.1
        | inr none ↦ absurd (not_ok why.Word step none.1)
      ]
    ]
  where
    not_ok : (reason : LineWhy) (s : Step) → failed reason ≡ done s → ⊥
    not_ok reason s h = cc

step_found : (piece : Piece) (step : Step) → is_one_line piece.bytes ≡ true → read_step piece ≡ Ok step → IsStep piece step
unfolding read_step
step_found piece step one e =
    let a = gate (piece.ended && is_utf8 piece.bytes) why.Ending _ step e in
    let parts = and_parts piece.ended (is_utf8 piece.bytes) a.0 in
    let words = words_found (cut_of piece.bytes) step a.1 in
    record {
      ended = parts.0;
      may = words.may;
      spells = subst (λ (line : List ℕ). SpellsStep step line) (cut_back piece.bytes) words.spells;
      line = and_from _ _ parts.1 one;
    }

-- ---- lines and their text

abbrev pub text_of_piece : Piece → List ℕ → List ℕ
text_of_piece piece rest = piece.bytes ++ cond piece.ended (10 ∷ rest) rest

abbrev pub text_of_pieces : List Piece → List ℕ
text_of_pieces [] = []
text_of_pieces (piece ∷ pieces) = text_of_piece piece (text_of_pieces pieces)

joined_back : (b : ℕ) (pieces : List Piece) → text_of_pieces (joined b pieces) ≡ b ∷ text_of_pieces pieces
joined_back b [] = refl
joined_back b (piece ∷ pieces) = refl

pieces_back : (text : List ℕ) → text_of_pieces (pieces_of text) ≡ text
pieces_back [] = refl
pieces_back (b ∷ bs) =
    elim (cases_Bool (eqb b 10)) [
      | inl e ↦ rw e (ap (λ (xs : List ℕ). 10 ∷ xs) (pieces_back bs) ∙ ap (λ (x : ℕ). x ∷ bs) (sym (eqb-true b 10 e)))
      | inr e ↦ rw e (joined_back b (pieces_of bs) ∙ ap (λ (xs : List ℕ). b ∷ xs) (pieces_back bs))
    ]

ended_text : (piece : Piece) (rest : List ℕ) → piece.ended ≡ true → text_of_piece piece rest ≡ piece.bytes ++ 10 ∷ rest
ended_text piece rest e = rw e refl

-- no line has an LF
abbrev AreOneLine : List Piece → Type 0
AreOneLine pieces = AllByRecursion (λ piece. is_one_line piece.bytes ≡ true) pieces

one_line-joined : (b : ℕ) (pieces : List Piece) → eqb b 10 ≡ false → AreOneLine pieces → AreOneLine (joined b pieces)
one_line-joined b [] other all = (rw other refl, tt)
one_line-joined b (piece ∷ pieces) other all = (rw other all.0, all.1)

one_line-pieces : (text : List ℕ) → AreOneLine (pieces_of text)
one_line-pieces [] = tt
one_line-pieces (b ∷ bs) =
    elim (cases_Bool (eqb b 10)) [
      | inl e ↦ rw e (refl, one_line-pieces bs)
      | inr e ↦ rw e (one_line-joined b (pieces_of bs) e (one_line-pieces bs))
    ]

-- ---- all lines

either_ok : {A B : Type 0} (r : Result A LineWhy) (f : A → Result B ScriptFault) (n : ℕ) (y : B) → either f (λ reason. Err (BadLine n reason)) r ≡ Ok y → (x : A) × (r ≡ Ok x) × (f x ≡ Ok y)
either_ok (Ok x) f n y e = (x, refl, e)
either_ok (Err reason) f n y e = absurd cc

record AreSteps (steps : List Step) (pieces : List Piece) : Type 0 where
  may : list_all may_do steps ≡ true
  spells : SpellsSteps steps (text_of_pieces pieces)

with_step_ok : (step : Step) (read : Result (List Step) ScriptFault) (all : List Step) → with_step step read ≡ Ok all → (rest : List Step) × (read ≡ Ok rest) × (step ∷ rest ≡ all)
with_step_ok step (Ok rest) all e = (rest, refl, cc)
with_step_ok step (Err d) all e = absurd cc

abbrev got : List Step → Result (List Step) ScriptFault
got x = Ok x

got_is : (x y : List Step) → got x ≡ got y → x ≡ y
got_is x y h = cc

steps_found : (n : ℕ) (pieces : List Piece) (steps : List Step) → AreOneLine pieces → read_steps n pieces ≡ Ok steps → AreSteps steps pieces
steps_found n [] steps one e = subst (λ (all : List Step). AreSteps all []) (got_is [] steps e) (record { may = refl; spells = refl })
steps_found n (piece ∷ pieces) steps one e =
    let a = either_ok (read_step piece) _ n steps e in
    let b = with_step_ok a.0 (read_steps (n + 1) pieces) steps a.2 in
    let step = step_found piece a.0 one.0 a.1 in
    let others = steps_found (n + 1) pieces b.0 one.1 b.1 in
    subst (λ (all : List Step). AreSteps all (piece ∷ pieces)) b.2
    (record {
      may = and_from (may_do a.0) _ step.may others.may;
      spells = (piece.bytes, text_of_pieces pieces, step.spells, step.line, ended_text piece (text_of_pieces pieces) step.ended, others.spells);
    })

-- a line was read, and the lines behind it are left
record HasNext {A : Type 0} (read : Piece → Result A LineWhy) (pieces : List Piece) (y : A × List Piece) : Type 0 where
  piece : Piece
  whole : pieces ≡ piece ∷ y.1
  told : read piece ≡ Ok y.0

either_next : {A : Type 0} (r : Result A LineWhy) (pieces : List Piece) (y : A × List Piece) → either (λ x. done (x, pieces)) (λ reason. Err reason) r ≡ Ok y → (r ≡ Ok y.0) × (pieces ≡ y.1)
either_next {A} (Ok x) pieces y e =
    let same : (x, pieces) ≡ y = ok_is (x, pieces) y e in
    (ap (λ (p : A × List Piece). done p.0) same, ap (λ (p : A × List Piece). p.1) same)
either_next (Err reason) pieces y e = absurd cc

next_ok : {A : Type 0} (read : Piece → Result A LineWhy) (missing : LineWhy) (pieces : List Piece) (y : A × List Piece) → with_next read missing pieces ≡ Ok y → HasNext read pieces y
next_ok read missing [] y e = absurd cc
next_ok read missing (piece ∷ pieces) y e =
    let both = either_next (read piece) pieces y e in
    record { piece = piece; whole = ap (λ (ps : List Piece). piece ∷ ps) both.1; told = both.0 }

as_script_ok : (user : User) (read : Result (List Step) ScriptFault) (script : ScriptView) → as_script user read ≡ Ok script → (read ≡ Ok script.steps) × (user ≡ script.user)
as_script_ok user (Ok steps) script e = (cc, cc)
as_script_ok user (Err d) script e = absurd cc

-- what the lines from line 2 on say
record IsBelow (pieces : List Piece) (script : ScriptView) : Type 0 where
  right : IsScript script
  line : List ℕ
  rest : List ℕ
  whole : text_of_pieces pieces ≡ line ++ 10 ∷ rest
  user : SpellsUser script.user line
  steps : SpellsSteps script.steps rest

below_found : (pieces : List Piece) (script : ScriptView) → AreOneLine pieces → read_below pieces ≡ Ok script → IsBelow pieces script
below_found pieces script one e =
    let a = either_ok (with_next read_user why.Word pieces) _ 2 script e in
    let next = next_ok read_user why.Word pieces a.0 a.1 in
    let all = subst AreOneLine next.whole one in
    let s = as_script_ok a.0.0 (read_steps 3 a.0.1) script a.2 in
    let user = subst (λ (u : User). IsUser next.piece u) s.1 (user_found next.piece a.0.0 all.0 next.told) in
    let steps = steps_found 3 a.0.1 script.steps all.1 s.0 in
    record {
      right = record { user = user.may; steps = steps.may };
      line = next.piece.bytes;
      rest = text_of_pieces a.0.1;
      whole = ap text_of_pieces next.whole ∙ ended_text next.piece (text_of_pieces a.0.1) user.ended;
      user = user.spells;
      steps = steps.spells;
    }

first_found : (piece : Piece) (told : Bool) → read_first piece ≡ Ok told → (piece.ended ≡ true) × (piece.bytes ≡ codes "xmpp-sync 1")
unfolding read_first
first_found piece told e =
    let a = gate (bytes_eq piece.bytes (codes "xmpp-sync 1")) why.Header _ told e in
    (held piece.ended a.1, (bytes_eq-Decides piece.bytes (codes "xmpp-sync 1")).0 a.0)
  where
    held : (b : Bool) → lines.wants b why.Ending ≡ Ok told → b ≡ true
    held true h = refl
    held false h = absurd cc

pub script_found : (text : List ℕ) (script : ScriptView) → script_reading text ≡ Ok script → Says text script
unfolding script_reading
script_found text script e =
    let a = either_ok (with_next read_first why.Header (pieces_of text)) _ 1 script e in
    let next = next_ok read_first why.Header (pieces_of text) a.0 a.1 in
    let all = subst AreOneLine next.whole (one_line-pieces text) in
    let first = first_found next.piece a.0.0 next.told in
    let below = below_found a.0.1 script all.1 a.2 in
    record {
      right = below.right;
      line = below.line;
      rest = below.rest;
      whole = sym (pieces_back text) ∙ ap text_of_pieces next.whole ∙ ended_text next.piece (text_of_pieces a.0.1) first.0
          ∙ ap (λ (bytes : List ℕ). bytes ++ 10 ∷ text_of_pieces a.0.1) first.1 ∙ ap (λ (rest : List ℕ). codes "xmpp-sync 1" ++ 10 ∷ rest) below.whole;
      user = below.user;
      steps = below.steps;
    }
