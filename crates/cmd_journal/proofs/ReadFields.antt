-- What a step of reading says of its field, where it did not fail.
use Rattle.std.proofs.Common.{◌≡◌, ℕ, Bool, true, false, cond, eqb, List, [], ◌∷◌, ◌++◌, Option, Some, None, Result, Ok, Err, refl, sym, ap, ◌∙◌, inl, inr}
use Rattle.std.specs.Prelude.{not, ◌&&◌, ◌⊎◌}
use Rattle.std.specs.List.{list_all}
use Rattle.std.specs.Str.{bytes_eq, is_utf8}
use Rattle.std.proofs.lemmas.Bool.{cases_Bool, and_parts, eqb-true}
use Rattle.std.proofs.lemmas.Slice.Eq.{bytes_eq-Decides}
use Rattle.cmd_journal.specs.LineReading.{fields_after}
use Rattle.cmd_schedule.specs.Reading.{Piece, Cut, ◌>>=◌, wants, cut_of, not_empty, next_field, last_field}
use Rattle.cmd_schedule.specs.declared.fault.LineWhy.{LineWhy}
use Rattle.cmd_schedule.specs.declared.fault.LineWhy.TheVariants as why
pub use Rattle.cmd_schedule.proofs.Found.{last_is}

pub bind_ok : {A B : Type 0} (r : Result A LineWhy) (f : A → Result B LineWhy) (y : B) → (r >>= f) ≡ Ok y → (x : A) × (r ≡ Ok x) × (f x ≡ Ok y)
bind_ok (Ok x) f y e = (x, refl, e)
bind_ok (Err d) f y e = absurd cc

pub gate : {B : Type 0} (holds : Bool) (reason : LineWhy) (r : Result B LineWhy) (y : B) → (wants holds reason >>= λ _. r) ≡ Ok y → (holds ≡ true) × (r ≡ Ok y)
gate true reason r y e = (refl, e)
gate false reason r y e = absurd cc

abbrev pub done : {A : Type 0} → A → Result A LineWhy
done x = Ok x

pub ok_is : {A : Type 0} (x y : A) → done x ≡ done y → x ≡ y
ok_is x y e = cc

kept : {A : Type 0} (b : Bool) (x y : A) (reason : LineWhy) → cond b (done x) (Err reason) ≡ Ok y → (b ≡ true) × (x ≡ y)
kept true x y reason e = (refl, cc)
kept false x y reason e = absurd cc

pub chosen : {A : Type 0} (b : Bool) (x y : Result A LineWhy) (z : A) → cond b x y ≡ Ok z → ((b ≡ true) × (x ≡ Ok z)) ⊎ ((b ≡ false) × (y ≡ Ok z))
chosen true x y z e = inl (refl, e)
chosen false x y z e = inr (refl, e)

-- ---- fields

-- a field, and what follows it behind a space
abbrev pub with_rest : List ℕ → Option (List ℕ) → List ℕ
with_rest front None = front
with_rest front (Some rest) = front ++ 32 ∷ rest

at_rest : (b : ℕ) (front : List ℕ) (rest : Option (List ℕ)) → with_rest (b ∷ front) rest ≡ b ∷ with_rest front rest
at_rest b front None = refl
at_rest b front (Some rest) = refl

pub cut_back : (bytes : List ℕ) → with_rest (cut_of bytes).front (cut_of bytes).rest ≡ bytes
cut_back [] = refl
cut_back (b ∷ bytes) =
    elim (cases_Bool (eqb b 32)) [
      | inl e ↦ rw e (ap (λ (x : ℕ). x ∷ bytes) (sym (eqb-true b 32 e)))
      | inr e ↦ rw e (at_rest b (cut_of bytes).front (cut_of bytes).rest ∙ ap (λ (xs : List ℕ). b ∷ xs) (cut_back bytes))
    ]

pub next_is : (fields : Option (List ℕ)) (cut : Cut) → next_field fields ≡ Ok cut → fields ≡ Some (with_rest cut.front cut.rest)
next_is None cut e = absurd cc
next_is (Some bytes) cut e =
    let k = kept (not_empty (cut_of bytes).front) (cut_of bytes) cut why.Shape e in
    ap (λ (xs : List ℕ). Some xs) (sym (ap (λ (c : Cut). with_rest c.front c.rest) (sym k.1) ∙ cut_back bytes))

pub last_some : (fields : Option (List ℕ)) (field : List ℕ) → last_field fields ≡ Ok field → not_empty field ≡ true
last_some None field e = absurd cc
last_some (Some bytes) field e =
    let k = kept (not_empty bytes && list_all (λ b. not (eqb b 32)) bytes) bytes field why.Shape e in
    ap not_empty (sym k.1) ∙ (and_parts (not_empty bytes) _ k.0).0

-- a line of this word and these fields
pub record IsLine (word : List ℕ) (piece : Piece) (fields : Option (List ℕ)) : Type 0 where
  pub ended : piece.ended ≡ true
  pub spelled : is_utf8 piece.bytes ≡ true
  pub whole : piece.bytes ≡ with_rest word fields

pub line_is : (word : List ℕ) (piece : Piece) (fields : Option (List ℕ)) → fields_after word piece ≡ Ok fields → IsLine word piece fields
unfolding fields_after
line_is word piece fields e =
    let a = gate (piece.ended && is_utf8 piece.bytes) why.Ending _ fields e in
    let b = gate (bytes_eq (cut_of piece.bytes).front word) why.Word _ fields a.1 in
    let parts = and_parts piece.ended (is_utf8 piece.bytes) a.0 in
    let same : (cut_of piece.bytes).front ≡ word = (bytes_eq-Decides (cut_of piece.bytes).front word).0 b.0 in
    let rest : (cut_of piece.bytes).rest ≡ fields = ok_is (cut_of piece.bytes).rest fields b.1 in
    record { ended = parts.0; spelled = parts.1; whole = sym (cut_back piece.bytes) ∙ cc (same, rest) }
