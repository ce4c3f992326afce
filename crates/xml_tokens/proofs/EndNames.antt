-- The name of an end tag, read with no regard to what other tags say.
use Rattle.std.proofs.Common.{◌≡◌, ℕ, Bool, true, false, cond, eqb, ◌&&◌, List, [], ◌∷◌, Option, Some, None, Result, Err, drop, refl, ap, sym, ◌∙◌, ⊎_elim}
use Rattle.std.proofs.lemmas.Bool.{cases_Bool, and_parts, false≢true}
use Rattle.std.specs.Option.{option_map, option_and_then, ok_or}
use Rattle.xml_tokens.specs.Tags.{Tag, start_tag, end_tag, Inside, is_end, is_qualified, is_qualified_byte, inside_of, are_distinct, names_of, start_with, start_at, end_at, tag_at, is_restricted, tag_of, end_name}
use Rattle.xml_tokens.specs.Fronts.{front, following}
use Rattle.xml_tokens.specs.declared.fault.TagWhy.{TagWhy}
use Rattle.xml_tokens.specs.declared.fault.TagWhy.TheVariants.{Restricted, NotWellFormed}

abbrev name_in : Option Tag → Option (List ℕ)
name_in o = end_name (ok_or o NotWellFormed)

unless : (b : Bool) (o : Option Tag) → name_in o ≡ None → name_in (cond b o None) ≡ None
unless true o h = h
unless false o h = refl

starts : (b : Bool) (name : List ℕ) (i : Inside) → name_in (cond b (Some (start_tag name i.attributes i.empty)) None) ≡ None
starts true name i = refl
starts false name i = refl

started : (name : List ℕ) (o : Option Inside) → name_in (option_and_then (start_with name) o) ≡ None
started name None = refl
started name (Some i) = starts (are_distinct (names_of i.attributes)) name i

start_has_none : (bs : List ℕ) → name_in (start_at bs) ≡ None
unfolding start_at
start_has_none bs = unless (is_qualified (front is_qualified_byte bs)) (option_and_then (start_with (front is_qualified_byte bs)) (inside_of (following is_qualified_byte bs))) (started (front is_qualified_byte bs) (inside_of (following is_qualified_byte bs)))

rest_false : (a b : Bool) → a ≡ true → (a && b) ≡ false → b ≡ false
rest_false true b e h = h
rest_false false b e h = absurd (false≢true e)

begun_has_none : (a b : ℕ) (bs : List ℕ) → is_end (a ∷ b ∷ bs) ≡ false → name_in (tag_at (a ∷ b ∷ bs)) ≡ None
begun_has_none a b bs h =
    ⊎_elim
    (λ (opens : eqb a 60 ≡ true).
    let other : eqb b 47 ≡ false = rest_false (eqb a 60) (eqb b 47) opens h in
    rw (opens, other) (start_has_none (b ∷ bs)))
    (λ (strange : eqb a 60 ≡ false). rw strange refl)
    (cases_Bool (eqb a 60))

other_has_none : (bytes : List ℕ) → is_end bytes ≡ false → name_in (tag_at bytes) ≡ None
other_has_none [] h = refl
other_has_none (a ∷ []) h = unless (eqb a 60) None refl
other_has_none (a ∷ b ∷ bs) h = begun_has_none a b bs h

told : (b : Bool) (r : Result Tag TagWhy) → end_name r ≡ None → end_name (cond b (Err Restricted) r) ≡ None
told true r h = refl
told false r h = h

pub others_have_none : (bytes : List ℕ) → is_end bytes ≡ false → None ≡ end_name (tag_of bytes)
unfolding tag_of
others_have_none bytes h = sym (told (is_restricted bytes) (ok_or (tag_at bytes) NotWellFormed) (other_has_none bytes h))

ends : (bytes : List ℕ) → is_end bytes ≡ true → end_name (tag_of bytes) ≡ name_in (end_at (drop 2 bytes))
unfolding tag_of
ends [] h = absurd (false≢true h)
ends (a ∷ []) h = absurd (false≢true h)
ends (a ∷ b ∷ bs) h = let parts = and_parts (eqb a 60) (eqb b 47) h in rw (parts.0, parts.1) refl

same_name : {R : Type 0} (now : R → List ℕ) (o : Option R) → option_map now o ≡ name_in (option_map (λ r. end_tag (now r)) o)
same_name now None = refl
same_name now (Some r) = refl

pub end_is_named : {R : Type 0} (now : R → List ℕ) (o : Option R) (bytes : List ℕ) → is_end bytes ≡ true → option_map (λ r. end_tag (now r)) o ≡ end_at (drop 2 bytes) → option_map now o ≡ end_name (tag_of bytes)
end_is_named now o bytes h e = same_name now o ∙ ap name_in e ∙ sym (ends bytes h)
