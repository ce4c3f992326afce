-- What a byte of character data or of a CDATA section changes (XML 1.0, sections 2.4, 2.7 and 2.11).
use Rattle.std.proofs.Common.{◌≡◌, ◌≢◌, ℕ, ◌^◌, ◌<◌, ◌≤◌, ◌⊎◌, inl, inr, ⊎_elim, Bool, true, false, cond, eqb, ◌&&◌, List, [], ◌∷◌, ◌++◌, Option, Some, None, unwrap_or, refl, sym, ap, subst, ◌∙◌, arith, append_assoc}
use Rattle.std.proofs.lemmas.Bool.{cases_Bool, and_right, eqb-true, false_from_ne_true, or_parts}
use Rattle.xml_tokens.specs.Characters.{are_characters_after}
use Rattle.xml_tokens.specs.Utf8.{ended_character, ends_character, is_nothing, utf8_next}
use Rattle.law_xml.proofs.ByteSteps.{Kept, kept_one, one_more_low}
use Rattle.law_xml.proofs.HeldBytes.{Follows, allowed, ends_within, first_allowed, follows_more, grown, grown_high, high}
use Rattle.xml_framer.specs.Machine.{passed}
use Rattle.xml_framer.specs.States.{OpenElement, State, counted}
use Rattle.xml_tokens.specs.Lines.{line_ends_after}
use Rattle.xml_framer.specs.TextSteps.{brackets_after, character_taken, ends_section, is_forbidden}
use Rattle.xml_framer.specs.declared.states.Mode.{Mode}

-- ---- a byte that is high, and what only a byte of ASCII does

none_or_some : (held : List ℕ) → (held ≡ []) ⊎ (held ≢ [])
none_or_some [] = inl refl
none_or_some (x ∷ xs) = inr (λ e. cc)

not_low : (b n : ℕ) → 128 ≤ b → n < 128 → eqb b n ≡ false
not_low b n above below = false_from_ne_true (eqb b n) (λ e. let same = eqb-true b n e in omega (arith, above, below, same))

-- behind no part of a character, or with a byte that is none of ASCII
by_byte : (P : Type 0) (held next : List ℕ) (b : ℕ) → utf8_next held b ≡ Some next → (held ≡ [] → P) → (128 ≤ b → P) → P
by_byte P held next b e first more = ⊎_elim first (λ begun. more (high held next b begun e)) (none_or_some held)

pub brackets_same : (held next : List ℕ) (b m n : ℕ) → utf8_next held b ≡ Some next → (held ≡ [] → m ≡ n) → brackets_after m b ≡ brackets_after n b
brackets_same held next b m n e same =
    by_byte (brackets_after m b ≡ brackets_after n b) held next b e (λ none. ap (λ k. brackets_after k b) (same none)) (λ above. rw (not_low b 93 above (omega arith)) refl)

pub end_same : (held next : List ℕ) (b m n : ℕ) → utf8_next held b ≡ Some next → (held ≡ [] → m ≡ n) → (eqb n 2 && eqb b 62) ≡ false → (eqb m 2 && eqb b 62) ≡ false
end_same held next b m n e same h =
    by_byte ((eqb m 2 && eqb b 62) ≡ false) held next b e (λ none. ap (λ k. eqb k 2 && eqb b 62) (same none) ∙ h) (λ above. and_right (eqb m 2) (eqb b 62) (not_low b 62 above (omega arith)))

-- ---- line ends

-- what a byte that ends a character says, where a carriage return stands before it or not
abbrev pub says : Bool → List ℕ → ℕ → List ℕ
says q held b = cond (q && eqb b 10) [] (cond (eqb b 13) (10 ∷ []) (ended_character held b))

ended : (held : List ℕ) (b : ℕ) → utf8_next held b ≡ Some [] → ended_character held b ≡ held ++ b ∷ []
ended held b e = rw e refl

-- a byte that is no line end
other_says : (q r : Bool) (held : List ℕ) (b : ℕ) (bs : List ℕ) → utf8_next held b ≡ Some [] → eqb b 13 ≡ false → (q && eqb b 10) ≡ false → (r && eqb b 10) ≡ false
    → says q held b ++ line_ends_after (eqb b 13) bs ≡ held ++ line_ends_after r (b ∷ bs)
other_says q r held b bs e n13 q10 r10 =
    let left : says q held b ≡ held ++ b ∷ [] = rw (q10, n13) (ended held b e) in
    let right : line_ends_after r (b ∷ bs) ≡ b ∷ line_ends_after false bs = rw (n13, r10) refl in
    rw (left, right, n13) (append_assoc held (b ∷ []) (line_ends_after false bs))

return_says : (r : Bool) (bs : List ℕ) → says r [] 13 ++ line_ends_after true bs ≡ line_ends_after r (13 ∷ bs)
return_says true bs = refl
return_says false bs = refl

feed_says : (r : Bool) (b : ℕ) (bs : List ℕ) → eqb b 13 ≡ false → (r && eqb b 10) ≡ true → says r [] b ++ line_ends_after (eqb b 13) bs ≡ line_ends_after r (b ∷ bs)
feed_says r b bs n13 h = rw (h, n13) refl

alone_says : (r : Bool) (b : ℕ) (bs : List ℕ) → utf8_next [] b ≡ Some [] → says r [] b ++ line_ends_after (eqb b 13) bs ≡ line_ends_after r (b ∷ bs)
alone_says r b bs e =
    ⊎_elim
    (λ (is : eqb b 13 ≡ true). subst (λ x. says r [] x ++ line_ends_after (eqb x 13) bs ≡ line_ends_after r (x ∷ bs)) (sym (eqb-true b 13 is)) (return_says r bs))
    (λ (n13 : eqb b 13 ≡ false). ⊎_elim (λ (feed : (r && eqb b 10) ≡ true). feed_says r b bs n13 feed) (λ (n10 : (r && eqb b 10) ≡ false). other_says r r [] b bs e n13 n10 n10) (cases_Bool (r && eqb b 10)))
    (cases_Bool (eqb b 13))

-- a byte that ends a character: what it says, and what those behind it say
pub ending_says : (q r : Bool) (held : List ℕ) (b : ℕ) (bs : List ℕ) → utf8_next held b ≡ Some [] → (held ≡ [] → q ≡ r) → says q held b ++ line_ends_after (eqb b 13) bs ≡ held ++ line_ends_after r (b ∷ bs)
ending_says q r held b bs e same =
    by_byte (says q held b ++ line_ends_after (eqb b 13) bs ≡ held ++ line_ends_after r (b ∷ bs)) held [] b e
    (λ none. subst (λ h. says q h b ++ line_ends_after (eqb b 13) bs ≡ h ++ line_ends_after r (b ∷ bs)) (sym none)
    (subst (λ p. says p [] b ++ line_ends_after (eqb b 13) bs ≡ line_ends_after r (b ∷ bs)) (sym (same none)) (alone_says r b bs (subst (λ h. utf8_next h b ≡ Some []) none e))))
    (λ above. let n10 = not_low b 10 above (omega arith) in other_says q r held b bs e (not_low b 13 above (omega arith)) (and_right q (eqb b 10) n10) (and_right r (eqb b 10) n10))

-- a byte that doesn't end its character
pub going_says : (r : Bool) (held : List ℕ) (b x : ℕ) (xs bs : List ℕ) → utf8_next held b ≡ Some (x ∷ xs) → (x ∷ xs) ++ line_ends_after (eqb b 13) bs ≡ held ++ line_ends_after r (b ∷ bs)
going_says r held b x xs bs e =
    let above = grown_high held b x xs e in
    let n13 = not_low b 13 above (omega arith) in
    let n10 = and_right r (eqb b 10) (not_low b 10 above (omega arith)) in
    let right : line_ends_after r (b ∷ bs) ≡ b ∷ line_ends_after false bs = rw (n13, n10) refl in
    ap (λ l. l ++ line_ends_after (eqb b 13) bs) (grown held b x xs e) ∙ ap (λ q. (held ++ b ∷ []) ++ line_ends_after q bs) n13
    ∙ append_assoc held (b ∷ []) (line_ends_after false bs) ∙ ap (λ l. held ++ l) (sym right)

-- ---- reading

-- In a text or a section: the last bytes that were seen, how many `]` they end in, and whether they end in a carriage
-- return. While a character is in hand, what is kept of the last two is of the bytes before it.
pub record Reads (s : State) (m : Mode) (o : OpenElement) (a c n : ℕ) (r : Bool) : Type 0 where
  pub no_fault : s.fault ≡ None
  pub mode_is : s.lexical.mode ≡ m
  pub here : s.here ≡ Some o
  pub no_token : s.token ≡ []
  pub no_quote : s.lexical.quote ≡ None
  pub not_spoiled : s.lexical.spoiled ≡ false
  pub counted : s.positions.used < 2 ^ 64
  pub follows : Follows a c s.pending
  pub brackets : s.pending ≡ [] → s.lexical.brackets ≡ n
  pub returned : s.pending ≡ [] → s.lexical.returned ≡ r

-- behind a byte that doesn't end its character
pub reads_going : (s : State) (m : Mode) (o : OpenElement) (a c n b x : ℕ) (r : Bool) (xs : List ℕ) → Reads s m o a c n r → utf8_next s.pending b ≡ Some (x ∷ xs)
    → Reads (passed (counted s) b) m o c b (brackets_after n b) (eqb b 13)
reads_going s m o a c n b x r xs h e = record {
  no_fault = h.no_fault;
  mode_is = h.mode_is;
  here = h.here;
  no_token = h.no_token;
  no_quote = h.no_quote;
  not_spoiled = h.not_spoiled;
  counted = one_more_low s.positions.used;
  follows = rw e (subst (Follows c b) (sym (grown s.pending b x xs e)) (follows_more a c s.pending b h.follows));
  brackets = λ none. absurd (never none);
  returned = λ none. absurd (never none);
}
  where
    never : unwrap_or (utf8_next s.pending b) s.pending ≡ [] → ⊥
    never none = let same : x ∷ xs ≡ [] = ap (λ (o : Option (List ℕ)). unwrap_or o s.pending) (sym e) ∙ none in cc

pub going_kept : (s : State) (b : ℕ) → Kept s (passed (counted s) b) 1
going_kept s b = kept_one s (passed (counted s) b) (record { limits = refl; here = refl; below = refl; scopes = refl; name = refl; phase = refl; spent = refl }) refl refl

-- a byte that ends a character of XML's is allowed
pub bounded : (s : State) (m : Mode) (o : OpenElement) (a c n b : ℕ) (r : Bool) (bs : List ℕ) → Reads s m o a c n r → are_characters_after a c (b ∷ bs) ≡ true → is_forbidden s b ≡ false
bounded s m o a c n b r bs h e = allowed a c s.pending b h.follows (first_allowed a c b bs e).0

-- `]]>` doesn't end with it
pub no_end : (s : State) (m : Mode) (o : OpenElement) (a c n b : ℕ) (r : Bool) (bs next : List ℕ) → Reads s m o a c n r → utf8_next s.pending b ≡ Some next → ends_within n (b ∷ bs) ≡ false → ends_section s b ≡ false
no_end s m o a c n b r bs next h e none = end_same s.pending next b s.lexical.brackets n e h.brackets (or_parts (eqb n 2 && eqb b 62) (ends_within (brackets_after n b) bs) none).0

pub ends_it : (s : State) (b : ℕ) → utf8_next s.pending b ≡ Some [] → ends_character s.pending b ≡ true
ends_it s b e = ap is_nothing e

pub ends_none : (s : State) (b x : ℕ) (xs : List ℕ) → utf8_next s.pending b ≡ Some (x ∷ xs) → ends_character s.pending b ≡ false
ends_none s b x xs e = ap is_nothing e

-- ---- character data

-- behind a byte that ends a character
pub reads_character : (s : State) (m : Mode) (o : OpenElement) (a c n b : ℕ) (r : Bool) → Reads s m o a c n r → utf8_next s.pending b ≡ Some []
    → Reads (passed (character_taken (counted s) b) b) m o c b (brackets_after n b) (eqb b 13)
reads_character s m o a c n b r h e = record {
  no_fault = h.no_fault;
  mode_is = h.mode_is;
  here = h.here;
  no_token = h.no_token;
  no_quote = h.no_quote;
  not_spoiled = h.not_spoiled;
  counted = one_more_low s.positions.used;
  follows = rw e tt;
  brackets = λ none. brackets_same s.pending [] b s.lexical.brackets n e h.brackets;
  returned = λ none. refl;
}

pub character_kept : (s : State) (b : ℕ) → Kept s (passed (character_taken (counted s) b) b) 1
character_kept s b = kept_one s (passed (character_taken (counted s) b) b) (record { limits = refl; here = refl; below = refl; scopes = refl; name = refl; phase = refl; spent = refl }) refl refl
