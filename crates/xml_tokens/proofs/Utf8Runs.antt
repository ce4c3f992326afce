-- A byte at a time is UTF-8, both ways.
use Rattle.std.proofs.Common.{◌≡◌, ℕ, ◌+◌, ◌-◌, ◌*◌, ◌/◌, ◌%◌, ◌<◌, ◌≤◌, ◌⊎◌, inl, inr, ⊎_elim, Bool, true, false, ltb, List, [], ◌∷◌, ◌++◌, Option, Some, None, unwrap_or, refl, sym, subst, ◌∙◌, arith}
use Rattle.std.proofs.lemmas.Bool.{lt-ltb, le-ltb, le-leb, ltb-true, leb-true, cases_lt, cases_Bool, and_from, and_parts}
use Rattle.std.proofs.lemmas.Bool.Decides.{nat_tests}
use Rattle.std.proofs.lemmas.Str.{IsUtf8-append, IsUtf8-encode, IsUtf8-nil}
use Rattle.std.specs.Str.{IsUtf8}
use lib.Utf8.{scalar, scalars, encode, encodes, scalar_cases, low_scalar}
use Rattle.xml_tokens.specs.Utf8.{is_tail, is_lead, is_second, utf8_next, utf8_run, held_after, is_nothing, ends_character, IsPending}

-- what is_second says of its bounds
record Follows (x y : ℕ) : Type 0 where
  low : 128 ≤ y
  high : y ≤ 191
  at_224 : x ≡ 224 → 160 ≤ y
  at_237 : x ≡ 237 → y ≤ 159
  at_240 : x ≡ 240 → 144 ≤ y
  at_244 : x ≡ 244 → y ≤ 143

second_from : (x y : ℕ) → Follows x y → is_second x y ≡ true
second_from x y h = grind (arith, nat_tests, h.low, h.high, h.at_224, h.at_237, h.at_240, h.at_244)

second_tells : (x y : ℕ) → is_second x y ≡ true → Follows x y
second_tells x y h = record {
  low = grind (arith, nat_tests);
  high = grind (arith, nat_tests);
  at_224 = λ e. grind (arith, nat_tests);
  at_237 = λ e. grind (arith, nat_tests);
  at_240 = λ e. grind (arith, nat_tests);
  at_244 = λ e. grind (arith, nat_tests);
}

lead_from : (x : ℕ) → 194 ≤ x → x ≤ 244 → is_lead x ≡ true
lead_from x low high = and_from _ _ (le-leb 194 x low) (le-leb x 244 high)

lead_tells : (x : ℕ) → is_lead x ≡ true → (194 ≤ x) × (x ≤ 244)
lead_tells x h = let p = and_parts _ _ h in (leb-true 194 x p.0, leb-true x 244 p.1)

tail_from : (x : ℕ) → 128 ≤ x → x ≤ 191 → is_tail x ≡ true
tail_from x low high = and_from _ _ (le-leb 128 x low) (le-leb x 191 high)

tail_tells : (x : ℕ) → is_tail x ≡ true → (128 ≤ x) × (x ≤ 191)
tail_tells x h = let p = and_parts _ _ h in (leb-true 128 x p.0, leb-true x 191 p.1)

-- ---- a text runs

pub run_one : (x : ℕ) (rest : List ℕ) → x < 128 → utf8_run [] (x ∷ rest) ≡ utf8_run [] rest
unfolding utf8_next
run_one x rest h = rw (lt-ltb x 128 h) refl

run_lead : (x : ℕ) (rest : List ℕ) → is_lead x ≡ true → utf8_run [] (x ∷ rest) ≡ utf8_run (x ∷ []) rest
unfolding utf8_next
run_lead x rest h = let p = lead_tells x h in rw (le-ltb x 128 (omega arith), h) refl

run_two : (x y : ℕ) (rest : List ℕ) → x < 224 → is_second x y ≡ true → utf8_run (x ∷ []) (y ∷ rest) ≡ utf8_run [] rest
unfolding utf8_next
run_two x y rest low h = rw (h, lt-ltb x 224 low) refl

run_second : (x y : ℕ) (rest : List ℕ) → 224 ≤ x → is_second x y ≡ true → utf8_run (x ∷ []) (y ∷ rest) ≡ utf8_run (x ∷ y ∷ []) rest
unfolding utf8_next
run_second x y rest low h = rw (h, le-ltb x 224 low) refl

run_three : (x y z : ℕ) (rest : List ℕ) → x < 240 → is_tail z ≡ true → utf8_run (x ∷ y ∷ []) (z ∷ rest) ≡ utf8_run [] rest
unfolding utf8_next
run_three x y z rest low h = rw (h, lt-ltb x 240 low) refl

run_third : (x y z : ℕ) (rest : List ℕ) → 240 ≤ x → is_tail z ≡ true → utf8_run (x ∷ y ∷ []) (z ∷ rest) ≡ utf8_run (x ∷ y ∷ z ∷ []) rest
unfolding utf8_next
run_third x y z rest low h = rw (h, le-ltb x 240 low) refl

run_four : (x y z w : ℕ) (rest : List ℕ) → is_tail w ≡ true → utf8_run (x ∷ y ∷ z ∷ []) (w ∷ rest) ≡ utf8_run [] rest
unfolding utf8_next
run_four x y z w rest h = rw h refl

pair_runs : (c : ℕ) (rest : List ℕ) → 128 ≤ c → c < 2048 → utf8_run [] ((192 + c / 64) ∷ (128 + c % 64) ∷ rest) ≡ utf8_run [] rest
pair_runs c rest low high =
    let x = 192 + c / 64 in
    let y = 128 + c % 64 in
    run_lead x (y ∷ rest) (lead_from x (omega arith) (omega arith))
    ∙ run_two x y rest (omega arith) (second_from x y (record { low = omega arith; high = omega arith; at_224 = λ e. absurd (omega arith); at_237 = λ e. absurd (omega arith); at_240 = λ e. absurd (omega arith); at_244 = λ e. absurd (omega arith) }))

triple_runs : (c : ℕ) (rest : List ℕ) → 2048 ≤ c → c < 65536 → (c < 55296) ⊎ (57344 ≤ c) → utf8_run [] ((224 + c / 4096) ∷ (128 + c / 64 % 64) ∷ (128 + c % 64) ∷ rest) ≡ utf8_run [] rest
triple_runs c rest low high apart =
    let x = 224 + c / 4096 in
    let y = 128 + c / 64 % 64 in
    let z = 128 + c % 64 in
    run_lead x (y ∷ z ∷ rest) (lead_from x (omega arith) (omega arith))
    ∙ (run_second x y (z ∷ rest) (omega arith) (second_from x y (record {
      low = omega arith;
      high = omega arith;
      at_224 = λ e. omega arith;
      at_237 = λ e. ⊎_elim (λ below. omega arith) (λ above. omega arith) apart;
      at_240 = λ e. absurd (omega arith);
      at_244 = λ e. absurd (omega arith);
    }))
    ∙ run_three x y z rest (omega arith) (tail_from z (omega arith) (omega arith)))

four_run : (c : ℕ) (rest : List ℕ) → 65536 ≤ c → c < 1114112 → utf8_run [] ((240 + c / 262144) ∷ (128 + c / 4096 % 64) ∷ (128 + c / 64 % 64) ∷ (128 + c % 64) ∷ rest) ≡ utf8_run [] rest
four_run c rest low high =
    let x = 240 + c / 262144 in
    let y = 128 + c / 4096 % 64 in
    let z = 128 + c / 64 % 64 in
    let w = 128 + c % 64 in
    run_lead x (y ∷ z ∷ w ∷ rest) (lead_from x (omega arith) (omega arith))
    ∙ (run_second x y (z ∷ w ∷ rest) (omega arith) (second_from x y (record {
      low = omega arith;
      high = omega arith;
      at_224 = λ e. absurd (omega arith);
      at_237 = λ e. absurd (omega arith);
      at_240 = λ e. omega arith;
      at_244 = λ e. omega arith;
    }))
    ∙ (run_third x y z (w ∷ rest) (omega arith) (tail_from z (omega arith) (omega arith))
    ∙ run_four x y z w rest (tail_from w (omega arith) (omega arith))))

character_runs : (c : ℕ) (rest : List ℕ) → scalar c ≡ true → utf8_run [] (encode c ++ rest) ≡ utf8_run [] rest
unfolding encode
character_runs c rest h =
    let apart = scalar_cases c h in
    let top : c < 1114112 = ⊎_elim (λ below. omega arith) (λ above. above.1) apart in
    let clear : (c < 55296) ⊎ (57344 ≤ c) = ⊎_elim (λ below. inl below) (λ above. inr above.0) apart in
    ⊎_elim (λ small. rw (lt-ltb c 128 small) (run_one c rest small))
    (λ a. ⊎_elim (λ small. rw (le-ltb c 128 a, lt-ltb c 2048 small) (pair_runs c rest a small))
    (λ b. ⊎_elim (λ small. rw (le-ltb c 128 a, le-ltb c 2048 b, lt-ltb c 65536 small) (triple_runs c rest b small clear))
    (λ d. rw (le-ltb c 128 a, le-ltb c 2048 b, le-ltb c 65536 d) (four_run c rest d top))
    (cases_lt c 65536)) (cases_lt c 2048)) (cases_lt c 128)

characters_run : (cs : List ℕ) → scalars cs ≡ true → utf8_run [] (encodes cs) ≡ Some []
characters_run [] h = refl
characters_run (c ∷ cs) h = let p = and_parts _ _ h in character_runs c (encodes cs) p.0 ∙ characters_run cs p.1

pub text_runs : (bs : List ℕ) → IsUtf8 bs → utf8_run [] bs ≡ Some []
text_runs bs h = subst (λ xs. utf8_run [] xs ≡ Some []) h.1.1 (characters_run h.0 h.1.0)

-- ---- what runs is text

one_is : (x : ℕ) → x < 128 → IsUtf8 (x ∷ [])
unfolding encode
one_is x h = let e : encode x ≡ x ∷ [] = rw (lt-ltb x 128 h) refl in subst IsUtf8 e (IsUtf8-encode x (low_scalar x (omega arith)))

pair_at : (c x y : ℕ) → c + 12416 ≡ x * 64 + y → 194 ≤ x → x < 224 → 128 ≤ y → y ≤ 191 → IsUtf8 (x ∷ y ∷ [])
unfolding encode
pair_at c x y is low high from to =
    let first : 192 + c / 64 ≡ x = omega arith in
    let last : 128 + c % 64 ≡ y = omega arith in
    let e : encode c ≡ x ∷ y ∷ [] = rw (le-ltb c 128 (omega arith), lt-ltb c 2048 (omega arith)) cc in
    subst IsUtf8 e (IsUtf8-encode c (low_scalar c (omega arith)))

pair_is : (x y : ℕ) → 194 ≤ x → x < 224 → 128 ≤ y → y ≤ 191 → IsUtf8 (x ∷ y ∷ [])
pair_is x y low high from to = pair_at (x * 64 + y - 12416) x y (omega arith) low high from to

scalar_apart : (c : ℕ) → (c < 55296) ⊎ (57344 ≤ c) → c < 1114112 → scalar c ≡ true
scalar_apart c apart top = ⊎_elim (low_scalar c) (λ above. grind (arith, nat_tests)) apart

triple_at : (c x y z : ℕ) → c + 925824 ≡ x * 4096 + y * 64 + z → 224 ≤ x → x < 240 → Follows x y → 128 ≤ z → z ≤ 191 → IsUtf8 (x ∷ y ∷ z ∷ [])
unfolding encode
triple_at c x y z is low high h from to =
    let y_low = h.low in
    let y_high = h.high in
    let above : 2048 ≤ c = ⊎_elim (λ same. let at = h.at_224 same in omega arith) (λ other. omega arith) (one_or_more x low) in
    let first : 224 + c / 4096 ≡ x = omega arith in
    let second : 128 + c / 64 % 64 ≡ y = omega arith in
    let last : 128 + c % 64 ≡ z = omega arith in
    let e : encode c ≡ x ∷ y ∷ z ∷ [] = rw (le-ltb c 128 (omega arith), le-ltb c 2048 above, lt-ltb c 65536 (omega arith)) cc in
    subst IsUtf8 e (IsUtf8-encode c (scalar_apart c (apart_at c x y z is y_low y_high h.at_237 from to) (omega arith)))
  where
    one_or_more : (n : ℕ) → 224 ≤ n → (n ≡ 224) ⊎ (225 ≤ n)
    one_or_more n low = ⊎_elim (λ less. inl (omega arith)) (λ more. inr more) (cases_lt n 225)

    apart_at : (c x y z : ℕ) → c + 925824 ≡ x * 4096 + y * 64 + z → 128 ≤ y → y ≤ 191 → (x ≡ 237 → y ≤ 159) → 128 ≤ z → z ≤ 191 → (c < 55296) ⊎ (57344 ≤ c)
    apart_at c x y z is low high at_237 from to =
        ⊎_elim (λ less. inl (omega arith))
        (λ more. ⊎_elim (λ here. let at = at_237 (omega arith) in inl (omega arith)) (λ past. inr (omega arith)) (cases_lt x 238))
        (cases_lt x 237)

triple_is : (x y z : ℕ) → 224 ≤ x → x < 240 → Follows x y → 128 ≤ z → z ≤ 191 → IsUtf8 (x ∷ y ∷ z ∷ [])
triple_is x y z low high h from to = let y_low = h.low in triple_at (x * 4096 + y * 64 + z - 925824) x y z (omega arith) low high h from to

four_at : (c x y z w : ℕ) → c + 63447168 ≡ x * 262144 + y * 4096 + z * 64 + w → 240 ≤ x → x ≤ 244 → Follows x y → 128 ≤ z → z ≤ 191 → 128 ≤ w → w ≤ 191 → IsUtf8 (x ∷ y ∷ z ∷ w ∷ [])
unfolding encode
four_at c x y z w is low high h z_low z_high w_low w_high =
    let y_low = h.low in
    let y_high = h.high in
    let above : 65536 ≤ c = ⊎_elim (λ less. let at = h.at_240 (omega arith) in omega arith) (λ more. omega arith) (cases_lt x 241) in
    let below : c < 1114112 = ⊎_elim (λ less. omega arith) (λ more. let at = h.at_244 (omega arith) in omega arith) (cases_lt x 244) in
    let first : 240 + c / 262144 ≡ x = omega arith in
    let second : 128 + c / 4096 % 64 ≡ y = omega arith in
    let third : 128 + c / 64 % 64 ≡ z = omega arith in
    let last : 128 + c % 64 ≡ w = omega arith in
    let e : encode c ≡ x ∷ y ∷ z ∷ w ∷ [] = rw (le-ltb c 128 (omega arith), le-ltb c 2048 (omega arith), le-ltb c 65536 above) cc in
    subst IsUtf8 e (IsUtf8-encode c (scalar_apart c (inr (omega arith)) below))

four_is : (x y z w : ℕ) → 240 ≤ x → x ≤ 244 → Follows x y → 128 ≤ z → z ≤ 191 → 128 ≤ w → w ≤ 191 → IsUtf8 (x ∷ y ∷ z ∷ w ∷ [])
four_is x y z w low high h z_low z_high w_low w_high =
    let y_low = h.low in four_at (x * 262144 + y * 4096 + z * 64 + w - 63447168) x y z w (omega arith) low high h z_low z_high w_low w_high

-- where the test fails there is no next
no_next : (held bs : List ℕ) (b : ℕ) → utf8_next held b ≡ None → utf8_run held (b ∷ bs) ≡ Some [] → ⊥
no_next held bs b none e = let f = rw none at e in cc

pub runs_are_text : (held bs : List ℕ) → IsPending held → utf8_run held bs ≡ Some [] → IsUtf8 (held ++ bs)
unfolding utf8_next
runs_are_text [] [] p e = IsUtf8-nil
runs_are_text (x ∷ xs) [] p e = absurd cc
runs_are_text [] (b ∷ bs) p e =
    ⊎_elim (λ small. let h = ltb-true b 128 small in IsUtf8-append (b ∷ []) bs (one_is b h) (runs_are_text [] bs tt (sym (run_one b bs h) ∙ e)))
    (λ (large : ltb b 128 ≡ false). ⊎_elim (λ (lead : is_lead b ≡ true). runs_are_text (b ∷ []) bs lead (sym (run_lead b bs lead) ∙ e))
    (λ (other : is_lead b ≡ false). absurd (no_next [] bs b (rw (large, other) refl) e)) (cases_Bool (is_lead b)))
    (cases_Bool (ltb b 128))
runs_are_text (x ∷ []) (b ∷ bs) p e =
    let lead = lead_tells x p in
    ⊎_elim (λ yes. let f = second_tells x b yes in
    ⊎_elim (λ less. IsUtf8-append (x ∷ b ∷ []) bs (pair_is x b lead.0 less f.low f.high) (runs_are_text [] bs tt (sym (run_two x b bs less yes) ∙ e)))
    (λ more. runs_are_text (x ∷ b ∷ []) bs (more, p, yes) (sym (run_second x b bs more yes) ∙ e)) (cases_lt x 224))
    (λ (no : is_second x b ≡ false). absurd (no_next (x ∷ []) bs b (rw no refl) e)) (cases_Bool (is_second x b))
runs_are_text (x ∷ y ∷ []) (b ∷ bs) p e =
    let f = second_tells x y p.2 in
    ⊎_elim (λ yes. let t = tail_tells b yes in
    ⊎_elim (λ less. IsUtf8-append (x ∷ y ∷ b ∷ []) bs (triple_is x y b p.0 less f t.0 t.1) (runs_are_text [] bs tt (sym (run_three x y b bs less yes) ∙ e)))
    (λ more. runs_are_text (x ∷ y ∷ b ∷ []) bs (more, p.1, p.2, yes) (sym (run_third x y b bs more yes) ∙ e)) (cases_lt x 240))
    (λ (no : is_tail b ≡ false). absurd (no_next (x ∷ y ∷ []) bs b (rw no refl) e)) (cases_Bool (is_tail b))
runs_are_text (x ∷ y ∷ z ∷ []) (b ∷ bs) p e =
    let lead = lead_tells x p.1 in
    let f = second_tells x y p.2 in
    let third = tail_tells z p.3 in
    ⊎_elim (λ yes. let t = tail_tells b yes in
    IsUtf8-append (x ∷ y ∷ z ∷ b ∷ []) bs (four_is x y z b p.0 lead.1 f third.0 third.1 t.0 t.1) (runs_are_text [] bs tt (sym (run_four x y z b bs yes) ∙ e)))
    (λ (no : is_tail b ≡ false). absurd (no_next (x ∷ y ∷ z ∷ []) bs b (rw no refl) e)) (cases_Bool (is_tail b))
runs_are_text (x ∷ y ∷ z ∷ w ∷ more) (b ∷ bs) p e = absurd p

-- ---- a byte at a time

subst_next : (known next : List ℕ) → IsPending known → Some known ≡ Some next → IsPending next
subst_next known next p e = let same : known ≡ next = cc in subst IsPending same p

pub next_IsPending : (held next : List ℕ) (b : ℕ) → IsPending held → utf8_next held b ≡ Some next → IsPending next
unfolding utf8_next
next_IsPending [] next b p e =
    ⊎_elim (λ (small : ltb b 128 ≡ true). let n : utf8_next [] b ≡ Some [] = rw small refl in let f = sym n ∙ e in subst_next [] next tt f)
    (λ (large : ltb b 128 ≡ false). ⊎_elim (λ (lead : is_lead b ≡ true). let n : utf8_next [] b ≡ Some (b ∷ []) = rw (large, lead) refl in let f = sym n ∙ e in subst_next (b ∷ []) next lead f)
    (λ (other : is_lead b ≡ false). let n : utf8_next [] b ≡ None = rw (large, other) refl in let f = sym n ∙ e in absurd cc) (cases_Bool (is_lead b)))
    (cases_Bool (ltb b 128))
next_IsPending (x ∷ []) next b p e =
    ⊎_elim (λ (yes : is_second x b ≡ true).
    ⊎_elim (λ less. let n : utf8_next (x ∷ []) b ≡ Some [] = rw (yes, lt-ltb x 224 less) refl in let f = sym n ∙ e in subst_next [] next tt f)
    (λ more. let n : utf8_next (x ∷ []) b ≡ Some (x ∷ b ∷ []) = rw (yes, le-ltb x 224 more) refl in let f = sym n ∙ e in subst_next (x ∷ b ∷ []) next (more, p, yes) f) (cases_lt x 224))
    (λ (no : is_second x b ≡ false). let n : utf8_next (x ∷ []) b ≡ None = rw no refl in let f = sym n ∙ e in absurd cc) (cases_Bool (is_second x b))
next_IsPending (x ∷ y ∷ []) next b p e =
    ⊎_elim (λ (yes : is_tail b ≡ true).
    ⊎_elim (λ less. let n : utf8_next (x ∷ y ∷ []) b ≡ Some [] = rw (yes, lt-ltb x 240 less) refl in let f = sym n ∙ e in subst_next [] next tt f)
    (λ more. let n : utf8_next (x ∷ y ∷ []) b ≡ Some (x ∷ y ∷ b ∷ []) = rw (yes, le-ltb x 240 more) refl in let f = sym n ∙ e in subst_next (x ∷ y ∷ b ∷ []) next (more, p.1, p.2, yes) f) (cases_lt x 240))
    (λ (no : is_tail b ≡ false). let n : utf8_next (x ∷ y ∷ []) b ≡ None = rw no refl in let f = sym n ∙ e in absurd cc) (cases_Bool (is_tail b))
next_IsPending (x ∷ y ∷ z ∷ []) next b p e =
    ⊎_elim (λ (yes : is_tail b ≡ true). let n : utf8_next (x ∷ y ∷ z ∷ []) b ≡ Some [] = rw yes refl in let f = sym n ∙ e in subst_next [] next tt f)
    (λ (no : is_tail b ≡ false). let n : utf8_next (x ∷ y ∷ z ∷ []) b ≡ None = rw no refl in let f = sym n ∙ e in absurd cc) (cases_Bool (is_tail b))
next_IsPending (x ∷ y ∷ z ∷ w ∷ more) next b p e = absurd p

pub after_IsPending : (held : List ℕ) (b : ℕ) → IsPending held → IsPending (held_after held b)
after_IsPending held b p = after (utf8_next held b) (λ next e. next_IsPending held next b p e)
  where
    after : (o : Option (List ℕ)) → ((next : List ℕ) → o ≡ Some next → IsPending next) → IsPending (unwrap_or o held)
    after None f = p
    after (Some next) f = f next refl

pub nothing_is : (o : Option (List ℕ)) → is_nothing o ≡ true → o ≡ Some []
nothing_is None e = absurd cc
nothing_is (Some []) e = refl
nothing_is (Some (x ∷ xs)) e = absurd cc

pub ended_is_text : (held : List ℕ) (b : ℕ) → IsPending held → ends_character held b ≡ true → IsUtf8 (held ++ b ∷ [])
ended_is_text held b p e = runs_are_text held (b ∷ []) p (rw (nothing_is (utf8_next held b) e) refl)

pub ended_in : (held now bytes : List ℕ) (b : ℕ) (r : Bool) → IsPending held → held ≡ now → r ≡ ends_character now b → r ≡ true → held ≡ bytes → IsUtf8 (bytes ++ b ∷ [])
ended_in held now bytes b r p same told e is = subst (λ xs. IsUtf8 (xs ++ b ∷ [])) is (ended_is_text held b p (rw same (sym told ∙ e)))
