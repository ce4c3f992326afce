-- The rows of whole tags on bytes are those of the state, where the context is the state's.
use Rattle.std.proofs.Common.{◌≡◌, ◌≢◌, ℕ, ◌+◌, ⊎_elim, true, false, not, ◌&&◌, List, [], ◌∷◌, ◌++◌, Option, Some, None, Result, Ok, Err, refl, sym, ap, subst, ◌∙◌}
use Rattle.std.proofs.lemmas.Bool.{cases_Bool, false≢true, true≢false}
use Rattle.std.proofs.lemmas.Slice.Eq.{bytes_eq-Decides}
use Rattle.std.specs.Option.{is_some}
use Rattle.std.specs.Prelude.{nat_lt}
use Rattle.std.specs.Str.{bytes_eq}
use Rattle.xml_tokens.specs.Tags.{IsEndTag}
use Rattle.xml_names.proofs.EndLaws.{end_tags_are_read}
use Rattle.xml_names.specs.Ends.{end_of}
use Rattle.xml_names.specs.Starts.{Tag, start_of}
use Rattle.xml_names.specs.declared.fault.StartWhy.{StartWhy}
use Rattle.xml_names.specs.declared.fault.StartWhy.TheVariants as start
use Rattle.xml_framer.specs.States.{OpenElement, State, admits_declaration, gathered, may_declare}
use Rattle.xml_framer.specs.TagSteps.{header_why, is_header, is_spelled, is_too_deep, largest_limits, misplaced_why, says_stream, scope_in, start_why, tag_here}
use Rattle.xml_framer.specs.declared.fault.Why.{Why}
use Rattle.law_xml.proofs.ContextRuns.{count_opens, none_open}
use Rattle.law_xml.proofs.ContextsTold.{context_of, names_of, opens_of, some_none}
use Rattle.law_xml.specs.OpenRows.{TagByteRow, admits, are_none, behind_footer, header_due, is_past_depth, start_past_depth, top_past_depth, why_at, why_misplaced, why_of_header, wrong_end, wrong_first_header, wrong_next_header, wrong_start, wrong_top}
use Rattle.law_xml.specs.Rows.{WholeTagRow, after_footer, bad_first_header, bad_next_header, bad_start, bad_top, deep_start, deep_top, no_header_declared, other_end}

heads : (x y : List ℕ) (xs ys : List (List ℕ)) → x ∷ xs ≡ y ∷ ys → x ≡ y
heads x y xs ys e = cc

-- ---- whether an element is open

is_outside : (o : Option OpenElement) (below : List OpenElement) → opens_of o below ≡ [] → is_some o ≡ false
is_outside o below e = ap is_some (none_open o below e)

opens_none : (o : Option OpenElement) (below : List OpenElement) → is_some o ≡ false → opens_of o below ≡ []
opens_none None below e = refl
opens_none (Some o) below e = absurd (true≢false e)

is_inside : (o : Option OpenElement) (below : List OpenElement) → opens_of o below ≢ [] → is_some o ≡ true
is_inside None below other = absurd (other refl)
is_inside (Some o) below other = refl

opens_some : (o : Option OpenElement) (below : List OpenElement) → is_some o ≡ true → opens_of o below ≢ []
opens_some None below e f = absurd (false≢true e)
opens_some (Some o) below e f = absurd (some_none o.spelled (names_of below) f)

none_is : (o : Option OpenElement) (below : List OpenElement) → are_none (opens_of o below) ≡ not (is_some o)
none_is None below = refl
none_is (Some o) below = refl

module _ (s : State) where
  pub outside : (context_of s).opens ≡ [] → is_some s.here ≡ false
  outside e = is_outside s.here s.below e

  pub from_outside : is_some s.here ≡ false → (context_of s).opens ≡ []
  from_outside e = opens_none s.here s.below e

  pub inside : (context_of s).opens ≢ [] → is_some s.here ≡ true
  inside other = is_inside s.here s.below other

  pub from_inside : is_some s.here ≡ true → (context_of s).opens ≢ []
  from_inside e = opens_some s.here s.below e

  pub admits_is : admits (context_of s) ≡ may_declare s
  admits_is = ap (λ x. x && admits_declaration s.lexical.phase) (none_is s.here s.below)

-- ---- the name of an end tag

named : (token : List ℕ) (o : OpenElement) (r : Option (List ℕ)) → end_of token ≡ r → ¬ (IsEndTag token o.spelled) → is_spelled (Some o) r ≡ false
named token o None is other = refl
named token o (Some n) is other =
    ⊎_elim
    (λ (e : bytes_eq n o.spelled ≡ true).
    absurd (other (subst (IsEndTag token) ((bytes_eq-Decides n o.spelled).0 e) ((end_tags_are_read token n).0 is))))
    (λ (e : bytes_eq n o.spelled ≡ false). e) (cases_Bool (bytes_eq n o.spelled))

not_spelled : (token : List ℕ) (o : Option OpenElement) (below : List OpenElement) (name : List ℕ) (outer : List (List ℕ)) → opens_of o below ≡ name ∷ outer → ¬ (IsEndTag token name) → is_spelled o (end_of token) ≡ false
not_spelled token None below name outer e other = refl
not_spelled token (Some o) below name outer e other =
    named token o (end_of token) refl (λ t. other (subst (IsEndTag token) (heads o.spelled name (names_of below) outer e) t))

-- an element is open, and the tag hasn't its name
record OtherName (token : List ℕ) (opens : List (List ℕ)) : Type 0 where
  name : List ℕ
  outer : List (List ℕ)
  opens_are : opens ≡ name ∷ outer
  other : ¬ (IsEndTag token name)

other_name : (token : List ℕ) (o : Option OpenElement) (below : List OpenElement) → is_some o ≡ true → is_spelled o (end_of token) ≡ false → OtherName token (opens_of o below)
other_name token None below inner e = absurd (false≢true inner)
other_name token (Some o) below inner e =
    record {
      name = o.spelled;
      outer = names_of below;
      opens_are = refl;
      other = λ t.
          let is = (end_tags_are_read token o.spelled).1 t in
          false≢true (sym e ∙ ap (is_spelled (Some o)) is ∙ (bytes_eq-Decides o.spelled o.spelled).1 refl);
    }

not_none : (opens : List (List ℕ)) (name : List ℕ) (outer : List (List ℕ)) → opens ≡ name ∷ outer → opens ≢ []
not_none opens name outer e f = some_none name outer (sym e ∙ f)

-- ---- rows

header_is : (s : State) → is_header s ≡ says_stream (start_of largest_limits (scope_in s.scopes) s.token)
unfolding is_header
header_is s = refl

why_is : (s : State) (e : StartWhy) → start_why s e ≡ why_at (is_too_deep s) e
why_is s start.Restricted = refl
why_is s start.NotWellFormed = refl
why_is s start.TooManyAttributes = refl
why_is s start.LongNamespace = refl

header_why_is : (e : StartWhy) → header_why e ≡ why_of_header e
header_why_is start.Restricted = refl
header_why_is start.NotWellFormed = refl
header_why_is start.TooManyAttributes = refl
header_why_is start.LongNamespace = refl

misplaced_is : (r : Result Tag StartWhy) → misplaced_why r ≡ why_misplaced r
misplaced_is (Ok tag) = refl
misplaced_is (Err start.Restricted) = refl
misplaced_is (Err start.NotWellFormed) = refl
misplaced_is (Err start.TooManyAttributes) = refl
misplaced_is (Err start.LongNamespace) = refl

module _ (s : State) (b : ℕ) where
  abbrev whole : State
  whole = gathered s b

  deep_is : is_too_deep whole ≡ is_past_depth s.limits (context_of s)
  deep_is = ap (λ n. nat_lt s.limits.depth (n + 1)) (count_opens s)

  why_there : (e : StartWhy) → start_why whole e ≡ why_at (is_past_depth s.limits (context_of s)) e
  why_there e = why_is whole e ∙ ap (λ d. why_at d e) deep_is

  pub to_whole : (w : Why) → TagByteRow s.limits (context_of s) (s.token ++ b ∷ []) w → WholeTagRow whole w
  to_whole w (wrong_end _ _ _ _ name outer opens end other w_is) =
      other_end whole w (inside s (not_none (context_of s).opens name outer opens)) end (not_spelled (s.token ++ b ∷ []) s.here s.below name outer opens other) w_is
  to_whole w (wrong_start _ _ _ _ e opens begins told w_is) = bad_start whole w e (inside s opens) begins told (w_is ∙ sym (why_there e))
  to_whole w (start_past_depth _ _ _ _ tag opens begins told deep w_is) = deep_start whole w tag (inside s opens) begins told (deep_is ∙ deep) w_is
  to_whole w (wrong_first_header _ _ _ _ e opens phases told w_is) = bad_first_header whole w e (outside s opens) phases told (w_is ∙ sym (header_why_is e))
  to_whole w (wrong_next_header _ _ _ _ e opens phases heads_it told w_is) = bad_next_header whole w e (outside s opens) phases (header_is whole ∙ heads_it) told (w_is ∙ sym (header_why_is e))
  to_whole w (wrong_top _ _ _ _ e opens between other told w_is) = bad_top whole w e (outside s opens) between (header_is whole ∙ other) told (w_is ∙ sym (why_there e))
  to_whole w (top_past_depth _ _ _ _ tag opens between other told deep w_is) = deep_top whole w tag (outside s opens) between (header_is whole ∙ other) told (deep_is ∙ deep) w_is
  to_whole w (header_due _ _ _ _ opens declared other w_is) = no_header_declared whole w (outside s opens) declared (header_is whole ∙ other) (w_is ∙ sym (misplaced_is (tag_here whole)))
  to_whole w (behind_footer _ _ _ _ opens ended w_is) = after_footer whole w (outside s opens) ended (w_is ∙ sym (misplaced_is (tag_here whole)))

  pub of_whole : (w : Why) → WholeTagRow whole w → TagByteRow s.limits (context_of s) (s.token ++ b ∷ []) w
  of_whole w (other_end _ _ inner end other w_is) =
      let o = other_name (s.token ++ b ∷ []) s.here s.below inner other in wrong_end s.limits (context_of s) (s.token ++ b ∷ []) w o.name o.outer o.opens_are end o.other w_is
  of_whole w (bad_start _ _ e inner begins told w_is) = wrong_start s.limits (context_of s) (s.token ++ b ∷ []) w e (from_inside s inner) begins told (w_is ∙ why_there e)
  of_whole w (deep_start _ _ tag inner begins told deep w_is) = start_past_depth s.limits (context_of s) (s.token ++ b ∷ []) w tag (from_inside s inner) begins told (sym deep_is ∙ deep) w_is
  of_whole w (bad_first_header _ _ e outer phases told w_is) = wrong_first_header s.limits (context_of s) (s.token ++ b ∷ []) w e (from_outside s outer) phases told (w_is ∙ header_why_is e)
  of_whole w (bad_next_header _ _ e outer phases heads_it told w_is) =
      wrong_next_header s.limits (context_of s) (s.token ++ b ∷ []) w e (from_outside s outer) phases (sym (header_is whole) ∙ heads_it) told (w_is ∙ header_why_is e)
  of_whole w (bad_top _ _ e outer between other told w_is) =
      wrong_top s.limits (context_of s) (s.token ++ b ∷ []) w e (from_outside s outer) between (sym (header_is whole) ∙ other) told (w_is ∙ why_there e)
  of_whole w (deep_top _ _ tag outer between other told deep w_is) =
      top_past_depth s.limits (context_of s) (s.token ++ b ∷ []) w tag (from_outside s outer) between (sym (header_is whole) ∙ other) told (sym deep_is ∙ deep) w_is
  of_whole w (no_header_declared _ _ outer declared other w_is) = header_due s.limits (context_of s) (s.token ++ b ∷ []) w (from_outside s outer) declared (sym (header_is whole) ∙ other) (w_is ∙ misplaced_is (tag_here whole))
  of_whole w (after_footer _ _ outer ended w_is) = behind_footer s.limits (context_of s) (s.token ++ b ∷ []) w (from_outside s outer) ended (w_is ∙ misplaced_is (tag_here whole))
