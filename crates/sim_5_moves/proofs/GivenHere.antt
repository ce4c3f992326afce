-- What was given of what was sent: all, or a front of it, and the session ended.
use Rattle.std.proofs.Common.{◌≡◌, ◌≢◌, ◌⊎◌, ℕ, Bool, true, false, List, [], ◌∷◌, ◌++◌, Option, Some, None, map, refl, sym, ap, subst, ◌∙◌, inl, inr, if◌then◌else◌}
use Rattle.std.proofs.lemmas.List.{map-append}
use Rattle.srv_state.specs.Steps.{Act}
use Rattle.sim_3_items.specs.Downs.{down_stanza}
use Rattle.sim_3_items.specs.Items.{stanzas_read}
use Rattle.sim_2_links.specs.Events.{row_number, seen}
use Rattle.sim_2_links.specs.Views.{Row, View}
use Rattle.sim_2_events.specs.Lists.{IsDevice, IsRow}
use Rattle.sim_1_applications.specs.Devices.{Sessions}
use Rattle.sim_1_applications.specs.Devices.Row.{NoRow}
use Rattle.sim_1_applications.specs.Stanzas.{Down}
use Rattle.sim_1_applications.specs.Stanzas.Down.{Live}
use Rattle.sim_5_moves.specs.Handled.{IsHeardOf}
use Rattle.sim_4_links_follow.specs.Given.{IsGiven, sends_to}
use Rattle.xml_writer.specs.Items.{ItemOut}

-- a device whose session ended in the links has no row
pub ended_row : (v : View ItemOut) (d : Sessions) → IsDevice stanzas_read (seen v) d → v.row ≡ None → d.row ≡ NoRow
ended_row v d is none = subst (λ (o : Option (Row ItemOut)). IsRow (seen v) d.row (row_number o)) none is.row

-- and one that has a session there has one
pub lives_on : (v : View ItemOut) (d : Sessions) (r : Row ItemOut) → IsDevice stanzas_read (seen v) d → v.row ≡ Some r → d.row ≢ NoRow
lives_on v d r is some =
    let at : IsRow (seen v) d.row (Some r.number) = subst (λ (o : Option (Row ItemOut)). IsRow (seen v) d.row (row_number o)) some is.row in
    elim at.2 [ inl unread ↦ (λ none. let row = unread.1 in let no_way : ⊥ = cc in no_way) | inr present ↦ (λ none. let row = present.1 in let no_way : ⊥ = cc in no_way) ]

module _ (acts : List (Act ItemOut)) (given : List ItemOut) where
  pub replied : (r : Row ItemOut) (next : View ItemOut) (last : Sessions) (reply : List Down) → IsGiven acts given (Some r) next.row → IsDevice stanzas_read (seen next) last → map down_stanza (sends_to r.number acts) ≡ reply
      → (map down_stanza given ≡ reply) ⊎ ((missing : Down) × (more : List Down) × (reply ≡ map down_stanza given ++ missing ∷ more) × (last.row ≡ NoRow))
  replied r next last reply is device sent = go next.row refl is
    where
      go : (row : Option (Row ItemOut)) → next.row ≡ row → IsGiven acts given (Some r) row → (map down_stanza given ≡ reply) ⊎ ((missing : Down) × (more : List Down) × (reply ≡ map down_stanza given ++ missing ∷ more) × (last.row ≡ NoRow))
      go None none short =
          inr (down_stanza short.0, map down_stanza short.1, sym sent ∙ ap (map down_stanza) short.2 ∙ map-append down_stanza given (short.0 ∷ short.1), ended_row next last device none)
      go (Some n) some whole = inl (ap (map down_stanza) whole.1 ∙ sent)

  -- whether one hears
  pub heard : (r : Row ItemOut) (next : View ItemOut) (last : Sessions) (b : Bool) (n : ℕ) → IsGiven acts given (Some r) next.row → IsDevice stanzas_read (seen next) last → map down_stanza (sends_to r.number acts) ≡ (if b then Live n ∷ [] else [])
      → IsHeardOf b n (map down_stanza given) last
  heard r next last b n is device sent = by b (replied r next last (if b then Live n ∷ [] else []) is device sent)
    where
      one_left : (xs : List Down) (y : Down) (more : List Down) → Live n ∷ [] ≡ xs ++ y ∷ more → xs ≡ []
      one_left [] y more same = refl
      one_left (x ∷ []) y more same = absurd (let no_way : ⊥ = cc in no_way)
      one_left (x ∷ z ∷ xs) y more same = absurd (let no_way : ⊥ = cc in no_way)

      none_left : (xs : List Down) (y : Down) (more : List Down) → [] ≡ xs ++ y ∷ more → ⊥
      none_left [] y more same = (let no_way : ⊥ = cc in no_way)
      none_left (x ∷ xs) y more same = (let no_way : ⊥ = cc in no_way)

      by : (c : Bool) → (map down_stanza given ≡ (if c then Live n ∷ [] else [])) ⊎ ((missing : Down) × (more : List Down) × ((if c then Live n ∷ [] else []) ≡ map down_stanza given ++ missing ∷ more) × (last.row ≡ NoRow))
          → IsHeardOf c n (map down_stanza given) last
      by true (inl whole) = inl whole
      by true (inr short) = inr (one_left (map down_stanza given) short.0 short.1 short.2, short.3)
      by false (inl whole) = whole
      by false (inr short) = absurd (none_left (map down_stanza given) short.0 short.1 short.2)

  pub nothing : (v next : View ItemOut) → IsGiven acts given v.row next.row → ((r : Row ItemOut) → v.row ≡ Some r → sends_to r.number acts ≡ []) → given ≡ []
  nothing v next is silent = go v.row next.row is silent
    where
      none_left : (xs : List ItemOut) (y : ItemOut) (more : List ItemOut) → [] ≡ xs ++ y ∷ more → ⊥
      none_left [] y more same = (let no_way : ⊥ = cc in no_way)
      none_left (x ∷ xs) y more same = (let no_way : ⊥ = cc in no_way)

      go : (row following : Option (Row ItemOut)) → IsGiven acts given row following → ((r : Row ItemOut) → row ≡ Some r → sends_to r.number acts ≡ []) → given ≡ []
      go None following so quiet = so.0
      go (Some r) None so quiet = absurd (none_left given so.0 so.1 (sym (quiet r refl) ∙ so.2))
      go (Some r) (Some n) so quiet = so.1 ∙ quiet r refl

-- of what one at the most hears nothing was given before the one that is missing
pub one_short : (b : Bool) (n : ℕ) (xs : List ItemOut) (z : ItemOut) (missing : List ItemOut) → map down_stanza (xs ++ z ∷ missing) ≡ (if b then Live n ∷ [] else []) → xs ≡ []
one_short b n [] z missing is = refl
one_short true n (x ∷ []) z missing is = absurd (let no_way : ⊥ = cc in no_way)
one_short false n (x ∷ []) z missing is = absurd (let no_way : ⊥ = cc in no_way)
one_short true n (x ∷ y ∷ xs) z missing is = absurd (let no_way : ⊥ = cc in no_way)
one_short false n (x ∷ y ∷ xs) z missing is = absurd (let no_way : ⊥ = cc in no_way)
