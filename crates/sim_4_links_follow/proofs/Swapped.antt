-- What doesn't hang on an order: of outs for two connections, of two connections that are no more, and of changes of a
-- session that is then changed or left out.
use Rattle.std.proofs.Common.{◌≡◌, ◌≢◌, ℕ, ◌==◌, Bool, true, false, List, [], ◌∷◌, ◌++◌, Option, Some, None, map, refl, sym, ap, ◌∙◌, inl, inr}
use Rattle.std.proofs.lemmas.Bool.{cases_Bool, cases_eq}
use Rattle.std.proofs.lemmas.List.{append_assoc}
use Rattle.std.specs.List.{find}
use Rattle.std.specs.Map.{remove_entry}
use Rattle.std.specs.Option.{option_map}
use Rattle.srv_state.specs.State.{Out, Put, ServerState, is_number}
use Rattle.sim_3_items.specs.Sent.{sent, sent_under}
use Rattle.sim_3_images.proofs.Lookups.{number_is}
use Rattle.sim_3_items.specs.ItemPipes.{ItemWire}
use Rattle.sim_2_links.specs.Views.{Table}
use Rattle.sm_live.specs.Sessions.{Session, with_session, without}
use Rattle.im_replies.specs.Management.{request_item}
use Rattle.sim_4_links_follow.proofs.Parkings.{off}
use Rattle.sim_4_links_follow.proofs.ResumeRows.{asked_where}
use Rattle.sim_4_links_follow.proofs.Emitted.{AreFor, sent_both}
use Rattle.xml_writer.specs.Items.{ItemOut}

-- ---- outs

pub sent_swapped : (f k : ℕ) (some others : List (Out ItemOut)) → f ≢ k → AreFor f some → AreFor k others → (wires : Table ItemWire) (j : ℕ) → sent (others ++ some) wires j ≡ sent (some ++ others) wires j
sent_swapped f k some others apart for_f for_k wires j = go (wires j)
  where
    under : (u : ItemWire) → sent_under j (others ++ some) u ≡ sent_under j (some ++ others) u
    under u =
        elim (cases_eq f j) [
          | inl same ↦
              let other : k ≢ j = λ e. apart (same ∙ sym e) in
              sent_both j others some u ∙ ap (sent_under j some) (for_k j u other) ∙ sym (for_k j (sent_under j some u) other) ∙ sym (sent_both j some others u)
          | inr other ↦ sent_both j others some u ∙ for_f j (sent_under j others u) other ∙ ap (sent_under j others) (sym (for_f j u other)) ∙ sym (sent_both j some others u)
        ]

    go : (o : Option ItemWire) → option_map (sent_under j (others ++ some)) o ≡ option_map (sent_under j (some ++ others)) o
    go None = refl
    go (Some u) = ap Some (under u)

-- a request that may go out behind them
pub asked_server_state : (k m : ℕ) (due : Bool) (h : ServerState ItemOut) (some outs : List (Out ItemOut)) → (asked_where k m due h (some ++ outs)).server_state ≡ (asked_where k m due h outs).server_state
asked_server_state k m true h some outs = refl
asked_server_state k m false h some outs = refl

pub asked_outs : (k m : ℕ) (due : Bool) (h : ServerState ItemOut) (some outs : List (Out ItemOut)) → (asked_where k m due h (some ++ outs)).outs ≡ some ++ (asked_where k m due h outs).outs
asked_outs k m true h some outs = append_assoc some outs (Put k request_item ∷ [])
asked_outs k m false h some outs = refl

-- ---- connections

pub removed_swapped : {X : Type 0} (f k : ℕ) → f ≢ k → (es : List (ℕ × X)) → remove_entry (is_number f) (remove_entry (is_number k) es) ≡ remove_entry (is_number k) (remove_entry (is_number f) es)
removed_swapped f k apart [] = refl
removed_swapped f k apart (e ∷ es) =
    elim (cases_Bool (is_number f e.0)) [
      | inl one ↦
          elim (cases_Bool (is_number k e.0)) [
            | inl both ↦ absurd (apart (number_is f e.0 one ∙ sym (number_is k e.0 both)))
            | inr other ↦ rw (one, other, one) refl
          ]
      | inr not_one ↦
          elim (cases_Bool (is_number k e.0)) [
            | inl other ↦ rw (not_one, other) refl
            | inr neither ↦ rw (not_one, neither, not_one) (ap (λ l. e ∷ l) (removed_swapped f k apart es))
          ]
    ]

-- ---- sessions

-- one that came off its connection, and comes to another one
pub off_then : (m : ℕ) (f : Session ItemOut → Session ItemOut) → ((s : Session ItemOut) → f (off s) ≡ f s) → (ss : List (Session ItemOut)) → with_session m f (with_session m off ss) ≡ with_session m f ss
off_then m f same [] = refl
off_then m f same (s ∷ ss) =
    let rest = off_then m f same ss in
    elim (cases_Bool (s.shown.number == m)) [
      | inl here ↦ rw (here, here) (ap (λ t. t ∷ with_session m f (with_session m off ss)) (same s) ∙ ap (λ l. f s ∷ l) rest)
      | inr apart ↦ rw (apart, apart) (ap (λ l. s ∷ l) rest)
    ]

-- or ends
pub off_without : (m : ℕ) (ss : List (Session ItemOut)) → without m (with_session m off ss) ≡ without m ss
off_without m [] = refl
off_without m (s ∷ ss) =
    elim (cases_Bool (s.shown.number == m)) [
      | inl here ↦ rw (here, here) (off_without m ss)
      | inr apart ↦ rw (apart, apart) (ap (λ l. s ∷ l) (off_without m ss))
    ]

pub none_mapped : {A : Type 0} (p : A → Bool) (g : A → A) (ss : List A) → ((s : A) → p s ≡ false → p (g s) ≡ false) → find p ss ≡ None → find p (map g ss) ≡ None
none_mapped p g [] stays none = refl
none_mapped p g (s ∷ ss) stays none =
    elim (cases_Bool (p s)) [
      | inl here ↦ let found : Some s ≡ None = rw here at none in absurd (let no_way : ⊥ = cc in no_way)
      | inr other ↦ let still = stays s other in rw still (none_mapped p g ss stays (rw other at none))
    ]
