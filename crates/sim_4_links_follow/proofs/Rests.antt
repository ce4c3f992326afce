-- Behind the success of a login no features stand: what is left is read as the same items before and behind it.
use Rattle.std.proofs.Common.{◌≡◌, ℕ, true, false, List, [], ◌∷◌, ◌++◌, Some, map, append-nil, refl, sym, ap, ◌∙◌}
use Rattle.sim_3_items.specs.Identities.{Identity, Login}
use Rattle.sim_3_items.specs.WordItems.{down_item, is_after_login}
use Rattle.sim_2_links.specs.Links.{LinkKept}
use Rattle.sim_2_links.specs.Stages.{Answers, Closes, Conn, Ending, Errs, Stage, Stands, Succeeded, client_of, down_of, tail_of}
use Rattle.sim_2_links.specs.Views.{View}
use Rattle.sim_2_links.specs.Wires.{Flow, Stop, Wires, down_whole, down_words}
use Rattle.sim_2_links.specs.Words.{Conflict, Constraint, DownWord, InHeader2, InResponse, Succ, TooHigh}
use Rattle.xml_writer.specs.Items.{ItemOut}

-- where all items are the same, those of the first words are
front_same : {W : Type 0} (f g : W → ItemOut) (words lost : List W) → map f (words ++ lost) ≡ map g (words ++ lost) → map f words ≡ map g words
front_same f g [] lost same = refl
front_same f g (w ∷ words) lost same =
    let first : f w ≡ g w = cc in
    let others : map f (words ++ lost) ≡ map g (words ++ lost) = cc in
    λ i. first i ∷ front_same f g words lost others i

-- what is left of the words, and what was lost behind it
pub whole_first_down : {A : Type 0} (ws : Wires A) (word : DownWord A) (rest : List (DownWord A)) → down_words ws ≡ word ∷ rest → (lost : List (DownWord A)) × (down_whole ws ≡ word ∷ (rest ++ lost))
whole_first_down (Flow us ds) word rest first = ([], first ∙ ap (λ l. word ∷ l) (sym (append-nil rest)))
whole_first_down (Stop us ds lu ld) word rest first = (ld, ap (λ l. l ++ ld) first)

module _ (who : Identity) (x : Login) (k : ℕ) where
  tail_same : (ending : Ending) → map (down_item who x k false) (tail_of ending) ≡ map (down_item who x k true) (tail_of ending)
  tail_same Stands = refl
  tail_same (Errs Conflict) = refl
  tail_same (Errs Constraint) = refl
  tail_same (Errs TooHigh) = refl
  tail_same Closes = refl

  no_tail : {C : Type 0} (ending : Ending) (more : List (DownWord ItemOut)) → tail_of ending ≡ Succ ∷ more → C
  no_tail Stands more is = absurd (let no_way : ⊥ = cc in no_way)
  no_tail (Errs cause) more is = absurd (let no_way : ⊥ = cc in no_way)
  no_tail Closes more is = absurd (let no_way : ⊥ = cc in no_way)

  succeeded : (s : Stage ItemOut) (ending : Ending) (more : List (DownWord ItemOut)) → client_of s ≡ InResponse → down_of s ++ tail_of ending ≡ Succ ∷ more → tail_of ending ≡ more
  succeeded Succeeded ending more is first = cc
  succeeded Answers ending more is first = no_tail ending more first
  succeeded _ ending more is first = absurd (let no_way : ⊥ = cc in no_way)

  pub after_success : (c : Conn ItemOut) (v : View ItemOut) (rest : List (DownWord ItemOut)) → LinkKept v → v.conns k ≡ Some c → c.client ≡ InResponse → down_words c.wires ≡ Succ ∷ rest
      → map (down_item who x k (is_after_login c.client)) rest ≡ map (down_item who x k (is_after_login InHeader2)) rest
  after_success c v rest kept is client first =
      let conn = kept.conns k c is in
      let whole = whole_first_down c.wires Succ rest first in
      let tail : tail_of c.ending ≡ rest ++ whole.0 = succeeded conn.stage c.ending (rest ++ whole.0) (sym conn.at.client ∙ client) (sym conn.at.down ∙ whole.1) in
      let all : map (down_item who x k false) (rest ++ whole.0) ≡ map (down_item who x k true) (rest ++ whole.0) =
      ap (map (down_item who x k false)) (sym tail) ∙ tail_same c.ending ∙ ap (map (down_item who x k true)) tail in
      ap (λ b. map (down_item who x k (is_after_login b)) rest) client ∙ front_same (down_item who x k false) (down_item who x k true) rest whole.0 all
