-- Where a connection stands, by its row of the table and the word that comes.
use Rattle.std.proofs.Common.{◌≡◌, ℕ, Bool, true, false, List, [], ◌∷◌, ◌++◌, refl, sym, ap, ◌∙◌, ◌⊎◌, inl, inr, Some}
use Rattle.sim_2_links.specs.Links.{LinkKept}
use Rattle.sim_2_links.specs.Stages.{Conn, Greets, Regreets, Stage, Stands, Succeeded, client_of, foot_of, phase_of, up_of}
use Rattle.sim_2_links.specs.Views.{View}
use Rattle.sim_2_links.specs.Words.{Hdr, InHeader1, InHeader2, Restart, Start, UpWord}
use Rattle.sim_2_links.specs.Wires.{Flow, Stop, Wires, up_whole, up_words}

pub whole_first : {A : Type 0} (ws : Wires A) (word : UpWord A) (rest : List (UpWord A)) → up_words ws ≡ word ∷ rest → (more : List (UpWord A)) × (up_whole ws ≡ word ∷ more)
whole_first (Flow us ds) word rest first = (rest, first)
whole_first (Stop us ds lu ld) word rest first = (rest ++ lu, ap (λ us. us ++ lu) first)

starts : {A : Type 0} (s : Stage A) → phase_of s ≡ Start → client_of s ≡ InHeader1
starts Greets is = refl
starts _ is = absurd (let no_way : ⊥ = cc in no_way)

no_header : {A C : Type 0} (footed : Bool) (more : List (UpWord A)) → foot_of footed ≡ Hdr ∷ more → C
no_header false more is = absurd (let no_way : ⊥ = cc in no_way)
no_header true more is = absurd (let no_way : ⊥ = cc in no_way)

restarts : {A : Type 0} (s : Stage A) (footed : Bool) (more : List (UpWord A)) → phase_of s ≡ Restart → up_of s ++ foot_of footed ≡ Hdr ∷ more → client_of s ≡ InHeader2
restarts Regreets footed more is first = refl
restarts Succeeded footed more is first = no_header footed more first
restarts _ footed more is first = absurd (let no_way : ⊥ = cc in no_way)

module _ {A : Type 0} (v : View A) (k : ℕ) (c : Conn A) (kept : LinkKept v) (is : v.conns k ≡ Some c) where
  -- at the first header the client awaits that of the server
  pub client_at_start : c.phase ≡ Start → c.client ≡ InHeader1
  client_at_start phase = let conn = kept.conns k c is in conn.at.client ∙ starts conn.stage (sym conn.at.phase ∙ phase)

  -- and likewise at the second
  pub client_at_restart : (rest : List (UpWord A)) → c.phase ≡ Restart → up_words c.wires ≡ Hdr ∷ rest → c.client ≡ InHeader2
  client_at_restart rest phase first =
      let conn = kept.conns k c is in
      let whole = whole_first c.wires Hdr rest first in
      conn.at.client ∙ restarts conn.stage c.footed whole.0 (sym conn.at.phase ∙ phase) (sym conn.at.up ∙ whole.1)

  -- where a word is to be taken the server neither ended the stream nor heard of the end
  pub stands_at : (word : UpWord A) (rest : List (UpWord A)) → up_words c.wires ≡ word ∷ rest → (c.ending ≡ Stands) × (c.gone ≡ false)
  stands_at word rest first =
      let piped = (kept.conns k c is).piped in
      (stands piped.ended, untold c.gone refl piped.gone)
    where
      stands : (c.ending ≡ Stands) ⊎ (up_words c.wires ≡ []) → c.ending ≡ Stands
      stands (inl e) = e
      stands (inr none) = absurd (let no_way : ⊥ = cc in no_way)

      untold : (b : Bool) → c.gone ≡ b → (c.gone ≡ true → up_words c.wires ≡ []) → c.gone ≡ false
      untold false e told = e
      untold true e told = let none = told e in absurd (let no_way : ⊥ = cc in no_way)
