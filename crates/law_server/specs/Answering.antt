-- What requests lead to, whatever they ask for (RFC 6120, section 8.2.3).
use Rattle.std.specs.Prelude.{◌≡◌, ℕ, List, [], ◌∷◌, ◌++◌}
use Rattle.srv_state.specs.Steps.{Act, Copy, Send}
use Rattle.im_replies.specs.Requests.{EnvelopeView, iq_error_item, result_item}
use Rattle.im_stanza.specs.declared.errors.StanzaError.{StanzaError}
use Rattle.xml_trees.specs.Trees.{Nodes}
use Rattle.xml_writer.specs.Items.{ItemOut}

-- a stanza to the session with this number, or the switch of its copies
abbrev pub IsOf : {A : Type 0} → ℕ → Act A → Type 0
IsOf n (Send to a) = to ≡ n
IsOf n (Copy of on) = of ≡ n
IsOf n act = ⊥

-- a result, or an error (section 8.3), that is addressed so
pub data IsAnswer (envelope : EnvelopeView) (item : ItemOut) : Type 0 where
  a_result : (payload : Nodes) → item ≡ result_item envelope payload → IsAnswer envelope item
  an_error : (e : StanzaError) → item ≡ iq_error_item envelope e → IsAnswer envelope item

-- the last act is an answer to the session with this number
pub record IsAnswered {A : Type 0} (say : ItemOut → A) (n : ℕ) (envelope : EnvelopeView) (acts : List (Act A)) : Type 0 where
  pub front : List (Act A)
  pub item : ItemOut
  pub last : acts ≡ front ++ Send n (say item) ∷ []
  pub answers : IsAnswer envelope item
