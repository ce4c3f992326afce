-- What contracts see of stanzas: records with plain lists. A presence is seen as its own fields.
use Rattle.std.specs.Prelude.{◌≡◌, ℕ, zero, suc, List, Option, refl}
use Rattle.std.specs.Coded.{Coded, code_by, coded×, coded_ℕ, coded_option}
use Rattle.xml_trees.specs.Codes.{coded_bytes, nodes_code, nodes_code_inj}
use Rattle.xml_trees.specs.Trees.{Nodes}
use Rattle.im_stanza.specs.declared.kinds.MessageKind.{MessageKind}
use Rattle.im_stanza.specs.declared.kinds.MessageKind.TheVariants.{Chat, Normal, Headline, Groupchat, Error}
use Rattle.im_stanza.specs.declared.kinds.IqKind.{IqKind}
use Rattle.im_stanza.specs.declared.kinds.IqKind.TheVariants as iq

pub record MessageView : Type 0 where
  pub from : Option (List ℕ)
  pub to : Option (List ℕ)
  pub id : List ℕ
  pub kind : MessageKind
  pub lang : List ℕ
  pub payload : Nodes

pub record IqView : Type 0 where
  pub from : Option (List ℕ)
  pub to : Option (List ℕ)
  pub id : List ℕ
  pub kind : IqKind
  pub payload : Nodes

-- Codes, by which proofs tell such values apart.
abbrev pub message_kind_number : MessageKind → ℕ
message_kind_number Chat = 0
message_kind_number Normal = 1
message_kind_number Headline = 2
message_kind_number Groupchat = 3
message_kind_number Error = 4

abbrev pub numbered_message_kind : ℕ → MessageKind
numbered_message_kind zero = Chat
numbered_message_kind (suc zero) = Normal
numbered_message_kind (suc (suc zero)) = Headline
numbered_message_kind (suc (suc (suc zero))) = Groupchat
numbered_message_kind (suc (suc (suc (suc n)))) = Error

pub message_kind_again : (k : MessageKind) → numbered_message_kind (message_kind_number k) ≡ k
message_kind_again Chat = refl
message_kind_again Normal = refl
message_kind_again Headline = refl
message_kind_again Groupchat = refl
message_kind_again Error = refl

abbrev pub message_kind_coded : Coded MessageKind
message_kind_coded = code_by ℕ coded_ℕ message_kind_number numbered_message_kind message_kind_again

abbrev pub iq_kind_number : IqKind → ℕ
iq_kind_number iq.Get = 0
iq_kind_number iq.Set = 1
iq_kind_number iq.Result = 2
iq_kind_number iq.Error = 3

abbrev pub numbered_iq_kind : ℕ → IqKind
numbered_iq_kind zero = iq.Get
numbered_iq_kind (suc zero) = iq.Set
numbered_iq_kind (suc (suc zero)) = iq.Result
numbered_iq_kind (suc (suc (suc n))) = iq.Error

pub iq_kind_again : (k : IqKind) → numbered_iq_kind (iq_kind_number k) ≡ k
iq_kind_again iq.Get = refl
iq_kind_again iq.Set = refl
iq_kind_again iq.Result = refl
iq_kind_again iq.Error = refl

abbrev pub iq_kind_coded : Coded IqKind
iq_kind_coded = code_by ℕ coded_ℕ iq_kind_number numbered_iq_kind iq_kind_again

abbrev pub nodes_coded : Coded Nodes
nodes_coded = record { code = nodes_code; inj = nodes_code_inj }

abbrev pub message_coded : Coded MessageView
message_coded =
    code_by (Option (List ℕ) × (Option (List ℕ) × (List ℕ × (MessageKind × (List ℕ × Nodes)))))
    (coded× (coded_option coded_bytes) (coded× (coded_option coded_bytes) (coded× coded_bytes (coded× message_kind_coded (coded× coded_bytes nodes_coded)))))
    (λ m. (m.from, (m.to, (m.id, (m.kind, (m.lang, m.payload))))))
    (λ p. record { from = p.0; to = p.1.0; id = p.1.1.0; kind = p.1.1.1.0; lang = p.1.1.1.1.0; payload = p.1.1.1.1.1 }) (λ _. refl)

abbrev pub iq_coded : Coded IqView
iq_coded =
    code_by (Option (List ℕ) × (Option (List ℕ) × (List ℕ × (IqKind × Nodes))))
    (coded× (coded_option coded_bytes) (coded× (coded_option coded_bytes) (coded× coded_bytes (coded× iq_kind_coded nodes_coded))))
    (λ q. (q.from, (q.to, (q.id, (q.kind, q.payload)))))
    (λ p. record { from = p.0; to = p.1.0; id = p.1.1.0; kind = p.1.1.1.0; payload = p.1.1.1.1 }) (λ _. refl)
