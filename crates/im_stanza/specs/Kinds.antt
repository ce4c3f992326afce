-- The types of stanzas and their spellings.
use Rattle.std.specs.Prelude.{◌≡◌, ◌≢◌, ℕ, Bool, true, false, List, Option, Some, None, codes, if◌then◌else◌}
use Rattle.std.specs.Str.{bytes_eq}
use Rattle.im_stanza.specs.declared.kinds.MessageKind.{MessageKind}
use Rattle.im_stanza.specs.declared.kinds.MessageKind.TheVariants.{Chat, Normal, Headline, Groupchat, Error}
use Rattle.im_stanza.specs.declared.kinds.PresenceKind.{PresenceKind}
use Rattle.im_stanza.specs.declared.kinds.PresenceKind.TheVariants as presence
use Rattle.im_stanza.specs.declared.kinds.IqKind.{IqKind}
use Rattle.im_stanza.specs.declared.kinds.IqKind.TheVariants as iq

-- What a `type` tells where each kind has a spelling and one kind is for all else: the kind that it spells, and that one
-- where it is absent or spells none.
pub record IsKindOf {K : Type 0} (spelling : K → List ℕ) (else_kind : K) (type_given : Option (List ℕ)) (kind : K) : Type 0 where
  pub known : (k : K) → type_given ≡ Some (spelling k) → kind ≡ k
  pub unknown : ((k : K) → type_given ≢ Some (spelling k)) → kind ≡ else_kind

-- the `type` of a message (RFC 6121 section 5.2.2)
abbrev pub message_type : MessageKind → List ℕ
message_type Chat = codes "chat"
message_type Normal = codes "normal"
message_type Headline = codes "headline"
message_type Groupchat = codes "groupchat"
message_type Error = codes "error"

-- a message whose `type` is absent or unknown is normal
abbrev pub IsMessageKind : Option (List ℕ) → MessageKind → Type 0
IsMessageKind = IsKindOf message_type Normal

abbrev pub message_kind_named : List ℕ → MessageKind
message_kind_named name =
    if bytes_eq name (codes "chat") then Chat
    else (if bytes_eq name (codes "headline") then Headline
    else (if bytes_eq name (codes "groupchat") then Groupchat
    else (if bytes_eq name (codes "error") then Error
    else Normal)))

-- the kind of a message with this `type`
abbrev pub message_kind : Option (List ℕ) → MessageKind
message_kind None = Normal
message_kind (Some name) = message_kind_named name

-- whether a message of this kind may be answered with an error (RFC 6120 section 8.3.1)
abbrev pub answers_message : MessageKind → Bool
answers_message Error = false
answers_message _ = true

-- Without a `type` a presence tells that its sender is available (RFC 6121 section 4.7.1).
pub record IsPresenceKind (type_given : Option (List ℕ)) (kind : PresenceKind) : Type 0 where
  pub available : type_given ≡ None → kind ≡ presence.Available
  pub unavailable : type_given ≡ Some (codes "unavailable") → kind ≡ presence.Unavailable
  pub error : type_given ≡ Some (codes "error") → kind ≡ presence.Error
  pub other : type_given ≢ None → type_given ≢ Some (codes "unavailable") → type_given ≢ Some (codes "error") → kind ≡ presence.Other

abbrev pub presence_kind_named : List ℕ → PresenceKind
presence_kind_named name =
    if bytes_eq name (codes "unavailable") then presence.Unavailable
    else (if bytes_eq name (codes "error") then presence.Error
    else presence.Other)

-- the kind of a presence with this `type`
abbrev pub presence_kind : Option (List ℕ) → PresenceKind
presence_kind None = presence.Available
presence_kind (Some name) = presence_kind_named name

-- The `type` that a presence is written with. `Other` stands for any other type, and is written as one that changes
-- nothing with its reader.
abbrev pub presence_type : PresenceKind → Option (List ℕ)
presence_type presence.Available = None
presence_type presence.Unavailable = Some (codes "unavailable")
presence_type presence.Error = Some (codes "error")
presence_type presence.Other = Some (codes "probe")

-- the `type` of an `iq` (RFC 6120 section 8.2.3)
abbrev pub iq_type : IqKind → List ℕ
iq_type iq.Get = codes "get"
iq_type iq.Set = codes "set"
iq_type iq.Result = codes "result"
iq_type iq.Error = codes "error"

abbrev pub iq_kind_named : List ℕ → Option IqKind
iq_kind_named name =
    if bytes_eq name (codes "get") then Some iq.Get
    else (if bytes_eq name (codes "set") then Some iq.Set
    else (if bytes_eq name (codes "result") then Some iq.Result
    else (if bytes_eq name (codes "error") then Some iq.Error
    else None)))

-- the kind of an `iq` with this `type`, which has to be one of the four
abbrev pub iq_kind : Option (List ℕ) → Option IqKind
iq_kind None = None
iq_kind (Some name) = iq_kind_named name

-- whether an `iq` of this kind has to be answered (RFC 6120 section 8.2.3)
abbrev pub answers_iq : IqKind → Bool
answers_iq iq.Get = true
answers_iq iq.Set = true
answers_iq iq.Result = false
answers_iq iq.Error = false
