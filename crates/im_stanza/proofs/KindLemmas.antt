-- A kind is read exactly from its spelling.
use Rattle.std.proofs.Common.{◌≡◌, ◌≢◌, ℕ, Bool, true, false, cond, List, Option, Some, None, refl, sym, ◌∙◌, ap, subst, ◌⊎◌, inl, inr, codes, Decides}
use Rattle.std.specs.Str.{bytes_eq}
use Rattle.std.proofs.lemmas.Bool.{cases_Bool}
use Rattle.std.proofs.lemmas.Slice.Eq.{bytes_eq-Decides}
use Rattle.im_stanza.specs.Errors.{error_type, error_kind, error_kind_named, IsErrorKind}
use Rattle.im_stanza.specs.Kinds.{IsKindOf, message_type, message_kind, message_kind_named, IsMessageKind, presence_kind, IsPresenceKind, iq_type, iq_kind, iq_kind_named}
use Rattle.im_stanza.specs.declared.errors.ErrorKind.{ErrorKind}
use Rattle.im_stanza.specs.declared.errors.ErrorKind.TheVariants as error
use Rattle.im_stanza.specs.declared.kinds.MessageKind.{MessageKind}
use Rattle.im_stanza.specs.declared.kinds.MessageKind.TheVariants.{Chat, Normal, Headline, Groupchat, Error}
use Rattle.im_stanza.specs.declared.kinds.PresenceKind.{PresenceKind}
use Rattle.im_stanza.specs.declared.kinds.PresenceKind.TheVariants as presence
use Rattle.im_stanza.specs.declared.kinds.IqKind.{IqKind}
use Rattle.im_stanza.specs.declared.kinds.IqKind.TheVariants as iq

pub same_bytes : (xs ys : List ℕ) → bytes_eq xs ys ≡ true → xs ≡ ys
same_bytes xs ys = (bytes_eq-Decides xs ys).0

pub equal_bytes : (xs ys : List ℕ) → xs ≡ ys → bytes_eq xs ys ≡ true
equal_bytes xs ys = (bytes_eq-Decides xs ys).1

pub tell_apart : (xs ys : List ℕ) → (xs ≡ ys) ⊎ (xs ≢ ys)
tell_apart xs ys =
    elim (cases_Bool (bytes_eq xs ys)) [
      | inl e ↦ inl (same_bytes xs ys e)
      | inr e ↦ inr (λ p. let q = equal_bytes xs ys p in cc)
    ]

-- what a chain of tests reads of a name: a kind that it spells, or the one for all else
pub record Reads {K : Type 0} (spelling : K → List ℕ) (else_kind : K) (named : List ℕ → K) : Type 0 where
  pub again : (k : K) → named (spelling k) ≡ k
  pub sound : (name : List ℕ) → (name ≡ spelling (named name)) ⊎ (named name ≡ else_kind)

sound_if : {K : Type 0} (spelling : K → List ℕ) (else_kind : K) (name : List ℕ) (k more : K) → (name ≡ spelling more) ⊎ (more ≡ else_kind)
    → (name ≡ spelling (cond (bytes_eq name (spelling k)) k more)) ⊎ (cond (bytes_eq name (spelling k)) k more ≡ else_kind)
sound_if spelling else_kind name k more rest =
    elim (cases_Bool (bytes_eq name (spelling k))) as (λ _. (name ≡ spelling (cond (bytes_eq name (spelling k)) k more)) ⊎ (cond (bytes_eq name (spelling k)) k more ≡ else_kind)) [
      | inl e ↦ rw e (inl (same_bytes name (spelling k) e))
      | inr e ↦ rw e rest
    ]

-- the kind that is read is the one that a `type` tells, and no other is
pub kind_is : {K : Type 0} (spelling : K → List ℕ) (else_kind : K) (named : List ℕ → K) → Reads spelling else_kind named → (name : List ℕ) → IsKindOf spelling else_kind (Some name) (named name)
kind_is spelling else_kind named reads name = record {
  known = λ k e. let same : name ≡ spelling k = cc in ap named same ∙ reads.again k;
  unknown = λ none. elim (reads.sound name) [ inl e ↦ absurd (none (named name) (ap Some e)) | inr e ↦ e ];
}

-- a spelling tells its kind
pub spelled_is : {K : Type 0} (spelling : K → List ℕ) (else_kind : K) (named : List ℕ → K) → Reads spelling else_kind named → (k : K) → IsKindOf spelling else_kind (Some (spelling k)) k
spelled_is spelling else_kind named reads k =
    let P : _ → Type 0 = λ v. IsKindOf spelling else_kind (Some (spelling k)) v in
    subst P (reads.again k) (kind_is spelling else_kind named reads (spelling k))

pub no_kind_is : {K : Type 0} (spelling : K → List ℕ) (else_kind : K) → IsKindOf spelling else_kind None else_kind
no_kind_is spelling else_kind = record { known = λ k e. cc; unknown = λ _. refl }

pub kind_unique : {K : Type 0} (spelling : K → List ℕ) (else_kind : K) (named : List ℕ → K) → Reads spelling else_kind named → (name : List ℕ) (kind : K)
    → IsKindOf spelling else_kind (Some name) kind → kind ≡ named name
kind_unique spelling else_kind named reads name kind is =
    elim (tell_apart name (spelling (named name))) [
      | inl e ↦ is.known (named name) (ap Some e)
      | inr e ↦
          let none : (k : _) → Some name ≢ Some (spelling k) = λ k p. let same : name ≡ spelling k = cc in e (same ∙ ap spelling (sym (ap named same ∙ reads.again k))) in
          is.unknown none ∙ sym ((kind_is spelling else_kind named reads name).unknown none)
    ]

pub no_kind_unique : {K : Type 0} (spelling : K → List ℕ) (else_kind kind : K) → IsKindOf spelling else_kind None kind → kind ≡ else_kind
no_kind_unique spelling else_kind kind is = is.unknown (λ k e. cc)

message_again : (k : MessageKind) → message_kind_named (message_type k) ≡ k
message_again Chat = refl
message_again Normal = refl
message_again Headline = refl
message_again Groupchat = refl
message_again Error = refl

pub message_reads : Reads message_type Normal message_kind_named
message_reads = record {
  again = message_again;
  sound = λ name. sound_if message_type Normal name Chat _ (sound_if message_type Normal name Headline _ (sound_if message_type Normal name Groupchat _ (sound_if message_type Normal name Error _ (inr refl))));
}

pub message_kind_is : (given : Option (List ℕ)) → IsMessageKind given (message_kind given)
message_kind_is None = no_kind_is message_type Normal
message_kind_is (Some name) = kind_is message_type Normal message_kind_named message_reads name

pub message_kind_unique : (given : Option (List ℕ)) (kind : MessageKind) → IsMessageKind given kind → kind ≡ message_kind given
message_kind_unique None kind is = no_kind_unique message_type Normal kind is
message_kind_unique (Some name) kind is = kind_unique message_type Normal message_kind_named message_reads name kind is

error_again : (k : ErrorKind) → error_kind_named (error_type k) ≡ k
error_again error.Auth = refl
error_again error.Cancel = refl
error_again error.Continue = refl
error_again error.Modify = refl
error_again error.Wait = refl

pub error_reads : Reads error_type error.Cancel error_kind_named
error_reads = record {
  again = error_again;
  sound = λ name. sound_if error_type error.Cancel name error.Auth _ (sound_if error_type error.Cancel name error.Continue _ (sound_if error_type error.Cancel name error.Modify _ (sound_if error_type error.Cancel name error.Wait _ (inr refl))));
}

pub error_kind_is : (given : Option (List ℕ)) → IsErrorKind given (error_kind given)
error_kind_is None = no_kind_is error_type error.Cancel
error_kind_is (Some name) = kind_is error_type error.Cancel error_kind_named error_reads name

pub error_kind_unique : (given : Option (List ℕ)) (kind : ErrorKind) → IsErrorKind given kind → kind ≡ error_kind given
error_kind_unique None kind is = no_kind_unique error_type error.Cancel kind is
error_kind_unique (Some name) kind is = kind_unique error_type error.Cancel error_kind_named error_reads name kind is

unavailable_no_error : codes "unavailable" ≡ codes "error" → ⊥
unavailable_no_error p = let t : false ≡ true = equal_bytes (codes "unavailable") (codes "error") p in cc

presence_named_is : (name : List ℕ) (unavailable error : Bool) → Decides unavailable (name ≡ codes "unavailable") → Decides error (name ≡ codes "error")
    → IsPresenceKind (Some name) (cond unavailable presence.Unavailable (cond error presence.Error presence.Other))
presence_named_is name true error u e = record {
  available = λ p. cc;
  unavailable = λ _. refl;
  error = λ p. let same : name ≡ codes "error" = cc in absurd (unavailable_no_error (sym (u.0 refl) ∙ same));
  other = λ _ not _. absurd (not (ap Some (u.0 refl)));
}
presence_named_is name false true u e = record {
  available = λ p. cc;
  unavailable = λ p. let same : name ≡ codes "unavailable" = cc in let q = u.1 same in cc;
  error = λ _. refl;
  other = λ _ _ not. absurd (not (ap Some (e.0 refl)));
}
presence_named_is name false false u e = record {
  available = λ p. cc;
  unavailable = λ p. let same : name ≡ codes "unavailable" = cc in let q = u.1 same in cc;
  error = λ p. let same : name ≡ codes "error" = cc in let q = e.1 same in cc;
  other = λ _ _ _. refl;
}

pub presence_kind_is : (given : Option (List ℕ)) → IsPresenceKind given (presence_kind given)
presence_kind_is None = record { available = λ _. refl; unavailable = λ e. cc; error = λ e. cc; other = λ none _ _. absurd (none refl) }
presence_kind_is (Some name) =
    presence_named_is name (bytes_eq name (codes "unavailable")) (bytes_eq name (codes "error")) (bytes_eq-Decides name (codes "unavailable")) (bytes_eq-Decides name (codes "error"))

pub presence_kind_unique : (given : Option (List ℕ)) (kind : PresenceKind) → IsPresenceKind given kind → kind ≡ presence_kind given
presence_kind_unique None kind is = is.available refl
presence_kind_unique (Some name) kind is =
    elim (tell_apart name (codes "unavailable")) [
      | inl e ↦ is.unavailable (ap Some e) ∙ sym ((presence_kind_is (Some name)).unavailable (ap Some e))
      | inr e ↦ elim (tell_apart name (codes "error")) [
        | inl g ↦ is.error (ap Some g) ∙ sym ((presence_kind_is (Some name)).error (ap Some g))
        | inr g ↦
            let some : Some name ≢ None = λ p. cc in
            let present : Some name ≢ Some (codes "unavailable") = λ p. e cc in
            let bounded : Some name ≢ Some (codes "error") = λ p. g cc in
            is.other some present bounded ∙ sym ((presence_kind_is (Some name)).other some present bounded)
      ]
    ]

iq_again : (k : IqKind) → iq_kind_named (iq_type k) ≡ Some k
iq_again iq.Get = refl
iq_again iq.Set = refl
iq_again iq.Result = refl
iq_again iq.Error = refl

only_if : (name : List ℕ) (k j : IqKind) (more : Option IqKind) → (more ≡ Some j → name ≡ iq_type j) → cond (bytes_eq name (iq_type k)) (Some k) more ≡ Some j → name ≡ iq_type j
only_if name k j more rest is =
    elim (cases_Bool (bytes_eq name (iq_type k))) [
      | inl e ↦ let at = rw e at is in let same : k ≡ j = cc in same_bytes name (iq_type k) e ∙ ap iq_type same
      | inr e ↦ rest (rw e at is)
    ]

iq_sound : (name : List ℕ) (j : IqKind) → iq_kind_named name ≡ Some j → name ≡ iq_type j
iq_sound name j =
    only_if name iq.Get j _ (only_if name iq.Set j _ (only_if name iq.Result j _ (only_if name iq.Error j _ (λ e. cc))))

pub iq_kind_is : (given : Option (List ℕ)) (kind : IqKind) → iq_kind given ≡ Some kind → given ≡ Some (iq_type kind)
iq_kind_is None kind e = cc
iq_kind_is (Some name) kind e = ap Some (iq_sound name kind e)

pub iq_kind_read : (given : Option (List ℕ)) (kind : IqKind) → given ≡ Some (iq_type kind) → iq_kind given ≡ Some kind
iq_kind_read given kind e = ap iq_kind e ∙ iq_again kind
