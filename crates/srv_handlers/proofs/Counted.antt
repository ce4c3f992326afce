-- A stanza counts first, or as well behind what goes to archives.
use Rattle.std.proofs.Common.{◌≡◌, ℕ, List, [], ◌∷◌, Option, Some, None, refl, ap, inl, inr, ◌∙◌}
use Rattle.std.proofs.lemmas.Bool.{cases_Bool}
use Rattle.mam_archive.specs.Entries.{EntryView}
use Rattle.srv_state.specs.Handling.{counting}
use Rattle.srv_state.specs.State.{Kept, ServerState, Step, Took, archive_at, with_sessions}
use Rattle.srv_state.specs.Steps.{Act, Archive, Handle, Tell, act, acted, archived_in}
use Rattle.sm_live.specs.Sessions.{Session, handles, with_session}
use Rattle.sm_live.specs.declared.told.SessionInfo.{SessionInfo}
use Rattle.srv_handlers.specs.Parts.{after_out}
use Rattle.xml_writer.specs.Items.{ItemOut}

pub counts_first : {A : Type 0} (say : ItemOut → A) (t : SessionInfo) (more : List (Act A)) (s : Step A) → acted say (counting t more) s ≡ acted say more (acted say (counting t []) s)
counts_first say t more s =
    elim (cases_Bool t.counted) [
      | inl counted ↦ rw counted refl
      | inr uncounted ↦ rw uncounted refl
    ]

-- sessions and archives are apart
entry_beside : {A : Type 0} (f : List (Session A) → List (Session A)) (e : EntryView) (account : ℕ) (o : Option Kept) (h : ServerState A)
    → archived_in e account o (with_sessions (f h.sessions) h) ≡ with_sessions (f (archived_in e account o h).sessions) (archived_in e account o h)
entry_beside f e account None h = refl
entry_beside f e account (Some kept) h = refl

handled_after : {A : Type 0} (say : ItemOut → A) (n account : ℕ) (e : EntryView) (s : Step A) → act say (Archive account e) (act say (Handle n) s) ≡ act say (Handle n) (act say (Archive account e) s)
handled_after {A = A} say n account e s =
    ap (λ (h : ServerState A). record { server_state = h; outs = s.outs }) (entry_beside (with_session n handles) e account (archive_at account s.server_state) s.server_state)

counts_after : {A : Type 0} (say : ItemOut → A) (t : SessionInfo) (account : ℕ) (e : EntryView) (s : Step A)
    → act say (Archive account e) (acted say (counting t []) s) ≡ acted say (counting t []) (act say (Archive account e) s)
counts_after say t account e s =
    elim (cases_Bool t.counted) [
      | inl counted ↦ rw counted (handled_after say t.number account e s)
      | inr uncounted ↦ rw uncounted refl
    ]

pub counts_after_one : {A : Type 0} (say : ItemOut → A) (t : SessionInfo) (account : ℕ) (e : EntryView) (from to origin : List ℕ) (more : List (Act A)) (s : Step A)
    → acted say (counting t (Archive account e ∷ Tell from to origin ∷ more)) s ≡ acted say more (after_out (Took from to origin) (acted say (counting t []) (act say (Archive account e) s)))
counts_after_one {A = A} say t account e from to origin more s =
    counts_first say t (Archive account e ∷ Tell from to origin ∷ more) s
    ∙ ap (λ (u : Step A). acted say more (after_out (Took from to origin) u)) (counts_after say t account e s)

pub counts_after_two : {A : Type 0} (say : ItemOut → A) (t : SessionInfo) (account other : ℕ) (e : EntryView) (from to origin : List ℕ) (more : List (Act A)) (s : Step A)
    → acted say (counting t (Archive account e ∷ Archive other e ∷ Tell from to origin ∷ more)) s
    ≡ acted say more (after_out (Took from to origin) (acted say (counting t []) (act say (Archive other e) (act say (Archive account e) s))))
counts_after_two {A = A} say t account other e from to origin more s =
    counts_first say t (Archive account e ∷ Archive other e ∷ Tell from to origin ∷ more) s
    ∙ ap (λ (u : Step A). acted say more (after_out (Took from to origin) (act say (Archive other e) u))) (counts_after say t account e s)
    ∙ ap (λ (u : Step A). acted say more (after_out (Took from to origin) u)) (counts_after say t other e (act say (Archive account e) s))
