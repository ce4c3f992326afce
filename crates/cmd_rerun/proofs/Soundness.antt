-- What is so of each connection of a server at any time.
use Rattle.std.proofs.Common.{◌≡◌, ℕ, true, List, [], ◌∷◌, Option, Some, None, refl, subst, sym, ◌∙◌, inl, inr}
use Rattle.std.proofs.lemmas.Bool.{cases_Bool}
use Rattle.std.specs.List.{AllByRecursion}
use Rattle.std.specs.Option.{option_map}
use Rattle.srv_state.specs.State.{Step, conn_at, is_number}
use Rattle.srv_state.specs.Steps.{Act, Acknowledge, Archive, Ask, Bind, Close, Copy, Enable, Enter, Fail, Handle, Present, Resume, Say, Send, Tell, act, acted}
use Rattle.srv_state.specs.Streams.{standing_of}
use Rattle.srv_state.specs.declared.connection.Connection.{Connection}
use Rattle.xml_framer.specs.declared.items.Item.{Item}
use Rattle.sm_live.specs.Sessions.{Session, after_resume, bound, session_resumed}
use Rattle.srv_core.specs.Table.{after_item, after_items, at_open}
use Rattle.srv_core.specs.Telling.{is_told}
use Rattle.cmd_rerun.proofs.Entries.{Absent, Sole, absent_found, same_is}
use Rattle.cmd_rerun.proofs.Rows.{Allowed, AreAllowed, Bounded, Enters, IsEntry, open_bounded}
use Rattle.cmd_rerun.proofs.Sessions.{IsAway, IsOne, NoneAt, OneAt, bound_none, bound_one, bound_same, resumed_none, resumed_one, resumed_same}
use Rattle.cmd_rerun.proofs.Steps.{Goes, MovesNone, acts_go}
use Rattle.xml_writer.specs.Items.{ItemOut}

-- The connection is there once at most, the sessions on it have one number, and there are none where it is not open. Where it
-- is told that it was shut it is not open.
pub record IsSound {A : Type 0} (k : ℕ) (s : Step A) : Type 0 where
  pub sole : Sole k s.server_state.conns
  pub lone : OneAt k s.server_state.sessions
  pub left : Absent k s.server_state.conns → NoneAt k s.server_state.sessions
  pub honest : is_told k s.outs ≡ true → Absent k s.server_state.conns

moves_none : {A : Type 0} (j : ℕ) (ss : List (Session A)) (a : Act A) → Allowed j ss a → MovesNone a
moves_none j ss (Say x a) h = tt
moves_none j ss (Close x) h = tt
moves_none j ss (Enter x phase) h = tt
moves_none j ss (Fail x left) h = tt
moves_none j ss (Bind account resource x) h = absurd h
moves_none j ss (Resume previd account n x) h = absurd h
moves_none j ss (Enable n resume) h = tt
moves_none j ss (Acknowledge n m) h = tt
moves_none j ss (Ask n on) h = tt
moves_none j ss (Handle n) h = tt
moves_none j ss (Present n available priority) h = tt
moves_none j ss (Copy n on) h = tt
moves_none j ss (Send n a) h = tt
moves_none j ss (Archive account e) h = tt
moves_none j ss (Tell from to origin) h = tt

move_none : {A : Type 0} (j : ℕ) (ss : List (Session A)) (acts : List (Act A)) → AreAllowed j ss acts → AllByRecursion MovesNone acts
move_none j ss [] all = tt
move_none j ss (a ∷ more) all = (moves_none j ss a all.0, move_none j ss more all.1)

module _ {A : Type 0} (k : ℕ) where
  pub goes_sound : (s u : Step A) → Goes k s u → IsSound k s → IsSound k u
  goes_sound s u goes sound = record {
    sole = goes.sole sound.sole;
    lone = (sound.lone.0, goes.each (IsOne k sound.lone.0) sound.lone.1);
    left = λ absent. elim (goes.back absent) [ inl before ↦ goes.each (IsAway k) (sound.left before) | inr none ↦ none ];
    honest = λ told. elim (goes.told sound.sole told) [ inl before ↦ goes.closed (sound.honest before) | inr now ↦ now ];
  }

  pub allowed_sound : (say : ItemOut → A) (j : ℕ) (ss : List (Session A)) (acts : List (Act A)) (s : Step A) → AreAllowed j ss acts → IsSound k s → IsSound k (acted say acts s)
  allowed_sound say j ss acts s all sound = goes_sound s (acted say acts s) (acts_go say k acts s (move_none j ss acts all)) sound

  -- ---- a session comes on connection j, which is open

  bind_sound : (say : ItemOut → A) (account : ℕ) (resource : List ℕ) (j : ℕ) (s : Step A) → ¬ (Absent j s.server_state.conns) → NoneAt j s.server_state.sessions → IsSound k s → IsSound k (act say (Bind account resource j) s)
  bind_sound say account resource j s there none sound = elim (cases_Bool (is_number k j)) [
    | inl same ↦
        let is = same_is k j same in
        record {
          sole = sound.sole;
          lone = subst (λ n. OneAt k (bound s.server_state.next account resource n s.server_state.sessions)) is (bound_one k s.server_state.next account resource s.server_state.sessions (subst (λ n. NoneAt n s.server_state.sessions) (sym is) none));
          left = λ absent. absurd (there (subst (λ n. Absent n s.server_state.conns) is absent));
          honest = sound.honest;
        }
    | inr apart ↦ record {
      sole = sound.sole;
      lone = bound_same k j apart s.server_state.next account resource s.server_state.sessions sound.lone;
      left = λ absent. bound_none k j apart s.server_state.next account resource s.server_state.sessions (sound.left absent);
      honest = sound.honest;
    }
  ]

  resume_sound : (say : ItemOut → A) (previd : List ℕ) (account h j : ℕ) (s : Step A) → ¬ (Absent j s.server_state.conns) → NoneAt j s.server_state.sessions → IsSound k s → IsSound k (act say (Resume previd account h j) s)
  resume_sound say previd account h j s there none sound = elim (cases_Bool (is_number k j)) [
    | inl same ↦
        let is = same_is k j same in
        let found = session_resumed previd account s.server_state.sessions in
        record {
          sole = sound.sole;
          lone = subst (λ n. OneAt k (after_resume h n found s.server_state.sessions)) is (resumed_one k h found s.server_state.sessions (subst (λ n. NoneAt n s.server_state.sessions) (sym is) none));
          left = λ absent. absurd (there (subst (λ n. Absent n s.server_state.conns) is absent));
          honest = sound.honest;
        }
    | inr apart ↦ record {
      sole = sound.sole;
      lone = resumed_same k j apart h (session_resumed previd account s.server_state.sessions) s.server_state.sessions sound.lone;
      left = λ absent. resumed_none k j apart h (session_resumed previd account s.server_state.sessions) s.server_state.sessions (sound.left absent);
      honest = sound.honest;
    }
  ]

  entry_sound : (say : ItemOut → A) (j : ℕ) (a : Act A) (s : Step A) → ¬ (Absent j s.server_state.conns) → IsEntry j s.server_state.sessions a → IsSound k s → IsSound k (act say a s)
  entry_sound say j (Say x a) s there h sound = absurd h
  entry_sound say j (Close x) s there h sound = absurd h
  entry_sound say j (Enter x phase) s there h sound = absurd h
  entry_sound say j (Fail x left) s there h sound = absurd h
  entry_sound say j (Bind account resource x) s there h sound =
      bind_sound say account resource x s (subst (λ n. ¬ (Absent n s.server_state.conns)) (sym h.0) there) (subst (λ n. NoneAt n s.server_state.sessions) (sym h.0) h.1) sound
  entry_sound say j (Resume previd account n x) s there h sound =
      resume_sound say previd account n x s (subst (λ n. ¬ (Absent n s.server_state.conns)) (sym h.0) there) (subst (λ n. NoneAt n s.server_state.sessions) (sym h.0) h.1) sound
  entry_sound say j (Enable n resume) s there h sound = absurd h
  entry_sound say j (Acknowledge n m) s there h sound = absurd h
  entry_sound say j (Ask n on) s there h sound = absurd h
  entry_sound say j (Handle n) s there h sound = absurd h
  entry_sound say j (Present n available priority) s there h sound = absurd h
  entry_sound say j (Copy n on) s there h sound = absurd h
  entry_sound say j (Send n a) s there h sound = absurd h
  entry_sound say j (Archive account e) s there h sound = absurd h
  entry_sound say j (Tell from to origin) s there h sound = absurd h

  entering_sound : (say : ItemOut → A) (j : ℕ) (acts : List (Act A)) (s : Step A) → ¬ (Absent j s.server_state.conns) → Enters j s.server_state.sessions acts → IsSound k s → IsSound k (acted say acts s)
  entering_sound say j [] s there enters sound = absurd enters
  entering_sound say j (a ∷ more) s there enters sound = allowed_sound say j s.server_state.sessions more (act say a s) enters.1 (entry_sound say j a s there enters.0 sound)

  bounded_sound : (say : ItemOut → A) (j : ℕ) (acts : List (Act A)) (s : Step A) → ¬ (Absent j s.server_state.conns) → Bounded j s.server_state.sessions acts → IsSound k s → IsSound k (acted say acts s)
  bounded_sound say j acts s there (inl all) sound = allowed_sound say j s.server_state.sessions acts s all sound
  bounded_sound say j acts s there (inr enters) sound = entering_sound say j acts s there enters sound

  -- ---- items

  item_by : (say : ItemOut → A) (j : ℕ) (i : Item) (s : Step A) (o : Option Connection) → conn_at j s.server_state ≡ o → IsSound k s
      → IsSound k (acted say (at_open say j i (option_map standing_of o) s.server_state) s)
  item_by say j i s None is sound = sound
  item_by say j i s (Some c) is sound =
      bounded_sound say j (at_open say j i (Some (standing_of c)) s.server_state) s (λ absent. some_none c (sym is ∙ absent_found j s.server_state.conns absent)) (open_bounded say j i (Some (standing_of c)) s.server_state) sound
    where
      is_there : Option Connection → Type 0
      is_there None = ⊥
      is_there (Some d) = Unit {0}

      some_none : (d : Connection) → Some d ≡ None → ⊥
      some_none d same = subst is_there same tt

  pub items_sound : (say : ItemOut → A) (j : ℕ) (items : List Item) (s : Step A) → IsSound k s → IsSound k (after_items say j items s)
  items_sound say j [] s sound = sound
  items_sound say j (i ∷ items) s sound = items_sound say j items (after_item say j i s) (item_by say j i s (conn_at j s.server_state) refl sound)
